use Rattle.std.proofs.Common.{◌≡◌, List, ℕ, Option, Some, sym, subst, ◌∙◌, arith}
use Rattle.std.specs.Prelude.{IfOk}
use Rattle.lane_code.specs.Program.{work_of, Work}
use Rattle.wg_object.specs.Nodes.{works_in}
use Rattle.wg_object.specs.Reading.{works_at, work_at}
use Rattle.wg_object.proofs.NodeLoops.{nodes_go_on, nodes_end, nodes_done}
use Rattle.wg_object.proofs.NodeSteps.{at_seq, at_vote, at_loop, at_items, seq_read}
use Rattle.wg_object.proofs.node_parts.+node.Goals as goal

pub nodes_at-returns-then-is_empty : goal.nodes_at-returns-then-is_empty
nodes_at-returns-then-is_empty t c =
    nodes_end (work_at c.args.depth) c.loop.nodes.items c.args.count c.loop.counter c.loop.rest.now
    (works_at (work_at c.args.depth) c.args.count c.args.bytes.now) c.loop-test.true
    (sym c.is_empty.ensures ∙ c.if-is_empty.true) c.loop.invariant

pub nodes_at-loop-preserved : goal.nodes_at-loop-preserved
nodes_at-loop-preserved t c =
    rw c.in_ok-push_node.ensures (nodes_go_on (work_at c.args.depth) c.loop.nodes.items c.args.count c.loop.counter
    c.loop.rest.now c.in_ok-node.after.now c.in_ok-node.node.value
    (works_at (work_at c.args.depth) c.args.count c.args.bytes.now) c.loop-test.true
    (sym c.is_empty.ensures ∙ c.if-is_empty.false) c.in_ok-node.ensures c.loop.invariant)

pub nodes_at-returns : goal.nodes_at-returns
nodes_at-returns t c =
    nodes_done (work_at c.args.depth) c.loop.nodes.items c.args.count c.loop.counter c.loop.rest.now
    (works_at (work_at c.args.depth) c.args.count c.args.bytes.now) c.loop-test.false c.loop.invariant

pub seq_at-returns : goal.seq_at-returns
seq_at-returns t c =
    seq_read (work_of c.in_ok-node.node.value) (works_in c.in_ok-nodes.nodes.items) (work_at c.args.depth)
    c.args.bytes.now c.eight_at-count.result.1.now c.in_ok-nodes.rest.now c.eight_at-count.result.0
    c.eight_at-count.ensures c.in_ok-nodes.ensures c.in_ok-node.ensures

pub node_at-returns-then-number-eq1 : goal.node_at-returns-then-number-eq1
node_at-returns-then-number-eq1 t c =
    let n = c.byte_at-number in
    let same = at_seq c.args.depth n.result.0 c.args.bytes.now n.result.1.now (omega arith) n.ensures
    c.if-number-eq1.true in
    subst (λ (o : Option (Work × List ℕ)). IfOk c.seq_at.result (λ x. Some (work_of x.0.value, x.1.now) ≡ o))
    (sym same) c.seq_at.ensures

pub node_at-returns-then-number-eq2 : goal.node_at-returns-then-number-eq2
node_at-returns-then-number-eq2 t c =
    let n = c.byte_at-number in
    let same = at_vote c.args.depth n.result.0 c.args.bytes.now n.result.1.now (omega arith) n.ensures
    c.if-number-eq2.true in
    subst (λ (o : Option (Work × List ℕ)). IfOk c.vote_at.result (λ x. Some (work_of x.0.value, x.1.now) ≡ o))
    (sym same) c.vote_at.ensures

pub node_at-returns-then-number-eq3 : goal.node_at-returns-then-number-eq3
node_at-returns-then-number-eq3 t c =
    let n = c.byte_at-number in
    let same = at_loop c.args.depth n.result.0 c.args.bytes.now n.result.1.now (omega arith) n.ensures
    c.if-number-eq3.true in
    subst (λ (o : Option (Work × List ℕ)). IfOk c.loop_at.result (λ x. Some (work_of x.0.value, x.1.now) ≡ o))
    (sym same) c.loop_at.ensures

pub node_at-returns : goal.node_at-returns
node_at-returns t c =
    let n = c.byte_at-number in
    let same = at_items c.args.depth n.result.0 c.args.bytes.now n.result.1.now (omega arith) n.ensures
    c.if-number-eq1.false c.if-number-eq2.false c.if-number-eq3.false in
    subst (λ (o : Option (Work × List ℕ)). IfOk c.items_at.result (λ x. Some (work_of x.0.value, x.1.now) ≡ o))
    (sym same) c.items_at.ensures
