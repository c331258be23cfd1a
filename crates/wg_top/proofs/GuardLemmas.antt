-- Whether the codes of a sequence have few registers, read at the items of its `Vec`.
use Rattle.std.proofs.Common.{◌≡◌, ℕ, ◌&&◌, refl, ap, ◌∙◌, Global}
use Rattle.std.specs.declared.vec.Vec.{Vec}
use mathlib.Core.Former.{Count}
use Rattle.lane_code.specs.declared.code.Node.{Node, Row_of-Node, end_of-Node, more_of-Node, items-the_row-Node}
use Rattle.lane_code.specs.declared.code.Node.{items_hidden-the_row-Node-0}
use Rattle.lane_code.specs.declared.code.Node.TheVariants.{Seq, Seq'}
use Rattle.lane_code.specs.Program.{work_of, works_of}
use Rattle.wg_top.specs.Guard.{has_few_in, have_few_in, have_few}

works_few : (most : ℕ) (n : _) (k : Row_of-Node n) → have_few_in most (works_of k) ≡
    have_few most (items-the_row-Node n k)
works_few most _ end_of-Node = refl
works_few most _ (more_of-Node one rest) = ap (λ t. has_few_in most (work_of one) && t) (works_few most _ rest)

abbrev row_of : Node → (n : Count) × Row_of-Node n
row_of (Seq' _ row) = (_, row)
row_of _ = (_, end_of-Node)

seq_few : (most : ℕ) (nodes : Vec Node Global) → has_few_in most (work_of (Seq nodes)) ≡ have_few most nodes.items
seq_few most nodes =
    let row = row_of (Seq nodes) in
    works_few most row.0 row.1 ∙ ap (have_few most) (items_hidden-the_row-Node-0 nodes)

pub node_seq_few : (most : ℕ) (node : Node) (nodes : Vec Node Global) → node ≡ Seq nodes →
    has_few_in most (work_of node) ≡ have_few most nodes.items
node_seq_few most node nodes e = ap (λ n. has_few_in most (work_of n)) e ∙ seq_few most nodes
