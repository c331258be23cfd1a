use Rattle.std.proofs.Common.{ap, ◌∙◌, sym, map, arith}
use Rattle.std.proofs.lemmas.List.{length-map}
use Rattle.cl_model.specs.View.{function_of}
use Rattle.ctx_plan.specs.Sharing.{bodies_after}
use Rattle.ctx_plan.proofs.Held.{holding_found}
use Rattle.ctx_plan.proofs.holding.functions_hold.Goals as goal

pub returns-then-same_entries : goal.returns-then-same_entries
returns-then-same_entries c =
    let fs = map function_of c.args.functions.now in
    let lt = c.loop-depth-test.true in
    let n = length-map c.args.functions.now function_of in
    holding_found fs c.loop-depth._depth c.loop-depth.inside.items c.in_ok-next.next.items (omega (arith, lt, n))
    c.loop-depth.invariant
    (c.in_ok-next.ensures ∙ ap (λ v. bodies_after v fs) c.deref.ensures.value)
    (sym c.deref-in-loop-depth.ensures.value ∙ (c.same_entries.ensures c.if-same_entries.true ∙
    c.deref-in-loop-depth-2.ensures.value))
