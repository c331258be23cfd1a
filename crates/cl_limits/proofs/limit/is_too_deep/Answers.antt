use Rattle.std.proofs.Common.{◌≡◌, List, ℕ, min, slice_index, sym, ap, ◌∙◌, arith}
use Rattle.cl_tree.specs.declared.tree.Tree.{Tree}
use Rattle.cl_tree.specs.Syntax.{Syntax, view, views}
use Rattle.cl_limits.specs.Heights.{functions_among, functions_in, full_height}
use Rattle.cl_limits.proofs.Over.{above}
use Rattle.cl_limits.proofs.Onto.{functions_out_of}
use Rattle.cl_limits.proofs.limit.is_too_deep.Goals as goal

pub returns : goal.returns
returns c =
    let same : functions_among (views c.deref.result.now) ≡ functions_in (view c.args.unit.now) =
    ap (λ (ts : List Tree). functions_among (views ts)) c.deref.ensures.value ∙
    sym (functions_out_of c.args.unit.now) in
    above 17 (full_height (functions_in (view c.args.unit.now)) c.args.kernel) c.value_at.result 18 (omega arith)
    (c.value_at.ensures ∙ (ap (λ (xs : List ℕ). slice_index xs c.args.kernel) c.deref-2.ensures.value ∙
    (c.in_ok-heights.ensures.each c.args.kernel ∙
    ap (λ (fs : List Syntax). min (full_height fs c.args.kernel) 18) same)))
