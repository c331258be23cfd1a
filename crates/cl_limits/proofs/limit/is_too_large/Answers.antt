use Rattle.std.proofs.Common.{List, ℕ, map, slice_index, ap, ◌∙◌, arith}
use Rattle.cl_tree.specs.Syntax.{view}
use Rattle.cl_limits.specs.Kernel.{weights_of}
use Rattle.cl_meaning.specs.Calls.{call_of}
use Rattle.cl_limits.proofs.Over.{above_whole}
use Rattle.cl_limits.proofs.limit.is_too_large.Goals as goal

pub returns : goal.returns
returns c =
    above_whole 16384 16385 18446744073709551615 (weights_of (view c.args.unit.now)) c.deref.result.now
    (map call_of c.args.calls.now) c.args.kernel c.value_at.result (omega arith) (omega arith)
    (c.deref.ensures.value ∙ c.in_ok-own.ensures)
    (c.value_at.ensures ∙ (ap (λ (xs : List ℕ). slice_index xs c.args.kernel) c.deref-2.ensures.value ∙
    c.in_ok-weights.ensures.each c.args.kernel))
