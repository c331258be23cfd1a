use Rattle.std.proofs.Common.{List, ℕ, map, slice_index, ap, ◌∙◌, arith}
use Rattle.cl_limits.specs.Limits.{private_bytes}
use Rattle.cl_meaning.specs.Calls.{call_of}
use Rattle.cl_meaning.specs.View.{function_of}
use Rattle.cl_limits.proofs.Over.{above_whole}
use Rattle.cl_limits.proofs.limit.is_private_over.Goals as goal

pub returns : goal.returns
returns c =
    above_whole 16384 16385 18446744073709551615 (map private_bytes (map function_of c.args.functions.now))
    c.deref.result.now (map call_of c.args.calls.now) c.args.kernel c.value_at.result (omega arith) (omega arith)
    (c.deref.ensures.value ∙ c.in_ok-own.ensures)
    (c.value_at.ensures ∙ (ap (λ (xs : List ℕ). slice_index xs c.args.kernel) c.deref-2.ensures.value ∙
    c.in_ok-bytes.ensures.each c.args.kernel))
