use Rattle.std.proofs.Common.{◌∙◌, sym}
use Rattle.std.proofs.lemmas.Nat.{one_shl}
use Rattle.lane_kernels.proofs.lanes64.exponent_of.Goals as goal

pub returns-then-k-d : goal.returns-then-k-d
returns-then-k-d c = (sym (one_shl _ 64 c.if-k-lt64.true) ∙ c.if-k-d.true, c.if-k-lt64.true)
