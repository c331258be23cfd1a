use Rattle.std.proofs.Common.{inl}
use Rattle.wg_top.proofs.programs.refused.Goals as goal

pub returns-in-Refused-clause-source : goal.returns-in-Refused-clause-source
returns-in-Refused-clause-source c = λ bytes text stands. inl (rw c.in-Refused.is at stands)
