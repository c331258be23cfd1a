use Rattle.std.proofs.Common.{◌≡◌, drop}
use Rattle.wg_top.specs.Guard.{have_few}
use Rattle.wg_top.proofs.guard.+few.Given as goal

-- what is still to be looked at decides
abbrev pub invariant-have_few-loop-one : goal.invariant-have_few-loop-one
invariant-have_few-loop-one l = have_few l.most (drop l.one-index l.one-items) ≡
    have_few l.most l.one-items
