use Rattle.std.proofs.Common.{◌≡◌, drop}
use Rattle.cl_meaning.specs.Faults.{is_among}
use Rattle.cl_faults.proofs.labels.is_among.Given as goal

abbrev pub invariant-loop-other : goal.invariant-loop-other
invariant-loop-other l = is_among l.value (drop l.other-index l.values) ≡ is_among l.value l.values
