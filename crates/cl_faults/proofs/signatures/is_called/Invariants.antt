use Rattle.std.proofs.Common.{◌≡◌, drop}
use Rattle.cl_meaning.specs.Faults.{is_called}
use Rattle.cl_faults.proofs.signatures.is_called.Given as goal

abbrev pub invariant-loop-word : goal.invariant-loop-word
invariant-loop-word l = is_called (drop l.word-index l.missing) l.name ≡ is_called l.missing l.name
