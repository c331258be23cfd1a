use Rattle.std.proofs.Common.{◌≡◌, Some, drop}
use Rattle.cl_prep.specs.Start.{with_defines}
use Rattle.cl_prep.specs.Table.{names_of}
use Rattle.cl_prep.proofs.start.add_defines.Given as goal

abbrev pub invariant-loop-define : goal.invariant-loop-define
invariant-loop-define l = with_defines (Some (names_of l.names)) (drop l.define-index l.defines) ≡
    with_defines (Some (names_of l.fn.names)) l.defines
