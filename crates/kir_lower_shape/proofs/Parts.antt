-- A lowered kernel has the parameters, tables and sites of its program.
use Rattle.std.proofs.Common.{List, refl}
use Rattle.cl_model.specs.Tree.{Program}
use Rattle.kir.specs.Lowering.{Named, HasParts}
use Rattle.kir_lower.specs.Whole.{lowered_of}

-- parameters, constant tables and places of sites are the program's
pub has_parts : (program : Program) (names : List (List Named)) → HasParts program (lowered_of program names)
unfolding lowered_of
has_parts program names = record { parameters = refl; tables = refl; sites = refl }
