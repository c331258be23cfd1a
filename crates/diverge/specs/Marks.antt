-- The plain view of the answer.
use Rattle.std.specs.Prelude.{◌≡◌, List, false, map, length}
use Rattle.std.specs.Prelude.{Bool as Test}
use Rattle.cl_model.specs.Tree.{Function, Program}
use Rattle.diverge.specs.declared.rounds.Varying.{Varying}
use Rattle.diverge.specs.Rounds.{known_of}

-- for each function, which of its variables vary
abbrev pub marks : Varying → List (List Test)
marks v = map (λ row. row.items) v.list.items

-- there is a list for each function, with an entry for each of its variables
abbrev pub FitsProgram : Program → List (List Test) → Type 0
FitsProgram program list = map length list ≡ map (λ (f : Function). length f.variables) program.functions

-- the last round added nothing
abbrev pub IsSettled : Program → Type 0
IsSettled program = (known_of program).grew ≡ false
