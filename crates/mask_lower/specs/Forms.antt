-- Which lines a function of the masked code is for.
use Rattle.std.specs.Prelude.{List, [], ◌∷◌}
use Rattle.std.specs.Prelude.{Bool as Test, true, false}
use Rattle.kir.specs.declared.line.Line.{Line}
use Rattle.kir.specs.declared.line.Line.TheVariants as line

-- an `if`
abbrev pub is_if : Line → Test
is_if (line.If' site test m chosen n other) = true
is_if _ = false

-- a loop
abbrev pub is_loop : Line → Test
is_loop (line.Loop' site test_first m test answer n body) = true
is_loop _ = false

-- lines that are one loop
abbrev pub is_one_loop : List Line → Test
is_one_loop (line.Loop' site test_first m test answer n body ∷ []) = true
is_one_loop _ = false
