-- Which lines a function over lines is for.
use Rattle.std.specs.Prelude.{Bool as Test, true, false}
use Rattle.kir.specs.declared.line.Line.{Line}
use Rattle.kir.specs.declared.line.Line.TheVariants as line

-- a line in which no lines stand
abbrev pub is_plain : Line → Test
is_plain (line.If' site test m chosen n other) = false
is_plain (line.Loop' site test_first m test answer n body) = false
is_plain _ = true
