use Rattle.std.proofs.Common.{◌≡◌, ℕ, ◌+◌, get_or, drop}
use Rattle.kir.specs.Listed.{lines_of}
use Rattle.kir_simplify.specs.Reading.{sets_in, up_to_two}
use Rattle.kir_simplify.proofs.counting.+count.Given as goal

abbrev pub invariant-count_lines-loop-line : goal.invariant-count_lines-loop-line
invariant-count_lines-loop-line l =
    (c : ℕ) → up_to_two (sets_in c (lines_of (drop l.line-index l.lines)) + get_or l.sets.items c 0) ≡
    up_to_two (sets_in c (lines_of l.lines) + get_or l.fn.sets.items c 0)
