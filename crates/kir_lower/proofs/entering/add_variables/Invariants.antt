use Rattle.std.proofs.Common.{◌≡◌, ◌++◌, length, map}
use Rattle.kir.specs.Listed.{cell_of}
use Rattle.kir_lower.specs.Made.{variable_cells}
use Rattle.kir_lower.specs.View.{names_listed}
use Rattle.kir_lower.proofs.entering.add_variables.Given as goal

abbrev pub invariant-loop-declared : goal.invariant-loop-declared
invariant-loop-declared l =
    (l.made.arrays ≡ l.fn.made.arrays)
    × (map cell_of l.fn.made.cells.items ++ variable_cells l.calls l.places l.function 0 (names_listed l.vars)
    (map (λ v. v.kind) l.vars)
    ≡ map cell_of l.made.cells.items ++ variable_cells l.calls l.places l.function l.var (names_listed l.rest)
    (map (λ v. v.kind) l.rest))

abbrev pub decreases-loop-declared : goal.decreases-loop-declared
decreases-loop-declared l = length l.rest
