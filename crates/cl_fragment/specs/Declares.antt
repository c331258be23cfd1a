-- What declarators do, by what is known where they stand.
use Rattle.std.specs.Prelude.{ℕ, nat_eq, Bool, true, false, List, Option, None, Some, if◌then◌else◌}
use Rattle.wg_num.specs.declared.types.IntType.{IntType}
use Rattle.wg_num.specs.declared.types.Place.{Place}
use Rattle.cl_model.specs.declared.program.Space.{Space}
use Rattle.cl_model.specs.declared.program.Space.TheVariants as spaces
use Rattle.cl_model.specs.Tree as tree
use Rattle.cl_model.specs.Tree.{Expression, empty}
use Rattle.cl_meaning.specs.declared.types.Declared.{Declared}
use Rattle.cl_meaning.specs.Typed.{What, nothing, lines, Piece, Built}
use Rattle.cl_meaning.specs.Expressions.{made, sited, read, operand, expressions}
use Rattle.cl_meaning.specs.Statements.{alone, last_piece, set_value, list_values}
use Rattle.cl_fragment.specs.declared.declarators.Declaring as rust

-- the piece of the initial value, which is the last part
abbrev pub initial_in : Bool → List Piece → Option Piece
initial_in true ps = last_piece ps
initial_in false ps = None

abbrev pub variable_line : ℕ → Option Expression → What
variable_line n v = lines (alone (tree.Declare n v))

-- a scalar is a variable where it is the item's own
abbrev pub kept_line : Space → ℕ → Option Expression → What
kept_line spaces.Private n v = variable_line n v
kept_line s n v = lines empty

unfoldable pub scalar_what : Space → ℕ → IntType → Option Piece → What
scalar_what s n t p = kept_line s n (set_value (operand t) p)

abbrev pub array_built : Place → List Place → Space → ℕ → Option Piece → Built
array_built place sites spaces.Private n p =
    sited place sites (λ site. lines (alone (tree.Fill site n (expressions (list_values p)))))
array_built place sites s n p = made (lines empty) sites

abbrev pub value_built : Place → List Place → rust.Declaring → IntType → Option Piece → Built
value_built place sites d t p =
    if nat_eq d.dimensions 0 then made (scalar_what d.kept d.variables t p) sites else array_built place sites d.kept
    d.arrays p

abbrev pub declared_built : Place → List Place → rust.Declaring → Option Declared → List Piece → Built
declared_built place sites d None ps = made nothing sites
declared_built place sites d (Some of) ps =
    if d.star
    then made (variable_line d.variables (set_value (λ p. read p.what) (initial_in d.initialized ps))) sites
    else value_built place sites d of.of (initial_in d.initialized ps)
