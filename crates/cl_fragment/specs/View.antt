-- What a contract sees of a piece.
use Rattle.std.specs.Prelude.{List, map, option_map}
use Rattle.wg_num.specs.declared.types.Place.{Place}
use Rattle.cl_model.specs.declared.program.Target as rust_target
use Rattle.cl_model.specs.declared.program.Target.TheVariants as rust_targets
use Rattle.cl_model.specs.View.{expression_of, statement_of, listed_statements}
use Rattle.cl_fragment.specs.declared.fragment.What as rust_what
use Rattle.cl_fragment.specs.declared.fragment.What.TheVariants as rust
use Rattle.cl_fragment.specs.declared.fragment.Piece as rust_piece
use Rattle.cl_meaning.specs.Typed.{Function, Target, variable, element, What, nothing, value, target, offset}
use Rattle.cl_meaning.specs.Typed.{values, barrier, fence, lines, statement, labelled, function, functions, Piece}
use Rattle.cl_meaning.specs.Typed.{Built}
use Rattle.cl_meaning.specs.View.{function_of}

abbrev pub target_of : rust_target.Target → Target
target_of (rust_targets.Var x) = variable x
target_of (rust_targets.Element' site of root p i) = element site of root (expression_of i)

abbrev pub what_of : rust_what.What → What
what_of rust.Nothing = nothing
what_of (rust.Value e) = value (expression_of e.value)
what_of (rust.Target t) = target (target_of t)
what_of (rust.Offset o) = offset (option_map (λ b. expression_of b.value) o)
what_of (rust.Values es) = values (map expression_of es.items)
what_of (rust.Barrier site) = barrier site
what_of rust.Fence = fence
what_of (rust.Lines l) = lines (listed_statements l.items)
what_of (rust.Statement s) = statement (statement_of s.value)
what_of (rust.Labelled ls other s) = labelled ls.items other (statement_of s.value)
what_of (rust.Function g) = function (function_of g)
what_of (rust.Functions gs) = functions (map function_of gs.items)

abbrev pub piece_of : rust_piece.Piece → Piece
piece_of p = record { kind = p.kind; what = what_of p.what }

-- what a node is made into
abbrev pub built_of : rust_what.What → List Place → Built
built_of w sites = record { what = what_of w; sites = sites }
