-- The parts of a `for` and what it stands for.
use Rattle.std.specs.Prelude.{Bool, List, [], ◌∷◌, Option, None, Some, option_map, if◌then◌else◌, true}
use Rattle.wg_num.specs.declared.types.Place.{Place}
use Rattle.cl_model.specs.Tree as tree
use Rattle.cl_model.specs.Tree.{Expression}
use Rattle.cl_model.specs.View.{expression_of}
use Rattle.cl_meaning.specs.Typed.{What, nothing, statement, Piece, Built}
use Rattle.cl_meaning.specs.Expressions.{made, sited, read}
use Rattle.cl_meaning.specs.Statements.{alone, followed, lines_of, body_of}
use Rattle.cl_fragment.specs.declared.statements.Heads as rust
use Rattle.cl_fragment.specs.View.{what_of}

pub record Heads : Type 0 where
  pub start : What
  pub test : Option Expression
  pub step : Option Expression
  pub inside : What

abbrev pub heads_of : rust.Heads → Heads
heads_of h = record {
  start = what_of h.start;
  test = option_map expression_of h.test;
  step = option_map expression_of h.step;
  inside = what_of h.inside;
}

-- with one expression it is the test, or the step
abbrev pub with_one : Bool → What → Expression → What → Heads
with_one tested i e a = if tested then record {
  start = i;
  test = Some e;
  step = None;
  inside = a;
} else record { start = i; test = None; step = Some e; inside = a }

abbrev pub heads_in : Bool → List Piece → Option Heads
heads_in tested (i ∷ a ∷ []) = Some (record { start = i.what; test = None; step = None; inside = a.what })
heads_in tested (i ∷ e ∷ a ∷ []) = Some (with_one tested i.what (read e.what) a.what)
heads_in tested (i ∷ c ∷ e ∷ a ∷ []) =
    Some (record { start = i.what; test = Some (read c.what); step = Some (read e.what); inside = a.what })
heads_in tested ps = None

abbrev pub for_by : Place → List Place → Heads → Built
for_by place sites h = sited place sites
    (λ site. statement (tree.Block
    (followed (lines_of h.start) (alone (tree.Loop site true h.test h.step (body_of h.inside))))))

abbrev pub loop_by : Place → List Place → Option Heads → Built
loop_by place sites None = made nothing sites
loop_by place sites (Some h) = for_by place sites h
