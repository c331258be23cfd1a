-- The text of a plan: a line for each variable that is kept between regions, in the order in which declarations stand
-- in the inlined text.
use Rattle.std.specs.Prelude.{ℕ, suc, List, [], ◌∷◌, ◌++◌, Option, Some, None, slice_get, codes, decimal, nat_eq}
use Rattle.std.specs.Prelude.{◌&&◌, if◌then◌else◌}
use Rattle.std.specs.Prelude.{Bool as Test, false}
use Rattle.std.specs.List.{flat_map, join_by}
use lib.Pointwise.{pointwise}
use Rattle.wg_num.specs.declared.types.Place.{Place}
use Rattle.cl_model.specs.Tree.{Program}
use Rattle.kir.specs.Tree.{Variable, CellKind, OfVariable, OfFlag, OfValue, Cell, Kernel}
use Rattle.kir.specs.Inlined.{variables_of}
use Rattle.ctx_plan.specs.declared.plan.Home.{Home}
use Rattle.ctx_plan.specs.declared.plan.Home.TheVariants as home
use Rattle.ctx_plan.specs.Planned.{Planned}

-- a place: its line and its column
abbrev pub place_text : Place → List ℕ
place_text place = decimal place.line ++ (codes ":" ++ decimal place.column)

-- the line of a variable with this path and name, which is kept so
abbrev pub line_text : (word : List ℕ) → (path : List Place) → (name : List ℕ) → List ℕ
line_text word path name =
    word ++ (codes " " ++ (join_by place_text (codes "/") path ++ (codes " " ++ (name ++ codes "\n"))))

-- the line of a cell with a home: one value for the group, or one for each item
abbrev pub cell_line : Home → CellKind → List ℕ
cell_line (home.Once slot) (OfVariable v path name) = line_text (codes "once") path name
cell_line (home.Column column) (OfVariable v path name) = line_text (codes "item") path name
cell_line _ _ = []

-- where it has one
abbrev pub line_at : Option Home → CellKind → List ℕ
line_at None kind = []
line_at (Some h) kind = cell_line h kind

-- they are one variable
abbrev pub same_variable : Variable → Variable → Test
same_variable v w = nat_eq w.function v.function && (nat_eq w.number v.number && pointwise nat_eq w.calls v.calls)

-- the kind of cell is that of the variable
abbrev pub is_kind_of : Variable → CellKind → Test
is_kind_of v (OfVariable w path name) = same_variable v w
is_kind_of v OfFlag = false
is_kind_of v OfValue = false

-- the line of the variable, whose cell is one of these, the first of which has this number
abbrev pub line_among : List Home → Variable → ℕ → List Cell → List ℕ
line_among homes v n [] = []
line_among homes v n (c ∷ cells) =
    if is_kind_of v c.kind then line_at (slice_get homes n) c.kind else line_among homes v (suc n) cells

-- the lines of the variables
abbrev pub plan_lines_of : Program → Kernel → Planned → List ℕ
plan_lines_of program kernel plan = flat_map (λ v. line_among plan.homes v 0 kernel.cells) (variables_of program)
