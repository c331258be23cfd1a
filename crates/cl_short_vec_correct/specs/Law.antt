-- The laws: what stands for a unit with vectors has the shape of units; statements that stand for the steps of a
-- vector statement do these steps, in every launch, on all buffers, in all histories, and a `return` or a barrier does
-- none; and what stands for each vector statement of a source stands in its function and does them.
use Rattle.std.specs.Prelude.{◌≡◌, ℕ, ◌<◌, ◌≤◌, pos, Bool, List, [], ◌∷◌, ◌++◌, None, Some, slice_get, true}
use Rattle.work_items.specs.Items.{Goes}
use Rattle.work_items.specs.Histories.{Deed}
use Rattle.wg_num.specs.declared.types.IntType.{IntType}
use Rattle.wg_num.specs.declared.types.IntType.TheVariants as types
use Rattle.wg_num.specs.declared.types.Bin.TheVariants as bins
use Rattle.wg_num.specs.declared.types.Place.{Place}
use Rattle.cl_token.specs.declared.token.Token.{Token}
use Rattle.cl_token.specs.Cuts.{Cuts}
use Rattle.cl_prep.specs.declared.prep.Define.{Define}
use Rattle.cl_prep.specs.Expands.{Expands}
use Rattle.cl_tree.specs.declared.tree.Form.TheVariants as forms
use Rattle.cl_tree.specs.Syntax.{Syntax}
use Rattle.cl_tree.specs.Grammar.{SpellsUnit}
use Rattle.cl_model.specs.declared.program.Root.{Root}
use Rattle.cl_model.specs.declared.program.Space.{Space}
use Rattle.cl_model.specs.Tree.{Expression, Program, Statements, Block, Return, Barrier, empty, also}
use Rattle.cl_model.specs.Sizes.{Launch}
use Rattle.cl_model.specs.Task.{Point, Task, Run, Item}
use Rattle.cl_model.specs.Steps.{item_next}
use Rattle.cl_meaning.specs.declared.kind.Reach.{Reach}
use Rattle.cl_meaning.specs.declared.kind.Kind.TheVariants as kinds
use Rattle.cl_meaning.specs.Environment.{Env}
use Rattle.cl_meaning.specs.Visible.{kind_of}
use Rattle.cl_meaning.specs.Typed.{value}
use Rattle.cl_meaning.specs.Declarations.{form_of, word_of}
use Rattle.cl_meaning.specs.Spelling.{prefix_in}
use Rattle.cl_meaning.specs.declared.operators.Prefix.TheVariants as prefixes
use Rattle.cl_meaning.specs.Expressions.{moved, way, operand, joined_by, literal}
use Rattle.cl_meaning.specs.Meant.{start_of, unit_meant, meant}
use Rattle.cl_limits.specs.Judged.{IsAccepted}
use Rattle.cl_check_sound.specs.Shape.{IsUnitOf, IsUnit, IsExpression}
use Rattle.cl_check_sound.specs.Erased.{program_of}
use Rattle.cl_check_sound.specs.Law.{DefinesFit}
use Rattle.cl_short_vec.specs.declared.types.Vector.{Vector}
use Rattle.cl_short_vec.specs.declared.kinds.Kind.{Kind}
use Rattle.cl_short_vec.specs.declared.kinds.Kind.TheVariants.{Pointer}
use Rattle.cl_short_vec.specs.Kinds.{no_names}
use Rattle.cl_short_vec.specs.Scalar.{scalar}
use Rattle.cl_short_vec.specs.Nodes.{scaled}
use Rattle.cl_short_vec.specs.Marks.{Mark, mark, marking, unmarked, kind_at, marked}
use Rattle.cl_short_vec.specs.Order.{Step}
use Rattle.cl_short_vec.specs.Faults.{refusal_of}
use Rattle.cl_short_vec.specs.Parts.{Assigned}
use Rattle.cl_short_vec.specs.Unit.{scalarised_of}
use Rattle.cl_short_vec_correct.specs.Values.{Leaves, Worth, Vec, worth_of, set_list}
use Rattle.cl_short_vec_correct.specs.Doing.{Got, nothing_got, Helps, HasDeclared, IsElement, DoSteps, Along}
use Rattle.cl_short_vec_correct.specs.Emits.{Emits}
use Rattle.cl_short_vec_correct.specs.Each.{EachIsDone}

-- A unit of the wide shape stands for a unit of the narrow one.
abbrev pub FormsShaped : Type 0
FormsShaped = (unit : Syntax) → IsUnitOf true unit → IsUnit (scalarised_of unit)

-- Statements of which each stands for one of the steps do these steps, by themselves and as one block, where the
-- function that they stand in has the variables that are declared there.
abbrev pub StepsDone : Type 0
StepsDone = (program : Program) (env later : Env) (steps : List Step) (result : Leaves → Worth) (ss : Statements) →
    HasDeclared program later → Emits env later (Helps env steps) result [] nothing_got steps ss →
    DoSteps program env later steps result ss × DoSteps program env later steps result (also (Block ss) empty)

-- An item that stands before a `return` that ends it, behind which more is left to do, does no steps so.
abbrev pub ReturnsRefused : Type 0
ReturnsRefused = (program : Program) (launch : Launch) (buffers : List (List ℕ)) (env later : Env)
    (all steps : List Step) (result : Leaves → Worth) (next : Task) (others : List Task) (got : Got)
    (at : Point) (site : ℕ) (from to : Item) (deeds : List Deed) →
    from.tasks ≡ Run at (Return site None) ∷ (next ∷ others) → item_next program launch from ≡ Goes to →
    to.tasks ≡ [] → Along program launch buffers env later (Helps env all) result (next ∷ others) steps got from deeds
    to → ⊥

-- An item that stands at a barrier of its own, behind which what stands for the statement may go on, does no steps so.
abbrev pub BarriersRefused : Type 0
BarriersRefused = (program : Program) (launch : Launch) (buffers : List (List ℕ)) (env later : Env)
    (all steps : List Step) (result : Leaves → Worth) (front rest : List Task) (got : Got) (at : Point) (site : ℕ)
    (from to : Item) (deeds : List Deed) → from.tasks ≡ Run at (Barrier site) ∷ (front ++ rest) →
    Along program launch buffers env later (Helps env all) result rest steps got from deeds to → ⊥

-- A number that counts vectors, as in an index or beside a pointer, is taken as a `long` times the number of their
-- components.
abbrev pub NumbersScaled : Type 0
NumbersScaled = (env : Env) (sites : List Place) (v : Vector) (i : Syntax) (t : IntType) (reached : Reach) →
    v.count ≤ 16 → kind_of env i ≡ Some (kinds.Number t reached) →
    (meant env sites (scaled v i)).piece.what ≡ value (joined_by bins.Mul types.Long
    (operand types.Long (meant env sites i).piece) (literal (pos v.count) types.Long))

-- The index of an element counts as many numbers as a vector has components: the element `p[i]` stands where `p` points
-- to and behind it, further by `i` as a `long` times that number, which wraps at 64 bits.
abbrev pub OffsetsScaled : Type 0
OffsetsScaled = (env : Env) (t : Syntax) (k : Kind) (a b : Mark) (space : Space) (constant : Bool) (v : Vector)
    (r : Root) (e : Expression) → form_of t ≡ forms.PostfixNode → kind_at a ≡ Pointer space constant v →
    v.count ≤ 16 → IsExpression (scalar a) → IsExpression (scalar b) →
    IsElement env (mark t k (marking a (marking b unmarked))) r e →
    (sites : List Place) × (e ≡ moved (way (meant env sites (scalar a)).piece.what)
    (joined_by bins.Mul types.Long (operand types.Long (meant env (meant env sites (scalar a)).sites (scalar b)).piece)
    (literal (pos v.count) types.Long)))

-- The element `*p` stands where `p` points to.
abbrev pub ContentsStand : Type 0
ContentsStand = (env : Env) (t : Syntax) (k : Kind) (a : Mark) (space : Space) (constant : Bool) (v : Vector)
    (r : Root) (e : Expression) → form_of t ≡ forms.UnaryNode → prefix_in (word_of t) ≡ Some prefixes.Content →
    kind_at a ≡ Pointer space constant v → IsExpression (scalar a) → IsElement env (mark t k (marking a unmarked)) r e →
    (sites : List Place) ×
    (e ≡ moved (way (meant env sites (scalar a)).piece.what) (literal (pos 0) types.Long))

-- In the program of an accepted source each vector statement stands in its function and does its steps, and their
-- helping variables stand for nothing that the source names.
abbrev pub StatementsDo : Type 0
StatementsDo = (source : List ℕ) (tokens expanded : List Token) (defines : List Define) (unit : Syntax)
    (places : List Place) (kernel : List ℕ) → Cuts source tokens → DefinesFit defines →
    Expands tokens defines expanded → SpellsUnit unit expanded → refusal_of unit ≡ None →
    IsAccepted places kernel (scalarised_of unit) →
    EachIsDone (program_of (unit_meant places kernel (scalarised_of unit))) (marked no_names unit)
    (start_of places (scalarised_of unit)) []

-- The list of values of a vector expression has at each place what the component of that number is worth; and that list
-- is what a statement without an operator of its own sets or stores.
abbrev pub VectorsAre : Type 0
VectorsAre = (leaves : Leaves) (n : ℕ) (a : Assigned) (j : ℕ) → j < n →
    (slice_get (Vec leaves n a.value) j ≡ Some (worth_of leaves a.value j)) ×
    (a.operator ≡ None → set_list n a leaves ≡ Vec leaves n a.value)
