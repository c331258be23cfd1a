-- Each vector statement of a unit does its steps, where the unit without vectors stands for the unit, and its helping
-- variables stand for nothing that the unit names.
use Rattle.std.specs.Prelude.{◌≡◌, List, [], length, Option, None, Some, if◌then◌else◌, Bool, true, false, ◌&&◌}
use Rattle.wg_num.specs.declared.types.Place.{Place}
use Rattle.wg_num.specs.declared.types.Bin.{Bin}
use Rattle.cl_model.specs.Tree.{Program}
use Rattle.cl_model.specs.Calls.{function_at}
use Rattle.cl_tree.specs.declared.tree.Form.{Form}
use Rattle.cl_tree.specs.declared.tree.Form.TheVariants as forms
use Rattle.cl_tree.specs.Syntax.{Forest}
use Rattle.cl_tree.specs.Nodes.{forest1}
use Rattle.cl_meaning.specs.Spelling.{setting_in}
use Rattle.cl_meaning.specs.Environment.{Env}
use Rattle.cl_meaning.specs.Declarations.{form_of, word_of}
use Rattle.cl_meaning.specs.Visible.{inside, behind, behind_parts}
use Rattle.cl_meaning.specs.Statements.{lines_of, all_lines}
use Rattle.cl_meaning.specs.Meant.{meant, parts_meant}
use Rattle.cl_short_vec.specs.declared.nodes.Span.{Span}
use Rattle.cl_short_vec.specs.declared.types.Vector.{Vector}
use Rattle.cl_short_vec.specs.Types.{vector_type}
use Rattle.cl_short_vec.specs.Kinds.{is_vector}
use Rattle.cl_short_vec.specs.Marks.{Mark, mark, Marks, unmarked, marking, tree_at, kind_at}
use Rattle.cl_short_vec.specs.Faults.{components_of}
use Rattle.cl_short_vec.specs.Nodes.{span_of}
use Rattle.cl_short_vec.specs.Order.{setting_steps, initial_steps, operator_in}
use Rattle.cl_short_vec.specs.Parts.{Assigned}
use Rattle.cl_short_vec.specs.Scalar.{scalar}
use Rattle.cl_short_vec.specs.Unit.{assigned_of, set_block, declared_name, name_span, initialiser, declarator_lines}
use Rattle.cl_short_vec.specs.Unit.{is_declaration, block_line, scalarised}
use Rattle.cl_short_vec_correct.specs.Values.{nth, set_list}
use Rattle.cl_short_vec_correct.specs.Doing.{Aside, DoSteps}
use Rattle.cl_short_vec_correct.specs.Standing.{Within}

-- the value of an initialiser
abbrev pub initial_of : Vector → (declarator value : Mark) → Assigned
initial_of v d e = record {
  operator = None;
  of = v.of;
  target = name_span (tree_at d);
  components = [];
  value = e;
}

abbrev pub is_assignment : Form → Bool
is_assignment forms.AssignNode = true
is_assignment form = false

-- what stands for a part of a node of that production
abbrev pub lines_for : Form → (front : Bool) → Mark → Forest
lines_for forms.BlockNode front m = block_line m (scalarised m)
lines_for forms.ForNode true m = forest1 (if is_declaration m then scalarised m else scalar m)
lines_for form front m = forest1 (scalarised m)

-- what is claimed of a statement with a span that sets a target to a value behind an operator, and of a declarator of a
-- vector variable with its initialiser, where `env` is visible and these sites stand before
abbrev pub SettingClaim : Type 1
SettingClaim = Env → List Place → Span → Option Bin → (target value : Mark) → Type 0

abbrev pub DeclaratorClaim : Type 1
DeclaratorClaim = Env → List Place → Vector → (type declarator : Mark) → Option Mark → Type 0

-- Productions whose parts hold statements: what is claimed of the parts. In the head of a `for` no statement is a
-- vector's.
abbrev pub ByForm : Form → (parts : Type 0) → (simple : Type 0) → Type 0
ByForm forms.UnitNode parts simple = parts
ByForm forms.FunctionNode parts simple = parts
ByForm forms.BlockNode parts simple = parts
ByForm forms.IfNode parts simple = parts
ByForm forms.WhileNode parts simple = parts
ByForm forms.DoNode parts simple = parts
ByForm forms.ForNode parts simple = parts
ByForm forms.SwitchNode parts simple = parts
ByForm forms.CaseNode parts simple = parts
ByForm forms.DefaultNode parts simple = parts
ByForm forms.SimpleNode parts simple = simple
ByForm form parts simple = Unit {0}

-- a part of a node of that production
abbrev pub PartDoes : Form → (front declares : Bool) → (declaration each : Type 0) → Type 0
PartDoes forms.BlockNode front true declaration each = declaration
PartDoes forms.ForNode true declares declaration each = Unit {0}
PartDoes form front declares declaration each = each

-- In the unit without vectors, where `env` is visible and these sites stand before, each vector statement of a tree
-- meets the one claim, and each declarator of a vector variable the other.
module _ (Setting : SettingClaim) (Declarator : DeclaratorClaim) where
  -- the whole expression of a statement with that span: of an assignment to a vector
  abbrev pub OfWhole : Env → List Place → Span → Mark → Type 0
  OfWhole env sites s (mark t k (marking a (marking b unmarked))) =
      is_assignment (form_of t) && is_vector (kind_at a) ≡ true →
      Setting env sites s (operator_in (setting_in (word_of t))) a b
  OfWhole env sites s m = Unit {0}

  abbrev pub OfSimple : Env → List Place → Span → Marks → Type 0
  OfSimple env sites s (marking m unmarked) = OfWhole env sites s m
  OfSimple env sites s parts = Unit {0}

  abbrev pub OfDeclarators : Marks → Env → List Place → Vector → (type : Mark) → Type 0
  OfDeclarators unmarked env sites v type = Unit {0}
  OfDeclarators (marking d ds) env sites v type = Declarator env sites v type d (initialiser d) ×
      OfDeclarators ds (behind_parts env forms.BlockNode false (declarator_lines v type d (initialiser d)))
      (parts_meant env forms.BlockNode false sites (declarator_lines v type d (initialiser d))).sites v type

  abbrev pub OfTyped : Option Vector → Env → List Place → (type : Mark) → Marks → Type 0
  OfTyped None env sites type ds = Unit {0}
  OfTyped (Some v) env sites type ds = OfDeclarators ds env sites v type

  -- a declaration in a block
  abbrev pub OfDeclaration : Env → List Place → Mark → Type 0
  OfDeclaration env sites (mark t k unmarked) = Unit {0}
  OfDeclaration env sites (mark t k (marking type ds)) = OfTyped (vector_type (tree_at type)) env sites type ds

  unfoldable mutual
    -- each vector statement in a tree
    pub Throughout : Mark → Env → List Place → Type 0
    Throughout (mark t k parts) env sites = ByForm (form_of t)
        (ThroughParts parts (form_of t) true (inside env (form_of t) (word_of t)) sites)
        (OfSimple env sites (span_of t) parts)

    pub ThroughParts : Marks → Form → (front : Bool) → Env → List Place → Type 0
    ThroughParts unmarked form front env sites = Unit {0}
    ThroughParts (marking m ms) form front env sites =
        PartDoes form front (is_declaration m) (OfDeclaration env sites m) (Throughout m env sites) ×
        ThroughParts ms form false (behind_parts env form front (lines_for form front m))
        (parts_meant env form front sites (lines_for form front m)).sites

-- In the typed program of the unit without vectors:
module _ (program : Program) where
  -- a statement that sets a target to a value
  abbrev pub SettingDoes : SettingClaim
  SettingDoes env sites s o a b = Aside env (behind env (set_block s o a b)) (setting_steps o a b) ×
      DoSteps program env (behind env (set_block s o a b)) (setting_steps o a b)
      (λ leaves. nth (set_list (length (components_of a)) (assigned_of o a b) leaves))
      (lines_of (meant env sites (set_block s o a b)).piece.what)

  -- a declarator of a vector variable, with its initialiser
  abbrev pub DeclaratorDoes : DeclaratorClaim
  DeclaratorDoes env sites v type d None = Unit {0}
  DeclaratorDoes env sites v type d (Some e) =
      Aside env (behind_parts env forms.BlockNode false (declarator_lines v type d (Some e)))
      (initial_steps v (declared_name (tree_at d)) e) ×
      DoSteps program env (behind_parts env forms.BlockNode false (declarator_lines v type d (Some e)))
      (initial_steps v (declared_name (tree_at d)) e)
      (λ leaves. nth (set_list v.count (initial_of v d e) leaves))
      (all_lines (parts_meant env forms.BlockNode false sites (declarator_lines v type d (Some e))).pieces)

  -- what stands for each of them stands in the body of the function that is under way there
  abbrev pub SettingStands : SettingClaim
  SettingStands env sites s o a b =
      Within (lines_of (meant env sites (set_block s o a b)).piece.what) (function_at program env.owner.number).body

  abbrev pub DeclaratorStands : DeclaratorClaim
  DeclaratorStands env sites v type d None = Unit {0}
  DeclaratorStands env sites v type d (Some e) =
      Within (all_lines (parts_meant env forms.BlockNode false sites (declarator_lines v type d (Some e))).pieces)
      (function_at program env.owner.number).body

  abbrev pub DeclaratorsDo : Marks → Env → List Place → Vector → (type : Mark) → Type 0
  DeclaratorsDo = OfDeclarators SettingDoes DeclaratorDoes

  abbrev pub TypedDo : Option Vector → Env → List Place → (type : Mark) → Marks → Type 0
  TypedDo = OfTyped SettingDoes DeclaratorDoes

  abbrev pub DeclarationDoes : Env → List Place → Mark → Type 0
  DeclarationDoes = OfDeclaration SettingDoes DeclaratorDoes

  -- each vector statement in a tree does its steps
  abbrev pub EachDoes : Mark → Env → List Place → Type 0
  EachDoes = Throughout SettingDoes DeclaratorDoes

  abbrev pub PartsDo : Marks → Form → (front : Bool) → Env → List Place → Type 0
  PartsDo = ThroughParts SettingDoes DeclaratorDoes

  -- and stands in its function
  abbrev pub EachStands : Mark → Env → List Place → Type 0
  EachStands = Throughout SettingStands DeclaratorStands

  abbrev pub PartsStand : Marks → Form → (front : Bool) → Env → List Place → Type 0
  PartsStand = ThroughParts SettingStands DeclaratorStands

  -- The same walk through the unit says both: the statements that do the steps are those that stand in the program.
  pub record EachIsDone (m : Mark) (env : Env) (sites : List Place) : Type 0 where
    pub does : EachDoes m env sites
    pub stands : EachStands m env sites
