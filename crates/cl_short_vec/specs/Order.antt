-- What a vector statement does, in order: where its target stands, the old target, the leaves of its right side, and
-- what it sets. A leaf and a target are told by the first token of the variable, element or number.
use Rattle.std.specs.Prelude.{ℕ, suc, List, [], ◌∷◌, ◌++◌, map, Option, Some, None, if◌then◌else◌}
use Rattle.std.specs.Prelude.{Bool, true, false}
use Rattle.wg_num.specs.declared.types.IntType.{IntType}
use Rattle.wg_num.specs.declared.types.IntType.TheVariants.{Int}
use Rattle.wg_num.specs.declared.types.Bin.{Bin}
use Rattle.cl_tree.specs.declared.tree.Form.TheVariants as forms
use Rattle.cl_tree.specs.Syntax.{Syntax, node}
use Rattle.cl_meaning.specs.Spelling.{name_in}
use Rattle.cl_meaning.specs.Declarations.{form_of, word_of}
use Rattle.cl_meaning.specs.declared.operators.Setting.{Setting}
use Rattle.cl_meaning.specs.declared.operators.Setting.TheVariants as settings
use Rattle.cl_meaning.specs.Kinds.{is_some}
use Rattle.cl_short_vec.specs.declared.nodes.Span.{Span}
use Rattle.cl_short_vec.specs.declared.types.Vector.{Vector}
use Rattle.cl_short_vec.specs.declared.kinds.Reach.TheVariants.{Element}
use Rattle.cl_short_vec.specs.declared.kinds.Kind.{Kind}
use Rattle.cl_short_vec.specs.declared.kinds.Kind.TheVariants.{Vectors}
use Rattle.cl_short_vec.specs.declared.made.Made.{Made}
use Rattle.cl_short_vec.specs.declared.made.Made.TheVariants as made
use Rattle.cl_short_vec.specs.Types.{numbers, selection_in}
use Rattle.cl_short_vec.specs.Marks.{Mark, mark, Marks, unmarked, marking, tree_at, kind_at, vector_among}
use Rattle.cl_short_vec.specs.Roles.{is_paren}
use Rattle.cl_short_vec.specs.Faults.{components_of}
use Rattle.cl_short_vec.specs.Made.{made_of}
use Rattle.cl_short_vec.specs.Nodes.{span_of}

-- a variable of the unit, where it stands
pub record Named : Type 0 where
  pub name : List ℕ
  pub span : Span

pub data Step : Type 0 where
  -- evaluates where an element stands
  Offset : (element : Mark) → Step
  -- evaluates a number, as one of that type
  Number : (of : IntType) (number : Mark) → Step
  -- takes a component of that type of a variable
  Copy : (of : IntType) (variable : Named) (component : ℕ) → Step
  -- loads a component of an element
  Load : (element : Mark) (component : ℕ) → Step
  -- sets a component of a variable to a value, by its number
  Set : (variable : Named) (component value : ℕ) → Step
  -- stores a value, by its number, to a component of an element
  Store : (element : Mark) (component value : ℕ) → Step

-- the type of the components, and their number: a number is one of itself
abbrev pub type_in : Kind → IntType
type_in (Vectors v r) = v.of
type_in k = Int

abbrev pub count_in : Kind → ℕ
count_in (Vectors v r) = v.count
count_in k = 1

-- the variable that a tree names
abbrev pub named_by : Syntax → Named
named_by t = record { name = name_in (word_of t); span = span_of t }

-- ---- leaves

-- these components of an element, and of a variable
abbrev pub loads : Mark → List ℕ → List Step
loads m cs = map (Load m) cs

abbrev pub copies : IntType → Named → List ℕ → List Step
copies of x cs = map (Copy of x) cs

abbrev pub element_steps : Mark → List Step
element_steps m = Offset m ∷ loads m (numbers 0 1 (count_in (kind_at m)))

abbrev pub variable_steps : Mark → List Step
variable_steps m = copies (type_in (kind_at m)) (named_by (tree_at m)) (numbers 0 1 (count_in (kind_at m)))

-- the steps of an operand or of items, where those of all parts as items, of all parts as operands, and of the lists
-- among them are these
abbrev pub steps_by : Made → IntType → Mark → (items all lists : List Step) → List Step
steps_by made.Number of m items all lists = Number of m ∷ []
steps_by made.Items of m items all lists = items
steps_by made.Variable of m items all lists = variable_steps m
steps_by made.Element of m items all lists = element_steps m
steps_by made.Listed of m items all lists = lists
steps_by how of m items all lists = all

unfoldable mutual
  -- the leaves of an operand from left to right, or of the items of a list where `listed` says so; a number is a leaf
  -- by itself, and counts as one of that type
  pub steps_in : (listed : Bool) → IntType → Mark → List Step
  steps_in listed of (mark t k parts) = steps_by (made_of listed t k) of (mark t k parts) (all_steps true of parts)
      (all_steps false (type_in (vector_among parts)) parts) (list_steps (type_in k) parts)

  -- those of some parts, of which the first may be several items
  pub all_steps : (listed : Bool) → IntType → Marks → List Step
  all_steps listed of unmarked = []
  all_steps listed of (marking m ms) = steps_in listed of m ++ all_steps false of ms

  -- those of the parts that are lists in parentheses
  pub list_steps : IntType → Marks → List Step
  list_steps of unmarked = []
  list_steps of (marking m ms) = inside_steps of m ++ list_steps of ms

  pub inside_steps : IntType → Mark → List Step
  inside_steps of (mark t k parts) = if is_paren (form_of t) then all_steps true of parts else []

abbrev pub steps_of : IntType → Mark → List Step
steps_of = steps_in false

-- ---- statements

-- whether a place is what its part is, or some components of that
abbrev pub is_through : Syntax → Bool
is_through (node forms.ParenNode w f l ps) = true
is_through (node forms.PostfixNode w f l ps) = is_some (selection_in w)
is_through t = false

-- the variable or element of which a place selects components, parentheses aside
unfoldable pub under : Mark → Mark
under (mark t k unmarked) = mark t k unmarked
under (mark t k (marking a others)) = if is_through t then under a else mark t k (marking a others)

abbrev pub is_element_in : Kind → Bool
is_element_in (Vectors v (Element s c)) = true
is_element_in k = false

-- where a target stands
abbrev pub target_steps : Mark → List Step
target_steps m = if is_element_in (kind_at m) then Offset m ∷ [] else []

abbrev pub operator_in : Option Setting → Option Bin
operator_in (Some (settings.With op)) = Some op
operator_in s = None

-- its old components, where an operator joins them with the value
abbrev pub old_steps : Option Bin → Mark → List ℕ → List Step
old_steps None m cs = []
old_steps (Some op) m cs =
    if is_element_in (kind_at m) then loads m cs else copies (type_in (kind_at m)) (named_by (tree_at m)) cs

-- components are stored, and set, each to the value of the next number
abbrev pub stores : Mark → List ℕ → (value : ℕ) → List Step
stores m [] j = []
stores m (c ∷ cs) j = Store m c j ∷ stores m cs (suc j)

abbrev pub sets : Named → List ℕ → (value : ℕ) → List Step
sets x [] j = []
sets x (c ∷ cs) j = Set x c j ∷ sets x cs (suc j)

abbrev pub new_steps : Mark → List ℕ → List Step
new_steps m cs = if is_element_in (kind_at m) then stores m cs 0 else sets (named_by (tree_at m)) cs 0

-- a statement that sets a target to a value
abbrev pub setting_steps : Option Bin → (target value : Mark) → List Step
setting_steps o target value =
    target_steps (under target) ++ (old_steps o (under target) (components_of target) ++
    (steps_of (type_in (kind_at target)) value ++ new_steps (under target) (components_of target)))

-- a declaration of a vector variable, with its initialiser
abbrev pub initial_steps : Vector → (variable : Named) → (value : Mark) → List Step
initial_steps v x value = steps_of v.of value ++ sets x (numbers 0 1 v.count) 0
