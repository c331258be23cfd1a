-- The conditions E501 to E503: at which node of a unit each stands, and which is told.
use Rattle.std.specs.Prelude.{ℕ, ◌+◌, List, [], ◌∷◌, ◌++◌, nat_eq, Option, None, Some}
use Rattle.std.specs.Prelude.{Bool, true, false, not, ◌&&◌, ◌||◌, if◌then◌else◌}
use Rattle.wg_num.specs.Types.{same_type}
use Rattle.cl_model.specs.declared.program.Space.{Space}
use Rattle.cl_model.specs.declared.program.Space.TheVariants as spaces
use Rattle.cl_tree.specs.declared.tree.Form.{Form}
use Rattle.cl_tree.specs.declared.tree.Form.TheVariants as forms
use Rattle.cl_tree.specs.Syntax.{Syntax, node, Forest, first_of}
use Rattle.cl_meaning.specs.Spelling.{setting_in, is_set, dimensions_in}
use Rattle.cl_meaning.specs.declared.operators.Setting.{Setting}
use Rattle.cl_meaning.specs.declared.operators.Setting.TheVariants as settings
use Rattle.cl_meaning.specs.Declarations.{form_of, word_of, star_in}
use Rattle.cl_meaning.specs.Kinds.{is_some}
use Rattle.cl_short_vec.specs.declared.types.Vector.{Vector}
use Rattle.cl_short_vec.specs.declared.kinds.Reach.TheVariants.{Value}
use Rattle.cl_short_vec.specs.declared.kinds.Kind.{Kind}
use Rattle.cl_short_vec.specs.declared.kinds.Kind.TheVariants.{Vectors, Other}
use Rattle.cl_short_vec.specs.declared.roles.Around.{Around}
use Rattle.cl_short_vec.specs.declared.roles.Around.TheVariants as around
use Rattle.cl_short_vec.specs.declared.roles.Role.{Role}
use Rattle.cl_short_vec.specs.declared.roles.Role.TheVariants.{Free, Used, Barred, Target, Base, Listed, Items, Typed}
use Rattle.cl_short_vec.specs.declared.roles.Role.TheVariants.{Declared}
use Rattle.cl_short_vec.specs.declared.refuse.VectorFault.TheVariants as vector_faults
use Rattle.cl_short_vec.specs.declared.refuse.VectorRefusal.{VectorRefusal}
use Rattle.cl_short_vec.specs.Types.{vector_in, same_vector, selected, selection_in, picked, all_differ, numbers}
use Rattle.cl_short_vec.specs.Kinds.{no_names, is_vector, is_operator, is_variable}
use Rattle.cl_short_vec.specs.Plain.{has_vectors}
use Rattle.cl_short_vec.specs.Marks.{Mark, mark, Marks, unmarked, marking, kind_at, back, front_kind, back_kind}
use Rattle.cl_short_vec.specs.Marks.{vector_among, front_type, marked}
use Rattle.cl_short_vec.specs.Roles.{is_place, sets_vector, is_list_cast, back_form, role_of}

-- ---- the components of a place

abbrev pub all_of : Kind → List ℕ
all_of (Vectors v r) = numbers 0 1 v.count
all_of k = []

abbrev pub selected_in : Kind → List ℕ → Option (List ℕ)
selected_in (Vectors v r) name = selected v.count name
selected_in k name = None

abbrev pub chosen : Option (List ℕ) → List ℕ → List ℕ
chosen None ks = ks
chosen (Some js) ks = picked ks js

-- a selection picks of the components that are in front of it; anything else stands for all of its own
abbrev pub picked_by : (selection : Option (List ℕ)) → (whole front : Kind) → List ℕ → List ℕ
picked_by None k j ks = all_of k
picked_by (Some name) k j ks = chosen (selected_in j name) ks

abbrev pub components_by : Form → List ℕ → (whole front : Kind) → List ℕ → List ℕ
components_by forms.ParenNode w k j ks = ks
components_by forms.PostfixNode w k j ks = picked_by (selection_in w) k j ks
components_by form w k j ks = all_of k

-- the components of a variable or element that a place stands for, in order
unfoldable pub components_of : Mark → List ℕ
components_of (mark t k unmarked) = all_of k
components_of (mark t k (marking a others)) =
    components_by (form_of t) (word_of t) k (kind_at a) (components_of a)

-- ---- E501, at the outermost vector, at a vector type, at a declarator and at a list

abbrev pub misplaced_kind : Role → Kind → Bool
misplaced_kind Used k = false
misplaced_kind Listed k = false
misplaced_kind Items k = false
misplaced_kind Target k = is_vector k && not (is_place k)
misplaced_kind Base k = is_vector k && not (is_place k)
misplaced_kind role k = is_vector k

abbrev pub is_typed : Role → Bool
is_typed Typed = true
is_typed role = false

-- the initialiser of a vector variable, which is no list
abbrev pub is_initial : Role → Bool
is_initial Used = true
is_initial Barred = true
is_initial role = false

-- a variable stands in a function, without another space word than `__private`
abbrev pub is_private_at : Around → Option Space → Bool
is_private_at around.Unit space = false
is_private_at a None = true
is_private_at a (Some spaces.Private) = true
is_private_at a space = false

-- an array has one dimension and no initialiser
abbrev pub is_placed : Around → Option Space → List ℕ → Forest → Bool
is_placed a space w parts = not (is_some (star_in parts)) && (if nat_eq (dimensions_in w) 0 then is_private_at a space
    else nat_eq (dimensions_in w) 1 && not (is_set w))

abbrev pub misplaced_declarator : Role → List ℕ → Forest → Bool
misplaced_declarator (Declared d) w parts = is_some d.vector && not (is_placed d.around d.space w parts)
misplaced_declarator role w parts = false

unfoldable pub misplaced : Role → Syntax → Kind → Bool
misplaced role (node forms.TypeNode w f l parts) k = is_some (vector_in w) && not (is_typed role)
misplaced role (node forms.DeclaratorNode w f l parts) k = misplaced_declarator role w parts
misplaced role (node forms.ListNode w f l parts) k = is_initial role
misplaced role t k = misplaced_kind role k

-- ---- E502, at a selection

abbrev pub selects_nothing : Kind → List ℕ → Bool
selects_nothing (Vectors v r) name = not (is_some (selected v.count name))
selects_nothing k name = true

-- a target that names a component twice
abbrev pub repeats : Role → List ℕ → Bool
repeats Target ks = not (all_differ ks)
repeats role ks = false

abbrev pub lacks_component : Role → (selection : Option (List ℕ)) → (front : Kind) → List ℕ → Bool
lacks_component role None j ks = false
lacks_component role (Some name) j ks = selects_nothing j name || repeats role ks

unfoldable pub no_component : Role → Mark → Bool
no_component role (mark (node forms.PostfixNode w f l ps) k parts) = lacks_component role (selection_in w)
    (front_kind parts) (components_of (mark (node forms.PostfixNode w f l ps) k parts))
no_component role m = false

-- ---- E503, at an operator, an assignment, a list, a call and a declarator

-- two that are not vectors of different types
abbrev pub fits : Kind → Kind → Bool
fits (Vectors v r) (Vectors u s) = same_vector v u
fits j k = true

-- the second is a vector of the type of the first, as far as it is known what it is
abbrev pub agrees : Kind → Kind → Bool
agrees (Vectors v r) (Vectors u s) = same_vector v u
agrees (Vectors v r) (Other known) = not known
agrees j k = false

-- a right side: a vector of the target's type; behind an operator also a number
abbrev pub right_fits : Option Setting → Kind → Kind → Bool
right_fits (Some (settings.With op)) j k = fits j k
right_fits s j k = agrees j k

-- how many components an item of a list gives, where it has components of that type
abbrev pub given_by : Vector → Kind → Option ℕ
given_by v (Vectors u r) = if same_type v.of u.of then Some u.count else None
given_by v k = Some 1

abbrev pub sum : Option ℕ → Option ℕ → Option ℕ
sum (Some m) (Some n) = Some (m + n)
sum a b = None

-- a list gives what the items in front and the last one give
abbrev pub items_by : Form → (front back whole : Option ℕ) → Option ℕ
items_by forms.ExprNode front back whole = sum front back
items_by form front back whole = whole

unfoldable pub items_given : Vector → Mark → Option ℕ
items_given v (mark t k unmarked) = given_by v k
items_given v (mark t k (marking a others)) = items_by (form_of t) (items_given v a)
    (given_by v (back_kind (marking a others))) (given_by v k)

-- one number alone fills all components
abbrev pub fills : Vector → Option ℕ → Bool
fills v None = false
fills v (Some n) = nat_eq n v.count || nat_eq n 1

abbrev pub inside_fills : Vector → Mark → Bool
inside_fills v (mark t k unmarked) = false
inside_fills v (mark t k (marking a others)) = fills v (items_given v a)

-- the list in the parentheses that are the last part
abbrev pub list_fills : Vector → Option Mark → Bool
list_fills v None = false
list_fills v (Some m) = inside_fills v m

abbrev pub cast_fills : Option Vector → Marks → Bool
cast_fills None parts = true
cast_fills (Some v) parts = list_fills v (back parts)

abbrev pub all_agree : Kind → Marks → Bool
all_agree k unmarked = true
all_agree k (marking m ms) = agrees k (kind_at m) && all_agree k ms

abbrev pub is_list : Form → Bool
is_list forms.ListNode = true
is_list form = false

-- an initialiser: a vector of the variable's type. In the head of a `for`, where no vector is one, the scalar form leaves
-- it out: a name in it that is not visible would not be told.
abbrev pub initial_fits : Around → Kind → Kind → Bool
initial_fits around.Head j k = is_vector k && agrees j k
initial_fits a j k = agrees j k

-- a vector variable whose initialiser is no vector of its type; at a list, E501 is told
abbrev pub set_wrongly : Around → Option Vector → Marks → Bool
set_wrongly a None parts = false
set_wrongly a (Some v) parts =
    not (is_list (back_form parts)) && not (initial_fits a (Vectors v Value) (back_kind parts))

abbrev pub wrongly_set : Role → List ℕ → Forest → Marks → Bool
wrongly_set (Declared d) w ps parts = (is_variable w ps && is_set w) && set_wrongly d.around d.vector parts
wrongly_set role w ps parts = false

unfoldable pub types_differ : Role → Syntax → Kind → Marks → Bool
types_differ role (node forms.AssignNode w f l ps) k parts = sets_vector role (front_kind parts) &&
    not (right_fits (setting_in w) (front_kind parts) (back_kind parts))
types_differ role (node forms.CastNode w f l ps) k parts =
    is_list_cast parts && not (cast_fills (front_type parts) parts)
types_differ role (node forms.CallNode w f l ps) k parts = is_vector k && not (all_agree (vector_among parts) parts)
types_differ role (node forms.DeclaratorNode w f l ps) k parts = wrongly_set role w ps parts
types_differ role (node form w f l ps) k parts = is_operator form && not (fits (front_kind parts) (back_kind parts))

-- ---- all nodes, in order

-- the least number whose condition stands
abbrev pub least : ℕ → (misplaced lacks differ : Bool) → List VectorRefusal
least token true b c = record { fault = vector_faults.Misplaced; token = token } ∷ []
least token false true c = record { fault = vector_faults.NoComponent; token = token } ∷ []
least token false false true = record { fault = vector_faults.TypesDiffer; token = token } ∷ []
least token false false false = []

abbrev pub refusal_at : Role → Mark → List VectorRefusal
refusal_at role (mark t k parts) = least (first_of t) (misplaced role t k) (no_component role (mark t k parts))
    (types_differ role t k parts)

abbrev pub is_end : Marks → Bool
is_end unmarked = true
is_end (marking m ms) = false

unfoldable mutual
  -- the refusals of a tree's nodes, parts before the whole
  pub refusals : Role → Mark → List VectorRefusal
  refusals role (mark t k parts) =
      refusals_in role (mark t k parts) true parts ++ refusal_at role (mark t k parts)

  pub refusals_in : Role → (whole : Mark) → (front : Bool) → Marks → List VectorRefusal
  refusals_in role m front unmarked = []
  refusals_in role m front (marking p ps) =
      refusals (role_of role m front (is_end ps) p) p ++ refusals_in role m false ps

-- the first
abbrev pub told : List VectorRefusal → Option VectorRefusal
told [] = None
told (r ∷ rs) = Some r

-- The condition that is told of a unit, if one stands at a node of it. A unit that names no vector type and selects
-- nothing has none.
abbrev pub refusal_of : Syntax → Option VectorRefusal
refusal_of unit = if has_vectors unit then told (refusals Free (marked no_names unit)) else None
