-- The law on expressions.
use Rattle.std.specs.Prelude.{◌≡◌, ℕ, ◌<◌, List, [], Option, Some, Bool, true, false, ◌||◌}
use Rattle.cl_tree.specs.declared.tree.Form.{Form}
use Rattle.cl_tree.specs.declared.tree.Form.TheVariants as forms
use Rattle.cl_tree.specs.Syntax.{Syntax}
use Rattle.cl_meaning.specs.declared.kind.Reach.TheVariants as reach
use Rattle.cl_meaning.specs.declared.kind.Kind.{Kind}
use Rattle.cl_meaning.specs.declared.kind.Kind.TheVariants as kinds
use Rattle.cl_meaning.specs.declared.kind.Role.{Role}
use Rattle.cl_meaning.specs.Environment.{Env}
use Rattle.cl_meaning.specs.Declarations.{form_of}
use Rattle.cl_meaning.specs.Kinds.{is_some, result_kind, Callee, defined, undefined, known, callee_of}
use Rattle.cl_meaning.specs.Visible.{kind_of}
use Rattle.cl_meaning.specs.Faults.{Asked, is_called}
use Rattle.cl_model.specs.declared.program.Root.{Root}
use Rattle.cl_check_sound.specs.Shape.{IsExpressionOf}
use Rattle.cl_check_sound.specs.Sound.{SoundTree}
use Rattle.cl_short_vec.specs.declared.nodes.Span.{Span}
use Rattle.cl_short_vec.specs.declared.kinds.Reach.TheVariants.{Value, Variable, Element}
use Rattle.cl_short_vec.specs.declared.kinds.Kind as vectors
use Rattle.cl_short_vec.specs.declared.kinds.Kind.TheVariants.{Vectors, Pointer, Other}
use Rattle.cl_short_vec.specs.declared.roles.Role as vector_roles
use Rattle.cl_short_vec.specs.declared.roles.Role.TheVariants.{Listed, Items}
use Rattle.cl_short_vec.specs.Kinds.{Names, is_vector}
use Rattle.cl_short_vec.specs.Marks.{Mark, mark, Marks, kind_at, front_kind, marked}
use Rattle.cl_short_vec.specs.Roles.{is_place, sets_vector}
use Rattle.cl_short_vec.specs.Faults.{refusals}
use Rattle.cl_short_vec.specs.Order.{count_in, under}
use Rattle.cl_short_vec.specs.Scalar.{scalar, component_at}
use Rattle.cl_short_vec_faults.specs.PlainForm.{plain_of}
use Rattle.cl_short_vec_faults.specs.Plainly.{NoPoint, PointsAs, Plainly}
use Rattle.cl_short_vec_faults.specs.Parts.{KnownAlone}

-- what a name calls gives something: a function without a definition is not called, and no result has a type outside
-- the profile
abbrev pub CalleeGives : Asked → List ℕ → Callee → Type 0
CalleeGives asked q (defined n g) = is_some (result_kind g.result) ≡ true
CalleeGives asked q undefined = is_called asked.missing q ≡ false
CalleeGives asked q (known i) = Unit {0}

abbrev pub AllGive : Asked → Env → Type 0
AllGive asked env = (q : List ℕ) (c : Callee) → callee_of env q ≡ Some c → CalleeGives asked q c

-- what is known of the functions that are called; no function of the unit has a name that is known without a declaration
abbrev pub Called : Asked → Env → Type 0
Called asked env = AllGive asked env × KnownAlone env

-- items of a list of components, or the parentheses around them
abbrev pub lists : vector_roles.Role → Form → Bool
lists Listed forms.ParenNode = true
lists Items forms.ExprNode = true
lists role form = false

abbrev pub assigns : vector_roles.Role → Form → Marks → Bool
assigns role forms.AssignNode parts = sets_vector role (front_kind parts)
assigns role form parts = false

-- whether the node has to do with vectors: it is one, or lists or sets the components of one
abbrev pub is_of_vectors : vector_roles.Role → Mark → Bool
is_of_vectors role (mark t k parts) = is_vector k || (lists role (form_of t) || assigns role (form_of t) parts)

-- What stands for an expression is at fault at no node, and is of that kind.
pub record Follows (asked : Asked) (form : Env) (place : Role) (t : Syntax) (k : Option Kind) : Type 0 where
  pub sound : SoundTree asked form place t
  pub kind : kind_of form t ≡ k

-- a pointer to vectors is there a pointer to numbers, and a vector variable or element a number that is one
abbrev pub KindAs : vectors.Kind → Option Kind → Type 0
KindAs (Pointer s c v) k = PointsAs s c v k
KindAs (Vectors v Variable) k = (fixed : Bool) × (k ≡ Some (kinds.Number v.of (reach.Variable fixed)))
KindAs (Vectors v (Element s c)) k = (r : Root) × (k ≡ Some (kinds.Number v.of (reach.Element s c r)))
KindAs (Vectors v Value) k = Unit {0}
KindAs (Other b) k = Unit {0}

-- Where no node of the plain form of an expression is at fault, no node of what stands for it without vectors is, and
-- both have the same kind.
abbrev pub ExpressionsFollow : Type 0
ExpressionsFollow = (asked : Asked) (names : Names) (plain form : Env) (role : vector_roles.Role) (place : Role)
    (t : Syntax) → IsExpressionOf true t → NoPoint t → Plainly names plain form → Called asked plain →
    refusals role (marked names t) ≡ [] → is_of_vectors role (marked names t) ≡ false →
    SoundTree asked plain place (plain_of t) →
    Follows asked form place (scalar (marked names t)) (kind_of plain (plain_of t)) ×
    KindAs (kind_at (marked names t)) (kind_of plain (plain_of t))

-- And where a vector is a variable, an element or selected components of one, no node of a component of that variable
-- or element is, and it has the kind of the plain form.
abbrev pub ComponentsFollow : Type 0
ComponentsFollow = (asked : Asked) (names : Names) (plain form : Env) (role : vector_roles.Role) (place : Role)
    (t : Syntax) → IsExpressionOf true t → NoPoint t → Plainly names plain form → Called asked plain →
    refusals role (marked names t) ≡ [] → is_place (kind_at (marked names t)) ≡ true →
    SoundTree asked plain place (plain_of t) →
    ((c : ℕ) (s : Span) → c < count_in (kind_at (under (marked names t))) →
    Follows asked form place (component_at c s (marked names t)) (kind_of plain (plain_of t))) ×
    KindAs (kind_at (marked names t)) (kind_of plain (plain_of t))
