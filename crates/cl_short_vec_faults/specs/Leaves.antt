-- Where a leaf of a vector statement should be a number, it is one in the plain form.
use Rattle.std.specs.Prelude.{◌≡◌, List, [], ◌∷◌, Option, None, Some, Bool, true, false}
use Rattle.cl_tree.specs.declared.tree.Form.{Form}
use Rattle.cl_tree.specs.declared.tree.Form.TheVariants as forms
use Rattle.cl_meaning.specs.Spelling.{setting_in}
use Rattle.cl_meaning.specs.declared.kind.Kind.{Kind}
use Rattle.cl_meaning.specs.Kinds.{is_number}
use Rattle.cl_meaning.specs.Environment.{Env}
use Rattle.cl_meaning.specs.Declarations.{form_of, word_of}
use Rattle.cl_meaning.specs.Visible.{inside, later, behind, kind_of}
use Rattle.cl_short_vec.specs.declared.types.Vector.{Vector}
use Rattle.cl_short_vec.specs.Kinds.{is_vector}
use Rattle.cl_short_vec.specs.Marks.{Mark, mark, Marks, unmarked, marking, tree_at, kind_at, front_type}
use Rattle.cl_short_vec.specs.Order.{Step, Number, setting_steps, initial_steps, operator_in}
use Rattle.cl_short_vec.specs.Unit.{declared_name, initialiser}
use Rattle.cl_short_vec_faults.specs.PlainForm.{plain_of}

-- an expression that is a number
abbrev pub IsNumber : Option Kind → Type 0
IsNumber None = ⊥
IsNumber (Some k) = is_number k ≡ true

abbrev pub NumbersAmong : (plain : Env) → List Step → Type 0
NumbersAmong plain [] = Unit {0}
NumbersAmong plain (Number of m ∷ steps) =
    IsNumber (kind_of plain (plain_of (tree_at m))) × NumbersAmong plain steps
NumbersAmong plain (step ∷ steps) = NumbersAmong plain steps

-- of a statement that sets a vector
abbrev pub WholeLeaves : (plain : Env) → Mark → Form → Type 0
WholeLeaves plain (mark t k (marking a (marking b unmarked))) forms.AssignNode =
    is_vector (kind_at a) ≡ true → NumbersAmong plain (setting_steps (operator_in (setting_in (word_of t))) a b)
WholeLeaves plain m form = Unit {0}

abbrev pub StatementLeaves : (plain : Env) → Form → Marks → Type 0
StatementLeaves plain forms.SimpleNode (marking m unmarked) = WholeLeaves plain m (form_of (tree_at m))
StatementLeaves plain form parts = Unit {0}

-- of a declarator behind a vector type
abbrev pub InitialLeaves : (plain : Env) → Option Vector → (declarator : Mark) → Option Mark → Type 0
InitialLeaves plain (Some v) d (Some e) = NumbersAmong plain (initial_steps v (declared_name (tree_at d)) e)
InitialLeaves plain v d e = Unit {0}

-- the vector type in front of the declarators of a declaration
abbrev pub declares : Form → Marks → Option Vector
declares forms.DeclareNode parts = front_type parts
declares form parts = None

unfoldable mutual
  -- through a tree, of whose plain form this is visible
  pub LeavesFit : (plain : Env) → Mark → Type 0
  LeavesFit plain (mark t k parts) = StatementLeaves (inside plain (form_of t) (word_of t)) (form_of t) parts ×
      AllLeavesFit (inside plain (form_of t) (word_of t)) (form_of t) true (declares (form_of t) parts) parts

  pub AllLeavesFit : (plain : Env) → Form → (front : Bool) → Option Vector → Marks → Type 0
  AllLeavesFit plain form front v unmarked = Unit {0}
  AllLeavesFit plain form front v (marking m ms) = InitialLeaves plain v m (initialiser m) × LeavesFit plain m ×
      AllLeavesFit (later (behind plain (plain_of (tree_at m))) form front (plain_of (tree_at m))
      (kind_of plain (plain_of (tree_at m)))) form false v ms
