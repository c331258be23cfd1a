-- What names stand for, as declarations and parameters tell: a vector that a name stands for is a variable.
use Rattle.std.proofs.Common.{◌≡◌, ℕ, List, Option, None, Some, Bool, true, false, if◌then◌else◌, refl}
use Rattle.std.specs.Prelude.{codes}
use Rattle.std.proofs.lemmas.Bool.{false≢true}
use Rattle.std.specs.Str.{bytes_eq}
use Rattle.cl_tree.specs.declared.tree.Form.{Form}
use Rattle.cl_tree.specs.declared.tree.Form.TheVariants as forms
use Rattle.cl_tree.specs.Syntax.{Syntax, node, Forest, none, more}
use Rattle.cl_meaning.specs.Spelling.{name_in, intrinsic_in}
use Rattle.cl_meaning.specs.Types.{declared_in}
use Rattle.cl_meaning.specs.Declarations.{word_of, parts_of, second_star}
use Rattle.cl_meaning.specs.Kinds.{is_some}
use Rattle.cl_short_vec.specs.declared.types.Vector.{Vector}
use Rattle.cl_short_vec.specs.declared.kinds.Reach.TheVariants.{Value, Variable, Element}
use Rattle.cl_short_vec.specs.declared.kinds.Kind.{Kind}
use Rattle.cl_short_vec.specs.declared.kinds.Kind.TheVariants.{Vectors, Pointer, Other}
use Rattle.cl_short_vec.specs.Types.{vector_type}
use Rattle.cl_short_vec.specs.Kinds.{Names, no_names, with_name, is_variable, declared_kind, behind_declared, is_vector}
use Rattle.cl_short_vec.specs.Kinds.{behind_declarator, behind_declarators, pointed_by, parameter_kind, pointer_to}
use Rattle.cl_short_vec.specs.Kinds.{behind_parameter, behind_parameters, behind, behind_part, later}
use Rattle.cl_short_vec.specs.Kinds.{calls_fence, with_fences, within}

-- no value and no element
abbrev pub IsNamed : Kind → Type 0
IsNamed (Vectors v Value) = ⊥
IsNamed (Vectors v (Element s c)) = ⊥
IsNamed k = Unit {0}

abbrev pub AreNamed : Names → Type 0
AreNamed names = (name : List ℕ) → IsNamed (names name)

pub named_variable : (k : Kind) → IsNamed k → is_vector k ≡ true → (v : Vector) × (k ≡ Vectors v Variable)
named_variable (Vectors v Variable) h e = (v, refl)
named_variable (Vectors v Value) h e = absurd h
named_variable (Vectors v (Element s c)) h e = absurd h
named_variable (Pointer s c v) h e = absurd (false≢true e)
named_variable (Other b) h e = absurd (false≢true e)

pub nothing_named : AreNamed no_names
nothing_named name = tt

either_named : (b : Bool) (j k : Kind) → IsNamed j → IsNamed k → IsNamed (if b then j else k)
either_named true j k h i = h
either_named false j k h i = i

with_named : (names : Names) (name : List ℕ) (k : Kind) → AreNamed names → IsNamed k →
    AreNamed (with_name names name k)
with_named names name k n h q = either_named (bytes_eq name q) k (names q) h (n q)

declared_named : (v : Vector) (type d : Syntax) → IsNamed (declared_kind v type d)
declared_named v type d =
    either_named (is_variable (word_of d) (parts_of d)) (Vectors v Variable) (pointer_to v type) tt tt

behind_declared_named : (o : Option Vector) (names : Names) (type d : Syntax) → AreNamed names →
    AreNamed (behind_declared o names type d)
behind_declared_named (Some v) names type d n =
    with_named names (name_in (word_of d)) (declared_kind v type d) n (declared_named v type d)
behind_declared_named None names type d n = by (is_some (declared_in type))
  where
    by : (b : Bool) → AreNamed (if b then with_name names (name_in (word_of d)) (Other true) else names)
    by true = with_named names (name_in (word_of d)) (Other true) n tt
    by false = n

pub behind_declarator_named : (names : Names) (type d : Syntax) → AreNamed names →
    AreNamed (behind_declarator names type d)
behind_declarator_named names type d n = behind_declared_named (vector_type type) names type d n

pub behind_declarators_named : (names : Names) (type : Syntax) (ds : Forest) → AreNamed names →
    AreNamed (behind_declarators names type ds)
behind_declarators_named names type none n = n
behind_declarators_named names type (more d ds) n =
    behind_declarators_named (behind_declarator names type d) type ds (behind_declarator_named names type d n)

pointed_named : (o : Option Vector) (star : Option Bool) (type : Syntax) → IsNamed (pointed_by o star type)
pointed_named (Some v) (Some fixed) type = tt
pointed_named o star type = tt

parameter_named : (ps : Forest) → IsNamed (parameter_kind ps)
parameter_named none = tt
parameter_named (more type others) = pointed_named (vector_type type) (second_star (more type others)) type

pub behind_parameters_named : (names : Names) (ps : Forest) → AreNamed names → AreNamed (behind_parameters names ps)
behind_parameters_named names none n = n
behind_parameters_named names (more p ps) n = behind_parameters_named (behind_parameter names p) ps
    (with_named names (name_in (word_of p)) (parameter_kind (parts_of p)) n (parameter_named (parts_of p)))

pub behind_named : (names : Names) (t : Syntax) → AreNamed names → AreNamed (behind names t)
behind_named names (node forms.DeclareNode w f l none) n = n
behind_named names (node forms.DeclareNode w f l (more type ds)) n = behind_declarators_named names type ds n
behind_named names (node forms.ParamsNode w f l parts) n = behind_parameters_named names parts n
behind_named names (node forms.FunctionNode w f l parts) n = with_named names (name_in w) (Other false) n tt
behind_named names t n = n

behind_part_named : (names : Names) (parts : Forest) (front : Bool) (p : Syntax) → AreNamed names →
    AreNamed (behind_part names parts front p)
behind_part_named names (more type ds) false p n = behind_declarator_named names type p n
behind_part_named names parts front p n = n

pub later_named : (form : Form) (parts : Forest) (names : Names) (front : Bool) (p : Syntax) → AreNamed names →
    AreNamed (later form parts names front p)
later_named forms.DeclareNode parts names front p n = behind_part_named names parts front p n
later_named form parts names front p n = behind_named names p n

pub within_named : (form : Form) (w : List ℕ) (names : Names) → AreNamed names → AreNamed (within form w names)
within_named forms.CallNode w names n = by (calls_fence (intrinsic_in (name_in w)))
  where
    inner : Names
    inner = with_name names (codes "CLK_LOCAL_MEM_FENCE") (Other true)

    by : (b : Bool) → AreNamed (if b then with_fences names else names)
    by true = with_named inner (codes "CLK_GLOBAL_MEM_FENCE") (Other true)
        (with_named names (codes "CLK_LOCAL_MEM_FENCE") (Other true) n tt) tt
    by false = n
within_named form w names n = n
