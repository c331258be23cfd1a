-- Which expressions are vectors, and what names stand for.
use Rattle.std.specs.Prelude.{ℕ, List, Option, None, Some, if◌then◌else◌, nat_eq, length, codes}
use Rattle.std.specs.Prelude.{Bool, true, false, not, ◌&&◌}
use Rattle.std.specs.Str.{bytes_eq}
use Rattle.wg_num.specs.declared.types.Bin.{Bin}
use Rattle.wg_num.specs.declared.types.Bin.TheVariants as bins
use Rattle.wg_num.specs.declared.types.Un.TheVariants as uns
use Rattle.wg_num.specs.Builtins.{result_type}
use Rattle.cl_model.specs.declared.program.Space.{Space}
use Rattle.cl_model.specs.declared.program.Space.TheVariants as spaces
use Rattle.cl_tree.specs.declared.tree.Form.{Form}
use Rattle.cl_tree.specs.declared.tree.Form.TheVariants as forms
use Rattle.cl_tree.specs.Syntax.{Syntax, node, Forest, none, more}
use Rattle.cl_meaning.specs.declared.operators.Prefix.{Prefix}
use Rattle.cl_meaning.specs.declared.operators.Prefix.TheVariants as prefixes
use Rattle.cl_meaning.specs.declared.operators.Postfix.{Postfix}
use Rattle.cl_meaning.specs.declared.operators.Postfix.TheVariants as postfixes
use Rattle.cl_meaning.specs.declared.names.Intrinsic.{Intrinsic}
use Rattle.cl_meaning.specs.declared.names.Intrinsic.TheVariants as intrinsics
use Rattle.cl_meaning.specs.Spelling.{name_in, is_const, dimensions_in, intrinsic_in}
use Rattle.cl_meaning.specs.Types.{space_among, declared_in}
use Rattle.cl_meaning.specs.Conversions.{is_comparison}
use Rattle.cl_meaning.specs.Declarations.{star_in, second_star, word_of, parts_of}
use Rattle.cl_meaning.specs.Kinds.{is_some, is_fence}
use Rattle.cl_short_vec.specs.declared.types.Vector.{Vector}
use Rattle.cl_short_vec.specs.declared.kinds.Reach.{Reach}
use Rattle.cl_short_vec.specs.declared.kinds.Reach.TheVariants.{Value, Variable, Element}
use Rattle.cl_short_vec.specs.declared.kinds.Kind.{Kind}
use Rattle.cl_short_vec.specs.declared.kinds.Kind.TheVariants.{Vectors, Pointer, Other}
use Rattle.cl_short_vec.specs.Types.{vector, vector_type, signed_of, selected}

-- ---- names

-- what each visible name stands for
abbrev pub Names : Type 0
Names = List ℕ → Kind

-- outside all declarations
abbrev pub no_names : Names
no_names q = Other false

abbrev pub with_name : Names → List ℕ → Kind → Names
with_name names name k q = if bytes_eq name q then k else names q

-- the space into which a type with this space word points, or in which its arrays are
abbrev pub space_or_private : Option Space → Space
space_or_private None = spaces.Private
space_or_private (Some s) = s

-- what points to vectors of that type
abbrev pub pointer_to : Vector → Syntax → Kind
pointer_to v type = Pointer (space_or_private (space_among (parts_of type))) (is_const (word_of type)) v

-- a declarator that declares a variable, with its own words and its parts: it has neither a star nor brackets
abbrev pub is_variable : List ℕ → Forest → Bool
is_variable w parts = nat_eq (dimensions_in w) 0 && not (is_some (star_in parts))

-- what a declarator behind a vector type declares
abbrev pub declared_kind : Vector → Syntax → Syntax → Kind
declared_kind v type d = if is_variable (word_of d) (parts_of d) then Vectors v Variable else pointer_to v type

-- behind a declarator of that type; a type outside the profile declares nothing
abbrev pub behind_declared : Option Vector → Names → Syntax → Syntax → Names
behind_declared (Some v) names type d = with_name names (name_in (word_of d)) (declared_kind v type d)
behind_declared None names type d =
    if is_some (declared_in type) then with_name names (name_in (word_of d)) (Other true) else names

abbrev pub behind_declarator : Names → Syntax → Syntax → Names
behind_declarator names type d = behind_declared (vector_type type) names type d

abbrev pub behind_declarators : Names → Syntax → Forest → Names
behind_declarators names type none = names
behind_declarators names type (more d ds) = behind_declarators (behind_declarator names type d) type ds

-- a pointer parameter to vectors, from its type and the star behind it
abbrev pub pointed_by : Option Vector → Option Bool → Syntax → Kind
pointed_by (Some v) (Some fixed) type = pointer_to v type
pointed_by v star type = Other true

abbrev pub parameter_kind : Forest → Kind
parameter_kind none = Other true
parameter_kind (more type others) = pointed_by (vector_type type) (second_star (more type others)) type

abbrev pub behind_parameter : Names → Syntax → Names
behind_parameter names p = with_name names (name_in (word_of p)) (parameter_kind (parts_of p))

abbrev pub behind_parameters : Names → Forest → Names
behind_parameters names none = names
behind_parameters names (more p ps) = behind_parameters (behind_parameter names p) ps

abbrev pub behind_declaration : Names → Forest → Names
behind_declaration names none = names
behind_declaration names (more type ds) = behind_declarators names type ds

-- what is visible behind a line of a block, the parameters of a function or an item of a unit
abbrev pub behind : Names → Syntax → Names
behind names (node forms.DeclareNode w f l parts) = behind_declaration names parts
behind names (node forms.ParamsNode w f l parts) = behind_parameters names parts
behind names (node forms.FunctionNode w f l parts) = with_name names (name_in w) (Other false)
behind names t = names

-- behind a part of a declaration, from its type on
abbrev pub behind_part : Names → (declaration : Forest) → (front : Bool) → Syntax → Names
behind_part names (more type ds) false p = behind_declarator names type p
behind_part names parts front p = names

-- whether a name that is known without a declaration is that of a barrier or a fence
abbrev pub calls_fence : Option Intrinsic → Bool
calls_fence None = false
calls_fence (Some i) = is_fence i

-- The names of fences stand for no vectors.
abbrev pub with_fences : Names → Names
with_fences names = with_name (with_name names (codes "CLK_LOCAL_MEM_FENCE") (Other true))
    (codes "CLK_GLOBAL_MEM_FENCE") (Other true)

-- what names stand for at the parts of a node of that production with these own words: in the argument of a fence, the
-- names of fences are known first
abbrev pub within : Form → List ℕ → Names → Names
within forms.CallNode w names = if calls_fence (intrinsic_in (name_in w)) then with_fences names else names
within form w names = names

-- what is visible behind a part of a node of that production with these parts
abbrev pub later : Form → Forest → Names → (front : Bool) → Syntax → Names
later forms.DeclareNode parts names front p = behind_part names parts front p
later form parts names front p = behind names p

-- ---- expressions

-- whether it is known what it is: not of a name that is not visible
abbrev pub is_known : Kind → Bool
is_known (Other known) = known
is_known k = true

abbrev pub is_other : Kind → Bool
is_other (Other known) = true
is_other k = false

abbrev pub is_vector : Kind → Bool
is_vector (Vectors v r) = true
is_vector k = false

-- the value of a vector
abbrev pub value_of : Kind → Kind
value_of (Vectors v r) = Vectors v Value
value_of k = Other (is_known k)

-- the value of the first of two that is a vector
abbrev pub first_vector : Kind → Kind → Kind
first_vector j k = if is_vector j then value_of j else value_of k

-- a pointer is what a comma or an assignment gives; a vector is not
abbrev pub pointer_alone : Kind → Kind
pointer_alone (Pointer s c v) = Pointer s c v
pointer_alone k = Other (is_known k)

abbrev pub element_of : Kind → Kind
element_of (Pointer s c v) = Vectors v (Element s c)
element_of k = Other (is_known k)

abbrev pub address_of : Kind → Kind
address_of (Vectors v (Element s c)) = Pointer s c v
address_of k = Other (is_known k)

-- components that are selected: of several, a vector
abbrev pub several : Vector → Reach → Option (List ℕ) → Kind
several v r None = Other true
several v r (Some ks) = if nat_eq (length ks) 1 then Other true else Vectors (vector v.of (length ks)) r

abbrev pub selection_of : Kind → List ℕ → Kind
selection_of (Vectors v r) name = several v r (selected v.count name)
selection_of k name = Other true

-- the components of a comparison are 0 and -1 of the signed type
abbrev pub compared : Bin → Kind → Kind
compared op (Vectors v r) = if is_comparison op then Vectors (vector (signed_of v.of) v.count) r else Vectors v r
compared op k = k

-- a pointer and a number added, in either order; a number taken from a pointer
abbrev pub pointer_moved : Bin → Kind → Kind → Kind
pointer_moved bins.Add (Pointer s c v) (Other b) = Pointer s c v
pointer_moved bins.Add (Other b) (Pointer s c v) = Pointer s c v
pointer_moved bins.Sub (Pointer s c v) (Other b) = Pointer s c v
pointer_moved op j k = Other (is_known j && is_known k)

abbrev pub joined_kind : Option Bin → Kind → Kind → Kind
joined_kind None j k = Other true
joined_kind (Some op) j k = if is_vector (first_vector j k) then compared op (first_vector j k) else
    pointer_moved op j k

abbrev pub prefix_kind : Option Prefix → Kind → Kind
prefix_kind (Some (prefixes.Operator uns.Not)) k = Other true
prefix_kind (Some (prefixes.Operator op)) k = value_of k
prefix_kind (Some prefixes.Content) k = element_of k
prefix_kind (Some prefixes.Address) k = address_of k
prefix_kind (Some (prefixes.Step op)) k = pointer_alone k
prefix_kind p k = Other true

abbrev pub postfix_kind : (selection : Option (List ℕ)) → Option Postfix → Kind → Kind
postfix_kind (Some name) p k = selection_of k name
postfix_kind None (Some postfixes.Index) k = element_of k
postfix_kind None (Some (postfixes.Step op)) k = pointer_alone k
postfix_kind None None k = Other true

-- a function that is known without a declaration, of which some argument is a vector
abbrev pub called_kind : Option Intrinsic → Kind → Kind
called_kind (Some (intrinsics.Function g)) (Vectors v r) = Vectors (vector (result_type g v.of) v.count) Value
called_kind i k = Other true

abbrev pub cast_kind : Option Vector → Kind
cast_kind None = Other true
cast_kind (Some v) = Vectors v Value

-- a node of that production is an operator on two operands, `&&` and `||` aside
abbrev pub is_operator : Form → Bool
is_operator forms.TermNode = true
is_operator forms.SumNode = true
is_operator forms.ShiftNode = true
is_operator forms.OrderNode = true
is_operator forms.EqualNode = true
is_operator forms.BandNode = true
is_operator forms.BxorNode = true
is_operator forms.BorNode = true
is_operator form = false
