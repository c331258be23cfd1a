-- What declarations declare.
use Rattle.std.specs.Prelude.{ℕ, ℤ, pos, suc, ◌*◌, ◌-◌, Bool, true, false, ◌&&◌, ◌||◌, nat_eq, nat_le, List, [], ◌∷◌}
use Rattle.std.specs.Prelude.{◌++◌, length, map, replicate, Option, None, Some, if◌then◌else◌}
use Rattle.wg_num.specs.declared.types.IntType.{IntType}
use Rattle.wg_num.specs.Wrap.{wrap_of}
use Rattle.wg_num.specs.Bytes.{bytes_of, size_of}
use Rattle.cl_model.specs.declared.program.Space.{Space}
use Rattle.cl_model.specs.declared.program.Space.TheVariants as spaces
use Rattle.cl_model.specs.declared.program.Root.{Root}
use Rattle.cl_model.specs.declared.program.Root.TheVariants as roots
use Rattle.cl_model.specs.declared.program.VarKind.{VarKind}
use Rattle.cl_model.specs.declared.program.VarKind.TheVariants as var_kinds
use Rattle.cl_model.specs.Sizes.{product}
use Rattle.cl_tree.specs.declared.tree.Form.{Form}
use Rattle.cl_tree.specs.declared.tree.Form.TheVariants as forms
use Rattle.cl_tree.specs.Syntax.{Syntax, node, Forest, none, more, last_of}
use Rattle.cl_meaning.specs.declared.types.Declared.{Declared}
use Rattle.cl_meaning.specs.Spelling.{name_in, declared_in, is_const, dimensions_in, is_set, is_kernel, requires_size}
use Rattle.cl_meaning.specs.declared.constant.Constant.{Constant}
use Rattle.cl_meaning.specs.Constants.{constant_of}
use Rattle.cl_meaning.specs.declared.kind.Each.{Each}
use Rattle.cl_meaning.specs.declared.kind.Each.TheVariants as each
use Rattle.cl_meaning.specs.declared.kind.Kind.{Kind}
use Rattle.cl_meaning.specs.declared.kind.Kind.TheVariants as kinds
use Rattle.cl_meaning.specs.declared.kind.Entry.{Entry}
use Rattle.cl_meaning.specs.declared.kind.Meaning.{Meaning}
use Rattle.cl_meaning.specs.declared.kind.Meaning.TheVariants as meanings
use Rattle.cl_meaning.specs.declared.kind.Parameter.{Parameter}
use Rattle.cl_meaning.specs.declared.kind.Parameter.TheVariants as parameters
use Rattle.cl_meaning.specs.declared.kind.Yield.{Yield}
use Rattle.cl_meaning.specs.declared.kind.Yield.TheVariants as yields
use Rattle.cl_meaning.specs.Environment.{Env, Array, Signature, place_of, declare, at_unit}

-- ---- parts

abbrev pub form_of : Syntax → Form
form_of (node form w f l parts) = form

abbrev pub word_of : Syntax → List ℕ
word_of (node form w f l parts) = w

abbrev pub parts_of : Syntax → Forest
parts_of (node form w f l parts) = parts

abbrev pub is_star : Syntax → Bool
is_star (node forms.StarNode w f l parts) = true
is_star t = false

-- the star in front of some parts: whether it is const
abbrev pub star_in : Forest → Option Bool
star_in none = None
star_in (more p ps) = if is_star p then Some (is_const (word_of p)) else None

-- the parts behind the star
abbrev pub behind_star : Forest → Forest
behind_star none = none
behind_star (more p ps) = if is_star p then ps else more p ps

abbrev pub listed : Forest → List Syntax
listed none = []
listed (more p ps) = p ∷ listed ps

abbrev pub but_last : List Syntax → List Syntax
but_last [] = []
but_last (p ∷ []) = []
but_last (p ∷ (q ∷ qs)) = p ∷ but_last (q ∷ qs)

abbrev pub last_one : List Syntax → Option Syntax
last_one [] = None
last_one (p ∷ []) = Some p
last_one (p ∷ (q ∷ qs)) = last_one (q ∷ qs)

-- ---- declarators

pub record Declarator : Type 0 where
  pub name : List ℕ
  -- the number of the token of its name
  pub token : ℕ
  -- whether it is a pointer, and then whether it is const itself
  pub star : Option Bool
  -- how many pairs of brackets it has, and the lengths in them: fewer where a pair is empty
  pub dimensions : ℕ
  pub lengths : List Syntax
  pub init : Option Syntax

-- the number of the token behind a star, or else the first one
abbrev pub name_token : ℕ → Forest → ℕ
name_token first none = first
name_token first (more p ps) = if is_star p then suc (last_of p) else first

abbrev pub declarator_in : List ℕ → ℕ → Forest → Declarator
declarator_in w first parts = record {
  name = name_in w;
  token = name_token first parts;
  star = star_in parts;
  dimensions = dimensions_in w;
  lengths = if is_set w then but_last (listed (behind_star parts)) else listed (behind_star parts);
  init = if is_set w then last_one (listed (behind_star parts)) else None;
}

abbrev pub is_list : Option Syntax → Bool
is_list None = false
is_list (Some t) = of_form (form_of t)
  where
    of_form : Form → Bool
    of_form forms.ListNode = true
    of_form _ = false

abbrev pub initialisers : Option Syntax → List Syntax
initialisers None = []
initialisers (Some t) = listed (parts_of t)

-- a length: a constant from 1 to 1,048,576
abbrev pub most_elements : ℕ
most_elements = 1048576

abbrev pub natural : ℤ → ℕ
natural (pos n) = n
natural _ = 0

abbrev pub is_length : ℕ → Bool
is_length n = nat_le 1 n && nat_le n most_elements

abbrev pub length_of_constant : Option Constant → Option ℕ
length_of_constant None = None
length_of_constant (Some c) = if is_length (natural c.value) then Some (natural c.value) else None

abbrev pub length_in : Syntax → Option ℕ
length_in t = length_of_constant (constant_of t)

abbrev pub with_length : Option ℕ → Option (List ℕ) → Option (List ℕ)
with_length (Some n) (Some ns) = Some (n ∷ ns)
with_length _ _ = None

abbrev pub lengths_in : List Syntax → Option (List ℕ)
lengths_in [] = Some []
lengths_in (t ∷ ts) = with_length (length_in t) (lengths_in ts)

-- lengths that an array can have: three at most, and so many elements at most
abbrev pub allowed : Option (List ℕ) → Option (List ℕ)
allowed None = None
allowed (Some ns) = if nat_le (length ns) 3 && nat_le (product ns) most_elements then Some ns else None

-- the length of an array whose brackets are empty: the number of its initialisers
abbrev pub counted_length : Declarator → Option (List ℕ)
counted_length d = if nat_eq d.dimensions 1 && is_list d.init && is_length (length (initialisers d.init)) then Some
    (length (initialisers d.init) ∷ []) else None

-- the lengths of an array; none where they are at fault
abbrev pub dims_of : Declarator → Option (List ℕ)
dims_of d = if nat_eq (length d.lengths) d.dimensions then allowed (lengths_in d.lengths) else counted_length d

abbrev pub or_none : Option (List ℕ) → List ℕ
or_none None = []
or_none (Some ns) = ns

-- what indexing an array of these lengths reaches
abbrev pub each_of : List ℕ → Each
each_of (a ∷ b ∷ []) = each.Row b
each_of (a ∷ b ∷ c ∷ []) = each.Plane b c
each_of ns = each.Element

-- ---- what a declarator declares

-- where an array or a scalar without a star is kept: constant memory in the unit, local memory where it is marked so,
-- and else the item's own
abbrev pub kept_in : Env → Declared → Space
kept_in env d = if at_unit env then spaces.Constant else of_space d.space
  where
    of_space : Option Space → Space
    of_space (Some spaces.Local) = spaces.Local
    of_space s = spaces.Private

-- the space into which a pointer points
abbrev pub pointed_space : Declared → Space
pointed_space d = or_private d.space
  where
    or_private : Option Space → Space
    or_private None = spaces.Private
    or_private (Some s) = s

abbrev pub firm : Meaning → Entry
firm m = record { meaning = m; firm = true }

-- one more variable of the function, which the name stands for
abbrev pub with_variable : Env → List ℕ → ℕ → VarKind → Meaning → Env
with_variable env name token kind m =
    declare (record env {
      variables = env.variables ++ record {
        name = name;
        kind = kind;
        place = place_of env token;
      } ∷ [];
    }) name (firm m)

-- one more array of the function, or table of the unit
abbrev pub with_array : Env → Array → List ℕ → Meaning → Env
with_array env a bytes m = if at_unit env
    then declare (record env { tables = env.tables ++ record { array = a; bytes = bytes } ∷ [] }) a.name (firm m)
    else declare (record env { arrays = env.arrays ++ a ∷ [] }) a.name (firm m)

-- the root of the next object in a space
abbrev pub next_root : Env → Space → Root
next_root env spaces.Constant = roots.Constant (length env.tables)
next_root env spaces.Local = roots.Local (length env.arrays)
next_root env s = roots.Private (length env.arrays)

-- the root of the pointer with which a pointer variable is initialised
abbrev pub root_of : Option Kind → Root
root_of (Some (kinds.Pointer s e c r i p)) = r
root_of k = roots.Param 0

-- the kind of the last part
abbrev pub last_kind : List (Option Kind) → Option Kind
last_kind [] = None
last_kind (k ∷ []) = k
last_kind (k ∷ (j ∷ js)) = last_kind (j ∷ js)

-- the bytes of constants as elements of a type
abbrev pub constant_bytes : IntType → Option Constant → List ℕ
constant_bytes t None = []
constant_bytes t (Some c) = bytes_of t (wrap_of t c.value)

abbrev pub all_bytes : IntType → List Syntax → List ℕ
all_bytes t [] = []
all_bytes t (p ∷ ps) = constant_bytes t (constant_of p) ++ all_bytes t ps

-- bytes, with zeros behind them up to that many
abbrev pub filled : ℕ → List ℕ → List ℕ
filled n bytes = bytes ++ replicate (n - length bytes) 0

abbrev pub initial_values : Option Syntax → List Syntax
initial_values None = []
initial_values (Some t) = if is_list (Some t) then listed (parts_of t) else t ∷ []

-- the bytes of a table of the unit
abbrev pub table_bytes : Declared → List ℕ → Declarator → List ℕ
table_bytes d dims x = filled (product dims * size_of d.of) (all_bytes d.of (initial_values x.init))

abbrev pub array_in : Env → Space → Declared → Declarator → List ℕ → Array
array_in env s d x dims = record { name = x.name; space = s; element = d.of; dims = dims; place = place_of env x.token }

-- a pointer variable, whose root is that of its initialiser
abbrev pub with_pointer : Env → Declared → Declarator → Bool → Root → Env
with_pointer env d x fixed r =
    with_variable env x.name x.token (var_kinds.Pointer (pointed_space d) d.of r)
    (meanings.Pointer (pointed_space d) d.of d.constant r fixed (length env.variables))

-- a scalar: a variable of the function, or an object of one element
abbrev pub with_scalar : Env → Declared → Declarator → Space → Env
with_scalar env d x spaces.Private =
    with_variable env x.name x.token (var_kinds.Scalar d.of) (meanings.Scalar d.of d.constant (length env.variables))
with_scalar env d x s = with_array env (array_in env s d x (1 ∷ [])) (table_bytes d (1 ∷ []) x)
    (meanings.Object s d.of d.constant (next_root env s))

abbrev pub with_elements : Env → Declared → Declarator → Space → List ℕ → Env
with_elements env d x s dims =
    with_array env (array_in env s d x dims) (table_bytes d dims x)
    (meanings.Array s d.of d.constant (next_root env s) (each_of dims))

-- behind a declarator, whose last part has that kind
abbrev pub with_declarator : Env → Option Declared → Declarator → Option Kind → Env
with_declarator env None x k = env
with_declarator env (Some d) x k = by_star x.star
  where
    by_star : Option Bool → Env
    by_star (Some fixed) = with_pointer env d x fixed (root_of k)
    by_star None = if nat_eq x.dimensions 0 then with_scalar env d x (kept_in env d) else with_elements env d x
        (kept_in env d) (or_none (dims_of x))

-- ---- parameters and functions

abbrev pub first_type : Forest → Option Declared
first_type none = None
first_type (more p ps) = declared_in p

-- the star behind the type of a parameter
abbrev pub second_star : Forest → Option Bool
second_star none = None
second_star (more p ps) = star_in ps

abbrev pub parameter_by : Option Declared → Option Bool → Parameter
parameter_by None star = parameters.Outside
parameter_by (Some d) None = parameters.Number d.of
parameter_by (Some d) (Some fixed) = parameters.Pointer (pointed_space d) d.of d.constant

abbrev pub parameter_of : Forest → Parameter
parameter_of parts = parameter_by (first_type parts) (second_star parts)

-- behind a parameter
abbrev pub with_parameter : Env → List ℕ → ℕ → Option Declared → Option Bool → Env
with_parameter env name token None star = env
with_parameter env name token (Some d) None =
    with_variable env name token (var_kinds.Scalar d.of) (meanings.Scalar d.of d.constant (length env.variables))
with_parameter env name token (Some d) (Some fixed) =
    with_variable env name token (var_kinds.Pointer (pointed_space d) d.of (roots.Param (length env.variables)))
    (meanings.Pointer (pointed_space d) d.of d.constant (roots.Param (length env.variables)) fixed
    (length env.variables))

abbrev pub parameters_of : Forest → List Parameter
parameters_of none = []
parameters_of (more p ps) = parameter_of (parts_of p) ∷ parameters_of ps

abbrev pub yield_by : Option Declared → Yield
yield_by None = yields.Outside
yield_by (Some d) = yields.Number d.of

-- what a result says: `void`, or a type
abbrev pub yield_of : Forest → Yield
yield_of none = yields.Nothing
yield_of (more t ts) = yield_by (declared_in t)

abbrev pub is_kernel_head : Syntax → Bool
is_kernel_head t = is_kernel (word_of t)

-- the parts of a function or prototype: heads, result, parameters
abbrev pub with_part : Signature → Form → Syntax → Signature
with_part g forms.HeadNode p = record g { kernel = g.kernel || is_kernel_head p }
with_part g forms.ResultNode p = record g { result = yield_of (parts_of p) }
with_part g forms.ParamsNode p = record g { parameters = parameters_of (parts_of p) }
with_part g form p = g

abbrev pub with_parts : Signature → Forest → Signature
with_parts g none = g
with_parts g (more p ps) = with_parts (with_part g (form_of p) p) ps

abbrev pub signature_in : List ℕ → Forest → Signature
signature_in w parts =
    with_parts (record { name = name_in w; kernel = false; result = yields.Nothing; parameters = [] }) parts

-- the functions that a unit defines, in order
abbrev pub definitions_in : Forest → List Signature
definitions_in none = []
definitions_in (more p ps) = with_definition (form_of p) p (definitions_in ps)
  where
    with_definition : Form → Syntax → List Signature → List Signature
    with_definition forms.FunctionNode p others = signature_in (word_of p) (parts_of p) ∷ others
    with_definition form p others = others

-- the sizes that an attribute requires, if it requires some
abbrev pub size_in : Syntax → ℕ
size_in t = of_constant (constant_of t)
  where
    of_constant : Option Constant → ℕ
    of_constant None = 0
    of_constant (Some c) = natural c.value

abbrev pub sizes_in : Syntax → Option (List ℕ)
sizes_in (node forms.AttributeNode w f l parts) = if requires_size w then Some (map size_in (listed parts)) else None
sizes_in t = None
