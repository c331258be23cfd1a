-- How deep barriers stand in functions. A height is 0 where there is no barrier, and else one more than the number of
-- `if`, loop and `switch` statements around the deepest one. A statement is around all of its parts: a `for` around
-- its first part, its test and its step as around its body. A call stands for the function of that name.
use Rattle.std.specs.Prelude.{ℕ, zero, suc, ◌+◌, max, Bool, true, false, List, [], ◌∷◌, length, Option, None, Some}
use Rattle.std.specs.Prelude.{slice_get, if◌then◌else◌}
use Rattle.std.specs.Str.{bytes_eq}
use Rattle.cl_tree.specs.declared.tree.Form.{Form}
use Rattle.cl_tree.specs.declared.tree.Form.TheVariants as forms
use Rattle.cl_tree.specs.Syntax.{Syntax, node, Forest, none, more}
use Rattle.cl_meaning.specs.declared.names.Intrinsic.{Intrinsic}
use Rattle.cl_meaning.specs.declared.names.Intrinsic.TheVariants as intrinsics
use Rattle.cl_meaning.specs.Spelling.{name_in, intrinsic_in}

-- the functions that some trees define, in order
abbrev pub is_function : Form → Bool
is_function forms.FunctionNode = true
is_function form = false

abbrev pub functions_among : Forest → List Syntax
functions_among none = []
functions_among (more (node form word first last parts) ts) =
    if is_function form then node form word first last parts ∷ functions_among ts else functions_among ts

abbrev pub functions_in : Syntax → List Syntax
functions_in (node form word first last parts) = functions_among parts

-- ---- what a call calls

abbrev pub is_barrier : Option Intrinsic → Bool
is_barrier (Some intrinsics.Barrier) = true
is_barrier i = false

abbrev pub is_named : List ℕ → Syntax → Bool
is_named name (node form word first last parts) = bytes_eq (name_in word) name

-- the number of the first function of that name
abbrev pub number_from : List ℕ → ℕ → List Syntax → Option ℕ
number_from name n [] = None
number_from name n (t ∷ ts) = if is_named name t then Some n else number_from name (suc n) ts

-- the height of a function, where there is one
abbrev pub number_height : (ℕ → ℕ) → Option ℕ → ℕ
number_height g None = 0
number_height g (Some f) = g f

-- the height of what a name calls among some functions, where `g` is that of the function of each number
abbrev pub called_height : (ℕ → ℕ) → List Syntax → List ℕ → ℕ
called_height g functions name =
    if is_barrier (intrinsic_in name) then 1 else number_height g (number_from name 0 functions)

-- ---- heights

-- the height with so many statements more around it
abbrev pub lifted : ℕ → ℕ → ℕ
lifted n zero = 0
lifted n (suc h) = suc h + n

abbrev pub is_branch : Form → Bool
is_branch forms.IfNode = true
is_branch forms.WhileNode = true
is_branch forms.DoNode = true
is_branch forms.ForNode = true
is_branch forms.SwitchNode = true
is_branch form = false

-- the height with a node around it
abbrev pub inside : Bool → ℕ → ℕ
inside true h = lifted 1 h
inside false h = h

-- the height of a node of a production without its parts, where `g` is that of what each name calls
abbrev pub own_height : (List ℕ → ℕ) → Form → List ℕ → ℕ
own_height g forms.CallNode word = g (name_in word)
own_height g form word = 0

abbrev mutual
  pub height_of : (List ℕ → ℕ) → Syntax → ℕ
  height_of g (node form word first last parts) =
      inside (is_branch form) (max (own_height g form word) (height_of_all g parts))

  pub height_of_all : (List ℕ → ℕ) → Forest → ℕ
  height_of_all g none = 0
  height_of_all g (more t ts) = max (height_of g t) (height_of_all g ts)

-- of a function that may not be there
abbrev pub function_height : (List ℕ → ℕ) → Option Syntax → ℕ
function_height g None = 0
function_height g (Some t) = height_of g t

-- the height of the function of a number among some, where calls nest less deep than the first number
unfoldable pub height : ℕ → List Syntax → ℕ → ℕ
height zero functions f = 0
height (suc n) functions f = function_height (called_height (height n functions) functions) (slice_get functions f)

-- in a unit without recursion calls nest less deep than there are functions
abbrev pub full_height : List Syntax → ℕ → ℕ
full_height functions f = height (length functions) functions f
