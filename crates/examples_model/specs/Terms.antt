-- Short words for the parts of a typed program, as a reader writes it.
use Rattle.std.specs.Prelude.{ℕ, pos, List, [], ◌∷◌, ◌++◌, None, length}
use Rattle.wg_num.specs.declared.types.IntType.TheVariants as t
use Rattle.wg_num.specs.declared.types.Bin.{Bin}
use Rattle.cl_model.specs.declared.program.Space.TheVariants as space
use Rattle.cl_model.specs.declared.program.Root.{Root}
use Rattle.cl_model.specs.declared.program.Root.TheVariants as root
use Rattle.cl_model.specs.declared.program.VarKind.{VarKind}
use Rattle.cl_model.specs.declared.program.VarKind.TheVariants as kind
use Rattle.cl_model.specs.declared.program.Query.{Query}
use Rattle.cl_model.specs.declared.launch.Bound.{Bound}
use Rattle.cl_model.specs.Tree.{Literal, Variable, Binary, Convert, Ask, Set, Load, Store, Expression, Apply, none}
use Rattle.cl_model.specs.Tree.{single, pair, Statement, Do, Statements, empty, also, Array, Function, Program}
use Rattle.wg_num.specs.Bytes.{bytes_of}
use Rattle.cl_model.specs.Sizes.{Launch}

-- an int literal, a variable, a conversion to long, an operator on ints
abbrev pub number : ℕ → Expression
number n = Apply (Literal (pos n) t.Int) none

abbrev pub named : ℕ → Expression
named x = Apply (Variable x) none

abbrev pub long : Expression → Expression
long e = Apply (Convert t.Long) (single e)

abbrev pub int : Expression → Expression
int e = Apply (Convert t.Int) (single e)

abbrev pub ints : Bin → Expression → Expression → Expression
ints op a b = Apply (Binary op t.Int) (pair a b)

-- a work-item function in a dimension, and in the first one
abbrev pub ask_at : Query → ℕ → Expression
ask_at what d = Apply (Ask what) (single (Apply (Literal (pos d) t.Uint) none))

abbrev pub ask : Query → Expression
ask what = ask_at what 0

-- an int element of a root, and the statements that set one and a variable
abbrev pub element : ℕ → Root → Expression → Expression
element site root i = Apply (Load site t.Int root) (single i)

abbrev pub put : ℕ → Root → Expression → Expression → Statement
put site root i v = Do (Apply (Store site t.Int root) (pair i v))

abbrev pub set : ℕ → Expression → Statement
set x v = Do (Apply (Set x) (single v))

-- lists of statements
abbrev pub one_of : Statement → Statements
one_of s = also s empty

abbrev pub listed : List Statement → Statements
listed [] = empty
listed (s ∷ ss) = also s (listed ss)

-- a parameter that points to global ints
abbrev pub global_ints : ℕ → VarKind
global_ints n = kind.Pointer space.Global t.Int (root.Param n)

abbrev pub an_int : VarKind
an_int = kind.Scalar t.Int

-- local ints
abbrev pub local_ints : ℕ → Array
local_ints n = record { space = space.Local; element = t.Int; count = n }

abbrev pub private_ints : ℕ → Array
private_ints n = record { space = space.Private; element = t.Int; count = n }

-- a kernel with these parameters and variables
abbrev pub kernel : ℕ → List VarKind → List Array → List Statement → Function
kernel parameters variables arrays body =
    record { parameters = parameters; result = None; variables = variables; arrays = arrays; body = listed body }

abbrev pub program : List Function → ℕ → Program
program functions k = record { tables = []; functions = functions; kernel = k; sites = [] }

-- a launch in one dimension
abbrev pub line : ℕ → ℕ → List Bound → List ℕ → Launch
line global local args lengths = record {
  dims = 1;
  global = global ∷ 1 ∷ 1 ∷ [];
  local = local ∷ 1 ∷ 1 ∷ [];
  offset = 0 ∷ 0 ∷ 0 ∷ [];
  turns = 1000;
  args = args;
  lengths = lengths;
  load_count = length lengths;
  save_count = length lengths;
}

-- a buffer of ints
abbrev pub buffer : List ℕ → List ℕ
buffer [] = []
buffer (n ∷ ns) = bytes_of t.Int (pos n) ++ buffer ns
