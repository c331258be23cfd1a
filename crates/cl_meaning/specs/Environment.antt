-- What is visible at a node and what is around it.
use Rattle.std.specs.Prelude.{ℕ, ℤ, Bool, true, false, List, [], ◌∷◌, slice_get, Option, None, Some, if◌then◌else◌}
use Rattle.std.specs.Prelude.{length}
use Rattle.std.specs.Str.{bytes_eq}
use Rattle.wg_num.specs.declared.types.IntType.{IntType}
use Rattle.wg_num.specs.declared.types.Place.{Place}
use Rattle.cl_model.specs.declared.program.Space.{Space}
use Rattle.cl_model.specs.declared.program.VarKind.{VarKind}
use Rattle.cl_meaning.specs.declared.types.Declared.{Declared}
use Rattle.cl_meaning.specs.declared.kind.Entry.{Entry}
use Rattle.cl_meaning.specs.declared.kind.Meaning.{Meaning}
use Rattle.cl_meaning.specs.declared.kind.Parameter.{Parameter}
use Rattle.cl_meaning.specs.declared.kind.Yield.{Yield}
use Rattle.cl_meaning.specs.declared.kind.Yield.TheVariants as yields

-- the names that a scope declares
abbrev pub Scope : Type 0
Scope = List ℕ → Option Entry

-- a variable that a function declares, with the place of its name
pub record Variable : Type 0 where
  pub name : List ℕ
  pub kind : VarKind
  pub place : Place

-- an array, or an object of one element, with its lengths, outermost first
pub record Array : Type 0 where
  pub name : List ℕ
  pub space : Space
  pub element : IntType
  pub dims : List ℕ
  pub place : Place

-- a constant table of the unit, with its bytes
pub record Table : Type 0 where
  pub array : Array
  pub bytes : List ℕ

-- what a function or prototype says of itself before its block
pub record Signature : Type 0 where
  pub name : List ℕ
  pub kernel : Bool
  pub result : Yield
  pub parameters : List Parameter

-- the function or prototype around a node: the number of its definition, and whether it is one; a prototype has the
-- number of none
pub record Owner : Type 0 where
  pub number : ℕ
  pub kernel : Bool
  pub defining : Bool
  pub result : Yield
  pub sizes : Option (List ℕ)

-- The labels before a statement that stands at the outer level of a switch body: the type to which they are
-- converted, their values, and whether `default` is one of them.
pub record Labels : Type 0 where
  pub of : IntType
  pub values : List ℤ
  pub other : Bool

pub record Env : Type 0 where
  -- the place of each token; the same everywhere
  pub places : List Place
  -- the functions that the unit defines, in order; the same everywhere
  pub functions : List Signature
  -- the scopes around the node, innermost last
  pub scopes : List Scope
  -- the constant tables of the unit, and the variables and arrays of the function, so far
  pub tables : List Table
  pub variables : List Variable
  pub arrays : List Array
  pub owner : Owner
  -- the type in front of declarators; none where it is outside the profile
  pub declared : Option Declared
  -- whether the two names of memory fences are known: in the argument of a fence
  pub flags : Bool
  -- whether the next block is that of a function, which shares the scope of its parameters
  pub in_body : Bool
  pub in_loop : Bool
  pub in_switch : Bool
  pub labels : Option Labels

-- the place of a token; there is one for each token of the unit
abbrev pub or_start : Option Place → Place
or_start None = record { line = 1; column = 1 }
or_start (Some p) = p

abbrev pub place_of : Env → ℕ → Place
place_of env token = or_start (slice_get env.places token)

-- the scope, with one name more
abbrev pub with_entry : Scope → List ℕ → Entry → Scope
with_entry scope name e q = if bytes_eq name q then Some e else scope q

abbrev pub empty_scope : Scope
empty_scope q = None

-- the innermost scope, with one name more
abbrev pub into_last : List Scope → List ℕ → Entry → List Scope
into_last [] name e = []
into_last (s ∷ []) name e = with_entry s name e ∷ []
into_last (s ∷ (r ∷ rs)) name e = s ∷ into_last (r ∷ rs) name e

abbrev pub declare : Env → List ℕ → Entry → Env
declare env name e = record env { scopes = into_last env.scopes name e }

-- the first that is there
abbrev pub or_else : {A : Type 0} → Option A → Option A → Option A
or_else (Some a) b = Some a
or_else None b = b

-- what the name stands for: an inner scope hides the outer ones
abbrev pub found_in : List Scope → List ℕ → Option Entry
found_in [] q = None
found_in (s ∷ ss) q = or_else (found_in ss q) (s q)

abbrev pub in_last : List Scope → List ℕ → Option Entry
in_last [] q = None
in_last (s ∷ []) q = s q
in_last (s ∷ (r ∷ rs)) q = in_last (r ∷ rs) q

abbrev pub meaning_in : Option Entry → Option Meaning
meaning_in None = None
meaning_in (Some e) = Some e.meaning

abbrev pub meaning_of : Env → List ℕ → Option Meaning
meaning_of env q = meaning_in (found_in env.scopes q)

abbrev pub is_firm : Option Entry → Bool
is_firm None = false
is_firm (Some e) = e.firm

-- whether the name is already declared in the innermost scope, prototypes aside
abbrev pub is_declared : Env → List ℕ → Bool
is_declared env q = is_firm (in_last env.scopes q)

-- whether the node is outside all functions
abbrev pub at_unit : Env → Bool
at_unit env = one_long env.scopes
  where
    one_long : List Scope → Bool
    one_long (s ∷ []) = true
    one_long _ = false

-- whether the innermost scope is that of a function's parameters and outermost block: then the scope around it has the
-- function's own name alone, and the next one is the unit's
abbrev pub at_outermost : Env → Bool
at_outermost env = three_long env.scopes
  where
    three_long : List Scope → Bool
    three_long (s ∷ r ∷ q ∷ []) = true
    three_long _ = false

-- outside every function of a unit, where the number is that of none of its functions
abbrev pub no_owner : ℕ → Owner
no_owner count = record { number = count; kernel = false; defining = false; result = yields.Nothing; sizes = None }

-- what is visible at the unit: nothing but what is defined later
abbrev pub at_start : List Place → List Signature → Env
at_start places functions = record {
  places = places;
  functions = functions;
  scopes = empty_scope ∷ [];
  tables = [];
  variables = [];
  arrays = [];
  owner = no_owner (length functions);
  declared = None;
  flags = false;
  in_body = false;
  in_loop = false;
  in_switch = false;
  labels = None;
}
