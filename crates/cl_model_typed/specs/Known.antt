-- What is known of the numbers that a work-item has: those on its list of values, and those in its variables.
use Rattle.std.specs.Prelude.{◌≡◌, ℕ, ℤ, List, [], ◌∷◌, Option, Some, None}
use Rattle.wg_num.specs.declared.types.IntType.{IntType}
use Rattle.wg_num.specs.Wrap.{IsValue}
use Rattle.cl_model.specs.Tree.{Program}
use Rattle.cl_model.specs.Calls.{function_at}
use Rattle.cl_model.specs.Task.{Frame}
use Rattle.cl_model.specs.Valid.{HasVariable}

-- what is known of a number: its type, which it is, or nothing
pub data Known : Type 0 where
  Of : (t : IntType) → Known
  Exactly : (v : ℤ) → Known
  -- what a function without result leaves
  Any : Known

-- the number is as is known
abbrev pub IsKnown : Known → ℤ → Type 0
IsKnown (Of t) v = IsValue t v
IsKnown (Exactly w) v = w ≡ v
IsKnown Any v = Unit {0}

-- each number of the list is, and there are no others
abbrev pub AreKnown : List Known → List ℤ → Type 0
AreKnown [] [] = Unit {0}
AreKnown (k ∷ ks) (v ∷ vs) = IsKnown k v × AreKnown ks vs
AreKnown _ _ = ⊥

-- what is known of what a function with this result leaves
abbrev pub known_of : Option IntType → Known
known_of None = Any
known_of (Some t) = Of t

-- behind values of these types, which were put on the list from left to right
abbrev pub pushed : List IntType → List Known → List Known
pushed [] left = left
pushed (t ∷ ts) left = pushed ts (Of t ∷ left)

-- each variable of a function under way holds a value of its type; that of a pointer, which is its offset, is long
abbrev pub HoldsValues : Program → Frame → Type 0
HoldsValues program frame =
    (x : ℕ) (t : IntType) → HasVariable (function_at program frame.function) x t → IsValue t (frame.variables x)
