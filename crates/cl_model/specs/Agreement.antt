-- What it means that a variable agrees: items of one group that stand at one point in its scope hold equal values of
-- it.
use Rattle.std.specs.Prelude.{◌≡◌, ℕ, zero, suc, ◌<◌, ℤ, pos, List, [], ◌∷◌, ◌++◌, Option, Some, None, length}
use Rattle.std.specs.Prelude.{slice_get, nat_eq, ◌⊎◌, if◌then◌else◌}
use Rattle.work_items.specs.Items.{Move}
use Rattle.work_items.specs.Runs.{world_after, IsRun}
use Rattle.work_items.specs.Histories.{Deed}
use Rattle.cl_model.specs.Tree.{Expression, Apply, Update, Choose, Call, Expressions, none, more, Statement, Do}
use Rattle.cl_model.specs.Tree.{Declare, Fill, Block, If, Loop, Switch, Return, Statements, empty, also, Arms, no_arm}
use Rattle.cl_model.specs.Tree.{arm, Program}
use Rattle.cl_model.specs.Sizes.{Launch, item_count, group_of}
use Rattle.cl_model.specs.Calls.{function_at}
use Rattle.cl_model.specs.Task.{Operand, Tested, Chosen, Other, Nth, Turn, Body, Step, Arm, Into, Point, Frame, Item}
use Rattle.cl_model.specs.Task.{first_point}
use Rattle.cl_model.specs.Meaning.{machine_of, start_world, ItemHistory}
use Rattle.cl_model.specs.Valid.{numbers_below}

-- a variable of a function
pub record Owned : Type 0 where
  pub function : ℕ
  pub variable : ℕ

-- variables of the function with this number
abbrev pub owned_by : ℕ → List ℕ → List Owned
owned_by f [] = []
owned_by f (x ∷ xs) = record { function = f; variable = x } ∷ owned_by f xs

-- the variable is one of them
abbrev pub HasOwned : List Owned → Owned → Type 0
HasOwned [] v = ⊥
HasOwned (u ∷ scope) v = ((u.function ≡ v.function) × (u.variable ≡ v.variable)) ⊎ HasOwned scope v

-- the variable is in scope at the place in the expression of a function to which the way leads, where `inside` says
-- it of the places in a call; a place in a call stands in the scopes in which the call stands as well
abbrev mutual
  pub IsInScope : (ℕ → Point → Owned → Type 0) → List Owned → Expression → Point → Owned → Type 0
  IsInScope inside scope (Apply action operands) (Operand k ∷ way) v = IsInScopeAmong inside scope operands k way v
  IsInScope inside scope (Update site element root op of back old index value) (Operand zero ∷ way) v =
      IsInScope inside scope index way v
  IsInScope inside scope (Update site element root op of back old index value) (Operand (suc k) ∷ way) v =
      IsInScope inside scope value way v
  IsInScope inside scope (Choose site test chosen other) (Tested ∷ way) v = IsInScope inside scope test way v
  IsInScope inside scope (Choose site test chosen other) (Chosen ∷ way) v = IsInScope inside scope chosen way v
  IsInScope inside scope (Choose site test chosen other) (Other ∷ way) v = IsInScope inside scope other way v
  IsInScope inside scope (Call site g roots arguments) (Operand k ∷ way) v =
      IsInScopeAmong inside scope arguments k way v
  IsInScope inside scope (Call site g roots arguments) (Into ∷ way) v = HasOwned scope v ⊎ inside g way v
  IsInScope inside scope _ _ v = HasOwned scope v

  -- in the expression with this number
  pub IsInScopeAmong : (ℕ → Point → Owned → Type 0) → List Owned → Expressions → ℕ → Point → Owned → Type 0
  IsInScopeAmong inside scope none k way v = HasOwned scope v
  IsInScopeAmong inside scope (more e rest) zero way v = IsInScope inside scope e way v
  IsInScopeAmong inside scope (more e rest) (suc k) way v = IsInScopeAmong inside scope rest k way v

-- the same of an expression that may be absent
abbrev pub IsInScopeOptional : (ℕ → Point → Owned → Type 0) → List Owned → Option Expression → Point → Owned → Type 0
IsInScopeOptional inside scope None way v = HasOwned scope v
IsInScopeOptional inside scope (Some e) way v = IsInScope inside scope e way v

-- in a statement of the function with this number
abbrev mutual
  pub IsInScopeAt : (ℕ → Point → Owned → Type 0) → ℕ → List Owned → Statement → Point → Owned → Type 0
  IsInScopeAt inside f scope (Do e) (Operand k ∷ way) v = IsInScope inside scope e way v
  IsInScopeAt inside f scope (Declare x value) (Operand k ∷ way) v = IsInScopeOptional inside scope value way v
  IsInScopeAt inside f scope (Fill site array values) (Operand k ∷ way) v = IsInScopeAmong inside scope values k way v
  IsInScopeAt inside f scope (Block list) (Nth k ∷ way) v = IsInScopeList inside f scope list k way v
  IsInScopeAt inside f scope (If site test chosen other) (Tested ∷ way) v = IsInScope inside scope test way v
  IsInScopeAt inside f scope (If site test chosen other) (Chosen ∷ Nth k ∷ way) v =
      IsInScopeList inside f scope chosen k way v
  IsInScopeAt inside f scope (If site test chosen other) (Other ∷ Nth k ∷ way) v =
      IsInScopeList inside f scope other k way v
  IsInScopeAt inside f scope (Loop site test_first test step body) (Turn k ∷ Tested ∷ way) v =
      IsInScopeOptional inside scope test way v
  IsInScopeAt inside f scope (Loop site test_first test step body) (Turn k ∷ Step ∷ way) v =
      IsInScopeOptional inside scope step way v
  IsInScopeAt inside f scope (Loop site test_first test step body) (Turn k ∷ Body ∷ way) v =
      IsInScopeAt inside f scope body way v
  IsInScopeAt inside f scope (Switch site value arms) (Tested ∷ way) v = IsInScope inside scope value way v
  IsInScopeAt inside f scope (Switch site value arms) (Arm j ∷ Nth k ∷ way) v =
      IsInScopeArm inside f scope arms j k way v
  IsInScopeAt inside f scope (Return site value) (Operand k ∷ way) v = IsInScopeOptional inside scope value way v
  IsInScopeAt inside f scope _ _ v = HasOwned scope v

  -- in the statement of a list with this number; behind a declaration its variable is in scope
  pub IsInScopeList : (ℕ → Point → Owned → Type 0) → ℕ → List Owned → Statements → ℕ → Point → Owned → Type 0
  IsInScopeList inside f scope empty k way v = HasOwned scope v
  IsInScopeList inside f scope (also s rest) zero way v = IsInScopeAt inside f scope s way v
  IsInScopeList inside f scope (also (Declare x value) rest) (suc k) way v =
      IsInScopeList inside f (record { function = f; variable = x } ∷ scope) rest k way v
  IsInScopeList inside f scope (also s rest) (suc k) way v = IsInScopeList inside f scope rest k way v

  -- in the statement with this number of the arm with that number
  pub IsInScopeArm : (ℕ → Point → Owned → Type 0) → ℕ → List Owned → Arms → ℕ → ℕ → Point → Owned → Type 0
  IsInScopeArm inside f scope no_arm j k way v = HasOwned scope v
  IsInScopeArm inside f scope (arm labels other body rest) zero k way v = IsInScopeList inside f scope body k way v
  IsInScopeArm inside f scope (arm labels other body rest) (suc j) k way v = IsInScopeArm inside f scope rest j k way v

-- the variable is in scope at a place of the body of a function, whose parameters are declared before it, with calls
-- nested less deep than the depth
abbrev pub IsInBody : Program → ℕ → ℕ → Point → Owned → Type 0
IsInBody program zero f way v = ⊥
IsInBody program (suc depth) f way v =
    IsInScopeAt (IsInBody program depth) f (owned_by f (numbers_below (function_at program f).parameters))
    (Block (function_at program f).body) way v

-- the variable is in scope at the point
abbrev pub IsScopedAt : Program → Point → Owned → Type 0
IsScopedAt program point v = IsInBody program (length program.functions) program.kernel point v

-- what the item holds in a variable: that of the innermost frame of its function
abbrev pub held_in : List Frame → Owned → ℤ
held_in [] v = pos 0
held_in (frame ∷ frames) v = if nat_eq frame.function v.function then frame.variables v.variable else held_in frames v

-- whenever two histories of items of one group end at one point in the scope of the variable, after its declaration,
-- it has equal values at the two ends
abbrev pub Agrees : Program → Launch → List (List ℕ) → Owned → Type 0
Agrees program launch buffers v =
    (one other : ℕ) → one < item_count launch → other < item_count launch → group_of launch one ≡ group_of launch other
    → (deeds deeds' : List Deed) (i j : Item) → ItemHistory program launch buffers one deeds i →
    ItemHistory program launch buffers other deeds' j
    → (point : Point) → first_point i.tasks ≡ Some point → first_point j.tasks ≡ Some point → IsScopedAt program point v
    → held_in i.frames v ≡ held_in j.frames v

-- and so in every run: whenever two items of one group stand, at any two moments of the run, at one such point
abbrev pub AgreesInRuns : Program → Launch → List (List ℕ) → Owned → Type 0
AgreesInRuns program launch buffers v =
    (moves more : List Move) (one other : ℕ) (i j : Item) (point : Point) →
    IsRun (machine_of program launch) (start_world program launch buffers) (moves ++ more) →
    group_of launch one ≡ group_of launch other
    → slice_get (world_after (machine_of program launch) (start_world program launch buffers) moves).items one ≡ Some i
    → slice_get (world_after (machine_of program launch) (start_world program launch buffers) (moves ++ more)).items
    other ≡ Some j
    → first_point i.tasks ≡ Some point → first_point j.tasks ≡ Some point → IsScopedAt program point v
    → held_in i.frames v ≡ held_in j.frames v
