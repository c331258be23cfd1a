-- Which test or value an item has just found at a point, and that it has equal values where it does not vary.
use Rattle.std.specs.Prelude.{◌≡◌, ℕ, zero, suc, ◌<◌, List, ◌∷◌, Option, Some, None, length}
use Rattle.work_items.specs.Histories.{Deed}
use Rattle.cl_model.specs.Tree.{Expression, Apply, Update, Choose, Call, Expressions, none, more, Statement, Do}
use Rattle.cl_model.specs.Tree.{Declare, Fill, Block, If, Loop, Switch, Return, Statements, empty, also, Arms, no_arm}
use Rattle.cl_model.specs.Tree.{arm, Program}
use Rattle.cl_model.specs.Sizes.{Launch, item_count, group_of}
use Rattle.cl_model.specs.Calls.{function_at}
use Rattle.cl_model.specs.Task.{Operand, Own, Tested, Chosen, Other, Nth, Turn, Body, Step, Arm, Into, Point, Item}
use Rattle.cl_model.specs.Task.{first_point}
use Rattle.cl_model.specs.Steps.{last}
use Rattle.cl_model.specs.Meaning.{ItemHistory}
use Rattle.cl_model.specs.Varying.{AnExpression, Varies}

-- the way leads, in an expression of a function, to the place behind this test of that function, where `inside` says
-- it of the ways in a call
abbrev mutual
  pub TestIn : (ℕ → Point → ℕ → Expression → Type 0) → ℕ → Expression → Point → ℕ → Expression → Type 0
  TestIn inside f (Apply action operands) (Operand k ∷ way) h e = TestAmong inside f operands k way h e
  TestIn inside f (Update site element root op of back old index value) (Operand zero ∷ way) h e =
      TestIn inside f index way h e
  TestIn inside f (Update site element root op of back old index value) (Operand (suc k) ∷ way) h e =
      TestIn inside f value way h e
  TestIn inside f (Choose site test chosen other) (Tested ∷ way) h e = TestIn inside f test way h e
  TestIn inside f (Choose site test chosen other) (Chosen ∷ way) h e = TestIn inside f chosen way h e
  TestIn inside f (Choose site test chosen other) (Other ∷ way) h e = TestIn inside f other way h e
  TestIn inside f (Choose site test chosen other) (Own k ∷ way) h e = (f ≡ h) × (test ≡ e)
  TestIn inside f (Call site g roots arguments) (Operand k ∷ way) h e = TestAmong inside f arguments k way h e
  TestIn inside f (Call site g roots arguments) (Into ∷ way) h e = inside g way h e
  TestIn inside f _ _ h e = ⊥

  -- in the expression with this number
  pub TestAmong : (ℕ → Point → ℕ → Expression → Type 0) → ℕ → Expressions → ℕ → Point → ℕ → Expression → Type 0
  TestAmong inside f none k way h e = ⊥
  TestAmong inside f (more d rest) zero way h e = TestIn inside f d way h e
  TestAmong inside f (more d rest) (suc k) way h e = TestAmong inside f rest k way h e

-- the same of an expression that may be absent
abbrev pub TestOptional : (ℕ → Point → ℕ → Expression → Type 0) → ℕ → Option Expression → Point → ℕ → Expression →
    Type 0
TestOptional inside f None way h e = ⊥
TestOptional inside f (Some d) way h e = TestIn inside f d way h e

-- in a statement: behind the test of an if or a loop, or the value of a switch
abbrev mutual
  pub TestAt : (ℕ → Point → ℕ → Expression → Type 0) → ℕ → Statement → Point → ℕ → Expression → Type 0
  TestAt inside f (Do d) (Operand k ∷ way) h e = TestIn inside f d way h e
  TestAt inside f (Declare x value) (Operand k ∷ way) h e = TestOptional inside f value way h e
  TestAt inside f (Fill site array values) (Operand k ∷ way) h e = TestAmong inside f values k way h e
  TestAt inside f (Block list) (Nth k ∷ way) h e = TestInList inside f list k way h e
  TestAt inside f (If site test chosen other) (Tested ∷ way) h e = TestIn inside f test way h e
  TestAt inside f (If site test chosen other) (Own k ∷ way) h e = (f ≡ h) × (test ≡ e)
  TestAt inside f (If site test chosen other) (Chosen ∷ Nth k ∷ way) h e = TestInList inside f chosen k way h e
  TestAt inside f (If site test chosen other) (Other ∷ Nth k ∷ way) h e = TestInList inside f other k way h e
  TestAt inside f (Loop site test_first test step body) (Turn k ∷ Tested ∷ way) h e = TestOptional inside f test way h e
  TestAt inside f (Loop site test_first test step body) (Turn k ∷ Own zero ∷ way) h e = (f ≡ h) × (test ≡ Some e)
  TestAt inside f (Loop site test_first test step body) (Turn k ∷ Step ∷ way) h e = TestOptional inside f step way h e
  TestAt inside f (Loop site test_first test step body) (Turn k ∷ Body ∷ way) h e = TestAt inside f body way h e
  TestAt inside f (Switch site value arms) (Tested ∷ way) h e = TestIn inside f value way h e
  TestAt inside f (Switch site value arms) (Own zero ∷ way) h e = (f ≡ h) × (value ≡ e)
  TestAt inside f (Switch site value arms) (Arm j ∷ Nth k ∷ way) h e = TestInArm inside f arms j k way h e
  TestAt inside f (Return site value) (Operand k ∷ way) h e = TestOptional inside f value way h e
  TestAt inside f _ _ h e = ⊥

  -- in the statement of a list with this number
  pub TestInList : (ℕ → Point → ℕ → Expression → Type 0) → ℕ → Statements → ℕ → Point → ℕ → Expression → Type 0
  TestInList inside f empty k way h e = ⊥
  TestInList inside f (also s rest) zero way h e = TestAt inside f s way h e
  TestInList inside f (also s rest) (suc k) way h e = TestInList inside f rest k way h e

  -- in the statement with this number of the arm with that number
  pub TestInArm : (ℕ → Point → ℕ → Expression → Type 0) → ℕ → Arms → ℕ → ℕ → Point → ℕ → Expression → Type 0
  TestInArm inside f no_arm j k way h e = ⊥
  TestInArm inside f (arm labels other body rest) zero k way h e = TestInList inside f body k way h e
  TestInArm inside f (arm labels other body rest) (suc j) k way h e = TestInArm inside f rest j k way h e

-- in the body of a function, with calls nested less deep than the depth
abbrev pub TestInBody : Program → ℕ → ℕ → Point → ℕ → Expression → Type 0
TestInBody program zero f way h e = ⊥
TestInBody program (suc depth) f way h e =
    TestAt (TestInBody program depth) f (Block (function_at program f).body) way h e

-- an item at the point has just found this test or value, of the function with this number
abbrev pub IsTestAt : Program → Point → ℕ → Expression → Type 0
IsTestAt program point h e = TestInBody program (length program.functions) program.kernel point h e

-- a test or value that does not vary has equal values at one point: whenever two histories of items of one group end
-- there, behind it
abbrev pub TestsAgreeUnlessVarying : Program → Launch → List (List ℕ) → Type 0
TestsAgreeUnlessVarying program launch buffers =
    (h : ℕ) (e : Expression) → (¬ Varies program (AnExpression h e))
    → (one other : ℕ) → one < item_count launch → other < item_count launch →
    group_of launch one ≡ group_of launch other
    → (deeds deeds' : List Deed) (i j : Item) → ItemHistory program launch buffers one deeds i →
    ItemHistory program launch buffers other deeds' j
    → (point : Point) → first_point i.tasks ≡ Some point → first_point j.tasks ≡ Some point → IsTestAt program point h e
    → last i.values ≡ last j.values
