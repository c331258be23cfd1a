-- What an expression or a statement of a function does as a whole, and what an item that stands inside it has done.
-- Both by recursion on the tree; calls, loads and work-item functions are those of a record.
use Rattle.std.specs.Prelude.{◌≡◌, ◌≢◌, ℕ, zero, suc, ℤ, pos, List, [], ◌∷◌, ◌++◌, Option, Some, None, true, false}
use Rattle.std.specs.Prelude.{nat_eq, ◌⊎◌, if◌then◌else◌}
use Rattle.std.specs.Prelude.{Bool as Test}
use Rattle.wg_num.specs.declared.types.IntType.{IntType}
use Rattle.wg_num.specs.Wrap.{wrap_of}
use Rattle.wg_num.specs.Operators.{unary_of, binary_of}
use Rattle.wg_num.specs.Builtins.{builtin_of}
use Rattle.cl_model.specs.declared.program.Root.{Root}
use Rattle.cl_model.specs.declared.program.Query.{Query}
use Rattle.cl_model.specs.Tree.{Action, Literal, Variable, Unary, Binary, Builtin, Convert, Ask, Second, Truth}
use Rattle.cl_model.specs.Tree.{Decided, Set, Change, Load, Store, Expression, Apply, Update, Choose, Call}
use Rattle.cl_model.specs.Tree.{Expressions, none, more, Statement, Do, Declare, Fill, Block, If, Loop, Switch, Break}
use Rattle.cl_model.specs.Tree.{Continue, Return, Barrier, Statements, empty, also, Arms, no_arm, arm}
use Rattle.cl_model.specs.Values.{is_zero, number_of}
use Rattle.cl_model.specs.Task.{Operand, Own, Tested, Chosen, Other, Nth, Turn, Body, Step, Arm, Into, Point, Frame}
use Rattle.cl_model.specs.Steps.{nth, changed, Entry, nowhere, entry, entry_of}

-- what a function under way holds: its variables, and the value that its return gives
pub record Held : Type 0 where
  pub variables : ℕ → ℤ
  pub answer : ℤ

-- with a variable set, and with a value to return
abbrev pub put : Held → ℕ → ℤ → Held
put s x v = record { variables = λ y. if nat_eq x y then v else s.variables y; answer = s.answer }

abbrev pub answered : Held → ℤ → Held
answered s v = record { variables = s.variables; answer = v }

-- how a statement ends
pub data How : Type 0 where
  Normal : How
  Broke : How
  Continued : How
  Returned : How

-- where an item stands in a function: its frames, down to that of the function, and its last value
pub record Stand : Type 0 where
  pub frames : List Frame
  pub value : ℤ

-- an item in a function: its frame but for the variables, what a load or a work-item function may give, what a call
-- with these roots and arguments may give, and in which frames of the call an item may stand at a point of it
pub record Who : Type 1 where
  pub frame : Frame
  pub gives : Root → IntType → ℤ → ℤ → Type 0
  pub asks : Query → ℤ → ℤ
  pub calls : ℕ → ℕ → List (Option Root) → List ℤ → ℤ → Type 0
  pub comes : ℕ → ℕ → List (Option Root) → List ℤ → Point → Stand → Type 0

-- the frame with what is held
abbrev pub here : Who → Held → List Frame
here w s = record w.frame { variables = s.variables } ∷ []

-- an action on the values of its operands
abbrev pub Acts : Who → Action → List ℤ → Held → ℤ → Held → Type 0
Acts w (Literal value of) args from x to = (x ≡ value) × (to ≡ from)
Acts w (Variable y) args from x to = (x ≡ from.variables y) × (to ≡ from)
Acts w (Unary op of) args from x to = (x ≡ unary_of op of (nth args 0)) × (to ≡ from)
Acts w (Binary op of) args from x to = (x ≡ binary_of op of (nth args 0) (nth args 1)) × (to ≡ from)
Acts w (Builtin g of) args from x to = (x ≡ builtin_of g of (nth args 0) (nth args 1) (nth args 2)) × (to ≡ from)
Acts w (Convert t) args from x to = (x ≡ wrap_of t (nth args 0)) × (to ≡ from)
Acts w (Ask what) args from x to = (x ≡ w.asks what (nth args 0)) × (to ≡ from)
Acts w Second args from x to = (x ≡ nth args 1) × (to ≡ from)
Acts w Truth args from x to = (x ≡ (if is_zero (nth args 0) then pos 0 else pos 1)) × (to ≡ from)
Acts w (Decided answer) args from x to = (x ≡ number_of answer) × (to ≡ from)
Acts w (Set y) args from x to = (x ≡ nth args 0) × (to ≡ put from y (nth args 0))
Acts w (Change y op of back old) args from x to =
    (x ≡ (if old then nth args 0 else changed op of back (nth args 0) (nth args 1))) ×
    (to ≡ put from y (changed op of back (nth args 0) (nth args 1)))
Acts w (Load site element root) args from x to = w.gives root element (nth args 0) x × (to ≡ from)
Acts w (Store site element root) args from x to = (x ≡ nth args 1) × (to ≡ from)

-- an expression may have this value; expressions from left to right may have these
abbrev mutual
  pub Eval : Who → Expression → Held → ℤ → Held → Type 0
  Eval w (Apply action operands) from x to =
      (args : List ℤ) × (mid : Held) × EvalAll w operands from args mid × Acts w action args mid x to
  Eval w (Update site element root op of back old index value) from x to =
      (i : ℤ) × (v : ℤ) × (mid : Held) × Eval w index from i mid × Eval w value mid v to
  Eval w (Choose site test chosen other) from x to =
      (v : ℤ) × (mid : Held) × Eval w test from v mid × (((is_zero v ≡ false) × Eval w chosen mid x to) ⊎
      ((is_zero v ≡ true) × Eval w other mid x to))
  Eval w (Call site g roots arguments) from x to =
      (args : List ℤ) × EvalAll w arguments from args to × w.calls site g roots args x

  pub EvalAll : Who → Expressions → Held → List ℤ → Held → Type 0
  EvalAll w none from args to = (args ≡ []) × (to ≡ from)
  EvalAll w (more e rest) from args to =
      (x : ℤ) × (xs : List ℤ) × (mid : Held) × Eval w e from x mid × EvalAll w rest mid xs to × (args ≡ x ∷ xs)

-- an expression that may be absent; a test that is absent lets a loop go on
abbrev pub Steps : Who → Option Expression → Held → Held → Type 0
Steps w None from to = to ≡ from
Steps w (Some e) from to = (x : ℤ) × Eval w e from x to

abbrev pub Passes : Who → Option Expression → Held → Held → Type 0
Passes w None from to = to ≡ from
Passes w (Some e) from to = (x : ℤ) × Eval w e from x to × (is_zero x ≡ false)

abbrev pub Fails : Who → Option Expression → Held → Held → Type 0
Fails w None from to = ⊥
Fails w (Some e) from to = (x : ℤ) × Eval w e from x to × (is_zero x ≡ true)

-- a test that is there has this value
abbrev pub Found : Who → Option Expression → Held → Held → ℤ → Type 0
Found w None from to x = to ≡ from
Found w (Some e) from to x = Eval w e from x to

-- a loop goes on after its body ended so; or it ends, and so
abbrev pub GoesOn : How → Type 0
GoesOn Normal = Unit {0}
GoesOn Broke = ⊥
GoesOn Continued = Unit {0}
GoesOn Returned = ⊥

abbrev pub Stops : How → How → Type 0
Stops Normal how = ⊥
Stops Broke how = how ≡ Normal
Stops Continued how = ⊥
Stops Returned how = how ≡ Returned

-- how a switch ends whose body ends so
abbrev pub switched : How → How
switched Normal = Normal
switched Broke = Normal
switched Continued = Continued
switched Returned = Returned

abbrev pub ExecRel : Type 1
ExecRel = Held → How → Held → Type 0

-- the body and the step of an iteration after which the loop goes on
abbrev pub Rounds : Who → Option Expression → ExecRel → Held → Held → Type 0
Rounds w step E from to = (how : How) × (mid : Held) × E from how mid × GoesOn how × Steps w step mid to

-- less than so many iterations more, from the start of one to the end of the loop
abbrev pub Iterates : Who → (test step : Option Expression) → ExecRel → ℕ → ExecRel
Iterates w test step E zero from how to = ⊥
Iterates w test step E (suc n) from how to =
    ((end : How) × E from end to × Stops end how)
    ⊎ ((mid : Held) × Rounds w step E from mid ×
    ((Fails w test mid to × (how ≡ Normal)) ⊎
    ((next : Held) × Passes w test mid next × Iterates w test step E n next how to)))

-- a loop
abbrev pub Loops : Who → (test_first : Test) → (test step : Option Expression) → ExecRel → ExecRel
Loops w true test step E from how to = (Fails w test from to × (how ≡ Normal)) ⊎
    ((next : Held) × (n : ℕ) × Passes w test from next × Iterates w test step E n next how to)
Loops w false test step E from how to = (n : ℕ) × Iterates w test step E n from how to

-- the first iteration of a loop begins; the one behind so many begins; the test behind so many begins
abbrev pub Enters : Who → (test_first : Test) → Option Expression → Held → Held → Type 0
Enters w true test from to = Passes w test from to
Enters w false test from to = to ≡ from

abbrev pub Begun : Who → (test_first : Test) → (test step : Option Expression) → ExecRel → ℕ → Held → Held → Type 0
Begun w test_first test step E zero from to = Enters w test_first test from to
Begun w test_first test step E (suc k) from to =
    (start : Held) × (mid : Held) × Begun w test_first test step E k from start × Rounds w step E start mid ×
    Passes w test mid to

abbrev pub Heads : Who → (test_first : Test) → (test step : Option Expression) → ExecRel → ℕ → Held → Held → Type 0
Heads w test_first test step E zero from to = (test_first ≡ true) × (to ≡ from)
Heads w test_first test step E (suc k) from to =
    (start : Held) × Begun w test_first test step E k from start × Rounds w step E start to

-- how many arms there are, and the number of the arm at which a switch is entered: behind the last for none
abbrev pub arm_count : Arms → ℕ
arm_count no_arm = 0
arm_count (arm labels other body rest) = suc (arm_count rest)

abbrev pub entry_number : Entry → ℕ → ℕ
entry_number nowhere count = count
entry_number (entry k arms) count = k

abbrev pub entered : ℤ → Arms → ℕ
entered v arms = entry_number (entry_of v arms) (arm_count arms)

-- what a statement does, and how it ends
abbrev mutual
  pub Exec : Who → Statement → ExecRel
  Exec w (Do e) from how to = (x : ℤ) × Eval w e from x to × (how ≡ Normal)
  Exec w (Declare y None) from how to = (how ≡ Normal) × (to ≡ put from y (pos 0))
  Exec w (Declare y (Some e)) from how to =
      (x : ℤ) × (mid : Held) × Eval w e from x mid × (how ≡ Normal) × (to ≡ put mid y x)
  Exec w (Fill site array values) from how to = (args : List ℤ) × EvalAll w values from args to × (how ≡ Normal)
  Exec w (Block list) from how to = ExecAll w list from how to
  Exec w (If site test chosen other) from how to =
      (v : ℤ) × (mid : Held) × Eval w test from v mid × (((is_zero v ≡ false) × ExecAll w chosen mid how to) ⊎
      ((is_zero v ≡ true) × ExecAll w other mid how to))
  Exec w (Loop site test_first test step body) from how to = Loops w test_first test step (Exec w body) from how to
  Exec w (Switch site value arms) from how to =
      (v : ℤ) × (mid : Held) × (end : How) × Eval w value from v mid × ExecArms w arms (entered v arms) mid end to ×
      (how ≡ switched end)
  Exec w (Break site) from how to = (how ≡ Broke) × (to ≡ from)
  Exec w (Continue site) from how to = (how ≡ Continued) × (to ≡ from)
  Exec w (Return site None) from how to = (how ≡ Returned) × (to ≡ answered from (pos 0))
  Exec w (Return site (Some e)) from how to =
      (x : ℤ) × (mid : Held) × Eval w e from x mid × (how ≡ Returned) × (to ≡ answered mid x)
  Exec w (Barrier site) from how to = (how ≡ Normal) × (to ≡ from)

  pub ExecAll : Who → Statements → ExecRel
  ExecAll w empty from how to = (how ≡ Normal) × (to ≡ from)
  ExecAll w (also s rest) from how to =
      ((mid : Held) × Exec w s from Normal mid × ExecAll w rest mid how to) ⊎ ((how ≢ Normal) × Exec w s from how to)

  -- the arms from the one with this number on
  pub ExecArms : Who → Arms → ℕ → ExecRel
  ExecArms w no_arm k from how to = (how ≡ Normal) × (to ≡ from)
  ExecArms w (arm labels other body rest) zero from how to =
      ((mid : Held) × ExecAll w body from Normal mid × ExecArms w rest zero mid how to) ⊎
      ((how ≢ Normal) × ExecAll w body from how to)
  ExecArms w (arm labels other body rest) (suc k) from how to = ExecArms w rest k from how to

-- the arm with the second number begins, where the switch is entered at the first
abbrev pub Reaches : Who → Arms → ℕ → ℕ → Held → Held → Type 0
Reaches w no_arm k j from to = ⊥
Reaches w (arm labels other body rest) zero zero from to = to ≡ from
Reaches w (arm labels other body rest) zero (suc j) from to =
    (mid : Held) × ExecAll w body from Normal mid × Reaches w rest zero j mid to
Reaches w (arm labels other body rest) (suc k) zero from to = ⊥
Reaches w (arm labels other body rest) (suc k) (suc j) from to = Reaches w rest k j from to

-- an item that began the expression stands at the point in it, in these frames
abbrev mutual
  pub ComesIn : Who → Expression → Held → Point → Stand → Type 0
  ComesIn w (Apply action operands) from (Operand k ∷ p) to = ComesAt w operands from k p to
  ComesIn w (Apply action operands) from (Own k ∷ p) to =
      (args : List ℤ) × (mid : Held) × EvalAll w operands from args mid × (to.frames ≡ here w mid)
  ComesIn w (Update site element root op of back old index value) from (Operand zero ∷ p) to = ComesIn w index from p to
  ComesIn w (Update site element root op of back old index value) from (Operand (suc k) ∷ p) to =
      (i : ℤ) × (mid : Held) × Eval w index from i mid × ComesIn w value mid p to
  ComesIn w (Update site element root op of back old index value) from (Own zero ∷ p) to =
      (i : ℤ) × (mid : Held) × Eval w index from i mid × (to.frames ≡ here w mid)
  ComesIn w (Update site element root op of back old index value) from (Own (suc k) ∷ p) to =
      (i : ℤ) × (v : ℤ) × (mid : Held) × (end : Held) × Eval w index from i mid × Eval w value mid v end ×
      (to.frames ≡ here w end)
  ComesIn w (Choose site test chosen other) from (Tested ∷ p) to = ComesIn w test from p to
  ComesIn w (Choose site test chosen other) from (Own k ∷ p) to =
      (v : ℤ) × (mid : Held) × Eval w test from v mid × (to.frames ≡ here w mid) × (to.value ≡ v)
  ComesIn w (Choose site test chosen other) from (Chosen ∷ p) to =
      (v : ℤ) × (mid : Held) × Eval w test from v mid × ComesIn w chosen mid p to
  ComesIn w (Choose site test chosen other) from (Other ∷ p) to =
      (v : ℤ) × (mid : Held) × Eval w test from v mid × ComesIn w other mid p to
  ComesIn w (Call site g roots arguments) from (Operand k ∷ p) to = ComesAt w arguments from k p to
  ComesIn w (Call site g roots arguments) from (Own zero ∷ p) to =
      (args : List ℤ) × (mid : Held) × EvalAll w arguments from args mid × (to.frames ≡ here w mid)
  ComesIn w (Call site g roots arguments) from (Own (suc k) ∷ p) to =
      (args : List ℤ) × (mid : Held) × (top : Frame) × EvalAll w arguments from args mid × (top.function ≡ g) ×
      (to.frames ≡ top ∷ here w mid)
  ComesIn w (Call site g roots arguments) from (Into ∷ p) to =
      (args : List ℤ) × (mid : Held) × (inner : List Frame) × EvalAll w arguments from args mid ×
      w.comes site g roots args p (record { frames = inner; value = to.value }) × (to.frames ≡ inner ++ here w mid)
  ComesIn w _ from _ to = to.frames ≡ here w from

  -- the operand with this number
  pub ComesAt : Who → Expressions → Held → ℕ → Point → Stand → Type 0
  ComesAt w none from k p to = ⊥
  ComesAt w (more e rest) from zero p to = ComesIn w e from p to
  ComesAt w (more e rest) from (suc k) p to = (x : ℤ) × (mid : Held) × Eval w e from x mid × ComesAt w rest mid k p to

abbrev pub ComesInOptional : Who → Option Expression → Held → Point → Stand → Type 0
ComesInOptional w None from p to = ⊥
ComesInOptional w (Some e) from p to = ComesIn w e from p to

-- an item that began the statement stands at the point in it
abbrev mutual
  pub Comes : Who → Statement → Held → Point → Stand → Type 0
  Comes w (Do e) from (Operand k ∷ p) to = ComesIn w e from p to
  Comes w (Do e) from (Own k ∷ p) to = (x : ℤ) × (mid : Held) × Eval w e from x mid × (to.frames ≡ here w mid)
  Comes w (Declare y (Some e)) from (Operand k ∷ p) to = ComesIn w e from p to
  Comes w (Declare y (Some e)) from (Own k ∷ p) to =
      (x : ℤ) × (mid : Held) × Eval w e from x mid × (to.frames ≡ here w mid)
  Comes w (Fill site array values) from (Operand k ∷ p) to = ComesAt w values from k p to
  Comes w (Fill site array values) from (Own k ∷ p) to =
      (args : List ℤ) × (mid : Held) × EvalAll w values from args mid × (to.frames ≡ here w mid)
  Comes w (Block list) from (Nth k ∷ p) to = ComesAmong w list from k p to
  Comes w (If site test chosen other) from (Tested ∷ p) to = ComesIn w test from p to
  Comes w (If site test chosen other) from (Own k ∷ p) to =
      (v : ℤ) × (mid : Held) × Eval w test from v mid × (to.frames ≡ here w mid) × (to.value ≡ v)
  Comes w (If site test chosen other) from (Chosen ∷ Nth k ∷ p) to =
      (v : ℤ) × (mid : Held) × Eval w test from v mid × ComesAmong w chosen mid k p to
  Comes w (If site test chosen other) from (Other ∷ Nth k ∷ p) to =
      (v : ℤ) × (mid : Held) × Eval w test from v mid × ComesAmong w other mid k p to
  Comes w (Loop site test_first test step body) from (Turn k ∷ Tested ∷ p) to =
      (head : Held) × Heads w test_first test step (Exec w body) k from head × ComesInOptional w test head p to
  Comes w (Loop site test_first test step body) from (Turn k ∷ Own zero ∷ p) to =
      (head : Held) × (mid : Held) × Heads w test_first test step (Exec w body) k from head ×
      Found w test head mid to.value × (to.frames ≡ here w mid)
  Comes w (Loop site test_first test step body) from (Turn k ∷ Own (suc n) ∷ p) to =
      (head : Held) × Heads w test_first test step (Exec w body) k from head × (to.frames ≡ here w head)
  Comes w (Loop site test_first test step body) from (Turn zero ∷ Step ∷ p) to = ⊥
  Comes w (Loop site test_first test step body) from (Turn (suc k) ∷ Step ∷ p) to =
      (start : Held) × (how : How) × (mid : Held) × Begun w test_first test step (Exec w body) k from start ×
      Exec w body start how mid × GoesOn how × ComesInOptional w step mid p to
  Comes w (Loop site test_first test step body) from (Turn zero ∷ Body ∷ p) to = ⊥
  Comes w (Loop site test_first test step body) from (Turn (suc k) ∷ Body ∷ p) to =
      (start : Held) × Begun w test_first test step (Exec w body) k from start × Comes w body start p to
  Comes w (Switch site value arms) from (Tested ∷ p) to = ComesIn w value from p to
  Comes w (Switch site value arms) from (Own zero ∷ p) to =
      (v : ℤ) × (mid : Held) × Eval w value from v mid × (to.frames ≡ here w mid) × (to.value ≡ v)
  Comes w (Switch site value arms) from (Own (suc k) ∷ p) to =
      (v : ℤ) × (mid : Held) × (end : Held) × Eval w value from v mid ×
      ExecArms w arms (entered v arms) mid Normal end × (to.frames ≡ here w end)
  Comes w (Switch site value arms) from (Arm j ∷ Nth k ∷ p) to =
      (v : ℤ) × (mid : Held) × (start : Held) × Eval w value from v mid ×
      Reaches w arms (entered v arms) j mid start × ComesArm w arms j start k p to
  Comes w (Return site (Some e)) from (Operand k ∷ p) to = ComesIn w e from p to
  Comes w (Return site (Some e)) from (Own k ∷ p) to =
      (x : ℤ) × (mid : Held) × Eval w e from x mid × (to.frames ≡ here w mid)
  Comes w _ from _ to = to.frames ≡ here w from

  -- the statement of a list with this number
  pub ComesAmong : Who → Statements → Held → ℕ → Point → Stand → Type 0
  ComesAmong w empty from k p to = ⊥
  ComesAmong w (also s rest) from zero p to = Comes w s from p to
  ComesAmong w (also s rest) from (suc k) p to = (mid : Held) × Exec w s from Normal mid × ComesAmong w rest mid k p to

  -- the statement with this number of the arm with that number
  pub ComesArm : Who → Arms → ℕ → Held → ℕ → Point → Stand → Type 0
  ComesArm w no_arm j from k p to = ⊥
  ComesArm w (arm labels other body rest) zero from k p to = ComesAmong w body from k p to
  ComesArm w (arm labels other body rest) (suc j) from k p to = ComesArm w rest j from k p to
