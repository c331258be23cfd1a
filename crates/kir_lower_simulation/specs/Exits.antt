-- Ways out of a statement: what the cell of a construct holds where one is pending, and where the program then goes on.
use Rattle.std.specs.Prelude.{◌≡◌, ℤ, pos, ◌∷◌, Option, Some, None, ◌||◌}
use Rattle.std.specs.Prelude.{Bool as Test, true, false}
use Rattle.cl_model.specs.Tree.{Statement, Do, Declare, Fill, Block, If, Loop, Switch, Break, Continue, Return}
use Rattle.cl_model.specs.Tree.{Barrier, Statements, empty, also, Arms, no_arm, arm}
use Rattle.cl_model.specs.Task.{Item as ProgramItem}
use Rattle.cl_model.specs.Steps.{with_tasks, behind_break, behind_continue, behind_return}

-- a way out but the end
pub data Exit : Type 0 where
  Continues : Exit
  Breaks : Exit
  Returns : Exit

-- what the cell holds
abbrev pub pending : Option Exit → ℤ
pending None = pos 0
pending (Some Continues) = pos 1
pending (Some Breaks) = pos 2
pending (Some Returns) = pos 3

-- where the program's item is then, a return giving this value
abbrev pub unwound : Option Exit → ℤ → ProgramItem → ProgramItem
unwound None v j = j
unwound (Some Continues) v j = with_tasks j (behind_continue j.tasks)
unwound (Some Breaks) v j = with_tasks j (behind_break j.tasks)
unwound (Some Returns) v j = behind_return j j.tasks (v ∷ j.values)

-- what the result holds then
abbrev pub given_by : Option Exit → ℤ → ℤ
given_by None v = pos 0
given_by (Some Continues) v = pos 0
given_by (Some Breaks) v = pos 0
given_by (Some Returns) v = v

-- the way out is a `return`
abbrev pub is_return : Exit → Test
is_return Continues = false
is_return Breaks = false
is_return Returns = true

-- it is a `break`
abbrev pub is_break : Exit → Test
is_break Continues = false
is_break Breaks = true
is_break Returns = false

-- it is a `continue`
abbrev pub is_continue : Exit → Test
is_continue Continues = true
is_continue Breaks = false
is_continue Returns = false

-- not within a loop: a `return`
abbrev pub through_loop : Exit → Test → Test
through_loop Continues leaves = false
through_loop Breaks leaves = false
through_loop Returns leaves = leaves

-- not within a switch: all but a `break`
abbrev pub through_switch : Exit → Test → Test
through_switch Continues leaves = leaves
through_switch Breaks leaves = false
through_switch Returns leaves = leaves

-- a statement can be left so
abbrev mutual
  pub leaves : Exit → Statement → Test
  leaves x (Do e) = false
  leaves x (Declare y value) = false
  leaves x (Fill site array values) = false
  leaves x (Block list) = some_leave x list
  leaves x (If site test chosen other) = some_leave x chosen || some_leave x other
  leaves x (Loop site test_first test step body) = through_loop x (leaves x body)
  leaves x (Switch site value arms) = through_switch x (arms_leave x arms)
  leaves x (Break site) = is_break x
  leaves x (Continue site) = is_continue x
  leaves x (Return site value) = is_return x
  leaves x (Barrier site) = false

  pub some_leave : Exit → Statements → Test
  some_leave x empty = false
  some_leave x (also s rest) = leaves x s || some_leave x rest

  pub arms_leave : Exit → Arms → Test
  arms_leave x no_arm = false
  arms_leave x (arm labels other body rest) = some_leave x body || arms_leave x rest

-- the end is always possible
abbrev pub Can : Statement → Option Exit → Type 0
Can s None = Unit {0}
Can s (Some x) = leaves x s ≡ true

-- of statements in order
abbrev pub ListCan : Statements → Option Exit → Type 0
ListCan list None = Unit {0}
ListCan list (Some x) = some_leave x list ≡ true

-- of the arms of a switch
abbrev pub ArmsCan : Arms → Option Exit → Type 0
ArmsCan arms None = Unit {0}
ArmsCan arms (Some x) = arms_leave x arms ≡ true
