-- Kernels without a loop.
use Rattle.std.specs.Prelude.{◌≡◌, ◌||◌, true, false, List}
use Rattle.std.specs.Prelude.{Bool as Test}
use Rattle.cl_model.specs.Lists.{Each}
use Rattle.cl_model.specs.Calls.{Instance, instances, function_at}
use Rattle.cl_model.specs.Tree.{Statement, Block, If, Loop, Switch, Statements, empty, also, Arms, no_arm, arm}
use Rattle.cl_model.specs.Tree.{Program}

-- a statement is a loop, or has one in it
abbrev mutual
  pub has_loop : Statement → Test
  has_loop (Block list) = have_loop list
  has_loop (If site test chosen other) = have_loop chosen || have_loop other
  has_loop (Loop site test_first test step body) = true
  has_loop (Switch site value arms) = arms_have_loop arms
  has_loop s = false

  pub have_loop : Statements → Test
  have_loop empty = false
  have_loop (also s rest) = has_loop s || have_loop rest

  pub arms_have_loop : Arms → Test
  arms_have_loop no_arm = false
  arms_have_loop (arm labels other body rest) = have_loop body || arms_have_loop rest

-- neither the kernel nor a function that it calls, or that those call, has a loop
abbrev pub HasNoLoop : Program → Type 0
HasNoLoop program = Each (λ (i : Instance). have_loop (function_at program i.function).body ≡ false) (instances program)

-- the same of each program
abbrev pub HaveNoLoop : List Program → Type 0
HaveNoLoop programs = Each HasNoLoop programs
