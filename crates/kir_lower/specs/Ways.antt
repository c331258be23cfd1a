-- Ways out of statements but at their end: `break`, `continue`, `return`. The cell of a construct says what is
-- pending in it: 0 nothing, 1 `continue`, 2 `break`, 3 `return`.
use Rattle.std.specs.Prelude.{ℕ, Option, Some, None, if◌then◌else◌}
use Rattle.std.specs.Prelude.{Bool as Test, true, false}
use Rattle.cl_model.specs.Tree.{Statement, Do, Declare, Fill, Block, If, Loop, Switch, Break, Continue, Return}
use Rattle.cl_model.specs.Tree.{Barrier, Statements, empty, also, Arms, no_arm, arm}

-- the first, or else the second
abbrev pub first_of : Option ℕ → Option ℕ → Option ℕ
first_of None second = second
first_of (Some site) second = Some site

-- the site of the first `return` by which a statement can be left, of the first `break` where these are asked for, or
-- `continue`
abbrev mutual
  pub way_out : (breaks continues : Test) → Statement → Option ℕ
  way_out breaks continues (Do e) = None
  way_out breaks continues (Declare x value) = None
  way_out breaks continues (Fill site array values) = None
  way_out breaks continues (Block list) = way_out_of_all breaks continues list
  way_out breaks continues (If site test chosen other) =
      first_of (way_out_of_all breaks continues chosen) (way_out_of_all breaks continues other)
  way_out breaks continues (Loop site test_first test step body) = way_out false false body
  way_out breaks continues (Switch site value arms) = way_out_of_arms false continues arms
  way_out breaks continues (Break site) = if breaks then Some site else None
  way_out breaks continues (Continue site) = if continues then Some site else None
  way_out breaks continues (Return site value) = Some site
  way_out breaks continues (Barrier site) = None

  -- of statements in order
  pub way_out_of_all : (breaks continues : Test) → Statements → Option ℕ
  way_out_of_all breaks continues empty = None
  way_out_of_all breaks continues (also s rest) =
      first_of (way_out breaks continues s) (way_out_of_all breaks continues rest)

  -- of the arms of a switch
  pub way_out_of_arms : (breaks continues : Test) → Arms → Option ℕ
  way_out_of_arms breaks continues no_arm = None
  way_out_of_arms breaks continues (arm labels other body rest) =
      first_of (way_out_of_all breaks continues body) (way_out_of_arms breaks continues rest)

-- the statement declares a variable of the list in which it stands
abbrev pub declares : Statement → Test
declares (Do e) = false
declares (Declare x value) = true
declares (Fill site array values) = false
declares (Block list) = false
declares (If site test chosen other) = false
declares (Loop site test_first test step body) = false
declares (Switch site value arms) = false
declares (Break site) = false
declares (Continue site) = false
declares (Return site value) = false
declares (Barrier site) = false
