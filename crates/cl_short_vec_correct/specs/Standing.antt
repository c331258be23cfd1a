-- Statements that stand in others: a run of lines of a list, or of a list inside one of its statements.
use Rattle.std.specs.Prelude.{◌≡◌, ℕ, ℤ, List, Option}
use Rattle.std.specs.Prelude.{Bool as Test}
use Rattle.cl_model.specs.Tree.{Expression, Statement, Statements, Arms, also, Block, If, Loop, Switch}
use Rattle.cl_model.specs.Tree.{arm}
use Rattle.cl_meaning.specs.Statements.{followed, alone}

mutual
  -- these statements stand in a list, one behind the other
  pub data Within (ss : Statements) : Statements → Type 0 where
    here : (us more : Statements) → us ≡ followed ss more → Within ss us
    behind : (s : Statement) (us : Statements) → Within ss us → Within ss (also s us)
    inside : (s : Statement) (us : Statements) → InStatement ss s → Within ss (also s us)

  -- they stand in a statement
  pub data InStatement (ss : Statements) : Statement → Type 0 where
    block : (us : Statements) → Within ss us → InStatement ss (Block us)
    chosen : (site : ℕ) (test : Expression) (us vs : Statements) → Within ss us → InStatement ss (If site test us vs)
    other : (site : ℕ) (test : Expression) (us vs : Statements) → Within ss vs → InStatement ss (If site test us vs)
    looped : (site : ℕ) (first : Test) (test step : Option Expression) (s : Statement) → Within ss (alone s) →
        InStatement ss (Loop site first test step s)
    switched : (site : ℕ) (value : Expression) (arms : Arms) → InArms ss arms → InStatement ss (Switch site value arms)

  -- they stand in one of these arms
  pub data InArms (ss : Statements) : Arms → Type 0 where
    front : (labels : List ℤ) (default : Test) (us : Statements) (arms : Arms) → Within ss us →
        InArms ss (arm labels default us arms)
    next : (labels : List ℤ) (default : Test) (us : Statements) (arms : Arms) → InArms ss arms →
        InArms ss (arm labels default us arms)
