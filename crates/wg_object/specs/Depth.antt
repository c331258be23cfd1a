-- How deep nodes stand in one another, and what the law of texts says.
use Rattle.std.specs.Prelude.{◌≡◌, ℕ, suc, max, List}
use Rattle.lane_code.specs.Program.{Work, Items, Seq, Vote, Loop, Works, idle, then_work}
use Rattle.wg_object.specs.Plain.{PlainObject}
use Rattle.wg_object.specs.Valid.{IsObjectOf}

-- the node itself counted
abbrev mutual
  pub depth_of : Work → ℕ
  depth_of (Items code) = 1
  depth_of (Seq works) = suc (depth_in works)
  depth_of (Vote test agreed refused mixed) = suc (max (depth_of agreed) (depth_of refused))
  depth_of (Loop test_first test body rest) = suc (max (depth_of test) (depth_of body))

  pub depth_in : Works → ℕ
  depth_in idle = 0
  depth_in (then_work first others) = max (depth_of first) (depth_in others)

-- bytes are the text of one object at most
abbrev pub TextLaw : Type 0
TextLaw = (bytes : List ℕ) (o p : PlainObject) → IsObjectOf bytes o → IsObjectOf bytes p → o ≡ p
