-- Weights of expressions and statements, for the end of the recursion; a call weighs what its arguments do.
use Rattle.std.proofs.Common.{◌≡◌, ℕ, zero, suc, ◌+◌, ◌*◌, ◌<◌, ◌≤◌, List, [], ◌∷◌, Option, Some, None, slice_get}
use Rattle.std.proofs.Common.{unwrap_or, arith, ap, sym, ◌∙◌}
use Rattle.cl_model.specs.Tree.{Expression, Apply, Update, Choose, Call, Expressions, none, more, Statement, Do}
use Rattle.cl_model.specs.Tree.{Declare, Fill, Block, If, Loop, Switch, Break, Continue, Return, Barrier, Statements}
use Rattle.cl_model.specs.Tree.{empty, also, Arms, no_arm, arm, Function, Program}
use Rattle.cl_model.specs.Calls.{function_at, no_function}

abbrev mutual
  pub weight_in : Expression → ℕ
  weight_in (Apply action operands) = 3 + weight_among operands
  weight_in (Update site element root op of back old index value) = 5 + (weight_in index + weight_in value)
  weight_in (Choose site test chosen other) = 5 + (weight_in test + (weight_in chosen + weight_in other))
  weight_in (Call site function roots arguments) = 5 + weight_among arguments

  pub weight_among : Expressions → ℕ
  weight_among none = 0
  weight_among (more e rest) = weight_in e + weight_among rest

abbrev pub weight_in_optional : Option Expression → ℕ
weight_in_optional None = 0
weight_in_optional (Some e) = weight_in e

abbrev mutual
  pub weight_of : Statement → ℕ
  weight_of (Do e) = 2 + weight_in e
  weight_of (Declare x value) = 3 + weight_in_optional value
  weight_of (Fill site array values) = 3 + weight_among values
  weight_of (Block list) = 2 + weight_of_all list
  weight_of (If site test chosen other) = 4 + (weight_in test + (weight_of_all chosen + weight_of_all other))
  weight_of (Loop site test_first test step body) =
      5 + (weight_in_optional test + (weight_in_optional step + weight_of body))
  weight_of (Switch site value arms) = 5 + (weight_in value + weight_of_arms arms)
  weight_of (Break site) = 1
  weight_of (Continue site) = 1
  weight_of (Return site value) = 4 + weight_in_optional value
  weight_of (Barrier site) = 1

  pub weight_of_all : Statements → ℕ
  weight_of_all empty = 0
  weight_of_all (also s rest) = weight_of s + weight_of_all rest

  pub weight_of_arms : Arms → ℕ
  weight_of_arms no_arm = 0
  weight_of_arms (arm labels other body rest) = 1 + (weight_of_all body + weight_of_arms rest)

-- what one more level of calls adds at most
abbrev pub room_among : List Function → ℕ
room_among [] = 9
room_among (f ∷ rest) = (2 * weight_of_all f.body + 9) + room_among rest

-- the measure of what is nested less deep than the depth and has this weight
abbrev pub room : Program → ℕ → ℕ
room program depth = depth * room_among program.functions

pub some_weight : (s : Statement) → 0 < weight_of s
some_weight (Do e) = omega arith
some_weight (Declare x value) = omega arith
some_weight (Fill site array values) = omega arith
some_weight (Block list) = omega arith
some_weight (If site test chosen other) = omega arith
some_weight (Loop site test_first test step body) = omega arith
some_weight (Switch site value arms) = omega arith
some_weight (Break site) = omega arith
some_weight (Continue site) = omega arith
some_weight (Return site value) = omega arith
some_weight (Barrier site) = omega arith

found_fits : (fs : List Function) (n : ℕ) → 2 * weight_of_all (unwrap_or (slice_get fs n) no_function).body + 9 ≤
    room_among fs
found_fits [] n = omega arith
found_fits (f ∷ fs) zero = omega arith
found_fits (f ∷ fs) (suc n) = let h = found_fits fs n in omega arith

one_more : (n r : ℕ) → (n + 1) * r ≡ n * r + r
one_more n r = grind arith

-- a function one level deeper weighs less
pub deeper : (program : Program) (function depth inner : ℕ) → inner + 1 ≡ depth →
    room program inner + (2 * weight_of_all (function_at program function).body + 5) < room program depth
deeper program function depth inner e =
    let r = room_among program.functions in
    let h = found_fits program.functions function in
    let k : room program depth ≡ inner * r + r = ap (λ d. d * r) (sym e) ∙ one_more inner r in
    omega (arith, h, k)

-- what stands behind the first weighs no more
pub behind_first : (list : Expressions) (e : Expression) (others : Expressions) (bound : ℕ) → list ≡ more e others →
    weight_among list ≤ bound → weight_among others ≤ bound
behind_first list e others bound h k = let w : weight_among list ≡ weight_in e + weight_among others =
    ap weight_among h in omega (arith, w, k)
