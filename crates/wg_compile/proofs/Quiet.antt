-- Where no barrier stands in the inlined kernel, none is counted in it.
use Rattle.std.proofs.Common.{◌≡◌, ℕ, zero, suc, ◌+◌, List, [], ◌∷◌, ◌++◌, Option, Some, None, length, refl, ◌∙◌}
use Rattle.std.proofs.Common.{true, false, arith}
use Rattle.std.specs.Prelude.{◌||◌, sum_by, flat_map}
use Rattle.std.specs.Prelude.{Bool as Test}
use Rattle.std.proofs.lemmas.Bool.{true≢false}
use Rattle.std.proofs.lemmas.List.Sums.{sum_by-cons, sum_by-append}
use Rattle.cl_model.specs.Tree.{Expression, Apply, Update, Choose, Call, Expressions, none, more, Statement, Do}
use Rattle.cl_model.specs.Tree.{Declare, Fill, Block, If, Loop, Switch, Break, Continue, Return, Barrier, Statements}
use Rattle.cl_model.specs.Tree.{empty, also, Arms, no_arm, arm, Program}
use Rattle.cl_model.specs.Calls.{CallSite, calls_in, calls_among, calls_in_optional, calls_of, calls_of_all}
use Rattle.cl_model.specs.Calls.{calls_of_arms, function_at, Instance, instances_below}
use Rattle.kir.specs.Inlined.{holds_in, holds_among, holds_in_optional, holds, some_holds, arms_hold, body_holds}
use Rattle.kir.specs.Inlined.{function_holds}
use Rattle.kir.specs.Counts.{count_in, count_among, count_in_optional, count_of, count_of_all, count_of_arms}
use Rattle.kir.specs.Counts.{count_inlined, barriers_with}

or_none : (a b : Test) → (a || b) ≡ false → (a ≡ false) × (b ≡ false)
or_none true b e = absurd (true≢false e)
or_none false b e = (refl, e)

sum_none : (a b : ℕ) → a ≡ 0 → b ≡ 0 → a + b ≡ 0
sum_none a b e f = omega arith

-- ---- expressions hold no barrier of their own

mutual
  in_none : (site : ℕ) (e : Expression) → count_in (barriers_with site) e ≡ 0
  in_none site (Apply action operands) =
      sum_none 0 (count_among (barriers_with site) operands) refl (among_none site operands)
  in_none site (Update at element root op of back old index value) =
      sum_none 0 _ refl (sum_none (count_in (barriers_with site) index) (count_in (barriers_with site) value)
      (in_none site index) (in_none site value))
  in_none site (Choose at test chosen other) =
      sum_none (count_in (barriers_with site) test) _ (in_none site test)
      (sum_none (count_in (barriers_with site) chosen) (count_in (barriers_with site) other) (in_none site chosen)
      (in_none site other))
  in_none site (Call at function roots arguments) = among_none site arguments

  among_none : (site : ℕ) (es : Expressions) → count_among (barriers_with site) es ≡ 0
  among_none site none = refl
  among_none site (more e rest) =
      sum_none (count_in (barriers_with site) e) (count_among (barriers_with site) rest) (in_none site e)
      (among_none site rest)

optional_none : (site : ℕ) (e : Option Expression) → count_in_optional (barriers_with site) e ≡ 0
optional_none site None = refl
optional_none site (Some e) = in_none site e

-- ---- statements without a barrier

mutual
  of_none : (site : ℕ) (inside : ℕ → Test) (s : Statement) → holds inside s ≡ false →
      count_of (barriers_with site) s ≡ 0
  of_none site inside (Do e) h = in_none site e
  of_none site inside (Declare x value) h = optional_none site value
  of_none site inside (Fill at array values) h =
      sum_none 0 (count_among (barriers_with site) values) refl (among_none site values)
  of_none site inside (Block list) h = all_none site inside list h
  of_none site inside (If at test chosen other) h =
      let parts = or_none (holds_in inside test) (some_holds inside chosen || some_holds inside other) h in
      let branches = or_none (some_holds inside chosen) (some_holds inside other) parts.1 in
      sum_none (count_in (barriers_with site) test) _ (in_none site test)
      (sum_none (count_of_all (barriers_with site) chosen) (count_of_all (barriers_with site) other)
      (all_none site inside chosen branches.0) (all_none site inside other branches.1))
  of_none site inside (Loop at first test step body) h =
      let parts = or_none (holds_in_optional inside test) (holds_in_optional inside step || holds inside body) h in
      let inner = or_none (holds_in_optional inside step) (holds inside body) parts.1 in
      sum_none (count_in_optional (barriers_with site) test) _ (optional_none site test)
      (sum_none (count_in_optional (barriers_with site) step) (count_of (barriers_with site) body)
      (optional_none site step) (of_none site inside body inner.1))
  of_none site inside (Switch at value arms) h =
      sum_none (count_in (barriers_with site) value) (count_of_arms (barriers_with site) arms) (in_none site value)
      (arms_none site inside arms (or_none (holds_in inside value) (arms_hold inside arms) h).1)
  of_none site inside (Break at) h = refl
  of_none site inside (Continue at) h = refl
  of_none site inside (Return at value) h = optional_none site value
  of_none site inside (Barrier at) h = absurd (true≢false h)

  all_none : (site : ℕ) (inside : ℕ → Test) (list : Statements) → some_holds inside list ≡ false →
      count_of_all (barriers_with site) list ≡ 0
  all_none site inside empty h = refl
  all_none site inside (also s rest) h =
      let parts = or_none (holds inside s) (some_holds inside rest) h in
      sum_none (count_of (barriers_with site) s) (count_of_all (barriers_with site) rest)
      (of_none site inside s parts.0) (all_none site inside rest parts.1)

  arms_none : (site : ℕ) (inside : ℕ → Test) (arms : Arms) → arms_hold inside arms ≡ false →
      count_of_arms (barriers_with site) arms ≡ 0
  arms_none site inside no_arm h = refl
  arms_none site inside (arm labels other body rest) h =
      let parts = or_none (some_holds inside body) (arms_hold inside rest) h in
      sum_none (count_of_all (barriers_with site) body) (count_of_arms (barriers_with site) rest)
      (all_none site inside body parts.0) (arms_none site inside rest parts.1)

-- ---- their calls are of functions without one

-- each call is of a function that holds none
abbrev Quiet : (ℕ → Test) → List CallSite → Type 0
Quiet inside [] = Unit {0}
Quiet inside (c ∷ calls) = (inside c.function ≡ false) × Quiet inside calls

quiet_append : (inside : ℕ → Test) (xs ys : List CallSite) → Quiet inside xs → Quiet inside ys → Quiet inside (xs ++ ys)
quiet_append inside [] ys q r = r
quiet_append inside (x ∷ xs) ys q r = (q.0, quiet_append inside xs ys q.1 r)

mutual
  quiet_in : (inside : ℕ → Test) (e : Expression) → holds_in inside e ≡ false → Quiet inside (calls_in e)
  quiet_in inside (Apply action operands) h = quiet_among inside operands h
  quiet_in inside (Update at element root op of back old index value) h =
      let parts = or_none (holds_in inside index) (holds_in inside value) h in
      quiet_append inside (calls_in index) (calls_in value) (quiet_in inside index parts.0)
      (quiet_in inside value parts.1)
  quiet_in inside (Choose at test chosen other) h =
      let parts = or_none (holds_in inside test) (holds_in inside chosen || holds_in inside other) h in
      let branches = or_none (holds_in inside chosen) (holds_in inside other) parts.1 in
      quiet_append inside (calls_in test) (calls_in chosen ++ calls_in other) (quiet_in inside test parts.0)
      (quiet_append inside (calls_in chosen) (calls_in other) (quiet_in inside chosen branches.0)
      (quiet_in inside other branches.1))
  quiet_in inside (Call at function roots arguments) h =
      let parts = or_none (holds_among inside arguments) (inside function) h in
      quiet_append inside (calls_among arguments) (record { site = at; function = function } ∷ [])
      (quiet_among inside arguments parts.0) (parts.1, tt)

  quiet_among : (inside : ℕ → Test) (es : Expressions) → holds_among inside es ≡ false → Quiet inside (calls_among es)
  quiet_among inside none h = tt
  quiet_among inside (more e rest) h =
      let parts = or_none (holds_in inside e) (holds_among inside rest) h in
      quiet_append inside (calls_in e) (calls_among rest) (quiet_in inside e parts.0) (quiet_among inside rest parts.1)

quiet_optional : (inside : ℕ → Test) (e : Option Expression) → holds_in_optional inside e ≡ false →
    Quiet inside (calls_in_optional e)
quiet_optional inside None h = tt
quiet_optional inside (Some e) h = quiet_in inside e h

mutual
  quiet_of : (inside : ℕ → Test) (s : Statement) → holds inside s ≡ false → Quiet inside (calls_of s)
  quiet_of inside (Do e) h = quiet_in inside e h
  quiet_of inside (Declare x value) h = quiet_optional inside value h
  quiet_of inside (Fill at array values) h = quiet_among inside values h
  quiet_of inside (Block list) h = quiet_all inside list h
  quiet_of inside (If at test chosen other) h =
      let parts = or_none (holds_in inside test) (some_holds inside chosen || some_holds inside other) h in
      let branches = or_none (some_holds inside chosen) (some_holds inside other) parts.1 in
      quiet_append inside (calls_in test) (calls_of_all chosen ++ calls_of_all other) (quiet_in inside test parts.0)
      (quiet_append inside (calls_of_all chosen) (calls_of_all other) (quiet_all inside chosen branches.0)
      (quiet_all inside other branches.1))
  quiet_of inside (Loop at first test step body) h =
      let parts = or_none (holds_in_optional inside test) (holds_in_optional inside step || holds inside body) h in
      let inner = or_none (holds_in_optional inside step) (holds inside body) parts.1 in
      quiet_append inside (calls_in_optional test) (calls_in_optional step ++ calls_of body)
      (quiet_optional inside test parts.0)
      (quiet_append inside (calls_in_optional step) (calls_of body) (quiet_optional inside step inner.0)
      (quiet_of inside body inner.1))
  quiet_of inside (Switch at value arms) h =
      let parts = or_none (holds_in inside value) (arms_hold inside arms) h in
      quiet_append inside (calls_in value) (calls_of_arms arms) (quiet_in inside value parts.0)
      (quiet_arms inside arms parts.1)
  quiet_of inside (Break at) h = tt
  quiet_of inside (Continue at) h = tt
  quiet_of inside (Return at value) h = quiet_optional inside value h
  quiet_of inside (Barrier at) h = absurd (true≢false h)

  quiet_all : (inside : ℕ → Test) (list : Statements) → some_holds inside list ≡ false →
      Quiet inside (calls_of_all list)
  quiet_all inside empty h = tt
  quiet_all inside (also s rest) h =
      let parts = or_none (holds inside s) (some_holds inside rest) h in
      quiet_append inside (calls_of s) (calls_of_all rest) (quiet_of inside s parts.0) (quiet_all inside rest parts.1)

  quiet_arms : (inside : ℕ → Test) (arms : Arms) → arms_hold inside arms ≡ false → Quiet inside (calls_of_arms arms)
  quiet_arms inside no_arm h = tt
  quiet_arms inside (arm labels other body rest) h =
      let parts = or_none (some_holds inside body) (arms_hold inside rest) h in
      quiet_append inside (calls_of_all body) (calls_of_arms rest) (quiet_all inside body parts.0)
      (quiet_arms inside rest parts.1)

-- ---- all instances

module _ (program : Program) (site : ℕ) where
  abbrev counted : Instance → ℕ
  counted i = count_of_all (barriers_with site) (function_at program i.function).body

  below_none : (depth : ℕ) (path : List ℕ) (f : ℕ) → body_holds program depth f ≡ false →
      sum_by counted (instances_below program depth path f) ≡ 0
  below_none zero path f h = refl
  below_none (suc depth) path f h =
      sum_by-cons counted (record { path = path; function = f })
      (flat_map below (calls_of_all (function_at program f).body))
      ∙ sum_none (counted (record { path = path; function = f }))
      (sum_by counted (flat_map below (calls_of_all (function_at program f).body)))
      (all_none site (body_holds program depth) (function_at program f).body h)
      (calls_none (calls_of_all (function_at program f).body)
      (quiet_all (body_holds program depth) (function_at program f).body h)
      (λ c q. below_none depth (path ++ c.site ∷ []) c.function q))
    where
      below : CallSite → List Instance
      below c = instances_below program depth (path ++ c.site ∷ []) c.function

      calls_none : (calls : List CallSite) → Quiet (body_holds program depth) calls →
          ((c : CallSite) → body_holds program depth c.function ≡ false → sum_by counted (below c) ≡ 0) →
          sum_by counted (flat_map below calls) ≡ 0
      calls_none [] q r = refl
      calls_none (c ∷ calls) q r = sum_by-append counted (below c) (flat_map below calls) ∙
          sum_none (sum_by counted (below c)) (sum_by counted (flat_map below calls)) (r c q.0) (calls_none calls q.1 r)

-- a kernel that holds no barrier after inlining counts none
pub inlined_none : (program : Program) (site : ℕ) → function_holds program program.kernel ≡ false →
    count_inlined program (barriers_with site) ≡ 0
inlined_none program site h = below_none program site (length program.functions) [] program.kernel h
