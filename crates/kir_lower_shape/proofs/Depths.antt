-- What holds a barrier does not depend on how deep calls are looked at, once that is deep enough.
use Rattle.std.proofs.Common.{◌≡◌, ℕ, zero, suc, List, [], ◌∷◌, ◌++◌, Option, Some, None, refl, ap₂}
use Rattle.std.proofs.Common.{Bool as Test}
use Rattle.std.specs.Prelude.{◌||◌}
use Rattle.cl_model.specs.Tree.{Expression, Apply, Update, Choose, Call, Expressions, none, more, Statement, Do}
use Rattle.cl_model.specs.Tree.{Declare, Fill, Block, If, Loop, Switch, Break, Continue, Return, Barrier, Statements}
use Rattle.cl_model.specs.Tree.{empty, also, Arms, no_arm, arm, Program}
use Rattle.cl_model.specs.Lists.{Each}
use Rattle.cl_model.specs.Calls.{CallSite, calls_in, calls_among, calls_in_optional, calls_of, calls_of_all}
use Rattle.cl_model.specs.Calls.{calls_of_arms, function_at}
use Rattle.cl_model.specs.Valid.{CallsEnd}
use Rattle.kir.specs.Inlined.{holds_in, holds_among, holds_in_optional, holds, some_holds, arms_hold, body_holds}

each_left : (P : CallSite → Type 0) (xs ys : List CallSite) → Each P (xs ++ ys) → Each P xs
each_left P [] ys h = tt
each_left P (x ∷ xs) ys h = (h.0, each_left P xs ys h.1)

each_right : (P : CallSite → Type 0) (xs ys : List CallSite) → Each P (xs ++ ys) → Each P ys
each_right P [] ys h = h
each_right P (x ∷ xs) ys h = each_right P xs ys h.1

pub each_all : (P Q : CallSite → Type 0) → ((c : CallSite) → P c → Q c) → (xs : List CallSite) → Each P xs → Each Q xs
each_all P Q f [] h = tt
each_all P Q f (x ∷ xs) h = (f x h.0, each_all P Q f xs h.1)

module _ (inside other : ℕ → Test) where
  -- both say the same of a called function
  abbrev pub Same : CallSite → Type 0
  Same c = inside c.function ≡ other c.function

  mutual
    expression_same : (e : Expression) → Each Same (calls_in e) → holds_in inside e ≡ holds_in other e
    expression_same (Apply action operands) h = operands_same operands h
    expression_same (Update site element root op of back old index value) h =
        ap₂ (λ y z. y || z) (expression_same index (each_left Same (calls_in index) (calls_in value) h))
        (expression_same value (each_right Same (calls_in index) (calls_in value) h))
    expression_same (Choose site test chosen other_) h =
        let k = each_right Same (calls_in test) (calls_in chosen ++ calls_in other_) h in
        ap₂ (λ y z. y || z) (expression_same test (each_left Same (calls_in test) (calls_in chosen ++ calls_in other_)
        h))
        (ap₂ (λ y z. y || z) (expression_same chosen (each_left Same (calls_in chosen) (calls_in other_) k))
        (expression_same other_ (each_right Same (calls_in chosen) (calls_in other_) k)))
    expression_same (Call site function roots arguments) h =
        ap₂ (λ y z. y || z) (operands_same arguments (each_left Same (calls_among arguments) (record {
          site = site;
          function = function;
        } ∷ []) h)) (each_right Same (calls_among arguments) (record {
          site = site;
          function = function;
        } ∷ []) h).0

    operands_same : (list : Expressions) → Each Same (calls_among list) →
        holds_among inside list ≡ holds_among other list
    operands_same none h = refl
    operands_same (more e rest) h =
        ap₂ (λ y z. y || z) (expression_same e (each_left Same (calls_in e) (calls_among rest) h))
        (operands_same rest (each_right Same (calls_in e) (calls_among rest) h))

  optional_same : (e : Option Expression) → Each Same (calls_in_optional e) →
      holds_in_optional inside e ≡ holds_in_optional other e
  optional_same None h = refl
  optional_same (Some e) h = expression_same e h

  mutual
    statement_same : (s : Statement) → Each Same (calls_of s) → holds inside s ≡ holds other s
    statement_same (Do e) h = expression_same e h
    statement_same (Declare x value) h = optional_same value h
    statement_same (Fill site array values) h = operands_same values h
    statement_same (Block list) h = list_same list h
    statement_same (If site test chosen other_) h =
        let k = each_right Same (calls_in test) (calls_of_all chosen ++ calls_of_all other_) h in
        ap₂ (λ y z. y || z) (expression_same test
        (each_left Same (calls_in test) (calls_of_all chosen ++ calls_of_all other_) h))
        (ap₂ (λ y z. y || z) (list_same chosen (each_left Same (calls_of_all chosen) (calls_of_all other_) k))
        (list_same other_ (each_right Same (calls_of_all chosen) (calls_of_all other_) k)))
    statement_same (Loop site test_first test step body) h =
        let k = each_right Same (calls_in_optional test) (calls_in_optional step ++ calls_of body) h in
        ap₂ (λ y z. y || z) (optional_same test (each_left Same (calls_in_optional test) (calls_in_optional step ++
        calls_of body) h))
        (ap₂ (λ y z. y || z) (optional_same step (each_left Same (calls_in_optional step) (calls_of body) k))
        (statement_same body (each_right Same (calls_in_optional step) (calls_of body) k)))
    statement_same (Switch site value arms) h =
        ap₂ (λ y z. y || z) (expression_same value (each_left Same (calls_in value) (calls_of_arms arms) h))
        (arms_same arms (each_right Same (calls_in value) (calls_of_arms arms) h))
    statement_same (Break site) h = refl
    statement_same (Continue site) h = refl
    statement_same (Return site value) h = optional_same value h
    statement_same (Barrier site) h = refl

    pub list_same : (list : Statements) → Each Same (calls_of_all list) → some_holds inside list ≡ some_holds other list
    list_same empty h = refl
    list_same (also s rest) h = ap₂ (λ y z. y || z)
        (statement_same s (each_left Same (calls_of s) (calls_of_all rest) h))
        (list_same rest (each_right Same (calls_of s) (calls_of_all rest) h))

    arms_same : (arms : Arms) → Each Same (calls_of_arms arms) → arms_hold inside arms ≡ arms_hold other arms
    arms_same no_arm h = refl
    arms_same (arm labels d body rest) h =
        ap₂ (λ y z. y || z) (list_same body (each_left Same (calls_of_all body) (calls_of_arms rest) h))
        (arms_same rest (each_right Same (calls_of_all body) (calls_of_arms rest) h))

-- one level deeper says the same where calls nest less deep
pub holds_deep : (program : Program) (depth f : ℕ) → CallsEnd program depth f →
    body_holds program (suc depth) f ≡ body_holds program depth f
holds_deep program zero f h = absurd h
holds_deep program (suc depth) f h =
    list_same (body_holds program (suc depth)) (body_holds program depth) (function_at program f).body
    (each_all (λ (c : CallSite). CallsEnd program depth c.function)
    (Same (body_holds program (suc depth)) (body_holds program depth))
    (λ c e. holds_deep program depth c.function e) (calls_of_all (function_at program f).body) h)
