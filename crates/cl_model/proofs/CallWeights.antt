-- What a call of each function weighs: its body, where calls end.
use Rattle.std.proofs.Common.{◌≡◌, ℕ, zero, suc, List, [], ◌∷◌, ◌++◌, Option, Some, None, refl, ap, arith}
use Rattle.cl_model.specs.Lists.{Each}
use Rattle.cl_model.specs.Tree.{Expression, Apply, Update, Choose, Call, Expressions, none, more, Statement, Do}
use Rattle.cl_model.specs.Tree.{Declare, Fill, Block, If, Loop, Switch, Break, Continue, Return, Barrier, Statements}
use Rattle.cl_model.specs.Tree.{empty, also, Arms, no_arm, arm, Program}
use Rattle.cl_model.specs.Calls.{CallSite, calls_in, calls_among, calls_in_optional, calls_of, calls_of_all}
use Rattle.cl_model.specs.Calls.{calls_of_arms, function_at}
use Rattle.cl_model.specs.Valid.{CallsEnd}
use Rattle.cl_model.proofs.Weights.{expression_weight, operands_weight, optional_weight, statement_weight}
use Rattle.cl_model.proofs.Weights.{statements_weight, arms_weight}

pub each-left : {A : Type 0} (P : A → Type 0) (xs ys : List A) → Each P (xs ++ ys) → Each P xs
each-left P [] ys e = tt
each-left P (x ∷ xs) ys e = (e.0, each-left P xs ys e.1)

pub each-right : {A : Type 0} (P : A → Type 0) (xs ys : List A) → Each P (xs ++ ys) → Each P ys
each-right P [] ys e = e
each-right P (x ∷ xs) ys e = each-right P xs ys e.1

-- two weights of calls are the same at each of these
abbrev pub SameAt : (ℕ → ℕ) → (ℕ → ℕ) → List CallSite → Type 0
SameAt v w calls = Each (λ (c : CallSite). v c.function ≡ w c.function) calls

module _ (v w : ℕ → ℕ) where
  abbrev At : CallSite → Type 0
  At c = v c.function ≡ w c.function

  mutual
    same_expression : (e : Expression) → SameAt v w (calls_in e) → expression_weight v e ≡ expression_weight w e
    same_expression (Apply action operands) h = let a = same_operands operands h in omega arith
    same_expression (Update site element root op of back old index value) h =
        let a = same_expression index (each-left At (calls_in index) (calls_in value) h) in
        let b = same_expression value (each-right At (calls_in index) (calls_in value) h) in
        omega arith
    same_expression (Choose site test chosen other) h =
        let a = same_expression test (each-left At (calls_in test) (calls_in chosen ++ calls_in other) h) in
        let r = each-right At (calls_in test) (calls_in chosen ++ calls_in other) h in
        let b = same_expression chosen (each-left At (calls_in chosen) (calls_in other) r) in
        let c = same_expression other (each-right At (calls_in chosen) (calls_in other) r) in
        omega arith
    same_expression (Call site g roots arguments) h =
        let one : List CallSite = record { site = site; function = g } ∷ [] in
        let a = same_operands arguments (each-left At (calls_among arguments) one h) in
        let b = (each-right At (calls_among arguments) one h).0 in
        omega arith

    same_operands : (es : Expressions) → SameAt v w (calls_among es) → operands_weight v es ≡ operands_weight w es
    same_operands none h = refl
    same_operands (more e rest) h =
        let a = same_expression e (each-left At (calls_in e) (calls_among rest) h) in
        let b = same_operands rest (each-right At (calls_in e) (calls_among rest) h) in
        omega arith

  same_optional : (e : Option Expression) → SameAt v w (calls_in_optional e) → optional_weight v e ≡ optional_weight w e
  same_optional None h = refl
  same_optional (Some e) h = same_expression e h

  mutual
    same_statement : (c : ℕ) (s : Statement) → SameAt v w (calls_of s) → statement_weight v c s ≡ statement_weight w c s
    same_statement c (Do e) h = let a = same_expression e h in omega arith
    same_statement c (Declare x value) h = let a = same_optional value h in omega arith
    same_statement c (Fill site array values) h = let a = same_operands values h in omega arith
    same_statement c (Block list) h = let a = same_statements c list h in omega arith
    same_statement c (If site test chosen other) h =
        let a = same_expression test (each-left At (calls_in test) (calls_of_all chosen ++ calls_of_all other) h) in
        let r = each-right At (calls_in test) (calls_of_all chosen ++ calls_of_all other) h in
        let b = same_statements c chosen (each-left At (calls_of_all chosen) (calls_of_all other) r) in
        let d = same_statements c other (each-right At (calls_of_all chosen) (calls_of_all other) r) in
        omega arith
    same_statement c (Loop site test_first test step body) h =
        let a =
        same_optional test (each-left At (calls_in_optional test) (calls_in_optional step ++ calls_of body) h) in
        omega arith
    same_statement c (Switch site value arms) h =
        let a = same_expression value (each-left At (calls_in value) (calls_of_arms arms) h) in
        let b = same_arms c arms (each-right At (calls_in value) (calls_of_arms arms) h) in
        omega arith
    same_statement c (Break site) h = refl
    same_statement c (Continue site) h = refl
    same_statement c (Return site value) h = let a = same_optional value h in omega arith
    same_statement c (Barrier site) h = refl

    same_statements : (c : ℕ) (list : Statements) → SameAt v w (calls_of_all list) →
        statements_weight v c list ≡ statements_weight w c list
    same_statements c empty h = refl
    same_statements c (also s rest) h =
        let a = same_statement c s (each-left At (calls_of s) (calls_of_all rest) h) in
        let b = same_statements c rest (each-right At (calls_of s) (calls_of_all rest) h) in
        omega arith

    same_arms : (c : ℕ) (arms : Arms) → SameAt v w (calls_of_arms arms) → arms_weight v c arms ≡ arms_weight w c arms
    same_arms c no_arm h = refl
    same_arms c (arm labels other body rest) h =
        let a = same_statements c body (each-left At (calls_of_all body) (calls_of_arms rest) h) in
        let b = same_arms c rest (each-right At (calls_of_all body) (calls_of_arms rest) h) in
        omega arith

  pub same_body : (c : ℕ) (list : Statements) → SameAt v w (calls_of_all list) →
      statements_weight v c list ≡ statements_weight w c list
  same_body c list h = same_statements c list h

-- what a call weighs, with calls nested less deep than the depth
abbrev pub call_weight : Program → ℕ → ℕ → ℕ
call_weight program zero f = 0
call_weight program (suc depth) f =
    suc (suc (statements_weight (call_weight program depth) 0 (function_at program f).body))

each-map : {A : Type 0} {P Q : A → Type 0} (f : (x : A) → P x → Q x) (xs : List A) → Each P xs → Each Q xs
each-map f [] e = tt
each-map f (x ∷ xs) e = (f x e.0, each-map f xs e.1)

-- where calls end, a greater depth changes nothing
deeper : (program : Program) (depth f : ℕ) → CallsEnd program depth f →
    call_weight program depth f ≡ call_weight program (suc depth) f
deeper program zero f e = absurd e
deeper program (suc depth) f e =
    ap (λ n. suc (suc n)) (same_body (call_weight program depth) (call_weight program (suc depth)) 0
    (function_at program f).body
    (each-map (λ (c : CallSite) h. deeper program depth c.function h) (calls_of_all (function_at program f).body) e))

-- a call weighs more than the body of its function, with the end of it
pub call_weighs : (program : Program) (depth f : ℕ) → CallsEnd program depth f →
    call_weight program depth f ≡ suc
    (suc (statements_weight (call_weight program depth) 0 (function_at program f).body))
call_weighs program depth f e = deeper program depth f e
