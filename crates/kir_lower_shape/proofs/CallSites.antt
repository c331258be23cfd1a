-- The sites of the calls of a valid function differ, and have places.
use Rattle.std.proofs.Common.{◌≡◌, ℕ, zero, suc, ◌+◌, ◌<◌, ◌≤◌, List, [], ◌∷◌, ◌++◌, length, Option, Some, None}
use Rattle.std.proofs.Common.{slice_get, unwrap_or, refl, ap, ◌∙◌, subst, arith, inl, inr}
use Rattle.std.specs.Prelude.{flat_map}
use Rattle.std.proofs.lemmas.List.Concat.{flat_map-cons}
use Rattle.cl_model.specs.Tree.{Expression, Apply, Update, Choose, Call, Expressions, none, more, Statement, Do}
use Rattle.cl_model.specs.Tree.{Declare, Fill, Block, If, Loop, Switch, Break, Continue, Return, Barrier, Statements}
use Rattle.cl_model.specs.Tree.{empty, also, Arms, no_arm, arm, Function, Program}
use Rattle.cl_model.specs.Lists.{IsOneOf, Each}
use Rattle.cl_model.specs.Calls.{CallSite, calls_in, calls_among, calls_in_optional, calls_of, calls_of_all}
use Rattle.cl_model.specs.Calls.{calls_of_arms, function_at, no_function}
use Rattle.cl_model.specs.Valid.{IsValid, action_sites, sites_in, sites_among, sites_in_optional, sites_of}
use Rattle.cl_model.specs.Valid.{sites_of_all, sites_of_arms}
use Rattle.kir_lower_shape.proofs.Members.{times, times_append, times_of, of_times, at_most_once}

-- the sites of calls
abbrev pub call_sites : List CallSite → List ℕ
call_sites [] = []
call_sites (c ∷ calls) = c.site ∷ call_sites calls

call_sites_append : (xs ys : List CallSite) → call_sites (xs ++ ys) ≡ call_sites xs ++ call_sites ys
call_sites_append [] ys = refl
call_sites_append (x ∷ xs) ys = ap (λ z. x.site ∷ z) (call_sites_append xs ys)

-- how often a site is that of one of the calls
abbrev pub calls_at : ℕ → List CallSite → ℕ
calls_at n calls = times n (call_sites calls)

calls_at_append : (n : ℕ) (xs ys : List CallSite) → calls_at n (xs ++ ys) ≡ calls_at n xs + calls_at n ys
calls_at_append n xs ys = ap (times n) (call_sites_append xs ys) ∙ times_append n (call_sites xs) (call_sites ys)

-- a call has its site among those of the text
mutual
  expression_sites : (n : ℕ) (e : Expression) → calls_at n (calls_in e) ≤ times n (sites_in e)
  expression_sites n (Apply action operands) =
      let p = operand_sites n operands in let a =
      times_append n (action_sites action) (sites_among operands) in omega arith
  expression_sites n (Update site element root op of back old index value) =
      let p = expression_sites n index in let q = expression_sites n value in
      let a = calls_at_append n (calls_in index) (calls_in value) in let b =
      times_append n (sites_in index) (sites_in value) in omega arith
  expression_sites n (Choose site test chosen other) =
      let p = expression_sites n test in let q = expression_sites n chosen in let r = expression_sites n other in
      let a = calls_at_append n (calls_in test) (calls_in chosen ++ calls_in other) in let b =
      calls_at_append n (calls_in chosen) (calls_in other) in
      let c = times_append n (sites_in test) (sites_in chosen ++ sites_in other) in let d =
      times_append n (sites_in chosen) (sites_in other) in omega arith
  expression_sites n (Call site function roots arguments) =
      let p = operand_sites n arguments in
      let a =
      calls_at_append n (calls_among arguments) (record { site = site; function = function } ∷ []) in omega arith

  operand_sites : (n : ℕ) (list : Expressions) → calls_at n (calls_among list) ≤ times n (sites_among list)
  operand_sites n none = omega arith
  operand_sites n (more e rest) =
      let p = expression_sites n e in let q = operand_sites n rest in
      let a = calls_at_append n (calls_in e) (calls_among rest) in let b =
      times_append n (sites_in e) (sites_among rest) in omega arith

optional_sites : (n : ℕ) (e : Option Expression) → calls_at n (calls_in_optional e) ≤ times n (sites_in_optional e)
optional_sites n None = omega arith
optional_sites n (Some e) = expression_sites n e

mutual
  statement_sites : (n : ℕ) (s : Statement) → calls_at n (calls_of s) ≤ times n (sites_of s)
  statement_sites n (Do e) = expression_sites n e
  statement_sites n (Declare x value) = optional_sites n value
  statement_sites n (Fill site array values) = let p = operand_sites n values in omega arith
  statement_sites n (Block list) = list_sites n list
  statement_sites n (If site test chosen other) =
      let p = expression_sites n test in let q = list_sites n chosen in let r = list_sites n other in
      let a = calls_at_append n (calls_in test) (calls_of_all chosen ++ calls_of_all other) in let b =
      calls_at_append n (calls_of_all chosen) (calls_of_all other) in
      let c = times_append n (sites_in test) (sites_of_all chosen ++ sites_of_all other) in let d =
      times_append n (sites_of_all chosen) (sites_of_all other) in omega arith
  statement_sites n (Loop site test_first test step body) =
      let p = optional_sites n test in let q = optional_sites n step in let r = statement_sites n body in
      let a = calls_at_append n (calls_in_optional test) (calls_in_optional step ++ calls_of body) in let b =
      calls_at_append n (calls_in_optional step) (calls_of body) in
      let c = times_append n (sites_in_optional test) (sites_in_optional step ++ sites_of body) in let d =
      times_append n (sites_in_optional step) (sites_of body) in omega arith
  statement_sites n (Switch site value arms) =
      let p = expression_sites n value in let q = arms_sites n arms in
      let a = calls_at_append n (calls_in value) (calls_of_arms arms) in let b =
      times_append n (sites_in value) (sites_of_arms arms) in omega arith
  statement_sites n (Break site) = omega arith
  statement_sites n (Continue site) = omega arith
  statement_sites n (Return site value) = let p = optional_sites n value in omega arith
  statement_sites n (Barrier site) = omega arith

  pub list_sites : (n : ℕ) (list : Statements) → calls_at n (calls_of_all list) ≤ times n (sites_of_all list)
  list_sites n empty = omega arith
  list_sites n (also s rest) =
      let p = statement_sites n s in let q = list_sites n rest in
      let a = calls_at_append n (calls_of s) (calls_of_all rest) in let b =
      times_append n (sites_of s) (sites_of_all rest) in omega arith

  arms_sites : (n : ℕ) (arms : Arms) → calls_at n (calls_of_arms arms) ≤ times n (sites_of_arms arms)
  arms_sites n no_arm = omega arith
  arms_sites n (arm labels other body rest) =
      let p = list_sites n body in let q = arms_sites n rest in
      let a = calls_at_append n (calls_of_all body) (calls_of_arms rest) in let b =
      times_append n (sites_of_all body) (sites_of_arms rest) in omega arith

-- ---- in a whole program

each_one : {A : Type 0} (P : A → Type 0) (xs : List A) (x : A) → Each P xs → IsOneOf xs x → P x
each_one P [] x h i = absurd i
each_one P (y ∷ xs) x h (inl e) = subst P e h.0
each_one P (y ∷ xs) x h (inr i) = each_one P xs x h.1 i

abbrev program_sites : List Function → List ℕ
program_sites functions = flat_map (λ (f : Function). sites_of_all f.body) functions

-- a function has no site more often than the program
within_program : (n : ℕ) (functions : List Function) (f : ℕ) →
    times n (sites_of_all (unwrap_or (slice_get functions f) no_function).body) ≤ times n (program_sites functions)
within_program n [] f = omega arith
within_program n (g ∷ functions) zero =
    let a = ap (times n) (flat_map-cons (λ (f : Function). sites_of_all f.body) g functions) in
    let b = times_append n (sites_of_all g.body) (program_sites functions) in
    omega (arith, a, b)
within_program n (g ∷ functions) (suc f) =
    let p = within_program n functions f in
    let a = ap (times n) (flat_map-cons (λ (f : Function). sites_of_all f.body) g functions) in
    let b = times_append n (sites_of_all g.body) (program_sites functions) in
    omega (arith, a, b, p)

-- no two calls of a function have one site
pub sites_differ : (program : Program) → IsValid program → (f n : ℕ) →
    calls_at n (calls_of_all (function_at program f).body) ≤ 1
sites_differ program valid f n =
    let a = list_sites n (function_at program f).body in
    let b = within_program n program.functions f in
    let c = at_most_once n (program_sites program.functions) valid.sites in
    omega (arith, a, b, c)

one_call : (calls : List CallSite) (c : CallSite) → IsOneOf calls c → IsOneOf (call_sites calls) c.site
one_call [] c h = absurd h
one_call (d ∷ calls) c (inl e) = inl (ap (λ (z : CallSite). z.site) e)
one_call (d ∷ calls) c (inr h) = inr (one_call calls c h)

pub one_call_at : (calls : List CallSite) (c : CallSite) → IsOneOf calls c → 0 < calls_at c.site calls
one_call_at calls c h = times_of c.site (call_sites calls) (one_call calls c h)

-- the site of a call has a place
pub site_within : (program : Program) → IsValid program → (f : ℕ) (c : CallSite) →
    IsOneOf (calls_of_all (function_at program f).body) c → c.site < length program.sites
site_within program valid f c h =
    let a = one_call_at (calls_of_all (function_at program f).body) c h in
    let b = list_sites c.site (function_at program f).body in
    let d = within_program c.site program.functions f in
    each_one (λ site. site < length program.sites) (program_sites program.functions) c.site valid.places
    (of_times c.site (program_sites program.functions) (omega (arith, a, b, d)))
