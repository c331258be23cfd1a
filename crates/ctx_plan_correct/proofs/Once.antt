-- In a valid program each variable of an outline is declared once, and each site has one call.
use Rattle.std.proofs.Common.{◌≡◌, ℕ, zero, suc, ◌+◌, ◌<◌, ◌≤◌, List, [], ◌∷◌, ◌++◌, Option, Some, None, length, refl}
use Rattle.std.proofs.Common.{sym, ap, subst, arith, ◌⊎◌, inl, inr, ⊎_elim}
use Rattle.std.specs.Prelude.{Bool as Test, true, false}
use Rattle.std.specs.Prelude.{nat_eq, if◌then◌else◌}
use Rattle.std.proofs.lemmas.Bool.Decides.{nat_tests}
use Rattle.cl_model.specs.Tree.{Expression, Apply, Update, Choose, Call, Expressions, none, more, Statement, Do}
use Rattle.cl_model.specs.Tree.{Declare, Fill, Block, If, Loop, Switch, Break, Continue, Return, Barrier, Statements}
use Rattle.cl_model.specs.Tree.{empty, also, Arms, no_arm, arm, Function, Program}
use Rattle.cl_model.specs.Calls.{CallSite, calls_in, calls_among, calls_in_optional}
use Rattle.cl_model.specs.Lists.{IsOneOf, AllDiffer}
use Rattle.cl_model.specs.Valid.{declarations, all_declarations, arms_declarations, action_sites, sites_in}
use Rattle.cl_model.specs.Valid.{sites_among, sites_in_optional, sites_of, sites_of_all, sites_of_arms}
use Rattle.cl_model.specs.Valid.{IsValidFunction}
use Rattle.kir.specs.Inlined.{holds}
use Rattle.ctx_plan.specs.Outline.{Outline, NoPiece, DeclaresThen, CutThen, CallsThen, BlockThen, cut_then}
use Rattle.ctx_plan.specs.Outline.{calls_then, outline_then, outlines_then, outlines_of_arms, parameters_then}
use Rattle.ctx_plan.specs.Outline.{function_outline}
use Rattle.ctx_plan_correct.specs.Crossing.{DeclaredIn}
use Rattle.ctx_plan_correct.specs.Placing.{CalledIn, IsOnceIn}

abbrev pub tick : ℕ → ℕ → ℕ
tick y x = if nat_eq y x then 1 else 0

pub tick_same : (y x : ℕ) → y ≡ x → tick y x ≡ 1
tick_same y x e = ap (λ b. if b then 1 else 0) (let q : nat_eq y x ≡ true = grind (arith, nat_tests) in q)

tick_other : (y x : ℕ) → (y ≡ x → ⊥) → tick y x ≡ 0
tick_other y x ne = ap (λ b. if b then 1 else 0) (let q : nat_eq y x ≡ false = grind (arith, nat_tests) in q)

tick_most : (y x : ℕ) → tick y x ≤ 1
tick_most y x = by (nat_eq y x)
  where
    by : (b : Test) → (if b then 1 else 0) ≤ 1
    by true = omega arith
    by false = omega arith

same_number : (a b : ℕ) → (a ≡ b) ⊎ (a ≡ b → ⊥)
same_number a b = grind arith

-- ---- how often an outline declares a variable

abbrev declared_count : Outline → ℕ → ℕ
declared_count NoPiece x = 0
declared_count (DeclaresThen y rest) x = tick y x + declared_count rest x
declared_count (CutThen rest) x = declared_count rest x
declared_count (CallsThen site g rest) x = declared_count rest x
declared_count (BlockThen inner rest) x = declared_count inner x + declared_count rest x

declared_some : (o : Outline) (x : ℕ) → DeclaredIn o x → 0 < declared_count o x
declared_some NoPiece x h = absurd h
declared_some (DeclaresThen y rest) x h = ⊎_elim (λ e. let t = tick_same y x e in
    omega (arith, t)) (λ d. let r = declared_some rest x d in omega (arith, r)) h
declared_some (CutThen rest) x h = declared_some rest x h
declared_some (CallsThen site g rest) x h = declared_some rest x h
declared_some (BlockThen inner rest) x h = ⊎_elim (λ d. let r = declared_some inner x d in
    omega (arith, r)) (λ d. let r = declared_some rest x d in omega (arith, r)) h

module _ (inside : ℕ → Test) (x : ℕ) where
  calls_declare : (calls : List CallSite) (o : Outline) → declared_count (calls_then calls o) x ≡ declared_count o x
  calls_declare [] o = refl
  calls_declare (c ∷ calls) o = calls_declare calls o

  cut_declare : (b : Test) (o : Outline) → declared_count (cut_then b o) x ≡ declared_count o x
  cut_declare true o = refl
  cut_declare false o = refl

  mutual
    of_declare : (s : Statement) (o : Outline) → declared_count (outline_then inside s o) x ≡ declarations s x +
        declared_count o x
    of_declare (Do e) o = let a = calls_declare (calls_in e) o in omega (arith, a)
    of_declare (Declare y value) o = calls_declare (calls_in_optional value) (DeclaresThen y o)
    of_declare (Fill site array values) o = let a = calls_declare (calls_among values) o in omega (arith, a)
    of_declare (Block list) o = let a = all_declare list NoPiece in omega (arith, a)
    of_declare (If site test chosen other) o =
        let b = holds inside (If site test chosen other) in
        let o1 = cut_then b o in
        let o2 = outlines_then inside other o1 in
        let o3 = outlines_then inside chosen (cut_then b o2) in
        let e1 = cut_declare b o in
        let e2 = all_declare other o1 in
        let e3 = cut_declare b o2 in
        let e4 = all_declare chosen (cut_then b o2) in
        let e5 = cut_declare b o3 in
        let e6 = calls_declare (calls_in test) (cut_then b o3) in
        let e7 = cut_declare b (calls_then (calls_in test) (cut_then b o3)) in
        omega (arith, e1, e2, e3, e4, e5, e6, e7)
    of_declare (Loop site true test step body) o =
        let b = holds inside (Loop site true test step body) in
        let o1 = outline_then inside body (cut_then b o) in
        let o2 = calls_then (calls_in_optional step) (cut_then b o1) in
        let o3 = calls_then (calls_in_optional test) (cut_then b o2) in
        let e1 = cut_declare b o in
        let e2 = of_declare body (cut_then b o) in
        let e3 = cut_declare b o1 in
        let e4 = calls_declare (calls_in_optional step) (cut_then b o1) in
        let e5 = cut_declare b o2 in
        let e6 = calls_declare (calls_in_optional test) (cut_then b o2) in
        let e7 = cut_declare b o3 in
        omega (arith, e1, e2, e3, e4, e5, e6, e7)
    of_declare (Loop site false test step body) o =
        let b = holds inside (Loop site false test step body) in
        let o1 = calls_then (calls_in_optional test) (cut_then b o) in
        let o2 = calls_then (calls_in_optional step) (cut_then b o1) in
        let o3 = outline_then inside body (cut_then b o2) in
        let e1 = cut_declare b o in
        let e2 = calls_declare (calls_in_optional test) (cut_then b o) in
        let e3 = cut_declare b o1 in
        let e4 = calls_declare (calls_in_optional step) (cut_then b o1) in
        let e5 = cut_declare b o2 in
        let e6 = of_declare body (cut_then b o2) in
        let e7 = cut_declare b o3 in
        omega (arith, e1, e2, e3, e4, e5, e6, e7)
    of_declare (Switch site value arms) o =
        let b = holds inside (Switch site value arms) in
        let o1 = outlines_of_arms inside arms (cut_then b o) in
        let o2 = calls_then (calls_in value) (cut_then b o1) in
        let e1 = cut_declare b o in
        let e2 = arms_declare arms (cut_then b o) in
        let e3 = cut_declare b o1 in
        let e4 = calls_declare (calls_in value) (cut_then b o1) in
        let e5 = cut_declare b o2 in
        omega (arith, e1, e2, e3, e4, e5)
    of_declare (Break site) o = omega arith
    of_declare (Continue site) o = omega arith
    of_declare (Return site value) o = let a = calls_declare (calls_in_optional value) o in omega (arith, a)
    of_declare (Barrier site) o = omega arith

    all_declare : (list : Statements) (o : Outline) →
        declared_count (outlines_then inside list o) x ≡ all_declarations list x + declared_count o x
    all_declare empty o = omega arith
    all_declare (also s list) o = let a = of_declare s (outlines_then inside list o) in let b =
        all_declare list o in omega (arith, a, b)

    arms_declare : (arms : Arms) (o : Outline) → declared_count (outlines_of_arms inside arms o) x ≡
        arms_declarations arms x + declared_count o x
    arms_declare no_arm o = omega arith
    arms_declare (arm labels other body arms) o = let a = all_declare body (outlines_of_arms inside arms o) in let b =
        arms_declare arms o in omega (arith, a, b)

  parameters_outside : (first n : ℕ) (o : Outline) → (x < first) ⊎ (first + n ≤ x) →
      declared_count (parameters_then first n o) x ≡ declared_count o x
  parameters_outside first zero o h = refl
  parameters_outside first (suc n) o h =
      let t = tick_other first x (⊎_elim (λ l. λ e. let q = e in omega (arith, l, q)) (λ l. λ e. let q = e in
      omega (arith, l, q)) h) in
      let r =
      parameters_outside (suc first) n o (⊎_elim (λ l. inl (omega (arith, l))) (λ l. inr (omega (arith, l))) h) in
      omega (arith, t, r)

  parameters_most : (first n : ℕ) (o : Outline) → declared_count (parameters_then first n o) x ≤ 1 + declared_count o x
  parameters_most first zero o = omega arith
  parameters_most first (suc n) o =
      let r = parameters_most (suc first) n o in
      ⊎_elim (λ e. let q = parameters_outside (suc first) n o (inl (let k = e in omega (arith, k))) in
      let t = tick_most first x in omega (arith, q, t))
      (λ ne. let t = tick_other first x ne in omega (arith, t, r)) (same_number first x)

-- each variable of a valid function is declared at most once
pub declared_most : (program : Program) (inside : ℕ → Test) (f : Function) → IsValidFunction program f → (x : ℕ) →
    x < length f.variables → declared_count (function_outline inside f) x ≤ 1
declared_most program inside f valid x lt = by (split x f.parameters)
  where
    body : declared_count (outlines_then inside f.body NoPiece) x ≡ all_declarations f.body x
    body = let a = all_declare inside x f.body NoPiece in omega (arith, a)

    split : (a b : ℕ) → (a < b) ⊎ (b ≤ a)
    split a b = grind arith

    by : (x < f.parameters) ⊎ (f.parameters ≤ x) → declared_count (function_outline inside f) x ≤ 1
    by (inl l) = let u = valid.undeclared x l in let m =
        parameters_most inside x 0 f.parameters (outlines_then inside f.body NoPiece) in omega (arith, u, m, body)
    by (inr l) = let d = valid.declared x l lt in let m =
        parameters_outside inside x 0 f.parameters (outlines_then inside f.body NoPiece) (inr (omega (arith, l))) in
        omega (arith, d, m, body)

-- ---- how often a site has a call

abbrev pub occurs : ℕ → List ℕ → ℕ
occurs n [] = 0
occurs n (m ∷ ms) = tick m n + occurs n ms

pub occurs_append : (n : ℕ) (xs ys : List ℕ) → occurs n (xs ++ ys) ≡ occurs n xs + occurs n ys
occurs_append n [] ys = omega arith
occurs_append n (m ∷ xs) ys = let r = occurs_append n xs ys in omega (arith, r)

occurs_none : (n : ℕ) (xs : List ℕ) → (IsOneOf xs n → ⊥) → occurs n xs ≡ 0
occurs_none n [] h = refl
occurs_none n (m ∷ xs) h = let t = tick_other m n (λ e. h (inl e)) in let r =
    occurs_none n xs (λ k. h (inr k)) in omega (arith, t, r)

pub occurs_one : (n : ℕ) (xs : List ℕ) → 0 < occurs n xs → IsOneOf xs n
occurs_one n [] h = absurd (omega arith)
occurs_one n (m ∷ xs) h = ⊎_elim (λ e. inl e) (λ ne. let t = tick_other m n ne in
    inr (occurs_one n xs (omega (arith, h, t)))) (same_number m n)

pub differ_once : (n : ℕ) (xs : List ℕ) → AllDiffer xs → occurs n xs ≤ 1
differ_once n [] d = omega arith
differ_once n (m ∷ xs) d =
    ⊎_elim (λ e. let t = tick_most m n in let r = occurs_none n xs (λ k. d.0 (subst (λ z. IsOneOf xs z) (sym e) k)) in
    omega (arith, t, r))
    (λ ne. let t = tick_other m n ne in let r = differ_once n xs d.1 in omega (arith, t, r)) (same_number m n)

abbrev pub called_count : Outline → ℕ → ℕ
called_count NoPiece n = 0
called_count (DeclaresThen y rest) n = called_count rest n
called_count (CutThen rest) n = called_count rest n
called_count (CallsThen site g rest) n = tick site n + called_count rest n
called_count (BlockThen inner rest) n = called_count inner n + called_count rest n

pub called_some : (o : Outline) (n : ℕ) → CalledIn o n → 0 < called_count o n
called_some NoPiece n h = absurd h
called_some (DeclaresThen y rest) n h = called_some rest n h
called_some (CutThen rest) n h = called_some rest n h
called_some (CallsThen site g rest) n h = ⊎_elim (λ e. let t = tick_same site n e in
    omega (arith, t)) (λ d. let r = called_some rest n d in omega (arith, r)) h
called_some (BlockThen inner rest) n h = ⊎_elim (λ d. let r = called_some inner n d in
    omega (arith, r)) (λ d. let r = called_some rest n d in omega (arith, r)) h

module _ (inside : ℕ → Test) (n : ℕ) where
  abbrev sites_called : List CallSite → ℕ
  sites_called [] = 0
  sites_called (c ∷ calls) = tick c.site n + sites_called calls

  called_append : (xs ys : List CallSite) → sites_called (xs ++ ys) ≡ sites_called xs + sites_called ys
  called_append [] ys = omega arith
  called_append (c ∷ xs) ys = let r = called_append xs ys in omega (arith, r)

  calls_call : (calls : List CallSite) (o : Outline) → called_count (calls_then calls o) n ≡ sites_called calls +
      called_count o n
  calls_call [] o = omega arith
  calls_call (c ∷ calls) o = let r = calls_call calls o in omega (arith, r)

  mutual
    in_sites : (e : Expression) → sites_called (calls_in e) ≤ occurs n (sites_in e)
    in_sites (Apply action operands) = let a = among_sites operands in let b =
        occurs_append n (action_sites action) (sites_among operands) in omega (arith, a, b)
    in_sites (Update site element root op of back old index value) =
        let a = in_sites index in let b = in_sites value in let c = called_append (calls_in index) (calls_in value) in
        let d = occurs_append n (sites_in index) (sites_in value) in omega (arith, a, b, c, d)
    in_sites (Choose site test chosen other) =
        let a = in_sites test in
        let b = in_sites chosen in
        let c = in_sites other in
        let d = called_append (calls_in test) (calls_in chosen ++ calls_in other) in
        let e = called_append (calls_in chosen) (calls_in other) in
        let f = occurs_append n (sites_in test) (sites_in chosen ++ sites_in other) in
        let g = occurs_append n (sites_in chosen) (sites_in other) in
        omega (arith, a, b, c, d, e, f, g)
    in_sites (Call site function roots arguments) = let a = among_sites arguments in let c =
        called_append (calls_among arguments) (record { site = site; function = function } ∷ []) in omega (arith, a, c)

    among_sites : (es : Expressions) → sites_called (calls_among es) ≤ occurs n (sites_among es)
    among_sites none = omega arith
    among_sites (more e rest) =
        let a = in_sites e in let b = among_sites rest in let c = called_append (calls_in e) (calls_among rest) in
        let d = occurs_append n (sites_in e) (sites_among rest) in omega (arith, a, b, c, d)

  optional_sites : (e : Option Expression) → sites_called (calls_in_optional e) ≤ occurs n (sites_in_optional e)
  optional_sites None = omega arith
  optional_sites (Some e) = in_sites e

  cut_call : (b : Test) (o : Outline) → called_count (cut_then b o) n ≡ called_count o n
  cut_call true o = refl
  cut_call false o = refl

  mutual
    of_call : (s : Statement) (o : Outline) → called_count (outline_then inside s o) n ≤ occurs n (sites_of s) +
        called_count o n
    of_call (Do e) o = let a = calls_call (calls_in e) o in let b = in_sites e in omega (arith, a, b)
    of_call (Declare y value) o = let a = calls_call (calls_in_optional value) (DeclaresThen y o) in let b =
        optional_sites value in omega (arith, a, b)
    of_call (Fill site array values) o = let a = calls_call (calls_among values) o in let b =
        among_sites values in omega (arith, a, b)
    of_call (Block list) o = let a = all_call list NoPiece in omega (arith, a)
    of_call (If site test chosen other) o =
        let b = holds inside (If site test chosen other) in
        let o1 = cut_then b o in
        let o2 = outlines_then inside other o1 in
        let o3 = outlines_then inside chosen (cut_then b o2) in
        let e1 = cut_call b o in
        let e2 = all_call other o1 in
        let e3 = cut_call b o2 in
        let e4 = all_call chosen (cut_then b o2) in
        let e5 = cut_call b o3 in
        let e6 = calls_call (calls_in test) (cut_then b o3) in
        let e7 = cut_call b (calls_then (calls_in test) (cut_then b o3)) in
        let e8 = in_sites test in
        let f = occurs_append n (sites_in test) (sites_of_all chosen ++ sites_of_all other) in
        let g = occurs_append n (sites_of_all chosen) (sites_of_all other) in
        omega (arith, e1, e2, e3, e4, e5, e6, e7, e8, f, g)
    of_call (Loop site true test step body) o =
        let b = holds inside (Loop site true test step body) in
        let o1 = outline_then inside body (cut_then b o) in
        let o2 = calls_then (calls_in_optional step) (cut_then b o1) in
        let o3 = calls_then (calls_in_optional test) (cut_then b o2) in
        let e1 = cut_call b o in
        let e2 = of_call body (cut_then b o) in
        let e3 = cut_call b o1 in
        let e4 = calls_call (calls_in_optional step) (cut_then b o1) in
        let e5 = cut_call b o2 in
        let e6 = calls_call (calls_in_optional test) (cut_then b o2) in
        let e7 = cut_call b o3 in
        let e8 = optional_sites step in
        let e9 = optional_sites test in
        let f = occurs_append n (sites_in_optional test) (sites_in_optional step ++ sites_of body) in
        let g = occurs_append n (sites_in_optional step) (sites_of body) in
        omega (arith, e1, e2, e3, e4, e5, e6, e7, e8, e9, f, g)
    of_call (Loop site false test step body) o =
        let b = holds inside (Loop site false test step body) in
        let o1 = calls_then (calls_in_optional test) (cut_then b o) in
        let o2 = calls_then (calls_in_optional step) (cut_then b o1) in
        let o3 = outline_then inside body (cut_then b o2) in
        let e1 = cut_call b o in
        let e2 = calls_call (calls_in_optional test) (cut_then b o) in
        let e3 = cut_call b o1 in
        let e4 = calls_call (calls_in_optional step) (cut_then b o1) in
        let e5 = cut_call b o2 in
        let e6 = of_call body (cut_then b o2) in
        let e7 = cut_call b o3 in
        let e8 = optional_sites step in
        let e9 = optional_sites test in
        let f = occurs_append n (sites_in_optional test) (sites_in_optional step ++ sites_of body) in
        let g = occurs_append n (sites_in_optional step) (sites_of body) in
        omega (arith, e1, e2, e3, e4, e5, e6, e7, e8, e9, f, g)
    of_call (Switch site value arms) o =
        let b = holds inside (Switch site value arms) in
        let o1 = outlines_of_arms inside arms (cut_then b o) in
        let o2 = calls_then (calls_in value) (cut_then b o1) in
        let e1 = cut_call b o in
        let e2 = arms_call arms (cut_then b o) in
        let e3 = cut_call b o1 in
        let e4 = calls_call (calls_in value) (cut_then b o1) in
        let e5 = cut_call b o2 in
        let e6 = in_sites value in
        let f = occurs_append n (sites_in value) (sites_of_arms arms) in
        omega (arith, e1, e2, e3, e4, e5, e6, f)
    of_call (Break site) o = omega arith
    of_call (Continue site) o = omega arith
    of_call (Return site value) o = let a = calls_call (calls_in_optional value) o in let b =
        optional_sites value in omega (arith, a, b)
    of_call (Barrier site) o = omega arith

    all_call : (list : Statements) (o : Outline) →
        called_count (outlines_then inside list o) n ≤ occurs n (sites_of_all list) + called_count o n
    all_call empty o = omega arith
    all_call (also s list) o = let a = of_call s (outlines_then inside list o) in let b = all_call list o in let c =
        occurs_append n (sites_of s) (sites_of_all list) in omega (arith, a, b, c)

    arms_call : (arms : Arms) (o : Outline) → called_count (outlines_of_arms inside arms o) n ≤
        occurs n (sites_of_arms arms) + called_count o n
    arms_call no_arm o = omega arith
    arms_call (arm labels other body arms) o =
        let a = all_call body (outlines_of_arms inside arms o) in let b = arms_call arms o in let c =
        occurs_append n (sites_of_all body) (sites_of_arms arms) in omega (arith, a, b, c)

  parameters_call : (first k : ℕ) (o : Outline) → called_count (parameters_then first k o) n ≡ called_count o n
  parameters_call first zero o = refl
  parameters_call first (suc k) o = parameters_call (suc first) k o

  pub function_call : (f : Function) → called_count (function_outline inside f) n ≤ occurs n (sites_of_all f.body)
  function_call f = let a = parameters_call 0 f.parameters (outlines_then inside f.body NoPiece) in let b =
      all_call f.body NoPiece in omega (arith, a, b)

-- ---- once

once_from : (marked : ℕ → Test) (o : Outline) → ((x : ℕ) → marked x ≡ true → declared_count o x ≤ 1) →
    ((n : ℕ) → called_count o n ≤ 1) → IsOnceIn marked o
once_from marked NoPiece f g = tt
once_from marked (DeclaresThen y rest) f g = (
  λ m h. let q = f y m in let t = tick_same y y refl in let r = declared_some rest y h in omega (arith, q, t, r),
  once_from marked rest (λ x m. let q = f x m in omega (arith, q)) g,
)
once_from marked (CutThen rest) f g = once_from marked rest f g
once_from marked (CallsThen site h rest) f g = (
  λ c. let q = g site in let t = tick_same site site refl in let r = called_some rest site c in
      omega (arith, q, t, r),
  once_from marked rest f (λ n. let q = g n in omega (arith, q)),
)
once_from marked (BlockThen inner rest) f g = (
  λ x m h k. let q = f x m in let a = declared_some inner x h in let b =
      declared_some rest x k in omega (arith, q, a, b),
  λ n h k. let q = g n in let a = called_some inner n h in let b = called_some rest n k in omega (arith, q, a, b),
  once_from marked inner (λ x m. let q = f x m in omega (arith, q)) (λ n. let q = g n in omega (arith, q)),
  once_from marked rest (λ x m. let q = f x m in omega (arith, q)) (λ n. let q = g n in omega (arith, q)),
)

-- in a valid function whose sites differ, where only variables that are there are marked
pub function_once : (program : Program) (inside marked : ℕ → Test) (f : Function) → IsValidFunction program f →
    ((x : ℕ) → marked x ≡ true → x < length f.variables) → ((n : ℕ) → occurs n (sites_of_all f.body) ≤ 1) →
    IsOnceIn marked (function_outline inside f)
function_once program inside marked f valid range sites =
    once_from marked (function_outline inside f) (λ x m. declared_most program inside f valid x (range x m))
    (λ n. let q = function_call inside n f in let r = sites n in omega (arith, q, r))
