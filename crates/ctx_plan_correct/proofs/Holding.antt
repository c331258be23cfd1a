-- Which functions hold a barrier: what the plan finds is what the inlined text has, wherever calls end.
use Rattle.std.proofs.Common.{◌≡◌, ℕ, zero, suc, ◌+◌, ◌≤◌, List, [], ◌∷◌, ◌++◌, Option, Some, None, length, refl, sym}
use Rattle.std.proofs.Common.{ap, ap₂, ◌∙◌, subst, arith, map, replicate, unwrap_or}
use Rattle.std.specs.Prelude.{Bool as Test, true, false}
use Rattle.std.specs.Prelude.{◌||◌, slice_get}
use Rattle.cl_model.specs.Tree.{Expression, Apply, Update, Choose, Call, Expressions, none, more, Statement, Do}
use Rattle.cl_model.specs.Tree.{Declare, Fill, Block, If, Loop, Switch, Break, Continue, Return, Barrier, Statements}
use Rattle.cl_model.specs.Tree.{empty, also, Arms, no_arm, arm, Function, Program}
use Rattle.cl_model.specs.Calls.{CallSite, calls_in, calls_among, calls_in_optional, calls_of, calls_of_all}
use Rattle.cl_model.specs.Calls.{calls_of_arms, no_function, function_at}
use Rattle.cl_model.specs.Lists.{Each}
use Rattle.cl_model.specs.Valid.{CallsEnd}
use Rattle.kir.specs.Inlined.{holds_in, holds_among, holds_in_optional, holds, some_holds, arms_hold, body_holds}
use Rattle.kir.specs.Inlined.{function_text}
use Rattle.ctx_plan.specs.Outline.{Outline, NoPiece, BlockThen, cut_then, calls_then, outline_then, outlines_then}
use Rattle.ctx_plan.specs.Outline.{outlines_of_arms, parameters_then, function_outline}
use Rattle.ctx_plan.specs.Points.{entry}
use Rattle.ctx_plan.specs.Sharing.{holding_after, holding_of}
use Rattle.ctx_plan_correct.proofs.Outlined.{text_of, inlining, function_outlined}

-- ---- lists

pub each_parts : {A : Type 0} (P : A → Type 0) (xs ys : List A) → Each P (xs ++ ys) → Each P xs × Each P ys
each_parts P [] ys e = (tt, e)
each_parts P (x ∷ xs) ys e = let r = each_parts P xs ys e.1 in ((e.0, r.0), r.1)

pub each_map : {A : Type 0} (P Q : A → Type 0) (xs : List A) → ((x : A) → P x → Q x) → Each P xs → Each Q xs
each_map P Q [] f e = tt
each_map P Q (x ∷ xs) f e = (f x e.0, each_map P Q xs f e.1)

-- ---- what holds a barrier depends on the functions that are called

module _ (i j : ℕ → Test) where
  -- both say the same of the function of a call
  abbrev pub Agree : CallSite → Type 0
  Agree c = i c.function ≡ j c.function

  mutual
    same_in : (e : Expression) → Each Agree (calls_in e) → holds_in i e ≡ holds_in j e
    same_in (Apply action operands) h = same_among operands h
    same_in (Update site element root op of back old index value) h =
        let p = each_parts Agree (calls_in index) (calls_in value) h in
        ap₂ (λ a b. a || b) (same_in index p.0) (same_in value p.1)
    same_in (Choose site test chosen other) h =
        let p = each_parts Agree (calls_in test) (calls_in chosen ++ calls_in other) h in
        let q = each_parts Agree (calls_in chosen) (calls_in other) p.1 in
        ap₂ (λ a b. a || b) (same_in test p.0) (ap₂ (λ a b. a || b) (same_in chosen q.0) (same_in other q.1))
    same_in (Call site function roots arguments) h =
        let p = each_parts Agree (calls_among arguments) (record { site = site; function = function } ∷ []) h in
        ap₂ (λ a b. a || b) (same_among arguments p.0) p.1.0

    same_among : (es : Expressions) → Each Agree (calls_among es) → holds_among i es ≡ holds_among j es
    same_among none h = refl
    same_among (more e rest) h = let p =
        each_parts Agree (calls_in e) (calls_among rest) h in ap₂ (λ a b. a || b) (same_in e p.0) (same_among rest p.1)

  same_optional : (e : Option Expression) → Each Agree (calls_in_optional e) →
      holds_in_optional i e ≡ holds_in_optional j e
  same_optional None h = refl
  same_optional (Some e) h = same_in e h

  mutual
    same_of : (s : Statement) → Each Agree (calls_of s) → holds i s ≡ holds j s
    same_of (Do e) h = same_in e h
    same_of (Declare x value) h = same_optional value h
    same_of (Fill site array values) h = same_among values h
    same_of (Block list) h = same_all list h
    same_of (If site test chosen other) h =
        let p = each_parts Agree (calls_in test) (calls_of_all chosen ++ calls_of_all other) h in
        let q = each_parts Agree (calls_of_all chosen) (calls_of_all other) p.1 in
        ap₂ (λ a b. a || b) (same_in test p.0) (ap₂ (λ a b. a || b) (same_all chosen q.0) (same_all other q.1))
    same_of (Loop site first test step body) h =
        let p = each_parts Agree (calls_in_optional test) (calls_in_optional step ++ calls_of body) h in
        let q = each_parts Agree (calls_in_optional step) (calls_of body) p.1 in
        ap₂ (λ a b. a || b) (same_optional test p.0) (ap₂ (λ a b. a || b) (same_optional step q.0) (same_of body q.1))
    same_of (Switch site value arms) h = let p = each_parts Agree (calls_in value) (calls_of_arms arms) h in
        ap₂ (λ a b. a || b) (same_in value p.0) (same_arms arms p.1)
    same_of (Break site) h = refl
    same_of (Continue site) h = refl
    same_of (Return site value) h = same_optional value h
    same_of (Barrier site) h = refl

    same_all : (list : Statements) → Each Agree (calls_of_all list) → some_holds i list ≡ some_holds j list
    same_all empty h = refl
    same_all (also s rest) h = let p =
        each_parts Agree (calls_of s) (calls_of_all rest) h in ap₂ (λ a b. a || b) (same_of s p.0) (same_all rest p.1)

    same_arms : (arms : Arms) → Each Agree (calls_of_arms arms) → arms_hold i arms ≡ arms_hold j arms
    same_arms no_arm h = refl
    same_arms (arm labels other body rest) h = let p = each_parts Agree (calls_of_all body) (calls_of_arms rest) h in
        ap₂ (λ a b. a || b) (same_all body p.0) (same_arms rest p.1)

  -- so do outlines
  mutual
    outline_same : (s : Statement) (o : Outline) → Each Agree (calls_of s) → outline_then i s o ≡ outline_then j s o
    outline_same (Do e) o h = refl
    outline_same (Declare x value) o h = refl
    outline_same (Fill site array values) o h = refl
    outline_same (Block list) o h = ap (λ inner. BlockThen inner o) (outlines_same list NoPiece h)
    outline_same (If site test chosen other) o h =
        let p = each_parts Agree (calls_in test) (calls_of_all chosen ++ calls_of_all other) h in
        let q = each_parts Agree (calls_of_all chosen) (calls_of_all other) p.1 in
        let b = holds j (If site test chosen other) in
        ap (λ c. cut_then c (calls_then (calls_in test)
        (cut_then c (outlines_then i chosen (cut_then c (outlines_then i other (cut_then c o)))))))
        (same_of (If site test chosen other) h)
        ∙ (ap (λ r. cut_then b (calls_then (calls_in test) (cut_then b (outlines_then i chosen (cut_then b r)))))
        (outlines_same other (cut_then b o) q.1)
        ∙ ap (λ r. cut_then b (calls_then (calls_in test) (cut_then b r)))
        (outlines_same chosen (cut_then b (outlines_then j other (cut_then b o))) q.0))
    outline_same (Loop site true test step body) o h =
        let p = each_parts Agree (calls_in_optional test) (calls_in_optional step ++ calls_of body) h in
        let q = each_parts Agree (calls_in_optional step) (calls_of body) p.1 in
        let b = holds j (Loop site true test step body) in
        ap (λ c. cut_then c (calls_then (calls_in_optional test)
        (cut_then c (calls_then (calls_in_optional step) (cut_then c (outline_then i body (cut_then c o)))))))
        (same_of (Loop site true test step body) h)
        ∙
        ap (λ r. cut_then b (calls_then (calls_in_optional test)
        (cut_then b (calls_then (calls_in_optional step) (cut_then b r)))))
        (outline_same body (cut_then b o) q.1)
    outline_same (Loop site false test step body) o h =
        let p = each_parts Agree (calls_in_optional test) (calls_in_optional step ++ calls_of body) h in
        let q = each_parts Agree (calls_in_optional step) (calls_of body) p.1 in
        let b = holds j (Loop site false test step body) in
        ap (λ c. cut_then c (outline_then i body
        (cut_then c (calls_then (calls_in_optional step)
        (cut_then c (calls_then (calls_in_optional test) (cut_then c o)))))))
        (same_of (Loop site false test step body) h)
        ∙ ap (cut_then b) (outline_same body
        (cut_then b (calls_then (calls_in_optional step)
        (cut_then b (calls_then (calls_in_optional test) (cut_then b o))))) q.1)
    outline_same (Switch site value arms) o h =
        let p = each_parts Agree (calls_in value) (calls_of_arms arms) h in
        let b = holds j (Switch site value arms) in
        ap (λ c. cut_then c (calls_then (calls_in value) (cut_then c (outlines_of_arms i arms (cut_then c o)))))
        (same_of (Switch site value arms) h)
        ∙ ap (λ r. cut_then b (calls_then (calls_in value) (cut_then b r))) (arms_same arms (cut_then b o) p.1)
    outline_same (Break site) o h = refl
    outline_same (Continue site) o h = refl
    outline_same (Return site value) o h = refl
    outline_same (Barrier site) o h = refl

    outlines_same : (list : Statements) (o : Outline) → Each Agree (calls_of_all list) →
        outlines_then i list o ≡ outlines_then j list o
    outlines_same empty o h = refl
    outlines_same (also s list) o h =
        let p = each_parts Agree (calls_of s) (calls_of_all list) h in
        ap (outline_then i s) (outlines_same list o p.1) ∙ outline_same s (outlines_then j list o) p.0

    arms_same : (arms : Arms) (o : Outline) → Each Agree (calls_of_arms arms) →
        outlines_of_arms i arms o ≡ outlines_of_arms j arms o
    arms_same no_arm o h = refl
    arms_same (arm labels other body arms) o h =
        let p = each_parts Agree (calls_of_all body) (calls_of_arms arms) h in
        ap (outlines_then i body) (arms_same arms o p.1) ∙ outlines_same body (outlines_of_arms j arms o) p.0

-- ---- deeper than calls go nothing changes

deeper_end : (program : Program) (d f : ℕ) → CallsEnd program d f → CallsEnd program (suc d) f
deeper_end program zero f e = absurd e
deeper_end program (suc d) f e =
    each_map (λ c. CallsEnd program d c.function) (λ c. CallsEnd program (suc d) c.function)
    (calls_of_all (function_at program f).body) (λ c h. deeper_end program d c.function h) e

deeper_holds : (program : Program) (d f : ℕ) → CallsEnd program d f →
    body_holds program d f ≡ body_holds program (suc d) f
deeper_holds program zero f e = absurd e
deeper_holds program (suc d) f e =
    same_all (body_holds program d) (body_holds program (suc d)) (function_at program f).body
    (each_map (λ c. CallsEnd program d c.function) (λ c. body_holds program d c.function ≡
    body_holds program (suc d) c.function) (calls_of_all (function_at program f).body)
    (λ c h. deeper_holds program d c.function h) e)

ended : (program : Program) (d f k : ℕ) → CallsEnd program d f → CallsEnd program (k + d) f ×
    (body_holds program d f ≡ body_holds program (k + d) f)
ended program d f zero e = let q : d ≡ 0 + d =
    omega arith in (subst (λ n. CallsEnd program n f) q e, ap (λ n. body_holds program n f) q)
ended program d f (suc k) e =
    let r = ended program d f k e in
    let q : suc (k + d) ≡ suc k + d = omega arith in (
      subst (λ n. CallsEnd program n f) q (deeper_end program (k + d) f r.0),
      r.1 ∙
          (deeper_holds program (k + d) f r.0 ∙ ap (λ n. body_holds program n f) q),
    )

pub holds_at : (program : Program) (d n f : ℕ) → CallsEnd program d f → d ≤ n →
    body_holds program d f ≡ body_holds program n f
holds_at program d n f e le = let k = gap d n le in (ended program d f k.0 e).1 ∙ ap (λ m. body_holds program m f) k.1
  where
    gap : (d n : ℕ) → d ≤ n → (k : ℕ) × (k + d ≡ n)
    gap zero n le = (n, omega arith)
    gap (suc d) zero le = absurd (omega arith)
    gap (suc d) (suc n) le = let r = gap d n (omega arith) in (r.0, omega (arith, r.1))

-- ---- what the plan finds

entry_bodies : (inside : ℕ → Test) (fs : List Function) (n : ℕ) →
    entry (map (λ (f : Function). some_holds inside f.body) fs) n ≡
    some_holds inside (unwrap_or (slice_get fs n) no_function).body
entry_bodies inside [] n = refl
entry_bodies inside (f ∷ fs) zero = refl
entry_bodies inside (f ∷ fs) (suc n) = entry_bodies inside fs n

entry_false : (k n : ℕ) → entry (replicate k false) n ≡ false
entry_false zero n = refl
entry_false (suc k) zero = refl
entry_false (suc k) (suc n) = entry_false k n

found : (program : Program) (d f : ℕ) → entry (holding_after program.functions d) f ≡ body_holds program d f
found program zero f = entry_false (length program.functions) f
found program (suc d) f =
    entry_bodies (entry (holding_after program.functions d)) program.functions f
    ∙ (let same : entry (holding_after program.functions d) ≡
    body_holds program d = (λ k. λ g. found program d g k) in
    ap (λ inside. some_holds inside (function_at program f).body) same)

-- what the plan says of a function is what the inlined text has
pub holding_found : (program : Program) (f : ℕ) →
    entry (holding_of program.functions) f ≡ body_holds program (length program.functions) f
holding_found program f = found program (length program.functions) f

-- the outline of a function whose calls end, with what the plan says of the functions that it calls
pub outline_found : (program : Program) (d f : ℕ) → CallsEnd program (suc d) f → d ≤ length program.functions →
    function_outline (body_holds program d) (function_at program f) ≡
    function_outline (entry (holding_of program.functions)) (function_at program f)
outline_found program d f e le =
    ap (parameters_then 0 (function_at program f).parameters)
    (outlines_same (body_holds program d) (entry (holding_of program.functions)) (function_at program f).body NoPiece
    (each_map (λ c. CallsEnd program d c.function) (λ c. body_holds program d c.function ≡
    entry (holding_of program.functions) c.function) (calls_of_all (function_at program f).body)
    (λ c h. holds_at program d (length program.functions) c.function h le ∙ sym (holding_found program c.function)) e))

-- and its text
pub function_found : (program : Program) (d : ℕ) (calls : List ℕ) (f : ℕ) → CallsEnd program (suc d) f →
    d ≤ length program.functions
    → function_text program (suc d) calls f ≡ text_of (inlining program d calls f)
    (function_outline (entry (holding_of program.functions)) (function_at program f))
function_found program d calls f e le =
    function_outlined program d calls f ∙ ap (text_of (inlining program d calls f)) (outline_found program d f e le)
