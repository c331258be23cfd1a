-- The variables that the plan marks are those that cross.
use Rattle.std.proofs.Common.{◌≡◌, ℕ, zero, suc, ◌<◌, List, [], ◌∷◌, ◌++◌, length, refl, sym, ap, ◌∙◌, subst, arith}
use Rattle.std.proofs.Common.{replicate, ◌⊎◌, inl, inr, ⊎_elim}
use Rattle.std.specs.Prelude.{Bool as Test, true, false}
use Rattle.std.specs.Prelude.{slice_set, if◌then◌else◌}
use Rattle.std.proofs.lemmas.Bool.{true≢false}
use Rattle.cl_model.specs.Tree.{Statement, Do, Declare, Fill, Block, If, Loop, Switch, Break, Continue, Return}
use Rattle.cl_model.specs.Tree.{Barrier, Statements, empty, also, Arms, no_arm, arm, Function}
use Rattle.cl_model.specs.Calls.{CallSite, calls_in, calls_among, calls_in_optional, calls_of, calls_of_all}
use Rattle.cl_model.specs.Calls.{calls_of_arms}
use Rattle.cl_model.specs.Lists.{Each}
use Rattle.kir.specs.Inlined.{holds}
use Rattle.ctx_plan.specs.Outline.{Outline, NoPiece, DeclaresThen, CutThen, CallsThen, BlockThen, cut_then}
use Rattle.ctx_plan.specs.Outline.{calls_then, outline_then, outlines_then, outlines_of_arms, parameters_then}
use Rattle.ctx_plan.specs.Outline.{function_outline}
use Rattle.ctx_plan.specs.Points.{entry}
use Rattle.ctx_plan.specs.Sharing.{has_cut, mark_crossing, crossing_of}
use Rattle.ctx_plan_correct.specs.Crossing.{CrossesIn, EachCall}
use Rattle.ctx_plan_correct.proofs.Holding.{each_parts}

-- ---- lists of marks

set_length : (l : List Test) (y : ℕ) → length (slice_set l y true) ≡ length l
set_length [] y = refl
set_length (b ∷ l) zero = refl
set_length (b ∷ l) (suc y) = ap suc (set_length l y)

set_here : (l : List Test) (y : ℕ) → y < length l → entry (slice_set l y true) y ≡ true
set_here [] y lt = absurd (omega arith)
set_here (b ∷ l) zero lt = refl
set_here (b ∷ l) (suc y) lt = set_here l y (omega arith)

set_keeps : (l : List Test) (y x : ℕ) → entry l x ≡ true → entry (slice_set l y true) x ≡ true
set_keeps [] y x e = e
set_keeps (b ∷ l) zero zero e = refl
set_keeps (b ∷ l) zero (suc x) e = e
set_keeps (b ∷ l) (suc y) zero e = e
set_keeps (b ∷ l) (suc y) (suc x) e = set_keeps l y x e

set_only : (l : List Test) (y x : ℕ) → entry (slice_set l y true) x ≡ true → (y ≡ x) ⊎ (entry l x ≡ true)
set_only [] y x e = inr e
set_only (b ∷ l) zero zero e = inl refl
set_only (b ∷ l) zero (suc x) e = inr e
set_only (b ∷ l) (suc y) zero e = inr e
set_only (b ∷ l) (suc y) (suc x) e = ⊎_elim (λ q. inl (ap suc q)) (λ q. inr q) (set_only l y x e)

entry_none : (k n : ℕ) → entry (replicate k false) n ≡ true → ⊥
entry_none zero n e = true≢false (sym e)
entry_none (suc k) zero e = true≢false (sym e)
entry_none (suc k) (suc n) e = entry_none k n e

replicate_length : (k : ℕ) → length (replicate k false) ≡ k
replicate_length zero = refl
replicate_length (suc k) = ap suc (replicate_length k)

-- ---- what the plan marks, of an outline

if_length : (b : Test) (l : List Test) (x : ℕ) → length (if b then slice_set l x true else l) ≡ length l
if_length true l x = set_length l x
if_length false l x = refl

module _ (inside : ℕ → Test) where
  mark_length : (o : Outline) (l : List Test) → length (mark_crossing inside o l) ≡ length l
  mark_length NoPiece l = refl
  mark_length (DeclaresThen x rest) l =
      if_length (has_cut inside rest) (mark_crossing inside rest l) x ∙ mark_length rest l
  mark_length (CutThen rest) l = mark_length rest l
  mark_length (CallsThen site g rest) l = mark_length rest l
  mark_length (BlockThen inner rest) l = mark_length inner (mark_crossing inside rest l) ∙ mark_length rest l

  if_set : (b : Test) (l : List Test) (x z : ℕ) → entry l z ≡ true →
      entry (if b then slice_set l x true else l) z ≡ true
  if_set true l x z e = set_keeps l x z e
  if_set false l x z e = e

  mark_keeps : (o : Outline) (l : List Test) (x : ℕ) → entry l x ≡ true → entry (mark_crossing inside o l) x ≡ true
  mark_keeps NoPiece l x e = e
  mark_keeps (DeclaresThen y rest) l x e =
      if_set (has_cut inside rest) (mark_crossing inside rest l) y x (mark_keeps rest l x e)
  mark_keeps (CutThen rest) l x e = mark_keeps rest l x e
  mark_keeps (CallsThen site g rest) l x e = mark_keeps rest l x e
  mark_keeps (BlockThen inner rest) l x e = mark_keeps inner (mark_crossing inside rest l) x (mark_keeps rest l x e)

  here_set : (b : Test) (l : List Test) (y x : ℕ) → b ≡ true → y ≡ x → x < length l →
      entry (if b then slice_set l y true else l) x ≡ true
  here_set true l y x e same lt =
      subst (λ n. entry (slice_set l y true) n ≡ true) same (set_here l y (let q = same in omega (arith, lt, q)))
  here_set false l y x e same lt = absurd (true≢false (sym e))

  -- a variable that crosses is marked
  marked : (o : Outline) (l : List Test) (x : ℕ) → x < length l → CrossesIn inside o x →
      entry (mark_crossing inside o l) x ≡ true
  marked NoPiece l x lt c = absurd c
  marked (DeclaresThen y rest) l x lt c =
      ⊎_elim (λ h. here_set (has_cut inside rest) (mark_crossing inside rest l) y x h.1 h.0
      (let q = mark_length rest l in omega (arith, lt, q)))
      (λ h. if_set (has_cut inside rest) (mark_crossing inside rest l) y x (marked rest l x lt h)) c
  marked (CutThen rest) l x lt c = marked rest l x lt c
  marked (CallsThen site g rest) l x lt c = marked rest l x lt c
  marked (BlockThen inner rest) l x lt c =
      ⊎_elim (λ h. marked inner (mark_crossing inside rest l) x (let q = mark_length rest l in omega (arith, lt, q)) h)
      (λ h. mark_keeps inner (mark_crossing inside rest l) x (marked rest l x lt h)) c

  if_only : (b : Test) (l : List Test) (y x : ℕ) → entry (if b then slice_set l y true else l) x ≡ true →
      ((y ≡ x) × (b ≡ true)) ⊎ (entry l x ≡ true)
  if_only true l y x e = ⊎_elim (λ q. inl (q, refl)) (λ q. inr q) (set_only l y x e)
  if_only false l y x e = inr e

  -- and no other, but for those that were
  marks_only : (o : Outline) (l : List Test) (x : ℕ) → entry (mark_crossing inside o l) x ≡ true →
      CrossesIn inside o x ⊎ (entry l x ≡ true)
  marks_only NoPiece l x e = inr e
  marks_only (DeclaresThen y rest) l x e =
      ⊎_elim (λ h. inl (inl h)) (λ h. ⊎_elim (λ c. inl (inr c)) (λ k. inr k) (marks_only rest l x h))
      (if_only (has_cut inside rest) (mark_crossing inside rest l) y x e)
  marks_only (CutThen rest) l x e = marks_only rest l x e
  marks_only (CallsThen site g rest) l x e = marks_only rest l x e
  marks_only (BlockThen inner rest) l x e =
      ⊎_elim (λ c. inl (inl c)) (λ h. ⊎_elim (λ c. inl (inr c)) (λ k. inr k) (marks_only rest l x h))
      (marks_only inner (mark_crossing inside rest l) x e)

pub crossing_length : (inside : List Test) (f : Function) → length (crossing_of inside f) ≡ length f.variables
crossing_length inside f = mark_length (entry inside) (function_outline (entry inside) f)
    (replicate (length f.variables) false) ∙ replicate_length (length f.variables)

-- of a function: exactly the variables of its own that cross
pub entry_crosses : (inside : List Test) (f : Function) (x : ℕ) → entry (crossing_of inside f) x ≡ true →
    CrossesIn (entry inside) (function_outline (entry inside) f) x
entry_crosses inside f x e = ⊎_elim (λ c. c) (λ k. absurd (entry_none (length f.variables) x k))
    (marks_only (entry inside) (function_outline (entry inside) f) (replicate (length f.variables) false) x e)

pub crosses_entry : (inside : List Test) (f : Function) (x : ℕ) → x < length f.variables →
    CrossesIn (entry inside) (function_outline (entry inside) f) x → entry (crossing_of inside f) x ≡ true
crosses_entry inside f x lt c =
    marked (entry inside) (function_outline (entry inside) f) (replicate (length f.variables) false) x
    (let q = replicate_length (length f.variables) in omega (arith, lt, q)) c

-- ---- the calls of an outline are those of the function

module _ (P : ℕ → ℕ → Type 0) where
  abbrev Of : CallSite → Type 0
  Of c = P c.site c.function

  calls_each : (calls : List CallSite) (o : Outline) → Each Of calls → EachCall P o → EachCall P (calls_then calls o)
  calls_each [] o h k = k
  calls_each (c ∷ calls) o h k = (h.0, calls_each calls o h.1 k)

  cut_each : (b : Test) (o : Outline) → EachCall P o → EachCall P (cut_then b o)
  cut_each true o k = k
  cut_each false o k = k

  mutual
    of_each : (inside : ℕ → Test) (s : Statement) (o : Outline) → Each Of (calls_of s) → EachCall P o →
        EachCall P (outline_then inside s o)
    of_each inside (Do e) o h k = calls_each (calls_in e) o h k
    of_each inside (Declare x value) o h k = calls_each (calls_in_optional value) (DeclaresThen x o) h k
    of_each inside (Fill site array values) o h k = calls_each (calls_among values) o h k
    of_each inside (Block list) o h k = (all_each inside list NoPiece h tt, k)
    of_each inside (If site test chosen other) o h k =
        let p = each_parts Of (calls_in test) (calls_of_all chosen ++ calls_of_all other) h in
        let q = each_parts Of (calls_of_all chosen) (calls_of_all other) p.1 in
        let b = holds inside (If site test chosen other) in
        cut_each b _ (calls_each (calls_in test) _ p.0
        (cut_each b _ (all_each inside chosen _ q.0
        (cut_each b _ (all_each inside other _ q.1 (cut_each b o k))))))
    of_each inside (Loop site true test step body) o h k =
        let p = each_parts Of (calls_in_optional test) (calls_in_optional step ++ calls_of body) h in
        let q = each_parts Of (calls_in_optional step) (calls_of body) p.1 in
        let b = holds inside (Loop site true test step body) in
        cut_each b _ (calls_each (calls_in_optional test) _ p.0
        (cut_each b _ (calls_each (calls_in_optional step) _ q.0
        (cut_each b _ (of_each inside body _ q.1 (cut_each b o k))))))
    of_each inside (Loop site false test step body) o h k =
        let p = each_parts Of (calls_in_optional test) (calls_in_optional step ++ calls_of body) h in
        let q = each_parts Of (calls_in_optional step) (calls_of body) p.1 in
        let b = holds inside (Loop site false test step body) in
        cut_each b _ (of_each inside body _ q.1
        (cut_each b _ (calls_each (calls_in_optional step) _ q.0
        (cut_each b _ (calls_each (calls_in_optional test) _ p.0 (cut_each b o k))))))
    of_each inside (Switch site value arms) o h k =
        let p = each_parts Of (calls_in value) (calls_of_arms arms) h in
        let b = holds inside (Switch site value arms) in
        cut_each b _ (calls_each (calls_in value) _ p.0 (cut_each b _ (arms_each inside arms _ p.1 (cut_each b o k))))
    of_each inside (Break site) o h k = k
    of_each inside (Continue site) o h k = k
    of_each inside (Return site value) o h k = calls_each (calls_in_optional value) o h k
    of_each inside (Barrier site) o h k = k

    all_each : (inside : ℕ → Test) (list : Statements) (o : Outline) → Each Of (calls_of_all list) → EachCall P o →
        EachCall P (outlines_then inside list o)
    all_each inside empty o h k = k
    all_each inside (also s list) o h k = let p = each_parts Of (calls_of s) (calls_of_all list) h in
        of_each inside s (outlines_then inside list o) p.0 (all_each inside list o p.1 k)

    arms_each : (inside : ℕ → Test) (arms : Arms) (o : Outline) → Each Of (calls_of_arms arms) → EachCall P o →
        EachCall P (outlines_of_arms inside arms o)
    arms_each inside no_arm o h k = k
    arms_each inside (arm labels other body arms) o h k =
        let p = each_parts Of (calls_of_all body) (calls_of_arms arms) h in
        all_each inside body (outlines_of_arms inside arms o) p.0 (arms_each inside arms o p.1 k)

  parameters_each : (first n : ℕ) (o : Outline) → EachCall P o → EachCall P (parameters_then first n o)
  parameters_each first zero o k = k
  parameters_each first (suc n) o k = parameters_each (suc first) n o k

  pub function_each : (inside : ℕ → Test) (f : Function) → Each Of (calls_of_all f.body) →
      EachCall P (function_outline inside f)
  function_each inside f h =
      parameters_each 0 f.parameters (outlines_then inside f.body NoPiece) (all_each inside f.body NoPiece h tt)
