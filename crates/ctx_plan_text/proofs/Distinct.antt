-- In a valid program no variable is declared twice in the inlined text.
use Rattle.std.proofs.Common.{◌≡◌, ℕ, zero, suc, ◌<◌, ◌≤◌, List, [], ◌∷◌, ◌++◌, Option, Some, None, length, refl, sym}
use Rattle.std.proofs.Common.{ap, ◌∙◌, subst, arith, ◌⊎◌, inl, inr, ⊎_elim, unwrap_or, append_assoc, append-nil}
use Rattle.std.proofs.Common.{length-append}
use Rattle.std.specs.Prelude.{Bool as Test, true}
use Rattle.std.specs.Prelude.{slice_get, nat_lt}
use Rattle.std.specs.List.{flat_map}
use Rattle.std.proofs.lemmas.Bool.Decides.{nat_tests}
use Rattle.cl_model.specs.Tree.{Function, Program}
use Rattle.cl_model.specs.Calls.{no_function, function_at}
use Rattle.cl_model.specs.Lists.{IsOneOf, AllDiffer}
use Rattle.cl_model.specs.Valid.{sites_of_all, IsValid}
use Rattle.kir.specs.Tree.{Variable}
use Rattle.kir.specs.Inlined.{body_holds, Text, variable_of, function_text, variables_in, variables_of}
use Rattle.ctx_plan.specs.Outline.{Outline, NoPiece, DeclaresThen, CutThen, CallsThen, BlockThen, function_outline}
use Rattle.ctx_plan_correct.specs.Crossing.{DeclaredIn}
use Rattle.ctx_plan_correct.specs.Placing.{CalledIn, IsOnceIn}
use Rattle.ctx_plan_correct.proofs.Outlined.{text_of, inlining, function_outlined}
use Rattle.ctx_plan_correct.proofs.Crosses.{left_one, right_one, either_one}
use Rattle.ctx_plan_correct.proofs.Once.{occurs, occurs_append, differ_once, function_once}

-- ---- lists

pub append_differ : {A : Type 0} (xs ys : List A) → AllDiffer xs → AllDiffer ys →
    ((a : A) → IsOneOf xs a → IsOneOf ys a → ⊥) → AllDiffer (xs ++ ys)
append_differ [] ys d e n = e
append_differ (x ∷ xs) ys d e n = (
  (λ h. ⊎_elim (λ k. d.0 k) (λ k. n x (inl refl) k) (either_one xs ys x h)),
  append_differ xs ys d.1 e (λ v h k. n v (inr h) k),
)

longer : (xs : List ℕ) (n : ℕ) (ys : List ℕ) → xs ++ n ∷ ys ≡ xs → ⊥
longer xs n ys e = let a = ap length e in let b =
    length-append xs (n ∷ ys) in let c : length (n ∷ ys) ≡ suc (length ys) = refl in omega (arith, a, b, c)

next_same : (xs : List ℕ) (m n : ℕ) (ys zs : List ℕ) → xs ++ m ∷ ys ≡ xs ++ n ∷ zs → m ≡ n
next_same [] m n ys zs e = cc
next_same (x ∷ xs) m n ys zs e = next_same xs m n ys zs (let q : xs ++ m ∷ ys ≡ xs ++ n ∷ zs = cc in q)

-- ---- where a variable of a function's text stands

-- the calls that lead to it begin with these
abbrev IsBehind : List ℕ → Variable → Type 0
IsBehind calls v = (rest : List ℕ) × (v.calls ≡ calls ++ rest)

-- they begin with these and a site
abbrev IsBeyond : List ℕ → ℕ → Variable → Type 0
IsBeyond calls site v = (rest : List ℕ) × (v.calls ≡ calls ++ site ∷ rest)

beyond : (calls : List ℕ) (site : ℕ) (v : Variable) → IsBehind (calls ++ site ∷ []) v → IsBeyond calls site v
beyond calls site v h = (h.0, h.1 ∙ append_assoc calls (site ∷ []) h.0)

module _ (program : Program) where
  -- a variable of the text of an outline is one of its own, or stands in the text of a call
  own_or_called : (d : ℕ) (calls : List ℕ) (f : ℕ) (o : Outline) →
      ((path : List ℕ) (g : ℕ) (v : Variable) → IsOneOf (variables_in (function_text program d path g)) v →
      IsBehind path v) → (v : Variable) → IsOneOf (variables_in (text_of (inlining program d calls f) o)) v
      → ((x : ℕ) × DeclaredIn o x × (variable_of (inlining program d calls f) x ≡ v)) ⊎
      ((site : ℕ) × CalledIn o site × IsBeyond calls site v)
  own_or_called d calls f NoPiece r v h = absurd h
  own_or_called d calls f (DeclaresThen y rest) r v h =
      ⊎_elim (λ e. inl (y, inl refl, e)) (λ k. ⊎_elim (λ s. inl (s.0, inr s.1, s.2)) (λ s. inr s)
      (own_or_called d calls f rest r v k)) h
  own_or_called d calls f (CutThen rest) r v h = own_or_called d calls f rest r v h
  own_or_called d calls f (CallsThen site g rest) r v h =
      ⊎_elim (λ k. inr (site, inl refl, beyond calls site v (r (calls ++ site ∷ []) g v k)))
      (λ k. ⊎_elim (λ s. inl s) (λ s. inr (s.0, inr s.1, s.2)) (own_or_called d calls f rest r v k))
      (either_one (variables_in (function_text program d (calls ++ site ∷ []) g))
      (variables_in (text_of (inlining program d calls f) rest)) v h)
  own_or_called d calls f (BlockThen inner rest) r v h =
      ⊎_elim (λ k. ⊎_elim (λ s. inl (s.0, inl s.1, s.2)) (λ s. inr (s.0, inl s.1, s.2))
      (own_or_called d calls f inner r v k))
      (λ k. ⊎_elim (λ s. inl (s.0, inr s.1, s.2)) (λ s. inr (s.0, inr s.1, s.2)) (own_or_called d calls f rest r v k))
      (either_one (variables_in (text_of (inlining program d calls f) inner))
      (variables_in (text_of (inlining program d calls f) rest)) v h)

  behind : (d : ℕ) (calls : List ℕ) (f : ℕ) (v : Variable) →
      IsOneOf (variables_in (function_text program d calls f)) v → IsBehind calls v
  behind zero calls f v h = absurd h
  behind (suc d) calls f v h =
      ⊎_elim (λ s. ([], sym (ap (λ (w : Variable). w.calls) s.2) ∙ sym (append-nil calls))) (λ s. (s.0 ∷ s.2.0, s.2.1))
      (own_or_called d calls f (function_outline (body_holds program d) (function_at program f)) (behind d) v
      (subst (λ (t : Text). IsOneOf (variables_in t) v) (function_outlined program d calls f) h))

  -- one variable declared, or called, in both of two outlines
  both_in : (d : ℕ) (calls : List ℕ) (f : ℕ) (o p : Outline) → ((x : ℕ) → DeclaredIn o x → DeclaredIn p x → ⊥) →
      ((n : ℕ) → CalledIn o n → CalledIn p n → ⊥) → (v : Variable)
      → IsOneOf (variables_in (text_of (inlining program d calls f) o)) v →
      IsOneOf (variables_in (text_of (inlining program d calls f) p)) v → ⊥
  both_in d calls f o p once apart v h k =
      let a = own_or_called d calls f o (behind d) v h in
      let b = own_or_called d calls f p (behind d) v k in
      ⊎_elim (λ s. ⊎_elim (λ t. once s.0 s.1 (subst (λ x. DeclaredIn p x) (ap (λ (w : Variable). w.number) (t.2 ∙
      sym s.2)) t.1)) (λ t. longer calls t.0 t.2.0 (sym t.2.1 ∙ sym (ap (λ (w : Variable). w.calls) s.2))) b)
      (λ s. ⊎_elim (λ t. longer calls s.0 s.2.0 (sym s.2.1 ∙ sym (ap (λ (w : Variable). w.calls) t.2)))
      (λ t. apart s.0 s.1 (subst (λ n. CalledIn p n) (next_same calls t.0 s.0 t.2.0 s.2.0 (sym t.2.1 ∙ s.2.1))
      t.1)) b) a

  -- the numbers of variables that are there
  abbrev within : ℕ → ℕ → Test
  within f x = nat_lt x (length (function_at program f).variables)

  -- the variable is there
  abbrev IsThere : Variable → Type 0
  IsThere v = v.number < length (function_at program v.function).variables

  -- variables of an outline differ where each that is there is declared once, and each site has one call
  outline_differ : (d : ℕ) (calls : List ℕ) (f : ℕ) (o : Outline)
      → ((path : List ℕ) (g : ℕ) → ((v : Variable) → IsOneOf (variables_in (function_text program d path g)) v →
      IsThere v) → AllDiffer (variables_in (function_text program d path g)))
      → ((v : Variable) → IsOneOf (variables_in (text_of (inlining program d calls f) o)) v → IsThere v) →
      IsOnceIn (within f) o → AllDiffer (variables_in (text_of (inlining program d calls f) o))
  outline_differ d calls f NoPiece r there once = tt
  outline_differ d calls f (DeclaresThen y rest) r there once =
      let here = inlining program d calls f in (
        (λ h. ⊎_elim (λ s. once.0 (let q = there (variable_of here y) (inl refl) in
            let t : nat_lt y (length (function_at program f).variables) ≡ true = grind (arith, nat_tests, q) in
            t) (subst (λ x. DeclaredIn rest x) (ap (λ (w : Variable). w.number) s.2) s.1))
            (λ s. longer calls s.0 s.2.0 (sym s.2.1)) (own_or_called d calls f rest (behind d) (variable_of here y) h)),
        outline_differ d calls f rest r (λ v h. there v (inr h)) once.1,
      )
  outline_differ d calls f (CutThen rest) r there once = outline_differ d calls f rest r there once
  outline_differ d calls f (CallsThen site g rest) r there once =
      let here = inlining program d calls f in
      let called = variables_in (function_text program d (calls ++ site ∷ []) g) in
      let others = variables_in (text_of here rest) in
      append_differ called others (r (calls ++ site ∷ []) g (λ v h. there v (left_one called others v h)))
      (outline_differ d calls f rest r (λ v h. there v (right_one called others v h)) once.1)
      (λ v h k. let b = beyond calls site v (behind d (calls ++ site ∷ []) g v h) in
      ⊎_elim (λ s. longer calls site b.0 (sym b.1 ∙ sym (ap (λ (w : Variable). w.calls) s.2)))
      (λ s. once.0 (subst (λ n. CalledIn rest n) (next_same calls s.0 site s.2.0 b.0 (sym s.2.1 ∙ b.1)) s.1))
      (own_or_called d calls f rest (behind d) v k))
  outline_differ d calls f (BlockThen inner rest) r there once =
      let here = inlining program d calls f in
      let first = variables_in (text_of here inner) in
      let others = variables_in (text_of here rest) in
      append_differ first others (outline_differ d calls f inner r (λ v h. there v (left_one first others v h))
      once.2) (outline_differ d calls f rest r (λ v h. there v (right_one first others v h)) once.3)
      (λ v h k. block_apart d calls f inner rest once v (there v (left_one first others v h)) h k)
    where
      block_apart : (d : ℕ) (calls : List ℕ) (f : ℕ) (inner rest : Outline) →
          IsOnceIn (within f) (BlockThen inner rest) → (v : Variable) → IsThere v →
          IsOneOf (variables_in (text_of (inlining program d calls f) inner)) v →
          IsOneOf (variables_in (text_of (inlining program d calls f) rest)) v → ⊥
      block_apart d calls f inner rest once v is h k =
          let a = own_or_called d calls f inner (behind d) v h in
          let b = own_or_called d calls f rest (behind d) v k in
          ⊎_elim (λ s. ⊎_elim (λ t. once.0 s.0
          (let e = ap (λ (w : Variable). nat_lt w.number (length (function_at program w.function).variables))
          s.2 in let q : nat_lt v.number (length (function_at program v.function).variables) ≡
          true = grind (arith, nat_tests, is) in
          e ∙ q) s.1 (subst (λ x. DeclaredIn rest x) (ap (λ (w : Variable). w.number) (t.2 ∙ sym s.2)) t.1))
          (λ t. longer calls t.0 t.2.0 (sym t.2.1 ∙ sym (ap (λ (w : Variable). w.calls) s.2))) b)
          (λ s. ⊎_elim (λ t. longer calls s.0 s.2.0 (sym s.2.1 ∙ sym (ap (λ (w : Variable). w.calls) t.2)))
          (λ t. once.1 s.0 s.1 (subst (λ n. CalledIn rest n) (next_same calls t.0 s.0 t.2.0 s.2.0 (sym t.2.1 ∙
          s.2.1)) t.1)) b) a

  -- ---- a valid program

  sites_once : (fs : List Function) → AllDiffer (flat_map (λ (g : Function). sites_of_all g.body) fs) →
      (f : ℕ) (g : Function) → slice_get fs f ≡ Some g → (n : ℕ) → occurs n (sites_of_all g.body) ≤ 1
  sites_once fs differ f g e n = let d = differ_once n (flat_map (λ (h : Function). sites_of_all h.body) fs) differ in
      let a = among fs f g e in omega (arith, d, a)
    where
      among : (fs : List Function) (f : ℕ) (g : Function) → slice_get fs f ≡ Some g →
          occurs n (sites_of_all g.body) ≤ occurs n (flat_map (λ (h : Function). sites_of_all h.body) fs)
      among [] f g e = absurd (cc)
      among (h ∷ fs) zero g e = let same : h ≡ g = cc in let a =
          occurs_append n (sites_of_all h.body) (flat_map (λ (k : Function). sites_of_all k.body) fs) in let q =
          ap (λ (k : Function). occurs n (sites_of_all k.body)) same in omega (arith, a, q)
      among (h ∷ fs) (suc f) g e = let a =
          occurs_append n (sites_of_all h.body) (flat_map (λ (k : Function). sites_of_all k.body) fs) in let r =
          among fs f g e in omega (arith, a, r)

  module _ (valid : IsValid program) where
    function_differ : (d : ℕ) (calls : List ℕ) (f : ℕ) →
        ((v : Variable) → IsOneOf (variables_in (function_text program d calls f)) v → IsThere v) →
        AllDiffer (variables_in (function_text program d calls f))
    function_differ zero calls f there = tt
    function_differ (suc d) calls f there =
        by (λ path g k. function_differ d path g k) (slice_get program.functions f) refl
      where
        text : function_text program (suc d) calls f ≡ text_of (inlining program d calls f)
            (function_outline (body_holds program d) (function_at program f))
        text = function_outlined program d calls f

        by : ((path : List ℕ) (g : ℕ) → ((v : Variable) → IsOneOf (variables_in (function_text program d path g)) v →
            IsThere v) → AllDiffer (variables_in (function_text program d path g))) → (o : Option Function) →
            slice_get program.functions f ≡ o → AllDiffer (variables_in (function_text program (suc d) calls f))
        by r None e = subst (λ (t : Text). AllDiffer (variables_in t)) (sym (text ∙
            ap (λ (o : Option Function). text_of (inlining program d calls f)
            (function_outline (body_holds program d) (unwrap_or o no_function))) e)) tt
        by r (Some g) e =
            let at : function_at program f ≡ g = ap (λ (o : Option Function). unwrap_or o no_function) e in
            let range : (x : ℕ) → within f x ≡ true → x < length g.variables =
            λ x m. let q : x < length (function_at program f).variables = grind (arith, nat_tests, m) in
            subst (λ (h : Function). x < length h.variables) at q in
            let once : IsOnceIn (within f) (function_outline (body_holds program d) g) =
            function_once program (body_holds program d) (within f) g (valid.functions f g e) range
            (sites_once program.functions valid.sites f g e) in
            subst (λ (t : Text). AllDiffer (variables_in t)) (sym text)
            (outline_differ d calls f (function_outline (body_holds program d) (function_at program f)) r
            (λ v h. there v (subst (λ (t : Text). IsOneOf (variables_in t) v) (sym text) h))
            (subst (λ (h : Function). IsOnceIn (within f) (function_outline (body_holds program d) h)) (sym at) once))

    -- the variables of the inlined text differ, where each is there
    pub variables_differ : ((v : Variable) → IsOneOf (variables_of program) v → IsThere v) →
        AllDiffer (variables_of program)
    variables_differ there = function_differ (length program.functions) [] program.kernel there
