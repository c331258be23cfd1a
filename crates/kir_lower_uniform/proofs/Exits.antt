-- The cells of ways out: where no way out stands under a test that varies, what is pending is equal.
use Rattle.std.proofs.Common.{◌≡◌, ℕ, ◌+◌, ◌<◌, ◌≤◌, pos, length, Option, Some, None, refl, sym, ap, ◌∙◌, subst}
use Rattle.std.proofs.Common.{arith, inl, inr}
use Rattle.std.proofs.Common.{Bool as Test, false}
use Rattle.std.specs.Prelude.{nat_eq, ◌||◌}
use Rattle.std.proofs.lemmas.Option.{none-some}
use Rattle.wg_num.specs.declared.types.IntType.{IntType}
use Rattle.wg_num.specs.declared.types.IntType.TheVariants.{Int}
use Rattle.wg_num.specs.declared.types.Bin.TheVariants.{Eq}
use Rattle.wg_num.specs.Operators.{binary_of}
use Rattle.cl_model.specs.Tree.{Program}
use Rattle.cl_model.specs.Calls.{function_at}
use Rattle.kir.specs.declared.line.Atom.TheVariants.{Cell as CellAtom}
use Rattle.kir.specs.Tree.{Binary, Copy, Lines, NoLine, IfThen, joined_to, OfFlag, Kernel}
use Rattle.kir.specs.Live.{live_in}
use Rattle.kir_lower.specs.Made.{Made, Instance, next_cell, int}
use Rattle.kir_lower.specs.Actions.{set_to, opened, settled, outward}
use Rattle.kir_lower.specs.Code.{Calls}
use Rattle.kir_uniform.specs.Uniform.{sets_in}
use Rattle.kir_uniform.specs.Does.{Cells, Who, put, Does}
use Rattle.kir_uniform.proofs.Living.{true_or_false}
use Rattle.kir_uniform.proofs.Alike.{same_self, same_number, put_here, put_other, kept}
use Rattle.kir_lower_shape.proofs.Quiet.{Quiet, or_false, quiet_none, quiet_set, quiet_if}
use Rattle.kir_lower_shape.proofs.Absent.{next_more}
use Rattle.kir_lower_uniform.specs.Together.{Equal, Together}
use Rattle.kir_lower_uniform.proofs.Rules.{branch_kept, together_set, together_if}
use Rattle.kir_lower_uniform.proofs.Ground.{Even, Grown, value_not_even, flag_not_even}
use Rattle.kir_lower_uniform.proofs.Setting.{Setting}
use Rattle.kir_lower_uniform.proofs.Acts.{apart_below, set_then}
use Rattle.kir_lower_uniform.proofs.Guards.{AnswerEqual}

-- there is one
abbrev pub IsSome : Option ℕ → Type 0
IsSome way = (site : ℕ) × (way ≡ Some site)

module _ (program : Program) (kernel : Kernel) (one other : Who) (fn : ℕ) (calls : Calls) (here : Instance)
    (set : Setting program kernel one other fn calls here) where
  abbrev Size : ℕ
  Size = length (function_at program fn).variables

  abbrev E : ℕ → Type 0
  E = Even program kernel

  abbrev Go : (ℕ → Test) → Lines → (Cells → Cells → Type 0) → Cells → Cells → Type 0
  Go out lines Q p q = Together (Even program kernel) one other out lines Q p q

  abbrev Ans : Cells → Cells → Type 0
  Ans p q = AnswerEqual program kernel one other fn calls here set p q

  -- the cell that says which way out is pending, where there is one, and that of the result, stand behind the
  -- variables and before what is made
  pub record Pending (W : Type 0) (exit n : ℕ) : Type 0 where
    pub above : W → here.base + Size ≤ exit
    pub below : W → exit < n
    pub plain : W → E exit → ⊥
    pub no_result : W → (t : IntType) → (function_at program fn).result ≡ Some t → exit ≡ here.answer → ⊥
    pub result_below : (t : IntType) → (function_at program fn).result ≡ Some t → here.answer < n
    pub result_plain : (t : IntType) → (function_at program fn).result ≡ Some t → E here.answer → ⊥

  pub pending_more : (W : Type 0) (exit n k : ℕ) → n ≤ k → Pending W exit n → Pending W exit k
  pending_more W exit n k le h = record {
    above = h.above;
    below = λ w. let b = h.below w in omega (arith, b, le);
    plain = h.plain;
    no_result = h.no_result;
    result_below = λ t e. let b = h.result_below t e in omega (arith, b, le);
    result_plain = h.result_plain;
  }

  -- the cell of a construct
  pub pending_opened : (W : Type 0) (exit : ℕ) (way : Option ℕ) (m : Made) → here.base + Size ≤ next_cell m →
      Grown program kernel (opened way exit m).made → Pending W exit (next_cell m) →
      Pending (IsSome way) (opened way exit m).exit (next_cell (opened way exit m).made)
  pending_opened W exit None m low g h = record {
    above = λ k. absurd (none-some k.0 k.1);
    below = λ k. absurd (none-some k.0 k.1);
    plain = λ k. absurd (none-some k.0 k.1);
    no_result = λ k. absurd (none-some k.0 k.1);
    result_below = h.result_below;
    result_plain = h.result_plain;
  }
  pending_opened W exit (Some site) m low g h = record {
    above = λ k. low;
    below = λ k. let one_more = next_more m OfFlag Int in omega (arith, one_more);
    plain = λ k. flag_not_even program kernel m Int g;
    no_result = λ k t e s. let b = h.result_below t e in omega (arith, b, s);
    result_below = λ t e. let b = h.result_below t e in let one_more =
        next_more m OfFlag Int in omega (arith, b, one_more);
    result_plain = h.result_plain;
  }

  apart_even : (d c : ℕ) → (E d → ⊥) → E c → nat_eq d c ≡ false
  apart_even d c h e =
      elim (true_or_false (nat_eq d c)) [ inl t ↦ absurd (h (subst E (sym (same_number d c t)) e)) | inr t ↦ t ]

  pub free_even : (d c : ℕ) → (E d → ⊥) → E c → nat_eq c d ≡ false
  free_even d c h e =
      elim (true_or_false (nat_eq c d)) [ inl t ↦ absurd (h (subst E (same_number c d t) e)) | inr t ↦ t ]

  pub apart_is : (d c : ℕ) → (d ≡ c → ⊥) → nat_eq d c ≡ false
  apart_is d c h = elim (true_or_false (nat_eq d c)) [ inl t ↦ absurd (h (same_number d c t)) | inr t ↦ t ]

  -- what is pending around, and the result
  abbrev pub Outside : Type 0 → ℕ → Cells → Cells → Type 0
  Outside W exit p q = (W → p exit ≡ q exit) × Ans p q

  -- both keep them where lines set neither
  pub outside_kept : (W : Type 0) (exit : ℕ) (lines : Lines) (p q m n : Cells) → (W → sets_in exit lines ≡ false) →
      ((t : IntType) → (function_at program fn).result ≡ Some t → sets_in here.answer lines ≡ false) →
      Does one lines p m → Does other lines q n
      → Outside W exit p q → Outside W exit m n
  outside_kept W exit lines p q m n u v d e h = (
    λ w. kept one lines exit (u w) p m d ∙ (h.0 w ∙ sym (kept other lines exit (u w) q n e)),
    λ t s nv. kept one lines here.answer (v t s) p m d ∙
        (h.1 t s nv ∙ sym (kept other lines here.answer (v t s) q n e)),
  )

  -- the cell of a construct is set to 0
  pub opened_together : (way : Option ℕ) (exit : ℕ) (m : Made) (out : ℕ → Test) (p q : Cells) →
      Grown program kernel (opened way exit m).made → Equal E (λ c. live_in c (opened way exit m).lines (out c)) p q
      → Go out (opened way exit m).lines (λ a b. IsSome way → a (opened way exit m).exit ≡ b (opened way exit m).exit)
      p q
  opened_together None exit m out p q g al = (al, λ k. absurd (none-some k.0 k.1))
  opened_together (Some site) exit m out p q g al =
      let n = next_cell m in
      together_set E one other out n (Copy (int (pos 0))) (λ a b. IsSome (Some site) →
      a n ≡ b n) p q al (λ e l. refl) (λ k. put_here p n n (pos 0) (same_self n) ∙
      sym (put_here q n n (pos 0) (same_self n)))

  -- a pending `continue` ends
  pub settled_quiet : (c way exit : ℕ) (m : Made) (after : Lines) → nat_eq c exit ≡ false → Quiet c after false →
      Quiet c (joined_to (settled way exit m).lines after) false
  settled_quiet c way exit m after e h =
      quiet_set c _ _ _ false (or_false _ _ e refl) (λ e2. quiet_if c way _ _ NoLine after false e2 h
      (quiet_set c _ _ NoLine false refl (λ e3. quiet_none c false refl)) (quiet_none c false refl))

  pub settled_together : (S : Type 0) (way exit : ℕ) (m : Made) (out : ℕ → Test) (p q : Cells) →
      Grown program kernel (settled way exit m).made → (E exit → ⊥) → exit < next_cell m →
      Equal E (λ c. live_in c (settled way exit m).lines (out c)) p q → (S → p exit ≡ q exit)
      → Go out (settled way exit m).lines (λ a b. S → a exit ≡ b exit) p q
  settled_together S way exit m out p q g plain low al h =
      let n = next_cell m in
      let Q : Cells → Cells → Type 0 = λ a b. S → a exit ≡ b exit in
      let v = binary_of Eq Int (p exit) (pos 1) in
      let w = binary_of Eq Int (q exit) (pos 1) in
      let p1 = put p n v in
      let q1 = put q n w in
      let at1 : S → p1 exit ≡ q1 exit = λ s. put_other p n exit v (apart_below n exit low) ∙
      (h s ∙ sym (put_other q n exit w (apart_below n exit low))) in
      let same_test : S → p1 n ≡ q1 n = λ s. put_here p n n v (same_self n) ∙
      (ap (λ z. binary_of Eq Int z (pos 1)) (h s) ∙ sym (put_here q n n w (same_self n))) in
      set_then program kernel one other fn out n (Binary Eq Int (CellAtom exit) (int (pos 1)))
      (IfThen way (CellAtom n) (set_to exit (int (pos 0))) NoLine NoLine) Q p q
      (value_not_even program kernel m Int g) al
      (λ al1. together_if E one other out way (CellAtom n) (set_to exit (int (pos 0))) NoLine Q p1 q1 al1
      (λ x y al2. together_set E one other out exit (Copy (int (pos 0))) Q p1 q1 al2 (λ e l. absurd (plain e))
      (λ s. put_here p1 exit exit (pos 0) (same_self exit) ∙
      sym (put_here q1 exit exit (pos 0) (same_self exit))))
      (λ x y al2. (al2, at1))
      (λ df c e o. or_false (nat_eq exit c || false) false (or_false (nat_eq exit c) false (apart_even exit c plain e)
      refl) refl)
      (λ df a b x y s. absurd (df (same_test s))))

  -- what is pending behind a construct is pending around it
  pub outward_together : (W S : Type 0) (way : Option ℕ) (exit outer : ℕ) (m : Made) (out : ℕ → Test) (p q : Cells) →
      Grown program kernel (outward way exit outer m).made → ((site : ℕ) → way ≡ Some site → W) →
      Pending W outer (next_cell m) → ((site : ℕ) → way ≡ Some site → exit < next_cell m)
      → Equal E (λ c. live_in c (outward way exit outer m).lines (out c)) p q →
      ((site : ℕ) → way ≡ Some site → S → p exit ≡ q exit) → Outside W outer p q
      → Go out (outward way exit outer m).lines (λ a b. (S → W → a outer ≡ b outer) × Ans a b) p q
  outward_together W S None exit outer m out p q g w pend low al h outside = (al, ((λ s. outside.0), outside.1))
  outward_together W S (Some site) exit outer m out p q g w pend low al h outside =
      let n = next_cell m in
      let Q : Cells → Cells → Type 0 = λ a b. (S → W → a outer ≡ b outer) × Ans a b in
      let w0 = w site refl in
      let below = pend.below w0 in
      let v = binary_of Eq Int (p exit) (pos 2) in
      let z = binary_of Eq Int (q exit) (pos 2) in
      let p1 = put p n v in
      let q1 = put q n z in
      let exit1 : S → p1 exit ≡ q1 exit = λ s. put_other p n exit v (apart_below n exit (low site refl)) ∙
      (h site refl s ∙ sym (put_other q n exit z (apart_below n exit (low site refl)))) in
      let outer1 : W → p1 outer ≡ q1 outer = λ w'. put_other p n outer v (apart_below n outer below) ∙
      (outside.0 w' ∙ sym (put_other q n outer z (apart_below n outer below))) in
      let ans1 : Ans p1 q1 = λ t s nv. let b = apart_below n here.answer (pend.result_below t s) in
      put_other p n here.answer v b ∙ (outside.1 t s nv ∙ sym (put_other q n here.answer z b)) in
      let same_test : S → p1 n ≡ q1 n = λ s. put_here p n n v (same_self n) ∙
      (ap (λ y. binary_of Eq Int y (pos 2)) (h site refl s) ∙ sym (put_here q n n z (same_self n))) in
      let other_cell : (t : IntType) → (function_at program fn).result ≡ Some t → nat_eq outer here.answer ≡ false =
      λ t s. apart_is outer here.answer (pend.no_result w0 t s) in
      set_then program kernel one other fn out n (Binary Eq Int (CellAtom exit) (int (pos 2)))
      (IfThen site (CellAtom n) NoLine (set_to outer (CellAtom exit)) NoLine) Q p q
      (value_not_even program kernel m Int g) al
      (λ al1. together_if E one other out site (CellAtom n) NoLine (set_to outer (CellAtom exit)) Q p1 q1 al1
      (λ x y al2. (al2, ((λ s. outer1), ans1)))
      (λ x y al2. together_set E one other out outer (Copy (CellAtom exit)) Q p1 q1 al2
      (λ e l. absurd (pend.plain w0 e)) (
        (λ s w'. put_here p1 outer outer (p1 exit) (same_self outer) ∙
            (exit1 s ∙ sym (put_here q1 outer outer (q1 exit) (same_self outer)))),
        λ t s nv. put_other p1 outer here.answer (p1 exit) (other_cell t s) ∙
            (ans1 t s nv ∙ sym (put_other q1 outer here.answer (q1 exit) (other_cell t s))),
      ))
      (λ df c e o. or_false (nat_eq outer c) false (apart_even outer c (pend.plain w0) e) refl)
      (λ df a b x y. (
        (λ s w'. absurd (df (same_test s))),
        λ t s nv. let u = or_false (nat_eq outer here.answer) false (other_cell t s) refl in
            branch_kept one (CellAtom n) NoLine (set_to outer (CellAtom exit)) p1 a here.answer x u ∙
            (ans1 t s nv ∙ sym (branch_kept other (CellAtom n) NoLine (set_to outer (CellAtom exit)) q1 b here.answer
            y u)),
      )))
