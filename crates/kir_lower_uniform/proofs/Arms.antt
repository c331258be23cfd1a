-- Both go together through the choice of an arm of a switch, and through an arm. Which arm an item came to first, and
-- whether it left one, says that nothing is pending where an arm is entered.
use Rattle.std.proofs.Common.{◌≡◌, ℕ, suc, ◌+◌, ◌<◌, ℤ, pos, length, List, [], ◌∷◌, refl, sym, ap, ◌∙◌, subst, arith}
use Rattle.std.proofs.Common.{inl, inr}
use Rattle.std.proofs.Common.{Bool as Test, false}
use Rattle.std.specs.Prelude.{nat_eq, ◌||◌}
use Rattle.wg_num.specs.declared.types.IntType.{IntType}
use Rattle.wg_num.specs.declared.types.IntType.TheVariants.{Int}
use Rattle.wg_num.specs.declared.types.Bin.TheVariants.{Eq}
use Rattle.wg_num.specs.Wrap.{wrap_of}
use Rattle.wg_num.specs.Operators.{binary_of}
use Rattle.cl_model.specs.Tree.{Program, Arms, no_arm, arm}
use Rattle.cl_model.specs.Calls.{function_at}
use Rattle.cl_model.specs.Valid.{promoted}
use Rattle.kir.specs.declared.line.Atom.TheVariants.{Const, Cell as CellAtom}
use Rattle.kir.specs.Tree.{Binary, Convert, Copy, Lines, NoLine, SetThen, IfThen, OfValue, Kernel}
use Rattle.kir.specs.Live.{live_in}
use Rattle.kir.specs.Steps.{atom_value}
use Rattle.kir_lower.specs.declared.places.Value.{Value}
use Rattle.kir_lower.specs.Made.{Made, Instance, next_cell, with_cell, int}
use Rattle.kir_lower.specs.Actions.{set_to, default_number, label_code, labels_code, all_labels_code, selected}
use Rattle.kir_lower.specs.Code.{Calls}
use Rattle.kir_uniform.specs.Does.{Cells, Who, put}
use Rattle.kir_uniform.proofs.Living.{true_or_false}
use Rattle.kir_uniform.proofs.Alike.{same_self, same_number, put_here, put_other}
use Rattle.kir_lower_shape.proofs.Quiet.{or_false}
use Rattle.kir_lower_shape.proofs.Absent.{next_more}
use Rattle.kir_lower_shape.proofs.AbsentSteps.{labels_up}
use Rattle.kir_lower_uniform.specs.Together.{Equal, Together}
use Rattle.kir_lower_uniform.proofs.Places.{together_then}
use Rattle.kir_lower_uniform.proofs.Rules.{together_seq, together_set, together_if}
use Rattle.kir_lower_uniform.proofs.Ground.{Even, Grown, value_not_even, back_value}
use Rattle.kir_lower_uniform.proofs.Setting.{Setting}
use Rattle.kir_lower_uniform.proofs.Acts.{apart_below, set_then}
use Rattle.kir_lower_uniform.proofs.Guards.{AnswerEqual}

-- the number is one before this
abbrev pub Past : ℕ → ℤ → Type 0
Past k z = (j : ℕ) × (j < k) × (z ≡ pos j)

pub past_more : (k : ℕ) (z : ℤ) → Past k z → Past (suc k) z
past_more k z h = let l = h.1 in (h.0, omega (arith, l), h.2)

same_pos : (a b : ℕ) → pos a ≡ pos b → a ≡ b
same_pos a b e = cc

module _ (program : Program) (kernel : Kernel) (one other : Who) (fn : ℕ) (calls : Calls) (here : Instance)
    (set : Setting program kernel one other fn calls here) where
  abbrev Size : ℕ
  Size = length (function_at program fn).variables

  abbrev E : ℕ → Type 0
  E = Even program kernel

  abbrev Go : (ℕ → Test) → Lines → (Cells → Cells → Type 0) → Cells → Cells → Type 0
  Go out lines Q p q = Together (Even program kernel) one other out lines Q p q

  abbrev Ans : Cells → Cells → Type 0
  Ans p q = AnswerEqual program kernel one other fn calls here set p q

  -- ---- which arm is chosen

  pub labels_back : (site : ℕ) (value : Value) (to k : ℕ) (labels : List ℤ) (m : Made) →
      Grown program kernel (labels_code site value to k labels m).made → Grown program kernel m
  labels_back site value to k [] m g = g
  labels_back site value to k (label ∷ labels) m g =
      back_value program kernel m Int (labels_back site value to k labels (with_cell m OfValue Int) g)

  pub all_back : (site : ℕ) (value : Value) (to k : ℕ) (arms : Arms) (m : Made) →
      Grown program kernel (all_labels_code site value to k arms m).made → Grown program kernel m
  all_back site value to k no_arm m g = g
  all_back site value to k (arm labels default body rest) m g =
      labels_back site value to k labels m
      (all_back site value to (k + 1) rest (labels_code site value to k labels m).made g)

  module _ (R : Type 0) (n to : ℕ) (of : IntType) (apart_ : nat_eq to n ≡ false) (to_not : E to → ⊥) where
    abbrev Chosen : Cells → Cells → Type 0
    Chosen p q = (R → p n ≡ q n) × (R → p to ≡ q to)

    label_together : (site k : ℕ) (label : ℤ) (m : Made) (out : ℕ → Test) (p q : Cells) → n < next_cell m →
        to < next_cell m → Grown program kernel (label_code site (record { atom = CellAtom n; of = of }) to k label
        m).made
        → Equal E (λ c. live_in c (label_code site (record { atom = CellAtom n; of = of }) to k label m).lines
        (out c)) p q → Chosen p q → Go out (label_code site (record { atom = CellAtom n; of = of }) to k label
        m).lines Chosen p q
    label_together site k label m out p q ln lt g al h =
        let t = next_cell m in
        let v = binary_of Eq of (p n) label in
        let w = binary_of Eq of (q n) label in
        let p1 = put p t v in
        let q1 = put q t w in
        let h1 : Chosen p1 q1 = (
          (λ r. put_other p t n v (apart_below t n ln) ∙ (h.0 r ∙ sym (put_other q t n w (apart_below t n ln)))),
          (λ r. put_other p t to v (apart_below t to lt) ∙ (h.1 r ∙ sym (put_other q t to w (apart_below t to lt)))),
        ) in
        let same_test : R → p1 t ≡ q1 t = λ r. put_here p t t v (same_self t) ∙
        (ap (λ z. binary_of Eq of z label) (h.0 r) ∙ sym (put_here q t t w (same_self t))) in
        set_then program kernel one other fn out t (Binary Eq of (CellAtom n) (Const label of))
        (IfThen site (CellAtom t) (set_to to (int (pos k))) NoLine NoLine) Chosen p q
        (value_not_even program kernel m Int g) al
        (λ al1. together_if E one other out site (CellAtom t) (set_to to (int (pos k))) NoLine Chosen p1 q1 al1
        (λ x y al2. together_set E one other out to (Copy (int (pos k))) Chosen p1 q1 al2 (λ e l. absurd (to_not e)) (
          (λ r. put_other p1 to n (pos k) apart_ ∙ (h1.0 r ∙ sym (put_other q1 to n (pos k) apart_))),
          (λ r. put_here p1 to to (pos k) (same_self to) ∙ sym (put_here q1 to to (pos k) (same_self to))),
        ))
        (λ x y al2. (al2, h1))
        (λ df c e o. or_false (nat_eq to c || false) false
        (or_false (nat_eq to c) false (elim (true_or_false (nat_eq to c)) [
          | inl z ↦
              absurd (to_not (subst E (sym (same_number to c z)) e))
          | inr z ↦ z
        ]) refl) refl)
        (λ df a b x y. ((λ r. absurd (df (same_test r))), (λ r. absurd (df (same_test r))))))

    labels_together : (site k : ℕ) (labels : List ℤ) (m : Made) (out : ℕ → Test) (p q : Cells) → n < next_cell m →
        to < next_cell m → Grown program kernel (labels_code site (record { atom = CellAtom n; of = of }) to k labels
        m).made
        → Equal E (λ c. live_in c (labels_code site (record { atom = CellAtom n; of = of }) to k labels m).lines
        (out c)) p q → Chosen p q → Go out (labels_code site (record { atom = CellAtom n; of = of }) to k labels
        m).lines Chosen p q
    labels_together site k [] m out p q ln lt g al h = (al, h)
    labels_together site k (label ∷ labels) m out p q ln lt g al h =
        let value : Value = record { atom = CellAtom n; of = of } in
        let cl = label_code site value to k label m in
        let cr = labels_code site value to k labels cl.made in
        let one_more = next_more m OfValue Int in
        together_seq E one other out cl.lines cr.lines Chosen Chosen p q al
        (λ al'. label_together site k label m (λ c. live_in c cr.lines (out c)) p q ln lt
        (labels_back site value to k labels cl.made g) al' h)
        (λ a b d e al' h'. labels_together site k labels cl.made out a b (omega (arith, ln, one_more)) (omega (
          arith,
          lt,
          one_more,
        )) g al' h')

    all_labels_together : (site k : ℕ) (arms : Arms) (m : Made) (out : ℕ → Test) (p q : Cells) → n < next_cell m →
        to < next_cell m → Grown program kernel (all_labels_code site (record { atom = CellAtom n; of = of }) to k
        arms m).made
        → Equal E (λ c. live_in c (all_labels_code site (record { atom = CellAtom n; of = of }) to k arms m).lines
        (out c)) p q → Chosen p q → Go out (all_labels_code site (record { atom = CellAtom n; of = of }) to k
        arms m).lines Chosen p q
    all_labels_together site k no_arm m out p q ln lt g al h = (al, h)
    all_labels_together site k (arm labels default body rest) m out p q ln lt g al h =
        let value : Value = record { atom = CellAtom n; of = of } in
        let cl = labels_code site value to k labels m in
        let cr = all_labels_code site value to (k + 1) rest cl.made in
        let up = labels_up site value to k labels m in
        together_seq E one other out cl.lines cr.lines Chosen Chosen p q al
        (λ al'. labels_together site k labels m (λ c. live_in c cr.lines (out c)) p q ln lt
        (all_back site value to (k + 1) rest cl.made g) al' h)
        (λ a b d e al' h'. all_labels_together site (k + 1) rest cl.made out a b (omega (arith, ln, up))
        (omega (arith, lt, up)) g al' h')

  -- the number of the chosen arm is equal where the value is
  pub selected_together : (R : Type 0) (site : ℕ) (value : Value) (arms : Arms) (m : Made) (out : ℕ →
      Test) (p q : Cells) → Grown program kernel (selected site value arms m).made →
      Equal E (λ c. live_in c (selected site value arms m).lines (out c)) p q
      → (R → atom_value p value.atom ≡ atom_value q value.atom) →
      Go out (selected site value arms m).lines (λ a b. R → atom_value a (selected site value arms m).value.atom ≡
      atom_value b (selected site value arms m).value.atom) p q
  selected_together R site value arms m out p q g al same =
      let wide = promoted value.of in
      let n = next_cell m in
      let m1 = with_cell m OfValue wide in
      let to = next_cell m1 in
      let m2 = with_cell m1 OfValue Int in
      let one_more = next_more m OfValue wide in
      let two_more = next_more m1 OfValue Int in
      let apart_ = apart_below to n (omega (arith, one_more)) in
      let to_not : Grown program kernel m2 → E to → ⊥ = λ g2. value_not_even program kernel m1 Int g2 in
      let g2 = all_back site (record { atom = CellAtom n; of = wide }) to 0 arms m2 g in
      let g1 = back_value program kernel m1 Int g2 in
      let start : ℤ = pos (default_number 0 arms) in
      let labels = all_labels_code site (record { atom = CellAtom n; of = wide }) to 0 arms m2 in
      let v = wrap_of wide (atom_value p value.atom) in
      let w = wrap_of wide (atom_value q value.atom) in
      let p1 = put p n v in
      let q1 = put q n w in
      set_then program kernel one other fn out n (Convert wide value.atom)
      (SetThen to (Copy (int start)) labels.lines) (λ a b. R →
      a to ≡ b to) p q (value_not_even program kernel m wide g1) al
      (λ al1. set_then program kernel one other fn out to (Copy (int start)) labels.lines (λ a b. R →
      a to ≡ b to) p1 q1 (to_not g2) al1
      (λ al2. together_then E one other out labels.lines (λ a b. (R → a n ≡ b n) × (R → a to ≡ b to)) (λ a b. R →
      a to ≡ b to) (put p1 to start) (put q1 to start)
      (all_labels_together R n to wide apart_ (to_not g2) site 0 arms m2 out (put p1 to start) (put q1 to start)
      (omega (arith, one_more, two_more)) (omega (arith, two_more)) g al2 (
        (λ r. put_other p1 to n start apart_ ∙
            (put_here p n n v (same_self n) ∙ (ap (wrap_of wide) (same r) ∙ sym (put_here q n n w (same_self n))) ∙
            sym (put_other q1 to n start apart_))),
        (λ r. put_here p1 to to start (same_self to) ∙ sym (put_here q1 to to start (same_self to))),
      )) (λ a b d e z h. h.1)))
