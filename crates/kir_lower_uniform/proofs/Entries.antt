-- Both go together through an arm of a switch: nothing is pending where it is entered.
use Rattle.std.proofs.Common.{◌≡◌, ℕ, suc, ◌+◌, ◌<◌, ◌≤◌, ℤ, pos, length, Option, Some, None, refl, sym, ap, ap₂, ◌∙◌}
use Rattle.std.proofs.Common.{subst, arith, ◌⊎◌, inl, inr}
use Rattle.std.proofs.Common.{Bool as Test, true, false}
use Rattle.std.specs.Prelude.{◌||◌}
use Rattle.wg_num.specs.declared.types.IntType.{IntType}
use Rattle.wg_num.specs.declared.types.IntType.TheVariants.{Int}
use Rattle.wg_num.specs.declared.types.Un.TheVariants.{Not}
use Rattle.wg_num.specs.declared.types.Bin.TheVariants.{And, Or, Eq}
use Rattle.wg_num.specs.Operators.{unary_of, binary_of}
use Rattle.cl_model.specs.Tree.{Program}
use Rattle.cl_model.specs.Calls.{function_at}
use Rattle.cl_model.specs.Values.{is_zero}
use Rattle.cl_model.specs.Valid.{Scope, Has}
use Rattle.cl_model.specs.Varying.{AVariable, AResult, Varies}
use Rattle.kir.specs.declared.line.Atom.{Atom}
use Rattle.kir.specs.declared.line.Atom.TheVariants.{Cell as CellAtom}
use Rattle.kir.specs.Tree.{Unary, Binary, Lines, NoLine, SetThen, IfThen, joined_to, OfValue, Kernel}
use Rattle.kir.specs.Live.{live_in}
use Rattle.kir.specs.Steps.{atom_value}
use Rattle.kir_lower.specs.Made.{Made, Instance, next_cell, with_cell, int}
use Rattle.kir_lower.specs.Actions.{fallen_code}
use Rattle.kir_lower.specs.Code.{Calls, entry_code}
use Rattle.kir_uniform.specs.Uniform.{sets_in}
use Rattle.kir_uniform.specs.Does.{Cells, Who, put}
use Rattle.kir_uniform.specs.Path.{Branches}
use Rattle.kir_uniform.proofs.Living.{true_or_false}
use Rattle.kir_uniform.proofs.Alike.{same_self, put_here, put_other, kept}
use Rattle.kir_lower_shape.proofs.Quiet.{Quiet, or_false, quiet_less}
use Rattle.kir_lower_shape.proofs.Steps.{IsApart, fallen_quiet}
use Rattle.kir_lower_shape.proofs.Absent.{next_more}
use Rattle.kir_lower_uniform.specs.Together.{Equal, Together}
use Rattle.kir_lower_uniform.proofs.Places.{together_then}
use Rattle.kir_lower_uniform.proofs.Rules.{Differ, branch_kept, together_seq, together_set, together_if}
use Rattle.kir_lower_uniform.proofs.Ground.{Even, Grown, value_not_even, back_value}
use Rattle.kir_lower_uniform.proofs.Fresh.{AtomIn}
use Rattle.kir_lower_uniform.proofs.Setting.{Setting, Known, Bound, bound_before, ScopeWithin}
use Rattle.kir_lower_uniform.proofs.Acts.{apart_below, set_then, atom_put}
use Rattle.kir_lower_uniform.proofs.Guards.{AnswerEqual}
use Rattle.kir_lower_uniform.proofs.Exits.{Pending, free_even}
use Rattle.kir_lower_uniform.proofs.Arms.{Past}
use Rattle.kir_lower_uniform.proofs.Words.{zero_is, no_bits, and_none, none_and, eq_is, not_some}

past_more : (k : ℕ) (z : ℤ) → Past k z → Past (k + 1) z
past_more k z h = let l = h.1 in (h.0, omega (arith, l), h.2)

same_pos : (a b : ℕ) → pos a ≡ pos b → a ≡ b
same_pos a b e = cc

clash_test : (b : Test) → b ≡ true → b ≡ false → ⊥
clash_test b t f = let z : true ≡ false = sym t ∙ f in cc

-- an arm is entered where it is the chosen one, or fallen into
entered_is : (k : ℕ) (x chosen y : ℤ) → (Past k chosen ⊎ ((is_zero x ≡ true) × (is_zero y ≡ true))) →
    (is_zero x ≡ false → is_zero y ≡ true)
    → is_zero (binary_of Or Int x (binary_of Eq Int chosen (pos k))) ≡ false → (is_zero y ≡ true) × Past (k + 1) chosen
entered_is k x chosen y before falls entered =
    elim (true_or_false (is_zero x)) [
      | inl zx ↦ elim (true_or_false (is_zero (binary_of Eq Int chosen (pos k)))) [
        | inl ze ↦ absurd (clash_test (is_zero (binary_of Or Int x (binary_of Eq Int chosen (pos k))))
            (ap is_zero (ap₂ (binary_of Or Int) (zero_is x zx) (zero_is (binary_of Eq Int chosen (pos k)) ze) ∙
            no_bits)) entered)
        | inr ne ↦
            let is = eq_is chosen (pos k) ne in (
              elim before [
                | inl past ↦ absurd (let s = same_pos past.0 k (sym past.2 ∙ is) in let l = past.1 in
                    omega (arith, s, l))
                | inr z ↦ z.1
              ],
              (k, omega arith, is),
            )
      ]
      | inr nx ↦ (
        falls nx,
        elim before [
          | inl past ↦ past_more k chosen past
          | inr z ↦ absurd (clash_test (is_zero x) z.0 nx)
        ],
      )
    ]

-- the next one is fallen into where it was entered and nothing is pending
fallen_is : (k : ℕ) (e y chosen : ℤ) → (Past (k + 1) chosen ⊎ ((is_zero e ≡ true) × (is_zero y ≡ true)))
    → (Past (k + 1) chosen ⊎ ((is_zero (binary_of And Int e (unary_of Not Int y)) ≡ true) × (is_zero y ≡ true))) ×
    (is_zero (binary_of And Int e (unary_of Not Int y)) ≡ false → is_zero y ≡ true)
fallen_is k e y chosen h = (
  elim h [
    | inl p ↦ inl p
    | inr z ↦
        inr (
          ap is_zero (ap (λ t. binary_of And Int t (unary_of Not Int y)) (zero_is e z.0) ∙
              none_and (unary_of Not Int y)),
          z.1,
        )
  ],
  λ n. elim (true_or_false (is_zero y)) [
    | inl z ↦ z
    | inr ny ↦ absurd (clash_test (is_zero (binary_of And Int e (unary_of Not Int y)))
        (ap is_zero (ap (binary_of And Int e) (not_some y ny) ∙ and_none e)) n)
  ],
)

module _ (program : Program) (kernel : Kernel) (one other : Who) (fn : ℕ) (calls : Calls) (here : Instance)
    (set : Setting program kernel one other fn calls here) where
  abbrev Size : ℕ
  Size = length (function_at program fn).variables

  abbrev E : ℕ → Type 0
  E = Even program kernel

  abbrev Go : (ℕ → Test) → Lines → (Cells → Cells → Type 0) → Cells → Cells → Type 0
  Go out lines Q p q = Together (Even program kernel) one other out lines Q p q

  module _ (W' : Type 0) (Y ch : ℕ) (R : Type 0) where
    -- an item before the arm with this number, of which it is said whether it is fallen into
    abbrev pub State : ℕ → Atom → Cells → Type 0
    State k x a = W' → (Past k (a ch) ⊎ ((is_zero (atom_value a x) ≡ true) × (is_zero (a Y) ≡ true))) ×
        (is_zero (atom_value a x) ≡ false → is_zero (a Y) ≡ true)

    -- both before it: where the value does not vary and the arms before are settled, both fall into it or none does,
    -- and what is pending is equal
    pub record ArmEqual (C : Type 0) (k : ℕ) (x : Atom) (a b : Cells) : Type 0 where
      pub chosen : R → a ch ≡ b ch
      pub fallen : C → R → atom_value a x ≡ atom_value b x
      pub exit : C → R → W' → a Y ≡ b Y
      pub answer : AnswerEqual program kernel one other fn calls here set a b
      pub first : State k x a
      pub second : State k x b

    module _ (scope : Scope) (site k : ℕ) (x : Atom) (lower : ℕ) (way : Option ℕ) (lb : Lines) (m mb : Made)
        (C A : Type 0) (ab : ℕ → Test) (rb : Test) (out : ℕ → Test)
        (within : ScopeWithin program kernel here Size scope) (bound : Bound program kernel here scope out)
        (up : next_cell (entry_code (CellAtom ch) x k m).made ≤ next_cell mb)
        (ch_low : ch < next_cell m) (x_in : AtomIn program kernel lower (next_cell m) x)
        (pend : Pending program kernel one other fn calls here set W' Y (next_cell m)) (w : (s : ℕ) →
        way ≡ Some s → W')
        (grown : Grown program kernel (fallen_code way Y (entry_code (CellAtom ch) x k m).value mb).made)
        (grown_m : Grown program kernel (entry_code (CellAtom ch) x k m).made)
        (quiet_body : (c : ℕ) → E c → IsApart c here scope → Quiet c lb false)
        (unset_body : (c : ℕ) → E c → Known program kernel here scope c →
        ((y : ℕ) → Has scope y → c ≡ here.base + y → ab y ≡ true → ⊥) → sets_in c lb ≡ false)
        (r_body : (t : IntType) → (function_at program fn).result ≡ Some t → rb ≡ false →
        sets_in here.answer lb ≡ false) (ch_body : sets_in ch lb ≡ false)
        (n_body : sets_in (next_cell (with_cell m OfValue Int)) lb ≡ false)
        (y_body : way ≡ None → W' → sets_in Y lb ≡ false)
        (go_body : (out' : ℕ → Test) (p q : Cells) → Bound program kernel here scope out' →
        Equal E (λ c. live_in c lb (out' c)) p q → (W' → p Y ≡ q Y) →
        AnswerEqual program kernel one other fn calls here set p q
        → Go out' lb (λ a b. (A → W' → a Y ≡ b Y) × AnswerEqual program kernel one other fn calls here set a b) p q)
        (clash : (y : ℕ) → Has scope y → (Varies program (AVariable fn y) → ⊥) → ab y ≡ true →
        C × R) (clash_result : rb ≡ true → (Varies program (AResult fn) → ⊥) → C × R) where
      abbrev N0 : ℕ
      N0 = next_cell m

      abbrev N1 : ℕ
      N1 = next_cell (with_cell m OfValue Int)

      -- behind the test whether it is entered
      abbrev Enters : Cells → Type 0
      Enters a = W' → (is_zero (a N1) ≡ false → (is_zero (a Y) ≡ true) × Past (k + 1) (a ch)) ×
          (Past (k + 1) (a ch) ⊎ (is_zero (a Y) ≡ true))

      record Entered (a b : Cells) : Type 0 where
        chosen : R → a ch ≡ b ch
        entered : C → R → a N1 ≡ b N1
        exit : C → R → W' → a Y ≡ b Y
        answer : AnswerEqual program kernel one other fn calls here set a b
        first : Enters a
        second : Enters b

      -- behind its statements
      abbrev Leaves : Cells → Type 0
      Leaves a = W' → (Past (k + 1) (a ch) ⊎ ((is_zero (a N1) ≡ true) × (is_zero (a Y) ≡ true))) ×
          (way ≡ None → is_zero (a N1) ≡ false → is_zero (a Y) ≡ true)

      record Left (a b : Cells) : Type 0 where
        chosen : R → a ch ≡ b ch
        entered : C → R → a N1 ≡ b N1
        exit : (C × A) → R → W' → a Y ≡ b Y
        answer : AnswerEqual program kernel one other fn calls here set a b
        first : Leaves a
        second : Leaves b

      one_more : next_cell (with_cell m OfValue Int) ≡ suc (next_cell m)
      one_more = next_more m OfValue Int

      two_more : next_cell (with_cell (with_cell m OfValue Int) OfValue Int) ≡ suc (next_cell (with_cell m OfValue Int))
      two_more = next_more (with_cell m OfValue Int) OfValue Int

      -- the cells before keep their values
      entry_kept : (p : Cells) (v z : ℤ) (c : ℕ) → c < next_cell m → put (put p N0 v) N1 z c ≡ p c
      entry_kept p v z c l = put_other (put p N0 v) N1 c z (apart_below N1 c (omega (arith, l, one_more))) ∙
          put_other p N0 c v (apart_below N0 c l)

      entry_together : (out' : ℕ → Test) (p q : Cells) →
          Equal E (λ c. live_in c (entry_code (CellAtom ch) x k m).lines (out' c)) p q → ArmEqual C k x p q →
          Go out' (entry_code (CellAtom ch) x k m).lines Entered p q
      entry_together out' p q al h =
          let v = binary_of Eq Int (p ch) (pos k) in
          let z = binary_of Eq Int (q ch) (pos k) in
          let p1 = put p N0 v in
          let q1 = put q N0 z in
          let v1 = binary_of Or Int (atom_value p1 x) (p1 N0) in
          let z1 = binary_of Or Int (atom_value q1 x) (q1 N0) in
          let g1 = back_value program kernel (with_cell m OfValue Int) Int grown_m in
          let xp : (f : Cells) (u : ℤ) → atom_value (put f N0 u) x ≡ atom_value f x =
          λ f u. atom_put program kernel lower (next_cell m) x f N0 u x_in (λ c l u'. apart_below N0 c u') in
          let value : (f : Cells) → binary_of Or Int (atom_value (put f N0 (binary_of Eq Int (f ch) (pos k))) x)
          (put f N0 (binary_of Eq Int (f ch) (pos k)) N0) ≡ binary_of Or Int (atom_value f x)
          (binary_of Eq Int (f ch) (pos k)) =
          λ f. ap₂ (binary_of Or Int) (xp f (binary_of Eq Int (f ch) (pos k)))
          (put_here f N0 N0 (binary_of Eq Int (f ch) (pos k)) (same_self N0)) in
          let state : (f : Cells) → State k x f →
          Enters (put (put f N0 (binary_of Eq Int (f ch) (pos k))) N1
          (binary_of Or Int (atom_value (put f N0 (binary_of Eq Int (f ch) (pos k))) x)
          (put f N0 (binary_of Eq Int (f ch) (pos k)) N0))) =
          λ f s w'. let u = binary_of Eq Int (f ch) (pos k) in
          let u1 = binary_of Or Int (atom_value (put f N0 u) x) (put f N0 u N0) in
          let j = s w' in
          let ky = entry_kept f u u1 Y (pend.below w') in
          let kc = entry_kept f u u1 ch ch_low in
          let kn = put_here (put f N0 u) N1 N1 u1 (same_self N1) ∙ value f in (
            (λ n. let r = entered_is k (atom_value f x) (f ch) (f Y) j.0 j.1 (ap is_zero (sym kn) ∙ n) in
                (ap is_zero ky ∙ r.0, subst (Past (k + 1)) (sym kc) r.1)),
            elim j.0 [
              | inl past ↦ inl (subst (Past (k + 1)) (sym kc) (past_more k (f ch) past))
              | inr t ↦
                  inr (ap is_zero ky ∙ t.1)
            ],
          ) in
          set_then program kernel one other fn out' N0 (Binary Eq Int (CellAtom ch) (int (pos k)))
          (SetThen N1 (Binary Or Int x (CellAtom N0)) NoLine) Entered p q (value_not_even program kernel m Int g1)
          al
          (λ al1. together_set E one other out' N1 (Binary Or Int x (CellAtom N0)) Entered p1 q1 al1
          (λ e l. absurd (value_not_even program kernel (with_cell m OfValue Int) Int grown_m e)) (record {
            chosen = λ r. entry_kept p v v1 ch ch_low ∙ (h.chosen r ∙ sym (entry_kept q z z1 ch ch_low));
            entered = λ c r.
                put_here p1 N1 N1 v1 (same_self N1) ∙
                (value p ∙ (ap₂ (binary_of Or Int) (h.fallen c r)
                (ap (λ t. binary_of Eq Int t (pos k)) (h.chosen r)) ∙
                sym (put_here q1 N1 N1 z1 (same_self N1) ∙ value q)));
            exit = λ c r w'. entry_kept p v v1 Y (pend.below w') ∙
                (h.exit c r w' ∙ sym (entry_kept q z z1 Y (pend.below w')));
            answer = λ t s nv. entry_kept p v v1 here.answer (pend.result_below t s) ∙
                (h.answer t s nv ∙ sym (entry_kept q z z1 here.answer (pend.result_below t s)));
            first = state p h.first;
            second = state q h.second;
          }))

      -- one item through the statements
      leaves : (who : Who) (a m0 b : Cells) → Enters a → Branches who (CellAtom N1) lb NoLine a m0 → b ≡ m0 → Leaves b
      leaves who a m0 b s (inl d) e w' =
          let kc : b ch ≡ a ch = ap (λ f. f ch) e ∙ kept who lb ch ch_body a m0 d.1 in
          let r = (s w').0 d.0 in (
            inl (subst (Past (k + 1)) (sym kc) r.1),
            λ none_ n. ap is_zero (ap (λ f. f Y) e ∙ kept who lb Y (y_body none_ w') a m0 d.1) ∙ r.0,
          )
      leaves who a m0 b s (inr d) e w' =
          let same : b ≡ a = e ∙ d.1 in
          let z : is_zero (b N1) ≡ true = ap (λ f. is_zero (f N1)) same ∙ d.0 in (
            elim (s w').1 [
              | inl past ↦ inl (subst (Past (k + 1)) (sym (ap (λ f. f ch) same)) past)
              | inr zy ↦
                  inr (z, ap (λ f. is_zero (f Y)) same ∙ zy)
            ],
            λ none_ n. absurd (clash_test (is_zero (b N1)) z n),
          )

      branch_together : (out' : ℕ → Test) (p q : Cells) → Bound program kernel here scope out' →
          Equal E (λ c. live_in c (IfThen site (CellAtom N1) lb NoLine NoLine) (out' c)) p q → Entered p q →
          Go out' (IfThen site (CellAtom N1) lb NoLine NoLine) Left p q
      branch_together out' p q bound' al h =
          let Q : Cells → Cells → Type 0 =
          λ a b. ((C × A) → R → W' → a Y ≡ b Y) × AnswerEqual program kernel one other fn calls here set a b in
          let none_set : (c : ℕ) → sets_in c lb ≡ false → (sets_in c lb || false) ≡ false =
          λ c u. or_false (sets_in c lb) false u refl in
          let no_clash : Differ (CellAtom N1) p q → (C × R) → ⊥ = λ df cr. df (h.entered cr.0 cr.1) in
          together_then E one other out' (IfThen site (CellAtom N1) lb NoLine NoLine) Q Left p q
          (together_if E one other out' site (CellAtom N1) lb NoLine Q p q al
          (λ nx ny al'. together_then E one other out' lb (λ a b. (A → W' → a Y ≡ b Y) ×
          AnswerEqual program kernel one other fn calls here set a b) Q p q
          (go_body out' p q bound' al' (λ w'. zero_is (p Y) ((h.first w').0 nx).0 ∙
          sym (zero_is (q Y) ((h.second w').0 ny).0)) h.answer) (λ a b d e z t. ((λ ca r. t.0 ca.1), t.1)))
          (λ nx ny al'. (al', ((λ ca r. h.exit ca.0 r), h.answer)))
          (λ df c e o. none_set c (unset_body c e (bound' c e o) (λ y has ec z.
          no_clash df (clash y has (λ v. set.marked y (within y has) (subst E ec e) v) z))))
          (λ df a b d e. (
            (λ ca r. absurd (no_clash df (ca.0, r))),
            (λ t s nv. elim (true_or_false rb) [
              | inl r ↦ absurd (no_clash df (clash_result r nv))
              | inr r ↦ let u = none_set here.answer (r_body t s r) in
                  branch_kept one (CellAtom N1) lb NoLine p a here.answer d u ∙
                  (h.answer t s nv ∙ sym (branch_kept other (CellAtom N1) lb NoLine q b here.answer e u))
            ]),
          )))
          (λ a b d e z t. let keep : (c : ℕ) → sets_in c lb ≡ false → p c ≡ q c → a c ≡ b c =
          λ c u s. kept one (IfThen site (CellAtom N1) lb NoLine NoLine) c
          (or_false (sets_in c lb || false) false (none_set c u) refl) p a d ∙
          (s ∙ sym (kept other (IfThen site (CellAtom N1) lb NoLine NoLine) c
          (or_false (sets_in c lb || false) false (none_set c u) refl) q b e)) in
          record {
            chosen = λ r. keep ch ch_body (h.chosen r);
            entered = λ c r. keep N1 n_body (h.entered c r);
            exit = t.0;
            answer = t.1;
            first = leaves one p d.0 a h.first d.1 d.2;
            second = leaves other q e.0 b h.second e.1 e.2;
          })

      fallen_together : (u : Option ℕ) → u ≡ way →
          Grown program kernel (fallen_code u Y (entry_code (CellAtom ch) x k m).value mb).made → (p q : Cells) →
          Equal E (λ c. live_in c (fallen_code u Y (entry_code (CellAtom ch) x k m).value mb).lines (out c)) p q →
          Left p q
          → Go out (fallen_code u Y (entry_code (CellAtom ch) x k m).value mb).lines
          (λ a b. ArmEqual (C × A) (k + 1) (fallen_code u Y (entry_code (CellAtom ch) x k m).value mb).value.atom
          a b) p q
      fallen_together None same g p q al h = (
        al,
        record {
          chosen = h.chosen;
          fallen = λ ca r. h.entered ca.0 r;
          exit = h.exit;
          answer = h.answer;
          first = λ w'. let s = h.first w' in (s.0, s.1 (sym same));
          second = λ w'. let s = h.second w' in (s.0, s.1 (sym same));
        },
      )
      fallen_together (Some s) same g p q al h =
          let w' = w s (sym same) in
          let n2 = next_cell mb in
          let mb1 = with_cell mb OfValue Int in
          let n3 = next_cell mb1 in
          let three_more = next_more mb OfValue Int in
          let g1 = back_value program kernel mb1 Int g in
          let v = unary_of Not Int (p Y) in
          let z = unary_of Not Int (q Y) in
          let p1 = put p n2 v in
          let q1 = put q n2 z in
          let v1 = binary_of And Int (p1 N1) (p1 n2) in
          let z1 = binary_of And Int (q1 N1) (q1 n2) in
          let keep : (f : Cells) (t t1 : ℤ) (c : ℕ) → c < N1 + 1 → put (put f n2 t) n3 t1 c ≡ f c =
          λ f t t1 c l. put_other (put f n2 t) n3 c t1
          (apart_below n3 c (omega (arith, l, three_more, up, two_more))) ∙
          put_other f n2 c t (apart_below n2 c (omega (arith, l, up, two_more))) in
          let value : (f : Cells) (t : ℤ) → binary_of And Int (put f n2 t N1) (put f n2 t n2) ≡
          binary_of And Int (f N1) t = λ f t.
          ap₂ (binary_of And Int) (put_other f n2 N1 t (apart_below n2 N1 (omega (arith, up, two_more))))
          (put_here f n2 n2 t (same_self n2)) in
          let y_low : Y < N1 + 1 = let l = pend.below w' in omega (arith, l, one_more) in
          let c_low : ch < N1 + 1 = omega (arith, ch_low, one_more) in
          let state : (f : Cells) → Leaves f →
          State (k + 1) (CellAtom n3) (put (put f n2 (unary_of Not Int (f Y))) n3
          (binary_of And Int (put f n2 (unary_of Not Int (f Y)) N1) (put f n2 (unary_of Not Int (f Y)) n2))) =
          λ f l w2. let t = unary_of Not Int (f Y) in
          let t1 = binary_of And Int (put f n2 t N1) (put f n2 t n2) in
          let j = fallen_is k (f N1) (f Y) (f ch) (l w').0 in
          let ky = keep f t t1 Y y_low in
          let kc = keep f t t1 ch c_low in
          let kn = put_here (put f n2 t) n3 n3 t1 (same_self n3) ∙ value f t in (
            elim j.0 [
              | inl past ↦ inl (subst (Past (k + 1)) (sym kc) past)
              | inr zs ↦
                  inr (ap is_zero kn ∙ zs.0, ap is_zero ky ∙ zs.1)
            ],
            λ n. ap is_zero ky ∙ j.1 (ap is_zero (sym kn) ∙ n),
          ) in
          set_then program kernel one other fn out n2 (Unary Not Int (CellAtom Y))
          (SetThen n3 (Binary And Int (CellAtom N1) (CellAtom n2)) NoLine)
          (λ a b. ArmEqual (C × A) (k + 1) (CellAtom n3) a b) p q (value_not_even program kernel mb Int g1) al
          (λ al1. together_set E one other out n3 (Binary And Int (CellAtom N1) (CellAtom n2))
          (λ a b. ArmEqual (C × A) (k + 1) (CellAtom n3) a b) p1 q1 al1
          (λ e l. absurd (value_not_even program kernel mb1 Int g e)) (record {
            chosen = λ r. keep p v v1 ch c_low ∙ (h.chosen r ∙ sym (keep q z z1 ch c_low));
            fallen = λ ca r. put_here p1 n3 n3 v1 (same_self n3) ∙
                (value p v ∙ (ap₂ (binary_of And Int) (h.entered ca.0 r) (ap (unary_of Not Int) (h.exit ca r w')) ∙
                sym (put_here q1 n3 n3 z1 (same_self n3) ∙ value q z)));
            exit = λ ca r w2. keep p v v1 Y y_low ∙ (h.exit ca r w2 ∙ sym (keep q z z1 Y y_low));
            answer = λ t s' nv. let l = pend.result_below t s' in let l2 : here.answer < N1 + 1 =
                omega (arith, l, one_more) in keep p v v1 here.answer l2 ∙
                (h.answer t s' nv ∙ sym (keep q z z1 here.answer l2));
            first = state p h.first;
            second = state q h.second;
          }))

      pub arm_together : (p q : Cells) →
          Equal E (λ c. live_in c (joined_to (entry_code (CellAtom ch) x k m).lines
          (IfThen site (CellAtom N1) lb NoLine (fallen_code way Y (entry_code (CellAtom ch) x k m).value
          mb).lines)) (out c)) p q → ArmEqual C k x p q
          → Go out (joined_to (entry_code (CellAtom ch) x k m).lines
          (IfThen site (CellAtom N1) lb NoLine (fallen_code way Y (entry_code (CellAtom ch) x k m).value
          mb).lines))
          (λ a b. ArmEqual (C × A) (k + 1) (fallen_code way Y (entry_code (CellAtom ch) x k m).value mb).value.atom a
          b) p q
      arm_together p q al h =
          let cf = fallen_code way Y (entry_code (CellAtom ch) x k m).value mb in
          let n_not = value_not_even program kernel (with_cell m OfValue Int) Int grown_m in
          let quiet_f : (c : ℕ) → E c → IsApart c here scope → Quiet c cf.lines false =
          λ c e ap_. quiet_less c cf.lines _ (fallen_quiet c way Y (entry_code (CellAtom ch) x k m).value mb
          (λ s q'. free_even program kernel one other fn calls here set Y c (pend.plain (w s q')) e)
          (free_even program kernel one other fn calls here set N1 c n_not e)) in
          let bound_f = bound_before program kernel here cf.lines scope out quiet_f bound in
          together_seq E one other out (entry_code (CellAtom ch) x k m).lines
          (IfThen site (CellAtom N1) lb NoLine cf.lines) Entered (λ a b. ArmEqual (C × A) (k + 1) cf.value.atom a
          b) p q al
          (λ al'. entry_together (λ c. live_in c (IfThen site (CellAtom N1) lb NoLine cf.lines) (out c)) p q al' h)
          (λ a b d e al1 h1. together_seq E one other out (IfThen site (CellAtom N1) lb NoLine NoLine) cf.lines Left
          (λ a b. ArmEqual (C × A) (k + 1) cf.value.atom a b) a b al1
          (λ al2. branch_together (λ c. live_in c cf.lines (out c)) a b bound_f al2 h1)
          (λ a2 b2 d2 e2 al2 h2. fallen_together way refl grown a2 b2 al2 h2))
