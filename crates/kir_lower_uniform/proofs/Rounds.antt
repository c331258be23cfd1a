-- Both go together through a loop, given that they do so through its parts.
use Rattle.std.proofs.Common.{◌≡◌, ℕ, ◌+◌, ◌<◌, ◌≤◌, ℤ, pos, length, Option, Some, None, refl, sym, ap, ◌∙◌, subst}
use Rattle.std.proofs.Common.{arith, inl, inr}
use Rattle.std.proofs.Common.{Bool as Test, true, false}
use Rattle.std.specs.Prelude.{nat_eq, ◌||◌}
use Rattle.std.proofs.lemmas.Bool.{or_left, or_right}
use Rattle.wg_num.specs.declared.types.IntType.{IntType}
use Rattle.wg_num.specs.declared.types.IntType.TheVariants.{Int}
use Rattle.cl_model.specs.Tree.{Program}
use Rattle.cl_model.specs.Calls.{function_at}
use Rattle.cl_model.specs.Values.{is_zero}
use Rattle.cl_model.specs.Valid.{Scope, Has}
use Rattle.cl_model.specs.Varying.{some_assigns, AVariable, AResult, Varies}
use Rattle.kir.specs.declared.line.Atom.{Atom}
use Rattle.kir.specs.declared.line.Atom.TheVariants.{Const, Cell as CellAtom}
use Rattle.kir.specs.Tree.{Copy, Lines, NoLine, SetThen, IfThen, LoopThen, joined_to, OfValue, Kernel}
use Rattle.kir.specs.Live.{reads, live_in}
use Rattle.kir.specs.Steps.{atom_value}
use Rattle.kir_lower.specs.declared.places.Value.{Value}
use Rattle.kir_lower.specs.Made.{Made, Instance, next_cell, with_cell}
use Rattle.kir_lower.specs.Actions.{set_to, settled, guarded_before, round_code}
use Rattle.kir_lower.specs.Code.{Calls}
use Rattle.kir_uniform.specs.Uniform.{sets_in, tested}
use Rattle.kir_uniform.specs.Does.{Cells, Who, put, Does}
use Rattle.kir_uniform.proofs.Living.{true_or_false, or_either}
use Rattle.kir_uniform.proofs.Alike.{same_self, put_here, put_other, kept}
use Rattle.kir_lower_shape.proofs.Quiet.{Quiet, or_false, quiet_none, quiet_less, quiet_then, quiet_set, quiet_if_set}
use Rattle.kir_lower_shape.proofs.Steps.{IsApart, computed_quiet, guarded_quiet}
use Rattle.kir_lower_shape.proofs.Absent.{next_more}
use Rattle.kir_lower_uniform.specs.Together.{Equal, Anything, Together}
use Rattle.kir_lower_uniform.proofs.Places.{together_then}
use Rattle.kir_lower_uniform.proofs.Rules.{branch_kept, together_seq, together_set, together_if, together_loop}
use Rattle.kir_lower_uniform.proofs.Ground.{Even, Grown, value_not_even, back_value}
use Rattle.kir_lower_uniform.proofs.Setting.{Setting, Known, Bound, bound_before, ScopeWithin, known_below}
use Rattle.kir_lower_uniform.proofs.Acts.{apart_above, apart_below, set_then}
use Rattle.kir_lower_uniform.proofs.UnsetSteps.{Unset, unset_none, unset_then, unset_set, unset_if, guarded_unset}
use Rattle.kir_lower_uniform.proofs.Guards.{AnswerEqual, Covers, guarded_together}
use Rattle.kir_lower_uniform.proofs.Exits.{Pending, free_even, apart_is, Outside, outside_kept, settled_quiet}
use Rattle.kir_lower_uniform.proofs.Exits.{settled_together}
use Rattle.kir_lower_uniform.proofs.Words.{zero_is}

module _ (program : Program) (kernel : Kernel) (one other : Who) (fn : ℕ) (calls : Calls) (here : Instance)
    (set : Setting program kernel one other fn calls here) where
  abbrev Size : ℕ
  Size = length (function_at program fn).variables

  abbrev E : ℕ → Type 0
  E = Even program kernel

  abbrev Go : (ℕ → Test) → Lines → (Cells → Cells → Type 0) → Cells → Cells → Type 0
  Go out lines Q p q = Together (Even program kernel) one other out lines Q p q

  abbrev Ans : Cells → Cells → Type 0
  Ans p q = AnswerEqual program kernel one other fn calls here set p q

  -- what is live at the answer of a loop
  bound_tested : (test : Lines) (answer : Atom) (body : Lines) (scope : Scope) (out : ℕ → Test) →
      ((c : ℕ) → E c → reads c answer ≡ false) → ((c : ℕ) → E c → IsApart c here scope → Quiet c test false) →
      ((c : ℕ) → E c → IsApart c here scope → Quiet c body false)
      → Bound program kernel here scope out → Bound program kernel here scope (tested test answer body out)
  bound_tested test answer body scope out reads_not quiet_test quiet_body bound c e l =
      elim (or_either (reads c answer) _ l) [
        | inl r ↦ absurd (let f = reads_not c e in let z : true ≡ false = sym r ∙ f in cc)
        | inr r ↦ elim (or_either (out c) _ r) [
          | inl o ↦ bound c e o
          | inr b ↦ bound_before program kernel here body scope (λ d. live_in d test false) quiet_body
              (λ d ed t. bound_before program kernel here test scope (λ z. false) quiet_test
              (λ z ez f. absurd (let y : true ≡ false = sym f in cc)) d ed t) c e b
        ]
      ]

  module _ (W' W : Type 0) (Y X : ℕ) (scope : Scope) (out : ℕ → Test) (lt ls lb : Lines) (answer : Value) (mb : Made)
      (S T : Type 0) (at as_ ab : ℕ → Test) (rb : Test)
      (within : ScopeWithin program kernel here Size scope) (low : here.base + Size ≤ next_cell mb)
      (bound : Bound program kernel here scope out)
      (go_test : (out' : ℕ → Test) (p q : Cells) → Bound program kernel here scope out' →
      Equal E (λ c. live_in c lt (out' c)) p q →
      Go out' lt (λ a b. T → atom_value a answer.atom ≡ atom_value b answer.atom) p q)
      (go_step : (out' : ℕ → Test) (p q : Cells) → Bound program kernel here scope out' →
      Equal E (λ c. live_in c ls (out' c)) p q → Go out' ls Anything p q)
      (go_body : (out' : ℕ → Test) (p q : Cells) → Bound program kernel here scope out' →
      Equal E (λ c. live_in c lb (out' c)) p q → (W' → p Y ≡ q Y) → Ans p q →
      Go out' lb (λ a b. (S → W' → a Y ≡ b Y) × Ans a b) p q)
      (quiet_test : (c : ℕ) → E c → IsApart c here scope → Quiet c lt false) (quiet_step : (c : ℕ) → E c →
      IsApart c here scope → Quiet c ls false) (quiet_body : (c : ℕ) → E c → IsApart c here scope →
      Quiet c lb false)
      (not_answer : (c : ℕ) → E c → reads c answer.atom ≡ false)
      (unset_test : (c : ℕ) → E c → Known program kernel here scope c →
      ((x : ℕ) → Has scope x → c ≡ here.base + x → at x ≡ true → ⊥) → sets_in c lt ≡ false)
      (unset_step : (c : ℕ) → E c → Known program kernel here scope c →
      ((x : ℕ) → Has scope x → c ≡ here.base + x → as_ x ≡ true → ⊥) → sets_in c ls ≡ false)
      (unset_body : (c : ℕ) → E c → Known program kernel here scope c →
      ((x : ℕ) → Has scope x → c ≡ here.base + x → ab x ≡ true → ⊥) → sets_in c lb ≡ false)
      (x_test : W → sets_in X lt ≡ false) (x_step : W → sets_in X ls ≡ false) (x_body : W → sets_in X lb ≡ false)
      (y_test : W' → sets_in Y lt ≡ false) (y_step : W' → sets_in Y ls ≡ false)
      (r_test : (t : IntType) → (function_at program fn).result ≡ Some t →
      sets_in here.answer lt ≡ false) (r_step : (t : IntType) → (function_at program fn).result ≡ Some t →
      sets_in here.answer ls ≡ false)
      (r_body : (t : IntType) → (function_at program fn).result ≡ Some t → rb ≡ false → sets_in here.answer lb ≡ false)
      (clash : (x : ℕ) → Has scope x → (Varies program (AVariable fn x) → ⊥) → (at x || (as_ x || ab x)) ≡ true →
      S × T) (clash_result : rb ≡ true → (Varies program (AResult fn) → ⊥) → S × T)
      (step_assigned : (x : ℕ) → as_ x ≡ true → some_assigns (function_at program fn).body x ≡ true)
      (cover : Covers program kernel one other fn calls here set S scope)
      (pend_y : Pending program kernel one other fn calls here set W' Y (next_cell mb))
      (pend_x : Pending program kernel one other fn calls here set W X (next_cell mb)) (apart_xy : W → W' →
      X ≡ Y → ⊥) where
    abbrev K : Cells → Cells → Type 0
    K p q = Outside program kernel one other fn calls here set W X p q

    -- behind the loop
    abbrev pub RoundEnds : Cells → Cells → Type 0
    RoundEnds a b = (S → T → W' → a Y ≡ b Y) × K a b

    known_here : (c : ℕ) → Known program kernel here scope c → c < next_cell mb
    known_here c kn = known_below program kernel here Size scope (next_cell mb) c within low kn

    -- a variable in scope that does not vary is set neither in the test nor in the step nor in the body
    none_assigned : (c : ℕ) → E c → ((S × T) → ⊥) → (x : ℕ) → Has scope x → c ≡ here.base + x →
        (at x || (as_ x || ab x)) ≡ true → ⊥
    none_assigned c e no_st x has ec asg = no_st (clash x has (λ v. set.marked x (within x has) (subst E ec e) v) asg)

    k_test : (p q m n : Cells) → Does one lt p m → Does other lt q n → K p q → K m n
    k_test p q m n d e k = outside_kept program kernel one other fn calls here set W X lt p q m n x_test r_test d e k

    k_step : (p q m n : Cells) → Does one ls p m → Does other ls q n → K p q → K m n
    k_step p q m n d e k = outside_kept program kernel one other fn calls here set W X ls p q m n x_step r_step d e k

    -- ---- no way out

    pub round_none : (site : ℕ) (first : Test) → (W' → ⊥) → (p q : Cells) →
        Equal E (λ c. live_in c (LoopThen site first lt answer.atom (joined_to lb ls) NoLine) (out c)) p q → K p q →
        Go out (LoopThen site first lt answer.atom (joined_to lb ls) NoLine) RoundEnds p q
    round_none site first no_way p q al k =
        let body = joined_to lb ls in
        let heads = tested lt answer.atom body out in
        let A : Cells → Cells → Type 0 = λ a b. (T → atom_value a answer.atom ≡ atom_value b answer.atom) × K a b in
        let quiet_all : (c : ℕ) → E c → IsApart c here scope → Quiet c body false =
        λ c e apart_. quiet_then c lb ls false false (quiet_body c e apart_) (λ z. quiet_step c e apart_) in
        let bound_heads = bound_tested lt answer.atom body scope out not_answer quiet_test quiet_all bound in
        let bound_test = bound_before program kernel here lt scope heads quiet_test bound_heads in
        let bound_body =
        bound_before program kernel here ls scope (λ c. live_in c lt (heads c)) quiet_step bound_test in
        let both_unset : (c : ℕ) → sets_in c lt ≡ false → sets_in c lb ≡ false → sets_in c ls ≡ false →
        (sets_in c lt || sets_in c body) ≡ false =
        λ c u v w. or_false (sets_in c lt) (sets_in c body) u
        (unset_then c lb ls (record { is = v }) (record { is = w })).is in
        together_loop E one other out site lt answer.atom body RoundEnds K K A
        (λ a b h al'. together_then E one other heads lt (λ x y. T →
        atom_value x answer.atom ≡ atom_value y answer.atom) A a b (go_test heads a b bound_heads al')
        (λ m n d e z t. (t, k_test a b m n d e h)))
        (λ a b h al'. together_seq E one other (λ c. live_in c lt (heads c)) lb ls K K a b al'
        (λ al1. together_then E one other (λ c. live_in c ls (live_in c lt (heads c))) lb (λ x y. (S → W' →
        x Y ≡ y Y) × Ans x y) K a b (go_body (λ c. live_in c ls (live_in c lt (heads c))) a b bound_body al1
        (λ w. absurd (no_way w)) h.1)
        (λ m n d e z t. (
          (λ w. kept one lb X (x_body w) a m d ∙ (h.0 w ∙ sym (kept other lb X (x_body w) b n e))),
          t.1,
        )))
        (λ m n d e al1 h1. together_then E one other (λ c. live_in c lt (heads c)) ls Anything K m n
        (go_step (λ c. live_in c lt (heads c)) m n bound_test al1) (λ m' n' d' e' z t.
        k_step m n m' n' d' e' h1)))
        (λ a b h x y. h.1)
        (λ a b h x y. ((λ s t w. absurd (no_way w)), h.1))
        (λ a b h df c e o. let kn = bound c e o in let no_st : (S × T) → ⊥ = λ st. df (h.0 st.1) in
        let off = none_assigned c e no_st in
        both_unset c (unset_test c e kn (λ x has ec z. off x has ec (or_left (at x) (as_ x || ab x) z)))
        (unset_body c e kn (λ x has ec z.
        off x has ec (or_right (at x) (as_ x || ab x) (or_right (as_ x) (ab x) z))))
        (unset_step c e kn (λ x has ec z. off x has ec (or_right (at x) (as_ x || ab x) (or_left (as_ x) (ab x) z)))))
        (λ a b m n h df u v. let no_st : (S × T) → ⊥ = λ st. df (h.0 st.1) in (
          (λ s t w. absurd (no_way w)),
          (
            (λ w. let z = both_unset X (x_test w) (x_body w) (x_step w) in u X z ∙ (h.1.0 w ∙ sym (v X z))),
            λ t s nv. elim (true_or_false rb) [
              | inl r ↦ absurd (no_st (clash_result r nv))
              | inr r ↦ let z = both_unset here.answer (r_test t s) (r_body t s r) (r_step t s) in u here.answer z ∙
                  (h.1.1 t s nv ∙ sym (v here.answer z))
            ],
          ),
        ))
        first p q al (λ e. k) (λ e. k)

    -- ---- a way out

    pub round_some : (site way : ℕ) (first : Test) → W' →
        Grown program kernel (round_code site first (Some way) Y lt answer ls lb mb).made → (p q : Cells) →
        Equal E (λ c. live_in c (round_code site first (Some way) Y lt answer ls lb mb).lines (out c)) p q →
        p Y ≡ q Y → K p q
        → Go out (round_code site first (Some way) Y lt answer ls lb mb).lines RoundEnds p q
    round_some site way first w' g p q al y0 k =
        let to = next_cell mb in
        let m1 = with_cell mb OfValue answer.of in
        let n1 = next_cell m1 in
        let cset = settled way Y m1 in
        let g1 : Grown program kernel m1 = back_value program kernel m1 Int g in
        let to_not = value_not_even program kernel mb answer.of g1 in
        let one_more = next_more mb OfValue answer.of in
        let y_low = pend_y.below w' in
        let y_not = pend_y.plain w' in
        let set_answer = set_to to answer.atom in
        let lines = joined_to lt set_answer in
        let branch = IfThen way (CellAtom Y) NoLine lines NoLine in
        let test' = SetThen to (Copy (Const (pos 0) answer.of)) branch in
        let gl = guarded_before way Y ls NoLine in
        let tail = joined_to cset.lines gl in
        let body' = joined_to lb tail in
        let heads = tested test' (CellAtom to) body' out in
        let H : Cells → Cells → Type 0 = λ a b. (S → W' → a Y ≡ b Y) × K a b in
        let B : Cells → Cells → Type 0 = λ a b. (W' → a Y ≡ b Y) × K a b in
        let AT : Cells → Cells → Type 0 = λ a b. H a b × (S → T → a to ≡ b to) in
        let Gone : Cells → Type 0 = λ a. is_zero (a to) ≡ false → is_zero (a Y) ≡ true in
        let A : Cells → Cells → Type 0 = λ a b. AT a b × (Gone a × Gone b) in
        -- what is live
        let q_lines : (c : ℕ) → E c → IsApart c here scope → Quiet c lines false =
        λ c e apart_. quiet_then c lt set_answer false false (quiet_test c e apart_)
        (λ z. quiet_less c set_answer _ (computed_quiet c to (Copy answer.atom) (not_answer c e))) in
        let q_branch : (c : ℕ) → E c → IsApart c here scope → Quiet c branch false =
        λ c e apart_. quiet_if_set c way (CellAtom Y) NoLine lines false
        (free_even program kernel one other fn calls here set Y c y_not e) (quiet_none c false refl)
        (q_lines c e apart_) in
        let q_test : (c : ℕ) → E c → IsApart c here scope → Quiet c test' false =
        λ c e apart_. quiet_set c to (Copy (Const (pos 0) answer.of)) branch false refl
        (λ z. q_branch c e apart_) in
        let q_guard : (c : ℕ) → E c → IsApart c here scope → Quiet c gl false =
        λ c e apart_. guarded_quiet c way Y ls NoLine (free_even program kernel one other fn calls here set Y c
        y_not e) (quiet_step c e apart_) (quiet_none c false refl) in
        let q_tail : (c : ℕ) → E c → IsApart c here scope → Quiet c tail false =
        λ c e apart_. settled_quiet program kernel one other fn calls here set c way Y m1 gl
        (free_even program kernel one other fn calls here set Y c y_not e) (q_guard c e apart_) in
        let q_body : (c : ℕ) → E c → IsApart c here scope → Quiet c body' false =
        λ c e apart_. quiet_then c lb tail false false (quiet_body c e apart_) (λ z. q_tail c e apart_) in
        let bound_heads = bound_tested test' (CellAtom to) body' scope out
        (λ c e. free_even program kernel one other fn calls here set to c to_not e) q_test q_body bound in
        let bound_test = bound_before program kernel here test' scope heads q_test bound_heads in
        let bound_set = bound_before program kernel here set_answer scope heads (λ c e apart_.
        quiet_less c set_answer _ (computed_quiet c to (Copy answer.atom) (not_answer c e))) bound_heads in
        let bound_guard =
        bound_before program kernel here gl scope (λ c. live_in c test' (heads c)) q_guard bound_test in
        let bound_tail =
        bound_before program kernel here tail scope (λ c. live_in c test' (heads c)) q_tail bound_test in
        -- what is not set
        let to_other : (c : ℕ) → c < to → nat_eq c to ≡ false = λ c l. apart_above c to l in
        let u_lines : (c : ℕ) → sets_in c lt ≡ false → c < to → sets_in c lines ≡ false =
        λ c u l. (unset_then c lt set_answer (record { is = u })
        (unset_set c to (Copy answer.atom) NoLine (to_other c l) (unset_none c))).is in
        let u_test : (c : ℕ) → sets_in c lt ≡ false → c < to → sets_in c test' ≡ false =
        λ c u l. (unset_set c to (Copy (Const (pos 0) answer.of)) branch (to_other c l)
        (unset_if c way (CellAtom Y) NoLine lines NoLine (unset_none c) (record { is = u_lines c u l })
        (unset_none c))).is in
        let u_settled : (c : ℕ) → nat_eq c Y ≡ false → c < to → Unset c cset.lines =
        λ c u l. unset_set c n1 _ _ (apart_above c n1 (omega (arith, l, one_more)))
        (unset_if c way _ _ NoLine NoLine (unset_set c Y _ NoLine u (unset_none c)) (unset_none c) (unset_none c))
        in
        let u_body : (c : ℕ) → sets_in c lb ≡ false → sets_in c ls ≡ false → nat_eq c Y ≡ false → c < to →
        sets_in c body' ≡ false =
        λ c u v y l. (unset_then c lb tail (record { is = u })
        (unset_then c cset.lines gl (u_settled c y l) (guarded_unset c way Y ls NoLine (record { is = v })
        (unset_none c)))).is in
        let u_loop : (c : ℕ) → sets_in c lt ≡ false → sets_in c lb ≡ false → sets_in c ls ≡ false →
        nat_eq c Y ≡ false → c < to → (sets_in c test' || sets_in c body') ≡ false =
        λ c t u v y l. or_false (sets_in c test') (sets_in c body') (u_test c t l) (u_body c u v y l) in
        let x_low : W → X < to = λ w. pend_x.below w in
        let r_low : (t : IntType) → (function_at program fn).result ≡ Some t → here.answer < to =
        λ t s. pend_x.result_below t s in
        let x_apart : W → nat_eq X Y ≡ false =
        λ w. apart_is program kernel one other fn calls here set X Y (apart_xy w w') in
        let r_apart : (t : IntType) → (function_at program fn).result ≡ Some t → nat_eq here.answer Y ≡ false =
        λ t s. apart_is program kernel one other fn calls here set here.answer Y
        (λ e. pend_y.no_result w' t s (sym e)) in
        -- what is put
        let k_put : (a b : Cells) (v z : ℤ) → K a b → K (put a to v) (put b to z) = λ a b v z h. (
          (λ w. let l = apart_below to X (x_low w) in put_other a to X v l ∙ (h.0 w ∙ sym (put_other b to X z l))),
          λ t s nv. let l = apart_below to here.answer (r_low t s) in put_other a to here.answer v l ∙
              (h.1 t s nv ∙ sym (put_other b to here.answer z l)),
        ) in
        let y_put : (a : Cells) (v : ℤ) → put a to v Y ≡ a Y = λ a v. put_other a to Y v (apart_below to Y y_low) in
        let gone : (who : Who) (a m : Cells) → is_zero (a to) ≡ true → Does who branch a m → Gone m =
        λ who a m z d nz. elim d.1 [
          | inl x ↦ absurd (let s : m to ≡ a to = ap (λ f. f to) (d.2 ∙ x.1) in
              let t : is_zero (m to) ≡ true = ap is_zero s ∙ z in let f : true ≡ false = sym t ∙ nz in cc)
          | inr x ↦ let s : m Y ≡ a Y =
              ap (λ f. f Y) d.2 ∙ kept who lines Y (u_lines Y (y_test w') y_low) a d.0 x.1 in ap is_zero s ∙ x.0
        ] in
        let tests : (a b : Cells) → H a b → Equal E (λ c. live_in c test' (heads c)) a b → Go heads test' A a b =
        λ a b h al'.
        set_then program kernel one other fn heads to (Copy (Const (pos 0) answer.of)) branch A a b to_not al'
        (λ al1. let a1 = put a to (pos 0) in
        let b1 = put b to (pos 0) in
        let h1 : H a1 b1 =
        ((λ s w. y_put a (pos 0) ∙ (h.0 s w ∙ sym (y_put b (pos 0)))), k_put a b (pos 0) (pos 0) h.1) in
        let zero_a : a1 to ≡ pos 0 = put_here a to to (pos 0) (same_self to) in
        let zero_b : b1 to ≡ pos 0 = put_here b to to (pos 0) (same_self to) in
        together_then E one other heads branch AT A a1 b1
        (together_if E one other heads way (CellAtom Y) NoLine lines AT a1 b1 al1
        (λ x y al2. (al2, (h1, (λ s t. zero_a ∙ sym zero_b))))
        (λ x y al2. together_seq E one other heads lt set_answer (λ c d. T →
        atom_value c answer.atom ≡ atom_value d answer.atom) AT a1 b1 al2
        (λ al3. go_test (λ c. live_in c set_answer (heads c)) a1 b1 bound_set al3)
        (λ m n d e al3 same. together_set E one other heads to (Copy answer.atom) AT m n al3
        (λ ev l. absurd (to_not ev)) (
          (
            (λ s w. y_put m (atom_value m answer.atom) ∙
                (kept one lt Y (y_test w') a1 m d ∙
                (zero_is (a1 Y) x ∙ sym (zero_is (b1 Y) y) ∙ sym (kept other lt Y (y_test w') b1 n e))) ∙
                sym (y_put n (atom_value n answer.atom))),
            k_put m n (atom_value m answer.atom) (atom_value n answer.atom) (k_test a1 b1 m n d e h1.1),
          ),
          (λ s t. put_here m to to (atom_value m answer.atom) (same_self to) ∙
              (same t ∙ sym (put_here n to to (atom_value n answer.atom) (same_self to)))),
        )))
        (λ df c e o. let kn = bound_heads c e o in
        u_lines c (unset_test c e kn (λ x has ec z.
        df (h1.0 (clash x has (λ v. set.marked x (within x has) (subst E ec e) v)
        (or_left (at x) (as_ x || ab x) z)).0 w'))) (known_here c kn))
        (λ df m n x y. (
          (
            (λ s w. absurd (df (h1.0 s w'))),
            (
              (λ w. let u = u_lines X (x_test w) (x_low w) in branch_kept one (CellAtom Y) NoLine lines a1 m X x u ∙
                  (h1.1.0 w ∙ sym (branch_kept other (CellAtom Y) NoLine lines b1 n X y u))),
              λ t s nv. let u = u_lines here.answer (r_test t s) (r_low t s) in
                  branch_kept one (CellAtom Y) NoLine lines a1 m here.answer x u ∙
                  (h1.1.1 t s nv ∙ sym (branch_kept other (CellAtom Y) NoLine lines b1 n here.answer y u)),
            ),
          ),
          (λ s t. absurd (df (h1.0 s w'))),
        )))
        (λ m n d e z at_. (at_, (gone one a1 m (ap is_zero zero_a) d, gone other b1 n (ap is_zero zero_b) e)))) in
        let bodies : (a b : Cells) → B a b → Equal E (λ c. live_in c body' (live_in c test' (heads c))) a b →
        Go (λ c. live_in c test' (heads c)) body' H a b = λ a b h al'.
        together_seq E one other (λ c. live_in c test' (heads c)) lb tail H H a b al'
        (λ al1. together_then E one other (λ c. live_in c tail (live_in c test' (heads c))) lb (λ x y. (S → W' →
        x Y ≡ y Y) × Ans x y) H a b (go_body (λ c. live_in c tail (live_in c test' (heads c))) a b
        bound_tail al1 h.0 h.1.1)
        (λ m n d e z t. (
          t.0,
          (
            (λ w. kept one lb X (x_body w) a m d ∙
                (h.1.0 w ∙ sym (kept other lb X (x_body w) b n e))),
            t.1,
          ),
        )))
        (λ m n d e al1 h1. together_seq E one other (λ c. live_in c test' (heads c)) cset.lines gl H H m n al1
        (λ al2. together_then E one other (λ c. live_in c gl (live_in c test' (heads c))) cset.lines (λ x y. S →
        x Y ≡ y Y) H m n
        (settled_together program kernel one other fn calls here set S way Y m1
        (λ c. live_in c gl (live_in c test' (heads c))) m n g y_not (omega (arith, y_low, one_more)) al2
        (λ s. h1.0 s w'))
        (λ m' n' d' e' z t. (
          (λ s w. t s),
          outside_kept program kernel one other fn calls here set W X cset.lines m n m' n'
              (λ w. (u_settled X (x_apart w) (x_low w)).is)
              (λ t s. (u_settled here.answer (r_apart t s) (r_low t s)).is) d' e' h1.1,
        )))
        (λ m' n' d' e' al2 h2. together_then E one other (λ c. live_in c test' (heads c)) gl (λ x y. (S → W' →
        x Y ≡ y Y) × Ans x y) H m' n'
        (guarded_together program kernel one other fn calls here set W' Y scope way ls NoLine as_ false S (Unit {0})
        (λ c. live_in c test' (heads c)) (λ x y. (S → W' → x Y ≡ y Y) × Ans x y) w' bound_test within
        step_assigned (λ f. absurd (cc f)) cover
        (λ c e kn off. unset_step c e kn off) (λ t s f. r_step t s)
        (λ x y al3 ex an. together_then E one other (λ c. live_in c test' (heads c)) ls Anything (λ x' y'. (Unit {0} →
        W' → x' Y ≡ y' Y) × Ans x' y') x y (go_step (λ c. live_in c test' (heads c)) x y bound_test al3)
        (λ x' y' d2 e2 z t. (
          (λ u w. kept one ls Y (y_step w) x x' d2 ∙
              (ex w ∙ sym (kept other ls Y (y_step w) y y' e2))),
          (λ t s nv. kept one ls here.answer (r_step t s) x x' d2 ∙
              (an t s nv ∙ sym (kept other ls here.answer (r_step t s) y y' e2))),
        )))
        (λ x y al3 ex an. (al3, ((λ s. ex s tt), an))) m' n' al2 h2.0 h2.1.1)
        (λ x y d2 e2 z t. (
          t.0,
          (
            (λ w. let u = (guarded_unset X way Y ls NoLine (record { is = x_step w }) (unset_none X)).is in
                kept one gl X u m' x d2 ∙ (h2.1.0 w ∙ sym (kept other gl X u n' y e2))),
            t.1,
          ),
        )))) in
        together_loop E one other out site test' (CellAtom to) body' RoundEnds H B A tests bodies
        (λ a b h x y. ((λ w. zero_is (a Y) (h.1.0 x) ∙ sym (zero_is (b Y) (h.1.1 y))), h.0.0.1))
        (λ a b h x y. ((λ s t w. h.0.0.0 s w), h.0.0.1))
        (λ a b h df c e o. let kn = bound c e o in
        let no_st : (S × T) → ⊥ = λ st. df (h.0.1 st.0 st.1) in
        let off = none_assigned c e no_st in
        u_loop c (unset_test c e kn (λ x has ec z. off x has ec (or_left (at x) (as_ x || ab x) z)))
        (unset_body c e kn (λ x has ec z.
        off x has ec (or_right (at x) (as_ x || ab x) (or_right (as_ x) (ab x) z))))
        (unset_step c e kn (λ x has ec z. off x has ec (or_right (at x) (as_ x || ab x) (or_left (as_ x) (ab x) z))))
        (free_even program kernel one other fn calls here set Y c y_not e) (known_here c kn))
        (λ a b m n h df u v. let no_st : (S × T) → ⊥ = λ st. df (h.0.1 st.0 st.1) in (
          (λ s t w. absurd (no_st (s, t))),
          (
            (λ w. let z = u_loop X (x_test w) (x_body w) (x_step w) (x_apart w) (x_low w) in
                u X z ∙ (h.0.0.1.0 w ∙ sym (v X z))),
            λ t s nv. elim (true_or_false rb) [
              | inl r ↦ absurd (no_st (clash_result r nv))
              | inr r ↦ let z = u_loop here.answer (r_test t s) (r_body t s r) (r_step t s) (r_apart t s)
                  (r_low t s) in u here.answer z ∙ (h.0.0.1.1 t s nv ∙ sym (v here.answer z))
            ],
          ),
        ))
        first p q al (λ e. ((λ s w. y0), k)) (λ e. ((λ w. y0), k))

    -- either
    pub round_together : (site : ℕ) (first : Test) (way : Option ℕ) → ((s : ℕ) → way ≡ Some s → W') →
        (way ≡ None → W' → ⊥) → Grown program kernel (round_code site first way Y lt answer ls lb mb).made →
        (p q : Cells)
        → Equal E (λ c. live_in c (round_code site first way Y lt answer ls lb mb).lines (out c)) p q →
        (W' → p Y ≡ q Y) → K p q → Go out (round_code site first way Y lt answer ls lb mb).lines RoundEnds p q
    round_together site first None some_ none_ g p q al y0 k = round_none site first (none_ refl) p q al k
    round_together site first (Some way) some_ none_ g p q al y0 k = let w =
        some_ way refl in round_some site way first w g p q al (y0 w) k
