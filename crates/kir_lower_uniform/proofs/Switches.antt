-- Both go together through a switch, given that they do so through its arms.
use Rattle.std.proofs.Common.{◌≡◌, ℕ, ◌+◌, ◌<◌, ◌≤◌, pos, length, Option, Some, None, refl, sym, ap, ◌∙◌, arith, inl}
use Rattle.std.proofs.Common.{inr}
use Rattle.std.proofs.Common.{Bool as Test, true, false}
use Rattle.std.specs.Prelude.{nat_eq}
use Rattle.std.proofs.lemmas.Option.{none-some}
use Rattle.wg_num.specs.declared.types.IntType.{IntType}
use Rattle.cl_model.specs.Tree.{Expression, Switch, Arms, Program, Function}
use Rattle.cl_model.specs.Calls.{function_at}
use Rattle.cl_model.specs.Values.{is_zero}
use Rattle.cl_model.specs.Valid.{Scope, StatementFits, promoted}
use Rattle.cl_model.specs.Varying.{assigns_in, conditions_in, conditions_of_arms}
use Rattle.kir.specs.Tree.{Lines, joined_to, OfValue, Kernel}
use Rattle.kir.specs.Live.{reads, live_in}
use Rattle.kir.specs.Steps.{atom_value}
use Rattle.kir_lower.specs.Made.{Made, Instance, next_cell, with_cell, int}
use Rattle.kir_lower.specs.Ways.{way_out_of_arms}
use Rattle.kir_lower.specs.Actions.{Code, Steps, Opened, opened, outward, selected}
use Rattle.kir_lower.specs.Code.{Calls, expression_code, arms_code}
use Rattle.kir_uniform.specs.Uniform.{sets_in}
use Rattle.kir_uniform.specs.Does.{Cells, Who, Does}
use Rattle.kir_uniform.proofs.Alike.{same_self, put_here, kept}
use Rattle.diverge_sound.proofs.Parts.{good_switch, switch_condition, in_right}
use Rattle.diverge_sound.proofs.Values.{InBody, UnderBody, BackBody}
use Rattle.kir_lower_shape.proofs.Quiet.{Quiet, quiet_then}
use Rattle.kir_lower_shape.proofs.Steps.{IsApart, IsFree, opened_quiet, outward_quiet, selected_quiet}
use Rattle.kir_lower_shape.proofs.AbsentCode.{expression_up, opened_up, arms_up}
use Rattle.kir_lower_shape.proofs.Across.{out_below}
use Rattle.kir_lower_shape.proofs.Anew.{arms_quiet}
use Rattle.kir_lower_uniform.specs.Together.{Equal, Together}
use Rattle.kir_lower_uniform.proofs.Rules.{together_seq}
use Rattle.kir_lower_uniform.proofs.UnsetSteps.{opened_unset, selected_unset}
use Rattle.kir_lower_uniform.proofs.UnsetCode.{expression_unset, selected_up}
use Rattle.kir_lower_uniform.proofs.Ground.{Even, Grown, outward_back, arms_back, selected_back, opened_back}
use Rattle.kir_lower_uniform.proofs.Fresh.{atom_not_read, atom_kept, expression_in}
use Rattle.kir_lower_uniform.proofs.Setting.{Setting, Bound, bound_before, ScopeWithin}
use Rattle.kir_lower_uniform.proofs.Acts.{V}
use Rattle.kir_lower_uniform.proofs.Evaluated.{off_above, ValueEqual, expression_together}
use Rattle.kir_lower_uniform.proofs.Scopes.{way_exits_arms, more_ways_arms}
use Rattle.kir_lower_uniform.proofs.Guards.{AnswerEqual, Settled, ArmsSettled}
use Rattle.kir_lower_uniform.proofs.Exits.{IsSome, Pending, pending_more, pending_opened, free_even, apart_is, Outside}
use Rattle.kir_lower_uniform.proofs.Exits.{outside_kept, opened_together, outward_together}
use Rattle.kir_lower_uniform.proofs.Arms.{selected_together}
use Rattle.kir_lower_uniform.proofs.Entries.{ArmEqual}
use Rattle.kir_lower_uniform.proofs.Loops.{GR, StatementGo}
use Rattle.kir_lower_uniform.proofs.Parts.{arms_settled}

-- the cell of a construct is 0 behind its line
opened_zero : (who : Who) (way : Option ℕ) (exit : ℕ) (m : Made) (p a : Cells) →
    Does who (opened way exit m).lines p a → IsSome way → a (opened way exit m).exit ≡ pos 0
opened_zero who None exit m p a d k = absurd (none-some k.0 k.1)
opened_zero who (Some site) exit m p a d k =
    ap (λ f. f (next_cell m)) d ∙ put_here p (next_cell m) (next_cell m) (pos 0) (same_self (next_cell m))

module _ (program : Program) (kernel : Kernel) (one other : Who) (fn : ℕ) (calls : Calls) (here : Instance)
    (set : Setting program kernel one other fn calls here) where
  abbrev F : Function
  F = function_at program fn

  abbrev Size : ℕ
  Size = length (function_at program fn).variables

  abbrev E : ℕ → Type 0
  E = Even program kernel

  abbrev Go : (ℕ → Test) → Lines → (Cells → Cells → Type 0) → Cells → Cells → Type 0
  Go out lines Q p q = Together (Even program kernel) one other out lines Q p q

  abbrev Ans : Cells → Cells → Type 0
  Ans p q = AnswerEqual program kernel one other fn calls here set p q

  module _ (W : Type 0) (exit site : ℕ) (value : Expression) (arms : Arms) (scope : Scope) (m : Made) where
    abbrev pub Cv : Code
    Cv = expression_code calls here value m

    abbrev pub Co : Opened
    Co = opened (way_out_of_arms true true arms) exit Cv.made

    abbrev pub Cs : Code
    Cs = selected site Cv.value arms Co.made

    abbrev pub Ca : Steps
    Ca = arms_code calls here Co.exit site Cs.value.atom (int (pos 0)) 0 arms Cs.made

    abbrev pub Cw : Steps
    Cw = outward (way_out_of_arms false true arms) Co.exit exit Ca.made

    abbrev pub ChosenCell : ℕ
    ChosenCell = next_cell (with_cell Co.made OfValue (promoted Cv.value.of))

    -- both go together through the arms
    abbrev pub ArmsGo : Type 0
    ArmsGo =
        (out : ℕ → Test) (p q : Cells) → Bound program kernel here scope out →
        Equal (Even program kernel) (λ c. live_in c Ca.lines (out c)) p q
        → ArmEqual program kernel one other fn calls here set (IsSome (way_out_of_arms true true arms)) Co.exit
        ChosenCell (V program kernel one other fn value → ⊥) (Unit {0}) 0 (int (pos 0)) p q
        → Together (Even program kernel) one other out Ca.lines (λ a b. (Unit {0} →
        ArmsSettled program kernel one other fn calls here set scope arms →
        (V program kernel one other fn value → ⊥) → IsSome (way_out_of_arms true true arms) →
        a Co.exit ≡ b Co.exit)
        × AnswerEqual program kernel one other fn calls here set a b) p q

    pub switch_together : StatementFits program F (Switch site value arms) →
        GR program kernel one other fn calls here set scope (Switch site value arms) →
        ScopeWithin program kernel here Size scope → here.base + Size ≤ next_cell m
        → Pending program kernel one other fn calls here set W exit (next_cell m) →
        ((s : ℕ) → way_out_of_arms false true arms ≡ Some s → W) → Grown program kernel Cw.made
        → (unset_arms : (c : ℕ) → here.base + Size ≤ c → c < next_cell m →
        ((s : ℕ) → way_out_of_arms true true arms ≡ Some s → nat_eq c Co.exit ≡ false) →
        ((t : IntType) → F.result ≡ Some t → nat_eq c here.answer ≡ false) → sets_in c Ca.lines ≡ false)
        → ArmsGo → StatementGo program kernel one other fn calls here set W exit scope (Switch site value arms)
        (joined_to Cv.lines (joined_to Co.lines (joined_to Cs.lines (joined_to Ca.lines Cw.lines))))
    switch_together fits good within low pend opens grown unset_arms go_arms out p q bound al x0 ans =
        let way = way_out_of_arms true true arms in
        let ga = outward_back program kernel (way_out_of_arms false true arms) Co.exit exit Ca.made grown in
        let gs =
        arms_back program kernel calls set.back here Co.exit site Cs.value.atom (int (pos 0)) 0 arms Cs.made ga in
        let go_ = selected_back program kernel site Cv.value arms Co.made gs in
        let gv = opened_back program kernel way exit Cv.made go_ in
        let a = expression_up calls set.up here value m in
        let b = opened_up way exit Cv.made in
        let d = selected_up site Cv.value arms Co.made in
        let e = arms_up calls set.up here Co.exit site Cs.value.atom (int (pos 0)) 0 arms Cs.made in
        let k =
        good_switch (InBody program fn) (UnderBody program fn) (BackBody program fn) scope site value arms good in
        let pend_v =
        pending_more program kernel one other fn calls here set W exit (next_cell m) (next_cell Cv.made) a pend in
        let pend_o = pending_opened program kernel one other fn calls here set W exit way Cv.made (omega (
          arith,
          low,
          a,
        )) go_ pend_v in
        let W' = IsSome way in
        let R = V program kernel one other fn value → ⊥ in
        let value_in = expression_in program kernel calls set.up set.back here set.fresh value m gv in
        let K : Cells → Cells → Type 0 = λ x y. Outside program kernel one other fn calls here set W exit x y in
        let Q : Cells → Cells → Type 0 =
        λ x y. (Settled program kernel one other fn calls here set scope (Switch site value arms) → W →
        x exit ≡ y exit) × Ans x y in
        let t4 = Cw.lines in
        let t3 = joined_to Ca.lines t4 in
        let t2 = joined_to Cs.lines t3 in
        let t1 = joined_to Co.lines t2 in
        let not_value : (c : ℕ) → E c → reads c Cv.value.atom ≡ false =
        λ c ev. atom_not_read program kernel (next_cell m) (next_cell Cv.made) Cv.value.atom c value_in ev in
        let free_y : (c : ℕ) → E c → IsFree c Co.exit way =
        λ c ev s w. free_even program kernel one other fn calls here set Co.exit c (pend_o.plain (s, w)) ev in
        let free_out : (c : ℕ) → E c → IsFree c Co.exit (way_out_of_arms false true arms) =
        λ c ev s w. free_even program kernel one other fn calls here set Co.exit c
        (pend_o.plain (more_ways_arms arms s w)) ev in
        let q4 : (c : ℕ) → E c → IsApart c here scope → Quiet c t4 false =
        λ c ev ap_. outward_quiet c (way_out_of_arms false true arms) Co.exit exit Ca.made (free_out c ev) in
        let q3 : (c : ℕ) → E c → reads c Cs.value.atom ≡ false → IsApart c here scope → Quiet c t3 false =
        λ c ev r ap_. quiet_then c Ca.lines t4 false false (arms_quiet program c calls (set.quiet c) F here Co.exit
        site Cs.value.atom (int (pos 0)) 0 arms scope fits.3 good.names.1 ap_ (free_y c ev) r refl Cs.made)
        (λ z. q4 c ev ap_) in
        let q2 : (c : ℕ) → E c → IsApart c here scope → Quiet c t2 false =
        λ c ev ap_. quiet_then c Cs.lines t3 (reads c Cs.value.atom) false
        (selected_quiet c site Cv.value arms Co.made (not_value c ev)) (λ r. q3 c ev r ap_) in
        let q1 : (c : ℕ) → E c → IsApart c here scope → Quiet c t1 false =
        λ c ev ap_. opened_quiet c way exit Cv.made t2 false (λ f. q2 c ev ap_) in
        let bound4 = bound_before program kernel here t4 scope out q4 bound in
        let kept_value : (c : ℕ) → here.base + Size ≤ c → c < next_cell m → sets_in c Cv.lines ≡ false =
        λ c l u. (expression_unset program c calls set.up (set.unset c) F here value fits.0.0 fits.0.1
        (off_above c Size here (assigns_in value) l) m (out_below c _ _ u)).is in
        let kept_opened : (c : ℕ) → c < next_cell m → sets_in c Co.lines ≡ false =
        λ c u. (opened_unset c way exit Cv.made (out_below c _ _ (omega (arith, u, a)))).is in
        let kept_selected : (c : ℕ) → c < next_cell Co.made → sets_in c Cs.lines ≡ false =
        λ c u. (selected_unset c site Cv.value arms Co.made (out_below c _ _ u)).is in
        let answer_above : here.base + Size ≤ here.answer = let z = set.answer_is in omega (arith, z) in
        together_seq E one other out Cv.lines t1 (λ x y. ValueEqual program kernel one other fn calls here set value
        Cv.value.atom x y) Q p q al
        (λ al'. expression_together program kernel one other fn calls here set value fits.0.0 scope m
        (λ c. live_in c t1 (out c)) p q fits.0.1 k.1 within low gv
        (bound_before program kernel here t1 scope out q1 bound) al')
        (λ a1 b1 d1 e1 al1 s1.
        let k1 = outside_kept program kernel one other fn calls here set W exit Cv.lines p q a1 b1
        (λ w. kept_value exit (pend.above w) (pend.below w))
        (λ t r. kept_value here.answer answer_above (pend.result_below t r)) d1 e1 (x0, ans) in
        together_seq E one other out Co.lines t2 (λ x y. W' →
        x Co.exit ≡ y Co.exit) Q a1 b1 al1 (λ al'. opened_together program kernel one other fn calls here set
        way exit Cv.made (λ c. live_in c t2 (out c)) a1 b1 go_ al')
        (λ a2 b2 d2 e2 al2 s2.
        let k2 = outside_kept program kernel one other fn calls here set W exit Co.lines a1 b1 a2 b2
        (λ w. kept_opened exit (pend.below w)) (λ t r. kept_opened here.answer (pend.result_below t r)) d2 e2 k1 in
        let un_value : (c : ℕ) → next_cell m ≤ c → c < next_cell Cv.made → sets_in c Co.lines ≡ false =
        λ c l u. (opened_unset c way exit Cv.made (out_below c _ _ u)).is in
        let v2 : R → atom_value a2 Cv.value.atom ≡ atom_value b2 Cv.value.atom =
        λ r. atom_kept program kernel one Co.lines (next_cell m) (next_cell Cv.made) Cv.value.atom a1 a2 value_in
        un_value d2 ∙ (s1 r ∙ sym (atom_kept program kernel other Co.lines (next_cell m) (next_cell Cv.made)
        Cv.value.atom b1 b2 value_in un_value e2)) in
        together_seq E one other out Cs.lines t3 (λ x y. R → atom_value x Cs.value.atom ≡ atom_value y Cs.value.atom)
        Q a2 b2 al2 (λ al'. selected_together program kernel one other fn calls here set R site Cv.value arms
        Co.made (λ c. live_in c t3 (out c)) a2 b2 gs al' v2)
        (λ a3 b3 d3 e3 al3 s3.
        let k3 = outside_kept program kernel one other fn calls here set W exit Cs.lines a2 b2 a3 b3
        (λ w. kept_selected exit (let z = pend.below w in omega (arith, z, a, b)))
        (λ t r. kept_selected here.answer (let z = pend.result_below t r in omega (arith, z, a, b))) d3 e3 k2 in
        let za : W' → a3 Co.exit ≡ pos 0 =
        λ w. kept one Cs.lines Co.exit (kept_selected Co.exit (pend_o.below w)) a2 a3 d3 ∙
        opened_zero one way exit Cv.made a1 a2 d2 w in
        let zb : W' → b3 Co.exit ≡ pos 0 =
        λ w. kept other Cs.lines Co.exit (kept_selected Co.exit (pend_o.below w)) b2 b3 e3 ∙
        opened_zero other way exit Cv.made b1 b2 e2 w in
        together_seq E one other out Ca.lines t4 (λ x y. (Unit {0} →
        ArmsSettled program kernel one other fn calls here set scope arms → R → W' → x Co.exit ≡ y Co.exit) ×
        Ans x y) Q a3 b3 al3
        (λ al'. go_arms (λ c. live_in c t4 (out c)) a3 b3 bound4 al' (record {
          chosen = s3;
          fallen = λ c r. refl;
          exit = λ c r w. za w ∙ sym (zb w);
          answer = k3.1;
          first = λ w. (inr (refl, ap is_zero (za w)), λ n. ap is_zero (za w));
          second = λ w. (inr (refl, ap is_zero (zb w)), λ n. ap is_zero (zb w));
        }))
        (λ a4 b4 d4 e4 al4 s4.
        let ux : W → sets_in exit Ca.lines ≡ false =
        λ w. unset_arms exit (pend.above w) (pend.below w) (λ s q'. apart_is program kernel one other fn calls
        here set exit Co.exit (λ z. opened_apart way exit Cv.made s q' (let y = pend.below w in
        omega (arith, y, a)) z))
        (λ t r. apart_is program kernel one other fn calls here set exit here.answer (pend.no_result w t r)) in
        let k4 : W → a4 exit ≡ b4 exit =
        λ w. kept one Ca.lines exit (ux w) a3 a4 d4 ∙ (k3.0 w ∙ sym (kept other Ca.lines exit (ux w) b3 b4 e4)) in
        outward_together program kernel one other fn calls here set W (Settled program kernel one other fn calls here
        set scope (Switch site value arms)) (way_out_of_arms false true arms) Co.exit exit Ca.made out a4 b4
        grown opens
        (pending_more program kernel one other fn calls here set W exit (next_cell m) (next_cell Ca.made)
        (omega (arith, a, b, d, e)) pend) (λ s w. let z = pend_o.below (more_ways_arms arms s w) in
        omega (arith, z, d, e)) al4
        (λ s w st. s4.0 tt (arms_settled program kernel one other fn calls here set arms scope
        (λ c i x v. st s w c (inr (in_right (conditions_in scope value) (conditions_of_arms scope arms) c i))
        x v))
        (λ v. st s w (switch_condition scope value arms) (inl refl) (way_exits_arms false true arms s w) v)
        (more_ways_arms arms s w)) (k4, s4.1)))))
      where
        opened_apart : (w : Option ℕ) (x : ℕ) (n : Made) (s : ℕ) → w ≡ Some s → x < next_cell n →
            x ≡ (opened w x n).exit → ⊥
        opened_apart None x n s q' l z = absurd (none-some s q')
        opened_apart (Some t) x n s q' l z = omega (arith, l, z)
