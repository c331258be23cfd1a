-- Both go together through an expression, and its value is equal where it does not vary.
use Rattle.std.proofs.Common.{◌≡◌, ℕ, zero, suc, ◌+◌, ◌<◌, ◌≤◌, List, [], ◌∷◌, length, Option, Some, None, slice_get}
use Rattle.std.proofs.Common.{refl, sym, ◌∙◌, subst, arith, inl, inr, if◌then◌else◌}
use Rattle.std.proofs.Common.{Bool as Test, true, false}
use Rattle.std.specs.Prelude.{nat_eq, ◌||◌}
use Rattle.std.proofs.lemmas.Bool.{or_left, or_right}
use Rattle.std.proofs.lemmas.Option.{none-some, same_Some}
use Rattle.wg_num.specs.declared.types.IntType.{IntType}
use Rattle.cl_model.specs.declared.program.Root.{Root}
use Rattle.cl_model.specs.Tree.{Expression, Apply, Update, Choose, Call, Expressions, none, more, Program, Function}
use Rattle.cl_model.specs.Calls.{function_at}
use Rattle.cl_model.specs.Valid.{Scope, Has, HasType, HaveTypes, OptionalFits, IsPlainCall, parameter_kinds}
use Rattle.cl_model.specs.Valid.{binary_type}
use Rattle.cl_model.specs.Varying.{assigns_in, assigns_among, IsNth, AResult, Varies, updated, tested, chosen}
use Rattle.cl_model.specs.Varying.{otherwise, called, passed, assigned_under}
use Rattle.kir.specs.declared.line.Atom.{Atom}
use Rattle.kir.specs.declared.line.Atom.TheVariants.{Cell as CellAtom}
use Rattle.kir.specs.Tree.{Copy, Lines, NoLine, LoadThen, IfThen, joined_to, OfValue, Kernel}
use Rattle.kir.specs.Live.{reads, live_in}
use Rattle.kir.specs.Steps.{atom_value}
use Rattle.kir_lower.specs.declared.places.Value.{Value}
use Rattle.kir_lower.specs.Made.{Made, Instance, next_cell, with_cell, root_in, argument_roots}
use Rattle.kir_lower.specs.Actions.{changed, set_to, stored, action_code}
use Rattle.kir_lower.specs.Code.{Calls, expression_code, operands_code, optional_code}
use Rattle.kir_uniform.specs.Uniform.{sets_in}
use Rattle.kir_uniform.specs.Does.{Cells, Who}
use Rattle.kir_uniform.proofs.Living.{true_or_false}
use Rattle.kir_uniform.proofs.Alike.{same_self, same_number, put_here}
use Rattle.diverge_sound.proofs.Parts.{Good, GoodAll, GoodOptional, good_apply, good_more, good_update, good_choose}
use Rattle.diverge_sound.proofs.Parts.{good_call}
use Rattle.diverge_sound.proofs.Values.{InBody, UnderBody, BackBody}
use Rattle.kir_lower_shape.proofs.Quiet.{Quiet, or_false, quiet_none, quiet_less, quiet_then, quiet_load, quiet_store}
use Rattle.kir_lower_shape.proofs.Quiet.{quiet_if_set}
use Rattle.kir_lower_shape.proofs.Steps.{IsApart, computed_quiet, changed_quiet, action_quiet}
use Rattle.kir_lower_shape.proofs.Scoped.{argument_count}
use Rattle.kir_lower_shape.proofs.Absent.{next_more}
use Rattle.kir_lower_shape.proofs.AbsentCode.{expression_up, operands_up}
use Rattle.kir_lower_shape.proofs.Across.{out_below}
use Rattle.kir_lower_shape.proofs.Anew.{expression_quiet, operands_quiet}
use Rattle.kir_lower_uniform.specs.Together.{Equal, Anything, Together}
use Rattle.kir_lower_uniform.proofs.Places.{together_then}
use Rattle.kir_lower_uniform.proofs.Rules.{together_seq, together_set, together_load, together_store, together_if}
use Rattle.kir_lower_uniform.proofs.UnsetSteps.{unset_none, unset_then, unset_set}
use Rattle.kir_lower_uniform.proofs.UnsetCode.{Off, operand_count, expression_unset, operands_unset}
use Rattle.kir_lower_uniform.proofs.Ground.{Even, Grown, value_not_even, back_value, action_back, expression_back}
use Rattle.kir_lower_uniform.proofs.Ground.{operands_back}
use Rattle.kir_lower_uniform.proofs.Fresh.{AtomIn, atom_not_read, values_not_read, atom_kept, expression_in}
use Rattle.kir_lower_uniform.proofs.Fresh.{operands_in}
use Rattle.kir_lower_uniform.proofs.Setting.{ArgumentsEqual, Setting, Known, Bound, bound_before, ScopeWithin}
use Rattle.kir_lower_uniform.proofs.Setting.{known_below}
use Rattle.kir_lower_uniform.proofs.Acts.{V, Same, changed_together, action_together}

-- a cell behind all variables is none of them
pub off_above : (c size : ℕ) (here : Instance) (a : ℕ → Test) → here.base + size ≤ c → Off c here size a
off_above c size here a le x less e = absurd (let s = same_number c (here.base + x) e in omega (arith, s, less, le))

module _ (program : Program) (kernel : Kernel) (one other : Who) (fn : ℕ) (calls : Calls) (here : Instance)
    (set : Setting program kernel one other fn calls here) where
  abbrev F : Function
  F = function_at program fn

  abbrev Size : ℕ
  Size = length (function_at program fn).variables

  abbrev E : ℕ → Type 0
  E = Even program kernel

  abbrev Go : (ℕ → Test) → Lines → (Cells → Cells → Type 0) → Cells → Cells → Type 0
  Go out lines Q p q = Together (Even program kernel) one other out lines Q p q

  abbrev pub GE : Scope → Expression → Type 0
  GE scope e = Good (InBody program fn) (UnderBody program fn) (BackBody program fn) scope e

  abbrev pub GA : Scope → Expressions → Type 0
  GA scope es = GoodAll (InBody program fn) (UnderBody program fn) (BackBody program fn) scope es

  -- equal where the expression does not vary
  abbrev pub ValueEqual : Expression → Atom → Cells → Cells → Type 0
  ValueEqual e x p q = (V program kernel one other fn e → ⊥) → atom_value p x ≡ atom_value q x

  -- what is so of no variable in scope is so of no cell that is known
  pub off_known : (scope : Scope) (c : ℕ) (a : ℕ → Test) → Known program kernel here scope c →
      ((x : ℕ) → Has scope x → c ≡ here.base + x → a x ≡ true → ⊥) → Off c here Size a
  off_known scope c a (inl k) h x less e =
      let s = same_number c (here.base + x) e in
      let r = k.2 in
      let t : k.0 ≡ x = omega (arith, s, r) in
      elim (true_or_false (a x)) [ inl z ↦ absurd (h x (subst (Has scope) t k.1) s z) | inr z ↦ z ]
  off_known scope c a (inr k) h x less e = absurd (let s = same_number c (here.base + x) e in omega (arith, s, k))

  same_nth : (es : Expressions) (values : List Value) (p q : Cells) → Same program kernel one other fn es values p q →
      (n : ℕ) (v : Value) → slice_get values n ≡ Some v → (e : Expression) × IsNth es n e × ValueEqual e v.atom p q
  same_nth none [] p q s n v at = absurd (none-some v at)
  same_nth none (w ∷ values) p q s n v at = absurd s
  same_nth (more e rest) [] p q s n v at = absurd (none-some v at)
  same_nth (more e rest) (w ∷ values) p q s zero v at =
      (e, refl, λ nv. subst (λ (z : Value). atom_value p z.atom ≡ atom_value q z.atom) (same_Some w v at) (s.0 nv))
  same_nth (more e rest) (w ∷ values) p q s (suc n) v at = same_nth rest values p q s.1 n v at

  -- arguments are equal where the parameters do not vary
  arguments_equal : (site g : ℕ) (roots : List (Option Root)) (es : Expressions) (values : List Value) (p q : Cells) →
      InBody program fn (Call site g roots es) → Same program kernel one other fn es values p q →
      ArgumentsEqual program kernel one other g values p q
  arguments_equal site g roots es values p q i s n v at nv = let k =
      same_nth es values p q s n v at in k.2 (λ w. nv (passed site roots es (set.not_kernel site g roots es i) i k.1 w))

  mutual
    unfolding expression_code

    pub expression_together : (e : Expression) (t : IntType) (scope : Scope) (m : Made) (out : ℕ →
        Test) (p q : Cells) → HasType program F e t → GE scope e → ScopeWithin program kernel here Size scope →
        here.base + Size ≤ next_cell m
        → Grown program kernel (expression_code calls here e m).made → Bound program kernel here scope out →
        Equal E (λ c. live_in c (expression_code calls here e m).lines (out c)) p q
        → Go out (expression_code calls here e m).lines
        (λ a b. ValueEqual e (expression_code calls here e m).value.atom a b) p q
    expression_together (Apply action operands) t scope m out p q h good within low g bound al =
        let co = operands_code calls here operands m in
        let ca = action_code here action co.values co.made in
        let gc = action_back program kernel here action co.values co.made g in
        let k =
        good_apply (InBody program fn) (UnderBody program fn) (BackBody program fn) scope action operands good in
        let a = operands_up calls set.up here operands m in
        let all = operands_in program kernel calls set.up set.back here set.fresh operands m gc in
        let bound' = bound_before program kernel here ca.lines scope out (λ c e apart_.
        quiet_less c ca.lines _ (action_quiet c here scope action co.values co.made apart_ k.2
        (values_not_read program kernel (next_cell m) (next_cell co.made) co.values c all e))) bound in
        together_seq E one other out co.lines ca.lines (Same program kernel one other fn operands co.values)
        (λ x y. ValueEqual (Apply action operands) ca.value.atom x y) p q al
        (λ al'. operands_together operands h.0 scope m (λ c. live_in c ca.lines (out c)) p q h.1 k.1 within low gc
        bound' al')
        (λ b d x y al' s. action_together program kernel one other fn calls here set action operands h.0 t co.values
        (next_cell m) co.made out b d k.0 h.2 low a all g al' s)
    expression_together (Update site element root op of bk old index value) t scope m out p q h good within low g
        bound al =
        let ci = expression_code calls here index m in
        let n = next_cell ci.made in
        let ml = with_cell ci.made OfValue element in
        let cv = expression_code calls here value ml in
        let m1 = with_cell cv.made OfValue of in
        let m2 = with_cell m1 OfValue (binary_type op of) in
        let cc = changed op of bk (CellAtom n) cv.value.atom cv.made in
        let st = stored site element (root_in here root) ci.value.atom cc.value.atom in
        let load = LoadThen site n element (root_in here root) ci.value.atom NoLine in
        let Qu : Cells → Cells → Type 0 =
        λ x y. ValueEqual (Update site element root op of bk old index value)
        (if old then record { atom = CellAtom n; of = element } else cc.value).atom x y in
        let g2 : Grown program kernel m2 = back_value program kernel m2 bk g in
        let g1 : Grown program kernel m1 = back_value program kernel m1 (binary_type op of) g2 in
        let gv : Grown program kernel cv.made = back_value program kernel cv.made of g1 in
        let gl : Grown program kernel ml = expression_back program kernel calls set.back here value ml gv in
        let gi : Grown program kernel ci.made = back_value program kernel ci.made element gl in
        let a = expression_up calls set.up here index m in
        let b = next_more ci.made OfValue element in
        let k = good_update (InBody program fn) (UnderBody program fn) (BackBody program fn) scope site element root
        op of bk old index value good in
        let in_index = expression_in program kernel calls set.up set.back here set.fresh index m gi in
        let in_value = expression_in program kernel calls set.up set.back here set.fresh value ml gv in
        let n_not = value_not_even program kernel ci.made element gl in
        let n_in : AtomIn program kernel n (suc n) (CellAtom n) = (omega arith, omega arith, n_not) in
        let q3 : (c : ℕ) → E c → Quiet c (joined_to cc.lines st) false =
        λ c e. changed_quiet c op of bk (CellAtom n) cv.value.atom cv.made st false
        (atom_not_read program kernel n (suc n) (CellAtom n) c n_in e)
        (atom_not_read program kernel (next_cell ml) (next_cell cv.made) cv.value.atom c in_value e)
        (λ ec. quiet_store c site element _ _ _ NoLine false
        (atom_not_read program kernel (next_cell m) (next_cell ci.made) ci.value.atom c in_index e) ec
        (quiet_none c false refl)) in
        let q2 : (c : ℕ) → E c → IsApart c here scope → Quiet c (joined_to cv.lines (joined_to cc.lines st)) false =
        λ c e apart_. quiet_then c cv.lines _ (reads c cv.value.atom) false
        (expression_quiet program c calls (set.quiet c) F here value h.1.0 scope h.1.1 k.1.names apart_ ml)
        (λ rv. q3 c e) in
        let q1 : (c : ℕ) → E c → IsApart c here scope →
        Quiet c (joined_to load (joined_to cv.lines (joined_to cc.lines st))) false =
        λ c e apart_. quiet_load c site n element _ _ _ false
        (atom_not_read program kernel (next_cell m) (next_cell ci.made) ci.value.atom c in_index e)
        (λ el. q2 c e apart_) in
        together_seq E one other out ci.lines (joined_to load (joined_to cv.lines (joined_to cc.lines st)))
        (λ x y. ValueEqual index ci.value.atom x y) Qu p q al
        (λ al'. expression_together index _ scope m
        (λ c. live_in c (joined_to load (joined_to cv.lines (joined_to cc.lines st))) (out c)) p q h.0 k.0
        within low gi (bound_before program kernel here _ scope out (λ c e apart_. q1 c e apart_) bound) al')
        (λ b1 d1 x1 y1 al1 s1. together_seq E one other out load (joined_to cv.lines (joined_to cc.lines st)) Anything
        Qu b1 d1 al1
        (λ al'. together_load E one other (λ c. live_in c (joined_to cv.lines (joined_to cc.lines st)) (out c)) site n
        element (root_in here root) ci.value.atom Anything b1 d1 al' n_not (λ v w x y. tt))
        (λ b2 d2 x2 y2 al2 s2. together_seq E one other out cv.lines (joined_to cc.lines st)
        (λ x y. ValueEqual value cv.value.atom x y) Qu b2 d2 al2
        (λ al'. expression_together value h.1.0 scope ml (λ c. live_in c (joined_to cc.lines st) (out c)) b2 d2 h.1.1
        k.1 within (omega (arith, low, a, b)) gv (bound_before program kernel here _ scope out (λ c e apart_.
        q3 c e) bound) al')
        (λ b3 d3 x3 y3 al3 s3. together_seq E one other out cc.lines st (λ x y. ⊥ →
        atom_value x cc.value.atom ≡ atom_value y cc.value.atom) Qu b3 d3 al3
        (λ al'. changed_together program kernel one other fn op of bk (CellAtom n) cv.value.atom cv.made
        (next_cell ml) ⊥ (λ c. live_in c st (out c)) b3 d3 g in_value al' (λ z. absurd z) (λ z. absurd z))
        (λ b4 d4 x4 y4 al4 s4. together_store E one other out site element (root_in here root) ci.value.atom
        cc.value.atom Qu b4 d4 al4 (λ nv. absurd (nv updated))))))
    expression_together (Choose site test yes_ no_) t scope m out p q h good within low g bound al =
        let ct = expression_code calls here test m in
        let cy = expression_code calls here yes_ ct.made in
        let cn = expression_code calls here no_ cy.made in
        let r = next_cell cn.made in
        let sy = set_to r cy.value.atom in
        let sn = set_to r cn.value.atom in
        let branch = IfThen site ct.value.atom (joined_to cy.lines sy) (joined_to cn.lines sn) NoLine in
        let Qc : Cells → Cells → Type 0 = λ x y. ValueEqual (Choose site test yes_ no_) (CellAtom r) x y in
        let gn : Grown program kernel cn.made = back_value program kernel cn.made cy.value.of g in
        let gy : Grown program kernel cy.made = expression_back program kernel calls set.back here no_ cy.made gn in
        let gt : Grown program kernel ct.made = expression_back program kernel calls set.back here yes_ ct.made gy in
        let a = expression_up calls set.up here test m in
        let b = expression_up calls set.up here yes_ ct.made in
        let d = expression_up calls set.up here no_ cy.made in
        let k = good_choose (InBody program fn) (UnderBody program fn) (BackBody program fn) scope site test yes_ no_
        good in
        let in_test = expression_in program kernel calls set.up set.back here set.fresh test m gt in
        let in_yes = expression_in program kernel calls set.up set.back here set.fresh yes_ ct.made gy in
        let in_no = expression_in program kernel calls set.up set.back here set.fresh no_ cy.made gn in
        let r_not = value_not_even program kernel cn.made cy.value.of g in
        let qb : (c : ℕ) → E c → IsApart c here scope → Quiet c branch false =
        λ c e apart_. quiet_less c branch _
        (quiet_if_set c site ct.value.atom _ _ _ (atom_not_read program kernel (next_cell m) (next_cell ct.made)
        ct.value.atom c in_test e)
        (quiet_then c cy.lines _ (reads c cy.value.atom) _ (expression_quiet program c calls (set.quiet c) F here yes_
        t scope h.1 k.2.names apart_ ct.made) (λ ry. computed_quiet c r (Copy cy.value.atom) ry))
        (quiet_then c cn.lines _ (reads c cn.value.atom) _ (expression_quiet program c calls (set.quiet c) F here no_
        t scope h.2 k.3.names apart_ cy.made) (λ rn. computed_quiet c r (Copy cn.value.atom) rn))) in
        let set_bound : (x : Atom) → ((c : ℕ) → E c → reads c x ≡ false) →
        Bound program kernel here scope (λ c. live_in c (set_to r x) (out c)) =
        λ x nr. bound_before program kernel here (set_to r x) scope out (λ c e apart_.
        quiet_less c (set_to r x) _ (computed_quiet c r (Copy x) (nr c e))) bound in
        let set_value : (x : Atom) (R : Type 0) (b1 d1 : Cells) →
        (((V program kernel one other fn (Choose site test yes_ no_)) → ⊥) → R) →
        (R → atom_value b1 x ≡ atom_value d1 x) → Equal E (λ c. live_in c (set_to r x) (out c)) b1 d1 →
        Go out (set_to r x) Qc b1 d1 =
        λ x R b1 d1 f s al'. together_set E one other out r (Copy x) Qc b1 d1 al' (λ e l. absurd (r_not e))
        (λ nv. put_here b1 r r (atom_value b1 x) (same_self r) ∙
        (s (f nv) ∙ sym (put_here d1 r r (atom_value d1 x) (same_self r)))) in
        let unset : (c : ℕ) → Known program kernel here scope c →
        ((x : ℕ) → Has scope x → c ≡ here.base + x → (assigns_in yes_ x || assigns_in no_ x) ≡ true → ⊥) →
        (sets_in c (joined_to cy.lines sy) || sets_in c (joined_to cn.lines sn)) ≡ false =
        λ c kn no. let below = known_below program kernel here Size scope (next_cell m) c within low kn in
        let er : nat_eq c r ≡ false =
        out_below c r (suc r) (omega (arith, below, a, b, d)) r (omega arith) (omega arith) in
        or_false (sets_in c (joined_to cy.lines sy)) (sets_in c (joined_to cn.lines sn))
        (unset_then c cy.lines sy (expression_unset program c calls set.up (set.unset c) F here yes_ t h.1
        (off_known scope c (assigns_in yes_) kn (λ x has e z.
        no x has e (or_left (assigns_in yes_ x) (assigns_in no_ x) z))) ct.made
        (out_below c _ _ (omega (arith, below, a)))) (unset_set c r _ NoLine er (unset_none c))).is
        (unset_then c cn.lines sn (expression_unset program c calls set.up (set.unset c) F here no_ t h.2
        (off_known scope c (assigns_in no_) kn (λ x has e z.
        no x has e (or_right (assigns_in yes_ x) (assigns_in no_ x) z))) cy.made
        (out_below c _ _ (omega (arith, below, a, b)))) (unset_set c r _ NoLine er (unset_none c))).is in
        together_seq E one other out ct.lines branch (λ x y. ValueEqual test ct.value.atom x y) Qc p q al
        (λ al'. expression_together test h.0.0 scope m (λ c. live_in c branch (out c)) p q h.0.1 k.1 within low gt
        (bound_before program kernel here branch scope out qb bound) al')
        (λ b1 d1 x1 y1 al1 s1. together_if E one other out site ct.value.atom (joined_to cy.lines sy)
        (joined_to cn.lines sn) Qc b1 d1 al1
        (λ ax ay aly. together_seq E one other out cy.lines sy (λ x y. ValueEqual yes_ cy.value.atom x y) Qc b1 d1 aly
        (λ al'. expression_together yes_ t scope ct.made (λ c. live_in c sy (out c)) b1 d1 h.1 k.2 within
        (omega (arith, low, a)) gy (set_bound cy.value.atom
        (λ c e. atom_not_read program kernel (next_cell ct.made) (next_cell cy.made) cy.value.atom c in_yes
        e)) al')
        (λ b2 d2 x2 y2 al2 s2. set_value cy.value.atom (V program kernel one other fn yes_ → ⊥) b2 d2
        (λ nv v. nv (chosen v)) s2 al2))
        (λ ax ay aln. together_seq E one other out cn.lines sn (λ x y. ValueEqual no_ cn.value.atom x y) Qc b1 d1 aln
        (λ al'. expression_together no_ t scope cy.made (λ c. live_in c sn (out c)) b1 d1 h.2 k.3 within
        (omega (arith, low, a, b)) gn (set_bound cn.value.atom
        (λ c e. atom_not_read program kernel (next_cell cy.made) (next_cell cn.made) cn.value.atom c in_no e))
        al')
        (λ b2 d2 x2 y2 al2 s2. set_value cn.value.atom (V program kernel one other fn no_ → ⊥) b2 d2
        (λ nv v. nv (otherwise v)) s2 al2))
        (λ df c e o. unset c (bound c e o) (λ x has ec z.
        df (s1 (λ v. set.marked x (within x has) (subst E ec e) (assigned_under _ k.0 v has z)))))
        (λ df b2 d2 x2 y2 nv. absurd (df (s1 (λ v. nv (tested v))))))
    expression_together (Call site g roots arguments) t scope m out p q h good within low gr bound al =
        let ca = operands_code calls here arguments m in
        let cl = calls here site g (argument_roots here roots) ca.values ca.made in
        let ga = set.back here site g (argument_roots here roots) ca.values ca.made gr in
        let k = good_call (InBody program fn) (UnderBody program fn) (BackBody program fn) scope site g roots
        arguments good in
        let a = operands_up calls set.up here arguments m in
        let all = operands_in program kernel calls set.up set.back here set.fresh arguments m ga in
        let count = operand_count program calls F here arguments h.1.0 h.1.1 m ∙
        argument_count program F (parameter_kinds (function_at program g)) roots h.1.0 h.1.2 in
        let bound' = bound_before program kernel here cl.lines scope out (λ c e apart_.
        quiet_less c cl.lines _ (set.quiet c here site g (argument_roots here roots) ca.values ca.made
        h.0.within count (values_not_read program kernel (next_cell m) (next_cell ca.made) ca.values c all
        e))) bound in
        together_seq E one other out ca.lines cl.lines (Same program kernel one other fn arguments ca.values)
        (λ x y. ValueEqual (Call site g roots arguments) cl.value.atom x y) p q al
        (λ al'. operands_together arguments h.1.0 scope m (λ c. live_in c cl.lines (out c)) p q h.1.1 k.1 within low
        ga bound' al')
        (λ b d x y al' s. together_then E one other out cl.lines (λ z w. (Varies program (AResult g) → ⊥) →
        atom_value z cl.value.atom ≡ atom_value w cl.value.atom)
        (λ z w. ValueEqual (Call site g roots arguments) cl.value.atom z w) b d
        (set.call site g roots arguments h.1.0 ca.values (next_cell m) ca.made out b d k.0 h.0.within h.1.2 count all
        gr (λ c e o. let z = known_below program kernel here Size scope (next_cell m) c within low
        (bound c e o) in omega (arith, z, a)) al'
        (arguments_equal site g roots arguments ca.values b d k.0 s)) (λ z w x' y' al'' r nv. r (λ v. nv (called v))))

    pub operands_together : (list : Expressions) (ts : List IntType) (scope : Scope) (m : Made) (out : ℕ →
        Test) (p q : Cells) → HaveTypes program F list ts → GA scope list →
        ScopeWithin program kernel here Size scope → here.base + Size ≤ next_cell m
        → Grown program kernel (operands_code calls here list m).made → Bound program kernel here scope out →
        Equal E (λ c. live_in c (operands_code calls here list m).lines (out c)) p q
        → Go out (operands_code calls here list m).lines
        (Same program kernel one other fn list (operands_code calls here list m).values) p q
    operands_together none [] scope m out p q h good within low g bound al = (al, tt)
    operands_together none (t ∷ ts) scope m out p q h good within low g bound al = absurd h
    operands_together (more e rest) [] scope m out p q h good within low g bound al = absurd h
    operands_together (more e rest) (t ∷ ts) scope m out p q h good within low g bound al =
        let ce = expression_code calls here e m in
        let cr = operands_code calls here rest ce.made in
        let ge = operands_back program kernel calls set.back here rest ce.made g in
        let k = good_more (InBody program fn) (UnderBody program fn) (BackBody program fn) scope e rest good in
        let a = expression_up calls set.up here e m in
        let in_e = expression_in program kernel calls set.up set.back here set.fresh e m ge in
        let below : (c : ℕ) → next_cell m ≤ c → c < next_cell ce.made → sets_in c cr.lines ≡ false =
        λ c l u. (operands_unset program c calls set.up (set.unset c) F here rest ts h.1
        (off_above c Size here (assigns_among rest) (omega (arith, low, l))) ce.made (out_below c _ _ u)).is in
        let bound' = bound_before program kernel here cr.lines scope out (λ c ev apart_.
        quiet_less c cr.lines _ (operands_quiet program c calls (set.quiet c) F here rest ts scope h.1 k.1.names
        apart_ ce.made)) bound in
        together_seq E one other out ce.lines cr.lines (λ x y. ValueEqual e ce.value.atom x y)
        (Same program kernel one other fn (more e rest) (ce.value ∷ cr.values)) p q al
        (λ al'. expression_together e t scope m (λ c. live_in c cr.lines (out c)) p q h.0 k.0 within low ge bound' al')
        (λ b d x y al' s. together_then E one other out cr.lines (Same program kernel one other fn rest cr.values)
        (Same program kernel one other fn (more e rest) (ce.value ∷ cr.values)) b d
        (operands_together rest ts scope ce.made out b d h.1 k.1 within (omega (arith, low, a)) g bound al')
        (λ b' d' x' y' eq s'. (
          (λ nv. atom_kept program kernel one cr.lines (next_cell m) (next_cell ce.made) ce.value.atom b b' in_e below
              x' ∙ (s nv ∙ sym (atom_kept program kernel other cr.lines (next_cell m) (next_cell ce.made)
              ce.value.atom d d' in_e below y'))),
          s',
        )))

  -- a call of a function that gives none
  pub plain_together : (e : Expression) (scope : Scope) (m : Made) (out : ℕ → Test) (p q : Cells) →
      IsPlainCall program F e → GE scope e → ScopeWithin program kernel here Size scope → here.base + Size ≤ next_cell m
      → Grown program kernel (expression_code calls here e m).made → Bound program kernel here scope out →
      Equal E (λ c. live_in c (expression_code calls here e m).lines (out c)) p q →
      Go out (expression_code calls here e m).lines Anything p q
  unfolding expression_code
  plain_together (Apply action operands) scope m out p q h good within low g bound al = absurd h
  plain_together (Update site element root op of bk old index value) scope m out p q h good within low g bound al =
      absurd h
  plain_together (Choose site test yes_ no_) scope m out p q h good within low g bound al = absurd h
  plain_together (Call site g roots arguments) scope m out p q h good within low gr bound al =
      let ca = operands_code calls here arguments m in
      let cl = calls here site g (argument_roots here roots) ca.values ca.made in
      let ga = set.back here site g (argument_roots here roots) ca.values ca.made gr in
      let k = good_call (InBody program fn) (UnderBody program fn) (BackBody program fn) scope site g roots arguments
      good in
      let a = operands_up calls set.up here arguments m in
      let all = operands_in program kernel calls set.up set.back here set.fresh arguments m ga in
      let count = operand_count program calls F here arguments h.1.0 h.1.1 m ∙
      argument_count program F (parameter_kinds (function_at program g)) roots h.1.0 h.1.2 in
      let bound' = bound_before program kernel here cl.lines scope out (λ c e apart_.
      quiet_less c cl.lines _ (set.quiet c here site g (argument_roots here roots) ca.values ca.made h.0.within
      count (values_not_read program kernel (next_cell m) (next_cell ca.made) ca.values c all e))) bound in
      together_seq E one other out ca.lines cl.lines (Same program kernel one other fn arguments ca.values) Anything p
      q al
      (λ al'. operands_together arguments h.1.0 scope m (λ c. live_in c cl.lines (out c)) p q h.1.1 k.1 within low ga
      bound' al')
      (λ b d x y al' s. together_then E one other out cl.lines (λ z w. (Varies program (AResult g) → ⊥) →
      atom_value z cl.value.atom ≡ atom_value w cl.value.atom) Anything b d
      (set.call site g roots arguments h.1.0 ca.values (next_cell m) ca.made out b d k.0 h.0.within h.1.2 count all gr
      (λ c e o. let z = known_below program kernel here Size scope (next_cell m) c within low (bound c e o) in
      omega (arith, z, a)) al'
      (arguments_equal site g roots arguments ca.values b d k.0 s)) (λ z w x' y' al'' r. tt))

  -- an expression that may be absent
  abbrev pub OptionalEqual : Option Expression → Atom → Cells → Cells → Type 0
  OptionalEqual None x p q = atom_value p x ≡ atom_value q x
  OptionalEqual (Some e) x p q = ValueEqual e x p q

  pub optional_together : (e : Option Expression) (scope : Scope) (m : Made) (out : ℕ → Test) (p q : Cells) →
      OptionalFits program F e → GoodOptional (InBody program fn) (UnderBody program fn) (BackBody program fn) scope
      e → ScopeWithin program kernel here Size scope → here.base + Size ≤ next_cell m
      → Grown program kernel (optional_code calls here e m).made → Bound program kernel here scope out →
      Equal E (λ c. live_in c (optional_code calls here e m).lines (out c)) p q
      → Go out (optional_code calls here e m).lines (λ a b. OptionalEqual e (optional_code calls here e m).value.atom
      a b) p q
  optional_together None scope m out p q h good within low g bound al = (al, refl)
  optional_together (Some e) scope m out p q h good within low g bound al =
      expression_together e h.0 scope m out p q h.1 good within low g bound al
