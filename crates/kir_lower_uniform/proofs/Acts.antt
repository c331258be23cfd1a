-- Both go together through the step of an action, and its value is equal where it does not vary.
use Rattle.std.proofs.Common.{◌≡◌, ℕ, ◌+◌, ◌<◌, ◌≤◌, ℤ, pos, List, [], ◌∷◌, map, length, refl, sym, ap, ap₂, ◌∙◌}
use Rattle.std.proofs.Common.{subst, arith, inl, inr, if◌then◌else◌}
use Rattle.std.proofs.Common.{Bool as Test, true, false}
use Rattle.std.specs.Prelude.{nat_eq}
use Rattle.std.proofs.lemmas.Bool.{or_left}
use Rattle.std.proofs.lemmas.Option.{slice_get_within}
use Rattle.wg_num.specs.declared.types.IntType.{IntType}
use Rattle.wg_num.specs.declared.types.IntType.TheVariants.{Int}
use Rattle.wg_num.specs.declared.types.Bin.{Bin}
use Rattle.wg_num.specs.declared.types.Bin.TheVariants.{Ne}
use Rattle.wg_num.specs.Wrap.{wrap_of}
use Rattle.wg_num.specs.Operators.{unary_of, binary_of}
use Rattle.wg_num.specs.Builtins.{builtin_of, result_type}
use Rattle.cl_model.specs.Tree as tree
use Rattle.cl_model.specs.Tree.{Action, Expression, Apply, Expressions, none, more, Program}
use Rattle.cl_model.specs.Lists.{IsOneOf}
use Rattle.cl_model.specs.Calls.{function_at}
use Rattle.cl_model.specs.Steps.{nth}
use Rattle.cl_model.specs.Valid.{ActionFits, unary_type, binary_type, query_type}
use Rattle.cl_model.specs.Varying.{expressions_of_list, IsAmong, IsNth, is_own, is_store, AnExpression}
use Rattle.cl_model.specs.Varying.{Varies, own_id, loaded, named, operand, stored, assigned}
use Rattle.cl_model.specs.Varying as varying
use Rattle.kir.specs.declared.line.Atom.{Atom}
use Rattle.kir.specs.declared.line.Atom.TheVariants.{Const, Cell as CellAtom}
use Rattle.kir.specs.Tree.{Work, Unary, Binary, Builtin, Convert, Ask, Copy, Lines, NoLine, SetThen, OfValue, Kernel}
use Rattle.kir.specs.Live.{work_reads, live_in}
use Rattle.kir.specs.Steps.{atom_value}
use Rattle.kir_lower.specs.declared.places.Value.{Value}
use Rattle.kir_lower.specs.Made.{Made, Instance, next_cell, with_cell, type_at, root_in}
use Rattle.kir_lower.specs.Actions.{first, second, atoms_of, changed, set_to, action_code}
use Rattle.kir_lower.specs.Code.{Calls}
use Rattle.kir_uniform.specs.Does.{Cells, Who, put, computed}
use Rattle.kir_uniform.proofs.Living.{true_or_false}
use Rattle.kir_uniform.proofs.Alike.{same_self, same_number, put_here, put_other}
use Rattle.kir_lower_uniform.specs.Together.{Equal, Together}
use Rattle.kir_lower_uniform.proofs.Rules.{put_equal, together_seq, together_set, together_load, together_store}
use Rattle.kir_lower_uniform.proofs.Ground.{Even, Grown, value_not_even, back_value}
use Rattle.kir_lower_uniform.proofs.Fresh.{AtomIn, AllIn, atom_kept, first_in, second_in, changed_in}
use Rattle.kir_lower_uniform.proofs.UnsetSteps.{changed_unset}
use Rattle.kir_lower_shape.proofs.Across.{out_below}
use Rattle.kir_uniform.specs.Uniform.{sets_in}
use Rattle.kir_lower_uniform.proofs.Setting.{Setting}

-- a cell that is set leaves the value of an atom of other cells
pub atom_put : (program : Program) (kernel : Kernel) (a b : ℕ) (x : Atom) (f : Cells) (to : ℕ) (v : ℤ) →
    AtomIn program kernel a b x → ((c : ℕ) → a ≤ c → c < b → nat_eq to c ≡ false) →
    atom_value (put f to v) x ≡ atom_value f x
atom_put program kernel a b (Const value of) f to v h u = refl
atom_put program kernel a b (CellAtom c) f to v h u = put_other f to c v (u c h.0 h.1)

pub apart_above : (to c : ℕ) → to < c → nat_eq to c ≡ false
apart_above to c h = elim (true_or_false (nat_eq to c)) [
  | inl e ↦ absurd (let s = same_number to c e in
      omega (arith, s, h))
  | inr e ↦ e
]

pub apart_below : (to c : ℕ) → c < to → nat_eq to c ≡ false
apart_below to c h = elim (true_or_false (nat_eq to c)) [
  | inl e ↦ absurd (let s = same_number to c e in
      omega (arith, s, h))
  | inr e ↦ e
]

module _ (program : Program) (kernel : Kernel) (one other : Who) (fn : ℕ) where
  abbrev pub V : Expression → Type 0
  V e = Varies program (AnExpression fn e)

  -- the values of expressions are equal where these do not vary
  abbrev pub Same : Expressions → List Value → Cells → Cells → Type 0
  Same none [] p q = Unit {0}
  Same none (v ∷ values) p q = ⊥
  Same (more e rest) [] p q = Unit {0}
  Same (more e rest) (v ∷ values) p q = ((V e → ⊥) → atom_value p v.atom ≡ atom_value q v.atom) × Same rest values p q

  pub first_same : (es : Expressions) (values : List Value) (p q : Cells) → Same es values p q →
      ((e : Expression) → IsAmong es e → V e → ⊥) → atom_value p (first values).atom ≡ atom_value q (first values).atom
  first_same none [] p q s n = refl
  first_same none (v ∷ values) p q s n = absurd s
  first_same (more e rest) [] p q s n = refl
  first_same (more e rest) (v ∷ values) p q s n = s.0 (n e (inl refl))

  pub second_same : (es : Expressions) (values : List Value) (p q : Cells) → Same es values p q →
      ((e : Expression) → IsNth es 1 e → V e → ⊥) →
      atom_value p (second values).atom ≡ atom_value q (second values).atom
  second_same none [] p q s n = refl
  second_same none (v ∷ values) p q s n = absurd s
  second_same (more e rest) [] p q s n = refl
  second_same (more e none) (v ∷ []) p q s n = refl
  second_same (more e none) (v ∷ w ∷ values) p q s n = absurd s.1
  second_same (more e (more d rest)) (v ∷ []) p q s n = refl
  second_same (more e (more d rest)) (v ∷ w ∷ values) p q s n = s.1.0 (n d refl)

  second_among : (es : Expressions) (e : Expression) → IsNth es 1 e → IsAmong es e
  second_among none e h = absurd h
  second_among (more d none) e h = absurd h
  second_among (more d (more b rest)) e h = inr (inl h)

  all_same : (es : Expressions) (values : List Value) (p q : Cells) → Same es values p q →
      ((e : Expression) → IsAmong es e → V e → ⊥) →
      map (atom_value p) (atoms_of values) ≡ map (atom_value q) (atoms_of values)
  all_same none [] p q s n = refl
  all_same none (v ∷ values) p q s n = absurd s
  all_same (more e rest) [] p q s n = refl
  all_same (more e rest) (v ∷ values) p q s n =
      ap₂ (λ x xs. x ∷ xs) (s.0 (n e (inl refl))) (all_same rest values p q s.1 (λ d i. n d (inr i)))

  abbrev pub Go : (ℕ → Test) → Lines → (Cells → Cells → Type 0) → Cells → Cells → Type 0
  Go out lines Q p q = Together (Even program kernel) one other out lines Q p q

  -- a new cell is computed: it is equal where what is computed is
  pub computed_together : (m : Made) (work : Work) (of : IntType) (R : Type 0) (out : ℕ → Test) (p q : Cells) →
      Grown program kernel (with_cell m OfValue of) →
      Equal (Even program kernel) (λ c. live_in c (SetThen (next_cell m) work NoLine) (out c)) p q
      → (R → computed one p work ≡ computed other q work) → Go out (SetThen (next_cell m) work NoLine) (λ a b. R →
      a (next_cell m) ≡ b (next_cell m)) p q
  computed_together m work of R out p q g al same =
      let n = next_cell m in
      together_set (Even program kernel) one other out n work (λ a b. R →
      a n ≡ b n) p q al (λ e l. absurd (value_not_even program kernel m of g e))
      (λ r. put_here p n n (computed one p work) (same_self n) ∙
      (same r ∙ sym (put_here q n n (computed other q work) (same_self n))))

  -- a cell that is none of a variable is set before other lines
  pub set_then : (out : ℕ → Test) (to : ℕ) (work : Work) (rest : Lines) (Q : Cells → Cells → Type 0) (p q : Cells) →
      (Even program kernel to → ⊥) → Equal (Even program kernel) (λ c. live_in c (SetThen to work rest) (out c)) p q
      → (Equal (Even program kernel) (λ c. live_in c rest (out c)) (put p to (computed one p work))
      (put q to (computed other q work)) →
      Go out rest Q (put p to (computed one p work)) (put q to (computed other q work)))
      → Go out (SetThen to work rest) Q p q
  set_then out to work rest Q p q none_ al h = (
    al,
    h (put_equal (Even program kernel) one other to (λ c. live_in c rest (out c)) (λ c. work_reads c work) p q
        (computed one p work) (computed other q work) (λ e l. absurd (none_ e)) al),
  )

  -- the new value of a compound assignment
  pub changed_together : (op : Bin) (of back : IntType) (was by : Atom) (m : Made) (a : ℕ) (R : Type 0) (out : ℕ →
      Test) (p q : Cells) → Grown program kernel (changed op of back was by m).made →
      AtomIn program kernel a (next_cell m) by
      → Equal (Even program kernel) (λ c. live_in c (changed op of back was by m).lines (out c)) p q →
      (R → atom_value p was ≡ atom_value q was) → (R → atom_value p by ≡ atom_value q by)
      → Go out (changed op of back was by m).lines (λ a b. R → atom_value a (changed op of back was by m).value.atom ≡
      atom_value b (changed op of back was by m).value.atom) p q
  changed_together op of bk was by m a R out p q g within al sw sb =
      let m1 = with_cell m OfValue of in
      let m2 = with_cell m1 OfValue (binary_type op of) in
      let n = next_cell m in
      let n1 = next_cell m1 in
      let n2 = next_cell m2 in
      let g2 : Grown program kernel m2 = back_value program kernel m2 bk g in
      let g1 : Grown program kernel m1 = back_value program kernel m1 (binary_type op of) g2 in
      set_then out n (Convert of was)
      (SetThen n1 (Binary op of (CellAtom n) by) (SetThen n2 (Convert bk (CellAtom n1)) NoLine)) (λ a b. R →
      a n2 ≡ b n2) p q (value_not_even program kernel m of g1) al
      (λ al1. let p1 = put p n (wrap_of of (atom_value p was)) in
      let q1 = put q n (wrap_of of (atom_value q was)) in
      let same1 : R → binary_of op of (p1 n) (atom_value p1 by) ≡ binary_of op of (q1 n) (atom_value q1 by) =
      λ r. ap₂ (binary_of op of) (put_here p n n (wrap_of of (atom_value p was)) (same_self n) ∙
      (ap (wrap_of of) (sw r) ∙ sym (put_here q n n (wrap_of of (atom_value q was)) (same_self n))))
      (atom_put program kernel a n by p n (wrap_of of (atom_value p was)) within (λ c l u. apart_below n c u) ∙
      (sb r ∙ sym (atom_put program kernel a n by q n (wrap_of of (atom_value q was)) within
      (λ c l u. apart_below n c u)))) in
      set_then out n1 (Binary op of (CellAtom n) by) (SetThen n2 (Convert bk (CellAtom n1)) NoLine) (λ a b. R →
      a n2 ≡ b n2) p1 q1 (value_not_even program kernel m1 (binary_type op of) g2) al1
      (λ al2. let v = binary_of op of (p1 n) (atom_value p1 by) in
      let w = binary_of op of (q1 n) (atom_value q1 by) in
      computed_together m2 (Convert bk (CellAtom n1)) bk R out (put p1 n1 v) (put q1 n1 w) g al2
      (λ r. ap (wrap_of bk) (put_here p1 n1 n1 v (same_self n1) ∙
      (same1 r ∙ sym (put_here q1 n1 n1 w (same_self n1)))))))

  module _ (calls : Calls) (here : Instance) (set : Setting program kernel one other fn calls here) where
    abbrev Q : Action → Expressions → List Value → Made → Cells → Cells → Type 0
    Q action es values m a b = (V (Apply action es) → ⊥) →
        atom_value a (action_code here action values m).value.atom ≡
        atom_value b (action_code here action values m).value.atom

    among : (action : Action) (es : Expressions) → is_store action ≡ false → (V (Apply action es) → ⊥) →
        (e : Expression) → IsAmong es e → V e → ⊥
    among action es st nv e i v = nv (operand st i v)

    -- a variable that does not vary is set to what does not vary
    set_even : (action : Action) (es : Expressions) (x : ℕ) →
        IsOneOf (expressions_of_list (function_at program fn).body) (Apply action es) → varying.sets action x ≡ true →
        x < length (function_at program fn).variables → Even program kernel (here.base + x) → V (Apply action es) → ⊥
    set_even action es x i s less e v = set.marked x less e (assigned i s v)

    -- one of two values
    either : (b : Test) (p q : Cells) (x y : Value) → atom_value p x.atom ≡ atom_value q x.atom →
        atom_value p y.atom ≡ atom_value q y.atom →
        atom_value p (if b then x else y).atom ≡ atom_value q (if b then x else y).atom
    either true p q x y h k = h
    either false p q x y h k = k

    pub action_together : (action : Action) (es : Expressions) (ts : List IntType) (t : IntType) (values : List Value)
        (a : ℕ) (m : Made) (out : ℕ → Test) (p q : Cells) →
        IsOneOf (expressions_of_list (function_at program fn).body) (Apply action es)
        → ActionFits program (function_at program fn) action ts t →
        here.base + length (function_at program fn).variables ≤ a → a ≤ next_cell m →
        AllIn program kernel a (next_cell m) values → Grown program kernel (action_code here action values m).made
        → Equal (Even program kernel) (λ c. live_in c (action_code here action values m).lines (out c)) p q →
        Same es values p q → Go out (action_code here action values m).lines (Q action es values m) p q
    action_together (tree.Literal v of) es ts t values a m out p q i fits low le within g al same = (al, λ nv. refl)
    action_together (tree.Variable x) es [] t values a m out p q i fits low le within g al same =
        let less = slice_get_within (function_at program fn).variables x fits.0 fits.1 in
        computed_together m (Copy (CellAtom (here.base + x))) (type_at here x) (V (Apply (tree.Variable x) es) → ⊥)
        out p q g al
        (λ nv. al (here.base + x) (set.even x less (λ v. nv (named v)))
        (or_left (nat_eq (here.base + x) (here.base + x)) _ (same_self (here.base + x))))
    action_together (tree.Variable x) es (s ∷ ts) t values a m out p q i fits low le within g al same = absurd fits
    action_together (tree.Unary op of) es ts t values a m out p q i fits low le within g al same =
        computed_together m (Unary op of (first values).atom) (unary_type op of) (V (Apply (tree.Unary op of) es) → ⊥)
        out p q g al (λ nv. ap (unary_of op of)
        (first_same es values p q same (among (tree.Unary op of) es refl nv)))
    action_together (tree.Binary op of) es ts t values a m out p q i fits low le within g al same =
        computed_together m (Binary op of (first values).atom (second values).atom) (binary_type op of)
        (V (Apply (tree.Binary op of) es) → ⊥) out p q g al
        (λ nv. let n = among (tree.Binary op of) es refl nv in
        ap₂ (binary_of op of) (first_same es values p q same n)
        (second_same es values p q same (λ e j. n e (second_among es e j))))
    action_together (tree.Builtin f of) es ts t values a m out p q i fits low le within g al same =
        computed_together m (Builtin f of (atoms_of values)) (result_type f of) (V (Apply (tree.Builtin f of) es) → ⊥)
        out p q g al (λ nv. ap (λ xs. builtin_of f of (nth xs 0) (nth xs 1) (nth xs 2))
        (all_same es values p q same (among (tree.Builtin f of) es refl nv)))
    action_together (tree.Convert to) es ts t values a m out p q i fits low le within g al same =
        computed_together m (Convert to (first values).atom) to (V (Apply (tree.Convert to) es) → ⊥) out p q g al
        (λ nv. ap (wrap_of to) (first_same es values p q same (among (tree.Convert to) es refl nv)))
    action_together (tree.Ask what) es ts t values a m out p q i fits low le within g al same =
        computed_together m (Ask what (first values).atom) (query_type what) (V (Apply (tree.Ask what) es) → ⊥) out p
        q g al
        (λ nv. ap (one.asks what) (first_same es values p q same (among (tree.Ask what) es refl nv))
        ∙ set.fellows.asks what (atom_value q (first values).atom) (elim (true_or_false (is_own what)) [
          | inl e ↦
              absurd (nv (own_id e))
          | inr e ↦ e
        ]))
    action_together tree.Second es ts t values a m out p q i fits low le within g al same = (
      al,
      λ nv. let n = among tree.Second es refl nv in
          second_same es values p q same (λ e j. n e (second_among es e j)),
    )
    action_together tree.Truth es ts t values a m out p q i fits low le within g al same =
        computed_together m (Binary Ne (first values).of (first values).atom (Const (pos 0) (first values).of)) Int
        (V (Apply tree.Truth es) → ⊥) out p q g al (λ nv. ap (λ z. binary_of Ne (first values).of z (pos 0))
        (first_same es values p q same (among tree.Truth es refl nv)))
    action_together (tree.Decided answer) es ts t values a m out p q i fits low le within g al same = (al, λ nv. refl)
    action_together (tree.Set x) es [] t values a m out p q i fits low le within g al same = absurd fits
    action_together (tree.Set x) es (s ∷ []) t values a m out p q i fits low le within g al same =
        let less = slice_get_within (function_at program fn).variables x fits.0.0 fits.0.1 in
        let to = here.base + x in
        let u : (c : ℕ) → a ≤ c → c < next_cell m → nat_eq to c ≡ false =
        λ c l h. apart_above to c (omega (arith, l, less, low)) in
        together_set (Even program kernel) one other out to (Copy (first values).atom) (Q (tree.Set x) es values m) p
        q al
        (λ e l. first_same es values p q same
        (among (tree.Set x) es refl (set_even (tree.Set x) es x i (same_self x) less e)))
        (λ nv. atom_put program kernel a (next_cell m) (first values).atom p to (atom_value p (first values).atom)
        (first_in program kernel a (next_cell m) values within) u
        ∙ (first_same es values p q same (among (tree.Set x) es refl nv) ∙
        sym (atom_put program kernel a (next_cell m) (first values).atom q to (atom_value q (first values).atom)
        (first_in program kernel a (next_cell m) values within) u)))
    action_together (tree.Set x) es (s ∷ r ∷ ts) t values a m out p q i fits low le within g al same = absurd fits
    action_together (tree.Change x op of bk old) es [] t values a m out p q i fits low le within g al same = absurd fits
    action_together (tree.Change x op of bk old) es (s ∷ []) t values a m out p q i fits low le within g al same =
        absurd fits
    action_together (tree.Change x op of bk old) es (s ∷ r ∷ []) t values a m out p q i fits low le within g al same =
        let less = slice_get_within (function_at program fn).variables x fits.0.0 fits.0.1 in
        let to = here.base + x in
        let was = (first values).atom in
        let by = (second values).atom in
        let cc = changed op of bk was by m in
        let R = V (Apply (tree.Change x op of bk old) es) → ⊥ in
        let n : R → (e : Expression) → IsAmong es e → V e → ⊥ = among (tree.Change x op of bk old) es refl in
        let in_first = first_in program kernel a (next_cell m) values within in
        let value_in = changed_in program kernel op of bk was by m g in
        let u : (c : ℕ) → a ≤ c → c < next_cell m → nat_eq to c ≡ false =
        λ c l h. apart_above to c (omega (arith, l, less, low)) in
        let w : (c : ℕ) → next_cell m ≤ c → c < next_cell cc.made → nat_eq to c ≡ false =
        λ c l h. apart_above to c (omega (arith, l, less, low, le)) in
        let below : (c : ℕ) → a ≤ c → c < next_cell m → sets_in c cc.lines ≡ false =
        λ c l h. (changed_unset c op of bk was by m (out_below c _ _ h)).is in
        together_seq (Even program kernel) one other out cc.lines (set_to to cc.value.atom) (λ b d. R →
        atom_value b cc.value.atom ≡ atom_value d cc.value.atom) (Q (tree.Change x op of bk old) es values m) p
        q al
        (λ al'. changed_together op of bk was by m a R (λ c. live_in c (set_to to cc.value.atom) (out c)) p q g
        (second_in program kernel a (next_cell m) values within) al'
        (λ nv. first_same es values p q same (n nv))
        (λ nv. second_same es values p q same (λ e j. n nv e (second_among es e j))))
        (λ b d x1 y1 al' r. together_set (Even program kernel) one other out to (Copy cc.value.atom)
        (Q (tree.Change x op of bk old) es values m) b d al'
        (λ e l. r (set_even (tree.Change x op of bk old) es x i (same_self x) less e))
        (λ nv. either old (put b to (atom_value b cc.value.atom)) (put d to (atom_value d cc.value.atom))
        (first values) cc.value
        (atom_put program kernel a (next_cell m) was b to (atom_value b cc.value.atom) in_first u ∙
        (atom_kept program kernel one cc.lines a (next_cell m) was p b in_first below x1 ∙
        (first_same es values p q same (n nv)
        ∙ (sym (atom_kept program kernel other cc.lines a (next_cell m) was q d in_first below y1) ∙
        sym (atom_put program kernel a (next_cell m) was d to (atom_value d cc.value.atom) in_first u)))))
        (atom_put program kernel (next_cell m) (next_cell cc.made) cc.value.atom b to (atom_value b cc.value.atom)
        value_in w ∙ (r nv ∙ sym (atom_put program kernel (next_cell m) (next_cell cc.made) cc.value.atom d to
        (atom_value d cc.value.atom) value_in w)))))
    action_together (tree.Change x op of bk old) es (s ∷ r ∷ z ∷ ts) t values a m out p q i fits low le within g al
        same = absurd fits
    action_together (tree.Load site element root) es [] t values a m out p q i fits low le within g al same =
        absurd fits
    action_together (tree.Load site element root) es (s ∷ []) t values a m out p q i fits low le within g al same =
        let n = next_cell m in
        together_load (Even program kernel) one other out site n element (root_in here root) (first values).atom
        (Q (tree.Load site element root) es values m) p q al (value_not_even program kernel m element g)
        (λ v w x y nv.
        let constant : varying.is_constant_root (function_at program fn) root ≡ true =
        elim (true_or_false (varying.is_constant_root (function_at program fn) root)) [
          | inl e ↦ e
          | inr e ↦
              absurd (nv (loaded e))
        ] in
        let index = first_same es values p q same (among (tree.Load site element root) es refl nv) in
        let vw = set.fellows.constants element (root_in here root) (atom_value q (first values).atom) v w
        (set.constants element root fits.1 constant) (subst (λ z. one.gives element (root_in here root) z v) index
        x) y in
        put_here p n n v (same_self n) ∙ (vw ∙ sym (put_here q n n w (same_self n))))
    action_together (tree.Load site element root) es (s ∷ r ∷ ts) t values a m out p q i fits low le within g al
        same = absurd fits
    action_together (tree.Store site element root) es ts t values a m out p q i fits low le within g al same =
        together_store (Even program kernel) one other out site element (root_in here root) (first values).atom
        (second values).atom (Q (tree.Store site element root) es values m) p q al
        (λ nv. second_same es values p q same (λ e j v. nv (stored j v)))
