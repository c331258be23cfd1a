-- Two evaluations of one expression of a function, from variables that are alike on the scope: a value that does not
-- vary is equal, and the variables stay alike.
use Rattle.std.proofs.Common.{◌≡◌, ◌≢◌, ℕ, zero, suc, ℤ, pos, Bool, true, false, cond, List, ◌∷◌, Option, Some, None}
use Rattle.std.proofs.Common.{nat_eq, inl, inr, refl, sym, ap, ◌∙◌, subst}
use Rattle.std.proofs.lemmas.Bool.{eqb-true, eq-eqb}
use Rattle.wg_num.specs.declared.types.IntType.{IntType}
use Rattle.wg_num.specs.Wrap.{wrap_of}
use Rattle.wg_num.specs.Operators.{unary_of, binary_of}
use Rattle.wg_num.specs.Builtins.{builtin_of}
use Rattle.cl_model.specs.declared.program.Root.{Root}
use Rattle.cl_model.specs.declared.program.Query.{Query}
use Rattle.cl_model.specs.Tree.{Action, Literal, Variable, Unary, Binary, Builtin, Convert, Ask, Second, Truth}
use Rattle.cl_model.specs.Tree.{Decided, Set, Change, Load, Store, Expression, Apply, Update, Choose, Call}
use Rattle.cl_model.specs.Tree.{Expressions, none, more, Program}
use Rattle.cl_model.specs.Lists.{IsOneOf}
use Rattle.cl_model.specs.Calls.{function_at}
use Rattle.cl_model.specs.Values.{is_zero}
use Rattle.cl_model.specs.Steps.{nth, changed}
use Rattle.cl_model.specs.Valid.{Scope, ActionNames}
use Rattle.cl_model.specs.Varying.{Condition, assigns_in, returned_list, expressions_of_list, conditions, IsAmong}
use Rattle.cl_model.specs.Varying.{IsNth, is_own, is_constant_root, is_store, AVariable, AResult, AnExpression}
use Rattle.cl_model.specs.Varying.{Varies, own_id, loaded, named, operand, stored, updated, tested, chosen, otherwise}
use Rattle.cl_model.specs.Varying.{called, passed, return_under, return_beside, assigned, assigned_under, exit_under}
use Rattle.diverge_sound.proofs.Ran.{Held, put, Who, Acts, Eval, EvalAll, Steps, Passes, Fails}
use Rattle.diverge_sound.proofs.Keeps.{true_or_false, neither, not_true, Key, Answer, Cell, look, HasKey, sets_key}
use Rattle.diverge_sound.proofs.Keeps.{gives_in, some_give, put_other, same_look, eval_kept}
use Rattle.diverge_sound.proofs.Parts.{Good, GoodAll, GoodOptional, good_apply, good_more, good_update, good_choose}
use Rattle.diverge_sound.proofs.Parts.{good_call, choice_condition}

pub nth_among : (es : Expressions) (n : ℕ) (e : Expression) → IsNth es n e → IsAmong es e
nth_among none n e h = absurd h
nth_among (more d rest) zero e h = inl h
nth_among (more d rest) (suc n) e h = inr (nth_among rest n e h)

module _ (program : Program) (f : ℕ) where
  abbrev pub InBody : Expression → Type 0
  InBody e = IsOneOf (expressions_of_list (function_at program f).body) e

  abbrev pub UnderBody : Condition → Type 0
  UnderBody c = IsOneOf (conditions (function_at program f)) c

  abbrev pub BackBody : Expression → Type 0
  BackBody e = IsOneOf (returned_list (function_at program f).body) e

  abbrev pub V : Expression → Type 0
  V e = Varies program (AnExpression f e)

  abbrev pub VKey : Key → Type 0
  VKey Answer = Varies program (AResult f)
  VKey (Cell x) = Varies program (AVariable f x)

  -- equal on each variable of the scope, and on the answer, where it does not vary
  abbrev pub Alike : Scope → Held → Held → Type 0
  Alike scope g g' = (k : Key) → HasKey scope k → (VKey k → ⊥) → look g k ≡ look g' k

  -- where none of these is ever assigned
  abbrev pub Frozen : Scope → Type 0
  Frozen scope = (k : Key) → HasKey scope k → (VKey k → ⊥) → some_give (function_at program f).body k ≡ false

  -- what a condition gives values
  abbrev pub cond_gives : Condition → Key → Bool
  cond_gives c Answer = c.returns
  cond_gives c (Cell x) = c.assigns x

  -- under a condition that varies, nothing is assigned that does not vary
  pub unassigned_under : (c : Condition) → UnderBody c → V c.test → (k : Key) → HasKey c.scope k → (VKey k → ⊥) →
      cond_gives c k ≡ false
  unassigned_under c m v Answer has nv = not_true c.returns (λ h. nv (return_under c m v h))
  unassigned_under c m v (Cell x) has nv = not_true (c.assigns x) (λ h. nv (assigned_under c m v has h))

  -- nor anywhere, where a way out stands there
  pub unassigned_beside : (c : Condition) → UnderBody c → V c.test → c.exits ≡ true → (k : Key) → HasKey c.scope k →
      (VKey k → ⊥) → some_give (function_at program f).body k ≡ false
  unassigned_beside c m v out Answer has nv = not_true _ (λ h. nv (return_beside c m v out h))
  unassigned_beside c m v out (Cell x) has nv = not_true _ (λ h. nv (exit_under c m v has out h))

  pub moved_alike : (scope : Scope) (g g' h h' : Held) → Alike scope g g' → h ≡ g → h' ≡ g' → Alike scope h h'
  moved_alike scope g g' h h' al a b = λ k has nv. same_look g h k a ∙ al k has nv ∙ sym (same_look g' h' k b)

  put_alike : (g g' : Held) (y : ℕ) (v v' : ℤ) → ((VKey (Cell y) → ⊥) → v ≡ v') → (k : Key) → (VKey k → ⊥) →
      (sets_key (Set y) k ≡ false → look g k ≡ look g' k) → look (put g y v) k ≡ look (put g' y v') k
  put_alike g g' y v v' vv Answer nv h = h refl
  put_alike g g' y v v' vv (Cell x) nv h =
      elim (true_or_false (nat_eq y x)) [
        | inl e ↦ ap (λ b. cond b v (g.variables x)) e ∙
            vv (λ w. nv (subst (λ z. Varies program (AVariable f z)) (eqb-true y x e) w)) ∙
            sym (ap (λ b. cond b v' (g'.variables x)) e)
        | inr e ↦ put_other g y v (Cell x) e ∙ h e ∙ sym (put_other g' y v' (Cell x) e)
      ]

  -- two states with a variable set are alike, where the values are equal if it does not vary
  pub set_alike : (scope : Scope) (g g' h h' : Held) (y : ℕ) (v v' : ℤ) → Alike scope g g' →
      ((VKey (Cell y) → ⊥) → v ≡ v') → h ≡ put g y v → h' ≡ put g' y v' → Alike scope h h'
  set_alike scope g g' h h' y v v' al vv a b = λ k has nv. same_look (put g y v) h k a ∙
      put_alike g g' y v v' vv k nv (λ e. al k has nv) ∙ sym (same_look (put g' y v') h' k b)

  -- the same with the variable in scope behind
  pub declare_alike : (scope : Scope) (g g' h h' : Held) (y : ℕ) (v v' : ℤ) → Alike scope g g' →
      ((VKey (Cell y) → ⊥) → v ≡ v') → h ≡ put g y v → h' ≡ put g' y v' → Alike (y ∷ scope) h h'
  declare_alike scope g g' h h' y v v' al vv a b = λ k has nv. same_look (put g y v) h k a ∙
      put_alike g g' y v v' vv k nv (λ e. al k (older k has e) nv) ∙ sym (same_look (put g' y v') h' k b)
    where
      older : (k : Key) → HasKey (y ∷ scope) k → sets_key (Set y) k ≡ false → HasKey scope k
      older Answer has e = tt
      older (Cell x) (inl q) e = absurd (let t : true ≡ false = sym (eq-eqb y x q) ∙ e in cc)
      older (Cell x) (inr has) e = has

  -- values that are equal where their expressions do not vary
  abbrev pub ValuesAlike : Expressions → List ℤ → List ℤ → Type 0
  ValuesAlike es args args' = (n : ℕ) → ((e : Expression) → IsNth es n e → V e → ⊥) → nth args n ≡ nth args' n

  -- of two items: what a load from constant memory, a work-item function and a call give
  pub record Two (w w' : Who) : Type 0 where
    pub asks : (what : Query) (d : ℤ) → is_own what ≡ false → w.asks what d ≡ w'.asks what d
    pub loads : (site : ℕ) (element : IntType) (root : Root) (es : Expressions) →
        InBody (Apply (Load site element root) es) → (i x x' : ℤ) →
        is_constant_root (function_at program f) root ≡ true → w.gives root element i x → w'.gives root element i x' →
        x ≡ x'
    pub calls : (site g : ℕ) (roots : List (Option Root)) (es : Expressions) → InBody (Call site g roots es) →
        (args args' : List ℤ) (x x' : ℤ) → ((n : ℕ) → (Varies program (AVariable g n) → ⊥) → nth args n ≡ nth args' n)
        → w.calls site g roots args x → w'.calls site g roots args' x' → (Varies program (AResult g) → ⊥) → x ≡ x'
    pub no_kernel : (site g : ℕ) (roots : List (Option Root)) (es : Expressions) → InBody (Call site g roots es) →
        g ≢ program.kernel

  module _ (w w' : Who) (two : Two w w') where
    -- an action: on operands that are equal where they do not vary
    same_args : (action : Action) (es : Expressions) (args args' : List ℤ) → is_store action ≡ false →
        ValuesAlike es args args' → (V (Apply action es) → ⊥) → (n : ℕ) → nth args n ≡ nth args' n
    same_args action es args args' st va nv n = va n (λ e at v. nv (operand st (nth_among es n e at) v))

    acts_alike : (action : Action) (scope : Scope) (es : Expressions) (args args' : List ℤ) (g g' h h' : Held)
        (x x' : ℤ) → InBody (Apply action es) → ActionNames scope action → ValuesAlike es args args' → Alike scope g g'
        → Acts w action args g x h → Acts w' action args' g' x' h' → Alike scope h h' ×
        ((V (Apply action es) → ⊥) → x ≡ x')
    acts_alike (Literal value of) scope es args args' g g' h h' x x' m ok va al (a, b) (a', b') =
        (moved_alike scope g g' h h' al b b', λ nv. a ∙ sym a')
    acts_alike (Variable y) scope es args args' g g' h h' x x' m ok va al (a, b) (a', b') =
        (moved_alike scope g g' h h' al b b', λ nv. a ∙ al (Cell y) ok (λ v. nv (named v)) ∙ sym a')
    acts_alike (Unary op of) scope es args args' g g' h h' x x' m ok va al (a, b) (a', b') = (
      moved_alike scope g g' h h' al b b',
      λ nv. a ∙
          ap (unary_of op of) (same_args (Unary op of) es args args' refl va nv 0) ∙ sym a',
    )
    acts_alike (Binary op of) scope es args args' g g' h h' x x' m ok va al (a, b) (a', b') = (
      moved_alike scope g g' h h' al b b',
      λ nv. let s = same_args (Binary op of) es args args' refl va nv in
          a ∙ ap (λ z. binary_of op of z (nth args 1)) (s 0) ∙ ap (λ z. binary_of op of (nth args' 0) z) (s 1) ∙ sym a',
    )
    acts_alike (Builtin b of) scope es args args' g g' h h' x x' m ok va al (a, c) (a', c') = (
      moved_alike scope g g' h h' al c c',
      λ nv. let s = same_args (Builtin b of) es args args' refl va nv in
          a ∙ ap (λ z. builtin_of b of z (nth args 1) (nth args 2)) (s 0) ∙
          ap (λ z. builtin_of b of (nth args' 0) z (nth args 2)) (s 1) ∙
          ap (λ z. builtin_of b of (nth args' 0) (nth args' 1) z) (s 2) ∙ sym a',
    )
    acts_alike (Convert t) scope es args args' g g' h h' x x' m ok va al (a, b) (a', b') = (
      moved_alike scope g g' h h' al b b',
      λ nv. a ∙
          ap (wrap_of t) (same_args (Convert t) es args args' refl va nv 0) ∙ sym a',
    )
    acts_alike (Ask what) scope es args args' g g' h h' x x' m ok va al (a, b) (a', b') = (
      moved_alike scope g g' h h' al b b',
      λ nv. a ∙ ap (w.asks what) (same_args (Ask what) es args args' refl va nv 0) ∙
          two.asks what (nth args' 0) (not_true (is_own what) (λ own. nv (own_id own))) ∙ sym a',
    )
    acts_alike Second scope es args args' g g' h h' x x' m ok va al (a, b) (a', b') =
        (moved_alike scope g g' h h' al b b', λ nv. a ∙ same_args Second es args args' refl va nv 1 ∙ sym a')
    acts_alike Truth scope es args args' g g' h h' x x' m ok va al (a, b) (a', b') = (
      moved_alike scope g g' h h' al b b',
      λ nv. a ∙
          ap (λ z. cond (is_zero z) (pos 0) (pos 1)) (same_args Truth es args args' refl va nv 0) ∙ sym a',
    )
    acts_alike (Decided answer) scope es args args' g g' h h' x x' m ok va al (a, b) (a', b') =
        (moved_alike scope g g' h h' al b b', λ nv. a ∙ sym a')
    acts_alike (Set y) scope es args args' g g' h h' x x' m ok va al (a, b) (a', b') =
        let same : (V (Apply (Set y) es) → ⊥) → nth args 0 ≡ nth args' 0 =
        λ nv. same_args (Set y) es args args' refl va nv 0 in (
          set_alike scope g g' h h' y (nth args 0) (nth args' 0) al
              (λ nv. same (λ v. nv (assigned m (eq-eqb y y refl) v))) b b',
          λ nv. a ∙ same nv ∙ sym a',
        )
    acts_alike (Change y op of back old) scope es args args' g g' h h' x x' m ok va al (a, b) (a', b') =
        let same : (V (Apply (Change y op of back old) es) → ⊥) → (n : ℕ) → nth args n ≡ nth args' n =
        λ nv. same_args (Change y op of back old) es args args' refl va nv in
        let new : (V (Apply (Change y op of back old) es) → ⊥) →
        changed op of back (nth args 0) (nth args 1) ≡ changed op of back (nth args' 0) (nth args' 1) =
        λ nv. ap (λ z. changed op of back z (nth args 1)) (same nv 0) ∙
        ap (λ z. changed op of back (nth args' 0) z) (same nv 1) in (
          set_alike scope g g' h h' y (changed op of back (nth args 0) (nth args 1))
              (changed op of back (nth args' 0) (nth args' 1)) al
              (λ nv. new (λ v. nv (assigned m (eq-eqb y y refl) v))) b b',
          λ nv. a ∙ ap (λ z. cond old z (changed op of back (nth args 0) (nth args 1))) (same nv 0) ∙
              ap (λ z. cond old (nth args' 0) z) (new nv) ∙ sym a',
        )
    acts_alike (Load site element root) scope es args args' g g' h h' x x' m ok va al (a, b) (a', b') = (
      moved_alike scope g g' h h' al b b',
      λ nv. two.loads site element root es m (nth args' 0) x x'
          (elim (true_or_false (is_constant_root (function_at program f) root)) [
            | inl e ↦ e
            | inr e ↦
                absurd (nv (loaded e))
          ])
          (subst (λ i. w.gives root element i x) (same_args (Load site element root) es args args' refl va nv 0) a) a',
    )
    acts_alike (Store site element root) scope es args args' g g' h h' x x' m ok va al (a, b) (a', b') =
        (moved_alike scope g g' h h' al b b', λ nv. a ∙ va 1 (λ e at v. nv (stored at v)) ∙ sym a')

    -- a choice between two parts, which came out differently
    choice_alike : (scope : Scope) (t a b c d : Expression) (m m' h h' : Held) (x x' : ℤ) →
        UnderBody (choice_condition scope t a b) → ((V t → ⊥) → ⊥)
        → ((k : Key) → cond_gives (choice_condition scope t a b) k ≡ false → (gives_in c k ≡ false) ×
        (gives_in d k ≡ false)) → Alike scope m m' → Eval w c m x h → Eval w' d m' x' h' → Alike scope h h'
    choice_alike scope t a b c d m m' h h' x x' under differ quiet al e e' = λ k has nv.
        elim (true_or_false (cond_gives (choice_condition scope t a b) k)) [
          | inl on ↦ absurd (differ (λ v. let z = unassigned_under (choice_condition scope t a b) under v k has nv in
              let q : true ≡ false = sym on ∙ z in cc))
          | inr off ↦ let q =
              quiet k off in eval_kept w c m x h k q.0 e ∙ al k has nv ∙ sym (eval_kept w' d m' x' h' k q.1 e')
        ]

    choice_quiet : (scope : Scope) (t a b : Expression) (k : Key) →
        cond_gives (choice_condition scope t a b) k ≡ false → (gives_in a k ≡ false) × (gives_in b k ≡ false)
    choice_quiet scope t a b Answer h = (refl, refl)
    choice_quiet scope t a b (Cell x) h = neither (assigns_in a x) (assigns_in b x) h

    values_more : (e : Expression) (rest : Expressions) (args args' : List ℤ) (x x' : ℤ) (xs xs' : List ℤ) →
        args ≡ x ∷ xs → args' ≡ x' ∷ xs' → ((V e → ⊥) → x ≡ x') → ValuesAlike rest xs xs' →
        ValuesAlike (more e rest) args args'
    values_more e rest args args' x x' xs xs' is is' one va zero q =
        ap (λ z. nth z 0) is ∙ one (q e refl) ∙ sym (ap (λ z. nth z 0) is')
    values_more e rest args args' x x' xs xs' is is' one va (suc n) q =
        ap (λ z. nth z (suc n)) is ∙ va n q ∙ sym (ap (λ z. nth z (suc n)) is')

    mutual
      pub eval_alike : (e : Expression) (scope : Scope) (g g' : Held) (x x' : ℤ) (h h' : Held) →
          Good InBody UnderBody BackBody scope e → Alike scope g g' → Eval w e g x h → Eval w' e g' x' h' →
          Alike scope h h' × ((V e → ⊥) → x ≡ x')
      eval_alike (Apply action es) scope g g' x x' h h' ok al (args, m, e, a) (args', m', e', a') =
          let o = good_apply InBody UnderBody BackBody scope action es ok in
          let r = eval_all_alike es scope g g' args args' m m' o.1 al e e' in
          acts_alike action scope es args args' m m' h h' x x' o.0 o.2 r.1 r.0 a a'
      eval_alike (Update site element root op of back old index value) scope g g' x x' h h' ok al (i, v, m, e, d) (
        i',
        v',
        m',
        e',
        d',
      ) =
          let o = good_update InBody UnderBody BackBody scope site element root op of back old index value ok in
          let l = eval_alike index scope g g' i i' m m' o.0 al e e' in
          let r = eval_alike value scope m m' v v' h h' o.1 l.0 d d' in (r.0, λ nv. absurd (nv updated))
      eval_alike (Choose site t a b) scope g g' x x' h h' ok al (v, m, e, inl (z, c)) (v', m', e', inl (z', c')) =
          let o = good_choose InBody UnderBody BackBody scope site t a b ok in
          let l = eval_alike t scope g g' v v' m m' o.1 al e e' in
          let r = eval_alike a scope m m' x x' h h' o.2 l.0 c c' in (r.0, λ nv. r.1 (λ y. nv (chosen y)))
      eval_alike (Choose site t a b) scope g g' x x' h h' ok al (v, m, e, inr (z, c)) (v', m', e', inr (z', c')) =
          let o = good_choose InBody UnderBody BackBody scope site t a b ok in
          let l = eval_alike t scope g g' v v' m m' o.1 al e e' in
          let r = eval_alike b scope m m' x x' h h' o.3 l.0 c c' in (r.0, λ nv. r.1 (λ y. nv (otherwise y)))
      eval_alike (Choose site t a b) scope g g' x x' h h' ok al (v, m, e, inl (z, c)) (v', m', e', inr (z', c')) =
          let o = good_choose InBody UnderBody BackBody scope site t a b ok in
          let l = eval_alike t scope g g' v v' m m' o.1 al e e' in
          let differ : (V t → ⊥) → ⊥ = λ nt. let q : false ≡ true = sym z ∙ ap is_zero (l.1 nt) ∙ z' in cc in (
            choice_alike scope t a b a b m m' h h' x x' o.0 differ (choice_quiet scope t a b) l.0 c c',
            λ nv. absurd (differ (λ y. nv (tested y))),
          )
      eval_alike (Choose site t a b) scope g g' x x' h h' ok al (v, m, e, inr (z, c)) (v', m', e', inl (z', c')) =
          let o = good_choose InBody UnderBody BackBody scope site t a b ok in
          let l = eval_alike t scope g g' v v' m m' o.1 al e e' in
          let differ : (V t → ⊥) → ⊥ = λ nt. let q : true ≡ false = sym z ∙ ap is_zero (l.1 nt) ∙ z' in cc in (
            choice_alike scope t a b b a m m' h h' x x' o.0 differ (λ k off. let q = choice_quiet scope t a b k off in
                (q.1, q.0)) l.0 c c',
            λ nv. absurd (differ (λ y. nv (tested y))),
          )
      eval_alike (Call site k roots es) scope g g' x x' h h' ok al (args, e, c) (args', e', c') =
          let o = good_call InBody UnderBody BackBody scope site k roots es ok in
          let r = eval_all_alike es scope g g' args args' h h' o.1 al e e' in
          let passes : (n : ℕ) → (Varies program (AVariable k n) → ⊥) → nth args n ≡ nth args' n =
          λ n nv. r.1 n (λ d at v. nv (passed site roots es (two.no_kernel site k roots es o.0) o.0 at v)) in
          (r.0, λ nv. two.calls site k roots es o.0 args args' x x' passes c c' (λ v. nv (called v)))

      pub eval_all_alike : (es : Expressions) (scope : Scope) (g g' : Held) (args args' : List ℤ) (h h' : Held) →
          GoodAll InBody UnderBody BackBody scope es → Alike scope g g' → EvalAll w es g args h →
          EvalAll w' es g' args' h' → Alike scope h h' × ValuesAlike es args args'
      eval_all_alike none scope g g' args args' h h' ok al (a, b) (a', b') =
          (moved_alike scope g g' h h' al b b', λ n q. ap (λ xs. nth xs n) (a ∙ sym a'))
      eval_all_alike (more e rest) scope g g' args args' h h' ok al (x, xs, m, d, c, is) (x', xs', m', d', c', is') =
          let o = good_more InBody UnderBody BackBody scope e rest ok in
          let l = eval_alike e scope g g' x x' m m' o.0 al d d' in
          let r = eval_all_alike rest scope m m' xs xs' h h' o.1 l.0 c c' in
          (r.0, values_more e rest args args' x x' xs xs' is is' l.1 r.1)

    -- a part that may be absent, and tests

    abbrev pub TestVaries : Option Expression → Type 0
    TestVaries None = ⊥
    TestVaries (Some e) = V e

    pub steps_alike : (e : Option Expression) (scope : Scope) (g g' h h' : Held) →
        GoodOptional InBody UnderBody BackBody scope e → Alike scope g g' → Steps w e g h → Steps w' e g' h' →
        Alike scope h h'
    steps_alike None scope g g' h h' ok al a b = moved_alike scope g g' h h' al a b
    steps_alike (Some e) scope g g' h h' ok al (x, a) (x', b) = (eval_alike e scope g g' x x' h h' ok al a b).0

    pub passes_alike : (e : Option Expression) (scope : Scope) (g g' h h' : Held) →
        GoodOptional InBody UnderBody BackBody scope e → Alike scope g g' → Passes w e g h → Passes w' e g' h' →
        Alike scope h h'
    passes_alike None scope g g' h h' ok al a b = moved_alike scope g g' h h' al a b
    passes_alike (Some e) scope g g' h h' ok al (x, a, z) (x', b, z') = (eval_alike e scope g g' x x' h h' ok al a b).0

    pub fails_alike : (e : Option Expression) (scope : Scope) (g g' h h' : Held) →
        GoodOptional InBody UnderBody BackBody scope e → Alike scope g g' → Fails w e g h → Fails w' e g' h' →
        Alike scope h h'
    fails_alike None scope g g' h h' ok al a b = absurd a
    fails_alike (Some e) scope g g' h h' ok al (x, a, z) (x', b, z') = (eval_alike e scope g g' x x' h h' ok al a b).0

    pub fails_passes : (e : Option Expression) (scope : Scope) (g g' h h' : Held) →
        GoodOptional InBody UnderBody BackBody scope e → Alike scope g g' → Fails w e g h → Passes w' e g' h' →
        (TestVaries e → ⊥) → ⊥
    fails_passes None scope g g' h h' ok al a b nv = a
    fails_passes (Some e) scope g g' h h' ok al (x, a, z) (x', b, z') nv = let r =
        (eval_alike e scope g g' x x' h h' ok al a b).1 nv in let q : true ≡ false = sym z ∙ ap is_zero r ∙ z' in cc

    pub passes_fails : (e : Option Expression) (scope : Scope) (g g' h h' : Held) →
        GoodOptional InBody UnderBody BackBody scope e → Alike scope g g' → Passes w e g h → Fails w' e g' h' →
        (TestVaries e → ⊥) → ⊥
    passes_fails None scope g g' h h' ok al a b nv = b
    passes_fails (Some e) scope g g' h h' ok al (x, a, z) (x', b, z') nv = let r =
        (eval_alike e scope g g' x x' h h' ok al a b).1 nv in let q : false ≡ true = sym z ∙ ap is_zero r ∙ z' in cc
