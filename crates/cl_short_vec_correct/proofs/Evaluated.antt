-- What helping variables hold, one step of a history, and own expressions in a history.
use Rattle.std.proofs.Common.{◌≡◌, ℕ, ℤ, pos, Bool, true, List, [], ◌∷◌, ◌++◌}
use Rattle.std.proofs.Common.{if◌then◌else◌, ◌⊎◌, inl, inr, refl, sym, ap, ◌∙◌, subst, nat_eq}
use Rattle.std.proofs.lemmas.Bool.{eq-eqb}
use Rattle.std.proofs.lemmas.List.{append_assoc}
use Rattle.work_items.specs.Items.{Next, Goes}
use Rattle.work_items.specs.Histories.{Deed, History, nothing, going, doing, DoesOnce}
use Rattle.wg_num.specs.Wrap.{wrap_of}
use Rattle.wg_num.specs.Operators.{unary_of, binary_of}
use Rattle.wg_num.specs.Builtins.{builtin_of}
use Rattle.cl_model.specs.Tree.{Literal, Variable, Unary, Binary, Builtin, Convert}
use Rattle.cl_model.specs.Tree.{Expression, Apply, single, pair, more, none}
use Rattle.cl_model.specs.Tree.{Program}
use Rattle.cl_model.specs.Sizes.{Launch}
use Rattle.cl_model.specs.Task.{Operand, Point, Task, Evaluate, Finish}
use Rattle.cl_model.specs.Task.{Frame, Item}
use Rattle.cl_model.specs.Steps.{set_in, item_next}
use Rattle.cl_model.specs.Meaning.{lengths_of, MayBeTold}
use Rattle.cl_short_vec_correct.specs.Emits.{Known, IsIn, Fresh, Own, literal, variable, unary, binary, convert}
use Rattle.cl_short_vec_correct.specs.Emits.{builtin, builtin_one, builtin_three}
use Rattle.cl_short_vec_correct.specs.Doing.{IsWithin, GoesOn}

-- ---- what helping variables hold

-- the variables hold these values in a frame
abbrev pub Holds : List Known → Frame → Type 0
Holds [] f = Unit {0}
Holds (k ∷ ks) f = (f.variables k.variable ≡ k.value) × Holds ks f

held : (ks : List Known) (f : Frame) (x : ℕ) (v : ℤ) → IsIn ks x v → Holds ks f → f.variables x ≡ v
held [] f x v i h = absurd i
held (k ∷ ks) f x v (inl (p, q)) (h, hs) = ap f.variables (sym p) ∙ h ∙ q
held (k ∷ ks) f x v (inr i) (h, hs) = held ks f x v i hs

same_number : (x : ℕ) → nat_eq x x ≡ true
same_number x = eq-eqb x x refl

pub still_holds : (ks : List Known) (f : Frame) (x : ℕ) (v : ℤ) → Fresh x ks → Holds ks f → Holds ks (set_in f x v)
still_holds [] f x v fr h = tt
still_holds (k ∷ ks) f x v (e, fr) (h, hs) = (
  subst (λ (b : Bool). (if b then v else f.variables k.variable) ≡ k.value) (sym e) h,
  still_holds ks f x v fr hs,
)

pub now_holds : (f : Frame) (x : ℕ) (v : ℤ) → (set_in f x v).variables x ≡ v
now_holds f x v = subst (λ (b : Bool). (if b then v else f.variables x) ≡ v) (sym (same_number x)) refl

abbrev pub it : ℕ → List Task → List ℤ → List Frame → Item
it n tasks values frames = record { number = n; tasks = tasks; values = values; frames = frames }

-- ---- what is left to do

-- where more is left behind
pub within_more : (ts rest : List Task) (i : Item) → IsWithin (ts ++ rest) i → IsWithin rest i
within_more ts rest i (t, us, e) = (t, us ++ ts, e ∙ ap (λ z. t ∷ z) (sym (append_assoc us ts rest)))

-- where what is left behind is spelled otherwise
pub within_same : (us : List Task) (ts rest : List Task) (i : Item) → us ≡ ts ++ rest → IsWithin us i → IsWithin rest i
within_same us ts rest i e w = within_more ts rest i (subst (λ z. IsWithin z i) e w)

-- ---- one step of a history

abbrev after_or : Item → Next Item → Item
after_or d (Goes a) = a
after_or d n = d

goes_same : (a b : Item) → Goes a ≡ Goes b → a ≡ b
goes_same a b e = ap (after_or a) e

module _ (program : Program) (launch : Launch) (buffers : List (List ℕ)) where
  abbrev pub D : Item → List Deed → Item → Type 0
  D = History (lengths_of program launch buffers) (MayBeTold program launch buffers) (item_next program launch)

  abbrev Once : Next Item → Deed → Item → Type 0
  Once = DoesOnce (lengths_of program launch buffers) (MayBeTold program launch buffers)

  pub peel : (i j to : Item) (deeds : List Deed) → item_next program launch i ≡ Goes j → D i deeds to →
      ((to ≡ i) × (deeds ≡ [])) ⊎ D j deeds to
  peel i j to deeds e nothing = inl (refl, refl)
  peel i j to deeds e (going {mid = mid} g h) = inr (subst (λ m. D m deeds to) (goes_same mid j (sym g ∙ e)) h)
  peel i j to deeds e (doing {mid = mid} {deed = deed} d h) =
      absurd (never deed mid (subst (λ n. Once n deed mid) e d))
    where
      never : (deed : Deed) (mid : Item) → Once (Goes j) deed mid → ⊥
      never deed mid x = x

  -- ---- own expressions

  abbrev pub Same : List Task → ℕ → List Frame → Item → List Deed → Type 0
  Same rest n fs to deeds = (to.number ≡ n) × (to.frames ≡ fs) × (deeds ≡ []) × IsWithin rest to ×
      GoesOn program launch buffers to

  abbrev pub Arrives : List Task → ℕ → List Frame → Item → Item → List Deed → Type 0
  Arrives rest n fs j to deeds = Same rest n fs to deeds ⊎ D j deeds to

  -- behind more tasks
  wider : (ts rest : List Task) (n : ℕ) (fs : List Frame) (to : Item) (deeds : List Deed) →
      Same (ts ++ rest) n fs to deeds → Same rest n fs to deeds
  wider ts rest n fs to deeds (a, b, c, w, g) = (a, b, c, within_more ts rest to w, g)

  -- one step ahead
  pub first : (n : ℕ) (fs : List Frame) (t : Task) (ts us : List Task) (vs ws : List ℤ) (to : Item)
      (deeds : List Deed) → item_next program launch (it n (t ∷ ts) vs fs) ≡ Goes (it n us ws fs) →
      D (it n (t ∷ ts) vs fs) deeds to → Arrives ts n fs (it n us ws fs) to deeds
  first n fs t ts us vs ws to deeds e h = elim (peel (it n (t ∷ ts) vs fs) (it n us ws fs) to deeds e h) [
    | inl (q, z) ↦ inl (
      ap (λ (i : Item). i.number) q,
      ap (λ (i : Item). i.frames) q,
      z,
      (t, [], ap (λ (i : Item). i.tasks) q),
      (it n us ws fs, ap (item_next program launch) q ∙ e),
    )
    | inr g ↦ inr g
  ]

  pub own_runs : (known : List Known) (e : Expression) (v : ℤ) → Own known e v → (at : Point) (n : ℕ) (rest : List Task)
      (vs : List ℤ) (f : Frame) (fs : List Frame) (to : Item) (deeds : List Deed) → Holds known f →
      D (it n (Evaluate at e ∷ rest) vs (f ∷ fs)) deeds to →
      Arrives rest n (f ∷ fs) (it n rest (v ∷ vs) (f ∷ fs)) to deeds
  own_runs known e v (literal u of) at n rest vs f fs to deeds k h =
      first n (f ∷ fs) (Evaluate at (Apply (Literal u of) none)) rest rest vs (u ∷ vs) to deeds refl h
  own_runs known e v (variable x u i) at n rest vs f fs to deeds k h =
      first n (f ∷ fs) (Evaluate at (Apply (Variable x) none)) rest rest vs (u ∷ vs) to deeds
      (ap (λ (w : ℤ). Goes (it n rest (w ∷ vs) (f ∷ fs))) (held known f x u i k)) h
  own_runs known e v (unary op of a u p) at n rest vs f fs to deeds k h =
      elim (first n (f ∷ fs) (Evaluate at (Apply (Unary op of) (single a))) rest
      (Evaluate (at ++ Operand 0 ∷ []) a ∷ Finish at (Unary op of) 1 ∷ rest) vs vs to deeds refl h) [
        | inl s ↦ inl s
        | inr g ↦ elim (own_runs known a u p (at ++ Operand 0 ∷ []) n (Finish at (Unary op of) 1 ∷ rest) vs f fs to
            deeds k g) [
              | inl s ↦ inl (wider (Finish at (Unary op of) 1 ∷ []) rest n (f ∷ fs) to deeds s)
              | inr g ↦ first n (f ∷ fs) (Finish at (Unary op of) 1) rest rest (u ∷ vs) (unary_of op of u ∷ vs) to
                  deeds refl g
            ]
      ]
  own_runs known e v (convert t a u p) at n rest vs f fs to deeds k h =
      elim (first n (f ∷ fs) (Evaluate at (Apply (Convert t) (single a))) rest
      (Evaluate (at ++ Operand 0 ∷ []) a ∷ Finish at (Convert t) 1 ∷ rest) vs vs to deeds refl h) [
        | inl s ↦ inl s
        | inr g ↦ elim (own_runs known a u p (at ++ Operand 0 ∷ []) n (Finish at (Convert t) 1 ∷ rest) vs f fs to deeds
            k g) [
              | inl s ↦ inl (wider (Finish at (Convert t) 1 ∷ []) rest n (f ∷ fs) to deeds s)
              | inr g ↦ first n (f ∷ fs) (Finish at (Convert t) 1) rest rest (u ∷ vs) (wrap_of t u ∷ vs) to deeds
                  refl g
            ]
      ]
  own_runs known e v (binary op of a b u w p q) at n rest vs f fs to deeds k h =
      elim (first n (f ∷ fs) (Evaluate at (Apply (Binary op of) (pair a b))) rest
      (Evaluate (at ++ Operand 0 ∷ []) a ∷ Evaluate (at ++ Operand 1 ∷ []) b ∷ Finish at (Binary op of) 2 ∷ rest) vs vs
      to deeds refl h) [
        | inl s ↦ inl s
        | inr g ↦ elim (own_runs known a u p (at ++ Operand 0 ∷ []) n (Evaluate (at ++ Operand 1 ∷ []) b ∷
            Finish at (Binary op of) 2 ∷ rest) vs f fs to deeds k g) [
              | inl s ↦ inl (wider (Evaluate (at ++ Operand 1 ∷ []) b ∷ Finish at (Binary op of) 2 ∷ []) rest n (f ∷
                  fs) to deeds s)
              | inr g ↦ elim (own_runs known b w q (at ++ Operand 1 ∷ []) n (Finish at (Binary op of) 2 ∷ rest) (u ∷ vs)
                  f fs to deeds k g) [
                    | inl s ↦ inl (wider (Finish at (Binary op of) 2 ∷ []) rest n (f ∷ fs) to deeds s)
                    | inr g ↦ first n (f ∷ fs) (Finish at (Binary op of) 2) rest rest (w ∷ u ∷ vs)
                        (binary_of op of u w ∷ vs) to deeds refl g
                  ]
            ]
      ]
  own_runs known e v (builtin g of a b u w p q) at n rest vs f fs to deeds k h =
      elim (first n (f ∷ fs) (Evaluate at (Apply (Builtin g of) (pair a b))) rest
      (Evaluate (at ++ Operand 0 ∷ []) a ∷ Evaluate (at ++ Operand 1 ∷ []) b ∷ Finish at (Builtin g of) 2 ∷ rest) vs vs
      to deeds refl h) [
        | inl s ↦ inl s
        | inr h1 ↦ elim (own_runs known a u p (at ++ Operand 0 ∷ []) n (Evaluate (at ++ Operand 1 ∷ []) b ∷
            Finish at (Builtin g of) 2 ∷ rest) vs f fs to deeds k h1) [
              | inl s ↦ inl (wider (Evaluate (at ++ Operand 1 ∷ []) b ∷ Finish at (Builtin g of) 2 ∷ []) rest n (f ∷
                  fs) to deeds s)
              | inr h2 ↦ elim (own_runs known b w q (at ++ Operand 1 ∷ []) n (Finish at (Builtin g of) 2 ∷ rest)
                  (u ∷ vs) f fs to deeds k h2) [
                    | inl s ↦ inl (wider (Finish at (Builtin g of) 2 ∷ []) rest n (f ∷ fs) to deeds s)
                    | inr h3 ↦ first n (f ∷ fs) (Finish at (Builtin g of) 2) rest rest (w ∷ u ∷ vs)
                        (builtin_of g of u w (pos 0) ∷ vs) to deeds refl h3
                  ]
            ]
      ]
  own_runs known e v (builtin_one g of a u p) at n rest vs f fs to deeds k h =
      elim (first n (f ∷ fs) (Evaluate at (Apply (Builtin g of) (single a))) rest
      (Evaluate (at ++ Operand 0 ∷ []) a ∷ Finish at (Builtin g of) 1 ∷ rest) vs vs to deeds refl h) [
        | inl s ↦ inl s
        | inr h1 ↦ elim (own_runs known a u p (at ++ Operand 0 ∷ []) n (Finish at (Builtin g of) 1 ∷ rest) vs f fs to
            deeds k h1) [
              | inl s ↦ inl (wider (Finish at (Builtin g of) 1 ∷ []) rest n (f ∷ fs) to deeds s)
              | inr h2 ↦ first n (f ∷ fs) (Finish at (Builtin g of) 1) rest rest (u ∷ vs)
                  (builtin_of g of u (pos 0) (pos 0) ∷ vs) to deeds refl h2
            ]
      ]
  own_runs known e v (builtin_three g of a b c u w x p q r) at n rest vs f fs to deeds k h =
      let L = Finish at (Builtin g of) 3 ∷ rest in
      elim (first n (f ∷ fs) (Evaluate at (Apply (Builtin g of) (more a (pair b c)))) rest
      (Evaluate (at ++ Operand 0 ∷ []) a ∷ Evaluate (at ++ Operand 1 ∷ []) b ∷ Evaluate (at ++ Operand 2 ∷ []) c ∷ L) vs
      vs to deeds refl h) [
        | inl s ↦ inl s
        | inr h1 ↦ elim (own_runs known a u p (at ++ Operand 0 ∷ []) n (Evaluate (at ++ Operand 1 ∷ []) b ∷
            Evaluate (at ++ Operand 2 ∷ []) c ∷ L) vs f fs to deeds k h1) [
              | inl s ↦ inl (wider (Evaluate (at ++ Operand 1 ∷ []) b ∷ Evaluate (at ++ Operand 2 ∷ []) c ∷ Finish at
                  (Builtin g of) 3 ∷ []) rest n (f ∷ fs) to deeds s)
              | inr h2 ↦ elim (own_runs known b w q (at ++ Operand 1 ∷ []) n (Evaluate (at ++ Operand 2 ∷ []) c ∷ L)
                  (u ∷ vs) f fs to deeds k h2) [
                    | inl s ↦ inl (wider (Evaluate (at ++ Operand 2 ∷ []) c ∷ Finish at (Builtin g of) 3 ∷ []) rest n
                        (f ∷ fs) to deeds s)
                    | inr h3 ↦ elim (own_runs known c x r (at ++ Operand 2 ∷ []) n L (w ∷ u ∷ vs) f fs to deeds k h3) [
                      | inl s ↦ inl (wider (Finish at (Builtin g of) 3 ∷ []) rest n (f ∷ fs) to deeds s)
                      | inr h4 ↦ first n (f ∷ fs) (Finish at (Builtin g of) 3) rest rest (x ∷ w ∷ u ∷ vs) (builtin_of g
                          of u w x ∷ vs) to deeds refl h4
                    ]
                  ]
            ]
      ]

  -- ---- what leads to an item

  pub then_further : {a b c : Item} {xs ys : List Deed} → D a xs b → D b ys c → D a (xs ++ ys) c
  then_further nothing h = h
  then_further (going e d) h = going e (then_further d h)
  then_further (doing e d) h = doing e (then_further d h)

  pub one_step : (i j : Item) → item_next program launch i ≡ Goes j → D i [] j
  one_step i j e = going e nothing

  pub steps_on : (i j k : Item) → D i [] j → item_next program launch j ≡ Goes k → D i [] k
  steps_on i j k d e = then_further d (one_step j k e)

  -- an own expression is evaluated
  pub own_reaches : (known : List Known) (e : Expression) (v : ℤ) → Own known e v →
      (at : Point) (n : ℕ) (rest : List Task)
      (vs : List ℤ) (f : Frame) (fs : List Frame) → Holds known f →
      D (it n (Evaluate at e ∷ rest) vs (f ∷ fs)) [] (it n rest (v ∷ vs) (f ∷ fs))
  own_reaches known e v (literal u of) at n rest vs f fs k =
      one_step (it n (Evaluate at (Apply (Literal u of) none) ∷ rest) vs (f ∷ fs)) (it n rest (u ∷ vs) (f ∷ fs)) refl
  own_reaches known e v (variable x u i) at n rest vs f fs k =
      one_step (it n (Evaluate at (Apply (Variable x) none) ∷ rest) vs (f ∷ fs)) (it n rest (u ∷ vs) (f ∷ fs))
      (ap (λ (w : ℤ). Goes (it n rest (w ∷ vs) (f ∷ fs))) (held known f x u i k))
  own_reaches known e v (unary op of a u p) at n rest vs f fs k =
      let L = Finish at (Unary op of) 1 ∷ rest in
      then_further (one_step (it n (Evaluate at (Apply (Unary op of) (single a)) ∷ rest) vs (f ∷ fs))
      (it n (Evaluate (at ++ Operand 0 ∷ []) a ∷ L) vs (f ∷ fs)) refl)
      (steps_on (it n (Evaluate (at ++ Operand 0 ∷ []) a ∷ L) vs (f ∷ fs)) (it n L (u ∷ vs) (f ∷ fs))
      (it n rest (unary_of op of u ∷ vs) (f ∷ fs))
      (own_reaches known a u p (at ++ Operand 0 ∷ []) n L vs f fs k) refl)
  own_reaches known e v (convert to a u p) at n rest vs f fs k =
      let L = Finish at (Convert to) 1 ∷ rest in
      then_further (one_step (it n (Evaluate at (Apply (Convert to) (single a)) ∷ rest) vs (f ∷ fs))
      (it n (Evaluate (at ++ Operand 0 ∷ []) a ∷ L) vs (f ∷ fs)) refl)
      (steps_on (it n (Evaluate (at ++ Operand 0 ∷ []) a ∷ L) vs (f ∷ fs)) (it n L (u ∷ vs) (f ∷ fs))
      (it n rest (wrap_of to u ∷ vs) (f ∷ fs))
      (own_reaches known a u p (at ++ Operand 0 ∷ []) n L vs f fs k) refl)
  own_reaches known e v (binary op of a b u w p q) at n rest vs f fs k =
      let L = Finish at (Binary op of) 2 ∷ rest in
      let M = Evaluate (at ++ Operand 1 ∷ []) b ∷ L in
      then_further (one_step (it n (Evaluate at (Apply (Binary op of) (pair a b)) ∷ rest) vs (f ∷ fs))
      (it n (Evaluate (at ++ Operand 0 ∷ []) a ∷ M) vs (f ∷ fs)) refl)
      (then_further (own_reaches known a u p (at ++ Operand 0 ∷ []) n M vs f fs k)
      (steps_on (it n M (u ∷ vs) (f ∷ fs)) (it n L (w ∷ u ∷ vs) (f ∷ fs))
      (it n rest (binary_of op of u w ∷ vs) (f ∷ fs))
      (own_reaches known b w q (at ++ Operand 1 ∷ []) n L (u ∷ vs) f fs k) refl))
  own_reaches known e v (builtin g of a b u w p q) at n rest vs f fs k =
      let L = Finish at (Builtin g of) 2 ∷ rest in
      let M = Evaluate (at ++ Operand 1 ∷ []) b ∷ L in
      then_further (one_step (it n (Evaluate at (Apply (Builtin g of) (pair a b)) ∷ rest) vs (f ∷ fs))
      (it n (Evaluate (at ++ Operand 0 ∷ []) a ∷ M) vs (f ∷ fs)) refl)
      (then_further (own_reaches known a u p (at ++ Operand 0 ∷ []) n M vs f fs k)
      (steps_on (it n M (u ∷ vs) (f ∷ fs)) (it n L (w ∷ u ∷ vs) (f ∷ fs))
      (it n rest (builtin_of g of u w (pos 0) ∷ vs) (f ∷ fs))
      (own_reaches known b w q (at ++ Operand 1 ∷ []) n L (u ∷ vs) f fs k) refl))
  own_reaches known e v (builtin_one g of a u p) at n rest vs f fs k =
      let L = Finish at (Builtin g of) 1 ∷ rest in
      then_further (one_step (it n (Evaluate at (Apply (Builtin g of) (single a)) ∷ rest) vs (f ∷ fs))
      (it n (Evaluate (at ++ Operand 0 ∷ []) a ∷ L) vs (f ∷ fs)) refl)
      (steps_on (it n (Evaluate (at ++ Operand 0 ∷ []) a ∷ L) vs (f ∷ fs)) (it n L (u ∷ vs) (f ∷ fs))
      (it n rest (builtin_of g of u (pos 0) (pos 0) ∷ vs) (f ∷ fs))
      (own_reaches known a u p (at ++ Operand 0 ∷ []) n L vs f fs k) refl)
  own_reaches known e v (builtin_three g of a b c u w x p q r) at n rest vs f fs k =
      let L = Finish at (Builtin g of) 3 ∷ rest in
      let N = Evaluate (at ++ Operand 2 ∷ []) c ∷ L in
      let M = Evaluate (at ++ Operand 1 ∷ []) b ∷ N in
      then_further (one_step (it n (Evaluate at (Apply (Builtin g of) (more a (pair b c))) ∷ rest) vs (f ∷ fs))
      (it n (Evaluate (at ++ Operand 0 ∷ []) a ∷ M) vs (f ∷ fs)) refl)
      (then_further (own_reaches known a u p (at ++ Operand 0 ∷ []) n M vs f fs k)
      (then_further (own_reaches known b w q (at ++ Operand 1 ∷ []) n N (u ∷ vs) f fs k)
      (steps_on (it n N (w ∷ u ∷ vs) (f ∷ fs)) (it n L (x ∷ w ∷ u ∷ vs) (f ∷ fs))
      (it n rest (builtin_of g of u w x ∷ vs) (f ∷ fs))
      (own_reaches known c x r (at ++ Operand 2 ∷ []) n L (w ∷ u ∷ vs) f fs k) refl)))
