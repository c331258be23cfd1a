-- Expressions: an item that begins one either stands in it, or has evaluated it as a whole and goes on behind it.
use Rattle.std.proofs.Common.{◌≡◌, ℕ, zero, suc, ◌+◌, ◌<◌, ◌≤◌, ℤ, Bool, true, false, cond, List, [], ◌∷◌, ◌++◌}
use Rattle.std.proofs.Common.{Option, Some, ◌⊎◌, inl, inr, refl, sym, ap, ◌∙◌, subst, arith, append_assoc, append-nil}
use Rattle.wg_num.specs.declared.types.IntType.{IntType}
use Rattle.wg_num.specs.declared.types.Bin.{Bin}
use Rattle.wg_num.specs.Bytes.{value_of_bytes}
use Rattle.cl_model.specs.declared.program.Root.{Root}
use Rattle.cl_model.specs.Tree.{Action, Literal, Variable, Unary, Binary, Builtin, Convert, Ask, Second, Truth}
use Rattle.cl_model.specs.Tree.{Decided, Set, Change, Load, Store, Expression, Apply, Update, Choose, Call}
use Rattle.cl_model.specs.Tree.{Expressions, none, more, Block, Program}
use Rattle.cl_model.specs.Sizes.{Launch}
use Rattle.cl_model.specs.Calls.{function_at}
use Rattle.cl_model.specs.Values.{is_zero}
use Rattle.cl_model.specs.Task.{Leg, Operand, Own, Tested, Chosen, Other, Into, Point, Task, Run, Evaluate, Finish}
use Rattle.cl_model.specs.Task.{Peek, Alter, Decide, Enter, InCall, Frame, Item, first_point}
use Rattle.cl_model.specs.Steps.{last, below, nth, changed, each_operand, count_of, action_next, item_next, new_frame}
use Rattle.cl_model.specs.Steps.{passed_object}
use Rattle.cl_model.specs.Valid.{Scope}
use Rattle.diverge_sound.proofs.Ran.{Stand, Held, put, here, Acts, Eval, EvalAll, ComesIn, ComesAt}
use Rattle.diverge_sound.proofs.Parts.{Good, GoodAll, good_apply, good_more, good_update, good_choose, good_call}
use Rattle.diverge_sound.proofs.Values.{InBody, UnderBody, BackBody}
use Rattle.diverge_sound.proofs.Deep.{IsEntered, CallsAt, PointsAt, who, Leads, Past}
use Rattle.diverge_sound.proofs.Behind.{onto, taken_all, below_taken, count_is}

module _ (program : Program) (launch : Launch) (buffers : List (List ℕ)) (number : ℕ) where
  abbrev pub H : ℕ → Item → Item → Type 0
  H n from to = Past program launch buffers n from to

  abbrev pub Later : ℕ → Item → Item → Type 0
  Later n from to = (m : ℕ) × (m < n) × H m from to

  abbrev pub Soon : ℕ → Item → Item → Type 0
  Soon n from to = (m : ℕ) × (m ≤ n) × H m from to

  pub peel : (n : ℕ) (from after to : Item) →
      ((mid : Item) → Leads program launch buffers (item_next program launch from) mid → mid ≡ after) → H n from to →
      (to ≡ from) ⊎ Later n after to
  peel zero from after to one h = inl h
  peel (suc n) from after to one (mid, l, h) = inr (n, omega arith, subst (λ i. H n i to) (one mid l) h)

  module _ (d : ℕ) (f : ℕ) (frame : Frame) (frames : List Frame) where
    abbrev pub it : List Task → List ℤ → Held → Item
    it tasks values s = record {
      number = number;
      tasks = tasks;
      values = values;
      frames = record frame { variables = s.variables } ∷ frames;
    }

    -- the item stands at a point below this one, in these frames
    abbrev pub Stands : Point → (Point → Stand → Type 0) → Item → Type 0
    Stands at C to = (p : Point) × (tops : Stand) × (first_point to.tasks ≡ Some (at ++ p)) ×
        ((to.frames ≡ tops.frames ++ frames) × (last to.values ≡ tops.value)) × C p tops

    pub at_root : (at : Point) (C : Point → Stand → Type 0) (tasks : List Task) (values : List ℤ) (s : Held)
        (to : Item) → to ≡ it tasks values s → first_point tasks ≡ Some at →
        C [] (record { frames = here (who program launch buffers number d frame) s; value = last values }) →
        Stands at C to
    at_root at C tasks values s to e w c = (
      [],
      record { frames = here (who program launch buffers number d frame) s; value = last values },
      ap (λ (i : Item). first_point i.tasks) e ∙ w ∙ ap Some (sym (append-nil at)),
      (ap (λ (i : Item). i.frames) e, ap (λ (i : Item). last i.values) e),
      c,
    )

    pub at_leg : (at p : Point) (C : Point → Stand → Type 0) (tasks : List Task) (values : List ℤ) (s : Held)
        (to : Item) → to ≡ it tasks values s → first_point tasks ≡ Some (at ++ p) →
        C p (record { frames = here (who program launch buffers number d frame) s; value = last values }) →
        Stands at C to
    at_leg at p C tasks values s to e w c = (
      p,
      record { frames = here (who program launch buffers number d frame) s; value = last values },
      ap (λ (i : Item). first_point i.tasks) e ∙ w,
      (ap (λ (i : Item). i.frames) e, ap (λ (i : Item). last i.values) e),
      c,
    )

    pub deeper : (at : Point) (leg : Leg) (C D : Point → Stand → Type 0) (to : Item) →
        ((p : Point) (tops : Stand) → C p tops → D (leg ∷ p) tops) → Stands (at ++ leg ∷ []) C to → Stands at D to
    deeper at leg C D to go (p, tops, w, fr, c) =
        (leg ∷ p, tops, w ∙ ap Some (append_assoc at (leg ∷ []) p), fr, go p tops c)

    pub deeper2 : (at : Point) (a b : Leg) (C D : Point → Stand → Type 0) (to : Item) →
        ((p : Point) (tops : Stand) → C p tops → D (a ∷ b ∷ p) tops) → Stands (at ++ (a ∷ b ∷ [])) C to → Stands at D to
    deeper2 at a b C D to go (p, tops, w, fr, c) =
        (a ∷ b ∷ p, tops, w ∙ ap Some (append_assoc at (a ∷ b ∷ []) p), fr, go p tops c)

    abbrev pub Valued : Expression → Point → ℕ → List Task → List ℤ → Held → Item → Type 0
    Valued e at n rest values s to =
        Stands at (ComesIn (who program launch buffers number d frame) e s) to
        ⊎ ((x : ℤ) × (after : Held) × Eval (who program launch buffers number d frame) e s x after ×
        Later n (it rest (x ∷ values) after) to)

    abbrev pub OperandsRan : Expressions → Point → ℕ → ℕ → List Task → List ℤ → Held → Item → Type 0
    OperandsRan es at k n tasks values s to =
        ((j : ℕ) × (p : Point) × (tops : Stand) × (first_point to.tasks ≡ Some (at ++ (Operand (k + j) ∷ p))) ×
        ((to.frames ≡ tops.frames ++ frames) × (last to.values ≡ tops.value)) ×
        ComesAt (who program launch buffers number d frame) es s j p tops)
        ⊎ ((args : List ℤ) × (after : Held) × EvalAll (who program launch buffers number d frame) es s args after ×
        Soon n (it tasks (onto args values) after) to)

    -- what a call does from its first step on
    abbrev pub Called : ℕ → ℕ → List (Option Root) → List ℤ → Point → ℕ → List Task → List ℤ → Held → Item → Type 0
    Called site g roots args at n rest values s to =
        ((p : Point) × (inner : Stand) × (first_point to.tasks ≡ Some (at ++ (Into ∷ p))) ×
        ((to.frames ≡ inner.frames ++ (here (who program launch buffers number d frame) s ++ frames)) ×
        (last to.values ≡ inner.value)) × PointsAt program launch buffers number d frame site g roots args p
        inner)
        ⊎ (((top : Frame) × (first_point to.tasks ≡ Some (at ++ (Own 1 ∷ []))) × (top.function ≡ g) ×
        (to.frames ≡ top ∷ (here (who program launch buffers number d frame) s ++ frames)))
        ⊎ ((x : ℤ) × CallsAt program launch buffers number d frame site g roots args x ×
        Later n (it rest (x ∷ values) s) to))

    abbrev pub CallRuns : ℕ → Type 0
    CallRuns g = (site : ℕ) (roots : List (Option Root)) (args : List ℤ) (at : Point) (n : ℕ) (rest : List Task)
        (values : List ℤ) (s : Held) (top : Frame) (to : Item) → IsEntered program launch number frame g roots args top
        → H n (record {
          number = number;
          tasks = Run (at ++ Into ∷ []) (Block (function_at program g).body) ∷
              InCall at site ∷ rest;
          values = values;
          frames = top ∷ (here (who program launch buffers number d frame) s ++ frames);
        }) to
        → Called site g roots args at n rest values s to

    -- each function that is called runs so
    abbrev pub CallsRun : Type 0
    CallsRun = (site g : ℕ) (roots : List (Option Root)) (es : Expressions) →
        InBody program f (Call site g roots es) → CallRuns g

    -- the step of an action
    acts_lead : (tasks : List Task) (vs : List ℤ) (action : Action) (args values : List ℤ) (rest : List Task)
        (s : Held) (mid : Item) → Leads program launch buffers (action_next program launch (it tasks vs s) action args
        values rest) mid
        → (x : ℤ) × (after : Held) × Acts (who program launch buffers number d frame) action args s x after ×
        (mid ≡ it rest (x ∷ values) after)
    acts_lead tasks vs (Literal value of) args values rest s mid l = (_, s, (refl, refl), l)
    acts_lead tasks vs (Variable y) args values rest s mid l = (_, s, (refl, refl), l)
    acts_lead tasks vs (Unary op of) args values rest s mid l = (_, s, (refl, refl), l)
    acts_lead tasks vs (Binary op of) args values rest s mid l = (_, s, (refl, refl), l)
    acts_lead tasks vs (Builtin g of) args values rest s mid l = (_, s, (refl, refl), l)
    acts_lead tasks vs (Convert t) args values rest s mid l = (_, s, (refl, refl), l)
    acts_lead tasks vs (Ask what) args values rest s mid l = (_, s, (refl, refl), l)
    acts_lead tasks vs Second args values rest s mid l = (_, s, (refl, refl), l)
    acts_lead tasks vs Truth args values rest s mid l = (_, s, (refl, refl), l)
    acts_lead tasks vs (Decided answer) args values rest s mid l = (_, s, (refl, refl), l)
    acts_lead tasks vs (Set y) args values rest s mid l = (_, put s y (nth args 0), (refl, refl), l)
    acts_lead tasks vs (Change y op of back old) args values rest s mid l =
        (_, put s y (changed op of back (nth args 0) (nth args 1)), (refl, refl), l)
    acts_lead tasks vs (Load site element root) args values rest s mid (bytes, told, l) =
        (value_of_bytes element bytes, s, ((bytes, told, refl), refl), l)
    acts_lead tasks vs (Store site element root) args values rest s mid l = (_, s, (refl, refl), l)

    -- behind the operands of an action
    finished : (action : Action) (es : Expressions) (at : Point) (n m : ℕ) (rest : List Task) (values : List ℤ)
        (s mid : Held) (args : List ℤ) (to : Item) → m < n →
        EvalAll (who program launch buffers number d frame) es s args mid
        → H m (it (Finish at action (count_of es) ∷ rest) (onto args values) mid) to →
        Valued (Apply action es) at n rest values s to
    finished action es at n zero rest values s mid args to lt v h =
        inl (at_leg at (Own 0 ∷ []) (ComesIn (who program launch buffers number d frame) (Apply action es) s)
        (Finish at action (count_of es) ∷ rest) (onto args values) mid to h refl (args, mid, v, refl))
    finished action es at n (suc m) rest values s mid args to lt v (next, l, h) =
        let c = count_is (who program launch buffers number d frame) es s args mid v in
        let l1 =
        subst (λ xs. Leads program launch buffers
        (action_next program launch (it (Finish at action (count_of es) ∷ rest) (onto args values) mid) action
        xs (below (count_of es) (onto args values)) rest) next) (taken_all args values (count_of es) c) l in
        let l2 =
        subst (λ xs. Leads program launch buffers
        (action_next program launch (it (Finish at action (count_of es) ∷ rest) (onto args values) mid) action
        args xs rest) next) (below_taken args values (count_of es) c) l1 in
        let (x, after, a, e) =
        acts_lead (Finish at action (count_of es) ∷ rest) (onto args values) action args values rest mid next l2 in
        inr (x, after, (args, mid, v, a), (m, omega arith, subst (λ i. H m i to) e h))

    module _ (called : CallsRun) where
      entered_new : (tasks : List Task) (values : List ℤ) (s : Held) (site g : ℕ) (roots : List (Option Root))
          (args : List ℤ) → IsEntered program launch number frame g roots args
          (new_frame program launch (it tasks values s) site g roots args)
      entered_new tasks values s site g roots args = record {
        function = refl;
        variables = λ x. refl;
        objects = λ n root e. ap (passed_object program launch (it tasks values s)) e;
      }

      -- behind the arguments of a call
      entering : (site g : ℕ) (roots : List (Option Root)) (es : Expressions) →
          InBody program f (Call site g roots es) →
          (at : Point) (n m : ℕ) (rest : List Task) (values : List ℤ) (s mid : Held) (args : List ℤ) (to : Item) →
          m < n → EvalAll (who program launch buffers number d frame) es s args mid
          → H m (it (Enter at site g roots (count_of es) ∷ rest) (onto args values) mid) to →
          Valued (Call site g roots es) at n rest values s to
      entering site g roots es inside at n zero rest values s mid args to lt v h =
          inl (at_leg at (Own 0 ∷ []) (ComesIn (who program launch buffers number d frame) (Call site g roots es) s)
          (Enter at site g roots (count_of es) ∷ rest) (onto args values) mid to h refl (args, mid, v, refl))
      entering site g roots es inside at n (suc m) rest values s mid args to lt v (next, l, h) =
          let c = count_is (who program launch buffers number d frame) es s args mid v in
          let tasks : List Task = Run (at ++ Into ∷ []) (Block (function_at program g).body) ∷ InCall at site ∷ rest in
          let i : Item = it (Enter at site g roots (count_of es) ∷ rest) (onto args values) mid in
          let after : List ℤ → List ℤ → Item = λ xs ys. record {
            number = number;
            tasks = tasks;
            values = ys;
            frames = new_frame program launch i site g roots xs ∷
                (here (who program launch buffers number d frame) mid ++ frames);
          } in
          let e : next ≡ after args values =
          l ∙ ap (λ xs. after xs (below (count_of es) (onto args values)))
          (taken_all args values (count_of es) c) ∙
          ap (λ ys. after args ys) (below_taken args values (count_of es) c) in
          elim (called site g roots es inside site roots args at m rest values mid
          (new_frame program launch i site g roots args) to
          (entered_new (Enter at site g roots (count_of es) ∷ rest) (onto args values) mid site g roots args)
          (subst (λ j. H m j to) e h)) [
            | inl (p, inner, w, fr, x) ↦ inl (
              Into ∷ p,
              record {
                frames = inner.frames ++ here (who program launch buffers number d frame) mid;
                value = inner.value;
              },
              w,
              (
                fr.0 ∙
                    sym (append_assoc inner.frames (here (who program launch buffers number d frame) mid) frames),
                fr.1,
              ),
              (args, mid, inner.frames, v, x, refl),
            )
            | inr (inl (top, w, is, fr)) ↦
                inl (
                  Own 1 ∷ [],
                  record {
                    frames = top ∷ here (who program launch buffers number d frame) mid;
                    value = last to.values;
                  },
                  w,
                  (fr, refl),
                  (args, mid, top, v, is, refl),
                )
            | inr (inr (x, y, (k, lk, hk))) ↦ inr (x, mid, (args, v, y), (k, omega arith, hk))
          ]

      -- an update whose index is there: the load, the value and the store
      peeked : (site : ℕ) (element : IntType) (root : Root) (op : Bin) (of back : IntType) (old : Bool)
          (index value : Expression)
          → ((at : Point) (n : ℕ) (rest : List Task) (values : List ℤ) (s : Held) (to : Item) →
          H n (it (Evaluate at value ∷ rest) values s) to → Valued value at n rest values s to)
          → (at : Point) (n m : ℕ) (rest : List Task) (values : List ℤ) (s mid : Held) (i : ℤ) (to : Item) → m < n →
          Eval (who program launch buffers number d frame) index s i mid
          → H m (it (Peek at site element root ∷ Evaluate (at ++ Operand 1 ∷ []) value ∷
          Alter at site element root op of back old ∷ rest) (i ∷ values) mid) to →
          Valued (Update site element root op of back old index value) at n rest values s to
      peeked site element root op of back old index value run at n zero rest values s mid i to lt vi h =
          inl (at_leg at (Own 0 ∷ []) (ComesIn (who program launch buffers number d frame)
          (Update site element root op of back old index value) s) (Peek at site element root ∷
          Evaluate (at ++ Operand 1 ∷ []) value ∷ Alter at site element root op of back old ∷ rest)
          (i ∷ values) mid to h refl (i, mid, vi, refl))
      peeked site element root op of back old index value run at n (suc m) rest values s mid i to lt vi (
        next,
        (bytes, told, l),
        h,
      ) =
          let was : ℤ = value_of_bytes element bytes in
          elim (run (at ++ Operand 1 ∷ []) m (Alter at site element root op of back old ∷ rest) (was ∷ i ∷ values) mid
          to (subst (λ j. H m j to) l h)) [
            | inl w ↦ inl (deeper at (Operand 1) (ComesIn (who program launch buffers number d frame) value mid)
                (ComesIn (who program launch buffers number d frame) (Update site element root op of back old index
                value) s) to (λ p tops c. (i, mid, vi, c)) w)
            | inr (v, end, vv, (m2, lt2, h2)) ↦
                elim (peel m2 _ (it rest (cond old was (changed op of back was v) ∷ values) end) to (λ next l. l) h2) [
                  | inl q ↦ inl (at_leg at (Own 1 ∷ []) (ComesIn (who program launch buffers number d frame)
                      (Update site element root op of back old index value) s)
                      (Alter at site element root op of back old ∷ rest) (v ∷ was ∷ i ∷ values) end to q refl (
                        i,
                        v,
                        mid,
                        end,
                        vi,
                        vv,
                        refl,
                      ))
                  | inr (m3, lt3, h3) ↦ inr (
                    cond old was (changed op of back was v),
                    end,
                    (i, v, mid, vi, vv),
                    (m3, omega arith, h3),
                  )
                ]
          ]

      mutual
        pub evaluate_runs : (e : Expression) (scope : Scope) →
            Good (InBody program f) (UnderBody program f) (BackBody program f) scope e →
            (at : Point) (n : ℕ) (rest : List Task) (values : List ℤ) (s : Held) (to : Item)
            → H n (it (Evaluate at e ∷ rest) values s) to → Valued e at n rest values s to
        evaluate_runs (Apply action none) scope ok at zero rest values s to h =
            inl (at_root at (ComesIn (who program launch buffers number d frame) (Apply action none) s)
            (Evaluate at (Apply action none) ∷ rest) values s to h refl refl)
        evaluate_runs (Apply action none) scope ok at (suc n) rest values s to (next, l, h) =
            let (x, after, a, e) =
            acts_lead (Evaluate at (Apply action none) ∷ rest) values action [] values rest s next l in
            inr (x, after, ([], s, (refl, refl), a), (n, omega arith, subst (λ i. H n i to) e h))
        evaluate_runs (Apply action (more e es)) scope ok at n rest values s to h =
            elim (peel n _ (it (each_operand at 0 (more e es) (Finish at action (count_of (more e es)) ∷ rest)) values
            s) to (λ mid l. l) h) [
              | inl q ↦
                  inl (at_root at (ComesIn (who program launch buffers number d frame) (Apply action (more e es)) s)
                  (Evaluate at (Apply action (more e es)) ∷ rest) values s to q refl refl)
              | inr (m, lt, h1) ↦ elim (operands_run (more e es) scope
                  (good_apply (InBody program f) (UnderBody program f) (BackBody program f) scope action (more e es)
                  ok).1 at 0 m (Finish at action (count_of (more e es)) ∷ rest) values s to h1) [
                    | inl (j, p, tops, w, fr, c) ↦ let z : 0 + j ≡ j = omega arith in
                        inl (
                          Operand j ∷ p,
                          tops,
                          subst (λ k. first_point to.tasks ≡ Some (at ++ (Operand k ∷ p))) z w,
                          fr,
                          c,
                        )
                    | inr (args, mid, v, (m2, le, h2)) ↦
                        finished action (more e es) at n m2 rest values s mid args to (omega arith) v h2
                  ]
            ]
        evaluate_runs (Update site element root op of back old index value) scope ok at n rest values s to h =
            let o = good_update (InBody program f) (UnderBody program f) (BackBody program f) scope site element root
            op of back old index value ok in
            elim (peel n _ (it (Evaluate (at ++ Operand 0 ∷ []) index ∷ Peek at site element root ∷
            Evaluate (at ++ Operand 1 ∷ []) value ∷ Alter at site element root op of back old ∷ rest) values
            s) to (λ mid l. l) h) [
              | inl q ↦
                  inl (at_root at (ComesIn (who program launch buffers number d frame)
                  (Update site element root op of back old index value) s)
                  (Evaluate at (Update site element root op of back old index value) ∷ rest) values s to q refl refl)
              | inr (m, lt, h1) ↦ elim (evaluate_runs index scope o.0 (at ++ Operand 0 ∷ []) m _ values s to h1) [
                | inl w ↦ inl (deeper at (Operand 0) (ComesIn (who program launch buffers number d frame) index s)
                    (ComesIn (who program launch buffers number d frame)
                    (Update site element root op of back old index value) s) to (λ p tops c. c) w)
                | inr (i, mid, vi, (m2, lt2, h2)) ↦
                    peeked site element root op of back old index value (evaluate_runs value scope o.1) at n m2 rest
                    values s mid i to (omega arith) vi h2
              ]
            ]
        evaluate_runs (Choose site t a b) scope ok at n rest values s to h =
            let o = good_choose (InBody program f) (UnderBody program f) (BackBody program f) scope site t a b ok in
            elim (peel n _ (it (Evaluate (at ++ Tested ∷ []) t ∷ Decide at a b ∷ rest) values s) to (λ mid l. l) h) [
              | inl q ↦ inl (at_root at (ComesIn (who program launch buffers number d frame) (Choose site t a b) s)
                  (Evaluate at (Choose site t a b) ∷ rest) values s to q refl refl)
              | inr (m, lt, h1) ↦ elim (evaluate_runs t scope o.1 (at ++ Tested ∷ []) m _ values s to h1) [
                | inl w ↦ inl (deeper at Tested (ComesIn (who program launch buffers number d frame) t s)
                    (ComesIn (who program launch buffers number d frame) (Choose site t a b) s) to (λ p tops c. c) w)
                | inr (v, mid, e, (m2, lt2, h2)) ↦
                    elim (peel m2 _ (it (cond (is_zero v) (Evaluate (at ++ Other ∷ []) b)
                    (Evaluate (at ++ Chosen ∷ []) a) ∷ rest) values mid) to (λ next l. l) h2) [
                      | inl q ↦ inl (at_leg at (Own 0 ∷ []) (ComesIn (who program launch buffers number d frame)
                          (Choose site t a b) s) (Decide at a b ∷ rest) (v ∷ values) mid to q refl (
                            v,
                            mid,
                            e,
                            refl,
                            refl,
                          ))
                      | inr (m3, lt3, h3) ↦
                          elim (is_zero v) as (λ z. is_zero v ≡ z →
                          H m3 (it (cond z (Evaluate (at ++ Other ∷ []) b) (Evaluate (at ++ Chosen ∷ []) a) ∷ rest)
                          values mid) to → Valued (Choose site t a b) at n rest values s to) [
                            | true ↦ λ z h3.
                                elim (evaluate_runs b scope o.3 (at ++ Other ∷ []) m3 rest values mid to h3) [
                                  | inl w ↦ inl (deeper at Other
                                      (ComesIn (who program launch buffers number d frame) b mid)
                                      (ComesIn (who program launch buffers number d frame) (Choose site t a b) s) to
                                      (λ p tops c. (v, mid, e, c)) w)
                                  | inr (x, end, y, (m4, lt4, h4)) ↦
                                      inr (x, end, (v, mid, e, inr (z, y)), (m4, omega arith, h4))
                                ]
                            | false ↦ λ z h3. elim (evaluate_runs a scope o.2 (at ++ Chosen ∷ []) m3 rest values mid to
                                h3) [
                                  | inl w ↦ inl (deeper at Chosen
                                      (ComesIn (who program launch buffers number d frame) a mid)
                                      (ComesIn (who program launch buffers number d frame) (Choose site t a b) s) to
                                      (λ p tops c. (v, mid, e, c)) w)
                                  | inr (x, end, y, (m4, lt4, h4)) ↦
                                      inr (x, end, (v, mid, e, inl (z, y)), (m4, omega arith, h4))
                                ]
                          ] refl h3
                    ]
              ]
            ]
        evaluate_runs (Call site g roots es) scope ok at n rest values s to h =
            let o = good_call (InBody program f) (UnderBody program f) (BackBody program f) scope site g roots es ok in
            elim (peel n _ (it (each_operand at 0 es (Enter at site g roots (count_of es) ∷ rest)) values s) to
            (λ mid l. l) h) [
              | inl q ↦ inl (at_root at (ComesIn (who program launch buffers number d frame) (Call site g roots es) s)
                  (Evaluate at (Call site g roots es) ∷ rest) values s to q refl refl)
              | inr (m, lt, h1) ↦ elim (operands_run es scope o.1 at 0 m (Enter at site g roots (count_of es) ∷ rest)
                  values s to h1) [
                    | inl (j, p, tops, w, fr, c) ↦ let z : 0 + j ≡ j = omega arith in
                        inl (
                          Operand j ∷ p,
                          tops,
                          subst (λ k. first_point to.tasks ≡ Some (at ++ (Operand k ∷ p))) z w,
                          fr,
                          c,
                        )
                    | inr (args, mid, v, (m2, le, h2)) ↦
                        entering site g roots es o.0 at n m2 rest values s mid args to (omega arith) v h2
                  ]
            ]

        pub operands_run : (es : Expressions) (scope : Scope) →
            GoodAll (InBody program f) (UnderBody program f) (BackBody program f) scope es →
            (at : Point) (k n : ℕ) (tasks : List Task) (values : List ℤ) (s : Held) (to : Item)
            → H n (it (each_operand at k es tasks) values s) to → OperandsRan es at k n tasks values s to
        operands_run none scope ok at k n tasks values s to h = inr ([], s, (refl, refl), (n, omega arith, h))
        operands_run (more e rest) scope ok at k n tasks values s to h =
            let o = good_more (InBody program f) (UnderBody program f) (BackBody program f) scope e rest ok in
            elim (evaluate_runs e scope o.0 (at ++ Operand k ∷ []) n (each_operand at (suc k) rest tasks) values s to
            h) [
              | inl (p, tops, w, fr, c) ↦ let z : k ≡ k + 0 = omega arith in
                  inl (
                    0,
                    p,
                    tops,
                    subst (λ i. first_point to.tasks ≡ Some (at ++ (Operand i ∷ p))) z (w ∙
                        ap Some (append_assoc at (Operand k ∷ []) p)),
                    fr,
                    c,
                  )
              | inr (x, mid, vx, (m, lt, h1)) ↦
                  elim (operands_run rest scope o.1 at (suc k) m tasks (x ∷ values) mid to h1) [
                    | inl (j, p, tops, w, fr, c) ↦ let z : suc k + j ≡ k + suc j = omega arith in
                        inl (
                          suc j,
                          p,
                          tops,
                          subst (λ i. first_point to.tasks ≡ Some (at ++ (Operand i ∷ p))) z w,
                          fr,
                          (x, mid, vx, c),
                        )
                    | inr (xs, after, v, (m2, le, h2)) ↦ inr (
                      x ∷ xs,
                      after,
                      (x, xs, mid, vx, v, refl),
                      (m2, omega arith, h2),
                    )
                  ]
            ]
