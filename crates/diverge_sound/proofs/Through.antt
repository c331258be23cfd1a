-- Statements: an item that begins one either stands in it, or has run it as a whole and goes on behind it.
use Rattle.std.proofs.Common.{◌≡◌, ◌≢◌, ℕ, zero, suc, ◌+◌, ◌<◌, ◌≤◌, ℤ, pos, Bool, true, false, cond, List, [], ◌∷◌}
use Rattle.std.proofs.Common.{◌++◌, Option, Some, None, ◌⊎◌, inl, inr, refl, sym, ap, ◌∙◌, subst, arith, append_assoc}
use Rattle.work_items.specs.Items.{Goes, Begins}
use Rattle.cl_model.specs.Tree.{Expression, Expressions, Statement, Do, Declare, Fill, Block, If, Loop, Switch, Break}
use Rattle.cl_model.specs.Tree.{Continue, Return, Barrier, Statements, empty, also, Arms, no_arm, arm, Program}
use Rattle.cl_model.specs.Sizes.{Launch}
use Rattle.cl_model.specs.Values.{is_zero}
use Rattle.cl_model.specs.Task.{Leg, Operand, Own, Tested, Chosen, Other, Nth, Turn, Body, Step, Arm, Point, Task}
use Rattle.cl_model.specs.Task.{Run, Evaluate, Discard, Keep, Clear, Initialise, Branch, InLoop, Select, InSwitch}
use Rattle.cl_model.specs.Task.{Leave, Frame, Item, first_point}
use Rattle.cl_model.specs.Steps.{last, before, below, each_operand, count_of, in_order, test_tasks, step_tasks}
use Rattle.cl_model.specs.Steps.{iteration, behind_break, behind_continue, behind_return, entry_of, arm_tasks}
use Rattle.cl_model.specs.Steps.{entry_tasks, initial_tasks, item_next}
use Rattle.cl_model.specs.Valid.{Scope, scope_after}
use Rattle.diverge_sound.proofs.Ran.{Stand, Found, Held, put, answered, How, Normal, Broke, Continued, Returned, Who}
use Rattle.diverge_sound.proofs.Ran.{here, Eval, EvalAll, Steps, Passes, Fails, GoesOn, Iterates, Loops, Enters, Begun}
use Rattle.diverge_sound.proofs.Ran.{Heads, Exec, ExecAll, ExecArms, Reaches, entered, ComesIn, ComesInOptional, Comes}
use Rattle.diverge_sound.proofs.Ran.{ComesAmong, ComesArm}
use Rattle.diverge_sound.proofs.Parts.{Good, GoodOptional, GoodRun, GoodList, GoodArms, good_do, good_declare}
use Rattle.diverge_sound.proofs.Parts.{good_fill, good_block, good_if, good_loop, good_switch, good_return, good_also}
use Rattle.diverge_sound.proofs.Parts.{good_arm}
use Rattle.diverge_sound.proofs.Values.{InBody, UnderBody, BackBody}
use Rattle.diverge_sound.proofs.Deep.{who, Leads}
use Rattle.diverge_sound.proofs.Behind.{onto, taken_all, below_taken, count_is, break_in_order, continue_in_order}
use Rattle.diverge_sound.proofs.Behind.{return_in_order, break_arms, continue_arms, return_arms, turn_tasks}
use Rattle.diverge_sound.proofs.Behind.{break_turn, continue_turn, return_turn, return_same, arms_from, entry_is}
use Rattle.diverge_sound.proofs.Inside.{H, Later, Soon, peel, it, Stands, at_root, at_leg, deeper, deeper2, CallsRun}
use Rattle.diverge_sound.proofs.Inside.{evaluate_runs, operands_run}

pub from_first : (arms : Arms) → arms_from zero arms ≡ arms
from_first no_arm = refl
from_first (arm labels other body rest) = refl

-- loops: what begins and ends in iterations is a loop as a whole

module _ (w : Who) (first : Bool) (t st : Option Expression) (b : Statement) where
  -- the iterations so far, and those that follow
  pub unroll : (k n : ℕ) (from start : Held) (how : How) (to : Held) → Begun w first t st (Exec w b) k from start →
      Iterates w t st (Exec w b) n start how to → Loops w first t st (Exec w b) from how to
  unroll zero n from start how to e i = by_first first e
    where
      by_first : (one : Bool) → Enters w one t from start → Loops w one t st (Exec w b) from how to
      by_first true p = inr (start, n, p, i)
      by_first false e = (n, subst (λ s. Iterates w t st (Exec w b) n s how to) e i)
  unroll (suc k) n from start how to (before, mid, e, r, p) i =
      unroll k (suc n) from before how to e (inr (mid, r, inr (start, p, i)))

  -- a test that fails
  pub fails_at : (k : ℕ) (from head to : Held) → Heads w first t st (Exec w b) k from head → Fails w t head to →
      Loops w first t st (Exec w b) from Normal to
  fails_at zero from head to (one, e) x =
      subst (λ z. Loops w z t st (Exec w b) from Normal to) (sym one) (inl (subst (λ s. Fails w t s to) e x, refl))
  fails_at (suc k) from head to (start, e, r) x = unroll k 1 from start Normal to e (inr (head, r, inl (x, refl)))

  -- a test that passes
  pub begun_at : (k : ℕ) (from head to : Held) → Heads w first t st (Exec w b) k from head → Passes w t head to →
      Begun w first t st (Exec w b) k from to
  begun_at zero from head to (one, e) x = subst (λ z. Enters w z t from to) (sym one) (subst (λ s. Passes w t s to) e x)
  begun_at (suc k) from head to (start, e, r) x = (start, head, e, r, x)

module _ (program : Program) (launch : Launch) (buffers : List (List ℕ)) (number : ℕ) (d : ℕ) (f : ℕ) (frame : Frame)
    (frames : List Frame) (called : CallsRun program launch buffers number d f frame frames) where
  abbrev W : Who
  W = who program launch buffers number d frame

  abbrev I : List Task → List ℤ → Held → Item
  I = it program launch buffers number d f frame frames

  abbrev HH : ℕ → Item → Item → Type 0
  HH = H program launch buffers number

  abbrev LL : ℕ → Item → Item → Type 0
  LL = Later program launch buffers number

  abbrev SS : ℕ → Item → Item → Type 0
  SS = Soon program launch buffers number

  abbrev St : Point → (Point → Stand → Type 0) → Item → Type 0
  St = Stands program launch buffers number d f frame frames

  root : (at : Point) (C : Point → Stand → Type 0) (tasks : List Task) (values : List ℤ) (s : Held) (to : Item) →
      to ≡ I tasks values s → first_point tasks ≡ Some at → C [] (record { frames = here W s; value = last values }) →
      St at C to
  root = at_root program launch buffers number d f frame frames

  leg : (at p : Point) (C : Point → Stand → Type 0) (tasks : List Task) (values : List ℤ) (s : Held) (to : Item) →
      to ≡ I tasks values s → first_point tasks ≡ Some (at ++ p) →
      C p (record { frames = here W s; value = last values }) → St at C to
  leg = at_leg program launch buffers number d f frame frames

  down : (at : Point) (l : Leg) (C D : Point → Stand → Type 0) (to : Item) →
      ((p : Point) (tops : Stand) → C p tops → D (l ∷ p) tops) → St (at ++ l ∷ []) C to → St at D to
  down = deeper program launch buffers number d f frame frames

  down2 : (at : Point) (a b : Leg) (C D : Point → Stand → Type 0) (to : Item) →
      ((p : Point) (tops : Stand) → C p tops → D (a ∷ b ∷ p) tops) → St (at ++ (a ∷ b ∷ [])) C to → St at D to
  down2 = deeper2 program launch buffers number d f frame frames

  abbrev GE : Scope → Expression → Type 0
  GE = Good (InBody program f) (UnderBody program f) (BackBody program f)

  abbrev GR : Scope → Statement → Type 0
  GR = GoodRun (InBody program f) (UnderBody program f) (BackBody program f)

  abbrev GL : Scope → Statements → Type 0
  GL = GoodList (InBody program f) (UnderBody program f) (BackBody program f)

  abbrev GM : Scope → Arms → Type 0
  GM = GoodArms (InBody program f) (UnderBody program f) (BackBody program f)

  -- the item behind a statement that ended so
  abbrev pub left : How → List Task → List ℤ → Held → Item
  left Normal rest values s = I rest values s
  left Broke rest values s = I (behind_break rest) values s
  left Continued rest values s = I (behind_continue rest) values s
  left Returned rest values s = behind_return (I [] [] s) rest (s.answer ∷ values)

  left_in_order : (how : How) → how ≢ Normal →
      (at : Point) (k : ℕ) (list : Statements) (rest : List Task) (values : List ℤ) (s : Held) →
      left how (in_order at k list rest) values s ≡ left how rest values s
  left_in_order Normal ne at k list rest values s = absurd (ne refl)
  left_in_order Broke ne at k list rest values s = ap (λ ts. I ts values s) (break_in_order at k list rest)
  left_in_order Continued ne at k list rest values s = ap (λ ts. I ts values s) (continue_in_order at k list rest)
  left_in_order Returned ne at k list rest values s = return_in_order (I [] [] s) (s.answer ∷ values) at k list rest

  left_arms : (how : How) → how ≢ Normal →
      (at : Point) (k : ℕ) (arms : Arms) (rest : List Task) (values : List ℤ) (s : Held) →
      left how (arm_tasks at k arms rest) values s ≡ left how rest values s
  left_arms Normal ne at k arms rest values s = absurd (ne refl)
  left_arms Broke ne at k arms rest values s = ap (λ ts. I ts values s) (break_arms at k arms rest)
  left_arms Continued ne at k arms rest values s = ap (λ ts. I ts values s) (continue_arms at k arms rest)
  left_arms Returned ne at k arms rest values s = return_arms (I [] [] s) (s.answer ∷ values) at k arms rest

  abbrev pub Ran : Statement → Point → ℕ → List Task → List ℤ → Held → Item → Type 0
  Ran s at n rest values from to =
      St at (Comes W s from) to ⊎ ((how : How) × (after : Held) × Exec W s from how after ×
      LL n (left how rest values after) to)

  abbrev RanAll : Statements → Point → ℕ → ℕ → List Task → List ℤ → Held → Item → Type 0
  RanAll list at k n rest values from to =
      ((j : ℕ) × (p : Point) × (tops : Stand) × (first_point to.tasks ≡ Some (at ++ (Nth (k + j) ∷ p))) ×
      ((to.frames ≡ tops.frames ++ frames) × (last to.values ≡ tops.value)) × ComesAmong W list from j p tops)
      ⊎ ((how : How) × (after : Held) × ExecAll W list from how after × SS n (left how rest values after) to)

  -- a loop

  abbrev LoopRan : ℕ → Bool → (t st : Option Expression) → Statement → Point → ℕ → List Task → List ℤ → Held → Item →
      Type 0
  LoopRan site first t st b at n rest values from to = St at (Comes W (Loop site first t st b) from) to ⊎
      ((how : How) × (after : Held) × Loops W first t st (Exec W b) from how after ×
      SS n (left how rest values after) to)

  module _ (site : ℕ) (first : Bool) (t st : Option Expression) (b : Statement) (scope : Scope)
      (okt : GoodOptional (InBody program f) (UnderBody program f) (BackBody program f) scope t)
      (oks : GoodOptional (InBody program f) (UnderBody program f) (BackBody program f) scope st)
      (at : Point) (rest : List Task) (values : List ℤ) (from : Held) (to : Item)
      (body : (at : Point) (n : ℕ) (rest : List Task) (values : List ℤ) (s : Held) (to : Item) →
      HH n (I (Run at b ∷ rest) values s) to → Ran b at n rest values s to) where
    abbrev C : Point → Stand → Type 0
    C = Comes W (Loop site first t st b) from

    abbrev LR : ℕ → Type 0
    LR n = LoopRan site first t st b at n rest values from to

    longer : (m n : ℕ) → m ≤ n → LR m → LR n
    longer m n le (inl x) = inl x
    longer m n le (inr (how, after, e, (k, l, h))) = inr (how, after, e, (k, omega arith, h))

    abbrev marker : ℕ → List Task
    marker k = InLoop at site t st b k ∷ rest

    -- an iteration that begins within so many steps
    abbrev Anew : ℕ → Type 0
    Anew bound = (m : ℕ) → m < bound → (k : ℕ) (start : Held) → Begun W first t st (Exec W b) k from start →
        HH m (I (iteration at site t st b (suc k) rest) values start) to → LR m

    -- the test is there, or there is none
    decided : (bound : ℕ) → Anew bound → (n k : ℕ) (e : Expression) (head s : Held) (x : ℤ) → t ≡ Some e → n < bound →
        Heads W first t st (Exec W b) k from head → Eval W e head x s → HH n (I (marker k) (x ∷ values) s) to → LR n
    decided bound again zero k e head s x is lt hd vx h =
        inl (leg at (Turn k ∷ Own 0 ∷ []) C (marker k) (x ∷ values) s to h refl (
          head,
          s,
          hd,
          subst (λ o. Found W o head s x) (sym is) vx,
          refl,
        ))
    decided bound again (suc n) k e head s x is lt hd vx (mid, l, h) =
        elim (is_zero x) as (λ z. is_zero x ≡ z →
        Leads program launch buffers (cond z (Goes (I rest values s))
        (Begins (I (iteration at site (Some e) st b (suc k) rest) values s))) mid → LR (suc n)) [
          | true ↦ λ z l. inr (
            Normal,
            s,
            fails_at W first t st b k from head s hd (subst (λ o. Fails W o head s) (sym is) (x, vx, z)),
            (n, omega arith, subst (λ i. HH n i to) l h),
          )
          | false ↦ λ z l. longer n (suc n) (omega arith)
              (again n (omega arith) k s (begun_at W first t st b k from head s hd
              (subst (λ o. Passes W o head s) (sym is) (x, vx, z)))
              (subst (λ o. HH n (I (iteration at site o st b (suc k) rest) values s) to) (sym is)
              (subst (λ i. HH n i to) l h)))
        ] refl (subst (λ o. Leads program launch buffers
        (item_next program launch (I (InLoop at site o st b k ∷ rest) (x ∷ values) s)) mid) is l)

    untested : (bound : ℕ) → Anew bound → (n k : ℕ) (head : Held) → t ≡ None → n < bound →
        Heads W first t st (Exec W b) k from head → HH n (I (marker k) values head) to → LR n
    untested bound again zero k head is lt hd h =
        inl (leg at (Turn k ∷ Own 0 ∷ []) C (marker k) values head to h refl (
          head,
          head,
          hd,
          subst (λ o. Found W o head head (last values)) (sym is) refl,
          refl,
        ))
    untested bound again (suc n) k head is lt hd (mid, l, h) =
        let l1 =
        subst (λ o. Leads program launch buffers
        (item_next program launch (I (InLoop at site o st b k ∷ rest) values head)) mid) is l in
        longer n (suc n) (omega arith)
        (again n (omega arith) k head (begun_at W first t st b k from head head hd
        (subst (λ o. Passes W o head head) (sym is) refl))
        (subst (λ o. HH n (I (iteration at site o st b (suc k) rest) values head) to) (sym is)
        (subst (λ i. HH n i to) l1 h)))

    -- the test begins
    tested : (bound : ℕ) → Anew bound → (n k : ℕ) (head : Held) → n < bound →
        Heads W first t st (Exec W b) k from head → HH n (I (test_tasks at k t (marker k)) values head) to → LR n
    tested bound again n k head lt hd h = by_test t refl okt h
      where
        by_test : (o : Option Expression) → t ≡ o →
            GoodOptional (InBody program f) (UnderBody program f) (BackBody program f) scope o →
            HH n (I (test_tasks at k o (marker k)) values head) to → LR n
        by_test None is ok h = untested bound again n k head is lt hd h
        by_test (Some e) is ok h =
            elim (evaluate_runs program launch buffers number d f frame frames called e scope ok
            (at ++ (Turn k ∷ Tested ∷ [])) n (marker k) values head to h) [
              | inl w ↦ inl (down2 at (Turn k) Tested (ComesIn W e head) C to (λ p tops c. (
                head,
                hd,
                subst (λ o. ComesInOptional W o head p tops) (sym is) c,
              )) w)
              | inr (x, s, vx, (m, lt1, h1)) ↦
                  longer m n (omega arith) (decided bound again m k e head s x is (omega arith) hd vx h1)
            ]

    -- the step begins
    stepped : (bound : ℕ) → Anew bound → (n k : ℕ) (start mid : Held) (how : How) → n < bound →
        Begun W first t st (Exec W b) k from start → Exec W b start how mid → GoesOn how
        → HH n (I (step_tasks at (suc k) st (test_tasks at (suc k) t (marker (suc k)))) values mid) to → LR n
    stepped bound again n k start mid how lt bg e go h = by_step st refl oks h
      where
        by_step : (o : Option Expression) → st ≡ o →
            GoodOptional (InBody program f) (UnderBody program f) (BackBody program f) scope o →
            HH n (I (step_tasks at (suc k) o (test_tasks at (suc k) t (marker (suc k)))) values mid) to → LR n
        by_step None is ok h = tested bound again n (suc k) mid lt (
          start,
          bg,
          (how, mid, e, go, subst (λ o. Steps W o mid mid) (sym is) refl),
        ) h
        by_step (Some c) is ok h =
            elim (evaluate_runs program launch buffers number d f frame frames called c scope ok
            (at ++ (Turn (suc k) ∷ Step ∷ [])) n (Discard (at ++ (Turn (suc k) ∷ Own 1 ∷ [])) ∷
            test_tasks at (suc k) t (marker (suc k))) values mid to h) [
              | inl w ↦ inl (down2 at (Turn (suc k)) Step (ComesIn W c mid) C to (λ p tops x. (
                start,
                how,
                mid,
                bg,
                e,
                go,
                subst (λ o. ComesInOptional W o mid p tops) (sym is) x,
              )) w)
              | inr (x, s, vx, (m, lt1, h1)) ↦
                  let hd : Heads W first t st (Exec W b) (suc k) from s =
                  (start, bg, (how, mid, e, go, subst (λ o. Steps W o mid s) (sym is) (x, vx))) in
                  elim (peel program launch buffers number m _ (I (test_tasks at (suc k) t (marker (suc k))) values s)
                  to (λ next l. l) h1) [
                    | inl q ↦ inl (leg at (Turn (suc k) ∷ Own 1 ∷ []) C (Discard (at ++ (Turn (suc k) ∷ Own 1 ∷ [])) ∷
                        test_tasks at (suc k) t (marker (suc k))) (x ∷ values) s to q refl (s, hd, refl))
                    | inr (m2, lt2, h2) ↦ longer m2 n (omega arith) (tested bound again m2 (suc k) s (omega arith) hd
                        h2)
                  ]
            ]

    -- an iteration begins
    turned : (bound : ℕ) → Anew bound → (n : ℕ) → n ≤ bound → (k : ℕ) (start : Held) →
        Begun W first t st (Exec W b) k from start →
        HH n (I (iteration at site t st b (suc k) rest) values start) to → LR n
    turned bound again n le k start bg h =
        elim (body (at ++ (Turn (suc k) ∷ Body ∷ [])) n (turn_tasks at site (suc k) b rest t st) values start to h) [
          | inl w ↦ inl (down2 at (Turn (suc k)) Body (Comes W b start) C to (λ p tops c. (start, bg, c)) w)
          | inr (how, after, e, (m, lt, h1)) ↦
              elim how as (λ z. Exec W b start z after →
              HH m (left z (turn_tasks at site (suc k) b rest t st) values after) to → LR n) [
                | Normal ↦ λ e h1. longer m n (omega arith) (stepped bound again m k start after Normal (omega arith)
                    bg e tt h1)
                | Continued ↦ λ e h1. longer m n (omega arith) (stepped bound again m k start after Continued
                    (omega arith) bg e tt (subst (λ ts. HH m (I ts values after) to)
                    (continue_turn at site (suc k) b rest t st) h1))
                | Broke ↦ λ e h1. inr (
                  Normal,
                  after,
                  unroll W first t st b k 1 from start Normal after bg (inl (Broke, e, refl)),
                  (
                    m,
                    omega arith,
                    subst (λ ts. HH m (I ts values after) to)
                        (break_turn at site (suc k) b rest t st) h1,
                  ),
                )
                | Returned ↦ λ e h1. inr (
                  Returned,
                  after,
                  unroll W first t st b k 1 from start Returned after bg (inl (Returned, e, refl)),
                  (
                    m,
                    omega arith,
                    subst (λ i. HH m i to) (return_turn at site (suc k) b rest (I [] [] after)
                        (after.answer ∷ values) t st) h1,
                  ),
                )
              ] e h1
        ]

    loop_runs : (bound n : ℕ) → n ≤ bound → (k : ℕ) (start : Held) → Begun W first t st (Exec W b) k from start →
        HH n (I (iteration at site t st b (suc k) rest) values start) to → LR n
    loop_runs zero n le k start bg h = turned zero (λ m lt. absurd (omega arith)) n le k start bg h
    loop_runs (suc bound) n le k start bg h =
        turned (suc bound) (λ m lt. loop_runs bound m (omega arith)) n le k start bg h

    -- from the first test
    loop_tested : (n : ℕ) → Heads W first t st (Exec W b) 0 from from →
        HH n (I (test_tasks at 0 t (marker 0)) values from) to → LR n
    loop_tested n hd h = tested (suc n) (λ m lt. loop_runs n m (omega arith)) n 0 from (omega arith) hd h

  -- stores into a new array
  filled : (at : Point) (D : Point → Stand → Type 0) (site array : ℕ) (s : Held) →
      ((k : ℕ) (x : ℤ) → D (Own k ∷ []) (record { frames = here W s; value = x })) →
      (k : ℕ) (vs : List ℤ) (n : ℕ) (rest : List Task) (values : List ℤ) (to : Item)
      → HH n (I (initial_tasks at site array k vs rest) values s) to → St at D to ⊎ SS n (I rest values s) to
  filled at D site array s c k [] n rest values to h = inr (n, omega arith, h)
  filled at D site array s c k (v ∷ vs) n rest values to h =
      elim (peel program launch buffers number n _ (I (initial_tasks at site array (suc k) vs rest) values s) to
      (λ mid l. l) h) [
        | inl q ↦ inl (leg at (Own (suc k) ∷ []) D (Initialise at site array k v ∷ initial_tasks at site array (suc k)
            vs rest) values s to q refl (c (suc k) (last values)))
        | inr (m, lt, h1) ↦ elim (filled at D site array s c (suc k) vs m rest values to h1) [
          | inl w ↦ inl w
          | inr (m2, le, h2) ↦ inr (m2, omega arith, h2)
        ]
      ]

  cleared : (site array : ℕ) (es : Expressions) (at : Point) (n m : ℕ) (rest : List Task) (values : List ℤ)
      (s mid : Held) (args : List ℤ) (to : Item) → m < n → EvalAll W es s args mid
      → HH m (I (Clear at site array (count_of es) ∷ rest) (onto args values) mid) to →
      Ran (Fill site array es) at n rest values s to
  cleared site array es at n zero rest values s mid args to lt v h =
      inl (leg at (Own 0 ∷ []) (Comes W (Fill site array es) s) (Clear at site array (count_of es) ∷ rest)
      (onto args values) mid to h refl (args, mid, v, refl))
  cleared site array es at n (suc m) rest values s mid args to lt v (next, l, h) =
      let c = count_is W es s args mid v in
      let e : next ≡ I (initial_tasks at site array 0 args rest) values mid =
      l ∙ ap (λ xs. I (initial_tasks at site array 0 xs rest) (below (count_of es) (onto args values)) mid)
      (taken_all args values (count_of es) c) ∙
      ap (λ ys. I (initial_tasks at site array 0 args rest) ys mid) (below_taken args values (count_of es) c) in
      elim (filled at (Comes W (Fill site array es) s) site array mid (λ k x. (args, mid, v, refl)) 0 args m rest
      values to (subst (λ i. HH m i to) e h)) [
        | inl w ↦ inl w
        | inr (m2, le, h2) ↦ inr (Normal, mid, (args, v, refl), (m2, omega arith, h2))
      ]

  -- behind the arms of a switch
  switch_left : (site : ℕ) (value : Expression) (arms : Arms) (at : Point) (n m : ℕ) (rest : List Task)
      (values : List ℤ) (s mid after : Held) (v : ℤ) (how : How) (to : Item) → m < n → Eval W value s v mid →
      ExecArms W arms (entered v arms) mid how after
      → HH m (left how (InSwitch at site ∷ rest) values after) to → Ran (Switch site value arms) at n rest values s to
  switch_left site value arms at n m rest values s mid after v Normal to lt vx e h =
      elim (peel program launch buffers number m _ (I rest values after) to (λ next l. l) h) [
        | inl q ↦ inl (leg at (Own 1 ∷ []) (Comes W (Switch site value arms) s) (InSwitch at site ∷ rest) values after
            to q refl (v, mid, after, vx, e, refl))
        | inr (m2, lt2, h2) ↦ inr (Normal, after, (v, mid, Normal, vx, e, refl), (m2, omega arith, h2))
      ]
  switch_left site value arms at n m rest values s mid after v Broke to lt vx e h =
      inr (Normal, after, (v, mid, Broke, vx, e, refl), (m, omega arith, h))
  switch_left site value arms at n m rest values s mid after v Continued to lt vx e h =
      inr (Continued, after, (v, mid, Continued, vx, e, refl), (m, omega arith, h))
  switch_left site value arms at n m rest values s mid after v Returned to lt vx e h =
      inr (Returned, after, (v, mid, Returned, vx, e, refl), (m, omega arith, h))

  abbrev ArmsRan : Arms → ℕ → Point → ℕ → ℕ → List Task → List ℤ → Held → Item → Type 0
  ArmsRan arms e at b n tail values s to =
      ((i : ℕ) × (k : ℕ) × (p : Point) × (tops : Stand) × (start : Held) ×
      (first_point to.tasks ≡ Some (at ++ (Arm (b + i) ∷ Nth k ∷ p))) ×
      ((to.frames ≡ tops.frames ++ frames) × (last to.values ≡ tops.value)) × Reaches W arms e i s start ×
      ComesArm W arms i start k p tops)
      ⊎ ((how : How) × (after : Held) × ExecArms W arms e s how after × SS n (left how tail values after) to)

  mutual
    pub runs : (s : Statement) (scope : Scope) → GR scope s →
        (at : Point) (n : ℕ) (rest : List Task) (values : List ℤ) (from : Held) (to : Item) →
        HH n (I (Run at s ∷ rest) values from) to → Ran s at n rest values from to
    runs (Do e) scope ok at n rest values s to h =
        elim (peel program launch buffers number n _
        (I (Evaluate (at ++ Operand 0 ∷ []) e ∷ Discard (at ++ Own 0 ∷ []) ∷ rest) values s) to (λ mid l. l) h) [
          | inl q ↦ inl (root at (Comes W (Do e) s) (Run at (Do e) ∷ rest) values s to q refl refl)
          | inr (m, lt, h1) ↦ elim (evaluate_runs program launch buffers number d f frame frames called e scope
              (good_do (InBody program f) (UnderBody program f) (BackBody program f) scope e ok) (at ++ Operand 0 ∷
              []) m (Discard (at ++ Own 0 ∷ []) ∷ rest) values s to h1) [
                | inl w ↦ inl (down at (Operand 0) (ComesIn W e s) (Comes W (Do e) s) to (λ p tops c. c) w)
                | inr (x, mid, vx, (m2, lt2, h2)) ↦
                    elim (peel program launch buffers number m2 _ (I rest values mid) to (λ next l. l) h2) [
                      | inl q ↦ inl (leg at (Own 0 ∷ []) (Comes W (Do e) s) (Discard (at ++ Own 0 ∷ []) ∷ rest)
                          (x ∷ values) mid to q refl (x, mid, vx, refl))
                      | inr (m3, lt3, h3) ↦ inr (Normal, mid, (x, vx, refl), (m3, omega arith, h3))
                    ]
              ]
        ]
    runs (Declare y None) scope ok at n rest values s to h =
        elim (peel program launch buffers number n _ (I rest values (put s y (pos 0))) to (λ mid l. l) h) [
          | inl q ↦ inl (root at (Comes W (Declare y None) s) (Run at (Declare y None) ∷ rest) values s to q refl refl)
          | inr l ↦ inr (Normal, put s y (pos 0), (refl, refl), l)
        ]
    runs (Declare y (Some e)) scope ok at n rest values s to h =
        elim (peel program launch buffers number n _ (I (Evaluate (at ++ Operand 0 ∷ []) e ∷ Keep at y ∷ rest) values
        s) to (λ mid l. l) h) [
          | inl q ↦ inl (root at (Comes W (Declare y (Some e)) s) (Run at (Declare y (Some e)) ∷ rest) values s to q
              refl refl)
          | inr (m, lt, h1) ↦ elim (evaluate_runs program launch buffers number d f frame frames called e scope
              (good_declare (InBody program f) (UnderBody program f) (BackBody program f) scope y e ok).1
              (at ++ Operand 0 ∷ []) m (Keep at y ∷ rest) values s to h1) [
                | inl w ↦ inl (down at (Operand 0) (ComesIn W e s) (Comes W (Declare y (Some e)) s) to (λ p tops c. c)
                    w)
                | inr (x, mid, vx, (m2, lt2, h2)) ↦
                    elim (peel program launch buffers number m2 _ (I rest values (put mid y x)) to (λ next l. l) h2) [
                      | inl q ↦ inl (leg at (Own 0 ∷ []) (Comes W (Declare y (Some e)) s) (Keep at y ∷ rest)
                          (x ∷ values) mid to q refl (x, mid, vx, refl))
                      | inr (m3, lt3, h3) ↦ inr (Normal, put mid y x, (x, mid, vx, refl, refl), (m3, omega arith, h3))
                    ]
              ]
        ]
    runs (Fill site array es) scope ok at n rest values s to h =
        elim (peel program launch buffers number n _
        (I (each_operand at 0 es (Clear at site array (count_of es) ∷ rest)) values s) to (λ mid l. l) h) [
          | inl q ↦ inl (root at (Comes W (Fill site array es) s) (Run at (Fill site array es) ∷ rest) values s to q
              refl refl)
          | inr (m, lt, h1) ↦ elim (operands_run program launch buffers number d f frame frames called es scope
              (good_fill (InBody program f) (UnderBody program f) (BackBody program f) scope site array es ok) at 0
              m (Clear at site array (count_of es) ∷ rest) values s to h1) [
                | inl (j, p, tops, w, fr, c) ↦ let z : 0 + j ≡ j = omega arith in
                    inl (
                      Operand j ∷ p,
                      tops,
                      subst (λ k. first_point to.tasks ≡ Some (at ++ (Operand k ∷ p))) z w,
                      fr,
                      c,
                    )
                | inr (args, mid, v, (m2, le, h2)) ↦
                    cleared site array es at n m2 rest values s mid args to (omega arith) v h2
              ]
        ]
    runs (Block list) scope ok at n rest values s to h =
        elim (peel program launch buffers number n _ (I (in_order at 0 list rest) values s) to (λ mid l. l) h) [
          | inl q ↦ inl (root at (Comes W (Block list) s) (Run at (Block list) ∷ rest) values s to q refl refl)
          | inr (m, lt, h1) ↦ elim (all_run list scope (good_block (InBody program f) (UnderBody program f)
              (BackBody program f) scope list ok) at 0 m rest values s to h1) [
                | inl (j, p, tops, w, fr, c) ↦ let z : 0 + j ≡ j = omega arith in
                    inl (Nth j ∷ p, tops, subst (λ k. first_point to.tasks ≡ Some (at ++ (Nth k ∷ p))) z w, fr, c)
                | inr (how, after, e, (m2, le, h2)) ↦ inr (how, after, e, (m2, omega arith, h2))
              ]
        ]
    runs (If site t a b) scope ok at n rest values s to h =
        let o = good_if (InBody program f) (UnderBody program f) (BackBody program f) scope site t a b ok in
        elim (peel program launch buffers number n _ (I (Evaluate (at ++ Tested ∷ []) t ∷ Branch at a b ∷ rest) values
        s) to (λ mid l. l) h) [
          | inl q ↦ inl (root at (Comes W (If site t a b) s) (Run at (If site t a b) ∷ rest) values s to q refl refl)
          | inr (m, lt, h1) ↦ elim (evaluate_runs program launch buffers number d f frame frames called t scope o.1
              (at ++ Tested ∷ []) m (Branch at a b ∷ rest) values s to h1) [
                | inl w ↦ inl (down at Tested (ComesIn W t s) (Comes W (If site t a b) s) to (λ p tops c. c) w)
                | inr (v, mid, vx, (m2, lt2, h2)) ↦
                    elim (peel program launch buffers number m2 _
                    (I (cond (is_zero v) (in_order (at ++ Other ∷ []) 0 b rest) (in_order (at ++ Chosen ∷ []) 0 a rest))
                    values mid) to (λ next l. l) h2) [
                      | inl q ↦ inl (leg at (Own 0 ∷ []) (Comes W (If site t a b) s) (Branch at a b ∷ rest) (v ∷ values)
                          mid to q refl (v, mid, vx, refl, refl))
                      | inr (m3, lt3, h3) ↦
                          elim (is_zero v) as (λ z. is_zero v ≡ z →
                          HH m3 (I (cond z (in_order (at ++ Other ∷ []) 0 b rest)
                          (in_order (at ++ Chosen ∷ []) 0 a rest)) values mid) to →
                          Ran (If site t a b) at n rest values s to) [
                            | true ↦ λ z h3. elim (all_run b scope o.3 (at ++ Other ∷ []) 0 m3 rest values mid to h3) [
                              | inl (j, p, tops, w, fr, c) ↦
                                  let z : 0 + j ≡ j = omega arith in
                                  inl (
                                    Other ∷ Nth j ∷ p,
                                    tops,
                                    subst (λ k. first_point to.tasks ≡
                                        Some (at ++ (Other ∷ Nth k ∷ p))) z (w ∙
                                        ap Some (append_assoc at (Other ∷ []) (Nth (0 + j) ∷ p))),
                                    fr,
                                    (v, mid, vx, c),
                                  )
                              | inr (how, after, e, (m4, le4, h4)) ↦
                                  inr (how, after, (v, mid, vx, inr (z, e)), (m4, omega arith, h4))
                            ]
                            | false ↦ λ z h3. elim (all_run a scope o.2 (at ++ Chosen ∷ []) 0 m3 rest values mid to
                                h3) [
                                  | inl (j, p, tops, w, fr, c) ↦
                                      let z : 0 + j ≡ j = omega arith in
                                      inl (
                                        Chosen ∷ Nth j ∷ p,
                                        tops,
                                        subst (λ k. first_point to.tasks ≡ Some (at ++ (Chosen ∷ Nth k ∷ p))) z (w ∙
                                            ap Some (append_assoc at (Chosen ∷ []) (Nth (0 + j) ∷ p))),
                                        fr,
                                        (v, mid, vx, c),
                                      )
                                  | inr (how, after, e, (m4, le4, h4)) ↦
                                      inr (how, after, (v, mid, vx, inl (z, e)), (m4, omega arith, h4))
                                ]
                          ] refl h3
                    ]
              ]
        ]
    runs (Loop site true t st b) scope ok at n rest values s to h =
        let o = good_loop (InBody program f) (UnderBody program f) (BackBody program f) scope site true t st b ok in
        elim (peel program launch buffers number n _ (I (test_tasks at 0 t (InLoop at site t st b 0 ∷ rest)) values s)
        to (λ mid l. l) h) [
          | inl q ↦ inl (root at (Comes W (Loop site true t st b) s) (Run at (Loop site true t st b) ∷ rest) values s
              to q refl refl)
          | inr (m, lt, h1) ↦ elim (loop_tested site true t st b scope o.1 o.2 at rest values s to (runs b scope o.3)
              m (refl, refl) h1) [
                | inl x ↦ inl x
                | inr (how, after, e, (m2, le, h2)) ↦ inr (how, after, e, (m2, omega arith, h2))
              ]
        ]
    runs (Loop site false t st b) scope ok at n rest values s to h =
        let o = good_loop (InBody program f) (UnderBody program f) (BackBody program f) scope site false t st b ok in
        elim (peel program launch buffers number n _ (I (iteration at site t st b 1 rest) values s) to (λ mid l. l) h) [
          | inl q ↦ inl (root at (Comes W (Loop site false t st b) s) (Run at (Loop site false t st b) ∷ rest) values
              s to q refl refl)
          | inr (m, lt, h1) ↦ elim (loop_runs site false t st b scope o.1 o.2 at rest values s to (runs b scope o.3) m
              m (omega arith) 0 s refl h1) [
                | inl x ↦ inl x
                | inr (how, after, e, (m2, le, h2)) ↦ inr (how, after, e, (m2, omega arith, h2))
              ]
        ]
    runs (Switch site value arms) scope ok at n rest values s to h =
        let o = good_switch (InBody program f) (UnderBody program f) (BackBody program f) scope site value arms ok in
        elim (peel program launch buffers number n _ (I (Evaluate (at ++ Tested ∷ []) value ∷ Select at site arms ∷
        rest) values s) to (λ mid l. l) h) [
          | inl q ↦ inl (root at (Comes W (Switch site value arms) s) (Run at (Switch site value arms) ∷ rest) values
              s to q refl refl)
          | inr (m, lt, h1) ↦ elim (evaluate_runs program launch buffers number d f frame frames called value scope
              o.1 (at ++ Tested ∷ []) m (Select at site arms ∷ rest) values s to h1) [
                | inl w ↦ inl (down at Tested (ComesIn W value s) (Comes W (Switch site value arms) s) to
                    (λ p tops c. c) w)
                | inr (v, mid, vx, (m2, lt2, h2)) ↦
                    elim (peel program launch buffers number m2 _
                    (I (entry_tasks at (entry_of v arms) (InSwitch at site ∷ rest)) values mid) to (λ next l. l) h2) [
                      | inl q ↦ inl (leg at (Own 0 ∷ []) (Comes W (Switch site value arms) s)
                          (Select at site arms ∷ rest) (v ∷ values) mid to q refl (v, mid, vx, refl, refl))
                      | inr (m3, lt3, h3) ↦
                          let e0 : entered v arms ≡ 0 + entered v arms = omega arith in
                          elim (arms_run arms scope o.2 (entered v arms) at 0 (entered v arms) e0 m3
                          (InSwitch at site ∷ rest)
                          values mid to (subst (λ ts. HH m3 (I ts values mid) to)
                          (entry_is at v arms (InSwitch at site ∷ rest)) h3)) [
                            | inl (i, k, p, tops, start, w, fr, r, c) ↦ let z : 0 + i ≡ i = omega arith in
                                inl (
                                  Arm i ∷ Nth k ∷ p,
                                  tops,
                                  subst (λ j. first_point to.tasks ≡
                                      Some (at ++ (Arm j ∷ Nth k ∷ p))) z w,
                                  fr,
                                  (v, mid, start, vx, r, c),
                                )
                            | inr (how, after, e, (m4, le4, h4)) ↦
                                switch_left site value arms at n m4 rest values s mid after v how to (omega arith) vx e
                                h4
                          ]
                    ]
              ]
        ]
    runs (Break site) scope ok at n rest values s to h =
        elim (peel program launch buffers number n _ (I (behind_break rest) values s) to (λ mid l. l) h) [
          | inl q ↦ inl (root at (Comes W (Break site) s) (Run at (Break site) ∷ rest) values s to q refl refl)
          | inr l ↦ inr (Broke, s, (refl, refl), l)
        ]
    runs (Continue site) scope ok at n rest values s to h =
        elim (peel program launch buffers number n _ (I (behind_continue rest) values s) to (λ mid l. l) h) [
          | inl q ↦ inl (root at (Comes W (Continue site) s) (Run at (Continue site) ∷ rest) values s to q refl refl)
          | inr l ↦ inr (Continued, s, (refl, refl), l)
        ]
    runs (Return site None) scope ok at n rest values s to h =
        let same = return_same (I (Run at (Return site None) ∷ rest) values s) (I [] [] (answered s (pos 0))) rest
        (pos 0 ∷ values) refl refl in
        elim (peel program launch buffers number n _ (left Returned rest values (answered s (pos 0))) to (λ mid l. l ∙
        same) h) [
          | inl q ↦ inl (root at (Comes W (Return site None) s) (Run at (Return site None) ∷ rest) values s to q refl
              refl)
          | inr l ↦ inr (Returned, answered s (pos 0), (refl, refl), l)
        ]
    runs (Return site (Some e)) scope ok at n rest values s to h =
        elim (peel program launch buffers number n _ (I (Evaluate (at ++ Operand 0 ∷ []) e ∷ Leave at ∷ rest) values
        s) to (λ mid l. l) h) [
          | inl q ↦ inl (root at (Comes W (Return site (Some e)) s) (Run at (Return site (Some e)) ∷ rest) values s to
              q refl refl)
          | inr (m, lt, h1) ↦ elim (evaluate_runs program launch buffers number d f frame frames called e scope
              (good_return (InBody program f) (UnderBody program f) (BackBody program f) scope site e ok).1
              (at ++ Operand 0 ∷ []) m (Leave at ∷ rest) values s to h1) [
                | inl w ↦ inl (down at (Operand 0) (ComesIn W e s) (Comes W (Return site (Some e)) s) to (λ p tops c. c)
                    w)
                | inr (x, mid, vx, (m2, lt2, h2)) ↦
                    let same = return_same (I (Leave at ∷ rest) (x ∷ values) mid) (I [] [] (answered mid x)) rest
                    (x ∷ values) refl refl in
                    elim (peel program launch buffers number m2 _ (left Returned rest values (answered mid x)) to
                    (λ next l. l ∙ same) h2) [
                      | inl q ↦ inl (leg at (Own 0 ∷ []) (Comes W (Return site (Some e)) s) (Leave at ∷ rest)
                          (x ∷ values) mid to q refl (x, mid, vx, refl))
                      | inr (m3, lt3, h3) ↦ inr (
                        Returned,
                        answered mid x,
                        (x, mid, vx, refl, refl),
                        (m3, omega arith, h3),
                      )
                    ]
              ]
        ]
    runs (Barrier site) scope ok at n rest values s to h =
        elim (peel program launch buffers number n _ (I rest values s) to (λ mid l. l) h) [
          | inl q ↦ inl (root at (Comes W (Barrier site) s) (Run at (Barrier site) ∷ rest) values s to q refl refl)
          | inr l ↦ inr (Normal, s, (refl, refl), l)
        ]

    all_run : (list : Statements) (scope : Scope) → GL scope list →
        (at : Point) (k n : ℕ) (rest : List Task) (values : List ℤ) (s : Held) (to : Item) →
        HH n (I (in_order at k list rest) values s) to → RanAll list at k n rest values s to
    all_run empty scope ok at k n rest values s to h = inr (Normal, s, (refl, refl), (n, omega arith, h))
    all_run (also e more') scope ok at k n rest values s to h =
        let o = good_also (InBody program f) (UnderBody program f) (BackBody program f) scope e more' ok in
        elim (runs e scope o.0 (at ++ Nth k ∷ []) n (in_order at (suc k) more' rest) values s to h) [
          | inl (p, tops, w, fr, c) ↦ let z : k ≡ k + 0 = omega arith in
              inl (
                0,
                p,
                tops,
                subst (λ i. first_point to.tasks ≡ Some (at ++ (Nth i ∷ p))) z (w ∙
                    ap Some (append_assoc at (Nth k ∷ []) p)),
                fr,
                c,
              )
          | inr (how, mid, x, (m, lt, h1)) ↦
              elim how as (λ a. Exec W e s a mid → HH m (left a (in_order at (suc k) more' rest) values mid) to →
              RanAll (also e more') at k n rest values s to) [
                | Normal ↦ λ x h1. elim (all_run more' (scope_after scope e) o.1 at (suc k) m rest values mid to h1) [
                  | inl (j, p, tops, w, fr, c) ↦ let z : suc k + j ≡ k + suc j = omega arith in
                      inl (
                        suc j,
                        p,
                        tops,
                        subst (λ i. first_point to.tasks ≡ Some (at ++ (Nth i ∷ p))) z w,
                        fr,
                        (mid, x, c),
                      )
                  | inr (how', end, x', (m2, le, h2)) ↦ inr (how', end, inl (mid, x, x'), (m2, omega arith, h2))
                ]
                | Broke ↦ λ x h1. inr (
                  Broke,
                  mid,
                  inr ((λ z. cc), x),
                  (
                    m,
                    omega arith,
                    subst (λ i. HH m i to) (left_in_order Broke (λ z. cc) at (suc k) more' rest
                        values mid) h1,
                  ),
                )
                | Continued ↦ λ x h1. inr (
                  Continued,
                  mid,
                  inr ((λ z. cc), x),
                  (
                    m,
                    omega arith,
                    subst (λ i. HH m i to) (left_in_order Continued (λ z. cc) at (suc k) more' rest
                        values mid) h1,
                  ),
                )
                | Returned ↦ λ x h1. inr (
                  Returned,
                  mid,
                  inr ((λ z. cc), x),
                  (
                    m,
                    omega arith,
                    subst (λ i. HH m i to) (left_in_order Returned (λ z. cc) at (suc k) more' rest
                        values mid) h1,
                  ),
                )
              ] x h1
        ]

    arms_run : (arms : Arms) (scope : Scope) → GM scope arms → (e : ℕ) (at : Point) (b c : ℕ) → c ≡ b + e →
        (n : ℕ) (tail : List Task) (values : List ℤ) (s : Held) (to : Item) →
        HH n (I (arm_tasks at c (arms_from e arms) tail) values s) to → ArmsRan arms e at b n tail values s to
    arms_run no_arm scope ok e at b c q n tail values s to h = inr (Normal, s, (refl, refl), (n, omega arith, h))
    arms_run (arm labels other body rest) scope ok (suc e) at b c q n tail values s to h =
        let o =
        good_arm (InBody program f) (UnderBody program f) (BackBody program f) scope labels other body rest ok in
        let q' : c ≡ suc b + e = omega (arith, q) in
        elim (arms_run rest scope o.1 e at (suc b) c q' n tail values s to h) [
          | inl (i, k, p, tops, start, w, fr, r, x) ↦ let z : suc b + i ≡ b + suc i = omega arith in
              inl (
                suc i,
                k,
                p,
                tops,
                start,
                subst (λ j. first_point to.tasks ≡ Some (at ++ (Arm j ∷ Nth k ∷ p))) z w,
                fr,
                r,
                x,
              )
          | inr x ↦ inr x
        ]
    arms_run (arm labels other body rest) scope ok zero at b c q n tail values s to h =
        let o =
        good_arm (InBody program f) (UnderBody program f) (BackBody program f) scope labels other body rest ok in
        elim (all_run body scope o.0 (at ++ Arm c ∷ []) 0 n (arm_tasks at (suc c) rest tail) values s to h) [
          | inl (j, p, tops, w, fr, x) ↦
              inl (
                0,
                j,
                p,
                tops,
                s,
                subst (λ i. first_point to.tasks ≡ Some (at ++ (Arm i ∷ Nth j ∷ p))) q
                    (let z : 0 + j ≡ j = omega arith in
                    subst (λ k. first_point to.tasks ≡ Some (at ++ (Arm c ∷ Nth k ∷ p))) z (w ∙
                    ap Some (append_assoc at (Arm c ∷ []) (Nth (0 + j) ∷ p)))),
                fr,
                refl,
                x,
              )
          | inr (how, mid, x, (m, le, h1)) ↦
              elim how as (λ a. ExecAll W body s a mid →
              HH m (left a (arm_tasks at (suc c) rest tail) values mid) to →
              ArmsRan (arm labels other body rest) zero at b n tail values s to) [
                | Normal ↦ λ x h1.
                    let q' : suc c ≡ suc b + 0 = omega (arith, q) in
                    elim (arms_run rest scope o.1 zero at (suc b) (suc c) q' m tail values mid to
                    (subst (λ as'. HH m (I (arm_tasks at (suc c) as' tail) values mid) to)
                    (sym (from_first rest)) h1)) [
                      | inl (i, k, p, tops, start, w, fr, r, y) ↦ let z : suc b + i ≡ b + suc i = omega arith in
                          inl (
                            suc i,
                            k,
                            p,
                            tops,
                            start,
                            subst (λ j. first_point to.tasks ≡ Some (at ++ (Arm j ∷ Nth k ∷ p))) z w,
                            fr,
                            (mid, x, r),
                            y,
                          )
                      | inr (how', end, x', (m2, le2, h2)) ↦ inr (how', end, inl (mid, x, x'), (m2, omega arith, h2))
                    ]
                | Broke ↦ λ x h1. inr (
                  Broke,
                  mid,
                  inr ((λ z. cc), x),
                  (m, le, subst (λ i. HH m i to) (left_arms Broke (λ z. cc) at (suc c) rest tail values mid) h1),
                )
                | Continued ↦ λ x h1. inr (
                  Continued,
                  mid,
                  inr ((λ z. cc), x),
                  (
                    m,
                    le,
                    subst (λ i. HH m i to) (left_arms Continued (λ z. cc) at (suc c) rest tail values mid)
                        h1,
                  ),
                )
                | Returned ↦ λ x h1. inr (
                  Returned,
                  mid,
                  inr ((λ z. cc), x),
                  (m, le, subst (λ i. HH m i to) (left_arms Returned (λ z. cc) at (suc c) rest tail values mid) h1),
                )
              ] x h1
        ]
