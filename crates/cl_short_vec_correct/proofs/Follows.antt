-- Where each statement of a list stands for a step, an item that comes to the list goes along
-- the steps. What an evaluation leaves of the variables of its function is asked, as `Keeps`.
use Rattle.std.proofs.Common.{◌≡◌, ℕ, suc, ℤ, Bool, true, false, List, [], ◌∷◌, ◌++◌, Option, Some}
use Rattle.std.proofs.Common.{if◌then◌else◌, ◌⊎◌, inl, inr, refl, sym, ap, ◌∙◌, subst, nat_eq}
use Rattle.std.proofs.lemmas.Bool.{eqb-true, false≢true}
use Rattle.std.proofs.lemmas.Option.{same_Some}
use Rattle.work_items.specs.Items.{Next, Goes, Loads, Stores}
use Rattle.work_items.specs.Memory.{Access}
use Rattle.work_items.specs.Histories.{Deed, Passed, Turned, Read, Wrote, nothing, going, doing, DoesOnce}
use Rattle.wg_num.specs.declared.types.IntType.{IntType}
use Rattle.wg_num.specs.Wrap.{IsValue}
use Rattle.wg_num.proofs.WrapLaws.{IsValue-value}
use Rattle.wg_num.specs.Bytes.{bytes_of, value_of_bytes}
use Rattle.std.specs.Simd.Lanes.{number_l}
use Rattle.cl_model.specs.declared.program.Root.{Root}
use Rattle.cl_model.specs.Tree.{Variable, Set, Load, Store}
use Rattle.cl_model.specs.Tree.{Expression, Apply, single, pair, none, Do, Declare, Statement, Statements}
use Rattle.cl_model.specs.Tree.{empty, also, Program}
use Rattle.cl_model.specs.Sizes.{Launch}
use Rattle.cl_model.specs.Task.{Operand, Own as OwnLeg, Nth, Point, Task, Run, Evaluate, Finish, Discard, Keep}
use Rattle.cl_model.specs.Task.{Frame, Item}
use Rattle.cl_model.specs.Steps.{last, before, set_in, in_order, access_at, object_at, item_next, frame_of}
use Rattle.cl_model.specs.Steps.{frames_below}
use Rattle.cl_model.specs.Calls.{function_at}
use Rattle.cl_model.specs.Valid.{HasVariable, kind_type}
use Rattle.cl_model.specs.Meaning.{lengths_of, MayBeTold}
use Rattle.cl_model_typed.specs.Known.{AreKnown}
use Rattle.cl_model_typed.specs.Known as of_numbers
use Rattle.cl_model_typed.specs.Expected.{keeps, Ahead, ends, goes_on, NoneLeft, Fits}
use Rattle.cl_model_typed.specs.Law.{IsTyped}
use Rattle.cl_model_typed.proofs.Histories.{stays}
use Rattle.cl_meaning.specs.Environment.{Env}
use Rattle.cl_short_vec.specs.Marks.{Mark, kind_at}
use Rattle.cl_short_vec.specs.Order.{Named, Step, Offset, Number, Copy, Load as LoadStep, Set as SetStep}
use Rattle.cl_short_vec.specs.Order.{Store as StoreStep, type_in}
use Rattle.cl_short_vec_correct.specs.Values.{Leaves, Worth}
use Rattle.cl_short_vec_correct.specs.Doing.{Got, with_number, with_component, with_offset, first_at, index_of, Sets}
use Rattle.cl_short_vec_correct.specs.Doing.{sets_nothing, sets_one, IsElement, IsComponent, StandsIn, IsDeclaredAs}
use Rattle.cl_short_vec_correct.specs.Doing.{Evaluates, Along, between, behind, in_offset, offset, in_number, number}
use Rattle.cl_short_vec_correct.specs.Doing.{copy, load, store, set, at_load, at_store, IsWithin, Advances, GoesOn}
use Rattle.cl_short_vec_correct.specs.Emits.{Known, knows, Fresh, Own}
use Rattle.cl_short_vec_correct.specs.Emits.{Spares, Emits, end, offset_line}
use Rattle.cl_short_vec_correct.specs.Emits.{number_line, copy_line, load_line, store_line, set_line, declare_line}
use Rattle.cl_short_vec_correct.proofs.Evaluated.{Holds, still_holds, now_holds, it, D, peel, first, own_runs}
use Rattle.cl_short_vec_correct.proofs.Evaluated.{then_further, one_step, steps_on, own_reaches, Same, within_same}

-- ---- values of their types

-- a variable has one type
one_type : (program : Program) (function x : ℕ) (t u : IntType) → HasVariable (function_at program function) x t →
    HasVariable (function_at program function) x u → t ≡ u
one_type program function x t u (k, e, h) (l, d, g) = sym h ∙ ap kind_type (same_Some k l (sym e ∙ d)) ∙ g

-- what an item that fits is about to keep is a value of the variable's type
kept_value : (program : Program) (p : Point) (x : ℕ) (rest : List Task) (us : List ℤ) (function : ℕ) (fs : List Frame)
    (known : List of_numbers.Known) (base : Option (List of_numbers.Known)) (of : IntType) →
    HasVariable (function_at program function) x of → AreKnown known us →
    Ahead program NoneLeft (Keep p x ∷ rest) function fs known base → IsValue of (last us)
kept_value program p x rest us function fs known base of h k (ends e) = absurd (some_tasks (sym e))
  where
    is_none : List Task → Bool
    is_none [] = true
    is_none (t ∷ ts) = false

    some_tasks : [] ≡ Keep p x ∷ rest → ⊥
    some_tasks q = false≢true (sym (ap is_none q))
kept_value program p x rest [] function fs known base of h k (goes_on (keeps t there) a) = absurd k
kept_value program p x rest (v ∷ us) function fs known base of h k (goes_on (keeps t there) a) =
    subst (λ u. IsValue u v) (one_type program function x t of there h) k.0

-- ---- what lies between the steps

pub computes_same : (helps : ℕ → Type 0) (i j : Item) → j.number ≡ i.number → j.frames ≡ i.frames →
    Sets helps sets_nothing i j
computes_same helps i j n f = record {
  number = n;
  function = ap (λ fs. (frame_of fs).function) f;
  path = ap (λ fs. (frame_of fs).path) f;
  objects = ap (λ fs. (frame_of fs).objects) f;
  below = ap frames_below f;
  set = λ x v e. absurd e;
  kept = λ x h s. ap (λ fs. (frame_of fs).variables x) f;
}

-- a variable of the first frame is set
set_variable : (helps : ℕ → Type 0) (n : ℕ) (ts us : List Task) (vs ws : List ℤ) (f : Frame) (fs : List Frame)
    (x : ℕ) (v : ℤ) → Sets helps (sets_one x v) (it n ts vs (f ∷ fs)) (it n us ws (set_in f x v ∷ fs))
set_variable helps n ts us vs ws f fs x v = record {
  number = refl;
  function = refl;
  path = refl;
  objects = refl;
  below = refl;
  set = λ y w e. ap (set_in f x v).variables e.0 ∙ now_holds f x v ∙ sym e.1;
  kept = λ y h s. other y (s v);
}
  where
    tells : (y : ℕ) (b : Bool) → nat_eq x y ≡ b → ((y ≡ x) × (v ≡ v) → ⊥) →
        (if b then v else f.variables y) ≡ f.variables y
    tells y true e s = absurd (s (sym (eqb-true x y e), refl))
    tells y false e s = refl

    other : (y : ℕ) → ((y ≡ x) × (v ≡ v) → ⊥) → (set_in f x v).variables y ≡ f.variables y
    other y s = tells y (nat_eq x y) refl s

-- setting a helping variable is computing
computes_set : (helps : ℕ → Type 0) (i j : Item) (x : ℕ) (v : ℤ) → helps x → Sets helps (sets_one x v) i j →
    Sets helps sets_nothing i j
computes_set helps i j x v h s = record {
  number = s.number;
  function = s.function;
  path = s.path;
  objects = s.objects;
  below = s.below;
  set = λ y w e. absurd e;
  kept = λ y k e. s.kept y k (λ w q. k (subst helps (sym q.0) h));
}

-- first computing, and then what sets
computes_then : (helps : ℕ → Type 0) (sets : ℕ → ℤ → Type 0) (i j k : Item) → Sets helps sets_nothing i j →
    Sets helps sets j k → Sets helps sets i k
computes_then helps sets i j k a b = record {
  number = b.number ∙ a.number;
  function = b.function ∙ a.function;
  path = b.path ∙ a.path;
  objects = b.objects ∙ a.objects;
  below = b.below ∙ a.below;
  set = b.set;
  kept = λ x h s. b.kept x h s ∙ a.kept x h (λ v e. e);
}

module _ (program : Program) (launch : Launch) (buffers : List (List ℕ)) (env later : Env) (helps : ℕ → Type 0)
    (result : Leaves → Worth) (rest : List Task) where
  abbrev pub DD : Item → List Deed → Item → Type 0
  DD = D program launch buffers

  abbrev pub Al : List Step → Got → Item → List Deed → Item → Type 0
  Al = Along program launch buffers env later helps result rest

  -- without a deed, and nothing but helping variables is set
  abbrev C : Item → Item → Type 0
  C i j = Sets helps sets_nothing i j × DD i [] j

  -- the item advances
  abbrev Ad : (ℕ → ℤ → Type 0) → Item → Item → Type 0
  Ad sets = Advances program launch buffers helps sets rest

  advances_then : (sets : ℕ → ℤ → Type 0) (i j k : Item) → C i j → Ad sets j k → Ad sets i k
  advances_then sets i j k c d = record {
    does = then_further program launch buffers c.1 d.does;
    changes = computes_then helps sets i j k c.0 d.changes;
    front = d.front;
    left = d.left;
  }

  -- where nothing of it changed but what is left to do
  goes_on_to : (i j : Item) (ts : List Task) → j.number ≡ i.number → j.frames ≡ i.frames → j.tasks ≡ ts ++ rest →
      DD i [] j → Ad sets_nothing i j
  goes_on_to i j ts n f e d =
      record { does = d; changes = computes_same helps i j n f; front = ts; left = e }

  -- computing in front
  pub ahead : {steps : List Step} {got : Got} {i j to : Item} {deeds : List Deed} → C i j → Al steps got j deeds to →
      Al steps got i deeds to
  ahead {i = i} {j = j} c (between {to = to} d w g) = between (advances_then sets_nothing i j to c d) w g
  -- the history ends before an access
  ahead {i = i} {j = j} c (at_load {to = to} r e site after a d n) =
      at_load r e site after a (advances_then sets_nothing i j to c d) n
  ahead {i = i} {j = j} c (at_store {to = to} r e site after a d n) =
      at_store r e site after a (advances_then sets_nothing i j to c d) n
  ahead {i = i} {j = j} c (behind {mid = m} d e h) = behind (advances_then sets_nothing i j m c d) e h
  ahead {i = i} {j = j} c (in_offset {start = m} r e a d h) =
      in_offset r e a (advances_then sets_nothing i j m c d) h
  ahead {i = i} {j = j} c (offset {start = m} r e v a d h b) =
      offset r e v a (advances_then sets_nothing i j m c d) h b
  ahead {i = i} {j = j} c (in_number {start = m} e a d h) = in_number e a (advances_then sets_nothing i j m c d) h
  ahead {i = i} {j = j} c (number {start = m} e v a d h w b) =
      number e v a (advances_then sets_nothing i j m c d) h w b
  ahead {i = i} {j = j} c (copy {mid = m} y a d w b) =
      copy y a (advances_then sets_nothing i j m c d) w b
  ahead {i = i} {j = j} c (load {start = m} r e site bytes a d o b) =
      load r e site bytes a (advances_then sets_nothing i j m c d) o b
  ahead {i = i} {j = j} c (store {start = m} r e site a d o b) =
      store r e site a (advances_then sets_nothing i j m c d) o b
  ahead {i = i} {j = j} c (set {mid = m} of y a d b) =
      set of y a (advances_then (sets_one y _) i j m c d) b

  -- what is asked of evaluations: an item stands in one, or has come behind it in a frame where the variables that help
  -- hold what they held
  abbrev pub KeepsHeld : Type 0
  KeepsHeld = (known : List Known) (e : Expression) → Spares known e → (at : Point) (n : ℕ) (tail : List Task)
      (vs : List ℤ) (f : Frame) (fs : List Frame) (to : Item) (deeds : List Deed) → Holds known f →
      DD (it n (Evaluate at e ∷ tail) vs (f ∷ fs)) deeds to →
      ((t : Task) × (ts : List Task) × (to.tasks ≡ t ∷ (ts ++ tail)))
      ⊎ ((g : Frame) × (us : List ℤ) × (front : List Deed) × (further : List Deed) ×
      DD (it n (Evaluate at e ∷ tail) vs (f ∷ fs)) front (it n tail us (g ∷ fs)) ×
      (Holds known g × (g.function ≡ f.function)) ×
      DD (it n tail us (g ∷ fs)) further to × (deeds ≡ front ++ further))

  -- ---- accesses

  abbrev Acc : Next Item → Deed → Item → Type 0
  Acc = DoesOnce (lengths_of program launch buffers) (MayBeTold program launch buffers)

  loads_deed : (site : ℕ) (access : Access) (after : List ℕ → Item) (deed : Deed) (mid to : Item) (ds : List Deed) →
      Acc (Loads site access after) deed mid → DD mid ds to →
      (bytes : List ℕ) × Acc (Loads site access after) (Read site access bytes) (after bytes) × DD (after bytes) ds to ×
      (deed ≡ Read site access bytes)
  loads_deed site access after Passed mid to ds d h = absurd d
  loads_deed site access after Turned mid to ds d h = absurd d
  loads_deed site access after (Wrote a b c e) mid to ds d h = absurd d
  loads_deed site access after (Read s a bytes) mid to ds (p, q, fits, told, r) h = (
    bytes,
    (refl, refl, fits, told, refl),
    subst (λ m. DD m ds to) (sym r) h,
    ap (λ z. Read z a bytes) (sym p) ∙ ap (λ z. Read site z bytes) (sym q),
  )

  peel_loads : (i to : Item) (deeds : List Deed) (site : ℕ) (access : Access) (after : List ℕ → Item) →
      item_next program launch i ≡ Loads site access after → DD i deeds to →
      ((to ≡ i) × (deeds ≡ [])) ⊎ ((bytes : List ℕ) × (ds : List Deed) ×
      Acc (Loads site access after) (Read site access bytes) (after bytes) × DD (after bytes) ds to ×
      (deeds ≡ Read site access bytes ∷ ds))
  peel_loads i to deeds site access after e nothing = inl (refl, refl)
  peel_loads i to deeds site access after e (going {mid = mid} g h) = absurd (goes_not_loads (sym g ∙ e))
    where
      is_goes : Next Item → Bool
      is_goes (Goes a) = true
      is_goes n = false

      goes_not_loads : Goes mid ≡ Loads site access after → ⊥
      goes_not_loads q = false≢true (sym (ap is_goes q))
  peel_loads i to deeds site access after e (doing {mid = mid} {deed = deed} {deeds = ds} d h) =
      let r = loads_deed site access after deed mid to ds (subst (λ n. Acc n deed mid) e d) h in
      inr (r.0, ds, r.1, r.2, ap (λ z. z ∷ ds) r.3)

  stores_deed : (site object : ℕ) (index : ℤ) (bytes : List ℕ) (after : Item) (deed : Deed) (mid to : Item)
      (ds : List Deed) → Acc (Stores site object index bytes after) deed mid → DD mid ds to →
      Acc (Stores site object index bytes after) (Wrote site object index bytes) after × DD after ds to ×
      (deed ≡ Wrote site object index bytes)
  stores_deed site object index bytes after Passed mid to ds d h = absurd d
  stores_deed site object index bytes after Turned mid to ds d h = absurd d
  stores_deed site object index bytes after (Read s a bs) mid to ds d h = absurd d
  stores_deed site object index bytes after (Wrote s o x bs) mid to ds (p, q, u, v, fits, r) h = (
    (refl, refl, refl, refl, fits, refl),
    subst (λ m. DD m ds to) (sym r) h,
    ap (λ z. Wrote z o x bs) (sym p) ∙ (ap (λ z. Wrote site z x bs) (sym q) ∙
        (ap (λ z. Wrote site object z bs) (sym u) ∙ ap (Wrote site object index) (sym v))),
  )

  peel_stores : (i to : Item) (deeds : List Deed) (site object : ℕ) (index : ℤ) (bytes : List ℕ) (after : Item) →
      item_next program launch i ≡ Stores site object index bytes after → DD i deeds to →
      ((to ≡ i) × (deeds ≡ [])) ⊎ ((ds : List Deed) ×
      Acc (Stores site object index bytes after) (Wrote site object index bytes) after × DD after ds to ×
      (deeds ≡ Wrote site object index bytes ∷ ds))
  peel_stores i to deeds site object index bytes after e nothing = inl (refl, refl)
  peel_stores i to deeds site object index bytes after e (going {mid = mid} g h) = absurd (goes_not_stores (sym g ∙ e))
    where
      is_goes : Next Item → Bool
      is_goes (Goes a) = true
      is_goes n = false

      goes_not_stores : Goes mid ≡ Stores site object index bytes after → ⊥
      goes_not_stores q = false≢true (sym (ap is_goes q))
  peel_stores i to deeds site object index bytes after e (doing {mid = mid} {deed = deed} {deeds = ds} d h) =
      let r = stores_deed site object index bytes after deed mid to ds (subst (λ n. Acc n deed mid) e d) h in
      inr (ds, r.0, r.1, ap (λ z. z ∷ ds) r.2)

  -- ---- the item goes along the steps

  -- where the history ends before anything but helping variables changed
  pub stop : (steps : List Step) (got : Got) (i to : Item) (deeds : List Deed) → to.number ≡ i.number →
      to.frames ≡ i.frames → deeds ≡ [] → IsWithin rest to → GoesOn program launch buffers to → DD i deeds to →
      Al steps got i deeds to
  stop steps got i to deeds n f z w g h =
      subst (λ ds. Al steps got i ds to) (sym z) (between (goes_on_to i to (w.0 ∷ w.1) n f w.2
      (subst (λ ds. DD i ds to) z h)) w g)

  -- where it ends at an item with the same number and frames
  stopped : (steps : List Step) (got : Got) (i j to : Item) (deeds : List Deed) → j.number ≡ i.number →
      j.frames ≡ i.frames → IsWithin rest j → GoesOn program launch buffers j → to ≡ j → deeds ≡ [] →
      DD i deeds to → Al steps got i deeds to
  stopped steps got i j to deeds n f w g e z h =
      stop steps got i to deeds (ap (λ (a : Item). a.number) e ∙ n) (ap (λ (a : Item). a.frames) e ∙ f) z
      (subst (IsWithin rest) (sym e) w) (subst (GoesOn program launch buffers) (sym e) g) h

  -- the same, behind tasks
  stop_at : (steps : List Step) (got : Got) (i to : Item) (deeds : List Deed) (ts us : List Task) → us ≡ ts ++ rest →
      Same program launch buffers us i.number i.frames to deeds → DD i deeds to → Al steps got i deeds to
  stop_at steps got i to deeds ts us e s h =
      stop steps got i to deeds s.0 s.1 s.2 (within_same us ts rest to e s.3) s.4 h

  -- the tasks of statements in order, and then what is left behind
  ordered : (at : Point) (k : ℕ) (ss : Statements) → in_order at k ss rest ≡ in_order at k ss [] ++ rest
  ordered at k empty = refl
  ordered at k (also s ss) = ap (λ z. Run (at ++ Nth k ∷ []) s ∷ z) (ordered at (suc k) ss)

  -- the item stands in this function, in which variables that are declared there have their types
  module _ (kept : KeepsHeld) (typed : IsTyped program launch) (function : ℕ)
      (types : (x : ℕ) (of : IntType) → IsDeclaredAs later x of → HasVariable (function_at program function) x of)
    where
      -- items that fit
      reached_fits : (i j : Item) (deeds : List Deed) → DD i deeds j → Fits program i → Fits program j
      reached_fits i j deeds d h = stays program launch typed d h

      next_fits : (i j : Item) → item_next program launch i ≡ Goes j → Fits program i → Fits program j
      next_fits i j e h = reached_fits i j [] (one_step program launch buffers i j e) h

      once_fits : (i j : Item) (deed : Deed) → Acc (item_next program launch i) deed j → Fits program i → Fits program j
      once_fits i j deed e h = reached_fits i j (deed ∷ []) (doing e nothing) h

      value_kept : (n : ℕ) (p : Point) (x : ℕ) (tail : List Task) (us : List ℤ) (g : Frame) (fs : List Frame)
          (of : IntType) → g.function ≡ function → IsDeclaredAs later x of →
          Fits program (it n (Keep p x ∷ tail) us (g ∷ fs)) → IsValue of (last us)
      value_kept n p x tail us g fs of fn there h =
          kept_value program p x tail us g.function fs h.known h.base of
          (subst (λ z. HasVariable (function_at program z) x of) (sym fn) (types x of there)) h.values h.tasks

      abbrev At : Point → ℕ → Point
      At at k = at ++ Nth k ∷ []

      abbrev Follows : List Known → Got → List Step → Statements → Type 0
      Follows known got steps ss = (at : Point) (k n : ℕ) (vs : List ℤ) (f : Frame) (fs : List Frame) (to : Item)
          (deeds : List Deed) → Fits program (it n (in_order at k ss rest) vs (f ∷ fs)) → f.function ≡ function →
          Holds known f → DD (it n (in_order at k ss rest) vs (f ∷ fs)) deeds to →
          Al steps got (it n (in_order at k ss rest) vs (f ∷ fs)) deeds to

      -- at the first of the statements
      within_head : (at : Point) (k : ℕ) (s : Statement) (ss : Statements) (n : ℕ) (vs : List ℤ) (fs : List Frame) →
          IsWithin rest (it n (in_order at k (also s ss) rest) vs fs)
      within_head at k s ss n vs fs =
          (Run (At at k) s, in_order at (suc k) ss [], ap (λ z. Run (At at k) s ∷ z) (ordered at (suc k) ss))

      -- the value that is there is kept in a helping variable, and then the others
      keeping : (known : List Known) (got : Got) (steps : List Step) (ss : Statements) (x : ℕ) → helps x →
          Fresh x known → (at : Point) (k n : ℕ) (us : List ℤ) (f : Frame) (fs : List Frame) (to : Item)
          (deeds : List Deed) → Fits program (it n (Keep (At at k) x ∷ in_order at (suc k) ss rest) us (f ∷ fs)) →
          f.function ≡ function → Holds known f → Follows (knows x (last us) known) got steps ss →
          DD (it n (Keep (At at k) x ∷ in_order at (suc k) ss rest) us (f ∷ fs)) deeds to →
          Al steps got (it n (Keep (At at k) x ∷ in_order at (suc k) ss rest) us (f ∷ fs)) deeds to
      keeping known got steps ss x help fresh at k n us f fs to deeds fit fn holds others h =
          let i = it n (Keep (At at k) x ∷ in_order at (suc k) ss rest) us (f ∷ fs) in
          let j = it n (in_order at (suc k) ss rest) (before us) (set_in f x (last us) ∷ fs) in
          elim (peel program launch buffers i j to deeds refl h) [
            | inl (q, z) ↦ stopped steps got i i to deeds refl refl (
              Keep (At at k) x,
              in_order at (suc k) ss [],
              ap (λ z. Keep (At at k) x ∷ z) (ordered at (suc k) ss),
            ) (j, refl) q z h
            | inr g ↦ ahead (
              computes_set helps i j x (last us) help (set_variable helps n (Keep (At at k) x ∷
                  in_order at (suc k) ss rest) (in_order at (suc k) ss rest) us (before us) f fs x (last us)),
              one_step program launch buffers i j refl,
            )
                (others at (suc k) n (before us) (set_in f x (last us)) fs to deeds (next_fits i j refl fit) fn (
                  now_holds f x (last us),
                  still_holds known f x (last us) fresh holds,
                ) g)
          ]

      -- an evaluation whose value a helping variable keeps
      evaluated : (G : ℤ → Type 0) (known : List Known) (got : Got) (next : ℤ → Got) (step : Step) (steps : List Step)
          (ss : Statements)
          (x : ℕ) (e : Expression) → Spares known e → helps x → Fresh x known →
          ((from start to : Item) (deeds : List Deed) → Ad sets_nothing from start →
          StandsIn program launch buffers rest e start deeds to → Al (step ∷ steps) got from deeds to) →
          ((from start mid to : Item) (deeds further : List Deed) (v : ℤ) → Ad sets_nothing from start →
          Evaluates program launch buffers rest e start deeds mid v →
          G v → Al steps (next v) mid further to → Al (step ∷ steps) got from (deeds ++ further) to) →
          ((n : ℕ) (p : Point) (tail : List Task) (us : List ℤ) (g : Frame) (fs : List Frame) →
          g.function ≡ function → Fits program (it n (Keep p x ∷ tail) us (g ∷ fs)) → G (last us)) →
          ((v : ℤ) → G v → Follows (knows x v known) (next v) steps ss) →
          Follows known got (step ∷ steps) (also (Declare x (Some e)) ss)
      evaluated G known got next step steps ss x e spares help fresh inside whole gives others at k n vs f fs to deeds
          fit fn holds h =
          let T = in_order at (suc k) ss rest in
          let i = it n (Run (At at k) (Declare x (Some e)) ∷ T) vs (f ∷ fs) in
          let j = it n (Evaluate (At at k ++ Operand 0 ∷ []) e ∷ Keep (At at k) x ∷ T) vs (f ∷ fs) in
          let T' = in_order at (suc k) ss [] in
          let o = ordered at (suc k) ss in
          let behind_e : Keep (At at k) x ∷ T ≡ (Keep (At at k) x ∷ T') ++ rest = ap (λ z. Keep (At at k) x ∷ z) o in
          let begins : Evaluate (At at k ++ Operand 0 ∷ []) e ∷ Keep (At at k) x ∷ T ≡
          Evaluate (At at k ++ Operand 0 ∷ []) e ∷ ((Keep (At at k) x ∷ T') ++ rest) =
          ap (λ z. Evaluate (At at k ++ Operand 0 ∷ []) e ∷ z) behind_e in
          let to_j = goes_on_to i j (Evaluate (At at k ++ Operand 0 ∷ []) e ∷ Keep (At at k) x ∷ T') refl refl begins
          (one_step program launch buffers i j refl) in
          elim (peel program launch buffers i j to deeds refl h) [
            | inl (q, z) ↦
                stopped (step ∷ steps) got i i to deeds refl refl (within_head at k (Declare x (Some e)) ss n vs (f ∷
                fs))
                (j, refl) q z h
            | inr h1 ↦ elim (kept known e spares (At at k ++ Operand 0 ∷ []) n (Keep (At at k) x ∷ T) vs f fs to deeds
                holds h1) [
                  | inl (t, ts, q) ↦ inside i j to deeds to_j (record {
                    at = At at k ++ Operand 0 ∷ [];
                    front = Keep (At at k) x ∷ T';
                    begins = begins;
                    does = h1;
                    stands = (t, ts, q ∙ ap (λ z. t ∷ (ts ++ z)) behind_e);
                  })
                  | inr (g, us, front, further, a, holds', b, p) ↦
                      let m = it n (Keep (At at k) x ∷ T) us (g ∷ fs) in
                      let there = reached_fits j m front a (next_fits i j refl fit) in
                      let gf = holds'.1 ∙ fn in
                      let good = gives n (At at k) T us g fs gf there in
                      subst (λ ds. Al (step ∷ steps) got i ds to) (sym p) (whole i j
                      (it n (Keep (At at k) x ∷ T) us (g ∷ fs)) to front further (last us)
                      to_j (record {
                        at = At at k ++ Operand 0 ∷ [];
                        front = Keep (At at k) x ∷ T';
                        begins = begins;
                        does = a;
                        behind = behind_e;
                        value = refl;
                      }) good (keeping known (next (last us)) steps ss x help fresh at k n us g fs to further there gf
                      holds'.0 (others (last us) good) b))
                ]
          ]

      -- a component of a variable
      copied : (known : List Known) (got : Got) (steps : List Step) (ss : Statements) (of : IntType) (m : Named)
          (c x y : ℕ) → IsComponent env m c of y → helps x → Fresh x known → IsDeclaredAs later x of →
          ((v : ℤ) → IsValue of v → Follows (knows x v known) (with_component got m.span.first c v) steps ss) →
          Follows known got (Copy of m c ∷ steps) (also (Declare x (Some (Apply (Variable y) none))) ss)
      copied known got steps ss of m c x y is_component help fresh there others at k n vs f fs to deeds fit fn holds h =
          let T = in_order at (suc k) ss rest in
          let e = Apply (Variable y) none in
          let i = it n (Run (At at k) (Declare x (Some e)) ∷ T) vs (f ∷ fs) in
          let j = it n (Evaluate (At at k ++ Operand 0 ∷ []) e ∷ Keep (At at k) x ∷ T) vs (f ∷ fs) in
          let o = it n (Keep (At at k) x ∷ T) (f.variables y ∷ vs) (f ∷ fs) in
          let fit' = next_fits j o refl (next_fits i j refl fit) in
          let good = value_kept n (At at k) x T (f.variables y ∷ vs) f fs of fn there fit' in
          let T' = in_order at (suc k) ss [] in
          let behind_e : Keep (At at k) x ∷ T ≡ (Keep (At at k) x ∷ T') ++ rest =
          ap (λ z. Keep (At at k) x ∷ z) (ordered at (suc k) ss) in
          elim (peel program launch buffers i j to deeds refl h) [
            | inl (q, z) ↦
                stopped (Copy of m c ∷ steps) got i i to deeds refl refl (within_head at k (Declare x (Some e)) ss n vs
                (f ∷ fs))
                (j, refl) q z h
            | inr h1 ↦ elim (peel program launch buffers j o to deeds refl h1) [
              | inl (q, z) ↦
                  stopped (Copy of m c ∷ steps) got i j to deeds refl refl (
                    Evaluate (At at k ++ Operand 0 ∷ []) e,
                    Keep (At at k) x ∷ T',
                    ap (λ z. Evaluate (At at k ++ Operand 0 ∷ []) e ∷ z) behind_e,
                  ) (o, refl) q z h
              | inr h2 ↦ copy y is_component (goes_on_to i o (Keep (At at k) x ∷ T') refl refl behind_e
                  (steps_on program launch buffers i j o (one_step program launch buffers i j refl) refl)) good
                  (keeping known
                  (with_component got m.span.first c (f.variables y)) steps ss x help fresh at k n
                  (f.variables y ∷ vs) f
                  fs to deeds fit' fn holds (others (f.variables y) good) h2)
            ]
          ]

      -- one load
      loaded : (known : List Known) (got : Got) (steps : List Step) (ss : Statements) (m : Mark) (c x site : ℕ)
          (r : Root) (e index : Expression) → IsElement env m r e →
          Own known index (index_of got m c) → helps x → Fresh x known →
          ((v : ℤ) → IsValue (type_in (kind_at m)) v →
          Follows (knows x v known) (with_component got (first_at m) c v) steps ss) →
          Follows known got (LoadStep m c ∷ steps)
          (also (Declare x (Some (Apply (Load site (type_in (kind_at m)) r) (single index)))) ss)
      loaded known got steps ss m c x site r e index is_element own help fresh others at k n vs f fs to deeds fit fn
          holds h =
          let T = in_order at (suc k) ss rest in
          let of = type_in (kind_at m) in
          let E = Apply (Load site of r) (single index) in
          let p = At at k ++ Operand 0 ∷ [] in
          let i = it n (Run (At at k) (Declare x (Some E)) ∷ T) vs (f ∷ fs) in
          let j = it n (Evaluate p E ∷ Keep (At at k) x ∷ T) vs (f ∷ fs) in
          let L = Finish p (Load site of r) 1 ∷ Keep (At at k) x ∷ T in
          let o = it n L (index_of got m c ∷ vs) (f ∷ fs) in
          let l = it n (Evaluate (p ++ Operand 0 ∷ []) index ∷ L) vs (f ∷ fs) in
          let leads = own_reaches program launch buffers known index (index_of got m c) own
          (p ++ Operand 0 ∷ []) n L vs f fs holds in
          let fit' = reached_fits l o [] leads (next_fits j l refl (next_fits i j refl fit)) in
          let to_o = then_further program launch buffers (steps_on program launch buffers i j l
          (one_step program launch buffers i j refl) refl) leads in
          let T' = in_order at (suc k) ss [] in
          let behind_e : Keep (At at k) x ∷ T ≡ (Keep (At at k) x ∷ T') ++ rest =
          ap (λ z. Keep (At at k) x ∷ z) (ordered at (suc k) ss) in
          let behind_l : L ≡ (Finish p (Load site of r) 1 ∷ Keep (At at k) x ∷ T') ++ rest =
          ap (λ z. Finish p (Load site of r) 1 ∷ z) behind_e in
          elim (peel program launch buffers i j to deeds refl h) [
            | inl (q, z) ↦ stopped (LoadStep m c ∷ steps) got i i to deeds refl refl
                (within_head at k (Declare x (Some E)) ss n vs (f ∷ fs)) (j, refl) q z h
            | inr h1 ↦ elim (first program launch buffers n (f ∷ fs) (Evaluate p E) (Keep (At at k) x ∷ T)
                (Evaluate (p ++ Operand 0 ∷ []) index ∷ L) vs vs to deeds refl h1) [
                  | inl s ↦ stop_at (LoadStep m c ∷ steps) got i to deeds (Keep (At at k) x ∷ T')
                      (Keep (At at k) x ∷ T) behind_e s h
                  | inr h2 ↦ elim (own_runs program launch buffers known index (index_of got m c) own
                      (p ++ Operand 0 ∷ []) n L vs f fs to deeds holds h2) [
                        | inl s ↦ stop_at (LoadStep m c ∷ steps) got i to deeds
                            (Finish p (Load site of r) 1 ∷ Keep (At at k) x ∷ T') L behind_l s h
                        | inr h3 ↦ elim (peel_loads o to deeds site (access_at program launch o of r (index_of got m c))
                            (λ bytes. it n (Keep (At at k) x ∷ T) (value_of_bytes of bytes ∷ vs) (f ∷ fs)) refl h3) [
                              | inl (q, z) ↦ subst (λ d. Al (LoadStep m c ∷ steps) got i d to) (sym z)
                                  (subst (λ a. Al (LoadStep m c ∷ steps) got i [] a) (sym q)
                                  (at_load r e site
                                  (λ bytes. it n (Keep (At at k) x ∷ T) (value_of_bytes of bytes ∷ vs) (f ∷ fs))
                                  is_element (goes_on_to i o
                                  (Finish p (Load site of r) 1 ∷ Keep (At at k) x ∷ T') refl refl behind_l to_o) refl))
                              | inr (bytes, ds, once, h4, z) ↦ subst (λ d. Al (LoadStep m c ∷ steps) got i d to) (sym z)
                                  (load r e site bytes is_element (goes_on_to i o
                                  (Finish p (Load site of r) 1 ∷ Keep (At at k) x ∷ T') refl refl behind_l to_o) once
                                  (keeping known (with_component got (first_at m) c (value_of_bytes of bytes)) steps ss
                                  x help fresh at k n (value_of_bytes of bytes ∷ vs) f fs to ds
                                  (once_fits o (it n (Keep (At at k) x ∷ T) (value_of_bytes of bytes ∷ vs) (f ∷ fs))
                                  (Read site (access_at program launch o of r (index_of got m c)) bytes) once fit') fn
                                  holds
                                  (others (value_of_bytes of bytes) (IsValue-value of (number_l 256 bytes))) h4))
                            ]
                      ]
                ]
          ]

      -- one store
      stored : (known : List Known) (got : Got) (steps : List Step) (ss : Statements) (m : Mark) (c y site : ℕ)
          (r : Root) (e index value : Expression) → IsElement env m r e →
          Own known index (index_of got m c) →
          Own known value (result got.leaves y) → Follows known got steps ss →
          Follows known got (StoreStep m c y ∷ steps)
          (also (Do (Apply (Store site (type_in (kind_at m)) r) (pair index value))) ss)
      stored known got steps ss m c y site r e index value is_element own_index own_value others at k n vs f fs to
          deeds fit fn holds h =
          let T = in_order at (suc k) ss rest in
          let of = type_in (kind_at m) in
          let E = Apply (Store site of r) (pair index value) in
          let p = At at k ++ Operand 0 ∷ [] in
          let K = Discard (At at k ++ OwnLeg 0 ∷ []) ∷ T in
          let L = Finish p (Store site of r) 2 ∷ K in
          let i = it n (Run (At at k) (Do E) ∷ T) vs (f ∷ fs) in
          let u = index_of got m c in
          let w = result got.leaves y in
          let o = it n L (w ∷ u ∷ vs) (f ∷ fs) in
          let j = it n (Evaluate p E ∷ K) vs (f ∷ fs) in
          let second = it n (Evaluate (p ++ Operand 1 ∷ []) value ∷ L) (u ∷ vs) (f ∷ fs) in
          let l = it n (Evaluate (p ++ Operand 0 ∷ []) index ∷ Evaluate (p ++ Operand 1 ∷ []) value ∷ L) vs (f ∷ fs) in
          let leads = then_further program launch buffers (own_reaches program launch buffers known index u own_index
          (p ++ Operand 0 ∷ []) n (Evaluate (p ++ Operand 1 ∷ []) value ∷ L) vs f fs holds)
          (own_reaches program launch buffers known value w own_value (p ++ Operand 1 ∷ []) n L (u ∷ vs) f fs holds) in
          let fit' = reached_fits l o [] leads (next_fits j l refl (next_fits i j refl fit)) in
          let to_o = then_further program launch buffers (steps_on program launch buffers i j l
          (one_step program launch buffers i j refl) refl) leads in
          let T' = in_order at (suc k) ss [] in
          let K' = Discard (At at k ++ OwnLeg 0 ∷ []) ∷ T' in
          let L' = Finish p (Store site of r) 2 ∷ K' in
          let behind_t : T ≡ T' ++ rest = ordered at (suc k) ss in
          let behind_k : K ≡ K' ++ rest = ap (λ z. Discard (At at k ++ OwnLeg 0 ∷ []) ∷ z) behind_t in
          let behind_l : L ≡ L' ++ rest = ap (λ z. Finish p (Store site of r) 2 ∷ z) behind_k in
          let S = StoreStep m c y ∷ steps in
          elim (first program launch buffers n (f ∷ fs) (Run (At at k) (Do E)) T (Evaluate p E ∷ K) vs vs to deeds
          refl
          h) [
            | inl s ↦ stop_at S got i to deeds T' T behind_t s h
            | inr h1 ↦ elim (first program launch buffers n (f ∷ fs) (Evaluate p E) K (Evaluate (p ++ Operand 0 ∷ [])
                index ∷ Evaluate (p ++ Operand 1 ∷ []) value ∷ L) vs vs to deeds refl h1) [
                  | inl s ↦ stop_at S got i to deeds K' K behind_k s h
                  | inr h2 ↦ elim (own_runs program launch buffers known index u own_index (p ++ Operand 0 ∷ []) n
                      (Evaluate (p ++ Operand 1 ∷ []) value ∷ L) vs f fs to deeds holds h2) [
                        | inl s ↦ stop_at S got i to deeds (Evaluate (p ++ Operand 1 ∷ []) value ∷ L')
                            (Evaluate (p ++ Operand 1 ∷ []) value ∷ L)
                            (ap (λ z. Evaluate (p ++ Operand 1 ∷ []) value ∷ z) behind_l) s h
                        | inr h3 ↦ elim (own_runs program launch buffers known value w own_value (p ++ Operand 1 ∷ [])
                            n L
                            (u ∷ vs) f fs to deeds holds h3) [
                              | inl s ↦ stop_at S got i to deeds L' L behind_l s h
                              | inr h4 ↦ elim (peel_stores o to deeds site (object_at program launch o r) u
                                  (bytes_of of w) (it n K (w ∷ vs) (f ∷ fs)) refl h4) [
                                    | inl (q, z) ↦ subst (λ d. Al S got i d to) (sym z)
                                        (subst (λ a. Al S got i [] a) (sym q) (at_store r e site
                                        (it n K (w ∷ vs) (f ∷ fs)) is_element
                                        (goes_on_to i o L' refl refl behind_l to_o) refl))
                                    | inr (ds, once, h5, z) ↦
                                        subst (λ d. Al (StoreStep m c y ∷ steps) got i d to) (sym z)
                                        (store r e site is_element (goes_on_to i o L' refl refl behind_l to_o) once
                                        (elim (first program launch buffers n (f ∷ fs)
                                        (Discard (At at k ++ OwnLeg 0 ∷ [])) T T (w ∷ vs) vs to ds refl h5) [
                                          | inl s ↦ stop_at steps got (it n K (w ∷ vs) (f ∷ fs)) to ds T' T behind_t s
                                              h5
                                          | inr h6 ↦ ahead (
                                            computes_same helps (it n K (w ∷ vs) (f ∷ fs))
                                                (it n T vs (f ∷ fs)) refl refl,
                                            one_step program launch buffers
                                                (it n K (w ∷ vs) (f ∷ fs)) (it n T vs (f ∷ fs)) refl,
                                          )
                                              (others at (suc k) n vs f fs to ds (next_fits
                                              (it n K (w ∷ vs) (f ∷ fs)) (it n T vs (f ∷ fs)) refl (once_fits o
                                              (it n K (w ∷ vs) (f ∷ fs)) (Wrote site (object_at program launch o r) u
                                              (bytes_of of w)) once fit')) fn holds h6)
                                        ]))
                                  ]
                            ]
                      ]
                ]
          ]

      -- a component is set
      assigned : (known : List Known) (got : Got) (steps : List Step) (ss : Statements) (m : Named) (c y x : ℕ)
          (of : IntType) (value : Expression) → IsComponent later m c of x → Own known value (result got.leaves y) →
          Fresh x known → Follows known got steps ss →
          Follows known got (SetStep m c y ∷ steps) (also (Do (Apply (Set x) (single value))) ss)
      assigned known got steps ss m c y x of value is_component own fresh others at k n vs f fs to deeds fit fn holds
          h =
          let T = in_order at (suc k) ss rest in
          let E = Apply (Set x) (single value) in
          let p = At at k ++ Operand 0 ∷ [] in
          let K = Discard (At at k ++ OwnLeg 0 ∷ []) ∷ T in
          let L = Finish p (Set x) 1 ∷ K in
          let i = it n (Run (At at k) (Do E) ∷ T) vs (f ∷ fs) in
          let w = result got.leaves y in
          let o = it n L (w ∷ vs) (f ∷ fs) in
          let g = set_in f x w in
          let a = it n K (w ∷ vs) (g ∷ fs) in
          let j = it n (Evaluate p E ∷ K) vs (f ∷ fs) in
          let l = it n (Evaluate (p ++ Operand 0 ∷ []) value ∷ L) vs (f ∷ fs) in
          let leads = own_reaches program launch buffers known value w own (p ++ Operand 0 ∷ []) n L vs f fs holds in
          let fit' = reached_fits l o [] leads (next_fits j l refl (next_fits i j refl fit)) in
          let fit'' = next_fits a (it n T vs (g ∷ fs)) refl (next_fits o a refl fit') in
          let to_a = steps_on program launch buffers i o a (then_further program launch buffers
          (steps_on program launch buffers i j l (one_step program launch buffers i j refl) refl) leads) refl in
          let T' = in_order at (suc k) ss [] in
          let K' = Discard (At at k ++ OwnLeg 0 ∷ []) ∷ T' in
          let L' = Finish p (Set x) 1 ∷ K' in
          let behind_t : T ≡ T' ++ rest = ordered at (suc k) ss in
          let behind_k : K ≡ K' ++ rest = ap (λ z. Discard (At at k ++ OwnLeg 0 ∷ []) ∷ z) behind_t in
          let behind_l : L ≡ L' ++ rest = ap (λ z. Finish p (Set x) 1 ∷ z) behind_k in
          let S = SetStep m c y ∷ steps in
          elim (first program launch buffers n (f ∷ fs) (Run (At at k) (Do E)) T (Evaluate p E ∷ K) vs vs to deeds
          refl
          h) [
            | inl s ↦ stop_at S got i to deeds T' T behind_t s h
            | inr h1 ↦ elim (first program launch buffers n (f ∷ fs) (Evaluate p E) K (Evaluate (p ++ Operand 0 ∷ [])
                value ∷ L) vs vs to deeds refl h1) [
                  | inl s ↦ stop_at S got i to deeds K' K behind_k s h
                  | inr h2 ↦ elim (own_runs program launch buffers known value w own (p ++ Operand 0 ∷ []) n L vs f fs
                      to
                      deeds holds h2) [
                        | inl s ↦ stop_at S got i to deeds L' L behind_l s h
                        | inr h3 ↦ elim (peel program launch buffers o a to deeds refl h3) [
                          | inl (q, z) ↦ stopped S got i o to deeds refl refl (Finish p (Set x) 1, K', behind_l)
                              (a, refl) q z h
                          | inr h4 ↦ set of x is_component (record {
                            does = to_a;
                            changes = set_variable helps n (Run (At at k) (Do E) ∷ T) K vs (w ∷ vs) f fs x w;
                            front = K';
                            left = behind_k;
                          }) (elim (first program launch buffers n (g ∷ fs)
                              (Discard (At at k ++ OwnLeg 0 ∷ [])) T T (w ∷ vs) vs to deeds refl h4) [
                                | inl s ↦ stop_at steps got a to deeds T' T behind_t s h4
                                | inr h5 ↦ ahead (
                                  computes_same helps a (it n T vs (g ∷ fs)) refl refl,
                                  one_step program launch buffers a (it n T vs (g ∷ fs)) refl,
                                )
                                    (others at (suc k) n vs g fs to deeds fit'' fn (still_holds known f x w fresh holds)
                                    h5)
                              ])
                        ]
                      ]
                ]
          ]

      -- a component is declared
      declared : (known : List Known) (got : Got) (steps : List Step) (ss : Statements) (m : Named) (c y x : ℕ)
          (of : IntType) (value : Expression) → IsComponent later m c of x → Own known value (result got.leaves y) →
          Fresh x known → Follows known got steps ss →
          Follows known got (SetStep m c y ∷ steps) (also (Declare x (Some value)) ss)
      declared known got steps ss m c y x of value is_component own fresh others at k n vs f fs to deeds fit fn holds
          h =
          let T = in_order at (suc k) ss rest in
          let p = At at k ++ Operand 0 ∷ [] in
          let K = Keep (At at k) x ∷ T in
          let i = it n (Run (At at k) (Declare x (Some value)) ∷ T) vs (f ∷ fs) in
          let w = result got.leaves y in
          let o = it n K (w ∷ vs) (f ∷ fs) in
          let a = it n T vs (set_in f x w ∷ fs) in
          let j = it n (Evaluate p value ∷ K) vs (f ∷ fs) in
          let leads = own_reaches program launch buffers known value w own p n K vs f fs holds in
          let fit' = reached_fits j o [] leads (next_fits i j refl fit) in
          let to_a = steps_on program launch buffers i o a (then_further program launch buffers
          (one_step program launch buffers i j refl) leads) refl in
          let T' = in_order at (suc k) ss [] in
          let K' = Keep (At at k) x ∷ T' in
          let behind_t : T ≡ T' ++ rest = ordered at (suc k) ss in
          let behind_k : K ≡ K' ++ rest = ap (λ z. Keep (At at k) x ∷ z) behind_t in
          let S = SetStep m c y ∷ steps in
          elim (first program launch buffers n (f ∷ fs) (Run (At at k) (Declare x (Some value))) T
          (Evaluate p value ∷ K) vs vs to deeds refl h) [
            | inl s ↦ stop_at S got i to deeds T' T behind_t s h
            | inr h1 ↦ elim (own_runs program launch buffers known value w own p n K vs f fs to deeds holds h1) [
              | inl s ↦ stop_at S got i to deeds K' K behind_k s h
              | inr h2 ↦ elim (peel program launch buffers o a to deeds refl h2) [
                | inl (q, z) ↦ stopped S got i o to deeds refl refl (Keep (At at k) x, T', behind_k) (a, refl) q z
                    h
                | inr h3 ↦ set of x is_component (record {
                  does = to_a;
                  changes = set_variable helps n (Run (At at k) (Declare x (Some value)) ∷ T) T vs vs f fs x w;
                  front = T';
                  left = behind_t;
                })
                    (others at (suc k) n vs (set_in f x w) fs to deeds (next_fits o a refl fit') fn
                    (still_holds known f x w fresh holds) h3)
              ]
            ]
          ]

      -- Where statements stand for steps, an item that comes to them goes along the steps.
      pub follows : {known : List Known} {got : Got} {steps : List Step} {ss : Statements} →
          Emits env later helps result known got steps ss → Follows known got steps ss
      follows (end known got) = λ at k n vs f fs to deeds fit fn holds h.
          behind (goes_on_to (it n rest vs (f ∷ fs)) (it n rest vs (f ∷ fs)) [] refl refl refl nothing) refl h
      follows (offset_line known got steps ss m r e x is_element spares help fresh lines) =
          evaluated (λ v. Unit {0}) known got (λ v. with_offset got (first_at m) v) (Offset m) steps ss x e spares help
          fresh
          (λ from start to deeds c s. in_offset r e is_element c s)
          (λ from start mid to deeds further v c ev good al. offset r e v is_element c ev al)
          (λ n p tail us g fs fn fit. tt) (λ v g. follows (lines v))
      follows (number_line known got steps ss of m e x is_number spares help fresh there lines) =
          evaluated (IsValue of) known got (λ v. with_number got (first_at m) v) (Number of m) steps ss x e spares help
          fresh (λ from start to deeds c s. in_number e is_number c s)
          (λ from start mid to deeds further v c ev good al. number e v is_number c ev good al)
          (λ n p tail us g fs fn fit. value_kept n p x tail us g fs of fn there fit) (λ v g. follows (lines v g))
      follows (copy_line known got steps ss of m c x y is_component help fresh there lines) =
          copied known got steps ss of m c x y is_component help fresh there (λ v g. follows (lines v g))
      follows (load_line known got steps ss m c x site r e index is_element own help fresh lines) =
          loaded known got steps ss m c x site r e index is_element own help fresh (λ v g. follows (lines v g))
      follows (store_line known got steps ss m c j site r e index value is_element own_index own_value lines) =
          stored known got steps ss m c j site r e index value is_element own_index own_value (follows lines)
      follows (set_line known got steps ss m c j x of value is_component own fresh lines) =
          assigned known got steps ss m c j x of value is_component own fresh (follows lines)
      follows (declare_line known got steps ss m c j x of value is_component own fresh lines) =
          declared known got steps ss m c j x of value is_component own fresh (follows lines)
