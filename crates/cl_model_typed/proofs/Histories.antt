-- Each item of a history of an item that fits, fits; and what an evaluation leaves.
use Rattle.std.proofs.Common.{◌≡◌, ℕ, ℤ, List, [], ◌∷◌, ◌++◌, Option, Some, None, ◌⊎◌, inl, inr, refl}
use Rattle.std.proofs.Common.{slice_get, sym, ap, ◌∙◌, subst}
use Rattle.std.proofs.lemmas.Option.{none-some}
use Rattle.work_items.specs.Items.{Next, Ends, Waits, Goes, Begins, Loads, Stores}
use Rattle.work_items.specs.Memory.{Access}
use Rattle.work_items.specs.Histories.{Deed, Passed, Turned, Read, Wrote, History, nothing, going, doing, DoesOnce}
use Rattle.wg_num.specs.declared.types.IntType.{IntType}
use Rattle.wg_num.specs.Wrap.{IsValue}
use Rattle.cl_model.specs.Tree.{Expression, Program}
use Rattle.cl_model.specs.Lists.{Each}
use Rattle.cl_model.specs.Sizes.{Launch}
use Rattle.cl_model.specs.Calls.{function_at, kernel_of}
use Rattle.cl_model.specs.Task.{Point, Task, Evaluate, InCall, Frame, Item}
use Rattle.cl_model.specs.Steps.{item_next}
use Rattle.cl_model.specs.Valid.{HasType}
use Rattle.cl_model.specs.Meaning.{argument_value, start_item}
use Rattle.cl_model_typed.specs.Known.{Known, Exactly, IsKnown, AreKnown, known_of, HoldsValues}
use Rattle.cl_model_typed.specs.Expected.{runs, evaluates, End, Ahead, ends, goes_on, returns_to, Stands, FitsUntil}
use Rattle.cl_model_typed.specs.Expected.{Gives, NoneLeft, Fits}
use Rattle.cl_model_typed.specs.Law.{IsTyped, IsBefore, ComesBehind}
use Rattle.cl_model_typed.proofs.Numbers.{query_value, argument_fits}
use Rattle.cl_model_typed.proofs.Exits.{IsClosed, an_item, Good}
use Rattle.cl_model_typed.proofs.Steps.{GivesValues, AllAfter, FitsAfter, body_fits, item_fits}

-- ---- ends

pub none_closed : IsClosed NoneLeft
none_closed tasks f frames known base e = (e, λ left. refl)

-- the end before these tasks, in this function above these frames, with this known; no statement stands before it
abbrev pub Before : List Task → ℕ → List Frame → List Known → End
Before rest f frames known tasks g others of base =
    (tasks ≡ rest) × (g ≡ f) × (others ≡ frames) × (of ≡ known) × (base ≡ None)

pub before_closed : (rest : List Task) (f : ℕ) (frames : List Frame) (known : List Known) →
    IsClosed (Before rest f frames known)
before_closed rest f frames known tasks g others of base e = absurd (none-some base (sym e.4))

-- what is before the end of the tasks
abbrev pub Front : List Task → List Task → Type 0
Front rest tasks = (front : List Task) × (tasks ≡ front ++ rest)

front_of : (program : Program) (rest : List Task) (f : ℕ) (frames : List Frame) (known : List Known)
    {tasks : List Task} {g : ℕ} {others : List Frame} {of : List Known} {base : Option (List Known)} →
    Ahead program (Before rest f frames known) tasks g others of base → Front rest tasks
front_of program rest f frames known (ends e) = ([], e.0)
front_of program rest f frames known (goes_on {task = task} x a) = let r = front_of program rest f frames known a in
    (task ∷ r.0, ap (λ ts. task ∷ ts) r.1)
front_of program rest f frames known (returns_to {at = at} {site = site} a) =
    let r = front_of program rest f frames known a in
    (InCall at site ∷ r.0, ap (λ ts. InCall at site ∷ ts) r.1)

-- the values that are on the list
exactly : List ℤ → List Known
exactly [] = []
exactly (v ∷ vs) = Exactly v ∷ exactly vs

exactly_known : (values : List ℤ) → AreKnown (exactly values) values
unfolding exactly
exactly_known [] = tt
exactly_known (v ∷ values) = (refl, exactly_known values)

known_exactly : (values us : List ℤ) → AreKnown (exactly values) us → us ≡ values
unfolding exactly
known_exactly [] [] h = refl
known_exactly [] (u ∷ us) h = absurd h
known_exactly (v ∷ values) [] h = absurd h
known_exactly (v ∷ values) (u ∷ us) h =
    ap (λ w. w ∷ us) (sym h.0) ∙ ap (λ ws. v ∷ ws) (known_exactly values us h.1)

-- where a step leads to, in a history
goes_to : (P : Item → Type 0) (next : Next Item) (to : Item) → AllAfter P next → next ≡ Goes to → P to
goes_to P next to h e = subst (λ m. AllAfter P m) e h

does_to : (P : Item → Type 0) (lengths : ℕ → ℕ) (told : Access → List ℕ → Type 0) (next : Next Item) (deed : Deed)
    (to : Item) → AllAfter P next → DoesOnce lengths told next deed to → P to
does_to P lengths told Ends deed to k e = elim e [ ]
does_to P lengths told (Goes after) deed to k e = elim e [ ]
does_to P lengths told (Waits site after) Turned to k e = elim e [ ]
does_to P lengths told (Waits site after) (Read at read bytes) to k e = elim e [ ]
does_to P lengths told (Waits site after) (Wrote at o j bs) to k e = elim e [ ]
does_to P lengths told (Begins after) Passed to k e = elim e [ ]
does_to P lengths told (Begins after) (Read at read bytes) to k e = elim e [ ]
does_to P lengths told (Begins after) (Wrote at o j bs) to k e = elim e [ ]
does_to P lengths told (Loads site access after) Passed to k e = elim e [ ]
does_to P lengths told (Loads site access after) Turned to k e = elim e [ ]
does_to P lengths told (Loads site access after) (Wrote at o j bs) to k e = elim e [ ]
does_to P lengths told (Stores site object index bytes after) Passed to k e = elim e [ ]
does_to P lengths told (Stores site object index bytes after) Turned to k e = elim e [ ]
does_to P lengths told (Stores site object index bytes after) (Read at read bs) to k e = elim e [ ]
does_to P lengths told (Waits site after) Passed to k e = subst P e k
does_to P lengths told (Begins after) Turned to k e = subst P e k
does_to P lengths told (Loads site access after) (Read at read bytes) to k (a, b, f, t, e) = subst P e (k bytes)
does_to P lengths told (Stores site object index bytes after) (Wrote at o j bs) to k (a, b, c, d, f, e) = subst P e k

module _ (program : Program) (launch : Launch) (typed : IsTyped program launch) where
  pub answers : GivesValues launch
  answers what item dim = query_value program launch typed.fits typed.some_items what item dim

  -- ---- a step

  module _ (end : End) (closed : IsClosed end) where
    abbrev After : ℕ → Next Item → Type 0
    After n next = FitsAfter program typed.valid launch answers end closed n next

    -- an item that fits stands at the end, or its step leads to items that fit
    abbrev AtEnd : List Task → List ℤ → List Frame → Type 0
    AtEnd tasks values [] = ⊥
    AtEnd tasks values (frame ∷ frames) = (known : List Known) × (base : Option (List Known)) ×
        end tasks frame.function frames known base × AreKnown known values

    step : (n : ℕ) (tasks : List Task) (values : List ℤ) (frames : List Frame) (known : List Known)
        (base : Option (List Known)) → Each (HoldsValues program) frames → AreKnown known values →
        Stands program end tasks frames known base →
        AtEnd tasks values frames ⊎ After n (item_next program launch (an_item n tasks values frames))
    step n tasks values [] known base h k a = absurd a
    step n tasks values (frame ∷ frames) known base h k a =
        by (item_fits program typed.valid launch answers end closed n values frame frames refl refl h k a)
      where
        by : end tasks frame.function frames known base ⊎
            After n (item_next program launch (an_item n tasks values (frame ∷ frames))) →
            AtEnd tasks values (frame ∷ frames) ⊎
            After n (item_next program launch (an_item n tasks values (frame ∷ frames)))
        by (inl e) = inl (known, base, e, k)
        by (inr s) = inr s

    pub step_of : (i : Item) → FitsUntil program end i →
        AtEnd i.tasks i.values i.frames ⊎ After i.number (item_next program launch i)
    step_of i h = step i.number i.tasks i.values i.frames h.known h.base h.variables h.values h.tasks

  -- ---- all of a history

  -- at the end of all tasks there is no step
  over : (n : ℕ) (tasks : List Task) (values : List ℤ) (frames : List Frame) →
      AtEnd NoneLeft none_closed tasks values frames →
      After NoneLeft none_closed n (item_next program launch (an_item n tasks values frames))
  over n tasks values [] h = absurd h
  over n tasks values (frame ∷ frames) h =
      subst (λ ts. After NoneLeft none_closed n (item_next program launch (an_item n ts values (frame ∷ frames))))
      (sym h.2) tt

  whole_step : (i : Item) → Fits program i → After NoneLeft none_closed i.number (item_next program launch i)
  whole_step i h = by (step_of NoneLeft none_closed i h)
    where
      by : AtEnd NoneLeft none_closed i.tasks i.values i.frames ⊎
          After NoneLeft none_closed i.number (item_next program launch i) →
          After NoneLeft none_closed i.number (item_next program launch i)
      by (inl e) = over i.number i.tasks i.values i.frames e
      by (inr s) = s

  pub stays : {lengths : ℕ → ℕ} {told : Access → List ℕ → Type 0} {from to : Item} {deeds : List Deed} →
      History lengths told (item_next program launch) from deeds to → Fits program from → Fits program to
  stays nothing h = h
  stays {from = from} (going {mid = mid} e more) h =
      stays more (goes_to (Good program NoneLeft from.number) (item_next program launch from) mid (whole_step from h)
      e).1
  stays {lengths = lengths} {told = told} {from = from} (doing {mid = mid} {deed = deed} e more) h =
      stays more (does_to (Good program NoneLeft from.number) lengths told (item_next program launch from) deed mid
      (whole_step from h) e).1

  pub start_fits : (item : ℕ) → Fits program (start_item program launch item)
  start_fits item = record {
    variables = (
      λ x t there. subst (λ u. IsValue u (argument_value (slice_get launch.args x))) there.2
          (argument_fits launch (kernel_of program).parameters (kernel_of program).variables launch.args x there.0
          typed.fits.arguments there.1),
      tt,
    );
    known = [];
    values = tt;
    base = Some [];
    tasks = goes_on (runs (body_fits program typed.valid launch answers NoneLeft none_closed program.kernel))
        (ends refl);
  }

  -- ---- an evaluation

  -- Something else may be known of the items, which steps keep as long as the evaluation is under way: it holds behind
  -- the evaluation too.
  module _ (lengths : ℕ → ℕ) (told : Access → List ℕ → Type 0) (n : ℕ) (rest : List Task) (f : ℕ)
      (frames : List Frame) (result : Option IntType) (values : List ℤ) (Also : Item → Type 0)
      (keeps : (i : Item) → Also i → IsBefore rest i → AllAfter Also (item_next program launch i))
    where
      abbrev pub Does : Item → List Deed → Item → Type 0
      Does = History lengths told (item_next program launch)

      abbrev Stop : End
      Stop = Before rest f frames (known_of result ∷ exactly values)

      stop_closed : IsClosed Stop
      stop_closed = before_closed rest f frames (known_of result ∷ exactly values)

      -- behind the evaluation, with its value, and with values of their types in the variables
      abbrev pub Behind : Item → Type 0
      Behind i = (v : ℤ) × (frame : Frame) × IsKnown (known_of result) v × (frame.function ≡ f) ×
          HoldsValues program frame × (i ≡ an_item n rest (v ∷ values) (frame ∷ frames))

      -- the history has come there, and goes on
      abbrev pub Comes : Item → List Deed → Item → Type 0
      Comes from deeds to = (mid : Item) × (first : List Deed) × (further : List Deed) × Behind mid × Also mid ×
          (deeds ≡ first ++ further) × Does from first mid × Does mid further to

      arrives : (m : ℕ) (tasks : List Task) (us : List ℤ) (others : List Frame) → m ≡ n →
          Each (HoldsValues program) others → AtEnd Stop stop_closed tasks us others →
          Behind (an_item m tasks us others)
      arrives m tasks us [] same h e = absurd e
      arrives m tasks [] (frame ∷ others) same h (known, base, e, k) =
          absurd (subst (λ ks. AreKnown ks []) e.3 k)
      arrives m tasks (v ∷ us) (frame ∷ others) same h (known, base, e, k) =
          let all : AreKnown (known_of result ∷ exactly values) (v ∷ us) = subst (λ ks. AreKnown ks (v ∷ us)) e.3 k in (
            v,
            frame,
            all.0,
            e.1,
            h.0,
            ap (λ x. an_item x tasks (v ∷ us) (frame ∷ others)) same
                ∙ ap (λ x. an_item n x (v ∷ us) (frame ∷ others)) e.0
                ∙ ap (λ x. an_item n rest (v ∷ x) (frame ∷ others)) (known_exactly values us all.1)
                ∙ ap (λ x. an_item n rest (v ∷ values) (frame ∷ x)) e.2,
          )

      inside : (tasks : List Task) (us : List ℤ) (others : List Frame) (known : List Known)
          (base : Option (List Known)) → AreKnown known us → Stands program Stop tasks others known base →
          AtEnd Stop stop_closed tasks us others ⊎
          ((task : Task) × (front : List Task) × (tasks ≡ task ∷ (front ++ rest)))
      inside tasks us [] known base k a = absurd a
      inside tasks us (frame ∷ others) known base k a = by k a
        where
          by : {ts : List Task} {g : ℕ} {fs : List Frame} {ks : List Known} {b : Option (List Known)} →
              AreKnown ks us → Ahead program Stop ts g fs ks b →
              ((kk : List Known) × (bb : Option (List Known)) × Stop ts g fs kk bb × AreKnown kk us) ⊎
              ((task : Task) × (front : List Task) × (ts ≡ task ∷ (front ++ rest)))
          by {ks = ks} {b = b} k (ends e) = inl (ks, b, e, k)
          by k (goes_on {task = task} x a) =
              let r = front_of program rest f frames (known_of result ∷ exactly values) a in
              inr (task, r.0, ap (λ ts. task ∷ ts) r.1)
          by k (returns_to {at = at} {site = site} a) =
              let r = front_of program rest f frames (known_of result ∷ exactly values) a in
              let task : Task = InCall at site in inr (task, r.0, ap (λ ts. task ∷ ts) r.1)

      inside_of : (i : Item) → FitsUntil program Stop i →
          AtEnd Stop stop_closed i.tasks i.values i.frames ⊎ IsBefore rest i
      inside_of i h = inside i.tasks i.values i.frames h.known h.base h.values h.tasks

      here : (i to : Item) (deeds : List Deed) → i.number ≡ n → FitsUntil program Stop i → Also i → Does i deeds to →
          AtEnd Stop stop_closed i.tasks i.values i.frames → Comes i deeds to
      here i to deeds same h also d e =
          (i, [], deeds, arrives i.number i.tasks i.values i.frames same h.variables e, also, refl, nothing, d)

      ahead : (from mid to : Item) (deeds : List Deed) → item_next program launch from ≡ Goes mid →
          IsBefore rest to ⊎ Comes mid deeds to → IsBefore rest to ⊎ Comes from deeds to
      ahead from mid to deeds e (inl s) = inl s
      ahead from mid to deeds e (inr (m, first, further, b, also, p, d, q)) =
          inr (m, first, further, b, also, p, going e d, q)

      ahead_doing : (from mid to : Item) (deed : Deed) (deeds : List Deed) →
          DoesOnce lengths told (item_next program launch from) deed mid →
          IsBefore rest to ⊎ Comes mid deeds to → IsBefore rest to ⊎ Comes from (deed ∷ deeds) to
      ahead_doing from mid to deed deeds e (inl s) = inl s
      ahead_doing from mid to deed deeds e (inr (m, first, further, b, also, p, d, q)) =
          inr (m, deed ∷ first, further, b, also, ap (λ xs. deed ∷ xs) p, doing e d, q)

      passes : {from to : Item} {deeds : List Deed} → Does from deeds to → from.number ≡ n →
          FitsUntil program Stop from → Also from → IsBefore rest to ⊎ Comes from deeds to
      passes {from = from} nothing same h also = by (inside_of from h)
        where
          by : AtEnd Stop stop_closed from.tasks from.values from.frames ⊎ IsBefore rest from →
              IsBefore rest from ⊎ Comes from [] from
          by (inl e) = inr (here from from [] same h also nothing e)
          by (inr s) = inl s
      passes {from = from} {to = to} {deeds = deeds} (going {mid = mid} e more) same h also =
          by (step_of Stop stop_closed from h) (inside_of from h) (λ a b c. passes more a b c)
        where
          by : AtEnd Stop stop_closed from.tasks from.values from.frames ⊎
              After Stop stop_closed from.number (item_next program launch from) →
              AtEnd Stop stop_closed from.tasks from.values from.frames ⊎ IsBefore rest from →
              (mid.number ≡ n → FitsUntil program Stop mid → Also mid → IsBefore rest to ⊎ Comes mid deeds to) →
              IsBefore rest to ⊎ Comes from deeds to
          by (inl s) within further = inr (here from to deeds same h also (going e more) s)
          by (inr s) (inl within) further = inr (here from to deeds same h also (going e more) within)
          by (inr s) (inr within) further =
              let g = goes_to (Good program Stop from.number) (item_next program launch from) mid s e in
              ahead from mid to deeds e (further (g.0 ∙ same) g.1
              (goes_to Also (item_next program launch from) mid (keeps from also within) e))
      passes {from = from} {to = to} (doing {mid = mid} {deed = deed} {deeds = deeds} e more) same h also =
          by (step_of Stop stop_closed from h) (inside_of from h) (λ a b c. passes more a b c)
        where
          by : AtEnd Stop stop_closed from.tasks from.values from.frames ⊎
              After Stop stop_closed from.number (item_next program launch from) →
              AtEnd Stop stop_closed from.tasks from.values from.frames ⊎ IsBefore rest from →
              (mid.number ≡ n → FitsUntil program Stop mid → Also mid → IsBefore rest to ⊎ Comes mid deeds to) →
              IsBefore rest to ⊎ Comes from (deed ∷ deeds) to
          by (inl s) within further = inr (here from to (deed ∷ deeds) same h also (doing e more) s)
          by (inr s) (inl within) further = inr (here from to (deed ∷ deeds) same h also (doing e more) within)
          by (inr s) (inr within) further =
              let next = item_next program launch from in
              let g = does_to (Good program Stop from.number) lengths told next deed mid s e in
              ahead_doing from mid to deed deeds e (further (g.0 ∙ same) g.1
              (does_to Also lengths told next deed mid (keeps from also within) e))

      -- an expression with this result, evaluated in a frame of the function on these frames
      pub evaluation_with : (at : Point) (e : Expression) (frame : Frame) (deeds : List Deed) (to : Item) →
          frame.function ≡ f → Gives program (function_at program f) e result →
          Each (HoldsValues program) (frame ∷ frames) → Also (an_item n (Evaluate at e ∷ rest) values (frame ∷ frames))
          → Does (an_item n (Evaluate at e ∷ rest) values (frame ∷ frames)) deeds to →
          IsBefore rest to ⊎ Comes (an_item n (Evaluate at e ∷ rest) values (frame ∷ frames)) deeds to
      evaluation_with at e frame deeds to same x h also d =
          passes d refl (record {
            variables = h;
            known = exactly values;
            values = exactly_known values;
            base = None;
            tasks = subst (λ g. Ahead program Stop (Evaluate at e ∷ rest) g frames (exactly values) None) (sym same)
                (goes_on (evaluates result x) (ends (refl, refl, refl, refl, refl)));
          }) also

  pub evaluation : (lengths : ℕ → ℕ) (told : Access → List ℕ → Type 0) (n : ℕ) (at : Point) (e : Expression)
      (t : IntType) (rest : List Task) (values : List ℤ) (frame : Frame) (frames : List Frame) (deeds : List Deed)
      (to : Item) → HasType program (function_at program frame.function) e t →
      Each (HoldsValues program) (frame ∷ frames)
      → History lengths told (item_next program launch) (an_item n (Evaluate at e ∷ rest) values (frame ∷ frames)) deeds
      to → IsBefore rest to ⊎ ComesBehind (History lengths told (item_next program launch)) program
      (an_item n (Evaluate at e ∷ rest) values (frame ∷ frames)) rest frame.function frames t deeds to
  evaluation lengths told n at e t rest values frame frames deeds to x h d =
      by (evaluation_with lengths told n rest frame.function frames (Some t) values Nothing kept at e frame deeds to
      refl x h tt d)
    where
      Nothing : Item → Type 0
      Nothing i = Unit {0}

      kept : (i : Item) → Nothing i → IsBefore rest i → AllAfter Nothing (item_next program launch i)
      kept i also within = all (item_next program launch i)
        where
          all : (next : Next Item) → AllAfter Nothing next
          all Ends = tt
          all (Waits site after) = tt
          all (Goes after) = tt
          all (Begins after) = tt
          all (Loads site access after) = λ bytes. tt
          all (Stores site object index bytes after) = tt

      by : IsBefore rest to ⊎ Comes lengths told n rest frame.function frames (Some t) values Nothing kept
          (an_item n (Evaluate at e ∷ rest) values (frame ∷ frames)) deeds to → IsBefore rest to ⊎
          ComesBehind (History lengths told (item_next program launch)) program
          (an_item n (Evaluate at e ∷ rest) values (frame ∷ frames)) rest frame.function frames t deeds to
      by (inl s) = inl s
      by (inr (mid, first, further, (v, g, is, same, holds, m), also, all, a, b)) = inr (record {
        value = v;
        is_value = is;
        frame = g;
        same_function = same;
        variables = holds;
        first = first;
        further = further;
        all = all;
        comes = subst (λ i. History lengths told (item_next program launch) (an_item n (Evaluate at e ∷ rest) values
            (frame ∷ frames)) first i) m a;
        goes_on = subst (λ i. History lengths told (item_next program launch) i further to) m b;
      })
