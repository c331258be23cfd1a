-- What comes from a program and is simplified comes from the program.
use Rattle.std.proofs.Common.{◌≡◌, ℕ, zero, suc, ◌+◌, ◌≤◌, ℤ, List, [], length, Option, Some, None}
use Rattle.std.proofs.Common.{refl, sym, ap, ◌∙◌, subst, arith, true, false, if◌then◌else◌}
use Rattle.std.proofs.Common.{Bool as Test}
use Rattle.std.proofs.lemmas.Bool.{true≢false}
use Rattle.std.proofs.lemmas.Option.{slice_get_within}
use Rattle.work_items.specs.Memory.{Access}
use Rattle.work_items.specs.Items.{Next, Ends, Waits, Goes, Begins, Loads, Stores, Move, HasEnded, IsWaiting}
use Rattle.work_items.specs.Runs.{world_after}
use Rattle.work_items.specs.Clean.{WaitsAt}
use Rattle.work_items.specs.Simulation.{trace, RelatedAt}
use Rattle.work_items.specs.Histories.{Deed, deeds_of}
use Rattle.cl_model.specs.Tree.{Program}
use Rattle.cl_model.specs.Sizes.{Launch, item_count, group_of}
use Rattle.cl_model.specs.Task.{Item as ProgramItem, Point as ProgramPoint}
use Rattle.cl_model.specs.Steps.{item_next as program_next}
use Rattle.kir.specs.Tree.{Variable, Lines, Kernel}
use Rattle.kir.specs.Places.{Point}
use Rattle.kir.specs.Steps.{Item, item_next}
use Rattle.kir.specs.Meaning.{machine_of, start_items, start_world}
use Rattle.kir.specs.Live.{live_at}
use Rattle.kir.specs.Homes.{IsCellOf}
use Rattle.kir.specs.Uniformity.{IsEven}
use Rattle.kir.specs.Keeps.{is_keep, count_below}
use Rattle.kir.specs.Matching.{BeginsNext, LoadsNext, StoresNext, SameNext, StandsAlike, IsBarrierPoint, AreAlike}
use Rattle.kir.specs.Matching.{Matches, MatchesRun}
use Rattle.kir.specs.Lowering.{Named, IsNamedCell, HasCells, HasArrays, HasParts, HasCuts, IsSteady}
use Rattle.kir.specs.Lowering.{HasMatching, IsLoweringOf}
use Rattle.kir.proofs.Shells.{shares_launches}
use Rattle.kir.proofs.FromSteps.{length-world_after}
use Rattle.work_items.proofs.Lists.{element_within}
use Rattle.kir_simplify.specs.Faithful.{with_body, point_at, StandsFor, StandAlike, DoAlike, RunAlike, IsFaithful}

-- ---- steps that are seen alike

begins_too : {T U : Type 0} (b : Next T) (c : Next U) → BeginsNext b → SameNext b c → BeginsNext c
begins_too (Begins after) c h k = k
begins_too Ends c h k = absurd h
begins_too (Waits site after) c h k = absurd h
begins_too (Goes after) c h k = absurd h
begins_too (Loads site access after) c h k = absurd h
begins_too (Stores site object index bytes after) c h k = absurd h

ends_too : {T U : Type 0} (b : Next T) (c : Next U) → HasEnded b → SameNext b c → HasEnded c
ends_too Ends c h k = k
ends_too (Begins after) c h k = absurd h
ends_too (Waits site after) c h k = absurd h
ends_too (Goes after) c h k = absurd h
ends_too (Loads site access after) c h k = absurd h
ends_too (Stores site object index bytes after) c h k = absurd h

waits_too : {T U : Type 0} (site : ℕ) (b : Next T) (c : Next U) → WaitsAt site b → SameNext b c → WaitsAt site c
waits_too site (Waits at after) c h k = subst (λ n. WaitsAt n c) h k
waits_too site Ends c h k = absurd h
waits_too site (Begins after) c h k = absurd h
waits_too site (Goes after) c h k = absurd h
waits_too site (Loads at access after) c h k = absurd h
waits_too site (Stores at object index bytes after) c h k = absurd h

loads_too : {T U : Type 0} (site : ℕ) (access : Access) (b : Next T) (c : Next U) → LoadsNext site access b →
    SameNext b c → LoadsNext site access c
loads_too site access (Loads at from after) c h k =
    subst (λ a. LoadsNext site a c) h.1 (subst (λ n. LoadsNext n from c) h.0 k)
loads_too site access Ends c h k = absurd h
loads_too site access (Begins after) c h k = absurd h
loads_too site access (Goes after) c h k = absurd h
loads_too site access (Waits at after) c h k = absurd h
loads_too site access (Stores at object index bytes after) c h k = absurd h

stores_too : {T U : Type 0} (site object : ℕ) (index : ℤ) (bytes : List ℕ) (b : Next T) (c : Next U) →
    StoresNext site object index bytes b → SameNext b c → StoresNext site object index bytes c
stores_too site object index bytes (Stores at into element these after) c h k =
    subst (λ x. StoresNext site object index x c) h.3 (subst (λ x. StoresNext site object x these c) h.2
    (subst (λ x. StoresNext site x element these c) h.1 (subst (λ x. StoresNext x into element these c) h.0 k)))
stores_too site object index bytes Ends c h k = absurd h
stores_too site object index bytes (Begins after) c h k = absurd h
stores_too site object index bytes (Goes after) c h k = absurd h
stores_too site object index bytes (Waits at after) c h k = absurd h
stores_too site object index bytes (Loads at access after) c h k = absurd h

pub next_too : {S T U : Type 0} (a : Next S) (b : Next T) (c : Next U) → SameNext a b → SameNext b c → SameNext a c
next_too Ends b c h k = ends_too b c h k
next_too (Waits site after) b c h k = waits_too site b c h k
next_too (Goes after) b c h k = tt
next_too (Begins after) b c h k = begins_too b c h k
next_too (Loads site access after) b c h k = loads_too site access b c h k
next_too (Stores site object index bytes after) b c h k = stores_too site object index bytes b c h k

pub waiting_too : {S T : Type 0} (a : Next S) (b : Next T) → SameNext a b → IsWaiting a → IsWaiting b
waiting_too (Waits site after) (Waits at after') h w = tt
waiting_too (Waits site after) Ends h w = absurd h
waiting_too (Waits site after) (Goes after') h w = absurd h
waiting_too (Waits site after) (Begins after') h w = absurd h
waiting_too (Waits site after) (Loads at access after') h w = absurd h
waiting_too (Waits site after) (Stores at object index bytes after') h w = absurd h
waiting_too Ends b h w = absurd w
waiting_too (Goes after) b h w = absurd w
waiting_too (Begins after) b h w = absurd w
waiting_too (Loads site access after) b h w = absurd w
waiting_too (Stores site object index bytes after) b h w = absurd w

-- ---- counts

count_step : (a b : Test) (m n : ℕ) → (a ≡ true → b ≡ true) → m ≤ n →
    ((if a then 1 else 0) + m) ≤ ((if b then 1 else 0) + n)
count_step true true m n f le = omega arith
count_step false true m n f le = omega arith
count_step false false m n f le = omega arith
count_step true false m n f le = absurd (true≢false (sym (f refl)))

pub count_less : (t u : ℕ → Test) → ((c : ℕ) → t c ≡ true → u c ≡ true) → (n : ℕ) → count_below t n ≤ count_below u n
count_less t u f zero = omega arith
count_less t u f (suc n) = count_step (t n) (u n) (count_below t n) (count_below u n) (f n) (count_less t u f n)

not_more : (a b : Test) → (a ≡ true → b ≡ true) → b ≡ false → a ≡ false
not_more true b f e = absurd (true≢false (sym (f refl) ∙ e))
not_more false b f e = refl

-- as many items start
pub same_count : (k k' : Kernel) (first count : ℕ) →
    length (start_items k first count) ≡ length (start_items k' first count)
same_count k k' first zero = refl
same_count k k' first (suc count) = ap suc (same_count k k' (suc first) count)

pub related_through : {S T U : Type 0} (o : Option S) (o' : Option T) (o'' : Option U) →
    RelatedAt (λ i j. Unit {0}) o o' → RelatedAt (λ i j. Unit {0}) o' o'' → RelatedAt (λ i j. Unit {0}) o o''
related_through None None None r q = tt
related_through (Some s) (Some t) (Some u) r q = tt
related_through None (Some t) o'' r q = absurd r
related_through (Some s) None o'' r q = absurd r
related_through None None (Some u) r q = absurd q
related_through (Some s) (Some t) None r q = absurd q

-- ---- the whole

module _ (program : Program) (names : List (List Named)) (kernel : Kernel) (lines : Lines)
    (l : IsLoweringOf program names kernel) (f : IsFaithful kernel (with_body kernel lines)) where
  abbrev simple : Kernel
  simple = with_body kernel lines

  -- ---- cells and parts

  given_cell : (v : Variable) (c : ℕ) → IsCellOf simple v c → IsCellOf kernel v c
  given_cell v c h = record { cell = h.cell; there = h.there; is_of = h.is_of }

  simple_cell : (v : Variable) (c : ℕ) → IsCellOf kernel v c → IsCellOf simple v c
  simple_cell v c h = record { cell = h.cell; there = h.there; is_of = h.is_of }

  named_too : (v : Variable) (c : ℕ) → IsNamedCell program names kernel v c → IsNamedCell program names simple v c
  named_too v c h = record {
    entry = h.entry;
    named_so = h.named_so;
    kind = h.kind;
    of_kind = h.of_kind;
    calls = h.calls;
    places = h.places;
    cell = h.cell;
  }

  cells : HasCells program names simple
  cells = record {
    each = λ v is. let here = l.cells.each v is in (here.0, named_too v here.0 here.1);
    one = λ v c d h k. l.cells.one v c d (given_cell v c h) (given_cell v d k);
    no_other = λ v c h. l.cells.no_other v c (given_cell v c h);
  }

  arrays : HasArrays program simple
  arrays = l.arrays

  parts : HasParts program simple
  parts = record { parameters = l.parts.parameters; tables = l.parts.tables; sites = l.parts.sites }

  -- ---- what is live and kept

  cuts : HasCuts program simple
  cuts = record {
    crosses = λ at v c cut is live.
        let there = f.cuts at cut in
        l.cuts.crosses there.0 v c there.1 (given_cell v c is) (there.2 c live);
    meet = λ at v w c d cut is is' differ live live'.
        let there = f.cuts at cut in
        l.cuts.meet there.0 v w c d there.1 (given_cell v c is) (given_cell w d is') differ (there.2 c live)
        (there.2 d live');
  }

  evenness : IsEven simple (IsSteady program simple)
  evenness launch fits buffers fit one other a b group deeds deeds' i j h h' point p p' stop c steady live =
      f.even c (steady.variable, given_cell steady.variable c steady.cell)
      (λ launch fits buffers fit one other a b group deeds deeds' i j h h' point p p' stop d same live.
      l.evenness launch fits buffers fit one other a b group deeds deeds' i j h h' point p p' stop d
      (subst (λ x. IsSteady program kernel x) (sym same) (record {
        variable = steady.variable;
        cell = given_cell steady.variable c steady.cell;
        steady = steady.steady;
      })) live) launch fits buffers fit one other a b group deeds deeds' i j h h' point p p' stop c refl live

  -- ---- histories

  abbrev point_in : Point → ProgramPoint
  point_in point = l.matching.point_in_program (point_at f.place point)

  module _ (launch : Launch) (buffers : List (List ℕ)) where
    stands_too : (i' i : Item) (j : ProgramItem) → StandsFor f.place i' i →
        StandsAlike l.matching.point_in_program i j → StandsAlike point_in i' j
    stands_too i' i j h k point is = k (point_at f.place point) (h point is)

    barrier_point : (point : Point) → IsBarrierPoint lines point → IsBarrierPoint kernel.body (point_at f.place point)
    barrier_point point is = record {
      barrier = f.barriers point.at is.barrier;
      each_loop = is.each_loop ∙ sym (f.loops point.at);
    }

    alike_too : (i' i : Item) (j : ProgramItem) → StandAlike kernel simple f.place launch buffers i' i →
        AreAlike program kernel l.matching.point_in_program launch buffers i j →
        AreAlike program simple point_in launch buffers i' j
    alike_too i' i j h k = record {
      same_next = next_too (item_next simple launch i') (item_next kernel launch i) (program_next program launch j)
          h.same_next k.same_next;
      waits = λ w. stands_too i' i j (h.waits w) (k.waits (waiting_too (item_next simple launch i')
          (item_next kernel launch i) h.same_next w));
      parting = λ point is never. k.parting (point_at f.place point) (barrier_point point is)
          (h.parting point is never);
      reads_alike = λ v c is r.
          let here = h.reads c (v, given_cell v c is) r in
          stands_too i' i j here.0 (k.reads_alike v c (given_cell v c is) here.1);
      reads_value = λ v c is r.
          let here = h.reads c (v, given_cell v c is) r in
          k.reads_value v c (given_cell v c is) here.1 ∙ ap (λ (x : ℤ). Some x) (sym here.2);
      sets_alike = λ v c is r.
          let here = h.sets c (v, given_cell v c is) r in
          stands_too i' i j here.0 (k.sets_alike v c (given_cell v c is) here.1);
      sets_value = λ v c is r done more s' j' steps comes.
          let here = h.sets c (v, given_cell v c is) r in
          let set = h.sets_value c (v, given_cell v c is) r done s' steps in
          k.sets_value v c (given_cell v c is) here.1 done more set.0 j' set.1 comes ∙
          ap (λ (x : ℤ). Some x) (sym set.2);
    }

    matches_too : (item : ℕ) (deeds : List Deed) (i' i : Item) (j : ProgramItem) →
        DoAlike kernel simple f.place launch buffers item deeds i' i →
        Matches program kernel l.matching.point_in_program launch buffers item deeds i j →
        Matches program simple point_in launch buffers item deeds i' j
    matches_too item deeds i' i j h k =
        record { own_history = h.own_history; history = k.history; alike = alike_too i' i j h.alike k.alike }

    -- ---- runs

    run_too : (moves : List Move) → (r : RunAlike kernel simple f.place launch buffers moves) →
        MatchesRun program kernel l.matching.point_in_program launch buffers r.seen_alike.moves' →
        MatchesRun program simple point_in launch buffers moves
    run_too moves r m = record {
      seen_alike = record {
        moves' = m.seen_alike.moves';
        run = m.seen_alike.run;
        related = record {
          memory = m.seen_alike.related.memory ∙ r.seen_alike.related.memory;
          fault = m.seen_alike.related.fault ∙ r.seen_alike.related.fault;
          items = λ calm item. related_through _ _ _ (r.seen_alike.related.items calm item)
              (m.seen_alike.related.items (r.seen_alike.related.fault ∙ calm) item);
        };
        same_trace = m.seen_alike.same_trace ∙ r.seen_alike.same_trace;
        same_turns = m.seen_alike.same_turns ∙ r.seen_alike.same_turns;
      };
      each = λ item i' j here there.
          let within = slice_get_within (world_after (machine_of simple launch) (start_world simple launch buffers)
          moves).items item i' here in
          let one = length-world_after (machine_of simple launch) (start_world simple launch buffers) moves in
          let other = length-world_after (machine_of kernel launch) (start_world kernel launch buffers)
          r.seen_alike.moves' in
          let starts = same_count simple kernel 0 (item_count launch) in
          let i = element_within (world_after (machine_of kernel launch) (start_world kernel launch buffers)
          r.seen_alike.moves').items item (omega arith) in
          matches_too item
          (deeds_of (group_of launch) item
          (trace (machine_of simple launch) (start_world simple launch buffers) moves)) i' i.0 j
          (r.each item i' i.0 here i.1)
          (subst (λ es. Matches program kernel l.matching.point_in_program launch buffers item
          (deeds_of (group_of launch) item es) i.0 j) r.seen_alike.same_trace (m.each item i.0 j i.1 there));
    }

  matching : HasMatching program simple
  matching = record {
    point_in_program = point_in;
    histories = λ launch fits sizes buffers fit item within deeds i' h.
        let a = f.histories launch (shares_launches program kernel l.arrays l.parts launch fits) sizes buffers fit item
        within deeds i' h in
        let b = l.matching.histories launch fits sizes buffers fit item within deeds a.0 a.1.history in
        (b.0, matches_too launch buffers item deeds i' a.0 b.0 a.1 b.1);
    runs = λ launch fits sizes buffers fit moves run.
        let r = f.runs launch (shares_launches program kernel l.arrays l.parts launch fits) sizes buffers fit moves run
        in
        run_too launch buffers moves r (l.matching.runs launch fits sizes buffers fit r.seen_alike.moves'
        r.seen_alike.run);
  }

  composed_with : IsLoweringOf program names simple
  composed_with = record {
    cells = cells;
    arrays = arrays;
    parts = parts;
    start = λ c. not_more (live_at lines [] c) (live_at kernel.body [] c) (f.start c) (l.start c);
    cuts = cuts;
    evenness = evenness;
    few_keeps = λ plain.
        let less = count_less (is_keep simple) (is_keep kernel) f.keeps (length kernel.cells) in
        let few = l.few_keeps plain in
        omega arith;
    matching = matching;
    few_lines = record {
      loads = λ site. let less = f.loads site in let few = l.few_lines.loads site in omega arith;
      stores = λ site. let less = f.stores site in let few = l.few_lines.stores site in omega arith;
      barriers = λ site. let less = f.barrier_count site in let few = l.few_lines.barriers site in omega arith;
    };
  }

-- where the given kernel comes from a program, the simplified one does
pub composed : (program : Program) (names : List (List Named)) (kernel simple : Kernel) →
    IsLoweringOf program names kernel → IsFaithful kernel simple → IsLoweringOf program names simple
composed program names kernel simple l f =
    subst (λ k. IsLoweringOf program names k) (sym f.kept)
    (composed_with program names kernel simple.body l (subst (λ k. IsFaithful kernel k) f.kept f))
