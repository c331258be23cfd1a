-- The rules of covering for whole items, by the iterations that the program's item begins, and parting from it.
use Rattle.std.proofs.Common.{◌≡◌, ℕ, suc, List, [], ◌∷◌, Option, Some, None, refl, sym, subst, true, false}
use Rattle.std.proofs.Common.{if◌then◌else◌}
use Rattle.std.proofs.Common.{Bool as Test}
use Rattle.std.proofs.lemmas.Bool.{true≢false}
use Rattle.work_items.specs.Items.{Next, Ends, Waits, Goes, Begins, Loads, Stores, IsWaiting}
use Rattle.work_items.specs.Coming.{MayLead, arrived, by_step, by_test}
use Rattle.cl_model.specs.Tree.{Program, Barrier}
use Rattle.cl_model.specs.Sizes.{Launch}
use Rattle.cl_model.specs.Values.{is_zero}
use Rattle.cl_model.specs.Task.{Point as ProgramPoint, Task, Run, Decide, Branch, InLoop, Select, Item as ProgramItem}
use Rattle.cl_model.specs.Steps.{last, before, with_values, first_next, item_next as program_next}
use Rattle.cl_model.specs.Meaning.{is_test, LeadsTo, IsWithin, ItemCanCome as ProgramCanCome}
use Rattle.kir.specs.Places.{Point, Tasks}
use Rattle.kir.specs.Steps.{Item}
use Rattle.kir.specs.Meaning.{ItemCanCome}
use Rattle.kir.specs.Matching.{IsBarrierPoint}
use Rattle.kir.specs.Lowering.{Named}
use Rattle.kir.proofs.Placed.{Placed}
use Rattle.kir_moves.specs.Leads.{Leads, there, by_leg}
use Rattle.kir_lower.specs.Whole.{lowered_of}
use Rattle.kir_lower_shape.specs.Marks.{Marks, point_marked}
use Rattle.kir_lower_shape.specs.CodeMarks.{kernel_marks}
use Rattle.kir_lower_simulation.specs.Coming.{StandsAtBarrier}
use Rattle.kir_lower_simulation.specs.Covering.{ComesToLine}
use Rattle.kir_lower_simulation.specs.Nodes.{IsBarrierNode, node_at, AreInPlace}
use Rattle.kir_lower_simulation.specs.Reaching.{PassesTo, TurnsTo, Answers, as_is, answered, Reaches, here, goes, turns}
use Rattle.kir_lower_simulation.specs.Reaching.{CoversFewer}
use Rattle.kir_moves.proofs.Coming.{come_trans}
use Rattle.kir_lower_simulation.proofs.Standing.{lead_keeps}
use Rattle.kir_lower_simulation.proofs.Barriers.{kernel_marked, point_is_barrier}
use Rattle.kir_lower_simulation.proofs.Parting.{step_leads, answer_leads, stands_there, comes_to_line}

-- an item that stands at a barrier waits
pub stands_waits : (program : Program) (launch : Launch) (j : ProgramItem) (point : ProgramPoint) (ts : List Task) →
    StandsAtBarrier point ts → IsWaiting (first_next program launch j ts)
stands_waits program launch j point [] s = absurd s
stands_waits program launch j point (Run at (Barrier site) ∷ rest) s = tt
stands_waits program launch j point (Run at _ ∷ rest) s = absurd s
stands_waits program launch j point (_ ∷ rest) s = absurd s

-- a step with no access
abbrev pub IsOwnStep : {S : Type 0} → Next S → Type 0
IsOwnStep (Goes after) = Unit {0}
IsOwnStep (Begins after) = Unit {0}
IsOwnStep _ = ⊥

-- a test makes one
pub test_steps : (program : Program) (launch : Launch) (j : ProgramItem) (ts : List Task) → is_test ts ≡ true →
    IsOwnStep (first_next program launch j ts)
test_steps program launch j [] e = absurd (true≢false (sym e))
test_steps program launch j (Decide at chosen other ∷ rest) e = tt
test_steps program launch j (Branch at chosen other ∷ rest) e = tt
test_steps program launch j (Select at site arms ∷ rest) e = tt
test_steps program launch j (InLoop at site (Some test) step body begun ∷ rest) e = by_test_of (is_zero (last j.values))
  where
    by_test_of : (b : Test) → IsOwnStep (if b then Goes (with_values j rest (before j.values)) else Begins
        (with_values j (Rattle.cl_model.specs.Steps.iteration at site (Some test) step body (suc begun) rest)
        (before j.values)))
    by_test_of true = tt
    by_test_of false = tt
test_steps program launch j (InLoop at site None step body begun ∷ rest) e = absurd (true≢false (sym e))
test_steps program launch j (_ ∷ rest) e = absurd (true≢false (sym e))

module _ (program : Program) (marks : Marks) (launch : Launch) (buffers : List (List ℕ)) where
  abbrev Cov : ℕ → ProgramItem → Tasks → Type 0
  Cov n j k = CoversFewer program marks launch buffers n j k

  -- one iteration more
  pub reaches_more : (point : ProgramPoint) (n : ℕ) (j : ProgramItem) → Reaches program launch buffers point n j →
      Reaches program launch buffers point (suc n) j
  reaches_more point _ j (here s) = here s
  reaches_more point n j (goes a m r) = goes a m (reaches_more point n _ r)
  reaches_more point _ j (turns a m r) = turns a m (reaches_more point _ _ r)

  pub covers_less : (n : ℕ) (j : ProgramItem) (k : Tasks) → Cov (suc n) j k → Cov n j k
  covers_less n j k c = record { reach = λ point r. c.reach point (reaches_more point n j r) }

  -- whichever steps the program's item may take
  pub covers_by : (n : ℕ) (j : ProgramItem) (k : Tasks) → ((point : ProgramPoint) → StandsAtBarrier point j.tasks →
      ComesToLine marks point k)
      → ((tried next : ProgramItem) → Answers j tried →
      PassesTo (IsWithin program launch buffers) (program_next program launch tried) next → Cov n next k)
      → ((tried next : ProgramItem) (m : ℕ) → n ≡ suc m → Answers j tried →
      TurnsTo (program_next program launch tried) next → Cov m next k) → Cov n j k
  covers_by n j k stands passes again = record { reach = λ point r. go n point r refl }
    where
      go : (m : ℕ) (point : ProgramPoint) → Reaches program launch buffers point m j → n ≡ m → ComesToLine marks point k
      go _ point (here s) e = stands point s
      go m point (goes {tried = tried} {next = next} a t r) e =
          (passes tried next a t).reach point (subst (λ z. Reaches program launch buffers point z next) (sym e) r)
      go _ point (turns {n = less} {tried = tried} {next = next} a t r) e = (again tried next less e a t).reach point r

  -- a step of the kernel's item
  pub covers_lead : (n : ℕ) (j : ProgramItem) (from next : Tasks) → Leads from next → Cov n j next → Cov n j from
  covers_lead n j from next lead c = record {
    reach = λ point r. let d = c.reach point r in
        record {
          there = d.there;
          stands = d.stands;
          comes = come_trans d.there next from (by_leg lead there) d.comes;
        };
  }

  -- ---- the program's item can come to a barrier: it reaches it

  reaches_step : (point : ProgramPoint) (j tried next : ProgramItem) (n : ℕ) → Answers j tried →
      (step : Next ProgramItem) → program_next program launch tried ≡ step →
      MayLead (IsWithin program launch buffers) step next
      → Reaches program launch buffers point n next → (m : ℕ) × Reaches program launch buffers point m j
  reaches_step point j tried next n a Ends e h r = absurd h
  reaches_step point j tried next n a (Waits site after) e h r =
      (n, goes a (subst (λ z. PassesTo (IsWithin program launch buffers) z next) (sym e) h) r)
  reaches_step point j tried next n a (Goes after) e h r =
      (n, goes a (subst (λ z. PassesTo (IsWithin program launch buffers) z next) (sym e) h) r)
  reaches_step point j tried next n a (Begins after) e h r = (suc n, turns a (subst (λ z. TurnsTo z next) (sym e) h) r)
  reaches_step point j tried next n a (Loads site access after) e h r =
      (n, goes a (subst (λ z. PassesTo (IsWithin program launch buffers) z next) (sym e) h) r)
  reaches_step point j tried next n a (Stores site object index bytes after) e h r =
      (n, goes a (subst (λ z. PassesTo (IsWithin program launch buffers) z next) (sym e) h) r)

  leads_as_may : (next : ProgramItem) (step : Next ProgramItem) → LeadsTo step next →
      MayLead (IsWithin program launch buffers) step next
  leads_as_may next Ends h = absurd h
  leads_as_may next (Waits site after) h = absurd h
  leads_as_may next (Goes after) h = h
  leads_as_may next (Begins after) h = h
  leads_as_may next (Loads site access after) h = absurd h
  leads_as_may next (Stores site object index bytes after) h = absurd h

  pub reaches_barrier : (j : ProgramItem) (q : Option ProgramPoint) (p : ProgramPoint) → q ≡ Some p →
      ProgramCanCome program launch buffers j q → AreInPlace program j.tasks → IsBarrierNode (node_at program p) →
      (n : ℕ) × Reaches program launch buffers p n j
  reaches_barrier j q p e arrived placed b = (1, here (stands_there program p b j.tasks e placed))
  reaches_barrier j q p e (by_step {after = t} m c) placed b =
      let lead = step_leads program launch (IsWithin program launch buffers) t j j.tasks m in
      let rest = reaches_barrier t q p e c (lead_keeps program j.tasks t.tasks lead placed) b in
      reaches_step p j j t rest.0 as_is (program_next program launch j) refl m rest.1
  reaches_barrier j q p e (by_test {after = t} m c) placed b =
      let tried : ProgramItem = record j { values = m.1.0 ∷ before j.values } in
      let lead = answer_leads program launch (IsWithin program launch buffers) t tried j.tasks m.1.1 in
      let rest = reaches_barrier t q p e c (lead_keeps program j.tasks t.tasks lead placed) b in
      reaches_step p j tried t rest.0 (answered m.0 m.1.0) (program_next program launch tried) refl
      (leads_as_may t (program_next program launch tried) m.1.1) rest.1

-- so the covering of the two items gives that they part alike
pub parting_alike : (program : Program) (names : List (List Named)) (launch : Launch) (buffers : List (List ℕ))
    (i : Item) (j : ProgramItem) → Placed (lowered_of program names).body i.tasks → AreInPlace program j.tasks
    → ((n : ℕ) → CoversFewer program (kernel_marks program names) launch buffers n j i.tasks)
    → (point : Point) → IsBarrierPoint (lowered_of program names).body point →
    (ItemCanCome (lowered_of program names) launch i (Some point) → ⊥) →
    ProgramCanCome program launch buffers j (Some (point_marked (kernel_marks program names) point)) → ⊥
parting_alike program names launch buffers i j placed in_place covers point is never can =
    let text = (lowered_of program names).body in
    let marks = kernel_marks program names in
    let b = point_is_barrier program text marks (kernel_marked program names) point is.barrier in
    let c = reaches_barrier program marks launch buffers j _ (point_marked marks point) refl can in_place b in
    never (comes_to_line program names launch i placed point is ((covers c.0).reach (point_marked marks point) c.1))
