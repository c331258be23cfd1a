-- Covering and following together go back along the steps of both items.
use Rattle.std.proofs.Common.{◌≡◌, ℕ, suc, ℤ, pos, List, ◌∷◌, Some, option_map, refl, sym, ap, ◌∙◌, subst, true}
use Rattle.std.proofs.Common.{false, if◌then◌else◌}
use Rattle.std.proofs.Common.{Bool as Test}
use Rattle.work_items.specs.Memory.{Access}
use Rattle.work_items.specs.Items.{Next, Ends, Waits, Goes, Begins, Loads, Stores, IsWaiting}
use Rattle.work_items.specs.Clean.{WaitsAt}
use Rattle.work_items.specs.Coming.{MayLead}
use Rattle.cl_model.specs.Fitting.{FitsProgram}
use Rattle.cl_model.specs.Values.{is_zero}
use Rattle.cl_model.specs.Task.{Task, Frame, Item as ProgramItem, first_point}
use Rattle.cl_model.specs.Steps.{item_next as program_next}
use Rattle.cl_model.specs.Meaning.{is_test, machine_of as program_machine, start_item as program_start_item}
use Rattle.cl_model.specs.Meaning.{ItemCanCome as ProgramCanCome}
use Rattle.kir.specs.declared.line.Atom.{Atom}
use Rattle.kir.specs.Tree.{Lines, IfThen}
use Rattle.kir.specs.Places.{Place, Point, Tasks, LinesAt, AnswerAt, iteration, begun_in, point_of}
use Rattle.kir.specs.Steps.{shell_of, Item, atom_value, branched, item_next}
use Rattle.kir.specs.Fits.{lines_fit}
use Rattle.kir.specs.Meaning.{machine_of, start_item, GoesOn, ItemCanCome}
use Rattle.kir.specs.Matching.{SameNext, StandsAlike, IsBarrierPoint, AreAlike}
use Rattle.kir.specs.Lowering.{Named, HasGlobalSizes}
use Rattle.kir.proofs.Placed.{Placed}
use Rattle.kir_moves.specs.Leads.{Leads, past_loop, to_body}
use Rattle.kir_moves.proofs.Known.{TasksFit}
use Rattle.kir_moves.proofs.Own.{waits_where}
use Rattle.kir_lower.specs.Whole.{lowered_of}
use Rattle.kir_lower_shape.specs.Marks.{point_marked}
use Rattle.kir_lower_shape.specs.CodeMarks.{kernel_marks}
use Rattle.kir_lower_shape.proofs.Follow.{Follows, second_goes, begins, fewer, by_goes, by_load, by_store, by_wait}
use Rattle.kir_lower_shape.proofs.Follow.{by_end}
use Rattle.kir_lower_simulation.specs.Nodes.{AreInPlace}
use Rattle.kir_lower_simulation.specs.Reaching.{CoversFewer}
use Rattle.kir_lower_simulation.proofs.Standing.{lead_keeps}
use Rattle.kir_lower_simulation.proofs.Parting.{lead_placed, step_leads as program_leads}
use Rattle.kir_lower_simulation.proofs.Reached.{parting_alike}
use Rattle.kir_lower_simulation.specs.Setting.{Setting, Store, kernel_item, program_item}
use Rattle.kir_lower_simulation.specs.Facts.{HoldsTypes, Facts, Rules}
use Rattle.kir_lower_simulation.proofs.CellTypes.{fits_keep, types_start}
use Rattle.kir_lower_simulation.proofs.Covered.{step_leads, may_go, may_begin, may_wait, may_load, may_store}
use Rattle.kir_lower_simulation.proofs.Covered.{fewer_covers, task_covers, line_covers, branch_leads, test_covers}
use Rattle.kir_lower_simulation.proofs.Covered.{round_covers, begins_covers, loads_cover, stores_cover, waits_cover}
use Rattle.kir_lower_simulation.proofs.Covered.{ends_cover, select_covers, types_on, fits_on}

module _ (S : Setting) (names : List (List Named)) (lowered : S.kernel ≡ lowered_of S.program names)
    (marked : S.marks ≡ kernel_marks S.program names) (fits : FitsProgram (shell_of S.kernel) S.launch)
    (sizes : HasGlobalSizes S.launch) where
  -- both items stand in their texts, and the cells hold values of their types
  pub record Standing (i : Item) (j : ProgramItem) : Type 0 where
    pub types : HoldsTypes S i.cells
    pub fit : TasksFit S.kernel i.tasks
    pub placed : Placed S.kernel.body i.tasks
    pub in_place : AreInPlace S.program j.tasks

  abbrev Alike : Item → ProgramItem → Type 0
  Alike = AreAlike S.program S.kernel (point_marked S.marks) S.launch S.buffers

  abbrev Follow : ℕ → Item → ProgramItem → Type 0
  Follow = Follows (machine_of S.kernel S.launch) (program_machine S.program S.launch)
      (option_map (point_marked S.marks)) Alike

  -- the program's item is covered, and follows
  pub record CoveredFollows (n : ℕ) (i : Item) (j : ProgramItem) : Type 0 where
    pub covers : (m : ℕ) → CoversFewer S.program S.marks S.launch S.buffers m j i.tasks
    pub follows : Follow n i j

  abbrev pub G_follow : ℕ → Item → ProgramItem → Type 0
  G_follow n i j = Standing i j → CoveredFollows n i j

  -- ---- standing behind steps

  pub kernel_on : (i i' : Item) (j : ProgramItem) → MayLead GoesOn (item_next S.kernel S.launch i) i' → Standing i j →
      Standing i' j
  kernel_on i i' j h s = record {
    types = types_on S fits sizes i i' h s.fit s.types;
    fit = fits_on S fits sizes i i' h s.fit;
    placed = lead_placed S.kernel.body i.tasks i'.tasks (step_leads S i i' h) s.placed;
    in_place = s.in_place;
  }

  pub program_on : (i : Item) (j j' : ProgramItem) → MayLead GoesOn (program_next S.program S.launch j) j' →
      Standing i j → Standing i j'
  program_on i j j' h s = record {
    types = s.types;
    fit = s.fit;
    placed = s.placed;
    in_place = lead_keeps S.program j.tasks j'.tasks (program_leads S.program S.launch GoesOn j' j j.tasks h)
        s.in_place;
  }

  -- a test leaves the cells
  lead_on : (cells : Store) (k k' : Tasks) (j : ProgramItem) → Leads k k' → Standing (kernel_item S cells k) j →
      Standing (kernel_item S cells k') j
  lead_on cells k k' j l s = record {
    types = s.types;
    fit = fits_keep S.kernel k k' l s.fit;
    placed = lead_placed S.kernel.body k k' l s.placed;
    in_place = s.in_place;
  }

  pub may_step : (j j' : ProgramItem) → program_next S.program S.launch j ≡ Goes j' →
      MayLead GoesOn (program_next S.program S.launch j) j'
  may_step j j' e = subst (λ z. MayLead GoesOn z j') (sym e) refl

  -- with another value to be tested
  pub value_on : (i : Item) (ts : List Task) (v z : ℤ) (vs : List ℤ) (fs : List Frame) →
      Standing i (program_item S ts (v ∷ vs) fs) → Standing i (program_item S ts (z ∷ vs) fs)
  value_on i ts v z vs fs s = record { types = s.types; fit = s.fit; placed = s.placed; in_place = s.in_place }

  -- ---- they stand alike

  alike_by : (i : Item) (j : ProgramItem) → Standing i j → Facts S i j →
      ((m : ℕ) → CoversFewer S.program S.marks S.launch S.buffers m j i.tasks) →
      SameNext (item_next S.kernel S.launch i) (program_next S.program S.launch j)
      → (IsWaiting (item_next S.kernel S.launch i) → StandsAlike (point_marked S.marks) i j) → Alike i j
  alike_by i j s facts c same waits = record {
    same_next = same;
    waits = waits;
    parting = parts;
    reads_alike = facts.reads_alike;
    reads_value = facts.reads_value;
    sets_alike = facts.sets_alike;
    sets_value = λ v c is r. facts.sets_value v c is r s.in_place;
  }
    where
      parts : (point : Point) → IsBarrierPoint S.kernel.body point →
          (ItemCanCome S.kernel S.launch i (Some point) → ⊥) →
          ProgramCanCome S.program S.launch S.buffers j (Some (point_marked S.marks point)) → ⊥
      parts point is never can =
          parting_alike S.program names S.launch S.buffers i j (subst (λ z. Placed z.body i.tasks) lowered s.placed)
          s.in_place
          (λ m. subst (λ z. CoversFewer S.program z S.launch S.buffers m j i.tasks) marked (c m)) point
          (subst (λ z. IsBarrierPoint z.body point) lowered is)
          (λ come. never (subst (λ z. ItemCanCome z S.launch i (Some point)) (sym lowered) come))
          (subst (λ z. ProgramCanCome S.program S.launch S.buffers j (Some (point_marked z point))) marked can)

  -- before a step that shows nothing
  alike_going : (i i' : Item) (j : ProgramItem) → Standing i j → Facts S i j →
      ((m : ℕ) → CoversFewer S.program S.marks S.launch S.buffers m j i.tasks) →
      item_next S.kernel S.launch i ≡ Goes i' → Alike i j
  alike_going i i' j s facts c e =
      alike_by i j s facts c (subst (λ z. SameNext z (program_next S.program S.launch j)) (sym e) tt)
      (λ w. absurd (subst IsWaiting e w))

  -- before a step that both make, and that is no wait
  alike_both : (i : Item) (j : ProgramItem) (one : Next Item) (other : Next ProgramItem) → Standing i j →
      Facts S i j → ((m : ℕ) → CoversFewer S.program S.marks S.launch S.buffers m j i.tasks)
      → item_next S.kernel S.launch i ≡ one → program_next S.program S.launch j ≡ other → SameNext one other →
      (IsWaiting one → StandsAlike (point_marked S.marks) i j) → Alike i j
  alike_both i j one other s facts c e e' same waits =
      alike_by i j s facts c (subst (λ z. SameNext z (program_next S.program S.launch j)) (sym e)
      (subst (λ z. SameNext one z) (sym e') same)) (λ w. waits (subst IsWaiting e w))

  -- ---- the rules of following

  go_both : (n : ℕ) (i i' : Item) (j : ProgramItem) → Facts S i j → item_next S.kernel S.launch i ≡ Goes i' →
      G_follow n i' j → G_follow n i j
  go_both n i i' j facts e g s =
      let r = g (kernel_on i i' j (may_go S i i' e) s) in
      let c : (m : ℕ) → CoversFewer S.program S.marks S.launch S.buffers m j i.tasks =
      λ m. line_covers S m i i' j e (r.covers m) in
      record { covers = c; follows = by_goes _ _ _ _ n i i' j (alike_going i i' j s facts c e) e r.follows }

  task_both : (n : ℕ) (i : Item) (j j' : ProgramItem) → program_next S.program S.launch j ≡ Goes j' →
      is_test j.tasks ≡ false → G_follow n i j' → G_follow n i j
  task_both n i j j' e none g s =
      let r = g (program_on i j j' (may_step j j' e) s) in
      record { covers = λ m. task_covers S m j j' i.tasks e none (r.covers m); follows = second_goes e r.follows }

  -- at a test, behind which each value leads
  pub standing_at : (cells : Store) (k k' : Tasks) (ts : List Task) (v z : ℤ) (vs : List ℤ) (fs : List Frame)
      (next : ProgramItem) → Leads k k' →
      MayLead GoesOn (program_next S.program S.launch (program_item S ts (z ∷ vs) fs)) next
      → Standing (kernel_item S cells k) (program_item S ts (v ∷ vs) fs) → Standing (kernel_item S cells k') next
  standing_at cells k k' ts v z vs fs next l h s =
      program_on (kernel_item S cells k') (program_item S ts (z ∷ vs) fs) next h
      (value_on (kernel_item S cells k') ts v z vs fs (lead_on cells k k' (program_item S ts (v ∷ vs) fs) l s))

  test_both : (n : ℕ) (cells : Store) (at : Place) (site : ℕ) (test : Atom) (chosen other rest : Lines) (k : Tasks)
      (ts : List Task) (v : ℤ) (vs : List ℤ) (fs : List Frame) (next : ℤ → ProgramItem)
      → Facts S (kernel_item S cells (LinesAt at (IfThen site test chosen other rest) k))
      (program_item S ts (v ∷ vs) fs) → is_test ts ≡ true → atom_value cells test ≡ v
      → ((z : ℤ) → program_next S.program S.launch (program_item S ts (z ∷ vs) fs) ≡ Goes (next z)) →
      ((z : ℤ) → G_follow n (kernel_item S cells (branched z at chosen other rest k)) (next z))
      → G_follow n (kernel_item S cells (LinesAt at (IfThen site test chosen other rest) k))
      (program_item S ts (v ∷ vs) fs)
  test_both n cells at site test chosen other rest k ts v vs fs next facts t is e g s =
      let r : (z : ℤ) → CoveredFollows n (kernel_item S cells (branched z at chosen other rest k)) (next z) =
      λ z. g z (standing_at cells _ _ ts v z vs fs (next z) (branch_leads S z at site test chosen other rest k)
      (may_step _ (next z) (e z)) s) in
      let c : (m : ℕ) → CoversFewer S.program S.marks S.launch S.buffers m (program_item S ts (v ∷ vs) fs)
      (LinesAt at (IfThen site test chosen other rest) k) =
      λ m. test_covers S m at site test chosen other rest k ts v vs fs next t e (λ z. (r z).covers m) in
      let i' = kernel_item S cells (branched (atom_value cells test) at chosen other rest k) in
      record {
        covers = c;
        follows = by_goes _ _ _ _ n _ i' _ (alike_going _ i' _ s facts c refl) refl
            (second_goes (e v) (subst (λ z. Follow n (kernel_item S cells (branched z at chosen other rest k))
            (next v)) (sym is) (r v).follows));
      }

  round_both : (n : ℕ) (cells : Store) (at : Place) (test : Lines) (answer : Atom) (body : Lines) (begun : ℕ)
      (k : Tasks) (ts : List Task) (v : ℤ) (vs : List ℤ) (fs : List Frame) (out again : ProgramItem)
      → Facts S (kernel_item S cells (AnswerAt at test answer body begun k)) (program_item S ts (v ∷ vs) fs) →
      is_test ts ≡ true → atom_value cells answer ≡ v
      → ((z : ℤ) → program_next S.program S.launch (program_item S ts (z ∷ vs) fs) ≡
      (if is_zero z then Goes out else Begins again))
      → G_follow (suc n) (kernel_item S cells k) out →
      G_follow n (kernel_item S cells (iteration at test answer body (suc begun) k)) again
      → G_follow (suc n) (kernel_item S cells (AnswerAt at test answer body begun k)) (program_item S ts (v ∷ vs) fs)
  round_both n cells at test answer body begun k ts v vs fs out again facts t is e go ga s =
      record { covers = c; follows = by_value (is_zero v) refl }
    where
      ro : CoveredFollows (suc n) (kernel_item S cells k) out
      ro = go (standing_at cells (AnswerAt at test answer body begun k) k ts v (pos 0) vs fs out past_loop
          (may_step _ out (e (pos 0))) s)

      ra : CoveredFollows n (kernel_item S cells (iteration at test answer body (suc begun) k)) again
      ra = ga (standing_at cells (AnswerAt at test answer body begun k) (iteration at test answer body (suc begun) k)
          ts v (pos 1) vs fs again to_body (subst (λ z. MayLead GoesOn z again) (sym (e (pos 1))) refl) s)

      c : (m : ℕ) → CoversFewer S.program S.marks S.launch S.buffers m (program_item S ts (v ∷ vs) fs)
          (AnswerAt at test answer body begun k)
      c m = fewer_covers S m (program_item S ts (v ∷ vs) fs) (AnswerAt at test answer body begun k)
          (round_covers S m at test answer body begun k ts v vs fs out again t e (ro.covers (suc m)) (ra.covers m))

      kernel_step : (b : Test) → is_zero v ≡ b
          → item_next S.kernel S.launch (kernel_item S cells (AnswerAt at test answer body begun k)) ≡
          (if b then Goes (kernel_item S cells k) else Begins
          (kernel_item S cells (iteration at test answer body (suc begun) k)))
      kernel_step b same =
          ap (λ (z : ℤ). if is_zero z then Goes (kernel_item S cells k) else Begins
          (kernel_item S cells (iteration at test answer body (suc begun) k))) is
          ∙ ap (λ (z : Test). if z then Goes (kernel_item S cells k) else Begins
          (kernel_item S cells (iteration at test answer body (suc begun) k))) same

      program_step : (b : Test) → is_zero v ≡ b → program_next S.program S.launch (program_item S ts (v ∷ vs) fs) ≡
          (if b then Goes out else Begins again)
      program_step b same = e v ∙ ap (λ (z : Test). if z then Goes out else Begins again) same

      by_value : (b : Test) → is_zero v ≡ b →
          Follow (suc n) (kernel_item S cells (AnswerAt at test answer body begun k)) (program_item S ts (v ∷ vs) fs)
      by_value true same = by_goes _ _ _ _ (suc n) _ (kernel_item S cells k) _
          (alike_going _ (kernel_item S cells k) _ s facts c (kernel_step true same)) (kernel_step true same)
          (second_goes (program_step true same) ro.follows)
      by_value false same = begins (alike_both _ _ _ _ s facts c (kernel_step false same) (program_step false same) tt
          (λ w. absurd w)) (kernel_step false same) (program_step false same) ra.follows

  -- behind steps of both
  pub both_on : (i i' : Item) (j j' : ProgramItem) → MayLead GoesOn (item_next S.kernel S.launch i) i' →
      MayLead GoesOn (program_next S.program S.launch j) j' → Standing i j → Standing i' j'
  both_on i i' j j' h h' s = program_on i' j j' h' (kernel_on i i' j h s)

  begins_less_both : (n : ℕ) (i i' : Item) (j j' : ProgramItem) → Facts S i j →
      item_next S.kernel S.launch i ≡ Begins i' → program_next S.program S.launch j ≡ Begins j' →
      is_test j.tasks ≡ false → G_follow n i' j' → G_follow (suc n) i j
  begins_less_both n i i' j j' facts e e' none g s =
      let r = g (both_on i i' j j' (may_begin S i i' e) (subst (λ z. MayLead GoesOn z j') (sym e') refl) s) in
      let c : (m : ℕ) → CoversFewer S.program S.marks S.launch S.buffers m j i.tasks =
      λ m. begins_covers S m i i' j j' e e' none (r.covers m) in
      record { covers = c; follows = begins (alike_both i j _ _ s facts c e e' tt (λ w. absurd w)) e e' r.follows }

  begins_both : (n : ℕ) (i i' : Item) (j j' : ProgramItem) → Facts S i j → item_next S.kernel S.launch i ≡ Begins i' →
      program_next S.program S.launch j ≡ Begins j' → is_test j.tasks ≡ false → G_follow n i' j' → G_follow n i j
  begins_both n i i' j j' facts e e' none g s = let r = begins_less_both n i i' j j' facts e e' none g s in
      record { covers = r.covers; follows = fewer _ _ _ _ n i j r.follows }

  loads_both : (n : ℕ) (i : Item) (j : ProgramItem) (site : ℕ) (access : Access) (f : List ℕ → Item) (h : List ℕ →
      ProgramItem) → Facts S i j → item_next S.kernel S.launch i ≡ Loads site access f →
      program_next S.program S.launch j ≡ Loads site access h
      → ((bytes : List ℕ) → G_follow n (f bytes) (h bytes)) → G_follow n i j
  loads_both n i j site access f h facts e e' g s =
      let r : (bytes : List ℕ) → CoveredFollows n (f bytes) (h bytes) =
      λ bytes. g bytes (both_on i (f bytes) j (h bytes) (may_load S i site access f bytes e)
      (subst (λ z. MayLead GoesOn z (h bytes)) (sym e') (tt, (bytes, refl))) s) in
      let c : (m : ℕ) → CoversFewer S.program S.marks S.launch S.buffers m j i.tasks =
      λ m. loads_cover S m i j site access f h e e' (λ bytes. (r bytes).covers m) in
      record {
        covers = c;
        follows = by_load _ _ _ _ n i j site access f h (alike_both i j _ _ s facts c e e' (
          refl,
          refl,
        ) (λ w. absurd w)) e e' (λ bytes. (r bytes).follows);
      }

  stores_both : (n : ℕ) (i i' : Item) (j j' : ProgramItem) (site object : ℕ) (index : ℤ) (bytes : List ℕ) →
      Facts S i j → item_next S.kernel S.launch i ≡ Stores site object index bytes i' →
      program_next S.program S.launch j ≡ Stores site object index bytes j'
      → G_follow n i' j' → G_follow n i j
  stores_both n i i' j j' site object index bytes facts e e' g s =
      let r = g (both_on i i' j j' (may_store S i i' site object index bytes e)
      (subst (λ z. MayLead GoesOn z j') (sym e') (tt, refl)) s) in
      let c : (m : ℕ) → CoversFewer S.program S.marks S.launch S.buffers m j i.tasks =
      λ m. stores_cover S m i i' j j' site object index bytes e e' (r.covers m) in
      record {
        covers = c;
        follows = by_store _ _ _ _ n i i' j j' site object index bytes
            (alike_both i j _ _ s facts c e e' (refl, refl, refl, refl) (λ w. absurd w)) e e' r.follows;
      }

  waits_both : (n : ℕ) (i i' : Item) (j j' : ProgramItem) (site : ℕ) → Facts S i j →
      StandsAlike (point_marked S.marks) i j → item_next S.kernel S.launch i ≡ Waits site i' →
      program_next S.program S.launch j ≡ Waits site j' → G_follow n i' j' → G_follow n i j
  waits_both n i i' j j' site facts alike e e' g s =
      let r = g (both_on i i' j j' (may_wait S i i' site e) (subst (λ z. MayLead GoesOn z j') (sym e') refl) s) in
      let c : (m : ℕ) → CoversFewer S.program S.marks S.launch S.buffers m j i.tasks =
      λ m. waits_cover S m i i' j j' site alike e e' (r.covers m) in
      let w = waits_where S.kernel S.launch i site i.tasks (subst (λ z. WaitsAt site z) (sym e) refl) in
      let p : Point = record { at = w.at; begun = begun_in w.over } in
      let there : first_point j.tasks ≡ option_map (point_marked S.marks) (point_of i.tasks) =
      alike p (ap point_of w.is) ∙ ap (option_map (point_marked S.marks)) (sym (ap point_of w.is)) in
      record {
        covers = c;
        follows = by_wait _ _ _ _ n i i' j j' site
            (alike_both i j _ _ s facts c e e' refl (λ u. alike)) there e e' r.follows;
      }

  ends_both : (n : ℕ) (i : Item) (j : ProgramItem) → Facts S i j → item_next S.kernel S.launch i ≡ Ends →
      program_next S.program S.launch j ≡ Ends → G_follow n i j
  ends_both n i j facts e e' s =
      let c : (m : ℕ) → CoversFewer S.program S.marks S.launch S.buffers m j i.tasks =
      λ m. ends_cover S m j i.tasks e' in
      record { covers = c; follows = by_end _ _ _ _ n i j (alike_both i j _ _ s facts c e e' tt (λ w. absurd w)) e e' }

  select_both : (n : ℕ) (cells : Store) (k : Tasks) (ts : List Task) (v : ℤ) (vs : List ℤ) (fs : List Frame)
      (held : ℤ → Store) (next : ℤ → ProgramItem) → is_test ts ≡ true
      → ((z : ℤ) → program_next S.program S.launch (program_item S ts (z ∷ vs) fs) ≡ Goes (next z)) →
      ((z : ℤ) → HoldsTypes S cells → HoldsTypes S (held z))
      → ((z : ℤ) → G_follow n (kernel_item S (held z) k) (next z)) → G_follow n (kernel_item S cells k) (next v) →
      G_follow n (kernel_item S cells k) (program_item S ts (v ∷ vs) fs)
  select_both n cells k ts v vs fs held next t e types g gv s =
      let on : (z : ℤ) → Standing (kernel_item S cells k) (next z) =
      λ z. program_on (kernel_item S cells k) (program_item S ts (z ∷ vs) fs) (next z) (may_step _ (next z) (e z))
      (value_on (kernel_item S cells k) ts v z vs fs s) in
      let r : (z : ℤ) → CoveredFollows n (kernel_item S (held z) k) (next z) =
      λ z. g z (record { types = types z s.types; fit = s.fit; placed = s.placed; in_place = (on z).in_place }) in
      record {
        covers = λ m. select_covers S m k ts v vs fs next t e (λ z. (r z).covers m);
        follows = second_goes (e v) (gv (on v)).follows;
      }

  -- all the rules
  pub followed : Rules S G_follow
  followed = record {
    fewer = λ n i j g s. let r = g s in record { covers = r.covers; follows = fewer _ _ _ _ n i j r.follows };
    task = task_both;
    line = go_both;
    test = test_both;
    round = round_both;
    begins = begins_both;
    begins_less = begins_less_both;
    loads = loads_both;
    stores = stores_both;
    waits = waits_both;
    ends = ends_both;
    select = select_both;
    typed = λ n i j g s. g s.types s;
    fit = λ n i j g s. g s.fit s;
  }

  -- where both start
  pub standing_start : lines_fit S.kernel S.kernel.body ≡ true → (item : ℕ) →
      Standing (start_item S.kernel item) (program_start_item S.program S.launch item)
  standing_start valid item =
      record { types = types_start S; fit = (valid, tt); placed = (refl, refl, refl, tt); in_place = (refl, tt) }
