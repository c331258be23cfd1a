-- How the items of a chunk go on with its code, where they make no access.
use Rattle.std.proofs.Common.{◌≡◌, ℕ, ◌+◌, ◌<◌, ◌≤◌, ℤ, Some, None, refl, sym, ap, ◌∙◌, subst, ⊎_elim, arith}
use Rattle.std.proofs.Common.{cond, IsTrue}
use Rattle.std.specs.Prelude.{slice_index_or}
use Rattle.std.specs.Prelude.{Bool as Test, true, false}
use Rattle.std.proofs.lemmas.Bool.{cases_Bool, true≢false}
use Rattle.work_items.specs.Items.{Goes}
use Rattle.cl_model.specs.Sizes.{Launch, item_count}
use Rattle.kir.specs.Tree.{Kernel}
use Rattle.kir.specs.Places.{Tasks}
use Rattle.kir.specs.Live.{live_now}
use Rattle.kir.specs.Steps.{Item, tasks_next}
use Rattle.kir.specs.Meaning.{machine_of}
use Rattle.lane_code.specs.declared.code.Counts.{Counts}
use Rattle.lane_code.specs.Registers.{Registers}
use Rattle.lane_code.specs.Groups.{Group}
use Rattle.lane_code.specs.Acts.{State}
use Rattle.group_moves.specs.Stages.{Stage}
use Rattle.group_moves.specs.Lanes.{IsLane, Reached, Does, stays, goes, some_below}
use Rattle.group_moves.proofs.Moves.{lanes_move}
use Rattle.group_moves.proofs.Runs.{leads_then}
use Rattle.kir_moves.specs.Stand.{start_stage}
use Rattle.kir_moves.proofs.Own.{items_stand}
use Rattle.mask_lower.specs.declared.registers.Operand.{Operand}
use Rattle.mask_lower.specs.Layout.{Mirrors, OtherGroupsStay}
use Rattle.mask_lower.specs.Following.{ChunkOf}
use Rattle.mask_lower.specs.Registers.{Frame}
use Rattle.mask_lower_correct.specs.View.{value_at, Shaped}
use Rattle.mask_lower_correct.specs.Sim.{Ground, IsGood, Agrees, Above, SameGroup, Sim}
use Rattle.mask_lower_correct.proofs.CellValues.{cells_hold}

-- tasks that differ where the mask is set alone
pub cond_else : {A : Type 0} → (b : Test) (x y z : A) → (b ≡ false → y ≡ z) → cond b x y ≡ cond b x z
cond_else true x y z h = refl
cond_else false x y z h = h refl

pub cond_set : {A : Type 0} → (b : Test) (x y : A) → b ≡ true → cond b x y ≡ x
cond_set b x y e = ap (λ c. cond c x y) e

pub cond_unset : {A : Type 0} → (b : Test) (x y : A) → b ≡ false → cond b x y ≡ y
cond_unset b x y e = ap (λ c. cond c x y) e

-- what is no register is the same
pub record SameOuter (before after : State) : Type 0 where
  pub group : after.group ≡ before.group
  pub buffers : after.buffers ≡ before.buffers

pub same_outer : (st : State) → SameOuter st st
same_outer st = record { group = refl; buffers = refl }

pub outer_then : (a b c : State) → SameOuter a b → SameOuter b c → SameOuter a c
outer_then a b c ab bc = record { group = bc.group ∙ ab.group; buffers = bc.buffers ∙ ab.buffers }

module _ (kernel : Kernel) (launch : Launch) (width : ℕ) (chunk : ChunkOf kernel launch width) (turns : ℕ)
    (w0 : Stage Item) (g0 : Group) (f : Frame) (counts : Counts) (r0 : Registers) (ground : Ground kernel launch w0)
  where
    abbrev pub At : ℕ → (ℕ → Tasks) → State → Stage Item → Type 0
    At = Sim kernel launch width chunk turns w0 g0 f counts r0

    -- each item that the lanes' items' runs leave is a good one
    pub good_there : (w : Stage Item) → Reached (machine_of kernel launch) chunk.lanes w0 w → (i : ℕ) →
        IsGood kernel i (w.items i)
    good_there w r i =
        let leads = leads_then (machine_of kernel launch) (item_count launch) (start_stage kernel launch ground.buffers)
        w0 w ground.leads r.by in
        record {
          numbered = (items_stand kernel launch ground.buffers w leads i).numbered;
          typed = (cells_hold kernel launch ground.fits ground.sizes ground.valid ground.buffers w leads i).1;
        }

    -- registers of a lane that agree on the cells
    abbrev pub SameCells : Registers → Registers → (l : ℕ) → Type 0
    SameCells before after l = (c : ℕ) (op : Operand) → slice_index_or f.cells c None ≡ Some op →
        value_at after op.at l ≡ value_at before op.at l

    pub agrees_as : (r r' : Registers) (l : ℕ) (k : Tasks) (cells : ℕ → ℤ) → SameCells r r' l → Agrees f r l k cells →
        Agrees f r' l k cells
    agrees_as r r' l k cells same a c op e live = same c op e ∙ a c op e live

    -- other names for the same tasks, and registers that agree on the cells
    pub sim_as : (t : ℕ) (T T' : ℕ → Tasks) (st st' : State) (w : Stage Item) →
        ((l : ℕ) → IsLane chunk.lanes l → T l ≡ T' l) → SameOuter st st' → Shaped counts width st'.registers →
        Above f width st.registers st'.registers
        → ((l : ℕ) → IsLane chunk.lanes l → SameCells st.registers st'.registers l) → At t T st w → At t T' st' w
    sim_as t T T' st st' w same outer shape above regs sim = record {
      reached = sim.reached;
      mirrors = subst (λ b. Mirrors kernel launch chunk.group w.memory st'.group b) (sym outer.buffers)
          (subst (λ g. Mirrors kernel launch chunk.group w.memory g st.buffers) (sym outer.group) sim.mirrors);
      others = sim.others;
      group = subst (λ g. SameGroup g0 g) (sym outer.group) sim.group;
      rows = subst (λ (g : Group). (n : ℕ) → n < Rattle.std.proofs.Common.length g.privates →
          Rattle.std.proofs.Common.length (slice_index_or g.privates n Rattle.std.proofs.Common.[]) ≡
          Rattle.cl_model.specs.Sizes.group_size launch) (sym outer.group) sim.rows;
      shape = shape;
      above = λ x l lt b more. above x l lt b more ∙ sim.above x l lt b more;
      stand = λ l lane. (
        (sim.stand l lane).0 ∙ same l lane,
        λ c op e live. regs l lane c op e ∙
            (sim.stand l lane).1 c op e (ap (live_now c) (same l lane) ∙ live),
      );
      budget = sim.budget;
    }

    -- the same registers
    pub sim_names : (t : ℕ) (T T' : ℕ → Tasks) (st : State) (w : Stage Item) →
        ((l : ℕ) → IsLane chunk.lanes l → T l ≡ T' l) → At t T st w → At t T' st w
    sim_names t T T' st w same sim =
        sim_as t T T' st st w same (same_outer st) sim.shape (λ x l lt b more. refl) (λ l lane c op e. refl) sim

    -- each lane's item makes at most one step without an access
    pub sim_move : (t : ℕ) (T T' : ℕ → Tasks) (st st' : State) (w : Stage Item) (B : ℕ → Test) → SameOuter st st' →
        Shaped counts width st'.registers → Above f width st.registers st'.registers
        → ((l : ℕ) → IsLane chunk.lanes l → (s : Item) → IsGood kernel (chunk.lanes.first + l) s → s.tasks ≡ T l →
        Agrees f st.registers l (T l) s.cells
        → Does (machine_of kernel launch) w.memory s (λ s'. (s'.tasks ≡ T' l) ×
        Agrees f st'.registers l (T' l) s'.cells) w.memory (B l))
        → ((l : ℕ) → B l ≡ true → IsTrue (chunk.lanes.alive l)) → At t T st w
        → (w' : Stage Item) × At t T' st' w' × (w.begun ≤ w'.begun) × (some_below chunk.lanes.width B ≡ true →
        w.begun < w'.begun) × (w'.memory ≡ w.memory)
    sim_move t T T' st st' w B outer shape above one alive sim =
        let m = lanes_move (machine_of kernel launch) chunk.lanes w0 w (λ l s. IsGood kernel (chunk.lanes.first + l) s ×
        (s.tasks ≡ T l) × Agrees f st.registers l (T l) s.cells) (λ l s. (s.tasks ≡ T' l) ×
        Agrees f st'.registers l (T' l) s.cells) B sim.reached
        (λ l lane s p. one l lane s p.0 p.1 p.2) alive (λ l lane. (
          good_there w sim.reached (chunk.lanes.first + l),
          (sim.stand l lane).0,
          (sim.stand l lane).1,
        )) chunk.lanes.width (omega arith) in
        let same = sim_names t T T st w (λ l lane. refl) sim in (
          m.after,
          record {
            reached = m.reached;
            mirrors = subst (λ x. Mirrors kernel launch chunk.group x st'.group st'.buffers) (sym m.memory)
                (subst (λ b. Mirrors kernel launch chunk.group w.memory st'.group b) (sym outer.buffers)
                (subst (λ g. Mirrors kernel launch chunk.group w.memory g st.buffers) (sym outer.group)
                sim.mirrors));
            others = subst (λ x. OtherGroupsStay kernel launch chunk.group w0.memory x) (sym m.memory) sim.others;
            group = subst (λ g. SameGroup g0 g) (sym outer.group) sim.group;
            rows = subst (λ (g : Group). (n : ℕ) → n < Rattle.std.proofs.Common.length g.privates →
                Rattle.std.proofs.Common.length (slice_index_or g.privates n Rattle.std.proofs.Common.[]) ≡
                Rattle.cl_model.specs.Sizes.group_size launch) (sym outer.group) sim.rows;
            shape = shape;
            above = λ x l lt b more. above x l lt b more ∙ sim.above x l lt b more;
            stand = λ l lane. m.below l lane.0 lane;
            budget = omega (arith, m.more, sim.budget);
          },
          m.more,
          m.strict,
          m.memory,
        )

    -- the active lanes make one such step from one task, and the others none
    pub sim_go : (t : ℕ) (T T' : ℕ → Tasks) (st st' : State) (w : Stage Item) (a : ℕ → Test) (task : Tasks) →
        SameOuter st st' → Shaped counts width st'.registers → Above f width st.registers st'.registers
        → ((l : ℕ) → IsLane chunk.lanes l → a l ≡ true → (s : Item) → IsGood kernel (chunk.lanes.first + l) s →
        Agrees f st.registers l task s.cells
        → (cells' : ℕ → ℤ) × (tasks_next kernel launch s task ≡ Goes (record s { cells = cells'; tasks = T' l })) ×
        Agrees f st'.registers l (T' l) cells')
        → ((l : ℕ) → IsLane chunk.lanes l → a l ≡ false → SameCells st.registers st'.registers l)
        → ((l : ℕ) → IsLane chunk.lanes l → a l ≡ true → T l ≡ task) → At t T st w
        → (w' : Stage Item) × At t (λ l. cond (a l) (T' l) (T l)) st' w'
    sim_go t T T' st st' w a task outer shape above each idle at sim =
        let r = sim_move t T (λ l. cond (a l) (T' l) (T l)) st st' w (λ l. false) outer shape above
        (λ l lane s good e ag. ⊎_elim (λ set. active l lane s good set e ag) (λ unset. stays (
          e ∙
              sym (cond_unset (a l) (T' l) (T l) unset),
          λ c op h live. idle l lane unset c op h ∙
              ag c op h (ap (live_now c) (sym (cond_unset (a l) (T' l) (T l) unset)) ∙ live),
        )) (cases_Bool (a l)))
        (λ l e. absurd (true≢false (sym e))) sim in
        (r.0, r.1)
      where
        active : (l : ℕ) → IsLane chunk.lanes l → (s : Item) → IsGood kernel (chunk.lanes.first + l) s → a l ≡ true →
            s.tasks ≡ T l → Agrees f st.registers l (T l) s.cells
            → Does (machine_of kernel launch) w.memory s (λ s'. (s'.tasks ≡ cond (a l) (T' l) (T l)) ×
            Agrees f st'.registers l (cond (a l) (T' l) (T l)) s'.cells) w.memory false
        active l lane s good set e ag =
            let same = at l lane set in
            let h = each l lane set s good (λ c op h live. ag c op h (ap (live_now c) same ∙ live)) in
            goes (record s { cells = h.0; tasks = T' l }) (ap (tasks_next kernel launch s) (e ∙ same) ∙ h.1) (
              sym (cond_set (a l) (T' l) (T l) set),
              λ c op i live. h.2 c op i (ap (live_now c) (sym (cond_set (a l) (T' l) (T l) set)) ∙ live),
            )
