-- How a region's code goes on behind its lines: the items' votes are put, live cells go home, and the code is done.
use Rattle.std.proofs.Common.{◌≡◌, ℕ, ◌+◌, ◌-◌, ◌*◌, ◌<◌, ◌≤◌, ℤ, List, [], ◌++◌, length, Option, Some, None, slice_get}
use Rattle.std.proofs.Common.{refl, sym, ap, ◌∙◌, subst, ⊎_elim, arith, length-append}
use Rattle.std.specs.Prelude.{slice_index_or, nat_lt, ◌&&◌, option_map}
use Rattle.std.specs.Prelude.{Bool as Test, true, false}
use Rattle.std.proofs.lemmas.Bool.{true≢false, and_parts, cases_lt, ltb-true, or_left}
use Rattle.std.proofs.lemmas.Option.{none-some, same_Some, slice_get_within}
use Rattle.wg_num.specs.declared.types.IntType.{IntType}
use Rattle.lane_values.specs.Lanes.{zip3}
use Rattle.cl_model.specs.Lists.{IsOneOf}
use Rattle.cl_model.specs.Sizes.{Launch, group_size, group_of, item_count}
use Rattle.kir.specs.declared.line.Atom.{Atom}
use Rattle.kir.specs.Tree.{Cell, Kernel}
use Rattle.kir.specs.Places.{Tasks}
use Rattle.kir.specs.Live.{reads, some_reads, live_behind}
use Rattle.kir.specs.Steps.{Item}
use Rattle.kir.specs.Meaning.{machine_of}
use Rattle.ctx_plan.specs.declared.plan.Home.{Home}
use Rattle.ctx_plan.specs.declared.plan.Home.TheVariants as home
use Rattle.ctx_plan.specs.Planned.{Planned}
use Rattle.ctx_plan.specs.Asks.{Suits}
use Rattle.lane_code.specs.declared.step.Step.{Step}
use Rattle.lane_code.specs.declared.step.Step.TheVariants as step
use Rattle.lane_code.specs.declared.step.Reg.{Reg}
use Rattle.lane_code.specs.declared.code.Counts.{Counts}
use Rattle.lane_code.specs.declared.end.RegionEnd.TheVariants as end
use Rattle.lane_code.specs.Registers.{Registers, mask_of}
use Rattle.lane_code.specs.Fits.{is_below, is_code}
use Rattle.lane_code.specs.Groups.{Group, window, with_window}
use Rattle.lane_code.specs.Acts.{State, chosen, voted as put_votes, with_group, with_registers}
use Rattle.lane_code.specs.Meaning.{Ended}
use Rattle.lane_laws.specs.Places.{HasAt}
use Rattle.lane_laws.specs.Reading.{mask_at}
use Rattle.lane_laws.proofs.Reading.{window_length, with_window_length, before_window, in_window, behind_window}
use Rattle.lane_laws.proofs.Steps.{has_front, has_back, on_step, at_end}
use Rattle.group_moves.specs.Stages.{Stage}
use Rattle.group_moves.specs.Lanes.{IsLane}
use Rattle.group_moves.proofs.Runs.{leads_then}
use Rattle.kir_moves.specs.Stand.{start_stage}
use Rattle.kir_moves.proofs.Live.{behind_live}
use Rattle.regions.specs.Tree.{RegionOf}
use Rattle.regions.specs.Spans.{Spans, IsEnd}
use Rattle.mask_lower.specs.declared.registers.Free.{Free}
use Rattle.mask_lower.specs.Banks.{mask_reg}
use Rattle.mask_lower.specs.Atoms.{atoms_voted}
use Rattle.mask_lower.specs.Layout.{kernel_chunk, HasShape, Mirrors}
use Rattle.mask_lower.specs.Standing.{Holds, HasLive, HasVoted, LanesStand}
use Rattle.mask_lower.specs.Following.{ChunkOf, SlotsBegun, ChunkDone, ReadsVote}
use Rattle.mask_lower.specs.Registers.{Frame, cell_at, operand}
use Rattle.mask_lower.specs.Homes.{put_cells, exit_code}
use Rattle.mask_lower.specs.Lowered.{vote_code}
use Rattle.mask_lower_correct.specs.View.{value_at, Shaped}
use Rattle.mask_lower_correct.specs.Framed.{IsFramed, Held}
use Rattle.mask_lower_correct.specs.Sim.{Ground, Sim, Closed}
use Rattle.mask_lower_correct.specs.Fits.{RegionFits}
use Rattle.mask_lower_correct.proofs.View.{code_well, mask_length, zip3_read, zip3_length}
use Rattle.mask_lower_correct.proofs.Standing.{good_there}
use Rattle.mask_lower_correct.proofs.Atoms.{operand_is, entry_at}
use Rattle.mask_lower.proofs.Ends.{ends_even}
use Rattle.mask_lower_correct.proofs.Ends.{ends_kept, ends_apart}
use Rattle.mask_lower_correct.proofs.Exiting.{HomeSame, Left, exit_runs}
use Rattle.mask_lower_correct.proofs.Setting.{put_of, put_there}
use Rattle.mask_lower_correct.proofs.Unset.{unset_kept}
use Rattle.mask_lower_correct.proofs.Living.{unset_before}
use Rattle.kir_uniform.specs.Uniform.{sets_in}
use Rattle.kir_uniform.proofs.Living.{true_or_false}
use Rattle.mask_lower_correct.proofs.Soundness.{yes_at, test_runs, yes_is}

module _ (kernel : Kernel) (launch : Launch) (width : ℕ) (chunk : ChunkOf kernel launch width) (turns : ℕ)
    (w0 : Stage Item) (g0 : Group) (f : Frame) (counts : Counts) (r0 : Registers) (ground : Ground kernel launch w0)
    (atoms : List Atom) (framed : IsFramed kernel f atoms) (code : List Step) (valid : is_code counts code ≡ true)
    (Good : Ended → Type 0) (Sites : ℕ →
    Type 0) (Goal : Tasks) (closed : Closed kernel launch width chunk turns w0 Sites Goal Good)
    (plan : Planned) (suits : Suits kernel plan) (shaped : HasShape plan.columns plan.slots (group_size launch) g0)
    (region : RegionOf) (e : Tasks) (is_end : IsEnd kernel e) (live : HasLive kernel region.live e)
    (reads_vote : ReadsVote region.answer e) (fits : RegionFits kernel region) (front : Tasks)
    (spans : Spans region front e)
    (stands : LanesStand kernel plan.homes chunk.lanes chunk.first w0 g0.columns g0.entries front)
    (slots : SlotsBegun plan.homes region.lines e g0)
    (done : (t : ℕ) (st : State) (after : Stage Item) →
    ChunkDone kernel plan.homes launch width chunk region e w0 turns g0 t st after →
    Good (record { end = end.Done; turns = t; state = st })) where
  abbrev EndFrom : ℕ → ℕ → State → Ended
  EndFrom t p st =
      Rattle.lane_code.specs.Meaning.code_end (kernel_chunk kernel launch width chunk.group chunk.first) code t p st

  abbrev AtStage : ℕ → (ℕ → Tasks) → State → Stage Item → Type 0
  AtStage = Sim kernel launch width chunk turns w0 g0 f counts r0

  abbrev item_at : Stage Item → ℕ → Item
  item_at w l = w.items (chunk.lanes.first + l)

  lane_of : (l : ℕ) → (l < width) × (nat_lt (chunk.first + l) (group_size launch) ≡ true) → IsLane chunk.lanes l
  lane_of l item =
      ((let wi = chunk.is_chunk.width_is in let lt = item.0 in omega arith), chunk.is_chunk.alive_is l ∙ item.1)

  item_of : (l : ℕ) → IsLane chunk.lanes l → (l < width) × (nat_lt (chunk.first + l) (group_size launch) ≡ true)
  item_of l lane =
      ((let wi = chunk.is_chunk.width_is in let lt = lane.0 in omega arith), sym (chunk.is_chunk.alive_is l) ∙ lane.1)

  -- the votes are put, and nothing else has changed
  record Voted (w : Stage Item) (st st4 : State) : Type 0 where
    numbers : (x : Reg) (l : ℕ) → value_at st4.registers x l ≡ value_at st.registers x l
    mask : (l : ℕ) → l < width → mask_at st4.registers 0 l ≡ mask_at st.registers 0 l
    shape : Shaped counts width st4.registers
    buffers : st4.buffers ≡ st.buffers
    locals : st4.group.locals ≡ st.group.locals
    privates : st4.group.privates ≡ st.group.privates
    columns : st4.group.columns ≡ st.group.columns
    entries : st4.group.entries ≡ st.group.entries
    exits : st4.group.exits ≡ st.group.exits
    count : length st4.group.votes ≡ length st.group.votes
    elsewhere : (i : ℕ) → ((l : ℕ) → l < width → i ≡ chunk.first + l → ⊥) →
        slice_index_or st4.group.votes i false ≡ slice_index_or st.group.votes i false
    voted : (l : ℕ) → IsLane chunk.lanes l →
        HasVoted region.answer (slice_index_or st4.group.votes (chunk.first + l) false) (item_at w l).cells

  vote_runs : (next : Free) (p t : ℕ) (st : State) (w : Stage Item) → HasAt code p (vote_code f next region.answer) →
      AtStage t (λ l. e) st w → ((l : ℕ) → l < width →
      mask_at st.registers 0 l ≡ nat_lt (chunk.first + l) (group_size launch)) →
      Held f width r0 next (atoms_voted region.answer)
      → ((c : ℕ) → some_reads c (atoms_voted region.answer) ≡ true → some_reads c atoms ≡ true) →
      ((st4 : State) → Voted w st st4 → Good (EndFrom t (p + length (vote_code f next region.answer)) st4)) →
      Good (EndFrom t p st)
  vote_runs next p t st w has sim mask held names go = by region.answer refl has held names go
    where
      by : (o : Option Atom) → region.answer ≡ o → HasAt code p (vote_code f next o) →
          Held f width r0 next (atoms_voted o) → ((c : ℕ) → some_reads c (atoms_voted o) ≡ true →
          some_reads c atoms ≡ true) → ((st4 : State) → Voted w st st4 →
          Good (EndFrom t (p + length (vote_code f next o)) st4)) → Good (EndFrom t p st)
      by None is has held names go =
          let n : p + 0 ≡ p = omega arith in
          subst (λ k. Good (EndFrom t k st)) n
          (go st (record {
            numbers = λ x l. refl;
            mask = λ l lt. refl;
            shape = sim.shape;
            buffers = refl;
            locals = refl;
            privates = refl;
            columns = refl;
            entries = refl;
            exits = refl;
            count = refl;
            elsewhere = λ i h. refl;
            voted = λ l lane.
                subst (λ o. HasVoted o (slice_index_or st.group.votes (chunk.first + l) false)
                (item_at w l).cells) (sym is) tt;
          }))
      by (Some a) is has held names go =
          let ty = fits.answer a is in
          let one = operand_is kernel width f atoms counts r0 framed next a ty.0 st.registers ty.1
          (λ c h. names c (or_left (reads c a) false h)) held.0 sim.above in
          test_runs kernel launch width chunk turns w0 g0 f counts r0 ground atoms framed code valid Good Sites Goal
          closed next a ty.0 0 1 p t st has.0 one sim.shape (λ after k1.
          let st1 = with_registers st after in
          let s = step.VotePut (mask_reg 1) (mask_reg 0) in
          let wells = and_parts (is_below counts (mask_reg 1)) (is_below counts (mask_reg 0))
          (code_well counts code (p + 1) s valid has.1.0) in
          let active = mask_of after (mask_reg 0) in
          let votes = mask_of after (mask_reg 1) in
          let old = st.group.votes in
          let seen = window false old chunk.first width in
          let la = mask_length counts width after k1.shape 0 wells.1 in
          let lv = mask_length counts width after k1.shape 1 wells.0 in
          let ls = window_length false old chunk.first width in
          let put = zip3 chosen active votes seen in
          let lp = zip3_length chosen active votes seen (la ∙ sym lv) (la ∙ sym ls) ∙ la in
          let st4 = with_group st1 (put_votes st.group chunk.first width active votes) in
          let n : p + 1 + 1 ≡ p + 2 = omega arith in
          let many : length old ≡ group_size launch =
          ap (λ (v : List Test). length v) sim.group.votes ∙ shaped.vote_count in
          on_step (kernel_chunk kernel launch width chunk.group chunk.first) code Good t (p + 1) s st1 st4 has.1.0 refl
          (subst (λ k. Good (EndFrom t k st4)) (sym n)
          (go st4 (record {
            numbers = k1.numbers;
            mask = λ l lt. k1.there 0 l lt (λ h. omega (arith, h));
            shape = k1.shape;
            buffers = refl;
            locals = refl;
            privates = refl;
            columns = refl;
            entries = refl;
            exits = refl;
            count = with_window_length old chunk.first put;
            elsewhere = λ i outside. ⊎_elim (λ lt. before_window old chunk.first put i false lt)
                (λ ge. ⊎_elim (λ inside. absurd (outside (i - chunk.first) (omega arith) (omega arith)))
                (λ behind. behind_window old chunk.first put i false (omega arith))
                (cases_lt i (chunk.first + width)))
                (cases_lt i chunk.first);
            voted = λ l lane.
                let item = item_of l lane in
                let ltl = item.0 in
                let inside = ltb-true (chunk.first + l) (group_size launch) item.1 in
                let set : slice_index_or active l false ≡ true =
                k1.there 0 l ltl (λ h. omega (arith, h)) ∙ mask l ltl ∙ item.1 in
                let stands = sim.stand l lane in
                subst (λ o. HasVoted o (slice_index_or (with_window old chunk.first put) (chunk.first + l) false)
                (item_at w l).cells) (sym is)
                (in_window old chunk.first put l false (omega arith) (omega arith)
                ∙ zip3_read chosen active votes seen l false false false false (omega arith) (omega arith) (omega arith)
                ∙ ap (λ b. chosen b (slice_index_or votes l false) (slice_index_or seen l false)) set
                ∙ k1.here l ltl ∙ ap (λ b. b && yes_at kernel launch width chunk turns w0 g0 f counts r0 ground atoms
                framed code valid Good Sites Goal closed st (operand f.cells next a).at l) (mask l ltl ∙ item.1)
                ∙ yes_is kernel launch width chunk turns w0 g0 f counts r0 ground atoms framed code valid Good Sites
                Goal closed next a ty.0 st l (item_at w l) e one ty.1 ltl
                (good_there kernel launch width chunk turns w0 g0 f counts r0 ground w sim.reached
                (chunk.lanes.first + l)) stands.1 (λ c rd. reads_vote a is c rd));
          }))))

  -- the code is done behind the exit
  pub finish : (next : Free) (p t : ℕ) (st : State) (w : Stage Item) →
      HasAt code p (vote_code f next region.answer ++
      exit_code plan.homes f.cells (put_cells region.lines region.live)) →
      length code ≡ p + length (vote_code f next region.answer ++
      exit_code plan.homes f.cells (put_cells region.lines region.live))
      → AtStage t (λ l. e) st w → ((l : ℕ) → l < width →
      mask_at st.registers 0 l ≡ nat_lt (chunk.first + l) (group_size launch)) →
      Held f width r0 next (atoms_voted region.answer)
      → ((c : ℕ) → some_reads c (atoms_voted region.answer) ≡ true → some_reads c atoms ≡ true) →
      ((c : ℕ) → sets_in c region.lines ≡ true → some_reads c atoms ≡ true) → Good (EndFrom t p st)
  finish next p t st w has whole sim mask held names sets =
      let put = put_cells region.lines region.live in
      let vc = vote_code f next region.answer in
      let ec = exit_code plan.homes f.cells put in
      let mine = kernel_chunk kernel launch width chunk.group chunk.first in
      vote_runs next p t st w (has_front code p vc ec has) sim mask held names (λ st4 voted.
      exit_runs kernel mine f atoms counts r0 framed code valid Good plan.homes (group_size launch)
      (λ c l. (item_at w l).cells c) put (p + length vc) t st4 (has_back code p vc ec has)
      (λ c m. entry c m)
      (record {
        shape = voted.shape;
        mask = λ l lt. voted.mask l lt ∙ mask l lt;
        values = λ c op m q l item.
            let lane = lane_of l item in
            let good = good_there kernel launch width chunk turns w0 g0 f counts r0 ground w sim.reached
            (chunk.lanes.first + l) in (
              voted.numbers op.at l ∙ (sim.stand l lane).1 c op q (behind_live c e (live.kept c (lives c m)).1),
              good.typed c op.of (framed.entries c op q).typed,
            );
        columns = λ c k q.
            let below = suits.columns_below c k q in
            let same = voted.columns ∙ sim.group.columns in (
              (let n = ap (λ (x : List (List ℕ)). length x) same in let m = shaped.column_count in omega arith),
              ap (λ (x : List (List ℕ)). length (slice_index_or x k [])) same ∙ shaped.each_column k below,
            );
        slots = λ c s q. let below = suits.slots_below c s q in let n =
            ap (λ (x : List ℕ). length x) (voted.exits ∙ sim.group.exits) in let m = shaped.exit_count in omega arith;
      })
      (λ c d h mc md ne qc qd not_register. ends_apart kernel plan suits e is_end c d h
      (live.kept c (lives c mc)).1 (live.kept d (lives d md)).1 ne qc qd)
      (λ c s m q l j item item'. even w sim c s (lives c m) q l j (lane_of l item) (lane_of j item'))
      (λ st5 left.
      let total : length code ≤ p + length vc + length ec = omega (arith, length-append vc ec, whole) in
      subst Good (sym (at_end mine code t (p + length vc + length ec) st5 total))
      (done t st5 w (record {
        reached = sim.reached;
        mirrors = mirrored st st4 st5 voted left sim;
        other_groups = sim.others;
        stand = λ l lane. (
          (sim.stand l lane).0,
          λ c h of q typed is_live.
              let within : c < length kernel.cells = cell_within (slice_get kernel.cells c) refl typed in
              let m = live.listed c within is_live in
              ⊎_elim
              (λ set.
              let mp = put_there region.lines region.live c m set in
              let en = entry c mp in
              let op_type : (cell_at f.cells c).of ≡ of =
              same_Some _ _ (sym (framed.entries c (cell_at f.cells c) en).typed ∙ typed) in
              subst (λ ty. Holds h ty st5.group.columns st5.group.exits (chunk.first + l) ((item_at w l).cells c))
              op_type
              (left.holds c (cell_at f.cells c) h mp en q (λ is_register. ends_kept kernel plan suits e is_end c
              is_live (q ∙ ap Some is_register)) l (item_of l lane)))
              (λ unset.
              subst (λ v. Holds h of st5.group.columns st5.group.exits (chunk.first + l) v)
              (sym (unset_kept kernel launch c region front e spans unset w0 w sim.reached.by (chunk.lanes.first + l)
              (stands l lane).0 (sim.stand l lane).0))
              (carried h of (chunk.first + l) ((item_at w0 l).cells c) st4.group st5.group
              (left.same h (no_other c h q is_live unset))
              (voted.columns ∙ sim.group.columns) (voted.exits ∙ sim.group.exits)
              (λ s once. slots c s (q ∙ ap Some once) is_live unset)
              ((stands l lane).1 c h of q typed (unset_before c region front e spans unset is_live))))
              (true_or_false (sets_in c region.lines)),
        );
        voted = λ l lane. subst (λ (votes : List Test).
            HasVoted region.answer (slice_index_or votes (chunk.first + l) false) (item_at w l).cells)
            (sym left.kept.votes) (voted.voted l lane);
        shape = λ columns slots sh. record {
          column_count = left.kept.column_count ∙ ap (λ (x : List (List ℕ)). length x) (voted.columns ∙
              sim.group.columns) ∙ sh.column_count;
          each_column = λ k lt. left.kept.each_column k ∙
              ap (λ (x : List (List ℕ)). length (slice_index_or x k [])) (voted.columns ∙ sim.group.columns) ∙
              sh.each_column k lt;
          entry_count =
              ap (λ (x : List ℕ). length x) (left.kept.entries ∙ voted.entries ∙ sim.group.entries) ∙ sh.entry_count;
          exit_count =
              left.kept.exit_count ∙ ap (λ (x : List ℕ). length x) (voted.exits ∙ sim.group.exits) ∙ sh.exit_count;
          vote_count = ap (λ (x : List Test). length x) left.kept.votes ∙ voted.count ∙
              ap (λ (x : List Test). length x) sim.group.votes ∙ sh.vote_count;
          each_private = λ n lt.
              let same = left.kept.privates ∙ voted.privates in
              ap (λ (x : List (List (List ℕ))). length (slice_index_or x n [])) same ∙
              sim.rows n (let q = ap (λ (x : List (List (List ℕ))). length x) same in omega arith);
        };
        kept = record {
          entries = left.kept.entries ∙ voted.entries ∙ sim.group.entries;
          columns = λ k i outside. left.kept.elsewhere k i outside ∙
              ap (λ (x : List (List ℕ)). slice_index_or (slice_index_or x k []) i 0) (voted.columns ∙
              sim.group.columns);
          votes = λ i outside. ap (λ (x : List Test). slice_index_or x i false) left.kept.votes ∙
              voted.elsewhere i outside ∙ ap (λ (x : List Test). slice_index_or x i false) sim.group.votes;
        };
        budget = sim.budget;
        slots = λ c s q is_live unset. left.same (home.Once s) (no_other c (home.Once s) q is_live unset)
            ∙ ap (λ (x : List ℕ). slice_index_or x s 0) (voted.exits ∙ sim.group.exits) ∙
            slots c s q is_live unset ∙
            sym (ap (λ (x : List ℕ). slice_index_or x s 0) (left.kept.entries ∙ voted.entries ∙ sim.group.entries));
      }))))
    where
      lives : (c : ℕ) → IsOneOf (put_cells region.lines region.live) c → IsOneOf region.live c
      lives c m = (put_of region.lines region.live c m).0

      -- no cell that is put has the home of a live cell that the region does not set
      no_other : (c : ℕ) (h : Home) → slice_get plan.homes c ≡ Some h → live_behind c e ≡ true →
          sets_in c region.lines ≡ false → (d : ℕ) → IsOneOf (put_cells region.lines region.live) d →
          slice_get plan.homes d ≡ Some h → ⊥
      no_other c h q is_live unset d m qd =
          ends_apart kernel plan suits e is_end c d h is_live (live.kept d (lives d m)).1
          (λ same. true≢false (sym (put_of region.lines region.live d m).1 ∙
          ap (λ k. sets_in k region.lines) (sym same) ∙ unset)) q qd

      -- a home that nothing is put into holds behind the region what it held before it
      carried : (h : Home) (of : IntType) (i : ℕ) (v : ℤ) (g4 g5 : Group) → HomeSame h g4 g5 →
          g4.columns ≡ g0.columns → g4.exits ≡ g0.exits
          → ((s : ℕ) → h ≡ home.Once s → slice_index_or g0.exits s 0 ≡ slice_index_or g0.entries s 0) →
          Holds h of g0.columns g0.entries i v → Holds h of g5.columns g5.exits i v
      carried home.Register of i v g4 g5 same columns exits once x = x
      carried (home.Column k) of i v g4 g5 same columns exits once x =
          ap (λ (xs : List ℕ). slice_index_or xs i 0) (same ∙
          ap (λ (xs : List (List ℕ)). slice_index_or xs k []) columns) ∙ x
      carried (home.Once s) of i v g4 g5 same columns exits once x =
          same ∙ ap (λ (xs : List ℕ). slice_index_or xs s 0) exits ∙ once s refl ∙ x

      cell_within : {c : ℕ} {of : IntType} (o : Option Cell) → slice_get kernel.cells c ≡ o →
          option_map (λ (cell : Cell). cell.of) (slice_get kernel.cells c) ≡ Some of → c < length kernel.cells
      cell_within {c} {of} None at h = absurd (none-some of (sym (ap (option_map (λ (cell : Cell). cell.of)) at) ∙ h))
      cell_within {c} {of} (Some cell) at h = slice_get_within kernel.cells c cell at

      entry : (c : ℕ) → IsOneOf (put_cells region.lines region.live) c →
          slice_index_or f.cells c None ≡ Some (cell_at f.cells c)
      entry c m = let x = framed.named c (sets c (put_of region.lines region.live c m).1)
          (live.kept c (lives c m)).0 in
          x.1 ∙ ap Some (sym (entry_at kernel width f atoms counts r0 framed c x.0 x.1))

      mirrored : (st st4 st5 : State) → Voted w st st4 →
          Left kernel (kernel_chunk kernel launch width chunk.group chunk.first) f atoms counts r0 framed code valid
          Good plan.homes (group_size launch) (λ c l. (item_at w l).cells c) (put_cells region.lines region.live) st4
          st5 → AtStage t (λ l. e) st w → Mirrors kernel launch chunk.group w.memory st5.group st5.buffers
      mirrored st st4 st5 voted left sim =
          let locals = left.kept.locals ∙ voted.locals in
          let privates = left.kept.privates ∙ voted.privates in
          let buffers = left.buffers ∙ voted.buffers in
          let m = sim.mirrors in
          record {
            private_count = ap (λ (x : List (List (List ℕ))). length x) privates ∙ m.private_count;
            local_count = ap (λ (x : List (List ℕ)). length x) locals ∙ m.local_count;
            same_buffers =
                λ b lt. m.same_buffers b lt ∙ sym (ap (λ (x : List (List ℕ)). slice_index_or x b []) buffers);
            buffer_count = ap (λ (x : List (List ℕ)). length x) buffers ∙ m.buffer_count;
            tables = m.tables;
            locals = λ n lt. m.locals n lt ∙ sym (ap (λ (x : List (List ℕ)). slice_index_or x n []) locals);
            privates = λ n i lt lt'. m.privates n i lt lt' ∙
                sym (ap (λ (x : List (List (List ℕ))). slice_index_or (slice_index_or x n []) i []) privates);
          }

      even : (w : Stage Item) → AtStage t (λ l. e) st w → (c s : ℕ) → IsOneOf region.live c →
          slice_get plan.homes c ≡ Some (home.Once s) → (l j : ℕ) → IsLane chunk.lanes l → IsLane chunk.lanes j →
          (item_at w l).cells c ≡ (item_at w j).cells c
      even w sim c s m q l j lane lane' =
          let leads = leads_then (machine_of kernel launch) (item_count launch)
          (start_stage kernel launch ground.buffers) w0 w ground.leads sim.reached.by in
          ends_even kernel plan ground.valid suits.even launch ground.fits ground.buffers ground.fit e is_end w leads
          (chunk.lanes.first + l) (chunk.lanes.first + j) (chunk.lanes.inside l lane.0 lane.1)
          (chunk.lanes.inside j lane'.0 lane'.1)
          (group_is l lane ∙ sym (group_is j lane')) (sim.stand l lane).0 (sim.stand j lane').0 c s q (live.kept c m).1
        where
          group_is : (l : ℕ) → IsLane chunk.lanes l → group_of launch (chunk.lanes.first + l) ≡ chunk.group
          group_is l lane =
              let first = chunk.is_chunk.first_is in
              let n : chunk.lanes.first + l ≡ chunk.group * group_size launch + (chunk.first + l) = omega arith in
              ap (group_of launch) n
              ∙ Rattle.mask_lower_correct.proofs.Objects.group_there launch chunk.group (chunk.first + l)
              (ltb-true (chunk.first + l) (group_size launch) (item_of l lane).1)
