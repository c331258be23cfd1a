-- What the items of a group do together by one part of its program: where they stand, what an end says of them, and
-- that a region on all chunks, one step of all items and a release of all keep it.
use Rattle.std.proofs.Common.{◌≡◌, ℕ, ◌+◌, ◌*◌, ◌<◌, ◌≤◌, List, ◌∷◌, length, Option, Some, refl, sym, ap, ◌∙◌, subst}
use Rattle.std.proofs.Common.{arith}
use Rattle.std.specs.Prelude.{slice_index_or, not}
use Rattle.std.specs.Prelude.{Bool as Test, true, false}
use Rattle.std.proofs.lemmas.Bool.{true≢false}
use Rattle.wg_num.specs.declared.types.Width.{Width}
use Rattle.wg_num.specs.Operators.{lanes_of}
use Rattle.work_items.specs.Items.{IsWaiting, after_wait}
use Rattle.cl_model.specs.Values.{is_zero}
use Rattle.cl_model.specs.Sizes.{Launch, group_count, group_size, group_of, item_count}
use Rattle.cl_model.specs.Fitting.{FitsProgram, FitBuffers}
use Rattle.kir.specs.declared.line.Atom.{Atom}
use Rattle.kir.specs.Tree.{Lines, BarrierThen, Kernel}
use Rattle.kir.specs.Places.{Behind, Place, Point, Tasks, LinesAt, begun_in, point_of}
use Rattle.kir.specs.Steps.{shell_of, Item, with_tasks, atom_value, tasks_next}
use Rattle.kir.specs.Meaning.{machine_of, ItemCanCome}
use Rattle.kir.specs.Live.{live_behind}
use Rattle.kir.specs.Counts.{barrier_lines}
use Rattle.ctx_plan.specs.Planned.{Planned}
use Rattle.lane_code.specs.declared.end.RunEnd.{RunEnd}
use Rattle.lane_code.specs.declared.end.RunEnd.TheVariants as run
use Rattle.lane_code.specs.Groups.{Group}
use Rattle.lane_code.specs.Program.{PlainCode, Plain}
use Rattle.lane_code.specs.Run.{GroupEnded, after_done, then_next, chunk_count, items_end, Mixed, Doing}
use Rattle.group_moves.specs.Stages.{Stage}
use Rattle.group_moves.specs.Lanes.{Does}
use Rattle.group_moves.specs.Teams.{Team, PartedAt, let_go}
use Rattle.group_moves.proofs.Runs.{leads_none, leads_then}
use Rattle.group_moves.proofs.Teams.{team_move, team_released}
use Rattle.kir_moves.specs.Placed.{IsPlaced}
use Rattle.kir_moves.specs.Stand.{start_stage, ItemsLead}
use Rattle.kir_moves.proofs.Own.{items_stand, launch_team}
use Rattle.regions.specs.Tree.{RegionOf}
use Rattle.regions.specs.Spans.{Spans, IsEnd}
use Rattle.regions.specs.TreeRun.{Differ, OneWaits}
use Rattle.mask_lower.specs.Layout.{HasSizes, HasShape, Mirrors, OtherGroupsStay}
use Rattle.mask_lower.specs.Standing.{AtHome, HasLive, HasVoted}
use Rattle.mask_lower.specs.Following.{vote_before, ReadsVote, Follows}
use Rattle.item_loops.specs.Program.{HasPartsOf}
use Rattle.item_loops.specs.Regions.{item_at, OthersWait, RegionFaults, RegionWaits, RegionTires, RegionSays, EvenAt}
use Rattle.item_loops.proofs.Chunks.{stay_then, region_says}
use Rattle.item_loops.proofs.Votes.{VotesSay}

module _ (kernel : Kernel) (plan : Planned) (width : Width) (p : Plain) (parts : HasPartsOf kernel plan width p)
    (launch : Launch) (fits : FitsProgram (shell_of kernel) launch) (sizes : HasSizes launch)
    (buffers0 : List (List ℕ)) (fit : FitBuffers launch buffers0)
    (group : ℕ) (within : group < group_count launch) (wide : 0 < lanes_of width) (some : 0 < group_size launch)
    (each : (m : ℕ) → m < chunk_count p launch → m * lanes_of width < group_size launch)
    (all : group_size launch ≤ chunk_count p launch * lanes_of width)
    (even : (e : Tasks) → IsEnd kernel e → EvenAt kernel plan launch buffers0 group e) where
  abbrev size : ℕ
  size = group_size launch

  abbrev at_item : ℕ → ℕ
  at_item i = item_at launch group i

  abbrev Start : Stage Item
  Start = start_stage kernel launch buffers0

  abbrev Lead : Stage Item → Stage Item → Type 0
  Lead = ItemsLead kernel launch

  abbrev Does' : RegionOf → PlainCode → Type 0
  Does' = Follows kernel plan width

  abbrev team : Team (machine_of kernel launch) (item_count launch)
  team = launch_team kernel launch some group within

  pub lead_on : (u v w : Stage Item) → Lead u v → Lead v w → Lead u w
  lead_on u v w a b = leads_then (machine_of kernel launch) (item_count launch) u v w a b

  -- the items stand there, with the values of live cells at their homes
  pub record Stands (k : Tasks) (v : Stage Item) (g : Group) (b : List (List ℕ)) : Type 0 where
    pub lead : Lead Start v
    pub mirrors : Mirrors kernel launch group v.memory g b
    pub shape : HasShape plan.columns plan.slots size g
    pub stand : (i : ℕ) → i < size → ((v.items (at_item i)).tasks ≡ k) × AtHome kernel plan.homes g.columns g.entries i
        k (v.items (at_item i)).cells

  abbrev pub Voted : Option Atom → Stage Item → Group → Type 0
  Voted answer v g = (i : ℕ) → i < size → HasVoted answer (slice_index_or g.votes i false) (v.items (at_item i)).cells

  pub record From (w : Stage Item) (turns : ℕ) (v : Stage Item) (left : ℕ) : Type 0 where
    pub by : Lead w v
    pub others : OthersWait launch group w v
    pub other_groups : OtherGroupsStay kernel launch group w.memory v.memory
    pub budget : w.begun + turns ≤ v.begun + left

  pub from_then : (u v w : Stage Item) (a b c : ℕ) → From u a v b → From v b w c → From u a w c
  from_then u v w a b c f h = record {
    by = lead_on u v w f.by h.by;
    others = λ i out. h.others i out ∙ f.others i out;
    other_groups = stay_then kernel launch group u.memory v.memory w.memory f.other_groups h.other_groups;
    budget = let x = f.budget in let y = h.budget in omega arith;
  }

  pub from_here : (u : Stage Item) (t : ℕ) → From u t u t
  from_here u t = record {
    by = leads_none (machine_of kernel launch) (item_count launch) u;
    others = λ i out. refl;
    other_groups = record { locals = λ other n there ne lt. refl; privates = λ item n ne lt. refl };
    budget = omega arith;
  }

  pub record GroupParted (w : Stage Item) (number item site : ℕ) (v : Stage Item) : Type 0 where
    pub by : Lead w v
    pub of_group : number ≡ group
    pub in_group : group_of launch item ≡ group
    pub parted : PartedAt (machine_of kernel launch) (item_count launch) (ItemCanCome kernel launch) v item site

  -- what an end says, where the items are to come to k and to have voted
  abbrev pub SaysAt : Option Atom → Tasks → Stage Item → ℕ → RunEnd → ℕ → Group → List (List ℕ) → Type 0
  SaysAt ends k w turns run.Done left g b = (v : Stage Item) × From w turns v left × Stands k v g b × Voted ends v g
  SaysAt ends k w turns (run.Range number item site) left g b =
      (v : Stage Item) × RegionFaults kernel launch group w number item site v
  SaysAt ends k w turns (run.Parted number item site) left g b = (v : Stage Item) × GroupParted w number item site v
  SaysAt ends k w turns run.Turns left g b = (v : Stage Item) × RegionTires kernel launch group w turns v

  abbrev pub Says : Option Atom → Tasks → Stage Item → ℕ → GroupEnded → Type 0
  Says ends k w turns x = SaysAt ends k w turns x.end x.turns x.group x.buffers

  pub onward : (ends : Option Atom) (k : Tasks) (u v : Stage Item) (turns t : ℕ) (how : RunEnd) (left : ℕ) (g : Group)
      (b : List (List ℕ)) → From u turns v t → SaysAt ends k v t how left g b → SaysAt ends k u turns how left g b
  onward ends k u v turns t run.Done left g b f s = (s.0, from_then u v s.0 turns t left f s.1, s.2, s.3)
  onward ends k u v turns t (run.Range number item site) left g b f s = (
    s.0,
    record {
      lead = lead_on u v s.0 f.by s.1.lead;
      others = λ i out. s.1.others i out ∙ f.others i out;
      of_group = s.1.of_group;
      place = s.1.place;
      within = s.1.within;
      is = s.1.is;
      fault = s.1.fault;
    },
  )
  onward ends k u v turns t (run.Parted number item site) left g b f s = (
    s.0,
    record {
      by = lead_on u v s.0 f.by s.1.by;
      of_group = s.1.of_group;
      in_group = s.1.in_group;
      parted = s.1.parted;
    },
  )
  onward ends k u v turns t run.Turns left g b f s = (
    s.0,
    record {
      lead = lead_on u v s.0 f.by s.1.lead;
      others = λ i out. s.1.others i out ∙ f.others i out;
      more = let x = f.budget in let y = s.1.more in omega arith;
    },
  )

  -- what follows an end that is done
  pub then_from : (ends1 ends2 : Option Atom) (k1 k2 : Tasks) (w : Stage Item) (turns : ℕ) (x : GroupEnded)
      (next : Doing) → Says ends1 k1 w turns x → ((v : Stage Item) (t : ℕ) (g : Group) (b : List (List ℕ)) →
      From w turns v t → Stands k1 v g b →
      Voted ends1 v g → Says ends2 k2 v t (next t g b)) → Says ends2 k2 w turns (then_next x next)
  then_from ends1 ends2 k1 k2 w turns x next says go = by_end x.end refl says
    where
      by_end : (how : RunEnd) → x.end ≡ how → SaysAt ends1 k1 w turns how x.turns x.group x.buffers →
          Says ends2 k2 w turns (after_done how x next)
      by_end run.Done is s = let y = next x.turns x.group x.buffers in
          onward ends2 k2 w s.0 turns x.turns y.end y.turns y.group y.buffers s.1
          (go s.0 x.turns x.group x.buffers s.1 s.2 s.3)
      by_end (run.Range number item site) is s =
          subst (λ h. SaysAt ends2 k2 w turns h x.turns x.group x.buffers) (sym is) s
      by_end (run.Parted number item site) is s =
          subst (λ h. SaysAt ends2 k2 w turns h x.turns x.group x.buffers) (sym is) s
      by_end run.Turns is s = subst (λ h. SaysAt ends2 k2 w turns h x.turns x.group x.buffers) (sym is) s

  -- a code on all chunks
  pub region_at : (region : RegionOf) (code : PlainCode) (f e : Tasks) → Spans region f e → IsEnd kernel e →
      HasLive kernel region.live e → ReadsVote region.answer e → Does' region code →
      (w : Stage Item) (turns : ℕ) (g : Group) (b : List (List ℕ)) → Stands f w g b → Voted (vote_before f) w g
      → ((number item site : ℕ) (v : Stage Item) →
      RegionWaits kernel launch group region.lines e w number item site v → (x : Stage Item) ×
      GroupParted w number item site x) → Says region.answer e w turns (items_end p launch group code turns g b)
  region_at region code f e spans is_end live reads_vote does w turns g b s voted waits =
      by_end (items_end p launch group code turns g b).turns (items_end p launch group code turns g b).group
      (items_end p launch group code turns g b).buffers (items_end p launch group code turns g b).end
      (region_says kernel plan width p parts launch fits sizes buffers0 fit group within wide region code f e
      spans is_end live reads_vote does (even e is_end) w turns g b
      (record { lead = s.lead; mirrors = s.mirrors; shape = s.shape; stand = s.stand; voted = voted }) each all)
    where
      by_end : (left : ℕ) (g' : Group) (b' : List (List ℕ)) (how : RunEnd) →
          RegionSays kernel plan launch group region e w turns how left g' b' →
          SaysAt region.answer e w turns how left g' b'
      by_end left g' b' run.Done r = (
        r.0,
        record { by = r.1.lead; others = r.1.others; other_groups = r.1.other_groups; budget = r.1.budget },
        record {
          lead = lead_on Start w r.0 s.lead r.1.lead;
          mirrors = r.1.mirrors;
          shape = r.1.shape;
          stand = r.1.stand;
        },
        r.1.voted,
      )
      by_end left g' b' (run.Range number item site) r = r
      by_end left g' b' (run.Parted number item site) r = waits number item site r.0 r.1
      by_end left g' b' run.Turns r = r

  -- no item waits in a region without a barrier
  pub no_wait_in : (lines : Lines) (e : Tasks) (w : Stage Item) → ((site : ℕ) → barrier_lines site lines ≡ 0) →
      (number item site : ℕ) (v : Stage Item) → RegionWaits kernel launch group lines e w number item site v →
      (x : Stage Item) × GroupParted w number item site x
  no_wait_in lines e w quiet number item site v r = absurd (let q = quiet site in let n = r.of_region in omega arith)

  -- where they stand, what is left to do is of the text
  pub placed_of : (k : Tasks) (v : Stage Item) (g : Group) (b : List (List ℕ)) → Stands k v g b → IsPlaced kernel.body k
  placed_of k v g b s = subst (λ x. IsPlaced kernel.body x) (s.stand 0 some).0
      (items_stand kernel launch buffers0 v s.lead (at_item 0)).placed

  -- all items take one step to k', by which their cells stay
  pub step_all : (k k' : Tasks) (u : Stage Item) (g : Group) (b : List (List ℕ)) (t : ℕ) (starts : Test) →
      Stands k u g b → ((i : ℕ) → i < size →
      Does (machine_of kernel launch) u.memory (u.items (at_item i)) (λ s. s ≡ with_tasks (u.items (at_item i)) k')
      u.memory starts)
      → ((c : ℕ) → live_behind c k' ≡ true → live_behind c k ≡ true) → (x : Stage Item) × From u t x t ×
      Stands k' x g b × (starts ≡ true → u.begun < x.begun) ×
      ((i : ℕ) → i < size → (x.items (at_item i)).cells ≡ (u.items (at_item i)).cells)
  step_all k k' u g b t starts s does live =
      let m = team_move (machine_of kernel launch) (item_count launch) team u
      (λ i x. x ≡ with_tasks (u.items (at_item i)) k') starts does in
      let x = m.0 in (
        x,
        record {
          by = m.1.by;
          others = m.1.others;
          other_groups = subst (λ mem. OtherGroupsStay kernel launch group u.memory mem) (sym m.1.memory_is)
              (from_here u t).other_groups;
          budget = let more = m.1.more in omega arith;
        },
        record {
          lead = lead_on Start u x s.lead m.1.by;
          mirrors = subst (λ mem. Mirrors kernel launch group mem g b) (sym m.1.memory_is) s.mirrors;
          shape = s.shape;
          stand = λ i lt. (
            ap (λ (y : Item). y.tasks) (m.1.each i lt),
            λ c h of is typed l. subst (λ (y : Item). Rattle.mask_lower.specs.Standing.Holds h of g.columns
                g.entries i (y.cells c)) (sym (m.1.each i lt)) ((s.stand i lt).1 c h of is typed (live c l)),
          );
        },
        m.1.strict,
        λ i lt. ap (λ (y : Item). y.cells) (m.1.each i lt),
      )

  -- all items are released
  pub release_all : (a : Place) (site : ℕ) (rest : Lines) (k : Tasks) (u : Stage Item) (g : Group) (b : List (List ℕ))
      (t : ℕ) → Stands (LinesAt a (BarrierThen site rest) k) u g b → (x : Stage Item) × From u t x t ×
      Stands (LinesAt (Behind ∷ a) rest k) x g b
  release_all a site rest k u g b t s =
      let point : Option Point = Some (record { at = a; begun = begun_in k }) in
      let m = team_released (machine_of kernel launch) (item_count launch) team u point
      (λ i lt. (
        subst (λ x. IsWaiting (tasks_next kernel launch (u.items (at_item i)) x)) (sym (s.stand i lt).0) tt,
        ap point_of (s.stand i lt).0,
      )) in
      let x = let_go (machine_of kernel launch) group u in
      let is = λ (i : ℕ) (lt : i < size). m.each i lt
      ∙ ap (λ y. after_wait (u.items (at_item i)) (tasks_next kernel launch (u.items (at_item i)) y))
      (s.stand i lt).0 in (
        x,
        record {
          by = m.by;
          others = m.others;
          other_groups = record {
            locals = λ other n there ne lt. refl;
            privates = λ item n ne lt. refl;
          };
          budget = omega arith;
        },
        record {
          lead = lead_on Start u x s.lead m.by;
          mirrors = s.mirrors;
          shape = s.shape;
          stand = λ i lt. (
            ap (λ (y : Item). y.tasks) (is i lt),
            λ c h of at' typed l. subst (λ (y : Item). Rattle.mask_lower.specs.Standing.Holds h of g.columns
                g.entries i (y.cells c)) (sym (is i lt)) ((s.stand i lt).1 c h of at' typed l),
          );
        },
      )

  -- a fact of the answers
  pub not_true : (z v : Test) → v ≡ not z → v ≡ true → z ≡ false
  not_true true v e f = absurd (true≢false (sym f ∙ e))
  not_true false v e f = refl

  pub not_false : (z v : Test) → v ≡ not z → v ≡ false → z ≡ true
  not_false true v e f = refl
  not_false false v e f = absurd (true≢false (sym e ∙ f))

  pub differ_of : (a : Atom) (u : Stage Item) (g : Group) → Voted (Some a) u g → length g.votes ≡ size →
      VotesSay g.votes Mixed → Differ kernel launch team u a
  differ_of a u g voted count say =
      let one_in : say.0.0 < size = let l = say.0.1 in omega arith in
      let other_in : say.1.0 < size = let l = say.1.1 in omega arith in
      record {
        one = say.0.0;
        one_within = one_in;
        one_answers = not_true (is_zero (atom_value (u.items (at_item say.0.0)).cells a)) _ (voted say.0.0 one_in)
            say.0.2;
        other = say.1.0;
        other_within = other_in;
        other_answers = not_false (is_zero (atom_value (u.items (at_item say.1.0)).cells a)) _ (voted say.1.0 other_in)
            say.1.2;
      }

  pub waits_as : (lines : Lines) (e : Tasks) (u : Stage Item) (number item site : ℕ) (v : Stage Item) →
      RegionWaits kernel launch group lines e u number item site v → OneWaits kernel launch team e u item site v
  waits_as lines e u number item site v r =
      record {
        by = r.lead;
        others = r.others;
        number = r.place;
        within = r.within;
        is = r.is;
        waits = r.waits;
        still = r.still;
      }

  pub as_parted : (e : Tasks) (lines : Lines) (u : Stage Item) (number item site : ℕ) (v : Stage Item) →
      RegionWaits kernel launch group lines e u number item site v → (x : Stage Item) × Lead u x
      × PartedAt (machine_of kernel launch) (item_count launch) (ItemCanCome kernel launch) x item site →
      (x : Stage Item) × GroupParted u number item site x
  as_parted e lines u number item site v r q = (
    q.0,
    record {
      by = q.1;
      of_group = r.of_group;
      in_group = ap (group_of launch) r.is ∙ team.mine r.place r.within;
      parted = q.2;
    },
  )
