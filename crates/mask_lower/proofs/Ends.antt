-- Where regions end there is a cut, and a kernel that is even is even.
use Rattle.std.proofs.Common.{◌≡◌, ℕ, ◌<◌, List, [], ◌∷◌, Some, slice_get, refl, sym, ap, subst, ◌∙◌}
use Rattle.std.specs.Prelude.{◌||◌}
use Rattle.std.specs.Prelude.{Bool as Test, true, false}
use Rattle.std.proofs.lemmas.Bool.{true≢false, or_left, or_right}
use Rattle.cl_model.specs.Sizes.{Launch, item_count, group_of}
use Rattle.cl_model.specs.Fitting.{FitsProgram, FitBuffers}
use Rattle.kir.specs.declared.line.Atom.{Atom}
use Rattle.kir.specs.Tree.{Lines, NoLine, SetThen, LoadThen, StoreThen, ClearThen, IfThen, LoopThen as LoopLine}
use Rattle.kir.specs.Tree.{BarrierThen, Kernel}
use Rattle.kir.specs.Fits.{lines_fit}
use Rattle.kir.specs.Places.{Behind, IntoTest, IntoBody, ToAnswer, Place, Point, Tasks, NoTask, LinesAt, AnswerAt}
use Rattle.kir.specs.Places.{iteration, begun_in, point_of, lines_at, tasks_at, behind, test_of, body_of}
use Rattle.kir.specs.Places.{at_answer as answer_at}
use Rattle.kir.specs.Steps.{shell_of, Item}
use Rattle.kir.specs.Uniformity.{IsEven}
use Rattle.kir.specs.Live.{live_behind, live_at}
use Rattle.kir.specs.Cuts.{holds_barrier, is_barrier, is_choice, is_round, is_line, is_cut, is_stop}
use Rattle.ctx_plan.specs.declared.plan.Home.TheVariants as home
use Rattle.ctx_plan.specs.Homes.{IsOnce}
use Rattle.ctx_plan.specs.Planned.{Planned}
use Rattle.group_moves.specs.Stages.{Stage}
use Rattle.kir_moves.specs.Placed.{IsPlaced}
use Rattle.kir_moves.specs.Stand.{start_stage, ItemsLead}
use Rattle.kir_moves.specs.Leads.{into_test, into_body}
use Rattle.kir_moves.proofs.Coming.{leads_placed}
use Rattle.kir_moves.proofs.Live.{behind_live, behind_out}
use Rattle.kir_moves.proofs.Known.{runs_even}
use Rattle.regions.specs.Spans.{IsEnd, at_end, at_cut, at_answer, before_loop, behind_loop}
use Rattle.regions.proofs.Cuts.{placed_lines, same_tasks_at, behind_same, StandsThere, nothing_there, lines_there}
use Rattle.regions.proofs.Cuts.{answer_there, stands_there}

-- a line whose test or body holds a barrier is a loop that does
round_of : (lines : Lines) → (holds_barrier (test_of lines) || holds_barrier (body_of lines)) ≡ true →
    is_round lines ≡ true
round_of NoLine e = e
round_of (SetThen to work rest) e = e
round_of (LoadThen site to element root index rest) e = e
round_of (StoreThen site element root index from rest) e = e
round_of (ClearThen array rest) e = e
round_of (IfThen site a chosen other rest) e = e
round_of (LoopLine site first t a body rest) e = e
round_of (BarrierThen site rest) e = e

answer_round : (text : Lines) (at : Place) (x : Tasks) → StandsThere text at x →
    (test : Lines) (answer : Atom) (body : Lines) (n : ℕ) (k : Tasks) →
    AnswerAt at test answer body n k ≡ answer_at n x → (holds_barrier test || holds_barrier body) ≡ true →
    is_round (lines_at text at) ≡ true
answer_round text at _ nothing_there test answer body n k e h = absurd (cc)
answer_round text at _ (answer_there f) test answer body n k e h = absurd (cc)
answer_round text at _ lines_there test answer body n k e h =
    let e1 : test ≡ test_of (lines_at text at) = cc in
    let e2 : body ≡ body_of (lines_at text at) = cc in
    round_of (lines_at text at) (sym (ap (λ x. holds_barrier x || holds_barrier body) e1 ∙
    ap (λ x. holds_barrier (test_of (lines_at text at)) || holds_barrier x) e2) ∙ h)

-- what an item has left behind a loop at a place are the lines behind it
answer_behind : (text : Lines) (at : Place) (x : Tasks) → StandsThere text at x →
    (test : Lines) (answer : Atom) (body : Lines) (n : ℕ) (k : Tasks) → AnswerAt at test answer body n k ≡ answer_at n x
    → (rest : Lines) × ((k' : Tasks) × (k ≡ LinesAt (Behind ∷ at) rest k'))
answer_behind text at _ nothing_there test answer body n k e = absurd (cc)
answer_behind text at _ (answer_there f) test answer body n k e = absurd (cc)
answer_behind text at _ (lines_there {k = k'}) test answer body n k e = (behind (lines_at text at), (k', cc))

-- a cut at which all cells are live that are live where a region ends
pub record CutFor (kernel : Kernel) (e : Tasks) : Type 0 where
  pub at : Place
  pub cut : is_cut kernel.body at ≡ true
  pub live : (c : ℕ) → live_behind c e ≡ true → live_at kernel.body at c ≡ true

module _ (kernel : Kernel) where
  -- what is live at a point is live at its place
  live_there : (c : ℕ) (e : Tasks) (point : Point) → e ≡ tasks_at kernel.body point.at point.begun →
      live_behind c e ≡ true → live_at kernel.body point.at c ≡ true
  live_there c e point placed live =
      sym (behind_same c (tasks_at kernel.body point.at []) (tasks_at kernel.body point.at point.begun)
      (same_tasks_at kernel.body point.at [] point.begun)) ∙ ap (live_behind c) (sym placed) ∙ live

  cut_at : (e : Tasks) (point : Point) → e ≡ tasks_at kernel.body point.at point.begun →
      is_cut kernel.body point.at ≡ true → CutFor kernel e
  cut_at e point placed cut = record { at = point.at; cut = cut; live = λ c live. live_there c e point placed live }

  -- the place before the answer of a loop that holds a barrier
  answer_cut : (at : Place) (test : Lines) (answer : Atom) (body : Lines) (n : ℕ) (k : Tasks) →
      IsPlaced kernel.body (AnswerAt at test answer body n k) → (holds_barrier test || holds_barrier body) ≡ true →
      is_cut kernel.body (ToAnswer ∷ at) ≡ true
  answer_cut at test answer body n k h holds =
      or_right (is_barrier (lines_at kernel.body (ToAnswer ∷ at))) _
      (or_right (is_choice (lines_at kernel.body (ToAnswer ∷ at))) _
      (answer_round kernel.body at (tasks_at kernel.body at (begun_in k))
      (stands_there kernel.body at (begun_in k)) test answer body n k h.0 holds))

  loop_round : (at : Place) (site : ℕ) (first : Test) (test : Lines) (answer : Atom) (body rest : Lines) (k : Tasks) →
      IsPlaced kernel.body (LinesAt at (LoopLine site first test answer body rest) k) →
      (holds_barrier test || holds_barrier body) ≡ true → is_round (lines_at kernel.body at) ≡ true
  loop_round at site first test answer body rest k h holds =
      ap is_round (placed_lines kernel.body at (begun_in k) (LoopLine site first test answer body rest) k h.0) ∙ holds

  pub ends_cut : (e : Tasks) → IsEnd kernel e → (c : ℕ) → live_behind c e ≡ true → CutFor kernel e
  ends_cut _ at_end c live = absurd (true≢false (sym live))
  ends_cut _ (at_cut {at = at} {lines = lines} {k = k} h cut) c live =
      cut_at (LinesAt at lines k) (record { at = at; begun = begun_in k }) h.0 cut
  ends_cut _ (at_answer {at = at} {test = test} {answer = answer} {body = body} {n = n} {k = k} h holds) c live =
      cut_at (AnswerAt at test answer body n k) (record { at = ToAnswer ∷ at; begun = n ∷ begun_in k }) h.0
      (answer_cut at test answer body n k h holds)
  ends_cut _ (before_loop {at = at} {site = site} {first = true} {test = test} {answer = answer} {body = body}
      {rest = rest} {k = k} h holds) c live =
      let e = LinesAt at (LoopLine site true test answer body rest) k in
      let e' = LinesAt (IntoTest ∷ at) test (AnswerAt at test answer body 0 (LinesAt (Behind ∷ at) rest k)) in
      let placed = leads_placed kernel.body e e' into_test h in
      let there = cut_at e' (record {
        at = IntoTest ∷ at;
        begun = begun_in (AnswerAt at test answer body 0 (LinesAt (Behind ∷ at) rest k));
      }) placed.0
      (or_right (is_barrier (lines_at kernel.body (IntoTest ∷ at))) _
      (or_right (is_choice (lines_at kernel.body (IntoTest ∷ at))) _
      (loop_round at site true test answer body rest k h holds))) in
      record { at = there.at; cut = there.cut; live = λ d live. there.live d live }
  ends_cut _ (before_loop {at = at} {site = site} {first = false} {test = test} {answer = answer} {body = body}
      {rest = rest} {k = k} h holds) c live =
      let e = LinesAt at (LoopLine site false test answer body rest) k in
      let e' = iteration at test answer body 1 (LinesAt (Behind ∷ at) rest k) in
      let placed = leads_placed kernel.body e e' into_body h in
      let there = cut_at e' (record { at = IntoBody ∷ at; begun = begun_in e' }) placed.0
      (or_right (is_barrier (lines_at kernel.body (IntoBody ∷ at))) _
      (or_right (is_choice (lines_at kernel.body (IntoBody ∷ at))) _
      (loop_round at site false test answer body rest k h holds))) in
      record { at = there.at; cut = there.cut; live = λ d live. there.live d live }
  ends_cut _ (behind_loop {at = at} {test = test} {answer = answer} {body = body} {n = n} {k = k} h holds) c live =
      let there = cut_at (AnswerAt at test answer body n k) (record { at = ToAnswer ∷ at; begun = n ∷ begun_in k })
      h.0 (answer_cut at test answer body n k h holds) in
      record {
        at = there.at;
        cut = there.cut;
        live = λ d live. there.live d (behind_out d at test answer body n k (behind_live d k live));
      }

module _ (kernel : Kernel) (plan : Planned) (valid : lines_fit kernel kernel.body ≡ true)
    (even : IsEven kernel (IsOnce plan.homes)) (launch : Launch) (fits : FitsProgram (shell_of kernel) launch)
    (buffers : List (List ℕ)) (fit : FitBuffers launch buffers) where
  -- items of one group that stand there are even in the cells kept once that are live there
  abbrev pub EvenThere : Tasks → Type 0
  EvenThere e =
      (v : Stage Item) → ItemsLead kernel launch (start_stage kernel launch buffers) v → (one other : ℕ) →
      one < item_count launch → other < item_count launch → group_of launch one ≡ group_of launch other
      → (v.items one).tasks ≡ e → (v.items other).tasks ≡ e → (c s : ℕ) →
      slice_get plan.homes c ≡ Some (home.Once s) → live_behind c e ≡ true →
      (v.items one).cells c ≡ (v.items other).cells c

  at_stop : (e : Tasks) (point : Point) → point_of e ≡ Some point → e ≡ tasks_at kernel.body point.at point.begun →
      is_stop kernel.body point.at ≡ true → EvenThere e
  at_stop e point is placed stop v lead one other lt lt' same ei ej c s once live =
      runs_even kernel launch fits buffers valid fit (IsOnce plan.homes) even v v lead lead one other lt lt' same
      point (ap point_of ei ∙ is) (ap point_of ej ∙ is) stop c (record { slot = s; home = once })
      (live_there kernel c e point placed live)

  lines_even : (at : Place) (lines : Lines) (k : Tasks) → IsPlaced kernel.body (LinesAt at lines k) →
      is_stop kernel.body at ≡ true → EvenThere (LinesAt at lines k)
  lines_even at lines k h stop = at_stop (LinesAt at lines k) (record { at = at; begun = begun_in k }) refl h.0 stop

  line_even : (at : Place) (lines : Lines) (k : Tasks) → IsPlaced kernel.body (LinesAt at lines k) →
      is_line lines ≡ true → EvenThere (LinesAt at lines k)
  line_even at lines k h line =
      lines_even at lines k h (or_left _ _ (ap is_line (placed_lines kernel.body at (begun_in k) lines k h.0) ∙ line))

  none_even : EvenThere NoTask
  none_even v lead one other lt lt' same ei ej c s once live = absurd (true≢false (sym live))

  pub ends_even : (e : Tasks) → IsEnd kernel e → EvenThere e
  ends_even _ at_end = none_even
  ends_even _ (at_cut {at = at} {lines = lines} {k = k} h cut) =
      lines_even at lines k h (or_right _ _ (or_left _ _ cut))
  ends_even _ (at_answer {at = at} {test = test} {answer = answer} {body = body} {n = n} {k = k} h holds) =
      at_stop (AnswerAt at test answer body n k) (record { at = ToAnswer ∷ at; begun = n ∷ begun_in k }) refl h.0
      (or_right (is_line (lines_at kernel.body (ToAnswer ∷ at))) _
      (or_left (is_cut kernel.body (ToAnswer ∷ at)) (Rattle.kir.specs.Cuts.is_behind_round kernel.body
      (ToAnswer ∷ at)) (answer_cut kernel at test answer body n k h holds)))
  ends_even _ (before_loop {at = at} {site = site} {first = first} {test = test} {answer = answer} {body = body}
      {rest = rest} {k = k} h holds) = line_even at (LoopLine site first test answer body rest) k h refl
  ends_even _ (behind_loop {at = at} {test = test} {answer = answer} {body = body} {n = n} {k = k} h holds) =
      go (answer_behind kernel.body at (tasks_at kernel.body at (begun_in k))
      (stands_there kernel.body at (begun_in k)) test answer body n k h.0)
    where
      go : (rest : Lines) × ((k' : Tasks) × (k ≡ LinesAt (Behind ∷ at) rest k')) → EvenThere k
      go (rest, (k', e)) =
          subst (λ x. EvenThere x) (sym e)
          (lines_even (Behind ∷ at) rest k' (subst (λ x. IsPlaced kernel.body x) e h.1)
          (or_right _ _ (or_right _ _ (answer_round kernel.body at (tasks_at kernel.body at (begun_in k))
          (stands_there kernel.body at (begun_in k)) test answer body n k h.0 holds))))
