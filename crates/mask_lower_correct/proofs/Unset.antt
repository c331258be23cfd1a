-- A cell that the lines of a region do not set has the same value behind the region as before it.
use Rattle.std.proofs.Common.{◌≡◌, ℕ, suc, ℤ, ◌∷◌, refl, sym, ap, ◌∙◌, subst, ◌⊎◌, inl, inr, ⊎_elim, cond}
use Rattle.std.specs.Prelude.{◌||◌, nat_eq}
use Rattle.std.specs.Prelude.{Bool as Test, true, false}
use Rattle.work_items.specs.Coming.{MayLead}
use Rattle.work_items.specs.Items.{Goes, Begins}
use Rattle.wg_num.specs.Bytes.{value_of_bytes}
use Rattle.cl_model.specs.Values.{is_zero}
use Rattle.cl_model.specs.Sizes.{Launch, item_count}
use Rattle.kir.specs.declared.line.Atom.{Atom}
use Rattle.kir.specs.Tree.{Lines, NoLine, SetThen, LoadThen, StoreThen, ClearThen, IfThen, LoopThen, BarrierThen}
use Rattle.kir.specs.Tree.{Kernel, joined_to}
use Rattle.kir.specs.Places.{Behind, IntoChosen, IntoOther, IntoTest, IntoBody, Place, Tasks, NoTask, LinesAt, AnswerAt}
use Rattle.kir.specs.Places.{iteration}
use Rattle.kir.specs.Live.{tasks_set}
use Rattle.kir.specs.Steps.{Item, with_tasks, work_value, atom_value, tasks_next, item_next}
use Rattle.kir.specs.Meaning.{machine_of, GoesOn}
use Rattle.group_moves.specs.Stages.{Stage}
use Rattle.group_moves.proofs.Histories.{leads_keep}
use Rattle.kir_moves.specs.Leads.{Leads, past_end, past_set, past_load, past_store, past_clear, past_barrier}
use Rattle.kir_moves.specs.Leads.{into_chosen, into_other, into_test, into_body, past_loop, to_body, ComesTo, there}
use Rattle.kir_moves.specs.Leads.{by_leg}
use Rattle.kir_moves.specs.Stand.{ItemsLead}
use Rattle.kir_moves.proofs.Coming.{never_back, come_trans}
use Rattle.kir_moves.proofs.Own.{own_leads, any_goes_on}
use Rattle.regions.specs.Tree.{RegionOf}
use Rattle.regions.specs.Spans.{Spans, piece, whole, from_answer, past_lines}
use Rattle.kir_uniform.specs.Uniform.{sets_in}
use Rattle.kir_uniform.proofs.Living.{neither, turned}

-- ---- tasks from which an item comes to e without setting the cell

-- lines before which the item stands, where `over` says it of what is left behind them
abbrev Until : (c : ℕ) (e : Tasks) → Place → Lines → Tasks → (over : Type 0) → Type 0
Until c e at NoLine t over = (LinesAt at NoLine t ≡ e) ⊎ over
Until c e at (SetThen to work rest) t over =
    (LinesAt at (SetThen to work rest) t ≡ e) ⊎ ((nat_eq to c ≡ false) × Until c e (Behind ∷ at) rest t over)
Until c e at (LoadThen site to element root index rest) t over =
    (LinesAt at (LoadThen site to element root index rest) t ≡ e) ⊎
    ((nat_eq to c ≡ false) × Until c e (Behind ∷ at) rest t over)
Until c e at (StoreThen site element root index from rest) t over =
    (LinesAt at (StoreThen site element root index from rest) t ≡ e) ⊎ Until c e (Behind ∷ at) rest t over
Until c e at (ClearThen array rest) t over =
    (LinesAt at (ClearThen array rest) t ≡ e) ⊎ Until c e (Behind ∷ at) rest t over
Until c e at (IfThen site test chosen other rest) t over =
    (LinesAt at (IfThen site test chosen other rest) t ≡ e) ⊎
    (((sets_in c chosen || sets_in c other) ≡ false) × Until c e (Behind ∷ at) rest t over)
Until c e at (LoopThen site first test answer body rest) t over =
    (LinesAt at (LoopThen site first test answer body rest) t ≡ e) ⊎
    (((sets_in c test || sets_in c body) ≡ false) × Until c e (Behind ∷ at) rest t over)
Until c e at (BarrierThen site rest) t over =
    (LinesAt at (BarrierThen site rest) t ≡ e) ⊎ Until c e (Behind ∷ at) rest t over

abbrev Unset : (c : ℕ) (e : Tasks) → Tasks → Type 0
Unset c e NoTask = NoTask ≡ e
Unset c e (LinesAt at lines t) = Until c e at lines t (Unset c e t)
Unset c e (AnswerAt at test answer body n t) =
    (AnswerAt at test answer body n t ≡ e) ⊎ (((sets_in c test || sets_in c body) ≡ false) × Unset c e t)

-- it stands at e
at_once : (c : ℕ) (e : Tasks) (at : Place) (lines : Lines) (t : Tasks) (over : Type 0) → LinesAt at lines t ≡ e →
    Until c e at lines t over
at_once c e at NoLine t over h = inl h
at_once c e at (SetThen to work rest) t over h = inl h
at_once c e at (LoadThen site to element root index rest) t over h = inl h
at_once c e at (StoreThen site element root index from rest) t over h = inl h
at_once c e at (ClearThen array rest) t over h = inl h
at_once c e at (IfThen site test chosen other rest) t over h = inl h
at_once c e at (LoopThen site first test answer body rest) t over h = inl h
at_once c e at (BarrierThen site rest) t over h = inl h

unset_here : (c : ℕ) (e : Tasks) → Unset c e e
unset_here c NoTask = refl
unset_here c (LinesAt at lines t) = at_once c (LinesAt at lines t) at lines t (Unset c (LinesAt at lines t) t) refl
unset_here c (AnswerAt at test answer body n t) = inl refl

-- lines that do not set it, all of them
through : (c : ℕ) (e : Tasks) (at : Place) (lines : Lines) (t : Tasks) (over : Type 0) → sets_in c lines ≡ false →
    over → Until c e at lines t over
through c e at NoLine t over u h = inr h
through c e at (SetThen to work rest) t over u h =
    let p = neither (nat_eq to c) (sets_in c rest) u in inr (p.0, through c e (Behind ∷ at) rest t over p.1 h)
through c e at (LoadThen site to element root index rest) t over u h =
    let p = neither (nat_eq to c) (sets_in c rest) u in inr (p.0, through c e (Behind ∷ at) rest t over p.1 h)
through c e at (StoreThen site element root index from rest) t over u h =
    inr (through c e (Behind ∷ at) rest t over u h)
through c e at (ClearThen array rest) t over u h = inr (through c e (Behind ∷ at) rest t over u h)
through c e at (IfThen site test chosen other rest) t over u h =
    let p = neither (sets_in c chosen || sets_in c other) (sets_in c rest) u in
    inr (p.0, through c e (Behind ∷ at) rest t over p.1 h)
through c e at (LoopThen site first test answer body rest) t over u h =
    let p = neither (sets_in c test || sets_in c body) (sets_in c rest) u in
    inr (p.0, through c e (Behind ∷ at) rest t over p.1 h)
through c e at (BarrierThen site rest) t over u h = inr (through c e (Behind ∷ at) rest t over u h)

-- or those before others of one list
up_to : (c : ℕ) (at : Place) (lines tail : Lines) (t : Tasks) (over : Type 0) → sets_in c lines ≡ false →
    Until c (LinesAt (past_lines lines at) tail t) at (joined_to lines tail) t over
up_to c at NoLine tail t over u = at_once c (LinesAt at tail t) at tail t over refl
up_to c at (SetThen to work rest) tail t over u =
    let p = neither (nat_eq to c) (sets_in c rest) u in inr (p.0, up_to c (Behind ∷ at) rest tail t over p.1)
up_to c at (LoadThen site to element root index rest) tail t over u =
    let p = neither (nat_eq to c) (sets_in c rest) u in inr (p.0, up_to c (Behind ∷ at) rest tail t over p.1)
up_to c at (StoreThen site element root index from rest) tail t over u = inr (up_to c (Behind ∷ at) rest tail t over u)
up_to c at (ClearThen array rest) tail t over u = inr (up_to c (Behind ∷ at) rest tail t over u)
up_to c at (IfThen site test chosen other rest) tail t over u =
    let p = neither (sets_in c chosen || sets_in c other) (sets_in c rest) u in
    inr (p.0, up_to c (Behind ∷ at) rest tail t over p.1)
up_to c at (LoopThen site first test answer body rest) tail t over u =
    let p = neither (sets_in c test || sets_in c body) (sets_in c rest) u in
    inr (p.0, up_to c (Behind ∷ at) rest tail t over p.1)
up_to c at (BarrierThen site rest) tail t over u = inr (up_to c (Behind ∷ at) rest tail t over u)

-- so it is before a region that does not set it
spans_unset : (c : ℕ) (region : RegionOf) (f e : Tasks) → Spans region f e → sets_in c region.lines ≡ false →
    Unset c e f
spans_unset c region _ _ (piece {at = at} {tail = tail} {k = k} plain) u =
    up_to c at region.lines tail k (Unset c (LinesAt (past_lines region.lines at) tail k) k) u
spans_unset c region _ e (whole {at = at} plain) u = through c e at region.lines e (Unset c e e) u (unset_here c e)
spans_unset c region _ e (from_answer {site = site} {first = first} {test = test} {answer = answer} {body = body} votes
    is_loop) u =
    let v : ((sets_in c test || sets_in c body) || false) ≡ false = sym (ap (sets_in c) is_loop) ∙ u in
    inr ((neither (sets_in c test || sets_in c body) false v).0, unset_here c e)

-- an iteration of such a loop
iterates : (c : ℕ) (e : Tasks) (at : Place) (test : Lines) (answer : Atom) (body : Lines) (n : ℕ) (k : Tasks) →
    (sets_in c test || sets_in c body) ≡ false → Unset c e k → Unset c e (iteration at test answer body n k)
iterates c e at test answer body n k u h =
    let p = neither (sets_in c test) (sets_in c body) u in
    let answers = AnswerAt at test answer body n k in
    let tests = LinesAt (IntoTest ∷ at) test answers in
    through c e (IntoBody ∷ at) body tests (Unset c e tests) p.1
    (through c e (IntoTest ∷ at) test answers (Unset c e answers) p.0 (inr (u, h)))

-- a step from there does not set it, and leads to such tasks, if it is not from e
unset_leads : (c : ℕ) (e from next : Tasks) → Leads from next → Unset c e from → (from ≡ e) ⊎
    ((tasks_set c from ≡ false) × Unset c e next)
unset_leads c e _ _ past_end h = ⊎_elim (λ a. inl a) (λ s. inr (refl, s)) h
unset_leads c e _ _ (past_set {to = to}) h = ⊎_elim (λ a. inl a) (λ s. inr (turned c to ∙ s.0, s.1)) h
unset_leads c e _ _ (past_load {to = to}) h = ⊎_elim (λ a. inl a) (λ s. inr (turned c to ∙ s.0, s.1)) h
unset_leads c e _ _ past_store h = ⊎_elim (λ a. inl a) (λ s. inr (refl, s)) h
unset_leads c e _ _ past_clear h = ⊎_elim (λ a. inl a) (λ s. inr (refl, s)) h
unset_leads c e _ _ past_barrier h = ⊎_elim (λ a. inl a) (λ s. inr (refl, s)) h
unset_leads c e _ _ (into_chosen {at = at} {chosen = chosen} {other = other} {rest = rest} {k = k}) h =
    ⊎_elim (λ a. inl a) (λ s. inr (
      refl,
      through c e (IntoChosen ∷ at) chosen (LinesAt (Behind ∷ at) rest k) (Unset c e (LinesAt (Behind ∷ at) rest k))
          (neither (sets_in c chosen) (sets_in c other) s.0).0 s.1,
    )) h
unset_leads c e _ _ (into_other {at = at} {chosen = chosen} {other = other} {rest = rest} {k = k}) h =
    ⊎_elim (λ a. inl a) (λ s. inr (
      refl,
      through c e (IntoOther ∷ at) other (LinesAt (Behind ∷ at) rest k) (Unset c e (LinesAt (Behind ∷ at) rest k))
          (neither (sets_in c chosen) (sets_in c other) s.0).1 s.1,
    )) h
unset_leads c e _ _ (into_test {at = at} {test = test} {answer = answer} {body = body} {rest = rest} {k = k}) h =
    let over = AnswerAt at test answer body 0 (LinesAt (Behind ∷ at) rest k) in
    ⊎_elim (λ a. inl a) (λ s. inr (
      refl,
      through c e (IntoTest ∷ at) test over (Unset c e over) (neither (sets_in c test) (sets_in c body) s.0).0
          (inr (s.0, s.1)),
    )) h
unset_leads c e _ _ (into_body {at = at} {test = test} {answer = answer} {body = body} {rest = rest} {k = k}) h =
    ⊎_elim (λ a. inl a) (λ s. inr (refl, iterates c e at test answer body 1 (LinesAt (Behind ∷ at) rest k) s.0 s.1)) h
unset_leads c e _ _ past_loop h = ⊎_elim (λ a. inl a) (λ s. inr (refl, s.1)) h
unset_leads c e _ _ (to_body {at = at} {test = test} {answer = answer} {body = body} {n = n} {k = k}) h =
    ⊎_elim (λ a. inl a) (λ s. inr (refl, iterates c e at test answer body (suc n) k s.0 s.1)) h

-- ---- items

-- e is behind the item: one step or more have led it on from there
abbrev IsPast : (e : Tasks) → Tasks → Type 0
IsPast e k = (next : Tasks) × Leads e next × ComesTo k next

not_back : (e : Tasks) → IsPast e e → ⊥
not_back e h = never_back e e (record { next = h.0; leads = h.1; comes = h.2 }) there

further_past : (e k next : Tasks) → IsPast e k → Leads k next → IsPast e next
further_past e k next h one = (h.0, h.1, come_trans next k h.0 h.2 (by_leg one there))

-- an item that has the value and does not set the cell before e, or is past e
abbrev Keeps : (c : ℕ) (e : Tasks) (v : ℤ) → Item → Type 0
Keeps c e v s = (Unset c e s.tasks × (s.cells c ≡ v)) ⊎ IsPast e s.tasks

module _ (kernel : Kernel) (launch : Launch) where
  -- a step that sets no cell with this number leaves it as it is
  kept_step : (c : ℕ) (i : Item) (k : Tasks) (t : Item) → tasks_set c k ≡ false →
      MayLead GoesOn (tasks_next kernel launch i k) t → t.cells c ≡ i.cells c
  kept_step c i NoTask t u h = absurd h
  kept_step c i (LinesAt at NoLine k) t u h = ap (λ (x : Item). x.cells c) (sym h)
  kept_step c i (LinesAt at (SetThen to work rest) k) t u h =
      ap (λ (x : Item). x.cells c) (sym h) ∙ ap (λ b. cond b (work_value launch i work) (i.cells c)) (turned to c ∙ u)
  kept_step c i (LinesAt at (LoadThen site to element root index rest) k) t u h =
      ap (λ (x : Item). x.cells c) (sym h.1.1) ∙
      ap (λ b. cond b (value_of_bytes element h.1.0) (i.cells c)) (turned to c ∙ u)
  kept_step c i (LinesAt at (StoreThen site element root index from rest) k) t u h =
      ap (λ (x : Item). x.cells c) (sym h.1)
  kept_step c i (LinesAt at (ClearThen array rest) k) t u h = ap (λ (x : Item). x.cells c) (sym h.1)
  kept_step c i (LinesAt at (IfThen site test chosen other rest) k) t u h = ap (λ (x : Item). x.cells c) (sym h)
  kept_step c i (LinesAt at (LoopThen site true test answer body rest) k) t u h = ap (λ (x : Item). x.cells c) (sym h)
  kept_step c i (LinesAt at (LoopThen site false test answer body rest) k) t u h = ap (λ (x : Item). x.cells c) (sym h)
  kept_step c i (LinesAt at (BarrierThen site rest) k) t u h = ap (λ (x : Item). x.cells c) (sym h)
  kept_step c i (AnswerAt at test answer body n k) t u h = go (is_zero (atom_value i.cells answer)) h
    where
      go : (b : Test) → MayLead GoesOn
          (cond b (Goes (with_tasks i k)) (Begins (with_tasks i (iteration at test answer body (suc n) k)))) t →
          t.cells c ≡ i.cells c
      go true h = ap (λ (x : Item). x.cells c) (sym h)
      go false h = ap (λ (x : Item). x.cells c) (sym h)

  -- the law: the items of a run that come from before the region to behind it keep the cell
  pub unset_kept : (c : ℕ) (region : RegionOf) (f e : Tasks) → Spans region f e → sets_in c region.lines ≡ false →
      (w v : Stage Item) → ItemsLead kernel launch w v → (j : ℕ) → (w.items j).tasks ≡ f →
      (v.items j).tasks ≡ e → (v.items j).cells c ≡ (w.items j).cells c
  unset_kept c region f e spans u w v l j before behind =
      ⊎_elim (λ h. h.1) (λ past. absurd (not_back e (subst (IsPast e) behind past)))
      (leads_keep (machine_of kernel launch) GoesOn (Keeps c e ((w.items j).cells c)) keep (item_count launch) w v l
      (any_goes_on kernel launch _) j
      (inl (subst (Unset c e) (sym before) (spans_unset c region f e spans u), refl)))
    where
      keep : (s t : Item) → Keeps c e ((w.items j).cells c) s → MayLead GoesOn (item_next kernel launch s) t →
          Keeps c e ((w.items j).cells c) t
      keep s t is h =
          let one = own_leads kernel launch GoesOn s s.tasks t h in
          ⊎_elim
          (λ stands. ⊎_elim
          (λ here. inr (t.tasks, subst (λ k. Leads k t.tasks) here one.0, there))
          (λ on. inl (on.1, kept_step c s s.tasks t on.0 h ∙ stands.1))
          (unset_leads c e s.tasks t.tasks one.0 stands.0))
          (λ past. inr (further_past e s.tasks t.tasks past one.0))
          is
