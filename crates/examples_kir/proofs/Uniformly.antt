-- Which of the kernels that keep a number over a barrier are even.
use Rattle.std.proofs.Common.{◌≡◌, ℕ, zero, suc, ℤ, pos, ◌<◌, List, [], ◌∷◌, Some, take, refl, sym, ap, ◌∙◌, subst}
use Rattle.std.proofs.Common.{true, arith}
use Rattle.std.specs.Prelude.{◌/◌, ◌%◌}
use Rattle.std.proofs.lemmas.Option.{none-some}
use Rattle.std.proofs.lemmas.Bool.{true≢false}
use Rattle.work_items.specs.Histories.{Deed, nothing, going}
use Rattle.cl_model.specs.declared.program.Query.TheVariants as query
use Rattle.cl_model.specs.Sizes.{Launch, product, groups_at, groups_of, group_of, answer_of}
use Rattle.cl_model.specs.Fitting.{FitsProgram, DimensionFits}
use Rattle.examples_model.specs.Terms.{line}
use Rattle.kir.specs.Tree.{NoLine, SetThen, BarrierThen, Copy}
use Rattle.kir.specs.Places.{Behind, Tasks, NoTask, LinesAt, point_of}
use Rattle.kir.specs.Steps.{shell_of, Item, item_next}
use Rattle.kir.specs.Meaning.{ItemHistory}
use Rattle.kir.specs.Live.{live_behind, live_at}
use Rattle.kir.proofs.Placed.{Leads, history_keeps, points_determine}
use Rattle.examples_kir.specs.Terms.{cell}
use Rattle.examples_kir.specs.Uniform.{keeping_lines, keeping, OwnIsNotEven, GroupsIsEven}

-- one group of two items
abbrev pair_launch : Launch
pair_launch = line 2 2 [] []

dimension : (d : ℕ) → d < 3 → DimensionFits pair_launch d
dimension zero lt = record {
  some_local = omega arith;
  some_global = omega arith;
  divides = refl;
  offset = omega arith;
  absent = λ le. absurd (omega (arith, le));
}
dimension (suc zero) lt = record {
  some_local = omega arith;
  some_global = omega arith;
  divides = refl;
  offset = omega arith;
  absent = λ le. (refl, refl, refl);
}
dimension (suc (suc zero)) lt = record {
  some_local = omega arith;
  some_global = omega arith;
  divides = refl;
  offset = omega arith;
  absent = λ le. (refl, refl, refl);
}
dimension (suc (suc (suc d))) lt = absurd (omega (arith, lt))

pair_fits : FitsProgram (shell_of (keeping query.LocalId)) pair_launch
pair_fits = record {
  arguments = tt;
  apart = λ n m b element element' root root' e. absurd (none-some _ e);
  few_dims = (omega arith, omega arith);
  dimensions = dimension;
  group_limit = omega arith;
  item_limit = omega arith;
  loads = refl;
  saves = refl;
  local_limit = omega arith;
}

-- an item at the barrier, behind one step
at_the_barrier : (item : ℕ) → (i : Item) × ItemHistory (keeping query.LocalId) pair_launch [] item [] i ×
    (i.cells 0 ≡ answer_of pair_launch item query.LocalId (pos 0)) ×
    (point_of i.tasks ≡ Some (record { at = Behind ∷ []; begun = [] }))
at_the_barrier item = (_, going refl nothing, refl, refl)

pub own_is_not_even : OwnIsNotEven
own_is_not_even even =
    let a = at_the_barrier 0 in
    let b = at_the_barrier 1 in
    let same = even pair_launch pair_fits [] refl 0 1 (omega arith) (omega arith) refl [] [] a.0 b.0 a.1 b.1
    (record { at = Behind ∷ []; begun = [] }) a.3 b.3 refl 0 refl refl in
    let apart : pos 0 ≡ pos 1 = sym a.2 ∙ same ∙ b.2 in
    cc apart

-- ---- the number of the group

module _ (launch : Launch) (item : ℕ) where
  -- what the cell holds where it is live
  data Stage : Tasks → (ℕ → ℤ) → Type 0 where
    front : (cells : ℕ → ℤ) → Stage (LinesAt [] (keeping_lines query.GroupId) NoTask) cells
    held : (cells : ℕ → ℤ) → cells 0 ≡ answer_of launch item query.GroupId (pos 0) →
        Stage (LinesAt (Behind ∷ []) (BarrierThen 0 (SetThen 1 (Copy (cell 0)) NoLine)) NoTask) cells
    passed : (cells : ℕ → ℤ) → cells 0 ≡ answer_of launch item query.GroupId (pos 0) →
        Stage (LinesAt (Behind ∷ Behind ∷ []) (SetThen 1 (Copy (cell 0)) NoLine) NoTask) cells
    done : (cells : ℕ → ℤ) → Stage (LinesAt (Behind ∷ Behind ∷ Behind ∷ []) NoLine NoTask) cells
    over : (cells : ℕ → ℤ) → Stage NoTask cells

  abbrev Staged : Item → Type 0
  Staged i = (i.number ≡ item) × Stage i.tasks i.cells

  step : (n : ℕ) (cells : ℕ → ℤ) (tasks : Tasks) → n ≡ item → Stage tasks cells →
      Leads Staged (item_next (keeping query.GroupId) launch (record { number = n; cells = cells; tasks = tasks }))
  step n cells _ same (front _) = (same, held _ (ap (λ k. answer_of launch k query.GroupId (pos 0)) same))
  step n cells _ same (held _ e) = (same, passed cells e)
  step n cells _ same (passed _ e) = (same, done _)
  step n cells _ same (done _) = (same, over cells)
  step n cells _ same (over _) = tt

  staged : (buffers : List (List ℕ)) (deeds : List Deed) (i : Item) →
      ItemHistory (keeping query.GroupId) launch buffers item deeds i → Staged i
  staged buffers deeds i h = history_keeps (item_next (keeping query.GroupId) launch) Staged
      (λ s p. step s.number s.cells s.tasks p.0 p.1) h (refl, front _)

  value_where_live : (tasks : Tasks) (cells : ℕ → ℤ) → Stage tasks cells → live_behind 0 tasks ≡ true →
      cells 0 ≡ answer_of launch item query.GroupId (pos 0)
  value_where_live _ cells (front _) l = absurd (true≢false (sym l))
  value_where_live _ cells (held _ e) l = e
  value_where_live _ cells (passed _ e) l = e
  value_where_live _ cells (done _) l = absurd (true≢false (sym l))
  value_where_live _ cells (over _) l = absurd (true≢false (sym l))

-- items of one group get one number of the group
one_number : (launch : Launch) (one other : ℕ) → group_of launch one ≡ group_of launch other →
    answer_of launch one query.GroupId (pos 0) ≡ answer_of launch other query.GroupId (pos 0)
one_number launch one other g = ap (λ k. pos (k / product (take 0 (groups_of launch)) % groups_at launch 0)) g

pub groups_is_even : GroupsIsEven
groups_is_even launch fits buffers fit one other w w' g deeds deeds' i j h h' point e e' stop c is live =
    let si = (points_determine (keeping query.GroupId) launch buffers one deeds i h point e).live 0 in
    let sj = (points_determine (keeping query.GroupId) launch buffers other deeds' j h' point e').live 0 in
    let here : live_at (keeping_lines query.GroupId) point.at 0 ≡ true =
    subst (λ k. live_at (keeping_lines query.GroupId) point.at k ≡ true) is live in
    let mine = value_where_live launch one i.tasks i.cells (staged launch one buffers deeds i h).1 (si ∙ here) in
    let its = value_where_live launch other j.tasks j.cells (staged launch other buffers deeds' j h').1 (sj ∙ here) in
    ap i.cells is ∙ mine ∙ one_number launch one other g ∙ sym its ∙ ap j.cells (sym is)
