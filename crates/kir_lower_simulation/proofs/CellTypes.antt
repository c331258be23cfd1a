-- Each step of a kernel's item leaves in each cell a value of the cell's type.
use Rattle.std.proofs.Common.{◌≡◌, ℕ, suc, ℤ, pos, ◌∷◌, Option}
use Rattle.std.proofs.Common.{Some, None, slice_get, refl, ap, subst, cond}
use Rattle.std.specs.Prelude.{option_map}
use Rattle.std.specs.Prelude.{Bool as Test, true, false}
use Rattle.std.proofs.lemmas.Bool.{and_parts}
use Rattle.std.proofs.lemmas.Option.{none-some, same_Some}
use Rattle.work_items.specs.Items.{Goes, Begins}
use Rattle.work_items.specs.Coming.{MayLead}
use Rattle.wg_num.specs.Wrap.{IsValue}
use Rattle.wg_num.proofs.WrapLaws.{IsValue-value}
use Rattle.cl_model.specs.Sizes.{Launch}
use Rattle.cl_model.specs.Fitting.{FitsProgram}
use Rattle.cl_model.specs.Values.{is_zero}
use Rattle.kir.specs.Tree.{NoLine, SetThen, LoadThen}
use Rattle.kir.specs.Tree.{StoreThen, ClearThen, IfThen, LoopThen, BarrierThen, Cell, Kernel}
use Rattle.kir.specs.Places.{Behind, Tasks, NoTask, LinesAt, AnswerAt, iteration}
use Rattle.kir.specs.Steps.{shell_of, Item, with_tasks, atom_value, work_value, tasks_next, item_next}
use Rattle.kir_moves.specs.Leads.{Leads, past_end, past_set, past_load, past_store, past_clear, past_barrier}
use Rattle.kir_moves.specs.Leads.{into_chosen, into_other, into_test, into_body, past_loop, to_body}
use Rattle.kir.specs.Meaning.{GoesOn}
use Rattle.kir.specs.Fits.{work_type, cell_takes}
use Rattle.kir.specs.Lowering.{HasGlobalSizes}
use Rattle.kir_moves.proofs.Known.{TasksFit}
use Rattle.kir_lower_simulation.specs.Setting.{Setting}
use Rattle.kir_lower_simulation.specs.Facts.{HoldsTypes}
use Rattle.kir.specs.CellTypes.{HoldTypes}
use Rattle.kir.proofs.CellTypes.{set_typed, work_typed, cell_type_there, zero_value}

module _ (kernel : Kernel) (launch : Launch) (fits : FitsProgram (shell_of kernel) launch)
    (sizes : HasGlobalSizes launch) where
  same_cells : (s t : Item) (k : Tasks) → with_tasks s k ≡ t → HoldTypes kernel s.cells → HoldTypes kernel t.cells
  same_cells s t k e holds = subst (λ (z : Item). HoldTypes kernel z.cells) e holds

  keep : (s : Item) (k : Tasks) (t : Item) → TasksFit kernel k → HoldTypes kernel s.cells →
      MayLead GoesOn (tasks_next kernel launch s k) t → HoldTypes kernel t.cells
  keep s NoTask t f holds h = absurd h
  keep s (LinesAt at NoLine k) t f holds h = same_cells s t k h holds
  keep s (LinesAt at (SetThen to work rest) k) t f holds h =
      let a = and_parts _ _ f.0 in
      let b = and_parts _ _ a.0 in
      let ty = cell_type_there kernel to (work_type kernel work) b.1 in
      subst (λ (z : Item). HoldTypes kernel z.cells) h (set_typed kernel s (LinesAt (Behind ∷ at) rest k) to ty.0
      (work_value launch s work) holds (subst (λ o. cell_takes kernel to o ≡ true) ty.1 b.1)
      (work_typed kernel launch fits sizes s work ty.0 holds b.0 ty.1))
  keep s (LinesAt at (LoadThen site to element root index rest) k) t f holds h =
      let a = and_parts _ _ f.0 in
      let b = and_parts _ _ a.0 in
      subst (λ (z : Item). HoldTypes kernel z.cells) h.1.1 (set_typed kernel s (LinesAt (Behind ∷ at) rest k) to
      element _ holds b.1 (IsValue-value element _))
  keep s (LinesAt at (StoreThen site element root index from rest) k) t f holds h = same_cells s t _ h.1 holds
  keep s (LinesAt at (ClearThen array rest) k) t f holds h = same_cells s t _ h.1 holds
  keep s (LinesAt at (IfThen site test chosen other rest) k) t f holds h = same_cells s t _ h holds
  keep s (LinesAt at (LoopThen site true test answer body rest) k) t f holds h = same_cells s t _ h holds
  keep s (LinesAt at (LoopThen site false test answer body rest) k) t f holds h = same_cells s t _ h holds
  keep s (LinesAt at (BarrierThen site rest) k) t f holds h = same_cells s t _ h holds
  keep s (AnswerAt at test answer body n k) t f holds h = go (is_zero (atom_value s.cells answer)) h
    where
      go : (b : Test) → MayLead GoesOn
          (cond b (Goes (with_tasks s k)) (Begins (with_tasks s (iteration at test answer body (suc n) k)))) t →
          HoldTypes kernel t.cells
      go true h = same_cells s t k h holds
      go false h = same_cells s t _ h holds

-- what is left to do are parts of the kernel, wherever a step may lead
pub fits_keep : (kernel : Kernel) (from next : Tasks) → Leads from next → TasksFit kernel from → TasksFit kernel next
fits_keep kernel _ _ past_end f = f.1
fits_keep kernel _ _ past_set f = ((and_parts _ _ f.0).1, f.1)
fits_keep kernel _ _ past_load f = ((and_parts _ _ f.0).1, f.1)
fits_keep kernel _ _ past_store f = ((and_parts _ _ f.0).1, f.1)
fits_keep kernel _ _ past_clear f = ((and_parts _ _ f.0).1, f.1)
fits_keep kernel _ _ past_barrier f = ((and_parts _ _ f.0).1, f.1)
fits_keep kernel _ _ into_chosen f =
    let a = and_parts _ _ f.0 in
    let b = and_parts _ _ a.0 in
    let c = and_parts _ _ b.0 in
    (c.1, (a.1, f.1))
fits_keep kernel _ _ into_other f =
    let a = and_parts _ _ f.0 in
    let b = and_parts _ _ a.0 in
    (b.1, (a.1, f.1))
fits_keep kernel _ _ into_test f =
    let a = and_parts _ _ f.0 in
    let b = and_parts _ _ a.0 in
    let c = and_parts _ _ b.0 in
    let d = and_parts _ _ c.0 in
    (d.1, (d.1, b.1, (a.1, f.1)))
fits_keep kernel _ _ into_body f =
    let a = and_parts _ _ f.0 in
    let b = and_parts _ _ a.0 in
    let c = and_parts _ _ b.0 in
    let d = and_parts _ _ c.0 in
    (b.1, (d.1, (d.1, b.1, (a.1, f.1))))
fits_keep kernel _ _ past_loop f = f.2
fits_keep kernel _ _ to_body f = (f.1, (f.0, (f.0, f.1, f.2)))

-- ---- in a setting

as_types : (S : Setting) (cells : ℕ → ℤ) → HoldsTypes S cells → HoldTypes S.kernel cells
as_types S cells h c of e = go (slice_get S.kernel.cells c) refl e
  where
    go : (o : Option Cell) → slice_get S.kernel.cells c ≡ o → option_map (λ (cell : Cell). cell.of) o ≡ Some of →
        IsValue of (cells c)
    go None same e = absurd (none-some of e)
    go (Some cell) same e = subst (λ z. IsValue z (cells c)) (same_Some cell.of of e) (h c cell same)

as_cells : (S : Setting) (cells : ℕ → ℤ) → HoldTypes S.kernel cells → HoldsTypes S cells
as_cells S cells h c cell e = h c cell.of (ap (option_map (λ (cell : Cell). cell.of)) e)

-- each step leaves values of the cells' types
pub types_keep : (S : Setting) → FitsProgram (shell_of S.kernel) S.launch → HasGlobalSizes S.launch → (i t : Item) →
    MayLead GoesOn (item_next S.kernel S.launch i) t → TasksFit S.kernel i.tasks → HoldsTypes S i.cells →
    HoldsTypes S t.cells
types_keep S fits sizes i t h f holds =
    as_cells S t.cells (keep S.kernel S.launch fits sizes i i.tasks t f (as_types S i.cells holds) h)

-- at the start each cell holds 0
pub types_start : (S : Setting) → HoldsTypes S (λ c. pos 0)
types_start S c cell e = zero_value cell.of
