-- Wherever a run leads, each cell of an item holds a value of the cell's type.
use Rattle.std.proofs.Common.{◌≡◌, ℕ, suc, List, ◌∷◌}
use Rattle.std.proofs.Common.{subst, cond}
use Rattle.std.specs.Prelude.{Bool as Test, true, false}
use Rattle.std.proofs.lemmas.Bool.{and_parts}
use Rattle.work_items.specs.Items.{Goes, Begins}
use Rattle.work_items.specs.Coming.{MayLead}
use Rattle.wg_num.proofs.WrapLaws.{IsValue-value}
use Rattle.cl_model.specs.Sizes.{Launch}
use Rattle.cl_model.specs.Fitting.{FitsProgram}
use Rattle.cl_model.specs.Values.{is_zero}
use Rattle.kir.specs.Tree.{NoLine, SetThen, LoadThen}
use Rattle.kir.specs.Tree.{StoreThen, ClearThen, IfThen, LoopThen, BarrierThen, Kernel}
use Rattle.kir.specs.Places.{Behind, Tasks, NoTask, LinesAt, AnswerAt, iteration}
use Rattle.kir.specs.Steps.{shell_of, Item, with_tasks, atom_value, work_value, tasks_next}
use Rattle.kir.specs.Meaning.{machine_of, GoesOn}
use Rattle.kir.specs.Fits.{work_type, cell_takes}
use Rattle.kir.specs.Fits.{lines_fit}
use Rattle.kir.specs.CellTypes.{HoldTypes}
use Rattle.group_moves.specs.Stages.{Stage}
use Rattle.group_moves.proofs.Histories.{leads_keep}
use Rattle.kir_moves.specs.Stand.{start_stage, ItemsLead}
use Rattle.kir_moves.proofs.Own.{any_goes_on}
use Rattle.kir_moves.proofs.Known.{TasksFit}
use Rattle.mask_lower.specs.Layout.{HasSizes}
use Rattle.kir.proofs.CellTypes.{zero_value, set_typed, work_typed, cell_type_there}

module _ (kernel : Kernel) (launch : Launch) (fits : FitsProgram (shell_of kernel) launch) (sizes : HasSizes launch)
  where
    -- what runs keep of an item: what it has left to do are parts of the kernel, and each cell holds a value of its
    -- type
    abbrev Keeps : Item → Type 0
    Keeps i = TasksFit kernel i.tasks × HoldTypes kernel i.cells

    keep : (s : Item) (k : Tasks) (t : Item) → TasksFit kernel k → HoldTypes kernel s.cells →
        MayLead GoesOn (tasks_next kernel launch s k) t → Keeps t
    keep s NoTask t f holds h = absurd h
    keep s (LinesAt at NoLine k) t f holds h = subst Keeps h (f.1, holds)
    keep s (LinesAt at (SetThen to work rest) k) t f holds h =
        let a = and_parts _ _ f.0 in
        let b = and_parts _ _ a.0 in
        let ty = cell_type_there kernel to (work_type kernel work) b.1 in
        subst Keeps h (
          (a.1, f.1),
          set_typed kernel s (LinesAt (Behind ∷ at) rest k) to ty.0 (work_value launch s work)
              holds (subst (λ o. cell_takes kernel to o ≡ true) ty.1 b.1)
              (work_typed kernel launch fits sizes.global s work ty.0 holds b.0 ty.1),
        )
    keep s (LinesAt at (LoadThen site to element root index rest) k) t f holds h =
        let a = and_parts _ _ f.0 in
        let b = and_parts _ _ a.0 in
        subst Keeps h.1.1 (
          (a.1, f.1),
          set_typed kernel s (LinesAt (Behind ∷ at) rest k) to element _ holds b.1 (IsValue-value element _),
        )
    keep s (LinesAt at (StoreThen site element root index from rest) k) t f holds h =
        subst Keeps h.1 (((and_parts _ _ f.0).1, f.1), holds)
    keep s (LinesAt at (ClearThen array rest) k) t f holds h = subst Keeps h.1 (((and_parts _ _ f.0).1, f.1), holds)
    keep s (LinesAt at (IfThen site test chosen other rest) k) t f holds h =
        let a = and_parts _ _ f.0 in
        let b = and_parts _ _ a.0 in
        let c = and_parts _ _ b.0 in
        subst Keeps h (go (is_zero (atom_value s.cells test)) c.1 b.1 a.1, holds)
      where
        go : (b : Test) → lines_fit kernel chosen ≡ true → lines_fit kernel other ≡ true →
            lines_fit kernel rest ≡ true →
            TasksFit kernel (cond b (LinesAt (Rattle.kir.specs.Places.IntoOther ∷ at) other
            (LinesAt (Behind ∷ at) rest k)) (LinesAt (Rattle.kir.specs.Places.IntoChosen ∷ at) chosen
            (LinesAt (Behind ∷ at) rest k)))
        go true fc fo fr = (fo, (fr, f.1))
        go false fc fo fr = (fc, (fr, f.1))
    keep s (LinesAt at (LoopThen site true test answer body rest) k) t f holds h =
        let a = and_parts _ _ f.0 in
        let b = and_parts _ _ a.0 in
        let c = and_parts _ _ b.0 in
        let d = and_parts _ _ c.0 in
        subst Keeps h ((d.1, (d.1, b.1, (a.1, f.1))), holds)
    keep s (LinesAt at (LoopThen site false test answer body rest) k) t f holds h =
        let a = and_parts _ _ f.0 in
        let b = and_parts _ _ a.0 in
        let c = and_parts _ _ b.0 in
        let d = and_parts _ _ c.0 in
        subst Keeps h ((b.1, (d.1, (d.1, b.1, (a.1, f.1)))), holds)
    keep s (LinesAt at (BarrierThen site rest) k) t f holds h = subst Keeps h (((and_parts _ _ f.0).1, f.1), holds)
    keep s (AnswerAt at test answer body n k) t f holds h = go (is_zero (atom_value s.cells answer)) h
      where
        go : (b : Test) → MayLead GoesOn
            (cond b (Goes (with_tasks s k)) (Begins (with_tasks s (iteration at test answer body (suc n) k)))) t →
            Keeps t
        go true h = subst Keeps h (f.2, holds)
        go false h = subst Keeps h ((f.1, (f.0, (f.0, f.1, f.2))), holds)

    -- so each cell of an item that a run reaches holds a value of its type, and what the item has left to do are parts
    -- of the kernel
    pub cells_hold : lines_fit kernel kernel.body ≡ true → (buffers : List (List ℕ)) (w : Stage Item) →
        ItemsLead kernel launch (start_stage kernel launch buffers) w → (i : ℕ) → TasksFit kernel (w.items i).tasks ×
        HoldTypes kernel (w.items i).cells
    cells_hold valid buffers w l i =
        leads_keep (machine_of kernel launch) GoesOn Keeps (λ s t kept h. keep s s.tasks t kept.0 kept.1 h)
        (Rattle.cl_model.specs.Sizes.item_count launch) (start_stage kernel launch buffers) w l
        (any_goes_on kernel launch _) i ((valid, tt), λ c of e. zero_value of)
