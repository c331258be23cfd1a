-- What an item of a kernel does in a run is a history of it, and so a kernel that is even is even in its runs.
use Rattle.std.proofs.Common.{◌≡◌, ◌≢◌, ℕ, suc, ◌<◌, ℤ, pos, List, [], ◌∷◌, length, Option, Some, None, slice_get}
use Rattle.std.proofs.Common.{refl, sym, ap, ◌∙◌, subst, arith, cond, take}
use Rattle.std.specs.Prelude.{Bool as Test, true, false}
use Rattle.std.proofs.lemmas.Bool.{and_parts, true≢false}
use Rattle.work_items.specs.Memory.{Memory, Access, has_element, is_in_range, loaded, stored}
use Rattle.work_items.specs.Items.{Next, Goes, Begins}
use Rattle.work_items.specs.Histories.{Deed, Tells, KeepsTold}
use Rattle.work_items.proofs.MemoryLemmas.{bytes_of-stored_other}
use Rattle.wg_num.specs.declared.types.IntType.{IntType}
use Rattle.wg_num.specs.Bytes.{bytes_of as bytes_of_value}
use Rattle.cl_model.specs.declared.program.Space.{Space}
use Rattle.cl_model.specs.declared.program.Space.TheVariants as space
use Rattle.cl_model.specs.declared.program.Root.{Root}
use Rattle.cl_model.specs.declared.program.Root.TheVariants as root
use Rattle.cl_model.specs.declared.program.VarKind.{VarKind}
use Rattle.cl_model.specs.declared.program.VarKind.TheVariants.{Scalar, Pointer}
use Rattle.cl_model.specs.Values.{is_zero}
use Rattle.cl_model.specs.Sizes.{Launch, item_count}
use Rattle.cl_model.specs.Objects.{IsConstant, zeros}
use Rattle.cl_model.specs.Fitting.{FitsProgram, FitBuffers}
use Rattle.cl_model.specs.Meaning.{lengths_of, MayBeTold}
use Rattle.cl_model.proofs.Stores.{kernel_fits, constant_before}
use Rattle.kir.specs.Tree.{NoLine, SetThen, LoadThen, StoreThen, ClearThen, IfThen, LoopThen, BarrierThen, Kernel}
use Rattle.kir.specs.Fits.{is_written, can_store, points_to_written, lines_fit}
use Rattle.kir.specs.Places.{Behind, IntoChosen, IntoOther, Tasks, NoTask, LinesAt, AnswerAt, iteration}
use Rattle.kir.specs.Steps.{shell_of, Item, with_tasks, atom_value, object_at, array_size, tasks_next}
use Rattle.kir.specs.Meaning.{machine_of, ItemHistory}
use Rattle.kir.specs.Uniformity.{IsEven}
use Rattle.group_moves.specs.Stages.{Stage}
use Rattle.group_moves.proofs.Histories.{leads_history}
use Rattle.kir_moves.specs.Stand.{start_stage, ItemsLead}
use Rattle.kir_moves.specs.Uniform.{RunsEven}

-- what is left to do are parts of the kernel
abbrev pub TasksFit : Kernel → Tasks → Type 0
TasksFit kernel NoTask = Unit {0}
TasksFit kernel (LinesAt at lines k) = (lines_fit kernel lines ≡ true) × TasksFit kernel k
TasksFit kernel (AnswerAt at test answer body n k) =
    (lines_fit kernel test ≡ true) × (lines_fit kernel body ≡ true) × TasksFit kernel k

take_all : {A : Type 0} (xs : List A) → take (length xs) xs ≡ xs
take_all [] = refl
take_all (x ∷ xs) = ap (λ ys. x ∷ ys) (take_all xs)

written_space : (at : Space) → is_written at ≡ true → at ≢ space.Constant
written_space space.Global w e = cc
written_space space.Constant w e = absurd (true≢false (sym w))
written_space space.Local w e = cc
written_space space.Private w e = cc

module _ (kernel : Kernel) (launch : Launch) (fits : FitsProgram (shell_of kernel) launch) (buffers : List (List ℕ))
  where
    abbrev Told : Access → List ℕ → Type 0
    Told = MayBeTold (shell_of kernel) launch buffers

    abbrev Keeps : Item → Type 0
    Keeps i = TasksFit kernel i.tasks

    abbrev Kept : Next Item → Type 0
    Kept n = KeepsTold Told Keeps n

    told_stays : (memory : Memory) (object : ℕ) (index : ℤ) (bytes : List ℕ) →
        (IsConstant (shell_of kernel) launch object → ⊥) → Tells Told memory →
        Tells Told (stored memory object index bytes)
    told_stays memory object index bytes apart tells access h c =
        let ne : object ≢ access.object = λ e. apart (subst (λ o. IsConstant (shell_of kernel) launch o) (sym e) c) in
        let same = bytes_of-stored_other memory object access.object index bytes ne in
        let here : is_in_range memory access ≡ true =
        ap (λ bs. has_element (length bs) access.size access.index) (sym same) ∙ h in
        let one : loaded (stored memory object index bytes) access ≡ loaded memory access =
        ap (λ bs. loaded (bs ∷ []) (record { object = 0; size = access.size; index = access.index })) same in
        one ∙ tells access here c

    -- what can be stored to is never constant
    store_apart : (i : Item) (r : Root) (element : IntType) → can_store kernel r element ≡ true →
        IsConstant (shell_of kernel) launch (object_at kernel launch i r) → ⊥
    store_apart i (root.Param n) element can c = by_kind (slice_get kernel.params n) refl can
      where
        by_kind : (o : Option VarKind) → slice_get kernel.params n ≡ o → points_to_written element o ≡ true → ⊥
        by_kind None e p = true≢false (sym p)
        by_kind (Some (Scalar t)) e p = true≢false (sym p)
        by_kind (Some (Pointer at el own)) e p =
            let parts = and_parts _ (is_written at) p in
            kernel_fits (shell_of kernel) launch fits i.number n at el own
            (ap (λ kinds. slice_get kinds n) (take_all kernel.params) ∙ e) (written_space at parts.1) c
    store_apart i (root.Constant n) element can c = true≢false (sym can)
    store_apart i (root.Local n) element can c = let before =
        constant_before (shell_of kernel) launch fits _ c in omega (arith, before)
    store_apart i (root.Private n) element can c = let before =
        constant_before (shell_of kernel) launch fits _ c in omega (arith, before)

    -- each own step keeps it
    step_keeps : (i : Item) (k : Tasks) → TasksFit kernel k → Kept (tasks_next kernel launch i k)
    step_keeps i NoTask f = tt
    step_keeps i (LinesAt at NoLine k) f = f.1
    step_keeps i (LinesAt at (SetThen to work rest) k) f = ((and_parts _ _ f.0).1, f.1)
    step_keeps i (LinesAt at (LoadThen site to element r index rest) k) f = λ bytes told. ((and_parts _ _ f.0).1, f.1)
    step_keeps i (LinesAt at (StoreThen site element r index from rest) k) f =
        let a = and_parts _ _ f.0 in
        let can = and_parts _ _ (and_parts _ _ (and_parts _ _ a.0).0).0 in (
          (a.1, f.1),
          λ memory tells. told_stays memory (object_at kernel launch i r) (atom_value i.cells index)
              (bytes_of_value element (atom_value i.cells from)) (store_apart i r element can.1) tells,
        )
    step_keeps i (LinesAt at (ClearThen array rest) k) f = (
      ((and_parts _ _ f.0).1, f.1),
      λ memory tells. told_stays memory (object_at kernel launch i (root.Private array)) (pos 0)
          (zeros (array_size kernel array)) (λ c. let before = constant_before (shell_of kernel) launch fits _ c in
          omega (arith, before)) tells,
    )
    step_keeps i (LinesAt at (IfThen site test chosen other rest) k) f =
        let a = and_parts _ _ f.0 in
        let b = and_parts _ _ a.0 in
        let c = and_parts _ _ b.0 in
        go (is_zero (atom_value i.cells test)) c.1 b.1 a.1
      where
        go : (b : Test) → lines_fit kernel chosen ≡ true → lines_fit kernel other ≡ true →
            lines_fit kernel rest ≡ true →
            Keeps (with_tasks i (cond b (LinesAt (IntoOther ∷ at) other (LinesAt (Behind ∷ at) rest k))
            (LinesAt (IntoChosen ∷ at) chosen (LinesAt (Behind ∷ at) rest k))))
        go true fc fo fr = (fo, (fr, f.1))
        go false fc fo fr = (fc, (fr, f.1))
    step_keeps i (LinesAt at (LoopThen site true test answer body rest) k) f =
        let a = and_parts _ _ f.0 in
        let b = and_parts _ _ a.0 in
        let c = and_parts _ _ b.0 in
        let d = and_parts _ _ c.0 in
        (d.1, (d.1, b.1, (a.1, f.1)))
    step_keeps i (LinesAt at (LoopThen site false test answer body rest) k) f =
        let a = and_parts _ _ f.0 in
        let b = and_parts _ _ a.0 in
        let c = and_parts _ _ b.0 in
        let d = and_parts _ _ c.0 in
        (b.1, (d.1, (d.1, b.1, (a.1, f.1))))
    step_keeps i (LinesAt at (BarrierThen site rest) k) f = ((and_parts _ _ f.0).1, f.1)
    step_keeps i (AnswerAt at test answer body n k) f = go (is_zero (atom_value i.cells answer))
      where
        go : (b : Test) → Kept (cond b (Goes (with_tasks i k))
            (Begins (with_tasks i (iteration at test answer body (suc n) k))))
        go true = f.2
        go false = (f.1, (f.0, (f.0, f.1, f.2)))

    -- what an item does on the way to a stage is a history of it
    pub stage_history : lines_fit kernel kernel.body ≡ true → (w : Stage Item) →
        ItemsLead kernel launch (start_stage kernel launch buffers) w → (i : ℕ) → i < item_count launch →
        (deeds : List Deed) × ItemHistory kernel launch buffers i deeds (w.items i)
    stage_history valid w l i lt =
        leads_history (machine_of kernel launch) (lengths_of (shell_of kernel) launch buffers) Told Keeps
        (λ s f. step_keeps s s.tasks f) (item_count launch) (start_stage kernel launch buffers) w l
        (λ j lt'. (valid, tt)) (λ access h c. refl) (λ o. refl) i lt

    -- an even kernel is even in its runs
    pub runs_even : lines_fit kernel kernel.body ≡ true → FitBuffers launch buffers → (Cells : ℕ → Type 0) →
        IsEven kernel Cells → RunsEven kernel launch buffers Cells
    runs_even valid fit Cells even u v l l' one other lt lt' same point at at' stop c of_cells live =
        let h = stage_history valid u l one lt in
        let h' = stage_history valid v l' other lt' in
        even launch fits buffers fit one other lt lt' same h.0 h'.0 (u.items one) (v.items other) h.1 h'.1 point at at'
        stop c of_cells live
