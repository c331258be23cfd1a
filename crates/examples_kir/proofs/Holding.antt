-- The lines of a kernel that keeps a variable over a barrier match it: waits, parting and values.
use Rattle.std.proofs.Common.{◌≡◌, ℕ, zero, suc, ℤ, pos, ◌<◌, List, [], ◌∷◌, ◌++◌, length, Option, Some, None}
use Rattle.std.proofs.Common.{slice_get, option_map, refl, sym, ap, ◌∙◌, subst, true, false, arith, inl}
use Rattle.std.specs.Prelude.{nat_eq}
use Rattle.std.proofs.lemmas.Option.{none-some, same_Some}
use Rattle.std.proofs.lemmas.Bool.{true≢false}
use Rattle.std.proofs.lemmas.Int.{ints}
use Rattle.wg_num.specs.declared.types.IntType.TheVariants.{Int}
use Rattle.wg_num.specs.Wrap.{IsValue, modulus, half}
use Rattle.work_items.specs.Items.{Next, Goes}
use Rattle.work_items.specs.Coming.{arrived, by_step, by_test}
use Rattle.work_items.specs.Histories.{Deed}
use Rattle.work_items.specs.Simulation.{GoesIn, both_end, both_wait, MatchesAt}
use Rattle.cl_model.specs.declared.program.VarKind.{VarKind}
use Rattle.cl_model.specs.declared.program.VarKind.TheVariants.{Scalar}
use Rattle.cl_model.specs.Tree.{Function, Literal, Variable, Apply, none, Declare, Do, Barrier, Block, Statements}
use Rattle.cl_model.specs.Tree.{empty, also}
use Rattle.cl_model.specs.Sizes.{Launch}
use Rattle.cl_model.specs.Valid.{all_declarations, IsValidFunction, IsValid, CallsEnd, KindFits}
use Rattle.cl_model.specs.Task.{Operand, Own, Nth, Task, Run, Evaluate, Keep, Discard, Frame, Item as ProgramItem}
use Rattle.cl_model.specs.Task.{Point as ProgramPoint, first_point}
use Rattle.cl_model.specs.Steps.{set_in, item_next as program_next}
use Rattle.cl_model.specs.Meaning.{lengths_of, MayBeTold, machine_of as program_machine, kernel_frame}
use Rattle.cl_model.specs.Meaning.{ItemCanCome as ProgramCanCome}
use Rattle.kir.specs.declared.line.Atom.TheVariants.{Cell as CellAtom}
use Rattle.kir.specs.Tree as kir
use Rattle.kir.specs.Tree.{Copy, Lines, NoLine, SetThen, BarrierThen, Cell}
use Rattle.kir.specs.Places.{Leg, Behind, IntoChosen, IntoOther, IntoTest, ToAnswer, IntoBody, Place, Point, Tasks}
use Rattle.kir.specs.Places.{NoTask, LinesAt, point_of, behind, chosen_of, other_of, test_of, body_of, lines_at}
use Rattle.kir.specs.Places.{loops_around}
use Rattle.kir.specs.Fits.{is_kernel}
use Rattle.kir.specs.Steps.{shell_of, Item, item_next}
use Rattle.kir.specs.Meaning.{ItemCanCome}
use Rattle.kir.specs.Cuts.{is_barrier}
use Rattle.kir.specs.Homes.{IsCellOf, IsOf}
use Rattle.kir.specs.Matching.{IsBarrierPoint, AreAlike, StepsTo, arrives, passes, ComesToScope, IsInScope, value_in}
use Rattle.kir.proofs.FromSteps.{HasSteps, from_steps}
use Rattle.examples_kir.specs.Lowered.{holding, holding_lines, holding_kernel, HoldingMatches}

abbrev holding_body : Statements
holding_body = also (Declare 0 (Some (Apply (Literal (pos 1) Int) none)))
    (also (Barrier 0) (also (Do (Apply (Variable 0) none)) empty))

abbrev holding_function : Function
holding_function =
    record { parameters = 0; result = None; variables = Scalar Int ∷ []; arrays = []; body = holding_body }

one_fits : IsValue Int (pos 1)
unfolding modulus half
one_fits = record { low = omega (arith, ints); high = omega (arith, ints) }

valid_function : IsValidFunction holding holding_function
valid_function = record {
  parameters = omega arith;
  kinds = kinds;
  types = (
    (Int, (Scalar Int, refl, refl), ([], tt, (one_fits, refl))),
    (tt, (inl (Int, ([], tt, (Scalar Int, refl, refl))), tt)),
  );
  scopes = ((λ x. x), (tt, tt), (tt, ((inl refl, tt), tt)));
  declared = λ x low high. one x high;
  undeclared = λ x low. absurd (omega (arith, low));
  exits = (tt, (tt, (tt, tt)));
}
  where
    kinds : (x : ℕ) (kind : VarKind) → slice_get (Scalar Int ∷ []) x ≡ Some kind →
        KindFits holding holding_function x kind
    kinds zero kind e = subst (λ k. KindFits holding holding_function 0 k) (same_Some _ _ e) tt
    kinds (suc x) kind e = absurd (none-some kind e)

    one : (x : ℕ) → x < 1 → all_declarations holding_body x ≡ 1
    one zero high = refl
    one (suc x) high = absurd (omega (arith, high))

valid : IsValid holding
valid = record {
  kernel = omega arith;
  tables = λ n table e. absurd (none-some table e);
  functions = functions;
  calls = calls;
  sites = (λ x. x, tt);
  places = (omega arith, tt);
  size = omega arith;
}
  where
    functions : (n : ℕ) (f : Function) → slice_get holding.functions n ≡ Some f → IsValidFunction holding f
    functions zero f e = subst (λ g. IsValidFunction holding g) (same_Some _ _ e) valid_function
    functions (suc n) f e = absurd (none-some f e)

    calls : (n : ℕ) → n < 1 → CallsEnd holding 1 n
    calls zero less = tt
    calls (suc n) less = absurd (omega (arith, less))

-- ---- the items

abbrev x_variable : kir.Variable
x_variable = record { calls = []; function = 0; number = 0 }

-- the points of the program at which the lines stand
abbrev by_place : Place → ProgramPoint
by_place [] = Nth 0 ∷ Own 0 ∷ []
by_place (Behind ∷ []) = Nth 1 ∷ []
by_place (Behind ∷ (Behind ∷ [])) = Nth 2 ∷ Operand 0 ∷ []
by_place _ = []

abbrev in_program : Point → ProgramPoint
in_program point = by_place point.at

abbrev start_frame : Launch → ℕ → Frame
start_frame launch item = kernel_frame holding launch item

abbrev set_frame : Launch → ℕ → Frame
set_frame launch item = set_in (kernel_frame holding launch item) 0 (pos 1)

abbrev program_item : ℕ → List Task → List ℤ → Frame → ProgramItem
program_item item tasks values frame = record { number = item; tasks = tasks; values = values; frames = frame ∷ [] }

abbrev kernel_item : ℕ → (ℕ → ℤ) → Tasks → Item
kernel_item item cells tasks = record { number = item; cells = cells; tasks = tasks }

abbrev use_task : Task
use_task = Run (Nth 2 ∷ []) (Do (Apply (Variable 0) none))

abbrev wait_task : Task
wait_task = Run (Nth 1 ∷ []) (Barrier 0)

abbrev keep_task : Task
keep_task = Keep (Nth 0 ∷ []) 0

-- step by step: before the first line, at the barrier, behind it, and at the end
data Stage (launch : Launch) : Item → ProgramItem → Type 0 where
  before : (item : ℕ) → Stage launch (kernel_item item (λ c. pos 0) (LinesAt [] holding_lines NoTask))
      (program_item item (Run [] (Block holding_body) ∷ []) [] (start_frame launch item))
  waiting : (item : ℕ) (cells : ℕ → ℤ) → cells 0 ≡ pos 1 →
      Stage launch (kernel_item item cells
      (LinesAt (Behind ∷ []) (BarrierThen 0 (SetThen 1 (Copy (CellAtom 0)) NoLine)) NoTask))
      (program_item item (wait_task ∷ use_task ∷ []) [] (set_frame launch item))
  passed : (item : ℕ) (cells : ℕ → ℤ) → cells 0 ≡ pos 1 →
      Stage launch (kernel_item item cells (LinesAt (Behind ∷ Behind ∷ []) (SetThen 1 (Copy (CellAtom 0)) NoLine)
      NoTask)) (program_item item (use_task ∷ []) [] (set_frame launch item))
  done : (item : ℕ) (cells : ℕ → ℤ) →
      Stage launch (kernel_item item cells (LinesAt (Behind ∷ Behind ∷ Behind ∷ []) NoLine NoTask))
      (program_item item [] [] (set_frame launch item))
  over : (item : ℕ) (cells : ℕ → ℤ) →
      Stage launch (kernel_item item cells NoTask) (program_item item [] [] (set_frame launch item))

matches : (launch : Launch) (i : Item) (j : ProgramItem) → Stage launch i j
    → (k : ℕ) × (j' : ProgramItem) × GoesIn (program_next holding launch) k j j' ×
    MatchesAt (program_machine holding launch) (Stage launch) (option_map in_program (point_of i.tasks))
    (item_next holding_kernel launch i) j'
matches launch _ _ (before item) = (
  4,
  program_item item (wait_task ∷ use_task ∷ []) [] (set_frame launch item),
  (_, refl, (_, refl, (_, refl, (_, refl, refl)))),
  waiting item _ refl,
)
matches launch _ _ (waiting item cells e) = (
  0,
  program_item item (wait_task ∷ use_task ∷ []) [] (set_frame launch item),
  refl,
  (both_wait (passed item cells e), λ w. refl),
)
matches launch _ _ (passed item cells e) =
    (3, program_item item [] [] (set_frame launch item), (_, refl, (_, refl, (_, refl, refl))), done item _)
matches launch _ _ (done item cells) = (0, program_item item [] [] (set_frame launch item), refl, over item cells)
matches launch _ _ (over item cells) =
    (0, program_item item [] [] (set_frame launch item), refl, (both_end, λ w. absurd w))

-- ---- the one variable, and the one barrier

only_x : (v : kir.Variable) (c : ℕ) → IsCellOf holding_kernel v c → (c ≡ 0) × (v ≡ x_variable)
only_x v zero h = (refl, sym (subst (λ (x : Cell). IsOf v x.kind) (sym (same_Some _ _ h.there)) h.is_of))
only_x v (suc zero) h = absurd (subst (λ (x : Cell). IsOf v x.kind) (sym (same_Some _ _ h.there)) h.is_of)
only_x v (suc (suc c)) h = absurd (none-some h.cell h.there)

-- the lines behind the first
data After : Lines → Type 0 where
  a1 : After (BarrierThen 0 (SetThen 1 (Copy (CellAtom 0)) NoLine))
  a2 : After (SetThen 1 (Copy (CellAtom 0)) NoLine)
  a3 : After NoLine

after_behind : (L : Lines) → After L → After (behind L)
after_behind _ a1 = a2
after_behind _ a2 = a3
after_behind _ a3 = a3

after_chosen : (L : Lines) → After L → After (chosen_of L)
after_chosen _ a1 = a3
after_chosen _ a2 = a3
after_chosen _ a3 = a3

after_other : (L : Lines) → After L → After (other_of L)
after_other _ a1 = a3
after_other _ a2 = a3
after_other _ a3 = a3

after_test : (L : Lines) → After L → After (test_of L)
after_test _ a1 = a3
after_test _ a2 = a3
after_test _ a3 = a3

after_body : (L : Lines) → After L → After (body_of L)
after_body _ a1 = a3
after_body _ a2 = a3
after_body _ a3 = a3

after_leg : (leg : Leg) (at : Place) → After (lines_at holding_lines (leg ∷ at))
after_leg Behind [] = a1
after_leg IntoChosen [] = a3
after_leg IntoOther [] = a3
after_leg IntoTest [] = a3
after_leg ToAnswer at = a3
after_leg IntoBody [] = a3
after_leg Behind (leg ∷ at) = after_behind _ (after_leg leg at)
after_leg IntoChosen (leg ∷ at) = after_chosen _ (after_leg leg at)
after_leg IntoOther (leg ∷ at) = after_other _ (after_leg leg at)
after_leg IntoTest (leg ∷ at) = after_test _ (after_leg leg at)
after_leg IntoBody (leg ∷ at) = after_body _ (after_leg leg at)

none_behind : (L : Lines) → After L → is_barrier (behind L) ≡ false
none_behind _ a1 = refl
none_behind _ a2 = refl
none_behind _ a3 = refl

none_chosen : (L : Lines) → After L → is_barrier (chosen_of L) ≡ false
none_chosen _ a1 = refl
none_chosen _ a2 = refl
none_chosen _ a3 = refl

none_other : (L : Lines) → After L → is_barrier (other_of L) ≡ false
none_other _ a1 = refl
none_other _ a2 = refl
none_other _ a3 = refl

none_test : (L : Lines) → After L → is_barrier (test_of L) ≡ false
none_test _ a1 = refl
none_test _ a2 = refl
none_test _ a3 = refl

none_body : (L : Lines) → After L → is_barrier (body_of L) ≡ false
none_body _ a1 = refl
none_body _ a2 = refl
none_body _ a3 = refl

no_second : (leg leg' : Leg) (at : Place) → is_barrier (lines_at holding_lines (leg ∷ (leg' ∷ at))) ≡ false
no_second Behind leg' at = none_behind _ (after_leg leg' at)
no_second IntoChosen leg' at = none_chosen _ (after_leg leg' at)
no_second IntoOther leg' at = none_other _ (after_leg leg' at)
no_second IntoTest leg' at = none_test _ (after_leg leg' at)
no_second ToAnswer leg' at = refl
no_second IntoBody leg' at = none_body _ (after_leg leg' at)

no_first : (leg : Leg) → is_barrier (lines_at holding_lines (leg ∷ [])) ≡ true → leg ≡ Behind
no_first Behind e = refl
no_first IntoChosen e = absurd (true≢false (sym e))
no_first IntoOther e = absurd (true≢false (sym e))
no_first IntoTest e = absurd (true≢false (sym e))
no_first ToAnswer e = absurd (true≢false (sym e))
no_first IntoBody e = absurd (true≢false (sym e))

abbrev the_barrier : Point
the_barrier = record { at = Behind ∷ []; begun = [] }

one_barrier : (point : Point) → IsBarrierPoint holding_lines point → point ≡ the_barrier
one_barrier point b = by_parts point.at point.begun refl refl b.barrier b.each_loop
  where
    by_begun : (begun : List ℕ) → length begun ≡ 0 → begun ≡ []
    by_begun [] e = refl
    by_begun (k ∷ begun) e = absurd (omega (arith, e))

    by_parts : (at : Place) (begun : List ℕ) → point.at ≡ at → point.begun ≡ begun →
        is_barrier (lines_at holding_lines at) ≡ true → length begun ≡ loops_around at → point ≡ the_barrier
    by_parts [] begun e f bar each = absurd (true≢false (sym bar))
    by_parts (leg ∷ []) begun e f bar each =
        let is = no_first leg bar in
        let none = by_begun begun (subst (λ l. length begun ≡ loops_around (l ∷ [])) is each) in
        λ k. record { at = (e ∙ ap (λ l. l ∷ []) is) k; begun = (f ∙ none) k }
    by_parts (leg ∷ (leg' ∷ at)) begun e f bar each = absurd (true≢false (sym bar ∙ no_second leg leg' at))

-- ---- behind the barrier the program's item does not come to it again

abbrev drop_task : Task
drop_task = Discard (Nth 2 ∷ Own 0 ∷ [])

abbrev read_task : Task
read_task = Evaluate (Nth 2 ∷ Operand 0 ∷ []) (Apply (Variable 0) none)

data Past (launch : Launch) (item : ℕ) : ProgramItem → Type 0 where
  p6 : Past launch item (program_item item (read_task ∷ drop_task ∷ []) [] (set_frame launch item))
  p7 : Past launch item (program_item item (drop_task ∷ []) (pos 1 ∷ []) (set_frame launch item))
  p8 : Past launch item (program_item item [] [] (set_frame launch item))

-- the number of the first statement on a way
number_of : Option ProgramPoint → ℕ
number_of None = 0
number_of (Some []) = 0
number_of (Some (Nth k ∷ way)) = k
number_of (Some (_ ∷ way)) = 0

not_again : (launch : Launch) (buffers : List (List ℕ)) (item : ℕ) (j : ProgramItem) (point : Option ProgramPoint) →
    Past launch item j → ProgramCanCome holding launch buffers j point → point ≡ Some (Nth 1 ∷ []) → ⊥
unfolding number_of
not_again launch buffers item _ _ p6 arrived e = let two_is_one : 2 ≡ 1 = ap number_of e in omega (arith, two_is_one)
not_again launch buffers item _ _ p7 arrived e = let two_is_one : 2 ≡ 1 = ap number_of e in omega (arith, two_is_one)
not_again launch buffers item _ _ p8 arrived e = none-some _ e
not_again launch buffers item _ point p6 (by_step m c) e =
    not_again launch buffers item _ point (subst (Past launch item) m p7) c e
not_again launch buffers item _ point p7 (by_step m c) e =
    not_again launch buffers item _ point (subst (Past launch item) m p8) c e
not_again launch buffers item _ point p8 (by_step m c) e = m
not_again launch buffers item _ point p6 (by_test t c) e = true≢false (sym t.0)
not_again launch buffers item _ point p7 (by_test t c) e = true≢false (sym t.0)
not_again launch buffers item _ point p8 (by_test t c) e = true≢false (sym t.0)

-- ---- how the two stand

same_point : (at : Place) (point : Point) → Some (record { at = at; begun = [] }) ≡ Some point →
    Some (by_place at) ≡ Some (in_program point)
same_point at point e = ap (λ (p : Point). Some (by_place p.at)) (same_Some (record { at = at; begun = [] }) point e)

never : {A : Type 0} → false ≡ true → A
never e = absurd (true≢false (sym e))

-- the cells behind a step that goes
abbrev cells_of : Item → Next Item → ℕ → ℤ
cells_of i (Goes after) = after.cells
cells_of i _ = i.cells

in_scope : (launch : Launch) (item : ℕ) (tasks : List Task) (way : ProgramPoint) →
    first_point tasks ≡ Some (Nth 1 ∷ way) → way ≡ [] →
    IsInScope holding x_variable (program_item item tasks [] (set_frame launch item))
in_scope launch item tasks way e is = record {
  point = Nth 1 ∷ [];
  stands = e ∙ ap (λ w. Some (Nth 1 ∷ w)) is;
  scoped = inl (refl, refl);
  value = pos 1;
  there = refl;
}

-- where the declaration keeps its value, the next point in scope has it
kept_value : (launch : Launch) (buffers : List (List ℕ)) (item : ℕ) (deeds : List Deed) (j' : ProgramItem)
    → ComesToScope holding launch buffers x_variable (program_item item (keep_task ∷ wait_task ∷ use_task ∷ [])
    (pos 1 ∷ []) (start_frame launch item)) deeds j' → value_in j'.frames x_variable ≡ Some (pos 1)
kept_value launch buffers item deeds j' (arrives {deeds = ds} step here) = by_deeds ds step
  where
    frames_of : ProgramItem → Next ProgramItem → List Frame
    frames_of i (Goes after) = after.frames
    frames_of i _ = i.frames

    by_deeds : (ds : List Deed) → StepsTo (lengths_of holding launch buffers) (MayBeTold holding launch buffers)
        (program_next holding launch (program_item item (keep_task ∷ wait_task ∷ use_task ∷ []) (pos 1 ∷ [])
        (start_frame launch item))) ds j' → value_in j'.frames x_variable ≡ Some (pos 1)
    by_deeds [] step = sym (ap (λ n. value_in (frames_of j' n) x_variable) step)
    by_deeds (d ∷ []) step = absurd step
    by_deeds (d ∷ (d' ∷ ds)) step = absurd step
kept_value launch buffers item _ j' (passes {mid = mid} ds more step away rest) = absurd (by_deeds ds step)
  where
    state_of : ProgramItem → Next ProgramItem → ProgramItem
    state_of i (Goes after) = after
    state_of i _ = i

    by_deeds : (ds : List Deed) → StepsTo (lengths_of holding launch buffers) (MayBeTold holding launch buffers)
        (program_next holding launch (program_item item (keep_task ∷ wait_task ∷ use_task ∷ []) (pos 1 ∷ [])
        (start_frame launch item))) ds mid → ⊥
    by_deeds [] step = away (subst (IsInScope holding x_variable) (ap (state_of mid) step)
        (in_scope launch item (wait_task ∷ use_task ∷ []) [] refl refl))
    by_deeds (d ∷ []) step = step
    by_deeds (d ∷ (d' ∷ ds)) step = step

alike : (launch : Launch) (buffers : List (List ℕ)) (i : Item) (j : ProgramItem) → Stage launch i j →
    (k : ℕ) × (j' : ProgramItem) × GoesIn (program_next holding launch) k j j' ×
    AreAlike holding holding_kernel in_program launch buffers i j'
alike launch buffers _ _ (before item) = (
  3,
  program_item item (keep_task ∷ wait_task ∷ use_task ∷ []) (pos 1 ∷ []) (start_frame launch item),
  (_, refl, (_, refl, (_, refl, refl))),
  record {
    same_next = tt;
    waits = λ w. absurd w;
    parting = λ point b no come. no
        (subst (λ p. ItemCanCome holding_kernel launch
        (kernel_item item (λ c. pos 0) (LinesAt [] holding_lines NoTask)) (Some p)) (sym (one_barrier point b))
        (by_step refl arrived));
    reads_alike = λ v c h e. never e;
    reads_value = λ v c h e. never e;
    sets_alike = λ v c h e point is. same_point [] point is;
    sets_value = λ v c h e done more i' j' step come.
        let only = only_x v c h in
        let scoped = subst (λ u. ComesToScope holding launch buffers u
        (program_item item (keep_task ∷ wait_task ∷ use_task ∷ []) (pos 1 ∷ []) (start_frame launch item))
        (done ++ more) j') only.1 come in
        ap (value_in j'.frames) only.1 ∙ kept_value launch buffers item (done ++ more) j' scoped ∙
        ap (λ z. Some z) (sym (set_cell item done i' step) ∙ ap i'.cells (sym only.0));
  },
)
  where
    set_cell : (item : ℕ) (done : List Deed) (i' : Item) →
        StepsTo (lengths_of (shell_of holding_kernel) launch buffers)
        (MayBeTold (shell_of holding_kernel) launch buffers)
        (item_next holding_kernel launch (kernel_item item (λ c. pos 0) (LinesAt [] holding_lines NoTask))) done i' →
        i'.cells 0 ≡ pos 1
    set_cell item [] i' step = sym (ap (λ n. cells_of i' n 0) step)
    set_cell item (d ∷ []) i' step = absurd step
    set_cell item (d ∷ (d' ∷ ds)) i' step = absurd step
alike launch buffers _ _ (waiting item cells e) = (
  0,
  program_item item (wait_task ∷ use_task ∷ []) [] (set_frame launch item),
  refl,
  record {
    same_next = refl;
    waits = λ w point is. same_point (Behind ∷ []) point is;
    parting = λ point b no come. no
        (subst (λ p. ItemCanCome holding_kernel launch
        (kernel_item item cells (LinesAt (Behind ∷ []) (BarrierThen 0 (SetThen 1 (Copy (CellAtom 0)) NoLine))
        NoTask)) (Some p)) (sym (one_barrier point b)) arrived);
    reads_alike = λ v c h e. never e;
    reads_value = λ v c h e. never e;
    sets_alike = λ v c h e. never e;
    sets_value = λ v c h e. never e;
  },
)
alike launch buffers _ _ (passed item cells e) = (
  1,
  program_item item (read_task ∷ drop_task ∷ []) [] (set_frame launch item),
  (_, refl, refl),
  record {
    same_next = tt;
    waits = λ w. absurd w;
    parting = λ point b no come. not_again launch buffers item _ _ p6 come
        (ap (λ (p : Point). Some (in_program p)) (one_barrier point b));
    reads_alike = λ v c h r point is. same_point (Behind ∷ Behind ∷ []) point is;
    reads_value = λ v c h r. let only = only_x v c h in ap (value_in (set_frame launch item ∷ [])) only.1 ∙
        ap (λ z. Some z) (sym e ∙ ap cells (sym only.0));
    sets_alike = λ v c h r. let only = only_x v c h in never (sym (ap (λ k. nat_eq k 1) only.0) ∙ r);
    sets_value = λ v c h r. let only = only_x v c h in never (sym (ap (λ k. nat_eq k 1) only.0) ∙ r);
  },
)
alike launch buffers _ _ (done item cells) = (
  0,
  program_item item [] [] (set_frame launch item),
  refl,
  record {
    same_next = tt;
    waits = λ w. absurd w;
    parting = λ point b no come. not_again launch buffers item _ _ p8 come
        (ap (λ (p : Point). Some (in_program p)) (one_barrier point b));
    reads_alike = λ v c h e. never e;
    reads_value = λ v c h e. never e;
    sets_alike = λ v c h e. never e;
    sets_value = λ v c h e. never e;
  },
)
alike launch buffers _ _ (over item cells) = (
  0,
  program_item item [] [] (set_frame launch item),
  refl,
  record {
    same_next = tt;
    waits = λ w. absurd w;
    parting = λ point b no come. not_again launch buffers item _ _ p8 come
        (ap (λ (p : Point). Some (in_program p)) (one_barrier point b));
    reads_alike = λ v c h e. never e;
    reads_value = λ v c h e. never e;
    sets_alike = λ v c h e. never e;
    sets_value = λ v c h e. never e;
  },
)

has_steps : (launch : Launch) (buffers : List (List ℕ)) → HasSteps holding holding_kernel in_program launch buffers
has_steps launch buffers = record {
  R = λ n i j. Stage launch i j;
  steps = record { same_group = λ item. refl; fewer = λ n i j r. r; matches = λ n i j r. matches launch i j r };
  alike = λ n i j r. alike launch buffers i j r;
  start = λ n item. before item;
}

kernel_fits : is_kernel holding_kernel ≡ true
unfolding modulus half
kernel_fits = refl

pub holding_matches : HoldingMatches
holding_matches = from_steps holding holding_kernel valid kernel_fits refl (record {
  parameters = refl;
  tables = refl;
  sites = refl;
}) in_program (λ launch fits sizes buffers fit. has_steps launch buffers)
