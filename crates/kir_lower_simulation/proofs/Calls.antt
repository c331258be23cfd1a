-- The lines of a call do what the call does: by induction on how deep calls may nest.
use Rattle.std.proofs.Common.{◌≡◌, ℕ, zero, suc, ◌+◌, ◌<◌, ◌≤◌, ℤ, pos, List, [], ◌∷◌, ◌++◌, length, Option, Some}
use Rattle.std.proofs.Common.{None, refl, sym, ap, ap₂, ◌∙◌, subst, arith, length-append, append_assoc, inl, inr}
use Rattle.std.proofs.Common.{true, false}
use Rattle.std.proofs.Common.{Bool as Test}
use Rattle.std.specs.Prelude.{nat_lt}
use Rattle.std.proofs.lemmas.Bool.{ltb-true, ltb-false}
use Rattle.std.proofs.lemmas.List.{length-map}
use Rattle.std.proofs.lemmas.Option.{none-some, same_Some}
use Rattle.work_items.specs.Items.{Goes}
use Rattle.wg_num.specs.declared.types.IntType.{IntType}
use Rattle.wg_num.specs.declared.types.IntType.TheVariants.{Int}
use Rattle.cl_model.specs.declared.program.Root.{Root}
use Rattle.cl_model.specs.Tree.{Block, Function}
use Rattle.cl_model.specs.Agreement.{IsInBody, IsScopedAt}
use Rattle.cl_model.specs.Calls.{calls_of_all, function_at}
use Rattle.cl_model.specs.Task.{Into, Own, Nth, Point as ProgramPoint, Task, Run, Enter, InCall, Item as ProgramItem}
use Rattle.cl_model.specs.Task.{first_point}
use Rattle.cl_model.specs.Steps.{nth, in_order, new_frame, item_next as program_next}
use Rattle.cl_model.specs.Valid.{Has, numbers_below, parameter_kinds, IsValid, CallsEnd}
use Rattle.kir.specs.declared.line.Atom.{Atom}
use Rattle.kir.specs.declared.line.Atom.TheVariants.{Const, Cell as CellAtom}
use Rattle.kir.specs.Tree.{Copy, Lines, joined_to, OfFlag, OfValue}
use Rattle.kir.specs.Places.{Behind, Place, Tasks, LinesAt, begun_in}
use Rattle.kir.specs.Homes.{IsCellOf}
use Rattle.kir.specs.Lowering.{Named, HasArrays, HasParts}
use Rattle.kir.specs.Matching.{value_in}
use Rattle.kir.specs.Steps.{Item, atom_value}
use Rattle.kir_lower.specs.declared.places.Value.{Value}
use Rattle.kir_lower.specs.Made.{Made, Instance, next_cell, with_cell, argument_roots, int, variable_cells}
use Rattle.kir_lower.specs.Actions.{opened, atoms_of}
use Rattle.kir_lower.specs.Code.{Calls, list_code, result_code, body_code}
use Rattle.kir_lower.specs.Ways.{way_out_of_all}
use Rattle.kir_lower.specs.Whole.{names_at, way_behind, instance_at, with_instance, parameter_lines, call_code}
use Rattle.kir_lower_shape.specs.Marks.{Way, further, Marks, marks_then, all_marked, marks_at, marks_behind}
use Rattle.kir_lower_shape.specs.CodeMarks.{CallMarks, list_marks, marks_in_order, body_marks, call_marks}
use Rattle.kir_lower_shape.specs.Names.{AreNamed}
use Rattle.kir_lower_shape.proofs.Making.{call_of, result_makes, opened_makes, list_makes}
use Rattle.kir_lower_shape.proofs.Arguments.{length_take}
use Rattle.kir_lower_shape.proofs.Below.{valid_any}
use Rattle.kir_lower_shape.proofs.Scoped.{argument_count, has_below}
use Rattle.kir_lower_shape.proofs.Shapes.{call_shaped}
use Rattle.kir_lower_shape.proofs.Variables.{get_there, variable_count}
use Rattle.kir_lower_simulation.specs.Setting.{Setting, Store, updated, kernel_item, Activation, frame, inside}
use Rattle.kir_lower_simulation.specs.Setting.{behind_variables, own_variable, program_item}
use Rattle.kir_lower_simulation.specs.Exits.{Exit, Continues, Breaks, Returns, unwound, given_by}
use Rattle.kir_lower_simulation.specs.Held.{Within, IsMade, IsFixedAtom, IsFixed, AreFixed, Holding, Same, IsWithin}
use Rattle.kir_lower_simulation.specs.Facts.{Rules}
use Rattle.kir_lower_simulation.specs.Ready.{AreNext, Adds, IsUnderWay, LeadsToList}
use Rattle.kir_lower_simulation.specs.Bodies.{entered, IsBody, ReadyList}
use Rattle.kir_lower_simulation.proofs.Lines.{Comes, at_once, own_value, updated_same, updated_other, Sim, value_line}
use Rattle.kir_lower_simulation.proofs.Lines.{stay_line}
use Rattle.kir_lower_simulation.proofs.Keeping.{Grows, grows_same, grows_before, grows_with, grows_count, next_with}
use Rattle.kir_lower_simulation.proofs.Keeping.{within_less, value_made, flag_made, made_no_variable, fixed_plain}
use Rattle.kir_lower_simulation.proofs.Keeping.{fixed_more}
use Rattle.kir_lower_simulation.proofs.Fixing.{has_owned}
use Rattle.kir_lower_simulation.proofs.Expressions.{marks_assoc, pushed, below_pushed, taken_pushed, at_lines}
use Rattle.kir_lower_simulation.proofs.Expressions.{CallsFollow, AreCalls}
use Rattle.kir_lower_simulation.proofs.Loops.{own_cell}
use Rattle.kir_lower_simulation.proofs.Turning.{exits_opened, has_opened}
use Rattle.kir_lower_simulation.proofs.Statements.{in_order_follows}
use Rattle.kir_lower_simulation.proofs.Following.{Heads, list_follows}
use Rattle.kir_lower_simulation.proofs.Sounding.{sound_body}
use Rattle.kir_lower_simulation.proofs.Scoping.{never_scoped}
use Rattle.kir_lower_simulation.proofs.Calling.{calls_grow, calls_add, under_way, next_inside}

-- ---- the value of a call

-- the result is a constant, or a new cell
result_fixed : (S : Setting) (low : ℕ) (result : Option IntType) (m : Made) → low ≤ next_cell m →
    Within S (result_code result m).made →
    IsFixed S low (next_cell (result_code result m).made) (result_code result m).value
result_fixed S low None m le w = refl
result_fixed S low (Some of) m le w = let n = next_with m OfValue of in (le, omega (arith, n), value_made S m of w)

module _ (S : Setting) (names : List (List Named)) (named : AreNamed S.program names) where
  -- the cells of an instance
  with_count : (C : Activation) (site g : ℕ) (roots : List (Option Root)) (m : Made)
      → next_cell (with_instance (way_behind S.program C.here site g (argument_roots C.here roots)) (names_at names g)
      (function_at S.program g) m) ≡ next_cell m + length (function_at S.program g).variables
  with_count C site g roots m =
      let there = way_behind S.program C.here site g (argument_roots C.here roots) in
      let own = variable_cells there.calls there.places g 0 (names_at names g) (function_at S.program g).variables in
      let a = length-append m.cells own in
      let b = variable_count there.calls there.places g 0 (names_at names g) (function_at S.program g).variables
      (named g) in
      omega (arith, a, b)

  -- the body of a called function, behind its result
  body_grown : (C : Activation) (site g : ℕ) (roots : List (Option Root)) (m : Made) → (calls : Calls) →
      ((here : Instance) (site function : ℕ) (roots : List Root) (values : List Value) (m : Made) →
      Grows (call_of site function ∷ []) m (calls here site function roots values m).made)
      → (m1 : Made) (here : Instance) (f : Function) →
      Grows (calls_of_all f.body) (opened (way_out_of_all true true f.body) 0 (result_code f.result m1).made).made
      (body_code calls here f m1).made
  body_grown C site g roots m calls grow m1 here f =
      list_makes Grows grows_same grows_before (λ m of. grows_with OfValue m of) (λ m of. grows_with OfFlag m of)
      calls here (grow here) (opened (way_out_of_all true true f.body) 0 (result_code f.result m1).made).exit
      false f.body (opened (way_out_of_all true true f.body) 0 (result_code f.result m1).made).made

  pub call_fixed : (C : Activation) (site g : ℕ) (roots : List (Option Root)) (values : List Value) (count : ℕ)
      (m : Made) → C.low ≤ next_cell m →
      Within S (call_code S.program names (suc C.depth) C.here site g (argument_roots C.here roots) values m).made
      → IsFixed S C.low (next_cell (call_code S.program names (suc C.depth) C.here site g
      (argument_roots C.here roots) values m).made) (call_code S.program names (suc C.depth) C.here site g
      (argument_roots C.here roots) values m).value
  unfolding call_code
  call_fixed C site g roots values count m le w =
      let f = function_at S.program g in
      let there = way_behind S.program C.here site g (argument_roots C.here roots) in
      let m1 = with_instance there (names_at names g) f m in
      let cr = result_code f.result m1 in
      let co = opened (way_out_of_all true true f.body) 0 cr.made in
      let grow_all = body_grown C site g roots m (call_code S.program names C.depth) (λ h s k r v m.
      calls_grow S.program names C.depth h s k r v m) m1 (instance_at there f m) f in
      let grow_open = opened_makes Grows grows_same grows_before (λ m of. grows_with OfValue m of)
      (λ m of. grows_with OfFlag m of) (way_out_of_all true true f.body) 0 cr.made in
      let w1 = within_less S [] cr.made co.made grow_open
      (within_less S (calls_of_all f.body) co.made (body_code (call_code S.program names C.depth)
      (instance_at there f m) f m1).made grow_all w) in
      let cb = body_code (call_code S.program names C.depth) (instance_at there f m) f m1 in
      let a = with_count C site g roots m in
      let b = grows_count [] cr.made co.made grow_open in
      let c = grows_count (calls_of_all f.body) co.made cb.made grow_all in
      fixed_more S C.low (next_cell cr.made) (next_cell cb.made) cr.value (omega (arith, b, c))
      (result_fixed S C.low f.result m1 (omega (arith, a, le)) w1)

-- ---- the parameters

-- the atoms hold what the variables from one on hold
abbrev HeldFrom : Store → Store → List Value → ℕ → Type 0
HeldFrom cells vars [] i = Unit {0}
HeldFrom cells vars (value ∷ values) i = (atom_value cells value.atom ≡ vars i) × HeldFrom cells vars values (suc i)

same_head : (a b : ℤ) (xs ys : List ℤ) → a ∷ xs ≡ b ∷ ys → a ≡ b
same_head a b xs ys e = cc

same_tail : (a b : ℤ) (xs ys : List ℤ) → a ∷ xs ≡ b ∷ ys → xs ≡ ys
same_tail a b xs ys e = cc

-- as arguments do
held_from : (cells vars : Store) (values : List Value) (args : List ℤ) (i : ℕ) → Holding cells values args →
    ((y : ℕ) → vars (i + y) ≡ nth args y) → HeldFrom cells vars values i
held_from cells vars [] args i h all = tt
held_from cells vars (value ∷ values) [] i h all = absurd (let k = ap (λ z. length z) h in omega (arith, k))
held_from cells vars (value ∷ values) (a ∷ args) i h all = (
  same_head _ a _ args h ∙ sym (all 0) ∙ ap vars (omega arith),
  held_from cells vars values args (suc i) (same_tail _ a _ args h)
      (λ y. ap vars (let e : suc i + y ≡ i + suc y = omega arith in e) ∙ all (suc y)),
)

-- a cell that is set is none of fixed atoms
fixed_apart : (S : Setting) (low high : ℕ) (value : Value) (cells : Store) (to : ℕ) (w : ℤ) →
    IsFixed S low high value → high ≤ to → atom_value (updated cells to w) value.atom ≡ atom_value cells value.atom
fixed_apart S low high value cells to w f le = by value.atom f
  where
    by : (a : Atom) → IsFixedAtom S low high a value.of → atom_value (updated cells to w) a ≡ atom_value cells a
    by (Const v of) f = refl
    by (CellAtom c) f = updated_other cells to w c (λ e. omega (arith, e, le, f.1))

held_apart : (S : Setting) (low high : ℕ) (values : List Value) (cells vars : Store) (i to : ℕ) (w : ℤ) →
    AreFixed S low high values → high ≤ to → HeldFrom cells vars values i → HeldFrom (updated cells to w) vars values i
held_apart S low high [] cells vars i to w f le h = tt
held_apart S low high (value ∷ values) cells vars i to w f le h = (
  fixed_apart S low high value cells to w f.0 le ∙ h.0,
  held_apart S low high values cells vars (suc i) to w f.1 le h.1,
)

module _ (S : Setting) (G : ℕ → Item → ProgramItem → Type 0) (R : Rules S G) where
  -- the program's item stands before its step into the function
  module _ (low : ℕ) (D : Activation) (way : Way) (n : ℕ) (T : Lines) (tm : Marks) (k : Tasks) (j j1 : ProgramItem)
      (vars : Store) (many : ℕ)
      (stands : first_point j.tasks ≡ Some (way (begun_in k))) (goes : program_next S.program S.launch j ≡ Goes j1)
      (own : (x : ℕ) → x < many → IsCellOf S.kernel (own_variable D x) (D.here.base + x)) (comes : (x : ℕ) →
      x < many → Comes S (own_variable D x) j1)
      (holds : (x : ℕ) → value_in j1.frames (own_variable D x) ≡ Some (vars x)) where
    parameters_follow : (values : List Value) (i cell : ℕ) (at : Place) (cells : Store) → cell ≡ D.here.base + i →
        many ≡ i + length values → AreFixed S low D.here.base values → HeldFrom cells vars values i
        → marks_at S.marks at ≡ marks_then (all_marked way (parameter_lines cell values)) tm
        → ((at' : Place) (new : Store) → marks_at S.marks at' ≡ tm → ((c : ℕ) → c < D.here.base → new c ≡ cells c) →
        ((x : ℕ) → x < i → new (D.here.base + x) ≡ cells (D.here.base + x)) →
        ((x : ℕ) → i ≤ x → x < many → new (D.here.base + x) ≡ vars x)
        → G n (kernel_item S new (LinesAt at' T k)) j)
        → G n (kernel_item S cells (LinesAt at (joined_to (parameter_lines cell values) T) k)) j
    parameters_follow [] i cell at cells e total f h m go =
        go at cells m (λ c l. refl) (λ x l. refl) (λ x a b. absurd (omega (arith, a, b, total)))
    parameters_follow (value ∷ values) i cell at cells e total f h m go =
        let w = atom_value cells value.atom in
        let c1 = updated cells cell w in
        let base = D.here.base in
        stay_line S G R D n cells at (Copy value.atom) (joined_to (parameter_lines (cell + 1) values) T) k j j1
        (own_variable D i) cell way (marks_then (all_marked way (parameter_lines (cell + 1) values)) tm)
        (fixed_plain S low base value f.0) (subst (λ z. IsCellOf S.kernel (own_variable D i) z) (sym e)
        (own i (omega (arith, total)))) m stands goes (comes i (omega (arith, total)))
        (holds i ∙ ap (λ z. Some z) (sym h.0))
        (parameters_follow values (suc i) (cell + 1) (Behind ∷ at) c1 (omega (arith, e)) (omega (arith, total)) f.1
        (held_apart S low base values cells vars (suc i) cell w f.1 (omega (arith, e)) h.1) (ap marks_behind m)
        (λ at' new m' below_ before_ here_.
        go at' new m' (λ c l. below_ c l ∙ updated_other cells cell w c (λ q. omega (arith, q, e, l)))
        (λ x l. before_ x (omega (arith, l)) ∙ updated_other cells cell w (base + x) (λ q. omega (arith, q, e, l)))
        (λ x a b. by_first x (nat_lt i x) refl a b new before_ here_)))
      where
        by_first : (x : ℕ) (t : Test) → nat_lt i x ≡ t → i ≤ x → x < many → (new : Store) →
            ((y : ℕ) → y < suc i → new (D.here.base + y) ≡ updated cells cell (atom_value cells value.atom)
            (D.here.base + y)) → ((y : ℕ) → suc i ≤ y → y < many → new (D.here.base + y) ≡ vars y) →
            new (D.here.base + x) ≡ vars x
        by_first x true t a b new before_ here_ = let l = ltb-true i x t in here_ x (omega (arith, l)) b
        by_first x false t a b new before_ here_ =
            let l = ltb-false i x t in
            let same : x ≡ i = omega (arith, l, a) in
            let there : D.here.base + x ≡ cell = omega (arith, same, e) in
            before_ x (omega (arith, same)) ∙ ap (updated cells cell (atom_value cells value.atom)) there ∙
            updated_same cells cell (atom_value cells value.atom) ∙ h.0 ∙ ap vars (sym same)

  -- ---- the cells of the result and of a way out

  result_follows : (result : Option IntType) (m : Made) (n : ℕ) (T : Lines) (way : Way) (tm : Marks) (k : Tasks)
      (at : Place) (cells : Store) (j : ProgramItem) (C : Activation) → Within S (result_code result m).made
      → marks_at S.marks at ≡ marks_then (all_marked way (result_code result m).lines) tm
      → ((at' : Place) (new : Store) → marks_at S.marks at' ≡ tm → ((c : ℕ) → c < next_cell m → new c ≡ cells c) →
      atom_value new (result_code result m).value.atom ≡ pos 0 → G n (kernel_item S new (LinesAt at' T k)) j)
      → G n (kernel_item S cells (LinesAt at (joined_to (result_code result m).lines T) k)) j
  result_follows None m n T way tm k at cells j C w e go = go at cells e (λ c l. refl) refl
  result_follows (Some of) m n T way tm k at cells j C w e go =
      value_line S G R C n cells at (next_cell m) (Copy (Const (pos 0) of)) T k j
      (made_no_variable S (next_cell m) of (value_made S m of w)) (λ v c is. refl)
      (go (Behind ∷ at) (updated cells (next_cell m) (pos 0)) (ap marks_behind e)
      (λ c l. updated_other cells (next_cell m) (pos 0) c (λ q. omega (arith, q, l)))
      (updated_same cells (next_cell m) (pos 0)))

  opened_follows : (out : Option ℕ) (exit : ℕ) (m : Made) (n : ℕ) (T : Lines) (way : Way) (tm : Marks) (k : Tasks)
      (at : Place) (cells : Store) (j : ProgramItem) (C : Activation) → Within S (opened out exit m).made
      → marks_at S.marks at ≡ marks_then (all_marked way (opened out exit m).lines) tm
      → ((at' : Place) (new : Store) → marks_at S.marks at' ≡ tm → ((c : ℕ) → c < next_cell m → new c ≡ cells c) →
      ((c : ℕ) → own_cell out None m ≡ Some c → new c ≡ pos 0) → G n (kernel_item S new (LinesAt at' T k)) j)
      → G n (kernel_item S cells (LinesAt at (joined_to (opened out exit m).lines T) k)) j
  opened_follows None exit m n T way tm k at cells j C w e go =
      go at cells e (λ c l. refl) (λ c q. absurd (none-some c q))
  opened_follows (Some o) exit m n T way tm k at cells j C w e go =
      value_line S G R C n cells at (next_cell m) (Copy (int (pos 0))) T k j
      (made_no_variable S (next_cell m) Int (flag_made S m Int w)) (λ v c is. refl)
      (go (Behind ∷ at) (updated cells (next_cell m) (pos 0)) (ap marks_behind e)
      (λ c l. updated_other cells (next_cell m) (pos 0) c (λ q. omega (arith, q, l)))
      (λ c q. ap (updated cells (next_cell m) (pos 0)) (sym (same_Some (next_cell m) c q)) ∙
      updated_same cells (next_cell m) (pos 0)))

-- neither makes an array
opened_arrays : (out : Option ℕ) (exit : ℕ) (m : Made) → length (opened out exit m).made.arrays ≡ length m.arrays
opened_arrays None exit m = refl
opened_arrays (Some o) exit m = refl

result_arrays : (result : Option IntType) (m : Made) → length (result_code result m).made.arrays ≡ length m.arrays
result_arrays None m = refl
result_arrays (Some of) m = refl

-- what the result holds where its cell is left as it is
answer_same : (result : Option IntType) (m : Made) (old new : Store) →
    ((c : ℕ) → c < next_cell (result_code result m).made → new c ≡ old c) →
    atom_value new (result_code result m).value.atom ≡ atom_value old (result_code result m).value.atom
answer_same None m old new h = refl
answer_same (Some of) m old new h = let n = next_with m OfValue of in h (next_cell m) (omega (arith, n))

-- a parameter is in scope in the body
pub has_numbers : (n x : ℕ) → x < n → Has (numbers_below n) x
has_numbers zero x h = absurd (omega (arith, h))
has_numbers (suc n) x h = by_last (nat_lt x n) refl (λ l. has_numbers n x l)
  where
    by_last : (b : Test) → nat_lt x n ≡ b → (x < n → Has (numbers_below n) x) → Has (numbers_below (suc n)) x
    by_last true e before_ = inr (before_ (ltb-true x n e))
    by_last false e before_ = let l = ltb-false x n e in inl (omega (arith, l, h))

module _ (S : Setting) (G : ℕ → Item → ProgramItem → Type 0) (R : Rules S G) (valid : IsValid S.program)
    (names : List (List Named)) (named : AreNamed S.program names) (arrays : HasArrays S.program S.kernel)
    (parts : HasParts S.program S.kernel) where
  -- ---- the body of a function

  -- where its result is kept
  made_body : (D : Activation) (m1 : Made) → next_cell m1 ≡ D.here.answer → behind_variables S D ≡ D.here.answer →
      D.answer ≡ (result_code (function_at S.program D.function).result m1).value.atom →
      D.low ≡ next_cell (result_code (function_at S.program D.function).result m1).made
      → Within S (result_code (function_at S.program D.function).result m1).made → IsBody S D
  made_body D m1 count behind_ answer low w =
      record { some_result = some; no_result = λ e. answer ∙ ap (λ r. (result_code r m1).value.atom) e }
    where
      some : (t : IntType) → (function_at S.program D.function).result ≡ Some t →
          (D.answer ≡ CellAtom D.here.answer) × IsMade S D.here.answer t × (behind_variables S D ≤ D.here.answer) ×
          (D.here.answer < D.low)
      some t e =
          let w' : Within S (with_cell m1 OfValue t) = subst (λ r. Within S (result_code r m1).made) e w in
          let n = next_with m1 OfValue t in
          let l = ap (λ r. next_cell (result_code r m1).made) e in (
            answer ∙ ap (λ r. (result_code r m1).value.atom) e ∙ ap CellAtom count,
            subst (λ z. IsMade S z t) count (value_made S m1 t w'),
            omega (arith, behind_),
            omega (arith, n, l, low, count),
          )

  -- the lines of the body do what it does, from where the parameters are set, and behind it the result is in its atom
  module _ (D : Activation) (under : IsUnderWay S D) (calls : Calls) (marks : CallMarks)
      (all : AreCalls S G R D calls marks) (m1 : Made) (way : Way)
      (count : next_cell m1 ≡ D.here.answer) (behind_ : behind_variables S D ≡ D.here.answer) (answer : D.answer ≡
      (result_code (function_at S.program D.function).result m1).value.atom)
      (low : D.low ≡ next_cell (result_code (function_at S.program D.function).result m1).made)
      (within : Within S (body_code calls D.here (function_at S.program D.function) m1).made)
      (next : (m' : Made) → length m'.arrays ≡ length m1.arrays →
      AreNext S D m' (calls_of_all (function_at S.program D.function).body))
      (leads : LeadsToList S D (numbers_below (function_at S.program D.function).parameters) way 0
      (function_at S.program D.function).body)
      (heads : (is_body : IsBody S D) → Heads S G R D calls marks under is_body all 0) where
    pub body_follows : (n : ℕ) (T : Lines) (tm : Marks) (k : Tasks) (at : Place) (cells vars : Store) (ts : List Task)
        (vs : List ℤ) → ((x : ℕ) → x < (function_at S.program D.function).parameters → cells (D.here.base + x) ≡ vars x)
        → marks_at S.marks at ≡ marks_then (body_marks calls marks D.here way (function_at S.program D.function) m1) tm
        → ((at' : Place) (new vars' : Store) (o : Option Exit) (v : ℤ) → marks_at S.marks at' ≡ tm →
        ((c : ℕ) → c < D.here.base → new c ≡ cells c) →
        atom_value new (result_code (function_at S.program D.function).result m1).value.atom ≡ given_by o v
        → G n (kernel_item S new (LinesAt at' T k)) (unwound o v (inside S D ts vs vars')))
        → Sim S G R D n cells (LinesAt at
        (joined_to (body_code calls D.here (function_at S.program D.function) m1).lines T) k)
        (in_order (way (begun_in k)) 0 (function_at S.program D.function).body ts) vs vars
    body_follows n T tm k at cells vars ts vs holds e go =
        let f = function_at S.program D.function in
        let fits = valid_any S.program valid D.function in
        let cr = result_code f.result m1 in
        let out = way_out_of_all true true f.body in
        let co = opened out 0 cr.made in
        let cl = list_code calls D.here co.exit false f.body co.made in
        let lm = marks_in_order (list_marks calls marks D.here way 0 co.exit false f.body co.made) in
        let cb = joined_to cl.inside cl.rest in
        let scope = numbers_below f.parameters in
        let cell = own_cell out None cr.made in
        let grow_open = opened_makes Grows grows_same grows_before (λ m of. grows_with OfValue m of)
        (λ m of. grows_with OfFlag m of) out 0 cr.made in
        let grow_all = list_makes Grows grows_same grows_before (λ m of. grows_with OfValue m of)
        (λ m of. grows_with OfFlag m of) calls D.here (λ site function roots values m.
        all.grows site function roots values m) co.exit false f.body co.made in
        let w_co = within_less S (calls_of_all f.body) co.made cl.made grow_all within in
        let w_cr = within_less S [] cr.made co.made grow_open w_co in
        let more = grows_count [] cr.made co.made grow_open in
        let grow_result = result_makes Grows grows_same grows_before (λ m of. grows_with OfValue m of)
        (λ m of. grows_with OfFlag m of) f.result m1 in
        let up = grows_count [] m1 cr.made grow_result in
        let is_body = made_body D m1 count behind_ answer low w_cr in
        let arrays_same : length co.made.arrays ≡ length m1.arrays =
        opened_arrays out 0 cr.made ∙ result_arrays f.result m1 in
        let inner : IsWithin S D scope = λ x has. let a = has_below f.parameters x has in let b =
        fits.parameters in omega (arith, a, b) in
        let exits = exits_opened S D None out 0 cr.made w_co (omega (arith, low))
        (record {
          is = λ c q. absurd (none-some c q);
          made = λ c q. absurd (none-some c q);
          low = λ c q. absurd (none-some c q);
          high = λ c q. absurd (none-some c q);
        }) in
        let ready : ReadyList S D calls scope cell co.exit way 0 false f.body co.made = record {
          sound = sound_body S.program valid D.function;
          leads = leads;
          next = next co.made arrays_same;
          within = within;
          low = omega (arith, low, more);
          inner = inner;
          ended = λ x p. never_scoped S valid D x p;
          exits = exits;
          has_exit = has_opened None out 0 cr.made;
        } in
        at_lines S G R D n cells at cr.lines (joined_to co.lines cb) T k _
        (result_follows S G R f.result m1 n (joined_to (joined_to co.lines cb) T) way
        (marks_then (marks_then (all_marked way co.lines) lm) tm) k at cells _ D w_cr (e ∙
        marks_assoc (all_marked way cr.lines) (marks_then (all_marked way co.lines) lm) tm)
        (λ at2 c2 e2 k2 a2.
        at_lines S G R D n c2 at2 co.lines cb T k _
        (opened_follows S G R out 0 cr.made n (joined_to cb T) way (marks_then lm tm) k at2 c2 _ D w_co (e2 ∙
        marks_assoc (all_marked way co.lines) lm tm)
        (λ at3 c3 e3 k3 x3.
        let same : Same S D scope c3 vars = record {
          each = λ x has.
              let l = has_below f.parameters x has in
              let b = inner x has in
              k3 (D.here.base + x) (omega (arith, b, up, count, behind_)) ∙
              k2 (D.here.base + x) (omega (arith, b, count, behind_)) ∙ holds x l;
        } in
        in_order_follows S G R D calls marks under is_body all scope cell co.exit way 0 f.body co.made
        (list_follows S G R D calls marks under is_body all (heads is_body) f.body scope cell co.exit way 0 false
        co.made ready) n T tm k at3 c3 vars ts vs e3
        (record {
          same = same;
          exit_is = x3;
          answer_is = ap (atom_value c3) answer ∙
              answer_same f.result m1 c2 c3 k3 ∙ a2;
        })
        (λ at4 new vars' o v can e4 a4 kept.
        go at4 new vars' o v e4 (λ c l. kept.each c (inl l) (omega (arith, l, up, more, count, behind_)) ∙
        k3 c (omega (arith, l, up, count, behind_)) ∙ k2 c (omega (arith, l, count, behind_)))
        (ap (atom_value new) (sym answer) ∙ a4.answer_is))))))

  -- ---- a call

  -- the heads of loops, in whatever function is under way
  abbrev pub AllHeads : Type 0
  AllHeads =
      (C : Activation) (under : IsUnderWay S C) (is_body : IsBody S C)
      (all : AreCalls S G R C (call_code S.program names (suc C.depth)) (call_marks S.program names (suc C.depth)))
      → Heads S G R C (call_code S.program names (suc C.depth)) (call_marks S.program names (suc C.depth)) under
      is_body all 0

  -- behind the body of a function that is called
  leaves_call : (n : ℕ) (C D : Activation) (i : Item) (at : ProgramPoint) (site : ℕ) (ts : List Task) (vs : List ℤ)
      (vars vars' : Store) (o : Option Exit) (v : ℤ) → D.outer ≡ frame C vars ∷ C.outer
      → G n i (inside S C ts (given_by o v ∷ vs) vars) → G n i (unwound o v (inside S D (InCall at site ∷ ts) vs vars'))
  leaves_call n C D i at site ts vs vars vars' o v outer g = by o g
    where
      back : (w : ℤ) → program_item S ts (w ∷ vs) D.outer ≡ inside S C ts (w ∷ vs) vars
      back w = ap (λ fs. program_item S ts (w ∷ vs) fs) outer

      end : G n i (inside S C ts (pos 0 ∷ vs) vars) → G n i (inside S D (InCall at site ∷ ts) vs vars')
      end g = R.task n i (inside S D (InCall at site ∷ ts) vs vars') (inside S C ts (pos 0 ∷ vs) vars)
          (ap (λ z. Goes z) (back (pos 0))) refl g

      by : (o : Option Exit) → G n i (inside S C ts (given_by o v ∷ vs) vars) →
          G n i (unwound o v (inside S D (InCall at site ∷ ts) vs vars'))
      by None g = end g
      by (Some Continues) g = end g
      by (Some Breaks) g = end g
      by (Some Returns) g = subst (λ z. G n i z) (sym (back v)) g

  module _ (heads : AllHeads) (depth : ℕ) (C : Activation) (deep : C.depth ≡ suc depth) (under : IsUnderWay S C)
      (inner : (D : Activation) → D.depth ≡ depth → IsUnderWay S D →
      AreCalls S G R D (call_code S.program names (suc depth)) (call_marks S.program names (suc depth))) where
    call_follows : CallsFollow S G R C (call_code S.program names (suc (suc depth)))
        (call_marks S.program names (suc (suc depth)))
    unfolding call_code call_marks
    call_follows site g roots values args m way n T tm k at cells vars ts vs sound next scoped low within fixed
        holding e go =
        let f = function_at S.program g in
        let fits = valid_any S.program valid g in
        let there = way_behind S.program C.here site g (argument_roots C.here roots) in
        let m1 = with_instance there (names_at names g) f m in
        let D = entered S names C site g roots depth vars m in
        let calls = call_code S.program names (suc depth) in
        let marks = call_marks S.program names (suc depth) in
        let vars1 : Store = λ x. nth args x in
        let params = parameter_lines (next_cell m) values in
        let body = body_code calls D.here f m1 in
        let bm = body_marks calls marks D.here (further way Into) f m1 in
        let under' = under_way S valid names named arrays parts C under site g roots (length args) depth vars m values
        deep sound next (subst (λ z. Within S (call_code S.program names (suc z) C.here site g
        (argument_roots C.here roots) values m).made) (sym deep) within) in
        let all = inner D refl under' in
        let count = with_count S names named C site g roots m in
        let many : length values ≡ length args = sym (length-map values (λ (v : Value). v.atom)) ∙
        sym (length-map (atoms_of values) (atom_value cells)) ∙ ap (λ z. length z) holding in
        let as_many : length args ≡ f.parameters =
        sym sound.as_many ∙ argument_count S.program (function_at S.program C.function) (parameter_kinds f) roots
        sound.types sound.fit ∙ length_take f.parameters f.variables fits.parameters in
        let block = Run (way (begun_in k) ++ Into ∷ []) (Block f.body) in
        let call = InCall (way (begun_in k)) site in
        let j = inside S C (Enter (way (begun_in k)) site g roots (length args) ∷ ts) (pushed args vs) vars in
        let j1 = inside S D (block ∷ call ∷ ts) vs vars1 in
        let steps : program_next S.program S.launch j ≡ Goes j1 =
        ap₂ (λ (ws : List ℤ) (xs : List ℤ).
        Goes (program_item S (block ∷ call ∷ ts) ws (new_frame S.program S.launch (inside S C [] [] vars) site g
        roots xs ∷ frame C vars ∷ C.outer)))
        (below_pushed args vs (length args) refl vs) (taken_pushed args vs (length args) refl) in
        let in_scope : (x : ℕ) → x < length values →
        IsScopedAt S.program (way (begun_in k) ++ Into ∷ []) (record { function = g; variable = x }) =
        λ x l. scoped (begun_in k) [] (record { function = g; variable = x })
        (subst (λ d. IsInBody S.program d g [] (record { function = g; variable = x })) (sym deep)
        (has_owned g (numbers_below f.parameters) x
        (has_numbers f.parameters x (omega (arith, l, many, as_many))))) in
        at_lines S G R C n cells at params body.lines T k j
        (parameters_follow S G R C.low D (further way (Own 0)) n (joined_to body.lines T) (marks_then bm tm) k j j1
        vars1 (length values) refl steps
        (λ x l. let b = fits.parameters in let p = get_there f.variables x (omega (arith, l, many, as_many, b)) in
        under'.own x p.0 p.1)
        (λ x l. at_once (record {
          point = way (begun_in k) ++ Into ∷ [];
          stands = refl;
          scoped = in_scope x l;
          value = vars1 x;
          there = own_value S D vars1 x;
        }))
        (λ x. own_value S D vars1 x)
        values 0 (next_cell m) at cells (omega arith) (omega arith) fixed
        (held_from cells vars1 values args 0 holding (λ y. ap vars1 (omega arith))) (e ∙
        marks_assoc (all_marked (further way (Own 0)) params) bm tm)
        (λ at1 c1 e1 below1 before1 here1.
        R.task n _ j j1 steps refl
        (R.task n _ j1 (inside S D (in_order (way (begun_in k) ++ Into ∷ []) 0 f.body (call ∷ ts)) vs vars1) refl refl
        (body_follows D under' calls marks all m1 (further way Into) count refl refl refl within
        (λ m' same. next_inside S valid names named arrays parts C under site g roots (length args) depth vars m
        values deep sound next m' (same ∙ length-append m.arrays f.arrays))
        (λ begun p i same along v h.
        subst (λ z. IsScopedAt S.program z v) (sym (append_assoc (way begun) (Into ∷ []) (Nth p ∷ along)))
        (subst (λ z. IsScopedAt S.program (way begun ++ Into ∷ Nth z ∷ along) v) (let q : i ≡ p = omega (
          arith,
          same,
        ) in q) (scoped begun (Nth i ∷ along) v (subst (λ d. IsInBody S.program d g (Nth i ∷ along) v)
        (sym deep) h))))
        (λ is_body. heads D under' is_body all)
        n T tm k at1 c1 vars1 (call ∷ ts) vs (λ x l. here1 x (omega arith) (omega (arith, l, many, as_many))) e1
        (λ at2 new vars2 o v e2 kept holds.
        leaves_call n C D _ (way (begun_in k)) site ts vs vars vars2 o v refl
        (go at2 new (given_by o v) e2 (λ c l. kept c l ∙ below1 c l) holds))))))

  -- ---- all calls

  calls_at_depth : (heads : AllHeads) (depth : ℕ) (C : Activation) → C.depth ≡ depth → IsUnderWay S C →
      AreCalls S G R C (call_code S.program names (suc depth)) (call_marks S.program names (suc depth))
  calls_at_depth heads zero C deep under = record {
    shaped = call_shaped S.program names 1;
    grows = λ site function roots values m. calls_grow S.program names 1 C.here site function roots values m;
    adds = λ site function roots values m.
        subst (λ d. Adds S C (call_of site function ∷ []) m (call_code S.program names (suc d) C.here site function
        roots values m).made) deep (calls_add S C names site function roots values m);
    fixed = λ site g roots values count m sound next low within.
        absurd (subst (λ d. CallsEnd S.program d g) deep next.end.0);
    follow = λ site g roots values args m way n T tm k at cells vars ts vs sound next scoped low within fixed holding
        e go. absurd (subst (λ d. CallsEnd S.program d g) deep next.end.0);
  }
  calls_at_depth heads (suc depth) C deep under = record {
    shaped = call_shaped S.program names (suc (suc depth));
    grows = λ site function roots values m. calls_grow S.program names (suc (suc depth)) C.here site function roots
        values m;
    adds = λ site function roots values m.
        subst (λ d. Adds S C (call_of site function ∷ []) m (call_code S.program names (suc d) C.here site function
        roots values m).made) deep (calls_add S C names site function roots values m);
    fixed = λ site g roots values count m sound next low within.
        subst (λ d. IsFixed S C.low (next_cell (call_code S.program names (suc d) C.here site g
        (argument_roots C.here roots) values m).made) (call_code S.program names (suc d) C.here site g
        (argument_roots C.here roots) values m).value) deep
        (call_fixed S names named C site g roots values count m low
        (subst (λ d. Within S (call_code S.program names (suc d) C.here site g (argument_roots C.here roots)
        values m).made) (sym deep) within));
    follow = call_follows heads depth C deep under (λ D e u. calls_at_depth heads depth D e u);
  }

  -- the lines of the calls in a function that is under way do what the calls do
  pub calls_all : AllHeads → (C : Activation) → IsUnderWay S C →
      AreCalls S G R C (call_code S.program names (suc C.depth)) (call_marks S.program names (suc C.depth))
  calls_all heads C under = calls_at_depth heads C.depth C refl under
