-- The lines of an action do what its step does.
use Rattle.std.proofs.Common.{◌≡◌, ℕ, zero, suc, ◌+◌, ◌≤◌, ℤ, pos, negsuc, List, [], ◌∷◌, Some, None, refl, sym, ap}
use Rattle.std.proofs.Common.{ap₂, ◌∙◌, arith, true, false, if◌then◌else◌}
use Rattle.std.proofs.Common.{Bool as Test}
use Rattle.std.specs.Prelude.{◌||◌, not}
use Rattle.std.specs.Ordering.{int_eq}
use Rattle.std.proofs.lemmas.Bool.Decides.{Decides-int_eq}
use Rattle.work_items.specs.Memory.{Access}
use Rattle.work_items.specs.Items.{Goes, Loads, Stores}
use Rattle.wg_num.specs.declared.types.IntType.{IntType}
use Rattle.wg_num.specs.declared.types.IntType.TheVariants as types
use Rattle.wg_num.specs.declared.types.Bin.{Bin}
use Rattle.wg_num.specs.declared.types.Bin.TheVariants.{Eq, Ne}
use Rattle.wg_num.specs.Wrap.{wrap_of, half, modulus}
use Rattle.wg_num.specs.Operators.{unary_of, binary_of}
use Rattle.wg_num.specs.Operators as operators
use Rattle.wg_num.specs.Builtins.{builtin_of}
use Rattle.wg_num.specs.Bytes.{size_of, bytes_of, value_of_bytes}
use Rattle.cl_model.specs.Agreement.{IsScopedAt}
use Rattle.cl_model.specs.Calls.{function_at}
use Rattle.cl_model.specs.Meaning.{is_test}
use Rattle.cl_model.specs.Sizes.{answer_of}
use Rattle.cl_model.specs.Task.{Task, Item as ProgramItem, Point as ProgramPoint, first_point, point_of}
use Rattle.cl_model.specs.Tree as tree
use Rattle.cl_model.specs.Tree.{Action}
use Rattle.cl_model.specs.Steps.{nth, changed as program_changed, action_next, access_at as program_access}
use Rattle.cl_model.specs.Steps.{object_at as program_object, item_next as program_next}
use Rattle.cl_model.specs.Valid.{Scope, Has, binary_type}
use Rattle.cl_model.specs.Values.{is_zero, number_of}
use Rattle.kir.specs.declared.line.Atom.{Atom}
use Rattle.kir.specs.declared.line.Atom.TheVariants.{Const, Cell as CellAtom}
use Rattle.kir.specs.Tree.{Work, Unary, Binary, Builtin, Convert, Ask, Copy, Lines, SetThen, LoadThen, StoreThen}
use Rattle.kir.specs.Tree.{OfValue, joined_to}
use Rattle.kir.specs.Places.{Behind, Place, Tasks, LinesAt, begun_in}
use Rattle.kir.specs.Steps.{Item, atom_value, work_value, access_at}
use Rattle.kir_lower.specs.declared.places.Value.{Value}
use Rattle.kir_lower.specs.Made.{Made, next_cell, with_cell, root_in}
use Rattle.kir_lower.specs.Actions.{first, second, atoms_of, action_code, changed}
use Rattle.kir_lower_shape.specs.Marks.{Way, Marks, MarkThen, marks_then, all_marked, marks_behind, marks_at}
use Rattle.kir_lower_simulation.specs.Setting.{Setting, Store, updated, kernel_item, Activation, inside}
use Rattle.kir_lower_simulation.specs.Setting.{behind_variables, own_variable}
use Rattle.kir_lower_simulation.specs.Held.{Within, IsFixed, AreFixed, Holding, Kept, Same, IsWithin}
use Rattle.kir_lower_simulation.specs.Facts.{Rules}
use Rattle.kir_lower_simulation.specs.Ready.{IsSoundAction, IsUnderWay}
use Rattle.kir_lower_simulation.proofs.Lines.{PlainWork, plain_facts, apart_cell, Comes, at_once, own_value}
use Rattle.kir_lower_simulation.proofs.Lines.{updated_same, Sim, value_line, read_line, set_line}
use Rattle.kir_lower_simulation.proofs.Keeping.{Grows, grows_before, grows_count, next_with, within_less, grows_with}
use Rattle.kir_lower_simulation.proofs.Keeping.{value_made, made_no_variable, cell_plain, fixed_plain, some_plain}
use Rattle.kir_lower_simulation.proofs.Keeping.{fixed_kept, value_fixed, kept_refl, kept_trans, kept_set, kept_own}
use Rattle.kir_lower_simulation.proofs.Keeping.{atom_below, same_set, same_own, first_holds, second_holds, first_fixed}
use Rattle.kir_lower_simulation.proofs.Keeping.{second_fixed}

-- ---- numbers

-- whether a value is not 0 is 0 or 1 in each type
wrapped_test : (t : IntType) (b : Test) → wrap_of t (operators.number_of b) ≡ (if b then pos 1 else pos 0)
unfolding wrap_of half modulus
wrapped_test types.Bool true = refl
wrapped_test types.Char true = refl
wrapped_test types.Uchar true = refl
wrapped_test types.Short true = refl
wrapped_test types.Ushort true = refl
wrapped_test types.Int true = refl
wrapped_test types.Uint true = refl
wrapped_test types.Long true = refl
wrapped_test types.Ulong true = refl
wrapped_test types.Bool false = refl
wrapped_test types.Char false = refl
wrapped_test types.Uchar false = refl
wrapped_test types.Short false = refl
wrapped_test types.Ushort false = refl
wrapped_test types.Int false = refl
wrapped_test types.Uint false = refl
wrapped_test types.Long false = refl
wrapped_test types.Ulong false = refl

-- numbers that differ
pub not_equal : (x y : ℤ) → (x ≡ y → ⊥) → int_eq x y ≡ false
not_equal x y h = by_test (int_eq x y) refl
  where
    by_test : (b : Test) → int_eq x y ≡ b → int_eq x y ≡ false
    by_test true e = absurd (h ((Decides-int_eq x y).0 e))
    by_test false e = e

pub truth_value : (t : IntType) (z : ℤ) → binary_of Ne t z (pos 0) ≡ (if is_zero z then pos 0 else pos 1)
unfolding binary_of
truth_value t (pos zero) = wrapped_test t false
truth_value t (pos (suc n)) = ap (λ b. wrap_of t (operators.number_of (not b)))
    (not_equal (pos (suc n)) (pos 0) (λ e. let q : suc n ≡ 0 = cc in absurd (omega (arith, q)))) ∙ wrapped_test t true
truth_value t (negsuc n) = wrapped_test t true

-- an equality of two values
pub equal_value : (t : IntType) (a b : ℤ) → binary_of Eq t a b ≡ (if int_eq a b then pos 1 else pos 0)
unfolding binary_of
equal_value t a b = wrapped_test t (int_eq a b)

-- what the lines of a compound assignment make
pub changed_grows : (op : Bin) (of back : IntType) (was by : Atom) (m : Made) →
    Grows [] m (changed op of back was by m).made
changed_grows op of back was by m =
    let m1 = with_cell m OfValue of in
    let m2 = with_cell m1 OfValue (binary_type op of) in
    grows_before [] [] m m2 (with_cell m2 OfValue back) (grows_before [] [] m m1 m2 (grows_with OfValue m of)
    (grows_with OfValue m1 (binary_type op of))) (grows_with OfValue m2 back)

pub changed_fixed : (S : Setting) (low : ℕ) (op : Bin) (of back : IntType) (was by : Atom) (m : Made) →
    low ≤ next_cell m → Within S (changed op of back was by m).made
    → IsFixed S low (next_cell (changed op of back was by m).made) (changed op of back was by m).value
changed_fixed S low op of back was by m le within =
    let m1 = with_cell m OfValue of in
    let m2 = with_cell m1 OfValue (binary_type op of) in
    let n0 = next_with m OfValue of in
    let n1 = next_with m1 OfValue (binary_type op of) in
    value_fixed S low m2 back (omega (arith, n0, n1, le)) within

-- the one or the other
pub either_holds : (b : Test) (cells : Store) (one two : Value) (v w : ℤ) → atom_value cells one.atom ≡ v →
    atom_value cells two.atom ≡ w → atom_value cells (if b then one else two).atom ≡ (if b then v else w)
either_holds true cells one two v w h k = h
either_holds false cells one two v w h k = k

pub either_fixed : (S : Setting) (low high : ℕ) (b : Test) (one two : Value) → IsFixed S low high one →
    IsFixed S low high two → IsFixed S low high (if b then one else two)
either_fixed S low high true one two h k = h
either_fixed S low high false one two h k = k

-- ---- tasks

-- the tasks' first point is in the scope
pub record Stays (S : Setting) (C : Activation) (scope : Scope) (ts : List Task) : Type 0 where
  pub point : ProgramPoint
  pub stands : first_point ts ≡ Some point
  pub scoped : (x : ℕ) → Has scope x → IsScopedAt S.program point (record { function = C.function; variable = x })

pub comes_now : (S : Setting) (C : Activation) (scope : Scope) (ts : List Task) (vs : List ℤ) (vars : Store) (x : ℕ) →
    Stays S C scope ts → Has scope x → Comes S (own_variable C x) (inside S C ts vs vars)
comes_now S C scope ts vs vars x stays has =
    at_once (record {
      point = stays.point;
      stands = stays.stands;
      scoped = stays.scoped x has;
      value = vars x;
      there = own_value S C vars x;
    })

module _ (S : Setting) (G : ℕ → Item → ProgramItem → Type 0) (R : Rules S G) (C : Activation) where
  -- what follows lines that give a value: it is on the list, and in its atom
  abbrev pub Done : (n high : ℕ) → Scope → Lines → Marks → Tasks → Store → List Task → List ℤ → Value → Type 0
  Done n high scope T tm k cells ts vs value =
      (at : Place) (new vars : Store) (v : ℤ) → marks_at S.marks at ≡ tm → Same S C scope new vars →
      Kept C.here.base (behind_variables S C) None high cells new → atom_value new value.atom ≡ v
      → Sim S G R C n new (LinesAt at T k) ts (v ∷ vs) vars

  -- the new value of a compound assignment, before other lines
  pub changed_follows : (op : Bin) (of back : IntType) (was by : Value) (m : Made) (n : ℕ) (T : Lines) (way : Way)
      (tm : Marks) (k : Tasks) (at : Place) (cells : Store) (j : ProgramItem) → C.low ≤ next_cell m
      → IsFixed S C.low (next_cell m) was → IsFixed S C.low (next_cell m) by →
      Within S (changed op of back was.atom by.atom m).made
      → marks_at S.marks at ≡ marks_then (all_marked way (changed op of back was.atom by.atom m).lines) tm
      → ((at' : Place) (new : Store) → marks_at S.marks at' ≡ tm →
      Kept C.here.base (behind_variables S C) None (next_cell m) cells new
      → atom_value new (changed op of back was.atom by.atom m).value.atom ≡
      program_changed op of back (atom_value cells was.atom) (atom_value cells by.atom)
      → ((scope : Scope) (vars : Store) → IsWithin S C scope → behind_variables S C ≤ C.low →
      Same S C scope cells vars → Same S C scope new vars)
      → G n (kernel_item S new (LinesAt at' T k)) j)
      → G n (kernel_item S cells (LinesAt at (joined_to (changed op of back was.atom by.atom m).lines T) k)) j
  changed_follows op of back was by m n T way tm k at cells j low fw fb within e go =
      let m1 = with_cell m OfValue of in
      let m2 = (changed op of back was.atom by.atom m).made in
      let c0 = next_cell m in
      let made1 = with_cell m1 OfValue (binary_type op of) in
      let c1 = next_cell m1 in
      let c2 = next_cell made1 in
      let n0 = next_with m OfValue of in
      let n1 = next_with m1 OfValue (binary_type op of) in
      let w1 : Within S made1 = within_less S [] made1 m2 (grows_with OfValue made1 back) within in
      let w0 : Within S m1 = within_less S [] m1 made1 (grows_with OfValue m1 (binary_type op of)) w1 in
      let a = wrap_of of (atom_value cells was.atom) in
      let s1 = updated cells c0 a in
      let b = binary_of op of (s1 c0) (atom_value s1 by.atom) in
      let s2 = updated s1 c1 b in
      let d = wrap_of back (s2 c1) in
      let s3 = updated s2 c2 d in
      let nv0 = made_no_variable S c0 of (value_made S m of w0) in
      let nv1 = made_no_variable S c1 (binary_type op of) (value_made S m1 (binary_type op of) w1) in
      let nv2 = made_no_variable S c2 back (value_made S made1 back within) in
      value_line S G R C n cells at c0 (Convert of was.atom) _ k j nv0 (fixed_plain S C.low (next_cell m) was fw)
      (value_line S G R C n s1 (Behind ∷ at) c1 (Binary op of (CellAtom c0) by.atom) _ k j nv1
      (λ v c is. ap₂ (λ y z. y || z) (cell_plain S c0 nv0 v c is)
      (fixed_plain S C.low (next_cell m) by fb v c is))
      (value_line S G R C n s2 (Behind ∷ Behind ∷ at) c2 (Convert back (CellAtom c1)) T k j nv2 (cell_plain S c1 nv1)
      (go (Behind ∷ Behind ∷ Behind ∷ at) s3 (ap (λ z. marks_behind (marks_behind (marks_behind z))) e)
      (kept_trans C.here.base (behind_variables S C) None c0 c0 cells s2 s3 (omega arith)
      (kept_trans C.here.base (behind_variables S C) None c0 c0 cells s1 s2 (omega arith)
      (kept_set C.here.base (behind_variables S C) None c0 cells c0 a (omega arith))
      (kept_set C.here.base (behind_variables S C) None c0 s1 c1 b (omega (arith, n0))))
      (kept_set C.here.base (behind_variables S C) None c0 s2 c2 d (omega (arith, n0, n1))))
      (updated_same s2 c2 d ∙ ap (wrap_of back) (updated_same s1 c1 b ∙
      ap₂ (λ y z. binary_of op of y z) (updated_same cells c0 a)
      (atom_below S C.low (next_cell m) by.atom by.of cells c0 a fb (omega arith))))
      (λ scope vars is le s. same_set S C scope s2 vars c2 d is (omega (arith, n0, n1, le, low))
      (same_set S C scope s1 vars c1 b is (omega (arith, n0, le, low))
      (same_set S C scope cells vars c0 a is (omega (arith, le, low)) s))))))

  module _ (under : IsUnderWay S C) (n : ℕ) (scope : Scope) (T : Lines) (tm : Marks) (k : Tasks) (ts : List Task)
      (vs : List ℤ) (inner : IsWithin S C scope) (stays : Stays S C scope ts) where
    -- a value without a line
    given_follows : (task : Task) (vals : List ℤ) (high : ℕ) (value : Value) (at : Place) (cells vars : Store)
        (v : ℤ) → is_test (task ∷ ts) ≡ false → marks_at S.marks at ≡ tm → Same S C scope cells vars →
        atom_value cells value.atom ≡ v
        → program_next S.program S.launch (inside S C (task ∷ ts) vals vars) ≡ Goes (inside S C ts (v ∷ vs) vars) →
        Done n high scope T tm k cells ts vs value
        → Sim S G R C n cells (LinesAt at T k) (task ∷ ts) vals vars
    given_follows task vals high value at cells vars v quiet e s holds goes go =
        R.task n _ _ _ goes quiet (go at cells vars v e s (kept_refl C.here.base (behind_variables S C) None high
        cells) holds)

    -- a line that computes the value of a new cell
    computed_follows : (task : Task) (vals : List ℤ) (work : Work) (of : IntType) (m : Made) (at : Place) (way : Way)
        (cells vars : Store) (w : ℤ) → is_test (task ∷ ts) ≡ false → C.low ≤ next_cell m →
        Within S (with_cell m OfValue of)
        → marks_at S.marks at ≡ MarkThen way tm → Same S C scope cells vars → PlainWork S work
        → work_value S.launch (kernel_item S cells (LinesAt at (SetThen (next_cell m) work T) k)) work ≡ w
        → program_next S.program S.launch (inside S C (task ∷ ts) vals vars) ≡ Goes (inside S C ts (w ∷ vs) vars)
        → Done n (next_cell m) scope T tm k cells ts vs (record { atom = CellAtom (next_cell m); of = of })
        → Sim S G R C n cells (LinesAt at (SetThen (next_cell m) work T) k) (task ∷ ts) vals vars
    computed_follows task vals work of m at way cells vars w quiet low within e s plain computes goes go =
        let to = next_cell m in
        let got = work_value S.launch (kernel_item S cells (LinesAt at (SetThen to work T) k)) work in
        let le = under.below in
        value_line S G R C n cells at to work T k _ (made_no_variable S to of (value_made S m of within)) plain
        (R.task n _ _ _ goes quiet
        (go (Behind ∷ at) (updated cells to got) vars w (ap marks_behind e)
        (same_set S C scope cells vars to got inner (omega (arith, le, low)) s)
        (kept_set C.here.base (behind_variables S C) None to cells to got (omega arith)) (updated_same cells to got ∙
        computes)))

    pub action_follows : (action : Action) (values : List Value) (args : List ℤ) (m : Made) (task : Task)
        (vals : List ℤ) (way : Way) (at : Place) (cells vars : Store) →
        IsSoundAction S.program (function_at S.program C.function) scope action
        → AreFixed S C.low (next_cell m) values → C.low ≤ next_cell m →
        Within S (action_code C.here action values m).made
        → is_test (task ∷ ts) ≡ false → point_of task ≡ way (begun_in k) →
        program_next S.program S.launch (inside S C (task ∷ ts) vals vars) ≡
        action_next S.program S.launch (inside S C (task ∷ ts) vals vars) action args vs ts
        → marks_at S.marks at ≡ marks_then (all_marked way (action_code C.here action values m).lines) tm →
        Same S C scope cells vars → Holding cells values args
        → Done n (next_cell m) scope T tm k cells ts vs (action_code C.here action values m).value
        → Sim S G R C n cells (LinesAt at (joined_to (action_code C.here action values m).lines T) k) (task ∷ ts) vals
        vars
    action_follows (tree.Literal value of) values args m task vals way at cells vars sound fixed low within quiet p
        goes e s h go =
        given_follows task vals (next_cell m) (record { atom = Const value of; of = of }) at cells vars value quiet e
        s refl goes go
    action_follows (tree.Variable x) values args m task vals way at cells vars sound fixed low within quiet p goes e s
        h go =
        let to = next_cell m in
        let got = cells (C.here.base + x) in
        let le = under.below in
        read_line S G R C n cells at to x T k (task ∷ ts) vals vars way tm
        (made_no_variable S to _ (value_made S m _ within)) (under.own x sound.1.0 sound.1.1) (s.each x sound.0) e
        (ap (λ z. Some z) p)
        (R.task n _ _ _ goes quiet
        (go (Behind ∷ at) (updated cells to got) vars (vars x) (ap marks_behind e)
        (same_set S C scope cells vars to got inner (omega (arith, le, low)) s)
        (kept_set C.here.base (behind_variables S C) None to cells to got (omega arith)) (updated_same cells to got ∙
        s.each x sound.0)))
    action_follows (tree.Unary op of) values args m task vals way at cells vars sound fixed low within quiet p goes e
        s h go =
        computed_follows task vals (Unary op of (first values).atom) _ m at way cells vars _ quiet low within e s
        (fixed_plain S C.low (next_cell m) (first values) (first_fixed S C.low (next_cell m) values fixed))
        (ap (unary_of op of) (first_holds cells values args h)) goes go
    action_follows (tree.Binary op of) values args m task vals way at cells vars sound fixed low within quiet p goes e
        s h go =
        computed_follows task vals (Binary op of (first values).atom (second values).atom) _ m at way cells vars _
        quiet low within e s
        (λ v c is. ap₂ (λ y z. y || z) (fixed_plain S C.low (next_cell m) (first values)
        (first_fixed S C.low (next_cell m) values fixed) v c is)
        (fixed_plain S C.low (next_cell m) (second values) (second_fixed S C.low (next_cell m) values fixed) v c
        is))
        (ap₂ (λ y z. binary_of op of y z) (first_holds cells values args h) (second_holds cells values args h)) goes go
    action_follows (tree.Builtin f of) values args m task vals way at cells vars sound fixed low within quiet p goes e
        s h go =
        computed_follows task vals (Builtin f of (atoms_of values)) _ m at way cells vars _ quiet low within e s
        (some_plain S C.low (next_cell m) values fixed)
        (ap (λ z. builtin_of f of (nth z 0) (nth z 1) (nth z 2)) h) goes go
    action_follows (tree.Convert to) values args m task vals way at cells vars sound fixed low within quiet p goes e s
        h go =
        computed_follows task vals (Convert to (first values).atom) _ m at way cells vars _ quiet low within e s
        (fixed_plain S C.low (next_cell m) (first values) (first_fixed S C.low (next_cell m) values fixed))
        (ap (wrap_of to) (first_holds cells values args h)) goes go
    action_follows (tree.Ask what) values args m task vals way at cells vars sound fixed low within quiet p goes e s h
        go =
        computed_follows task vals (Ask what (first values).atom) _ m at way cells vars _ quiet low within e s
        (fixed_plain S C.low (next_cell m) (first values) (first_fixed S C.low (next_cell m) values fixed))
        (ap (answer_of S.launch S.item what) (first_holds cells values args h)) goes go
    action_follows tree.Second values args m task vals way at cells vars sound fixed low within quiet p goes e s h go =
        given_follows task vals (next_cell m) (second values) at cells vars _ quiet e s
        (second_holds cells values args h) goes go
    action_follows tree.Truth values args m task vals way at cells vars sound fixed low within quiet p goes e s h go =
        computed_follows task vals (Binary Ne (first values).of (first values).atom (Const (pos 0) (first values).of))
        _ m at way cells vars _ quiet low within e s
        (λ v c is. ap₂ (λ y z. y || z) (fixed_plain S C.low (next_cell m) (first values)
        (first_fixed S C.low (next_cell m) values fixed) v c is) refl)
        (truth_value (first values).of (atom_value cells (first values).atom) ∙
        ap (λ z. if is_zero z then pos 0 else pos 1) (first_holds cells values args h)) goes go
    action_follows (tree.Decided answer) values args m task vals way at cells vars sound fixed low within quiet p goes
        e s h go =
        given_follows task vals (next_cell m) (record { atom = Const (number_of answer) types.Int; of = types.Int })
        at cells vars (number_of answer) quiet e s refl goes go
    action_follows (tree.Set x) values args m task vals way at cells vars sound fixed low within quiet p goes e s h go =
        let w = atom_value cells (first values).atom in
        let holds : w ≡ nth args 0 = first_holds cells values args h in
        let le = under.below in
        let fit = inner x sound.0 in
        let f1 = first_fixed S C.low (next_cell m) values fixed in
        let next : program_next S.program S.launch (inside S C (task ∷ ts) vals vars) ≡
        Goes (inside S C ts (w ∷ vs) (updated vars x w)) =
        goes ∙ ap (λ z. Goes (inside S C ts (z ∷ vs) (updated vars x z))) (sym holds) in
        let kept = kept_own C.here.base (behind_variables S C) None (next_cell m) cells (C.here.base + x) w
        (omega arith) (omega (arith, fit)) in
        set_line S G R C n cells at (Copy (first values).atom) T k (inside S C (task ∷ ts) vals vars)
        (inside S C ts (w ∷ vs) (updated vars x w)) (own_variable C x) (C.here.base + x) way tm
        (fixed_plain S C.low (next_cell m) (first values) f1) (under.own x sound.1.0 sound.1.1) e (ap (λ z. Some z) p)
        next quiet (comes_now S C scope ts (w ∷ vs) (updated vars x w) x stays sound.0)
        (own_value S C (updated vars x w) x ∙ ap (λ z. Some z) (updated_same vars x w))
        (go (Behind ∷ at) (updated cells (C.here.base + x) w) (updated vars x w) w (ap marks_behind e)
        (same_own S C scope cells vars x w s) kept
        (fixed_kept S C.here.base (behind_variables S C) C.low (next_cell m) (first values) cells
        (updated cells (C.here.base + x) w) le f1 kept))
    action_follows (tree.Change x op of back old) values args m task vals way at cells vars sound fixed low within
        quiet p goes e s h go =
        let was = first values in
        let by = second values in
        let cc = changed op of back was.atom by.atom m in
        let le = under.below in
        let fit = inner x sound.0 in
        let f1 = first_fixed S C.low (next_cell m) values fixed in
        let f2 = second_fixed S C.low (next_cell m) values fixed in
        let one = first_holds cells values args h in
        let two = second_holds cells values args h in
        let grown : Grows [] m cc.made = changed_grows op of back was.atom by.atom m in
        let more = grows_count [] m cc.made grown in
        let f3 : IsFixed S C.low (next_cell cc.made) cc.value =
        changed_fixed S C.low op of back was.atom by.atom m low within in
        changed_follows op of back was by m n (SetThen (C.here.base + x) (Copy cc.value.atom) T) way (MarkThen way tm)
        k at cells (inside S C (task ∷ ts) vals vars) low f1 f2 within e
        (λ at1 new e1 kept1 holds1 keep1.
        let w = atom_value new cc.value.atom in
        let is : w ≡ program_changed op of back (nth args 0) (nth args 1) =
        holds1 ∙ ap₂ (λ y z. program_changed op of back y z) one two in
        let new2 = updated new (C.here.base + x) w in
        let kept2 : Kept C.here.base (behind_variables S C) None (next_cell m) new new2 =
        kept_own C.here.base (behind_variables S C) None (next_cell m) new (C.here.base + x) w (omega arith)
        (omega (arith, fit)) in
        let kept3 : Kept C.here.base (behind_variables S C) None (next_cell cc.made) new new2 =
        kept_own C.here.base (behind_variables S C) None (next_cell cc.made) new (C.here.base + x) w (omega arith)
        (omega (arith, fit)) in
        let v = if old then nth args 0 else w in
        let next : program_next S.program S.launch (inside S C (task ∷ ts) vals vars) ≡
        Goes (inside S C ts (v ∷ vs) (updated vars x w)) =
        goes ∙ ap (λ z. Goes (inside S C ts ((if old then nth args 0 else z) ∷ vs) (updated vars x z))) (sym is) in
        set_line S G R C n new at1 (Copy cc.value.atom) T k (inside S C (task ∷ ts) vals vars)
        (inside S C ts (v ∷ vs) (updated vars x w)) (own_variable C x) (C.here.base + x) way tm
        (fixed_plain S C.low (next_cell cc.made) cc.value f3) (under.own x sound.1.0 sound.1.1) e1
        (ap (λ z. Some z) p) next quiet (comes_now S C scope ts (v ∷ vs) (updated vars x w) x stays sound.0)
        (own_value S C (updated vars x w) x ∙ ap (λ z. Some z) (updated_same vars x w))
        (go (Behind ∷ at1) new2 (updated vars x w) v (ap marks_behind e1)
        (same_own S C scope new vars x w (keep1 scope vars inner le s))
        (kept_trans C.here.base (behind_variables S C) None (next_cell m) (next_cell m) cells new new2 (omega arith)
        kept1 kept2)
        (either_holds old new2 was cc.value (nth args 0) w
        (fixed_kept S C.here.base (behind_variables S C) C.low (next_cell m) was new new2 le f1 kept2 ∙
        fixed_kept S C.here.base (behind_variables S C) C.low (next_cell m) was cells new le f1 kept1 ∙ one)
        (fixed_kept S C.here.base (behind_variables S C) C.low (next_cell cc.made) cc.value new new2 le f3 kept3))))
    action_follows (tree.Load site element root) values args m task vals way at cells vars sound fixed low within
        quiet p goes e s h go =
        let to = next_cell m in
        let le = under.below in
        let f1 = first_fixed S C.low (next_cell m) values fixed in
        let i =
        kernel_item S cells (LinesAt at (LoadThen site to element (root_in C.here root) (first values).atom T) k) in
        let j = inside S C (task ∷ ts) vals vars in
        let same : access_at S.kernel S.launch i element (root_in C.here root)
        (atom_value cells (first values).atom) ≡ program_access S.program S.launch j element root (nth args 0) =
        ap₂ (λ y z. let a : Access = record { object = y; size = size_of element; index = z } in
        a) (under.roots root sound.0 element sound.1) (first_holds cells values args h) in
        R.loads n i j site _ (λ bytes. kernel_item S (updated cells to (value_of_bytes element bytes))
        (LinesAt (Behind ∷ at) T k)) (λ bytes. inside S C ts (value_of_bytes element bytes ∷ vs) vars)
        (plain_facts S i j (record {
          reads_none = fixed_plain S C.low (next_cell m) (first values) f1;
          sets_none = λ v c is. apart_cell S to
              (made_no_variable S to element (value_made S m element within)) v c is;
        }))
        refl (goes ∙ ap (λ z. Loads site z (λ bytes. inside S C ts (value_of_bytes element bytes ∷ vs) vars))
        (sym same))
        (λ bytes. go (Behind ∷ at) (updated cells to (value_of_bytes element bytes)) vars
        (value_of_bytes element bytes) (ap marks_behind e)
        (same_set S C scope cells vars to (value_of_bytes element bytes) inner (omega (arith, le, low)) s)
        (kept_set C.here.base (behind_variables S C) None to cells to (value_of_bytes element bytes) (omega arith))
        (updated_same cells to (value_of_bytes element bytes)))
    action_follows (tree.Store site element root) values args m task vals way at cells vars sound fixed low within
        quiet p goes e s h go =
        let f1 = first_fixed S C.low (next_cell m) values fixed in
        let f2 = second_fixed S C.low (next_cell m) values fixed in
        let i = kernel_item S cells (LinesAt at (StoreThen site element (root_in C.here root) (first values).atom
        (second values).atom T) k) in
        let j = inside S C (task ∷ ts) vals vars in
        let one = first_holds cells values args h in
        let two = second_holds cells values args h in
        R.stores n i (kernel_item S cells (LinesAt (Behind ∷ at) T k)) j (inside S C ts (nth args 1 ∷ vs) vars) site
        (program_object S.program S.launch j root) (nth args 0) (bytes_of element (nth args 1))
        (plain_facts S i j (record {
          reads_none = λ v c is.
              ap₂ (λ y z. y || z) (fixed_plain S C.low (next_cell m) (first values) f1 v c is)
              (fixed_plain S C.low (next_cell m) (second values) f2 v c is);
          sets_none = λ v c is. refl;
        }))
        (ap (λ z. Stores site z (atom_value cells (first values).atom)
        (bytes_of element (atom_value cells (second values).atom))
        (kernel_item S cells (LinesAt (Behind ∷ at) T k))) (under.roots root sound.0 element sound.1)
        ∙ ap (λ z. Stores site (program_object S.program S.launch j root) z
        (bytes_of element (atom_value cells (second values).atom))
        (kernel_item S cells (LinesAt (Behind ∷ at) T k))) one
        ∙ ap (λ z. Stores site (program_object S.program S.launch j root) (nth args 0) (bytes_of element z)
        (kernel_item S cells (LinesAt (Behind ∷ at) T k))) two)
        goes
        (go (Behind ∷ at) cells vars (nth args 1) (ap marks_behind e) s
        (kept_refl C.here.base (behind_variables S C) None (next_cell m) cells) two)
