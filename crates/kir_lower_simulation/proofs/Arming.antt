-- What is known of the arms of a switch, and the lines that say which of them is entered.
use Rattle.std.proofs.Common.{◌≡◌, ℕ, suc, ◌+◌, ◌<◌, ◌≤◌, ℤ, pos, List, [], ◌∷◌, ◌++◌, Option, Some, None, refl, sym}
use Rattle.std.proofs.Common.{ap, ap₂, ◌∙◌, subst, arith, append_assoc, true, false, if◌then◌else◌}
use Rattle.std.proofs.Common.{Bool as Test}
use Rattle.std.specs.Prelude.{◌||◌, ◌&&◌}
use Rattle.std.specs.Ordering.{int_eq}
use Rattle.cl_model.specs.declared.program.Root.{Root}
use Rattle.wg_num.specs.declared.types.IntType.TheVariants.{Int}
use Rattle.wg_num.specs.declared.types.Bin.TheVariants.{And, Or, Eq}
use Rattle.wg_num.specs.declared.types.Un.TheVariants.{Not}
use Rattle.wg_num.specs.Operators.{unary_of, binary_of}
use Rattle.wg_num.specs.Wrap.{wrap_of, half, modulus, bits_of}
use Rattle.cl_model.specs.Agreement.{IsScopedAt}
use Rattle.cl_model.specs.Calls.{calls_of_all, calls_of_arms}
use Rattle.cl_model.specs.Task.{Nth, Arm, Item as ProgramItem}
use Rattle.cl_model.specs.Tree.{Statements, Arms, arm}
use Rattle.cl_model.specs.Valid.{Scope}
use Rattle.kir.specs.declared.line.Atom.{Atom}
use Rattle.kir.specs.declared.line.Atom.TheVariants.{Cell as CellAtom}
use Rattle.kir.specs.Tree.{Unary, Binary, Lines, OfFlag, OfValue, joined_to}
use Rattle.kir.specs.Places.{Behind, Place, Tasks, LinesAt}
use Rattle.kir.specs.Steps.{Item, atom_value}
use Rattle.kir_lower.specs.declared.places.Value.{Value}
use Rattle.kir_lower.specs.Made.{Made, next_cell, with_cell, int}
use Rattle.kir_lower.specs.Ways.{way_out_of_all, way_out_of_arms}
use Rattle.kir_lower.specs.Actions.{fallen_code}
use Rattle.kir_lower.specs.Code.{Calls, entry_code, around_arm, in_order as code_in_order, list_code, arms_code}
use Rattle.kir_lower_shape.specs.Marks.{Way, further, Marks, marks_then, all_marked, marks_behind, marks_at}
use Rattle.kir_lower_shape.proofs.Making.{call_of, entry_makes, fallen_makes}
use Rattle.kir_lower_simulation.specs.Setting.{Setting, Store, updated, kernel_item, Activation}
use Rattle.kir_lower_simulation.specs.Exits.{Exit, Continues, Breaks, Returns, pending}
use Rattle.kir_lower_simulation.specs.Held.{Within, IsFixedAtom}
use Rattle.kir_lower_simulation.specs.Facts.{Rules}
use Rattle.kir_lower_simulation.specs.Ready.{Adds}
use Rattle.kir_lower_simulation.specs.Bodies.{ReadyList, ReadyArms}
use Rattle.kir_lower_simulation.proofs.Lines.{NoVariable, updated_same, updated_other, value_line}
use Rattle.kir_lower_simulation.proofs.Keeping.{Grows, grows_same, grows_before, grows_with, grows_count, next_with}
use Rattle.kir_lower_simulation.proofs.Keeping.{within_less, value_made, made_no_variable, cell_plain, atom_plain}
use Rattle.kir_lower_simulation.proofs.Keeping.{atom_below, value_fixed}
use Rattle.kir_lower_simulation.proofs.Actions.{equal_value}
use Rattle.kir_lower_simulation.proofs.Readying.{next_left, next_right, adds_same, adds_before}
use Rattle.kir_lower_simulation.proofs.Containing.{exit_more, exit_first, exit_second, list_grows, list_adds, arms_grow}

-- ---- 0 and 1

-- a test as a number
abbrev pub bit : Test → ℤ
bit true = pos 1
bit false = pos 0

pub or_value : (a b : Test) → binary_of Or Int (bit a) (bit b) ≡ bit (a || b)
unfolding binary_of wrap_of half modulus bits_of
or_value true true = refl
or_value true false = refl
or_value false true = refl
or_value false false = refl

pub and_value : (a b : Test) → binary_of And Int (bit a) (bit b) ≡ bit (a && b)
unfolding binary_of wrap_of half modulus bits_of
and_value true true = refl
and_value true false = refl
and_value false true = refl
and_value false false = refl

-- nothing is pending
abbrev pub is_calm : Option Exit → Test
is_calm None = true
is_calm (Some x) = false

pub not_value : (o : Option Exit) → unary_of Not Int (pending o) ≡ bit (is_calm o)
unfolding unary_of wrap_of half modulus
not_value None = refl
not_value (Some Continues) = refl
not_value (Some Breaks) = refl
not_value (Some Returns) = refl

-- a test of an equality
pub equal_bit : (a b : ℤ) (t : Test) → int_eq a b ≡ t → binary_of Eq Int a b ≡ bit t
equal_bit a b t e = equal_value Int a b ∙ by t e
  where
    by : (t : Test) → int_eq a b ≡ t → (if int_eq a b then pos 1 else pos 0) ≡ bit t
    by true e = ap (λ z. if z then pos 1 else pos 0) e
    by false e = ap (λ z. if z then pos 1 else pos 0) e

module _ (S : Setting) (C : Activation) (calls : Calls)
    (grows : (site function : ℕ) (roots : List Root) (values : List Value) (m : Made) →
    Grows (call_of site function ∷ []) m (calls C.here site function roots values m).made)
    (adds : (site function : ℕ) (roots : List Root) (values : List Value) (m : Made) →
    Adds S C (call_of site function ∷ []) m (calls C.here site function roots values m).made)
    (scope : Scope) (cell : Option ℕ) (exit : ℕ) (way : Way) (site : ℕ) (chosen fallen : Atom) where
  -- ---- the parts of arms

  entry_grows : (k : ℕ) (m : Made) → Grows [] m (entry_code chosen fallen k m).made
  entry_grows k m = entry_makes Grows grows_same grows_before (grows_with OfValue) (grows_with OfFlag) chosen fallen k m

  fallen_grows : (out : Option ℕ) (entered : Value) (m : Made) → Grows [] m (fallen_code out exit entered m).made
  fallen_grows out entered m =
      fallen_makes Grows grows_same grows_before (grows_with OfValue) (grows_with OfFlag) out exit entered m

  -- the cells that an arm makes
  pub record ArmGrows (k : ℕ) (body : Statements) (m : Made) : Type 0 where
    pub entry : next_cell m ≤ next_cell (entry_code chosen fallen k m).made
    pub list : next_cell (entry_code chosen fallen k m).made ≤
        next_cell (list_code calls C.here exit false body (entry_code chosen fallen k m).made).made
    pub all : next_cell (list_code calls C.here exit false body (entry_code chosen fallen k m).made).made
        ≤ next_cell (around_arm site exit (way_out_of_all true true body) (entry_code chosen fallen k m)
        (code_in_order (list_code calls C.here exit false body (entry_code chosen fallen k m).made))).made

  pub arm_grows : (k : ℕ) (body : Statements) (m : Made) → ArmGrows k body m
  arm_grows k body m =
      let ce = entry_code chosen fallen k m in
      let cb = list_code calls C.here exit false body ce.made in
      record {
        entry = grows_count [] m ce.made (entry_grows k m);
        list =
            grows_count (calls_of_all body) ce.made cb.made (list_grows S C calls grows adds exit false body ce.made);
        all = grows_count [] cb.made (fallen_code (way_out_of_all true true body) exit ce.value cb.made).made
            (fallen_grows (way_out_of_all true true body) ce.value cb.made);
      }

  pub arm_body : (k : ℕ) (labels : List ℤ) (other : Test) (body : Statements) (rest : Arms) (m : Made) →
      ReadyArms S C calls scope cell exit way site chosen fallen k (arm labels other body rest) m
      → ReadyList S C calls scope cell exit (further way (Arm k)) 0 false body (entry_code chosen fallen k m).made
  unfolding arms_code
  arm_body k labels other body rest m r =
      let ce = entry_code chosen fallen k m in
      let cb = list_code calls C.here exit false body ce.made in
      let ca = around_arm site exit (way_out_of_all true true body) ce (code_in_order cb) in
      let g = grows_count [] m ce.made (entry_grows k m) in
      let l = r.low in
      record {
        sound = r.sound.0;
        leads = λ begun n i e along v h. subst (λ z. IsScopedAt S.program z v)
            (sym (append_assoc (way begun) (Arm k ∷ []) (Nth n ∷ along)))
            (subst (λ z. IsScopedAt S.program (way begun ++ Arm k ∷ Nth z ∷ along) v) (let same : i ≡
            n = omega (arith, e) in same) (r.leads begun k 0 (omega arith) i along v h));
        next = next_left S C ce.made (calls_of_all body) (calls_of_arms rest)
            (next_right S C m ce.made [] (calls_of_all body ++ calls_of_arms rest) r.next
            (entry_makes (Adds S C) (adds_same S C) (adds_before S C) (λ m of. adds_same S C m)
            (λ m of. adds_same S C m) chosen fallen k m));
        within = within_less S [] cb.made ca.made (fallen_grows (way_out_of_all true true body) ce.value cb.made)
            (within_less S (calls_of_arms rest) ca.made _ (arms_grow S C calls grows adds exit site chosen
            ca.value.atom (k + 1) rest ca.made) r.within);
        low = omega (arith, g, l);
        inner = r.inner;
        ended = λ x p. r.ended x (omega (arith, p));
        exits = exit_more S C cell exit m ce.made g r.exits;
        has_exit = exit_first cell exit (way_out_of_all true true body) (way_out_of_arms true true rest) r.has_exit;
      }

  pub arm_within : (k : ℕ) (labels : List ℤ) (other : Test) (body : Statements) (rest : Arms) (m : Made) →
      ReadyArms S C calls scope cell exit way site chosen fallen k (arm labels other body rest) m
      → Within S (around_arm site exit (way_out_of_all true true body) (entry_code chosen fallen k m)
      (code_in_order (list_code calls C.here exit false body (entry_code chosen fallen k m).made))).made
  unfolding arms_code
  arm_within k labels other body rest m r =
      let ce = entry_code chosen fallen k m in
      let cb = list_code calls C.here exit false body ce.made in
      let ca = around_arm site exit (way_out_of_all true true body) ce (code_in_order cb) in
      within_less S (calls_of_arms rest) ca.made _ (arms_grow S C calls grows adds exit site chosen ca.value.atom
      (k + 1) rest ca.made) r.within

  pub arm_rest : (k : ℕ) (labels : List ℤ) (other : Test) (body : Statements) (rest : Arms) (m : Made) →
      ReadyArms S C calls scope cell exit way site chosen fallen k (arm labels other body rest) m
      → ReadyArms S C calls scope cell exit way site chosen
      (around_arm site exit (way_out_of_all true true body) (entry_code chosen fallen k m)
      (code_in_order (list_code calls C.here exit false body (entry_code chosen fallen k m).made))).value.atom
      (k + 1) rest
      (around_arm site exit (way_out_of_all true true body) (entry_code chosen fallen k m)
      (code_in_order (list_code calls C.here exit false body (entry_code chosen fallen k m).made))).made
  unfolding arms_code
  arm_rest k labels other body rest m r =
      let ce = entry_code chosen fallen k m in
      let cb = list_code calls C.here exit false body ce.made in
      let ca = around_arm site exit (way_out_of_all true true body) ce (code_in_order cb) in
      let g = (arm_grows k body m).entry in
      let g2 = (arm_grows k body m).list in
      let g3 = (arm_grows k body m).all in
      let l = r.low in
      let next_e = next_right S C m ce.made [] (calls_of_all body ++ calls_of_arms rest) r.next
      (entry_makes (Adds S C) (adds_same S C) (adds_before S C) (λ m of. adds_same S C m)
      (λ m of. adds_same S C m) chosen fallen k m) in
      let next_b = next_right S C ce.made cb.made (calls_of_all body) (calls_of_arms rest) next_e
      (list_adds S C calls grows adds exit false body ce.made) in
      record {
        sound = r.sound.1;
        leads = λ begun n i e l along v h. r.leads begun n (suc i) (omega (arith, e)) l along v h;
        next = next_right S C cb.made ca.made [] (calls_of_arms rest) next_b
            (fallen_makes (Adds S C) (adds_same S C) (adds_before S C) (λ m of. adds_same S C m)
            (λ m of. adds_same S C m) (way_out_of_all true true body) exit ce.value cb.made);
        within = r.within;
        low = omega (arith, g, g2, g3, l);
        inner = r.inner;
        ended = λ x p. r.ended x (omega (arith, p));
        exits = exit_more S C cell exit m ca.made (omega (arith, g, g2, g3)) r.exits;
        has_exit = exit_second cell exit (way_out_of_all true true body) (way_out_of_arms true true rest) r.has_exit;
      }

-- ---- the lines around an arm

module _ (S : Setting) (G : ℕ → Item → ProgramItem → Type 0) (R : Rules S G) (C : Activation) where
  -- whether an arm is entered
  pub entry_follows : (chosen fallen : Atom) (k : ℕ) (m : Made) (n : ℕ) (T : Lines) (way : Way) (tm : Marks)
      (t : Tasks) (at : Place) (cells : Store) (j : ProgramItem) (a b : Test) → C.low ≤ next_cell m
      → IsFixedAtom S C.low (next_cell m) chosen Int → IsFixedAtom S C.low (next_cell m) fallen Int →
      Within S (entry_code chosen fallen k m).made
      → atom_value cells fallen ≡ bit a → int_eq (atom_value cells chosen) (pos k) ≡ b →
      marks_at S.marks at ≡ marks_then (all_marked way (entry_code chosen fallen k m).lines) tm
      → ((at' : Place) (new : Store) → marks_at S.marks at' ≡ tm → ((c : ℕ) → c < next_cell m → new c ≡ cells c) →
      atom_value new (entry_code chosen fallen k m).value.atom ≡ bit (a || b) →
      G n (kernel_item S new (LinesAt at' T t)) j)
      → G n (kernel_item S cells (LinesAt at (joined_to (entry_code chosen fallen k m).lines T) t)) j
  entry_follows chosen fallen k m n T way tm t at cells j a b low fc ff within holds is e go =
      let m1 = with_cell m OfValue Int in
      let c = next_cell m in
      let d = next_cell m1 in
      let n0 = next_with m OfValue Int in
      let w1 = within_less S [] m1 (entry_code chosen fallen k m).made (grows_with OfValue m1 Int) within in
      let nc = made_no_variable S c Int (value_made S m Int w1) in
      let nd = made_no_variable S d Int (value_made S m1 Int within) in
      let x = binary_of Eq Int (atom_value cells chosen) (pos k) in
      let s1 = updated cells c x in
      let y = binary_of Or Int (atom_value s1 fallen) (s1 c) in
      let s2 = updated s1 d y in
      value_line S G R C n cells at c (Binary Eq Int chosen (int (pos k))) _ t j nc
      (λ v u i. ap (λ z. z || false) (atom_plain S C.low (next_cell m) chosen Int fc v u i))
      (value_line S G R C n s1 (Behind ∷ at) d (Binary Or Int fallen (CellAtom c)) T t j nd
      (λ v u i. ap₂ (λ y z. y || z) (atom_plain S C.low (next_cell m) fallen Int ff v u i)
      (cell_plain S c nc v u i))
      (go (Behind ∷ Behind ∷ at) s2 (ap (λ z. marks_behind (marks_behind z)) e)
      (λ u lt. updated_other s1 d y u (λ q. omega (arith, q, lt, n0)) ∙
      updated_other cells c x u (λ q. omega (arith, q, lt)))
      (updated_same s1 d y ∙ ap₂ (λ y z. binary_of Or Int y z) (atom_below S C.low (next_cell m) fallen Int cells c x
      ff (omega arith) ∙ holds) (updated_same cells c x ∙ equal_bit (atom_value cells chosen) (pos k) b is) ∙
      or_value a b)))

  -- whether the next one is fallen into
  pub fallen_follows : (out : Option ℕ) (exit : ℕ) (entered : Value) (m : Made) (n : ℕ) (T : Lines) (way : Way)
      (tm : Marks) (t : Tasks) (at : Place) (cells : Store) (j : ProgramItem) (a : Test) (o : Option Exit) →
      C.low ≤ next_cell m
      → IsFixedAtom S C.low (next_cell m) entered.atom Int →
      ((s : ℕ) → out ≡ Some s → NoVariable S exit × (cells exit ≡ pending o)) →
      (out ≡ None → a ≡ true → o ≡ None) → Within S (fallen_code out exit entered m).made
      → atom_value cells entered.atom ≡ bit a →
      marks_at S.marks at ≡ marks_then (all_marked way (fallen_code out exit entered m).lines) tm
      → ((at' : Place) (new : Store) → marks_at S.marks at' ≡ tm → ((c : ℕ) → c < next_cell m → new c ≡ cells c) →
      atom_value new (fallen_code out exit entered m).value.atom ≡ bit (a && is_calm o) →
      G n (kernel_item S new (LinesAt at' T t)) j)
      → G n (kernel_item S cells (LinesAt at (joined_to (fallen_code out exit entered m).lines T) t)) j
  fallen_follows None exit entered m n T way tm t at cells j a o low fe real calm within holds e go =
      go at cells e (λ c lt. refl) (holds ∙ same a (calm refl))
    where
      same : (a : Test) → (a ≡ true → o ≡ None) → bit a ≡ bit (a && is_calm o)
      same true f = sym (ap (λ z. bit (is_calm z)) (f refl))
      same false f = refl
  fallen_follows (Some s) exit entered m n T way tm t at cells j a o low fe real calm within holds e go =
      let m1 = with_cell m OfValue Int in
      let c = next_cell m in
      let d = next_cell m1 in
      let n0 = next_with m OfValue Int in
      let w1 = within_less S [] m1 (fallen_code (Some s) exit entered m).made (grows_with OfValue m1 Int) within in
      let nc = made_no_variable S c Int (value_made S m Int w1) in
      let nd = made_no_variable S d Int (value_made S m1 Int within) in
      let own = real s refl in
      let x = unary_of Not Int (cells exit) in
      let s1 = updated cells c x in
      let y = binary_of And Int (atom_value s1 entered.atom) (s1 c) in
      let s2 = updated s1 d y in
      value_line S G R C n cells at c (Unary Not Int (CellAtom exit)) _ t j nc (cell_plain S exit own.0)
      (value_line S G R C n s1 (Behind ∷ at) d (Binary And Int entered.atom (CellAtom c)) T t j nd
      (λ v u i. ap₂ (λ y z. y || z) (atom_plain S C.low (next_cell m) entered.atom Int fe v u i)
      (cell_plain S c nc v u i))
      (go (Behind ∷ Behind ∷ at) s2 (ap (λ z. marks_behind (marks_behind z)) e)
      (λ u lt. updated_other s1 d y u (λ q. omega (arith, q, lt, n0)) ∙
      updated_other cells c x u (λ q. omega (arith, q, lt)))
      (updated_same s1 d y ∙ ap₂ (λ y z. binary_of And Int y z) (atom_below S C.low (next_cell m) entered.atom Int
      cells c x fe (omega arith) ∙ holds) (updated_same cells c x ∙ ap (unary_of Not Int) own.1 ∙
      not_value o) ∙ and_value a (is_calm o))))

  -- the atom of the next entry is made
  pub entry_fixed : (chosen fallen : Atom) (k : ℕ) (m : Made) → C.low ≤ next_cell m →
      Within S (entry_code chosen fallen k m).made →
      IsFixedAtom S C.low (next_cell (entry_code chosen fallen k m).made) (entry_code chosen fallen k m).value.atom Int
  entry_fixed chosen fallen k m low within = let n0 =
      next_with m OfValue Int in value_fixed S C.low (with_cell m OfValue Int) Int (omega (arith, n0, low)) within

  pub fallen_fixed : (out : Option ℕ) (exit : ℕ) (entered : Value) (m : Made) → C.low ≤ next_cell m →
      IsFixedAtom S C.low (next_cell m) entered.atom Int → Within S (fallen_code out exit entered m).made
      → IsFixedAtom S C.low (next_cell (fallen_code out exit entered m).made)
      (fallen_code out exit entered m).value.atom Int
  fallen_fixed None exit entered m low fe within = fe
  fallen_fixed (Some s) exit entered m low fe within = let n0 =
      next_with m OfValue Int in value_fixed S C.low (with_cell m OfValue Int) Int (omega (arith, n0, low)) within
