-- The lines that compute which arm of a switch is chosen, and that it is the one at which the program's item enters.
use Rattle.std.proofs.Common.{◌≡◌, ℕ, suc, ◌+◌, ◌<◌, ◌≤◌, ℤ, pos, List, [], ◌∷◌, ◌++◌, Some, None, refl, sym, ap, ◌∙◌}
use Rattle.std.proofs.Common.{subst, arith, true, false, if◌then◌else◌, inl, inr}
use Rattle.std.proofs.Common.{Bool as Test}
use Rattle.std.specs.Prelude.{◌||◌}
use Rattle.std.specs.Ordering.{int_eq}
use Rattle.std.proofs.lemmas.Bool.{true≢false, and_parts}
use Rattle.std.proofs.lemmas.Bool.Decides.{Decides-int_eq}
use Rattle.std.proofs.lemmas.Int.{ints}
use Rattle.wg_num.specs.declared.types.IntType.{IntType}
use Rattle.wg_num.specs.declared.types.IntType.TheVariants as types
use Rattle.wg_num.specs.declared.types.IntType.TheVariants.{Int}
use Rattle.wg_num.specs.declared.types.Bin.TheVariants.{Eq}
use Rattle.wg_num.specs.Operators.{binary_of}
use Rattle.wg_num.specs.Wrap.{IsValue, wrap_of, half, modulus}
use Rattle.wg_num.proofs.WrapLaws.{wrap_value}
use Rattle.wg_num.specs.Types.{is_value}
use Rattle.cl_model.specs.Lists.{IsOneOf, AllDiffer}
use Rattle.cl_model.specs.Steps.{has_label, Entry, nowhere, entry, labelled, defaulted, or_else, entry_of}
use Rattle.cl_model.specs.Task.{Item as ProgramItem}
use Rattle.cl_model.specs.Tree.{Arms, no_arm, arm}
use Rattle.cl_model.specs.Valid.{promoted, labels_of}
use Rattle.cl_model.specs.Values.{is_zero}
use Rattle.kir.specs.declared.line.Atom.{Atom}
use Rattle.kir.specs.declared.line.Atom.TheVariants.{Const, Cell as CellAtom}
use Rattle.kir.specs.Tree.{Binary, Convert, Copy, Lines, NoLine, SetThen, LoadThen, StoreThen, ClearThen, IfThen}
use Rattle.kir.specs.Tree.{LoopThen, BarrierThen, OfValue, joined_to}
use Rattle.kir.specs.Places.{Behind, IntoChosen, IntoOther, Place, Tasks, LinesAt}
use Rattle.kir.specs.Steps.{Item, atom_value}
use Rattle.kir_lower.specs.declared.places.Value.{Value}
use Rattle.kir_lower.specs.Made.{Made, next_cell, with_cell, int}
use Rattle.kir_lower.specs.Actions.{set_to, default_number, label_code, labels_code, all_labels_code, selected}
use Rattle.kir.specs.Fits.{has_some_type, work_fits}
use Rattle.kir.proofs.CellTypes.{is_value_is}
use Rattle.kir_lower_shape.specs.Marks.{Way, Marks, MarkThen, FormThen, marks_then, all_marked, marks_behind, marks_at}
use Rattle.kir_lower_simulation.specs.Setting.{Setting, Store, updated, kernel_item, Activation}
use Rattle.kir_lower_simulation.specs.Held.{Within, IsFixedAtom, IsFixed}
use Rattle.kir_lower_simulation.specs.Facts.{Rules, HoldsTypes}
use Rattle.kir_lower_simulation.proofs.Lines.{NoVariable, updated_same, updated_other, end_line, value_line, if_line}
use Rattle.kir_lower_simulation.proofs.Keeping.{Grows, grows_same, grows_before, grows_with, grows_count, next_with}
use Rattle.kir_lower_simulation.proofs.Keeping.{within_less, value_made, made_no_variable, cell_plain, atom_plain}
use Rattle.kir_lower_simulation.proofs.Keeping.{fixed_more}
use Rattle.kir_lower_simulation.proofs.Actions.{not_equal, equal_value}
use Rattle.kir_lower_simulation.proofs.Expressions.{marks_assoc, at_lines}
use Rattle.kir_lower_simulation.proofs.Guards.{KeptBut}
use Rattle.kir_lower_simulation.proofs.Switches.{IsEntry}

-- ---- types

-- a value is one of the type to which it is promoted
pub promoted_value : (t : IntType) (z : ℤ) → IsValue t z → IsValue (promoted t) z
unfolding half modulus
promoted_value types.Bool z h = let a = h.low in let b =
    h.high in record { low = omega (arith, ints, a, b); high = omega (arith, ints, a, b) }
promoted_value types.Char z h = let a = h.low in let b =
    h.high in record { low = omega (arith, ints, a, b); high = omega (arith, ints, a, b) }
promoted_value types.Uchar z h = let a = h.low in let b =
    h.high in record { low = omega (arith, ints, a, b); high = omega (arith, ints, a, b) }
promoted_value types.Short z h = let a = h.low in let b =
    h.high in record { low = omega (arith, ints, a, b); high = omega (arith, ints, a, b) }
promoted_value types.Ushort z h = let a = h.low in let b =
    h.high in record { low = omega (arith, ints, a, b); high = omega (arith, ints, a, b) }
promoted_value types.Int z h = h
promoted_value types.Uint z h = h
promoted_value types.Long z h = h
promoted_value types.Ulong z h = h

-- ---- the number of the chosen arm

-- the number that the last label gives that the value is
abbrev pub last_number : ℤ → ℕ → Arms → ℤ → ℤ
last_number v k no_arm x = x
last_number v k (arm labels other body rest) x = last_number v (k + 1) rest (if has_label v labels then pos k else x)

label_in : (v : ℤ) (labels : List ℤ) → has_label v labels ≡ true → IsOneOf labels v
label_in v [] h = absurd (true≢false (sym h))
label_in v (label ∷ labels) h = by (int_eq v label) refl (label_in v labels)
  where
    by : (b : Test) → int_eq v label ≡ b → (has_label v labels ≡ true → IsOneOf labels v) → IsOneOf (label ∷ labels) v
    by true e f = inl (sym ((Decides-int_eq v label).0 e))
    by false e f = inr (f (sym (ap (λ b. if b then true else has_label v labels) e) ∙ h))

one_left : (xs ys : List ℤ) (v : ℤ) → IsOneOf xs v → IsOneOf (xs ++ ys) v
one_left [] ys v h = absurd h
one_left (x ∷ xs) ys v (inl e) = inl e
one_left (x ∷ xs) ys v (inr h) = inr (one_left xs ys v h)

one_right : (xs ys : List ℤ) (v : ℤ) → IsOneOf ys v → IsOneOf (xs ++ ys) v
one_right [] ys v h = h
one_right (x ∷ xs) ys v h = inr (one_right xs ys v h)

differ_apart : (xs ys : List ℤ) (v : ℤ) → AllDiffer (xs ++ ys) → IsOneOf xs v → IsOneOf ys v → ⊥
differ_apart [] ys v d h k = h
differ_apart (x ∷ xs) ys v d (inl e) k = d.0 (subst (IsOneOf (xs ++ ys)) (sym e) (one_right xs ys v k))
differ_apart (x ∷ xs) ys v d (inr h) k = differ_apart xs ys v d.1 h k

differ_right : (xs ys : List ℤ) → AllDiffer (xs ++ ys) → AllDiffer ys
differ_right [] ys d = d
differ_right (x ∷ xs) ys d = differ_right xs ys d.1

-- where no label is the value, none of the later ones is
none_labelled : (v : ℤ) (k : ℕ) (arms : Arms) (x : ℤ) → (IsOneOf (labels_of arms) v → ⊥) →
    (labelled v k arms ≡ nowhere) × (last_number v k arms x ≡ x)
none_labelled v k no_arm x h = (refl, refl)
none_labelled v k (arm labels other body rest) x h =
    by (has_label v labels) refl (none_labelled v (suc k) rest x (λ i. h (one_right labels (labels_of rest) v i))).0
    (none_labelled v (k + 1) rest x (λ i. h (one_right labels (labels_of rest) v i))).1
  where
    by : (b : Test) → has_label v labels ≡ b → labelled v (suc k) rest ≡ nowhere → last_number v (k + 1) rest x ≡ x →
        (labelled v k (arm labels other body rest) ≡ nowhere) × (last_number v k (arm labels other body rest) x ≡ x)
    by true e f g = absurd (h (one_left labels (labels_of rest) v (label_in v labels e)))
    by false e f g = (
      ap (λ b. if b then entry k (arm labels other body rest) else labelled v (suc k) rest) e ∙ f,
      ap (λ b. last_number v (k + 1) rest (if b then pos k else x)) e ∙ g,
    )

-- an entry among the arms from one on has no smaller number
entry_number : (k : ℕ) (arms : Arms) (i : ℕ) (entered : Arms) (c : ℤ) → IsEntry k arms (entry i entered) c →
    (c ≡ pos i) × (k ≤ i)
entry_number k no_arm i entered c h = absurd h
entry_number k (arm labels other body rest) i entered c (inl h) =
    (h.2 ∙ ap pos (sym h.0), (let e = h.0 in omega (arith, e)))
entry_number k (arm labels other body rest) i entered c (inr h) = let p =
    entry_number (k + 1) rest i entered c h.1 in (p.0, (let l = p.1 in omega (arith, l)))

-- so the arm before is another
apart_number : (k i : ℕ) (c : ℤ) → c ≡ pos i → k + 1 ≤ i → int_eq c (pos k) ≡ false
apart_number k i c e le =
    not_equal c (pos k) (λ p. let q : pos i ≡ pos k = sym e ∙ p in let r : i ≡ k = cc in omega (arith, r, le))

-- the label's arm
label_entry : (v : ℤ) (k : ℕ) (arms : Arms) (x : ℤ) (i : ℕ) (entered : Arms) → AllDiffer (labels_of arms) →
    labelled v k arms ≡ entry i entered → IsEntry k arms (entry i entered) (last_number v k arms x)
label_entry v k no_arm x i entered d e = cc
label_entry v k (arm labels other body rest) x i entered d e =
    by (has_label v labels) refl (label_entry v (k + 1) rest x i entered (differ_right labels (labels_of rest) d))
  where
    one : k + 1 ≡ suc k
    one = omega arith

    by : (b : Test) → has_label v labels ≡ b →
        (labelled v (k + 1) rest ≡ entry i entered →
        IsEntry (k + 1) rest (entry i entered) (last_number v (k + 1) rest x))
        → IsEntry k (arm labels other body rest) (entry i entered) (last_number v k (arm labels other body rest) x)
    by true h inner =
        let same : entry k (arm labels other body rest) ≡ entry i entered =
        sym (ap (λ b. if b then entry k (arm labels other body rest) else labelled v (suc k) rest) h) ∙ e in
        let e1 : k ≡ i = cc in
        let e2 : arm labels other body rest ≡ entered = cc in
        inl (
          sym e1,
          sym e2,
          ap (λ b. last_number v (k + 1) rest (if b then pos k else x)) h ∙
              (none_labelled v (k + 1) rest (pos k) (λ j. differ_apart labels (labels_of rest) v d
              (label_in v labels h) j)).1,
        )
    by false h inner =
        let same : labelled v (suc k) rest ≡ entry i entered =
        sym (ap (λ b. if b then entry k (arm labels other body rest) else labelled v (suc k) rest) h) ∙ e in
        let is = inner (subst (λ j. labelled v j rest ≡ entry i entered) (sym one) same) in
        let p = entry_number (k + 1) rest i entered (last_number v (k + 1) rest x) is in
        subst (λ z. IsEntry k (arm labels other body rest) (entry i entered) z)
        (sym (ap (λ b. last_number v (k + 1) rest (if b then pos k else x)) h))
        (inr (apart_number k i (last_number v (k + 1) rest x) p.0 p.1, is))

-- without a label, the value of the number stays
no_label : (v : ℤ) (k : ℕ) (arms : Arms) (x : ℤ) → labelled v k arms ≡ nowhere → last_number v k arms x ≡ x
no_label v k no_arm x e = refl
no_label v k (arm labels other body rest) x e = by (has_label v labels) refl (no_label v (k + 1) rest x)
  where
    by : (b : Test) → has_label v labels ≡ b →
        (labelled v (k + 1) rest ≡ nowhere → last_number v (k + 1) rest x ≡ x) →
        last_number v k (arm labels other body rest) x ≡ x
    by true h inner = let same : entry k (arm labels other body rest) ≡ nowhere =
        sym (ap (λ b. if b then entry k (arm labels other body rest) else labelled v (suc k) rest) h) ∙ e in absurd (cc)
    by false h inner =
        let same : labelled v (suc k) rest ≡ nowhere =
        sym (ap (λ b. if b then entry k (arm labels other body rest) else labelled v (suc k) rest) h) ∙ e in
        let one : k + 1 ≡ suc k = omega arith in
        ap (λ b. last_number v (k + 1) rest (if b then pos k else x)) h ∙
        inner (subst (λ j. labelled v j rest ≡ nowhere) (sym one) same)

-- ---- the arm with `default`

default_least : (k : ℕ) (arms : Arms) → k ≤ default_number k arms
default_least k no_arm = omega arith
default_least k (arm labels other body rest) = by other (default_least (k + 1) rest)
  where
    by : (b : Test) → k + 1 ≤ default_number (k + 1) rest → k ≤ (if b then k else default_number (k + 1) rest)
    by true h = omega arith
    by false h = omega (arith, h)

default_entry : (k : ℕ) (arms : Arms) (e : Entry) → defaulted k arms ≡ e →
    IsEntry k arms e (pos (default_number k arms))
default_entry k no_arm nowhere e = tt
default_entry k no_arm (entry i entered) e = cc
default_entry k (arm labels true body rest) nowhere e = absurd (cc)
default_entry k (arm labels true body rest) (entry i entered) e =
    let e1 : k ≡ i = cc in
    let e2 : arm labels true body rest ≡ entered = cc in
    inl (sym e1, sym e2, refl)
default_entry k (arm labels false body rest) nowhere e =
    let one : k + 1 ≡ suc k = omega arith in (
      apart_number k (default_number (k + 1) rest) (pos (default_number (k + 1) rest)) refl
          (default_least (k + 1) rest),
      default_entry (k + 1) rest nowhere
          (subst (λ j. defaulted j rest ≡ nowhere) (sym one) e),
    )
default_entry k (arm labels false body rest) (entry i entered) e =
    let one : k + 1 ≡ suc k = omega arith in
    let is =
    default_entry (k + 1) rest (entry i entered) (subst (λ j. defaulted j rest ≡ entry i entered) (sym one) e) in
    inr (
      apart_number k (default_number (k + 1) rest) (pos (default_number (k + 1) rest)) refl
          (default_least (k + 1) rest),
      is,
    )

-- the number is that of the arm at which a switch on the value is entered
pub chosen_entry : (v : ℤ) (arms : Arms) → AllDiffer (labels_of arms) →
    IsEntry 0 arms (entry_of v arms) (last_number v 0 arms (pos (default_number 0 arms)))
chosen_entry v arms d = by (labelled v 0 arms) refl
  where
    by : (e : Entry) → labelled v 0 arms ≡ e →
        IsEntry 0 arms (entry_of v arms) (last_number v 0 arms (pos (default_number 0 arms)))
    by nowhere e =
        subst (λ z. IsEntry 0 arms z (last_number v 0 arms (pos (default_number 0 arms))))
        (sym (ap (λ z. or_else z (defaulted 0 arms)) e))
        (subst (λ z. IsEntry 0 arms (defaulted 0 arms) z) (sym (no_label v 0 arms (pos (default_number 0 arms)) e))
        (default_entry 0 arms (defaulted 0 arms) refl))
    by (entry i entered) e =
        subst (λ z. IsEntry 0 arms z (last_number v 0 arms (pos (default_number 0 arms))))
        (sym (ap (λ z. or_else z (defaulted 0 arms)) e))
        (label_entry v 0 arms (pos (default_number 0 arms)) i entered d e)

-- ---- the lines

-- lines in order have their marks in order
pub marked_joined : (way : Way) (a b : Lines) →
    all_marked way (joined_to a b) ≡ marks_then (all_marked way a) (all_marked way b)
marked_joined way NoLine b = refl
marked_joined way (SetThen to work rest) b = ap (λ z. MarkThen way z) (marked_joined way rest b)
marked_joined way (LoadThen site to element root index rest) b = ap (λ z. MarkThen way z) (marked_joined way rest b)
marked_joined way (StoreThen site element root index from rest) b = ap (λ z. MarkThen way z) (marked_joined way rest b)
marked_joined way (ClearThen array rest) b = ap (λ z. MarkThen way z) (marked_joined way rest b)
marked_joined way (IfThen site test chosen other rest) b =
    ap (λ z. FormThen way (all_marked way chosen) (all_marked way other) z) (marked_joined way rest b)
marked_joined way (LoopThen site test_first test answer body rest) b =
    ap (λ z. FormThen way (all_marked way test) (all_marked way body) z) (marked_joined way rest b)
marked_joined way (BarrierThen site rest) b = ap (λ z. MarkThen way z) (marked_joined way rest b)

-- the atom is another cell
abbrev pub AtomApart : ℕ → Atom → Type 0
AtomApart to (Const value of) = Unit {0}
AtomApart to (CellAtom c) = c ≡ to → ⊥

atom_but : (S : Setting) (low high to : ℕ) (a : Atom) (of : IntType) (old new : Store) → IsFixedAtom S low high a of →
    AtomApart to a → KeptBut to high old new → atom_value new a ≡ atom_value old a
atom_but S low high to (Const value t) of old new f h k = refl
atom_but S low high to (CellAtom c) of old new f h k = k c h f.1

labels_grow : (site : ℕ) (value : Value) (chosen k : ℕ) (labels : List ℤ) (m : Made) →
    Grows [] m (labels_code site value chosen k labels m).made
labels_grow site value chosen k [] m = grows_same m
labels_grow site value chosen k (label ∷ labels) m =
    grows_before [] [] m (label_code site value chosen k label m).made
    (labels_code site value chosen k labels (label_code site value chosen k label m).made).made
    (grows_with OfValue m Int) (labels_grow site value chosen k labels (label_code site value chosen k label m).made)

pub all_labels_grow : (site : ℕ) (value : Value) (chosen k : ℕ) (arms : Arms) (m : Made) →
    Grows [] m (all_labels_code site value chosen k arms m).made
all_labels_grow site value chosen k no_arm m = grows_same m
all_labels_grow site value chosen k (arm labels other body rest) m =
    grows_before [] [] m (labels_code site value chosen k labels m).made
    (all_labels_code site value chosen (k + 1) rest (labels_code site value chosen k labels m).made).made
    (labels_grow site value chosen k labels m) (all_labels_grow site value chosen (k + 1) rest
    (labels_code site value chosen k labels m).made)

module _ (S : Setting) (G : ℕ → Item → ProgramItem → Type 0) (R : Rules S G) (C : Activation) (site : ℕ)
    (value : Value) (to : ℕ) (to_plain : NoVariable S to) (apart_ : AtomApart to value.atom) (n : ℕ) (way : Way)
    (t : Tasks) (j : ProgramItem) (v : ℤ) where
  -- the value is compared with one label
  label_follows : (k : ℕ) (label : ℤ) (m : Made) (T : Lines) (tm : Marks) (at : Place) (cells : Store) (x : ℤ) →
      IsFixed S C.low (next_cell m) value → to < next_cell m → Within S (label_code site value to k label m).made
      → marks_at S.marks at ≡ marks_then (all_marked way (label_code site value to k label m).lines) tm →
      atom_value cells value.atom ≡ v → cells to ≡ x
      → ((at' : Place) (new : Store) → marks_at S.marks at' ≡ tm → new to ≡ (if int_eq v label then pos k else x) →
      KeptBut to (next_cell m) cells new → G n (kernel_item S new (LinesAt at' T t)) j)
      → G n (kernel_item S cells (LinesAt at (joined_to (label_code site value to k label m).lines T) t)) j
  label_follows k label m T tm at cells x fixed less within e holds is go =
      let c = next_cell m in
      let nc = made_no_variable S c Int (value_made S m Int within) in
      let got = binary_of Eq value.of (atom_value cells value.atom) label in
      let c1 = updated cells c got in
      let b = int_eq v label in
      let worth : got ≡ (if b then pos 1 else pos 0) = equal_value value.of (atom_value cells value.atom) label ∙
      ap (λ z. if int_eq z label then pos 1 else pos 0) holds in
      value_line S G R C n cells at c (Binary Eq value.of value.atom (Const label value.of))
      (IfThen site (CellAtom c) (set_to to (int (pos k))) NoLine T) t j nc
      (λ u i q. ap (λ z. z || false) (atom_plain S C.low (next_cell m) value.atom value.of fixed u i q))
      (by b c1 (updated_same cells c got ∙ worth) nc (updated_other cells c got to (λ q. omega (arith, q, less)) ∙
      is) (λ d h lt. updated_other cells c got d (λ q. omega (arith, q, lt))) go)
    where
      by : (b : Test) (c1 : Store) → c1 (next_cell m) ≡ (if b then pos 1 else pos 0) → NoVariable S (next_cell m) →
          c1 to ≡ x → KeptBut to (next_cell m) cells c1
          → ((at' : Place) (new : Store) → marks_at S.marks at' ≡ tm → new to ≡ (if b then pos k else x) →
          KeptBut to (next_cell m) cells new → G n (kernel_item S new (LinesAt at' T t)) j)
          →
          G n (kernel_item S c1 (LinesAt (Behind ∷ at)
          (IfThen site (CellAtom (next_cell m)) (set_to to (int (pos k))) NoLine T) t)) j
      by true c1 h nc is kept go =
          if_line S G R C n c1 (Behind ∷ at) site (CellAtom (next_cell m)) (set_to to (int (pos k))) NoLine T t j
          false (cell_plain S (next_cell m) nc) (ap is_zero h)
          (value_line S G R C n c1 (IntoChosen ∷ Behind ∷ at) to (Copy (int (pos k))) NoLine
          (LinesAt (Behind ∷ Behind ∷ at) T t) j to_plain (λ u i q. refl)
          (end_line S G R C n (updated c1 to (pos k)) (Behind ∷ IntoChosen ∷ Behind ∷ at)
          (LinesAt (Behind ∷ Behind ∷ at) T t) j
          (go (Behind ∷ Behind ∷ at) (updated c1 to (pos k)) (ap (λ z. marks_behind (marks_behind z)) e)
          (updated_same c1 to (pos k)) (λ d q lt. updated_other c1 to (pos k) d (λ p. q (sym p)) ∙ kept d q lt))))
      by false c1 h nc is kept go =
          if_line S G R C n c1 (Behind ∷ at) site (CellAtom (next_cell m)) (set_to to (int (pos k))) NoLine T t j true
          (cell_plain S (next_cell m) nc) (ap is_zero h)
          (end_line S G R C n c1 (IntoOther ∷ Behind ∷ at) (LinesAt (Behind ∷ Behind ∷ at) T t) j
          (go (Behind ∷ Behind ∷ at) c1 (ap (λ z. marks_behind (marks_behind z)) e) is kept))

  -- with several
  labels_follow : (labels : List ℤ) (k : ℕ) (m : Made) (T : Lines) (tm : Marks) (at : Place) (cells : Store) (x : ℤ) →
      IsFixed S C.low (next_cell m) value → to < next_cell m → Within S (labels_code site value to k labels m).made
      → marks_at S.marks at ≡ marks_then (all_marked way (labels_code site value to k labels m).lines) tm →
      atom_value cells value.atom ≡ v → cells to ≡ x
      → ((at' : Place) (new : Store) → marks_at S.marks at' ≡ tm →
      new to ≡ (if has_label v labels then pos k else x) → KeptBut to (next_cell m) cells new →
      G n (kernel_item S new (LinesAt at' T t)) j)
      → G n (kernel_item S cells (LinesAt at (joined_to (labels_code site value to k labels m).lines T) t)) j
  labels_follow [] k m T tm at cells x fixed less within e holds is go = go at cells e is (λ c h lt. refl)
  labels_follow (label ∷ labels) k m T tm at cells x fixed less within e holds is go =
      let cl = label_code site value to k label m in
      let cr = labels_code site value to k labels cl.made in
      let n0 = next_with m OfValue Int in
      let w = within_less S [] cl.made cr.made (labels_grow site value to k labels cl.made) within in
      at_lines S G R C n cells at cl.lines cr.lines T t j
      (label_follows k label m (joined_to cr.lines T) (marks_then (all_marked way cr.lines) tm) at cells x fixed less
      w e holds is
      (λ at1 c1 e1 h1 k1.
      labels_follow labels k cl.made T tm at1 c1 (if int_eq v label then pos k else x)
      (fixed_more S C.low (next_cell m) (next_cell cl.made) value (omega (arith, n0)) fixed) (omega (
        arith,
        less,
        n0,
      )) within e1
      (atom_but S C.low (next_cell m) to value.atom value.of cells c1 fixed apart_ k1 ∙ holds) h1
      (λ at2 c2 e2 h2 k2. go at2 c2 e2 (h2 ∙ either (has_label v labels) (int_eq v label))
      (λ d q lt. k2 d q (omega (arith, lt, n0)) ∙ k1 d q lt))))
    where
      either : (a b : Test) → (if a then pos k else (if b then pos k else x)) ≡
          (if (if b then true else a) then pos k else x)
      either true true = refl
      either true false = refl
      either false true = refl
      either false false = refl

  -- with those of each arm
  all_labels_follow : (arms : Arms) (k : ℕ) (m : Made) (T : Lines) (tm : Marks) (at : Place) (cells : Store) (x : ℤ) →
      IsFixed S C.low (next_cell m) value → to < next_cell m → Within S (all_labels_code site value to k arms m).made
      → marks_at S.marks at ≡ marks_then (all_marked way (all_labels_code site value to k arms m).lines) tm →
      atom_value cells value.atom ≡ v → cells to ≡ x
      → ((at' : Place) (new : Store) → marks_at S.marks at' ≡ tm → new to ≡ last_number v k arms x →
      KeptBut to (next_cell m) cells new → G n (kernel_item S new (LinesAt at' T t)) j)
      → G n (kernel_item S cells (LinesAt at (joined_to (all_labels_code site value to k arms m).lines T) t)) j
  all_labels_follow no_arm k m T tm at cells x fixed less within e holds is go = go at cells e is (λ c h lt. refl)
  all_labels_follow (arm labels other body rest) k m T tm at cells x fixed less within e holds is go =
      let cl = labels_code site value to k labels m in
      let cr = all_labels_code site value to (k + 1) rest cl.made in
      let g = grows_count [] m cl.made (labels_grow site value to k labels m) in
      let w = within_less S [] cl.made cr.made (all_labels_grow site value to (k + 1) rest cl.made) within in
      at_lines S G R C n cells at cl.lines cr.lines T t j
      (labels_follow labels k m (joined_to cr.lines T) (marks_then (all_marked way cr.lines) tm) at cells x fixed less
      w (e ∙ ap (λ z. marks_then z tm) (marked_joined way cl.lines cr.lines) ∙
      marks_assoc (all_marked way cl.lines) (all_marked way cr.lines) tm) holds is
      (λ at1 c1 e1 h1 k1.
      all_labels_follow rest (k + 1) cl.made T tm at1 c1 (if has_label v labels then pos k else x)
      (fixed_more S C.low (next_cell m) (next_cell cl.made) value g fixed) (omega (arith, less, g)) within e1
      (atom_but S C.low (next_cell m) to value.atom value.of cells c1 fixed apart_ k1 ∙ holds) h1
      (λ at2 c2 e2 h2 k2. go at2 c2 e2 h2 (λ d q lt. k2 d q (omega (arith, lt, g)) ∙ k1 d q lt))))
  -- ---- the whole

module _ (S : Setting) (G : ℕ → Item → ProgramItem → Type 0) (R : Rules S G) (C : Activation) where
  -- the atom holds a value of its type
  typed_atom : (low high : ℕ) (a : Atom) (of : IntType) (cells : Store) → IsFixedAtom S low high a of →
      HoldsTypes S cells → ((value : ℤ) (t : IntType) → a ≡ Const value t → IsValue t value) →
      IsValue of (atom_value cells a)
  typed_atom low high (Const value t) of cells f h k = subst (λ z. IsValue z value) f (k value t refl)
  typed_atom low high (CellAtom c) of cells f h k = h c (record { kind = f.2.kind; of = of }) f.2.there

  -- a constant that is converted is a value of its type
  constant_fits : (value : ℤ) (t to : IntType) → work_fits S.kernel (Convert to (Const value t)) ≡ true →
      IsValue t value
  constant_fits value t to h = is_value_is t value (by (is_value t value) h)
    where
      by : (b : Test) → has_some_type (if b then Some t else None) ≡ true → b ≡ true
      by true h = refl
      by false h = h

  -- the number of the chosen arm is computed
  pub selected_follows : (site : ℕ) (value : Value) (arms : Arms) (m : Made) (n : ℕ) (T : Lines) (way : Way)
      (tm : Marks) (t : Tasks) (at : Place) (cells : Store) (j : ProgramItem) → C.low ≤ next_cell m
      → IsFixed S C.low (next_cell m) value → Within S (selected site value arms m).made → AllDiffer (labels_of arms)
      → marks_at S.marks at ≡ marks_then (all_marked way (selected site value arms m).lines) tm
      → ((at' : Place) (new : Store) → marks_at S.marks at' ≡ tm → ((c : ℕ) → c < next_cell m → new c ≡ cells c) →
      IsEntry 0 arms (entry_of (atom_value cells value.atom) arms)
      (atom_value new (selected site value arms m).value.atom)
      → G n (kernel_item S new (LinesAt at' T t)) j)
      → G n (kernel_item S cells (LinesAt at (joined_to (selected site value arms m).lines T) t)) j
  selected_follows site value arms m n T way tm t at cells j low fixed within differ e go =
      let of = promoted value.of in
      let c0 = next_cell m in
      let m1 = with_cell m OfValue of in
      let to = next_cell m1 in
      let m2 = with_cell m1 OfValue Int in
      let n0 = next_with m OfValue of in
      let n1 = next_with m1 OfValue Int in
      let cv : Value = record { atom = CellAtom c0; of = of } in
      let cl = all_labels_code site cv to 0 arms m2 in
      let w2 = within_less S [] m2 cl.made (all_labels_grow site cv to 0 arms m2) within in
      let w1 = within_less S [] m1 m2 (grows_with OfValue m1 Int) w2 in
      let nc = made_no_variable S c0 of (value_made S m of w1) in
      let nt = made_no_variable S to Int (value_made S m1 Int w2) in
      let u = atom_value cells value.atom in
      let v = wrap_of of u in
      let d = default_number 0 arms in
      let c1 = updated cells c0 v in
      let c2 = updated c1 to (pos d) in
      let i = kernel_item S cells (LinesAt at (joined_to (selected site value arms m).lines T) t) in
      R.fit n i j (λ fits. R.typed n i j (λ types.
      let worth : v ≡ u = wrap_value of u
      (promoted_value value.of u (typed_atom C.low (next_cell m) value.atom value.of cells fixed types
      (λ z s q. constant_fits z s of (subst (λ a. work_fits S.kernel (Convert of a) ≡ true) q
      (and_parts _ _ (and_parts _ _ fits.0).0).0)))) in
      value_line S G R C n cells at c0 (Convert of value.atom) _ t j nc
      (atom_plain S C.low (next_cell m) value.atom value.of fixed)
      (value_line S G R C n c1 (Behind ∷ at) to (Copy (int (pos d))) (joined_to cl.lines T) t j nt (λ x y z. refl)
      (all_labels_follow S G R C site cv to nt (λ q. omega (arith, q, n0)) n way t j v arms 0 m2 T tm
      (Behind ∷ Behind ∷ at) c2 (pos d) (low, (omega (arith, n0, n1)), value_made S m of w1) (omega (arith, n1))
      within
      (ap (λ z. marks_behind (marks_behind z)) e) (updated_other c1 to (pos d) c0 (λ q. omega (arith, q, n0)) ∙
      updated_same cells c0 v) (updated_same c1 to (pos d))
      (λ at1 new e1 h1 k1.
      go at1 new e1 (λ c lt. k1 c (λ q. omega (arith, q, lt, n0)) (omega (arith, lt, n0, n1)) ∙
      updated_other c1 to (pos d) c (λ q. omega (arith, q, lt, n0)) ∙
      updated_other cells c0 v c (λ q. omega (arith, q, lt)))
      (subst (λ z. IsEntry 0 arms (entry_of z arms) (new to)) worth (subst (λ z. IsEntry 0 arms (entry_of v arms) z)
      (sym h1) (chosen_entry v arms differ))))))))
