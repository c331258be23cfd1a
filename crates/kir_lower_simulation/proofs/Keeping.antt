-- Cells that are made for values are no variables', and keep what they hold.
use Rattle.std.proofs.Common.{◌≡◌, ℕ, suc, ◌+◌, ◌<◌, ◌≤◌, ℤ, List, [], ◌∷◌, ◌++◌, length, map, Option, Some, None}
use Rattle.std.proofs.Common.{slice_get, refl, sym, ap, ap₂, ◌∙◌, subst, arith, length-append, append-nil}
use Rattle.std.proofs.Common.{append_assoc, inl, inr, ⊎_elim, true, false, eq-eqb}
use Rattle.std.proofs.Common.{Bool as Test}
use Rattle.std.specs.Prelude.{nat_eq, ◌||◌}
use Rattle.std.proofs.lemmas.Bool.{eqb-true, true≢false}
use Rattle.std.proofs.lemmas.Option.{same_Some}
use Rattle.wg_num.specs.declared.types.IntType.{IntType}
use Rattle.cl_model.specs.Calls.{CallSite}
use Rattle.cl_model.specs.Steps.{nth}
use Rattle.cl_model.specs.Valid.{Scope, Has}
use Rattle.kir.specs.declared.line.Atom.{Atom}
use Rattle.kir.specs.declared.line.Atom.TheVariants.{Const, Cell as CellAtom}
use Rattle.kir.specs.Tree.{Variable, CellKind, OfVariable, OfFlag, OfValue, Cell}
use Rattle.kir.specs.Steps.{atom_value}
use Rattle.kir.specs.Live.{some_reads}
use Rattle.kir.specs.Homes.{IsCellOf, IsOf}
use Rattle.kir_lower.specs.declared.places.Value.{Value}
use Rattle.kir_lower.specs.Made.{Made, next_cell, with_cell}
use Rattle.kir_lower.specs.Actions.{atoms_of, first, second}
use Rattle.kir_lower_simulation.specs.Setting.{Setting, Store, updated, Activation, behind_variables}
use Rattle.kir_lower_simulation.specs.Held.{Within, IsPassing, IsMade, IsFixedAtom, IsFixed, AreFixed, Holding, Apart}
use Rattle.kir_lower_simulation.specs.Held.{Kept, Same, IsWithin}
use Rattle.kir_lower_simulation.proofs.Lines.{NoVariable, PlainAtom, updated_same, updated_other}

-- ---- cells are only put behind those that are there

abbrev pub Grows : List CallSite → Made → Made → Type 0
Grows calls a b = (more : List Cell) × (b.cells ≡ a.cells ++ more)

pub grows_same : (m : Made) → Grows [] m m
grows_same m = ([], sym (append-nil m.cells))

pub grows_before : (xs ys : List CallSite) (a b c : Made) → Grows xs a b → Grows ys b c → Grows (xs ++ ys) a c
grows_before xs ys a b c h k = (h.0 ++ k.0, k.1 ∙ ap (λ z. z ++ k.0) h.1 ∙ append_assoc a.cells h.0 k.0)

pub grows_with : (kind : CellKind) (m : Made) (of : IntType) → Grows [] m (with_cell m kind of)
grows_with kind m of = (record { kind = kind; of = of } ∷ [], refl)

pub grows_count : (calls : List CallSite) (a b : Made) → Grows calls a b → next_cell a ≤ next_cell b
grows_count calls a b h = let l = length-append a.cells h.0 in let e = ap (λ z. length z) h.1 in omega (arith, l, e)

pub next_with : (m : Made) (kind : CellKind) (of : IntType) → next_cell (with_cell m kind of) ≡ suc (next_cell m)
next_with m kind of = let l = length-append m.cells (record { kind = kind; of = of } ∷ []) in omega (arith, l)

pub within_less : (S : Setting) (calls : List CallSite) (a b : Made) → Grows calls a b → Within S b → Within S a
within_less S calls a b h w =
    record { more = h.0 ++ w.more; same = w.same ∙ ap (λ z. z ++ w.more) h.1 ∙ append_assoc a.cells h.0 w.more }

get_at_end : (xs : List Cell) (c : Cell) (more : List Cell) → slice_get ((xs ++ c ∷ []) ++ more) (length xs) ≡ Some c
get_at_end [] c more = refl
get_at_end (x ∷ xs) c more = get_at_end xs c more

pub cell_there : (S : Setting) (m : Made) (kind : CellKind) (of : IntType) → Within S (with_cell m kind of) →
    slice_get S.kernel.cells (next_cell m) ≡ Some (record { kind = kind; of = of })
cell_there S m kind of w =
    ap (λ z. slice_get z (length m.cells)) w.same ∙ get_at_end m.cells (record { kind = kind; of = of }) w.more

pub value_made : (S : Setting) (m : Made) (of : IntType) → Within S (with_cell m OfValue of) → IsMade S (next_cell m) of
value_made S m of w = record { kind = OfValue; there = cell_there S m OfValue of w; passing = tt }

pub flag_made : (S : Setting) (m : Made) (of : IntType) → Within S (with_cell m OfFlag of) → IsMade S (next_cell m) of
flag_made S m of w = record { kind = OfFlag; there = cell_there S m OfFlag of w; passing = tt }

-- ---- no variable's

pub made_no_variable : (S : Setting) (c : ℕ) (of : IntType) → IsMade S c of → NoVariable S c
made_no_variable S c of h v is =
    by_kind h.kind h.passing (subst (λ (z : Cell). IsOf v z.kind) (same_Some is.cell (record {
      kind = h.kind;
      of = of;
    }) (sym is.there ∙ h.there)) is.is_of)
  where
    by_kind : (kind : CellKind) → IsPassing kind → IsOf v kind → ⊥
    by_kind (OfVariable u path name) p q = p
    by_kind OfFlag p q = q
    by_kind OfValue p q = q

pub cell_plain : (S : Setting) (c : ℕ) → NoVariable S c → PlainAtom S (CellAtom c)
cell_plain S c none v d is = by_test (nat_eq d c) refl
  where
    by_test : (b : Test) → nat_eq d c ≡ b → nat_eq d c ≡ false
    by_test true e = absurd (none v (subst (λ z. IsCellOf S.kernel v z) (eqb-true d c e) is))
    by_test false e = e

pub atom_plain : (S : Setting) (low high : ℕ) (a : Atom) (of : IntType) → IsFixedAtom S low high a of → PlainAtom S a
atom_plain S low high (Const value t) of h = λ v c is. refl
atom_plain S low high (CellAtom d) of h = cell_plain S d (made_no_variable S d of h.2)

pub fixed_plain : (S : Setting) (low high : ℕ) (value : Value) → IsFixed S low high value → PlainAtom S value.atom
fixed_plain S low high value h = atom_plain S low high value.atom value.of h

pub some_plain : (S : Setting) (low high : ℕ) (values : List Value) → AreFixed S low high values →
    (v : Variable) (c : ℕ) → IsCellOf S.kernel v c → some_reads c (atoms_of values) ≡ false
some_plain S low high [] h v c is = refl
some_plain S low high (value ∷ values) h v c is =
    ap₂ (λ y z. y || z) (fixed_plain S low high value h.0 v c is) (some_plain S low high values h.1 v c is)

-- ---- more cells

pub atom_more : (S : Setting) (low high high' : ℕ) (a : Atom) (of : IntType) → high ≤ high' →
    IsFixedAtom S low high a of → IsFixedAtom S low high' a of
atom_more S low high high' (Const value t) of le h = h
atom_more S low high high' (CellAtom c) of le h = (h.0, omega (arith, le, h.1), h.2)

pub fixed_more : (S : Setting) (low high high' : ℕ) (value : Value) → high ≤ high' → IsFixed S low high value →
    IsFixed S low high' value
fixed_more S low high high' value le h = atom_more S low high high' value.atom value.of le h

pub all_more : (S : Setting) (low high high' : ℕ) (values : List Value) → high ≤ high' → AreFixed S low high values →
    AreFixed S low high' values
all_more S low high high' [] le h = tt
all_more S low high high' (value ∷ values) le h =
    (fixed_more S low high high' value le h.0, all_more S low high high' values le h.1)

-- the value of a new cell
pub value_fixed : (S : Setting) (low : ℕ) (m : Made) (of : IntType) → low ≤ next_cell m →
    Within S (with_cell m OfValue of) →
    IsFixed S low (next_cell (with_cell m OfValue of)) (record { atom = CellAtom (next_cell m); of = of })
value_fixed S low m of le w = let n = next_with m OfValue of in (le, omega (arith, n), value_made S m of w)

-- ---- what is kept

pub kept_refl : (base low : ℕ) (exit : Option ℕ) (high : ℕ) (a : Store) → Kept base low exit high a a
kept_refl base low exit high a = record { each = λ c l h. refl }

pub kept_trans : (base low : ℕ) (exit : Option ℕ) (high high' : ℕ) (a b c : Store) → high ≤ high' →
    Kept base low exit high a b → Kept base low exit high' b c → Kept base low exit high a c
kept_trans base low exit high high' a b c le h k =
    record { each = λ x l u. k.each x l (omega (arith, le, u)) ∙ h.each x l u }

-- a cell from high on is set
pub kept_set : (base low : ℕ) (exit : Option ℕ) (high : ℕ) (a : Store) (to : ℕ) (v : ℤ) → high ≤ to →
    Kept base low exit high a (updated a to v)
kept_set base low exit high a to v le = record { each = λ c l u. updated_other a to v c (λ e. omega (arith, le, e, u)) }

-- a variable's cell, or that of a result
pub kept_own : (base low : ℕ) (exit : Option ℕ) (high : ℕ) (a : Store) (to : ℕ) (v : ℤ) → base ≤ to → to < low →
    Kept base low exit high a (updated a to v)
kept_own base low exit high a to v ge lt =
    record {
      each = λ c l u. updated_other a to v c (λ e. ⊎_elim (λ (h : c < base). omega (arith, ge, e, h))
          (λ (h : (low ≤ c) × Apart exit c). let k = h.0 in omega (arith, lt, e, k)) l);
    }

-- the cell of the way out
pub kept_exit : (base low exit high : ℕ) (a : Store) (v : ℤ) → base ≤ exit →
    Kept base low (Some exit) high a (updated a exit v)
kept_exit base low exit high a v ge =
    record {
      each = λ c l u. updated_other a exit v c (λ e. ⊎_elim (λ (h : c < base). omega (arith, ge, e, h))
          (λ (h : (low ≤ c) × Apart (Some exit) c). h.1 (sym e)) l);
    }

-- with more that may change
pub kept_weaker : (base low low' : ℕ) (exit : Option ℕ) (high : ℕ) (a b : Store) → low ≤ low' →
    Kept base low None high a b → Kept base low' exit high a b
kept_weaker base low low' exit high a b le k =
    record {
      each = λ c l u. k.each c (⊎_elim (λ (h : c < base). inl h) (λ (h : (low' ≤ c) × Apart exit c).
          let m = h.0 in inr ((omega (arith, le, m)), tt)) l) u;
    }

pub atom_kept : (S : Setting) (base low low' high : ℕ) (a : Atom) (of : IntType) (old new : Store) → low ≤ low' →
    IsFixedAtom S low' high a of → Kept base low None high old new → atom_value new a ≡ atom_value old a
atom_kept S base low low' high (Const value t) of old new le h k = refl
atom_kept S base low low' high (CellAtom c) of old new le h k = let m =
    h.0 in k.each c (inr (omega (arith, le, m), tt)) h.1

pub fixed_kept : (S : Setting) (base low low' high : ℕ) (value : Value) (old new : Store) → low ≤ low' →
    IsFixed S low' high value → Kept base low None high old new → atom_value new value.atom ≡ atom_value old value.atom
fixed_kept S base low low' high value old new le h k = atom_kept S base low low' high value.atom value.of old new le h k

pub holding_kept : (S : Setting) (base low low' high : ℕ) (values : List Value) (old new : Store) → low ≤ low' →
    AreFixed S low' high values → Kept base low None high old new →
    map (atom_value new) (atoms_of values) ≡ map (atom_value old) (atoms_of values)
holding_kept S base low low' high [] old new le h k = refl
holding_kept S base low low' high (value ∷ values) old new le h k =
    ap₂ (λ y z. y ∷ z) (fixed_kept S base low low' high value old new le h.0 k)
    (holding_kept S base low low' high values old new le h.1 k)

-- an atom below a cell that is set
pub atom_below : (S : Setting) (low high : ℕ) (a : Atom) (of : IntType) (cells : Store) (to : ℕ) (v : ℤ) →
    IsFixedAtom S low high a of → high ≤ to → atom_value (updated cells to v) a ≡ atom_value cells a
atom_below S low high (Const value t) of cells to v h le = refl
atom_below S low high (CellAtom c) of cells to v h le = let u =
    h.1 in updated_other cells to v c (λ e. omega (arith, le, u, e))

-- ---- variables

pub same_set : (S : Setting) (C : Activation) (scope : Scope) (cells vars : Store) (to : ℕ) (v : ℤ) →
    IsWithin S C scope → behind_variables S C ≤ to → Same S C scope cells vars →
    Same S C scope (updated cells to v) vars
same_set S C scope cells vars to v within le s = record {
  each = λ x has. let u = within x has in
      updated_other cells to v (C.here.base + x) (λ e. omega (arith, le, u, e)) ∙ s.each x has;
}

-- a variable is set in both
pub same_own : (S : Setting) (C : Activation) (scope : Scope) (cells vars : Store) (x : ℕ) (v : ℤ) →
    Same S C scope cells vars → Same S C scope (updated cells (C.here.base + x) v) (updated vars x v)
same_own S C scope cells vars x v s = record { each = λ y has. by_test y has (nat_eq x y) refl }
  where
    by_test : (y : ℕ) → Has scope y → (b : Test) → nat_eq x y ≡ b →
        updated cells (C.here.base + x) v (C.here.base + y) ≡ updated vars x v y
    by_test y has true e =
        let same = eqb-true x y e in
        subst (λ z. updated cells (C.here.base + x) v (C.here.base + z) ≡ updated vars x v z) same
        (updated_same cells (C.here.base + x) v ∙ sym (updated_same vars x v))
    by_test y has false e =
        updated_other cells (C.here.base + x) v (C.here.base + y) (λ p. let q : x ≡ y = omega (arith, p) in
        true≢false (sym (eq-eqb x y q) ∙ e)) ∙ s.each y has
        ∙ sym (updated_other vars x v y (λ q. true≢false (sym (eq-eqb x y q) ∙ e)))

-- and so is in scope
pub same_declared : (S : Setting) (C : Activation) (scope : Scope) (cells vars : Store) (x : ℕ) (v : ℤ) →
    Same S C scope cells vars → Same S C (x ∷ scope) (updated cells (C.here.base + x) v) (updated vars x v)
same_declared S C scope cells vars x v s = record { each = λ y has. one y has }
  where
    one : (y : ℕ) → Has (x ∷ scope) y → updated cells (C.here.base + x) v (C.here.base + y) ≡ updated vars x v y
    one y (inl e) = subst (λ z. updated cells (C.here.base + x) v (C.here.base + z) ≡ updated vars x v z) e
        (updated_same cells (C.here.base + x) v ∙ sym (updated_same vars x v))
    one y (inr has) = (same_own S C scope cells vars x v s).each y has

-- ---- the values of operands

pub first_holds : (cells : Store) (values : List Value) (args : List ℤ) → Holding cells values args →
    atom_value cells (first values).atom ≡ nth args 0
first_holds cells [] args h = ap (λ z. nth z 0) h
first_holds cells (v ∷ values) args h = ap (λ z. nth z 0) h

pub second_holds : (cells : Store) (values : List Value) (args : List ℤ) → Holding cells values args →
    atom_value cells (second values).atom ≡ nth args 1
second_holds cells [] args h = ap (λ z. nth z 1) h
second_holds cells (v ∷ []) args h = ap (λ z. nth z 1) h
second_holds cells (v ∷ w ∷ values) args h = ap (λ z. nth z 1) h

pub first_fixed : (S : Setting) (low high : ℕ) (values : List Value) → AreFixed S low high values →
    IsFixed S low high (first values)
first_fixed S low high [] h = refl
first_fixed S low high (v ∷ values) h = h.0

pub second_fixed : (S : Setting) (low high : ℕ) (values : List Value) → AreFixed S low high values →
    IsFixed S low high (second values)
second_fixed S low high [] h = refl
second_fixed S low high (v ∷ values) h = first_fixed S low high values h.1
