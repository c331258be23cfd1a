-- What is known of a variable or a result, and what a change of an entry leaves.
use Rattle.std.proofs.Common.{◌≡◌, ◌≢◌, ℕ, zero, suc, true, false, nat_eq, List, [], ◌∷◌, Option, Some, None, set}
use Rattle.std.proofs.Common.{slice_get, unwrap_or, ◌⊎◌, inl, inr, refl, sym, ap, ◌∙◌, subst}
use Rattle.std.proofs.lemmas.Bool.{eqb-true, eq-eqb}
use Rattle.std.proofs.lemmas.Option.{none-some}
use Rattle.diverge.specs.declared.known.Entry.{Entry}
use Rattle.diverge.specs.Known.{Row, State, absent, entry_in, result_in, variable_at, result_at, change_row}
use Rattle.diverge.specs.Known.{with_entry, with_result_entry, with_variable, with_result}
use Rattle.diverge_sound.proofs.Keeps.{true_or_false, Key, Answer, Cell}

-- what is known of it, if it is there
abbrev pub slot_in : Option Row → Key → Option Entry
slot_in None k = None
slot_in (Some row) Answer = Some row.result
slot_in (Some row) (Cell x) = slice_get row.variables x

abbrev pub slot : State → ℕ → Key → Option Entry
slot s f k = slot_in (slice_get s.rows f) k

-- what is said of it, also where it is not there
abbrev pub entry : State → ℕ → Key → Entry
entry s f Answer = result_at s f
entry s f (Cell x) = variable_at s f x

-- with another entry
abbrev pub with_key : ℕ → Key → Entry → State → State
with_key f Answer e s = with_result f e s
with_key f (Cell x) e s = with_variable f x e s

pub entry_is : (s : State) (f : ℕ) (k : Key) → entry s f k ≡ unwrap_or (slot s f k) absent
entry_is s f k = by_row (slice_get s.rows f) k refl
  where
    by_row : (o : Option Row) (k : Key) → slice_get s.rows f ≡ o → entry s f k ≡ unwrap_or (slot s f k) absent
    by_row None Answer e = ap result_in e ∙ sym (ap (λ r. unwrap_or (slot_in r Answer) absent) e)
    by_row (Some row) Answer e = ap result_in e ∙ sym (ap (λ r. unwrap_or (slot_in r Answer) absent) e)
    by_row None (Cell x) e = ap (λ r. entry_in r x) e ∙ sym (ap (λ r. unwrap_or (slot_in r (Cell x)) absent) e)
    by_row (Some row) (Cell x) e = ap (λ r. entry_in r x) e ∙ sym (ap (λ r. unwrap_or (slot_in r (Cell x)) absent) e)

-- lists with one element changed

set_here : {A : Type 0} (xs : List A) (x : ℕ) (new old : A) → slice_get xs x ≡ Some old →
    slice_get (set xs x new) x ≡ Some new
set_here [] x new old h = absurd (none-some old h)
set_here (y ∷ xs) zero new old h = refl
set_here (y ∷ xs) (suc x) new old h = set_here xs x new old h

set_nowhere : {A : Type 0} (xs : List A) (x : ℕ) (new : A) → slice_get xs x ≡ None → slice_get (set xs x new) x ≡ None
set_nowhere [] x new h = refl
set_nowhere (y ∷ xs) zero new h = absurd (none-some y (sym h))
set_nowhere (y ∷ xs) (suc x) new h = set_nowhere xs x new h

set_other : {A : Type 0} (xs : List A) (x y : ℕ) (new : A) → x ≢ y → slice_get (set xs x new) y ≡ slice_get xs y
set_other [] x y new ne = refl
set_other (z ∷ xs) zero zero new ne = absurd (ne refl)
set_other (z ∷ xs) zero (suc y) new ne = refl
set_other (z ∷ xs) (suc x) zero new ne = refl
set_other (z ∷ xs) (suc x) (suc y) new ne = set_other xs x y new (λ e. ne (ap suc e))

row_other : (change : Row → Row) (f g : ℕ) (rows : List Row) → f ≢ g →
    slice_get (change_row f change rows) g ≡ slice_get rows g
row_other change f g [] ne = refl
row_other change zero zero (row ∷ rows) ne = absurd (ne refl)
row_other change zero (suc g) (row ∷ rows) ne = refl
row_other change (suc f) zero (row ∷ rows) ne = refl
row_other change (suc f) (suc g) (row ∷ rows) ne = row_other change f g rows (λ e. ne (ap suc e))

row_none : (change : Row → Row) (f : ℕ) (rows : List Row) → slice_get rows f ≡ None →
    slice_get (change_row f change rows) f ≡ None
row_none change f [] h = refl
row_none change zero (row ∷ rows) h = absurd (none-some row (sym h))
row_none change (suc f) (row ∷ rows) h = row_none change f rows h

row_here : (change : Row → Row) (f : ℕ) (rows : List Row) (row : Row) → slice_get rows f ≡ Some row →
    slice_get (change_row f change rows) f ≡ Some (change row)
row_here change f [] row h = absurd (none-some row h)
row_here change zero (r ∷ rows) row h = ap (λ o. Some (change (unwrap_or o r))) h
row_here change (suc f) (r ∷ rows) row h = row_here change f rows row h

pub same_number : (m n : ℕ) → (m ≡ n) ⊎ (m ≢ n)
same_number m n = elim (true_or_false (nat_eq m n)) [
  | inl e ↦ inl (eqb-true m n e)
  | inr e ↦
      inr (λ q. let t : true ≡ false = sym (eq-eqb m n q) ∙ e in cc)
]

-- either it is as it was, or it is the one that was changed
abbrev pub Changed : ℕ → Key → Entry → State → State → ℕ → Key → Type 0
Changed f k e s t g j =
    (slot t g j ≡ slot s g j) ⊎ ((old : Entry) × (g ≡ f) × (j ≡ k) × (slot s g j ≡ Some old) × (slot t g j ≡ Some e))

variable_changed : (f x : ℕ) (e : Entry) (s : State) (j : Key) → Changed f (Cell x) e s (with_variable f x e s) f j
variable_changed f x e s j = by_row (slice_get s.rows f) refl j
  where
    by_slot : (row : Row) → slice_get s.rows f ≡ Some row → (y : ℕ) → x ≡ y → (o : Option Entry) →
        slice_get row.variables y ≡ o → Changed f (Cell x) e s (with_variable f x e s) f (Cell y)
    by_slot row h y q None at =
        inl (ap (λ r. slot_in r (Cell y)) (row_here (with_entry x e) f s.rows row h) ∙
        ap (λ z. slice_get (set row.variables z e) y) q ∙ set_nowhere row.variables y e at ∙
        sym (ap (λ r. slot_in r (Cell y)) h ∙ at))
    by_slot row h y q (Some old) at =
        inr (
          old,
          refl,
          ap Cell (sym q),
          ap (λ r. slot_in r (Cell y)) h ∙ at,
          ap (λ r. slot_in r (Cell y)) (row_here (with_entry x e) f s.rows row h) ∙
              ap (λ z. slice_get (set row.variables z e) y) q ∙ set_here row.variables y e old at,
        )

    by_row : (o : Option Row) → slice_get s.rows f ≡ o → (j : Key) → Changed f (Cell x) e s (with_variable f x e s) f j
    by_row None h j = inl (ap (λ r. slot_in r j) (row_none (with_entry x e) f s.rows h ∙ sym h))
    by_row (Some row) h Answer =
        inl (ap (λ r. slot_in r Answer) (row_here (with_entry x e) f s.rows row h) ∙ sym (ap (λ r. slot_in r Answer) h))
    by_row (Some row) h (Cell y) =
        elim (same_number x y) [
          | inr ne ↦ inl (ap (λ r. slot_in r (Cell y)) (row_here (with_entry x e) f s.rows row h) ∙
              set_other row.variables x y e ne ∙ sym (ap (λ r. slot_in r (Cell y)) h))
          | inl q ↦ by_slot row h y q (slice_get row.variables y) refl
        ]

result_changed : (f : ℕ) (e : Entry) (s : State) (j : Key) → Changed f Answer e s (with_result f e s) f j
result_changed f e s j = by_row (slice_get s.rows f) refl j
  where
    by_row : (o : Option Row) → slice_get s.rows f ≡ o → (j : Key) → Changed f Answer e s (with_result f e s) f j
    by_row None h j = inl (ap (λ r. slot_in r j) (row_none (with_result_entry e) f s.rows h ∙ sym h))
    by_row (Some row) h Answer = inr (
      row.result,
      refl,
      refl,
      ap (λ r. slot_in r Answer) h,
      ap (λ r. slot_in r Answer) (row_here (with_result_entry e) f s.rows row h),
    )
    by_row (Some row) h (Cell y) = inl (ap (λ r. slot_in r (Cell y)) (row_here (with_result_entry e) f s.rows row h) ∙
        sym (ap (λ r. slot_in r (Cell y)) h))

pub changed : (f : ℕ) (k : Key) (e : Entry) (s : State) (g : ℕ) (j : Key) → Changed f k e s (with_key f k e s) g j
changed f Answer e s g j =
    elim (same_number f g) [
      | inr ne ↦ inl (ap (λ r. slot_in r j) (row_other (with_result_entry e) f g s.rows ne))
      | inl q ↦ subst (λ i. Changed f Answer e s (with_result f e s) i j) q (result_changed f e s j)
    ]
changed f (Cell x) e s g j =
    elim (same_number f g) [
      | inr ne ↦ inl (ap (λ r. slot_in r j) (row_other (with_entry x e) f g s.rows ne))
      | inl q ↦ subst (λ i. Changed f (Cell x) e s (with_variable f x e s) i j) q (variable_changed f x e s j)
    ]

-- the entry itself, where it is there
pub changed_slot : (f : ℕ) (k : Key) (e : Entry) (s : State) (old : Entry) → slot s f k ≡ Some old →
    slot (with_key f k e s) f k ≡ Some e
changed_slot f k e s old h = by_key k h
  where
    variable_slot : (x : ℕ) (o : Option Row) → slice_get s.rows f ≡ o → slot_in o (Cell x) ≡ Some old →
        slot (with_variable f x e s) f (Cell x) ≡ Some e
    variable_slot x None q h = absurd (none-some old h)
    variable_slot x (Some row) q h =
        ap (λ r. slot_in r (Cell x)) (row_here (with_entry x e) f s.rows row q) ∙ set_here row.variables x e old h

    result_slot : (o : Option Row) → slice_get s.rows f ≡ o → slot_in o Answer ≡ Some old →
        slot (with_result f e s) f Answer ≡ Some e
    result_slot None q h = absurd (none-some old h)
    result_slot (Some row) q h = ap (λ r. slot_in r Answer) (row_here (with_result_entry e) f s.rows row q)

    by_key : (k : Key) → slot s f k ≡ Some old → slot (with_key f k e s) f k ≡ Some e
    by_key Answer h = result_slot (slice_get s.rows f) refl h
    by_key (Cell x) h = variable_slot x (slice_get s.rows f) refl h
