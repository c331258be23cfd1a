-- The cells that hold offsets of pointers: one line alone sets each of them, to the offset of a pointer.
use Rattle.std.proofs.Common.{◌≡◌, ℕ, zero, suc, ◌+◌, ◌≤◌, pos, List, [], ◌∷◌, length, refl, sym, ap, ◌∙◌, subst}
use Rattle.std.proofs.Common.{arith, if◌then◌else◌, eq-eqb, true, false, ◌⊎◌, inl, inr, slice_get}
use Rattle.std.proofs.Common.{Bool as Test}
use Rattle.std.specs.Prelude.{nat_eq, ◌&&◌, ◌||◌, take}
use Rattle.std.proofs.lemmas.Bool.{eqb-true, true≢false, and_parts}
use Rattle.cl_model.specs.declared.launch.Bound.{Bound}
use Rattle.cl_model.specs.declared.launch.Bound.TheVariants as bound
use Rattle.cl_model.specs.declared.program.Space.TheVariants as space
use Rattle.cl_model.specs.declared.program.VarKind.{VarKind}
use Rattle.cl_model.specs.declared.program.VarKind.TheVariants.{Scalar, Pointer}
use Rattle.cl_model.specs.Sizes.{Launch}
use Rattle.cl_model.specs.Meaning.{argument_value}
use Rattle.cl_model.specs.Fitting.{ArgumentsFit, FitsProgram}
use Rattle.kir.specs.Steps.{shell_of}
use Rattle.kir.specs.Tree.{Work, Lines, NoLine, SetThen, LoadThen, StoreThen, ClearThen, IfThen, LoopThen, BarrierThen}
use Rattle.kir.specs.Tree.{Kernel}
use Rattle.kir_simplify.specs.Reading.{one_if, sets_in}
use Rattle.kir_simplify.specs.Simple.{is_set_once}
use Rattle.cl_model.specs.Valid.{is_pointer}
use Rattle.kir_simplify.specs.Offsets.{is_offset}
use Rattle.kir_simplify.specs.Passes.{holds_offset, offsets_of}

-- ---- launches

-- what a launch that fits binds to a pointer is the offset 0
binds_at : (launch : Launch) (kinds : List VarKind) (args : List Bound) → ArgumentsFit launch kinds args → (n : ℕ) →
    is_pointer (slice_get kinds n) ≡ true → argument_value (slice_get args n) ≡ pos 0
binds_at launch [] [] f n e = refl
binds_at launch [] (b ∷ args) f n e = absurd f
binds_at launch (kind ∷ kinds) [] f n e = absurd f
binds_at launch (Scalar t ∷ kinds) (b ∷ args) f zero e = absurd (true≢false (sym e))
binds_at launch (Pointer at element root ∷ kinds) (bound.Buffer n ∷ args) f zero e = refl
binds_at launch (Pointer at element root ∷ kinds) (bound.Local n ∷ args) f zero e = refl
binds_at launch (Pointer space.Global element root ∷ kinds) (bound.Value v ∷ args) f zero e = absurd f.0
binds_at launch (Pointer space.Constant element root ∷ kinds) (bound.Value v ∷ args) f zero e = absurd f.0
binds_at launch (Pointer space.Local element root ∷ kinds) (bound.Value v ∷ args) f zero e = absurd f.0
binds_at launch (Pointer space.Private element root ∷ kinds) (bound.Value v ∷ args) f zero e = absurd f.0
binds_at launch (kind ∷ kinds) (b ∷ args) f (suc n) e = binds_at launch kinds args f.1 n e

-- a launch that binds the offset 0 to each pointer
abbrev pub BindsNone : Kernel → Launch → Type 0
BindsNone kernel launch =
    (n : ℕ) → is_pointer (slice_get kernel.params n) ≡ true → argument_value (slice_get launch.args n) ≡ pos 0

all_taken : {A : Type 0} (xs : List A) → take (length xs) xs ≡ xs
all_taken [] = refl
all_taken (x ∷ xs) = ap (λ ys. x ∷ ys) (all_taken xs)

pub binds_none : (kernel : Kernel) (launch : Launch) → FitsProgram (shell_of kernel) launch → BindsNone kernel launch
binds_none kernel launch fits =
    binds_at launch kernel.params launch.args
    (subst (λ kinds. ArgumentsFit launch kinds launch.args) (all_taken kernel.params) fits.arguments)

-- ---- lines

pub one_same : (c : ℕ) → one_if c c ≡ 1
one_same c = ap (λ (b : Test). if b then 1 else 0) (eq-eqb c c refl)

module _ (once : ℕ → Test) (kinds : List VarKind) where
  abbrev Holds : ℕ → Lines → Type 0
  Holds c lines = holds_offset once kinds c lines ≡ true

  -- such a cell is set
  holds_sets : (c : ℕ) (lines : Lines) → Holds c lines → 1 ≤ sets_in c lines
  holds_sets c NoLine e = absurd (true≢false (sym e))
  holds_sets c (SetThen to work rest) e =
      by_cell (λ h. holds_sets c rest h) (nat_eq c to) (once to && is_offset kinds work) e
    where
      by_cell : (Holds c rest → 1 ≤ sets_in c rest) → (t p : Test) →
          ((t && p) || holds_offset once kinds c rest) ≡ true → 1 ≤ (if t then 1 else 0) + sets_in c rest
      by_cell behind true p h = omega arith
      by_cell behind false p h = let some = behind h in omega arith
  holds_sets c (LoadThen site to element root index rest) e = let some = holds_sets c rest e in omega arith
  holds_sets c (StoreThen site element root index from rest) e = holds_sets c rest e
  holds_sets c (ClearThen array rest) e = holds_sets c rest e
  holds_sets c (IfThen site test chosen other rest) e = let some = holds_sets c rest e in omega arith
  holds_sets c (LoopThen site test_first test answer body rest) e = let some = holds_sets c rest e in omega arith
  holds_sets c (BarrierThen site rest) e = holds_sets c rest e

  -- by one line alone
  holds_once : (c : ℕ) (lines : Lines) → Holds c lines → once c ≡ true
  holds_once c NoLine e = absurd (true≢false (sym e))
  holds_once c (SetThen to work rest) e =
      by_cell (λ h. holds_once c rest h) (nat_eq c to) (once to && is_offset kinds work) refl refl e
    where
      by_cell : (Holds c rest → once c ≡ true) → (t p : Test) → nat_eq c to ≡ t →
          (once to && is_offset kinds work) ≡ p → ((t && p) || holds_offset once kinds c rest) ≡ true → once c ≡ true
      by_cell behind true true is first h =
          ap once (eqb-true c to is) ∙ (and_parts (once to) (is_offset kinds work) first).0
      by_cell behind true false is first h = behind h
      by_cell behind false p is first h = behind h
  holds_once c (LoadThen site to element root index rest) e = holds_once c rest e
  holds_once c (StoreThen site element root index from rest) e = holds_once c rest e
  holds_once c (ClearThen array rest) e = holds_once c rest e
  holds_once c (IfThen site test chosen other rest) e = holds_once c rest e
  holds_once c (LoopThen site test_first test answer body rest) e = holds_once c rest e
  holds_once c (BarrierThen site rest) e = holds_once c rest e

  -- no line sets the cell, or one of these does, to an offset, and no other
  abbrev SetHere : ℕ → Lines → Type 0
  SetHere c lines = (sets_in c lines ≡ 0) ⊎ (Holds c lines × (sets_in c lines ≡ 1))

  -- what is so of these lines and those inside them is so of the rest, and none is inside
  rest_sets : (c : ℕ) (rest : Lines) (n m : ℕ) →
      (n + (m + sets_in c rest) ≡ 0) ⊎ (Holds c rest × (n + (m + sets_in c rest) ≡ 1)) →
      (n ≡ 0) × (m ≡ 0) × SetHere c rest
  rest_sets c rest n m (inl none) = (omega arith, omega arith, inl (omega arith))
  rest_sets c rest n m (inr (there, one)) =
      let some = holds_sets c rest there in
      (omega arith, omega arith, inr (there, omega arith))

  -- behind a line that sets a cell
  line_sets : (c to : ℕ) (work : Work) (rest : Lines) → SetHere c (SetThen to work rest) → SetHere c rest
  line_sets c to work rest (inl none) = inl (omega arith)
  line_sets c to work rest (inr (there, one)) = by_cell (nat_eq c to) (once to && is_offset kinds work) refl there
    where
      by_cell : (t p : Test) → nat_eq c to ≡ t → ((t && p) || holds_offset once kinds c rest) ≡ true → SetHere c rest
      by_cell true p is h =
          let first : one_if c to ≡ 1 = ap (λ (b : Test). if b then 1 else 0) is in
          inl (omega arith)
      by_cell false p is h = let some = holds_sets c rest h in inr (h, omega arith)

  -- the line that sets it sets it to an offset
  line_offset : (to : ℕ) (work : Work) (rest : Lines) → SetHere to (SetThen to work rest) →
      is_offset kinds work ≡ true
  line_offset to work rest (inl none) = let one = one_same to in absurd (omega arith)
  line_offset to work rest (inr (there, once_set)) = by_test (once to && is_offset kinds work) refl there
    where
      behind : (t : Test) → ((t && false) || holds_offset once kinds to rest) ≡ true → Holds to rest
      behind true h = h
      behind false h = h

      by_test : (p : Test) → (once to && is_offset kinds work) ≡ p →
          ((nat_eq to to && p) || holds_offset once kinds to rest) ≡ true → is_offset kinds work ≡ true
      by_test true is h = (and_parts (once to) (is_offset kinds work) is).1
      by_test false is h =
          let some = holds_sets to rest (behind (nat_eq to to) h) in
          let one = one_same to in
          let all = once_set in
          absurd (omega arith)

  -- no load sets it
  no_load : (to : ℕ) (rest : Lines) → (one_if to to + sets_in to rest ≡ 0) ⊎ (Holds to rest ×
      (one_if to to + sets_in to rest ≡ 1)) → ⊥
  no_load to rest (inl none) = let one = one_same to in omega arith
  no_load to rest (inr (there, all)) =
      let some = holds_sets to rest there in
      let one = one_same to in
      omega arith

  load_sets : (c to : ℕ) (rest : Lines) → (one_if c to + sets_in c rest ≡ 0) ⊎ (Holds c rest ×
      (one_if c to + sets_in c rest ≡ 1)) → SetHere c rest
  load_sets c to rest (inl none) = inl (omega arith)
  load_sets c to rest (inr (there, all)) = let some = holds_sets c rest there in inr (there, omega arith)

module _ (kernel : Kernel) where
  -- lines set cells that hold offsets to offsets alone
  abbrev pub KeepsOffsets : Lines → Type 0
  KeepsOffsets NoLine = Unit {0}
  KeepsOffsets (SetThen to work rest) =
      (offsets_of kernel to ≡ true → is_offset kernel.params work ≡ true) × KeepsOffsets rest
  KeepsOffsets (LoadThen site to element root index rest) =
      (offsets_of kernel to ≡ true → ⊥) × KeepsOffsets rest
  KeepsOffsets (StoreThen site element root index from rest) = KeepsOffsets rest
  KeepsOffsets (ClearThen array rest) = KeepsOffsets rest
  KeepsOffsets (IfThen site test chosen other rest) = KeepsOffsets chosen × KeepsOffsets other × KeepsOffsets rest
  KeepsOffsets (LoopThen site test_first test answer body rest) =
      KeepsOffsets test × KeepsOffsets body × KeepsOffsets rest
  KeepsOffsets (BarrierThen site rest) = KeepsOffsets rest

  abbrev once : ℕ → Test
  once = is_set_once kernel

  keeps : (lines : Lines) →
      ((c : ℕ) → offsets_of kernel c ≡ true → SetHere once kernel.params c lines) → KeepsOffsets lines
  keeps NoLine h = tt
  keeps (SetThen to work rest) h = (
    λ holds. line_offset once kernel.params to work rest (h to holds),
    keeps rest (λ c holds. line_sets once kernel.params c to work rest (h c holds)),
  )
  keeps (LoadThen site to element root index rest) h = (
    λ holds. no_load once kernel.params to rest (h to holds),
    keeps rest (λ c holds. load_sets once kernel.params c to rest (h c holds)),
  )
  keeps (StoreThen site element root index from rest) h = keeps rest h
  keeps (ClearThen array rest) h = keeps rest h
  keeps (IfThen site test chosen other rest) h = (
    keeps chosen (λ c holds. inl (rest_sets once kernel.params c rest (sets_in c chosen) (sets_in c other)
        (h c holds)).0),
    keeps other (λ c holds. inl (rest_sets once kernel.params c rest (sets_in c chosen) (sets_in c other)
        (h c holds)).1),
    keeps rest (λ c holds. (rest_sets once kernel.params c rest (sets_in c chosen) (sets_in c other) (h c holds)).2),
  )
  keeps (LoopThen site test_first test answer body rest) h = (
    keeps test (λ c holds. inl (rest_sets once kernel.params c rest (sets_in c test) (sets_in c body) (h c holds)).0),
    keeps body (λ c holds. inl (rest_sets once kernel.params c rest (sets_in c test) (sets_in c body) (h c holds)).1),
    keeps rest (λ c holds. (rest_sets once kernel.params c rest (sets_in c test) (sets_in c body) (h c holds)).2),
  )
  keeps (BarrierThen site rest) h = keeps rest h

  pub body_keeps : KeepsOffsets kernel.body
  body_keeps = keeps kernel.body (λ c holds. inr (
    holds,
    eqb-true (sets_in c kernel.body) 1
        (holds_once once kernel.params c kernel.body holds),
  ))
