-- The lines that ask for a pending way out: what a loop or switch settles, what goes on around it, and guards.
use Rattle.std.proofs.Common.{◌≡◌, ℕ, ◌<◌, ℤ, pos, ◌∷◌, Option, Some, None, refl, sym, ap, ◌∙◌, subst, arith, true}
use Rattle.std.proofs.Common.{false, if◌then◌else◌}
use Rattle.std.proofs.Common.{Bool as Test}
use Rattle.std.specs.Prelude.{◌||◌}
use Rattle.std.specs.Ordering.{int_eq}
use Rattle.std.proofs.lemmas.Bool.{true≢false}
use Rattle.wg_num.specs.declared.types.IntType.TheVariants.{Int}
use Rattle.wg_num.specs.declared.types.Bin.TheVariants.{Eq}
use Rattle.wg_num.specs.Operators.{binary_of}
use Rattle.cl_model.specs.Task.{Item as ProgramItem}
use Rattle.cl_model.specs.Values.{is_zero}
use Rattle.kir.specs.declared.line.Atom.TheVariants.{Cell as CellAtom}
use Rattle.kir.specs.Tree.{Binary, Copy, Lines, NoLine, SetThen, LoadThen, StoreThen, ClearThen, IfThen, LoopThen}
use Rattle.kir.specs.Tree.{BarrierThen, OfValue, joined_to}
use Rattle.kir.specs.Places.{Behind, IntoChosen, IntoOther, Place, Tasks, LinesAt, begun_in}
use Rattle.kir.specs.Steps.{Item}
use Rattle.kir_lower.specs.Made.{Made, next_cell, with_cell, int}
use Rattle.kir_lower.specs.Actions.{set_to, settled, outward, is_none, guarded_before}
use Rattle.kir_lower_shape.specs.Marks.{Way, Marks, NoMark, FormThen, marks_then, all_marked, marks_behind}
use Rattle.kir_lower_shape.specs.Marks.{marks_two, marks_at}
use Rattle.kir_lower_shape.specs.CodeMarks.{guarded_marks}
use Rattle.kir_lower_shape.proofs.Joined.{join_none}
use Rattle.kir_lower_simulation.specs.Setting.{Setting, Store, updated, kernel_item, Activation}
use Rattle.kir_lower_simulation.specs.Exits.{Exit, Continues, Breaks, Returns, pending}
use Rattle.kir_lower_simulation.specs.Facts.{Rules}
use Rattle.kir_lower_simulation.specs.Held.{Within}
use Rattle.kir_lower_simulation.proofs.Lines.{NoVariable, updated_same, updated_other, end_line, value_line, if_line}
use Rattle.kir_lower_simulation.proofs.Keeping.{value_made, made_no_variable, cell_plain}
use Rattle.kir_lower_simulation.proofs.Actions.{equal_value}

-- ---- what is pending behind a construct

-- a `continue` is settled at the end of a loop's body
abbrev pub ended : Option Exit → Option Exit
ended None = None
ended (Some Continues) = None
ended (Some Breaks) = Some Breaks
ended (Some Returns) = Some Returns

-- a `break` behind the loop or the switch
abbrev pub passed_on : Option Exit → Option Exit
passed_on None = None
passed_on (Some Continues) = Some Continues
passed_on (Some Breaks) = None
passed_on (Some Returns) = Some Returns

-- all cells but one, below the first new one, are as before
abbrev pub KeptBut : ℕ → ℕ → Store → Store → Type 0
KeptBut but high old new = (c : ℕ) → (c ≡ but → ⊥) → c < high → new c ≡ old c

-- the marks of no lines
pub marks_none : (m : Marks) → marks_then m NoMark ≡ m
marks_none NoMark = refl
marks_none (Rattle.kir_lower_shape.specs.Marks.MarkThen way rest) =
    ap (λ z. Rattle.kir_lower_shape.specs.Marks.MarkThen way z) (marks_none rest)
marks_none (FormThen way one two rest) = ap (λ z. FormThen way one two z) (marks_none rest)

pub none_is : (lines : Lines) → is_none lines ≡ true → lines ≡ NoLine
none_is NoLine e = refl
none_is (SetThen to work rest) e = absurd (true≢false (sym e))
none_is (LoadThen site to element root index rest) e = absurd (true≢false (sym e))
none_is (StoreThen site element root index from rest) e = absurd (true≢false (sym e))
none_is (ClearThen array rest) e = absurd (true≢false (sym e))
none_is (IfThen site test chosen other rest) e = absurd (true≢false (sym e))
none_is (LoopThen site test_first test answer body rest) e = absurd (true≢false (sym e))
none_is (BarrierThen site rest) e = absurd (true≢false (sym e))

-- a pending way out is not 0
pub some_pending : (x : Exit) → is_zero (pending (Some x)) ≡ false
some_pending Continues = refl
some_pending Breaks = refl
some_pending Returns = refl

module _ (S : Setting) (G : ℕ → Item → ProgramItem → Type 0) (R : Rules S G) (C : Activation) where
  -- an equality with a constant, into a new cell, then an if on it
  asks : (exit : ℕ) (m : Made) (number : ℕ) (site n : ℕ) (chosen other T : Lines) (k : Tasks) (at : Place)
      (cells : Store) (j : ProgramItem) (o : Option Exit) (b : Test) → NoVariable S exit →
      Within S (with_cell m OfValue Int) → cells exit ≡ pending o
      → int_eq (pending o) (pos number) ≡ b
      → G n (kernel_item S (updated cells (next_cell m) (if b then pos 1 else pos 0))
      (if b then LinesAt (IntoChosen ∷ Behind ∷ at) chosen (LinesAt (Behind ∷ Behind ∷ at) T k) else LinesAt
      (IntoOther ∷ Behind ∷ at) other (LinesAt (Behind ∷ Behind ∷ at) T k))) j
      →
      G n (kernel_item S cells (LinesAt at
      (SetThen (next_cell m) (Binary Eq Int (CellAtom exit) (int (pos number)))
      (IfThen site (CellAtom (next_cell m)) chosen other T)) k)) j
  asks exit m number site n chosen other T k at cells j o b plain within holds is g =
      let c = next_cell m in
      let got = binary_of Eq Int (cells exit) (pos number) in
      let none = made_no_variable S c Int (value_made S m Int within) in
      let value : got ≡ (if b then pos 1 else pos 0) = equal_value Int (cells exit) (pos number) ∙
      ap (λ z. if int_eq z (pos number) then pos 1 else pos 0) holds ∙ ap (λ z. if z then pos 1 else pos 0) is in
      value_line S G R C n cells at c (Binary Eq Int (CellAtom exit) (int (pos number))) _ k j none
      (λ v d i. ap (λ z. z || false) (cell_plain S exit plain v d i))
      (subst (λ z. G n (kernel_item S (updated cells c z)
      (LinesAt (Behind ∷ at) (IfThen site (CellAtom c) chosen other T) k)) j) (sym value)
      (if_line S G R C n (updated cells c (if b then pos 1 else pos 0)) (Behind ∷ at) site (CellAtom c) chosen other T
      k j (if b then false else true) (cell_plain S c none)
      (ap is_zero (updated_same cells c (if b then pos 1 else pos 0)) ∙ zero_of b)
      (turned b g)))
    where
      zero_of : (b : Test) → is_zero (if b then pos 1 else pos 0) ≡ (if b then false else true)
      zero_of true = refl
      zero_of false = refl

      turned : (b : Test) → G n (kernel_item S (updated cells (next_cell m) (if b then pos 1 else pos 0))
          (if b then LinesAt (IntoChosen ∷ Behind ∷ at) chosen (LinesAt (Behind ∷ Behind ∷ at) T k) else LinesAt
          (IntoOther ∷ Behind ∷ at) other (LinesAt (Behind ∷ Behind ∷ at) T k))) j
          → G n (kernel_item S (updated cells (next_cell m) (if b then pos 1 else pos 0))
          (if (if b then false else true) then LinesAt (IntoOther ∷ Behind ∷ at) other
          (LinesAt (Behind ∷ Behind ∷ at) T k) else LinesAt (IntoChosen ∷ Behind ∷ at) chosen
          (LinesAt (Behind ∷ Behind ∷ at) T k))) j
      turned true g = g
      turned false g = g

  -- a pending `continue` ends
  pub settled_follows : (o : Option Exit) (site exit : ℕ) (m : Made) (n : ℕ) (T : Lines) (way : Way) (tm : Marks)
      (k : Tasks) (at : Place) (cells : Store) (j : ProgramItem) → NoVariable S exit → exit < next_cell m →
      Within S (settled site exit m).made
      → marks_at S.marks at ≡ marks_then (all_marked way (settled site exit m).lines) tm → cells exit ≡ pending o
      → ((at' : Place) (new : Store) → marks_at S.marks at' ≡ tm → new exit ≡ pending (ended o) →
      KeptBut exit (next_cell m) cells new → G n (kernel_item S new (LinesAt at' T k)) j)
      → G n (kernel_item S cells (LinesAt at (joined_to (settled site exit m).lines T) k)) j
  settled_follows o site exit m n T way tm k at cells j plain less within e holds go = by o holds go
    where
      there : marks_at S.marks (Behind ∷ Behind ∷ at) ≡ tm
      there = ap (λ z. marks_behind (marks_behind z)) e

      kept : (v : ℤ) → KeptBut exit (next_cell m) cells (updated cells (next_cell m) v)
      kept v c apart lt = updated_other cells (next_cell m) v c (λ p. omega (arith, p, lt))

      stays : (o : Option Exit) → cells exit ≡ pending o → int_eq (pending o) (pos 1) ≡ false → ended o ≡ o
          → ((at' : Place) (new : Store) → marks_at S.marks at' ≡ tm → new exit ≡ pending (ended o) →
          KeptBut exit (next_cell m) cells new → G n (kernel_item S new (LinesAt at' T k)) j)
          → G n (kernel_item S cells (LinesAt at (joined_to (settled site exit m).lines T) k)) j
      stays o holds is same go =
          asks exit m 1 site n (set_to exit (int (pos 0))) NoLine T k at cells j o false plain within holds is
          (end_line S G R C n (updated cells (next_cell m) (pos 0)) (IntoOther ∷ Behind ∷ at)
          (LinesAt (Behind ∷ Behind ∷ at) T k) j
          (go (Behind ∷ Behind ∷ at) (updated cells (next_cell m) (pos 0)) there
          (updated_other cells (next_cell m) (pos 0) exit (λ p. omega (arith, p, less)) ∙ holds ∙
          ap pending (sym same)) (kept (pos 0))))

      by : (o : Option Exit) → cells exit ≡ pending o
          → ((at' : Place) (new : Store) → marks_at S.marks at' ≡ tm → new exit ≡ pending (ended o) →
          KeptBut exit (next_cell m) cells new → G n (kernel_item S new (LinesAt at' T k)) j)
          → G n (kernel_item S cells (LinesAt at (joined_to (settled site exit m).lines T) k)) j
      by None holds go = stays None holds refl refl go
      by (Some Breaks) holds go = stays (Some Breaks) holds refl refl go
      by (Some Returns) holds go = stays (Some Returns) holds refl refl go
      by (Some Continues) holds go =
          let one = updated cells (next_cell m) (pos 1) in
          asks exit m 1 site n (set_to exit (int (pos 0))) NoLine T k at cells j (Some Continues) true plain within
          holds refl
          (value_line S G R C n one (IntoChosen ∷ Behind ∷ at) exit (Copy (int (pos 0))) NoLine
          (LinesAt (Behind ∷ Behind ∷ at) T k) j plain (λ v d i. refl)
          (end_line S G R C n (updated one exit (pos 0)) (Behind ∷ IntoChosen ∷ Behind ∷ at)
          (LinesAt (Behind ∷ Behind ∷ at) T k) j
          (go (Behind ∷ Behind ∷ at) (updated one exit (pos 0)) there (updated_same one exit (pos 0))
          (λ c apart lt. updated_other one exit (pos 0) c (λ p. apart (sym p)) ∙ kept (pos 1) c apart lt))))

  -- what is pending goes on around, but for a `break`
  pub outward_follows : (o : Option Exit) (site exit outer : ℕ) (m : Made) (n : ℕ) (T : Lines) (way : Way)
      (tm : Marks) (k : Tasks) (at : Place) (cells : Store) (j : ProgramItem) → NoVariable S exit →
      NoVariable S outer → exit < next_cell m → outer < next_cell m
      → Within S (outward (Some site) exit outer m).made
      → marks_at S.marks at ≡ marks_then (all_marked way (outward (Some site) exit outer m).lines) tm →
      cells exit ≡ pending o → cells outer ≡ pos 0
      → ((at' : Place) (new : Store) → marks_at S.marks at' ≡ tm → new outer ≡ pending (passed_on o) →
      KeptBut outer (next_cell m) cells new → G n (kernel_item S new (LinesAt at' T k)) j)
      → G n (kernel_item S cells (LinesAt at (joined_to (outward (Some site) exit outer m).lines T) k)) j
  outward_follows o site exit outer m n T way tm k at cells j plain plain' less less' within e holds zero_ go =
      by o holds go
    where
      there : marks_at S.marks (Behind ∷ Behind ∷ at) ≡ tm
      there = ap (λ z. marks_behind (marks_behind z)) e

      kept : (v : ℤ) → KeptBut outer (next_cell m) cells (updated cells (next_cell m) v)
      kept v c apart lt = updated_other cells (next_cell m) v c (λ p. omega (arith, p, lt))

      copied : (o : Option Exit) → cells exit ≡ pending o → int_eq (pending o) (pos 2) ≡ false → passed_on o ≡ o
          → ((at' : Place) (new : Store) → marks_at S.marks at' ≡ tm → new outer ≡ pending (passed_on o) →
          KeptBut outer (next_cell m) cells new → G n (kernel_item S new (LinesAt at' T k)) j)
          → G n (kernel_item S cells (LinesAt at (joined_to (outward (Some site) exit outer m).lines T) k)) j
      copied o holds is same go =
          let one = updated cells (next_cell m) (pos 0) in
          let new = updated one outer (one exit) in
          asks exit m 2 site n NoLine (set_to outer (CellAtom exit)) T k at cells j o false plain within holds is
          (value_line S G R C n one (IntoOther ∷ Behind ∷ at) outer (Copy (CellAtom exit)) NoLine
          (LinesAt (Behind ∷ Behind ∷ at) T k) j plain' (cell_plain S exit plain)
          (end_line S G R C n new (Behind ∷ IntoOther ∷ Behind ∷ at) (LinesAt (Behind ∷ Behind ∷ at) T k) j
          (go (Behind ∷ Behind ∷ at) new there (updated_same one outer (one exit) ∙
          updated_other cells (next_cell m) (pos 0) exit (λ p. omega (arith, p, less)) ∙ holds ∙
          ap pending (sym same))
          (λ c apart lt. updated_other one outer (one exit) c (λ p. apart (sym p)) ∙ kept (pos 0) c apart lt))))

      by : (o : Option Exit) → cells exit ≡ pending o
          → ((at' : Place) (new : Store) → marks_at S.marks at' ≡ tm → new outer ≡ pending (passed_on o) →
          KeptBut outer (next_cell m) cells new → G n (kernel_item S new (LinesAt at' T k)) j)
          → G n (kernel_item S cells (LinesAt at (joined_to (outward (Some site) exit outer m).lines T) k)) j
      by None holds go = copied None holds refl refl go
      by (Some Continues) holds go = copied (Some Continues) holds refl refl go
      by (Some Returns) holds go = copied (Some Returns) holds refl refl go
      by (Some Breaks) holds go =
          let one = updated cells (next_cell m) (pos 1) in
          asks exit m 2 site n NoLine (set_to outer (CellAtom exit)) T k at cells j (Some Breaks) true plain within
          holds refl
          (end_line S G R C n one (IntoChosen ∷ Behind ∷ at) (LinesAt (Behind ∷ Behind ∷ at) T k) j
          (go (Behind ∷ Behind ∷ at) one there (updated_other cells (next_cell m) (pos 1) outer (λ p. omega (
            arith,
            p,
            less',
          )) ∙ zero_) (kept (pos 1))))

  -- ---- guards

  -- guarded lines are skipped where a way out is pending
  pub guard_off : (x : Exit) (site exit : ℕ) (inside rest : Lines) (n : ℕ) (T : Lines) (way : Way)
      (one two tm : Marks) (k : Tasks) (at : Place) (cells : Store) (j : ProgramItem) → NoVariable S exit →
      cells exit ≡ pending (Some x)
      → marks_at S.marks at ≡ marks_then (guarded_marks way inside one two) tm →
      ((at' : Place) → marks_at S.marks at' ≡ marks_then two tm →
      G n (kernel_item S cells (LinesAt at' (joined_to rest T) k)) j)
      → G n (kernel_item S cells (LinesAt at (joined_to (guarded_before site exit inside rest) T) k)) j
  guard_off x site exit inside rest n T way one two tm k at cells j plain holds e go = by (is_none inside) e
    where
      by : (b : Test) → marks_at S.marks at ≡ marks_then (if b then two else FormThen way NoMark one two) tm →
          G n (kernel_item S cells (LinesAt at
          (joined_to (if b then rest else IfThen site (CellAtom exit) NoLine inside rest) T) k)) j
      by true e = go at e
      by false e =
          if_line S G R C n cells at site (CellAtom exit) NoLine inside (joined_to rest T) k j false
          (cell_plain S exit plain) (ap is_zero holds ∙ some_pending x)
          (end_line S G R C n cells (IntoChosen ∷ at) (LinesAt (Behind ∷ at) (joined_to rest T) k) j
          (go (Behind ∷ at) (ap marks_behind e)))

  -- behind these lines at any place with these marks come others
  abbrev pub Bridge : (T1 : Lines) (tm1 : Marks) (k1 : Tasks) (T2 : Lines) (tm2 : Marks) (k2 : Tasks) → Type 0
  Bridge T1 tm1 k1 T2 tm2 k2 =
      (n : ℕ) (cells : Store) (j : ProgramItem) (at1 : Place) → marks_at S.marks at1 ≡ tm1 →
      ((at2 : Place) → marks_at S.marks at2 ≡ tm2 → G n (kernel_item S cells (LinesAt at2 T2 k2)) j) →
      G n (kernel_item S cells (LinesAt at1 T1 k1)) j

  -- they are run where none is
  pub guard_on : (site exit : ℕ) (inside rest : Lines) (n : ℕ) (T : Lines) (way : Way) (one two tm : Marks)
      (k : Tasks) (at : Place) (cells : Store) (j : ProgramItem) → NoVariable S exit → cells exit ≡ pos 0 →
      (is_none inside ≡ true → one ≡ NoMark)
      → marks_at S.marks at ≡ marks_then (guarded_marks way inside one two) tm
      → ((T1 : Lines) (tm1 : Marks) (k1 : Tasks) (at1 : Place) → begun_in k1 ≡ begun_in k →
      Bridge T1 tm1 k1 (joined_to rest T) (marks_then two tm) k → marks_at S.marks at1 ≡ marks_then one tm1 →
      G n (kernel_item S cells (LinesAt at1 (joined_to inside T1) k1)) j)
      → G n (kernel_item S cells (LinesAt at (joined_to (guarded_before site exit inside rest) T) k)) j
  guard_on site exit inside rest n T way one two tm k at cells j plain holds shaped e go = by (is_none inside) refl e
    where
      by : (b : Test) → is_none inside ≡ b →
          marks_at S.marks at ≡ marks_then (if b then two else FormThen way NoMark one two) tm →
          G n (kernel_item S cells (LinesAt at
          (joined_to (if b then rest else IfThen site (CellAtom exit) NoLine inside rest) T) k)) j
      by true is e =
          subst (λ z. G n (kernel_item S cells (LinesAt at (joined_to z (joined_to rest T)) k)) j) (none_is inside is)
          (go (joined_to rest T) (marks_then two tm) k at refl (λ n c i at1 e1 g. g at1 e1) (e ∙
          ap (λ z. marks_then z (marks_then two tm)) (sym (shaped is))))
      by false is e =
          if_line S G R C n cells at site (CellAtom exit) NoLine inside (joined_to rest T) k j true
          (cell_plain S exit plain) (ap is_zero holds)
          (subst (λ z. G n (kernel_item S cells
          (LinesAt (IntoOther ∷ at) z (LinesAt (Behind ∷ at) (joined_to rest T) k))) j) (join_none inside)
          (go NoLine NoMark (LinesAt (Behind ∷ at) (joined_to rest T) k) (IntoOther ∷ at) refl
          (λ n c i at1 e1 g. end_line S G R C n c at1 (LinesAt (Behind ∷ at) (joined_to rest T) k) i
          (g (Behind ∷ at) (ap marks_behind e)))
          (ap marks_two e ∙ sym (marks_none one))))
