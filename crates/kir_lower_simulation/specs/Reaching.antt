-- The barriers to which an item of a program may come with fewer than so many begun iterations, whatever its loads
-- give and its tests answer.
use Rattle.std.specs.Prelude.{◌≡◌, ℕ, suc, ℤ, true, List, ◌∷◌, length}
use Rattle.work_items.specs.Memory.{Access}
use Rattle.work_items.specs.Items.{Next, Ends, Waits, Goes, Begins, Loads, Stores}
use Rattle.cl_model.specs.Tree.{Program}
use Rattle.cl_model.specs.Sizes.{Launch}
use Rattle.cl_model.specs.Task.{Point as ProgramPoint, Item as ProgramItem}
use Rattle.cl_model.specs.Steps.{before, item_next as program_next}
use Rattle.cl_model.specs.Meaning.{is_test, IsWithin}
use Rattle.kir.specs.Places.{Tasks}
use Rattle.kir_lower_shape.specs.Marks.{Marks}
use Rattle.kir_lower_simulation.specs.Coming.{StandsAtBarrier}
use Rattle.kir_lower_simulation.specs.Covering.{ComesToLine}

-- a step that begins no iteration may lead there; a barrier is passed
abbrev pub PassesTo : {S : Type 0} → (Access → Type 0) → Next S → S → Type 0
PassesTo goes_on Ends to = ⊥
PassesTo goes_on (Waits site after) to = after ≡ to
PassesTo goes_on (Goes after) to = after ≡ to
PassesTo goes_on (Begins after) to = ⊥
PassesTo goes_on (Loads site access after) to = goes_on access × ((bytes : List ℕ) × (after bytes ≡ to))
PassesTo goes_on (Stores site object index bytes after) to =
    goes_on (record { object = object; size = length bytes; index = index }) × (after ≡ to)

-- one that begins an iteration leads there
abbrev pub TurnsTo : {S : Type 0} → Next S → S → Type 0
TurnsTo (Begins after) to = after ≡ to
TurnsTo _ to = ⊥

-- the item, or at a test the item with any value to be tested
pub data Answers (j : ProgramItem) : ProgramItem → Type 0 where
  as_is : Answers j j
  answered : is_test j.tasks ≡ true → (v : ℤ) → Answers j (record j { values = v ∷ before j.values })

-- it may come to a barrier at the point, with fewer than so many iterations begun on the way
pub data Reaches (program : Program) (launch : Launch) (buffers : List (List ℕ)) (point : ProgramPoint) : ℕ →
    ProgramItem → Type 0 where
  here : {n : ℕ} {j : ProgramItem} → StandsAtBarrier point j.tasks → Reaches program launch buffers point (suc n) j
  goes : {n : ℕ} {j tried next : ProgramItem} → Answers j tried →
      PassesTo (IsWithin program launch buffers) (program_next program launch tried) next →
      Reaches program launch buffers point n next → Reaches program launch buffers point n j
  turns : {n : ℕ} {j tried next : ProgramItem} → Answers j tried → TurnsTo (program_next program launch tried) next →
      Reaches program launch buffers point n next → Reaches program launch buffers point (suc n) j

-- to each such barrier's line the kernel's item may come
pub record CoversFewer (program : Program) (marks : Marks) (launch : Launch) (buffers : List (List ℕ)) (n : ℕ)
    (j : ProgramItem) (k : Tasks) : Type 0 where
  pub reach : (point : ProgramPoint) → Reaches program launch buffers point n j → ComesToLine marks point k
