-- A cell that is live at a cut is named on both sides of a cut, whatever the cell is for: the way to what is live of
-- variables.
use Rattle.std.proofs.Common.{◌≡◌, ℕ, zero, suc, List, [], ◌∷◌, slice_get, refl, sym, ap, ◌∙◌, true}
use Rattle.std.specs.Prelude.{◌&&◌}
use Rattle.wg_num.specs.declared.types.IntType.TheVariants.{Int}
use Rattle.cl_model.specs.Tree.{Program}
use Rattle.cl_model.specs.Valid.{IsValid}
use Rattle.kir.specs.Tree.{OfValue, Cell, Kernel}
use Rattle.kir.specs.Places.{Place}
use Rattle.kir.specs.Live.{live_at}
use Rattle.kir.specs.Cuts.{is_cut}
use Rattle.kir.specs.Keeps.{is_made}
use Rattle.kir.specs.Lowering.{Named, StartsAnew}
use Rattle.kir.proofs.Kept.{live_are_kept}
use Rattle.kir_lower.specs.Whole.{lowered_of}
use Rattle.kir_lower_shape.proofs.Across.{across}
use Rattle.kir_lower_shape.proofs.Starts.{starts_anew}

-- so many values' cells, and one more
abbrev values_up_to : ℕ → List Cell
values_up_to zero = record { kind = OfValue; of = Int } ∷ []
values_up_to (suc c) = record { kind = OfValue; of = Int } ∷ values_up_to c

made_there : (c : ℕ) → is_made (slice_get (values_up_to c) c) ≡ true
made_there zero = refl
made_there (suc c) = made_there c

-- the lines do not know what a cell is for, so each cell may be taken for a value
pub live_across : (kernel : Kernel) → StartsAnew kernel → (at : Place) (c : ℕ) → is_cut kernel.body at ≡ true →
    live_at kernel.body at c ≡ true → across kernel.body c ≡ true
live_across kernel anew at c cut live =
    let other : Kernel = record kernel { cells = values_up_to c } in
    sym (ap (λ z. z && across kernel.body c) (made_there c)) ∙ live_are_kept other anew at c cut live (made_there c)

-- so it is in a lowered kernel
pub lowered_across : (program : Program) (names : List (List Named)) → IsValid program → (at : Place) (c : ℕ) →
    is_cut (lowered_of program names).body at ≡ true → live_at (lowered_of program names).body at c ≡ true →
    across (lowered_of program names).body c ≡ true
lowered_across program names valid at c cut live =
    live_across (lowered_of program names) (starts_anew program names valid) at c cut live
