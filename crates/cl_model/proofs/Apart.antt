-- What is kept apart: the local memory of two groups, and the iterations of a loop.
use Rattle.std.proofs.Common.{◌≡◌, ◌≢◌, ℕ, ◌+◌, ◌*◌, ◌<◌, List, [], ◌∷◌, Option, length, ap, ◌∙◌, inl, inr, arith}
use Rattle.std.proofs.lemmas.Bool.{cases_lt}
use Rattle.std.proofs.lemmas.List.{append_cancel_left, length-append, length-map}
use Rattle.std.proofs.lemmas.Nat.{mul-add-lt}
use Rattle.std.proofs.lemmas.Option.{same_Some}
use Rattle.cl_model.specs.declared.program.Root.TheVariants.{Local}
use Rattle.cl_model.specs.Tree.{Expression, Statement, Program}
use Rattle.cl_model.specs.Sizes.{Launch, group_of}
use Rattle.cl_model.specs.Objects.{object_of, local_arguments, local_arrays, local_sizes, place_among}
use Rattle.cl_model.specs.Task.{Leg, Turn, Body, Point, Task, first_point}
use Rattle.cl_model.specs.Steps.{iteration}

-- places of different rows
rows_apart : (g h w a b : ℕ) → g ≢ h → a < w → b < w → g * w + a ≢ h * w + b
rows_apart g h w a b ne p q e =
    elim (cases_lt g h) [
      | inl lt ↦ let before = mul-add-lt g w a h lt p in omega (arith, before, e)
      | inr ge ↦ let lt : h < g = omega arith in let before = mul-add-lt h w b g lt q in omega (arith, before, e)
    ]

-- items of different groups name different objects by their local arrays (OpenCL 1.2, section 3.3)
pub locals_apart : (program : Program) (launch : Launch) (item other : ℕ) (path path' : List ℕ)
    (objects objects' : ℕ → ℕ) (n m : ℕ) → group_of launch item ≢ group_of launch other
    → place_among (local_arrays program) path n < length (local_arrays program) →
    place_among (local_arrays program) path' m < length (local_arrays program)
    → object_of program launch item path objects (Local n) ≢ object_of program launch other path' objects' (Local m)
locals_apart program launch item other path path' objects objects' n m ne lt lt' e =
    let many : length (local_sizes program launch) ≡ length (local_arrays program) +
    length (local_arguments launch.args) = length-append _ _ ∙
    ap (λ k. k + length (local_arguments launch.args)) (length-map (local_arrays program) _) in
    rows_apart (group_of launch item) (group_of launch other) (length (local_sizes program launch))
    (place_among (local_arrays program) path n) (place_among (local_arrays program) path' m) ne
    (omega (arith, lt, many)) (omega (arith, lt', many)) (omega (arith, e))

-- items that stand at one point, each at the start of an iteration of a loop, are in one iteration
pub iterations_apart : (at : Point) (site site' : ℕ) (test step test' step' : Option Expression)
    (body body' : Statement) (k j : ℕ) (tasks tasks' : List Task)
    → first_point (iteration at site test step body k tasks) ≡
    first_point (iteration at site' test' step' body' j tasks') → k ≡ j
iterations_apart at site site' test step test' step' body body' k j tasks tasks' e =
    let same : ◌≡◌ {A = List Leg} (Turn k ∷ Body ∷ []) (Turn j ∷ Body ∷ []) =
    append_cancel_left at _ _ (same_Some _ _ e) in
    cc same
