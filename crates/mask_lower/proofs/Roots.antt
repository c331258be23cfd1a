-- The number of an array among those of its space is the one that the program of a kernel gives it.
use Rattle.std.proofs.Common.{◌≡◌, ℕ, zero, suc, ◌+◌, List, [], ◌∷◌, Some, slice_get, filter, cond, nat_eq, eq-eqb}
use Rattle.std.proofs.Common.{refl, sym, ap, ◌∙◌, arith, append-nil, if◌then◌else◌}
use Rattle.std.proofs.Common.{Bool as Test, true, false}
use Rattle.std.specs.Prelude.{slice_index_or}
use Rattle.std.proofs.lemmas.Bool.{ne_eqb}
use Rattle.cl_model.specs.declared.program.Space.{Space}
use Rattle.cl_model.specs.declared.program.Space.TheVariants as space
use Rattle.cl_model.specs.declared.program.Root.TheVariants as root
use Rattle.cl_model.specs.Tree.{Array}
use Rattle.cl_model.specs.Objects.{is_local, is_private, PlacedArray, placed_from, placed_arrays, place_among}
use Rattle.kir.specs.Tree.{Kernel}
use Rattle.kir.specs.Steps.{shell_of}
use Rattle.mask_lower.specs.Layout.{lane_root}
use Rattle.mask_lower.specs.Registers.{more_if, places_from, root_at}

-- arrays that pass a test, each by its number
among : (Array → Test) → (first : ℕ) → List Array → ℕ → ℕ
among test first arrays number =
    place_among (filter (λ (x : PlacedArray). test x.array) (placed_from [] first arrays)) [] number

here : (b : Test) (first others : ℕ) (rest : List PlacedArray) (a : Array) → b ≡ true →
    place_among (cond b (record { path = []; number = first; array = a } ∷ rest) rest) [] (first + 0) ≡ 0
here true first others rest a is =
    let same : nat_eq first (first + 0) ≡ true = eq-eqb first (first + 0) (omega arith) in
    ap (λ t. if t then 0 else suc (place_among rest [] (first + 0))) same
here false first others rest a is = absurd (cc)

further : (b : Test) (first m n : ℕ) (rest : List PlacedArray) (a : Array) →
    more_if b n + place_among rest [] (suc first + m) ≡ n +
    place_among (cond b (record { path = []; number = first; array = a } ∷ rest) rest) [] (first + suc m)
further true first m n rest a =
    let q = first + suc m in
    let other : nat_eq first q ≡ false = ne_eqb first q (λ e. omega (arith, e)) in
    let same : suc first + m ≡ q = omega arith in
    let x = place_among rest [] q in
    let sum : n + 1 + x ≡ n + suc x = omega arith in
    ap (λ k. n + 1 + place_among rest [] k) same ∙ sum ∙ ap (λ t. n + (if t then 0 else suc x)) (sym other)
further false first m n rest a =
    let same : suc first + m ≡ first + suc m = omega arith in
    ap (λ k. n + place_among rest [] k) same

chosen : (b : Test) (l p : ℕ) → b ≡ true → (if b then l else p) ≡ l
chosen b l p is = ap (λ t. if t then l else p) is

refused : (b : Test) (l p : ℕ) → b ≡ false → (if b then l else p) ≡ p
refused b l p is = ap (λ t. if t then l else p) is

not_local : (s : Space) → is_private s ≡ true → is_local s ≡ false
not_local space.Global e = refl
not_local space.Constant e = refl
not_local space.Local e = absurd (cc)
not_local space.Private e = refl

local_place : (first l p : ℕ) (arrays : List Array) (n : ℕ) (a : Array) → slice_get arrays n ≡ Some a →
    is_local a.space ≡ true → slice_index_or (places_from l p arrays) n 0 ≡ l + among (λ x. is_local x.space) first
    arrays (first + n)
unfolding among
local_place first l p [] n a there is = absurd (cc)
local_place first l p (x ∷ rest) zero a there is =
    let same : x ≡ a = cc in
    let here_is : is_local x.space ≡ true = ap (λ (y : Array). is_local y.space) same ∙ is in
    let at = here (is_local x.space) first 0 (filter (λ (y : PlacedArray). is_local y.array.space)
    (placed_from [] (suc first) rest)) x here_is in
    let none : l ≡ l + 0 = omega arith in
    chosen (is_local x.space) l p here_is ∙ none ∙ ap (λ k. l + k) (sym at)
local_place first l p (x ∷ rest) (suc m) a there is =
    local_place (suc first) (more_if (is_local x.space) l) (more_if (is_private x.space) p) rest m a there is
    ∙ further (is_local x.space) first m l (filter (λ (y : PlacedArray). is_local y.array.space)
    (placed_from [] (suc first) rest)) x

private_place : (first l p : ℕ) (arrays : List Array) (n : ℕ) (a : Array) → slice_get arrays n ≡ Some a →
    is_private a.space ≡ true → slice_index_or (places_from l p arrays) n 0 ≡ p +
    among (λ x. is_private x.space) first arrays (first + n)
unfolding among
private_place first l p [] n a there is = absurd (cc)
private_place first l p (x ∷ rest) zero a there is =
    let same : x ≡ a = cc in
    let here_is : is_private x.space ≡ true = ap (λ (y : Array). is_private y.space) same ∙ is in
    let at = here (is_private x.space) first 0 (filter (λ (y : PlacedArray). is_private y.array.space)
    (placed_from [] (suc first) rest)) x here_is in
    let none : p ≡ p + 0 = omega arith in
    refused (is_local x.space) l p (not_local x.space here_is) ∙ none ∙ ap (λ k. p + k) (sym at)
private_place first l p (x ∷ rest) (suc m) a there is =
    private_place (suc first) (more_if (is_local x.space) l) (more_if (is_private x.space) p) rest m a there is
    ∙ further (is_private x.space) first m p (filter (λ (y : PlacedArray). is_private y.array.space)
    (placed_from [] (suc first) rest)) x

shell_arrays : (kernel : Kernel) → placed_arrays (shell_of kernel) ≡ placed_from [] 0 kernel.arrays
shell_arrays kernel = append-nil (placed_from [] 0 kernel.arrays)

-- a local array of the kernel, and a private one
pub local_root : (kernel : Kernel) (n : ℕ) (a : Array) → slice_get kernel.arrays n ≡ Some a →
    is_local a.space ≡ true → root_at (places_from 0 0 kernel.arrays) (root.Local n) ≡ lane_root kernel (root.Local n)
unfolding among
local_root kernel n a there is =
    let zeros : (x : ℕ) → 0 + x ≡ x = λ x. omega arith in
    ap (λ k. root.Local k)
    (local_place 0 0 0 kernel.arrays n a there is ∙ zeros (among (λ x. is_local x.space) 0 kernel.arrays (0 + n)) ∙
    ap (λ k. among (λ x. is_local x.space) 0 kernel.arrays k) (zeros n)
    ∙ ap (λ xs. place_among (filter (λ (y : PlacedArray). is_local y.array.space) xs) [] n) (sym (shell_arrays kernel)))

pub private_root : (kernel : Kernel) (n : ℕ) (a : Array) → slice_get kernel.arrays n ≡ Some a →
    is_private a.space ≡ true → root_at (places_from 0 0 kernel.arrays) (root.Private n) ≡
    lane_root kernel (root.Private n)
unfolding among
private_root kernel n a there is =
    let zeros : (x : ℕ) → 0 + x ≡ x = λ x. omega arith in
    ap (λ k. root.Private k)
    (private_place 0 0 0 kernel.arrays n a there is ∙
    zeros (among (λ x. is_private x.space) 0 kernel.arrays (0 + n)) ∙
    ap (λ k. among (λ x. is_private x.space) 0 kernel.arrays k) (zeros n)
    ∙ ap (λ xs. place_among (filter (λ (y : PlacedArray). is_private y.array.space) xs) [] n)
    (sym (shell_arrays kernel)))
