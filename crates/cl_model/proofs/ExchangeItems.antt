-- The exchange in two phases: each item writes its own element of local memory, and behind the barrier its own
-- element of the buffer.
use Rattle.std.proofs.Common.{◌≡◌, ◌≢◌, ◌⊎◌, ℕ, zero, suc, ◌-◌, ◌/◌, ◌<◌, pos, true, List, [], ◌∷◌, length, Option}
use Rattle.std.proofs.Common.{Some, slice_get, refl, sym, subst, inl, inr, arith, le-leb}
use Rattle.std.proofs.lemmas.Option.{none-some, same_Some}
use Rattle.wg_num.specs.Wrap.{wrap_of, modulus, half}
use Rattle.wg_num.specs.Operators.{binary_of}
use Rattle.work_items.specs.Memory.{Access, is_in_range, Overlap}
use Rattle.work_items.specs.Items.{Machine}
use Rattle.work_items.proofs.Phases.{KeepApart}
use Rattle.work_items.proofs.Ahead.{Phased, FollowsAhead, phases_ahead_clean}
use Rattle.cl_model.specs.Task.{Nth, Point, Item}
use Rattle.cl_model.specs.Meaning.{start_item, start_items, start_world, machine_of, IsCleanLaunch}
use Rattle.cl_model.specs.Exchange.{exchange_program, exchange_launch}

abbrev element : ℕ → ℕ → Access
element object i = record { object = object; size = 4; index = pos i }

abbrev Reads : ℕ → ℕ → Access → Type 0
Reads zero i access = access ≡ element 0 i
Reads (suc p) i access = access ≡ element 1 (1 - i)

abbrev Writes : ℕ → ℕ → Access → Type 0
Writes zero i access = access ≡ element 1 i
Writes (suc p) i access = access ≡ element 0 i

-- the barrier is the third statement of the kernel
abbrev phases : Phased (Option Point)
phases = record { Reads = Reads; Writes = Writes; last = 1; point_at = λ p. Some (Nth 2 ∷ []) }

abbrev machine : Machine Item (Option Point)
machine = machine_of exchange_program exchange_launch

-- what each of the items does, computed to its end
first_item : FollowsAhead machine phases 80 0 0 (start_item exchange_program exchange_launch 0)
unfolding wrap_of modulus half binary_of
first_item = (refl, λ read. (refl, (omega arith, refl, (refl, λ read. (refl, refl)))))

second_item : FollowsAhead machine phases 80 0 1 (start_item exchange_program exchange_launch 1)
unfolding wrap_of modulus half binary_of
second_item = (refl, λ read. (refl, (omega arith, refl, (refl, λ read. (refl, refl)))))

no_overlap : (object i j : ℕ) → i ≢ j → Overlap (element object i) (element object j) → ⊥
no_overlap object i j ne c =
    let lower = c.1.1.0 in
    let upper = c.1.1.1 in
    let lower' = c.1.2.0 in
    let upper' = c.1.2.1 in
    omega arith

other_object : (object object' i j : ℕ) → object ≢ object' → Overlap (element object i) (element object' j) → ⊥
other_object object object' i j ne c = ne c.0

overlap_at : (a b x y : Access) → a ≡ x → b ≡ y → Overlap a b → Overlap x y
overlap_at a b x y p q o = subst (λ b. Overlap x b) q (subst (λ a. Overlap a b) p o)

one_group : (i j : ℕ) → i < 2 → j < 2 → i / 2 ≡ j / 2
one_group i j lt lt' = omega arith

writes_apart : KeepApart machine.group 2 Writes Writes
writes_apart i j zero zero a b lt lt' ne same p q o = no_overlap 1 i j ne (overlap_at a b _ _ p q o)
writes_apart i j (suc p') (suc q') a b lt lt' ne same p q o = no_overlap 0 i j ne (overlap_at a b _ _ p q o)
writes_apart i j zero (suc q') a b lt lt' ne same p q o = let e = same (one_group i j lt lt') in absurd (omega arith)
writes_apart i j (suc p') zero a b lt lt' ne same p q o = let e = same (one_group i j lt lt') in absurd (omega arith)

reads_apart : KeepApart machine.group 2 Writes Reads
reads_apart i j zero zero a b lt lt' ne same p q o = other_object 1 0 i j (omega arith) (overlap_at a b _ _ p q o)
reads_apart i j (suc p') (suc q') a b lt lt' ne same p q o =
    other_object 0 1 i (1 - j) (omega arith) (overlap_at a b _ _ p q o)
reads_apart i j zero (suc q') a b lt lt' ne same p q o = let e = same (one_group i j lt lt') in absurd (omega arith)
reads_apart i j (suc p') zero a b lt lt' ne same p q o = let e = same (one_group i j lt lt') in absurd (omega arith)

-- the launch is clean on each buffer that is long enough
pub exchange_clean : (buffer : List ℕ) → length buffer ≡ 8 →
    IsCleanLaunch exchange_program exchange_launch (buffer ∷ [])
exchange_clean buffer room = phases_ahead_clean machine phases 2 writes_apart reads_apart
    (start_world exchange_program exchange_launch (buffer ∷ [])) 0 80 refl refl on in_range
  where
    on : (i : ℕ) (s : Item) → slice_get (start_items exchange_program exchange_launch 0 2) i ≡ Some s →
        FollowsAhead machine phases 80 0 i s
    on zero s at = subst (λ x. FollowsAhead machine phases 80 0 0 x) (same_Some _ _ at) first_item
    on (suc zero) s at = subst (λ x. FollowsAhead machine phases 80 0 1 x) (same_Some _ _ at) second_item
    on (suc (suc i)) s at = absurd (none-some s at)

    in_range : (p i : ℕ) (a : Access) → i < 2 → Reads p i a ⊎ Writes p i a →
        is_in_range (start_world exchange_program exchange_launch (buffer ∷ [])).memory a ≡ true
    in_range zero i a lt (inl e) =
        subst (λ x. is_in_range (start_world exchange_program exchange_launch (buffer ∷ [])).memory x ≡ true) (sym e)
        (le-leb _ _ (omega (arith, room)))
    in_range zero i a lt (inr e) =
        subst (λ x. is_in_range (start_world exchange_program exchange_launch (buffer ∷ [])).memory x ≡ true) (sym e)
        (le-leb _ _ (omega arith))
    in_range (suc p) i a lt (inl e) =
        subst (λ x. is_in_range (start_world exchange_program exchange_launch (buffer ∷ [])).memory x ≡ true) (sym e)
        (le-leb _ _ (omega arith))
    in_range (suc p) i a lt (inr e) =
        subst (λ x. is_in_range (start_world exchange_program exchange_launch (buffer ∷ [])).memory x ≡ true) (sym e)
        (le-leb _ _ (omega (arith, room)))
