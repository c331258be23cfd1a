-- Each item of the increment touches its own element alone, so its launches are clean.
use Rattle.std.proofs.Common.{◌≡◌, ◌≢◌, ℕ, zero, suc, ◌+◌, ◌*◌, ◌/◌, ◌%◌, ◌^◌, ◌<◌, ◌≤◌, ℤ, pos, ◌+ℤ◌, true, List, []}
use Rattle.std.proofs.Common.{◌∷◌, length, Some, slice_get, refl, sym, ap, ◌∙◌, subst, arith, le-leb}
use Rattle.std.proofs.lemmas.Nat.{div-add-mod'}
use Rattle.std.proofs.lemmas.Int.{ints}
use Rattle.std.proofs.Math.Nat.{div-one, mod-eq_of_lt, mod-lt, div-lt_iff_lt-mul}
use Rattle.std.proofs.lemmas.Option.{slice_get_within, none-some, same_Some}
use Rattle.wg_num.specs.Wrap.{wrap_of, modulus, half, IsValue}
use Rattle.wg_num.specs.Operators.{binary_of}
use Rattle.wg_num.specs.declared.types.IntType.TheVariants.{Uint, Long}
use Rattle.wg_num.specs.declared.types.Bin.TheVariants.{Add}
use Rattle.wg_num.proofs.WrapLaws.{wrap_value}
use Rattle.work_items.specs.Memory.{Access, is_in_range, Overlap}
use Rattle.work_items.proofs.Ahead.{OwnsAhead, ahead_clean}
use Rattle.cl_model.specs.declared.program.Query.TheVariants.{GlobalId}
use Rattle.cl_model.specs.Sizes.{Launch, answer_of, item_count, global_id}
use Rattle.cl_model.specs.Tree.{Program}
use Rattle.cl_model.specs.Task.{Item}
use Rattle.cl_model.specs.Meaning.{start_item, start_items, start_world, machine_of, IsCleanLaunch}
use Rattle.cl_model.specs.Increment.{increment_program, flat_launch}

-- the item's own element
abbrev element : ℕ → Access
element i = record { object = 0; size = 4; index = pos i }

abbrev Mine : ℕ → ℕ → Access → Type 0
Mine count i access = (i < count) × (access ≡ element i)

own_apart : (count i j : ℕ) (a b : Access) → i ≢ j → Mine count i a → Mine count j b → Overlap a b → ⊥
own_apart count i j a b ne p q o = no_common (subst (λ x. Overlap x (element j)) p.1 (subst (λ y. Overlap a y) q.1 o))
  where
    no_common : Overlap (element i) (element j) → ⊥
    no_common c =
        let lower = c.1.1.0 in
        let upper = c.1.1.1 in
        let lower' = c.1.2.0 in
        let upper' = c.1.2.1 in
        omega arith

-- what the program computes for the offset
abbrev offset_value : Launch → ℕ → ℤ
offset_value launch i = binary_of Add Long (pos 0) (wrap_of Long (answer_of launch i GlobalId (wrap_of Uint (pos 0))))

-- an item's number on one line is its number in its group and its group's
global_is : (global local bytes i : ℕ) → 0 < local → global % local ≡ 0 → i < global →
    global_id (flat_launch global local bytes) i 0 ≡ i
global_is global local bytes i some even within =
    let sized : local * 1 ≡ local = omega arith in
    let whole : global / local * local ≡ global = omega (arith, div-add-mod' global local, even) in
    let group : i / local < global / local = (div-lt_iff_lt-mul some).1 (omega (arith, whole)) in
    let e : 0 + i / (local * 1) / 1 % (global / local) * local + i % (local * 1) / 1 % local ≡ 0 + i / local / 1 %
    (global / local) * local + i % local / 1 % local =
    ap (λ l. 0 + i / l / 1 % (global / local) * local + i % l / 1 % local) sized in
    let f : i / local / 1 % (global / local) ≡ i / local =
    ap (λ q. q % (global / local)) (div-one (i / local)) ∙ mod-eq_of_lt group in
    let g : i % local / 1 % local ≡ i % local =
    ap (λ r. r % local) (div-one (i % local)) ∙ mod-eq_of_lt (mod-lt i some) in
    e ∙ ap (λ q. 0 + q * local + i % local / 1 % local) f ∙ ap (λ r. 0 + i / local * local + r) g ∙
    omega (arith, div-add-mod' i local)

-- a number below 2 ^ 63 is a long
is_long : (n : ℕ) → n < 2 ^ 63 → IsValue Long (pos n)
unfolding half modulus
is_long n h = record { low = omega (arith, ints); high = omega (arith, ints, h) }

wrap_zero : wrap_of Uint (pos 0) ≡ pos 0
unfolding wrap_of half modulus
wrap_zero = refl

sum_of : (n : ℕ) → binary_of Add Long (pos 0) (pos n) ≡ wrap_of Long (pos 0 +ℤ pos n)
unfolding binary_of
sum_of n = refl

offset_is : (global local bytes i : ℕ) → 0 < local → global % local ≡ 0 → i < global → global < 2 ^ 63 →
    offset_value (flat_launch global local bytes) i ≡ pos i
offset_is global local bytes i some even within few =
    let launch : Launch = flat_launch global local bytes in
    let long : IsValue Long (pos i) = is_long i (omega (arith, within, few)) in
    let answer : answer_of launch i GlobalId (wrap_of Uint (pos 0)) ≡ pos i =
    ap (λ d. answer_of launch i GlobalId d) wrap_zero ∙ ap pos (global_is global local bytes i some even within) in
    let inner : wrap_of Long (answer_of launch i GlobalId (wrap_of Uint (pos 0))) ≡ pos i =
    ap (λ v. wrap_of Long v) answer ∙ wrap_value Long (pos i) long in
    let sum : pos 0 +ℤ pos i ≡ pos i = omega (arith, ints) in
    ap (λ v. binary_of Add Long (pos 0) v) inner ∙ sum_of i ∙ ap (λ v. wrap_of Long v) sum ∙
    wrap_value Long (pos i) long

-- what an item does, computed to its end
ahead : (global local bytes count i : ℕ) →
    Mine count i (record { object = 0; size = 4; index = offset_value (flat_launch global local bytes) i })
    → OwnsAhead (machine_of increment_program (flat_launch global local bytes)).next (Mine count) 40 i
    (start_item increment_program (flat_launch global local bytes) i)
ahead global local bytes count i mine = (mine, λ read. (mine, tt))

pub start_at : (program : Program) (launch : Launch) (first count i : ℕ) (s : Item) →
    slice_get (start_items program launch first count) i ≡ Some s → s ≡ start_item program launch (first + i)
start_at program launch first zero i s at = absurd (none-some s at)
start_at program launch first (suc count) zero s at = let e : first ≡ first + 0 =
    omega arith in sym (same_Some _ _ at) ∙ ap (start_item program launch) e
start_at program launch first (suc count) (suc i) s at = let e : suc first + i ≡ first + suc i =
    omega arith in start_at program launch (suc first) count i s at ∙ ap (start_item program launch) e

pub length-start_items : (program : Program) (launch : Launch) (first count : ℕ) →
    length (start_items program launch first count) ≡ count
length-start_items program launch first zero = refl
length-start_items program launch first (suc count) = ap suc (length-start_items program launch (suc first) count)

count_is : (global local bytes : ℕ) → global % local ≡ 0 → item_count (flat_launch global local bytes) ≡ global
count_is global local bytes even =
    let whole : global / local * local ≡ global = omega (arith, div-add-mod' global local, even) in
    let one : global / local * 1 ≡ global / local = omega arith in
    let other : local * 1 ≡ local = omega arith in
    ap (λ q. q * (local * 1)) one ∙ ap (λ l. global / local * l) other ∙ whole

-- the launch is clean, at each size and on each buffer that is long enough
pub increment_clean : (global local : ℕ) (buffer : List ℕ) → 0 < local → global % local ≡ 0 → global < 2 ^ 63 →
    global * 4 ≤ length buffer → IsCleanLaunch increment_program (flat_launch global local (length buffer))
    (buffer ∷ [])
increment_clean global local buffer some even few room =
    ahead_clean (machine_of increment_program launch) (Mine global) (own_apart global)
    (start_world increment_program launch (buffer ∷ [])) 0 40 refl on in_range
  where
    launch : Launch
    launch = flat_launch global local (length buffer)

    on : (i : ℕ) (s : Item) → slice_get (start_items increment_program launch 0 (item_count launch)) i ≡ Some s →
        OwnsAhead (machine_of increment_program launch).next (Mine global) 40 i s
    on i s at =
        let within : i < global = omega (
          arith,
          slice_get_within _ i s at,
          length-start_items increment_program launch 0 (item_count launch),
          count_is global local (length buffer) even,
        ) in
        let e : 0 + i ≡ i = omega arith in
        let same = start_at increment_program launch 0 (item_count launch) i s at ∙
        ap (start_item increment_program launch) e in
        let offset = offset_is global local (length buffer) i some even within few in
        let own : Mine global i (record { object = 0; size = 4; index = offset_value launch i }) =
        (within, λ k. record { object = 0; size = 4; index = offset k }) in
        subst (λ x. OwnsAhead (machine_of increment_program launch).next (Mine global) 40 i x) (sym same)
        (ahead global local (length buffer) global i own)

    in_range : (i : ℕ) (a : Access) → i < length (start_items increment_program launch 0 (item_count launch)) →
        Mine global i a → is_in_range (start_world increment_program launch (buffer ∷ [])).memory a ≡ true
    in_range i a lt mine = subst (λ x. is_in_range (start_world increment_program launch (buffer ∷ [])).memory x ≡
        true) (sym mine.1) (le-leb _ _ (omega (arith, mine.0, room)))
