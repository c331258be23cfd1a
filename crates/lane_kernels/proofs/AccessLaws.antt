-- Laws of loads and stores.
use Rattle.std.proofs.Common.{◌≡◌, ℕ, zero, suc, ◌+◌, ◌*◌, ◌/◌, ◌%◌, ◌^◌, ◌<◌, ◌≤◌, refl, sym, ap, ap₂, ◌∙◌}
use Rattle.std.proofs.Common.{arith, Bool, false, List, [], ◌∷◌, length, take, set, get_or, drop-cons, add-one}
use Rattle.std.proofs.Common.{add-zero, ℤ, map, true}
use Rattle.std.specs.Simd.Lanes.{chunk, put_chunk, number_l, digits_l}
use Rattle.std.specs.Simd.Lanes.{zip2}
use Rattle.std.specs.List.{list_all}
use Rattle.std.proofs.Common.{true≢false}
use Rattle.std.proofs.lemmas.Bool.{true_from_ne_false}
use Rattle.std.proofs.lemmas.List.Folds.{list_all_at}
use Rattle.wg_num.specs.declared.types.IntType.{IntType}
use Rattle.wg_num.specs.Wrap.{bits_of}
use Rattle.wg_num.proofs.WrapLaws.{congruent_trans, congruent_divides, bits_congruent}
use Rattle.wg_num.specs.Bytes.{size_of}
use Rattle.lane_values.specs.Lanes.{lane, extended}
use Rattle.lane_values.specs.Access.{lane_from, lane_put, gathered, scattered}
use Rattle.lane_kernels.specs.Vectors.{number_from}
use Rattle.lane_kernels.proofs.ListLaws.{map_of_zip2, zip2_same}
use Rattle.lane_kernels.proofs.LaneLaws as K

-- ---- lanes that are all active and within the object

-- what holds of all entries of a list holds of each
pub all_at : {X : Type 0} (p : X → Bool) (xs : List X) (i : ℕ) (d : X) → i < length xs → list_all p xs ≡ true →
    p (get_or xs i d) ≡ true
all_at p xs i d h e =
    true_from_ne_false (p (get_or xs i d)) (λ f. true≢false (sym e ∙ list_all_at p xs i d h f))

-- ---- loads

pub gathered_64 : (t : IntType) (bytes : List ℕ) (m : List Bool) (index : List ℕ) →
    map (extended 64 t) (zip2 (number_from (size_of t) bytes) m index) ≡ gathered 64 t bytes m index
gathered_64 t bytes m index =
    map_of_zip2 (extended 64 t) (number_from (size_of t) bytes) m index ∙ zip2_same _ (lane_from 64 t bytes) one m index
  where
    one : (on : Bool) (at : ℕ) → extended 64 t (number_from (size_of t) bytes on at) ≡ lane_from 64 t bytes on at
    one true at = refl
    one false at = K.extended_zero 64 (2 ^ 63) refl refl (omega arith) (omega arith) t

pub gathered_32 : (t : IntType) (bytes : List ℕ) (m : List Bool) (index : List ℕ) →
    map (extended 32 t) (zip2 (number_from (size_of t) bytes) m index) ≡ gathered 32 t bytes m index
gathered_32 t bytes m index =
    map_of_zip2 (extended 32 t) (number_from (size_of t) bytes) m index ∙ zip2_same _ (lane_from 32 t bytes) one m index
  where
    one : (on : Bool) (at : ℕ) → extended 32 t (number_from (size_of t) bytes on at) ≡ lane_from 32 t bytes on at
    one true at = refl
    one false at = K.extended_zero 32 (2 ^ 31) refl refl (omega arith) (omega arith) t

-- the low bits of a pattern are the lane
pub bits_lane : (z : ℤ) → bits_of z % 2 ^ 32 ≡ lane 32 z
bits_lane z =
    sym (K.lane_unique 32 (2 ^ 31) refl refl (omega arith) (omega arith) (bits_of z % 2 ^ 32) z (omega arith)
    (congruent_trans (K.mod_congruent 32 (2 ^ 31) refl refl (omega arith) (omega arith) (bits_of z))
    (congruent_divides (2 ^ 32) (2 ^ 32) refl (bits_congruent z))))

-- a pattern is the lane of 64 bits
pub bits_lane_64 : (z : ℤ) → bits_of z ≡ lane 64 z
unfolding bits_of lane
bits_lane_64 z = refl

-- ---- the bytes of numbers

pub chunk_cons : (i n : ℕ) (xs : List ℕ) → i < length xs → chunk i (suc n) xs ≡ get_or xs i 0 ∷ chunk (i + 1) n xs
chunk_cons i n xs h = ap (take (suc n)) (drop-cons xs i 0 h) ∙ rw add-one refl

pub number_1 : (i : ℕ) (xs : List ℕ) → i + 1 ≤ length xs → get_or xs i 0 ≡ number_l 256 (chunk i 1 xs)
number_1 i xs h = sym (ap (number_l 256) (chunk_cons i 0 xs (omega arith)) ∙ add-zero (get_or xs i 0))

pub number_2 : (i : ℕ) (xs : List ℕ) → i + 2 ≤ length xs →
    get_or xs i 0 + 256 * get_or xs (i + 1) 0 ≡ number_l 256 (chunk i 2 xs)
number_2 i xs h = sym (ap (number_l 256) (chunk_cons i 1 xs (omega arith)) ∙
    ap (λ n. get_or xs i 0 + 256 * n) (sym (number_1 (i + 1) xs (omega arith))))

pub number_4 : (i : ℕ) (xs : List ℕ) → i + 4 ≤ length xs →
    get_or xs i 0 + 256 * (get_or xs (i + 1) 0 + 256 * (get_or xs (i + 2) 0 + 256 * get_or xs (i + 3) 0)) ≡
    number_l 256 (chunk i 4 xs)
number_4 i xs h =
    let two : i + 1 + 1 ≡ i + 2 = omega arith in
    let three : i + 2 + 1 ≡ i + 3 = omega arith in
    sym (ap (number_l 256) (chunk_cons i 3 xs (omega arith))
    ∙ ap (λ n. get_or xs i 0 + 256 * n) (ap (number_l 256) (chunk_cons (i + 1) 2 xs (omega arith))
    ∙ ap (λ n. get_or xs (i + 1) 0 + 256 * n) (ap (λ k. number_l 256 (chunk k 2 xs)) two ∙
    sym (number_2 (i + 2) xs (omega arith)) ∙ ap (λ k. get_or xs (i + 2) 0 + 256 * get_or xs k 0) three)))

pub number_8 : (i : ℕ) (xs : List ℕ) → i + 8 ≤ length xs →
    number_l 256 (chunk i 4 xs) + 2 ^ 32 * number_l 256 (chunk (i + 4) 4 xs) ≡ number_l 256 (chunk i 8 xs)
number_8 i xs h =
    let low = number_4 i xs (omega arith) in
    let e : number_l 256 (chunk i 8 xs) ≡ get_or xs i 0 + 256 *
    (get_or xs (i + 1) 0 + 256 * (get_or xs (i + 2) 0 + 256 *
    (get_or xs (i + 3) 0 + 256 * number_l 256 (chunk (i + 4) 4 xs)))) =
    ap (number_l 256) (chunk_cons i 7 xs (omega arith))
    ∙ ap (λ n. get_or xs i 0 + 256 * n) (ap (number_l 256) (chunk_cons (i + 1) 6 xs (omega arith)))
    ∙ ap (λ n. get_or xs i 0 + 256 * (get_or xs (i + 1) 0 + 256 * n)) (ap (λ k. number_l 256 (chunk k 6 xs)) two ∙
    ap (number_l 256) (chunk_cons (i + 2) 5 xs (omega arith)))
    ∙ ap (λ n. get_or xs i 0 + 256 * (get_or xs (i + 1) 0 + 256 * (get_or xs (i + 2) 0 + 256 * n)))
    (ap (λ k. number_l 256 (chunk k 5 xs)) three ∙ ap (number_l 256) (chunk_cons (i + 3) 4 xs (omega arith)))
    ∙ ap (λ k. get_or xs i 0 + 256 *
    (get_or xs (i + 1) 0 + 256 * (get_or xs (i + 2) 0 + 256 *
    (get_or xs (i + 3) 0 + 256 * number_l 256 (chunk k 4 xs))))) four in
    omega (arith, low, e)
  where
    two : i + 1 + 1 ≡ i + 2
    two = omega arith

    three : i + 2 + 1 ≡ i + 3
    three = omega arith

    four : i + 3 + 1 ≡ i + 4
    four = omega arith

-- ---- stores

pub put_none : (i : ℕ) (xs : List ℕ) → put_chunk i xs [] ≡ xs
put_none i [] = refl
put_none zero (x ∷ xs) = refl
put_none (suc i) (x ∷ xs) = ap (λ ys. x ∷ ys) (put_none i xs)

put_next' : (i : ℕ) (xs : List ℕ) (y : ℕ) (ys : List ℕ) → put_chunk i xs (y ∷ ys) ≡ put_chunk (suc i) (set xs i y) ys
put_next' i [] y ys = refl
put_next' zero (x ∷ xs) y ys = refl
put_next' (suc i) (x ∷ xs) y ys = ap (λ zs. x ∷ zs) (put_next' i xs y ys)

pub put_next : (i : ℕ) (xs : List ℕ) (y : ℕ) (ys : List ℕ) → put_chunk i xs (y ∷ ys) ≡ put_chunk (i + 1) (set xs i y) ys
put_next i xs y ys = put_next' i xs y ys ∙ rw add-one refl

-- one, two and four bytes of a number
pub put_1 : (i x : ℕ) (xs : List ℕ) → put_chunk i xs (digits_l 256 1 x) ≡ set xs i (x % 256)
put_1 i x xs = put_next i xs (x % 256) [] ∙ put_none (i + 1) (set xs i (x % 256))

pub put_2 : (i x : ℕ) (xs : List ℕ) →
    put_chunk i xs (digits_l 256 2 x) ≡ set (set xs i (x % 256)) (i + 1) (x / 256 % 256)
put_2 i x xs = put_next i xs (x % 256) (digits_l 256 1 (x / 256)) ∙ put_1 (i + 1) (x / 256) (set xs i (x % 256))

abbrev set_4 : ℕ → List ℕ → (a b c d : ℕ) → List ℕ
set_4 i xs a b c d = set (set (set (set xs i a) (i + 1) b) (i + 2) c) (i + 3) d

put_first : (i : ℕ) (xs : List ℕ) (a b c d : ℕ) (ys : List ℕ) →
    put_chunk i xs (a ∷ b ∷ c ∷ d ∷ ys) ≡ put_chunk (i + 4) (set_4 i xs a b c d) ys
put_first i xs a b c d ys =
    let two : i + 1 + 1 ≡ i + 2 = omega arith in
    let three : i + 2 + 1 ≡ i + 3 = omega arith in
    let four : i + 3 + 1 ≡ i + 4 = omega arith in
    let x1 = set xs i a in
    let x2 = set x1 (i + 1) b in
    let x3 = set x2 (i + 2) c in
    put_next i xs a (b ∷ c ∷ d ∷ ys) ∙ put_next (i + 1) x1 b (c ∷ d ∷ ys)
    ∙ ap (λ k. put_chunk k x2 (c ∷ d ∷ ys)) two ∙ put_next (i + 2) x2 c (d ∷ ys)
    ∙ ap (λ k. put_chunk k x3 (d ∷ ys)) three ∙ put_next (i + 3) x3 d ys
    ∙ ap (λ k. put_chunk k (set x3 (i + 3) d) ys) four

pub put_4 : (i x : ℕ) (xs : List ℕ) →
    put_chunk i xs (digits_l 256 4 x) ≡ set_4 i xs (x % 256) (x / 256 % 256) (x / 256 / 256 % 256) (x / 256 / 256 /
    256 % 256)
put_4 i x xs =
    put_first i xs (x % 256) (x / 256 % 256) (x / 256 / 256 % 256) (x / 256 / 256 / 256 % 256) [] ∙ put_none (i + 4) _

-- eight bytes are four and four
pub put_8 : (i x : ℕ) (xs : List ℕ) →
    put_chunk (i + 4) (put_chunk i xs (digits_l 256 4 x)) (digits_l 256 4 (x / 2 ^ 32)) ≡
    put_chunk i xs (digits_l 256 8 x)
put_8 i x xs =
    let rest : x / 2 ^ 32 ≡ x / 256 / 256 / 256 / 256 = omega arith in
    ap₂ (λ ys z. put_chunk (i + 4) ys (digits_l 256 4 z)) (put_4 i x xs) rest
    ∙ sym (put_first i xs (x % 256) (x / 256 % 256) (x / 256 / 256 % 256) (x / 256 / 256 / 256 % 256)
    (digits_l 256 4 (x / 256 / 256 / 256 / 256)))

-- one more lane
pub scattered_next : (size : ℕ) (bytes : List ℕ) (m : List Bool) (index from : List ℕ) (i : ℕ) → i < length m →
    i < length index → i < length from
    → scattered size bytes (take (i + 1) m) (take (i + 1) index) (take (i + 1) from)
    ≡ (let before = scattered size bytes (take i m) (take i index) (take i from) in
    lane_put size before (get_or m i false) (get_or index i 0) (get_or from i 0))
scattered_next size bytes m index from i a b c = rw add-one (by bytes m index from i a b c)
  where
    by : (bytes : List ℕ) (m : List Bool) (index from : List ℕ) (i : ℕ) → i < length m → i < length index →
        i < length from
        → scattered size bytes (take (suc i) m) (take (suc i) index) (take (suc i) from)
        ≡ (let before = scattered size bytes (take i m) (take i index) (take i from) in
        lane_put size before (get_or m i false) (get_or index i 0) (get_or from i 0))
    by bytes [] index from i a b c = absurd (omega arith)
    by bytes (on ∷ m) [] from i a b c = absurd (omega arith)
    by bytes (on ∷ m) (at ∷ index) [] i a b c = absurd (omega arith)
    by bytes (on ∷ m) (at ∷ index) (x ∷ from) zero a b c = refl
    by bytes (on ∷ m) (at ∷ index) (x ∷ from) (suc i) a b c =
        by (lane_put size bytes on at x) m index from i (omega arith) (omega arith) (omega arith)
