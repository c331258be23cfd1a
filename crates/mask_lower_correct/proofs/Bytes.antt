-- The bytes of an object after lanes have stored, one lane after the other.
use Rattle.std.proofs.Common.{◌≡◌, ◌≢◌, ℕ, zero, suc, ◌+◌, ◌*◌, ◌/◌, ◌%◌, ◌^◌, ◌<◌, ℤ, pos, List, [], ◌∷◌, length}
use Rattle.std.proofs.Common.{refl, sym, ap, ap₂, ◌∙◌, subst, ⊎_elim, arith, cond}
use Rattle.std.specs.Prelude.{slice_index_or, nat_eq, if◌then◌else◌}
use Rattle.std.specs.Prelude.{Bool as Test, true, false}
use Rattle.std.specs.Simd.Lanes.{put_chunk, digits_l}
use Rattle.std.proofs.lemmas.Nat.{mod-pow-add, field_of}
use Rattle.std.proofs.lemmas.Bool.{cases_eq, eqb-true}
use Rattle.work_items.specs.Memory.{Memory, bytes_of, overwritten, first_byte, stored}
use Rattle.work_items.proofs.MemoryLemmas.{bytes_of-stored, bytes_of-stored_other, length-stored}
use Rattle.wg_num.specs.declared.types.IntType.{IntType}
use Rattle.wg_num.specs.declared.types.IntType.TheVariants as types
use Rattle.wg_num.specs.Wrap.{IsValue, bits_of, value_of, wrap_of}
use Rattle.wg_num.specs.Bytes.{size_of, bytes_of as bytes_of_value}
use Rattle.lane_values.specs.Lanes.{lane}
use Rattle.lane_values.specs.Access.{put_element, lane_put, stored_lane, scattered}
use Rattle.lane_code.specs.Groups.{own_stored}
use Rattle.mask_lower_correct.proofs.LaneValues.{lane_in, lane_32, lane_64, value_lane}

pub overwritten_is : (xs : List ℕ) (p : ℕ) (bs : List ℕ) → overwritten xs p bs ≡ put_chunk p xs bs
overwritten_is [] zero bs = refl
overwritten_is [] (suc p) bs = refl
overwritten_is (x ∷ xs) (suc p) bs = ap (λ ys. x ∷ ys) (overwritten_is xs p bs)
overwritten_is (x ∷ xs) zero [] = refl
overwritten_is (x ∷ xs) zero (b ∷ bs) = ap (λ ys. b ∷ ys) (overwritten_is xs zero bs)

-- ---- the bytes of a value are those of its lane

digits_low : (n d x : ℕ) → digits_l 256 n (x % 2 ^ (d + 8 * n)) ≡ digits_l 256 n x
digits_low zero d x = refl
digits_low (suc n) d x =
    let e : d + 8 * suc n ≡ d + 8 * n + 8 = omega arith in
    let parts = mod-pow-add x (d + 8 * n) 8 in
    let head : x % 2 ^ (d + 8 * n + 8) % 256 ≡ x % 256 = omega (arith, parts) in
    let tail : x % 2 ^ (d + 8 * n + 8) / 256 ≡ x / 256 % 2 ^ (d + 8 * n) = field_of x (d + 8 * n) 8 in
    ap (λ k. digits_l 256 (suc n) (x % 2 ^ k)) e
    ∙ ap₂ (λ y ys. y ∷ ys) head (ap (digits_l 256 n) tail ∙ digits_low n d (x / 256))

narrow_low : (n d : ℕ) (v : ℤ) → 2 ^ (d + 8 * n) ≡ 2 ^ 32 → digits_l 256 n (lane 32 v) ≡ digits_l 256 n (bits_of v)
narrow_low n d v e = ap (digits_l 256 n) (lane_32 v ∙ ap (λ m. bits_of v % m) (sym e)) ∙ digits_low n d (bits_of v)

pub bytes_low : (element : IntType) (v : ℤ) → digits_l 256 (size_of element) (lane_in element v) ≡
    bytes_of_value element v
bytes_low types.Bool v = narrow_low 1 24 v refl
bytes_low types.Char v = narrow_low 1 24 v refl
bytes_low types.Uchar v = narrow_low 1 24 v refl
bytes_low types.Short v = narrow_low 2 16 v refl
bytes_low types.Ushort v = narrow_low 2 16 v refl
bytes_low types.Int v = narrow_low 4 0 v refl
bytes_low types.Uint v = narrow_low 4 0 v refl
bytes_low types.Long v = ap (digits_l 256 8) (lane_64 v)
bytes_low types.Ulong v = ap (digits_l 256 8) (lane_64 v)

lane_of_one : lane 32 (pos 1) ≡ 1
unfolding lane
lane_of_one = refl

bool_of_more : (n : ℕ) → value_of types.Bool (suc n) ≡ pos 1
unfolding value_of wrap_of
bool_of_more n = refl

not_zero : (n : ℕ) → nat_eq (suc n) 0 ≡ false
not_zero n = by_test (nat_eq (suc n) 0) refl
  where
    by_test : (b : Test) → nat_eq (suc n) 0 ≡ b → b ≡ false
    by_test true e = let none = eqb-true (suc n) 0 e in absurd (omega (arith, none))
    by_test false e = refl

-- a store of a type writes the lane of a value of the type as it is
pub stored_is : (t : IntType) (z : ℤ) → IsValue t z → stored_lane t (lane_in t z) ≡ lane_in t z
stored_is types.Bool z v = go (lane 32 z) refl
  where
    go : (x : ℕ) → lane 32 z ≡ x → stored_lane types.Bool x ≡ x
    go zero e = refl
    go (suc n) e =
        ap (λ (b : Test). if b then 0 else 1) (not_zero n)
        ∙ sym lane_of_one
        ∙ ap (lane 32) (sym (bool_of_more n) ∙ ap (value_of types.Bool) (sym e) ∙ value_lane types.Bool z v)
        ∙ e
stored_is types.Char z v = refl
stored_is types.Uchar z v = refl
stored_is types.Short z v = refl
stored_is types.Ushort z v = refl
stored_is types.Int z v = refl
stored_is types.Uint z v = refl
stored_is types.Long z v = refl
stored_is types.Ulong z v = refl

-- ---- lanes that store to one object

-- the bytes after the lanes below n
abbrev pub stored_below : ℕ → List ℕ → (ℕ → Test) → (ℕ → ℕ) → (ℕ → ℕ) → ℕ → List ℕ
stored_below size bytes on at x zero = bytes
stored_below size bytes on at x (suc n) = lane_put size (stored_below size bytes on at x n) (on n) (at n) (x n)

shift_below : (size : ℕ) (bytes : List ℕ) (on : ℕ → Test) (at x : ℕ → ℕ) (n : ℕ) →
    stored_below size (lane_put size bytes (on 0) (at 0) (x 0)) (λ l. on (suc l)) (λ l. at (suc l)) (λ l. x (suc l))
    n ≡ stored_below size bytes on at x (suc n)
shift_below size bytes on at x zero = refl
shift_below size bytes on at x (suc n) =
    ap (λ bs. lane_put size bs (on (suc n)) (at (suc n)) (x (suc n))) (shift_below size bytes on at x n)

pub scattered_is : (size : ℕ) (bytes : List ℕ) (mask : List Test) (index from : List ℕ) → length mask ≡ length index →
    length mask ≡ length from
    → scattered size bytes mask index from ≡ stored_below size bytes (λ l. slice_index_or mask l false)
    (λ l. slice_index_or index l 0) (λ l. slice_index_or from l 0) (length mask)
scattered_is size bytes [] index from a b = refl
scattered_is size bytes (on ∷ mask) [] from a b = absurd (omega arith)
scattered_is size bytes (on ∷ mask) (at ∷ index) [] a b = absurd (omega arith)
scattered_is size bytes (on ∷ mask) (at ∷ index) (x ∷ from) a b =
    scattered_is size (lane_put size bytes on at x) mask index from (omega arith) (omega arith)
    ∙ shift_below size bytes (λ l. slice_index_or (on ∷ mask) l false) (λ l. slice_index_or (at ∷ index) l 0)
    (λ l. slice_index_or (x ∷ from) l 0) (length mask)

-- functions that agree on the lanes below n store the same
pub below_same : (size : ℕ) (bytes : List ℕ) (on on' : ℕ → Test) (at at' x x' : ℕ → ℕ) (n : ℕ) →
    ((l : ℕ) → l < n → on l ≡ on' l) → ((l : ℕ) → l < n → at l ≡ at' l) → ((l : ℕ) → l < n → x l ≡ x' l) →
    stored_below size bytes on at x n ≡ stored_below size bytes on' at' x' n
below_same size bytes on on' at at' x x' zero a b c = refl
below_same size bytes on on' at at' x x' (suc n) a b c =
    ap (λ bs. lane_put size bs (on n) (at n) (x n))
    (below_same size bytes on on' at at' x x' n (λ l lt. a l (omega arith)) (λ l lt. b l (omega arith))
    (λ l lt. c l (omega arith)))
    ∙ ap (λ y. lane_put size (stored_below size bytes on' at' x' n) y (at n) (x n)) (a n (omega arith))
    ∙ ap₂ (λ y z. lane_put size (stored_below size bytes on' at' x' n) (on' n) y z) (b n (omega arith))
    (c n (omega arith))

-- ---- lanes that store, each to an object

-- the memory after the lanes below n
abbrev pub memory_below : Memory → (ℕ → Test) → (ℕ → ℕ) → (ℕ → ℤ) → (ℕ → List ℕ) → ℕ → Memory
memory_below memory on object index bytes zero = memory
memory_below memory on object index bytes (suc n) =
    cond (on n) (stored (memory_below memory on object index bytes n) (object n) (index n) (bytes n))
    (memory_below memory on object index bytes n)

module _ (memory : Memory) (on : ℕ → Test) (object : ℕ → ℕ) (index : ℕ → ℤ) (bytes : ℕ → List ℕ) where
  abbrev Below : ℕ → Memory
  Below = memory_below memory on object index bytes

  -- objects keep their lengths
  pub below_length : (n x : ℕ) → length (bytes_of (Below n) x) ≡ length (bytes_of memory x)
  below_length zero x = refl
  below_length (suc n) x = by (on n) (below_length n x)
    where
      by : (b : Test) → length (bytes_of (Below n) x) ≡ length (bytes_of memory x) →
          length (bytes_of (cond b (stored (Below n) (object n) (index n) (bytes n)) (Below n)) x) ≡
          length (bytes_of memory x)
      by true e = length-stored (Below n) (object n) x (index n) (bytes n) ∙ e
      by false e = e

  -- what no lane stores to is as it was
  pub below_other : (n x : ℕ) → ((l : ℕ) → l < n → on l ≡ true → object l ≢ x) →
      bytes_of (Below n) x ≡ bytes_of memory x
  below_other zero x apart = refl
  below_other (suc n) x apart = by (on n) refl (below_other n x (λ l lt. apart l (omega arith)))
    where
      by : (b : Test) → on n ≡ b → bytes_of (Below n) x ≡ bytes_of memory x →
          bytes_of (cond b (stored (Below n) (object n) (index n) (bytes n)) (Below n)) x ≡ bytes_of memory x
      by true e same = bytes_of-stored_other (Below n) (object n) x (index n) (bytes n) (apart n (omega arith) e) ∙ same
      by false e same = same

  -- all lanes store to one object: element by element
  pub below_shared : (size x : ℕ) (at value : ℕ → ℕ) (n : ℕ) → ((l : ℕ) → l < n → on l ≡ true → object l ≡ x)
      → ((l : ℕ) → l < n → on l ≡ true → (xs : List ℕ) →
      overwritten xs (first_byte (length (bytes l)) (index l)) (bytes l) ≡ put_element size xs (at l) (value l))
      → bytes_of (Below n) x ≡ stored_below size (bytes_of memory x) on at value n
  below_shared size x at value zero one put = refl
  below_shared size x at value (suc n) one put =
      by (on n) refl (below_shared size x at value n (λ l lt. one l (omega arith)) (λ l lt. put l (omega arith)))
    where
      by : (b : Test) → on n ≡ b → bytes_of (Below n) x ≡ stored_below size (bytes_of memory x) on at value n →
          bytes_of (cond b (stored (Below n) (object n) (index n) (bytes n)) (Below n)) x ≡
          lane_put size (stored_below size (bytes_of memory x) on at value n) b (at n) (value n)
      by true e same =
          ap (λ o. bytes_of (stored (Below n) o (index n) (bytes n)) x) (one n (omega arith) e)
          ∙ bytes_of-stored (Below n) x (index n) (bytes n)
          ∙ put n (omega arith) e (bytes_of (Below n) x) ∙ ap (λ bs. put_element size bs (at n) (value n)) same
      by false e same = same

  -- lanes that store to different objects: each has its own
  pub below_own : (n l : ℕ) → l < n → ((i : ℕ) → i < n → i ≢ l → object i ≢ object l) →
      bytes_of (Below n) (object l) ≡
      cond (on l) (overwritten (bytes_of memory (object l)) (first_byte (length (bytes l)) (index l)) (bytes l))
      (bytes_of memory (object l))
  below_own zero l lt apart = absurd (omega arith)
  below_own (suc n) l lt apart = ⊎_elim (λ same. here same)
      (λ ne. there ne (below_own n l (omega arith) (λ i lt. apart i (omega arith)))) (cases_eq l n)
    where
      here : l ≡ n → bytes_of (Below (suc n)) (object l) ≡
          cond (on l) (overwritten (bytes_of memory (object l)) (first_byte (length (bytes l)) (index l)) (bytes l))
          (bytes_of memory (object l))
      here same = subst (λ k. bytes_of (Below (suc k)) (object l) ≡
          cond (on l) (overwritten (bytes_of memory (object l)) (first_byte (length (bytes l)) (index l)) (bytes l))
          (bytes_of memory (object l))) same (by (on l) refl)
        where
          before : bytes_of (Below l) (object l) ≡ bytes_of memory (object l)
          before = below_other l (object l) (λ i lt on_i. apart i (omega arith) (λ e. omega (arith, e)))

          by : (b : Test) → on l ≡ b → bytes_of (cond b (stored (Below l) (object l) (index l) (bytes l)) (Below l))
              (object l) ≡ cond b (overwritten (bytes_of memory (object l)) (first_byte (length (bytes l)) (index l))
              (bytes l)) (bytes_of memory (object l))
          by true e = bytes_of-stored (Below l) (object l) (index l) (bytes l) ∙
              ap (λ bs. overwritten bs (first_byte (length (bytes l)) (index l)) (bytes l)) before
          by false e = before

      there : (l ≡ n → ⊥) → bytes_of (Below n) (object l) ≡
          cond (on l) (overwritten (bytes_of memory (object l)) (first_byte (length (bytes l)) (index l)) (bytes l))
          (bytes_of memory (object l))
          → bytes_of (Below (suc n)) (object l) ≡
          cond (on l) (overwritten (bytes_of memory (object l)) (first_byte (length (bytes l)) (index l))
          (bytes l)) (bytes_of memory (object l))
      there ne same = by (on n) refl
        where
          by : (b : Test) → on n ≡ b → bytes_of (cond b (stored (Below n) (object n) (index n) (bytes n)) (Below n))
              (object l) ≡ cond (on l) (overwritten (bytes_of memory (object l))
              (first_byte (length (bytes l)) (index l)) (bytes l)) (bytes_of memory (object l))
          by true e = bytes_of-stored_other (Below n) (object n) (object l) (index n) (bytes n)
              (apart n (omega arith) (λ h. ne (sym h))) ∙ same
          by false e = same

-- ---- objects of the lanes' own

pub own_stored_read : (size : ℕ) (mask : List Test) (index from : List ℕ) (objects : List (List ℕ)) (l : ℕ) →
    length mask ≡ length index → length mask ≡ length from → length mask ≡ length objects → l < length mask
    → slice_index_or (own_stored size mask index from objects) l [] ≡ cond (slice_index_or mask l false)
    (put_element size (slice_index_or objects l []) (slice_index_or index l 0) (slice_index_or from l 0))
    (slice_index_or objects l [])
own_stored_read size [] index from objects l a b c lt = absurd (omega arith)
own_stored_read size (on ∷ mask) [] from objects l a b c lt = absurd (omega arith)
own_stored_read size (on ∷ mask) (i ∷ index) [] objects l a b c lt = absurd (omega arith)
own_stored_read size (on ∷ mask) (i ∷ index) (x ∷ from) [] l a b c lt = absurd (omega arith)
own_stored_read size (on ∷ mask) (i ∷ index) (x ∷ from) (bytes ∷ objects) zero a b c lt = refl
own_stored_read size (on ∷ mask) (i ∷ index) (x ∷ from) (bytes ∷ objects) (suc l) a b c lt =
    own_stored_read size mask index from objects l (omega arith) (omega arith) (omega arith) (omega arith)

pub own_stored_length : (size : ℕ) (mask : List Test) (index from : List ℕ) (objects : List (List ℕ)) →
    length mask ≡ length objects → length (own_stored size mask index from objects) ≡ length objects
own_stored_length size [] index from objects c = refl
own_stored_length size (on ∷ mask) [] from objects c = refl
own_stored_length size (on ∷ mask) (i ∷ index) [] objects c = refl
own_stored_length size (on ∷ mask) (i ∷ index) (x ∷ from) [] c = absurd (omega arith)
own_stored_length size (on ∷ mask) (i ∷ index) (x ∷ from) (bytes ∷ objects) c =
    ap suc (own_stored_length size mask index from objects (omega arith))
