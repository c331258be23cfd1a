-- Accesses with no common byte don't disturb one another.
use Rattle.std.proofs.Common.{◌≡◌, ◌≢◌, ◌⊎◌, ℕ, zero, suc, ◌+◌, ◌*◌, ◌<◌, ◌≤◌, ℤ, pos, negsuc, true, List, [], ◌∷◌}
use Rattle.std.proofs.Common.{length, take, drop, unwrap_or, slice_get, slice_set, Option, Some, None, refl, sym, ap}
use Rattle.std.proofs.Common.{◌∙◌, subst, inl, inr, arith, max}
use Rattle.std.proofs.Math.Seq.{set_comm, set-set}
use Rattle.std.proofs.lemmas.Bool.{cases_eq, cases_lt, false≢true, leb-true}
use Rattle.work_items.specs.Memory.{Memory, Access, bytes_of, first_byte, has_element, is_in_range, loaded}
use Rattle.work_items.specs.Memory.{overwritten, stored, Covers, Overlap}
use Rattle.work_items.proofs.Lists.{get-set_other}

-- what is written stands there, whole
part_written : (xs : List ℕ) (a : ℕ) (bs : List ℕ) → a + length bs ≤ length xs →
    take (length bs) (drop a (overwritten xs a bs)) ≡ bs
part_written xs a [] h = refl
part_written [] a (b ∷ bs) h = absurd (omega arith)
part_written (x ∷ xs) (suc a) (b ∷ bs) h = part_written xs a (b ∷ bs) (omega arith)
part_written (x ∷ xs) zero (b ∷ bs) h = ap (λ (ys : List ℕ). b ∷ ys) (part_written xs zero bs (omega arith))

-- a write keeps the length
pub length-overwritten : (xs : List ℕ) (a : ℕ) (bs : List ℕ) → length (overwritten xs a bs) ≡ length xs
length-overwritten [] a bs = refl
length-overwritten (x ∷ xs) (suc a) bs = ap suc (length-overwritten xs a bs)
length-overwritten (x ∷ xs) zero [] = refl
length-overwritten (x ∷ xs) zero (b ∷ bs) = ap suc (length-overwritten xs zero bs)

overwritten-nil : (xs : List ℕ) (a : ℕ) → overwritten xs a [] ≡ xs
overwritten-nil [] a = refl
overwritten-nil (x ∷ xs) (suc a) = ap (λ (ys : List ℕ). x ∷ ys) (overwritten-nil xs a)
overwritten-nil (x ∷ xs) zero = refl

-- two writes, the first of which ends before the second begins
overwritten_apart : (xs : List ℕ) (a : ℕ) (cs : List ℕ) (b : ℕ) (bs : List ℕ) → a + length cs ≤ b →
    overwritten (overwritten xs a cs) b bs ≡ overwritten (overwritten xs b bs) a cs
overwritten_apart [] a cs b bs h = refl
overwritten_apart (x ∷ xs) (suc a) cs (suc b) bs h =
    ap (λ (ys : List ℕ). x ∷ ys) (overwritten_apart xs a cs b bs (omega arith))
overwritten_apart (x ∷ xs) (suc a) cs zero bs h = absurd (omega arith)
overwritten_apart (x ∷ xs) zero [] b bs h = sym (nil_at (overwritten (x ∷ xs) b bs))
  where
    nil_at : (ys : List ℕ) → overwritten ys zero [] ≡ ys
    nil_at ys = overwritten-nil ys zero
overwritten_apart (x ∷ xs) zero (y ∷ cs) zero bs h = absurd (omega arith)
overwritten_apart (x ∷ xs) zero (y ∷ cs) (suc b) bs h =
    ap (λ (ys : List ℕ). y ∷ ys) (overwritten_apart xs zero cs b bs (omega arith))

-- a part that ends before a write
part_before : (xs : List ℕ) (a n b : ℕ) (bs : List ℕ) → a + n ≤ b →
    take n (drop a (overwritten xs b bs)) ≡ take n (drop a xs)
part_before [] a n b bs h = refl
part_before (x ∷ xs) (suc a) n (suc b) bs h = part_before xs a n b bs (omega arith)
part_before (x ∷ xs) (suc a) n zero bs h = absurd (omega arith)
part_before (x ∷ xs) zero zero b bs h = refl
part_before (x ∷ xs) zero (suc n) zero bs h = absurd (omega arith)
part_before (x ∷ xs) zero (suc n) (suc b) bs h = ap (λ (ys : List ℕ). x ∷ ys) (part_before xs zero n b bs (omega arith))

-- a part that begins after a write
part_after : (xs : List ℕ) (a n b : ℕ) (bs : List ℕ) → b + length bs ≤ a →
    take n (drop a (overwritten xs b bs)) ≡ take n (drop a xs)
part_after [] a n b bs h = refl
part_after (x ∷ xs) a n zero [] h = refl
part_after (x ∷ xs) zero n zero (y ∷ bs) h = absurd (omega arith)
part_after (x ∷ xs) (suc a) n zero (y ∷ bs) h = part_after xs a n zero bs (omega arith)
part_after (x ∷ xs) zero n (suc b) bs h = absurd (omega arith)
part_after (x ∷ xs) (suc a) n (suc b) bs h = part_after xs a n b bs (omega arith)

-- of two ranges of bytes one is empty, or one ends before the other begins
abbrev pub Apart : ℕ → ℕ → ℕ → ℕ → Type 0
Apart a n b m = ((n ≡ 0) ⊎ (m ≡ 0)) ⊎ ((a + n ≤ b) ⊎ (b + m ≤ a))

apart_from : (a n b m : ℕ) → ((byte : ℕ) → a ≤ byte → byte < a + n → b ≤ byte → byte < b + m → ⊥) → Apart a n b m
apart_from a zero b m h = inl (inl refl)
apart_from a (suc n) b zero h = inl (inr refl)
apart_from a (suc n) b (suc m) h =
    elim (cases_lt b (a + suc n)) [
      | inr e ↦ inr (inl e)
      | inl e ↦ elim (cases_lt a (b + suc m)) [
        | inr f ↦ inr (inr f)
        | inl f ↦ absurd (h (max a b) (omega arith) (omega arith) (omega arith) (omega arith))
      ]
    ]

-- elements with no common byte are apart
pub elements_apart : (len len' n m : ℕ) (i j : ℤ) → has_element len n i ≡ true → has_element len' m j ≡ true →
    ((byte : ℕ) → Covers n i byte → Covers m j byte → ⊥) → Apart (first_byte n i) n (first_byte m j) m
elements_apart len len' n m (pos i) (pos j) e f h =
    apart_from (i * n) n (j * m) m (λ byte p q r s. h byte (p, omega arith) (r, omega arith))
elements_apart len len' n m (pos i) (negsuc j) e f h = absurd (false≢true f)
elements_apart len len' n m (negsuc i) j e f h = absurd (false≢true e)

nil_of_length : (bs : List ℕ) → length bs ≡ 0 → bs ≡ []
nil_of_length [] e = refl
nil_of_length (b ∷ bs) e = absurd (omega arith)

writes_apart : (xs : List ℕ) (a : ℕ) (cs : List ℕ) (b : ℕ) (bs : List ℕ) → Apart a (length cs) b (length bs) →
    overwritten (overwritten xs a cs) b bs ≡ overwritten (overwritten xs b bs) a cs
writes_apart xs a cs b bs (inl (inl e)) =
    let nil = nil_of_length cs e in
    rw nil (rw overwritten-nil (sym (overwritten-nil (overwritten xs b bs) a)))
writes_apart xs a cs b bs (inl (inr e)) =
    let nil = nil_of_length bs e in
    rw nil (overwritten-nil (overwritten xs a cs) b ∙ ap (λ ys. overwritten ys a cs) (sym (overwritten-nil xs b)))
writes_apart xs a cs b bs (inr (inl e)) = overwritten_apart xs a cs b bs e
writes_apart xs a cs b bs (inr (inr e)) = sym (overwritten_apart xs b bs a cs e)

part_kept : (xs : List ℕ) (a n b : ℕ) (bs : List ℕ) → Apart a n b (length bs) →
    take n (drop a (overwritten xs b bs)) ≡ take n (drop a xs)
part_kept xs a n b bs (inl (inl e)) = rw e refl
part_kept xs a n b bs (inl (inr e)) = let nil =
    nil_of_length bs e in rw nil (ap (λ ys. take n (drop a ys)) (overwritten-nil xs b))
part_kept xs a n b bs (inr (inl e)) = part_before xs a n b bs e
part_kept xs a n b bs (inr (inr e)) = part_after xs a n b bs e

set_bytes : (m : Memory) (o : ℕ) (ys : List ℕ) → (slice_get m o ≡ None → ys ≡ []) → bytes_of (slice_set m o ys) o ≡ ys
set_bytes [] o ys h = sym (h refl)
set_bytes (x ∷ m) zero ys h = refl
set_bytes (x ∷ m) (suc o) ys h = set_bytes m o ys h

no_bytes : (o : Option (List ℕ)) (a : ℕ) (bs : List ℕ) → o ≡ None → overwritten (unwrap_or o []) a bs ≡ []
no_bytes None a bs e = refl
no_bytes (Some xs) a bs e = cc

-- the bytes of the object after a store into it
pub bytes_of-stored : (m : Memory) (o : ℕ) (i : ℤ) (bs : List ℕ) →
    bytes_of (stored m o i bs) o ≡ overwritten (bytes_of m o) (first_byte (length bs) i) bs
bytes_of-stored m o i bs = set_bytes m o _ (no_bytes (slice_get m o) (first_byte (length bs) i) bs)

-- the same of another object
pub bytes_of-stored_other : (m : Memory) (o o' : ℕ) (i : ℤ) (bs : List ℕ) → o ≢ o' →
    bytes_of (stored m o i bs) o' ≡ bytes_of m o'
bytes_of-stored_other m o o' i bs ne = ap (λ (r : Option (List ℕ)). unwrap_or r []) (get-set_other m o o' _ ne)

-- a store keeps the length of each object
pub length-stored : (m : Memory) (o o' : ℕ) (i : ℤ) (bs : List ℕ) →
    length (bytes_of (stored m o i bs) o') ≡ length (bytes_of m o')
length-stored m o o' i bs =
    elim (cases_eq o o') [
      | inl e ↦ subst (λ k. length (bytes_of (stored m o i bs) k) ≡ length (bytes_of m k)) e
          (ap length (bytes_of-stored m o i bs) ∙ length-overwritten (bytes_of m o) (first_byte (length bs) i) bs)
      | inr ne ↦ ap length (bytes_of-stored_other m o o' i bs ne)
    ]

-- so it keeps what is in range
pub is_in_range-stored : (m : Memory) (o : ℕ) (i : ℤ) (bs : List ℕ) (access : Access) →
    is_in_range (stored m o i bs) access ≡ is_in_range m access
is_in_range-stored m o i bs access =
    ap (λ len. has_element len access.size access.index) (length-stored m o access.object i bs)

-- a store that has no byte in common with a load leaves it alone
pub loaded-stored : (m : Memory) (access : Access) (o : ℕ) (i : ℤ) (bs : List ℕ) → is_in_range m access ≡ true →
    is_in_range m (record { object = o; size = length bs; index = i }) ≡ true →
    (Overlap access (record { object = o; size = length bs; index = i }) → ⊥) →
    loaded (stored m o i bs) access ≡ loaded m access
loaded-stored m access o i bs e f h =
    elim (cases_eq o access.object) [
      | inl same ↦
          let split =
          elements_apart _ _ access.size (length bs) access.index i e f (λ byte p q. h (sym same, (byte, p, q))) in
          let kept = ap (λ xs. take access.size (drop (first_byte access.size access.index) xs))
          (bytes_of-stored m o i bs) ∙ part_kept (bytes_of m o) (first_byte access.size access.index) access.size
          (first_byte (length bs) i) bs split in
          subst (λ k. take access.size (drop (first_byte access.size access.index) (bytes_of (stored m o i bs) k)) ≡
          take access.size (drop (first_byte access.size access.index) (bytes_of m k))) same kept
      | inr ne ↦ ap (λ xs. take access.size (drop (first_byte access.size access.index) xs))
          (bytes_of-stored_other m o access.object i bs ne)
    ]

element_fits : (len size : ℕ) (i : ℤ) → has_element len size i ≡ true → first_byte size i + size ≤ len
element_fits len size (pos i) e = let le : (i + 1) * size ≤ len = leb-true ((i + 1) * size) len e in omega (arith, le)
element_fits len size (negsuc i) e = cc e

-- a load of the element that a store has written gives the bytes that were stored, all of them
pub loaded-stored_same : (m : Memory) (o : ℕ) (i : ℤ) (bs : List ℕ) →
    is_in_range m (record { object = o; size = length bs; index = i }) ≡ true →
    loaded (stored m o i bs) (record { object = o; size = length bs; index = i }) ≡ bs
loaded-stored_same m o i bs e =
    ap (λ xs. take (length bs) (drop (first_byte (length bs) i) xs)) (bytes_of-stored m o i bs)
    ∙ part_written (bytes_of m o) (first_byte (length bs) i) bs (element_fits _ (length bs) i e)

stored_again : (m : Memory) (o : ℕ) (i j : ℤ) (cs bs : List ℕ) →
    stored (stored m o i cs) o j bs ≡
    slice_set m o (overwritten (overwritten (bytes_of m o) (first_byte (length cs) i) cs) (first_byte (length bs) j) bs)
stored_again m o i j cs bs =
    ap (λ xs. slice_set (stored m o i cs) o (overwritten xs (first_byte (length bs) j) bs)) (bytes_of-stored m o i cs)
    ∙ set-set m o _ _

-- two stores with no byte in common
pub stored-stored : (m : Memory) (o o' : ℕ) (i j : ℤ) (cs bs : List ℕ) →
    is_in_range m (record { object = o; size = length cs; index = i }) ≡ true →
    is_in_range m (record { object = o'; size = length bs; index = j }) ≡ true
    → (Overlap (record { object = o; size = length cs; index = i }) (record {
      object = o';
      size = length bs;
      index = j;
    }) → ⊥)
    → stored (stored m o i cs) o' j bs ≡ stored (stored m o' j bs) o i cs
stored-stored m o o' i j cs bs e f h =
    elim (cases_eq o o') [
      | inl same ↦
          let split = elements_apart _ _ (length cs) (length bs) i j e f (λ byte p q. h (same, (byte, p, q))) in
          let together = stored_again m o i j cs bs ∙
          ap (λ xs. slice_set m o xs) (writes_apart (bytes_of m o) (first_byte (length cs) i) cs
          (first_byte (length bs) j) bs split) ∙ sym (stored_again m o j i bs cs) in
          subst (λ k. stored (stored m o i cs) k j bs ≡ stored (stored m k j bs) o i cs) same together
      | inr ne ↦
          ap (λ xs. slice_set (stored m o i cs) o' (overwritten xs (first_byte (length bs) j) bs))
          (bytes_of-stored_other m o o' i cs ne)
          ∙ set_comm m o o' _ _ ne
          ∙ sym (ap (λ xs. slice_set (stored m o' j bs) o (overwritten xs (first_byte (length cs) i) cs))
          (bytes_of-stored_other m o' o j bs (λ s. ne (sym s))))
    ]
