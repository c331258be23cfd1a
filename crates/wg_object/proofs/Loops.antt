-- Reading items one after the other, as a loop does.
use Rattle.std.proofs.Common.{◌≡◌, ℕ, suc, ◌-◌, ◌+◌, ◌≤◌, ◌<◌, List, [], ◌∷◌, ◌++◌, length, refl, sym, ap, ◌∙◌}
use Rattle.std.proofs.Common.{append_assoc}
use Rattle.std.proofs.Common.{arith, eqb, true, false}
use Rattle.std.proofs.lemmas.Bool.{eqb-true}
use Rattle.std.proofs.lemmas.List.{append-nil}
use Rattle.wg_object.specs.Reading.{items_at}

-- what was read before, and what is still read
abbrev pub appended : {X : Type 0} → List X → List X × List ℕ → List X × List ℕ
appended front x = (front ++ x.0, x.1)

one_more : (X : Type 0) (read : List ℕ → X × List ℕ) (front : List X) (n b : ℕ) (bytes after : List ℕ) (x : X) →
    (x, after) ≡ read (b ∷ bytes) →
    appended front (items_at read (suc n) (b ∷ bytes)) ≡ appended (front ++ x ∷ []) (items_at read n after)
unfolding items_at
one_more X read front n b bytes after x e =
    let made : X × List ℕ → List X × List ℕ = λ p.
    (front ++ (p.0 ∷ (items_at read n p.1).0), (items_at read n p.1).1) in
    let one : appended front (items_at read (suc n) (b ∷ bytes)) ≡ made (x, after) = ap made (sym e) in
    one ∙ ap (λ (l : List X). (l, (items_at read n after).1)) (simp append_assoc)

pub goes_on : {X : Type 0} (read : List ℕ → X × List ℕ) (front : List X) (count i : ℕ) (bytes after : List ℕ) (x : X)
    (total : List X × List ℕ) → i < count → eqb (length bytes) 0 ≡ false → (x, after) ≡ read bytes →
    appended front (items_at read (count - i) bytes) ≡ total →
    appended (front ++ x ∷ []) (items_at read (count - (i + 1)) after) ≡ total
goes_on read front count i [] after x total lt some e so_far = absurd cc
goes_on read front count i (b ∷ bytes) after x total lt some e so_far =
    let k : count - i ≡ suc (count - (i + 1)) = omega arith in
    sym (one_more _ read front (count - (i + 1)) b bytes after x e) ∙
    sym (ap (λ (m : ℕ). appended front (items_at read m (b ∷ bytes))) k) ∙ so_far

-- the bytes have ended
pub ends : {X : Type 0} (read : List ℕ → X × List ℕ) (front : List X) (count i : ℕ) (bytes : List ℕ)
    (total : List X × List ℕ) → i < count → eqb (length bytes) 0 ≡ true →
    appended front (items_at read (count - i) bytes) ≡ total → (front, bytes) ≡ total
unfolding items_at
ends read front count i [] total lt none so_far =
    let k : count - i ≡ suc (count - (i + 1)) = omega arith in
    let one : appended front (items_at read (count - i) []) ≡ (front, []) = rw (k, append-nil front) refl in
    sym one ∙ so_far
ends read front count i (b ∷ bytes) total lt none so_far =
    absurd (omega (arith, eqb-true (length (b ∷ bytes)) 0 none))

-- all items are read
pub is_done : {X : Type 0} (read : List ℕ → X × List ℕ) (front : List X) (count i : ℕ) (bytes : List ℕ)
    (total : List X × List ℕ) → count ≤ i → appended front (items_at read (count - i) bytes) ≡ total →
    (front, bytes) ≡ total
unfolding items_at
is_done read front count i bytes total le so_far =
    let k : count - i ≡ 0 = omega arith in
    let one : appended front (items_at read (count - i) bytes) ≡ (front, bytes) = rw (k, append-nil front) refl in
    sym one ∙ so_far
