-- What each leaf gives has a helping variable of its own: its name tells the token and the component.
use Rattle.std.proofs.Common.{◌≡◌, ℕ, ℤ, nat_eq, List, [], ◌∷◌, ◌++◌, Bool, true, false, ◌&&◌, if◌then◌else◌, refl, ap}
use Rattle.std.proofs.Common.{sym, ◌∙◌, eqb-true}
use Rattle.std.proofs.lemmas.Bool.{false≢true, eq-eqb}
use Rattle.std.specs.Prelude.{codes, decimal}
use Rattle.std.specs.Str.{bytes_eq}
use Rattle.cl_short_vec_correct.specs.Doing.{Got, with_number, with_component, with_offset}

-- a number, a component, and where an element stands
pub data Slot : Type 0 where
  Whole : (token : ℕ) → Slot
  Part : (token component : ℕ) → Slot
  Start : (token : ℕ) → Slot

abbrev pub token_name : ℕ → List ℕ
token_name k = codes "." ++ decimal k

abbrev pub slot_name : Slot → List ℕ
slot_name (Whole k) = token_name k
slot_name (Part k c) = token_name k ++ (codes "." ++ decimal c)
slot_name (Start k) = token_name k

abbrev pub slot_value : Got → Slot → ℤ
slot_value got (Whole k) = got.leaves.number k
slot_value got (Part k c) = got.leaves.component k c
slot_value got (Start k) = got.offsets k

abbrev pub with_slot : Got → Slot → ℤ → Got
with_slot got (Whole k) v = with_number got k v
with_slot got (Part k c) v = with_component got k c v
with_slot got (Start k) v = with_offset got k v

-- ---- equal bytes

pub bytes_same : (q : List ℕ) → bytes_eq q q ≡ true
bytes_same [] = refl
bytes_same (b ∷ q) = ap (λ z. z && bytes_eq q q) (eq-eqb b b refl) ∙ bytes_same q

pub bytes_are : (p q : List ℕ) → bytes_eq p q ≡ true → p ≡ q
bytes_are [] [] h = refl
bytes_are [] (b ∷ q) h = absurd (false≢true h)
bytes_are (a ∷ p) [] h = absurd (false≢true h)
bytes_are (a ∷ p) (b ∷ q) h = by (nat_eq a b) refl h (bytes_are p q)
  where
    by : (z : Bool) → nat_eq a b ≡ z → (z && bytes_eq p q) ≡ true → (bytes_eq p q ≡ true → p ≡ q) → a ∷ p ≡ b ∷ q
    by true e k g = ap (λ x. x ∷ p) (eqb-true a b e) ∙ ap (λ x. b ∷ x) (g k)
    by false e k g = absurd (false≢true k)

-- ---- what a new value leaves

abbrev same_keys : ℕ → ℕ → ℕ → ℕ → Bool
same_keys j k c d = nat_eq j k && nat_eq c d

both_same : (a b : Bool) → a && b ≡ true → (a ≡ true) × (b ≡ true)
both_same true b h = (refl, h)
both_same false b h = absurd (false≢true h)

pub new_value : (got : Got) (s : Slot) (v : ℤ) → slot_value (with_slot got s v) s ≡ v
new_value got (Whole k) v = ap (λ z. if z then v else got.leaves.number k) (eq-eqb k k refl)
new_value got (Part k c) v =
    ap (λ z. if z && nat_eq c c then v else got.leaves.component k c) (eq-eqb k k refl) ∙
    ap (λ z. if z then v else got.leaves.component k c) (eq-eqb c c refl)
new_value got (Start k) v = ap (λ z. if z then v else got.offsets k) (eq-eqb k k refl)

-- two that have different names
apart_keys : (name : ℕ → List ℕ) (j k : ℕ) → bytes_eq (name k) (name j) ≡ false → nat_eq j k ≡ false
apart_keys name j k h = by (nat_eq j k) refl
  where
    by : (z : Bool) → nat_eq j k ≡ z → z ≡ false
    by true e = absurd (false≢true (sym h ∙ (ap (λ i. bytes_eq (name k) (name i)) (eqb-true j k e) ∙
        bytes_same (name k))))
    by false e = refl

apart_parts : (j k c d : ℕ) → bytes_eq (slot_name (Part k d)) (slot_name (Part j c)) ≡ false →
    same_keys j k c d ≡ false
apart_parts j k c d h = by (same_keys j k c d) refl
  where
    by : (z : Bool) → same_keys j k c d ≡ z → z ≡ false
    by true e =
        let p = both_same (nat_eq j k) (nat_eq c d) e in
        let q : slot_name (Part j c) ≡ slot_name (Part k d) =
        ap (λ i. slot_name (Part i c)) (eqb-true j k p.0) ∙ ap (λ i. slot_name (Part k i)) (eqb-true c d p.1) in
        absurd (false≢true (sym h ∙ (ap (λ i. bytes_eq (slot_name (Part k d)) i) q ∙ bytes_same
        (slot_name (Part k d)))))
    by false e = refl

pub other_value : (got : Got) (s t : Slot) (v : ℤ) → bytes_eq (slot_name s) (slot_name t) ≡ false →
    slot_value (with_slot got s v) t ≡ slot_value got t
other_value got (Whole k) (Whole j) v h =
    ap (λ z. if z then v else got.leaves.number j) (apart_keys token_name j k h)
other_value got (Whole k) (Part j c) v h = refl
other_value got (Whole k) (Start j) v h = refl
other_value got (Part k d) (Whole j) v h = refl
other_value got (Part k d) (Part j c) v h =
    ap (λ z. if z then v else got.leaves.component j c) (apart_parts j k c d h)
other_value got (Part k d) (Start j) v h = refl
other_value got (Start k) (Whole j) v h = refl
other_value got (Start k) (Part j c) v h = refl
other_value got (Start k) (Start j) v h = ap (λ z. if z then v else got.offsets j) (apart_keys token_name j k h)
