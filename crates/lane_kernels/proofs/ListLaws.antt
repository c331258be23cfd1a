-- Laws of vectors as lists of lanes.
use Rattle.std.proofs.Common.{◌≡◌, ℕ, zero, suc, ◌+◌, ◌-◌, ◌/◌, ◌%◌, ◌^◌, ◌<◌, ◌≤◌, refl, sym, ap, ap₂, ◌∙◌, arith}
use Rattle.std.proofs.Common.{Bool, true, false, cond, List, [], ◌∷◌, length, replicate, map, subst, ltb, eqb}
use Rattle.std.proofs.Common.{eqb-true, eq-eqb, Fits, ◌*◌, mod-eq_of_lt}
use Rattle.std.proofs.Common.{true≢false, pos_of_ne-zero, ltb-true, ltb-false, mod-lt, take, set, get_or, ◌++◌, not}
use Rattle.std.proofs.lemmas.Grind.{take-set_at, take_at_read}
use Rattle.std.proofs.lemmas.List.{take_all, get_or_past, length-map}
use Rattle.std.proofs.lemmas.Bool.Decides.{nat_tests}
use Rattle.lane_kernels.specs.Vectors.{lesser_lane, greater_lane, signed_by, divisor_of, quotient_lane, rest_lane}
use Rattle.lane_kernels.specs.Vectors.{moved_lane}
use Rattle.std.specs.Simd.Lanes.{zip2, Each1, sel_l, top, mask_l}
use Rattle.std.proofs.lemmas.Simd.{mask_l-mod, zip2_splat, length-replicate}
use Rattle.std.specs.Int.{from_bool, Width}
use Rattle.std.specs.List.{list_all}
use Rattle.lane_values.specs.Lanes.{zip3}

abbrev pub add_in : ℕ → ℕ → ℕ → ℕ
add_in W x y = (x + y) % 2 ^ W

abbrev pub sub_in : ℕ → ℕ → ℕ → ℕ
sub_in W x y = (x + (2 ^ W - y)) % 2 ^ W

abbrev pub all_if : ℕ → (ℕ → ℕ → Bool) → ℕ → ℕ → ℕ
all_if ones t u v = cond (t u v) ones 0

module _ (W high ones : ℕ) (on : top high ones ≡ true) (off : top high 0 ≡ false) where
  -- two vectors, by facts of their lanes
  pub lanes_same : {V : Type 0} (P Q : ℕ → Type 0) (h : ℕ → V) (f : ℕ → ℕ → ℕ) (g : ℕ → ℕ → V) →
      ((p q : ℕ) → P p → Q q → h (f p q) ≡ g p q)
      → (a b : List ℕ) → Each1 P a → Each1 Q b → map h (zip2 f a b) ≡ zip2 g a b
  lanes_same P Q h f g e [] b u v = refl
  lanes_same P Q h f g e (p ∷ a) [] u v = refl
  lanes_same P Q h f g e (p ∷ a) (q ∷ b) u v = ap₂ (λ x xs. x ∷ xs) (e p q u.0 v.0) (lanes_same P Q h f g e a b u.1 v.1)

  pub map-zip2 : {T U V W : Type 0} (h : V → W) (f : T → U → V) (a : List T) (b : List U) →
      map h (zip2 f a b) ≡ zip2 (λ x y. h (f x y)) a b
  map-zip2 h f [] b = refl
  map-zip2 h f (x ∷ a) [] = refl
  map-zip2 h f (x ∷ a) (y ∷ b) = ap (λ xs. h (f x y) ∷ xs) (map-zip2 h f a b)

  pub map-map : {U V W : Type 0} (h : V → W) (f : U → V) (a : List U) → map h (map f a) ≡ map (λ x. h (f x)) a
  map-map h f [] = refl
  map-map h f (x ∷ a) = ap (λ xs. h (f x) ∷ xs) (map-map h f a)

  pub any_lane : {A : Type 0} (xs : List A) → Each1 (λ _. Unit {0}) xs
  any_lane [] = tt
  any_lane (x ∷ xs) = (tt, any_lane xs)

  -- what `select` reads of a comparison
  pub picked : (b : Bool) (x y : ℕ) → cond (top high (cond b ones 0)) x y ≡ cond b x y
  picked true x y = ap (λ t. cond t x y) on
  picked false x y = ap (λ t. cond t x y) off

  -- a comparison with a splat chooses between two splats
  pub chosen_by : (t : ℕ → ℕ → Bool) (k x y n : ℕ) (a : List ℕ) → length a ≡ n
      → sel_l (map (top high) (zip2 (λ u v. cond (t u v) ones 0) a (replicate n k))) (replicate n x) (replicate n y) ≡
      map (λ u. cond (t u k) x y) a
  chosen_by t k x y zero [] e = refl
  chosen_by t k x y zero (p ∷ a) e = absurd (omega arith)
  chosen_by t k x y (suc n) [] e = absurd (omega arith)
  chosen_by t k x y (suc n) (p ∷ a) e = ap₂ (λ v vs. v ∷ vs) (picked (t p k) x y) (chosen_by t k x y n a (omega arith))

  -- a comparison of two vectors, each raised by k, as 1 or 0
  pub compared : (t : ℕ → ℕ → Bool) (add : ℕ → ℕ → ℕ) (k n : ℕ) (a b : List ℕ) → length a ≡ n → length b ≡ n
      → sel_l (map (top high) (zip2 (λ u v. cond (t u v) ones 0) (zip2 add a (replicate n k))
      (zip2 add b (replicate n k)))) (replicate n 1) (replicate n 0)
      ≡ zip2 (λ u v. from_bool (t (add u k) (add v k))) a b
  compared t add k zero [] b e h = refl
  compared t add k zero (p ∷ a) b e h = absurd (omega arith)
  compared t add k (suc n) [] b e h = absurd (omega arith)
  compared t add k (suc n) (p ∷ a) [] e h = absurd (omega arith)
  compared t add k (suc n) (p ∷ a) (q ∷ b) e h =
      ap₂ (λ v vs. v ∷ vs) (one (t (add p k) (add q k))) (compared t add k n a b (omega arith) (omega arith))
    where
      one : (b : Bool) → cond (top high (cond b ones 0)) 1 0 ≡ from_bool b
      one true = ap (λ t. cond t 1 0) on
      one false = ap (λ t. cond t 1 0) off

  -- a comparison of two vectors as they are
  pub told : (t : ℕ → ℕ → Bool) (n : ℕ) (a b : List ℕ) → length a ≡ n → length b ≡ n
      → sel_l (map (top high) (zip2 (λ u v. cond (t u v) ones 0) a b)) (replicate n 1) (replicate n 0)
      ≡ zip2 (λ u v. from_bool (t u v)) a b
  told t zero [] b e h = refl
  told t zero (p ∷ a) b e h = absurd (omega arith)
  told t (suc n) [] b e h = absurd (omega arith)
  told t (suc n) (p ∷ a) [] e h = absurd (omega arith)
  told t (suc n) (p ∷ a) (q ∷ b) e h = ap₂ (λ v vs. v ∷ vs) (one (t p q)) (told t n a b (omega arith) (omega arith))
    where
      one : (b : Bool) → cond (top high (cond b ones 0)) 1 0 ≡ from_bool b
      one true = ap (λ t. cond t 1 0) on
      one false = ap (λ t. cond t 1 0) off

  -- which lanes are not 0, as 1 or 0
  pub ones_of : (n : ℕ) (a : List ℕ) → length a ≡ n
      → sel_l (map (top high) (zip2 (λ u v. cond (not (eqb u v)) ones 0) a (replicate n 0))) (replicate n 1)
      (replicate n 0) ≡ map (λ x. from_bool (not (eqb x 0))) a
  ones_of n a e = told (λ u v. not (eqb u v)) n a (replicate n 0) e (length-replicate n 0) ∙
      zip2_splat (λ u v. from_bool (not (eqb u v))) a n 0 e

  -- three operations in a row, each with a splat
  pub three_splats : (f g h : ℕ → ℕ → ℕ) (x y z n : ℕ) (a : List ℕ) → length a ≡ n
      → zip2 h (zip2 g (zip2 f a (replicate n x)) (replicate n y)) (replicate n z) ≡ map (λ u. h (g (f u x) y) z) a
  three_splats f g h x y z zero [] e = refl
  three_splats f g h x y z zero (p ∷ a) e = absurd (omega arith)
  three_splats f g h x y z (suc n) [] e = absurd (omega arith)
  three_splats f g h x y z (suc n) (p ∷ a) e =
      ap (λ vs. h (g (f p x) y) z ∷ vs) (three_splats f g h x y z n a (omega arith))

  pub map_same : {U V : Type 0} (f g : U → V) → ((x : U) → f x ≡ g x) → (a : List U) → map f a ≡ map g a
  map_same f g e [] = refl
  map_same f g e (x ∷ a) = ap₂ (λ v vs. v ∷ vs) (e x) (map_same f g e a)

  pub zip2_self : {U V : Type 0} (f : U → U → V) (a : List U) → zip2 f a a ≡ map (λ x. f x x) a
  zip2_self f [] = refl
  zip2_self f (x ∷ a) = ap (λ vs. f x x ∷ vs) (zip2_self f a)

  pub zip2-map_right : {U V W X : Type 0} (f : U → V → W) (k : X → V) (a : List U) (b : List X) →
      zip2 f a (map k b) ≡ zip2 (λ x y. f x (k y)) a b
  zip2-map_right f k [] b = refl
  zip2-map_right f k (x ∷ a) [] = refl
  zip2-map_right f k (x ∷ a) (y ∷ b) = ap (λ vs. f x (k y) ∷ vs) (zip2-map_right f k a b)

  -- ---- signs and divisions

  pub signed_lanes : (bias n : ℕ) (s a : List ℕ) → length s ≡ n → length a ≡ n
      → sel_l (map (top high) (zip2 (all_if ones ltb) (zip2 (add_in W) s (replicate n bias)) (replicate n bias)))
      (zip2 (sub_in W) (replicate n 0) a) a ≡ zip2 (signed_by W bias) s a
  signed_lanes bias zero [] a e h = refl
  signed_lanes bias zero (p ∷ s) a e h = absurd (omega arith)
  signed_lanes bias (suc n) [] a e h = absurd (omega arith)
  signed_lanes bias (suc n) (p ∷ s) [] e h = absurd (omega arith)
  signed_lanes bias (suc n) (p ∷ s) (x ∷ a) e h =
      ap₂ (λ v vs. v ∷ vs) (picked (ltb ((add_in W) p bias) bias) ((sub_in W) 0 x) x)
      (signed_lanes bias n s a (omega arith) (omega arith))

  pub one_for_zero : (n : ℕ) (m : List ℕ) → length m ≡ n
      → sel_l (map (top high) (zip2 (all_if ones eqb) m (replicate n 0))) (replicate n 1) m ≡
      map (λ x. cond (eqb x 0) 1 x) m
  one_for_zero zero [] e = refl
  one_for_zero zero (x ∷ m) e = absurd (omega arith)
  one_for_zero (suc n) [] e = absurd (omega arith)
  one_for_zero (suc n) (x ∷ m) e = ap₂ (λ v vs. v ∷ vs) (picked (eqb x 0) 1 x) (one_for_zero n m (omega arith))

  pub divisor_lanes : (bias : ℕ) (b m : List ℕ) → m ≡ zip2 (signed_by W bias) b b →
      map (λ x. cond (eqb x 0) 1 x) m ≡ map (divisor_of W bias) b
  divisor_lanes bias b m e = ap (map (λ x. cond (eqb x 0) 1 x)) (e ∙ zip2_self (signed_by W bias) b) ∙
      map-map (λ x. cond (eqb x 0) 1 x) (λ q. signed_by W bias q q) b

  pub quotient_lanes : (bias n : ℕ) (a b : List ℕ) → length a ≡ n → length b ≡ n
      → sel_l (map (top high) (zip2 (all_if ones eqb) b (replicate n 0))) (replicate n 0)
      (zip2 (signed_by W bias) b (zip2 (signed_by W bias) a (zip2 (λ x y. x / y) (zip2 (signed_by W bias) a a)
      (map (divisor_of W bias) b))))
      ≡ zip2 (quotient_lane W bias) a b
  quotient_lanes bias zero [] [] e h = refl
  quotient_lanes bias zero [] (q ∷ b) e h = absurd (omega arith)
  quotient_lanes bias zero (p ∷ a) b e h = absurd (omega arith)
  quotient_lanes bias (suc n) [] b e h = absurd (omega arith)
  quotient_lanes bias (suc n) (p ∷ a) [] e h = absurd (omega arith)
  quotient_lanes bias (suc n) (p ∷ a) (q ∷ b) e h =
      ap₂ (λ v vs. v ∷ vs) (picked (eqb q 0) 0
      (signed_by W bias q (signed_by W bias p (signed_by W bias p p / divisor_of W bias q))))
      (quotient_lanes bias n a b (omega arith) (omega arith))

  pub rest_lanes : (bias n : ℕ) (a b : List ℕ) → length a ≡ n → length b ≡ n
      → sel_l (map (top high) (zip2 (all_if ones eqb) b (replicate n 0))) a
      (zip2 (signed_by W bias) a (zip2 (λ x y. x % y) (zip2 (signed_by W bias) a a) (map (divisor_of W bias) b)))
      ≡ zip2 (rest_lane W bias) a b
  rest_lanes bias zero [] [] e h = refl
  rest_lanes bias zero [] (q ∷ b) e h = absurd (omega arith)
  rest_lanes bias zero (p ∷ a) b e h = absurd (omega arith)
  rest_lanes bias (suc n) [] b e h = absurd (omega arith)
  rest_lanes bias (suc n) (p ∷ a) [] e h = absurd (omega arith)
  rest_lanes bias (suc n) (p ∷ a) (q ∷ b) e h =
      ap₂ (λ v vs. v ∷ vs) (picked (eqb q 0) p (signed_by W bias p (signed_by W bias p p % divisor_of W bias q)))
      (rest_lanes bias n a b (omega arith) (omega arith))

  pub some_divisor : (bias q : ℕ) → 0 < divisor_of W bias q
  some_divisor bias q = by (eqb (signed_by W bias q q) 0) refl
    where
      by : (t : Bool) → eqb (signed_by W bias q q) 0 ≡ t → 0 < divisor_of W bias q
      by true e = subst (λ t. 0 < cond t 1 (signed_by W bias q q)) (sym e) (omega arith)
      by false e =
          subst (λ t. 0 < cond t 1 (signed_by W bias q q)) (sym e) (pos_of_ne-zero (ne_from (signed_by W bias q q) e))
        where
          ne_from : (x : ℕ) → eqb x 0 ≡ false → ¬ (x ≡ 0)
          ne_from x h z = true≢false (sym (eq-eqb x 0 z) ∙ h)

  pub some_divisors : (bias : ℕ) (b : List ℕ) → Each1 (λ y. 0 < y) (map (divisor_of W bias) b)
  some_divisors bias [] = tt
  some_divisors bias (q ∷ b) = (some_divisor bias q, some_divisors bias b)

  -- ---- shifts

  pub amount_lanes : (w : ℕ) (b : List ℕ) → 0 < w → w ≤ W → Each1 (λ k. k < W) (map (λ q. q % w) b)
  amount_lanes w [] h l = tt
  amount_lanes w (q ∷ b) h l = (omega (arith, mod-lt q h), amount_lanes w b h l)

  -- a shift of raised lanes
  pub moved_lanes : (bias n : ℕ) (a ks : List ℕ) → length a ≡ n → length ks ≡ n
      → zip2 (sub_in W) (zip2 (λ x k. x / 2 ^ k) (zip2 (add_in W) a (replicate n bias)) ks)
      (zip2 (λ x k. x / 2 ^ k) (replicate n bias) ks) ≡ zip2 (moved_lane W bias) a ks
  moved_lanes bias zero [] ks e h = refl
  moved_lanes bias zero (p ∷ a) ks e h = absurd (omega arith)
  moved_lanes bias (suc n) [] ks e h = absurd (omega arith)
  moved_lanes bias (suc n) (p ∷ a) [] e h = absurd (omega arith)
  moved_lanes bias (suc n) (p ∷ a) (k ∷ ks) e h =
      ap (λ vs. moved_lane W bias p k ∷ vs) (moved_lanes bias n a ks (omega arith) (omega arith))

  -- a shift of lanes that are first raised by m where they stand for negative numbers
  pub raised_lanes : (bias m k n : ℕ) (a : List ℕ) → length a ≡ n
      → zip2 (moved_lane W bias) (zip2 (add_in W) a (sel_l (map (top high) (zip2 (all_if ones ltb)
      (zip2 (add_in W) a (replicate n bias)) (replicate n bias))) (replicate n m) (replicate n 0))) (replicate n k)
      ≡ map (λ p. moved_lane W bias (add_in W p (cond (ltb (add_in W p bias) bias) m 0)) k) a
  raised_lanes bias m k zero [] e = refl
  raised_lanes bias m k zero (p ∷ a) e = absurd (omega arith)
  raised_lanes bias m k (suc n) [] e = absurd (omega arith)
  raised_lanes bias m k (suc n) (p ∷ a) e =
      ap₂ (λ v vs. v ∷ vs)
      (ap (λ y. moved_lane W bias (add_in W p y) k) (picked (ltb (add_in W p bias) bias) m 0))
      (raised_lanes bias m k n a (omega arith))

  -- ---- one amount for all lanes

  alike_long : (k n : ℕ) (b : List ℕ) → length b ≡ n
      → length (map (top high) (map (λ x. ones - x) (zip2 (all_if ones eqb) b (replicate n k)))) ≡ n
  alike_long k zero [] e = refl
  alike_long k zero (p ∷ b) e = absurd (omega arith)
  alike_long k (suc n) [] e = absurd (omega arith)
  alike_long k (suc n) (p ∷ b) e = ap suc (alike_long k n b (omega arith))

  alike : (k n : ℕ) (b : List ℕ) → length b ≡ n
      → mask_l (map (top high) (map (λ x. ones - x) (zip2 (all_if ones eqb) b (replicate n k)))) ≡ 0
      → b ≡ replicate n k
  alike k zero [] e h = refl
  alike k zero (p ∷ b) e h = absurd (omega arith)
  alike k (suc n) [] e h = absurd (omega arith)
  alike k (suc n) (p ∷ b) e h = by (eqb p k) refl (λ z. alike k n b (omega arith) z)
    where
      by : (t : Bool) → eqb p k ≡ t →
          (mask_l (map (top high) (map (λ x. ones - x) (zip2 (all_if ones eqb) b (replicate n k)))) ≡ 0 →
          b ≡ replicate n k) → p ∷ b ≡ k ∷ replicate n k
      by true i more = ap₂ (λ v vs. v ∷ vs) (eqb-true p k i) (more (omega (arith, h)))
      by false i more =
          let all : ones - 0 ≡ ones = omega arith in
          let one : ℕ = 1 in
          let set : cond (top high (ones - cond (eqb p k) ones 0)) 1 0 ≡ one =
          ap (λ t. cond (top high (ones - cond t ones 0)) 1 0) i ∙ ap (λ t. cond t 1 0) (ap (top high) all ∙ on) in
          absurd (omega (arith, h, set))

  -- where no lane of the comparison with a splat fails, the vector is that splat
  pub all_alike : (k n : ℕ) (b : List ℕ) → length b ≡ n → n ≤ 64
      → mask_l (map (top high) (map (λ x. ones - x) (zip2 (all_if ones eqb) b (replicate n k)))) % 2 ^ 64 ≡ 0
      → b ≡ replicate n k
  all_alike k n b e le h = alike k n b e (sym (mask_l-mod _ 64 (omega (arith, alike_long k n b e))) ∙ h)

  -- ---- masks whose lanes are all set

  full_long : (n : ℕ) (m : List Bool) → length m ≡ n
      → length (map (top high) (map (λ x. ones - x) (zip2 (all_if ones eqb) (map from_bool m) (replicate n 1)))) ≡ n
  full_long n m e = alike_long 1 n (map from_bool m) (length-map m from_bool ∙ e)

  full_mask : (n : ℕ) (m : List Bool) → length m ≡ n
      → eqb (mask_l (map (top high) (map (λ x. ones - x) (zip2 (all_if ones eqb) (map from_bool m) (replicate n 1)))))
      0 ≡ list_all (λ on. on) m
  full_mask zero [] e = refl
  full_mask zero (b ∷ m) e = absurd (omega arith)
  full_mask (suc n) [] e = absurd (omega arith)
  full_mask (suc n) (true ∷ m) e =
      let none : ones - ones ≡ 0 = omega arith in
      ap (λ x. eqb (cond x 1 0 + 2 * rest) 0) (ap (top high) none ∙ off) ∙ twice rest ∙ full_mask n m (omega arith)
    where
      rest : ℕ
      rest = mask_l (map (top high) (map (λ x. ones - x) (zip2 (all_if ones eqb) (map from_bool m) (replicate n 1))))

      twice : (r : ℕ) → eqb (0 + 2 * r) 0 ≡ eqb r 0
      twice r = grind (arith, nat_tests)
  full_mask (suc n) (false ∷ m) e =
      let all : ones - 0 ≡ ones = omega arith in
      ap (λ x. eqb (cond x 1 0 + 2 * rest) 0) (ap (top high) all ∙ on) ∙ some rest
    where
      rest : ℕ
      rest = mask_l (map (top high) (map (λ x. ones - x) (zip2 (all_if ones eqb) (map from_bool m) (replicate n 1))))

      some : (r : ℕ) → eqb (1 + 2 * r) 0 ≡ false
      some r = grind (arith, nat_tests)

  -- no lane of a mask, as bytes, differs from 1 exactly where all lanes are set
  pub full_told : (n : ℕ) (m : List Bool) → length m ≡ n → n ≤ 64
      → eqb (mask_l (map (top high) (map (λ x. ones - x) (zip2 (all_if ones eqb) (map from_bool m) (replicate n 1)))) %
      2 ^ 64) 0 ≡ list_all (λ on. on) m
  full_told n m e le = ap (λ x. eqb x 0) (mask_l-mod _ 64 (omega (arith, full_long n m e))) ∙ full_mask n m e

  -- ---- the lesser and the greater

  pub lesser_lanes : (k n : ℕ) (a b : List ℕ) → length a ≡ n → length b ≡ n
      → sel_l (map (top high) (zip2 (all_if ones ltb) (zip2 (add_in W) b (replicate n k))
      (zip2 (add_in W) a (replicate n k)))) b a ≡ zip2 (lesser_lane W k) a b
  lesser_lanes k zero [] [] e h = refl
  lesser_lanes k zero [] (q ∷ b) e h = absurd (omega arith)
  lesser_lanes k zero (p ∷ a) b e h = absurd (omega arith)
  lesser_lanes k (suc n) [] b e h = absurd (omega arith)
  lesser_lanes k (suc n) (p ∷ a) [] e h = absurd (omega arith)
  lesser_lanes k (suc n) (p ∷ a) (q ∷ b) e h =
      ap₂ (λ v vs. v ∷ vs) (picked (ltb (add_in W q k) (add_in W p k)) q p)
      (lesser_lanes k n a b (omega arith) (omega arith))

  pub greater_lanes : (k n : ℕ) (a b : List ℕ) → length a ≡ n → length b ≡ n
      → sel_l (map (top high) (zip2 (all_if ones ltb) (zip2 (add_in W) b (replicate n k))
      (zip2 (add_in W) a (replicate n k)))) a b ≡ zip2 (greater_lane W k) a b
  greater_lanes k zero [] [] e h = refl
  greater_lanes k zero [] (q ∷ b) e h = absurd (omega arith)
  greater_lanes k zero (p ∷ a) b e h = absurd (omega arith)
  greater_lanes k (suc n) [] b e h = absurd (omega arith)
  greater_lanes k (suc n) (p ∷ a) [] e h = absurd (omega arith)
  greater_lanes k (suc n) (p ∷ a) (q ∷ b) e h =
      ap₂ (λ v vs. v ∷ vs) (picked (ltb (add_in W q k) (add_in W p k)) p q)
      (greater_lanes k n a b (omega arith) (omega arith))

  pub zip2_swap : {U V W : Type 0} (f : U → V → W) (a : List U) (b : List V) → zip2 f a b ≡ zip2 (λ y x. f x y) b a
  zip2_swap f [] [] = refl
  zip2_swap f [] (y ∷ b) = refl
  zip2_swap f (x ∷ a) [] = refl
  zip2_swap f (x ∷ a) (y ∷ b) = ap (λ vs. f x y ∷ vs) (zip2_swap f a b)

  -- ---- vectors that a loop writes lane by lane

  -- a mask that was written as numbers
  pub mask_again : (n : ℕ) (m : List Bool) → length m ≡ n →
      map (top high) (zip2 (λ u v. cond (not (eqb u v)) ones 0) (map from_bool m) (replicate n 0)) ≡ m
  mask_again zero [] e = refl
  mask_again zero (b ∷ m) e = absurd (omega arith)
  mask_again (suc n) [] e = absurd (omega arith)
  mask_again (suc n) (b ∷ m) e = ap₂ (λ v vs. v ∷ vs) (one b) (mask_again n m (omega arith))
    where
      one : (b : Bool) → top high (cond (not (eqb (from_bool b) 0)) ones 0) ≡ b
      one true = on
      one false = off

-- two vectors with a splat each, lane by lane
pub splat_same : (P : ℕ → Type 0) (f g : ℕ → ℕ → ℕ) (x y : ℕ) → ((p : ℕ) → P p → f p x ≡ g p y) → (n : ℕ) (a : List ℕ) →
    Each1 P a → zip2 f a (replicate n x) ≡ zip2 g a (replicate n y)
splat_same P f g x y e n [] u = refl
splat_same P f g x y e zero (p ∷ a) u = refl
splat_same P f g x y e (suc n) (p ∷ a) u = ap₂ (λ v vs. v ∷ vs) (e p u.0) (splat_same P f g x y e n a u.1)

pub zip2_each : (P : ℕ → Type 0) (f g : ℕ → ℕ → ℕ) → ((p q : ℕ) → P p → f p q ≡ g p q) → (a b : List ℕ) → Each1 P a →
    zip2 f a b ≡ zip2 g a b
zip2_each P f g e [] b u = refl
zip2_each P f g e (p ∷ a) [] u = refl
zip2_each P f g e (p ∷ a) (q ∷ b) u = ap₂ (λ v vs. v ∷ vs) (e p q u.0) (zip2_each P f g e a b u.1)

pub zip2_both : {V : Type 0} (P Q : ℕ → Type 0) (f g : ℕ → ℕ → V) →
    ((p q : ℕ) → P p → Q q → f p q ≡ g p q) → (a b : List ℕ) → Each1 P a → Each1 Q b → zip2 f a b ≡ zip2 g a b
zip2_both P Q f g e [] b u w = refl
zip2_both P Q f g e (p ∷ a) [] u w = refl
zip2_both P Q f g e (p ∷ a) (q ∷ b) u w = ap₂ (λ v vs. v ∷ vs) (e p q u.0 w.0) (zip2_both P Q f g e a b u.1 w.1)

-- a test of lanes that fit is that of the lanes raised by nothing
pub told_plain : (W : ℕ) (t : ℕ → ℕ → Bool) (a b : List ℕ) → Each1 (λ x. x < 2 ^ W) a → Each1 (λ x. x < 2 ^ W) b →
    zip2 (λ u v. from_bool (t u v)) a b ≡ zip2 (λ u v. from_bool (t (add_in W u 0) (add_in W v 0))) a b
told_plain W t a b k l = zip2_both (λ x. x < 2 ^ W) (λ x. x < 2 ^ W) (λ u v. from_bool (t u v))
    (λ u v. from_bool (t (add_in W u 0) (add_in W v 0)))
    (λ p q h i. sym (ap₂ (λ u v. from_bool (t u v)) (same p h) (same q i))) a b k l
  where
    same : (x : ℕ) → x < 2 ^ W → add_in W x 0 ≡ x
    same x h = let bare : x + 0 ≡ x = omega arith in ap (λ y. y % 2 ^ W) bare ∙ mod-eq_of_lt h

-- what the products of a splat leave of each lane
pub left_splat : (W : ℕ) (P : ℕ → Type 0) (f : ℕ → ℕ) (g : ℕ → ℕ → ℕ) (d : ℕ) →
    ((p : ℕ) → P p → sub_in W p (f p * d % 2 ^ W) ≡ g p d) → (n : ℕ) (a : List ℕ) → Each1 P a
    → zip2 (sub_in W) a (zip2 (λ x y. x * y % 2 ^ W) (map f a) (replicate n d)) ≡ zip2 g a (replicate n d)
left_splat W P f g d e n [] u = refl
left_splat W P f g d e zero (p ∷ a) u = refl
left_splat W P f g d e (suc n) (p ∷ a) u = ap₂ (λ v vs. v ∷ vs) (e p u.0) (left_splat W P f g d e n a u.1)

pub each_replicate : (P : ℕ → Type 0) (n x : ℕ) → P x → Each1 P (replicate n x)
each_replicate P zero x h = tt
each_replicate P (suc n) x h = (h, each_replicate P n x h)

pub each_then : (P Q : ℕ → Type 0) → ((x : ℕ) → P x → Q x) → (a : List ℕ) → Each1 P a → Each1 Q a
each_then P Q f [] u = tt
each_then P Q f (x ∷ a) u = (f x u.0, each_then P Q f a u.1)

pub map_each : {U V : Type 0} (P : U → Type 0) (f g : U → V) → ((x : U) → P x → f x ≡ g x) → (a : List U) →
    Each1 P a → map f a ≡ map g a
map_each P f g e [] u = refl
map_each P f g e (x ∷ a) u = ap₂ (λ v vs. v ∷ vs) (e x u.0) (map_each P f g e a u.1)

pub each_map : {U V : Type 0} (P : V → Type 0) (f : U → V) → ((x : U) → P (f x)) → (a : List U) → Each1 P (map f a)
each_map P f e [] = tt
each_map P f e (x ∷ a) = (e x, each_map P f e a)

pub zip2-maps : {U V W X Y : Type 0} (f : U → V → W) (j : X → U) (k : Y → V) (a : List X) (b : List Y) →
    zip2 f (map j a) (map k b) ≡ zip2 (λ x y. f (j x) (k y)) a b
zip2-maps f j k [] b = refl
zip2-maps f j k (x ∷ a) [] = refl
zip2-maps f j k (x ∷ a) (y ∷ b) = ap (λ vs. f (j x) (k y) ∷ vs) (zip2-maps f j k a b)

pub zip2-map_left : {U V W X : Type 0} (f : U → V → W) (j : X → U) (a : List X) (b : List V) →
    zip2 f (map j a) b ≡ zip2 (λ x y. f (j x) y) a b
zip2-map_left f j [] b = refl
zip2-map_left f j (x ∷ a) [] = refl
zip2-map_left f j (x ∷ a) (y ∷ b) = ap (λ vs. f (j x) y ∷ vs) (zip2-map_left f j a b)

pub zip2_same : {U V W : Type 0} (f g : U → V → W) → ((x : U) (y : V) → f x y ≡ g x y) → (a : List U) (b : List V) →
    zip2 f a b ≡ zip2 g a b
zip2_same f g e [] b = refl
zip2_same f g e (x ∷ a) [] = refl
zip2_same f g e (x ∷ a) (y ∷ b) = ap₂ (λ v vs. v ∷ vs) (e x y) (zip2_same f g e a b)

pub same_map : {U V : Type 0} (f g : U → V) → ((x : U) → f x ≡ g x) → (a : List U) → map f a ≡ map g a
same_map f g e [] = refl
same_map f g e (x ∷ a) = ap₂ (λ v vs. v ∷ vs) (e x) (same_map f g e a)

pub map_of_map : {U V W : Type 0} (h : V → W) (f : U → V) (a : List U) → map h (map f a) ≡ map (λ x. h (f x)) a
map_of_map h f [] = refl
map_of_map h f (x ∷ a) = ap (λ xs. h (f x) ∷ xs) (map_of_map h f a)

pub map_of_zip2 : {T U V W : Type 0} (h : V → W) (f : T → U → V) (a : List T) (b : List U) →
    map h (zip2 f a b) ≡ zip2 (λ x y. h (f x y)) a b
map_of_zip2 h f [] b = refl
map_of_zip2 h f (x ∷ a) [] = refl
map_of_zip2 h f (x ∷ a) (y ∷ b) = ap (λ xs. h (f x y) ∷ xs) (map_of_zip2 h f a b)

-- a narrow lane, raised, cast and lowered in 64 bits
pub widened : (b n : ℕ) (a : List ℕ) → length a ≡ n →
    zip2 (sub_in 64) (map (λ x. x) (zip2 (add_in 32) a (replicate n b))) (replicate n b) ≡
    map (λ p. sub_in 64 (add_in 32 p b) b) a
widened b zero [] e = refl
widened b zero (p ∷ a) e = absurd (omega arith)
widened b (suc n) [] e = absurd (omega arith)
widened b (suc n) (p ∷ a) e = ap (λ vs. sub_in 64 (add_in 32 p b) b ∷ vs) (widened b n a (omega arith))

pub written_next : {X : Type 0} (xs ys : List X) (i : ℕ) (y d : X) → take i xs ≡ take i ys → i < length xs →
    i < length ys → y ≡ get_or ys i d → take (i + 1) (set xs i y) ≡ take (i + 1) ys
written_next xs ys i y d e h k is =
    take-set_at xs i (i + 1) y refl h ∙ ap₂ (λ front z. front ++ (z ∷ [])) e is ∙ sym ((take_at_read ys i d k).1)

pub written_all : {X : Type 0} (xs ys : List X) (i : ℕ) → take i xs ≡ take i ys → length xs ≤ i → length ys ≤ i →
    xs ≡ ys
written_all xs ys i e h k = sym (take_all i xs h) ∙ e ∙ take_all i ys k

-- what holds of each index below the length holds of all
pub none_anywhere : (xs : List Bool) (i : ℕ) → length xs ≤ i → ((k : ℕ) → k < i → get_or xs k false ≡ false) →
    (k : ℕ) → get_or xs k false ≡ false
none_anywhere xs i h f k = by (ltb k i) refl
  where
    by : (b : Bool) → ltb k i ≡ b → get_or xs k false ≡ false
    by true e = f k (ltb-true k i e)
    by false e = get_or_past xs k false (omega (arith, h, ltb-false k i e))

pub not_true : (b : Bool) → true ≡ not b → b ≡ false
not_true true e = cc
not_true false e = refl

-- ---- masks with every lane, and lanes that stay as they are

pub full_select : (m : List Bool) (xs ys : List ℕ) (n : ℕ) → length m ≡ n → length xs ≡ n → length ys ≡ n →
    list_all (λ on. on) m ≡ true → xs ≡ sel_l m xs ys
full_select [] [] ys n h k l e = refl
full_select [] (x ∷ xs) ys n h k l e = absurd (omega arith)
full_select (b ∷ m) [] ys n h k l e = absurd (omega arith)
full_select (b ∷ m) (x ∷ xs) [] n h k l e = absurd (omega arith)
full_select (true ∷ m) (x ∷ xs) (y ∷ ys) n h k l e =
    ap (λ zs. x ∷ zs) (full_select m xs ys (length m) refl (omega arith) (omega arith) e)
full_select (false ∷ m) (x ∷ xs) (y ∷ ys) n h k l e = absurd (true≢false (sym e))

pub map_stays : (P : ℕ → Type 0) (f : ℕ → ℕ) → ((x : ℕ) → P x → x ≡ f x) → (a : List ℕ) → Each1 P a → a ≡ map f a
map_stays P f e [] u = refl
map_stays P f e (x ∷ a) u = ap₂ (λ v vs. v ∷ vs) (e x u.0) (map_stays P f e a u.1)

pub map_id : {U : Type 0} (a : List U) → map (λ x. x) a ≡ a
map_id [] = refl
map_id (x ∷ a) = ap (λ xs. x ∷ xs) (map_id a)

-- ---- three vectors

pub get_or-zip3 : {A B C D : Type 0} (f : A → B → C → D) (a : List A) (b : List B) (c : List C) (i : ℕ) (x : A)
    (y : B) (z : C) (w : D) → i < length a → i < length b → i < length c
    → get_or (zip3 f a b c) i w ≡ f (get_or a i x) (get_or b i y) (get_or c i z)
get_or-zip3 f [] b c i x y z w h k l = absurd (omega arith)
get_or-zip3 f (p ∷ a) [] c i x y z w h k l = absurd (omega arith)
get_or-zip3 f (p ∷ a) (q ∷ b) [] i x y z w h k l = absurd (omega arith)
get_or-zip3 f (p ∷ a) (q ∷ b) (r ∷ c) zero x y z w h k l = refl
get_or-zip3 f (p ∷ a) (q ∷ b) (r ∷ c) (suc i) x y z w h k l =
    get_or-zip3 f a b c i x y z w (omega arith) (omega arith) (omega arith)

pub length-zip3 : {A B C D : Type 0} (f : A → B → C → D) (n : ℕ) (a : List A) (b : List B) (c : List C) →
    length a ≡ n → length b ≡ n → length c ≡ n → length (zip3 f a b c) ≡ n
length-zip3 f n [] b c h k l = h
length-zip3 f n (p ∷ a) [] c h k l = absurd (omega arith)
length-zip3 f n (p ∷ a) (q ∷ b) [] h k l = absurd (omega arith)
length-zip3 f zero (p ∷ a) (q ∷ b) (r ∷ c) h k l = absurd (omega arith)
length-zip3 f (suc n) (p ∷ a) (q ∷ b) (r ∷ c) h k l =
    ap suc (length-zip3 f n a b c (omega arith) (omega arith) (omega arith))

-- a function of three lanes that ignores the third
pub zip2_as_zip3 : {A B C D : Type 0} (f : A → B → D) (h : A → B → C → D) →
    ((p : A) (q : B) (r : C) → f p q ≡ h p q r) → (n : ℕ) (a : List A) (b : List B) (c : List C) → length a ≡ n →
    length b ≡ n → length c ≡ n
    → zip2 f a b ≡ zip3 h a b c
zip2_as_zip3 f h e n [] b c i j k = refl
zip2_as_zip3 f h e n (p ∷ a) [] c i j k = refl
zip2_as_zip3 f h e n (p ∷ a) (q ∷ b) [] i j k = absurd (omega arith)
zip2_as_zip3 f h e zero (p ∷ a) (q ∷ b) (r ∷ c) i j k = absurd (omega arith)
zip2_as_zip3 f h e (suc n) (p ∷ a) (q ∷ b) (r ∷ c) i j k =
    ap₂ (λ v vs. v ∷ vs) (e p q r) (zip2_as_zip3 f h e n a b c (omega arith) (omega arith) (omega arith))

-- ---- truths as 1 and 0

pub bit_fits : (w : Width) (b : Bool) → Fits w (from_bool b)
bit_fits w true = grind arith
bit_fits w false = grind arith

pub bit_read : (b : Bool) → not (eqb (from_bool b) 0) ≡ b
bit_read true = refl
bit_read false = refl

-- what a test gives, written as 1 or 0 and read again
pub bits_read : {U : Type 0} (t : U → Bool) (a : List U) →
    map (λ x. not (eqb x 0)) (map (λ x. from_bool (t x)) a) ≡ map t a
bits_read t a = map_of_map (λ x. not (eqb x 0)) (λ x. from_bool (t x)) a ∙
    same_map (λ x. not (eqb (from_bool (t x)) 0)) t (λ x. bit_read (t x)) a
