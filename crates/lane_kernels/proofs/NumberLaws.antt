-- Vectors of numbers as lists of lanes: the lesser and the greater, sums and differences that stop.
use Rattle.std.proofs.Common.{◌≡◌, ℕ, zero, suc, ◌+◌, ◌-◌, ◌*◌, ◌/◌, ◌%◌, ◌^◌, ◌<◌, ◌≤◌, refl, ap, ap₂, ◌∙◌, arith}
use Rattle.std.proofs.Common.{Bool, true, false, cond, List, [], ◌∷◌, length, replicate, map, min, max, ltb}
use Rattle.std.proofs.Common.{ltb-true, ltb-false, mod-eq_of_lt}
use Rattle.std.proofs.lemmas.Nat.{mod-mul-add}
use Rattle.std.specs.Simd.Lanes.{zip2, Each1, sel_l, top}
use Rattle.lane_kernels.specs.Vectors.{apart, raised_rest, raised_sum, sum_below}
use Rattle.lane_kernels.proofs.ListLaws as L
use Rattle.lane_kernels.proofs.ListLaws.{add_in, all_if, sub_in}

pub lesser_is : (p q : ℕ) → cond (ltb p q) p q ≡ min p q
lesser_is p q = by (ltb p q) refl
  where
    by : (b : Bool) → ltb p q ≡ b → cond b p q ≡ min p q
    by true e = let h = ltb-true p q e in omega arith
    by false e = let h = ltb-false p q e in omega arith

pub greater_is : (p q : ℕ) → cond (ltb p q) q p ≡ max p q
greater_is p q = by (ltb p q) refl
  where
    by : (b : Bool) → ltb p q ≡ b → cond b q p ≡ max p q
    by true e = let h = ltb-true p q e in omega arith
    by false e = let h = ltb-false p q e in omega arith

-- a difference that does not go below 0
pub rest_of : (W x y : ℕ) → y ≤ x → x < 2 ^ W → sub_in W x y ≡ x - y
rest_of W x y h k =
    let is : x + (2 ^ W - y) ≡ 1 * 2 ^ W + (x - y) = omega arith in
    ap (λ z. z % 2 ^ W) is ∙ mod-mul-add 1 (2 ^ W) (x - y) (omega arith)

apart_is : (W p q : ℕ) → p < 2 ^ W → q < 2 ^ W → sub_in W (max p q) (min p q) ≡ apart p q
apart_is W p q h k =
    let e = rest_of W (max p q) (min p q) (omega arith) (omega arith) in
    let f : max p q - min p q ≡ apart p q = omega arith in
    e ∙ f

more_is : (W p q : ℕ) → p < 2 ^ W → q < 2 ^ W → add_in W p (min q (2 ^ W - 1 - p)) ≡ sum_below W p q
more_is W p q h k =
    let e : p + min q (2 ^ W - 1 - p) ≡ sum_below W p q = omega arith in
    ap (λ z. z % 2 ^ W) e ∙ mod-eq_of_lt (omega arith)

less_is : (W p q : ℕ) → p < 2 ^ W → q < 2 ^ W → sub_in W (max p q) q ≡ p - q
less_is W p q h k =
    let e = rest_of W (max p q) q (omega arith) (omega arith) in
    let f : max p q - q ≡ p - q = omega arith in
    e ∙ f

module _ (W high ones : ℕ) (on : top high ones ≡ true) (off : top high 0 ≡ false) where
  picked : (b : Bool) (x y : ℕ) → cond (top high (cond b ones 0)) x y ≡ cond b x y
  picked = L.picked W high ones on off

  pub least_lanes : (a b : List ℕ) → sel_l (map (top high) (zip2 (all_if ones ltb) a b)) a b ≡ zip2 min a b
  least_lanes [] b = refl
  least_lanes (p ∷ a) [] = refl
  least_lanes (p ∷ a) (q ∷ b) = ap₂ (λ v vs. v ∷ vs) (picked (ltb p q) p q ∙ lesser_is p q) (least_lanes a b)

  pub most_lanes : (a b : List ℕ) → sel_l (map (top high) (zip2 (all_if ones ltb) a b)) b a ≡ zip2 max a b
  most_lanes [] b = refl
  most_lanes (p ∷ a) [] = refl
  most_lanes (p ∷ a) (q ∷ b) = ap₂ (λ v vs. v ∷ vs) (picked (ltb p q) q p ∙ greater_is p q) (most_lanes a b)

  pub apart_lanes : (a b : List ℕ) → Each1 (λ x. x < 2 ^ W) a → Each1 (λ x. x < 2 ^ W) b
      → zip2 (sub_in W) (sel_l (map (top high) (zip2 (all_if ones ltb) a b)) b a)
      (sel_l (map (top high) (zip2 (all_if ones ltb) a b)) a b) ≡ zip2 apart a b
  apart_lanes [] b u w = refl
  apart_lanes (p ∷ a) [] u w = refl
  apart_lanes (p ∷ a) (q ∷ b) u w = ap₂ (λ v vs. v ∷ vs)
      (ap₂ (sub_in W) (picked (ltb p q) q p ∙ greater_is p q) (picked (ltb p q) p q ∙ lesser_is p q) ∙
      apart_is W p q u.0 w.0) (apart_lanes a b u.1 w.1)

  pub more_lanes : (a b : List ℕ) → Each1 (λ x. x < 2 ^ W) a → Each1 (λ x. x < 2 ^ W) b
      → zip2 (add_in W) a (sel_l (map (top high) (zip2 (all_if ones ltb) b (map (λ x. 2 ^ W - 1 - x) a))) b
      (map (λ x. 2 ^ W - 1 - x) a)) ≡ zip2 (sum_below W) a b
  more_lanes [] b u w = refl
  more_lanes (p ∷ a) [] u w = refl
  more_lanes (p ∷ a) (q ∷ b) u w = ap₂ (λ v vs. v ∷ vs)
      (ap (add_in W p) (picked (ltb q (2 ^ W - 1 - p)) q (2 ^ W - 1 - p) ∙ lesser_is q (2 ^ W - 1 - p)) ∙
      more_is W p q u.0 w.0) (more_lanes a b u.1 w.1)

  pub less_lanes : (a b : List ℕ) → Each1 (λ x. x < 2 ^ W) a → Each1 (λ x. x < 2 ^ W) b
      → zip2 (sub_in W) (sel_l (map (top high) (zip2 (all_if ones ltb) a b)) b a) b ≡ zip2 (λ p q. p - q) a b
  less_lanes [] b u w = refl
  less_lanes (p ∷ a) [] u w = refl
  less_lanes (p ∷ a) (q ∷ b) u w = ap₂ (λ v vs. v ∷ vs)
      (ap (λ x. sub_in W x q) (picked (ltb p q) q p ∙ greater_is p q) ∙ less_is W p q u.0 w.0)
      (less_lanes a b u.1 w.1)

-- what is made of two vectors
pub sum_lanes : (W k n : ℕ) (a b : List ℕ) → length a ≡ n → length b ≡ n
    → zip2 (λ p q. p - q) (zip2 (sum_below W) a (zip2 (λ p q. p - q) b (replicate n k)))
    (zip2 (λ p q. p - q) (replicate n k) b) ≡ zip2 (raised_sum W k) a b
sum_lanes W k n [] b e h = refl
sum_lanes W k n (p ∷ a) [] e h = refl
sum_lanes W k zero (p ∷ a) (q ∷ b) e h = absurd (omega arith)
sum_lanes W k (suc n) (p ∷ a) (q ∷ b) e h =
    ap (λ vs. raised_sum W k p q ∷ vs) (sum_lanes W k n a b (omega arith) (omega arith))

pub rest_lanes : (W k n : ℕ) (a b : List ℕ) → length a ≡ n → length b ≡ n
    → zip2 (λ p q. p - q) (zip2 (sum_below W) a (zip2 (λ p q. p - q) (replicate n k) b))
    (zip2 (λ p q. p - q) b (replicate n k)) ≡ zip2 (raised_rest W k) a b
rest_lanes W k n [] b e h = refl
rest_lanes W k zero (p ∷ a) [] e h = refl
rest_lanes W k (suc n) (p ∷ a) [] e h = refl
rest_lanes W k zero (p ∷ a) (q ∷ b) e h = absurd (omega arith)
rest_lanes W k (suc n) (p ∷ a) (q ∷ b) e h =
    ap (λ vs. raised_rest W k p q ∷ vs) (rest_lanes W k n a b (omega arith) (omega arith))

-- an operation on what two operations give
pub zip2_of : {U V X Y Z : Type 0} (h : X → Y → Z) (f : U → V → X) (g : U → V → Y) (a : List U) (b : List V) →
    zip2 h (zip2 f a b) (zip2 g a b) ≡ zip2 (λ x y. h (f x y) (g x y)) a b
zip2_of h f g [] b = refl
zip2_of h f g (x ∷ a) [] = refl
zip2_of h f g (x ∷ a) (y ∷ b) = ap (λ vs. h (f x y) (g x y) ∷ vs) (zip2_of h f g a b)

-- an operation on half of what another gives
pub half_lanes : (h g : ℕ → ℕ → ℕ) (f : ℕ → ℕ → ℕ) (n : ℕ) (a b : List ℕ) → length a ≡ n
    → zip2 h (zip2 f a b) (zip2 (λ x k. x / 2 ^ k) (zip2 g a b) (replicate n 1)) ≡
    zip2 (λ x y. h (f x y) (g x y / 2)) a b
half_lanes h g f n [] b e = refl
half_lanes h g f zero (x ∷ a) [] e = refl
half_lanes h g f (suc n) (x ∷ a) [] e = refl
half_lanes h g f zero (x ∷ a) (y ∷ b) e = absurd (omega arith)
half_lanes h g f (suc n) (x ∷ a) (y ∷ b) e = ap (λ vs. h (f x y) (g x y / 2) ∷ vs) (half_lanes h g f n a b (omega
    arith))
