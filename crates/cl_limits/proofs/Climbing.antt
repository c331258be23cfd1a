-- Rounds over points reach the heights.
use Rattle.std.proofs.Common.{◌≡◌, ℕ, zero, suc, ◌≤◌, ◌<◌, min, max, Bool, true, false, nat_eq, nat_lt, List, [], ◌∷◌}
use Rattle.std.proofs.Common.{length, get_or, replicate, Option, Some, None, refl, ap, sym, subst, ◌∙◌, inl, inr}
use Rattle.std.proofs.Common.{arith, if◌then◌else◌}
use Rattle.std.specs.Prelude.{slice_get}
use Rattle.std.proofs.lemmas.Bool.{cases_lt, cases_eq}
use Rattle.cl_tree.specs.Syntax.{Syntax}
use Rattle.cl_limits.specs.declared.points.Point.{Point}
use Rattle.cl_limits.specs.Heights.{lifted, called_height, function_height, height, full_height}
use Rattle.cl_limits.specs.Points.{functions_onto}
use Rattle.cl_limits.specs.Rounds.{point_height, with_point, with_points, next_heights, heights_after}
use Rattle.cl_limits.proofs.Lists.{chosen, not_chosen, zeros_at, zeros_length, beyond, set_length, set_here}
use Rattle.cl_limits.proofs.Lists.{set_elsewhere, capped_zero}
use Rattle.cl_limits.proofs.Summing.{is_below, is_same, is_other}
use Rattle.cl_limits.proofs.Tops.{height_at, points_top, points_of_functions}

joined_here : (a b s k g r cap : ℕ) → a ≡ min (max k g) cap → k ≡ s → b ≡ g →
    min (max a r) cap ≡ min (max s (max b r)) cap
joined_here a b s k g r cap e f h = omega arith

joined_elsewhere : (a b s r cap : ℕ) → a ≡ s → b ≡ 0 → min (max a r) cap ≡ min (max s (max b r)) cap
joined_elsewhere a b s r cap e h = omega arith

abbrev at_point : List ℕ → Point → ℕ
at_point heights p = lifted p.around (point_height heights p.called)

abbrev raised : ℕ → List ℕ → List ℕ → Point → ℕ
raised cap heights tops p = min (max (get_or tops p.caller 0) (at_point heights p)) cap

-- the heights of points, of the heights of functions in a list
abbrev tops_of : List ℕ → List Point → ℕ → ℕ
tops_of heights [] f = 0
tops_of heights (p ∷ ps) f = max (if nat_eq p.caller f then at_point heights p else 0) (tops_of heights ps f)

step : (cap : ℕ) (heights tops : List ℕ) (p : Point) (f r : ℕ) → f < length tops
    → min (max (get_or (with_point cap heights tops p) f 0) r) cap ≡
    min (max (get_or tops f 0) (max (if nat_eq p.caller f then at_point heights p else 0) r)) cap
step cap heights tops p f r h = elim (cases_eq p.caller f) [
  | inl e ↦ joined_here (get_or (with_point cap heights tops p) f 0)
      (if nat_eq p.caller f then at_point heights p else 0) (get_or tops f 0) (get_or tops p.caller 0)
      (at_point heights p) r cap
      (set_here (nat_lt p.caller (length tops)) tops p.caller (raised cap heights tops p) f
      (is_below p.caller (length tops) (omega arith)) e h)
      (ap (λ k. get_or tops k 0) e)
      (chosen (nat_eq p.caller f) (at_point heights p) 0 (is_same p.caller f e))
  | inr e ↦ joined_elsewhere (get_or (with_point cap heights tops p) f 0)
      (if nat_eq p.caller f then at_point heights p else 0) (get_or tops f 0) r cap
      (set_elsewhere (nat_lt p.caller (length tops)) tops p.caller (raised cap heights tops p) f e)
      (not_chosen (nat_eq p.caller f) (at_point heights p) 0 (is_other p.caller f e))
]

within : (cap : ℕ) (heights tops : List ℕ) (p : Point) (f : ℕ) → f < length tops → get_or tops f 0 ≤ cap →
    get_or (with_point cap heights tops p) f 0 ≤ cap
within cap heights tops p f h k = elim (cases_eq p.caller f) [
  | inl e ↦ (let s : get_or (with_point cap heights tops p) f 0 ≡ raised cap heights tops p = set_here
      (nat_lt p.caller (length tops)) tops p.caller (raised cap heights tops p) f
      (is_below p.caller (length tops) (omega arith)) e h in
      subst (λ n. n ≤ cap) (sym s) (omega arith))
  | inr e ↦ subst (λ n. n ≤ cap)
      (sym (set_elsewhere (nat_lt p.caller (length tops)) tops p.caller (raised cap heights tops p) f e)) k
]

point_length : (cap : ℕ) (heights tops : List ℕ) (p : Point) → length (with_point cap heights tops p) ≡ length tops
point_length cap heights tops p = set_length (nat_lt p.caller (length tops)) tops p.caller (raised cap heights tops p)

points_length : (cap : ℕ) (heights : List ℕ) (ps : List Point) (tops : List ℕ) →
    length (with_points cap heights tops ps) ≡ length tops
points_length cap heights [] tops = refl
points_length cap heights (p ∷ ps) tops =
    points_length cap heights ps (with_point cap heights tops p) ∙ point_length cap heights tops p

tops_at : (cap : ℕ) (heights : List ℕ) (ps : List Point) (tops : List ℕ) (f : ℕ) → f < length tops →
    get_or tops f 0 ≤ cap
    → get_or (with_points cap heights tops ps) f 0 ≡ min (max (get_or tops f 0) (tops_of heights ps f)) cap
tops_at cap heights [] tops f h k = omega arith
tops_at cap heights (p ∷ ps) tops f h k =
    tops_at cap heights ps (with_point cap heights tops p) f
    (subst (λ n. f < n) (sym (point_length cap heights tops p)) h) (within cap heights tops p f h k)
    ∙ step cap heights tops p f (tops_of heights ps f) h

lifted_cap : (n x y cap : ℕ) → x ≡ min y cap → min (lifted n x) cap ≡ min (lifted n y) cap
lifted_cap n zero zero cap h = refl
lifted_cap n zero (suc y) cap h = omega arith
lifted_cap n (suc x) zero cap h = absurd (omega arith)
lifted_cap n (suc x) (suc y) cap h = omega arith

point_cap : (cap : ℕ) (heights : List ℕ) (g : ℕ → ℕ) → ((k : ℕ) → get_or heights k 0 ≡ min (g k) cap) →
    (n : ℕ) (called : Option ℕ)
    → min (lifted n (point_height heights called)) cap ≡ min (lifted n (height_at g called)) cap
point_cap cap heights g h n None = refl
point_cap cap heights g h n (Some f) = lifted_cap n (get_or heights f 0) (g f) cap (h f)

chosen_cap : (b : Bool) (x y cap : ℕ) → min x cap ≡ min y cap →
    min (if b then x else 0) cap ≡ min (if b then y else 0) cap
chosen_cap true x y cap h = h
chosen_cap false x y cap h = refl

max_cap : (p q r s cap : ℕ) → min p cap ≡ min q cap → min r cap ≡ min s cap → min (max p r) cap ≡ min (max q s) cap
max_cap p q r s cap h k = omega arith

tops_cap : (cap : ℕ) (heights : List ℕ) (g : ℕ → ℕ) → ((k : ℕ) → get_or heights k 0 ≡ min (g k) cap) →
    (ps : List Point) (f : ℕ)
    → min (tops_of heights ps f) cap ≡ min (points_top g ps f) cap
tops_cap cap heights g h [] f = refl
tops_cap cap heights g h (p ∷ ps) f =
    max_cap (if nat_eq p.caller f then at_point heights p else 0)
    (if nat_eq p.caller f then lifted p.around (height_at g p.called) else 0) (tops_of heights ps f)
    (points_top g ps f) cap
    (chosen_cap (nat_eq p.caller f) (at_point heights p) (lifted p.around (height_at g p.called)) cap
    (point_cap cap heights g h p.around p.called)) (tops_cap cap heights g h ps f)

next_length : (cap count : ℕ) (ps : List Point) (heights : List ℕ) → length (next_heights cap count ps heights) ≡ count
next_length cap count ps heights = points_length cap heights ps (replicate count 0) ∙ zeros_length count

absent : (g : List ℕ → ℕ) (functions : List Syntax) (f : ℕ) → length functions ≤ f →
    function_height g (slice_get functions f) ≡ 0
absent g [] f h = refl
absent g (b ∷ functions) zero h = absurd (omega arith)
absent g (b ∷ functions) (suc f) h = absent g functions f (omega arith)

there : (z t p b cap : ℕ) → z ≡ 0 → min t cap ≡ min p cap → min p cap ≡ min b cap → min (max z t) cap ≡ min b cap
there z t p b cap e h k = omega arith

abbrev all_points : ℕ → List Syntax → List Point
all_points cap functions = functions_onto functions cap 0 functions []

next_at : (cap : ℕ) (functions : List Syntax) (heights : List ℕ) (g : ℕ → ℕ) →
    ((k : ℕ) → get_or heights k 0 ≡ min (g k) cap) → (f : ℕ)
    → get_or (next_heights cap (length functions) (all_points cap functions) heights) f 0 ≡
    min (function_height (called_height g functions) (slice_get functions f)) cap
next_at cap functions heights g h f = elim (cases_lt f (length functions)) [
  | inl l ↦ (let z : get_or (replicate (length functions) 0) f 0 ≡ zero = zeros_at (length functions) f in
      tops_at cap heights (all_points cap functions) (replicate (length functions) 0) f
      (subst (λ n. f < n) (sym (zeros_length (length functions))) l) (subst (λ n. n ≤ cap) (sym z) (omega arith))
      ∙ there (get_or (replicate (length functions) 0) f 0) (tops_of heights (all_points cap functions) f)
      (points_top g (all_points cap functions) f)
      (function_height (called_height g functions) (slice_get functions f)) cap
      z (tops_cap cap heights g h (all_points cap functions) f) (points_of_functions g functions cap functions f))
  | inr l ↦ capped_zero (get_or (next_heights cap (length functions) (all_points cap functions) heights) f 0) cap
      (beyond (next_heights cap (length functions) (all_points cap functions) heights) f
      (subst (λ n. n ≤ f) (sym (next_length cap (length functions) (all_points cap functions) heights)) l))
      ∙ sym (ap (λ n. min n cap) (absent (called_height g functions) functions f l))
]

heights_length : (n cap count : ℕ) (ps : List Point) → length (heights_after n cap count ps) ≡ count
heights_length zero cap count ps = zeros_length count
heights_length (suc n) cap count ps = next_length cap count ps (heights_after n cap count ps)

heights_at : (n cap : ℕ) (functions : List Syntax) (f : ℕ) →
    get_or (heights_after n cap (length functions) (all_points cap functions)) f 0 ≡ min (height n functions f) cap
unfolding height
heights_at zero cap functions f =
    capped_zero (get_or (heights_after zero cap (length functions) (all_points cap functions)) f 0) cap
    (zeros_at (length functions) f)
heights_at (suc n) cap functions f =
    next_at cap functions (heights_after n cap (length functions) (all_points cap functions)) (height n functions)
    (heights_at n cap functions) f

pub steady : (m n cap count : ℕ) (ps : List Point) (xs : List ℕ) → n ≤ m → xs ≡ heights_after n cap count ps →
    next_heights cap count ps xs ≡ xs → xs ≡ heights_after m cap count ps
steady zero n cap count ps xs h e k = let z : n ≡ zero = omega arith in e ∙ ap (λ i. heights_after i cap count ps) z
steady (suc m) n cap count ps xs h e k = elim (cases_lt n (suc m)) [
  | inl l ↦ sym k ∙ ap (next_heights cap count ps) (steady m n cap count ps xs (omega arith) e k)
  | inr l ↦ (let z : n ≡ suc m = omega arith in e ∙ ap (λ i. heights_after i cap count ps) z)
]

pub heights_are : (cap count : ℕ) (functions : List Syntax) (ps : List Point) (xs : List ℕ) →
    count ≡ length functions → ps ≡ functions_onto functions cap 0 functions [] → xs ≡ heights_after count cap count ps
    → (f : ℕ) → get_or xs f 0 ≡ min (full_height functions f) cap
heights_are cap count functions ps xs a b e f =
    ap (λ ys. get_or ys f 0) (e ∙ (ap (λ q. heights_after count cap count q) b ∙
    ap (λ n. heights_after n cap n (functions_onto functions cap 0 functions [])) a))
    ∙ heights_at (length functions) cap functions f

pub heights_size : (cap count : ℕ) (ps : List Point) (xs : List ℕ) → xs ≡ heights_after count cap count ps →
    length xs ≡ count
heights_size cap count ps xs e = ap length e ∙ heights_length count cap count ps
