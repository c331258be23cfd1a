-- The greatest height of the points of a function is its height, as far as the cap.
use Rattle.std.proofs.Common.{◌≡◌, ℕ, zero, suc, ◌+◌, ◌≤◌, ◌<◌, min, max, Bool, true, false, nat_eq, nat_lt, List, []}
use Rattle.std.proofs.Common.{◌∷◌, ◌++◌, Option, Some, None, refl, ap, sym, ◌∙◌, arith, if◌then◌else◌}
use Rattle.std.specs.Prelude.{slice_get}
use Rattle.std.proofs.lemmas.Bool.Decides.{nat_tests}
use Rattle.cl_tree.specs.declared.tree.Form.{Form}
use Rattle.cl_tree.specs.declared.tree.Form.TheVariants as forms
use Rattle.cl_tree.specs.Syntax.{Syntax, node, Forest, none, more}
use Rattle.cl_meaning.specs.Spelling.{name_in, intrinsic_in}
use Rattle.cl_limits.specs.declared.points.Point.{Point}
use Rattle.cl_limits.specs.declared.points.Spot.{Spot}
use Rattle.cl_limits.specs.Heights.{lifted, is_barrier, number_from, number_height, called_height, is_branch, inside}
use Rattle.cl_limits.specs.Heights.{own_height, height_of, height_of_all, function_height}
use Rattle.cl_limits.specs.Points.{point_at, deeper, entered, number_onto, own_onto, onto, all_onto, functions_onto}
use Rattle.cl_limits.proofs.Lists.{chosen, not_chosen}
use Rattle.cl_limits.proofs.Summing.{is_same, is_other}

-- the height of what stands at a point
abbrev pub height_at : (ℕ → ℕ) → Option ℕ → ℕ
height_at g None = 1
height_at g (Some f) = g f

-- the greatest height of the points of a function
abbrev pub points_top : (ℕ → ℕ) → List Point → ℕ → ℕ
points_top g [] f = 0
points_top g (p ∷ ps) f =
    max (if nat_eq p.caller f then lifted p.around (height_at g p.called) else 0) (points_top g ps f)

-- a height at a spot, for a function
abbrev at_spot : Spot → ℕ → ℕ → ℕ
at_spot at h f = if nat_eq at.caller f then lifted at.around h else 0

lifted_max : (n a b : ℕ) → lifted n (max a b) ≡ max (lifted n a) (lifted n b)
lifted_max n zero zero = refl
lifted_max n zero (suc b) = let e : max zero (suc b) ≡ suc b =
    omega arith in ap (lifted n) e ∙ (let f : suc b + n ≡ max zero (suc b + n) = omega arith in f)
lifted_max n (suc a) zero = let e : max (suc a) zero ≡ suc a =
    omega arith in ap (lifted n) e ∙ (let f : suc a + n ≡ max (suc a + n) zero = omega arith in f)
lifted_max n (suc a) (suc b) = let e : max (suc a) (suc b) ≡ suc (max a b) =
    omega arith in ap (lifted n) e ∙ (let f : suc (max a b) + n ≡ max (suc a + n) (suc b + n) = omega arith in f)

chosen_max : (b : Bool) (x y : ℕ) → (if b then max x y else 0) ≡ max (if b then x else 0) (if b then y else 0)
chosen_max true x y = refl
chosen_max false x y = refl

chosen_zero : (b : Bool) → (if b then zero else zero) ≡ zero
chosen_zero true = refl
chosen_zero false = refl

spot_max : (at : Spot) (a b f : ℕ) → at_spot at (max a b) f ≡ max (at_spot at a f) (at_spot at b f)
spot_max at a b f = ap (λ n. if nat_eq at.caller f then n else 0) (lifted_max at.around a b) ∙
    chosen_max (nat_eq at.caller f) (lifted at.around a) (lifted at.around b)

spot_zero : (at : Spot) (f : ℕ) → at_spot at 0 f ≡ 0
spot_zero at f = chosen_zero (nat_eq at.caller f)

not_below : (a b : ℕ) → nat_lt a b ≡ false → b ≤ a
not_below a b h = grind (arith, nat_tests)

lifted_twice : (n h : ℕ) → lifted n (lifted 1 (suc h)) ≡ suc h + (n + 1)
lifted_twice n h =
    let e : suc h + 1 ≡ suc (suc h) = omega arith in
    let f : suc (suc h) + n ≡ suc h + (n + 1) = omega arith in
    ap (lifted n) e ∙ f

capped_out : (a n cap : ℕ) → cap ≤ n → min (a + n) cap ≡ min (a + (n + 1)) cap
capped_out a n cap h = omega arith

-- one statement more around
counted : (n h cap : ℕ) (b : Bool) → nat_lt n cap ≡ b →
    min (lifted (if b then n + 1 else n) h) cap ≡ min (lifted n (lifted 1 h)) cap
counted n zero cap b e = refl
counted n (suc h) cap true e = ap (λ z. min z cap) (sym (lifted_twice n h))
counted n (suc h) cap false e =
    capped_out (suc h) n cap (not_below n cap e) ∙ ap (λ z. min z cap) (sym (lifted_twice n h))

chosen_cap : (b : Bool) (x y cap : ℕ) → min x cap ≡ min y cap →
    min (if b then x else 0) cap ≡ min (if b then y else 0) cap
chosen_cap true x y cap h = h
chosen_cap false x y cap h = refl

spot_deeper : (at : Spot) (h f : ℕ) → min (at_spot (deeper at) h f) at.cap ≡ min (at_spot at (lifted 1 h) f) at.cap
spot_deeper at h f = chosen_cap (nat_eq at.caller f) (lifted (deeper at).around h) (lifted at.around (lifted 1 h))
    at.cap (counted at.around h at.cap (nat_lt at.around at.cap) refl)

chain : (t u v a b cap : ℕ) → min u cap ≡ min (max t a) cap → min v cap ≡ min (max u b) cap →
    min v cap ≡ min (max t (max a b)) cap
chain t u v a b cap h k = omega arith

under : (t a b cap : ℕ) → min a cap ≡ min b cap → min (max t a) cap ≡ min (max t b) cap
under t a b cap h = omega arith

pushed_max : (v a b : ℕ) → max v (max a b) ≡ max (max v a) b
pushed_max v a b = omega arith

no_more : (t z : ℕ) → z ≡ 0 → t ≡ max t z
no_more t z h = omega arith

lifted_zero : (h : ℕ) → lifted 0 h ≡ h
lifted_zero zero = refl
lifted_zero (suc h) = omega arith

both_zero : (a b : ℕ) → a ≡ 0 → b ≡ 0 → max a b ≡ 0
both_zero a b h k = omega arith

left_only : (a b h : ℕ) → a ≡ h → b ≡ 0 → max a b ≡ h
left_only a b h e k = omega arith

right_only : (a b h : ℕ) → a ≡ 0 → b ≡ h → max a b ≡ h
right_only a b h e k = omega arith

first_zero : (b cap : ℕ) → min (max 0 b) cap ≡ min b cap
first_zero b cap = omega arith

module _ (g : ℕ → ℕ) (fs : List Syntax) where
  pushed : (ps : List Point) (p : Point) (f : ℕ) →
      points_top g (ps ++ p ∷ []) f ≡
      max (points_top g ps f) (if nat_eq p.caller f then lifted p.around (height_at g p.called) else 0)
  pushed [] p f = omega arith
  pushed (q ∷ ps) p f =
      ap (λ n. max (if nat_eq q.caller f then lifted q.around (height_at g q.called) else 0) n) (pushed ps p f)
      ∙ pushed_max (if nat_eq q.caller f then lifted q.around (height_at g q.called) else 0) (points_top g ps f)
      (if nat_eq p.caller f then lifted p.around (height_at g p.called) else 0)

  -- the height of a name that is called
  abbrev named : List ℕ → ℕ
  named = called_height g fs

  called : (b : Bool) (o : Option ℕ) (at : Spot) (ps : List Point) (f : ℕ)
      → points_top g (if b then ps ++ point_at at None ∷ [] else number_onto at o ps) f ≡
      max (points_top g ps f) (at_spot at (if b then 1 else number_height g o) f)
  called true o at ps f = pushed ps (point_at at None) f
  called false None at ps f = no_more (points_top g ps f) (at_spot at 0 f) (spot_zero at f)
  called false (Some k) at ps f = pushed ps (point_at at (Some k)) f

  own_top : (form : Form) (word : List ℕ) (at : Spot) (ps : List Point) (f : ℕ) →
      points_top g (own_onto fs at form word ps) f ≡ max (points_top g ps f) (at_spot at (own_height named form word) f)
  own_top forms.CallNode word at ps f =
      called (is_barrier (intrinsic_in (name_in word))) (number_from (name_in word) 0 fs) at ps f
  own_top form word at ps f = no_more (points_top g ps f) (at_spot at 0 f) (spot_zero at f)

  same : (cap : ℕ) (at : Spot) (ps : List Point) (f : ℕ) →
      min (points_top g ps f) cap ≡ min (max (points_top g ps f) (at_spot at 0 f)) cap
  same cap at ps f = ap (λ n. min n cap) (no_more (points_top g ps f) (at_spot at 0 f) (spot_zero at f))

  -- two parts of one node that is around both
  two_inside : (at : Spot) (a b f : ℕ) → min (max (at_spot (deeper at) a f) (at_spot (deeper at) b f)) at.cap ≡
      min (at_spot at (lifted 1 (max a b)) f) at.cap
  two_inside at a b f = ap (λ n. min n at.cap) (sym (spot_max (deeper at) a b f)) ∙ spot_deeper at (max a b) f

  node_top : (branch : Bool) (at : Spot) (t v a b f : ℕ) →
      min v (entered at branch).cap ≡
      min (max t (max (at_spot (entered at branch) a f) (at_spot (entered at branch) b f))) (entered at branch).cap
      → min v at.cap ≡ min (max t (at_spot at (inside branch (max a b)) f)) at.cap
  node_top true at t v a b f h =
      h ∙ under t (max (at_spot (deeper at) a f) (at_spot (deeper at) b f)) (at_spot at (lifted 1 (max a b)) f) at.cap
      (two_inside at a b f)
  node_top false at t v a b f h = h ∙ ap (λ n. min (max t n) at.cap) (sym (spot_max at a b f))

  mutual
    top_of : (t : Syntax) (at : Spot) (ps : List Point) (f : ℕ) →
        min (points_top g (onto fs at t ps) f) at.cap ≡
        min (max (points_top g ps f) (at_spot at (height_of named t) f)) at.cap
    top_of (node form word first last parts) at ps f =
        let i : Spot = entered at (is_branch form) in
        let q : List Point = own_onto fs i form word ps in
        node_top (is_branch form) at (points_top g ps f) (points_top g (all_onto fs i parts q) f)
        (own_height named form word) (height_of_all named parts) f
        (chain (points_top g ps f) (points_top g q f) (points_top g (all_onto fs i parts q) f)
        (at_spot i (own_height named form word) f) (at_spot i (height_of_all named parts) f) i.cap
        (ap (λ n. min n i.cap) (own_top form word i ps f)) (top_of_all parts i q f))

    top_of_all : (ts : Forest) (at : Spot) (ps : List Point) (f : ℕ) →
        min (points_top g (all_onto fs at ts ps) f) at.cap ≡
        min (max (points_top g ps f) (at_spot at (height_of_all named ts) f)) at.cap
    top_of_all none at ps f = same at.cap at ps f
    top_of_all (more t ts) at ps f =
        chain (points_top g ps f) (points_top g (onto fs at t ps) f)
        (points_top g (all_onto fs at ts (onto fs at t ps)) f) (at_spot at (height_of named t) f)
        (at_spot at (height_of_all named ts) f) at.cap
        (top_of t at ps f) (top_of_all ts at (onto fs at t ps) f)
        ∙ ap (λ n. min (max (points_top g ps f) n) at.cap)
        (sym (spot_max at (height_of named t) (height_of_all named ts) f))

  -- the height of the function of a number, where the first of some has that number
  abbrev height_from : ℕ → List Syntax → ℕ → ℕ
  height_from n [] f = 0
  height_from n (t ∷ ts) f = max (if nat_eq n f then lifted 0 (height_of named t) else 0) (height_from (n + 1) ts f)

  abbrev first_spot : ℕ → ℕ → Spot
  first_spot cap n = record { caller = n; around = 0; cap = cap }

  functions_top : (cap : ℕ) (ts : List Syntax) (n : ℕ) (ps : List Point) (f : ℕ) →
      min (points_top g (functions_onto fs cap n ts ps) f) cap ≡ min (max (points_top g ps f) (height_from n ts f)) cap
  functions_top cap [] n ps f = ap (λ k. min k cap) (no_more (points_top g ps f) 0 refl)
  functions_top cap (t ∷ ts) n ps f =
      chain (points_top g ps f) (points_top g (onto fs (first_spot cap n) t ps) f)
      (points_top g (functions_onto fs cap (n + 1) ts (onto fs (first_spot cap n) t ps)) f)
      (at_spot (first_spot cap n) (height_of named t) f) (height_from (n + 1) ts f) cap
      (top_of t (first_spot cap n) ps f) (functions_top cap ts (n + 1) (onto fs (first_spot cap n) t ps) f)

  low : (ts : List Syntax) (n f : ℕ) → f < n → height_from n ts f ≡ 0
  low [] n f h = refl
  low (t ∷ ts) n f h =
      both_zero (if nat_eq n f then lifted 0 (height_of named t) else 0) (height_from (n + 1) ts f)
      (not_chosen (nat_eq n f) (lifted 0 (height_of named t)) 0 (is_other n f (λ e. absurd (omega arith))))
      (low ts (n + 1) f (omega arith))

  function_at : (ts : List Syntax) (n k f : ℕ) → f ≡ n + k → height_from n ts f ≡ function_height named (slice_get ts k)
  function_at [] n k f h = refl
  function_at (t ∷ ts) n zero f h =
      left_only (if nat_eq n f then lifted 0 (height_of named t) else 0) (height_from (n + 1) ts f) (height_of named t)
      (chosen (nat_eq n f) (lifted 0 (height_of named t)) 0 (is_same n f (omega arith)) ∙
      lifted_zero (height_of named t)) (low ts (n + 1) f (omega arith))
  function_at (t ∷ ts) n (suc k) f h =
      right_only (if nat_eq n f then lifted 0 (height_of named t) else 0) (height_from (n + 1) ts f)
      (function_height named (slice_get ts k))
      (not_chosen (nat_eq n f) (lifted 0 (height_of named t)) 0 (is_other n f (λ e. absurd (omega arith))))
      (function_at ts (n + 1) k f (omega arith))

  pub points_of_functions : (cap : ℕ) (ts : List Syntax) (f : ℕ) →
      min (points_top g (functions_onto fs cap 0 ts []) f) cap ≡ min (function_height named (slice_get ts f)) cap
  points_of_functions cap ts f =
      functions_top cap ts 0 [] f ∙ (first_zero (height_from 0 ts f) cap ∙
      ap (λ n. min n cap) (function_at ts 0 f f (omega arith)))
