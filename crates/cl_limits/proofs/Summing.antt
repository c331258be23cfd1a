-- Rounds of sums reach the totals.
use Rattle.std.proofs.Common.{◌≡◌, ◌≢◌, ℕ, zero, suc, ◌+◌, ◌≤◌, ◌<◌, min, Bool, true, false, nat_eq, nat_lt, List, []}
use Rattle.std.proofs.Common.{◌∷◌, length, map, get_or, refl, ap, sym, subst, ◌∙◌, inl, inr, arith, if◌then◌else◌}
use Rattle.std.specs.Prelude.{slice_get}
use Rattle.std.proofs.lemmas.Bool.{cases_lt, cases_eq}
use Rattle.std.proofs.lemmas.Bool.Decides.{nat_tests}
use Rattle.cl_meaning.specs.Faults.{Call}
use Rattle.cl_limits.specs.Limits.{called_sum, with_called, total, whole}
use Rattle.cl_limits.specs.Rounds.{with_call, with_calls, next_totals, totals_after}
use Rattle.cl_limits.proofs.Lists.{chosen, not_chosen, zeros_at, zeros_length, beyond, capped_at, capped_length}
use Rattle.cl_limits.proofs.Lists.{set_length, set_here, set_elsewhere, capped_zero}

pub is_below : (a n : ℕ) → a < n → nat_lt a n ≡ true
is_below a n h = grind (arith, nat_tests)

pub is_same : (a b : ℕ) → a ≡ b → nat_eq a b ≡ true
is_same a b h = grind (arith, nat_tests)

pub is_other : (a b : ℕ) → a ≢ b → nat_eq a b ≡ false
is_other a b h = grind (arith, nat_tests)

joined_here : (a b s k g r cap : ℕ) → a ≡ min (k + g) cap → k ≡ s → b ≡ g → min (a + r) cap ≡ min (s + (b + r)) cap
joined_here a b s k g r cap e f h = omega arith

joined_elsewhere : (a b s r cap : ℕ) → a ≡ s → b ≡ 0 → min (a + r) cap ≡ min (s + (b + r)) cap
joined_elsewhere a b s r cap e h = omega arith

-- one call
step : (cap : ℕ) (counts sums : List ℕ) (c : Call) (f r : ℕ) → f < length sums
    → min (get_or (with_call cap counts sums c) f 0 + r) cap ≡
    min (get_or sums f 0 + ((if nat_eq c.caller f then get_or counts c.called 0 else 0) + r)) cap
step cap counts sums c f r h = elim (cases_eq c.caller f) [
  | inl e ↦ joined_here (get_or (with_call cap counts sums c) f 0) (if nat_eq c.caller f then get_or counts c.called 0
      else 0) (get_or sums f 0) (get_or sums c.caller 0) (get_or counts c.called 0) r cap
      (set_here (nat_lt c.caller (length sums)) sums c.caller (min (get_or sums c.caller 0 + get_or counts c.called 0)
      cap) f (is_below c.caller (length sums) (omega arith)) e h)
      (ap (λ k. get_or sums k 0) e)
      (chosen (nat_eq c.caller f) (get_or counts c.called 0) 0 (is_same c.caller f e))
  | inr e ↦ joined_elsewhere (get_or (with_call cap counts sums c) f 0)
      (if nat_eq c.caller f then get_or counts c.called 0 else 0) (get_or sums f 0) r cap
      (set_elsewhere (nat_lt c.caller (length sums)) sums c.caller
      (min (get_or sums c.caller 0 + get_or counts c.called 0) cap) f e)
      (not_chosen (nat_eq c.caller f) (get_or counts c.called 0) 0 (is_other c.caller f e))
]

within : (cap : ℕ) (counts sums : List ℕ) (c : Call) (f : ℕ) → f < length sums → get_or sums f 0 ≤ cap →
    get_or (with_call cap counts sums c) f 0 ≤ cap
within cap counts sums c f h k = elim (cases_eq c.caller f) [
  | inl e ↦ (let s : get_or (with_call cap counts sums c) f 0 ≡
      min (get_or sums c.caller 0 + get_or counts c.called 0) cap = set_here (nat_lt c.caller (length sums)) sums
      c.caller (min (get_or sums c.caller 0 + get_or counts c.called 0) cap) f
      (is_below c.caller (length sums) (omega arith)) e h in
      subst (λ n. n ≤ cap) (sym s) (omega arith))
  | inr e ↦ subst (λ n. n ≤ cap)
      (sym (set_elsewhere (nat_lt c.caller (length sums)) sums c.caller
      (min (get_or sums c.caller 0 + get_or counts c.called 0) cap) f e)) k
]

call_length : (cap : ℕ) (counts sums : List ℕ) (c : Call) → length (with_call cap counts sums c) ≡ length sums
call_length cap counts sums c =
    set_length (nat_lt c.caller (length sums)) sums c.caller (min (get_or sums c.caller 0 + get_or counts c.called 0)
    cap)

calls_length : (cap : ℕ) (counts : List ℕ) (cs : List Call) (sums : List ℕ) →
    length (with_calls cap counts sums cs) ≡ length sums
calls_length cap counts [] sums = refl
calls_length cap counts (c ∷ cs) sums =
    calls_length cap counts cs (with_call cap counts sums c) ∙ call_length cap counts sums c

-- all calls
sums_at : (cap : ℕ) (counts : List ℕ) (cs : List Call) (sums : List ℕ) (f : ℕ) → f < length sums → get_or sums f 0 ≤ cap
    → get_or (with_calls cap counts sums cs) f 0 ≡ min (get_or sums f 0 + called_sum (λ k. get_or counts k 0) cs f) cap
sums_at cap counts [] sums f h k = omega arith
sums_at cap counts (c ∷ cs) sums f h k =
    sums_at cap counts cs (with_call cap counts sums c) f (subst (λ n. f < n) (sym (call_length cap counts sums c)) h)
    (within cap counts sums c f h k)
    ∙ step cap counts sums c f (called_sum (λ k. get_or counts k 0) cs f) h

chosen_cap : (b : Bool) (x y cap : ℕ) → x ≡ min y cap → min (if b then x else 0) cap ≡ min (if b then y else 0) cap
chosen_cap true x y cap h = omega arith
chosen_cap false x y cap h = refl

sum_cap : (p q r s cap : ℕ) → min p cap ≡ min q cap → min r cap ≡ min s cap → min (p + r) cap ≡ min (q + s) cap
sum_cap p q r s cap h k = omega arith

-- the cap of what is called can be taken first
called_cap : (cap : ℕ) (counts : List ℕ) (g : ℕ → ℕ) → ((k : ℕ) → get_or counts k 0 ≡ min (g k) cap) →
    (cs : List Call) (f : ℕ)
    → min (called_sum (λ k. get_or counts k 0) cs f) cap ≡ min (called_sum g cs f) cap
called_cap cap counts g h [] f = refl
called_cap cap counts g h (c ∷ cs) f =
    sum_cap (if nat_eq c.caller f then get_or counts c.called 0 else 0) (if nat_eq c.caller f then g c.called else 0)
    (called_sum (λ k. get_or counts k 0) cs f) (called_sum g cs f) cap
    (chosen_cap (nat_eq c.caller f) (get_or counts c.called 0) (g c.called) cap (h c.called))
    (called_cap cap counts g h cs f)

pub own_there : (own : List ℕ) (f s : ℕ) → f < length own → with_called (slice_get own f) s ≡ get_or own f 0 + s
own_there [] f s h = absurd (omega arith)
own_there (x ∷ xs) zero s h = refl
own_there (x ∷ xs) (suc f) s h = own_there xs f s (omega arith)

pub own_absent : (own : List ℕ) (f s : ℕ) → length own ≤ f → with_called (slice_get own f) s ≡ 0
own_absent [] f s h = refl
own_absent (x ∷ xs) zero s h = absurd (omega arith)
own_absent (x ∷ xs) (suc f) s h = own_absent xs f s (omega arith)

next_length : (cap : ℕ) (own : List ℕ) (calls : List Call) (counts : List ℕ) →
    length (next_totals cap own calls counts) ≡ length own
next_length cap own calls counts = calls_length cap counts calls (map (λ n. min n cap) own) ∙ capped_length cap own

there : (m o r s w cap : ℕ) → m ≡ min o cap → min r cap ≡ min s cap → w ≡ o + s → min (m + r) cap ≡ min w cap
there m o r s w cap e h k = omega arith

-- one round
next_at : (cap : ℕ) (own : List ℕ) (calls : List Call) (counts : List ℕ) (g : ℕ → ℕ) →
    ((k : ℕ) → get_or counts k 0 ≡ min (g k) cap) → (f : ℕ)
    → get_or (next_totals cap own calls counts) f 0 ≡ min (with_called (slice_get own f) (called_sum g calls f)) cap
next_at cap own calls counts g h f = elim (cases_lt f (length own)) [
  | inl l ↦ (let m : get_or (map (λ n. min n cap) own) f 0 ≡ min (get_or own f 0) cap = capped_at cap own f in
      sums_at cap counts calls (map (λ n. min n cap) own) f (subst (λ n. f < n) (sym (capped_length cap own)) l)
      (subst (λ n. n ≤ cap) (sym m) (omega arith))
      ∙ there (get_or (map (λ n. min n cap) own) f 0) (get_or own f 0) (called_sum (λ k. get_or counts k 0) calls f)
      (called_sum g calls f) (with_called (slice_get own f) (called_sum g calls f)) cap
      m (called_cap cap counts g h calls f) (own_there own f (called_sum g calls f) l))
  | inr l ↦ capped_zero (get_or (next_totals cap own calls counts) f 0) cap
      (beyond (next_totals cap own calls counts) f (subst (λ n. n ≤ f) (sym (next_length cap own calls counts)) l))
      ∙ sym (ap (λ n. min n cap) (own_absent own f (called_sum g calls f) l))
]

pub totals_length : (n cap : ℕ) (own : List ℕ) (calls : List Call) → length (totals_after n cap own calls) ≡ length own
totals_length zero cap own calls = zeros_length (length own)
totals_length (suc n) cap own calls = next_length cap own calls (totals_after n cap own calls)

-- after so many rounds
pub totals_at : (n cap : ℕ) (own : List ℕ) (calls : List Call) (f : ℕ) →
    get_or (totals_after n cap own calls) f 0 ≡ min (total n own calls f) cap
unfolding total
totals_at zero cap own calls f =
    capped_zero (get_or (totals_after zero cap own calls) f 0) cap (zeros_at (length own) f)
totals_at (suc n) cap own calls f =
    next_at cap own calls (totals_after n cap own calls) (total n own calls) (totals_at n cap own calls) f

-- a round that changes nothing is the last one
pub steady : (m n cap : ℕ) (own : List ℕ) (calls : List Call) (xs : List ℕ) → n ≤ m →
    xs ≡ totals_after n cap own calls → next_totals cap own calls xs ≡ xs → xs ≡ totals_after m cap own calls
steady zero n cap own calls xs h e k = let z : n ≡ zero = omega arith in e ∙ ap (λ i. totals_after i cap own calls) z
steady (suc m) n cap own calls xs h e k = elim (cases_lt n (suc m)) [
  | inl l ↦ sym k ∙ ap (next_totals cap own calls) (steady m n cap own calls xs (omega arith) e k)
  | inr l ↦ (let z : n ≡ suc m = omega arith in e ∙ ap (λ i. totals_after i cap own calls) z)
]

pub totals_are : (cap : ℕ) (own : List ℕ) (calls : List Call) (xs : List ℕ) →
    xs ≡ totals_after (length own) cap own calls → (f : ℕ) → get_or xs f 0 ≡ min (whole own calls f) cap
totals_are cap own calls xs e f = ap (λ ys. get_or ys f 0) e ∙ totals_at (length own) cap own calls f

pub totals_size : (cap : ℕ) (own : List ℕ) (calls : List Call) (xs : List ℕ) →
    xs ≡ totals_after (length own) cap own calls → length xs ≡ length own
totals_size cap own calls xs e = ap length e ∙ totals_length (length own) cap own calls
