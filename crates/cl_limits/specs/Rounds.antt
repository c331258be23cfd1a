-- Counts of functions, round by round: in each, every function counts what it has itself and what it calls, as the
-- round before had it. Counts above the cap are the cap.
use Rattle.std.specs.Prelude.{ℕ, zero, suc, ◌+◌, nat_lt, min, max, List, [], ◌∷◌, map, length, replicate, slice_index}
use Rattle.std.specs.Prelude.{slice_set, Option, None, Some, if◌then◌else◌}
use Rattle.cl_meaning.specs.Faults.{Call}
use Rattle.cl_limits.specs.Heights.{lifted}
use Rattle.cl_limits.specs.declared.points.Point.{Point}

-- what is called, added to the sum of the caller
abbrev pub with_call : (cap : ℕ) (counts sums : List ℕ) → Call → List ℕ
with_call cap counts sums c = if nat_lt c.caller (length sums) then slice_set sums c.caller
    (min (slice_index sums c.caller + slice_index counts c.called) cap) else sums

abbrev pub with_calls : (cap : ℕ) (counts sums : List ℕ) → List Call → List ℕ
with_calls cap counts sums [] = sums
with_calls cap counts sums (c ∷ cs) = with_calls cap counts (with_call cap counts sums c) cs

abbrev pub next_totals : (cap : ℕ) (own : List ℕ) → List Call → List ℕ → List ℕ
next_totals cap own calls counts = with_calls cap counts (map (λ n. min n cap) own) calls

abbrev pub totals_after : ℕ → (cap : ℕ) (own : List ℕ) → List Call → List ℕ
totals_after zero cap own calls = replicate (length own) 0
totals_after (suc n) cap own calls = next_totals cap own calls (totals_after n cap own calls)

-- the height of what stands at a point: a barrier, or a call
abbrev pub point_height : List ℕ → Option ℕ → ℕ
point_height heights None = 1
point_height heights (Some f) = slice_index heights f

abbrev pub with_point : (cap : ℕ) (heights tops : List ℕ) → Point → List ℕ
with_point cap heights tops p =
    if nat_lt p.caller (length tops) then slice_set tops p.caller
    (min (max (slice_index tops p.caller) (lifted p.around (point_height heights p.called))) cap) else tops

abbrev pub with_points : (cap : ℕ) (heights tops : List ℕ) → List Point → List ℕ
with_points cap heights tops [] = tops
with_points cap heights tops (p ∷ ps) = with_points cap heights (with_point cap heights tops p) ps

abbrev pub next_heights : (cap count : ℕ) → List Point → List ℕ → List ℕ
next_heights cap count points heights = with_points cap heights (replicate count 0) points

abbrev pub heights_after : ℕ → (cap count : ℕ) → List Point → List ℕ
heights_after zero cap count points = replicate count 0
heights_after (suc n) cap count points = next_heights cap count points (heights_after n cap count points)
