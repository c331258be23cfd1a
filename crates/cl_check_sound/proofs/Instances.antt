-- The functions that a kernel runs have no more nodes than the limit allows.
use Rattle.std.proofs.Common.{◌≡◌, ℕ, zero, suc, ◌+◌, ◌*◌, ◌≤◌, nat_eq, List, [], ◌∷◌, ◌++◌, Some, Bool, true, false}
use Rattle.std.proofs.Common.{if◌then◌else◌, refl, ap, inl, inr, ◌⊎◌, arith, slice_get}
use Rattle.std.specs.Prelude.{sum_by, flat_map}
use Rattle.std.proofs.lemmas.List.Sums.{sum_by-cons, sum_by-append}
use Rattle.std.proofs.lemmas.List.Concat.{flat_map-cons}
use Rattle.cl_model.specs.Tree.{Program}
use Rattle.cl_model.specs.Calls.{CallSite, calls_of_all, function_at, Instance, instances_below}
use Rattle.cl_model.specs.Valid.{nodes_of_all}
use Rattle.cl_limits.specs.Limits.{called_sum, with_called, total}
use Rattle.cl_meaning.specs.Faults.{Call}
use Rattle.cl_check_sound.proofs.Tallies.{sum_calls}

-- what a number of times more is counted
times_called : (t : ℕ → ℕ) (cs : List Call) (f : ℕ) → called_sum (λ x. 16 * t x) cs f ≡ 16 * called_sum t cs f
times_called t [] f = refl
times_called t (c ∷ cs) f = let e = times_called t cs f in by (nat_eq c.caller f) e
  where
    by : (b : Bool) → called_sum (λ x. 16 * t x) cs f ≡ 16 * called_sum t cs f →
        (if b then 16 * t c.called else 0) + called_sum (λ x. 16 * t x) cs f ≡ 16 *
        ((if b then t c.called else 0) + called_sum t cs f)
    by true e = omega arith
    by false e = omega arith

abbrev nodes_at : Program → Instance → ℕ
nodes_at P i = nodes_of_all (function_at P i.function).body

-- a function is not there, or its nodes and calls are counted
abbrev pub Counted : Program → List ℕ → List Call → ℕ → Type 0
Counted P own calls f =
    ((nodes_of_all (function_at P f).body ≡ 0) × (calls_of_all (function_at P f).body ≡ []))
    ⊎ ((w : ℕ) × (slice_get own f ≡ Some w) × (nodes_of_all (function_at P f).body ≤ 16 * w) ×
    ((c : ℕ → ℕ) → sum_calls c (calls_of_all (function_at P f).body) ≤ called_sum c calls f))

module _ (P : Program) (own : List ℕ) (calls : List Call) (small : (f : ℕ) → Counted P own calls f) where
  -- the instances behind some calls
  behind_calls : (depth : ℕ) (path : List ℕ) (cs : List CallSite) →
      ((path : List ℕ) (f : ℕ) → sum_by (nodes_at P) (instances_below P depth path f) ≤ 16 * total depth own calls f) →
      sum_by (nodes_at P) (flat_map (λ (c : CallSite). instances_below P depth (path ++ c.site ∷ []) c.function) cs) ≤
      sum_calls (λ x. 16 * total depth own calls x) cs
  behind_calls depth path [] h = omega arith
  behind_calls depth path (c ∷ cs) h =
      let g : CallSite → List Instance = λ (c : CallSite). instances_below P depth (path ++ c.site ∷ []) c.function in
      let a = h (path ++ c.site ∷ []) c.function in
      let b = behind_calls depth path cs h in
      let e = ap (sum_by (nodes_at P)) (flat_map-cons g c cs) in
      let d = sum_by-append (nodes_at P) (g c) (flat_map g cs) in
      omega arith

  counted_by : (depth : ℕ) (path : List ℕ) (f : ℕ) →
      ((path : List ℕ) (f : ℕ) → sum_by (nodes_at P) (instances_below P depth path f) ≤ 16 *
      total depth own calls f) → Counted P own calls f →
      sum_by (nodes_at P) (instances_below P (suc depth) path f) ≤ 16 * total (suc depth) own calls f
  unfolding total
  counted_by depth path f h (inl (n, c)) =
      let i : Instance = record { path = path; function = f } in
      let rest : List Instance = flat_map (λ (c : CallSite). instances_below P depth (path ++ c.site ∷ []) c.function)
      (calls_of_all (function_at P f).body) in
      let b = behind_calls depth path (calls_of_all (function_at P f).body) h in
      let e = ap (sum_calls (λ x. 16 * total depth own calls x)) c in
      let d = sum_by-cons (nodes_at P) i rest in
      omega arith
  counted_by depth path f h (inr (w, e, n, c)) =
      let i : Instance = record { path = path; function = f } in
      let rest : List Instance = flat_map (λ (c : CallSite). instances_below P depth (path ++ c.site ∷ []) c.function)
      (calls_of_all (function_at P f).body) in
      let b = behind_calls depth path (calls_of_all (function_at P f).body) h in
      let k = c (λ x. 16 * total depth own calls x) in
      let t = times_called (total depth own calls) calls f in
      let d = sum_by-cons (nodes_at P) i rest in
      let o = ap (λ z. with_called z (called_sum (total depth own calls) calls f)) e in
      omega arith

  pub instances_counted : (depth : ℕ) (path : List ℕ) (f : ℕ) → sum_by (nodes_at P) (instances_below P depth path f) ≤
      16 * total depth own calls f
  instances_counted zero path f = omega arith
  instances_counted (suc depth) path f = counted_by depth path f (λ p x. instances_counted depth p x) (small f)
