-- Parts nested to the left, one at a time.
use Rattle.std.proofs.Common.{Bool, true, false, ◌≡◌, ℕ, zero, suc, ◌-◌, ◌<◌, List, length, refl, arith, ap, ◌∙◌}
use Rattle.std.specs.Prelude.{nat_le}
use Rattle.cl_tree.specs.declared.terminal.Leaf.{Leaf}
use Rattle.cl_tree.specs.declared.terminal.Terminal.{Terminal}
use Rattle.cl_tree.specs.Syntax.{Syntax, nesting}
use Rattle.cl_read.specs.Reading.{Got, Deep, Reader, after, begins, chain}

module _ (room : ℕ) (test : Terminal → Bool) (step : Syntax → Reader Syntax) where
  pub chain_stops : (n : ℕ) (l : Syntax) (ts : List Leaf) → begins test ts ≡ false →
      chain room test step n l ts ≡ Got l ts
  unfolding chain
  chain_stops zero l ts h = rw h refl
  chain_stops (suc n) l ts h = rw h refl

  pub chain_ends : (l : Syntax) (ts : List Leaf) → begins test ts ≡ true →
      chain room test step 0 l ts ≡ Deep (length ts)
  unfolding chain
  chain_ends l ts h = rw h refl

  pub chain_full : (n : ℕ) (l : Syntax) (ts : List Leaf) → begins test ts ≡ true → nat_le (nesting l) room ≡ false →
      chain room test step n l ts ≡ Deep (length ts)
  unfolding chain
  chain_full zero l ts h e = rw h refl
  chain_full (suc n) l ts h e = rw (h, e) refl

  pub chain_goes : (n : ℕ) (l : Syntax) (ts : List Leaf) → begins test ts ≡ true → nat_le (nesting l) room ≡ true →
      0 < n → chain room test step n l ts ≡ after (step l ts) (chain room test step (n - 1))
  unfolding chain
  chain_goes n l ts h e lt =
      let s : n ≡ suc (n - 1) = omega arith in
      let one : chain room test step n l ts ≡ chain room test step (suc (n - 1)) l ts =
      ap (λ m. chain room test step m l ts) s in
      one ∙ (rw (h, e) refl)
