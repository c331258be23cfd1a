-- Two next steps that don't conflict: neither changes what the other does.
use Rattle.std.proofs.Common.{◌≡◌, ℕ, Bool, true, false, cond, length, Some, None, refl, sym, ap}
use Rattle.work_items.specs.Memory.{Memory, Access, Overlap}
use Rattle.work_items.specs.Items.{Next, Ends, Waits, Goes, Begins, Loads, Stores, fault_of, memory_after, state_after}
use Rattle.work_items.specs.Runs.{Conflict}
use Rattle.work_items.proofs.MemoryLemmas.{is_in_range-stored, loaded-stored, stored-stored}

in_range_from : (b : Bool) (site : ℕ) → cond b None (Some site) ≡ None → b ≡ true
in_range_from true site e = refl
in_range_from false site e = cc

overlap_sym : (a b : Access) → Overlap a b → Overlap b a
overlap_sym a b o = (sym o.0, (o.1.0, o.1.2, o.1.1))

pub conflict_sym : {S T : Type 0} (n : Next S) (n' : Next T) → Conflict n n' → Conflict n' n
conflict_sym (Loads s a f) (Stores s' o i bs f') c = overlap_sym a _ c
conflict_sym (Stores s o i bs f) (Loads s' a f') c = overlap_sym _ a c
conflict_sym (Stores s o i bs f) (Stores s' o' i' bs' f') c = overlap_sym _ _ c
conflict_sym (Loads s a f) (Loads s' a' f') c = c
conflict_sym (Loads s a f) Ends c = c
conflict_sym (Loads s a f) (Waits s' f') c = c
conflict_sym (Loads s a f) (Goes f') c = c
conflict_sym (Loads s a f) (Begins f') c = c
conflict_sym (Stores s o i bs f) Ends c = c
conflict_sym (Stores s o i bs f) (Waits s' f') c = c
conflict_sym (Stores s o i bs f) (Goes f') c = c
conflict_sym (Stores s o i bs f) (Begins f') c = c
conflict_sym Ends n' c = absurd c
conflict_sym (Waits s f) n' c = absurd c
conflict_sym (Goes f) n' c = absurd c
conflict_sym (Begins f) n' c = absurd c

-- what is in range stays so
pub fault_of-memory_after : {S T : Type 0} (m : Memory) (n : Next S) (n' : Next T) →
    fault_of (memory_after m n) n' ≡ fault_of m n'
fault_of-memory_after m (Stores s o i bs f) (Loads s' a f') =
    ap (λ b. cond b None (Some s')) (is_in_range-stored m o i bs a)
fault_of-memory_after m (Stores s o i bs f) (Stores s' o' i' bs' f') =
    ap (λ b. cond b None (Some s')) (is_in_range-stored m o i bs (record {
      object = o';
      size = length bs';
      index = i';
    }))
fault_of-memory_after m (Stores s o i bs f) Ends = refl
fault_of-memory_after m (Stores s o i bs f) (Waits s' f') = refl
fault_of-memory_after m (Stores s o i bs f) (Goes f') = refl
fault_of-memory_after m (Stores s o i bs f) (Begins f') = refl
fault_of-memory_after m (Loads s a f) n' = refl
fault_of-memory_after m Ends n' = refl
fault_of-memory_after m (Waits s f) n' = refl
fault_of-memory_after m (Goes f) n' = refl
fault_of-memory_after m (Begins f) n' = refl

-- a step leads to the same state after a step that doesn't conflict
pub state_after-memory_after : {S T : Type 0} (m : Memory) (n : Next S) (t : T) (n' : Next T) → fault_of m n ≡ None →
    fault_of m n' ≡ None → (Conflict n n' → ⊥) → state_after (memory_after m n) t n' ≡ state_after m t n'
state_after-memory_after m (Stores s o i bs f) t (Loads s' a f') p q h =
    ap f' (loaded-stored m a o i bs (in_range_from _ s' q) (in_range_from _ s p) (λ c. h (overlap_sym a _ c)))
state_after-memory_after m (Stores s o i bs f) t (Stores s' o' i' bs' f') p q h = refl
state_after-memory_after m (Stores s o i bs f) t Ends p q h = refl
state_after-memory_after m (Stores s o i bs f) t (Waits s' f') p q h = refl
state_after-memory_after m (Stores s o i bs f) t (Goes f') p q h = refl
state_after-memory_after m (Stores s o i bs f) t (Begins f') p q h = refl
state_after-memory_after m (Loads s a f) t n' p q h = refl
state_after-memory_after m Ends t n' p q h = refl
state_after-memory_after m (Waits s f) t n' p q h = refl
state_after-memory_after m (Goes f) t n' p q h = refl
state_after-memory_after m (Begins f) t n' p q h = refl

-- the two lead to one memory
pub memory_after-memory_after : {S T : Type 0} (m : Memory) (n : Next S) (n' : Next T) → fault_of m n ≡ None →
    fault_of m n' ≡ None → (Conflict n n' → ⊥) → memory_after (memory_after m n) n' ≡ memory_after (memory_after m n') n
memory_after-memory_after m (Stores s o i bs f) (Stores s' o' i' bs' f') p q h =
    stored-stored m o o' i i' bs bs' (in_range_from _ s p) (in_range_from _ s' q) h
memory_after-memory_after m (Stores s o i bs f) (Loads s' a f') p q h = refl
memory_after-memory_after m (Stores s o i bs f) Ends p q h = refl
memory_after-memory_after m (Stores s o i bs f) (Waits s' f') p q h = refl
memory_after-memory_after m (Stores s o i bs f) (Goes f') p q h = refl
memory_after-memory_after m (Stores s o i bs f) (Begins f') p q h = refl
memory_after-memory_after m (Loads s a f) n' p q h = refl
memory_after-memory_after m Ends n' p q h = refl
memory_after-memory_after m (Waits s f) n' p q h = refl
memory_after-memory_after m (Goes f) n' p q h = refl
memory_after-memory_after m (Begins f) n' p q h = refl
