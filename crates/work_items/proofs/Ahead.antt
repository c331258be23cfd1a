-- Clean launches by looking ahead: what an item does in its next so many steps is computed, and no list of its states
-- is needed.
use Rattle.std.proofs.Common.{◌≡◌, ◌⊎◌, ℕ, zero, suc, ◌<◌, length, Some, None, slice_get, true}
use Rattle.work_items.specs.Memory.{Access, is_in_range}
use Rattle.work_items.specs.Items.{Next, Ends, Waits, Goes, Begins, Loads, Stores, Machine, World}
use Rattle.work_items.specs.Memory.{Overlap}
use Rattle.work_items.specs.Clean.{IsClean}
use Rattle.work_items.proofs.Own.{Owns, owners_clean}
use Rattle.work_items.proofs.Phases.{Plan, Follows, KeepApart, phases_clean}

-- the item ends within so many steps, waits nowhere, begins no iteration, and touches its own elements alone
abbrev pub OwnsAhead : {S : Type 0} → (S → Next S) → (ℕ → Access → Type 0) → ℕ → ℕ → S → Type 0
OwnsAhead next Mine zero item s = ⊥
OwnsAhead next Mine (suc n) item s = Owns (λ i t. OwnsAhead next Mine n i t) Mine item (next s)

owns_more : {S : Type 0} (One Other : ℕ → S → Type 0) (Mine : ℕ → Access → Type 0) →
    ((i : ℕ) (s : S) → One i s → Other i s) → (i : ℕ) (n : Next S) → Owns One Mine i n → Owns Other Mine i n
owns_more One Other Mine f i Ends o = o
owns_more One Other Mine f i (Waits site after) o = o
owns_more One Other Mine f i (Goes after) o = f i after o
owns_more One Other Mine f i (Begins after) o = o
owns_more One Other Mine f i (Loads site access after) o = (o.0, λ bytes. f i (after bytes) (o.1 bytes))
owns_more One Other Mine f i (Stores site object index bytes after) o = (o.0, f i after o.1)

module _ {S P : Type 0} (machine : Machine S P) (Mine : ℕ → Access → Type 0) (apart : (i j : ℕ) (a b : Access) →
    (i ≡ j → ⊥) → Mine i a → Mine j b → Overlap a b → ⊥) where
  abbrev Known : ℕ → S → Type 0
  Known i s = (n : ℕ) × OwnsAhead machine.next Mine n i s

  known_owns : (i : ℕ) (s : S) → Known i s → Owns Known Mine i (machine.next s)
  known_owns i s (zero, h) = absurd h
  known_owns i s (suc n, h) =
      owns_more (λ i t. OwnsAhead machine.next Mine n i t) Known Mine (λ i t o. (n, o)) i (machine.next s) h

  -- items that each touch their own elements alone
  pub ahead_clean : (start : World S) (bound n : ℕ) → start.fault ≡ None →
      ((i : ℕ) (s : S) → slice_get start.items i ≡ Some s → OwnsAhead machine.next Mine n i s)
      → ((i : ℕ) (a : Access) → i < length start.items → Mine i a → is_in_range start.memory a ≡ true) →
      IsClean machine start bound
  ahead_clean start bound n calm on in_range =
      owners_clean machine Known Mine known_owns apart start bound calm (λ i s at. (n, on i s at)) in_range

-- the same with barriers, which end phases: what is read and written in each, the last phase, and the point of the
-- barrier that ends another
pub record Phased (P : Type 0) : Type 1 where
  pub Reads : ℕ → ℕ → Access → Type 0
  pub Writes : ℕ → ℕ → Access → Type 0
  pub last : ℕ
  pub point_at : ℕ → P

abbrev pub with_states : {S P : Type 0} → Phased P → (ℕ → ℕ → S → Type 0) → Plan S P
with_states phased On =
    record { On = On; Reads = phased.Reads; Writes = phased.Writes; last = phased.last; point_at = phased.point_at }

-- the item, in a phase, ends within so many steps, and in each phase touches what is said alone
abbrev pub FollowsAhead : {S P : Type 0} → Machine S P → Phased P → ℕ → ℕ → ℕ → S → Type 0
FollowsAhead machine phased zero phase item s = ⊥
FollowsAhead machine phased (suc n) phase item s =
    Follows (with_states phased (λ p i t. FollowsAhead machine phased n p i t)) phase item (machine.point s)
    (machine.next s)

follows_more : {S P : Type 0} (phased : Phased P) (One Other : ℕ → ℕ → S → Type 0) →
    ((p i : ℕ) (s : S) → One p i s → Other p i s) → (p i : ℕ) (point : P) (n : Next S)
    → Follows (with_states phased One) p i point n → Follows (with_states phased Other) p i point n
follows_more phased One Other f p i point Ends o = o
follows_more phased One Other f p i point (Waits site after) o = (o.0, o.1, f (suc p) i after o.2)
follows_more phased One Other f p i point (Goes after) o = f p i after o
follows_more phased One Other f p i point (Begins after) o = o
follows_more phased One Other f p i point (Loads site access after) o = (o.0, λ bytes. f p i (after bytes) (o.1 bytes))
follows_more phased One Other f p i point (Stores site object index bytes after) o = (o.0, f p i after o.1)

module _ {S P : Type 0} (machine : Machine S P) (phased : Phased P) (count : ℕ)
    (writes_apart : KeepApart machine.group count phased.Writes phased.Writes)
    (reads_apart : KeepApart machine.group count phased.Writes phased.Reads) where
  abbrev KnownIn : ℕ → ℕ → S → Type 0
  KnownIn p i s = (n : ℕ) × FollowsAhead machine phased n p i s

  known_follows : (p i : ℕ) (s : S) → KnownIn p i s →
      Follows (with_states phased KnownIn) p i (machine.point s) (machine.next s)
  known_follows p i s (zero, h) = absurd h
  known_follows p i s (suc n, h) =
      follows_more phased (λ p i t. FollowsAhead machine phased n p i t) KnownIn (λ p i t o. (n, o)) p i
      (machine.point s) (machine.next s) h

  -- items that follow the phases
  pub phases_ahead_clean : (start : World S) (bound n : ℕ) → start.fault ≡ None → length start.items ≡ count →
      ((i : ℕ) (s : S) → slice_get start.items i ≡ Some s → FollowsAhead machine phased n 0 i s)
      → ((p i : ℕ) (a : Access) → i < count → phased.Reads p i a ⊎ phased.Writes p i a →
      is_in_range start.memory a ≡ true) → IsClean machine start bound
  phases_ahead_clean start bound n calm many on in_range =
      phases_clean machine (with_states phased KnownIn) count known_follows writes_apart reads_apart start bound calm
      many (λ i s at. (n, on i s at)) in_range
