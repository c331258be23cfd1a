-- A launch in phases: a barrier ends each but the last, and within one no item touches what another of its group
-- writes, nor ever what one of another group writes.
use Rattle.std.proofs.Common.{◌≡◌, ◌≢◌, ◌⊎◌, ℕ, suc, ◌<◌, true, cond, nat_eq, List, [], ◌∷◌, length, Option, Some}
use Rattle.std.proofs.Common.{None, slice_get, slice_set, option_map, refl, sym, ap, ◌∙◌, subst, inl, inr, arith}
use Rattle.std.proofs.Common.{length-set, eq-eqb, ne_eqb}
use Rattle.std.proofs.lemmas.Bool.{cases_eq}
use Rattle.std.proofs.lemmas.Option.{slice_get_within, none-some, same_Some}
use Rattle.work_items.specs.Memory.{Memory, Access, bytes_of, has_element, is_in_range, loaded, Overlap}
use Rattle.work_items.specs.Items.{Next, Ends, Waits, Goes, Begins, Loads, Stores, Machine, World, Move, Step}
use Rattle.work_items.specs.Items.{Release, HasStep, HasEnded, IsWaiting, fault_of, state_after, after_wait}
use Rattle.work_items.specs.Items.{IsPossible, released, moved}
use Rattle.work_items.specs.Runs.{world_after, IsRun, IsOver, turns, turns_of, turns_of_step, Conflict}
use Rattle.work_items.specs.Clean.{IsClean}
use Rattle.work_items.proofs.Lists.{get-set_same, get-set_other}
use Rattle.work_items.proofs.Diamond.{moved-step, length-released_from, released_other}
use Rattle.work_items.proofs.Own.{length-memory_after}
use Rattle.work_items.proofs.Lift.{get-released, released_in}

-- what the step of an item does in a phase: of all that it can touch, and where it leads
pub record Plan (S P : Type 0) : Type 1 where
  pub On : ℕ → ℕ → S → Type 0
  pub Reads : ℕ → ℕ → Access → Type 0
  pub Writes : ℕ → ℕ → Access → Type 0
  -- the last phase, and the point of the barrier that ends another
  pub last : ℕ
  pub point_at : ℕ → P

abbrev pub Follows : {S P : Type 0} → Plan S P → ℕ → ℕ → P → Next S → Type 0
Follows plan phase item point Ends = phase ≡ plan.last
Follows plan phase item point (Waits site after) =
    (phase < plan.last) × (point ≡ plan.point_at phase) × plan.On (suc phase) item after
Follows plan phase item point (Goes after) = plan.On phase item after
Follows plan phase item point (Begins after) = ⊥
Follows plan phase item point (Loads site access after) =
    plan.Reads phase item access × ((bytes : List ℕ) → plan.On phase item (after bytes))
Follows plan phase item point (Stores site object index bytes after) =
    plan.Writes phase item (record { object = object; size = length bytes; index = index }) × plan.On phase item after

-- two items, their phases and what they touch; in one group the phases are one
abbrev pub KeepApart : (ℕ → ℕ) → ℕ → (ℕ → ℕ → Access → Type 0) → (ℕ → ℕ → Access → Type 0) → Type 0
KeepApart group count One Other = (i j p q : ℕ) (a b : Access) → i < count → j < count → i ≢ j →
    (group i ≡ group j → p ≡ q) → One p i a → Other q j b → Overlap a b → ⊥

module _ {S P : Type 0} (machine : Machine S P) (plan : Plan S P) (count : ℕ)
    (follows : (p i : ℕ) (s : S) → plan.On p i s → Follows plan p i (machine.point s) (machine.next s))
    (writes_apart : KeepApart machine.group count plan.Writes plan.Writes)
    (reads_apart : KeepApart machine.group count plan.Writes plan.Reads) where
  record IsPhased (start world : World S) : Type 0 where
    phase : ℕ → ℕ
    calm : world.fault ≡ None
    on : (i : ℕ) (s : S) → slice_get world.items i ≡ Some s → plan.On (phase (machine.group i)) i s
    many : length world.items ≡ count
    lengths : (o : ℕ) → length (bytes_of world.memory o) ≡ length (bytes_of start.memory o)

  abbrev pub AllInRange : World S → Type 0
  AllInRange start =
      (p i : ℕ) (a : Access) → i < count → plan.Reads p i a ⊎ plan.Writes p i a → is_in_range start.memory a ≡ true

  no_fault_of : (start world : World S) → AllInRange start → IsPhased start world →
      (p i : ℕ) (point : P) (n : Next S) → i < count → Follows plan p i point n → fault_of world.memory n ≡ None
  no_fault_of start world in_range fine p i point (Loads site access after) lt f =
      ap (λ b. cond b None (Some site)) (ap (λ len. has_element len access.size access.index)
      (fine.lengths access.object) ∙ in_range p i access lt (inl f.0))
  no_fault_of start world in_range fine p i point (Stores site object index bytes after) lt f =
      ap (λ b. cond b None (Some site)) (ap (λ len. has_element len (length bytes) index) (fine.lengths object) ∙
      in_range p i _ lt (inr f.0))
  no_fault_of start world in_range fine p i point Ends lt f = refl
  no_fault_of start world in_range fine p i point (Waits site after) lt f = refl
  no_fault_of start world in_range fine p i point (Goes after) lt f = refl
  no_fault_of start world in_range fine p i point (Begins after) lt f = refl

  on_after : (m : Memory) (p i : ℕ) (point : P) (s : S) (n : Next S) → Follows plan p i point n → HasStep n →
      plan.On p i (state_after m s n)
  on_after m p i point s (Goes after) f h = f
  on_after m p i point s (Loads site access after) f h = f.1 (loaded m access)
  on_after m p i point s (Stores site object index bytes after) f h = f.1
  on_after m p i point s Ends f h = absurd h
  on_after m p i point s (Waits site after) f h = absurd h
  on_after m p i point s (Begins after) f h = absurd f

  on_released : (p i : ℕ) (point : P) (s : S) (n : Next S) → Follows plan p i point n → IsWaiting n →
      (p < plan.last) × (point ≡ plan.point_at p) × plan.On (suc p) i (after_wait s n)
  on_released p i point s (Waits site after) f w = f
  on_released p i point s Ends f w = absurd w
  on_released p i point s (Goes after) f w = absurd w
  on_released p i point s (Begins after) f w = absurd w
  on_released p i point s (Loads site access after) f w = absurd w
  on_released p i point s (Stores site object index bytes after) f w = absurd w

  no_turn : (p i : ℕ) (point : P) (n : Next S) → Follows plan p i point n → turns_of n ≡ 0
  no_turn p i point (Begins after) f = absurd f
  no_turn p i point (Waits site after) f = refl
  no_turn p i point Ends f = refl
  no_turn p i point (Goes after) f = refl
  no_turn p i point (Loads site access after) f = refl
  no_turn p i point (Stores site object index bytes after) f = refl

  -- an item that takes no step waits or has ended
  rests : (p i : ℕ) (point : P) (n : Next S) → Follows plan p i point n → (HasStep n → ⊥) →
      (IsWaiting n × (p < plan.last) × (point ≡ plan.point_at p)) ⊎ (HasEnded n × (p ≡ plan.last))
  rests p i point (Waits site after) f h = inl (tt, f.0, f.1)
  rests p i point Ends f h = inr (tt, f)
  rests p i point (Goes after) f h = absurd (h tt)
  rests p i point (Begins after) f h = absurd f
  rests p i point (Loads site access after) f h = absurd (h tt)
  rests p i point (Stores site object index bytes after) f h = absurd (h tt)

  overlap_sym : (a b : Access) → Overlap a b → Overlap b a
  overlap_sym a b o = (sym o.0, (o.1.0, o.1.2, o.1.1))

  no_conflict : (i j p q : ℕ) (point point' : P) → i < count → j < count → i ≢ j →
      (machine.group i ≡ machine.group j → p ≡ q) → (n n' : Next S) → Follows plan p i point n →
      Follows plan q j point' n' → Conflict n n' → ⊥
  no_conflict i j p q x y lt lt' ne same (Loads s a f) (Stores s' o' x' b' f') u v c =
      reads_apart j i q p _ _ lt' lt (λ e. ne (sym e)) (λ e. sym (same (sym e))) v.0 u.0 (overlap_sym _ _ c)
  no_conflict i j p q x y lt lt' ne same (Stores s o z b f) (Loads s' a' f') u v c =
      reads_apart i j p q _ _ lt lt' ne same u.0 v.0 c
  no_conflict i j p q x y lt lt' ne same (Stores s o z b f) (Stores s' o' x' b' f') u v c =
      writes_apart i j p q _ _ lt lt' ne same u.0 v.0 c
  no_conflict i j p q x y lt lt' ne same (Loads s a f) Ends u v c = c
  no_conflict i j p q x y lt lt' ne same (Loads s a f) (Waits s' f') u v c = c
  no_conflict i j p q x y lt lt' ne same (Loads s a f) (Goes f') u v c = c
  no_conflict i j p q x y lt lt' ne same (Loads s a f) (Begins f') u v c = c
  no_conflict i j p q x y lt lt' ne same (Loads s a f) (Loads s' a' f') u v c = c
  no_conflict i j p q x y lt lt' ne same (Stores s o z b f) Ends u v c = c
  no_conflict i j p q x y lt lt' ne same (Stores s o z b f) (Waits s' f') u v c = c
  no_conflict i j p q x y lt lt' ne same (Stores s o z b f) (Goes f') u v c = c
  no_conflict i j p q x y lt lt' ne same (Stores s o z b f) (Begins f') u v c = c
  no_conflict i j p q x y lt lt' ne same Ends n' u v c = absurd c
  no_conflict i j p q x y lt lt' ne same (Waits s f) n' u v c = absurd c
  no_conflict i j p q x y lt lt' ne same (Goes f) n' u v c = absurd c
  no_conflict i j p q x y lt lt' ne same (Begins f) n' u v c = absurd c

  inside : (start world : World S) → IsPhased start world → (i : ℕ) (s : S) → slice_get world.items i ≡ Some s →
      i < count
  inside start world fine i s at = let lt = slice_get_within world.items i s at in let same = fine.many in omega arith

  -- the phases after a release
  next_phase : (ℕ → ℕ) → ℕ → ℕ → ℕ
  next_phase phase g h = cond (nat_eq h g) (suc (phase h)) (phase h)

  phased_step : (start world : World S) → AllInRange start → IsPhased start world → (i : ℕ) →
      IsPossible machine world (Step i) → IsPhased start (moved machine world (Step i))
  phased_step start world in_range fine i p =
      let s = p.1.0 in
      let n = machine.next s in
      let f = follows (fine.phase (machine.group i)) i s (fine.on i s p.1.1) in
      let same = moved-step machine world i s p.1.1
      (no_fault_of start world in_range fine (fine.phase (machine.group i)) i (machine.point s) n
      (inside start world fine i s p.1.1) f) in
      subst (λ w. IsPhased start w) (sym same) (record {
        phase = fine.phase;
        calm = fine.calm;
        on = λ k t at. elim (cases_eq i k) [
          | inl e ↦
              let is : state_after world.memory s n ≡ t =
              same_Some _ _ (sym (get-set_same world.items i s _ p.1.1) ∙
              subst (λ j. slice_get (slice_set world.items i (state_after world.memory s n)) j ≡ Some t) (sym e)
              at) in
              subst (λ j. plan.On (fine.phase (machine.group j)) j t) e
              (subst (λ x. plan.On (fine.phase (machine.group i)) i x) is
              (on_after world.memory (fine.phase (machine.group i)) i (machine.point s) s n f p.1.2))
          | inr ne ↦ fine.on k t (sym (get-set_other world.items i k _ ne) ∙ at)
        ];
        many = length-set world.items i _ ∙ fine.many;
        lengths = λ k. length-memory_after world.memory n k ∙ fine.lengths k;
      })

  phased_release : (start world : World S) → IsPhased start world → (g : ℕ) → IsPossible machine world (Release g) →
      IsPhased start (moved machine world (Release g))
  unfolding next_phase
  phased_release start world fine g p = record {
    phase = next_phase fine.phase g;
    calm = fine.calm;
    on = λ k t at. by_item k t (slice_get world.items k) refl (sym (get-released machine g world.items k) ∙ at);
    many = length-released_from machine g 0 world.items ∙ fine.many;
    lengths = fine.lengths;
  }
    where
      by_item : (k : ℕ) (t : S) (o : Option S) → slice_get world.items k ≡ o →
          option_map (released machine g k) o ≡ Some t → plan.On (next_phase fine.phase g (machine.group k)) k t
      by_item k t None here e = absurd (none-some t e)
      by_item k t (Some s) here e = subst (λ x. plan.On (next_phase fine.phase g (machine.group k)) k x)
          (same_Some _ _ e) (elim (cases_eq (machine.group k) g) [
            | inl same ↦
                let waits = (p.1.1.all_wait k s same here).0 in
                let f = on_released (fine.phase (machine.group k)) k (machine.point s) s (machine.next s)
                (follows (fine.phase (machine.group k)) k s (fine.on k s here)) waits in
                subst (λ b. plan.On (cond b (suc (fine.phase (machine.group k))) (fine.phase (machine.group k))) k
                (released machine g k s)) (sym (eq-eqb _ _ same))
                (subst (λ x. plan.On (suc (fine.phase (machine.group k))) k x) (sym (released_in machine g k s same))
                f.2)
            | inr ne ↦
                subst (λ b. plan.On (cond b (suc (fine.phase (machine.group k))) (fine.phase (machine.group k))) k
                (released machine g k s)) (sym (ne_eqb _ _ ne))
                (subst (λ x. plan.On (fine.phase (machine.group k)) k x) (sym (released_other machine g k s ne))
                (fine.on k s here))
          ])

  phased_move : (start world : World S) → AllInRange start → IsPhased start world → (move : Move) →
      IsPossible machine world move → IsPhased start (moved machine world move)
  phased_move start world in_range fine (Step i) p = phased_step start world in_range fine i p
  phased_move start world in_range fine (Release g) p = phased_release start world fine g p

  phased_run : (start world : World S) → AllInRange start → IsPhased start world → (moves : List Move) →
      IsRun machine world moves → IsPhased start (world_after machine world moves)
  phased_run start world in_range fine [] run = fine
  phased_run start world in_range fine (move ∷ moves) run =
      phased_run start (moved machine world move) in_range (phased_move start world in_range fine move run.0) moves
      run.1

  phased_turns : (start world : World S) → AllInRange start → IsPhased start world → (moves : List Move) →
      IsRun machine world moves → turns machine world moves ≡ 0
  phased_turns start world in_range fine [] run = refl
  phased_turns start world in_range fine (Step i ∷ moves) run =
      let p = run.0 in
      let none = ap (turns_of_step machine) p.1.1 ∙
      no_turn (fine.phase (machine.group i)) i (machine.point p.1.0) _
      (follows (fine.phase (machine.group i)) i p.1.0 (fine.on i p.1.0 p.1.1)) in
      let rest = phased_turns start (moved machine world (Step i)) in_range
      (phased_move start world in_range fine (Step i) p) moves run.1 in
      omega (arith, none, rest)
  phased_turns start world in_range fine (Release g ∷ moves) run =
      let rest = phased_turns start (moved machine world (Release g)) in_range
      (phased_move start world in_range fine (Release g) run.0) moves run.1 in
      omega (arith, rest)

  -- where nothing can follow, an item has ended
  over_ended : (start world : World S) → IsPhased start world → IsOver machine world → (i : ℕ) (s : S) →
      slice_get world.items i ≡ Some s → HasEnded (machine.next s)
  over_ended start world fine over i s at = elim (resting i s at) [
    | inr ended ↦ ended.0
    | inl waits ↦ absurd (over (Release (machine.group i)) (
      fine.calm,
      (
        plan.point_at (fine.phase (machine.group i)),
        record {
          some_item = (i, slice_get_within world.items i s at, refl);
          all_wait = λ k t e here. waits_too waits.1 k t e (resting k t here);
        },
      ),
    ))
  ]
    where
      Rests : ℕ → S → Type 0
      Rests k t = (IsWaiting (machine.next t) × (fine.phase (machine.group k) < plan.last) ×
          (machine.point t ≡ plan.point_at (fine.phase (machine.group k)))) ⊎
          (HasEnded (machine.next t) × (fine.phase (machine.group k) ≡ plan.last))

      resting : (k : ℕ) (t : S) → slice_get world.items k ≡ Some t → Rests k t
      resting k t here = rests (fine.phase (machine.group k)) k (machine.point t) (machine.next t)
          (follows (fine.phase (machine.group k)) k t (fine.on k t here)) (λ h. over (Step k) (fine.calm, (t, here, h)))

      waits_too : fine.phase (machine.group i) < plan.last → (k : ℕ) (t : S) → machine.group k ≡ machine.group i →
          Rests k t → IsWaiting (machine.next t) × (machine.point t ≡ plan.point_at (fine.phase (machine.group i)))
      waits_too lt k t e (inl w) = (w.0, subst (λ g. machine.point t ≡ plan.point_at (fine.phase g)) e w.2)
      waits_too lt k t e (inr w) = let same = ap fine.phase e in let end = w.1 in absurd (omega arith)

  -- such a launch is clean, whatever its bound
  pub phases_clean : (start : World S) (bound : ℕ) → start.fault ≡ None → length start.items ≡ count →
      ((i : ℕ) (s : S) → slice_get start.items i ≡ Some s → plan.On 0 i s) → AllInRange start →
      IsClean machine start bound
  phases_clean start bound calm many on in_range = record {
    no_race = λ moves run race.
        let fine = phased_run start start in_range first moves run in
        no_conflict race.one race.other (fine.phase (machine.group race.one)) (fine.phase (machine.group race.other))
        (machine.point race.state) (machine.point race.state')
        (inside start _ fine race.one race.state race.at_one)
        (inside start _ fine race.other race.state' race.at_other) race.apart (λ e. ap fine.phase e)
        (machine.next race.state) (machine.next race.state')
        (follows _ race.one race.state (fine.on race.one race.state race.at_one))
        (follows _ race.other race.state' (fine.on race.other race.state' race.at_other)) race.conflict;
    no_fault = λ moves run. (phased_run start start in_range first moves run).calm;
    few_turns = λ moves run. let none = phased_turns start start in_range first moves run in omega arith;
    all_end = λ moves m i s at. over_ended start (world_after machine start moves)
        (phased_run start start in_range first moves m.run) m.over i s at;
  }
    where
      first : IsPhased start start
      first = record { phase = λ g. 0; calm = calm; on = on; many = many; lengths = λ o. refl }
