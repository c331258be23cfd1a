-- A launch whose items never wait, begin no iteration and each touch elements of their own is clean.
use Rattle.std.proofs.Common.{◌≡◌, ◌≢◌, ℕ, ◌<◌, true, cond, List, [], ◌∷◌, length, Some, None, slice_get, slice_set}
use Rattle.std.proofs.Common.{refl, sym, ap, ◌∙◌, subst, inl, inr, arith, length-set}
use Rattle.std.proofs.lemmas.Bool.{cases_eq}
use Rattle.std.proofs.lemmas.Option.{slice_get_within, same_Some}
use Rattle.work_items.specs.Memory.{Memory, Access, bytes_of, has_element, is_in_range, loaded, Overlap}
use Rattle.work_items.specs.Items.{Next, Ends, Waits, Goes, Begins, Loads, Stores, Machine, World, Move, Step}
use Rattle.work_items.specs.Items.{Release, HasStep, HasEnded, IsWaiting, fault_of, memory_after, state_after}
use Rattle.work_items.specs.Items.{IsPossible, moved}
use Rattle.work_items.specs.Runs.{world_after, IsRun, turns, turns_of, turns_of_step, Conflict}
use Rattle.work_items.specs.Clean.{IsClean}
use Rattle.work_items.proofs.Lists.{get-set_same, get-set_other, element_within}
use Rattle.work_items.proofs.MemoryLemmas.{length-stored}
use Rattle.work_items.proofs.Diamond.{moved-step}

-- the step of the item with this number touches its own elements alone, and leads to a state that is known
abbrev pub Owns : {S : Type 0} → (ℕ → S → Type 0) → (ℕ → Access → Type 0) → ℕ → Next S → Type 0
Owns On Mine item Ends = Unit {0}
Owns On Mine item (Waits site after) = ⊥
Owns On Mine item (Goes after) = On item after
Owns On Mine item (Begins after) = ⊥
Owns On Mine item (Loads site access after) = Mine item access × ((bytes : List ℕ) → On item (after bytes))
Owns On Mine item (Stores site object index bytes after) =
    Mine item (record { object = object; size = length bytes; index = index }) × On item after

-- a step keeps the length of each object
pub length-memory_after : {S : Type 0} (m : Memory) (n : Next S) (o : ℕ) →
    length (bytes_of (memory_after m n) o) ≡ length (bytes_of m o)
length-memory_after m (Stores site object index bytes after) o = length-stored m object o index bytes
length-memory_after m Ends o = refl
length-memory_after m (Waits site after) o = refl
length-memory_after m (Goes after) o = refl
length-memory_after m (Begins after) o = refl
length-memory_after m (Loads site access after) o = refl

module _ {S P : Type 0} (machine : Machine S P) (On : ℕ → S → Type 0) (Mine : ℕ → Access → Type 0)
    (owns : (i : ℕ) (s : S) → On i s → Owns On Mine i (machine.next s))
    (apart : (i j : ℕ) (a b : Access) → i ≢ j → Mine i a → Mine j b → Overlap a b → ⊥) where
  -- what holds of every world of the launch
  record IsFine (start world : World S) : Type 0 where
    calm : world.fault ≡ None
    on : (i : ℕ) (s : S) → slice_get world.items i ≡ Some s → On i s
    count : length world.items ≡ length start.items
    lengths : (o : ℕ) → length (bytes_of world.memory o) ≡ length (bytes_of start.memory o)

  abbrev InRange : World S → Type 0
  InRange start = (i : ℕ) (a : Access) → i < length start.items → Mine i a → is_in_range start.memory a ≡ true

  no_fault_of : (start world : World S) → InRange start → IsFine start world → (i : ℕ) (n : Next S) →
      i < length start.items → Owns On Mine i n → fault_of world.memory n ≡ None
  no_fault_of start world in_range fine i (Loads site access after) lt o =
      ap (λ b. cond b None (Some site)) (ap (λ len. has_element len access.size access.index)
      (fine.lengths access.object) ∙ in_range i access lt o.0)
  no_fault_of start world in_range fine i (Stores site object index bytes after) lt o =
      ap (λ b. cond b None (Some site)) (ap (λ len. has_element len (length bytes) index) (fine.lengths object) ∙
      in_range i _ lt o.0)
  no_fault_of start world in_range fine i Ends lt o = refl
  no_fault_of start world in_range fine i (Waits site after) lt o = refl
  no_fault_of start world in_range fine i (Goes after) lt o = refl
  no_fault_of start world in_range fine i (Begins after) lt o = refl

  on_after : (m : Memory) (i : ℕ) (s : S) (n : Next S) → Owns On Mine i n → HasStep n → On i (state_after m s n)
  on_after m i s (Goes after) o h = o
  on_after m i s (Loads site access after) o h = o.1 (loaded m access)
  on_after m i s (Stores site object index bytes after) o h = o.1
  on_after m i s Ends o h = absurd h
  on_after m i s (Waits site after) o h = absurd h
  on_after m i s (Begins after) o h = absurd o

  no_wait : (i : ℕ) (n : Next S) → Owns On Mine i n → IsWaiting n → ⊥
  no_wait i (Waits site after) o w = o
  no_wait i Ends o w = w
  no_wait i (Goes after) o w = w
  no_wait i (Begins after) o w = w
  no_wait i (Loads site access after) o w = w
  no_wait i (Stores site object index bytes after) o w = w

  no_turn : (i : ℕ) (n : Next S) → Owns On Mine i n → turns_of n ≡ 0
  no_turn i (Begins after) o = absurd o
  no_turn i (Waits site after) o = refl
  no_turn i Ends o = refl
  no_turn i (Goes after) o = refl
  no_turn i (Loads site access after) o = refl
  no_turn i (Stores site object index bytes after) o = refl

  ends_or_steps : (i : ℕ) (n : Next S) → Owns On Mine i n → (HasStep n → ⊥) → HasEnded n
  ends_or_steps i Ends o h = tt
  ends_or_steps i (Waits site after) o h = absurd o
  ends_or_steps i (Goes after) o h = absurd (h tt)
  ends_or_steps i (Begins after) o h = absurd o
  ends_or_steps i (Loads site access after) o h = absurd (h tt)
  ends_or_steps i (Stores site object index bytes after) o h = absurd (h tt)

  no_conflict : (i j : ℕ) → i ≢ j → (n n' : Next S) → Owns On Mine i n → Owns On Mine j n' → Conflict n n' → ⊥
  no_conflict i j ne (Loads s a f) (Stores s' o' x' b' f') p q c = apart i j _ _ ne p.0 q.0 c
  no_conflict i j ne (Stores s o x b f) (Loads s' a' f') p q c = apart i j _ _ ne p.0 q.0 c
  no_conflict i j ne (Stores s o x b f) (Stores s' o' x' b' f') p q c = apart i j _ _ ne p.0 q.0 c
  no_conflict i j ne (Loads s a f) Ends p q c = c
  no_conflict i j ne (Loads s a f) (Waits s' f') p q c = c
  no_conflict i j ne (Loads s a f) (Goes f') p q c = c
  no_conflict i j ne (Loads s a f) (Begins f') p q c = c
  no_conflict i j ne (Loads s a f) (Loads s' a' f') p q c = c
  no_conflict i j ne (Stores s o x b f) Ends p q c = c
  no_conflict i j ne (Stores s o x b f) (Waits s' f') p q c = c
  no_conflict i j ne (Stores s o x b f) (Goes f') p q c = c
  no_conflict i j ne (Stores s o x b f) (Begins f') p q c = c
  no_conflict i j ne Ends n' p q c = absurd c
  no_conflict i j ne (Waits s f) n' p q c = absurd c
  no_conflict i j ne (Goes f) n' p q c = absurd c
  no_conflict i j ne (Begins f) n' p q c = absurd c

  inside : (start world : World S) → IsFine start world → (i : ℕ) (s : S) → slice_get world.items i ≡ Some s →
      i < length start.items
  inside start world fine i s at = let lt = slice_get_within world.items i s at in let same = fine.count in omega arith

  fine_step : (start world : World S) → InRange start → IsFine start world → (move : Move) →
      IsPossible machine world move → IsFine start (moved machine world move)
  fine_step start world in_range fine (Step i) p =
      let s = p.1.0 in
      let n = machine.next s in
      let o = owns i s (fine.on i s p.1.1) in
      let same = moved-step machine world i s p.1.1
      (no_fault_of start world in_range fine i n (inside start world fine i s p.1.1) o) in
      subst (λ w. IsFine start w) (sym same) (record {
        calm = fine.calm;
        on = λ k t at. elim (cases_eq i k) [
          | inl e ↦
              let is : state_after world.memory s n ≡ t =
              same_Some _ _ (sym (get-set_same world.items i s _ p.1.1) ∙
              subst (λ j. slice_get (slice_set world.items i (state_after world.memory s n)) j ≡ Some t) (sym e)
              at) in
              subst (λ j. On j t) e (subst (λ x. On i x) is (on_after world.memory i s n o p.1.2))
          | inr ne ↦ fine.on k t (sym (get-set_other world.items i k _ ne) ∙ at)
        ];
        count = length-set world.items i _ ∙ fine.count;
        lengths = λ k. length-memory_after world.memory n k ∙ fine.lengths k;
      })
  fine_step start world in_range fine (Release g) p =
      let gathered = p.1.1 in
      let i = gathered.some_item.0 in
      let here = element_within world.items i gathered.some_item.1 in
      absurd (no_wait i _ (owns i here.0 (fine.on i here.0 here.1)) (gathered.all_wait i here.0 gathered.some_item.2
      here.1).0)

  fine_run : (start world : World S) → InRange start → IsFine start world → (moves : List Move) →
      IsRun machine world moves → IsFine start (world_after machine world moves)
  fine_run start world in_range fine [] run = fine
  fine_run start world in_range fine (move ∷ moves) run =
      fine_run start (moved machine world move) in_range (fine_step start world in_range fine move run.0) moves run.1

  fine_turns : (start world : World S) → InRange start → IsFine start world → (moves : List Move) →
      IsRun machine world moves → turns machine world moves ≡ 0
  fine_turns start world in_range fine [] run = refl
  fine_turns start world in_range fine (Step i ∷ moves) run =
      let p = run.0 in
      let none = ap (turns_of_step machine) p.1.1 ∙ no_turn i _ (owns i p.1.0 (fine.on i p.1.0 p.1.1)) in
      let rest = fine_turns start (moved machine world (Step i)) in_range
      (fine_step start world in_range fine (Step i) p) moves run.1 in
      omega (arith, none, rest)
  fine_turns start world in_range fine (Release g ∷ moves) run =
      let rest = fine_turns start (moved machine world (Release g)) in_range
      (fine_step start world in_range fine (Release g) run.0) moves run.1 in
      omega (arith, rest)

  -- such a launch is clean, whatever its bound
  pub owners_clean : (start : World S) (bound : ℕ) → start.fault ≡ None →
      ((i : ℕ) (s : S) → slice_get start.items i ≡ Some s → On i s) → InRange start → IsClean machine start bound
  owners_clean start bound calm on in_range = record {
    no_race = λ moves run race.
        let fine = fine_run start start in_range first moves run in
        no_conflict race.one race.other race.apart _ _
        (owns race.one race.state (fine.on race.one race.state race.at_one))
        (owns race.other race.state' (fine.on race.other race.state' race.at_other)) race.conflict;
    no_fault = λ moves run. (fine_run start start in_range first moves run).calm;
    few_turns = λ moves run. let none = fine_turns start start in_range first moves run in omega arith;
    all_end = λ moves m i s at.
        let fine = fine_run start start in_range first moves m.run in
        ends_or_steps i _ (owns i s (fine.on i s at)) (λ h. m.over (Step i) (fine.calm, (s, at, h)));
  }
    where
      first : IsFine start start
      first = record { calm = calm; on = on; count = refl; lengths = λ o. refl }
