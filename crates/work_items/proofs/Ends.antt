-- A clean launch has a maximal run: each run of it goes on to one.
use Rattle.std.proofs.Common.{◌≡◌, ◌≢◌, ◌⊎◌, ℕ, zero, suc, ◌+◌, ◌*◌, ◌-◌, ◌<◌, ◌≤◌, Bool, cond, List, [], ◌∷◌, Option}
use Rattle.std.proofs.Common.{Some, None, slice_get, slice_set, option_map, refl, sym, ap, ◌∙◌, subst, inl, inr}
use Rattle.std.proofs.Common.{arith, eq-eqb, le_of_lt, le_of_eq, le_refl, mul-le-mul_right, add-mul}
use Rattle.std.proofs.lemmas.Bool.{cases_eq}
use Rattle.std.proofs.lemmas.Option.{slice_get_within, none-some, same_Some}
use Rattle.work_items.specs.Memory.{Memory, loaded}
use Rattle.work_items.specs.Items.{Next, Ends, Waits, Goes, Begins, Loads, Stores, Machine, World, Move, Step}
use Rattle.work_items.specs.Items.{Release, HasStep, IsWaiting, state_after, after_wait, IsPossible, released}
use Rattle.work_items.specs.Items.{released_from, moved}
use Rattle.work_items.specs.Runs.{world_after, IsRun, IsOver, IsMaximal, turns, turns_of, turns_of_step, turns_of_move}
use Rattle.work_items.specs.Clean.{FallsAt, Falls, AllKeep}
use Rattle.work_items.proofs.Lists.{element_within, get-set_same, get-set_other}
use Rattle.work_items.proofs.Diamond.{IsQuiet, quiet_after, moved-step, in_range_now, released_other, get-released_from}

-- some item of the list of which a decidable fact holds, if there is one. The first has the number `first`
search_items : {S : Type 0} (Q : ℕ → S → Type 0) → ((i : ℕ) (s : S) → (Q i s) ⊎ (Q i s → ⊥)) →
    (first : ℕ) (items : List S)
    → ((i : ℕ) × (s : S) × (slice_get items i ≡ Some s) × Q (first + i) s) ⊎
    ((i : ℕ) (s : S) → slice_get items i ≡ Some s → Q (first + i) s → ⊥)
search_items Q decide first [] = inr (λ i s e q. none-some s e)
search_items {S} Q decide first (x ∷ items) =
    let start : first + 0 ≡ first = omega arith in
    elim (decide first x) [
      | inl q ↦ inl (0, x, refl, subst (λ k. Q k x) (sym start) q)
      | inr none ↦ by_rest none (search_items Q decide (suc first) items)
    ]
  where
    on : (i : ℕ) → first + suc i ≡ suc first + i
    on i = omega arith

    each : (Q first x → ⊥) → ((i : ℕ) (s : S) → slice_get items i ≡ Some s → Q (suc first + i) s → ⊥) →
        (i : ℕ) (s : S) → slice_get (x ∷ items) i ≡ Some s → Q (first + i) s → ⊥
    each none rest zero s e q = let start : first + 0 ≡ first = omega arith in let same : x ≡ s =
        cc e in none (subst (λ y. Q first y) (sym same) (subst (λ k. Q k s) start q))
    each none rest (suc i) s e q = rest i s e (subst (λ k. Q k s) (on i) q)

    by_rest : (Q first x → ⊥) → ((i : ℕ) × (s : S) × (slice_get items i ≡ Some s) × Q (suc first + i) s) ⊎
        ((i : ℕ) (s : S) → slice_get items i ≡ Some s → Q (suc first + i) s → ⊥)
        → ((i : ℕ) × (s : S) × (slice_get (x ∷ items) i ≡ Some s) × Q (first + i) s) ⊎
        ((i : ℕ) (s : S) → slice_get (x ∷ items) i ≡ Some s → Q (first + i) s → ⊥)
    by_rest none (inl found) = inl (suc found.0, found.1, found.2, subst (λ k. Q k found.1) (sym (on found.0)) found.3)
    by_rest none (inr rest) = inr (each none rest)

has_step : {S : Type 0} (n : Next S) → HasStep n ⊎ (HasStep n → ⊥)
has_step Ends = inr (λ h. h)
has_step (Waits site after) = inr (λ h. h)
has_step (Goes after) = inl tt
has_step (Begins after) = inl tt
has_step (Loads site access after) = inl tt
has_step (Stores site object index bytes after) = inl tt

is_waiting : {S : Type 0} (n : Next S) → IsWaiting n ⊎ (IsWaiting n → ⊥)
is_waiting (Waits site after) = inl tt
is_waiting Ends = inr (λ h. h)
is_waiting (Goes after) = inr (λ h. h)
is_waiting (Begins after) = inr (λ h. h)
is_waiting (Loads site access after) = inr (λ h. h)
is_waiting (Stores site object index bytes after) = inr (λ h. h)

-- points can be told apart
abbrev pub AreDecided : Type 0 → Type 0
AreDecided P = (p q : P) → (p ≡ q) ⊎ (p ≢ q)

lower : (after before turn bound weight fuel : ℕ) → after + 1 ≤ before + turn * weight → turn ≤ bound →
    before + bound * weight ≤ suc fuel → after + (bound - turn) * weight ≤ fuel
lower after before turn bound weight fuel fall few h =
    let left : ℕ = bound - turn in
    let whole : bound ≡ turn + left = omega arith in
    let weigh : bound * weight ≡ turn * weight + left * weight =
    ap (λ k. k * weight) whole ∙ add-mul turn left weight in
    omega (arith, weigh, fall, h)

module _ {S P : Type 0} (machine : Machine S P) where
  -- the item of the group doesn't wait at the point
  Hinders : ℕ → P → ℕ → S → Type 0
  Hinders group point item state =
      (machine.group item ≡ group) × ((IsWaiting (machine.next state) × (machine.point state ≡ point)) → ⊥)

  hinders : AreDecided P → (group : ℕ) (point : P) (item : ℕ) (state : S) → Hinders group point item state ⊎
      (Hinders group point item state → ⊥)
  unfolding Hinders
  hinders decide group point item state =
      elim (cases_eq (machine.group item) group) [
        | inr other ↦ inr (λ h. other h.0)
        | inl same ↦ elim (is_waiting (machine.next state)) [
          | inr never ↦ inl (same, λ w. never w.0)
          | inl waits ↦ elim (decide (machine.point state) point) [
            | inr never ↦ inl (same, λ w. never w.1)
            | inl here ↦ inr (λ h. h.1 (waits, here))
          ]
        ]
      ]

  -- each item of the group waits at the point
  AllWait : List S → ℕ → P → Type 0
  AllWait items group point = (item : ℕ) (state : S) → machine.group item ≡ group →
      slice_get items item ≡ Some state → IsWaiting (machine.next state) × (machine.point state ≡ point)

  all_wait : AreDecided P → (items : List S) (group : ℕ) (point : P) → AllWait items group point ⊎
      (AllWait items group point → ⊥)
  unfolding Hinders AllWait
  all_wait decide items group point = elim (search_items (Hinders group point) (hinders decide group point) 0 items) [
    | inl found ↦
        inr (λ all. found.3.1 (all (0 + found.0) found.1 found.3.0 (subst (λ k. slice_get items k ≡ Some found.1)
        (start found.0) found.2)))
    | inr none ↦ inl (λ item state same at. waits item state same at none)
  ]
    where
      start : (i : ℕ) → i ≡ 0 + i
      start i = omega arith

      waits : (item : ℕ) (state : S) → machine.group item ≡ group → slice_get items item ≡ Some state →
          ((i : ℕ) (s : S) → slice_get items i ≡ Some s → Hinders group point (0 + i) s → ⊥) →
          IsWaiting (machine.next state) × (machine.point state ≡ point)
      waits item state same at none =
          elim (is_waiting (machine.next state)) [
            | inr never ↦ absurd (none item state at (subst (λ k. Hinders group point k state) (start item) (
              same,
              λ w. never w.0,
            )))
            | inl wait ↦ elim (decide (machine.point state) point) [
              | inr never ↦ absurd (none item state at (subst (λ k. Hinders group point k state) (start item) (
                same,
                λ w. never w.1,
              )))
              | inl here ↦ (wait, here)
            ]
          ]

  -- the item's group can be released
  Opens : List S → ℕ → S → Type 0
  Opens items item state = AllWait items (machine.group item) (machine.point state)

  -- some move is possible, or none
  some_move : AreDecided P → (world : World S) → world.fault ≡ None →
      ((move : Move) × IsPossible machine world move) ⊎ IsOver machine world
  unfolding AllWait Opens
  some_move decide world calm =
      elim (search_items (λ i s. HasStep (machine.next s)) (λ i s. has_step (machine.next s)) 0 world.items) [
        | inl found ↦ inl (Step found.0, (calm, (found.1, found.2, found.3)))
        | inr no_step ↦ elim (search_items (Opens world.items) (λ i s. all_wait decide world.items (machine.group i)
            (machine.point s)) 0 world.items) [
              | inl found ↦ inl (
                Release (machine.group (0 + found.0)),
                (
                  calm,
                  (
                    machine.point found.1,
                    record {
                      some_item = (
                        found.0,
                        slice_get_within world.items found.0 found.1 found.2,
                        ap machine.group
                            (start found.0),
                      );
                      all_wait = found.3;
                    },
                  ),
                ),
              )
              | inr no_release ↦ inr (none no_step no_release)
            ]
      ]
    where
      start : (i : ℕ) → i ≡ 0 + i
      start i = omega arith

      none : ((i : ℕ) (s : S) → slice_get world.items i ≡ Some s → HasStep (machine.next s) → ⊥) →
          ((i : ℕ) (s : S) → slice_get world.items i ≡ Some s → Opens world.items (0 + i) s → ⊥) → IsOver machine world
      none no_step no_release (Step i) p = no_step i p.1.0 p.1.1 p.1.2
      none no_step no_release (Release g) p =
          let gathered = p.1.1 in
          let i = gathered.some_item.0 in
          let here = element_within world.items i gathered.some_item.1 in
          let at = (gathered.all_wait i here.0 gathered.some_item.2 here.1).1 in
          let same : machine.group (0 + i) ≡ g = sym (ap machine.group (start i)) ∙ gathered.some_item.2 in
          no_release i here.0 here.1 (λ k s e f. let w = gathered.all_wait k s (e ∙ same) f in (w.0, w.1 ∙ sym at))

  -- the sum of the measure over the items
  abbrev pub total : (S → ℕ) → List S → ℕ
  total measure [] = 0
  total measure (s ∷ items) = measure s + total measure items

  total-set : (measure : S → ℕ) (items : List S) (i : ℕ) (x y : S) → slice_get items i ≡ Some x →
      total measure (slice_set items i y) + measure x ≡ total measure items + measure y
  total-set measure [] i x y e = absurd (none-some x e)
  total-set measure (s ∷ items) zero x y e = let same : s ≡ x = same_Some s x e in let m =
      ap measure same in omega arith
  total-set measure (s ∷ items) (suc i) x y e = let rest = total-set measure items i x y e in omega arith

  waiting_falls : (keeps : S → Type 0) (measure : S → ℕ) (rise : ℕ) (s : S) (n : Next S) → IsWaiting n →
      FallsAt keeps measure rise (measure s) n → keeps (after_wait s n) × (measure (after_wait s n) < measure s)
  waiting_falls keeps measure rise s (Waits site after) w f = f
  waiting_falls keeps measure rise s Ends w f = absurd w
  waiting_falls keeps measure rise s (Goes after) w f = absurd w
  waiting_falls keeps measure rise s (Begins after) w f = absurd w
  waiting_falls keeps measure rise s (Loads site access after) w f = absurd w
  waiting_falls keeps measure rise s (Stores site object index bytes after) w f = absurd w

  -- a release lowers the measure of the items that wait and changes no other
  released_falls_in : (keeps : S → Type 0) (measure : S → ℕ) (rise : ℕ) → Falls machine keeps measure rise →
      (group item : ℕ) (s : S) → keeps s → machine.group item ≡ group → IsWaiting (machine.next s)
      → keeps (released machine group item s) × (measure (released machine group item s) < measure s)
  released_falls_in keeps measure rise falls group item s k e waits =
      subst (λ (b : Bool). keeps (cond b (after_wait s (machine.next s)) s) ×
      (measure (cond b (after_wait s (machine.next s)) s) < measure s)) (sym (eq-eqb _ _ e))
      (waiting_falls keeps measure rise s (machine.next s) waits (falls s k))

  released_falls : (keeps : S → Type 0) (measure : S → ℕ) (rise : ℕ) → Falls machine keeps measure rise →
      (group item : ℕ) (s : S) → keeps s → (machine.group item ≡ group → IsWaiting (machine.next s))
      → keeps (released machine group item s) × (measure (released machine group item s) ≤ measure s)
  released_falls keeps measure rise falls group item s k waits =
      elim (cases_eq (machine.group item) group) [
        | inl e ↦ let f = released_falls_in keeps measure rise falls group item s k e (waits e) in (f.0, le_of_lt f.1)
        | inr ne ↦ let same =
            released_other machine group item s ne in (subst (λ x. keeps x) (sym same) k, le_of_eq (ap measure same))
      ]

  -- each item of the group waits, where the first has this number
  abbrev pub GroupWaits : ℕ → ℕ → List S → Type 0
  GroupWaits group first items =
      (i : ℕ) (s : S) → machine.group (first + i) ≡ group → slice_get items i ≡ Some s → IsWaiting (machine.next s)

  tail_waits : (group first : ℕ) (s : S) (items : List S) → GroupWaits group first (s ∷ items) →
      GroupWaits group (suc first) items
  tail_waits group first s items waits i t e at = let on : first + suc i ≡ suc first + i =
      omega arith in waits (suc i) t (ap machine.group on ∙ e) at

  head_waits : (group first : ℕ) (s : S) (items : List S) → GroupWaits group first (s ∷ items) →
      machine.group first ≡ group → IsWaiting (machine.next s)
  head_waits group first s items waits e = let on : first + 0 ≡ first =
      omega arith in waits 0 s (ap machine.group on ∙ e) refl

  tail_keeps : (keeps : S → Type 0) (s : S) (items : List S) → AllKeep keeps (s ∷ items) → AllKeep keeps items
  tail_keeps keeps s items kept i t at = kept (suc i) t at

  total_released : (keeps : S → Type 0) (measure : S → ℕ) (rise : ℕ) → Falls machine keeps measure rise →
      (group first : ℕ) (items : List S) → AllKeep keeps items → GroupWaits group first items →
      total measure (released_from machine group first items) ≤ total measure items
  total_released keeps measure rise falls group first [] kept waits = omega arith
  total_released keeps measure rise falls group first (s ∷ items) kept waits =
      let head = (released_falls keeps measure rise falls group first s (kept 0 s refl)
      (head_waits group first s items waits)).1 in
      let rest = total_released keeps measure rise falls group (suc first) items (tail_keeps keeps s items kept)
      (tail_waits group first s items waits) in
      omega arith

  total_released_in : (keeps : S → Type 0) (measure : S → ℕ) (rise : ℕ) → Falls machine keeps measure rise →
      (group first : ℕ) (items : List S) → AllKeep keeps items → GroupWaits group first items → (i : ℕ) (s : S) →
      slice_get items i ≡ Some s → machine.group (first + i) ≡ group →
      total measure (released_from machine group first items) < total measure items
  total_released_in keeps measure rise falls group first [] kept waits i s at e = absurd (none-some s at)
  total_released_in keeps measure rise falls group first (x ∷ items) kept waits zero s at e =
      let on : first + 0 ≡ first = omega arith in
      let same : machine.group first ≡ group = sym (ap machine.group on) ∙ e in
      let head = (released_falls_in keeps measure rise falls group first x (kept 0 x refl) same
      (head_waits group first x items waits same)).1 in
      let rest = total_released keeps measure rise falls group (suc first) items (tail_keeps keeps x items kept)
      (tail_waits group first x items waits) in
      omega arith
  total_released_in keeps measure rise falls group first (x ∷ items) kept waits (suc i) s at e =
      let on : first + suc i ≡ suc first + i = omega arith in
      let head = (released_falls keeps measure rise falls group first x (kept 0 x refl)
      (head_waits group first x items waits)).1 in
      let rest = total_released_in keeps measure rise falls group (suc first) items (tail_keeps keeps x items kept)
      (tail_waits group first x items waits) i s at (sym (ap machine.group on) ∙ e) in
      omega arith

  -- what a step adds to the measure is at most what its turns allow
  state_falls : (keeps : S → Type 0) (measure : S → ℕ) (rise : ℕ) (memory : Memory) (s : S) (n : Next S) →
      FallsAt keeps measure rise (measure s) n → HasStep n
      → keeps (state_after memory s n) × (measure (state_after memory s n) + 1 ≤ measure s + turns_of n * (rise + 1))
  state_falls keeps measure rise memory s (Goes after) f h = let g = f.1 in (f.0, omega arith)
  state_falls keeps measure rise memory s (Begins after) f h = let g = f.1 in (f.0, omega arith)
  state_falls keeps measure rise memory s (Loads site access after) f h = let g =
      (f (loaded memory access)).1 in ((f (loaded memory access)).0, omega arith)
  state_falls keeps measure rise memory s (Stores site object index bytes after) f h = let g = f.1 in (f.0, omega arith)
  state_falls keeps measure rise memory s Ends f h = absurd h
  state_falls keeps measure rise memory s (Waits site after) f h = absurd h

  -- so each move lowers the measure of the world, but for its turns
  world_falls : (keeps : S → Type 0) (measure : S → ℕ) (rise : ℕ) → Falls machine keeps measure rise →
      (world : World S) (move : Move) → AllKeep keeps world.items → IsQuiet machine world →
      IsPossible machine world move
      → total measure (moved machine world move).items + 1 ≤ total measure world.items +
      turns_of_move machine world move * (rise + 1)
  world_falls keeps measure rise falls world (Step i) kept q p =
      let s = p.1.0 in
      let n = machine.next s in
      let same = moved-step machine world i s p.1.1 (in_range_now machine world i s q p p.1.1) in
      let items = ap (λ (w : World S). total measure w.items) same in
      let set = total-set measure world.items i s (state_after world.memory s n) p.1.1 in
      let fall = (state_falls keeps measure rise world.memory s n (falls s (kept i s p.1.1)) p.1.2).1 in
      let began = ap (turns_of_step machine) p.1.1 in
      let weigh = ap (λ k. k * (rise + 1)) began in
      omega (arith, items, set, fall, weigh)
  world_falls keeps measure rise falls world (Release g) kept q p =
      let gathered = p.1.1 in
      let i = gathered.some_item.0 in
      let here = element_within world.items i gathered.some_item.1 in
      let none : (k : ℕ) → 0 + k ≡ k = λ k. omega arith in
      let fall = total_released_in keeps measure rise falls g 0 world.items kept
      (λ k s e at. (gathered.all_wait k s (sym (ap machine.group (none k)) ∙ e) at).0) i here.0 here.1
      (ap machine.group (none i) ∙ gathered.some_item.2) in
      omega (arith, fall)

  -- and keeps what holds of the states
  keeps_on : (keeps : S → Type 0) (measure : S → ℕ) (rise : ℕ) → Falls machine keeps measure rise →
      (world : World S) (move : Move) → AllKeep keeps world.items → IsQuiet machine world →
      IsPossible machine world move → AllKeep keeps (moved machine world move).items
  keeps_on keeps measure rise falls world (Step i) kept q p =
      let s = p.1.0 in
      let n = machine.next s in
      let same = moved-step machine world i s p.1.1 (in_range_now machine world i s q p p.1.1) in
      let after = (state_falls keeps measure rise world.memory s n (falls s (kept i s p.1.1)) p.1.2).0 in
      subst (λ (w : World S). AllKeep keeps w.items) (sym same) (λ k t at. elim (cases_eq i k) [
        | inl e ↦
            let is : state_after world.memory s n ≡ t =
            same_Some _ _ (sym (get-set_same world.items i s _ p.1.1) ∙
            subst (λ j. slice_get (slice_set world.items i (state_after world.memory s n)) j ≡ Some t) (sym e)
            at) in
            subst (λ x. keeps x) is after
        | inr ne ↦ kept k t (sym (get-set_other world.items i k _ ne) ∙ at)
      ])
  keeps_on keeps measure rise falls world (Release g) kept q p =
      λ k t at. by_item k t (slice_get world.items k) refl (sym (get-released_from machine g 0 world.items k) ∙ at)
    where
      by_item : (k : ℕ) (t : S) (o : Option S) → slice_get world.items k ≡ o →
          option_map (released machine g (0 + k)) o ≡ Some t → keeps t
      by_item k t (Some s) here e =
          let none : 0 + k ≡ k = omega arith in
          let f = released_falls keeps measure rise falls g (0 + k) s (kept k s here)
          (λ same. (p.1.1.all_wait k s (sym (ap machine.group none) ∙ same) here).0) in
          subst (λ x. keeps x) (same_Some _ _ e) f.0
      by_item k t None here e = absurd (none-some t e)

  -- every run from the world has at most so many turns
  abbrev pub FewTurns : World S → ℕ → Type 0
  FewTurns world bound = (moves : List Move) → IsRun machine world moves → turns machine world moves ≤ bound

  ends_within : AreDecided P → (keeps : S → Type 0) (measure : S → ℕ) (rise : ℕ) → Falls machine keeps measure rise →
      (fuel : ℕ) (world : World S) (bound : ℕ) → AllKeep keeps world.items → IsQuiet machine world →
      FewTurns world bound
      → total measure world.items + bound * (rise + 1) ≤ fuel → (moves : List Move) × IsMaximal machine world moves
  ends_within decide keeps measure rise falls zero world bound kept q few h =
      elim (some_move decide world (q.no_fault [] tt)) [
        | inl m ↦ absurd (impossible m.0 m.1)
        | inr over ↦ ([], record { run = tt; over = over })
      ]
    where
      impossible : (move : Move) → IsPossible machine world move → ⊥
      impossible move p =
          let fall = world_falls keeps measure rise falls world move kept q p in
          let turn = few (move ∷ []) (p, tt) in
          let weigh = mul-le-mul_right (rise + 1) turn in
          omega (arith, fall, weigh)
  ends_within decide keeps measure rise falls (suc fuel) world bound kept q few h =
      elim (some_move decide world (q.no_fault [] tt)) [
        | inl m ↦
            let more = ends_within decide keeps measure rise falls fuel (moved machine world m.0)
            (bound - turns_of_move machine world m.0) (keeps_on keeps measure rise falls world m.0 kept q m.1)
            (quiet_after machine world m.0 q m.1) (rest_few m.0 m.1) (less m.0 m.1) in
            (m.0 ∷ more.0, record { run = (m.1, more.1.run); over = more.1.over })
        | inr over ↦ ([], record { run = tt; over = over })
      ]
    where
      rest_few : (move : Move) → IsPossible machine world move →
          FewTurns (moved machine world move) (bound - turns_of_move machine world move)
      rest_few move p moves run = let all = few (move ∷ moves) (p, run) in omega arith

      less : (move : Move) → IsPossible machine world move →
          total measure (moved machine world move).items + (bound - turns_of_move machine world move) * (rise + 1) ≤
          fuel
      less move p =
          let fall = world_falls keeps measure rise falls world move kept q p in
          let turn : turns_of_move machine world move ≤ bound = let one = few (move ∷ []) (p, tt) in omega arith in
          lower (total measure (moved machine world move).items) (total measure world.items)
          (turns_of_move machine world move) bound (rise + 1) fuel fall turn h

  -- a world of a clean launch has a maximal run
  pub has_maximal : AreDecided P → (keeps : S → Type 0) (measure : S → ℕ) (rise : ℕ) →
      Falls machine keeps measure rise → (world : World S) (bound : ℕ) → AllKeep keeps world.items →
      IsQuiet machine world → FewTurns world bound → (moves : List Move) × IsMaximal machine world moves
  has_maximal decide keeps measure rise falls world bound kept q few =
      ends_within decide keeps measure rise falls _ world bound kept q few
      (le_refl (total measure world.items + bound * (rise + 1)))

  -- what holds of the states holds after a run
  pub keeps_along : (keeps : S → Type 0) (measure : S → ℕ) (rise : ℕ) → Falls machine keeps measure rise →
      (world : World S) (moves : List Move) → AllKeep keeps world.items → IsQuiet machine world →
      IsRun machine world moves → AllKeep keeps (world_after machine world moves).items
  keeps_along keeps measure rise falls world [] kept q run = kept
  keeps_along keeps measure rise falls world (move ∷ moves) kept q run =
      keeps_along keeps measure rise falls (moved machine world move) moves
      (keeps_on keeps measure rise falls world move kept q run.0) (quiet_after machine world move q run.0) run.1
