-- What is played is a run, and how it ends is an outcome of the launch.
use Rattle.std.proofs.Common.{◌≡◌, ℕ, zero, suc, ◌+◌, ◌<◌, Bool, true, false, cond, ◌&&◌, List, [], ◌∷◌, length}
use Rattle.std.proofs.Common.{Option, Some, None, slice_get, refl, ap, ◌∙◌, subst, inl, inr, arith}
use Rattle.std.proofs.lemmas.Bool.{cases_eq, eq-eqb, eqb-true, ne_eqb}
use Rattle.std.proofs.lemmas.Option.{none-some, same_Some}
use Rattle.work_items.specs.Items.{Next, Ends, Waits, Goes, Begins, Loads, Stores, Machine, World, Fault, Move, Step}
use Rattle.work_items.specs.Items.{Release, HasStep, IsWaiting, IsGathered, IsPossible, moved}
use Rattle.work_items.specs.Runs.{world_after, IsRun}
use Rattle.cl_model.specs.Task.{Leg, Operand, Own, Tested, Chosen, Other, Nth, Turn, Body, Step as StepLeg, Arm, Into}
use Rattle.cl_model.specs.Task.{Point, Item}
use Rattle.examples_model.specs.Play.{can_step, does_wait, same_leg, same_way, same_point, first_ready, last_ready}
use Rattle.examples_model.specs.Play.{option_or, all_at, first_of, is_there, first_gathered, to_release, next_move}
use Rattle.examples_model.specs.Play.{unless_faulted, chosen_move, with_move, Order, PicksReady, go_or_stay}
use Rattle.examples_model.specs.Play.{play_from, moves_from}

has_step : (n : Next Item) → can_step n ≡ true → HasStep n
has_step Ends e = cc e
has_step (Waits site after) e = cc e
has_step (Goes after) e = tt
has_step (Begins after) e = tt
has_step (Loads site access after) e = tt
has_step (Stores site object index bytes after) e = tt

waiting : (n : Next Item) → does_wait n ≡ true → IsWaiting n
waiting (Waits site after) e = tt
waiting Ends e = cc e
waiting (Goes after) e = cc e
waiting (Begins after) e = cc e
waiting (Loads site access after) e = cc e
waiting (Stores site object index bytes after) e = cc e

both : (a b : Bool) → a && b ≡ true → (a ≡ true) × (b ≡ true)
both true b e = (refl, e)
both false b e = cc e

when : (b c : Bool) → cond b c true ≡ true → b ≡ true → c ≡ true
when true c e f = e
when false c e f = cc f

leg_is : (a b : Leg) → same_leg a b ≡ true → a ≡ b
leg_is (Operand k) (Operand j) e = ap Operand (eqb-true k j e)
leg_is (Own k) (Own j) e = ap Own (eqb-true k j e)
leg_is Tested Tested e = refl
leg_is Chosen Chosen e = refl
leg_is Other Other e = refl
leg_is (Nth k) (Nth j) e = ap Nth (eqb-true k j e)
leg_is (Turn k) (Turn j) e = ap Turn (eqb-true k j e)
leg_is Body Body e = refl
leg_is StepLeg StepLeg e = refl
leg_is (Arm k) (Arm j) e = ap Arm (eqb-true k j e)
leg_is Into Into e = refl
leg_is _ _ e = cc e

way_is : (p q : Point) → same_way p q ≡ true → p ≡ q
way_is [] [] e = refl
way_is [] (y ∷ ys) e = cc e
way_is (x ∷ xs) [] e = cc e
way_is (x ∷ xs) (y ∷ ys) e = let h =
    both (same_leg x y) (same_way xs ys) e in (λ k. leg_is x y h.0 k ∷ way_is xs ys h.1 k)

point_is : (p q : Option Point) → same_point p q ≡ true → p ≡ q
point_is (Some p) (Some q) e = ap Some (way_is p q e)
point_is None None e = cc e
point_is None (Some q) e = cc e
point_is (Some p) None e = cc e

abbrev Found : Machine Item (Option Point) → ℕ → List Item → ℕ → Type 0
Found machine first items k =
    (n : ℕ) × (i : Item) × (k ≡ first + n) × (slice_get items n ≡ Some i) × (can_step (machine.next i) ≡ true)

found_further : (machine : Machine Item (Option Point)) (first : ℕ) (i : Item) (items : List Item) (k : ℕ) →
    Found machine (suc first) items k → Found machine first (i ∷ items) k
found_further machine first i items k h = (suc h.0, h.1, omega (arith, h.2), h.3, h.4)

pub first_is_ready : PicksReady first_ready
first_is_ready machine first [] k e = absurd (none-some k e)
first_is_ready machine first (i ∷ items) k e =
    pick (can_step (machine.next i)) refl e (λ f. first_is_ready machine (suc first) items k f)
  where
    pick : (b : Bool) → can_step (machine.next i) ≡ b → cond b (Some first) (first_ready machine (suc first) items) ≡
        Some k → (first_ready machine (suc first) items ≡ Some k → Found machine (suc first) items k) →
        Found machine first (i ∷ items) k
    pick true t f g = (0, i, (let h = same_Some first k f in omega (arith, h)), refl, t)
    pick false t f g = found_further machine first i items k (g f)

pub last_is_ready : PicksReady last_ready
last_is_ready machine first [] k e = absurd (none-some k e)
last_is_ready machine first (i ∷ items) k e =
    pick (last_ready machine (suc first) items) refl e (λ f. last_is_ready machine (suc first) items k f)
  where
    here : (b : Bool) → can_step (machine.next i) ≡ b → cond b (Some first) None ≡ Some k →
        Found machine first (i ∷ items) k
    here true t f = (0, i, (let h = same_Some first k f in omega (arith, h)), refl, t)
    here false t f = absurd (none-some k f)

    pick : (o : Option ℕ) → last_ready machine (suc first) items ≡ o →
        option_or o (cond (can_step (machine.next i)) (Some first) None) ≡ Some k →
        (last_ready machine (suc first) items ≡ Some k → Found machine (suc first) items k) →
        Found machine first (i ∷ items) k
    pick None t f g = here (can_step (machine.next i)) refl f
    pick (Some j) t f g = found_further machine first i items k (g (t ∙ f))

-- a point was found, so there is an item of the group
there : (machine : Machine Item (Option Point)) (g k : ℕ) (items : List Item) →
    is_there (first_of machine g k items) ≡ true → (n : ℕ) × (n < length items) × (machine.group (k + n) ≡ g)
there machine g k [] e = cc e
there machine g k (i ∷ items) e = elim (cases_eq (machine.group k) g) [
  | inl same ↦ let z : k + 0 ≡ k = omega arith in (0, omega arith, ap machine.group z ∙ same)
  | inr ne ↦
      let rest = there machine g (suc k) items
      (subst (λ b. is_there (cond b (machine.point i) (first_of machine g (suc k) items)) ≡ true)
      (ne_eqb (machine.group k) g ne) e) in
      let z : k + suc rest.0 ≡ suc k + rest.0 = omega arith in
      (suc rest.0, (let lt = rest.1 in omega (arith, lt)), ap machine.group z ∙ rest.2)
]

-- all items of the group wait at the point
all_there : (machine : Machine Item (Option Point)) (g : ℕ) (point : Option Point) (k : ℕ) (items : List Item) →
    all_at machine g point k items ≡ true
    → (n : ℕ) (s : Item) → slice_get items n ≡ Some s → machine.group (k + n) ≡ g → IsWaiting (machine.next s) ×
    (machine.point s ≡ point)
all_there machine g point k [] e n s at same = absurd (none-some s at)
all_there machine g point k (i ∷ items) e zero s at same =
    let z : k ≡ k + 0 = omega arith in
    let one = when _ _ (both _ _ e).0 (eq-eqb (machine.group k) g (ap machine.group z ∙ same)) in
    let two = both _ _ one in
    let is : i ≡ s = same_Some i s at in
    subst (λ x. IsWaiting (machine.next x) × (machine.point x ≡ point)) is (
      waiting (machine.next i) two.0,
      point_is (machine.point i) point two.1,
    )
all_there machine g point k (i ∷ items) e (suc n) s at same =
    let z : suc k + n ≡ k + suc n = omega arith in
    all_there machine g point (suc k) items (both _ _ e).1 n s at (ap machine.group z ∙ same)

gathered : (machine : Machine Item (Option Point)) (items : List Item) (n g h : ℕ) →
    first_gathered machine items n g ≡ Some h → IsGathered machine items h (first_of machine h 0 items)
gathered machine items zero g h e = absurd (none-some h e)
gathered machine items (suc n) g h e =
    pick (is_there (first_of machine g 0 items) && all_at machine g (first_of machine g 0 items) 0 items) refl e
    (λ f. gathered machine items n (suc g) h f)
  where
    here : is_there (first_of machine g 0 items) && all_at machine g (first_of machine g 0 items) 0 items ≡ true →
        IsGathered machine items g (first_of machine g 0 items)
    here t =
        let two = both _ _ t in
        let some = there machine g 0 items two.0 in
        let z : some.0 ≡ 0 + some.0 = omega arith in
        record {
          some_item = (some.0, some.1, ap machine.group z ∙ some.2);
          all_wait = λ item state same at. let y : 0 + item ≡ item = omega arith in
              all_there machine g (first_of machine g 0 items) 0 items two.1 item state at (ap machine.group y ∙ same);
        }

    pick : (b : Bool) → is_there (first_of machine g 0 items) && all_at machine g (first_of machine g 0 items) 0
        items ≡ b → cond b (Some g) (first_gathered machine items n (suc g)) ≡ Some h
        → (first_gathered machine items n (suc g) ≡ Some h →
        IsGathered machine items h (first_of machine h 0 items)) →
        IsGathered machine items h (first_of machine h 0 items)
    pick true t f further =
        subst (λ x. IsGathered machine items x (first_of machine x 0 items)) (same_Some g h f) (here t)
    pick false t f further = further f

-- the chosen move can be made
chosen_possible : (order : Order) → PicksReady order →
    (machine : Machine Item (Option Point)) (groups : ℕ) (world : World Item) (m : Move) →
    chosen_move order machine groups world ≡ Some m → IsPossible machine world m
chosen_possible order picks machine groups world m e = calm world.fault refl e
  where
    released : (o : Option ℕ) → first_gathered machine world.items groups 0 ≡ o → to_release o ≡ Some m →
        world.fault ≡ None → IsPossible machine world m
    released None f t c = absurd (none-some m t)
    released (Some g) f t c = subst (λ x. IsPossible machine world x) (same_Some (Release g) m t) (
      c,
      (first_of machine g 0 world.items, gathered machine world.items groups 0 g f),
    )

    picked : (o : Option ℕ) → order machine 0 world.items ≡ o → next_move machine groups world o ≡ Some m →
        world.fault ≡ None → IsPossible machine world m
    picked None f t c = released (first_gathered machine world.items groups 0) refl t c
    picked (Some k) f t c =
        let h = picks machine 0 world.items k f in
        let z : h.0 ≡ k = (let y = h.2 in omega (arith, y)) in
        subst (λ x. IsPossible machine world x) (same_Some (Step k) m t) (
          c,
          (h.1, subst (λ j. slice_get world.items j ≡ Some h.1) z h.3, has_step (machine.next h.1) h.4),
        )

    calm : (o : Option Fault) → world.fault ≡ o →
        unless_faulted o (next_move machine groups world (order machine 0 world.items)) ≡ Some m →
        IsPossible machine world m
    calm None c f = picked (order machine 0 world.items) refl f c
    calm (Some fault) c f = absurd (none-some m f)

-- what is played is a run
abbrev IsPlayed : Order → Machine Item (Option Point) → ℕ → ℕ → World Item → Type 0
IsPlayed order machine groups n world = IsRun machine world (moves_from order machine groups n world) ×
    (world_after machine world (moves_from order machine groups n world) ≡ play_from order machine groups n world)

pub played : (order : Order) → PicksReady order →
    (machine : Machine Item (Option Point)) (groups n : ℕ) (world : World Item) → IsPlayed order machine groups n world
played order picks machine groups zero world = (tt, refl)
played order picks machine groups (suc n) world =
    by_move (chosen_move order machine groups world) refl
    (λ m. played order picks machine groups n (moved machine world m))
  where
    by_move : (o : Option Move) → chosen_move order machine groups world ≡ o →
        ((m : Move) → IsPlayed order machine groups n (moved machine world m))
        → IsRun machine world (with_move o (λ m. moves_from order machine groups n (moved machine world m)))
        × (world_after machine world (with_move o (λ m. moves_from order machine groups n (moved machine world m))) ≡
        go_or_stay machine world o (λ w. play_from order machine groups n w))
    by_move None e further = (tt, refl)
    by_move (Some m) e further = ((chosen_possible order picks machine groups world m e, (further m).0), (further m).1)
