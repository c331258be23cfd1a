-- A simulation of one item by another, step by step: for so many moves of the first the second follows, and both
-- stand alike before each.
use Rattle.std.proofs.Common.{◌≡◌, ℕ, zero, suc, ℤ, List, refl, sym, subst, arith}
use Rattle.work_items.specs.Memory.{Access}
use Rattle.work_items.specs.Items.{Next, Ends, Waits, Goes, Begins, Loads, Stores, Machine, IsWaiting}
use Rattle.work_items.specs.Simulation.{GoesIn, SameLabel, both_end, both_wait, both_begin, both_load, both_store}
use Rattle.work_items.specs.Simulation.{MatchesAt, SimulatesFor}

module _ {S P T Q : Type 0} (machine : Machine S P) (other : Machine T Q) (point_of : P → Q) (Alike : S → T →
    Type 0) where
  -- for n moves of the first item the second follows
  pub data Follows : ℕ → S → T → Type 0 where
    spent : {s : S} {t : T} → Follows 0 s t
    -- the second item goes on by itself
    second_goes : {n : ℕ} {s : S} {t t' : T} → other.next t ≡ Goes t' → Follows n s t' → Follows n s t
    goes : {n : ℕ} {s s' : S} {t : T} → Alike s t → machine.next s ≡ Goes s' → Follows n s' t → Follows (suc n) s t
    begins : {n : ℕ} {s s' : S} {t t' : T} → Alike s t → machine.next s ≡ Begins s' → other.next t ≡ Begins t' →
        Follows n s' t' → Follows (suc n) s t
    loads : {n : ℕ} {s : S} {t : T} {site : ℕ} {access : Access} {f : List ℕ → S} {g : List ℕ → T} → Alike s t →
        machine.next s ≡ Loads site access f → other.next t ≡ Loads site access g
        → ((bytes : List ℕ) → Follows n (f bytes) (g bytes)) → Follows (suc n) s t
    stores : {n : ℕ} {s s' : S} {t t' : T} {site object : ℕ} {index : ℤ} {bytes : List ℕ} → Alike s t →
        machine.next s ≡ Stores site object index bytes s' → other.next t ≡ Stores site object index bytes t'
        → Follows n s' t' → Follows (suc n) s t
    waits : {n : ℕ} {s s' : S} {t t' : T} {site : ℕ} → Alike s t → other.point t ≡ point_of (machine.point s) →
        machine.next s ≡ Waits site s' → other.next t ≡ Waits site t' → Follows n s' t' → Follows (suc n) s t
    ends : {n : ℕ} {s : S} {t : T} → Alike s t → machine.next s ≡ Ends → other.next t ≡ Ends → Follows (suc n) s t

  -- one move fewer
  fewer_by : (n : ℕ) (s : S) (t : T) → Follows n s t → (m : ℕ) → n ≡ suc m → Follows m s t
  fewer_by n s t spent m e = absurd (omega (arith, e))
  fewer_by n s t (second_goes e f) m p = second_goes e (fewer_by _ _ _ f m p)
  fewer_by n s t (goes a e f) zero p = spent
  fewer_by n s t (goes a e f) (suc m) p = goes a e (fewer_by _ _ _ f m (omega (arith, p)))
  fewer_by n s t (begins a e d f) zero p = spent
  fewer_by n s t (begins a e d f) (suc m) p = begins a e d (fewer_by _ _ _ f m (omega (arith, p)))
  fewer_by n s t (loads a e d f) zero p = spent
  fewer_by n s t (loads a e d f) (suc m) p = loads a e d (λ bytes. fewer_by _ _ _ (f bytes) m (omega (arith, p)))
  fewer_by n s t (stores a e d f) zero p = spent
  fewer_by n s t (stores a e d f) (suc m) p = stores a e d (fewer_by _ _ _ f m (omega (arith, p)))
  fewer_by n s t (waits a w e d f) zero p = spent
  fewer_by n s t (waits a w e d f) (suc m) p = waits a w e d (fewer_by _ _ _ f m (omega (arith, p)))
  fewer_by n s t (ends a e d) zero p = spent
  fewer_by n s t (ends a e d) (suc m) p = ends a e d

  pub fewer : (n : ℕ) (s : S) (t : T) → Follows (suc n) s t → Follows n s t
  fewer n s t f = fewer_by (suc n) s t f n refl

  -- the second goes on until both stand alike
  pub record Reaches (s : S) (t : T) : Type 0 where
    pub steps : ℕ
    pub state : T
    pub led : GoesIn other.next steps t state
    pub alike : Alike s state

  one_more : (s : S) (t t' : T) → other.next t ≡ Goes t' → Reaches s t' → Reaches s t
  one_more s t t' e r = record { steps = suc r.steps; state = r.state; led = (t', e, r.led); alike = r.alike }

  here : (s : S) (t : T) → Alike s t → Reaches s t
  here s t a = record { steps = 0; state = t; led = refl; alike = a }

  reaches_by : (n : ℕ) (s : S) (t : T) → Follows n s t → (m : ℕ) → n ≡ suc m → Reaches s t
  reaches_by n s t spent m e = absurd (omega (arith, e))
  reaches_by n s t (second_goes e f) m p = one_more s t _ e (reaches_by _ _ _ f m p)
  reaches_by n s t (goes a e f) m p = here s t a
  reaches_by n s t (begins a e d f) m p = here s t a
  reaches_by n s t (loads a e d f) m p = here s t a
  reaches_by n s t (stores a e d f) m p = here s t a
  reaches_by n s t (waits a w e d f) m p = here s t a
  reaches_by n s t (ends a e d) m p = here s t a

  pub reaches : (n : ℕ) (s : S) (t : T) → Follows (suc n) s t → Reaches s t
  reaches n s t f = reaches_by (suc n) s t f n refl

  -- each move is matched
  abbrev Matched : ℕ → S → T → Type 0
  Matched n s t = (k : ℕ) × (t' : T) × GoesIn other.next k t t' ×
      MatchesAt other (Follows n) (point_of (machine.point s)) (machine.next s) t'

  matched_more : (n : ℕ) (s : S) (t t' : T) → other.next t ≡ Goes t' → Matched n s t' → Matched n s t
  matched_more n s t t' e m = (suc m.0, m.1, (t', e, m.2), m.3)

  -- where both steps are known
  abbrev Both : ℕ → S → T → Next S → Next T → Type 0
  Both n s t a b = SameLabel (Follows n) a b × (IsWaiting a → other.point t ≡ point_of (machine.point s))

  matched_by : (n : ℕ) (s : S) (t : T) → Follows n s t → (m : ℕ) → n ≡ suc m → Matched m s t
  matched_by n s t spent m e = absurd (omega (arith, e))
  matched_by n s t (second_goes e f) m p = matched_more m s t _ e (matched_by _ _ _ f m p)
  matched_by n s t (goes {n = k} {s' = s'} a e f) m p =
      let same : k ≡ m = omega (arith, p) in (
        0,
        t,
        refl,
        subst (λ z. MatchesAt other (Follows m) (point_of (machine.point s)) z t) (sym e)
            (subst (λ z. Follows z s' t) same f),
      )
  matched_by n s t (begins {n = k} {s' = s'} {t' = t'} a e d f) m p =
      let same : k ≡ m = omega (arith, p) in (
        0,
        t,
        refl,
        subst (λ z. MatchesAt other (Follows m) (point_of (machine.point s)) z t) (sym e)
            (subst (λ z. Both m s t (Begins s') z) (sym d) (
              both_begin (subst (λ z. Follows z s' t') same f),
              λ w. absurd w,
            )),
      )
  matched_by n s t (loads {n = k} {site = site} {access = access} {f = g} {g = h} a e d f) m p =
      let same : k ≡ m = omega (arith, p) in (
        0,
        t,
        refl,
        subst (λ z. MatchesAt other (Follows m) (point_of (machine.point s)) z t) (sym e)
            (subst (λ z. Both m s t (Loads site access g) z) (sym d)
            (both_load (λ bytes. subst (λ z. Follows z (g bytes) (h bytes)) same (f bytes)), λ w. absurd w)),
      )
  matched_by n s t (stores {n = k} {s' = s'} {t' = t'} {site = site} {object = object} {index = index} {bytes = bytes}
      a e d f) m p =
      let same : k ≡ m = omega (arith, p) in (
        0,
        t,
        refl,
        subst (λ z. MatchesAt other (Follows m) (point_of (machine.point s)) z t) (sym e)
            (subst (λ z. Both m s t (Stores site object index bytes s') z) (sym d)
            (both_store (subst (λ z. Follows z s' t') same f), λ w. absurd w)),
      )
  matched_by n s t (waits {n = k} {s' = s'} {t' = t'} {site = site} a w e d f) m p =
      let same : k ≡ m = omega (arith, p) in (
        0,
        t,
        refl,
        subst (λ z. MatchesAt other (Follows m) (point_of (machine.point s)) z t) (sym e)
            (subst (λ z. Both m s t (Waits site s') z) (sym d) (
              both_wait (subst (λ z. Follows z s' t') same f),
              λ u. w,
            )),
      )
  matched_by n s t (ends a e d) m p = (
    0,
    t,
    refl,
    subst (λ z. MatchesAt other (Follows m) (point_of (machine.point s)) z t) (sym e)
        (subst (λ z. Both m s t Ends z) (sym d) (both_end, λ w. absurd w)),
  )

  -- so it is a counted simulation
  pub simulates : ((item : ℕ) → other.group item ≡ machine.group item) → SimulatesFor machine other point_of Follows
  simulates same = record { same_group = same; fewer = fewer; matches = λ n s t f. matched_by (suc n) s t f n refl }

  -- ---- for any number of moves: of the first item's steps, a turn aside, none costs one

  pub by_goes : (n : ℕ) (s s' : S) (t : T) → Alike s t → machine.next s ≡ Goes s' → Follows n s' t → Follows n s t
  by_goes zero s s' t a e f = spent
  by_goes (suc n) s s' t a e f = goes a e (fewer n s' t f)

  pub by_load : (n : ℕ) (s : S) (t : T) (site : ℕ) (access : Access) (f : List ℕ → S) (g : List ℕ → T) → Alike s t →
      machine.next s ≡ Loads site access f → other.next t ≡ Loads site access g
      → ((bytes : List ℕ) → Follows n (f bytes) (g bytes)) → Follows n s t
  by_load zero s t site access f g a e d h = spent
  by_load (suc n) s t site access f g a e d h = loads a e d (λ bytes. fewer n (f bytes) (g bytes) (h bytes))

  pub by_store : (n : ℕ) (s s' : S) (t t' : T) (site object : ℕ) (index : ℤ) (bytes : List ℕ) → Alike s t →
      machine.next s ≡ Stores site object index bytes s' → other.next t ≡ Stores site object index bytes t'
      → Follows n s' t' → Follows n s t
  by_store zero s s' t t' site object index bytes a e d f = spent
  by_store (suc n) s s' t t' site object index bytes a e d f = stores a e d (fewer n s' t' f)

  pub by_wait : (n : ℕ) (s s' : S) (t t' : T) (site : ℕ) → Alike s t → other.point t ≡ point_of (machine.point s) →
      machine.next s ≡ Waits site s' → other.next t ≡ Waits site t' → Follows n s' t' → Follows n s t
  by_wait zero s s' t t' site a w e d f = spent
  by_wait (suc n) s s' t t' site a w e d f = waits a w e d (fewer n s' t' f)

  -- an iteration costs one move: by it the loop's induction goes down
  pub by_begin : (n : ℕ) (s s' : S) (t t' : T) → Alike s t → machine.next s ≡ Begins s' → other.next t ≡ Begins t' →
      ((m : ℕ) → n ≡ suc m → Follows m s' t') → Follows n s t
  by_begin zero s s' t t' a e d f = spent
  by_begin (suc n) s s' t t' a e d f = begins a e d (f n refl)

  pub by_end : (n : ℕ) (s : S) (t : T) → Alike s t → machine.next s ≡ Ends → other.next t ≡ Ends → Follows n s t
  by_end zero s t a e d = spent
  by_end (suc n) s t a e d = ends a e d
