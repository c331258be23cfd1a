-- A simulation built move by move, for a number of moves: what follows a construct is a premise of its rule.
use Rattle.std.proofs.Common.{◌≡◌, ℕ, zero, suc, ℤ, List, refl, sym, subst}
use Rattle.work_items.specs.Memory.{Access}
use Rattle.work_items.specs.Items.{Ends, Waits, Goes, Begins, Loads, Stores, Machine}
use Rattle.work_items.specs.Simulation.{GoesIn, SameLabel, both_end, both_wait, both_begin, both_load, both_store}
use Rattle.work_items.specs.Simulation.{MatchesAt, SimulatesFor}

module _ {S P T Q : Type 0} (machine : Machine S P) (other : Machine T Q) (point_of : P → Q) (Agree : S → T →
    Type 0) where
  -- for so many moves of the one item the other follows; at each of them they agree
  pub data Follows : ℕ → S → T → Type 0 where
    spent : {s : S} {t : T} → Follows 0 s t
    -- the other may go on by itself
    other_goes : {n : ℕ} {s : S} {t t' : T} → other.next t ≡ Goes t' → Follows n s t' → Follows n s t
    goes : {n : ℕ} {s s' : S} {t : T} → Agree s t → machine.next s ≡ Goes s' → Follows n s' t → Follows (suc n) s t
    begins : {n : ℕ} {s s' : S} {t t' : T} → Agree s t → machine.next s ≡ Begins s' → other.next t ≡ Begins t' →
        Follows n s' t' → Follows (suc n) s t
    loads : {n : ℕ} {s : S} {t : T} {site : ℕ} {access : Access} {f : List ℕ → S} {g : List ℕ → T} → Agree s t →
        machine.next s ≡ Loads site access f → other.next t ≡ Loads site access g
        → ((bytes : List ℕ) → Follows n (f bytes) (g bytes)) → Follows (suc n) s t
    stores : {n : ℕ} {s s' : S} {t t' : T} {site object : ℕ} {index : ℤ} {bytes : List ℕ} → Agree s t →
        machine.next s ≡ Stores site object index bytes s' → other.next t ≡ Stores site object index bytes t'
        → Follows n s' t' → Follows (suc n) s t
    waits : {n : ℕ} {s s' : S} {t t' : T} {site : ℕ} → Agree s t → machine.next s ≡ Waits site s' →
        other.next t ≡ Waits site t' → other.point t ≡ point_of (machine.point s)
        → Follows n s' t' → Follows (suc n) s t
    ends : {n : ℕ} {s : S} {t : T} → Agree s t → machine.next s ≡ Ends → other.next t ≡ Ends → Follows (suc n) s t

  -- one move fewer
  pub weaken : (n : ℕ) (s : S) (t : T) → Follows n s t → (m : ℕ) → n ≡ suc m → Follows m s t
  weaken n s t spent m e = cc
  weaken n s t (other_goes e f) m p = other_goes e (weaken _ _ _ f m p)
  weaken n s t (goes a e f) zero p = spent
  weaken n s t (goes a e f) (suc m) p = goes a e (weaken _ _ _ f m (cc))
  weaken n s t (begins a e d f) zero p = spent
  weaken n s t (begins a e d f) (suc m) p = begins a e d (weaken _ _ _ f m (cc))
  weaken n s t (loads a e d f) zero p = spent
  weaken n s t (loads a e d f) (suc m) p = loads a e d (λ bytes. weaken _ _ _ (f bytes) m (cc))
  weaken n s t (stores a e d f) zero p = spent
  weaken n s t (stores a e d f) (suc m) p = stores a e d (weaken _ _ _ f m (cc))
  weaken n s t (waits a e d q f) zero p = spent
  weaken n s t (waits a e d q f) (suc m) p = waits a e d q (weaken _ _ _ f m (cc))
  weaken n s t (ends a e d) zero p = spent
  weaken n s t (ends a e d) (suc m) p = ends a e d

  -- where the next move is matched, and that the items agree there
  pub record Found (n : ℕ) (s : S) (t : T) : Type 0 where
    pub steps : ℕ
    pub state : T
    pub there : GoesIn other.next steps t state
    pub agree : Agree s state
    pub matched : MatchesAt other (Follows n) (point_of (machine.point s)) (machine.next s) state

  found_at : (n : ℕ) (s : S) (t : T) → Agree s t →
      MatchesAt other (Follows n) (point_of (machine.point s)) (machine.next s) t → Found n s t
  found_at n s t a m = record { steps = 0; state = t; there = refl; agree = a; matched = m }

  after_step : (n : ℕ) (s : S) (t t' : T) → other.next t ≡ Goes t' → Found n s t' → Found n s t
  after_step n s t t' e f =
      record { steps = suc f.steps; state = f.state; there = (t', e, f.there); agree = f.agree; matched = f.matched }

  pub find : (m : ℕ) (s : S) (t : T) → Follows m s t → (n : ℕ) → m ≡ suc n → Found n s t
  find m s t spent n p = cc
  find m s t (other_goes e f) n p = after_step n s t _ e (find _ _ _ f n p)
  find m s t (goes {n = k} {s' = s'} a e f) n p =
      let same : k ≡ n = cc p in
      found_at n s t a (subst (λ z. MatchesAt other (Follows n) (point_of (machine.point s)) z t) (sym e)
      (subst (λ k. Follows k s' t) same f))
  find m s t (begins {n = k} {s' = s'} {t' = t'} a e d f) n p =
      let same : k ≡ n = cc p in
      found_at n s t a (subst (λ z. MatchesAt other (Follows n) (point_of (machine.point s)) z t) (sym e) (
        subst (λ z. SameLabel (Follows n) (Begins s') z) (sym d)
            (both_begin (subst (λ k. Follows k s' t') same f)),
        λ w. absurd w,
      ))
  find m s t (loads {n = k} {site = site} {access = access} {f = f'} {g = g} a e d f) n p =
      let same : k ≡ n = cc p in
      found_at n s t a (subst (λ z. MatchesAt other (Follows n) (point_of (machine.point s)) z t) (sym e) (
        subst (λ z. SameLabel (Follows n) (Loads site access f') z) (sym d)
            (both_load (λ bytes. subst (λ k. Follows k (f' bytes) (g bytes)) same (f bytes))),
        λ w. absurd w,
      ))
  find m s t (stores {n = k} {s' = s'} {t' = t'} {site = site} {object = object} {index = index} {bytes = bytes} a e d
      f) n p =
      let same : k ≡ n = cc p in
      found_at n s t a (subst (λ z. MatchesAt other (Follows n) (point_of (machine.point s)) z t) (sym e) (
        subst (λ z. SameLabel (Follows n) (Stores site object index bytes s') z) (sym d)
            (both_store (subst (λ k. Follows k s' t') same f)),
        λ w. absurd w,
      ))
  find m s t (waits {n = k} {s' = s'} {t' = t'} {site = site} a e d q f) n p =
      let same : k ≡ n = cc p in
      found_at n s t a (subst (λ z. MatchesAt other (Follows n) (point_of (machine.point s)) z t) (sym e) (
        subst (λ z. SameLabel (Follows n) (Waits site s') z) (sym d) (both_wait (subst (λ k. Follows k s' t') same f)),
        λ w. q,
      ))
  find m s t (ends a e d) n p =
      found_at n s t a (subst (λ z. MatchesAt other (Follows n) (point_of (machine.point s)) z t) (sym e)
      (subst (λ z. SameLabel (Follows n) Ends z) (sym d) both_end, λ w. absurd w))

  -- what follows for every number of moves is a simulation
  pub simulates : ((item : ℕ) → other.group item ≡ machine.group item) → SimulatesFor machine other point_of Follows
  simulates same_group = record {
    same_group = same_group;
    fewer = λ n s t f. weaken (suc n) s t f n refl;
    matches = λ n s t f. let found =
        find (suc n) s t f n refl in (found.steps, found.state, found.there, found.matched);
  }

  -- a move of the one item at no cost
  pub by_goes : (n : ℕ) (s s' : S) (t : T) → Agree s t → machine.next s ≡ Goes s' → Follows n s' t → Follows n s t
  by_goes n s s' t a e f = weaken (suc n) s t (goes a e f) n refl

  pub by_load : (n : ℕ) (s : S) (t : T) (site : ℕ) (access : Access) (f : List ℕ → S) (g : List ℕ → T) → Agree s t →
      machine.next s ≡ Loads site access f → other.next t ≡ Loads site access g
      → ((bytes : List ℕ) → Follows n (f bytes) (g bytes)) → Follows n s t
  by_load n s t site access f g a e d k = weaken (suc n) s t (loads a e d k) n refl

  pub by_store : (n : ℕ) (s s' : S) (t t' : T) (site object : ℕ) (index : ℤ) (bytes : List ℕ) → Agree s t →
      machine.next s ≡ Stores site object index bytes s' → other.next t ≡ Stores site object index bytes t'
      → Follows n s' t' → Follows n s t
  by_store n s s' t t' site object index bytes a e d k = weaken (suc n) s t (stores a e d k) n refl

  pub by_wait : (n : ℕ) (s s' : S) (t t' : T) (site : ℕ) → Agree s t → machine.next s ≡ Waits site s' →
      other.next t ≡ Waits site t' → other.point t ≡ point_of (machine.point s) → Follows n s' t' → Follows n s t
  by_wait n s s' t t' site a e d q k = weaken (suc n) s t (waits a e d q k) n refl
