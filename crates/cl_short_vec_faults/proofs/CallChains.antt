-- A chain of calls is no longer than there are calls, and chains of some calls are chains of more calls.
use Rattle.std.proofs.Common.{◌≡◌, ℕ, zero, suc, ◌+◌, ◌-◌, nat_eq, List, [], ◌∷◌, length, map, Bool, true, false}
use Rattle.std.proofs.Common.{◌&&◌, ◌||◌, refl, ap, sym, ◌∙◌, subst, inl, inr, ◌⊎◌, arith, eqb-true}
use Rattle.std.proofs.lemmas.Bool.{false≢true}
use Rattle.std.proofs.lemmas.Bool.Decides.{nat_tests}
use Rattle.std.specs.List.{list_any}
use Rattle.cl_model.specs.Lists.{Each, IsOneOf, AllDiffer}
use Rattle.cl_meaning.specs.Faults.{Call, leads, leads_back}
use Rattle.cl_check_sound.proofs.Assigning.{both_true}
use Rattle.cl_check_sound.proofs.Ends.{Edge, no_more}
use Rattle.cl_check_sound.proofs.Functions.{length_map}

-- ---- tests of calls

-- a call of the list of which something holds
any_call : (p : Call → Bool) (cs : List Call) → list_any p cs ≡ true →
    (c : Call) × (p c ≡ true) × ((q : Call → Bool) → q c ≡ true → list_any q cs ≡ true)
any_call p [] h = absurd (false≢true h)
any_call p (c ∷ cs) h = by (p c) refl h (λ k. any_call p cs k)
  where
    here : (b d : Bool) → b ≡ true → (b || d) ≡ true
    here true d e = refl
    here false d e = absurd (false≢true e)

    there : (b d : Bool) → d ≡ true → (b || d) ≡ true
    there true d e = refl
    there false d e = e

    by : (b : Bool) → p c ≡ b → (b || list_any p cs) ≡ true →
        (list_any p cs ≡ true → (x : Call) × (p x ≡ true) × ((q : Call → Bool) → q x ≡ true → list_any q cs ≡ true)) →
        (x : Call) × (p x ≡ true) × ((q : Call → Bool) → q x ≡ true → list_any q (c ∷ cs) ≡ true)
    by true e k g = (c, e, λ q i. here (q c) (list_any q cs) i)
    by false e k g = let r = g k in (r.0, r.1, λ q i. there (q c) (list_any q cs) (r.2 q i))

same : (n : ℕ) → nat_eq n n ≡ true
same n = grind (arith, nat_tests)

both : (a b : Bool) → a ≡ true → b ≡ true → (a && b) ≡ true
both true b e h = h
both false b e h = absurd (false≢true e)

second : (a b : Bool) → b ≡ true → (a || b) ≡ true
second true b h = refl
second false b h = h

first : (a b : Bool) → a ≡ true → (a || b) ≡ true
first true b h = refl
first false b h = absurd (false≢true h)

one_of : (a b : Bool) → (a || b) ≡ true → (a ≡ true) ⊎ (b ≡ true)
one_of true b h = inl refl
one_of false b h = inr h

-- ---- walks along calls

-- from a function over others to the last one
abbrev Walk : List Call → (from : ℕ) → List ℕ → (to : ℕ) → Type 0
Walk calls x [] f = x ≡ f
Walk calls x (y ∷ ys) f = Edge calls x y × Walk calls y ys f

step_leads : (n : ℕ) (calls : List Call) (x y f : ℕ) → Edge calls x y → leads n calls y f ≡ true →
    leads (suc n) calls x f ≡ true
unfolding leads
step_leads n calls x y f e h =
    let r = any_call (λ (c : Call). nat_eq c.caller x && nat_eq c.called y) calls e in
    let b = both_true (nat_eq r.0.caller x) (nat_eq r.0.called y) r.1 in
    second (nat_eq x f) _ (r.2 (λ (c : Call). nat_eq c.caller x && leads n calls c.called f)
    (both (nat_eq r.0.caller x) (leads n calls r.0.called f) b.0
    (subst (λ z. leads n calls z f ≡ true) (sym (eqb-true r.0.called y b.1)) h)))

walk_leads : (calls : List Call) (x : ℕ) (ys : List ℕ) (f : ℕ) → Walk calls x ys f →
    leads (length ys) calls x f ≡ true
unfolding leads
walk_leads calls x [] f h = subst (λ z. nat_eq x z ≡ true) h (same x)
walk_leads calls x (y ∷ ys) f h = step_leads (length ys) calls x y f h.0 (walk_leads calls y ys f h.1)

leads_more : (n : ℕ) (calls : List Call) (x f : ℕ) → leads n calls x f ≡ true → leads (suc n) calls x f ≡ true
unfolding leads
leads_more zero calls x f h = first (nat_eq x f) _ h
leads_more (suc n) calls x f h = by (one_of (nat_eq x f) _ h) (λ z k. leads_more n calls z f k)
  where
    by : (nat_eq x f ≡ true) ⊎ (list_any (λ (c : Call). nat_eq c.caller x && leads n calls c.called f) calls ≡ true) →
        ((z : ℕ) → leads n calls z f ≡ true → leads (suc n) calls z f ≡ true) → leads (suc (suc n)) calls x f ≡ true
    by (inl e) g = first (nat_eq x f) _ e
    by (inr k) g =
        let r = any_call (λ (c : Call). nat_eq c.caller x && leads n calls c.called f) calls k in
        let b = both_true (nat_eq r.0.caller x) (leads n calls r.0.called f) r.1 in
        second (nat_eq x f) _ (r.2 (λ (c : Call). nat_eq c.caller x && leads (suc n) calls c.called f)
        (both (nat_eq r.0.caller x) (leads (suc n) calls r.0.called f) b.0 (g r.0.called b.1)))

leads_within : (k n : ℕ) (calls : List Call) (x f : ℕ) → leads n calls x f ≡ true → leads (k + n) calls x f ≡ true
leads_within zero n calls x f h = subst (λ z. leads z calls x f ≡ true) (let e : n ≡ 0 + n = omega arith in e) h
leads_within (suc k) n calls x f h =
    subst (λ z. leads z calls x f ≡ true) (let e : suc (k + n) ≡ suc k + n = omega arith in
    e) (leads_more (k + n) calls x f (leads_within k n calls x f h))

-- ---- without repetitions

is_one : (xs : List ℕ) (x : ℕ) → IsOneOf xs x ⊎ (IsOneOf xs x → ⊥)
is_one [] x = inr (λ h. h)
is_one (y ∷ ys) x = by (nat_eq y x) refl (is_one ys x)
  where
    neither : (nat_eq y x ≡ false) → (IsOneOf ys x → ⊥) → (y ≡ x) ⊎ IsOneOf ys x → ⊥
    neither e n (inl d) = false≢true (sym e ∙ subst (λ z. nat_eq y z ≡ true) d (same y))
    neither e n (inr h) = n h

    by : (b : Bool) → nat_eq y x ≡ b → IsOneOf ys x ⊎ (IsOneOf ys x → ⊥) →
        ((y ≡ x) ⊎ IsOneOf ys x) ⊎ ((y ≡ x) ⊎ IsOneOf ys x → ⊥)
    by true e r = inl (inl (eqb-true y x e))
    by false e (inl h) = inl (inr h)
    by false e (inr n) = inr (neither e n)

abbrev SimpleWalk : List Call → (from to : ℕ) → Type 0
SimpleWalk calls x f = (ys : List ℕ) × Walk calls x ys f × AllDiffer (x ∷ ys)

-- from where it has been already
cut : (calls : List Call) (x y : ℕ) (ys : List ℕ) (f : ℕ) → Walk calls y ys f → AllDiffer (y ∷ ys) →
    IsOneOf (y ∷ ys) x → SimpleWalk calls x f
cut calls x y ys f w d (inl e) = subst (λ z. SimpleWalk calls z f) e (ys, w, d)
cut calls x y [] f w d (inr h) = absurd h
cut calls x y (z ∷ zs) f w d (inr h) = cut calls x z zs f w.1 d.1 h

walk_on : (calls : List Call) (x y f : ℕ) → Edge calls x y → SimpleWalk calls y f → SimpleWalk calls x f
walk_on calls x y f e (ys, w, d) = by (is_one (y ∷ ys) x)
  where
    by : IsOneOf (y ∷ ys) x ⊎ (IsOneOf (y ∷ ys) x → ⊥) → SimpleWalk calls x f
    by (inl h) = cut calls x y ys f w d h
    by (inr n) = (y ∷ ys, (e, w), (n, d))

leads_walk : (n : ℕ) (calls : List Call) (x f : ℕ) → leads n calls x f ≡ true → SimpleWalk calls x f
unfolding leads
leads_walk zero calls x f h = ([], eqb-true x f h, ((λ k. k), tt))
leads_walk (suc n) calls x f h = by (one_of (nat_eq x f) _ h) (λ z k. leads_walk n calls z f k)
  where
    by : (nat_eq x f ≡ true) ⊎ (list_any (λ (c : Call). nat_eq c.caller x && leads n calls c.called f) calls ≡ true) →
        ((z : ℕ) → leads n calls z f ≡ true → SimpleWalk calls z f) → SimpleWalk calls x f
    by (inl e) g = ([], eqb-true x f e, ((λ k. k), tt))
    by (inr k) g =
        let r = any_call (λ (c : Call). nat_eq c.caller x && leads n calls c.called f) calls k in
        let b = both_true (nat_eq r.0.caller x) (leads n calls r.0.called f) r.1 in
        walk_on calls x r.0.called f (r.2 (λ (c : Call). nat_eq c.caller x && nat_eq c.called r.0.called)
        (both (nat_eq r.0.caller x) (nat_eq r.0.called r.0.called) b.0 (same r.0.called))) (g r.0.called b.1)

-- ---- how long they are

-- all but the last one
abbrev fronts : ℕ → List ℕ → List ℕ
fronts x [] = []
fronts x (y ∷ ys) = x ∷ fronts y ys

fronts_length : (x : ℕ) (ys : List ℕ) → length (fronts x ys) ≡ length ys
fronts_length x [] = refl
fronts_length x (y ∷ ys) = ap suc (fronts_length y ys)

fronts_among : (x : ℕ) (ys : List ℕ) (z : ℕ) → IsOneOf (fronts x ys) z → IsOneOf (x ∷ ys) z
fronts_among x [] z h = absurd h
fronts_among x (y ∷ ys) z (inl e) = inl e
fronts_among x (y ∷ ys) z (inr h) = inr (fronts_among y ys z h)

fronts_differ : (x : ℕ) (ys : List ℕ) → AllDiffer (x ∷ ys) → AllDiffer (fronts x ys)
fronts_differ x [] d = tt
fronts_differ x (y ∷ ys) d = ((λ h. d.0 (fronts_among y ys x h)), fronts_differ y ys d.1)

caller_of : (calls : List Call) (x y : ℕ) → Edge calls x y → IsOneOf (map (λ (c : Call). c.caller) calls) x
caller_of [] x y h = absurd (false≢true h)
caller_of (c ∷ cs) x y h = by (one_of (nat_eq c.caller x && nat_eq c.called y)
    (list_any (λ (c : Call). nat_eq c.caller x && nat_eq c.called y) cs) h) (λ k. caller_of cs x y k)
  where
    by : ((nat_eq c.caller x && nat_eq c.called y) ≡ true) ⊎
        (list_any (λ (c : Call). nat_eq c.caller x && nat_eq c.called y) cs ≡ true) →
        (list_any (λ (c : Call). nat_eq c.caller x && nat_eq c.called y) cs ≡ true →
        IsOneOf (map (λ (c : Call). c.caller) cs) x) → (c.caller ≡ x) ⊎ IsOneOf (map (λ (c : Call). c.caller) cs) x
    by (inl e) g = inl (eqb-true c.caller x (both_true (nat_eq c.caller x) (nat_eq c.called y) e).0)
    by (inr k) g = inr (g k)

walk_callers : (calls : List Call) (x : ℕ) (ys : List ℕ) (f : ℕ) → Walk calls x ys f →
    Each (λ z. IsOneOf (map (λ (c : Call). c.caller) calls) z) (fronts x ys)
walk_callers calls x [] f w = tt
walk_callers calls x (y ∷ ys) f w = (caller_of calls x y w.0, walk_callers calls y ys f w.1)

walk_more : (cs ds : List Call) → ((a b : ℕ) → Edge cs a b → Edge ds a b) → (x : ℕ) (ys : List ℕ) (f : ℕ) →
    Walk cs x ys f → Walk ds x ys f
walk_more cs ds g x [] f w = w
walk_more cs ds g x (y ∷ ys) f w = (g x y w.0, walk_more cs ds g y ys f w.1)

-- a chain of some calls leads back among more calls
pub back_among : (cs ds : List Call) → ((a b : ℕ) → Edge cs a b → Edge ds a b) → (n x f : ℕ) →
    leads n cs x f ≡ true → leads_back ds x f ≡ true
back_among cs ds g n x f h =
    let (ys, w, d) = leads_walk n cs x f h in
    let v = walk_more cs ds g x ys f w in
    let a = no_more (fronts x ys) (map (λ (c : Call). c.caller) ds) (fronts_differ x ys d)
    (walk_callers ds x ys f v) in
    let b = length_map (λ (c : Call). c.caller) ds in
    let c = fronts_length x ys in
    let e : (length ds - length ys) + length ys ≡ length ds = omega arith in
    subst (λ z. leads z ds x f ≡ true) e
    (leads_within (length ds - length ys) (length ys) ds x f (walk_leads ds x ys f v))
