-- Where no call leads back, calls end.
use Rattle.std.proofs.Common.{◌≡◌, ℕ, zero, suc, ◌+◌, ◌-◌, ◌<◌, ◌≤◌, nat_eq, List, [], ◌∷◌, length, map, Bool, true}
use Rattle.std.proofs.Common.{false, ◌&&◌, ◌||◌, refl, ap, sym, ◌∙◌, subst, inl, inr, ◌⊎◌, arith, eqb-true}
use Rattle.std.proofs.lemmas.Bool.{false≢true}
use Rattle.std.proofs.lemmas.Bool.Decides.{nat_tests}
use Rattle.std.specs.List.{list_any}
use Rattle.cl_model.specs.Lists.{Each, IsOneOf, AllDiffer}
use Rattle.cl_model.specs.Tree.{Program}
use Rattle.cl_model.specs.Calls.{CallSite, calls_of_all, function_at}
use Rattle.cl_model.specs.Valid.{CallsEnd, numbers_below}
use Rattle.cl_meaning.specs.Faults.{Call, leads, leads_back}
use Rattle.cl_check_sound.proofs.Assigning.{both_true}

-- ---- lists without repetitions

-- without one of its elements
without : (ys : List ℕ) (x : ℕ) → IsOneOf ys x → (zs : List ℕ) × (length ys ≡ suc (length zs)) ×
    ((z : ℕ) → IsOneOf ys z → (x ≡ z → ⊥) → IsOneOf zs z)
without [] x h = absurd h
without (y ∷ ys) x (inl e) = (ys, refl, λ z h n. first z h n)
  where
    first : (z : ℕ) → (y ≡ z) ⊎ IsOneOf ys z → (x ≡ z → ⊥) → IsOneOf ys z
    first z (inl d) n = absurd (n (sym e ∙ d))
    first z (inr h) n = h
without (y ∷ ys) x (inr h) =
    let r = without ys x h in
    (y ∷ r.0, ap suc r.1, λ z k n. next r.0 r.2 z k n)
  where
    next : (zs : List ℕ) → ((z : ℕ) → IsOneOf ys z → (x ≡ z → ⊥) → IsOneOf zs z) → (z : ℕ) → (y ≡ z) ⊎ IsOneOf ys z →
        (x ≡ z → ⊥) → (y ≡ z) ⊎ IsOneOf zs z
    next zs g z (inl e) n = inl e
    next zs g z (inr k) n = inr (g z k n)

each_in : (xs ys zs : List ℕ) (x : ℕ) → (IsOneOf xs x → ⊥) → Each (λ z. IsOneOf ys z) xs →
    ((z : ℕ) → IsOneOf ys z → (x ≡ z → ⊥) → IsOneOf zs z) → Each (λ z. IsOneOf zs z) xs
each_in [] ys zs x n h g = tt
each_in (z ∷ xs) ys zs x n h g = (g z h.0 (λ e. n (inl (sym e))), each_in xs ys zs x (λ k. n (inr k)) h.1 g)

pub no_more : (xs ys : List ℕ) → AllDiffer xs → Each (λ z. IsOneOf ys z) xs → length xs ≤ length ys
no_more [] ys d h = omega arith
no_more (x ∷ xs) ys d h =
    let r = without ys x h.0 in
    let e = r.1 in
    let k = no_more xs r.0 d.1 (each_in xs ys r.0 x d.0 h.1 r.2) in
    omega arith

below_length : (n : ℕ) → length (numbers_below n) ≡ n
below_length zero = refl
below_length (suc n) = ap suc (below_length n)

below_has : (n x : ℕ) → x < n → IsOneOf (numbers_below n) x
below_has zero x h = absurd (omega arith)
below_has (suc n) x h = by (nat_eq n x) refl (λ k. below_has n x k)
  where
    by : (b : Bool) → nat_eq n x ≡ b → (x < n → IsOneOf (numbers_below n) x) → (n ≡ x) ⊎ IsOneOf (numbers_below n) x
    by true e g = inl (eqb-true n x e)
    by false e g = inr (g (grind (arith, nat_tests)))

each_below : (n : ℕ) (xs : List ℕ) → Each (λ x. x < n) xs → Each (λ z. IsOneOf (numbers_below n) z) xs
each_below n [] h = tt
each_below n (x ∷ xs) h = (below_has n x h.0, each_below n xs h.1)

-- ---- calls

-- one function calls another
abbrev pub Edge : List Call → ℕ → ℕ → Type 0
Edge calls from to = list_any (λ (c : Call). nat_eq c.caller from && nat_eq c.called to) calls ≡ true

any_implies : (p q : Call → Bool) → ((c : Call) → p c ≡ true → q c ≡ true) → (cs : List Call) → list_any p cs ≡ true →
    list_any q cs ≡ true
any_implies p q g [] h = absurd (false≢true h)
any_implies p q g (c ∷ cs) h = by (p c) (q c) (g c) (any_implies p q g cs) h
  where
    by : (a b : Bool) → (a ≡ true → b ≡ true) → (list_any p cs ≡ true → list_any q cs ≡ true) →
        (a || list_any p cs) ≡ true → (b || list_any q cs) ≡ true
    by true true f k h = refl
    by true false f k h = absurd (false≢true (f refl))
    by false true f k h = refl
    by false false f k h = k h

same : (n : ℕ) → nat_eq n n ≡ true
same n = grind (arith, nat_tests)

both : (a b : Bool) → a ≡ true → b ≡ true → (a && b) ≡ true
both true true h k = refl
both true false h k = absurd (false≢true k)
both false b h k = absurd (false≢true h)

or_right : (a b : Bool) → b ≡ true → (a || b) ≡ true
or_right true b h = refl
or_right false b h = h

or_left : (a b : Bool) → a ≡ true → (a || b) ≡ true
or_left true b h = refl
or_left false b h = absurd (false≢true h)

or_cases : (a b : Bool) → (a || b) ≡ true → (a ≡ true) ⊎ (b ≡ true)
or_cases true b h = inl refl
or_cases false b h = inr h

leads_self : (n : ℕ) (calls : List Call) (x : ℕ) → leads n calls x x ≡ true
unfolding leads
leads_self zero calls x = same x
leads_self (suc n) calls x = or_left (nat_eq x x) _ (same x)

leads_more : (n : ℕ) (calls : List Call) (x y : ℕ) → leads n calls x y ≡ true → leads (suc n) calls x y ≡ true
unfolding leads
leads_more zero calls x y h = or_left (nat_eq x y) _ h
leads_more (suc n) calls x y h = by (or_cases (nat_eq x y) _ h) (λ z k. leads_more n calls z y k)
  where
    by : (nat_eq x y ≡ true) ⊎ (list_any (λ (c : Call). nat_eq c.caller x && leads n calls c.called y) calls ≡ true) →
        ((z : ℕ) → leads n calls z y ≡ true → leads (suc n) calls z y ≡ true) →
        (nat_eq x y || list_any (λ (c : Call). nat_eq c.caller x && leads (suc n) calls c.called y) calls) ≡ true
    by (inl e) g = or_left (nat_eq x y) _ e
    by (inr k) g = or_right (nat_eq x y) _ (any_implies (λ (c : Call). nat_eq c.caller x && leads n calls c.called y)
        (λ (c : Call). nat_eq c.caller x && leads (suc n) calls c.called y)
        (λ c p. (let b = both_true (nat_eq c.caller x) (leads n calls c.called y) p in
        both (nat_eq c.caller x) (leads (suc n) calls c.called y) b.0 (g c.called b.1))) calls k)

leads_within : (k n : ℕ) (calls : List Call) (x y : ℕ) → leads n calls x y ≡ true → leads (k + n) calls x y ≡ true
leads_within zero n calls x y h = subst (λ z. leads z calls x y ≡ true) (let e : n ≡ 0 + n = omega arith in e) h
leads_within (suc k) n calls x y h =
    subst (λ z. leads z calls x y ≡ true) (let e : suc (k + n) ≡ suc k + n = omega arith in
    e) (leads_more (k + n) calls x y (leads_within k n calls x y h))

-- one call more at the end
leads_on : (n : ℕ) (calls : List Call) (x a f : ℕ) → leads n calls x a ≡ true → Edge calls a f →
    leads (suc n) calls x f ≡ true
unfolding leads
leads_on zero calls x a f h e =
    or_right (nat_eq x f) _ (any_implies (λ (c : Call). nat_eq c.caller a && nat_eq c.called f) (λ (c : Call).
    nat_eq c.caller x && leads zero calls c.called f)
    (λ c p. (let b = both_true (nat_eq c.caller a) (nat_eq c.called f) p in
    both (nat_eq c.caller x) (nat_eq c.called f) (let u = eqb-true x a h in
    subst (λ z. nat_eq c.caller z ≡ true) (sym u) b.0) b.1)) calls e)
leads_on (suc n) calls x a f h e = by (or_cases (nat_eq x a) _ h) (λ z k. leads_on n calls z a f k e)
  where
    by : (nat_eq x a ≡ true) ⊎ (list_any (λ (c : Call). nat_eq c.caller x && leads n calls c.called a) calls ≡ true) →
        ((z : ℕ) → leads n calls z a ≡ true → leads (suc n) calls z f ≡ true) →
        (nat_eq x f || list_any (λ (c : Call). nat_eq c.caller x && leads (suc n) calls c.called f) calls) ≡ true
    by (inl u) g = or_right (nat_eq x f) _ (any_implies (λ (c : Call). nat_eq c.caller a && nat_eq c.called f)
        (λ (c : Call). nat_eq c.caller x && leads (suc n) calls c.called f)
        (λ c p. (let b = both_true (nat_eq c.caller a) (nat_eq c.called f) p in
        both (nat_eq c.caller x) (leads (suc n) calls c.called f)
        (subst (λ z. nat_eq c.caller z ≡ true) (sym (eqb-true x a u)) b.0)
        (subst (λ z. leads (suc n) calls c.called z ≡ true) (eqb-true c.called f b.1)
        (leads_self (suc n) calls c.called)))) calls e)
    by (inr k) g = or_right (nat_eq x f) _ (any_implies (λ (c : Call). nat_eq c.caller x && leads n calls c.called a)
        (λ (c : Call). nat_eq c.caller x && leads (suc n) calls c.called f)
        (λ c p. (let b = both_true (nat_eq c.caller x) (leads n calls c.called a) p in
        both (nat_eq c.caller x) (leads (suc n) calls c.called f) b.0 (g c.called b.1))) calls k)

-- ---- the functions on the way to one

abbrev pub Chain : List Call → ℕ → List ℕ → Type 0
Chain calls f [] = Unit {0}
Chain calls f (a ∷ as') = Edge calls a f × Chain calls a as'

chain_leads : (calls : List Call) (x f : ℕ) (path : List ℕ) → Chain calls f path → IsOneOf (f ∷ path) x →
    leads (length path) calls x f ≡ true
chain_leads calls x f path c (inl e) =
    subst (λ z. leads (length path) calls z f ≡ true) e (leads_self (length path) calls f)
chain_leads calls x f [] c (inr h) = absurd h
chain_leads calls x f (a ∷ as') c (inr h) = leads_on (length as') calls x a f (chain_leads calls x a as' c.1 h) c.0

-- each of them is a caller
caller_of : (calls : List Call) (a f : ℕ) → Edge calls a f → IsOneOf (map (λ (c : Call). c.caller) calls) a
caller_of [] a f h = absurd (false≢true h)
caller_of (c ∷ cs) a f h = by (or_cases (nat_eq c.caller a && nat_eq c.called f)
    (list_any (λ (c : Call). nat_eq c.caller a && nat_eq c.called f) cs) h) (λ k. caller_of cs a f k)
  where
    by : ((nat_eq c.caller a && nat_eq c.called f) ≡ true) ⊎
        (list_any (λ (c : Call). nat_eq c.caller a && nat_eq c.called f) cs ≡ true) →
        (list_any (λ (c : Call). nat_eq c.caller a && nat_eq c.called f) cs ≡ true →
        IsOneOf (map (λ (c : Call). c.caller) cs) a) → (c.caller ≡ a) ⊎ IsOneOf (map (λ (c : Call). c.caller) cs) a
    by (inl e) g = inl (eqb-true c.caller a (both_true (nat_eq c.caller a) (nat_eq c.called f) e).0)
    by (inr k) g = inr (g k)

chain_callers : (calls : List Call) (f : ℕ) (path : List ℕ) → Chain calls f path →
    Each (λ z. IsOneOf (map (λ (c : Call). c.caller) calls) z) path
chain_callers calls f [] c = tt
chain_callers calls f (a ∷ as') c = (caller_of calls a f c.0, chain_callers calls a as' c.1)

length_map : {A B : Type 0} (g : A → B) (xs : List A) → length (map g xs) ≡ length xs
length_map g [] = refl
length_map g (x ∷ xs) = ap suc (length_map g xs)

-- a function on the way leads to the last one by no more calls than there are
chain_back : (calls : List Call) (x f : ℕ) (path : List ℕ) → Chain calls f path → AllDiffer (f ∷ path) →
    IsOneOf (f ∷ path) x → leads_back calls x f ≡ true
chain_back calls x f path c d h =
    let a = no_more path (map (λ (c : Call). c.caller) calls) d.1 (chain_callers calls f path c) in
    let b = length_map (λ (c : Call). c.caller) calls in
    let e : (length calls - length path) + length path ≡ length calls = omega arith in
    subst (λ z. leads z calls x f ≡ true) e (leads_within (length calls - length path) (length path) calls x f
    (chain_leads calls x f path c h))

module _ (P : Program) (calls : List Call) (ends : (f x : ℕ) → Edge calls f x → leads_back calls x f ≡ false)
    (typed : (f : ℕ) → f < length P.functions →
    Each (λ (c : CallSite). Edge calls f c.function × (c.function < length P.functions))
    (calls_of_all (function_at P f).body)) where
  each_ends : (depth : ℕ) (f : ℕ) (cs : List CallSite) →
      Each (λ (c : CallSite). Edge calls f c.function × (c.function < length P.functions)) cs →
      ((x : ℕ) → Edge calls f x → x < length P.functions → CallsEnd P depth x) →
      Each (λ (c : CallSite). CallsEnd P depth c.function) cs
  each_ends depth f [] h g = tt
  each_ends depth f (c ∷ cs) h g = (g c.function h.0.0 h.0.1, each_ends depth f cs h.1 g)

  ending : (depth f : ℕ) (path : List ℕ) → Chain calls f path → AllDiffer (f ∷ path) →
      Each (λ x. x < length P.functions) (f ∷ path) → length P.functions ≤ depth + length path → CallsEnd P depth f
  ending zero f path c d b l =
      let a =
      no_more (f ∷ path) (numbers_below (length P.functions)) d (each_below (length P.functions) (f ∷ path) b) in
      let e = below_length (length P.functions) in
      absurd (omega arith)
  ending (suc depth) f path c d b l = each_ends depth f (calls_of_all (function_at P f).body) (typed f b.0)
      (λ x e lt. ending depth x (f ∷ path) (
        e,
        c,
      ) ((λ h. false≢true (sym (ends f x e) ∙ chain_back calls x f path c d h)), d) (lt, b) (omega arith))

  pub all_end : (n : ℕ) → n < length P.functions → CallsEnd P (length P.functions) n
  all_end n h = ending (length P.functions) n [] tt ((λ k. k), tt) (h, tt) (omega arith)
