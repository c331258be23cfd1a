-- Marking what a function leads to.
use Rattle.std.proofs.Common.{ℕ, zero, suc, ◌+◌, ◌<◌, ◌≤◌, Bool, true, false, not, ◌&&◌, ◌||◌, nat_eq, nat_lt, List}
use Rattle.std.proofs.Common.{[], ◌∷◌, length, set, None, Some, ◌⊎◌, inl, inr, ◌≡◌, ◌≢◌, refl, sym, ap, ◌∙◌, subst}
use Rattle.std.proofs.Common.{if◌then◌else◌, arith, replicate, get_or-set_same, get_or-set_other}
use Rattle.std.specs.List.{list_any}
use Rattle.std.proofs.lemmas.Bool.{and_parts, and_from, cases_lt, cases_eq}
use Rattle.std.proofs.lemmas.Bool.Decides.{nat_tests}
use Rattle.cl_meaning.specs.Faults.{Call, leads, leads_back}
use Rattle.cl_faults.specs.Reach.{marked, unmarked, open_in, most, count_marked, Sound}

test_is : (b : Bool) → (b ≡ true) ⊎ (b ≡ false)
test_is true = inl refl
test_is false = inr refl

pub or_left : (a b : Bool) → a ≡ true → (a || b) ≡ true
or_left true b h = refl
or_left false b h = absurd cc

pub or_right : (a b : Bool) → b ≡ true → (a || b) ≡ true
or_right true b h = refl
or_right false b h = h

or_parts : (a b : Bool) → (a || b) ≡ true → (a ≡ true) ⊎ (b ≡ true)
or_parts true b h = inl refl
or_parts false b h = inr h

any_mono : (p q : Call → Bool) → ((c : Call) → p c ≡ true → q c ≡ true) → (cs : List Call) → list_any p cs ≡ true →
    list_any q cs ≡ true
any_mono p q g [] h = absurd cc
any_mono p q g (c ∷ cs) h = elim (or_parts (p c) (list_any p cs) h) [
  | inl e ↦ or_left (q c) (list_any q cs) (g c e)
  | inr e ↦ or_right (q c) (list_any q cs) (any_mono p q g cs e)
]

same_number : (a b : ℕ) → nat_eq a b ≡ true → a ≡ b
same_number a b h = grind (arith, nat_tests)

pub number_same : (a : ℕ) → nat_eq a a ≡ true
number_same a = grind (arith, nat_tests)

-- one call from x to y
abbrev pub edge : List Call → ℕ → ℕ → Bool
edge calls x y = list_any (λ c. nat_eq c.caller x && nat_eq c.called y) calls

leads_more : (n : ℕ) (calls : List Call) (a b : ℕ) → leads n calls a b ≡ true → leads (suc n) calls a b ≡ true
unfolding leads
leads_more zero calls a b h =
    or_left (nat_eq a b) (list_any (λ (c : Call). nat_eq c.caller a && leads zero calls c.called b) calls) h
leads_more (suc n) calls a b h =
    elim (or_parts (nat_eq a b) (list_any (λ (c : Call). nat_eq c.caller a && leads n calls c.called b) calls) h) [
      | inl e ↦ or_left (nat_eq a b) (list_any (λ (c : Call). nat_eq c.caller a && leads (suc n) calls c.called b)
          calls) e
      | inr e ↦ or_right (nat_eq a b) (list_any (λ (c : Call). nat_eq c.caller a && leads (suc n) calls c.called b)
          calls) (any_mono (λ (c : Call). nat_eq c.caller a && leads n calls c.called b)
          (λ (c : Call). nat_eq c.caller a &&
          leads (suc n) calls c.called b)
          (λ c g. and_from (nat_eq c.caller a) (leads (suc n) calls c.called b)
          (and_parts (nat_eq c.caller a) (leads n calls c.called b) g).0
          (leads_more n calls c.called b (and_parts (nat_eq c.caller a) (leads n calls c.called b) g).1))
          calls e)
    ]

leads_up : (n m : ℕ) (calls : List Call) (a b : ℕ) → n ≤ m → leads n calls a b ≡ true → leads m calls a b ≡ true
leads_up n zero calls a b h g = subst (λ (k : ℕ). leads k calls a b ≡ true) (let e : n ≡ zero = omega arith in e) g
leads_up n (suc m) calls a b h g = elim (cases_lt n (suc m)) [
  | inl e ↦ leads_more m calls a b (leads_up n m calls a b (omega arith) g)
  | inr e ↦ subst (λ (k : ℕ). leads k calls a b ≡ true) (let e' : n ≡ suc m = omega arith in e') g
]

leads_self : (n : ℕ) (calls : List Call) (a : ℕ) → leads n calls a a ≡ true
unfolding leads
leads_self zero calls a = number_same a
leads_self (suc n) calls a =
    or_left (nat_eq a a) (list_any (λ (c : Call). nat_eq c.caller a && leads n calls c.called a) calls) (number_same a)

-- one call at the front
leads_first : (n : ℕ) (calls : List Call) (a x y : ℕ) → nat_eq a x ≡ true → edge calls x y ≡ true →
    leads (suc n) calls a y ≡ true
unfolding leads
leads_first n calls a x y h g =
    or_right (nat_eq a y) (list_any (λ (c : Call). nat_eq c.caller a && leads n calls c.called y) calls)
    (any_mono (λ (c : Call). nat_eq c.caller x && nat_eq c.called y) (λ (c : Call). nat_eq c.caller a &&
    leads n calls c.called y)
    (λ c k. and_from (nat_eq c.caller a) (leads n calls c.called y)
    (subst (λ (z : ℕ). nat_eq c.caller z ≡ true) (sym (same_number a x h))
    (and_parts (nat_eq c.caller x) (nat_eq c.called y) k).0)
    (subst (λ (z : ℕ). leads n calls c.called z ≡ true)
    (same_number c.called y (and_parts (nat_eq c.caller x) (nat_eq c.called y) k).1)
    (leads_self n calls c.called)))
    calls g)

-- one call more at the end
leads_behind : (n : ℕ) (calls : List Call) (a x y : ℕ) → leads n calls a x ≡ true → edge calls x y ≡ true →
    leads (suc n) calls a y ≡ true
unfolding leads
leads_behind zero calls a x y h g = leads_first zero calls a x y h g
leads_behind (suc n) calls a x y h g =
    elim (or_parts (nat_eq a x) (list_any (λ (c : Call). nat_eq c.caller a && leads n calls c.called x) calls) h) [
      | inl e ↦ leads_first (suc n) calls a x y e g
      | inr e ↦ or_right (nat_eq a y) (list_any (λ (c : Call). nat_eq c.caller a && leads (suc n) calls c.called y)
          calls) (any_mono (λ (c : Call). nat_eq c.caller a && leads n calls c.called x)
          (λ (c : Call). nat_eq c.caller a &&
          leads (suc n) calls c.called y)
          (λ c k. and_from (nat_eq c.caller a) (leads (suc n) calls c.called y)
          (and_parts (nat_eq c.caller a) (leads n calls c.called x) k).0
          (leads_behind n calls c.called x y (and_parts (nat_eq c.caller a) (leads n calls c.called x) k).1 g))
          calls e)
    ]

-- ---- one mark more

set_mark : (m : List Bool) (y : ℕ) → y < length m → marked (set m y true) y ≡ true
set_mark m y h = get_or-set_same m y true false h

set_other : (m : List Bool) (y x : ℕ) → x ≢ y → marked (set m y true) x ≡ marked m x
set_other m y x h = get_or-set_other m y x true false h

pub set_stays : (m : List Bool) (y x : ℕ) → y < length m → marked m x ≡ true → marked (set m y true) x ≡ true
set_stays m y x h g = elim (cases_eq x y) [
  | inl e ↦ subst (λ (z : ℕ). marked (set m y true) z ≡ true) (sym e) (set_mark m y h)
  | inr e ↦ set_other m y x e ∙ g
]

step_up : (p q : Bool) (a b : ℕ) → (p ≡ true → q ≡ true) → a ≤ b → (if p then 1 + a else a) ≤ (if q then 1 + b else b)
step_up true true a b h g = omega arith
step_up true false a b h g = let k : false ≡ true = h refl in absurd cc
step_up false true a b h g = omega arith
step_up false false a b h g = g

step_here : (p q : Bool) (a b : ℕ) → p ≡ false → q ≡ true → a ≤ b →
    (if p then 1 + a else a) + 1 ≤ (if q then 1 + b else b)
step_here true q a b h k g = absurd cc
step_here false true a b h k g = omega arith
step_here false false a b h k g = absurd cc

step_more : (p q : Bool) (a b : ℕ) → (p ≡ true → q ≡ true) → a + 1 ≤ b →
    (if p then 1 + a else a) + 1 ≤ (if q then 1 + b else b)
step_more true true a b h g = omega arith
step_more true false a b h g = let k : false ≡ true = h refl in absurd cc
step_more false true a b h g = omega arith
step_more false false a b h g = g

count_up : (cs : List Call) (m : List Bool) (y : ℕ) → y < length m → count_marked m cs ≤ count_marked (set m y true) cs
count_up [] m y h = omega arith
count_up (c ∷ cs) m y h = step_up (marked m c.called) (marked (set m y true) c.called) (count_marked m cs)
    (count_marked (set m y true) cs) (set_stays m y c.called h) (count_up cs m y h)

count_more : (cs : List Call) (m : List Bool) (x y : ℕ) → y < length m → marked m y ≡ false → edge cs x y ≡ true →
    count_marked m cs + 1 ≤ count_marked (set m y true) cs
count_more [] m x y h g k = absurd cc
count_more (c ∷ cs) m x y h g k = elim (or_parts (nat_eq c.caller x && nat_eq c.called y) (edge cs x y) k) [
  | inl e ↦ (let s : c.called ≡ y = same_number c.called y (and_parts (nat_eq c.caller x) (nat_eq c.called y) e).1 in
      step_here (marked m c.called) (marked (set m y true) c.called) (count_marked m cs)
      (count_marked (set m y true) cs) (ap (marked m) s ∙ g) (ap (marked (set m y true)) s ∙
      set_mark m y h) (count_up cs m y h))
  | inr e ↦ step_more (marked m c.called) (marked (set m y true) c.called) (count_marked m cs)
      (count_marked (set m y true) cs) (set_stays m y c.called h) (count_more cs m x y h g e)
]

step_within : (p : Bool) (a n : ℕ) → a ≤ n → (if p then 1 + a else a) ≤ suc n
step_within true a n h = omega arith
step_within false a n h = omega arith

count_within : (cs : List Call) (m : List Bool) → count_marked m cs ≤ length cs
count_within [] m = omega arith
count_within (c ∷ cs) m = step_within (marked m c.called) (count_marked m cs) (length cs) (count_within cs m)

pub sound_step : (calls : List Call) (from : ℕ) (m : List Bool) (x y : ℕ) → Sound calls from m → y < length m →
    marked m x ≡ true → marked m y ≡ false → edge calls x y ≡ true → Sound calls from (set m y true)
sound_step calls from m x y s h g k e = record { leads = at }
  where
    at : (z : ℕ) → marked (set m y true) z ≡ true → leads (count_marked (set m y true) calls) calls from z ≡ true
    at z r = elim (cases_eq z y) [
      | inl q ↦ subst (λ (w : ℕ). leads (count_marked (set m y true) calls) calls from w ≡ true) (sym q)
          (leads_up (suc (count_marked m calls)) (count_marked (set m y true) calls) calls from y
          (let b : count_marked m calls + 1 ≤ count_marked (set m y true) calls = count_more calls m x y h k
          e in omega arith)
          (leads_behind (count_marked m calls) calls from x y (s.leads x g) e))
      | inr q ↦ leads_up (count_marked m calls) (count_marked (set m y true) calls) calls from z
          (count_up calls m y h) (s.leads z (sym (set_other m y z q) ∙ r))
    ]

no_mark : (n x : ℕ) → marked (replicate n false) x ≡ false
no_mark zero x = refl
no_mark (suc n) zero = refl
no_mark (suc n) (suc x) = no_mark n x

pub sound_first : (calls : List Call) (from n : ℕ) → Sound calls from (set (replicate n false) from true)
sound_first calls from n = record { leads = at }
  where
    at : (z : ℕ) → marked (set (replicate n false) from true) z ≡ true →
        leads (count_marked (set (replicate n false) from true) calls) calls from z ≡ true
    at z r = elim (cases_eq z from) [
      | inl q ↦ subst (λ (w : ℕ). leads (count_marked (set (replicate n false) from true) calls) calls from w ≡ true)
          (sym q) (leads_self (count_marked (set (replicate n false) from true) calls) calls from)
      | inr q ↦ (let f : false ≡ true = sym (no_mark n z) ∙ (sym (set_other (replicate n false) from z q) ∙ r) in
          absurd cc)
    ]

-- ---- a call that is open

pub record Open (m : List Bool) (cs : List Call) (y : ℕ) : Type 0 where
  pub caller : ℕ
  pub reached : marked m caller ≡ true
  pub fresh : marked m y ≡ false
  pub call : edge cs caller y ≡ true

not_true : (b : Bool) → not b ≡ true → b ≡ false
not_true true h = absurd cc
not_true false h = refl

pub open_found : (m : List Bool) (cs : List Call) (y : ℕ) → open_in m cs ≡ Some y → Open m cs y
open_found m [] y h = absurd cc
open_found m (c ∷ cs) y h = elim (test_is (marked m c.caller && not (marked m c.called))) [
  | inl e ↦ (let k : Some c.called ≡ Some y = rw e at h in let s : c.called ≡ y = cc in
      record {
        caller = c.caller;
        reached = (and_parts (marked m c.caller) (not (marked m c.called)) e).0;
        fresh = ap (marked m) (sym s) ∙
            not_true (marked m c.called) (and_parts (marked m c.caller) (not (marked m c.called)) e).1;
        call = or_left (nat_eq c.caller c.caller && nat_eq c.called y) (edge cs c.caller y)
            (and_from (nat_eq c.caller c.caller) (nat_eq c.called y) (number_same c.caller)
            (subst (λ (z : ℕ). nat_eq c.called z ≡ true) s (number_same c.called)));
      })
  | inr e ↦ (let k : open_in m cs ≡ Some y = rw e at h in let o : Open m cs y = open_found m cs y k in
      record {
        caller = o.caller;
        reached = o.reached;
        fresh = o.fresh;
        call = or_right (nat_eq c.caller o.caller && nat_eq c.called y) (edge cs o.caller y) o.call;
      })
]

-- no call is open: what is marked calls what is marked
closed_by : (m : List Bool) (cs : List Call) → open_in m cs ≡ None → (x y : ℕ) → edge cs x y ≡ true →
    marked m x ≡ true → marked m y ≡ true
closed_by m [] h x y g k = absurd cc
closed_by m (c ∷ cs) h x y g k = elim (test_is (marked m c.caller && not (marked m c.called))) [
  | inl e ↦ (let q : Some c.called ≡ None = rw e at h in absurd cc)
  | inr e ↦ elim (or_parts (nat_eq c.caller x && nat_eq c.called y) (edge cs x y) g) [
    | inl f ↦ (let p : nat_eq c.caller x ≡ true = (and_parts (nat_eq c.caller x) (nat_eq c.called y) f).0 in
        let r : nat_eq c.called y ≡ true = (and_parts (nat_eq c.caller x) (nat_eq c.called y) f).1 in
        let s : marked m c.caller ≡ true = ap (marked m) (same_number c.caller x p) ∙ k in
        elim (test_is (marked m c.called)) [
          | inl t ↦ ap (marked m) (sym (same_number c.called y r)) ∙ t
          | inr t ↦ (let v : (marked m c.caller && not (marked m c.called)) ≡ true = and_from (marked m c.caller)
              (not (marked m c.called)) s (ap not t) in let w : true ≡ false = sym v ∙ e in absurd cc)
        ])
    | inr f ↦ closed_by m cs (let q : open_in m cs ≡ None = rw e at h in q) x y f k
  ]
]

record Passed (p : Call → Bool) (cs : List Call) : Type 0 where
  call : Call
  passes : p call ≡ true
  among : edge cs call.caller call.called ≡ true

any_found : (p : Call → Bool) (cs : List Call) → list_any p cs ≡ true → Passed p cs
any_found p [] h = absurd cc
any_found p (c ∷ cs) h = elim (or_parts (p c) (list_any p cs) h) [
  | inl e ↦ record {
    call = c;
    passes = e;
    among = or_left (nat_eq c.caller c.caller && nat_eq c.called c.called) (edge cs c.caller c.called)
        (and_from (nat_eq c.caller c.caller) (nat_eq c.called c.called) (number_same c.caller) (number_same c.called));
  }
  | inr e ↦ (let f : Passed p cs = any_found p cs e in
      record {
        call = f.call;
        passes = f.passes;
        among = or_right (nat_eq c.caller f.call.caller && nat_eq c.called f.call.called)
            (edge cs f.call.caller f.call.called) f.among;
      })
]

complete : (n : ℕ) (calls : List Call) (m : List Bool) (from to : ℕ) → open_in m calls ≡ None → marked m from ≡ true →
    leads n calls from to ≡ true → marked m to ≡ true
unfolding leads
complete zero calls m from to h g k = ap (marked m) (sym (same_number from to k)) ∙ g
complete (suc n) calls m from to h g k =
    elim (or_parts (nat_eq from to) (list_any (λ (c : Call). nat_eq c.caller from && leads n calls c.called to) calls)
    k) [
      | inl e ↦ ap (marked m) (sym (same_number from to e)) ∙ g
      | inr e ↦ (let f : Passed (λ (c : Call). nat_eq c.caller from && leads n calls c.called to) calls = any_found
          (λ (c : Call). nat_eq c.caller from && leads n calls c.called to) calls e in
          let p : nat_eq f.call.caller from ≡ true =
          (and_parts (nat_eq f.call.caller from) (leads n calls f.call.called to) f.passes).0 in
          let q : leads n calls f.call.called to ≡ true =
          (and_parts (nat_eq f.call.caller from) (leads n calls f.call.called to) f.passes).1 in
          complete n calls m f.call.called to h (closed_by m calls h f.call.caller f.call.called f.among
          (ap (marked m) (same_number f.call.caller from p) ∙ g)) q)
    ]

pub answer_is : (calls : List Call) (m : List Bool) (from to : ℕ) → Sound calls from m → open_in m calls ≡ None →
    marked m from ≡ true → marked m to ≡ leads_back calls from to
answer_is calls m from to s h g = elim (test_is (marked m to)) [
  | inl e ↦ e ∙ sym (leads_up (count_marked m calls) (length calls) calls from to (count_within calls m) (s.leads to e))
  | inr e ↦ elim (test_is (leads (length calls) calls from to)) [
    | inl f ↦ (let k : false ≡ true = sym e ∙ complete (length calls) calls m from to h g f in absurd cc)
    | inr f ↦ e ∙ sym f
  ]
]

-- ---- numbers within the marks

larger : (n k : ℕ) → n ≤ (if nat_lt n k then k else n)
larger n k = grind (arith, nat_tests)

larger_too : (n k : ℕ) → k ≤ (if nat_lt n k then k else n)
larger_too n k = grind (arith, nat_tests)

pub most_from : (n : ℕ) (cs : List Call) → n ≤ most n cs
most_from n [] = omega arith
most_from n (c ∷ cs) = omega (arith, larger n c.called, most_from (if nat_lt n c.called then c.called else n) cs)

pub most_edge : (n : ℕ) (cs : List Call) (x y : ℕ) → edge cs x y ≡ true → y ≤ most n cs
most_edge n [] x y h = absurd cc
most_edge n (c ∷ cs) x y h = elim (or_parts (nat_eq c.caller x && nat_eq c.called y) (edge cs x y) h) [
  | inl e ↦ (let s : c.called ≡ y = same_number c.called y (and_parts (nat_eq c.caller x) (nat_eq c.called y) e).1 in
      omega (arith, s, larger_too n c.called, most_from (if nat_lt n c.called then c.called else n) cs))
  | inr e ↦ most_edge (if nat_lt n c.called then c.called else n) cs x y e
]

pub fewer : (m : List Bool) (y : ℕ) → y < length m → marked m y ≡ false → unmarked (set m y true) < unmarked m
fewer [] y h g = absurd (omega arith)
fewer (true ∷ m) zero h g = absurd cc
fewer (false ∷ m) zero h g = omega arith
fewer (true ∷ m) (suc y) h g = fewer m y (omega arith) g
fewer (false ∷ m) (suc y) h g = omega (arith, fewer m y (omega arith) g)
