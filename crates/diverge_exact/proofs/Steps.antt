-- What a change of an entry does in a round that adds nothing: marks stay, and flags and the conditions of
-- declarations are kept.
use Rattle.std.proofs.Common.{◌≡◌, ℕ, Bool, true, false, ◌||◌, ◌&&◌, not, cond, nat_eq, List, [], ◌∷◌, ◌++◌, Option}
use Rattle.std.proofs.Common.{Some, None, unwrap_or, ◌⊎◌, inl, inr, refl, sym, ap, ◌∙◌, subst}
use Rattle.std.proofs.lemmas.Bool.{eqb-true}
use Rattle.std.proofs.lemmas.Option.{none-some, same_Some}
use Rattle.cl_model.specs.Lists.{IsOneOf, AllDiffer}
use Rattle.cl_model.specs.Valid.{Scope, Has}
use Rattle.diverge.specs.declared.known.Entry.{Entry}
use Rattle.diverge.specs.Known as known
use Rattle.diverge.specs.Known.{State, absent, variable_at, result_at, with_variable, same_guard, grows}
use Rattle.diverge_sound.proofs.Keeps.{neither, not_true, Key, Answer, Cell, HasKey}
use Rattle.diverge_sound.proofs.Parts.{in_left, in_right}
use Rattle.diverge_exact.proofs.Slots.{slot, entry, with_key, entry_is, changed, changed_slot}

-- whether it is marked; marks of what is not there count
abbrev pub mark : State → ℕ → Key → Bool
mark s g k = (entry s g k).varies

-- if nothing was added up to here, nothing was before, and the marks are the same
abbrev pub Quiet : State → State → Type 0
Quiet s t = t.grew ≡ false → (s.grew ≡ false) × ((g : ℕ) (k : Key) → mark s g k ≡ mark t g k)

abbrev pub FlagsKept : State → State → Type 0
FlagsKept s t = (g : ℕ) (k : Key) → (entry s g k).assigned ≡ true → (entry t g k).assigned ≡ true

abbrev pub SinceStays : ℕ → Scope → State → State → Type 0
SinceStays f sc s t = (g : ℕ) (k : Key) → (g ≡ f → HasKey sc k) → (entry t g k).since ≡ (entry s g k).since

pub record Onto (f : ℕ) (sc : Scope) (s t : State) : Type 0 where
  pub quiet : Quiet s t
  pub flags : FlagsKept s t
  pub since : SinceStays f sc s t

pub onto_same : (f : ℕ) (sc : Scope) (s : State) → Onto f sc s s
onto_same f sc s = record { quiet = λ h. (h, λ g k. refl); flags = λ g k h. h; since = λ g k has. refl }

pub onto_then : (f : ℕ) (sc : Scope) (s t u : State) → Onto f sc s t → Onto f sc t u → Onto f sc s u
onto_then f sc s t u one two = record {
  quiet = λ h. let b = two.quiet h in let a = one.quiet b.0 in (a.0, λ g k. a.1 g k ∙ b.1 g k);
  flags = λ g k h. two.flags g k (one.flags g k h);
  since = λ g k has. two.since g k has ∙ one.since g k has;
}

-- what an entry is behind a change: as it was, or the new one, or it is not there
abbrev pub Landed : ℕ → Key → Entry → State → ℕ → Key → Type 0
Landed f k e s g j =
    (entry (with_key f k e s) g j ≡ entry s g j) ⊎ ((g ≡ f) × (j ≡ k) × (entry (with_key f k e s) g j ≡ e))

pub landed : (f : ℕ) (k : Key) (e : Entry) (s : State) (g : ℕ) (j : Key) → Landed f k e s g j
landed f k e s g j =
    elim (changed f k e s g j) [
      | inl q ↦ inl (entry_is (with_key f k e s) g j ∙ ap (λ o. unwrap_or o absent) q ∙ sym (entry_is s g j))
      | inr (old, gf, jk, was, is) ↦ inr (gf, jk, entry_is (with_key f k e s) g j ∙ ap (λ o. unwrap_or o absent) is)
    ]

-- the changed entry itself
pub landed_here : (f : ℕ) (k : Key) (e : Entry) (s : State) → (entry (with_key f k e s) f k ≡ e) ⊎
    (entry (with_key f k e s) f k ≡ absent)
landed_here f k e s = by_slot (slot s f k) refl
  where
    by_slot : (o : Option Entry) → slot s f k ≡ o → (entry (with_key f k e s) f k ≡ e) ⊎
        (entry (with_key f k e s) f k ≡ absent)
    by_slot (Some old) q =
        inl (entry_is (with_key f k e s) f k ∙ ap (λ o. unwrap_or o absent) (changed_slot f k e s old q))
    by_slot None q =
        elim (changed f k e s f k) [
          | inl z ↦ inr (entry_is (with_key f k e s) f k ∙ ap (λ o. unwrap_or o absent) (z ∙ q))
          | inr (old, gf, jk, was, is) ↦ absurd (none-some old (sym q ∙ was))
        ]

grew_before : (f : ℕ) (k : Key) (e : Entry) (s : State) → (with_key f k e s).grew ≡ false → (s.grew ≡ false) ×
    (grows (entry s f k) e ≡ false)
grew_before f Answer e s h = neither s.grew (grows (result_at s f) e) h
grew_before f (Cell x) e s h = neither s.grew (grows (variable_at s f x) e) h

same_bits : (a b : Bool) → (a ≡ true → b ≡ true) → (b && not a) ≡ false → a ≡ b
same_bits true true h g = refl
same_bits true false h g = let z = h refl in cc
same_bits false true h g = cc
same_bits false false h g = refl

quiet_change : (f : ℕ) (k : Key) (e : Entry) (s : State) → ((entry s f k).varies ≡ true → e.varies ≡ true) →
    Quiet s (with_key f k e s)
quiet_change f k e s onward h =
    let (g0, gr) = grew_before f k e s h in (
      g0,
      λ g j. elim (landed f k e s g j) [
        | inl q ↦ ap (λ (x : Entry). x.varies) (sym q)
        | inr (gf, jk, q) ↦ subst (λ i. mark s i j ≡ mark (with_key f k e s) g j) (sym gf)
            (subst (λ i. mark s f i ≡ mark (with_key f k e s) g j) (sym jk)
            (same_bits (entry s f k).varies e.varies onward gr ∙ sym (ap (λ (x : Entry). x.varies) q)))
      ],
    )

flags_change : (f : ℕ) (k : Key) (e : Entry) (s : State) → ((entry s f k).assigned ≡ true → e.assigned ≡ true) →
    FlagsKept s (with_key f k e s)
flags_change f k e s onward g j h =
    elim (landed f k e s g j) [
      | inl q ↦ ap (λ (x : Entry). x.assigned) q ∙ h
      | inr (gf, jk, q) ↦ ap (λ (x : Entry). x.assigned) q ∙
          onward (subst (λ i. (entry s f i).assigned ≡ true) jk (subst (λ i. (entry s i j).assigned ≡ true) gf h))
    ]

-- a change that keeps under which condition a variable was declared
pub onto_change : (f : ℕ) (sc : Scope) (g : ℕ) (k : Key) (e : Entry) (s : State) →
    ((entry s g k).varies ≡ true → e.varies ≡ true) → ((entry s g k).assigned ≡ true → e.assigned ≡ true) →
    e.since ≡ (entry s g k).since → Onto f sc s (with_key g k e s)
onto_change f sc g k e s v a same = record {
  quiet = quiet_change g k e s v;
  flags = flags_change g k e s a;
  since = λ i j has. elim (landed g k e s i j) [
    | inl q ↦ ap (λ (x : Entry). x.since) q
    | inr (gf, jk, q) ↦ ap (λ (x : Entry). x.since) q ∙ same ∙
        subst (λ z. (entry s g k).since ≡ (entry s z j).since) (sym gf)
        (subst (λ z. (entry s g k).since ≡ (entry s g z).since) (sym jk) refl)
  ];
}

-- a declaration of a variable that is not in scope
pub onto_declare : (f : ℕ) (sc : Scope) (y : ℕ) (e : Entry) (s : State) →
    ((entry s f (Cell y)).varies ≡ true → e.varies ≡ true) →
    ((entry s f (Cell y)).assigned ≡ true → e.assigned ≡ true) → (Has sc y → ⊥) → Onto f sc s (with_variable f y e s)
onto_declare f sc y e s v a ne = record {
  quiet = quiet_change f (Cell y) e s v;
  flags = flags_change f (Cell y) e s a;
  since = λ i j has. elim (landed f (Cell y) e s i j) [
    | inl q ↦ ap (λ (x : Entry). x.since) q
    | inr (gf, jk, q) ↦ absurd (ne (subst (HasKey sc) jk (has gf)))
  ];
}

-- the marks at the end

abbrev pub Final : (ℕ → Key → Bool) → State → Type 0
Final M t = (t.grew ≡ false) × ((g : ℕ) (k : Key) → mark t g k ≡ M g k)

pub final_before : (M : ℕ → Key → Bool) (f : ℕ) (sc : Scope) (s t : State) → Onto f sc s t → Final M t → Final M s
final_before M f sc s t onto (h, m) = let a = onto.quiet h in (a.0, λ g k. a.1 g k ∙ m g k)

-- a new entry that varies is marked at the end
pub marked_new : (M : ℕ → Key → Bool) (f : ℕ) (k : Key) (e : Entry) (s : State) → Final M (with_key f k e s) →
    e.varies ≡ true → M f k ≡ true
marked_new M f k e s fin v =
    elim (landed_here f k e s) [
      | inl q ↦ sym (fin.1 f k) ∙ ap (λ (x : Entry). x.varies) q ∙ v
      | inr q ↦ sym (fin.1 f k) ∙ ap (λ (x : Entry). x.varies) q
    ]

-- it is noted that it is assigned, or it is marked at the end
abbrev pub Flag : (ℕ → Key → Bool) → ℕ → State → Key → Type 0
Flag M f t k = ((entry t f k).assigned ≡ true) ⊎ (M f k ≡ true)

pub flag_new : (M : ℕ → Key → Bool) (f : ℕ) (k : Key) (e : Entry) (s : State) → Final M (with_key f k e s) →
    e.assigned ≡ true → Flag M f (with_key f k e s) k
flag_new M f k e s fin a =
    elim (landed_here f k e s) [
      | inl q ↦ inl (ap (λ (x : Entry). x.assigned) q ∙ a)
      | inr q ↦ inr (sym (fin.1 f k) ∙ ap (λ (x : Entry). x.varies) q)
    ]

pub flag_on : (M : ℕ → Key → Bool) (f : ℕ) (sc : Scope) (s t : State) (k : Key) → Onto f sc s t → Flag M f s k →
    Flag M f t k
flag_on M f sc s t k onto (inl h) = inl (onto.flags f k h)
flag_on M f sc s t k onto (inr h) = inr h

-- behind its scope, what is assigned is marked
pub left_marked : (M : ℕ → Key → Bool) (f : ℕ) (k : Key) (s : State) →
    Final M (with_key f k (known.left (entry s f k)) s) → Flag M f s k → M f k ≡ true
left_marked M f k s fin (inr h) = h
left_marked M f k s fin (inl h) =
    marked_new M f k (known.left (entry s f k)) s fin (or_second (entry s f k).varies (entry s f k).assigned h)
  where
    or_second : (a b : Bool) → b ≡ true → (a || b) ≡ true
    or_second true b h = refl
    or_second false b h = h

-- conditions are apart: the sites here differ, none is that of the condition around, and none is that around a
-- declaration in scope

pub record Apart (f : ℕ) (guard : Option ℕ) (s : State) (sc : Scope) (sites : List ℕ) : Type 0 where
  pub differ : AllDiffer sites
  pub around : (i : ℕ) → guard ≡ Some i → IsOneOf sites i → ⊥
  pub before : (k : Key) → HasKey sc k → (i : ℕ) → (entry s f k).since ≡ Some i → IsOneOf sites i → ⊥

pub differ_left : (xs ys : List ℕ) → AllDiffer (xs ++ ys) → AllDiffer xs
differ_left [] ys h = tt
differ_left (x ∷ xs) ys h = ((λ m. h.0 (in_left xs ys x m)), differ_left xs ys h.1)

pub differ_right : (xs ys : List ℕ) → AllDiffer (xs ++ ys) → AllDiffer ys
differ_right [] ys h = h
differ_right (x ∷ xs) ys h = differ_right xs ys h.1

pub apart_left : (f : ℕ) (guard : Option ℕ) (s : State) (sc : Scope) (xs ys : List ℕ) →
    Apart f guard s sc (xs ++ ys) → Apart f guard s sc xs
apart_left f guard s sc xs ys a =
    record {
      differ = differ_left xs ys a.differ;
      around = λ i q m. a.around i q (in_left xs ys i m);
      before = λ k has i q m. a.before k has i q (in_left xs ys i m);
    }

pub apart_right : (f : ℕ) (guard : Option ℕ) (s : State) (sc : Scope) (xs ys : List ℕ) →
    Apart f guard s sc (xs ++ ys) → Apart f guard s sc ys
apart_right f guard s sc xs ys a = record {
  differ = differ_right xs ys a.differ;
  around = λ i q m. a.around i q (in_right xs ys i m);
  before = λ k has i q m. a.before k has i q (in_right xs ys i m);
}

pub apart_rest : (f : ℕ) (guard : Option ℕ) (s : State) (sc : Scope) (site : ℕ) (ys : List ℕ) →
    Apart f guard s sc (site ∷ ys) → Apart f guard s sc ys
apart_rest f guard s sc site ys a = record {
  differ = a.differ.1;
  around = λ i q m. a.around i q (inr m);
  before = λ k has i q m. a.before k has i q (inr m);
}

pub apart_on : (f : ℕ) (guard : Option ℕ) (s t : State) (sc : Scope) (sites : List ℕ) → Onto f sc s t →
    Apart f guard s sc sites → Apart f guard t sc sites
apart_on f guard s t sc sites onto a = record {
  differ = a.differ;
  around = a.around;
  before = λ k has i q m. a.before k has i (sym (onto.since f k (λ _. has)) ∙ q) m;
}

pub apart_under : (f : ℕ) (guard : Option ℕ) (s : State) (sc : Scope) (site : ℕ) (ys : List ℕ) (varies : Bool) →
    Apart f guard s sc (site ∷ ys) → Apart f (cond varies (Some site) guard) s sc ys
apart_under f guard s sc site ys true a =
    record {
      differ = a.differ.1;
      around = λ i q m. a.differ.0 (subst (IsOneOf ys) (sym (same_Some site i q)) m);
      before = λ k has i q m. a.before k has i q (inr m);
    }
apart_under f guard s sc site ys false a = apart_rest f guard s sc site ys a

-- it was not declared under the condition with this site
pub not_since : (f : ℕ) (guard : Option ℕ) (s : State) (sc : Scope) (site : ℕ) (ys : List ℕ) →
    Apart f guard s sc (site ∷ ys) → (k : Key) → HasKey sc k → same_guard (entry s f k).since (Some site) ≡ false
not_since f guard s sc site ys a k has = by_since (entry s f k).since refl
  where
    by_since : (o : Option ℕ) → (entry s f k).since ≡ o → same_guard o (Some site) ≡ false
    by_since None q = refl
    by_since (Some i) q = not_true (nat_eq i site) (λ e. a.before k has i q (inl (sym (eqb-true i site e))))

pub not_under : (f : ℕ) (guard : Option ℕ) (s : State) (sc : Scope) (site : ℕ) (ys : List ℕ) (varies : Bool) →
    Apart f guard s sc (site ∷ ys) → (k : Key) → HasKey sc k → same_guard (entry s f k).since guard ≡ false
    → same_guard (entry s f k).since (cond varies (Some site) guard) ≡ false
not_under f guard s sc site ys true a k has h = not_since f guard s sc site ys a k has
not_under f guard s sc site ys false a k has h = h
