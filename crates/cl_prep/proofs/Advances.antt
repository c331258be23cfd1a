-- One directive or one token more, as the loop reads them.
use Rattle.std.proofs.Common.{ℕ, suc, List, [], ◌∷◌, ◌++◌, length, map, get_or, take, drop, true, false, ◌⊎◌, inl}
use Rattle.std.proofs.Common.{inr, ◌≡◌, ◌+◌, ◌<◌, ◌≤◌, refl, sym, ap, subst, ◌∙◌, arith, length-append, length-drop}
use Rattle.std.proofs.Common.{Ok, Err}
use Rattle.std.specs.List.{prefix_len}
use Rattle.std.proofs.lemmas.List.{drop_more, drop_all, drop-drop, length-take-le, length_push, length-map}
use Rattle.cl_token.specs.declared.token.Token.{Token}
use Rattle.cl_prep.specs.declared.prep.PrepError.{PrepError}
use Rattle.cl_prep.specs.declared.prep.PrepError.TheVariants as errors
use Rattle.cl_prep.specs.declared.directive.Conditional.{Conditional}
use Rattle.cl_prep.specs.Directives.{Scope, begins_directive, is_inside, line_of, behind_line, is_active, effect}
use Rattle.cl_prep.specs.Directives.{Outcome}
use Rattle.cl_prep.specs.Expands.{State, directive, skipped, kept, replaced, Refuses, directive_fails, not_closed}
use Rattle.cl_prep.specs.Expands.{one_too_many, too_many, Leads, here, onward, start_state, Ends, Fails, placed}
use Rattle.cl_prep.specs.Expands.{token_limit, replacement_limit}
use Rattle.cl_prep.specs.Frames.{IsRead, IsTooMuch}
use Rattle.cl_prep.specs.Scopes.{IsErrOf, IsInnermost}
use Rattle.cl_prep.specs.Progress.{state, FailsOrMemory}

-- the next token, and those behind it
rest_is : (tokens : List Token) (at : ℕ) (t : Token) → at < length tokens → t ≡ get_or tokens at t →
    drop at tokens ≡ t ∷ drop (at + 1) tokens
rest_is tokens at t h e = drop_more tokens at t h ∙ ap (λ (x : Token). x ∷ drop (at + 1) tokens) (sym e)

-- what is reached from s0, with the rest in view
led_to : (s0 : State) (at : ℕ) (rest new : List Token) (scope : Scope) (out : List Token) (n : ℕ) →
    Leads s0 (state at rest scope out n) → rest ≡ new → Leads s0 (state at new scope out n)
led_to s0 at rest new scope out n h e = subst (λ (r : List Token). Leads s0 (state at r scope out n)) e h

module _ (s0 : State) (tokens : List Token) (at : ℕ) (t : Token) (scope : Scope) (out : List Token) (count : ℕ) where
  abbrev Led : Type 0
  Led = Leads s0 (state at (drop at tokens) scope out count)

  abbrev now : State
  now = state at (t ∷ drop (at + 1) tokens) scope out count

  standing : Led → at < length tokens → t ≡ get_or tokens at t → Leads s0 now
  standing h l e = led_to s0 at (drop at tokens) (t ∷ drop (at + 1) tokens) scope out count h (rest_is tokens at t l e)

  within_line : (n : ℕ) → n ≤ length (drop (at + 1) tokens) → at < length tokens → at + (1 + n) ≤ length tokens
  within_line n h l = omega (arith, length-drop (at + 1) tokens)

  -- the line behind a `#`, as the code finds it
  pub record IsLine (behind line : List Token) (n : ℕ) : Type 0 where
    pub all : behind ≡ drop (at + 1) tokens
    pub run : n ≡ prefix_len is_inside behind
    pub within : n ≤ length behind
    pub front : line ≡ take n behind

  line_is : (behind line : List Token) (n : ℕ) → IsLine behind line n → line ≡ line_of (drop (at + 1) tokens)
  line_is behind line n h = h.front ∙ ap (λ (m : ℕ). take m behind) h.run ∙ ap line_of h.all

  size_is : (behind line : List Token) (n : ℕ) → IsLine behind line n → length (line_of (drop (at + 1) tokens)) ≡ n
  size_is behind line n h =
      let m : prefix_len is_inside (drop (at + 1) tokens) ≡ n =
      ap (λ (ts : List Token). prefix_len is_inside ts) (sym h.all) ∙ sym h.run in
      let l : length behind ≡ length (drop (at + 1) tokens) = ap length h.all in
      ap (λ (k : ℕ). length (take k (drop (at + 1) tokens))) m ∙
      length-take-le n (drop (at + 1) tokens) (omega (arith, h.within))

  behind_is : (behind line : List Token) (n : ℕ) → IsLine behind line n →
      behind_line (drop (at + 1) tokens) ≡ drop (at + (1 + n)) tokens
  behind_is behind line n h =
      let m : prefix_len is_inside (drop (at + 1) tokens) ≡ n =
      ap (λ (ts : List Token). prefix_len is_inside ts) (sym h.all) ∙ sym h.run in
      let k : at + 1 + n ≡ at + (1 + n) = omega arith in
      ap (λ (j : ℕ). drop j (drop (at + 1) tokens)) m ∙ drop-drop n (at + 1) tokens ∙ ap (λ (j : ℕ). drop j tokens) k

  pub line_within : (behind line : List Token) (n : ℕ) → IsLine behind line n → at < length tokens →
      at + (1 + n) ≤ length tokens
  line_within behind line n h l =
      let m : length behind ≡ length (drop (at + 1) tokens) = ap length h.all in
      within_line n (omega (arith, h.within)) l

  pub obeys : (behind line : List Token) (n : ℕ) (after : Scope) → Led → at < length tokens → t ≡ get_or tokens at t →
      begins_directive t ≡ true → IsLine behind line n → effect at scope line ≡ Ok after
      → Leads s0 (state (at + (1 + n)) (drop (at + (1 + n)) tokens) after out count)
  obeys behind line n after h l e b i f =
      let g : effect at scope (line_of (drop (at + 1) tokens)) ≡ Ok after =
      ap (effect at scope) (sym (line_is behind line n i)) ∙ f in
      let next = onward now (state (at + 1 + length (line_of (drop (at + 1) tokens)))
      (behind_line (drop (at + 1) tokens)) after out count) (standing h l e)
      (directive t (drop (at + 1) tokens) after refl b g) in
      let k : at + 1 + length (line_of (drop (at + 1) tokens)) ≡ at + (1 + n) =
      omega (arith, size_is behind line n i) in
      subst (λ (r : List Token). Leads s0 (state (at + (1 + n)) r after out count)) (behind_is behind line n i)
      (subst (λ (m : ℕ). Leads s0 (state m (behind_line (drop (at + 1) tokens)) after out count)) k next)

  error_of : (e : PrepError) (o : Outcome) → IsErrOf e o → (e ≡ errors.Memory) ⊎ (o ≡ Err e)
  error_of errors.Memory o h = inl refl
  error_of (errors.BadDirective a) o h = inr h
  error_of (errors.NoName a) o h = inr h
  error_of (errors.Redefined a) o h = inr h
  error_of (errors.NoOpening a) o h = inr h
  error_of (errors.NotClosed a) o h = inr h
  error_of (errors.TooMany a) o h = inr h

  pub fails_or : (e : PrepError) → Fails s0 e → FailsOrMemory s0 e
  fails_or errors.Memory h = tt
  fails_or (errors.BadDirective a) h = h
  fails_or (errors.NoName a) h = h
  fails_or (errors.Redefined a) h = h
  fails_or (errors.NoOpening a) h = h
  fails_or (errors.NotClosed a) h = h
  fails_or (errors.TooMany a) h = h

  pub disobeys : (behind line : List Token) (n : ℕ) (e : PrepError) → Led → at < length tokens →
      t ≡ get_or tokens at t → begins_directive t ≡ true → IsLine behind line n → IsErrOf e (effect at scope line) →
      FailsOrMemory s0 e
  disobeys behind line n e h l f b i w = elim (error_of e (effect at scope line) w) [
    | inl m ↦ subst (FailsOrMemory s0) (sym m) tt
    | inr r ↦ (
        let g : effect at scope (line_of (drop (at + 1) tokens)) ≡ Err e =
        ap (effect at scope) (sym (line_is behind line n i)) ∙ r in
        fails_or e (record {
          at = now;
          reached = standing h l f;
          refuses = directive_fails t (drop (at + 1) tokens) e refl b g;
        }))
  ]

  pub passes : Led → at < length tokens → t ≡ get_or tokens at t → begins_directive t ≡ false →
      is_active scope.conditionals ≡ false → Leads s0 (state (at + 1) (drop (at + 1) tokens) scope out count)
  passes h l e b a = onward now (state (at + 1) (drop (at + 1) tokens) scope out count) (standing h l e)
      (skipped t (drop (at + 1) tokens) refl b a)

  moved : (new : List Token) (n : ℕ) → State
  moved new n = state (at + 1) (drop (at + 1) tokens) scope new n

  pub reads : (new : List Token) (n : ℕ) → Led → at < length tokens → t ≡ get_or tokens at t →
      begins_directive t ≡ false → is_active scope.conditionals ≡ true → IsRead scope.names t out new count n →
      Leads s0 (state (at + 1) (drop (at + 1) tokens) scope new n)
  reads new n h l e b a (inl w) =
      let next = onward now (state (at + 1) (drop (at + 1) tokens) scope (out ++ t ∷ []) count) (standing h l e)
      (kept t (drop (at + 1) tokens) refl b a w.0 w.3) in
      subst (λ (m : ℕ). Leads s0 (state (at + 1) (drop (at + 1) tokens) scope new m)) (sym w.2)
      (subst (λ (o : List Token). Leads s0 (state (at + 1) (drop (at + 1) tokens) scope o count)) (sym w.1) next)
  reads new n h l e b a (inr w) =
      let r = w.2 in
      let next = onward now (state (at + 1) (drop (at + 1) tokens) scope (out ++ map (placed t) r.tokens)
      (count + suc r.replacements)) (standing h l e) (replaced t (drop (at + 1) tokens) w.0 r.tokens
      r.replacements refl b a w.1 r.gives r.few r.seldom) in
      subst (λ (m : ℕ). Leads s0 (state (at + 1) (drop (at + 1) tokens) scope new m)) (sym r.counted)
      (subst (λ (o : List Token). Leads s0 (state (at + 1) (drop (at + 1) tokens) scope o
      (count + suc r.replacements))) (sym r.out) next)

  pub read_few : (new : List Token) (n : ℕ) → IsRead scope.names t out new count n → length new ≤ token_limit
  read_few new n (inl w) = omega (arith, ap length w.1, length_push out t, w.3)
  read_few new n (inr w) = let r = w.2 in omega (
    arith,
    ap length r.out,
    length-append out (map (placed t) r.tokens),
    length-map r.tokens (placed t),
    r.few,
  )

  pub read_seldom : (new : List Token) (n : ℕ) → count ≤ replacement_limit → IsRead scope.names t out new count n →
      n ≤ replacement_limit
  read_seldom new n h (inl w) = omega (arith, w.2)
  read_seldom new n h (inr w) = let r = w.2 in omega (arith, r.counted, r.seldom)

  pub exceeds : Led → at < length tokens → t ≡ get_or tokens at t → begins_directive t ≡ false →
      is_active scope.conditionals ≡ true → IsTooMuch scope.names t out count → Fails s0 (errors.TooMany at)
  exceeds h l e b a (inl w) =
      record { at = now; reached = standing h l e; refuses = one_too_many t (drop (at + 1) tokens) refl b a w.0 w.1 }
  exceeds h l e b a (inr w) =
      let r = w.2 in
      record {
        at = now;
        reached = standing h l e;
        refuses = too_many t (drop (at + 1) tokens) w.0 r.tokens r.replacements refl b a w.1 r.gives r.over;
      }

module _ (s0 : State) (tokens : List Token) (at : ℕ) (scope : Scope) (out : List Token) (count : ℕ) where
  at_end : Leads s0 (state at (drop at tokens) scope out count) → length tokens ≤ at →
      Leads s0 (state at [] scope out count)
  at_end h l = led_to s0 at (drop at tokens) [] scope out count h (drop_all at tokens l)

  pub finishes : Leads s0 (state at (drop at tokens) scope out count) → length tokens ≤ at → scope.conditionals ≡ [] →
      Ends s0 out
  finishes h l c =
      record { end = state at [] scope out count; reached = at_end h l; read = refl; closed = c; given = refl }

  pub left_open : (n : ℕ) → Leads s0 (state at (drop at tokens) scope out count) → length tokens ≤ at →
      IsInnermost scope.conditionals n → Fails s0 (errors.NotClosed n)
  left_open n h l i = go scope.conditionals refl i
    where
      go : (cs : List Conditional) → scope.conditionals ≡ cs → IsInnermost cs n → Fails s0 (errors.NotClosed n)
      go [] e k = absurd k
      go (c ∷ cs) e k = record {
        at = state at [] scope out count;
        reached = at_end h l;
        refuses = subst (λ (m : ℕ). Refuses (state at [] scope out count) (errors.NotClosed m)) (sym k)
            (not_closed c cs refl e);
      }

-- nothing has been read
pub begun : (tokens : List Token) (scope : Scope) (out : List Token) → scope.conditionals ≡ [] → out ≡ [] →
    Leads (start_state tokens scope.names) (state 0 tokens scope out 0)
begun tokens scope out c o =
    subst (λ (x : List Token). Leads (start_state tokens scope.names) (state 0 tokens scope x 0)) (sym o)
    (subst (λ (cs : List Conditional). Leads (start_state tokens scope.names)
    (state 0 tokens (record { names = scope.names; conditionals = cs }) [] 0)) (sym c) here)
