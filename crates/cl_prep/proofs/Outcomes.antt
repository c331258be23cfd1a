-- The one answer.
use Rattle.std.proofs.Common.{ℕ, suc, List, [], ◌∷◌, length, map, ◌⊎◌, inl, inr, ◌≡◌, ◌≤◌, refl, sym, ap, subst, ◌∙◌}
use Rattle.std.proofs.Common.{arith, length-append, Vec, Global, Option, Some, Result, Ok, Err}
use Rattle.std.specs.Prelude.{IfOk, IfErr}
use Rattle.std.specs.List.{All, prefix_len}
use Rattle.std.proofs.lemmas.List.{length-map}
use Rattle.std.proofs.lemmas.List.Elements.{All-push, All-append, All-map, All-drop}
use Rattle.cl_token.specs.declared.token.Token.{Token}
use Rattle.cl_prep.specs.declared.prep.Define.{Define}
use Rattle.cl_prep.specs.declared.prep.PrepError.{PrepError}
use Rattle.cl_prep.specs.declared.prep.PrepError.TheVariants as errors
use Rattle.cl_prep.specs.Names.{Names}
use Rattle.cl_prep.specs.Start.{start_names, with_defines}
use Rattle.cl_prep.specs.Scopes.{Adds}
use Rattle.cl_prep.specs.Directives.{is_inside}
use Rattle.cl_prep.specs.Expands.{State, Step, directive, skipped, kept, replaced, start_state, Leads, here, onward}
use Rattle.cl_prep.specs.Expands.{Ends, Fails, Expands, IsRefused, defined_twice, fails, placed, token_limit}
use Rattle.cl_prep.specs.Progress.{Finishes, FailsOrMemory, IsTokens, IsFault, IsRefusedOrMemory}
use Rattle.cl_prep.proofs.Unique.{one_out, ends_or_fails, one_fail}

abbrev Answer : Type 0
Answer = Result (Vec Token Global) PrepError

memory_or : (s : State) (e : PrepError) → FailsOrMemory s e → (e ≡ errors.Memory) ⊎ Fails s e
memory_or s errors.Memory h = inl refl
memory_or s (errors.BadDirective a) h = inr h
memory_or s (errors.NoName a) h = inr h
memory_or s (errors.Redefined a) h = inr h
memory_or s (errors.NoOpening a) h = inr h
memory_or s (errors.NotClosed a) h = inr h
memory_or s (errors.TooMany a) h = inr h

refused_or : (tokens : List Token) (defines : List Define) (e : PrepError) → IsRefused tokens defines e →
    IsRefusedOrMemory tokens defines e
refused_or tokens defines errors.Memory h = tt
refused_or tokens defines (errors.BadDirective a) h = h
refused_or tokens defines (errors.NoName a) h = h
refused_or tokens defines (errors.Redefined a) h = h
refused_or tokens defines (errors.NoOpening a) h = h
refused_or tokens defines (errors.NotClosed a) h = h
refused_or tokens defines (errors.TooMany a) h = h

is_fault : (f e : PrepError) → f ≡ e → IsFault (Err f) e
is_fault errors.Memory e h = tt
is_fault (errors.BadDirective a) e h = h
is_fault (errors.NoName a) e h = h
is_fault (errors.Redefined a) e h = h
is_fault (errors.NoOpening a) e h = h
is_fault (errors.NotClosed a) e h = h
is_fault (errors.TooMany a) e h = h

-- ---- the tokens that are given

abbrev Starts : ℕ → List Token → Type 0
Starts n ts = All (λ t. t.start ≤ n) ts

behind_head : (n : ℕ) (t : Token) (ts : List Token) → Starts n (t ∷ ts) → Starts n ts
behind_head n t ts h = λ k d i. h (suc k) d (omega arith)

few_step : (s t : State) → Step s t → length s.out ≤ token_limit → length t.out ≤ token_limit
few_step s t (directive h ts scope e b f) l = l
few_step s t (skipped h ts e b i) l = l
few_step s t (kept h ts e b i r m) l = omega (arith, length-append s.out (h ∷ []), m)
few_step s t (replaced h ts body zs m e b i r g f k) l =
    omega (arith, length-append s.out (map (placed h) zs), length-map zs (placed h), f)

few_led : (s t : State) → Leads s t → length s.out ≤ token_limit → length t.out ≤ token_limit
few_led s t here l = l
few_led s t (onward u v h k) l = few_step u t k (few_led s u h l)

rest_starts : (n : ℕ) (rest : List Token) (t : Token) (ts : List Token) → rest ≡ t ∷ ts → Starts n rest →
    Starts n (t ∷ ts)
rest_starts n rest t ts e h = subst (Starts n) e h

starts_step : (n : ℕ) (s t : State) → Step s t → Starts n s.rest → Starts n s.out → Starts n t.rest × Starts n t.out
starts_step n s t (directive h ts scope e b f) r o = (
  All-drop (λ (x : Token). x.start ≤ n) (prefix_len is_inside ts) ts
      (behind_head n h ts (rest_starts n s.rest h ts e r)),
  o,
)
starts_step n s t (skipped h ts e b i) r o = (behind_head n h ts (rest_starts n s.rest h ts e r), o)
starts_step n s t (kept h ts e b i q l) r o =
    let all = rest_starts n s.rest h ts e r in
    (behind_head n h ts all, All-push (λ (x : Token). x.start ≤ n) s.out h o (all 0 h (omega arith)))
starts_step n s t (replaced h ts body zs m e b i q g f k) r o =
    let all = rest_starts n s.rest h ts e r in (
      behind_head n h ts all,
      All-append (λ (x : Token). x.start ≤ n) s.out (map (placed h) zs) o
          (All-map (λ (x : Token). x.start ≤ n) (placed h) zs (λ j d l. all 0 h (omega arith))),
    )

starts_led : (n : ℕ) (s t : State) → Leads s t → Starts n s.rest → Starts n s.out → Starts n t.rest × Starts n t.out
starts_led n s t here r o = (r, o)
starts_led n s t (onward u v h k) r o = let w = starts_led n s u h r o in starts_step n u t k w.0 w.1

few_given : (s : State) (out : List Token) → s.out ≡ [] → Ends s out → length out ≤ token_limit
few_given s out e h = omega (arith, few_led s h.end h.reached (omega (arith, ap length e)), ap length h.given)

no_starts : (n : ℕ) (ts : List Token) → ts ≡ [] → Starts n ts
no_starts n [] e = λ k d i. absurd (omega arith)
no_starts n (t ∷ ts) e = absurd (cc)

starts_given : (n : ℕ) (s : State) (out : List Token) → s.out ≡ [] → Starts n s.rest → Ends s out → Starts n out
starts_given n s out e r h = subst (Starts n) h.given (starts_led n s h.end h.reached r (no_starts n s.out e)).1

pub all_few : (tokens : List Token) (names : Names) (r : Answer) → Finishes (start_state tokens names) r →
    IfOk r (λ v. length v.items ≤ token_limit)
all_few tokens names (Ok v) h = few_given (start_state tokens names) v.items refl h
all_few tokens names (Err e) h = tt

pub all_inside : (tokens : List Token) (names : Names) (r : Answer) → Finishes (start_state tokens names) r →
    (n : ℕ) → Starts n tokens → IfOk r (λ v. All (λ t. t.start ≤ n) v.items)
all_inside tokens names (Ok v) h n s = starts_given n (start_state tokens names) v.items refl s h
all_inside tokens names (Err e) h n s = tt

-- ---- both ways

module _ (tokens : List Token) (defines : List Define) (names : Names)
    (begun : with_defines (Some start_names) defines ≡ Some names) where
  some_is : (a b : Names) → Some a ≡ Some b → a ≡ b
  some_is a b h = cc

  ends_here : (out : List Token) → Expands tokens defines out → Ends (start_state tokens names) out
  ends_here out h =
      subst (λ (n : Names). Ends (start_state tokens n) out) (some_is h.names names (sym h.begun ∙ begun)) h.ends

  fails_here : (e : PrepError) → IsRefused tokens defines e → Fails (start_state tokens names) e
  fails_here e (defined_twice h) = absurd (cc)
  fails_here e (fails n f h k) =
      subst (λ (m : Names). Fails (start_state tokens m) e) (some_is n names (sym h ∙ begun)) k

  pub all_expands : (r : Answer) → Finishes (start_state tokens names) r → IfOk r (λ v. Expands tokens defines v.items)
  all_expands (Ok v) h = record { names = names; begun = begun; ends = h }
  all_expands (Err e) h = tt

  pub all_tokens : (r : Answer) → Finishes (start_state tokens names) r → (out : List Token) →
      Expands tokens defines out → IsTokens r out
  all_tokens (Ok v) h out k = one_out (start_state tokens names) v.items out h (ends_here out k)
  all_tokens (Err e) h out k = elim (memory_or (start_state tokens names) e h) [
    | inl m ↦ subst (λ (x : PrepError). IsTokens (Err x) out) (sym m) tt
    | inr f ↦ absurd (ends_or_fails (start_state tokens names) out e (ends_here out k) f)
  ]

  pub all_refused : (r : Answer) → Finishes (start_state tokens names) r →
      IfErr r (λ e. IsRefusedOrMemory tokens defines e)
  all_refused (Ok v) h = tt
  all_refused (Err e) h = elim (memory_or (start_state tokens names) e h) [
    | inl m ↦ subst (IsRefusedOrMemory tokens defines) (sym m) tt
    | inr f ↦ refused_or tokens defines e (fails names e begun f)
  ]

  pub all_faults : (r : Answer) → Finishes (start_state tokens names) r → (e : PrepError) →
      IsRefused tokens defines e → IsFault r e
  all_faults (Ok v) h e k = ends_or_fails (start_state tokens names) v.items e h (fails_here e k)
  all_faults (Err f) h e k = elim (memory_or (start_state tokens names) f h) [
    | inl m ↦ subst (λ (x : PrepError). IsFault (Err x) e) (sym m) tt
    | inr g ↦ is_fault f e (one_fail (start_state tokens names) f e g (fails_here e k))
  ]

-- ---- names that are given twice

pub twice_refused : (tokens : List Token) (defines : List Define) (o : Option Names) (e : PrepError) (n : Names) →
    o ≡ with_defines (Some start_names) defines → Adds o (Err e) n → IsRefusedOrMemory tokens defines e
twice_refused tokens defines o errors.Memory n f h = tt
twice_refused tokens defines o (errors.Redefined at) n f h =
    subst (λ (k : ℕ). IsRefused tokens defines (errors.Redefined k)) (sym h.0) (defined_twice (sym f ∙ h.1))
twice_refused tokens defines o (errors.BadDirective at) n f h = absurd h
twice_refused tokens defines o (errors.NoName at) n f h = absurd h
twice_refused tokens defines o (errors.NoOpening at) n f h = absurd h
twice_refused tokens defines o (errors.NotClosed at) n f h = absurd h
twice_refused tokens defines o (errors.TooMany at) n f h = absurd h
