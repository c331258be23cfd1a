-- The one answer for a source that is not too long.
use Rattle.std.proofs.Common.{ℕ, List, length, ◌⊎◌, inl, inr, ◌≡◌, ◌≤◌, refl, sym, ap, subst, ◌∙◌, arith, Vec, Global}
use Rattle.std.proofs.Common.{Result, Ok, Err}
use Rattle.cl_token.specs.declared.token.Token.{Token}
use Rattle.cl_token.specs.declared.token.LexError.{LexError}
use Rattle.cl_token.specs.declared.token.LexError.TheVariants as errors
use Rattle.cl_token.specs.declared.lexeme.Fault.{Fault}
use Rattle.cl_token.specs.declared.lexeme.Fault.TheVariants as faults
use Rattle.cl_token.specs.Cuts.{Cuts, FailsAt, IsRefused, limit}
use Rattle.cl_token.specs.Answers.{IsTokens, IsFault, IsRefusedOrMemory, IsCutOrRefused, error_at}
use Rattle.cl_token.proofs.Lexemes.{Faulty}
use Rattle.cl_token.proofs.Unique.{one_cut, cut_or_fault, one_fault}

-- the fault and the place of an error
record Located (source : List ℕ) (e : LexError) : Type 0 where
  fault : Fault
  at : ℕ
  named : e ≡ error_at fault at
  fails : FailsAt (Faulty fault) source at

located : (source : List ℕ) (e : LexError) → length source ≤ limit → IsRefused source e → Located source e
located source (errors.NoToken at) l h = record { fault = faults.NoToken; at = at; named = refl; fails = h.1 }
located source (errors.OpenComment at) l h = record { fault = faults.OpenComment; at = at; named = refl; fails = h.1 }
located source (errors.BadNumber at) l h = record { fault = faults.BadNumber; at = at; named = refl; fails = h.1 }
located source (errors.LargeNumber at) l h = record { fault = faults.LargeNumber; at = at; named = refl; fails = h.1 }
located source errors.TooLong l h = absurd (omega arith)
located source errors.Memory l h = absurd h

memory_or : (source : List ℕ) (e : LexError) → IsRefusedOrMemory source e → (e ≡ errors.Memory) ⊎ IsRefused source e
memory_or source errors.Memory h = inl refl
memory_or source (errors.NoToken at) h = inr h
memory_or source (errors.OpenComment at) h = inr h
memory_or source (errors.BadNumber at) h = inr h
memory_or source (errors.LargeNumber at) h = inr h
memory_or source errors.TooLong h = inr h

-- one error is the other
is_fault : (f e : LexError) → f ≡ e → IsFault (Err f) e
is_fault errors.Memory e h = tt
is_fault (errors.NoToken at) e h = h
is_fault (errors.OpenComment at) e h = h
is_fault (errors.BadNumber at) e h = h
is_fault (errors.LargeNumber at) e h = h
is_fault errors.TooLong e h = h

fails_tokens : (source : List ℕ) (f : LexError) (ts : List Token) → Located source f → Cuts source ts →
    IsTokens (Err f) ts
fails_tokens source f ts h k = absurd (cut_or_fault source ts h.fault h.at k h.fails)

pub all_tokens : (source : List ℕ) (r : Result (Vec Token Global) LexError) → length source ≤ limit →
    IsCutOrRefused source r → (ts : List Token) → Cuts source ts → IsTokens r ts
all_tokens source (Ok v) l h ts k = one_cut source v.items ts h k
all_tokens source (Err f) l h ts k = elim (memory_or source f h) [
  | inl e ↦ subst (λ (x : LexError). IsTokens (Err x) ts) (sym e) tt
  | inr g ↦ fails_tokens source f ts (located source f l g) k
]

pub all_faults : (source : List ℕ) (r : Result (Vec Token Global) LexError) → length source ≤ limit →
    IsCutOrRefused source r → (e : LexError) → IsRefused source e → IsFault r e
all_faults source (Ok v) l h e k = let g = located source e l k in cut_or_fault source v.items g.fault g.at h g.fails
all_faults source (Err f) l h e k = elim (memory_or source f h) [
  | inl m ↦ subst (λ (x : LexError). IsFault (Err x) e) (sym m) tt
  | inr g ↦ (
      let a = located source f l g in
      let b = located source e l k in
      let (same, place) = one_fault source a.fault b.fault a.at b.at a.fails b.fails in
      is_fault f e (a.named ∙ ap (λ (x : Fault). error_at x a.at) same ∙ ap (error_at b.fault) place ∙ sym b.named))
]
