-- What is visible at a statement of the plain form, and beside it at what stands for the statement in the unit without
-- vectors.
use Rattle.std.specs.Prelude.{◌≡◌, ℕ, ◌≤◌, ◌<◌, ◌^◌, length, List, [], ◌∷◌, Bool, true, false}
use Rattle.cl_meaning.specs.Environment.{Env, Scope, is_firm}
use Rattle.cl_meaning.specs.Faults.{Asked}
use Rattle.cl_short_vec.specs.declared.nodes.Span.{Span}
use Rattle.cl_short_vec.specs.Kinds.{Names, is_other}
use Rattle.cl_short_vec.specs.Nodes.{component_name, helper}
use Rattle.cl_short_vec_faults.specs.Plainly.{has_point, Plainly}
use Rattle.cl_short_vec_faults.specs.Law.{AllGive}
use Rattle.cl_short_vec_faults.specs.Parts.{KnownAlone}

abbrev pub has_bytes : List ℕ → Bool
has_bytes [] = false
has_bytes (byte ∷ bytes) = true

-- a name of a source: it has bytes, and none is a point
pub record IsName (q : List ℕ) : Type 0 where
  pub some : has_bytes q ≡ true
  pub plain : has_point q ≡ false

-- In a scope, what the unit without vectors declares of a name of the source, the plain form declares too; and no
-- helping variable of a token from `bound` on is declared. From 2 ^ 64 on tokens would share names.
pub record ScopeBeside (bound : ℕ) (plain form : Scope) : Type 0 where
  pub declared : (q : List ℕ) → IsName q → is_firm (form q) ≡ true → is_firm (plain q) ≡ true
  pub components : (q : List ℕ) → IsName q → (c : ℕ) → is_firm (form (component_name q c)) ≡ true →
      is_firm (plain q) ≡ true
  pub helps : (s : Span) → bound ≤ s.first → s.first < 2 ^ 64 → is_firm (form (helper s)) ≡ false
  pub parts : (s : Span) → bound ≤ s.first → s.first < 2 ^ 64 → (c : ℕ) →
      is_firm (form (component_name (helper s) c)) ≡ false

abbrev pub ScopesBeside : ℕ → (plain form : List Scope) → Type 0
ScopesBeside bound [] [] = Unit {0}
ScopesBeside bound (s ∷ ss) (r ∷ rs) = ScopeBeside bound s r × ScopesBeside bound ss rs
ScopesBeside bound ss rs = ⊥

-- what is in hand where a statement stands whose first token is `bound` or one behind it
pub record Beside (asked : Asked) (names : Names) (bound : ℕ) (plain form : Env) : Type 0 where
  pub plainly : Plainly names plain form
  pub scopes : ScopesBeside bound plain.scopes form.scopes
  -- there is a scope into which names are declared
  pub open' : 1 ≤ length plain.scopes
  -- outside the argument of a fence
  pub unflagged : plain.flags ≡ false
  pub gives : AllGive asked plain
  pub alone : KnownAlone plain
  -- what stands for a vector or a pointer to vectors is a name of the source
  pub named : (q : List ℕ) → is_other (names q) ≡ false → IsName q
