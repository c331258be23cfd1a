-- How tokens expand: directives, conditionals and the replacement of names.
use Rattle.std.specs.Prelude.{ℕ, suc, List, [], ◌∷◌, ◌++◌, length, true, false, ◌≡◌, ◌+◌, ◌<◌, ◌≤◌, ◌⊎◌, None, Some}
use Rattle.std.specs.Prelude.{Ok, Err, map}
use Rattle.cl_token.specs.Lexeme.{Lexeme, lexeme_of}
use Rattle.cl_token.specs.declared.token.Token.{Token}
use Rattle.cl_prep.specs.declared.prep.Define.{Define}
use Rattle.cl_prep.specs.declared.prep.PrepError.{PrepError}
use Rattle.cl_prep.specs.declared.prep.PrepError.TheVariants.{Redefined, NotClosed, TooMany}
use Rattle.cl_prep.specs.declared.directive.Conditional.{Conditional}
use Rattle.cl_prep.specs.Names.{Names, with_name, replacement, Gives}
use Rattle.cl_prep.specs.Start.{start_names, with_defines}
use Rattle.cl_prep.specs.Directives.{begins_directive, line_of, behind_line, is_active, Scope, effect}

-- the most tokens that may be given, and the most names that may be replaced
abbrev pub token_limit : ℕ
token_limit = 65536

abbrev pub replacement_limit : ℕ
replacement_limit = 1048576

-- a token that a replacement gives, in the place of the replaced one
abbrev pub placed : Token → Lexeme → Token
placed t x = record { kind = x.kind; word = x.word; start = t.start; end = t.end; first = false }

-- Where expansion stands: the number of the next token, what remains, the names in force with the open conditionals,
-- the tokens given so far, and how many names have been replaced.
pub record State : Type 0 where
  pub at : ℕ
  pub rest : List Token
  pub scope : Scope
  pub out : List Token
  pub replaced : ℕ

-- One directive or one token is read.
pub data Step (s : State) : State → Type 0 where
  directive : (h : Token) (ts : List Token) (scope : Scope) → s.rest ≡ h ∷ ts → begins_directive h ≡ true →
      effect s.at s.scope (line_of ts) ≡ Ok scope
      → Step s (record {
        at = s.at + 1 + length (line_of ts);
        rest = behind_line ts;
        scope = scope;
        out = s.out;
        replaced = s.replaced;
      })
  skipped : (t : Token) (ts : List Token) → s.rest ≡ t ∷ ts → begins_directive t ≡ false →
      is_active s.scope.conditionals ≡ false
      → Step s (record { at = s.at + 1; rest = ts; scope = s.scope; out = s.out; replaced = s.replaced })
  kept : (t : Token) (ts : List Token) → s.rest ≡ t ∷ ts → begins_directive t ≡ false →
      is_active s.scope.conditionals ≡ true
      → replacement s.scope.names (lexeme_of t) ≡ None → length s.out + 1 ≤ token_limit
      → Step s (record { at = s.at + 1; rest = ts; scope = s.scope; out = s.out ++ t ∷ []; replaced = s.replaced })
  replaced : (t : Token) (ts : List Token) (body zs : List Lexeme) (m : ℕ) → s.rest ≡ t ∷ ts →
      begins_directive t ≡ false → is_active s.scope.conditionals ≡ true
      → replacement s.scope.names (lexeme_of t) ≡ Some body → Gives (with_name s.scope.names t.word None) body zs m
      → length s.out + length zs ≤ token_limit → s.replaced + suc m ≤ replacement_limit
      → Step s (record {
        at = s.at + 1;
        rest = ts;
        scope = s.scope;
        out = s.out ++ map (placed t) zs;
        replaced = s.replaced + suc m;
      })

-- A rule fails at the next directive or token, or at the end.
pub data Refuses (s : State) : PrepError → Type 0 where
  directive_fails : (h : Token) (ts : List Token) (e : PrepError) → s.rest ≡ h ∷ ts → begins_directive h ≡ true →
      effect s.at s.scope (line_of ts) ≡ Err e → Refuses s e
  not_closed : (c : Conditional) (cs : List Conditional) → s.rest ≡ [] → s.scope.conditionals ≡ c ∷ cs →
      Refuses s (NotClosed c.token)
  one_too_many : (t : Token) (ts : List Token) → s.rest ≡ t ∷ ts → begins_directive t ≡ false →
      is_active s.scope.conditionals ≡ true
      → replacement s.scope.names (lexeme_of t) ≡ None → token_limit < length s.out + 1 → Refuses s (TooMany s.at)
  too_many : (t : Token) (ts : List Token) (body zs : List Lexeme) (m : ℕ) → s.rest ≡ t ∷ ts →
      begins_directive t ≡ false → is_active s.scope.conditionals ≡ true
      → replacement s.scope.names (lexeme_of t) ≡ Some body → Gives (with_name s.scope.names t.word None) body zs m
      → (token_limit < length s.out + length zs) ⊎ (replacement_limit < s.replaced + suc m) → Refuses s (TooMany s.at)

abbrev pub start_state : List Token → Names → State
start_state tokens names =
    record { at = 0; rest = tokens; scope = record { names = names; conditionals = [] }; out = []; replaced = 0 }

-- one step after another
pub data Leads (s : State) : State → Type 0 where
  here : Leads s s
  onward : (t u : State) → Leads s t → Step t u → Leads s u

-- From where expansion stands, all is read, no conditional is open, and `out` has been given.
pub record Ends (s : State) (out : List Token) : Type 0 where
  pub end : State
  pub reached : Leads s end
  pub read : end.rest ≡ []
  pub closed : end.scope.conditionals ≡ []
  pub given : end.out ≡ out

-- From where expansion stands, a rule fails.
pub record Fails (s : State) (e : PrepError) : Type 0 where
  pub at : State
  pub reached : Leads s at
  pub refuses : Refuses at e

-- The tokens, with the given names, expand to `out`.
pub record Expands (tokens : List Token) (defines : List Define) (out : List Token) : Type 0 where
  pub names : Names
  pub begun : with_defines (Some start_names) defines ≡ Some names
  pub ends : Ends (start_state tokens names) out

-- The tokens, with the given names, are refused with this error.
pub data IsRefused (tokens : List Token) (defines : List Define) : PrepError → Type 0 where
  defined_twice : with_defines (Some start_names) defines ≡ None → IsRefused tokens defines (Redefined 0)
  fails : (names : Names) (e : PrepError) → with_defines (Some start_names) defines ≡ Some names →
      Fails (start_state tokens names) e → IsRefused tokens defines e
