-- What the lexer answers, case by case.
use Rattle.std.specs.Prelude.{◌≡◌, ℕ, List, Result, Ok, Err, Vec}
use Rattle.std.specs.declared.alloc.Global.{Global}
use Rattle.cl_token.specs.declared.token.Token.{Token}
use Rattle.cl_token.specs.declared.token.LexError.{LexError}
use Rattle.cl_token.specs.declared.token.LexError.TheVariants as errors
use Rattle.cl_token.specs.declared.lexeme.Fault.{Fault}
use Rattle.cl_token.specs.declared.lexeme.Fault.TheVariants as faults
use Rattle.cl_token.specs.Cuts.{Cuts, IsRefused}

-- It answers these tokens, unless memory ran out.
abbrev pub IsTokens : Result (Vec Token Global) LexError → List Token → Type 0
IsTokens (Ok v) ts = v.items ≡ ts
IsTokens (Err errors.Memory) ts = Unit {0}
IsTokens (Err _) ts = ⊥

-- It answers this error, unless memory ran out.
abbrev pub IsFault : Result (Vec Token Global) LexError → LexError → Type 0
IsFault (Ok v) e = ⊥
IsFault (Err errors.Memory) e = Unit {0}
IsFault (Err f) e = f ≡ e

-- The source is refused with this error, or memory ran out.
abbrev pub IsRefusedOrMemory : List ℕ → LexError → Type 0
IsRefusedOrMemory source errors.Memory = Unit {0}
IsRefusedOrMemory source e = IsRefused source e

-- the error of a fault at a place
abbrev pub error_at : Fault → ℕ → LexError
error_at faults.NoToken at = errors.NoToken at
error_at faults.OpenComment at = errors.OpenComment at
error_at faults.BadNumber at = errors.BadNumber at
error_at faults.LargeNumber at = errors.LargeNumber at

-- the source is cut into what is answered, or refused with it
abbrev pub IsCutOrRefused : List ℕ → Result (Vec Token Global) LexError → Type 0
IsCutOrRefused source (Ok v) = Cuts source v.items
IsCutOrRefused source (Err e) = IsRefusedOrMemory source e
