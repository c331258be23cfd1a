-- What expansion answers, case by case.
use Rattle.std.specs.Prelude.{ℕ, List, ◌≡◌, Result, Ok, Err, Vec}
use Rattle.std.specs.declared.alloc.Global.{Global}
use Rattle.cl_token.specs.declared.token.Token.{Token}
use Rattle.cl_prep.specs.declared.prep.Define.{Define}
use Rattle.cl_prep.specs.declared.prep.PrepError.{PrepError}
use Rattle.cl_prep.specs.declared.prep.PrepError.TheVariants as errors
use Rattle.cl_prep.specs.Directives.{Scope}
use Rattle.cl_prep.specs.Expands.{State, Ends, Fails, IsRefused}

abbrev pub state : ℕ → List Token → Scope → List Token → ℕ → State
state at rest scope out replaced = record { at = at; rest = rest; scope = scope; out = out; replaced = replaced }

-- From where expansion stands, it fails with this error, or memory ran out.
abbrev pub FailsOrMemory : State → PrepError → Type 0
FailsOrMemory s errors.Memory = Unit {0}
FailsOrMemory s e = Fails s e

-- From where expansion stands, this is answered.
abbrev pub Finishes : State → Result (Vec Token Global) PrepError → Type 0
Finishes s (Ok v) = Ends s v.items
Finishes s (Err e) = FailsOrMemory s e

-- The tokens are refused with this error, or memory ran out.
abbrev pub IsRefusedOrMemory : List Token → List Define → PrepError → Type 0
IsRefusedOrMemory tokens defines errors.Memory = Unit {0}
IsRefusedOrMemory tokens defines e = IsRefused tokens defines e

-- It answers these tokens, unless memory ran out.
abbrev pub IsTokens : Result (Vec Token Global) PrepError → List Token → Type 0
IsTokens (Ok v) ts = v.items ≡ ts
IsTokens (Err errors.Memory) ts = Unit {0}
IsTokens (Err _) ts = ⊥

-- It answers this error, unless memory ran out.
abbrev pub IsFault : Result (Vec Token Global) PrepError → PrepError → Type 0
IsFault (Ok v) e = ⊥
IsFault (Err errors.Memory) e = Unit {0}
IsFault (Err f) e = f ≡ e
