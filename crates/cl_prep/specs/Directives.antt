-- What a directive does (C99, section 6.10).
use Rattle.std.specs.Prelude.{ℕ, List, [], ◌∷◌, Bool, true, false, not, ◌&&◌, ◌==◌, ◌+◌, if◌then◌else◌, Option, None}
use Rattle.std.specs.Prelude.{Some, Result, Ok, Err, is_some, codes, drop, take}
use Rattle.std.specs.List.{list_all, prefix_len}
use Rattle.std.specs.Str.{bytes_eq}
use Rattle.cl_token.specs.Lexeme.{lexemes_of}
use Rattle.cl_token.specs.declared.token.Token.{Token}
use Rattle.cl_token.specs.declared.token.Kind.{Kind}
use Rattle.cl_token.specs.declared.token.Kind.TheVariants.{Name, Mark, Hash}
use Rattle.cl_prep.specs.declared.prep.PrepError.{PrepError}
use Rattle.cl_prep.specs.declared.prep.PrepError.TheVariants.{BadDirective, NoName, Redefined, NoOpening}
use Rattle.cl_prep.specs.declared.directive.Directive.{Directive}
use Rattle.cl_prep.specs.declared.directive.Directive.TheVariants.{Define, Undef, Ifdef, Ifndef, Else, Endif, If}
use Rattle.cl_prep.specs.declared.directive.Directive.TheVariants.{Pragma, Other}
use Rattle.cl_prep.specs.declared.directive.Conditional.{Conditional}
use Rattle.cl_prep.specs.Names.{Names, with_name, defined}

abbrev pub is_hash : Kind → Bool
is_hash Hash = true
is_hash _ = false

abbrev pub is_name : Kind → Bool
is_name Name = true
is_name _ = false

abbrev pub is_mark : Kind → Bool
is_mark Mark = true
is_mark _ = false

-- A `#` that is first on its line begins a directive.
abbrev pub begins_directive : Token → Bool
begins_directive t = is_hash t.kind && t.first

-- the tokens before the next line, and those from it on
abbrev pub is_inside : Token → Bool
is_inside t = not t.first

abbrev pub line_of : List Token → List Token
line_of ts = take (prefix_len is_inside ts) ts

abbrev pub behind_line : List Token → List Token
behind_line ts = drop (prefix_len is_inside ts) ts

-- the directive that a word names
abbrev pub directive_named : List ℕ → Directive
directive_named word =
    if bytes_eq word (codes "define") then Define
    else (if bytes_eq word (codes "undef") then Undef
    else (if bytes_eq word (codes "ifdef") then Ifdef
    else (if bytes_eq word (codes "ifndef") then Ifndef
    else (if bytes_eq word (codes "else") then Else
    else (if bytes_eq word (codes "endif") then Endif
    else (if bytes_eq word (codes "if") then If
    else (if bytes_eq word (codes "elif") then If
    else (if bytes_eq word (codes "pragma") then Pragma
    else Other))))))))

unfoldable pub directive_of : Token → Directive
directive_of t = if is_name t.kind then directive_named t.word else Other

-- The text is active where each open conditional is taken. The innermost one comes first.
abbrev pub is_active : List Conditional → Bool
is_active conditionals = list_all (λ c. c.taken) conditionals

-- the first argument, if it is a name
abbrev pub name_in : List Token → Option Token
name_in [] = None
name_in (n ∷ more) = if is_name n.kind then Some n else None

-- whether an opening parenthesis stands directly behind the name
abbrev pub has_parameters : Token → List Token → Bool
has_parameters n [] = false
has_parameters n (p ∷ more) = is_mark p.kind && (bytes_eq p.word (codes "(") && p.start == n.end)

-- the names in force and the open conditionals
pub record Scope : Type 0 where
  pub names : Names
  pub conditionals : List Conditional

abbrev pub Outcome : Type 0
Outcome = Result Scope PrepError

abbrev pub with_names : ℕ → Scope → Option Names → Outcome
with_names at s None = Err (Redefined (at + 2))
with_names at s (Some names) = Ok (record { names = names; conditionals = s.conditionals })

-- a definition of a name, by the tokens behind it
abbrev pub define_name : ℕ → Scope → Token → List Token → Outcome
define_name at s n body =
    if has_parameters n body then Err (BadDirective at) else with_names at s (defined s.names n.word (lexemes_of body))

abbrev pub define_in : ℕ → Scope → List Token → Option Token → Outcome
define_in at s args None = Err (NoName at)
define_in at s args (Some n) = define_name at s n (drop 1 args)

abbrev pub undef_in : ℕ → Scope → Option Token → Outcome
undef_in at s None = Err (NoName at)
undef_in at s (Some n) = Ok (record { names = with_name s.names n.word None; conditionals = s.conditionals })

-- a conditional opens, and is taken where its name is in force, or where it is not
abbrev pub open_in : Bool → ℕ → Scope → Option Token → Outcome
open_in wanted at s None = Err (NoName at)
open_in wanted at s (Some n) =
    Ok (record {
      names = s.names;
      conditionals = record {
        token = at;
        taken = if wanted then is_some (s.names n.word) else not (is_some (s.names n.word));
        otherwise = false;
      } ∷
          s.conditionals;
    })

abbrev pub else_in : ℕ → Scope → List Conditional → Outcome
else_in at s [] = Err (NoOpening at)
else_in at s (c ∷ cs) = if c.otherwise then Err (NoOpening at) else Ok (record {
  names = s.names;
  conditionals = record { token = c.token; taken = not c.taken; otherwise = true } ∷ cs;
})

abbrev pub endif_in : ℕ → Scope → List Conditional → Outcome
endif_in at s [] = Err (NoOpening at)
endif_in at s (c ∷ cs) = Ok (record { names = s.names; conditionals = cs })

-- What a directive does, with the tokens behind its word, where `at` is the number of its `#`. In a part that is not
-- active conditionals are followed, `#if` and `#elif` are refused, and all else is dropped.
unfoldable pub obeyed : ℕ → Scope → Directive → List Token → Outcome
obeyed at s Define args = if is_active s.conditionals then define_in at s args (name_in args) else Ok s
obeyed at s Undef args = if is_active s.conditionals then undef_in at s (name_in args) else Ok s
obeyed at s Ifdef args = open_in true at s (name_in args)
obeyed at s Ifndef args = open_in false at s (name_in args)
obeyed at s Else args = else_in at s s.conditionals
obeyed at s Endif args = endif_in at s s.conditionals
obeyed at s If args = Err (BadDirective at)
obeyed at s Pragma args = Ok s
obeyed at s Other args = if is_active s.conditionals then Err (BadDirective at) else Ok s

-- What the line behind a `#` does. A `#` alone does nothing.
abbrev pub effect : ℕ → Scope → List Token → Outcome
effect at s [] = Ok s
effect at s (w ∷ args) = obeyed at s (directive_of w) args
