-- The names that are in force from the start (OpenCL 1.2, section 6.12.3), and those that are given.
use Rattle.std.specs.Prelude.{ℕ, List, [], ◌∷◌, Option, None, Some, codes}
use Rattle.std.specs.Fmt.{decimal}
use Rattle.cl_token.specs.Lexeme.{Lexeme}
use Rattle.cl_token.specs.declared.token.Kind.TheVariants.{Number, Mark}
use Rattle.cl_prep.specs.declared.prep.Define.{Define}
use Rattle.cl_prep.specs.Names.{Names, no_names, with_name, defined}

abbrev pub number : List ℕ → List Lexeme
number word = record { kind = Number; word = word } ∷ []

abbrev pub mark : List ℕ → Lexeme
mark word = record { kind = Mark; word = word }

-- ( - WORD - 1 )
abbrev pub lowest : List ℕ → List Lexeme
lowest word = mark (codes "(") ∷ mark (codes "-") ∷ record { kind = Number; word = word } ∷ mark (codes "-") ∷
    record { kind = Number; word = codes "1" } ∷ mark (codes ")") ∷ []

-- the limits of the types of up to 16 bits that have a sign
abbrev pub narrow_limits : List (List ℕ × List Lexeme)
narrow_limits =
    (codes "CHAR_BIT", number (codes "8"))
    ∷ (codes "SCHAR_MAX", number (codes "127"))
    ∷ (codes "SCHAR_MIN", lowest (codes "127"))
    ∷ (codes "CHAR_MAX", number (codes "127"))
    ∷ (codes "CHAR_MIN", lowest (codes "127"))
    ∷ (codes "SHRT_MAX", number (codes "32767"))
    ∷ (codes "SHRT_MIN", lowest (codes "32767"))
    ∷ []

-- those of 32 and 64 bits
abbrev pub wide_limits : List (List ℕ × List Lexeme)
wide_limits =
    (codes "INT_MAX", number (codes "2147483647"))
    ∷ (codes "INT_MIN", lowest (codes "2147483647"))
    ∷ (codes "LONG_MAX", number (codes "0x7fffffffffffffffL"))
    ∷ (codes "LONG_MIN", lowest (codes "0x7fffffffffffffffL"))
    ∷ []

-- and those of the types without a sign
abbrev pub unsigned_limits : List (List ℕ × List Lexeme)
unsigned_limits =
    (codes "UCHAR_MAX", number (codes "255"))
    ∷ (codes "USHRT_MAX", number (codes "65535"))
    ∷ (codes "UINT_MAX", number (codes "0xffffffff"))
    ∷ (codes "ULONG_MAX", number (codes "0xffffffffffffffffUL"))
    ∷ []

abbrev pub names_in : Names → List (List ℕ × List Lexeme) → Names
names_in names [] = names
names_in names (e ∷ es) = names_in (with_name names e.0 (Some e.1)) es

-- the names from the start
unfoldable pub start_names : Names
start_names = names_in (names_in (names_in no_names narrow_limits) wide_limits) unsigned_limits

-- the names with a given one, whose replacement is one decimal number
abbrev pub with_define : Define → Option Names → Option Names
with_define d None = None
with_define d (Some names) = defined names d.name (number (decimal d.value))

-- the names with those that are given, in order, if none is defined twice
abbrev pub with_defines : Option Names → List Define → Option Names
with_defines names [] = names
with_defines names (d ∷ ds) = with_defines (with_define d names) ds
