-- The replacements that are being read, as a contract sees them.
use Rattle.std.specs.Prelude.{ℕ, List, [], ◌∷◌, ◌<◌, ◌≤◌, ◌≡◌, ◌+◌, ◌++◌, suc, Bool, true, false, Some, None, Vec}
use Rattle.std.specs.Prelude.{length, map, get_or, ◌⊎◌, position}
use Rattle.std.specs.Str.{bytes_eq}
use Rattle.std.specs.declared.alloc.Global.{Global}
use Rattle.std.specs.Map.{keys_of}
use Rattle.cl_token.specs.Lexeme.{Lexeme, lexeme_of, lexemes_of}
use Rattle.cl_token.specs.declared.token.Token.{Token}
use Rattle.cl_prep.specs.declared.replace.Frame.{Frame}
use Rattle.cl_prep.specs.declared.replace.Stop.{Stop}
use Rattle.cl_prep.specs.declared.replace.Stop.TheVariants as stops
use Rattle.cl_prep.specs.Names.{Names, with_name, replacement, Gives}
use Rattle.cl_prep.specs.Pending.{Pending, is_member, Waits}
use Rattle.cl_prep.specs.Expands.{placed, token_limit, replacement_limit}

abbrev pub Entries : Type 0
Entries = List (Vec ℕ Global × Vec Token Global)

-- the number of a name in the table
abbrev pub IsNumber : Entries → ℕ → List ℕ → Type 0
IsNumber es number word = position (λ k. bytes_eq word k.items) (keys_of es) ≡ Some number

abbrev pub pending_of : Frame → Pending
pending_of f = record { name = f.name.now; left = lexemes_of f.left.now }

abbrev pub pendings_of : List Frame → List Pending
pendings_of fs = map pending_of fs

-- A frame has its name's number, and its name is not replaced in it by a frame further out.
abbrev pub AreFrames : Entries → List Frame → Type 0
AreFrames es [] = Unit {0}
AreFrames es (f ∷ fs) =
    IsNumber es f.number f.name.now × (is_member f.name.now (pendings_of fs) ≡ false) × AreFrames es fs

-- A name is marked where it is being replaced.
pub record AreMarks (es : Entries) (marks : List Bool) (ps : List Pending) : Type 0 where
  pub enough : length es ≤ length marks
  pub marked : (number : ℕ) (word : List ℕ) → IsNumber es number word → get_or marks number false ≡ is_member word ps

-- the number is that of a frame
abbrev pub IsFrameOf : ℕ → List Frame → Type 0
IsFrameOf number [] = ⊥
IsFrameOf number (f ∷ fs) = (number ≡ f.number) ⊎ IsFrameOf number fs

-- no name is marked
abbrev pub AreClear : List Bool → Type 0
AreClear marks = (number : ℕ) → get_or marks number false ≡ false

-- what a replaced token gives, and how many names that replaces
pub record Replaces (names : Names) (t : Token) (body : List Lexeme) (before after : List Token)
    (count new : ℕ) : Type 0 where
  pub tokens : List Lexeme
  pub replacements : ℕ
  pub gives : Gives (with_name names t.word None) body tokens replacements
  pub out : after ≡ before ++ map (placed t) tokens
  pub counted : new ≡ count + suc replacements
  pub few : length before + length tokens ≤ token_limit
  pub seldom : count + suc replacements ≤ replacement_limit

-- too many tokens, or too many replaced names
pub record Exceeds (names : Names) (t : Token) (body : List Lexeme) (before : List Token) (count : ℕ) : Type 0 where
  pub tokens : List Lexeme
  pub replacements : ℕ
  pub gives : Gives (with_name names t.word None) body tokens replacements
  pub over : (token_limit < length before + length tokens) ⊎ (replacement_limit < count + suc replacements)

-- why a replacement stops
abbrev pub StopsBy : Stop → Type 0 → Type 0
StopsBy stops.Memory P = Unit {0}
StopsBy stops.TooMany P = P

-- Where the replacement of a token stands: what has been given, how many names have been replaced, and what is left.
pub record IsReading (es : Entries) (names : Names) (t : Token) (body : List Lexeme) (before : List Token) (start : ℕ)
    (frames : List Frame) (marks : List Bool) (out : List Token) (count : ℕ) : Type 0 where
  pub tokens : List Lexeme
  pub replacements : ℕ
  pub given : out ≡ before ++ map (placed t) tokens
  pub counted : count ≡ start + suc replacements
  pub going : (zs : List Lexeme) (m : ℕ) → Waits names (pendings_of frames) zs m →
      Gives (with_name names t.word None) body (tokens ++ zs) (replacements + m)
  pub open_frames : AreFrames es frames
  pub open_marks : AreMarks es marks (pendings_of frames)
  pub only_open : (number : ℕ) → get_or marks number false ≡ true → IsFrameOf number frames
  pub few : length out ≤ token_limit
  pub seldom : count ≤ replacement_limit

-- A token is no name in force, or one that is marked.
abbrev pub IsNotFree : Entries → Names → List Bool → Token → Type 0
IsNotFree es names marks x = (replacement names (lexeme_of x) ≡ None) ⊎
    ((number : ℕ) × IsNumber es number x.word × (get_or marks number false ≡ true))

-- A token of an active part is kept or replaced.
abbrev pub IsRead : Names → Token → List Token → List Token → ℕ → ℕ → Type 0
IsRead names t before after count new =
    ((replacement names (lexeme_of t) ≡ None) × (after ≡ before ++ t ∷ []) × (new ≡ count) ×
    (length before + 1 ≤ token_limit))
    ⊎ ((body : List Lexeme) × (replacement names (lexeme_of t) ≡ Some body) ×
    Replaces names t body before after count new)

-- A token of an active part is one too many, or its replacement is.
abbrev pub IsTooMuch : Names → Token → List Token → ℕ → Type 0
IsTooMuch names t before count =
    ((replacement names (lexeme_of t) ≡ None) × (token_limit < length before + 1))
    ⊎ ((body : List Lexeme) × (replacement names (lexeme_of t) ≡ Some body) × Exceeds names t body before count)
