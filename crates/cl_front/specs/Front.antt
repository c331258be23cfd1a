-- What a source is before its kernels are looked at: its tokens, what they expand to, and the unit that those spell.
use Rattle.std.specs.Prelude.{◌≡◌, ◌<◌, ◌≤◌, ⊤, ℕ, List, [], ◌∷◌, length, drop, Option, Some, None}
use Rattle.wg_num.specs.declared.types.Place.{Place}
use Rattle.cl_token.specs.declared.token.Token.{Token}
use Rattle.cl_token.specs.declared.token.LexError.{LexError}
use Rattle.cl_token.specs.declared.token.LexError.TheVariants as lexical
use Rattle.cl_token.specs.Cuts.{Cuts, limit, IsRefused as IsUncut}
use Rattle.cl_token.specs.Places.{place_at}
use Rattle.cl_prep.specs.declared.prep.Define.{Define}
use Rattle.cl_prep.specs.declared.prep.PrepError.{PrepError}
use Rattle.cl_prep.specs.declared.prep.PrepError.TheVariants as prep
use Rattle.cl_prep.specs.Expands.{Expands, IsRefused as IsUnexpanded}
use Rattle.cl_tree.specs.Syntax.{Syntax, nesting}
use Rattle.cl_tree.specs.Grammar.{SpellsUnit}
use Rattle.cl_tree.specs.Places.{NoUnit, NoUnitWithin, SomeUnit, DeeperUnit}
use Rattle.cl_short_vec.specs.declared.refuse.VectorRefusal.{VectorRefusal}
use Rattle.cl_short_vec.specs.Faults.{refusal_of}
use Rattle.cl_short_vec.specs.Unit.{scalarised_of}
use Rattle.cl_front.specs.declared.condition.Condition.{Condition}
use Rattle.cl_front.specs.declared.condition.Condition.TheVariants as conditions
use Rattle.cl_front.specs.declared.front.SourceError.{SourceError}
use Rattle.cl_front.specs.declared.front.SourceError.TheVariants as errors

-- the tokens of a source, and what they expand to
pub record Reads (source : List ℕ) (defines : List Define) (tokens expanded : List Token) : Type 0 where
  pub short : length source ≤ limit
  pub cuts : Cuts source tokens
  pub expands : Expands tokens defines expanded

-- these are the expanded tokens of a source
abbrev pub AreExpanded : List ℕ → List Define → List Token → Type 0
AreExpanded source defines expanded = (tokens : List Token) × Reads source defines tokens expanded

-- these are the expanded tokens of a source, and this is the unit that they spell, in which no condition on vectors
-- stands
pub record IsSource (source : List ℕ) (defines : List Define) (expanded : List Token) (unit : Syntax) : Type 0 where
  pub read : AreExpanded source defines expanded
  pub spelled : SpellsUnit unit expanded
  pub nests : nesting unit ≤ 256
  pub vectors : refusal_of unit ≡ None

-- This is the unit without vectors that stands for the unit of the source.
pub record IsScalarSource (source : List ℕ) (defines : List Define) (expanded : List Token) (form : Syntax) :
    Type 0 where
  pub unit : Syntax
  pub is_source : IsSource source defines expanded unit
  pub form_is : form ≡ scalarised_of unit

-- This is the unit without vectors that stands for the unit that these tokens spell.
pub record IsScalarUnit (expanded : List Token) (form : Syntax) : Type 0 where
  pub unit : Syntax
  pub spelled : SpellsUnit unit expanded
  pub nests : nesting unit ≤ 256
  pub vectors : refusal_of unit ≡ None
  pub form_is : form ≡ scalarised_of unit

-- A source has a unit.
abbrev pub HasUnit : List ℕ → List Define → Type 0
HasUnit source defines = (unit : Syntax) × (expanded : List Token) × IsSource source defines expanded unit

-- the offset of the first of these tokens, and of the end of the source where there is none
abbrev pub start_of_first : ℕ → List Token → ℕ
start_of_first end [] = end
start_of_first end (t ∷ ts) = t.start

-- the place of the token with that number, and of the end of the source where there is none
abbrev pub place_of_token : List ℕ → List Token → ℕ → Place
place_of_token source tokens number = place_at source (start_of_first (length source) (drop number tokens))

-- the condition of an error of the tokens and the offset at which it stands, or none where memory ran out
abbrev pub condition_of_lexical : LexError → Option (Condition × ℕ)
condition_of_lexical (lexical.NoToken at) = Some (conditions.NoToken, at)
condition_of_lexical (lexical.OpenComment at) = Some (conditions.OpenComment, at)
condition_of_lexical (lexical.BadNumber at) = Some (conditions.BadNumber, at)
condition_of_lexical (lexical.LargeNumber at) = Some (conditions.LargeNumber, at)
condition_of_lexical lexical.TooLong = Some (conditions.TooLong, 0)
condition_of_lexical lexical.Memory = None

-- the condition of an error of the expansion and the token at which it stands, or none where memory ran out
abbrev pub condition_of_expansion : PrepError → Option (Condition × ℕ)
condition_of_expansion (prep.BadDirective token) = Some (conditions.BadDirective, token)
condition_of_expansion (prep.NoName token) = Some (conditions.NoName, token)
condition_of_expansion (prep.Redefined token) = Some (conditions.Redefined, token)
condition_of_expansion (prep.NoOpening token) = Some (conditions.NoOpening, token)
condition_of_expansion (prep.NotClosed token) = Some (conditions.NotClosed, token)
condition_of_expansion (prep.TooMany token) = Some (conditions.TooMany, token)
condition_of_expansion prep.Memory = None

-- The condition stands at that place, and none before it.
pub data StandsAt (source : List ℕ) (defines : List Define) (condition : Condition) (place : Place) : Type 0 where
  uncut : (e : LexError) (at : ℕ) → IsUncut source e → condition_of_lexical e ≡ Some (condition, at) →
      place ≡ place_at source at → StandsAt source defines condition place
  unexpanded : (tokens : List Token) (e : PrepError) (at : ℕ) → length source ≤ limit → Cuts source tokens →
      IsUnexpanded tokens defines e
      → condition_of_expansion e ≡ Some (condition, at) → place ≡ place_of_token source tokens at →
      StandsAt source defines condition place
  no_unit : (tokens expanded : List Token) (at : ℕ) → Reads source defines tokens expanded → NoUnit expanded at →
      ((before : ℕ) → before < at → SomeUnit expanded before)
      → condition ≡ conditions.Syntax → place ≡ place_of_token source expanded at →
      StandsAt source defines condition place
  too_deep : (tokens expanded : List Token) (at : ℕ) → Reads source defines tokens expanded →
      NoUnitWithin 256 expanded at → DeeperUnit 256 expanded at
      → condition ≡ conditions.Nesting → place ≡ place_of_token source expanded at →
      StandsAt source defines condition place
  on_vectors : (tokens expanded : List Token) (unit : Syntax) (r : VectorRefusal) →
      Reads source defines tokens expanded → SpellsUnit unit expanded → nesting unit ≤ 256 →
      refusal_of unit ≡ Some r → condition ≡ conditions.Vector r.fault →
      place ≡ place_of_token source expanded r.token → StandsAt source defines condition place

-- The source is refused with this error, or memory ran out.
abbrev pub IsRefusal : List ℕ → List Define → SourceError → Type 0
IsRefusal source defines (errors.Refused condition place) = StandsAt source defines condition place
IsRefusal source defines errors.Memory = ⊤
