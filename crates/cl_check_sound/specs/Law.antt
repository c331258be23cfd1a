-- The laws: on expressions, on units, and on what the grammar spells.
use Rattle.std.specs.Prelude.{◌≡◌, ◌<◌, ◌^◌, ℕ, true, false, List}
use Rattle.wg_num.specs.declared.types.Place.{Place}
use Rattle.cl_token.specs.declared.token.Token.{Token}
use Rattle.cl_token.specs.Spelling.{HasValue}
use Rattle.cl_token.specs.Cuts.{Cuts}
use Rattle.cl_prep.specs.declared.prep.Define.{Define}
use Rattle.cl_prep.specs.Expands.{Expands}
use Rattle.cl_model.specs.Tree.{Function, Program}
use Rattle.cl_model.specs.Lists.{Each}
use Rattle.cl_model.specs.Valid.{IsValid}
use Rattle.cl_tree.specs.Syntax.{Syntax}
use Rattle.cl_tree.specs.Grammar.{SpellsUnit}
use Rattle.cl_tree.specs.Selections.{has_selection}
use Rattle.cl_limits.specs.Judged.{IsAccepted}
use Rattle.cl_meaning.specs.declared.kind.Role.{Role}
use Rattle.cl_meaning.specs.Environment.{Env}
use Rattle.cl_meaning.specs.Faults.{Asked}
use Rattle.cl_meaning.specs.Meant.{meant, unit_meant}
use Rattle.cl_check_sound.specs.Erased.{program_of}
use Rattle.cl_check_sound.specs.Shape.{IsExpression, IsUnit, IsUnitOf}
use Rattle.cl_check_sound.specs.Sound.{SoundTree}
use Rattle.cl_check_sound.specs.Fits.{Fits, PieceFits}

-- Where all visible names fit a program and no node is at fault, each expression has a kind, and what it stands for
-- has the type and the root of that kind in the program.
abbrev pub ExpressionsFit : Type 0
ExpressionsFit =
    (program : Program) (f : Function) (asked : Asked) (env : Env) (role : Role) (sites : List Place) (t : Syntax) →
    IsExpression t → SoundTree asked env role t → Fits program f asked.missing env →
    PieceFits program f (meant env sites t).piece

-- ---- units

-- The typed unit for which an accepted unit stands is a valid program.
abbrev pub UnitsValid : Type 0
UnitsValid = (places : List Place) (kernel : List ℕ) (unit : Syntax) → IsUnit unit → IsAccepted places kernel unit →
    IsValid (program_of (unit_meant places kernel unit))

-- ---- what the grammar spells

-- each number among the tokens has a type and a value
abbrev pub NumbersRead : List Token → Type 0
NumbersRead tokens = Each (λ (t : Token). HasValue t.kind t.word) tokens

-- A tree without selections that tokens spell has the shape of a unit.
abbrev pub UnitsShaped : Type 0
UnitsShaped = (unit : Syntax) (tokens : List Token) → SpellsUnit unit tokens → NumbersRead tokens →
    has_selection unit ≡ false → IsUnit unit

-- Each tree that tokens spell has the wide shape, with selections.
abbrev pub WideShaped : Type 0
WideShaped = (unit : Syntax) (tokens : List Token) → SpellsUnit unit tokens → NumbersRead tokens → IsUnitOf true unit

-- No selection stands in a tree of the narrow shape.
abbrev pub NoneSelected : Type 0
NoneSelected = (unit : Syntax) → IsUnit unit → has_selection unit ≡ false

-- ---- what a source expands to

-- each number that is given for a name fits a `long`, as those of launch files do
abbrev pub DefinesFit : List Define → Type 0
DefinesFit defines = Each (λ (d : Define). d.value < 2 ^ 63) defines

-- The tokens to which a source expands are such tokens.
abbrev pub NumbersKept : Type 0
NumbersKept = (source : List ℕ) (tokens out : List Token) (defines : List Define) → Cuts source tokens →
    DefinesFit defines → Expands tokens defines out → NumbersRead out
