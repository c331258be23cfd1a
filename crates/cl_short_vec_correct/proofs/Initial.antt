-- Expressions are initialisers and values, and types are types, wherever they stand.
use Rattle.std.proofs.Common.{◌≡◌, ℕ, List, Some, false, refl, sym, subst}
use Rattle.std.proofs.lemmas.Bool.{false≢true}
use Rattle.cl_tree.specs.declared.tree.Form.TheVariants as forms
use Rattle.cl_tree.specs.Syntax.{Syntax, node, Forest, none, more}
use Rattle.cl_meaning.specs.declared.types.Declared.{Declared}
use Rattle.cl_meaning.specs.Spelling.{declared_in}
use Rattle.cl_meaning.specs.Environment.{Env}
use Rattle.cl_meaning.specs.Declarations.{is_star}
use Rattle.cl_check_sound.specs.Shape.{IsType, OfExpressions, PrefixOf, IsExpression}
use Rattle.cl_check_sound.proofs.Neutral.{neutral}
use Rattle.cl_check_sound.proofs.Shapes.{of_expressions}
use Rattle.cl_short_vec.specs.Marks.{Mark}
use Rattle.cl_short_vec.specs.Scalar.{scalar}
use Rattle.cl_short_vec.specs.Unit.{address_at}
use Rattle.cl_short_vec_correct.proofs.LineWords.{address_prefix}
use Rattle.cl_short_vec_correct.proofs.Declared.{IsTyped, plain_typed, spaced_typed}
use Rattle.cl_short_vec_correct.proofs.Lines.{IsInitialAt}

no_star : (t : Syntax) → OfExpressions t → is_star t ≡ false
no_star (node forms.StarNode w f l parts) h = absurd (false≢true h.0)
no_star (node form w f l parts) h = refl

pub expression_initial : (env : Env) (t : Syntax) → IsExpression t → IsInitialAt env t
expression_initial env t h = (no_star t (of_expressions t h), neutral env t (of_expressions t h))

pub address_expression : (m : Mark) → IsExpression (scalar m) → IsExpression (address_at m)
address_expression m h =
    subst (λ o. PrefixOf o (scalar m) (IsExpression (scalar m))) (sym address_prefix) h

-- a type with its own words and parts
abbrev pub IsTypedAs : Env → Declared → Syntax → Type 0
IsTypedAs env d t = (w : List ℕ) × (f : ℕ) × (l : ℕ) × (parts : Forest) × (t ≡ node forms.TypeNode w f l parts) ×
    IsTyped env w f l parts d

pub type_typed : (env : Env) (d : Declared) (t : Syntax) → IsType t → declared_in t ≡ Some d → IsTypedAs env d t
type_typed env d (node forms.TypeNode w f l none) h e = (w, f, l, none, refl, plain_typed env w f l d e)
type_typed env d (node forms.TypeNode w f l (more (node forms.SpaceNode ws fs ls none) none)) h e =
    (w, f, l, more (node forms.SpaceNode ws fs ls none) none, refl, spaced_typed env w ws f l fs ls d e)
type_typed env d t h e = absurd h
