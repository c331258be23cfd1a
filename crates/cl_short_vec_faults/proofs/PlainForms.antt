-- The plain form of an expression is one, and that of a type is one.
use Rattle.std.proofs.Common.{◌≡◌, ℕ, List, [], ◌∷◌, Option, None, Some, Bool, true, false, if◌then◌else◌, refl, sym}
use Rattle.std.proofs.Common.{ap}
use Rattle.std.proofs.Common.{◌∙◌, ◌⊎◌, inl, inr}
use Rattle.std.proofs.lemmas.Bool.{false≢true}
use Rattle.std.specs.Prelude.{take, drop, codes, nat_eq, ◌&&◌}
use Rattle.cl_tree.specs.declared.tree.Form.TheVariants as forms
use Rattle.cl_tree.specs.Syntax.{Syntax, node, Forest, none, more}
use Rattle.cl_tree.specs.Nodes.{forest1}
use Rattle.cl_meaning.specs.OwnWords.{is_text}
use Rattle.cl_meaning.specs.Types.{base_in, is_const}
use Rattle.cl_meaning.specs.Spelling.{prefix_in, postfix_in}
use Rattle.cl_meaning.specs.Operators as operators
use Rattle.cl_meaning.specs.Kinds.{is_some}
use Rattle.cl_meaning.specs.declared.operators.Prefix.{Prefix}
use Rattle.cl_meaning.specs.declared.operators.Prefix.TheVariants as prefixes
use Rattle.cl_check_sound.specs.Shape.{IsType, PrefixOf, PostfixOf, selects, IsExpressionOf, AreExpressionsOf}
use Rattle.cl_check_sound.specs.Shape.{OfExpressions, AreOperands}
use Rattle.cl_short_vec.specs.declared.types.Vector.{Vector}
use Rattle.cl_short_vec.specs.Types.{vector_in, selection_in}
use Rattle.cl_short_vec.specs.Plain.{is_pointed}
use Rattle.cl_short_vec.specs.Scalar.{component_words}
use Rattle.cl_check_sound.proofs.Cases.{the_some}
use Rattle.cl_short_vec_faults.specs.PlainForm.{plain_of, plains_of}
use Rattle.cl_short_vec_faults.specs.Plainly.{has_point}
use Rattle.cl_short_vec_faults.proofs.Points.{no_row}
use Rattle.cl_short_vec_faults.proofs.Made.{constant_typed}

-- ---- words

first_true : (a b : Bool) → a && b ≡ true → a ≡ true
first_true true b h = refl
first_true false b h = absurd (false≢true h)

-- the own words of a selection begin with a point
pub selected_pointed : (w : List ℕ) → selects w ≡ true → is_pointed w ≡ true
selected_pointed [] h = absurd (false≢true h)
selected_pointed (b ∷ []) h = first_true (nat_eq b 46) false h
selected_pointed (b ∷ (c ∷ w)) h = first_true (nat_eq b 46) (nat_eq c 32 && true) h

pointed_point : (w : List ℕ) → is_pointed w ≡ true → has_point w ≡ true
pointed_point [] h = absurd (false≢true h)
pointed_point (b ∷ w) h = rw h refl

pointed_no_postfix : (w : List ℕ) → is_pointed w ≡ true → postfix_in w ≡ None
unfolding postfix_in
pointed_no_postfix w h = no_row w operators.postfixes (pointed_point w h) refl

-- a step or an index is no selection
pub postfix_unpointed : (w : List ℕ) → is_some (postfix_in w) ≡ true → is_pointed w ≡ false
postfix_unpointed w h = by (is_pointed w) refl
  where
    by : (b : Bool) → is_pointed w ≡ b → b ≡ false
    by false e = refl
    by true e = absurd (false≢true (ap is_some (sym (pointed_no_postfix w e)) ∙ h))

pub selection_tells : (w : List ℕ) → is_some (selection_in w) ≡ selects w
unfolding selection_in
selection_tells w = by (is_text (codes ". ") (take 2 w))
  where
    by : (b : Bool) → is_some (if b then Some (drop 2 w) else None) ≡ b
    by true = refl
    by false = refl

nothing : {A : Type 0} (o : Option A) → is_some o ≡ false → o ≡ None
nothing None h = refl
nothing (Some a) h = absurd (false≢true (sym h))

pub unpointed_selection : (w : List ℕ) → is_pointed w ≡ false → selection_in w ≡ None
unpointed_selection w h = nothing (selection_in w) (selection_tells w ∙ by (selects w) refl)
  where
    by : (b : Bool) → selects w ≡ b → b ≡ false
    by false e = refl
    by true e = absurd (false≢true (sym h ∙ selected_pointed w e))

pub selection_some : (w : List ℕ) → selects w ≡ true → (name : List ℕ) × (selection_in w ≡ Some name)
selection_some w h = the_some (selection_in w) (selection_tells w ∙ h)

-- ---- types

pub words_typed : (w : List ℕ) → is_some (base_in w) ≡ true → is_some (base_in (component_words (vector_in w) w)) ≡ true
words_typed w h = by (vector_in w)
  where
    by : (o : Option Vector) → is_some (base_in (component_words o w)) ≡ true
    by None = h
    by (Some v) = constant_typed (is_const w) v.of

pub type_plain : (t : Syntax) → IsType t → IsType (plain_of t)
unfolding plain_of
type_plain (node forms.TypeNode w f l none) h = words_typed w h
type_plain (node forms.TypeNode w f l (more (node forms.SpaceNode w' f' l' none) none)) h = words_typed w h
type_plain t h = absurd h

-- ---- expressions

operand_plain : (o : Option Prefix) (a : Syntax) → PrefixOf o a (IsExpressionOf true a) →
    (IsExpressionOf true a → OfExpressions (plain_of a)) → OfExpressions (plain_of a) ⊎ IsType (plain_of a)
operand_plain None a h g = absurd h
operand_plain (Some prefixes.Size) a h g = inr (type_plain a h)
operand_plain (Some (prefixes.Step op)) a h g = inl (g h)
operand_plain (Some (prefixes.Operator op)) a h g = inl (g h)
operand_plain (Some prefixes.Address) a h g = inl (g h)
operand_plain (Some prefixes.Content) a h g = inl (g h)

pub postfix_part : (w : List ℕ) (d : Type 0) → PostfixOf true w d → d
postfix_part w d (inl h) = h.2
postfix_part w d (inr h) = h.1

either_made : (b : Bool) (x y : Syntax) → OfExpressions x → OfExpressions y → OfExpressions (if b then x else y)
either_made true x y h k = h
either_made false x y h k = k

mutual
  unfolding plain_of plains_of

  pub plain_made : (t : Syntax) → IsExpressionOf true t → OfExpressions (plain_of t)
  plain_made (node forms.NumberNode w f l none) h = (refl, tt)
  plain_made (node forms.TruthNode w f l none) h = (refl, tt)
  plain_made (node forms.VariableNode w f l none) h = (refl, tt)
  plain_made (node forms.ParenNode w f l (more a none)) h = (refl, (inl (plain_made a h), tt))
  plain_made (node forms.ExprNode w f l (more a (more b none))) h =
      (refl, (inl (plain_made a h.0), (inl (plain_made b h.1), tt)))
  plain_made (node forms.AssignNode w f l (more a (more b none))) h =
      (refl, (inl (plain_made a h.1), (inl (plain_made b h.2), tt)))
  plain_made (node forms.CondNode w f l (more c (more a (more b none)))) h =
      (refl, (inl (plain_made c h.0), (inl (plain_made a h.1), (inl (plain_made b h.2), tt))))
  plain_made (node forms.OrNode w f l (more a (more b none))) h =
      (refl, (inl (plain_made a h.0), (inl (plain_made b h.1), tt)))
  plain_made (node forms.AndNode w f l (more a (more b none))) h =
      (refl, (inl (plain_made a h.0), (inl (plain_made b h.1), tt)))
  plain_made (node forms.BorNode w f l (more a (more b none))) h =
      (refl, (inl (plain_made a h.1), (inl (plain_made b h.2), tt)))
  plain_made (node forms.BxorNode w f l (more a (more b none))) h =
      (refl, (inl (plain_made a h.1), (inl (plain_made b h.2), tt)))
  plain_made (node forms.BandNode w f l (more a (more b none))) h =
      (refl, (inl (plain_made a h.1), (inl (plain_made b h.2), tt)))
  plain_made (node forms.EqualNode w f l (more a (more b none))) h =
      (refl, (inl (plain_made a h.1), (inl (plain_made b h.2), tt)))
  plain_made (node forms.OrderNode w f l (more a (more b none))) h =
      (refl, (inl (plain_made a h.1), (inl (plain_made b h.2), tt)))
  plain_made (node forms.ShiftNode w f l (more a (more b none))) h =
      (refl, (inl (plain_made a h.1), (inl (plain_made b h.2), tt)))
  plain_made (node forms.SumNode w f l (more a (more b none))) h =
      (refl, (inl (plain_made a h.1), (inl (plain_made b h.2), tt)))
  plain_made (node forms.TermNode w f l (more a (more b none))) h =
      (refl, (inl (plain_made a h.1), (inl (plain_made b h.2), tt)))
  plain_made (node forms.CastNode w f l (more t (more a none))) h =
      (refl, (inr (type_plain t h.0), (inl (plain_made a h.1), tt)))
  plain_made (node forms.UnaryNode w f l (more a none)) h =
      (refl, (operand_plain (prefix_in w) a h (λ e. plain_made a e), tt))
  plain_made (node forms.PostfixNode w f l (more a none)) h =
      let x = plain_made a (postfix_part w (IsExpressionOf true a) h) in
      either_made (is_pointed w) (plain_of a) (node forms.PostfixNode w f l (forest1 (plain_of a))) x
      (refl, (inl x, tt))
  plain_made (node forms.PostfixNode w f l (more a (more b none))) h =
      (refl, (inl (plain_made a h.1), (inl (plain_made b h.2), tt)))
  plain_made (node forms.CallNode w f l parts) h = (refl, plains_made parts h)
  plain_made t h = absurd h

  pub plains_made : (parts : Forest) → AreExpressionsOf true parts → AreOperands (plains_of parts)
  plains_made none h = tt
  plains_made (more p ps) h = (inl (plain_made p h.0), plains_made ps h.1)
