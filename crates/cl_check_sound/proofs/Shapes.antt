-- An expression consists of expressions and types.
use Rattle.std.proofs.Common.{Option, None, Some, refl, ◌⊎◌, inl, inr}
use Rattle.cl_tree.specs.declared.tree.Form.TheVariants as forms
use Rattle.cl_tree.specs.Syntax.{Syntax, node, Forest, none, more}
use Rattle.cl_meaning.specs.declared.operators.Prefix.{Prefix}
use Rattle.cl_meaning.specs.declared.operators.Prefix.TheVariants as prefixes
use Rattle.cl_meaning.specs.Spelling.{prefix_in}
use Rattle.cl_check_sound.specs.Shape.{IsType, OfExpressions, AreOperands, PrefixOf, IsExpression, AreExpressions}

-- what stands behind a prefix is an operand
operand_of : (q : Option Prefix) (p : Syntax) (e : Type 0) → PrefixOf q p e → (e → OfExpressions p) →
    OfExpressions p ⊎ IsType p
operand_of None p e h g = absurd h
operand_of (Some prefixes.Size) p e h g = inr h
operand_of (Some (prefixes.Step op)) p e h g = inl (g h)
operand_of (Some (prefixes.Operator op)) p e h g = inl (g h)
operand_of (Some prefixes.Address) p e h g = inl (g h)
operand_of (Some prefixes.Content) p e h g = inl (g h)

mutual
  pub of_expressions : (t : Syntax) → IsExpression t → OfExpressions t
  of_expressions (node forms.NumberNode w f l none) h = (refl, tt)
  of_expressions (node forms.TruthNode w f l none) h = (refl, tt)
  of_expressions (node forms.VariableNode w f l none) h = (refl, tt)
  of_expressions (node forms.ParenNode w f l (more a none)) h = (refl, (inl (of_expressions a h), tt))
  of_expressions (node forms.ExprNode w f l (more a (more b none))) h =
      (refl, (inl (of_expressions a h.0), (inl (of_expressions b h.1), tt)))
  of_expressions (node forms.AssignNode w f l (more a (more b none))) h =
      (refl, (inl (of_expressions a h.1), (inl (of_expressions b h.2), tt)))
  of_expressions (node forms.CondNode w f l (more c (more a (more b none)))) h =
      (refl, (inl (of_expressions c h.0), (inl (of_expressions a h.1), (inl (of_expressions b h.2), tt))))
  of_expressions (node forms.OrNode w f l (more a (more b none))) h =
      (refl, (inl (of_expressions a h.0), (inl (of_expressions b h.1), tt)))
  of_expressions (node forms.AndNode w f l (more a (more b none))) h =
      (refl, (inl (of_expressions a h.0), (inl (of_expressions b h.1), tt)))
  of_expressions (node forms.BorNode w f l (more a (more b none))) h =
      (refl, (inl (of_expressions a h.1), (inl (of_expressions b h.2), tt)))
  of_expressions (node forms.BxorNode w f l (more a (more b none))) h =
      (refl, (inl (of_expressions a h.1), (inl (of_expressions b h.2), tt)))
  of_expressions (node forms.BandNode w f l (more a (more b none))) h =
      (refl, (inl (of_expressions a h.1), (inl (of_expressions b h.2), tt)))
  of_expressions (node forms.EqualNode w f l (more a (more b none))) h =
      (refl, (inl (of_expressions a h.1), (inl (of_expressions b h.2), tt)))
  of_expressions (node forms.OrderNode w f l (more a (more b none))) h =
      (refl, (inl (of_expressions a h.1), (inl (of_expressions b h.2), tt)))
  of_expressions (node forms.ShiftNode w f l (more a (more b none))) h =
      (refl, (inl (of_expressions a h.1), (inl (of_expressions b h.2), tt)))
  of_expressions (node forms.SumNode w f l (more a (more b none))) h =
      (refl, (inl (of_expressions a h.1), (inl (of_expressions b h.2), tt)))
  of_expressions (node forms.TermNode w f l (more a (more b none))) h =
      (refl, (inl (of_expressions a h.1), (inl (of_expressions b h.2), tt)))
  of_expressions (node forms.CastNode w f l (more t (more a none))) h =
      (refl, (inr h.0, (inl (of_expressions a h.1), tt)))
  of_expressions (node forms.UnaryNode w f l (more a none)) h =
      (refl, (operand_of (prefix_in w) a (IsExpression a) h (λ e. of_expressions a e), tt))
  of_expressions (node forms.PostfixNode w f l (more a none)) h = (refl, (inl (of_expressions a h.2), tt))
  of_expressions (node forms.PostfixNode w f l (more a (more b none))) h =
      (refl, (inl (of_expressions a h.1), (inl (of_expressions b h.2), tt)))
  of_expressions (node forms.CallNode w f l parts) h = (refl, all_operands parts h)
  of_expressions t h = absurd h

  pub all_operands : (parts : Forest) → AreExpressions parts → AreOperands parts
  all_operands none h = tt
  all_operands (more p ps) h = (inl (of_expressions p h.0), all_operands ps h.1)
