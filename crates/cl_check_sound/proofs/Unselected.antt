-- In a unit of the narrow shape no selection stands.
use Rattle.std.proofs.Common.{◌≡◌, ℕ, nat_eq, List, [], ◌∷◌, Option, None, Some, Bool, true, false, ◌||◌}
use Rattle.std.proofs.Common.{refl, ap, sym, ◌∙◌, inl, inr, ◌⊎◌, eqb-true}
use Rattle.std.proofs.lemmas.Bool.{false≢true}
use Rattle.cl_tree.specs.declared.tree.Form.TheVariants as forms
use Rattle.cl_tree.specs.Syntax.{Syntax, node, Forest, none, more}
use Rattle.cl_tree.specs.Selections.{is_selection, has_selection, have_selection}
use Rattle.cl_meaning.specs.declared.operators.Prefix.{Prefix}
use Rattle.cl_meaning.specs.declared.operators.Prefix.TheVariants as prefixes
use Rattle.cl_meaning.specs.Operators.{prefix_in, postfix_in}
use Rattle.cl_meaning.specs.Kinds.{is_some}
use Rattle.cl_check_sound.specs.Shape.{IsType, PrefixOf, IsExpression, AreExpressions, IsList, AreLengths, IsDeclarator}
use Rattle.cl_check_sound.specs.Shape.{AreDeclarators, IsDeclaration, IsOptional, IsSimple, IsStatement, AreStatements}
use Rattle.cl_check_sound.specs.Shape.{AreLines, IsBlock, IsHead, IsResult, IsParam, AreParams, IsParams, IsDefinition}
use Rattle.cl_check_sound.specs.Shape.{IsAnnouncement, BehindHeads, IsFunction, IsPrototype, AreItems}
use Rattle.cl_check_sound.specs.Law.{NoneSelected}

neither : {a b : Bool} → a ≡ false → b ≡ false → a || b ≡ false
neither {a = false} e h = h
neither {a = true} e h = absurd (false≢true (sym e))

-- ---- types and expressions

in_type : (t : Syntax) → IsType t → has_selection t ≡ false
in_type (node forms.TypeNode w f l none) h = refl
in_type (node forms.TypeNode w f l (more (node forms.SpaceNode w' f' l' none) none)) h = refl
in_type t h = absurd h

-- what stands behind a prefix
in_operand : (q : Option Prefix) (p : Syntax) (e : Type 0) → PrefixOf q p e → (e → has_selection p ≡ false) →
    has_selection p ≡ false
in_operand None p e h g = absurd h
in_operand (Some prefixes.Size) p e h g = in_type p h
in_operand (Some (prefixes.Step op)) p e h g = g h
in_operand (Some (prefixes.Operator op)) p e h g = g h
in_operand (Some prefixes.Address) p e h g = g h
in_operand (Some prefixes.Content) p e h g = g h

-- a word that begins with a point is no postfix operator
no_postfix : (byte : ℕ) (word : List ℕ) → byte ≡ 46 → is_some (postfix_in (byte ∷ word)) ≡ false
unfolding postfix_in
no_postfix byte word e = ap (λ b. is_some (postfix_in (b ∷ word))) e

no_point : (byte : ℕ) (word : List ℕ) → is_some (postfix_in (byte ∷ word)) ≡ true → nat_eq byte 46 ≡ false
no_point byte word h = by (nat_eq byte 46) refl
  where
    by : (b : Bool) → nat_eq byte 46 ≡ b → b ≡ false
    by false e = refl
    by true e = absurd (false≢true (sym (no_postfix byte word (eqb-true byte 46 e)) ∙ h))

step : (w : List ℕ) (f l : ℕ) (a : Syntax) → is_some (postfix_in w) ≡ true →
    is_selection (node forms.PostfixNode w f l (more a none)) ≡ false
step [] f l a h = refl
step (byte ∷ word) f l a h = no_point byte word h

index : (w : List ℕ) (f l : ℕ) (a b : Syntax) →
    is_selection (node forms.PostfixNode w f l (more a (more b none))) ≡ false
index [] f l a b = refl
index (byte ∷ word) f l a b = refl

mutual
  in_expression : (t : Syntax) → IsExpression t → has_selection t ≡ false
  in_expression (node forms.NumberNode w f l none) h = refl
  in_expression (node forms.TruthNode w f l none) h = refl
  in_expression (node forms.VariableNode w f l none) h = refl
  in_expression (node forms.ParenNode w f l (more a none)) h = neither (in_expression a h) refl
  in_expression (node forms.ExprNode w f l (more a (more b none))) h =
      neither (in_expression a h.0) (neither (in_expression b h.1) refl)
  in_expression (node forms.AssignNode w f l (more a (more b none))) h =
      neither (in_expression a h.1) (neither (in_expression b h.2) refl)
  in_expression (node forms.CondNode w f l (more c (more a (more b none)))) h =
      neither (in_expression c h.0) (neither (in_expression a h.1) (neither (in_expression b h.2) refl))
  in_expression (node forms.OrNode w f l (more a (more b none))) h =
      neither (in_expression a h.0) (neither (in_expression b h.1) refl)
  in_expression (node forms.AndNode w f l (more a (more b none))) h =
      neither (in_expression a h.0) (neither (in_expression b h.1) refl)
  in_expression (node forms.BorNode w f l (more a (more b none))) h =
      neither (in_expression a h.1) (neither (in_expression b h.2) refl)
  in_expression (node forms.BxorNode w f l (more a (more b none))) h =
      neither (in_expression a h.1) (neither (in_expression b h.2) refl)
  in_expression (node forms.BandNode w f l (more a (more b none))) h =
      neither (in_expression a h.1) (neither (in_expression b h.2) refl)
  in_expression (node forms.EqualNode w f l (more a (more b none))) h =
      neither (in_expression a h.1) (neither (in_expression b h.2) refl)
  in_expression (node forms.OrderNode w f l (more a (more b none))) h =
      neither (in_expression a h.1) (neither (in_expression b h.2) refl)
  in_expression (node forms.ShiftNode w f l (more a (more b none))) h =
      neither (in_expression a h.1) (neither (in_expression b h.2) refl)
  in_expression (node forms.SumNode w f l (more a (more b none))) h =
      neither (in_expression a h.1) (neither (in_expression b h.2) refl)
  in_expression (node forms.TermNode w f l (more a (more b none))) h =
      neither (in_expression a h.1) (neither (in_expression b h.2) refl)
  in_expression (node forms.CastNode w f l (more t (more a none))) h =
      neither (in_type t h.0) (neither (in_expression a h.1) refl)
  in_expression (node forms.UnaryNode w f l (more a none)) h =
      neither (in_operand (prefix_in w) a (IsExpression a) h (λ e. in_expression a e)) refl
  in_expression (node forms.PostfixNode w f l (more a none)) h =
      neither (step w f l a h.0) (neither (in_expression a h.2) refl)
  in_expression (node forms.PostfixNode w f l (more a (more b none))) h =
      neither (index w f l a b) (neither (in_expression a h.1) (neither (in_expression b h.2) refl))
  in_expression (node forms.CallNode w f l parts) h = in_expressions parts h
  in_expression t h = absurd h

  in_expressions : (parts : Forest) → AreExpressions parts → have_selection parts ≡ false
  in_expressions none h = refl
  in_expressions (more p ps) h = neither (in_expression p h.0) (in_expressions ps h.1)

-- ---- declarations

in_list : (t : Syntax) → IsList t → has_selection t ≡ false
in_list (node forms.ListNode w f l parts) h = in_expressions parts h
in_list t h = absurd h

in_initial : (t : Syntax) → IsExpression t ⊎ IsList t → has_selection t ≡ false
in_initial t (inl h) = in_expression t h
in_initial t (inr h) = in_list t h

in_lengths : (parts : Forest) → AreLengths parts → have_selection parts ≡ false
in_lengths none h = refl
in_lengths (more p none) h = neither (in_initial p h) refl
in_lengths (more p (more q qs)) h = neither (in_expression p h.0) (in_lengths (more q qs) h.1)

in_declarator : (t : Syntax) → IsDeclarator t → has_selection t ≡ false
in_declarator (node forms.DeclaratorNode w f l none) h = refl
in_declarator (node forms.DeclaratorNode w f l (more (node forms.StarNode w' f' l' none) parts)) h = in_lengths parts h
in_declarator (node forms.DeclaratorNode w f l (more p ps)) h = in_lengths (more p ps) h
in_declarator t h = absurd h

in_declarators : (parts : Forest) → AreDeclarators parts → have_selection parts ≡ false
in_declarators none h = refl
in_declarators (more p ps) h = neither (in_declarator p h.0) (in_declarators ps h.1)

in_declaration : (t : Syntax) → IsDeclaration t → has_selection t ≡ false
in_declaration (node forms.DeclareNode w f l (more t ds)) h = neither (in_type t h.0) (in_declarators ds h.1)
in_declaration t h = absurd h

-- ---- statements

in_optional : (parts : Forest) → IsOptional parts → have_selection parts ≡ false
in_optional none h = refl
in_optional (more e none) h = neither (in_expression e h) refl
in_optional (more e (more p ps)) h = absurd h

in_simple : (t : Syntax) → IsSimple t → has_selection t ≡ false
in_simple (node forms.SimpleNode w f l parts) h = in_optional parts h
in_simple t h = absurd h

in_start : (t : Syntax) → IsDeclaration t ⊎ IsSimple t → has_selection t ≡ false
in_start t (inl h) = in_declaration t h
in_start t (inr h) = in_simple t h

mutual
  in_statement : (t : Syntax) → IsStatement t → has_selection t ≡ false
  in_statement (node forms.BlockNode w f l parts) h = in_lines parts h
  in_statement (node forms.SimpleNode w f l parts) h = in_optional parts h
  in_statement (node forms.IfNode w f l (more c (more s none))) h =
      neither (in_expression c h.0) (neither (in_statement s h.1) refl)
  in_statement (node forms.IfNode w f l (more c (more s (more u none)))) h =
      neither (in_expression c h.0) (neither (in_statement s h.1) (neither (in_statement u h.2) refl))
  in_statement (node forms.WhileNode w f l (more c (more s none))) h =
      neither (in_expression c h.0) (neither (in_statement s h.1) refl)
  in_statement (node forms.DoNode w f l (more s (more c none))) h =
      neither (in_statement s h.0) (neither (in_expression c h.1) refl)
  in_statement (node forms.ForNode w f l (more i (more s none))) h =
      neither (in_start i h.0) (neither (in_statement s h.1) refl)
  in_statement (node forms.ForNode w f l (more i (more c (more s none)))) h =
      neither (in_start i h.0) (neither (in_expression c h.1) (neither (in_statement s h.2) refl))
  in_statement (node forms.ForNode w f l (more i (more c (more e (more s none))))) h =
      neither (in_start i h.0) (neither (in_expression c h.1) (neither (in_expression e h.2)
      (neither (in_statement s h.3) refl)))
  in_statement (node forms.SwitchNode w f l (more v ss)) h = neither (in_expression v h.0) (in_statements ss h.1)
  in_statement (node forms.CaseNode w f l (more v (more s none))) h =
      neither (in_expression v h.0) (neither (in_statement s h.1) refl)
  in_statement (node forms.DefaultNode w f l (more s none)) h = neither (in_statement s h) refl
  in_statement (node forms.BreakNode w f l none) h = refl
  in_statement (node forms.ContinueNode w f l none) h = refl
  in_statement (node forms.ReturnNode w f l parts) h = in_optional parts h
  in_statement t h = absurd h

  in_statements : (parts : Forest) → AreStatements parts → have_selection parts ≡ false
  in_statements none h = refl
  in_statements (more p ps) h = neither (in_statement p h.0) (in_statements ps h.1)

  in_lines : (parts : Forest) → AreLines parts → have_selection parts ≡ false
  in_lines none h = refl
  in_lines (more p ps) (inl h, k) = neither (in_declaration p h) (in_lines ps k)
  in_lines (more p ps) (inr h, k) = neither (in_statement p h) (in_lines ps k)

-- ---- functions and units

in_block : (t : Syntax) → IsBlock t → has_selection t ≡ false
in_block (node forms.BlockNode w f l parts) h = in_lines parts h
in_block t h = absurd h

in_head : (t : Syntax) → IsHead t → has_selection t ≡ false
in_head (node forms.HeadNode w f l none) h = refl
in_head (node forms.HeadNode w f l (more (node forms.AttributeNode w' f' l' parts) none)) h =
    neither (in_expressions parts h) refl
in_head t h = absurd h

in_result : (t : Syntax) → IsResult t → has_selection t ≡ false
in_result (node forms.ResultNode w f l none) h = refl
in_result (node forms.ResultNode w f l (more t none)) h = neither (in_type t h) refl
in_result t h = absurd h

in_param : (t : Syntax) → IsParam t → has_selection t ≡ false
in_param (node forms.ParamNode w f l (more t none)) h = neither (in_type t h) refl
in_param (node forms.ParamNode w f l (more t (more (node forms.StarNode w' f' l' none) none))) h =
    neither (in_type t h) refl
in_param t h = absurd h

in_each_param : (parts : Forest) → AreParams parts → have_selection parts ≡ false
in_each_param none h = refl
in_each_param (more p ps) h = neither (in_param p h.0) (in_each_param ps h.1)

in_params : (t : Syntax) → IsParams t → has_selection t ≡ false
in_params (node forms.ParamsNode w f l ps) h = in_each_param ps h
in_params t h = absurd h

in_definition : (parts : Forest) → IsDefinition parts → have_selection parts ≡ false
in_definition (more r (more p (more b none))) h =
    neither (in_result r h.0) (neither (in_params p h.1) (neither (in_block b h.2) refl))
in_definition parts h = absurd h

in_announcement : (parts : Forest) → IsAnnouncement parts → have_selection parts ≡ false
in_announcement (more r (more p none)) h = neither (in_result r h.0) (neither (in_params p h.1) refl)
in_announcement parts h = absurd h

behind_heads : (P : Forest → Type 0) → ((parts : Forest) → P parts → have_selection parts ≡ false) →
    (parts : Forest) → BehindHeads P parts → have_selection parts ≡ false
behind_heads P g none h = absurd h
behind_heads P g (more (node form w f l parts) ps) (inl h) =
    neither (in_head (node form w f l parts) h.0) (behind_heads P g ps h.1)
behind_heads P g (more (node form w f l parts) ps) (inr h) = g (more (node form w f l parts) ps) h

in_function : (t : Syntax) → IsFunction t → has_selection t ≡ false
in_function (node forms.FunctionNode w f l parts) h = behind_heads IsDefinition in_definition parts h
in_function t h = absurd h

in_prototype : (t : Syntax) → IsPrototype t → has_selection t ≡ false
in_prototype (node forms.PrototypeNode w f l parts) h = behind_heads IsAnnouncement in_announcement parts h
in_prototype t h = absurd h

in_items : (parts : Forest) → AreItems parts → have_selection parts ≡ false
in_items none h = refl
in_items (more p ps) (inl h, k) = neither (in_function p h) (in_items ps k)
in_items (more p ps) (inr (inl h), k) = neither (in_prototype p h) (in_items ps k)
in_items (more p ps) (inr (inr h), k) = neither (in_declaration p h) (in_items ps k)

pub none_selected : NoneSelected
none_selected (node forms.UnitNode w f l items) h = in_items items h
none_selected t h = absurd h
