-- The shape of trees that the grammar gives: which productions stand in which, how many parts they have, and that own
-- words say something. Wide, as trees are parsed, it has selections of components; narrow, as they are checked, none.
use Rattle.std.specs.Prelude.{◌≡◌, Bool, true, false, Option, None, Some, ◌⊎◌, ℕ, List, take, codes}
use Rattle.cl_tree.specs.declared.tree.Form.{Form}
use Rattle.cl_tree.specs.declared.tree.Form.TheVariants as forms
use Rattle.cl_tree.specs.Syntax.{Syntax, node, Forest, none, more}
use Rattle.cl_meaning.specs.declared.operators.Prefix.{Prefix}
use Rattle.cl_meaning.specs.declared.operators.Prefix.TheVariants as prefixes
use Rattle.cl_meaning.specs.declared.operators.Postfix.{Postfix}
use Rattle.cl_meaning.specs.declared.operators.Postfix.TheVariants as postfixes
use Rattle.cl_meaning.specs.OwnWords.{is_text}
use Rattle.cl_meaning.specs.Spelling.{base_in, binary_in, setting_in, prefix_in, postfix_in, truth_in, literal_in}
use Rattle.cl_meaning.specs.Kinds.{is_some}

-- the productions of expressions
abbrev pub is_expression : Form → Bool
is_expression forms.ExprNode = true
is_expression forms.AssignNode = true
is_expression forms.CondNode = true
is_expression forms.OrNode = true
is_expression forms.AndNode = true
is_expression forms.BorNode = true
is_expression forms.BxorNode = true
is_expression forms.BandNode = true
is_expression forms.EqualNode = true
is_expression forms.OrderNode = true
is_expression forms.ShiftNode = true
is_expression forms.SumNode = true
is_expression forms.TermNode = true
is_expression forms.CastNode = true
is_expression forms.UnaryNode = true
is_expression forms.PostfixNode = true
is_expression forms.TruthNode = true
is_expression forms.VariableNode = true
is_expression forms.CallNode = true
is_expression forms.ParenNode = true
is_expression forms.NumberNode = true
is_expression form = false

-- a type, with its address space if it has one
abbrev pub IsType : Syntax → Type 0
IsType (node forms.TypeNode w f l none) = is_some (base_in w) ≡ true
IsType (node forms.TypeNode w f l (more (node forms.SpaceNode w' f' l' none) none)) = is_some (base_in w) ≡ true
IsType t = ⊥

-- a tree of expressions and types alone
abbrev mutual
  pub OfExpressions : Syntax → Type 0
  OfExpressions (node form w f l parts) = (is_expression form ≡ true) × AreOperands parts

  pub AreOperands : Forest → Type 0
  AreOperands none = Unit {0}
  AreOperands (more p ps) = (OfExpressions p ⊎ IsType p) × AreOperands ps

abbrev pub indexes : Option Postfix → Bool
indexes (Some postfixes.Index) = true
indexes p = false

-- the operand of a prefix, a type for `sizeof`
abbrev pub PrefixOf : Option Prefix → Syntax → Type 0 → Type 0
PrefixOf None p e = ⊥
PrefixOf (Some prefixes.Size) p e = IsType p
PrefixOf (Some q) p e = e

-- ---- results and parameters

-- `void`, or a type
abbrev pub IsResult : Syntax → Type 0
IsResult (node forms.ResultNode w f l none) = Unit {0}
IsResult (node forms.ResultNode w f l (more t none)) = IsType t
IsResult t = ⊥

abbrev pub IsParam : Syntax → Type 0
IsParam (node forms.ParamNode w f l (more t none)) = IsType t
IsParam (node forms.ParamNode w f l (more t (more (node forms.StarNode w' f' l' none) none))) = IsType t
IsParam t = ⊥

abbrev pub AreParams : Forest → Type 0
AreParams none = Unit {0}
AreParams (more p ps) = IsParam p × AreParams ps

abbrev pub IsParams : Syntax → Type 0
IsParams (node forms.ParamsNode w f l ps) = AreParams ps
IsParams t = ⊥

-- behind the heads of a prototype
abbrev pub IsAnnouncement : Forest → Type 0
IsAnnouncement (more r (more p none)) = IsResult r × IsParams p
IsAnnouncement parts = ⊥

-- ---- the wide shape and the narrow one

-- the own words of a selection begin with a point and a blank
abbrev pub selects : List ℕ → Bool
selects w = is_text (codes ". ") (take 2 w)

abbrev pub IsStep : List ℕ → Type 0 → Type 0
IsStep w e = (is_some (postfix_in w) ≡ true) × (indexes (postfix_in w) ≡ false) × e

-- what stands behind one operand: a step, and in a wide shape also a selection
abbrev pub PostfixOf : (wide : Bool) → List ℕ → Type 0 → Type 0
PostfixOf false w e = IsStep w e
PostfixOf true w e = IsStep w e ⊎ ((selects w ≡ true) × e)

-- The wide shape has selections, the narrow one none.
module _ (wide : Bool) where
  -- an expression: its own words say what it does, and it has as many parts as its production gives it
  abbrev mutual
    pub IsExpressionOf : Syntax → Type 0
    IsExpressionOf (node forms.NumberNode w f l none) = is_some (literal_in w) ≡ true
    IsExpressionOf (node forms.TruthNode w f l none) = is_some (truth_in w) ≡ true
    IsExpressionOf (node forms.VariableNode w f l none) = Unit {0}
    IsExpressionOf (node forms.ParenNode w f l (more a none)) = IsExpressionOf a
    IsExpressionOf (node forms.ExprNode w f l (more a (more b none))) = IsExpressionOf a × IsExpressionOf b
    IsExpressionOf (node forms.AssignNode w f l (more a (more b none))) =
        (is_some (setting_in w) ≡ true) × IsExpressionOf a × IsExpressionOf b
    IsExpressionOf (node forms.CondNode w f l (more c (more a (more b none)))) =
        IsExpressionOf c × IsExpressionOf a × IsExpressionOf b
    IsExpressionOf (node forms.OrNode w f l (more a (more b none))) = IsExpressionOf a × IsExpressionOf b
    IsExpressionOf (node forms.AndNode w f l (more a (more b none))) = IsExpressionOf a × IsExpressionOf b
    IsExpressionOf (node forms.BorNode w f l (more a (more b none))) =
        (is_some (binary_in w) ≡ true) × IsExpressionOf a × IsExpressionOf b
    IsExpressionOf (node forms.BxorNode w f l (more a (more b none))) =
        (is_some (binary_in w) ≡ true) × IsExpressionOf a × IsExpressionOf b
    IsExpressionOf (node forms.BandNode w f l (more a (more b none))) =
        (is_some (binary_in w) ≡ true) × IsExpressionOf a × IsExpressionOf b
    IsExpressionOf (node forms.EqualNode w f l (more a (more b none))) =
        (is_some (binary_in w) ≡ true) × IsExpressionOf a × IsExpressionOf b
    IsExpressionOf (node forms.OrderNode w f l (more a (more b none))) =
        (is_some (binary_in w) ≡ true) × IsExpressionOf a × IsExpressionOf b
    IsExpressionOf (node forms.ShiftNode w f l (more a (more b none))) =
        (is_some (binary_in w) ≡ true) × IsExpressionOf a × IsExpressionOf b
    IsExpressionOf (node forms.SumNode w f l (more a (more b none))) =
        (is_some (binary_in w) ≡ true) × IsExpressionOf a × IsExpressionOf b
    IsExpressionOf (node forms.TermNode w f l (more a (more b none))) =
        (is_some (binary_in w) ≡ true) × IsExpressionOf a × IsExpressionOf b
    IsExpressionOf (node forms.CastNode w f l (more t (more a none))) = IsType t × IsExpressionOf a
    IsExpressionOf (node forms.UnaryNode w f l (more a none)) = PrefixOf (prefix_in w) a (IsExpressionOf a)
    IsExpressionOf (node forms.PostfixNode w f l (more a none)) = PostfixOf wide w (IsExpressionOf a)
    IsExpressionOf (node forms.PostfixNode w f l (more a (more b none))) =
        (indexes (postfix_in w) ≡ true) × IsExpressionOf a × IsExpressionOf b
    IsExpressionOf (node forms.CallNode w f l parts) = AreExpressionsOf parts
    IsExpressionOf t = ⊥

    pub AreExpressionsOf : Forest → Type 0
    AreExpressionsOf none = Unit {0}
    AreExpressionsOf (more p ps) = IsExpressionOf p × AreExpressionsOf ps

  -- a list of initialisers
  abbrev pub IsListOf : Syntax → Type 0
  IsListOf (node forms.ListNode w f l parts) = AreExpressionsOf parts
  IsListOf t = ⊥

  -- lengths, and then an initialiser or none
  abbrev pub AreLengthsOf : Forest → Type 0
  AreLengthsOf none = Unit {0}
  AreLengthsOf (more p none) = IsExpressionOf p ⊎ IsListOf p
  AreLengthsOf (more p (more q qs)) = IsExpressionOf p × AreLengthsOf (more q qs)

  abbrev pub IsDeclaratorOf : Syntax → Type 0
  IsDeclaratorOf (node forms.DeclaratorNode w f l (more (node forms.StarNode w' f' l' none) parts)) = AreLengthsOf parts
  IsDeclaratorOf (node forms.DeclaratorNode w f l parts) = AreLengthsOf parts
  IsDeclaratorOf t = ⊥

  abbrev pub AreDeclaratorsOf : Forest → Type 0
  AreDeclaratorsOf none = Unit {0}
  AreDeclaratorsOf (more p ps) = IsDeclaratorOf p × AreDeclaratorsOf ps

  abbrev pub IsDeclarationOf : Syntax → Type 0
  IsDeclarationOf (node forms.DeclareNode w f l (more t ds)) = IsType t × AreDeclaratorsOf ds
  IsDeclarationOf t = ⊥

  -- no expression or one
  abbrev pub IsOptionalOf : Forest → Type 0
  IsOptionalOf none = Unit {0}
  IsOptionalOf (more e none) = IsExpressionOf e
  IsOptionalOf parts = ⊥

  abbrev pub IsSimpleOf : Syntax → Type 0
  IsSimpleOf (node forms.SimpleNode w f l parts) = IsOptionalOf parts
  IsSimpleOf t = ⊥

  abbrev mutual
    pub IsStatementOf : Syntax → Type 0
    IsStatementOf (node forms.BlockNode w f l parts) = AreLinesOf parts
    IsStatementOf (node forms.SimpleNode w f l parts) = IsOptionalOf parts
    IsStatementOf (node forms.IfNode w f l (more c (more s none))) = IsExpressionOf c × IsStatementOf s
    IsStatementOf (node forms.IfNode w f l (more c (more s (more u none)))) =
        IsExpressionOf c × IsStatementOf s × IsStatementOf u
    IsStatementOf (node forms.WhileNode w f l (more c (more s none))) = IsExpressionOf c × IsStatementOf s
    IsStatementOf (node forms.DoNode w f l (more s (more c none))) = IsStatementOf s × IsExpressionOf c
    IsStatementOf (node forms.ForNode w f l (more i (more s none))) =
        (IsDeclarationOf i ⊎ IsSimpleOf i) × IsStatementOf s
    IsStatementOf (node forms.ForNode w f l (more i (more c (more s none)))) =
        (IsDeclarationOf i ⊎ IsSimpleOf i) × IsExpressionOf c × IsStatementOf s
    IsStatementOf (node forms.ForNode w f l (more i (more c (more e (more s none))))) =
        (IsDeclarationOf i ⊎ IsSimpleOf i) × IsExpressionOf c × IsExpressionOf e × IsStatementOf s
    IsStatementOf (node forms.SwitchNode w f l (more v ss)) = IsExpressionOf v × AreStatementsOf ss
    IsStatementOf (node forms.CaseNode w f l (more v (more s none))) = IsExpressionOf v × IsStatementOf s
    IsStatementOf (node forms.DefaultNode w f l (more s none)) = IsStatementOf s
    IsStatementOf (node forms.BreakNode w f l none) = Unit {0}
    IsStatementOf (node forms.ContinueNode w f l none) = Unit {0}
    IsStatementOf (node forms.ReturnNode w f l parts) = IsOptionalOf parts
    IsStatementOf t = ⊥

    pub AreStatementsOf : Forest → Type 0
    AreStatementsOf none = Unit {0}
    AreStatementsOf (more p ps) = IsStatementOf p × AreStatementsOf ps

    -- the lines of a block: declarations and statements
    pub AreLinesOf : Forest → Type 0
    AreLinesOf none = Unit {0}
    AreLinesOf (more p ps) = (IsDeclarationOf p ⊎ IsStatementOf p) × AreLinesOf ps

  -- ---- functions and units

  abbrev pub IsBlockOf : Syntax → Type 0
  IsBlockOf (node forms.BlockNode w f l parts) = AreLinesOf parts
  IsBlockOf t = ⊥

  -- a word in front of a function, or an attribute of three expressions
  abbrev pub IsHeadOf : Syntax → Type 0
  IsHeadOf (node forms.HeadNode w f l none) = Unit {0}
  IsHeadOf (node forms.HeadNode w f l (more (node forms.AttributeNode w' f' l' parts) none)) = AreExpressionsOf parts
  IsHeadOf t = ⊥

  -- behind the heads of a function
  abbrev pub IsDefinitionOf : Forest → Type 0
  IsDefinitionOf (more r (more p (more b none))) = IsResult r × IsParams p × IsBlockOf b
  IsDefinitionOf parts = ⊥

  -- heads, and other parts behind them
  abbrev pub BehindHeadsOf : (Forest → Type 0) → Forest → Type 0
  BehindHeadsOf P none = ⊥
  BehindHeadsOf P (more (node form w f l parts) ps) =
      (IsHeadOf (node form w f l parts) × BehindHeadsOf P ps) ⊎ P (more (node form w f l parts) ps)

  abbrev pub IsFunctionOf : Syntax → Type 0
  IsFunctionOf (node forms.FunctionNode w f l parts) = BehindHeadsOf IsDefinitionOf parts
  IsFunctionOf t = ⊥

  abbrev pub IsPrototypeOf : Syntax → Type 0
  IsPrototypeOf (node forms.PrototypeNode w f l parts) = BehindHeadsOf IsAnnouncement parts
  IsPrototypeOf t = ⊥

  abbrev pub AreItemsOf : Forest → Type 0
  AreItemsOf none = Unit {0}
  AreItemsOf (more p ps) = (IsFunctionOf p ⊎ (IsPrototypeOf p ⊎ IsDeclarationOf p)) × AreItemsOf ps

  -- a unit as it is parsed
  abbrev pub IsUnitOf : Syntax → Type 0
  IsUnitOf (node forms.UnitNode w f l items) = AreItemsOf items
  IsUnitOf t = ⊥

-- ---- the narrow shape

abbrev pub IsExpression : Syntax → Type 0
IsExpression = IsExpressionOf false

abbrev pub AreExpressions : Forest → Type 0
AreExpressions = AreExpressionsOf false

abbrev pub IsList : Syntax → Type 0
IsList = IsListOf false

abbrev pub AreLengths : Forest → Type 0
AreLengths = AreLengthsOf false

abbrev pub IsDeclarator : Syntax → Type 0
IsDeclarator = IsDeclaratorOf false

abbrev pub AreDeclarators : Forest → Type 0
AreDeclarators = AreDeclaratorsOf false

abbrev pub IsDeclaration : Syntax → Type 0
IsDeclaration = IsDeclarationOf false

abbrev pub IsOptional : Forest → Type 0
IsOptional = IsOptionalOf false

abbrev pub IsSimple : Syntax → Type 0
IsSimple = IsSimpleOf false

abbrev pub IsStatement : Syntax → Type 0
IsStatement = IsStatementOf false

abbrev pub AreStatements : Forest → Type 0
AreStatements = AreStatementsOf false

abbrev pub AreLines : Forest → Type 0
AreLines = AreLinesOf false

abbrev pub IsBlock : Syntax → Type 0
IsBlock = IsBlockOf false

abbrev pub IsHead : Syntax → Type 0
IsHead = IsHeadOf false

abbrev pub IsDefinition : Forest → Type 0
IsDefinition = IsDefinitionOf false

abbrev pub BehindHeads : (Forest → Type 0) → Forest → Type 0
BehindHeads = BehindHeadsOf false

abbrev pub IsFunction : Syntax → Type 0
IsFunction = IsFunctionOf false

abbrev pub IsPrototype : Syntax → Type 0
IsPrototype = IsPrototypeOf false

abbrev pub AreItems : Forest → Type 0
AreItems = AreItemsOf false

abbrev pub IsUnit : Syntax → Type 0
IsUnit = IsUnitOf false
