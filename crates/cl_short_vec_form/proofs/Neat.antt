-- What the shape of a unit gives of each of its nodes: a type has no parts but a space; what is selected, and what
-- stands in parentheses, is an expression; words that begin with a point are those of a selection. Declarations stand
-- among the items of a unit, among the lines of a block and in front of a `for`.
use Rattle.std.proofs.Common.{◌≡◌, ℕ, List, Option, Some, None, true, refl, inl, inr, ◌⊎◌}
use Rattle.cl_tree.specs.declared.tree.Form.{Form}
use Rattle.cl_tree.specs.declared.tree.Form.TheVariants as forms
use Rattle.cl_tree.specs.Syntax.{Syntax, node, Forest, none, more}
use Rattle.cl_meaning.specs.declared.operators.Prefix.{Prefix}
use Rattle.cl_meaning.specs.declared.operators.Prefix.TheVariants as prefixes
use Rattle.cl_meaning.specs.Operators.{prefix_in}
use Rattle.cl_meaning.specs.Declarations.{form_of}
use Rattle.cl_check_sound.specs.Shape.{is_expression, IsType, PrefixOf, PostfixOf, IsExpressionOf, AreExpressionsOf}
use Rattle.cl_check_sound.specs.Shape.{IsListOf, AreLengthsOf, IsDeclaratorOf, AreDeclaratorsOf, IsDeclarationOf}
use Rattle.cl_check_sound.specs.Shape.{IsOptionalOf, IsSimpleOf, IsStatementOf, AreStatementsOf, AreLinesOf, IsBlockOf}
use Rattle.cl_check_sound.specs.Shape.{IsHeadOf, IsResult, IsParam, AreParams, IsParams, IsAnnouncement, IsDefinitionOf}
use Rattle.cl_check_sound.specs.Shape.{BehindHeadsOf, IsFunctionOf, IsPrototypeOf, AreItemsOf, IsUnitOf}

-- ---- trees without declarations

abbrev mutual
  pub Neat : Syntax → Type 0
  Neat (node forms.TypeNode w f l none) = Unit {0}
  Neat (node forms.TypeNode w f l (more (node forms.SpaceNode w' f' l' none) none)) = Unit {0}
  Neat (node forms.TypeNode w f l parts) = ⊥
  Neat (node forms.DeclareNode w f l parts) = ⊥
  Neat (node forms.PostfixNode w f l (more a none)) =
      PostfixOf true w (Unit {0}) × (is_expression (form_of a) ≡ true) × Neat a
  Neat (node forms.ParenNode w f l (more a none)) = (is_expression (form_of a) ≡ true) × Neat a
  Neat (node form w f l parts) = AreNeat parts

  pub AreNeat : Forest → Type 0
  AreNeat none = Unit {0}
  AreNeat (more p ps) = Neat p × AreNeat ps

-- the parts of a neat tree, a type aside
pub neat_parts : (form : Form) (w : List ℕ) (f l : ℕ) (ps : Forest) → Neat (node form w f l ps) → AreNeat ps
neat_parts forms.TypeNode w f l none h = tt
neat_parts forms.TypeNode w f l (more (node forms.SpaceNode w' f' l' none) none) h = (tt, tt)
neat_parts forms.TypeNode w f l ps h = absurd h
neat_parts forms.DeclareNode w f l ps h = absurd h
neat_parts forms.PostfixNode w f l none h = h
neat_parts forms.PostfixNode w f l (more a none) h = (h.2, tt)
neat_parts forms.PostfixNode w f l (more a (more b bs)) h = h
neat_parts forms.ParenNode w f l none h = h
neat_parts forms.ParenNode w f l (more a none) h = (h.1, tt)
neat_parts forms.ParenNode w f l (more a (more b bs)) h = h
neat_parts form w f l ps h = h

-- ---- types and expressions

pub type_neat : (t : Syntax) → IsType t → Neat t
type_neat (node forms.TypeNode w f l none) h = tt
type_neat (node forms.TypeNode w f l (more (node forms.SpaceNode w' f' l' none) none)) h = tt
type_neat t h = absurd h

operand_neat : (o : Option Prefix) (a : Syntax) (d : Type 0) → PrefixOf o a d → (d → Neat a) → Neat a
operand_neat None a d h g = absurd h
operand_neat (Some prefixes.Size) a d h g = type_neat a h
operand_neat (Some (prefixes.Step op)) a d h g = g h
operand_neat (Some (prefixes.Operator op)) a d h g = g h
operand_neat (Some prefixes.Address) a d h g = g h
operand_neat (Some prefixes.Content) a d h g = g h

-- an expression is one by its production
pub expression_form : (t : Syntax) → IsExpressionOf true t → is_expression (form_of t) ≡ true
expression_form (node forms.NumberNode w f l ps) h = refl
expression_form (node forms.TruthNode w f l ps) h = refl
expression_form (node forms.VariableNode w f l ps) h = refl
expression_form (node forms.ParenNode w f l ps) h = refl
expression_form (node forms.ExprNode w f l ps) h = refl
expression_form (node forms.AssignNode w f l ps) h = refl
expression_form (node forms.CondNode w f l ps) h = refl
expression_form (node forms.OrNode w f l ps) h = refl
expression_form (node forms.AndNode w f l ps) h = refl
expression_form (node forms.BorNode w f l ps) h = refl
expression_form (node forms.BxorNode w f l ps) h = refl
expression_form (node forms.BandNode w f l ps) h = refl
expression_form (node forms.EqualNode w f l ps) h = refl
expression_form (node forms.OrderNode w f l ps) h = refl
expression_form (node forms.ShiftNode w f l ps) h = refl
expression_form (node forms.SumNode w f l ps) h = refl
expression_form (node forms.TermNode w f l ps) h = refl
expression_form (node forms.CastNode w f l ps) h = refl
expression_form (node forms.UnaryNode w f l ps) h = refl
expression_form (node forms.PostfixNode w f l ps) h = refl
expression_form (node forms.CallNode w f l ps) h = refl
expression_form t h = absurd h

-- a step or a selection, whatever it is of
behind : (w : List ℕ) (d : Type 0) → PostfixOf true w d → PostfixOf true w (Unit {0}) × d
behind w d (inl h) = (inl (h.0, h.1, tt), h.2)
behind w d (inr h) = (inr (h.0, tt), h.1)

mutual
  pub expression_neat : (t : Syntax) → IsExpressionOf true t → Neat t
  expression_neat (node forms.NumberNode w f l none) h = tt
  expression_neat (node forms.TruthNode w f l none) h = tt
  expression_neat (node forms.VariableNode w f l none) h = tt
  expression_neat (node forms.ParenNode w f l (more a none)) h = (expression_form a h, expression_neat a h)
  expression_neat (node forms.ExprNode w f l (more a (more b none))) h =
      (expression_neat a h.0, (expression_neat b h.1, tt))
  expression_neat (node forms.AssignNode w f l (more a (more b none))) h =
      (expression_neat a h.1, (expression_neat b h.2, tt))
  expression_neat (node forms.CondNode w f l (more c (more a (more b none)))) h =
      (expression_neat c h.0, (expression_neat a h.1, (expression_neat b h.2, tt)))
  expression_neat (node forms.OrNode w f l (more a (more b none))) h =
      (expression_neat a h.0, (expression_neat b h.1, tt))
  expression_neat (node forms.AndNode w f l (more a (more b none))) h =
      (expression_neat a h.0, (expression_neat b h.1, tt))
  expression_neat (node forms.BorNode w f l (more a (more b none))) h =
      (expression_neat a h.1, (expression_neat b h.2, tt))
  expression_neat (node forms.BxorNode w f l (more a (more b none))) h =
      (expression_neat a h.1, (expression_neat b h.2, tt))
  expression_neat (node forms.BandNode w f l (more a (more b none))) h =
      (expression_neat a h.1, (expression_neat b h.2, tt))
  expression_neat (node forms.EqualNode w f l (more a (more b none))) h =
      (expression_neat a h.1, (expression_neat b h.2, tt))
  expression_neat (node forms.OrderNode w f l (more a (more b none))) h =
      (expression_neat a h.1, (expression_neat b h.2, tt))
  expression_neat (node forms.ShiftNode w f l (more a (more b none))) h =
      (expression_neat a h.1, (expression_neat b h.2, tt))
  expression_neat (node forms.SumNode w f l (more a (more b none))) h =
      (expression_neat a h.1, (expression_neat b h.2, tt))
  expression_neat (node forms.TermNode w f l (more a (more b none))) h =
      (expression_neat a h.1, (expression_neat b h.2, tt))
  expression_neat (node forms.CastNode w f l (more t (more a none))) h =
      (type_neat t h.0, (expression_neat a h.1, tt))
  expression_neat (node forms.UnaryNode w f l (more a none)) h =
      (operand_neat (prefix_in w) a (IsExpressionOf true a) h (λ k. expression_neat a k), tt)
  expression_neat (node forms.PostfixNode w f l (more a none)) h =
      let x = behind w (IsExpressionOf true a) h in (x.0, expression_form a x.1, expression_neat a x.1)
  expression_neat (node forms.PostfixNode w f l (more a (more b none))) h =
      (expression_neat a h.1, (expression_neat b h.2, tt))
  expression_neat (node forms.CallNode w f l parts) h = expressions_neat parts h
  expression_neat t h = absurd h

  pub expressions_neat : (ps : Forest) → AreExpressionsOf true ps → AreNeat ps
  expressions_neat none h = tt
  expressions_neat (more p ps) h = (expression_neat p h.0, expressions_neat ps h.1)

-- ---- declarators

pub value_neat : (t : Syntax) → IsExpressionOf true t ⊎ IsListOf true t → Neat t
value_neat t (inl h) = expression_neat t h
value_neat (node forms.ListNode w f l ps) (inr h) = expressions_neat ps h
value_neat t (inr h) = absurd h

pub lengths_neat : (ps : Forest) → AreLengthsOf true ps → AreNeat ps
lengths_neat none h = tt
lengths_neat (more p none) h = (value_neat p h, tt)
lengths_neat (more p (more q qs)) h = (expression_neat p h.0, lengths_neat (more q qs) h.1)

pub declarator_neat : (t : Syntax) → IsDeclaratorOf true t → Neat t
declarator_neat (node forms.DeclaratorNode w f l none) h = tt
declarator_neat (node forms.DeclaratorNode w f l (more (node forms.StarNode w' f' l' none) ps)) h =
    (tt, lengths_neat ps h)
declarator_neat (node forms.DeclaratorNode w f l (more p ps)) h = lengths_neat (more p ps) h
declarator_neat t h = absurd h

pub declarators_neat : (ds : Forest) → AreDeclaratorsOf true ds → AreNeat ds
declarators_neat none h = tt
declarators_neat (more d ds) h = (declarator_neat d h.0, declarators_neat ds h.1)

-- ---- statements, functions and units

-- in front of a `for`
abbrev pub Starts : Syntax → Type 0
Starts (node forms.DeclareNode w f l parts) = IsDeclarationOf true (node forms.DeclareNode w f l parts)
Starts t = Neat t

abbrev mutual
  pub Tidy : Syntax → Type 0
  Tidy (node forms.UnitNode w f l parts) = AreTidy parts
  Tidy (node forms.FunctionNode w f l parts) = AreTidy parts
  Tidy (node forms.BlockNode w f l parts) = AreTidy parts
  Tidy (node forms.IfNode w f l parts) = AreTidy parts
  Tidy (node forms.WhileNode w f l parts) = AreTidy parts
  Tidy (node forms.DoNode w f l parts) = AreTidy parts
  Tidy (node forms.ForNode w f l none) = Unit {0}
  Tidy (node forms.ForNode w f l (more i parts)) = Starts i × AreTidy parts
  Tidy (node forms.SwitchNode w f l parts) = AreTidy parts
  Tidy (node forms.CaseNode w f l parts) = AreTidy parts
  Tidy (node forms.DefaultNode w f l parts) = AreTidy parts
  Tidy (node forms.DeclareNode w f l parts) = IsDeclarationOf true (node forms.DeclareNode w f l parts)
  Tidy t = Neat t

  pub AreTidy : Forest → Type 0
  AreTidy none = Unit {0}
  AreTidy (more p ps) = Tidy p × AreTidy ps

expression_tidy : (t : Syntax) → IsExpressionOf true t → Tidy t
expression_tidy (node forms.UnitNode w f l ps) h = absurd h
expression_tidy (node forms.FunctionNode w f l ps) h = absurd h
expression_tidy (node forms.BlockNode w f l ps) h = absurd h
expression_tidy (node forms.IfNode w f l ps) h = absurd h
expression_tidy (node forms.WhileNode w f l ps) h = absurd h
expression_tidy (node forms.DoNode w f l ps) h = absurd h
expression_tidy (node forms.ForNode w f l ps) h = absurd h
expression_tidy (node forms.SwitchNode w f l ps) h = absurd h
expression_tidy (node forms.CaseNode w f l ps) h = absurd h
expression_tidy (node forms.DefaultNode w f l ps) h = absurd h
expression_tidy (node forms.DeclareNode w f l ps) h = absurd h
expression_tidy (node form w f l ps) h = expression_neat (node form w f l ps) h

declaration_tidy : (t : Syntax) → IsDeclarationOf true t → Tidy t
declaration_tidy (node forms.DeclareNode w f l ps) h = h
declaration_tidy t h = absurd h

optional_neat : (ps : Forest) → IsOptionalOf true ps → AreNeat ps
optional_neat none h = tt
optional_neat (more e none) h = (expression_neat e h, tt)
optional_neat ps h = absurd h

starts : (t : Syntax) → IsDeclarationOf true t ⊎ IsSimpleOf true t → Starts t
starts (node forms.DeclareNode w f l ps) (inl h) = h
starts t (inl h) = absurd h
starts (node forms.SimpleNode w f l ps) (inr h) = optional_neat ps h
starts t (inr h) = absurd h

mutual
  statement_tidy : (t : Syntax) → IsStatementOf true t → Tidy t
  statement_tidy (node forms.BlockNode w f l ps) h = lines_tidy ps h
  statement_tidy (node forms.SimpleNode w f l ps) h = optional_neat ps h
  statement_tidy (node forms.IfNode w f l (more c (more s none))) h =
      (expression_tidy c h.0, (statement_tidy s h.1, tt))
  statement_tidy (node forms.IfNode w f l (more c (more s (more u none)))) h =
      (expression_tidy c h.0, (statement_tidy s h.1, (statement_tidy u h.2, tt)))
  statement_tidy (node forms.WhileNode w f l (more c (more s none))) h =
      (expression_tidy c h.0, (statement_tidy s h.1, tt))
  statement_tidy (node forms.DoNode w f l (more s (more c none))) h =
      (statement_tidy s h.0, (expression_tidy c h.1, tt))
  statement_tidy (node forms.ForNode w f l (more i (more s none))) h =
      (starts i h.0, (statement_tidy s h.1, tt))
  statement_tidy (node forms.ForNode w f l (more i (more c (more s none)))) h =
      (starts i h.0, (expression_tidy c h.1, (statement_tidy s h.2, tt)))
  statement_tidy (node forms.ForNode w f l (more i (more c (more e (more s none))))) h =
      (starts i h.0, (expression_tidy c h.1, (expression_tidy e h.2, (statement_tidy s h.3, tt))))
  statement_tidy (node forms.SwitchNode w f l (more v ss)) h = (expression_tidy v h.0, statements_tidy ss h.1)
  statement_tidy (node forms.CaseNode w f l (more v (more s none))) h =
      (expression_tidy v h.0, (statement_tidy s h.1, tt))
  statement_tidy (node forms.DefaultNode w f l (more s none)) h = (statement_tidy s h, tt)
  statement_tidy (node forms.BreakNode w f l none) h = tt
  statement_tidy (node forms.ContinueNode w f l none) h = tt
  statement_tidy (node forms.ReturnNode w f l ps) h = optional_neat ps h
  statement_tidy t h = absurd h

  statements_tidy : (ps : Forest) → AreStatementsOf true ps → AreTidy ps
  statements_tidy none h = tt
  statements_tidy (more p ps) h = (statement_tidy p h.0, statements_tidy ps h.1)

  lines_tidy : (ps : Forest) → AreLinesOf true ps → AreTidy ps
  lines_tidy none h = tt
  lines_tidy (more p ps) (inl h, k) = (declaration_tidy p h, lines_tidy ps k)
  lines_tidy (more p ps) (inr h, k) = (statement_tidy p h, lines_tidy ps k)

block_tidy : (t : Syntax) → IsBlockOf true t → Tidy t
block_tidy (node forms.BlockNode w f l ps) h = lines_tidy ps h
block_tidy t h = absurd h

head_tidy : (t : Syntax) → IsHeadOf true t → Neat t × Tidy t
head_tidy (node forms.HeadNode w f l none) h = (tt, tt)
head_tidy (node forms.HeadNode w f l (more (node forms.AttributeNode w' f' l' ps) none)) h =
    let x = expressions_neat ps h in ((x, tt), (x, tt))
head_tidy t h = absurd h

result_tidy : (t : Syntax) → IsResult t → Neat t × Tidy t
result_tidy (node forms.ResultNode w f l none) h = (tt, tt)
result_tidy (node forms.ResultNode w f l (more t none)) h = let x = type_neat t h in ((x, tt), (x, tt))
result_tidy t h = absurd h

param_neat : (t : Syntax) → IsParam t → Neat t
param_neat (node forms.ParamNode w f l (more t none)) h = (type_neat t h, tt)
param_neat (node forms.ParamNode w f l (more t (more (node forms.StarNode w' f' l' none) none))) h =
    (type_neat t h, (tt, tt))
param_neat t h = absurd h

parameters_neat : (ps : Forest) → AreParams ps → AreNeat ps
parameters_neat none h = tt
parameters_neat (more p ps) h = (param_neat p h.0, parameters_neat ps h.1)

params_tidy : (t : Syntax) → IsParams t → Neat t × Tidy t
params_tidy (node forms.ParamsNode w f l ps) h = let x = parameters_neat ps h in (x, x)
params_tidy t h = absurd h

announced_neat : (ps : Forest) → IsAnnouncement ps → AreNeat ps
announced_neat (more r (more p none)) h = ((result_tidy r h.0).0, ((params_tidy p h.1).0, tt))
announced_neat ps h = absurd h

defined_tidy : (ps : Forest) → IsDefinitionOf true ps → AreTidy ps
defined_tidy (more r (more p (more b none))) h =
    ((result_tidy r h.0).1, ((params_tidy p h.1).1, (block_tidy b h.2, tt)))
defined_tidy ps h = absurd h

function_tidy : (ps : Forest) → BehindHeadsOf true (IsDefinitionOf true) ps → AreTidy ps
function_tidy none h = absurd h
function_tidy (more (node form w f l qs) ps) (inl h) = ((head_tidy (node form w f l qs) h.0).1, function_tidy ps h.1)
function_tidy (more (node form w f l qs) ps) (inr h) = defined_tidy (more (node form w f l qs) ps) h

prototype_neat : (ps : Forest) → BehindHeadsOf true IsAnnouncement ps → AreNeat ps
prototype_neat none h = absurd h
prototype_neat (more (node form w f l qs) ps) (inl h) = ((head_tidy (node form w f l qs) h.0).0, prototype_neat ps h.1)
prototype_neat (more (node form w f l qs) ps) (inr h) = announced_neat (more (node form w f l qs) ps) h

item_tidy : (t : Syntax) → IsFunctionOf true t ⊎ (IsPrototypeOf true t ⊎ IsDeclarationOf true t) → Tidy t
item_tidy (node forms.FunctionNode w f l ps) (inl h) = function_tidy ps h
item_tidy t (inl h) = absurd h
item_tidy (node forms.PrototypeNode w f l ps) (inr (inl h)) = prototype_neat ps h
item_tidy t (inr (inl h)) = absurd h
item_tidy t (inr (inr h)) = declaration_tidy t h

items_tidy : (ps : Forest) → AreItemsOf true ps → AreTidy ps
items_tidy none h = tt
items_tidy (more p ps) h = (item_tidy p h.0, items_tidy ps h.1)

pub unit_tidy : (t : Syntax) → IsUnitOf true t → Tidy t
unit_tidy (node forms.UnitNode w f l ps) h = items_tidy ps h
unit_tidy t h = absurd h
