-- A unit of the wide shape in which no selection stands has the narrow one.
use Rattle.std.proofs.Common.{◌≡◌, ℕ, nat_eq, List, [], ◌∷◌, Option, None, Some, Bool, true, false, ◌||◌}
use Rattle.std.specs.Prelude.{◌&&◌, take, codes}
use lib.Pointwise.{pointwise}
use Rattle.std.proofs.Common.{refl, ap, sym, ◌∙◌, inl, inr, ◌⊎◌}
use Rattle.std.proofs.lemmas.Bool.{false≢true}
use Rattle.cl_tree.specs.declared.tree.Form.TheVariants as forms
use Rattle.cl_tree.specs.Syntax.{Syntax, node, Forest, none, more}
use Rattle.cl_tree.specs.Selections.{is_selection, has_selection, have_selection}
use Rattle.cl_meaning.specs.declared.operators.Prefix.{Prefix}
use Rattle.cl_meaning.specs.declared.operators.Prefix.TheVariants as prefixes
use Rattle.cl_meaning.specs.Operators.{prefix_in}
use Rattle.cl_check_sound.specs.Shape.{PrefixOf, IsStep, PostfixOf, selects, IsExpressionOf, AreExpressionsOf, IsListOf}
use Rattle.cl_check_sound.specs.Shape.{AreLengthsOf, IsDeclaratorOf, AreDeclaratorsOf, IsDeclarationOf, IsOptionalOf}
use Rattle.cl_check_sound.specs.Shape.{IsSimpleOf, IsStatementOf, AreStatementsOf, AreLinesOf, IsBlockOf, IsHeadOf}
use Rattle.cl_check_sound.specs.Shape.{IsDefinitionOf, IsAnnouncement, BehindHeadsOf, IsFunctionOf, IsPrototypeOf}
use Rattle.cl_check_sound.specs.Shape.{AreItemsOf, IsUnitOf, IsExpression, AreExpressions, IsList, AreLengths}
use Rattle.cl_check_sound.specs.Shape.{IsDeclarator, AreDeclarators, IsDeclaration, IsOptional, IsSimple, IsStatement}
use Rattle.cl_check_sound.specs.Shape.{AreStatements, AreLines, IsBlock, IsHead, IsDefinition, BehindHeads, IsFunction}
use Rattle.cl_check_sound.specs.Shape.{IsPrototype, AreItems, IsUnit}

or_false : (a b : Bool) → a || b ≡ false → (a ≡ false) × (b ≡ false)
or_false true b h = absurd (false≢true (sym h))
or_false false b h = (refl, h)

-- in none of some trees stands a selection
abbrev Plain : Forest → Type 0
Plain none = Unit {0}
Plain (more t ts) = (has_selection t ≡ false) × Plain ts

plain : (ts : Forest) → have_selection ts ≡ false → Plain ts
plain none e = tt
plain (more t ts) e = let both = or_false (has_selection t) (have_selection ts) e in (both.0, plain ts both.1)

-- ---- expressions

-- what stands behind a prefix
operand : (q : Option Prefix) (p : Syntax) (d e : Type 0) → PrefixOf q p d → (d → e) → PrefixOf q p e
operand None p d e h g = absurd h
operand (Some prefixes.Size) p d e h g = h
operand (Some (prefixes.Step op)) p d e h g = g h
operand (Some (prefixes.Operator op)) p d e h g = g h
operand (Some prefixes.Address) p d e h g = g h
operand (Some prefixes.Content) p d e h g = g h

-- a word of another first byte selects nothing
no_word : (byte : ℕ) (word : List ℕ) → nat_eq byte 46 ≡ false → selects (byte ∷ word) ≡ false
no_word byte word e = ap (λ (b : Bool). b && pointwise nat_eq (take 1 word) (codes " ")) e

begins : (byte : ℕ) (word : List ℕ) → selects (byte ∷ word) ≡ true → nat_eq byte 46 ≡ true
begins byte word h = by (nat_eq byte 46) refl
  where
    by : (b : Bool) → nat_eq byte 46 ≡ b → b ≡ true
    by true e = refl
    by false e = absurd (false≢true (sym (no_word byte word e) ∙ h))

-- own words of a selection make one
selecting : (w : List ℕ) (f l : ℕ) (a : Syntax) → selects w ≡ true →
    is_selection (node forms.PostfixNode w f l (more a none)) ≡ true
selecting [] f l a h = absurd (false≢true h)
selecting (byte ∷ word) f l a h = begins byte word h

no_selection : (w : List ℕ) (f l : ℕ) (a : Syntax) (d e : Type 0) → PostfixOf true w d → (d → e) →
    is_selection (node forms.PostfixNode w f l (more a none)) ≡ false → IsStep w e
no_selection w f l a d e (inl h) g n = (h.0, h.1, g h.2)
no_selection w f l a d e (inr h) g n = absurd (false≢true (sym n ∙ selecting w f l a h.0))

mutual
  expression : (t : Syntax) → IsExpressionOf true t → has_selection t ≡ false → IsExpression t
  expression (node forms.NumberNode w f l none) h e = h
  expression (node forms.TruthNode w f l none) h e = h
  expression (node forms.VariableNode w f l none) h e = tt
  expression (node forms.ParenNode w f l (more a none)) h e = let q = plain (more a none) e in expression a h q.0
  expression (node forms.ExprNode w f l (more a (more b none))) h e =
      let q = plain (more a (more b none)) e in (expression a h.0 q.0, expression b h.1 q.1.0)
  expression (node forms.AssignNode w f l (more a (more b none))) h e =
      let q = plain (more a (more b none)) e in (h.0, expression a h.1 q.0, expression b h.2 q.1.0)
  expression (node forms.CondNode w f l (more c (more a (more b none)))) h e =
      let q = plain (more c (more a (more b none))) e in
      (expression c h.0 q.0, expression a h.1 q.1.0, expression b h.2 q.1.1.0)
  expression (node forms.OrNode w f l (more a (more b none))) h e =
      let q = plain (more a (more b none)) e in (expression a h.0 q.0, expression b h.1 q.1.0)
  expression (node forms.AndNode w f l (more a (more b none))) h e =
      let q = plain (more a (more b none)) e in (expression a h.0 q.0, expression b h.1 q.1.0)
  expression (node forms.BorNode w f l (more a (more b none))) h e =
      let q = plain (more a (more b none)) e in (h.0, expression a h.1 q.0, expression b h.2 q.1.0)
  expression (node forms.BxorNode w f l (more a (more b none))) h e =
      let q = plain (more a (more b none)) e in (h.0, expression a h.1 q.0, expression b h.2 q.1.0)
  expression (node forms.BandNode w f l (more a (more b none))) h e =
      let q = plain (more a (more b none)) e in (h.0, expression a h.1 q.0, expression b h.2 q.1.0)
  expression (node forms.EqualNode w f l (more a (more b none))) h e =
      let q = plain (more a (more b none)) e in (h.0, expression a h.1 q.0, expression b h.2 q.1.0)
  expression (node forms.OrderNode w f l (more a (more b none))) h e =
      let q = plain (more a (more b none)) e in (h.0, expression a h.1 q.0, expression b h.2 q.1.0)
  expression (node forms.ShiftNode w f l (more a (more b none))) h e =
      let q = plain (more a (more b none)) e in (h.0, expression a h.1 q.0, expression b h.2 q.1.0)
  expression (node forms.SumNode w f l (more a (more b none))) h e =
      let q = plain (more a (more b none)) e in (h.0, expression a h.1 q.0, expression b h.2 q.1.0)
  expression (node forms.TermNode w f l (more a (more b none))) h e =
      let q = plain (more a (more b none)) e in (h.0, expression a h.1 q.0, expression b h.2 q.1.0)
  expression (node forms.CastNode w f l (more t (more a none))) h e =
      let q = plain (more t (more a none)) e in (h.0, expression a h.1 q.1.0)
  expression (node forms.UnaryNode w f l (more a none)) h e =
      let q = plain (more a none) e in
      operand (prefix_in w) a (IsExpressionOf true a) (IsExpression a) h (λ k. expression a k q.0)
  expression (node forms.PostfixNode w f l (more a none)) h e =
      let both = or_false (is_selection (node forms.PostfixNode w f l (more a none)))
      (have_selection (more a none)) e in
      let q = plain (more a none) both.1 in
      no_selection w f l a (IsExpressionOf true a) (IsExpression a) h (λ k. expression a k q.0) both.0
  expression (node forms.PostfixNode w f l (more a (more b none))) h e =
      let both = or_false (is_selection (node forms.PostfixNode w f l (more a (more b none))))
      (have_selection (more a (more b none))) e in
      let q = plain (more a (more b none)) both.1 in
      (h.0, expression a h.1 q.0, expression b h.2 q.1.0)
  expression (node forms.CallNode w f l parts) h e = expressions parts h (plain parts e)
  expression t h e = absurd h

  expressions : (parts : Forest) → AreExpressionsOf true parts → Plain parts → AreExpressions parts
  expressions none h e = tt
  expressions (more p ps) h e = (expression p h.0 e.0, expressions ps h.1 e.1)

-- ---- declarations

initialisers : (t : Syntax) → IsListOf true t → has_selection t ≡ false → IsList t
initialisers (node forms.ListNode w f l parts) h e = expressions parts h (plain parts e)
initialisers t h e = absurd h

initial : (t : Syntax) → IsExpressionOf true t ⊎ IsListOf true t → has_selection t ≡ false →
    IsExpression t ⊎ IsList t
initial t (inl h) e = inl (expression t h e)
initial t (inr h) e = inr (initialisers t h e)

lengths : (parts : Forest) → AreLengthsOf true parts → Plain parts → AreLengths parts
lengths none h e = tt
lengths (more p none) h e = initial p h e.0
lengths (more p (more q qs)) h e = (expression p h.0 e.0, lengths (more q qs) h.1 e.1)

declarator : (t : Syntax) → IsDeclaratorOf true t → has_selection t ≡ false → IsDeclarator t
declarator (node forms.DeclaratorNode w f l none) h e = tt
declarator (node forms.DeclaratorNode w f l (more (node forms.StarNode w' f' l' none) parts)) h e =
    lengths parts h (plain parts e)
declarator (node forms.DeclaratorNode w f l (more p ps)) h e = lengths (more p ps) h (plain (more p ps) e)
declarator t h e = absurd h

declarators : (parts : Forest) → AreDeclaratorsOf true parts → Plain parts → AreDeclarators parts
declarators none h e = tt
declarators (more p ps) h e = (declarator p h.0 e.0, declarators ps h.1 e.1)

declaration : (t : Syntax) → IsDeclarationOf true t → has_selection t ≡ false → IsDeclaration t
declaration (node forms.DeclareNode w f l (more t ds)) h e =
    let q = plain (more t ds) e in (h.0, declarators ds h.1 q.1)
declaration t h e = absurd h

-- ---- statements

optional : (parts : Forest) → IsOptionalOf true parts → Plain parts → IsOptional parts
optional none h e = tt
optional (more p none) h e = expression p h e.0
optional (more p (more q qs)) h e = absurd h

simple : (t : Syntax) → IsSimpleOf true t → has_selection t ≡ false → IsSimple t
simple (node forms.SimpleNode w f l parts) h e = optional parts h (plain parts e)
simple t h e = absurd h

start : (t : Syntax) → IsDeclarationOf true t ⊎ IsSimpleOf true t → has_selection t ≡ false →
    IsDeclaration t ⊎ IsSimple t
start t (inl h) e = inl (declaration t h e)
start t (inr h) e = inr (simple t h e)

mutual
  statement : (t : Syntax) → IsStatementOf true t → has_selection t ≡ false → IsStatement t
  statement (node forms.BlockNode w f l parts) h e = lines parts h (plain parts e)
  statement (node forms.SimpleNode w f l parts) h e = optional parts h (plain parts e)
  statement (node forms.IfNode w f l (more c (more s none))) h e =
      let q = plain (more c (more s none)) e in (expression c h.0 q.0, statement s h.1 q.1.0)
  statement (node forms.IfNode w f l (more c (more s (more u none)))) h e =
      let q = plain (more c (more s (more u none))) e in
      (expression c h.0 q.0, statement s h.1 q.1.0, statement u h.2 q.1.1.0)
  statement (node forms.WhileNode w f l (more c (more s none))) h e =
      let q = plain (more c (more s none)) e in (expression c h.0 q.0, statement s h.1 q.1.0)
  statement (node forms.DoNode w f l (more s (more c none))) h e =
      let q = plain (more s (more c none)) e in (statement s h.0 q.0, expression c h.1 q.1.0)
  statement (node forms.ForNode w f l (more i (more s none))) h e =
      let q = plain (more i (more s none)) e in (start i h.0 q.0, statement s h.1 q.1.0)
  statement (node forms.ForNode w f l (more i (more c (more s none)))) h e =
      let q = plain (more i (more c (more s none))) e in
      (start i h.0 q.0, expression c h.1 q.1.0, statement s h.2 q.1.1.0)
  statement (node forms.ForNode w f l (more i (more c (more x (more s none))))) h e =
      let q = plain (more i (more c (more x (more s none)))) e in
      (start i h.0 q.0, expression c h.1 q.1.0, expression x h.2 q.1.1.0, statement s h.3 q.1.1.1.0)
  statement (node forms.SwitchNode w f l (more v ss)) h e =
      let q = plain (more v ss) e in (expression v h.0 q.0, statements ss h.1 q.1)
  statement (node forms.CaseNode w f l (more v (more s none))) h e =
      let q = plain (more v (more s none)) e in (expression v h.0 q.0, statement s h.1 q.1.0)
  statement (node forms.DefaultNode w f l (more s none)) h e = let q = plain (more s none) e in statement s h q.0
  statement (node forms.BreakNode w f l none) h e = tt
  statement (node forms.ContinueNode w f l none) h e = tt
  statement (node forms.ReturnNode w f l parts) h e = optional parts h (plain parts e)
  statement t h e = absurd h

  statements : (parts : Forest) → AreStatementsOf true parts → Plain parts → AreStatements parts
  statements none h e = tt
  statements (more p ps) h e = (statement p h.0 e.0, statements ps h.1 e.1)

  lines : (parts : Forest) → AreLinesOf true parts → Plain parts → AreLines parts
  lines none h e = tt
  lines (more p ps) (inl h, k) e = (inl (declaration p h e.0), lines ps k e.1)
  lines (more p ps) (inr h, k) e = (inr (statement p h e.0), lines ps k e.1)

-- ---- functions and units

block : (t : Syntax) → IsBlockOf true t → has_selection t ≡ false → IsBlock t
block (node forms.BlockNode w f l parts) h e = lines parts h (plain parts e)
block t h e = absurd h

head : (t : Syntax) → IsHeadOf true t → has_selection t ≡ false → IsHead t
head (node forms.HeadNode w f l none) h e = tt
head (node forms.HeadNode w f l (more (node forms.AttributeNode w' f' l' parts) none)) h e =
    let q = plain (more (node forms.AttributeNode w' f' l' parts) none) e in expressions parts h (plain parts q.0)
head t h e = absurd h

definition : (parts : Forest) → IsDefinitionOf true parts → Plain parts → IsDefinition parts
definition (more r (more p (more b none))) h e = (h.0, h.1, block b h.2 e.1.1.0)
definition parts h e = absurd h

-- heads, and what stands behind them
behind : (P Q : Forest → Type 0) → ((parts : Forest) → P parts → Plain parts → Q parts) → (parts : Forest) →
    BehindHeadsOf true P parts → Plain parts → BehindHeads Q parts
behind P Q g none h e = absurd h
behind P Q g (more (node form w f l parts) ps) (inl h) e =
    inl (head (node form w f l parts) h.0 e.0, behind P Q g ps h.1 e.1)
behind P Q g (more (node form w f l parts) ps) (inr h) e = inr (g (more (node form w f l parts) ps) h e)

function : (t : Syntax) → IsFunctionOf true t → has_selection t ≡ false → IsFunction t
function (node forms.FunctionNode w f l parts) h e =
    behind (IsDefinitionOf true) IsDefinition definition parts h (plain parts e)
function t h e = absurd h

prototype : (t : Syntax) → IsPrototypeOf true t → has_selection t ≡ false → IsPrototype t
prototype (node forms.PrototypeNode w f l parts) h e =
    behind IsAnnouncement IsAnnouncement (λ ps k z. k) parts h (plain parts e)
prototype t h e = absurd h

items : (parts : Forest) → AreItemsOf true parts → Plain parts → AreItems parts
items none h e = tt
items (more p ps) (inl h, k) e = (inl (function p h e.0), items ps k e.1)
items (more p ps) (inr (inl h), k) e = (inr (inl (prototype p h e.0)), items ps k e.1)
items (more p ps) (inr (inr h), k) e = (inr (inr (declaration p h e.0)), items ps k e.1)

pub narrow : (t : Syntax) → IsUnitOf true t → has_selection t ≡ false → IsUnit t
narrow (node forms.UnitNode w f l parts) h e = items parts h (plain parts e)
narrow t h e = absurd h
