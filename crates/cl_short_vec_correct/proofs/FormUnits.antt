-- What stands for a unit of the wide shape is one of the narrow shape.
use Rattle.std.proofs.Common.{◌≡◌, ℕ, List, Option, None, Bool, true, false, if◌then◌else◌, refl, sym, subst}
use Rattle.std.proofs.Common.{inl, inr, ◌⊎◌}
use Rattle.wg_num.specs.declared.types.Bin.{Bin}
use Rattle.cl_tree.specs.declared.tree.Form.{Form}
use Rattle.cl_tree.specs.declared.tree.Form.TheVariants as forms
use Rattle.cl_tree.specs.Syntax.{Syntax, node, Forest, none, more}
use Rattle.cl_tree.specs.Nodes.{forest1}
use Rattle.cl_meaning.specs.Spelling.{setting_in}
use Rattle.cl_meaning.specs.Declarations.{form_of}
use Rattle.cl_check_sound.specs.Shape.{IsExpressionOf, IsDeclarationOf}
use Rattle.cl_check_sound.specs.Shape.{IsSimpleOf, IsStatementOf, AreStatementsOf, AreLinesOf, IsBlockOf, IsHeadOf}
use Rattle.cl_check_sound.specs.Shape.{IsResult, IsParam, AreParams, IsParams, IsAnnouncement, IsDefinitionOf}
use Rattle.cl_check_sound.specs.Shape.{BehindHeadsOf, IsFunctionOf, IsPrototypeOf, AreItemsOf, IsUnitOf, IsExpression}
use Rattle.cl_check_sound.specs.Shape.{IsDeclaration, IsSimple, IsStatement, AreStatements}
use Rattle.cl_check_sound.specs.Shape.{AreLines, IsBlock, IsHead, IsDefinition, BehindHeads, IsFunction, IsPrototype}
use Rattle.cl_check_sound.specs.Shape.{AreItems, IsUnit}
use Rattle.cl_short_vec.specs.declared.nodes.Span.{Span}
use Rattle.cl_short_vec.specs.declared.kinds.Kind.{Kind}
use Rattle.cl_short_vec.specs.Kinds.{Names, no_names, later, is_vector}
use Rattle.cl_short_vec.specs.Plain.{has_vectors}
use Rattle.cl_short_vec.proofs.Plainness.{none_selected}
use Rattle.cl_check_sound.proofs.Narrow.{narrow}
use Rattle.cl_short_vec.specs.Marks.{mark, Marks, unmarked, marking, tree_at, kind_at, marked, marked_parts}
use Rattle.cl_short_vec.specs.Order.{operator_in, setting_steps}
use Rattle.cl_short_vec.specs.Scalar.{scalar, scalars}
use Rattle.cl_short_vec.specs.Unit.{assigned_of, set_block, whole_by, is_declaration, block_line, scalarised}
use Rattle.cl_short_vec.specs.Unit.{all_scalarised, block_lines, loop_parts}
use Rattle.cl_short_vec_correct.specs.Law.{FormsShaped}
use Rattle.cl_short_vec.proofs.Small.{SmallMark, SmallMarks, marked_small, nothing_small}
use Rattle.cl_short_vec_correct.proofs.Scalars.{type_is, expression_is, expressions_are}
use Rattle.cl_short_vec_correct.proofs.Steps.{setting_are, lines_are}
use Rattle.cl_short_vec_correct.proofs.FormDeclarations.{joined_lines, declaration_is, declaration_lines_are}

-- ---- expressions and declarations among statements

pub whole_expression : (t : Syntax) (names : Names) → SmallMark (marked names t) → IsExpressionOf true t →
    IsExpression (scalarised (marked names t))
unfolding scalarised marked
whole_expression (node forms.UnitNode w f l ps) names s h = absurd h
whole_expression (node forms.FunctionNode w f l ps) names s h = absurd h
whole_expression (node forms.BlockNode w f l ps) names s h = absurd h
whole_expression (node forms.IfNode w f l ps) names s h = absurd h
whole_expression (node forms.WhileNode w f l ps) names s h = absurd h
whole_expression (node forms.DoNode w f l ps) names s h = absurd h
whole_expression (node forms.ForNode w f l ps) names s h = absurd h
whole_expression (node forms.SwitchNode w f l ps) names s h = absurd h
whole_expression (node forms.CaseNode w f l ps) names s h = absurd h
whole_expression (node forms.DefaultNode w f l ps) names s h = absurd h
whole_expression (node forms.SimpleNode w f l ps) names s h = absurd h
whole_expression (node forms.DeclareNode w f l ps) names s h = absurd h
whole_expression (node form w f l ps) names s h = expression_is (node form w f l ps) names s h

pub whole_declaration : (t : Syntax) (names : Names) → SmallMark (marked names t) → IsDeclarationOf true t →
    IsDeclaration (scalarised (marked names t))
unfolding scalarised marked
whole_declaration (node forms.DeclareNode w f l (more t ds)) names s h =
    declaration_is w f l t ds names s.1 h.0 h.1
whole_declaration t names s h = absurd h

-- ---- simple statements

pub block_is : (s : Span) (o : Option Bin) (a b : Syntax) (names after : Names) → SmallMark (marked names a) →
    SmallMark (marked after b) → IsExpressionOf true a → IsExpressionOf true b →
    IsStatement (set_block s o (marked names a) (marked after b))
block_is s o a b names after z y h k =
    lines_are None (assigned_of o (marked names a) (marked after b))
    (setting_steps o (marked names a) (marked after b)) tt (setting_are o a b names after z y h k)

either_statement : (z : Bool) (s t : Syntax) → IsStatement s → IsStatement t → IsStatement (if z then s else t)
either_statement true s t h k = h
either_statement false s t h k = k

pub whole_statement : (w : List ℕ) (f l : ℕ) (s : Span) (a : Syntax) (names : Names) → SmallMark (marked names a) →
    IsExpressionOf true a → IsStatement (whole_by (form_of (tree_at (marked names a))) s (marked names a)
    (node forms.SimpleNode w f l (forest1 (scalar (marked names a)))))
unfolding marked marked_parts
whole_statement w f l s (node forms.AssignNode w' f' l' none) names z h = absurd h
whole_statement w f l s (node forms.AssignNode w' f' l' (more a none)) names z h = absurd h
whole_statement w f l s (node forms.AssignNode w' f' l' (more a (more b (more c cs)))) names z h = absurd h
whole_statement w f l s (node forms.AssignNode w' f' l' (more a (more b none))) names z h =
    let t = node forms.AssignNode w' f' l' (more a (more b none)) in
    let after = later forms.AssignNode (more a (more b none)) names true a in
    either_statement (is_vector (kind_at (marked names a)))
    (set_block s (operator_in (setting_in w')) (marked names a) (marked after b))
    (node forms.SimpleNode w f l (forest1 (scalar (marked names t))))
    (block_is s (operator_in (setting_in w')) a b names after z.1.0 z.1.1.0 h.1 h.2) (expression_is t names z h)
whole_statement w f l s (node form w' f' l' ps) names z h = expression_is (node form w' f' l' ps) names z h

pub simple_is : (t : Syntax) (names : Names) → SmallMark (marked names t) → IsSimpleOf true t →
    IsSimple (scalar (marked names t))
unfolding scalar marked marked_parts
simple_is (node forms.SimpleNode w f l none) names s h = tt
simple_is (node forms.SimpleNode w f l (more a none)) names s h = expression_is a names s.1.0 h
simple_is t names s h = absurd h

-- in front of a `for`
pub start_is : (t : Syntax) (names : Names) → SmallMark (marked names t) → IsDeclarationOf true t ⊎ IsSimpleOf true t →
    IsDeclaration (if is_declaration (marked names t) then scalarised (marked names t) else scalar (marked names t)) ⊎
    IsSimple (if is_declaration (marked names t) then scalarised (marked names t) else scalar (marked names t))
unfolding marked
start_is (node forms.DeclareNode w f l ps) names s (inl h) =
    inl (whole_declaration (node forms.DeclareNode w f l ps) names s h)
start_is (node forms.DeclareNode w f l ps) names s (inr h) = absurd h
start_is (node forms.SimpleNode w f l ps) names s (inl h) = absurd h
start_is (node forms.SimpleNode w f l ps) names s (inr h) =
    inr (simple_is (node forms.SimpleNode w f l ps) names s h)
start_is t names s (inl h) = absurd h
start_is t names s (inr h) = absurd h

-- ---- statements

-- a declaration is some lines, and a statement a line by itself
pub declared_line : (t : Syntax) (names : Names) → SmallMark (marked names t) → IsDeclarationOf true t →
    AreLines (block_line (marked names t) (scalarised (marked names t)))
unfolding marked
declared_line (node forms.DeclareNode w f l ps) names s h =
    declaration_lines_are (node forms.DeclareNode w f l ps) names s h
declared_line t names s h = absurd h

pub one_line : (t : Syntax) (names : Names) → IsStatementOf true t → IsStatement (scalarised (marked names t)) →
    AreLines (block_line (marked names t) (scalarised (marked names t)))
unfolding marked
one_line (node forms.DeclareNode w f l ps) names h k = absurd h
one_line t names h k = (inr k, tt)

mutual
  unfolding scalarised all_scalarised block_lines loop_parts scalar marked marked_parts

  pub statement_is : (t : Syntax) (names : Names) → SmallMark (marked names t) → IsStatementOf true t →
      IsStatement (scalarised (marked names t))
  statement_is (node forms.BlockNode w f l ps) names s h = lines_is forms.BlockNode ps names true ps s.1 h
  statement_is (node forms.SimpleNode w f l none) names s h = tt
  statement_is (node forms.SimpleNode w f l (more a none)) names s h =
      whole_statement w f l (record { first = f; last = l }) a names s.1.0 h
  statement_is (node forms.IfNode w f l (more c (more t none))) names s h =
      let n = later forms.IfNode (more c (more t none)) names true c in
      (whole_expression c names s.1.0 h.0, statement_is t n s.1.1.0 h.1)
  statement_is (node forms.IfNode w f l (more c (more t (more u none)))) names s h =
      let ps = more c (more t (more u none)) in
      let n = later forms.IfNode ps names true c in
      let m = later forms.IfNode ps n false t in
      (whole_expression c names s.1.0 h.0, statement_is t n s.1.1.0 h.1, statement_is u m s.1.1.1.0 h.2)
  statement_is (node forms.WhileNode w f l (more c (more t none))) names s h =
      let n = later forms.WhileNode (more c (more t none)) names true c in
      (whole_expression c names s.1.0 h.0, statement_is t n s.1.1.0 h.1)
  statement_is (node forms.DoNode w f l (more t (more c none))) names s h =
      let n = later forms.DoNode (more t (more c none)) names true t in
      (statement_is t names s.1.0 h.0, whole_expression c n s.1.1.0 h.1)
  statement_is (node forms.ForNode w f l (more i (more t none))) names s h =
      let n = later forms.ForNode (more i (more t none)) names true i in
      (start_is i names s.1.0 h.0, statement_is t n s.1.1.0 h.1)
  statement_is (node forms.ForNode w f l (more i (more c (more t none)))) names s h =
      let ps = more i (more c (more t none)) in
      let n = later forms.ForNode ps names true i in
      let m = later forms.ForNode ps n false c in
      (start_is i names s.1.0 h.0, whole_expression c n s.1.1.0 h.1, statement_is t m s.1.1.1.0 h.2)
  statement_is (node forms.ForNode w f l (more i (more c (more e (more t none))))) names s h =
      let ps = more i (more c (more e (more t none))) in
      let n = later forms.ForNode ps names true i in
      let m = later forms.ForNode ps n false c in
      let o = later forms.ForNode ps m false e in (
        start_is i names s.1.0 h.0,
        whole_expression c n s.1.1.0 h.1,
        whole_expression e m s.1.1.1.0 h.2,
        statement_is t o s.1.1.1.1.0 h.3,
      )
  statement_is (node forms.SwitchNode w f l (more v ts)) names s h =
      let n = later forms.SwitchNode (more v ts) names true v in
      (whole_expression v names s.1.0 h.0, statements_are forms.SwitchNode (more v ts) n false ts s.1.1 h.1)
  statement_is (node forms.CaseNode w f l (more v (more t none))) names s h =
      let n = later forms.CaseNode (more v (more t none)) names true v in
      (whole_expression v names s.1.0 h.0, statement_is t n s.1.1.0 h.1)
  statement_is (node forms.DefaultNode w f l (more t none)) names s h = statement_is t names s.1.0 h
  statement_is (node forms.BreakNode w f l none) names s h = tt
  statement_is (node forms.ContinueNode w f l none) names s h = tt
  statement_is (node forms.ReturnNode w f l none) names s h = tt
  statement_is (node forms.ReturnNode w f l (more e none)) names s h = expression_is e names s.1.0 h
  statement_is t names s h = absurd h

  pub statements_are : (form : Form) (all : Forest) (names : Names) (front : Bool) (ps : Forest) →
      SmallMarks (marked_parts form all names front ps) → AreStatementsOf true ps →
      AreStatements (all_scalarised (marked_parts form all names front ps))
  statements_are form all names front none s h = tt
  statements_are form all names front (more p ps) s h =
      (statement_is p names s.0 h.0, statements_are form all (later form all names front p) false ps s.1 h.1)

  pub lines_is : (form : Form) (all : Forest) (names : Names) (front : Bool) (ps : Forest) →
      SmallMarks (marked_parts form all names front ps) → AreLinesOf true ps →
      AreLines (block_lines (marked_parts form all names front ps))
  lines_is form all names front none s h = tt
  lines_is form all names front (more p ps) s (inl h, k) =
      let n = later form all names front p in
      joined_lines (block_line (marked names p) (scalarised (marked names p)))
      (block_lines (marked_parts form all n false ps))
      (declared_line p names s.0 h) (lines_is form all n false ps s.1 k)
  lines_is form all names front (more p ps) s (inr h, k) =
      let n = later form all names front p in
      joined_lines (block_line (marked names p) (scalarised (marked names p)))
      (block_lines (marked_parts form all n false ps)) (one_line p names h (statement_is p names s.0 h))
      (lines_is form all n false ps s.1 k)

-- ---- functions and prototypes

pub result_is : (t : Syntax) (names : Names) → IsResult t → IsResult (scalar (marked names t))
unfolding scalar marked marked_parts
result_is (node forms.ResultNode w f l none) names h = tt
result_is (node forms.ResultNode w f l (more t none)) names h = type_is t names h
result_is t names h = absurd h

param_is : (t : Syntax) (names : Names) → IsParam t → IsParam (scalar (marked names t))
unfolding scalar marked marked_parts
param_is (node forms.ParamNode w f l (more t none)) names h = type_is t names h
param_is (node forms.ParamNode w f l (more t (more (node forms.StarNode w' f' l' none) none))) names h =
    type_is t names h
param_is t names h = absurd h

params_are : (form : Form) (all : Forest) (names : Names) (front : Bool) (ps : Forest) → AreParams ps →
    AreParams (scalars (marked_parts form all names front ps))
unfolding scalars marked_parts
params_are form all names front none h = tt
params_are form all names front (more p ps) h =
    (param_is p names h.0, params_are form all (later form all names front p) false ps h.1)

kept_params : (w : List ℕ) (f l : ℕ) (ps : Forest) (k : Kind) (ms : Marks) →
    scalar (mark (node forms.ParamsNode w f l ps) k ms) ≡ node forms.ParamsNode w f l (scalars ms)
unfolding scalar scalars
kept_params w f l ps k unmarked = refl
kept_params w f l ps k (marking a unmarked) = refl
kept_params w f l ps k (marking a (marking b unmarked)) = refl
kept_params w f l ps k (marking a (marking b (marking c ms))) = refl

pub params_is : (t : Syntax) (names : Names) → IsParams t → IsParams (scalar (marked names t))
unfolding marked
params_is (node forms.ParamsNode w f l ps) names h =
    subst IsParams (sym (kept_params w f l ps (kind_at (marked names (node forms.ParamsNode w f l ps)))
    (marked_parts forms.ParamsNode ps names true ps))) (params_are forms.ParamsNode ps names true ps h)
params_is t names h = absurd h

kept_attribute : (w : List ℕ) (f l : ℕ) (ps : Forest) (k : Kind) (ms : Marks) →
    scalar (mark (node forms.AttributeNode w f l ps) k ms) ≡ node forms.AttributeNode w f l (scalars ms)
unfolding scalar scalars
kept_attribute w f l ps k unmarked = refl
kept_attribute w f l ps k (marking a unmarked) = refl
kept_attribute w f l ps k (marking a (marking b unmarked)) = refl
kept_attribute w f l ps k (marking a (marking b (marking c ms))) = refl

pub head_is : (t : Syntax) (names : Names) → SmallMark (marked names t) → IsHeadOf true t →
    IsHead (scalar (marked names t))
unfolding scalar marked marked_parts
head_is (node forms.HeadNode w f l none) names s h = tt
head_is (node forms.HeadNode w f l (more (node forms.AttributeNode w' f' l' ps) none)) names s h =
    subst (λ (t : Syntax). IsHead (node forms.HeadNode w f l (forest1 t)))
    (sym (kept_attribute w' f' l' ps (kind_at (marked names (node forms.AttributeNode w' f' l' ps)))
    (marked_parts forms.AttributeNode ps names true ps)))
    (expressions_are forms.AttributeNode ps names true ps s.1.0.1 h)
head_is t names s h = absurd h

-- what is no statement is what an expression is
pub same_head : (t : Syntax) (names : Names) → IsHeadOf true t → IsHead (scalar (marked names t)) →
    IsHead (scalarised (marked names t))
unfolding scalarised marked
same_head (node forms.HeadNode w f l ps) names h k = k
same_head t names h k = absurd h

pub same_result : (t : Syntax) (names : Names) → IsResult t → IsResult (scalar (marked names t)) →
    IsResult (scalarised (marked names t))
unfolding scalarised marked
same_result (node forms.ResultNode w f l ps) names h k = k
same_result t names h k = absurd h

pub same_params : (t : Syntax) (names : Names) → IsParams t → IsParams (scalar (marked names t)) →
    IsParams (scalarised (marked names t))
unfolding scalarised marked
same_params (node forms.ParamsNode w f l ps) names h k = k
same_params t names h k = absurd h

pub body_is : (t : Syntax) (names : Names) → SmallMark (marked names t) → IsBlockOf true t →
    IsBlock (scalarised (marked names t))
unfolding scalarised marked
body_is (node forms.BlockNode w f l ps) names s h = lines_is forms.BlockNode ps names true ps s.1 h
body_is t names s h = absurd h

definition_is : (form : Form) (all : Forest) (names : Names) (front : Bool) (ps : Forest) →
    SmallMarks (marked_parts form all names front ps) → IsDefinitionOf true ps →
    IsDefinition (all_scalarised (marked_parts form all names front ps))
unfolding all_scalarised marked_parts
definition_is form all names front (more r (more p (more b none))) s h =
    let n = later form all names front r in
    let m = later form all n false p in (
      same_result r names h.0 (result_is r names h.0),
      same_params p n h.1 (params_is p n h.1),
      body_is b m s.1.1.0 h.2,
    )
definition_is form all names front ps s h = absurd h

announcement_is : (form : Form) (all : Forest) (names : Names) (front : Bool) (ps : Forest) → IsAnnouncement ps →
    IsAnnouncement (scalars (marked_parts form all names front ps))
unfolding scalars marked_parts
announcement_is form all names front (more r (more p none)) h =
    (result_is r names h.0, params_is p (later form all names front r) h.1)
announcement_is form all names front ps h = absurd h

-- in front of the others, and behind the heads
head_first : (P : Forest → Type 0) (t : Syntax) (ts : Forest) → IsHead t → BehindHeads P ts → BehindHeads P (more t ts)
head_first P (node form w f l ps) ts h k = inl (h, k)

others_first : (P : Forest → Type 0) (t : Syntax) (ts : Forest) → P (more t ts) → BehindHeads P (more t ts)
others_first P (node form w f l ps) ts h = inr h

defined : (form : Form) (all : Forest) (names : Names) (front : Bool) (ps : Forest) →
    SmallMarks (marked_parts form all names front ps) → BehindHeadsOf true (IsDefinitionOf true) ps →
    BehindHeads IsDefinition (all_scalarised (marked_parts form all names front ps))
unfolding all_scalarised marked_parts
defined form all names front none s h = absurd h
defined form all names front (more (node head w f l qs) ps) s (inl h) =
    let t = node head w f l qs in
    let n = later form all names front t in
    head_first IsDefinition (scalarised (marked names t)) (all_scalarised (marked_parts form all n false ps))
    (same_head t names h.0 (head_is t names s.0 h.0)) (defined form all n false ps s.1 h.1)
defined form all names front (more (node head w f l qs) ps) s (inr h) =
    let t = node head w f l qs in
    let n = later form all names front t in
    others_first IsDefinition (scalarised (marked names t)) (all_scalarised (marked_parts form all n false ps))
    (definition_is form all names front (more t ps) s h)

announced : (form : Form) (all : Forest) (names : Names) (front : Bool) (ps : Forest) →
    SmallMarks (marked_parts form all names front ps) → BehindHeadsOf true IsAnnouncement ps →
    BehindHeads IsAnnouncement (scalars (marked_parts form all names front ps))
unfolding scalars marked_parts
announced form all names front none s h = absurd h
announced form all names front (more (node head w f l qs) ps) s (inl h) =
    let t = node head w f l qs in
    let n = later form all names front t in
    head_first IsAnnouncement (scalar (marked names t)) (scalars (marked_parts form all n false ps))
    (head_is t names s.0 h.0) (announced form all n false ps s.1 h.1)
announced form all names front (more (node head w f l qs) ps) s (inr h) =
    let t = node head w f l qs in
    let n = later form all names front t in
    others_first IsAnnouncement (scalar (marked names t)) (scalars (marked_parts form all n false ps))
    (announcement_is form all names front (more t ps) h)

pub function_is : (t : Syntax) (names : Names) → SmallMark (marked names t) → IsFunctionOf true t →
    IsFunction (scalarised (marked names t))
unfolding scalarised marked
function_is (node forms.FunctionNode w f l ps) names s h = defined forms.FunctionNode ps names true ps s.1 h
function_is t names s h = absurd h

kept_prototype : (w : List ℕ) (f l : ℕ) (ps : Forest) (k : Kind) (ms : Marks) →
    scalar (mark (node forms.PrototypeNode w f l ps) k ms) ≡ node forms.PrototypeNode w f l (scalars ms)
unfolding scalar scalars
kept_prototype w f l ps k unmarked = refl
kept_prototype w f l ps k (marking a unmarked) = refl
kept_prototype w f l ps k (marking a (marking b unmarked)) = refl
kept_prototype w f l ps k (marking a (marking b (marking c ms))) = refl

pub prototype_is : (t : Syntax) (names : Names) → SmallMark (marked names t) → IsPrototypeOf true t →
    IsPrototype (scalarised (marked names t))
unfolding scalarised marked
prototype_is (node forms.PrototypeNode w f l ps) names s h =
    subst IsPrototype (sym (kept_prototype w f l ps (kind_at (marked names (node forms.PrototypeNode w f l ps)))
    (marked_parts forms.PrototypeNode ps names true ps))) (announced forms.PrototypeNode ps names true ps s.1 h)
prototype_is t names s h = absurd h

-- ---- units

pub items_are : (form : Form) (all : Forest) (names : Names) (front : Bool) (ps : Forest) →
    SmallMarks (marked_parts form all names front ps) → AreItemsOf true ps →
    AreItems (all_scalarised (marked_parts form all names front ps))
unfolding all_scalarised marked_parts
items_are form all names front none s h = tt
items_are form all names front (more p ps) s (inl h, k) =
    (inl (function_is p names s.0 h), items_are form all (later form all names front p) false ps s.1 k)
items_are form all names front (more p ps) s (inr (inl h), k) =
    (inr (inl (prototype_is p names s.0 h)), items_are form all (later form all names front p) false ps s.1 k)
items_are form all names front (more p ps) s (inr (inr h), k) =
    (inr (inr (whole_declaration p names s.0 h)), items_are form all (later form all names front p) false ps s.1 k)

pub unit_is : (t : Syntax) (names : Names) → SmallMark (marked names t) → IsUnitOf true t →
    IsUnit (scalarised (marked names t))
unfolding scalarised marked
unit_is (node forms.UnitNode w f l ps) names s h = items_are forms.UnitNode ps names true ps s.1 h
unit_is t names s h = absurd h

-- a unit without vectors stands for itself
pub forms_shaped : FormsShaped
forms_shaped t h = by (has_vectors t) refl
  where
    by : (b : Bool) → has_vectors t ≡ b → IsUnit (if b then scalarised (marked no_names t) else t)
    by true e = unit_is t no_names (marked_small t no_names nothing_small) h
    by false e = narrow t h (none_selected t e)
