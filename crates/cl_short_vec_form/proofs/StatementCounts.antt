-- What stands for a statement, a declaration or a parameter has at most 64 nodes for each node and each component of
-- its widest vector.
use Rattle.std.proofs.Common.{ℕ, suc, ◌+◌, ◌*◌, ◌≤◌, List, Bool, true, false, if◌then◌else◌}
use Rattle.std.proofs.Common.{◌⊎◌, inl, inr, subst, arith}
use Rattle.cl_tree.specs.declared.tree.Form.{Form}
use Rattle.cl_tree.specs.declared.tree.Form.TheVariants as forms
use Rattle.cl_tree.specs.Syntax.{Syntax, node, Forest, none, more, joined}
use Rattle.cl_meaning.specs.Spelling.{setting_in}
use Rattle.cl_meaning.specs.Declarations.{form_of}
use Rattle.cl_limits.specs.Limits.{count_nodes, count_forest}
use Rattle.cl_check_sound.specs.Shape.{IsType, IsParam, IsExpressionOf, IsDeclarationOf, IsSimpleOf, IsStatementOf}
use Rattle.cl_check_sound.specs.Shape.{AreStatementsOf, AreLinesOf}
use Rattle.cl_check_sound.specs.Shape.{IsBlockOf, IsHeadOf, IsResult, IsParams, IsDefinitionOf, BehindHeadsOf}
use Rattle.cl_check_sound.specs.Shape.{IsFunctionOf, IsPrototypeOf, AreItemsOf, IsUnitOf}
use Rattle.cl_short_vec.specs.declared.nodes.Span.{Span}
use Rattle.cl_short_vec.specs.Kinds.{Names, within, later, is_vector}
use Rattle.cl_short_vec.specs.Marks.{Mark, unmarked, tree_at, kind_at, marked, marked_parts}
use Rattle.cl_short_vec.specs.Order.{operator_in}
use Rattle.cl_short_vec.specs.Nodes.{span_of}
use Rattle.cl_short_vec.specs.Scalar.{scalar}
use Rattle.cl_short_vec.specs.Unit.{set_block, whole_by, simple_at, is_declaration, block_line, scalarised}
use Rattle.cl_short_vec.specs.Unit.{all_scalarised, block_lines, loop_parts}
use Rattle.cl_short_vec_form.specs.Sizes.{widest, widest_among}
use Rattle.cl_short_vec_form.specs.Law.{IsPart, FormsSmall}
use Rattle.cl_short_vec_form.proofs.Counting.{grows, joined_count, either_count, size, sizes, marked_size}
use Rattle.cl_short_vec_form.proofs.ScalarCounts.{scalar_count}
use Rattle.cl_short_vec_form.proofs.Widths.{one_wide, parts_wide, first_wide, others_wide, components_wide}
use Rattle.cl_short_vec_form.proofs.StepCounts.{block_count}
use Rattle.cl_short_vec_form.proofs.DeclarationCounts.{declaration_count, lines_sum, IsShortFirst}
use Rattle.cl_short_vec_form.proofs.DeclarationCounts.{declaration_lines_count}

-- ---- types in declarations

-- the first of some parts, where there is one, is a type
abbrev IsTypeFirst : Forest → Type 0
IsTypeFirst none = Unit {0}
IsTypeFirst (more t ts) = IsType t

abbrev mutual
  -- each declaration among statements begins with a type
  IsTyped : Syntax → Type 0
  IsTyped (node forms.UnitNode w f l ps) = AreTyped ps
  IsTyped (node forms.FunctionNode w f l ps) = AreTyped ps
  IsTyped (node forms.BlockNode w f l ps) = AreTyped ps
  IsTyped (node forms.IfNode w f l ps) = AreTyped ps
  IsTyped (node forms.WhileNode w f l ps) = AreTyped ps
  IsTyped (node forms.DoNode w f l ps) = AreTyped ps
  IsTyped (node forms.ForNode w f l ps) = AreTyped ps
  IsTyped (node forms.SwitchNode w f l ps) = AreTyped ps
  IsTyped (node forms.CaseNode w f l ps) = AreTyped ps
  IsTyped (node forms.DefaultNode w f l ps) = AreTyped ps
  IsTyped (node forms.DeclareNode w f l ps) = IsTypeFirst ps
  IsTyped t = Unit {0}

  AreTyped : Forest → Type 0
  AreTyped none = Unit {0}
  AreTyped (more p ps) = IsTyped p × AreTyped ps

-- trees of the wide shape are so
expression_typed : (t : Syntax) → IsExpressionOf true t → IsTyped t
expression_typed (node forms.UnitNode w f l ps) h = absurd h
expression_typed (node forms.FunctionNode w f l ps) h = absurd h
expression_typed (node forms.BlockNode w f l ps) h = absurd h
expression_typed (node forms.IfNode w f l ps) h = absurd h
expression_typed (node forms.WhileNode w f l ps) h = absurd h
expression_typed (node forms.DoNode w f l ps) h = absurd h
expression_typed (node forms.ForNode w f l ps) h = absurd h
expression_typed (node forms.SwitchNode w f l ps) h = absurd h
expression_typed (node forms.CaseNode w f l ps) h = absurd h
expression_typed (node forms.DefaultNode w f l ps) h = absurd h
expression_typed (node forms.DeclareNode w f l ps) h = absurd h
expression_typed (node form w f l ps) h = tt

declaration_typed : (t : Syntax) → IsDeclarationOf true t → IsTyped t
declaration_typed (node forms.DeclareNode w f l (more t ds)) h = h.0
declaration_typed t h = absurd h

param_typed : (t : Syntax) → IsParam t → IsTyped t
param_typed (node forms.ParamNode w f l ps) h = tt
param_typed t h = absurd h

start_typed : (t : Syntax) → IsDeclarationOf true t ⊎ IsSimpleOf true t → IsTyped t
start_typed t (inl h) = declaration_typed t h
start_typed (node forms.SimpleNode w f l ps) (inr h) = tt
start_typed t (inr h) = absurd h

mutual
  statement_typed : (t : Syntax) → IsStatementOf true t → IsTyped t
  statement_typed (node forms.BlockNode w f l ps) h = lines_typed ps h
  statement_typed (node forms.SimpleNode w f l ps) h = tt
  statement_typed (node forms.IfNode w f l (more c (more s none))) h =
      (expression_typed c h.0, (statement_typed s h.1, tt))
  statement_typed (node forms.IfNode w f l (more c (more s (more u none)))) h =
      (expression_typed c h.0, (statement_typed s h.1, (statement_typed u h.2, tt)))
  statement_typed (node forms.WhileNode w f l (more c (more s none))) h =
      (expression_typed c h.0, (statement_typed s h.1, tt))
  statement_typed (node forms.DoNode w f l (more s (more c none))) h =
      (statement_typed s h.0, (expression_typed c h.1, tt))
  statement_typed (node forms.ForNode w f l (more i (more s none))) h =
      (start_typed i h.0, (statement_typed s h.1, tt))
  statement_typed (node forms.ForNode w f l (more i (more c (more s none)))) h =
      (start_typed i h.0, (expression_typed c h.1, (statement_typed s h.2, tt)))
  statement_typed (node forms.ForNode w f l (more i (more c (more e (more s none))))) h =
      (start_typed i h.0, (expression_typed c h.1, (expression_typed e h.2, (statement_typed s h.3, tt))))
  statement_typed (node forms.SwitchNode w f l (more v ss)) h = (expression_typed v h.0, statements_typed ss h.1)
  statement_typed (node forms.CaseNode w f l (more v (more s none))) h =
      (expression_typed v h.0, (statement_typed s h.1, tt))
  statement_typed (node forms.DefaultNode w f l (more s none)) h = (statement_typed s h, tt)
  statement_typed (node forms.BreakNode w f l none) h = tt
  statement_typed (node forms.ContinueNode w f l none) h = tt
  statement_typed (node forms.ReturnNode w f l ps) h = tt
  statement_typed t h = absurd h

  statements_typed : (ps : Forest) → AreStatementsOf true ps → AreTyped ps
  statements_typed none h = tt
  statements_typed (more p ps) h = (statement_typed p h.0, statements_typed ps h.1)

  lines_typed : (ps : Forest) → AreLinesOf true ps → AreTyped ps
  lines_typed none h = tt
  lines_typed (more p ps) (inl h, k) = (declaration_typed p h, lines_typed ps k)
  lines_typed (more p ps) (inr h, k) = (statement_typed p h, lines_typed ps k)

block_typed : (t : Syntax) → IsBlockOf true t → IsTyped t
block_typed (node forms.BlockNode w f l ps) h = lines_typed ps h
block_typed t h = absurd h

head_typed : (t : Syntax) → IsHeadOf true t → IsTyped t
head_typed (node forms.HeadNode w f l ps) h = tt
head_typed t h = absurd h

result_typed : (t : Syntax) → IsResult t → IsTyped t
result_typed (node forms.ResultNode w f l ps) h = tt
result_typed t h = absurd h

params_typed : (t : Syntax) → IsParams t → IsTyped t
params_typed (node forms.ParamsNode w f l ps) h = tt
params_typed t h = absurd h

definition_typed : (ps : Forest) → IsDefinitionOf true ps → AreTyped ps
definition_typed (more r (more p (more b none))) h =
    (result_typed r h.0, (params_typed p h.1, (block_typed b h.2, tt)))
definition_typed ps h = absurd h

function_typed : (ps : Forest) → BehindHeadsOf true (IsDefinitionOf true) ps → AreTyped ps
function_typed none h = absurd h
function_typed (more (node form w f l qs) ps) (inl h) = (head_typed (node form w f l qs) h.0, function_typed ps h.1)
function_typed (more (node form w f l qs) ps) (inr h) = definition_typed (more (node form w f l qs) ps) h

item_typed : (t : Syntax) → IsFunctionOf true t ⊎ (IsPrototypeOf true t ⊎ IsDeclarationOf true t) → IsTyped t
item_typed (node forms.FunctionNode w f l ps) (inl h) = function_typed ps h
item_typed t (inl h) = absurd h
item_typed (node forms.PrototypeNode w f l ps) (inr (inl h)) = tt
item_typed t (inr (inl h)) = absurd h
item_typed t (inr (inr h)) = declaration_typed t h

items_typed : (ps : Forest) → AreItemsOf true ps → AreTyped ps
items_typed none h = tt
items_typed (more p ps) h = (item_typed p h.0, items_typed ps h.1)

unit_typed : (t : Syntax) → IsUnitOf true t → IsTyped t
unit_typed (node forms.UnitNode w f l ps) h = items_typed ps h
unit_typed t h = absurd h

part_typed : (t : Syntax) → IsPart t → IsTyped t
part_typed t (inl h) = statement_typed t h
part_typed t (inr (inl h)) = declaration_typed t h
part_typed t (inr (inr (inl h))) = param_typed t h
part_typed t (inr (inr (inr h))) = unit_typed t h

-- a type is short
type_short : (t : Syntax) (names : Names) → IsType t → count_nodes (scalar (marked names t)) ≤ 2
unfolding scalar marked marked_parts
type_short (node forms.TypeNode w f l none) names h = omega arith
type_short (node forms.TypeNode w f l (more (node forms.SpaceNode w' f' l' none) none)) names h = omega arith
type_short t names h = absurd h

first_short : (form : Form) (all : Forest) (names : Names) (front : Bool) (ps : Forest) → IsTypeFirst ps →
    IsShortFirst (marked_parts form all names front ps)
unfolding marked_parts
first_short form all names front none h = tt
first_short form all names front (more t ts) h = type_short t names h

-- ---- simple statements

scalar_fits : (x n c : ℕ) → 1 ≤ c → x ≤ 8 * n → x ≤ 64 * n * c
scalar_fits x n c o h = omega (arith, grows n c o)

small_scalar : (m : Mark) (c : ℕ) → widest m ≤ c → count_nodes (scalar m) ≤ 64 * size m * c
small_scalar m c h =
    scalar_fits (count_nodes (scalar m)) (size m) c (omega (arith, one_wide m)) (scalar_count m)

-- the expression that is the whole of a statement, with the statement around it
whole_count : (s : Span) (t : Syntax) (names : Names) (plain : Syntax) (c : ℕ) → widest (marked names t) ≤ c →
    count_nodes plain ≤ 64 * suc (size (marked names t) + 0) * c →
    count_nodes (whole_by (form_of (tree_at (marked names t))) s (marked names t) plain) ≤
    64 * suc (size (marked names t) + 0) * c
unfolding marked marked_parts widest widest_among
whole_count s (node forms.AssignNode w f l none) names plain c h k = k
whole_count s (node forms.AssignNode w f l (more a none)) names plain c h k = k
whole_count s (node forms.AssignNode w f l (more a (more b none))) names plain c h k =
    let ps = more a (more b none) in
    let x = marked names a in
    let y = marked (later forms.AssignNode ps names true a) b in
    let i = components_wide a names in
    either_count (is_vector (kind_at x)) (set_block s (operator_in (setting_in w)) x y) plain
    (64 * suc (suc (size x + (size y + 0)) + 0) * c)
    (block_count s (operator_in (setting_in w)) x y c (omega (arith, one_wide x)) (omega arith) (omega arith)) k
whole_count s (node forms.AssignNode w f l (more a (more b (more d ds)))) names plain c h k = k
whole_count s (node form w f l ps) names plain c h k = k

simple_count : (t : Syntax) (form : Form) (all : Forest) (names : Names) (front : Bool) (ps : Forest) (plain : Syntax)
    (c : ℕ) → widest_among (marked_parts form all names front ps) ≤ c →
    count_nodes plain ≤ 64 * suc (sizes (marked_parts form all names front ps)) * c →
    count_nodes (simple_at t (marked_parts form all names front ps) plain) ≤
    64 * suc (sizes (marked_parts form all names front ps)) * c
unfolding marked_parts
simple_count t form all names front none plain c h k = k
simple_count t form all names front (more a none) plain c h k =
    whole_count (span_of t) a names plain c (first_wide (marked names a) unmarked c h) k
simple_count t form all names front (more a (more b bs)) plain c h k = k

-- ---- statements

node_fits : (x n c : ℕ) → 1 ≤ c → x ≤ 64 * n * c → suc x ≤ 64 * suc n * c
node_fits x n c o h = omega arith

line_fits : (x y : ℕ) → x ≤ y → x + 0 ≤ y
line_fits x y h = omega arith

parts_sum : (x y m n c : ℕ) → x ≤ 64 * m * c → y ≤ 64 * n * c → x + y ≤ 64 * (m + n) * c
parts_sum x y m n c h k = omega arith

-- a node around parts that are small enough together
enclosed : {x : ℕ} (form : Form) (w : List ℕ) (f l : ℕ) (ps : Forest) (names : Names) (c : ℕ) →
    widest (marked names (node form w f l ps)) ≤ c →
    (widest_among (marked_parts form ps (within form w names) true ps) ≤ c →
    x ≤ 64 * sizes (marked_parts form ps (within form w names) true ps) * c) →
    suc x ≤ 64 * suc (sizes (marked_parts form ps (within form w names) true ps)) * c
unfolding marked
enclosed {x} form w f l ps names c h g =
    let m = marked names (node form w f l ps) in
    let ms = marked_parts form ps (within form w names) true ps in
    node_fits x (sizes ms) c (omega (arith, one_wide m))
    (g (parts_wide (node form w f l ps) (kind_at m) ms c h))

-- a declaration in a block is some lines, and anything else one
line_count : (t : Syntax) (names : Names) (c : ℕ) → widest (marked names t) ≤ c → IsTyped t →
    count_nodes (scalarised (marked names t)) ≤ 64 * size (marked names t) * c →
    count_forest (block_line (marked names t) (scalarised (marked names t))) ≤ 64 * size (marked names t) * c
unfolding marked
line_count (node forms.DeclareNode w f l ps) names c h s k =
    let t = node forms.DeclareNode w f l ps in
    declaration_lines_count t (kind_at (marked names t)) (marked_parts forms.DeclareNode ps names true ps) c h
    (first_short forms.DeclareNode ps names true ps s)
line_count (node form w f l ps) names c h s k =
    let m = marked names (node form w f l ps) in
    line_fits (count_nodes (scalarised m)) (64 * size m * c) k

mutual
  unfolding scalarised all_scalarised block_lines loop_parts marked marked_parts

  pub statement_count : (t : Syntax) (names : Names) (c : ℕ) → widest (marked names t) ≤ c → IsTyped t →
      count_nodes (scalarised (marked names t)) ≤ 64 * size (marked names t) * c
  statement_count (node forms.UnitNode w f l ps) names c h s =
      enclosed forms.UnitNode w f l ps names c h (λ i. statements_count forms.UnitNode ps names true ps c i s)
  statement_count (node forms.FunctionNode w f l ps) names c h s =
      enclosed forms.FunctionNode w f l ps names c h (λ i. statements_count forms.FunctionNode ps names true ps c i s)
  statement_count (node forms.BlockNode w f l ps) names c h s =
      enclosed forms.BlockNode w f l ps names c h (λ i. lines_count forms.BlockNode ps names true ps c i s)
  statement_count (node forms.IfNode w f l ps) names c h s =
      enclosed forms.IfNode w f l ps names c h (λ i. statements_count forms.IfNode ps names true ps c i s)
  statement_count (node forms.WhileNode w f l ps) names c h s =
      enclosed forms.WhileNode w f l ps names c h (λ i. statements_count forms.WhileNode ps names true ps c i s)
  statement_count (node forms.DoNode w f l ps) names c h s =
      enclosed forms.DoNode w f l ps names c h (λ i. statements_count forms.DoNode ps names true ps c i s)
  statement_count (node forms.ForNode w f l ps) names c h s =
      enclosed forms.ForNode w f l ps names c h (λ i. loop_count forms.ForNode ps names true ps c i s)
  statement_count (node forms.SwitchNode w f l ps) names c h s =
      enclosed forms.SwitchNode w f l ps names c h (λ i. statements_count forms.SwitchNode ps names true ps c i s)
  statement_count (node forms.CaseNode w f l ps) names c h s =
      enclosed forms.CaseNode w f l ps names c h (λ i. statements_count forms.CaseNode ps names true ps c i s)
  statement_count (node forms.DefaultNode w f l ps) names c h s =
      enclosed forms.DefaultNode w f l ps names c h (λ i. statements_count forms.DefaultNode ps names true ps c i s)
  statement_count (node forms.SimpleNode w f l ps) names c h s =
      let t = node forms.SimpleNode w f l ps in
      let m = marked names t in
      let ms = marked_parts forms.SimpleNode ps names true ps in
      simple_count t forms.SimpleNode ps names true ps (scalar m) c (parts_wide t (kind_at m) ms c h)
      (small_scalar m c h)
  statement_count (node forms.DeclareNode w f l ps) names c h s =
      let t = node forms.DeclareNode w f l ps in
      let ms = marked_parts forms.DeclareNode ps names true ps in
      declaration_count t ms c (parts_wide t (kind_at (marked names t)) ms c h)
  statement_count (node form w f l ps) names c h s = small_scalar (marked names (node form w f l ps)) c h

  statements_count : (form : Form) (all : Forest) (names : Names) (front : Bool) (ps : Forest) (c : ℕ) →
      widest_among (marked_parts form all names front ps) ≤ c → AreTyped ps →
      count_forest (all_scalarised (marked_parts form all names front ps)) ≤
      64 * sizes (marked_parts form all names front ps) * c
  statements_count form all names front none c h s = omega arith
  statements_count form all names front (more p ps) c h s =
      let m = marked names p in
      let n = later form all names front p in
      let ms = marked_parts form all n false ps in
      parts_sum (count_nodes (scalarised m)) (count_forest (all_scalarised ms)) (size m) (sizes ms) c
      (statement_count p names c (first_wide m ms c h) s.0)
      (statements_count form all n false ps c (others_wide m ms c h) s.1)

  lines_count : (form : Form) (all : Forest) (names : Names) (front : Bool) (ps : Forest) (c : ℕ) →
      widest_among (marked_parts form all names front ps) ≤ c → AreTyped ps →
      count_forest (block_lines (marked_parts form all names front ps)) ≤
      64 * sizes (marked_parts form all names front ps) * c
  lines_count form all names front none c h s = omega arith
  lines_count form all names front (more p ps) c h s =
      let m = marked names p in
      let n = later form all names front p in
      let ms = marked_parts form all n false ps in
      let line = block_line m (scalarised m) in
      lines_sum (count_forest line) (count_forest (block_lines ms)) (count_forest (joined line (block_lines ms)))
      (size m) (sizes ms) c (joined_count line (block_lines ms))
      (line_count p names c (first_wide m ms c h) s.0 (statement_count p names c (first_wide m ms c h) s.0))
      (lines_count form all n false ps c (others_wide m ms c h) s.1)

  loop_count : (form : Form) (all : Forest) (names : Names) (front : Bool) (ps : Forest) (c : ℕ) →
      widest_among (marked_parts form all names front ps) ≤ c → AreTyped ps →
      count_forest (loop_parts (marked_parts form all names front ps)) ≤
      64 * sizes (marked_parts form all names front ps) * c
  loop_count form all names front none c h s = omega arith
  loop_count form all names front (more p ps) c h s =
      let m = marked names p in
      let n = later form all names front p in
      let ms = marked_parts form all n false ps in
      let start = if is_declaration m then scalarised m else scalar m in
      parts_sum (count_nodes start) (count_forest (all_scalarised ms)) (size m) (sizes ms) c
      (either_count (is_declaration m) (scalarised m) (scalar m) (64 * size m * c)
      (statement_count p names c (first_wide m ms c h) s.0) (small_scalar m c (first_wide m ms c h)))
      (statements_count form all n false ps c (others_wide m ms c h) s.1)

-- ---- the law

pub forms_small : FormsSmall
forms_small names part h =
    let m = marked names part in
    let c = widest m in
    let s = part_typed part h in
    let k = statement_count part names c (same c) s in
    subst (λ n. (count_nodes (scalarised m) ≤ 64 * n * c) × (count_forest (block_line m (scalarised m)) ≤ 64 * n * c))
    (marked_size part names) (k, line_count part names c (same c) s k)
  where
    same : (c : ℕ) → c ≤ c
    same c = omega arith
