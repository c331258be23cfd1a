-- The lines of the steps of a vector statement are declarations and statements.
use Rattle.std.proofs.Common.{◌≡◌, ℕ, suc, ◌≤◌, List, [], ◌∷◌, ◌++◌, Option, Some, None, Bool, true, false, ◌&&◌}
use Rattle.std.proofs.Common.{if◌then◌else◌, refl, inl, inr, ◌⊎◌, arith}
use Rattle.std.proofs.lemmas.Bool.{false≢true}
use Rattle.std.specs.Prelude.{codes}
use Rattle.wg_num.specs.declared.types.IntType.{IntType}
use Rattle.wg_num.specs.declared.types.IntType.TheVariants as types
use Rattle.wg_num.specs.declared.types.Bin.{Bin}
use Rattle.cl_model.specs.Lists.{Each}
use Rattle.cl_tree.specs.declared.tree.Form.{Form}
use Rattle.cl_tree.specs.declared.tree.Form.TheVariants as forms
use Rattle.cl_tree.specs.Syntax.{Syntax, node, Forest, none, more}
use Rattle.cl_tree.specs.Nodes.{forest1}
use Rattle.cl_meaning.specs.declared.operators.Prefix.{Prefix}
use Rattle.cl_meaning.specs.declared.operators.Prefix.TheVariants as prefixes
use Rattle.cl_meaning.specs.Operators.{prefix_in}
use Rattle.cl_meaning.specs.Kinds.{is_some}
use Rattle.cl_check_sound.specs.Shape.{IsType, PrefixOf, IsExpressionOf, AreExpressionsOf, IsListOf}
use Rattle.cl_check_sound.specs.Shape.{IsExpression, IsDeclarator, IsDeclaration, IsStatement}
use Rattle.cl_check_sound.specs.Shape.{AreLines}
use Rattle.cl_short_vec.specs.declared.nodes.Span.{Span}
use Rattle.cl_short_vec.specs.declared.types.Vector.{Vector}
use Rattle.cl_short_vec.specs.declared.kinds.Reach.TheVariants.{Element}
use Rattle.cl_short_vec.specs.declared.kinds.Kind.{Kind}
use Rattle.cl_short_vec.specs.declared.kinds.Kind.TheVariants.{Vectors, Pointer, Other}
use Rattle.cl_short_vec.specs.declared.made.Made.{Made}
use Rattle.cl_short_vec.specs.declared.made.Made.TheVariants as made
use Rattle.cl_short_vec.specs.Types.{numbers, selection_in}
use Rattle.cl_short_vec.specs.Kinds.{Names, within, later, is_vector}
use Rattle.cl_short_vec.specs.Marks.{Mark, tree_at, kind_at, kind_by, marked, marked_parts}
use Rattle.cl_short_vec.specs.Marks.{vector_among}
use Rattle.cl_short_vec.specs.Faults.{components_of}
use Rattle.cl_short_vec.specs.Made.{made_of, made_in, made_by_prefix}
use Rattle.cl_short_vec.specs.Order.{Named, Step, Offset, Number, Copy, Load, Set, Store, type_in, count_in, loads}
use Rattle.cl_short_vec.specs.Order.{copies}
use Rattle.cl_short_vec.specs.Order.{named_by, element_steps, steps_by, steps_in, all_steps, list_steps}
use Rattle.cl_short_vec.specs.Order.{inside_steps, steps_of, under, is_element_in, target_steps, old_steps}
use Rattle.cl_short_vec.specs.Order.{stores, sets, new_steps, setting_steps, initial_steps}
use Rattle.cl_short_vec.specs.Parts.{Assigned, assigned_part}
use Rattle.cl_short_vec.specs.Nodes.{span_of, variable_at, long_at, typed_at, helper, component_name}
use Rattle.cl_short_vec.specs.Scalar.{scalar}
use Rattle.cl_short_vec.specs.Unit.{pointed_at, helped_element, set_line, line_of, lines_of}
use Rattle.cl_short_vec_correct.proofs.Words.{long_word}
use Rattle.cl_short_vec.proofs.Small.{SmallKind, SmallMark, SmallMarks, AllSmall, numbers_small}
use Rattle.cl_short_vec.proofs.Small.{components_small}
use Rattle.cl_short_vec_correct.proofs.Nodes.{typed_is, spaced_is, element_is, statement_is, initial_is, declared_is}
use Rattle.cl_short_vec_correct.proofs.Parts.{assigned_is}
use Rattle.cl_short_vec_correct.proofs.Scalars.{expression_is, list_is, postfix_part}

-- what may stand behind the `=` of a declarator
abbrev pub IsInitial : Syntax → Type 0
IsInitial x = (w : List ℕ) (f l : ℕ) → IsDeclarator (node forms.DeclaratorNode w f l (forest1 x))

abbrev pub StepIs : Step → Type 0
StepIs (Offset m) = IsExpression (scalar m)
StepIs (Number of m) = IsInitial (scalar m)
StepIs (Copy of x c) = Unit {0}
StepIs (Load m c) = c ≤ 16
StepIs (Set x c j) = Unit {0}
StepIs (Store m c j) = c ≤ 16

abbrev pub StepsAre : List Step → Type 0
StepsAre ss = Each StepIs ss

append_are : (a b : List Step) → StepsAre a → StepsAre b → StepsAre (a ++ b)
append_are [] b h k = k
append_are (s ∷ a) b h k = (h.0, append_are a b h.1 k)

initial_expression : (x : Syntax) → IsExpression x → IsInitial x
initial_expression x h w f l = initial_is w f l x (inl h)

loads_are : (m : Mark) (cs : List ℕ) → AllSmall cs → StepsAre (loads m cs)
loads_are m [] h = tt
loads_are m (c ∷ cs) h = (h.0, loads_are m cs h.1)

copies_are : (of : IntType) (x : Named) (cs : List ℕ) → StepsAre (copies of x cs)
copies_are of x [] = tt
copies_are of x (c ∷ cs) = (tt, copies_are of x cs)

count_small : (k : Kind) → SmallKind k → count_in k ≤ 16
count_small (Vectors v r) h = h
count_small (Pointer s c v) h = omega arith
count_small (Other b) h = omega arith

element_steps_are : (m : Mark) → SmallKind (kind_at m) → IsExpression (scalar m) → StepsAre (element_steps m)
element_steps_are m s h =
    let b = count_small (kind_at m) s in
    (h, loads_are m (numbers 0 1 (count_in (kind_at m))) (numbers_small 0 (count_in (kind_at m)) (omega arith)))

by_are : (how : Made) (of : IntType) (m : Mark) (items all lists : List Step) → SmallKind (kind_at m) →
    IsExpression (scalar m) → StepsAre items → StepsAre all → StepsAre lists →
    StepsAre (steps_by how of m items all lists)
by_are made.Number of m items all lists s h i a l = (initial_expression (scalar m) h, tt)
by_are made.Items of m items all lists s h i a l = i
by_are made.Variable of m items all lists s h i a l =
    copies_are (type_in (kind_at m)) (named_by (tree_at m)) (numbers 0 1 (count_in (kind_at m)))
by_are made.Element of m items all lists s h i a l = element_steps_are m s h
by_are made.Listed of m items all lists s h i a l = l
by_are how of m items all lists s h i a l = a

-- ---- leaves

-- a cast is a list or a number
cast_are : (listed vector : Bool) (of : IntType) (m : Mark) (items all lists : List Step) → IsExpression (scalar m) →
    StepsAre lists → StepsAre (steps_by (if listed && false then made.Items else
    (if vector then made.Listed else made.Number)) of m items all lists)
cast_are true true of m items all lists h l = l
cast_are false true of m items all lists h l = l
cast_are true false of m items all lists h l = (initial_expression (scalar m) h, tt)
cast_are false false of m items all lists h l = (initial_expression (scalar m) h, tt)

-- an operator in front of one operand
signed_are : (o : Option Prefix) (listed vector : Bool) (of : IntType) (m : Mark) (a : Syntax) (e : Type 0)
    (items all lists : List Step) → PrefixOf o a e → SmallKind (kind_at m) → IsExpression (scalar m) →
    (e → StepsAre all) → StepsAre (steps_by (if listed && false then made.Items else
    (if vector then made_by_prefix o else made.Number)) of m items all lists)
signed_are o listed false of m a e items all lists p s h g = by listed
  where
    by : (b : Bool) → StepsAre (steps_by (if b && false then made.Items else made.Number) of m items all lists)
    by true = (initial_expression (scalar m) h, tt)
    by false = (initial_expression (scalar m) h, tt)
signed_are None listed true of m a e items all lists p s h g = absurd p
signed_are (Some (prefixes.Operator op)) true true of m a e items all lists p s h g = g p
signed_are (Some (prefixes.Operator op)) false true of m a e items all lists p s h g = g p
signed_are (Some o) true true of m a e items all lists p s h g = element_steps_are m s h
signed_are (Some o) false true of m a e items all lists p s h g = element_steps_are m s h

-- each part of an expression is one, but for casts and prefixes
abbrev has_operands : Form → Bool
has_operands forms.CastNode = false
has_operands forms.UnaryNode = false
has_operands form = true

operands : (form : Form) (w : List ℕ) (f l : ℕ) (parts : Forest) → has_operands form ≡ true →
    IsExpressionOf true (node form w f l parts) → AreExpressionsOf true parts
operands forms.NumberNode w f l none e h = tt
operands forms.TruthNode w f l none e h = tt
operands forms.VariableNode w f l none e h = tt
operands forms.ParenNode w f l (more a none) e h = (h, tt)
operands forms.ExprNode w f l (more a (more b none)) e h = (h.0, (h.1, tt))
operands forms.AssignNode w f l (more a (more b none)) e h = (h.1, (h.2, tt))
operands forms.CondNode w f l (more c (more a (more b none))) e h = (h.0, (h.1, (h.2, tt)))
operands forms.OrNode w f l (more a (more b none)) e h = (h.0, (h.1, tt))
operands forms.AndNode w f l (more a (more b none)) e h = (h.0, (h.1, tt))
operands forms.BorNode w f l (more a (more b none)) e h = (h.1, (h.2, tt))
operands forms.BxorNode w f l (more a (more b none)) e h = (h.1, (h.2, tt))
operands forms.BandNode w f l (more a (more b none)) e h = (h.1, (h.2, tt))
operands forms.EqualNode w f l (more a (more b none)) e h = (h.1, (h.2, tt))
operands forms.OrderNode w f l (more a (more b none)) e h = (h.1, (h.2, tt))
operands forms.ShiftNode w f l (more a (more b none)) e h = (h.1, (h.2, tt))
operands forms.SumNode w f l (more a (more b none)) e h = (h.1, (h.2, tt))
operands forms.TermNode w f l (more a (more b none)) e h = (h.1, (h.2, tt))
operands forms.PostfixNode w f l (more a none) e h = (postfix_part w (IsExpressionOf true a) h, tt)
operands forms.PostfixNode w f l (more a (more b none)) e h = (h.1, (h.2, tt))
operands forms.CallNode w f l parts e h = h
operands forms.CastNode w f l parts e h = absurd (false≢true e)
operands forms.UnaryNode w f l parts e h = absurd (false≢true e)
operands form w f l parts e h = absurd h

type_inside : (of : IntType) (t : Syntax) (names : Names) → IsType t → StepsAre (inside_steps of (marked names t))
unfolding inside_steps marked marked_parts
type_inside of (node forms.TypeNode w f l none) names h = tt
type_inside of (node forms.TypeNode w f l (more (node forms.SpaceNode w' f' l' none) none)) names h = tt
type_inside of t names h = absurd h

mutual
  unfolding steps_in all_steps list_steps inside_steps marked marked_parts made_in

  pub steps_are : (listed : Bool) (of : IntType) (t : Syntax) (names : Names) → SmallMark (marked names t) →
      IsExpressionOf true t → StepsAre (steps_in listed of (marked names t))
  steps_are listed of (node forms.CastNode w f l none) names s h = absurd h
  steps_are listed of (node forms.CastNode w f l (more t none)) names s h = absurd h
  steps_are listed of (node forms.CastNode w f l (more t (more a none))) names s h =
      let ps = more t (more a none) in
      let n = later forms.CastNode ps names true t in
      let m = marked names (node forms.CastNode w f l ps) in
      let ms = marked_parts forms.CastNode ps names true ps in
      cast_are listed (is_vector (kind_at m)) of m (all_steps true of ms)
      (all_steps false (type_in (vector_among ms)) ms) (list_steps (type_in (kind_at m)) ms)
      (expression_is (node forms.CastNode w f l ps) names s h)
      (append_are (inside_steps (type_in (kind_at m)) (marked names t))
      (inside_steps (type_in (kind_at m)) (marked n a) ++ []) (type_inside (type_in (kind_at m)) t names h.0)
      (append_are (inside_steps (type_in (kind_at m)) (marked n a)) []
      (inside_are (type_in (kind_at m)) a n s.1.1.0 h.1) tt))
  steps_are listed of (node forms.CastNode w f l (more t (more a (more b bs)))) names s h = absurd h
  steps_are listed of (node forms.UnaryNode w f l none) names s h = absurd h
  steps_are listed of (node forms.UnaryNode w f l (more a none)) names s h =
      let ps = more a none in
      let m = marked names (node forms.UnaryNode w f l ps) in
      let ms = marked_parts forms.UnaryNode ps names true ps in
      let inner = type_in (vector_among ms) in
      signed_are (prefix_in w) listed (is_vector (kind_at m)) of m a (IsExpressionOf true a) (all_steps true of ms)
      (all_steps false inner ms) (list_steps (type_in (kind_at m)) ms) h s.0
      (expression_is (node forms.UnaryNode w f l ps) names s h) (λ k.
      append_are (steps_in false inner (marked names a)) [] (steps_are false inner a names s.1.0 k) tt)
  steps_are listed of (node forms.UnaryNode w f l (more a (more b bs))) names s h = absurd h
  steps_are listed of (node form w f l ps) names s h =
      let inner = within form w names in
      let m = marked names (node form w f l ps) in
      let ms = marked_parts form ps inner true ps in
      let o = operands form w f l ps refl h in
      by_are (made_of listed (node form w f l ps) (kind_at m)) of m (all_steps true of ms)
      (all_steps false (type_in (vector_among ms)) ms) (list_steps (type_in (kind_at m)) ms) s.0
      (expression_is (node form w f l ps) names s h) (all_are true of form ps inner true ps s.1 o)
      (all_are false (type_in (vector_among ms)) form ps inner true ps s.1 o)
      (lists_are (type_in (kind_at m)) form ps inner true ps s.1 o)

  all_are : (listed : Bool) (of : IntType) (form : Form) (all : Forest) (names : Names) (front : Bool) (ps : Forest) →
      SmallMarks (marked_parts form all names front ps) → AreExpressionsOf true ps →
      StepsAre (all_steps listed of (marked_parts form all names front ps))
  all_are listed of form all names front none s h = tt
  all_are listed of form all names front (more p ps) s h =
      let n = later form all names front p in
      append_are (steps_in listed of (marked names p)) (all_steps false of (marked_parts form all n false ps))
      (steps_are listed of p names s.0 h.0) (all_are false of form all n false ps s.1 h.1)

  lists_are : (of : IntType) (form : Form) (all : Forest) (names : Names) (front : Bool) (ps : Forest) →
      SmallMarks (marked_parts form all names front ps) → AreExpressionsOf true ps →
      StepsAre (list_steps of (marked_parts form all names front ps))
  lists_are of form all names front none s h = tt
  lists_are of form all names front (more p ps) s h =
      let n = later form all names front p in
      append_are (inside_steps of (marked names p)) (list_steps of (marked_parts form all n false ps))
      (inside_are of p names s.0 h.0) (lists_are of form all n false ps s.1 h.1)

  inside_are : (of : IntType) (t : Syntax) (names : Names) → SmallMark (marked names t) → IsExpressionOf true t →
      StepsAre (inside_steps of (marked names t))
  inside_are of (node forms.ParenNode w f l none) names s h = absurd h
  inside_are of (node forms.ParenNode w f l (more a none)) names s h =
      append_are (steps_in true of (marked names a)) [] (steps_are true of a names s.1.0 h) tt
  inside_are of (node forms.ParenNode w f l (more a (more b bs))) names s h = absurd h
  inside_are of (node form w f l ps) names s h = tt

-- the value of a declarator: an expression, a list, and also a star
abbrev pub IsValue : Syntax → Type 0
IsValue (node forms.StarNode w f l none) = Unit {0}
IsValue t = IsExpressionOf true t ⊎ IsListOf true t

pub values_are : (of : IntType) (t : Syntax) (names : Names) → SmallMark (marked names t) → IsValue t →
    StepsAre (steps_of of (marked names t))
unfolding steps_in marked marked_parts kind_by scalar
values_are of (node forms.StarNode w f l none) names s h = (λ w' f' l'. tt, tt)
values_are of (node forms.StarNode w f l (more p ps)) names s (inl h) = absurd h
values_are of (node forms.StarNode w f l (more p ps)) names s (inr h) = absurd h
values_are of (node forms.ListNode w f l ps) names s (inl h) = absurd h
values_are of (node forms.ListNode w f l ps) names s (inr h) = (
  λ w' f' l'. initial_is w' f' l' (scalar (marked names (node forms.ListNode w f l ps)))
      (inr (list_is (node forms.ListNode w f l ps) names s h)),
  tt,
)
values_are of (node form w f l ps) names s (inl h) = steps_are false of (node form w f l ps) names s h
values_are of (node form w f l ps) names s (inr h) = absurd h

-- ---- statements

-- the variable or element of which a place selects components
under_is : (t : Syntax) (names : Names) → SmallMark (marked names t) → IsExpressionOf true t →
    IsExpression (scalar (under (marked names t)))
unfolding under marked marked_parts
under_is (node forms.ParenNode w f l none) names s h = absurd h
under_is (node forms.ParenNode w f l (more a none)) names s h = under_is a names s.1.0 h
under_is (node forms.ParenNode w f l (more a (more b bs))) names s h = absurd h
under_is (node forms.PostfixNode w f l (more a ps)) names s h =
    by (is_some (selection_in w)) (under_is a names s.1.0 (operands forms.PostfixNode w f l (more a ps) refl h).0)
    (expression_is (node forms.PostfixNode w f l (more a ps)) names s h)
  where
    by : (z : Bool) → IsExpression (scalar (under (marked names a))) →
        IsExpression (scalar (marked names (node forms.PostfixNode w f l (more a ps)))) →
        IsExpression (scalar (if z then under (marked names a) else
        marked names (node forms.PostfixNode w f l (more a ps))))
    by true i j = i
    by false i j = j
under_is (node form w f l none) names s h = expression_is (node form w f l none) names s h
under_is (node form w f l (more p ps)) names s h = expression_is (node form w f l (more p ps)) names s h

target_are : (m : Mark) → IsExpression (scalar m) → StepsAre (target_steps m)
target_are m h = by (is_element_in (kind_at m))
  where
    by : (z : Bool) → StepsAre (if z then Offset m ∷ [] else [])
    by true = (h, tt)
    by false = tt

old_are : (o : Option Bin) (m : Mark) (cs : List ℕ) → AllSmall cs → StepsAre (old_steps o m cs)
old_are None m cs h = tt
old_are (Some op) m cs h = by (is_element_in (kind_at m))
  where
    by : (z : Bool) →
        StepsAre (if z then loads m cs else copies (type_in (kind_at m)) (named_by (tree_at m)) cs)
    by true = loads_are m cs h
    by false = copies_are (type_in (kind_at m)) (named_by (tree_at m)) cs

stores_are : (m : Mark) (cs : List ℕ) (j : ℕ) → AllSmall cs → StepsAre (stores m cs j)
stores_are m [] j h = tt
stores_are m (c ∷ cs) j h = (h.0, stores_are m cs (suc j) h.1)

sets_are : (x : Named) (cs : List ℕ) (j : ℕ) → StepsAre (sets x cs j)
sets_are x [] j = tt
sets_are x (c ∷ cs) j = (tt, sets_are x cs (suc j))

new_are : (m : Mark) (cs : List ℕ) → AllSmall cs → StepsAre (new_steps m cs)
new_are m cs h = by (is_element_in (kind_at m))
  where
    by : (z : Bool) → StepsAre (if z then stores m cs 0 else sets (named_by (tree_at m)) cs 0)
    by true = stores_are m cs 0 h
    by false = sets_are (named_by (tree_at m)) cs 0

pub setting_are : (o : Option Bin) (a b : Syntax) (names after : Names) → SmallMark (marked names a) →
    SmallMark (marked after b) → IsExpressionOf true a → IsExpressionOf true b →
    StepsAre (setting_steps o (marked names a) (marked after b))
setting_are o a b names after s z h k =
    let m = under (marked names a) in
    let cs = components_of (marked names a) in
    let c = components_small (marked names a) s in
    let leaves = steps_of (type_in (kind_at (marked names a))) (marked after b) in
    let r = steps_are false (type_in (kind_at (marked names a))) b after z k in
    append_are (target_steps m) (old_steps o m cs ++ (leaves ++ new_steps m cs)) (target_are m (under_is a names s h))
    (append_are (old_steps o m cs) (leaves ++ new_steps m cs) (old_are o m cs c)
    (append_are leaves (new_steps m cs) r (new_are m cs c)))

pub initial_are : (v : Vector) (x : Named) (t : Syntax) (names : Names) → SmallMark (marked names t) → IsValue t →
    StepsAre (initial_steps v x (marked names t))
initial_are v x t names s h = append_are (steps_of v.of (marked names t)) (sets x (numbers 0 1 v.count) 0)
    (values_are v.of t names s h) (sets_are x (numbers 0 1 v.count) 0)

-- ---- lines

-- the type behind which components are declared
abbrev pub IsBehind : Option Mark → Type 0
IsBehind None = Unit {0}
IsBehind (Some m) = IsType (scalar m)

pointed_is : (k : Kind) (s : Span) → IsType (pointed_at k s)
pointed_is (Vectors v (Element space constant)) s = spaced_is space constant v.of s
pointed_is k s = typed_is types.Int s

set_is : (type : Option Mark) (x : Named) (c : ℕ) (value : Syntax) → IsBehind type → IsExpression value →
    IsDeclaration (set_line type x c value) ⊎ IsStatement (set_line type x c value)
set_is None x c value h k =
    inr (statement_is x.span (variable_at (component_name x.name c) x.span) value tt k)
set_is (Some type) x c value h k = inl (declared_is x.span (scalar type) (component_name x.name c) value h k)

helped_is : (s : Span) (c : ℕ) → c ≤ 16 → IsExpression (helped_element s c)
helped_is s c h = element_is s (variable_at (helper s) s) (long_at c s) tt (long_word c h)

line_is : (type : Option Mark) (a : Assigned) (s : Step) → IsBehind type → StepIs s →
    IsDeclaration (line_of type a s) ⊎ IsStatement (line_of type a s)
unfolding prefix_in
line_is type a (Offset m) h k = inl (pointed_is (kind_at m) (span_of (tree_at m)), (inl k, tt))
line_is type a (Number of m) h k =
    let s = span_of (tree_at m) in inl (typed_is of s, (k (helper s ++ codes " =") s.first s.last, tt))
line_is type a (Copy of x c) h k =
    inl (declared_is x.span (typed_at of x.span) (component_name (helper x.span) c)
    (variable_at (component_name x.name c) x.span) (typed_is of x.span) tt)
line_is type a (Load m c) h k =
    let s = span_of (tree_at m) in
    inl (declared_is s (typed_at (type_in (kind_at m)) s) (component_name (helper s) c) (helped_element s c)
    (typed_is (type_in (kind_at m)) s) (helped_is s c k))
line_is type a (Set x c j) h k =
    set_is type x c (assigned_part a j) h (assigned_is a j)
line_is type a (Store m c j) h k =
    let s = span_of (tree_at m) in
    inr (statement_is s (helped_element s c) (assigned_part a j) (helped_is s c k) (assigned_is a j))

pub lines_are : (type : Option Mark) (a : Assigned) (ss : List Step) → IsBehind type → StepsAre ss →
    AreLines (lines_of type a ss)
lines_are type a [] h k = tt
lines_are type a (s ∷ ss) h k = (line_is type a s h k.0, lines_are type a ss h k.1)
