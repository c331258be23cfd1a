-- How an expression is made tells what it is and what its parts are, as the wide shape of trees has them.
use Rattle.std.proofs.Common.{◌≡◌, ℕ, List, Option, None, Some, Bool, true, false, ◌&&◌, if◌then◌else◌, refl, sym}
use Rattle.std.proofs.Common.{◌∙◌, ◌⊎◌, inl, inr}
use Rattle.std.proofs.lemmas.Bool.{false≢true}
use Rattle.wg_num.specs.declared.types.Bin.{Bin}
use Rattle.cl_tree.specs.declared.tree.Form.{Form}
use Rattle.cl_tree.specs.declared.tree.Form.TheVariants as forms
use Rattle.cl_tree.specs.Syntax.{Syntax, node, Forest, none, more}
use Rattle.cl_meaning.specs.Spelling.{name_in, binary_in, prefix_in, postfix_in}
use Rattle.cl_meaning.specs.Declarations.{form_of, parts_of}
use Rattle.cl_meaning.specs.declared.operators.Prefix.{Prefix}
use Rattle.cl_meaning.specs.declared.operators.Prefix.TheVariants as prefixes
use Rattle.cl_meaning.specs.declared.operators.Postfix.{Postfix}
use Rattle.cl_meaning.specs.declared.operators.Postfix.TheVariants as postfixes
use Rattle.cl_check_sound.specs.Shape.{is_expression, IsType, PrefixOf, IsExpressionOf, AreExpressionsOf}
use Rattle.cl_short_vec.specs.declared.kinds.Reach.TheVariants.{Element}
use Rattle.cl_short_vec.specs.declared.kinds.Kind.{Kind}
use Rattle.cl_short_vec.specs.declared.kinds.Kind.TheVariants.{Vectors, Pointer, Other}
use Rattle.cl_short_vec.specs.declared.made.Made.{Made}
use Rattle.cl_short_vec.specs.declared.made.Made.TheVariants as made
use Rattle.cl_short_vec.specs.Types.{selection_in}
use Rattle.cl_short_vec.specs.Kinds.{Names, behind, later, is_vector, pointer_alone, element_of, address_of}
use Rattle.cl_short_vec.specs.Kinds.{joined_kind, prefix_kind, postfix_kind, is_operator}
use Rattle.cl_short_vec.specs.Marks.{Marks, front_kind, back_kind, kind_by}
use Rattle.cl_short_vec.specs.Made.{made_by_prefix, made_by_selection, made_by_operator, made_in, is_comma, made_of}
use Rattle.cl_short_vec.specs.Order.{is_element_in}
use Rattle.cl_short_vec_correct.proofs.Scalars.{postfix_part}

-- ---- what it is made of

abbrev pub is_variable_made : Made → Bool
is_variable_made made.Variable = true
is_variable_made how = false

abbrev pub is_element_made : Made → Bool
is_element_made made.Element = true
is_element_made how = false

-- its leaves are those of all its parts
abbrev pub is_made_of_parts : Made → Bool
is_made_of_parts made.Number = false
is_made_of_parts made.Variable = false
is_made_of_parts made.Element = false
is_made_of_parts made.Listed = false
is_made_of_parts how = true

-- neither a number nor items: a vector, by its production and its own words
pub made_apart : (is : Made → Bool) (listed : Bool) (form : Form) (w : List ℕ) (f l : ℕ) (ps : Forest) (k : Kind) →
    is made.Items ≡ false → is made.Number ≡ false → is (made_of listed (node form w f l ps) k) ≡ true →
    (is_vector k ≡ true) × (is (made_in form w) ≡ true)
made_apart is listed form w f l ps k i n h = by (listed && is_comma form) (is_vector k) h
  where
    by : (a b : Bool) → is (if a then made.Items else (if b then made_in form w else made.Number)) ≡ true →
        (b ≡ true) × (is (made_in form w) ≡ true)
    by true b g = absurd (false≢true (sym i ∙ g))
    by false true g = (refl, g)
    by false false g = absurd (false≢true (sym n ∙ g))

-- ---- kinds

pub alone_no_vector : (k : Kind) → is_vector (pointer_alone k) ≡ false
alone_no_vector (Vectors v r) = refl
alone_no_vector (Pointer s c v) = refl
alone_no_vector (Other b) = refl

pub address_no_vector : (k : Kind) → is_vector (address_of k) ≡ false
address_no_vector (Vectors v (Element s c)) = refl
address_no_vector k = refl

element_of_pointer : (k : Kind) → is_vector (element_of k) ≡ true → is_element_in (element_of k) ≡ true
element_of_pointer (Pointer s c v) h = refl
element_of_pointer (Vectors v r) h = absurd (false≢true h)
element_of_pointer (Other b) h = absurd (false≢true h)

-- a variable is a name
pub variable_is : (form : Form) (w : List ℕ) (names : Names) (ms : Marks) → is_variable_made (made_in form w) ≡ true →
    is_vector (kind_by names form w ms) ≡ true →
    (form ≡ forms.VariableNode) × (kind_by names form w ms ≡ names (name_in w))
unfolding made_in kind_by
variable_is forms.VariableNode w names ms e v = (refl, refl)
variable_is forms.ParenNode w names ms e v = absurd (false≢true e)
variable_is forms.UnaryNode w names ms e v = absurd (by (prefix_in w) e)
  where
    by : (o : Option Prefix) → is_variable_made (made_by_prefix o) ≡ true → ⊥
    by (Some (prefixes.Operator op)) g = false≢true g
    by o g = false≢true g
variable_is forms.PostfixNode w names ms e v = absurd (by (selection_in w) e)
  where
    by : (o : Option (List ℕ)) → is_variable_made (made_by_selection o) ≡ true → ⊥
    by (Some name) g = false≢true g
    by None g = false≢true g
variable_is forms.CallNode w names ms e v = absurd (false≢true e)
variable_is forms.CastNode w names ms e v = absurd (false≢true e)
variable_is forms.ExprNode w names ms e v = absurd (false≢true (sym (alone_no_vector (back_kind ms)) ∙ v))
variable_is forms.AssignNode w names ms e v = absurd (false≢true (sym (alone_no_vector (front_kind ms)) ∙ v))
variable_is form w names ms e v = absurd (by (is_operator form) (binary_in w) e v)
  where
    by : (z : Bool) (o : Option Bin) → is_variable_made (made_by_operator o) ≡ true →
        is_vector (if z then joined_kind o (front_kind ms) (back_kind ms) else (Other true)) ≡ true → ⊥
    by z (Some op) g h = false≢true g
    by true None g h = false≢true h
    by false None g h = false≢true h

prefixed_element : (o : Option Prefix) (k : Kind) → is_element_made (made_by_prefix o) ≡ true →
    is_vector (prefix_kind o k) ≡ true → is_element_in (prefix_kind o k) ≡ true
prefixed_element None k e v = absurd (false≢true v)
prefixed_element (Some (prefixes.Operator op)) k e v = absurd (false≢true e)
prefixed_element (Some prefixes.Content) k e v = element_of_pointer k v
prefixed_element (Some prefixes.Address) k e v = absurd (false≢true (sym (address_no_vector k) ∙ v))
prefixed_element (Some (prefixes.Step op)) k e v = absurd (false≢true (sym (alone_no_vector k) ∙ v))
prefixed_element (Some prefixes.Size) k e v = absurd (false≢true v)

postfixed_element : (name : Option (List ℕ)) (o : Option Postfix) (k : Kind) →
    is_element_made (made_by_selection name) ≡ true → is_vector (postfix_kind name o k) ≡ true →
    is_element_in (postfix_kind name o k) ≡ true
postfixed_element (Some name) o k e v = absurd (false≢true e)
postfixed_element None (Some postfixes.Index) k e v = element_of_pointer k v
postfixed_element None (Some (postfixes.Step op)) k e v = absurd (false≢true (sym (alone_no_vector k) ∙ v))
postfixed_element None None k e v = absurd (false≢true v)

joined_made : (o : Option Bin) → is_element_made (made_by_operator o) ≡ true → ⊥
joined_made (Some op) g = false≢true g
joined_made None g = false≢true g

-- what is made as an element is one
pub element_is : (form : Form) (w : List ℕ) (names : Names) (ms : Marks) → is_element_made (made_in form w) ≡ true →
    is_vector (kind_by names form w ms) ≡ true → is_element_in (kind_by names form w ms) ≡ true
unfolding made_in kind_by
element_is forms.VariableNode w names ms e v = absurd (false≢true e)
element_is forms.ParenNode w names ms e v = absurd (false≢true e)
element_is forms.UnaryNode w names ms e v = prefixed_element (prefix_in w) (front_kind ms) e v
element_is forms.PostfixNode w names ms e v =
    postfixed_element (selection_in w) (postfix_in w) (front_kind ms) e v
element_is forms.CallNode w names ms e v = absurd (false≢true e)
element_is forms.CastNode w names ms e v = absurd (false≢true e)
element_is form w names ms e v = absurd (joined_made (binary_in w) e)

-- ---- parts

-- a type before a list, where a vector is made of one, and an expression
abbrev pub AreTypesOr : Forest → Type 0
AreTypesOr none = Unit {0}
AreTypesOr (more p ps) = (IsType p ⊎ IsExpressionOf true p) × AreTypesOr ps

cast_apart : (a b : Bool) →
    is_made_of_parts (if a && false then made.Items else (if b then made.Listed else made.Number)) ≡ true → ⊥
cast_apart true true h = false≢true h
cast_apart true false h = false≢true h
cast_apart false true h = false≢true h
cast_apart false false h = false≢true h

signed_part : (a b : Bool) (o : Option Prefix) (p : Syntax) (e : Type 0) →
    is_made_of_parts (if a && false then made.Items else (if b then made_by_prefix o else made.Number)) ≡ true →
    PrefixOf o p e → e
signed_part a b None p e h g = absurd g
signed_part a b (Some prefixes.Size) p e h g = absurd (by a b h)
  where
    by : (c d : Bool) →
        is_made_of_parts (if c && false then made.Items else (if d then made.Element else made.Number)) ≡ true → ⊥
    by true true i = false≢true i
    by true false i = false≢true i
    by false true i = false≢true i
    by false false i = false≢true i
signed_part a b (Some (prefixes.Operator op)) p e h g = g
signed_part a b (Some (prefixes.Step op)) p e h g = g
signed_part a b (Some prefixes.Address) p e h g = g
signed_part a b (Some prefixes.Content) p e h g = g

-- the parts of what is made of all its parts are expressions
pub parts_are : (t : Syntax) (listed : Bool) (k : Kind) → is_made_of_parts (made_of listed t k) ≡ true →
    IsExpressionOf true t → AreExpressionsOf true (parts_of t)
unfolding made_in
parts_are (node forms.NumberNode w f l none) listed k e h = tt
parts_are (node forms.TruthNode w f l none) listed k e h = tt
parts_are (node forms.VariableNode w f l none) listed k e h = tt
parts_are (node forms.ParenNode w f l (more a none)) listed k e h = (h, tt)
parts_are (node forms.ExprNode w f l (more a (more b none))) listed k e h = (h.0, (h.1, tt))
parts_are (node forms.AssignNode w f l (more a (more b none))) listed k e h = (h.1, (h.2, tt))
parts_are (node forms.CondNode w f l (more c (more a (more b none)))) listed k e h = (h.0, (h.1, (h.2, tt)))
parts_are (node forms.OrNode w f l (more a (more b none))) listed k e h = (h.0, (h.1, tt))
parts_are (node forms.AndNode w f l (more a (more b none))) listed k e h = (h.0, (h.1, tt))
parts_are (node forms.BorNode w f l (more a (more b none))) listed k e h = (h.1, (h.2, tt))
parts_are (node forms.BxorNode w f l (more a (more b none))) listed k e h = (h.1, (h.2, tt))
parts_are (node forms.BandNode w f l (more a (more b none))) listed k e h = (h.1, (h.2, tt))
parts_are (node forms.EqualNode w f l (more a (more b none))) listed k e h = (h.1, (h.2, tt))
parts_are (node forms.OrderNode w f l (more a (more b none))) listed k e h = (h.1, (h.2, tt))
parts_are (node forms.ShiftNode w f l (more a (more b none))) listed k e h = (h.1, (h.2, tt))
parts_are (node forms.SumNode w f l (more a (more b none))) listed k e h = (h.1, (h.2, tt))
parts_are (node forms.TermNode w f l (more a (more b none))) listed k e h = (h.1, (h.2, tt))
parts_are (node forms.CastNode w f l (more t (more a none))) listed k e h =
    absurd (cast_apart listed (is_vector k) e)
parts_are (node forms.UnaryNode w f l (more a none)) listed k e h =
    (signed_part listed (is_vector k) (prefix_in w) a (IsExpressionOf true a) e h, tt)
parts_are (node forms.PostfixNode w f l (more a none)) listed k e h =
    (postfix_part w (IsExpressionOf true a) h, tt)
parts_are (node forms.PostfixNode w f l (more a (more b none))) listed k e h = (h.1, (h.2, tt))
parts_are (node forms.CallNode w f l parts) listed k e h = h
parts_are t listed k e h = absurd h

unary_operand : (o : Option Prefix) (p : Syntax) → PrefixOf o p (IsExpressionOf true p) →
    IsType p ⊎ IsExpressionOf true p
unary_operand None p h = absurd h
unary_operand (Some prefixes.Size) p h = inl h
unary_operand (Some (prefixes.Operator op)) p h = inr h
unary_operand (Some (prefixes.Step op)) p h = inr h
unary_operand (Some prefixes.Address) p h = inr h
unary_operand (Some prefixes.Content) p h = inr h

expressions_operands : (ps : Forest) → AreExpressionsOf true ps → AreTypesOr ps
expressions_operands none h = tt
expressions_operands (more p ps) h = (inr h.0, expressions_operands ps h.1)

-- the parts of any expression
pub operands_are : (t : Syntax) → IsExpressionOf true t → AreTypesOr (parts_of t)
operands_are (node forms.NumberNode w f l none) h = tt
operands_are (node forms.TruthNode w f l none) h = tt
operands_are (node forms.VariableNode w f l none) h = tt
operands_are (node forms.ParenNode w f l (more a none)) h = (inr h, tt)
operands_are (node forms.ExprNode w f l (more a (more b none))) h = (inr h.0, (inr h.1, tt))
operands_are (node forms.AssignNode w f l (more a (more b none))) h = (inr h.1, (inr h.2, tt))
operands_are (node forms.CondNode w f l (more c (more a (more b none)))) h = (inr h.0, (inr h.1, (inr h.2, tt)))
operands_are (node forms.OrNode w f l (more a (more b none))) h = (inr h.0, (inr h.1, tt))
operands_are (node forms.AndNode w f l (more a (more b none))) h = (inr h.0, (inr h.1, tt))
operands_are (node forms.BorNode w f l (more a (more b none))) h = (inr h.1, (inr h.2, tt))
operands_are (node forms.BxorNode w f l (more a (more b none))) h = (inr h.1, (inr h.2, tt))
operands_are (node forms.BandNode w f l (more a (more b none))) h = (inr h.1, (inr h.2, tt))
operands_are (node forms.EqualNode w f l (more a (more b none))) h = (inr h.1, (inr h.2, tt))
operands_are (node forms.OrderNode w f l (more a (more b none))) h = (inr h.1, (inr h.2, tt))
operands_are (node forms.ShiftNode w f l (more a (more b none))) h = (inr h.1, (inr h.2, tt))
operands_are (node forms.SumNode w f l (more a (more b none))) h = (inr h.1, (inr h.2, tt))
operands_are (node forms.TermNode w f l (more a (more b none))) h = (inr h.1, (inr h.2, tt))
operands_are (node forms.CastNode w f l (more t (more a none))) h = (inl h.0, (inr h.1, tt))
operands_are (node forms.UnaryNode w f l (more a none)) h = (unary_operand (prefix_in w) a h, tt)
operands_are (node forms.PostfixNode w f l (more a none)) h = (inr (postfix_part w (IsExpressionOf true a) h), tt)
operands_are (node forms.PostfixNode w f l (more a (more b none))) h = (inr h.1, (inr h.2, tt))
operands_are (node forms.CallNode w f l parts) h = expressions_operands parts h
operands_are t h = absurd h

-- ---- names behind an expression

pub expression_form : (t : Syntax) → IsExpressionOf true t → is_expression (form_of t) ≡ true
expression_form (node forms.NumberNode w f l none) h = refl
expression_form (node forms.TruthNode w f l none) h = refl
expression_form (node forms.VariableNode w f l none) h = refl
expression_form (node forms.ParenNode w f l (more a none)) h = refl
expression_form (node forms.ExprNode w f l (more a (more b none))) h = refl
expression_form (node forms.AssignNode w f l (more a (more b none))) h = refl
expression_form (node forms.CondNode w f l (more c (more a (more b none)))) h = refl
expression_form (node forms.OrNode w f l (more a (more b none))) h = refl
expression_form (node forms.AndNode w f l (more a (more b none))) h = refl
expression_form (node forms.BorNode w f l (more a (more b none))) h = refl
expression_form (node forms.BxorNode w f l (more a (more b none))) h = refl
expression_form (node forms.BandNode w f l (more a (more b none))) h = refl
expression_form (node forms.EqualNode w f l (more a (more b none))) h = refl
expression_form (node forms.OrderNode w f l (more a (more b none))) h = refl
expression_form (node forms.ShiftNode w f l (more a (more b none))) h = refl
expression_form (node forms.SumNode w f l (more a (more b none))) h = refl
expression_form (node forms.TermNode w f l (more a (more b none))) h = refl
expression_form (node forms.CastNode w f l (more t (more a none))) h = refl
expression_form (node forms.UnaryNode w f l (more a none)) h = refl
expression_form (node forms.PostfixNode w f l (more a none)) h = refl
expression_form (node forms.PostfixNode w f l (more a (more b none))) h = refl
expression_form (node forms.CallNode w f l parts) h = refl
expression_form t h = absurd h

behind_same : (names : Names) (form : Form) (w : List ℕ) (f l : ℕ) (parts : Forest) → is_expression form ≡ true →
    behind names (node form w f l parts) ≡ names
behind_same names forms.DeclareNode w f l parts h = absurd (false≢true h)
behind_same names forms.ParamsNode w f l parts h = absurd (false≢true h)
behind_same names forms.FunctionNode w f l parts h = absurd (false≢true h)
behind_same names form w f l parts h = refl

behind_expression : (names : Names) (p : Syntax) → IsExpressionOf true p → behind names p ≡ names
behind_expression names (node form w f l parts) h =
    behind_same names form w f l parts (expression_form (node form w f l parts) h)

-- an expression and a type declare nothing
pub behind_operand : (names : Names) (p : Syntax) → IsType p ⊎ IsExpressionOf true p → behind names p ≡ names
behind_operand names p (inr h) = behind_expression names p h
behind_operand names (node forms.TypeNode w f l parts) (inl h) = refl
behind_operand names p (inl h) = absurd h

pub later_same : (form : Form) (all : Forest) (names : Names) (front : Bool) (p : Syntax) →
    is_expression form ≡ true → IsType p ⊎ IsExpressionOf true p → later form all names front p ≡ names
later_same forms.DeclareNode all names front p h i = absurd (false≢true h)
later_same form all names front p h i = behind_operand names p i
