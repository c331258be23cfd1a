-- What stands for an expression without vectors is made of expressions and types alone, and so leaves what is visible.
use Rattle.std.proofs.Common.{◌≡◌, ℕ, List, Option, None, Some, Bool, true, false, if◌then◌else◌, refl, ◌⊎◌, inl, inr}
use Rattle.std.proofs.Common.{subst, sym, ap, ◌∙◌}
use Rattle.std.proofs.lemmas.Bool.{false≢true}
use Rattle.wg_num.specs.declared.types.IntType.TheVariants as types
use Rattle.wg_num.specs.declared.types.Bin.{Bin}
use Rattle.wg_num.specs.declared.types.Bin.TheVariants as bins
use Rattle.cl_tree.specs.declared.tree.Form.{Form}
use Rattle.cl_tree.specs.declared.tree.Form.TheVariants as forms
use Rattle.cl_tree.specs.Syntax.{Syntax, node, Forest, none, more}
use Rattle.cl_meaning.specs.Spelling.{prefix_in, postfix_in, setting_in}
use Rattle.cl_meaning.specs.declared.operators.Prefix.{Prefix}
use Rattle.cl_meaning.specs.declared.operators.Prefix.TheVariants as prefixes
use Rattle.cl_meaning.specs.declared.operators.Postfix.{Postfix}
use Rattle.cl_meaning.specs.declared.operators.Postfix.TheVariants as postfixes
use Rattle.cl_meaning.specs.declared.operators.Setting.{Setting}
use Rattle.cl_meaning.specs.declared.operators.Setting.TheVariants as settings
use Rattle.cl_meaning.specs.Environment.{Env}
use Rattle.cl_meaning.specs.Visible.{behind}
use Rattle.cl_check_sound.specs.Shape.{is_expression, IsType, PrefixOf, IsExpressionOf, AreExpressionsOf, OfExpressions}
use Rattle.cl_check_sound.specs.Shape.{AreOperands}
use Rattle.cl_check_sound.proofs.Neutral.{neutral}
use Rattle.cl_short_vec.specs.declared.nodes.Span.{Span}
use Rattle.cl_short_vec.specs.declared.types.Vector.{Vector}
use Rattle.cl_short_vec.specs.declared.kinds.Kind.{Kind}
use Rattle.cl_short_vec.specs.declared.kinds.Kind.TheVariants.{Pointer, Other}
use Rattle.cl_short_vec.specs.Kinds as kinds
use Rattle.cl_short_vec.specs.Kinds.{Names}
use Rattle.cl_short_vec.specs.Plain.{is_pointed}
use Rattle.cl_short_vec.specs.Marks.{kind_at, marked, marked_parts}
use Rattle.cl_short_vec.specs.Nodes.{span_of, cast_at, scaled, further}
use Rattle.cl_short_vec.specs.Scalar.{scalar, scalars, component_at, counted, counted_behind, prefixed}
use Rattle.cl_short_vec.specs.Scalar.{postfixed, two_by, moved_by, one_component, chosen_or, element_component}
use Rattle.cl_short_vec.specs.Scalar.{content_component}
use Rattle.cl_short_vec.specs.Order.{is_through}
use Rattle.cl_short_vec_faults.proofs.PlainForms.{type_plain, postfix_part}
use Rattle.cl_short_vec_faults.proofs.ConstantsSame.{type_same}
use Rattle.cl_short_vec_faults.proofs.Made.{typed_is}

abbrev Operand : Syntax → Type 0
Operand t = OfExpressions t ⊎ IsType t

-- ---- new nodes

cast_made : (s : Span) (t : Syntax) → OfExpressions t → OfExpressions (cast_at types.Long s t)
cast_made s t h = (refl, (inr (typed_is types.Long s), (inl (refl, (inl h, tt)), tt)))

scaled_made : (v : Vector) (i : Syntax) → OfExpressions i → OfExpressions (scaled v i)
scaled_made v i h = (refl, (inl (cast_made (span_of i) i h), (inl (refl, tt), tt)))

further_made : (c : ℕ) (i : Syntax) → OfExpressions i → OfExpressions (further c i)
further_made c i h = (refl, (inl h, (inl (refl, tt), tt)))

moved_made : (o : Option Setting) (v : Vector) (b : Syntax) → OfExpressions b → OfExpressions (moved_by o v b)
moved_made (Some (settings.With op)) v b h = scaled_made v b h
moved_made (Some settings.Plain) v b h = h
moved_made None v b h = h

counted_made : (op : Bin) (v : Vector) (s : Span) (p : Syntax) → OfExpressions p → OfExpressions (counted op v s p)
counted_made op v s p h = (refl, (inl (refl, (inl h, (inl (refl, tt), tt))), tt))

behind_made : (op : Bin) (v : Vector) (s : Span) (p : Syntax) → OfExpressions p → OfExpressions (counted_behind op v s
    p)
behind_made bins.Add v s p h =
    (refl, (inl (refl, (inl (counted_made bins.Add v s p h), (inl (refl, tt), tt))), tt))
behind_made op v s p h = (refl, (inl (refl, (inl (counted_made op v s p h), (inl (refl, tt), tt))), tt))

prefixed_made : (o : Option Prefix) (j : Kind) (w : List ℕ) (f l : ℕ) (ps : Forest) (p : Syntax) →
    (o ≡ Some prefixes.Size → IsType p) → ((o ≡ Some prefixes.Size → ⊥) → OfExpressions p) →
    OfExpressions (prefixed o j (node forms.UnaryNode w f l ps) p)
prefixed_made (Some prefixes.Content) (Pointer s c v) w f l ps p h k =
    (refl, (inl (refl, (inl (k (λ e. absurd cc)), tt)), (inl (refl, tt), tt)))
prefixed_made (Some prefixes.Content) j w f l ps p h k = (refl, (inl (k (λ e. absurd cc)), tt))
prefixed_made (Some (prefixes.Step op)) (Pointer s c v) w f l ps p h k =
    counted_made op v (record { first = f; last = l }) p (k (λ e. absurd cc))
prefixed_made (Some (prefixes.Step op)) j w f l ps p h k = (refl, (inl (k (λ e. absurd cc)), tt))
prefixed_made (Some prefixes.Size) j w f l ps p h k = (refl, (inr (h refl), tt))
prefixed_made (Some prefixes.Address) j w f l ps p h k = (refl, (inl (k (λ e. absurd cc)), tt))
prefixed_made (Some (prefixes.Operator op)) j w f l ps p h k = (refl, (inl (k (λ e. absurd cc)), tt))
prefixed_made None j w f l ps p h k = (refl, (inl (k (λ e. absurd cc)), tt))

postfixed_made : (o : Option Postfix) (j : Kind) (w : List ℕ) (f l : ℕ) (ps : Forest) (p : Syntax) → OfExpressions p →
    OfExpressions (postfixed o j (node forms.PostfixNode w f l ps) p)
postfixed_made (Some (postfixes.Step op)) (Pointer s c v) w f l ps p h =
    behind_made op v (record { first = f; last = l }) p h
postfixed_made o j w f l ps p h = (refl, (inl h, tt))

two_made : (form : Form) → is_expression form ≡ true → (j k : Kind) (w : List ℕ) (f l : ℕ) (ps : Forest) (a b : Syntax)
    →
    OfExpressions a → OfExpressions b → OfExpressions (two_by form j k (node form w f l ps) a b)
two_made forms.PostfixNode e (Pointer s c v) k w f l ps a b h i = (refl, (inl h, (inl (scaled_made v b i), tt)))
two_made forms.AssignNode e (Pointer s c v) (Other y) w f l ps a b h i =
    (refl, (inl h, (inl (moved_made (setting_in w) v b i), tt)))
two_made forms.SumNode e (Pointer s c v) (Other y) w f l ps a b h i = (refl, (inl h, (inl (scaled_made v b i), tt)))
two_made forms.SumNode e (Other y) (Pointer s c v) w f l ps a b h i = (refl, (inl (scaled_made v a h), (inl i, tt)))
two_made form e j k w f l ps a b h i = (e, (inl h, (inl i, tt)))

chosen_made : (o : Option ℕ) (g : ℕ → Syntax) (t : Syntax) → ((c : ℕ) → OfExpressions (g c)) → OfExpressions t →
    OfExpressions (chosen_or o g t)
chosen_made None g t h i = i
chosen_made (Some c) g t h i = h c

either_made : (b : Bool) (x y : Syntax) → OfExpressions x → OfExpressions y → OfExpressions (if b then x else y)
either_made true x y h k = h
either_made false x y h k = k

element_made : (form : Form) → is_expression form ≡ true → (j : Kind) (c : ℕ) (s : Span) (w : List ℕ) (f l : ℕ)
    (ps : Forest) (a b : Syntax) → OfExpressions a → OfExpressions b →
    OfExpressions (element_component form j c s (node form w f l ps) a b)
element_made forms.PostfixNode e (Pointer sp d v) c s w f l ps a b h i =
    (refl, (inl h, (inl (further_made c (scaled v b) (scaled_made v b i)), tt)))
element_made form e j c s w f l ps a b h i = (e, (inl h, (inl i, tt)))

content_made : (form : Form) → is_expression form ≡ true → (o : Option Prefix) (j : Kind) (c : ℕ) (s : Span)
    (w : List ℕ) (f l : ℕ) (ps : Forest) (p : Syntax) → Operand p →
    (form ≡ forms.UnaryNode → o ≡ Some prefixes.Content → OfExpressions p) →
    OfExpressions (content_component form o j c s (node form w f l ps) p)
content_made forms.UnaryNode e (Some prefixes.Content) (Pointer sp d v) c s w f l ps p h k =
    (refl, (inl (refl, (inl (k refl refl), tt)), (inl (refl, (inl (refl, tt), (inl (refl, tt), tt))), tt)))
content_made form e o j c s w f l ps p h k = (e, (h, tt))

-- ---- expressions

pub type_made : (names : Names) (t : Syntax) → IsType t → IsType (scalar (marked names t))
type_made names t h = subst IsType (sym (type_same names t h)) (type_plain t h)

abbrev is_size : Option Prefix → Bool
is_size (Some prefixes.Size) = true
is_size o = false

operand_made : (o : Option Prefix) (names : Names) (a : Syntax) → PrefixOf o a (IsExpressionOf true a) →
    (IsExpressionOf true a → OfExpressions (scalar (marked names a))) →
    (o ≡ Some prefixes.Size → IsType (scalar (marked names a))) ×
    ((o ≡ Some prefixes.Size → ⊥) → OfExpressions (scalar (marked names a))) × Operand (scalar (marked names a))
operand_made None names a h g = absurd h
operand_made (Some prefixes.Size) names a h g =
    ((λ e. type_made names a h), (λ e. absurd (e refl)), inr (type_made names a h))
operand_made (Some (prefixes.Step op)) names a h g = ((λ e. absurd cc), (λ e. g h), inl (g h))
operand_made (Some (prefixes.Operator op)) names a h g = ((λ e. absurd cc), (λ e. g h), inl (g h))
operand_made (Some prefixes.Address) names a h g = ((λ e. absurd cc), (λ e. g h), inl (g h))
operand_made (Some prefixes.Content) names a h g = ((λ e. absurd cc), (λ e. g h), inl (g h))

content_no_size : (o : Option Prefix) → o ≡ Some prefixes.Content → o ≡ Some prefixes.Size → ⊥
content_no_size o e h = false≢true (sym (ap is_size e) ∙ ap is_size h)

-- a node of more than two parts, or of none
many_made : (form : Form) → is_expression form ≡ true → (w : List ℕ) (f l : ℕ) (ps : Forest) →
    AreOperands ps → OfExpressions (node form w f l ps)
many_made form e w f l ps h = (e, h)

mutual
  unfolding marked marked_parts scalar scalars component_at

  pub scalar_made : (names : Names) (t : Syntax) → IsExpressionOf true t → OfExpressions (scalar (marked names t))
  scalar_made names (node forms.NumberNode w f l none) h = (refl, tt)
  scalar_made names (node forms.TruthNode w f l none) h = (refl, tt)
  scalar_made names (node forms.VariableNode w f l none) h = (refl, tt)
  scalar_made names (node forms.ParenNode w f l (more a none)) h = (refl, (inl (scalar_made names a h), tt))
  scalar_made names (node forms.CondNode w f l (more c (more a (more b none)))) h = (
    refl,
    (
      inl (scalar_made names c h.0),
      (
        inl (scalar_made (kinds.behind names c) a h.1),
        (inl (scalar_made (kinds.behind (kinds.behind names c) a) b h.2), tt),
      ),
    ),
  )
  scalar_made names (node forms.CastNode w f l (more t (more a none))) h =
      (refl, (inr (type_made names t h.0), (inl (scalar_made (kinds.behind names t) a h.1), tt)))
  scalar_made names (node forms.UnaryNode w f l (more a none)) h =
      let g = operand_made (prefix_in w) names a h (λ i. scalar_made names a i) in
      prefixed_made (prefix_in w) (kind_at (marked names a)) w f l (more a none) (scalar (marked names a)) g.0 g.1
  scalar_made names (node forms.PostfixNode w f l (more a none)) h =
      let i = postfix_part w (IsExpressionOf true a) h in
      let x = scalar_made names a i in
      let t = node forms.PostfixNode w f l (more a none) in
      chosen_made (one_component (marked names t)) (λ c. component_at c (record { first = f; last = l }) (marked names
      a))
      (if is_pointed w then scalar (marked names a) else postfixed (postfix_in w) (kind_at (marked names a)) t
      (scalar (marked names a))) (λ c. component_made c (record { first = f; last = l }) names a i)
      (either_made (is_pointed w) (scalar (marked names a)) (postfixed (postfix_in w) (kind_at (marked names a)) t
      (scalar (marked names a))) x (postfixed_made (postfix_in w) (kind_at (marked names a)) w f l (more a none)
      (scalar (marked names a)) x))
  scalar_made names (node forms.ExprNode w f l (more a (more b none))) h =
      two_made forms.ExprNode refl (kind_at (marked names a)) (kind_at (marked (kinds.behind names a) b)) w f l
      (more a (more b none)) (scalar (marked names a)) (scalar (marked (kinds.behind names a) b))
      (scalar_made names a h.0) (scalar_made (kinds.behind names a) b h.1)
  scalar_made names (node forms.OrNode w f l (more a (more b none))) h =
      two_made forms.OrNode refl (kind_at (marked names a)) (kind_at (marked (kinds.behind names a) b)) w f l
      (more a (more b none)) (scalar (marked names a)) (scalar (marked (kinds.behind names a) b))
      (scalar_made names a h.0) (scalar_made (kinds.behind names a) b h.1)
  scalar_made names (node forms.AndNode w f l (more a (more b none))) h =
      two_made forms.AndNode refl (kind_at (marked names a)) (kind_at (marked (kinds.behind names a) b)) w f l
      (more a (more b none)) (scalar (marked names a)) (scalar (marked (kinds.behind names a) b))
      (scalar_made names a h.0) (scalar_made (kinds.behind names a) b h.1)
  scalar_made names (node forms.AssignNode w f l (more a (more b none))) h =
      two_made forms.AssignNode refl (kind_at (marked names a)) (kind_at (marked (kinds.behind names a) b)) w f l
      (more a (more b none)) (scalar (marked names a)) (scalar (marked (kinds.behind names a) b))
      (scalar_made names a h.1) (scalar_made (kinds.behind names a) b h.2)
  scalar_made names (node forms.BorNode w f l (more a (more b none))) h =
      two_made forms.BorNode refl (kind_at (marked names a)) (kind_at (marked (kinds.behind names a) b)) w f l
      (more a (more b none)) (scalar (marked names a)) (scalar (marked (kinds.behind names a) b))
      (scalar_made names a h.1) (scalar_made (kinds.behind names a) b h.2)
  scalar_made names (node forms.BxorNode w f l (more a (more b none))) h =
      two_made forms.BxorNode refl (kind_at (marked names a)) (kind_at (marked (kinds.behind names a) b)) w f l
      (more a (more b none)) (scalar (marked names a)) (scalar (marked (kinds.behind names a) b))
      (scalar_made names a h.1) (scalar_made (kinds.behind names a) b h.2)
  scalar_made names (node forms.BandNode w f l (more a (more b none))) h =
      two_made forms.BandNode refl (kind_at (marked names a)) (kind_at (marked (kinds.behind names a) b)) w f l
      (more a (more b none)) (scalar (marked names a)) (scalar (marked (kinds.behind names a) b))
      (scalar_made names a h.1) (scalar_made (kinds.behind names a) b h.2)
  scalar_made names (node forms.EqualNode w f l (more a (more b none))) h =
      two_made forms.EqualNode refl (kind_at (marked names a)) (kind_at (marked (kinds.behind names a) b)) w f l
      (more a (more b none)) (scalar (marked names a)) (scalar (marked (kinds.behind names a) b))
      (scalar_made names a h.1) (scalar_made (kinds.behind names a) b h.2)
  scalar_made names (node forms.OrderNode w f l (more a (more b none))) h =
      two_made forms.OrderNode refl (kind_at (marked names a)) (kind_at (marked (kinds.behind names a) b)) w f l
      (more a (more b none)) (scalar (marked names a)) (scalar (marked (kinds.behind names a) b))
      (scalar_made names a h.1) (scalar_made (kinds.behind names a) b h.2)
  scalar_made names (node forms.ShiftNode w f l (more a (more b none))) h =
      two_made forms.ShiftNode refl (kind_at (marked names a)) (kind_at (marked (kinds.behind names a) b)) w f l
      (more a (more b none)) (scalar (marked names a)) (scalar (marked (kinds.behind names a) b))
      (scalar_made names a h.1) (scalar_made (kinds.behind names a) b h.2)
  scalar_made names (node forms.SumNode w f l (more a (more b none))) h =
      two_made forms.SumNode refl (kind_at (marked names a)) (kind_at (marked (kinds.behind names a) b)) w f l
      (more a (more b none)) (scalar (marked names a)) (scalar (marked (kinds.behind names a) b))
      (scalar_made names a h.1) (scalar_made (kinds.behind names a) b h.2)
  scalar_made names (node forms.TermNode w f l (more a (more b none))) h =
      two_made forms.TermNode refl (kind_at (marked names a)) (kind_at (marked (kinds.behind names a) b)) w f l
      (more a (more b none)) (scalar (marked names a)) (scalar (marked (kinds.behind names a) b))
      (scalar_made names a h.1) (scalar_made (kinds.behind names a) b h.2)
  scalar_made names (node forms.PostfixNode w f l (more a (more b none))) h =
      two_made forms.PostfixNode refl (kind_at (marked names a)) (kind_at (marked (kinds.behind names a) b)) w f l
      (more a (more b none)) (scalar (marked names a)) (scalar (marked (kinds.behind names a) b))
      (scalar_made names a h.1) (scalar_made (kinds.behind names a) b h.2)
  scalar_made names (node forms.CallNode w f l none) h = (refl, tt)
  scalar_made names (node forms.CallNode w f l (more a none)) h =
      (refl, (inl (scalar_made (kinds.within forms.CallNode w names) a h.0), tt))
  scalar_made names (node forms.CallNode w f l (more a (more b none))) h =
      let inner = kinds.within forms.CallNode w names in
      (refl, (inl (scalar_made inner a h.0), (inl (scalar_made (kinds.behind inner a) b h.1.0), tt)))
  scalar_made names (node forms.CallNode w f l (more a (more b (more c ps)))) h = (
    refl,
    scalars_made (kinds.within forms.CallNode w names) forms.CallNode refl (more a (more b (more c ps))) true
        (more a (more b (more c ps))) h,
  )
  scalar_made names t h = absurd h

  pub scalars_made : (names : Names) (form : Form) → is_expression form ≡ true → (all : Forest) (front : Bool)
      (ps : Forest) → AreExpressionsOf true ps → AreOperands (scalars (marked_parts form all names front ps))
  scalars_made names form e all front none h = tt
  scalars_made names form e all front (more p ps) h =
      (inl (scalar_made names p h.0), scalars_made (kinds.later form all names front p) form e all false ps h.1)

  pub component_made : (c : ℕ) (s : Span) (names : Names) (t : Syntax) → IsExpressionOf true t →
      OfExpressions (component_at c s (marked names t))
  component_made c s names (node forms.NumberNode w f l none) h = (refl, tt)
  component_made c s names (node forms.TruthNode w f l none) h = (refl, tt)
  component_made c s names (node forms.VariableNode w f l none) h = (refl, tt)
  component_made c s names (node forms.ParenNode w f l (more a none)) h = component_made c s names a h
  component_made c s names (node forms.CondNode w f l (more x (more a (more b none)))) h = (
    refl,
    (
      inl (scalar_made names x h.0),
      (
        inl (scalar_made (kinds.behind names x) a h.1),
        (inl (scalar_made (kinds.behind (kinds.behind names x) a) b h.2), tt),
      ),
    ),
  )
  component_made c s names (node forms.CastNode w f l (more t (more a none))) h =
      (refl, (inr (type_made names t h.0), (inl (scalar_made (kinds.behind names t) a h.1), tt)))
  component_made c s names (node forms.UnaryNode w f l (more a none)) h =
      let g = operand_made (prefix_in w) names a h (λ i. scalar_made names a i) in
      content_made forms.UnaryNode refl (prefix_in w) (kind_at (marked names a)) c s w f l (more a none)
      (scalar (marked names a)) g.2 (λ e i. g.1 (content_no_size (prefix_in w) i))
  component_made c s names (node forms.PostfixNode w f l (more a none)) h =
      let i = postfix_part w (IsExpressionOf true a) h in
      either_made (is_through (node forms.PostfixNode w f l (more a none))) (component_at c s (marked names a))
      (content_component forms.PostfixNode (prefix_in w) (kind_at (marked names a)) c s
      (node forms.PostfixNode w f l (more a none)) (scalar (marked names a))) (component_made c s names a i)
      (content_made forms.PostfixNode refl (prefix_in w) (kind_at (marked names a)) c s w f l (more a none)
      (scalar (marked names a)) (inl (scalar_made names a i)) (λ e j. scalar_made names a i))
  component_made c s names (node forms.ExprNode w f l (more a (more b none))) h =
      element_made forms.ExprNode refl (kind_at (marked names a)) c s w f l (more a (more b none))
      (scalar (marked names a)) (scalar (marked (kinds.behind names a) b)) (scalar_made names a h.0)
      (scalar_made (kinds.behind names a) b h.1)
  component_made c s names (node forms.OrNode w f l (more a (more b none))) h =
      element_made forms.OrNode refl (kind_at (marked names a)) c s w f l (more a (more b none))
      (scalar (marked names a)) (scalar (marked (kinds.behind names a) b)) (scalar_made names a h.0)
      (scalar_made (kinds.behind names a) b h.1)
  component_made c s names (node forms.AndNode w f l (more a (more b none))) h =
      element_made forms.AndNode refl (kind_at (marked names a)) c s w f l (more a (more b none))
      (scalar (marked names a)) (scalar (marked (kinds.behind names a) b)) (scalar_made names a h.0)
      (scalar_made (kinds.behind names a) b h.1)
  component_made c s names (node forms.AssignNode w f l (more a (more b none))) h =
      element_made forms.AssignNode refl (kind_at (marked names a)) c s w f l (more a (more b none))
      (scalar (marked names a)) (scalar (marked (kinds.behind names a) b)) (scalar_made names a h.1)
      (scalar_made (kinds.behind names a) b h.2)
  component_made c s names (node forms.BorNode w f l (more a (more b none))) h =
      element_made forms.BorNode refl (kind_at (marked names a)) c s w f l (more a (more b none))
      (scalar (marked names a)) (scalar (marked (kinds.behind names a) b)) (scalar_made names a h.1)
      (scalar_made (kinds.behind names a) b h.2)
  component_made c s names (node forms.BxorNode w f l (more a (more b none))) h =
      element_made forms.BxorNode refl (kind_at (marked names a)) c s w f l (more a (more b none))
      (scalar (marked names a)) (scalar (marked (kinds.behind names a) b)) (scalar_made names a h.1)
      (scalar_made (kinds.behind names a) b h.2)
  component_made c s names (node forms.BandNode w f l (more a (more b none))) h =
      element_made forms.BandNode refl (kind_at (marked names a)) c s w f l (more a (more b none))
      (scalar (marked names a)) (scalar (marked (kinds.behind names a) b)) (scalar_made names a h.1)
      (scalar_made (kinds.behind names a) b h.2)
  component_made c s names (node forms.EqualNode w f l (more a (more b none))) h =
      element_made forms.EqualNode refl (kind_at (marked names a)) c s w f l (more a (more b none))
      (scalar (marked names a)) (scalar (marked (kinds.behind names a) b)) (scalar_made names a h.1)
      (scalar_made (kinds.behind names a) b h.2)
  component_made c s names (node forms.OrderNode w f l (more a (more b none))) h =
      element_made forms.OrderNode refl (kind_at (marked names a)) c s w f l (more a (more b none))
      (scalar (marked names a)) (scalar (marked (kinds.behind names a) b)) (scalar_made names a h.1)
      (scalar_made (kinds.behind names a) b h.2)
  component_made c s names (node forms.ShiftNode w f l (more a (more b none))) h =
      element_made forms.ShiftNode refl (kind_at (marked names a)) c s w f l (more a (more b none))
      (scalar (marked names a)) (scalar (marked (kinds.behind names a) b)) (scalar_made names a h.1)
      (scalar_made (kinds.behind names a) b h.2)
  component_made c s names (node forms.SumNode w f l (more a (more b none))) h =
      element_made forms.SumNode refl (kind_at (marked names a)) c s w f l (more a (more b none))
      (scalar (marked names a)) (scalar (marked (kinds.behind names a) b)) (scalar_made names a h.1)
      (scalar_made (kinds.behind names a) b h.2)
  component_made c s names (node forms.TermNode w f l (more a (more b none))) h =
      element_made forms.TermNode refl (kind_at (marked names a)) c s w f l (more a (more b none))
      (scalar (marked names a)) (scalar (marked (kinds.behind names a) b)) (scalar_made names a h.1)
      (scalar_made (kinds.behind names a) b h.2)
  component_made c s names (node forms.PostfixNode w f l (more a (more b none))) h =
      element_made forms.PostfixNode refl (kind_at (marked names a)) c s w f l (more a (more b none))
      (scalar (marked names a)) (scalar (marked (kinds.behind names a) b)) (scalar_made names a h.1)
      (scalar_made (kinds.behind names a) b h.2)
  component_made c s names (node forms.CallNode w f l none) h = (refl, tt)
  component_made c s names (node forms.CallNode w f l (more a none)) h =
      (refl, (inl (scalar_made (kinds.within forms.CallNode w names) a h.0), tt))
  component_made c s names (node forms.CallNode w f l (more a (more b none))) h =
      let inner = kinds.within forms.CallNode w names in
      (refl, (inl (scalar_made inner a h.0), (inl (scalar_made (kinds.behind inner a) b h.1.0), tt)))
  component_made c s names (node forms.CallNode w f l (more a (more b (more d ps)))) h = (
    refl,
    scalars_made (kinds.within forms.CallNode w names) forms.CallNode refl (more a (more b (more d ps))) true
        (more a (more b (more d ps))) h,
  )
  component_made c s names t h = absurd h

-- so it leaves what is visible
pub scalar_leaves : (names : Names) (env : Env) (t : Syntax) → IsExpressionOf true t →
    behind env (scalar (marked names t)) ≡ env
scalar_leaves names env t h = neutral env (scalar (marked names t)) (scalar_made names t h)
