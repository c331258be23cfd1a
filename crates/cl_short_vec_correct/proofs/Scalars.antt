-- What stands for an expression of the wide shape is one of the narrow shape, and what stands for a type is one.
use Rattle.std.proofs.Common.{◌≡◌, ℕ, ◌≤◌, List, [], ◌∷◌, Option, Some, None, Bool, true, false, if◌then◌else◌}
use Rattle.std.proofs.Common.{refl, sym, ◌∙◌, inl, inr, arith}
use Rattle.std.proofs.lemmas.Bool.{false≢true}
use Rattle.std.specs.Prelude.{take, drop, codes}
use Rattle.wg_num.specs.declared.types.Bin.{Bin}
use Rattle.cl_tree.specs.declared.tree.Form.{Form}
use Rattle.cl_tree.specs.declared.tree.Form.TheVariants as forms
use Rattle.cl_tree.specs.Syntax.{Syntax, node, Forest, none, more}
use Rattle.cl_tree.specs.Nodes.{forest2}
use Rattle.cl_meaning.specs.declared.operators.Prefix.{Prefix}
use Rattle.cl_meaning.specs.declared.operators.Prefix.TheVariants as prefixes
use Rattle.cl_meaning.specs.declared.operators.Postfix.{Postfix}
use Rattle.cl_meaning.specs.declared.operators.Postfix.TheVariants as postfixes
use Rattle.cl_meaning.specs.declared.operators.Setting.{Setting}
use Rattle.cl_meaning.specs.declared.operators.Setting.TheVariants as settings
use Rattle.cl_meaning.specs.OwnWords.{is_text}
use Rattle.cl_meaning.specs.Types.{base_in, is_const}
use Rattle.cl_meaning.specs.Operators.{binary_in, setting_in, prefix_in, postfix_in}
use Rattle.cl_meaning.specs.Kinds.{is_some}
use Rattle.cl_check_sound.specs.Shape.{IsType, PrefixOf, IsStep, PostfixOf, selects, IsExpressionOf, AreExpressionsOf}
use Rattle.cl_check_sound.specs.Shape.{IsExpression, AreExpressions, IsListOf, IsList}
use Rattle.cl_short_vec.specs.declared.nodes.Span.{Span}
use Rattle.cl_short_vec.specs.declared.types.Vector.{Vector}
use Rattle.cl_short_vec.specs.declared.kinds.Kind.{Kind}
use Rattle.cl_short_vec.specs.declared.kinds.Kind.TheVariants.{Pointer, Other}
use Rattle.cl_short_vec.specs.Types.{vector_in, selection_in}
use Rattle.cl_short_vec.specs.Plain.{is_pointed}
use Rattle.cl_short_vec.specs.Kinds.{Names, within, later}
use Rattle.cl_short_vec.specs.Marks.{kind_at, marked, marked_parts}
use Rattle.cl_short_vec.specs.Faults.{components_of}
use Rattle.cl_short_vec.specs.Nodes.{long_at, paren_at, scaled, further}
use Rattle.cl_short_vec.specs.Scalar.{component_words, counted, opposite, counted_behind, prefixed, postfixed, one_by}
use Rattle.cl_short_vec.specs.Scalar.{moved_by, two_by, alone_in, one_selected, element_component}
use Rattle.cl_short_vec.specs.Scalar.{content_component, chosen_or, scalar, scalars, component_at}
use Rattle.cl_short_vec_correct.proofs.Words.{typed_word, long_word, Counts, CountsBefore, CountsBehind, prefix_counts}
use Rattle.cl_short_vec_correct.proofs.Words.{postfix_counts}
use Rattle.cl_short_vec.proofs.Small.{SmallKind, SmallMark, SmallMarks, AllSmall, mark_small, components_small}
use Rattle.cl_short_vec_correct.proofs.Nodes.{joined_is, element_is, scaled_is, further_is}

-- ---- types

words_are : (w : List ℕ) → is_some (base_in w) ≡ true → is_some (base_in (component_words (vector_in w) w)) ≡ true
words_are w h = by (vector_in w)
  where
    by : (o : Option Vector) → is_some (base_in (component_words o w)) ≡ true
    by None = h
    by (Some v) = typed_word (is_const w) v.of

pub type_is : (t : Syntax) (names : Names) → IsType t → IsType (scalar (marked names t))
unfolding scalar marked marked_parts
type_is (node forms.TypeNode w f l none) names h = words_are w h
type_is (node forms.TypeNode w f l (more (node forms.SpaceNode w' f' l' none) none)) names h = words_are w h
type_is t names h = absurd h

-- ---- operands

-- what stands behind a prefix
operand_is : (o : Option Prefix) (a p : Syntax) (d e : Type 0) → PrefixOf o a d → (d → e) → (IsType a → IsType p) →
    PrefixOf o p e
operand_is None a p d e h g i = absurd h
operand_is (Some prefixes.Size) a p d e h g i = i h
operand_is (Some (prefixes.Step op)) a p d e h g i = g h
operand_is (Some (prefixes.Operator op)) a p d e h g i = g h
operand_is (Some prefixes.Address) a p d e h g i = g h
operand_is (Some prefixes.Content) a p d e h g i = g h

counted_is : (op : Bin) (v : Vector) (s : Span) (p : Syntax) → Counts op → v.count ≤ 16 → IsExpression p →
    IsExpression (counted op v s p)
counted_is op v s p c b h = (c, h, long_word v.count b)

-- the content of a pointer to vectors, a pointer counted, and any other operand
prefixed_is : (w : List ℕ) (f l : ℕ) (ps : Forest) (o : Option Prefix) (k : Kind) (p : Syntax) → SmallKind k →
    CountsBefore o → PrefixOf o p (IsExpression p) → PrefixOf (prefix_in w) p (IsExpression p) →
    IsExpression (prefixed o k (node forms.UnaryNode w f l ps) p)
prefixed_is w f l ps (Some prefixes.Content) (Pointer space c v) p b z h i =
    let s : Span = record { first = f; last = l } in
    element_is s (paren_at s p) (long_at 0 s) h (long_word 0 (omega arith))
prefixed_is w f l ps (Some (prefixes.Step op)) (Pointer space c v) p b z h i =
    counted_is op v (record { first = f; last = l }) p z b h
prefixed_is w f l ps o k p b z h i = i

content_is : (w : List ℕ) (f l : ℕ) (ps : Forest) (o : Option Prefix) (k : Kind) (c : ℕ) (s : Span) (p : Syntax) →
    c ≤ 16 → PrefixOf o p (IsExpression p) → PrefixOf (prefix_in w) p (IsExpression p) →
    IsExpression (content_component forms.UnaryNode o k c s (node forms.UnaryNode w f l ps) p)
content_is w f l ps (Some prefixes.Content) (Pointer space d v) c s p b h i =
    let at : Span = record { first = f; last = l } in
    element_is s (paren_at at p) (further c (long_at 0 at)) h
    (further_is c (long_at 0 at) b (long_word 0 (omega arith)))
content_is w f l ps o k c s p b h i = i

behind_is : (op : Bin) (v : Vector) (s : Span) (p : Syntax) → Counts op → v.count ≤ 16 → IsExpression p →
    IsExpression (counted_behind op v s p)
behind_is op v s p c b h = joined_is (opposite op) s (counted op v s p) (long_at v.count s)
    (counted_is op v s p c b h) (long_word v.count b)

postfixed_is : (w : List ℕ) (f l : ℕ) (ps : Forest) (o : Option Postfix) (k : Kind) (p : Syntax) → SmallKind k →
    CountsBehind o → IsStep w (IsExpression p) → IsExpression (postfixed o k (node forms.PostfixNode w f l ps) p)
postfixed_is w f l ps (Some (postfixes.Step op)) (Pointer space c v) p b z h =
    behind_is op v (record { first = f; last = l }) p z b h.2
postfixed_is w f l ps o k p b z h = h

-- ---- selections

selection_tells : (w : List ℕ) → is_some (selection_in w) ≡ selects w
unfolding selection_in
selection_tells w = by (is_text (codes ". ") (take 2 w))
  where
    by : (b : Bool) → is_some (if b then Some (drop 2 w) else None) ≡ b
    by true = refl
    by false = refl

no_point : (w : List ℕ) → is_pointed w ≡ false → selects w ≡ false
no_point [] h = refl
no_point (b ∷ []) h = rw h refl
no_point (b ∷ (c ∷ bs)) h = rw h refl

-- a step or a selection, where there is no selection
step_alone : (w : List ℕ) (d e : Type 0) → PostfixOf true w d → (d → e) → is_some (selection_in w) ≡ false → IsStep w e
step_alone w d e (inl h) g n = (h.0, h.1, g h.2)
step_alone w d e (inr h) g n = absurd (false≢true (sym n ∙ (selection_tells w ∙ h.0)))

pub postfix_part : (w : List ℕ) (d : Type 0) → PostfixOf true w d → d
postfix_part w d (inl h) = h.2
postfix_part w d (inr h) = h.1

abbrev SmallOne : Option ℕ → Type 0
SmallOne None = Unit {0}
SmallOne (Some c) = c ≤ 16

alone_small : (cs : List ℕ) → AllSmall cs → SmallOne (alone_in cs)
alone_small [] h = tt
alone_small (c ∷ []) h = h.0
alone_small (c ∷ (d ∷ ds)) h = tt

one_small : (name : Option (List ℕ)) (cs : List ℕ) → AllSmall cs →
    SmallOne (one_selected forms.PostfixNode name cs)
one_small None cs h = tt
one_small (Some name) cs h = alone_small cs h

chosen_is : (o : Option ℕ) (g : ℕ → Syntax) (t : Syntax) → SmallOne o → ((c : ℕ) → c ≤ 16 → IsExpression (g c)) →
    IsExpression t → IsExpression (chosen_or o g t)
chosen_is None g t b h k = k
chosen_is (Some c) g t b h k = h c b

-- a node behind one operand
one_postfix : (w : List ℕ) (f l : ℕ) (ps : Forest) (k : Kind) (p : Syntax) → SmallKind k → IsExpression p →
    (is_some (selection_in w) ≡ false → IsStep w (IsExpression p)) →
    IsExpression (one_by forms.PostfixNode k (node forms.PostfixNode w f l ps) p)
one_postfix w f l ps k p b h i = by (is_pointed w) refl
  where
    by : (z : Bool) → is_pointed w ≡ z →
        IsExpression (if z then p else postfixed (postfix_in w) k (node forms.PostfixNode w f l ps) p)
    by true e = h
    by false e = postfixed_is w f l ps (postfix_in w) k p b (postfix_counts w) (i (selection_tells w ∙ no_point w e))

-- a place behind one operand
through : (w : List ℕ) (f l : ℕ) (ps : Forest) (k : Kind) (c : ℕ) (s : Span) (p q : Syntax) → IsExpression q →
    (is_some (selection_in w) ≡ false → IsStep w (IsExpression p)) →
    IsExpression (if is_some (selection_in w) then q else
    content_component forms.PostfixNode (prefix_in w) k c s (node forms.PostfixNode w f l ps) p)
through w f l ps k c s p q h i = by (is_some (selection_in w)) refl
  where
    by : (z : Bool) → is_some (selection_in w) ≡ z → IsExpression (if z then q else
        content_component forms.PostfixNode (prefix_in w) k c s (node forms.PostfixNode w f l ps) p)
    by true e = h
    by false e = (i e).2

-- ---- two parts

moved_is : (o : Option Setting) (v : Vector) (b : Syntax) → v.count ≤ 16 → IsExpression b →
    IsExpression (moved_by o v b)
moved_is (Some (settings.With op)) v b c h = scaled_is v b c h
moved_is (Some settings.Plain) v b c h = h
moved_is None v b c h = h

two_assign : (w : List ℕ) (f l : ℕ) (ps : Forest) (j k : Kind) (a b : Syntax) → SmallKind j →
    is_some (setting_in w) ≡ true → IsExpression a → IsExpression b →
    IsExpression (two_by forms.AssignNode j k (node forms.AssignNode w f l ps) a b)
two_assign w f l ps (Pointer space c v) (Other y) a b n h i k = (h, i, moved_is (setting_in w) v b n k)
two_assign w f l ps j k a b n h i m = (h, i, m)

two_sum : (w : List ℕ) (f l : ℕ) (ps : Forest) (j k : Kind) (a b : Syntax) → SmallKind j → SmallKind k →
    is_some (binary_in w) ≡ true → IsExpression a → IsExpression b →
    IsExpression (two_by forms.SumNode j k (node forms.SumNode w f l ps) a b)
two_sum w f l ps (Pointer space c v) (Other y) a b n m h i k = (h, i, scaled_is v b n k)
two_sum w f l ps (Other y) (Pointer space c v) a b n m h i k = (h, scaled_is v a m i, k)
two_sum w f l ps j k a b n m h i o = (h, i, o)

two_postfix : (w : List ℕ) (f l : ℕ) (ps : Forest) (j k : Kind) (a b : Syntax) → SmallKind j →
    IsExpression (node forms.PostfixNode w f l (forest2 a b)) → IsExpression a → IsExpression b →
    IsExpression (two_by forms.PostfixNode j k (node forms.PostfixNode w f l ps) a b)
two_postfix w f l ps (Pointer space c v) k a b n h i m =
    element_is (record { first = f; last = l }) a (scaled v b) i (scaled_is v b n m)
two_postfix w f l ps j k a b n h i m = h

element_part : (w : List ℕ) (f l : ℕ) (ps : Forest) (j : Kind) (c : ℕ) (s : Span) (a b : Syntax) → SmallKind j →
    c ≤ 16 → IsExpression (node forms.PostfixNode w f l (forest2 a b)) → IsExpression a → IsExpression b →
    IsExpression (element_component forms.PostfixNode j c s (node forms.PostfixNode w f l ps) a b)
element_part w f l ps (Pointer space d v) c s a b n m h i k =
    element_is s a (further c (scaled v b)) i (further_is c (scaled v b) m (scaled_is v b n k))
element_part w f l ps j c s a b n m h i k = h

-- ---- expressions

mutual
  unfolding scalar scalars component_at marked marked_parts

  pub expression_is : (t : Syntax) (names : Names) → SmallMark (marked names t) → IsExpressionOf true t →
      IsExpression (scalar (marked names t))
  expression_is (node forms.NumberNode w f l none) names s h = h
  expression_is (node forms.TruthNode w f l none) names s h = h
  expression_is (node forms.VariableNode w f l none) names s h = tt
  expression_is (node forms.ParenNode w f l (more a none)) names s h = expression_is a names s.1.0 h
  expression_is (node forms.ExprNode w f l (more a (more b none))) names s h = (
    expression_is a names s.1.0 h.0,
    expression_is b (later forms.ExprNode (more a (more b none)) names true a) s.1.1.0 h.1,
  )
  expression_is (node forms.AssignNode w f l (more a (more b none))) names s h =
      let n = later forms.AssignNode (more a (more b none)) names true a in
      two_assign w f l (more a (more b none)) (kind_at (marked names a)) (kind_at (marked n b))
      (scalar (marked names a)) (scalar (marked n b)) (mark_small (marked names a) s.1.0) h.0
      (expression_is a names s.1.0 h.1) (expression_is b n s.1.1.0 h.2)
  expression_is (node forms.CondNode w f l (more c (more a (more b none)))) names s h =
      let ps = more c (more a (more b none)) in
      let n = later forms.CondNode ps names true c in
      let m = later forms.CondNode ps n false a in
      (expression_is c names s.1.0 h.0, expression_is a n s.1.1.0 h.1, expression_is b m s.1.1.1.0 h.2)
  expression_is (node forms.OrNode w f l (more a (more b none))) names s h = (
    expression_is a names s.1.0 h.0,
    expression_is b (later forms.OrNode (more a (more b none)) names true a) s.1.1.0 h.1,
  )
  expression_is (node forms.AndNode w f l (more a (more b none))) names s h = (
    expression_is a names s.1.0 h.0,
    expression_is b (later forms.AndNode (more a (more b none)) names true a) s.1.1.0 h.1,
  )
  expression_is (node forms.BorNode w f l (more a (more b none))) names s h = (
    h.0,
    expression_is a names s.1.0 h.1,
    expression_is b (later forms.BorNode (more a (more b none)) names true a) s.1.1.0 h.2,
  )
  expression_is (node forms.BxorNode w f l (more a (more b none))) names s h = (
    h.0,
    expression_is a names s.1.0 h.1,
    expression_is b (later forms.BxorNode (more a (more b none)) names true a) s.1.1.0 h.2,
  )
  expression_is (node forms.BandNode w f l (more a (more b none))) names s h = (
    h.0,
    expression_is a names s.1.0 h.1,
    expression_is b (later forms.BandNode (more a (more b none)) names true a) s.1.1.0 h.2,
  )
  expression_is (node forms.EqualNode w f l (more a (more b none))) names s h = (
    h.0,
    expression_is a names s.1.0 h.1,
    expression_is b (later forms.EqualNode (more a (more b none)) names true a) s.1.1.0 h.2,
  )
  expression_is (node forms.OrderNode w f l (more a (more b none))) names s h = (
    h.0,
    expression_is a names s.1.0 h.1,
    expression_is b (later forms.OrderNode (more a (more b none)) names true a) s.1.1.0 h.2,
  )
  expression_is (node forms.ShiftNode w f l (more a (more b none))) names s h = (
    h.0,
    expression_is a names s.1.0 h.1,
    expression_is b (later forms.ShiftNode (more a (more b none)) names true a) s.1.1.0 h.2,
  )
  expression_is (node forms.SumNode w f l (more a (more b none))) names s h =
      let n = later forms.SumNode (more a (more b none)) names true a in
      two_sum w f l (more a (more b none)) (kind_at (marked names a)) (kind_at (marked n b))
      (scalar (marked names a)) (scalar (marked n b)) (mark_small (marked names a) s.1.0)
      (mark_small (marked n b) s.1.1.0) h.0 (expression_is a names s.1.0 h.1) (expression_is b n s.1.1.0 h.2)
  expression_is (node forms.TermNode w f l (more a (more b none))) names s h = (
    h.0,
    expression_is a names s.1.0 h.1,
    expression_is b (later forms.TermNode (more a (more b none)) names true a) s.1.1.0 h.2,
  )
  expression_is (node forms.CastNode w f l (more t (more a none))) names s h = (
    type_is t names h.0,
    expression_is a (later forms.CastNode (more t (more a none)) names true t) s.1.1.0 h.1,
  )
  expression_is (node forms.UnaryNode w f l (more a none)) names s h =
      let o : PrefixOf (prefix_in w) (scalar (marked names a)) (IsExpression (scalar (marked names a))) =
      operand_is (prefix_in w) a (scalar (marked names a)) (IsExpressionOf true a)
      (IsExpression (scalar (marked names a))) h (λ k. expression_is a names s.1.0 k) (type_is a names) in
      prefixed_is w f l (more a none) (prefix_in w) (kind_at (marked names a)) (scalar (marked names a))
      (mark_small (marked names a) s.1.0) (prefix_counts w) o o
  expression_is (node forms.PostfixNode w f l (more a none)) names s h =
      let m = marked names (node forms.PostfixNode w f l (more a none)) in
      let sp : Span = record { first = f; last = l } in
      chosen_is (one_selected forms.PostfixNode (selection_in w) (components_of m))
      (λ c. component_at c sp (marked names a))
      (one_by forms.PostfixNode (kind_at (marked names a)) (node forms.PostfixNode w f l (more a none))
      (scalar (marked names a))) (one_small (selection_in w) (components_of m) (components_small m s))
      (λ c b. place_is a names c sp s.1.0 b (postfix_part w (IsExpressionOf true a) h))
      (one_postfix w f l (more a none) (kind_at (marked names a)) (scalar (marked names a))
      (mark_small (marked names a) s.1.0)
      (expression_is a names s.1.0 (postfix_part w (IsExpressionOf true a) h)) (λ e.
      step_alone w (IsExpressionOf true a) (IsExpression (scalar (marked names a))) h
      (λ k. expression_is a names s.1.0 k) e))
  expression_is (node forms.PostfixNode w f l (more a (more b none))) names s h =
      let n = later forms.PostfixNode (more a (more b none)) names true a in
      let ha = expression_is a names s.1.0 h.1 in
      let hb = expression_is b n s.1.1.0 h.2 in
      two_postfix w f l (more a (more b none)) (kind_at (marked names a)) (kind_at (marked n b))
      (scalar (marked names a)) (scalar (marked n b)) (mark_small (marked names a) s.1.0) (h.0, ha, hb) ha hb
  expression_is (node forms.CallNode w f l none) names s h = tt
  expression_is (node forms.CallNode w f l (more a none)) names s h =
      (expression_is a (within forms.CallNode w names) s.1.0 h.0, tt)
  expression_is (node forms.CallNode w f l (more a (more b none))) names s h =
      let inner = within forms.CallNode w names in (
        expression_is a inner s.1.0 h.0,
        (expression_is b (later forms.CallNode (more a (more b none)) inner true a) s.1.1.0 h.1.0, tt),
      )
  expression_is (node forms.CallNode w f l (more a (more b (more c cs)))) names s h =
      expressions_are forms.CallNode (more a (more b (more c cs))) (within forms.CallNode w names) true
      (more a (more b (more c cs))) s.1 h
  expression_is t names s h = absurd h

  pub expressions_are : (form : Form) (all : Forest) (names : Names) (front : Bool) (ps : Forest) →
      SmallMarks (marked_parts form all names front ps) → AreExpressionsOf true ps →
      AreExpressions (scalars (marked_parts form all names front ps))
  expressions_are form all names front none s h = tt
  expressions_are form all names front (more p ps) s h =
      (expression_is p names s.0 h.0, expressions_are form all (later form all names front p) false ps s.1 h.1)

  -- a component of a place, and else an expression
  place_is : (t : Syntax) (names : Names) (c : ℕ) (s : Span) → SmallMark (marked names t) → c ≤ 16 →
      IsExpressionOf true t → IsExpression (component_at c s (marked names t))
  place_is (node forms.NumberNode w f l none) names c s m b h = tt
  place_is (node forms.TruthNode w f l none) names c s m b h = tt
  place_is (node forms.VariableNode w f l none) names c s m b h = tt
  place_is (node forms.ParenNode w f l (more a none)) names c s m b h = place_is a names c s m.1.0 b h
  place_is (node forms.ExprNode w f l (more a (more b none))) names c s m z h = (
    expression_is a names m.1.0 h.0,
    expression_is b (later forms.ExprNode (more a (more b none)) names true a) m.1.1.0 h.1,
  )
  place_is (node forms.OrNode w f l (more a (more b none))) names c s m z h = (
    expression_is a names m.1.0 h.0,
    expression_is b (later forms.OrNode (more a (more b none)) names true a) m.1.1.0 h.1,
  )
  place_is (node forms.AndNode w f l (more a (more b none))) names c s m z h = (
    expression_is a names m.1.0 h.0,
    expression_is b (later forms.AndNode (more a (more b none)) names true a) m.1.1.0 h.1,
  )
  place_is (node forms.AssignNode w f l (more a (more b none))) names c s m z h = (
    h.0,
    expression_is a names m.1.0 h.1,
    expression_is b (later forms.AssignNode (more a (more b none)) names true a) m.1.1.0 h.2,
  )
  place_is (node forms.BorNode w f l (more a (more b none))) names c s m z h = (
    h.0,
    expression_is a names m.1.0 h.1,
    expression_is b (later forms.BorNode (more a (more b none)) names true a) m.1.1.0 h.2,
  )
  place_is (node forms.BxorNode w f l (more a (more b none))) names c s m z h = (
    h.0,
    expression_is a names m.1.0 h.1,
    expression_is b (later forms.BxorNode (more a (more b none)) names true a) m.1.1.0 h.2,
  )
  place_is (node forms.BandNode w f l (more a (more b none))) names c s m z h = (
    h.0,
    expression_is a names m.1.0 h.1,
    expression_is b (later forms.BandNode (more a (more b none)) names true a) m.1.1.0 h.2,
  )
  place_is (node forms.EqualNode w f l (more a (more b none))) names c s m z h = (
    h.0,
    expression_is a names m.1.0 h.1,
    expression_is b (later forms.EqualNode (more a (more b none)) names true a) m.1.1.0 h.2,
  )
  place_is (node forms.OrderNode w f l (more a (more b none))) names c s m z h = (
    h.0,
    expression_is a names m.1.0 h.1,
    expression_is b (later forms.OrderNode (more a (more b none)) names true a) m.1.1.0 h.2,
  )
  place_is (node forms.ShiftNode w f l (more a (more b none))) names c s m z h = (
    h.0,
    expression_is a names m.1.0 h.1,
    expression_is b (later forms.ShiftNode (more a (more b none)) names true a) m.1.1.0 h.2,
  )
  place_is (node forms.SumNode w f l (more a (more b none))) names c s m z h = (
    h.0,
    expression_is a names m.1.0 h.1,
    expression_is b (later forms.SumNode (more a (more b none)) names true a) m.1.1.0 h.2,
  )
  place_is (node forms.TermNode w f l (more a (more b none))) names c s m z h = (
    h.0,
    expression_is a names m.1.0 h.1,
    expression_is b (later forms.TermNode (more a (more b none)) names true a) m.1.1.0 h.2,
  )
  place_is (node forms.CondNode w f l (more d (more a (more b none)))) names c s m z h =
      let ps = more d (more a (more b none)) in
      let n = later forms.CondNode ps names true d in
      let o = later forms.CondNode ps n false a in
      (expression_is d names m.1.0 h.0, expression_is a n m.1.1.0 h.1, expression_is b o m.1.1.1.0 h.2)
  place_is (node forms.CastNode w f l (more t (more a none))) names c s m z h = (
    type_is t names h.0,
    expression_is a (later forms.CastNode (more t (more a none)) names true t) m.1.1.0 h.1,
  )
  place_is (node forms.UnaryNode w f l (more a none)) names c s m z h =
      let o : PrefixOf (prefix_in w) (scalar (marked names a)) (IsExpression (scalar (marked names a))) =
      operand_is (prefix_in w) a (scalar (marked names a)) (IsExpressionOf true a)
      (IsExpression (scalar (marked names a))) h (λ k. expression_is a names m.1.0 k) (type_is a names) in
      content_is w f l (more a none) (prefix_in w) (kind_at (marked names a)) c s (scalar (marked names a)) z o o
  place_is (node forms.PostfixNode w f l (more a none)) names c s m z h =
      through w f l (more a none) (kind_at (marked names a)) c s (scalar (marked names a))
      (component_at c s (marked names a))
      (place_is a names c s m.1.0 z (postfix_part w (IsExpressionOf true a) h)) (λ e.
      step_alone w (IsExpressionOf true a) (IsExpression (scalar (marked names a))) h
      (λ k. expression_is a names m.1.0 k) e)
  place_is (node forms.PostfixNode w f l (more a (more b none))) names c s m z h =
      let n = later forms.PostfixNode (more a (more b none)) names true a in
      let ha = expression_is a names m.1.0 h.1 in
      let hb = expression_is b n m.1.1.0 h.2 in
      element_part w f l (more a (more b none)) (kind_at (marked names a)) c s (scalar (marked names a))
      (scalar (marked n b)) (mark_small (marked names a) m.1.0) z (h.0, ha, hb) ha hb
  place_is (node forms.CallNode w f l none) names c s m z h = tt
  place_is (node forms.CallNode w f l (more a none)) names c s m z h =
      (expression_is a (within forms.CallNode w names) m.1.0 h.0, tt)
  place_is (node forms.CallNode w f l (more a (more b none))) names c s m z h =
      let inner = within forms.CallNode w names in (
        expression_is a inner m.1.0 h.0,
        (expression_is b (later forms.CallNode (more a (more b none)) inner true a) m.1.1.0 h.1.0, tt),
      )
  place_is (node forms.CallNode w f l (more a (more b (more d ds)))) names c s m z h =
      expressions_are forms.CallNode (more a (more b (more d ds))) (within forms.CallNode w names) true
      (more a (more b (more d ds))) m.1 h
  place_is t names c s m z h = absurd h

-- a list of initialisers
pub list_is : (t : Syntax) (names : Names) → SmallMark (marked names t) → IsListOf true t →
    IsList (scalar (marked names t))
unfolding scalar scalars component_at marked marked_parts
list_is (node forms.ListNode w f l none) names s h = tt
list_is (node forms.ListNode w f l (more a none)) names s h = (expression_is a names s.1.0 h.0, tt)
list_is (node forms.ListNode w f l (more a (more b none))) names s h = (
  expression_is a names s.1.0 h.0,
  (expression_is b (later forms.ListNode (more a (more b none)) names true a) s.1.1.0 h.1.0, tt),
)
list_is (node forms.ListNode w f l (more a (more b (more c cs)))) names s h =
    expressions_are forms.ListNode (more a (more b (more c cs))) names true (more a (more b (more c cs))) s.1 h
list_is t names s h = absurd h
