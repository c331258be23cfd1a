-- What stands for a tree without declarations says nothing about vectors, and declares nothing.
use Rattle.std.proofs.Common.{◌≡◌, ℕ, nat_eq, List, [], ◌∷◌, Option, Some, None, Bool, true, false, if◌then◌else◌}
use Rattle.std.proofs.Common.{refl, sym, ap, ◌∙◌, inl, inr, eqb-true}
use Rattle.std.proofs.lemmas.Bool.{false≢true}
use Rattle.std.specs.Prelude.{take, drop, codes}
use Rattle.wg_num.specs.declared.types.Bin.{Bin}
use Rattle.cl_tree.specs.declared.tree.Form.{Form}
use Rattle.cl_tree.specs.declared.tree.Form.TheVariants as forms
use Rattle.cl_tree.specs.Syntax.{Syntax, node, Forest, none, more}
use Rattle.cl_tree.specs.Nodes.{forest1}
use Rattle.cl_meaning.specs.declared.operators.Prefix.{Prefix}
use Rattle.cl_meaning.specs.declared.operators.Prefix.TheVariants as prefixes
use Rattle.cl_meaning.specs.declared.operators.Postfix.{Postfix}
use Rattle.cl_meaning.specs.declared.operators.Postfix.TheVariants as postfixes
use Rattle.cl_meaning.specs.declared.operators.Setting.{Setting}
use Rattle.cl_meaning.specs.declared.operators.Setting.TheVariants as settings
use Rattle.cl_meaning.specs.OwnWords.{is_text}
use Rattle.cl_meaning.specs.Types.{is_const}
use Rattle.cl_meaning.specs.Operators.{setting_in, prefix_in, postfix_in}
use Rattle.cl_meaning.specs.Declarations.{form_of}
use Rattle.cl_meaning.specs.Kinds.{is_some}
use Rattle.cl_check_sound.specs.Shape.{is_expression, PostfixOf, selects}
use Rattle.cl_short_vec.specs.declared.nodes.Span.{Span}
use Rattle.cl_short_vec.specs.declared.types.Vector.{Vector}
use Rattle.cl_short_vec.specs.declared.kinds.Kind.{Kind}
use Rattle.cl_short_vec.specs.declared.kinds.Kind.TheVariants.{Pointer, Other}
use Rattle.cl_short_vec.specs.Types.{vector_in, selection_in}
use Rattle.cl_short_vec.specs.Kinds.{Names, within, later}
use Rattle.cl_short_vec.specs.Plain.{is_pointed}
use Rattle.cl_short_vec.specs.Marks.{kind_at, marked, marked_parts}
use Rattle.cl_short_vec.specs.Faults.{components_of}
use Rattle.cl_short_vec.specs.Order.{is_through}
use Rattle.cl_short_vec.specs.Nodes.{long_at, paren_at, scaled, further, setting_word, assigned_at}
use Rattle.cl_short_vec.specs.Scalar.{component_words, leaf_by, counted, opposite, counted_behind, prefixed, postfixed}
use Rattle.cl_short_vec.specs.Scalar.{one_by, moved_by, two_by, one_selected, element_component, content_component}
use Rattle.cl_short_vec.specs.Scalar.{chosen_or, scalar, scalars, component_at}
use Rattle.cl_short_vec_form.proofs.Neat.{Neat, AreNeat, neat_parts}
use Rattle.cl_short_vec_form.proofs.Calm.{Calm, AreCalm, constant_plain, type_calm, no_selection, index_selects_nothing}
use Rattle.cl_short_vec_form.proofs.Calm.{step_selects_nothing, long_calm, paren_calm, joined_calm, element_calm}
use Rattle.cl_short_vec_form.proofs.Calm.{scaled_calm, further_calm, assigned_calm}

-- ---- own words

-- the words of a type's components name no vector
words_plain : (w : List ℕ) → is_some (vector_in (component_words (vector_in w) w)) ≡ false
words_plain w = by (vector_in w) refl
  where
    by : (o : Option Vector) → vector_in w ≡ o → is_some (vector_in (component_words o w)) ≡ false
    by None e = ap is_some e
    by (Some v) e = constant_plain (is_const w) v.of

-- ---- no part

leaf_calm : (form : Form) (w : List ℕ) (f l : ℕ) → Neat (node form w f l none) →
    Calm (leaf_by form (node form w f l none))
leaf_calm forms.TypeNode w f l h = type_calm (component_words (vector_in w) w) f l none (words_plain w) tt
leaf_calm forms.DeclareNode w f l h = absurd h
leaf_calm forms.PostfixNode w f l h = (no_selection w f l, refl, tt)
leaf_calm form w f l h = (refl, refl, tt)

-- ---- one part

counted_calm : (op : Bin) (v : Vector) (s : Span) (p : Syntax) → Calm p → Calm (counted op v s p)
counted_calm op v s p h = paren_calm s (assigned_at (setting_word op) s p (long_at v.count s))
    (assigned_calm (setting_word op) s p (long_at v.count s) h (long_calm v.count s))

behind_calm : (op : Bin) (v : Vector) (s : Span) (p : Syntax) → Calm p → Calm (counted_behind op v s p)
behind_calm op v s p h = (
  refl,
  refl,
  (
    joined_calm (opposite op) s (counted op v s p) (long_at v.count s)
        (counted_calm op v s p h) (long_calm v.count s),
    tt,
  ),
)

prefixed_calm : (w : List ℕ) (f l : ℕ) (ps : Forest) (o : Option Prefix) (k : Kind) (p : Syntax) → Calm p →
    Calm (prefixed o k (node forms.UnaryNode w f l ps) p)
prefixed_calm w f l ps (Some prefixes.Content) (Pointer space c v) p h =
    let s : Span = record { first = f; last = l } in
    element_calm s (paren_at s p) (long_at 0 s) (paren_calm s p h) (long_calm 0 s)
prefixed_calm w f l ps (Some (prefixes.Step op)) (Pointer space c v) p h =
    counted_calm op v (record { first = f; last = l }) p h
prefixed_calm w f l ps o k p h = (refl, refl, (h, tt))

postfixed_calm : (w : List ℕ) (f l : ℕ) (ps : Forest) (o : Option Postfix) (k : Kind) (p : Syntax) →
    is_pointed w ≡ false → Calm p → Calm (postfixed o k (node forms.PostfixNode w f l ps) p)
postfixed_calm w f l ps (Some (postfixes.Step op)) (Pointer space c v) p e h =
    behind_calm op v (record { first = f; last = l }) p h
postfixed_calm w f l ps o k p e h = (step_selects_nothing w f l p e, refl, (h, tt))

postfix_calm : (w : List ℕ) (f l : ℕ) (ps : Forest) (k : Kind) (p : Syntax) → Calm p →
    Calm (one_by forms.PostfixNode k (node forms.PostfixNode w f l ps) p)
postfix_calm w f l ps k p h = by (is_pointed w) refl
  where
    by : (z : Bool) → is_pointed w ≡ z →
        Calm (if z then p else postfixed (postfix_in w) k (node forms.PostfixNode w f l ps) p)
    by true e = h
    by false e = postfixed_calm w f l ps (postfix_in w) k p e h

chosen_calm : (o : Option ℕ) (g : ℕ → Syntax) (t : Syntax) → ((c : ℕ) → Calm (g c)) → Calm t → Calm (chosen_or o g t)
chosen_calm None g t h k = k
chosen_calm (Some c) g t h k = h c

-- what stands for the part is `p`, and a component of it `g c`
one_calm : (form : Form) (w : List ℕ) (f l : ℕ) (ps : Forest) (a : Syntax) (k : Kind) (cs : List ℕ) (p : Syntax)
    (g : ℕ → Syntax) → Neat (node form w f l (more a none)) → Calm p →
    (is_expression (form_of a) ≡ true → Neat a → (c : ℕ) → Calm (g c)) →
    Calm (chosen_or (one_selected form (selection_in w) cs) g (one_by form k (node form w f l ps) p))
one_calm forms.TypeNode w f l ps a k cs p g h c i =
    type_calm (component_words (vector_in w) w) f l (forest1 p) (words_plain w) (c, tt)
one_calm forms.DeclareNode w f l ps a k cs p g h c i = absurd h
one_calm forms.UnaryNode w f l ps a k cs p g h c i = prefixed_calm w f l ps (prefix_in w) k p c
one_calm forms.PostfixNode w f l ps a k cs p g h c i =
    chosen_calm (one_selected forms.PostfixNode (selection_in w) cs) g
    (one_by forms.PostfixNode k (node forms.PostfixNode w f l ps) p) (i h.1 h.2) (postfix_calm w f l ps k p c)
one_calm form w f l ps a k cs p g h c i = (refl, refl, (c, tt))

content_calm : (w : List ℕ) (f l : ℕ) (ps : Forest) (o : Option Prefix) (k : Kind) (c : ℕ) (s : Span) (p : Syntax) →
    Calm p → Calm (content_component forms.UnaryNode o k c s (node forms.UnaryNode w f l ps) p)
content_calm w f l ps (Some prefixes.Content) (Pointer space d v) c s p h =
    let at : Span = record { first = f; last = l } in
    element_calm s (paren_at at p) (further c (long_at 0 at)) (paren_calm at p h)
    (further_calm c (long_at 0 at) (long_calm 0 at))
content_calm w f l ps o k c s p h = (refl, refl, (h, tt))

-- a place behind a selection, and anything else behind an operand
through_postfix : (w : List ℕ) (f l : ℕ) (ps : Forest) (k : Kind) (c : ℕ) (s : Span) (p q : Syntax) →
    Calm p → Calm q → Calm (if is_some (selection_in w) then q else
    content_component forms.PostfixNode (prefix_in w) k c s (node forms.PostfixNode w f l ps) p)
through_postfix w f l ps k c s p q i j = by (is_some (selection_in w))
  where
    by : (z : Bool) → Calm (if z then q else
        content_component forms.PostfixNode (prefix_in w) k c s (node forms.PostfixNode w f l ps) p)
    by true = j
    by false = (refl, refl, (i, tt))

-- a component of the part is `q`
place_of_one : (form : Form) (w : List ℕ) (f l : ℕ) (ps : Forest) (a : Syntax) (k : Kind) (c : ℕ) (s : Span)
    (p q : Syntax) → is_expression form ≡ true → Neat (node form w f l (more a none)) → Calm p →
    (is_expression (form_of a) ≡ true → Neat a → Calm q) →
    Calm (if is_through (node form w f l ps) then q else
    content_component form (prefix_in w) k c s (node form w f l ps) p)
place_of_one forms.TypeNode w f l ps a k c s p q e h i j = absurd (false≢true e)
place_of_one forms.DeclareNode w f l ps a k c s p q e h i j = absurd (false≢true e)
place_of_one forms.ParenNode w f l ps a k c s p q e h i j = j h.0 h.1
place_of_one forms.UnaryNode w f l ps a k c s p q e h i j = content_calm w f l ps (prefix_in w) k c s p i
place_of_one forms.PostfixNode w f l ps a k c s p q e h i j =
    through_postfix w f l ps k c s p q i (j h.1 h.2)
place_of_one form w f l ps a k c s p q e h i j = (refl, refl, (i, tt))

-- ---- two parts

-- a type has not more parts than one
no_more : (w : List ℕ) (f l : ℕ) (a b : Syntax) (ps : Forest) →
    Neat (node forms.TypeNode w f l (more a (more b ps))) → ⊥
no_more w f l (node forms.SpaceNode w' f' l' none) b ps h = h
no_more w f l (node forms.SpaceNode w' f' l' (more q qs)) b ps h = h
no_more w f l (node form w' f' l' qs) b ps h = h

moved_calm : (o : Option Setting) (v : Vector) (b : Syntax) → Calm b → Calm (moved_by o v b)
moved_calm (Some (settings.With op)) v b h = scaled_calm v b h
moved_calm (Some settings.Plain) v b h = h
moved_calm None v b h = h

two_assign : (w : List ℕ) (f l : ℕ) (ps : Forest) (j k : Kind) (x y : Syntax) → Calm x → Calm y →
    Calm (two_by forms.AssignNode j k (node forms.AssignNode w f l ps) x y)
two_assign w f l ps (Pointer space c v) (Other b) x y h i = (refl, refl, (h, (moved_calm (setting_in w) v y i, tt)))
two_assign w f l ps j k x y h i = (refl, refl, (h, (i, tt)))

two_sum : (w : List ℕ) (f l : ℕ) (ps : Forest) (j k : Kind) (x y : Syntax) → Calm x → Calm y →
    Calm (two_by forms.SumNode j k (node forms.SumNode w f l ps) x y)
two_sum w f l ps (Pointer space c v) (Other b) x y h i = (refl, refl, (h, (scaled_calm v y i, tt)))
two_sum w f l ps (Other b) (Pointer space c v) x y h i = (refl, refl, (scaled_calm v x h, (i, tt)))
two_sum w f l ps j k x y h i = (refl, refl, (h, (i, tt)))

two_postfix : (w : List ℕ) (f l : ℕ) (ps : Forest) (j k : Kind) (x y : Syntax) → Calm x → Calm y →
    Calm (two_by forms.PostfixNode j k (node forms.PostfixNode w f l ps) x y)
two_postfix w f l ps (Pointer space c v) k x y h i =
    element_calm (record { first = f; last = l }) x (scaled v y) h (scaled_calm v y i)
two_postfix w f l ps j k x y h i = (index_selects_nothing w f l x y none, refl, (h, (i, tt)))

two_calm : (form : Form) (w : List ℕ) (f l : ℕ) (a b : Syntax) (j k : Kind) (x y : Syntax) →
    Neat (node form w f l (more a (more b none))) → Calm x → Calm y →
    Calm (two_by form j k (node form w f l (more a (more b none))) x y)
two_calm forms.TypeNode w f l a b j k x y h i m = absurd (no_more w f l a b none h)
two_calm forms.DeclareNode w f l a b j k x y h i m = absurd h
two_calm forms.AssignNode w f l a b j k x y h i m = two_assign w f l (more a (more b none)) j k x y i m
two_calm forms.SumNode w f l a b j k x y h i m = two_sum w f l (more a (more b none)) j k x y i m
two_calm forms.PostfixNode w f l a b j k x y h i m = two_postfix w f l (more a (more b none)) j k x y i m
two_calm form w f l a b j k x y h i m = (refl, refl, (i, (m, tt)))

element_part : (w : List ℕ) (f l : ℕ) (ps : Forest) (j : Kind) (c : ℕ) (s : Span) (x y : Syntax) → Calm x → Calm y →
    Calm (element_component forms.PostfixNode j c s (node forms.PostfixNode w f l ps) x y)
element_part w f l ps (Pointer space d v) c s x y h i =
    element_calm s x (further c (scaled v y)) h (further_calm c (scaled v y) (scaled_calm v y i))
element_part w f l ps j c s x y h i = (index_selects_nothing w f l x y none, refl, (h, (i, tt)))

place_of_two : (form : Form) (w : List ℕ) (f l : ℕ) (ps : Forest) (j : Kind) (c : ℕ) (s : Span) (x y : Syntax) →
    is_expression form ≡ true → Calm x → Calm y → Calm (element_component form j c s (node form w f l ps) x y)
place_of_two forms.TypeNode w f l ps j c s x y e h i = absurd (false≢true e)
place_of_two forms.DeclareNode w f l ps j c s x y e h i = absurd (false≢true e)
place_of_two forms.PostfixNode w f l ps j c s x y e h i = element_part w f l ps j c s x y h i
place_of_two form w f l ps j c s x y e h i = (refl, refl, (h, (i, tt)))

-- ---- more parts

many_calm : (form : Form) (w : List ℕ) (f l : ℕ) (a b : Syntax) (ps : Forest) (x y : Syntax) (zs : Forest) →
    Neat (node form w f l (more a (more b ps))) → AreCalm (more x (more y zs)) →
    Calm (node form w f l (more x (more y zs)))
many_calm forms.TypeNode w f l a b ps x y zs h i = absurd (no_more w f l a b ps h)
many_calm forms.DeclareNode w f l a b ps x y zs h i = absurd h
many_calm forms.PostfixNode w f l a b ps x y zs h i = (index_selects_nothing w f l x y zs, refl, i)
many_calm form w f l a b ps x y zs h i = (refl, refl, i)

-- ---- trees

mutual
  unfolding scalar scalars component_at marked marked_parts

  pub scalar_calm : (t : Syntax) (names : Names) → Neat t → Calm (scalar (marked names t))
  scalar_calm (node form w f l none) names h = leaf_calm form w f l h
  scalar_calm (node form w f l (more a none)) names h =
      let inner = within form w names in
      let ps = more a none in
      let x = neat_parts form w f l ps h in
      let s : Span = record { first = f; last = l } in
      one_calm form w f l ps a (kind_at (marked inner a)) (components_of (marked names (node form w f l ps)))
      (scalar (marked inner a)) (λ c. component_at c s (marked inner a)) h (scalar_calm a inner x.0)
      (λ e n c. place_calm a inner c s e n)
  scalar_calm (node form w f l (more a (more b none))) names h =
      let inner = within form w names in
      let ps = more a (more b none) in
      let n = later form ps inner true a in
      let x = neat_parts form w f l ps h in
      two_calm form w f l a b (kind_at (marked inner a)) (kind_at (marked n b)) (scalar (marked inner a))
      (scalar (marked n b)) h (scalar_calm a inner x.0) (scalar_calm b n x.1.0)
  scalar_calm (node form w f l (more a (more b (more c cs)))) names h =
      let inner = within form w names in
      let ps = more a (more b (more c cs)) in
      let n = later form ps inner true a in
      many_calm form w f l a b (more c cs) (scalar (marked inner a)) (scalar (marked n b))
      (scalars (marked_parts form ps (later form ps n false b) false (more c cs))) h
      (scalars_calm form ps inner true (more a (more b (more c cs))) (neat_parts form w f l ps h))

  pub scalars_calm : (form : Form) (all : Forest) (names : Names) (front : Bool) (ps : Forest) → AreNeat ps →
      AreCalm (scalars (marked_parts form all names front ps))
  scalars_calm form all names front none h = tt
  scalars_calm form all names front (more p ps) h =
      (scalar_calm p names h.0, scalars_calm form all (later form all names front p) false ps h.1)

  -- a component of an expression
  place_calm : (t : Syntax) (names : Names) (c : ℕ) (s : Span) → is_expression (form_of t) ≡ true → Neat t →
      Calm (component_at c s (marked names t))
  place_calm (node form w f l none) names c s e h = (refl, refl, tt)
  place_calm (node form w f l (more a none)) names c s e h =
      let inner = within form w names in
      let ps = more a none in
      place_of_one form w f l ps a (kind_at (marked inner a)) c s (scalar (marked inner a))
      (component_at c s (marked inner a)) e h (scalar_calm a inner (neat_parts form w f l ps h).0)
      (λ d n. place_calm a inner c s d n)
  place_calm (node form w f l (more a (more b none))) names c s e h =
      let inner = within form w names in
      let ps = more a (more b none) in
      let n = later form ps inner true a in
      let x = neat_parts form w f l ps h in
      place_of_two form w f l ps (kind_at (marked inner a)) c s (scalar (marked inner a)) (scalar (marked n b)) e
      (scalar_calm a inner x.0) (scalar_calm b n x.1.0)
  place_calm (node form w f l (more a (more b (more d ds)))) names c s e h =
      let inner = within form w names in
      let ps = more a (more b (more d ds)) in
      let n = later form ps inner true a in
      many_calm form w f l a b (more d ds) (scalar (marked inner a)) (scalar (marked n b))
      (scalars (marked_parts form ps (later form ps n false b) false (more d ds))) h
      (scalars_calm form ps inner true (more a (more b (more d ds))) (neat_parts form w f l ps h))
