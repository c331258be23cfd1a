-- Where what stands for an expression stands: it begins where the expression does, in the plain form and without
-- vectors, and ends no later. A selection gives what stands for its operand, which begins where the selection does.
use Rattle.std.proofs.Common.{◌≡◌, ℕ, ◌≤◌, List, [], Option, None, Some, Bool, true, false}
use Rattle.std.proofs.Common.{if◌then◌else◌, refl, ap, sym, ◌∙◌, subst, arith, inl, inr}
use Rattle.std.proofs.lemmas.Bool.{false≢true}
use Rattle.cl_tree.specs.declared.tree.Form.{Form}
use Rattle.cl_tree.specs.declared.tree.Form.TheVariants as forms
use Rattle.cl_tree.specs.Syntax.{Syntax, node, Forest, none, more, first_of, last_of}
use Rattle.cl_tree.specs.Nodes.{forest1}
use Rattle.cl_meaning.specs.Spelling.{prefix_in, postfix_in}
use Rattle.cl_meaning.specs.declared.operators.Prefix.{Prefix}
use Rattle.cl_meaning.specs.declared.operators.Prefix.TheVariants as prefixes
use Rattle.cl_meaning.specs.declared.operators.Postfix.{Postfix}
use Rattle.cl_meaning.specs.declared.operators.Postfix.TheVariants as postfixes
use Rattle.cl_meaning.specs.Kinds.{is_some}
use Rattle.cl_check_sound.specs.Shape.{IsExpressionOf, indexes}
use Rattle.cl_short_vec.specs.declared.nodes.Span.{Span}
use Rattle.cl_short_vec.specs.declared.kinds.Kind.{Kind}
use Rattle.cl_short_vec.specs.declared.kinds.Kind.TheVariants.{Pointer, Other}
use Rattle.cl_short_vec.specs.declared.roles.Role.{Role}
use Rattle.cl_short_vec.specs.Kinds.{Names, within, is_vector, prefix_kind, postfix_kind, later}
use Rattle.cl_short_vec.specs.Plain.{is_pointed}
use Rattle.cl_short_vec.specs.Marks.{Mark, mark, unmarked, marking, kind_at, kind_by, marked, marked_parts}
use Rattle.cl_short_vec.specs.Roles.{is_place}
use Rattle.cl_short_vec.specs.Faults.{components_of, refusals}
use Rattle.cl_short_vec.specs.Order.{is_through}
use Rattle.cl_short_vec.specs.Scalar.{leaf_by, prefixed, postfixed, one_by, two_by, one_selected, one_component}
use Rattle.cl_short_vec.specs.Scalar.{chosen_or}
use Rattle.cl_short_vec.specs.Scalar.{element_component, content_component, scalar, scalars, component_at}
use Rattle.cl_short_vec_faults.specs.PlainForm.{plain_of, plains_of}
use Rattle.cl_short_vec_faults.proofs.Ordered.{Ordered}
use Rattle.cl_short_vec_faults.proofs.OrderedMarks.{OrderedMark, first_at, last_at}
use Rattle.cl_short_vec_faults.proofs.TokenFacts.{Facts}
use Rattle.cl_short_vec_faults.proofs.PlainForms.{postfix_unpointed, unpointed_selection, selection_some}
use Rattle.cl_short_vec_faults.proofs.Places.{place_form, content_place, index_place, selected_place}
use Rattle.cl_short_vec_faults.proofs.Selected.{selected_part}

-- it begins at that token, and ends no later than that one
abbrev pub StandsAt : ℕ → ℕ → Syntax → Type 0
StandsAt f l t = (first_of t ≡ f) × (last_of t ≤ l)

-- it stands between those tokens
abbrev pub StandsIn : ℕ → ℕ → Syntax → Type 0
StandsIn n m t = (n ≤ first_of t) × (last_of t ≤ m)

indexes_some : (o : Option Postfix) → indexes o ≡ true → is_some o ≡ true
indexes_some None h = absurd (false≢true h)
indexes_some (Some q) h = refl

own : (f l : ℕ) → (f ≡ f) × (l ≤ l)
own f l = (refl, omega arith)

-- ---- the plain form

pub plain_stands : (t : Syntax) → Ordered t → Facts t → StandsAt (first_of t) (last_of t) (plain_of t)
unfolding plain_of plains_of
plain_stands (node forms.TypeNode w f l parts) o h = own f l
plain_stands (node forms.PostfixNode w f l none) o h = own f l
plain_stands (node forms.PostfixNode w f l (more a none)) o h = by (is_pointed w) (plain_stands a o.1 h.1.0)
  where
    by : (b : Bool) → StandsAt (first_of a) (last_of a) (plain_of a) →
        StandsAt f l (if b then plain_of a else node forms.PostfixNode w f l (forest1 (plain_of a)))
    by true s = let e : f ≡ first_of a = h.0 in let x = s.0 in let y = s.1 in let z = o.2 in (omega arith, omega arith)
    by false s = own f l
plain_stands (node forms.PostfixNode w f l (more a (more b bs))) o h = own f l
plain_stands (node form w f l parts) o h = own f l

-- ---- nodes without vectors, by what holds of the two tokens

module _ (Q : ℕ → ℕ → Type 0) where
  abbrev Has : Syntax → Type 0
  Has t = Q (first_of t) (last_of t)

  leaf_has : (form : Form) (w : List ℕ) (f l : ℕ) (ps : Forest) → Q f l → Has (leaf_by form (node form w f l ps))
  leaf_has forms.TypeNode w f l ps q = q
  leaf_has form w f l ps q = q

  prefixed_has : (o : Option Prefix) (k : Kind) (form : Form) (w : List ℕ) (f l : ℕ) (ps : Forest) (p : Syntax) →
      Q f l → Has (prefixed o k (node form w f l ps) p)
  prefixed_has (Some prefixes.Content) (Pointer s c v) form w f l ps p q = q
  prefixed_has (Some (prefixes.Step op)) (Pointer s c v) form w f l ps p q = q
  prefixed_has o k form w f l ps p q = q

  postfixed_has : (o : Option Postfix) (k : Kind) (form : Form) (w : List ℕ) (f l : ℕ) (ps : Forest) (p : Syntax) →
      Q f l → Has (postfixed o k (node form w f l ps) p)
  postfixed_has (Some (postfixes.Step op)) (Pointer s c v) form w f l ps p q = q
  postfixed_has o k form w f l ps p q = q

  one_has : (form : Form) (k : Kind) (w : List ℕ) (f l : ℕ) (ps : Forest) (p : Syntax) → Q f l →
      (is_pointed w ≡ true → Has p) → Has (one_by form k (node form w f l ps) p)
  one_has forms.TypeNode k w f l ps p q h = q
  one_has forms.UnaryNode k w f l ps p q h = prefixed_has (prefix_in w) k forms.UnaryNode w f l ps p q
  one_has forms.PostfixNode k w f l ps p q h = by (is_pointed w) h
    where
      by : (b : Bool) → (b ≡ true → Has p) →
          Has (if b then p else postfixed (postfix_in w) k (node forms.PostfixNode w f l ps) p)
      by true g = g refl
      by false g = postfixed_has (postfix_in w) k forms.PostfixNode w f l ps p q
  one_has form k w f l ps p q h = q

  two_has : (form : Form) (j k : Kind) (w : List ℕ) (f l : ℕ) (ps : Forest) (a b : Syntax) → Q f l →
      Has (two_by form j k (node form w f l ps) a b)
  two_has forms.PostfixNode (Pointer s c v) k w f l ps a b q = q
  two_has forms.AssignNode (Pointer s c v) (Other y) w f l ps a b q = q
  two_has forms.SumNode (Pointer s c v) (Other y) w f l ps a b q = q
  two_has forms.SumNode (Other y) (Pointer s c v) w f l ps a b q = q
  two_has form j k w f l ps a b q = q

  content_has : (form : Form) (o : Option Prefix) (k : Kind) (c : ℕ) (s : Span) (w : List ℕ) (f l : ℕ) (ps : Forest)
      (p : Syntax) → Q s.first s.last → Q f l → Has (content_component form o k c s (node form w f l ps) p)
  content_has forms.UnaryNode (Some prefixes.Content) (Pointer sp d v) c s w f l ps p q r = q
  content_has form o k c s w f l ps p q r = r

  element_has : (form : Form) (k : Kind) (c : ℕ) (s : Span) (w : List ℕ) (f l : ℕ) (ps : Forest) (a b : Syntax) →
      Q s.first s.last → Q f l → Has (element_component form k c s (node form w f l ps) a b)
  element_has forms.PostfixNode (Pointer sp d v) c s w f l ps a b q r = q
  element_has form k c s w f l ps a b q r = r

  chosen_has : (o : Option ℕ) (g : ℕ → Syntax) (t : Syntax) → ((c : ℕ) → Has (g c)) → Has t → Has (chosen_or o g t)
  chosen_has (Some c) g t h k = h c
  chosen_has None g t h k = k

-- ---- what stands for any tree stands in it

abbrev Inside : ℕ → ℕ → ℕ → ℕ → Type 0
Inside n m f l = (n ≤ f) × (l ≤ m)

mutual
  unfolding scalar component_at scalars

  scalar_inside : (m : Mark) (n k : ℕ) → OrderedMark m → n ≤ first_at m → last_at m ≤ k → StandsIn n k (scalar m)
  scalar_inside (mark (node form w f l ps) kind unmarked) n k h a b = leaf_has (Inside n k) form w f l ps (a, b)
  scalar_inside (mark (node form w f l ps) kind (marking p unmarked)) n k h a b =
      let x = h.1.0 in
      let y = h.1.2 in
      let s : Span = record { first = f; last = l } in
      chosen_has (Inside n k) (one_component (mark (node form w f l ps) kind (marking p unmarked)))
      (λ c. component_at c s p) (one_by form (kind_at p) (node form w f l ps) (scalar p))
      (λ c. component_inside p c s n k h.1.1 (omega arith) (omega arith) a b)
      (one_has (Inside n k) form (kind_at p) w f l ps (scalar p) (a, b)
      (λ e. scalar_inside p n k h.1.1 (omega arith) (omega arith)))
  scalar_inside (mark (node form w f l ps) kind (marking p (marking q unmarked))) n k h a b =
      two_has (Inside n k) form (kind_at p) (kind_at q) w f l ps (scalar p) (scalar q) (a, b)
  scalar_inside (mark (node form w f l ps) kind (marking p (marking q (marking r rs)))) n k h a b = (a, b)

  component_inside : (m : Mark) (c : ℕ) (s : Span) (n k : ℕ) → OrderedMark m → n ≤ first_at m → last_at m ≤ k →
      n ≤ s.first → s.last ≤ k → StandsIn n k (component_at c s m)
  component_inside (mark (node form w f l ps) kind unmarked) c s n k h a b i j = (i, j)
  component_inside (mark (node form w f l ps) kind (marking p unmarked)) c s n k h a b i j =
      let x = h.1.0 in
      let y = h.1.2 in
      by (is_through (node form w f l ps)) (component_inside p c s n k h.1.1 (omega arith) (omega arith) i j)
    where
      by : (z : Bool) → StandsIn n k (component_at c s p) → StandsIn n k (if z then component_at c s p else
          content_component form (prefix_in w) (kind_at p) c s (node form w f l ps) (scalar p))
      by true g = g
      by false g = content_has (Inside n k) form (prefix_in w) (kind_at p) c s w f l ps (scalar p) (i, j) (a, b)
  component_inside (mark (node form w f l ps) kind (marking p (marking q unmarked))) c s n k h a b i j =
      element_has (Inside n k) form (kind_at p) c s w f l ps (scalar p) (scalar q) (i, j) (a, b)
  component_inside (mark (node form w f l ps) kind (marking p (marking q (marking r rs)))) c s n k h a b i j = (a, b)

-- ---- places of vectors

-- the component of a place stands where it is asked for, and the place itself where it stood
record IsAt (f l : ℕ) (m : Mark) : Type 0 where
  component : (c : ℕ) (s : Span) → StandsAt s.first s.last (component_at c s m)
  whole : StandsAt f l (scalar m)

content_at : (o : Option Prefix) (j : Kind) (c : ℕ) (s : Span) (w : List ℕ) (f l : ℕ) (ps : Forest) (p : Syntax) →
    is_place (prefix_kind o j) ≡ true →
    StandsAt s.first s.last (content_component forms.UnaryNode o j c s (node forms.UnaryNode w f l ps) p)
content_at o j c s w f l ps p h =
    let x = content_place o j h in
    let b = x.1 in
    let t = node forms.UnaryNode w f l ps in
    subst (λ z. StandsAt s.first s.last (content_component forms.UnaryNode z j c s t p)) (sym x.0)
    (subst (λ z. StandsAt s.first s.last (content_component forms.UnaryNode (Some prefixes.Content) z c s t p))
    (sym b.pointer) (own s.first s.last))

indexed_at : (o : Option Postfix) (j : Kind) (c : ℕ) (s : Span) (w : List ℕ) (f l : ℕ) (ps : Forest) (a b : Syntax) →
    is_place (postfix_kind None o j) ≡ true →
    StandsAt s.first s.last (element_component forms.PostfixNode j c s (node forms.PostfixNode w f l ps) a b)
indexed_at o j c s w f l ps a b h =
    subst (λ z. StandsAt s.first s.last (element_component forms.PostfixNode z c s (node forms.PostfixNode w f l ps) a
    b))
    (sym (index_place o j h).1.pointer) (own s.first s.last)

-- a selection, whose operand is a place
through_at : (w : List ℕ) (f l : ℕ) (ps : Forest) (k : Kind) (m : Mark) (g n : ℕ) → f ≡ g → n ≤ l → IsAt g n m →
    StandsAt f l (scalar (mark (node forms.PostfixNode w f l ps) k (marking m unmarked)))
unfolding scalar
through_at w f l ps k m g n e b x =
    let s : Span = record { first = f; last = l } in
    let Q = λ (x y : ℕ). (x ≡ f) × (y ≤ l) in
    chosen_has Q (one_component (mark (node forms.PostfixNode w f l ps) k (marking m unmarked)))
    (λ c. component_at c s m) (one_by forms.PostfixNode (kind_at m) (node forms.PostfixNode w f l ps) (scalar m))
    (λ c. x.component c s)
    (one_has Q forms.PostfixNode (kind_at m) w f l ps (scalar m) (own f l)
    (λ z. let p = x.whole.0 in let q = x.whole.1 in (omega arith, omega arith)))

place_at : (t : Syntax) (names : Names) → IsExpressionOf true t → Ordered t → Facts t →
    is_place (kind_at (marked names t)) ≡ true → IsAt (first_of t) (last_of t) (marked names t)
unfolding marked marked_parts kind_by scalar component_at
place_at (node forms.VariableNode w f l none) names h o i e =
    record { component = λ c s. own s.first s.last; whole = own f l }
place_at (node forms.VariableNode w f l (more a as')) names h o i e = absurd h
place_at (node forms.ParenNode w f l none) names h o i e = absurd h
place_at (node forms.ParenNode w f l (more a none)) names h o i e = record {
  component = (place_at a names h o.1 i.1.0 e).component;
  whole = own f l;
}
place_at (node forms.ParenNode w f l (more a (more b bs))) names h o i e = absurd h
place_at (node forms.UnaryNode w f l none) names h o i e = absurd h
place_at (node forms.UnaryNode w f l (more a none)) names h o i e =
    let m = marked names a in record {
      component = λ c s. content_at (prefix_in w) (kind_at m) c s w f l (more a none) (scalar m) e;
      whole = prefixed_has (λ (x y : ℕ). (x ≡ f) × (y ≤ l)) (prefix_in w) (kind_at m) forms.UnaryNode w f l (more a
          none)
          (scalar m) (own f l);
    }
place_at (node forms.UnaryNode w f l (more a (more b bs))) names h o i e = absurd h
place_at (node forms.PostfixNode w f l none) names h o i e = absurd h
place_at (node forms.PostfixNode w f l (more a none)) names (inl h) o i e =
    let q = unpointed_selection w (postfix_unpointed w h.0) in
    let p = (index_place (postfix_in w) (kind_at (marked names a))
    (ap (λ z. is_place (postfix_kind z (postfix_in w) (kind_at (marked names a)))) (sym q) ∙ e)).0 in
    absurd (false≢true (sym h.1 ∙ ap indexes p))
place_at (node forms.PostfixNode w f l (more a none)) names (inr h) o i e =
    let m = marked names a in
    let x = selection_some w h.0 in
    let p = selected_place (kind_at m) x.0 (ap (λ z. is_place (postfix_kind z (postfix_in w) (kind_at m))) (sym x.1) ∙
    e) in
    let r = place_at a names h.1 o.1 i.1.0 p in
    let b = o.2 in record {
      component = λ c s. subst (λ z. StandsAt s.first s.last (if is_some z then component_at c s m else
          content_component forms.PostfixNode (prefix_in w) (kind_at m) c s (node forms.PostfixNode w f l (more a none))
          (scalar m))) (sym x.1) (r.component c s);
      whole = through_at w f l (more a none) (kind_at (marked names (node forms.PostfixNode w f l (more a none)))) m
          (first_of a) (last_of a) i.0 (omega arith) r;
    }
place_at (node forms.PostfixNode w f l (more a (more b none))) names h o i e =
    let m = marked names a in
    let names' = later forms.PostfixNode (more a (more b none)) names true a in
    let q = unpointed_selection w (postfix_unpointed w (indexes_some (postfix_in w) h.0)) in
    record {
      component = λ c s. indexed_at (postfix_in w) (kind_at m) c s w f l (more a (more b none)) (scalar m)
          (scalar (marked names' b)) (ap (λ z. is_place (postfix_kind z (postfix_in w) (kind_at m))) (sym q) ∙ e);
      whole = two_has (λ (x y : ℕ). (x ≡ f) × (y ≤ l)) forms.PostfixNode (kind_at m) (kind_at (marked names' b)) w f l
          (more a (more b none)) (scalar m) (scalar (marked names' b)) (own f l);
    }
place_at (node forms.PostfixNode w f l (more a (more b (more c cs)))) names h o i e = absurd h
place_at (node form w f l ps) names h o i e =
    absurd (false≢true (place_form form w names (marked_parts form ps (within form w names) true ps) e))

-- ---- expressions that are no vectors

-- what stands for an expression begins where the expression does
pub scalar_stands : (t : Syntax) (names : Names) (role : Role) → IsExpressionOf true t → Ordered t → Facts t →
    refusals role (marked names t) ≡ [] → is_vector (kind_at (marked names t)) ≡ false →
    StandsAt (first_of t) (last_of t) (scalar (marked names t))
unfolding marked marked_parts scalar
scalar_stands (node form w f l none) names role h o i r v =
    leaf_has (λ (x y : ℕ). (x ≡ f) × (y ≤ l)) form w f l none (own f l)
scalar_stands (node forms.PostfixNode w f l (more a none)) names role (inl h) o i r v =
    let Q = λ (x y : ℕ). (x ≡ f) × (y ≤ l) in
    let m = marked names a in
    let t = node forms.PostfixNode w f l (more a none) in
    let b = postfix_unpointed w h.0 in
    let q = unpointed_selection w b in
    let s : Span = record { first = f; last = l } in
    subst (λ z. StandsAt f l (chosen_or (one_selected forms.PostfixNode z (components_of (marked names t)))
    (λ c. component_at c s m) (one_by forms.PostfixNode (kind_at m) t (scalar m)))) (sym q)
    (one_has Q forms.PostfixNode (kind_at m) w f l (more a none) (scalar m) (own f l)
    (λ z. absurd (false≢true (sym b ∙ z))))
scalar_stands (node forms.PostfixNode w f l (more a none)) names role (inr h) o i r v =
    let x = selected_part names role w f l a h.0 h.1 r v in
    let b = o.2 in
    through_at w f l (more a none) (kind_at (marked names (node forms.PostfixNode w f l (more a none)))) (marked names
    a)
    (first_of a) (last_of a) i.0 (omega arith) (place_at a names h.1 o.1 i.1.0 x.place)
scalar_stands (node forms.UnaryNode w f l (more a none)) names role h o i r v =
    prefixed_has (λ (x y : ℕ). (x ≡ f) × (y ≤ l)) (prefix_in w) (kind_at (marked names a)) forms.UnaryNode w f l
    (more a none) (scalar (marked names a)) (own f l)
scalar_stands (node forms.TypeNode w f l (more a none)) names role h o i r v = absurd h
scalar_stands (node form w f l (more a none)) names role h o i r v = own f l
scalar_stands (node form w f l (more a (more b none))) names role h o i r v =
    let inner = within form w names in
    let n = later form (more a (more b none)) inner true a in
    two_has (λ (x y : ℕ). (x ≡ f) × (y ≤ l)) form (kind_at (marked inner a)) (kind_at (marked n b)) w f l
    (more a (more b none)) (scalar (marked inner a)) (scalar (marked n b)) (own f l)
scalar_stands (node form w f l (more a (more b (more c cs)))) names role h o i r v = own f l
