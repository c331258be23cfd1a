-- What stands for an expression is one by its production; what stands for a star is that star, and for a list a list.
use Rattle.std.proofs.Common.{◌≡◌, ℕ, List, Option, Some, None, Bool, true, false, if◌then◌else◌, refl, sym}
use Rattle.std.proofs.Common.{ap, ◌∙◌, subst, inl, inr, ◌⊎◌}
use Rattle.std.proofs.lemmas.Bool.{false≢true}
use Rattle.cl_tree.specs.declared.tree.Form.{Form}
use Rattle.cl_tree.specs.declared.tree.Form.TheVariants as forms
use Rattle.cl_tree.specs.Syntax.{Syntax, node, Forest, none, more}
use Rattle.cl_meaning.specs.declared.operators.Prefix.{Prefix}
use Rattle.cl_meaning.specs.declared.operators.Prefix.TheVariants as prefixes
use Rattle.cl_meaning.specs.declared.operators.Postfix.{Postfix}
use Rattle.cl_meaning.specs.declared.operators.Postfix.TheVariants as postfixes
use Rattle.cl_meaning.specs.Operators.{prefix_in, postfix_in}
use Rattle.cl_meaning.specs.Declarations.{form_of, word_of, is_star, star_in}
use Rattle.cl_meaning.specs.Types.{is_const}
use Rattle.cl_meaning.specs.Kinds.{is_some}
use Rattle.cl_check_sound.specs.Shape.{is_expression, IsExpressionOf, IsListOf, AreLengthsOf, IsDeclaratorOf}
use Rattle.cl_short_vec.specs.declared.nodes.Span.{Span}
use Rattle.cl_short_vec.specs.declared.types.Vector.{Vector}
use Rattle.cl_short_vec.specs.declared.kinds.Kind.{Kind}
use Rattle.cl_short_vec.specs.declared.kinds.Kind.TheVariants.{Pointer, Other}
use Rattle.cl_short_vec.specs.Types.{selection_in}
use Rattle.cl_short_vec.specs.Kinds.{Names, within, later}
use Rattle.cl_short_vec.specs.Plain.{is_pointed}
use Rattle.cl_short_vec.specs.Marks.{tree_at, kind_at, marked, marked_parts}
use Rattle.cl_short_vec.specs.Faults.{components_of}
use Rattle.cl_short_vec.specs.Order.{is_through}
use Rattle.cl_short_vec.specs.Scalar.{leaf_by, prefixed, postfixed, one_by, two_by, one_selected, element_component}
use Rattle.cl_short_vec.specs.Scalar.{content_component, chosen_or, scalar, scalars, component_at}
use Rattle.cl_short_vec.specs.Unit.{length_at, is_length_form, length_or_part, lengths_at}
use Rattle.cl_short_vec_form.proofs.Neat.{Neat, expression_form, expression_neat}

-- an expression by its production
abbrev pub Expresses : Syntax → Type 0
Expresses t = is_expression (form_of t) ≡ true

-- ---- nodes

leaf_root : (form : Form) (w : List ℕ) (f l : ℕ) → is_expression form ≡ true →
    Expresses (leaf_by form (node form w f l none))
leaf_root forms.TypeNode w f l e = absurd (false≢true e)
leaf_root form w f l e = e

prefixed_root : (w : List ℕ) (f l : ℕ) (ps : Forest) (o : Option Prefix) (k : Kind) (p : Syntax) →
    Expresses (prefixed o k (node forms.UnaryNode w f l ps) p)
prefixed_root w f l ps (Some prefixes.Content) (Pointer space c v) p = refl
prefixed_root w f l ps (Some (prefixes.Step op)) (Pointer space c v) p = refl
prefixed_root w f l ps o k p = refl

postfixed_root : (w : List ℕ) (f l : ℕ) (ps : Forest) (o : Option Postfix) (k : Kind) (p : Syntax) →
    Expresses (postfixed o k (node forms.PostfixNode w f l ps) p)
postfixed_root w f l ps (Some (postfixes.Step op)) (Pointer space c v) p = refl
postfixed_root w f l ps o k p = refl

either_root : (b : Bool) (s t : Syntax) → Expresses s → Expresses t → Expresses (if b then s else t)
either_root true s t h k = h
either_root false s t h k = k

chosen_root : (o : Option ℕ) (g : ℕ → Syntax) (t : Syntax) → ((c : ℕ) → Expresses (g c)) → Expresses t →
    Expresses (chosen_or o g t)
chosen_root None g t h k = k
chosen_root (Some c) g t h k = h c

one_root : (form : Form) (w : List ℕ) (f l : ℕ) (ps : Forest) (a : Syntax) (k : Kind) (cs : List ℕ) (p : Syntax)
    (g : ℕ → Syntax) → is_expression form ≡ true → Neat (node form w f l (more a none)) →
    (Expresses a → Neat a → Expresses p) → (Expresses a → Neat a → (c : ℕ) → Expresses (g c)) →
    Expresses (chosen_or (one_selected form (selection_in w) cs) g (one_by form k (node form w f l ps) p))
one_root forms.TypeNode w f l ps a k cs p g e h c i = absurd (false≢true e)
one_root forms.UnaryNode w f l ps a k cs p g e h c i = prefixed_root w f l ps (prefix_in w) k p
one_root forms.PostfixNode w f l ps a k cs p g e h c i =
    let t = node forms.PostfixNode w f l ps in
    chosen_root (one_selected forms.PostfixNode (selection_in w) cs) g (one_by forms.PostfixNode k t p) (i h.1 h.2)
    (either_root (is_pointed w) p (postfixed (postfix_in w) k t p) (c h.1 h.2)
    (postfixed_root w f l ps (postfix_in w) k p))
one_root form w f l ps a k cs p g e h c i = e

content_root : (w : List ℕ) (f l : ℕ) (ps : Forest) (o : Option Prefix) (k : Kind) (c : ℕ) (s : Span) (p : Syntax) →
    Expresses (content_component forms.UnaryNode o k c s (node forms.UnaryNode w f l ps) p)
content_root w f l ps (Some prefixes.Content) (Pointer space d v) c s p = refl
content_root w f l ps o k c s p = refl

place_of_one : (form : Form) (w : List ℕ) (f l : ℕ) (ps : Forest) (a : Syntax) (k : Kind) (c : ℕ) (s : Span)
    (p q : Syntax) → is_expression form ≡ true → Neat (node form w f l (more a none)) →
    (Expresses a → Neat a → Expresses q) → Expresses (if is_through (node form w f l ps) then q else
    content_component form (prefix_in w) k c s (node form w f l ps) p)
place_of_one forms.ParenNode w f l ps a k c s p q e h i = i h.0 h.1
place_of_one forms.UnaryNode w f l ps a k c s p q e h i = content_root w f l ps (prefix_in w) k c s p
place_of_one forms.PostfixNode w f l ps a k c s p q e h i =
    either_root (is_some (selection_in w)) q
    (content_component forms.PostfixNode (prefix_in w) k c s (node forms.PostfixNode w f l ps) p) (i h.1 h.2) refl
place_of_one form w f l ps a k c s p q e h i = e

two_postfix : (w : List ℕ) (f l : ℕ) (ps : Forest) (j k : Kind) (x y : Syntax) →
    Expresses (two_by forms.PostfixNode j k (node forms.PostfixNode w f l ps) x y)
two_postfix w f l ps (Pointer space c v) k x y = refl
two_postfix w f l ps j k x y = refl

two_assign : (w : List ℕ) (f l : ℕ) (ps : Forest) (j k : Kind) (x y : Syntax) →
    Expresses (two_by forms.AssignNode j k (node forms.AssignNode w f l ps) x y)
two_assign w f l ps (Pointer space c v) (Other b) x y = refl
two_assign w f l ps j k x y = refl

two_sum : (w : List ℕ) (f l : ℕ) (ps : Forest) (j k : Kind) (x y : Syntax) →
    Expresses (two_by forms.SumNode j k (node forms.SumNode w f l ps) x y)
two_sum w f l ps (Pointer space c v) (Other b) x y = refl
two_sum w f l ps (Other b) (Pointer space c v) x y = refl
two_sum w f l ps j k x y = refl

two_root : (form : Form) (w : List ℕ) (f l : ℕ) (ps : Forest) (j k : Kind) (x y : Syntax) →
    is_expression form ≡ true → Expresses (two_by form j k (node form w f l ps) x y)
two_root forms.AssignNode w f l ps j k x y e = two_assign w f l ps j k x y
two_root forms.SumNode w f l ps j k x y e = two_sum w f l ps j k x y
two_root forms.PostfixNode w f l ps j k x y e = two_postfix w f l ps j k x y
two_root form w f l ps j k x y e = e

element_root : (w : List ℕ) (f l : ℕ) (ps : Forest) (j : Kind) (c : ℕ) (s : Span) (x y : Syntax) →
    Expresses (element_component forms.PostfixNode j c s (node forms.PostfixNode w f l ps) x y)
element_root w f l ps (Pointer space d v) c s x y = refl
element_root w f l ps j c s x y = refl

place_of_two : (form : Form) (w : List ℕ) (f l : ℕ) (ps : Forest) (j : Kind) (c : ℕ) (s : Span) (x y : Syntax) →
    is_expression form ≡ true → Expresses (element_component form j c s (node form w f l ps) x y)
place_of_two forms.PostfixNode w f l ps j c s x y e = element_root w f l ps j c s x y
place_of_two form w f l ps j c s x y e = e

-- ---- trees

mutual
  unfolding scalar component_at marked marked_parts

  pub scalar_root : (t : Syntax) (names : Names) → Expresses t → Neat t → Expresses (scalar (marked names t))
  scalar_root (node form w f l none) names e h = leaf_root form w f l e
  scalar_root (node form w f l (more a none)) names e h =
      let inner = within form w names in
      let ps = more a none in
      let s : Span = record { first = f; last = l } in
      one_root form w f l ps a (kind_at (marked inner a)) (components_of (marked names (node form w f l ps)))
      (scalar (marked inner a)) (λ c. component_at c s (marked inner a)) e h (λ d n. scalar_root a inner d n)
      (λ d n c. place_root a inner c s d n)
  scalar_root (node form w f l (more a (more b none))) names e h =
      let inner = within form w names in
      let ps = more a (more b none) in
      let n = later form ps inner true a in
      two_root form w f l ps (kind_at (marked inner a)) (kind_at (marked n b)) (scalar (marked inner a))
      (scalar (marked n b)) e
  scalar_root (node form w f l (more a (more b (more c cs)))) names e h = e

  place_root : (t : Syntax) (names : Names) (c : ℕ) (s : Span) → Expresses t → Neat t →
      Expresses (component_at c s (marked names t))
  place_root (node form w f l none) names c s e h = refl
  place_root (node form w f l (more a none)) names c s e h =
      let inner = within form w names in
      place_of_one form w f l (more a none) a (kind_at (marked inner a)) c s (scalar (marked inner a))
      (component_at c s (marked inner a)) e h (λ d n. place_root a inner c s d n)
  place_root (node form w f l (more a (more b none))) names c s e h =
      let inner = within form w names in
      let ps = more a (more b none) in
      let n = later form ps inner true a in
      place_of_two form w f l ps (kind_at (marked inner a)) c s (scalar (marked inner a)) (scalar (marked n b)) e
  place_root (node form w f l (more a (more b (more d ds)))) names c s e h = e

-- ---- expressions, lists and stars

pub expression_root : (t : Syntax) (names : Names) → IsExpressionOf true t → Expresses (scalar (marked names t))
expression_root t names h = scalar_root t names (expression_form t h) (expression_neat t h)

-- an expression is no star, and may be a length
pub no_star : (t : Syntax) → Expresses t → is_star t ≡ false
no_star (node forms.StarNode w f l ps) e = absurd (false≢true e)
no_star (node form w f l ps) e = refl

pub may_measure : (t : Syntax) → Expresses t → is_length_form (form_of t) ≡ true
may_measure (node forms.StarNode w f l ps) e = absurd (false≢true e)
may_measure (node forms.ListNode w f l ps) e = absurd (false≢true e)
may_measure (node form w f l ps) e = refl

pub star_stays : (w : List ℕ) (f l : ℕ) (names : Names) →
    scalar (marked names (node forms.StarNode w f l none)) ≡ node forms.StarNode w f l none
unfolding scalar marked marked_parts
star_stays w f l names = refl

pub list_root : (w : List ℕ) (f l : ℕ) (ps : Forest) (names : Names) →
    form_of (scalar (marked names (node forms.ListNode w f l ps))) ≡ forms.ListNode
unfolding scalar marked marked_parts
list_root w f l none names = refl
list_root w f l (more a none) names = refl
list_root w f l (more a (more b none)) names = refl
list_root w f l (more a (more b (more c cs))) names = refl

pub tree_is : (names : Names) (t : Syntax) → tree_at (marked names t) ≡ t
unfolding marked
tree_is names (node form w f l parts) = refl

-- the first of some lengths
pub front_value : (p : Syntax) (ps : Forest) → AreLengthsOf true (more p ps) → IsExpressionOf true p ⊎ IsListOf true p
front_value p none h = h
front_value p (more q qs) h = inl h.0

-- what stands for it is no star
list_no_star : (t : Syntax) → form_of t ≡ forms.ListNode → is_star t ≡ false
list_no_star (node form w f l ps) e = subst (λ z. is_star (node z w f l ps) ≡ false) (sym e) refl

pub no_star_in : (t : Syntax) (names : Names) → IsExpressionOf true t ⊎ IsListOf true t →
    is_star (scalar (marked names t)) ≡ false
no_star_in t names (inl h) = no_star (scalar (marked names t)) (expression_root t names h)
no_star_in (node forms.ListNode w f l ps) names (inr h) =
    list_no_star (scalar (marked names (node forms.ListNode w f l ps))) (list_root w f l ps names)
no_star_in t names (inr h) = absurd h

pub no_star_at : (v : Vector) (t : Syntax) (names : Names) → IsExpressionOf true t ⊎ IsListOf true t →
    is_star (length_or_part v (marked names t)) ≡ false
no_star_at v t names h = by (is_length_form (form_of (tree_at (marked names t))))
  where
    by : (b : Bool) → is_star (if b then length_at v (scalar (marked names t)) else scalar (marked names t)) ≡ false
    by true = refl
    by false = no_star_in t names h

value_no_star : (t : Syntax) → IsExpressionOf true t ⊎ IsListOf true t → is_star t ≡ false
value_no_star t (inl h) = no_star t (expression_form t h)
value_no_star (node forms.ListNode w f l ps) (inr h) = refl
value_no_star t (inr h) = absurd h

-- ---- the star of a declarator

plain_front : (x : Syntax) (xs : Forest) → is_star x ≡ false → is_some (star_in (more x xs)) ≡ false
plain_front x xs e = ap (λ b. is_some (if b then Some (is_const (word_of x)) else None)) e

pub star_kept : (w : List ℕ) (f l : ℕ) (all : Forest) (names : Names) (ps : Forest) →
    IsDeclaratorOf true (node forms.DeclaratorNode w f l ps) →
    is_some (star_in (scalars (marked_parts forms.DeclaratorNode all names true ps))) ≡ is_some (star_in ps)
unfolding marked marked_parts scalar scalars
star_kept w f l all names none h = refl
star_kept w f l all names (more (node forms.StarNode w' f' l' none) qs) h = refl
star_kept w f l all names (more q qs) h =
    let n = later forms.DeclaratorNode all names true q in
    let x = front_value q qs h in
    plain_front (scalar (marked names q)) (scalars (marked_parts forms.DeclaratorNode all n false qs))
    (no_star_in q names x) ∙ sym (plain_front q qs (value_no_star q x))

pub star_measured : (v : Vector) (w : List ℕ) (f l : ℕ) (all : Forest) (names : Names) (ps : Forest) →
    IsDeclaratorOf true (node forms.DeclaratorNode w f l ps) →
    is_some (star_in (lengths_at v (marked_parts forms.DeclaratorNode all names true ps))) ≡ is_some (star_in ps)
unfolding marked marked_parts scalar scalars
star_measured v w f l all names none h = refl
star_measured v w f l all names (more (node forms.StarNode w' f' l' none) qs) h = refl
star_measured v w f l all names (more q qs) h =
    let n = later forms.DeclaratorNode all names true q in
    let x = front_value q qs h in
    plain_front (length_or_part v (marked names q)) (lengths_at v (marked_parts forms.DeclaratorNode all n false qs))
    (no_star_at v q names x) ∙ sym (plain_front q qs (value_no_star q x))
