-- What is known of the target of a vector statement: it is a variable, an element or some components of one.
use Rattle.std.proofs.Common.{◌≡◌, ℕ, nat_eq, length, Bool, true, false, List, [], Option, Some, None, if◌then◌else◌}
use Rattle.std.proofs.Common.{refl, ap, sym}
use Rattle.std.proofs.Common.{◌∙◌, subst, inl, inr, ◌⊎◌}
use Rattle.std.proofs.lemmas.Bool.{false≢true}
use Rattle.cl_tree.specs.declared.tree.Form.TheVariants as forms
use Rattle.cl_tree.specs.Syntax.{Syntax, node, none, more}
use Rattle.cl_tree.specs.Nodes.{forest1}
use Rattle.cl_meaning.specs.Spelling.{name_in, prefix_in, postfix_in}
use Rattle.cl_meaning.specs.Declarations.{form_of, word_of}
use Rattle.cl_meaning.specs.declared.kind.Role.TheVariants as roles
use Rattle.cl_meaning.specs.Environment.{Env}
use Rattle.cl_meaning.specs.Kinds.{is_some}
use Rattle.cl_meaning.specs.Faults.{Asked}
use Rattle.cl_check_sound.specs.Shape.{IsExpressionOf, indexes}
use Rattle.cl_check_sound.specs.Sound.{SoundTree}
use Rattle.cl_short_vec.specs.declared.nodes.Span.{Span}
use Rattle.cl_short_vec.specs.declared.types.Vector.{Vector}
use Rattle.cl_short_vec.specs.declared.kinds.Reach.{Reach}
use Rattle.cl_short_vec.specs.declared.kinds.Reach.TheVariants.{Variable, Element}
use Rattle.cl_short_vec.specs.declared.kinds.Kind.{Kind}
use Rattle.cl_short_vec.specs.declared.kinds.Kind.TheVariants.{Vectors, Other}
use Rattle.cl_short_vec.specs.declared.roles.Role.{Role}
use Rattle.cl_short_vec.specs.Types.{vector, selected, selection_in}
use Rattle.cl_short_vec.specs.Kinds.{Names, within, postfix_kind, selection_of, several}
use Rattle.cl_short_vec.specs.Marks.{Mark, mark, unmarked, marking, kind_at, kind_by, marked, marked_parts}
use Rattle.cl_short_vec.specs.Roles.{is_place, is_element, is_element_kind, role_of, paren_role, selected_role}
use Rattle.cl_short_vec.specs.Faults.{refusals}
use Rattle.cl_short_vec.specs.Nodes.{component_name, variable_at}
use Rattle.cl_short_vec.specs.Order.{is_through, under}
use Rattle.cl_short_vec.specs.Scalar.{scalar, content_component, component_at}
use Rattle.cl_short_vec_faults.specs.PlainForm.{plain_of}
use Rattle.cl_short_vec_faults.specs.Plainly.{has_point, NoPoint, Plainly}
use Rattle.cl_short_vec_faults.proofs.Refused.{part_none}
use Rattle.cl_short_vec_faults.proofs.PlainForms.{plain_made, postfix_unpointed, unpointed_selection, selected_pointed}
use Rattle.cl_short_vec_faults.proofs.PlainForms.{selection_some}
use Rattle.cl_short_vec_faults.proofs.Places.{place_form, place_vector, content_place, index_place, selected_place}
use Rattle.cl_short_vec_faults.proofs.Claims.{plain_here}
use Rattle.cl_short_vec_faults.proofs.LineLeaves.{ElementFits}
use Rattle.cl_short_vec_faults.proofs.LineFits.{IsElement, variable_only}
use Rattle.cl_short_vec_faults.proofs.LineFitTrees.{index_element, index_is, indexes_some}

-- ---- a variable or an element

pub record VariableTarget (names : Names) (m : Mark) : Type 0 where
  pub word : List ℕ
  pub first : ℕ
  pub last : ℕ
  pub under' : under m ≡ mark (node forms.VariableNode word first last none) (names (name_in word)) unmarked
  pub vector : Vector
  pub named : names (name_in word) ≡ Vectors vector Variable
  pub source : has_point (name_in word) ≡ false
  pub at : (c : ℕ) (s : Span) → component_at c s m ≡ variable_at (component_name (name_in word) c) s
  pub whole : Vector
  pub kind : kind_at m ≡ Vectors whole Variable

pub record ElementTarget (asked : Asked) (names : Names) (plain : Env) (m : Mark) : Type 0 where
  pub fits : ElementFits asked names plain (under m)
  pub whole : Vector
  pub kind : kind_at m ≡ Vectors whole (Element fits.space fits.constant)

abbrev pub Target : Asked → Names → Env → Mark → Type 0
Target asked names plain m = VariableTarget names m ⊎ ElementTarget asked names plain m

-- ---- parentheses and selections

-- a kind with the same reach
abbrev Reaches : Kind → Kind → Type 0
Reaches j k = (v : Vector) (r : Reach) → j ≡ Vectors v r → (u : Vector) × (k ≡ Vectors u r)

several_reach : (v : Vector) (r : Reach) (o : Option (List ℕ)) → is_place (several v r o) ≡ true →
    (u : Vector) × (several v r o ≡ Vectors u r)
several_reach v r None h = absurd (false≢true h)
several_reach v r (Some ks) h = by (nat_eq (length ks) 1) h
  where
    by : (b : Bool) → is_place (if b then (Other true) else Vectors (vector v.of (length ks)) r) ≡ true →
        (u : Vector) × ((if b then (Other true) else Vectors (vector v.of (length ks)) r) ≡ Vectors u r)
    by true e = absurd (false≢true e)
    by false e = (vector v.of (length ks), refl)

selection_reach : (j : Kind) (name : List ℕ) → is_place (selection_of j name) ≡ true →
    Reaches j (selection_of j name)
selection_reach j name h v r e =
    let x = several_reach v r (selected v.count name) (subst (λ z. is_place (selection_of z name) ≡ true) e h) in
    (x.0, ap (λ z. selection_of z name) e ∙ x.1)

module _ (asked : Asked) (names : Names) (plain : Env) where
  through_target : (t : Syntax) (k : Kind) (a : Mark) → is_through t ≡ true → Reaches (kind_at a) k →
      Target asked names plain a → Target asked names plain (mark t k (marking a unmarked))
  unfolding under component_at
  through_target t k a e g (inl x) = let y = g x.whole Variable x.kind in inl (record {
    word = x.word;
    first = x.first;
    last = x.last;
    under' = ap (λ b. if b then under a else mark t k (marking a unmarked)) e ∙ x.under';
    vector = x.vector;
    named = x.named;
    source = x.source;
    at = λ c s. ap (λ b. if b then component_at c s a else content_component (form_of t) (prefix_in (word_of t))
        (kind_at a) c s t (scalar a)) e ∙ x.at c s;
    whole = y.0;
    kind = y.1;
  })
  through_target t k a e g (inr x) =
      let y = g x.whole (Element x.fits.space x.fits.constant) x.kind in
      let same : under (mark t k (marking a unmarked)) ≡ under a =
      ap (λ b. if b then under a else mark t k (marking a unmarked)) e in
      inr (moved (under a) (under (mark t k (marking a unmarked))) (mark t k (marking a unmarked)) same refl x.fits y.0
      y.1)
    where
      moved : (u v m : Mark) → v ≡ u → under m ≡ v → (f : ElementFits asked names plain u) (w : Vector) →
          kind_at m ≡ Vectors w (Element f.space f.constant) → ElementTarget asked names plain m
      moved u v m e d f w k = record {
        fits = record {
          leaf = record {
            tree = f.leaf.tree;
            marks = d ∙ e ∙ f.leaf.marks;
            expression = f.leaf.expression;
            points = f.leaf.points;
            role = f.leaf.role;
            refused = f.leaf.refused;
            sound = f.leaf.sound;
          };
          vector = f.vector;
          space = f.space;
          constant = f.constant;
          kind = f.kind;
          element = f.element;
        };
        whole = w;
        kind = k;
      }

  -- ---- elements

  element_target : (t : Syntax) → IsExpressionOf true t → NoPoint t → (role : Role) →
      refusals role (marked names t) ≡ [] → SoundTree asked plain roles.Other (plain_of t) →
      IsElement (kind_at (marked names t)) → is_element (marked names t) ≡ true →
      under (marked names t) ≡ marked names t → Target asked names plain (marked names t)
  element_target t h n role r so x e u = inr (record {
    fits = record {
      leaf = record {
        tree = t;
        marks = u;
        expression = h;
        points = n;
        role = role;
        refused = r;
        sound = so;
      };
      vector = x.vector;
      space = x.space;
      constant = x.constant;
      kind = x.is;
      element = e;
    };
    whole = x.vector;
    kind = x.is;
  })

  -- ---- by the tree

  module _ (form : Env) (alike : Plainly names plain form) where
    mutual
      unfolding marked marked_parts plain_of kind_by role_of under component_at is_element

      pub target_is : (t : Syntax) → IsExpressionOf true t → NoPoint t → (role : Role) →
          refusals role (marked names t) ≡ [] → is_place (kind_at (marked names t)) ≡ true →
          SoundTree asked plain roles.Other (plain_of t) → Target asked names plain (marked names t)
      target_is (node forms.VariableNode w f l none) h n role r p so =
          let x = variable_only (names (name_in w)) (name_in w) plain form (alike.names' (name_in w) n.0)
          (place_vector (names (name_in w)) p) in
          inl (record {
            word = w;
            first = f;
            last = l;
            under' = refl;
            vector = x.0;
            named = x.1;
            source = n.0;
            at = λ c s. refl;
            whole = x.0;
            kind = x.1;
          })
      target_is (node forms.VariableNode w f l (more a as')) h n role r p so = absurd h
      target_is (node forms.ParenNode w f l none) h n role r p so = absurd h
      target_is (node forms.ParenNode w f l (more a none)) h n role r p so =
          let t = node forms.ParenNode w f l (more a none) in
          let m = marked names a in
          let here = plain_here asked plain roles.Other forms.ParenNode w f l (forest1 (plain_of a)) refl refl
          (inl (plain_made a h), tt) so in
          through_target t (kind_at m) m refl (λ v q e. (v, e))
          (target_is a h n.1.0 (paren_role role (kind_at m)) (part_none role t (kind_at m) m r) p here.0)
      target_is (node forms.ParenNode w f l (more a (more b bs))) h n role r p so = absurd h
      target_is (node forms.UnaryNode w f l none) h n role r p so = absurd h
      target_is (node forms.UnaryNode w f l (more a none)) h n role r p so =
          let t = node forms.UnaryNode w f l (more a none) in
          let m = marked names a in
          let c = content_place (prefix_in w) (kind_at m) p in
          let x : IsElement (kind_at (marked names t)) = record {
            vector = c.1.v;
            space = c.1.space;
            constant = c.1.constant;
            is = c.1.element;
          } in
          element_target t h n role r so x (ap is_element_kind c.1.element) refl
      target_is (node forms.UnaryNode w f l (more a (more b bs))) h n role r p so = absurd h
      target_is (node forms.PostfixNode w f l none) h n role r p so = absurd h
      target_is (node forms.PostfixNode w f l (more a none)) (inl h) n role r p so =
          let o = unpointed_selection w (postfix_unpointed w h.0) in
          let i = (index_place (postfix_in w) (kind_at (marked names a))
          (ap (λ z. is_place (postfix_kind z (postfix_in w) (kind_at (marked names a)))) (sym o) ∙ p)).0 in
          absurd (false≢true (sym h.1 ∙ ap indexes i))
      target_is (node forms.PostfixNode w f l (more a none)) (inr h) n role r p so =
          let t = node forms.PostfixNode w f l (more a none) in
          let m = marked names a in
          let k = kind_at (marked names t) in
          let x = selection_some w h.0 in
          let b = selected_pointed w h.0 in
          let so' : SoundTree asked plain roles.Other (plain_of a) =
          subst (λ z. SoundTree asked plain roles.Other (if z then plain_of a else
          node forms.PostfixNode w f l (forest1 (plain_of a)))) b so in
          let i = ap (λ z. is_place (postfix_kind z (postfix_in w) (kind_at m))) (sym x.1) ∙ p in
          let g : Reaches (kind_at m) k = subst (λ z. Reaches (kind_at m) (postfix_kind z (postfix_in w) (kind_at m)))
          (sym x.1) (selection_reach (kind_at m) x.0 i) in
          through_target t k m (ap is_some x.1) g
          (target_is a h.1 n.1.0 (selected_role (selection_in w) k) (part_none role t k m r)
          (selected_place (kind_at m) x.0 i) so')
      target_is (node forms.PostfixNode w f l (more a (more b none))) h n role r p so =
          let t = node forms.PostfixNode w f l (more a (more b none)) in
          let m = marked names a in
          let k = kind_at (marked names t) in
          let z = unpointed_selection w (postfix_unpointed w (indexes_some (postfix_in w) h.0)) in
          let x = index_element (selection_in w) (postfix_in w) (kind_at m) z (place_vector k p) in
          element_target t h n role r so x (index_is (selection_in w) k (is_element m) z x)
          (ap (λ b. if b then under m else marked names t) (ap is_some z))
      target_is (node forms.PostfixNode w f l (more a (more b (more c cs)))) h n role r p so = absurd h
      target_is (node g w f l ps) h n role r p so =
          absurd (false≢true (place_form g w names (marked_parts g ps (within g w names) true ps) p))
