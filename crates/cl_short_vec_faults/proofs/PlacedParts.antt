-- A place of vectors from its parts.
use Rattle.std.proofs.Common.{◌≡◌, ℕ, ◌<◌, List, [], length, None, Some, true, if◌then◌else◌, refl, ap}
use Rattle.std.proofs.Common.{sym, ◌∙◌, subst, inl}
use Rattle.std.proofs.lemmas.Bool.{false≢true}
use Rattle.cl_tree.specs.declared.tree.Form.TheVariants as forms
use Rattle.cl_tree.specs.Syntax.{Syntax, node, Forest, none, more}
use Rattle.cl_tree.specs.Nodes.{forest1, forest2}
use Rattle.cl_meaning.specs.Spelling.{prefix_in, postfix_in}
use Rattle.cl_meaning.specs.declared.operators.Prefix.TheVariants as prefixes
use Rattle.cl_meaning.specs.declared.kind.Role.{Role}
use Rattle.cl_meaning.specs.declared.kind.Role.TheVariants as roles
use Rattle.cl_meaning.specs.Environment.{Env}
use Rattle.cl_meaning.specs.Kinds.{is_some, kind_step}
use Rattle.cl_meaning.specs.Visible.{inside}
use Rattle.cl_meaning.specs.Faults.{Asked}
use Rattle.cl_check_sound.specs.Shape.{PrefixOf, IsExpressionOf, indexes}
use Rattle.cl_check_sound.specs.Sound.{SoundTree}
use Rattle.cl_short_vec.specs.declared.nodes.Span.{Span}
use Rattle.cl_short_vec.specs.declared.roles.Role.TheVariants.{Free}
use Rattle.cl_short_vec.specs.Types.{selection_in}
use Rattle.cl_short_vec.specs.Plain.{is_pointed}
use Rattle.cl_short_vec.specs.Kinds.{Names, prefix_kind, postfix_kind, selection_of}
use Rattle.cl_short_vec.specs.Nodes.{long_at, paren_at, element_at, scaled, further}
use Rattle.cl_short_vec.specs.Marks.{Mark, mark, unmarked, marking, kind_at, kind_by, marked, marked_parts}
use Rattle.cl_short_vec.specs.Roles.{is_place, is_element, element_by, operand_role}
use Rattle.cl_short_vec.specs.Faults.{selected_in, chosen, picked_by, components_of, refusals}
use Rattle.cl_short_vec.specs.Order.{count_in, under}
use Rattle.cl_short_vec.specs.Scalar.{prefixed, two_by, element_component, content_component, scalar, component_at}
use Rattle.cl_short_vec.proofs.Small.{SmallKind}
use Rattle.cl_short_vec_faults.specs.PlainForm.{plain_of}
use Rattle.cl_short_vec_faults.specs.Law.{KindAs}
use Rattle.cl_short_vec_faults.proofs.Building.{kind_here, Good}
use Rattle.cl_short_vec_faults.proofs.Places.{AllUnder, content_place, index_place, selection_is}
use Rattle.cl_short_vec_faults.proofs.Claims.{Has}
use Rattle.cl_short_vec_faults.proofs.Elements.{index_element, content_element}
use Rattle.cl_short_vec_faults.proofs.Placing.{Placed, element_placed, wrapped_good, place_tests, selected_as}

-- the content of a pointer
pub unary_placed : (asked : Asked) (p s : Env) (names : Names) (place : Role) (w : List ℕ) (f l : ℕ) (a : Syntax) →
    is_place (prefix_kind (prefix_in w) (kind_at (marked names a))) ≡ true →
    PrefixOf (prefix_in w) a (IsExpressionOf true a) →
    refusals (operand_role (prefix_in w) (prefix_kind (prefix_in w) (kind_at (marked names a))) (marked names a))
    (marked names a) ≡ [] → SoundTree asked p place (node forms.UnaryNode w f l (forest1 (plain_of a))) →
    (IsExpressionOf true a → refusals Free (marked names a) ≡ [] →
    Has asked p s roles.Other (kind_at (marked names a)) (plain_of a) (scalar (marked names a))) →
    SmallKind (prefix_kind (prefix_in w) (kind_at (marked names a))) →
    Placed asked p s (marked names (node forms.UnaryNode w f l (more a none)))
    (node forms.UnaryNode w f l (forest1 (plain_of a)))
unfolding scalar component_at marked marked_parts kind_by under components_of
unary_placed asked p s names place w f l a pk h r so rec small =
    let m = marked names a in
    let j = kind_at m in
    let u = scalar m in
    let t = node forms.UnaryNode w f l (more a none) in
    let own : Span = record { first = f; last = l } in
    let c = content_place (prefix_in w) j pk in
    let e = c.0 in
    let b = c.1 in
    let ha = subst (λ o. PrefixOf o a (IsExpressionOf true a)) e h in
    let free = subst (λ o. refusals (operand_role o (prefix_kind (prefix_in w) j) m) m ≡ []) e r in
    let x = subst (λ z. Has asked p s roles.Other z (plain_of a) u) b.pointer (rec ha free) in
    element_placed asked p s (marked names t) (node forms.UnaryNode w f l (forest1 (plain_of a))) b.space b.constant b.v
    (λ n at. element_at at (paren_at own u) (further n (long_at 0 own)))
    (element_at own (paren_at own u) (long_at 0 own))
    (content_element asked p s place w f l (plain_of a) u b.space b.constant b.v x so e) b.element
    (λ n at. ap (λ o. content_component forms.UnaryNode o j n at t u) e ∙
    ap (λ z. content_component forms.UnaryNode (Some prefixes.Content) z n at t u) b.pointer)
    (ap (λ o. prefixed o j t u) e ∙ ap (λ z. prefixed (Some prefixes.Content) z t u) b.pointer) refl refl small

-- an element at an index
pub index_placed : (asked : Asked) (p s : Env) (place : Role) (w : List ℕ) (f l : ℕ) (ps : Forest) (m m' : Mark)
    (ta tb : Syntax) → indexes (postfix_in w) ≡ true → selection_in w ≡ None →
    is_place (postfix_kind (selection_in w) (postfix_in w) (kind_at m)) ≡ true →
    SoundTree asked p place (node forms.PostfixNode w f l (forest2 ta tb)) →
    Has asked p s roles.Other (kind_at m) ta (scalar m) → Has asked p s roles.Other (kind_at m') tb (scalar m') →
    SmallKind (kind_at m) → SmallKind (postfix_kind (selection_in w) (postfix_in w) (kind_at m)) →
    Placed asked p s (mark (node forms.PostfixNode w f l ps) (postfix_kind (selection_in w) (postfix_in w) (kind_at m))
    (marking m (marking m' unmarked))) (node forms.PostfixNode w f l (forest2 ta tb))
unfolding scalar component_at under components_of
index_placed asked p s place w f l ps m m' ta tb i none' pk so x y ma small =
    let j = kind_at m in
    let ua = scalar m in
    let ub = scalar m' in
    let t = node forms.PostfixNode w f l ps in
    let k = postfix_kind (selection_in w) (postfix_in w) j in
    let own : Span = record { first = f; last = l } in
    let ek : k ≡ postfix_kind None (postfix_in w) j = ap (λ o. postfix_kind o (postfix_in w) j) none' in
    let b = (index_place (postfix_in w) j (sym (ap is_place ek) ∙ pk)).1 in
    let x' = subst (λ z. Has asked p s roles.Other z ta ua) b.pointer x in
    element_placed asked p s (mark t k (marking m (marking m' unmarked))) (node forms.PostfixNode w f l (forest2 ta tb))
    b.space b.constant b.v (λ n at. element_at at ua (further n (scaled b.v ub))) (element_at own ua (scaled b.v ub))
    (index_element asked p s place w f l ta tb ua ub i b.space b.constant b.v (kind_at m') x' y so
    (subst SmallKind b.pointer ma)) (ek ∙ b.element)
    (λ n at. ap (λ z. element_component forms.PostfixNode z n at t ua ub) b.pointer)
    (ap (λ z. two_by forms.PostfixNode z (kind_at m') t ua ub) b.pointer)
    (ap (λ o. if is_some o then under m else mark t k (marking m (marking m' unmarked))) none')
    (ap (λ o. picked_by o k j (components_of m)) none') small

-- parentheses
pub paren_placed : (asked : Asked) (p s : Env) (w : List ℕ) (f l : ℕ) (ps : Forest) (m : Mark) (ta : Syntax) →
    is_place (kind_at m) ≡ true → Placed asked p s m ta →
    Placed asked p s (mark (node forms.ParenNode w f l ps) (kind_at m) (marking m unmarked))
    (node forms.ParenNode w f l (forest1 ta))
unfolding scalar component_at under components_of is_element kind_step inside
paren_placed asked p s w f l ps m ta pk y = record {
  made = (refl, (inl y.made, tt));
  kind = y.kind;
  plain = kind_here p forms.ParenNode w f l (forest1 ta) refl (inl y.made, tt) ∙ y.plain;
  as' = y.as';
  component = y.component;
  element = λ e place. wrapped_good asked s place w f l (scalar m) y.kind (y.element e roles.Other)
      (place_tests (kind_at m) y.kind place pk y.as');
  below = y.below;
  many = y.many;
}

-- a selection of several components
pub selection_placed : (asked : Asked) (p s : Env) (w : List ℕ) (f l : ℕ) (ps : Forest) (m : Mark) (ta n : Syntax)
    (name : List ℕ) → selection_in w ≡ Some name → is_pointed w ≡ true →
    is_place (selection_of (kind_at m) name) ≡ true → Placed asked p s m ta →
    Placed asked p s (mark (node forms.PostfixNode w f l ps)
    (postfix_kind (selection_in w) (postfix_in w) (kind_at m)) (marking m unmarked))
    (if is_pointed w then ta else n)
unfolding scalar component_at under components_of is_element
selection_placed asked p s w f l ps m ta n name e b pk y =
    let j = kind_at m in
    let t = node forms.PostfixNode w f l ps in
    let k = postfix_kind (selection_in w) (postfix_in w) j in
    let whole = mark t k (marking m unmarked) in
    let ks = components_of m in
    let si = selection_is (count_in (kind_at (under m))) j name ks pk (λ g. (y.below, y.many)) in
    let ek : k ≡ selection_of j name = ap (λ o. postfix_kind o (postfix_in w) j) e in
    let eu : under whole ≡ under m = ap (λ o. if is_some o then under m else whole) e in
    let ec : components_of whole ≡ chosen (selected_in j name) ks = ap (λ o. picked_by o k j ks) e in
    let eb : count_in (kind_at (under whole)) ≡ count_in (kind_at (under m)) = ap (λ z. count_in (kind_at z)) eu in
    let x : Placed asked p s whole ta = record {
      made = y.made;
      kind = y.kind;
      plain = y.plain;
      as' = subst (λ z. KindAs z (Some y.kind)) (sym ek) (selected_as j name (Some y.kind) y.as');
      component = λ c at place q. subst (λ z. Good asked s place z y.kind)
          (sym (ap (λ o. if is_some o then component_at c at m else
          content_component forms.PostfixNode (prefix_in w) j c at t (scalar m)) e))
          (y.component c at place (subst (λ z. c < z) eb q));
      element = λ i place. absurd (false≢true (ap (λ o. element_by forms.PostfixNode o k (is_element m)) (sym e) ∙ i));
      below = subst (λ z. AllUnder z (components_of whole)) (sym eb)
          (subst (λ z. AllUnder (count_in (kind_at (under m))) z) (sym ec) si.below);
      many = ap length ec ∙ si.many ∙ ap count_in (sym ek);
    } in
    subst (λ z. Placed asked p s whole (if z then ta else n)) (sym b) x
