-- Operators on one operand, by what it is: signs, addresses, contents and steps; parentheses; and indices of numbers.
use Rattle.std.proofs.Common.{◌≡◌, ℕ, List, [], ◌∷◌, Option, None, Some, true, false, ◌&&◌, refl, ap, sym}
use Rattle.std.proofs.Common.{◌∙◌, subst, inl}
use Rattle.std.proofs.lemmas.Bool.{false≢true}
use Rattle.wg_num.specs.declared.types.Bin.{Bin}
use Rattle.wg_num.specs.declared.types.Un.{Un}
use Rattle.cl_tree.specs.declared.tree.Form.TheVariants as forms
use Rattle.cl_tree.specs.Syntax.{Syntax, node, Forest}
use Rattle.cl_tree.specs.Nodes.{forest1}
use Rattle.cl_meaning.specs.Spelling.{prefix_in, postfix_in}
use Rattle.cl_meaning.specs.declared.operators.Prefix.TheVariants as prefixes
use Rattle.cl_meaning.specs.declared.operators.Postfix.{Postfix}
use Rattle.cl_meaning.specs.declared.operators.Postfix.TheVariants as postfixes
use Rattle.cl_meaning.specs.declared.kind.Each.TheVariants as each
use Rattle.cl_meaning.specs.declared.kind.Reach.TheVariants as reach
use Rattle.cl_meaning.specs.declared.kind.Kind.TheVariants as kinds
use Rattle.cl_meaning.specs.declared.kind.Role.{Role}
use Rattle.cl_meaning.specs.declared.kind.Role.TheVariants as roles
use Rattle.cl_meaning.specs.Environment.{Env}
use Rattle.cl_meaning.specs.Kinds.{is_some, on_one, value_kind, prefix_kind, kind_step}
use Rattle.cl_meaning.specs.Faults.{Asked, given, unassignable, postfix_assigns}
use Rattle.cl_check_sound.specs.Shape.{indexes}
use Rattle.cl_check_sound.specs.Sound.{SoundTree}
use Rattle.cl_short_vec.specs.declared.kinds.Kind as vectors
use Rattle.cl_short_vec.specs.declared.kinds.Kind.TheVariants.{Vectors, Pointer, Other}
use Rattle.cl_short_vec.specs.Kinds as vector_kinds
use Rattle.cl_short_vec.specs.Kinds.{is_vector, pointer_alone, element_of, address_of}
use Rattle.cl_short_vec.specs.Scalar.{counted, counted_behind, prefixed, postfixed}
use Rattle.cl_short_vec.specs.declared.nodes.Span.{Span}
use Rattle.cl_short_vec.proofs.Small.{SmallKind}
use Rattle.cl_short_vec_faults.specs.Law.{KindAs}
use Rattle.cl_short_vec_faults.proofs.Building.{seen, Fine, Good}
use Rattle.cl_short_vec_faults.proofs.Unchanged.{fine_same, step_same}
use Rattle.cl_short_vec_faults.proofs.Known.{postfix_known}
use Rattle.cl_short_vec_faults.proofs.Nodes.{one_kind, one_good, Tests, tests_as}
use Rattle.cl_short_vec_faults.proofs.Counted.{SteppingBefore, SteppingBehind, prefix_steps, postfix_steps, pointer_set}
use Rattle.cl_short_vec_faults.proofs.Counted.{counted_good, behind_good}
use Rattle.cl_short_vec_faults.proofs.Kinded.{pointer_is, value_as, address_as}
use Rattle.cl_short_vec_faults.proofs.Claims.{Has, plain_fine, plain_step}
use Rattle.cl_short_vec_faults.proofs.Settings.{good_as}
use Rattle.cl_short_vec_faults.proofs.Prefixes.{unary_fine, unary_has, unary_same, unary_known, unary_set, operator_as}

-- ---- before the operand

module _ (asked : Asked) (p s : Env) (place : Role) (w : List ℕ) (f l : ℕ) (ps : Forest) (ta ua : Syntax)
    (ow : s.owner ≡ p.owner) where
  -- a sign
  pub sign_claim : (j : vectors.Kind) (op : Un) → Has asked p s roles.Other j ta ua →
      SoundTree asked p place (node forms.UnaryNode w f l (forest1 ta)) → prefix_in w ≡ Some (prefixes.Operator op) →
      is_vector j ≡ false →
      Has asked p s place (vector_kinds.prefix_kind (Some (prefixes.Operator op)) j)
      (node forms.UnaryNode w f l (forest1 ta)) (node forms.UnaryNode w f l (forest1 ua))
  sign_claim j op x so e u =
      let k = unary_known asked p s place w f l ps j ta ua ow x so (ap is_some e) in
      unary_same asked p s place w f l ps j ta ua ow x so (vector_kinds.prefix_kind (Some (prefixes.Operator op)) j) k.0
      k.1 (operator_as asked p s place w f l ps j ta ua ow x so op (Some k.0) u)

  -- what is no pointer to vectors, and its content
  pub content_claim : (j : vectors.Kind) → Has asked p s roles.Other j ta ua →
      SoundTree asked p place (node forms.UnaryNode w f l (forest1 ta)) → prefix_in w ≡ Some prefixes.Content →
      is_vector (element_of j) ≡ false →
      Has asked p s place (element_of j) (node forms.UnaryNode w f l (forest1 ta))
      (prefixed (Some prefixes.Content) j (node forms.UnaryNode w f l ps) ua)
  content_claim (Pointer sp c v) x so e u = absurd (false≢true (sym u))
  content_claim (Vectors v r) x so e u =
      let k = unary_known asked p s place w f l ps (Vectors v r) ta ua ow x so (ap is_some e) in
      unary_same asked p s place w f l ps (Vectors v r) ta ua ow x so (Other true) k.0 k.1 tt
  content_claim (Other b) x so e u =
      let k = unary_known asked p s place w f l ps (Other b) ta ua ow x so (ap is_some e) in
      unary_same asked p s place w f l ps (Other b) ta ua ow x so (Other b) k.0 k.1 tt

  pub address_claim : (j : vectors.Kind) → Has asked p s roles.Other j ta ua →
      SoundTree asked p place (node forms.UnaryNode w f l (forest1 ta)) → prefix_in w ≡ Some prefixes.Address →
      Has asked p s place (address_of j) (node forms.UnaryNode w f l (forest1 ta))
      (node forms.UnaryNode w f l (forest1 ua))
  unfolding kind_step
  address_claim j x so e =
      let k = unary_known asked p s place w f l ps j ta ua ow x so (ap is_some e) in
      unary_same asked p s place w f l ps j ta ua ow x so (address_of j) k.0 k.1 (address_as j x.kind k.0 x.as'
      (ap (λ o. on_one o (λ q. prefix_kind q (Some x.kind ∷ []))) (sym e) ∙ k.1))

  -- a pointer to vectors that is counted, and any other variable
  pub before_claim : (j : vectors.Kind) (op : Bin) → Has asked p s roles.Other j ta ua →
      SoundTree asked p place (node forms.UnaryNode w f l (forest1 ta)) → prefix_in w ≡ Some (prefixes.Step op) →
      SmallKind j →
      Has asked p s place (pointer_alone j) (node forms.UnaryNode w f l (forest1 ta))
      (prefixed (Some (prefixes.Step op)) j (node forms.UnaryNode w f l ps) ua)
  before_claim (Pointer sp c v) op x so e m =
      let st = unary_set asked p s place w f l ps (Pointer sp c v) ta ua ow x so op e in
      let i = pointer_is sp c v x.kind x.as' in
      let q = pointer_set sp v.of c i.root each.Element i.reach' (subst (λ z. unassignable z ≡ false) i.pointer st.1) in
      let k : x.kind ≡ kinds.Pointer sp v.of c i.root each.Element (reach.Variable false) =
      i.pointer ∙ ap (λ z. kinds.Pointer sp v.of c i.root each.Element z) q in
      let kv : value_kind x.kind ≡ kinds.Pointer sp v.of c i.root each.Element reach.Value = ap value_kind k in
      let t = subst (λ z. Tests place z) kv (tests_as place (kind_step p forms.UnaryNode w (forest1 ta)
      (Some x.kind ∷ [])) (value_kind x.kind) st.0
      (unary_fine asked p s place w f l ps (Pointer sp c v) ta ua ow x so).tested) in
      let at : Span = record { first = f; last = l } in
      unary_has asked p s place w f l ps (Pointer sp c v) ta ua ow x so (Pointer sp c v) (counted op v at ua)
      (value_kind x.kind) st.0 (value_as (Pointer sp c v) x.kind x.as')
      (good_as asked s place (counted op v at ua) (kinds.Pointer sp v.of c i.root each.Element reach.Value)
      (value_kind x.kind) (sym kv) (counted_good asked s v at ua sp v.of c i.root m
      (good_as asked s roles.Other ua x.kind (kinds.Pointer sp v.of c i.root each.Element (reach.Variable false)) k
      x.good) op (subst SteppingBefore e (prefix_steps w)) place t))
  before_claim (Vectors v r) op x so e m =
      let st = unary_set asked p s place w f l ps (Vectors v r) ta ua ow x so op e in
      unary_same asked p s place w f l ps (Vectors v r) ta ua ow x so (Other true) (value_kind x.kind) st.0 tt
  before_claim (Other b) op x so e m =
      let st = unary_set asked p s place w f l ps (Other b) ta ua ow x so op e in
      unary_same asked p s place w f l ps (Other b) ta ua ow x so (Other b) (value_kind x.kind) st.0 tt

-- ---- parentheses

pub paren_claim : (asked : Asked) (p s : Env) (place : Role) (w : List ℕ) (f l : ℕ) (j : vectors.Kind) (ta ua :
    Syntax) →
    s.owner ≡ p.owner → Has asked p s roles.Other j ta ua →
    SoundTree asked p place (node forms.ParenNode w f l (forest1 ta)) →
    Has asked p s place j (node forms.ParenNode w f l (forest1 ta)) (node forms.ParenNode w f l (forest1 ua))
unfolding kind_step
paren_claim asked p s place w f l j ta ua ow x so =
    let kp = one_kind p ta (Some x.kind) x.plain in
    let n = plain_fine asked p place forms.ParenNode w f l (forest1 ta) refl refl (inl x.made, tt) so (Some x.kind ∷ [])
    kp in
    record {
      made = (refl, (inl x.made, tt));
      kind = x.kind;
      plain = plain_step asked p place forms.ParenNode w f l (forest1 ta) refl refl (inl x.made, tt) so
          (Some x.kind ∷ []) kp;
      as' = x.as';
      good = one_good asked s place forms.ParenNode w f l x.kind refl refl ua x.kind x.good
          (fine_same forms.ParenNode refl asked p s place w f (forest1 ta) (forest1 ua) (Some x.kind ∷ []) tt ow tt tt
          n)
          refl;
    }

-- ---- behind the operand

module _ (asked : Asked) (p s : Env) (place : Role) (w : List ℕ) (f l : ℕ) (ps : Forest) (ta ua : Syntax)
    (ow : s.owner ≡ p.owner) (h : is_some (postfix_in w) ≡ true) (d : indexes (postfix_in w) ≡ false) where
  module _ (j : vectors.Kind) (x : Has asked p s roles.Other j ta ua)
      (so : SoundTree asked p place (node forms.PostfixNode w f l (forest1 ta))) where
    behind_fine : Fine asked (seen p place forms.PostfixNode w f (forest1 ta) (Some x.kind ∷ []))
    behind_fine = plain_fine asked p place forms.PostfixNode w f l (forest1 ta) refl refl (inl x.made, tt) so
        (Some x.kind ∷ []) (one_kind p ta (Some x.kind) x.plain)

    behind_step : kind_step p forms.PostfixNode w (forest1 ta) (Some x.kind ∷ []) ≡ Some (value_kind x.kind)
    unfolding kind_step
    behind_step = postfix_known (postfix_in w) x.kind h d behind_fine.assignable behind_fine.written

    behind_has : (i : vectors.Kind) (u : Syntax) → KindAs i (Some (value_kind x.kind)) →
        Good asked s place u (value_kind x.kind) → Has asked p s place i (node forms.PostfixNode w f l (forest1 ta)) u
    behind_has i u a g = record {
      made = (refl, (inl x.made, tt));
      kind = value_kind x.kind;
      plain = plain_step asked p place forms.PostfixNode w f l (forest1 ta) refl refl (inl x.made, tt) so
          (Some x.kind ∷ []) (one_kind p ta (Some x.kind) x.plain) ∙ behind_step;
      as' = a;
      good = g;
    }

    behind_same : (i : vectors.Kind) → KindAs i (Some (value_kind x.kind)) →
        Has asked p s place i (node forms.PostfixNode w f l (forest1 ta)) (node forms.PostfixNode w f l (forest1 ua))
    behind_same i a = behind_has i (node forms.PostfixNode w f l (forest1 ua)) a
        (one_good asked s place forms.PostfixNode w f l (value_kind x.kind) refl refl ua x.kind x.good
        (fine_same forms.PostfixNode refl asked p s place w f (forest1 ta) (forest1 ua) (Some x.kind ∷ []) tt ow tt tt
        behind_fine)
        (step_same forms.PostfixNode p s w (forest1 ta) (forest1 ua) (Some x.kind ∷ []) tt tt ∙ behind_step))

    behind_set : (op : Bin) → postfix_in w ≡ Some (postfixes.Step op) → unassignable x.kind ≡ false
    behind_set op e = ap (λ o. given o postfix_assigns && unassignable x.kind) (sym e) ∙ behind_fine.assignable

  by_step : (j : vectors.Kind) (o : Option Postfix) → postfix_in w ≡ o → Has asked p s roles.Other j ta ua →
      SoundTree asked p place (node forms.PostfixNode w f l (forest1 ta)) → SmallKind j →
      Has asked p s place (vector_kinds.postfix_kind None o j) (node forms.PostfixNode w f l (forest1 ta))
      (postfixed o j (node forms.PostfixNode w f l ps) ua)
  by_step j None e x so m = absurd (false≢true (ap is_some (sym e) ∙ h))
  by_step j (Some postfixes.Index) e x so m = absurd (false≢true (sym (ap indexes (sym e) ∙ d)))
  by_step (Pointer sp c v) (Some (postfixes.Step op)) e x so m =
      let i = pointer_is sp c v x.kind x.as' in
      let q = pointer_set sp v.of c i.root each.Element i.reach'
      (subst (λ z. unassignable z ≡ false) i.pointer (behind_set (Pointer sp c v) x so op e)) in
      let k : x.kind ≡ kinds.Pointer sp v.of c i.root each.Element (reach.Variable false) =
      i.pointer ∙ ap (λ z. kinds.Pointer sp v.of c i.root each.Element z) q in
      let kv : value_kind x.kind ≡ kinds.Pointer sp v.of c i.root each.Element reach.Value = ap value_kind k in
      let t = subst (λ z. Tests place z) kv (tests_as place (kind_step p forms.PostfixNode w (forest1 ta)
      (Some x.kind ∷ [])) (value_kind x.kind) (behind_step (Pointer sp c v) x so)
      (behind_fine (Pointer sp c v) x so).tested) in
      let at : Span = record { first = f; last = l } in
      behind_has (Pointer sp c v) x so (Pointer sp c v) (counted_behind op v at ua)
      (value_as (Pointer sp c v) x.kind x.as')
      (good_as asked s place (counted_behind op v at ua) (kinds.Pointer sp v.of c i.root each.Element reach.Value)
      (value_kind x.kind) (sym kv) (behind_good asked s v at ua sp v.of c i.root m
      (good_as asked s roles.Other ua x.kind (kinds.Pointer sp v.of c i.root each.Element (reach.Variable false)) k
      x.good) op (subst SteppingBehind e (postfix_steps w)) place t))
  by_step (Vectors v r) (Some (postfixes.Step op)) e x so m = behind_same (Vectors v r) x so (Other true) tt
  by_step (Other b) (Some (postfixes.Step op)) e x so m = behind_same (Other b) x so (Other b) tt

  pub step_claim : (j : vectors.Kind) → Has asked p s roles.Other j ta ua →
      SoundTree asked p place (node forms.PostfixNode w f l (forest1 ta)) → SmallKind j →
      Has asked p s place (vector_kinds.postfix_kind None (postfix_in w) j) (node forms.PostfixNode w f l (forest1 ta))
      (postfixed (postfix_in w) j (node forms.PostfixNode w f l ps) ua)
  step_claim j x so m = by_step j (postfix_in w) refl x so m
