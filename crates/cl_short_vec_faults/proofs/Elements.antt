-- Elements behind pointers: of numbers, and of vectors with their components.
use Rattle.std.proofs.Common.{◌≡◌, ℕ, ◌≤◌, List, [], ◌∷◌, Option, None, Some, Bool, true, refl, ap, sym, ◌∙◌, inl}
use Rattle.std.proofs.Common.{arith}
use Rattle.std.proofs.lemmas.Bool.{false≢true}
use Rattle.std.proofs.lemmas.Option.{none-some}
use Rattle.wg_num.specs.declared.types.IntType.{IntType}
use Rattle.wg_num.specs.declared.types.IntType.TheVariants as types
use Rattle.cl_model.specs.declared.program.Space.{Space}
use Rattle.cl_model.specs.declared.program.Root.{Root}
use Rattle.cl_tree.specs.declared.tree.Form.TheVariants as forms
use Rattle.cl_tree.specs.Syntax.{Syntax, node}
use Rattle.cl_tree.specs.Nodes.{forest1, forest2}
use Rattle.cl_meaning.specs.Spelling.{prefix_in, postfix_in}
use Rattle.cl_meaning.specs.declared.operators.Prefix.TheVariants as prefixes
use Rattle.cl_meaning.specs.declared.operators.Postfix.{Postfix}
use Rattle.cl_meaning.specs.declared.operators.Postfix.TheVariants as postfixes
use Rattle.cl_meaning.specs.declared.kind.Each.TheVariants as each
use Rattle.cl_meaning.specs.declared.kind.Reach.{Reach}
use Rattle.cl_meaning.specs.declared.kind.Reach.TheVariants as reach
use Rattle.cl_meaning.specs.declared.kind.Kind.{Kind}
use Rattle.cl_meaning.specs.declared.kind.Kind.TheVariants as kinds
use Rattle.cl_meaning.specs.declared.kind.Role.{Role}
use Rattle.cl_meaning.specs.declared.kind.Role.TheVariants as roles
use Rattle.cl_meaning.specs.Environment.{Env}
use Rattle.cl_meaning.specs.Kinds.{on_one, index_kind, prefix_kind, postfix_kind, kind_step}
use Rattle.cl_meaning.specs.Visible.{kind_of}
use Rattle.cl_meaning.specs.Faults.{Asked, misfits}
use Rattle.cl_check_sound.specs.Shape.{OfExpressions, indexes}
use Rattle.cl_check_sound.specs.Sound.{SoundTree}
use Rattle.cl_short_vec.specs.declared.nodes.Span.{Span}
use Rattle.cl_short_vec.specs.declared.types.Vector.{Vector}
use Rattle.cl_short_vec.specs.declared.kinds.Kind as vectors
use Rattle.cl_short_vec.specs.declared.kinds.Kind.TheVariants.{Pointer, Other}
use Rattle.cl_short_vec.specs.Nodes.{long_at, paren_at, element_at, scaled, further}
use Rattle.cl_short_vec_faults.proofs.Building.{Good}
use Rattle.cl_short_vec_faults.proofs.Known.{index_known}
use Rattle.cl_short_vec_faults.proofs.Nodes.{one_kind}
use Rattle.cl_short_vec_faults.proofs.Made.{long_good, paren_good}
use Rattle.cl_short_vec_faults.proofs.Counted.{scaled_good, further_good, element_good}
use Rattle.cl_short_vec_faults.proofs.Kinded.{pointer_is}
use Rattle.cl_short_vec_faults.proofs.Claims.{Has, two_plain, two_step, two_same, plain_step}
use Rattle.cl_short_vec_faults.proofs.Settings.{good_as}

-- an element of vectors, whose plain form is this: each component, and the first one
pub record IsElement (asked : Asked) (p s : Env) (space : Space) (c : Bool) (v : Vector) (t : Syntax)
    (component : ℕ → Span → Syntax) (whole : Syntax) : Type 0 where
  pub made : OfExpressions t
  pub root : Root
  pub plain : kind_of p t ≡ Some (kinds.Number v.of (reach.Element space c root))
  pub at' : (n : ℕ) (at : Span) (place : Role) → n ≤ 16 →
      Good asked s place (component n at) (kinds.Number v.of (reach.Element space c root))
  pub whole' : (place : Role) → Good asked s place whole (kinds.Number v.of (reach.Element space c root))

-- a pointer is indexed by a number
by_number : (s : Space) (e : IntType) (c : Bool) (r : Root) (q : Reach) (k j : Kind) →
    index_kind (kinds.Pointer s e c r each.Element q) k ≡ Some j →
    (t : IntType) × (x : Reach) × (k ≡ kinds.Number t x) × (Some j ≡ Some (kinds.Number e (reach.Element s c r)))
by_number s e c r q (kinds.Number t x) j h = (t, x, refl, sym h)
by_number s e c r q (kinds.Pointer s' e' c' r' i x) j h = absurd (none-some j h)
by_number s e c r q kinds.Nothing j h = absurd (none-some j h)

module _ (asked : Asked) (p s : Env) (place : Role) (w : List ℕ) (f l : ℕ) (ta tb ua ub : Syntax)
    (i : indexes (postfix_in w) ≡ true) where
  -- an element of what points to no vectors
  pub index_claim : (known : Bool) (ja jb : vectors.Kind) → Has asked p s roles.Other ja ta ua →
      Has asked p s roles.Other jb tb ub →
      SoundTree asked p place (node forms.PostfixNode w f l (forest2 ta tb)) → s.owner ≡ p.owner →
      Has asked p s place (Other known) (node forms.PostfixNode w f l (forest2 ta tb))
      (node forms.PostfixNode w f l (forest2 ua ub))
  unfolding kind_step misfits
  index_claim known ja jb x y so ow =
      let k = (index_known (postfix_in w) x.kind y.kind i
      (two_plain asked p s place forms.PostfixNode w f l refl refl ja jb ta tb ua ub x y so).fit).0 in
      two_same asked p s place forms.PostfixNode w f l refl refl ja jb ta tb ua ub x y so (Other known) k.0 ow tt tt tt
      k.1 tt

  index_step : (o : Option Postfix) (a b k : Kind) → indexes o ≡ true → index_kind a b ≡ Some k →
      on_one o (λ q. postfix_kind q (Some a ∷ Some b ∷ [])) ≡ Some k
  index_step (Some postfixes.Index) a b k h e = e
  index_step (Some (postfixes.Step op)) a b k h e = absurd (false≢true h)
  index_step None a b k h e = absurd (false≢true h)

  pub index_element : (sp : Space) (c : Bool) (v : Vector) (jb : vectors.Kind) →
      Has asked p s roles.Other (Pointer sp c v) ta ua → Has asked p s roles.Other jb tb ub →
      SoundTree asked p place (node forms.PostfixNode w f l (forest2 ta tb)) → v.count ≤ 16 →
      IsElement asked p s sp c v (node forms.PostfixNode w f l (forest2 ta tb))
      (λ n at. element_at at ua (further n (scaled v ub)))
      (element_at (record { first = f; last = l }) ua (scaled v ub))
  unfolding kind_step misfits
  index_element sp c v jb x y so small =
      let k = (index_known (postfix_in w) x.kind y.kind i
      (two_plain asked p s place forms.PostfixNode w f l refl refl (Pointer sp c v) jb ta tb ua ub x y so).fit).1 in
      let a = pointer_is sp c v x.kind x.as' in
      let b = by_number sp v.of c a.root a.reach' y.kind k.0 (ap (λ z. index_kind z y.kind) (sym a.pointer) ∙ k.1) in
      let pointer = good_as asked s roles.Other ua x.kind (kinds.Pointer sp v.of c a.root each.Element a.reach')
      a.pointer
      x.good in
      let index = scaled_good asked s v ub b.0 b.1 small (good_as asked s roles.Other ub y.kind (kinds.Number b.0 b.1)
      b.2
      y.good) in
      record {
        made = (refl, (inl x.made, (inl y.made, tt)));
        root = a.root;
        plain = two_step asked p s place forms.PostfixNode w f l refl refl (Pointer sp c v) jb ta tb ua ub x y so ∙
            index_step (postfix_in w) x.kind y.kind k.0 i k.1 ∙ b.3;
        at' = λ n at r h. element_good asked s r at ua (further n (scaled v ub)) sp v.of c a.root a.reach' types.Long
            reach.Value pointer (further_good asked s n (scaled v ub) h index);
        whole' = λ r. element_good asked s r (record { first = f; last = l }) ua (scaled v ub) sp v.of c a.root a.reach'
            types.Long reach.Value pointer index;
      }

-- the content of a pointer
pub content_element : (asked : Asked) (p s : Env) (place : Role) (w : List ℕ) (f l : ℕ) (ta ua : Syntax) (sp : Space)
    (c : Bool) (v : Vector) → Has asked p s roles.Other (Pointer sp c v) ta ua →
    SoundTree asked p place (node forms.UnaryNode w f l (forest1 ta)) → prefix_in w ≡ Some prefixes.Content →
    IsElement asked p s sp c v (node forms.UnaryNode w f l (forest1 ta))
    (λ n at. element_at at (paren_at (record { first = f; last = l }) ua)
    (further n (long_at 0 (record { first = f; last = l }))))
    (element_at (record { first = f; last = l }) (paren_at (record { first = f; last = l }) ua)
    (long_at 0 (record { first = f; last = l })))
unfolding kind_step
content_element asked p s place w f l ta ua sp c v x so e =
    let a = pointer_is sp c v x.kind x.as' in
    let own : Span = record { first = f; last = l } in
    let pointer = paren_good asked s roles.Other own ua (kinds.Pointer sp v.of c a.root each.Element a.reach')
    (good_as asked s roles.Other ua x.kind (kinds.Pointer sp v.of c a.root each.Element a.reach') a.pointer x.good)
    refl in
    let zero = long_good asked s roles.Other 0 own (omega arith) in
    record {
      made = (refl, (inl x.made, tt));
      root = a.root;
      plain = plain_step asked p place forms.UnaryNode w f l (forest1 ta) refl refl (inl x.made, tt) so (Some x.kind ∷
          [])
          (one_kind p ta (Some x.kind) x.plain) ∙ ap (λ o. on_one o (λ q. prefix_kind q (Some x.kind ∷ []))) e ∙
          ap (λ z. prefix_kind prefixes.Content (Some z ∷ [])) a.pointer;
      at' = λ n at r h. element_good asked s r at (paren_at own ua) (further n (long_at 0 own)) sp v.of c a.root
          a.reach'
          types.Long reach.Value pointer (further_good asked s n (long_at 0 own) h zero);
      whole' = λ r. element_good asked s r own (paren_at own ua) (long_at 0 own) sp v.of c a.root a.reach' types.Long
          reach.Value pointer zero;
    }
