-- Operators before and behind one operand, the size of a type, and casts.
use Rattle.std.proofs.Common.{◌≡◌, ℕ, List, [], ◌∷◌, Option, None, Some, true, false, ◌&&◌, refl, ap, sym}
use Rattle.std.proofs.Common.{◌∙◌, inl, inr}
use Rattle.std.proofs.lemmas.Bool.{false≢true}
use Rattle.wg_num.specs.declared.types.IntType.TheVariants as types
use Rattle.wg_num.specs.declared.types.Bin.{Bin}
use Rattle.wg_num.specs.declared.types.Un.{Un}
use Rattle.wg_num.specs.declared.types.Un.TheVariants as uns
use Rattle.cl_tree.specs.declared.tree.Form.TheVariants as forms
use Rattle.cl_tree.specs.Syntax.{Syntax, node, Forest, none, more}
use Rattle.cl_tree.specs.Nodes.{forest1, forest2}
use Rattle.cl_meaning.specs.Spelling.{prefix_in}
use Rattle.cl_meaning.specs.declared.operators.Prefix.TheVariants as prefixes
use Rattle.cl_meaning.specs.declared.fault.Fault.TheVariants as faults
use Rattle.cl_meaning.specs.declared.kind.Kind.{Kind}
use Rattle.cl_meaning.specs.declared.kind.Role.{Role}
use Rattle.cl_meaning.specs.declared.kind.Role.TheVariants as roles
use Rattle.cl_meaning.specs.Environment.{Env}
use Rattle.cl_meaning.specs.Kinds.{is_some, on_one, number, value_kind, prefix_kind, kind_step, cast_kind}
use Rattle.cl_meaning.specs.Kinds.{is_constant_memory}
use Rattle.cl_meaning.specs.Visible.{kind_of}
use Rattle.cl_meaning.specs.Faults.{Asked, given, lacks, unassignable, misfits, prefix_assigns}
use Rattle.cl_check_sound.specs.Shape.{IsType}
use Rattle.cl_check_sound.specs.Sound.{SoundTree}
use Rattle.cl_check_sound.proofs.Cases.{the_some}
use Rattle.cl_check_sound.proofs.Typed.{type_declares}
use Rattle.cl_short_vec.specs.declared.kinds.Kind as vectors
use Rattle.cl_short_vec.specs.declared.kinds.Kind.TheVariants.{Vectors, Pointer, Other}
use Rattle.cl_short_vec.specs.Kinds as vector_kinds
use Rattle.cl_short_vec.specs.Kinds.{Names, is_vector, value_of, pointer_alone}
use Rattle.cl_short_vec.specs.Types.{vector_type}
use Rattle.cl_short_vec.specs.Marks.{marked, marked_parts}
use Rattle.cl_short_vec.specs.Scalar.{component_words, scalar}
use Rattle.cl_short_vec_faults.specs.PlainForm.{plain_of, plains_of}
use Rattle.cl_short_vec_faults.specs.Law.{KindAs}
use Rattle.cl_short_vec_faults.proofs.Building.{seen, Fine, Good}
use Rattle.cl_short_vec_faults.proofs.Unchanged.{fine_same, step_same}
use Rattle.cl_short_vec_faults.proofs.Known.{not_false, step_known, prefix_known}
use Rattle.cl_short_vec_faults.proofs.Nodes.{one_kind, two_kinds, one_good, whole_good}
use Rattle.cl_short_vec_faults.proofs.Made.{type_good, spaced_good}
use Rattle.cl_short_vec_faults.proofs.Claims.{Has, plain_here, plain_fine, plain_step}

-- ---- types

-- a type that is no vector stays
pub type_kept : (t : Syntax) (names : Names) → IsType t → vector_type t ≡ None →
    (scalar (marked names t) ≡ t) × (plain_of t ≡ t)
unfolding scalar marked marked_parts plain_of plains_of
type_kept (node forms.TypeNode w f l none) names h e = (
  ap (λ z. node forms.TypeNode (component_words z w) f l none) e,
  ap (λ z. node forms.TypeNode (component_words z w) f l none) e,
)
type_kept (node forms.TypeNode w f l (more (node forms.SpaceNode w' f' l' none) none)) names h e =
    let q : Forest = more (node forms.SpaceNode w' f' l' none) none in (
      ap (λ z. node forms.TypeNode (component_words z w) f l q) e,
      ap (λ z. node forms.TypeNode (component_words z w) f l q) e,
    )
type_kept t names h e = absurd h

type_kind : (env : Env) (t : Syntax) → IsType t → kind_of env t ≡ None
unfolding kind_of kind_step
type_kind env (node forms.TypeNode w f l none) h = refl
type_kind env (node forms.TypeNode w f l (more (node forms.SpaceNode w' f' l' none) none)) h = refl
type_kind env t h = absurd h

-- it is at fault by its own words alone
type_sound : (asked : Asked) (p s : Env) (t : Syntax) → IsType t → SoundTree asked p roles.Other t →
    SoundTree asked s roles.Other t
type_sound asked p s (node forms.TypeNode w f l none) h so =
    type_good asked s w f l (so.1.0 faults.OutsideType)
type_sound asked p s (node forms.TypeNode w f l (more (node forms.SpaceNode w' f' l' none) none)) h so =
    spaced_good asked s w f l w' f' l' (so.1.0 faults.OutsideType)
type_sound asked p s t h so = absurd h

pub size_claim : (asked : Asked) (p s : Env) (place : Role) (w : List ℕ) (f l : ℕ) (t : Syntax) → IsType t →
    SoundTree asked p place (node forms.UnaryNode w f l (forest1 t)) → prefix_in w ≡ Some prefixes.Size →
    s.owner ≡ p.owner →
    Has asked p s place (Other true) (node forms.UnaryNode w f l (forest1 t)) (node forms.UnaryNode w f l (forest1 t))
unfolding kind_step
size_claim asked p s place w f l t h so e ow =
    let P = forest1 t in
    let ks : List (Option Kind) = None ∷ [] in
    let here = plain_here asked p place forms.UnaryNode w f l P refl refl (inr h, tt) so in
    let n = plain_fine asked p place forms.UnaryNode w f l P refl refl (inr h, tt) so ks (one_kind p t None (type_kind
    p t
    h)) in
    let st = ap (λ o. on_one o (λ q. prefix_kind q ks)) e in
    record {
      made = (refl, (inr h, tt));
      kind = number types.Ulong;
      plain = plain_step asked p place forms.UnaryNode w f l P refl refl (inr h, tt) so ks
          (one_kind p t None (type_kind p t h)) ∙ st;
      as' = tt;
      good = whole_good asked s place forms.UnaryNode w f l (number types.Ulong) refl refl P ks (inr h, tt)
          (type_sound asked p s t h here.0, tt) (one_kind s t None (type_kind s t h))
          (fine_same forms.UnaryNode refl asked p s place w f P P ks tt ow tt tt n) st;
    }

pub cast_claim : (asked : Asked) (p s : Env) (place : Role) (w : List ℕ) (f l : ℕ) (t : Syntax) (j : vectors.Kind)
    (ta ua : Syntax) → IsType t → Has asked p s roles.Other j ta ua →
    SoundTree asked p place (node forms.CastNode w f l (forest2 t ta)) → s.owner ≡ p.owner →
    Has asked p s place (Other true) (node forms.CastNode w f l (forest2 t ta))
    (node forms.CastNode w f l (forest2 t ua))
unfolding kind_step misfits
cast_claim asked p s place w f l t j ta ua h x so ow =
    let P = forest2 t ta in
    let S = forest2 t ua in
    let ks : List (Option Kind) = None ∷ Some x.kind ∷ [] in
    let here = plain_here asked p place forms.CastNode w f l P refl refl (inr h, (inl x.made, tt)) so in
    let kp = two_kinds p t ta None (Some x.kind) (type_kind p t h) x.plain in
    let n = plain_fine asked p place forms.CastNode w f l P refl refl (inr h, (inl x.made, tt)) so ks kp in
    let d = type_declares asked p roles.Other t h here.0 in
    let k = the_some (cast_kind (Some d.0) x.kind) (not_false (is_some (cast_kind (Some d.0) x.kind))
    (ap (λ o. given o (λ y. lacks (cast_kind (Some y)) (Some x.kind ∷ []))) (sym d.1) ∙ n.fit)) in
    let st = ap (λ o. cast_kind o x.kind) d.1 ∙ k.1 in
    record {
      made = (refl, (inr h, (inl x.made, tt)));
      kind = k.0;
      plain = plain_step asked p place forms.CastNode w f l P refl refl (inr h, (inl x.made, tt)) so ks kp ∙ st;
      as' = tt;
      good = whole_good asked s place forms.CastNode w f l k.0 refl refl S ks (inr h, (inl x.good.made, tt))
          (type_sound asked p s t h here.0, (x.good.sound, tt))
          (two_kinds s t ua None (Some x.kind) (type_kind s t h) x.good.kind)
          (fine_same forms.CastNode refl asked p s place w f P S ks tt ow (refl, refl) tt n) st;
    }

-- ---- one operand

module _ (asked : Asked) (p s : Env) (place : Role) (w : List ℕ) (f l : ℕ) (ps : Forest) (j : vectors.Kind)
    (ta ua : Syntax) (ow : s.owner ≡ p.owner) (x : Has asked p s roles.Other j ta ua) where
  -- before the operand
  module _ (so : SoundTree asked p place (node forms.UnaryNode w f l (forest1 ta))) where
    pub unary_fine : Fine asked (seen p place forms.UnaryNode w f (forest1 ta) (Some x.kind ∷ []))
    unary_fine = plain_fine asked p place forms.UnaryNode w f l (forest1 ta) refl refl (inl x.made, tt) so
        (Some x.kind ∷ []) (one_kind p ta (Some x.kind) x.plain)

    pub unary_has : (i : vectors.Kind) (u : Syntax) (k : Kind) →
        kind_step p forms.UnaryNode w (forest1 ta) (Some x.kind ∷ []) ≡ Some k → KindAs i (Some k) →
        Good asked s place u k → Has asked p s place i (node forms.UnaryNode w f l (forest1 ta)) u
    unary_has i u k st a g = record {
      made = (refl, (inl x.made, tt));
      kind = k;
      plain = plain_step asked p place forms.UnaryNode w f l (forest1 ta) refl refl (inl x.made, tt) so
          (Some x.kind ∷ []) (one_kind p ta (Some x.kind) x.plain) ∙ st;
      as' = a;
      good = g;
    }

    pub unary_same : (i : vectors.Kind) (k : Kind) →
        kind_step p forms.UnaryNode w (forest1 ta) (Some x.kind ∷ []) ≡ Some k → KindAs i (Some k) →
        Has asked p s place i (node forms.UnaryNode w f l (forest1 ta)) (node forms.UnaryNode w f l (forest1 ua))
    unary_same i k st a = unary_has i (node forms.UnaryNode w f l (forest1 ua)) k st a
        (one_good asked s place forms.UnaryNode w f l k refl refl ua x.kind x.good
        (fine_same forms.UnaryNode refl asked p s place w f (forest1 ta) (forest1 ua) (Some x.kind ∷ []) tt ow tt tt
        unary_fine)
        (step_same forms.UnaryNode p s w (forest1 ta) (forest1 ua) (Some x.kind ∷ []) tt tt ∙ st))

    pub unary_known : is_some (prefix_in w) ≡ true →
        (k : Kind) × (kind_step p forms.UnaryNode w (forest1 ta) (Some x.kind ∷ []) ≡ Some k)
    unfolding kind_step misfits
    unary_known h = prefix_known (prefix_in w) x.kind h unary_fine.fit unary_fine.assignable unary_fine.written

    -- a variable that is counted up or down
    pub unary_set : (op : Bin) → prefix_in w ≡ Some (prefixes.Step op) →
        (kind_step p forms.UnaryNode w (forest1 ta) (Some x.kind ∷ []) ≡ Some (value_kind x.kind)) ×
        (unassignable x.kind ≡ false)
    unfolding kind_step
    unary_set op e =
        let a : unassignable x.kind ≡ false =
        ap (λ o. given o prefix_assigns && unassignable x.kind) (sym e) ∙ unary_fine.assignable in
        let b : is_constant_memory x.kind ≡ false =
        ap (λ o. given o prefix_assigns && is_constant_memory x.kind) (sym e) ∙ unary_fine.written in
        (ap (λ o. on_one o (λ q. prefix_kind q (Some x.kind ∷ []))) e ∙ step_known x.kind a b, a)

    pub operator_as : (op : Un) (k : Option Kind) → is_vector j ≡ false →
        KindAs (vector_kinds.prefix_kind (Some (prefixes.Operator op)) j) k
    operator_as op k u = by op j u
      where
        by : (op : Un) (i : vectors.Kind) → is_vector i ≡ false →
            KindAs (vector_kinds.prefix_kind (Some (prefixes.Operator op)) i) k
        by uns.Not i v = tt
        by uns.Plus (Pointer sp c z) v = tt
        by uns.Plus (Other b) v = tt
        by uns.Plus (Vectors z r) v = absurd (false≢true (sym v))
        by uns.Minus (Pointer sp c z) v = tt
        by uns.Minus (Other b) v = tt
        by uns.Minus (Vectors z r) v = absurd (false≢true (sym v))
        by uns.Flip (Pointer sp c z) v = tt
        by uns.Flip (Other b) v = tt
        by uns.Flip (Vectors z r) v = absurd (false≢true (sym v))
