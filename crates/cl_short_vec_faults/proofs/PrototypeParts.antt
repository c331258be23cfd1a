-- The parts of a prototype: its heads, its result and its parameters.
use Rattle.std.proofs.Common.{◌≡◌, ℕ, length, Option, Some, Bool, true, false, refl}
use Rattle.std.proofs.Common.{ap, sym, subst, inl, inr}
use Rattle.cl_tree.specs.declared.tree.Form.TheVariants as forms
use Rattle.cl_tree.specs.Syntax.{Syntax, node, Forest, none, more, last_of}
use Rattle.cl_meaning.specs.declared.kind.Kind.{Kind}
use Rattle.cl_meaning.specs.Environment.{Env, empty_scope}
use Rattle.cl_meaning.specs.Visible.{Before, is_front, later, behind, behind_parts, kind_of}
use Rattle.cl_meaning.specs.Faults.{Asked}
use Rattle.cl_check_sound.specs.Shape.{IsResult, IsParams, IsAnnouncement, BehindHeadsOf}
use Rattle.cl_check_sound.specs.Sound.{SoundParts}
use Rattle.cl_check_sound.proofs.Heads.{result_leaves}
use Rattle.cl_check_sound.proofs.Fronts.{head_env, result_env, opened_env}
use Rattle.cl_short_vec.specs.Kinds.{Names}
use Rattle.cl_short_vec.specs.Marks.{marked, marked_parts}
use Rattle.cl_short_vec.specs.Unit.{scalarised, all_scalarised}
use Rattle.cl_short_vec_faults.specs.PlainForm.{plain_of, plains_of}
use Rattle.cl_short_vec_faults.specs.Plainly.{NoPoints}
use Rattle.cl_short_vec_faults.specs.Law.{ExpressionsFollow}
use Rattle.cl_short_vec_faults.specs.SoundBut.{AllSoundBut}
use Rattle.cl_short_vec_faults.specs.Beside.{Beside}
use Rattle.cl_short_vec_faults.specs.UnitLaw.{AllDeclaredNames}
use Rattle.cl_short_vec_faults.proofs.Refused.{AllStay}
use Rattle.cl_short_vec_faults.proofs.OuterKept.{parts_kept, front_kept}
use Rattle.cl_short_vec_faults.proofs.BesideMoves.{beside_opened}
use Rattle.cl_short_vec_faults.proofs.FrontTrees.{result_same, params_same}
use Rattle.cl_short_vec_faults.proofs.ParamsBeside.{still_tree, params_follow}
use Rattle.cl_short_vec_faults.proofs.HeadsBeside.{prototype_head, head_done}
use Rattle.cl_short_vec_faults.proofs.FunctionParts.{result_plain, beside_result, scope_there, Out, out_behind}

prototype_result : (env : Env) (front : Bool) (t : Syntax) (k : Option Kind) → IsResult t →
    later (behind env t) forms.PrototypeNode front t k ≡ opened_env env t
unfolding later
prototype_result env front (node forms.ResultNode w f l none) k h =
    ap (λ z. opened_env z (node forms.ResultNode w f l none)) (result_leaves env (node forms.ResultNode w f l none) h)
prototype_result env front (node forms.ResultNode w f l (more t none)) k h =
    ap (λ z. opened_env z (node forms.ResultNode w f l (more t none)))
    (result_leaves env (node forms.ResultNode w f l (more t none)) h)
prototype_result env front t k h = absurd h

abbrev pub PrototypeEnds : Asked → Names → (p s : Env) → (a b : Before) → (front q r : Bool) → (all ts : Forest) →
    Type 0
PrototypeEnds asked names p s a b front q r all ts =
    AllSoundBut asked s forms.PrototypeNode b (all_scalarised (marked_parts forms.PrototypeNode all names front ts)) ×
    Out p s (behind_parts p forms.PrototypeNode q (plains_of ts))
    (behind_parts s forms.PrototypeNode r (all_scalarised (marked_parts forms.PrototypeNode all names front ts)))

two_end : (asked : Asked) (names : Names) (n : ℕ) (p s : Env) (a b : Before) (front q r : Bool) (all : Forest)
    (rt pt : Syntax) → IsResult rt → IsParams pt → length s.variables ≡ length p.variables → Beside asked names n p s →
    AllDeclaredNames (more rt (more pt none)) → SoundParts asked p forms.PrototypeNode a
    (plains_of (more rt (more pt none))) → PrototypeEnds asked names p s a b front q r all (more rt (more pt none))
unfolding plains_of plain_of all_scalarised marked_parts later behind_parts
two_end asked names n p s a b front q r all (node forms.ResultNode w0 f0 l0 rs) (node forms.ParamsNode w1 f1 l1 qs) hr
    hp nu be dn so =
    let t = node forms.ResultNode w0 f0 l0 rs in
    let pt = node forms.ParamsNode w1 f1 l1 qs in
    let t' = plain_of t in
    let p' = node forms.ParamsNode w1 f1 l1 (plains_of qs) in
    let sh = result_plain t hr in
    let s1 = subst (λ z. SoundParts asked z forms.PrototypeNode (Some (last_of t')) (more p' none))
    (prototype_result p (is_front a) t' (kind_of p t') sh.0) so.1 in
    let op = opened_env p t' in
    let os = opened_env s t' in
    let b2 = beside_opened asked names n (result_env p t') (result_env s t') (beside_result asked names n p s t' be) in
    let pf = params_follow asked names n op os w1 f1 l1 qs hp dn.1.0.1 (scope_there op.scopes b2.open') nu b2 s1.0 in
    let fp = prototype_result p q t' (kind_of p t') sh.0 in
    let fs = prototype_result s r t' (kind_of s t') sh.0 in
    subst (λ z. AllSoundBut asked s forms.PrototypeNode b (more z (more (scalarised (marked names pt)) none)) ×
    Out p s (behind_parts p forms.PrototypeNode q (more t' (more p' none)))
    (behind_parts s forms.PrototypeNode r (more z (more (scalarised (marked names pt)) none))))
    (sym (result_same names t hr))
    (subst (λ z. AllSoundBut asked s forms.PrototypeNode b (more t' (more z none)) ×
    Out p s (behind_parts p forms.PrototypeNode q (more t' (more p' none)))
    (behind_parts s forms.PrototypeNode r (more t' (more z none)))) (sym (params_same names pt hp)) (
      (
        still_tree asked p s t' sh.1 so.0,
        subst (λ z. AllSoundBut asked z forms.PrototypeNode (Some (last_of t')) (more p' none))
            (sym (prototype_result s (is_front b) t' (kind_of s t') sh.0)) (pf.0, tt),
      ),
      subst (λ z. Out p s (behind_parts z forms.PrototypeNode false (more p' none))
          (behind_parts (later (behind s t') forms.PrototypeNode r t' (kind_of s t')) forms.PrototypeNode false
          (more p' none))) (sym fp)
          (subst (λ z. Out p s (behind_parts op forms.PrototypeNode false (more p' none))
          (behind_parts z forms.PrototypeNode false (more p' none))) (sym fs) (record {
            plain = front_kept p.scopes empty_scope
                (behind_parts op forms.PrototypeNode false (more p' none)).scopes
                (parts_kept (more p' none) forms.PrototypeNode false op);
            form = front_kept s.scopes empty_scope
                (behind_parts os forms.PrototypeNode false (more p' none)).scopes
                (parts_kept (more p' none) forms.PrototypeNode false os);
            labels = pf.1.plainly.labels;
            tables = pf.1.plainly.tables;
          })),
    ))
two_end asked names n p s a b front q r all (node forms.ResultNode w0 f0 l0 rs) pt hr hp nu be dn so = absurd hp
two_end asked names n p s a b front q r all rt pt hr hp nu be dn so = absurd hr

module _ (expressions : ExpressionsFollow) where
  pub prototype_ends : (asked : Asked) (names : Names) (n : ℕ) (p s : Env) (a b : Before) (front q r : Bool)
      (all ts : Forest) → BehindHeadsOf true IsAnnouncement ts → length s.variables ≡ length p.variables →
      Beside asked names n p s → NoPoints ts → AllDeclaredNames ts →
      AllStay (marked_parts forms.PrototypeNode all names front ts) →
      SoundParts asked p forms.PrototypeNode a (plains_of ts) → PrototypeEnds asked names p s a b front q r all ts
  unfolding plains_of all_scalarised marked_parts behind_parts
  prototype_ends asked names n p s a b front q r all none h nu be np dn st so = absurd h
  prototype_ends asked names n p s a b front q r all (more (node forms.HeadNode w f l hs) ts) (inl h) nu be np dn st
      so =
      let t = node forms.HeadNode w f l hs in
      let t' = plain_of t in
      let u = scalarised (marked names t) in
      let ms = marked_parts forms.PrototypeNode all names false ts in
      let hd = head_done expressions asked names n p s t h.0 np.0 be st.0 so.0 in
      let so' = subst (λ z. SoundParts asked z forms.PrototypeNode (Some (last_of t')) (plains_of ts))
      (prototype_head p (is_front a) t' (kind_of p t') hd.plain) so.1 in
      let x = prototype_ends asked names n (head_env p t') (head_env s u) (Some (last_of t')) (Some (last_of u)) false
      false false all ts h.1 nu hd.beside np.1 dn.1 st.1 so' in (
        (
          hd.sound,
          subst (λ z. AllSoundBut asked z forms.PrototypeNode (Some (last_of u)) (all_scalarised ms))
              (sym (prototype_head s (is_front b) u (kind_of s u) hd.form)) x.0,
        ),
        subst (λ z. Out p s (behind_parts z forms.PrototypeNode false (plains_of ts))
            (behind_parts (later (behind s u) forms.PrototypeNode r u (kind_of s u)) forms.PrototypeNode false
            (all_scalarised ms))) (sym (prototype_head p q t' (kind_of p t') hd.plain))
            (subst (λ z. Out p s (behind_parts (head_env p t') forms.PrototypeNode false (plains_of ts))
            (behind_parts z forms.PrototypeNode false (all_scalarised ms)))
            (sym (prototype_head s r u (kind_of s u) hd.form))
            (out_behind p s (head_env p t') (head_env s u) _ _ refl refl x.1)),
      )
  prototype_ends asked names n p s a b front q r all (more (node head w f l hs) ts) (inl h) nu be np dn st so =
      absurd h.0
  prototype_ends asked names n p s a b front q r all (more (node head w f l hs) (more pt none)) (inr h) nu be np dn st
      so = two_end asked names n p s a b front q r all (node head w f l hs) pt h.0 h.1 nu be dn so
  prototype_ends asked names n p s a b front q r all (more (node head w f l hs) none) (inr h) nu be np dn st so =
      absurd h
  prototype_ends asked names n p s a b front q r all (more (node head w f l hs) (more pt (more c cs))) (inr h) nu be np
      dn st so = absurd h
