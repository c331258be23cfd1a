-- Prototypes: where no node of the plain form is at fault, no node of the form is.
use Rattle.std.proofs.Common.{◌≡◌, ℕ, suc, ◌+◌, List, [], ◌∷◌, Option, None, Some, Bool, true, false, ◌&&◌, not}
use Rattle.std.proofs.Common.{if◌then◌else◌, refl, ap, sym, ◌∙◌, subst, arith, slice_get}
use Rattle.std.proofs.lemmas.Bool.{false≢true}
use Rattle.std.proofs.lemmas.Option.{none-some, same_Some}
use Rattle.std.specs.Str.{bytes_eq}
use Rattle.cl_tree.specs.declared.tree.Form.TheVariants as forms
use Rattle.cl_tree.specs.Syntax.{node, Forest}
use Rattle.cl_meaning.specs.Spelling.{name_in}
use Rattle.cl_meaning.specs.declared.kind.Yield.{Yield}
use Rattle.cl_meaning.specs.declared.kind.Yield.TheVariants as yields
use Rattle.cl_meaning.specs.declared.kind.Role.TheVariants as roles
use Rattle.cl_meaning.specs.Environment.{Env, Signature}
use Rattle.cl_meaning.specs.Kinds.{Callee, is_some, result_kind, callee_by, defined_at}
use Rattle.cl_meaning.specs.Declarations.{signature_in}
use Rattle.cl_meaning.specs.Visible.{inside, behind, behind_parts, left, restored, visible_at, without_variables}
use Rattle.cl_meaning.specs.Visible.{in_prototype, definition_from, definition_of, defined_meaning, with_prototype}
use Rattle.cl_meaning.specs.Faults.{Asked, prototype_misfits, signature_of, is_called, same_signature, same_yield}
use Rattle.cl_meaning.specs.Faults.{same_parameters}
use Rattle.cl_check_sound.specs.Shape.{IsAnnouncement, BehindHeadsOf}
use Rattle.cl_check_sound.specs.Sound.{SoundTree, SoundParts}
use Rattle.cl_check_sound.proofs.Constants.{OneScope}
use Rattle.cl_check_sound.proofs.Items.{name_of}
use Rattle.cl_short_vec.specs.declared.roles.Role.TheVariants.{Outer}
use Rattle.cl_short_vec.specs.Kinds.{Names}
use Rattle.cl_short_vec.specs.Marks.{kind_by, kind_at, marked, marked_parts}
use Rattle.cl_short_vec.specs.Roles.{role_of}
use Rattle.cl_short_vec.specs.Faults.{refusals}
use Rattle.cl_short_vec.specs.Unit.{all_scalarised}
use Rattle.cl_short_vec_faults.specs.PlainForm.{plain_of, plains_of}
use Rattle.cl_short_vec_faults.specs.Law.{CalleeGives, ExpressionsFollow}
use Rattle.cl_short_vec_faults.specs.SoundBut.{SoundBut}
use Rattle.cl_short_vec_faults.specs.Beside.{IsName, Beside}
use Rattle.cl_short_vec_faults.proofs.Ordered.{ordered_in_le}
use Rattle.cl_short_vec_faults.proofs.Refused.{AllStay, parts_stay}
use Rattle.cl_short_vec_faults.proofs.SameFunctions.{parts_functions}
use Rattle.cl_short_vec_faults.proofs.BesideMoves.{beside_marked}
use Rattle.cl_short_vec_faults.proofs.Following.{Stands, PrototypesFollow, InUnit}
use Rattle.cl_short_vec_faults.proofs.FrontTrees.{prototype_form, prototype_says}
use Rattle.cl_short_vec_faults.proofs.FrontFaults.{sound_frame, frame_but}
use Rattle.cl_short_vec_faults.proofs.OwnBeside.{DefinitionGives, function_gives, beside_prototype}
use Rattle.cl_short_vec_faults.proofs.FunctionParts.{out_behind, ordered_parts}
use Rattle.cl_short_vec_faults.proofs.PrototypeParts.{prototype_ends}
use Rattle.cl_short_vec_faults.proofs.UnitFunctions.{closed_same, heads_give, announcement_gives}

-- ---- a prototype and its definition

-- the first definition of a name
first_signature : (name : List ℕ) (n : ℕ) (gs : List Signature) (m : ℕ) (k : Bool) →
    definition_from name n gs ≡ Some (m, k) →
    (i : ℕ) × (m ≡ n + i) × ((g : Signature) → slice_get gs i ≡ Some g → signature_of name gs ≡ Some g)
first_signature name n [] m k h = absurd (none-some (m, k) h)
first_signature name n (g ∷ gs) m k h =
    by (bytes_eq g.name name) refl h (λ e. first_signature name (suc n) gs m k e)
  where
    by : (b : Bool) → bytes_eq g.name name ≡ b → (if b then Some (n, g.kernel) else definition_from name (suc n) gs) ≡
        Some (m, k) → (definition_from name (suc n) gs ≡ Some (m, k) → (i : ℕ) × (m ≡ suc n + i) ×
        ((x : Signature) → slice_get gs i ≡ Some x → signature_of name gs ≡ Some x)) →
        (i : ℕ) × (m ≡ n + i) × ((x : Signature) → slice_get (g ∷ gs) i ≡ Some x →
        (if bytes_eq g.name name then Some g else signature_of name gs) ≡ Some x)
    by true t h r =
        let e = same_Some _ _ h in (
          0,
          (let q : m ≡ n = sym (ap (λ z. z.0) e) in omega arith),
          λ x y. ap (λ b. if b then Some g else signature_of name gs) t ∙ y,
        )
    by false t h r =
        let q = r h in let e = q.1 in
        (suc q.0, omega arith, λ x y. ap (λ b. if b then Some g else signature_of name gs) t ∙ q.2 x y)

no_signature : (name : List ℕ) (n : ℕ) (gs : List Signature) → definition_from name n gs ≡ None →
    signature_of name gs ≡ None
no_signature name n [] h = refl
no_signature name n (g ∷ gs) h = by (bytes_eq g.name name) h (λ e. no_signature name (suc n) gs e)
  where
    by : (b : Bool) → (if b then Some (n, g.kernel) else definition_from name (suc n) gs) ≡ None →
        (definition_from name (suc n) gs ≡ None → signature_of name gs ≡ None) →
        (if b then Some g else signature_of name gs) ≡ None
    by true h r = absurd (none-some (n, g.kernel) (sym h))
    by false h r = r h

yield_gives : (a b : Yield) → same_yield a b ≡ true → is_some (result_kind a) ≡ true → is_some (result_kind b) ≡ true
yield_gives yields.Nothing yields.Nothing h k = refl
yield_gives (yields.Number t) (yields.Number u) h k = refl
yield_gives yields.Outside b h k = absurd (false≢true k)
yield_gives yields.Nothing (yields.Number u) h k = absurd (false≢true h)
yield_gives yields.Nothing yields.Outside h k = absurd (false≢true h)
yield_gives (yields.Number t) yields.Nothing h k = absurd (false≢true h)
yield_gives (yields.Number t) yields.Outside h k = absurd (false≢true h)

same_gives : (g h : Signature) → not (same_signature g h) ≡ false → is_some (result_kind g.result) ≡ true →
    is_some (result_kind h.result) ≡ true
same_gives g h e k = yield_gives g.result h.result
    (by (same_yield g.result h.result) (same_parameters g.parameters h.parameters) e) k
  where
    by : (a b : Bool) → not (a && b) ≡ false → a ≡ true
    by true b h = refl
    by false b h = absurd (false≢true (sym h))

-- what its name calls gives something
prototype_gives : (asked : Asked) (p : Env) (name : List ℕ) (g : Signature) → g.name ≡ name →
    prototype_misfits asked g (signature_of name p.functions) ≡ false → is_some (result_kind g.result) ≡ true →
    DefinitionGives asked p name
prototype_gives asked p name g e h r = by (definition_of p name) refl
  where
    placed : (m : ℕ) (k : Bool) → definition_of p name ≡ Some (m, k) → (o : Option Signature) →
        slice_get p.functions m ≡ o → (c : Callee) →
        callee_by p name (Some (defined_meaning (Some (m, k)))) ≡ Some c → CalleeGives asked name c
    placed m true d o s c q = absurd (none-some c q)
    placed m false d None s c q = absurd (none-some c (sym (ap (defined_at m) s) ∙ q))
    placed m false d (Some x) s c q =
        let f = first_signature name 0 p.functions m false d in
        let i = f.0 in
        let mi = f.1 in
        let z = f.2 x (subst (λ y. slice_get p.functions y ≡ Some x) (let t : m ≡ i = omega arith in t) s) in
        function_gives asked p name false m x s
        (same_gives g x (subst (λ y. prototype_misfits asked g y ≡ false) z h) r) c q

    by : (o : Option (ℕ × Bool)) → definition_of p name ≡ o → (c : Callee) →
        callee_by p name (Some (defined_meaning o)) ≡ Some c → CalleeGives asked name c
    by None d c q =
        subst (CalleeGives asked name) (same_Some _ _ q)
        (subst (λ y. is_called asked.missing y ≡ false) e
        (subst (λ y. prototype_misfits asked g y ≡ false) (no_signature name 0 p.functions d) h))
    by (Some (m, k)) d c q = placed m k d (slice_get p.functions m) refl c q

-- ---- a prototype

prototype_visible : (env : Env) (w : List ℕ) (f l : ℕ) (ts : Forest) →
    (visible_at env (node forms.PrototypeNode w f l ts) ≡
    without_variables env (behind_parts (in_prototype env) forms.PrototypeNode true ts)) ×
    (behind env (node forms.PrototypeNode w f l ts) ≡ with_prototype (without_variables env
    (behind_parts (in_prototype env) forms.PrototypeNode true ts)) (name_in w))
unfolding behind restored left inside
prototype_visible env w f l ts = (refl, refl)

prototype_stays : (names : Names) (w : List ℕ) (f l : ℕ) (ts : Forest) →
    refusals Outer (marked names (node forms.PrototypeNode w f l ts)) ≡ [] →
    AllStay (marked_parts forms.PrototypeNode ts names true ts)
unfolding marked kind_by role_of
prototype_stays names w f l ts r =
    parts_stay Outer (node forms.PrototypeNode w f l ts) (kind_at (marked names (node forms.PrototypeNode w f l ts)))
    (marked_parts forms.PrototypeNode ts names true ts) (λ x y q. refl) r

prototype_sound : (asked : Asked) (p : Env) (w : List ℕ) (f l : ℕ) (ts : Forest) →
    SoundTree asked p roles.Other (node forms.PrototypeNode w f l ts) →
    SoundParts asked (in_prototype p) forms.PrototypeNode None ts
unfolding inside
prototype_sound asked p w f l ts s = s.0

module _ (expressions : ExpressionsFollow) where
  prototype_follows : (asked : Asked) (names : Names) (n : ℕ) (p s : Env) (w : List ℕ) (f l : ℕ) (ts : Forest) →
      BehindHeadsOf true IsAnnouncement ts → InUnit names p →
      Stands asked names n p s Outer roles.Other (node forms.PrototypeNode w f l ts) →
      SoundTree asked p roles.Other (node forms.PrototypeNode w f l (plains_of ts)) →
      SoundBut asked s roles.Other
      (node forms.PrototypeNode w f l (all_scalarised (marked_parts forms.PrototypeNode ts names true ts))) ×
      Beside asked names (suc l) (behind p (node forms.PrototypeNode w f l (plains_of ts)))
      (behind s (node forms.PrototypeNode w f l (all_scalarised (marked_parts forms.PrototypeNode ts names true ts))))
  unfolding inside
  prototype_follows asked names n p s w f l ts h iu st so =
      let name = name_in w in
      let qs = plains_of ts in
      let us = all_scalarised (marked_parts forms.PrototypeNode ts names true ts) in
      let sg = signature_in w qs in
      let y = st.beside.plainly in
      let p0 = in_prototype p in
      let s0 = in_prototype s in
      let is : IsName name = st.declared.0 in
      let ss = prototype_sound asked p w f l qs so in
      let gr : is_some (result_kind sg.result) ≡ true = heads_give IsAnnouncement forms.PrototypeNode asked
      (λ env a g rs k z. announcement_gives asked env a g rs k z) p0 None _ ts h ss in
      let bi = beside_marked asked names n p s p0 s0 refl refl refl refl
      (ap (λ z. (in_prototype (record p { functions = z })).owner) y.functions)
      y.declared y.flags st.beside.unflagged y.in_body y.in_loop y.in_switch y.labels refl y.tables st.beside in
      let lf = st.behind' in
      let x = prototype_ends expressions asked names n p0 s0 None None true true true ts ts h refl bi st.no_point.1
      st.declared.1 (prototype_stays names w f l ts st.stays) ss in
      let pe = behind_parts p0 forms.PrototypeNode true qs in
      let se = behind_parts s0 forms.PrototypeNode true us in
      let p1 = without_variables p pe in
      let s1 = without_variables s se in
      let fp : pe.functions ≡ p.functions = parts_functions qs forms.PrototypeNode true p0 in
      let fs : se.functions ≡ s.functions = parts_functions us forms.PrototypeNode true s0 in
      let out = out_behind p s p0 s0 pe se refl refl x.1 in
      let le = ordered_in_le ts f (suc l) (ordered_parts ts f l st.ordered) in
      let b1 = closed_same names asked n (suc l) p s pe se (omega arith) fp fs out st.beside in
      let fr = sound_frame asked p forms.PrototypeNode w f l qs so.1.0 in
      let vp = (prototype_visible p w f l qs).0 in
      let vs = (prototype_visible s w f l us).0 in
      let match = subst (λ (z : Env). prototype_misfits asked sg (signature_of name z.functions) ≡ false) vp
      fr.match' in
      let same = ap (λ z. prototype_misfits asked z (signature_of name s1.functions)) (prototype_says names w ts ts h) ∙
      ap (λ z. prototype_misfits asked sg (signature_of name z)) b1.plainly.functions in
      let one1 : OneScope p1 = (iu.one.0, out.plain ∙ iu.one.1) in
      let gives = prototype_gives asked p1 name sg (name_of w qs) match gr in (
        (
          x.0,
          frame_but asked s forms.PrototypeNode w f l us refl (record {
            once = refl;
            inside' = refl;
            kernel = refl;
            there = refl;
            match' = subst (λ (z : Env). prototype_misfits asked (signature_in w us) (signature_of name z.functions) ≡
                false) (sym vs) (same ∙ match);
          }),
        ),
        subst (λ z. Beside asked names (suc l) z (behind s (node forms.PrototypeNode w f l us)))
            (sym (prototype_visible p w f l qs).1)
            (subst (λ z. Beside asked names (suc l) (with_prototype p1 name) z)
            (sym (prototype_visible s w f l us).1)
            (beside_prototype asked names (suc l) p1 s1 name is one1 gives b1 (iu.vectorless name))),
      )

  pub prototypes_follow : PrototypesFollow
  prototypes_follow asked names n p s (node forms.PrototypeNode w f l ts) h iu st =
      let x = prototype_form names w f l ts h in
      let u = node forms.PrototypeNode w f l (all_scalarised (marked_parts forms.PrototypeNode ts names true ts)) in
      let r = prototype_follows asked names n p s w f l ts h iu st
      (subst (SoundTree asked p roles.Other) x.1 st.sound) in
      subst (λ z. SoundBut asked s roles.Other z ×
      Beside asked names (suc l) (behind p (plain_of (node forms.PrototypeNode w f l ts))) (behind s z)) (sym x.0)
      (subst (λ z. SoundBut asked s roles.Other u × Beside asked names (suc l) (behind p z) (behind s u)) (sym x.1) r)
  prototypes_follow asked names n p s t h iu st = absurd h
