-- Functions and prototypes: where no node of the plain form is at fault, no node of the form is.
use Rattle.std.proofs.Common.{◌≡◌, ℕ, suc, ◌≤◌, List, [], length, Option, None, Some, Bool, true, false}
use Rattle.std.proofs.Common.{◌&&◌, ◌||◌, refl, ap, sym, ◌∙◌, subst, inl, inr, arith, slice_get}
use Rattle.std.proofs.lemmas.Bool.{false≢true}
use Rattle.std.proofs.lemmas.Option.{same_Some}
use Rattle.cl_tree.specs.declared.tree.Form.{Form}
use Rattle.cl_tree.specs.declared.tree.Form.TheVariants as forms
use Rattle.cl_tree.specs.Syntax.{Syntax, node, Forest, none, more, last_of}
use Rattle.cl_meaning.specs.Spelling.{name_in, intrinsic_in}
use Rattle.cl_meaning.specs.declared.names.Intrinsic.{Intrinsic}
use Rattle.cl_meaning.specs.declared.kind.Role.TheVariants as roles
use Rattle.cl_meaning.specs.Environment.{Env, Signature, is_declared, at_unit, meaning_in}
use Rattle.cl_meaning.specs.Environment.{found_in}
use Rattle.cl_meaning.specs.Kinds.{is_some, result_kind}
use Rattle.cl_meaning.specs.Declarations.{yield_of, yield_by, form_of, with_part, with_parts, signature_in}
use Rattle.cl_meaning.specs.Visible.{Before, is_front, inside, later, behind, behind_parts, kind_of, left}
use Rattle.cl_meaning.specs.Visible.{restored, visible_at, without_variables, in_definition}
use Rattle.cl_meaning.specs.Visible.{number_in, definition_from, with_function}
use Rattle.cl_meaning.specs.Faults.{Asked, is_known_name, no_kernel_function}
use Rattle.cl_check_sound.specs.Shape.{IsResult, IsParams, IsBlockOf, IsDefinitionOf, IsAnnouncement, BehindHeadsOf}
use Rattle.cl_check_sound.specs.Sound.{SoundTree, SoundParts}
use Rattle.cl_check_sound.proofs.Constants.{OneScope, unit_is}
use Rattle.cl_check_sound.proofs.Items.{name_of}
use Rattle.cl_check_sound.proofs.Typed.{type_declares}
use Rattle.cl_short_vec.specs.declared.roles.Role.TheVariants.{Outer}
use Rattle.cl_short_vec.specs.declared.kinds.Kind.TheVariants.{Other}
use Rattle.cl_short_vec.specs.Kinds.{Names, with_name, is_vector}
use Rattle.cl_short_vec.specs.Marks.{kind_by, kind_at, marked, marked_parts}
use Rattle.cl_short_vec.specs.Roles.{role_of as vector_role_of}
use Rattle.cl_short_vec.specs.Faults.{refusals}
use Rattle.cl_short_vec.specs.Unit.{all_scalarised}
use Rattle.cl_short_vec_faults.specs.PlainForm.{plain_of, plains_of}
use Rattle.cl_short_vec_faults.specs.Law.{ExpressionsFollow}
use Rattle.cl_short_vec_faults.specs.SoundBut.{SoundBut}
use Rattle.cl_short_vec_faults.specs.Beside.{IsName, ScopesBeside, Beside}
use Rattle.cl_short_vec_faults.specs.Leaves.{LeavesFit, AllLeavesFit}
use Rattle.cl_short_vec_faults.proofs.Ordered.{in_from, ordered_in_le}
use Rattle.cl_short_vec_faults.proofs.PlainForms.{type_plain}
use Rattle.cl_short_vec_faults.proofs.Refused.{AllStay, parts_stay}
use Rattle.cl_short_vec_faults.proofs.SameFunctions.{parts_functions}
use Rattle.cl_short_vec_faults.proofs.BesideMoves.{beside_moved, beside_marked}
use Rattle.cl_short_vec_faults.proofs.Following.{Stands, DeclarationsFollow, StatementsFollow, FunctionsFollow}
use Rattle.cl_short_vec_faults.proofs.Following.{InUnit, IsDefined}
use Rattle.cl_short_vec_faults.proofs.FrontTrees.{function_form, function_says}
use Rattle.cl_short_vec_faults.proofs.FrontFaults.{sound_frame, frame_but}
use Rattle.cl_short_vec_faults.proofs.NamedBeside.{last_declared}
use Rattle.cl_short_vec_faults.proofs.OwnBeside.{OwnerGives, defined_gives}
use Rattle.cl_short_vec_faults.proofs.OwnBeside.{beside_function}
use Rattle.cl_short_vec_faults.proofs.FunctionParts.{Out, out_behind, ordered_parts, function_ends}

-- ---- the result of a signature

type_gives : (asked : Asked) (env : Env) (w : List ℕ) (f l : ℕ) (ts : Forest) →
    IsResult (node forms.ResultNode w f l ts) →
    SoundTree asked env roles.Other (node forms.ResultNode w f l (plains_of ts)) →
    is_some (result_kind (yield_of (plains_of ts))) ≡ true
unfolding inside plains_of
type_gives asked env w f l none h s = refl
type_gives asked env w f l (more t none) h s =
    let d = type_declares asked env _ (plain_of t) (type_plain t h) s.0.0 in
    ap (λ z. is_some (result_kind (yield_by z))) d.1
type_gives asked env w f l (more t (more u us)) h s = absurd h

-- the parts of a signature behind its result say nothing of the result
params_result : (g : Signature) (t : Syntax) → IsParams t →
    (with_part g (form_of (plain_of t)) (plain_of t)).result ≡ g.result
unfolding plain_of
params_result g (node forms.ParamsNode w f l ps) h = refl
params_result g t h = absurd h

block_result : (g : Signature) (t : Syntax) → IsBlockOf true t →
    (with_part g (form_of (plain_of t)) (plain_of t)).result ≡ g.result
unfolding plain_of
block_result g (node forms.BlockNode w f l ps) h = refl
block_result g t h = absurd h

part_gives : (asked : Asked) (env : Env) (g : Signature) (t : Syntax) → IsResult t →
    SoundTree asked env roles.Other (plain_of t) →
    is_some (result_kind (with_part g (form_of (plain_of t)) (plain_of t)).result) ≡ true
unfolding plain_of
part_gives asked env g (node forms.ResultNode w f l ts) h s = type_gives asked env w f l ts h s
part_gives asked env g t h s = absurd h

definition_gives : (asked : Asked) (env : Env) (a : Before) (g : Signature) (ts : Forest) → IsDefinitionOf true ts →
    SoundParts asked env forms.FunctionNode a (plains_of ts) →
    is_some (result_kind (with_parts g (plains_of ts)).result) ≡ true
unfolding plains_of
definition_gives asked env a g (more r (more p (more b none))) h s =
    let g1 = with_part g (form_of (plain_of r)) (plain_of r) in
    let g2 = with_part g1 (form_of (plain_of p)) (plain_of p) in
    ap (λ z. is_some (result_kind z)) (block_result g2 b h.2 ∙ params_result g1 p h.1) ∙
    part_gives asked env g r h.0 s.0
definition_gives asked env a g none h s = absurd h
definition_gives asked env a g (more r none) h s = absurd h
definition_gives asked env a g (more r (more p none)) h s = absurd h
definition_gives asked env a g (more r (more p (more b (more c cs)))) h s = absurd h

pub announcement_gives : (asked : Asked) (env : Env) (a : Before) (g : Signature) (ts : Forest) → IsAnnouncement ts →
    SoundParts asked env forms.PrototypeNode a (plains_of ts) →
    is_some (result_kind (with_parts g (plains_of ts)).result) ≡ true
unfolding plains_of
announcement_gives asked env a g (more r (more p none)) h s =
    let g1 = with_part g (form_of (plain_of r)) (plain_of r) in
    ap (λ z. is_some (result_kind z)) (params_result g1 p h.1) ∙ part_gives asked env g r h.0 s.0
announcement_gives asked env a g none h s = absurd h
announcement_gives asked env a g (more r none) h s = absurd h
announcement_gives asked env a g (more r (more p (more b bs))) h s = absurd h

pub heads_give : (P : Forest → Type 0) (form : Form) (asked : Asked) →
    ((env : Env) (a : Before) (g : Signature) (ts : Forest) → P ts → SoundParts asked env form a (plains_of ts) →
    is_some (result_kind (with_parts g (plains_of ts)).result) ≡ true) → (env : Env) (a : Before) (g : Signature)
    (ts : Forest) → BehindHeadsOf true P ts → SoundParts asked env form a (plains_of ts) →
    is_some (result_kind (with_parts g (plains_of ts)).result) ≡ true
unfolding plains_of
heads_give P form asked d env a g none h s = absurd h
heads_give P form asked d env a g (more (node head w f l hs) ts) (inl h) s =
    let t' = plain_of (node head w f l hs) in
    heads_give P form asked d (later (behind env t') form (is_front a) t' (kind_of env t')) (Some (last_of t'))
    (with_part g (form_of t') t') ts h.1 s.1
heads_give P form asked d env a g (more (node head w f l hs) ts) (inr h) s =
    d env a g (more (node head w f l hs) ts) h s

-- ---- what is in hand behind a function or a prototype

pub closed_same : (names : Names) (asked : Asked) (n m : ℕ) (p s pe se : Env) → n ≤ m → pe.functions ≡ p.functions →
    se.functions ≡ s.functions → Out p s pe se → Beside asked names n p s →
    Beside asked names m (without_variables p pe) (without_variables s se)
closed_same names asked n m p s pe se l f g x h =
    let y = h.plainly in
    beside_moved asked names n m p s (without_variables p pe) (without_variables s se) l (record {
      plain = λ q. ap (λ z. meaning_in (found_in z q)) x.plain;
      form = λ q. ap (λ z. meaning_in (found_in z q)) x.form;
      functions = g ∙ (y.functions ∙ sym f);
      functions' = f;
      owner = y.owner;
      declared = y.declared;
      flags = y.flags;
      unflagged = h.unflagged;
      in_body = y.in_body;
      in_loop' = y.in_loop;
      in_switch' = y.in_switch;
      labels = x.labels;
      depth = ap length x.form ∙ (y.depth ∙ sym (ap length x.plain));
      arrays = y.arrays;
      tables = x.tables;
    }) (subst (λ z. ScopesBeside n z (without_variables s se).scopes) (sym x.plain)
    (subst (λ z. ScopesBeside n p.scopes z) (sym x.form) h.scopes))
    (subst (λ z. 1 ≤ length z) (sym x.plain) h.open') h

-- a name that is declared nowhere yet, and that is not known without a declaration
new_name : (n : ℕ) (p s : Env) (q : List ℕ) → IsName q → OneScope p → ScopesBeside n p.scopes s.scopes →
    (is_declared p q || is_known_name p q) ≡ false →
    (is_declared s q ≡ false) × ((i : Intrinsic) → intrinsic_in q ≡ Some i → ⊥)
new_name n p s q is o sc h =
    by (is_declared p q) (is_some (intrinsic_in q)) (is_declared s q) refl
    (subst (λ b. (is_declared p q || (b && is_some (intrinsic_in q))) ≡ false) (unit_is p o) h)
    (λ e. last_declared n p.scopes s.scopes q is sc e)
  where
    by : (a b c : Bool) → is_some (intrinsic_in q) ≡ b → (a || (true && b)) ≡ false → (c ≡ true → a ≡ true) →
        (c ≡ false) × ((i : Intrinsic) → intrinsic_in q ≡ Some i → ⊥)
    by true b c e h g = absurd (false≢true (sym h))
    by false true c e h g = absurd (false≢true (sym h))
    by false false true e h g = absurd (false≢true (g refl))
    by false false false e h g = (refl, λ i k. false≢true (sym e ∙ ap is_some k))

not_known : (env : Env) (q : List ℕ) → ((i : Intrinsic) → intrinsic_in q ≡ Some i → ⊥) → is_known_name env q ≡ false
not_known env q h = by (intrinsic_in q) h (at_unit env)
  where
    by : (o : Option Intrinsic) → ((i : Intrinsic) → o ≡ Some i → ⊥) → (b : Bool) → (b && is_some o) ≡ false
    by None h true = refl
    by None h false = refl
    by (Some i) h b = absurd (h i refl)

neither_both : (a b : Bool) → a ≡ false → b ≡ false → (a || b) ≡ false
neither_both true b h k = absurd (false≢true (sym h))
neither_both false b h k = k

-- ---- a function

function_visible : (env : Env) (w : List ℕ) (f l : ℕ) (ts : Forest) →
    (visible_at env (node forms.FunctionNode w f l ts) ≡
    without_variables env (behind_parts (in_definition env (name_in w)) forms.FunctionNode true ts)) ×
    (behind env (node forms.FunctionNode w f l ts) ≡ with_function (without_variables env
    (behind_parts (in_definition env (name_in w)) forms.FunctionNode true ts)) (name_in w))
unfolding behind restored left inside
function_visible env w f l ts = (refl, refl)

function_stays : (names : Names) (w : List ℕ) (f l : ℕ) (ts : Forest) →
    refusals Outer (marked names (node forms.FunctionNode w f l ts)) ≡ [] →
    AllStay (marked_parts forms.FunctionNode ts names true ts)
unfolding marked kind_by vector_role_of
function_stays names w f l ts r =
    parts_stay Outer (node forms.FunctionNode w f l ts) (kind_at (marked names (node forms.FunctionNode w f l ts)))
    (marked_parts forms.FunctionNode ts names true ts) (λ x y q. refl) r

function_leaves : (p : Env) (names : Names) (w : List ℕ) (f l : ℕ) (ts : Forest) →
    LeavesFit p (marked names (node forms.FunctionNode w f l ts)) →
    AllLeavesFit (in_definition p (name_in w)) forms.FunctionNode true None
    (marked_parts forms.FunctionNode ts names true ts)
unfolding LeavesFit marked inside
function_leaves p names w f l ts h = h.1

function_sound : (asked : Asked) (p : Env) (w : List ℕ) (f l : ℕ) (ts : Forest) →
    SoundTree asked p roles.Other (node forms.FunctionNode w f l ts) →
    SoundParts asked (in_definition p (name_in w)) forms.FunctionNode None ts
unfolding inside
function_sound asked p w f l ts s = s.0

function_number : (p s : Env) (name : List ℕ) → s.functions ≡ p.functions →
    (in_definition s name).owner ≡ (in_definition p name).owner
function_number p s name f =
    ap (λ z. (in_definition (record p { functions = z }) name).owner) f

module _ (expressions : ExpressionsFollow) (declarations : DeclarationsFollow) (statements : StatementsFollow) where
  function_follows : (asked : Asked) (names : Names) (n : ℕ) (p s : Env) (w : List ℕ) (f l : ℕ) (ts : Forest) →
      BehindHeadsOf true (IsDefinitionOf true) ts → InUnit names p →
      IsDefined p (node forms.FunctionNode w f l (plains_of ts)) →
      Stands asked names n p s Outer roles.Other (node forms.FunctionNode w f l ts) →
      SoundTree asked p roles.Other (node forms.FunctionNode w f l (plains_of ts)) →
      SoundBut asked s roles.Other
      (node forms.FunctionNode w f l (all_scalarised (marked_parts forms.FunctionNode ts names true ts))) ×
      Beside asked (with_name names (name_in w) (Other false)) (suc l)
      (behind p (node forms.FunctionNode w f l (plains_of ts)))
      (behind s (node forms.FunctionNode w f l (all_scalarised (marked_parts forms.FunctionNode ts names true ts))))
  unfolding inside
  function_follows asked names n p s w f l ts h iu (m, d, e) st so =
      let name = name_in w in
      let qs = plains_of ts in
      let us = all_scalarised (marked_parts forms.FunctionNode ts names true ts) in
      let sg = signature_in w qs in
      let y = st.beside.plainly in
      let p0 = in_definition p name in
      let s0 = in_definition s name in
      let is : IsName name = st.declared.0 in
      let ss = function_sound asked p w f l qs so in
      let gr = heads_give (IsDefinitionOf true) forms.FunctionNode asked
      (λ env a g rs k z. definition_gives asked env a g rs k z) p0 None _ ts h ss in
      let own : OwnerGives names p0 = λ g k. owner_by g (same_Some _ _ (sym e ∙
      (sym (ap (λ z. slice_get p.functions (number_in p z)) d) ∙ k))) is gr in
      let bi = beside_marked asked names n p s p0 s0 refl refl refl refl (function_number p s name y.functions)
      y.declared y.flags st.beside.unflagged y.in_body y.in_loop y.in_switch y.labels refl y.tables st.beside in
      let lf = st.behind' in
      let fw = st.few in
      let x = function_ends expressions declarations statements asked names n (suc l) p0 s0 None None true true true ts
      ts h (record { few = omega arith; one = iu.one; own = own; numbers = refl; beside = bi })
      (in_from ts n f (suc l) lf (ordered_parts ts f l st.ordered)) st.facts.1 st.no_point.1 st.declared.1
      (function_stays names w f l ts st.stays) (function_leaves p names w f l ts st.leaves) ss in
      let pe = behind_parts p0 forms.FunctionNode true qs in
      let se = behind_parts s0 forms.FunctionNode true us in
      let p1 = without_variables p pe in
      let s1 = without_variables s se in
      let fp : pe.functions ≡ p.functions = parts_functions qs forms.FunctionNode true p0 in
      let fs : se.functions ≡ s.functions = parts_functions us forms.FunctionNode true s0 in
      let out = out_behind p s p0 s0 pe se refl refl x.1 in
      let le = ordered_in_le ts f (suc l) (ordered_parts ts f l st.ordered) in
      let b1 = closed_same names asked n (suc l) p s pe se (omega arith) fp fs out st.beside in
      let fr = sound_frame asked p forms.FunctionNode w f l qs so.1.0 in
      let vp = (function_visible p w f l qs).0 in
      let vs = (function_visible s w f l us).0 in
      let once = subst (λ (z : Env). (is_declared z name || is_known_name z name) ≡ false) vp fr.once in
      let one1 : OneScope p1 = (iu.one.0, out.plain ∙ iu.one.1) in
      let nn = new_name (suc l) p1 s1 name is one1 b1.scopes once in
      let gives = defined_gives asked p1 name sg.kernel m sg (ap (definition_from name 0) fp ∙ d)
      (ap (λ z. slice_get z m) fp ∙ e) gr in (
        (
          x.0,
          frame_but asked s forms.FunctionNode w f l us refl (record {
            once = subst (λ (z : Env). (is_declared z name || is_known_name z name) ≡ false) (sym vs)
                (neither_both (is_declared s1 name) (is_known_name s1 name) nn.0 (not_known s1 name nn.1));
            inside' = refl;
            kernel = ap no_kernel_function (function_says names w ts ts h) ∙ fr.kernel;
            there = refl;
            match' = refl;
          }),
        ),
        subst (λ z. Beside asked (with_name names name (Other false)) (suc l) z
            (behind s (node forms.FunctionNode w f l us)))
            (sym (function_visible p w f l qs).1)
            (subst (λ z. Beside asked (with_name names name (Other false)) (suc l) (with_function p1 name) z)
            (sym (function_visible s w f l us).1)
            (beside_function asked names (suc l) p1 s1 name is one1 gives b1 nn.1)),
      )
    where
      owner_by : (g : Signature) → signature_in w (plains_of ts) ≡ g → IsName (name_in w) →
          is_some (result_kind (signature_in w (plains_of ts)).result) ≡ true →
          IsName g.name × (is_vector (names g.name) ≡ false) × (is_some (result_kind g.result) ≡ true)
      owner_by g k is r = subst (λ (z : Signature). IsName z.name × (is_vector (names z.name) ≡ false) ×
          (is_some (result_kind z.result) ≡ true)) k
          (subst IsName (sym (name_of w (plains_of ts))) is, iu.vectorless _, r)

  pub functions_follow : FunctionsFollow
  functions_follow asked names n p s (node forms.FunctionNode w f l ts) h iu d st =
      let x = function_form names w f l ts in
      let after = with_name names (name_in w) (Other false) in
      let u = node forms.FunctionNode w f l (all_scalarised (marked_parts forms.FunctionNode ts names true ts)) in
      let r = function_follows asked names n p s w f l ts h iu (subst (IsDefined p) x.1 d) st
      (subst (SoundTree asked p roles.Other) x.1 st.sound) in
      subst (λ z. SoundBut asked s roles.Other z ×
      Beside asked after (suc l) (behind p (plain_of (node forms.FunctionNode w f l ts))) (behind s z)) (sym x.0)
      (subst (λ z. SoundBut asked s roles.Other u × Beside asked after (suc l) (behind p z) (behind s u)) (sym x.1) r)
  functions_follow asked names n p s t h iu d st = absurd h
