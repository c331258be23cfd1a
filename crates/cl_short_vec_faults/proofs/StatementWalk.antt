-- Each statement goes on side by side: no node of what stands for it is at fault where none of its plain form is.
use Rattle.std.proofs.Common.{◌≡◌, ℕ, suc, ◌≤◌, ◌^◌, List, [], length, take, Option, None, Some, true}
use Rattle.std.proofs.Common.{false, refl, ap, sym, ◌∙◌, subst, arith}
use Rattle.cl_tree.specs.declared.tree.Form.{Form}
use Rattle.cl_tree.specs.declared.tree.Form.TheVariants as forms
use Rattle.cl_tree.specs.Syntax.{node, Forest, none, more}
use Rattle.cl_meaning.specs.declared.kind.Kind.{Kind}
use Rattle.cl_meaning.specs.declared.kind.Role.TheVariants as roles
use Rattle.cl_meaning.specs.Environment.{Env, Labels}
use Rattle.cl_meaning.specs.Visible.{behind, behind_parts, later, kind_of, inside}
use Rattle.cl_meaning.specs.Visible.{before_labels, behind_value, label_type}
use Rattle.cl_meaning.specs.Faults.{Asked}
use Rattle.cl_check_sound.specs.Sound.{SoundTree, Listed}
use Rattle.cl_short_vec.specs.declared.roles.Role.TheVariants.{Free}
use Rattle.cl_short_vec.specs.Kinds.{Names}
use Rattle.cl_short_vec.specs.Marks.{marked, marked_parts}
use Rattle.cl_short_vec.specs.Faults.{refusals}
use Rattle.cl_short_vec.specs.Unit.{scalarised, all_scalarised}
use Rattle.cl_short_vec_faults.specs.PlainForm.{plain_of, plains_of}
use Rattle.cl_short_vec_faults.specs.Beside.{Beside}
use Rattle.cl_short_vec_faults.specs.Leaves.{LeavesFit, AllLeavesFit}
use Rattle.cl_short_vec_faults.proofs.Ordered.{OrderedIn, OrderedBy, ordered_le}
use Rattle.cl_short_vec_faults.proofs.Refused.{AllStay}
use Rattle.cl_short_vec_faults.proofs.OuterKept.{take_all}
use Rattle.cl_short_vec_faults.proofs.SameFunctions.{parts_functions}
use Rattle.cl_short_vec_faults.proofs.BesideMoves.{beside_labels, beside_closed}
use Rattle.cl_short_vec_faults.proofs.StatementFaults.{Quiet, at_node}
use Rattle.cl_short_vec_faults.proofs.StatementParts.{Going, Placed, Plain, Roles, Mixed, AllGo}
use Rattle.cl_short_vec_faults.proofs.StatementParts.{parts_go}

-- ---- from part to part

pub if_plain : Plain forms.IfNode
unfolding later
if_plain = record {
  goes = λ asked names n p s front t q j k e h. h;
  scopes = λ env front p k. refl;
  body = λ env front p k. refl;
  flags = λ env front p k. refl;
  names = λ all names front p. refl;
}

pub if_roles : Roles forms.IfNode
if_roles None None p q e = refl
if_roles (Some l) (Some k) p q e = refl
if_roles None (Some k) p q e = absurd cc
if_roles (Some l) None p q e = absurd cc

pub while_plain : Plain forms.WhileNode
unfolding later
while_plain = record {
  goes = λ asked names n p s front t q j k e h. h;
  scopes = λ env front p k. refl;
  body = λ env front p k. refl;
  flags = λ env front p k. refl;
  names = λ all names front p. refl;
}

pub while_roles : Roles forms.WhileNode
while_roles None None p q e = refl
while_roles (Some l) (Some k) p q e = refl
while_roles None (Some k) p q e = absurd cc
while_roles (Some l) None p q e = absurd cc

pub do_plain : Plain forms.DoNode
unfolding later
do_plain = record {
  goes = λ asked names n p s front t q j k e h. h;
  scopes = λ env front p k. refl;
  body = λ env front p k. refl;
  flags = λ env front p k. refl;
  names = λ all names front p. refl;
}

pub do_roles : Roles forms.DoNode
do_roles None None p q e = refl
do_roles (Some l) (Some k) p q e = refl
do_roles None (Some k) p q e = absurd cc
do_roles (Some l) None p q e = absurd cc

-- behind the value of a switch its labels begin
value_goes : (asked : Asked) (names : Names) (n : ℕ) (p s : Env) (o u : Option Labels) → u ≡ o → (j k : Option Kind) →
    k ≡ j → Beside asked names n p s → Beside asked names n (behind_value p o j) (behind_value s u k)
value_goes asked names n p s None None d j k e h =
    beside_labels asked names n p s _ _ (ap (λ z. Some (record { of = label_type z; values = []; other = false })) e) h
value_goes asked names n p s (Some l) (Some m) d j k e h = h
value_goes asked names n p s None (Some m) d j k e h = absurd cc
value_goes asked names n p s (Some l) None d j k e h = absurd cc

pub switch_plain : Plain forms.SwitchNode
unfolding later
switch_plain = record {
  goes = λ asked names n p s front t q j k e h.
      value_goes asked names n p s p.labels s.labels h.plainly.labels j k e h;
  scopes = λ env front p k. by env.labels env k;
  body = λ env front p k. body env.labels env k;
  flags = λ env front p k. flags env.labels env k;
  names = λ all names front p. refl;
}
  where
    by : (o : Option Labels) (env : Env) (k : Option Kind) → (behind_value env o k).scopes ≡ env.scopes
    by None env k = refl
    by (Some l) env k = refl

    body : (o : Option Labels) (env : Env) (k : Option Kind) → (behind_value env o k).in_body ≡ env.in_body
    body None env k = refl
    body (Some l) env k = refl

    flags : (o : Option Labels) (env : Env) (k : Option Kind) → (behind_value env o k).flags ≡ env.flags
    flags None env k = refl
    flags (Some l) env k = refl

pub switch_roles : Roles forms.SwitchNode
switch_roles None None p q e = refl
switch_roles (Some l) (Some k) p q e = refl
switch_roles None (Some k) p q e = absurd cc
switch_roles (Some l) None p q e = absurd cc

-- ---- statements of expressions and statements, in which no scope opens

pub record Compound (form : Form) : Type 0 where
  pub quiet : Quiet form
  pub plain : Plain form
  pub roles' : Roles form
  pub enter : Env → Env
  pub inside' : (env : Env) (w : List ℕ) → inside env form w ≡ enter env
  pub enters : (asked : Asked) (names : Names) (n : ℕ) (p s : Env) → Beside asked names n p s →
      Beside asked names n (enter p) (enter s)
  pub scopes : (env : Env) → (enter env).scopes ≡ env.scopes
  pub functions : (env : Env) → (enter env).functions ≡ env.functions
  pub body : (env : Env) → (enter env).in_body ≡ env.in_body
  pub flags : (env : Env) → (enter env).flags ≡ env.flags
  pub out : (env : Env) (w : List ℕ) (f l : ℕ) (parts : Forest) → behind env (node form w f l parts) ≡
      before_labels env (behind_parts (inside env form w) form true parts)
  pub form_is : (names : Names) (w : List ℕ) (f l : ℕ) (parts : Forest) →
      scalarised (marked names (node form w f l parts)) ≡
      node form w f l (all_scalarised (marked_parts form parts names true parts))
  pub plain_is : (w : List ℕ) (f l : ℕ) (parts : Forest) →
      plain_of (node form w f l parts) ≡ node form w f l (plains_of parts)
  pub stays : (names : Names) (w : List ℕ) (f l : ℕ) (parts : Forest) →
      refusals Free (marked names (node form w f l parts)) ≡ [] → AllStay (marked_parts form parts names true parts)
  pub leaves : (p : Env) (names : Names) (w : List ℕ) (f l : ℕ) (parts : Forest) →
      LeavesFit p (marked names (node form w f l parts)) →
      AllLeavesFit (inside p form w) form true None (marked_parts form parts names true parts)
  pub kind : (env : Env) (w : List ℕ) (f l : ℕ) (parts : Forest) → kind_of env (node form w f l parts) ≡ None
  pub listed : (asked : Asked) (env : Env) (w : List ℕ) (f l : ℕ) (parts : Forest) →
      Listed asked (at_node env form w f l parts)

pub by_ordered : (ps : Forest) (n f l : ℕ) → n ≤ f → OrderedBy ps f l → OrderedIn n ps (suc l)
by_ordered none n f l a h = omega arith
by_ordered (more p ps) n f l a h = let b = h.0 in (omega arith, h.1, h.2)

-- out of such a statement
compound_out : (form : Form) → Compound form → (asked : Asked) (names after : Names) (n m : ℕ) (p s : Env)
    (w : List ℕ) (f l : ℕ) (ps qs : Forest) → n ≤ m → Beside asked names n p s →
    (behind_parts (inside p form w) form true ps).scopes ≡ p.scopes →
    (behind_parts (inside s form w) form true qs).scopes ≡ s.scopes →
    Beside asked after m (behind_parts (inside p form w) form true ps) (behind_parts (inside s form w) form true qs) →
    Beside asked names m (behind p (node form w f l ps)) (behind s (node form w f l qs))
compound_out form C asked names after n m p s w f l ps qs nm h kp ks b =
    subst (λ z. Beside asked names m z (behind s (node form w f l qs))) (sym (C.out p w f l ps))
    (subst (λ z. Beside asked names m (before_labels p (behind_parts (inside p form w) form true ps)) z)
    (sym (C.out s w f l qs))
    (beside_closed asked names after n m p s (behind_parts (inside p form w) form true ps)
    (behind_parts (inside s form w) form true qs) nm (ap (take (length p.scopes)) kp ∙ take_all p.scopes)
    (ap (take (length s.scopes)) ks ∙ take_all s.scopes)
    (parts_functions ps form true (inside p form w) ∙ (ap (λ z. z.functions) (C.inside' p w) ∙ C.functions p)) b h))

out_scopes : (form : Form) → Compound form → (env : Env) (w : List ℕ) (f l : ℕ) (parts : Forest) →
    (behind_parts (inside env form w) form true parts).scopes ≡ env.scopes →
    (behind env (node form w f l parts)).scopes ≡ env.scopes
out_scopes form C env w f l parts k =
    ap (λ z. z.scopes) (C.out env w f l parts) ∙ (ap (take (length env.scopes)) k ∙ take_all env.scopes)

pub compound_go : (form : Form) → Compound form → (asked : Asked) (names : Names) (n : ℕ) (p s : Env) (w : List ℕ)
    (f l : ℕ) (ps : Forest) → Mixed form true ps → AllGo ps → Placed asked names n p s (node form w f l ps) →
    Going asked names (suc l) p s (node form w f l ps) (scalarised (marked names (node form w f l ps)))
compound_go form C asked names n p s w f l ps mx go h =
    let t = node form w f l ps in
    let P = plains_of ps in
    let Q = all_scalarised (marked_parts form ps names true ps) in
    let so = subst (SoundTree asked p roles.Other) (C.plain_is w f l ps) h.sound in
    let le = ordered_le t h.ordered in
    let fr = h.from in
    let end = h.few in
    let few : suc l ≤ 2 ^ 64 = omega (arith, end) in
    let x = parts_go asked form C.plain C.roles' ps names true None None n (suc l) (inside p form w) (inside s form w)
    ps refl
    refl mx go (record {
      beside = subst (λ z. Beside asked names n z (inside s form w)) (sym (C.inside' p w))
          (subst (λ z. Beside asked names n (C.enter p) z) (sym (C.inside' s w)) (C.enters asked names n p s h.beside));
      in_body = ap (λ z. z.in_body) (C.inside' p w) ∙ (C.body p ∙ h.in_body);
      flags = ap (λ z. z.flags) (C.inside' p w) ∙ (C.flags p ∙ h.flags);
      deep = subst (λ z. 2 ≤ length z) (sym (ap (λ z. z.scopes) (C.inside' s w) ∙ C.scopes s)) h.deep;
      ordered = by_ordered ps n f l fr h.ordered;
      few = few;
      facts = h.facts.1;
      no_point = h.no_point.1;
      declared = h.declared.1;
      stays = C.stays names w f l ps h.stays;
      leaves = C.leaves p names w f l ps h.leaves;
      sound = so.0;
    }) in
    let kp = x.plain ∙ (ap (λ z. z.scopes) (C.inside' p w) ∙ C.scopes p) in
    let ks = x.form' ∙ (ap (λ z. z.scopes) (C.inside' s w) ∙ C.scopes s) in
    subst (λ z. Going asked names (suc l) p s t z) (sym (C.form_is names w f l ps)) (record {
      sound = (x.sound, ((λ k e. C.quiet asked s w f l Q k), C.listed asked s w f l Q));
      beside = subst (λ z. Beside asked names (suc l) (behind p z) (behind s (node form w f l Q))) (sym (C.plain_is w
          f l ps))
          (compound_out form C asked names x.after n (suc l) p s w f l P Q (omega arith) h.beside kp ks x.beside);
      plain = ap (λ z. (behind p z).scopes) (C.plain_is w f l ps) ∙ out_scopes form C p w f l P kp;
      form = out_scopes form C s w f l Q ks;
      body = ap (λ z. (behind p z).in_body) (C.plain_is w f l ps) ∙ ap (λ z. z.in_body) (C.out p w f l P);
      flags = ap (λ z. (behind p z).flags) (C.plain_is w f l ps) ∙ ap (λ z. z.flags) (C.out p w f l P);
      kind = C.kind s w f l Q ∙ sym (ap (kind_of p) (C.plain_is w f l ps) ∙ C.kind p w f l P);
    })
