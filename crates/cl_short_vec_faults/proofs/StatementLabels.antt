-- Statements behind a label go on side by side: what stands for the value of a label is the same number.
use Rattle.std.proofs.Common.{◌≡◌, ℕ, suc, ◌≤◌, List, [], length, take, None, true, false}
use Rattle.std.proofs.Common.{refl, ap, sym, ◌∙◌, subst, arith}
use Rattle.cl_tree.specs.declared.tree.Form.TheVariants as forms
use Rattle.cl_tree.specs.Syntax.{Syntax, node, none, more, last_of}
use Rattle.cl_tree.specs.Nodes.{forest1, forest2}
use Rattle.cl_meaning.specs.declared.kind.Role.TheVariants as roles
use Rattle.cl_meaning.specs.Constants.{constant_of}
use Rattle.cl_meaning.specs.Environment.{Env}
use Rattle.cl_meaning.specs.Kinds.{kind_step}
use Rattle.cl_meaning.specs.Visible.{inside, behind, behind_parts, later, restored, left, kind_of, before_labels}
use Rattle.cl_meaning.specs.Visible.{with_default, with_label}
use Rattle.cl_meaning.specs.Faults.{Asked}
use Rattle.cl_check_sound.specs.Shape.{IsExpressionOf, IsStatementOf}
use Rattle.cl_check_sound.specs.Sound.{SoundTree}
use Rattle.cl_short_vec.specs.declared.roles.Role.TheVariants.{Free}
use Rattle.cl_short_vec.specs.Kinds.{Names}
use Rattle.cl_short_vec.specs.Kinds as kinds
use Rattle.cl_short_vec.specs.Marks.{unmarked, marking, marked, marked_parts, kind_by}
use Rattle.cl_short_vec.specs.Roles.{role_of}
use Rattle.cl_short_vec.specs.Faults.{refusals}
use Rattle.cl_short_vec.specs.Unit.{scalarised}
use Rattle.cl_short_vec_faults.specs.SoundBut.{SoundBut}
use Rattle.cl_short_vec_faults.specs.PlainForm.{plain_of, plains_of}
use Rattle.cl_short_vec_faults.specs.Beside.{Beside}
use Rattle.cl_short_vec_faults.specs.Leaves.{LeavesFit}
use Rattle.cl_short_vec_faults.proofs.Ordered.{ordered_le}
use Rattle.cl_short_vec_faults.proofs.OuterKept.{take_all}
use Rattle.cl_short_vec_faults.proofs.SameFunctions.{behind_functions}
use Rattle.cl_short_vec_faults.proofs.Refused.{parts_stay, free_no_vector, expression_names}
use Rattle.cl_short_vec_faults.proofs.ConstantsSame.{constants_same}
use Rattle.cl_short_vec_faults.proofs.BesideMoves.{beside_closed, beside_later, beside_labels}
use Rattle.cl_short_vec_faults.proofs.BodyLines.{leaves_split}
use Rattle.cl_short_vec_faults.proofs.StatementFaults.{default_sound, case_sound}
use Rattle.cl_short_vec_faults.proofs.StatementParts.{Going, Placed, Goes, shown, expression_scalar}

-- out of a statement behind a label, whose labels stay
abbrev labelled : Env → Env → Env
labelled env inner = record (before_labels env inner) { labels = inner.labels }

labels_out : (asked : Asked) (names after : Names) (n m : ℕ) (p s ip is : Env) → n ≤ m → Beside asked names n p s →
    ip.scopes ≡ p.scopes → is.scopes ≡ s.scopes → ip.functions ≡ p.functions → Beside asked after m ip is →
    Beside asked names m (labelled p ip) (labelled s is)
labels_out asked names after n m p s ip is l h a b f i =
    beside_labels asked names m (before_labels p ip) (before_labels s is) ip.labels is.labels i.plainly.labels
    (beside_closed asked names after n m p s ip is l (ap (take (length p.scopes)) a ∙ take_all p.scopes)
    (ap (take (length s.scopes)) b ∙ take_all s.scopes) f i h)

-- ---- `default`

default_behind : (env : Env) (w : List ℕ) (f l : ℕ) (a : Syntax) →
    behind env (node forms.DefaultNode w f l (forest1 a)) ≡
    labelled env (behind (record env { labels = with_default env.labels }) a)
unfolding behind behind_parts restored left inside later
default_behind env w f l a = refl

default_made : (names : Names) (w : List ℕ) (f l : ℕ) (a : Syntax) →
    scalarised (marked names (node forms.DefaultNode w f l (more a none))) ≡
    node forms.DefaultNode w f l (forest1 (scalarised (marked names a)))
unfolding scalarised marked marked_parts
default_made names w f l a = refl

default_stays : (names : Names) (w : List ℕ) (f l : ℕ) (a : Syntax) →
    refusals Free (marked names (node forms.DefaultNode w f l (more a none))) ≡ [] → refusals Free (marked names a) ≡ []
unfolding marked marked_parts kind_by role_of
default_stays names w f l a r = (parts_stay Free _ _ _ (λ x y q. refl) r).0

default_leaves : (p : Env) (names : Names) (w : List ℕ) (f l : ℕ) (a : Syntax) →
    LeavesFit p (marked names (node forms.DefaultNode w f l (more a none))) →
    LeavesFit (record p { labels = with_default p.labels }) (marked names a)
unfolding LeavesFit marked marked_parts inside
default_leaves p names w f l a h = h.1.1

pub default_goes : (asked : Asked) (names : Names) (n : ℕ) (p s : Env) (w : List ℕ) (f l : ℕ) (a : Syntax) →
    IsStatementOf true a → Goes a → Placed asked names n p s (node forms.DefaultNode w f l (more a none)) →
    Going asked names (suc l) p s (node forms.DefaultNode w f l (more a none))
    (scalarised (marked names (node forms.DefaultNode w f l (more a none))))
unfolding plain_of plains_of inside kind_of kind_step
default_goes asked names n p s w f l a e go h =
    let t = node forms.DefaultNode w f l (more a none) in
    let P = plain_of a in
    let q = scalarised (marked names a) in
    let ip = record p { labels = with_default p.labels } in
    let is = record s { labels = with_default s.labels } in
    let y = h.beside.plainly in
    let c = h.from in
    let d = ordered_le t h.ordered in
    let o = h.ordered in
    let hf = h.few in
    let o0 = o.0 in
    let o2 = o.2 in
    let x = go asked names n ip is e (record {
      beside = beside_labels asked names n p s ip.labels is.labels (ap with_default y.labels) h.beside;
      in_body = h.in_body;
      flags = h.flags;
      deep = h.deep;
      ordered = o.1;
      from = omega arith;
      few = omega (arith, hf);
      facts = h.facts.1.0;
      no_point = h.no_point.1.0;
      declared = h.declared.1.0;
      stays = default_stays names w f l a h.stays;
      leaves = default_leaves p names w f l a h.leaves;
      sound = h.sound.0.0;
    }) in
    let bp = default_behind p w f l P in
    let bs = default_behind s w f l q in
    let to = beside_later asked names (suc (last_of a)) (suc l) (behind ip P) (behind is q) (omega arith) x.beside in
    subst (Going asked names (suc l) p s t) (sym (default_made names w f l a)) (record {
      sound = ((x.sound, tt), (default_sound asked p s w f l (forest1 P) (forest1 q) y.labels h.sound.1.0, tt));
      beside = subst (λ z. Beside asked names (suc l) z (behind s (node forms.DefaultNode w f l (forest1 q)))) (sym bp)
          (subst (Beside asked names (suc l) (labelled p (behind ip P))) (sym bs)
          (labels_out asked names names n (suc l) p s (behind ip P) (behind is q) (omega arith) h.beside x.plain x.form
          (behind_functions P ip) to));
      plain = ap (λ z. z.scopes) bp ∙ (ap (take (length p.scopes)) x.plain ∙ take_all p.scopes);
      form = ap (λ z. z.scopes) bs ∙ (ap (take (length s.scopes)) x.form ∙ take_all s.scopes);
      body = ap (λ z. z.in_body) bp;
      kind = refl;
      flags = ap (λ z. z.flags) bp;
    })

-- ---- `case`

abbrev with_value : Env → Syntax → Env
with_value env v = record env { labels = with_label env.labels (constant_of v) }

leaves_of : (p : Env) (names : Names) (w : List ℕ) (f l : ℕ) (v a : Syntax) →
    LeavesFit p (marked names (node forms.CaseNode w f l (more v (more a none)))) →
    LeavesFit (with_value (behind p (plain_of v)) (plain_of v)) (marked (kinds.behind names v) a)
unfolding LeavesFit marked marked_parts inside later
leaves_of p names w f l v a h =
    (leaves_split (with_value (behind p (plain_of v)) (plain_of v)) forms.CaseNode false None (kinds.behind names v) a
    unmarked
    (leaves_split p forms.CaseNode true None names v (marking (marked (kinds.behind names v) a) unmarked) h.1).1).0

-- the value is no vector, and the same number
case_constant : (names : Names) (v : Syntax) → IsExpressionOf true v → refusals Free (marked names v) ≡ [] →
    constant_of (scalarised (marked names v)) ≡ constant_of (plain_of v)
case_constant names v e r = ap constant_of (expression_scalar names v e) ∙
    constants_same Free names v e r (free_no_vector v names e r)

case_behind : (env : Env) (w : List ℕ) (f l : ℕ) (v a : Syntax) → behind env v ≡ env →
    behind env (node forms.CaseNode w f l (forest2 v a)) ≡ labelled env (behind (with_value env v) a)
unfolding behind behind_parts restored left inside later
case_behind env w f l v a e = ap (λ z. labelled env (behind (with_value z v) a)) e

case_made : (names : Names) (w : List ℕ) (f l : ℕ) (v a : Syntax) → IsExpressionOf true v →
    scalarised (marked names (node forms.CaseNode w f l (more v (more a none)))) ≡
    node forms.CaseNode w f l (forest2 (scalarised (marked names v)) (scalarised (marked names a)))
unfolding scalarised marked marked_parts
case_made names w f l v a e = ap (λ z. node forms.CaseNode w f l (forest2 (scalarised (marked names v))
    (scalarised (marked z a)))) (expression_names names v e)

case_stays : (names : Names) (w : List ℕ) (f l : ℕ) (v a : Syntax) → IsExpressionOf true v →
    refusals Free (marked names (node forms.CaseNode w f l (more v (more a none)))) ≡ [] →
    (refusals Free (marked names v) ≡ []) × (refusals Free (marked names a) ≡ [])
unfolding marked marked_parts kind_by role_of
case_stays names w f l v a e r = let x = parts_stay Free _ _ _ (λ x y q. refl) r in
    (x.0, subst (λ z. refusals Free (marked z a) ≡ []) (expression_names names v e) x.1.0)

case_leaves : (p : Env) (names : Names) (w : List ℕ) (f l : ℕ) (v a : Syntax) → IsExpressionOf true v →
    behind p (plain_of v) ≡ p → LeavesFit p (marked names (node forms.CaseNode w f l (more v (more a none)))) →
    LeavesFit (with_value p (plain_of v)) (marked names a)
unfolding marked marked_parts
case_leaves p names w f l v a e b h =
    let names' = kinds.behind names v in
    let x = leaves_of p names w f l v a h in
    subst (λ z. LeavesFit (with_value z (plain_of v)) (marked names a)) b
    (subst (λ z. LeavesFit (with_value (behind p (plain_of v)) (plain_of v)) (marked z a)) (expression_names names v
    e) x)

pub case_goes : (asked : Asked) (names : Names) (n : ℕ) (p s : Env) (w : List ℕ) (f l : ℕ) (v a : Syntax) →
    IsExpressionOf true v → IsStatementOf true a → Goes a →
    Placed asked names n p s (node forms.CaseNode w f l (more v (more a none))) →
    Going asked names (suc l) p s (node forms.CaseNode w f l (more v (more a none)))
    (scalarised (marked names (node forms.CaseNode w f l (more v (more a none)))))
unfolding plain_of plains_of inside kind_of kind_step later
case_goes asked names n p s w f l v a ev e go h =
    let t = node forms.CaseNode w f l (more v (more a none)) in
    let V = plain_of v in
    let P = plain_of a in
    let u = scalarised (marked names v) in
    let q = scalarised (marked names a) in
    let y = h.beside.plainly in
    let st = case_stays names w f l v a ev h.stays in
    let c = h.from in
    let d = ordered_le t h.ordered in
    let o = h.ordered in
    let hf = h.few in
    let dv = ordered_le v o.1 in
    let o0 = o.0 in
    let o2 = o.2.0 in
    let o3 = o.2.2 in
    let V' = shown asked names n p s roles.Other v ev h.no_point.1.0 h.beside st.0 h.sound.0.0 in
    let ip = with_value p V in
    let is = with_value s u in
    let same : constant_of u ≡ constant_of V = case_constant names v ev st.0 in
    let lab : is.labels ≡ ip.labels = ap (λ z. with_label z (constant_of u)) y.labels ∙ ap (with_label p.labels) same in
    let so = subst (λ z. SoundTree asked (with_value z V) roles.Other P) V'.plain h.sound.0.1.0 in
    let x = go asked names n ip is e (record {
      beside = beside_labels asked names n p s ip.labels is.labels lab h.beside;
      in_body = h.in_body;
      flags = h.flags;
      deep = h.deep;
      ordered = o.2.1;
      from = omega arith;
      few = omega (arith, hf);
      facts = h.facts.1.1.0;
      no_point = h.no_point.1.1.0;
      declared = h.declared.1.1.0;
      stays = st.1;
      leaves = case_leaves p names w f l v a ev V'.plain h.leaves;
      sound = so;
    }) in
    let bp = case_behind p w f l V P V'.plain in
    let bs = case_behind s w f l u q V'.form in
    let to = beside_later asked names (suc (last_of a)) (suc l) (behind ip P) (behind is q) (omega arith) x.beside in
    subst (Going asked names (suc l) p s t) (sym (case_made names w f l v a ev)) (record {
      sound = (
        (V'.sound, (subst (λ z. SoundBut asked (with_value z u) roles.Other q) (sym V'.form) x.sound, tt)),
        (case_sound asked p s w f l (forest2 V P) (forest2 u q) y.labels same h.sound.1.0, tt),
      );
      beside = subst (λ z. Beside asked names (suc l) z (behind s (node forms.CaseNode w f l (forest2 u q)))) (sym bp)
          (subst (Beside asked names (suc l) (labelled p (behind ip P))) (sym bs)
          (labels_out asked names names n (suc l) p s (behind ip P) (behind is q) (omega arith) h.beside x.plain x.form
          (behind_functions P ip) to));
      plain = ap (λ z. z.scopes) bp ∙ (ap (take (length p.scopes)) x.plain ∙ take_all p.scopes);
      form = ap (λ z. z.scopes) bs ∙ (ap (take (length s.scopes)) x.form ∙ take_all s.scopes);
      body = ap (λ z. z.in_body) bp;
      kind = refl;
      flags = ap (λ z. z.flags) bp;
    })
