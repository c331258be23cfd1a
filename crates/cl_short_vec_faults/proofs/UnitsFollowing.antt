-- Where no node of the plain form of a unit is at fault, no node of the unit without vectors is, but perhaps by a size.
use Rattle.std.proofs.Common.{◌≡◌, ℕ, suc, ◌≤◌, ◌<◌, ◌^◌, List, [], ◌∷◌, length, Option, None, Some, Bool, true, false}
use Rattle.std.proofs.Common.{if◌then◌else◌, not, refl, ap, sym, ◌∙◌, subst, inl, inr, arith}
use Rattle.std.proofs.lemmas.Bool.{false≢true}
use Rattle.std.proofs.lemmas.Option.{none-some, same_Some}
use Rattle.wg_num.specs.declared.types.Place.{Place}
use Rattle.cl_token.specs.declared.token.Token.{Token}
use Rattle.cl_model.specs.Lists.{IsOneOf}
use Rattle.cl_tree.specs.declared.tree.Form.TheVariants as forms
use Rattle.cl_tree.specs.Syntax.{Syntax, node, Forest, none, more, last_of, last_in}
use Rattle.cl_tree.specs.Grammar as grammar
use Rattle.cl_tree.specs.Grammar.{SpellsUnit}
use Rattle.cl_limits.specs.Judged.{nodes_of, asked_in, IsSound}
use Rattle.cl_meaning.specs.Names.{intrinsic_in}
use Rattle.cl_meaning.specs.declared.fault.Fault.{Fault}
use Rattle.cl_meaning.specs.declared.kind.Role.TheVariants as roles
use Rattle.cl_meaning.specs.Environment.{Env, Signature, empty_scope, at_start}
use Rattle.cl_meaning.specs.Kinds.{Callee, known, known_as}
use Rattle.cl_meaning.specs.declared.names.Intrinsic.{Intrinsic}
use Rattle.cl_meaning.specs.Declarations.{definitions_in, parts_of}
use Rattle.cl_meaning.specs.Visible.{Node, in_order, inside, restored, visible_at}
use Rattle.cl_meaning.specs.Faults.{Asked, AllSound, at_fault, looked, defines_kernel}
use Rattle.cl_meaning.specs.Meant.{start_of}
use Rattle.cl_check_sound.specs.Shape.{AreItemsOf}
use Rattle.cl_check_sound.specs.Sound.{SoundTree}
use Rattle.cl_short_vec.specs.declared.refuse.VectorRefusal.{VectorRefusal}
use Rattle.cl_short_vec.specs.declared.roles.Role.TheVariants.{Free, Outer}
use Rattle.cl_short_vec.specs.Kinds.{no_names}
use Rattle.cl_short_vec.specs.Plain.{has_vectors}
use Rattle.cl_short_vec.specs.Marks.{marked, marked_parts}
use Rattle.cl_short_vec.specs.Faults.{refusals, told}
use Rattle.cl_short_vec.specs.Unit.{scalarised, all_scalarised}
use Rattle.cl_short_vec_faults.specs.PlainForm.{plain_of, plains_of}
use Rattle.cl_short_vec_faults.specs.Law.{CalleeGives, ExpressionsFollow}
use Rattle.cl_short_vec_faults.specs.SoundBut.{is_of_size, SoundBut}
use Rattle.cl_short_vec_faults.specs.Plainly.{NoPoints}
use Rattle.cl_short_vec_faults.specs.Beside.{Beside}
use Rattle.cl_short_vec_faults.specs.Leaves.{LeavesFit, AllLeavesFit}
use Rattle.cl_short_vec_faults.specs.UnitLaw.{AllDeclaredNames}
use Rattle.cl_short_vec_faults.proofs.Ordered.{OrderedIn, unit_ordered}
use Rattle.cl_short_vec_faults.proofs.TokenFacts.{AllFacts, unit_facts}
use Rattle.cl_short_vec_faults.proofs.SameFunctions.{parts_functions}
use Rattle.cl_short_vec_faults.proofs.Expressions.{expressions_follow}
use Rattle.cl_short_vec_faults.proofs.Following.{NodesFollow, DeclarationsFollow, HeadsFollow, StatementsFollow}
use Rattle.cl_short_vec_faults.proofs.FrontTrees.{items_define}
use Rattle.cl_short_vec_faults.proofs.FrontFaults.{sound_frame, frame_but}
use Rattle.cl_short_vec_faults.proofs.PlainUnits.{plain_same}
use Rattle.cl_short_vec_faults.proofs.UnitCalls.{asked_of, tree_follows}
use Rattle.cl_short_vec_faults.proofs.Vectorless.{items_stay}
use Rattle.cl_short_vec_faults.proofs.UnitItems.{items_follow}

-- ---- what is visible at a unit

known_only : (o : Option Intrinsic) (i : Intrinsic) (c : Callee) → o ≡ Some i → known_as o ≡ Some c → c ≡ known i
known_only None i c e h = absurd (none-some c h)
known_only (Some j) i c e h = sym (same_Some _ _ h) ∙ ap known (same_Some _ _ e)

known_gives : (asked : Asked) (q : List ℕ) (o : Option Intrinsic) (c : Callee) → known_as o ≡ Some c →
    CalleeGives asked q c
known_gives asked q None c h = absurd (none-some c h)
known_gives asked q (Some i) c h = subst (CalleeGives asked q) (same_Some _ _ h) tt

start_beside : (asked : Asked) (places : List Place) (gs : List Signature) →
    Beside asked no_names 0 (at_start places gs) (at_start places gs)
start_beside asked places gs = record {
  plainly = record {
    functions = refl;
    owner = refl;
    declared = refl;
    flags = refl;
    outside = refl;
    in_body = refl;
    in_loop = refl;
    in_switch = refl;
    labels = refl;
    depth = refl;
    arrays = refl;
    tables = refl;
    names' = λ q h. refl;
    narrow = λ q. omega arith;
  };
  scopes = (
    record { declared = λ q i h. h; components = λ q i c h. h; helps = λ s l k. refl; parts = λ s l k c. refl },
    tt,
  );
  open' = omega arith;
  unflagged = refl;
  gives = λ q c h. known_gives asked q (intrinsic_in q) c h;
  alone = λ q i c e h. known_only (intrinsic_in q) i c e h;
  named = λ q h. absurd (false≢true (sym h));
}

-- ---- the node of a unit

unit_forms : (w : List ℕ) (f l : ℕ) (items : Forest) →
    (scalarised (marked no_names (node forms.UnitNode w f l items)) ≡
    node forms.UnitNode w f l (all_scalarised (marked_parts forms.UnitNode items no_names true items))) ×
    (plain_of (node forms.UnitNode w f l items) ≡ node forms.UnitNode w f l (plains_of items))
unfolding scalarised marked plain_of
unit_forms w f l items = (refl, refl)

unit_functions : (env : Env) (w : List ℕ) (f l : ℕ) (items : Forest) →
    (visible_at env (node forms.UnitNode w f l items)).functions ≡ env.functions
unfolding restored inside
unit_functions env w f l items = parts_functions items forms.UnitNode true env

unit_leaves : (env : Env) (w : List ℕ) (f l : ℕ) (items : Forest) →
    LeavesFit env (marked no_names (node forms.UnitNode w f l items)) →
    AllLeavesFit env forms.UnitNode true None (marked_parts forms.UnitNode items no_names true items)
unfolding LeavesFit marked inside
unit_leaves env w f l items h = h.1

module _ (expressions : ExpressionsFollow) (declarations : DeclarationsFollow) (constants : HeadsFollow Outer)
    (statements : StatementsFollow) where
  unit_follows : (places : List Place) (w : List ℕ) (f l : ℕ) (items : Forest) (n m : ℕ) → AreItemsOf true items →
      m ≤ 2 ^ 64 → OrderedIn 0 items m → AllFacts items → NoPoints items → AllDeclaredNames items →
      refusals Free (marked no_names (node forms.UnitNode w f l items)) ≡ [] →
      LeavesFit (at_start places (definitions_in (plains_of items)))
      (marked no_names (node forms.UnitNode w f l items)) → (asked : Asked) →
      SoundTree asked (at_start places (definitions_in (plains_of items))) roles.Other
      (node forms.UnitNode w f l (plains_of items)) →
      SoundBut asked (at_start places (definitions_in (plains_of items))) roles.Other
      (node forms.UnitNode w f l (all_scalarised (marked_parts forms.UnitNode items no_names true items)))
  unfolding inside
  unit_follows places w f l items n m h few o fa np dn r lv asked so =
      let gs = definitions_in (plains_of items) in
      let env = at_start places gs in
      let us = all_scalarised (marked_parts forms.UnitNode items no_names true items) in
      let fr = sound_frame asked env forms.UnitNode w f l (plains_of items) so.1.0 in
      let x = items_follow expressions declarations constants statements asked no_names 0 m env env None None true items
      items h few (record { one = (empty_scope, refl); vectorless = λ q. refl })
      (record { before = []; declared = tt; all = refl }) (start_beside asked places gs) o fa np dn
      (items_stay no_names w f l items r) (unit_leaves env w f l items lv) so.0 in (
        x,
        frame_but asked env forms.UnitNode w f l us refl (record {
          once = refl;
          inside' = refl;
          kernel = refl;
          there = ap (λ z. not (defines_kernel asked.kernel z)) (unit_functions env w f l us ∙
              sym (unit_functions env w f l (plains_of items))) ∙ fr.there;
          match' = refl;
        }),
      )

-- ---- tokens

-- items stand in front of the end of the last of them
to_last : (ts : Forest) (n m d : ℕ) → n ≤ suc d → OrderedIn n ts m → OrderedIn n ts (suc (last_in ts d))
to_last none n m d l h = l
to_last (more t ts) n m d l h = (h.0, h.1, to_last ts (suc (last_of t)) m (last_of t) (omega arith) h.2)

spelled_last : (unit : Syntax) (tokens : List Token) → SpellsUnit unit tokens → last_of unit ≡ last_in (parts_of unit) 0
spelled_last unit tokens (grammar.unit h) = refl

items_ordered : (unit : Syntax) (tokens : List Token) → SpellsUnit unit tokens →
    OrderedIn 0 (parts_of unit) (suc (last_of unit))
items_ordered unit tokens h = subst (λ z. OrderedIn 0 (parts_of unit) (suc z)) (sym (spelled_last unit tokens h))
    (to_last (parts_of unit) 0 (length tokens) 0 (omega arith) (unit_ordered unit tokens h))

-- ---- the law

all_sound_of : (asked : Asked) (ns : List Node) (n : Node) → AllSound asked ns → IsOneOf ns n → (k : Fault) →
    at_fault asked (looked n) k ≡ false
all_sound_of asked [] n s i k = absurd i
all_sound_of asked (m ∷ ns) n s (inl e) k = subst (λ z. at_fault asked (looked z) k ≡ false) e (s.0 k)
all_sound_of asked (m ∷ ns) n s (inr i) k = all_sound_of asked ns n s.1 i k

told_none : (rs : List VectorRefusal) → told rs ≡ None → rs ≡ []
told_none [] h = refl
told_none (r ∷ rs) h = absurd (none-some r (sym h))

-- what the law says of a tree in the place of the unit
abbrev Judged : List Place → List ℕ → Syntax → Type 0
Judged places kernel u = (n : Node) → IsOneOf (nodes_of places u) n → (k : Fault) → is_of_size k ≡ false →
    at_fault (asked_in places kernel u) (looked n) k ≡ false

-- a unit without vectors is its plain form
judged_plain : (places : List Place) (kernel : List ℕ) (unit : Syntax) → has_vectors unit ≡ false →
    IsSound places kernel (plain_of unit) → Judged places kernel unit
judged_plain places kernel unit e so n i k z =
    all_sound_of (asked_in places kernel unit) (nodes_of places unit) n
    (subst (IsSound places kernel) (plain_same unit e) so) i k

-- a tree at which the same is visible
judged_by : (places : List Place) (kernel : List ℕ) (env : Env) (u : Syntax) → start_of places u ≡ env →
    ((n : Node) → IsOneOf (in_order env roles.Other u []) n → (k : Fault) → is_of_size k ≡ false →
    at_fault (asked_of kernel env u) (looked n) k ≡ false) → Judged places kernel u
judged_by places kernel env u e h = subst (λ z. (n : Node) → IsOneOf (in_order z roles.Other u []) n → (k : Fault) →
    is_of_size k ≡ false → at_fault (asked_of kernel z u) (looked n) k ≡ false) (sym e) h

module _ (expressions : ExpressionsFollow) (declarations : DeclarationsFollow) (constants : HeadsFollow Outer)
    (statements : StatementsFollow) where
  judged_form : (places : List Place) (kernel : List ℕ) (tokens : List Token) (w : List ℕ) (f l : ℕ) (items : Forest) →
      SpellsUnit (node forms.UnitNode w f l items) tokens → l < 2 ^ 64 → AreItemsOf true items → NoPoints items →
      AllDeclaredNames items → refusals Free (marked no_names (node forms.UnitNode w f l items)) ≡ [] →
      IsSound places kernel (node forms.UnitNode w f l (plains_of items)) →
      LeavesFit (at_start places (definitions_in (plains_of items)))
      (marked no_names (node forms.UnitNode w f l items)) → Judged places kernel
      (node forms.UnitNode w f l (all_scalarised (marked_parts forms.UnitNode items no_names true items)))
  judged_form places kernel tokens w f l items sp few h np dn r so lv =
      let env = at_start places (definitions_in (plains_of items)) in
      let u = node forms.UnitNode w f l (all_scalarised (marked_parts forms.UnitNode items no_names true items)) in
      judged_by places kernel env u (ap (at_start places) (items_define items no_names true items h))
      (tree_follows kernel env (node forms.UnitNode w f l (plains_of items)) u
      (λ asked s. unit_follows expressions declarations constants statements places w f l items 0 (suc l) h
      (omega arith) (items_ordered (node forms.UnitNode w f l items) tokens sp)
      (unit_facts (node forms.UnitNode w f l items) tokens sp) np dn r lv asked s) so)

  units_by : (places : List Place) (kernel : List ℕ) (tokens : List Token) (w : List ℕ) (f l : ℕ) (items : Forest) →
      SpellsUnit (node forms.UnitNode w f l items) tokens → l < 2 ^ 64 → AreItemsOf true items → NoPoints items →
      AllDeclaredNames items → (b : Bool) → has_vectors (node forms.UnitNode w f l items) ≡ b →
      (if b then told (refusals Free (marked no_names (node forms.UnitNode w f l items))) else None) ≡ None →
      IsSound places kernel (plain_of (node forms.UnitNode w f l items)) →
      LeavesFit (start_of places (plain_of (node forms.UnitNode w f l items)))
      (marked no_names (node forms.UnitNode w f l items)) → Judged places kernel
      (if b then scalarised (marked no_names (node forms.UnitNode w f l items)) else node forms.UnitNode w f l items)
  units_by places kernel tokens w f l items sp few h np dn false e rf so lv =
      judged_plain places kernel (node forms.UnitNode w f l items) e so
  units_by places kernel tokens w f l items sp few h np dn true e rf so lv =
      let unit = node forms.UnitNode w f l items in
      let x = unit_forms w f l items in
      subst (Judged places kernel) (sym x.0) (judged_form places kernel tokens w f l items sp few h np dn
      (told_none (refusals Free (marked no_names unit)) rf) (subst (IsSound places kernel) x.1 so)
      (subst (λ z. LeavesFit (start_of places z) (marked no_names unit)) x.1 lv))

  pub units_follow : NodesFollow
  units_follow places kernel tokens (node forms.UnitNode w f l items) sp few h np dn rf so lv =
      units_by places kernel tokens w f l items sp few h np.1 dn.1 (has_vectors (node forms.UnitNode w f l items)) refl
      rf so lv
  units_follow places kernel tokens t sp few h np dn rf so lv = absurd h

-- what is to be shown of expressions is shown
pub nodes_from : DeclarationsFollow → HeadsFollow Outer → StatementsFollow → NodesFollow
nodes_from declarations constants statements = units_follow expressions_follow declarations constants statements
