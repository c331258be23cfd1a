-- The items of a unit, one behind the other.
use Rattle.std.proofs.Common.{◌≡◌, ℕ, suc, ◌≤◌, ◌^◌, List, [], ◌∷◌, ◌++◌, append_assoc, None, Some, Bool, true}
use Rattle.std.proofs.Common.{false, refl, ap, sym, ◌∙◌, inl, inr, ◌⊎◌, arith}
use Rattle.cl_model.specs.Lists.{Each}
use Rattle.cl_tree.specs.declared.tree.Form.TheVariants as forms
use Rattle.cl_tree.specs.Syntax.{Syntax, node, Forest, none, more, last_of}
use Rattle.cl_meaning.specs.declared.kind.Role.TheVariants as roles
use Rattle.cl_meaning.specs.Environment.{Env, Signature, is_declared}
use Rattle.cl_meaning.specs.Declarations.{signature_in, definitions_in}
use Rattle.cl_meaning.specs.Visible.{Before, later, behind}
use Rattle.cl_meaning.specs.Faults.{Asked}
use Rattle.cl_check_sound.specs.Shape.{IsFunctionOf, IsPrototypeOf, IsDeclarationOf, AreItemsOf}
use Rattle.cl_check_sound.specs.Sound.{SoundTree, SoundParts}
use Rattle.cl_check_sound.proofs.Constants.{OneScope}
use Rattle.cl_check_sound.proofs.Items.{name_of}
use Rattle.cl_short_vec.specs.declared.roles.Role.TheVariants.{Outer}
use Rattle.cl_short_vec.specs.Kinds.{Names}
use Rattle.cl_short_vec.specs.Kinds as kinds
use Rattle.cl_short_vec.specs.Marks.{marked, marked_parts}
use Rattle.cl_short_vec.specs.Unit.{scalarised, all_scalarised}
use Rattle.cl_short_vec_faults.specs.PlainForm.{plain_of, plains_of}
use Rattle.cl_short_vec_faults.specs.Plainly.{NoPoints}
use Rattle.cl_short_vec_faults.specs.Law.{ExpressionsFollow}
use Rattle.cl_short_vec_faults.specs.SoundBut.{SoundBut, AllSoundBut}
use Rattle.cl_short_vec_faults.specs.Beside.{Beside}
use Rattle.cl_short_vec_faults.specs.Leaves.{AllLeavesFit}
use Rattle.cl_short_vec_faults.specs.UnitLaw.{AllDeclaredNames}
use Rattle.cl_short_vec_faults.proofs.Ordered.{OrderedIn, ordered_in_le}
use Rattle.cl_short_vec_faults.proofs.TokenFacts.{AllFacts}
use Rattle.cl_short_vec_faults.proofs.SameFunctions.{behind_functions}
use Rattle.cl_short_vec_faults.proofs.Following.{Stands, Goes, DeclarationsFollow, HeadsFollow, StatementsFollow}
use Rattle.cl_short_vec_faults.proofs.Following.{InUnit, IsDefined}
use Rattle.cl_short_vec_faults.proofs.BodyLines.{leaves_split}
use Rattle.cl_short_vec_faults.proofs.UnitFunctions.{functions_follow}
use Rattle.cl_short_vec_faults.proofs.UnitPrototypes.{prototypes_follow}
use Rattle.cl_short_vec_faults.proofs.FirmKept.{behind_one, behind_declared}
use Rattle.cl_short_vec_faults.proofs.Vectorless.{ItemsStay, item_plain}
use Rattle.cl_short_vec_faults.proofs.UnitDefinitions.{function_declared, function_defined}

-- an item of a unit
abbrev pub IsItem : Syntax → Type 0
IsItem t = IsFunctionOf true t ⊎ (IsPrototypeOf true t ⊎ IsDeclarationOf true t)

-- the functions in front of an item, and those of the items from it on
pub record Done (p : Env) (ts : Forest) : Type 0 where
  pub before : List Signature
  pub declared : Each (λ (g : Signature). is_declared p g.name ≡ true) before
  pub all : p.functions ≡ before ++ definitions_in ts

each_kept : (p : Env) (t : Syntax) (gs : List Signature) → OneScope p →
    Each (λ (g : Signature). is_declared p g.name ≡ true) gs →
    Each (λ (g : Signature). is_declared (behind p t) g.name ≡ true) gs
each_kept p t [] o h = tt
each_kept p t (g ∷ gs) o h = (behind_declared p t g.name o h.0, each_kept p t gs o h.1)

each_last : {A : Type 0} (P : A → Type 0) (xs : List A) (x : A) → Each P xs → P x → Each P (xs ++ x ∷ [])
each_last P [] x h k = (k, tt)
each_last P (y ∷ xs) x h k = (h.0, each_last P xs x h.1 k)

-- an item that is no function defines none
same_done : (p : Env) (t : Syntax) (ts : Forest) → definitions_in (more t ts) ≡ definitions_in ts → OneScope p →
    Done p (more t ts) → Done (behind p t) ts
same_done p t ts e o d = record {
  before = d.before;
  declared = each_kept p t d.before o d.declared;
  all = behind_functions t p ∙ (d.all ∙ ap (λ z. d.before ++ z) e);
}

item_done : (asked : Asked) (p : Env) (t : Syntax) (ts : Forest) → IsItem t → OneScope p →
    Done p (more (plain_of t) ts) → Done (behind p (plain_of t)) ts
unfolding plain_of
item_done asked p (node forms.FunctionNode w f l qs) ts (inl h) o d =
    let t' = node forms.FunctionNode w f l (plains_of qs) in
    let g = signature_in w (plains_of qs) in
    record {
      before = d.before ++ g ∷ [];
      declared = each_last (λ (g : Signature). is_declared (behind p t') g.name ≡ true) d.before g
          (each_kept p t' d.before o d.declared)
          (ap (is_declared (behind p t')) (name_of w (plains_of qs)) ∙ function_declared asked p w f l qs h o);
      all = behind_functions t' p ∙ (d.all ∙ sym (append_assoc d.before (g ∷ []) (definitions_in ts)));
    }
item_done asked p (node forms.PrototypeNode w f l qs) ts (inr (inl h)) o d =
    same_done p (node forms.PrototypeNode w f l (plains_of qs)) ts refl o d
item_done asked p (node forms.DeclareNode w f l qs) ts (inr (inr h)) o d =
    same_done p (node forms.DeclareNode w f l (plains_of qs)) ts refl o d
item_done asked p t ts (inl h) o d = absurd h
item_done asked p t ts (inr (inl h)) o d = absurd h
item_done asked p t ts (inr (inr h)) o d = absurd h

item_defined : (asked : Asked) (p : Env) (t : Syntax) (ts : Forest) → IsFunctionOf true t → OneScope p →
    SoundTree asked p roles.Other (plain_of t) → Done p (more (plain_of t) ts) → IsDefined p (plain_of t)
unfolding plain_of
item_defined asked p (node forms.FunctionNode w f l qs) ts h o s d =
    function_defined asked p w f l qs h o d.before (definitions_in ts) s d.declared d.all
item_defined asked p t ts h o s d = absurd h

module _ (expressions : ExpressionsFollow) (declarations : DeclarationsFollow) (constants : HeadsFollow Outer)
    (statements : StatementsFollow) where
  item_follows : (asked : Asked) (names : Names) (n : ℕ) (p s : Env) (t : Syntax) (ts : Forest) → IsItem t →
      InUnit names p → Done p (more (plain_of t) ts) → Stands asked names n p s Outer roles.Other t →
      SoundBut asked s roles.Other (scalarised (marked names t)) ×
      Goes asked (kinds.behind names t) t p (behind s (scalarised (marked names t)))
  item_follows asked names n p s t ts (inl h) iu d st =
      functions_follow expressions declarations statements asked names n p s t h iu
      (item_defined asked p t ts h iu.one st.sound d) st
  item_follows asked names n p s t ts (inr (inl h)) iu d st =
      prototypes_follow expressions asked names n p s t h iu st
  item_follows asked names n p s t ts (inr (inr h)) iu d st = constants asked names n p s t h st

  pub items_follow : (asked : Asked) (names : Names) (n m : ℕ) (p s : Env) (a b : Before) (front : Bool)
      (all ts : Forest) → AreItemsOf true ts → m ≤ 2 ^ 64 → InUnit names p → Done p (plains_of ts) →
      Beside asked names n p s → OrderedIn n ts m → AllFacts ts → NoPoints ts → AllDeclaredNames ts →
      ItemsStay (marked_parts forms.UnitNode all names front ts) →
      AllLeavesFit p forms.UnitNode front None (marked_parts forms.UnitNode all names front ts) →
      SoundParts asked p forms.UnitNode a (plains_of ts) →
      AllSoundBut asked s forms.UnitNode b (all_scalarised (marked_parts forms.UnitNode all names front ts))
  unfolding plains_of marked_parts all_scalarised later
  items_follow asked names n m p s a b front all none h l iu d be o fa np dn st lf so = tt
  items_follow asked names n m p s a b front all (more t ts) h l iu d be o fa np dn st lf so =
      let t' = plain_of t in
      let u = scalarised (marked names t) in
      let after = kinds.behind names t in
      let w = leaves_split p forms.UnitNode front None names t (marked_parts forms.UnitNode all after false ts) lf in
      let fits = ordered_in_le ts (suc (last_of t)) m o.2 in
      let x = item_follows asked names n p s t (plains_of ts) h.0 iu d (record {
        beside = be;
        ordered = o.1;
        behind' = o.0;
        few = omega arith;
        facts = fa.0;
        no_point = np.0;
        declared = dn.0;
        stays = st.0;
        leaves = w.0;
        sound = so.0;
      }) in (
        x.0,
        items_follow asked after (suc (last_of t)) m (behind p t') (behind s u) (Some (last_of t')) (Some (last_of u))
            false all ts h.1 l (record {
              one = behind_one p t' iu.one;
              vectorless = item_plain names t h.0 st.0 iu.vectorless;
            }) (item_done asked p t (plains_of ts) h.0 iu.one d) x.1 o.2 fa.1 np.1 dn.1 st.1 w.1 so.1,
      )
