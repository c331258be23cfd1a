-- What stands for each vector statement of a unit stands in the body of its function.
use Rattle.std.proofs.Common.{◌≡◌, ℕ, List, [], ◌++◌, map, length, ◌+◌, None, Some, Bool, true, false, refl, ap, sym}
use Rattle.std.proofs.Common.{◌∙◌, subst, inl, inr, ◌⊎◌, arith}
use Rattle.wg_num.specs.declared.types.Place.{Place}
use Rattle.cl_model.specs.Lists.{Each}
use Rattle.cl_model.specs.Tree.{Program, Statements}
use Rattle.cl_model.specs.Tree as tree
use Rattle.cl_model.specs.Calls.{function_at}
use Rattle.cl_tree.specs.declared.tree.Form.TheVariants as forms
use Rattle.cl_tree.specs.Syntax.{Syntax, node, Forest, none, more, last_of}
use Rattle.cl_limits.specs.Judged.{asked_in, IsAccepted}
use Rattle.cl_meaning.specs.declared.kind.Role.TheVariants as roles
use Rattle.cl_meaning.specs.OwnWords.{name_in}
use Rattle.cl_meaning.specs.Environment.{Env, Table, Signature, at_start, empty_scope, is_declared}
use Rattle.cl_meaning.specs.Declarations.{definitions_in}
use Rattle.cl_meaning.specs.Visible.{Before, inside, later, behind, behind_parts, in_block, in_definition, kind_of}
use Rattle.cl_meaning.specs.Faults.{Asked}
use Rattle.cl_meaning.specs.Statements.{functions_in, body_in, all_lines}
use Rattle.cl_meaning.specs.Meant.{meant, parts_meant, make, start_of, unit_meant}
use Rattle.cl_check_sound.specs.Shape.{IsPrototypeOf, IsDeclarationOf, AreItemsOf, IsUnitOf}
use Rattle.cl_check_sound.specs.Shape.{IsFunction, IsPrototype, IsDeclaration, BehindHeadsOf, IsDefinitionOf, IsHeadOf}
use Rattle.cl_check_sound.specs.Shape.{IsResult, IsParams}
use Rattle.cl_check_sound.specs.Sound.{SoundTree, SoundParts}
use Rattle.cl_check_sound.specs.Erased.{table_of, program_of}
use Rattle.cl_check_sound.proofs.Grown.{Extends, extends_same}
use Rattle.cl_check_sound.proofs.Constants.{OneScope, AtUnit}
use Rattle.cl_check_sound.proofs.Items.{AllCalled}
use Rattle.cl_check_sound.proofs.Units.{unit_sound_next, unit_behind_next}
use Rattle.cl_check_sound.proofs.Accepted as accepted
use Rattle.cl_short_vec.specs.Kinds.{Names, no_names}
use Rattle.cl_short_vec.specs.Kinds as kinds
use Rattle.cl_short_vec.specs.Marks.{marked, marked_parts}
use Rattle.cl_short_vec.specs.Unit.{scalarised, all_scalarised, block_lines}
use Rattle.cl_short_vec.proofs.Small.{SmallNames, SmallMarks, marked_small, nothing_small, behind_small}
use Rattle.cl_short_vec_correct.proofs.FormUnits.{items_are}
use Rattle.cl_short_vec_correct.specs.Each.{EachStands, PartsStand, Throughout, ThroughParts}
use Rattle.cl_short_vec_correct.proofs.Seen.{Intrinsics}
use Rattle.cl_short_vec_correct.proofs.FunctionBlocks.{function_made}
use Rattle.cl_short_vec_correct.proofs.Numbered.{Numbered, all_numbered}
use Rattle.cl_short_vec_correct.proofs.Items.{item_leaves}
use Rattle.cl_short_vec_correct.proofs.Units.{IsItemOf, item_shape, function_shape, definition_number, start_known}
use Rattle.cl_short_vec_correct.proofs.Owners.{Same, behind_same, later_same, block_same}
use Rattle.cl_short_vec_correct.proofs.Within.{itself}
use Rattle.cl_short_vec_correct.proofs.StatementsStand.{Of, lines_stand}
use Rattle.cl_short_vec_correct.specs.Standing.{Within}

module _ (P : Program) where
  -- no statement stands in front of a block, in a prototype or in a declaration of the unit
  head_stands : (names : Names) (e : Env) (sites : List Place) (t : Syntax) → IsHeadOf true t →
      EachStands P (marked names t) e sites
  unfolding Throughout marked
  head_stands names e sites (node forms.HeadNode w f l ps) h = tt
  head_stands names e sites t h = absurd h

  result_stands : (names : Names) (e : Env) (sites : List Place) (t : Syntax) → IsResult t →
      EachStands P (marked names t) e sites
  unfolding Throughout marked
  result_stands names e sites (node forms.ResultNode w f l ps) h = tt
  result_stands names e sites t h = absurd h

  params_stand : (names : Names) (e : Env) (sites : List Place) (t : Syntax) → IsParams t →
      EachStands P (marked names t) e sites
  unfolding Throughout marked
  params_stand names e sites (node forms.ParamsNode w f l ps) h = tt
  params_stand names e sites t h = absurd h

  prototype_stands : (names : Names) (u : Env) (sites : List Place) (p : Syntax) → IsPrototypeOf true p →
      EachStands P (marked names p) u sites
  unfolding Throughout marked
  prototype_stands names u sites (node forms.PrototypeNode w f l ps) h = tt
  prototype_stands names u sites p h = absurd h

  outer_stands : (names : Names) (u : Env) (sites : List Place) (p : Syntax) → IsDeclarationOf true p →
      EachStands P (marked names p) u sites
  unfolding Throughout marked
  outer_stands names u sites (node forms.DeclareNode w f l (more t ds)) h = tt
  outer_stands names u sites p h = absurd h

  -- ---- functions

  -- where the block of a function is this body
  parts_stand : (body : Statements) (ps all : Forest) (names : Names) (front : Bool) (env : Env)
      (sites : List Place) → SmallNames names → BehindHeadsOf true (IsDefinitionOf true) ps → Of P body env →
      body_in (parts_meant env forms.FunctionNode front sites
      (all_scalarised (marked_parts forms.FunctionNode all names front ps))).pieces ≡ body →
      PartsStand P (marked_parts forms.FunctionNode all names front ps) forms.FunctionNode front env sites
  unfolding Throughout ThroughParts scalarised all_scalarised block_lines marked marked_parts meant parts_meant make
      inside behind_parts
  parts_stand body none all names front env sites sm h o e = absurd h
  parts_stand body (more (node form w f l hs) none) all names front env sites sm (inl h) o e = absurd h.1
  parts_stand body (more (node form w f l hs) (more t ts)) all names front env sites sm (inl h) o e =
      let p = node form w f l hs in
      let p' = scalarised (marked names p) in
      let to = later (behind env p') forms.FunctionNode front p' (kind_of env p') in (
        head_stands names env sites p h.0,
        parts_stand body (more t ts) all (kinds.behind names p) false to (meant env sites p').sites
            (behind_small names p sm) h.1 (ap (λ z. (function_at P z).body)
            (later_same forms.FunctionNode (behind env p') front p' (kind_of env p') ∙ behind_same env p') ∙ o) e,
      )
  parts_stand body (more (node form w f l hs) (more p (more (node forms.BlockNode w' f' l' lines) none))) all names
      front
      env sites sm (inr h) o e =
      let r = node form w f l hs in
      let n = kinds.behind names r in
      let m = kinds.behind n p in
      let r' = scalarised (marked names r) in
      let p' = scalarised (marked n p) in
      let e1 = later (behind env r') forms.FunctionNode front r' (kind_of env r') in
      let q1 = (meant env sites r').sites in
      let e2 = later (behind e1 p') forms.FunctionNode false p' (kind_of e1 p') in
      let q2 = (meant e1 q1 p').sites in
      let eb = in_block e2 in
      let ss = all_lines (parts_meant eb forms.BlockNode true q2
      (block_lines (marked_parts forms.BlockNode lines m true lines))).pieces in
      let same : Same env eb = block_same e2 ∙
      (later_same forms.FunctionNode (behind e1 p') false p' (kind_of e1 p') ∙ (behind_same e1 p' ∙
      (later_same forms.FunctionNode (behind env r') front r' (kind_of env r') ∙ behind_same env r'))) in (
        result_stands names env sites r h.0,
        (
          params_stand n e1 q1 p h.1,
          (
            lines_stand P body lines lines m true eb q2 (behind_small n p (behind_small names r sm)) h.2
                (ap (λ z. (function_at P z).body) same ∙ o) (subst (Within ss) e (itself ss)),
            tt,
          ),
        ),
      )
  parts_stand body (more (node form w f l hs) (more p (more b none))) all names front env sites sm (inr h) o e =
      absurd h.2
  parts_stand body (more (node form w f l hs) none) all names front env sites sm (inr h) o e = absurd h
  parts_stand body (more (node form w f l hs) (more p none)) all names front env sites sm (inr h) o e = absurd h
  parts_stand body (more (node form w f l hs) (more p (more b (more c cs)))) all names front env sites sm (inr h) o e =
      absurd h

  -- the function with the number of a definition has what its block stands for as its body
  function_body : (u : Env) (front : Bool) (sites : List Place) (w : List ℕ) (f l : ℕ) (parts ps : Forest) (n : ℕ) →
      Numbered P n (functions_in
      (parts_meant u forms.UnitNode front sites (more (node forms.FunctionNode w f l parts) ps)).pieces) →
      (function_at P n).body ≡
      body_in (parts_meant (in_definition u (name_in w)) forms.FunctionNode true sites parts).pieces
  unfolding meant parts_meant make inside
  function_body u front sites w f l parts ps n h =
      let q : n + 0 ≡ n = omega arith in
      ap (λ z. (function_at P z).body) (sym q) ∙ ap (λ (z : tree.Function). z.body) (h 0 _ refl)

  function_parts_stand : (names : Names) (u : Env) (sites : List Place) (w : List ℕ) (f l : ℕ) (parts : Forest) →
      PartsStand P (marked_parts forms.FunctionNode parts names true parts) forms.FunctionNode true
      (in_definition u (name_in w)) sites → EachStands P (marked names (node forms.FunctionNode w f l parts)) u sites
  unfolding Throughout marked inside
  function_parts_stand names u sites w f l parts d = d

-- ---- items

module _ (P : Program) (asked : Asked) (gs : List Signature) (tabs : List Table) (pt : P.tables ≡ map table_of tabs)
    (called : AllCalled P gs) where
  item_stands : (names : Names) (u : Env) (front : Bool) (sites : List Place) (p : Syntax) (ps : Forest)
      (done : List Signature) → SmallNames names → IsItemOf p →
      SoundTree asked u roles.Other (scalarised (marked names p)) → u.functions ≡ gs →
      gs ≡ done ++ definitions_in (more (scalarised (marked names p)) ps) →
      IsFunction (scalarised (marked names p)) ⊎ (IsPrototype (scalarised (marked names p)) ⊎
      IsDeclaration (scalarised (marked names p))) → Each (λ (h : Signature). is_declared u h.name ≡ true) done →
      Numbered P (length done)
      (functions_in (parts_meant u forms.UnitNode front sites (more (scalarised (marked names p)) ps)).pieces) →
      EachStands P (marked names p) u sites
  item_stands names u front sites (node forms.FunctionNode w f l parts) ps done sm (inl h) s e d sh fm nu =
      let made = all_scalarised (marked_parts forms.FunctionNode parts names true parts) in
      let same = function_made names w f l parts in
      let d' = subst (λ z. gs ≡ done ++ definitions_in (more z ps)) same d in
      let sh' = subst (λ z. IsFunction z ⊎ (IsPrototype z ⊎ IsDeclaration z)) same sh in
      let nu' = subst (λ z. Numbered P (length done)
      (functions_in (parts_meant u forms.UnitNode front sites (more z ps)).pieces)) same nu in
      let number = definition_number asked u sites w f l made ps done (function_shape w f l made sh')
      (subst (SoundTree asked u roles.Other) same s) (e ∙ d') fm in
      let body = body_in (parts_meant (in_definition u (name_in w)) forms.FunctionNode true sites made).pieces in
      function_parts_stand P names u sites w f l parts (parts_stand P body parts parts names true
      (in_definition u (name_in w)) sites sm h (ap (λ z. (function_at P z).body) number ∙
      function_body P u front sites w f l made ps (length done) nu') refl)
  item_stands names u front sites p ps done sm (inr (inl h)) s e d sh fm nu = prototype_stands P names u sites p h
  item_stands names u front sites p ps done sm (inr (inr h)) s e d sh fm nu = outer_stands P names u sites p h
  item_stands names u front sites p ps done sm (inl h) s e d sh fm nu = absurd h

  items_stand : (names : Names) (u : Env) (front : Bool) (b : Before) (all items : Forest)
      (done : List Signature) (sites : List Place) → SmallNames names → AreItemsOf true items →
      SmallMarks (marked_parts forms.UnitNode all names front items) →
      SoundParts asked u forms.UnitNode b (all_scalarised (marked_parts forms.UnitNode all names front items)) →
      OneScope u → u.functions ≡ gs →
      gs ≡ done ++ definitions_in (all_scalarised (marked_parts forms.UnitNode all names front items)) →
      AtUnit P asked.missing u → Intrinsics u →
      Extends (behind_parts u forms.UnitNode front
      (all_scalarised (marked_parts forms.UnitNode all names front items))).tables tabs →
      Each (λ (h : Signature). is_declared u h.name ≡ true) done → Numbered P (length done)
      (functions_in (parts_meant u forms.UnitNode front sites
      (all_scalarised (marked_parts forms.UnitNode all names front items))).pieces) →
      PartsStand P (marked_parts forms.UnitNode all names front items) forms.UnitNode front u sites
  unfolding ThroughParts all_scalarised marked_parts behind_parts later parts_meant
  items_stand names u front b all none done sites sn h sm s o e d a k et fm nu = tt
  items_stand names u front b all (more p ps) done sites sn h sm s o e d a k et fm nu =
      let n = kinds.behind names p in
      let p' = scalarised (marked names p) in
      let ps' = all_scalarised (marked_parts forms.UnitNode all n false ps) in
      let m = behind u p' in
      let x = unit_sound_next asked u b p' ps' s in
      let sh = item_shape names p sm.0 h.0 in
      let it = item_leaves P asked gs tabs pt called u front sites p' ps' done sh
      (items_are forms.UnitNode all n false ps sm.1 h.1) x.0 x.1 o e d a k et fm nu in
      let et' = subst (λ (z : Env). Extends z.tables tabs) (unit_behind_next u front p' ps') et in (
        item_stands names u front sites p ps' done sn h.0 x.0 e d sh fm nu,
        items_stand n m false (Some (last_of p')) all ps it.before (meant u sites p').sites (behind_small names p sn)
            h.1
            sm.1 x.1 (it.grown.one o) (ap (λ (z : Env). z.functions) it.grown.frame ∙ e) it.definitions it.at it.known
            et' it.firm' it.numbered,
      )

-- ---- units

-- What stands for each vector statement of a unit stands in its function, where no node of the unit without vectors is
-- at fault.
pub unit_stands : (places : List Place) (kernel : List ℕ) (unit : Syntax) → IsUnitOf true unit →
    IsAccepted places kernel (scalarised (marked no_names unit)) →
    EachStands (program_of (unit_meant places kernel (scalarised (marked no_names unit)))) (marked no_names unit)
    (start_of places (scalarised (marked no_names unit))) []
unfolding Throughout scalarised marked inside
unit_stands places kernel (node forms.UnitNode w f l items) h acc =
    let ms = marked_parts forms.UnitNode items no_names true items in
    let made = all_scalarised ms in
    let form = node forms.UnitNode w f l made in
    let sm = (marked_small (node forms.UnitNode w f l items) no_names nothing_small).1 in
    let hi = items_are forms.UnitNode items no_names true items sm h in
    let asked = asked_in places kernel form in
    let gs = definitions_in made in
    let start = at_start places gs in
    let P = accepted.P places kernel w f l made hi acc in
    let same = accepted.program_is places kernel w f l made hi acc in
    let tabs = (behind_parts start forms.UnitNode true made).tables in
    let Fs = accepted.Fs places kernel w f l made hi acc in
    subst (λ z. PartsStand z ms forms.UnitNode true start []) (sym same)
    (items_stand P asked gs tabs refl (accepted.called places kernel w f l made hi acc) no_names start true None items
    items [] [] nothing_small h sm (accepted.parts places kernel w f l made hi acc) (empty_scope, refl) refl refl
    (accepted.nothing_at_start P asked.missing places gs) (start_known places gs) (extends_same tabs) tt
    (all_numbered P Fs refl))
unit_stands places kernel t h acc = absurd h
