-- Each vector statement of a unit does its steps, where the lines of its functions' blocks do.
use Rattle.std.proofs.Common.{◌≡◌, ℕ, List, [], ◌++◌, map, length, ◌+◌, None, Some, Bool, true, false, refl, ap, sym}
use Rattle.std.proofs.Common.{◌∙◌, subst}
use Rattle.std.proofs.Common.{inl, inr, ◌⊎◌, arith}
use Rattle.wg_num.specs.declared.types.Place.{Place}
use Rattle.cl_model.specs.Lists.{Each}
use Rattle.cl_model.specs.Tree.{Program}
use Rattle.cl_tree.specs.declared.tree.Form.TheVariants as forms
use Rattle.cl_tree.specs.Syntax.{Syntax, node, Forest, none, more, last_of}
use Rattle.cl_limits.specs.Judged.{asked_in, IsAccepted}
use Rattle.cl_meaning.specs.Kinds.{known_as}
use Rattle.cl_meaning.specs.declared.kind.Role.TheVariants as roles
use Rattle.cl_meaning.specs.OwnWords.{name_in}
use Rattle.cl_meaning.specs.Environment.{Env, Table, Signature, at_start, empty_scope, is_declared}
use Rattle.cl_meaning.specs.Declarations.{definitions_in}
use Rattle.cl_meaning.specs.Visible.{Before, inside, later, behind, behind_parts, in_definition, number_in}
use Rattle.cl_meaning.specs.Faults.{Asked}
use Rattle.cl_meaning.specs.Statements.{functions_in}
use Rattle.cl_meaning.specs.Meant.{meant, parts_meant, start_of, unit_meant}
use Rattle.cl_check_sound.specs.Shape.{IsFunctionOf, IsPrototypeOf, IsDeclarationOf, AreItemsOf, IsUnitOf}
use Rattle.cl_check_sound.specs.Shape.{IsFunction, IsPrototype, IsDeclaration, IsDefinition, BehindHeads}
use Rattle.cl_check_sound.specs.Sound.{SoundTree, SoundParts}
use Rattle.cl_check_sound.specs.Erased.{table_of, program_of}
use Rattle.cl_check_sound.proofs.Grown.{Extends, extends_same}
use Rattle.cl_check_sound.proofs.Constants.{OneScope, AtUnit}
use Rattle.cl_check_sound.proofs.Items.{AllCalled, function_new}
use Rattle.cl_check_sound.proofs.Units.{unit_sound_next, unit_behind_next, front_of, definition_known}
use Rattle.cl_check_sound.proofs.Accepted as accepted
use Rattle.cl_short_vec.specs.declared.roles.Role.TheVariants.{Free, Outer}
use Rattle.cl_short_vec.specs.Kinds.{Names, no_names}
use Rattle.cl_short_vec.specs.Kinds as kinds
use Rattle.cl_short_vec.specs.Marks.{marked, marked_parts}
use Rattle.cl_short_vec.specs.Faults.{refusals}
use Rattle.cl_short_vec.specs.Unit.{scalarised, all_scalarised}
use Rattle.cl_short_vec.proofs.Small.{SmallMark, SmallMarks, marked_small, nothing_small}
use Rattle.cl_short_vec_correct.proofs.FormUnits.{function_is, prototype_is, whole_declaration, items_are}
use Rattle.cl_short_vec_correct.specs.Each.{EachDoes, PartsDo, ThroughParts, Throughout}
use Rattle.cl_short_vec_correct.proofs.Seen.{Intrinsics}
use Rattle.cl_short_vec_correct.proofs.Forms.{Does}
use Rattle.cl_short_vec_correct.proofs.UnitNames.{UnitNames, nothing_declared, names_behind, function_plain}
use Rattle.cl_short_vec_correct.proofs.UnitNames.{declaration_plain, ItemsStay, items_stay}
use Rattle.cl_short_vec_correct.proofs.FunctionFronts.{WordedParts}
use Rattle.cl_short_vec_correct.proofs.FunctionBlocks.{LinesDo, function_made, function_does}
use Rattle.cl_short_vec_correct.proofs.Numbered.{Numbered, IsStored, all_numbered, numbered_behind}
use Rattle.cl_short_vec_correct.proofs.Items.{item_leaves, function_named}

-- ---- words of a unit

abbrev pub WordedItem : Syntax → Type 0
WordedItem (node forms.FunctionNode w f l parts) = WordedParts parts
WordedItem t = Unit {0}

abbrev pub WordedItems : Forest → Type 0
WordedItems none = Unit {0}
WordedItems (more p ps) = WordedItem p × WordedItems ps

-- what the blocks of a unit name and declare are names of a source
abbrev pub WordedUnit : Syntax → Type 0
WordedUnit (node forms.UnitNode w f l items) = WordedItems items
WordedUnit t = Unit {0}

-- ---- items

abbrev pub IsItemOf : Syntax → Type 0
IsItemOf p = IsFunctionOf true p ⊎ (IsPrototypeOf true p ⊎ IsDeclarationOf true p)

pub item_shape : (names : Names) (p : Syntax) → SmallMark (marked names p) → IsItemOf p →
    IsFunction (scalarised (marked names p)) ⊎ (IsPrototype (scalarised (marked names p)) ⊎
    IsDeclaration (scalarised (marked names p)))
item_shape names p s (inl h) = inl (function_is p names s h)
item_shape names p s (inr (inl h)) = inr (inl (prototype_is p names s h))
item_shape names p s (inr (inr h)) = inr (inr (whole_declaration p names s h))

item_names : (names : Names) (p : Syntax) → IsItemOf p → refusals Outer (marked names p) ≡ [] → UnitNames names →
    UnitNames (kinds.behind names p)
item_names names (node forms.FunctionNode w f l ps) (inl h) r n =
    names_behind names (node forms.FunctionNode w f l ps) n (function_plain names w f l ps n.plain)
item_names names (node forms.PrototypeNode w f l ps) (inr (inl h)) r n = n
item_names names p (inr (inr h)) r n = names_behind names p n (declaration_plain names p h r n.plain)
item_names names p (inl h) r n = absurd h
item_names names p (inr (inl h)) r n = absurd h

pub function_shape : (w : List ℕ) (f l : ℕ) (parts : Forest) → IsFunction (node forms.FunctionNode w f l parts) ⊎
    (IsPrototype (node forms.FunctionNode w f l parts) ⊎ IsDeclaration (node forms.FunctionNode w f l parts)) →
    BehindHeads IsDefinition parts
function_shape w f l parts (inl h) = h
function_shape w f l parts (inr (inl h)) = absurd h
function_shape w f l parts (inr (inr h)) = absurd h

-- the number of a definition that is the first behind others
pub definition_number : (asked : Asked) (u : Env) (sites : List Place) (w : List ℕ) (f l : ℕ) (parts ps : Forest)
    (done : List Signature) → BehindHeads IsDefinition parts →
    SoundTree asked u roles.Other (node forms.FunctionNode w f l parts) →
    u.functions ≡ done ++ definitions_in (more (node forms.FunctionNode w f l parts) ps) →
    Each (λ (h : Signature). is_declared u h.name ≡ true) done →
    (in_definition u (name_in w)).owner.number ≡ length done
definition_number asked u sites w f l parts ps done h s e fm =
    let fr = front_of asked u sites w f l parts h s in
    let dk = definition_known u w parts done (definitions_in ps)
    (function_new asked u sites roles.Other w f l parts fr s) fm e in
    ap (number_in u) dk ∙ (let q : 0 + length done ≡ length done = omega arith in q)

-- the function with the number of a definition has its variables
function_stored : (P : Program) (asked : Asked) (u : Env) (front : Bool) (sites : List Place) (w : List ℕ) (f l : ℕ)
    (parts ps : Forest) (done : List Signature) → BehindHeads IsDefinition parts →
    SoundTree asked u roles.Other (node forms.FunctionNode w f l parts) →
    u.functions ≡ done ++ definitions_in (more (node forms.FunctionNode w f l parts) ps) →
    Each (λ (h : Signature). is_declared u h.name ≡ true) done → Numbered P (length done) (functions_in
    (parts_meant u forms.UnitNode front sites (more (node forms.FunctionNode w f l parts) ps)).pieces) →
    IsStored P (in_definition u (name_in w)).owner.number u w parts
function_stored P asked u front sites w f l parts ps done h s e fm nu =
    let fr = front_of asked u sites w f l parts h s in
    let num = definition_number asked u sites w f l parts ps done h s e fm in
    subst (λ z. IsStored P z u w parts) (sym num)
    (numbered_behind asked u sites w f l parts fr P (length done) front ps nu).0

module _ (P : Program) where
  -- no statement stands in a prototype or a declaration of the unit
  prototype_does : (names : Names) (u : Env) (p : Syntax) → IsPrototypeOf true p → Does P names u p
  unfolding Throughout marked
  prototype_does names u (node forms.PrototypeNode w f l ps) h sites = tt
  prototype_does names u p h sites = absurd h

  outer_does : (names : Names) (u : Env) (p : Syntax) → IsDeclarationOf true p → Does P names u p
  unfolding Throughout marked
  outer_does names u (node forms.DeclareNode w f l (more t ds)) h sites = tt
  outer_does names u p h sites = absurd h

module _ (P : Program) (asked : Asked) (gs : List Signature) (tabs : List Table) (pt : P.tables ≡ map table_of tabs)
    (called : AllCalled P gs) (each : LinesDo P asked) where
  item_does : (names : Names) (u : Env) (front : Bool) (sites : List Place) (p : Syntax) (ps : Forest)
      (done : List Signature) → IsItemOf p →
      WordedItem p → refusals Outer (marked names p) ≡ [] → UnitNames names →
      SoundTree asked u roles.Other (scalarised (marked names p)) → OneScope u → u.functions ≡ gs →
      gs ≡ done ++ definitions_in (more (scalarised (marked names p)) ps) → AtUnit P asked.missing u → Intrinsics u →
      u.flags ≡ false → IsFunction (scalarised (marked names p)) ⊎ (IsPrototype (scalarised (marked names p)) ⊎
      IsDeclaration (scalarised (marked names p))) → Each (λ (h : Signature). is_declared u h.name ≡ true) done →
      Numbered P (length done)
      (functions_in (parts_meant u forms.UnitNode front sites (more (scalarised (marked names p)) ps)).pieces) →
      Does P names u p
  item_does names u front sites (node forms.FunctionNode w f l parts) ps done (inl h) wo r un s o e d a k fl sh fm nu =
      let made = all_scalarised (marked_parts forms.FunctionNode parts names true parts) in
      let same = function_made names w f l parts in
      let d' = subst (λ z. gs ≡ done ++ definitions_in (more z ps)) same d in
      let sh' = subst (λ z. IsFunction z ⊎ (IsPrototype z ⊎ IsDeclaration z)) same sh in
      let nu' = subst (λ z. Numbered P (length done)
      (functions_in (parts_meant u forms.UnitNode front sites (more z ps)).pieces)) same nu in
      function_does P asked each u names w f l parts h wo r un s o a.0 a.1
      (function_named P asked gs tabs pt called u w f l made ps done e d') k fl
      (function_stored P asked u front sites w f l made ps done (function_shape w f l made sh')
      (subst (SoundTree asked u roles.Other) same s) (e ∙ d') fm nu')
  item_does names u front sites p ps done (inr (inl h)) wo r un s o e d a k fl sh fm nu = prototype_does P names u p h
  item_does names u front sites p ps done (inr (inr h)) wo r un s o e d a k fl sh fm nu = outer_does P names u p h
  item_does names u front sites p ps done (inl h) wo r un s o e d a k fl sh fm nu = absurd h

  pub items_do : (names : Names) (u : Env) (front : Bool) (b : Before) (all items : Forest)
      (done : List Signature) (sites : List Place) → AreItemsOf true items → WordedItems items →
      SmallMarks (marked_parts forms.UnitNode all names front items) →
      ItemsStay (marked_parts forms.UnitNode all names front items) → UnitNames names →
      SoundParts asked u forms.UnitNode b (all_scalarised (marked_parts forms.UnitNode all names front items)) →
      OneScope u → u.functions ≡ gs →
      gs ≡ done ++ definitions_in (all_scalarised (marked_parts forms.UnitNode all names front items)) →
      AtUnit P asked.missing u → Intrinsics u → u.flags ≡ false →
      Extends (behind_parts u forms.UnitNode front
      (all_scalarised (marked_parts forms.UnitNode all names front items))).tables tabs →
      Each (λ (h : Signature). is_declared u h.name ≡ true) done → Numbered P (length done)
      (functions_in (parts_meant u forms.UnitNode front sites
      (all_scalarised (marked_parts forms.UnitNode all names front items))).pieces) →
      PartsDo P (marked_parts forms.UnitNode all names front items) forms.UnitNode front u sites
  unfolding ThroughParts all_scalarised marked_parts behind_parts later parts_meant
  items_do names u front b all none done sites h wo sm st un s o e d a k fl et fm nu = tt
  items_do names u front b all (more p ps) done sites h wo sm st un s o e d a k fl et fm nu =
      let n = kinds.behind names p in
      let p' = scalarised (marked names p) in
      let ps' = all_scalarised (marked_parts forms.UnitNode all n false ps) in
      let m = behind u p' in
      let x = unit_sound_next asked u b p' ps' s in
      let sh = item_shape names p sm.0 h.0 in
      let it = item_leaves P asked gs tabs pt called u front sites p' ps' done sh
      (items_are forms.UnitNode all n false ps sm.1 h.1) x.0 x.1 o e d a k et fm nu in
      let et' = subst (λ (z : Env). Extends z.tables tabs) (unit_behind_next u front p' ps') et in (
        item_does names u front sites p ps' done h.0 wo.0 st.0 un x.0 o e d a k fl sh fm nu sites,
        items_do n m false (Some (last_of p')) all ps it.before (meant u sites p').sites h.1 wo.1 sm.1 st.1 (item_names
            names p h.0 st.0 un)
            x.1 (it.grown.one o) (ap (λ (z : Env). z.functions) it.grown.frame ∙ e) it.definitions it.at it.known
            (ap (λ (z : Env). z.flags) it.grown.frame ∙ fl) et' it.firm' it.numbered,
      )

-- ---- units

-- nothing is declared in front of a unit
pub start_known : (places : List Place) (gs : List Signature) → Intrinsics (at_start places gs)
start_known places gs name i e = inr (ap known_as e)

-- Each vector statement of a unit in which nothing is refused does its steps, where no node of the unit without vectors
-- is at fault.
pub unit_does : (places : List Place) (kernel : List ℕ) (unit : Syntax) → IsUnitOf true unit → WordedUnit unit →
    refusals Free (marked no_names unit) ≡ [] → IsAccepted places kernel (scalarised (marked no_names unit)) →
    LinesDo (program_of (unit_meant places kernel (scalarised (marked no_names unit))))
    (asked_in places kernel (scalarised (marked no_names unit))) →
    EachDoes (program_of (unit_meant places kernel (scalarised (marked no_names unit)))) (marked no_names unit)
    (start_of places (scalarised (marked no_names unit))) []
unfolding Throughout scalarised marked inside
unit_does places kernel (node forms.UnitNode w f l items) h wo r acc each =
    let ms = marked_parts forms.UnitNode items no_names true items in
    let made = all_scalarised ms in
    let form = node forms.UnitNode w f l made in
    let sm = (marked_small (node forms.UnitNode w f l items) no_names nothing_small).1 in
    let hi = items_are forms.UnitNode items no_names true items sm h in
    let asked = asked_in places kernel form in
    let gs = definitions_in made in
    let start = at_start places gs in
    let P = accepted.P places kernel w f l made hi acc in
    let same = accepted.program_is places kernel w f l made hi acc in
    let tabs = (behind_parts start forms.UnitNode true made).tables in
    let Fs = accepted.Fs places kernel w f l made hi acc in
    subst (λ z. PartsDo z ms forms.UnitNode true start []) (sym same)
    (items_do P asked gs tabs refl (accepted.called places kernel w f l made hi acc)
    (subst (λ z. LinesDo z asked) same each) no_names start true None items items [] [] h wo sm
    (items_stay no_names w f l items r) nothing_declared (accepted.parts places kernel w f l made hi acc)
    (empty_scope, refl) refl refl (accepted.nothing_at_start P asked.missing places gs) (start_known places gs) refl
    (extends_same tabs) tt
    (all_numbered P Fs refl))
unit_does places kernel t h wo r acc each = absurd h
