-- What is visible behind the items of a unit without vectors.
use Rattle.std.proofs.Common.{◌≡◌, ℕ, List, [], ◌∷◌, ◌++◌, map, length, append_assoc, None, Some, Bool, true, false}
use Rattle.std.proofs.Common.{refl, ap}
use Rattle.std.proofs.Common.{sym, ◌∙◌, subst, inl, inr, ◌⊎◌}
use Rattle.std.specs.Str.{bytes_eq}
use Rattle.wg_num.specs.declared.types.Place.{Place}
use Rattle.cl_model.specs.Lists.{Each}
use Rattle.cl_model.specs.Tree.{Function, Program}
use Rattle.cl_tree.specs.declared.tree.Form.TheVariants as forms
use Rattle.cl_tree.specs.Syntax.{Syntax, node, Forest, more, last_of}
use Rattle.cl_meaning.specs.OwnWords.{name_in}
use Rattle.cl_meaning.specs.declared.kind.Role.TheVariants as roles
use Rattle.cl_meaning.specs.Environment.{Env, Table, Signature, is_declared}
use Rattle.cl_meaning.specs.Declarations.{signature_in, definitions_in, firm}
use Rattle.cl_meaning.specs.Visible.{behind, behind_parts, in_definition, with_function, definition_from, definition_of}
use Rattle.cl_meaning.specs.Visible.{defined_meaning}
use Rattle.cl_meaning.specs.Faults.{Asked}
use Rattle.cl_meaning.specs.Typed as typed_specs
use Rattle.cl_meaning.specs.Typed.{Built}
use Rattle.cl_meaning.specs.Statements.{functions_in, function_before}
use Rattle.cl_meaning.specs.Meant.{meant, parts_meant}
use Rattle.cl_check_sound.specs.Shape.{IsFunction, IsPrototype, IsDeclaration, AreItems, IsDefinition, BehindHeads}
use Rattle.cl_check_sound.specs.Sound.{SoundTree, SoundParts}
use Rattle.cl_check_sound.specs.Erased.{table_of}
use Rattle.cl_check_sound.specs.Fits.{MeaningFits}
use Rattle.cl_check_sound.proofs.Grown.{Extends, extends_then}
use Rattle.cl_check_sound.proofs.Constants.{OneScope, AtUnit, unit_named, UnitGrown, constant_line}
use Rattle.cl_check_sound.proofs.Fronts.{Front, function_front}
use Rattle.cl_check_sound.proofs.Functions.{bare, defined_scoped}
use Rattle.cl_check_sound.proofs.Items.{bytes_same, name_of, AllCalled, meaning_known, function_leaves}
use Rattle.cl_check_sound.proofs.Items.{prototype_leaves, function_firm}
use Rattle.cl_check_sound.proofs.Units.{unit_behind_next, fore_of, prototype_grown, definition_grown}
use Rattle.cl_check_sound.proofs.Units.{front_of, unit_meant_next, prototype_built, declaration_what, still_firm}
use Rattle.cl_check_sound.proofs.Units.{each_more, length_more}
use Rattle.cl_check_sound.proofs.Units.{definition_there, prototype_at, no_definition, unit_line_rest}
use Rattle.cl_short_vec_correct.proofs.Seen.{Intrinsics}
use Rattle.cl_short_vec_correct.proofs.UnitKnown.{function_name, function_known, prototype_known}
use Rattle.cl_short_vec_correct.proofs.UnitKnown.{unit_declaration_known}
use Rattle.cl_short_vec_correct.proofs.FunctionBlocks.{function_parts}
use Rattle.cl_short_vec_correct.proofs.Numbered.{Numbered, numbered_behind}

front_at : (asked : Asked) (u : Env) (w : List ℕ) (f l : ℕ) (parts : Forest) → BehindHeads IsDefinition parts →
    SoundTree asked u roles.Other (node forms.FunctionNode w f l parts) →
    Front asked (in_definition u (name_in w)) [] true (bare w) parts
front_at asked u w f l parts h s = function_front asked (in_definition u (name_in w)) [] None true (bare w) parts h
    (function_parts asked u w f l parts s)

-- an item that is no function leaves the functions of the others
others_numbered : (u : Env) (front : Bool) (sites : List Place) (p : Syntax) (ps : Forest) →
    ((fs : List typed_specs.Function) → function_before (meant u sites p).piece.what fs ≡ fs) →
    functions_in (parts_meant u forms.UnitNode front sites (more p ps)).pieces ≡
    functions_in (parts_meant (behind u p) forms.UnitNode false (meant u sites p).sites ps).pieces
others_numbered u front sites p ps h = ap (λ z. functions_in z.pieces) (unit_meant_next u front sites p ps) ∙
    h (functions_in (parts_meant (behind u p) forms.UnitNode false (meant u sites p).sites ps).pieces)

module _ (P : Program) (asked : Asked) (gs : List Signature) (tabs : List Table) (pt : P.tables ≡ map table_of tabs)
    (called : AllCalled P gs) where
  -- behind an item with others behind it: what is visible fits the program, and no name that is known without a
  -- declaration stands for a function
  pub record ItemLeaves (u : Env) (sites : List Place) (p : Syntax) (ps : Forest) : Type 0 where
    pub grown : UnitGrown u (behind u p)
    pub at : AtUnit P asked.missing (behind u p)
    pub known : Intrinsics (behind u p)
    -- the functions before the others, which are visible, and the numbers of the others
    pub before : List Signature
    pub definitions : gs ≡ before ++ definitions_in ps
    pub firm' : Each (λ (h : Signature). is_declared (behind u p) h.name ≡ true) before
    pub numbered : Numbered P (length before)
        (functions_in (parts_meant (behind u p) forms.UnitNode false (meant u sites p).sites ps).pieces)

  -- the name of a function stands for the function
  pub function_named : (u : Env) (w : List ℕ) (f l : ℕ) (parts ps : Forest) (done : List Signature) →
      u.functions ≡ gs → gs ≡ done ++ definitions_in (more (node forms.FunctionNode w f l parts) ps) →
      (g : Function) (q : List ℕ) → bytes_eq (name_in w) q ≡ true →
      MeaningFits P g asked.missing u.functions q (defined_meaning (definition_of u (name_in w)))
  function_named u w f l parts ps done e d g q b =
      meaning_known P g asked.missing u.functions (name_in w) (definition_of u (name_in w))
      (subst (AllCalled P) (sym e) called) refl
      (λ z. absurd (definition_there (name_in w) 0 done (signature_in w parts) (definitions_in ps)
      (ap (λ y. bytes_eq y (name_in w)) (name_of w parts) ∙ bytes_same (name_in w))
      (ap (definition_from (name_in w) 0) (sym (e ∙ d)) ∙ z))) q b

  function_leaves_it : (u : Env) (front : Bool) (sites : List Place) (w : List ℕ) (f l : ℕ) (parts ps : Forest)
      (done : List Signature) → BehindHeads IsDefinition parts → SoundTree asked u roles.Other (node forms.FunctionNode
      w f l parts) →
      OneScope u → u.functions ≡ gs →
      gs ≡ done ++ definitions_in (more (node forms.FunctionNode w f l parts) ps) → AtUnit P asked.missing u →
      Intrinsics u → Each (λ (h : Signature). is_declared u h.name ≡ true) done → Numbered P (length done) (functions_in
      (parts_meant u forms.UnitNode front sites (more (node forms.FunctionNode w f l parts) ps)).pieces) →
      ItemLeaves u sites (node forms.FunctionNode w f l parts) ps
  function_leaves_it u front sites w f l parts ps done h s o g d a k fm nu =
      let n = name_in w in
      let p = node forms.FunctionNode w f l parts in
      let gr = definition_grown asked u sites w f l parts (front_of asked u sites w f l parts h s) in
      let fi = ap (λ z. is_declared z (signature_in w parts).name)
      (function_leaves asked u sites w f l parts (front_of asked u sites w f l parts h s)) ∙
      (ap (is_declared (with_function u n)) (name_of w parts) ∙ function_firm u n o) in
      let fr = front_at asked u w f l parts h s in
      let same = sym (function_leaves asked u [] w f l parts fr) in
      let nk = function_name asked u [] roles.Other w f l parts fr s o in
      record {
        grown = definition_grown asked u [] w f l parts fr;
        at = subst (AtUnit P asked.missing) same
            (unit_named P asked.missing u (with_function u n) n (firm (defined_meaning (definition_of u n))) o refl refl
            (function_named u w f l parts ps done g d) (defined_scoped (definition_of u n)) a);
        known = subst Intrinsics same (function_known u n o nk k);
        before = done ++ signature_in w parts ∷ [];
        definitions = d ∙ sym (append_assoc done (signature_in w parts ∷ []) (definitions_in ps));
        firm' = each_more (λ (h : Signature). is_declared (behind u p) h.name ≡ true) done (signature_in w parts)
            (still_firm u (behind u p) done gr o fm) fi;
        numbered = subst (λ z. Numbered P z
            (functions_in (parts_meant (behind u p) forms.UnitNode false (meant u sites p).sites ps).pieces))
            (sym (length_more done (signature_in w parts)))
            (numbered_behind asked u sites w f l parts (front_of asked u sites w f l parts h s) P (length done) front ps
            nu).1;
      }

  pub item_leaves : (u : Env) (front : Bool) (sites : List Place) (p : Syntax) (ps : Forest) (done : List Signature) →
      IsFunction p ⊎ (IsPrototype p ⊎ IsDeclaration p) → AreItems ps → SoundTree asked u roles.Other p →
      SoundParts asked (behind u p) forms.UnitNode (Some (last_of p)) ps → OneScope u → u.functions ≡ gs →
      gs ≡ done ++ definitions_in (more p ps) → AtUnit P asked.missing u → Intrinsics u →
      Extends (behind_parts u forms.UnitNode front (more p ps)).tables tabs →
      Each (λ (h : Signature). is_declared u h.name ≡ true) done → Numbered P (length done)
      (functions_in (parts_meant u forms.UnitNode front sites (more p ps)).pieces) → ItemLeaves u sites p ps
  item_leaves u front sites (node forms.FunctionNode w f l parts) ps done (inl h) hs s s' o g d a k et fm nu =
      function_leaves_it u front sites w f l parts ps done h s o g d a k fm nu
  item_leaves u front sites (node forms.PrototypeNode w f l parts) ps done (inr (inl h)) hs s s' o g d a k et fm nu =
      let p = node forms.PrototypeNode w f l parts in
      let fo = fore_of asked u [] w f l parts h s in
      record {
        grown = prototype_grown asked u [] w f l parts fo o;
        at = prototype_at P asked gs tabs pt called u [] w f l parts fo s g o a;
        known = subst Intrinsics (sym (prototype_leaves asked u [] w f l parts fo))
            (prototype_known u (name_in w) o k);
        before = done;
        definitions = d;
        firm' = still_firm u (behind u p) done (prototype_grown asked u [] w f l parts fo o) o fm;
        numbered = subst (Numbered P (length done)) (others_numbered u front sites p ps
            (λ fs. ap (λ (z : Built). function_before z.what fs) (prototype_built u sites w f l parts))) nu;
      }
  item_leaves u front sites p ps done (inr (inr h)) hs s s' o g d a k et fm nu =
      let m = behind u p in
      let ln = constant_line P asked tabs u roles.Other p h s pt o in
      let sub = unit_line_rest asked m ps (Some (last_of p)) hs s' (ln.grown.one o) in
      let et' = subst (λ (z : Env). Extends z.tables tabs) (unit_behind_next u front p ps) et in
      record {
        grown = ln.grown;
        at = ln.at (extends_then m.tables (behind_parts m forms.UnitNode false ps).tables tabs sub.tables et') a;
        known = unit_declaration_known u p h o k;
        before = done;
        definitions = d ∙ ap (λ z. done ++ z) (no_definition p ps h).0;
        firm' = still_firm u m done ln.grown o fm;
        numbered = subst (Numbered P (length done))
            (others_numbered u front sites p ps (λ fs. declaration_what u sites p fs h)) nu;
      }
  item_leaves u front sites p ps done (inl h) hs s s' o g d a k et fm nu = absurd h
  item_leaves u front sites p ps done (inr (inl h)) hs s s' o g d a k et fm nu = absurd h
