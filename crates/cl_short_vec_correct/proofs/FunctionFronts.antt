-- The block of a function of the unit without vectors: what stands in front of it, and what stands for it. Each vector
-- statement of the function does its steps where those of the block do.
use Rattle.std.proofs.Common.{◌≡◌, ℕ, List, [], Some, Bool, true, false, ◌||◌, sym, ◌∙◌, subst}
use Rattle.std.proofs.Common.{inl, inr}
use Rattle.wg_num.specs.declared.types.Place.{Place}
use Rattle.cl_model.specs.Tree.{Program}
use Rattle.cl_tree.specs.declared.tree.Form.TheVariants as forms
use Rattle.cl_tree.specs.Syntax.{Syntax, node, Forest, none, more, last_of}
use Rattle.cl_meaning.specs.Environment.{Env, Signature}
use Rattle.cl_meaning.specs.Declarations.{is_kernel_head}
use Rattle.cl_meaning.specs.Visible.{Before, is_front, behind_parts, kind_of}
use Rattle.cl_meaning.specs.Faults.{Asked}
use Rattle.cl_meaning.specs.Meant.{meant}
use Rattle.cl_check_sound.specs.Shape.{IsResult, IsParams, IsHeadOf, IsBlockOf, AreLinesOf, IsDefinitionOf}
use Rattle.cl_check_sound.specs.Shape.{BehindHeadsOf, IsHead}
use Rattle.cl_check_sound.specs.Sound.{SoundParts}
use Rattle.cl_check_sound.proofs.Fronts.{Front, head_env, named_env, params_env, head_front, head_block}
use Rattle.cl_check_sound.proofs.Fronts.{definition_front, definition_block, function_head, function_result}
use Rattle.cl_check_sound.proofs.Fronts.{function_params}
use Rattle.cl_short_vec.specs.declared.roles.Role.TheVariants.{Free}
use Rattle.cl_short_vec.specs.Kinds.{Names}
use Rattle.cl_short_vec.specs.Kinds as kinds
use Rattle.cl_short_vec.specs.Marks.{unmarked, marking, marked, marked_parts}
use Rattle.cl_short_vec.specs.Faults.{refusals}
use Rattle.cl_short_vec.specs.Unit.{scalarised, all_scalarised}
use Rattle.cl_short_vec.proofs.Small.{marked_small}
use Rattle.cl_short_vec_correct.proofs.FormUnits.{body_is, head_is, same_head, result_is, same_result, params_is}
use Rattle.cl_short_vec_correct.proofs.FormUnits.{same_params}
use Rattle.cl_short_vec_correct.specs.Each.{ThroughParts, Throughout}
use Rattle.cl_short_vec_correct.proofs.Says.{AllOwn}
use Rattle.cl_short_vec_correct.proofs.Seen.{Intrinsics}
use Rattle.cl_short_vec_correct.proofs.Forms.{AllStay, Does, PartsDoes}
use Rattle.cl_short_vec_correct.proofs.UnitKnown.{head_known, front_known}
use Rattle.cl_short_vec_correct.proofs.UnitNames.{UnitNames, names_behind, parameters_plain}
use Rattle.cl_short_vec_correct.proofs.NamesSpelled.{HaveWords}

-- ---- words of a unit: what the lines of its blocks name and declare are names of a source

abbrev pub WordedPart : Syntax → Type 0
WordedPart (node forms.BlockNode w f l lines) = HaveWords lines × AllOwn lines
WordedPart t = Unit {0}

abbrev pub WordedParts : Forest → Type 0
WordedParts none = Unit {0}
WordedParts (more p ps) = WordedPart p × WordedParts ps

-- ---- names in front of a block

head_names : (names : Names) (t : Syntax) → IsHeadOf true t → UnitNames names → UnitNames (kinds.behind names t)
head_names names (node forms.HeadNode w f l ps) h n = n
head_names names t h n = absurd h

result_names : (names : Names) (t : Syntax) → IsResult t → UnitNames names → UnitNames (kinds.behind names t)
result_names names (node forms.ResultNode w f l ps) h n = n
result_names names t h n = absurd h

params_names : (names : Names) (t : Syntax) → IsParams t → UnitNames names → UnitNames (kinds.behind names t)
params_names names (node forms.ParamsNode w f l ps) h n =
    names_behind names (node forms.ParamsNode w f l ps) n (parameters_plain names ps n.plain)
params_names names t h n = absurd h

-- a block behind a head
any_head : (asked : Asked) (e : Env) (sites : List Place) (front : Bool) (g : Signature) (t : Syntax) (ps : Forest) →
    IsHead t → (x : Front asked (head_env e t) (meant e sites t).sites false
    (record g { kernel = g.kernel || is_kernel_head t }) ps) →
    (y : Front asked e sites front g (more t ps)) × (y.block ≡ x.block) × (y.eb ≡ x.eb)
any_head asked e sites front g (node forms.HeadNode w f l hs) ps h x =
    let q = head_block asked e sites front g w f l hs ps h x in
    (head_front asked e sites front g w f l hs ps h x, q.0, q.1)
any_head asked e sites front g t ps h x = absurd h

module _ (P : Program) (asked : Asked) where
  -- no statement stands in front of a block
  head_does : (names : Names) (e : Env) (t : Syntax) → IsHeadOf true t → Does P names e t
  unfolding Throughout marked
  head_does names e (node forms.HeadNode w f l ps) h sites = tt
  head_does names e t h sites = absurd h

  result_does : (names : Names) (e : Env) (t : Syntax) → IsResult t → Does P names e t
  unfolding Throughout marked
  result_does names e (node forms.ResultNode w f l ps) h sites = tt
  result_does names e t h sites = absurd h

  params_does : (names : Names) (e : Env) (t : Syntax) → IsParams t → Does P names e t
  unfolding Throughout marked
  params_does names e (node forms.ParamsNode w f l ps) h sites = tt
  params_does names e t h sites = absurd h

  -- The block of a function with these parts, where `names` are those in front of the parts: what stands for it is the
  -- block of what stands for the function.
  pub record Blocked (e : Env) (sites : List Place) (front : Bool) (g : Signature) (names : Names) (all ps : Forest) :
      Type 0 where
    pub fr : Front asked e sites front g (all_scalarised (marked_parts forms.FunctionNode all names front ps))
    pub inner : Names
    pub word : List ℕ
    pub first : ℕ
    pub last : ℕ
    pub lines : Forest
    pub same : fr.block ≡ scalarised (marked inner (node forms.BlockNode word first last lines))
    pub lined : AreLinesOf true lines
    pub words : HaveWords lines
    pub own : AllOwn lines
    pub stays : refusals Free (marked inner (node forms.BlockNode word first last lines)) ≡ []
    pub unit_names : UnitNames inner
    pub known : Intrinsics e → Intrinsics fr.eb
    pub does : Does P inner fr.eb (node forms.BlockNode word first last lines) →
        PartsDoes P forms.FunctionNode (marked_parts forms.FunctionNode all names front ps) front e

  -- ---- a result, parameters and a block

  definition_does : (e : Env) (front : Bool) (names : Names) (all : Forest) (r p b : Syntax) → IsResult r →
      IsParams p → IsResult (scalarised (marked names r)) →
      IsParams (scalarised (marked (kinds.behind names r) p)) →
      Does P (kinds.behind (kinds.behind names r) p) (params_env (named_env e (scalarised (marked names r)))
      (scalarised (marked (kinds.behind names r) p))) b →
      PartsDoes P forms.FunctionNode (marked_parts forms.FunctionNode all names front (more r (more p (more b none))))
      front e
  unfolding ThroughParts marked_parts behind_parts
  definition_does e front names all r p b hr hp hr' hp' d sites =
      let n = kinds.behind names r in
      let m = kinds.behind n p in
      let r' = scalarised (marked names r) in
      let p' = scalarised (marked n p) in
      let e1 = named_env e r' in (
        result_does names e r hr sites,
        subst (PartsDoes P forms.FunctionNode (marking (marked n p) (marking (marked m b) unmarked)) false)
            (sym (function_result e front r' (kind_of e r') hr')) (λ s. (
              params_does n e1 p hp s,
              subst (PartsDoes P forms.FunctionNode (marking (marked m b) unmarked) false)
                  (sym (function_params e1 false p' (kind_of e1 p') hp')) (λ t. (d t, tt)) _,
            )) _,
      )

  definition_blocked : (e : Env) (sites : List Place) (b0 : Before) (front : Bool) (g : Signature) (names : Names)
      (all : Forest) (r p b : Syntax) → IsResult r → IsParams p → IsBlockOf true b → WordedPart b →
      AllStay (marked_parts forms.FunctionNode all names front (more r (more p (more b none)))) → UnitNames names →
      SoundParts asked e forms.FunctionNode b0
      (all_scalarised (marked_parts forms.FunctionNode all names front (more r (more p (more b none))))) →
      Blocked e sites front g names all (more r (more p (more b none)))
  unfolding all_scalarised marked_parts
  definition_blocked e sites b0 front g names all r p (node forms.BlockNode w f l lines) hr hp hb wo st un s =
      let n = kinds.behind names r in
      let m = kinds.behind n p in
      let b = node forms.BlockNode w f l lines in
      let r' = scalarised (marked names r) in
      let p' = scalarised (marked n p) in
      let b' = scalarised (marked m b) in
      let hr' = same_result r names hr (result_is r names hr) in
      let hp' = same_params p n hp (params_is p n hp) in
      let um = params_names n p hp (result_names names r hr un) in
      let hb' = body_is b m (marked_small b m um.small) hb in
      let x = definition_block asked e sites b0 front g r' p' b' hr' hp' hb' s in
      record {
        fr = definition_front asked e sites b0 front g r' p' b' hr' hp' hb' s;
        inner = m;
        word = w;
        first = f;
        last = l;
        lines = lines;
        same = x.0;
        lined = hb;
        words = wo.0;
        own = wo.1;
        stays = st.1.1.0;
        unit_names = um;
        known = λ k. subst Intrinsics (sym x.1) (front_known e r' p' hp' k);
        does = λ d. definition_does e front names all r p b hr hp hr' hp' (subst (λ z. Does P m z b) x.1 d);
      }
  definition_blocked e sites b0 front g names all r p b hr hp hb wo st un s = absurd hb

  -- ---- behind a head

  head_blocked : (e : Env) (sites : List Place) (front : Bool) (g : Signature) (names : Names) (all : Forest)
      (t : Syntax) (ps : Forest) → IsHeadOf true t → IsHead (scalarised (marked names t)) →
      Blocked (head_env e (scalarised (marked names t))) (meant e sites (scalarised (marked names t))).sites false
      (record g { kernel = g.kernel || is_kernel_head (scalarised (marked names t)) }) (kinds.behind names t) all ps →
      Blocked e sites front g names all (more t ps)
  unfolding all_scalarised marked_parts ThroughParts behind_parts
  head_blocked e sites front g names all t ps h h' x =
      let n = kinds.behind names t in
      let t' = scalarised (marked names t) in
      let b = node forms.BlockNode x.word x.first x.last x.lines in
      let ms = marked_parts forms.FunctionNode all n false ps in
      let y = any_head asked e sites front g t' (all_scalarised ms) h' x.fr in
      record {
        fr = y.0;
        inner = x.inner;
        word = x.word;
        first = x.first;
        last = x.last;
        lines = x.lines;
        same = y.1 ∙ x.same;
        lined = x.lined;
        words = x.words;
        own = x.own;
        stays = x.stays;
        unit_names = x.unit_names;
        known = λ k. subst Intrinsics (sym y.2) (x.known (head_known e t' k));
        does = λ d s. (
          head_does names e t h s,
          subst (PartsDoes P forms.FunctionNode ms false) (sym (function_head e front t' (kind_of e t') h'))
              (x.does (subst (λ z. Does P x.inner z b) y.2 d)) _,
        );
      }

  -- ---- all parts

  pub blocked : (e : Env) (sites : List Place) (b0 : Before) (front : Bool) (g : Signature) (names : Names)
      (all ps : Forest) → BehindHeadsOf true (IsDefinitionOf true) ps → WordedParts ps →
      AllStay (marked_parts forms.FunctionNode all names front ps) → UnitNames names →
      SoundParts asked e forms.FunctionNode b0
      (all_scalarised (marked_parts forms.FunctionNode all names front ps)) → Blocked e sites front g names all ps
  unfolding all_scalarised marked_parts
  blocked e sites b0 front g names all none h wo st un s = absurd h
  blocked e sites b0 front g names all (more (node form w f l hs) ps) (inl h) wo st un s =
      let t = node form w f l hs in
      let n = kinds.behind names t in
      let t' = scalarised (marked names t) in
      let h' = same_head t names h.0 (head_is t names (marked_small t names un.small) h.0) in
      let ms = marked_parts forms.FunctionNode all n false ps in
      head_blocked e sites front g names all t ps h.0 h'
      (blocked (head_env e t') (meant e sites t').sites (Some (last_of t')) false
      (record g { kernel = g.kernel || is_kernel_head t' }) n all ps h.1 wo.1 st.1 (head_names names t h.0 un)
      (subst (λ z. SoundParts asked z forms.FunctionNode (Some (last_of t')) (all_scalarised ms))
      (function_head e (is_front b0) t' (kind_of e t') h') s.1))
  blocked e sites b0 front g names all (more (node form w f l hs) (more p (more b none))) (inr h) wo st un s =
      definition_blocked e sites b0 front g names all (node form w f l hs) p b h.0 h.1 h.2 wo.1.1.0 st un s
  blocked e sites b0 front g names all (more (node form w f l hs) none) (inr h) wo st un s = absurd h
  blocked e sites b0 front g names all (more (node form w f l hs) (more p none)) (inr h) wo st un s = absurd h
  blocked e sites b0 front g names all (more (node form w f l hs) (more p (more b (more c cs)))) (inr h) wo st un s =
      absurd h
