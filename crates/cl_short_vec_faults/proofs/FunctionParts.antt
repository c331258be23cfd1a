-- The parts of a function: its heads, its result, its parameters and its block.
use Rattle.std.proofs.Common.{◌≡◌, ℕ, suc, ◌≤◌, ◌^◌, List, [], ◌∷◌, ◌++◌, length, take, None, Some, Bool}
use Rattle.std.proofs.Common.{true, false, refl, ap, sym, ◌∙◌, subst, inl, inr, arith, slice_get}
use Rattle.cl_tree.specs.declared.tree.Form.TheVariants as forms
use Rattle.cl_tree.specs.Syntax.{Syntax, node, Forest, none, more, last_of}
use Rattle.cl_meaning.specs.declared.kind.Role.TheVariants as roles
use Rattle.cl_meaning.specs.Environment.{Env, Scope, Owner, empty_scope}
use Rattle.cl_meaning.specs.Declarations.{yield_of, parts_of}
use Rattle.cl_meaning.specs.Visible.{named, Before, is_front, inside, later, behind, behind_parts, kind_of}
use Rattle.cl_meaning.specs.Visible.{own_scope}
use Rattle.cl_meaning.specs.Faults.{Asked}
use Rattle.cl_check_sound.specs.Shape.{IsResult, IsParams, IsBlockOf, AreLinesOf, IsDefinitionOf}
use Rattle.cl_check_sound.specs.Shape.{BehindHeadsOf}
use Rattle.cl_check_sound.specs.Sound.{SoundTree, SoundParts}
use Rattle.cl_check_sound.proofs.Grown.{SameOuter, outer_same}
use Rattle.cl_check_sound.proofs.Constants.{OneScope}
use Rattle.cl_check_sound.proofs.Fronts.{head_env, result_env, named_env, params_env, function_result}
use Rattle.cl_short_vec.specs.declared.roles.Role.TheVariants.{Free}
use Rattle.cl_short_vec.specs.Kinds.{Names, behind_parameters}
use Rattle.cl_short_vec.specs.Kinds as kinds
use Rattle.cl_short_vec.specs.Marks.{marked, marked_parts}
use Rattle.cl_short_vec.specs.Faults.{refusals}
use Rattle.cl_short_vec.specs.Unit.{scalarised, all_scalarised, block_lines}
use Rattle.cl_short_vec_faults.specs.PlainForm.{plain_of, plains_of}
use Rattle.cl_short_vec_faults.specs.Plainly.{NoPoints}
use Rattle.cl_short_vec_faults.specs.Law.{ExpressionsFollow}
use Rattle.cl_short_vec_faults.specs.SoundBut.{SoundBut, AllSoundBut}
use Rattle.cl_short_vec_faults.specs.Beside.{Beside}
use Rattle.cl_short_vec_faults.specs.Leaves.{LeavesFit, AllLeavesFit}
use Rattle.cl_short_vec_faults.specs.UnitLaw.{AllDeclaredNames}
use Rattle.cl_short_vec_faults.proofs.Ordered.{OrderedBy, OrderedIn, ordered_le, in_from}
use Rattle.cl_short_vec_faults.proofs.TokenFacts.{AllFacts}
use Rattle.cl_short_vec_faults.proofs.PlainForms.{type_plain}
use Rattle.cl_short_vec_faults.proofs.Refused.{AllStay}
use Rattle.cl_short_vec_faults.proofs.OuterKept.{OuterKept, parts_kept, front_kept}
use Rattle.cl_short_vec_faults.proofs.BesideMoves.{beside_marked}
use Rattle.cl_short_vec_faults.proofs.OuterKept.{behind_outer, outer_length}
use Rattle.cl_short_vec_faults.proofs.Following.{DeclarationsFollow, StatementsFollow}
use Rattle.cl_short_vec_faults.proofs.FrontTrees.{result_same, params_same}
use Rattle.cl_short_vec_faults.proofs.FrontFaults.{still_but}
use Rattle.cl_short_vec_faults.proofs.NamedBeside.{has_scope}
use Rattle.cl_short_vec_faults.proofs.OwnBeside.{OwnerGives, beside_entered}
use Rattle.cl_short_vec_faults.proofs.ParamsBeside.{IsStill, still_tree, type_still, params_follow}
use Rattle.cl_short_vec_faults.proofs.BodyLines.{leaves_split, lines_follow, each_goes, block_stays, block_leaves}
use Rattle.cl_short_vec_faults.proofs.BodyLines.{block_forms, block_behind}
use Rattle.cl_short_vec_faults.proofs.HeadsBeside.{function_head, head_done}

-- ---- results

pub result_plain : (t : Syntax) → IsResult t → IsResult (plain_of t) × IsStill (plain_of t)
unfolding plain_of plains_of
result_plain (node forms.ResultNode w f l none) h = (tt, (refl, tt))
result_plain (node forms.ResultNode w f l (more t none)) h = (type_plain t h, (refl, (type_still t h, tt)))
result_plain t h = absurd h

result_names : (names : Names) (t : Syntax) → IsResult t → kinds.behind names t ≡ names
result_names names (node forms.ResultNode w f l ps) h = refl
result_names names t h = absurd h

pub beside_result : (asked : Asked) (names : Names) (n : ℕ) (p s : Env) (t : Syntax) → Beside asked names n p s →
    Beside asked names n (result_env p t) (result_env s t)
beside_result asked names n p s t h =
    let y = h.plainly in
    beside_marked asked names n p s (result_env p t) (result_env s t) refl refl refl refl
    (ap (λ (o : Owner). record o { result = yield_of (parts_of t) }) y.owner)
    y.declared y.flags h.unflagged y.in_body y.in_loop y.in_switch y.labels y.arrays y.tables h

pub scope_there : (ss : List Scope) → 1 ≤ length ss → has_scope ss ≡ true
scope_there [] h = absurd (omega arith)
scope_there (s ∷ ss) h = refl

-- ---- scopes

-- without the two innermost scopes nothing has changed
pub twice_kept : (ss : List Scope) (a b : Scope) (ts : List Scope) → OuterKept ((ss ++ a ∷ []) ++ b ∷ []) ts →
    take (length ss) ts ≡ ss
twice_kept ss a b ts h =
    let e : take (length (ss ++ a ∷ [])) ts ≡ ss ++ a ∷ [] = front_kept (ss ++ a ∷ []) b ts h in
    front_kept ss a ts (subst (SameOuter (ss ++ a ∷ [])) (sym e) (outer_same (ss ++ a ∷ [])))

-- ---- what is in hand at the end of a function's parts

pub record Out (p s pe se : Env) : Type 0 where
  pub plain : take (length p.scopes) pe.scopes ≡ p.scopes
  pub form : take (length s.scopes) se.scopes ≡ s.scopes
  pub labels : se.labels ≡ pe.labels
  pub tables : length se.tables ≡ length pe.tables

pub out_behind : (p s p' s' pe se : Env) → p'.scopes ≡ p.scopes → s'.scopes ≡ s.scopes → Out p' s' pe se → Out p s pe se
out_behind p s p' s' pe se a b x = record {
  plain = subst (λ z. take (length z) pe.scopes ≡ z) a x.plain;
  form = subst (λ z. take (length z) se.scopes ≡ z) b x.form;
  labels = x.labels;
  tables = x.tables;
}

pub ordered_parts : (ts : Forest) (f l : ℕ) → OrderedBy ts f l → OrderedIn f ts (suc l)
ordered_parts none f l h = omega arith
ordered_parts (more t ts) f l h = h

-- the parameters of a function stand in two scopes at least
named_depth : (env : Env) → 2 ≤ length (named env).scopes
named_depth env = by env.scopes _
  where
    more_of : (ss : List Scope) (s : Scope) → suc (length ss) ≤ length (ss ++ s ∷ [])
    more_of [] s = omega arith
    more_of (r ∷ rs) s = let q = more_of rs s in omega arith

    by : (ss : List Scope) (s : Scope) → 2 ≤ length ((ss ++ s ∷ []) ++ empty_scope ∷ [])
    by ss s = let a = more_of ss s in let b = more_of (ss ++ s ∷ []) empty_scope in omega arith

module _ (expressions : ExpressionsFollow) (declarations : DeclarationsFollow) (statements : StatementsFollow) where
  -- ---- a block

  -- behind the parameters, whose scope the block of a function shares
  block_follows : (asked : Asked) (names : Names) (n : ℕ) (p s : Env) (w : List ℕ) (f l : ℕ) (ts : Forest) →
      AreLinesOf true ts → n ≤ f → suc l ≤ 2 ^ 64 → 2 ≤ length p.scopes →
      Beside asked names n (record p { in_body = true })
      (record s { in_body = true }) → OrderedBy ts f l → AllFacts ts → NoPoints ts → AllDeclaredNames ts →
      refusals Free (marked names (node forms.BlockNode w f l ts)) ≡ [] →
      LeavesFit (record p { in_body = true }) (marked names (node forms.BlockNode w f l ts)) →
      SoundTree asked (record p { in_body = true }) roles.Other (plain_of (node forms.BlockNode w f l ts)) →
      SoundBut asked (record s { in_body = true }) roles.Other
      (scalarised (marked names (node forms.BlockNode w f l ts))) ×
      ((behind (record s { in_body = true }) (scalarised (marked names (node forms.BlockNode w f l ts)))).labels ≡
      (behind (record p { in_body = true }) (plain_of (node forms.BlockNode w f l ts))).labels) ×
      (length (behind (record s { in_body = true })
      (scalarised (marked names (node forms.BlockNode w f l ts)))).tables ≡
      length (behind (record p { in_body = true }) (plain_of (node forms.BlockNode w f l ts))).tables)
  unfolding inside
  block_follows asked names n p s w f l ts h lf few dp be o fa np dn r lv so =
      let p1 = record p { in_body = true } in
      let s1 = record s { in_body = true } in
      let pi = record p { in_body = false; labels = None } in
      let si = record s { in_body = false; labels = None } in
      let y = be.plainly in
      let us = block_lines (marked_parts forms.BlockNode ts names true ts) in
      let x = block_forms names w f l ts in
      let so' = subst (SoundTree asked p1 roles.Other) x.1 so in
      let bi = beside_marked asked names n p1 s1 pi si refl refl refl refl y.owner y.declared y.flags be.unflagged
      refl y.in_loop
      y.in_switch refl y.arrays y.tables be in
      let k = lines_follow declarations asked names n (suc l) pi si None None true true true ts ts
      (each_goes statements ts) h few refl
      dp bi (in_from ts n f (suc l) lf (ordered_parts ts f l o)) fa np dn (block_stays names w f l ts r)
      (block_leaves p1 names w f l ts lv) so'.0 in
      subst (λ z. SoundBut asked s1 roles.Other z × ((behind s1 z).labels ≡
      (behind p1 (plain_of (node forms.BlockNode w f l ts))).labels) × (length (behind s1 z).tables ≡
      length (behind p1 (plain_of (node forms.BlockNode w f l ts))).tables)) (sym x.0)
      (subst (λ z. SoundBut asked s1 roles.Other (node forms.BlockNode w f l us) ×
      ((behind s1 (node forms.BlockNode w f l us)).labels ≡ (behind p1 z).labels) ×
      (length (behind s1 (node forms.BlockNode w f l us)).tables ≡ length (behind p1 z).tables)) (sym x.1) (
        (
          k.0,
          still_but asked p1 s1 forms.BlockNode w f l f l (plains_of ts) us refl so'.1.0,
        ),
        ap (λ (z : Env). z.labels) (block_behind s1 w f l us) ∙ (y.labels ∙
            sym (ap (λ (z : Env). z.labels) (block_behind p1 w f l (plains_of ts)))),
        ap (λ (z : Env). length z.tables) (block_behind s1 w f l us) ∙ (k.1.beside.plainly.tables ∙
            sym (ap (λ (z : Env). length z.tables) (block_behind p1 w f l (plains_of ts)))),
      ))

  -- ---- a result, parameters and a block

  abbrev FunctionEnds : Asked → Names → (p s : Env) → (a b : Before) → (front q r : Bool) → (all ts : Forest) → Type 0
  FunctionEnds asked names p s a b front q r all ts =
      AllSoundBut asked s forms.FunctionNode b (all_scalarised (marked_parts forms.FunctionNode all names front ts)) ×
      Out p s (behind_parts p forms.FunctionNode q (plains_of ts))
      (behind_parts s forms.FunctionNode r (all_scalarised (marked_parts forms.FunctionNode all names front ts)))

  -- what is in hand at the parts of a function
  pub record Enters (asked : Asked) (names : Names) (n m : ℕ) (p s : Env) : Type 0 where
    pub few : m ≤ 2 ^ 64
    pub one : OneScope p
    pub own : OwnerGives names p
    pub numbers : length s.variables ≡ length p.variables
    pub beside : Beside asked names n p s

  -- with the trees that stand for the result and the parameters
  behind_result : (asked : Asked) (names : Names) (n m : ℕ) (p s : Env) (a b : Before) (front q r : Bool)
      (t : Syntax) (w1 : List ℕ) (f1 l1 : ℕ) (qs : Forest) (w2 : List ℕ) (f2 l2 : ℕ) (ts : Forest) → IsResult t →
      IsParams (node forms.ParamsNode w1 f1 l1 qs) → AreLinesOf true ts → Enters asked names n m p s →
      OrderedIn n (more t (more (node forms.ParamsNode w1 f1 l1 qs) (more (node forms.BlockNode w2 f2 l2 ts) none))) m →
      AllFacts ts → NoPoints ts → AllDeclaredNames qs → AllDeclaredNames ts →
      refusals Free (marked (behind_parameters names qs) (node forms.BlockNode w2 f2 l2 ts)) ≡ [] →
      LeavesFit (params_env (named_env p (plain_of t)) (node forms.ParamsNode w1 f1 l1 (plains_of qs)))
      (marked (behind_parameters names qs) (node forms.BlockNode w2 f2 l2 ts)) →
      SoundTree asked p roles.Other (plain_of t) →
      SoundTree asked (named_env p (plain_of t)) roles.Other (node forms.ParamsNode w1 f1 l1 (plains_of qs)) →
      SoundTree asked (params_env (named_env p (plain_of t)) (node forms.ParamsNode w1 f1 l1 (plains_of qs)))
      roles.Other (plain_of (node forms.BlockNode w2 f2 l2 ts)) →
      AllSoundBut asked s forms.FunctionNode b (more (plain_of t) (more (node forms.ParamsNode w1 f1 l1 (plains_of qs))
      (more (scalarised (marked (behind_parameters names qs) (node forms.BlockNode w2 f2 l2 ts))) none))) ×
      Out p s (behind_parts p forms.FunctionNode q (more (plain_of t)
      (more (node forms.ParamsNode w1 f1 l1 (plains_of qs)) (more (plain_of (node forms.BlockNode w2 f2 l2 ts)) none))))
      (behind_parts s forms.FunctionNode r (more (plain_of t) (more (node forms.ParamsNode w1 f1 l1 (plains_of qs))
      (more (scalarised (marked (behind_parameters names qs) (node forms.BlockNode w2 f2 l2 ts))) none))))
  unfolding behind_parts later plain_of scalarised marked
  behind_result asked names n m p s a b front q r t w1 f1 l1 qs w2 f2 l2 ts hr hp hb en o fa np dq dn st lv s0 s1 s2 =
      let t' = plain_of t in
      let p' = node forms.ParamsNode w1 f1 l1 (plains_of qs) in
      let after = behind_parameters names qs in
      let b' = plain_of (node forms.BlockNode w2 f2 l2 ts) in
      let c' = scalarised (marked after (node forms.BlockNode w2 f2 l2 ts)) in
      let sh = result_plain t hr in
      let np1 = named_env p t' in
      let ns1 = named_env s t' in
      let b2 = beside_entered asked names n (result_env p t') (result_env s t') en.one en.own
      (beside_result asked names n p s t' en.beside) in
      let pf = params_follow asked names n np1 ns1 w1 f1 l1 qs hp dq (scope_there np1.scopes b2.open') en.numbers b2
      s1 in
      let x0 = o.0 in
      let x1 = ordered_le t o.1 in
      let x2 = o.2.0 in
      let x3 = ordered_le (node forms.ParamsNode w1 f1 l1 qs) o.2.1 in
      let x4 = o.2.2.0 in
      let x5 = o.2.2.2 in
      let fw = en.few in
      let bf = block_follows asked after n (behind np1 p') (behind ns1 p') w2 f2 l2 ts hb (omega arith) (omega arith)
      (subst (λ z. 2 ≤ z) (sym (outer_length np1.scopes (behind np1 p').scopes (behind_outer p' np1)))
      (named_depth (result_env p t'))) pf.1 o.2.2.1 fa np dn st lv s2 in
      let fp = function_result p q t' (kind_of p t') sh.0 in
      let fs = function_result s r t' (kind_of s t') sh.0 in
      let rp = own_scope (result_env p t') (result_env p t').owner.number (slice_get p.functions p.owner.number) in
      let rs = own_scope (result_env s t') (result_env s t').owner.number (slice_get s.functions s.owner.number) in (
        (
          still_tree asked p s t' sh.1 s0,
          subst (λ z. AllSoundBut asked z forms.FunctionNode (Some (last_of t')) (more p' (more c' none)))
              (sym (function_result s (is_front b) t' (kind_of s t') sh.0)) (pf.0, (bf.0, tt)),
        ),
        subst (λ z. Out p s (behind_parts z forms.FunctionNode false (more p' (more b' none)))
            (behind_parts (later (behind s t') forms.FunctionNode r t' (kind_of s t')) forms.FunctionNode false
            (more p' (more c' none)))) (sym fp)
            (subst (λ z. Out p s (behind_parts np1 forms.FunctionNode false (more p' (more b' none)))
            (behind_parts z forms.FunctionNode false (more p' (more c' none)))) (sym fs) (record {
              plain = twice_kept p.scopes rp empty_scope
                  (behind_parts np1 forms.FunctionNode false (more p' (more b' none))).scopes
                  (parts_kept (more p' (more b' none)) forms.FunctionNode false np1);
              form = twice_kept s.scopes rs empty_scope
                  (behind_parts ns1 forms.FunctionNode false (more p' (more c' none))).scopes
                  (parts_kept (more p' (more c' none)) forms.FunctionNode false ns1);
              labels = bf.1;
              tables = bf.2;
            })),
      )

  three_end : (asked : Asked) (names : Names) (n m : ℕ) (p s : Env) (a b : Before) (front q r : Bool) (all : Forest)
      (rt pt bt : Syntax) → IsResult rt → IsParams pt → IsBlockOf true bt → Enters asked names n m p s →
      OrderedIn n (more rt (more pt (more bt none))) m → AllFacts (more rt (more pt (more bt none))) →
      NoPoints (more rt (more pt (more bt none))) →
      AllDeclaredNames (more rt (more pt (more bt none))) →
      AllStay (marked_parts forms.FunctionNode all names front (more rt (more pt (more bt none)))) →
      AllLeavesFit p forms.FunctionNode front None
      (marked_parts forms.FunctionNode all names front (more rt (more pt (more bt none)))) →
      SoundParts asked p forms.FunctionNode a (plains_of (more rt (more pt (more bt none)))) →
      FunctionEnds asked names p s a b front q r all (more rt (more pt (more bt none)))
  unfolding plains_of plain_of all_scalarised marked_parts later
  three_end asked names n m p s a b front q r all (node forms.ResultNode w0 f0 l0 rs)
      (node forms.ParamsNode w1 f1 l1 qs) (node forms.BlockNode w2 f2 l2 ts) hr hp hb en o fa np dn st lf so =
      let t = node forms.ResultNode w0 f0 l0 rs in
      let pt = node forms.ParamsNode w1 f1 l1 qs in
      let bt = node forms.BlockNode w2 f2 l2 ts in
      let t' = plain_of t in
      let p' = node forms.ParamsNode w1 f1 l1 (plains_of qs) in
      let b' = plain_of bt in
      let after = behind_parameters names qs in
      let c' = scalarised (marked after bt) in
      let sh = result_plain t hr in
      let s1 = subst (λ z. SoundParts asked z forms.FunctionNode (Some (last_of t')) (more p' (more b' none)))
      (function_result p (is_front a) t' (kind_of p t') sh.0) so.1 in
      let f1' = (leaves_split p forms.FunctionNode front None names t
      (marked_parts forms.FunctionNode all names false (more pt (more bt none))) lf).1 in
      let f2' = subst (λ z. AllLeavesFit z forms.FunctionNode false None
      (marked_parts forms.FunctionNode all names false (more pt (more bt none))))
      (function_result p front t' (kind_of p t') sh.0) f1' in
      let f3' = (leaves_split (named_env p t') forms.FunctionNode false None names pt
      (marked_parts forms.FunctionNode all after false (more bt none)) f2').1 in
      let f4' = (leaves_split (params_env (named_env p t') p') forms.FunctionNode false None after bt
      (marked_parts forms.FunctionNode all (kinds.behind after bt) false none) f3').0 in
      let x = behind_result asked names n m p s a b front q r t w1 f1 l1 qs w2 f2 l2 ts hr hp hb en o fa.1.1.0.1
      np.1.1.0.1 dn.1.0.1 dn.1.1.0.1 st.1.1.0 f4' so.0 s1.0 s1.1.0 in
      let er = result_same names t hr in
      let ep = params_same names pt hp in
      subst (λ z. AllSoundBut asked s forms.FunctionNode b
      (more z (more (scalarised (marked names pt)) (more c' none))) ×
      Out p s (behind_parts p forms.FunctionNode q (more t' (more p' (more b' none))))
      (behind_parts s forms.FunctionNode r (more z (more (scalarised (marked names pt)) (more c' none))))) (sym er)
      (subst (λ z. AllSoundBut asked s forms.FunctionNode b (more t' (more z (more c' none))) ×
      Out p s (behind_parts p forms.FunctionNode q (more t' (more p' (more b' none))))
      (behind_parts s forms.FunctionNode r (more t' (more z (more c' none))))) (sym ep) x)
  three_end asked names n m p s a b front q r all (node forms.ResultNode w0 f0 l0 rs)
      (node forms.ParamsNode w1 f1 l1 qs) bt hr hp hb en o fa np dn st lf so = absurd hb
  three_end asked names n m p s a b front q r all (node forms.ResultNode w0 f0 l0 rs) pt bt hr hp hb en o fa np dn st lf
      so = absurd hp
  three_end asked names n m p s a b front q r all rt pt bt hr hp hb en o fa np dn st lf so = absurd hr

  -- ---- all parts

  pub function_ends : (asked : Asked) (names : Names) (n m : ℕ) (p s : Env) (a b : Before) (front q r : Bool)
      (all ts : Forest) → BehindHeadsOf true (IsDefinitionOf true) ts → Enters asked names n m p s →
      OrderedIn n ts m → AllFacts ts → NoPoints ts → AllDeclaredNames ts →
      AllStay (marked_parts forms.FunctionNode all names front ts) →
      AllLeavesFit p forms.FunctionNode front None (marked_parts forms.FunctionNode all names front ts) →
      SoundParts asked p forms.FunctionNode a (plains_of ts) → FunctionEnds asked names p s a b front q r all ts
  unfolding plains_of all_scalarised marked_parts behind_parts
  function_ends asked names n m p s a b front q r all none h en o fa np dn st lf so = absurd h
  function_ends asked names n m p s a b front q r all (more (node forms.HeadNode w f l hs) ts) (inl h) en o fa np dn
      st lf so =
      let t = node forms.HeadNode w f l hs in
      let t' = plain_of t in
      let u = scalarised (marked names t) in
      let ms = marked_parts forms.FunctionNode all names false ts in
      let hd = head_done expressions asked names n p s t h.0 np.0 en.beside st.0 so.0 in
      let so' = subst (λ z. SoundParts asked z forms.FunctionNode (Some (last_of t')) (plains_of ts))
      (function_head p (is_front a) t' (kind_of p t') hd.plain) so.1 in
      let lf' = subst (λ z. AllLeavesFit z forms.FunctionNode false None ms)
      (function_head p front t' (kind_of p t') hd.plain)
      (leaves_split p forms.FunctionNode front None names t ms lf).1 in
      let x0 = o.0 in
      let x1 = ordered_le t o.1 in
      let en' : Enters asked names n m (head_env p t') (head_env s u) = record {
        few = en.few;
        one = en.one;
        own = en.own;
        numbers = en.numbers;
        beside = hd.beside;
      } in
      let x = function_ends asked names n m (head_env p t') (head_env s u) (Some (last_of t')) (Some (last_of u)) false
      false false all ts h.1 en' (in_from ts n (suc (last_of t)) m (omega arith) o.2) fa.1 np.1 dn.1 st.1 lf' so' in (
        (
          hd.sound,
          subst (λ z. AllSoundBut asked z forms.FunctionNode (Some (last_of u)) (all_scalarised ms))
              (sym (function_head s (is_front b) u (kind_of s u) hd.form)) x.0,
        ),
        subst (λ z. Out p s (behind_parts z forms.FunctionNode false (plains_of ts))
            (behind_parts (later (behind s u) forms.FunctionNode r u (kind_of s u)) forms.FunctionNode false
            (all_scalarised ms))) (sym (function_head p q t' (kind_of p t') hd.plain))
            (subst (λ z. Out p s (behind_parts (head_env p t') forms.FunctionNode false (plains_of ts))
            (behind_parts z forms.FunctionNode false (all_scalarised ms)))
            (sym (function_head s r u (kind_of s u) hd.form))
            (out_behind p s (head_env p t') (head_env s u) _ _ refl refl x.1)),
      )
  function_ends asked names n m p s a b front q r all (more (node head w f l hs) ts) (inl h) en o fa np dn st lf so =
      absurd h.0
  function_ends asked names n m p s a b front q r all (more (node head w f l hs) (more pt (more bt none))) (inr h) en o
      fa np dn st lf so =
      three_end asked names n m p s a b front q r all (node head w f l hs) pt bt h.0 h.1 h.2 en o fa np dn st lf so
  function_ends asked names n m p s a b front q r all (more (node head w f l hs) none) (inr h) en o fa np dn st lf so =
      absurd h
  function_ends asked names n m p s a b front q r all (more (node head w f l hs) (more pt none)) (inr h) en o fa np dn
      st lf so = absurd h
  function_ends asked names n m p s a b front q r all (more (node head w f l hs) (more pt (more bt (more c cs))))
      (inr h) en o fa np dn st lf so = absurd h
