-- A block in a function goes on side by side.
use Rattle.std.proofs.Common.{◌≡◌, ℕ, suc, ◌≤◌, List, [], ◌++◌, ◌∷◌, length, take, None, true, false}
use Rattle.std.proofs.Common.{if◌then◌else◌, refl, ap, sym, ◌∙◌, subst, arith}
use Rattle.cl_tree.specs.declared.tree.Form.TheVariants as forms
use Rattle.cl_tree.specs.Syntax.{Syntax, node, Forest, none, more}
use Rattle.cl_meaning.specs.declared.kind.Role.TheVariants as roles
use Rattle.cl_meaning.specs.Environment.{Env, Scope, empty_scope}
use Rattle.cl_meaning.specs.Kinds.{kind_step}
use Rattle.cl_meaning.specs.Visible.{inside, behind, behind_parts, kind_of, apart, opened, before_labels}
use Rattle.cl_meaning.specs.Faults.{Asked}
use Rattle.cl_check_sound.specs.Shape.{AreLinesOf}
use Rattle.cl_check_sound.specs.Sound.{SoundTree, SoundParts}
use Rattle.cl_short_vec.specs.Kinds.{Names}
use Rattle.cl_short_vec.specs.Marks.{marked, marked_parts}
use Rattle.cl_short_vec.specs.Unit.{scalarised, block_lines}
use Rattle.cl_short_vec_faults.specs.PlainForm.{plain_of, plains_of}
use Rattle.cl_short_vec_faults.specs.SoundBut.{AllSoundBut}
use Rattle.cl_short_vec_faults.specs.Leaves.{AllLeavesFit}
use Rattle.cl_short_vec_faults.specs.Beside.{Beside}
use Rattle.cl_short_vec_faults.proofs.Following.{DeclarationsFollow}
use Rattle.cl_short_vec_faults.proofs.Ordered.{ordered_le}
use Rattle.cl_short_vec_faults.proofs.OuterKept.{front_kept, parts_kept}
use Rattle.cl_short_vec_faults.proofs.SameFunctions.{parts_functions}
use Rattle.cl_short_vec_faults.proofs.BesideMoves.{beside_apart, beside_opened, beside_left}
use Rattle.cl_short_vec_faults.proofs.BodyLines.{StatementGoes, EachGoes, lines_follow, block_stays, block_leaves}
use Rattle.cl_short_vec_faults.proofs.BodyLines.{block_forms, block_behind}
use Rattle.cl_short_vec_faults.proofs.StatementFaults.{block_quiet}
use Rattle.cl_short_vec_faults.proofs.StatementParts.{Going, Placed, Goes, AllGo}
use Rattle.cl_short_vec_faults.proofs.StatementWalk.{by_ordered}

-- ---- a statement that goes on is a line that does

pub goes_on : (t : Syntax) → Goes t → StatementGoes t
goes_on t go asked names n p s e ib dp st =
    let y = st.beside.plainly in
    let x = go asked names n p s e (record {
      beside = st.beside;
      in_body = ib;
      flags = st.beside.unflagged;
      deep = subst (λ z. 2 ≤ z) (sym y.depth) dp;
      ordered = st.ordered;
      from = st.behind';
      few = st.few;
      facts = st.facts;
      no_point = st.no_point;
      declared = st.declared;
      stays = st.stays;
      leaves = st.leaves;
      sound = st.sound;
    }) in
    (x.sound, x.beside)

each_on : (ts : Forest) → AllGo ts → EachGoes ts
each_on none go = tt
each_on (more t ts) go = (goes_on t go.0, each_on ts go.1)

-- ---- into a block

block_inside : (env : Env) (w : List ℕ) → env.in_body ≡ false → inside env forms.BlockNode w ≡ opened (apart env)
unfolding inside
block_inside env w e =
    ap (λ z. if z then record env { in_body = false; labels = None } else opened (apart env)) e

length_opened : (ss : List Scope) → length ss ≤ length (ss ++ empty_scope ∷ [])
length_opened [] = omega arith
length_opened (s ∷ ss) = let e = length_opened ss in omega arith

-- ---- out of it

-- the scopes in front of it stay
block_scopes : (env : Env) (parts : Forest) →
    take (length env.scopes) (behind_parts (opened (apart env)) forms.BlockNode true parts).scopes ≡ env.scopes
block_scopes env parts =
    front_kept env.scopes empty_scope _ (parts_kept parts forms.BlockNode true (opened (apart env)))

-- what is visible behind it
block_out : (env : Env) (w : List ℕ) (f l : ℕ) (parts : Forest) → env.in_body ≡ false →
    behind env (node forms.BlockNode w f l parts) ≡
    before_labels env (behind_parts (opened (apart env)) forms.BlockNode true parts)
block_out env w f l parts e = block_behind env w f l parts ∙
    ap (λ z. before_labels env (behind_parts z forms.BlockNode true parts)) (block_inside env w e)

pub block_goes : DeclarationsFollow → (asked : Asked) (names : Names) (n : ℕ) (p s : Env) (w : List ℕ) (f l : ℕ)
    (ts : Forest) → AreLinesOf true ts → AllGo ts → Placed asked names n p s (node forms.BlockNode w f l ts) →
    Going asked names (suc l) p s (node forms.BlockNode w f l ts) (scalarised (marked names (node forms.BlockNode w f
    l ts)))
unfolding kind_of kind_step plain_of
block_goes declarations asked names n p s w f l ts e go h =
    let t = node forms.BlockNode w f l ts in
    let P = plains_of ts in
    let Q = block_lines (marked_parts forms.BlockNode ts names true ts) in
    let x = block_forms names w f l ts in
    let y = h.beside.plainly in
    let so = subst (SoundTree asked p roles.Other) x.1 h.sound in
    let ib = block_inside p w h.in_body in
    let body : s.in_body ≡ false = y.in_body ∙ h.in_body in
    let is = block_inside s w body in
    let pi = opened (apart p) in
    let si = opened (apart s) in
    let a = h.from in
    let c = h.few in
    let d = ordered_le t h.ordered in
    let dp : 2 ≤ length p.scopes = subst (λ z. 2 ≤ z) y.depth h.deep in
    let more' = length_opened p.scopes in
    let k = lines_follow declarations asked names n (suc l) pi si None None true true true ts ts (each_on ts go) e
    (omega (arith, c)) h.in_body (omega (arith, dp, more'))
    (beside_opened asked names n (apart p) (apart s) (beside_apart asked names n p s h.beside))
    (by_ordered ts n f l a h.ordered) h.facts.1 h.no_point.1 h.declared.1 (block_stays names w f l ts h.stays)
    (subst (λ z. AllLeavesFit z forms.BlockNode true None (marked_parts forms.BlockNode ts names true ts)) ib
    (block_leaves p names w f l ts h.leaves))
    (subst (λ z. SoundParts asked z forms.BlockNode None P) ib so.0) in
    let bp = ap (behind p) x.1 ∙ block_out p w f l P h.in_body in
    let bs = block_out s w f l Q body in
    subst (Going asked names (suc l) p s t) (sym x.0) (record {
      sound = (
        subst (λ z. AllSoundBut asked z forms.BlockNode None Q) (sym is) k.0,
        ((λ i q. block_quiet asked s w f l Q i), tt),
      );
      beside = subst (λ z. Beside asked names (suc l) z (behind s (node forms.BlockNode w f l Q))) (sym bp)
          (subst (Beside asked names (suc l) (before_labels p (behind_parts pi forms.BlockNode true P))) (sym bs)
          (beside_left asked names k.1.names n (suc l) p s (behind_parts pi forms.BlockNode true P)
          (behind_parts si forms.BlockNode true Q) (omega (arith, a, d)) (block_scopes p P) (block_scopes s Q)
          (parts_functions P forms.BlockNode true pi) k.1.beside.plainly h.beside));
      plain = ap (λ z. z.scopes) bp ∙ block_scopes p P;
      form = ap (λ z. z.scopes) bs ∙ block_scopes s Q;
      body = ap (λ z. z.in_body) bp;
      kind = refl;
      flags = ap (λ z. z.flags) bp;
    })
