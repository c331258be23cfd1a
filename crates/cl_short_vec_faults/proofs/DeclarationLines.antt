-- A declaration as lines of a block: it is at fault only where its plain form is, and what is visible goes on side by
-- side behind them.
use Rattle.std.proofs.Common.{◌≡◌, ℕ, suc, ◌≤◌, List, Option, None, Some, true, false, refl, ap, sym}
use Rattle.std.proofs.Common.{◌∙◌, subst, arith}
use Rattle.cl_tree.specs.declared.tree.Form.TheVariants as forms
use Rattle.cl_tree.specs.Syntax.{Syntax, node, Forest, more, last_of}
use Rattle.cl_meaning.specs.declared.kind.Role.TheVariants as roles
use Rattle.cl_meaning.specs.Environment.{Env}
use Rattle.cl_meaning.specs.Visible.{Before, inside, later, behind, behind_parts, kind_of}
use Rattle.cl_meaning.specs.Faults.{Asked}
use Rattle.cl_check_sound.specs.Shape.{IsType, AreDeclaratorsOf}
use Rattle.cl_check_sound.proofs.Growth.{type_next}
use Rattle.cl_check_sound.proofs.Parts.{typed_env, declare_behind, declare_sound}
use Rattle.cl_short_vec.specs.declared.types.Vector.{Vector}
use Rattle.cl_short_vec.specs.declared.roles.Role.TheVariants.{Free}
use Rattle.cl_short_vec.specs.Types.{vector_type}
use Rattle.cl_short_vec.specs.Kinds.{Names, behind_declarators}
use Rattle.cl_short_vec.specs.Marks.{Marks, tree_at, marked, marked_parts}
use Rattle.cl_short_vec.specs.Scalar.{scalars}
use Rattle.cl_short_vec.specs.Unit.{vector_lines, lines_by, scalarised}
use Rattle.cl_short_vec.proofs.Small.{SmallVector, type_small}
use Rattle.cl_short_vec_faults.specs.PlainForm.{plain_of, plains_of}
use Rattle.cl_short_vec_faults.specs.Law.{ExpressionsFollow}
use Rattle.cl_short_vec_faults.specs.SoundBut.{AllSoundBut}
use Rattle.cl_short_vec_faults.specs.Beside.{Beside}
use Rattle.cl_short_vec_faults.specs.Leaves.{LeavesFit, AllLeavesFit}
use Rattle.cl_short_vec_faults.proofs.Following.{Stands, DeclarationsFollow}
use Rattle.cl_short_vec_faults.proofs.InitialClaim.{InitialLinesFollow}
use Rattle.cl_short_vec_faults.proofs.Ordered.{ordered_le}
use Rattle.cl_short_vec_faults.proofs.PlainForms.{type_plain}
use Rattle.cl_short_vec_faults.proofs.PlainDeclarations.{tree_is, AllStayAs, declaration_stays, type_sound}
use Rattle.cl_short_vec_faults.proofs.PlainDeclarations.{plain_declaration, kept_declaration}
use Rattle.cl_short_vec_faults.proofs.VectorStays.{said_declaring}
use Rattle.cl_short_vec_faults.proofs.BlockDeclarations.{one_line, any_before, beside_lines, declarator_lines_follow}

module _ (follow : ExpressionsFollow) (initials : InitialLinesFollow) (asked : Asked) (names : Names) (bound : ℕ)
    (plain form : Env) (b : Before) (w : List ℕ) (f l : ℕ) (type : Syntax) (ds : Forest) (h : IsType type)
    (hs : AreDeclaratorsOf true ds) (ib : plain.in_body ≡ false)
    (st : Stands asked names bound plain form Free roles.Other (node forms.DeclareNode w f l (more type ds))) where
  abbrev t : Syntax
  t = node forms.DeclareNode w f l (more type ds)

  abbrev mds : Marks
  mds = marked_parts forms.DeclareNode (more type ds) names false ds

  abbrev Shown : Forest → Type 0
  Shown lines = AllSoundBut asked form forms.BlockNode b lines ×
      Beside asked (behind_declarators names type ds) (suc l) (behind plain (plain_of t))
      (behind_parts form forms.BlockNode false lines)

  -- the leaves of the declarators, where their type is visible
  leaves_behind : (v : Option Vector) → vector_type (tree_at (marked names type)) ≡ v →
      AllLeavesFit (typed_env plain (plain_of type)) forms.DeclareNode false v mds
  unfolding LeavesFit AllLeavesFit marked marked_parts inside
  leaves_behind v e =
      let T = plain_of (tree_at (marked names type)) in
      let hT = type_plain type h in
      let same : T ≡ plain_of type = ap plain_of (tree_is names type) in
      subst (λ z. AllLeavesFit (typed_env plain (plain_of type)) forms.DeclareNode false z mds) e
      (subst (λ z. AllLeavesFit z forms.DeclareNode false (vector_type (tree_at (marked names type))) mds)
      (ap (λ z. later (behind plain z) forms.DeclareNode true z (kind_of plain z)) same ∙
      type_next plain true (plain_of type) (kind_of plain (plain_of type)) hT) st.leaves.1.2)

  vector_lines_follow : (v : Vector) → v.count ≤ 16 → vector_type type ≡ Some v →
      Shown (vector_lines v (marked names type) mds)
  unfolding plain_of plains_of
  vector_lines_follow v few e =
      let T = plain_of type in
      let P = plains_of ds in
      let hT = type_plain type h in
      let so = declare_sound asked plain roles.Other w f l T P hT st.sound in
      let le = ordered_le t st.ordered in
      let a = st.behind' in
      let small = st.few in
      let o = st.ordered.2 in
      let first = st.ordered.0 in
      let mid = ordered_le type st.ordered.1 in
      let stay = subst (λ r. AllStayAs r mds) (said_declaring Free names type ds v e)
      (declaration_stays Free names w f l type ds st.stays) in
      let ip = behind_parts (typed_env plain T) forms.DeclareNode false P in
      let lines = vector_lines v (marked names type) mds in
      let s' = behind_parts form forms.BlockNode false lines in
      let after = behind_declarators names type ds in
      let x = declarator_lines_follow follow initials asked names v few type h e plain.declared ds ds names
      (typed_env plain T) form (Some (last_of T)) 0 bound (suc (last_of type)) (suc l) (omega arith) hs st.no_point.1.1
      st.declared.1.1 o (omega arith) stay st.beside refl ib
      (λ z. type_sound asked plain z T hT so.0) so.1
      (leaves_behind (Some v) (ap vector_type (tree_is names type) ∙ e)) in (
        any_before asked form (Some 0) b lines x.0,
        subst (λ z. Beside asked after (suc l) z s') (sym (declare_behind plain w f l T P hT))
            (beside_lines asked after (suc l) plain ip s' x.1 x.2.depth x.2.owner x.2.flags x.2.in_body x.2.in_loop'
            x.2.in_switch'),
      )

  lines_follow_by : (o : Option Vector) → SmallVector o → vector_type type ≡ o →
      Shown (lines_by o t (marked names type) mds)
  unfolding scalars
  lines_follow_by None few e =
      let g = plain_declaration follow asked names bound plain form Free w f l type ds h hs e st in
      let u = kept_declaration names w f l type ds in (
        (g.0, tt),
        subst (λ z. Beside asked (behind_declarators names type ds) (suc l) (behind plain (plain_of t)) z)
            (sym (one_line form u)) g.1,
      )
  lines_follow_by (Some v) few e = vector_lines_follow v few e

-- a declaration as lines of a block
pub declarations_follow : ExpressionsFollow → InitialLinesFollow → DeclarationsFollow
unfolding scalarised marked marked_parts
declarations_follow follow initials asked names bound plain form b (node forms.DeclareNode w f l (more type ds)) h ib
    st =
    lines_follow_by follow initials asked names bound plain form b w f l type ds h.0 h.1 ib st
    (vector_type (tree_at (marked names type))) (type_small (tree_at (marked names type)))
    (ap vector_type (sym (tree_is names type)))
declarations_follow follow initials asked names bound plain form b t h ib st = absurd h
