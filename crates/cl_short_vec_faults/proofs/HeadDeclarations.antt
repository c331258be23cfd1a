-- A declaration as one node, in the head of a `for` and in the unit: it is at fault only where its plain form is, and
-- what is visible goes on side by side behind it.
use Rattle.std.proofs.Common.{◌≡◌, ℕ, suc, ◌≤◌, List, Option, None, Some, true, false, ap, sym}
use Rattle.std.proofs.Common.{subst, arith}
use Rattle.cl_tree.specs.declared.tree.Form.TheVariants as forms
use Rattle.cl_tree.specs.Syntax.{Syntax, node, Forest, more, last_of}
use Rattle.cl_meaning.specs.declared.kind.Role.TheVariants as roles
use Rattle.cl_meaning.specs.Environment.{Env}
use Rattle.cl_meaning.specs.Visible.{closed, behind, behind_parts}
use Rattle.cl_meaning.specs.Faults.{Asked}
use Rattle.cl_check_sound.specs.Shape.{IsType, AreDeclaratorsOf}
use Rattle.cl_check_sound.proofs.Parts.{typed_env, declare_behind, declare_sound}
use Rattle.cl_short_vec.specs.declared.types.Vector.{Vector}
use Rattle.cl_short_vec.specs.declared.roles.Role.{Role}
use Rattle.cl_short_vec.specs.declared.roles.Role.TheVariants.{Head, Outer}
use Rattle.cl_short_vec.specs.Types.{vector_type}
use Rattle.cl_short_vec.specs.Kinds.{Names, behind_declarators}
use Rattle.cl_short_vec.specs.Marks.{Marks, tree_at, marked, marked_parts}
use Rattle.cl_short_vec.specs.Roles.{around_of}
use Rattle.cl_short_vec.specs.Scalar.{scalar, scalars}
use Rattle.cl_short_vec.specs.Unit.{all_declarators, declaration_by, scalarised}
use Rattle.cl_short_vec.proofs.Small.{SmallVector, type_small}
use Rattle.cl_short_vec_faults.specs.PlainForm.{plain_of, plains_of}
use Rattle.cl_short_vec_faults.specs.Law.{ExpressionsFollow}
use Rattle.cl_short_vec_faults.specs.SoundBut.{SoundBut}
use Rattle.cl_short_vec_faults.specs.Beside.{Beside}
use Rattle.cl_short_vec_faults.proofs.Following.{Stands, HeadsFollow}
use Rattle.cl_short_vec_faults.proofs.Ordered.{ordered_le}
use Rattle.cl_short_vec_faults.proofs.PlainForms.{type_plain}
use Rattle.cl_short_vec_faults.proofs.ConstantsSame.{type_same}
use Rattle.cl_short_vec_faults.proofs.BesideMoves.{beside_later}
use Rattle.cl_short_vec_faults.proofs.PlainDeclarations.{tree_is, AllStayAs, declaration_stays, type_sound}
use Rattle.cl_short_vec_faults.proofs.PlainDeclarations.{declaration_sound, beside_typed, beside_declared}
use Rattle.cl_short_vec_faults.proofs.PlainDeclarations.{plain_declaration}
use Rattle.cl_short_vec_faults.proofs.VectorStays.{said_declaring, type_declared}
use Rattle.cl_short_vec_faults.proofs.VectorDeclarators.{IsOneNode, vector_declarators}

module _ (follow : ExpressionsFollow) (asked : Asked) (names : Names) (bound : ℕ) (plain form : Env) (role : Role)
    (one : IsOneNode (around_of role)) (w : List ℕ) (f l : ℕ) (type : Syntax) (ds : Forest) (h : IsType type)
    (hs : AreDeclaratorsOf true ds)
    (st : Stands asked names bound plain form role roles.Other (node forms.DeclareNode w f l (more type ds))) where
  abbrev t : Syntax
  t = node forms.DeclareNode w f l (more type ds)

  abbrev mds : Marks
  mds = marked_parts forms.DeclareNode (more type ds) names false ds

  -- of vectors
  vector_declaration : (v : Vector) → v.count ≤ 16 → vector_type type ≡ Some v →
      SoundBut asked form roles.Other
      (node forms.DeclareNode w f l (more (scalar (marked names type)) (all_declarators v mds))) ×
      Beside asked (behind_declarators names type ds) (suc l) (behind plain (plain_of t))
      (behind form (node forms.DeclareNode w f l (more (scalar (marked names type)) (all_declarators v mds))))
  unfolding plain_of plains_of
  vector_declaration v few e =
      let T = plain_of type in
      let P = plains_of ds in
      let S = all_declarators v mds in
      let hT = type_plain type h in
      let so = declare_sound asked plain roles.Other w f l T P hT st.sound in
      let le = ordered_le t st.ordered in
      let b = st.behind' in
      let be = beside_later asked names bound (suc l) plain form (omega arith) st.beside in
      let stay = subst (λ r. AllStayAs r mds) (said_declaring role names type ds v e)
      (declaration_stays role names w f l type ds st.stays) in
      let x = vector_declarators follow asked (suc l) v few type e (around_of role) one ds ds names (typed_env plain T)
      (typed_env form T) (Some (last_of T)) (last_of T) (suc (last_of type)) (suc l) hs st.no_point.1.1
      st.declared.1.1 st.ordered.2 stay
      (beside_typed asked names (suc l) plain form T be) (type_declared type v h e)
      so.1 in
      let after = behind_declarators names type ds in
      let ip = behind_parts (typed_env plain T) forms.DeclareNode false P in
      let is = behind_parts (typed_env form T) forms.DeclareNode false S in
      let goes = beside_declared asked names after (suc l) (suc l) plain form ip is be x.1 x.2.depth in
      subst (λ z. SoundBut asked form roles.Other (node forms.DeclareNode w f l (more z S)) ×
      Beside asked after (suc l) (behind plain (node forms.DeclareNode w f l (more T P)))
      (behind form (node forms.DeclareNode w f l (more z S)))) (sym (type_same names type h)) (
        declaration_sound asked form w f l T S hT (type_sound asked plain form T hT so.0) x.0,
        subst (λ z. Beside asked after (suc l) z (behind form (node forms.DeclareNode w f l (more T S))))
            (sym (declare_behind plain w f l T P hT)) (subst (λ z. Beside asked after (suc l) (closed plain ip) z)
            (sym (declare_behind form w f l T S hT)) goes),
      )

  -- of any type
  declaration_follows : (o : Option Vector) → SmallVector o → vector_type type ≡ o →
      SoundBut asked form roles.Other (node forms.DeclareNode w f l (declaration_by o (marked names type) mds)) ×
      Beside asked (behind_declarators names type ds) (suc l) (behind plain (plain_of t))
      (behind form (node forms.DeclareNode w f l (declaration_by o (marked names type) mds)))
  unfolding scalars
  declaration_follows None few e = plain_declaration follow asked names bound plain form role w f l type ds h hs e st
  declaration_follows (Some v) few e = vector_declaration v few e

heads_by : (role : Role) → IsOneNode (around_of role) → ExpressionsFollow → HeadsFollow role
unfolding scalarised marked marked_parts
heads_by role one follow asked names bound plain form (node forms.DeclareNode w f l (more type ds)) h st =
    let g = declaration_follows follow asked names bound plain form role one w f l type ds h.0 h.1 st
    (vector_type (tree_at (marked names type))) (type_small (tree_at (marked names type)))
    (ap vector_type (sym (tree_is names type))) in g
heads_by role one follow asked names bound plain form t h st = absurd h

-- a declaration in the head of a `for`, and one of the unit
pub heads_follow : ExpressionsFollow → HeadsFollow Head
heads_follow = heads_by Head tt

pub outer_follow : ExpressionsFollow → HeadsFollow Outer
outer_follow = heads_by Outer tt
