-- One expression, `v.x + 1` where `v` is a vector of four numbers, for which all that the law asks holds; and a fence
-- beside a vector that has the name of one.
use Rattle.std.proofs.Common.{◌≡◌, ℕ, zero, suc, ◌<◌, ◌≤◌, List, [], ◌∷◌, Option, None, Some, Bool, true, false, refl, ap}
use Rattle.std.proofs.Common.{sym, ◌∙◌}
use Rattle.std.proofs.Common.{subst, if◌then◌else◌, inr, arith}
use Rattle.std.proofs.lemmas.Option.{none-some, same_Some}
use Rattle.std.proofs.lemmas.Bool.{false≢true}
use Rattle.std.specs.Prelude.{codes}
use Rattle.std.specs.Fmt.{digits}
use Rattle.std.specs.Str.{bytes_eq}
use lib.Pointwise.{bytes_decides}
use Rattle.wg_num.specs.declared.types.IntType.TheVariants as types
use Rattle.cl_token.specs.NumberReading as reading
use Rattle.wg_num.specs.Wrap as wraps
use Rattle.cl_tree.specs.declared.tree.Form.TheVariants as forms
use Rattle.cl_tree.specs.Syntax.{Syntax, node, none, more}
use Rattle.cl_meaning.specs.Spelling.{flag_in}
use Rattle.cl_meaning.specs.Names as known_names
use Rattle.cl_meaning.specs.Operators as operators
use Rattle.cl_meaning.specs.Literals as literals
use Rattle.cl_meaning.specs.declared.fault.Fault.{Fault}
use Rattle.cl_meaning.specs.declared.fault.Fault.TheVariants as faults
use Rattle.cl_meaning.specs.declared.names.Intrinsic.{Intrinsic}
use Rattle.cl_meaning.specs.declared.kind.Meaning.TheVariants as meanings
use Rattle.cl_meaning.specs.declared.kind.Role.TheVariants as roles
use Rattle.cl_meaning.specs.Declarations.{firm}
use Rattle.cl_meaning.specs.Environment.{Env, at_start, declare, meaning_in}
use Rattle.cl_meaning.specs.Kinds as kinds
use Rattle.cl_meaning.specs.Visible as visible
use Rattle.cl_meaning.specs.Faults as judged
use Rattle.cl_meaning.specs.Faults.{Asked, at_fault, looked_at}
use Rattle.cl_short_vec.specs.declared.kinds.Reach.TheVariants.{Variable}
use Rattle.cl_short_vec.specs.declared.kinds.Kind.TheVariants.{Vectors, Other}
use Rattle.cl_short_vec.specs.Types.{vector, selected, selection_in}
use Rattle.cl_short_vec.specs.Kinds.{Names, no_names, with_name}
use Rattle.cl_short_vec.specs.Nodes.{component_name}
use Rattle.cl_short_vec.specs.Marks.{kind_by, marked, marked_parts}
use Rattle.cl_short_vec.specs.Faults.{components_of, misplaced, no_component, types_differ, refusals, refusals_in}
use Rattle.cl_short_vec.specs.declared.refuse.VectorFault.TheVariants as vector_faults
use Rattle.cl_short_vec.specs.declared.roles.Role.TheVariants.{Free, Whole}
use Rattle.cl_short_vec.specs.Roles.{role_of}
use Rattle.cl_short_vec.specs.Scalar.{scalar, scalars, component_at}
use Rattle.cl_short_vec_faults.specs.PlainForm.{plain_of, plains_of}
use Rattle.cl_short_vec_faults.specs.Parts.{KnownAlone}
use Rattle.cl_short_vec_faults.specs.Law.{AllGive, CalleeGives, Follows}
use Rattle.cl_short_vec_faults.proofs.Expressions.{expressions_follow}
use Rattle.cl_short_vec_faults.specs.Plainly.{has_point, meant_by, StandsAlike, width_in, Plainly}

-- ---- a vector with the name of a memory fence

-- the call `barrier(CLK_LOCAL_MEM_FENCE.x)`
fence : Syntax
fence = node forms.CallNode (codes "barrier ( )") 0 5 (more (node forms.PostfixNode (codes ". x") 2 4
    (more (node forms.VariableNode (codes "CLK_LOCAL_MEM_FENCE") 2 2 none) none)) none)

fence_names : Names
fence_names = with_name no_names (codes "CLK_LOCAL_MEM_FENCE") (Vectors (vector types.Int 4) Variable)

unknown : Asked
unknown = record { kernel = []; calls = []; missing = [] }

-- the name is that of the fence, and no component is selected of one
fence_refused : refusals Whole (marked fence_names fence) ≡ record { fault = vector_faults.NoComponent; token = 2 } ∷ []
unfolding fence fence_names marked marked_parts kind_by components_of selected selection_in refusals refusals_in
    misplaced no_component types_differ role_of known_names.intrinsic_in operators.postfix_in
fence_refused = refl

-- ---- an expression that the law is about

-- `v.x + 1`
sum : Syntax
sum = node forms.SumNode (codes "+") 0 4 (more (node forms.PostfixNode (codes ". x") 0 2
    (more (node forms.VariableNode (codes "v") 0 0 none) none)) (more (node forms.NumberNode (codes "1") 4 4 none)
    none))

v_names : Names
v_names = with_name no_names (codes "v") (Vectors (vector types.Int 4) Variable)

plain_v : Env
plain_v = declare (at_start [] []) (codes "v") (firm (meanings.Scalar types.Int false 0))

form_v : Env
form_v = declare (declare (declare (declare (at_start [] []) (codes "v.0") (firm (meanings.Scalar types.Int false 0)))
    (codes "v.1") (firm (meanings.Scalar types.Int false 1))) (codes "v.2")
    (firm (meanings.Scalar types.Int false 2))) (codes "v.3") (firm (meanings.Scalar types.Int false 3))

-- a name without a point is none with one
unnamed : (name q : List ℕ) → has_point name ≡ true → has_point q ≡ false → bytes_eq name q ≡ false
unnamed name q h n = by (bytes_eq name q) refl
  where
    by : (b : Bool) → bytes_eq name q ≡ b → b ≡ false
    by false e = refl
    by true e = absurd (false≢true (sym n ∙ sym (ap has_point ((bytes_decides name q).0 e)) ∙ h))

v_stands : StandsAlike (Vectors (vector types.Int 4) Variable) (codes "v") plain_v form_v
unfolding plain_v form_v digits
v_stands = (false, refl, component)
  where
    component : (c : ℕ) → c < 4 → meant_by form_v (component_name (codes "v") c) ≡ Some (meanings.Scalar types.Int
        false 0)
    component zero h = refl
    component (suc zero) h = refl
    component (suc (suc zero)) h = refl
    component (suc (suc (suc zero))) h = refl
    component (suc (suc (suc (suc c)))) h = absurd (omega arith)

others_stand : (q : List ℕ) → has_point q ≡ false → bytes_eq (codes "v") q ≡ false → meant_by form_v q ≡ meant_by
    plain_v q
unfolding plain_v form_v
others_stand q n e =
    rw (unnamed (codes "v.3") q refl n) (rw (unnamed (codes "v.2") q refl n)
    (rw (unnamed (codes "v.1") q refl n) (rw (unnamed (codes "v.0") q refl n) (rw e refl))))

all_stand : (q : List ℕ) → has_point q ≡ false → StandsAlike (v_names q) q plain_v form_v
unfolding v_names
all_stand q n = by (bytes_eq (codes "v") q) refl
  where
    by : (b : Bool) → bytes_eq (codes "v") q ≡ b →
        StandsAlike (if b then Vectors (vector types.Int 4) Variable else Other false) q plain_v form_v
    by true e = subst (λ z. StandsAlike (Vectors (vector types.Int 4) Variable) z plain_v form_v)
        ((bytes_decides (codes "v") q).0 e) v_stands
    by false e = others_stand q n e

plainly : Plainly v_names plain_v form_v
unfolding v_names plain_v form_v
plainly = record {
  functions = refl;
  owner = refl;
  declared = refl;
  flags = refl;
  outside = refl;
  in_body = refl;
  in_loop = refl;
  in_switch = refl;
  labels = refl;
  depth = refl;
  arrays = refl;
  tables = refl;
  names' = all_stand;
  narrow = λ q. by (bytes_eq (codes "v") q);
}
  where
    by : (b : Bool) → width_in (if b then Vectors (vector types.Int 4) Variable else Other false) ≤ 16
    by true = omega arith
    by false = omega arith

is_known : Option kinds.Callee → Bool
is_known (Some (kinds.known i)) = true
is_known c = false

none_given : (o : Option Intrinsic) (q : List ℕ) (c : kinds.Callee) → kinds.known_as o ≡ Some c → CalleeGives unknown
    q c
unfolding is_known
none_given None q c e = absurd (none-some c e)
none_given (Some i) q (kinds.known j) e = tt
none_given (Some i) q (kinds.defined n g) e = absurd (false≢true (sym (ap is_known e)))
none_given (Some i) q kinds.undefined e = absurd (false≢true (sym (ap is_known e)))

give : AllGive unknown plain_v
unfolding plain_v
give q c = by (bytes_eq (codes "v") q)
  where
    by : (b : Bool) → kinds.callee_by plain_v q (meaning_in (if b then Some (firm (meanings.Scalar types.Int false 0))
        else
        None)) ≡ Some c → CalleeGives unknown q c
    by true e = absurd (none-some c e)
    by false e = none_given (known_names.intrinsic_in q) q c e

alone : KnownAlone plain_v
unfolding plain_v
alone q i c e = by (bytes_eq (codes "v") q)
  where
    by : (b : Bool) → kinds.callee_by plain_v q (meaning_in (if b then Some (firm (meanings.Scalar types.Int false 0))
        else None)) ≡ Some c → c ≡ kinds.known i
    by true k = absurd (none-some c k)
    by false k = same_Some _ _ (sym k ∙ ap kinds.known_as e)

-- what stands for it, `v.0 + 1`, is at fault at no node, and is an int
sum_follows : Follows unknown form_v roles.Other (scalar (marked v_names sum)) (Some (kinds.number types.Int))
unfolding sum v_names plain_v plain_of plains_of marked marked_parts kind_by components_of selected selection_in
    refusals refusals_in misplaced no_component types_differ role_of visible.inside visible.restored
    visible.behind_parts visible.behind visible.left visible.later visible.kinds_of visible.kind_of known_names.flag_in
    operators.postfix_in operators.binary_in literals.literal_in reading.outcome_of
    reading.parts_of wraps.modulus wraps.half judged.misfits kinds.kind_step digits
sum_follows = (expressions_follow unknown v_names plain_v form_v Free roles.Other sum (refl, inr (refl, tt), refl)
    (tt, ((tt, ((refl, tt), tt)), ((tt, tt), tt))) plainly (give, alone) refl refl
    (((tt, (variable, tt)), ((tt, (one, tt)), tt)), (whole, tt))).0
  where
    variable : (k : Fault) → at_fault unknown (looked_at plain_v roles.Other (node forms.VariableNode (codes "v") 0 0
        none))
        k ≡ false
    variable faults.UnknownName = refl
    variable _ = refl

    one : (k : Fault) → at_fault unknown (looked_at plain_v roles.Other (node forms.NumberNode (codes "1") 4 4 none))
        k ≡
        false
    one faults.UnknownName = refl
    one _ = refl

    whole : (k : Fault) → at_fault unknown (looked_at plain_v roles.Other (plain_of sum)) k ≡ false
    whole faults.UnknownName = refl
    whole _ = refl
