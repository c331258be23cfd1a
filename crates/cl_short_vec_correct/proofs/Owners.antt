-- A tree leaves the function that is under way.
use Rattle.std.proofs.Common.{◌≡◌, ℕ, nat_eq, List, Option, None, Some, Bool, true, false, if◌then◌else◌, refl, ◌∙◌}
use Rattle.cl_model.specs.declared.program.Space.{Space}
use Rattle.cl_model.specs.declared.program.Space.TheVariants as spaces
use Rattle.cl_tree.specs.declared.tree.Form.{Form}
use Rattle.cl_tree.specs.declared.tree.Form.TheVariants as forms
use Rattle.cl_tree.specs.Syntax.{Syntax, node, Forest, none, more}
use Rattle.cl_meaning.specs.Spelling.{name_in}
use Rattle.cl_meaning.specs.declared.types.Declared.{Declared}
use Rattle.cl_meaning.specs.declared.kind.Kind.{Kind}
use Rattle.cl_meaning.specs.declared.kind.Meaning.{Meaning}
use Rattle.cl_meaning.specs.Environment.{Env, Array, Labels, at_unit}
use Rattle.cl_meaning.specs.Declarations.{Declarator, declarator_in, kept_in, with_array, with_scalar, with_declarator}
use Rattle.cl_meaning.specs.Declarations.{last_kind, first_type, second_star}
use Rattle.cl_meaning.specs.Declarations.{with_parameter, form_of}
use Rattle.cl_meaning.specs.Visible.{behind, behind_parts, later, left, restored, inside, in_block, kind_of, kinds_of}
use Rattle.cl_meaning.specs.Visible.{announced, behind_part, behind_prototype_part}
use Rattle.cl_meaning.specs.Visible.{behind_type, behind_value, behind_label}

-- the function that is under way is the same
abbrev pub Same : Env → Env → Type 0
Same env to = to.owner.number ≡ env.owner.number

either_same : (env a b : Env) (z : Bool) → Same env a → Same env b → Same env (if z then a else b)
either_same env a b true h k = h
either_same env a b false h k = k

array_same : (env : Env) (a : Array) (bytes : List ℕ) (m : Meaning) → Same env (with_array env a bytes m)
array_same env a bytes m = either_same env _ _ (at_unit env) refl refl

scalar_same : (env : Env) (d : Declared) (x : Declarator) (s : Space) → Same env (with_scalar env d x s)
scalar_same env d x spaces.Private = refl
scalar_same env d x spaces.Global = array_same env _ _ _
scalar_same env d x spaces.Constant = array_same env _ _ _
scalar_same env d x spaces.Local = array_same env _ _ _

declarator_same : (env : Env) (o : Option Declared) (x : Declarator) (k : Option Kind) →
    Same env (with_declarator env o x k)
declarator_same env None x k = refl
declarator_same env (Some d) x k = by x.star
  where
    by : (star : Option Bool) → Same env (with_declarator env (Some d) (record x { star = star }) k)
    by (Some fixed) = refl
    by None = either_same env _ _ (nat_eq x.dimensions 0) (scalar_same env d (record x { star = None }) (kept_in env d))
        (array_same env _ _ _)

parameter_same : (env : Env) (name : List ℕ) (token : ℕ) (o : Option Declared) (star : Option Bool) →
    Same env (with_parameter env name token o star)
parameter_same env name token None star = refl
parameter_same env name token (Some d) None = refl
parameter_same env name token (Some d) (Some fixed) = refl

left_same : (form : Form) (env inner : Env) (w : List ℕ) (f l : ℕ) (parts : Forest) (ks : List (Option Kind)) →
    Same env (left env inner form w f l parts ks)
unfolding left
left_same forms.FunctionNode env inner w f l parts ks = refl
left_same forms.PrototypeNode env inner w f l parts ks = either_same env _ _ (announced env (name_in w)) refl refl
left_same forms.ParamNode env inner w f l parts ks =
    parameter_same env (name_in w) l (first_type parts) (second_star parts)
left_same forms.DeclaratorNode env inner w f l parts ks =
    declarator_same env env.declared (declarator_in w f parts) (last_kind ks)
left_same form env inner w f l parts ks = refl

restored_same : (form : Form) (env inner : Env) → Same env (restored form env inner)
unfolding restored
restored_same forms.FunctionNode env inner = refl
restored_same form env inner = refl

pub behind_same : (env : Env) (t : Syntax) → Same env (behind env t)
unfolding behind
behind_same env (node form w f l parts) =
    left_same form (restored form env (behind_parts (inside env form w) form true parts))
    (behind_parts (inside env form w) form true parts) w f l parts
    (kinds_of (inside env form w) form true parts) ∙
    restored_same form env (behind_parts (inside env form w) form true parts)

part_same : (env : Env) (form : Form) (p : Syntax) → Same env (behind_part env form p)
part_same env forms.HeadNode p = refl
part_same env form p = refl

prototype_same : (env : Env) (form : Form) (p : Syntax) → Same env (behind_prototype_part env form p)
prototype_same env forms.HeadNode p = refl
prototype_same env form p = refl

type_same : (env : Env) (form : Form) (p : Syntax) → Same env (behind_type env form p)
type_same env forms.TypeNode p = refl
type_same env form p = refl

labels_same : (env : Env) (l : Option Labels) (k : Option Kind) → Same env (behind_value env l k)
labels_same env None k = refl
labels_same env (Some l) k = refl

label_same : (env : Env) (front : Bool) (p : Syntax) → Same env (behind_label env front p)
label_same env true p = refl
label_same env false p = refl

pub later_same : (form : Form) (env : Env) (front : Bool) (p : Syntax) (k : Option Kind) →
    Same env (later env form front p k)
unfolding later
later_same forms.FunctionNode env front p k = part_same env (form_of p) p
later_same forms.PrototypeNode env front p k = prototype_same env (form_of p) p
later_same forms.DeclareNode env front p k = type_same env (form_of p) p
later_same forms.SwitchNode env front p k = labels_same env env.labels k
later_same forms.CaseNode env front p k = label_same env front p
later_same form env front p k = refl

pub parts_same : (form : Form) (ps : Forest) (env : Env) (front : Bool) → Same env (behind_parts env form front ps)
unfolding behind_parts
parts_same form none env front = refl
parts_same form (more p ps) env front =
    parts_same form ps (later (behind env p) form front p (kind_of env p)) false ∙
    (later_same form (behind env p) front p (kind_of env p) ∙ behind_same env p)

pub block_same : (env : Env) → Same env (in_block env)
block_same env = either_same env _ _ env.in_body refl refl
