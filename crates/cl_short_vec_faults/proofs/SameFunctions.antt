-- Behind any tree the functions of the unit are the same.
use Rattle.std.proofs.Common.{◌≡◌, ℕ, List, [], ◌∷◌, ◌++◌, Option, None, Some, Bool, true, false, nat_eq}
use Rattle.std.proofs.Common.{if◌then◌else◌, refl, ◌∙◌}
use Rattle.cl_tree.specs.declared.tree.Form.{Form}
use Rattle.cl_tree.specs.declared.tree.Form.TheVariants as forms
use Rattle.cl_tree.specs.Syntax.{Syntax, node, Forest, none, more}
use Rattle.cl_meaning.specs.Spelling.{name_in}
use Rattle.cl_meaning.specs.declared.types.Declared.{Declared}
use Rattle.cl_model.specs.declared.program.Space.{Space}
use Rattle.cl_model.specs.declared.program.Space.TheVariants as spaces
use Rattle.cl_meaning.specs.declared.kind.Kind.{Kind}
use Rattle.cl_meaning.specs.declared.kind.Meaning.{Meaning}
use Rattle.cl_meaning.specs.Environment.{Env, Array, Labels, at_unit, declare}
use Rattle.cl_meaning.specs.Declarations.{Declarator, declarator_in, form_of, last_kind, with_declarator, with_array}
use Rattle.cl_meaning.specs.Declarations.{with_scalar, with_elements, with_parameter, kept_in, dims_of, or_none, firm}
use Rattle.cl_meaning.specs.Declarations.{first_type, second_star}
use Rattle.cl_meaning.specs.Visible.{inside, later, behind, behind_parts, kinds_of, kind_of, left, restored, announced}
use Rattle.cl_meaning.specs.Visible.{behind_part, behind_prototype_part, behind_type, behind_value, behind_label}
use Rattle.cl_meaning.specs.Visible.{with_prototype, opened, apart, defined_meaning, definition_of}

abbrev Same : (before after : Env) → Type 0
Same before after = after.functions ≡ before.functions

-- ---- names that are declared

array_same : (env : Env) (a : Array) (bytes : List ℕ) (m : Meaning) → Same env (with_array env a bytes m)
array_same env a bytes m = by (at_unit env)
  where
    by : (b : Bool) → Same env (if b
        then declare (record env { tables = env.tables ++ record { array = a; bytes = bytes } ∷ [] }) a.name (firm m)
        else declare (record env { arrays = env.arrays ++ a ∷ [] }) a.name (firm m))
    by true = refl
    by false = refl

scalar_same : (env : Env) (d : Declared) (x : Declarator) (s : Space) → Same env (with_scalar env d x s)
scalar_same env d x spaces.Private = refl
scalar_same env d x s = array_same env _ _ _

unstarred_same : (env : Env) (d : Declared) (x : Declarator) (b : Bool) → Same env
    (if b then with_scalar env d x (kept_in env d) else
    with_elements env d x (kept_in env d) (or_none (dims_of x)))
unstarred_same env d x true = scalar_same env d x (kept_in env d)
unstarred_same env d x false = array_same env _ _ _

declarator_same : (env : Env) (o : Option Declared) (x : Declarator) (k : Option Kind) →
    Same env (with_declarator env o x k)
declarator_same env None x k = refl
declarator_same env (Some d) x k = by x.star
  where
    by : (o : Option Bool) → Same env (with_declarator env (Some d) (record x { star = o }) k)
    by (Some fixed) = refl
    by None = unstarred_same env d (record x { star = None }) (nat_eq x.dimensions 0)

parameter_same : (env : Env) (name : List ℕ) (token : ℕ) (o : Option Declared) (star : Option Bool) →
    Same env (with_parameter env name token o star)
parameter_same env name token None star = refl
parameter_same env name token (Some d) None = refl
parameter_same env name token (Some d) (Some fixed) = refl

-- ---- on the way in, from part to part and on the way out

block_same : (env : Env) (w : List ℕ) → Same env (inside env forms.BlockNode w)
unfolding inside
block_same env w = by env.in_body
  where
    by : (b : Bool) → Same env (if b then record env { in_body = false; labels = None } else opened (apart env))
    by true = refl
    by false = refl

inside_same : (form : Form) (env : Env) (w : List ℕ) → Same env (inside env form w)
unfolding inside
inside_same forms.BlockNode env w = block_same env w
inside_same _ env w = refl

part_same : (form : Form) (env : Env) (p : Syntax) → Same env (behind_part env form p)
part_same forms.ResultNode env p = refl
part_same forms.HeadNode env p = refl
part_same forms.ParamsNode env p = refl
part_same _ env p = refl

prototype_part_same : (form : Form) (env : Env) (p : Syntax) → Same env (behind_prototype_part env form p)
prototype_part_same forms.ResultNode env p = refl
prototype_part_same forms.HeadNode env p = refl
prototype_part_same forms.ParamsNode env p = refl
prototype_part_same _ env p = refl

type_same : (form : Form) (env : Env) (p : Syntax) → Same env (behind_type env form p)
type_same forms.TypeNode env p = refl
type_same _ env p = refl

value_same : (o : Option Labels) (env : Env) (k : Option Kind) → Same env (behind_value env o k)
value_same None env k = refl
value_same (Some l) env k = refl

label_same : (front : Bool) (env : Env) (p : Syntax) → Same env (behind_label env front p)
label_same true env p = refl
label_same false env p = refl

later_same : (form : Form) (env : Env) (front : Bool) (p : Syntax) (k : Option Kind) →
    Same env (later env form front p k)
unfolding later
later_same forms.FunctionNode env front p k = part_same (form_of p) env p
later_same forms.PrototypeNode env front p k = prototype_part_same (form_of p) env p
later_same forms.DeclareNode env front p k = type_same (form_of p) env p
later_same forms.SwitchNode env front p k = value_same env.labels env k
later_same forms.CaseNode env front p k = label_same front env p
later_same _ env front p k = refl

restored_same : (form : Form) (env inner : Env) → Same inner (restored form env inner)
unfolding restored
restored_same forms.FunctionNode env inner = refl
restored_same forms.PrototypeNode env inner = refl
restored_same forms.BlockNode env inner = refl
restored_same forms.IfNode env inner = refl
restored_same forms.WhileNode env inner = refl
restored_same forms.DoNode env inner = refl
restored_same forms.ForNode env inner = refl
restored_same forms.SwitchNode env inner = refl
restored_same forms.CaseNode env inner = refl
restored_same forms.DefaultNode env inner = refl
restored_same _ env inner = refl

prototype_same : (env : Env) (name : List ℕ) → Same env (with_prototype env name)
prototype_same env name = by (announced env name)
  where
    by : (b : Bool) → Same env (if b then declare env name
        (record { meaning = defined_meaning (definition_of env name); firm = false }) else env)
    by true = refl
    by false = refl

left_same : (form : Form) (env inner : Env) (w : List ℕ) (f l : ℕ) (parts : Forest) (ks : List (Option Kind)) →
    Same env (left env inner form w f l parts ks)
unfolding left
left_same forms.FunctionNode env inner w f l parts ks = refl
left_same forms.PrototypeNode env inner w f l parts ks = prototype_same env (name_in w)
left_same forms.ParamNode env inner w f l parts ks =
    parameter_same env (name_in w) l (first_type parts) (second_star parts)
left_same forms.DeclaratorNode env inner w f l parts ks =
    declarator_same env env.declared (declarator_in w f parts) (last_kind ks)
left_same forms.CaseNode env inner w f l parts ks = refl
left_same forms.DefaultNode env inner w f l parts ks = refl
left_same _ env inner w f l parts ks = refl

-- ---- through a tree

mutual
  unfolding behind behind_parts

  pub behind_functions : (t : Syntax) (env : Env) → (behind env t).functions ≡ env.functions
  behind_functions (node form w f l parts) env =
      let inner = behind_parts (inside env form w) form true parts in
      left_same form (restored form env inner) inner w f l parts (kinds_of (inside env form w) form true parts) ∙
      (restored_same form env inner ∙ (parts_functions parts form true (inside env form w) ∙ inside_same form env w))

  pub parts_functions : (parts : Forest) (form : Form) (front : Bool) (env : Env) →
      (behind_parts env form front parts).functions ≡ env.functions
  parts_functions none form front env = refl
  parts_functions (more p ps) form front env =
      let m = behind env p in
      let n = later m form front p (kind_of env p) in
      parts_functions ps form false n ∙ (later_same form m front p (kind_of env p) ∙ behind_functions p env)
