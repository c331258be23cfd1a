-- Behind any tree the next block is that of a function only where it was in front of the tree.
use Rattle.std.proofs.Common.{◌≡◌, ℕ, nat_eq, List, [], ◌∷◌, ◌++◌, Option, None, Some, Bool, true, false, if◌then◌else◌}
use Rattle.std.proofs.Common.{refl, ◌∙◌}
use Rattle.cl_model.specs.declared.program.Space.{Space}
use Rattle.cl_model.specs.declared.program.Space.TheVariants as spaces
use Rattle.cl_tree.specs.declared.tree.Form.{Form}
use Rattle.cl_tree.specs.declared.tree.Form.TheVariants as forms
use Rattle.cl_tree.specs.Syntax.{Syntax, node, Forest}
use Rattle.cl_meaning.specs.Spelling.{name_in}
use Rattle.cl_meaning.specs.declared.types.Declared.{Declared}
use Rattle.cl_meaning.specs.declared.kind.Kind.{Kind}
use Rattle.cl_meaning.specs.declared.kind.Meaning.{Meaning}
use Rattle.cl_meaning.specs.Environment.{Env, Array, at_unit, into_last, declare}
use Rattle.cl_meaning.specs.Declarations.{Declarator, declarator_in, last_kind, with_declarator, with_array}
use Rattle.cl_meaning.specs.Declarations.{with_scalar}
use Rattle.cl_meaning.specs.Declarations.{with_elements, with_parameter, kept_in, dims_of, or_none, first_type, firm}
use Rattle.cl_meaning.specs.Declarations.{second_star}
use Rattle.cl_meaning.specs.Visible.{inside, behind, behind_parts, kinds_of, left, restored, announced, definition_of}
use Rattle.cl_meaning.specs.Visible.{with_prototype, defined_meaning}

array_body : (env : Env) (a : Array) (bytes : List ℕ) (m : Meaning) → (with_array env a bytes m).in_body ≡ env.in_body
array_body env a bytes m = by (at_unit env)
  where
    by : (b : Bool) → (if b
        then record env {
          tables = env.tables ++ record { array = a; bytes = bytes } ∷ [];
          scopes = into_last env.scopes a.name (firm m);
        }
        else record env { arrays = env.arrays ++ a ∷ []; scopes = into_last env.scopes a.name (firm m) }).in_body ≡
        env.in_body
    by true = refl
    by false = refl

scalar_body : (env : Env) (d : Declared) (x : Declarator) (s : Space) → (with_scalar env d x s).in_body ≡ env.in_body
scalar_body env d x spaces.Private = refl
scalar_body env d x spaces.Global = array_body env _ _ _
scalar_body env d x spaces.Constant = array_body env _ _ _
scalar_body env d x spaces.Local = array_body env _ _ _

declarator_body : (env : Env) (o : Option Declared) (x : Declarator) (k : Option Kind) →
    (with_declarator env o x k).in_body ≡ env.in_body
declarator_body env None x k = refl
declarator_body env (Some d) x k = by x.star
  where
    plain : (b : Bool) → (if b then with_scalar env d (record x { star = None }) (kept_in env d) else
        with_elements env d (record x { star = None }) (kept_in env d) (or_none (dims_of x))).in_body ≡ env.in_body
    plain true = scalar_body env d (record x { star = None }) (kept_in env d)
    plain false = array_body env _ _ _

    by : (star : Option Bool) → (with_declarator env (Some d) (record x { star = star }) k).in_body ≡ env.in_body
    by (Some fixed) = refl
    by None = plain (nat_eq x.dimensions 0)

parameter_body : (env : Env) (name : List ℕ) (token : ℕ) (o : Option Declared) (star : Option Bool) →
    (with_parameter env name token o star).in_body ≡ env.in_body
parameter_body env name token None star = refl
parameter_body env name token (Some d) None = refl
parameter_body env name token (Some d) (Some fixed) = refl

prototype_body : (env : Env) (name : List ℕ) → (with_prototype env name).in_body ≡ env.in_body
prototype_body env name = by (announced env name)
  where
    by : (b : Bool) → (if b then declare env name
        (record { meaning = defined_meaning (definition_of env name); firm = false }) else env).in_body ≡ env.in_body
    by true = refl
    by false = refl

left_body : (form : Form) (env inner : Env) (w : List ℕ) (f l : ℕ) (parts : Forest) (ks : List (Option Kind)) →
    (left env inner form w f l parts ks).in_body ≡ env.in_body
unfolding left
left_body forms.FunctionNode env inner w f l parts ks = refl
left_body forms.PrototypeNode env inner w f l parts ks = prototype_body env (name_in w)
left_body forms.ParamNode env inner w f l parts ks =
    parameter_body env (name_in w) l (first_type parts) (second_star parts)
left_body forms.DeclaratorNode env inner w f l parts ks =
    declarator_body env env.declared (declarator_in w f parts) (last_kind ks)
left_body forms.CaseNode env inner w f l parts ks = refl
left_body forms.DefaultNode env inner w f l parts ks = refl
left_body _ env inner w f l parts ks = refl

restored_body : (form : Form) (env inner : Env) → (restored form env inner).in_body ≡ env.in_body
unfolding restored
restored_body forms.FunctionNode env inner = refl
restored_body forms.PrototypeNode env inner = refl
restored_body forms.BlockNode env inner = refl
restored_body forms.IfNode env inner = refl
restored_body forms.WhileNode env inner = refl
restored_body forms.DoNode env inner = refl
restored_body forms.ForNode env inner = refl
restored_body forms.SwitchNode env inner = refl
restored_body forms.CaseNode env inner = refl
restored_body forms.DefaultNode env inner = refl
restored_body _ env inner = refl

pub behind_body : (env : Env) (t : Syntax) → (behind env t).in_body ≡ env.in_body
unfolding behind
behind_body env (node form w f l parts) =
    let inner = behind_parts (inside env form w) form true parts in
    left_body form (restored form env inner) inner w f l parts (kinds_of (inside env form w) form true parts) ∙
    restored_body form env inner
