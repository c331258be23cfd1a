-- What a node saves of what is visible before it, and what it gives back behind its parts.
use Rattle.std.specs.Prelude.{ℕ, Bool, List, length, map, take, Option, None, Some, option_map}
use Rattle.cl_tree.specs.declared.tree.Form.{Form}
use Rattle.cl_tree.specs.declared.tree.Form.TheVariants as forms
use Rattle.cl_tree.specs.Syntax.{Syntax, node}
use Rattle.cl_meaning.specs.declared.types.Declared.{Declared}
use Rattle.cl_meaning.specs.Spelling.{name_in}
use Rattle.cl_meaning.specs.Environment.{Env, Variable, Array, Owner, Labels}
use Rattle.cl_meaning.specs.declared.kind.Kind.{Kind}
use Rattle.cl_meaning.specs.Visible.{inside, left, in_block, apart, opened, in_loop, in_switch, in_arguments}
use Rattle.cl_meaning.specs.Visible.{with_default, in_definition, in_prototype}
use Rattle.cl_meaning.specs.Declarations.{form_of, with_declarator, declarator_in, last_kind, with_parameter}
use Rattle.cl_meaning.specs.Declarations.{first_type, second_star}
use Rattle.cl_meaning.specs.View.{array_of, variable_of}
pub use Rattle.cl_meaning.specs.Kinds.{callee_of}
use Rattle.cl_scope.specs.View.{owner_of, labels_of}
use Rattle.cl_scope.specs.declared.walk.Body as rust_body
use Rattle.cl_scope.specs.declared.walk.Around as rust_around
use Rattle.cl_scope.specs.declared.walk.Aside as rust_aside
use Rattle.cl_scope.specs.declared.walk.Aside.TheVariants as asides
use Rattle.cl_scope.specs.declared.walk.Saved as rust_saved
use Rattle.cl_scope.specs.declared.walk.Inner as rust_inner

-- the variables and arrays of a function
pub record Body : Type 0 where
  pub variables : List Variable
  pub arrays : List Array

-- what is to be restored at each node
pub record Around : Type 0 where
  pub scopes : ℕ
  pub owner : Owner
  pub declared : Option Declared
  pub flags : Bool
  pub in_body : Bool
  pub in_loop : Bool
  pub in_switch : Bool

-- what the parts of a node do not share with what is around it: nothing; the labels, at a label and at a statement that
-- holds statements; variables and arrays, at a function or prototype
pub data Aside : Type 0 where
  nothing : Aside
  labels : Option Labels → Aside
  body : Body → Aside

-- what is to be restored
pub record Kept : Type 0 where
  pub around : Around
  pub aside : Aside

-- what is known at the end of the parts alone
pub record Inner : Type 0 where
  pub labels : Option Labels
  pub body : Option Body
  pub sizes : Option (List ℕ)

abbrev pub body_of : Env → Body
body_of env = record { variables = env.variables; arrays = env.arrays }

abbrev pub aside_at : Form → Env → Aside
aside_at forms.FunctionNode env = body (body_of env)
aside_at forms.PrototypeNode env = body (body_of env)
aside_at forms.BlockNode env = labels env.labels
aside_at forms.IfNode env = labels env.labels
aside_at forms.WhileNode env = labels env.labels
aside_at forms.DoNode env = labels env.labels
aside_at forms.ForNode env = labels env.labels
aside_at forms.SwitchNode env = labels env.labels
aside_at forms.CaseNode env = labels env.labels
aside_at forms.DefaultNode env = labels env.labels
aside_at form env = nothing

abbrev pub kept_around : Env → Around
kept_around env = record {
  scopes = length env.scopes;
  owner = env.owner;
  declared = env.declared;
  flags = env.flags;
  in_body = env.in_body;
  in_loop = env.in_loop;
  in_switch = env.in_switch;
}

-- what a node of that production keeps of what is visible before it
abbrev pub kept : Form → Env → Kept
kept form env = record { around = kept_around env; aside = aside_at form env }

abbrev pub kept_at : Syntax → Env → Kept
kept_at t env = kept (form_of t) env

-- what is known inside alone, where something of that sort was set aside
abbrev pub inner_for : Aside → Env → Option (List ℕ) → Inner
inner_for nothing env sizes = record { labels = None; body = None; sizes = sizes }
inner_for (labels l) env sizes = record { labels = env.labels; body = None; sizes = sizes }
inner_for (body b) env sizes = record { labels = None; body = Some (body_of env); sizes = sizes }

-- what a node of that production knows at the end of its parts
abbrev pub inner_at : Form → Env → Inner
inner_at form env = inner_for (aside_at form env) env env.owner.sizes

-- what is visible at the first part of a tree
abbrev pub entered : Env → Syntax → Env
entered env (node form w f l parts) = inside env form w

-- what a tree leaves, where env is visible at it behind its parts, and inner at their end
abbrev pub departed : Env → Env → Syntax → List (Option Kind) → Env
departed env inner (node form w f l parts) ks = left env inner form w f l parts ks

-- the labels that a tree knows at the end of its parts alone
abbrev pub labels_at : Syntax → Env → Option Labels
labels_at t inner = (inner_at (form_of t) inner).labels

-- what a declarator and a parameter declare
abbrev pub declared_by : Env → Syntax → List (Option Kind) → Env
declared_by env (node form w f l parts) ks = with_declarator env env.declared (declarator_in w f parts) (last_kind ks)

abbrev pub parameter_by : Env → Syntax → Env
parameter_by env (node form w f l parts) = with_parameter env (name_in w) l (first_type parts) (second_star parts)

abbrev pub behind_default : Env → Env
behind_default env = record env { labels = with_default env.labels }

-- what is visible at the first part of a node with this name
abbrev pub inside_named : Env → Form → List ℕ → Env
inside_named env forms.FunctionNode name = in_definition env name
inside_named env forms.PrototypeNode name = in_prototype env
inside_named env forms.BlockNode name = in_block env
inside_named env forms.IfNode name = apart env
inside_named env forms.WhileNode name = in_loop env
inside_named env forms.DoNode name = in_loop env
inside_named env forms.ForNode name = opened (in_loop env)
inside_named env forms.SwitchNode name = in_switch env
inside_named env forms.DefaultNode name = behind_default env
inside_named env forms.CallNode name = in_arguments env name
inside_named env form name = env

abbrev pub with_aside : Aside → Env → Env
with_aside nothing env = env
with_aside (labels l) env = record env { labels = l }
with_aside (body b) env = record env { variables = b.variables; arrays = b.arrays }

-- with what was kept restored
abbrev pub restored_around : Around → Env → Env
restored_around k inner = record inner {
  scopes = take k.scopes inner.scopes;
  owner = k.owner;
  declared = k.declared;
  flags = k.flags;
  in_body = k.in_body;
  in_loop = k.in_loop;
  in_switch = k.in_switch;
}

abbrev pub restored_by : Kept → Env → Env
restored_by k inner = with_aside k.aside (restored_around k.around inner)

-- ---- the Rust values

abbrev pub body_view : rust_body.Body → Body
body_view b = record { variables = map variable_of b.variables.items; arrays = map array_of b.arrays.items }

abbrev pub around_of : rust_around.Around → Around
around_of s = record {
  scopes = s.scopes;
  owner = owner_of s.owner;
  declared = s.declared;
  flags = s.flags;
  in_body = s.in_body;
  in_loop = s.in_loop;
  in_switch = s.in_switch;
}

abbrev pub aside_of : rust_aside.Aside → Aside
aside_of asides.Nothing = nothing
aside_of (asides.Labels l) = labels (option_map labels_of l)
aside_of (asides.Body b) = body (body_view b)

abbrev pub saved_of : rust_saved.Saved → Kept
saved_of s = record { around = around_of s.around; aside = aside_of s.aside }

abbrev pub inner_of : rust_inner.Inner → Inner
inner_of i = record { labels = option_map labels_of i.labels; body = option_map body_view i.body; sizes = i.sizes }
