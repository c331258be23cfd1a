-- What is visible at each node of a tree, and the nodes in their order. All of it is a function of the tree alone.
use Rattle.std.specs.Prelude.{ℕ, suc, nat_eq, Bool, true, false, ◌&&◌, ◌||◌, List, [], ◌∷◌, ◌++◌, length, take}
use Rattle.std.specs.Prelude.{slice_get, Option, None, Some, if◌then◌else◌}
use Rattle.std.specs.Str.{bytes_eq}
use Rattle.wg_num.specs.declared.types.IntType.{IntType}
use Rattle.wg_num.specs.declared.types.IntType.TheVariants as types
use Rattle.wg_num.specs.Wrap.{wrap_of}
use Rattle.cl_tree.specs.declared.tree.Form.{Form}
use Rattle.cl_tree.specs.declared.tree.Form.TheVariants as forms
use Rattle.cl_tree.specs.Syntax.{Syntax, node, Forest, none, more, first_of, last_of}
use Rattle.cl_meaning.specs.Spelling.{name_in, declared_in, intrinsic_in}
use Rattle.cl_meaning.specs.Conversions.{promoted}
use Rattle.cl_meaning.specs.declared.constant.Constant.{Constant}
use Rattle.cl_meaning.specs.Constants.{constant_of}
use Rattle.cl_meaning.specs.declared.kind.Kind.{Kind}
use Rattle.cl_meaning.specs.declared.kind.Entry.{Entry}
use Rattle.cl_meaning.specs.declared.kind.Meaning.{Meaning}
use Rattle.cl_meaning.specs.declared.kind.Meaning.TheVariants as meanings
use Rattle.cl_meaning.specs.declared.kind.Role.{Role}
use Rattle.cl_meaning.specs.declared.kind.Role.TheVariants as roles
use Rattle.cl_meaning.specs.declared.kind.Yield.TheVariants as yields
use Rattle.cl_meaning.specs.Environment.{Env, Scope, Owner, Labels, Signature, empty_scope, with_entry, declare}
use Rattle.cl_meaning.specs.Environment.{in_last}
use Rattle.cl_meaning.specs.Kinds.{Callee, known, is_fence, callee_of, kind_step, type_of}
use Rattle.cl_meaning.specs.Declarations.{form_of, parts_of, declarator_in, with_declarator, last_kind, first_type}
use Rattle.cl_meaning.specs.Declarations.{second_star, with_parameter, yield_of, is_kernel_head, sizes_in, firm}

-- ---- on the way in: what is visible at the first part of a node

abbrev pub opened : Env → Env
opened env = record env { scopes = env.scopes ++ empty_scope ∷ [] }

-- a statement inside another one is not at the outer level of a switch body
abbrev pub apart : Env → Env
apart env = record env { labels = None }

-- the block of a function shares the scope of its parameters, and each other block opens one
abbrev pub in_block : Env → Env
in_block env = if env.in_body then record env { in_body = false; labels = None } else opened (apart env)

abbrev pub in_loop : Env → Env
in_loop env = record env { in_loop = true; labels = None }

abbrev pub in_switch : Env → Env
in_switch env = record env { in_switch = true; labels = None }

-- whether a call calls a fence, in whose arguments the two names of memory fences are known
abbrev pub is_fence_callee : Option Callee → Bool
is_fence_callee (Some (known i)) = is_fence i
is_fence_callee c = false

abbrev pub in_arguments : Env → List ℕ → Env
in_arguments env name = record env { flags = is_fence_callee (callee_of env name) }

-- the number of the first definition of that name, and whether it is a kernel
abbrev pub definition_from : List ℕ → ℕ → List Signature → Option (ℕ × Bool)
definition_from name n [] = None
definition_from name n (g ∷ gs) = if bytes_eq g.name name then Some (n, g.kernel) else definition_from name (suc n) gs

abbrev pub definition_of : Env → List ℕ → Option (ℕ × Bool)
definition_of env name = definition_from name 0 env.functions

-- what the name of a function stands for, whose number this is
abbrev pub function_meaning : Bool → ℕ → Meaning
function_meaning kernel n = if kernel then meanings.Kernel else meanings.Function n

-- what the name of a definition stands for
abbrev pub defined_meaning : Option (ℕ × Bool) → Meaning
defined_meaning None = meanings.Undefined
defined_meaning (Some (n, kernel)) = function_meaning kernel n

-- a function is visible behind its definition
abbrev pub with_function : Env → List ℕ → Env
with_function env name = declare env name (firm (defined_meaning (definition_of env name)))

-- A prototype declares its name where nothing does yet, and where the name is not known without a declaration.
abbrev pub announced : Env → List ℕ → Bool
announced env name = is_free (in_last env.scopes name) && unknown (intrinsic_in name)
  where
    is_free : Option Entry → Bool
    is_free None = true
    is_free (Some e) = false

    unknown : {A : Type 0} → Option A → Bool
    unknown None = true
    unknown (Some i) = false

abbrev pub with_prototype : Env → List ℕ → Env
with_prototype env name = if announced env name then declare env name
    (record { meaning = defined_meaning (definition_of env name); firm = false }) else env

-- the number of a definition; where there is none, that of none of the unit's functions
abbrev pub number_in : Env → Option (ℕ × Bool) → ℕ
number_in env None = length env.functions
number_in env (Some (n, kernel)) = n

-- in a function or prototype: its heads and its result stand in the scope around it
abbrev pub in_function : Env → ℕ → Bool → Env
in_function env number defining =
    record env {
      owner = record {
        number = number;
        kernel = false;
        defining = defining;
        result = yields.Nothing;
        sizes = None;
      };
      variables = [];
      arrays = [];
    }

abbrev pub in_definition : Env → List ℕ → Env
in_definition env name = in_function env (number_in env (definition_of env name)) true

abbrev pub in_prototype : Env → Env
in_prototype env = in_function env (length env.functions) false

-- behind `default`
abbrev pub with_default : Option Labels → Option Labels
with_default None = None
with_default (Some l) = Some (record l { other = true })

unfoldable pub inside : Env → Form → List ℕ → Env
inside env forms.FunctionNode w = in_definition env (name_in w)
inside env forms.PrototypeNode w = in_prototype env
inside env forms.BlockNode w = in_block env
inside env forms.IfNode w = apart env
inside env forms.WhileNode w = in_loop env
inside env forms.DoNode w = in_loop env
inside env forms.ForNode w = opened (in_loop env)
inside env forms.SwitchNode w = in_switch env
inside env forms.DefaultNode w = record env { labels = with_default env.labels }
inside env forms.CallNode w = in_arguments env (name_in w)
inside env form w = env

-- ---- from part to part: what a part adds for the parts behind it, beside the names that it declares

-- the parts of a function: its heads, its result, and its parameters, behind which its block stands
abbrev pub in_owner : Env → Owner → Env
in_owner env o = record env { owner = o }

abbrev pub or_sizes : Option (List ℕ) → Option (List ℕ) → Option (List ℕ)
or_sizes old None = old
or_sizes old (Some ns) = Some ns

-- the sizes that a head requires; the last that does counts
abbrev pub head_sizes : Forest → Option (List ℕ)
head_sizes none = None
head_sizes (more p ps) = sizes_in p

abbrev pub behind_head : Env → Syntax → Env
behind_head env p = in_owner env (record env.owner {
  kernel = env.owner.kernel || is_kernel_head p;
  sizes = or_sizes env.owner.sizes (head_sizes (parts_of p));
})

abbrev pub behind_result : Env → Syntax → Env
behind_result env p = in_owner env (record env.owner { result = yield_of (parts_of p) })

-- The own name of a function, where that number is one's. It hides nothing: what stands for it already, as a name of
-- the unit or one that is known without a declaration, does so in the function too.
abbrev pub own_scope : Env → ℕ → Option Signature → Scope
own_scope env number None = empty_scope
own_scope env number (Some g) =
    if announced env g.name then with_entry empty_scope g.name (firm (function_meaning g.kernel number)) else
    empty_scope

abbrev pub with_own : Env → Env
with_own env =
    record env { scopes = env.scopes ++ own_scope env env.owner.number (slice_get env.functions env.owner.number) ∷ [] }

-- A function is visible from its name on, which stands behind its result, where a prototype of it would declare it
-- there; its parameters and its block share the scope inside.
abbrev pub named : Env → Env
named env = opened (with_own env)

abbrev pub behind_part : Env → Form → Syntax → Env
behind_part env forms.HeadNode p = behind_head env p
behind_part env forms.ResultNode p = named (behind_result env p)
behind_part env forms.ParamsNode p = record env { in_body = true }
behind_part env form p = env

-- the parameters of a prototype have a scope too
abbrev pub behind_prototype_part : Env → Form → Syntax → Env
behind_prototype_part env forms.HeadNode p = behind_head env p
behind_prototype_part env forms.ResultNode p = opened (behind_result env p)
behind_prototype_part env forms.ParamsNode p = record env { in_body = true }
behind_prototype_part env form p = env

-- the type to which the labels of a switch are converted
abbrev pub label_type : Option Kind → IntType
label_type None = types.Int
label_type (Some k) = promoted (type_of k)

-- behind the value of a switch no label stands yet; behind its other parts their labels do
abbrev pub behind_value : Env → Option Labels → Option Kind → Env
behind_value env None k = record env { labels = Some (record { of = label_type k; values = []; other = false }) }
behind_value env (Some l) k = env

-- one label more
abbrev pub with_label : Option Labels → Option Constant → Option Labels
with_label (Some l) (Some c) = Some (record l { values = l.values ++ wrap_of l.of c.value ∷ [] })
with_label l c = l

-- behind the value of a case, its label stands; its statement is the second part
abbrev pub behind_label : Env → Bool → Syntax → Env
behind_label env true p = record env { labels = with_label env.labels (constant_of p) }
behind_label env false p = env

abbrev pub behind_type : Env → Form → Syntax → Env
behind_type env forms.TypeNode p = record env { declared = declared_in p }
behind_type env form p = env

-- what is visible behind a part of a node, where env is what the part leaves, k its kind, and `front` whether it is the
-- first part
unfoldable pub later : Env → Form → Bool → Syntax → Option Kind → Env
later env forms.FunctionNode front p k = behind_part env (form_of p) p
later env forms.PrototypeNode front p k = behind_prototype_part env (form_of p) p
later env forms.DeclareNode front p k = behind_type env (form_of p) p
later env forms.SwitchNode front p k = behind_value env env.labels k
later env forms.CaseNode front p k = behind_label env front p
later env form front p k = env

-- ---- on the way out: what is visible at a node behind its parts, and what the node leaves

-- what was opened or set for the parts is closed or as it was before
abbrev pub closed : Env → Env → Env
closed env inner = record inner {
  scopes = take (length env.scopes) inner.scopes;
  owner = env.owner;
  declared = env.declared;
  flags = env.flags;
  in_body = env.in_body;
  in_loop = env.in_loop;
  in_switch = env.in_switch;
}

-- a label and a statement that holds statements: the labels in front of it
abbrev pub before_labels : Env → Env → Env
before_labels env inner = record (closed env inner) { labels = env.labels }

-- the variables and arrays of a function or prototype are its own
abbrev pub without_variables : Env → Env → Env
without_variables env inner = record (closed env inner) { variables = env.variables; arrays = env.arrays }

-- what is visible at a node behind its parts, where env is visible before it and inner at the end of its parts
unfoldable pub restored : Form → Env → Env → Env
restored forms.FunctionNode env inner = without_variables env inner
restored forms.PrototypeNode env inner = without_variables env inner
restored forms.BlockNode env inner = before_labels env inner
restored forms.IfNode env inner = before_labels env inner
restored forms.WhileNode env inner = before_labels env inner
restored forms.DoNode env inner = before_labels env inner
restored forms.ForNode env inner = before_labels env inner
restored forms.SwitchNode env inner = before_labels env inner
restored forms.CaseNode env inner = before_labels env inner
restored forms.DefaultNode env inner = before_labels env inner
restored form env inner = closed env inner

-- what a node leaves, where env is visible at it behind its parts, inner at the end of them, and ks are their kinds
unfoldable pub left : Env → Env → Form → List ℕ → (first last : ℕ) → Forest → List (Option Kind) → Env
left env inner forms.FunctionNode w f l parts ks = with_function env (name_in w)
left env inner forms.PrototypeNode w f l parts ks = with_prototype env (name_in w)
left env inner forms.ParamNode w f l parts ks = with_parameter env (name_in w) l (first_type parts) (second_star parts)
left env inner forms.DeclaratorNode w f l parts ks =
    with_declarator env env.declared (declarator_in w f parts) (last_kind ks)
left env inner forms.CaseNode w f l parts ks = record env { labels = inner.labels }
left env inner forms.DefaultNode w f l parts ks = record env { labels = inner.labels }
left env inner form w f l parts ks = env

-- ---- through a tree

unfoldable mutual
  -- what is visible behind a tree
  pub behind : Env → Syntax → Env
  behind env (node form w f l parts) =
      left (restored form env (behind_parts (inside env form w) form true parts))
      (behind_parts (inside env form w) form true parts) form w f l parts
      (kinds_of (inside env form w) form true parts)

  pub behind_parts : Env → Form → Bool → Forest → Env
  behind_parts env form front none = env
  behind_parts env form front (more p ps) =
      behind_parts (later (behind env p) form front p (kind_of env p)) form false ps

  -- the kind of an expression; none of another tree
  pub kind_of : Env → Syntax → Option Kind
  kind_of env (node form w f l parts) =
      kind_step (restored form env (behind_parts (inside env form w) form true parts)) form w parts
      (kinds_of (inside env form w) form true parts)

  pub kinds_of : Env → Form → Bool → Forest → List (Option Kind)
  kinds_of env form front none = []
  kinds_of env form front (more p ps) =
      kind_of env p ∷ kinds_of (later (behind env p) form front p (kind_of env p)) form false ps

-- what is visible at the end of the parts of a tree
abbrev pub inner_of : Env → Syntax → Env
inner_of env (node form w f l parts) = behind_parts (inside env form w) form true parts

-- what is visible at a tree behind its parts; only what statements and functions declare in it can set it apart from
-- env
abbrev pub visible_at : Env → Syntax → Env
visible_at env (node form w f l parts) = restored form env (behind_parts (inside env form w) form true parts)

-- ---- nodes

-- a node, with what is visible at it and its place in its parent
pub record Node : Type 0 where
  pub visible : Env
  pub role : Role
  pub tree : Syntax

-- the number of the last token of the part before, if there is one
abbrev pub Before : Type 0
Before = Option ℕ

abbrev pub first_is_tested : Before → Role
first_is_tested None = roles.Tested
first_is_tested (Some l) = roles.Other

abbrev pub second_is_tested : Before → Role
second_is_tested None = roles.Other
second_is_tested (Some l) = roles.Tested

-- the test of a `for` stands directly behind its first part; its step does not
abbrev pub next_is_tested : Before → Syntax → Role
next_is_tested None p = roles.Other
next_is_tested (Some l) p = if nat_eq (first_of p) (suc l) then roles.Tested else roles.Other

-- the place of a part of a node
abbrev pub role_of : Form → Before → Syntax → Role
role_of forms.SimpleNode b p = roles.Whole
role_of forms.IfNode b p = first_is_tested b
role_of forms.WhileNode b p = first_is_tested b
role_of forms.SwitchNode b p = first_is_tested b
role_of forms.DoNode b p = second_is_tested b
role_of forms.ForNode b p = next_is_tested b p
role_of form b p = roles.Other

abbrev pub is_front : Before → Bool
is_front None = true
is_front (Some l) = false

-- the nodes of a tree, parts before the whole, and then others
unfoldable mutual
  pub in_order : Env → Role → Syntax → List Node → List Node
  in_order env role (node form w f l parts) others =
      parts_in_order (inside env form w) form None parts (record {
        visible = env;
        role = role;
        tree = node form w f l parts;
      } ∷ others)

  pub parts_in_order : Env → Form → Before → Forest → List Node → List Node
  parts_in_order env form b none others = others
  parts_in_order env form b (more p ps) others =
      in_order env (role_of form b p) p (parts_in_order (later (behind env p) form (is_front b) p (kind_of env p))
      form (Some (last_of p)) ps others)
