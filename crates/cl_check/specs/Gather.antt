-- The calls of a tree: what its nodes give, in their order.
use Rattle.std.specs.Prelude.{◌≡◌, ℕ, Bool, true, false, List, [], ◌++◌, Option}
use Rattle.cl_tree.specs.declared.tree.Form.{Form}
use Rattle.cl_tree.specs.declared.tree.Form.TheVariants as forms
use Rattle.cl_tree.specs.Syntax.{Syntax, node, Forest, none, more}
use Rattle.cl_meaning.specs.Spelling.{name_in}
use Rattle.cl_meaning.specs.Kinds.{callee_of}
use Rattle.cl_meaning.specs.declared.kind.Kind.{Kind}
use Rattle.cl_meaning.specs.declared.kind.Role.TheVariants as roles
use Rattle.cl_meaning.specs.Environment.{Env}
use Rattle.cl_meaning.specs.Declarations.{form_of, word_of}
use Rattle.cl_meaning.specs.Visible.{Node, inside, later, behind, behind_parts, kind_of, kinds_of}
use Rattle.cl_meaning.specs.Faults.{Call, call_at, missing_at, call_in, missing_in}

-- a node, whatever its place in its parent
abbrev pub node_at : Env → Syntax → Node
node_at env t = record { visible = env; role = roles.Other; tree = t }

abbrev pub own_calls : Node → List Call
own_calls n = call_at n (form_of n.tree) (word_of n.tree)

abbrev pub own_missing : Node → List (List ℕ)
own_missing n = missing_at n (form_of n.tree) (word_of n.tree)

unfoldable mutual
  -- what the nodes of a tree give, parts before the whole
  pub given_in : {A : Type 0} → (Node → List A) → Env → Syntax → List A
  given_in g env (node form w f l parts) =
      given_among g (inside env form w) form true parts ++ g (node_at env (node form w f l parts))

  pub given_among : {A : Type 0} → (Node → List A) → Env → Form → Bool → Forest → List A
  given_among g env form front none = []
  given_among g env form front (more p ps) =
      given_in g env p ++ given_among g (later (behind env p) form front p (kind_of env p)) form false ps

-- some parts are gathered: their kinds and what they give, in front of the parts that are left
pub record GatheredAlong (form : Form) (env0 : Env) (parts0 : Forest) (env : Env) (front : Bool)
    (ks : List (Option Kind)) (calls0 calls : List Call) (missing0 missing : List (List ℕ)) (parts : Forest) : Type 0
  where
    pub environment : behind_parts env0 form true parts0 ≡ behind_parts env form front parts
    pub kinds' : kinds_of env0 form true parts0 ≡ ks ++ kinds_of env form front parts
    pub calls' : calls0 ++ given_among own_calls env0 form true parts0 ≡ calls ++ given_among own_calls env form front
        parts
    pub missing' : missing0 ++ given_among own_missing env0 form true parts0 ≡ missing ++
        given_among own_missing env form front parts

-- a tree is gathered
pub record Gathered (env : Env) (t : Syntax) (calls0 : List Call) (missing0 : List (List ℕ)) (env' : Env)
    (k : Option Kind) (calls : List Call) (missing : List (List ℕ)) : Type 0 where
  pub environment : env' ≡ behind env t
  pub kind : k ≡ kind_of env t
  pub calls' : calls ≡ calls0 ++ given_in own_calls env t
  pub missing' : missing ≡ missing0 ++ given_in own_missing env t

-- what a node of that production gives, where env is visible at it
abbrev pub calls_by : Env → Form → List ℕ → List Call
calls_by env forms.CallNode w = call_in env (callee_of env (name_in w))
calls_by env form w = []

abbrev pub missing_by : Env → Form → List ℕ → List (List ℕ)
missing_by env forms.CallNode w = missing_in (name_in w) (callee_of env (name_in w))
missing_by env form w = []
