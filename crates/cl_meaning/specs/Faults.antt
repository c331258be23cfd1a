-- When a node is at fault: one condition for each number, on the node, what is visible at it, its place in its parent
-- and the kinds of its parts. And which node of a unit is the first at fault.
use Rattle.std.specs.Prelude.{◌≡◌, ℕ, ℤ, suc, zero, ◌<◌, Bool, true, false, not, ◌&&◌, ◌||◌, nat_eq, nat_le, List, []}
use Rattle.std.specs.Prelude.{◌∷◌, ◌++◌, length, Option, None, Some, ◌⊎◌, if◌then◌else◌}
use Rattle.std.specs.Str.{bytes_eq}
use Rattle.std.specs.List.{list_any}
use Rattle.std.specs.Ordering.{int_eq}
use Rattle.wg_num.specs.declared.types.IntType.{IntType}
use Rattle.wg_num.specs.declared.types.IntType.TheVariants as types
use Rattle.wg_num.specs.Wrap.{wrap_of}
use Rattle.wg_num.specs.Types.{same_type}
use Rattle.cl_model.specs.declared.program.Space.{Space}
use Rattle.cl_model.specs.declared.program.Space.TheVariants as spaces
use Rattle.cl_tree.specs.declared.tree.Form.{Form}
use Rattle.cl_tree.specs.declared.tree.Form.TheVariants as forms
use Rattle.cl_tree.specs.Syntax.{Syntax, node, Forest, first_of}
use Rattle.cl_meaning.specs.declared.types.Declared.{Declared}
use Rattle.cl_meaning.specs.declared.operators.Prefix.{Prefix}
use Rattle.cl_meaning.specs.declared.operators.Prefix.TheVariants as prefixes
use Rattle.cl_meaning.specs.declared.operators.Postfix.{Postfix}
use Rattle.cl_meaning.specs.declared.operators.Postfix.TheVariants as postfixes
use Rattle.cl_meaning.specs.declared.operators.Setting.{Setting}
use Rattle.cl_meaning.specs.Types.{is_outside_base}
use Rattle.cl_meaning.specs.Spelling.{name_in, base_in, binary_in, setting_in, prefix_in, postfix_in, intrinsic_in}
use Rattle.cl_meaning.specs.declared.constant.Constant.{Constant}
use Rattle.cl_meaning.specs.Constants.{constant_of}
use Rattle.cl_meaning.specs.declared.fault.Fault.{Fault}
use Rattle.cl_meaning.specs.declared.fault.Fault.TheVariants as faults
use Rattle.cl_meaning.specs.declared.kind.Each.TheVariants as each
use Rattle.cl_meaning.specs.declared.kind.Kind.{Kind}
use Rattle.cl_meaning.specs.declared.kind.Kind.TheVariants as kinds
use Rattle.cl_meaning.specs.declared.kind.Meaning.{Meaning}
use Rattle.cl_meaning.specs.declared.kind.Meaning.TheVariants as meanings
use Rattle.cl_meaning.specs.declared.kind.Parameter.{Parameter}
use Rattle.cl_meaning.specs.declared.kind.Parameter.TheVariants as parameters
use Rattle.cl_meaning.specs.declared.kind.Yield.{Yield}
use Rattle.cl_meaning.specs.declared.kind.Yield.TheVariants as yields
use Rattle.cl_meaning.specs.declared.kind.Role.{Role}
use Rattle.cl_meaning.specs.declared.kind.Role.TheVariants as roles
use Rattle.cl_meaning.specs.Numbers.{number_of}
use Rattle.cl_meaning.specs.Environment.{Env, Labels, Signature, is_declared, at_unit, at_outermost}
use Rattle.cl_meaning.specs.Kinds.{same_space, is_some, name_kind, binary_kind, logic_kind, choice_kind}
use Rattle.cl_meaning.specs.Kinds.{comma_kind, cast_kind, operator_kind, address_kind, element_kind, index_kind}
use Rattle.cl_meaning.specs.Kinds.{is_number, is_target, is_fixed, is_constant_memory, value_fits, root_changes}
use Rattle.cl_meaning.specs.Kinds.{all_known, Callee, defined, undefined, known, is_fence, callee_of, arity_fits}
use Rattle.cl_meaning.specs.Kinds.{call_fits, are_flags_alone, first_part, kind_step}
use Rattle.cl_meaning.specs.Declarations.{Declarator, declarator_in, is_list, initialisers, initial_values, last_kind}
use Rattle.cl_model.specs.Sizes.{product}
use Rattle.cl_meaning.specs.Declarations.{dims_of, natural, pointed_space, first_type, second_star}
use Rattle.cl_meaning.specs.Declarations.{signature_in, listed, form_of, word_of}
use Rattle.cl_meaning.specs.Visible.{Node, inside, kinds_of, visible_at}

-- ---- what a unit is judged by

-- a call of a function of the unit: the number of the function in which it stands and of the one that it calls
pub record Call : Type 0 where
  pub caller : ℕ
  pub called : ℕ

-- the name of the kernel that is asked for, the calls of functions that the unit defines, and the names that are called
-- of functions that it does not define
pub record Asked : Type 0 where
  pub kernel : List ℕ
  pub calls : List Call
  pub missing : List (List ℕ)

-- the function `from` leads to `to` by at most so many calls
unfoldable pub leads : ℕ → List Call → (from to : ℕ) → Bool
leads zero calls from to = nat_eq from to
leads (suc n) calls from to =
    nat_eq from to || list_any (λ (c : Call). nat_eq c.caller from && leads n calls c.called to) calls

abbrev pub leads_back : List Call → (from to : ℕ) → Bool
leads_back calls from to = leads (length calls) calls from to

abbrev pub is_called : List (List ℕ) → List ℕ → Bool
is_called missing name = list_any (λ q. bytes_eq q name) missing

-- ---- a node that is looked at

pub record Looked : Type 0 where
  pub env : Env
  pub role : Role
  pub form : Form
  pub word : List ℕ
  pub first : ℕ
  pub parts : Forest
  pub kinds' : List (Option Kind)

-- ---- where kinds are known

abbrev pub given : {A : Type 0} → Option A → (A → Bool) → Bool
given None test = false
given (Some a) test = test a

abbrev pub given_pair : List (Option Kind) → (Kind → Kind → Bool) → Bool
given_pair (a ∷ b ∷ []) test = given a (λ x. given b (test x))
given_pair ks test = false

abbrev pub given_first : List (Option Kind) → (Kind → Bool) → Bool
given_first [] test = false
given_first (a ∷ as') test = given a test

-- a table of operands that has no entry
abbrev pub lacks_pair : (Kind → Kind → Option Kind) → List (Option Kind) → Bool
lacks_pair g ks = given_pair ks (λ a b. not (is_some (g a b)))

abbrev pub lacks : (Kind → Option Kind) → List (Option Kind) → Bool
lacks g ks = given_first ks (λ a. not (is_some (g a)))

-- ---- E401: a name that is not visible, as a variable or array or as a function

abbrev pub is_variable : Option Meaning → Bool
is_variable (Some (meanings.Scalar t c x)) = true
is_variable (Some (meanings.Pointer s e c r fixed x)) = true
is_variable (Some (meanings.Object s e c r)) = true
is_variable (Some (meanings.Array s e c r i)) = true
is_variable m = false

abbrev pub unknown_name : Looked → Form → Bool
unknown_name n forms.VariableNode = not (is_some (name_kind n.env (name_in n.word)))
unknown_name n forms.CallNode = not (is_some (callee_of n.env (name_in n.word)))
unknown_name n form = false

-- ---- E402: a name that is declared already

-- a name of the unit that is known without a declaration
abbrev pub is_known_name : Env → List ℕ → Bool
is_known_name env name = at_unit env && is_some (intrinsic_in name)

abbrev pub declared_twice : Looked → Form → Bool
declared_twice n forms.DeclaratorNode = is_declared n.env (name_in n.word) || is_known_name n.env (name_in n.word)
declared_twice n forms.ParamNode = n.env.owner.defining && is_declared n.env (name_in n.word)
declared_twice n forms.FunctionNode = is_declared n.env (name_in n.word) || is_known_name n.env (name_in n.word)
declared_twice n form = false

-- ---- E403: operands of kinds that do not fit

abbrev pub yields_nothing : Callee → Bool
yields_nothing (defined number g) = is_nothing g.result
  where
    is_nothing : Yield → Bool
    is_nothing yields.Nothing = true
    is_nothing y = false
yields_nothing undefined = false
yields_nothing (known i) = is_fence i

abbrev pub is_whole : Role → Bool
is_whole roles.Whole = true
is_whole r = false

abbrev pub is_tested : Role → Bool
is_tested roles.Tested = true
is_tested r = false

-- a call without a value elsewhere than as the whole of a statement, with as many arguments as are taken
abbrev pub valueless : Looked → Option Callee → Bool
valueless n None = false
valueless n (Some c) =
    given (all_known n.kinds') (λ as'. arity_fits c (length as')) && (yields_nothing c && not (is_whole n.role))

abbrev pub prefix_misfits : List (Option Kind) → Prefix → Bool
prefix_misfits ks (prefixes.Operator op) = lacks (operator_kind op) ks
prefix_misfits ks prefixes.Address = lacks address_kind ks
prefix_misfits ks prefixes.Content = lacks element_kind ks
prefix_misfits ks p = false

abbrev pub postfix_misfits : List (Option Kind) → Postfix → Bool
postfix_misfits ks postfixes.Index = lacks_pair index_kind ks
postfix_misfits ks p = false

-- a value that does not fit its target
abbrev pub setting_misfits : List (Option Kind) → Setting → Bool
setting_misfits ks s = given_pair ks (λ a b. is_target a && not (value_fits s a b))

-- a pointer with which a pointer variable is initialised
abbrev pub points_as : Declared → Kind → Bool
points_as d (kinds.Pointer s e c r each.Element p) = same_space s (pointed_space d) && same_type e d.of
points_as d a = false

-- an array of pointers; a list for a scalar or a pointer, or another initialiser for an array; a value of another kind
abbrev pub declarator_misfits : Option Declared → Declarator → Option Kind → Bool
declarator_misfits None x k = false
declarator_misfits (Some d) x k = by_star x.star
  where
    of_scalar : Declared → Declarator → Option Kind → Bool
    of_scalar d x k = is_list x.init || (is_some x.init && given k (λ a. not (is_number a)))

    of_pointer : Declared → Declarator → Option Kind → Bool
    of_pointer d x k = is_list x.init || (is_some x.init && given k (λ a. not (points_as d a)))

    of_array : Declarator → Option Kind → Bool
    of_array x k = is_some x.init && (not (is_list x.init) || given k (λ a. not (is_number a)))

    by_star : Option Bool → Bool
    by_star (Some fixed) = if nat_eq x.dimensions 0 then of_pointer d x k else true
    by_star None = if nat_eq x.dimensions 0 then of_scalar d x k else of_array x k

abbrev pub choice_misfits : List (Option Kind) → Bool
choice_misfits (c ∷ a ∷ b ∷ []) = given c (λ x. given a (λ y. given b (λ z. not (is_some (choice_kind x y z)))))
choice_misfits ks = false

abbrev pub cast_misfits : Forest → List (Option Kind) → Bool
cast_misfits parts (t ∷ ks) = given (first_type parts) (λ d. lacks (cast_kind (Some d)) ks)
cast_misfits parts ks = false

unfoldable pub misfits : Looked → Form → Bool
misfits n forms.ExprNode = lacks_pair comma_kind n.kinds'
misfits n forms.AssignNode = given (setting_in n.word) (setting_misfits n.kinds')
misfits n forms.CondNode = choice_misfits n.kinds'
misfits n forms.OrNode = lacks_pair logic_kind n.kinds'
misfits n forms.AndNode = lacks_pair logic_kind n.kinds'
misfits n forms.BorNode = given (binary_in n.word) (λ op. lacks_pair (binary_kind op) n.kinds')
misfits n forms.BxorNode = given (binary_in n.word) (λ op. lacks_pair (binary_kind op) n.kinds')
misfits n forms.BandNode = given (binary_in n.word) (λ op. lacks_pair (binary_kind op) n.kinds')
misfits n forms.EqualNode = given (binary_in n.word) (λ op. lacks_pair (binary_kind op) n.kinds')
misfits n forms.OrderNode = given (binary_in n.word) (λ op. lacks_pair (binary_kind op) n.kinds')
misfits n forms.ShiftNode = given (binary_in n.word) (λ op. lacks_pair (binary_kind op) n.kinds')
misfits n forms.SumNode = given (binary_in n.word) (λ op. lacks_pair (binary_kind op) n.kinds')
misfits n forms.TermNode = given (binary_in n.word) (λ op. lacks_pair (binary_kind op) n.kinds')
misfits n forms.CastNode = cast_misfits n.parts n.kinds'
misfits n forms.UnaryNode = given (prefix_in n.word) (prefix_misfits n.kinds')
misfits n forms.PostfixNode = given (postfix_in n.word) (postfix_misfits n.kinds')
misfits n forms.CallNode = valueless n (callee_of n.env (name_in n.word))
misfits n forms.DeclaratorNode =
    declarator_misfits n.env.declared (declarator_in n.word n.first n.parts) (last_kind n.kinds')
misfits n form = false

-- a value that a statement tests, and that is no number
abbrev pub tested_misfits : Looked → Bool
tested_misfits n = is_tested n.role && given (kind_step n.env n.form n.word n.parts n.kinds') (λ a. not (is_number a))

-- ---- E404 and E405: the arguments of a call

abbrev pub miscounted : Looked → Form → Bool
miscounted n forms.CallNode = given (callee_of n.env (name_in n.word)) (λ c. not (arity_fits c (length n.kinds')))
miscounted n form = false

abbrev pub mispassed : Looked → Form → Bool
mispassed n forms.CallNode = given (callee_of n.env (name_in n.word))
    (λ c. given (all_known n.kinds') (λ as'. arity_fits c (length as') && not (call_fits c as')))
mispassed n form = false

-- ---- E406 and E407: what is assigned, or counted up or down

abbrev pub unassignable : Kind → Bool
unassignable a = not (is_target a) || (is_fixed a && not (is_constant_memory a))

-- whether the node assigns to its first part: then the test is of that part
abbrev pub prefix_assigns : Prefix → Bool
prefix_assigns (prefixes.Step op) = true
prefix_assigns p = false

abbrev pub postfix_assigns : Postfix → Bool
postfix_assigns (postfixes.Step op) = true
postfix_assigns p = false

abbrev pub of_target : Looked → (Kind → Bool) → Form → Bool
of_target n test forms.AssignNode = given_pair n.kinds' (λ a b. test a)
of_target n test forms.UnaryNode = given (prefix_in n.word) prefix_assigns && given_first n.kinds' test
of_target n test forms.PostfixNode = given (postfix_in n.word) postfix_assigns && given_first n.kinds' test
of_target n test form = false

-- ---- E408: a type outside the profile

abbrev pub outside_type : Looked → Form → Bool
outside_type n forms.TypeNode = is_outside_base (base_in n.word)
outside_type n form = false

-- ---- E409 and E410: where variables and arrays are declared

abbrev pub is_misplaced : Looked → Declarator → Option Space → Bool
is_misplaced n x (Some spaces.Local) = not (n.env.owner.kernel && at_outermost n.env) || is_some x.init
is_misplaced n x (Some spaces.Global) = not (at_unit n.env)
is_misplaced n x (Some spaces.Constant) = not (at_unit n.env)
is_misplaced n x s = false

abbrev pub local_misplaced : Looked → Form → Bool
local_misplaced n forms.DeclaratorNode =
    given n.env.declared (λ d. not (is_some (declarator_in n.word n.first n.parts).star) &&
    is_misplaced n (declarator_in n.word n.first n.parts) d.space)
local_misplaced n form = false

abbrev pub is_constant_space : Option Space → Bool
is_constant_space (Some s) = same_space s spaces.Constant
is_constant_space None = false

abbrev pub all_constant : List Syntax → Bool
all_constant [] = true
all_constant (t ∷ ts) = is_some (constant_of t) && all_constant ts

abbrev pub no_program_variable : Declared → Declarator → Bool
no_program_variable d x = not (is_constant_space d.space) ||
    (is_some x.star || (not (is_some x.init) || not (all_constant (initial_values x.init))))

abbrev pub program_variable : Looked → Form → Bool
program_variable n forms.DeclaratorNode =
    at_unit n.env && given n.env.declared (λ d. no_program_variable d (declarator_in n.word n.first n.parts))
program_variable n form = false

-- ---- E411: the parameters and the result of a kernel

abbrev pub is_bool : IntType → Bool
is_bool t = same_type t types.Bool

abbrev pub is_private : Space → Bool
is_private s = same_space s spaces.Private

abbrev pub no_kernel_parameter : Declared → Option Bool → Bool
no_kernel_parameter d star = is_bool d.of || (d.size || (is_some star && is_private (pointed_space d)))

abbrev pub gives_something : Yield → Bool
gives_something yields.Nothing = false
gives_something y = true

abbrev pub no_kernel_function : Signature → Bool
no_kernel_function g = g.kernel && gives_something g.result

abbrev pub kernel_signature : Looked → Form → Bool
kernel_signature n forms.ParamNode =
    n.env.owner.kernel && given (first_type n.parts) (λ d. no_kernel_parameter d (second_star n.parts))
kernel_signature n forms.FunctionNode = no_kernel_function (signature_in n.word n.parts)
kernel_signature n form = false

-- ---- E412: a call that leads back

-- the function that is called leads back to the one in which the call stands
abbrev pub leads_from : List Call → ℕ → Callee → Bool
leads_from calls to (defined n g) = leads_back calls n to
leads_from calls to undefined = false
leads_from calls to (known i) = false

abbrev pub recursion : Asked → Looked → Form → Bool
recursion asked n forms.CallNode = given (callee_of n.env (name_in n.word)) (leads_from asked.calls n.env.owner.number)
recursion asked n form = false

-- ---- E413: the root of a pointer variable

abbrev pub pointer_root : Looked → Form → Bool
pointer_root n forms.DeclaratorNode =
    is_some (declarator_in n.word n.first n.parts).star &&
    (nat_eq (declarator_in n.word n.first n.parts).dimensions 0 &&
    not (is_some (declarator_in n.word n.first n.parts).init))
pointer_root n forms.AssignNode =
    given (setting_in n.word) (λ s. given_pair n.kinds' (λ a b. is_target a && root_changes s a b))
pointer_root n form = false

-- ---- E414: lengths and sizes

abbrev pub too_many_initialisers : Declarator → Option (List ℕ) → Bool
too_many_initialisers x None = true
too_many_initialisers x (Some dims) = not (nat_le (length (initialisers x.init)) (product dims))

abbrev pub is_positive : Option Constant → Bool
is_positive None = false
is_positive (Some c) = nat_le 1 (natural c.value)

abbrev pub all_positive : List Syntax → Bool
all_positive [] = true
all_positive (t ∷ ts) = is_positive (constant_of t) && all_positive ts

abbrev pub array_length : Looked → Form → Bool
array_length n forms.DeclaratorNode =
    nat_le 1 (declarator_in n.word n.first n.parts).dimensions &&
    too_many_initialisers (declarator_in n.word n.first n.parts) (dims_of (declarator_in n.word n.first n.parts))
array_length n forms.AttributeNode = not (all_positive (listed n.parts))
array_length n form = false

-- ---- E415 and E416: labels and exits

abbrev pub is_none : {A : Type 0} → Option A → Bool
is_none a = not (is_some a)

abbrev pub misplaced : Looked → Form → Bool
misplaced n forms.BreakNode = not (n.env.in_loop || n.env.in_switch)
misplaced n forms.ContinueNode = not n.env.in_loop
misplaced n forms.CaseNode = is_none n.env.labels
misplaced n forms.DefaultNode = is_none n.env.labels
misplaced n form = false

abbrev pub is_among : ℤ → List ℤ → Bool
is_among v [] = false
is_among v (u ∷ us) = int_eq v u || is_among v us

abbrev pub is_repeated : Option Labels → Constant → Bool
is_repeated None c = false
is_repeated (Some l) c = is_among (wrap_of l.of c.value) l.values

abbrev pub case_value : Looked → Form → Bool
case_value n forms.CaseNode = not (is_some (constant_of (first_part n.parts))) ||
    given (constant_of (first_part n.parts)) (is_repeated n.env.labels)
case_value n forms.DefaultNode = given n.env.labels (λ l. l.other)
case_value n form = false

-- ---- E417: the value of a return

abbrev pub return_misfits : Yield → List (Option Kind) → Bool
return_misfits yields.Nothing ks = not (nat_eq (length ks) 0)
return_misfits y [] = true
return_misfits y (k ∷ ks) = given k (λ a. not (is_number a))

abbrev pub return_fit : Looked → Form → Bool
return_fit n forms.ReturnNode = return_misfits n.env.owner.result n.kinds'
return_fit n form = false

-- ---- E418: the argument of a fence

abbrev pub is_fence_call : Callee → Bool
is_fence_call (known i) = is_fence i
is_fence_call c = false

abbrev pub barrier_flags : Looked → Form → Bool
barrier_flags n forms.CallNode =
    given (callee_of n.env (name_in n.word)) (λ c. is_fence_call c &&
    (arity_fits c (length n.kinds') && not (are_flags_alone n.parts)))
barrier_flags n form = false

-- ---- E422: the kernel that is asked for

abbrev pub defines_kernel : List ℕ → List Signature → Bool
defines_kernel name [] = false
defines_kernel name (g ∷ gs) = (bytes_eq g.name name && g.kernel) || defines_kernel name gs

abbrev pub no_such_kernel : Asked → Looked → Form → Bool
no_such_kernel asked n forms.UnitNode = not (defines_kernel asked.kernel n.env.functions)
no_such_kernel asked n form = false

-- ---- E424: a prototype and its definition

abbrev pub same_yield : Yield → Yield → Bool
same_yield yields.Nothing yields.Nothing = true
same_yield (yields.Number t) (yields.Number u) = same_type t u
same_yield yields.Outside yields.Outside = true
same_yield a b = false

abbrev pub same_truth : Bool → Bool → Bool
same_truth true b = b
same_truth false b = not b

abbrev pub same_parameter : Parameter → Parameter → Bool
same_parameter (parameters.Number t) (parameters.Number u) = same_type t u
same_parameter (parameters.Pointer s e c) (parameters.Pointer s' e' c') =
    same_space s s' && (same_type e e' && same_truth c c')
same_parameter parameters.Outside parameters.Outside = true
same_parameter a b = false

abbrev pub same_parameters : List Parameter → List Parameter → Bool
same_parameters [] [] = true
same_parameters (p ∷ ps) (q ∷ qs) = same_parameter p q && same_parameters ps qs
same_parameters ps qs = false

abbrev pub same_signature : Signature → Signature → Bool
same_signature g h = same_yield g.result h.result && same_parameters g.parameters h.parameters

abbrev pub signature_of : List ℕ → List Signature → Option Signature
signature_of name [] = None
signature_of name (g ∷ gs) = if bytes_eq g.name name then Some g else signature_of name gs

abbrev pub prototype_misfits : Asked → Signature → Option Signature → Bool
prototype_misfits asked p None = is_called asked.missing p.name
prototype_misfits asked p (Some g) = not (same_signature p g)

abbrev pub prototype_match : Asked → Looked → Form → Bool
prototype_match asked n forms.PrototypeNode =
    prototype_misfits asked (signature_in n.word n.parts) (signature_of (name_in n.word) n.env.functions)
prototype_match asked n form = false

-- ---- all of them

-- whether that fault stands at the node; those of the whole kernel are looked at last, elsewhere
abbrev pub at_fault : Asked → Looked → Fault → Bool
at_fault asked n faults.UnknownName = unknown_name n n.form
at_fault asked n faults.DeclaredTwice = declared_twice n n.form
at_fault asked n faults.OperandTypes = misfits n n.form || tested_misfits n
at_fault asked n faults.ArgumentCount = miscounted n n.form
at_fault asked n faults.ArgumentType = mispassed n n.form
at_fault asked n faults.NotAssignable = of_target n unassignable n.form
at_fault asked n faults.ConstantWritten = of_target n is_constant_memory n.form
at_fault asked n faults.OutsideType = outside_type n n.form
at_fault asked n faults.LocalMisplaced = local_misplaced n n.form
at_fault asked n faults.ProgramVariable = program_variable n n.form
at_fault asked n faults.KernelSignature = kernel_signature n n.form
at_fault asked n faults.Recursion = recursion asked n n.form
at_fault asked n faults.PointerRoot = pointer_root n n.form
at_fault asked n faults.ArrayLength = array_length n n.form
at_fault asked n faults.Misplaced = misplaced n n.form
at_fault asked n faults.CaseValue = case_value n n.form
at_fault asked n faults.ReturnFit = return_fit n n.form
at_fault asked n faults.BarrierFlags = barrier_flags n n.form
at_fault asked n faults.KernelTooLarge = false
at_fault asked n faults.PrivateMemory = false
at_fault asked n faults.BarriersTooDeep = false
at_fault asked n faults.NoSuchKernel = no_such_kernel asked n n.form
at_fault asked n faults.LocalMemory = false
at_fault asked n faults.PrototypeMatch = prototype_match asked n n.form

-- a node with the kinds of its parts, and what is visible at it behind them
abbrev pub looked_at : Env → Role → Syntax → Looked
looked_at env role (node form w f l parts) = record {
  env = visible_at env (node form w f l parts);
  role = role;
  form = form;
  word = w;
  first = f;
  parts = parts;
  kinds' = kinds_of (inside env form w) form true parts;
}

abbrev pub looked : Node → Looked
looked n = looked_at n.visible n.role n.tree

-- the fault stands at the node
abbrev pub AtFault : Asked → Node → Fault → Type 0
AtFault asked n k = at_fault asked (looked n) k ≡ true

-- no fault stands at the node
abbrev pub Sound : Asked → Node → Type 0
Sound asked n = (k : Fault) → at_fault asked (looked n) k ≡ false

-- the token at which a fault is reported
abbrev pub token_of : ℕ → Fault → ℕ → ℕ
token_of end faults.NoSuchKernel first = end
token_of end k first = first

-- The fault stands at the node, no fault of a smaller number does, and the token is the node's first; for a unit
-- without the kernel it is the end of the source.
pub record Stands (asked : Asked) (end : ℕ) (n : Node) (k : Fault) (token : ℕ) : Type 0 where
  pub at : AtFault asked n k
  pub least : (j : Fault) → number_of j < number_of k → at_fault asked (looked n) j ≡ false
  pub place : token ≡ token_of end k (first_of n.tree)

-- no node is at fault
abbrev pub AllSound : Asked → List Node → Type 0
AllSound asked [] = Unit {0}
AllSound asked (n ∷ ns) = Sound asked n × AllSound asked ns

-- the first node at fault, with the least number there
abbrev pub FirstFault : Asked → ℕ → List Node → Fault → ℕ → Type 0
FirstFault asked end [] k token = ⊥
FirstFault asked end (n ∷ ns) k token = Stands asked end n k token ⊎ (Sound asked n × FirstFault asked end ns k token)

-- ---- the calls of a unit

abbrev pub call_in : Env → Option Callee → List Call
call_in env (Some (defined n g)) = record { caller = env.owner.number; called = n } ∷ []
call_in env c = []

abbrev pub missing_in : List ℕ → Option Callee → List (List ℕ)
missing_in name (Some undefined) = name ∷ []
missing_in name c = []

abbrev pub call_at : Node → Form → List ℕ → List Call
call_at n forms.CallNode w = call_in (visible_at n.visible n.tree) (callee_of (visible_at n.visible n.tree) (name_in w))
call_at n form w = []

abbrev pub missing_at : Node → Form → List ℕ → List (List ℕ)
missing_at n forms.CallNode w = missing_in (name_in w) (callee_of (visible_at n.visible n.tree) (name_in w))
missing_at n form w = []

-- the calls of functions of the unit, in the order of the nodes, by the names that are visible there
abbrev pub calls_of : List Node → List Call
calls_of [] = []
calls_of (n ∷ ns) = call_at n (form_of n.tree) (word_of n.tree) ++ calls_of ns

abbrev pub missing_of : List Node → List (List ℕ)
missing_of [] = []
missing_of (n ∷ ns) = missing_at n (form_of n.tree) (word_of n.tree) ++ missing_of ns
