-- The kind of an expression from the kinds of its parts: none where the expression or a part of it is at fault.
use Rattle.std.specs.Prelude.{ℕ, Bool, true, false, not, ◌&&◌, ◌||◌, nat_eq, List, [], ◌∷◌, length, slice_get, Option}
use Rattle.std.specs.Prelude.{None, Some, if◌then◌else◌}
use Rattle.wg_num.specs.declared.types.IntType.{IntType}
use Rattle.wg_num.specs.declared.types.IntType.TheVariants as types
use Rattle.wg_num.specs.declared.types.Bin.{Bin}
use Rattle.wg_num.specs.declared.types.Bin.TheVariants as bins
use Rattle.wg_num.specs.declared.types.Un.{Un}
use Rattle.wg_num.specs.Builtins.{result_type}
use Rattle.wg_num.specs.Types.{same_type}
use Rattle.cl_model.specs.declared.program.Query.{Query}
use Rattle.cl_model.specs.declared.program.Query.TheVariants as queries
use Rattle.cl_model.specs.declared.program.Root.{Root}
use Rattle.cl_model.specs.declared.program.Root.TheVariants as roots
use Rattle.cl_model.specs.declared.program.Space.{Space}
use Rattle.cl_model.specs.declared.program.Space.TheVariants as spaces
use Rattle.cl_model.specs.Valid.{unary_type, binary_type, arity_of, query_type}
use Rattle.cl_tree.specs.declared.tree.Form.{Form}
use Rattle.cl_tree.specs.declared.tree.Form.TheVariants as forms
use Rattle.cl_tree.specs.Syntax.{Syntax, node, Forest, none, more}
use Rattle.cl_meaning.specs.declared.types.Declared.{Declared}
use Rattle.cl_meaning.specs.declared.operators.Prefix.{Prefix}
use Rattle.cl_meaning.specs.declared.operators.Prefix.TheVariants as prefixes
use Rattle.cl_meaning.specs.declared.operators.Postfix.{Postfix}
use Rattle.cl_meaning.specs.declared.operators.Postfix.TheVariants as postfixes
use Rattle.cl_meaning.specs.declared.operators.Setting.{Setting}
use Rattle.cl_meaning.specs.declared.operators.Setting.TheVariants as settings
use Rattle.cl_meaning.specs.declared.names.Intrinsic.{Intrinsic}
use Rattle.cl_meaning.specs.declared.names.Intrinsic.TheVariants as intrinsics
use Rattle.cl_meaning.specs.declared.names.Flag.{Flag}
use Rattle.cl_meaning.specs.declared.names.Flag.TheVariants as flags
use Rattle.cl_meaning.specs.Spelling.{name_in, declared_in, binary_in, setting_in, prefix_in, postfix_in}
use Rattle.cl_meaning.specs.Spelling.{intrinsic_in, flag_in, literal_in}
use Rattle.cl_meaning.specs.Conversions.{promoted, common, operand_type}
use Rattle.cl_meaning.specs.declared.kind.Each.TheVariants as each
use Rattle.cl_meaning.specs.declared.kind.Reach.TheVariants as reach
use Rattle.cl_meaning.specs.declared.kind.Kind.{Kind}
use Rattle.cl_meaning.specs.declared.kind.Kind.TheVariants as kinds
use Rattle.cl_meaning.specs.declared.kind.Meaning.{Meaning}
use Rattle.cl_meaning.specs.declared.kind.Meaning.TheVariants as meanings
use Rattle.cl_meaning.specs.declared.kind.Parameter.{Parameter}
use Rattle.cl_meaning.specs.declared.kind.Parameter.TheVariants as parameters
use Rattle.cl_meaning.specs.declared.kind.Yield.{Yield}
use Rattle.cl_meaning.specs.declared.kind.Yield.TheVariants as yields
use Rattle.cl_meaning.specs.Environment.{Env, Signature, meaning_of}

-- ---- equal spaces and roots

abbrev pub same_space : Space → Space → Bool
same_space spaces.Global spaces.Global = true
same_space spaces.Constant spaces.Constant = true
same_space spaces.Local spaces.Local = true
same_space spaces.Private spaces.Private = true
same_space _ _ = false

abbrev pub same_root : Root → Root → Bool
same_root (roots.Param m) (roots.Param n) = nat_eq m n
same_root (roots.Constant m) (roots.Constant n) = nat_eq m n
same_root (roots.Local m) (roots.Local n) = nat_eq m n
same_root (roots.Private m) (roots.Private n) = nat_eq m n
same_root _ _ = false

abbrev pub is_constant : Space → Bool
is_constant s = same_space s spaces.Constant

-- ---- where kinds are known

abbrev pub on_one : {A B : Type 0} → Option A → (A → Option B) → Option B
on_one None g = None
on_one (Some a) g = g a

abbrev pub on_both : {A B C : Type 0} → Option A → Option B → (A → B → Option C) → Option C
on_both a b g = on_one a (λ x. on_one b (g x))

-- a number that is no more than its value
abbrev pub number : IntType → Kind
number t = kinds.Number t reach.Value

-- ---- names

abbrev pub kind_of_meaning : Meaning → Option Kind
kind_of_meaning (meanings.Scalar t c x) = Some (kinds.Number t (reach.Variable c))
kind_of_meaning (meanings.Pointer s e c r fixed x) = Some (kinds.Pointer s e c r each.Element (reach.Variable fixed))
kind_of_meaning (meanings.Object s e c r) = Some (kinds.Number e (reach.Object s c))
kind_of_meaning (meanings.Array s e c r i) = Some (kinds.Pointer s e c r i reach.Value)
kind_of_meaning (meanings.Function n) = None
kind_of_meaning meanings.Undefined = None
kind_of_meaning meanings.Kernel = None

abbrev pub is_some : {A : Type 0} → Option A → Bool
is_some None = false
is_some (Some a) = true

-- whether the name is one of the two that are known in the argument of a fence
abbrev pub is_flag : Env → List ℕ → Bool
is_flag env name = env.flags && is_some (flag_in name)

abbrev pub name_kind : Env → List ℕ → Option Kind
name_kind env name = if is_flag env name then Some (number types.Uint) else on_one (meaning_of env name) kind_of_meaning

-- ---- operators

-- numbers; a pointer and a number added, in either order; a number taken from a pointer
abbrev pub binary_kind : Bin → Kind → Kind → Option Kind
binary_kind op (kinds.Number t p) (kinds.Number u q) = Some (number (binary_type op (operand_type op t u)))
binary_kind bins.Add (kinds.Pointer s e c r each.Element p) (kinds.Number u q) =
    Some (kinds.Pointer s e c r each.Element reach.Value)
binary_kind bins.Add (kinds.Number t p) (kinds.Pointer s e c r each.Element q) =
    Some (kinds.Pointer s e c r each.Element reach.Value)
binary_kind bins.Sub (kinds.Pointer s e c r each.Element p) (kinds.Number u q) =
    Some (kinds.Pointer s e c r each.Element reach.Value)
binary_kind op a b = None

-- && and ||
abbrev pub logic_kind : Kind → Kind → Option Kind
logic_kind (kinds.Number t p) (kinds.Number u q) = Some (number types.Int)
logic_kind a b = None

-- the two arms of ?: behind a number
abbrev pub choice_kind : Kind → Kind → Kind → Option Kind
choice_kind (kinds.Number c p) (kinds.Number t q) (kinds.Number u r) = Some (number (common t u))
choice_kind c a b = None

abbrev pub is_number : Kind → Bool
is_number (kinds.Number t p) = true
is_number a = false

-- an integer or a pointer, and no array of more than one dimension
abbrev pub is_scalar : Kind → Bool
is_scalar (kinds.Number t p) = true
is_scalar (kinds.Pointer s e c r each.Element p) = true
is_scalar a = false

-- the kind without what it reaches
abbrev pub value_kind : Kind → Kind
value_kind (kinds.Number t p) = kinds.Number t reach.Value
value_kind (kinds.Pointer s e c r i p) = kinds.Pointer s e c r i reach.Value
value_kind kinds.Nothing = kinds.Nothing

-- a comma
abbrev pub comma_kind : Kind → Kind → Option Kind
comma_kind a b = if is_scalar a && is_scalar b then Some (value_kind b) else None

abbrev pub cast_kind : Option Declared → Kind → Option Kind
cast_kind (Some d) (kinds.Number t p) = Some (number d.of)
cast_kind d a = None

-- ---- elements

-- what indexing an array or pointer reaches
abbrev pub element_kind : Kind → Option Kind
element_kind (kinds.Pointer s e c r each.Element p) = Some (kinds.Number e (reach.Element s c r))
element_kind (kinds.Pointer s e c r (each.Row n) p) = Some (kinds.Pointer s e c r each.Element reach.Value)
element_kind (kinds.Pointer s e c r (each.Plane m n) p) = Some (kinds.Pointer s e c r (each.Row n) reach.Value)
element_kind a = None

abbrev pub index_kind : Kind → Kind → Option Kind
index_kind a (kinds.Number u q) = element_kind a
index_kind a b = None

-- & of an indexed element
abbrev pub address_kind : Kind → Option Kind
address_kind (kinds.Number e (reach.Element s c r)) = Some (kinds.Pointer s e c r each.Element reach.Value)
address_kind a = None

-- ---- assignments

-- a scalar variable, a pointer variable or an element
abbrev pub is_target : Kind → Bool
is_target (kinds.Number t reach.Value) = false
is_target (kinds.Number t p) = true
is_target (kinds.Pointer s e c r i (reach.Variable fixed)) = true
is_target a = false

-- an element of constant memory
abbrev pub is_constant_memory : Kind → Bool
is_constant_memory (kinds.Number t (reach.Object s c)) = is_constant s
is_constant_memory (kinds.Number t (reach.Element s c r)) = is_constant s
is_constant_memory a = false

-- a target that is const
abbrev pub is_fixed : Kind → Bool
is_fixed (kinds.Number t (reach.Variable c)) = c
is_fixed (kinds.Number t (reach.Object s c)) = c
is_fixed (kinds.Number t (reach.Element s c r)) = c
is_fixed (kinds.Pointer s e c r i (reach.Variable fixed)) = fixed
is_fixed a = false

-- the target may be assigned
abbrev pub assignable : Kind → Bool
assignable a = is_target a && not (is_fixed a || is_constant_memory a)

-- whether the value fits the target, its root aside
abbrev pub value_fits : Setting → Kind → Kind → Bool
value_fits s (kinds.Number t p) (kinds.Number u q) = true
value_fits settings.Plain (kinds.Pointer s e c r i p) (kinds.Pointer s' e' c' r' each.Element q) =
    same_space s s' && same_type e e'
value_fits (settings.With bins.Add) (kinds.Pointer s e c r i p) (kinds.Number u q) = true
value_fits (settings.With bins.Sub) (kinds.Pointer s e c r i p) (kinds.Number u q) = true
value_fits s a b = false

-- a pointer of another root
abbrev pub root_changes : Setting → Kind → Kind → Bool
root_changes settings.Plain (kinds.Pointer s e c r i p) (kinds.Pointer s' e' c' r' i' q) = not (same_root r r')
root_changes s a b = false

abbrev pub set_kind : Setting → Kind → Kind → Option Kind
set_kind s a b = if assignable a && (value_fits s a b && not (root_changes s a b)) then Some (value_kind a) else None

-- ++ and --
abbrev pub step_kind : Kind → Option Kind
step_kind a = if assignable a then Some (value_kind a) else None

-- ---- unary and postfix expressions

abbrev pub operator_kind : Un → Kind → Option Kind
operator_kind op (kinds.Number t p) = Some (number (unary_type op (promoted t)))
operator_kind op a = None

abbrev pub prefix_kind : Prefix → List (Option Kind) → Option Kind
prefix_kind (prefixes.Step op) (a ∷ []) = on_one a step_kind
prefix_kind (prefixes.Operator op) (a ∷ []) = on_one a (operator_kind op)
prefix_kind prefixes.Address (a ∷ []) = on_one a address_kind
prefix_kind prefixes.Content (a ∷ []) = on_one a element_kind
prefix_kind prefixes.Size ks = Some (number types.Ulong)
prefix_kind p ks = None

abbrev pub postfix_kind : Postfix → List (Option Kind) → Option Kind
postfix_kind postfixes.Index (a ∷ b ∷ []) = on_both a b index_kind
postfix_kind (postfixes.Step op) (a ∷ []) = on_one a step_kind
postfix_kind p ks = None

-- ---- calls

-- all the kinds, if all are known
abbrev pub all_known : List (Option Kind) → Option (List Kind)
all_known [] = Some []
all_known (k ∷ ks) = on_both k (all_known ks) (λ a as'. Some (a ∷ as'))

abbrev pub argument_fits : Parameter → Kind → Bool
argument_fits (parameters.Number t) (kinds.Number u p) = true
argument_fits (parameters.Pointer s e c) (kinds.Pointer s' e' c' r each.Element p) = same_space s s' && same_type e e'
argument_fits p a = false

abbrev pub arguments_fit : List Parameter → List Kind → Bool
arguments_fit (p ∷ ps) (a ∷ as') = argument_fits p a && arguments_fit ps as'
arguments_fit _ _ = true

abbrev pub result_kind : Yield → Option Kind
result_kind (yields.Number t) = Some (number t)
result_kind yields.Nothing = Some kinds.Nothing
result_kind yields.Outside = None

abbrev pub all_numbers : List Kind → Bool
all_numbers [] = true
all_numbers (a ∷ as') = is_number a && all_numbers as'

-- the type of a number; that of a pointer is its offset's
abbrev pub type_of : Kind → IntType
type_of (kinds.Number t p) = t
type_of a = types.Long

-- a bool argument counts as int
abbrev pub counted : IntType → IntType
counted types.Bool = types.Int
counted t = t

abbrev pub all_of : IntType → List IntType → Bool
all_of t [] = true
all_of t (u ∷ us) = same_type t u && all_of t us

abbrev pub common_of : IntType → List IntType → IntType
common_of t [] = t
common_of t (u ∷ us) = common_of (common t u) us

abbrev pub counted_types : List Kind → List IntType
counted_types [] = []
counted_types (a ∷ as') = counted (type_of a) ∷ counted_types as'

-- the type in which a built-in function computes: that of its arguments if it is one type, else their common type
abbrev pub builtin_type : List IntType → IntType
builtin_type [] = types.Int
builtin_type (t ∷ ts) = if all_of t ts then t else common_of t ts

abbrev pub query_arity : Query → ℕ
query_arity queries.WorkDim = 0
query_arity _ = 1

-- how many arguments a name that is known without a declaration takes
abbrev pub intrinsic_arity : Intrinsic → ℕ
intrinsic_arity (intrinsics.Function f) = arity_of f
intrinsic_arity (intrinsics.Query q) = query_arity q
intrinsic_arity intrinsics.Barrier = 1
intrinsic_arity intrinsics.Fence = 1

-- the memory fence that a tree names, parentheses aside
abbrev pub flag_of : Syntax → Option Flag
flag_of (node forms.VariableNode w f l none) = flag_in (name_in w)
flag_of (node forms.ParenNode w f l (more e none)) = flag_of e
flag_of t = None

abbrev pub are_both : Option Flag → Option Flag → Bool
are_both (Some flags.Local) (Some flags.Global) = true
are_both (Some flags.Global) (Some flags.Local) = true
are_both a b = false

-- one of the two, or both joined by |, parentheses aside
abbrev pub are_flags : Syntax → Bool
are_flags (node forms.VariableNode w f l none) = is_some (flag_in (name_in w))
are_flags (node forms.ParenNode w f l (more e none)) = are_flags e
are_flags (node forms.BorNode w f l (more a (more b none))) = are_both (flag_of a) (flag_of b)
are_flags t = false

abbrev pub are_flags_alone : Forest → Bool
are_flags_alone (more e none) = are_flags e
are_flags_alone parts = false

abbrev pub intrinsic_result : Intrinsic → List Kind → Kind
intrinsic_result (intrinsics.Function f) as' = number (result_type f (builtin_type (counted_types as')))
intrinsic_result (intrinsics.Query q) as' = number (query_type q)
intrinsic_result intrinsics.Barrier as' = kinds.Nothing
intrinsic_result intrinsics.Fence as' = kinds.Nothing

abbrev pub is_fence : Intrinsic → Bool
is_fence intrinsics.Barrier = true
is_fence intrinsics.Fence = true
is_fence i = false

-- what a call calls: a function of the unit by its number, a function without a definition, or a name that is known
-- without a declaration; none where the name is not visible as a function
pub data Callee : Type 0 where
  defined : (number : ℕ) (signature : Signature) → Callee
  undefined : Callee
  known : Intrinsic → Callee

abbrev pub defined_at : ℕ → Option Signature → Option Callee
defined_at n None = None
defined_at n (Some g) = Some (defined n g)

abbrev pub known_as : Option Intrinsic → Option Callee
known_as None = None
known_as (Some i) = Some (known i)

abbrev pub callee_by : Env → List ℕ → Option Meaning → Option Callee
callee_by env name None = known_as (intrinsic_in name)
callee_by env name (Some (meanings.Function n)) = defined_at n (slice_get env.functions n)
callee_by env name (Some meanings.Undefined) = Some undefined
callee_by env name (Some m) = None

abbrev pub callee_of : Env → List ℕ → Option Callee
callee_of env name = callee_by env name (meaning_of env name)

-- how many arguments a call takes
abbrev pub arity_fits : Callee → ℕ → Bool
arity_fits (defined n g) count = nat_eq (length g.parameters) count
arity_fits undefined count = true
arity_fits (known i) count = nat_eq (intrinsic_arity i) count

-- a name that is known without a declaration takes numbers, also where it is a barrier or fence
abbrev pub call_fits : Callee → List Kind → Bool
call_fits (defined n g) as' = arguments_fit g.parameters as'
call_fits undefined as' = true
call_fits (known i) as' = all_numbers as'

abbrev pub call_result : Callee → List Kind → Option Kind
call_result (defined n g) as' = result_kind g.result
call_result undefined as' = None
call_result (known i) as' = Some (intrinsic_result i as')

abbrev pub call_kind : Callee → List Kind → Option Kind
call_kind c as' = if arity_fits c (length as') && call_fits c as' then call_result c as' else None

-- ---- the step from the parts to the whole

abbrev pub first_part : Forest → Syntax
first_part none = node forms.UnitNode [] 0 0 none
first_part (more p ps) = p

abbrev pub literal_kind : Option (IntType × ℕ) → Option Kind
literal_kind None = None
literal_kind (Some l) = Some (number l.0)

-- an operator with two operands
abbrev pub pair_kind : (Kind → Kind → Option Kind) → List (Option Kind) → Option Kind
pair_kind g (a ∷ b ∷ []) = on_both a b g
pair_kind g ks = None

abbrev pub cast_part_kind : Forest → List (Option Kind) → Option Kind
cast_part_kind parts (t ∷ a ∷ []) = on_one a (cast_kind (declared_in (first_part parts)))
cast_part_kind parts ks = None

abbrev pub choice_part_kind : List (Option Kind) → Option Kind
choice_part_kind (c ∷ a ∷ b ∷ []) = on_one c (λ k. on_both a b (choice_kind k))
choice_part_kind ks = None

abbrev pub only_kind : List (Option Kind) → Option Kind
only_kind (a ∷ []) = a
only_kind ks = None

-- a list of numbers counts as a number, any other list as nothing
abbrev pub list_kind_of : List Kind → Kind
list_kind_of as' = if all_numbers as' then number types.Int else kinds.Nothing

abbrev pub list_kind : List (Option Kind) → Option Kind
list_kind ks = on_one (all_known ks) (λ as'. Some (list_kind_of as'))

-- the kind of an expression of that production with these own words, from the kinds of its parts
unfoldable pub kind_step : Env → Form → List ℕ → Forest → List (Option Kind) → Option Kind
kind_step env forms.NumberNode w parts ks = literal_kind (literal_in w)
kind_step env forms.TruthNode w parts ks = Some (number types.Int)
kind_step env forms.VariableNode w parts ks = name_kind env (name_in w)
kind_step env forms.ParenNode w parts ks = only_kind ks
kind_step env forms.ExprNode w parts ks = pair_kind comma_kind ks
kind_step env forms.AssignNode w parts ks = on_one (setting_in w) (λ s. pair_kind (set_kind s) ks)
kind_step env forms.CondNode w parts ks = choice_part_kind ks
kind_step env forms.OrNode w parts ks = pair_kind logic_kind ks
kind_step env forms.AndNode w parts ks = pair_kind logic_kind ks
kind_step env forms.BorNode w parts ks = on_one (binary_in w) (λ op. pair_kind (binary_kind op) ks)
kind_step env forms.BxorNode w parts ks = on_one (binary_in w) (λ op. pair_kind (binary_kind op) ks)
kind_step env forms.BandNode w parts ks = on_one (binary_in w) (λ op. pair_kind (binary_kind op) ks)
kind_step env forms.EqualNode w parts ks = on_one (binary_in w) (λ op. pair_kind (binary_kind op) ks)
kind_step env forms.OrderNode w parts ks = on_one (binary_in w) (λ op. pair_kind (binary_kind op) ks)
kind_step env forms.ShiftNode w parts ks = on_one (binary_in w) (λ op. pair_kind (binary_kind op) ks)
kind_step env forms.SumNode w parts ks = on_one (binary_in w) (λ op. pair_kind (binary_kind op) ks)
kind_step env forms.TermNode w parts ks = on_one (binary_in w) (λ op. pair_kind (binary_kind op) ks)
kind_step env forms.CastNode w parts ks = cast_part_kind parts ks
kind_step env forms.UnaryNode w parts ks = on_one (prefix_in w) (λ p. prefix_kind p ks)
kind_step env forms.PostfixNode w parts ks = on_one (postfix_in w) (λ p. postfix_kind p ks)
kind_step env forms.CallNode w parts ks = on_both (callee_of env (name_in w)) (all_known ks) call_kind
kind_step env forms.ListNode w parts ks = list_kind ks
kind_step env form w parts ks = None
