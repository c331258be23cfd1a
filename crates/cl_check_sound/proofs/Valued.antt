-- An expression that is not the whole of a statement has a value, and one that is tested is a number.
use Rattle.std.proofs.Common.{◌≡◌, ℕ, List, [], ◌∷◌, length, Option, None, Some, Bool, true, false, not, ◌&&◌}
use Rattle.std.proofs.Common.{if◌then◌else◌, refl, sym, ◌∙◌, subst}
use Rattle.std.proofs.lemmas.Bool.{false≢true}
use Rattle.wg_num.specs.declared.types.IntType.{IntType}
use Rattle.wg_num.specs.declared.types.IntType.TheVariants as types
use Rattle.wg_num.specs.declared.types.Bin.{Bin}
use Rattle.wg_num.specs.declared.types.Bin.TheVariants as bins
use Rattle.wg_num.specs.declared.types.Un.{Un}
use Rattle.cl_model.specs.Tree.{Function, Program}
use Rattle.cl_model.specs.Valid.{HasType, HasValue}
use Rattle.cl_tree.specs.declared.tree.Form.{Form}
use Rattle.cl_tree.specs.declared.tree.Form.TheVariants as forms
use Rattle.cl_tree.specs.Syntax.{Syntax, node, Forest, none, more}
use Rattle.cl_meaning.specs.declared.types.Declared.{Declared}
use Rattle.cl_meaning.specs.declared.operators.Prefix.{Prefix}
use Rattle.cl_meaning.specs.declared.operators.Prefix.TheVariants as prefixes
use Rattle.cl_meaning.specs.declared.operators.Postfix.{Postfix}
use Rattle.cl_meaning.specs.declared.operators.Postfix.TheVariants as postfixes
use Rattle.cl_meaning.specs.declared.operators.Setting.{Setting}
use Rattle.cl_meaning.specs.declared.names.Intrinsic.TheVariants as intrinsics
use Rattle.cl_meaning.specs.Spelling.{name_in, declared_in, binary_in, setting_in, prefix_in, postfix_in, literal_in}
use Rattle.cl_meaning.specs.declared.fault.Fault.TheVariants as faults
use Rattle.cl_meaning.specs.declared.kind.Each.TheVariants as each
use Rattle.cl_meaning.specs.declared.kind.Reach.TheVariants as reach
use Rattle.cl_meaning.specs.declared.kind.Kind.{Kind}
use Rattle.cl_meaning.specs.declared.kind.Kind.TheVariants as kinds
use Rattle.cl_meaning.specs.declared.kind.Meaning.{Meaning}
use Rattle.cl_meaning.specs.declared.kind.Meaning.TheVariants as meanings
use Rattle.cl_meaning.specs.declared.kind.Role.{Role}
use Rattle.cl_meaning.specs.declared.kind.Role.TheVariants as roles
use Rattle.cl_meaning.specs.declared.kind.Yield.{Yield}
use Rattle.cl_meaning.specs.declared.kind.Yield.TheVariants as yields
use Rattle.cl_meaning.specs.Environment.{Env, meaning_of}
use Rattle.cl_meaning.specs.Kinds.{number, on_one, on_both, kind_of_meaning, is_flag, name_kind, literal_kind}
use Rattle.cl_meaning.specs.Kinds.{binary_kind, logic_kind, choice_kind, is_number, is_scalar, value_kind, comma_kind}
use Rattle.cl_meaning.specs.Kinds.{cast_kind, element_kind, index_kind, address_kind, assignable, value_fits}
use Rattle.cl_meaning.specs.Kinds.{root_changes, set_kind, step_kind, operator_kind, prefix_kind, postfix_kind}
use Rattle.cl_meaning.specs.Kinds.{all_known, result_kind, intrinsic_result, Callee, defined, undefined, known}
use Rattle.cl_meaning.specs.Kinds.{callee_of, arity_fits, call_fits, call_kind, pair_kind, cast_part_kind}
use Rattle.cl_meaning.specs.Kinds.{choice_part_kind, kind_step, first_part}
use Rattle.cl_meaning.specs.Visible.{inside, restored, behind_parts, kind_of, kinds_of, visible_at}
use Rattle.cl_meaning.specs.Faults.{Asked, misfits, tested_misfits, given, valueless, yields_nothing}
use Rattle.cl_meaning.specs.Faults.{is_whole, is_tested}
use Rattle.cl_meaning.specs.Faults as faults_specs
use Rattle.cl_meaning.specs.declared.kind.Reach.{Reach}
use Rattle.cl_meaning.specs.Typed.{Piece}
use Rattle.cl_meaning.specs.Expressions.{read}
use Rattle.cl_check_sound.specs.Shape.{IsExpression}
use Rattle.cl_check_sound.specs.Sound.{SoundTree}
use Rattle.cl_check_sound.specs.Fits.{KindFits, PieceFits}
use Rattle.cl_check_sound.proofs.Cases.{neither_first, neither_second}

-- not the kind of a call without a value
abbrev pub Something : Option Kind → Type 0
Something (Some kinds.Nothing) = ⊥
Something k = Unit {0}

if_something : (b : Bool) (k : Option Kind) → Something k → Something (if b then k else None)
if_something true k h = h
if_something false k h = tt

pair_something : (g : Kind → Kind → Option Kind) → ((a b : Kind) → Something (g a b)) → (ks : List (Option Kind)) →
    Something (pair_kind g ks)
pair_something g h (Some a ∷ Some b ∷ []) = h a b
pair_something g h (None ∷ b ∷ []) = tt
pair_something g h (Some a ∷ None ∷ []) = tt
pair_something g h [] = tt
pair_something g h (a ∷ []) = tt
pair_something g h (a ∷ b ∷ (c ∷ cs)) = tt

meaning_something : (o : Option Meaning) → Something (on_one o kind_of_meaning)
meaning_something None = tt
meaning_something (Some (meanings.Scalar t c x)) = tt
meaning_something (Some (meanings.Pointer s e c r fixed x)) = tt
meaning_something (Some (meanings.Object s e c r)) = tt
meaning_something (Some (meanings.Array s e c r i)) = tt
meaning_something (Some (meanings.Function n)) = tt
meaning_something (Some meanings.Undefined) = tt
meaning_something (Some meanings.Kernel) = tt

name_something : (env : Env) (name : List ℕ) → Something (name_kind env name)
name_something env name = by (is_flag env name)
  where
    by : (b : Bool) → Something (if b then Some (number types.Uint) else on_one (meaning_of env name) kind_of_meaning)
    by true = tt
    by false = meaning_something (meaning_of env name)

literal_something : (o : Option (IntType × ℕ)) → Something (literal_kind o)
literal_something None = tt
literal_something (Some l) = tt

comma_something : (a b : Kind) → Something (comma_kind a b)
comma_something a (kinds.Number t p) =
    if_something (is_scalar a && is_scalar (kinds.Number t p)) (Some (value_kind (kinds.Number t p))) tt
comma_something a (kinds.Pointer s e c r i p) =
    if_something (is_scalar a && is_scalar (kinds.Pointer s e c r i p))
    (Some (value_kind (kinds.Pointer s e c r i p))) tt
comma_something a kinds.Nothing = by (is_scalar a)
  where
    by : (b : Bool) → Something (if b && false then Some kinds.Nothing else None)
    by true = tt
    by false = tt

set_something : (s : Setting) (a b : Kind) → Something (set_kind s a b)
set_something s (kinds.Number t p) b =
    if_something (assignable (kinds.Number t p) &&
    (value_fits s (kinds.Number t p) b && not (root_changes s (kinds.Number t p) b)))
    (Some (value_kind (kinds.Number t p))) tt
set_something s (kinds.Pointer s' e c r i p) b =
    if_something (assignable (kinds.Pointer s' e c r i p) && (value_fits s (kinds.Pointer s' e c r i p) b &&
    not (root_changes s (kinds.Pointer s' e c r i p) b))) (Some (value_kind (kinds.Pointer s' e c r i p))) tt
set_something s kinds.Nothing b = tt

step_something : (a : Kind) → Something (step_kind a)
step_something (kinds.Number t p) =
    if_something (assignable (kinds.Number t p)) (Some (value_kind (kinds.Number t p))) tt
step_something (kinds.Pointer s e c r i p) =
    if_something (assignable (kinds.Pointer s e c r i p)) (Some (value_kind (kinds.Pointer s e c r i p))) tt
step_something kinds.Nothing = tt

binary_something : (op : Bin) (a b : Kind) → Something (binary_kind op a b)
binary_something op (kinds.Number t p) (kinds.Number u q) = tt
binary_something bins.Add (kinds.Pointer s e c r each.Element p) (kinds.Number u q) = tt
binary_something bins.Add (kinds.Number t p) (kinds.Pointer s e c r each.Element q) = tt
binary_something bins.Sub (kinds.Pointer s e c r each.Element p) (kinds.Number u q) = tt
binary_something op a b = tt

logic_something : (a b : Kind) → Something (logic_kind a b)
logic_something (kinds.Number t p) (kinds.Number u q) = tt
logic_something a b = tt

choice_something : (c a b : Kind) → Something (choice_kind c a b)
choice_something (kinds.Number c p) (kinds.Number t q) (kinds.Number u r) = tt
choice_something c a b = tt

choices_something : (ks : List (Option Kind)) → Something (choice_part_kind ks)
choices_something (Some c ∷ Some a ∷ Some b ∷ []) = choice_something c a b
choices_something (None ∷ a ∷ b ∷ []) = tt
choices_something (Some c ∷ None ∷ b ∷ []) = tt
choices_something (Some c ∷ Some a ∷ None ∷ []) = tt
choices_something [] = tt
choices_something (a ∷ []) = tt
choices_something (a ∷ b ∷ []) = tt
choices_something (a ∷ b ∷ c ∷ (d ∷ ds)) = tt

cast_something : (d : Option Declared) (a : Kind) → Something (cast_kind d a)
cast_something (Some d) (kinds.Number t p) = tt
cast_something d a = tt

casts_something : (parts : Forest) (ks : List (Option Kind)) → Something (cast_part_kind parts ks)
casts_something parts (t ∷ Some a ∷ []) = cast_something (declared_in (first_part parts)) a
casts_something parts (t ∷ None ∷ []) = tt
casts_something parts [] = tt
casts_something parts (t ∷ []) = tt
casts_something parts (t ∷ a ∷ (b ∷ bs)) = tt

element_something : (a : Kind) → Something (element_kind a)
element_something (kinds.Pointer s e c r each.Element p) = tt
element_something (kinds.Pointer s e c r (each.Row n) p) = tt
element_something (kinds.Pointer s e c r (each.Plane m n) p) = tt
element_something (kinds.Number t p) = tt
element_something kinds.Nothing = tt

index_something : (a b : Kind) → Something (index_kind a b)
index_something a (kinds.Number u q) = element_something a
index_something a (kinds.Pointer s e c r i p) = tt
index_something a kinds.Nothing = tt

address_something : (a : Kind) → Something (address_kind a)
address_something (kinds.Number e (reach.Element s c r)) = tt
address_something a = tt

operator_something : (op : Un) (a : Kind) → Something (operator_kind op a)
operator_something op (kinds.Number t p) = tt
operator_something op a = tt

one_something : (g : Kind → Option Kind) → ((a : Kind) → Something (g a)) → (k : Option Kind) → Something (on_one k g)
one_something g h None = tt
one_something g h (Some a) = h a

prefix_something : (q : Prefix) (ks : List (Option Kind)) → Something (prefix_kind q ks)
prefix_something (prefixes.Step op) (a ∷ []) = one_something step_kind step_something a
prefix_something (prefixes.Operator op) (a ∷ []) = one_something (operator_kind op) (operator_something op) a
prefix_something prefixes.Address (a ∷ []) = one_something address_kind address_something a
prefix_something prefixes.Content (a ∷ []) = one_something element_kind element_something a
prefix_something prefixes.Size ks = tt
prefix_something q ks = tt

both_something : (g : Kind → Kind → Option Kind) → ((a b : Kind) → Something (g a b)) → (j k : Option Kind) →
    Something (on_both j k g)
both_something g h (Some a) (Some b) = h a b
both_something g h None k = tt
both_something g h (Some a) None = tt

postfix_something : (q : Postfix) (ks : List (Option Kind)) → Something (postfix_kind q ks)
postfix_something postfixes.Index (a ∷ b ∷ []) = both_something index_kind index_something a b
postfix_something (postfixes.Step op) (a ∷ []) = one_something step_kind step_something a
postfix_something q ks = tt

given_something : {A : Type 0} (g : A → Option Kind) → ((a : A) → Something (g a)) → (o : Option A) →
    Something (on_one o g)
given_something g h None = tt
given_something g h (Some a) = h a

-- ---- calls

nothing_apart : (x w : Bool) → w ≡ false → (x && (true && not w)) ≡ false → x ≡ false
nothing_apart true true e h = absurd (false≢true (sym e))
nothing_apart true false e h = absurd (false≢true (sym h))
nothing_apart false w e h = refl

not_called : (x z : Bool) (k : Option Kind) → x ≡ false → Something (if x && z then k else None)
not_called true z k h = absurd (false≢true (sym h))
not_called false z k h = tt

callee_something : (c : Callee) (as' : List Kind) (w : Bool) → w ≡ false →
    (arity_fits c (length as') && (yields_nothing c && not w)) ≡ false → Something (call_kind c as')
callee_something (defined n g) as' w e h = by g.result h
  where
    by : (y : Yield) → (arity_fits (defined n g) (length as') &&
        (yields_nothing (defined n (record g { result = y })) && not w)) ≡ false →
        Something (if arity_fits (defined n g) (length as') && call_fits (defined n g) as' then result_kind y else None)
    by (yields.Number t) h =
        if_something (arity_fits (defined n g) (length as') && call_fits (defined n g) as') (Some (number t)) tt
    by yields.Outside h = if_something (arity_fits (defined n g) (length as') && call_fits (defined n g) as') None tt
    by yields.Nothing h = not_called (arity_fits (defined n g) (length as')) (call_fits (defined n g) as')
        (Some kinds.Nothing) (nothing_apart (arity_fits (defined n g) (length as')) w e h)
callee_something undefined as' w e h =
    if_something (arity_fits undefined (length as') && call_fits undefined as') None tt
callee_something (known (intrinsics.Function f)) as' w e h =
    if_something (arity_fits (known (intrinsics.Function f)) (length as') && call_fits (known (intrinsics.Function f))
    as') (Some (intrinsic_result (intrinsics.Function f) as')) tt
callee_something (known (intrinsics.Query q)) as' w e h =
    if_something (arity_fits (known (intrinsics.Query q)) (length as') && call_fits (known (intrinsics.Query q)) as')
    (Some (intrinsic_result (intrinsics.Query q) as')) tt
callee_something (known intrinsics.Barrier) as' w e h =
    not_called (arity_fits (known intrinsics.Barrier) (length as')) (call_fits (known intrinsics.Barrier) as')
    (Some kinds.Nothing) (nothing_apart (arity_fits (known intrinsics.Barrier) (length as')) w e h)
callee_something (known intrinsics.Fence) as' w e h =
    not_called (arity_fits (known intrinsics.Fence) (length as')) (call_fits (known intrinsics.Fence) as')
    (Some kinds.Nothing) (nothing_apart (arity_fits (known intrinsics.Fence) (length as')) w e h)

call_something : (o : Option Callee) (ks : Option (List Kind)) (w : Bool) → w ≡ false →
    given o (λ c. given ks (λ as'. arity_fits c (length as')) && (yields_nothing c && not w)) ≡ false →
    Something (on_both o ks call_kind)
call_something None ks w e h = tt
call_something (Some c) None w e h = tt
call_something (Some c) (Some as') w e h = callee_something c as' w e h

valueless_as : (n : _) (o : Option Callee) →
    valueless n o ≡ given o (λ c. given (all_known n.kinds') (λ as'. arity_fits c (length as')) &&
    (yields_nothing c && not (is_whole n.role)))
valueless_as n None = refl
valueless_as n (Some c) = refl

-- ---- nodes

-- neither a call nor in parentheses
abbrev is_plain : Form → Bool
is_plain forms.CallNode = false
is_plain forms.ParenNode = false
is_plain forms.ListNode = false
is_plain form = true

node_something : (env : Env) (form : Form) (w : List ℕ) (parts : Forest) (ks : List (Option Kind)) →
    is_plain form ≡ true → Something (kind_step env form w parts ks)
unfolding kind_step
node_something env forms.CallNode w parts ks h = absurd (false≢true h)
node_something env forms.ParenNode w parts ks h = absurd (false≢true h)
node_something env forms.ListNode w parts ks h = absurd (false≢true h)
node_something env forms.NumberNode w parts ks h = literal_something (literal_in w)
node_something env forms.TruthNode w parts ks h = tt
node_something env forms.VariableNode w parts ks h = name_something env (name_in w)
node_something env forms.ExprNode w parts ks h = pair_something comma_kind comma_something ks
node_something env forms.AssignNode w parts ks h =
    given_something (λ s. pair_kind (set_kind s) ks) (λ s. pair_something (set_kind s) (set_something s) ks)
    (setting_in w)
node_something env forms.CondNode w parts ks h = choices_something ks
node_something env forms.OrNode w parts ks h = pair_something logic_kind logic_something ks
node_something env forms.AndNode w parts ks h = pair_something logic_kind logic_something ks
node_something env forms.BorNode w parts ks h =
    given_something (λ op. pair_kind (binary_kind op) ks) (λ op. pair_something (binary_kind op) (binary_something op)
    ks) (binary_in w)
node_something env forms.BxorNode w parts ks h =
    given_something (λ op. pair_kind (binary_kind op) ks) (λ op. pair_something (binary_kind op) (binary_something op)
    ks) (binary_in w)
node_something env forms.BandNode w parts ks h =
    given_something (λ op. pair_kind (binary_kind op) ks) (λ op. pair_something (binary_kind op) (binary_something op)
    ks) (binary_in w)
node_something env forms.EqualNode w parts ks h =
    given_something (λ op. pair_kind (binary_kind op) ks) (λ op. pair_something (binary_kind op) (binary_something op)
    ks) (binary_in w)
node_something env forms.OrderNode w parts ks h =
    given_something (λ op. pair_kind (binary_kind op) ks) (λ op. pair_something (binary_kind op) (binary_something op)
    ks) (binary_in w)
node_something env forms.ShiftNode w parts ks h =
    given_something (λ op. pair_kind (binary_kind op) ks) (λ op. pair_something (binary_kind op) (binary_something op)
    ks) (binary_in w)
node_something env forms.SumNode w parts ks h =
    given_something (λ op. pair_kind (binary_kind op) ks) (λ op. pair_something (binary_kind op) (binary_something op)
    ks) (binary_in w)
node_something env forms.TermNode w parts ks h =
    given_something (λ op. pair_kind (binary_kind op) ks) (λ op. pair_something (binary_kind op) (binary_something op)
    ks) (binary_in w)
node_something env forms.CastNode w parts ks h = casts_something parts ks
node_something env forms.UnaryNode w parts ks h =
    given_something (λ q. prefix_kind q ks) (λ q. prefix_something q ks) (prefix_in w)
node_something env forms.PostfixNode w parts ks h =
    given_something (λ q. postfix_kind q ks) (λ q. postfix_something q ks) (postfix_in w)
node_something env form w parts ks h = tt

plain_something : (env : Env) (form : Form) (w : List ℕ) (f l : ℕ) (parts : Forest) → is_plain form ≡ true →
    Something (kind_of env (node form w f l parts))
unfolding kind_of
plain_something env form w f l parts h =
    node_something (restored form env (behind_parts (inside env form w) form true parts)) form w parts
    (kinds_of (inside env form w) form true parts) h

called_something : (asked : Asked) (env : Env) (role : Role) (w : List ℕ) (f l : ℕ) (parts : Forest) →
    SoundTree asked env role (node forms.CallNode w f l parts) → is_whole role ≡ false →
    Something (kind_of env (node forms.CallNode w f l parts))
unfolding kind_of kind_step misfits
called_something asked env role w f l parts s r =
    let v = visible_at env (node forms.CallNode w f l parts) in
    let ks = kinds_of (inside env forms.CallNode w) forms.CallNode true parts in
    let n : faults_specs.Looked =
    record { env = v; role = role; form = forms.CallNode; word = w; first = f; parts = parts; kinds' = ks } in
    let m = neither_first (valueless n (callee_of v (name_in w))) (tested_misfits n) (s.1.0 faults.OperandTypes) in
    call_something (callee_of v (name_in w)) (all_known ks) (is_whole role) r
    (sym (valueless_as n (callee_of v (name_in w))) ∙ m)

paren_kind : (env : Env) (w : List ℕ) (f l : ℕ) (a : Syntax) →
    kind_of env (node forms.ParenNode w f l (more a none)) ≡ kind_of env a
unfolding kind_of kinds_of kind_step inside
paren_kind env w f l a = refl

paren_sound : (asked : Asked) (env : Env) (role : Role) (w : List ℕ) (f l : ℕ) (a : Syntax) →
    SoundTree asked env role (node forms.ParenNode w f l (more a none)) → SoundTree asked env roles.Other a
unfolding inside
paren_sound asked env role w f l a s = s.0.0

-- an expression in another place has a value
pub has_something : (asked : Asked) (env : Env) (role : Role) (t : Syntax) → IsExpression t →
    SoundTree asked env role t → is_whole role ≡ false → Something (kind_of env t)
has_something asked env role (node forms.ParenNode w f l (more a none)) h s r =
    subst Something (sym (paren_kind env w f l a))
    (has_something asked env roles.Other a h (paren_sound asked env role w f l a s) refl)
has_something asked env role (node forms.CallNode w f l parts) h s r = called_something asked env role w f l parts s r
has_something asked env role (node forms.ListNode w f l parts) h s r = absurd h
has_something asked env role (node forms.ParenNode w f l none) h s r = absurd h
has_something asked env role (node forms.ParenNode w f l (more a (more b bs))) h s r = absurd h
has_something asked env role (node form w f l parts) h s r = plain_something env form w f l parts refl

pub value_of : (P : Program) (g : Function) (p : Piece) → PieceFits P g p → Something p.kind →
    HasValue P g (read p.what)
value_of P g p x s = by x.kind x.fits (subst Something x.known s)
  where
    by : (k : Kind) → KindFits P g k p.what → Something (Some k) → HasValue P g (read p.what)
    by (kinds.Number t q) h s = (t, h.0)
    by (kinds.Pointer s' e c r i q) h s = (types.Long, h.0)
    by kinds.Nothing h s = absurd s

-- a value that is tested is a number
pub is_tested_number : (asked : Asked) (env : Env) (role : Role) (t : Syntax) → is_tested role ≡ true →
    SoundTree asked env role t → given (kind_of env t) (λ a. not (is_number a)) ≡ false
unfolding kind_of
is_tested_number asked env role (node form w f l parts) e s =
    let v = visible_at env (node form w f l parts) in
    let ks = kinds_of (inside env form w) form true parts in
    let n : faults_specs.Looked =
    record { env = v; role = role; form = form; word = w; first = f; parts = parts; kinds' = ks } in
    second (is_tested role) (given (kind_step v form w parts ks) (λ a. not (is_number a))) e
    (neither_second (misfits n form) (tested_misfits n) (s.1.0 faults.OperandTypes))
  where
    second : (a b : Bool) → a ≡ true → (a && b) ≡ false → b ≡ false
    second true b e h = h
    second false b e h = absurd (false≢true e)

pub record NumberOf (P : Program) (g : Function) (p : Piece) : Type 0 where
  pub type' : IntType
  pub reach' : Reach
  pub known : p.kind ≡ Some (kinds.Number type' reach')
  pub typed : HasType P g (read p.what) type'

pub number_of : (P : Program) (g : Function) (p : Piece) → PieceFits P g p →
    given p.kind (λ a. not (is_number a)) ≡ false → NumberOf P g p
number_of P g p x h = by x.kind x.known x.fits (subst (λ z. given z (λ a. not (is_number a)) ≡ false) x.known h)
  where
    by : (k : Kind) → p.kind ≡ Some k → KindFits P g k p.what → not (is_number k) ≡ false → NumberOf P g p
    by (kinds.Number t q) e f h = record { type' = t; reach' = q; known = e; typed = f.0 }
    by (kinds.Pointer s e' c r i q) e f h = absurd (false≢true (sym h))
    by kinds.Nothing e f h = absurd (false≢true (sym h))
