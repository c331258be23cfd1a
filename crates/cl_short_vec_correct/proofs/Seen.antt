-- Calls of functions that are known without a declaration, in a tree without vectors: each stands for that function,
-- and
-- has as many arguments as it takes.
use Rattle.std.proofs.Common.{◌≡◌, ℕ, suc, ◌-◌, List, length, nat_eq, Option, None, Some, Bool, true, false, not}
use Rattle.std.proofs.Common.{if◌then◌else◌, refl, sym, ap, ◌∙◌, subst, ◌⊎◌, inl, inr, arith}
use Rattle.std.proofs.lemmas.Bool.{false≢true}
use Rattle.std.proofs.lemmas.Bool.Decides.{nat_tests}
use Rattle.wg_num.specs.declared.types.IntType.{IntType}
use Rattle.wg_num.specs.declared.types.Un.{Un}
use Rattle.wg_num.specs.declared.types.Un.TheVariants as uns
use Rattle.wg_num.specs.declared.types.Bin.{Bin}
use Rattle.wg_num.specs.declared.types.Bin.TheVariants as bins
use Rattle.wg_num.specs.declared.types.Fun.{Fun}
use Rattle.wg_num.specs.Operators.{is_shift}
use Rattle.wg_num.specs.Wrap.{width_bits}
use Rattle.cl_model.specs.Valid.{arity_of}
use Rattle.cl_tree.specs.declared.tree.Form.{Form}
use Rattle.cl_tree.specs.declared.tree.Form.TheVariants as forms
use Rattle.cl_tree.specs.Syntax.{Syntax, node, Forest, none, more}
use Rattle.cl_meaning.specs.OwnWords.{name_in}
use Rattle.cl_meaning.specs.Names.{intrinsic_in}
use Rattle.cl_meaning.specs.Conversions.{is_comparison}
use Rattle.cl_meaning.specs.declared.names.Intrinsic.{Intrinsic}
use Rattle.cl_meaning.specs.declared.names.Intrinsic.TheVariants as intrinsics
use Rattle.cl_meaning.specs.declared.fault.Fault.TheVariants as faults
use Rattle.cl_meaning.specs.declared.kind.Meaning.{Meaning}
use Rattle.cl_meaning.specs.declared.kind.Meaning.TheVariants as meanings
use Rattle.cl_meaning.specs.declared.kind.Role.{Role}
use Rattle.cl_meaning.specs.declared.kind.Role.TheVariants as roles
use Rattle.cl_meaning.specs.Environment.{Env, meaning_of}
use Rattle.cl_meaning.specs.Kinds.{is_some, Callee, known, callee_by, callee_of, arity_fits}
use Rattle.cl_meaning.specs.Kinds as callees
use Rattle.cl_meaning.specs.Visible.{inside, is_fence_callee, kinds_of, kind_of, later, behind, visible_at}
use Rattle.cl_meaning.specs.Faults.{Asked, given}
use Rattle.cl_check_sound.specs.Shape.{is_expression, IsType, OfExpressions, AreOperands}
use Rattle.cl_check_sound.specs.Sound.{SoundTree}
use Rattle.cl_check_sound.proofs.Plain.{SoundHere, sound_plain, visible_same}
use Rattle.cl_short_vec.specs.declared.nodes.Span.{Span}
use Rattle.cl_short_vec.specs.Nodes.{int_at, paren_at, cast_at, joined_at, signed_at, amount_at, component_joined}

abbrev pub many_parts : Forest → ℕ
many_parts none = 0
many_parts (more p ps) = suc (many_parts ps)

-- a call of that many parts, where its name is known without a declaration as a function
abbrev pub SeenCall : Env → Form → List ℕ → (parts : ℕ) → Type 0
SeenCall env forms.CallNode w n = (f : Fun) → intrinsic_in (name_in w) ≡ Some (intrinsics.Function f) →
    (callee_of env (name_in w) ≡ Some (known (intrinsics.Function f))) × (arity_of f ≡ n)
SeenCall env form w n = Unit {0}

unfoldable mutual
  pub Seen : Env → Syntax → Type 0
  Seen env (node form w f l parts) = SeenCall env form w (many_parts parts) × AllSeen env parts

  pub AllSeen : Env → Forest → Type 0
  AllSeen env none = Unit {0}
  AllSeen env (more p ps) = Seen env p × AllSeen env ps

-- No name that is known without a declaration stands for a function of the unit.
abbrev pub Intrinsics : Env → Type 0
Intrinsics env = (name : List ℕ) (i : Intrinsic) → intrinsic_in name ≡ Some i →
    (callee_of env name ≡ None) ⊎ (callee_of env name ≡ Some (known i))

pub same_called : (start env : Env) (q : List ℕ) → env.functions ≡ start.functions →
    meaning_of env q ≡ meaning_of start q → callee_of env q ≡ callee_of start q
same_called start env q f e = ap (callee_by env q) e ∙
    ap (λ z. callee_by (record env { functions = z }) q (meaning_of start q)) f

pub called_there : (start env : Env) (q : List ℕ) (i : Intrinsic) → callee_of env q ≡ callee_of start q →
    (callee_of start q ≡ None) ⊎ (callee_of start q ≡ Some (callees.known i)) →
    (callee_of env q ≡ None) ⊎ (callee_of env q ≡ Some (callees.known i))
called_there start env q i c (inl k) = inl (c ∙ k)
called_there start env q i c (inr k) = inr (c ∙ k)

-- ---- an expression in which no node is at fault

-- the functions that are visible do not depend on the names of memory fences
callee_flags : (env : Env) (b : Bool) (name : List ℕ) → callee_of (record env { flags = b }) name ≡ callee_of env name
callee_flags env b name = by (meaning_of env name)
  where
    by : (m : Option Meaning) → callee_by (record env { flags = b }) name m ≡ callee_by env name m
    by None = refl
    by (Some (meanings.Function n)) = refl
    by (Some meanings.Undefined) = refl
    by (Some m) = refl

inside_callee : (env : Env) (form : Form) (w name : List ℕ) → is_expression form ≡ true →
    callee_of (inside env form w) name ≡ callee_of env name
unfolding inside
inside_callee env forms.CallNode w name e = callee_flags env (is_fence_callee (callee_of env (name_in w))) name
inside_callee env forms.ExprNode w name e = refl
inside_callee env forms.AssignNode w name e = refl
inside_callee env forms.CondNode w name e = refl
inside_callee env forms.OrNode w name e = refl
inside_callee env forms.AndNode w name e = refl
inside_callee env forms.BorNode w name e = refl
inside_callee env forms.BxorNode w name e = refl
inside_callee env forms.BandNode w name e = refl
inside_callee env forms.EqualNode w name e = refl
inside_callee env forms.OrderNode w name e = refl
inside_callee env forms.ShiftNode w name e = refl
inside_callee env forms.SumNode w name e = refl
inside_callee env forms.TermNode w name e = refl
inside_callee env forms.CastNode w name e = refl
inside_callee env forms.UnaryNode w name e = refl
inside_callee env forms.PostfixNode w name e = refl
inside_callee env forms.TruthNode w name e = refl
inside_callee env forms.VariableNode w name e = refl
inside_callee env forms.ParenNode w name e = refl
inside_callee env forms.NumberNode w name e = refl
inside_callee env _ w name e = absurd (false≢true e)

kinds_many : (env : Env) (form : Form) (front : Bool) (ps : Forest) →
    length (kinds_of env form front ps) ≡ many_parts ps
unfolding kinds_of
kinds_many env form front none = refl
kinds_many env form front (more p ps) =
    ap suc (kinds_many (later (behind env p) form front p (kind_of env p)) form false ps)

-- the callee that is found, as many arguments as it takes
counted : (f : Fun) (o : Option Callee) (n : ℕ) →
    (o ≡ None) ⊎ (o ≡ Some (known (intrinsics.Function f))) → not (is_some o) ≡ false →
    given o (λ c. not (arity_fits c n)) ≡ false → (o ≡ Some (known (intrinsics.Function f))) × (arity_of f ≡ n)
counted f o n (inl e) h g = absurd (false≢true (sym (subst (λ z. not (is_some z) ≡ false) e h)))
counted f o n (inr e) h g = (e, by (subst (λ z. given z (λ c. not (arity_fits c n)) ≡ false) e g))
  where
    by : not (nat_eq (arity_of f) n) ≡ false → arity_of f ≡ n
    by x = grind (arith, nat_tests)

-- the node itself
call_seen : (asked : Asked) (env here : Env) (role : Role) (form : Form) (w : List ℕ) (f l : ℕ) (parts : Forest) →
    Intrinsics env → ((name : List ℕ) → callee_of here name ≡ callee_of env name) →
    OfExpressions (node form w f l parts) → SoundTree asked here role (node form w f l parts) →
    SeenCall env form w (many_parts parts)
call_seen asked env here role forms.CallNode w f l parts i same h s =
    let name = name_in w in
    let n = length (kinds_of (inside here forms.CallNode w) forms.CallNode true parts) in
    let v : visible_at here (node forms.CallNode w f l parts) ≡ here =
    visible_same here forms.CallNode w f l parts refl h.1 in
    let c : callee_of (visible_at here (node forms.CallNode w f l parts)) name ≡ callee_of env name =
    ap (λ z. callee_of z name) v ∙ same name in
    λ fun e. counted fun (callee_of env name) (many_parts parts) (i name (intrinsics.Function fun) e)
    (subst (λ o. not (is_some o) ≡ false) c (s.1.0 faults.UnknownName))
    (subst (λ z. given (callee_of env name) (λ x. not (arity_fits x z)) ≡ false)
    (kinds_many (inside here forms.CallNode w) forms.CallNode true parts)
    (subst (λ o. given o (λ x. not (arity_fits x n)) ≡ false) c (s.1.0 faults.ArgumentCount)))
call_seen asked env here role _ w f l parts i same h s = tt

type_seen : (env : Env) (t : Syntax) → IsType t → Seen env t
unfolding Seen
type_seen env (node forms.TypeNode w f l none) h = (tt, tt)
type_seen env (node forms.TypeNode w f l (more (node forms.SpaceNode ws fs ls none) none)) h = (tt, ((tt, tt), tt))
type_seen env t h = absurd h

either_seen : (env : Env) (t : Syntax) → OfExpressions t ⊎ IsType t → (OfExpressions t → Seen env t) → Seen env t
either_seen env t (inl h) g = g h
either_seen env t (inr h) g = type_seen env t h

mutual
  unfolding Seen AllSeen

  expression_seen : (asked : Asked) (env here : Env) (role : Role) (t : Syntax) → Intrinsics env →
      ((name : List ℕ) → callee_of here name ≡ callee_of env name) → OfExpressions t → SoundTree asked here role t →
      Seen env t
  expression_seen asked env here role (node form w f l parts) i same h s = (
    call_seen asked env here role form w f l parts i same h s,
    operands_seen asked env (inside here form w) parts i (λ name. inside_callee here form w name h.0 ∙ same name) h.1
        (sound_plain form h.0 asked (inside here form w) None parts h.1 s.0),
  )

  operands_seen : (asked : Asked) (env here : Env) (parts : Forest) → Intrinsics env →
      ((name : List ℕ) → callee_of here name ≡ callee_of env name) → AreOperands parts →
      SoundHere asked here parts → AllSeen env parts
  operands_seen asked env here none i same h s = tt
  operands_seen asked env here (more p ps) i same h s = (
    either_seen env p h.0 (λ x. expression_seen asked env here roles.Other p i same x s.0),
    operands_seen asked env here ps i same h.1 s.1,
  )

-- an expression in which no node is at fault
pub sound_seen : (asked : Asked) (env : Env) (role : Role) (t : Syntax) → Intrinsics env → OfExpressions t →
    SoundTree asked env role t → Seen env t
sound_seen asked env role t i h s = expression_seen asked env env role t i (λ name. refl) h s

-- ---- the operands of what is made of components

pub cast_seen : (env : Env) (of : IntType) (s : Span) (t : Syntax) → Seen env (cast_at of s t) → Seen env t
unfolding Seen AllSeen
cast_seen env of s t h = h.1.1.0.1.0

pub signed_seen : (env : Env) (op : Un) (s : Span) (t : Syntax) → Seen env (signed_at op s t) → Seen env t
unfolding Seen AllSeen
signed_seen env op s t h = h.1.0

binary_seen : (env : Env) (op : Bin) (s : Span) (a b : Syntax) → Seen env (joined_at op s a b) → Seen env a × Seen env b
unfolding Seen AllSeen
binary_seen env op s a b h = (h.1.0, h.1.1.0)

paren_seen : (env : Env) (s : Span) (t : Syntax) → Seen env (paren_at s t) → Seen env t
unfolding Seen AllSeen
paren_seen env s t h = h.1.0

-- an operator on two components
pub joined_seen : (env : Env) (op : Bin) (of : IntType) (s : Span) (a b : Syntax) →
    Seen env (component_joined op of s a b) → Seen env a × Seen env b
joined_seen env op of s a b h = by (is_comparison op) (is_shift op) h
  where
    by : (c d : Bool) →
        Seen env (if c then cast_at of s (signed_at uns.Minus s (paren_at s (joined_at op s a b))) else
        (if d then cast_at of s (joined_at op s a (amount_at of s b)) else cast_at of s (joined_at op s a b))) →
        Seen env a × Seen env b
    by true d g = binary_seen env op s a b (paren_seen env s (joined_at op s a b)
        (signed_seen env uns.Minus s (paren_at s (joined_at op s a b))
        (cast_seen env of s (signed_at uns.Minus s (paren_at s (joined_at op s a b))) g)))
    by false true g =
        let n = int_at (width_bits of - 1) s in
        let x = binary_seen env op s a (amount_at of s b)
        (cast_seen env of s (joined_at op s a (amount_at of s b)) g) in
        (x.0, (binary_seen env bins.And s b n (paren_seen env s (joined_at bins.And s b n) x.1)).0)
    by false false g = binary_seen env op s a b (cast_seen env of s (joined_at op s a b) g)
