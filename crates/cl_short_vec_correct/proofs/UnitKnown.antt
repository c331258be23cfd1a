-- At the items of a unit, and at the beginning of a function's block, no name that is known without a declaration
-- stands for a function.
use Rattle.std.proofs.Common.{◌≡◌, ℕ, List, [], ◌∷◌, ◌++◌, length, take, Option, None, Some, Bool, true, false, ◌&&◌}
use Rattle.std.proofs.Common.{◌||◌, if◌then◌else◌, refl, ap, sym, ◌∙◌, subst, inl, ◌⊎◌, slice_get}
use Rattle.std.proofs.lemmas.Bool.{false≢true}
use Rattle.std.specs.Str.{bytes_eq}
use Rattle.wg_num.specs.declared.types.Place.{Place}
use Rattle.cl_model.specs.declared.program.Root.TheVariants as roots
use Rattle.cl_tree.specs.declared.tree.Form.TheVariants as forms
use Rattle.cl_tree.specs.Syntax.{Syntax, node, Forest, none, more}
use Rattle.cl_meaning.specs.OwnWords.{name_in}
use Rattle.cl_meaning.specs.Names.{intrinsic_in}
use Rattle.cl_meaning.specs.declared.names.Intrinsic.{Intrinsic}
use Rattle.cl_meaning.specs.declared.types.Declared.{Declared}
use Rattle.cl_meaning.specs.declared.fault.Fault.TheVariants as faults
use Rattle.cl_meaning.specs.declared.kind.Entry.{Entry}
use Rattle.cl_meaning.specs.declared.kind.Meaning.TheVariants as meanings
use Rattle.cl_meaning.specs.declared.kind.Role.{Role}
use Rattle.cl_meaning.specs.Environment as environment
use Rattle.cl_meaning.specs.Environment.{Env, Scope, Signature, at_unit, found_in, or_else, into_last, in_last}
use Rattle.cl_meaning.specs.Environment.{empty_scope, with_entry, meaning_in, meaning_of, is_declared}
use Rattle.cl_meaning.specs.Kinds.{is_some, callee_of, callee_by}
use Rattle.cl_meaning.specs.Kinds as callees
use Rattle.cl_meaning.specs.Declarations.{declarator_in, firm, first_type, second_star, with_parameter, last_kind}
use Rattle.cl_meaning.specs.Declarations.{pointed_space}
use Rattle.cl_meaning.specs.Visible.{behind, behind_parts, later, closed, kinds_of, announced, own_scope, with_own}
use Rattle.cl_meaning.specs.Visible.{named}
use Rattle.cl_meaning.specs.Visible.{left, restored, inside, in_definition, with_function, with_prototype}
use Rattle.cl_meaning.specs.Visible.{function_meaning, definition_of, defined_meaning}
use Rattle.cl_meaning.specs.Faults.{Asked, is_known_name}
use Rattle.cl_check_sound.specs.Shape.{IsDeclarator, AreDeclarators, IsDeclaration, IsParam, AreParams, IsParams}
use Rattle.cl_check_sound.specs.Sound.{SoundTree}
use Rattle.cl_check_sound.proofs.Cases.{neither_second}
use Rattle.cl_check_sound.proofs.Grown.{SameOuter, outer_same, outer_then, outer_into, outer_whole, is_deep, deep_outer}
use Rattle.cl_check_sound.proofs.Growth.{declarator_leaves}
use Rattle.cl_check_sound.proofs.Heads.{param_leaves}
use Rattle.cl_check_sound.proofs.Parts.{typed_env, declare_behind}
use Rattle.cl_check_sound.proofs.Declarators.{declare_leaves}
use Rattle.cl_check_sound.proofs.Owners.{deep_twice}
use Rattle.cl_check_sound.proofs.Constants.{OneScope, unit_is, one_named}
use Rattle.cl_check_sound.proofs.Fronts.{Front, head_env, named_env, params_env, result_env}
use Rattle.cl_check_sound.proofs.Functions.{bare}
use Rattle.cl_check_sound.proofs.Items.{same_bytes, function_visible, proto_entry}
use Rattle.cl_short_vec_correct.proofs.Seen.{Intrinsics}
use Rattle.cl_short_vec_correct.proofs.Behind.{no_declarators}
use Rattle.cl_short_vec_correct.proofs.Seen.{same_called, called_there}
use Rattle.cl_short_vec_correct.proofs.KnownNames.{not_called, known_same, known_opened, known_object}
use Rattle.cl_short_vec_correct.proofs.KnownNames.{declarator_objects}

-- the name is not known without a declaration
abbrev pub NotKnown : List ℕ → Type 0
NotKnown name = (i : Intrinsic) → intrinsic_in name ≡ Some i → ⊥

-- ---- one more name in the unit

found_one : (s : Scope) (name : List ℕ) (e : Entry) (q : List ℕ) →
    found_in (into_last (s ∷ []) name e) q ≡ (if bytes_eq name q then Some e else found_in (s ∷ []) q)
found_one s name e q = by (bytes_eq name q)
  where
    by : (b : Bool) → or_else None (if b then Some e else s q) ≡ (if b then Some e else or_else None (s q))
    by true = refl
    by false = refl

-- it stands for no function, or it is not known without a declaration
known_more : (env later : Env) (name : List ℕ) (e : Entry) → OneScope env → later.functions ≡ env.functions →
    later.scopes ≡ into_last env.scopes name e →
    ((q : List ℕ) (i : Intrinsic) → bytes_eq name q ≡ true → intrinsic_in q ≡ Some i →
    callee_by later q (Some e.meaning) ≡ None) → Intrinsics env → Intrinsics later
known_more env later name e (s, us) f ls new h q i k =
    by (bytes_eq name q) refl (ap (λ z. meaning_in (found_in z q)) (ls ∙ ap (λ z. into_last z name e) us) ∙
    ap meaning_in (found_one s name e q ∙ ap (λ z. if bytes_eq name q then Some e else found_in z q) (sym us)))
  where
    by : (b : Bool) → bytes_eq name q ≡ b →
        meaning_of later q ≡ meaning_in (if b then Some e else found_in env.scopes q) →
        (callee_of later q ≡ None) ⊎ (callee_of later q ≡ Some (callees.known i))
    by true t m = inl (ap (callee_by later q) m ∙ new q i t k)
    by false t m = called_there env later q i (same_called env later q f m) (h q i k)

-- a name that is not known without a declaration
known_new : (env later : Env) (name : List ℕ) (e : Entry) → OneScope env → later.functions ≡ env.functions →
    later.scopes ≡ into_last env.scopes name e → NotKnown name → Intrinsics env → Intrinsics later
known_new env later name e o f ls n h = known_more env later name e o f ls
    (λ q i t k. absurd (n i (ap intrinsic_in (same_bytes name q t) ∙ k))) h

-- ---- functions and prototypes

-- a function's name is none that is known without a declaration
pub function_name : (asked : Asked) (u : Env) (sites : List Place) (role : Role) (w : List ℕ) (f l : ℕ)
    (parts : Forest) (fr : Front asked (in_definition u (name_in w)) sites true (bare w) parts) →
    SoundTree asked u role (node forms.FunctionNode w f l parts) → OneScope u → NotKnown (name_in w)
function_name asked u sites role w f l parts fr s o i e =
    let n = name_in w in
    let h = s.1.0 faults.DeclaredTwice in
    let v = function_visible asked u sites w f l parts fr in
    let b = neither_second (is_declared u n) (is_known_name u n)
    (subst (λ z. (is_declared z n || is_known_name z n) ≡ false) v h) in
    false≢true (sym b ∙ (ap (λ z. z && is_some (intrinsic_in n)) (unit_is u o) ∙ ap is_some e))

pub function_known : (u : Env) (name : List ℕ) → OneScope u → NotKnown name → Intrinsics u →
    Intrinsics (with_function u name)
function_known u name o n h =
    known_new u (with_function u name) name (firm (defined_meaning (definition_of u name))) o refl refl n h

and_nothing : (b : Bool) → (b && false) ≡ false
and_nothing true = refl
and_nothing false = refl

announced_name : (env : Env) (name : List ℕ) → announced env name ≡ true → NotKnown name
announced_name env name a i e =
    let n : announced env name ≡ false = rw e (and_nothing _) in
    false≢true (sym n ∙ a)

pub prototype_known : (u : Env) (name : List ℕ) → OneScope u → Intrinsics u → Intrinsics (with_prototype u name)
prototype_known u name o h = by (announced u name) refl
  where
    by : (b : Bool) → announced u name ≡ b →
        Intrinsics (if b then environment.declare u name (proto_entry u name) else u)
    by true a = known_new u (environment.declare u name (proto_entry u name)) name (proto_entry u name) o refl refl
        (announced_name u name a) h
    by false a = h

-- ---- declarations of the unit

unit_declarator_known : (u : Env) (t : Syntax) → IsDeclarator t → OneScope u → Intrinsics u →
    OneScope (behind u t) × Intrinsics (behind u t)
unit_declarator_known u (node forms.DeclaratorNode w f l parts) h o k =
    subst (λ z. OneScope z × Intrinsics z) (sym (declarator_leaves u w f l parts h))
    (declarator_objects (λ z. OneScope z × Intrinsics z) u u.declared (declarator_in w f parts)
    (last_kind (kinds_of u forms.DeclaratorNode true parts)) (o, k)
    (λ later m i e s. (
      one_named u later (declarator_in w f parts).name (firm m) s o,
      known_more u later (declarator_in w f parts).name (firm m) o e s (λ q j t x. not_called later q m i) k,
    )))
unit_declarator_known u t h o k = absurd h

unit_declarators_known : (u : Env) (ds : Forest) → AreDeclarators ds → OneScope u → Intrinsics u →
    OneScope (behind_parts u forms.DeclareNode false ds) × Intrinsics (behind_parts u forms.DeclareNode false ds)
unit_declarators_known u none h o k = subst (λ z. OneScope z × Intrinsics z) (sym (no_declarators u)) (o, k)
unit_declarators_known u (more p ps) h o k =
    let x = unit_declarator_known u p h.0 o k in
    subst (λ z. OneScope z × Intrinsics z) (sym (declare_leaves u false p ps h.0))
    (unit_declarators_known (behind u p) ps h.1 x.0 x.1)

pub unit_declaration_known : (u : Env) (t : Syntax) → IsDeclaration t → OneScope u → Intrinsics u →
    Intrinsics (behind u t)
unit_declaration_known u (node forms.DeclareNode w f l (more t ds)) h o k =
    let inner = behind_parts (typed_env u t) forms.DeclareNode false ds in
    let x = unit_declarators_known (typed_env u t) ds h.1 o (known_same u (typed_env u t) refl refl k) in
    let sc : (closed u inner).scopes ≡ inner.scopes =
    ap (λ z. take (length z) inner.scopes) o.1 ∙ (ap (take 1) x.0.1 ∙ sym x.0.1) in
    subst Intrinsics (sym (declare_behind u w f l t ds h.0)) (known_same inner (closed u inner) refl sc x.1)
unit_declaration_known u t h o k = absurd h

-- ---- in a function

found_behind : (ss : List Scope) (s : Scope) (q : List ℕ) → s q ≡ None → found_in (ss ++ s ∷ []) q ≡ found_in ss q
found_behind [] s q e = ap (or_else None) e
found_behind (x ∷ ss) s q e = ap (λ z. or_else z (x q)) (found_behind ss s q e)

own_none : (env : Env) (n : ℕ) (o : Option Signature) (q : List ℕ) (i : Intrinsic) → intrinsic_in q ≡ Some i →
    own_scope env n o q ≡ None
own_none env n None q i e = refl
own_none env n (Some g) q i e = by (announced env g.name) refl
  where
    m : Entry
    m = firm (function_meaning g.kernel n)

    one : announced env g.name ≡ true → (b : Bool) → bytes_eq g.name q ≡ b →
        (if b then Some m else empty_scope q) ≡ None
    one a true t = absurd (announced_name env g.name a i (ap intrinsic_in (same_bytes g.name q t) ∙ e))
    one a false t = refl

    by : (b : Bool) → announced env g.name ≡ b →
        (if b then with_entry empty_scope g.name m else empty_scope) q ≡ None
    by true a = one a (bytes_eq g.name q) refl
    by false a = refl

-- behind the own name of a function
named_known : (env : Env) → Intrinsics env → Intrinsics (named env)
named_known env h = known_opened (with_own env) (named env) refl refl own
  where
    own : Intrinsics (with_own env)
    own q i k =
        let n = env.owner.number in
        let o = slice_get env.functions n in
        called_there env (with_own env) q i (same_called env (with_own env) q refl
        (ap meaning_in (found_behind env.scopes (own_scope env n o) q (own_none env n o q i k)))) (h q i k)

parameter_known : (env : Env) (name : List ℕ) (token : ℕ) (o : Option Declared) (star : Option Bool) →
    is_deep env.scopes ≡ true → Intrinsics env →
    SameOuter env.scopes (with_parameter env name token o star).scopes ×
    Intrinsics (with_parameter env name token o star)
parameter_known env name token None star d k = (outer_same env.scopes, k)
parameter_known env name token (Some t) None d k = (
  outer_into env.scopes name _,
  known_object env (with_parameter env name token (Some t) None) name
      (meanings.Scalar t.of t.constant (length env.variables)) tt refl refl d k,
)
parameter_known env name token (Some t) (Some fixed) d k = (
  outer_into env.scopes name _,
  known_object env (with_parameter env name token (Some t) (Some fixed)) name
      (meanings.Pointer (pointed_space t) t.of t.constant (roots.Param (length env.variables)) fixed
      (length env.variables)) tt refl refl d k,
)

param_known : (env : Env) (t : Syntax) → IsParam t → is_deep env.scopes ≡ true → Intrinsics env →
    SameOuter env.scopes (behind env t).scopes × Intrinsics (behind env t)
param_known env (node forms.ParamNode w f l parts) h d k =
    subst (λ (z : Env). SameOuter env.scopes z.scopes × Intrinsics z) (sym (param_leaves env w f l parts h))
    (parameter_known env (name_in w) l (first_type parts) (second_star parts) d k)
param_known env t h d k = absurd h

param_next : (env : Env) (front : Bool) (p : Syntax) (ps : Forest) →
    behind_parts env forms.ParamsNode front (more p ps) ≡ behind_parts (behind env p) forms.ParamsNode false ps
unfolding behind_parts later
param_next env front p ps = refl

no_params : (env : Env) (front : Bool) → behind_parts env forms.ParamsNode front none ≡ env
unfolding behind_parts
no_params env front = refl

all_params_known : (env : Env) (front : Bool) (ps : Forest) → AreParams ps → is_deep env.scopes ≡ true →
    Intrinsics env → SameOuter env.scopes (behind_parts env forms.ParamsNode front ps).scopes ×
    Intrinsics (behind_parts env forms.ParamsNode front ps)
all_params_known env front none h d k =
    subst (λ (z : Env). SameOuter env.scopes z.scopes × Intrinsics z) (sym (no_params env front))
    (outer_same env.scopes, k)
all_params_known env front (more p ps) h d k =
    let mid = behind env p in
    let x = param_known env p h.0 d k in
    let y = all_params_known mid false ps h.1 (deep_outer env.scopes mid.scopes d x.0) x.1 in
    let last = behind_parts mid forms.ParamsNode false ps in
    subst (λ (z : Env). SameOuter env.scopes z.scopes × Intrinsics z) (sym (param_next env front p ps))
    (outer_then env.scopes mid.scopes last.scopes x.0 y.0, y.1)

closed_params : (env : Env) (w : List ℕ) (f l : ℕ) (ps : Forest) →
    behind env (node forms.ParamsNode w f l ps) ≡ closed env (behind_parts env forms.ParamsNode true ps)
unfolding behind left restored inside
closed_params env w f l ps = refl

params_known : (env : Env) (t : Syntax) → IsParams t → is_deep env.scopes ≡ true → Intrinsics env →
    Intrinsics (params_env env t)
params_known env (node forms.ParamsNode w f l ps) h d k =
    let t = node forms.ParamsNode w f l ps in
    let inner = behind_parts env forms.ParamsNode true ps in
    let x = all_params_known env true ps h d k in
    known_same (behind env t) (params_env env t) refl refl
    (subst Intrinsics (sym (closed_params env w f l ps))
    (known_same inner (closed env inner) refl (outer_whole env.scopes inner.scopes x.0) x.1))
params_known env t h d k = absurd h

-- behind a head, and behind the result and the parameters of a function
pub head_known : (env : Env) (t : Syntax) → Intrinsics env → Intrinsics (head_env env t)
head_known env t k = known_same env (head_env env t) refl refl k

pub front_known : (env : Env) (r p : Syntax) → IsParams p → Intrinsics env → Intrinsics (params_env (named_env env r) p)
front_known env r p h k =
    let e = result_env env r in
    params_known (named_env env r) p h
    (deep_twice env.scopes (own_scope e e.owner.number (slice_get e.functions e.owner.number)) empty_scope)
    (named_known e (known_same env e refl refl k))
