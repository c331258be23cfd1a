-- A built-in function of numbers of one type: what its call is worth.
use Rattle.std.proofs.Common.{◌≡◌, ℕ, suc, ◌<◌, ◌≤◌, ℤ, List, [], ◌∷◌, length, map, Option, None, Some, refl, sym}
use Rattle.std.proofs.Common.{ap, ◌∙◌, subst, Bool, true, false, ◌&&◌, if◌then◌else◌, arith}
use Rattle.std.proofs.lemmas.Bool.{false≢true, eq-eqb}
use Rattle.wg_num.specs.declared.types.IntType.{IntType}
use Rattle.wg_num.specs.declared.types.IntType.TheVariants as types
use Rattle.wg_num.specs.declared.types.Place.{Place}
use Rattle.wg_num.specs.declared.types.Fun.{Fun}
use Rattle.wg_num.specs.declared.types.Fun.TheVariants as funs
use Rattle.wg_num.specs.Wrap.{is_bool, IsValue}
use Rattle.wg_num.specs.Builtins.{builtin_of, builtin_exact, result_type}
use Rattle.wg_num.proofs.WrapLaws.{IsValue-wrap}
use Rattle.cl_model.specs.Valid.{arity_of}
use Rattle.cl_model.specs.Tree as tree
use Rattle.cl_model.specs.Tree.{Expression, Apply}
use Rattle.cl_tree.specs.declared.tree.Form.TheVariants as forms
use Rattle.cl_tree.specs.Syntax.{Syntax, Forest, none, more}
use Rattle.cl_meaning.specs.OwnWords.{name_in}
use Rattle.cl_meaning.specs.declared.names.Intrinsic.TheVariants as intrinsics
use Rattle.cl_meaning.specs.declared.kind.Reach.TheVariants as reach
use Rattle.cl_meaning.specs.declared.kind.Kind.{Kind}
use Rattle.cl_meaning.specs.declared.kind.Kind.TheVariants as kinds
use Rattle.cl_meaning.specs.Environment.{Env, place_of}
use Rattle.cl_meaning.specs.Kinds as callees
use Rattle.cl_meaning.specs.Kinds.{Callee, callee_of, kind_step, on_both, all_known, call_kind, all_numbers}
use Rattle.cl_meaning.specs.Kinds.{counted, counted_types, builtin_type, all_of, common_of, number}
use Rattle.cl_meaning.specs.Visible.{inside, is_fence_callee, later, restored, left, closed, behind}
use Rattle.cl_meaning.specs.Visible.{behind_parts, kind_of, kinds_of}
use Rattle.cl_meaning.specs.Typed.{What}
use Rattle.cl_meaning.specs.Expressions.{read, operand, operands, type_in, types_in, expressions, call_made}
use Rattle.cl_meaning.specs.Meant.{make, meant, parts_meant, MadeParts}
use Rattle.cl_short_vec.specs.declared.nodes.Span.{Span}
use Rattle.cl_short_vec.specs.Nodes.{at}
use Rattle.cl_short_vec_correct.specs.Emits.{Known, Own}
use Rattle.cl_short_vec_correct.specs.Emits as own
use Rattle.cl_short_vec_correct.specs.Values.{nth}
use Rattle.cl_short_vec_correct.proofs.Pieces.{closed_same, meant_kind, same_same, operand_same}
use Rattle.cl_short_vec_correct.proofs.Trees.{Typed}

-- Trees that are numbers of one type with these values.
abbrev pub AllTyped : Env → List Known → IntType → Forest → List ℤ → Type 0
AllTyped env known of none [] = Unit {0}
AllTyped env known of (more p ps) (v ∷ vs) = Typed env known p of v × AllTyped env known of ps vs
AllTyped env known of none (v ∷ vs) = ⊥
AllTyped env known of (more p ps) [] = ⊥

-- their kinds
kinds_typed : (env : Env) (known : List Known) (of : IntType) (ps : Forest) (vs : List ℤ) →
    AllTyped env known of ps vs → List Kind
kinds_typed env known of none [] h = []
kinds_typed env known of (more p ps) (v ∷ vs) h =
    kinds.Number of h.0.reached ∷ kinds_typed env known of ps vs h.1
kinds_typed env known of none (v ∷ vs) h = absurd h
kinds_typed env known of (more p ps) [] h = absurd h

behind_all : (env : Env) (known : List Known) (of : IntType) (front : Bool) (ps : Forest) (vs : List ℤ) →
    AllTyped env known of ps vs → behind_parts env forms.CallNode front ps ≡ env
unfolding behind_parts later
behind_all env known of front none [] h = refl
behind_all env known of front (more p ps) (v ∷ vs) h =
    ap (λ z. behind_parts z forms.CallNode false ps) h.0.leaves ∙ behind_all env known of false ps vs h.1
behind_all env known of front none (v ∷ vs) h = absurd h
behind_all env known of front (more p ps) [] h = absurd h

kinds_all : (env : Env) (known : List Known) (of : IntType) (front : Bool) (ps : Forest) (vs : List ℤ)
    (h : AllTyped env known of ps vs) →
    all_known (kinds_of env forms.CallNode front ps) ≡ Some (kinds_typed env known of ps vs h)
unfolding kinds_of later kinds_typed
kinds_all env known of front none [] h = refl
kinds_all env known of front (more p ps) (v ∷ vs) h =
    ap (λ z. on_both z (all_known (kinds_of (behind env p) forms.CallNode false ps)) (λ a as'. Some (a ∷ as')))
    h.0.kind ∙
    ap (λ z. on_both (Some (kinds.Number of h.0.reached)) (all_known (kinds_of z forms.CallNode false ps))
    (λ a as'. Some (a ∷ as'))) h.0.leaves ∙
    ap (λ z. on_both (Some (kinds.Number of h.0.reached)) z (λ a as'. Some (a ∷ as')))
    (kinds_all env known of false ps vs h.1)
kinds_all env known of front none (v ∷ vs) h = absurd h
kinds_all env known of front (more p ps) [] h = absurd h

abbrev as_many : {A : Type 0} → IntType → List A → List IntType
as_many of vs = map (λ v. of) vs

whole_counts : (of : IntType) → is_bool of ≡ false → counted of ≡ of
whole_counts types.Bool e = absurd (false≢true (sym e))
whole_counts types.Char e = refl
whole_counts types.Uchar e = refl
whole_counts types.Short e = refl
whole_counts types.Ushort e = refl
whole_counts types.Int e = refl
whole_counts types.Uint e = refl
whole_counts types.Long e = refl
whole_counts types.Ulong e = refl

kinds_count : (env : Env) (known : List Known) (of : IntType) (ps : Forest) (vs : List ℤ)
    (h : AllTyped env known of ps vs) → is_bool of ≡ false →
    (length (kinds_typed env known of ps vs h) ≡ length vs) ×
    (all_numbers (kinds_typed env known of ps vs h) ≡ true) ×
    (counted_types (kinds_typed env known of ps vs h) ≡ as_many of vs)
unfolding kinds_typed
kinds_count env known of none [] h n = (refl, refl, refl)
kinds_count env known of (more p ps) (v ∷ vs) h n =
    let r = kinds_count env known of ps vs h.1 n in (
      ap suc r.0,
      r.1,
      ap (λ z. z ∷ counted_types (kinds_typed env known of ps vs h.1)) (whole_counts of n) ∙ ap (λ z. of ∷ z) r.2,
    )
kinds_count env known of none (v ∷ vs) h n = absurd h
kinds_count env known of (more p ps) [] h n = absurd h

all_same : {A : Type 0} (of : IntType) (vs : List A) → all_of of (as_many of vs) ≡ true
all_same of [] = refl
all_same of (v ∷ vs) = ap (λ z. z && all_of of (as_many of vs)) (same_same of) ∙ all_same of vs

-- the type in which a function of some numbers of one type computes
computes_in : {A : Type 0} (of : IntType) (vs : List A) → 0 < length vs → builtin_type (as_many of vs) ≡ of
computes_in of [] h = absurd (omega arith)
computes_in of (v ∷ vs) h =
    ap (λ z. if z then of else common_of of (as_many of vs)) (all_same of vs)

-- each expression has its value
abbrev OwnAll : List Known → List Expression → List ℤ → Type 0
OwnAll known [] [] = Unit {0}
OwnAll known (e ∷ es) (v ∷ vs) = Own known e v × OwnAll known es vs
OwnAll known [] (v ∷ vs) = ⊥
OwnAll known (e ∷ es) [] = ⊥

operand_own : (env : Env) (known : List Known) (p : Syntax) (of : IntType) (v : ℤ) (sites : List Place) →
    Typed env known p of v → Own known (operand of (meant env sites p).piece) v
operand_own env known p of v sites h = subst (λ z. Own known z v)
    (sym (operand_same of (meant env sites p).piece h.reached (sym (meant_kind env sites p) ∙ h.kind)))
    (h.worth sites)

pieces_own : (env : Env) (known : List Known) (of : IntType) (front : Bool) (sites : List Place) (ps : Forest)
    (vs : List ℤ) → AllTyped env known of ps vs →
    OwnAll known (operands of (parts_meant env forms.CallNode front sites ps).pieces) vs
unfolding parts_meant later
pieces_own env known of front sites none [] h = tt
pieces_own env known of front sites (more p ps) (v ∷ vs) h = (
  operand_own env known p of v sites h.0,
  subst (λ z. OwnAll known (operands of (parts_meant z forms.CallNode false (meant env sites p).sites ps).pieces) vs)
      (sym h.0.leaves) (pieces_own env known of false (meant env sites p).sites ps vs h.1),
)
pieces_own env known of front sites none (v ∷ vs) h = absurd h
pieces_own env known of front sites (more p ps) [] h = absurd h

pieces_types : (env : Env) (known : List Known) (of : IntType) (front : Bool) (sites : List Place) (ps : Forest)
    (vs : List ℤ) → is_bool of ≡ false → AllTyped env known of ps vs →
    types_in (parts_meant env forms.CallNode front sites ps).pieces ≡ as_many of vs
unfolding parts_meant later
pieces_types env known of front sites none [] n h = refl
pieces_types env known of front sites (more p ps) (v ∷ vs) n h =
    ap (λ z. counted (type_in z) ∷ types_in (parts_meant (behind env p) forms.CallNode false (meant env sites p).sites
    ps).pieces) (sym (meant_kind env sites p) ∙ h.0.kind) ∙
    ap (λ z. z ∷ types_in (parts_meant (behind env p) forms.CallNode false (meant env sites p).sites ps).pieces)
    (whole_counts of n) ∙
    ap (λ z. of ∷ types_in (parts_meant z forms.CallNode false (meant env sites p).sites ps).pieces) h.0.leaves ∙
    ap (λ z. of ∷ z) (pieces_types env known of false (meant env sites p).sites ps vs n h.1)
pieces_types env known of front sites none (v ∷ vs) n h = absurd h
pieces_types env known of front sites (more p ps) [] n h = absurd h

-- a function takes one argument to three
takes_some : (f : Fun) → (0 < arity_of f) × (arity_of f ≤ 3)
takes_some funs.Abs = (omega arith, omega arith)
takes_some funs.AbsDiff = (omega arith, omega arith)
takes_some funs.Min = (omega arith, omega arith)
takes_some funs.Max = (omega arith, omega arith)
takes_some funs.Clamp = (omega arith, omega arith)
takes_some funs.AddSat = (omega arith, omega arith)
takes_some funs.SubSat = (omega arith, omega arith)
takes_some funs.Hadd = (omega arith, omega arith)
takes_some funs.Rhadd = (omega arith, omega arith)
takes_some funs.MulHi = (omega arith, omega arith)
takes_some funs.Rotate = (omega arith, omega arith)
takes_some funs.Clz = (omega arith, omega arith)
takes_some funs.Popcount = (omega arith, omega arith)

function_own : (known : List Known) (f : Fun) (of : IntType) (es : List Expression) (vs : List ℤ) → 0 < length vs →
    length vs ≤ 3 → OwnAll known es vs →
    Own known (Apply (tree.Builtin f of) (expressions es)) (builtin_of f of (nth vs 0) (nth vs 1) (nth vs 2))
function_own known f of [] [] g l h = absurd (omega arith)
function_own known f of [] (v ∷ vs) g l h = absurd h
function_own known f of (e ∷ es) [] g l h = absurd h
function_own known f of (a ∷ []) (u ∷ []) g l h = own.builtin_one f of a u h.0
function_own known f of (a ∷ []) (u ∷ (v ∷ vs)) g l h = absurd h.1
function_own known f of (a ∷ (b ∷ es)) (u ∷ []) g l h = absurd h.1
function_own known f of (a ∷ (b ∷ [])) (u ∷ (v ∷ [])) g l h = own.builtin f of a b u v h.0 h.1.0
function_own known f of (a ∷ (b ∷ [])) (u ∷ (v ∷ (w ∷ vs))) g l h = absurd h.1.1
function_own known f of (a ∷ (b ∷ (c ∷ es))) (u ∷ (v ∷ [])) g l h = absurd h.1.1
function_own known f of (a ∷ (b ∷ (c ∷ []))) (u ∷ (v ∷ (w ∷ []))) g l h =
    own.builtin_three f of a b c u v w h.0 h.1.0 h.1.1.0
function_own known f of (a ∷ (b ∷ (c ∷ []))) (u ∷ (v ∷ (w ∷ (x ∷ vs)))) g l h = absurd h.1.1.1
function_own known f of (a ∷ (b ∷ (c ∷ (d ∷ es)))) (u ∷ (v ∷ (w ∷ []))) g l h = absurd h.1.1.1
function_own known f of (a ∷ (b ∷ (c ∷ (d ∷ es)))) (u ∷ (v ∷ (w ∷ (x ∷ vs)))) g l h = absurd (omega arith)

-- in the arguments of a function the names of fences are not known
same_inside : (env : Env) (w : List ℕ) (f : Fun) → env.flags ≡ false →
    callee_of env (name_in w) ≡ Some (callees.known (intrinsics.Function f)) → inside env forms.CallNode w ≡ env
unfolding inside
same_inside env w f e h =
    ap (λ z. record env { flags = is_fence_callee z }) h ∙ ap (λ z. record env { flags = z }) (sym e)

call_kinds : (env : Env) (w : List ℕ) (s : Span) (ps : Forest) → kind_of env (at forms.CallNode w s ps) ≡
    on_both (callee_of (closed env (behind_parts (inside env forms.CallNode w) forms.CallNode true ps)) (name_in w))
    (all_known (kinds_of (inside env forms.CallNode w) forms.CallNode true ps)) call_kind
unfolding kind_of kind_step restored
call_kinds env w s ps = refl

call_leaves : (env : Env) (w : List ℕ) (s : Span) (ps : Forest) → behind env (at forms.CallNode w s ps) ≡
    closed env (behind_parts (inside env forms.CallNode w) forms.CallNode true ps)
unfolding behind left restored
call_leaves env w s ps = refl

abbrev call_what_at : Place → MadeParts → Option Callee → What
call_what_at place m c = (call_made place m.sites m.pieces c).what

call_what : (env : Env) (sites : List Place) (w : List ℕ) (s : Span) (ps : Forest) →
    (meant env sites (at forms.CallNode w s ps)).piece.what ≡
    call_what_at
    (place_of (closed env (behind_parts (inside env forms.CallNode w) forms.CallNode true ps)) s.first)
    (parts_meant (inside env forms.CallNode w) forms.CallNode true sites ps)
    (callee_of (closed env (behind_parts (inside env forms.CallNode w) forms.CallNode true ps)) (name_in w))
unfolding meant make restored
call_what env sites w s ps = refl

function_kind : (f : Fun) (of : IntType) (vs : List ℤ) (js : List Kind) → 0 < length vs →
    arity_of f ≡ length vs → length js ≡ length vs → all_numbers js ≡ true → counted_types js ≡ as_many of vs →
    call_kind (callees.known (intrinsics.Function f)) js ≡ Some (number (result_type f of))
function_kind f of vs js some g l a t =
    let r : Option Kind = Some (number (result_type f (builtin_type (counted_types js)))) in
    ap (λ z. if z && all_numbers js then r else None) (eq-eqb (arity_of f) (length js) (g ∙ sym l)) ∙
    ap (λ z. if z then r else None) a ∙
    ap (λ z. Some (number (result_type f (builtin_type z)))) t ∙
    ap (λ z. Some (number (result_type f z))) (computes_in of vs some)

function_value : (f : Fun) (of : IntType) (a b c : ℤ) → IsValue (result_type f of) (builtin_of f of a b c)
unfolding builtin_of
function_value f of a b c = IsValue-wrap (result_type f of) (builtin_exact f of a b c)

-- a call of a function with as many arguments as it takes, all of one type
pub call_typed : (env : Env) (ks : List Known) (w : List ℕ) (s : Span) (ps : Forest) (f : Fun) (of : IntType)
    (vs : List ℤ) → env.flags ≡ false → callee_of env (name_in w) ≡ Some (callees.known (intrinsics.Function f)) →
    is_bool of ≡ false → arity_of f ≡ length vs → AllTyped env ks of ps vs →
    Typed env ks (at forms.CallNode w s ps) (result_type f of) (builtin_of f of (nth vs 0) (nth vs 1) (nth vs 2))
call_typed env ks w s ps f of vs e c n g h =
    let at_parts = inside env forms.CallNode w in
    let i : at_parts ≡ env = same_inside env w f e c in
    let cl : closed env (behind_parts at_parts forms.CallNode true ps) ≡ env =
    ap (closed env) (ap (λ z. behind_parts z forms.CallNode true ps) i ∙ behind_all env ks of true ps vs h) ∙
    closed_same env in
    let js = kinds_typed env ks of ps vs h in
    let kc = kinds_count env ks of ps vs h n in
    let some : 0 < length vs = subst (λ z. 0 < z) g (takes_some f).0 in
    let few : length vs ≤ 3 = subst (λ z. z ≤ 3) g (takes_some f).1 in
    let fun = Some (callees.known (intrinsics.Function f)) in
    record {
      reached = reach.Value;
      kind = call_kinds env w s ps ∙
          ap (λ z. on_both (callee_of z (name_in w)) (all_known (kinds_of at_parts forms.CallNode true ps)) call_kind)
          cl ∙
          ap (λ z. on_both z (all_known (kinds_of at_parts forms.CallNode true ps)) call_kind) c ∙
          ap (λ z. on_both fun (all_known (kinds_of z forms.CallNode true ps)) call_kind) i ∙
          ap (λ z. on_both fun z call_kind) (kinds_all env ks of true ps vs h) ∙
          function_kind f of vs js some g kc.0 kc.1 kc.2;
      leaves = call_leaves env w s ps ∙ cl;
      fits = function_value f of (nth vs 0) (nth vs 1) (nth vs 2);
      worth = λ sites.
          let place = place_of (closed env (behind_parts at_parts forms.CallNode true ps)) s.first in
          let pieces = (parts_meant env forms.CallNode true sites ps).pieces in
          let v = builtin_of f of (nth vs 0) (nth vs 1) (nth vs 2) in
          subst (λ z. Own ks (read z) v) (sym (call_what env sites w s ps ∙
          ap (λ z. call_what_at place (parts_meant at_parts forms.CallNode true sites ps) (callee_of z (name_in w)))
          cl ∙
          ap (λ z. call_what_at place (parts_meant at_parts forms.CallNode true sites ps) z) c ∙
          ap (λ z. call_what_at place (parts_meant z forms.CallNode true sites ps) fun) i))
          (subst (λ z. Own ks (Apply (tree.Builtin f z) (expressions (operands z pieces))) v)
          (sym (ap builtin_type (pieces_types env ks of true sites ps vs n h) ∙ computes_in of vs some))
          (function_own ks f of (operands of pieces) vs some few (pieces_own env ks of true sites ps vs h)));
    }
