-- What a declarator that is not at fault does.
use Rattle.std.proofs.Common.{◌≡◌, ℕ, ◌≤◌, nat_eq, nat_le, List, length, Option, None, Some, Bool, true, false, not}
use Rattle.std.proofs.Common.{◌&&◌, ◌||◌, if◌then◌else◌, refl, sym, ◌∙◌, subst, arith}
use Rattle.std.proofs.lemmas.Bool.{false≢true}
use Rattle.std.proofs.lemmas.Bool.Decides.{nat_tests}
use Rattle.wg_num.specs.declared.types.IntType.{IntType}
use Rattle.wg_num.specs.declared.types.Place.{Place}
use Rattle.cl_model.specs.Tree.{Function, Program, Expression}
use Rattle.cl_model.specs.Valid.{Scope, NamesAmong, AllHaveType, number_of_values}
use Rattle.cl_tree.specs.Syntax.{Syntax}
use Rattle.cl_meaning.specs.declared.types.Declared.{Declared}
use Rattle.cl_meaning.specs.declared.kind.Kind.{Kind}
use Rattle.cl_meaning.specs.Environment.{Env, Variable, Array}
use Rattle.cl_meaning.specs.Kinds.{is_some, is_number}
use Rattle.cl_model.specs.Sizes.{product}
use Rattle.cl_meaning.specs.Declarations.{Declarator, is_list, initialisers, kept_in, with_pointer}
use Rattle.cl_meaning.specs.Declarations.{with_scalar, with_elements, with_declarator, root_of, dims_of, or_none}
use Rattle.cl_meaning.specs.Faults.{given, declarator_misfits, points_as, too_many_initialisers}
use Rattle.cl_meaning.specs.Typed.{values, Piece}
use Rattle.cl_meaning.specs.Expressions.{read, operand, expressions}
use Rattle.cl_meaning.specs.Statements.{set_value, initial, list_values, variable_declared, array_made, scalar_made}
use Rattle.cl_meaning.specs.Statements.{declarator_made, lines_of}
use Rattle.cl_check_sound.proofs.Cases.{neither_first, neither_second}
use Rattle.cl_check_sound.proofs.Grown.{Extends, is_deep}
use Rattle.cl_check_sound.proofs.Facing.{Finals, At}
use Rattle.cl_check_sound.proofs.Lining.{Line}
use Rattle.cl_check_sound.proofs.Declaring.{InitOk, pointer_line, kept_own, scalar_any, array_any, scalar_value}
use Rattle.cl_check_sound.proofs.Declaring.{count_fits, dims_fit}

-- the values of an array
pub record ValuesOk (P : Program) (f : Function) (scope : Scope) (t : IntType) (n : ℕ) (es : List Expression) : Type 0
  where
    pub typed : AllHaveType P f (expressions es) t
    pub names : NamesAmong scope (expressions es)
    pub count : number_of_values (expressions es) ≤ n

not_is : (b : Bool) → not b ≡ false → b ≡ true
not_is true h = refl
not_is false h = absurd (false≢true (sym h))

listed_values : (P : Program) (f : Function) (scope : Scope) (t : IntType) (n : ℕ) (p : Piece)
    (es : List Expression) → p.what ≡ values es → ValuesOk P f scope t n es →
    ValuesOk P f scope t n (list_values (Some p))
listed_values P f scope t n p es e v =
    subst (λ z. ValuesOk P f scope t n (list_values (Some (record { kind = p.kind; what = z })))) (sym e) v

array_values : (P : Program) (f : Function) (scope : Scope) (t : IntType) (n : ℕ) (init : Option Syntax)
    (ps : List Piece) (k : Option Kind) (y : Declarator) →
    InitOk P f scope t init (initial (record y { init = init }) ps) k →
    (is_some init && (not (is_list init) || given k (λ a. not (is_number a)))) ≡ false →
    length (initialisers init) ≤ n → ValuesOk P f scope t n (list_values (initial (record y { init = init }) ps))
array_values P f scope t n None ps k y i m c = record { typed = tt; names = tt; count = omega arith }
array_values P f scope t n (Some s) ps k y (p, q, w, v, l) m c =
    let b = not_is (is_list (Some s)) (neither_first (not (is_list (Some s))) (given k (λ a. not (is_number a))) m) in
    let g = subst (λ z. given z (λ a. not (is_number a)) ≡ false) w
    (neither_second (not (is_list (Some s))) (given k (λ a. not (is_number a))) m) in
    let z = l b in
    subst (λ o. ValuesOk P f scope t n (list_values o)) (sym q)
    (listed_values P f scope t n p z.es z.is (record {
      typed = z.typed g;
      names = z.names;
      count = subst (λ u. u ≤ n) (sym z.count) c;
    }))

pub declarator_line : (P : Program) (f : Function) (ms : List (List ℕ)) (vars : List Variable) (arrs : List Array)
    (scope : Scope) (env : Env) (d : Declared) (x : Declarator) (ps : List Piece) (k : Option Kind) (place : Place)
    (sites : List Place) →
    is_deep env.scopes ≡ true → At P f ms scope env → Finals f vars arrs →
    Extends (with_declarator env (Some d) x k).variables vars →
    Extends (with_declarator env (Some d) x k).arrays arrs → InitOk P f scope d.of x.init (initial x ps) k →
    declarator_misfits (Some d) x k ≡ false → (is_some x.star && (nat_eq x.dimensions 0 && not (is_some x.init))) ≡
    false → (nat_le 1 x.dimensions && too_many_initialisers x (dims_of x)) ≡ false →
    Line P f ms scope env (lines_of (declarator_made env place sites (Some d) x ps).what)
    (with_declarator env (Some d) x k)
declarator_line P f ms vars arrs scope env d x ps k place sites dp a n ev ea i m r c = by x.star ev ea m r
  where
    pointed : (fixed : Bool) (init : Option Syntax) →
        Extends (with_pointer env d x fixed (root_of k)).variables vars →
        InitOk P f scope d.of init (initial (record x { init = init }) ps) k →
        (is_list init || (is_some init && given k (λ a. not (points_as d a)))) ≡ false → not (is_some init) ≡ false →
        Line P f ms scope env (lines_of
        (variable_declared env (set_value (λ p. read p.what) (initial (record x { init = init }) ps))))
        (with_pointer env d x fixed (root_of k))
    pointed fixed None ev i m r = absurd (false≢true (sym r))
    pointed fixed (Some s) ev (p, q, w, v, l) m r =
        let z = v (neither_first (is_list (Some s)) (given k (λ a. not (points_as d a))) m) in
        let is : k ≡ Some z.fits.kind = w ∙ z.fits.known in
        let g = subst (λ y. given y (λ a. not (points_as d a)) ≡ false) is
        (neither_second (is_list (Some s)) (given k (λ a. not (points_as d a))) m) in
        subst (λ o. Line P f ms scope env (lines_of (variable_declared env (set_value (λ p. read p.what) o)))
        (with_pointer env d x fixed (root_of k))) (sym q)
        (pointer_line P f ms vars arrs scope env d x fixed p k z.fits.kind dp a n ev is z.fits.fits z.names
        (not_is (points_as d z.fits.kind) g))

    star : (fixed : Bool) (b : Bool) → Extends (with_pointer env d x fixed (root_of k)).variables vars →
        (if b then is_list x.init || (is_some x.init && given k (λ a. not (points_as d a))) else true) ≡ false →
        (b && not (is_some x.init)) ≡ false →
        Line P f ms scope env (lines_of (variable_declared env (set_value (λ p. read p.what) (initial x ps))))
        (with_pointer env d x fixed (root_of k))
    star fixed true ev m r = pointed fixed x.init ev i m r
    star fixed false ev m r = absurd (false≢true (sym m))

    elements : (dims : List ℕ) → dims_of x ≡ Some dims → length (initialisers x.init) ≤ product dims →
        Extends (with_elements env d x (kept_in env d) (or_none (dims_of x))).arrays arrs →
        (is_some x.init && (not (is_list x.init) || given k (λ a. not (is_number a)))) ≡ false →
        Line P f ms scope env (lines_of (array_made env place sites (list_values (initial x ps))
        (kept_in env d)).what) (with_elements env d x (kept_in env d) (or_none (dims_of x)))
    elements dims e l ea m =
        let v = array_values P f scope d.of (product dims) x.init ps k x i m l in
        subst (λ z. Line P f ms scope env
        (lines_of (array_made env place sites (list_values (initial x ps)) (kept_in env d)).what)
        (with_elements env d x (kept_in env d) (or_none z))) (sym e)
        (array_any P f ms vars arrs scope env d x dims (list_values (initial x ps)) place sites (kept_in env d)
        (kept_own env d dp) dp a n (subst
        (λ z. Extends (with_elements env d x (kept_in env d) (or_none z)).arrays arrs) e ea)
        (dims_fit x dims e) v.typed v.names v.count)

    plain : (b : Bool) → nat_eq x.dimensions 0 ≡ b →
        Extends (if b then with_scalar env d x (kept_in env d) else with_elements env d x (kept_in env d)
        (or_none (dims_of x))).variables vars →
        Extends (if b then with_scalar env d x (kept_in env d) else with_elements env d x (kept_in env d)
        (or_none (dims_of x))).arrays arrs →
        (if b then is_list x.init || (is_some x.init && given k (λ a. not (is_number a))) else (is_some x.init &&
        (not (is_list x.init) || given k (λ a. not (is_number a))))) ≡ false →
        Line P f ms scope env (lines_of (if b then scalar_made env sites (set_value (operand d.of) (initial x ps))
        (kept_in env d) else array_made env place sites (list_values (initial x ps)) (kept_in env d)).what)
        (if b then with_scalar env d x (kept_in env d) else with_elements env d x (kept_in env d)
        (or_none (dims_of x)))
    plain true e ev ea m =
        let v = scalar_value P f scope d.of (length env.variables) x.init ps k x refl i m in
        scalar_any P f ms vars arrs scope env d x (set_value (operand d.of) (initial x ps)) sites (kept_in env d)
        (kept_own env d dp) dp a n ev ea v.0 v.1
    plain false e ev ea m =
        let l = some_length x.dimensions e in
        let t = and_rest (nat_le 1 x.dimensions) (too_many_initialisers x (dims_of x)) l c in
        let q = count_fits x (dims_of x) t in
        elements q.0 q.1 q.2 ea m
      where
        some_length : (z : ℕ) → nat_eq z 0 ≡ false → nat_le 1 z ≡ true
        some_length z h = grind (arith, nat_tests)

        and_rest : (a b : Bool) → a ≡ true → (a && b) ≡ false → b ≡ false
        and_rest true b e h = h
        and_rest false b e h = absurd (false≢true e)

    by : (s : Option Bool) → Extends (with_declarator env (Some d) (record x { star = s }) k).variables vars →
        Extends (with_declarator env (Some d) (record x { star = s }) k).arrays arrs →
        declarator_misfits (Some d) (record x { star = s }) k ≡ false →
        (is_some s && (nat_eq x.dimensions 0 && not (is_some x.init))) ≡ false →
        Line P f ms scope env (lines_of (declarator_made env place sites (Some d) (record x { star = s }) ps).what)
        (with_declarator env (Some d) (record x { star = s }) k)
    by (Some fixed) ev ea m r = star fixed (nat_eq x.dimensions 0) ev m r
    by None ev ea m r = plain (nat_eq x.dimensions 0) refl ev ea m
