-- What one declarator does, by what it declares.
use Rattle.std.proofs.Common.{◌≡◌, ℕ, zero, suc, ◌+◌, ◌*◌, ◌^◌, ◌<◌, ◌≤◌, nat_eq, nat_le, List, [], ◌∷◌, ◌++◌, length}
use Rattle.std.proofs.Common.{Option, None, Some, Bool, true, false, not, ◌&&◌, ◌||◌, if◌then◌else◌, refl, ap, sym}
use Rattle.std.proofs.Common.{subst, arith, slice_get, inl}
use Rattle.std.proofs.lemmas.Bool.{false≢true}
use Rattle.std.proofs.lemmas.Bool.Decides.{nat_tests}
use Rattle.std.proofs.lemmas.Option.{none-some, same_Some}
use Rattle.wg_num.specs.declared.types.IntType.{IntType}
use Rattle.wg_num.specs.declared.types.IntType.TheVariants as types
use Rattle.wg_num.specs.declared.types.Place.{Place}
use Rattle.wg_num.specs.Types.{same_type}
use Rattle.wg_num.proofs.TypeLaws.{same_type_is}
use Rattle.cl_model.specs.declared.program.Space.{Space}
use Rattle.cl_model.specs.declared.program.Space.TheVariants as spaces
use Rattle.cl_model.specs.declared.program.VarKind.{VarKind}
use Rattle.cl_model.specs.declared.program.VarKind.TheVariants as var_kinds
use Rattle.cl_model.specs.Lists.{Each}
use Rattle.cl_model.specs.Tree as tree
use Rattle.cl_model.specs.Tree.{Function, Program, Expression, Expressions, Statements, empty}
use Rattle.cl_model.specs.Valid.{Scope, RootIs, HasType, NamesIn, NamesAmong, NamesInOptional, DeclaredFits}
use Rattle.cl_model.specs.Valid.{AllHaveType, number_of_values, IsScopedList, AllFit, AllExitsFit, all_declarations}
use Rattle.cl_tree.specs.Syntax.{Syntax}
use Rattle.cl_meaning.specs.declared.types.Declared.{Declared}
use Rattle.cl_meaning.specs.declared.kind.Each.TheVariants as each
use Rattle.cl_meaning.specs.declared.kind.Kind.{Kind}
use Rattle.cl_meaning.specs.declared.kind.Kind.TheVariants as kinds
use Rattle.cl_meaning.specs.declared.kind.Meaning.{Meaning}
use Rattle.cl_meaning.specs.declared.kind.Meaning.TheVariants as meanings
use Rattle.cl_meaning.specs.declared.constant.Constant.{Constant}
use Rattle.cl_meaning.specs.Constants.{constant_of}
use Rattle.cl_meaning.specs.Environment as environment
use Rattle.cl_meaning.specs.Environment.{Env, Variable, Array, at_unit, place_of}
use Rattle.cl_meaning.specs.Kinds.{is_some, is_number, same_space}
use Rattle.cl_model.specs.Sizes.{product}
use Rattle.cl_meaning.specs.Declarations.{Declarator, is_list, initialisers, kept_in, pointed_space}
use Rattle.cl_meaning.specs.Declarations.{array_in, with_variable, with_array, with_pointer, with_scalar}
use Rattle.cl_meaning.specs.Declarations.{with_elements, root_of, table_bytes, next_root, each_of, dims_of, firm}
use Rattle.cl_meaning.specs.Declarations.{is_length, most_elements, lengths_in, length_in, with_length}
use Rattle.cl_meaning.specs.Declarations.{length_of_constant, natural, allowed, counted_length}
use Rattle.cl_meaning.specs.Faults.{given, points_as, too_many_initialisers}
use Rattle.cl_meaning.specs.Typed.{values, Piece}
use Rattle.cl_meaning.specs.Expressions.{read, operand, expressions}
use Rattle.cl_meaning.specs.Statements.{alone, followed, set_value, initial, array_made, scalar_made, lines_of}
use Rattle.cl_check_sound.specs.Fits.{Holds, EachFits, KindFits, PieceFits, MeaningFits}
use Rattle.cl_check_sound.proofs.Assigning.{both_true, if_some}
use Rattle.cl_check_sound.proofs.Cases.{neither_first, neither_second}
use Rattle.cl_check_sound.proofs.Typing.{operand_typed}
use Rattle.cl_check_sound.proofs.Calls.{same_space_is}
use Rattle.cl_check_sound.proofs.Grown.{Extends, is_deep, deep_inside, each_append}
use Rattle.cl_check_sound.proofs.Naming.{MeaningScoped, operand_scoped}
use Rattle.cl_check_sound.specs.Erased.{array_of}
use Rattle.cl_check_sound.proofs.Facing.{Finals, next_variable, next_array, At, not_yet, at_variable, at_named}
use Rattle.cl_check_sound.proofs.Lining.{one_below, one_more, RootFits, Line}

length_more : {A : Type 0} (xs : List A) (x : A) → length (xs ++ x ∷ []) ≡ suc (length xs)
length_more [] x = refl
length_more (y ∷ xs) x = ap suc (length_more xs x)

-- ---- initialisers

-- an expression with its kind and its variables in scope
pub record ValueOk (P : Program) (f : Function) (scope : Scope) (p : Piece) : Type 0 where
  pub fits : PieceFits P f p
  pub names : NamesIn scope (read p.what)

-- a list with its values, which are of the type where all are numbers
pub record ListOk (P : Program) (f : Function) (scope : Scope) (t : IntType) (n : ℕ) (p : Piece) : Type 0 where
  pub es : List Expression
  pub is : p.what ≡ values es
  pub typed : given p.kind (λ a. not (is_number a)) ≡ false → AllHaveType P f (expressions es) t
  pub names : NamesAmong scope (expressions es)
  pub count : number_of_values (expressions es) ≡ n

-- the piece of an initialiser, if there is one
abbrev pub InitOk : Program → Function → Scope → IntType → Option Syntax → Option Piece → Option Kind → Type 0
InitOk P f scope t None q k = Unit {0}
InitOk P f scope t (Some s) q k =
    (p : Piece) × (q ≡ Some p) × (k ≡ p.kind) × (is_list (Some s) ≡ false → ValueOk P f scope p) ×
    (is_list (Some s) ≡ true → ListOk P f scope t (length (initialisers (Some s))) p)

-- ---- a variable

-- the next variable, with a value of its type or none
pub variable_line : (P : Program) (f : Function) (ms : List (List ℕ)) (vars : List Variable) (arrs : List Array)
    (scope : Scope) (env : Env) (name : List ℕ) (token : ℕ) (kind : VarKind) (m : Meaning) (v : Option Expression) →
    is_deep env.scopes ≡ true → At P f ms scope env → Finals f vars arrs →
    Extends (with_variable env name token kind m).variables vars →
    (Holds f (length env.variables) kind → DeclaredFits P f (length env.variables) v) → NamesInOptional scope v →
    (Holds f (length env.variables) kind → RootFits P f kind) →
    (Holds f (length env.variables) kind →
    (x : At P f ms (length env.variables ∷ scope) (with_variable env name token kind m)) × Unit {0}) →
    Line P f ms scope env (alone (tree.Declare (length env.variables) v)) (with_variable env name token kind m)
variable_line P f ms vars arrs scope env name token kind m v d a n e t s r g =
    let held = next_variable f vars arrs env (record { name = name; kind = kind; place = place_of env token }) n e in
    record {
      scope' = length env.variables ∷ scope;
      at = (g held).0;
      types' = (t held, tt);
      scoped = λ rest h. (not_yet scope (length env.variables) a.below, s, h);
      exits = λ x y. (tt, tt);
      declared = λ x. (let p = one_more x (length env.variables) in
          subst (λ z. ((if nat_eq (length env.variables) x then 1 else 0) + 0) +
          one_below x (length env.variables) ≡ one_below x z) (sym (length_more env.variables _)) (omega arith));
      roots = λ h. each_append (λ (z : Variable). RootFits P f z.kind) env.variables _ h (r held, tt);
    }

-- a pointer
pub pointer_line : (P : Program) (f : Function) (ms : List (List ℕ)) (vars : List Variable) (arrs : List Array)
    (scope : Scope) (env : Env) (d : Declared) (x : Declarator) (fixed : Bool) (p : Piece) (k : Option Kind)
    (kind : Kind) →
    is_deep env.scopes ≡ true → At P f ms scope env → Finals f vars arrs →
    Extends (with_pointer env d x fixed (root_of k)).variables vars → k ≡ Some kind → KindFits P f kind p.what →
    NamesIn scope (read p.what) → points_as d kind ≡ true →
    Line P f ms scope env (alone (tree.Declare (length env.variables) (Some (read p.what))))
    (with_pointer env d x fixed (root_of k))
pointer_line P f ms vars arrs scope env d x fixed p k (kinds.Pointer s e c r each.Element q) dp a n ex is h names w =
    let b = both_true (same_space s (pointed_space d)) (same_type e d.of) w in
    let root : RootIs P f (root_of k) (pointed_space d) d.of =
    subst (λ z. RootIs P f (root_of z) (pointed_space d) d.of) (sym is)
    (subst (λ z. RootIs P f r z d.of) (same_space_is s (pointed_space d) b.0)
    (subst (λ z. RootIs P f r s z) (same_type_is e d.of b.1) h.1)) in
    variable_line P f ms vars arrs scope env x.name x.token (var_kinds.Pointer (pointed_space d) d.of (root_of k))
    (meanings.Pointer (pointed_space d) d.of d.constant (root_of k) fixed (length env.variables))
    (Some (read p.what)) dp a n ex
    (λ held. (types.Long, (var_kinds.Pointer (pointed_space d) d.of (root_of k), held, refl), h.0)) names (λ held. root)
    (λ held. (
      at_variable P f ms scope env x.name x.token (var_kinds.Pointer (pointed_space d) d.of (root_of k))
          (meanings.Pointer (pointed_space d) d.of d.constant (root_of k) fixed (length env.variables)) dp
          (λ z. (held, root)) (inl refl) a,
      tt,
    ))
pointer_line P f ms vars arrs scope env d x fixed p k kind dp a n ex is h names w = absurd (false≢true w)

-- a value of a number's type
number_value : (P : Program) (f : Function) (scope : Scope) (t : IntType) (p : Piece) → ValueOk P f scope p →
    given p.kind (λ a. not (is_number a)) ≡ false → HasType P f (operand t p) t
number_value P f scope t p v g =
    by v.fits.kind v.fits.known v.fits.fits (subst (λ z. given z (λ a. not (is_number a)) ≡ false) v.fits.known g)
  where
    by : (k : Kind) → p.kind ≡ Some k → KindFits P f k p.what → not (is_number k) ≡ false → HasType P f (operand t p) t
    by (kinds.Number u q) e h m = operand_typed P f t u q p e h.0
    by (kinds.Pointer s e' c r i q) e h m = absurd (false≢true (sym m))
    by kinds.Nothing e h m = absurd (false≢true (sym m))

private_line : (P : Program) (f : Function) (ms : List (List ℕ)) (vars : List Variable) (arrs : List Array)
    (scope : Scope) (env : Env) (d : Declared) (x : Declarator) (v : Option Expression) →
    is_deep env.scopes ≡ true → At P f ms scope env → Finals f vars arrs →
    Extends (with_scalar env d x spaces.Private).variables vars →
    (Holds f (length env.variables) (var_kinds.Scalar d.of) → DeclaredFits P f (length env.variables) v) →
    NamesInOptional scope v →
    Line P f ms scope env (alone (tree.Declare (length env.variables) v)) (with_scalar env d x spaces.Private)
private_line P f ms vars arrs scope env d x v dp a n ex t s =
    variable_line P f ms vars arrs scope env x.name x.token (var_kinds.Scalar d.of)
    (meanings.Scalar d.of d.constant (length env.variables)) v dp a n ex t s (λ held. tt)
    (λ held. (
      at_variable P f ms scope env x.name x.token (var_kinds.Scalar d.of)
          (meanings.Scalar d.of d.constant (length env.variables)) dp (λ z. held) (inl refl) a,
      tt,
    ))

-- ---- an array

-- what an array of the function leaves
abbrev pub with_own : Env → Array → Meaning → Env
with_own env a m = environment.declare (record env { arrays = env.arrays ++ a ∷ [] }) a.name (firm m)

pub own_is : (env : Env) (a : Array) (bytes : List ℕ) (m : Meaning) → is_deep env.scopes ≡ true →
    with_array env a bytes m ≡ with_own env a m
own_is env a bytes m d = by (at_unit env) (deep_inside env d)
  where
    by : (b : Bool) → b ≡ false → (if b
        then environment.declare (record env { tables = env.tables ++ record { array = a; bytes = bytes } ∷ [] })
        a.name (firm m)
        else environment.declare (record env { arrays = env.arrays ++ a ∷ [] }) a.name (firm m)) ≡ with_own env a m
    by true e = absurd (false≢true (sym e))
    by false e = refl

-- a line that adds an array
own_line : (P : Program) (f : Function) (ms : List (List ℕ)) (scope : Scope) (env : Env) (a : Array) (m : Meaning)
    (ls : Statements) → is_deep env.scopes ≡ true → At P f ms scope env →
    ((q : List ℕ) → MeaningFits P f ms env.functions q m) → MeaningScoped scope m →
    AllFit P f ls → ((rest : Statements) → IsScopedList scope rest → IsScopedList scope (followed ls rest)) →
    ((x y : Bool) → AllExitsFit x y ls) → ((x : ℕ) → all_declarations ls x ≡ 0) →
    Line P f ms scope env ls (with_own env a m)
own_line P f ms scope env a m ls d at h s t r e z = record {
  scope' = scope;
  at = at_named P f ms scope env (with_own env a m) a.name m d refl refl refl (λ q e. h q) s at;
  types' = t;
  scoped = r;
  exits = e;
  declared = λ x. (let g = z x in omega arith);
  roots = λ h. h;
}

local_line : (P : Program) (f : Function) (ms : List (List ℕ)) (scope : Scope) (env : Env) (a : Array) (m : Meaning) →
    is_deep env.scopes ≡ true → At P f ms scope env → ((q : List ℕ) → MeaningFits P f ms env.functions q m) →
    MeaningScoped scope m → Line P f ms scope env empty (with_own env a m)
local_line P f ms scope env a m d at h s =
    own_line P f ms scope env a m empty d at h s tt (λ rest k. k) (λ x y. tt) (λ x. refl)

fill_line : (P : Program) (f : Function) (ms : List (List ℕ)) (scope : Scope) (env : Env) (a : Array) (m : Meaning)
    (site n : ℕ) (es : Expressions) → is_deep env.scopes ≡ true → At P f ms scope env →
    ((q : List ℕ) → MeaningFits P f ms env.functions q m) → MeaningScoped scope m →
    slice_get f.arrays n ≡ Some (array_of a) → a.space ≡ spaces.Private → AllHaveType P f es a.element →
    number_of_values es ≤ product a.dims → NamesAmong scope es →
    Line P f ms scope env (alone (tree.Fill site n es)) (with_own env a m)
fill_line P f ms scope env a m site n es d at h s g i t c r =
    own_line P f ms scope env a m (alone (tree.Fill site n es)) d at h s (
      (array_of a, g, i, t, c),
      tt,
    ) (λ rest k. (r, k)) (λ x y. (tt, tt)) (λ x. refl)

-- ---- lengths

abbrev IsCount : ℕ → Type 0
IsCount n = (1 ≤ n) × (n ≤ 1048576)

counted : (n : ℕ) → is_length n ≡ true → IsCount n
counted n h = let b = both_true (nat_le 1 n) (nat_le n most_elements) h in (le_of 1 n b.0, le_of n 1048576 b.1)
  where
    le_of : (m n : ℕ) → nat_le m n ≡ true → m ≤ n
    le_of m n h = grind (arith, nat_tests)

length_counted : (t : Syntax) (n : ℕ) → length_in t ≡ Some n → IsCount n
length_counted t n h = by (constant_of t) h
  where
    by : (o : Option Constant) → length_of_constant o ≡ Some n → IsCount n
    by None h = absurd (none-some n h)
    by (Some c) h = let p =
        if_some (is_length (natural c.value)) (natural c.value) n h in subst IsCount p.1 (counted (natural c.value) p.0)

lengths_counted : (ts : List Syntax) (ns : List ℕ) → lengths_in ts ≡ Some ns → Each IsCount ns
lengths_counted [] ns h = subst (Each IsCount) (same_Some _ _ h) tt
lengths_counted (t ∷ ts) ns h =
    by (length_in t) (lengths_in ts) (λ n e. length_counted t n e) (λ ms e. lengths_counted ts ms e) h
  where
    by : (o : Option ℕ) (os : Option (List ℕ)) → ((n : ℕ) → o ≡ Some n → IsCount n) →
        ((ms : List ℕ) → os ≡ Some ms → Each IsCount ms) → with_length o os ≡ Some ns → Each IsCount ns
    by (Some n) (Some ms) g k h = subst (Each IsCount) (same_Some _ _ h) (g n refl, k ms refl)
    by None os g k h = absurd (none-some ns h)
    by (Some n) None g k h = absurd (none-some ns h)

-- the lengths of rows and planes are longs
each_fits : (ns : List ℕ) → Each IsCount ns → product ns ≤ 1048576 → EachFits (each_of ns)
each_fits [] h p = tt
each_fits (a ∷ []) h p = tt
each_fits (a ∷ (b ∷ [])) h p = let q = h.1.0.1 in omega arith
each_fits (zero ∷ (b ∷ (c ∷ []))) h p = let q = h.0.0 in absurd (omega arith)
each_fits (suc a ∷ (b ∷ (c ∷ []))) h p = (let q = h.1.0.1 in omega arith, plane a b c p)
  where
    plane : (a b c : ℕ) → suc a * (b * (c * 1)) ≤ 1048576 → b * c < 2 ^ 63
    plane a b c p = omega arith
each_fits (a ∷ (b ∷ (c ∷ (d ∷ ds)))) h p = tt

le_of : (m n : ℕ) → nat_le m n ≡ true → m ≤ n
le_of m n h = grind (arith, nat_tests)

pub dims_fit : (x : Declarator) (dims : List ℕ) → dims_of x ≡ Some dims → EachFits (each_of dims)
dims_fit x dims h = by (nat_eq (length x.lengths) x.dimensions) h
  where
    known : (o : Option (List ℕ)) → ((ns : List ℕ) → o ≡ Some ns → Each IsCount ns) → allowed o ≡ Some dims →
        EachFits (each_of dims)
    known None g h = absurd (none-some dims h)
    known (Some ns) g h =
        let p = if_some (nat_le (length ns) 3 && nat_le (product ns) most_elements) ns dims h in
        let b = both_true (nat_le (length ns) 3) (nat_le (product ns) most_elements) p.0 in
        subst (λ z. EachFits (each_of z)) p.1 (each_fits ns (g ns refl) (le_of (product ns) 1048576 b.1))

    by : (b : Bool) → (if b then allowed (lengths_in x.lengths) else counted_length x) ≡ Some dims →
        EachFits (each_of dims)
    by true h = known (lengths_in x.lengths) (λ ns e. lengths_counted x.lengths ns e) h
    by false h = let p = if_some (nat_eq x.dimensions 1 && is_list x.init && is_length (length (initialisers x.init)))
        (length (initialisers x.init) ∷ []) dims h in subst (λ z. EachFits (each_of z)) p.1 tt

-- the values are no more than the elements
pub count_fits : (x : Declarator) (o : Option (List ℕ)) → too_many_initialisers x o ≡ false → (dims : List ℕ) ×
    (o ≡ Some dims) × (length (initialisers x.init) ≤ product dims)
count_fits x None h = absurd (false≢true (sym h))
count_fits x (Some dims) h = (dims, refl, by (length (initialisers x.init)) (product dims) h)
  where
    by : (m n : ℕ) → not (nat_le m n) ≡ false → m ≤ n
    by m n h = le_of m n (on (nat_le m n) h)
      where
        on : (b : Bool) → not b ≡ false → b ≡ true
        on true h = refl
        on false h = absurd (false≢true (sym h))

-- ---- a declarator

-- local or private memory
abbrev pub is_own : Space → Bool
is_own spaces.Local = true
is_own spaces.Private = true
is_own s = false

pub kept_own : (env : Env) (d : Declared) → is_deep env.scopes ≡ true → is_own (kept_in env d) ≡ true
kept_own env d dp = on d.space
  where
    by : (b : Bool) → b ≡ false → (s : Space) → is_own s ≡ true → is_own (if b then spaces.Constant else s) ≡ true
    by true e s h = absurd (false≢true (sym e))
    by false e s h = h

    on : (s : Option Space) → is_own (kept_in env (record d { space = s })) ≡ true
    on None = by (at_unit env) (deep_inside env dp) spaces.Private refl
    on (Some spaces.Local) = by (at_unit env) (deep_inside env dp) spaces.Local refl
    on (Some spaces.Private) = by (at_unit env) (deep_inside env dp) spaces.Private refl
    on (Some spaces.Global) = by (at_unit env) (deep_inside env dp) spaces.Private refl
    on (Some spaces.Constant) = by (at_unit env) (deep_inside env dp) spaces.Private refl

pub scalar_any : (P : Program) (f : Function) (ms : List (List ℕ)) (vars : List Variable) (arrs : List Array)
    (scope : Scope) (env : Env) (d : Declared) (x : Declarator) (v : Option Expression) (sites : List Place)
    (s : Space) → is_own s ≡ true →
    is_deep env.scopes ≡ true → At P f ms scope env → Finals f vars arrs →
    Extends (with_scalar env d x s).variables vars → Extends (with_scalar env d x s).arrays arrs →
    (Holds f (length env.variables) (var_kinds.Scalar d.of) → DeclaredFits P f (length env.variables) v) →
    NamesInOptional scope v →
    Line P f ms scope env (lines_of (scalar_made env sites v s).what) (with_scalar env d x s)
scalar_any P f ms vars arrs scope env d x v sites spaces.Private o dp a n ev ea t r =
    private_line P f ms vars arrs scope env d x v dp a n ev t r
scalar_any P f ms vars arrs scope env d x v sites spaces.Local o dp a n ev ea t r =
    let m = meanings.Object spaces.Local d.of d.constant (next_root env spaces.Local) in
    let b = array_in env spaces.Local d x (1 ∷ []) in
    let e = own_is env b (table_bytes d (1 ∷ []) x) m dp in
    let g = next_array f vars arrs env b n (subst (λ (z : Env). Extends z.arrays arrs) e ea) in
    subst (λ z. Line P f ms scope env empty z) (sym e) (local_line P f ms scope env b m dp a (λ q. (
      array_of b,
      g,
      refl,
      refl,
      refl,
    )) tt)
scalar_any P f ms vars arrs scope env d x v sites _ o dp a n ev ea t r = absurd (false≢true o)

pub array_any : (P : Program) (f : Function) (ms : List (List ℕ)) (vars : List Variable) (arrs : List Array)
    (scope : Scope) (env : Env) (d : Declared) (x : Declarator) (dims : List ℕ) (es : List Expression) (place : Place)
    (sites : List Place) (s : Space) → is_own s ≡ true →
    is_deep env.scopes ≡ true → At P f ms scope env → Finals f vars arrs →
    Extends (with_elements env d x s dims).arrays arrs → EachFits (each_of dims) →
    AllHaveType P f (expressions es) d.of → NamesAmong scope (expressions es) →
    number_of_values (expressions es) ≤ product dims →
    Line P f ms scope env (lines_of (array_made env place sites es s).what) (with_elements env d x s dims)
array_any P f ms vars arrs scope env d x dims es place sites spaces.Private o dp a n ea i t r c =
    let m = meanings.Array spaces.Private d.of d.constant (next_root env spaces.Private) (each_of dims) in
    let b = array_in env spaces.Private d x dims in
    let e = own_is env b (table_bytes d dims x) m dp in
    let g = next_array f vars arrs env b n (subst (λ (z : Env). Extends z.arrays arrs) e ea) in
    subst (λ z. Line P f ms scope env (alone (tree.Fill (length sites) (length env.arrays) (expressions es))) z) (sym e)
    (fill_line P f ms scope env b m (length sites) (length env.arrays) (expressions es) dp a
    (λ q. ((array_of b, g, refl, refl, refl), i)) tt g refl t c r)
array_any P f ms vars arrs scope env d x dims es place sites spaces.Local o dp a n ea i t r c =
    let m = meanings.Array spaces.Local d.of d.constant (next_root env spaces.Local) (each_of dims) in
    let b = array_in env spaces.Local d x dims in
    let e = own_is env b (table_bytes d dims x) m dp in
    let g = next_array f vars arrs env b n (subst (λ (z : Env). Extends z.arrays arrs) e ea) in
    subst (λ z. Line P f ms scope env empty z) (sym e)
    (local_line P f ms scope env b m dp a (λ q. ((array_of b, g, refl, refl, refl), i)) tt)
array_any P f ms vars arrs scope env d x dims es place sites _ o dp a n ea i t r c = absurd (false≢true o)

-- the value of a scalar
pub scalar_value : (P : Program) (f : Function) (scope : Scope) (t : IntType) (x : ℕ) (init : Option Syntax)
    (ps : List Piece) (k : Option Kind) (y : Declarator) → y.init ≡ init →
    InitOk P f scope t init (initial (record y { init = init }) ps) k →
    (is_list init || (is_some init && given k (λ a. not (is_number a)))) ≡ false →
    (Holds f x (var_kinds.Scalar t) →
    DeclaredFits P f x (set_value (operand t) (initial (record y { init = init }) ps))) ×
    NamesInOptional scope (set_value (operand t) (initial (record y { init = init }) ps))
scalar_value P f scope t x None ps k y e i m = ((λ h. (t, (var_kinds.Scalar t, h, refl))), tt)
scalar_value P f scope t x (Some s) ps k y e (p, q, w, v, l) m =
    let z = v (neither_first (is_list (Some s)) (given k (λ a. not (is_number a))) m) in
    let g = subst (λ z. given z (λ a. not (is_number a)) ≡ false) w
    (neither_second (is_list (Some s)) (given k (λ a. not (is_number a))) m) in
    subst (λ o. (Holds f x (var_kinds.Scalar t) → DeclaredFits P f x (set_value (operand t) o)) ×
    NamesInOptional scope (set_value (operand t) o)) (sym q)
    ((λ h. (t, (var_kinds.Scalar t, h, refl), number_value P f scope t p z g)), operand_scoped scope t p z.names)
