-- The constants of a unit are valid tables.
use Rattle.std.proofs.Common.{◌≡◌, ℕ, ◌+◌, ◌*◌, ◌-◌, ◌≤◌, nat_eq, nat_le, List, [], ◌∷◌, ◌++◌, length, map, take}
use Rattle.std.proofs.Common.{replicate, Option, None, Some, Bool, true, false, not, ◌&&◌, ◌||◌, if◌then◌else◌, refl}
use Rattle.std.proofs.Common.{ap, sym, ◌∙◌, subst, arith, slice_get, length-append}
use Rattle.std.proofs.lemmas.Bool.{false≢true}
use Rattle.std.proofs.lemmas.Bool.Decides.{nat_tests}
use Rattle.std.proofs.lemmas.List.{length-replicate}
use Rattle.std.proofs.lemmas.Option.{same_Some}
use Rattle.std.specs.Str.{bytes_eq}
use Rattle.wg_num.specs.declared.types.IntType.{IntType}
use Rattle.wg_num.specs.declared.types.Place.{Place}
use Rattle.wg_num.specs.Bytes.{size_of}
use Rattle.wg_num.specs.Wrap.{wrap_of}
use Rattle.wg_num.proofs.ByteLaws.{length-bytes}
use Rattle.cl_model.specs.declared.program.Space.{Space}
use Rattle.cl_model.specs.declared.program.Space.TheVariants as spaces
use Rattle.cl_model.specs.declared.program.Root.TheVariants as roots
use Rattle.cl_model.specs.Lists.{Each}
use Rattle.cl_model.specs.Tree.{Function, Program}
use Rattle.cl_model.specs.Valid.{IsValidTable}
use Rattle.cl_tree.specs.declared.tree.Form.TheVariants as forms
use Rattle.cl_tree.specs.Syntax.{Syntax, node, Forest, none, more, last_of}
use Rattle.cl_meaning.specs.declared.types.Declared.{Declared}
use Rattle.cl_meaning.specs.Spelling.{declared_in}
use Rattle.cl_meaning.specs.declared.constant.Constant.{Constant}
use Rattle.cl_meaning.specs.Constants.{constant_of}
use Rattle.cl_meaning.specs.declared.fault.Fault.TheVariants as faults
use Rattle.cl_meaning.specs.declared.kind.Entry.{Entry}
use Rattle.cl_meaning.specs.declared.kind.Kind.{Kind}
use Rattle.cl_meaning.specs.declared.kind.Meaning.{Meaning}
use Rattle.cl_meaning.specs.declared.kind.Meaning.TheVariants as meanings
use Rattle.cl_meaning.specs.declared.kind.Role.{Role}
use Rattle.cl_meaning.specs.declared.kind.Role.TheVariants as roles
use Rattle.cl_meaning.specs.Environment as environment
use Rattle.cl_meaning.specs.Environment.{Env, Array, Table, at_unit, found_in, in_last, into_last}
use Rattle.cl_meaning.specs.Environment.{meaning_in, is_firm, is_declared, with_entry}
use Rattle.cl_meaning.specs.Kinds.{is_some, is_number}
use Rattle.cl_meaning.specs.Declarations.{Declarator, declarator_in, is_list, initialisers, initial_values, listed}
use Rattle.cl_model.specs.Sizes.{product}
use Rattle.cl_meaning.specs.Declarations.{parts_of, kept_in, array_in, with_array, with_scalar}
use Rattle.cl_meaning.specs.Declarations.{with_elements, with_declarator, table_bytes, filled, all_bytes}
use Rattle.cl_meaning.specs.Declarations.{constant_bytes, each_of, dims_of, or_none, firm, last_kind}
use Rattle.cl_meaning.specs.Visible.{later, closed, behind, behind_parts, kind_of}
use Rattle.cl_meaning.specs.Faults.{Asked, given, declarator_misfits, too_many_initialisers, no_program_variable}
use Rattle.cl_meaning.specs.Meant.{parts_meant}
use Rattle.cl_check_sound.specs.Shape.{IsDeclarator, AreDeclarators, IsDeclaration}
use Rattle.cl_check_sound.specs.Sound.{SoundTree, SoundParts}
use Rattle.cl_check_sound.specs.Erased.{table_of}
use Rattle.cl_check_sound.specs.Fits.{EachFits, MeaningFits, Fits}
use Rattle.cl_check_sound.proofs.Cases.{neither_first, neither_second}
use Rattle.cl_check_sound.proofs.Plain.{kinds_here}
use Rattle.cl_check_sound.proofs.Typed.{type_declares}
use Rattle.cl_check_sound.proofs.Grown.{Extends, extends_same, extends_then, each_append}
use Rattle.cl_check_sound.proofs.Growth.{next_declarator}
use Rattle.cl_check_sound.proofs.Naming.{MeaningScoped, Scoped}
use Rattle.cl_check_sound.proofs.Facing.{element_behind}
use Rattle.cl_check_sound.proofs.Declaring.{count_fits, dims_fit}
use Rattle.cl_check_sound.proofs.Declarators.{declarator_sound, declarator_fits, declarator_env, declare_leaves}
use Rattle.cl_check_sound.proofs.Parts.{typed_env, declare_behind, declare_sound}

-- ---- what is visible in the unit

abbrev pub OneScope : Env → Type 0
OneScope u = (s : environment.Scope) × (u.scopes ≡ s ∷ [])

pub unit_is : (u : Env) → OneScope u → at_unit u ≡ true
unit_is u (s, e) = by u.scopes e
  where
    by : (ss : List environment.Scope) → ss ≡ s ∷ [] → at_unit (record u { scopes = ss }) ≡ true
    by ss e = subst (λ z. at_unit (record u { scopes = z }) ≡ true) (sym e) refl

-- all that is visible fits the program, in every function
abbrev pub AtUnit : Program → List (List ℕ) → Env → Type 0
AtUnit P ms u = ((f : Function) → Fits P f ms u) × Scoped [] u

named_by : (s : environment.Scope) (name : List ℕ) (e : Entry) (Q : List ℕ → Meaning → Type 0) →
    ((q : List ℕ) → bytes_eq name q ≡ true → Q q e.meaning) →
    ((q : List ℕ) (n : Meaning) → meaning_in (found_in (s ∷ []) q) ≡ Some n → Q q n) →
    (q : List ℕ) (n : Meaning) → meaning_in (found_in (into_last (s ∷ []) name e) q) ≡ Some n → Q q n
named_by s name e Q new old q n k = by (bytes_eq name q) refl k
  where
    by : (b : Bool) → bytes_eq name q ≡ b → meaning_in (if b then Some e else s q) ≡ Some n → Q q n
    by true h k = subst (Q q) (same_Some _ _ k) (new q h)
    by false h k = old q n k

-- behind one more name
pub unit_named : (P : Program) (ms : List (List ℕ)) (u later : Env) (name : List ℕ) (e : Entry) → OneScope u →
    later.scopes ≡ into_last u.scopes name e → later.functions ≡ u.functions →
    ((f : Function) (q : List ℕ) → bytes_eq name q ≡ true → MeaningFits P f ms u.functions q e.meaning) →
    MeaningScoped [] e.meaning → AtUnit P ms u → AtUnit P ms later
unit_named P ms u later name e (s, us) ls lf new ns a =
    let same : later.scopes ≡ into_last (s ∷ []) name e = ls ∙ ap (λ z. into_last z name e) us in (
      (λ f q n k. subst (λ z. MeaningFits P f ms z q n) (sym lf)
          (named_by s name e (λ q n. MeaningFits P f ms u.functions q n) (new f)
          (λ q n h. a.0 f q n (ap (λ z. meaning_in (found_in z q)) us ∙ h)) q n
          (ap (λ z. meaning_in (found_in z q)) (sym same) ∙ k))),
      (λ q n k. named_by s name e (λ q n. MeaningScoped [] n) (λ q h. ns)
          (λ q n h. a.1 q n (ap (λ z. meaning_in (found_in z q)) us ∙ h)) q n
          (ap (λ z. meaning_in (found_in z q)) (sym same) ∙ k)),
    )

-- what a line of the unit leaves
pub record UnitGrown (u later : Env) : Type 0 where
  pub frame : later ≡ record u { scopes = later.scopes; tables = later.tables }
  pub one : OneScope u → OneScope later
  pub tables : Extends u.tables later.tables
  pub firm' : (q : List ℕ) → OneScope u → is_declared u q ≡ true → is_declared later q ≡ true

pub unit_same : (u : Env) → UnitGrown u u
unit_same u = record { frame = refl; one = λ h. h; tables = extends_same u.tables; firm' = λ q o h. h }

pub unit_then : (a b c : Env) → UnitGrown a b → UnitGrown b c → UnitGrown a c
unit_then a b c g h = record {
  frame = h.frame ∙ ap (λ (z : Env). record z { scopes = c.scopes; tables = c.tables }) g.frame;
  one = λ o. h.one (g.one o);
  tables = extends_then a.tables b.tables c.tables g.tables h.tables;
  firm' = λ q o k. h.firm' q (g.one o) (g.firm' q o k);
}

firm_more : (s : environment.Scope) (name : List ℕ) (m : Meaning) (q : List ℕ) → is_firm (s q) ≡ true →
    is_firm (in_last (into_last (s ∷ []) name (firm m)) q) ≡ true
firm_more s name m q h = by (bytes_eq name q)
  where
    by : (b : Bool) → is_firm (if b then Some (firm m) else s q) ≡ true
    by true = refl
    by false = h

pub firm_named : (u later : Env) (name : List ℕ) (m : Meaning) (q : List ℕ) → OneScope u →
    later.scopes ≡ into_last u.scopes name (firm m) → is_declared u q ≡ true → is_declared later q ≡ true
firm_named u later name m q (s, us) e h =
    ap (λ z. is_firm (in_last z q)) (e ∙ ap (λ z. into_last z name (firm m)) us) ∙
    firm_more s name m q (ap (λ z. is_firm (in_last z q)) (sym us) ∙ h)

pub one_named : (u later : Env) (name : List ℕ) (e : Entry) → later.scopes ≡ into_last u.scopes name e → OneScope u →
    OneScope later
one_named u later name e h (s, us) = (with_entry s name e, h ∙ ap (λ z. into_last z name e) us)

-- ---- one table more

abbrev pub with_table : Env → Array → List ℕ → Meaning → Env
with_table u a bytes m =
    environment.declare (record u { tables = u.tables ++ record { array = a; bytes = bytes } ∷ [] }) a.name (firm m)

table_is : (u : Env) (a : Array) (bytes : List ℕ) (m : Meaning) → OneScope u →
    with_array u a bytes m ≡ with_table u a bytes m
table_is u a bytes m o = ap (λ b. if b
    then with_table u a bytes m
    else environment.declare (record u { arrays = u.arrays ++ a ∷ [] }) a.name (firm m)) (unit_is u o)

abbrev pub AllTables : List Table → Type 0
AllTables ts = Each (λ (t : Table). IsValidTable (table_of t)) ts

pub record UnitLine (P : Program) (ms : List (List ℕ)) (tabs : List Table) (u later : Env) : Type 0 where
  pub grown : UnitGrown u later
  pub at : Extends later.tables tabs → AtUnit P ms u → AtUnit P ms later
  pub valid : AllTables u.tables → AllTables later.tables

table_line : (P : Program) (ms : List (List ℕ)) (tabs : List Table) (u : Env) (a : Array) (bytes : List ℕ)
    (m : Meaning) → P.tables ≡ map table_of tabs → OneScope u →
    IsValidTable (table_of (record { array = a; bytes = bytes })) →
    (slice_get P.tables (length u.tables) ≡ Some (table_of (record { array = a; bytes = bytes })) →
    (f : Function) (q : List ℕ) → MeaningFits P f ms u.functions q m) → MeaningScoped [] m →
    UnitLine P ms tabs u (with_table u a bytes m)
table_line P ms tabs u a bytes m pt o v fits ns = record {
  grown = record {
    frame = refl;
    one = one_named u (with_table u a bytes m) a.name (firm m) refl;
    tables = (_, refl);
    firm' = λ q h k. firm_named u (with_table u a bytes m) a.name m q h refl k;
  };
  at = λ (zs, e) au. unit_named P ms u (with_table u a bytes m) a.name (firm m) o refl refl
      (λ f q h. fits (ap (λ z. slice_get z (length u.tables)) (pt ∙ ap (map table_of) e) ∙
      element_behind table_of u.tables (record { array = a; bytes = bytes }) zs) f q) ns au;
  valid = λ h. each_append (λ (t : Table). IsValidTable (table_of t)) u.tables (record {
    array = a;
    bytes = bytes;
  } ∷ []) h (v, tt);
}

-- ---- the bytes of a table

constant_small : (t : IntType) (o : Option Constant) → length (constant_bytes t o) ≤ size_of t
constant_small t None = omega arith
constant_small t (Some c) = let e = length-bytes t (wrap_of t c.value) in omega arith

bytes_small : (t : IntType) (ps : List Syntax) → length (all_bytes t ps) ≤ length ps * size_of t
bytes_small t [] = omega arith
bytes_small t (p ∷ ps) =
    let a = constant_small t (constant_of p) in
    let b = bytes_small t ps in
    let c = length-append (constant_bytes t (constant_of p)) (all_bytes t ps) in
    omega arith

mul_more : (a b c : ℕ) → a ≤ b → a * c ≤ b * c
mul_more a b c h = let e : b ≡ a + (b - a) = omega arith in subst (λ z. a * c ≤ z * c) (sym e) (omega arith)

filled_length : (n : ℕ) (bytes : List ℕ) → length bytes ≤ n → length (filled n bytes) ≡ n
filled_length n bytes h = let a = length-append bytes (replicate (n - length bytes) 0) in let z : ℕ = 0 in
    let b : length (replicate (n - length bytes) z) ≡ n - length bytes = length-replicate (n - length bytes) z in
    omega arith

table_valid : (u : Env) (d : Declared) (x : Declarator) (dims : List ℕ) →
    length (initial_values x.init) ≤ product dims →
    IsValidTable (table_of (record { array = array_in u spaces.Constant d x dims; bytes = table_bytes d dims x }))
table_valid u d x dims h =
    let a = bytes_small d.of (initial_values x.init) in
    let b = mul_more (length (initial_values x.init)) (product dims) (size_of d.of) h in
    record {
      constant = refl;
      size = filled_length (product dims * size_of d.of)
          (all_bytes d.of (initial_values x.init)) (omega arith);
    }

scalar_values : (init : Option Syntax) (g : Bool) → (is_list init || g) ≡ false → length (initial_values init) ≤ 1
scalar_values None g h = omega arith
scalar_values (Some t) g h = by (is_list (Some t)) (neither_first (is_list (Some t)) g h)
  where
    by : (b : Bool) → b ≡ false → length (if b then listed (parts_of t) else t ∷ []) ≤ 1
    by true e = absurd (false≢true (sym e))
    by false e = omega arith

array_values : (init : Option Syntax) (g : Bool) (n : ℕ) → (is_some init && (not (is_list init) || g)) ≡ false →
    length (initialisers init) ≤ n → length (initial_values init) ≤ n
array_values None g n h l = omega arith
array_values (Some t) g n h l = by (is_list (Some t)) (neither_first (not (is_list (Some t))) g h)
  where
    by : (b : Bool) → not b ≡ false → length (if b then listed (parts_of t) else t ∷ []) ≤ n
    by true e = l
    by false e = absurd (false≢true (sym e))

-- ---- a declarator of the unit

kept_unit : (u : Env) (d : Declared) → OneScope u → kept_in u d ≡ spaces.Constant
kept_unit u d o = by d.space
  where
    by : (s : Option Space) → kept_in u (record d { space = s }) ≡ spaces.Constant
    by None = ap (λ b. if b then spaces.Constant else spaces.Private) (unit_is u o)
    by (Some spaces.Local) = ap (λ b. if b then spaces.Constant else spaces.Local) (unit_is u o)
    by (Some spaces.Global) = ap (λ b. if b then spaces.Constant else spaces.Private) (unit_is u o)
    by (Some spaces.Constant) = ap (λ b. if b then spaces.Constant else spaces.Private) (unit_is u o)
    by (Some spaces.Private) = ap (λ b. if b then spaces.Constant else spaces.Private) (unit_is u o)

scalar_unit : (P : Program) (ms : List (List ℕ)) (tabs : List Table) (u : Env) (d : Declared) (x : Declarator)
    (s : Space) → s ≡ spaces.Constant → P.tables ≡ map table_of tabs → OneScope u →
    length (initial_values x.init) ≤ 1 → UnitLine P ms tabs u (with_scalar u d x s)
scalar_unit P ms tabs u d x s e pt o l =
    let a = array_in u spaces.Constant d x (1 ∷ []) in
    let b = table_bytes d (1 ∷ []) x in
    let m = meanings.Object spaces.Constant d.of d.constant (roots.Constant (length u.tables)) in
    subst (λ z. UnitLine P ms tabs u (with_scalar u d x z)) (sym e)
    (subst (λ z. UnitLine P ms tabs u z) (sym (table_is u a b m o))
    (table_line P ms tabs u a b m pt o (table_valid u d x (1 ∷ []) (omega arith))
    (λ h f q. (table_of (record { array = a; bytes = b }), h, refl, refl)) tt))

array_unit : (P : Program) (ms : List (List ℕ)) (tabs : List Table) (u : Env) (d : Declared) (x : Declarator)
    (dims : List ℕ) (s : Space) → s ≡ spaces.Constant → P.tables ≡ map table_of tabs → OneScope u →
    length (initial_values x.init) ≤ product dims → EachFits (each_of dims) →
    UnitLine P ms tabs u (with_elements u d x s dims)
array_unit P ms tabs u d x dims s e pt o l i =
    let a = array_in u spaces.Constant d x dims in
    let b = table_bytes d dims x in
    let m = meanings.Array spaces.Constant d.of d.constant (roots.Constant (length u.tables)) (each_of dims) in
    subst (λ z. UnitLine P ms tabs u (with_elements u d x z dims)) (sym e)
    (subst (λ z. UnitLine P ms tabs u z) (sym (table_is u a b m o))
    (table_line P ms tabs u a b m pt o (table_valid u d x dims l)
    (λ h f q. ((table_of (record { array = a; bytes = b }), h, refl, refl), i)) tt))

declarator_unit : (P : Program) (ms : List (List ℕ)) (tabs : List Table) (u : Env) (d : Declared) (x : Declarator)
    (k : Option Kind) → P.tables ≡ map table_of tabs → OneScope u → declarator_misfits (Some d) x k ≡ false →
    no_program_variable d x ≡ false → (nat_le 1 x.dimensions && too_many_initialisers x (dims_of x)) ≡ false →
    UnitLine P ms tabs u (with_declarator u (Some d) x k)
declarator_unit P ms tabs u d x k pt o m v c = by x.star m (neither_first (is_some x.star) _ (neither_second _ _ v))
  where
    elements : (dims : List ℕ) → dims_of x ≡ Some dims → length (initialisers x.init) ≤ product dims →
        (is_some x.init && (not (is_list x.init) || given k (λ a. not (is_number a)))) ≡ false →
        UnitLine P ms tabs u (with_elements u d x (kept_in u d) (or_none (dims_of x)))
    elements dims e l m = subst (λ z. UnitLine P ms tabs u (with_elements u d x (kept_in u d) (or_none z))) (sym e)
        (array_unit P ms tabs u d x dims (kept_in u d) (kept_unit u d o) pt o
        (array_values x.init (given k (λ a. not (is_number a))) (product dims) m l) (dims_fit x dims e))

    plain : (b : Bool) → nat_eq x.dimensions 0 ≡ b →
        (if b then is_list x.init || (is_some x.init && given k (λ a. not (is_number a))) else (is_some x.init &&
        (not (is_list x.init) || given k (λ a. not (is_number a))))) ≡ false →
        UnitLine P ms tabs u (if b then with_scalar u d x (kept_in u d) else with_elements u d x (kept_in u d)
        (or_none (dims_of x)))
    plain true e m = scalar_unit P ms tabs u d x (kept_in u d) (kept_unit u d o) pt o
        (scalar_values x.init (is_some x.init && given k (λ a. not (is_number a))) m)
    plain false e m =
        let t = and_rest (nat_le 1 x.dimensions) (too_many_initialisers x (dims_of x)) (some_length x.dimensions e) c in
        let q = count_fits x (dims_of x) t in
        elements q.0 q.1 q.2 m
      where
        some_length : (z : ℕ) → nat_eq z 0 ≡ false → nat_le 1 z ≡ true
        some_length z h = grind (arith, nat_tests)

        and_rest : (a b : Bool) → a ≡ true → (a && b) ≡ false → b ≡ false
        and_rest true b e h = h
        and_rest false b e h = absurd (false≢true e)

    by : (s : Option Bool) → declarator_misfits (Some d) (record x { star = s }) k ≡ false → is_some s ≡ false →
        UnitLine P ms tabs u (with_declarator u (Some d) (record x { star = s }) k)
    by (Some fixed) m r = absurd (false≢true (sym r))
    by None m r = plain (nat_eq x.dimensions 0) refl m

given_some : (o : Option Declared) (d : Declared) (x : Declarator) (b : Bool) → o ≡ Some d → b ≡ true →
    (b && given o (λ d. no_program_variable d x)) ≡ false → no_program_variable d x ≡ false
given_some o d x b e t h = subst (λ z. given z (λ d. no_program_variable d x) ≡ false) e
    (and_rest b (given o (λ d. no_program_variable d x)) t h)
  where
    and_rest : (a b : Bool) → a ≡ true → (a && b) ≡ false → b ≡ false
    and_rest true b e h = h
    and_rest false b e h = absurd (false≢true e)

one_unit : (P : Program) (asked : Asked) (tabs : List Table) (u : Env) (role : Role) (d : Declared) (t : Syntax) →
    IsDeclarator t → SoundTree asked u role t → u.declared ≡ Some d → P.tables ≡ map table_of tabs → OneScope u →
    UnitLine P asked.missing tabs u (behind u t)
one_unit P asked tabs u role d (node forms.DeclaratorNode w f l parts) h s e pt o =
    let z = declarator_sound asked u role w f l parts h s in
    let x = declarator_in w f parts in
    subst (λ y. UnitLine P asked.missing tabs u y) (sym (declarator_env u d w f l parts h e))
    (declarator_unit P asked.missing tabs u d x (last_kind (kinds_here u parts)) pt o
    (declarator_fits asked u role d w f parts e (z faults.OperandTypes))
    (given_some u.declared d x (at_unit u) e (unit_is u o) (z faults.ProgramVariable)) (z faults.ArrayLength))
one_unit P asked tabs u role d t h s e pt o = absurd h

line_same : (P : Program) (ms : List (List ℕ)) (tabs : List Table) (u : Env) → UnitLine P ms tabs u u
line_same P ms tabs u = record { grown = unit_same u; at = λ e a. a; valid = λ h. h }

pub line_after : (P : Program) (ms : List (List ℕ)) (tabs : List Table) (a b c : Env) → UnitLine P ms tabs a b →
    UnitLine P ms tabs b c → UnitLine P ms tabs a c
line_after P ms tabs a b c x y = record {
  grown = unit_then a b c x.grown y.grown;
  at = λ e h. y.at e (x.at (extends_then b.tables c.tables tabs y.grown.tables e) h);
  valid = λ h. y.valid (x.valid h);
}

no_declarator : (u : Env) (sites : List Place) → (behind_parts u forms.DeclareNode false none ≡ u) ×
    ((parts_meant u forms.DeclareNode false sites none).sites ≡ sites)
unfolding behind_parts parts_meant
no_declarator u sites = (refl, refl)

all_unit : (P : Program) (asked : Asked) (tabs : List Table) (u : Env) (b : ℕ) (d : Declared) (parts : Forest) →
    AreDeclarators parts → SoundParts asked u forms.DeclareNode (Some b) parts → u.declared ≡ Some d →
    P.tables ≡ map table_of tabs → OneScope u →
    UnitLine P asked.missing tabs u (behind_parts u forms.DeclareNode false parts)
all_unit P asked tabs u b d none h s e pt o =
    subst (λ y. UnitLine P asked.missing tabs u y) (sym (no_declarator u []).0) (line_same P asked.missing tabs u)
all_unit P asked tabs u b d (more p ps) h s e pt o =
    let m = behind u p in
    let x = one_unit P asked tabs u _ d p h.0 s.0 e pt o in
    let s' = subst (λ z. SoundParts asked z forms.DeclareNode (Some (last_of p)) ps)
    (next_declarator m false p (kind_of u p) h.0) s.1 in
    let y =
    all_unit P asked tabs m (last_of p) d ps h.1 s' (ap (λ z. z.declared) x.grown.frame ∙ e) pt (x.grown.one o) in
    subst (λ z. UnitLine P asked.missing tabs u z) (sym (declare_leaves u false p ps h.0))
    (line_after P asked.missing tabs u m (behind_parts m forms.DeclareNode false ps) x y)

closed_unit : (P : Program) (ms : List (List ℕ)) (tabs : List Table) (u : Env) (o : Option Declared) (inner : Env) →
    OneScope u → UnitLine P ms tabs (record u { declared = o }) inner → UnitLine P ms tabs u (closed u inner)
closed_unit P ms tabs u o inner one x =
    let i1 = x.grown.one one in
    let sc : (closed u inner).scopes ≡ inner.scopes =
    ap (λ z. take (length z) inner.scopes) one.1 ∙ (ap (take 1) i1.1 ∙ sym i1.1) in
    record {
      grown = record {
        frame = ap (λ z. closed u z) x.grown.frame;
        one = λ h. (i1.0, sc ∙ i1.1);
        tables = x.grown.tables;
        firm' = λ q h k. ap (λ z. is_firm (in_last z q)) sc ∙ x.grown.firm' q one k;
      };
      at = λ e a. (let y = x.at e a in (
        (λ f q n k. y.0 f q n (ap (λ z. meaning_in (found_in z q)) (sym sc) ∙ k)),
        (λ q n k. y.1 q n (ap (λ z. meaning_in (found_in z q)) (sym sc) ∙ k)),
      ));
      valid = x.valid;
    }

-- a declaration of the unit
pub constant_line : (P : Program) (asked : Asked) (tabs : List Table) (u : Env) (role : Role) (t : Syntax) →
    IsDeclaration t → SoundTree asked u role t → P.tables ≡ map table_of tabs → OneScope u →
    UnitLine P asked.missing tabs u (behind u t)
constant_line P asked tabs u role (node forms.DeclareNode w f l (more t ds)) h s pt o =
    let z = declare_sound asked u role w f l t ds h.0 s in
    let d = type_declares asked u roles.Other t h.0 z.0 in
    subst (λ y. UnitLine P asked.missing tabs u y) (sym (declare_behind u w f l t ds h.0))
    (closed_unit P asked.missing tabs u (declared_in t) (behind_parts (typed_env u t) forms.DeclareNode false ds) o
    (all_unit P asked tabs (typed_env u t) (last_of t) d.0 ds h.1 z.1 d.1 pt o))
constant_line P asked tabs u role t h s pt o = absurd h
