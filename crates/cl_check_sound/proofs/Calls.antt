-- The pieces of names and calls have their types.
use Rattle.std.proofs.Common.{◌≡◌, ℕ, pos, List, [], ◌∷◌, length, replicate, Option, None, Some, Bool, true, false}
use Rattle.std.proofs.Common.{◌&&◌, nat_eq, refl, ap, sym, ◌∙◌, subst, arith, if◌then◌else◌, slice_get, eqb-true}
use Rattle.std.proofs.lemmas.Option.{none-some, same_Some}
use Rattle.std.proofs.lemmas.Bool.{false≢true}
use Rattle.std.proofs.lemmas.Int.{ints}
use Rattle.wg_num.specs.declared.types.IntType.{IntType}
use Rattle.wg_num.specs.declared.types.IntType.TheVariants as types
use Rattle.wg_num.specs.declared.types.Place.{Place}
use Rattle.wg_num.specs.declared.types.Fun.{Fun}
use Rattle.wg_num.specs.Wrap.{IsValue, half, modulus}
use Rattle.wg_num.specs.Builtins.{result_type}
use Rattle.wg_num.specs.Types.{same_type}
use Rattle.wg_num.proofs.TypeLaws.{same_type_is}
use Rattle.cl_model.specs.declared.program.Space.{Space}
use Rattle.cl_model.specs.declared.program.Space.TheVariants as spaces
use Rattle.cl_model.specs.declared.program.Root.{Root}
use Rattle.cl_model.specs.declared.program.VarKind.{VarKind}
use Rattle.cl_model.specs.declared.program.VarKind.TheVariants as var_kinds
use Rattle.cl_model.specs.Tree as tree
use Rattle.cl_model.specs.Tree.{Expressions, Function, Program, Apply}
use Rattle.cl_model.specs.Calls.{function_at}
use Rattle.cl_model.specs.Valid.{RootIs, HasType, HaveTypes, ArgumentsFit, CanBeCalled, arity_of, parameter_kinds}
use Rattle.cl_meaning.specs.declared.names.Intrinsic.{Intrinsic}
use Rattle.cl_meaning.specs.declared.names.Intrinsic.TheVariants as intrinsics
use Rattle.cl_meaning.specs.Spelling.{intrinsic_in}
use Rattle.cl_meaning.specs.declared.kind.Each.TheVariants as each
use Rattle.cl_meaning.specs.declared.kind.Reach.{Reach}
use Rattle.cl_meaning.specs.declared.kind.Kind.{Kind}
use Rattle.cl_meaning.specs.declared.kind.Kind.TheVariants as kinds
use Rattle.cl_meaning.specs.declared.kind.Meaning.{Meaning}
use Rattle.cl_meaning.specs.declared.kind.Meaning.TheVariants as meanings
use Rattle.cl_meaning.specs.declared.kind.Parameter.{Parameter}
use Rattle.cl_meaning.specs.declared.kind.Parameter.TheVariants as parameters
use Rattle.cl_meaning.specs.declared.kind.Yield.{Yield}
use Rattle.cl_meaning.specs.declared.kind.Yield.TheVariants as yields
use Rattle.cl_meaning.specs.Environment.{Env, Signature, meaning_of}
use Rattle.cl_meaning.specs.Kinds.{same_space, number, kind_of_meaning, is_number, argument_fits}
use Rattle.cl_meaning.specs.Kinds.{arguments_fit, result_kind, all_numbers, counted, counted_types, type_of}
use Rattle.cl_meaning.specs.Kinds.{builtin_type, intrinsic_arity, intrinsic_result, Callee, defined, undefined, known}
use Rattle.cl_meaning.specs.Kinds.{callee_of, callee_by, defined_at, known_as, arity_fits, call_fits, call_result}
use Rattle.cl_meaning.specs.Kinds.{call_kind}
use Rattle.cl_meaning.specs.Faults.{is_called}
use Rattle.cl_meaning.specs.Statements.{result_of}
use Rattle.cl_meaning.specs.Typed.{value, target, offset, variable, element, Piece}
use Rattle.cl_meaning.specs.Expressions.{zero_offset, read, type_in, operand, operands, expressions, passed}
use Rattle.cl_meaning.specs.Expressions.{all_passed, root_in, roots_passed, types_in, dimension, known_made}
use Rattle.cl_meaning.specs.Expressions.{call_made, name_made}
use Rattle.cl_check_sound.specs.Fits.{ParameterIs, ParametersAre, CalledFits, MeaningFits, Fits, KindFits}
use Rattle.cl_check_sound.proofs.Typing.{operand_typed, literal_typed, zero_typed}
use Rattle.cl_check_sound.proofs.Assigning.{both_true}
use Rattle.cl_check_sound.proofs.Elements.{object_fits}

-- ---- names

pub name_fits : (P : Program) (f : Function) (ms : List (List ℕ)) (gs : List Signature) (n : List ℕ) (place : Place)
    (sites : List Place) (m : Meaning) (r : Kind) → MeaningFits P f ms gs n m → kind_of_meaning m ≡ Some r →
    KindFits P f r (name_made place sites (Some m)).what
name_fits P f ms gs n place sites (meanings.Scalar t c x) r h e =
    subst (λ z. KindFits P f z (target (variable x))) (same_Some _ _ e) (
      ([], tt, (var_kinds.Scalar t, h, refl)),
      (x, refl, h),
    )
name_fits P f ms gs n place sites (meanings.Pointer s t c q fixed x) r h e =
    subst (λ z. KindFits P f z (target (variable x))) (same_Some _ _ e) (
      (
        [],
        tt,
        (var_kinds.Pointer s t q, h.0, refl),
      ),
      h.1,
      (x, refl, h.0),
      tt,
    )
name_fits P f ms gs n place sites (meanings.Object s t c q) r h e =
    subst (λ z. KindFits P f z (target (element (length sites) t q zero_offset))) (same_Some _ _ e)
    (object_fits P f (length sites) s t c q zero_offset h (zero_typed P f))
name_fits P f ms gs n place sites (meanings.Array s t c q i) r h e =
    subst (λ z. KindFits P f z (offset None)) (same_Some _ _ e) (zero_typed P f, h.0, tt, h.1)
name_fits P f ms gs n place sites m r h e = absurd (none-some r e)

-- ---- arguments

pub same_space_is : (s r : Space) → same_space s r ≡ true → s ≡ r
same_space_is spaces.Global spaces.Global h = refl
same_space_is spaces.Constant spaces.Constant h = refl
same_space_is spaces.Local spaces.Local h = refl
same_space_is spaces.Private spaces.Private h = refl
same_space_is _ _ h = absurd (false≢true h)

-- pieces with their kinds
abbrev pub AllFit : Program → Function → List Piece → List Kind → Type 0
AllFit P f [] [] = Unit {0}
AllFit P f (p ∷ ps) (k ∷ ks) = (p.kind ≡ Some k) × KindFits P f k p.what × AllFit P f ps ks
AllFit P f ps ks = ⊥

-- arguments that fit a function's parameters
pub record Passed (P : Program) (f : Function) (vs : List VarKind) (roots : List (Option Root))
    (es : Expressions) : Type 0 where
  pub types' : List IntType
  pub typed : HaveTypes P f es types'
  pub fit : ArgumentsFit P f vs roots types'

pass_number : (P : Program) (f : Function) (t v : IntType) (vs : List VarKind) (p : Piece) (u : IntType) (q : Reach)
    (roots : List (Option Root)) (es : Expressions) → t ≡ v → p.kind ≡ Some (kinds.Number u q) →
    HasType P f (read p.what) u → Passed P f vs roots es →
    Passed P f (var_kinds.Scalar v ∷ vs) (root_in p.kind ∷ roots) (tree.more (operand t p) es)
pass_number P f t v vs p u q roots es e k x h = record {
  types' = t ∷ h.types';
  typed = (operand_typed P f t u q p k x, h.typed);
  fit = subst (λ j. ArgumentsFit P f (var_kinds.Scalar v ∷ vs) (root_in j ∷ roots) (t ∷ h.types')) (sym k) (e, h.fit);
}

pass_pointer : (P : Program) (f : Function) (s : Space) (t : IntType) (own : Root) (vs : List VarKind) (p : Piece)
    (k : Kind) (r : Root) (roots : List (Option Root)) (es : Expressions) → root_in (Some k) ≡ Some r →
    p.kind ≡ Some k → HasType P f (read p.what) types.Long → RootIs P f r s t → Passed P f vs roots es →
    Passed P f (var_kinds.Pointer s t own ∷ vs) (root_in p.kind ∷ roots) (tree.more (read p.what) es)
pass_pointer P f s t own vs p k r roots es e d x y h = record {
  types' = types.Long ∷ h.types';
  typed = (x, h.typed);
  fit = subst (λ j. ArgumentsFit P f (var_kinds.Pointer s t own ∷ vs) (j ∷ roots) (types.Long ∷ h.types'))
      (sym (ap root_in d ∙ e)) (refl, y, h.fit);
}

-- one argument more
one_passed : (P : Program) (f : Function) (p : Parameter) (v : VarKind) (vs : List VarKind) (a : Piece) (k : Kind)
    (roots : List (Option Root)) (es : Expressions) → ParameterIs p v → a.kind ≡ Some k → KindFits P f k a.what →
    argument_fits p k ≡ true → Passed P f vs roots es →
    Passed P f (v ∷ vs) (root_in a.kind ∷ roots) (tree.more (passed p a) es)
one_passed P f (parameters.Number t) (var_kinds.Scalar u) vs a (kinds.Number w q) roots es i e x g h =
    pass_number P f t u vs a w q roots es i e x.0 h
one_passed P f (parameters.Number t) (var_kinds.Scalar u) vs a _ roots es i e x g h = absurd (false≢true g)
one_passed P f (parameters.Number t) (var_kinds.Pointer s' t' own) vs a k roots es i e x g h = absurd i
one_passed P f (parameters.Pointer s t c) (var_kinds.Scalar u) vs a k roots es i e x g h = absurd i
one_passed P f (parameters.Pointer s t c) (var_kinds.Pointer s' t' own) vs a
    (kinds.Pointer s'' t'' c' r each.Element q) roots es i e x g h =
    let d = both_true (same_space s s'') (same_type t t'') g in
    let at : s'' ≡ s' = sym (same_space_is s s'' d.0) ∙ i.0 in
    let of : t'' ≡ t' = sym (same_type_is t t'' d.1) ∙ i.1 in
    pass_pointer P f s' t' own vs a (kinds.Pointer s'' t'' c' r each.Element q) r roots es refl e x.0
    (subst (λ z. RootIs P f r z t') at (subst (λ z. RootIs P f r s'' z) of x.1)) h
one_passed P f (parameters.Pointer s t c) (var_kinds.Pointer s' t' own) vs a _ roots es i e x g h =
    absurd (false≢true g)
one_passed P f parameters.Outside v vs a k roots es i e x g h = absurd i

pub arguments_typed : (P : Program) (f : Function) (params : List Parameter) (vs : List VarKind) (ps : List Piece)
    (ks : List Kind) → ParametersAre params vs → AllFit P f ps ks → length params ≡ length ks →
    arguments_fit params ks ≡ true → Passed P f vs (roots_passed params ps) (all_passed params ps)
arguments_typed P f [] [] [] [] v h n a = record { types' = []; typed = tt; fit = tt }
arguments_typed P f [] [] (p ∷ ps) (k ∷ ks) v h n a = absurd (omega (arith, n))
arguments_typed P f (q ∷ params) (w ∷ vs) [] [] v h n a = absurd (omega (arith, n))
arguments_typed P f (q ∷ params) (w ∷ vs) (p ∷ ps) (k ∷ ks) v h n a =
    let b = both_true (argument_fits q k) (arguments_fit params ks) a in
    one_passed P f q w vs p k (roots_passed params ps) (all_passed params ps) v.0 h.0 h.1 b.0
    (arguments_typed P f params vs ps ks v.1 h.2 (omega (arith, n)) b.1)
arguments_typed P f [] (w ∷ vs) ps ks v h n a = absurd v
arguments_typed P f (q ∷ params) [] ps ks v h n a = absurd v
arguments_typed P f params vs [] (k ∷ ks) v h n a = absurd h
arguments_typed P f params vs (p ∷ ps) [] v h n a = absurd h

-- ---- calls of functions of the unit

defined_fits : (P : Program) (f : Function) (site n : ℕ) (g : Signature) (ps : List Piece) (ks : List Kind)
    (y : Yield) (r : Kind) → g.result ≡ y → CalledFits P n g → AllFit P f ps ks →
    nat_eq (length g.parameters) (length ks) ≡ true → arguments_fit g.parameters ks ≡ true → result_kind y ≡ Some r →
    KindFits P f r (value (tree.Call site n (roots_passed g.parameters ps) (all_passed g.parameters ps)))
defined_fits P f site n g ps ks (yields.Number t) r e c h l a x =
    let p = arguments_typed P f g.parameters (parameter_kinds (function_at P n)) ps ks c.parameters h
    (eqb-true (length g.parameters) (length ks) l) a in
    subst (λ z. KindFits P f z (value (tree.Call site n (roots_passed g.parameters ps) (all_passed g.parameters ps))))
    (same_Some _ _ x)
    ((subst (λ z. CanBeCalled P n (result_of z)) e c.callable, (p.types', p.typed, p.fit)), tt)
defined_fits P f site n g ps ks yields.Nothing r e c h l a x =
    let p = arguments_typed P f g.parameters (parameter_kinds (function_at P n)) ps ks c.parameters h
    (eqb-true (length g.parameters) (length ks) l) a in
    subst (λ z. KindFits P f z (value (tree.Call site n (roots_passed g.parameters ps) (all_passed g.parameters ps))))
    (same_Some _ _ x)
    (subst (λ z. CanBeCalled P n (result_of z)) e c.callable, (p.types', p.typed, p.fit))
defined_fits P f site n g ps ks yields.Outside r e c h l a x = absurd (none-some r x)

-- ---- calls of names that are known without a declaration

pub types_are : (P : Program) (f : Function) (ps : List Piece) (ks : List Kind) → AllFit P f ps ks →
    types_in ps ≡ counted_types ks
types_are P f [] [] h = refl
types_are P f (p ∷ ps) (k ∷ ks) h =
    ap (λ j. counted (type_in j) ∷ types_in ps) h.0 ∙ ap (λ z. counted (type_of k) ∷ z) (types_are P f ps ks h.2)
types_are P f [] (k ∷ ks) h = absurd h
types_are P f (p ∷ ps) [] h = absurd h

pub number_parts : (P : Program) (f : Function) (p : Piece) (k : Kind) (to : IntType) → is_number k ≡ true →
    p.kind ≡ Some k → KindFits P f k p.what → HasType P f (operand to p) to
number_parts P f p (kinds.Number t q) to h e x = operand_typed P f to t q p e x.0
number_parts P f p _ to h e x = absurd (false≢true h)

operands_typed : (P : Program) (f : Function) (to : IntType) (ps : List Piece) (ks : List Kind) → AllFit P f ps ks →
    all_numbers ks ≡ true → HaveTypes P f (expressions (operands to ps)) (replicate (length ks) to)
operands_typed P f to [] [] h a = tt
operands_typed P f to (p ∷ ps) (k ∷ ks) h a =
    let b = both_true (is_number k) (all_numbers ks) a in
    (number_parts P f p k to b.0 h.0 h.1, operands_typed P f to ps ks h.2 b.1)
operands_typed P f to [] (k ∷ ks) h a = absurd h
operands_typed P f to (p ∷ ps) [] h a = absurd h

builtin_fits : (P : Program) (f : Function) (g : Fun) (ps : List Piece) (ks : List Kind) → AllFit P f ps ks →
    all_numbers ks ≡ true → nat_eq (arity_of g) (length ks) ≡ true →
    HasType P f (Apply (tree.Builtin g (builtin_type (types_in ps)))
    (expressions (operands (builtin_type (types_in ps)) ps))) (result_type g (builtin_type (counted_types ks)))
builtin_fits P f g ps ks h a n =
    subst (λ z. HasType P f (Apply (tree.Builtin g (builtin_type z)) (expressions (operands (builtin_type z) ps)))
    (result_type g (builtin_type (counted_types ks)))) (sym (types_are P f ps ks h)) (
      replicate (length ks) (builtin_type (counted_types ks)),
      operands_typed P f (builtin_type (counted_types ks)) ps ks h a,
      (ap (λ z. replicate z (builtin_type (counted_types ks))) (sym (eqb-true (arity_of g) (length ks) n)), refl),
    )

zero_uint : IsValue types.Uint (pos 0)
unfolding half modulus
zero_uint = record { low = omega (arith, ints); high = omega (arith, ints) }

dimension_typed : (P : Program) (f : Function) (ps : List Piece) (ks : List Kind) → AllFit P f ps ks →
    all_numbers ks ≡ true → HasType P f (dimension ps) types.Uint
dimension_typed P f [] [] h a = literal_typed P f (pos 0) types.Uint zero_uint
dimension_typed P f (p ∷ ps) (k ∷ ks) h a =
    number_parts P f p k types.Uint (both_true (is_number k) (all_numbers ks) a).0 h.0 h.1
dimension_typed P f [] (k ∷ ks) h a = absurd h
dimension_typed P f (p ∷ ps) [] h a = absurd h

known_fits : (P : Program) (f : Function) (place : Place) (sites : List Place) (i : Intrinsic) (ps : List Piece)
    (ks : List Kind) → AllFit P f ps ks → nat_eq (intrinsic_arity i) (length ks) ≡ true → all_numbers ks ≡ true →
    KindFits P f (intrinsic_result i ks) (known_made place sites ps i).what
known_fits P f place sites (intrinsics.Function g) ps ks h n a = (builtin_fits P f g ps ks h a n, tt)
known_fits P f place sites (intrinsics.Query q) ps ks h n a =
    ((types.Uint ∷ [], (dimension_typed P f ps ks h a, tt), (refl, refl)), tt)
known_fits P f place sites intrinsics.Barrier ps ks h n a = tt
known_fits P f place sites intrinsics.Fence ps ks h n a = tt

-- ---- calls

-- what is called fits the program
abbrev pub CalleeFits : Program → List (List ℕ) → List ℕ → Callee → Type 0
CalleeFits P ms q (defined n g) = CalledFits P n g
CalleeFits P ms q undefined = is_called ms q ≡ false
CalleeFits P ms q (known i) = Unit {0}

call_fits_by : (P : Program) (f : Function) (ms : List (List ℕ)) (q : List ℕ) (place : Place) (sites : List Place)
    (c : Callee) (ps : List Piece) (ks : List Kind) (r : Kind) → CalleeFits P ms q c → AllFit P f ps ks →
    arity_fits c (length ks) ≡ true → call_fits c ks ≡ true → call_result c ks ≡ Some r →
    KindFits P f r (call_made place sites ps (Some c)).what
call_fits_by P f ms q place sites (defined n g) ps ks r c h n' a x =
    defined_fits P f (length sites) n g ps ks g.result r refl c h n' a x
call_fits_by P f ms q place sites undefined ps ks r c h n' a x = absurd (none-some r x)
call_fits_by P f ms q place sites (known i) ps ks r c h n' a x =
    subst (λ z. KindFits P f z (known_made place sites ps i).what) (same_Some _ _ x)
    (known_fits P f place sites i ps ks h n' a)

pub called_fits : (P : Program) (f : Function) (ms : List (List ℕ)) (q : List ℕ) (place : Place) (sites : List Place)
    (c : Callee) (ps : List Piece) (ks : List Kind) (r : Kind) → CalleeFits P ms q c → AllFit P f ps ks →
    call_kind c ks ≡ Some r → KindFits P f r (call_made place sites ps (Some c)).what
called_fits P f ms q place sites c ps ks r x h e =
    let p = some_of (arity_fits c (length ks) && call_fits c ks) (call_result c ks) r e in
    let b = both_true (arity_fits c (length ks)) (call_fits c ks) p.0 in
    call_fits_by P f ms q place sites c ps ks r x h b.0 b.1 p.1
  where
    some_of : (b : Bool) (o : Option Kind) (r : Kind) → (if b then o else None) ≡ Some r → (b ≡ true) × (o ≡ Some r)
    some_of true o r h = (refl, h)
    some_of false o r h = absurd (none-some r h)

-- the callee of a visible name fits
callee_by_fits : (P : Program) (f : Function) (ms : List (List ℕ)) (env : Env) (name : List ℕ) (m : Option Meaning)
    (c : Callee) → ((n : Meaning) → m ≡ Some n → MeaningFits P f ms env.functions name n) →
    callee_by env name m ≡ Some c → CalleeFits P ms name c
callee_by_fits P f ms env name None c h e = known_only (intrinsic_in name) e
  where
    known_only : (o : Option Intrinsic) → known_as o ≡ Some c → CalleeFits P ms name c
    known_only None e = absurd (none-some c e)
    known_only (Some i) e = subst (CalleeFits P ms name) (same_Some _ _ e) tt
callee_by_fits P f ms env name (Some (meanings.Function n)) c h e = at_number (slice_get env.functions n) refl e
  where
    at_number : (o : Option Signature) → slice_get env.functions n ≡ o → defined_at n o ≡ Some c →
        CalleeFits P ms name c
    at_number None d e = absurd (none-some c e)
    at_number (Some g) d e = subst (CalleeFits P ms name) (same_Some _ _ e) (h (meanings.Function n) refl g d)
callee_by_fits P f ms env name (Some meanings.Undefined) c h e =
    subst (CalleeFits P ms name) (same_Some _ _ e) (h meanings.Undefined refl)
callee_by_fits P f ms env name (Some _) c h e = absurd (none-some c e)

pub callee_fits : (P : Program) (f : Function) (ms : List (List ℕ)) (env : Env) (name : List ℕ) (c : Callee) →
    Fits P f ms env → callee_of env name ≡ Some c → CalleeFits P ms name c
callee_fits P f ms env name c h e = callee_by_fits P f ms env name (meaning_of env name) c (h name) e

-- a call whose arguments are at no fault has a kind
pub call_known : (P : Program) (ms : List (List ℕ)) (q : List ℕ) (c : Callee) (ks : List Kind) → CalleeFits P ms q c →
    (c ≡ undefined → is_called ms q ≡ true) → (r : Kind) × (call_result c ks ≡ Some r)
call_known P ms q (defined n g) ks h u = by g.result refl
  where
    by : (y : Yield) → g.result ≡ y → (r : Kind) × (result_kind y ≡ Some r)
    by (yields.Number t) e = (number t, refl)
    by yields.Nothing e = (kinds.Nothing, refl)
    by yields.Outside e = absurd (h.inside e)
call_known P ms q undefined ks h u = absurd (false≢true (sym h ∙ u refl))
call_known P ms q (known i) ks h u = (intrinsic_result i ks, refl)
