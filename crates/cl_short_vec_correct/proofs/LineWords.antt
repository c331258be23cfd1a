-- What the own words of the lines of a vector statement say: types, numbers, and the words of operators.
use Rattle.std.proofs.Common.{◌≡◌, ℕ, zero, suc, ◌≤◌, ◌<◌, nat_eq, List, [], ◌∷◌, ◌++◌, Option, Some}
use Rattle.std.proofs.Common.{None, Bool, true, false, not, ◌&&◌, if◌then◌else◌, refl, sym, ap, ◌∙◌}
use Rattle.std.proofs.Common.{arith}
use Rattle.std.proofs.lemmas.Bool.{false≢true, and_parts}
use Rattle.std.proofs.lemmas.Bool.Decides.{nat_tests}
use Rattle.std.specs.Prelude.{codes, decimal, ◌||◌}
use Rattle.std.specs.Fmt.{digits}
use Rattle.std.specs.List.{list_any, list_all}
use lib.Pointwise.{pointwise, bytes_decides}
use Rattle.wg_num.specs.declared.types.IntType.{IntType}
use Rattle.wg_num.specs.declared.types.IntType.TheVariants as types
use Rattle.wg_num.specs.Types.{same_type}
use Rattle.wg_num.specs.Wrap.{modulus, half}
use Rattle.wg_num.proofs.TypeLaws.{same_type_is}
use Rattle.cl_token.specs.NumberReading.{outcome_of, parts_of}
use Rattle.cl_model.specs.declared.program.Space.{Space}
use Rattle.cl_model.specs.declared.program.Space.TheVariants as spaces
use Rattle.cl_meaning.specs.declared.types.Declared.{Declared}
use Rattle.cl_meaning.specs.declared.operators.Prefix.TheVariants as prefixes
use Rattle.cl_meaning.specs.declared.operators.Postfix.TheVariants as postfixes
use Rattle.cl_meaning.specs.declared.operators.Setting.TheVariants as settings
use Rattle.cl_meaning.specs.OwnWords.{Row, looked_up}
use Rattle.cl_meaning.specs.declared.types.Base.TheVariants.{Integer}
use Rattle.cl_meaning.specs.Types.{base_in, names_outside, space_in, is_const, declared_in, declared_as}
use Rattle.cl_meaning.specs.Operators.{setting_in, prefix_in, postfix_in}
use Rattle.cl_meaning.specs.Names.{flag_in, intrinsic_in, flags, intrinsics}
use Rattle.cl_meaning.specs.Literals.{literal_in}
use Rattle.cl_short_vec.specs.declared.nodes.Span.{Span}
use Rattle.cl_short_vec.specs.Nodes.{constant_word, space_word, typed_at, spaced_at, helper}
use Rattle.cl_short_vec.specs.Nodes.{component_name}

-- ---- types

abbrev pub declared_with : Option Space → Bool → IntType → Declared
declared_with space constant of = record { of = of; size = false; constant = constant; space = space }

pub base_word : (constant : Bool) (of : IntType) → base_in (constant_word constant of) ≡ Some (Integer of false)
unfolding base_in names_outside
base_word true types.Bool = refl
base_word true types.Char = refl
base_word true types.Uchar = refl
base_word true types.Short = refl
base_word true types.Ushort = refl
base_word true types.Int = refl
base_word true types.Uint = refl
base_word true types.Long = refl
base_word true types.Ulong = refl
base_word false types.Bool = refl
base_word false types.Char = refl
base_word false types.Uchar = refl
base_word false types.Short = refl
base_word false types.Ushort = refl
base_word false types.Int = refl
base_word false types.Uint = refl
base_word false types.Long = refl
base_word false types.Ulong = refl

pub const_word : (constant : Bool) (of : IntType) → is_const (constant_word constant of) ≡ constant
const_word true types.Bool = refl
const_word true types.Char = refl
const_word true types.Uchar = refl
const_word true types.Short = refl
const_word true types.Ushort = refl
const_word true types.Int = refl
const_word true types.Uint = refl
const_word true types.Long = refl
const_word true types.Ulong = refl
const_word false types.Bool = refl
const_word false types.Char = refl
const_word false types.Uchar = refl
const_word false types.Short = refl
const_word false types.Ushort = refl
const_word false types.Int = refl
const_word false types.Uint = refl
const_word false types.Long = refl
const_word false types.Ulong = refl

pub spaced_word : (space : Space) → space_in (space_word space) ≡ Some space
unfolding space_in
spaced_word spaces.Global = refl
spaced_word spaces.Constant = refl
spaced_word spaces.Local = refl
spaced_word spaces.Private = refl

pub typed_declared : (of : IntType) (s : Span) → declared_in (typed_at of s) ≡ Some (declared_with None false of)
typed_declared of s =
    ap (λ b. declared_as b (is_const (constant_word false of)) None) (base_word false of) ∙
    ap (λ c. declared_as (Some (Integer of false)) c None) (const_word false of)

pub spaced_declared : (space : Space) (constant : Bool) (of : IntType) (s : Span) →
    declared_in (spaced_at space constant of s) ≡ Some (declared_with (Some space) constant of)
spaced_declared space constant of s =
    ap (λ b. declared_as b (is_const (constant_word constant of)) (space_in (space_word space)))
    (base_word constant of) ∙
    (ap (λ c. declared_as (Some (Integer of false)) c (space_in (space_word space))) (const_word constant of) ∙
    ap (λ p. declared_as (Some (Integer of false)) constant p) (spaced_word space))

-- ---- operators

pub plain_setting : setting_in (codes "=") ≡ Some settings.Plain
unfolding setting_in
plain_setting = refl

pub index_postfix : postfix_in (codes "[ ]") ≡ Some postfixes.Index
unfolding postfix_in
index_postfix = refl

pub address_prefix : prefix_in (codes "&") ≡ Some prefixes.Address
unfolding prefix_in
address_prefix = refl

-- ---- numbers

abbrev is_long : ℕ → Option (IntType × ℕ) → Bool
is_long n None = false
is_long n (Some l) = same_type l.0 types.Long && nat_eq l.1 n

long_is : (n : ℕ) (o : Option (IntType × ℕ)) → is_long n o ≡ true → o ≡ Some (types.Long, n)
long_is n None h = absurd (false≢true h)
long_is n (Some (t, v)) h =
    let p = and_parts (same_type t types.Long) (nat_eq v n) h in
    let same : t ≡ types.Long = same_type_is t types.Long p.0 in
    let equal : v ≡ n = grind (arith, nat_tests) in
    cc

long_test : ℕ → Bool
unfolding literal_in
long_test n = is_long n (literal_in (decimal n ++ codes "L"))

all_below : ℕ → Bool
all_below zero = true
all_below (suc n) = long_test n && all_below n

some_below : (n c : ℕ) → all_below n ≡ true → c < n → long_test c ≡ true
unfolding all_below
some_below zero c h k = absurd (omega arith)
some_below (suc n) c h k =
    by (nat_eq c n) refl (λ less. some_below n c (and_parts (long_test n) (all_below n) h).1 less)
  where
    by : (b : Bool) → nat_eq c n ≡ b → (c < n → long_test c ≡ true) → long_test c ≡ true
    by true e g = let same : c ≡ n = grind (arith, nat_tests) in
        ap long_test same ∙ (and_parts (long_test n) (all_below n) h).0
    by false e g = let less : c < n = grind (arith, nat_tests) in g less

pub long_literal : (n : ℕ) → n ≤ 16 → literal_in (decimal n ++ codes "L") ≡ Some (types.Long, n)
unfolding long_test all_below literal_in outcome_of parts_of digits modulus half
long_literal n h = long_is n (literal_in (decimal n ++ codes "L")) (some_below 17 n refl (omega arith))

-- ---- names that are known without a declaration

-- a point is among the bytes
abbrev pub has_point : List ℕ → Bool
has_point n = list_any (λ b. nat_eq b 46) n

clash : (b : Bool) → b ≡ true → not b ≡ true → ⊥
clash true h k = false≢true k
clash false h k = false≢true h

no_row : {A : Type 0} (w : List ℕ) (rows : List (Row A)) → has_point w ≡ true →
    list_all (λ (r : Row A). not (has_point r.word)) rows ≡ true → looked_up w rows ≡ None
no_row w [] h k = refl
no_row w (r ∷ rows) h k =
    let p = and_parts (not (has_point r.word)) (list_all (λ (r : Row _). not (has_point r.word)) rows) k in
    by (pointwise nat_eq w r.word) refl p.0 (no_row w rows h p.1)
  where
    by : (b : Bool) → pointwise nat_eq w r.word ≡ b → not (has_point r.word) ≡ true → looked_up w rows ≡ None →
        (if b then Some r.value else looked_up w rows) ≡ None
    by true e x y =
        let same : w ≡ r.word = (bytes_decides w r.word).0 e in
        absurd (clash (has_point r.word) (sym (ap has_point same) ∙ h) x)
    by false e x y = y

pub point_no_flag : (w : List ℕ) → has_point w ≡ true → flag_in w ≡ None
unfolding flag_in
point_no_flag w h = no_row w flags h refl

pub point_no_intrinsic : (w : List ℕ) → has_point w ≡ true → intrinsic_in w ≡ None
unfolding intrinsic_in
point_no_intrinsic w h = no_row w intrinsics h refl

pub point_among : (a b : List ℕ) → has_point b ≡ true → has_point (a ++ b) ≡ true
point_among [] b h = h
point_among (x ∷ a) b h = by (nat_eq x 46) (point_among a b h)
  where
    by : (c : Bool) → has_point (a ++ b) ≡ true → (c || has_point (a ++ b)) ≡ true
    by true k = refl
    by false k = k

pub helper_point : (s : Span) → has_point (helper s) ≡ true
helper_point s = refl

pub component_point : (n : List ℕ) (c : ℕ) → has_point (component_name n c) ≡ true
component_point n c = point_among n (codes "." ++ decimal c) refl
