-- New nodes of numbers and pointers are not at fault: numbers, scaled indices, elements, and pointers that are counted.
use Rattle.std.proofs.Common.{◌≡◌, ℕ, zero, suc, ◌≤◌, ◌<◌, nat_eq, List, [], ◌∷◌, ◌++◌, Option, None, Some, Bool, true}
use Rattle.std.proofs.Common.{false, ◌&&◌, refl, ap, ◌∙◌, arith}
use Rattle.std.proofs.lemmas.Bool.{false≢true}
use Rattle.std.proofs.lemmas.Bool.Decides.{nat_tests}
use Rattle.std.specs.Prelude.{codes, decimal}
use Rattle.std.specs.Fmt.{digits}
use Rattle.wg_num.specs.declared.types.IntType.{IntType}
use Rattle.wg_num.specs.declared.types.IntType.TheVariants as types
use Rattle.wg_num.specs.declared.types.Bin.TheVariants as bins
use Rattle.wg_num.specs.Types.{same_type}
use Rattle.wg_num.specs.Wrap.{modulus, half}
use Rattle.wg_num.proofs.TypeLaws.{same_type_is}
use Rattle.cl_token.specs.NumberReading.{outcome_of, parts_of}
use Rattle.cl_tree.specs.declared.tree.Form.TheVariants as forms
use Rattle.cl_tree.specs.Syntax.{Syntax, node, none, more}
use Rattle.cl_tree.specs.Nodes.{forest1, forest2}
use Rattle.cl_meaning.specs.Types.{base_in, names_outside, is_outside_base, declared_in}
use Rattle.cl_meaning.specs.Operators.{binary_in}
use Rattle.cl_meaning.specs.Literals.{literal_in}
use Rattle.cl_meaning.specs.declared.kind.Reach.{Reach}
use Rattle.cl_meaning.specs.declared.kind.Reach.TheVariants as reach
use Rattle.cl_meaning.specs.declared.kind.Kind.{Kind}
use Rattle.cl_meaning.specs.declared.kind.Kind.TheVariants as kinds
use Rattle.cl_meaning.specs.declared.kind.Role.{Role}
use Rattle.cl_meaning.specs.declared.kind.Role.TheVariants as roles
use Rattle.cl_meaning.specs.declared.fault.Fault.{Fault}
use Rattle.cl_meaning.specs.declared.fault.Fault.TheVariants as faults
use Rattle.cl_meaning.specs.Environment.{Env}
use Rattle.cl_meaning.specs.Kinds.{is_some, number, literal_kind, cast_kind, kind_step}
use Rattle.cl_meaning.specs.Visible.{inside}
use Rattle.cl_meaning.specs.Faults.{Asked, at_fault, looked_at, misfits, is_tested}
use Rattle.cl_check_sound.specs.Shape.{IsType}
use Rattle.cl_check_sound.specs.Sound.{SoundTree}
use Rattle.cl_check_sound.proofs.Assigning.{both_true}
use Rattle.cl_short_vec.specs.declared.nodes.Span.{Span}
use Rattle.cl_short_vec.specs.Nodes.{long_at, paren_at, type_word, typed_at, joined_at}
use Rattle.cl_short_vec.specs.Nodes.{constant_word}
use Rattle.cl_short_vec_faults.proofs.Building.{seen, Good}
use Rattle.cl_short_vec_faults.proofs.Nodes.{leaf_good, one_good, two_good, quiet_fine, Tests, tested_as}

-- ---- numbers

is_long : Option (IntType × ℕ) → Bool
is_long None = false
is_long (Some l) = same_type l.0 types.Long

long_there : (o : Option (IntType × ℕ)) → is_long o ≡ true → literal_kind o ≡ Some (number types.Long)
unfolding is_long
long_there None h = absurd (false≢true h)
long_there (Some l) h = ap (λ z. Some (number z)) (same_type_is l.0 types.Long h)

long_test : ℕ → Bool
unfolding literal_in
long_test n = is_long (literal_in (decimal n ++ codes "L"))

all_below : ℕ → Bool
all_below zero = true
all_below (suc n) = long_test n && all_below n

some_below : (n c : ℕ) → all_below n ≡ true → c < n → long_test c ≡ true
unfolding all_below
some_below zero c h k = absurd (omega arith)
some_below (suc n) c h k =
    by (nat_eq c n) refl (λ less. some_below n c (both_true (long_test n) (all_below n) h).1 less)
  where
    by : (b : Bool) → nat_eq c n ≡ b → (c < n → long_test c ≡ true) → long_test c ≡ true
    by true e g = let same : c ≡ n = grind (arith, nat_tests) in
        ap long_test same ∙ (both_true (long_test n) (all_below n) h).0
    by false e g = let less : c < n = grind (arith, nat_tests) in g less

pub long_kind : (n : ℕ) → n ≤ 16 → literal_kind (literal_in (decimal n ++ codes "L")) ≡ Some (number types.Long)
unfolding long_test all_below is_long literal_in outcome_of parts_of digits modulus half
long_kind n h = long_there (literal_in (decimal n ++ codes "L")) (some_below 17 n refl (omega arith))

pub number_tests : (role : Role) (t : IntType) (p : Reach) → Tests role (kinds.Number t p)
number_tests role t p = by (is_tested role)
  where
    by : (b : Bool) → (b && false) ≡ false
    by true = refl
    by false = refl

pub long_good : (asked : Asked) (env : Env) (role : Role) (n : ℕ) (s : Span) → n ≤ 16 →
    Good asked env role (long_at n s) (number types.Long)
unfolding kind_step misfits
long_good asked env role n s h =
    let w = decimal n ++ codes "L" in
    leaf_good asked env role forms.NumberNode w s.first s.last (number types.Long) refl refl
    (quiet_fine asked (seen env role forms.NumberNode w s.first none []) refl refl
    (tested_as role (literal_kind (literal_in w)) (number types.Long) (long_kind n h)
    (number_tests role types.Long reach.Value))) (long_kind n h)

-- ---- parentheses and operators

pub paren_good : (asked : Asked) (env : Env) (role : Role) (s : Span) (a : Syntax) (k : Kind) →
    Good asked env roles.Other a k → Tests role k → Good asked env role (paren_at s a) k
unfolding kind_step misfits
paren_good asked env role s a k x t =
    let w = codes "( )" in
    one_good asked env role forms.ParenNode w s.first s.last k refl refl a k x
    (quiet_fine asked (seen env role forms.ParenNode w s.first (forest1 a) (Some k ∷ [])) refl refl t) refl

-- the product of two longs
pub product_good : (asked : Asked) (env : Env) (s : Span) (a b : Syntax) →
    Good asked env roles.Other a (number types.Long) → Good asked env roles.Other b (number types.Long) →
    Good asked env roles.Other (joined_at bins.Mul s a b) (number types.Long)
unfolding kind_step misfits binary_in
product_good asked env s a b x y =
    let w = codes "*" in
    two_good asked env roles.Other forms.TermNode w s.first s.last (number types.Long) refl refl a b
    (number types.Long) (number types.Long) x y (quiet_fine asked (seen env roles.Other forms.TermNode w s.first
    (forest2 a b) (Some (number types.Long) ∷ Some (number types.Long) ∷ [])) refl refl refl) refl

pub sum_good : (asked : Asked) (env : Env) (s : Span) (a b : Syntax) →
    Good asked env roles.Other a (number types.Long) → Good asked env roles.Other b (number types.Long) →
    Good asked env roles.Other (joined_at bins.Add s a b) (number types.Long)
unfolding kind_step misfits binary_in
sum_good asked env s a b x y =
    let w = codes "+" in
    two_good asked env roles.Other forms.SumNode w s.first s.last (number types.Long) refl refl a b
    (number types.Long) (number types.Long) x y (quiet_fine asked (seen env roles.Other forms.SumNode w s.first
    (forest2 a b) (Some (number types.Long) ∷ Some (number types.Long) ∷ [])) refl refl refl) refl

-- ---- types and casts

-- a type within the profile
pub type_good : (asked : Asked) (env : Env) (w : List ℕ) (f l : ℕ) → is_outside_base (base_in w) ≡ false →
    SoundTree asked env roles.Other (node forms.TypeNode w f l none)
unfolding misfits
type_good asked env w f l h = (tt, (by, tt))
  where
    by : (k : Fault) → at_fault asked (looked_at env roles.Other (node forms.TypeNode w f l none)) k ≡ false
    by faults.OutsideType = h
    by _ = refl

pub spaced_good : (asked : Asked) (env : Env) (w : List ℕ) (f l : ℕ) (w' : List ℕ) (f' l' : ℕ) →
    is_outside_base (base_in w) ≡ false →
    SoundTree asked env roles.Other (node forms.TypeNode w f l (more (node forms.SpaceNode w' f' l' none) none))
unfolding misfits
spaced_good asked env w f l w' f' l' h = (((tt, (inner, tt)), tt), (by, tt))
  where
    inner : (k : Fault) → at_fault asked (looked_at (inside env forms.TypeNode w) roles.Other
        (node forms.SpaceNode w' f' l' none)) k ≡ false
    inner faults.UnknownName = refl
    inner _ = refl

    by : (k : Fault) → at_fault asked (looked_at env roles.Other
        (node forms.TypeNode w f l (more (node forms.SpaceNode w' f' l' none) none))) k ≡ false
    by faults.OutsideType = h
    by _ = refl

pub typed_inside : (of : IntType) → is_outside_base (base_in (type_word of)) ≡ false
unfolding base_in names_outside
typed_inside types.Bool = refl
typed_inside types.Char = refl
typed_inside types.Uchar = refl
typed_inside types.Short = refl
typed_inside types.Ushort = refl
typed_inside types.Int = refl
typed_inside types.Uint = refl
typed_inside types.Long = refl
typed_inside types.Ulong = refl

pub typed_cast : (of : IntType) (s : Span) (t : IntType) (p : Reach) →
    cast_kind (declared_in (typed_at of s)) (kinds.Number t p) ≡ Some (number of)
unfolding base_in names_outside
typed_cast types.Bool s t p = refl
typed_cast types.Char s t p = refl
typed_cast types.Uchar s t p = refl
typed_cast types.Short s t p = refl
typed_cast types.Ushort s t p = refl
typed_cast types.Int s t p = refl
typed_cast types.Uint s t p = refl
typed_cast types.Long s t p = refl
typed_cast types.Ulong s t p = refl

pub typed_is : (of : IntType) (s : Span) → IsType (typed_at of s)
unfolding base_in names_outside
typed_is types.Bool s = refl
typed_is types.Char s = refl
typed_is types.Uchar s = refl
typed_is types.Short s = refl
typed_is types.Ushort s = refl
typed_is types.Int s = refl
typed_is types.Uint s = refl
typed_is types.Long s = refl
typed_is types.Ulong s = refl

pub constant_typed : (constant : Bool) (of : IntType) → is_some (base_in (constant_word constant of)) ≡ true
unfolding base_in names_outside
constant_typed true types.Bool = refl
constant_typed true types.Char = refl
constant_typed true types.Uchar = refl
constant_typed true types.Short = refl
constant_typed true types.Ushort = refl
constant_typed true types.Int = refl
constant_typed true types.Uint = refl
constant_typed true types.Long = refl
constant_typed true types.Ulong = refl
constant_typed false types.Bool = refl
constant_typed false types.Char = refl
constant_typed false types.Uchar = refl
constant_typed false types.Short = refl
constant_typed false types.Ushort = refl
constant_typed false types.Int = refl
constant_typed false types.Uint = refl
constant_typed false types.Long = refl
constant_typed false types.Ulong = refl
