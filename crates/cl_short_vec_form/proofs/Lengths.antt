-- The length of the array that stands for an array of vectors is so many times its length as a vector has components.
use Rattle.std.proofs.Common.{◌≡◌, ℕ, ◌*◌, ◌≤◌, Option, Some, None, Bool, true, false}
use Rattle.std.proofs.Common.{◌&&◌, if◌then◌else◌, refl, ap, ◌∙◌, arith}
use Rattle.std.proofs.Common.{ℤ, pos, negsuc, ◌*ℤ◌}
use Rattle.std.proofs.lemmas.Bool.Decides.{nat_tests}
use Rattle.std.proofs.lemmas.Nat.{mul-le}
use Rattle.std.specs.Prelude.{decimal, int_lt}
use Rattle.wg_num.specs.declared.types.IntType.{IntType}
use Rattle.wg_num.specs.declared.types.IntType.TheVariants as types
use Rattle.wg_num.specs.declared.types.Bin.TheVariants as bins
use Rattle.wg_num.specs.Wrap.{IsValue, wrap_of, half, modulus}
use Rattle.wg_num.specs.Operators.{binary_of, number_of}
use Rattle.wg_num.proofs.WrapLaws.{wrap_value}
use Rattle.cl_meaning.specs.declared.constant.Constant.{Constant}
use Rattle.cl_meaning.specs.Conversions.{common}
use Rattle.cl_meaning.specs.Constants.{is_true, number_constant, binary_result, binary_constant, both_constant}
use Rattle.cl_meaning.specs.Constants.{chosen_constant, constant_of}
use Rattle.cl_meaning.specs.Declarations.{natural, is_length, length_of_constant, length_in}
use Rattle.cl_meaning.specs.Literals.{literal_in}
use Rattle.cl_meaning.specs.Operators.{binary_in}
use Rattle.cl_meaning.proofs.Values.{IsFit, constant_fits}
use Rattle.cl_tree.specs.Syntax.{Syntax}
use Rattle.cl_short_vec.specs.declared.types.Vector.{Vector}
use Rattle.cl_short_vec.specs.Unit.{length_at}
use Rattle.cl_short_vec_form.proofs.Counts.{IsCount, zero_read, limit_read}

-- ---- the types in which a length is computed

-- beside an `int`, a value stays what it is
kept_value : (t : IntType) (z : ℤ) → IsValue t z → IsValue (common t types.Int) z
unfolding half modulus
kept_value types.Bool z h = grind (arith, nat_tests)
kept_value types.Char z h = grind (arith, nat_tests)
kept_value types.Uchar z h = grind (arith, nat_tests)
kept_value types.Short z h = grind (arith, nat_tests)
kept_value types.Ushort z h = grind (arith, nat_tests)
kept_value types.Int z h = h
kept_value types.Uint z h = h
kept_value types.Long z h = h
kept_value types.Ulong z h = h

-- and a small number is a value
small_value : (t : IntType) (n : ℕ) → n ≤ 16777216 → IsValue (common t types.Int) (pos n)
unfolding half modulus
small_value types.Bool n h = grind (arith, nat_tests)
small_value types.Char n h = grind (arith, nat_tests)
small_value types.Uchar n h = grind (arith, nat_tests)
small_value types.Short n h = grind (arith, nat_tests)
small_value types.Ushort n h = grind (arith, nat_tests)
small_value types.Int n h = grind (arith, nat_tests)
small_value types.Uint n h = grind (arith, nat_tests)
small_value types.Long n h = grind (arith, nat_tests)
small_value types.Ulong n h = grind (arith, nat_tests)

small_wrap : (t : IntType) (n : ℕ) → n ≤ 16777216 → wrap_of (common t types.Int) (pos n) ≡ pos n
small_wrap t n h = wrap_value (common t types.Int) (pos n) (small_value t n h)

-- what a test answers is a truth
answer : (t : IntType) (b : Bool) → is_true (wrap_of (common t types.Int) (number_of b)) ≡ b
answer t true = ap is_true (small_wrap t 1 (omega arith))
answer t false = ap is_true (small_wrap t 0 (omega arith))

-- ---- the tests of a length

abbrev constant : IntType → ℤ → Constant
constant t z = record { of = t; value = z }

abbrev int : ℕ → Constant
int n = constant types.Int (pos n)

-- the tests `(E) > 0` and `(E) < 1048577`
greater : (t : IntType) (z : ℤ) → IsValue t z →
    is_true (binary_result bins.Gt (constant t z) (int 0)).value ≡ int_lt (pos 0) z
unfolding binary_of
greater t z h =
    answer t (int_lt (wrap_of (common t types.Int) (pos 0)) (wrap_of (common t types.Int) z)) ∙
    (ap (λ y. int_lt y (wrap_of (common t types.Int) z)) (small_wrap t 0 (omega arith)) ∙
    ap (int_lt (pos 0)) (wrap_value (common t types.Int) z (kept_value t z h)))

lesser : (t : IntType) (z : ℤ) → IsValue t z →
    is_true (binary_result bins.Lt (constant t z) (int 1048577)).value ≡ int_lt z (pos 1048577)
unfolding binary_of
lesser t z h =
    answer t (int_lt (wrap_of (common t types.Int) z) (wrap_of (common t types.Int) (pos 1048577))) ∙
    (ap (int_lt (wrap_of (common t types.Int) z)) (small_wrap t 1048577 (omega arith)) ∙
    ap (λ y. int_lt y (pos 1048577)) (wrap_value (common t types.Int) z (kept_value t z h)))

-- a length times the number of a vector's components, as `(E) * count`
some_product : (n k : ℕ) → n ≤ 1048576 → k ≤ 16 → n * k ≤ 16777216
some_product n k h i = mul-le n k 1048576 16 h i

product_value : (t : IntType) (n k : ℕ) → n ≤ 1048576 → k ≤ 16 →
    (binary_result bins.Mul (constant t (pos n)) (int k)).value ≡ pos (n * k)
unfolding binary_of
product_value t n k h i =
    let u = common t types.Int in
    ap (λ y. wrap_of u (y *ℤ wrap_of u (pos k))) (small_wrap t n (omega arith)) ∙
    (ap (λ y. wrap_of u (pos n *ℤ y)) (small_wrap t k (omega arith)) ∙
    small_wrap t (n * k) (some_product n k h i))

-- so many times the length, where it is one
abbrev pub times : ℕ → Option ℕ → Option ℕ
times k None = None
times k (Some n) = if is_length (n * k) then Some (n * k) else None

true_number : (b : Bool) → is_true (number_of b) ≡ b
true_number true = refl
true_number false = refl

-- what is chosen, by the two tests
abbrev chosen_in : (t : IntType) (z : ℤ) (k : ℕ) (test : Bool) → ℤ
chosen_in t z k test = wrap_of (common (common t types.Int) types.Int)
    (if test then (binary_result bins.Mul (constant t z) (int k)).value else pos 0)

chosen_natural : (t : IntType) (n k : ℕ) → k ≤ 16 → (b : Bool) → is_length n ≡ b →
    natural (chosen_in t (pos n) k b) ≡ (if b then n * k else 0)
chosen_natural t n k h true e =
    let few : n ≤ 1048576 = grind (arith, nat_tests) in
    ap natural (ap (wrap_of (common (common t types.Int) types.Int)) (product_value t n k few h) ∙
    small_wrap (common t types.Int) (n * k) (some_product n k few h))
chosen_natural t n k h false e = ap natural (small_wrap (common t types.Int) 0 (omega arith))

-- both tests hold of a length alone
natural_test : (n : ℕ) → int_lt (pos 0) (pos n) && int_lt (pos n) (pos 1048577) ≡ is_length n
natural_test n = grind (arith, nat_tests)

length_test : (z : ℤ) → int_lt (pos 0) z && int_lt z (pos 1048577) ≡ is_length (natural z)
length_test (pos n) = natural_test n
length_test (negsuc n) = refl

negative : (t : IntType) (n k : ℕ) → natural (chosen_in t (negsuc n) k false) ≡ 0
negative t n k = ap natural (small_wrap (common t types.Int) 0 (omega arith))

chosen : (t : IntType) (z : ℤ) (k : ℕ) → k ≤ 16 →
    natural (chosen_in t z k (is_length (natural z))) ≡ (if is_length (natural z) then natural z * k else 0)
chosen t (pos n) k h = chosen_natural t n k h (is_length n) refl
chosen t (negsuc n) k h = negative t n k

length_by : (n k : ℕ) (b : Bool) →
    (if is_length (if b then n * k else 0) then Some (if b then n * k else 0) else None) ≡
    times k (if b then Some n else None)
length_by n k true = refl
length_by n k false = refl

-- what the constant of a length, with these tests and that product, gives
chosen_length : (t : IntType) (z : ℤ) (k : ℕ) → IsValue t z → k ≤ 16 →
    length_of_constant (chosen_constant (both_constant
    (binary_constant (Some bins.Gt) (Some (constant t z)) (Some (int 0)))
    (binary_constant (Some bins.Lt) (Some (constant t z)) (Some (int 1048577))))
    (binary_constant (Some bins.Mul) (Some (constant t z)) (Some (int k))) (Some (int 0))) ≡
    times k (length_of_constant (Some (constant t z)))
chosen_length t z k v h =
    let g = is_true (binary_result bins.Gt (constant t z) (int 0)).value in
    let l = is_true (binary_result bins.Lt (constant t z) (int 1048577)).value in
    let test : is_true (number_of (g && l)) ≡ is_length (natural z) = true_number (g && l) ∙
    (ap (λ x. x && l) (greater t z v) ∙ (ap (λ x. int_lt (pos 0) z && x) (lesser t z v) ∙ length_test z)) in
    ap (λ x. if is_length (natural (chosen_in t z k x)) then Some (natural (chosen_in t z k x)) else None) test ∙
    (ap (λ x. if is_length x then Some x else None) (chosen t z k h) ∙
    length_by (natural z) k (is_length (natural z)))

-- ---- the length of an array of components

-- from the constant of the length, if it has one
fitting_length : (c : Option Constant) (k : ℕ) → IsFit c → k ≤ 16 →
    length_of_constant (chosen_constant (both_constant (binary_constant (Some bins.Gt) c (Some (int 0)))
    (binary_constant (Some bins.Lt) c (Some (int 1048577)))) (binary_constant (Some bins.Mul) c (Some (int k)))
    (Some (int 0))) ≡ times k (length_of_constant c)
fitting_length None k v h = refl
fitting_length (Some c) k v h = chosen_length c.of c.value k v h

-- the same from the numbers in it, as they are read
abbrev read_length : (c : Option Constant) (zero limit count : Option (IntType × ℕ)) → Option ℕ
read_length c z l n = length_of_constant (chosen_constant (both_constant
    (binary_constant (Some bins.Gt) c (number_constant z)) (binary_constant (Some bins.Lt) c (number_constant l)))
    (binary_constant (Some bins.Mul) c (number_constant n)) (number_constant z))

reading : (e : Syntax) (v : Vector) → length_in (length_at v e) ≡
    read_length (constant_of e) (literal_in (decimal 0)) (literal_in (decimal 1048577)) (literal_in (decimal v.count))
unfolding binary_in
reading e v = refl

-- the length that stands for a length
pub length_times : (v : Vector) (e : Syntax) → IsCount v.count →
    length_in (length_at v e) ≡ times v.count (length_in e)
length_times v e n =
    let c = constant_of e in
    reading e v ∙
    (ap (λ x. read_length c x (literal_in (decimal 1048577)) (literal_in (decimal v.count))) zero_read ∙
    (ap (λ x. read_length c (Some (types.Int, 0)) x (literal_in (decimal v.count))) limit_read ∙
    (ap (λ x. read_length c (Some (types.Int, 0)) (Some (types.Int, 1048577)) x) n.read ∙
    fitting_length c v.count (constant_fits e) n.few)))
