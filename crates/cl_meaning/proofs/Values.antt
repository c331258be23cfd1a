-- The value of a constant expression is a value of its type.
use Rattle.std.proofs.Common.{rules}
use Rattle.std.proofs.Common.{ℕ, List, Bool, true, false, cond, ◌≡◌, ◌≤◌, refl, sym, subst, arith, Option, None, Some}
use Rattle.std.specs.Prelude.{ℤ, pos, nat_eq, codes, IfSome}
use Rattle.std.proofs.lemmas.Bool.Decides.{nat_tests}
use lib.Pointwise.{pointwise}
use Rattle.wg_num.specs.declared.types.IntType.{IntType}
use Rattle.wg_num.specs.declared.types.IntType.TheVariants as types
use Rattle.wg_num.specs.declared.types.Un.{Un}
use Rattle.wg_num.specs.declared.types.Un.TheVariants as un
use Rattle.wg_num.specs.declared.types.Bin.{Bin}
use Rattle.wg_num.specs.declared.types.Bin.TheVariants as bin
use Rattle.wg_num.specs.Wrap.{IsValue, wrap_of, half, modulus}
use Rattle.wg_num.specs.Operators.{unary_of, binary_of, unary_exact, binary_exact, number_of}
use Rattle.wg_num.specs.Bytes.{size_of}
use Rattle.wg_num.proofs.WrapLaws.{IsValue-wrap, wrap_value}
use Rattle.cl_tree.specs.declared.tree.Form.{Form}
use Rattle.cl_tree.specs.declared.tree.Form.TheVariants as forms
use Rattle.cl_tree.specs.Syntax.{Syntax, node, none, more}
use Rattle.cl_meaning.specs.declared.types.Declared.{Declared}
use Rattle.cl_meaning.specs.declared.operators.Prefix.{Prefix}
use Rattle.cl_meaning.specs.declared.operators.Prefix.TheVariants as prefix
use Rattle.cl_meaning.specs.Spelling.{declared_in, binary_in, prefix_in, truth_in, literal_in}
use Rattle.cl_meaning.proofs.Numbers.{literal_in_value}
use Rattle.cl_meaning.specs.declared.constant.Constant.{Constant}
use Rattle.cl_meaning.specs.Conversions.{promoted, operand_type, unary_type, binary_type}
use Rattle.cl_meaning.specs.Constants.{number_constant, int_constant, binary_constant, both_constant, either_constant}
use Rattle.cl_meaning.specs.Constants.{chosen_constant, cast_constant, prefix_constant, word_constant}
use Rattle.cl_meaning.specs.Constants.{prefixed_constant, joined_constant, selected_constant, constant_of}

-- it is a value of its type, if there is one
abbrev pub IsFit : Option Constant → Type 0
IsFit None = Unit {0}
IsFit (Some c) = IsValue c.of c.value

small_value : (t : IntType) (n : ℕ) → n ≤ 1 → IsValue t (pos n)
unfolding half modulus
small_value types.Bool n h = grind (arith, nat_tests)
small_value types.Char n h = grind (arith, nat_tests)
small_value types.Uchar n h = grind (arith, nat_tests)
small_value types.Short n h = grind (arith, nat_tests)
small_value types.Ushort n h = grind (arith, nat_tests)
small_value types.Int n h = grind (arith, nat_tests)
small_value types.Uint n h = grind (arith, nat_tests)
small_value types.Long n h = grind (arith, nat_tests)
small_value types.Ulong n h = grind (arith, nat_tests)

-- yes and no are values of each type
number_value : (t : IntType) (b : Bool) → IsValue t (number_of b)
number_value t true = small_value t 1 (omega arith)
number_value t false = small_value t 0 (omega arith)

answer_value : (t : IntType) (b : Bool) → IsValue types.Int (wrap_of t (number_of b))
answer_value t b = rw (wrap_value t (number_of b) (number_value t b)) (number_value types.Int b)

unary_value : (op : Un) (t : IntType) (z : ℤ) → IsValue (unary_type op t) (unary_of op t z)
unfolding unary_of
unary_value un.Plus t z = IsValue-wrap t (unary_exact un.Plus z)
unary_value un.Minus t z = IsValue-wrap t (unary_exact un.Minus z)
unary_value un.Flip t z = IsValue-wrap t (unary_exact un.Flip z)
unary_value un.Not t z = answer_value t _

binary_value : (op : Bin) (t : IntType) (y z : ℤ) → IsValue (binary_type op t) (binary_of op t y z)
unfolding binary_of
binary_value bin.Add t y z = IsValue-wrap t (binary_exact bin.Add t y z)
binary_value bin.Sub t y z = IsValue-wrap t (binary_exact bin.Sub t y z)
binary_value bin.Mul t y z = IsValue-wrap t (binary_exact bin.Mul t y z)
binary_value bin.Div t y z = IsValue-wrap t (binary_exact bin.Div t y z)
binary_value bin.Rem t y z = IsValue-wrap t (binary_exact bin.Rem t y z)
binary_value bin.Shl t y z = IsValue-wrap t (binary_exact bin.Shl t y z)
binary_value bin.Shr t y z = IsValue-wrap t (binary_exact bin.Shr t y z)
binary_value bin.And t y z = IsValue-wrap t (binary_exact bin.And t y z)
binary_value bin.Or t y z = IsValue-wrap t (binary_exact bin.Or t y z)
binary_value bin.Xor t y z = IsValue-wrap t (binary_exact bin.Xor t y z)
binary_value bin.Eq t y z = answer_value t _
binary_value bin.Ne t y z = answer_value t _
binary_value bin.Lt t y z = answer_value t _
binary_value bin.Le t y z = answer_value t _
binary_value bin.Gt t y z = answer_value t _
binary_value bin.Ge t y z = answer_value t _

size_value : (t : IntType) → IsValue types.Ulong (pos (size_of t))
unfolding half modulus
size_value types.Bool = record { low = search rules; high = search rules }
size_value types.Char = record { low = search rules; high = search rules }
size_value types.Uchar = record { low = search rules; high = search rules }
size_value types.Short = record { low = search rules; high = search rules }
size_value types.Ushort = record { low = search rules; high = search rules }
size_value types.Int = record { low = search rules; high = search rules }
size_value types.Uint = record { low = search rules; high = search rules }
size_value types.Long = record { low = search rules; high = search rules }
size_value types.Ulong = record { low = search rules; high = search rules }

-- ---- each kind of node

number_fits : (w : List ℕ) (o : Option (IntType × ℕ)) → literal_in w ≡ o → IsFit (number_constant o)
number_fits w None e = tt
number_fits w (Some l) e = literal_in_value w l e

truth_fits : (w : List ℕ) → IsFit (int_constant (truth_in w))
unfolding truth_in
truth_fits w = chosen (pointwise nat_eq w (codes "true")) (pointwise nat_eq w (codes "false"))
  where
    chosen : (a b : Bool) → IsFit (int_constant (cond a (Some (pos 1)) (cond b (Some (pos 0)) None)))
    chosen true b = small_value types.Int 1 (omega arith)
    chosen false true = small_value types.Int 0 (omega arith)
    chosen false false = tt

word_fits : (form : Form) (w : List ℕ) → IsFit (word_constant form w)
word_fits forms.NumberNode w = number_fits w (literal_in w) refl
word_fits forms.TruthNode w = truth_fits w
word_fits _ w = tt

prefix_fits : (p : Option Prefix) (d : Option Declared) (a : Option Constant) → IsFit (prefix_constant p d a)
prefix_fits (Some (prefix.Operator op)) d None = tt
prefix_fits (Some (prefix.Operator op)) d (Some a) = unary_value op (promoted a.of) (wrap_of (promoted a.of) a.value)
prefix_fits (Some prefix.Size) None a = tt
prefix_fits (Some prefix.Size) (Some d) a = size_value d.of
prefix_fits (Some (prefix.Step op)) d a = tt
prefix_fits (Some prefix.Address) d a = tt
prefix_fits (Some prefix.Content) d a = tt
prefix_fits None d a = tt

prefixed_fits : (form : Form) (w : List ℕ) (d : Option Declared) (a : Option Constant) → IsFit a →
    IsFit (prefixed_constant form w d a)
prefixed_fits forms.ParenNode w d a h = h
prefixed_fits forms.UnaryNode w d a h = prefix_fits (prefix_in w) d a
prefixed_fits _ w d a h = tt

binary_fits : (op : Option Bin) (a b : Option Constant) → IsFit (binary_constant op a b)
binary_fits (Some op) (Some a) (Some b) = binary_value op (operand_type op a.of b.of) _ _
binary_fits None a b = tt
binary_fits (Some op) None b = tt
binary_fits (Some op) (Some a) None = tt

both_fits : (a b : Option Constant) → IsFit (both_constant a b)
both_fits (Some a) (Some b) = number_value types.Int _
both_fits None b = tt
both_fits (Some a) None = tt

either_fits : (a b : Option Constant) → IsFit (either_constant a b)
either_fits (Some a) (Some b) = number_value types.Int _
either_fits None b = tt
either_fits (Some a) None = tt

cast_fits : (d : Option Declared) (a : Option Constant) → IsFit (cast_constant d a)
cast_fits (Some d) (Some a) = IsValue-wrap d.of a.value
cast_fits None a = tt
cast_fits (Some d) None = tt

joined_fits : (form : Form) (w : List ℕ) (d : Option Declared) (a b : Option Constant) →
    IsFit (joined_constant form w d a b)
joined_fits forms.CastNode w d a b = cast_fits d b
joined_fits forms.TermNode w d a b = binary_fits (binary_in w) a b
joined_fits forms.SumNode w d a b = binary_fits (binary_in w) a b
joined_fits forms.ShiftNode w d a b = binary_fits (binary_in w) a b
joined_fits forms.OrderNode w d a b = binary_fits (binary_in w) a b
joined_fits forms.EqualNode w d a b = binary_fits (binary_in w) a b
joined_fits forms.BandNode w d a b = binary_fits (binary_in w) a b
joined_fits forms.BxorNode w d a b = binary_fits (binary_in w) a b
joined_fits forms.BorNode w d a b = binary_fits (binary_in w) a b
joined_fits forms.AndNode w d a b = both_fits a b
joined_fits forms.OrNode w d a b = either_fits a b
joined_fits _ w d a b = tt

chosen_fits : (t a b : Option Constant) → IsFit (chosen_constant t a b)
chosen_fits (Some t) (Some a) (Some b) = IsValue-wrap _ _
chosen_fits None a b = tt
chosen_fits (Some t) None b = tt
chosen_fits (Some t) (Some a) None = tt

selected_fits : (form : Form) (t a b : Option Constant) → IsFit (selected_constant form t a b)
selected_fits forms.CondNode t a b = chosen_fits t a b
selected_fits _ t a b = tt

pub constant_fits : (t : Syntax) → IsFit (constant_of t)
constant_fits (node form w f l none) = word_fits form w
constant_fits (node form w f l (more a none)) = prefixed_fits form w (declared_in a) (constant_of a) (constant_fits a)
constant_fits (node form w f l (more a (more b none))) =
    joined_fits form w (declared_in a) (constant_of a) (constant_of b)
constant_fits (node form w f l (more t (more a (more b none)))) =
    selected_fits form (constant_of t) (constant_of a) (constant_of b)
constant_fits (node form w f l (more t (more a (more b (more c others))))) = tt

fit_is : (o : Option Constant) → IsFit o → IfSome o (λ c. IsValue c.of c.value)
fit_is None h = tt
fit_is (Some c) h = h

-- what is the value of a tree is a value of its type
pub same_fits : (t : Syntax) (o : Option Constant) → o ≡ constant_of t → IfSome o (λ c. IsValue c.of c.value)
same_fits t o e = subst (λ (x : Option Constant). IfSome x (λ c. IsValue c.of c.value)) (sym e)
    (fit_is (constant_of t) (constant_fits t))
