-- Constant expressions and their values (C99, section 6.6).
use Rattle.std.specs.Prelude.{ℕ, List, ℤ, pos, Option, Some, None, not, ◌&&◌, ◌||◌, if◌then◌else◌}
use Rattle.std.specs.Prelude.{Bool as Test}
use Rattle.std.specs.Ordering.{int_eq}
use Rattle.wg_num.specs.declared.types.IntType.{IntType}
use Rattle.wg_num.specs.declared.types.IntType.TheVariants.{Int, Ulong}
use Rattle.wg_num.specs.declared.types.Un.{Un}
use Rattle.wg_num.specs.declared.types.Bin.{Bin}
use Rattle.wg_num.specs.Wrap.{wrap_of}
use Rattle.wg_num.specs.Operators.{unary_of, binary_of, number_of}
use Rattle.wg_num.specs.Bytes.{size_of}
use Rattle.cl_tree.specs.declared.tree.Form.{Form}
use Rattle.cl_tree.specs.declared.tree.Form.TheVariants as forms
use Rattle.cl_tree.specs.Syntax.{Syntax, node, none, more}
use Rattle.cl_meaning.specs.declared.types.Declared.{Declared}
use Rattle.cl_meaning.specs.declared.operators.Prefix.{Prefix}
use Rattle.cl_meaning.specs.declared.operators.Prefix.TheVariants as prefix
use Rattle.cl_meaning.specs.Spelling.{declared_in, binary_in, prefix_in, truth_in, literal_in}
use Rattle.cl_meaning.specs.declared.constant.Constant.{Constant}
use Rattle.cl_meaning.specs.Conversions.{promoted, common, operand_type, right_type, unary_type, binary_type}

abbrev pub is_true : ℤ → Test
is_true z = not (int_eq z (pos 0))

-- a number, and a truth word
abbrev pub number_constant : Option (IntType × ℕ) → Option Constant
number_constant None = None
number_constant (Some l) = Some (record { of = l.0; value = pos l.1 })

abbrev pub int_constant : Option ℤ → Option Constant
int_constant None = None
int_constant (Some z) = Some (record { of = Int; value = z })

-- an operator on one operand, which is promoted
abbrev pub unary_constant : Un → Option Constant → Option Constant
unary_constant op None = None
unary_constant op (Some a) = Some (record {
  of = unary_type op (promoted a.of);
  value = unary_of op (promoted a.of) (wrap_of (promoted a.of) a.value);
})

-- an operator on two operands, each of which is converted to its type
abbrev pub binary_result : Bin → Constant → Constant → Constant
binary_result op a b = record {
  of = binary_type op (operand_type op a.of b.of);
  value = binary_of op (operand_type op a.of b.of) (wrap_of (operand_type op a.of b.of) a.value)
      (wrap_of (right_type op a.of b.of) b.value);
}

abbrev pub binary_constant : Option Bin → Option Constant → Option Constant → Option Constant
binary_constant (Some op) (Some a) (Some b) = Some (binary_result op a b)
binary_constant _ _ _ = None

-- &&
abbrev pub both_constant : Option Constant → Option Constant → Option Constant
both_constant (Some a) (Some b) = Some (record { of = Int; value = number_of (is_true a.value && is_true b.value) })
both_constant _ _ = None

-- ||
abbrev pub either_constant : Option Constant → Option Constant → Option Constant
either_constant (Some a) (Some b) = Some (record { of = Int; value = number_of (is_true a.value || is_true b.value) })
either_constant _ _ = None

-- the chosen one of two, converted to their common type
abbrev pub chosen_constant : Option Constant → Option Constant → Option Constant → Option Constant
chosen_constant (Some t) (Some a) (Some b) =
    Some (record {
      of = common a.of b.of;
      value = wrap_of (common a.of b.of) (if is_true t.value then a.value else b.value);
    })
chosen_constant _ _ _ = None

-- a conversion to a type of the profile
abbrev pub cast_constant : Option Declared → Option Constant → Option Constant
cast_constant (Some d) (Some a) = Some (record { of = d.of; value = wrap_of d.of a.value })
cast_constant _ _ = None

-- the bytes of a type of the profile
abbrev pub size_constant : Option Declared → Option Constant
size_constant None = None
size_constant (Some d) = Some (record { of = Ulong; value = pos (size_of d.of) })

-- an operator before its operand, which is a type for `sizeof`
abbrev pub prefix_constant : Option Prefix → Option Declared → Option Constant → Option Constant
prefix_constant (Some (prefix.Operator op)) type a = unary_constant op a
prefix_constant (Some prefix.Size) type a = size_constant type
prefix_constant _ type a = None

-- a node without parts
abbrev pub word_constant : Form → List ℕ → Option Constant
word_constant forms.NumberNode word = number_constant (literal_in word)
word_constant forms.TruthNode word = int_constant (truth_in word)
word_constant _ word = None

-- a node of one part: what the part declares as a type, and its value
abbrev pub prefixed_constant : Form → List ℕ → Option Declared → Option Constant → Option Constant
prefixed_constant forms.ParenNode word type a = a
prefixed_constant forms.UnaryNode word type a = prefix_constant (prefix_in word) type a
prefixed_constant _ word type a = None

-- a node of two parts: what the first declares as a type, and their values
abbrev pub joined_constant : Form → List ℕ → Option Declared → Option Constant → Option Constant → Option Constant
joined_constant forms.CastNode word type a b = cast_constant type b
joined_constant forms.TermNode word type a b = binary_constant (binary_in word) a b
joined_constant forms.SumNode word type a b = binary_constant (binary_in word) a b
joined_constant forms.ShiftNode word type a b = binary_constant (binary_in word) a b
joined_constant forms.OrderNode word type a b = binary_constant (binary_in word) a b
joined_constant forms.EqualNode word type a b = binary_constant (binary_in word) a b
joined_constant forms.BandNode word type a b = binary_constant (binary_in word) a b
joined_constant forms.BxorNode word type a b = binary_constant (binary_in word) a b
joined_constant forms.BorNode word type a b = binary_constant (binary_in word) a b
joined_constant forms.AndNode word type a b = both_constant a b
joined_constant forms.OrNode word type a b = either_constant a b
joined_constant _ word type a b = None

-- a node of three parts
abbrev pub selected_constant : Form → Option Constant → Option Constant → Option Constant → Option Constant
selected_constant forms.CondNode t a b = chosen_constant t a b
selected_constant _ t a b = None

-- The value of a constant expression: of numbers, truth words, operators, casts and `sizeof`, without assignments,
-- commas, names and calls.
abbrev pub constant_of : Syntax → Option Constant
constant_of (node form word first last none) = word_constant form word
constant_of (node form word first last (more a none)) = prefixed_constant form word (declared_in a) (constant_of a)
constant_of (node form word first last (more a (more b none))) =
    joined_constant form word (declared_in a) (constant_of a) (constant_of b)
constant_of (node form word first last (more t (more a (more b none)))) =
    selected_constant form (constant_of t) (constant_of a) (constant_of b)
constant_of (node form word first last (more t (more a (more b (more c others))))) = None
