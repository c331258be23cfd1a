-- An assignment with an operator to a number.
use Rattle.std.proofs.Common.{◌≡◌, Option, false, ap, ap₂, ◌∙◌}
use Rattle.wg_num.specs.declared.types.IntType.{IntType}
use Rattle.wg_num.specs.declared.types.Bin.{Bin}
use Rattle.cl_model.specs.Tree.{Expression}
use Rattle.cl_meaning.specs.Conversions.{operand_type, right_type}
use Rattle.cl_meaning.specs.declared.kind.Kind.{Kind}
use Rattle.cl_meaning.specs.Typed.{What, Piece}
use Rattle.cl_meaning.specs.Expressions.{type_in, operand, updated}

pub number_is : (w : What) (op : Bin) (of right left' right' : IntType) (kind : Option Kind) (b : Piece)
    (v : Expression) (r : What)
    → right ≡ type_in kind → right' ≡ right_type op of right → left' ≡ operand_type op of right → v ≡ operand right' b
    → r ≡ updated w op left' of false v
    → r ≡ updated w op (operand_type op of (type_in kind)) of false (operand (right_type op of (type_in kind)) b)
number_is w op of right left' right' kind b v r a e f g h =
    h ∙ ap₂ (λ (x : IntType) (y : Expression). updated w op x of false y) (f ∙ ap (operand_type op of) a) (g ∙
    ap (λ (t : IntType). operand t b) (e ∙ ap (right_type op of) a))
