-- What a converted operand is.
use Rattle.std.proofs.Common.{◌≡◌, Bool, true, false, cond, refl, sym, ◌∙◌, subst}
use Rattle.std.specs.Prelude.{ℤ}
use Rattle.wg_num.specs.declared.types.IntType.{IntType}
use Rattle.wg_num.specs.declared.types.Bin.{Bin}
use Rattle.wg_num.specs.Wrap.{IsValue}
use Rattle.wg_num.specs.Operators.{IsOperand, is_shift}
use Rattle.wg_num.proofs.OperatorLaws.{value_wide}
use Rattle.cl_meaning.specs.Conversions.{promoted, common, operand_type, right_type}

right_is : (b : Bool) (x y z : IntType) → b ≡ false → cond b y z ≡ cond b x z
right_is true x y z h = absurd cc
right_is false x y z h = refl

operand_of : (op : Bin) (of right : IntType) (z : ℤ) → (is_shift op ≡ false → right ≡ of) → IsValue right z →
    IsOperand op of z
operand_of op of right z same h =
    record { wide = value_wide right z h; value = λ k. subst (λ (t : IntType). IsValue t z) (same k) h }

-- the right operand, converted, fits the operator
pub right_operand : (op : Bin) (a b of right : IntType) (r : ℤ) → of ≡ operand_type op a b →
    right ≡ right_type op a b → IsValue right r → IsOperand op of r
right_operand op a b of right r e k v =
    operand_of op of right r (λ h. k ∙ right_is (is_shift op) (promoted a) (promoted b) (common a b) h ∙ sym e) v
