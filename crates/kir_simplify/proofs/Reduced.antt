-- A sum whose left operand is 0 is a conversion of the right one.
use Rattle.std.proofs.Common.{◌≡◌, ℕ, zero, suc, ℤ, pos, negsuc, refl, sym, ap, ◌∙◌, arith, true, false, if◌then◌else◌}
use Rattle.std.proofs.Common.{Bool as Test}
use Rattle.std.specs.Prelude.{◌&&◌, ◌+ℤ◌}
use Rattle.std.proofs.lemmas.Int.{ints}
use Rattle.std.proofs.lemmas.Bool.{true≢false, and_parts}
use Rattle.wg_num.specs.declared.types.IntType.{IntType}
use Rattle.wg_num.specs.declared.types.IntType.TheVariants.{Long}
use Rattle.wg_num.specs.declared.types.Bin.{Bin}
use Rattle.wg_num.specs.declared.types.Bin.TheVariants as bin
use Rattle.wg_num.specs.Operators.{binary_of}
use Rattle.wg_num.specs.Wrap.{wrap_of}
use Rattle.wg_num.specs.Types.{same_type}
use Rattle.cl_model.specs.Sizes.{Launch}
use Rattle.cl_model.specs.Values.{is_zero}
use Rattle.kir.specs.declared.line.Atom.{Atom}
use Rattle.kir.specs.declared.line.Atom.TheVariants.{Const, Cell as CellAtom}
use Rattle.kir.specs.Tree.{Work, Unary, Binary, Builtin, Convert, Ask, Argument, Copy}
use Rattle.kir.specs.Steps.{Item, atom_value, work_value}
use Rattle.kir_simplify.specs.Passes.{reduced_work}
use Rattle.kir_simplify.specs.Offsets.{is_add, is_long_sum, is_zero_constant}

zero_is : (z : ℤ) → is_zero z ≡ true → z ≡ pos 0
zero_is (pos zero) e = refl
zero_is (pos (suc n)) e = absurd (true≢false (sym e))
zero_is (negsuc n) e = absurd (true≢false (sym e))

left_zero : (z : ℤ) → pos 0 +ℤ z ≡ z
left_zero z = omega (arith, ints)

pub add_is : (op : Bin) → is_add op ≡ true → op ≡ bin.Add
add_is bin.Add e = refl
add_is bin.Sub e = absurd (true≢false (sym e))
add_is bin.Mul e = absurd (true≢false (sym e))
add_is bin.Div e = absurd (true≢false (sym e))
add_is bin.Rem e = absurd (true≢false (sym e))
add_is bin.Shl e = absurd (true≢false (sym e))
add_is bin.Shr e = absurd (true≢false (sym e))
add_is bin.And e = absurd (true≢false (sym e))
add_is bin.Or e = absurd (true≢false (sym e))
add_is bin.Xor e = absurd (true≢false (sym e))
add_is bin.Eq e = absurd (true≢false (sym e))
add_is bin.Ne e = absurd (true≢false (sym e))
add_is bin.Lt e = absurd (true≢false (sym e))
add_is bin.Le e = absurd (true≢false (sym e))
add_is bin.Gt e = absurd (true≢false (sym e))
add_is bin.Ge e = absurd (true≢false (sym e))

sum_left : (of : IntType) (x y : ℤ) → x ≡ pos 0 → binary_of bin.Add of x y ≡ wrap_of of y
unfolding binary_of
sum_left of x y none = ap (wrap_of of) (ap (λ z. z +ℤ y) none ∙ left_zero y)

zero_value_of : (cells : ℕ → ℤ) (a : Atom) → is_zero_constant a ≡ true → atom_value cells a ≡ pos 0
zero_value_of cells (Const value of) e = zero_is value e
zero_value_of cells (CellAtom c) e = absurd (true≢false (sym e))

-- a sum with 0 is the other operand
pub reduced_holds : (launch : Launch) (i : Item) (work : Work) →
    work_value launch i (reduced_work work) ≡ work_value launch i work
reduced_holds launch i (Binary op of a b) = by_left (is_long_sum op of && is_zero_constant a) refl
  where
    by_left : (t : Test) → (is_long_sum op of && is_zero_constant a) ≡ t →
        work_value launch i (if t then Convert of b else Binary op of a b) ≡ work_value launch i (Binary op of a b)
    by_left false e = refl
    by_left true e =
        let both = and_parts (is_long_sum op of) (is_zero_constant a) e in
        let added = add_is op (and_parts (is_add op) (same_type Long of) both.0).0 in
        sym (ap (λ o. binary_of o of (atom_value i.cells a) (atom_value i.cells b)) added ∙
        sum_left of (atom_value i.cells a) (atom_value i.cells b) (zero_value_of i.cells a both.1))
reduced_holds launch i (Unary op of a) = refl
reduced_holds launch i (Builtin f of args) = refl
reduced_holds launch i (Convert to a) = refl
reduced_holds launch i (Ask what dim) = refl
reduced_holds launch i (Argument number) = refl
reduced_holds launch i (Copy a) = refl
