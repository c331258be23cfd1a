use Rattle.std.proofs.Common.{rules}
use Rattle.wg_num.specs.Operators.{IsOperand}
use Rattle.cl_meaning.proofs.Operands.{right_operand}
use Rattle.cl_meaning.proofs.constant.binary_result.Goals as goal

pub binary-requires-clause-right : goal.binary-requires-clause-right
binary-requires-clause-right c =
    let h : IsOperand c.args.op c.operand_type-of.result c.convert-right.result =
    right_operand c.args.op c.args.a.of c.args.b.of c.operand_type-of.result c.right_type.result
    c.convert-right.result c.operand_type-of.ensures c.right_type.ensures c.convert-right.ensures.the_value.value in
    search (rules, h)
