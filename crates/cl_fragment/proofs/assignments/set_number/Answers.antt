use Rattle.cl_model.specs.View.{expression_of}
use Rattle.cl_fragment.specs.View.{piece_of, what_of}
use Rattle.cl_fragment.proofs.Updates.{number_is}
use Rattle.cl_fragment.proofs.assignments.set_number.Goals as goal

pub returns : goal.returns
returns c =
    rw (← c.in_ok-value.ensures.kept)
    (number_is (what_of c.in_ok-value.what) c.args.op c.args.of c.type_in-right.result c.operand_type.result
    c.right_type.result c.args.b.kind (piece_of c.args.b)
    (expression_of c.in_ok-value.value) (what_of c.in_ok-what.what)
    c.type_in-right.ensures c.right_type.ensures c.operand_type.ensures c.in_ok-value.ensures.value
    c.in_ok-what.ensures)
