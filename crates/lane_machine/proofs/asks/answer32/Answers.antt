use Rattle.std.proofs.Common.{◌∙◌, ◌%◌, ◌^◌, sym, ap, arith, pos}
use Rattle.std.specs.Int.{w128}
use Rattle.std.proofs.lemmas.Int.{to_z_pos}
use Rattle.cl_model.specs.Sizes.{answer_of}
use Rattle.cl_model.specs.View.{launch_of}
use Rattle.lane_values.specs.Lanes.{lane}
use Rattle.lane_machine.proofs.AskLaws.{value_uint}
use Rattle.lane_machine.proofs.asks.answer32.Goals as goal

pub returns : goal.returns
returns c =
    c.lane_of32.ensures
    ∙ ap (lane 32) (to_z_pos w128 c.answer.result (omega (arith, c.answer.type_inv)) ∙ c.answer.ensures ∙
    ap (λ n. answer_of (launch_of c.args.launch.now) n c.args.what (pos (c.args.d % 2 ^ 32))) c.spot_of.ensures.number ∙
    ap (answer_of (launch_of c.args.launch.now) c.args.item c.args.what) (sym (value_uint c.args.d)))
