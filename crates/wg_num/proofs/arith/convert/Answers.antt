use Rattle.std.proofs.Common.{ap, ◌∙◌, SFits, to_z, of_z, rules}
use Rattle.std.specs.Int.{w128}
use Rattle.std.proofs.lemmas.Int.{to_z-of_z}
use Rattle.wg_num.specs.Wrap.{wrap_of}
use Rattle.wg_num.proofs.WrapLaws.{IsWrapped_of}
use Rattle.wg_num.proofs.arith.convert.Goals as goal

pub returns-clause-the_value : goal.returns-clause-the_value
returns-clause-the_value c =
    let f : SFits w128 c.wrapped_number.result = search rules in
    IsWrapped_of c.args.to c.args.a (to_z w128 (of_z w128 c.wrapped_number.result))
    (to_z-of_z w128 c.wrapped_number.result f ∙ c.wrapped_number.ensures ∙
    ap (wrap_of c.args.to) (to_z-of_z w128 c.args.a c.ranges.a))
