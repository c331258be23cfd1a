use Rattle.std.proofs.Common.{◌∙◌, ap, map}
use Rattle.lane_values.specs.Lanes.{extended}
use Rattle.lane_kernels.proofs.AccessLaws.{gathered_32}
use Rattle.lane_kernels.proofs.access32.whole32.Goals as goal

pub returns-in-Some-clause-cases : goal.returns-in-Some-clause-cases
returns-in-Some-clause-cases g c =
    let t = c.args.t in (
      c.in-Some.ensures.0,
      (
        c.in-Some.ensures.1.0,
        c.extend32.ensures ∙ ap (map (extended 32 t)) c.in-Some.ensures.1.1 ∙
            gathered_32 t c.args.bytes.now c.args.mask c.args.index,
      ),
    )
