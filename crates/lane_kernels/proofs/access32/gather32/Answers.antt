use Rattle.std.proofs.Common.{◌∙◌, ap, map}
use Rattle.lane_values.specs.Lanes.{extended}
use Rattle.lane_kernels.proofs.AccessLaws.{gathered_32}
use Rattle.lane_kernels.proofs.access32.gather32.Goals as goal

pub returns-in-Ok-clause-cases : goal.returns-in-Ok-clause-cases
returns-in-Ok-clause-cases g c =
    let t = c.args.t in (
      c.in-Ok.ensures.0,
      c.extend32.ensures ∙ ap (map (extended 32 t)) c.in-Ok.ensures.1 ∙
          gathered_32 t c.args.bytes.now c.args.mask c.args.index,
    )
