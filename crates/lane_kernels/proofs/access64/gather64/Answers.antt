use Rattle.std.proofs.Common.{◌∙◌, ap, map}
use Rattle.lane_values.specs.Lanes.{extended}
use Rattle.lane_kernels.proofs.AccessLaws.{gathered_64}
use Rattle.lane_kernels.proofs.access64.gather64.Goals as goal

pub returns-in-Ok-clause-cases : goal.returns-in-Ok-clause-cases
returns-in-Ok-clause-cases g c =
    let t = c.args.t in (
      c.in-Ok.ensures.0,
      c.extend64.ensures ∙ ap (map (extended 64 t)) c.in-Ok.ensures.1 ∙
          gathered_64 t c.args.bytes.now c.args.mask c.args.index,
    )
