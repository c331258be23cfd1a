use Rattle.std.proofs.Common.{refl}
use Rattle.std.proofs.Common.{◌∙◌, ap, sym, map}
use Rattle.lane_values.specs.Lanes.{lane, binary_value}
use Rattle.wg_num.specs.Wrap.{value_of}
use Rattle.lane_kernels.proofs.ListLaws as L
use Rattle.lane_kernels.proofs.lanes32.values32.Goals as goal

pub returns : goal.returns
returns g c =
    c.extend32.ensures ∙ sym (L.map-map 32 31 4294967295 refl refl (lane 32) (value_of c.args.t) c.numbers32.result) ∙
    ap (map (lane 32)) c.numbers32.ensures
    ∙ L.map-zip2 32 31 4294967295 refl refl (lane 32) (binary_value c.args.op c.args.t) c.args.a c.args.b
