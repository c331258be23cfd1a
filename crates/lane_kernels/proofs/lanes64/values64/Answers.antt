use Rattle.std.proofs.Common.{refl}
use Rattle.std.proofs.Common.{◌∙◌, ap, sym, map}
use Rattle.lane_values.specs.Lanes.{lane, binary_value}
use Rattle.wg_num.specs.Wrap.{value_of}
use Rattle.lane_kernels.proofs.ListLaws as L
use Rattle.lane_kernels.proofs.lanes64.values64.Goals as goal

pub returns : goal.returns
returns g c =
    c.extend64.ensures ∙ sym (L.map-map 64 63 18446744073709551615 refl refl (lane 64) (value_of c.args.t)
    c.numbers64.result) ∙ ap (map (lane 64)) c.numbers64.ensures
    ∙ L.map-zip2 64 63 18446744073709551615 refl refl (lane 64) (binary_value c.args.op c.args.t) c.args.a c.args.b
