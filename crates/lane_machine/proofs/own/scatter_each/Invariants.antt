use Rattle.std.proofs.Common.{◌≡◌, ℕ, ◌<◌, [], false, take, get_or, map, Vec, Global}
use Rattle.wg_num.specs.Bytes.{size_of}
use Rattle.lane_values.specs.Lanes.{zip3}
use Rattle.lane_code.specs.Groups.{window, own_faults}
use Rattle.lane_machine.proofs.OwnLaws.{changed, puts}
use Rattle.lane_machine.proofs.own.scatter_each.Given as goal

abbrev pub invariant-loop-i : goal.invariant-loop-i
invariant-loop-i g l =
    let old = map (λ (v : Vec ℕ Global). v.items) l.fn.objects.items in
    record {
      written : map (λ (v : Vec ℕ Global). v.items) l.objects.items ≡
          changed old l.fn.first (take l.i (zip3 (puts (size_of l.fn.t)) l.fn.mask l.fn.index l.fn.from));
      clear : (k : ℕ) → k < l.i → get_or (own_faults (size_of l.fn.t) l.fn.mask l.fn.index
          (window [] old l.fn.first g.row.W)) k false ≡ false;
    }
