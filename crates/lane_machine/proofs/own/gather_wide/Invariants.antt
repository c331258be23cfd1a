use Rattle.std.proofs.Common.{◌≡◌, ℕ, ◌<◌, [], false, length, take, get_or, map, Vec, Global}
use Rattle.wg_num.specs.Bytes.{size_of}
use Rattle.lane_code.specs.Groups.{window, own_faults, own_loaded}
use Rattle.lane_machine.proofs.own.gather_wide.Given as goal

abbrev pub invariant-loop-i : goal.invariant-loop-i
invariant-loop-i g l =
    let own = window [] (map (λ (v : Vec ℕ Global). v.items) l.objects) l.first g.row.W in
    record {
      long : length l.lanes ≡ g.row.W;
      written : take l.i l.lanes ≡ take l.i (own_loaded 64 l.t l.mask l.index own);
      clear : (k : ℕ) → k < l.i → get_or (own_faults (size_of l.t) l.mask l.index own) k false ≡ false;
    }
