use Rattle.std.proofs.Common.{◌≡◌, length, rules, map, Vec, Global, ℕ}
use Rattle.lane_machine.proofs.OwnLaws.{clear_next, clear_all}
use Rattle.lane_machine.proofs.own.clear_own.Goals as goal

pub loop-i-preserved : goal.loop-i-preserved
loop-i-preserved g c =
    let long : length c.args.mask ≡ g.row.W = search rules in
    record {
      written = clear_next g.row.W c.args.first c.args.mask long
          (map (λ (v : Vec ℕ Global). v.items) c.args.objects.now.items) c.loop-i.i
          (map (λ (v : Vec ℕ Global). v.items) c.loop-i.objects.items) _ (search rules) c.loop-i.invariant.written
          c.clear_item.ensures;
    }

pub returns : goal.returns
returns g c =
    let long : length c.args.mask ≡ g.row.W = search rules in
    clear_all g.row.W c.args.first c.args.mask long (map (λ (v : Vec ℕ Global). v.items) c.args.objects.now.items)
    c.loop-i.i (map (λ (v : Vec ℕ Global). v.items) c.loop-i.objects.items) (search rules)
    c.loop-i.invariant.written
