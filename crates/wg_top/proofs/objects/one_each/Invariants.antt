use Rattle.std.proofs.Common.{◌≡◌, ◌++◌, map, drop}
use Rattle.wg_top.proofs.objects.one_each.Given as goal

abbrev pub invariant-loop-part : goal.invariant-loop-part
invariant-loop-part l = record {
  programs : map (λ r. r.program.now) l.each.items ++ map (λ p. l.program) (drop l._part-index l.list) ≡
      map (λ p. l.program) l.list;
  groups : map (λ r. r.group.now) l.each.items ++ map (λ p. l.group) (drop l._part-index l.list) ≡
      map (λ p. l.group) l.list;
}
