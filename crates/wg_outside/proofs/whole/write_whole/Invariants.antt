use Rattle.std.proofs.Common.{◌≡◌, ◌-◌, length, take, drop}
use Rattle.std.specs.Io.KnownBytes.{Appends}
use Rattle.wg_outside.proofs.whole.write_whole.Given as goal

abbrev pub invariant-loop : goal.invariant-loop
invariant-loop g l = record {
  wrote : Appends (g.W.Write.contents l.initial.to) (g.W.Write.contents l.to)
      (take (length l.bytes - length l.rest) l.bytes);
  left : l.rest ≡ drop (length l.bytes - length l.rest) l.bytes;
}
