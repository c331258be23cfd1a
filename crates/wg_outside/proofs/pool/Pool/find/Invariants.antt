use Rattle.std.proofs.Common.{◌≡◌, ◌≤◌, length, take, option_map, IfSome}
use Rattle.wg_outside.specs.Files.{file_in}
use Rattle.wg_outside.specs.Spans.{span_end, file_at, files_at}
use Rattle.wg_outside.proofs.pool.Pool.find.Given as goal

abbrev pub invariant-loop-span : goal.invariant-loop-span
invariant-loop-span l = record {
  found : option_map (λ s. (file_at l.self.bytes.items s).1) l.found ≡
      file_in (files_at l.self.bytes.items (take l.span-index l.self.spans.items)) l.name;
  within : IfSome l.found (λ s. span_end s ≤ length l.self.bytes.items);
}
