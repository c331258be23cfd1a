use Rattle.std.proofs.Common.{subst}
use Rattle.std.specs.Prelude.{Contains}
use Rattle.wg_outside.specs.MemorySink.{SinkView}
use Rattle.wg_outside.proofs.memory_sink.MemorySinkSink.put.Goals as goal

pub returns-then-next_fails-clause-only_these : goal.returns-then-next_fails-clause-only_these
returns-then-next_fails-clause-only_these c =
    λ unlisted room. unlisted (subst (λ (s : SinkView). Contains s.fail s.calls) c.self.view_is
    (c.next_fails.ensures.listed c.if-next_fails.true))
