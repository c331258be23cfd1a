use Rattle.std.proofs.Common.{subst}
use Rattle.std.specs.Prelude.{Contains}
use Rattle.wg_outside.specs.MemoryStore.{StoreView}
use Rattle.wg_outside.proofs.memory_store.MemoryStore.try_save.Goals as goal

pub returns-then-next_fails-clause-succeeds : goal.returns-then-next_fails-clause-succeeds
returns-then-next_fails-clause-succeeds c =
    λ unlisted room. absurd (unlisted (subst (λ (s : StoreView). Contains s.fail s.calls) c.self.view_is
    (c.next_fails.ensures.listed c.if-next_fails.true)))
