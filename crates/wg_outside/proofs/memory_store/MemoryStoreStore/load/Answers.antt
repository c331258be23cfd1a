use Rattle.std.proofs.Common.{subst}
use Rattle.std.specs.Prelude.{Contains}
use Rattle.wg_outside.specs.MemoryStore.{StoreView}
use Rattle.wg_outside.proofs.memory_store.MemoryStoreStore.load.Goals as goal

pub returns-then-next_fails-clause-only_listed : goal.returns-then-next_fails-clause-only_listed
returns-then-next_fails-clause-only_listed c =
    λ _. subst (λ (s : StoreView). Contains s.fail s.calls) c.self.view_is
    (c.next_fails.ensures.listed c.if-next_fails.true)
