use Rattle.wg_cache.proofs.Apart.{one_entry}
use Rattle.wg_cache.proofs.laws.entry_law.Goals as goal

pub returns : goal.returns
returns c = one_entry
