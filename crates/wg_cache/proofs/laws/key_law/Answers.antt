use Rattle.wg_cache.proofs.Apart.{one_key}
use Rattle.wg_cache.proofs.laws.key_law.Goals as goal

pub returns : goal.returns
returns c = one_key
