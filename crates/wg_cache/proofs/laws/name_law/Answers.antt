use Rattle.wg_cache.proofs.Apart.{names_begin}
use Rattle.wg_cache.proofs.laws.name_law.Goals as goal

pub returns : goal.returns
returns c = names_begin
