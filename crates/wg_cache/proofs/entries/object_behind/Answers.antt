use Rattle.wg_cache.proofs.Files.{no_entry}
use Rattle.std.proofs.Common.{rules}
use Rattle.wg_cache.proofs.entries.object_behind.Goals as goal

pub returns-in-Some-clause-none : goal.returns-in-Some-clause-none
returns-in-Some-clause-none c =
    no_entry c.args.key.now c.args.bytes.now c.in-Some.rest.now c.decode.result (search rules) c.decode.ensures.only
