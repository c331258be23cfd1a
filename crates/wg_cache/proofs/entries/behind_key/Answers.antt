use Rattle.std.proofs.Common.{rules}
use Rattle.wg_object.specs.Text.{eight}
use Rattle.std.proofs.Common.{length}
use Rattle.wg_cache.proofs.Files.{behind_two}
use Rattle.wg_cache.proofs.entries.behind_key.Goals as goal

pub returns-in-Some : goal.returns-in-Some
returns-in-Some c =
    behind_two (eight (length c.args.key.now)) c.args.key.now c.args.bytes.now c.in-Some.rest.now
    c.behind-in-Some.result (search rules) c.behind-in-Some.ensures
