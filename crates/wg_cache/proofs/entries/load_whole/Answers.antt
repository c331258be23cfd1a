use Rattle.std.proofs.Common.{rules, arith}
use Rattle.wg_cache.proofs.Files.{whole_file}
use Rattle.wg_cache.proofs.entries.load_whole.Goals as goal

pub returns-in-Ok-clause-whole : goal.returns-in-Ok-clause-whole
returns-in-Ok-clause-whole g c =
    let held = c.in-Ok.bytes.ok in
    let small = c.in-Ok.bytes.small in
    whole_file (g.S.Store.files c.args.store.now) c.args.name.now c.in-Some.text.now c.in-Ok.bytes.items
    18446744073709551615 (search rules) c.in-Ok.ensures.content (omega (arith, held, small))
