use Rattle.std.proofs.Common.{rules}
use Rattle.wg_outside.proofs.FileLemmas.{files_at-after}
use Rattle.wg_outside.proofs.pool.Pool.keep.Goals as goal

pub returns-clause-files : goal.returns-clause-files
returns-clause-files c =
    files_at-after c.args.self.now.bytes.items c.args.name.now c.args.bytes.now c.extend_from_slice.new.self.items
    c.extend_from_slice-2.new.self.items c.args.self.now.spans.items c.push.new.self.items
    c.args.self.now.in_pool (search rules) (search rules) (search rules)
