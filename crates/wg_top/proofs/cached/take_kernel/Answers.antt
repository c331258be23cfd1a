use Rattle.std.proofs.Common.{rules}
use Rattle.launch_file.specs.Texts.{text_of}
use Rattle.wg_top.specs.Causes.{standing}
use Rattle.wg_top.specs.Cached.{IsNotFound}
use Rattle.wg_top.proofs.CachedCauseLemmas.{hold_typed}
use Rattle.wg_top.proofs.cached.take_kernel.Goals as goal

pub returns-in-Err-compile_object-clause-err : goal.returns-in-Err-compile_object-clause-err
returns-in-Err-compile_object-clause-err g c =
    let lacks : IsNotFound (g.S.Store.files c.args.store.now) c.args.bytes.now (text_of c.args.text.now)
    c.args.kernel.now = search rules in
    hold_typed (standing g.S.Store.files g.S.Store.faults g.S.Store.misses c.args.store.now)
    (standing g.S.Store.files g.S.Store.faults g.S.Store.misses c.find.new.store) c.args.bytes.now
    (text_of c.args.text.now) c.args.kernel.now c.in-Err-compile_object.error lacks
    c.in-Err-compile_object.ensures.err
