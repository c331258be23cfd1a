use Rattle.std.proofs.Common.{None}
use Rattle.cl_prep.proofs.Tables.{updated}
use Rattle.cl_prep.proofs.names.remove.Goals as goal

pub returns : goal.returns
returns c = updated c.args.names.now c.swap_remove.new.self c.args.name.now None c.swap_remove.ensures.updates
