use Rattle.std.proofs.Common.{codes}
use Rattle.cl_prep.specs.Start.{lowest, number}
use Rattle.cl_prep.proofs.Tables.{more}
use Rattle.cl_prep.proofs.start.add_wide.Goals as goal

pub returns : goal.returns
returns c =
    more _ _ (codes "LONG_MIN") (lowest (codes "0x7fffffffffffffffL")) _ c.in_ok-add_lowest-2.ensures
    (more _ _ (codes "LONG_MAX") (number (codes "0x7fffffffffffffffL")) _ c.in_ok-add_number-2.ensures
    (more _ _ (codes "INT_MIN") (lowest (codes "2147483647")) _ c.in_ok-add_lowest.ensures c.in_ok-add_number.ensures))
