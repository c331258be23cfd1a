use Rattle.std.proofs.Common.{codes}
use Rattle.cl_prep.specs.Start.{lowest, number}
use Rattle.cl_prep.proofs.Tables.{more}
use Rattle.cl_prep.proofs.start.add_narrow.Goals as goal

pub returns : goal.returns
returns c =
    more _ _ (codes "SHRT_MIN") (lowest (codes "32767")) _ c.in_ok-add_lowest-3.ensures
    (more _ _ (codes "SHRT_MAX") (number (codes "32767")) _ c.in_ok-add_number-4.ensures
    (more _ _ (codes "CHAR_MIN") (lowest (codes "127")) _ c.in_ok-add_lowest-2.ensures
    (more _ _ (codes "CHAR_MAX") (number (codes "127")) _ c.in_ok-add_number-3.ensures
    (more _ _ (codes "SCHAR_MIN") (lowest (codes "127")) _ c.in_ok-add_lowest.ensures
    (more _ _ (codes "SCHAR_MAX") (number (codes "127")) _ c.in_ok-add_number-2.ensures c.in_ok-add_number.ensures)))))
