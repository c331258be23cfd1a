use Rattle.std.proofs.Common.{codes}
use Rattle.cl_prep.specs.Start.{number}
use Rattle.cl_prep.proofs.Tables.{more}
use Rattle.cl_prep.proofs.start.add_unsigned.Goals as goal

pub returns : goal.returns
returns c =
    more _ _ (codes "ULONG_MAX") (number (codes "0xffffffffffffffffUL")) _ c.in_ok-add_number-4.ensures
    (more _ _ (codes "UINT_MAX") (number (codes "0xffffffff")) _ c.in_ok-add_number-3.ensures
    (more _ _ (codes "USHRT_MAX") (number (codes "65535")) _ c.in_ok-add_number-2.ensures c.in_ok-add_number.ensures))
