-- The law on units, from what is shown of their nodes and of how deep barriers stand in them.
use Rattle.cl_short_vec_faults.specs.UnitLaw.{UnitsFollow}
use Rattle.cl_short_vec_faults.proofs.Declarations.{block_declarations, head_declarations, unit_declarations}
use Rattle.cl_short_vec_faults.proofs.StatementGoes.{statements_follow}
use Rattle.cl_short_vec_faults.proofs.UnitsFollowing.{nodes_from}
use Rattle.cl_short_vec_faults.proofs.Heights.{heights_follow}

pub units_stand : UnitsFollow
units_stand places kernel tokens unit sp few wide np dn rf h = record {
  sound = nodes_from block_declarations unit_declarations (statements_follow block_declarations head_declarations)
      places kernel tokens unit sp few wide np dn rf h.sound h.leaves;
  shallow = heights_follow places kernel unit wide h.shallow;
}
