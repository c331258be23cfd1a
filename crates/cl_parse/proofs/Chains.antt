-- The lemmas by which operators of one level, and conditional expressions, are read: a set each.
use Rattle.cl_read.proofs.Chains.{chain_stops, chain_ends, chain_full, chain_goes}
use Rattle.cl_read.proofs.Equations.{none_cond, open_cond, level_top}

pub ruleset chains = (chain_stops, chain_ends, chain_full, chain_goes)

pub ruleset conditions = (none_cond, open_cond, level_top)
