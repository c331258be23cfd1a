use Rattle.examples_kir.proofs.Uniformly.{own_is_not_even, groups_is_even}
use Rattle.examples_kir.proofs.evenness.Goals as goal

pub returns-clause-own : goal.returns-clause-own
returns-clause-own c = own_is_not_even

pub returns-clause-groups : goal.returns-clause-groups
returns-clause-groups c = groups_is_even
