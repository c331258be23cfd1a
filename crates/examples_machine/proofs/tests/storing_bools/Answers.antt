use Rattle.std.proofs.Common.{ap}
use Rattle.wg_num.specs.Wrap.{half, modulus}
use Rattle.lane_code.specs.Fits.{is_code, code_fits}
use Rattle.examples_machine.specs.Examples.{names, counts}
use Rattle.examples_machine.proofs.tests.storing_bools.Goals as goal

pub new-requires-clause-well : goal.new-requires-clause-well
unfolding half modulus
new-requires-clause-well c = ap (is_code counts) (c.in_ok-to_vec.ensures.items_if_clones_equal (λ x y e. e))

pub new-requires-clause-fits : goal.new-requires-clause-fits
unfolding half modulus
new-requires-clause-fits c = ap (code_fits names counts) (c.in_ok-to_vec.ensures.items_if_clones_equal (λ x y e. e))
