-- An item of a launch, with the number of its group and its number there.
use Rattle.std.specs.Prelude.{◌≡◌}
use Rattle.cl_model.specs.Sizes.{Launch, group_of, number_in_group}
use Rattle.lane_machine.specs.declared.queries.Spot.{Spot}

-- its numbers are those that the item has in the launch
pub record IsSpot (launch : Launch) (s : Spot) : Type 0 where
  pub group : s.group ≡ group_of launch s.number
  pub local : s.local ≡ number_in_group launch s.number
