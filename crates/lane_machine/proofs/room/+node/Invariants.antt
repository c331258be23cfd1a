use Rattle.std.proofs.Common.{drop}
use Rattle.lane_machine.specs.Room.{Room, HasRoom, HasRoomForEach}
use Rattle.lane_machine.proofs.room.+node.Given as goal

-- room for what is found so far is room for the nodes before, and so with room for the others for all
abbrev pub invariant-most_in_each-loop-one : goal.invariant-most_in_each-loop-one
invariant-most_in_each-loop-one l =
    (room : Room) → HasRoom l.so_far room → HasRoom l.fn.start room ×
    (HasRoomForEach room (drop l.one-index l.one-items) → HasRoomForEach room l.one-items)
