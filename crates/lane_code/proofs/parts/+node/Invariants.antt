use Rattle.std.proofs.Common.{◌≡◌, drop}
use Rattle.lane_code.specs.Program.{names_of}
use Rattle.lane_code.specs.Parts.{parts_of, nodes_fit}
use Rattle.lane_code.proofs.parts.+node.Given as goal

-- what is still to be tested decides
abbrev pub invariant-nodes_fit_in-loop-one : goal.invariant-nodes_fit_in-loop-one
invariant-nodes_fit_in-loop-one l = nodes_fit (names_of (parts_of l.parts)) (drop l.one-index l.one-items) ≡
    nodes_fit (names_of (parts_of l.parts)) l.one-items
