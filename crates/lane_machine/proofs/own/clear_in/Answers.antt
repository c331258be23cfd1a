use Rattle.std.proofs.Common.{◌∙◌, List, ℕ, [], ap, map, set}
use Rattle.lane_code.specs.Groups.{window, with_window, own_cleared}
use Rattle.lane_machine.proofs.NestedLaws.{map-set, read_array, objects_in}
use Rattle.lane_machine.proofs.own.clear_in.Goals as goal

pub returns : goal.returns
returns g c =
    let xs = c.args.privates.now.items in
    let f : List (List ℕ) → List (List ℕ) =
    λ b. with_window b c.args.first (own_cleared c.args.mask (window [] b c.args.first g.row.W)) in
    map-set objects_in xs c.args.array _ ∙ ap (set (map objects_in xs) c.args.array) (c.clear_own.ensures ∙
    ap f (read_array xs c.args.array c.index_mut.result.now c.requires.array c.index_mut.ensures.value))
