use Rattle.std.proofs.Common.{◌∙◌, ◌<◌, ◌≤◌, length, rules}
use Rattle.std.proofs.lemmas.List.{length-set}
use Rattle.lane_machine.proofs.ClearLaws.{array_next, array_done}
use Rattle.lane_machine.proofs.clearing.clear_arrays.Goals as goal

pub loop-i-preserved : goal.loop-i-preserved
loop-i-preserved c =
    let inv = c.loop-i.invariant in
    let xs = c.loop-i.arrays.items in
    let i = c.loop-i.i in
    let h : i < length xs = search rules in
    let next = array_next c.args.arrays.now.items xs i c.index_mut.result.now c.clear_objects.new.objects h
    c.index_mut.ensures.value c.clear_objects.ensures inv.same inv.done in
    record { long = length-set xs i _ ∙ inv.long; same = next.0; done = next.1 }

pub returns : goal.returns
returns c =
    let inv = c.loop-i.invariant in
    let past : length c.loop-i.arrays.items ≤ c.loop-i.i = search rules in
    array_done c.args.arrays.now.items c.loop-i.arrays.items c.loop-i.i past inv.same inv.done
