use Rattle.std.proofs.Common.{◌∙◌, ◌<◌, ◌≤◌, length, rules}
use Rattle.std.proofs.lemmas.List.{length-set}
use Rattle.lane_machine.proofs.ClearLaws.{object_next, object_done}
use Rattle.lane_machine.proofs.clearing.clear_columns.Goals as goal

pub loop-i-preserved : goal.loop-i-preserved
loop-i-preserved c =
    let inv = c.loop-i.invariant in
    let xs = c.loop-i.columns.items in
    let i = c.loop-i.i in
    let h : i < length xs = search rules in
    let next = object_next c.args.columns.now.items xs i c.index_mut.result.now c.clear_numbers.new.numbers h
    c.index_mut.ensures.value c.clear_numbers.ensures inv.same inv.done in
    record { long = length-set xs i _ ∙ inv.long; same = next.0; done = next.1 }

pub returns : goal.returns
returns c =
    let inv = c.loop-i.invariant in
    let past : length c.loop-i.columns.items ≤ c.loop-i.i = search rules in
    object_done c.args.columns.now.items c.loop-i.columns.items c.loop-i.i past inv.same inv.done
