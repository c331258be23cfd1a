use Rattle.std.proofs.Common.{arith}
use Rattle.wg_top.proofs.ShapeLemmas.{three_fit}
use Rattle.wg_top.proofs.launches.counts.Goals as goal

pub overflow_mul-groups : goal.overflow_mul-groups
overflow_mul-groups c = let t = three_fit c.args.launch.now c.requires in omega (arith, t.plane)

pub overflow_mul-groups-2 : goal.overflow_mul-groups-2
overflow_mul-groups-2 c = let t = three_fit c.args.launch.now c.requires in omega (arith, t.groups)

pub overflow_mul-size : goal.overflow_mul-size
overflow_mul-size c = let t = three_fit c.args.launch.now c.requires in omega (arith, t.cells)

pub overflow_mul-size-2 : goal.overflow_mul-size-2
overflow_mul-size-2 c = let t = three_fit c.args.launch.now c.requires in omega (arith, t.size)

pub overflow_mul-result : goal.overflow_mul-result
overflow_mul-result c = let t = three_fit c.args.launch.now c.requires in omega (arith, t.items)

pub returns-clause-few_groups : goal.returns-clause-few_groups
returns-clause-few_groups c = let t = three_fit c.args.launch.now c.requires in omega (arith, t.groups)

pub returns-clause-few_items : goal.returns-clause-few_items
returns-clause-few_items c = let t = three_fit c.args.launch.now c.requires in omega (arith, t.items)
