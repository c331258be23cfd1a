use Rattle.std.proofs.Common.{◌∙◌, refl, sym, ap, map, List}
use Rattle.std.proofs.lemmas.Simd.{map-map}
use Rattle.cl_model.specs.Tree.{Table}
use Rattle.cl_model.specs.View.{table_of}
use Rattle.kir.specs.View.{kernel_of}
use Rattle.item_loops.specs.Built.{built_of}
use Rattle.item_loops.proofs.BuiltLaws.{same_parts}
use Rattle.item_loops.proofs.building.parts_for.Goals as goal
use Rattle.ctx_plan.specs.View.{planned_of}

pub returns-clause-plain : goal.returns-clause-plain
returns-clause-plain c =
    let tables =
    sym (map-map (λ (t : Table). t.bytes) table_of c.in_ok-objects.objects.tables.items)
    ∙ ap (λ (ts : List Table). map (λ (t : Table). t.bytes) ts) c.in_ok-objects.ensures.tables in
    let o = c.in_ok-objects.ensures in
    let h = c.in_ok-head.ensures in
    same_parts _ (built_of (kernel_of c.args.kernel.now) (planned_of c.args.plan.now) c.args.width c.args.tree.now)
    refl refl refl h.params tables o.locals o.privates h.sites c.in_ok-top.ensures
