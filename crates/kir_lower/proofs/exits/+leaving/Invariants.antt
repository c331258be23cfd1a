use Rattle.std.proofs.Common.{◌≡◌, drop}
use Rattle.cl_model.specs.View.{listed_statements}
use Rattle.cl_model.specs.Listed.{listed_arms}
use Rattle.kir_lower.specs.Ways.{way_out_of_all, way_out_of_arms}
use Rattle.kir_lower.proofs.exits.+leaving.Given as goal

abbrev pub invariant-way_out_of_all-loop-s : goal.invariant-way_out_of_all-loop-s
invariant-way_out_of_all-loop-s l =
    way_out_of_all l.breaks l.continues (listed_statements l.list) ≡ way_out_of_all l.breaks l.continues
    (listed_statements (drop l.s-index l.list))

abbrev pub invariant-way_out_of_arms-loop-arm : goal.invariant-way_out_of_arms-loop-arm
invariant-way_out_of_arms-loop-arm l =
    way_out_of_arms l.breaks l.continues (listed_arms l.arms) ≡ way_out_of_arms l.breaks l.continues
    (listed_arms (drop l.arm-index l.arms))
