use Rattle.std.proofs.Common.{◌*◌, ◌+◌, ◌/◌, ◌<◌, ◌^◌, slice_index_or, subst, sym, arith}
use Rattle.cl_model.specs.Sizes.{size_at}
use Rattle.cl_model.specs.View.{three_of}
use Rattle.lane_machine.proofs.SizeLaws.{size_le, number_le}
use Rattle.lane_machine.proofs.queries.global_in.Goals as goal

few : (c : goal.After-size_in) → c.group_in-group.result * c.size_in.result + c.local_in-local.result < 2 ^ 24
few c =
    let g = c.args.launch.now.global in
    let e = c.size_in.ensures.value in
    number_le (size_at (three_of g) c.args.d) c.size_in.result c.group_in-group.result c.local_in-local.result
    (size_le (slice_index_or g 0 0) (slice_index_or g 1 0) (slice_index_or g 2 0) c.args.d c.requires.sizes.global)
    (subst (λ l. c.group_in-group.result < size_at (three_of g) c.args.d / l) (sym e) c.group_in-group.ensures.below)
    (subst (λ l. c.local_in-local.result < l) (sym e) c.local_in-local.ensures.below)

pub overflow_mul-result : goal.overflow_mul-result
overflow_mul-result c = let h = few c in record { fits = omega (arith, h) }

pub overflow_add-result : goal.overflow_add-result
overflow_add-result c =
    let h = few c in
    let o = c.requires.sizes.offset c.args.d in
    record { fits = omega (arith, h, o, c.offset_in.ensures.value) }

pub overflow_add-result-2 : goal.overflow_add-result-2
overflow_add-result-2 c =
    let h = few c in
    let o = c.requires.sizes.offset c.args.d in
    record { fits = omega (arith, h, o, c.offset_in.ensures.value) }
