use Rattle.std.proofs.Common.{slice_index_or, ◌≡◌, ◌*◌, ◌/◌, ◌≤◌, ◌^◌, arith}
use Rattle.lane_machine.proofs.SizeLaws.{groups_are_sizes, first_two_le}
use Rattle.lane_machine.proofs.queries.groups_before.Goals as goal

pub overflow_mul-result : goal.overflow_mul-result
overflow_mul-result c =
    let g = c.args.launch.now.global in
    let l = c.args.launch.now.local in
    let p = slice_index_or g 0 0 / slice_index_or l 0 0 in
    let q = slice_index_or g 1 0 / slice_index_or l 1 0 in
    let r = slice_index_or g 2 0 / slice_index_or l 2 0 in
    let sizes = groups_are_sizes (slice_index_or g 0 0) (slice_index_or g 1 0) (slice_index_or g 2 0)
    (slice_index_or l 0 0) (slice_index_or l 1 0) (slice_index_or l 2 0)
    c.requires.sizes.global c.requires.sizes.local c.requires.sizes.divides in
    let most : p * q ≤ 2 ^ 24 = first_two_le p q r sizes in
    let first : c.groups_in-in_default.result ≡ p = c.groups_in-in_default.ensures.value in
    let second : c.groups_in-in_default-2.result ≡ q = c.groups_in-in_default-2.ensures.value in
    rw (first, second) (record { fits = omega (arith, most) })
