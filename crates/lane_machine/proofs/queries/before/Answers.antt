use Rattle.std.proofs.Common.{slice_index_or, arith, mul-pos}
use Rattle.lane_machine.proofs.SizeLaws.{first_two_le}
use Rattle.lane_machine.proofs.queries.before.Goals as goal

pub overflow_mul-result : goal.overflow_mul-result
overflow_mul-result c =
    let s = c.args.sizes.now in
    let most = first_two_le (slice_index_or s 0 0) (slice_index_or s 1 0) (slice_index_or s 2 0) c.requires.sizes in
    record { fits = omega (arith, most) }

pub returns-in-1-clause-some : goal.returns-in-1-clause-some
returns-in-1-clause-some c = let s = c.requires.sizes.some 0 in omega (arith, s)

pub returns-in_default-clause-some : goal.returns-in_default-clause-some
returns-in_default-clause-some c =
    let s = c.requires.sizes.some 0 in
    let t = c.requires.sizes.some 1 in
    mul-pos s t
