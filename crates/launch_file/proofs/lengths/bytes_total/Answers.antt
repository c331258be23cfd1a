use Rattle.std.proofs.Common.{◌≡◌, ◌≤◌, drop, drop_of_length-le, length, ap, arith, rules}
use Rattle.launch_file.specs.Binding as spec
use Rattle.launch_file.proofs.lengths.bytes_total.Goals as goal

pub returns : goal.returns
returns c =
    let past : length c.args.buffers.now ≤ c.loop-buffer.buffer-index = search rules in
    let none : spec.total (λ b. spec.count_of b.bytes) (drop c.loop-buffer.buffer-index c.args.buffers.now) ≡ 0 =
    ap (spec.total (λ b. spec.count_of b.bytes)) (drop_of_length-le c.args.buffers.now past) in
    omega (arith, c.loop-buffer.invariant.same, c.loop-buffer.invariant.small, none)
