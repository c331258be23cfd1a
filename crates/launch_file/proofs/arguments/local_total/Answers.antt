use Rattle.std.proofs.Common.{◌≡◌, ◌≤◌, drop, drop_of_length-le, length, ap, arith, rules}
use Rattle.launch_file.specs.Binding as spec
use Rattle.launch_file.proofs.arguments.local_total.Goals as goal

pub returns : goal.returns
returns c =
    let past : length c.args.args.now ≤ c.loop-arg.arg-index = search rules in
    let none : spec.total (λ a. spec.count_of (spec.local_bytes_of a)) (drop c.loop-arg.arg-index c.args.args.now) ≡
    0 = ap (spec.total (λ a. spec.count_of (spec.local_bytes_of a))) (drop_of_length-le c.args.args.now past) in
    omega (arith, c.loop-arg.invariant.same, c.loop-arg.invariant.small, none)
