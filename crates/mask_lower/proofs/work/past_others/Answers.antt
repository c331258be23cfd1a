use Rattle.std.proofs.Common.{◌≤◌, length, arith}
use Rattle.mask_lower.proofs.Arguments.{others_end}
use Rattle.mask_lower.proofs.work.past_others.Goals as goal

pub returns : goal.returns
returns c =
    let args = c.args.args.now in
    let ok = args.ok in
    let done : length args.items ≤ c.loop-i.i = omega (arith, c.loop-i-test.false, c.len-i-end.ensures, ok) in
    others_end c.loop-i.after _ args.items c.loop-i.i done c.loop-i.invariant
