use Rattle.std.proofs.Common.{◌≡◌, ◌<◌, ◌+◌, ℕ, length, take, sym, ap, ◌∙◌, arith}
use Rattle.std.specs.Prelude.{sum}
use Rattle.cl_model.specs.Objects.{local_arguments}
use Rattle.wg_top.proofs.LaunchLemmas.{more_local_at}
use Rattle.wg_top.proofs.launches.has_room.Goals as goal

pub loop-k-preserved : goal.loop-k-preserved
loop-k-preserved c =
    let lt : c.loop-k.k < length c.args.args.now = omega (arith, c.loop-k-test.true) in
    let more : sum (local_arguments (take (c.loop-k.k + 1) c.args.args.now)) ≡
    sum (local_arguments (take c.loop-k.k c.args.args.now)) + c.local_bytes_of.result =
    more_local_at c.args.args.now c.loop-k.k _ lt ∙
    ap (λ (n : ℕ). sum (local_arguments (take c.loop-k.k c.args.args.now)) + n) (sym c.local_bytes_of.ensures) in
    omega (arith, c.loop-k.invariant, c.capped-bytes-in-loop-k.ensures, more)
