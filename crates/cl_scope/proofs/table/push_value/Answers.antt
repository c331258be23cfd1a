use Rattle.std.proofs.Common.{arith}
use Rattle.wg_num.specs.Bytes.{size_of}
use Rattle.cl_scope.proofs.Products.{byte_pushed}
use Rattle.cl_scope.proofs.table.push_value.Goals as goal

pub loop-place-preserved : goal.loop-place-preserved
loop-place-preserved c = byte_pushed _ c.loop-place.bytes.items c.push.new.list.items (size_of c.args.of)
    c.loop-place._place c.loop-place.rest (omega (arith, c.size_of-place-end.ensures)) c.loop-place.invariant
    c.in_ok-push.ensures
