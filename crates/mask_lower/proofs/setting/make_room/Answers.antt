use Rattle.mask_lower.proofs.Room.{default_step}
use Rattle.mask_lower.proofs.setting.make_room.Goals as goal

pub loop-none-preserved : goal.loop-none-preserved
loop-none-preserved g c =
    default_step c.args.table.now.items c.loop-none.table.items c.push.new.list.items _ c.in_ok-push.ensures
    c.loop-none.invariant
