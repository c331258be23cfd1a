use Rattle.std.proofs.Common.{◌∙◌, sym}
use Rattle.cl_model.specs.View.{launch_of}
use Rattle.lane_code.specs.View.{plain_of}
use Rattle.lane_code.specs.Program.{names_of}
use Rattle.lane_machine.specs.Standing.{HasNames}
use Rattle.lane_machine.proofs.ZeroLaws.{has_names}
use Rattle.lane_machine.proofs.chunks.items_at.Goals as goal

pub finish-requires : goal.finish-requires
finish-requires g c =
    let p = plain_of c.args.task.program.now in
    let h : HasNames (names_of p) c.chunks-end.new.group.kept =
    has_names p (launch_of c.args.task.launch.now) c.chunks-end.new.group.kept c.chunks-end.ensures.stands.made in
    h.entries ∙ sym h.exits
