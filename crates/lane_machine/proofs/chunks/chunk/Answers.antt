use Rattle.std.proofs.Common.{sum, rules}
use Rattle.cl_model.specs.View.{launch_of}
use Rattle.lane_code.specs.View.{plain_of}
use Rattle.lane_machine.proofs.ChunkLaws.{number_small}
use Rattle.lane_machine.proofs.SizeLaws.{sizes_fit}
use Rattle.lane_machine.proofs.ZeroLaws.{has_names}
use Rattle.lane_machine.proofs.chunks.chunk.Goals as goal

pub region_at-end-requires : goal.region_at-end-requires
region_at-end-requires g c =
    let p = plain_of c.args.task.program.now in
    let l = c.args.task.launch.now in
    let sizes = sizes_fit p.params (sum p.locals) l c.requires.stands.fits in
    let names = has_names p (launch_of l) c.args.group.now.kept c.requires.stands.made in
    search rules

pub launch_end-requires : goal.launch_end-requires
launch_end-requires g c =
    let p = plain_of c.args.task.program.now in
    let l = c.args.task.launch.now in
    let sizes = sizes_fit p.params (sum p.locals) l c.requires.stands.fits in
    let small = number_small p.params (sum p.locals) l c.requires.stands.fits c.args.group.now.number
    c.requires.stands.within in
    search rules
