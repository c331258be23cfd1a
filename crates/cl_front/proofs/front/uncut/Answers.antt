use Rattle.cl_front.proofs.FrontLemmas.{uncut_within, uncut_stands}
use Rattle.cl_front.proofs.front.uncut.Goals as goal

pub place_of-requires : goal.place_of-requires
place_of-requires c = uncut_within c.args.source.now c.args.error c.in-Ok.condition c.in-Ok.at c.in-Ok.ensures.ok
    c.requires

pub returns-in-Ok : goal.returns-in-Ok
returns-in-Ok c = uncut_stands c.args.source.now c.args.error c.in-Ok.condition c.in-Ok.at c.place_of.result
    c.requires c.in-Ok.ensures.ok c.place_of.ensures
