use Rattle.cl_front.proofs.FrontLemmas.{unexpanded_stands}
use Rattle.cl_front.proofs.front.unexpanded.Goals as goal

pub returns-in-Ok : goal.returns-in-Ok
returns-in-Ok c = unexpanded_stands c.args.source.now c.args.defines.now.list.items c.args.tokens.now c.args.error
    c.in-Ok.condition c.in-Ok.token c.token_place.result c.requires.short c.requires.cuts c.requires.refused
    c.in-Ok.ensures.ok c.token_place.ensures
