use Rattle.cl_token.proofs.Outcomes.{all_tokens, all_faults}
use Rattle.cl_token.proofs.Inside.{all_few, all_inside}
use Rattle.cl_token.proofs.lexer.tokens.Goals as goal

pub returns-clause-all : goal.returns-clause-all
returns-clause-all c = λ ts l h. all_tokens c.args.source.now c.cut.result l c.cut.ensures ts h

pub returns-clause-fault : goal.returns-clause-fault
returns-clause-fault c =
    λ e h. all_faults c.args.source.now c.cut.result c.if-source-gt-SOURCE_LIMIT.false c.cut.ensures e h

pub returns-clause-inside : goal.returns-clause-inside
returns-clause-inside c = all_inside c.args.source.now c.cut.result c.cut.ensures

pub returns-clause-few : goal.returns-clause-few
returns-clause-few c = all_few c.args.source.now c.cut.result c.cut.ensures
