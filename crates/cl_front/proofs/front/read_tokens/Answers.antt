use Rattle.cl_front.proofs.front.read_tokens.Goals as goal

pub returns-in-Err-clause-err : goal.returns-in-Err-clause-err
returns-in-Err-clause-err c = c.in-Err.ensures.err c.args.defines.now.list.items
