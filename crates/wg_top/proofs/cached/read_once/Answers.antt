use Rattle.launch_file.specs.Texts.{text_of}
use Rattle.wg_top.proofs.ObjectCauseLemmas.{stands_typed, without_launches}
use Rattle.wg_top.proofs.cached.read_once.Goals as goal

pub returns-in-Err-clause-err : goal.returns-in-Err-clause-err
returns-in-Err-clause-err c = λ kernel. stands_typed c.args.bytes.now (text_of c.args.text.now) kernel
    c.refused.result (c.refused.ensures.source c.args.bytes.now (without_launches (text_of c.args.text.now))
    c.in-Err.ensures.err)
