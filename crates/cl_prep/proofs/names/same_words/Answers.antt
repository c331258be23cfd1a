use Rattle.std.proofs.Common.{sym}
use Rattle.cl_prep.proofs.Tables.{other_lengths}
use Rattle.cl_prep.proofs.names.same_words.Goals as goal

pub returns-then-a-b : goal.returns-then-a-b
returns-then-a-b c = sym (other_lengths c.args.a.now c.args.b.now c.if-a-b.true)
