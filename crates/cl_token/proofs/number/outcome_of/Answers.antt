use Rattle.std.proofs.Common.{sym}
use Rattle.cl_token.proofs.Numbers.{past_all}
use Rattle.cl_token.proofs.number.outcome_of.Goals as goal

pub returns-in_default-value_of : goal.returns-in_default-value_of
returns-in_default-value_of c = sym (past_all c.args.word.now _ (sym c.in-Some.ensures) c.in_default-value_of.ensures)
