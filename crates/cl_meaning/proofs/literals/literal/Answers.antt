use Rattle.std.proofs.Common.{sym, ap, Err}
use Rattle.cl_meaning.proofs.Numbers.{malformed_none, large_none}
use Rattle.cl_meaning.proofs.literals.literal.Goals as goal

pub returns-in-Err-Malformed-clause-same : goal.returns-in-Err-Malformed-clause-same
returns-in-Err-Malformed-clause-same c =
    sym (malformed_none c.args.word.now (c.in-Err-Malformed.ensures.malformed.0 (ap Err c.in-Err-Malformed.field-0-is)))

pub returns-in-Err-TooLarge-clause-same : goal.returns-in-Err-TooLarge-clause-same
returns-in-Err-TooLarge-clause-same c =
    sym (large_none c.args.word.now (c.in-Err-TooLarge.ensures.too_large.0 (ap Err c.in-Err-TooLarge.field-0-is)))
