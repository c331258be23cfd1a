use Rattle.std.proofs.Common.{arith}
use Rattle.cl_front.proofs.FrontLemmas.{few_tokens}
use Rattle.cl_front.proofs.front.expand_tokens.Goals as goal

pub expand-requires : goal.expand-requires
expand-requires c = omega (arith, c.requires.short, few_tokens c.args.source.now c.args.tokens.now c.requires.cuts)
