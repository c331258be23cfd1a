use Rattle.std.proofs.Common.{◌+◌, ◌-◌, ◌*◌, length}
use Rattle.cl_token.specs.Lexeme.{lexemes_of}
use Rattle.cl_prep.specs.Expands.{token_limit, replacement_limit}
use Rattle.cl_prep.specs.Table.{names_of}
use Rattle.cl_prep.specs.Frames.{IsReading}
use Rattle.cl_prep.proofs.replace.replace.Given as goal

abbrev pub invariant-loop-top : goal.invariant-loop-top
invariant-loop-top l = IsReading l.names.entries (names_of l.names) l.token (lexemes_of l.fn.frame.left.now)
    l.fn.out.items l.fn.count l.frames.items l.marks.items l.out.items l.replaced

abbrev pub decreases-loop-top : goal.decreases-loop-top
decreases-loop-top l = 2 * (replacement_limit - l.replaced) + (token_limit - length l.out.items) + length l.frames.items
