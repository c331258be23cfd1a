use Rattle.clap.specs.Words.{found_of, rows_of}
use Rattle.command_words.specs.Command.{IsNumberFound, IsNumberAt}
use Rattle.command_words.proofs.RowLemmas.{number_by_rows, if_some}
use Rattle.command_words.proofs.number_at.Goals as goal

pub returns : goal.returns
returns c = if_some (IsNumberFound c.args.id.now (found_of c.args.matches.now))
    (IsNumberAt c.args.id.now (rows_of (found_of c.args.matches.now)))
    (number_by_rows (found_of c.args.matches.now) c.args.id.now) c.number_found.result c.number_found.ensures
