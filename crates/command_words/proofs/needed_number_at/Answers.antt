use Rattle.std.proofs.Common.{Some}
use Rattle.clap.specs.Words.{found_of, rows_of}
use Rattle.command_words.specs.Command.{IsNumberFound, IsNumberAt}
use Rattle.command_words.proofs.RowLemmas.{number_by_rows, if_some}
use Rattle.command_words.proofs.needed_number_at.Goals as goal

pub returns : goal.returns
returns c = if_some (λ n. IsNumberFound c.args.id.now (found_of c.args.matches.now) (Some n))
    (λ n. IsNumberAt c.args.id.now (rows_of (found_of c.args.matches.now)) (Some n))
    (λ n. number_by_rows (found_of c.args.matches.now) c.args.id.now (Some n)) c.needed_number_found.result
    c.needed_number_found.ensures
