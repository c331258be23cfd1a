use Rattle.std.proofs.Common.{ℕ, List, ap, ◌∙◌, Some}
use Rattle.cl_token.specs.Lexeme.{lexemes_of}
use Rattle.cl_prep.specs.Names.{with_name}
use Rattle.cl_prep.specs.Table.{names_of}
use Rattle.cl_prep.proofs.Tables.{updated}
use Rattle.cl_prep.proofs.names.set.Goals as goal

pub returns-in-Ok : goal.returns-in-Ok
returns-in-Ok c =
    updated c.args.names.now c.insert.new.self c.in_ok-key.key.items (Some c.args.body) c.in-Ok.ensures.updates
    ∙ ap (λ (name : List ℕ). with_name (names_of c.args.names.now) name (Some (lexemes_of c.args.body.items)))
    c.in_ok-key.ensures
