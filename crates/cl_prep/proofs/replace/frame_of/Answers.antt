use Rattle.std.proofs.Common.{rules, ℕ, List, ◌≡◌, Some, ◌∙◌, sym, ap}
use Rattle.cl_token.specs.declared.token.Kind.TheVariants.{Name}
use Rattle.cl_token.specs.declared.token.Token.{Token}
use Rattle.cl_token.specs.Lexeme.{lexeme_of, lexemes_of}
use Rattle.cl_prep.specs.Table.{names_of}
use Rattle.cl_prep.proofs.Tables.{name_replaced, body_lexemes}
use Rattle.cl_prep.proofs.replace.frame_of.Goals as goal

pub returns-clause-some : goal.returns-clause-some
returns-clause-some c =
    let named : c.args.token.now.kind ≡ Name = search rules in
    name_replaced (names_of c.args.names.now) (lexeme_of c.args.token.now) named
    ∙ ap (λ (w : List ℕ). names_of c.args.names.now w) (sym c.bytes.ensures)
    ∙ sym (ap body_lexemes c.in_ok-number.ensures.value)
    ∙ ap (λ (ts : List Token). Some (lexemes_of ts)) (sym c.as_slice.ensures.value)
