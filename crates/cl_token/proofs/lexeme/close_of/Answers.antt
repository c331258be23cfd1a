use Rattle.std.proofs.Common.{sym, ◌∙◌}
use Rattle.cl_token.proofs.Comments.{close_none, close_first, closes_at, none_closes}
use Rattle.cl_token.proofs.lexeme.close_of.Goals as goal

pub returns-then-byte_at-eq47-clause-first : goal.returns-then-byte_at-eq47-clause-first
returns-then-byte_at-eq47-clause-first c =
    sym (close_first c.args.text.now c.loop-place.place
    (closes_at c.args.text.now c.loop-place.place c.if-byte-eq42.true (sym c.byte_at.ensures ∙
    c.if-byte_at-eq47.true)) c.loop-place.invariant)

pub returns-clause-first : goal.returns-clause-first
returns-clause-first c =
    sym (close_none c.args.text.now (none_closes c.args.text.now c.loop-place.place c.loop-place.invariant
    c.loop-place-test.false))
