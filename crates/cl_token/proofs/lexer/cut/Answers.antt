use Rattle.std.proofs.Common.{List, true, drop, subst, sym, arith}
use Rattle.std.specs.Prelude.{Err}
use Rattle.cl_token.specs.declared.token.Token.{Token}
use Rattle.cl_token.specs.declared.lexeme.Piece.TheVariants.{LineEnd, Skipped, Cut}
use Rattle.cl_token.specs.Cuts.{CutsTo, start}
use Rattle.cl_token.proofs.Steps.{fits, line_step, skip_step, token_step, found, found_piece, word_some, refused}
use Rattle.cl_token.proofs.lexer.cut.Goals as goal

pub loop-at-init : goal.loop-at-init
loop-at-init c = record {
  within = omega arith;
  cut = subst (λ (ts : List Token). CutsTo c.args.source.now 0 true c.args.source.now ts)
      (sym c.new-tokens.ensures.items) start;
}

pub loop-at-preserved-in-Ok-LineEnd : goal.loop-at-preserved-in-Ok-LineEnd
loop-at-preserved-in-Ok-LineEnd c =
    let e = found_piece c.args.source.now c.loop-at.at c.in-Ok-LineEnd.field-0 LineEnd c.loop-at-test.true
    c.in-Ok-LineEnd.field-0-is c.in-Ok-LineEnd.ensures in
    record {
      within = omega arith;
      cut = line_step c.args.source.now c.loop-at.at c.loop-at.first c.loop-at.tokens.items c.loop-at.invariant.cut e;
    }

pub overflow_add-at-in-Ok-Skipped : goal.overflow_add-at-in-Ok-Skipped
overflow_add-at-in-Ok-Skipped c =
    let s = found_piece c.args.source.now c.loop-at.at c.in-Ok-Skipped.field-0 (Skipped c.in-Ok-Skipped.length)
    c.loop-at-test.true c.in-Ok-Skipped.field-0-is c.in-Ok-Skipped.ensures in
    omega (
      arith,
      fits c.args.source.now c.loop-at.at c.in-Ok-Skipped.length s.piece s.rest c.loop-at.invariant.within
          s.whole s.size,
    )

pub loop-at-smaller-in-Ok-Skipped : goal.loop-at-smaller-in-Ok-Skipped
loop-at-smaller-in-Ok-Skipped c =
    let s = found_piece c.args.source.now c.loop-at.at c.in-Ok-Skipped.field-0 (Skipped c.in-Ok-Skipped.length)
    c.loop-at-test.true c.in-Ok-Skipped.field-0-is c.in-Ok-Skipped.ensures in
    omega (arith, s.some)

pub loop-at-preserved-in-Ok-Skipped : goal.loop-at-preserved-in-Ok-Skipped
loop-at-preserved-in-Ok-Skipped c =
    let s = found_piece c.args.source.now c.loop-at.at c.in-Ok-Skipped.field-0 (Skipped c.in-Ok-Skipped.length)
    c.loop-at-test.true c.in-Ok-Skipped.field-0-is c.in-Ok-Skipped.ensures in
    record {
      within = fits c.args.source.now c.loop-at.at c.in-Ok-Skipped.length s.piece s.rest c.loop-at.invariant.within
          s.whole s.size;
      cut = skip_step c.args.source.now c.loop-at.at c.in-Ok-Skipped.length c.loop-at.first c.loop-at.tokens.items
          c.loop-at.invariant.cut s;
    }

pub overflow_add-at-in-Ok-Cut : goal.overflow_add-at-in-Ok-Cut
overflow_add-at-in-Ok-Cut c =
    let s = found_piece c.args.source.now c.loop-at.at c.in-Ok-Cut.field-0 (Cut c.in-Ok-Cut.kind c.in-Ok-Cut.length)
    c.loop-at-test.true c.in-Ok-Cut.field-0-is c.in-Ok-Cut.ensures in
    omega (
      arith,
      fits c.args.source.now c.loop-at.at c.in-Ok-Cut.length s.word s.rest c.loop-at.invariant.within
          s.whole s.size,
    )

pub token_at-requires-clause-within : goal.token_at-requires-clause-within
token_at-requires-clause-within c =
    let s = found_piece c.args.source.now c.loop-at.at c.in-Ok-Cut.field-0 (Cut c.in-Ok-Cut.kind c.in-Ok-Cut.length)
    c.loop-at-test.true c.in-Ok-Cut.field-0-is c.in-Ok-Cut.ensures in
    fits c.args.source.now c.loop-at.at c.in-Ok-Cut.length s.word s.rest c.loop-at.invariant.within s.whole s.size

pub loop-at-smaller : goal.loop-at-smaller
loop-at-smaller c =
    let s = found_piece c.args.source.now c.loop-at.at c.in-Ok-Cut.field-0 (Cut c.in-Ok-Cut.kind c.in-Ok-Cut.length)
    c.loop-at-test.true c.in-Ok-Cut.field-0-is c.in-Ok-Cut.ensures in
    omega (arith, word_some (drop c.loop-at.at c.args.source.now) c.in-Ok-Cut.kind c.in-Ok-Cut.length s)

pub loop-at-preserved : goal.loop-at-preserved
loop-at-preserved c =
    let s = found_piece c.args.source.now c.loop-at.at c.in-Ok-Cut.field-0 (Cut c.in-Ok-Cut.kind c.in-Ok-Cut.length)
    c.loop-at-test.true c.in-Ok-Cut.field-0-is c.in-Ok-Cut.ensures in
    record {
      within = fits c.args.source.now c.loop-at.at c.in-Ok-Cut.length s.word s.rest c.loop-at.invariant.within s.whole
          s.size;
      cut = token_step c.args.source.now c.loop-at.at c.in-Ok-Cut.length c.loop-at.first c.loop-at.tokens.items _
          c.in_ok-token-in-Ok-Cut.token c.in-Ok-Cut.kind c.loop-at.invariant.cut s c.in_ok-token-in-Ok-Cut.ensures
          c.in_ok-push-in-Ok-Cut.ensures;
    }

pub returns-in-Err : goal.returns-in-Err
returns-in-Err c =
    let w = found c.args.source.now c.loop-at.at (Err c.in-Err.fault) c.loop-at-test.true c.in-Err.ensures in
    rw c.error_of.ensures (refused c.args.source.now c.loop-at.at c.in-Err.fault c.loop-at.first
    c.loop-at.tokens.items c.requires c.loop-at.invariant.cut w)
