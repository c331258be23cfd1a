use Rattle.cl_model.specs.View.{program_of}
use Rattle.diverge.specs.Known.{state_of}
use Rattle.diverge.specs.Rounds.{known_of}
use Rattle.diverge.proofs.Settling.{enough_first, enough_after, enough_last, less_left}
use Rattle.diverge.proofs.rounds.settle.Goals as goal

pub loop-known-init : goal.loop-known-init
loop-known-init c = λ e. enough_first (program_of c.args.program.now) (state_of c.args.known.now) e

pub loop-known-preserved : goal.loop-known-preserved
loop-known-preserved c = λ e.
    enough_after (program_of c.args.program.now) (state_of c.loop-known.known) (state_of c.round.new.known)
    (known_of (program_of c.args.program.now)) c.round.ensures c.if-not-known.false (c.loop-known.invariant e)

pub loop-known-smaller : goal.loop-known-smaller
loop-known-smaller c =
    less_left (program_of c.args.program.now) (state_of c.loop-known.known) (state_of c.round.new.known) c.round.ensures
    c.if-not-known.false

pub returns-then-not-known : goal.returns-then-not-known
returns-then-not-known c = λ e.
    enough_last (program_of c.args.program.now) (state_of c.loop-known.known) (state_of c.round.new.known)
    (known_of (program_of c.args.program.now)) c.round.ensures c.if-not-known.true (c.loop-known.invariant e)
