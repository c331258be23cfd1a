use Rattle.std.proofs.Common.{◌≡◌, ◌++◌, drop, map}
use Rattle.cl_model.specs.View.{function_of, program_of}
use Rattle.diverge.specs.Known.{row_of}
use Rattle.diverge.specs.Rounds.{start_row, start}
use Rattle.diverge.proofs.rounds.start.Given as goal

abbrev pub invariant-loop-own : goal.invariant-loop-own
invariant-loop-own l = map row_of l.rows.items ++ map start_row (map function_of (drop l.own-index l.own-items)) ≡
    (start (program_of l.program)).rows
