-- The definitions compute: each example is proved by computing both sides.
use Rattle.std.proofs.Common.{refl}
use Rattle.wg_num.specs.Wrap.{wrap_of, bits_of, value_of, modulus, half}
use Rattle.wg_num.specs.Operators.{unary_of, binary_of}
use Rattle.examples_kir.specs.Straight.{IsFit, Ends, TracesAgree, LivesBetween, FewLines}
use Rattle.examples_kir.specs.Choice.{IsChoiceFit, IsStuck, ChoiceTracesAgree, StandsAtBarrier, CutsAtChoice}
use Rattle.examples_kir.specs.Choice.{KeepsTest, CountsKeeps}
use Rattle.examples_kir.specs.Rounds.{IsRoundFit, RoundEnds, RoundTracesAgree, PointsDiffer, CutsAtRound}
use Rattle.examples_kir.specs.Rounds.{LivesInRound, KeepsNoAnswer, SamePlaceSameTasks}
use Rattle.examples_kir.specs.Text.{ScanCrosses, ExitCrosses, BlocksApart, CalleeFirst, CalleeWithin, DoBodyFirst}

pub is_fit : IsFit
unfolding wrap_of bits_of value_of modulus half binary_of unary_of
is_fit = refl

pub ends : Ends
unfolding wrap_of bits_of value_of modulus half binary_of unary_of
ends = refl

pub traces_agree : TracesAgree
unfolding wrap_of bits_of value_of modulus half binary_of unary_of
traces_agree = refl

pub lives_between : LivesBetween
unfolding wrap_of bits_of value_of modulus half binary_of unary_of
lives_between = (refl, refl, refl, refl, refl)

pub few_lines : FewLines
unfolding wrap_of bits_of value_of modulus half binary_of unary_of
few_lines = (refl, refl, refl)

pub is_choice_fit : IsChoiceFit
unfolding wrap_of bits_of value_of modulus half binary_of unary_of
is_choice_fit = refl

pub is_stuck : IsStuck
unfolding wrap_of bits_of value_of modulus half binary_of unary_of
is_stuck = (refl, refl, refl)

pub choice_traces_agree : ChoiceTracesAgree
unfolding wrap_of bits_of value_of modulus half binary_of unary_of
choice_traces_agree = refl

pub stands_at_barrier : StandsAtBarrier
unfolding wrap_of bits_of value_of modulus half binary_of unary_of
stands_at_barrier = (refl, refl, refl, refl)

pub cuts_at_choice : CutsAtChoice
unfolding wrap_of bits_of value_of modulus half binary_of unary_of
cuts_at_choice = (refl, refl, refl, refl, refl, refl, refl, refl, refl, refl)

pub keeps_test : KeepsTest
unfolding wrap_of bits_of value_of modulus half binary_of unary_of
keeps_test = (refl, refl, refl, refl)

pub counts_keeps : CountsKeeps
unfolding wrap_of bits_of value_of modulus half binary_of unary_of
counts_keeps = (refl, refl)

pub is_round_fit : IsRoundFit
unfolding wrap_of bits_of value_of modulus half binary_of unary_of
is_round_fit = refl

pub round_ends : RoundEnds
unfolding wrap_of bits_of value_of modulus half binary_of unary_of
round_ends = refl

pub round_traces_agree : RoundTracesAgree
unfolding wrap_of bits_of value_of modulus half binary_of unary_of
round_traces_agree = refl

pub points_differ : PointsDiffer
unfolding wrap_of bits_of value_of modulus half binary_of unary_of
points_differ = (refl, refl, refl)

pub cuts_at_round : CutsAtRound
unfolding wrap_of bits_of value_of modulus half binary_of unary_of
cuts_at_round = (refl, refl, refl, refl, refl, refl)

pub lives_in_round : LivesInRound
unfolding wrap_of bits_of value_of modulus half binary_of unary_of
lives_in_round = (refl, refl, refl, refl, refl, refl, refl)

pub keeps_no_answer : KeepsNoAnswer
unfolding wrap_of bits_of value_of modulus half binary_of unary_of
keeps_no_answer = (refl, refl, refl)

pub same_place_same_tasks : SamePlaceSameTasks
unfolding wrap_of bits_of value_of modulus half binary_of unary_of
same_place_same_tasks = (refl, refl)

pub scan_crosses : ScanCrosses
unfolding wrap_of bits_of value_of modulus half binary_of unary_of
scan_crosses = refl

pub exit_crosses : ExitCrosses
unfolding wrap_of bits_of value_of modulus half binary_of unary_of
exit_crosses = refl

pub blocks_apart : BlocksApart
unfolding wrap_of bits_of value_of modulus half binary_of unary_of
blocks_apart = (refl, refl)

pub callee_first : CalleeFirst
unfolding wrap_of bits_of value_of modulus half binary_of unary_of
callee_first = refl

pub callee_within : CalleeWithin
unfolding wrap_of bits_of value_of modulus half binary_of unary_of
callee_within = (refl, refl)

pub do_body_first : DoBodyFirst
unfolding wrap_of bits_of value_of modulus half binary_of unary_of
do_body_first = (refl, refl)
