use Rattle.std.proofs.Common.{◌∙◌, sym, ap₂, cond, Bool}
use Rattle.lane_code.specs.Run.{Agreed, Refused, Mixed}
use Rattle.lane_machine.proofs.VoteLaws.{verdict_summed}
use Rattle.lane_machine.proofs.group_state.answers_of.Goals as goal

pub returns : goal.returns
returns c =
    c.answer_for.ensures
    ∙ ap₂ (λ (y n : Bool). cond n (cond y Mixed Refused) Agreed) c.some_yes.ensures c.some_no.ensures
    ∙ sym (verdict_summed c.args.votes.now)
