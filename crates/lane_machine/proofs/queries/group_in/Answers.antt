use Rattle.std.proofs.Common.{◌∙◌, ◌/◌, ◌%◌, ap, ap₂, sym}
use Rattle.std.proofs.Math.Nat.{mod-eq_of_lt}
use Rattle.cl_model.specs.Sizes.{groups_at}
use Rattle.cl_model.specs.View.{launch_of}
use Rattle.lane_machine.proofs.queries.group_in.Goals as goal

-- a number below the count of groups is its own rest
pub returns-then-has_group-clause-value : goal.returns-then-has_group-clause-value
returns-then-has_group-clause-value c =
    let l = launch_of c.args.launch.now in
    let e = c.quotient_of-number.ensures.value
    ∙ ap₂ (λ n b. n / b) c.requires.spot.group c.groups_before.ensures.value in
    sym (mod-eq_of_lt c.if-has_group.ensures) ∙ ap (λ n. n % groups_at l c.args.d) e
