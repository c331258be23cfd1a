use Rattle.std.proofs.lemmas.Result.{IfOk-weaker}
use Rattle.command_words.proofs.CommandLemmas.{adds_sub}
use Rattle.command_words.proofs.wgcc_command.Goals as goal

pub returns : goal.returns
returns c =
    let with_run = adds_sub _ _ _ _ _ c.bare_command.ensures c.in_ok-run.ensures c.in_ok-subcommand.ensures in
    let with_plan = adds_sub _ _ _ _ _ with_run c.in_ok-plan.ensures c.in_ok-subcommand-2.ensures in
    let with_code = adds_sub _ _ _ _ _ with_plan c.in_ok-code.ensures c.in_ok-subcommand-3.ensures in
    let with_sample = adds_sub _ _ _ _ _ with_code c.in_ok-sample.ensures c.in_ok-subcommand-4.ensures in
    let with_build = adds_sub _ _ _ _ _ with_sample c.in_ok-build.ensures c.in_ok-subcommand-5.ensures in
    IfOk-weaker _ _ _ (λ r h. adds_sub _ _ r _ _ with_build c.in_ok-exec.ensures h) c.subcommand-6.ensures
