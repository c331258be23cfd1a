use Rattle.std.proofs.Common.{◌≡◌, Some, subst}
use Rattle.launch_file.specs.Binding.{Needs, launch_refusal, part_at}
use Rattle.launch_file.specs.Texts.{text_of}
use Rattle.launch_file_bind.proofs.bind.Goals as goal

pub returns-clause-refused : goal.returns-clause-refused
returns-clause-refused c =
    λ first is. subst (λ (n : Needs). launch_refusal n (text_of c.args.text.now).buffers
    (part_at (text_of c.args.text.now) c.args.which) ≡ Some first) c.in_ok-asked.ensures
    (c.bind_kernel.ensures.refused first is)
