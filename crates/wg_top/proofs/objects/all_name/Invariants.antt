use Rattle.std.proofs.Common.{◌≡◌, ◌↔◌, drop}
use Rattle.cl_model.specs.Lists.{Each}
use Rattle.launch_file.specs.declared.text.LaunchPart.{LaunchPart}
use Rattle.wg_top.proofs.objects.all_name.Given as goal

-- all name it where the parts that are left do
abbrev pub invariant-loop-part : goal.invariant-loop-part
invariant-loop-part l =
    Each (λ (p : LaunchPart). p.kernel ≡ l.kernel) l.list ↔
    Each (λ (p : LaunchPart). p.kernel ≡ l.kernel) (drop l.part-index l.list)
