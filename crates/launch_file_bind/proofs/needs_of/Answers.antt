use Rattle.std.proofs.Common.{◌≡◌, map, take}
use Rattle.launch_file_bind.proofs.FirstKinds.{first_kinds}
use Rattle.launch_file_bind.proofs.needs_of.Goals as goal
use Rattle.cl_meaning.specs.View.{variable_of}

pub returns : goal.returns
returns c =
    let kinds : c.in_ok-kinds.kinds.items ≡
    take c.args.kernel.now.params (map (λ v. v.kind) (map variable_of c.args.kernel.now.vars.items)) =
    cc (
      c.in_ok-kinds.ensures,
      c.first_of.ensures,
      c.deref.ensures.value,
      first_kinds c.args.kernel.now.params c.args.kernel.now.vars.items,
    ) in
    cc (kinds, c.local_bytes.ensures)
