use Rattle.std.proofs.Common.{ap, ◌∙◌}
use Rattle.cl_prep.specs.Names.{Names}
use Rattle.cl_prep.specs.Start.{start_names, names_in, narrow_limits, wide_limits, unsigned_limits}
use Rattle.cl_prep.proofs.start.start_names.Goals as goal

pub returns : goal.returns
unfolding start_names
returns c =
    c.in_ok-add_unsigned.ensures
    ∙ ap (λ (n : Names). names_in n unsigned_limits) (c.in_ok-add_wide.ensures ∙
    ap (λ (n : Names). names_in n wide_limits) (c.in_ok-add_narrow.ensures ∙
    ap (λ (n : Names). names_in n narrow_limits) c.no_names-names.ensures))
