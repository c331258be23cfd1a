use Rattle.std.proofs.Common.{◌-◌, min, length, ap, sym, ◌∙◌, arith}
use Rattle.cl_limits.proofs.Over.{last_block}
use Rattle.cl_limits.proofs.limit.block_nodes.Goals as goal

pub returns-in-len1-up : goal.returns-in-len1-up
returns-in-len1-up c =
    c.count_nodes.ensures
    ∙ ap (λ n. min n 18446744073709551615)
    (sym (last_block c.args.parts.now (length c.args.parts.now - 1) c.last-item.result (omega (
      arith,
      c.in-len1-up.len_at_least,
    )) c.last-item.is))
