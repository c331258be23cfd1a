use Rattle.std.proofs.Common.{sym, ap, ◌∙◌}
use Rattle.cl_model.specs.Valid.{arity_of}
use Rattle.kir.specs.Parts.{parts_of}
use Rattle.kir.specs.Fits.{work_fits}
use Rattle.kir.specs.Listed.{work_of}
use Rattle.kir.proofs.FirstLines.{other_count}
use Rattle.kir.proofs.fitting.work_fits.Goals as goal

pub returns-else-len-arity_of : goal.returns-else-len-arity_of
returns-else-len-arity_of c =
    other_count (parts_of c.args.parts.now) c.in-Builtin.of (arity_of c.in-Builtin.f) c.in-Builtin.args.items
    (λ e. c.if-len-arity_of.false (c.len.ensures ∙ c.in-Builtin.args.ok.0 ∙ sym (c.arity_of.ensures ∙ e)))
    ∙ sym (ap (λ w. work_fits (parts_of c.args.parts.now) (work_of w)) c.in-Builtin.is)
