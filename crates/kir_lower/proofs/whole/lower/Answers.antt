use Rattle.std.proofs.Common.{map, ap, ◌∙◌}
use Rattle.cl_model.specs.Calls as called
use Rattle.cl_model.specs.Valid.{parameter_kinds}
use Rattle.cl_model.specs.View.{program_of, table_of}
use Rattle.kir.specs.Listed.{lines_of}
use Rattle.kir.specs.Lowering.{names_of}
use Rattle.kir_lower.specs.View.{made_of}
use Rattle.kir_lower.specs.Whole.{kernel_code, lowered_of}
use Rattle.kir_lower.proofs.Wholes.{kernel_parts}
use Rattle.kir_lower.proofs.whole.lower.Goals as goal

pub returns-in-Some : goal.returns-in-Some
unfolding lowered_of
returns-in-Some c =
    let program = program_of c.args.program.now in
    let code = kernel_code program (names_of c.args.program.now) in
    let known = c.in_ok-parts.ensures in
    c.in-Some.ensures.some
    ∙ kernel_parts c.in_ok-parts.parts.kinds.items (parameter_kinds (called.kernel_of program))
    (made_of c.in_ok-parts.parts.made) code.made _ program.tables (lines_of c.in_ok-parts.parts.body.items)
    code.lines c.in_ok-sites.sites.items program.sites
    known.kinds known.made (c.in_ok-tables.ensures ∙ ap (λ z. map table_of z) c.deref.ensures.value) known.body
    (c.in_ok-sites.ensures ∙ c.deref-2.ensures.value)
