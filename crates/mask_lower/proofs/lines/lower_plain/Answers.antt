use Rattle.std.proofs.Common.{sym, ap, ◌∙◌}
use Rattle.kir.specs.Listed.{line_before, work_of}
use Rattle.mask_lower.specs.Atoms.{atoms_of, atoms_in}
use Rattle.mask_lower.specs.Registers.{past}
use Rattle.mask_lower.proofs.Past.{past-append}
use Rattle.mask_lower.proofs.lines.lower_plain.Goals as goal

pub returns-in_ok-next-in-Set-clause-next : goal.returns-in_ok-next-in-Set-clause-next
returns-in_ok-next-in-Set-clause-next c = λ rest.
    ap (λ l. past c.args.at.next (atoms_in (line_before l rest))) c.in-Set.is
    ∙ past-append c.args.at.next (atoms_of (work_of c.in-Set.work)) (atoms_in rest)
    ∙ ap (λ n. past n (atoms_in rest)) (sym c.in_ok-next-in-Set.ensures.1)
