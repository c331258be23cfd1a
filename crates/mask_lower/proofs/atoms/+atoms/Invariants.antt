use Rattle.std.proofs.Common.{◌≡◌, ◌++◌, drop}
use Rattle.kir.specs.Listed.{lines_of}
use Rattle.mask_lower.specs.Atoms.{atoms_in}
use Rattle.mask_lower.proofs.atoms.+atoms.Given as goal

abbrev pub invariant-list_lines-loop-line : goal.invariant-list_lines-loop-line
invariant-list_lines-loop-line l = l.fn.atoms.items ++ atoms_in (lines_of l.line-items) ≡ l.atoms.items ++
    atoms_in (lines_of (drop l.line-index l.line-items))
