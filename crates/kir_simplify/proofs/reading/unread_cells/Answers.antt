use Rattle.std.proofs.Common.{refl, subst, map, List, ℕ}
use Rattle.std.specs.Prelude.{Bool as Test, not, ◌&&◌}
use Rattle.kir.specs.declared.line.Line.{Line}
use Rattle.kir.specs.declared.kernel.Cell.{Cell}
use Rattle.kir.specs.Listed.{cell_of, lines_of}
use Rattle.kir.specs.View.{kernel_of}
use Rattle.kir_simplify.specs.Reading.{reads_in}
use Rattle.kir_simplify.specs.Tables.{Becomes, values_among}
use Rattle.kir_simplify.proofs.Tables.{unread_is}
use Rattle.kir_simplify.proofs.reading.unread_cells.Goals as goal

pub returns : goal.returns
returns c =
    unread_is (kernel_of c.args.kernel.now).cells (kernel_of c.args.kernel.now).body _ c.in_ok-set.set.items refl
    (subst (λ (xs : List Cell). Becomes (values_among (map cell_of xs)) c.in_ok-set.set.items
    (λ (m : ℕ) (entry : Test). not (reads_in m (kernel_of c.args.kernel.now).body) && entry)) c.deref.ensures.value
    (subst (λ (xs : List Line). Becomes (values_among (map cell_of c.deref.result.now)) c.in_ok-set.set.items
    (λ (m : ℕ) (entry : Test). not (reads_in m (lines_of xs)) && entry)) c.deref-2.ensures.value c.in_ok-set.ensures))
