use Rattle.std.proofs.Common.{pos, [], ◌∷◌, ◌++◌, ap, ap₂, ◌∙◌}
use Rattle.wg_num.specs.declared.types.IntType.TheVariants.{Int}
use Rattle.kir.specs.declared.line.Atom.TheVariants.{Const}
use Rattle.kir.specs.declared.line.Line.TheVariants as line
use Rattle.kir.specs.Tree.{NoLine, IfThen}
use Rattle.kir.specs.Listed.{lines_of}
use Rattle.kir.proofs.Rows.{if_listed}
use Rattle.examples_kir.proofs.made.agreed.Goals as goal

pub returns : goal.returns
returns c =
    if_listed 1 (Const (pos 1) Int) c.in_ok-yes.yes c.new-2.result NoLine
    ∙ ap₂ (λ a b. IfThen 1 (Const (pos 1) Int) (lines_of a) (lines_of b) NoLine) (c.in_ok-yes.ensures ∙
    ap (λ ls. ls ++ line.Barrier 0 ∷ []) c.new.ensures.items) c.new-2.ensures.items
