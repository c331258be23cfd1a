use Rattle.std.proofs.Common.{◌++◌, length, ap, sym, ◌∙◌}
use Rattle.mask_lower.specs.Registers.{frame_of}
use Rattle.mask_lower.proofs.Begun.{begun_as_lines}
use Rattle.mask_lower.proofs.region.lower_begun.Goals as goal

pub returns : goal.returns
returns c =
    let region = c.args.region.now in
    let code = c.args.code.now.items in
    let same =
    begun_as_lines (frame_of c.args.layout.now) (length code) c.args.next region.from_vote region.lines.items
    (sym c.is_rest.ensures ∙ c.if-is_rest.false)
    in
    (c.in_ok-after-2.ensures.code ∙ ap (λ l. code ++ l) (sym same), c.in_ok-after-2.ensures.next)
