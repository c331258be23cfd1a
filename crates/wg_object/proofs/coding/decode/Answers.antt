use Rattle.std.proofs.Common.{◌≡◌, Some, None, ap, sym, ◌∙◌, true, false}
use Rattle.std.proofs.lemmas.Bool.Decides.{Decides-eqb}
use Rattle.std.proofs.lemmas.Slice.Eq.{slice_eq-Decides}
use Rattle.wg_object.specs.Text.{object_text}
use Rattle.wg_object.proofs.Decoding.{reads_it}
use Rattle.wg_object.proofs.coding.decode.Goals as goal

pub returns-in-Ok-None-clause-only : goal.returns-in-Ok-None-clause-only
returns-in-Ok-None-clause-only c = λ o is.
    reads_it 8192 None c.args.bytes.now o (rw c.in-Ok-None.field-0-is at c.in-Ok-None.ensures) is is.object

pub returns-then-eq-clause-only : goal.returns-then-eq-clause-only
returns-then-eq-clause-only c = λ o is.
    reads_it 8192 (Some c.in-Ok-Some.object) c.args.bytes.now o (rw c.in-Ok-Some.field-0-is at c.in-Ok-Some.ensures) is

pub returns-in-Ok-clause-only : goal.returns-in-Ok-clause-only
returns-in-Ok-clause-only c = λ o is.
    let same = reads_it 8192 (Some c.in-Ok-Some.object) c.args.bytes.now o
    (rw c.in-Ok-Some.field-0-is at c.in-Ok-Some.ensures) is in
    let e : c.in-Ok.text.items ≡ c.args.bytes.now = c.in-Ok.ensures.text ∙ ap object_text same ∙ sym is.text in
    let all : c.as_slice.result.now ≡ c.args.bytes.now = c.as_slice.ensures.value ∙ e in
    let never : true ≡ false = sym ((slice_eq-Decides Decides-eqb _ _ _ c.eq.ensures).1 all) ∙ c.if-eq.false in
    absurd cc
