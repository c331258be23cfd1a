use Rattle.std.proofs.Common.{rules, ◌≡◌, subst}
use Rattle.launch_file.specs.declared.refusal.Refusal.{Refusal}
use Rattle.launch_file.specs.declared.refusal.Refusal.TheVariants.{NotToml}
use Rattle.launch_file.specs.Refusals.{IsRefused, no_document, in_document}
use Rattle.launch_file.proofs.reader.read.Goals as goal

pub returns-in-Ok-clause-refused : goal.returns-in-Ok-clause-refused
returns-in-Ok-clause-refused c =
    λ first is. in_document _ first c.in-Ok.ensures.ok (c.read_table.ensures.refused first is)

pub returns-in-Err-NotToml-clause-refused : goal.returns-in-Err-NotToml-clause-refused
returns-in-Err-NotToml-clause-refused c = λ first is.
    let same : NotToml ≡ first = search rules in
    let P : Refusal → Type 0 = λ n. IsRefused c.args.bytes.now c.args.lanes c.args.turns n in
    subst P same (no_document (c.in-Err-NotToml.ensures.no_document (search rules)))
