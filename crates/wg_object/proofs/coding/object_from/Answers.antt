use Rattle.std.proofs.Common.{◌≡◌, ◌∙◌, true, false}
use Rattle.lane_code.specs.declared.parts.GroupParts.{GroupParts}
use Rattle.wg_object.specs.declared.coding.Head.{Head}
use Rattle.wg_object.specs.declared.coding.Kept.{Kept}
use Rattle.wg_object.specs.declared.coding.Tail.{Tail}
use Rattle.wg_object.specs.Plain.{object_in}
use Rattle.wg_object.proofs.Together.{made_of_parts, object_same, fits_together, is_made}
use Rattle.wg_object.proofs.coding.object_from.Goals as goal

abbrev parts_from : Head → Kept → Tail → GroupParts
parts_from h k t = record {
  kernel = h.kernel;
  width = h.width;
  params = h.params;
  tables = k.tables;
  locals = k.locals;
  privates = k.privates;
  columns = k.columns;
  slots = k.slots;
  sites = t.sites;
  top = t.top;
}

pub returns-in-None-clause-some : goal.returns-in-None-clause-some
returns-in-None-clause-some c = λ h.
    let p = parts_from c.args.head c.args.kept c.args.tail in
    let e : false ≡ true = c.in-None.ensures.some ∙ fits_together p c.args.tail.sizes h in
    absurd cc

pub returns-in-Some-clause-some : goal.returns-in-Some-clause-some
returns-in-Some-clause-some c = λ h.
    let p = parts_from c.args.head c.args.kept c.args.tail in
    is_made c.new.result c.in-Some.group p c.args.tail.sizes c.new.ensures.some c.in-Some.ensures.same h

pub returns-in-Some-clause-object : goal.returns-in-Some-clause-object
returns-in-Some-clause-object c =
    let p = parts_from c.args.head c.args.kept c.args.tail in
    let known = c.in-Some.ensures in
    object_same c.new.result c.in-Some.group c.args.tail.sizes (object_in p c.args.tail.sizes) c.new.ensures.group
    c.new.ensures.sizes (made_of_parts c.in-Some.group p c.args.tail.sizes known.kernel known.width known.same
    known.tables)
