use Rattle.std.proofs.Common.{◌≡◌, ◌++◌, ◌∷◌, [], map, sym, ◌∙◌}
use Rattle.std.proofs.lemmas.List.{map_push}
use Rattle.wg_object.specs.Plain.{table_of}
use Rattle.wg_object.specs.Reading.{items_at, table_at}
use Rattle.wg_object.proofs.Loops.{goes_on, ends, is_done}
use Rattle.wg_object.proofs.tables.tables_at.Goals as goal

pub returns-then-is_empty : goal.returns-then-is_empty
returns-then-is_empty c =
    ends table_at (map table_of c.loop.tables.items) c.args.count c.loop.counter c.loop.rest.now
    (items_at table_at c.args.count c.args.bytes.now) c.loop-test.true (sym c.is_empty.ensures ∙ c.if-is_empty.true)
    c.loop.invariant

pub loop-preserved : goal.loop-preserved
loop-preserved c =
    let e : map table_of c.push.new.list.items ≡ map table_of c.loop.tables.items ++ table_of c.in_ok-table.table ∷ [] =
    rw c.in_ok-push.ensures (map_push _ c.loop.tables.items c.in_ok-table.table) in
    rw e (goes_on table_at (map table_of c.loop.tables.items) c.args.count c.loop.counter c.loop.rest.now
    c.in_ok-table.after.now (table_of c.in_ok-table.table) (items_at table_at c.args.count c.args.bytes.now)
    c.loop-test.true (sym c.is_empty.ensures ∙ c.if-is_empty.false) c.in_ok-table.ensures c.loop.invariant)

pub returns : goal.returns
returns c =
    is_done table_at (map table_of c.loop.tables.items) c.args.count c.loop.counter c.loop.rest.now
    (items_at table_at c.args.count c.args.bytes.now) c.loop-test.false c.loop.invariant
