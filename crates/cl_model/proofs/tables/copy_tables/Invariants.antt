use Rattle.std.proofs.Common.{◌≡◌, ◌++◌, drop, map}
use Rattle.cl_model.specs.View.{table_of}
use Rattle.cl_model.proofs.tables.copy_tables.Given as goal

-- with the tables still to come they are all
abbrev pub invariant-loop-table : goal.invariant-loop-table
invariant-loop-table l = map table_of l.list.items ++ map table_of (drop l.table-index l.tables) ≡ map table_of l.tables
