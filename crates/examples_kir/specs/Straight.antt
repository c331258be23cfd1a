-- A straight kernel: an increment of each item's own element.
use Rattle.std.specs.Prelude.{◌≡◌, [], ◌∷◌}
use Rattle.std.specs.Prelude.{true, false}
use Rattle.wg_num.specs.declared.types.IntType.TheVariants as t
use Rattle.wg_num.specs.declared.types.Bin.TheVariants as bin
use Rattle.cl_model.specs.declared.program.Root.TheVariants as root
use Rattle.cl_model.specs.declared.program.Query.TheVariants as query
use Rattle.cl_model.specs.declared.launch.Bound.TheVariants as bound
use Rattle.cl_model.specs.Sizes.{Launch}
use Rattle.work_items.specs.Runs.{world_after}
use Rattle.kir.specs.Tree.{Lines, NoLine, SetThen, LoadThen, StoreThen, Argument, Convert, Kernel}
use Rattle.kir.specs.Fits.{is_kernel}
use Rattle.kir.specs.Live.{live_at}
use Rattle.kir.specs.Meaning.{machine_of, start_world}
use Rattle.kir.specs.Counts.{load_lines, store_lines, count_inlined, loads_with, stores_with}
use Rattle.examples_model.specs.Terms.{global_ints, line, buffer}
use Rattle.examples_model.specs.Straight.{increment}
use Rattle.examples_kir.specs.Terms.{number, cell, ints, ask, variable_cell, value_cell, kernel, past}
use Rattle.examples_kir.specs.Play.{played, seen, program_seen}

-- a[get_global_id(0)] = a[get_global_id(0)] + 1, line by line: the index of the store first
abbrev pub increment_lines : Lines
increment_lines =
    SetThen 0 (Argument 0)
    (SetThen 1 (ask query.GlobalId)
    (SetThen 2 (Convert t.Long (cell 1))
    (SetThen 3 (ask query.GlobalId)
    (SetThen 4 (Convert t.Long (cell 3))
    (LoadThen 1 5 t.Int (root.Param 0) (cell 4)
    (SetThen 6 (ints bin.Add (cell 5) (number 1))
    (StoreThen 0 t.Int (root.Param 0) (cell 2) (cell 6)
    NoLine)))))))

abbrev pub incremented : Kernel
incremented =
    kernel (global_ints 0 ∷ [])
    (variable_cell 0 0 t.Long ∷ value_cell t.Ulong ∷ value_cell t.Long ∷ value_cell t.Ulong ∷ value_cell t.Long ∷
    value_cell t.Int ∷ value_cell t.Int ∷ [])
    increment_lines

-- it is valid; a store through a number of int as an index is not
abbrev pub IsFit : Type 0
IsFit = is_kernel incremented ≡ true

abbrev pub four : Launch
four = line 4 2 (bound.Buffer 0 ∷ []) (16 ∷ [])

-- its items leave what a reader expects
abbrev pub Ends : Type 0
Ends =
    (world_after (machine_of incremented four) (start_world incremented four (buffer (1 ∷ 2 ∷ 3 ∷ 4 ∷ []) ∷ []))
    (played 100 incremented four (buffer (1 ∷ 2 ∷ 3 ∷ 4 ∷ []) ∷ []))).memory
    ≡ buffer (2 ∷ 3 ∷ 4 ∷ 5 ∷ []) ∷ []

-- and make the accesses of the program's items, object by object and byte by byte
abbrev pub TracesAgree : Type 0
TracesAgree = seen 100 incremented four (buffer (1 ∷ 2 ∷ 3 ∷ 4 ∷ []) ∷ []) ≡
    program_seen 100 increment four (buffer (1 ∷ 2 ∷ 3 ∷ 4 ∷ []) ∷ [])

-- the index of the store is live from its line to the store's, and not before or behind
abbrev pub LivesBetween : Type 0
LivesBetween =
    (live_at increment_lines [] 2 ≡ false) × (live_at increment_lines (past 2 []) 2 ≡ false) ×
    (live_at increment_lines (past 3 []) 2 ≡ true) × (live_at increment_lines (past 7 []) 2 ≡ true) ×
    (live_at increment_lines (past 8 []) 2 ≡ false)

-- one load with the site 1 and one store with the site 0, as in the program
abbrev pub FewLines : Type 0
FewLines = (load_lines 1 increment_lines ≡ count_inlined increment (loads_with 1)) ×
    (store_lines 0 increment_lines ≡ count_inlined increment (stores_with 0)) ×
    (store_lines 1 increment_lines ≡ count_inlined increment (stores_with 1))
