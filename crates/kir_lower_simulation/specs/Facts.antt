-- What is to be known of two items before a step of the kernel's, but for what each construct gives, and the rules by
-- which a relation of their states goes backwards along their steps.
use Rattle.std.specs.Prelude.{◌≡◌, ℕ, suc, ℤ, List, ◌∷◌, ◌++◌, Some, true, false, slice_get, if◌then◌else◌}
use Rattle.work_items.specs.Memory.{Access}
use Rattle.work_items.specs.Items.{Goes, Begins, Loads, Stores, Waits, Ends}
use Rattle.work_items.specs.Histories.{Deed}
use Rattle.wg_num.specs.Wrap.{IsValue}
use Rattle.cl_model.specs.Meaning.{lengths_of, MayBeTold, is_test}
use Rattle.cl_model.specs.Values.{is_zero}
use Rattle.cl_model.specs.Task.{Task, Frame, Item as ProgramItem}
use Rattle.cl_model.specs.Steps.{item_next as program_next}
use Rattle.kir.specs.declared.line.Atom.{Atom}
use Rattle.kir.specs.Tree.{Variable, Lines, IfThen, Cell}
use Rattle.kir.specs.Places.{Place, Tasks, LinesAt, AnswerAt, iteration}
use Rattle.kir.specs.Steps.{shell_of, Item, atom_value, branched, item_next}
use Rattle.kir.specs.Live.{tasks_read, tasks_set}
use Rattle.kir.specs.Homes.{IsCellOf}
use Rattle.kir.specs.Matching.{StandsAlike, StepsTo, ComesToScope, value_in}
use Rattle.kir_moves.proofs.Known.{TasksFit}
use Rattle.kir_lower_shape.specs.Marks.{point_marked}
use Rattle.kir_lower_simulation.specs.Nodes.{AreInPlace}
use Rattle.kir_lower_simulation.specs.Setting.{Setting, Store, kernel_item, program_item}

-- before a line that reads or sets a variable's cell: where the program's item stands, and what the variable holds
pub record Facts (S : Setting) (i : Item) (j : ProgramItem) : Type 0 where
  pub reads_alike : (v : Variable) (c : ℕ) → IsCellOf S.kernel v c → tasks_read c i.tasks ≡ true →
      StandsAlike (point_marked S.marks) i j
  pub reads_value : (v : Variable) (c : ℕ) → IsCellOf S.kernel v c → tasks_read c i.tasks ≡ true →
      value_in j.frames v ≡ Some (i.cells c)
  pub sets_alike : (v : Variable) (c : ℕ) → IsCellOf S.kernel v c → tasks_set c i.tasks ≡ true →
      StandsAlike (point_marked S.marks) i j
  -- where its tasks are in place
  pub sets_value : (v : Variable) (c : ℕ) → IsCellOf S.kernel v c → tasks_set c i.tasks ≡ true →
      AreInPlace S.program j.tasks
      → (done more : List Deed) (i' : Item) (j' : ProgramItem) →
      StepsTo (lengths_of (shell_of S.kernel) S.launch S.buffers)
      (MayBeTold (shell_of S.kernel) S.launch S.buffers) (item_next S.kernel S.launch i) done i'
      → ComesToScope S.program S.launch S.buffers v j (done ++ more) j' → value_in j'.frames v ≡ Some (i'.cells c)

-- each cell holds a value of its type
abbrev pub HoldsTypes : Setting → Store → Type 0
HoldsTypes S cells = (c : ℕ) (cell : Cell) → slice_get S.kernel.cells c ≡ Some cell → IsValue cell.of (cells c)

-- a relation of the two items' states, for so many moves of the kernel's, goes backwards along their steps
pub record Rules (S : Setting) (G : ℕ → Item → ProgramItem → Type 0) : Type 0 where
  -- one move fewer
  pub fewer : (n : ℕ) (i : Item) (j : ProgramItem) → G (suc n) i j → G n i j
  -- the program's item goes on by itself, by no test
  pub task : (n : ℕ) (i : Item) (j j' : ProgramItem) → program_next S.program S.launch j ≡ Goes j' →
      is_test j.tasks ≡ false → G n i j' → G n i j
  -- the kernel's item goes on by itself
  pub line : (n : ℕ) (i i' : Item) (j : ProgramItem) → Facts S i j → item_next S.kernel S.launch i ≡ Goes i' →
      G n i' j → G n i j
  -- both test one value
  pub test : (n : ℕ) (cells : Store) (at : Place) (site : ℕ) (test : Atom) (chosen other rest : Lines) (k : Tasks)
      (ts : List Task) (v : ℤ) (vs : List ℤ) (fs : List Frame) (next : ℤ → ProgramItem)
      → Facts S (kernel_item S cells (LinesAt at (IfThen site test chosen other rest) k))
      (program_item S ts (v ∷ vs) fs) → is_test ts ≡ true → atom_value cells test ≡ v
      → ((z : ℤ) → program_next S.program S.launch (program_item S ts (z ∷ vs) fs) ≡ Goes (next z))
      → ((z : ℤ) → G n (kernel_item S cells (branched z at chosen other rest k)) (next z))
      → G n (kernel_item S cells (LinesAt at (IfThen site test chosen other rest) k)) (program_item S ts (v ∷ vs) fs)
  -- at the test of a loop
  pub round : (n : ℕ) (cells : Store) (at : Place) (test : Lines) (answer : Atom) (body : Lines) (begun : ℕ)
      (k : Tasks) (ts : List Task) (v : ℤ) (vs : List ℤ) (fs : List Frame) (out again : ProgramItem)
      → Facts S (kernel_item S cells (AnswerAt at test answer body begun k)) (program_item S ts (v ∷ vs) fs) →
      is_test ts ≡ true → atom_value cells answer ≡ v
      → ((z : ℤ) → program_next S.program S.launch (program_item S ts (z ∷ vs) fs) ≡
      (if is_zero z then Goes out else Begins again))
      → G (suc n) (kernel_item S cells k) out →
      G n (kernel_item S cells (iteration at test answer body (suc begun) k)) again
      → G (suc n) (kernel_item S cells (AnswerAt at test answer body begun k)) (program_item S ts (v ∷ vs) fs)
  -- both begin an iteration, at no test
  pub begins : (n : ℕ) (i i' : Item) (j j' : ProgramItem) → Facts S i j → item_next S.kernel S.launch i ≡ Begins i' →
      program_next S.program S.launch j ≡ Begins j' → is_test j.tasks ≡ false → G n i' j' → G n i j
  pub begins_less : (n : ℕ) (i i' : Item) (j j' : ProgramItem) → Facts S i j →
      item_next S.kernel S.launch i ≡ Begins i' → program_next S.program S.launch j ≡ Begins j' →
      is_test j.tasks ≡ false → G n i' j' → G (suc n) i j
  -- both make one access
  pub loads : (n : ℕ) (i : Item) (j : ProgramItem) (site : ℕ) (access : Access) (f : List ℕ → Item) (g : List ℕ →
      ProgramItem) → Facts S i j
      → item_next S.kernel S.launch i ≡ Loads site access f →
      program_next S.program S.launch j ≡ Loads site access g → ((bytes : List ℕ) → G n (f bytes) (g bytes)) →
      G n i j
  pub stores : (n : ℕ) (i i' : Item) (j j' : ProgramItem) (site object : ℕ) (index : ℤ) (bytes : List ℕ) → Facts S i j
      → item_next S.kernel S.launch i ≡ Stores site object index bytes i' →
      program_next S.program S.launch j ≡ Stores site object index bytes j' → G n i' j' → G n i j
  -- both wait, at a point that the place determines
  pub waits : (n : ℕ) (i i' : Item) (j j' : ProgramItem) (site : ℕ) → Facts S i j →
      StandsAlike (point_marked S.marks) i j
      → item_next S.kernel S.launch i ≡ Waits site i' → program_next S.program S.launch j ≡ Waits site j' →
      G n i' j' → G n i j
  -- both have ended
  pub ends : (n : ℕ) (i : Item) (j : ProgramItem) → Facts S i j → item_next S.kernel S.launch i ≡ Ends →
      program_next S.program S.launch j ≡ Ends → G n i j
  -- the program's item tests a value which the kernel's has in other cells, those that `held` gives for each value
  pub select : (n : ℕ) (cells : Store) (k : Tasks) (ts : List Task) (v : ℤ) (vs : List ℤ) (fs : List Frame)
      (held : ℤ → Store) (next : ℤ → ProgramItem) → is_test ts ≡ true
      → ((z : ℤ) → program_next S.program S.launch (program_item S ts (z ∷ vs) fs) ≡ Goes (next z)) →
      ((z : ℤ) → HoldsTypes S cells → HoldsTypes S (held z))
      → ((z : ℤ) → G n (kernel_item S (held z) k) (next z)) → G n (kernel_item S cells k) (next v) →
      G n (kernel_item S cells k) (program_item S ts (v ∷ vs) fs)
  -- cells hold values of their types
  pub typed : (n : ℕ) (i : Item) (j : ProgramItem) → (HoldsTypes S i.cells → G n i j) → G n i j
  -- and the lines that are left fit
  pub fit : (n : ℕ) (i : Item) (j : ProgramItem) → (TasksFit S.kernel i.tasks → G n i j) → G n i j
