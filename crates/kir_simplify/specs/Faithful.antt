-- When one kernel does what another does, with other lines: histories and runs match, lines that are seen stand for
-- lines within the same loops, and no more is kept.
use Rattle.std.specs.Prelude.{◌≡◌, ℕ, ◌<◌, ◌≤◌, true, List, [], Some, slice_get}
use Rattle.work_items.specs.Items.{Move, IsWaiting}
use Rattle.work_items.specs.Runs.{IsRun, world_after}
use Rattle.work_items.specs.Simulation.{trace, IsMatched}
use Rattle.work_items.specs.Histories.{Deed, deeds_of}
use Rattle.cl_model.specs.Sizes.{Launch, item_count, group_of}
use Rattle.cl_model.specs.Fitting.{FitsProgram, FitBuffers}
use Rattle.cl_model.specs.Meaning.{lengths_of, MayBeTold}
use Rattle.kir.specs.Tree.{Variable, Lines, Kernel}
use Rattle.kir.specs.Places.{Place, Point, point_of, lines_at, loops_around}
use Rattle.kir.specs.Steps.{shell_of, Item, item_next}
use Rattle.kir.specs.Meaning.{machine_of, start_world, ItemCanCome, ItemHistory}
use Rattle.kir.specs.Live.{tasks_read, tasks_set, live_at}
use Rattle.kir.specs.Cuts.{is_barrier, is_cut}
use Rattle.kir.specs.Homes.{IsCellOf}
use Rattle.kir.specs.Uniformity.{IsEven}
use Rattle.kir.specs.Keeps.{is_keep}
use Rattle.kir.specs.Counts.{load_lines, store_lines, barrier_lines}
use Rattle.kir.specs.Matching.{SameNext, IsBarrierPoint, StepsTo}
use Rattle.kir.specs.Lowering.{HasGlobalSizes}
use Rattle.kir_simplify.specs.Simple.{IsSimple}

-- the kernel with other lines
abbrev pub with_body : Kernel → Lines → Kernel
with_body kernel lines = record kernel { body = lines }

-- the cell of a variable
abbrev pub IsVariableCell : Kernel → ℕ → Type 0
IsVariableCell kernel c = (v : Variable) × IsCellOf kernel v c

-- the point at the place that a place stands for, with the same iterations begun
abbrev pub point_at : (Place → Place) → Point → Point
point_at place point = record { at = place point.at; begun = point.begun }

-- ---- how an item of the simple kernel and the same item of the given one stand after matching histories

-- the one stands at the line that the other's line stands for
abbrev pub StandsFor : (Place → Place) → Item → Item → Type 0
StandsFor place i' i = (point : Point) → point_of i'.tasks ≡ Some point →
    point_of i.tasks ≡ Some (point_at place point)

pub record StandAlike (kernel simple : Kernel) (place : Place →
    Place) (launch : Launch) (buffers : List (List ℕ)) (i' i : Item) : Type 0 where
  -- the same end
  pub same_next : SameNext (item_next simple launch i') (item_next kernel launch i)
  -- the same waits
  pub waits : IsWaiting (item_next simple launch i') → StandsFor place i' i
  -- where the one cannot come to a barrier line with some numbers of iterations begun of the loops around it, the
  -- other cannot come to the line for which it stands, with these numbers
  pub parting : (point : Point) → IsBarrierPoint simple.body point → (ItemCanCome simple launch i' (Some point) → ⊥) →
      ItemCanCome kernel launch i (Some (point_at place point)) → ⊥
  -- a line that reads a variable's cell stands for one that reads it, where it has the same value
  pub reads : (c : ℕ) → IsVariableCell kernel c → tasks_read c i'.tasks ≡ true →
      StandsFor place i' i × (tasks_read c i.tasks ≡ true) × (i'.cells c ≡ i.cells c)
  -- one that sets it stands for one that sets it
  pub sets : (c : ℕ) → IsVariableCell kernel c → tasks_set c i'.tasks ≡ true →
      StandsFor place i' i × (tasks_set c i.tasks ≡ true)
  -- to the same value
  pub sets_value : (c : ℕ) → IsVariableCell kernel c → tasks_set c i'.tasks ≡ true → (done : List Deed) (s' : Item) →
      StepsTo (lengths_of (shell_of simple) launch buffers) (MayBeTold (shell_of simple) launch buffers)
      (item_next simple launch i') done s'
      → (s : Item) × StepsTo (lengths_of (shell_of kernel) launch buffers)
      (MayBeTold (shell_of kernel) launch buffers) (item_next kernel launch i) done s × (s'.cells c ≡ s.cells c)

-- both have these deeds behind them
pub record DoAlike (kernel simple : Kernel) (place : Place →
    Place) (launch : Launch) (buffers : List (List ℕ)) (item : ℕ) (deeds : List Deed) (i' i : Item) : Type 0 where
  pub own_history : ItemHistory simple launch buffers item deeds i'
  pub history : ItemHistory kernel launch buffers item deeds i
  pub alike : StandAlike kernel simple place launch buffers i' i

-- a run of the given kernel that matches a run of the simple one
pub record RunAlike (kernel simple : Kernel) (place : Place →
    Place) (launch : Launch) (buffers : List (List ℕ)) (moves : List Move) : Type 0 where
  pub seen_alike : IsMatched (machine_of simple launch) (machine_of kernel launch) (λ i' i. Unit {0})
      (start_world simple launch buffers) moves (start_world kernel launch buffers)
  pub each : (item : ℕ) (i' i : Item)
      → slice_get (world_after (machine_of simple launch) (start_world simple launch buffers) moves).items item ≡
      Some i'
      → slice_get (world_after (machine_of kernel launch) (start_world kernel launch buffers)
      seen_alike.moves').items item ≡ Some i
      → DoAlike kernel simple place launch buffers item
      (deeds_of (group_of launch) item (trace (machine_of simple launch) (start_world simple launch buffers) moves))
      i' i

-- ---- the whole

pub record IsFaithful (kernel simple : Kernel) : Type 0 where
  -- parameters, cells, arrays, tables and sites are kept as they are
  pub kept : simple ≡ with_body kernel simple.body
  -- the place of the line of the given kernel for which a line stands, within the same loops
  pub place : Place → Place
  pub loops : (at : Place) → loops_around (place at) ≡ loops_around at
  pub barriers : (at : Place) → is_barrier (lines_at simple.body at) ≡ true →
      is_barrier (lines_at kernel.body (place at)) ≡ true
  -- histories and runs match, in every launch that fits and has sizes
  pub histories : (launch : Launch) → FitsProgram (shell_of kernel) launch → HasGlobalSizes launch →
      (buffers : List (List ℕ)) → FitBuffers launch buffers → (item : ℕ) → item < item_count launch
      → (deeds : List Deed) (i' : Item) → ItemHistory simple launch buffers item deeds i' →
      (i : Item) × DoAlike kernel simple place launch buffers item deeds i' i
  pub runs : (launch : Launch) → FitsProgram (shell_of kernel) launch → HasGlobalSizes launch →
      (buffers : List (List ℕ)) → FitBuffers launch buffers → (moves : List Move) →
      IsRun (machine_of simple launch) (start_world simple launch buffers) moves →
      RunAlike kernel simple place launch buffers moves
  -- no other keeps
  pub keeps : (c : ℕ) → is_keep simple c ≡ true → is_keep kernel c ≡ true
  -- even in each cell of a variable in which the given kernel is even; so in each set of them
  pub even : (c : ℕ) → IsVariableCell kernel c → IsEven kernel (λ d. d ≡ c) → IsEven simple (λ d. d ≡ c)
  -- what is live at the start, and together at a cut
  pub start : (c : ℕ) → live_at simple.body [] c ≡ true → live_at kernel.body [] c ≡ true
  pub cuts : (at : Place) → is_cut simple.body at ≡ true → (there : Place) × (is_cut kernel.body there ≡ true) ×
      ((c : ℕ) → live_at simple.body at c ≡ true → live_at kernel.body there c ≡ true)
  -- for each site no more loads, stores and barriers
  pub loads : (site : ℕ) → load_lines site simple.body ≤ load_lines site kernel.body
  pub stores : (site : ℕ) → store_lines site simple.body ≤ store_lines site kernel.body
  pub barrier_count : (site : ℕ) → barrier_lines site simple.body ≤ barrier_lines site kernel.body

-- the kernel is a simplification of the given one
pub record Simplifies (kernel simple : Kernel) : Type 0 where
  pub simple_now : IsSimple simple
  pub faithful : IsFaithful kernel simple
