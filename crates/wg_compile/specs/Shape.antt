-- What the group program of a kernel has to do with the text of its program.
use Rattle.std.specs.Prelude.{◌≡◌, ℕ, ◌≤◌, false}
use Rattle.cl_model.specs.Tree.{Program}
use Rattle.cl_model.specs.Calls.{kernel_of}
use Rattle.cl_model.specs.Valid.{parameter_kinds}
use Rattle.kir.specs.Inlined.{function_holds}
use Rattle.kir.specs.Counts.{count_inlined, loads_with, stores_with}
use Rattle.lane_code.specs.Program.{PlainCode, Plain}
use Rattle.mask_lower.specs.Counts.{load_steps, store_steps}
use Rattle.item_loops.specs.Program.{IsOneCode, EachCode}

-- a code has no more load and store steps for a site than the inlined kernel has loads and stores written with it
pub record HasFewSteps (program : Program) (code : PlainCode) : Type 0 where
  pub loads : (site : ℕ) → load_steps site code.steps ≤ count_inlined program (loads_with site)
  pub stores : (site : ℕ) → store_steps site code.steps ≤ count_inlined program (stores_with site)

-- the group program has the kinds of the kernel's parameters; without a barrier it is one code; and no code accesses
-- more than is written
pub record IsShaped (program : Program) (p : Plain) : Type 0 where
  pub params : p.params ≡ parameter_kinds (kernel_of program)
  pub one : function_holds program program.kernel ≡ false → IsOneCode p.top
  pub few : EachCode (HasFewSteps program) p.top
