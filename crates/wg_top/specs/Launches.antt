-- The launches of a launch file: their sizes, and how many groups and work-items they have.
use Rattle.std.specs.Prelude.{◌≡◌, ◌<◌, ◌≤◌, ◌^◌, ℕ, List, map}
use Rattle.cl_model.specs.Sizes.{Launch, product, group_count, item_count}
use Rattle.cl_model.specs.Fitting.{DimensionFits}
use Rattle.cl_model.specs.declared.launch.Launch.{Launch as Bindings}
use Rattle.cl_model.specs.View.{launch_of}
use Rattle.launch_file.specs.declared.text.BufferText.{BufferText}
use Rattle.launch_file.specs.Binding.{launch_in, lengths_of, loads_of, saves_of, total}
use Rattle.launch_file.specs.Texts.{Text}

-- the launches that a launch file says
abbrev pub launches_in : Text → List Launch
launches_in text = map (launch_in text.turns text.buffers) text.list

-- the sizes of a launch are within their limits
pub record HasLimits (launch : Launch) : Type 0 where
  pub dimensions : (d : ℕ) → d < 3 → DimensionFits launch d
  pub group_limit : product launch.local ≤ 1024
  pub item_limit : product launch.global ≤ 2 ^ 24

-- the launch has its limits, and is over these buffers
pub record IsReady (buffers : List BufferText) (launch : Bindings) : Type 0 where
  pub limits : HasLimits (launch_of launch)
  pub lengths : launch.lengths.items ≡ lengths_of buffers
  pub loads : launch.loads.items ≡ loads_of buffers
  pub saves : launch.saves.items ≡ saves_of buffers

-- how many groups the launches have together
abbrev pub all_groups : List Launch → ℕ
all_groups launches = total group_count launches

-- how many work-items the launches have together
abbrev pub all_items : List Launch → ℕ
all_items launches = total item_count launches
