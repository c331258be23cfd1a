-- A launch: its sizes, its groups and items, and what the work-item functions give (OpenCL 1.2, sections 3.2 and
-- 6.12.1).
use Rattle.std.specs.Prelude.{ℕ, ◌+◌, ◌*◌, ◌/◌, ◌%◌, ℤ, pos, negsuc, List, [], ◌∷◌, take, unwrap_or, slice_get}
use Rattle.std.specs.Prelude.{nat_lt, if◌then◌else◌}
use Rattle.cl_model.specs.declared.launch.Bound.{Bound}
use Rattle.cl_model.specs.declared.program.Query.{Query}
use Rattle.cl_model.specs.declared.program.Query.TheVariants.{WorkDim, GlobalId, LocalId, GroupId, GlobalSize}
use Rattle.cl_model.specs.declared.program.Query.TheVariants.{LocalSize, NumGroups, GlobalOffset}

-- a launch: sizes and offsets in three dimensions, the most turns, what is bound to each parameter, the length of
-- each buffer, and how many files it names
pub record Launch : Type 0 where
  pub dims : ℕ
  pub global : List ℕ
  pub local : List ℕ
  pub offset : List ℕ
  pub turns : ℕ
  pub args : List Bound
  pub lengths : List ℕ
  pub load_count : ℕ
  pub save_count : ℕ

-- the product of the numbers, 1 for none
abbrev pub product : List ℕ → ℕ
product [] = 1
product (n ∷ ns) = n * product ns

-- a size in a dimension, and an offset in one
abbrev pub size_at : List ℕ → ℕ → ℕ
size_at sizes d = unwrap_or (slice_get sizes d) 1

-- an offset in a dimension
abbrev pub offset_at : List ℕ → ℕ → ℕ
offset_at offsets d = unwrap_or (slice_get offsets d) 0

-- the number of groups in a dimension
abbrev pub groups_at : Launch → ℕ → ℕ
groups_at launch d = size_at launch.global d / size_at launch.local d

-- the numbers of groups in the three dimensions
abbrev pub groups_of : Launch → List ℕ
groups_of launch = groups_at launch 0 ∷ groups_at launch 1 ∷ groups_at launch 2 ∷ []

-- how many groups the launch has, how many items a group has, and how many items there are
abbrev pub group_count : Launch → ℕ
group_count launch = product (groups_of launch)

-- how many items a group has
abbrev pub group_size : Launch → ℕ
group_size launch = product launch.local

-- how many items the launch has
abbrev pub item_count : Launch → ℕ
item_count launch = group_count launch * group_size launch

-- the group of an item, and its number in the group
abbrev pub group_of : Launch → ℕ → ℕ
group_of launch item = item / group_size launch

-- the number of an item in its group
abbrev pub number_in_group : Launch → ℕ → ℕ
number_in_group launch item = item % group_size launch

-- the ids of an item in a dimension
abbrev pub local_id : Launch → ℕ → ℕ → ℕ
local_id launch item d = number_in_group launch item / product (take d launch.local) % size_at launch.local d

-- the group's
abbrev pub group_id : Launch → ℕ → ℕ → ℕ
group_id launch item d = group_of launch item / product (take d (groups_of launch)) % groups_at launch d

-- and its number in the whole launch, from the offset on
abbrev pub global_id : Launch → ℕ → ℕ → ℕ
global_id launch item d =
    offset_at launch.offset d + group_id launch item d * size_at launch.local d + local_id launch item d

-- what a work-item function gives an item in a dimension below 3
abbrev pub answer_within : Launch → ℕ → Query → ℕ → ℕ
answer_within launch item WorkDim d = launch.dims
answer_within launch item GlobalId d = global_id launch item d
answer_within launch item LocalId d = local_id launch item d
answer_within launch item GroupId d = group_id launch item d
answer_within launch item GlobalSize d = size_at launch.global d
answer_within launch item LocalSize d = size_at launch.local d
answer_within launch item NumGroups d = groups_at launch d
answer_within launch item GlobalOffset d = offset_at launch.offset d

-- and in any other
abbrev pub answer_outside : Launch → Query → ℕ
answer_outside launch WorkDim = launch.dims
answer_outside launch GlobalId = 0
answer_outside launch LocalId = 0
answer_outside launch GroupId = 0
answer_outside launch GlobalSize = 1
answer_outside launch LocalSize = 1
answer_outside launch NumGroups = 1
answer_outside launch GlobalOffset = 0

-- what a work-item function gives an item for an argument, a uint
abbrev pub answer_of : Launch → ℕ → Query → ℤ → ℤ
answer_of launch item what (pos d) =
    pos (if nat_lt d 3 then answer_within launch item what d else answer_outside launch what)
answer_of launch item what (negsuc d) = pos (answer_outside launch what)
