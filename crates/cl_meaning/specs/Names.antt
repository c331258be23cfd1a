-- Names that need no declaration (OpenCL 1.2, sections 6.12.1, 6.12.3, 6.12.8 and 6.12.9), and the words of
-- declarations.
use Rattle.std.specs.Prelude.{ℕ, Bool, List, [], ◌∷◌, Option, nat_eq, codes}
use Rattle.std.specs.List.{count_by}
use lib.Pointwise.{pointwise}
use Rattle.wg_num.specs.declared.types.Fun.TheVariants as fun
use Rattle.cl_model.specs.declared.program.Query.TheVariants as query
use Rattle.cl_tree.specs.Words.{is_among}
use Rattle.cl_meaning.specs.declared.names.Intrinsic.{Intrinsic}
use Rattle.cl_meaning.specs.declared.names.Intrinsic.TheVariants as intrinsic
use Rattle.cl_meaning.specs.declared.names.Flag.{Flag}
use Rattle.cl_meaning.specs.declared.names.Flag.TheVariants as flag
use Rattle.cl_meaning.specs.OwnWords.{pieces, Row, looked_up}

abbrev pub intrinsics : List (Row Intrinsic)
intrinsics =
    record { word = codes "abs"; value = intrinsic.Function fun.Abs } ∷
    record { word = codes "abs_diff"; value = intrinsic.Function fun.AbsDiff } ∷
    record { word = codes "min"; value = intrinsic.Function fun.Min } ∷
    record { word = codes "max"; value = intrinsic.Function fun.Max } ∷
    record { word = codes "clamp"; value = intrinsic.Function fun.Clamp } ∷
    record { word = codes "add_sat"; value = intrinsic.Function fun.AddSat } ∷
    record { word = codes "sub_sat"; value = intrinsic.Function fun.SubSat } ∷
    record { word = codes "hadd"; value = intrinsic.Function fun.Hadd } ∷
    record { word = codes "rhadd"; value = intrinsic.Function fun.Rhadd } ∷
    record { word = codes "mul_hi"; value = intrinsic.Function fun.MulHi } ∷
    record { word = codes "rotate"; value = intrinsic.Function fun.Rotate } ∷
    record { word = codes "clz"; value = intrinsic.Function fun.Clz } ∷
    record { word = codes "popcount"; value = intrinsic.Function fun.Popcount } ∷
    record { word = codes "get_work_dim"; value = intrinsic.Query query.WorkDim } ∷
    record { word = codes "get_global_id"; value = intrinsic.Query query.GlobalId } ∷
    record { word = codes "get_local_id"; value = intrinsic.Query query.LocalId } ∷
    record { word = codes "get_group_id"; value = intrinsic.Query query.GroupId } ∷
    record { word = codes "get_global_size"; value = intrinsic.Query query.GlobalSize } ∷
    record { word = codes "get_local_size"; value = intrinsic.Query query.LocalSize } ∷
    record { word = codes "get_num_groups"; value = intrinsic.Query query.NumGroups } ∷
    record { word = codes "get_global_offset"; value = intrinsic.Query query.GlobalOffset } ∷
    record { word = codes "barrier"; value = intrinsic.Barrier } ∷
    record { word = codes "mem_fence"; value = intrinsic.Fence } ∷
    record { word = codes "read_mem_fence"; value = intrinsic.Fence } ∷
    record { word = codes "write_mem_fence"; value = intrinsic.Fence } ∷
    []

-- what a name means without a declaration
unfoldable pub intrinsic_in : List ℕ → Option Intrinsic
intrinsic_in w = looked_up w intrinsics

abbrev pub flags : List (Row Flag)
flags =
    record { word = codes "CLK_LOCAL_MEM_FENCE"; value = flag.Local } ∷
    record { word = codes "CLK_GLOBAL_MEM_FENCE"; value = flag.Global } ∷
    []

-- the flag that a name is
unfoldable pub flag_in : List ℕ → Option Flag
flag_in w = looked_up w flags

-- how many dimensions a declarator's word has
abbrev pub dimensions_in : List ℕ → ℕ
dimensions_in w = count_by (λ p. pointwise nat_eq p (codes "[")) (pieces w)

-- whether a declarator has an initialiser
abbrev pub is_set : List ℕ → Bool
is_set w = is_among (codes "=") (pieces w)

-- whether a head makes a function a kernel
abbrev pub is_kernel : List ℕ → Bool
is_kernel w = is_among w (codes "kernel" ∷ codes "__kernel" ∷ [])

-- whether an attribute requires the size of a work-group
abbrev pub requires_size : List ℕ → Bool
requires_size w = is_among (codes "reqd_work_group_size") (pieces w)
