-- Evenness: a kernel that keeps each item's own number over a barrier is not even in its cell, one that keeps the
-- group's number is.
use Rattle.std.specs.Prelude.{◌≡◌, [], ◌∷◌}
use Rattle.wg_num.specs.declared.types.IntType.TheVariants as t
use Rattle.cl_model.specs.declared.program.Query.{Query}
use Rattle.cl_model.specs.declared.program.Query.TheVariants as query
use Rattle.kir.specs.Tree.{Lines, NoLine, SetThen, BarrierThen, Copy, Kernel}
use Rattle.kir.specs.Uniformity.{IsEven}
use Rattle.examples_kir.specs.Terms.{cell, ask, value_cell, kernel}

-- x = get_..(0); barrier(..); y = x;
abbrev pub keeping_lines : Query → Lines
keeping_lines what = SetThen 0 (ask what) (BarrierThen 0 (SetThen 1 (Copy (cell 0)) NoLine))

abbrev pub keeping : Query → Kernel
keeping what = kernel [] (value_cell t.Ulong ∷ value_cell t.Ulong ∷ []) (keeping_lines what)

abbrev pub OwnIsNotEven : Type 0
OwnIsNotEven = IsEven (keeping query.LocalId) (λ c. c ≡ 0) → ⊥

abbrev pub GroupsIsEven : Type 0
GroupsIsEven = IsEven (keeping query.GroupId) (λ c. c ≡ 0)
