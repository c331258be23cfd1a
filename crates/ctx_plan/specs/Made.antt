-- The plan of a kernel, as it is made.
use Rattle.std.specs.Prelude.{ℕ, ◌+◌, List, [], ◌∷◌, ◌++◌, length, max, slice_index_or, if◌then◌else◌}
use Rattle.std.specs.Prelude.{Bool as Test, true, false}
use Rattle.cl_model.specs.Tree.{Program, Array}
use Rattle.cl_model.specs.Objects.{array_bytes, is_private}
use Rattle.kir.specs.Tree.{CellKind, OfVariable, OfFlag, OfValue, Cell, Kernel}
use Rattle.kir.specs.Keeps.{pieces_of}
use Rattle.ctx_plan.specs.declared.plan.Home.{Home}
use Rattle.ctx_plan.specs.declared.plan.Home.TheVariants as home
use Rattle.ctx_plan.specs.declared.cells.Kept.{Kept}
use Rattle.ctx_plan.specs.declared.cells.Kept.TheVariants as kept
use Rattle.ctx_plan.specs.Points.{entry}
use Rattle.ctx_plan.specs.Sharing.{Shares, row, shares_of}
use Rattle.ctx_plan.specs.Naming.{named_from}
use Rattle.ctx_plan.specs.Planned.{Planned}

-- the number in a list at this place, 0 where there is none
abbrev pub number_at : List ℕ → ℕ → ℕ
number_at list place = slice_index_or list place 0

-- how many columns the blocks take that stand around the block behind these calls
abbrev pub taken_behind : (taken : List ℕ) → (calls : List ℕ) → ℕ
taken_behind taken [] = 0
taken_behind taken (site ∷ calls) = number_at taken site + taken_behind taken calls

-- what is kept of a variable
abbrev pub kept_of : Shares → (varying : List (List Test)) → (calls : List ℕ) → (function number : ℕ) → Kept
kept_of s varying calls function number =
    if entry (row s.crossing function) number then (if entry (row varying function) number then kept.Each
    (taken_behind s.taken calls + number_at (row s.numbers function) number) else kept.One) else kept.Nothing

-- how many columns that needs
abbrev pub columns_for : Kept → ℕ
columns_for kept.Nothing = 0
columns_for kept.One = 0
columns_for (kept.Each column) = column + 1

-- of a cell of this kind
abbrev pub columns_of_kind : Shares → (varying : List (List Test)) → CellKind → ℕ
columns_of_kind s varying (OfVariable v path name) = columns_for (kept_of s varying v.calls v.function v.number)
columns_of_kind s varying OfFlag = 0
columns_of_kind s varying OfValue = 0

-- the largest of these, and of another number
abbrev pub columns_onto : Shares → (varying : List (List Test)) → List Cell → ℕ → ℕ
columns_onto s varying [] columns = columns
columns_onto s varying (c ∷ cells) columns =
    columns_onto s varying cells (max columns (columns_of_kind s varying c.kind))

-- homes, and how many columns and slots they take
pub record Placed : Type 0 where
  pub list : List Home
  pub columns : ℕ
  pub slots : ℕ

-- with one home more, of a variable
abbrev pub with_kept : Kept → Placed → Placed
with_kept kept.Nothing p = record { list = p.list ++ home.Register ∷ []; columns = p.columns; slots = p.slots }
with_kept kept.One p = record { list = p.list ++ home.Once p.slots ∷ []; columns = p.columns; slots = p.slots + 1 }
with_kept (kept.Each column) p =
    record { list = p.list ++ home.Column column ∷ []; columns = p.columns; slots = p.slots }

-- with one home more, of a flag or a value, which has a column where it is a keep
abbrev pub with_made : (keep : Test) → Placed → Placed
with_made true p = record { list = p.list ++ home.Column p.columns ∷ []; columns = p.columns + 1; slots = p.slots }
with_made false p = record { list = p.list ++ home.Register ∷ []; columns = p.columns; slots = p.slots }

-- with one home more
abbrev pub with_home : Shares → (varying : List (List Test)) → (keep : Test) → CellKind → Placed → Placed
with_home s varying keep (OfVariable v path name) p = with_kept (kept_of s varying v.calls v.function v.number) p
with_home s varying keep OfFlag p = with_made keep p
with_home s varying keep OfValue p = with_made keep p

-- with the homes of cells, the first of which has this number; `across` says which the kernel names on both sides of
-- a cut
abbrev pub homes_onto : Shares → (varying : List (List Test)) → (across : List Test) → ℕ → List Cell → Placed → Placed
homes_onto s varying across n [] p = p
homes_onto s varying across n (c ∷ cells) p =
    homes_onto s varying across (n + 1) cells (with_home s varying (entry across n) c.kind p)

-- the bytes of an array where it is private
abbrev pub private_of : Array → ℕ
private_of a = if is_private a.space then array_bytes a else 0

-- the bytes of the private ones among arrays
abbrev pub bytes_among : List Array → ℕ
bytes_among [] = 0
bytes_among (a ∷ arrays) = private_of a + bytes_among arrays

-- the plan of a kernel that comes from the program, of which these variables vary
abbrev pub plan_of : Program → Kernel → (varying : List (List Test)) → Planned
plan_of program kernel varying =
    let s = shares_of program varying in
    let start : Placed = record { list = []; columns = columns_onto s varying kernel.cells 0; slots = 0 } in
    let p = homes_onto s varying (named_from 0 (length kernel.cells) (pieces_of kernel.body)) 0 kernel.cells start in
    record { homes = p.list; columns = p.columns; slots = p.slots; private_bytes = bytes_among kernel.arrays }
