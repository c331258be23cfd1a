-- Lists that say something of each cell.
use Rattle.std.specs.Prelude.{◌≡◌, ℕ, ◌<◌, List, [], ◌∷◌, length, map, Option, None, Some, slice_index_or, nat_eq}
use Rattle.std.specs.Prelude.{Bool as Test, true, false, if◌then◌else◌, ◌&&◌}
use Rattle.cl_model.specs.declared.program.VarKind.{VarKind}
use Rattle.cl_model.specs.Values.{is_zero}
use Rattle.kir.specs.declared.line.Atom.{Atom}
use Rattle.kir.specs.declared.line.Line.{Line}
use Rattle.kir.specs.declared.line.Line.TheVariants as line
use Rattle.kir.specs.Listed.{line_before, work_of}
use Rattle.kir.specs.Tree.{Cell, Lines, Work}
use Rattle.kir_simplify.specs.declared.offsets.CellFacts.{CellFacts}
use Rattle.kir_simplify.specs.declared.settling.Learned.{Learned}
use Rattle.kir_simplify.specs.Simple.{is_value_kind, is_decided, is_plain}
use Rattle.kir_simplify.specs.Offsets.{is_offset}
use Rattle.kir_simplify.specs.Passes.{Known, constant_value, copied, with_offsets}

-- what the list says of a cell; of one that it does not have, no
abbrev pub listed : List Test → ℕ → Test
listed set c = slice_index_or set c false

-- the entry of each cell comes from its number and its entry before
pub record Becomes (old new : List Test) (entry : ℕ → Test → Test) : Type 0 where
  pub count : length new ≡ length old
  pub each : (c : ℕ) → c < length old → slice_index_or new c false ≡ entry c (slice_index_or old c false)

-- which cells are values on the way
abbrev pub values_among : List Cell → List Test
values_among cells = map (λ c. is_value_kind c.kind) cells

-- a line, where there is one, before the lines behind it
abbrev pub maybe_before : Option Line → Lines → Lines
maybe_before None rest = rest
maybe_before (Some line) rest = line_before line rest

-- no lines stand in it
abbrev pub has_no_lines : Line → Test
has_no_lines (line.Set to w) = true
has_no_lines (line.Load site to element root index) = true
has_no_lines (line.Store site element root index from) = true
has_no_lines (line.Clear array) = true
has_no_lines (line.If' site test m chosen n other) = false
has_no_lines (line.Loop' site test_first m test answer n body) = false
has_no_lines (line.Barrier site) = true

-- nor is anything computed in it
abbrev pub is_bare : Line → Test
is_bare (line.Set to w) = false
is_bare (line.Load site to element root index) = true
is_bare (line.Store site element root index from) = true
is_bare (line.Clear array) = true
is_bare (line.If' site test m chosen n other) = false
is_bare (line.Loop' site test_first m test answer n body) = false
is_bare (line.Barrier site) = true

-- whether a constant chooses the other branch, where one chooses and neither holds a barrier
abbrev pub decision : Atom → Lines → Lines → Option Test
decision test chosen other =
    if is_decided test chosen other then Some (is_zero (constant_value test)) else None

-- what the list says stands for a cell
abbrev pub known_by : List (Option Atom) → Known
known_by table c = slice_index_or table c None

-- what is known where this was learned: in a loop, that these cells hold offsets, too
abbrev pub known_where : (in_loop : Test) → (offsets : ℕ → Test) → Known → Known
known_where true offsets known = with_offsets offsets known
known_where false offsets known = known

-- something else is known of the cell, or nothing
abbrev pub put_known : Known → ℕ → Option Atom → Known
put_known known to found c = if nat_eq c to then found else known c

-- what was known before, where these were learned one behind the other
abbrev pub unlearned : List Learned → Known → Known
unlearned [] known = known
unlearned (l ∷ later) known = put_known (unlearned later known) l.cell l.before

-- one line alone sets the cell, where the list says whether none, one or more do
abbrev pub is_one_at : List ℕ → ℕ → Test
is_one_at counts c = nat_eq (slice_index_or counts c 0) 1

-- the constant that is copied, where one is
abbrev pub plain_of : Work → Option Atom
plain_of work = if is_plain work then Some (copied work) else None

-- the cell that the line sets to the offset of a pointer, where it alone sets the cell
abbrev pub offset_of_line : (once : ℕ → Test) → List VarKind → Line → Option ℕ
offset_of_line once kinds (line.Set to w) = if once to && is_offset kinds (work_of w) then Some to else None
offset_of_line once kinds (line.Load site to element root index) = None
offset_of_line once kinds (line.Store site element root index from) = None
offset_of_line once kinds (line.Clear array) = None
offset_of_line once kinds (line.If' site test m chosen n other) = None
offset_of_line once kinds (line.Loop' site test_first m test answer n body) = None
offset_of_line once kinds (line.Barrier site) = None

-- what a kernel's facts say of a cell: that one line alone sets it, that it holds an offset, and what is known of it
abbrev pub once_by : CellFacts → ℕ → Test
once_by facts = is_one_at facts.sets.items

abbrev pub offsets_by : CellFacts → ℕ → Test
offsets_by facts = listed facts.offsets.items

abbrev pub known_in : CellFacts → (in_loop : Test) → List (Option Atom) → Known
known_in facts in_loop table = known_where in_loop (offsets_by facts) (known_by table)
