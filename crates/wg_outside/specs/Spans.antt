-- Files that stand one after another in a pool of bytes.
use Rattle.std.specs.Prelude.{ℕ, ◌+◌, ◌<◌, ◌≤◌, List, map, length, take, drop, slice_index_or}
use Rattle.wg_outside.specs.declared.pool.Span.{Span}
use Rattle.wg_outside.specs.Files.{FileMap}

-- where the span ends in the pool
abbrev pub span_end : Span → ℕ
span_end s = s.start + s.name + s.size

-- the name and the bytes of the file
abbrev pub file_at : List ℕ → Span → List ℕ × List ℕ
file_at pool s = (take s.name (drop s.start pool), take s.size (drop (s.start + s.name) pool))

-- the files of the pool
abbrev pub files_at : List ℕ → List Span → FileMap
files_at pool spans = map (file_at pool) spans

-- each file lies within the pool
abbrev pub IsInPool : List ℕ → List Span → Type 0
IsInPool pool spans = (k : ℕ) (d : Span) → k < length spans → span_end (slice_index_or spans k d) ≤ length pool
