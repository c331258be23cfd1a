-- What a contract sees of a sink in memory.
use Rattle.std.specs.Prelude.{ℕ, List, []}

-- the bytes, the numbers of the calls that are to fail, the number of the next call, how many bytes there is room
-- for, and the count of faults
pub record SinkView : Type 0 where
  pub bytes : List ℕ
  pub fail : List ℕ
  pub calls : ℕ
  pub room : ℕ
  pub faults : ℕ

-- a sink as it is made
abbrev pub new_sink : List ℕ → ℕ → SinkView
new_sink fail room = record { bytes = []; fail = fail; calls = 0; room = room; faults = 0 }
