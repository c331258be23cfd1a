-- What a contract sees of a sink over a writer.
use Rattle.std.specs.Prelude.{ℕ, List, Option}

-- the bytes that the writer is known to hold, and the count of faults
pub record WriterView : Type 0 where
  pub written : Option (List ℕ)
  pub faults : ℕ
