-- What two items of one group have in common that do the same lines: equal values of some cells wherever both stand,
-- and a relation where both have done them. No set of cells that is one for the whole text would do. In `if
-- (get_local_id(0) == 0) return; int v = 0; if (g) return; v = v + 1; if (g) return; a[0] = v;` the cell that says
-- which way out is pending differs behind the first line, and is equal for all that come to the second, where it
-- guards what `v` is set to.
use Rattle.std.specs.Prelude.{◌≡◌, ℕ, ℤ}
use Rattle.std.specs.Prelude.{Bool as Test, true, false}
use Rattle.kir.specs.Tree.{Lines, NoLine, SetThen, LoadThen, StoreThen, ClearThen, IfThen, LoopThen, BarrierThen}
use Rattle.kir.specs.Live.{live_in}
use Rattle.kir.specs.Steps.{atom_value}
use Rattle.kir_uniform.specs.Uniform.{tested}
use Rattle.kir_uniform.specs.Does.{Cells, Who, put, computed, Answers, Does}
use Rattle.kir_uniform.specs.Path.{Loops, InTest, InBody}

-- equal values of those of the cells that are live
abbrev pub Equal : (ℕ → Type 0) → (ℕ → Test) → Cells → Cells → Type 0
Equal Even live f g = (c : ℕ) → Even c → live c ≡ true → f c ≡ g c

-- nothing is asked
abbrev pub Anything : Cells → Cells → Type 0
Anything f g = Unit {0}

-- wherever both stand in these lines that began them with these cells, those of the cells that are live have equal
-- values, where `out` says what is live behind the lines; and where both have done them, however each has, the
-- relation holds. Where the test of an if differs, or the number of iterations of a loop, both stand together again
-- behind it
abbrev pub Together : (ℕ → Type 0) → (one other : Who) → (out : ℕ → Test) → Lines → (Cells → Cells → Type 0) → Cells →
    Cells → Type 0
Together Even one other out NoLine Q f g = Equal Even out f g × Q f g
Together Even one other out (SetThen to work rest) Q f g =
    Equal Even (λ c. live_in c (SetThen to work rest) (out c)) f g ×
    Together Even one other out rest Q (put f to (computed one f work)) (put g to (computed other g work))
Together Even one other out (LoadThen site to element root index rest) Q f g =
    Equal Even (λ c. live_in c (LoadThen site to element root index rest) (out c)) f g
    × ((v w : ℤ) → one.gives element root (atom_value f index) v → other.gives element root (atom_value g index) w →
    Together Even one other out rest Q (put f to v) (put g to w))
Together Even one other out (StoreThen site element root index from rest) Q f g =
    Equal Even (λ c. live_in c (StoreThen site element root index from rest) (out c)) f g ×
    Together Even one other out rest Q f g
Together Even one other out (ClearThen array rest) Q f g =
    Equal Even (λ c. live_in c (ClearThen array rest) (out c)) f g × Together Even one other out rest Q f g
Together Even one other out (IfThen site test chosen others rest) Q f g =
    Equal Even (λ c. live_in c (IfThen site test chosen others rest) (out c)) f g
    × (Answers f test false → Answers g test false →
    Together Even one other (λ c. live_in c rest (out c)) chosen (λ m n. Together Even one other out rest Q m n)
    f g)
    × (Answers f test true → Answers g test true →
    Together Even one other (λ c. live_in c rest (out c)) others (λ m n. Together Even one other out rest Q m n)
    f g)
    × ((m n : Cells) → Answers f test false → Does one chosen f m → Answers g test true → Does other others g n →
    Together Even one other out rest Q m n)
    × ((m n : Cells) → Answers f test true → Does one others f m → Answers g test false → Does other chosen g n →
    Together Even one other out rest Q m n)
Together Even one other out (LoopThen site first test answer body rest) Q f g =
    Equal Even (λ c. live_in c (LoopThen site first test answer body rest) (out c)) f g
    × ((n : ℕ) (a b : Cells) → InTest one (LoopThen site first test answer body rest) n f a →
    InTest other (LoopThen site first test answer body rest) n g b
    → Together Even one other (tested test answer body (λ c. live_in c rest (out c))) test Anything a b)
    × ((n : ℕ) (a b : Cells) → InBody one (LoopThen site first test answer body rest) n f a →
    InBody other (LoopThen site first test answer body rest) n g b
    → Together Even one other (λ c. live_in c test (tested test answer body (λ d. live_in d rest (out d)) c)) body
    Anything a b)
    × ((a b : Cells) → Loops one first test answer body f a → Loops other first test answer body g b →
    Together Even one other out rest Q a b)
Together Even one other out (BarrierThen site rest) Q f g =
    Equal Even (λ c. live_in c (BarrierThen site rest) (out c)) f g × Together Even one other out rest Q f g
