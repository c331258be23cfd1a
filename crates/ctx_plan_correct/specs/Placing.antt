-- Where the marked variables of an outline have their numbers, each once.
use Rattle.std.specs.Prelude.{◌≡◌, ◌⊎◌, ℕ, ◌+◌, true, if◌then◌else◌}
use Rattle.std.specs.Prelude.{Bool as Test}
use Rattle.ctx_plan.specs.Outline.{Outline, NoPiece, DeclaresThen, CutThen, CallsThen, BlockThen}
use Rattle.ctx_plan.specs.Sharing.{own_columns}
use Rattle.ctx_plan_correct.specs.Crossing.{DeclaredIn}

-- a call with this site stands in the outline
abbrev pub CalledIn : Outline → ℕ → Type 0
CalledIn NoPiece n = ⊥
CalledIn (DeclaresThen y rest) n = CalledIn rest n
CalledIn (CutThen rest) n = CalledIn rest n
CalledIn (CallsThen site g rest) n = (site ≡ n) ⊎ CalledIn rest n
CalledIn (BlockThen inner rest) n = CalledIn inner n ⊎ CalledIn rest n

-- each marked variable is declared once, and each site has one call
abbrev pub IsOnceIn : (marked : ℕ → Test) → Outline → Type 0
IsOnceIn marked NoPiece = Unit {0}
IsOnceIn marked (DeclaresThen y rest) = (marked y ≡ true → DeclaredIn rest y → ⊥) × IsOnceIn marked rest
IsOnceIn marked (CutThen rest) = IsOnceIn marked rest
IsOnceIn marked (CallsThen site g rest) = (CalledIn rest site → ⊥) × IsOnceIn marked rest
IsOnceIn marked (BlockThen inner rest) =
    ((x : ℕ) → marked x ≡ true → DeclaredIn inner x → DeclaredIn rest x → ⊥) × ((n : ℕ) → CalledIn inner n →
    CalledIn rest n → ⊥) × IsOnceIn marked inner × IsOnceIn marked rest

-- the next number behind a variable that is marked or not
abbrev pub after : Test → ℕ → ℕ
after marked next = if marked then next + 1 else next

-- the marked variables of what is left of a block are numbered in order from `next` on, those of each block in it
-- from behind all of this block on, and each site of a call says how many this block and those around it take
abbrev pub IsPlaced : (marked : ℕ → Test) (numbers taken : ℕ → ℕ) → (within next : ℕ) → Outline → Type 0
IsPlaced marked numbers taken within next NoPiece = Unit {0}
IsPlaced marked numbers taken within next (DeclaresThen x rest) =
    (marked x ≡ true → numbers x ≡ next) × IsPlaced marked numbers taken within (after (marked x) next) rest
IsPlaced marked numbers taken within next (CutThen rest) = IsPlaced marked numbers taken within next rest
IsPlaced marked numbers taken within next (CallsThen site g rest) =
    (taken site ≡ within) × IsPlaced marked numbers taken within next rest
IsPlaced marked numbers taken within next (BlockThen inner rest) =
    IsPlaced marked numbers taken (within + own_columns marked inner) within inner ×
    IsPlaced marked numbers taken within next rest
