-- Whether a program of a work-group asks the machine for few registers, columns and slots.
use Rattle.std.specs.Prelude.{ℕ, zero, suc, ◌/◌, List, [], ◌∷◌, ◌&&◌, nat_le}
use Rattle.std.specs.Prelude.{Bool as Test, true}
use Rattle.lane_code.specs.declared.code.Counts.{Counts}
use Rattle.lane_code.specs.declared.code.Node.{Node}
use Rattle.lane_code.specs.Program.{Work, Items, Seq, Vote, Loop, Works, idle, then_work, work_of}
use Rattle.lane_code.specs.Program.{Plain}

-- how many registers of a bank a code may have in a file with so many launches: 2^22, shared evenly
abbrev pub share_of : ℕ → ℕ
share_of zero = 4194304
share_of (suc launches) = 4194304 / suc launches

-- a code has at most so many registers of each bank
abbrev pub has_few : ℕ → Counts → Test
has_few most c = nat_le c.narrow most && nat_le c.wide most && nat_le c.masks most && nat_le c.scalars most

-- each code of the work has
abbrev mutual
  pub has_few_in : ℕ → Work → Test
  has_few_in most (Items code) = has_few most code.counts
  has_few_in most (Seq works) = have_few_in most works
  has_few_in most (Vote test agreed refused mixed) =
      has_few most test.counts && has_few most mixed.counts && has_few_in most agreed && has_few_in most refused
  has_few_in most (Loop test_first test body rest) =
      has_few most rest.counts && has_few_in most test && has_few_in most body

  pub have_few_in : ℕ → Works → Test
  have_few_in most idle = true
  have_few_in most (then_work first others) = has_few_in most first && have_few_in most others

-- each code of each of the nodes has
abbrev pub have_few : ℕ → List Node → Test
have_few most [] = true
have_few most (n ∷ nodes) = has_few_in most (work_of n) && have_few most nodes

-- each code of the program has at most so many registers, and there are 65,536 columns at most and as many slots
abbrev pub is_within : ℕ → Plain → Test
is_within most p = nat_le p.columns 65536 && nat_le p.slots 65536 && has_few_in most p.top
