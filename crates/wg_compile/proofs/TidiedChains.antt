-- What a program of a group has where its codes are tidied.
use Rattle.std.proofs.Common.{◌≡◌, refl, ◌∙◌, ap}
use Rattle.lane_code.specs.Program.{Work, Items, Seq, Vote, Loop, Works, idle, then_work}
use Rattle.lane_laws.specs.Chain.{Chain, NoWork, CodeThen, VoteThen, LoopThen, work_before, works_before}
use Rattle.lane_tidy.specs.Tidied.{tidied_of, tidied_work, tidied_works}
use Rattle.item_loops.specs.Program.{IsOneCode}

-- ---- read from its front it is the chain with its codes tidied

abbrev pub chain_tidied : Chain → Chain
chain_tidied NoWork = NoWork
chain_tidied (CodeThen code rest) = CodeThen (tidied_of code) (chain_tidied rest)
chain_tidied (VoteThen test agreed refused mixed rest) =
    VoteThen (tidied_of test) (chain_tidied agreed) (chain_tidied refused) (tidied_of mixed) (chain_tidied rest)
chain_tidied (LoopThen first test body others rest) =
    LoopThen first (chain_tidied test) (chain_tidied body) (tidied_of others) (chain_tidied rest)

mutual
  pub before_tidied : (work : Work) (rest : Chain) →
      work_before (tidied_work work) (chain_tidied rest) ≡ chain_tidied (work_before work rest)
  before_tidied (Items code) rest = refl
  before_tidied (Seq works) rest = all_before_tidied works rest
  before_tidied (Vote test agreed refused mixed) rest =
      ap (λ c. VoteThen (tidied_of test) c (work_before (tidied_work refused) NoWork) (tidied_of mixed)
      (chain_tidied rest)) (before_tidied agreed NoWork) ∙
      ap (λ c. VoteThen (tidied_of test) (chain_tidied (work_before agreed NoWork)) c (tidied_of mixed)
      (chain_tidied rest)) (before_tidied refused NoWork)
  before_tidied (Loop first test body others) rest =
      ap (λ c. LoopThen first c (work_before (tidied_work body) NoWork) (tidied_of others) (chain_tidied rest))
      (before_tidied test NoWork) ∙
      ap (λ c. LoopThen first (chain_tidied (work_before test NoWork)) c (tidied_of others) (chain_tidied rest))
      (before_tidied body NoWork)

  all_before_tidied : (works : Works) (rest : Chain) →
      works_before (tidied_works works) (chain_tidied rest) ≡ chain_tidied (works_before works rest)
  all_before_tidied idle rest = refl
  all_before_tidied (then_work first others) rest =
      ap (work_before (tidied_work first)) (all_before_tidied others rest) ∙
      before_tidied first (works_before others rest)

-- ---- what is one code stays so

pub one_code : (work : Work) → IsOneCode work → IsOneCode (tidied_work work)
one_code (Items code) one = tt
one_code (Seq works) one = absurd one
one_code (Vote test agreed refused mixed) one = absurd one
one_code (Loop first test body others) one = absurd one
