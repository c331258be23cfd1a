-- The code of each region of a valid kernel follows its region, where the codes of the program are valid and the plan
-- suits the kernel.
use Rattle.std.proofs.Common.{◌≡◌, true, subst}
use Rattle.wg_num.specs.declared.types.Width.{Width}
use Rattle.kir.specs.Tree.{Kernel}
use Rattle.kir.specs.Fits.{is_kernel}
use Rattle.ctx_plan.specs.Planned.{Planned}
use Rattle.ctx_plan.specs.Asks.{Suits}
use Rattle.lane_code.specs.Program.{PlainCode, Work, Items, Seq, Vote, Loop, Works, idle, then_work}
use Rattle.lane_laws.specs.Chain.{Chain, NoWork, CodeThen, VoteThen as VoteWork, LoopThen as LoopWork, work_before}
use Rattle.lane_laws.specs.Chain.{works_before}
use Rattle.regions.specs.Tree as tree
use Rattle.regions.specs.Tree.{RegionOf}
use Rattle.regions.specs.Fragments.{EachRegion, IsAmong, here, behind_region, is_test, is_mixed, in_agreed, in_refused}
use Rattle.regions.specs.Fragments.{behind_vote, is_rest, in_test, in_body, behind_loop}
use Rattle.regions.specs.Split.{split_of}
use Rattle.mask_lower.specs.Following.{Follows}
use Rattle.mask_lower.specs.Lowered.{region_code}
use Rattle.mask_lower_correct.proofs.Following.{region_follows}
use Rattle.item_loops.specs.Program.{IsBuilt, EachCode, EachCodeOf}
use Rattle.item_loops.proofs.Codes.{IsWell}
use Rattle.wg_compile.proofs.Shape.{EachLink}

-- what holds of each code of work holds of each of the chain
mutual
  work_linked : (P : PlainCode → Type 0) (work : Work) (rest : Chain) → EachCode P work → EachLink P rest →
      EachLink P (work_before work rest)
  work_linked P (Items code) rest e more = (e, more)
  work_linked P (Seq works) rest e more = works_linked P works rest e more
  work_linked P (Vote test agreed refused mixed) rest e more =
      (e.0, work_linked P agreed NoWork e.1 tt, work_linked P refused NoWork e.2 tt, e.3, more)
  work_linked P (Loop first test body others) rest e more =
      (work_linked P test NoWork e.0 tt, work_linked P body NoWork e.1 tt, e.2, more)

  works_linked : (P : PlainCode → Type 0) (works : Works) (rest : Chain) → EachCodeOf P works → EachLink P rest →
      EachLink P (works_before works rest)
  works_linked P idle rest e more = more
  works_linked P (then_work first others) rest e more =
      work_linked P first (works_before others rest) e.0 (works_linked P others rest e.1 more)

-- where each code is that of its region, it holds of the code of each region
of_regions : (P : PlainCode → Type 0) (code : RegionOf → PlainCode) (t : tree.Tree) (chain : Chain) →
    EachLink P chain → IsBuilt (λ r c. c ≡ code r) t chain → EachRegion (λ r. P (code r)) t
of_regions P code tree.NoRegion NoWork e b = tt
of_regions P code (tree.RegionThen region rest) (CodeThen c behind) e b =
    (subst (λ x. P x) b.0 e.0, of_regions P code rest behind e.1 b.1)
of_regions P code (tree.VoteThen test agreed refused mixed rest) (VoteWork t a r m behind) e b = (
  subst (λ x. P x) b.0 e.0,
  subst (λ x. P x) b.3 e.3,
  of_regions P code agreed a e.1 b.1,
  of_regions P code refused r e.2 b.2,
  of_regions P code rest behind e.4 b.4,
)
of_regions P code (tree.LoopThen first test body others rest) (LoopWork f t c o behind) e b = (
  subst (λ x. P x) b.3 e.2,
  of_regions P code test t e.0 b.1,
  of_regions P code body c e.1 b.2,
  of_regions P code rest behind e.3 b.4,
)
of_regions P code tree.NoRegion (CodeThen c behind) e b = absurd b
of_regions P code tree.NoRegion (VoteWork t a r m behind) e b = absurd b
of_regions P code tree.NoRegion (LoopWork f t c o behind) e b = absurd b
of_regions P code (tree.RegionThen region rest) NoWork e b = absurd b
of_regions P code (tree.RegionThen region rest) (VoteWork t a r m behind) e b = absurd b
of_regions P code (tree.RegionThen region rest) (LoopWork f t c o behind) e b = absurd b
of_regions P code (tree.VoteThen test agreed refused mixed rest) NoWork e b = absurd b
of_regions P code (tree.VoteThen test agreed refused mixed rest) (CodeThen c behind) e b = absurd b
of_regions P code (tree.VoteThen test agreed refused mixed rest) (LoopWork f t c o behind) e b = absurd b
of_regions P code (tree.LoopThen first test body others rest) NoWork e b = absurd b
of_regions P code (tree.LoopThen first test body others rest) (CodeThen c behind) e b = absurd b
of_regions P code (tree.LoopThen first test body others rest) (VoteWork t a r m behind) e b = absurd b

-- what follows for each region that is one of the tree
pub each_with : (W P : RegionOf → Type 0) (t : tree.Tree) → ((r : RegionOf) → IsAmong r t → W r → P r) →
    EachRegion W t → EachRegion P t
each_with W P tree.NoRegion f e = tt
each_with W P (tree.RegionThen region rest) f e =
    (f region here e.0, each_with W P rest (λ r m. f r (behind_region m)) e.1)
each_with W P (tree.VoteThen test agreed refused mixed rest) f e = (
  f test is_test e.0,
  f mixed is_mixed e.1,
  each_with W P agreed (λ r m. f r (in_agreed m)) e.2,
  each_with W P refused (λ r m. f r (in_refused m)) e.3,
  each_with W P rest (λ r m. f r (behind_vote m)) e.4,
)
each_with W P (tree.LoopThen first test body others rest) f e = (
  f others is_rest e.0,
  each_with W P test (λ r m. f r (in_test m)) e.1,
  each_with W P body (λ r m. f r (in_body m)) e.2,
  each_with W P rest (λ r m. f r (behind_loop m)) e.3,
)

-- so the codes of a program that is built of the kernel's regions do
pub each_follows : (kernel : Kernel) (plan : Planned) (width : Width) (top : Work) → is_kernel kernel ≡ true →
    Suits kernel plan → EachCode IsWell top →
    IsBuilt (λ region code. code ≡ region_code kernel plan.homes region) (split_of kernel) (work_before top NoWork)
    → EachRegion (λ region. Follows kernel plan width region (region_code kernel plan.homes region)) (split_of kernel)
each_follows kernel plan width top valid suits well built =
    each_with (λ region. IsWell (region_code kernel plan.homes region))
    (λ region. Follows kernel plan width region (region_code kernel plan.homes region)) (split_of kernel)
    (λ region among is. region_follows kernel plan width region valid suits is among)
    (of_regions IsWell (region_code kernel plan.homes) (split_of kernel) (work_before top NoWork)
    (work_linked IsWell top NoWork well tt) built)
