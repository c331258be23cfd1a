-- A tidied code follows its region, and a program with tidied codes is built of them.
use Rattle.std.proofs.Common.{◌≡◌, ℕ, ◌≤◌, List, sym, ap, subst}
use Rattle.wg_num.specs.declared.types.Width.{Width}
use Rattle.wg_num.specs.Operators.{lanes_of}
use Rattle.cl_model.specs.Tree.{Program}
use Rattle.cl_model.specs.Sizes.{Launch, group_size}
use Rattle.kir.specs.Tree.{Kernel}
use Rattle.kir.specs.Counts.{count_inlined, loads_with, stores_with}
use Rattle.kir.specs.Places.{Tasks}
use Rattle.kir.specs.Steps.{Item}
use Rattle.group_moves.specs.Stages.{Stage}
use Rattle.ctx_plan.specs.declared.plan.Home.{Home}
use Rattle.ctx_plan.specs.Planned.{Planned}
use Rattle.lane_code.specs.declared.end.RegionEnd.{RegionEnd}
use Rattle.lane_code.specs.declared.end.RegionEnd.TheVariants as end
use Rattle.lane_code.specs.Acts.{State}
use Rattle.lane_code.specs.Groups.{Group}
use Rattle.lane_code.specs.Program.{PlainCode, Work, Plain}
use Rattle.lane_laws.specs.Chain.{Chain, NoWork, CodeThen, VoteThen as VoteWork, LoopThen as LoopWork}
use Rattle.lane_laws.specs.Chain.{work_before}
use Rattle.lane_tidy.specs.Same.{DoesTheSame}
use Rattle.lane_tidy.specs.Tidied.{tidied_of, tidied_work}
use Rattle.regions.specs.Tree as tree
use Rattle.regions.specs.Tree.{RegionOf}
use Rattle.regions.specs.Split.{split_of}
use Rattle.mask_lower.specs.Lowered.{region_code}
use Rattle.mask_lower.specs.Following.{ChunkOf, ChunkDone, ChunkSays, Follows, SlotsBegun}
use Rattle.mask_lower.specs.Layout.{kernel_chunk, HasShape, Mirrors}
use Rattle.mask_lower.specs.Standing.{LanesStand, LanesVoted, OthersKept}
use Rattle.item_loops.specs.Program.{HasPartsOf, IsBuilt, IsOneCode}
use Rattle.wg_compile.specs.Shape.{HasFewSteps}
use Rattle.wg_compile.specs.Passes.{code_in}
use Rattle.wg_compile.proofs.TidiedChains.{chain_tidied, before_tidied, one_code}
use Rattle.wg_compile.proofs.TidiedCounts.{tidied_loads, tidied_stores}

-- ---- what an end says of a chunk's items does not depend on registers

module _ (kernel : Kernel) (homes : List Home) (launch : Launch) (width : ℕ) (chunk : ChunkOf kernel launch width)
    (region : RegionOf) (e : Tasks) (w : Stage Item) (turns : ℕ) (g : Group) where
  done_same : (left : ℕ) (s s' : State) (after : Stage Item) → s.group ≡ s'.group → s.buffers ≡ s'.buffers →
      ChunkDone kernel homes launch width chunk region e w turns g left s after →
      ChunkDone kernel homes launch width chunk region e w turns g left s' after
  done_same left s s' after eg eb d = record {
    reached = d.reached;
    mirrors = subst (λ (b : List (List ℕ)). Mirrors kernel launch chunk.group after.memory s'.group b) eb
        (subst (λ (x : Group). Mirrors kernel launch chunk.group after.memory x s.buffers) eg d.mirrors);
    other_groups = d.other_groups;
    stand = subst (λ (x : Group). LanesStand kernel homes chunk.lanes chunk.first after x.columns x.exits e) eg d.stand;
    voted = subst (λ (x : Group). LanesVoted region.answer chunk.lanes chunk.first after x.votes) eg d.voted;
    shape = λ columns slots h. subst (λ (x : Group). HasShape columns slots (group_size launch) x) eg
        (d.shape columns slots h);
    kept = subst (λ (x : Group). OthersKept launch chunk.first width g x) eg d.kept;
    slots = subst (λ (x : Group). SlotsBegun homes region.lines e x) eg d.slots;
    budget = d.budget;
  }

  says_same : (x y : RegionEnd) (left left' : ℕ) (s s' : State) → x ≡ y → left ≡ left' → s.group ≡ s'.group →
      s.buffers ≡ s'.buffers → ChunkSays kernel homes launch width chunk region e w turns g x left s →
      ChunkSays kernel homes launch width chunk region e w turns g y left' s'
  says_same x y left left' s s' ex el eg eb says =
      subst (λ (z : RegionEnd). ChunkSays kernel homes launch width chunk region e w turns g z left' s') ex
      (subst (λ (n : ℕ). ChunkSays kernel homes launch width chunk region e w turns g x n s') el (by x says))
    where
      by : (z : RegionEnd) → ChunkSays kernel homes launch width chunk region e w turns g z left s →
          ChunkSays kernel homes launch width chunk region e w turns g z left s'
      by end.Done h = (h.0, done_same left s s' h.0 eg eb h.1)
      by (end.Range l site) h = h
      by (end.AtBarrier l site) h = h
      by end.Turns h = h

-- so a code that does the same follows the region too
pub follows_same : (kernel : Kernel) (plan : Planned) (width : Width) (region : RegionOf) (code other : PlainCode) →
    DoesTheSame code other → Follows kernel plan width region code → Follows kernel plan width region other
follows_same kernel plan width region code other same follows launch fits sizes buffers0 fit f e spans is_end live
    reads chunk w lead turns g buffers mirrors shape slots stand voted =
    let s = same (kernel_chunk kernel launch (lanes_of width) chunk.group chunk.first) turns g buffers in
    says_same kernel plan.homes launch (lanes_of width) chunk region e w turns g _ _ _ _ _ _ s.end s.turns s.group
    s.buffers (follows launch fits sizes buffers0 fit f e spans is_end live reads chunk w lead turns g buffers mirrors
    shape slots stand voted)

-- ---- programs that are built of tidied codes

pub built_tidied : (code : RegionOf → PlainCode) (t : tree.Tree) (chain : Chain) →
    IsBuilt (λ r c. c ≡ code r) t chain → IsBuilt (λ r c. c ≡ tidied_of (code r)) t (chain_tidied chain)
built_tidied code tree.NoRegion NoWork b = tt
built_tidied code (tree.RegionThen region rest) (CodeThen c behind) b =
    (ap tidied_of b.0, built_tidied code rest behind b.1)
built_tidied code (tree.VoteThen test agreed refused mixed rest) (VoteWork t a r m behind) b = (
  ap tidied_of b.0,
  built_tidied code agreed a b.1,
  built_tidied code refused r b.2,
  ap tidied_of b.3,
  built_tidied code rest behind b.4,
)
built_tidied code (tree.LoopThen first test body others rest) (LoopWork f t c o behind) b = (
  b.0,
  built_tidied code test t b.1,
  built_tidied code body c b.2,
  ap tidied_of b.3,
  built_tidied code rest behind b.4,
)
built_tidied code tree.NoRegion (CodeThen c behind) b = absurd b
built_tidied code tree.NoRegion (VoteWork t a r m behind) b = absurd b
built_tidied code tree.NoRegion (LoopWork f t c o behind) b = absurd b
built_tidied code (tree.RegionThen region rest) NoWork b = absurd b
built_tidied code (tree.RegionThen region rest) (VoteWork t a r m behind) b = absurd b
built_tidied code (tree.RegionThen region rest) (LoopWork f t c o behind) b = absurd b
built_tidied code (tree.VoteThen test agreed refused mixed rest) NoWork b = absurd b
built_tidied code (tree.VoteThen test agreed refused mixed rest) (CodeThen c behind) b = absurd b
built_tidied code (tree.VoteThen test agreed refused mixed rest) (LoopWork f t c o behind) b = absurd b
built_tidied code (tree.LoopThen first test body others rest) NoWork b = absurd b
built_tidied code (tree.LoopThen first test body others rest) (CodeThen c behind) b = absurd b
built_tidied code (tree.LoopThen first test body others rest) (VoteWork t a r m behind) b = absurd b

-- ---- accesses stay

pub few_tidied : (program : Program) (code : PlainCode) → HasFewSteps program code →
    HasFewSteps program (tidied_of code)
few_tidied program code few = record {
  loads = λ site. subst (λ n. n ≤ count_inlined program (loads_with site)) (sym (tidied_loads code site))
      (few.loads site);
  stores = λ site. subst (λ n. n ≤ count_inlined program (stores_with site)) (sym (tidied_stores code site))
      (few.stores site);
}

-- ---- the program of a kernel's regions, with its codes tidied

pub tidied_chain : (kernel : Kernel) (homes : List Home) (top : Work) →
    IsBuilt (λ region code. code ≡ region_code kernel homes region) (split_of kernel) (work_before top NoWork) →
    IsBuilt (λ region code. code ≡ code_in kernel homes region) (split_of kernel)
    (work_before (tidied_work top) NoWork)
tidied_chain kernel homes top built =
    subst (λ (c : Chain). IsBuilt (λ region code. code ≡ code_in kernel homes region) (split_of kernel) c)
    (sym (before_tidied top NoWork))
    (built_tidied (region_code kernel homes) (split_of kernel) (work_before top NoWork) built)

-- the other parts stay, and what is one code
pub parts_tidied : (kernel : Kernel) (plan : Planned) (width : Width) (built p : Plain) →
    p ≡ record built { top = tidied_work built.top } → HasPartsOf kernel plan width built → HasPartsOf kernel plan
    width p
parts_tidied kernel plan width built p is parts =
    subst (λ (x : Plain). HasPartsOf kernel plan width x) (sym is) (record {
      lanes = parts.lanes;
      params = parts.params;
      tables = parts.tables;
      locals = parts.locals;
      privates = parts.privates;
      columns = parts.columns;
      slots = parts.slots;
      sites = parts.sites;
    })

pub one_tidied : (built p : Plain) → p ≡ record built { top = tidied_work built.top } → IsOneCode built.top → IsOneCode
    p.top
one_tidied built p is one =
    subst (λ (x : Plain). IsOneCode x.top) (sym is) (one_code built.top one)
