-- Programs that do the same in the same order end alike, and a built program does what that of its kernel does.
use Rattle.std.proofs.Common.{◌≡◌, ℕ, zero, suc, List, refl, sym, ◌∙◌, ap}
use Rattle.cl_model.specs.Sizes.{Launch, group_count}
use Rattle.lane_code.specs.Groups.{Group}
use Rattle.lane_code.specs.Program.{PlainCode, Work, Plain}
use Rattle.lane_code.specs.Run.{RunEnded, chunk_at, chunk_count, chunk_ended, then_next, chunks_end, begun, finish}
use Rattle.lane_code.specs.Run.{items_end, verdict, by_verdict, Doing, loop_end, work_end, start_group, run_ended}
use Rattle.lane_code.specs.Run.{run_after, groups_end, program_end}
use Rattle.lane_code.specs.Meaning.{region_end}
use Rattle.lane_laws.specs.Chain.{Chain, NoWork, CodeThen, VoteThen, LoopThen, work_before, works_before, chain_end}
use Rattle.lane_laws.proofs.Chains.{program_chain}
use Rattle.regions.specs.Tree as tree
use Rattle.regions.specs.Tree.{RegionOf, Tree}
use Rattle.item_loops.specs.Program.{IsBuilt}
use Rattle.wg_compile.specs.Passes.{works_of, IsLike}

-- equal things to do
same_doing : (f h : Doing) → ((t : ℕ) (g : Group) (b : List (List ℕ)) → f t g b ≡ h t g b) → f ≡ h
same_doing f h same = λ i. λ t g b. same t g b i

-- ---- programs that differ in what they do alone

module _ (p : Plain) (w : Work) (launch : Launch) (group : ℕ) where
  abbrev q : Plain
  q = record p { top = w }

  chunks_same : (code : PlainCode) (chunk count turns : ℕ) (g : Group) (buffers : List (List ℕ)) →
      chunks_end p launch group code chunk count turns g buffers ≡ chunks_end q launch group code chunk count turns g
      buffers
  chunks_same code chunk zero turns g buffers = refl
  chunks_same code chunk (suc count) turns g buffers =
      ap (λ (f : Doing). then_next (chunk_ended (chunk_at p launch group chunk)
      (region_end (chunk_at p launch group chunk) code.steps code.counts turns g buffers)) f)
      (same_doing (chunks_end p launch group code (suc chunk) count)
      (chunks_end q launch group code (suc chunk) count) (λ t h b. chunks_same code (suc chunk) count t h b))

  items_same : (code : PlainCode) → items_end p launch group code ≡ items_end q launch group code
  items_same code = same_doing (items_end p launch group code) (items_end q launch group code)
      (λ t g b. ap (λ e. then_next e finish) (chunks_same code 0 (chunk_count p launch) t (begun g) b))

  chain_same : (ch : Chain) → chain_end p launch group ch ≡ chain_end q launch group ch
  chain_same NoWork = refl
  chain_same (CodeThen code rest) =
      let whole : Doing → Doing → Doing = λ f h t g b. then_next (f t g b) h in
      ap (λ f. whole f (chain_end p launch group rest)) (items_same code) ∙
      ap (λ f. whole (items_end q launch group code) f) (chain_same rest)
  chain_same (VoteThen test agreed refused mixed rest) =
      let whole : Doing → Doing → Doing → Doing → Doing → Doing =
      λ ft fa fr fm fb t g b. then_next
      (then_next (ft t g b) (λ t' h b'. by_verdict (verdict h.votes) (fa t' h b') (fr t' h b') (fm t' h b'))) fb in
      ap (λ f. whole f (chain_end p launch group agreed) (chain_end p launch group refused)
      (items_end p launch group mixed) (chain_end p launch group rest)) (items_same test)
      ∙ (ap (λ f. whole (items_end q launch group test) f (chain_end p launch group refused)
      (items_end p launch group mixed) (chain_end p launch group rest)) (chain_same agreed)
      ∙ (ap (λ f. whole (items_end q launch group test) (chain_end q launch group agreed) f
      (items_end p launch group mixed) (chain_end p launch group rest)) (chain_same refused)
      ∙ (ap (λ f. whole (items_end q launch group test) (chain_end q launch group agreed)
      (chain_end q launch group refused) f (chain_end p launch group rest)) (items_same mixed)
      ∙ ap (λ f. whole (items_end q launch group test) (chain_end q launch group agreed)
      (chain_end q launch group refused) (items_end q launch group mixed) f) (chain_same rest))))
  chain_same (LoopThen first test body others rest) =
      let whole : Doing → Doing → Doing → Doing → Doing =
      λ ft fb fo fr t g b. then_next (loop_end first ft fb fo t g b) fr in
      ap (λ f. whole f (chain_end p launch group body) (items_end p launch group others)
      (chain_end p launch group rest)) (chain_same test)
      ∙ (ap (λ f. whole (chain_end q launch group test) f (items_end p launch group others)
      (chain_end p launch group rest)) (chain_same body)
      ∙ (ap (λ f. whole (chain_end q launch group test) (chain_end q launch group body) f
      (chain_end p launch group rest)) (items_same others)
      ∙ ap (λ f. whole (chain_end q launch group test) (chain_end q launch group body)
      (items_end q launch group others) f) (chain_same rest)))

  work_same : work_before p.top NoWork ≡ work_before w NoWork → (turns : ℕ) (g : Group) (buffers : List (List ℕ)) →
      work_end p launch group p.top turns g buffers ≡ work_end q launch group w turns g buffers
  work_same same turns g buffers =
      program_chain p launch group p.top turns g buffers
      ∙ (ap (λ ch. chain_end p launch group ch turns g buffers) same
      ∙ (ap (λ (f : Doing). f turns g buffers) (chain_same (work_before w NoWork)) ∙
      sym (program_chain q launch group w turns g buffers)))

-- the groups of a launch
groups_same : (p : Plain) (w : Work) (launch : Launch) → work_before p.top NoWork ≡ work_before w NoWork →
    (group count turns : ℕ) (buffers : List (List ℕ)) →
    groups_end p launch group count turns buffers ≡ groups_end (record p { top = w }) launch group count turns buffers
groups_same p w launch same group zero turns buffers = refl
groups_same p w launch same group (suc count) turns buffers =
    let Next : Type 0 = ℕ → List (List ℕ) → RunEnded in
    let later : groups_end p launch (suc group) count ≡ groups_end (record p { top = w }) launch (suc group) count =
    (λ i. λ t b. groups_same p w launch same (suc group) count t b i) in
    ap (λ e. run_after (run_ended e).end (run_ended e) (groups_end p launch (suc group) count))
    (work_same p w launch group same turns (start_group p launch) buffers)
    ∙ ap (λ (next : Next). run_after
    (run_ended (work_end (record p { top = w }) launch group w turns (start_group p launch) buffers)).end
    (run_ended (work_end (record p { top = w }) launch group w turns (start_group p launch) buffers)) next) later

-- a program that is like another ends as that
pub ends_alike : (q p : Plain) → IsLike q p → (launch : Launch) (buffers : List (List ℕ)) →
    program_end p launch buffers ≡ program_end q launch buffers
ends_alike q p like launch buffers =
    groups_same p q.top launch like.chain 0 (group_count launch) launch.turns buffers ∙
    ap (λ (x : Plain). program_end (record x { top = q.top }) launch buffers) like.parts

-- ---- a built program is like the one of its kernel

pub one_chain : (code : RegionOf → PlainCode) (t : Tree) (ch : Chain) → IsBuilt (λ region c. c ≡ code region) t ch →
    ch ≡ works_before (works_of code t) NoWork
one_chain code tree.NoRegion NoWork built = refl
one_chain code (tree.RegionThen region rest) (CodeThen c behind) built =
    ap (λ x. CodeThen x behind) built.0 ∙ ap (λ x. CodeThen (code region) x) (one_chain code rest behind built.1)
one_chain code (tree.VoteThen test agreed refused mixed rest) (VoteThen t a r m behind) built =
    ap (λ x. VoteThen x a r m behind) built.0
    ∙ (ap (λ x. VoteThen (code test) x r m behind) (one_chain code agreed a built.1)
    ∙ (ap (λ x. VoteThen (code test) (works_before (works_of code agreed) NoWork) x m behind)
    (one_chain code refused r built.2)
    ∙
    (ap (λ x. VoteThen (code test) (works_before (works_of code agreed) NoWork)
    (works_before (works_of code refused) NoWork) x behind) built.3
    ∙ ap (λ x. VoteThen (code test) (works_before (works_of code agreed) NoWork)
    (works_before (works_of code refused) NoWork) (code mixed) x) (one_chain code rest behind built.4))))
one_chain code (tree.LoopThen first test body others rest) (LoopThen f t b o behind) built =
    ap (λ x. LoopThen x t b o behind) (sym built.0)
    ∙ (ap (λ x. LoopThen first x b o behind) (one_chain code test t built.1)
    ∙ (ap (λ x. LoopThen first (works_before (works_of code test) NoWork) x o behind) (one_chain code body b built.2)
    ∙ (ap (λ x. LoopThen first (works_before (works_of code test) NoWork) (works_before (works_of code body) NoWork) x
    behind) built.3
    ∙ ap (λ x. LoopThen first (works_before (works_of code test) NoWork) (works_before (works_of code body) NoWork)
    (code others) x) (one_chain code rest behind built.4))))
one_chain code _ _ built = absurd built
