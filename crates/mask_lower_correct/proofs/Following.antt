-- The code of a region does on a chunk what the chunk's items do in some order of their moves.
use Rattle.std.proofs.Common.{◌≡◌, refl}
use Rattle.std.specs.Prelude.{true}
use Rattle.wg_num.specs.declared.types.Width.{Width}
use Rattle.wg_num.specs.Operators.{lanes_of}
use Rattle.kir.specs.Tree.{Kernel}
use Rattle.kir.specs.Places.{Tasks}
use Rattle.kir.specs.Fits.{lines_fit, is_kernel}
use Rattle.ctx_plan.specs.Planned.{Planned}
use Rattle.ctx_plan.specs.Asks.{Suits}
use Rattle.lane_code.specs.Fits.{is_code}
use Rattle.lane_code.specs.Counting.{counted}
use Rattle.lane_code.specs.Meaning.{Ended, region_end}
use Rattle.regions.specs.Tree.{RegionOf}
use Rattle.regions.specs.Split.{split_of}
use Rattle.regions.specs.Fragments.{IsAmong}
use Rattle.regions.specs.Spans.{Spans, piece, whole, from_answer, IsEnd}
use Rattle.mask_lower.specs.Layout.{kernel_chunk}
use Rattle.mask_lower.specs.Standing.{HasLive, LanesStand, LanesVoted}
use Rattle.mask_lower.specs.Following.{vote_before, SlotsBegun, ChunkSays, ReadsVote, Follows}
use Rattle.mask_lower.specs.Lowered.{region_steps, region_code}
use Rattle.mask_lower_correct.specs.Sim.{Ground}
use Rattle.mask_lower_correct.specs.Fits.{RegionFits}
use Rattle.mask_lower_correct.proofs.Among.{body_fits, among_fits}
use Rattle.mask_lower_correct.proofs.Regions.{piece_runs, whole_runs, answer_runs}

-- of a region that fits the kernel
pub fitting_follows : (kernel : Kernel) (plan : Planned) (width : Width) (region : RegionOf) →
    lines_fit kernel kernel.body ≡ true → Suits kernel plan →
    is_code (counted (region_steps kernel plan.homes region)) (region_steps kernel plan.homes region) ≡ true →
    RegionFits kernel region
    → Follows kernel plan width region (region_code kernel plan.homes region)
fitting_follows kernel plan width region body suits valid region_fits launch fits sizes buffers0 fit f e spans is_end
    live reads_vote chunk w leads turns g buffers mirrors shaped slots stand voted =
    by f e spans is_end live reads_vote slots stand voted
  where
    ground : Ground kernel launch w
    ground = record { fits = fits; sizes = sizes; valid = body; buffers = buffers0; fit = fit; leads = leads }

    ends : Ended
    ends = region_end (kernel_chunk kernel launch (lanes_of width) chunk.group chunk.first)
        (region_steps kernel plan.homes region) (counted (region_steps kernel plan.homes region)) turns g buffers

    by : (f e : Tasks) → Spans region f e → IsEnd kernel e → HasLive kernel region.live e →
        ReadsVote region.answer e → SlotsBegun plan.homes region.lines e g →
        LanesStand kernel plan.homes chunk.lanes chunk.first w g.columns g.entries f →
        LanesVoted (vote_before f) chunk.lanes chunk.first w g.votes
        → ChunkSays kernel plan.homes launch (lanes_of width) chunk region e w turns g ends.end ends.turns ends.state
    by _ e (piece {at = at} {tail = tail} {k = k} plain) is_end live reads_vote slots stand voted =
        piece_runs kernel plan suits launch (lanes_of width) chunk turns w g buffers ground region valid region_fits
        mirrors shaped e is_end live reads_vote _ (piece plain) stand slots plain at tail k refl refl
    by _ e (whole {at = at} plain) is_end live reads_vote slots stand voted =
        whole_runs kernel plan suits launch (lanes_of width) chunk turns w g buffers ground region valid region_fits
        mirrors shaped e is_end live reads_vote _ (whole plain) stand slots plain at e refl refl
    by _ e (from_answer {at = at} {site = site} {first = first} {test = test} {answer = answer} {body = body} {n = n}
        votes is_loop) is_end live reads_vote slots stand voted =
        answer_runs kernel plan suits launch (lanes_of width) chunk turns w g buffers ground region valid region_fits
        mirrors shaped e is_end live reads_vote _ (from_answer votes is_loop) stand slots votes at site first test
        answer body n is_loop refl voted

-- the law: of a region of a valid kernel
pub region_follows : (kernel : Kernel) (plan : Planned) (width : Width) (region : RegionOf) →
    is_kernel kernel ≡ true → Suits kernel plan →
    is_code (counted (region_steps kernel plan.homes region)) (region_steps kernel plan.homes region) ≡ true →
    IsAmong region (split_of kernel)
    → Follows kernel plan width region (region_code kernel plan.homes region)
region_follows kernel plan width region is suits valid among =
    fitting_follows kernel plan width region (body_fits kernel is) suits valid (among_fits kernel region is among)
