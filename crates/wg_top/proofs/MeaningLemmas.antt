-- Launches of programs that do the same in the same order end alike.
use Rattle.std.proofs.Common.{◌≡◌, ℕ, zero, suc, Bool, List, [], ◌∷◌, refl, sym, ◌∙◌, ap}
use Rattle.std.specs.Prelude.{slice_get, slice_index_or}
use Rattle.cl_model.specs.Sizes.{Launch}
use Rattle.lane_code.specs.declared.end.RunEnd.{RunEnd}
use Rattle.lane_code.specs.Program.{Plain}
use Rattle.wg_compile.specs.Passes.{IsLike}
use Rattle.wg_compile.proofs.Alike.{ends_alike}
use Rattle.wg_top.specs.declared.RunError.{RunError}
use Rattle.wg_top.specs.declared.RunError.TheVariants as error
use Rattle.wg_top.specs.CompiledLaunches.{launch_end, LaunchesRan, EndsBehind, EndsSo, site_place, start_place}

-- a program that is like another ends as that
pub end_like : (q p : Plain) → IsLike q p → (launch : Launch) (buffers : List (List ℕ)) →
    launch_end p launch buffers ≡ launch_end q launch buffers
unfolding launch_end
end_like q p like launch buffers = ends_alike q p like launch buffers

pub sites_like : (q p : Plain) → IsLike q p → p.sites ≡ q.sites
sites_like q p like = ap (λ (x : Plain). x.sites) like.parts

-- ---- launches of programs that are like others

-- each is like the other of its place
abbrev pub AreLike : List Plain → List Plain → Type 0
AreLike [] [] = Unit {0}
AreLike (q ∷ qs) (p ∷ ps) = IsLike q p × AreLike qs ps
AreLike _ _ = ⊥

pub ran_like : (qs ps : List Plain) (launches : List Launch) (before after : List (List ℕ)) → AreLike qs ps →
    LaunchesRan ps launches before after → LaunchesRan qs launches before after
ran_like [] [] launches before after like ran = ran
ran_like (q ∷ qs) (p ∷ ps) (launch ∷ launches) before after like ran =
    let same = end_like q p like.0 launch before in (
      ran.0,
      record {
        done = ap (λ e. e.end) (sym same) ∙ ran.1.done;
        leaves = ap (λ e. e.buffers) (sym same) ∙
            ran.1.leaves;
      },
      ran_like qs ps launches ran.0 after like.1 ran.2,
    )
ran_like (q ∷ qs) (p ∷ ps) [] before after like ran = absurd ran
ran_like [] (p ∷ ps) launches before after like ran = absurd like
ran_like (q ∷ qs) [] launches before after like ran = absurd like

ends_like : (qs ps : List Plain) (launches : List Launch) (before : List (List ℕ)) (behind : ℕ) (end : RunEnd) →
    AreLike qs ps → EndsBehind ps launches before behind end → EndsBehind qs launches before behind end
ends_like [] [] launches before behind end like ends = absurd ends
ends_like (q ∷ qs) (p ∷ ps) (launch ∷ launches) before zero end like ends =
    ap (λ e. e.end) (sym (end_like q p like.0 launch before)) ∙ ends
ends_like (q ∷ qs) (p ∷ ps) (launch ∷ launches) before (suc behind) end like ends =
    let same = end_like q p like.0 launch before in (
      ends.0,
      record {
        done = ap (λ e. e.end) (sym same) ∙ ends.1.done;
        leaves = ap (λ e. e.buffers) (sym same) ∙
            ends.1.leaves;
      },
      ends_like qs ps launches ends.0 behind end like.1 ends.2,
    )
ends_like (q ∷ qs) (p ∷ ps) [] before behind end like ends = absurd ends
ends_like [] (p ∷ ps) launches before behind end like ends = absurd like
ends_like (q ∷ qs) [] launches before behind end like ends = absurd like

place_like : (qs ps : List Plain) (k site : ℕ) → AreLike qs ps →
    site_place (slice_get ps k) site ≡ site_place (slice_get qs k) site
place_like [] [] k site like = refl
place_like (q ∷ qs) (p ∷ ps) zero site like = ap (λ ss. slice_index_or ss site start_place) (sites_like q p like.0)
place_like (q ∷ qs) (p ∷ ps) (suc k) site like = place_like qs ps k site like.1
place_like [] (p ∷ ps) k site like = absurd like
place_like (q ∷ qs) [] k site like = absurd like

pub so_like : (several : Bool) (qs ps : List Plain) (launches : List Launch) (before : List (List ℕ)) (e : RunError) →
    AreLike qs ps → EndsSo several ps launches before e → EndsSo several qs launches before e
so_like several qs ps launches before (error.Range number s group item place) like ends = (
  ends.0,
  record {
    behind = ends.1.behind;
    site = ends.1.site;
    ends = ends_like qs ps launches before ends.1.behind _ like ends.1.ends;
    number_is = ends.1.number_is;
    place_is = ends.1.place_is ∙ place_like qs ps ends.1.behind ends.1.site like;
  },
)
so_like several qs ps launches before (error.Parted number s group item place) like ends = (
  ends.0,
  record {
    behind = ends.1.behind;
    site = ends.1.site;
    ends = ends_like qs ps launches before ends.1.behind _ like ends.1.ends;
    number_is = ends.1.number_is;
    place_is = ends.1.place_is ∙ place_like qs ps ends.1.behind ends.1.site like;
  },
)
so_like several qs ps launches before (error.Turns number s) like ends = (
  ends.0,
  record {
    behind = ends.1.behind;
    ends = ends_like qs ps launches before ends.1.behind _ like ends.1.ends;
    number_is = ends.1.number_is;
  },
)
so_like several qs ps launches before _ like ends = absurd ends
