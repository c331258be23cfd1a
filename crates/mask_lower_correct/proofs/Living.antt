-- A cell that is live behind a region and that no line of it sets is live before it.
use Rattle.std.proofs.Common.{◌≡◌, ℕ, refl, ap, ◌∙◌}
use Rattle.std.specs.Prelude.{◌&&◌, ◌||◌, not, nat_eq}
use Rattle.std.specs.Prelude.{Bool as Test, true, false}
use Rattle.std.proofs.lemmas.Bool.{or_left}
use Rattle.kir.specs.Tree.{Lines, NoLine, SetThen, LoadThen, StoreThen, ClearThen, IfThen, LoopThen, BarrierThen}
use Rattle.kir.specs.Tree.{joined_to}
use Rattle.kir.specs.Places.{Tasks, AnswerAt}
use Rattle.kir.specs.Live.{reads, work_reads, live_now, live_behind, live_in}
use Rattle.kir_moves.proofs.Live.{behind_live}
use Rattle.regions.specs.Tree.{RegionOf}
use Rattle.regions.specs.Spans.{Spans, piece, whole, from_answer}
use Rattle.kir_uniform.specs.Uniform.{sets_in}
use Rattle.kir_uniform.proofs.Living.{unset_live}

-- lines before others of one list
pub joined_live : (c : ℕ) (lines tail : Lines) (a : Test) →
    live_in c (joined_to lines tail) a ≡ live_in c lines (live_in c tail a)
joined_live c NoLine tail a = refl
joined_live c (SetThen to work rest) tail a =
    ap (λ b. work_reads c work || (not (nat_eq c to) && b)) (joined_live c rest tail a)
joined_live c (LoadThen site to element root index rest) tail a =
    ap (λ b. reads c index || (not (nat_eq c to) && b)) (joined_live c rest tail a)
joined_live c (StoreThen site element root index from rest) tail a =
    ap (λ b. (reads c index || reads c from) || b) (joined_live c rest tail a)
joined_live c (ClearThen array rest) tail a = joined_live c rest tail a
joined_live c (IfThen site test chosen other rest) tail a =
    ap (λ b. reads c test || (live_in c chosen b || live_in c other b)) (joined_live c rest tail a)
joined_live c (LoopThen site true test answer body rest) tail a =
    ap (λ b. live_in c test (reads c answer || (b || live_in c body (live_in c test false))))
    (joined_live c rest tail a)
joined_live c (LoopThen site false test answer body rest) tail a =
    ap (λ b. live_in c body (live_in c test (reads c answer || (b || live_in c body (live_in c test false)))))
    (joined_live c rest tail a)
joined_live c (BarrierThen site rest) tail a = joined_live c rest tail a

pub unset_before : (c : ℕ) (region : RegionOf) (f e : Tasks) → Spans region f e → sets_in c region.lines ≡ false →
    live_behind c e ≡ true → live_behind c f ≡ true
unset_before c region _ _ (piece {at = at} {tail = tail} {k = k} plain) u h =
    joined_live c region.lines tail (live_now c k) ∙ unset_live c region.lines (live_in c tail (live_now c k)) u h
unset_before c region _ e (whole {at = at} plain) u h =
    unset_live c region.lines (live_now c e) u (behind_live c e h)
unset_before c region _ e (from_answer {at = at} {test = test} {answer = answer} {body = body} {n = n} votes is_loop) u
    h =
    or_left (live_now c e) (live_in c body (live_in c test (live_now c (AnswerAt at test answer body n e))))
    (behind_live c e h)
