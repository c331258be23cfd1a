-- Launches that are accepted are ready, and fit their kernels.
use Rattle.std.proofs.Common.{◌≡◌, ℕ, zero, suc, ◌+◌, ◌<◌, List, [], ◌∷◌, ◌++◌, length, map, take, drop, get_or, Some}
use Rattle.std.proofs.Common.{None, sym, ◌∙◌, ap, ap₂, subst, arith}
use Rattle.std.proofs.Math.Seq.{take-suc, drop-cons}
use Rattle.std.specs.Prelude.{All}
use Rattle.std.proofs.lemmas.List.{map-append, get_or-map}
use Rattle.std.proofs.lemmas.List.Elements.{All-push}
use Rattle.cl_model.specs.declared.launch.Launch.{Launch as Bindings}
use Rattle.cl_model.specs.Sizes.{Launch}
use Rattle.cl_model.specs.View.{launch_of}
use Rattle.lane_code.specs.Fits.{LaunchFits}
use Rattle.lane_code.specs.Program.{Plain}
use Rattle.launch_file.specs.declared.text.BufferText.{BufferText}
use Rattle.launch_file.specs.declared.refusal.Refusal.{Refusal}
use Rattle.launch_file.specs.Binding as spec
use Rattle.launch_file.specs.declared.text.LaunchPart.{LaunchPart}
use Rattle.launch_file.specs.Texts.{Text, Part, part_of}
use Rattle.launch_file.specs.Values.{HasOneLength}
use Rattle.launch_file.proofs.Accepted.{accepts}
use Rattle.wg_top.specs.Units.{or_later}
use Rattle.wg_top.specs.Programs.{Runs, needs_refusal}
use Rattle.wg_top.specs.Launches.{IsReady}
use Rattle.wg_top.specs.CompiledLaunches.{AllFit}
use Rattle.wg_top.proofs.FitLemmas.{AreSmall, fits_kernel}

-- the offsets of a bound launch
small : (launch : Bindings) → spec.AreOffsets launch.offset → AreSmall (launch_of launch)
small launch offsets zero lt = offsets.0
small launch offsets (suc zero) lt = offsets.1
small launch offsets (suc (suc zero)) lt = offsets.2
small launch offsets (suc (suc (suc d))) lt = absurd (omega arith)

-- a launch that was bound fits its kernel
pub is_fit : (needs : spec.Needs) (text : Text) (part : Part) (launch : Bindings) → HasOneLength part →
    spec.Binds needs text part launch → spec.AreOffsets launch.offset → LaunchFits needs.kinds 0 (launch_of launch)
is_fit needs text part launch one binds offsets =
    let same = binds.is_its.is_its in
    subst (λ (l : Launch). LaunchFits needs.kinds 0 l) (sym same)
    (fits_kernel needs text.turns text.buffers part (accepts needs text.buffers part binds.accepted) one
    (subst (λ (l : Launch). AreSmall l) same (small launch offsets)))

-- and is ready
pub is_ready : (needs : spec.Needs) (text : Text) (part : Part) (launch : Bindings) → HasOneLength part →
    spec.Binds needs text part launch → spec.AreOffsets launch.offset → IsReady text.buffers launch
is_ready needs text part launch one binds offsets =
    let fit = is_fit needs text part launch one binds offsets in
    record {
      limits = record { dimensions = fit.dimensions; group_limit = fit.group_limit; item_limit = fit.item_limit };
      lengths = ap (λ l. l.lengths) binds.is_its.is_its;
      loads = binds.is_its.loads;
      saves = binds.is_its.saves;
    }

-- one more launch that fits
fit-snoc : (ps : List Plain) (ls : List Bindings) (p : Plain) (l : Bindings) → AllFit ps ls →
    LaunchFits p.params 0 (launch_of l) → AllFit (ps ++ p ∷ []) (ls ++ l ∷ [])
fit-snoc [] [] p l all one = (one, tt)
fit-snoc (q ∷ ps) (m ∷ ls) p l all one = (all.0, fit-snoc ps ls p l all.1 one)
fit-snoc [] (m ∷ ls) p l all one = absurd all
fit-snoc (q ∷ ps) [] p l all one = absurd all

pub more_fit : (programs : List Plain) (k : ℕ) (p : Plain) (list new : List Bindings) (l : Bindings) →
    k < length programs → p ≡ get_or programs k p → new ≡ list ++ l ∷ [] → AllFit (take k programs) list →
    LaunchFits p.params 0 (launch_of l) → AllFit (take (k + 1) programs) new
more_fit programs k p list new l lt is pushed all one =
    let next : k + 1 ≡ suc k = omega arith in
    let taken : take (k + 1) programs ≡ take k programs ++ p ∷ [] =
    ap (λ n. take n programs) next ∙ (take-suc programs k p lt ∙ ap (λ d. take k programs ++ d ∷ []) (sym is)) in
    subst (λ (ls : List Bindings). AllFit (take (k + 1) programs) ls) (sym pushed)
    (subst (λ (ps : List Plain). AllFit ps (list ++ l ∷ [])) (sym taken)
    (fit-snoc (take k programs) list p l all one))

-- the launches from a place on
from_place : (buffers : List BufferText) (parts : List Part) (rs : List Runs) (k : ℕ) (part : Part) (r : Runs) →
    k < length parts → k < length rs → part ≡ get_or parts k part → r ≡ get_or rs k r
    → needs_refusal buffers (drop k parts) (drop k rs) ≡ or_later (spec.launch_refusal r.needs buffers part)
    (needs_refusal buffers (drop (k + 1) parts) (drop (k + 1) rs))
from_place buffers parts rs k part r in_parts in_rs part_is r_is =
    let next : suc k ≡ k + 1 = omega arith in
    ap₂ (needs_refusal buffers) (drop-cons parts k part in_parts ∙ ap₂ (λ p n. p ∷ drop n parts) (sym part_is) next)
    (drop-cons rs k r in_rs ∙ ap₂ (λ v n. v ∷ drop n rs) (sym r_is) next)

-- the launch at a place is accepted, so a later one decides
pub refused_later : (buffers : List BufferText) (parts : List Part) (rs : List Runs) (k : ℕ) (part : Part)
    (r : Runs) → k < length parts → k < length rs → part ≡ get_or parts k part → r ≡ get_or rs k r
    → spec.launch_refusal r.needs buffers part ≡ None → needs_refusal buffers (drop k parts) (drop k rs) ≡
    needs_refusal buffers (drop (k + 1) parts) (drop (k + 1) rs)
refused_later buffers parts rs k part r in_parts in_rs part_is r_is accepted =
    from_place buffers parts rs k part r in_parts in_rs part_is r_is ∙
    ap (λ o. or_later o (needs_refusal buffers (drop (k + 1) parts) (drop (k + 1) rs))) accepted

-- the launch at a place is refused
pub refused_here : (buffers : List BufferText) (parts : List Part) (rs : List Runs) (k : ℕ) (part : Part)
    (r : Runs) (first : Refusal) → k < length parts → k < length rs → part ≡ get_or parts k part →
    r ≡ get_or rs k r → spec.launch_refusal r.needs buffers part ≡ Some first →
    needs_refusal buffers (drop k parts) (drop k rs) ≡ Some first
refused_here buffers parts rs k part r first in_parts in_rs part_is r_is refused =
    from_place buffers parts rs k part r in_parts in_rs part_is r_is ∙
    ap (λ o. or_later o (needs_refusal buffers (drop (k + 1) parts) (drop (k + 1) rs))) refused

-- one more launch was bound
pub one_bound : (turns : ℕ) (buffers : List BufferText) (parts : List Part) (k : ℕ) (d : Part)
    (list new : List Bindings) (launch : Bindings) → new ≡ list ++ launch ∷ [] → k < length parts →
    map launch_of list ≡ map (spec.launch_in turns buffers) (take k parts) →
    launch_of launch ≡ spec.launch_in turns buffers (get_or parts k d) →
    map launch_of new ≡ map (spec.launch_in turns buffers) (take (k + 1) parts)
one_bound turns buffers parts k d list new launch is lt before here =
    let next : suc k ≡ k + 1 = omega arith in
    let view : Bindings → Launch = launch_of in
    ap (map launch_of) is ∙ (map-append view list (launch ∷ []) ∙ (ap (λ xs. xs ++ launch_of launch ∷ []) before ∙
    (ap (λ x. map (spec.launch_in turns buffers) (take k parts) ++ x ∷ []) here
    ∙ (sym (map-append (spec.launch_in turns buffers) (take k parts) (get_or parts k d ∷ [])) ∙
    (ap (map (spec.launch_in turns buffers)) (sym (take-suc parts k d lt)) ∙
    ap (λ n. map (spec.launch_in turns buffers) (take n parts)) next)))))

-- one more launch that is ready
pub all_ready : (buffers : List BufferText) (list new : List Bindings) (launch : Bindings) →
    new ≡ list ++ launch ∷ [] → All (IsReady buffers) list → IsReady buffers launch → All (IsReady buffers) new
all_ready buffers list new launch is all one =
    subst (λ (l : List Bindings). All (IsReady buffers) l) (sym is) (All-push (IsReady buffers) list launch all one)

-- what is seen of a thing in a list
pub at_place : {X Y : Type 0} (view : X → Y) (xs : List X) (k : ℕ) (x : X) → k < length xs → x ≡ get_or xs k x →
    view x ≡ get_or (map view xs) k (view x)
at_place view xs k x lt is = ap view is ∙ sym (get_or-map view xs k x (view x) lt)

-- each launch of a file has the form of one
pub part_has : (list : List LaunchPart) (k : ℕ) (d : Part) → k < length list →
    All (λ p. HasOneLength (part_of p)) list → HasOneLength (get_or (map part_of list) k d)
part_has [] k d lt all = absurd (omega arith)
part_has (p ∷ list) zero d lt all = all 0 p (omega arith)
part_has (p ∷ list) (suc k) d lt all = part_has list k d (omega arith) (λ n e less. all (suc n) e (omega arith))
