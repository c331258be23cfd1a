-- Lines can be run through.
use Rattle.std.proofs.Common.{◌≡◌, ◌∷◌, refl, ap, subst}
use Rattle.std.specs.Prelude.{true, false}
use Rattle.std.proofs.lemmas.Bool.{true≢false}
use Rattle.kir.specs.Tree.{Lines, NoLine, SetThen, LoadThen, StoreThen, ClearThen, IfThen, LoopThen, BarrierThen}
use Rattle.kir.specs.Tree.{joined_to}
use Rattle.kir.specs.Places.{Behind, IntoChosen, IntoTest, IntoBody, Place, Tasks, LinesAt, AnswerAt}
use Rattle.kir_moves.specs.Leads.{past_end, past_set, past_load, past_store, past_clear, past_barrier, into_chosen}
use Rattle.kir_moves.specs.Leads.{into_test, into_body, past_loop, ComesTo, there, by_leg}
use Rattle.kir_moves.proofs.Coming.{come_trans}
use Rattle.regions.specs.Spans.{past_lines}
use Rattle.mask_lower.specs.Lowered.{is_no_line}

pub joined_none : (lines : Lines) → joined_to lines NoLine ≡ lines
joined_none NoLine = refl
joined_none (SetThen to work rest) = ap (SetThen to work) (joined_none rest)
joined_none (LoadThen site to element root index rest) = ap (LoadThen site to element root index) (joined_none rest)
joined_none (StoreThen site element root index from rest) =
    ap (StoreThen site element root index from) (joined_none rest)
joined_none (ClearThen array rest) = ap (ClearThen array) (joined_none rest)
joined_none (IfThen site test chosen other rest) = ap (IfThen site test chosen other) (joined_none rest)
joined_none (LoopThen site first test answer body rest) = ap (LoopThen site first test answer body) (joined_none rest)
joined_none (BarrierThen site rest) = ap (BarrierThen site) (joined_none rest)

pub no_line_is : (lines : Lines) → is_no_line lines ≡ true → lines ≡ NoLine
no_line_is NoLine e = refl
no_line_is (SetThen to work rest) e = absurd (true≢false (Rattle.std.proofs.Common.sym e))
no_line_is (LoadThen site to element root index rest) e = absurd (true≢false (Rattle.std.proofs.Common.sym e))
no_line_is (StoreThen site element root index from rest) e = absurd (true≢false (Rattle.std.proofs.Common.sym e))
no_line_is (ClearThen array rest) e = absurd (true≢false (Rattle.std.proofs.Common.sym e))
no_line_is (IfThen site test chosen other rest) e = absurd (true≢false (Rattle.std.proofs.Common.sym e))
no_line_is (LoopThen site first test answer body rest) e = absurd (true≢false (Rattle.std.proofs.Common.sym e))
no_line_is (BarrierThen site rest) e = absurd (true≢false (Rattle.std.proofs.Common.sym e))

-- to what is behind lines, where they can be run through
pub run_through : (to : Tasks) (at : Place) (lines : Lines) →
    ((t : Tasks) → ComesTo (LinesAt (past_lines lines at) NoLine t) (LinesAt at (joined_to lines NoLine) t)) →
    (t : Tasks) → ComesTo to t → ComesTo to (LinesAt at lines t)
run_through to at lines whole t more =
    come_trans to (LinesAt (past_lines lines at) NoLine t) (LinesAt at lines t)
    (subst (λ x. ComesTo (LinesAt (past_lines lines at) NoLine t) (LinesAt at x t)) (joined_none lines) (whole t))
    (by_leg past_end more)

pub through : (lines tail : Lines) (at : Place) (k : Tasks) →
    ComesTo (LinesAt (past_lines lines at) tail k) (LinesAt at (joined_to lines tail) k)
through NoLine tail at k = there
through (SetThen to work rest) tail at k = by_leg past_set (through rest tail (Behind ∷ at) k)
through (LoadThen site to element root index rest) tail at k = by_leg past_load (through rest tail (Behind ∷ at) k)
through (StoreThen site element root index from rest) tail at k = by_leg past_store (through rest tail (Behind ∷ at) k)
through (ClearThen array rest) tail at k = by_leg past_clear (through rest tail (Behind ∷ at) k)
through (BarrierThen site rest) tail at k = by_leg past_barrier (through rest tail (Behind ∷ at) k)
through (IfThen site test chosen other rest) tail at k =
    by_leg into_chosen (run_through _ (IntoChosen ∷ at) chosen (λ t. through chosen NoLine (IntoChosen ∷ at) t)
    (LinesAt (Behind ∷ at) (joined_to rest tail) k) (through rest tail (Behind ∷ at) k))
through (LoopThen site true test answer body rest) tail at k =
    let K = LinesAt (Behind ∷ at) (joined_to rest tail) k in
    by_leg into_test (run_through _ (IntoTest ∷ at) test (λ t. through test NoLine (IntoTest ∷ at) t)
    (AnswerAt at test answer body 0 K) (by_leg past_loop (through rest tail (Behind ∷ at) k)))
through (LoopThen site false test answer body rest) tail at k =
    let K = LinesAt (Behind ∷ at) (joined_to rest tail) k in
    by_leg into_body (run_through _ (IntoBody ∷ at) body (λ t. through body NoLine (IntoBody ∷ at) t)
    (LinesAt (IntoTest ∷ at) test (AnswerAt at test answer body 1 K))
    (run_through _ (IntoTest ∷ at) test (λ t. through test NoLine (IntoTest ∷ at) t)
    (AnswerAt at test answer body 1 K) (by_leg past_loop (through rest tail (Behind ∷ at) k))))
