-- The point of the program at a barrier line of a lowered kernel, with the iterations begun of the loops around it,
-- is that of no other.
use Rattle.std.proofs.Common.{◌≡◌, ℕ, zero, suc, ◌+◌, List, [], ◌∷◌, ◌++◌, length, refl, sym, ap, ap₂, ◌∙◌, subst}
use Rattle.std.proofs.Common.{arith, append-nil, ◌⊎◌, inl, inr, true}
use Rattle.cl_model.specs.Tree.{Program}
use Rattle.cl_model.specs.Calls.{function_at, kernel_of}
use Rattle.cl_model.specs.Valid.{parameter_kinds}
use Rattle.cl_model.specs.Task.{Own, Into}
use Rattle.kir.specs.Tree.{Lines, NoLine}
use Rattle.kir.specs.Places.{Leg, Behind, IntoChosen, IntoOther, IntoTest, ToAnswer, IntoBody, Place, Point, behind}
use Rattle.kir.specs.Places.{chosen_of, other_of, test_of, body_of, lines_at, loops_around}
use Rattle.kir.specs.Cuts.{is_barrier}
use Rattle.kir.specs.Matching.{IsBarrierPoint}
use Rattle.kir.specs.Lowering.{Named}
use Rattle.kir_lower.specs.Made.{next_cell}
use Rattle.kir_lower.specs.Whole.{names_at, way_behind, instance_at, with_instance, parameter_lines, call_code}
use Rattle.kir_lower.specs.Whole.{bound_lines, kernel_way, nothing_made, lowered_of}
use Rattle.kir_lower_shape.specs.Marks.{Way, further, Marks, NoMark, all_marked, marks_behind, marks_one, marks_two}
use Rattle.kir_lower_shape.specs.Marks.{marks_at, first_way, point_marked, Shaped, no_line, set_line, load_line}
use Rattle.kir_lower_shape.specs.Marks.{store_line, clear_line, if_line, loop_line, barrier_line}
use Rattle.kir_lower_shape.specs.CodeMarks.{call_marks, kernel_marks}
use Rattle.kir_lower_shape.specs.BarrierPoints.{Spot, at_barrier, past_barrier, past_set, past_load, past_store}
use Rattle.kir_lower_shape.specs.BarrierPoints.{past_clear, past_if, in_chosen, in_other, past_loop, in_test, in_body}
use Rattle.kir_lower_shape.specs.BarrierPoints.{loops_in, IsFair, AreTold}
use Rattle.kir_lower_shape.proofs.Quiet.{true_false}
use Rattle.kir_lower_shape.proofs.Cutless.{parameters_cutless}
use Rattle.kir_lower_shape.proofs.Keeps.{bound_cutless}
use Rattle.kir_lower_shape.proofs.Shapes.{shaped_all, call_shaped, kernel_shaped}
use Rattle.kir_lower_shape.proofs.Apart.{told_cutless, fair_further, as_part, as_whole, invert}
use Rattle.kir_lower_shape.proofs.ApartParts.{cutless_then_told}
use Rattle.kir_lower_shape.proofs.ApartCode.{CallsTold, NthFrom, body_told}

-- ---- calls, and the whole kernel

calls_told : (program : Program) (names : List (List Named)) (depth : ℕ) →
    CallsTold (call_code program names depth) (call_marks program names depth)
unfolding call_code call_marks
calls_told program names zero here way d fair site function roots values m =
    told_cutless way d (λ leg. Into ≡ leg) NoLine NoMark (record { is = refl })
calls_told program names (suc depth) here way d fair site function roots values m =
    let f = function_at program function in
    let there = way_behind program here site function roots in
    let first = parameter_lines (next_cell m) values in
    cutless_then_told way d fair (λ leg. Into ≡ leg) first _ (all_marked (further way (Own 0)) first) _
    (shaped_all (further way (Own 0)) first) (parameters_cutless (next_cell m) values)
    (as_part way d Into _ _ (as_whole (further way Into) d (NthFrom 0) _ _
    (body_told (call_code program names depth) (call_marks program names depth) (call_shaped program names depth)
    (calls_told program names depth) (instance_at there f m) (further way Into) d (fair_further way d Into fair)
    f (with_instance there (names_at names function) f m))))

-- the kernel's body stands at no way
abbrev start_way : Way
start_way begun = []

fair_start : IsFair start_way 0
fair_start [] [] xs ys e e' k = (refl, k)
fair_start [] (b ∷ bs) xs ys e e' k = absurd (omega (arith, e'))
fair_start (b ∷ bs) begun' xs ys e e' k = absurd (omega (arith, e))

kernel_told : (program : Program) (names : List (List Named)) →
    AreTold start_way 0 (NthFrom 0) (lowered_of program names).body (kernel_marks program names)
unfolding lowered_of kernel_marks
kernel_told program names =
    let f = kernel_of program in
    let there = kernel_way program in
    let depth = length program.functions in
    let first = bound_lines 0 0 (parameter_kinds f) in
    cutless_then_told start_way 0 fair_start (NthFrom 0) first _ (all_marked start_way first) _
    (shaped_all start_way first) (bound_cutless 0 0 (parameter_kinds f))
    (body_told (call_code program names depth) (call_marks program names depth) (call_shaped program names depth)
    (calls_told program names depth) (instance_at there f nothing_made) start_way 0 fair_start f
    (with_instance there (names_at names program.kernel) f nothing_made))

-- ---- places

-- the legs of a place, the first leg first, before others
abbrev from_front : Place → List Leg → List Leg
from_front [] legs = legs
from_front (leg ∷ at) legs = from_front at (leg ∷ legs)

front_twice : (at legs more : List Leg) → from_front (from_front at legs) more ≡ from_front legs (at ++ more)
front_twice [] legs more = refl
front_twice (leg ∷ at) legs more = front_twice at (leg ∷ legs) more

front_back : (at : Place) → from_front (from_front at []) [] ≡ at
front_back at = front_twice at [] [] ∙ append-nil at

loops_front : (at : Place) (legs : List Leg) → loops_in (from_front at legs) ≡ loops_around at + loops_in legs
loops_front [] legs = omega arith
loops_front (Behind ∷ at) legs = loops_front at (Behind ∷ legs)
loops_front (IntoChosen ∷ at) legs = loops_front at (IntoChosen ∷ legs)
loops_front (IntoOther ∷ at) legs = loops_front at (IntoOther ∷ legs)
loops_front (IntoTest ∷ at) legs = let p = loops_front at (IntoTest ∷ legs) in omega (arith, p)
loops_front (ToAnswer ∷ at) legs = let p = loops_front at (ToAnswer ∷ legs) in omega (arith, p)
loops_front (IntoBody ∷ at) legs = let p = loops_front at (IntoBody ∷ legs) in omega (arith, p)

-- marks in the shape of lines, or no lines at all
abbrev Fits : Lines → Marks → Type 0
Fits lines marks = Shaped lines marks ⊎ (lines ≡ NoLine)

fits_behind : (lines : Lines) (marks : Marks) → Fits lines marks → Fits (behind lines) (marks_behind marks)
fits_behind _ _ (inl no_line) = inr refl
fits_behind _ _ (inl (set_line h)) = inl h
fits_behind _ _ (inl (load_line h)) = inl h
fits_behind _ _ (inl (store_line h)) = inl h
fits_behind _ _ (inl (clear_line h)) = inl h
fits_behind _ _ (inl (if_line y n h)) = inl h
fits_behind _ _ (inl (loop_line t b h)) = inl h
fits_behind _ _ (inl (barrier_line h)) = inl h
fits_behind lines marks (inr e) = inr (ap behind e)

fits_chosen : (lines : Lines) (marks : Marks) → Fits lines marks → Fits (chosen_of lines) (marks_one marks)
fits_chosen _ _ (inl no_line) = inr refl
fits_chosen _ _ (inl (set_line h)) = inr refl
fits_chosen _ _ (inl (load_line h)) = inr refl
fits_chosen _ _ (inl (store_line h)) = inr refl
fits_chosen _ _ (inl (clear_line h)) = inr refl
fits_chosen _ _ (inl (if_line y n h)) = inl y
fits_chosen _ _ (inl (loop_line t b h)) = inr refl
fits_chosen _ _ (inl (barrier_line h)) = inr refl
fits_chosen lines marks (inr e) = inr (ap chosen_of e)

fits_other : (lines : Lines) (marks : Marks) → Fits lines marks → Fits (other_of lines) (marks_two marks)
fits_other _ _ (inl no_line) = inr refl
fits_other _ _ (inl (set_line h)) = inr refl
fits_other _ _ (inl (load_line h)) = inr refl
fits_other _ _ (inl (store_line h)) = inr refl
fits_other _ _ (inl (clear_line h)) = inr refl
fits_other _ _ (inl (if_line y n h)) = inl n
fits_other _ _ (inl (loop_line t b h)) = inr refl
fits_other _ _ (inl (barrier_line h)) = inr refl
fits_other lines marks (inr e) = inr (ap other_of e)

fits_test : (lines : Lines) (marks : Marks) → Fits lines marks → Fits (test_of lines) (marks_one marks)
fits_test _ _ (inl no_line) = inr refl
fits_test _ _ (inl (set_line h)) = inr refl
fits_test _ _ (inl (load_line h)) = inr refl
fits_test _ _ (inl (store_line h)) = inr refl
fits_test _ _ (inl (clear_line h)) = inr refl
fits_test _ _ (inl (if_line y n h)) = inr refl
fits_test _ _ (inl (loop_line t b h)) = inl t
fits_test _ _ (inl (barrier_line h)) = inr refl
fits_test lines marks (inr e) = inr (ap test_of e)

fits_body : (lines : Lines) (marks : Marks) → Fits lines marks → Fits (body_of lines) (marks_two marks)
fits_body _ _ (inl no_line) = inr refl
fits_body _ _ (inl (set_line h)) = inr refl
fits_body _ _ (inl (load_line h)) = inr refl
fits_body _ _ (inl (store_line h)) = inr refl
fits_body _ _ (inl (clear_line h)) = inr refl
fits_body _ _ (inl (if_line y n h)) = inr refl
fits_body _ _ (inl (loop_line t b h)) = inl b
fits_body _ _ (inl (barrier_line h)) = inr refl
fits_body lines marks (inr e) = inr (ap body_of e)

fits_at : (text : Lines) (marks : Marks) → Shaped text marks → (at : Place) →
    Fits (lines_at text at) (marks_at marks at)
fits_at text marks s [] = inl s
fits_at text marks s (Behind ∷ at) = fits_behind _ _ (fits_at text marks s at)
fits_at text marks s (IntoChosen ∷ at) = fits_chosen _ _ (fits_at text marks s at)
fits_at text marks s (IntoOther ∷ at) = fits_other _ _ (fits_at text marks s at)
fits_at text marks s (IntoTest ∷ at) = fits_test _ _ (fits_at text marks s at)
fits_at text marks s (ToAnswer ∷ at) = inr refl
fits_at text marks s (IntoBody ∷ at) = fits_body _ _ (fits_at text marks s at)

-- there is no spot where there is no line
nowhere : (lines : Lines) (marks : Marks) (legs : List Leg) (w : Way) → lines ≡ NoLine → Spot lines marks legs w → ⊥
nowhere lines marks legs w e s = invert NoLine marks legs w (subst (λ z. Spot z marks legs w) e s)

out_behind : (lines : Lines) (marks : Marks) (legs : List Leg) (w : Way) → Fits lines marks →
    Spot (behind lines) (marks_behind marks) legs w → Spot lines marks (Behind ∷ legs) w
out_behind _ _ legs w (inl no_line) s = absurd (nowhere _ _ legs w refl s)
out_behind _ _ legs w (inl (set_line h)) s = past_set s
out_behind _ _ legs w (inl (load_line h)) s = past_load s
out_behind _ _ legs w (inl (store_line h)) s = past_store s
out_behind _ _ legs w (inl (clear_line h)) s = past_clear s
out_behind _ _ legs w (inl (if_line y n h)) s = past_if s
out_behind _ _ legs w (inl (loop_line t b h)) s = past_loop s
out_behind _ _ legs w (inl (barrier_line h)) s = past_barrier s
out_behind lines marks legs w (inr e) s = absurd (nowhere _ _ legs w (ap behind e) s)

out_chosen : (lines : Lines) (marks : Marks) (legs : List Leg) (w : Way) → Fits lines marks →
    Spot (chosen_of lines) (marks_one marks) legs w → Spot lines marks (IntoChosen ∷ legs) w
out_chosen _ _ legs w (inl no_line) s = absurd (nowhere _ _ legs w refl s)
out_chosen _ _ legs w (inl (set_line h)) s = absurd (nowhere _ _ legs w refl s)
out_chosen _ _ legs w (inl (load_line h)) s = absurd (nowhere _ _ legs w refl s)
out_chosen _ _ legs w (inl (store_line h)) s = absurd (nowhere _ _ legs w refl s)
out_chosen _ _ legs w (inl (clear_line h)) s = absurd (nowhere _ _ legs w refl s)
out_chosen _ _ legs w (inl (if_line y n h)) s = in_chosen s
out_chosen _ _ legs w (inl (loop_line t b h)) s = absurd (nowhere _ _ legs w refl s)
out_chosen _ _ legs w (inl (barrier_line h)) s = absurd (nowhere _ _ legs w refl s)
out_chosen lines marks legs w (inr e) s = absurd (nowhere _ _ legs w (ap chosen_of e) s)

out_other : (lines : Lines) (marks : Marks) (legs : List Leg) (w : Way) → Fits lines marks →
    Spot (other_of lines) (marks_two marks) legs w → Spot lines marks (IntoOther ∷ legs) w
out_other _ _ legs w (inl no_line) s = absurd (nowhere _ _ legs w refl s)
out_other _ _ legs w (inl (set_line h)) s = absurd (nowhere _ _ legs w refl s)
out_other _ _ legs w (inl (load_line h)) s = absurd (nowhere _ _ legs w refl s)
out_other _ _ legs w (inl (store_line h)) s = absurd (nowhere _ _ legs w refl s)
out_other _ _ legs w (inl (clear_line h)) s = absurd (nowhere _ _ legs w refl s)
out_other _ _ legs w (inl (if_line y n h)) s = in_other s
out_other _ _ legs w (inl (loop_line t b h)) s = absurd (nowhere _ _ legs w refl s)
out_other _ _ legs w (inl (barrier_line h)) s = absurd (nowhere _ _ legs w refl s)
out_other lines marks legs w (inr e) s = absurd (nowhere _ _ legs w (ap other_of e) s)

out_test : (lines : Lines) (marks : Marks) (legs : List Leg) (w : Way) → Fits lines marks →
    Spot (test_of lines) (marks_one marks) legs w → Spot lines marks (IntoTest ∷ legs) w
out_test _ _ legs w (inl no_line) s = absurd (nowhere _ _ legs w refl s)
out_test _ _ legs w (inl (set_line h)) s = absurd (nowhere _ _ legs w refl s)
out_test _ _ legs w (inl (load_line h)) s = absurd (nowhere _ _ legs w refl s)
out_test _ _ legs w (inl (store_line h)) s = absurd (nowhere _ _ legs w refl s)
out_test _ _ legs w (inl (clear_line h)) s = absurd (nowhere _ _ legs w refl s)
out_test _ _ legs w (inl (if_line y n h)) s = absurd (nowhere _ _ legs w refl s)
out_test _ _ legs w (inl (loop_line t b h)) s = in_test s
out_test _ _ legs w (inl (barrier_line h)) s = absurd (nowhere _ _ legs w refl s)
out_test lines marks legs w (inr e) s = absurd (nowhere _ _ legs w (ap test_of e) s)

out_body : (lines : Lines) (marks : Marks) (legs : List Leg) (w : Way) → Fits lines marks →
    Spot (body_of lines) (marks_two marks) legs w → Spot lines marks (IntoBody ∷ legs) w
out_body _ _ legs w (inl no_line) s = absurd (nowhere _ _ legs w refl s)
out_body _ _ legs w (inl (set_line h)) s = absurd (nowhere _ _ legs w refl s)
out_body _ _ legs w (inl (load_line h)) s = absurd (nowhere _ _ legs w refl s)
out_body _ _ legs w (inl (store_line h)) s = absurd (nowhere _ _ legs w refl s)
out_body _ _ legs w (inl (clear_line h)) s = absurd (nowhere _ _ legs w refl s)
out_body _ _ legs w (inl (if_line y n h)) s = absurd (nowhere _ _ legs w refl s)
out_body _ _ legs w (inl (loop_line t b h)) s = in_body s
out_body _ _ legs w (inl (barrier_line h)) s = absurd (nowhere _ _ legs w refl s)
out_body lines marks legs w (inr e) s = absurd (nowhere _ _ legs w (ap body_of e) s)

-- a spot from a place on is one of the whole text
spot_of : (text : Lines) (marks : Marks) → Shaped text marks → (at : Place) (legs : List Leg) (w : Way) →
    Spot (lines_at text at) (marks_at marks at) legs w → Spot text marks (from_front at legs) w
spot_of text marks s [] legs w p = p
spot_of text marks s (Behind ∷ at) legs w p =
    spot_of text marks s at (Behind ∷ legs) w (out_behind _ _ legs w (fits_at text marks s at) p)
spot_of text marks s (IntoChosen ∷ at) legs w p =
    spot_of text marks s at (IntoChosen ∷ legs) w (out_chosen _ _ legs w (fits_at text marks s at) p)
spot_of text marks s (IntoOther ∷ at) legs w p =
    spot_of text marks s at (IntoOther ∷ legs) w (out_other _ _ legs w (fits_at text marks s at) p)
spot_of text marks s (IntoTest ∷ at) legs w p =
    spot_of text marks s at (IntoTest ∷ legs) w (out_test _ _ legs w (fits_at text marks s at) p)
spot_of text marks s (ToAnswer ∷ at) legs w p = absurd (nowhere _ _ legs w refl p)
spot_of text marks s (IntoBody ∷ at) legs w p =
    spot_of text marks s at (IntoBody ∷ legs) w (out_body _ _ legs w (fits_at text marks s at) p)

-- a barrier line is a spot
barrier_spot : (lines : Lines) (marks : Marks) → Fits lines marks → is_barrier lines ≡ true →
    Spot lines marks [] (first_way marks)
barrier_spot _ _ (inl no_line) e = absurd (true_false (sym e))
barrier_spot _ _ (inl (set_line h)) e = absurd (true_false (sym e))
barrier_spot _ _ (inl (load_line h)) e = absurd (true_false (sym e))
barrier_spot _ _ (inl (store_line h)) e = absurd (true_false (sym e))
barrier_spot _ _ (inl (clear_line h)) e = absurd (true_false (sym e))
barrier_spot _ _ (inl (if_line y n h)) e = absurd (true_false (sym e))
barrier_spot _ _ (inl (loop_line t b h)) e = absurd (true_false (sym e))
barrier_spot _ _ (inl (barrier_line h)) e = at_barrier
barrier_spot lines marks (inr n) e = absurd (true_false (sym e ∙ ap is_barrier n))

-- so no two barrier points are one point of the program
pub points_differ : (program : Program) (names : List (List Named)) (p q : Point) →
    IsBarrierPoint (lowered_of program names).body p → IsBarrierPoint (lowered_of program names).body q
    → point_marked (kernel_marks program names) p ≡ point_marked (kernel_marks program names) q → p ≡ q
points_differ program names p q bp bq same =
    let text = (lowered_of program names).body in
    let marks = kernel_marks program names in
    let shaped = kernel_shaped program names in
    let spot = λ (at : Place) (e : is_barrier (lines_at text at) ≡ true).
    spot_of text marks shaped at [] (first_way (marks_at marks at))
    (barrier_spot (lines_at text at) (marks_at marks at) (fits_at text marks shaped at) e) in
    let k = (kernel_told program names).one (from_front p.at []) (from_front q.at [])
    (first_way (marks_at marks p.at)) (first_way (marks_at marks q.at)) (spot p.at bp.barrier)
    (spot q.at bq.barrier) p.begun q.begun
    (bp.each_loop ∙ count p.at) (bq.each_loop ∙ count q.at) same in
    let at : p.at ≡ q.at = sym (front_back p.at) ∙ ap (λ z. from_front z []) k.0 ∙ front_back q.at in
    ap₂ (λ y z. let r : Point = record { at = y; begun = z } in r) at k.1
  where
    count : (at : Place) → loops_around at ≡ loops_in (from_front at []) + 0
    count at = let l = loops_front at [] in omega (arith, l)
