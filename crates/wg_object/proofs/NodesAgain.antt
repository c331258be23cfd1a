-- What was written is read again, whatever follows it: codes and nodes.
use Rattle.std.proofs.Common.{◌≡◌, ℕ, zero, suc, ◌^◌, ◌<◌, true, false, List, [], ◌∷◌, ◌++◌, length}
use Rattle.std.proofs.Common.{Bool as Test}
use Rattle.std.specs.Prelude.{int_le}
use Rattle.std.proofs.lemmas.Int.{ints}
use Rattle.wg_num.specs.declared.types.IntType.{IntType}
use Rattle.lane_code.specs.declared.step.Step.TheVariants.{Const}
use Rattle.lane_code.specs.Rows.{row_of}
use Rattle.wg_object.specs.Text.{number_of_step, operand_text}
use Rattle.std.proofs.Common.{ℤ, arith, Option, Some, None, refl, sym, ap, ◌∙◌, append_assoc}
use Rattle.std.proofs.lemmas.Bool.{and_parts}
use Rattle.wg_num.specs.Types.{is_value}
use Rattle.wg_num.specs.Wrap.{IsValue, lowest, highest}
use Rattle.lane_code.specs.declared.step.Step.{Step}
use Rattle.lane_code.specs.declared.code.Counts.{Counts}
use Rattle.lane_code.specs.Fits.{is_well, keeps_mask_0, is_code_step, all_steps, is_below}
use Rattle.lane_code.specs.Program.{PlainCode, Work, Items, Seq, Vote, Loop, Works, idle, then_work}
use Rattle.wg_object.specs.Numbers.{number_of_truth, truth_of_number}
use Rattle.wg_object.specs.Text.{four, eight, step_text, flat_texts, list_text, counts_text, code_text, count_of_works}
use Rattle.wg_object.specs.Text.{work_text, works_text}
use Rattle.wg_object.specs.Valid.{AllFit, IsList, IsStep, AreCounts, IsCode, IsWork, AreWorks}
use Rattle.wg_object.specs.Reading.{◌>>=◌, step_at, counts_at, code_at, works_at}
use Rattle.wg_object.specs.Reading.{items_work_at, seq_at, vote_at, loop_at, work_with, work_at}
use Rattle.wg_object.proofs.Again.{four_again, eight_again, step_again, HasValue}
use Rattle.wg_object.proofs.Lists.{HasFirst, IsReadAgain, list_again}

-- the value of a step that did not fail
pub bind_some : {A B : Type 0} (o : Option A) (f : A → Option B) (y : B) → (o >>= f) ≡ Some y → (x : A) × (o ≡ Some x) ×
    (f x ≡ Some y)
bind_some (Some x) f y e = (x, refl, e)
bind_some None f y e = absurd cc

pub some_is : {A : Type 0} (x y : A) → Some x ≡ Some y → x ≡ y
some_is x y e = cc

pub truth_back : (t : Test) → truth_of_number (number_of_truth t) ≡ t
truth_back true = refl
truth_back false = refl

counts_again : (c : Counts) (rest : List ℕ) → AreCounts c → counts_at (counts_text c ++ rest) ≡ (c, rest)
unfolding counts_at
counts_again c rest h =
    let regroup : counts_text c ++ rest ≡ four c.narrow ++ (four c.wide ++ (four c.masks ++ (four c.scalars ++ rest))) =
    simp append_assoc in
    ap counts_at regroup ∙ rw (
      four_again c.narrow (four c.wide ++ (four c.masks ++ (four c.scalars ++ rest))) h.narrow,
      four_again c.wide (four c.masks ++ (four c.scalars ++ rest)) h.wide,
      four_again c.masks (four c.scalars ++ rest) h.masks,
      four_again c.scalars rest h.scalars,
    ) refl

-- a step that fits, and whose constant is a value
abbrev pub IsSound : Step → Type 0
IsSound s = IsStep s × HasValue s

-- a test is a fact
is_value_is : (t : IntType) (z : ℤ) → is_value t z ≡ true → IsValue t z
is_value_is t z e = let p = and_parts (int_le (lowest t) z) (int_le z (highest t)) e in
    record { low = omega (arith, ints, p.0); high = omega (arith, ints, p.1) }

-- a constant of a code is a value
well_value : (c : Counts) (end place : ℕ) (s : Step) → is_well c end place s ≡ true → HasValue s
well_value c end place (Const to t v) h = is_value_is t v (and_parts (is_below c to) (is_value t v) h).1
well_value c end place _ h = tt

code_value : (c : Counts) (end place : ℕ) (s : Step) → is_code_step c end place s ≡ true → HasValue s
code_value c end place s h = well_value c end place s (and_parts (keeps_mask_0 s) (is_well c end place s) h).1

sound_steps : (c : Counts) (end place : ℕ) (steps : List Step) → all_steps (is_code_step c end) place steps ≡ true →
    AllFit IsStep steps → AllFit IsSound steps
sound_steps c end place [] well fit = tt
sound_steps c end place (s ∷ steps) well fit =
    let p = and_parts (is_code_step c end place s) (all_steps (is_code_step c end) (suc place) steps) well in
    ((fit.0, code_value c end place s p.0), sound_steps c end (suc place) steps p.1 fit.1)

steps_read : IsReadAgain step_at step_text IsSound
steps_read = record {
  again = λ s rest h. step_again s rest h.0 h.1;
  first = λ s. record { byte = number_of_step s; others = flat_texts operand_text (row_of s).operands; is = refl };
}

pub code_again : (c : PlainCode) (rest : List ℕ) → IsCode c → code_at (code_text c ++ rest) ≡ (c, rest)
unfolding code_at
code_again c rest h =
    let sound : IsList IsSound c.steps = record {
      few = h.steps.few;
      each = sound_steps c.counts (length c.steps) 0 c.steps h.code h.steps.each;
    } in
    ap code_at (append_assoc (list_text step_text c.steps) (counts_text c.counts) rest) ∙ rw (
      list_again step_at step_text IsSound steps_read c.steps (counts_text c.counts ++ rest) sound,
      counts_again c.counts rest h.counts,
      h.code,
    ) refl

-- ---- nodes

pub work_first : (w : Work) → HasFirst (work_text w)
work_first (Items code) = record { byte = 0; others = code_text code; is = refl }
work_first (Seq works) = record { byte = 1; others = eight (count_of_works works) ++ works_text works; is = refl }
work_first (Vote test agreed refused mixed) = record {
  byte = 2;
  others = code_text test ++ (work_text agreed ++ (work_text refused ++ code_text mixed));
  is = refl;
}
work_first (Loop test_first test body rest) = record {
  byte = 3;
  others = number_of_truth test_first ∷ (work_text test ++ (work_text body ++ code_text rest));
  is = refl;
}

abbrev WorkAgain : Work → Type 0
WorkAgain w = (d : ℕ) (rest : List ℕ) (y : Work × List ℕ) → work_at d (work_text w ++ rest) ≡ Some y → y ≡ (w, rest)

abbrev WorksAgain : Works → Type 0
WorksAgain ws = (d : ℕ) (rest : List ℕ) (y : Works × List ℕ) →
    works_at (work_at d) (count_of_works ws) (works_text ws ++ rest) ≡ Some y → y ≡ (ws, rest)

pub items_back : (code : PlainCode) (rest : List ℕ) → IsCode code →
    items_work_at (code_text code ++ rest) ≡ Some (Items code, rest)
unfolding items_work_at
items_back code rest h = rw (code_again code rest h) refl

seq_back : (works : Works) (d : ℕ) (rest : List ℕ) (y : Work × List ℕ) → count_of_works works < 2 ^ 64 →
    WorksAgain works → seq_at (work_at d) ((eight (count_of_works works) ++ works_text works) ++ rest) ≡ Some y →
    y ≡ (Seq works, rest)
unfolding seq_at
seq_back works d rest y few again e =
    let count = count_of_works works in
    let regroup = append_assoc (eight count) (works_text works) rest in
    let read = eight_again count (works_text works ++ rest) few in
    let f : Works × List ℕ → Option (Work × List ℕ) = λ x. Some (Seq x.0, x.1) in
    let plain : (works_at (work_at d) count (works_text works ++ rest) >>= f) ≡ Some y = rw (regroup, read) at e in
    let b = bind_some (works_at (work_at d) count (works_text works ++ rest)) f y plain in
    let z = again d rest b.0 b.1 in
    sym (some_is (Seq b.0.0, b.0.1) y b.2) ∙ ap (λ (x : Works × List ℕ). (Seq x.0, x.1)) z

vote_back : (test mixed : PlainCode) (agreed refused : Work) (d : ℕ) (rest : List ℕ) (y : Work × List ℕ) →
    IsCode test → IsCode mixed → WorkAgain agreed → WorkAgain refused →
    vote_at (work_at d) ((code_text test ++ (work_text agreed ++ (work_text refused ++ code_text mixed))) ++ rest)
    ≡ Some y → y ≡ (Vote test agreed refused mixed, rest)
unfolding vote_at
vote_back test mixed agreed refused d rest y well_test well_mixed first second e =
    let tail = code_text mixed ++ rest in
    let behind = work_text refused ++ tail in
    let regroup : (code_text test ++ (work_text agreed ++ (work_text refused ++ code_text mixed))) ++ rest ≡
    code_text test ++ (work_text agreed ++ behind) = simp append_assoc in
    let read = code_again test (work_text agreed ++ behind) well_test in
    let last : List ℕ → Work → Work → Option (Work × List ℕ) = λ bytes a r.
    Some (Vote test a r (code_at bytes).0, (code_at bytes).1) in
    let plain : (work_at d (work_text agreed ++ behind) >>= λ a. work_at d a.1 >>= λ r. last r.1 a.0 r.0) ≡ Some y =
    rw (regroup, read) at e in
    let b = bind_some (work_at d (work_text agreed ++ behind)) (λ a. work_at d a.1 >>= λ r. last r.1 a.0 r.0) y plain in
    let z = first d behind b.0 b.1 in
    let next : (work_at d behind >>= λ r. last r.1 agreed r.0) ≡ Some y = rw z at b.2 in
    let c = bind_some (work_at d behind) (λ r. last r.1 agreed r.0) y next in
    let t = second d tail c.0 c.1 in
    let end : last tail agreed refused ≡ Some y = rw t at c.2 in
    let done : last tail agreed refused ≡ Some (Vote test agreed refused mixed, rest) =
    rw (code_again mixed rest well_mixed) refl in
    some_is y (Vote test agreed refused mixed, rest) (sym end ∙ done)

loop_back : (test_first : Test) (test body : Work) (others : PlainCode) (d : ℕ) (rest : List ℕ) (y : Work × List ℕ) →
    IsCode others → WorkAgain test → WorkAgain body →
    loop_at (work_at d) ((number_of_truth test_first ∷ (work_text test ++ (work_text body ++ code_text others))) ++
    rest) ≡ Some y → y ≡ (Loop test_first test body others, rest)
unfolding loop_at
loop_back test_first test body others d rest y well first second e =
    let tail = code_text others ++ rest in
    let behind = work_text body ++ tail in
    let regroup : (work_text test ++ (work_text body ++ code_text others)) ++ rest ≡ work_text test ++ behind =
    simp append_assoc in
    let last : List ℕ → Work → Work → Option (Work × List ℕ) = λ bytes a r.
    Some (Loop test_first a r (code_at bytes).0, (code_at bytes).1) in
    let plain : (work_at d (work_text test ++ behind) >>= λ a. work_at d a.1 >>= λ r. last r.1 a.0 r.0) ≡ Some y =
    rw (regroup, truth_back test_first) at e in
    let b = bind_some (work_at d (work_text test ++ behind)) (λ a. work_at d a.1 >>= λ r. last r.1 a.0 r.0) y plain in
    let z = first d behind b.0 b.1 in
    let next : (work_at d behind >>= λ r. last r.1 test r.0) ≡ Some y = rw z at b.2 in
    let c = bind_some (work_at d behind) (λ r. last r.1 test r.0) y next in
    let t = second d tail c.0 c.1 in
    let end : last tail test body ≡ Some y = rw t at c.2 in
    let done : last tail test body ≡ Some (Loop test_first test body others, rest) =
    rw (code_again others rest well) refl in
    some_is y (Loop test_first test body others, rest) (sym end ∙ done)

then_back : (first : Work) (others : Works) → WorkAgain first → WorksAgain others → WorksAgain (then_work first others)
unfolding works_at
then_back first others one all d rest y e =
    let f = work_first first in
    let more = works_text others ++ rest in
    let whole : work_text first ++ more ≡ f.byte ∷ (f.others ++ more) = ap (λ (t : List ℕ). t ++ more) f.is in
    let regroup : (work_text first ++ works_text others) ++ rest ≡ f.byte ∷ (f.others ++ more) =
    append_assoc (work_text first) (works_text others) rest ∙ whole in
    let last : Work → Works × List ℕ → Option (Works × List ℕ) = λ a b. Some (then_work a b.0, b.1) in
    let plain : (work_at d (f.byte ∷ (f.others ++ more)) >>= λ a. works_at (work_at d) (count_of_works others) a.1 >>=
    last a.0) ≡ Some y = rw regroup at e in
    let b = bind_some (work_at d (f.byte ∷ (f.others ++ more)))
    (λ a. works_at (work_at d) (count_of_works others) a.1 >>= last a.0) y plain in
    let z = one d more b.0 (ap (work_at d) whole ∙ b.1) in
    let next : (works_at (work_at d) (count_of_works others) more >>= last first) ≡ Some y = rw z at b.2 in
    let c = bind_some (works_at (work_at d) (count_of_works others) more) (last first) y next in
    let t = all d rest c.0 c.1 in
    sym (some_is (then_work first c.0.0, c.0.1) y c.2) ∙ ap (λ (x : Works × List ℕ). (then_work first x.0, x.1)) t

mutual
  unfolding work_at work_with works_at

  -- a node that was written is read again, whatever follows it, or it is too deep
  pub work_again : (w : Work) → IsWork w → WorkAgain w
  work_again w h zero rest y e = absurd cc
  work_again (Items code) h (suc d) rest y e =
      sym (some_is (Items code, rest) y (sym (items_back code rest h) ∙ e))
  work_again (Seq works) h (suc d) rest y e = seq_back works d rest y h.0 (works_again works h.1) e
  work_again (Vote test agreed refused mixed) h (suc d) rest y e =
      vote_back test mixed agreed refused d rest y h.0 h.3 (work_again agreed h.1) (work_again refused h.2) e
  work_again (Loop test_first test body others) h (suc d) rest y e =
      loop_back test_first test body others d rest y h.2 (work_again test h.0) (work_again body h.1) e

  pub works_again : (ws : Works) → AreWorks ws → WorksAgain ws
  works_again idle h d rest y e = sym (some_is (idle, rest) y e)
  works_again (then_work first others) h d rest y e =
      then_back first others (work_again first h.0) (works_again others h.1) d rest y e
