-- Where so many nodes may stand in one another as do, the text of an object is read; so bytes are the text of one
-- object at most.
use Rattle.std.proofs.Common.{◌≡◌, ℕ, zero, suc, ◌≤◌, ◌<◌, ◌^◌, max, List, ◌∷◌, ◌++◌, Some}
use Rattle.std.proofs.Common.{Bool as Test}
use Rattle.std.proofs.Common.{refl, sym, ap, ◌∙◌, append_assoc, arith}
use Rattle.lane_code.specs.Program.{PlainCode, Work, Items, Seq, Vote, Loop, Works, idle, then_work}
use Rattle.wg_object.specs.Depth.{depth_of, depth_in, TextLaw}
use Rattle.wg_object.specs.Numbers.{number_of_truth}
use Rattle.wg_object.specs.Plain.{PlainObject}
use Rattle.wg_object.specs.Text.{eight, code_text, count_of_works, work_text, works_text, sizes_text, memory_text}
use Rattle.wg_object.specs.Text.{tail_text, object_text}
use Rattle.wg_object.specs.Valid.{IsCode, IsWork, AreWorks, IsPlace, IsObject}
use Rattle.wg_object.specs.Text.{place_text}
use Rattle.wg_object.specs.Reading.{works_at, seq_at, vote_at, loop_at, work_with, work_at, place_at}
use Rattle.wg_object.specs.Reading.{tail_at, object_at}
use Rattle.wg_object.proofs.Again.{eight_again}
use Rattle.wg_object.proofs.Lists.{list_again}
use Rattle.wg_object.proofs.NodesAgain.{code_again, truth_back, items_back, work_first}
use Rattle.wg_object.proofs.ObjectAgain.{head_again, kept_again, sizes_again, places_read, object_again}

abbrev Deep : Work → Type 0
Deep w = (d : ℕ) (rest : List ℕ) → depth_of w ≤ d → work_at d (work_text w ++ rest) ≡ Some (w, rest)

abbrev DeepIn : Works → Type 0
DeepIn ws = (d : ℕ) (rest : List ℕ) → depth_in ws ≤ d →
    works_at (work_at d) (count_of_works ws) (works_text ws ++ rest) ≡ Some (ws, rest)

seq_deep : (works : Works) (d : ℕ) (rest : List ℕ) → count_of_works works < 2 ^ 64 → depth_in works ≤ d →
    DeepIn works → seq_at (work_at d) ((eight (count_of_works works) ++ works_text works) ++ rest) ≡
    Some (Seq works, rest)
unfolding seq_at
seq_deep works d rest few le deep =
    let count = count_of_works works in
    ap (seq_at (work_at d)) (append_assoc (eight count) (works_text works) rest) ∙
    rw (eight_again count (works_text works ++ rest) few, deep d rest le) refl

vote_deep : (test mixed : PlainCode) (agreed refused : Work) (d : ℕ) (rest : List ℕ) → IsCode test → IsCode mixed →
    max (depth_of agreed) (depth_of refused) ≤ d → Deep agreed → Deep refused →
    vote_at (work_at d) ((code_text test ++ (work_text agreed ++ (work_text refused ++ code_text mixed))) ++ rest)
    ≡ Some (Vote test agreed refused mixed, rest)
unfolding vote_at
vote_deep test mixed agreed refused d rest well_test well_mixed le first second =
    let tail = code_text mixed ++ rest in
    let behind = work_text refused ++ tail in
    let regroup : (code_text test ++ (work_text agreed ++ (work_text refused ++ code_text mixed))) ++ rest ≡
    code_text test ++ (work_text agreed ++ behind) = simp append_assoc in
    ap (vote_at (work_at d)) regroup ∙ rw (
      code_again test (work_text agreed ++ behind) well_test,
      first d behind (omega arith),
      second d tail (omega arith),
      code_again mixed rest well_mixed,
    ) refl

loop_deep : (test_first : Test) (test body : Work) (others : PlainCode) (d : ℕ) (rest : List ℕ) → IsCode others →
    max (depth_of test) (depth_of body) ≤ d → Deep test → Deep body →
    loop_at (work_at d) ((number_of_truth test_first ∷ (work_text test ++ (work_text body ++ code_text others))) ++
    rest) ≡ Some (Loop test_first test body others, rest)
unfolding loop_at
loop_deep test_first test body others d rest well le first second =
    let tail = code_text others ++ rest in
    let behind = work_text body ++ tail in
    let regroup : (work_text test ++ (work_text body ++ code_text others)) ++ rest ≡ work_text test ++ behind =
    simp append_assoc in
    ap (λ (t : List ℕ). loop_at (work_at d) (number_of_truth test_first ∷ t)) regroup ∙ rw (
      truth_back test_first,
      first d behind (omega arith),
      second d tail (omega arith),
      code_again others rest well,
    ) refl

then_deep : (first : Work) (others : Works) → Deep first → DeepIn others → DeepIn (then_work first others)
unfolding works_at
then_deep first others one all d rest le =
    let f = work_first first in
    let more = works_text others ++ rest in
    let whole : work_text first ++ more ≡ f.byte ∷ (f.others ++ more) = ap (λ (t : List ℕ). t ++ more) f.is in
    let regroup : (work_text first ++ works_text others) ++ rest ≡ f.byte ∷ (f.others ++ more) =
    append_assoc (work_text first) (works_text others) rest ∙ whole in
    let read : work_at d (f.byte ∷ (f.others ++ more)) ≡ Some (first, more) =
    ap (work_at d) (sym whole) ∙ one d more (omega arith) in
    ap (works_at (work_at d) (suc (count_of_works others))) regroup ∙ rw (read, all d rest (omega arith)) refl

mutual
  unfolding work_at work_with works_at

  work_deep : (w : Work) → IsWork w → Deep w
  work_deep (Items code) h zero rest le = absurd (omega arith)
  work_deep (Items code) h (suc d) rest le = items_back code rest h
  work_deep (Seq works) h zero rest le = absurd (omega arith)
  work_deep (Seq works) h (suc d) rest le = seq_deep works d rest h.0 (omega arith) (works_deep works h.1)
  work_deep (Vote test agreed refused mixed) h zero rest le = absurd (omega arith)
  work_deep (Vote test agreed refused mixed) h (suc d) rest le =
      vote_deep test mixed agreed refused d rest h.0 h.3 (omega arith) (work_deep agreed h.1) (work_deep refused h.2)
  work_deep (Loop test_first test body others) h zero rest le = absurd (omega arith)
  work_deep (Loop test_first test body others) h (suc d) rest le =
      loop_deep test_first test body others d rest h.2 (omega arith) (work_deep test h.0) (work_deep body h.1)

  works_deep : (ws : Works) → AreWorks ws → DeepIn ws
  works_deep idle h d rest le = refl
  works_deep (then_work first others) h d rest le =
      then_deep first others (work_deep first h.0) (works_deep others h.1) d rest le

object_deep : (o : PlainObject) → IsObject o → object_at (depth_of o.top) (object_text o) ≡ Some o
unfolding object_at tail_at
object_deep o h =
    let behind = work_text o.top ++ sizes_text o.sizes in
    rw (
      head_again o (memory_text o ++ tail_text o) h,
      kept_again o (tail_text o) h,
      list_again place_at place_text IsPlace places_read o.sites behind h.sites,
      work_deep o.top h.top (depth_of o.top) (sizes_text o.sizes) (omega arith),
      sizes_again o.sizes h.sizes,
    ) refl

pub one_object : TextLaw
one_object bytes o p is also =
    object_again (depth_of o.top) p o also.object
    (ap (object_at (depth_of o.top)) (sym also.text ∙ is.text) ∙ object_deep o is.object)
