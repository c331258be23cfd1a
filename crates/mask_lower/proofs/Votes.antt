-- Where a region of a kernel ends with votes, what its items vote on is read.
use Rattle.std.proofs.Common.{◌≡◌, ℕ, Some, None, ap, ◌∙◌}
use Rattle.std.specs.Prelude.{◌||◌}
use Rattle.std.specs.Prelude.{false}
use Rattle.std.proofs.lemmas.Bool.{or_left}
use Rattle.std.proofs.lemmas.Option.{none-some, same_Some}
use Rattle.kir.specs.declared.line.Atom.{Atom}
use Rattle.kir.specs.Tree.{Lines, IfThen}
use Rattle.kir.specs.Places.{Place, Tasks, NoTask, LinesAt, AnswerAt}
use Rattle.kir.specs.Live.{reads, live_in, live_now}
use Rattle.mask_lower.specs.Following.{vote_before, ReadsVote}

-- where there is no vote
pub reads_none : (e : Tasks) → ReadsVote None e
reads_none e a is = absurd (none-some a is)

-- before an if that holds a barrier, its test
pub reads_test : (at : Place) (site : ℕ) (test : Atom) (chosen other rest : Lines) (k : Tasks) →
    ReadsVote (Some test) (LinesAt at (IfThen site test chosen other rest) k)
reads_test at site test chosen other rest k a is c h =
    or_left (reads c test) (live_in c chosen (live_in c rest (live_now c k)) ||
    live_in c other (live_in c rest (live_now c k))) (ap (reads c) (same_Some test a is) ∙ h)

-- at a loop's answer, the answer
pub reads_answer : (at : Place) (test : Lines) (answer : Atom) (body : Lines) (n : ℕ) (k : Tasks) →
    ReadsVote (Some answer) (AnswerAt at test answer body n k)
reads_answer at test answer body n k a is c h =
    or_left (reads c answer) (live_now c k || live_in c body (live_in c test false))
    (ap (reads c) (same_Some answer a is) ∙ h)

-- so it is where a vote is before the items
pub reads_at : (answer : Atom) (e : Tasks) → vote_before e ≡ Some answer → ReadsVote (Some answer) e
reads_at answer NoTask is = absurd (none-some answer is)
reads_at answer (LinesAt at lines k) is = absurd (none-some answer is)
reads_at answer (AnswerAt at test own body n k) is = λ a same. reads_answer at test own body n k a (is ∙ same)
