-- How an item comes from the start of a kernel to a place of its text, and what is live there.
use Rattle.std.specs.Prelude.{◌≡◌, ◌⊎◌, ℕ, zero, suc, ℤ, List, [], ◌∷◌}
use Rattle.std.specs.Prelude.{Bool as Test, true, false}
use Rattle.kir.specs.declared.line.Atom.{Atom}
use Rattle.kir.specs.Tree.{Lines, NoLine, SetThen, LoadThen, StoreThen, ClearThen, IfThen, LoopThen, BarrierThen}
use Rattle.kir.specs.Places.{Behind, IntoChosen, IntoOther, IntoTest, ToAnswer, IntoBody, Place, lines_at, behind}
use Rattle.kir.specs.Places.{test_of, body_of, answer_of, first_of, others_of}
use Rattle.kir.specs.Live.{live_in}
use Rattle.kir.specs.Steps.{atom_value}
use Rattle.kir_uniform.specs.Uniform.{tested}
use Rattle.kir_uniform.specs.Does.{Cells, Who, put, computed, Answers, Enters, AtAnswer, Does}

-- a branch of an if is done
abbrev pub Branches : Who → Atom → (chosen other : Lines) → Cells → Cells → Type 0
Branches who test chosen other f m =
    (Answers f test false × Does who chosen f m) ⊎ (Answers f test true × Does who other f m)

-- a loop is done
abbrev pub Loops : Who → Test → (test : Lines) → Atom → (body : Lines) → Cells → Cells → Type 0
Loops who first test answer body f m =
    (begun : ℕ) × AtAnswer first (Does who test) (Does who body) answer begun f m × Answers m answer true

-- the first line is done
abbrev pub FirstDoes : Who → Lines → Cells → Cells → Type 0
FirstDoes who NoLine f g = ⊥
FirstDoes who (SetThen to work rest) f g = g ≡ put f to (computed who f work)
FirstDoes who (LoadThen site to element root index rest) f g =
    (v : ℤ) × who.gives element root (atom_value f index) v × (g ≡ put f to v)
FirstDoes who (StoreThen site element root index from rest) f g = g ≡ f
FirstDoes who (ClearThen array rest) f g = g ≡ f
FirstDoes who (IfThen site test chosen other rest) f g = Branches who test chosen other f g
FirstDoes who (LoopThen site first test answer body rest) f g = Loops who first test answer body f g
FirstDoes who (BarrierThen site rest) f g = g ≡ f

-- the first line is an if whose test has this answer
abbrev pub TestIs : Lines → Test → Cells → Type 0
TestIs (IfThen site test chosen other rest) b f = Answers f test b
TestIs _ b f = ⊥

-- the first line is a loop, and this is so in the body of the iteration with this number, before its test and at its
-- answer
abbrev pub InBody : Who → Lines → ℕ → Cells → Cells → Type 0
InBody who (LoopThen site first test answer body rest) zero f g = ⊥
InBody who (LoopThen site first test answer body rest) (suc n) f g =
    Enters first n (AtAnswer first (Does who test) (Does who body) answer n) answer f g
InBody who _ n f g = ⊥

abbrev pub InTest : Who → Lines → ℕ → Cells → Cells → Type 0
InTest who (LoopThen site true test answer body rest) zero f g = g ≡ f
InTest who (LoopThen site false test answer body rest) zero f g = ⊥
InTest who (LoopThen site first test answer body rest) (suc n) f g =
    (a : Cells) × Enters first n (AtAnswer first (Does who test) (Does who body) answer n) answer f a ×
    Does who body a g
InTest who _ n f g = ⊥

abbrev pub InAnswer : Who → Lines → ℕ → Cells → Cells → Type 0
InAnswer who (LoopThen site first test answer body rest) n f g =
    AtAnswer first (Does who test) (Does who body) answer n f g
InAnswer who _ n f g = ⊥

-- an item that starts with these cells stands at a place, with so many iterations begun of the loops around it, with
-- those
abbrev pub Comes : Who → (text : Lines) → (start : Cells) → Place → List ℕ → Cells → Type 0
Comes who text start [] begun f = f ≡ start
Comes who text start (Behind ∷ at) begun g =
    (f : Cells) × Comes who text start at begun f × FirstDoes who (lines_at text at) f g
Comes who text start (IntoChosen ∷ at) begun f = Comes who text start at begun f × TestIs (lines_at text at) false f
Comes who text start (IntoOther ∷ at) begun f = Comes who text start at begun f × TestIs (lines_at text at) true f
Comes who text start (IntoTest ∷ at) begun g =
    (f : Cells) × Comes who text start at (others_of begun) f × InTest who (lines_at text at) (first_of begun) f g
Comes who text start (ToAnswer ∷ at) begun g =
    (f : Cells) × Comes who text start at (others_of begun) f × InAnswer who (lines_at text at) (first_of begun) f g
Comes who text start (IntoBody ∷ at) begun g =
    (f : Cells) × Comes who text start at (others_of begun) f × InBody who (lines_at text at) (first_of begun) f g

-- which cells are live behind the list of lines in which a place stands
abbrev pub after_at : (text : Lines) → Place → ℕ → Test
after_at text [] c = false
after_at text (Behind ∷ at) c = after_at text at c
after_at text (IntoChosen ∷ at) c = live_in c (behind (lines_at text at)) (after_at text at c)
after_at text (IntoOther ∷ at) c = live_in c (behind (lines_at text at)) (after_at text at c)
after_at text (IntoTest ∷ at) c =
    tested (test_of (lines_at text at)) (answer_of (lines_at text at)) (body_of (lines_at text at))
    (λ d. live_in d (behind (lines_at text at)) (after_at text at d)) c
after_at text (ToAnswer ∷ at) c =
    tested (test_of (lines_at text at)) (answer_of (lines_at text at)) (body_of (lines_at text at))
    (λ d. live_in d (behind (lines_at text at)) (after_at text at d)) c
after_at text (IntoBody ∷ at) c =
    live_in c (test_of (lines_at text at)) (tested (test_of (lines_at text at)) (answer_of (lines_at text at))
    (body_of (lines_at text at)) (λ d. live_in d (behind (lines_at text at)) (after_at text at d)) c)
