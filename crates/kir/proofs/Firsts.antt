-- The first line of lines, and whether it holds a barrier.
use Rattle.std.proofs.Common.{◌≡◌, ℕ, suc, ◌+◌, ◌<◌, List, ◌∷◌, length, get_or, drop, Global, refl, ap, sym, ◌∙◌}
use Rattle.std.proofs.Common.{arith, drop-cons}
use Rattle.std.specs.Prelude.{◌||◌}
use Rattle.std.specs.Prelude.{Bool as Test, true, false}
use Rattle.std.specs.declared.vec.Vec.{Vec}
use Rattle.kir.specs.declared.line.Atom.{Atom}
use Rattle.kir.specs.declared.line.Line.{Line}
use Rattle.kir.specs.declared.line.Line.TheVariants as line
use Rattle.kir.specs.Tree.{Lines, NoLine}
use Rattle.kir.specs.Listed.{line_before, lines_in, lines_of}
use Rattle.kir.specs.Cuts.{holds_barrier}
use Rattle.kir.proofs.Rows.{if_listed, loop_listed}

-- what is left of a list, from its first item on
pub first_left : {A : Type 0} (xs : List A) (i : ℕ) (x : A) → i < length xs → x ≡ get_or xs i x →
    drop i xs ≡ x ∷ drop (i + 1) xs
first_left xs i x h e =
    let one : suc i ≡ i + 1 = omega arith in
    drop-cons xs i x h ∙ ap (λ y. y ∷ drop (suc i) xs) (sym e) ∙ ap (λ j. x ∷ drop j xs) one

pub or_none : (b : Test) → (b || false) ≡ b
or_none true = refl
or_none false = refl

or_thrice : (a b c : Test) → (a || (b || c)) ≡ ((a || (b || false)) || c)
or_thrice true b c = refl
or_thrice false true c = refl
or_thrice false false c = refl

-- a barrier stands in the first line or behind it
pub holds_first : (l : Line) (rest : Lines) →
    holds_barrier (line_before l rest) ≡ (holds_barrier (line_before l NoLine) || holds_barrier rest)
holds_first (line.Set to w) rest = refl
holds_first (line.Load site to element root index) rest = refl
holds_first (line.Store site element root index from) rest = refl
holds_first (line.Clear array) rest = refl
holds_first (line.If' site test _ chosen _ other) rest =
    or_thrice (holds_barrier (lines_in chosen)) (holds_barrier (lines_in other)) (holds_barrier rest)
holds_first (line.Loop' site first _ test answer _ body) rest =
    or_thrice (holds_barrier (lines_in test)) (holds_barrier (lines_in body)) (holds_barrier rest)
holds_first (line.Barrier site) rest = refl

-- so it is for what is left of a list
pub holds_step : (ls : List Line) (i : ℕ) (l : Line) (b : Test) → i < length ls → l ≡ get_or ls i l →
    b ≡ holds_barrier (line_before l NoLine) → b ≡ false
    → holds_barrier (lines_of (drop i ls)) ≡ holds_barrier (lines_of ls) →
    holds_barrier (lines_of (drop (i + 1) ls)) ≡ holds_barrier (lines_of ls)
holds_step ls i l b lt is e none same =
    sym (ap (λ x. x || holds_barrier (lines_of (drop (i + 1) ls))) (sym e ∙ none))
    ∙ (sym (holds_first l (lines_of (drop (i + 1) ls))) ∙
    (sym (ap (λ x. holds_barrier (lines_of x)) (first_left ls i l lt is)) ∙ same))

pub holds_found : (ls : List Line) (i : ℕ) (l : Line) (b : Test) → i < length ls → l ≡ get_or ls i l →
    b ≡ holds_barrier (line_before l NoLine) → b ≡ true
    → holds_barrier (lines_of (drop i ls)) ≡ holds_barrier (lines_of ls) → true ≡ holds_barrier (lines_of ls)
holds_found ls i l b lt is e found same =
    sym (ap (λ x. x || holds_barrier (lines_of (drop (i + 1) ls))) (sym e ∙ found))
    ∙ (sym (holds_first l (lines_of (drop (i + 1) ls))) ∙
    (sym (ap (λ x. holds_barrier (lines_of x)) (first_left ls i l lt is)) ∙ same))

-- a line that holds a barrier in one of two parts
pub if_holds : (l : Line) (site : ℕ) (test : Atom) (chosen other : Vec Line Global) → l ≡ line.If site test chosen other
    → holds_barrier (line_before l NoLine) ≡
    (holds_barrier (lines_of chosen.items) || holds_barrier (lines_of other.items))
if_holds l site test chosen other e =
    ap (λ x. holds_barrier (line_before x NoLine)) e ∙ ap holds_barrier (if_listed site test chosen other NoLine)
    ∙ ap (λ x. holds_barrier (lines_of chosen.items) || x) (or_none (holds_barrier (lines_of other.items)))

pub loop_holds : (l : Line) (site : ℕ) (first : Test) (test : Vec Line Global) (answer : Atom)
    (body : Vec Line Global) → l ≡ line.Loop site first test answer body
    → holds_barrier (line_before l NoLine) ≡
    (holds_barrier (lines_of test.items) || holds_barrier (lines_of body.items))
loop_holds l site first test answer body e =
    ap (λ x. holds_barrier (line_before x NoLine)) e ∙ ap holds_barrier (loop_listed site first test answer body NoLine)
    ∙ ap (λ x. holds_barrier (lines_of test.items) || x) (or_none (holds_barrier (lines_of body.items)))

pub either_first : (a b : Test) (h : Test) → h ≡ (a || b) → a ≡ true → true ≡ h
either_first a b h e t = sym (e ∙ ap (λ x. x || b) t)

pub either_second : (a b : Test) (h : Test) → h ≡ (a || b) → a ≡ false → b ≡ h
either_second a b h e f = sym (e ∙ ap (λ x. x || b) f)
