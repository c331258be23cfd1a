-- A list of lines with one line more, and copies of lines.
use Rattle.std.proofs.Common.{◌≡◌, ℕ, ◌+◌, ◌<◌, List, [], ◌∷◌, ◌++◌, length, get_or, drop, Global, ap, ap₂, sym, ◌∙◌}
use Rattle.std.specs.Prelude.{Bool as Test}
use Rattle.std.specs.declared.vec.Vec.{Vec}
use Rattle.kir.specs.declared.line.Atom.{Atom}
use Rattle.kir.specs.declared.line.Line.{Line}
use Rattle.kir.specs.declared.line.Line.TheVariants as line
use Rattle.kir.specs.Tree.{Lines, NoLine, IfThen, LoopThen, joined_to}
use Rattle.kir.specs.Listed.{line_before, lines_of}
use Rattle.kir.proofs.Firsts.{first_left}
use Rattle.kir.proofs.Rows.{if_listed, loop_listed, line_joined}

-- a list with one line more
one_more : (copied : List Line) (m : Line) (rest : Lines) →
    joined_to (lines_of (copied ++ m ∷ [])) rest ≡ joined_to (lines_of copied) (line_before m rest)
one_more [] m rest = line_joined m NoLine rest
one_more (l ∷ ls) m rest = line_joined l (lines_of (ls ++ m ∷ [])) rest ∙ ap (line_before l) (one_more ls m rest) ∙
    sym (line_joined l (lines_of ls) (line_before m rest))

pub added : (copied longer : List Line) (m : Line) → longer ≡ copied ++ m ∷ [] → (rest : Lines) →
    joined_to (lines_of longer) rest ≡ joined_to (lines_of copied) (line_before m rest)
added copied longer m e rest = ap (λ xs. joined_to (lines_of xs) rest) e ∙ one_more copied m rest

-- copies of lines, one more
pub copied_step : (copied longer : Lines) (ls : List Line) (i : ℕ) (l : Line) → i < length ls → l ≡ get_or ls i l →
    ((rest : Lines) → joined_to longer rest ≡ joined_to copied (line_before l rest))
    → joined_to copied (lines_of (drop i ls)) ≡ lines_of ls →
    joined_to longer (lines_of (drop (i + 1) ls)) ≡ lines_of ls
copied_step copied longer ls i l lt is onto same =
    onto (lines_of (drop (i + 1) ls)) ∙ ap (joined_to copied) (ap lines_of (sym (first_left ls i l lt is))) ∙ same

-- an if and a loop with copies of their parts
pub if_alike : (l : Line) (site : ℕ) (test : Atom) (chosen other chosen' other' : Vec Line Global) →
    l ≡ line.If site test chosen other → lines_of chosen'.items ≡ lines_of chosen.items →
    lines_of other'.items ≡ lines_of other.items
    → (rest : Lines) → line_before (line.If site test chosen' other') rest ≡ line_before l rest
if_alike l site test chosen other chosen' other' e ec eo rest =
    if_listed site test chosen' other' rest ∙ ap₂ (λ a b. IfThen site test a b rest) ec eo ∙
    sym (ap (λ x. line_before x rest) e ∙ if_listed site test chosen other rest)

pub loop_alike : (l : Line) (site : ℕ) (first : Test) (test : Vec Line Global) (answer : Atom)
    (body test' body' : Vec Line Global) → l ≡ line.Loop site first test answer body →
    lines_of test'.items ≡ lines_of test.items → lines_of body'.items ≡ lines_of body.items
    → (rest : Lines) → line_before (line.Loop site first test' answer body') rest ≡ line_before l rest
loop_alike l site first test answer body test' body' e et eb rest =
    loop_listed site first test' answer body' rest ∙ ap₂ (λ a b. LoopThen site first a answer b rest) et eb ∙
    sym (ap (λ x. line_before x rest) e ∙ loop_listed site first test answer body rest)
