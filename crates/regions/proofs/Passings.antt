-- What lines make of all cells at once.
use Rattle.std.proofs.Common.{◌≡◌, ℕ, ◌+◌, ◌-◌, ◌<◌, List, ◌∷◌, length, get_or, drop, ap, ap₂, sym, ◌∙◌, subst, arith}
use Rattle.std.proofs.Common.{Global}
use Rattle.std.specs.Prelude.{◌||◌}
use Rattle.std.specs.Prelude.{Bool as Test, true, false}
use Rattle.std.specs.declared.vec.Vec.{Vec}
use Rattle.kir.specs.declared.line.Atom.{Atom}
use Rattle.kir.specs.declared.line.Line.{Line}
use Rattle.kir.specs.declared.line.Line.TheVariants as line
use Rattle.kir.specs.Tree.{Lines, IfThen, LoopThen}
use Rattle.kir.specs.Listed.{line_before, lines_of}
use Rattle.kir.specs.Live.{reads, live_in}
use Rattle.kir.proofs.Rows.{if_listed, loop_listed}
use Rattle.regions.specs.Living.{Becomes, IsPassing, through, before_if, before_answer, before_loop}
use Rattle.kir.proofs.Firsts.{first_left}
use Rattle.regions.proofs.Sets.{set_becomes, set_as}

-- through lines of which it is said
pub through_is : (cells : ℕ) (L : Lines) (dead live : List Test) → IsPassing cells L dead live → (c : ℕ) → c < cells →
    (after : Test) → through dead live c after ≡ live_in c L after
through_is cells L dead live p c lt true = p.of_live.each c lt
through_is cells L dead live p c lt false = p.of_dead.each c lt

module _ (cells : ℕ) where
  before_if_is : (site : ℕ) (test : Atom) (C O rest : Lines) (yd yl nd nl : List Test) → IsPassing cells C yd yl →
      IsPassing cells O nd nl → (c : ℕ) → c < cells → (b : Test)
      → before_if test yd yl nd nl c (live_in c rest b) ≡ live_in c (IfThen site test C O rest) b
  before_if_is site test C O rest yd yl nd nl py pn c lt b =
      ap₂ (λ x y. reads c test || (x || y)) (through_is cells C yd yl py c lt (live_in c rest b))
      (through_is cells O nd nl pn c lt (live_in c rest b))

  pub passing_if : (l : Line) (site : ℕ) (test : Atom) (chosen other : Vec Line Global) (rest : Lines)
      (yd yl nd nl d l' d1 l1 : List Test) → l ≡ line.If site test chosen other →
      IsPassing cells (lines_of chosen.items) yd yl → IsPassing cells (lines_of other.items) nd nl
      → IsPassing cells rest d l' → Becomes d d1 (before_if test yd yl nd nl) →
      Becomes l' l1 (before_if test yd yl nd nl) → IsPassing cells (line_before l rest) d1 l1
  passing_if l site test chosen other rest yd yl nd nl d l' d1 l1 e py pn p bd bl =
      let P : Lines → Type 0 = λ L. IsPassing cells L d1 l1 in
      subst P (sym (ap (λ x. line_before x rest) e ∙ if_listed site test chosen other rest)) (record {
        of_dead = set_as cells d1 _ _ (λ c lt. before_if_is site test (lines_of chosen.items) (lines_of other.items)
            rest yd yl nd nl py pn c lt false) (set_becomes cells d d1 _ (before_if test yd yl nd nl) p.of_dead bd);
        of_live = set_as cells l1 _ _ (λ c lt. before_if_is site test (lines_of chosen.items) (lines_of other.items)
            rest yd yl nd nl py pn c lt true) (set_becomes cells l' l1 _ (before_if test yd yl nd nl) p.of_live bl);
      })

  pub before_answer_is : (answer : Atom) (T B : Lines) (td tl bd bl : List Test) → IsPassing cells T td tl →
      IsPassing cells B bd bl → (c : ℕ) → c < cells → (after : Test)
      → before_answer td answer bd bl c after ≡ (reads c answer || (after || live_in c B (live_in c T false)))
  before_answer_is answer T B td tl bd bl pt pb c lt after =
      ap (λ x. reads c answer || (after || x)) (ap (through bd bl c) (pt.of_dead.each c lt) ∙
      through_is cells B bd bl pb c lt (live_in c T false))

  before_loop_is : (site : ℕ) (first : Test) (answer : Atom) (T B rest : Lines) (td tl bd bl : List Test) →
      IsPassing cells T td tl → IsPassing cells B bd bl → (c : ℕ) → c < cells → (b : Test)
      → before_loop first td tl answer bd bl c (live_in c rest b) ≡ live_in c (LoopThen site first T answer B rest) b
  before_loop_is site true answer T B rest td tl bd bl pt pb c lt b =
      ap (through td tl c) (before_answer_is answer T B td tl bd bl pt pb c lt (live_in c rest b)) ∙
      through_is cells T td tl pt c lt _
  before_loop_is site false answer T B rest td tl bd bl pt pb c lt b =
      ap (through bd bl c) (ap (through td tl c) (before_answer_is answer T B td tl bd bl pt pb c lt
      (live_in c rest b)) ∙ through_is cells T td tl pt c lt _) ∙ through_is cells B bd bl pb c lt _

  pub passing_loop : (l : Line) (site : ℕ) (first : Test) (test : Vec Line Global) (answer : Atom)
      (body : Vec Line Global) (rest : Lines) (td tl bd bl d l' d1 l1 : List Test) →
      l ≡ line.Loop site first test answer body
      → IsPassing cells (lines_of test.items) td tl → IsPassing cells (lines_of body.items) bd bl
      → IsPassing cells rest d l' → (length td ≡ length d → Becomes d d1 (before_loop first td tl answer bd bl)) →
      (length td ≡ length l' → Becomes l' l1 (before_loop first td tl answer bd bl)) →
      IsPassing cells (line_before l rest) d1 l1
  passing_loop l site first test answer body rest td tl bd bl d l' d1 l1 e pt pb p b0 b1 =
      let P : Lines → Type 0 = λ L. IsPassing cells L d1 l1 in
      subst P (sym (ap (λ x. line_before x rest) e ∙ loop_listed site first test answer body rest)) (record {
        of_dead = set_as cells d1 _ _ (λ c lt. before_loop_is site first answer (lines_of test.items)
            (lines_of body.items) rest td tl bd bl pt pb c lt false)
            (set_becomes cells d d1 _ (before_loop first td tl answer bd bl) p.of_dead (b0 (pt.of_dead.count ∙
            sym p.of_dead.count)));
        of_live = set_as cells l1 _ _ (λ c lt. before_loop_is site first answer (lines_of test.items)
            (lines_of body.items) rest td tl bd bl pt pb c lt true)
            (set_becomes cells l' l1 _ (before_loop first td tl answer bd bl) p.of_live (b1 (pt.of_dead.count ∙
            sym p.of_live.count)));
      })

  -- the line before what is left of a list
  pub passing_step : (ls : List Line) (i : ℕ) (l : Line) (d l' d1 l1 : List Test) → 0 < i → i - 1 < length ls →
      l ≡ get_or ls (i - 1) l
      → ((rest : Lines) → IsPassing cells rest d l' → IsPassing cells (line_before l rest) d1 l1) →
      IsPassing cells (lines_of (drop i ls)) d l' → IsPassing cells (lines_of (drop (i - 1) ls)) d1 l1
  passing_step ls i l d l' d1 l1 pos lt is step p =
      let P : List Line → Type 0 = λ xs. IsPassing cells (lines_of xs) d1 l1 in
      let back : i - 1 + 1 ≡ i = omega arith in
      subst P (sym (first_left ls (i - 1) l lt is ∙ ap (λ n. l ∷ drop n ls) back)) (step (lines_of (drop i ls)) p)
