-- Lines that are cut from their end.
use Rattle.std.proofs.Common.{◌≡◌, ℕ, suc, ◌+◌, ◌-◌, ◌<◌, ◌≤◌, List, [], ◌∷◌, length, get_or, take, drop, Option}
use Rattle.std.proofs.Common.{Some, None, refl, ap, ap₂, sym, ◌∙◌, subst, arith, cond, Global, add-zero}
use Rattle.std.specs.Prelude.{◌||◌, slice_index_or}
use Rattle.std.specs.Prelude.{Bool as Test, true, false}
use Rattle.std.specs.declared.vec.Vec.{Vec}
use Rattle.std.proofs.lemmas.List.{drop_all, take_all}
use Rattle.std.proofs.lemmas.Bool.{true≢false, false≢true}
use Rattle.kir.specs.declared.line.Atom.{Atom}
use Rattle.kir.specs.declared.line.Line.{Line}
use Rattle.kir.specs.declared.line.Line.TheVariants as line
use Rattle.kir.specs.Tree.{Lines, NoLine, SetThen, LoadThen, StoreThen, ClearThen, IfThen, LoopThen as LoopLine}
use Rattle.kir.specs.Tree.{BarrierThen}
use Rattle.kir.specs.Places.{Behind, IntoChosen, IntoOther, IntoTest, IntoBody, Place, Tasks, LinesAt, AnswerAt}
use Rattle.kir.specs.Listed.{line_before, lines_in, lines_of}
use Rattle.kir.specs.Live.{live_in, live_now, live_behind}
use Rattle.kir.specs.Cuts.{holds_barrier}
use Rattle.kir.proofs.Rows.{if_listed, loop_listed}
use Rattle.regions.specs.declared.splitting.Cut.{Cut}
use Rattle.regions.specs.declared.splitting.Ending.{Ending}
use Rattle.regions.specs.Tree.{RegionOf, Tree, NoRegion, RegionThen, VoteThen, LoopThen}
use Rattle.regions.specs.Split.{until_cut, live_from, region_to, cut_into}
use Rattle.regions.specs.Living.{those, those_of, IsSet, IsPassing, Becomes, through, answer_live}
use Rattle.regions.specs.Cutting.{region_with, stacked, ended_by, ended, cut_by, AreLiveAt}
use Rattle.kir.proofs.Firsts.{first_left, or_none}
use Rattle.regions.proofs.Sets.{set_becomes, set_as}
use Rattle.regions.proofs.Passings.{through_is}

-- ---- lists of those that are live

those_live_from : (k : Tasks) (set : List Test) (n : ℕ) →
    ((c : ℕ) → c < length set → slice_index_or set c false ≡ live_behind (n + c) k) →
    those n set ≡ live_from n (length set) k
those_live_from k [] n each = refl
those_live_from k (true ∷ set) n each =
    ap (λ l. n ∷ l) (those_live_from k set (suc n) (λ c lt. let e : n + suc c ≡ suc n + c = omega arith in
    each (suc c) (omega arith) ∙ ap (λ m. live_behind m k) e))
    ∙ ap (λ x. cond x (n ∷ live_from (suc n) (length set) k) (live_from (suc n) (length set) k))
    (each 0 (omega arith) ∙ ap (λ m. live_behind m k) (add-zero n))
those_live_from k (false ∷ set) n each =
    those_live_from k set (suc n) (λ c lt. let e : n + suc c ≡ suc n + c = omega arith in each (suc c) (omega arith) ∙
    ap (λ m. live_behind m k) e)
    ∙ ap (λ x. cond x (n ∷ live_from (suc n) (length set) k) (live_from (suc n) (length set) k))
    (each 0 (omega arith) ∙ ap (λ m. live_behind m k) (add-zero n))

-- those of a set that says it of each cell
pub those_live : (cells : ℕ) (set : List Test) (k : Tasks) → IsSet cells set (λ c. live_behind c k) →
    those_of cells set ≡ live_from 0 cells k
those_live cells set k is =
    ap (those 0) (take_all cells set (let q = is.count in omega (arith, q)))
    ∙ those_live_from k set 0 (λ c lt. let e : c ≡ 0 + c = omega arith in
    is.each c (let q = is.count in omega (arith, q, lt)) ∙ ap (λ m. live_behind m k) e)
    ∙ ap (λ n. live_from 0 n k) is.count

-- ---- one line

-- a line that holds no barrier
pub quiet_until : (l : Line) (rest : Lines) → holds_barrier (line_before l NoLine) ≡ false →
    until_cut (line_before l rest) ≡ line_before l (until_cut rest)
quiet_until (line.Set to w) rest e = refl
quiet_until (line.Load site to element root index) rest e = refl
quiet_until (line.Store site element root index from) rest e = refl
quiet_until (line.Clear array) rest e = refl
quiet_until (line.If' site test _ chosen _ other) rest e =
    let h : (holds_barrier (lines_in chosen) || holds_barrier (lines_in other)) ≡ false =
    sym (ap (λ x. holds_barrier (lines_in chosen) || x) (or_none (holds_barrier (lines_in other)))) ∙ e in
    ap (λ x. cond x NoLine (IfThen site test (lines_in chosen) (lines_in other) (until_cut rest))) h
quiet_until (line.Loop' site first _ test answer _ body) rest e =
    let h : (holds_barrier (lines_in test) || holds_barrier (lines_in body)) ≡ false =
    sym (ap (λ x. holds_barrier (lines_in test) || x) (or_none (holds_barrier (lines_in body)))) ∙ e in
    ap (λ x. cond x NoLine (LoopLine site first (lines_in test) answer (lines_in body) (until_cut rest))) h
quiet_until (line.Barrier site) rest e = absurd (true≢false e)

-- what is made of an if that holds a barrier
abbrev vote_at : (cells : ℕ) → Option Atom → Lines → Place → ℕ → Atom → (chosen other rest : Lines) → Tasks → Tree
vote_at cells ends first at site test chosen other rest k =
    VoteThen (region_to cells first (Some test) (LinesAt at (IfThen site test chosen other rest) k))
    (cut_into cells None (until_cut chosen) (IntoChosen ∷ at) chosen (LinesAt (Behind ∷ at) rest k))
    (cut_into cells None (until_cut other) (IntoOther ∷ at) other (LinesAt (Behind ∷ at) rest k))
    (region_to cells (IfThen site test chosen other NoLine) None (LinesAt (Behind ∷ at) rest k))
    (cut_into cells ends (until_cut rest) (Behind ∷ at) rest k)

-- and of a loop
abbrev round_at : (cells : ℕ) → Option Atom → Lines → Place → ℕ → Test → (test : Lines) → Atom → (body rest : Lines) →
    Tasks → Tree
round_at cells ends first at site test_first test answer body rest k =
    RegionThen (region_to cells first None (LinesAt at (LoopLine site test_first test answer body rest) k))
    (LoopThen test_first
    (cut_into cells (Some answer) (until_cut test) (IntoTest ∷ at) test
    (AnswerAt at test answer body 0 (LinesAt (Behind ∷ at) rest k)))
    (cut_into cells None (until_cut body) (IntoBody ∷ at) body
    (LinesAt (IntoTest ∷ at) test (AnswerAt at test answer body 0 (LinesAt (Behind ∷ at) rest k))))
    (record {
      lines = LoopLine site test_first test answer body NoLine;
      answer = None;
      from_vote = true;
      live = live_from 0 cells (LinesAt (Behind ∷ at) rest k);
    })
    (cut_into cells ends (until_cut rest) (Behind ∷ at) rest k))

pub quiet_cut : (cells : ℕ) (ends : Option Atom) (first : Lines) (at : Place) (l : Line) (rest : Lines) (k : Tasks) →
    holds_barrier (line_before l NoLine) ≡ false
    → cut_into cells ends first at (line_before l rest) k ≡ cut_into cells ends first (Behind ∷ at) rest k
quiet_cut cells ends first at (line.Set to w) rest k e = refl
quiet_cut cells ends first at (line.Load site to element root index) rest k e = refl
quiet_cut cells ends first at (line.Store site element root index from) rest k e = refl
quiet_cut cells ends first at (line.Clear array) rest k e = refl
quiet_cut cells ends first at (line.If' site test _ chosen _ other) rest k e =
    let h : (holds_barrier (lines_in chosen) || holds_barrier (lines_in other)) ≡ false =
    sym (ap (λ x. holds_barrier (lines_in chosen) || x) (or_none (holds_barrier (lines_in other)))) ∙ e in
    ap (λ x. cond x (vote_at cells ends first at site test (lines_in chosen) (lines_in other) rest k)
    (cut_into cells ends first (Behind ∷ at) rest k)) h
quiet_cut cells ends first at (line.Loop' site tf _ test answer _ body) rest k e =
    let h : (holds_barrier (lines_in test) || holds_barrier (lines_in body)) ≡ false =
    sym (ap (λ x. holds_barrier (lines_in test) || x) (or_none (holds_barrier (lines_in body)))) ∙ e in
    ap (λ x. cond x (round_at cells ends first at site tf (lines_in test) answer (lines_in body) rest k)
    (cut_into cells ends first (Behind ∷ at) rest k)) h
quiet_cut cells ends first at (line.Barrier site) rest k e = absurd (true≢false e)

-- a line that holds one
pub held_until : (l : Line) (rest : Lines) → holds_barrier (line_before l NoLine) ≡ true →
    until_cut (line_before l rest) ≡ NoLine
held_until (line.Set to w) rest e = absurd (false≢true e)
held_until (line.Load site to element root index) rest e = absurd (false≢true e)
held_until (line.Store site element root index from) rest e = absurd (false≢true e)
held_until (line.Clear array) rest e = absurd (false≢true e)
held_until (line.If' site test _ chosen _ other) rest e =
    let h : (holds_barrier (lines_in chosen) || holds_barrier (lines_in other)) ≡ true =
    sym (ap (λ x. holds_barrier (lines_in chosen) || x) (or_none (holds_barrier (lines_in other)))) ∙ e in
    ap (λ x. cond x NoLine (IfThen site test (lines_in chosen) (lines_in other) (until_cut rest))) h
held_until (line.Loop' site first _ test answer _ body) rest e =
    let h : (holds_barrier (lines_in test) || holds_barrier (lines_in body)) ≡ true =
    sym (ap (λ x. holds_barrier (lines_in test) || x) (or_none (holds_barrier (lines_in body)))) ∙ e in
    ap (λ x. cond x NoLine (LoopLine site first (lines_in test) answer (lines_in body) (until_cut rest))) h
held_until (line.Barrier site) rest e = refl

-- ---- lines without a barrier

or_first : (a b : Test) → (a || b) ≡ false → a ≡ false
or_first true b e = absurd (true≢false e)
or_first false b e = refl

or_second : (a b : Test) → (a || b) ≡ false → b ≡ false
or_second true b e = absurd (true≢false e)
or_second false b e = e

both_none : (a b c : Test) → (a || (b || c)) ≡ false → (a || b) ≡ false
both_none a b c e = ap₂ (λ x y. x || y) (or_first a (b || c) e) (or_first b c (or_second a (b || c) e))

pub whole_until : (L : Lines) → holds_barrier L ≡ false → until_cut L ≡ L
whole_until NoLine e = refl
whole_until (SetThen to work rest) e = ap (SetThen to work) (whole_until rest e)
whole_until (LoadThen site to element root index rest) e = ap (LoadThen site to element root index) (whole_until rest e)
whole_until (StoreThen site element root index from rest) e =
    ap (StoreThen site element root index from) (whole_until rest e)
whole_until (ClearThen array rest) e = ap (ClearThen array) (whole_until rest e)
whole_until (IfThen site test chosen other rest) e =
    ap (λ x. cond x NoLine (IfThen site test chosen other (until_cut rest)))
    (both_none (holds_barrier chosen) (holds_barrier other) (holds_barrier rest) e)
    ∙ ap (IfThen site test chosen other)
    (whole_until rest (or_second (holds_barrier other) (holds_barrier rest)
    (or_second (holds_barrier chosen) (holds_barrier other || holds_barrier rest) e)))
whole_until (LoopLine site first test answer body rest) e =
    ap (λ x. cond x NoLine (LoopLine site first test answer body (until_cut rest)))
    (both_none (holds_barrier test) (holds_barrier body) (holds_barrier rest) e)
    ∙ ap (LoopLine site first test answer body)
    (whole_until rest (or_second (holds_barrier body) (holds_barrier rest)
    (or_second (holds_barrier test) (holds_barrier body || holds_barrier rest) e)))
whole_until (BarrierThen site rest) e = absurd (true≢false e)

pub whole_cut : (cells : ℕ) (ends : Option Atom) (first : Lines) (at : Place) (L : Lines) (k : Tasks) →
    holds_barrier L ≡ false → cut_into cells ends first at L k ≡ RegionThen (region_to cells first ends k) NoRegion
whole_cut cells ends first at NoLine k e = refl
whole_cut cells ends first at (SetThen to work rest) k e = whole_cut cells ends first (Behind ∷ at) rest k e
whole_cut cells ends first at (LoadThen site to element root index rest) k e =
    whole_cut cells ends first (Behind ∷ at) rest k e
whole_cut cells ends first at (StoreThen site element root index from rest) k e =
    whole_cut cells ends first (Behind ∷ at) rest k e
whole_cut cells ends first at (ClearThen array rest) k e = whole_cut cells ends first (Behind ∷ at) rest k e
whole_cut cells ends first at (IfThen site test chosen other rest) k e =
    ap (λ x. cond x (vote_at cells ends first at site test chosen other rest k)
    (cut_into cells ends first (Behind ∷ at) rest k)) (both_none (holds_barrier chosen) (holds_barrier other)
    (holds_barrier rest) e)
    ∙ whole_cut cells ends first (Behind ∷ at) rest k (or_second (holds_barrier other) (holds_barrier rest)
    (or_second (holds_barrier chosen) (holds_barrier other || holds_barrier rest) e))
whole_cut cells ends first at (LoopLine site tf test answer body rest) k e =
    ap (λ x. cond x (round_at cells ends first at site tf test answer body rest k)
    (cut_into cells ends first (Behind ∷ at) rest k)) (both_none (holds_barrier test) (holds_barrier body)
    (holds_barrier rest) e)
    ∙ whole_cut cells ends first (Behind ∷ at) rest k (or_second (holds_barrier body) (holds_barrier rest)
    (or_second (holds_barrier test) (holds_barrier body || holds_barrier rest) e))
whole_cut cells ends first at (BarrierThen site rest) k e = absurd (true≢false e)

-- such lines are one region
pub whole_region : (cells : ℕ) (ends : Option Atom) (at : Place) (L : Lines) (k : Tasks) (behind : List Test)
    (list : List ℕ) (region : RegionOf) → holds_barrier L ≡ false → IsSet cells behind (λ c. live_behind c k)
    → list ≡ those_of cells behind → region ≡ region_with L ends list →
    RegionThen region NoRegion ≡ cut_into cells ends (until_cut L) at L k
whole_region cells ends at L k behind list region quiet is listed e =
    ap (λ r. RegionThen r NoRegion) (e ∙ ap (region_with L ends) (listed ∙ those_live cells behind k is))
    ∙ (sym (whole_cut cells ends L at L k quiet) ∙
    ap (λ first. cut_into cells ends first at L k) (sym (whole_until L quiet)))

-- ---- the walk

-- the lines from a number on are cut, and those before it are to be
pub record Walked (cells : ℕ) (ends : Option Atom) (now behind : List Test) (lines : List Line) (i : ℕ)
    (ending : Ending) (dead live : List Test) : Type 0 where
  pub within : i ≤ length lines
  pub before : i ≤ ending.end
  pub inside : ending.end ≤ length lines
  pub passing : IsPassing cells (lines_of (drop i lines)) dead live
  pub quiet : lines_of (take (ending.end - i) (drop i lines)) ≡ until_cut (lines_of (drop i lines))
  pub same : (first : Lines) (at : Place) (k : Tasks) → AreLiveAt cells now behind k →
      cut_into cells ends first at (lines_of (drop i lines)) k ≡ ended first ending

module _ (cells : ℕ) (ends : Option Atom) (now behind : List Test) (lines : List Line) where
  pub walked_start : (e : Ending) (dead live : List Test) → e.end ≡ length lines → e.answer ≡ ends →
      e.live.items ≡ those_of cells behind → e.choice ≡ None → e.behind.items ≡ [] → IsPassing cells NoLine dead live
      → Walked cells ends now behind lines (length lines) e dead live
  walked_start e dead live at_end answer listed none nothing p =
      let gone : drop (length lines) lines ≡ [] = drop_all (length lines) lines (omega arith) in
      let empty : e.end - length lines ≡ 0 = omega (arith, at_end) in
      let P : List Line → Type 0 = λ xs. IsPassing cells (lines_of xs) dead live in
      record {
        within = omega arith;
        before = omega (arith, at_end);
        inside = omega (arith, at_end);
        passing = subst P (sym gone) p;
        quiet = ap₂ (λ n xs. lines_of (take n xs)) empty gone ∙ sym (ap (λ xs. until_cut (lines_of xs)) gone);
        same =
            λ first at k is.
            ap (λ xs. cut_into cells ends first at (lines_of xs) k) gone
            ∙ (ap (λ l. RegionThen (region_with first ends l) NoRegion) (sym (listed ∙
            those_live cells behind k is.there))
            ∙ (ap (λ xs. RegionThen (region_with first ends e.live.items) (stacked xs NoRegion)) (sym nothing)
            ∙ (ap (λ a. RegionThen (region_with first a e.live.items) (stacked e.behind.items NoRegion)) (sym answer)
            ∙ ap (λ o. ended_by o first e.answer e.live.items (stacked e.behind.items NoRegion)) (sym none))));
      }

  pub walked_at : (i : ℕ) (e : Ending) (dead live : List Test) → 0 < i →
      Walked cells ends now behind lines i e dead live → Walked cells ends now behind lines (i - 1 + 1) e dead live
  walked_at i e dead live pos w =
      let P : ℕ → Type 0 = λ n. Walked cells ends now behind lines n e dead live in
      let back : i ≡ i - 1 + 1 = omega arith in
      subst P back w

  -- a line that holds no barrier
  pub walked_quiet : (j : ℕ) (l : Line) (e : Ending) (dead live d1 l1 : List Test) →
      Walked cells ends now behind lines (j + 1) e dead live → j < length lines → l ≡ get_or lines j l →
      holds_barrier (line_before l NoLine) ≡ false
      → ((rest : Lines) → IsPassing cells rest dead live → IsPassing cells (line_before l rest) d1 l1) →
      Walked cells ends now behind lines j e d1 l1
  walked_quiet j l e dead live d1 l1 w lt is none step =
      let here : drop j lines ≡ l ∷ drop (j + 1) lines = first_left lines j l lt is in
      let P : List Line → Type 0 = λ xs. IsPassing cells (lines_of xs) d1 l1 in
      let in_front : j + 1 ≤ e.end = w.before in
      let one : e.end - j ≡ suc (e.end - (j + 1)) = omega arith in
      record {
        within = omega arith;
        before = omega arith;
        inside = w.inside;
        passing = subst P (sym here) (step (lines_of (drop (j + 1) lines)) w.passing);
        quiet =
            ap₂ (λ n xs. lines_of (take n xs)) one here
            ∙ (ap (line_before l) w.quiet ∙ (sym (quiet_until l (lines_of (drop (j + 1) lines)) none) ∙
            sym (ap (λ xs. until_cut (lines_of xs)) here)));
        same =
            λ first at k live_at.
            ap (λ xs. cut_into cells ends first at (lines_of xs) k) here
            ∙ (quiet_cut cells ends first at l (lines_of (drop (j + 1) lines)) k none ∙
            w.same first (Behind ∷ at) k live_at);
      }

  -- a set through lines
  through_set : (L : Lines) (dead live after : List Test) (f : ℕ → Test) → IsPassing cells L dead live →
      Becomes now after (through dead live) → IsSet cells now f → IsSet cells after (λ c. live_in c L (f c))
  through_set L dead live after f p b is =
      set_as cells after _ _ (λ c lt. through_is cells L dead live p c lt (f c))
      (set_becomes cells now after f (through dead live) is b)

  -- a line that is a barrier or holds one
  pub walked_cut : (j : ℕ) (l : Line) (e e' : Ending) (dead live d1 l1 after here : List Test) (cut : Cut) →
      Walked cells ends now behind lines (j + 1) e dead live → j < length lines → l ≡ get_or lines j l →
      holds_barrier (line_before l NoLine) ≡ true
      → ((rest : Lines) → IsPassing cells rest dead live → IsPassing cells (line_before l rest) d1 l1)
      → Becomes now after (through dead live) → Becomes now here (through d1 l1)
      → ((ends : Option Atom) (first : Lines) (at : Place) (rest : Lines) (k : Tasks) →
      IsSet cells after (λ c. live_in c rest (live_now c k))
      → cut_into cells ends first at (line_before l rest) k ≡
      cut_by cut first (live_from 0 cells (LinesAt at (line_before l rest) k))
      (cut_into cells ends (until_cut rest) (Behind ∷ at) rest k))
      → e'.end ≡ j → ((first : Lines) →
      ended first e' ≡ cut_by cut first (those_of cells here)
      (ended (lines_of (take (e.end - (j + 1)) (drop (j + 1) lines))) e))
      → Walked cells ends now behind lines j e' d1 l1
  walked_cut j l e e' dead live d1 l1 after here cut w lt is holds step b_after b_here cuts at_end closes =
      let front : drop j lines ≡ l ∷ drop (j + 1) lines = first_left lines j l lt is in
      let D = lines_of (drop (j + 1) lines) in
      let P : List Line → Type 0 = λ xs. IsPassing cells (lines_of xs) d1 l1 in
      let empty : e'.end - j ≡ 0 = omega (arith, at_end) in
      let p1 : IsPassing cells (line_before l D) d1 l1 = step D w.passing in
      record {
        within = omega arith;
        before = omega (arith, at_end);
        inside = omega (arith, at_end);
        passing = subst P (sym front) p1;
        quiet = ap₂ (λ n xs. lines_of (take n xs)) empty front ∙
            (sym (held_until l D holds) ∙ sym (ap (λ xs. until_cut (lines_of xs)) front));
        same =
            λ first at k live_at.
            ap (λ xs. cut_into cells ends first at (lines_of xs) k) front
            ∙ (cuts ends first at D k (through_set D dead live after (λ c. live_now c k) w.passing b_after
            live_at.before)
            ∙ (ap₂ (cut_by cut first)
            (sym (those_live cells here (LinesAt at (line_before l D) k)
            (through_set (line_before l D) d1 l1 here (λ c. live_now c k) p1 b_here live_at.before)))
            (w.same (until_cut D) (Behind ∷ at) k live_at ∙ ap (λ x. ended x e) (sym w.quiet))
            ∙ sym (closes first)));
      }

  -- all of them
  pub walked_end : (i : ℕ) (e : Ending) (dead live : List Test) (at : Place) (k : Tasks) →
      Walked cells ends now behind lines i e dead live → i ≤ 0 → AreLiveAt cells now behind k
      → ended (lines_of (take (e.end - 0) (drop 0 lines))) e ≡ cut_into cells ends (until_cut (lines_of lines)) at
      (lines_of lines) k
  walked_end i e dead live at k w none is =
      let zero_is : i ≡ 0 = omega arith in
      let P : ℕ → Type 0 = λ n. Walked cells ends now behind lines n e dead live in
      let v : Walked cells ends now behind lines 0 e dead live = subst P zero_is w in
      sym (v.same (lines_of (take (e.end - 0) (drop 0 lines))) at k is) ∙
      ap (λ x. cut_into cells ends x at (lines_of lines) k) v.quiet

-- ---- what becomes of a line

module _ (cells : ℕ) (after : List Test) where
  -- an if
  pub cut_if : (l : Line) (site : ℕ) (test : Atom) (chosen other : Vec Line Global) (yes_tree no_tree : Tree)
      (mixed : RegionOf) → l ≡ line.If site test chosen other → holds_barrier (line_before l NoLine) ≡ true
      → ((at : Place) (k : Tasks) → AreLiveAt cells after after k →
      yes_tree ≡ cut_into cells None (until_cut (lines_of chosen.items)) at (lines_of chosen.items) k)
      → ((at : Place) (k : Tasks) → AreLiveAt cells after after k →
      no_tree ≡ cut_into cells None (until_cut (lines_of other.items)) at (lines_of other.items) k)
      → mixed ≡ record { lines = line_before l NoLine; answer = None; from_vote = false; live = those_of cells after }
      → (ends : Option Atom) (first : Lines) (at : Place) (rest : Lines) (k : Tasks) →
      IsSet cells after (λ c. live_in c rest (live_now c k))
      → cut_into cells ends first at (line_before l rest) k ≡
      VoteThen (region_with first (Some test) (live_from 0 cells (LinesAt at (line_before l rest) k))) yes_tree
      no_tree mixed (cut_into cells ends (until_cut rest) (Behind ∷ at) rest k)
  cut_if l site test chosen other yes_tree no_tree mixed e holds yes_is no_is mixed_is ends first at rest k is =
      let C = lines_of chosen.items in
      let O = lines_of other.items in
      let K : Tasks = LinesAt (Behind ∷ at) rest k in
      let whole : (R : Lines) → line_before l R ≡ IfThen site test C O R =
      λ R. ap (λ x. line_before x R) e ∙ if_listed site test chosen other R in
      let h : (holds_barrier C || holds_barrier O) ≡ true =
      sym (ap (λ x. holds_barrier C || x) (or_none (holds_barrier O))) ∙
      (sym (ap holds_barrier (whole NoLine)) ∙ holds) in
      let live_at : AreLiveAt cells after after K = record { before = is; there = is } in
      let P : Lines → Type 0 = λ X. cut_into cells ends first at X k ≡
      VoteThen (region_with first (Some test) (live_from 0 cells (LinesAt at X k))) yes_tree no_tree mixed
      (cut_into cells ends (until_cut rest) (Behind ∷ at) rest k) in
      let first_region : RegionOf = region_to cells first (Some test) (LinesAt at (IfThen site test C O rest) k) in
      let behind : Tree = cut_into cells ends (until_cut rest) (Behind ∷ at) rest k in
      let mixed_to : mixed ≡ region_to cells (IfThen site test C O NoLine) None K =
      mixed_is ∙ ap₂ (λ L l0. let r : RegionOf = record { lines = L; answer = None; from_vote = false; live = l0 } in
      r) (whole NoLine) (those_live cells after K is) in
      subst P (sym (whole rest))
      (ap (λ x. cond x (vote_at cells ends first at site test C O rest k)
      (cut_into cells ends first (Behind ∷ at) rest k)) h
      ∙ (ap (λ y. VoteThen first_region y (cut_into cells None (until_cut O) (IntoOther ∷ at) O K)
      (region_to cells (IfThen site test C O NoLine) None K) behind) (sym (yes_is (IntoChosen ∷ at) K live_at))
      ∙ (ap (λ n. VoteThen first_region yes_tree n (region_to cells (IfThen site test C O NoLine) None K) behind)
      (sym (no_is (IntoOther ∷ at) K live_at))
      ∙ ap (λ m. VoteThen first_region yes_tree no_tree m behind) (sym mixed_to))))

  -- a loop
  pub cut_loop : (l : Line) (site : ℕ) (tf : Test) (test : Vec Line Global) (answer : Atom) (body : Vec Line Global)
      (test_tree body_tree : Tree) (others : RegionOf) (before_test at_answer behind_answer : List Test)
      → l ≡ line.Loop site tf test answer body → holds_barrier (line_before l NoLine) ≡ true
      → ((f : ℕ → Test) → IsSet cells after f →
      IsSet cells at_answer (answer_live (lines_of test.items) answer (lines_of body.items) f))
      → ((f : ℕ → Test) → IsSet cells after f →
      IsSet cells before_test (λ c. live_in c (lines_of test.items)
      (answer_live (lines_of test.items) answer (lines_of body.items) f c)))
      → ((f : ℕ → Test) → IsSet cells after f →
      IsSet cells behind_answer (λ c. f c ||
      live_in c (lines_of body.items)
      (live_in c (lines_of test.items) (answer_live (lines_of test.items) answer (lines_of body.items) f c))))
      → ((at : Place) (k : Tasks) → AreLiveAt cells at_answer behind_answer k →
      test_tree ≡ cut_into cells (Some answer) (until_cut (lines_of test.items)) at (lines_of test.items) k)
      → ((at : Place) (k : Tasks) → AreLiveAt cells before_test before_test k →
      body_tree ≡ cut_into cells None (until_cut (lines_of body.items)) at (lines_of body.items) k)
      → others ≡ record { lines = line_before l NoLine; answer = None; from_vote = true; live = those_of cells after }
      → (ends : Option Atom) (first : Lines) (at : Place) (rest : Lines) (k : Tasks) →
      IsSet cells after (λ c. live_in c rest (live_now c k))
      → cut_into cells ends first at (line_before l rest) k
      ≡ RegionThen (region_with first None (live_from 0 cells (LinesAt at (line_before l rest) k)))
      (LoopThen tf test_tree body_tree others (cut_into cells ends (until_cut rest) (Behind ∷ at) rest k))
  cut_loop l site tf test answer body test_tree body_tree others before_test at_answer behind_answer e holds at_is
      before_is behind_is test_is body_is others_is ends first at rest k is =
      let T = lines_of test.items in
      let B = lines_of body.items in
      let K : Tasks = LinesAt (Behind ∷ at) rest k in
      let A : Tasks = AnswerAt at T answer B 0 K in
      let whole : (R : Lines) → line_before l R ≡ LoopLine site tf T answer B R =
      λ R. ap (λ x. line_before x R) e ∙ loop_listed site tf test answer body R in
      let h : (holds_barrier T || holds_barrier B) ≡ true =
      sym (ap (λ x. holds_barrier T || x) (or_none (holds_barrier B))) ∙
      (sym (ap holds_barrier (whole NoLine)) ∙ holds) in
      let P : Lines → Type 0 = λ X. cut_into cells ends first at X k
      ≡ RegionThen (region_with first None (live_from 0 cells (LinesAt at X k)))
      (LoopThen tf test_tree body_tree others (cut_into cells ends (until_cut rest) (Behind ∷ at) rest k)) in
      let first_region : RegionOf = region_to cells first None (LinesAt at (LoopLine site tf T answer B rest) k) in
      let behind : Tree = cut_into cells ends (until_cut rest) (Behind ∷ at) rest k in
      let twin_region : RegionOf = record {
        lines = LoopLine site tf T answer B NoLine;
        answer = None;
        from_vote = true;
        live = live_from 0 cells K;
      } in
      let f : ℕ → Test = λ c. live_now c K in
      let others_to : others ≡ twin_region =
      others_is ∙ ap₂ (λ L l0. let r : RegionOf = record {
        lines = L;
        answer = None;
        from_vote = true;
        live = l0;
      } in r) (whole NoLine) (those_live cells after K is) in
      let test_live : AreLiveAt cells at_answer behind_answer A =
      record { before = at_is f is; there = behind_is f is } in
      let body_live : AreLiveAt cells before_test before_test (LinesAt (IntoTest ∷ at) T A) =
      record { before = before_is f is; there = before_is f is } in
      subst P (sym (whole rest))
      (ap (λ x. cond x (round_at cells ends first at site tf T answer B rest k)
      (cut_into cells ends first (Behind ∷ at) rest k)) h
      ∙ ap (RegionThen first_region)
      (ap (λ y. LoopThen tf y (cut_into cells None (until_cut B) (IntoBody ∷ at) B (LinesAt (IntoTest ∷ at) T A))
      twin_region behind) (sym (test_is (IntoTest ∷ at) A test_live))
      ∙ (ap (λ n. LoopThen tf test_tree n twin_region behind)
      (sym (body_is (IntoBody ∷ at) (LinesAt (IntoTest ∷ at) T A) body_live))
      ∙ ap (λ m. LoopThen tf test_tree body_tree m behind) (sym others_to))))
