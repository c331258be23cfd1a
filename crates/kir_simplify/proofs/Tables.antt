-- Lists that say something of each cell, and what lines read.
use Rattle.std.proofs.Common.{◌≡◌, ℕ, suc, ◌+◌, ◌<◌, ◌≤◌, List, [], ◌∷◌, ◌++◌, append_assoc, length, get_or, map}
use Rattle.std.proofs.Common.{zero, drop, refl, ap, sym, ◌∙◌, arith, Global, inl, inr, slice_get}
use Rattle.std.specs.Prelude.{◌||◌, ◌&&◌, not}
use Rattle.std.specs.Prelude.{Bool as Test, true, false}
use Rattle.std.specs.declared.vec.Vec.{Vec}
use Rattle.std.proofs.lemmas.List.{drop_all, append-nil, get_or_past}
use Rattle.std.proofs.lemmas.Bool.{cases_lt}
use Rattle.kir.specs.declared.line.Atom.{Atom}
use Rattle.kir.specs.declared.line.Line.{Line}
use Rattle.kir.specs.declared.line.Line.TheVariants as line
use Rattle.kir.specs.declared.kernel.Cell.{Cell}
use Rattle.kir.specs.Tree.{Lines, NoLine}
use Rattle.kir.specs.Tree as tree
use Rattle.kir.specs.Listed.{line_before, lines_in, lines_of, work_of, cell_of, kind_of}
use Rattle.kir.specs.Live.{reads, some_reads, work_reads}
use Rattle.kir.proofs.Firsts.{first_left}
use Rattle.kir.proofs.Rows.{if_listed, loop_listed}
use Rattle.kir_simplify.specs.Reading.{reads_in}
use Rattle.kir_simplify.specs.Simple.{is_value_kind, is_value_of}
use Rattle.kir_simplify.specs.Tables.{Becomes, values_among}

-- ---- atoms and lines of which some are still to be cleared

clear_swap : (p q x : Test) → (not q && (not p && x)) ≡ (not (p || q) && x)
clear_swap true true x = refl
clear_swap true false x = refl
clear_swap false true x = refl
clear_swap false false x = refl

-- the entries where what is left to do is done, are those where all is
pub record Halfway (old new : List Test) (left all : ℕ → Test) : Type 0 where
  pub count : length new ≡ length old
  pub each : (c : ℕ) → c < length old → (not (left c) && get_or new c false) ≡ (not (all c) && get_or old c false)

pub clears_start : (old : List Test) (all : ℕ → Test) → Halfway old old all all
clears_start old all = record { count = refl; each = λ c small. refl }

clears_on : (old mid new : List Test) (first left more all : ℕ → Test) → ((c : ℕ) → more c ≡ (first c || left c)) →
    Halfway old mid more all → Becomes mid new (λ c entry. not (first c) && entry) → Halfway old new left all
clears_on old mid new first left more all e m b = record {
  count = b.count ∙ m.count;
  each =
      λ c small.
      ap (λ x. not (left c) && x) (b.each c (let n = m.count in omega (arith, n)))
      ∙ (clear_swap (first c) (left c) (get_or mid c false)
      ∙ (ap (λ x. not x && get_or mid c false) (sym (e c)) ∙ m.each c small));
}

pub atoms_step : (old mid new : List Test) (all : List Atom) (i : ℕ) (a : Atom) → i < length all →
    a ≡ get_or all i a → Halfway old mid (λ c. some_reads c (drop i all)) (λ c. some_reads c all) →
    Becomes mid new (λ c entry. not (reads c a) && entry) →
    Halfway old new (λ c. some_reads c (drop (i + 1) all)) (λ c. some_reads c all)
atoms_step old mid new all i a lt is m b =
    clears_on old mid new (λ c. reads c a) (λ c. some_reads c (drop (i + 1) all)) (λ c. some_reads c (drop i all))
    (λ c. some_reads c all) (λ c. ap (some_reads c) (first_left all i a lt is)) m b

pub atoms_end : (old new : List Test) (all : List Atom) (i : ℕ) → length all ≤ i →
    Halfway old new (λ c. some_reads c (drop i all)) (λ c. some_reads c all) →
    Becomes old new (λ c entry. not (some_reads c all) && entry)
atoms_end old new all i done m =
    record {
      count = m.count;
      each = λ c small. ap (λ xs. not (some_reads c xs) && get_or new c false)
          (sym (drop_all i all done)) ∙ m.each c small;
    }

or_none : (b : Test) → (b || false) ≡ b
or_none true = refl
or_none false = refl

or_thrice : (t a b c : Test) → (t || (a || (b || c))) ≡ ((t || (a || (b || false))) || c)
or_thrice true a b c = refl
or_thrice false true b c = refl
or_thrice false false true c = refl
or_thrice false false false c = refl

or_once : (a c : Test) → (a || c) ≡ ((a || false) || c)
or_once true c = refl
or_once false c = refl

-- the first line reads it, or those behind do
pub reads_first : (c : ℕ) (l : Line) (rest : Lines) →
    reads_in c (line_before l rest) ≡ (reads_in c (line_before l NoLine) || reads_in c rest)
reads_first c (line.Set to w) rest = or_once (work_reads c (work_of w)) (reads_in c rest)
reads_first c (line.Load site to element root index) rest = or_once (reads c index) (reads_in c rest)
reads_first c (line.Store site element root index from) rest = or_once (reads c index || reads c from) (reads_in c rest)
reads_first c (line.Clear array) rest = refl
reads_first c (line.If' site test _ chosen _ other) rest =
    or_thrice (reads c test) (reads_in c (lines_in chosen)) (reads_in c (lines_in other)) (reads_in c rest)
reads_first c (line.Loop' site first _ test answer _ body) rest =
    or_thrice (reads_in c (lines_in test)) (reads c answer) (reads_in c (lines_in body)) (reads_in c rest)
reads_first c (line.Barrier site) rest = refl

pub lines_step : (old mid new : List Test) (all : List Line) (i : ℕ) (l : Line) → i < length all →
    l ≡ get_or all i l → Halfway old mid (λ c. reads_in c (lines_of (drop i all))) (λ c. reads_in c (lines_of all)) →
    Becomes mid new (λ c entry. not (reads_in c (line_before l NoLine)) && entry) →
    Halfway old new (λ c. reads_in c (lines_of (drop (i + 1) all))) (λ c. reads_in c (lines_of all))
lines_step old mid new all i l lt is m b =
    clears_on old mid new (λ c. reads_in c (line_before l NoLine)) (λ c. reads_in c (lines_of (drop (i + 1) all)))
    (λ c. reads_in c (lines_of (drop i all))) (λ c. reads_in c (lines_of all))
    (λ c. ap (λ xs. reads_in c (lines_of xs)) (first_left all i l lt is) ∙ reads_first c l _) m b

pub lines_end : (old new : List Test) (all : List Line) (i : ℕ) → length all ≤ i →
    Halfway old new (λ c. reads_in c (lines_of (drop i all))) (λ c. reads_in c (lines_of all)) →
    Becomes old new (λ c entry. not (reads_in c (lines_of all)) && entry)
lines_end old new all i done m =
    record {
      count = m.count;
      each = λ c small. ap (λ xs. not (reads_in c (lines_of xs)) && get_or new c false)
          (sym (drop_all i all done)) ∙ m.each c small;
    }

-- ---- one after the other

swapped : (p q x : Test) → (not p && (not q && x)) ≡ (not (p || q) && x)
swapped true q x = refl
swapped false q x = refl

pub clear_then : (old mid new : List Test) (f g h : ℕ → Test) → ((c : ℕ) → h c ≡ (f c || g c)) →
    Becomes old mid (λ c entry. not (g c) && entry) → Becomes mid new (λ c entry. not (f c) && entry) →
    Becomes old new (λ c entry. not (h c) && entry)
clear_then old mid new f g h e a b =
    record {
      count = b.count ∙ a.count;
      each = λ c small. b.each c (let n = a.count in omega (arith, n)) ∙
          (ap (λ x. not (f c) && x) (a.each c small) ∙ (swapped (f c) (g c) (get_or old c false) ∙
          ap (λ x. not x && get_or old c false) (sym (e c))));
    }

-- what an if, and a loop, read
pub if_reads : (l : Line) (site : ℕ) (test : Atom) (chosen other : Vec Line Global) →
    l ≡ line.If site test chosen other → (c : ℕ) → reads_in c (line_before l NoLine) ≡
    (reads c test || (reads_in c (lines_of chosen.items) || reads_in c (lines_of other.items)))
if_reads l site test chosen other e c =
    ap (λ x. reads_in c (line_before x NoLine)) e ∙ (ap (reads_in c) (if_listed site test chosen other NoLine) ∙
    ap (λ x. reads c test || (reads_in c (lines_of chosen.items) || x)) (or_none (reads_in c (lines_of other.items))))

pub loop_reads : (l : Line) (site : ℕ) (first : Test) (test : Vec Line Global) (answer : Atom)
    (body : Vec Line Global) → l ≡ line.Loop site first test answer body → (c : ℕ) →
    reads_in c (line_before l NoLine) ≡
    (reads_in c (lines_of test.items) || (reads c answer || reads_in c (lines_of body.items)))
loop_reads l site first test answer body e c =
    ap (λ x. reads_in c (line_before x NoLine)) e ∙
    (ap (reads_in c) (loop_listed site first test answer body NoLine) ∙
    ap (λ x. reads_in c (lines_of test.items) || (reads c answer || x)) (or_none (reads_in c (lines_of body.items))))

-- ---- values on the way

pub values_step : (made longer : List Test) (cells : List Cell) (i : ℕ) (cell : Cell) (b : Test) → i < length cells →
    cell ≡ get_or cells i cell → b ≡ is_value_kind (kind_of cell.kind) → longer ≡ made ++ b ∷ [] →
    made ++ values_among (map cell_of (drop i cells)) ≡ values_among (map cell_of cells) →
    longer ++ values_among (map cell_of (drop (i + 1) cells)) ≡ values_among (map cell_of cells)
values_step made longer cells i cell b lt is e l same =
    ap (λ x. x ++ values_among (map cell_of (drop (i + 1) cells))) l ∙
    (append_assoc made (b ∷ []) (values_among (map cell_of (drop (i + 1) cells))) ∙
    (ap (λ x. made ++ x ∷ values_among (map cell_of (drop (i + 1) cells))) e ∙
    (ap (λ x. made ++ values_among (map cell_of x)) (sym (first_left cells i cell lt is)) ∙ same)))

pub values_end : (made : List Test) (cells : List Cell) (i : ℕ) → length cells ≤ i →
    made ++ values_among (map cell_of (drop i cells)) ≡ values_among (map cell_of cells) →
    made ≡ values_among (map cell_of cells)
values_end made cells i done same =
    sym (append-nil made) ∙ (sym (ap (λ x. made ++ values_among (map cell_of x)) (drop_all i cells done)) ∙ same)

values_at : (cells : List tree.Cell) (c : ℕ) → get_or (values_among cells) c false ≡ is_value_of (slice_get cells c)
values_at [] c = refl
values_at (x ∷ cells) zero = refl
values_at (x ∷ cells) (suc c) = values_at cells c

and_swap : (a b : Test) → (not a && b) ≡ (b && not a)
and_swap true true = refl
and_swap true false = refl
and_swap false true = refl
and_swap false false = refl

-- what is listed are the values that are not read
pub unread_is : (cells : List tree.Cell) (body : Lines) (old new : List Test) → old ≡ values_among cells →
    Becomes old new (λ c entry. not (reads_in c body) && entry) →
    (c : ℕ) → get_or new c false ≡ (is_value_of (slice_get cells c) && not (reads_in c body))
unread_is cells body old new e b c =
    let v : get_or old c false ≡ is_value_of (slice_get cells c) =
    ap (λ x. get_or x c false) e ∙ values_at cells c in
    elim (cases_lt c (length old)) [
      | inl small ↦
          b.each c small ∙
          (and_swap (reads_in c body) (get_or old c false) ∙ ap (λ x. x && not (reads_in c body)) v)
      | inr large ↦
          get_or_past new c false (let n = b.count in omega (arith, n)) ∙
          ap (λ x. x && not (reads_in c body)) (sym (get_or_past old c false large) ∙ v)
    ]
