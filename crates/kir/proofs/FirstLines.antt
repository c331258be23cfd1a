-- The test of a kernel's parts, line by line.
use Rattle.std.proofs.Common.{◌≡◌, ◌&&◌, true, false, ℕ, zero, suc, ◌+◌, ◌<◌, List, [], ◌∷◌, length, replicate, drop}
use Rattle.std.proofs.Common.{get_or, refl, ap, sym, ◌∙◌, arith, drop-cons, Some, slice_get, Global}
use Rattle.std.proofs.Common.{Bool as Test}
use Rattle.std.specs.declared.vec.Vec.{Vec}
use Rattle.wg_num.specs.declared.types.IntType.{IntType}
use Rattle.kir.specs.declared.line.Atom.{Atom}
use Rattle.kir.specs.declared.line.Line.{Line}
use Rattle.kir.specs.declared.line.Line.TheVariants as line
use Rattle.kir.specs.Tree.{Lines, NoLine, Kernel}
use Rattle.wg_num.specs.declared.types.IntType.TheVariants.{Long}
use Rattle.kir.specs.Listed.{line_before, lines_in, lines_of, work_of}
use Rattle.kir.proofs.Rows.{if_listed, loop_listed}
use Rattle.kir.specs.Fits.{lines_fit, have_types, work_fits, cell_takes, work_type, is_site, can_load, can_store}
use Rattle.kir.specs.Fits.{has_type, has_some_type, atom_type, is_private_array}

pub and_true : (b : Test) → (b && true) ≡ b
and_true true = refl
and_true false = refl

and_first : (b r : Test) → (b && r) ≡ ((b && true) && r)
and_first true r = refl
and_first false r = refl

-- a line fits by itself, and then the lines behind it
pub line_first : (k : Kernel) (l : Line) (rest : Lines) →
    lines_fit k (line_before l rest) ≡ (lines_fit k (line_before l NoLine) && lines_fit k rest)
line_first k (line.Set to w) rest =
    and_first (work_fits k (work_of w) && cell_takes k to (work_type k (work_of w))) (lines_fit k rest)
line_first k (line.Load site to element root index) rest =
    and_first (is_site k site && can_load k root element && has_type Long (atom_type k index) &&
    cell_takes k to (Some element)) (lines_fit k rest)
line_first k (line.Store site element root index from) rest =
    and_first (is_site k site && can_store k root element && has_type Long (atom_type k index) &&
    has_type element (atom_type k from)) (lines_fit k rest)
line_first k (line.Clear array) rest = and_first (is_private_array (slice_get k.arrays array)) (lines_fit k rest)
line_first k (line.If' site test _ chosen _ other) rest =
    and_first (is_site k site && has_some_type (atom_type k test) && lines_fit k (lines_in chosen) &&
    lines_fit k (lines_in other)) (lines_fit k rest)
line_first k (line.Loop' site first _ test answer _ body) rest =
    and_first (is_site k site && lines_fit k (lines_in test) && has_some_type (atom_type k answer) &&
    lines_fit k (lines_in body)) (lines_fit k rest)
line_first k (line.Barrier site) rest = and_first (is_site k site) (lines_fit k rest)

first_dropped : {A : Type 0} (xs : List A) (i : ℕ) (x : A) → i < length xs → x ≡ get_or xs i x →
    drop i xs ≡ x ∷ drop (i + 1) xs
first_dropped xs i x h e =
    let one : suc i ≡ i + 1 = omega arith in
    drop-cons xs i x h ∙ ap (λ y. y ∷ drop (suc i) xs) (sym e) ∙ ap (λ j. x ∷ drop j xs) one

-- the lines from one on fit where it fits, and then those behind it
lines_further : (k : Kernel) (lines : List Line) (i : ℕ) (l : Line) (r : Test) → i < length lines →
    l ≡ get_or lines i l → r ≡ lines_fit k (line_before l NoLine)
    → lines_fit k (lines_of lines) ≡ lines_fit k (lines_of (drop i lines)) →
    lines_fit k (lines_of lines) ≡ (r && lines_fit k (lines_of (drop (i + 1) lines)))
lines_further k lines i l r h e s w =
    w ∙ ap (λ z. lines_fit k (lines_of z)) (first_dropped lines i l h e) ∙
    line_first k l (lines_of (drop (i + 1) lines)) ∙
    ap (λ z. z && lines_fit k (lines_of (drop (i + 1) lines))) (sym s)

-- they do not fit where one does not
pub lines_stop : (k : Kernel) (lines : List Line) (i : ℕ) (l : Line) (r : Test) → i < length lines →
    l ≡ get_or lines i l → r ≡ lines_fit k (line_before l NoLine)
    → r ≡ false → lines_fit k (lines_of lines) ≡ lines_fit k (lines_of (drop i lines)) →
    false ≡ lines_fit k (lines_of lines)
lines_stop k lines i l r h e s n w =
    sym (lines_further k lines i l r h e s w ∙ ap (λ z. z && lines_fit k (lines_of (drop (i + 1) lines))) n)

-- where one fits, it is the lines behind it that matter
pub lines_go : (k : Kernel) (lines : List Line) (i : ℕ) (l : Line) (r : Test) → i < length lines →
    l ≡ get_or lines i l → r ≡ lines_fit k (line_before l NoLine)
    → r ≡ true → lines_fit k (lines_of lines) ≡ lines_fit k (lines_of (drop i lines)) →
    lines_fit k (lines_of lines) ≡ lines_fit k (lines_of (drop (i + 1) lines))
lines_go k lines i l r h e s n w =
    lines_further k lines i l r h e s w ∙ ap (λ z. z && lines_fit k (lines_of (drop (i + 1) lines))) n

-- an if, and a loop, by their parts
pub if_fits : (k : Kernel) (l : Line) (site : ℕ) (test : Atom) (chosen other : Vec Line Global) (ys ns : List Line)
    (a b c d r : Test) → l ≡ line.If site test chosen other → ys ≡ chosen.items → ns ≡ other.items
    → a ≡ is_site k site → b ≡ has_some_type (atom_type k test) → c ≡ lines_fit k (lines_of ys) →
    d ≡ lines_fit k (lines_of ns) → r ≡ (a && b && c && d) → r ≡ lines_fit k (line_before l NoLine)
if_fits k l site test chosen other ys ns a b c d r h ey en ea eb ec ed er =
    er ∙ ap (λ z. z && b && c && d) ea ∙ ap (λ z. is_site k site && z && c && d) eb
    ∙ ap (λ z. is_site k site && has_some_type (atom_type k test) && z && d) (ec ∙
    ap (λ z. lines_fit k (lines_of z)) ey)
    ∙ ap (λ z. is_site k site && has_some_type (atom_type k test) && lines_fit k (lines_of chosen.items) && z) (ed ∙
    ap (λ z. lines_fit k (lines_of z)) en)
    ∙ sym (and_true (is_site k site && has_some_type (atom_type k test) && lines_fit k (lines_of chosen.items) &&
    lines_fit k (lines_of other.items)))
    ∙ sym (ap (lines_fit k) (ap (λ z. line_before z NoLine) h ∙ if_listed site test chosen other NoLine))

pub loop_fits : (k : Kernel) (l : Line) (site : ℕ) (first : Test) (test : Vec Line Global) (answer : Atom)
    (body : Vec Line Global) (ts bs : List Line) (a b c d r : Test) → l ≡ line.Loop site first test answer body →
    ts ≡ test.items → bs ≡ body.items
    → a ≡ is_site k site → b ≡ lines_fit k (lines_of ts) → c ≡ has_some_type (atom_type k answer) →
    d ≡ lines_fit k (lines_of bs) → r ≡ (a && b && c && d) → r ≡ lines_fit k (line_before l NoLine)
loop_fits k l site first test answer body ts bs a b c d r h et eb ea fb fc fd er =
    er ∙ ap (λ z. z && b && c && d) ea ∙
    ap (λ z. is_site k site && z && c && d) (fb ∙ ap (λ z. lines_fit k (lines_of z)) et)
    ∙ ap (λ z. is_site k site && lines_fit k (lines_of test.items) && z && d) fc
    ∙ ap (λ z. is_site k site && lines_fit k (lines_of test.items) && has_some_type (atom_type k answer) && z) (fd ∙
    ap (λ z. lines_fit k (lines_of z)) eb)
    ∙ sym (and_true (is_site k site && lines_fit k (lines_of test.items) && has_some_type (atom_type k answer) &&
    lines_fit k (lines_of body.items)))
    ∙ sym (ap (lines_fit k) (ap (λ z. line_before z NoLine) h ∙ loop_listed site first test answer body NoLine))

-- atoms of another number than the types do not have them
pub other_count : (k : Kernel) (of : IntType) (n : ℕ) (atoms : List Atom) → (n ≡ length atoms → ⊥) →
    false ≡ have_types k (replicate n of) atoms
other_count k of zero [] h = absurd (h refl)
other_count k of zero (a ∷ atoms) h = refl
other_count k of (suc n) [] h = refl
other_count k of (suc n) (a ∷ atoms) h =
    elim (has_type of (atom_type k a)) as (λ z. false ≡ (z && have_types k (replicate n of) atoms)) [
      | true ↦
          other_count k of n atoms (λ e. h (ap (λ m. suc m) e))
      | false ↦ refl
    ]
