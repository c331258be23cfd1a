-- The walk that adds up how large lines are.
use Rattle.std.proofs.Common.{◌≡◌, ℕ, zero, suc, ◌+◌, ◌<◌, ◌≤◌, List, [], ◌∷◌, length, get_or, drop, ap, ◌∙◌}
use Rattle.std.proofs.Common.{arith, Global}
use Rattle.std.specs.Prelude.{Bool as Test}
use Rattle.std.specs.declared.vec.Vec.{Vec}
use Rattle.std.proofs.lemmas.List.{drop_all}
use Rattle.kir.specs.declared.line.Atom.{Atom}
use Rattle.kir.specs.declared.line.Line.{Line}
use Rattle.kir.specs.declared.line.Line.TheVariants as line
use Rattle.kir.specs.Tree.{Lines, NoLine}
use Rattle.kir.specs.Listed.{line_before, lines_in, lines_of}
use Rattle.kir.proofs.Firsts.{first_left}
use Rattle.kir.proofs.Rows.{if_listed, loop_listed}
use Rattle.kir_simplify.specs.Passes.{atom_size, atoms_size, size_of}

-- ---- atoms

pub atoms_step : (size longer total : ℕ) (xs : List Atom) (i : ℕ) (a : Atom) → i < length xs → a ≡ get_or xs i a →
    longer ≡ size + atom_size a → size + atoms_size (drop i xs) ≡ total →
    longer + atoms_size (drop (i + 1) xs) ≡ total
atoms_step size longer total xs i a lt is e same =
    summed _ _ _ _ _ _ e (ap atoms_size (first_left xs i a lt is)) same
  where
    summed : (n l a r f t : ℕ) → l ≡ n + a → f ≡ a + r → n + f ≡ t → l + r ≡ t
    summed n l a r f t e g h = omega (arith, e, g, h)

pub atoms_end : (size total : ℕ) (xs : List Atom) (i : ℕ) → length xs ≤ i → size + atoms_size (drop i xs) ≡ total →
    size ≡ total
atoms_end size total xs i done h = alone _ _ _ (ap atoms_size (drop_all i xs done)) h
  where
    alone : (n r t : ℕ) → r ≡ 0 → n + r ≡ t → n ≡ t
    alone n r t e h = omega (arith, e, h)

-- ---- lines

size_first : (l : Line) (rest : Lines) → size_of (line_before l rest) ≡ size_of (line_before l NoLine) + size_of rest
size_first (line.Set to w) rest = omega arith
size_first (line.Load site to element root index) rest = omega arith
size_first (line.Store site element root index from) rest = omega arith
size_first (line.Clear array) rest = omega arith
size_first (line.If' site test _ chosen _ other) rest =
    thrice (atom_size test) (size_of (lines_in chosen)) (size_of (lines_in other)) (size_of rest)
  where
    thrice : (t a b r : ℕ) → suc (t + (a + (b + r))) ≡ suc (t + (a + (b + 0))) + r
    thrice t a b r = omega arith
size_first (line.Loop' site first _ test answer _ body) rest =
    thrice (size_of (lines_in test)) (atom_size answer) (size_of (lines_in body)) (size_of rest)
  where
    thrice : (t a b r : ℕ) → suc (t + (a + (b + r))) ≡ suc (t + (a + (b + 0))) + r
    thrice t a b r = omega arith
size_first (line.Barrier site) rest = omega arith

-- a line is no larger than the lines among which it is
pub one_within : (ls : List Line) (i : ℕ) (l : Line) → i < length ls → l ≡ get_or ls i l →
    size_of (line_before l NoLine) ≤ size_of (lines_of ls)
one_within ls i l lt is =
    let rest = size_of (lines_of (drop (i + 1) ls)) in
    let first = size_first l (lines_of (drop (i + 1) ls)) in
    let here = ap (λ xs. size_of (lines_of xs)) (first_left ls i l lt is) in
    let less = left_within i ls in omega (arith, first, here, less)
  where
    left_within : (i : ℕ) (ls : List Line) → size_of (lines_of (drop i ls)) ≤ size_of (lines_of ls)
    left_within zero ls = omega arith
    left_within (suc i) [] = omega arith
    left_within (suc i) (l ∷ ls) =
        let less = left_within i ls in let first = size_first l (lines_of ls) in omega (arith, first, less)

-- the lines of an if, and of a loop, are smaller than it
pub if_larger : (l : Line) (site : ℕ) (test : Atom) (chosen other : Vec Line Global) →
    l ≡ line.If site test chosen other → size_of (line_before l NoLine) ≡
    suc (atom_size test + (size_of (lines_of chosen.items) + (size_of (lines_of other.items) + 0)))
if_larger l site test chosen other e =
    ap (λ x. size_of (line_before x NoLine)) e ∙ ap size_of (if_listed site test chosen other NoLine)

pub loop_larger : (l : Line) (site : ℕ) (first : Test) (test : Vec Line Global) (answer : Atom)
    (body : Vec Line Global) → l ≡ line.Loop site first test answer body → size_of (line_before l NoLine) ≡
    suc (size_of (lines_of test.items) + (atom_size answer + (size_of (lines_of body.items) + 0)))
loop_larger l site first test answer body e =
    ap (λ x. size_of (line_before x NoLine)) e ∙ ap size_of (loop_listed site first test answer body NoLine)

pub lines_step : (size longer total : ℕ) (ls : List Line) (i : ℕ) (l : Line) → i < length ls → l ≡ get_or ls i l →
    longer ≡ size + size_of (line_before l NoLine) → size + size_of (lines_of (drop i ls)) ≡ total →
    longer + size_of (lines_of (drop (i + 1) ls)) ≡ total
lines_step size longer total ls i l lt is e same =
    summed _ _ _ _ _ _ e (ap (λ xs. size_of (lines_of xs)) (first_left ls i l lt is) ∙
    size_first l (lines_of (drop (i + 1) ls))) same
  where
    summed : (n l s r f t : ℕ) → l ≡ n + s → f ≡ s + r → n + f ≡ t → l + r ≡ t
    summed n l s r f t e g h = omega (arith, e, g, h)

pub lines_end : (size total : ℕ) (ls : List Line) (i : ℕ) → length ls ≤ i →
    size + size_of (lines_of (drop i ls)) ≡ total → size ≡ total
lines_end size total ls i done h = alone _ _ _ (ap (λ xs. size_of (lines_of xs)) (drop_all i ls done)) h
  where
    alone : (n r t : ℕ) → r ≡ 0 → n + r ≡ t → n ≡ t
    alone n r t e h = omega (arith, e, h)

pub if_marked : (l : Line) (site : ℕ) (test : Atom) (chosen other : Vec Line Global) (old one read first all : ℕ) →
    l ≡ line.If site test chosen other → one ≡ old + 1 → read ≡ one + atom_size test →
    first ≡ read + size_of (lines_of chosen.items) → all ≡ first + size_of (lines_of other.items) →
    all ≡ old + size_of (line_before l NoLine)
if_marked l site test chosen other old one read first all e eo er ef ea =
    summed _ _ _ _ _ _ _ _ _ eo er ef ea (if_larger l site test chosen other e)
  where
    summed : (old one read first all t c o s : ℕ) → one ≡ old + 1 → read ≡ one + t → first ≡ read + c →
        all ≡ first + o → s ≡ suc (t + (c + (o + 0))) → all ≡ old + s
    summed old one read first all t c o s eo er ef ea es = omega (arith, eo, er, ef, ea, es)

pub loop_marked : (l : Line) (site : ℕ) (first : Test) (test : Vec Line Global) (answer : Atom)
    (body : Vec Line Global) (old one tested read all : ℕ) → l ≡ line.Loop site first test answer body →
    one ≡ old + 1 → tested ≡ one + size_of (lines_of test.items) → read ≡ tested + atom_size answer →
    all ≡ read + size_of (lines_of body.items) → all ≡ old + size_of (line_before l NoLine)
loop_marked l site first test answer body old one tested read all e eo et er ea =
    summed _ _ _ _ _ _ _ _ _ eo et er ea (loop_larger l site first test answer body e)
  where
    summed : (old one tested read all t a b s : ℕ) → one ≡ old + 1 → tested ≡ one + t → read ≡ tested + a →
        all ≡ read + b → s ≡ suc (t + (a + (b + 0))) → all ≡ old + s
    summed old one tested read all t a b s eo et er ea es = omega (arith, eo, et, er, ea, es)
