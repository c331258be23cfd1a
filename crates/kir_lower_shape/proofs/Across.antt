-- How many cells of a range pass a test, and which cells lines name on both sides of a cut.
use Rattle.std.proofs.Common.{◌≡◌, ℕ, zero, suc, ◌+◌, ◌-◌, ◌<◌, ◌≤◌, List, [], ◌∷◌, ◌++◌, refl, sym, ap, ◌∙◌, subst}
use Rattle.std.proofs.Common.{arith, append_assoc, true, false, ne_eqb, if◌then◌else◌}
use Rattle.std.proofs.Common.{Bool as Test}
use Rattle.std.specs.Prelude.{nat_eq, ◌||◌, ◌&&◌}
use Rattle.std.proofs.lemmas.Bool.{eqb-true}
use Rattle.kir.specs.declared.line.Atom.{Atom}
use Rattle.kir.specs.declared.line.Atom.TheVariants.{Const, Cell as CellAtom}
use Rattle.kir.specs.Tree.{Work, Unary, Binary, Builtin, Convert, Ask, Argument, Copy, Lines, NoLine, SetThen}
use Rattle.kir.specs.Tree.{LoadThen, StoreThen, ClearThen, IfThen, LoopThen, BarrierThen, joined_to}
use Rattle.kir.specs.Live.{reads}
use Rattle.kir.specs.Cuts.{holds_barrier}
use Rattle.kir.specs.Keeps.{Piece, Names, Cut, named_by, named_by_all, named_by_work, cut_before, pieces_of}
use Rattle.kir.specs.Keeps.{names_cell, names_behind_cut, names_across, count_below}
use Rattle.kir_lower_shape.proofs.Quiet.{or_false, or_parts}
use Rattle.kir_lower_shape.proofs.Absent.{Absent, pieces_joined, names_append, names_cut, names_by, IsOut}
use Rattle.kir_lower_shape.proofs.Cutless.{Cutless}

-- ---- counting

-- at most so many of the numbers from one on to another pass the test
abbrev pub Few : (ℕ → Test) → ℕ → ℕ → ℕ → Type 0
Few test a b n = count_below test b ≤ n + count_below test a

pub few_same : (test : ℕ → Test) (a : ℕ) → Few test a a 0
few_same test a = omega arith

pub few_then : (test : ℕ → Test) (a b c n k : ℕ) → Few test a b n → Few test b c k → Few test a c (n + k)
few_then test a b c n k h g = omega (arith, h, g)

pub few_more : (test : ℕ → Test) (a b n k : ℕ) → Few test a b n → n ≤ k → Few test a b k
few_more test a b n k h g = omega (arith, h, g)

at_test : (b : Test) (n : ℕ) → b ≡ false → (if b then 1 else 0) + n ≤ n
at_test true n e = absurd (let k = e in cc)
at_test false n e = omega arith

at_most : (b : Test) → (if b then 1 else 0) ≤ 1
at_most true = omega arith
at_most false = omega arith

none_from : (test : ℕ → Test) (k a : ℕ) → ((c : ℕ) → a ≤ c → c < k + a → test c ≡ false) → Few test a (k + a) 0
none_from test zero a h = let e : 0 + a ≡ a = omega arith in subst (λ z. Few test a z 0) (sym e) (few_same test a)
none_from test (suc k) a h =
    let e : suc k + a ≡ suc (k + a) = omega arith in
    let p = none_from test k a (λ c low high. h c low (omega (arith, high))) in
    let q = at_test (test (k + a)) (count_below test (k + a)) (h (k + a) (omega arith) (omega arith)) in
    subst (λ z. Few test a z 0) (sym e) (omega (arith, p, q))

-- none passes
pub few_none : (test : ℕ → Test) (a b : ℕ) → a ≤ b → ((c : ℕ) → a ≤ c → c < b → test c ≡ false) → Few test a b 0
few_none test a b le h = subst (λ z. Few test a z 0) (sym (gap b le).1)
    (none_from test (gap b le).0 a (λ c low high. h c low (let e = (gap b le).1 in omega (arith, e, high))))
  where
    gap : (b : ℕ) → a ≤ b → (k : ℕ) × (b ≡ k + a)
    gap b le = let k : ℕ = b - a in (k, omega (arith, le))

one_from : (test : ℕ → Test) (d k a : ℕ) → ((c : ℕ) → a ≤ c → c < k + a → nat_eq c d ≡ false → test c ≡ false) →
    Few test a (k + a) 1
one_from test d zero a h = let e : 0 + a ≡ a = omega arith in subst (λ z. Few test a z 1) (sym e) (omega arith)
one_from test d (suc k) a h =
    by_test (nat_eq (k + a) d) refl (one_from test d k a (λ c low high. h c low (omega (arith, high))))
  where
    by_test : (b : Test) → nat_eq (k + a) d ≡ b → Few test a (k + a) 1 → Few test a (suc k + a) 1
    by_test true e more =
        let same : k + a ≡ d = eqb-true (k + a) d e in
        let p = none_from test k a (λ c low high.
        h c low (omega (arith, high)) (ne_eqb c d (λ i. omega (arith, i, same, high)))) in
        let q = at_most (test (k + a)) in
        let s : suc k + a ≡ suc (k + a) = omega arith in
        subst (λ z. Few test a z 1) (sym s) (omega (arith, p, q))
    by_test false e more =
        let q = at_test (test (k + a)) (count_below test (k + a)) (h (k + a) (omega arith) (omega arith) e) in
        let s : suc k + a ≡ suc (k + a) = omega arith in
        subst (λ z. Few test a z 1) (sym s) (omega (arith, more, q))

-- one at most passes
pub few_one : (test : ℕ → Test) (d a b : ℕ) → a ≤ b → ((c : ℕ) → a ≤ c → c < b → nat_eq c d ≡ false →
    test c ≡ false) → Few test a b 1
few_one test d a b le h =
    let k : ℕ = b - a in
    let e : b ≡ k + a = omega (arith, le) in
    subst (λ z. Few test a z 1) (sym e) (one_from test d k a (λ c low high. h c low (omega (arith, e, high))))

less_test : (b b' : Test) → (b' ≡ false → b ≡ false) → (if b then 1 else 0) ≤ (if b' then 1 else 0)
less_test true true f = omega arith
less_test false b' f = omega arith
less_test true false f = absurd (let k = f refl in cc)

less_from : (test other : ℕ → Test) (k a : ℕ) → ((c : ℕ) → a ≤ c → c < k + a → other c ≡ false → test c ≡ false) →
    count_below test (k + a) + count_below other a ≤ count_below other (k + a) + count_below test a
less_from test other zero a h = let e : 0 + a ≡ a = omega arith in
    subst (λ z. count_below test z + count_below other a ≤ count_below other z + count_below test a) (sym e)
    (omega arith)
less_from test other (suc k) a h =
    let p = less_from test other k a (λ c low high. h c low (omega (arith, high))) in
    let q = less_test (test (k + a)) (other (k + a)) (h (k + a) (omega arith) (omega arith)) in
    let s : suc k + a ≡ suc (k + a) = omega arith in
    subst (λ z. count_below test z + count_below other a ≤ count_below other z + count_below test a) (sym s)
    (omega (arith, p, q))

-- where fewer pass
pub few_less : (test other : ℕ → Test) (a b n : ℕ) → a ≤ b →
    ((c : ℕ) → a ≤ c → c < b → other c ≡ false → test c ≡ false) → Few other a b n → Few test a b n
few_less test other a b n le h g =
    let k : ℕ = b - a in
    let e : b ≡ k + a = omega (arith, le) in
    let p = less_from test other k a (λ c low high. h c low (omega (arith, e, high))) in
    let q =
    subst (λ z. count_below test z + count_below other a ≤ count_below other z + count_below test a) (sym e) p in
    omega (arith, q, g)

-- ---- cells on both sides of a cut

behind_less : (c : ℕ) (xs : List Piece) → names_cell c xs ≡ false → names_behind_cut c xs ≡ false
behind_less c [] h = refl
behind_less c (Names d ∷ xs) h = behind_less c xs (or_parts (nat_eq c d) (names_cell c xs) h).1
behind_less c (Cut ∷ xs) h = h

behind_append : (c : ℕ) (xs ys : List Piece) → names_behind_cut c xs ≡ false → names_cell c ys ≡ false →
    names_behind_cut c (xs ++ ys) ≡ false
behind_append c [] ys h k = behind_less c ys k
behind_append c (Names d ∷ xs) ys h k = behind_append c xs ys h k
behind_append c (Cut ∷ xs) ys h k = names_append c xs ys ∙ or_false (names_cell c xs) (names_cell c ys) h k

across_less : (c : ℕ) (xs : List Piece) → names_cell c xs ≡ false → names_across c xs ≡ false
across_less c [] h = refl
across_less c (Names d ∷ xs) h =
    let p = or_parts (nat_eq c d) (names_cell c xs) h in
    or_false (nat_eq c d && names_behind_cut c xs) (names_across c xs) (ap (λ z. z && names_behind_cut c xs) p.0)
    (across_less c xs p.1)
across_less c (Cut ∷ xs) h = across_less c xs h

and_first : (a b b' : Test) → (b ≡ false → b' ≡ false) → (a && b) ≡ false → (a && b') ≡ false
and_first true b b' f h = f h
and_first false b b' f h = refl

-- the cell is not named in the second part
pub across_first : (c : ℕ) (xs ys : List Piece) → names_across c xs ≡ false → names_cell c ys ≡ false →
    names_across c (xs ++ ys) ≡ false
across_first c [] ys h k = across_less c ys k
across_first c (Names d ∷ xs) ys h k =
    let p = or_parts (nat_eq c d && names_behind_cut c xs) (names_across c xs) h in
    or_false (nat_eq c d && names_behind_cut c (xs ++ ys)) (names_across c (xs ++ ys))
    (and_first (nat_eq c d) (names_behind_cut c xs) (names_behind_cut c (xs ++ ys))
    (λ e. behind_append c xs ys e k) p.0) (across_first c xs ys p.1 k)
across_first c (Cut ∷ xs) ys h k = across_first c xs ys h k

-- nor in the first
pub across_second : (c : ℕ) (xs ys : List Piece) → names_cell c xs ≡ false → names_across c ys ≡ false →
    names_across c (xs ++ ys) ≡ false
across_second c [] ys h k = k
across_second c (Names d ∷ xs) ys h k =
    let p = or_parts (nat_eq c d) (names_cell c xs) h in
    or_false (nat_eq c d && names_behind_cut c (xs ++ ys)) (names_across c (xs ++ ys))
    (ap (λ z. z && names_behind_cut c (xs ++ ys)) p.0) (across_second c xs ys p.1 k)
across_second c (Cut ∷ xs) ys h k = across_second c xs ys h k

pub across_cut : (c : ℕ) (b : Test) (xs : List Piece) → names_across c (cut_before b xs) ≡ names_across c xs
across_cut c true xs = refl
across_cut c false xs = refl

-- ---- without a cut

abbrev pub cutfree : List Piece → Test
cutfree [] = true
cutfree (Names d ∷ xs) = cutfree xs
cutfree (Cut ∷ xs) = false

pub free_append : (xs ys : List Piece) → cutfree xs ≡ true → cutfree ys ≡ true → cutfree (xs ++ ys) ≡ true
free_append [] ys h k = k
free_append (Names d ∷ xs) ys h k = free_append xs ys h k
free_append (Cut ∷ xs) ys h k = absurd (let e = h in cc)

free_behind : (c : ℕ) (xs : List Piece) → cutfree xs ≡ true → names_behind_cut c xs ≡ false
free_behind c [] h = refl
free_behind c (Names d ∷ xs) h = free_behind c xs h
free_behind c (Cut ∷ xs) h = absurd (let e = h in cc)

and_false : (a b : Test) → b ≡ false → (a && b) ≡ false
and_false true b e = e
and_false false b e = refl

pub free_across : (c : ℕ) (xs : List Piece) → cutfree xs ≡ true → names_across c xs ≡ false
free_across c [] h = refl
free_across c (Names d ∷ xs) h =
    or_false _ _ (and_false (nat_eq c d) (names_behind_cut c xs) (free_behind c xs h)) (free_across c xs h)
free_across c (Cut ∷ xs) h = absurd (let e = h in cc)

pub free_by : (a : Atom) → cutfree (named_by a) ≡ true
free_by (Const value of) = refl
free_by (CellAtom d) = refl

free_by_all : (atoms : List Atom) → cutfree (named_by_all atoms) ≡ true
free_by_all [] = refl
free_by_all (a ∷ atoms) = free_append (named_by a) (named_by_all atoms) (free_by a) (free_by_all atoms)

free_by_work : (work : Work) → cutfree (named_by_work work) ≡ true
free_by_work (Unary op of a) = free_by a
free_by_work (Binary op of a b) = free_append (named_by a) (named_by b) (free_by a) (free_by b)
free_by_work (Builtin f of args) = free_by_all args
free_by_work (Convert to a) = free_by a
free_by_work (Ask what dim) = free_by dim
free_by_work (Argument number) = refl
free_by_work (Copy a) = free_by a

free_cut : (b : Test) (xs : List Piece) → b ≡ false → cutfree xs ≡ true → cutfree (cut_before b xs) ≡ true
free_cut b xs e h = ap (λ z. cutfree (cut_before z xs)) e ∙ h

-- lines without a barrier have no cut
pub free_lines : (lines : Lines) → holds_barrier lines ≡ false → cutfree (pieces_of lines) ≡ true
free_lines NoLine h = refl
free_lines (SetThen to work rest) h =
    free_append (named_by_work work) (Names to ∷ pieces_of rest) (free_by_work work) (free_lines rest h)
free_lines (LoadThen site to element root index rest) h =
    free_append (named_by index) (Names to ∷ pieces_of rest) (free_by index) (free_lines rest h)
free_lines (StoreThen site element root index from rest) h =
    free_append (named_by index) (named_by from ++ pieces_of rest) (free_by index)
    (free_append (named_by from) (pieces_of rest) (free_by from) (free_lines rest h))
free_lines (ClearThen array rest) h = free_lines rest h
free_lines (IfThen site test chosen other rest) h =
    let p = or_parts (holds_barrier chosen) (holds_barrier other || holds_barrier rest) h in
    let q = or_parts (holds_barrier other) (holds_barrier rest) p.1 in
    let e = or_false (holds_barrier chosen) (holds_barrier other) p.0 q.0 in
    free_cut _ _ e (free_append (named_by test) _ (free_by test)
    (free_cut _ _ e (free_append (pieces_of chosen) _ (free_lines chosen p.0)
    (free_cut _ _ e (free_append (pieces_of other) _ (free_lines other q.0)
    (free_cut _ _ e (free_lines rest q.1)))))))
free_lines (LoopThen site test_first test answer body rest) h =
    let p = or_parts (holds_barrier test) (holds_barrier body || holds_barrier rest) h in
    let q = or_parts (holds_barrier body) (holds_barrier rest) p.1 in
    let e = or_false (holds_barrier test) (holds_barrier body) p.0 q.0 in
    free_cut _ _ e (free_append (pieces_of test) _ (free_lines test p.0)
    (free_append (named_by answer) _ (free_by answer)
    (free_cut _ _ e (free_append (pieces_of body) _ (free_lines body q.0)
    (free_cut _ _ e (free_lines rest q.1))))))
free_lines (BarrierThen site rest) h = absurd (let e = h in cc)

-- the lines name the cell on both sides of a cut
abbrev pub across : Lines → ℕ → Test
across lines c = names_across c (pieces_of lines)

pub across_cutless : (c : ℕ) (lines : Lines) → Cutless lines → across lines c ≡ false
across_cutless c lines h = free_across c (pieces_of lines) (free_lines lines h.is)

-- of lines put one after another, where one part does not name the cell
pub across_left : (c : ℕ) (a b : Lines) → across a c ≡ false → Absent c b → across (joined_to a b) c ≡ false
across_left c a b h k = ap (names_across c) (pieces_joined a b) ∙ across_first c (pieces_of a) (pieces_of b) h k.is

pub across_right : (c : ℕ) (a b : Lines) → Absent c a → across b c ≡ false → across (joined_to a b) c ≡ false
across_right c a b h k = ap (names_across c) (pieces_joined a b) ∙ across_second c (pieces_of a) (pieces_of b) h.is k

-- ---- numbers apart

pub out_below : (c a b : ℕ) → c < a → IsOut c a b
out_below c a b h k low high = ne_eqb c k (λ e. omega (arith, e, h, low))

pub out_above : (c a b : ℕ) → b ≤ c → IsOut c a b
out_above c a b h k low high = ne_eqb c k (λ e. omega (arith, e, h, high))

-- ---- lines in parts, each with cells of its own

pub seq_across : (la lb : Lines) (m0 m1 m2 n1 n2 : ℕ) → m0 ≤ m1 → m1 ≤ m2 → ((c : ℕ) → m1 ≤ c → Absent c la) →
    ((c : ℕ) → m0 ≤ c → c < m1 → Absent c lb) → Few (across la) m0 m1 n1 → Few (across lb) m1 m2 n2
    → Few (across (joined_to la lb)) m0 m2 (n1 + n2)
seq_across la lb m0 m1 m2 n1 n2 u v a b f g =
    few_then (across (joined_to la lb)) m0 m1 m2 n1 n2
    (few_less (across (joined_to la lb)) (across la) m0 m1 n1 u (λ c low high e. across_left c la lb e (b c low high))
    f)
    (few_less (across (joined_to la lb)) (across lb) m1 m2 n2 v (λ c low high e. across_right c la lb (a c low) e) g)

-- the cell of an atom
abbrev cell_of : Atom → ℕ
cell_of (Const value of) = 0
cell_of (CellAtom d) = d

not_read : (c : ℕ) (a : Atom) → nat_eq c (cell_of a) ≡ false → reads c a ≡ false
not_read c (Const value of) e = refl
not_read c (CellAtom d) e = e

-- an if, where one of the three parts alone names the cell
if_chosen : (c site : ℕ) (a : Atom) (ly ln : Lines) → reads c a ≡ false → across ly c ≡ false → Absent c ln →
    across (IfThen site a ly ln NoLine) c ≡ false
if_chosen c site a ly ln r y n =
    let h = holds_barrier ly || holds_barrier ln in
    let tail = cut_before h (pieces_of ln ++ cut_before h []) in
    let absent : names_cell c tail ≡ false = names_cut c h (pieces_of ln ++ cut_before h []) ∙
    names_append c (pieces_of ln) (cut_before h []) ∙ or_false _ _ n.is (names_cut c h []) in
    across_cut c h (named_by a ++ cut_before h (pieces_of ly ++ tail)) ∙
    across_second c (named_by a) (cut_before h (pieces_of ly ++ tail)) (names_by c a ∙
    r) (across_cut c h (pieces_of ly ++ tail) ∙ across_first c (pieces_of ly) tail y absent)

if_other : (c site : ℕ) (a : Atom) (ly ln : Lines) → reads c a ≡ false → Absent c ly → across ln c ≡ false →
    across (IfThen site a ly ln NoLine) c ≡ false
if_other c site a ly ln r y n =
    let h = holds_barrier ly || holds_barrier ln in
    let tail = cut_before h (pieces_of ln ++ cut_before h []) in
    let last : names_across c tail ≡ false = across_cut c h (pieces_of ln ++ cut_before h []) ∙
    across_first c (pieces_of ln) (cut_before h []) n (names_cut c h []) in
    across_cut c h (named_by a ++ cut_before h (pieces_of ly ++ tail)) ∙
    across_second c (named_by a) (cut_before h (pieces_of ly ++ tail)) (names_by c a ∙
    r) (across_cut c h (pieces_of ly ++ tail) ∙ across_second c (pieces_of ly) tail y.is last)

if_neither : (c site : ℕ) (a : Atom) (ly ln : Lines) → reads c a ≡ false → Absent c ly → Absent c ln →
    Absent c (IfThen site a ly ln NoLine)
if_neither c site a ly ln r y n =
    let h = holds_barrier ly || holds_barrier ln in
    let tail = cut_before h (pieces_of ln ++ cut_before h []) in
    let last : names_cell c tail ≡ false = names_cut c h (pieces_of ln ++ cut_before h []) ∙
    names_append c (pieces_of ln) (cut_before h []) ∙ or_false _ _ n.is (names_cut c h []) in
    record {
      is = names_cut c h (named_by a ++ cut_before h (pieces_of ly ++ tail)) ∙
          names_append c (named_by a) (cut_before h (pieces_of ly ++ tail)) ∙
          or_false _ _ (names_by c a ∙ r) (names_cut c h (pieces_of ly ++ tail) ∙ names_append c (pieces_of ly) tail ∙
          or_false _ _ y.is last);
    }

-- at most one cell of the test is named on both sides of a cut: that of its value
pub if_across : (site : ℕ) (lt ly ln : Lines) (a : Atom) (m0 m1 m2 m3 n1 n2 : ℕ) → m0 ≤ m1 → m1 ≤ m2 → m2 ≤ m3 →
    Cutless lt
    → ((c : ℕ) → m1 ≤ c → Absent c lt × (reads c a ≡ false)) → ((c : ℕ) → m0 ≤ c → c < m1 → Absent c ly) →
    ((c : ℕ) → m2 ≤ c → Absent c ly) → ((c : ℕ) → m0 ≤ c → c < m2 → Absent c ln)
    → Few (across ly) m1 m2 n1 → Few (across ln) m2 m3 n2 →
    Few (across (joined_to lt (IfThen site a ly ln NoLine))) m0 m3 (1 + (n1 + n2))
if_across site lt ly ln a m0 m1 m2 m3 n1 n2 u v w cutless t y y2 n f g =
    let all = joined_to lt (IfThen site a ly ln NoLine) in
    few_then (across all) m0 m1 m3 1 (n1 + n2)
    (few_one (across all) (cell_of a) m0 m1 u (λ c low high e. across_left c lt (IfThen site a ly ln NoLine)
    (across_cutless c lt cutless) (if_neither c site a ly ln (not_read c a e) (y c low high)
    (n c low (omega (arith, high, v))))))
    (few_then (across all) m1 m2 m3 n1 n2
    (few_less (across all) (across ly) m1 m2 n1 v (λ c low high e. across_right c lt (IfThen site a ly ln NoLine)
    (t c low).0 (if_chosen c site a ly ln (t c low).1 e (n c (omega (arith, u, low)) high))) f)
    (few_less (across all) (across ln) m2 m3 n2 w (λ c low high e. across_right c lt (IfThen site a ly ln NoLine)
    (t c (omega (arith, v, low))).0 (if_other c site a ly ln (t c (omega (arith, v, low))).1 (y2 c low) e)) g))

-- a loop: no cut is between its test and its answer
pub loop_across : (site : ℕ) (first : Test) (lt ls lb : Lines) (a : Atom) (m0 m1 m2 m3 n : ℕ) → m0 ≤ m1 → m1 ≤ m2 →
    m2 ≤ m3 → Cutless lt → Cutless ls
    → ((c : ℕ) → m1 ≤ c → Absent c lt × (reads c a ≡ false)) → ((c : ℕ) → m0 ≤ c → c < m1 → Absent c ls) →
    ((c : ℕ) → m2 ≤ c → Absent c ls) → ((c : ℕ) → m0 ≤ c → c < m2 → Absent c lb)
    → Few (across lb) m2 m3 n → Few (across (LoopThen site first lt a (joined_to lb ls) NoLine)) m0 m3 n
loop_across site first lt ls lb a m0 m1 m2 m3 n u v w ct cs t s s2 b f =
    let all = LoopThen site first lt a (joined_to lb ls) NoLine in
    few_more (across all) m0 m3 (0 + n) n (few_then (across all) m0 m2 m3 0 n
    (few_then (across all) m0 m1 m2 0 0
    (few_none (across all) m0 m1 u (λ c low high.
    in_test c (b_absent c (b c low (omega (arith, high, v))) (s c low high))))
    (few_none (across all) m1 m2 v (λ c low high.
    in_body c (t c low) (across_right c lb ls (b c (omega (arith, u, low)) high) (across_cutless c ls cs)))))
    (few_less (across all) (across lb) m2 m3 n w (λ c low high e. in_body c (t c (omega (arith, v, low)))
    (across_left c lb ls e (s2 c low))) f)) (omega arith)
  where
    h : Test
    h = holds_barrier lt || holds_barrier (joined_to lb ls)

    b_absent : (c : ℕ) → Absent c lb → Absent c ls →
        names_cell c (cut_before h (pieces_of (joined_to lb ls) ++ cut_before h [])) ≡ false
    b_absent c x y = names_cut c h (pieces_of (joined_to lb ls) ++ cut_before h []) ∙
        names_append c (pieces_of (joined_to lb ls)) (cut_before h [])
        ∙ or_false _ _ (ap (names_cell c) (pieces_joined lb ls) ∙ names_append c (pieces_of lb) (pieces_of ls) ∙
        or_false _ _ x.is y.is) (names_cut c h [])

    in_test : (c : ℕ) → names_cell c (cut_before h (pieces_of (joined_to lb ls) ++ cut_before h [])) ≡ false →
        across (LoopThen site first lt a (joined_to lb ls) NoLine) c ≡ false
    in_test c absent =
        let tail = cut_before h (pieces_of (joined_to lb ls) ++ cut_before h []) in
        across_cut c h (pieces_of lt ++ (named_by a ++ tail)) ∙
        ap (names_across c) (sym (append_assoc (pieces_of lt) (named_by a) tail))
        ∙ across_first c (pieces_of lt ++ named_by a) tail
        (free_across c (pieces_of lt ++ named_by a) (free_append (pieces_of lt) (named_by a) (free_lines lt ct.is)
        (free_by a))) absent

    in_body : (c : ℕ) → Absent c lt × (reads c a ≡ false) → across (joined_to lb ls) c ≡ false →
        across (LoopThen site first lt a (joined_to lb ls) NoLine) c ≡ false
    in_body c x e =
        let tail = cut_before h (pieces_of (joined_to lb ls) ++ cut_before h []) in
        let last : names_across c tail ≡ false = across_cut c h (pieces_of (joined_to lb ls) ++ cut_before h []) ∙
        across_first c (pieces_of (joined_to lb ls)) (cut_before h []) e (names_cut c h []) in
        across_cut c h (pieces_of lt ++ (named_by a ++ tail)) ∙
        across_second c (pieces_of lt) (named_by a ++ tail) x.0.is
        (across_second c (named_by a) tail (names_by c a ∙ x.1) last)
