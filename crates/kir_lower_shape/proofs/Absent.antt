-- When lines do not name a cell.
use Rattle.std.proofs.Common.{◌≡◌, ℕ, suc, ◌<◌, ◌≤◌, List, [], ◌∷◌, ◌++◌, refl, sym, ap, ap₂, ◌∙◌, arith}
use Rattle.std.proofs.Common.{append_assoc, length-append, true, false}
use Rattle.std.proofs.Common.{Bool as Test}
use Rattle.std.specs.Prelude.{nat_eq, ◌||◌}
use Rattle.wg_num.specs.declared.types.IntType.{IntType}
use Rattle.cl_model.specs.declared.program.Root.{Root}
use Rattle.kir.specs.declared.line.Atom.{Atom}
use Rattle.kir.specs.declared.line.Atom.TheVariants.{Const, Cell as CellAtom}
use Rattle.kir.specs.Tree.{Work, Unary, Binary, Builtin, Convert, Ask, Argument, Copy, Lines, NoLine, SetThen}
use Rattle.kir.specs.Tree.{LoadThen, StoreThen, ClearThen, IfThen, LoopThen, BarrierThen, joined_to, CellKind}
use Rattle.kir.specs.Live.{reads, some_reads, work_reads}
use Rattle.kir.specs.Cuts.{holds_barrier}
use Rattle.kir.specs.Keeps.{Piece, Names, Cut, named_by, named_by_all, named_by_work, cut_before, pieces_of, names_cell}
use Rattle.kir_lower.specs.Made.{Made, next_cell, with_cell}
use Rattle.kir_lower_shape.proofs.Quiet.{or_false}

-- ---- pieces of lines put one after another

cut_joined : (b : Test) (xs ys : List Piece) → cut_before b (xs ++ ys) ≡ cut_before b xs ++ ys
cut_joined true xs ys = refl
cut_joined false xs ys = refl

pub pieces_joined : (a b : Lines) → pieces_of (joined_to a b) ≡ pieces_of a ++ pieces_of b
pieces_joined NoLine b = refl
pieces_joined (SetThen to work rest) b = ap (λ z. named_by_work work ++ Names to ∷ z) (pieces_joined rest b) ∙
    sym (append_assoc (named_by_work work) (Names to ∷ pieces_of rest) (pieces_of b))
pieces_joined (LoadThen site to element root index rest) b =
    ap (λ z. named_by index ++ Names to ∷ z) (pieces_joined rest b) ∙
    sym (append_assoc (named_by index) (Names to ∷ pieces_of rest) (pieces_of b))
pieces_joined (StoreThen site element root index from rest) b =
    ap (λ z. named_by index ++ (named_by from ++ z)) (pieces_joined rest b)
    ∙ ap (λ z. named_by index ++ z) (sym (append_assoc (named_by from) (pieces_of rest) (pieces_of b)))
    ∙ sym (append_assoc (named_by index) (named_by from ++ pieces_of rest) (pieces_of b))
pieces_joined (ClearThen array rest) b = pieces_joined rest b
pieces_joined (IfThen site test chosen other rest) b =
    let h = holds_barrier chosen || holds_barrier other in
    let r = pieces_of rest in
    let s = pieces_of b in
    ap (λ z. cut_before h (named_by test ++
    cut_before h (pieces_of chosen ++ cut_before h (pieces_of other ++ cut_before h z)))) (pieces_joined rest b)
    ∙ ap (λ z. cut_before h (named_by test ++ cut_before h (pieces_of chosen ++ cut_before h (pieces_of other ++ z))))
    (cut_joined h r s)
    ∙ ap (λ z. cut_before h (named_by test ++ cut_before h (pieces_of chosen ++ cut_before h z)))
    (sym (append_assoc (pieces_of other) (cut_before h r) s))
    ∙ ap (λ z. cut_before h (named_by test ++ cut_before h (pieces_of chosen ++ z)))
    (cut_joined h (pieces_of other ++ cut_before h r) s)
    ∙ ap (λ z. cut_before h (named_by test ++ cut_before h z))
    (sym (append_assoc (pieces_of chosen) (cut_before h (pieces_of other ++ cut_before h r)) s))
    ∙ ap (λ z. cut_before h (named_by test ++ z))
    (cut_joined h (pieces_of chosen ++ cut_before h (pieces_of other ++ cut_before h r)) s)
    ∙ ap (λ z. cut_before h z) (sym
    (append_assoc (named_by test) (cut_before h (pieces_of chosen ++
    cut_before h (pieces_of other ++ cut_before h r))) s))
    ∙ cut_joined h (named_by test ++
    cut_before h (pieces_of chosen ++ cut_before h (pieces_of other ++ cut_before h r))) s
pieces_joined (LoopThen site test_first test answer body rest) b =
    let h = holds_barrier test || holds_barrier body in
    let r = pieces_of rest in
    let s = pieces_of b in
    ap (λ z. cut_before h (pieces_of test ++ (named_by answer ++ cut_before h (pieces_of body ++ cut_before h z))))
    (pieces_joined rest b)
    ∙ ap (λ z. cut_before h (pieces_of test ++ (named_by answer ++ cut_before h (pieces_of body ++ z))))
    (cut_joined h r s)
    ∙ ap (λ z. cut_before h (pieces_of test ++ (named_by answer ++ cut_before h z)))
    (sym (append_assoc (pieces_of body) (cut_before h r) s))
    ∙ ap (λ z. cut_before h (pieces_of test ++ (named_by answer ++ z)))
    (cut_joined h (pieces_of body ++ cut_before h r) s)
    ∙ ap (λ z. cut_before h (pieces_of test ++ z))
    (sym (append_assoc (named_by answer) (cut_before h (pieces_of body ++ cut_before h r)) s))
    ∙ ap (λ z. cut_before h z) (sym
    (append_assoc (pieces_of test) (named_by answer ++ cut_before h (pieces_of body ++ cut_before h r)) s))
    ∙ cut_joined h (pieces_of test ++ (named_by answer ++ cut_before h (pieces_of body ++ cut_before h r))) s
pieces_joined (BarrierThen site rest) b = ap (λ z. Cut ∷ z) (pieces_joined rest b)

-- ---- what pieces name

or_assoc : (a b c : Test) → ((a || b) || c) ≡ (a || (b || c))
or_assoc true b c = refl
or_assoc false b c = refl

or_none : (a : Test) → (a || false) ≡ a
or_none true = refl
or_none false = refl

pub names_append : (c : ℕ) (xs ys : List Piece) → names_cell c (xs ++ ys) ≡ (names_cell c xs || names_cell c ys)
names_append c [] ys = refl
names_append c (Names d ∷ xs) ys =
    ap (λ z. nat_eq c d || z) (names_append c xs ys) ∙ sym (or_assoc (nat_eq c d) (names_cell c xs) (names_cell c ys))
names_append c (Cut ∷ xs) ys = names_append c xs ys

pub names_cut : (c : ℕ) (b : Test) (xs : List Piece) → names_cell c (cut_before b xs) ≡ names_cell c xs
names_cut c true xs = refl
names_cut c false xs = refl

pub names_by : (c : ℕ) (a : Atom) → names_cell c (named_by a) ≡ reads c a
names_by c (Const value of) = refl
names_by c (CellAtom d) = or_none (nat_eq c d)

names_by_all : (c : ℕ) (atoms : List Atom) → names_cell c (named_by_all atoms) ≡ some_reads c atoms
names_by_all c [] = refl
names_by_all c (a ∷ atoms) =
    names_append c (named_by a) (named_by_all atoms) ∙ ap₂ (λ y z. y || z) (names_by c a) (names_by_all c atoms)

pub names_by_work : (c : ℕ) (work : Work) → names_cell c (named_by_work work) ≡ work_reads c work
names_by_work c (Unary op of a) = names_by c a
names_by_work c (Binary op of a b) =
    names_append c (named_by a) (named_by b) ∙ ap₂ (λ y z. y || z) (names_by c a) (names_by c b)
names_by_work c (Builtin f of args) = names_by_all c args
names_by_work c (Convert to a) = names_by c a
names_by_work c (Ask what dim) = names_by c dim
names_by_work c (Argument number) = refl
names_by_work c (Copy a) = names_by c a

-- the lines do not name the cell
pub record Absent (c : ℕ) (lines : Lines) : Type 0 where
  pub is : names_cell c (pieces_of lines) ≡ false

-- pieces before others
absent_append : (c : ℕ) (xs ys : List Piece) → names_cell c xs ≡ false → names_cell c ys ≡ false →
    names_cell c (xs ++ ys) ≡ false
absent_append c xs ys h k = names_append c xs ys ∙ or_false (names_cell c xs) (names_cell c ys) h k

pub absent_none : (c : ℕ) → Absent c NoLine
absent_none c = record { is = refl }

pub absent_then : (c : ℕ) (a b : Lines) → Absent c a → Absent c b → Absent c (joined_to a b)
absent_then c a b h k =
    record { is = ap (names_cell c) (pieces_joined a b) ∙ absent_append c (pieces_of a) (pieces_of b) h.is k.is }

pub absent_set : (c to : ℕ) (work : Work) (rest : Lines) → work_reads c work ≡ false → nat_eq c to ≡ false →
    Absent c rest → Absent c (SetThen to work rest)
absent_set c to work rest r e h =
    record {
      is = absent_append c (named_by_work work) (Names to ∷ pieces_of rest) (names_by_work c work ∙
          r) (or_false (nat_eq c to) _ e h.is);
    }

pub absent_load : (c site to : ℕ) (element : IntType) (root : Root) (index : Atom) (rest : Lines) →
    reads c index ≡ false → nat_eq c to ≡ false → Absent c rest → Absent c (LoadThen site to element root index rest)
absent_load c site to element root index rest r e h =
    record {
      is = absent_append c (named_by index) (Names to ∷ pieces_of rest) (names_by c index ∙
          r) (or_false (nat_eq c to) _ e h.is);
    }

pub absent_store : (c site : ℕ) (element : IntType) (root : Root) (index from : Atom) (rest : Lines) →
    reads c index ≡ false → reads c from ≡ false → Absent c rest →
    Absent c (StoreThen site element root index from rest)
absent_store c site element root index from rest i f h =
    record {
      is = absent_append c (named_by index) (named_by from ++ pieces_of rest) (names_by c index ∙
          i) (absent_append c (named_by from) (pieces_of rest) (names_by c from ∙ f) h.is);
    }

pub absent_clear : (c array : ℕ) (rest : Lines) → Absent c rest → Absent c (ClearThen array rest)
absent_clear c array rest h = record { is = h.is }

pub absent_barrier : (c site : ℕ) (rest : Lines) → Absent c rest → Absent c (BarrierThen site rest)
absent_barrier c site rest h = record { is = h.is }

pub absent_if : (c site : ℕ) (test : Atom) (chosen other rest : Lines) → reads c test ≡ false → Absent c chosen →
    Absent c other → Absent c rest → Absent c (IfThen site test chosen other rest)
absent_if c site test chosen other rest r y n h =
    let b = holds_barrier chosen || holds_barrier other in
    record {
      is = names_cut c b _ ∙ absent_append c (named_by test) _ (names_by c test ∙ r) (names_cut c b _ ∙
          absent_append c (pieces_of chosen) _ y.is (names_cut c b _ ∙
          absent_append c (pieces_of other) _ n.is (names_cut c b _ ∙ h.is)));
    }

pub absent_loop : (c site : ℕ) (first : Test) (test : Lines) (answer : Atom) (body rest : Lines) → Absent c test →
    reads c answer ≡ false → Absent c body → Absent c rest → Absent c (LoopThen site first test answer body rest)
absent_loop c site first test answer body rest t r k h =
    let b = holds_barrier test || holds_barrier body in
    record {
      is = names_cut c b _ ∙
          absent_append c (pieces_of test) _ t.is (absent_append c (named_by answer) _ (names_by c answer ∙
          r) (names_cut c b _ ∙ absent_append c (pieces_of body) _ k.is (names_cut c b _ ∙ h.is)));
    }

-- ---- new cells

-- the number of the cell behind a new one
pub next_more : (m : Made) (kind : CellKind) (of : IntType) → next_cell (with_cell m kind of) ≡ suc (next_cell m)
next_more m kind of = length-append m.cells (record { kind = kind; of = of } ∷ []) ∙ omega arith

-- the cell is none of those from one on to another
abbrev pub IsOut : ℕ → ℕ → ℕ → Type 0
IsOut c a b = (k : ℕ) → a ≤ k → k < b → nat_eq c k ≡ false

pub out_within : (c a b a' b' : ℕ) → IsOut c a b → a ≤ a' → b' ≤ b → IsOut c a' b'
out_within c a b a' b' h l u k low high = h k (omega (arith, l, low)) (omega (arith, u, high))
