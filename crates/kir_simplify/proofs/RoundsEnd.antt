-- A round makes a kernel smaller, or the kernel is simple. So as many rounds as it is large make it simple.
use Rattle.std.proofs.Common.{◌≡◌, ℕ, zero, suc, ◌+◌, ◌<◌, ◌≤◌, List, [], ◌∷◌, map, Option, Some, None, unwrap_or}
use Rattle.std.proofs.Common.{refl, sym, ap, ap₂, ◌∙◌, subst, arith, true, false, if◌then◌else◌, ◌⊎◌, inl, inr, eq-eqb}
use Rattle.std.proofs.Common.{Bool as Test}
use Rattle.std.specs.Prelude.{nat_eq, nat_lt, not, ◌&&◌, ◌||◌}
use Rattle.std.proofs.lemmas.Bool.{true≢false, and_parts, eqb-true, lt-ltb, ltb-true}
use Rattle.std.proofs.lemmas.Option.{none-some}
use Rattle.cl_model.specs.Values.{is_zero}
use Rattle.kir.specs.declared.line.Atom.{Atom}
use Rattle.kir.specs.declared.line.Atom.TheVariants.{Const, Cell as CellAtom}
use Rattle.kir.specs.Tree.{Work, Unary, Binary, Builtin, Convert, Ask, Argument, Copy, Lines, NoLine, SetThen}
use Rattle.kir.specs.Tree.{LoadThen, StoreThen, ClearThen, IfThen, LoopThen, BarrierThen, joined_to, Kernel}
use Rattle.kir.specs.Live.{reads, some_reads, work_reads}
use Rattle.kir_simplify.specs.Reading.{reads_in}
use Rattle.kir_simplify.specs.Simple.{is_foregone, is_plain, is_value_cell, is_set_once, is_unread}
use Rattle.kir_simplify.specs.Simple.{stands_for_constant, is_decided, none_foregone, none_decided, none_unread}
use Rattle.kir_simplify.specs.Simple.{none_stands, IsSimple}
use Rattle.kir_simplify.specs.Faithful.{with_body, IsFaithful}
use Rattle.kir_simplify.specs.Passes.{Known, nothing_known, learned, known_atom, known_work, constant_value}
use Rattle.kir_simplify.specs.Passes.{foregone_value}
use Rattle.kir_simplify.specs.Passes.{foregone_type, reduced_work, settled_work, copied, learnt, with_offsets, folded}
use Rattle.kir_simplify.specs.Passes.{offsets_of, folded_of, spliced}
use Rattle.kir_simplify.specs.Offsets.{is_long_sum, is_zero_constant}
use Rattle.kir_simplify.specs.Passes.{spliced_of}
use Rattle.kir_simplify.specs.Passes.{swept, atom_size, atoms_size, work_size, size_of, round_of, shrinks, rounds}
use Rattle.kir_simplify.specs.Passes.{simplified_of}
use Rattle.kir_simplify.proofs.Chained.{chained}
use Rattle.kir_simplify.proofs.FoldedItems.{AreConstants, offsets_around}
use Rattle.kir_simplify.proofs.FoldedLess.{no_constants, constants_on, constants_inside}

-- ---- smaller, or as it should be

abbrev Out : ℕ → ℕ → Type 0 → Type 0
Out now was P = (suc now ≤ was) ⊎ ((now ≡ was) × P)

mapped : {P Q : Type 0} (now was : ℕ) → (P → Q) → Out now was P → Out now was Q
mapped now was f (inl less) = inl less
mapped now was f (inr (same, p)) = inr (same, f p)

both : {P Q : Type 0} (a' a b' b : ℕ) → Out a' a P → Out b' b Q → Out (a' + b') (a + b) (P × Q)
both a' a b' b (inl l) (inl m) = inl (omega arith)
both a' a b' b (inl l) (inr (same, q)) = inl (omega arith)
both a' a b' b (inr (same, p)) (inl m) = inl (omega arith)
both a' a b' b (inr (same, p)) (inr (same', q)) = inr (omega arith, (p, q))

same_out : (n : ℕ) → Out n n (Unit {0})
same_out n = inr (refl, tt)

one_on : {P : Type 0} (now was : ℕ) → Out now was P → Out (suc now) (suc was) P
one_on now was (inl l) = inl (omega arith)
one_on now was (inr (same, p)) = inr (ap suc same, p)

no_more : {P : Type 0} (now was : ℕ) → Out now was P → now ≤ was
no_more now was (inl l) = omega arith
no_more now was (inr (same, p)) = omega arith

neither : (x y : Test) → x ≡ false → y ≡ false → (x || y) ≡ false
neither x y e f = ap₂ (λ a b. a || b) e f

nothing_less : (m n : ℕ) → n ≤ 0 → nat_lt m n ≡ false
nothing_less m n small = by_test (nat_lt m n) refl
  where
    by_test : (b : Test) → nat_lt m n ≡ b → b ≡ false
    by_test true e = let less = ltb-true m n e in absurd (omega arith)
    by_test false e = refl

each_of : (x y : Test) → x ≡ true → y ≡ true → (x && y) ≡ true
each_of x y e f = ap₂ (λ a b. a && b) e f

-- ---- folding

-- no known cell is read
abbrev ReadsNone : Known → (ℕ → Test) → Type 0
ReadsNone known reads_it = (c : ℕ) (b : Atom) → known c ≡ Some b → reads_it c ≡ false

atom_out : (known : Known) → AreConstants known → (a : Atom) →
    Out (atom_size (known_atom known a)) (atom_size a) ((known_atom known a ≡ a) × ReadsNone known (λ c. reads c a))
atom_out known k (Const value of) = inr (refl, (refl, λ c b e. refl))
atom_out known k (CellAtom d) = by_known (known d) refl
  where
    apart : (c : ℕ) (b : Atom) → known d ≡ None → known c ≡ Some b → (t : Test) → nat_eq c d ≡ t → nat_eq c d ≡ false
    apart c b none e true same =
        absurd (none-some b (sym none ∙ (ap known (sym (eqb-true c d same)) ∙ e)))
    apart c b none e false same = same

    by_known : (o : Option Atom) → known d ≡ o → Out (atom_size (unwrap_or o (CellAtom d))) 1
        ((unwrap_or o (CellAtom d) ≡ CellAtom d) × ReadsNone known (λ c. nat_eq c d))
    by_known None is = inr (refl, (refl, λ c b e. apart c b is e (nat_eq c d) refl))
    by_known (Some (Const value of)) is = inl (omega arith)
    by_known (Some (CellAtom b)) is = absurd (true≢false (sym (k d (CellAtom b) is)))

atoms_out : (known : Known) → AreConstants known → (args : List Atom) →
    Out (atoms_size (map (known_atom known) args)) (atoms_size args)
    ((map (known_atom known) args ≡ args) × ReadsNone known (λ c. some_reads c args))
atoms_out known k [] = inr (refl, (refl, λ c b e. refl))
atoms_out known k (a ∷ args) =
    mapped _ _ (λ p. (
      ap₂ (λ x xs. x ∷ xs) p.0.0 p.1.0,
      λ c b e. neither (reads c a) (some_reads c args) (p.0.1 c b e) (p.1.1 c b e),
    )) (both _ _ _ _ (atom_out known k a) (atoms_out known k args))

known_out : (known : Known) → AreConstants known → (work : Work) →
    Out (work_size (known_work known work)) (work_size work)
    ((known_work known work ≡ work) × ReadsNone known (λ c. work_reads c work))
known_out known k (Unary op of a) =
    one_on _ _ (mapped _ _ (λ p. (ap (Unary op of) p.0, p.1)) (atom_out known k a))
known_out known k (Binary op of a b) =
    one_on _ _ (one_on _ _ (mapped _ _ (λ p. (
      ap₂ (Binary op of) p.0.0 p.1.0,
      λ c x e. neither (reads c a) (reads c b) (p.0.1 c x e) (p.1.1 c x e),
    )) (both _ _ _ _ (atom_out known k a) (atom_out known k b))))
known_out known k (Builtin f of args) =
    one_on _ _ (mapped _ _ (λ p. (ap (Builtin f of) p.0, p.1)) (atoms_out known k args))
known_out known k (Convert to a) =
    one_on _ _ (mapped _ _ (λ p. (ap (Convert to) p.0, p.1)) (atom_out known k a))
known_out known k (Ask what dim) = mapped _ _ (λ p. (ap (Ask what) p.0, p.1)) (atom_out known k dim)
known_out known k (Argument number) = inr (refl, (refl, λ c b e. refl))
known_out known k (Copy a) = mapped _ _ (λ p. (ap Copy p.0, p.1)) (atom_out known k a)

-- what is computed of constants alone is no copy
foregone_size : (work : Work) → is_foregone work ≡ true → 1 ≤ work_size work
foregone_size (Unary op of a) e = omega arith
foregone_size (Binary op of a b) e = omega arith
foregone_size (Builtin f of args) e = omega arith
foregone_size (Convert to a) e = omega arith
foregone_size (Ask what dim) e = absurd (true≢false (sym e))
foregone_size (Argument number) e = absurd (true≢false (sym e))
foregone_size (Copy a) e = absurd (true≢false (sym e))

-- a sum that is reduced is one operator of one operand
reduced_out : (work : Work) → Out (work_size (reduced_work work)) (work_size work) (reduced_work work ≡ work)
reduced_out (Binary op of a b) = by_left (is_long_sum op of && is_zero_constant a)
  where
    by_left : (t : Test) → Out (work_size (if t then Convert of b else Binary op of a b))
        (work_size (Binary op of a b)) ((if t then Convert of b else Binary op of a b) ≡ Binary op of a b)
    by_left true = inl (omega arith)
    by_left false = inr (refl, refl)
reduced_out (Unary op of a) = inr (refl, refl)
reduced_out (Builtin f of args) = inr (refl, refl)
reduced_out (Convert to a) = inr (refl, refl)
reduced_out (Ask what dim) = inr (refl, refl)
reduced_out (Argument number) = inr (refl, refl)
reduced_out (Copy a) = inr (refl, refl)

settled_out : (work : Work) → Out (work_size (settled_work work)) (work_size work)
    ((settled_work work ≡ work) × (is_foregone work ≡ false))
settled_out work = by_test (is_foregone work) refl
  where
    by_test : (b : Test) → is_foregone work ≡ b →
        Out (work_size (if b then Copy (Const (foregone_value work) (foregone_type work)) else reduced_work work))
        (work_size work)
        (((if b then Copy (Const (foregone_value work) (foregone_type work)) else reduced_work work) ≡ work) ×
        (is_foregone work ≡ false))
    by_test true e = let size = foregone_size work e in inl (omega arith)
    by_test false e = mapped _ _ (λ same. (same, e)) (reduced_out work)

then_out : {P Q R : Type 0} (a b c : ℕ) → Out a b P → Out b c Q → (P → Q → R) → Out a c R
then_out a b c (inl l) (inl m) f = inl (omega arith)
then_out a b c (inl l) (inr (same, q)) f = inl (omega arith)
then_out a b c (inr (same, p)) (inl m) f = inl (omega arith)
then_out a b c (inr (same, p)) (inr (same', q)) f = inr (same ∙ same', f p q)

work_out : (known : Known) → AreConstants known → (work : Work) →
    Out (work_size (settled_work (known_work known work))) (work_size work)
    ((settled_work (known_work known work) ≡ work) × (is_foregone work ≡ false) ×
    ReadsNone known (λ c. work_reads c work))
work_out known k work =
    then_out _ (work_size (known_work known work)) _ (settled_out (known_work known work)) (known_out known k work)
    (λ p q. (p.0 ∙ q.0, sym (ap is_foregone q.0) ∙ p.1, q.1))

module _ (kernel : Kernel) where
  abbrev F : Known → Lines → Lines
  F known lines = folded (is_set_once kernel) (offsets_of kernel) known lines

  -- what is known in a loop
  abbrev inside : Known → Known
  inside known = with_offsets (offsets_of kernel) known

  known_inside : (known : Known) (c : ℕ) (b : Atom) → known c ≡ Some b → inside known c ≡ Some b
  known_inside known = offsets_around (offsets_of kernel) known

  -- folding changes nothing, and finds nothing to be done
  record IsDone (known : Known) (lines : Lines) : Type 0 where
    same : F known lines ≡ lines
    none : none_foregone lines ≡ true
    unread : ReadsNone known (λ c. reads_in c lines)
    stands : none_stands kernel lines ≡ true

  -- what is known is known behind a line, too
  still_known : (known : Known) (to : ℕ) (work : Work) (c : ℕ) (b : Atom) → known c ≡ Some b →
      (a : Atom) × (learnt (is_set_once kernel) known to work c ≡ Some a)
  still_known known to work c b e = by_test (is_set_once kernel to && is_plain work)
    where
      by_cell : (t : Test) → (a : Atom) × ((if t then Some (copied work) else known c) ≡ Some a)
      by_cell true = (copied work, refl)
      by_cell false = (b, e)

      by_test : (t : Test) → (a : Atom) × ((if t then learned known to (copied work) else known) c ≡ Some a)
      by_test true = by_cell (nat_eq c to)
      by_test false = (b, e)

  -- a cell that stands for a constant is known
  learnt_here : (known : Known) (to : ℕ) (work : Work) → (is_set_once kernel to && is_plain work) ≡ true →
      learnt (is_set_once kernel) known to work to ≡ Some (copied work)
  learnt_here known to work e =
      ap (λ (t : Test). (if t then learned known to (copied work) else known) to) e ∙
      ap (λ (t : Test). if t then Some (copied work) else known to) (eq-eqb to to refl)

  -- so it is read nowhere behind
  none_here : (known : Known) (to : ℕ) (work work' : Work) (rest : Lines) → work' ≡ work →
      IsDone (learnt (is_set_once kernel) known to work') rest →
      not (stands_for_constant kernel to work && reads_in to rest) ≡ true
  none_here known to work work' rest same done = by_test (stands_for_constant kernel to work) refl
    where
      by_test : (t : Test) → stands_for_constant kernel to work ≡ t → not (t && reads_in to rest) ≡ true
      by_test false e = refl
      by_test true e =
          let plain = and_parts (is_plain work) (is_value_cell kernel to && is_set_once kernel to) e in
          let once = and_parts (is_value_cell kernel to) (is_set_once kernel to) plain.1 in
          let known_now = learnt_here known to work' (each_of (is_set_once kernel to) (is_plain work') once.1
          (ap is_plain same ∙ plain.0)) in
          ap not (done.unread to (copied work') known_now)

  lines_out : (known : Known) → AreConstants known → (lines : Lines) →
      Out (size_of (F known lines)) (size_of lines) (IsDone known lines)
  lines_out known k NoLine =
      inr (refl, record { same = refl; none = refl; unread = λ c b e. refl; stands = refl })
  lines_out known k (SetThen to work rest) =
      one_on _ _ (mapped _ _ (λ p. record {
        same = ap₂ (SetThen to) p.0.0 p.1.same;
        none = each_of (not (is_foregone work)) (none_foregone rest) (ap not p.0.1) p.1.none;
        unread = λ c b e.
            let still = still_known known to (settled_work (known_work known work)) c b e in
            neither (work_reads c work) (reads_in c rest) (p.0.2 c b e) (p.1.unread c still.0 still.1);
        stands = each_of _ (none_stands kernel rest)
            (none_here known to work (settled_work (known_work known work)) rest p.0.0 p.1) p.1.stands;
      }) (both _ _ _ _ (work_out known k work)
      (lines_out (learnt (is_set_once kernel) known to (settled_work (known_work known work)))
      (constants_on (is_set_once kernel) known to (settled_work (known_work known work)) k) rest)))
  lines_out known k (LoadThen site to element root index rest) =
      one_on _ _ (mapped _ _ (λ p. record {
        same = ap₂ (LoadThen site to element root) p.0.0 p.1.same;
        none = p.1.none;
        unread = λ c b e. neither (reads c index) (reads_in c rest) (p.0.1 c b e) (p.1.unread c b e);
        stands = p.1.stands;
      }) (both _ _ _ _ (atom_out known k index) (lines_out known k rest)))
  lines_out known k (StoreThen site element root index from rest) =
      one_on _ _ (mapped _ _ (λ p. record {
        same = ap₂ (λ x (y : Atom × Lines). StoreThen site element root x y.0 y.1) p.0.0
            (ap₂ (λ x y. (x, y)) p.1.0.0 p.1.1.same);
        none = p.1.1.none;
        unread = λ c b e. neither (reads c index || reads c from) (reads_in c rest)
            (neither (reads c index) (reads c from) (p.0.1 c b e) (p.1.0.1 c b e)) (p.1.1.unread c b e);
        stands = p.1.1.stands;
      }) (both _ _ _ _ (atom_out known k index) (both _ _ _ _ (atom_out known k from) (lines_out known k rest))))
  lines_out known k (ClearThen array rest) =
      one_on _ _ (mapped _ _ (λ p. record {
        same = ap (ClearThen array) p.same;
        none = p.none;
        unread = p.unread;
        stands = p.stands;
      }) (lines_out known k rest))
  lines_out known k (IfThen site test chosen other rest) =
      one_on _ _ (mapped _ _ (λ p. record {
        same = ap₂ (λ x (y : Lines × Lines × Lines). IfThen site x y.0 y.1 y.2) p.0.0
            (ap₂ (λ x (y : Lines × Lines). (x, y.0, y.1)) p.1.0.same
            (ap₂ (λ x y. (x, y)) p.1.1.0.same p.1.1.1.same));
        none = each_of _ _ p.1.0.none (each_of _ _ p.1.1.0.none p.1.1.1.none);
        unread = λ c b e. neither (reads c test) _ (p.0.1 c b e)
            (neither (reads_in c chosen) _ (p.1.0.unread c b e)
            (neither (reads_in c other) (reads_in c rest) (p.1.1.0.unread c b e) (p.1.1.1.unread c b e)));
        stands = each_of _ _ p.1.0.stands (each_of _ _ p.1.1.0.stands p.1.1.1.stands);
      }) (both _ _ _ _ (atom_out known k test)
      (both _ _ _ _ (lines_out known k chosen)
      (both _ _ _ _ (lines_out known k other) (lines_out known k rest)))))
  lines_out known k (LoopThen site test_first test answer body rest) =
      one_on _ _ (mapped _ _ (λ p. record {
        same = ap₂ (λ x (y : Atom × Lines × Lines). LoopThen site test_first x y.0 y.1 y.2) p.0.same
            (ap₂ (λ x (y : Lines × Lines). (x, y.0, y.1)) p.1.0.0
            (ap₂ (λ x y. (x, y)) p.1.1.0.same p.1.1.1.same));
        none = each_of _ _ p.0.none (each_of _ _ p.1.1.0.none p.1.1.1.none);
        unread = λ c b e. neither (reads_in c test) _ (p.0.unread c b (known_inside known c b e))
            (neither (reads c answer) _ (p.1.0.1 c b (known_inside known c b e))
            (neither (reads_in c body) (reads_in c rest) (p.1.1.0.unread c b (known_inside known c b e))
            (p.1.1.1.unread c b e)));
        stands = each_of _ _ p.0.stands (each_of _ _ p.1.1.0.stands p.1.1.1.stands);
      }) (both _ _ _ _ (lines_out (inside known) (constants_inside (offsets_of kernel) known k) test)
      (both _ _ _ _ (atom_out (inside known) (constants_inside (offsets_of kernel) known k) answer)
      (both _ _ _ _ (lines_out (inside known) (constants_inside (offsets_of kernel) known k) body)
      (lines_out known k rest)))))
  lines_out known k (BarrierThen site rest) =
      one_on _ _ (mapped _ _ (λ p. record {
        same = ap (BarrierThen site) p.same;
        none = p.none;
        unread = p.unread;
        stands = p.stands;
      }) (lines_out known k rest))

-- ---- splicing

joined_size : (lines tail : Lines) → size_of (joined_to lines tail) ≡ size_of lines + size_of tail
joined_size NoLine tail = omega arith
joined_size (SetThen to work rest) tail = let h = joined_size rest tail in omega arith
joined_size (LoadThen site to element root index rest) tail = let h = joined_size rest tail in omega arith
joined_size (StoreThen site element root index from rest) tail = let h = joined_size rest tail in omega arith
joined_size (ClearThen array rest) tail = let h = joined_size rest tail in omega arith
joined_size (IfThen site test chosen other rest) tail = let h = joined_size rest tail in omega arith
joined_size (LoopThen site test_first test answer body rest) tail = let h = joined_size rest tail in omega arith
joined_size (BarrierThen site rest) tail = let h = joined_size rest tail in omega arith

abbrev IsSpliced : Lines → Type 0
IsSpliced lines = (spliced lines ≡ lines) × (none_decided lines ≡ true)

branch_size : (b : Test) (x y z rest : Lines) (n m : ℕ) → size_of x ≤ n → size_of y ≤ m →
    size_of (joined_to (if b then y else x) rest) ≤ n + (m + size_of rest)
branch_size true x y z rest n m l l' = let h = joined_size y rest in omega arith
branch_size false x y z rest n m l l' = let h = joined_size x rest in omega arith

choice_out : (site : ℕ) (test : Atom) (chosen other rest : Lines) →
    Out (size_of (spliced chosen)) (size_of chosen) (IsSpliced chosen) →
    Out (size_of (spliced other)) (size_of other) (IsSpliced other) →
    Out (size_of (spliced rest)) (size_of rest) (IsSpliced rest) → (b : Test) → is_decided test chosen other ≡ b →
    Out (size_of (if b
    then joined_to (if is_zero (constant_value test) then spliced other else spliced chosen) (spliced rest)
    else IfThen site test (spliced chosen) (spliced other) (spliced rest)))
    (suc (atom_size test + (size_of chosen + (size_of other + size_of rest))))
    (((if b then joined_to (if is_zero (constant_value test) then spliced other else spliced chosen) (spliced rest)
    else IfThen site test (spliced chosen) (spliced other) (spliced rest)) ≡ IfThen site test chosen other rest) ×
    ((not (is_decided test chosen other) && (none_decided chosen && (none_decided other && none_decided rest))) ≡ true))
choice_out site test chosen other rest c o r true e =
    let all = branch_size (is_zero (constant_value test)) (spliced chosen) (spliced other) NoLine (spliced rest)
    (size_of chosen) (size_of other) (no_more _ _ c) (no_more _ _ o) in
    let behind = no_more (size_of (spliced rest)) (size_of rest) r in
    inl (omega arith)
choice_out site test chosen other rest c o r false e =
    one_on _ _ (mapped _ _ (λ p. (
      ap₂ (λ x (y : Lines × Lines). IfThen site test x y.0 y.1) p.1.0.0 (ap₂ (λ x y. (x, y)) p.1.1.0.0 p.1.1.1.0),
      each_of _ _ (ap not e) (each_of _ _ p.1.0.1 (each_of _ _ p.1.1.0.1 p.1.1.1.1)),
    )) (both (atom_size test) (atom_size test) _ _ (same_out (atom_size test)) (both _ _ _ _ c (both _ _ _ _ o r))))

spliced_out : (lines : Lines) → Out (size_of (spliced lines)) (size_of lines) (IsSpliced lines)
spliced_out NoLine = inr (refl, (refl, refl))
spliced_out (SetThen to work rest) =
    one_on _ _ (mapped _ _ (λ p. (ap (SetThen to work) p.1.0, p.1.1))
    (both (work_size work) (work_size work) _ _ (same_out (work_size work)) (spliced_out rest)))
spliced_out (LoadThen site to element root index rest) =
    one_on _ _ (mapped _ _ (λ p. (ap (LoadThen site to element root index) p.1.0, p.1.1))
    (both (atom_size index) (atom_size index) _ _ (same_out (atom_size index)) (spliced_out rest)))
spliced_out (StoreThen site element root index from rest) =
    one_on _ _ (mapped _ _ (λ p. (ap (StoreThen site element root index from) p.1.1.0, p.1.1.1))
    (both (atom_size index) (atom_size index) _ _ (same_out (atom_size index))
    (both (atom_size from) (atom_size from) _ _ (same_out (atom_size from)) (spliced_out rest))))
spliced_out (ClearThen array rest) =
    one_on _ _ (mapped _ _ (λ p. (ap (ClearThen array) p.0, p.1)) (spliced_out rest))
spliced_out (IfThen site test chosen other rest) =
    choice_out site test chosen other rest (spliced_out chosen) (spliced_out other) (spliced_out rest)
    (is_decided test chosen other) refl
spliced_out (LoopThen site test_first test answer body rest) =
    one_on _ _ (mapped _ _ (λ p. (
      ap₂ (λ x (y : Lines × Lines). LoopThen site test_first x answer y.0 y.1) p.0.0
          (ap₂ (λ x y. (x, y)) p.1.1.0.0 p.1.1.1.0),
      each_of _ _ p.0.1 (each_of _ _ p.1.1.0.1 p.1.1.1.1),
    )) (both _ _ _ _ (spliced_out test)
    (both (atom_size answer) (atom_size answer) _ _ (same_out (atom_size answer))
    (both _ _ _ _ (spliced_out body) (spliced_out rest)))))
spliced_out (BarrierThen site rest) =
    one_on _ _ (mapped _ _ (λ p. (ap (BarrierThen site) p.0, p.1)) (spliced_out rest))

-- ---- sweeping

module _ (kernel : Kernel) where
  abbrev IsSwept : Lines → Type 0
  IsSwept lines = (swept (is_unread kernel) lines ≡ lines) × (none_unread kernel lines ≡ true)

  set_out : (to : ℕ) (work : Work) (rest : Lines) →
      Out (size_of (swept (is_unread kernel) rest)) (size_of rest) (IsSwept rest) → (b : Test) →
      is_unread kernel to ≡ b
      → Out (size_of (if b then swept (is_unread kernel) rest else SetThen to work (swept (is_unread kernel) rest)))
      (suc (work_size work + size_of rest))
      (((if b then swept (is_unread kernel) rest else SetThen to work (swept (is_unread kernel) rest)) ≡
      SetThen to work rest) × ((not (is_unread kernel to) && none_unread kernel rest) ≡ true))
  set_out to work rest r true e =
      let behind = no_more (size_of (swept (is_unread kernel) rest)) (size_of rest) r in
      inl (omega arith)
  set_out to work rest r false e =
      one_on _ _ (mapped _ _ (λ p. (ap (SetThen to work) p.1.0, each_of _ _ (ap not e) p.1.1))
      (both (work_size work) (work_size work) _ _ (same_out (work_size work)) r))

  swept_out : (lines : Lines) → Out (size_of (swept (is_unread kernel) lines)) (size_of lines) (IsSwept lines)
  swept_out NoLine = inr (refl, (refl, refl))
  swept_out (SetThen to work rest) = set_out to work rest (swept_out rest) (is_unread kernel to) refl
  swept_out (LoadThen site to element root index rest) =
      one_on _ _ (mapped _ _ (λ p. (ap (LoadThen site to element root index) p.1.0, p.1.1))
      (both (atom_size index) (atom_size index) _ _ (same_out (atom_size index)) (swept_out rest)))
  swept_out (StoreThen site element root index from rest) =
      one_on _ _ (mapped _ _ (λ p. (ap (StoreThen site element root index from) p.1.1.0, p.1.1.1))
      (both (atom_size index) (atom_size index) _ _ (same_out (atom_size index))
      (both (atom_size from) (atom_size from) _ _ (same_out (atom_size from)) (swept_out rest))))
  swept_out (ClearThen array rest) =
      one_on _ _ (mapped _ _ (λ p. (ap (ClearThen array) p.0, p.1)) (swept_out rest))
  swept_out (IfThen site test chosen other rest) =
      one_on _ _ (mapped _ _ (λ p. (
        ap₂ (λ x (y : Lines × Lines). IfThen site test x y.0 y.1) p.1.0.0 (ap₂ (λ x y. (x, y)) p.1.1.0.0 p.1.1.1.0),
        each_of _ _ p.1.0.1 (each_of _ _ p.1.1.0.1 p.1.1.1.1),
      )) (both (atom_size test) (atom_size test) _ _ (same_out (atom_size test))
      (both _ _ _ _ (swept_out chosen) (both _ _ _ _ (swept_out other) (swept_out rest)))))
  swept_out (LoopThen site test_first test answer body rest) =
      one_on _ _ (mapped _ _ (λ p. (
        ap₂ (λ x (y : Lines × Lines). LoopThen site test_first x answer y.0 y.1) p.0.0
            (ap₂ (λ x y. (x, y)) p.1.1.0.0 p.1.1.1.0),
        each_of _ _ p.0.1 (each_of _ _ p.1.1.0.1 p.1.1.1.1),
      )) (both _ _ _ _ (swept_out test)
      (both (atom_size answer) (atom_size answer) _ _ (same_out (atom_size answer))
      (both _ _ _ _ (swept_out body) (swept_out rest)))))
  swept_out (BarrierThen site rest) =
      one_on _ _ (mapped _ _ (λ p. (ap (BarrierThen site) p.0, p.1)) (swept_out rest))

-- ---- rounds

-- a round makes the kernel smaller, or it changes nothing, and the kernel is simple
pub round_out : (kernel : Kernel) →
    Out (size_of (round_of kernel).body) (size_of kernel.body) ((round_of kernel ≡ kernel) × IsSimple kernel)
round_out kernel =
    then_out {Q = IsSpliced (folded_of kernel).body × IsDone kernel nothing_known kernel.body} _
    (size_of (spliced_of (folded_of kernel)).body) _
    (swept_out (spliced_of (folded_of kernel)) (spliced_of (folded_of kernel)).body)
    (then_out _ (size_of (folded_of kernel).body) _ (spliced_out (folded_of kernel).body)
    (lines_out kernel nothing_known no_constants kernel.body) (λ p q. (p, q)))
    (λ p q.
    let one = q.1.same in
    let two = q.0.0 ∙ one in (
      ap (with_body kernel) (p.0 ∙ two),
      each_of _ _ q.1.none
          (each_of _ _ (subst (λ lines. none_decided lines ≡ true) one q.0.1)
          (each_of _ _ (subst (λ lines. none_unread (with_body kernel lines) lines ≡ true) two p.1) q.1.stands)),
    ))

-- one that makes it no smaller
pub last_round : (kernel : Kernel) → shrinks kernel ≡ false → (round_of kernel ≡ kernel) × IsSimple kernel
last_round kernel e = by_size (round_out kernel)
  where
    by_size : Out (size_of (round_of kernel).body) (size_of kernel.body) ((round_of kernel ≡ kernel) × IsSimple kernel)
        → (round_of kernel ≡ kernel) × IsSimple kernel
    by_size (inl less) = absurd (true≢false (sym (lt-ltb _ _ less) ∙ e))
    by_size (inr (same, last)) = last

by_shrinking : (n : ℕ) (kernel : Kernel) → size_of kernel.body ≤ suc n →
    (size_of (round_of kernel).body ≤ n → IsSimple (rounds n (round_of kernel))) → (b : Test) → shrinks kernel ≡ b →
    IsSimple (if b then rounds n (round_of kernel) else kernel)
by_shrinking n kernel small f true e =
    let less = ltb-true (size_of (round_of kernel).body) (size_of kernel.body) e in f (omega arith)
by_shrinking n kernel small f false e = (last_round kernel e).1

rounds_simple : (n : ℕ) (kernel : Kernel) → size_of kernel.body ≤ n → IsSimple (rounds n kernel)
rounds_simple zero kernel small =
    (last_round kernel (nothing_less (size_of (round_of kernel).body) (size_of kernel.body) small)).1
rounds_simple (suc n) kernel small =
    by_shrinking n kernel small (λ less. rounds_simple n (round_of kernel) less) (shrinks kernel) refl

-- what is answered is simple
pub simplified_simple : (kernel : Kernel) → IsSimple (simplified_of kernel)
unfolding simplified_of
simplified_simple kernel = rounds_simple (size_of kernel.body) kernel (omega arith)

-- ---- how many rounds there may be at most makes no difference from the size on

none_left : (m : ℕ) (kernel : Kernel) → size_of kernel.body ≤ 0 → rounds m kernel ≡ kernel
none_left zero kernel small = refl
none_left (suc m) kernel small =
    ap (λ (b : Test). if b then rounds m (round_of kernel) else kernel)
    (nothing_less (size_of (round_of kernel).body) (size_of kernel.body) small)

either_count : (n m : ℕ) (kernel : Kernel) → size_of kernel.body ≤ suc n → size_of kernel.body ≤ suc m →
    (size_of (round_of kernel).body ≤ n → size_of (round_of kernel).body ≤ m →
    rounds n (round_of kernel) ≡ rounds m (round_of kernel)) → (b : Test) → shrinks kernel ≡ b →
    (if b then rounds n (round_of kernel) else kernel) ≡ (if b then rounds m (round_of kernel) else kernel)
either_count n m kernel s t f true e =
    let less = ltb-true (size_of (round_of kernel).body) (size_of kernel.body) e in f (omega arith) (omega arith)
either_count n m kernel s t f false e = refl

enough : (n m : ℕ) (kernel : Kernel) → size_of kernel.body ≤ n → size_of kernel.body ≤ m →
    rounds n kernel ≡ rounds m kernel
enough zero m kernel s t = sym (none_left m kernel s)
enough (suc n) zero kernel s t = none_left (suc n) kernel t
enough (suc n) (suc m) kernel s t =
    either_count n m kernel s t (λ l k. enough n m (round_of kernel) l k) (shrinks kernel) refl

-- a round that makes it smaller is one on the way
pub simplified_on : (kernel : Kernel) → shrinks kernel ≡ true → simplified_of (round_of kernel) ≡ simplified_of kernel
unfolding simplified_of
simplified_on kernel e = by_count (size_of kernel.body) refl
  where
    by_count : (n : ℕ) → size_of kernel.body ≡ n →
        rounds (size_of (round_of kernel).body) (round_of kernel) ≡ rounds n kernel
    by_count zero s =
        absurd (true≢false (sym e ∙ nothing_less (size_of (round_of kernel).body) (size_of kernel.body) (omega
        (arith, s))))
    by_count (suc n) s =
        let less = ltb-true (size_of (round_of kernel).body) (size_of kernel.body) e in
        enough (size_of (round_of kernel).body) n (round_of kernel) (omega arith) (omega (arith, s, less)) ∙
        sym (ap (λ (b : Test). if b then rounds n (round_of kernel) else kernel) e)

-- one that does not is the last
pub simplified_last : (kernel : Kernel) → shrinks kernel ≡ false → round_of kernel ≡ simplified_of kernel
unfolding simplified_of
simplified_last kernel e = (last_round kernel e).0 ∙ sym (by_count (size_of kernel.body))
  where
    by_count : (n : ℕ) → rounds n kernel ≡ kernel
    by_count zero = refl
    by_count (suc n) = ap (λ (b : Test). if b then rounds n (round_of kernel) else kernel) e

-- only the lines are others
either_kept : (n : ℕ) (kernel : Kernel) →
    rounds n (round_of kernel) ≡ with_body (round_of kernel) (rounds n (round_of kernel)).body → (b : Test) →
    (if b then rounds n (round_of kernel) else kernel) ≡
    with_body kernel (if b then rounds n (round_of kernel) else kernel).body
either_kept n kernel same true = same
either_kept n kernel same false = refl

kept_by : (n : ℕ) (kernel : Kernel) → rounds n kernel ≡ with_body kernel (rounds n kernel).body
kept_by zero kernel = refl
kept_by (suc n) kernel = either_kept n kernel (kept_by n (round_of kernel)) (shrinks kernel)

pub simplified_kept : (kernel : Kernel) → simplified_of kernel ≡ with_body kernel (simplified_of kernel).body
unfolding simplified_of
simplified_kept kernel = kept_by (size_of kernel.body) kernel

-- ---- the loop over rounds

-- sizes tell whether the kernel shrinks
pub does_shrink : (kernel next : Kernel) (before after : ℕ) → before ≡ size_of kernel.body → next ≡ round_of kernel →
    after ≡ size_of next.body → after < before → shrinks kernel ≡ true
does_shrink kernel next before after b n a less =
    lt-ltb _ _ (subst (λ s. size_of (round_of kernel).body < s) b
    (subst (λ s. s < before) (a ∙ ap (λ (k : Kernel). size_of k.body) n) less))

pub does_not_shrink : (kernel next : Kernel) (before after : ℕ) → before ≡ size_of kernel.body →
    next ≡ round_of kernel → after ≡ size_of next.body → before ≤ after → shrinks kernel ≡ false
does_not_shrink kernel next before after b n a most =
    not_less _ _ (subst (λ s. s ≤ size_of (round_of kernel).body) b
    (subst (λ s. before ≤ s) (a ∙ ap (λ (k : Kernel). size_of k.body) n) most))
  where
    not_less : (m n : ℕ) → n ≤ m → nat_lt m n ≡ false
    not_less m n most = by_test (nat_lt m n) refl
      where
        by_test : (t : Test) → nat_lt m n ≡ t → t ≡ false
        by_test true e = let less = ltb-true m n e in absurd (omega arith)
        by_test false e = refl

-- what is left behind the last round
pub finished : (kernel now next : Kernel) → next ≡ round_of now → shrinks now ≡ false →
    simplified_of now ≡ simplified_of kernel → next ≡ simplified_of kernel
finished kernel now next n last same = n ∙ (simplified_last now last ∙ same)

-- and behind one on the way
pub goes_on : (kernel now next : Kernel) → next ≡ round_of now → shrinks now ≡ true →
    simplified_of now ≡ simplified_of kernel → simplified_of next ≡ simplified_of kernel
goes_on kernel now next n more same = ap simplified_of n ∙ (simplified_on now more ∙ same)

-- each is faithful to the first
pub faithful_on : (kernel now next : Kernel) → (now ≡ kernel) ⊎ IsFaithful kernel now → IsFaithful now next →
    IsFaithful kernel next
faithful_on kernel now next (inl same) f = subst (λ k. IsFaithful k next) same f
faithful_on kernel now next (inr before) f = chained kernel now next before f
