-- What folding leaves of a text: the same barriers and accesses, and no other names.
use Rattle.std.proofs.Common.{◌≡◌, ℕ, ◌+◌, List, [], ◌∷◌, ◌++◌, map, Option, Some, None, unwrap_or, refl, sym, ap}
use Rattle.std.proofs.Common.{ap₂, ◌∙◌, subst, true, false, if◌then◌else◌, ◌⊎◌, inl, inr, pos}
use Rattle.std.proofs.Common.{Bool as Test}
use Rattle.std.specs.Prelude.{nat_eq, not, ◌&&◌, ◌||◌}
use Rattle.std.proofs.lemmas.Bool.{true≢false, and_parts}
use Rattle.std.proofs.lemmas.Option.{none-some}
use Rattle.wg_num.specs.declared.types.IntType.TheVariants.{Long}
use Rattle.kir.specs.declared.line.Atom.{Atom}
use Rattle.kir.specs.declared.line.Atom.TheVariants.{Const, Cell as CellAtom}
use Rattle.kir.specs.Tree.{Work, Unary, Binary, Builtin, Convert, Ask, Argument, Copy, Lines, NoLine, SetThen}
use Rattle.kir.specs.Tree.{LoadThen, StoreThen, ClearThen, IfThen, LoopThen, BarrierThen, Kernel}
use Rattle.kir.specs.Places.{Behind, IntoChosen, IntoOther, IntoTest, ToAnswer, IntoBody, Place, lines_at, behind}
use Rattle.kir.specs.Places.{chosen_of, other_of, test_of, body_of}
use Rattle.kir.specs.Live.{reads, some_reads, work_reads, live_in}
use Rattle.kir.specs.Cuts.{holds_barrier, is_barrier, is_choice, is_round, ends_part, is_cut, is_line, is_behind_round}
use Rattle.kir.specs.Cuts.{is_stop}
use Rattle.kir.specs.Keeps.{Piece, Names, Cut, named_by, named_by_all, named_by_work, cut_before, pieces_of, names_cell}
use Rattle.kir.specs.Keeps.{names_behind_cut, names_across, is_keep}
use Rattle.kir.specs.Counts.{once_if, load_lines, store_lines, barrier_lines}
use Rattle.kir_simplify.specs.Simple.{is_constant, is_foregone, is_plain, is_set_once}
use Rattle.kir_simplify.specs.Passes.{Known, nothing_known, learned, known_atom, known_work, foregone_value}
use Rattle.kir_simplify.specs.Passes.{foregone_type, settled_work, reduced_work, copied, learnt, with_offsets, folded}
use Rattle.kir_simplify.specs.Passes.{offsets_of, folded_of}
use Rattle.kir_simplify.specs.Offsets.{is_long_sum, is_zero_constant}
use Rattle.kir_simplify.proofs.FoldedItems.{AreConstants, learned_cases, LearnedOf, here, elsewhere, offsets_cases}

-- ---- tests

pub or_less : (x y x' y' : Test) → (x' ≡ true → x ≡ true) → (y' ≡ true → y ≡ true) → (x' || y') ≡ true → (x || y) ≡ true
or_less true y x' y' f g e = refl
or_less false y true y' f g e = absurd (true≢false (sym (f refl)))
or_less false y false y' f g e = g e

pub and_less : (x y x' y' : Test) → (x' ≡ true → x ≡ true) → (y' ≡ true → y ≡ true) → (x' && y') ≡ true →
    (x && y) ≡ true
and_less true y true y' f g e = g e
and_less true y false y' f g e = absurd (true≢false (sym e))
and_less false y true y' f g e = absurd (true≢false (sym (f refl)))
and_less false y false y' f g e = absurd (true≢false (sym e))

-- ---- what stands for an atom reads no cell but that

pub atom_less : (c : ℕ) (known : Known) → AreConstants known → (a : Atom) → reads c (known_atom known a) ≡ true →
    reads c a ≡ true
atom_less c known constants (Const value of) e = e
atom_less c known constants (CellAtom d) e = by_known (known d) refl e
  where
    by_known : (o : Option Atom) → known d ≡ o → reads c (unwrap_or o (CellAtom d)) ≡ true → nat_eq c d ≡ true
    by_known None is e = e
    by_known (Some (Const value of)) is e = absurd (true≢false (sym e))
    by_known (Some (CellAtom b)) is e = absurd (true≢false (sym (constants d (CellAtom b) is)))

some_less : (c : ℕ) (known : Known) → AreConstants known → (args : List Atom) →
    some_reads c (map (known_atom known) args) ≡ true → some_reads c args ≡ true
some_less c known constants [] e = e
some_less c known constants (a ∷ args) e =
    or_less (reads c a) (some_reads c args) (reads c (known_atom known a)) (some_reads c (map (known_atom known) args))
    (atom_less c known constants a) (some_less c known constants args) e

known_less : (c : ℕ) (known : Known) → AreConstants known → (work : Work) →
    work_reads c (known_work known work) ≡ true → work_reads c work ≡ true
known_less c known constants (Unary op of a) e = atom_less c known constants a e
known_less c known constants (Binary op of a b) e =
    or_less (reads c a) (reads c b) (reads c (known_atom known a)) (reads c (known_atom known b))
    (atom_less c known constants a) (atom_less c known constants b) e
known_less c known constants (Builtin f of args) e = some_less c known constants args e
known_less c known constants (Convert to a) e = atom_less c known constants a e
known_less c known constants (Ask what dim) e = atom_less c known constants dim e
known_less c known constants (Argument number) e = e
known_less c known constants (Copy a) e = atom_less c known constants a e

reduced_less : (c : ℕ) (work : Work) → work_reads c (reduced_work work) ≡ true → work_reads c work ≡ true
reduced_less c (Binary op of a b) e = by_left (is_long_sum op of && is_zero_constant a) e
  where
    either_so : (x y : Test) → y ≡ true → (x || y) ≡ true
    either_so true y e = refl
    either_so false y e = e

    by_left : (t : Test) → work_reads c (if t then Convert of b else Binary op of a b) ≡ true →
        (reads c a || reads c b) ≡ true
    by_left true e = either_so (reads c a) (reads c b) e
    by_left false e = e
reduced_less c (Unary op of a) e = e
reduced_less c (Builtin f of args) e = e
reduced_less c (Convert to a) e = e
reduced_less c (Ask what dim) e = e
reduced_less c (Argument number) e = e
reduced_less c (Copy a) e = e

settled_less : (c : ℕ) (work : Work) → work_reads c (settled_work work) ≡ true → work_reads c work ≡ true
settled_less c work e = by_test (is_foregone work) e
  where
    by_test : (b : Test) →
        work_reads c (if b then Copy (Const (foregone_value work) (foregone_type work)) else reduced_work work) ≡ true →
        work_reads c work ≡ true
    by_test true e = absurd (true≢false (sym e))
    by_test false e = reduced_less c work e

pub work_less : (c : ℕ) (known : Known) → AreConstants known → (work : Work) →
    work_reads c (settled_work (known_work known work)) ≡ true → work_reads c work ≡ true
work_less c known constants work e =
    known_less c known constants work (settled_less c (known_work known work) e)

-- ---- what is learned is constant

plain_constant : (work : Work) → is_plain work ≡ true → is_constant (copied work) ≡ true
plain_constant (Copy a) e = e
plain_constant (Unary op of a) e = absurd (true≢false (sym e))
plain_constant (Binary op of a b) e = absurd (true≢false (sym e))
plain_constant (Builtin f of args) e = absurd (true≢false (sym e))
plain_constant (Convert to a) e = absurd (true≢false (sym e))
plain_constant (Ask what dim) e = absurd (true≢false (sym e))
plain_constant (Argument number) e = absurd (true≢false (sym e))

pub constants_on : (once : ℕ → Test) (known : Known) (to : ℕ) (work : Work) → AreConstants known →
    AreConstants (learnt once known to work)
constants_on once known to work constants = by_test (once to && is_plain work) refl
  where
    by_learned : is_plain work ≡ true → (c : ℕ) (a : Atom) → LearnedOf known to (copied work) c a →
        is_constant a ≡ true
    by_learned plain c a (here same is) = subst (λ x. is_constant x ≡ true) is (plain_constant work plain)
    by_learned plain c a (elsewhere differ is) = constants c a is

    by_test : (b : Test) → (once to && is_plain work) ≡ b →
        AreConstants (if b then learned known to (copied work) else known)
    by_test true e = λ c a is.
        by_learned (and_parts (once to) (is_plain work) e).1 c a (learned_cases known to (copied work) c a is)
    by_test false e = constants

pub constants_inside : (os : ℕ → Test) (known : Known) → AreConstants known → AreConstants (with_offsets os known)
constants_inside os known k c a is = by_case (offsets_cases os known c a is)
  where
    by_case : (known c ≡ Some a) ⊎ ((os c ≡ true) × (a ≡ Const (pos 0) Long)) → is_constant a ≡ true
    by_case (inl before) = k c a before
    by_case (inr (among, same)) = ap is_constant same

pub no_constants : AreConstants nothing_known
no_constants c a e = absurd (none-some a e)

module _ (once : ℕ → Test) (os : ℕ → Test) where
  -- ---- what is live

  module _ (c : ℕ) where
    pub live_less : (known : Known) → AreConstants known → (lines : Lines) (a' a : Test) → (a' ≡ true → a ≡ true) →
        live_in c (folded once os known lines) a' ≡ true → live_in c lines a ≡ true
    live_less known k NoLine a' a f e = f e
    live_less known k (SetThen to work rest) a' a f e =
        or_less (work_reads c work) (not (nat_eq c to) && live_in c rest a) _ _ (work_less c known k work)
        (and_less (not (nat_eq c to)) (live_in c rest a) (not (nat_eq c to)) _ (λ h. h)
        (live_less (learnt once known to (settled_work (known_work known work)))
        (constants_on once known to (settled_work (known_work known work)) k) rest a' a f)) e
    live_less known k (LoadThen site to element root index rest) a' a f e =
        or_less (reads c index) (not (nat_eq c to) && live_in c rest a) _ _ (atom_less c known k index)
        (and_less (not (nat_eq c to)) (live_in c rest a) (not (nat_eq c to)) _ (λ h. h)
        (live_less known k rest a' a f)) e
    live_less known k (StoreThen site element root index from rest) a' a f e =
        or_less (reads c index || reads c from) (live_in c rest a) _ _
        (or_less (reads c index) (reads c from) _ _ (atom_less c known k index) (atom_less c known k from))
        (live_less known k rest a' a f) e
    live_less known k (ClearThen array rest) a' a f e = live_less known k rest a' a f e
    live_less known k (IfThen site test chosen other rest) a' a f e =
        or_less (reads c test) (live_in c chosen (live_in c rest a) || live_in c other (live_in c rest a)) _ _
        (atom_less c known k test)
        (or_less (live_in c chosen (live_in c rest a)) (live_in c other (live_in c rest a)) _ _
        (live_less known k chosen (live_in c (folded once os known rest) a') (live_in c rest a)
        (live_less known k rest a' a f))
        (live_less known k other (live_in c (folded once os known rest) a') (live_in c rest a)
        (live_less known k rest a' a f))) e
    live_less known k (LoopThen site true test answer body rest) a' a f e =
        live_less (with_offsets os known) (constants_inside os known k) test _ _
        (or_less (reads c answer) (live_in c rest a || live_in c body (live_in c test false)) _ _
        (atom_less c (with_offsets os known) (constants_inside os known k) answer)
        (or_less (live_in c rest a) (live_in c body (live_in c test false)) _ _ (live_less known k rest a' a f)
        (live_less (with_offsets os known) (constants_inside os known k) body (live_in c (folded once os
        (with_offsets os known) test) false) (live_in c test false)
        (live_less (with_offsets os known) (constants_inside os known k) test false false (λ h. h))))) e
    live_less known k (LoopThen site false test answer body rest) a' a f e =
        live_less (with_offsets os known) (constants_inside os known k) body _ _ (live_less (with_offsets os known)
        (constants_inside os known k) test _ _
        (or_less (reads c answer) (live_in c rest a || live_in c body (live_in c test false)) _ _
        (atom_less c (with_offsets os known) (constants_inside os known k) answer)
        (or_less (live_in c rest a) (live_in c body (live_in c test false)) _ _ (live_less known k rest a' a f)
        (live_less (with_offsets os known) (constants_inside os known k) body (live_in c (folded once os
        (with_offsets os known) test) false) (live_in c test false)
        (live_less (with_offsets os known) (constants_inside os known k) test false false (λ h. h)))))) e
    live_less known k (BarrierThen site rest) a' a f e = live_less known k rest a' a f e

  -- ---- barriers

  pub same_barriers : (known : Known) (lines : Lines) → holds_barrier (folded once os known lines) ≡ holds_barrier lines
  same_barriers known NoLine = refl
  same_barriers known (SetThen to work rest) =
      same_barriers (learnt once known to (settled_work (known_work known work))) rest
  same_barriers known (LoadThen site to element root index rest) = same_barriers known rest
  same_barriers known (StoreThen site element root index from rest) = same_barriers known rest
  same_barriers known (ClearThen array rest) = same_barriers known rest
  same_barriers known (IfThen site test chosen other rest) =
      ap₂ (λ x y. x || y) (same_barriers known chosen)
      (ap₂ (λ x y. x || y) (same_barriers known other) (same_barriers known rest))
  same_barriers known (LoopThen site test_first test answer body rest) =
      ap₂ (λ x y. x || y) (same_barriers (with_offsets os known) test)
      (ap₂ (λ x y. x || y) (same_barriers (with_offsets os known) body) (same_barriers known rest))
  same_barriers known (BarrierThen site rest) = refl

  -- ---- counts

  pub same_loads : (site : ℕ) (known : Known) (lines : Lines) →
      load_lines site (folded once os known lines) ≡ load_lines site lines
  same_loads site known NoLine = refl
  same_loads site known (SetThen to work rest) =
      same_loads site (learnt once known to (settled_work (known_work known work))) rest
  same_loads site known (LoadThen at to element root index rest) =
      ap (λ n. once_if site at + n) (same_loads site known rest)
  same_loads site known (StoreThen at element root index from rest) = same_loads site known rest
  same_loads site known (ClearThen array rest) = same_loads site known rest
  same_loads site known (IfThen at test chosen other rest) =
      ap₂ (λ x y. x + y) (same_loads site known chosen)
      (ap₂ (λ x y. x + y) (same_loads site known other) (same_loads site known rest))
  same_loads site known (LoopThen at test_first test answer body rest) =
      ap₂ (λ x y. x + y) (same_loads site (with_offsets os known) test)
      (ap₂ (λ x y. x + y) (same_loads site (with_offsets os known) body) (same_loads site known rest))
  same_loads site known (BarrierThen at rest) = same_loads site known rest

  pub same_stores : (site : ℕ) (known : Known) (lines : Lines) →
      store_lines site (folded once os known lines) ≡ store_lines site lines
  same_stores site known NoLine = refl
  same_stores site known (SetThen to work rest) =
      same_stores site (learnt once known to (settled_work (known_work known work))) rest
  same_stores site known (LoadThen at to element root index rest) = same_stores site known rest
  same_stores site known (StoreThen at element root index from rest) =
      ap (λ n. once_if site at + n) (same_stores site known rest)
  same_stores site known (ClearThen array rest) = same_stores site known rest
  same_stores site known (IfThen at test chosen other rest) =
      ap₂ (λ x y. x + y) (same_stores site known chosen)
      (ap₂ (λ x y. x + y) (same_stores site known other) (same_stores site known rest))
  same_stores site known (LoopThen at test_first test answer body rest) =
      ap₂ (λ x y. x + y) (same_stores site (with_offsets os known) test)
      (ap₂ (λ x y. x + y) (same_stores site (with_offsets os known) body) (same_stores site known rest))
  same_stores site known (BarrierThen at rest) = same_stores site known rest

  pub same_counts : (site : ℕ) (known : Known) (lines : Lines) →
      barrier_lines site (folded once os known lines) ≡ barrier_lines site lines
  same_counts site known NoLine = refl
  same_counts site known (SetThen to work rest) =
      same_counts site (learnt once known to (settled_work (known_work known work))) rest
  same_counts site known (LoadThen at to element root index rest) = same_counts site known rest
  same_counts site known (StoreThen at element root index from rest) = same_counts site known rest
  same_counts site known (ClearThen array rest) = same_counts site known rest
  same_counts site known (IfThen at test chosen other rest) =
      ap₂ (λ x y. x + y) (same_counts site known chosen)
      (ap₂ (λ x y. x + y) (same_counts site known other) (same_counts site known rest))
  same_counts site known (LoopThen at test_first test answer body rest) =
      ap₂ (λ x y. x + y) (same_counts site (with_offsets os known) test)
      (ap₂ (λ x y. x + y) (same_counts site (with_offsets os known) body) (same_counts site known rest))
  same_counts site known (BarrierThen at rest) = ap (λ n. once_if site at + n) (same_counts site known rest)

  -- ---- places

  -- the lines at a place, folded
  pub record IsFolded (lines' lines : Lines) : Type 0 where
    pub known : Known
    pub constants : AreConstants known
    pub same : lines' ≡ folded once os known lines

  behind_folded : (known : Known) → AreConstants known → (lines : Lines) →
      IsFolded (behind (folded once os known lines)) (behind lines)
  behind_folded known k NoLine = record { known = known; constants = k; same = refl }
  behind_folded known k (SetThen to work rest) = record {
    known = learnt once known to (settled_work (known_work known work));
    constants = constants_on once known to (settled_work (known_work known work)) k;
    same = refl;
  }
  behind_folded known k (LoadThen site to element root index rest) =
      record { known = known; constants = k; same = refl }
  behind_folded known k (StoreThen site element root index from rest) =
      record { known = known; constants = k; same = refl }
  behind_folded known k (ClearThen array rest) = record { known = known; constants = k; same = refl }
  behind_folded known k (IfThen site test chosen other rest) = record { known = known; constants = k; same = refl }
  behind_folded known k (LoopThen site test_first test answer body rest) =
      record { known = known; constants = k; same = refl }
  behind_folded known k (BarrierThen site rest) = record { known = known; constants = k; same = refl }

  chosen_folded : (known : Known) → AreConstants known → (lines : Lines) →
      IsFolded (chosen_of (folded once os known lines)) (chosen_of lines)
  chosen_folded known k (IfThen site test chosen other rest) = record { known = known; constants = k; same = refl }
  chosen_folded known k _ = record { known = known; constants = k; same = refl }

  other_folded : (known : Known) → AreConstants known → (lines : Lines) →
      IsFolded (other_of (folded once os known lines)) (other_of lines)
  other_folded known k (IfThen site test chosen other rest) = record { known = known; constants = k; same = refl }
  other_folded known k _ = record { known = known; constants = k; same = refl }

  test_folded : (known : Known) → AreConstants known → (lines : Lines) →
      IsFolded (test_of (folded once os known lines)) (test_of lines)
  test_folded known k (LoopThen site test_first test answer body rest) =
      record { known = with_offsets os known; constants = constants_inside os known k; same = refl }
  test_folded known k _ = record { known = known; constants = k; same = refl }

  body_folded : (known : Known) → AreConstants known → (lines : Lines) →
      IsFolded (body_of (folded once os known lines)) (body_of lines)
  body_folded known k (LoopThen site test_first test answer body rest) =
      record { known = with_offsets os known; constants = constants_inside os known k; same = refl }
  body_folded known k _ = record { known = known; constants = k; same = refl }

  carried : (part : Lines → Lines) → ((known : Known) → AreConstants known → (lines : Lines) →
      IsFolded (part (folded once os known lines)) (part lines)) → (lines' lines : Lines) → IsFolded lines' lines →
      IsFolded (part lines') (part lines)
  carried part folds lines' lines h =
      let p = folds h.known h.constants lines in
      record { known = p.known; constants = p.constants; same = ap part h.same ∙ p.same }

  pub lines_folded : (text : Lines) (at : Place) → IsFolded (lines_at (folded once os nothing_known text) at)
      (lines_at text at)
  lines_folded text [] = record { known = nothing_known; constants = no_constants; same = refl }
  lines_folded text (Behind ∷ at) = carried behind behind_folded _ _ (lines_folded text at)
  lines_folded text (IntoChosen ∷ at) = carried chosen_of chosen_folded _ _ (lines_folded text at)
  lines_folded text (IntoOther ∷ at) = carried other_of other_folded _ _ (lines_folded text at)
  lines_folded text (IntoTest ∷ at) = carried test_of test_folded _ _ (lines_folded text at)
  lines_folded text (ToAnswer ∷ at) = record { known = nothing_known; constants = no_constants; same = refl }
  lines_folded text (IntoBody ∷ at) = carried body_of body_folded _ _ (lines_folded text at)

  -- what lines are, said by a test that folding keeps
  kept_test : (test : Lines → Test) → ((known : Known) (lines : Lines) → test (folded once os known lines) ≡
      test lines) →
      (text : Lines) (at : Place) → test (lines_at (folded once os nothing_known text) at) ≡ test (lines_at text at)
  kept_test test same text at =
      let h = lines_folded text at in
      ap test h.same ∙ same h.known (lines_at text at)

  barrier_same : (known : Known) (lines : Lines) → is_barrier (folded once os known lines) ≡ is_barrier lines
  barrier_same known NoLine = refl
  barrier_same known (SetThen to work rest) = refl
  barrier_same known (LoadThen site to element root index rest) = refl
  barrier_same known (StoreThen site element root index from rest) = refl
  barrier_same known (ClearThen array rest) = refl
  barrier_same known (IfThen site test chosen other rest) = refl
  barrier_same known (LoopThen site test_first test answer body rest) = refl
  barrier_same known (BarrierThen site rest) = refl

  choice_same : (known : Known) (lines : Lines) → is_choice (folded once os known lines) ≡ is_choice lines
  choice_same known NoLine = refl
  choice_same known (SetThen to work rest) = refl
  choice_same known (LoadThen site to element root index rest) = refl
  choice_same known (StoreThen site element root index from rest) = refl
  choice_same known (ClearThen array rest) = refl
  choice_same known (IfThen site test chosen other rest) =
      ap₂ (λ x y. x || y) (same_barriers known chosen) (same_barriers known other)
  choice_same known (LoopThen site test_first test answer body rest) = refl
  choice_same known (BarrierThen site rest) = refl

  round_same : (known : Known) (lines : Lines) → is_round (folded once os known lines) ≡ is_round lines
  round_same known NoLine = refl
  round_same known (SetThen to work rest) = refl
  round_same known (LoadThen site to element root index rest) = refl
  round_same known (StoreThen site element root index from rest) = refl
  round_same known (ClearThen array rest) = refl
  round_same known (IfThen site test chosen other rest) = refl
  round_same known (LoopThen site test_first test answer body rest) =
      ap₂ (λ x y. x || y) (same_barriers (with_offsets os known) test) (same_barriers (with_offsets os known) body)
  round_same known (BarrierThen site rest) = refl

  line_same : (known : Known) (lines : Lines) → is_line (folded once os known lines) ≡ is_line lines
  line_same known NoLine = refl
  line_same known (SetThen to work rest) = refl
  line_same known (LoadThen site to element root index rest) = refl
  line_same known (StoreThen site element root index from rest) = refl
  line_same known (ClearThen array rest) = refl
  line_same known (IfThen site test chosen other rest) = refl
  line_same known (LoopThen site test_first test answer body rest) = refl
  line_same known (BarrierThen site rest) = refl

  module _ (text : Lines) where
    pub barrier_there : (at : Place) →
        is_barrier (lines_at (folded once os nothing_known text) at) ≡ is_barrier (lines_at text at)
    barrier_there = kept_test is_barrier barrier_same text

    ends_same : (at : Place) → ends_part (folded once os nothing_known text) at ≡ ends_part text at
    ends_same [] = refl
    ends_same (Behind ∷ at) = kept_test is_choice choice_same text at
    ends_same (IntoChosen ∷ at) = refl
    ends_same (IntoOther ∷ at) = refl
    ends_same (IntoTest ∷ at) = kept_test is_round round_same text at
    ends_same (ToAnswer ∷ at) = kept_test is_round round_same text at
    ends_same (IntoBody ∷ at) = kept_test is_round round_same text at

    pub cut_same : (at : Place) → is_cut (folded once os nothing_known text) at ≡ is_cut text at
    cut_same at =
        ap₂ (λ x y. x || y) (barrier_there at)
        (ap₂ (λ x y. x || y) (kept_test is_choice choice_same text at) (ends_same at))

    behind_round_same : (at : Place) → is_behind_round (folded once os nothing_known text) at ≡ is_behind_round text at
    behind_round_same [] = refl
    behind_round_same (Behind ∷ at) = kept_test is_round round_same text at
    behind_round_same (IntoChosen ∷ at) = refl
    behind_round_same (IntoOther ∷ at) = refl
    behind_round_same (IntoTest ∷ at) = refl
    behind_round_same (ToAnswer ∷ at) = refl
    behind_round_same (IntoBody ∷ at) = refl

    pub stop_same : (at : Place) → is_stop (folded once os nothing_known text) at ≡ is_stop text at
    stop_same at =
        ap₂ (λ x y. x || y) (kept_test is_line line_same text at)
        (ap₂ (λ x y. x || y) (cut_same at) (behind_round_same at))

-- ---- names

-- the same pieces without some of the names
pub data IsFewer : List Piece → List Piece → Type 0 where
  no_piece : IsFewer [] []
  both_have : {ps qs : List Piece} (p : Piece) → IsFewer ps qs → IsFewer (p ∷ ps) (p ∷ qs)
  one_more : {ps qs : List Piece} (c : ℕ) → IsFewer ps qs → IsFewer ps (Names c ∷ qs)

pub fewer_self : (ps : List Piece) → IsFewer ps ps
fewer_self [] = no_piece
fewer_self (p ∷ ps) = both_have p (fewer_self ps)

pub fewer_then : {ps qs ps' qs' : List Piece} → IsFewer ps qs → IsFewer ps' qs' → IsFewer (ps ++ ps') (qs ++ qs')
fewer_then no_piece g = g
fewer_then (both_have p f) g = both_have p (fewer_then f g)
fewer_then (one_more c f) g = one_more c (fewer_then f g)

cell_less : {ps qs : List Piece} (c : ℕ) → IsFewer ps qs → names_cell c ps ≡ true → names_cell c qs ≡ true
cell_less c no_piece e = e
cell_less c (both_have {ps = ps} {qs = qs} (Names d) f) e =
    or_less (nat_eq c d) (names_cell c qs) (nat_eq c d) (names_cell c ps) (λ h. h) (cell_less c f) e
cell_less c (both_have Cut f) e = cell_less c f e
cell_less c (one_more {ps = ps} {qs = qs} d f) e =
    or_less (nat_eq c d) (names_cell c qs) false (names_cell c ps) (λ h. absurd (true≢false (sym h))) (cell_less c f) e

behind_less : {ps qs : List Piece} (c : ℕ) → IsFewer ps qs → names_behind_cut c ps ≡ true →
    names_behind_cut c qs ≡ true
behind_less c no_piece e = e
behind_less c (both_have (Names d) f) e = behind_less c f e
behind_less c (both_have Cut f) e = cell_less c f e
behind_less c (one_more d f) e = behind_less c f e

pub across_less : {ps qs : List Piece} (c : ℕ) → IsFewer ps qs → names_across c ps ≡ true → names_across c qs ≡ true
across_less c no_piece e = e
across_less c (both_have {ps = ps} {qs = qs} (Names d) f) e =
    or_less (nat_eq c d && names_behind_cut c qs) (names_across c qs) (nat_eq c d && names_behind_cut c ps)
    (names_across c ps)
    (and_less (nat_eq c d) (names_behind_cut c qs) (nat_eq c d) (names_behind_cut c ps) (λ h. h) (behind_less c f))
    (across_less c f) e
across_less c (both_have Cut f) e = across_less c f e
across_less c (one_more {ps = ps} {qs = qs} d f) e =
    or_less (nat_eq c d && names_behind_cut c qs) (names_across c qs) false (names_across c ps)
    (λ h. absurd (true≢false (sym h))) (across_less c f) e

-- of atoms and what is computed of them
atom_fewer : (known : Known) → AreConstants known → (a : Atom) → IsFewer (named_by (known_atom known a)) (named_by a)
atom_fewer known k (Const value of) = no_piece
atom_fewer known k (CellAtom d) = by_known (known d) refl
  where
    by_known : (o : Option Atom) → known d ≡ o → IsFewer (named_by (unwrap_or o (CellAtom d))) (Names d ∷ [])
    by_known None is = both_have (Names d) no_piece
    by_known (Some (Const value of)) is = one_more d no_piece
    by_known (Some (CellAtom b)) is = absurd (true≢false (sym (k d (CellAtom b) is)))

atoms_fewer : (known : Known) → AreConstants known → (args : List Atom) →
    IsFewer (named_by_all (map (known_atom known) args)) (named_by_all args)
atoms_fewer known k [] = no_piece
atoms_fewer known k (a ∷ args) = fewer_then (atom_fewer known k a) (atoms_fewer known k args)

known_fewer : (known : Known) → AreConstants known → (work : Work) →
    IsFewer (named_by_work (known_work known work)) (named_by_work work)
known_fewer known k (Unary op of a) = atom_fewer known k a
known_fewer known k (Binary op of a b) = fewer_then (atom_fewer known k a) (atom_fewer known k b)
known_fewer known k (Builtin f of args) = atoms_fewer known k args
known_fewer known k (Convert to a) = atom_fewer known k a
known_fewer known k (Ask what dim) = atom_fewer known k dim
known_fewer known k (Argument number) = no_piece
known_fewer known k (Copy a) = atom_fewer known k a

-- the pieces are names alone
abbrev pub OnlyNames : List Piece → Type 0
OnlyNames [] = Unit {0}
OnlyNames (Names c ∷ ps) = OnlyNames ps
OnlyNames (Cut ∷ ps) = ⊥

pub names_then : (ps qs : List Piece) → OnlyNames ps → OnlyNames qs → OnlyNames (ps ++ qs)
names_then [] qs f g = g
names_then (Names c ∷ ps) qs f g = names_then ps qs f g
names_then (Cut ∷ ps) qs f g = absurd f

pub atom_names : (a : Atom) → OnlyNames (named_by a)
atom_names (Const value of) = tt
atom_names (CellAtom c) = tt

atoms_names : (args : List Atom) → OnlyNames (named_by_all args)
atoms_names [] = tt
atoms_names (a ∷ args) = names_then (named_by a) (named_by_all args) (atom_names a) (atoms_names args)

pub work_names : (work : Work) → OnlyNames (named_by_work work)
work_names (Unary op of a) = atom_names a
work_names (Binary op of a b) = names_then (named_by a) (named_by b) (atom_names a) (atom_names b)
work_names (Builtin f of args) = atoms_names args
work_names (Convert to a) = atom_names a
work_names (Ask what dim) = atom_names dim
work_names (Argument number) = tt
work_names (Copy a) = atom_names a

-- so they can all be left out
pub none_of : (ps : List Piece) → OnlyNames ps → IsFewer [] ps
none_of [] f = no_piece
none_of (Names c ∷ ps) f = one_more c (none_of ps f)
none_of (Cut ∷ ps) f = absurd f

reduced_fewer : (work : Work) → IsFewer (named_by_work (reduced_work work)) (named_by_work work)
reduced_fewer (Binary op of a b) = by_left (is_long_sum op of && is_zero_constant a)
  where
    by_left : (t : Test) →
        IsFewer (named_by_work (if t then Convert of b else Binary op of a b)) (named_by a ++ named_by b)
    by_left true = fewer_then (none_of (named_by a) (atom_names a)) (fewer_self (named_by b))
    by_left false = fewer_self (named_by a ++ named_by b)
reduced_fewer (Unary op of a) = fewer_self (named_by a)
reduced_fewer (Builtin f of args) = fewer_self (named_by_all args)
reduced_fewer (Convert to a) = fewer_self (named_by a)
reduced_fewer (Ask what dim) = fewer_self (named_by dim)
reduced_fewer (Argument number) = no_piece
reduced_fewer (Copy a) = fewer_self (named_by a)

settled_fewer : (work : Work) → IsFewer (named_by_work (settled_work work)) (named_by_work work)
settled_fewer work = by_test (is_foregone work)
  where
    by_test : (b : Test) →
        IsFewer
        (named_by_work
        (if b then Copy (Const (foregone_value work) (foregone_type work)) else reduced_work work))
        (named_by_work work)
    by_test true = none_of (named_by_work work) (work_names work)
    by_test false = reduced_fewer work

fewer_trans : {ps qs rs : List Piece} → IsFewer ps qs → IsFewer qs rs → IsFewer ps rs
fewer_trans f no_piece = f
fewer_trans f (one_more c g) = one_more c (fewer_trans f g)
fewer_trans (both_have p f) (both_have q g) = both_have p (fewer_trans f g)
fewer_trans (one_more c f) (both_have q g) = one_more c (fewer_trans f g)

work_fewer : (known : Known) → AreConstants known → (work : Work) →
    IsFewer (named_by_work (settled_work (known_work known work))) (named_by_work work)
work_fewer known k work = fewer_trans (settled_fewer (known_work known work)) (known_fewer known k work)

pub cut_fewer : (h h' : Test) (ps qs : List Piece) → h' ≡ h → IsFewer ps qs →
    IsFewer (cut_before h' ps) (cut_before h qs)
cut_fewer true true ps qs same f = both_have Cut f
cut_fewer false false ps qs same f = f
cut_fewer true false ps qs same f = absurd (true≢false (sym same))
cut_fewer false true ps qs same f = absurd (true≢false same)

module _ (once : ℕ → Test) (os : ℕ → Test) where
  pub pieces_fewer : (known : Known) → AreConstants known → (lines : Lines) →
      IsFewer (pieces_of (folded once os known lines)) (pieces_of lines)
  pieces_fewer known k NoLine = no_piece
  pieces_fewer known k (SetThen to work rest) =
      fewer_then (work_fewer known k work) (both_have (Names to)
      (pieces_fewer (learnt once known to (settled_work (known_work known work)))
      (constants_on once known to (settled_work (known_work known work)) k) rest))
  pieces_fewer known k (LoadThen site to element root index rest) =
      fewer_then (atom_fewer known k index) (both_have (Names to) (pieces_fewer known k rest))
  pieces_fewer known k (StoreThen site element root index from rest) =
      fewer_then (atom_fewer known k index) (fewer_then (atom_fewer known k from) (pieces_fewer known k rest))
  pieces_fewer known k (ClearThen array rest) = pieces_fewer known k rest
  pieces_fewer known k (IfThen site test chosen other rest) =
      let same = ap₂ (λ x y. x || y) (same_barriers once os known chosen) (same_barriers once os known other) in
      cut_fewer _ _ _ _ same (fewer_then (atom_fewer known k test)
      (cut_fewer _ _ _ _ same (fewer_then (pieces_fewer known k chosen)
      (cut_fewer _ _ _ _ same (fewer_then (pieces_fewer known k other)
      (cut_fewer _ _ _ _ same (pieces_fewer known k rest)))))))
  pieces_fewer known k (LoopThen site test_first test answer body rest) =
      let same = ap₂ (λ x y. x || y) (same_barriers once os (with_offsets os known) test) (same_barriers once os
      (with_offsets os known) body) in
      cut_fewer _ _ _ _ same (fewer_then (pieces_fewer (with_offsets os known) (constants_inside os known k) test)
      (fewer_then (atom_fewer (with_offsets os known) (constants_inside os known k) answer)
      (cut_fewer _ _ _ _ same (fewer_then (pieces_fewer (with_offsets os known) (constants_inside os known k) body)
      (cut_fewer _ _ _ _ same (pieces_fewer known k rest))))))
  pieces_fewer known k (BarrierThen site rest) = both_have Cut (pieces_fewer known k rest)

-- each keep is one of the given kernel
pub keeps_fewer : (kernel : Kernel) (c : ℕ) → is_keep (folded_of kernel) c ≡ true → is_keep kernel c ≡ true
keeps_fewer kernel c e =
    and_less _ (names_across c (pieces_of kernel.body)) _ _ (λ h. h)
    (across_less c (pieces_fewer (is_set_once kernel) (offsets_of kernel) nothing_known no_constants kernel.body)) e
