-- Lines put one after another, and lists taken item by item.
use Rattle.std.proofs.Common.{◌≡◌, ◌∷◌, ◌++◌, List, [], ℕ, suc, ◌+◌, ◌<◌, Option, Some, None, length, drop, get_or}
use Rattle.std.proofs.Common.{refl, ap, sym, ◌∙◌, arith, drop-cons, false, if◌then◌else◌}
use Rattle.kir.specs.declared.line.Line.{Line}
use Rattle.kir.specs.declared.line.Line.TheVariants as line
use Rattle.kir.specs.Tree.{Lines, NoLine, SetThen, LoadThen, StoreThen, ClearThen, IfThen, LoopThen, BarrierThen}
use Rattle.kir.specs.Tree.{joined_to}
use Rattle.kir.specs.Listed.{line_before, lines_of}
use Rattle.kir.proofs.Rows.{lines_of-append}
use Rattle.kir.specs.declared.line.Atom.TheVariants.{Cell}
use Rattle.kir_lower.specs.Actions.{is_none, guarded_before}
use Rattle.kir_lower.specs.Ways.{first_of}

pub lines_both : (xs ys : List Line) → lines_of (xs ++ ys) ≡ joined_to (lines_of xs) (lines_of ys)
lines_both xs ys = lines_of-append xs ys

pub lines_put : (xs : List Line) (l : Line) → lines_of (xs ++ (l ∷ [])) ≡ joined_to (lines_of xs) (line_before l NoLine)
lines_put xs l = lines_of-append xs (l ∷ [])

pub join_assoc : (a b c : Lines) → joined_to (joined_to a b) c ≡ joined_to a (joined_to b c)
join_assoc NoLine b c = refl
join_assoc (SetThen to work rest) b c = ap (λ z. SetThen to work z) (join_assoc rest b c)
join_assoc (LoadThen site to element root index rest) b c =
    ap (λ z. LoadThen site to element root index z) (join_assoc rest b c)
join_assoc (StoreThen site element root index from rest) b c =
    ap (λ z. StoreThen site element root index from z) (join_assoc rest b c)
join_assoc (ClearThen array rest) b c = ap (λ z. ClearThen array z) (join_assoc rest b c)
join_assoc (IfThen site test chosen other rest) b c = ap (λ z. IfThen site test chosen other z) (join_assoc rest b c)
join_assoc (LoopThen site test_first test answer body rest) b c =
    ap (λ z. LoopThen site test_first test answer body z) (join_assoc rest b c)
join_assoc (BarrierThen site rest) b c = ap (λ z. BarrierThen site z) (join_assoc rest b c)

pub join_none : (a : Lines) → joined_to a NoLine ≡ a
join_none NoLine = refl
join_none (SetThen to work rest) = ap (λ z. SetThen to work z) (join_none rest)
join_none (LoadThen site to element root index rest) = ap (λ z. LoadThen site to element root index z) (join_none rest)
join_none (StoreThen site element root index from rest) =
    ap (λ z. StoreThen site element root index from z) (join_none rest)
join_none (ClearThen array rest) = ap (λ z. ClearThen array z) (join_none rest)
join_none (IfThen site test chosen other rest) = ap (λ z. IfThen site test chosen other z) (join_none rest)
join_none (LoopThen site test_first test answer body rest) =
    ap (λ z. LoopThen site test_first test answer body z) (join_none rest)
join_none (BarrierThen site rest) = ap (λ z. BarrierThen site z) (join_none rest)

pub ruleset joins = (join_assoc, join_none)

pub first_alone : (x : Option ℕ) → first_of x None ≡ x
first_alone None = refl
first_alone (Some site) = refl

pub first_dropped : {A : Type 0} (xs : List A) (i : ℕ) (x : A) → i < length xs → x ≡ get_or xs i x →
    drop i xs ≡ x ∷ drop (i + 1) xs
first_dropped xs i x h e =
    let one : suc i ≡ i + 1 = omega arith in
    drop-cons xs i x h ∙ ap (λ y. y ∷ drop (suc i) xs) (sym e) ∙ ap (λ j. x ∷ drop j xs) one

pub none_guarded : (site exit : ℕ) (xs : List Line) (n : ℕ) → n ≡ length xs → n ≡ 0 →
    guarded_before site exit (lines_of xs) NoLine ≡ NoLine
none_guarded site exit [] n e z = refl
none_guarded site exit (x ∷ xs) n e z = absurd (omega (arith, e, z))

some_lines : (l : Line) (rest : Lines) → is_none (line_before l rest) ≡ false
some_lines (line.Set to w) rest = refl
some_lines (line.Load site to element root index) rest = refl
some_lines (line.Store site element root index from) rest = refl
some_lines (line.Clear array) rest = refl
some_lines (line.If' site test _ chosen _ other) rest = refl
some_lines (line.Loop' site first _ test answer _ body) rest = refl
some_lines (line.Barrier site) rest = refl

pub some_guarded : (site exit : ℕ) (xs : List Line) (n : ℕ) → n ≡ length xs → (n ≡ 0 → ⊥) →
    guarded_before site exit (lines_of xs) NoLine ≡ IfThen site (Cell exit) NoLine (lines_of xs) NoLine
some_guarded site exit [] n e z = absurd (z e)
some_guarded site exit (x ∷ xs) n e z =
    ap (λ b. if b then NoLine else IfThen site (Cell exit) NoLine (lines_of (x ∷ xs)) NoLine)
    (some_lines x (lines_of xs))

pub empty_list : {A : Type 0} (list : List A) → length list ≡ 0 → list ≡ []
empty_list [] e = refl
empty_list (x ∷ xs) e = absurd (omega (arith, e))
