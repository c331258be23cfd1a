-- Lists of lines with a line more, and walks that make lines of lines, one after the other.
use Rattle.std.proofs.Common.{◌≡◌, ℕ, ◌+◌, ◌<◌, ◌≤◌, List, [], ◌∷◌, ◌++◌, length, get_or, drop, refl, ap, ap₂, sym, ◌∙◌}
use Rattle.std.proofs.Common.{Global, Some, None, if◌then◌else◌}
use Rattle.std.proofs.lemmas.Bool.{true≢false}
use Rattle.std.proofs.lemmas.Option.{same_Some, none-some}
use Rattle.cl_model.specs.Values.{is_zero}
use Rattle.std.specs.Prelude.{Bool as Test, true, false}
use Rattle.std.specs.declared.vec.Vec.{Vec}
use Rattle.std.proofs.lemmas.List.{drop_all}
use Rattle.kir.specs.declared.line.Atom.{Atom}
use Rattle.kir.specs.declared.line.Line.{Line}
use Rattle.kir.specs.declared.line.Line.TheVariants as line
use Rattle.kir.specs.Tree.{Lines, NoLine, SetThen, LoadThen, StoreThen, ClearThen, IfThen, LoopThen, BarrierThen}
use Rattle.kir.specs.Tree.{joined_to}
use Rattle.kir.specs.Listed.{line_before, lines_of}
use Rattle.kir.proofs.Firsts.{first_left}
use Rattle.kir.proofs.Rows.{if_listed, loop_listed, line_joined}
use Rattle.kir_simplify.specs.Passes.{swept, spliced, constant_value}
use Rattle.kir_simplify.specs.Simple.{is_decided}
use Rattle.kir_simplify.specs.Tables.{has_no_lines, decision}

pub joined_none : (ls : Lines) → joined_to ls NoLine ≡ ls
joined_none NoLine = refl
joined_none (SetThen to work rest) = ap (SetThen to work) (joined_none rest)
joined_none (LoadThen site to element root index rest) = ap (LoadThen site to element root index) (joined_none rest)
joined_none (StoreThen site element root index from rest) =
    ap (StoreThen site element root index from) (joined_none rest)
joined_none (ClearThen array rest) = ap (ClearThen array) (joined_none rest)
joined_none (IfThen site test chosen other rest) = ap (IfThen site test chosen other) (joined_none rest)
joined_none (LoopThen site first test answer body rest) = ap (LoopThen site first test answer body) (joined_none rest)
joined_none (BarrierThen site rest) = ap (BarrierThen site) (joined_none rest)

one_more : (copied : List Line) (m : Line) (rest : Lines) →
    joined_to (lines_of (copied ++ m ∷ [])) rest ≡ joined_to (lines_of copied) (line_before m rest)
one_more [] m rest = line_joined m NoLine rest
one_more (l ∷ ls) m rest = line_joined l (lines_of (ls ++ m ∷ [])) rest ∙ ap (line_before l) (one_more ls m rest) ∙
    sym (line_joined l (lines_of ls) (line_before m rest))

-- a list with one line more
pub added : (copied longer : List Line) (m : Line) → longer ≡ copied ++ m ∷ [] → (rest : Lines) →
    joined_to (lines_of longer) rest ≡ joined_to (lines_of copied) (line_before m rest)
added copied longer m e rest = ap (λ xs. joined_to (lines_of xs) rest) e ∙ one_more copied m rest

-- what a walk made so far, joined to what it makes of the rest, one line on
pub walk_step : (walk : Lines → Lines) (made longer all : Lines) (ls : List Line) (i : ℕ) (l : Line) → i < length ls →
    l ≡ get_or ls i l → ((rest : Lines) → joined_to longer (walk rest) ≡ joined_to made (walk (line_before l rest)))
    → joined_to made (walk (lines_of (drop i ls))) ≡ all →
    joined_to longer (walk (lines_of (drop (i + 1) ls))) ≡ all
walk_step walk made longer all ls i l lt is onto same =
    onto (lines_of (drop (i + 1) ls)) ∙
    (ap (λ x. joined_to made (walk (lines_of x))) (sym (first_left ls i l lt is)) ∙ same)

pub walk_end : (walk : Lines → Lines) (made all : Lines) (ls : List Line) (i : ℕ) → length ls ≤ i →
    walk NoLine ≡ NoLine → joined_to made (walk (lines_of (drop i ls))) ≡ all → made ≡ all
walk_end walk made all ls i done none same =
    sym (joined_none made) ∙ (ap (joined_to made) (sym none) ∙
    (sym (ap (λ xs. joined_to made (walk (lines_of xs))) (drop_all i ls done)) ∙ same))

-- ---- sweeping

pub if_swept : (u : ℕ → Test) (l : Line) (site : ℕ) (test : Atom) (chosen other : Vec Line Global) (made : Lines)
    (ys ns : Lines) → l ≡ line.If site test chosen other → ys ≡ swept u (lines_of chosen.items) →
    ns ≡ swept u (lines_of other.items) → (rest : Lines) →
    joined_to made (IfThen site test ys ns (swept u rest)) ≡ joined_to made (swept u (line_before l rest))
if_swept u l site test chosen other made ys ns e ey en rest =
    ap (joined_to made) (ap₂ (λ a b. IfThen site test a b (swept u rest)) ey en ∙
    sym (ap (λ x. swept u (line_before x rest)) e ∙ ap (swept u) (if_listed site test chosen other rest)))

pub loop_swept : (u : ℕ → Test) (l : Line) (site : ℕ) (first : Test) (test : Vec Line Global) (answer : Atom)
    (body : Vec Line Global) (made : Lines) (ts bs : Lines) → l ≡ line.Loop site first test answer body →
    ts ≡ swept u (lines_of test.items) → bs ≡ swept u (lines_of body.items) → (rest : Lines) →
    joined_to made (LoopThen site first ts answer bs (swept u rest)) ≡ joined_to made (swept u (line_before l rest))
loop_swept u l site first test answer body made ts bs e et eb rest =
    ap (joined_to made) (ap₂ (λ a b. LoopThen site first a answer b (swept u rest)) et eb ∙
    sym (ap (λ x. swept u (line_before x rest)) e ∙ ap (swept u) (loop_listed site first test answer body rest)))

-- ---- splicing

pub spliced_plain : (l : Line) → has_no_lines l ≡ true → (rest : Lines) →
    spliced (line_before l rest) ≡ line_before l (spliced rest)
spliced_plain (line.Set to w) h rest = refl
spliced_plain (line.Load site to element root index) h rest = refl
spliced_plain (line.Store site element root index from) h rest = refl
spliced_plain (line.Clear array) h rest = refl
spliced_plain (line.If' site test _ chosen _ other) h rest = absurd (true≢false (sym h))
spliced_plain (line.Loop' site first _ test answer _ body) h rest = absurd (true≢false (sym h))
spliced_plain (line.Barrier site) h rest = refl

joined_thrice : (a b c : Lines) → joined_to (joined_to a b) c ≡ joined_to a (joined_to b c)
joined_thrice NoLine b c = refl
joined_thrice (SetThen to work rest) b c = ap (SetThen to work) (joined_thrice rest b c)
joined_thrice (LoadThen site to element root index rest) b c =
    ap (LoadThen site to element root index) (joined_thrice rest b c)
joined_thrice (StoreThen site element root index from rest) b c =
    ap (StoreThen site element root index from) (joined_thrice rest b c)
joined_thrice (ClearThen array rest) b c = ap (ClearThen array) (joined_thrice rest b c)
joined_thrice (IfThen site test chosen other rest) b c = ap (IfThen site test chosen other) (joined_thrice rest b c)
joined_thrice (LoopThen site first test answer body rest) b c =
    ap (LoopThen site first test answer body) (joined_thrice rest b c)
joined_thrice (BarrierThen site rest) b c = ap (BarrierThen site) (joined_thrice rest b c)

some_by : (site : ℕ) (test : Atom) (chosen other rest : Lines) (z b : Test) → is_decided test chosen other ≡ b →
    (if b then Some (is_zero (constant_value test)) else None) ≡ Some z →
    spliced (IfThen site test chosen other rest) ≡
    joined_to (if z then spliced other else spliced chosen) (spliced rest)
some_by site test chosen other rest z true e d =
    ap (λ (x : Test). if x
    then joined_to (if is_zero (constant_value test) then spliced other else spliced chosen) (spliced rest)
    else IfThen site test (spliced chosen) (spliced other) (spliced rest)) e ∙
    ap (λ (x : Test). joined_to (if x then spliced other else spliced chosen) (spliced rest)) (same_Some _ z d)
some_by site test chosen other rest z false e d = absurd (none-some z d)

none_by : (site : ℕ) (test : Atom) (chosen other rest : Lines) (b : Test) → is_decided test chosen other ≡ b →
    (if b then Some (is_zero (constant_value test)) else None) ≡ None →
    spliced (IfThen site test chosen other rest) ≡ IfThen site test (spliced chosen) (spliced other) (spliced rest)
none_by site test chosen other rest true e d = absurd (none-some _ (sym d))
none_by site test chosen other rest false e d =
    ap (λ (x : Test). if x
    then joined_to (if is_zero (constant_value test) then spliced other else spliced chosen) (spliced rest)
    else IfThen site test (spliced chosen) (spliced other) (spliced rest)) e

-- an if whose branch is chosen
pub if_chosen : (l : Line) (site : ℕ) (test : Atom) (chosen other : Vec Line Global) (made longer : Lines) (z : Test) →
    l ≡ line.If site test chosen other → decision test (lines_of chosen.items) (lines_of other.items) ≡ Some z →
    longer ≡ joined_to made (if z then spliced (lines_of other.items) else spliced (lines_of chosen.items)) →
    (rest : Lines) → joined_to longer (spliced rest) ≡ joined_to made (spliced (line_before l rest))
if_chosen l site test chosen other made longer z e d m rest =
    ap (λ x. joined_to x (spliced rest)) m ∙
    (joined_thrice made (if z then spliced (lines_of other.items) else spliced (lines_of chosen.items)) (spliced rest) ∙
    ap (joined_to made) (sym (ap (λ x. spliced (line_before x rest)) e ∙
    (ap spliced (if_listed site test chosen other rest) ∙
    some_by site test (lines_of chosen.items) (lines_of other.items) rest z
    (is_decided test (lines_of chosen.items) (lines_of other.items)) refl d))))

-- an if that stays
pub if_spliced : (l : Line) (site : ℕ) (test : Atom) (chosen other : Vec Line Global) (made ys ns : Lines) →
    l ≡ line.If site test chosen other → decision test (lines_of chosen.items) (lines_of other.items) ≡ None →
    ys ≡ spliced (lines_of chosen.items) → ns ≡ spliced (lines_of other.items) → (rest : Lines) →
    joined_to made (IfThen site test ys ns (spliced rest)) ≡ joined_to made (spliced (line_before l rest))
if_spliced l site test chosen other made ys ns e d ey en rest =
    ap (joined_to made) (ap₂ (λ a b. IfThen site test a b (spliced rest)) ey en ∙
    sym (ap (λ x. spliced (line_before x rest)) e ∙ (ap spliced (if_listed site test chosen other rest) ∙
    none_by site test (lines_of chosen.items) (lines_of other.items) rest
    (is_decided test (lines_of chosen.items) (lines_of other.items)) refl d)))

pub loop_spliced : (l : Line) (site : ℕ) (first : Test) (test : Vec Line Global) (answer : Atom)
    (body : Vec Line Global) (made ts bs : Lines) → l ≡ line.Loop site first test answer body →
    ts ≡ spliced (lines_of test.items) → bs ≡ spliced (lines_of body.items) → (rest : Lines) →
    joined_to made (LoopThen site first ts answer bs (spliced rest)) ≡ joined_to made (spliced (line_before l rest))
loop_spliced l site first test answer body made ts bs e et eb rest =
    ap (joined_to made) (ap₂ (λ a b. LoopThen site first a answer b (spliced rest)) et eb ∙
    sym (ap (λ x. spliced (line_before x rest)) e ∙ ap spliced (loop_listed site first test answer body rest)))
