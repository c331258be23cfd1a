-- The code of an if, of a loop and of the rest of one, made step by step.
use Rattle.std.proofs.Common.{◌≡◌, ℕ, ◌+◌, List, [], ◌∷◌, ◌++◌, length, nat_eq, refl, sym, ap, ◌∙◌, arith, append-nil}
use Rattle.std.proofs.Common.{if◌then◌else◌}
use Rattle.std.proofs.Common.{Bool as Test, true, false}
use Rattle.std.specs.Prelude.{slice_set}
use Rattle.std.proofs.Math.Dec.{eqb-suc-zero}
use Rattle.kir.specs.declared.line.Atom.{Atom}
use Rattle.kir.specs.declared.line.Line.{Line}
use Rattle.kir.specs.declared.line.Line.TheVariants as line
use Rattle.kir.specs.Tree.{Lines, NoLine, IfThen, LoopThen}
use Rattle.kir.specs.Listed.{line_before, lines_of}
use Rattle.lane_code.specs.declared.step.Step.{Step}
use Rattle.lane_code.specs.declared.step.Step.TheVariants as step
use Rattle.mask_lower.specs.declared.registers.Free.{Free}
use Rattle.mask_lower.specs.Banks.{mask_reg}
use Rattle.mask_lower.specs.Atoms.{atoms_in}
use Rattle.mask_lower.specs.Registers.{Frame, past, past_atom}
use Rattle.mask_lower.specs.Lowered.{is_no_line, branch_code, other_code, test_step, turn_code, lines_code, begun_code}
use Rattle.mask_lower.proofs.Patch.{grown, loop_from, patch_loop}

is_line : (l : Line) (rest : Lines) → is_no_line (line_before l rest) ≡ false
is_line (line.Set to w) rest = refl
is_line (line.Load site to element root index) rest = refl
is_line (line.Store site element root index from) rest = refl
is_line (line.Clear array) rest = refl
is_line (line.If' site test _ chosen _ other) rest = refl
is_line (line.Loop' site first _ test answer _ body) rest = refl
is_line (line.Barrier site) rest = refl

pub no_line : (ls : List Line) → nat_eq (length ls) 0 ≡ is_no_line (lines_of ls)
no_line [] = refl
no_line (l ∷ ls) = eqb-suc-zero (length ls) ∙ sym (is_line l (lines_of ls))

-- a branch for the lanes of another mask
pub other_grown : (fr : Frame) (outer m f : ℕ) (next : Free) (lines : Lines) (c0 c1 c2 : List Step) →
    is_no_line lines ≡ false
    → c1 ≡ c0 ++ step.MaskLess (mask_reg m) (mask_reg outer) (mask_reg m) ∷ [] →
    c2 ≡ c1 ++ branch_code fr m f (length c1) next lines → c2 ≡ c0 ++ other_code fr outer m f (length c0) next lines
other_grown fr outer m f next lines c0 c1 c2 some e1 e2 =
    let s = step.MaskLess (mask_reg m) (mask_reg outer) (mask_reg m) in
    let nothing : ℕ → List Step = λ k. [] in
    let code : ℕ → List Step = λ k. branch_code fr m f k next lines in
    e2
    ∙ sym (grown c0 c1 (s ∷ []) code e1)
    ∙ ap (λ b. c0 ++ (if b then [] else s ∷ code (length c0 + 1))) (sym some)

pub if_grown : (fr : Frame) (m f g site : ℕ) (next n1 n2 n3 : Free) (test : Atom) (ys ns rest : Lines)
    (c0 c1 c2 c3 : List Step)
    → g ≡ f + 1 → c1 ≡ c0 ++ test_step fr next test f m ∷ [] → n1 ≡ past_atom next test
    → c2 ≡ c1 ++ branch_code fr f g (length c1) n1 ys → n2 ≡ past n1 (atoms_in ys) →
    c3 ≡ c2 ++ other_code fr m f g (length c2) n2 ns → n3 ≡ past n2 (atoms_in ns)
    → c0 ++ lines_code fr m f (length c0) next (IfThen site test ys ns rest) ≡ c3 ++
    lines_code fr m f (length c3) n3 rest
if_grown fr m f g site next n1 n2 n3 test ys ns rest c0 c1 c2 c3 eg e1 en1 e2 en2 e3 en3 =
    let next1 = past_atom next test in
    let next2 = past next1 (atoms_in ys) in
    let next3 = past next2 (atoms_in ns) in
    let y : ℕ → List Step = λ p. branch_code fr f (f + 1) p next1 ys in
    let n : ℕ → List Step = λ p. other_code fr m f (f + 1) p next2 ns in
    let r : ℕ → List Step = λ p. lines_code fr m f p next3 rest in
    let k2 : n2 ≡ next2 = en2 ∙ ap (λ x. past x (atoms_in ys)) en1 in
    let k3 : n3 ≡ next3 = en3 ∙ ap (λ x. past x (atoms_in ns)) k2 in
    let d2 : c2 ≡ c1 ++ y (length c1) = e2 ∙ ap (λ k. c1 ++ branch_code fr f k (length c1) n1 ys) eg ∙
    ap (λ x. c1 ++ branch_code fr f (f + 1) (length c1) x ys) en1 in
    let d3 : c3 ≡ c2 ++ n (length c2) = e3 ∙ ap (λ k. c2 ++ other_code fr m f k (length c2) n2 ns) eg ∙
    ap (λ x. c2 ++ other_code fr m f (f + 1) (length c2) x ns) k2 in
    grown c0 c1 (test_step fr next test f m ∷ [])
    (λ p. y p ++ (n (p + length (y p)) ++ r (p + length (y p) + length (n (p + length (y p)))))) e1
    ∙ grown c1 c2 (y (length c1)) (λ p. n p ++ r (p + length (n p))) d2
    ∙ grown c2 c3 (n (length c2)) r d3
    ∙ ap (λ x. c3 ++ lines_code fr m f (length c3) x rest) (sym k3)

pub loop_grown : (fr : Frame) (m f g site : ℕ) (first : Test) (next n1 n2 n3 : Free) (test : Lines) (answer : Atom)
    (body rest : Lines) (n start test_at turn_at : ℕ) (c0 c1 c2 c3 c4 c5 c6 : List Step)
    → g ≡ f + 1 → c1 ≡ c0 ++ step.MaskAnd (mask_reg f) (mask_reg m) (mask_reg m) ∷ [] → n ≡ length c1 →
    c2 ≡ c1 ++ step.Jump 0 ∷ [] → start ≡ length c2
    → c3 ≡ c2 ++ lines_code fr f g (length c2) next body → n1 ≡ past next (atoms_in body) → test_at ≡ length c3
    → c4 ≡ c3 ++ lines_code fr f g (length c3) n1 test → n2 ≡ past n1 (atoms_in test)
    → c5 ≡ c4 ++ turn_code fr f n2 start answer → turn_at ≡ length c4 + 1 → n3 ≡ past_atom n2 answer
    → c6 ≡ slice_set c5 n (step.Jump (if first then test_at else turn_at))
    → c0 ++ lines_code fr m f (length c0) next (LoopThen site first test answer body rest) ≡ c6 ++
    lines_code fr m f (length c6) n3 rest
loop_grown fr m f g site first next n1 n2 n3 test answer body rest n start test_at turn_at c0 c1 c2 c3 c4 c5 c6 eg e1
    m1 e2 es e3 en1 et e4 en2 e5 eu en3 e6 =
    let next1 = past next (atoms_in body) in
    let next2 = past next1 (atoms_in test) in
    let next3 = past_atom next2 answer in
    let b : ℕ → List Step = λ p. lines_code fr f (f + 1) p next body in
    let t : ℕ → List Step = λ p. lines_code fr f (f + 1) p next1 test in
    let r : ℕ → List Step = λ p. lines_code fr m f p next3 rest in
    let turn : ℕ → Step = λ p. step.Turn (mask_reg f) p in
    let ends = test_step fr next2 answer f f in
    let head = step.MaskAnd (mask_reg f) (mask_reg m) (mask_reg m) in
    let k2 : n2 ≡ next2 = en2 ∙ ap (λ x. past x (atoms_in test)) en1 in
    let k3 : n3 ≡ next3 = en3 ∙ ap (λ x. past_atom x answer) k2 in
    let d3 : c3 ≡ c2 ++ b (length c2) = e3 ∙ ap (λ k. c2 ++ lines_code fr f k (length c2) next body) eg in
    let d4 : c4 ≡ c3 ++ t (length c3) = e4 ∙ ap (λ k. c3 ++ lines_code fr f k (length c3) n1 test) eg ∙
    ap (λ x. c3 ++ lines_code fr f (f + 1) (length c3) x test) en1 in
    let d5 : c5 ≡ c4 ++ ends ∷ turn start ∷ [] = e5 ∙ ap (λ x. c4 ++ turn_code fr f x start answer) k2 in
    let two : length c0 + 2 ≡ length c0 + 1 + 1 = omega arith in
    ap (λ k. c0 ++ (head ∷ loop_from first b t ends turn r k)) two
    ∙ grown c0 c1 (head ∷ []) (λ k. loop_from first b t ends turn r (k + 1)) e1
    ∙ sym (patch_loop first b t ends turn r n start test_at turn_at c1 c2 c3 c4 c5 m1 e2 es d3 et d4 d5 eu c6 e6)
    ∙ ap (λ x. c6 ++ lines_code fr m f (length c6) x rest) (sym k3)

pub rest_grown : (fr : Frame) (site : ℕ) (first : Test) (next n1 n2 : Free) (test : Lines) (answer : Atom)
    (body : Lines) (n start turn_at : ℕ) (c0 c c1 c2 c3 c4 c5 c6 : List Step)
    → c ≡ c0 ++ step.VoteGet (mask_reg 1) ∷ [] → c1 ≡ c ++ step.MaskAnd (mask_reg 1) (mask_reg 0) (mask_reg 1) ∷ [] →
    n ≡ length c1 → c2 ≡ c1 ++ step.Jump 0 ∷ [] → start ≡ length c2
    → c3 ≡ c2 ++ lines_code fr 1 2 (length c2) next body → n1 ≡ past next (atoms_in body)
    → c4 ≡ c3 ++ lines_code fr 1 2 (length c3) n1 test → n2 ≡ past n1 (atoms_in test)
    → c5 ≡ c4 ++ turn_code fr 1 n2 start answer → turn_at ≡ length c4 + 1
    → c6 ≡ slice_set c5 n (step.Jump turn_at)
    → c6 ≡ c0 ++ begun_code fr (length c0) next true (LoopThen site first test answer body NoLine)
rest_grown fr site first next n1 n2 test answer body n start turn_at c0 c c1 c2 c3 c4 c5 c6 e0 e1 m1 e2 es e3 en1 e4
    en2 e5 eu e6 =
    let next1 = past next (atoms_in body) in
    let next2 = past next1 (atoms_in test) in
    let b : ℕ → List Step = λ p. lines_code fr 1 2 p next body in
    let t : ℕ → List Step = λ p. lines_code fr 1 2 p next1 test in
    let r : ℕ → List Step = λ p. [] in
    let turn : ℕ → Step = λ p. step.Turn (mask_reg 1) p in
    let ends = test_step fr next2 answer 1 1 in
    let get = step.VoteGet (mask_reg 1) in
    let head = step.MaskAnd (mask_reg 1) (mask_reg 0) (mask_reg 1) in
    let k2 : n2 ≡ next2 = en2 ∙ ap (λ x. past x (atoms_in test)) en1 in
    let d4 : c4 ≡ c3 ++ t (length c3) = e4 ∙ ap (λ x. c3 ++ lines_code fr 1 2 (length c3) x test) en1 in
    let d5 : c5 ≡ c4 ++ ends ∷ turn start ∷ [] = e5 ∙ ap (λ x. c4 ++ turn_code fr 1 x start answer) k2 in
    let three : length c0 + 1 + 1 + 1 ≡ length c0 + 3 = omega arith in
    sym (append-nil c6)
    ∙ patch_loop false b t ends turn r n start (length c3) turn_at c1 c2 c3 c4 c5 m1 e2 es e3 refl d4 d5 eu c6 e6
    ∙ sym (grown c c1 (head ∷ []) (λ k. loop_from false b t ends turn r (k + 1)) e1)
    ∙ sym (grown c0 c (get ∷ []) (λ k. head ∷ loop_from false b t ends turn r (k + 1 + 1)) e0)
    ∙ ap (λ k. c0 ++ (get ∷ head ∷ loop_from false b t ends turn r k)) three
