-- Codes that grow at their ends, and a jump ahead that is written once the steps that it passes are there.
use Rattle.std.proofs.Common.{◌≡◌, ℕ, ◌+◌, List, [], ◌∷◌, ◌++◌, length, sym, ap, ◌∙◌, arith, append_assoc}
use Rattle.std.proofs.Common.{length-append, if◌then◌else◌}
use Rattle.std.proofs.Common.{Bool as Test, false}
use Rattle.std.specs.Prelude.{slice_set}
use Rattle.std.proofs.Math.Seq.{set-append_seam}
use Rattle.lane_code.specs.declared.step.Step.{Step}
use Rattle.lane_code.specs.declared.step.Step.TheVariants.{Jump, SkipNone}
use Rattle.kir.specs.Tree.{Lines}
use Rattle.mask_lower.specs.Banks.{mask_reg}
use Rattle.mask_lower.specs.Lowered.{is_no_line, skipped}

-- steps, and what stands behind them at its place
pub grown : (c0 c1 steps : List Step) (rest : ℕ → List Step) → c1 ≡ c0 ++ steps →
    c0 ++ (steps ++ rest (length c0 + length steps)) ≡ c1 ++ rest (length c1)
grown c0 c1 steps rest e =
    let n : length c0 + length steps ≡ length c1 = omega (arith, ap length e, length-append c0 steps) in
    ap (λ k. c0 ++ (steps ++ rest k)) n ∙
    sym (ap (λ c. c ++ rest (length c1)) e ∙ append_assoc c0 steps (rest (length c1)))

patched : (c0 c1 behind : List Step) (n : ℕ) (x y : Step) → c1 ≡ (c0 ++ x ∷ []) ++ behind → n ≡ length c0 →
    slice_set c1 n y ≡ c0 ++ y ∷ behind
patched c0 c1 behind n x y e m =
    ap (λ c. slice_set c n y) (e ∙ append_assoc c0 (x ∷ []) behind) ∙ ap (λ k. slice_set (c0 ++ x ∷ behind) k y) m ∙
    set-append_seam c0 x behind y

-- a branch with a skip before it
pub patch_skip : (mask : ℕ) (lines : Lines) (code : ℕ → List Step) (n : ℕ) (c0 c1 c2 c3 : List Step) →
    is_no_line lines ≡ false → n ≡ length c0 → c1 ≡ c0 ++ SkipNone (mask_reg mask) 0 ∷ []
    → c2 ≡ c1 ++ code (length c1) → c3 ≡ slice_set c2 n (SkipNone (mask_reg mask) (length c2)) →
    c3 ≡ c0 ++ skipped mask (length c0) lines (code (length c0 + 1))
patch_skip mask lines code n c0 c1 c2 c3 some m e1 e2 e3 =
    let a1 : length c1 ≡ length c0 + 1 =
    omega (arith, ap length e1, length-append c0 (SkipNone (mask_reg mask) 0 ∷ [])) in
    let steps = code (length c0 + 1) in
    let d2 : c2 ≡ c1 ++ steps = e2 ∙ ap (λ k. c1 ++ code k) a1 in
    let a2 : length c2 ≡ length c0 + 1 + length steps = omega (arith, ap length d2, length-append c1 steps) in
    e3
    ∙ patched c0 c2 steps n (SkipNone (mask_reg mask) 0) (SkipNone (mask_reg mask) (length c2)) (d2 ∙
    ap (λ c. c ++ steps) e1) m
    ∙ ap (λ k. c0 ++ SkipNone (mask_reg mask) k ∷ steps) a2
    ∙ ap (λ b. c0 ++ (if b then [] else SkipNone (mask_reg mask) (length c0 + 1 + length steps) ∷ steps)) (sym some)

-- a loop from the jump to its test or its end: the body, the test, and two steps
abbrev pub loop_from : Test → (body test : ℕ → List Step) → Step → (ℕ → Step) → (rest : ℕ → List Step) → (at : ℕ) →
    List Step
loop_from first body test ends turn rest at =
    let test_at = at + length (body at) in
    let turn_at = test_at + length (test test_at) + 1 in
    Jump (if first then test_at else turn_at) ∷ (body at ++ (test test_at ++ (ends ∷ turn at ∷ rest (turn_at + 1))))

pub patch_loop : (first : Test) (body test : ℕ → List Step) (ends : Step) (turn : ℕ → Step) (rest : ℕ →
    List Step) (n start test_at turn_at : ℕ) (c1 c2 c3 c4 c5 : List Step)
    → n ≡ length c1 → c2 ≡ c1 ++ Jump 0 ∷ [] → start ≡ length c2 → c3 ≡ c2 ++ body (length c2) → test_at ≡ length c3 →
    c4 ≡ c3 ++ test (length c3)
    → c5 ≡ c4 ++ ends ∷ turn start ∷ [] → turn_at ≡ length c4 + 1
    → (c6 : List Step) → c6 ≡ slice_set c5 n (Jump (if first then test_at else turn_at))
    → c6 ++ rest (length c6) ≡ c1 ++ loop_from first body test ends turn rest (length c1 + 1)
patch_loop first body test ends turn rest n start test_at turn_at c1 c2 c3 c4 c5 m e2 es e3 et e4 e5 eu c6 e6 =
    let p = length c1 + 1 in
    let a2 : length c2 ≡ p = omega (arith, ap length e2, length-append c1 (Jump 0 ∷ [])) in
    let d3 : c3 ≡ c2 ++ body p = e3 ∙ ap (λ k. c2 ++ body k) a2 in
    let q = p + length (body p) in
    let a3 : length c3 ≡ q = omega (arith, a2, ap length d3, length-append c2 (body p)) in
    let d4 : c4 ≡ c3 ++ test q = e4 ∙ ap (λ k. c3 ++ test k) a3 in
    let r = q + length (test q) + 1 in
    let a4 : length c4 + 1 ≡ r = omega (arith, a3, ap length d4, length-append c3 (test q)) in
    let d5 : c5 ≡ c4 ++ ends ∷ turn p ∷ [] = e5 ∙ ap (λ k. c4 ++ ends ∷ turn k ∷ []) (es ∙ a2) in
    let behind = body p ++ (test q ++ (ends ∷ turn p ∷ [])) in
    let all : c5 ≡ (((c1 ++ Jump 0 ∷ []) ++ body p) ++ test q) ++ ends ∷ turn p ∷ [] =
    d5 ∙ ap (λ c. c ++ ends ∷ turn p ∷ []) (d4 ∙ ap (λ c. c ++ test q) (d3 ∙ ap (λ c. c ++ body p) e2)) in
    let flat : (((c1 ++ Jump 0 ∷ []) ++ body p) ++ test q) ++ ends ∷ turn p ∷ [] ≡ (c1 ++ Jump 0 ∷ []) ++ behind =
    simp append_assoc in
    let target = if first then q else r in
    let a6 : (if first then test_at else turn_at) ≡ target =
    ap (λ k. if first then k else turn_at) (et ∙ a3) ∙ ap (λ k. if first then q else k) (eu ∙ a4) in
    let d6 : c6 ≡ c1 ++ Jump target ∷ behind =
    e6 ∙ ap (λ k. slice_set c5 n (Jump k)) a6 ∙ patched c1 c5 behind n (Jump 0) (Jump target) (all ∙ flat) m in
    let l1 = length-append c1 (Jump target ∷ behind) in
    let l2 = length-append (body p) (test q ++ (ends ∷ turn p ∷ [])) in
    let l3 = length-append (test q) (ends ∷ turn p ∷ []) in
    let a7 : length c6 ≡ r + 1 = omega (arith, ap length d6, l1, l2, l3) in
    let flat2 : (c1 ++ Jump target ∷ behind) ++ rest (r + 1) ≡ c1 ++ loop_from first body test ends turn rest p =
    simp append_assoc in
    ap (λ k. c6 ++ rest k) a7 ∙ ap (λ c. c ++ rest (r + 1)) d6 ∙ flat2
