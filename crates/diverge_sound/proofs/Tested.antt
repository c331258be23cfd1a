-- A test or value that does not vary has equal values at one point: by the depth of calls, at the histories of a
-- launch.
use Rattle.std.proofs.Common.{◌≡◌, ℕ, zero, suc, ℤ, List, length, Option, Some, refl, sym, ◌∙◌, subst}
use Rattle.work_items.specs.Histories.{Deed}
use Rattle.cl_model.specs.declared.program.Root.{Root}
use Rattle.cl_model.specs.Tree.{Expression, Call, Expressions, Block, Program}
use Rattle.cl_model.specs.Sizes.{Launch, group_of}
use Rattle.cl_model.specs.Calls.{function_at}
use Rattle.cl_model.specs.Task.{Point, Frame, Item, first_point}
use Rattle.cl_model.specs.Steps.{last, nth}
use Rattle.cl_model.specs.Meaning.{ItemHistory, kernel_frame}
use Rattle.cl_model.specs.Valid.{CallsEnd, IsValid}
use Rattle.cl_model.specs.Fitting.{FitsProgram}
use Rattle.cl_model.specs.Varying.{AVariable, AnExpression, Varies}
use Rattle.cl_model.specs.Agreement.{IsInBody}
use Rattle.diverge_sound.specs.Tests.{TestInBody, TestsAgreeUnlessVarying}
use Rattle.diverge_sound.proofs.Ran.{Stand}
use Rattle.diverge_sound.proofs.Keeps.{Answer, Cell}
use Rattle.diverge_sound.proofs.Values.{InBody, Alike}
use Rattle.diverge_sound.proofs.Deep.{first_held, PointsAt, who}
use Rattle.diverge_sound.proofs.Nesting.{callee_ends, ends_deeper, least_depth}
use Rattle.diverge_sound.proofs.Constants.{SameConstants, entered_same, kernel_same}
use Rattle.diverge_sound.proofs.Once.{scope_of, good_body, part_body, start_alike, points_with, points_alike, stands}
use Rattle.diverge_sound.proofs.Tests.{test_alike}

module _ (program : Program) (launch : Launch) (buffers : List (List ℕ)) (valid : IsValid program) (h : ℕ)
    (e : Expression) (nv : Varies program (AnExpression h e) → ⊥) where
  module _ (one other : ℕ) (same : group_of launch one ≡ group_of launch other) where
    tests_alike : (d m f : ℕ) (frame frame' : Frame) → SameConstants program launch buffers valid f frame frame' →
        CallsEnd program (suc m) f → (CallsEnd program m program.kernel → ⊥) →
        (site g : ℕ) (roots : List (Option Root)) (es : Expressions) → InBody program f (Call site g roots es)
        → (args args' : List ℤ) (p : Point) (inner inner' : Stand) → ((n : ℕ) → (Varies program (AVariable g n) → ⊥) →
        nth args n ≡ nth args' n) → PointsAt program launch buffers one d frame site g roots args p inner →
        PointsAt program launch buffers other d frame' site g roots args' p inner'
        → TestInBody program d g p h e → inner.value ≡ inner'.value
    tests_alike zero m f frame frame' sc ends low site g roots es inside args args' p inner inner' al c c' t = absurd c
    tests_alike (suc d) zero f frame frame' sc ends low site g roots es inside args args' p inner inner' al c c' t =
        absurd (callee_ends program zero f site g roots es ends inside)
    tests_alike (suc d) (suc m) f frame frame' sc ends low site g roots es inside args args' p inner inner' al (
      top,
      en,
      c,
    ) (top', en', c') t =
        let sc' = entered_same program launch buffers valid f one other frame frame' sc site g roots es inside args
        args' top top' en en' in
        let ends' = callee_ends program (suc m) f site g roots es ends inside in
        let low' : CallsEnd program m program.kernel → ⊥ = λ z. low (ends_deeper program m program.kernel z) in
        let t2 = points_with program launch buffers valid one other same d m g top top' sc' en.function en'.function
        ends' low' (points_alike program launch buffers valid one other same d m g top top' sc' ends' low') in
        test_alike program g (IsInBody program d) (who program launch buffers one d top)
        (who program launch buffers other d top') t2 (TestInBody program d) h e nv
        (tests_alike d m g top top' sc' ends' low')
        (Block (function_at program g).body) (scope_of program launch buffers valid g) p (first_held top)
        (first_held top') inner inner' (good_body program launch buffers valid g)
        (part_body program launch buffers valid g)
        (start_alike program launch buffers valid one other same g frame frame' roots args args' top top' en en' al) c
        c' t

  module _ (fits : FitsProgram program launch) where
    found_equal : (d : ℕ) → CallsEnd program (suc d) program.kernel → (one other : ℕ) →
        group_of launch one ≡ group_of launch other → (deeds deeds' : List Deed) (i j : Item) →
        ItemHistory program launch buffers one deeds i → ItemHistory program launch buffers other deeds' j
        → (point : Point) → first_point i.tasks ≡ Some point → first_point j.tasks ≡ Some point →
        TestInBody program (suc d) program.kernel point h e → last i.values ≡ last j.values
    found_equal d ends one other same deeds deeds' i j x x' point w w' t =
        let k = program.kernel in
        let (tops, fr, c) = stands program launch buffers valid d one ends deeds i point x w in
        let (tops', fr', c') = stands program launch buffers valid d other ends deeds' j point x' w' in
        let (m, em, nm) = least_depth program (suc d) k ends in
        let sc = kernel_same program launch buffers valid fits one other same in
        let t2 = points_with program launch buffers valid one other same d m k (kernel_frame program launch one)
        (kernel_frame program launch other) sc refl refl em nm
        (points_alike program launch buffers valid one other same d m k (kernel_frame program launch one)
        (kernel_frame program launch other) sc em nm) in
        fr.1 ∙ test_alike program k (IsInBody program d)
        (who program launch buffers one d (kernel_frame program launch one))
        (who program launch buffers other d (kernel_frame program launch other)) t2 (TestInBody program d) h e nv
        (tests_alike one other same d m k (kernel_frame program launch one) (kernel_frame program launch other) sc em
        nm)
        (Block (function_at program k).body) (scope_of program launch buffers valid k) point
        (first_held (kernel_frame program launch one)) (first_held (kernel_frame program launch other)) tops tops'
        (good_body program launch buffers valid k) (part_body program launch buffers valid k)
        (start_kernel one other) c c' t
        ∙ sym fr'.1
      where
        start_kernel : (one other : ℕ) →
            Alike program program.kernel (scope_of program launch buffers valid program.kernel)
            (first_held (kernel_frame program launch one)) (first_held (kernel_frame program launch other))
        start_kernel one other Answer has nv = refl
        start_kernel one other (Cell x) has nv = refl

-- a test or value that does not vary has equal values at one point
pub tests_once : (program : Program) (launch : Launch) (buffers : List (List ℕ)) → IsValid program →
    FitsProgram program launch → TestsAgreeUnlessVarying program launch buffers
tests_once program launch buffers valid fits h e nv one other lt lt' same deeds deeds' i j x x' point w w' t =
    by_depth (length program.functions) refl t
  where
    by_depth : (n : ℕ) → length program.functions ≡ n → TestInBody program n program.kernel point h e →
        last i.values ≡ last j.values
    by_depth zero q t = absurd t
    by_depth (suc d) q t = found_equal program launch buffers valid h e nv fits d
        (subst (λ n. CallsEnd program n program.kernel) q (valid.calls program.kernel valid.kernel)) one other same
        deeds deeds' i j x x' point w w' t
