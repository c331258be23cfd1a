-- The inlined text of a function is its outline, with the text of each called function in place of the call.
use Rattle.std.proofs.Common.{◌≡◌, ℕ, zero, suc, ◌+◌, List, [], ◌∷◌, ◌++◌, Option, Some, None, refl, sym, ap, ◌∙◌}
use Rattle.std.proofs.Common.{subst, arith}
use Rattle.std.specs.Prelude.{Bool as Test, true, false}
use Rattle.cl_model.specs.Tree.{Expression, Apply, Update, Choose, Call, Expressions, none, more, Statement, Do}
use Rattle.cl_model.specs.Tree.{Declare, Fill, Block, If, Loop, Switch, Break, Continue, Return, Barrier, Statements}
use Rattle.cl_model.specs.Tree.{empty, also, Arms, no_arm, arm, Program}
use Rattle.cl_model.specs.Calls.{CallSite, calls_in, calls_among, calls_in_optional, function_at}
use Rattle.kir.specs.Inlined.{holds, body_holds, Text, NoText, DeclaredThen, CutThen as CutText}
use Rattle.kir.specs.Inlined.{BlockThen as BlockText, cut_if, expression_before, expressions_before, optional_before}
use Rattle.kir.specs.Inlined.{Inlining, variable_of, statement_before, statements_before, arms_before}
use Rattle.kir.specs.Inlined.{parameters_before, function_text}
use Rattle.ctx_plan.specs.Outline.{Outline, NoPiece, DeclaresThen, CutThen, CallsThen, BlockThen, calls_then}
use Rattle.ctx_plan.specs.Outline.{cut_then, outline_then, outlines_then, outlines_of_arms, parameters_then}
use Rattle.ctx_plan.specs.Outline.{function_outline}

-- the text of an outline of a function as it stands behind calls
abbrev pub text_of : Inlining → Outline → Text
text_of here NoPiece = NoText
text_of here (DeclaresThen x rest) = DeclaredThen (variable_of here x) (text_of here rest)
text_of here (CutThen rest) = CutText (text_of here rest)
text_of here (CallsThen site g rest) = here.called site g (text_of here rest)
text_of here (BlockThen inner rest) = BlockText (text_of here inner) (text_of here rest)

-- a function behind calls, where calls nest less deep than the depth
abbrev pub inlining : Program → ℕ → List ℕ → ℕ → Inlining
inlining program depth calls f = record {
  calls = calls;
  function = f;
  called = λ site g rest. BlockText (function_text program depth (calls ++ site ∷ []) g) rest;
  inside = body_holds program depth;
}

calls_then-append : (xs ys : List CallSite) (o : Outline) → calls_then (xs ++ ys) o ≡ calls_then xs (calls_then ys o)
calls_then-append [] ys o = refl
calls_then-append (c ∷ xs) ys o = ap (CallsThen c.site c.function) (calls_then-append xs ys o)

cut_text : (here : Inlining) (b : Test) (o : Outline) → cut_if b (text_of here o) ≡ text_of here (cut_then b o)
cut_text here true o = refl
cut_text here false o = refl

module _ (here : Inlining) where
  mutual
    expression_text : (e : Expression) (o : Outline) → expression_before here.called e (text_of here o) ≡
        text_of here (calls_then (calls_in e) o)
    expression_text (Apply action operands) o = expressions_text operands o
    expression_text (Update site element root op of back old index value) o =
        ap (expression_before here.called index) (expression_text value o)
        ∙ (expression_text index (calls_then (calls_in value) o) ∙
        ap (text_of here) (sym (calls_then-append (calls_in index) (calls_in value) o)))
    expression_text (Choose site test chosen other) o =
        ap (λ t. expression_before here.called test (expression_before here.called chosen t)) (expression_text other o)
        ∙ (ap (expression_before here.called test) (expression_text chosen (calls_then (calls_in other) o))
        ∙ (expression_text test (calls_then (calls_in chosen) (calls_then (calls_in other) o))
        ∙ ap (text_of here) (ap (calls_then (calls_in test))
        (sym (calls_then-append (calls_in chosen) (calls_in other) o)) ∙
        sym (calls_then-append (calls_in test) (calls_in chosen ++ calls_in other) o))))
    expression_text (Call site function roots arguments) o =
        expressions_text arguments (CallsThen site function o) ∙
        ap (text_of here) (sym (calls_then-append (calls_among arguments) (record {
          site = site;
          function = function;
        } ∷ []) o))

    expressions_text : (es : Expressions) (o : Outline) → expressions_before here.called es (text_of here o) ≡
        text_of here (calls_then (calls_among es) o)
    expressions_text none o = refl
    expressions_text (more e rest) o =
        ap (expression_before here.called e) (expressions_text rest o)
        ∙ (expression_text e (calls_then (calls_among rest) o) ∙
        ap (text_of here) (sym (calls_then-append (calls_in e) (calls_among rest) o)))

  optional_text : (e : Option Expression) (o : Outline) →
      optional_before here.called e (text_of here o) ≡ text_of here (calls_then (calls_in_optional e) o)
  optional_text None o = refl
  optional_text (Some e) o = expression_text e o

  mutual
    statement_text : (s : Statement) (o : Outline) →
        statement_before here s (text_of here o) ≡ text_of here (outline_then here.inside s o)
    statement_text (Do e) o = expression_text e o
    statement_text (Declare x value) o = optional_text value (DeclaresThen x o)
    statement_text (Fill site array values) o = expressions_text values o
    statement_text (Block list) o = ap (λ t. BlockText t (text_of here o)) (statements_text list NoPiece)
    statement_text (If site test chosen other) o =
        let h = holds here.inside (If site test chosen other) in
        let o1 = cut_then h o in
        let o2 = cut_then h (outlines_then here.inside other o1) in
        let o3 = cut_then h (outlines_then here.inside chosen o2) in
        ap (λ t. cut_if h (expression_before here.called test
        (cut_if h (statements_before here chosen (cut_if h (statements_before here other t))))))
        (cut_text here h o)
        ∙
        (ap (λ t. cut_if h (expression_before here.called test
        (cut_if h (statements_before here chosen (cut_if h t))))) (statements_text other o1)
        ∙ (ap (λ t. cut_if h (expression_before here.called test (cut_if h (statements_before here chosen t))))
        (cut_text here h (outlines_then here.inside other o1))
        ∙ (ap (λ t. cut_if h (expression_before here.called test (cut_if h t))) (statements_text chosen o2)
        ∙ (ap (λ t. cut_if h (expression_before here.called test t))
        (cut_text here h (outlines_then here.inside chosen o2))
        ∙ (ap (cut_if h) (expression_text test o3) ∙ cut_text here h (calls_then (calls_in test) o3))))))
    statement_text (Loop site true test step body) o =
        let h = holds here.inside (Loop site true test step body) in
        let o1 = cut_then h o in
        let o2 = cut_then h (outline_then here.inside body o1) in
        let o3 = cut_then h (calls_then (calls_in_optional step) o2) in
        ap (λ t. cut_if h (optional_before here.called test
        (cut_if h (optional_before here.called step (cut_if h (statement_before here body t))))))
        (cut_text here h o)
        ∙
        (ap (λ t. cut_if h (optional_before here.called test
        (cut_if h (optional_before here.called step (cut_if h t))))) (statement_text body o1)
        ∙ (ap (λ t. cut_if h (optional_before here.called test (cut_if h (optional_before here.called step t))))
        (cut_text here h (outline_then here.inside body o1))
        ∙ (ap (λ t. cut_if h (optional_before here.called test (cut_if h t))) (optional_text step o2)
        ∙ (ap (λ t. cut_if h (optional_before here.called test t))
        (cut_text here h (calls_then (calls_in_optional step) o2))
        ∙ (ap (cut_if h) (optional_text test o3) ∙ cut_text here h (calls_then (calls_in_optional test) o3))))))
    statement_text (Loop site false test step body) o =
        let h = holds here.inside (Loop site false test step body) in
        let o1 = cut_then h o in
        let o2 = cut_then h (calls_then (calls_in_optional test) o1) in
        let o3 = cut_then h (calls_then (calls_in_optional step) o2) in
        ap (λ t. cut_if h (statement_before here body
        (cut_if h (optional_before here.called step (cut_if h (optional_before here.called test t))))))
        (cut_text here h o)
        ∙ (ap (λ t. cut_if h (statement_before here body (cut_if h (optional_before here.called step (cut_if h t)))))
        (optional_text test o1)
        ∙ (ap (λ t. cut_if h (statement_before here body (cut_if h (optional_before here.called step t))))
        (cut_text here h (calls_then (calls_in_optional test) o1))
        ∙ (ap (λ t. cut_if h (statement_before here body (cut_if h t))) (optional_text step o2)
        ∙ (ap (λ t. cut_if h (statement_before here body t)) (cut_text here h (calls_then (calls_in_optional step) o2))
        ∙ (ap (cut_if h) (statement_text body o3) ∙ cut_text here h (outline_then here.inside body o3))))))
    statement_text (Switch site value arms) o =
        let h = holds here.inside (Switch site value arms) in
        let o1 = cut_then h o in
        let o2 = cut_then h (outlines_of_arms here.inside arms o1) in
        ap (λ t. cut_if h (expression_before here.called value (cut_if h (arms_before here arms t))))
        (cut_text here h o)
        ∙ (ap (λ t. cut_if h (expression_before here.called value (cut_if h t))) (arms_text arms o1)
        ∙ (ap (λ t. cut_if h (expression_before here.called value t))
        (cut_text here h (outlines_of_arms here.inside arms o1))
        ∙ (ap (cut_if h) (expression_text value o2) ∙ cut_text here h (calls_then (calls_in value) o2))))
    statement_text (Break site) o = refl
    statement_text (Continue site) o = refl
    statement_text (Return site value) o = optional_text value o
    statement_text (Barrier site) o = refl

    statements_text : (list : Statements) (o : Outline) →
        statements_before here list (text_of here o) ≡ text_of here (outlines_then here.inside list o)
    statements_text empty o = refl
    statements_text (also s list) o =
        ap (statement_before here s) (statements_text list o) ∙ statement_text s (outlines_then here.inside list o)

    arms_text : (arms : Arms) (o : Outline) →
        arms_before here arms (text_of here o) ≡ text_of here (outlines_of_arms here.inside arms o)
    arms_text no_arm o = refl
    arms_text (arm labels other body arms) o =
        ap (statements_before here body) (arms_text arms o) ∙ statements_text body (outlines_of_arms here.inside arms o)

  -- parameters from the one with this number on, and one more behind them
  parameters_last : (first n : ℕ) (o : Outline) → parameters_then first n (DeclaresThen (first + n) o) ≡
      parameters_then first (suc n) o
  parameters_last first zero o = let q : first + zero ≡ first = omega arith in ap (λ x. DeclaresThen x o) q
  parameters_last first (suc n) o =
      let q : first + suc n ≡ suc first + n = omega arith in
      ap (DeclaresThen first) (ap (λ x. parameters_then (suc first) n (DeclaresThen x o)) q ∙
      parameters_last (suc first) n o)

  parameters_text : (n : ℕ) (o : Outline) →
      parameters_before here n (text_of here o) ≡ text_of here (parameters_then 0 n o)
  parameters_text zero o = refl
  parameters_text (suc n) o =
      let q : 0 + n ≡ n = omega arith in
      parameters_text n (DeclaresThen n o) ∙
      ap (text_of here) (subst (λ x. parameters_then 0 n (DeclaresThen x o) ≡ parameters_then 0 (suc n) o) q
      (parameters_last 0 n o))

-- the text of a function is that of its outline
pub function_outlined : (program : Program) (depth : ℕ) (calls : List ℕ) (f : ℕ) →
    function_text program (suc depth) calls f ≡ text_of (inlining program depth calls f)
    (function_outline (body_holds program depth) (function_at program f))
function_outlined program depth calls f =
    let here = inlining program depth calls f in
    ap (parameters_before here (function_at program f).parameters) (statements_text here (function_at program f).body
    NoPiece)
    ∙ parameters_text here (function_at program f).parameters
    (outlines_then (body_holds program depth) (function_at program f).body NoPiece)
