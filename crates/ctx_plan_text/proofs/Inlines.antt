-- The variables of the inlined text of a function are those of its declarations and calls, in order.
use Rattle.std.proofs.Common.{◌≡◌, ◌≢◌, ℕ, zero, suc, ◌-◌, List, [], ◌∷◌, ◌++◌, Option, Some, None, refl, sym, ap}
use Rattle.std.proofs.Common.{◌∙◌, arith, append_assoc, append-nil}
use Rattle.std.specs.Prelude.{Bool as Test, true, false}
use Rattle.std.specs.List.{flat_map}
use Rattle.std.proofs.lemmas.Grind.{flat_map-append}
use Rattle.cl_model.specs.Tree.{Expression, Apply, Update, Choose, Call, Expressions, none, more, Statement, Do}
use Rattle.cl_model.specs.Tree.{Declare, Fill, Block, If, Loop, Switch, Break, Continue, Return, Barrier, Statements}
use Rattle.cl_model.specs.Tree.{empty, also, Arms, no_arm, arm, Program}
use Rattle.cl_model.specs.Calls.{CallSite, calls_in, calls_among, calls_in_optional, function_at}
use Rattle.kir.specs.Tree.{Variable}
use Rattle.kir.specs.Inlined.{holds, body_holds, Text, NoText, DeclaredThen, BlockThen, cut_if, expression_before}
use Rattle.kir.specs.Inlined.{expressions_before, optional_before, Inlining, variable_of, statement_before}
use Rattle.kir.specs.Inlined.{statements_before, arms_before, parameters_before, function_text, variables_in}
use Rattle.ctx_plan_text.specs.declared.outline.Entry.{Entry}
use Rattle.ctx_plan_text.specs.declared.outline.Entry.TheVariants as entry
use Rattle.ctx_plan_text.specs.Entries.{call_entries, statement_entries, all_entries, arm_entries, parameter_entries}
use Rattle.ctx_plan_text.specs.Entries.{function_entries}
use Rattle.ctx_plan_text.proofs.Behind.{calls_both}

-- the variables of an entry of a function behind calls, in which calls nest less deep than the depth
abbrev pub entry_variables : Program → (depth : ℕ) → (calls : List ℕ) → (f : ℕ) → Entry → List Variable
entry_variables program depth calls f (entry.Declares x) = record { calls = calls; function = f; number = x } ∷ []
entry_variables program depth calls f (entry.Calls site g) =
    variables_in (function_text program depth (calls ++ site ∷ []) g)

cut_variables : (b : Test) (t : Text) → variables_in (cut_if b t) ≡ variables_in t
cut_variables true t = refl
cut_variables false t = refl

module _ (program : Program) (depth : ℕ) (calls : List ℕ) (f : ℕ) where
  -- the function as it stands in the text
  abbrev here : Inlining
  here = record {
    calls = calls;
    function = f;
    called = λ site g rest. BlockThen (function_text program depth (calls ++ site ∷ []) g) rest;
    inside = body_holds program depth;
  }

  -- the variables of entries
  abbrev each : List Entry → List Variable
  each entries = flat_map (entry_variables program depth calls f) entries

  -- the variables of entries and more entries, before others
  both : (xs ys : List Entry) (vs : List Variable) → each xs ++ (each ys ++ vs) ≡ each (xs ++ ys) ++ vs
  both xs ys vs = sym (append_assoc (each xs) (each ys) vs) ∙
      ap (λ l. l ++ vs) (sym (flat_map-append (entry_variables program depth calls f) xs ys))

  -- of calls and more calls
  both_calls : (xs ys : List CallSite) (vs : List Variable) →
      each (call_entries xs) ++ (each (call_entries ys) ++ vs) ≡ each (call_entries (xs ++ ys)) ++ vs
  both_calls xs ys vs = both (call_entries xs) (call_entries ys) vs ∙ ap (λ l. each l ++ vs) (sym (calls_both xs ys))

  -- and of three
  three : (xs ys zs : List Entry) (vs : List Variable) →
      each xs ++ (each ys ++ (each zs ++ vs)) ≡ each (xs ++ (ys ++ zs)) ++ vs
  three xs ys zs vs = ap (λ l. each xs ++ l) (both ys zs vs) ∙ both xs (ys ++ zs) vs

  mutual
    expression_variables : (e : Expression) (rest : Text) → variables_in (expression_before here.called e rest) ≡
        each (call_entries (calls_in e)) ++ variables_in rest
    expression_variables (Apply action operands) rest = expressions_variables operands rest
    expression_variables (Update site element root op of back old index value) rest =
        expression_variables index (expression_before here.called value rest)
        ∙ (ap (λ l. each (call_entries (calls_in index)) ++ l) (expression_variables value rest) ∙
        both_calls (calls_in index) (calls_in value) (variables_in rest))
    expression_variables (Choose site test chosen other) rest =
        expression_variables test (expression_before here.called chosen (expression_before here.called other rest))
        ∙ (ap (λ l. each (call_entries (calls_in test)) ++ l)
        (expression_variables chosen (expression_before here.called other rest)
        ∙ (ap (λ l. each (call_entries (calls_in chosen)) ++ l) (expression_variables other rest) ∙
        both_calls (calls_in chosen) (calls_in other) (variables_in rest)))
        ∙ both_calls (calls_in test) (calls_in chosen ++ calls_in other) (variables_in rest))
    expression_variables (Call site g roots arguments) rest =
        expressions_variables arguments (BlockThen (function_text program depth (calls ++ site ∷ []) g) rest)
        ∙ (ap (λ l. each (call_entries (calls_among arguments)) ++ l)
        (sym (append_assoc (variables_in (function_text program depth (calls ++ site ∷ []) g)) []
        (variables_in rest)))
        ∙ both_calls (calls_among arguments) (record { site = site; function = g } ∷ []) (variables_in rest))

    expressions_variables : (es : Expressions) (rest : Text) → variables_in (expressions_before here.called es rest) ≡
        each (call_entries (calls_among es)) ++ variables_in rest
    expressions_variables none rest = refl
    expressions_variables (more e es) rest =
        expression_variables e (expressions_before here.called es rest)
        ∙ (ap (λ l. each (call_entries (calls_in e)) ++ l) (expressions_variables es rest) ∙
        both_calls (calls_in e) (calls_among es) (variables_in rest))

  optional_variables : (e : Option Expression) (rest : Text) → variables_in (optional_before here.called e rest) ≡
      each (call_entries (calls_in_optional e)) ++ variables_in rest
  optional_variables None rest = refl
  optional_variables (Some e) rest = expression_variables e rest

  mutual
    statement_variables : (s : Statement) (rest : Text) →
        variables_in (statement_before here s rest) ≡ each (statement_entries s) ++ variables_in rest
    statement_variables (Do e) rest = expression_variables e rest
    statement_variables (Declare x value) rest =
        optional_variables value (DeclaredThen (variable_of here x) rest) ∙
        both (call_entries (calls_in_optional value)) (entry.Declares x ∷ []) (variables_in rest)
    statement_variables (Fill site array values) rest = expressions_variables values rest
    statement_variables (Block list) rest =
        ap (λ l. l ++ variables_in rest) (statements_variables list NoText ∙ append-nil (each (all_entries list)))
    statement_variables (If site test chosen other) rest =
        let h = holds here.inside (If site test chosen other) in
        cut_variables h _
        ∙ (expression_variables test _
        ∙ (ap (λ l. each (call_entries (calls_in test)) ++ l)
        (cut_variables h _
        ∙ (statements_variables chosen _
        ∙ ap (λ l. each (all_entries chosen) ++ l) (cut_variables h _ ∙
        (statements_variables other _ ∙ ap (λ l. each (all_entries other) ++ l) (cut_variables h rest)))))
        ∙ three (call_entries (calls_in test)) (all_entries chosen) (all_entries other) (variables_in rest)))
    statement_variables (Loop site true test step body) rest =
        let h = holds here.inside (Loop site true test step body) in
        cut_variables h _
        ∙ (optional_variables test _
        ∙ (ap (λ l. each (call_entries (calls_in_optional test)) ++ l)
        (cut_variables h _
        ∙ (optional_variables step _
        ∙ ap (λ l. each (call_entries (calls_in_optional step)) ++ l) (cut_variables h _ ∙
        (statement_variables body _ ∙ ap (λ l. each (statement_entries body) ++ l) (cut_variables h rest)))))
        ∙ three (call_entries (calls_in_optional test)) (call_entries (calls_in_optional step))
        (statement_entries body) (variables_in rest)))
    statement_variables (Loop site false test step body) rest =
        let h = holds here.inside (Loop site false test step body) in
        cut_variables h _
        ∙ (statement_variables body _
        ∙ (ap (λ l. each (statement_entries body) ++ l)
        (cut_variables h _
        ∙ (optional_variables step _
        ∙ ap (λ l. each (call_entries (calls_in_optional step)) ++ l) (cut_variables h _ ∙
        (optional_variables test _ ∙ ap (λ l. each (call_entries (calls_in_optional test)) ++ l)
        (cut_variables h rest)))))
        ∙ three (statement_entries body) (call_entries (calls_in_optional step))
        (call_entries (calls_in_optional test)) (variables_in rest)))
    statement_variables (Switch site value arms) rest =
        let h = holds here.inside (Switch site value arms) in
        cut_variables h _
        ∙ (expression_variables value _
        ∙ (ap (λ l. each (call_entries (calls_in value)) ++ l) (cut_variables h _ ∙
        (arms_variables arms _ ∙ ap (λ l. each (arm_entries arms) ++ l) (cut_variables h rest)))
        ∙ both (call_entries (calls_in value)) (arm_entries arms) (variables_in rest)))
    statement_variables (Break site) rest = refl
    statement_variables (Continue site) rest = refl
    statement_variables (Return site value) rest = optional_variables value rest
    statement_variables (Barrier site) rest = refl

    statements_variables : (list : Statements) (rest : Text) → variables_in (statements_before here list rest) ≡
        each (all_entries list) ++ variables_in rest
    statements_variables empty rest = refl
    statements_variables (also s list) rest =
        statement_variables s (statements_before here list rest)
        ∙ (ap (λ l. each (statement_entries s) ++ l) (statements_variables list rest) ∙
        both (statement_entries s) (all_entries list) (variables_in rest))

    arms_variables : (arms : Arms) (rest : Text) →
        variables_in (arms_before here arms rest) ≡ each (arm_entries arms) ++ variables_in rest
    arms_variables no_arm rest = refl
    arms_variables (arm labels other body arms) rest =
        statements_variables body (arms_before here arms rest)
        ∙ (ap (λ l. each (all_entries body) ++ l) (arms_variables arms rest) ∙
        both (all_entries body) (arm_entries arms) (variables_in rest))

  parameters_variables : (n : ℕ) (rest : Text) →
      variables_in (parameters_before here n rest) ≡ each (parameter_entries n) ++ variables_in rest
  parameters_variables zero rest = refl
  parameters_variables (suc n) rest = parameters_variables n (DeclaredThen (variable_of here n) rest) ∙
      both (parameter_entries n) (entry.Declares n ∷ []) (variables_in rest)

  -- the variables of a function are those of its entries
  pub function_variables : variables_in (function_text program (suc depth) calls f) ≡
      flat_map (entry_variables program depth calls f) (function_entries (function_at program f))
  function_variables =
      let g = function_at program f in
      parameters_variables g.parameters (statements_before here g.body NoText)
      ∙ (ap (λ l. each (parameter_entries g.parameters) ++ l) (statements_variables g.body NoText)
      ∙ (both (parameter_entries g.parameters) (all_entries g.body) [] ∙ append-nil (each (function_entries g))))

-- the same at a depth that is not 0, where entries are put behind variables
pub function_behind : (program : Program) (depth : ℕ) (calls : List ℕ) (f : ℕ) (entries : List Entry)
    (old new : List Variable) → depth ≢ 0 → entries ≡ function_entries (function_at program f)
    → new ≡ old ++ flat_map (entry_variables program (depth - 1) calls f) entries →
    new ≡ old ++ variables_in (function_text program depth calls f)
function_behind program zero calls f entries old new some is put = absurd (some refl)
function_behind program (suc depth) calls f entries old new some is put =
    let less : suc depth - 1 ≡ depth = omega arith in
    put
    ∙ (ap (λ n. old ++ flat_map (entry_variables program n calls f) entries) less
    ∙ ap (λ l. old ++ l) (ap (flat_map (entry_variables program depth calls f)) is ∙
    sym (function_variables program depth calls f)))
