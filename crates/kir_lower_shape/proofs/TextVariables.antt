-- Which variables the inlined text of statements declares: those of their own, and those of the functions that they
-- call.
use Rattle.std.proofs.Common.{◌≡◌, ℕ, zero, suc, ◌+◌, ◌<◌, List, [], ◌∷◌, ◌++◌, length, Option, Some, None, refl, sym}
use Rattle.std.proofs.Common.{ap, ◌∙◌, subst, arith, true, false, ◌⊎◌, inl, inr, ⊎_elim, eq-eqb, if◌then◌else◌}
use Rattle.std.proofs.Common.{Bool as Test}
use Rattle.std.specs.Prelude.{nat_eq}
use Rattle.std.proofs.lemmas.Bool.{eqb-true}
use Rattle.std.proofs.lemmas.Option.{slice_get_within}
use Rattle.cl_model.specs.Tree.{Expression, Apply, Update, Choose, Call, Expressions, none, more, Statement, Do}
use Rattle.cl_model.specs.Tree.{Declare, Fill, Block, If, Loop, Switch, Break, Continue, Return, Barrier, Statements}
use Rattle.cl_model.specs.Tree.{empty, also, Arms, no_arm, arm, Function, Program}
use Rattle.cl_model.specs.Lists.{IsOneOf}
use Rattle.cl_model.specs.Calls.{CallSite, calls_in, calls_among, calls_in_optional, calls_of, calls_of_all}
use Rattle.cl_model.specs.Calls.{calls_of_arms}
use Rattle.cl_model.specs.Valid.{StatementFits, AllFit, ArmsFit, declarations, all_declarations, arms_declarations}
use Rattle.kir.specs.Tree.{Variable}
use Rattle.kir.specs.Inlined.{Text, NoText, DeclaredThen, cut_if, holds, expression_before, expressions_before}
use Rattle.kir.specs.Inlined.{optional_before, Inlining, variable_of, statement_before, statements_before}
use Rattle.kir.specs.Inlined.{arms_before, parameters_before, variables_in}
use Rattle.kir_lower_shape.proofs.Quiet.{true_false}
use Rattle.kir_lower_shape.proofs.Members.{once, one_left, one_right, one_split}

-- the text declares the variable
abbrev pub Mem : Text → Variable → Type 0
Mem text v = IsOneOf (variables_in text) v

cut_in : (b : Test) (text : Text) (v : Variable) → Mem text v → Mem (cut_if b text) v
cut_in true text v h = h
cut_in false text v h = h

cut_out : (b : Test) (text : Text) (v : Variable) → Mem (cut_if b text) v → Mem text v
cut_out true text v h = h
cut_out false text v h = h

positive_split : (a b : ℕ) → 0 < a + b → (0 < a) ⊎ (0 < b)
positive_split zero b h = inr (omega (arith, h))
positive_split (suc a) b h = inl (omega arith)

once_is : (x y : ℕ) → 0 < once x y → y ≡ x
once_is x y = by_test (nat_eq y x) refl
  where
    by_test : (b : Test) → nat_eq y x ≡ b → 0 < once x y → y ≡ x
    by_test true e h = eqb-true y x e
    by_test false e h = let z : once x y ≡ 0 = ap (λ b. if b then 1 else 0) e in absurd (omega (arith, h, z))

module _ (here : Inlining) (inner : ℕ → ℕ → Variable → Type 0)
    (into_call : (site g : ℕ) (rest : Text) (v : Variable) → inner site g v → Mem (here.called site g rest) v)
    (past_call : (site g : ℕ) (rest : Text) (v : Variable) → Mem rest v → Mem (here.called site g rest) v)
    (from_call : (site g : ℕ) (rest : Text) (v : Variable) → Mem (here.called site g rest) v → inner site g v ⊎
    Mem rest v) where
  -- one of the calls leads to it
  abbrev pub FoundIn : List CallSite → Variable → Type 0
  FoundIn calls v = (c : CallSite) × IsOneOf calls c × inner c.site c.function v

  found_left : (xs ys : List CallSite) (v : Variable) → FoundIn xs v → FoundIn (xs ++ ys) v
  found_left xs ys v f = (f.0, one_left xs ys f.0 f.1, f.2)

  found_right : (xs ys : List CallSite) (v : Variable) → FoundIn ys v → FoundIn (xs ++ ys) v
  found_right xs ys v f = (f.0, one_right xs ys f.0 f.1, f.2)

  found_split : (xs ys : List CallSite) (v : Variable) → FoundIn (xs ++ ys) v → FoundIn xs v ⊎ FoundIn ys v
  found_split xs ys v f = ⊎_elim (λ k. inl (f.0, k, f.2)) (λ k. inr (f.0, k, f.2)) (one_split xs ys f.0 f.1)

  this_call : (site function : ℕ) (rest : Text) (v : Variable) →
      FoundIn (record { site = site; function = function } ∷ []) v → Mem (here.called site function rest) v
  this_call site function rest v (c, inl e, i) =
      into_call site function rest v (subst (λ (z : CallSite). inner z.site z.function v) (sym e) i)
  this_call site function rest v (c, inr h, i) = absurd h

  -- ---- what is declared behind stays declared
  mutual
    expression_keeps : (e : Expression) (rest : Text) (v : Variable) → Mem rest v →
        Mem (expression_before here.called e rest) v
    expression_keeps (Apply action operands) rest v h = operands_keep operands rest v h
    expression_keeps (Update site element root op of back old index value) rest v h =
        expression_keeps index (expression_before here.called value rest) v (expression_keeps value rest v h)
    expression_keeps (Choose site test chosen other) rest v h =
        expression_keeps test (expression_before here.called chosen (expression_before here.called other rest)) v
        (expression_keeps chosen (expression_before here.called other rest) v (expression_keeps other rest v h))
    expression_keeps (Call site function roots arguments) rest v h =
        operands_keep arguments (here.called site function rest) v (past_call site function rest v h)

    operands_keep : (list : Expressions) (rest : Text) (v : Variable) → Mem rest v →
        Mem (expressions_before here.called list rest) v
    operands_keep none rest v h = h
    operands_keep (more e es) rest v h =
        expression_keeps e (expressions_before here.called es rest) v (operands_keep es rest v h)

  optional_keeps : (e : Option Expression) (rest : Text) (v : Variable) → Mem rest v →
      Mem (optional_before here.called e rest) v
  optional_keeps None rest v h = h
  optional_keeps (Some e) rest v h = expression_keeps e rest v h

  mutual
    statement_keeps : (s : Statement) (rest : Text) (v : Variable) → Mem rest v → Mem (statement_before here s rest) v
    statement_keeps (Do e) rest v h = expression_keeps e rest v h
    statement_keeps (Declare x value) rest v h = optional_keeps value (DeclaredThen (variable_of here x) rest) v (inr h)
    statement_keeps (Fill site array values) rest v h = operands_keep values rest v h
    statement_keeps (Block list) rest v h =
        one_right (variables_in (statements_before here list NoText)) (variables_in rest) v h
    statement_keeps (If site test chosen other) rest v h =
        let b = holds here.inside (If site test chosen other) in
        cut_in b _ v (expression_keeps test _ v
        (cut_in b _ v (list_keeps chosen _ v (cut_in b _ v (list_keeps other _ v (cut_in b rest v h))))))
    statement_keeps (Loop site true test step body) rest v h =
        let b = holds here.inside (Loop site true test step body) in
        cut_in b _ v (optional_keeps test _ v
        (cut_in b _ v (optional_keeps step _ v (cut_in b _ v (statement_keeps body _ v (cut_in b rest v h))))))
    statement_keeps (Loop site false test step body) rest v h =
        let b = holds here.inside (Loop site false test step body) in
        cut_in b _ v (statement_keeps body _ v
        (cut_in b _ v (optional_keeps step _ v (cut_in b _ v (optional_keeps test _ v (cut_in b rest v h))))))
    statement_keeps (Switch site value arms) rest v h =
        let b = holds here.inside (Switch site value arms) in
        cut_in b _ v (expression_keeps value _ v (cut_in b _ v (arms_keep arms _ v (cut_in b rest v h))))
    statement_keeps (Break site) rest v h = h
    statement_keeps (Continue site) rest v h = h
    statement_keeps (Return site value) rest v h = optional_keeps value rest v h
    statement_keeps (Barrier site) rest v h = h

    list_keeps : (list : Statements) (rest : Text) (v : Variable) → Mem rest v →
        Mem (statements_before here list rest) v
    list_keeps empty rest v h = h
    list_keeps (also s list) rest v h =
        statement_keeps s (statements_before here list rest) v (list_keeps list rest v h)

    arms_keep : (arms : Arms) (rest : Text) (v : Variable) → Mem rest v → Mem (arms_before here arms rest) v
    arms_keep no_arm rest v h = h
    arms_keep (arm labels other body arms) rest v h =
        list_keeps body (arms_before here arms rest) v (arms_keep arms rest v h)

  -- ---- what a function that is called declares is declared
  mutual
    expression_calls : (e : Expression) (rest : Text) (v : Variable) → FoundIn (calls_in e) v →
        Mem (expression_before here.called e rest) v
    expression_calls (Apply action operands) rest v f = operands_call operands rest v f
    expression_calls (Update site element root op of back old index value) rest v f =
        ⊎_elim (λ g. expression_calls index (expression_before here.called value rest) v g)
        (λ g. expression_keeps index (expression_before here.called value rest) v
        (expression_calls value rest v g)) (found_split (calls_in index) (calls_in value) v f)
    expression_calls (Choose site test chosen other) rest v f =
        let after = expression_before here.called chosen (expression_before here.called other rest) in
        ⊎_elim (λ g. expression_calls test after v g)
        (λ g. expression_keeps test after v
        (⊎_elim (λ k. expression_calls chosen (expression_before here.called other rest) v k)
        (λ k. expression_keeps chosen (expression_before here.called other rest) v
        (expression_calls other rest v k)) (found_split (calls_in chosen) (calls_in other) v g)))
        (found_split (calls_in test) (calls_in chosen ++ calls_in other) v f)
    expression_calls (Call site function roots arguments) rest v f =
        ⊎_elim (λ g. operands_call arguments (here.called site function rest) v g)
        (λ g. operands_keep arguments (here.called site function rest) v (this_call site function rest v g))
        (found_split (calls_among arguments) (record { site = site; function = function } ∷ []) v f)

    operands_call : (list : Expressions) (rest : Text) (v : Variable) → FoundIn (calls_among list) v →
        Mem (expressions_before here.called list rest) v
    operands_call none rest v f = absurd f.1
    operands_call (more e es) rest v f =
        ⊎_elim (λ g. expression_calls e (expressions_before here.called es rest) v g)
        (λ g. expression_keeps e (expressions_before here.called es rest) v (operands_call es rest v g))
        (found_split (calls_in e) (calls_among es) v f)

  optional_calls : (e : Option Expression) (rest : Text) (v : Variable) → FoundIn (calls_in_optional e) v →
      Mem (optional_before here.called e rest) v
  optional_calls None rest v f = absurd f.1
  optional_calls (Some e) rest v f = expression_calls e rest v f

  mutual
    statement_calls : (s : Statement) (rest : Text) (v : Variable) → FoundIn (calls_of s) v →
        Mem (statement_before here s rest) v
    statement_calls (Do e) rest v f = expression_calls e rest v f
    statement_calls (Declare x value) rest v f = optional_calls value (DeclaredThen (variable_of here x) rest) v f
    statement_calls (Fill site array values) rest v f = operands_call values rest v f
    statement_calls (Block list) rest v f =
        one_left (variables_in (statements_before here list NoText)) (variables_in rest) v (list_calls list NoText v f)
    statement_calls (If site test chosen other) rest v f =
        let b = holds here.inside (If site test chosen other) in
        cut_in b _ v (⊎_elim (λ g. expression_calls test _ v g)
        (λ g. expression_keeps test _ v
        (cut_in b _ v (⊎_elim (λ k. list_calls chosen _ v k)
        (λ k. list_keeps chosen _ v (cut_in b _ v (list_calls other _ v k)))
        (found_split (calls_of_all chosen) (calls_of_all other) v g))))
        (found_split (calls_in test) (calls_of_all chosen ++ calls_of_all other) v f))
    statement_calls (Loop site true test step body) rest v f =
        let b = holds here.inside (Loop site true test step body) in
        cut_in b _ v (⊎_elim (λ g. optional_calls test _ v g)
        (λ g. optional_keeps test _ v (cut_in b _ v
        (⊎_elim (λ k. optional_calls step _ v k)
        (λ k. optional_keeps step _ v (cut_in b _ v (statement_calls body _ v k)))
        (found_split (calls_in_optional step) (calls_of body) v g))))
        (found_split (calls_in_optional test) (calls_in_optional step ++ calls_of body) v f))
    statement_calls (Loop site false test step body) rest v f =
        let b = holds here.inside (Loop site false test step body) in
        cut_in b _ v (⊎_elim (λ g. statement_keeps body _ v
        (cut_in b _ v (optional_keeps step _ v (cut_in b _ v (optional_calls test _ v g)))))
        (λ g. ⊎_elim (λ k. statement_keeps body _ v (cut_in b _ v (optional_calls step _ v k)))
        (λ k. statement_calls body _ v k) (found_split (calls_in_optional step) (calls_of body) v g))
        (found_split (calls_in_optional test) (calls_in_optional step ++ calls_of body) v f))
    statement_calls (Switch site value arms) rest v f =
        let b = holds here.inside (Switch site value arms) in
        cut_in b _ v (⊎_elim (λ g. expression_calls value _ v g)
        (λ g. expression_keeps value _ v (cut_in b _ v (arms_call arms _ v g)))
        (found_split (calls_in value) (calls_of_arms arms) v f))
    statement_calls (Break site) rest v f = absurd f.1
    statement_calls (Continue site) rest v f = absurd f.1
    statement_calls (Return site value) rest v f = optional_calls value rest v f
    statement_calls (Barrier site) rest v f = absurd f.1

    pub list_calls : (list : Statements) (rest : Text) (v : Variable) → FoundIn (calls_of_all list) v →
        Mem (statements_before here list rest) v
    list_calls empty rest v f = absurd f.1
    list_calls (also s list) rest v f =
        ⊎_elim (λ g. statement_calls s (statements_before here list rest) v g)
        (λ g. statement_keeps s (statements_before here list rest) v (list_calls list rest v g))
        (found_split (calls_of s) (calls_of_all list) v f)

    arms_call : (arms : Arms) (rest : Text) (v : Variable) → FoundIn (calls_of_arms arms) v →
        Mem (arms_before here arms rest) v
    arms_call no_arm rest v f = absurd f.1
    arms_call (arm labels other body arms) rest v f =
        ⊎_elim (λ g. list_calls body (arms_before here arms rest) v g)
        (λ g. list_keeps body (arms_before here arms rest) v (arms_call arms rest v g))
        (found_split (calls_of_all body) (calls_of_arms arms) v f)

  -- ---- what a statement declares is declared
  mutual
    statement_declares : (s : Statement) (rest : Text) (x : ℕ) → 0 < declarations s x →
        Mem (statement_before here s rest) (variable_of here x)
    statement_declares (Do e) rest x h = absurd (omega (arith, h))
    statement_declares (Declare y value) rest x h =
        optional_keeps value (DeclaredThen (variable_of here y) rest) (variable_of here x)
        (inl (ap (variable_of here) (once_is x y h)))
    statement_declares (Fill site array values) rest x h = absurd (omega (arith, h))
    statement_declares (Block list) rest x h =
        one_left (variables_in (statements_before here list NoText)) (variables_in rest) (variable_of here x)
        (list_declares list NoText x h)
    statement_declares (If site test chosen other) rest x h =
        let b = holds here.inside (If site test chosen other) in
        let v = variable_of here x in
        cut_in b _ v (expression_keeps test _ v
        (cut_in b _ v (⊎_elim (λ k. list_declares chosen _ x k)
        (λ k. list_keeps chosen _ v (cut_in b _ v (list_declares other _ x k)))
        (positive_split (all_declarations chosen x) (all_declarations other x) h))))
    statement_declares (Loop site true test step body) rest x h =
        let b = holds here.inside (Loop site true test step body) in
        let v = variable_of here x in
        cut_in b _ v (optional_keeps test _ v
        (cut_in b _ v (optional_keeps step _ v (cut_in b _ v (statement_declares body _ x h)))))
    statement_declares (Loop site false test step body) rest x h =
        let b = holds here.inside (Loop site false test step body) in
        cut_in b _ (variable_of here x) (statement_declares body _ x h)
    statement_declares (Switch site value arms) rest x h =
        let b = holds here.inside (Switch site value arms) in
        let v = variable_of here x in
        cut_in b _ v (expression_keeps value _ v (cut_in b _ v (arms_declare arms _ x h)))
    statement_declares (Break site) rest x h = absurd (omega (arith, h))
    statement_declares (Continue site) rest x h = absurd (omega (arith, h))
    statement_declares (Return site value) rest x h = absurd (omega (arith, h))
    statement_declares (Barrier site) rest x h = absurd (omega (arith, h))

    pub list_declares : (list : Statements) (rest : Text) (x : ℕ) → 0 < all_declarations list x →
        Mem (statements_before here list rest) (variable_of here x)
    list_declares empty rest x h = absurd (omega (arith, h))
    list_declares (also s list) rest x h =
        ⊎_elim (λ k. statement_declares s (statements_before here list rest) x k)
        (λ k. statement_keeps s (statements_before here list rest) (variable_of here x)
        (list_declares list rest x k)) (positive_split (declarations s x) (all_declarations list x) h)

    arms_declare : (arms : Arms) (rest : Text) (x : ℕ) → 0 < arms_declarations arms x →
        Mem (arms_before here arms rest) (variable_of here x)
    arms_declare no_arm rest x h = absurd (omega (arith, h))
    arms_declare (arm labels other body arms) rest x h =
        ⊎_elim (λ k. list_declares body (arms_before here arms rest) x k)
        (λ k. list_keeps body (arms_before here arms rest) (variable_of here x) (arms_declare arms rest x k))
        (positive_split (all_declarations body x) (arms_declarations arms x) h)

  -- ---- and nothing else
  mutual
    expression_from : (e : Expression) (rest : Text) (v : Variable) → Mem (expression_before here.called e rest) v →
        FoundIn (calls_in e) v ⊎ Mem rest v
    expression_from (Apply action operands) rest v h = operands_from operands rest v h
    expression_from (Update site element root op of back old index value) rest v h =
        ⊎_elim (λ f. inl (found_left (calls_in index) (calls_in value) v f))
        (λ m. ⊎_elim (λ f. inl (found_right (calls_in index) (calls_in value) v f)) (λ k. inr k)
        (expression_from value rest v m)) (expression_from index _ v h)
    expression_from (Choose site test chosen other) rest v h =
        ⊎_elim (λ f. inl (found_left (calls_in test) (calls_in chosen ++ calls_in other) v f))
        (λ m. ⊎_elim (λ f. inl (found_right (calls_in test) (calls_in chosen ++ calls_in other) v
        (found_left (calls_in chosen) (calls_in other) v f)))
        (λ k. ⊎_elim (λ f. inl (found_right (calls_in test) (calls_in chosen ++ calls_in other) v
        (found_right (calls_in chosen) (calls_in other) v f))) (λ l. inr l) (expression_from other rest v k))
        (expression_from chosen _ v m)) (expression_from test _ v h)
    expression_from (Call site function roots arguments) rest v h =
        ⊎_elim (λ f. inl (found_left (calls_among arguments) (record { site = site; function = function } ∷ []) v f))
        (λ m. ⊎_elim (λ i. inl (found_right (calls_among arguments) (record { site = site; function = function } ∷ [])
        v (record { site = site; function = function }, inl refl, i))) (λ k. inr k)
        (from_call site function rest v m))
        (operands_from arguments _ v h)

    operands_from : (list : Expressions) (rest : Text) (v : Variable) →
        Mem (expressions_before here.called list rest) v → FoundIn (calls_among list) v ⊎ Mem rest v
    operands_from none rest v h = inr h
    operands_from (more e es) rest v h =
        ⊎_elim (λ f. inl (found_left (calls_in e) (calls_among es) v f))
        (λ m. ⊎_elim (λ f. inl (found_right (calls_in e) (calls_among es) v f)) (λ k. inr k)
        (operands_from es rest v m)) (expression_from e _ v h)

  optional_from : (e : Option Expression) (rest : Text) (v : Variable) → Mem (optional_before here.called e rest) v →
      FoundIn (calls_in_optional e) v ⊎ Mem rest v
  optional_from None rest v h = inr h
  optional_from (Some e) rest v h = expression_from e rest v h

  module _ (program : Program) (f : Function) where
    -- a variable of the function
    abbrev pub Own : Variable → Type 0
    Own v = (x : ℕ) × (x < length f.variables) × (v ≡ variable_of here x)

    -- one of its own, or found by a call
    abbrev pub Part : List CallSite → Variable → Type 0
    Part calls v = Own v ⊎ FoundIn calls v

    part_left : (xs ys : List CallSite) (v : Variable) → Part xs v → Part (xs ++ ys) v
    part_left xs ys v (inl o) = inl o
    part_left xs ys v (inr f) = inr (found_left xs ys v f)

    part_right : (xs ys : List CallSite) (v : Variable) → Part ys v → Part (xs ++ ys) v
    part_right xs ys v (inl o) = inl o
    part_right xs ys v (inr f) = inr (found_right xs ys v f)

    -- of an expression, in a text
    as_part : (calls : List CallSite) (v : Variable) (B : Type 0) → FoundIn calls v ⊎ B → Part calls v ⊎ B
    as_part calls v B (inl f) = inl (inr f)
    as_part calls v B (inr b) = inr b

    -- a part before others, then the others
    and_then : (xs ys : List CallSite) (v : Variable) (B C : Type 0) → Part xs v ⊎ B → (B → Part ys v ⊎ C) →
        Part (xs ++ ys) v ⊎ C
    and_then xs ys v B C (inl p) k = inl (part_left xs ys v p)
    and_then xs ys v B C (inr b) k = ⊎_elim (λ p. inl (part_right xs ys v p)) (λ c. inr c) (k b)

    -- the same where the part that is behind in the text is before in the calls
    and_before : (xs ys : List CallSite) (v : Variable) (B C : Type 0) → Part ys v ⊎ B → (B → Part xs v ⊎ C) →
        Part (xs ++ ys) v ⊎ C
    and_before xs ys v B C (inl p) k = inl (part_right xs ys v p)
    and_before xs ys v B C (inr b) k = ⊎_elim (λ p. inl (part_left xs ys v p)) (λ c. inr c) (k b)

    of_expression : (e : Expression) (rest : Text) (v : Variable) → Mem (expression_before here.called e rest) v →
        Part (calls_in e) v ⊎ Mem rest v
    of_expression e rest v h = as_part (calls_in e) v (Mem rest v) (expression_from e rest v h)

    of_optional : (e : Option Expression) (rest : Text) (v : Variable) → Mem (optional_before here.called e rest) v →
        Part (calls_in_optional e) v ⊎ Mem rest v
    of_optional e rest v h = as_part (calls_in_optional e) v (Mem rest v) (optional_from e rest v h)

    declared_within : (x : ℕ) (value : Option Expression) → StatementFits program f (Declare x value) →
        x < length f.variables
    declared_within x None h = slice_get_within f.variables x h.1.0 h.1.1
    declared_within x (Some e) h = slice_get_within f.variables x h.1.0 h.1.1

    -- what is declared there
    declared_here : (calls : List CallSite) (x : ℕ) (rest : Text) (v : Variable) → x < length f.variables →
        Part calls v ⊎ Mem (DeclaredThen (variable_of here x) rest) v → Part calls v ⊎ Mem rest v
    declared_here calls x rest v less (inl p) = inl p
    declared_here calls x rest v less (inr (inl e)) = inl (inl (x, less, sym e))
    declared_here calls x rest v less (inr (inr h)) = inr h

    mutual
      statement_from : (s : Statement) (rest : Text) (v : Variable) → StatementFits program f s →
          Mem (statement_before here s rest) v → Part (calls_of s) v ⊎ Mem rest v
      statement_from (Do e) rest v t h = of_expression e rest v h
      statement_from (Declare x value) rest v t h =
          declared_here (calls_in_optional value) x rest v (declared_within x value t) (of_optional value _ v h)
      statement_from (Fill site array values) rest v t h =
          as_part (calls_among values) v (Mem rest v) (operands_from values rest v h)
      statement_from (Block list) rest v t h =
          ⊎_elim (λ k. ⊎_elim (λ p. inl p) (λ none_. absurd none_) (list_from list NoText v t k)) (λ k. inr k)
          (one_split (variables_in (statements_before here list NoText)) (variables_in rest) v h)
      statement_from (If site test chosen other) rest v t h =
          let b = holds here.inside (If site test chosen other) in
          and_then (calls_in test) (calls_of_all chosen ++ calls_of_all other) v _ _
          (of_expression test _ v (cut_out b _ v h))
          (λ m. and_then (calls_of_all chosen) (calls_of_all other) v _ _ (list_from chosen _ v t.1 (cut_out b _ v m))
          (λ k. ⊎_elim (λ p. inl p) (λ l. inr (cut_out b rest v l)) (list_from other _ v t.2 (cut_out b _ v k))))
      statement_from (Loop site true test step body) rest v t h =
          let b = holds here.inside (Loop site true test step body) in
          and_then (calls_in_optional test) (calls_in_optional step ++ calls_of body) v _ _
          (of_optional test _ v (cut_out b _ v h))
          (λ m. and_then (calls_in_optional step) (calls_of body) v _ _ (of_optional step _ v (cut_out b _ v m))
          (λ k. ⊎_elim (λ p. inl p) (λ l. inr (cut_out b rest v l)) (statement_from body _ v t.2 (cut_out b _ v k))))
      statement_from (Loop site false test step body) rest v t h =
          let b = holds here.inside (Loop site false test step body) in
          ⊎_elim (λ p. inl (part_right (calls_in_optional test) (calls_in_optional step ++ calls_of body) v
          (part_right (calls_in_optional step) (calls_of body) v p)))
          (λ m. and_before (calls_in_optional test) (calls_in_optional step ++ calls_of body) v _ _
          (⊎_elim (λ p. inl (part_left (calls_in_optional step) (calls_of body) v p)) (λ k. inr k)
          (of_optional step _ v (cut_out b _ v m)))
          (λ k. ⊎_elim (λ p. inl p) (λ l. inr (cut_out b rest v l)) (of_optional test _ v (cut_out b _ v k))))
          (statement_from body _ v t.2 (cut_out b _ v h))
      statement_from (Switch site value arms) rest v t h =
          let b = holds here.inside (Switch site value arms) in
          and_then (calls_in value) (calls_of_arms arms) v _ _ (of_expression value _ v (cut_out b _ v h))
          (λ m. ⊎_elim (λ p. inl p) (λ l. inr (cut_out b rest v l)) (arms_from arms _ v t.3 (cut_out b _ v m)))
      statement_from (Break site) rest v t h = inr h
      statement_from (Continue site) rest v t h = inr h
      statement_from (Return site value) rest v t h = of_optional value rest v h
      statement_from (Barrier site) rest v t h = inr h

      pub list_from : (list : Statements) (rest : Text) (v : Variable) → AllFit program f list →
          Mem (statements_before here list rest) v → Part (calls_of_all list) v ⊎ Mem rest v
      list_from empty rest v t h = inr h
      list_from (also s list) rest v t h =
          and_then (calls_of s) (calls_of_all list) v _ _ (statement_from s _ v t.0 h)
          (λ m. list_from list rest v t.1 m)

      arms_from : (arms : Arms) (rest : Text) (v : Variable) → ArmsFit program f arms →
          Mem (arms_before here arms rest) v → Part (calls_of_arms arms) v ⊎ Mem rest v
      arms_from no_arm rest v t h = inr h
      arms_from (arm labels other body arms) rest v t h =
          and_then (calls_of_all body) (calls_of_arms arms) v _ _ (list_from body _ v t.0 h)
          (λ m. arms_from arms rest v t.1 m)

  -- ---- parameters
  pub parameters_keep : (n : ℕ) (rest : Text) (v : Variable) → Mem rest v → Mem (parameters_before here n rest) v
  parameters_keep zero rest v h = h
  parameters_keep (suc n) rest v h = parameters_keep n (DeclaredThen (variable_of here n) rest) v (inr h)

  pub parameters_declare : (n : ℕ) (rest : Text) (x : ℕ) → x < n →
      Mem (parameters_before here n rest) (variable_of here x)
  parameters_declare zero rest x h = absurd (omega (arith, h))
  parameters_declare (suc n) rest x h =
      by_test (nat_eq x n) refl (λ k. parameters_declare n (DeclaredThen (variable_of here n) rest) x k)
    where
      by_test : (b : Test) → nat_eq x n ≡ b →
          (x < n → Mem (parameters_before here n (DeclaredThen (variable_of here n) rest)) (variable_of here x)) →
          Mem (parameters_before here n (DeclaredThen (variable_of here n) rest)) (variable_of here x)
      by_test true e further = parameters_keep n (DeclaredThen (variable_of here n) rest) (variable_of here x)
          (inl (ap (variable_of here) (sym (eqb-true x n e))))
      by_test false e further = further (omega (arith, h, apart))
        where
          apart : x ≡ n → ⊥
          apart k = true_false (sym (eq-eqb x n k) ∙ e)

  pub parameters_from : (n : ℕ) (rest : Text) (v : Variable) → Mem (parameters_before here n rest) v →
      ((x : ℕ) × (x < n) × (v ≡ variable_of here x)) ⊎ Mem rest v
  parameters_from zero rest v h = inr h
  parameters_from (suc n) rest v h = last (parameters_from n (DeclaredThen (variable_of here n) rest) v h)
    where
      last : ((x : ℕ) × (x < n) × (v ≡ variable_of here x)) ⊎ Mem (DeclaredThen (variable_of here n) rest) v →
          ((x : ℕ) × (x < suc n) × (v ≡ variable_of here x)) ⊎ Mem rest v
      last (inl (x, less, e)) = inl (x, omega (arith, less), e)
      last (inr (inl e)) = inl (n, omega arith, sym e)
      last (inr (inr k)) = inr k
