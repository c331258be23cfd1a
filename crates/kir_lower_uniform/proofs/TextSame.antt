-- The text of a function is the same with calls nested less deep than one more, where they nest less deep than the
-- depth.
use Rattle.std.proofs.Common.{◌≡◌, ℕ, zero, suc, List, [], ◌∷◌, ◌++◌, Option, Some, None, refl, ap, ap₂, ◌∙◌, inl}
use Rattle.std.proofs.Common.{Bool as Test, true, false}
use Rattle.std.specs.Prelude.{◌||◌}
use Rattle.cl_model.specs.Tree.{Expression, Apply, Update, Choose, Call, Expressions, none, more, Statement, Do}
use Rattle.cl_model.specs.Tree.{Declare, Fill, Block, If, Loop, Switch, Break, Continue, Return, Barrier, Statements}
use Rattle.cl_model.specs.Tree.{empty, also, Arms, no_arm, arm, Program}
use Rattle.cl_model.specs.Lists.{IsOneOf}
use Rattle.cl_model.specs.Calls.{CallSite, calls_in, calls_among, calls_in_optional, calls_of, calls_of_all}
use Rattle.cl_model.specs.Calls.{calls_of_arms, function_at}
use Rattle.cl_model.specs.Valid.{CallsEnd}
use Rattle.kir.specs.Inlined.{Text, NoText, DeclaredThen, CutThen, BlockThen, cut_if, Inlining, expression_before}
use Rattle.kir.specs.Inlined.{expressions_before, optional_before, statement_before, statements_before, arms_before}
use Rattle.kir.specs.Inlined.{parameters_before, function_text, body_holds, holds_in, holds_among, holds_in_optional}
use Rattle.kir.specs.Inlined.{holds, some_holds, arms_hold}
use Rattle.diverge_sound.proofs.Nesting.{each_one}
use Rattle.diverge_sound.proofs.Parts.{in_left, in_right}

module _ (path : List ℕ) (f : ℕ) (c1 c2 : ℕ → ℕ → Text → Text) (i1 i2 : ℕ → Test) where
  -- these calls have the same text, and hold a barrier alike
  abbrev Same : List CallSite → Type 0
  Same list = (c : CallSite) → IsOneOf list c → ((t : Text) → c1 c.site c.function t ≡ c2 c.site c.function t) ×
      (i1 c.function ≡ i2 c.function)

  same_left : (xs ys : List CallSite) → Same (xs ++ ys) → Same xs
  same_left xs ys h c i = h c (in_left xs ys c i)

  same_right : (xs ys : List CallSite) → Same (xs ++ ys) → Same ys
  same_right xs ys h c i = h c (in_right xs ys c i)

  abbrev One : Inlining
  One = record { calls = path; function = f; called = c1; inside = i1 }

  abbrev Two : Inlining
  Two = record { calls = path; function = f; called = c2; inside = i2 }

  mutual
    hold_in : (e : Expression) → Same (calls_in e) → holds_in i1 e ≡ holds_in i2 e
    hold_in (Apply action operands) h = hold_among operands h
    hold_in (Update site element root op of back old index value) h =
        ap₂ (λ x y. x || y) (hold_in index (same_left (calls_in index) (calls_in value) h))
        (hold_in value (same_right (calls_in index) (calls_in value) h))
    hold_in (Choose site test chosen other) h =
        let r = same_right (calls_in test) (calls_in chosen ++ calls_in other) h in
        ap₂ (λ x y. x || y) (hold_in test (same_left (calls_in test) _ h))
        (ap₂ (λ x y. x || y) (hold_in chosen (same_left (calls_in chosen) (calls_in other) r))
        (hold_in other (same_right (calls_in chosen) (calls_in other) r)))
    hold_in (Call site g roots arguments) h =
        ap₂ (λ x y. x || y) (hold_among arguments (same_left (calls_among arguments) _ h))
        (same_right (calls_among arguments) (record { site = site; function = g } ∷ []) h (record {
          site = site;
          function = g;
        }) (inl refl)).1

    hold_among : (es : Expressions) → Same (calls_among es) → holds_among i1 es ≡ holds_among i2 es
    hold_among none h = refl
    hold_among (more e rest) h = ap₂ (λ x y. x || y) (hold_in e (same_left (calls_in e) (calls_among rest) h))
        (hold_among rest (same_right (calls_in e) (calls_among rest) h))

  hold_optional : (e : Option Expression) → Same (calls_in_optional e) → holds_in_optional i1 e ≡ holds_in_optional i2 e
  hold_optional None h = refl
  hold_optional (Some e) h = hold_in e h

  mutual
    hold : (s : Statement) → Same (calls_of s) → holds i1 s ≡ holds i2 s
    hold (Do e) h = hold_in e h
    hold (Declare x value) h = hold_optional value h
    hold (Fill site array values) h = hold_among values h
    hold (Block list) h = some_hold list h
    hold (If site test chosen other) h =
        let r = same_right (calls_in test) (calls_of_all chosen ++ calls_of_all other) h in
        ap₂ (λ x y. x || y) (hold_in test (same_left (calls_in test) _ h))
        (ap₂ (λ x y. x || y) (some_hold chosen (same_left (calls_of_all chosen) (calls_of_all other) r))
        (some_hold other (same_right (calls_of_all chosen) (calls_of_all other) r)))
    hold (Loop site first test step body) h =
        let r = same_right (calls_in_optional test) (calls_in_optional step ++ calls_of body) h in
        ap₂ (λ x y. x || y) (hold_optional test (same_left (calls_in_optional test) _ h))
        (ap₂ (λ x y. x || y) (hold_optional step (same_left (calls_in_optional step) (calls_of body) r))
        (hold body (same_right (calls_in_optional step) (calls_of body) r)))
    hold (Switch site value arms) h =
        ap₂ (λ x y. x || y) (hold_in value (same_left (calls_in value) (calls_of_arms arms) h))
        (arms_hold_same arms (same_right (calls_in value) (calls_of_arms arms) h))
    hold (Break site) h = refl
    hold (Continue site) h = refl
    hold (Return site value) h = hold_optional value h
    hold (Barrier site) h = refl

    pub some_hold : (list : Statements) → Same (calls_of_all list) → some_holds i1 list ≡ some_holds i2 list
    some_hold empty h = refl
    some_hold (also s rest) h = ap₂ (λ x y. x || y) (hold s (same_left (calls_of s) (calls_of_all rest) h))
        (some_hold rest (same_right (calls_of s) (calls_of_all rest) h))

    arms_hold_same : (arms : Arms) → Same (calls_of_arms arms) → arms_hold i1 arms ≡ arms_hold i2 arms
    arms_hold_same no_arm h = refl
    arms_hold_same (arm labels default body rest) h =
        ap₂ (λ x y. x || y) (some_hold body (same_left (calls_of_all body) (calls_of_arms rest) h))
        (arms_hold_same rest (same_right (calls_of_all body) (calls_of_arms rest) h))

  mutual
    text_in : (e : Expression) (t u : Text) → Same (calls_in e) → t ≡ u →
        expression_before c1 e t ≡ expression_before c2 e u
    text_in (Apply action operands) t u h q = text_among operands t u h q
    text_in (Update site element root op of back old index value) t u h q =
        text_in index _ _ (same_left (calls_in index) (calls_in value) h)
        (text_in value t u (same_right (calls_in index) (calls_in value) h) q)
    text_in (Choose site test chosen other) t u h q =
        let r = same_right (calls_in test) (calls_in chosen ++ calls_in other) h in
        text_in test _ _ (same_left (calls_in test) _ h)
        (text_in chosen _ _ (same_left (calls_in chosen) (calls_in other) r)
        (text_in other t u (same_right (calls_in chosen) (calls_in other) r) q))
    text_in (Call site g roots arguments) t u h q =
        let k = same_right (calls_among arguments) (record { site = site; function = g } ∷ []) h
        (record { site = site; function = g }) (inl refl) in
        text_among arguments _ _ (same_left (calls_among arguments) _ h) (k.0 t ∙ ap (c2 site g) q)

    text_among : (es : Expressions) (t u : Text) → Same (calls_among es) → t ≡ u →
        expressions_before c1 es t ≡ expressions_before c2 es u
    text_among none t u h q = q
    text_among (more e rest) t u h q =
        text_in e _ _ (same_left (calls_in e) (calls_among rest) h)
        (text_among rest t u (same_right (calls_in e) (calls_among rest) h) q)

  text_optional : (e : Option Expression) (t u : Text) → Same (calls_in_optional e) → t ≡ u →
      optional_before c1 e t ≡ optional_before c2 e u
  text_optional None t u h q = q
  text_optional (Some e) t u h q = text_in e t u h q

  cut_same : (a b : Test) (t u : Text) → a ≡ b → t ≡ u → cut_if a t ≡ cut_if b u
  cut_same a b t u p q = ap₂ (λ x y. cut_if x y) p q

  mutual
    text_of : (s : Statement) (t u : Text) → Same (calls_of s) → t ≡ u →
        statement_before One s t ≡ statement_before Two s u
    text_of (Do e) t u h q = text_in e t u h q
    text_of (Declare x value) t u h q =
        text_optional value _ _ h (ap (λ z. DeclaredThen (record { calls = path; function = f; number = x }) z) q)
    text_of (Fill site array values) t u h q = text_among values t u h q
    text_of (Block list) t u h q = ap₂ (λ x y. BlockThen x y) (text_all list NoText NoText h refl) q
    text_of (If site test chosen other) t u h q =
        let b = hold (If site test chosen other) h in
        let r = same_right (calls_in test) (calls_of_all chosen ++ calls_of_all other) h in
        cut_same _ _ _ _ b (text_in test _ _ (same_left (calls_in test) _ h)
        (cut_same _ _ _ _ b (text_all chosen _ _ (same_left (calls_of_all chosen) (calls_of_all other) r)
        (cut_same _ _ _ _ b (text_all other _ _ (same_right (calls_of_all chosen) (calls_of_all other) r)
        (cut_same _ _ t u b q))))))
    text_of (Loop site true test step body) t u h q =
        let b = hold (Loop site true test step body) h in
        let r = same_right (calls_in_optional test) (calls_in_optional step ++ calls_of body) h in
        cut_same _ _ _ _ b (text_optional test _ _ (same_left (calls_in_optional test) _ h)
        (cut_same _ _ _ _ b (text_optional step _ _ (same_left (calls_in_optional step) (calls_of body) r)
        (cut_same _ _ _ _ b (text_of body _ _ (same_right (calls_in_optional step) (calls_of body) r)
        (cut_same _ _ t u b q))))))
    text_of (Loop site false test step body) t u h q =
        let b = hold (Loop site false test step body) h in
        let r = same_right (calls_in_optional test) (calls_in_optional step ++ calls_of body) h in
        cut_same _ _ _ _ b (text_of body _ _ (same_right (calls_in_optional step) (calls_of body) r)
        (cut_same _ _ _ _ b (text_optional step _ _ (same_left (calls_in_optional step) (calls_of body) r)
        (cut_same _ _ _ _ b (text_optional test _ _ (same_left (calls_in_optional test) _ h)
        (cut_same _ _ t u b q))))))
    text_of (Switch site value arms) t u h q =
        let b = hold (Switch site value arms) h in
        cut_same _ _ _ _ b (text_in value _ _ (same_left (calls_in value) (calls_of_arms arms) h)
        (cut_same _ _ _ _ b (text_arms arms _ _ (same_right (calls_in value) (calls_of_arms arms) h)
        (cut_same _ _ t u b q))))
    text_of (Break site) t u h q = q
    text_of (Continue site) t u h q = q
    text_of (Return site value) t u h q = text_optional value t u h q
    text_of (Barrier site) t u h q = ap (λ z. CutThen z) q

    pub text_all : (list : Statements) (t u : Text) → Same (calls_of_all list) → t ≡ u →
        statements_before One list t ≡ statements_before Two list u
    text_all empty t u h q = q
    text_all (also s rest) t u h q =
        text_of s _ _ (same_left (calls_of s) (calls_of_all rest) h)
        (text_all rest t u (same_right (calls_of s) (calls_of_all rest) h) q)

    text_arms : (arms : Arms) (t u : Text) → Same (calls_of_arms arms) → t ≡ u →
        arms_before One arms t ≡ arms_before Two arms u
    text_arms no_arm t u h q = q
    text_arms (arm labels default body rest) t u h q =
        text_all body _ _ (same_left (calls_of_all body) (calls_of_arms rest) h)
        (text_arms rest t u (same_right (calls_of_all body) (calls_of_arms rest) h) q)

  pub text_parameters : (n : ℕ) (t u : Text) → t ≡ u → parameters_before One n t ≡ parameters_before Two n u
  text_parameters zero t u q = q
  text_parameters (suc n) t u q =
      text_parameters n _ _ (ap (λ z. DeclaredThen (record { calls = path; function = f; number = n }) z) q)

module _ (program : Program) where
  pub held_deeper : (d f : ℕ) → CallsEnd program d f → body_holds program (suc d) f ≡ body_holds program d f
  held_deeper zero f h = absurd h
  held_deeper (suc d) f h =
      some_hold [] f (λ site g t. t) (λ site g t. t) (body_holds program (suc d)) (body_holds program d)
      (function_at program f).body
      (λ c i. (
        (λ t. refl),
        held_deeper d c.function (each_one (λ (c : CallSite). CallsEnd program d c.function)
            (calls_of_all (function_at program f).body) c h i),
      ))

  pub text_deeper : (d : ℕ) (path : List ℕ) (f : ℕ) → CallsEnd program d f →
      function_text program (suc d) path f ≡ function_text program d path f
  text_deeper zero path f h = absurd h
  text_deeper (suc d) path f h =
      let c1 : ℕ → ℕ → Text → Text =
      λ site g rest. BlockThen (function_text program (suc d) (path ++ site ∷ []) g) rest in
      let c2 : ℕ → ℕ → Text → Text = λ site g rest. BlockThen (function_text program d (path ++ site ∷ []) g) rest in
      text_parameters path f c1 c2 (body_holds program (suc d)) (body_holds program d)
      (function_at program f).parameters _ _
      (text_all path f c1 c2 (body_holds program (suc d)) (body_holds program d) (function_at program f).body NoText
      NoText
      (λ c i. let e = each_one (λ (c : CallSite). CallsEnd program d c.function)
      (calls_of_all (function_at program f).body) c h i in (
        (λ t. ap (λ z. BlockThen z t) (text_deeper d (path ++ c.site ∷ []) c.function e)),
        held_deeper d c.function e,
      )) refl)
