-- What is valid is sound.
use Rattle.std.proofs.Common.{◌≡◌, ℕ, suc, List, [], ◌∷◌, length, Option, Some, None, refl, sym, ap, subst, ⊎_elim}
use Rattle.wg_num.specs.declared.types.IntType.{IntType}
use Rattle.cl_model.specs.Tree as tree
use Rattle.cl_model.specs.Tree.{Action, Expression, Apply, Update, Choose, Call, Expressions, none, more, Statement}
use Rattle.cl_model.specs.Tree.{Do, Declare, Fill, Block, If, Loop, Switch, Break, Continue, Return, Barrier}
use Rattle.cl_model.specs.Tree.{Statements, empty, also, Arms, no_arm, arm, Program, Function}
use Rattle.cl_model.specs.Calls.{function_at}
use Rattle.cl_model.specs.Steps.{count_of}
use Rattle.cl_model.specs.Valid.{Scope, ActionFits, ActionNames, HasType, HaveTypes, IsPlainCall, OptionalFits}
use Rattle.cl_model.specs.Valid.{DeclaredFits, ReturnFits, AllHaveType, StatementFits, AllFit, ArmsFit, NamesIn}
use Rattle.cl_model.specs.Valid.{NamesAmong, NamesInOptional, scope_after, IsScoped, IsScopedList, AreScoped}
use Rattle.cl_model.specs.Valid.{AreScopedArms, numbers_below, IsValid}
use Rattle.kir_lower_shape.proofs.Below.{valid_any}
use Rattle.kir_lower_simulation.specs.Ready.{HasOwn, IsSoundAction, IsSound, AreSound}
use Rattle.kir_lower_simulation.specs.Bodies.{IsSoundOptional, IsSoundReturn, IsSoundStatement, IsSoundList}
use Rattle.kir_lower_simulation.specs.Bodies.{AreSoundArms}

module _ (program : Program) (f : Function) where
  -- ---- expressions

  sound_action : (scope : Scope) (action : Action) (ts : List IntType) (t : IntType) →
      ActionFits program f action ts t → ActionNames scope action → IsSoundAction program f scope action
  sound_action scope (tree.Literal value of) ts t h n = tt
  sound_action scope (tree.Variable x) [] t h n = (n, (h.0, h.1))
  sound_action scope (tree.Variable x) (a ∷ ts) t h n = absurd h
  sound_action scope (tree.Unary op of) ts t h n = tt
  sound_action scope (tree.Binary op of) ts t h n = tt
  sound_action scope (tree.Builtin g of) ts t h n = tt
  sound_action scope (tree.Convert to) ts t h n = tt
  sound_action scope (tree.Ask what) ts t h n = tt
  sound_action scope tree.Second ts t h n = tt
  sound_action scope tree.Truth ts t h n = tt
  sound_action scope (tree.Decided answer) ts t h n = tt
  sound_action scope (tree.Set x) [] t h n = absurd h
  sound_action scope (tree.Set x) (a ∷ []) t h n = (n, (h.0.0, h.0.1))
  sound_action scope (tree.Set x) (a ∷ (b ∷ ts)) t h n = absurd h
  sound_action scope (tree.Change x op of back old) [] t h n = absurd h
  sound_action scope (tree.Change x op of back old) (a ∷ []) t h n = absurd h
  sound_action scope (tree.Change x op of back old) (a ∷ (b ∷ [])) t h n = (n, (h.0.0, h.0.1))
  sound_action scope (tree.Change x op of back old) (a ∷ (b ∷ (c ∷ ts))) t h n = absurd h
  sound_action scope (tree.Load site element root) [] t h n = absurd h
  sound_action scope (tree.Load site element root) (a ∷ []) t h n = h.1
  sound_action scope (tree.Load site element root) (a ∷ (b ∷ ts)) t h n = absurd h
  sound_action scope (tree.Store site element root) [] t h n = absurd h
  sound_action scope (tree.Store site element root) (a ∷ []) t h n = absurd h
  sound_action scope (tree.Store site element root) (a ∷ (b ∷ [])) t h n = h.2
  sound_action scope (tree.Store site element root) (a ∷ (b ∷ (c ∷ ts))) t h n = absurd h

  -- as many as their types
  same_count : (list : Expressions) (ts : List IntType) → HaveTypes program f list ts → length ts ≡ count_of list
  same_count none [] h = refl
  same_count none (t ∷ ts) h = absurd h
  same_count (more e rest) [] h = absurd h
  same_count (more e rest) (t ∷ ts) h = ap suc (same_count rest ts h.1)

  mutual
    pub sound_expression : (scope : Scope) (e : Expression) (t : IntType) → HasType program f e t → NamesIn scope e →
        IsSound program f scope e
    sound_expression scope (Apply action operands) t h n =
        (sound_action scope action h.0 t h.2 n.0, sound_operands scope operands h.0 h.1 n.1)
    sound_expression scope (Update site element root op of back old index value) t h n =
        (h.2, sound_expression scope index _ h.0 n.0, sound_expression scope value h.1.0 h.1.1 n.1)
    sound_expression scope (Choose site test chosen other) t h n = (
      sound_expression scope test h.0.0 h.0.1 n.0,
      sound_expression scope chosen t h.1 n.1,
      sound_expression scope other t h.2 n.2,
    )
    sound_expression scope (Call site g roots arguments) t h n = (
      record {
        result = Some t;
        called = h.0;
        types = h.1.0;
        as_many = same_count arguments h.1.0 h.1.1;
        fit = h.1.2;
      },
      sound_operands scope arguments h.1.0 h.1.1 n,
    )

    sound_operands : (scope : Scope) (list : Expressions) (ts : List IntType) → HaveTypes program f list ts →
        NamesAmong scope list → AreSound program f scope list
    sound_operands scope none ts h n = tt
    sound_operands scope (more e rest) [] h n = absurd h
    sound_operands scope (more e rest) (t ∷ ts) h n =
        (sound_expression scope e t h.0 n.0, sound_operands scope rest ts h.1 n.1)

  sound_all : (scope : Scope) (list : Expressions) (t : IntType) → AllHaveType program f list t →
      NamesAmong scope list → AreSound program f scope list
  sound_all scope none t h n = tt
  sound_all scope (more e rest) t h n = (sound_expression scope e t h.0 n.0, sound_all scope rest t h.1 n.1)

  sound_plain : (scope : Scope) (e : Expression) → IsPlainCall program f e → NamesIn scope e → IsSound program f scope e
  sound_plain scope (Call site g roots arguments) h n = (
    record { result = None; called = h.0; types = h.1.0; as_many = same_count arguments h.1.0 h.1.1; fit = h.1.2 },
    sound_operands scope arguments h.1.0 h.1.1 n,
  )
  sound_plain scope (Apply action operands) h n = absurd h
  sound_plain scope (Update site element root op of back old index value) h n = absurd h
  sound_plain scope (Choose site test chosen other) h n = absurd h

  sound_optional : (scope : Scope) (e : Option Expression) → OptionalFits program f e → NamesInOptional scope e →
      IsSoundOptional program f scope e
  sound_optional scope None h n = tt
  sound_optional scope (Some e) h n = sound_expression scope e h.0 h.1 n

  sound_declared : (scope : Scope) (x : ℕ) (value : Option Expression) → DeclaredFits program f x value →
      NamesInOptional scope value → HasOwn f x × IsSoundOptional program f scope value
  sound_declared scope x None h n = ((h.1.0, h.1.1), tt)
  sound_declared scope x (Some e) h n = ((h.1.0, h.1.1), sound_expression scope e h.0 h.2 n)

  sound_return : (scope : Scope) (r : Option IntType) (value : Option Expression) → f.result ≡ r →
      ReturnFits program f r value → NamesInOptional scope value → IsSoundReturn program f scope value
  sound_return scope None None e h n = e
  sound_return scope (Some t) None e h n = absurd h
  sound_return scope None (Some a) e h n = absurd h
  sound_return scope (Some t) (Some a) e h n = ((t, e), sound_expression scope a t h n)

  -- ---- statements

  -- a statement that declares no variable leaves the scope
  scoped_same : (scope : Scope) (s : Statement) → IsScoped scope s → scope_after scope s ≡ scope
  scoped_same scope (Do e) h = refl
  scoped_same scope (Declare x value) h = absurd h
  scoped_same scope (Fill site array values) h = refl
  scoped_same scope (Block list) h = refl
  scoped_same scope (If site test chosen other) h = refl
  scoped_same scope (Loop site first test step body) h = refl
  scoped_same scope (Switch site value arms) h = refl
  scoped_same scope (Break site) h = refl
  scoped_same scope (Continue site) h = refl
  scoped_same scope (Return site value) h = refl
  scoped_same scope (Barrier site) h = refl

  mutual
    sound_statement : (scope : Scope) (s : Statement) → StatementFits program f s → IsScoped scope s →
        IsSoundStatement program f scope s
    sound_statement scope (Do e) h n = ⊎_elim (λ v. sound_expression scope e v.0 v.1 n) (λ p. sound_plain scope e p n) h
    sound_statement scope (Declare x value) h n = absurd n
    sound_statement scope (Fill site array values) h n = ((h.0, h.1, h.2), sound_all scope values h.0.element h.3 n)
    sound_statement scope (Block list) h n = sound_list scope list h n
    sound_statement scope (If site test chosen other) h n = (
      sound_expression scope test h.0.0 h.0.1 n.0,
      sound_branch scope chosen h.1 n.1,
      sound_branch scope other h.2 n.2,
    )
    sound_statement scope (Loop site first test step body) h n = (
      sound_optional scope test h.0 n.0,
      sound_optional scope step h.1 n.1,
      sound_statement scope body h.2 n.2,
      scoped_same scope body n.2,
    )
    sound_statement scope (Switch site value arms) h n =
        (sound_expression scope value h.0.0 h.0.1 n.0, h.1, h.2, sound_arms scope arms h.3 n.1)
    sound_statement scope (Break site) h n = tt
    sound_statement scope (Continue site) h n = tt
    sound_statement scope (Return site value) h n = sound_return scope f.result value refl h n
    sound_statement scope (Barrier site) h n = tt

    pub sound_list : (scope : Scope) (list : Statements) → AllFit program f list → IsScopedList scope list →
        IsSoundList program f scope list
    sound_list scope empty h n = tt
    sound_list scope (also (Declare x value) rest) h n =
        (sound_declared scope x value h.0 n.1, sound_list (x ∷ scope) rest h.1 n.2)
    sound_list scope (also (Do e) rest) h n = (sound_statement scope (Do e) h.0 n.0, sound_list scope rest h.1 n.1)
    sound_list scope (also (Fill site array values) rest) h n =
        (sound_statement scope (Fill site array values) h.0 n.0, sound_list scope rest h.1 n.1)
    sound_list scope (also (Block list) rest) h n =
        (sound_statement scope (Block list) h.0 n.0, sound_list scope rest h.1 n.1)
    sound_list scope (also (If site test chosen other) rest) h n =
        (sound_statement scope (If site test chosen other) h.0 n.0, sound_list scope rest h.1 n.1)
    sound_list scope (also (Loop site first test step body) rest) h n =
        (sound_statement scope (Loop site first test step body) h.0 n.0, sound_list scope rest h.1 n.1)
    sound_list scope (also (Switch site value arms) rest) h n =
        (sound_statement scope (Switch site value arms) h.0 n.0, sound_list scope rest h.1 n.1)
    sound_list scope (also (Break site) rest) h n = (tt, sound_list scope rest h.1 n.1)
    sound_list scope (also (Continue site) rest) h n = (tt, sound_list scope rest h.1 n.1)
    sound_list scope (also (Return site value) rest) h n =
        (sound_statement scope (Return site value) h.0 n.0, sound_list scope rest h.1 n.1)
    sound_list scope (also (Barrier site) rest) h n = (tt, sound_list scope rest h.1 n.1)

    -- of a branch or an arm
    pub sound_branch : (scope : Scope) (list : Statements) → AllFit program f list → AreScoped scope list →
        IsSoundList program f scope list
    sound_branch scope empty h n = tt
    sound_branch scope (also s rest) h n = (
      sound_statement scope s h.0 n.0,
      subst (λ z. IsSoundList program f z rest) (sym (scoped_same scope s n.0))
          (sound_branch scope rest h.1 n.1),
    )

    pub sound_arms : (scope : Scope) (arms : Arms) → ArmsFit program f arms → AreScopedArms scope arms →
        AreSoundArms program f scope arms
    sound_arms scope no_arm h n = tt
    sound_arms scope (arm labels other body rest) h n = (sound_branch scope body h.0 n.0, sound_arms scope rest h.1 n.1)

-- the body of each function of a valid program
pub sound_body : (program : Program) → IsValid program → (f : ℕ) →
    IsSoundList program (function_at program f) (numbers_below (function_at program f).parameters)
    (function_at program f).body
sound_body program valid f = let v = valid_any program valid f in
    sound_list program (function_at program f) (numbers_below (function_at program f).parameters)
    (function_at program f).body v.types v.scopes
