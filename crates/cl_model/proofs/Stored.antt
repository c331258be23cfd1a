-- Where the trees of a valid program store: each store and each pointer that is passed is of the right space.
use Rattle.std.proofs.Common.{◌≡◌, ℕ, zero, suc, List, [], ◌∷◌, Option, Some, None, slice_get, refl, subst, inl, inr}
use Rattle.std.proofs.lemmas.Option.{none-some, same_Some}
use Rattle.wg_num.specs.declared.types.IntType.{IntType}
use Rattle.cl_model.specs.declared.program.Space.{Space}
use Rattle.cl_model.specs.declared.program.Root.{Root}
use Rattle.cl_model.specs.declared.program.VarKind.{VarKind}
use Rattle.cl_model.specs.declared.program.VarKind.TheVariants.{Scalar, Pointer}
use Rattle.cl_model.specs.Tree.{Action, Literal, Variable, Unary, Binary, Builtin, Convert, Ask, Second, Truth}
use Rattle.cl_model.specs.Tree.{Decided, Set, Change, Load, Store, Expression, Apply, Update, Choose, Call}
use Rattle.cl_model.specs.Tree.{Expressions, none, more, Statement, Do, Declare, Fill, Block, If, Loop, Switch, Break}
use Rattle.cl_model.specs.Tree.{Continue, Return, Barrier, Statements, empty, also, Arms, no_arm, arm, Function}
use Rattle.cl_model.specs.Tree.{Program}
use Rattle.cl_model.specs.Calls.{function_at}
use Rattle.cl_model.specs.Valid.{parameter_kinds, RootIs, CanStore, ActionFits, ArgumentsFit, HasType, HaveTypes}
use Rattle.cl_model.specs.Valid.{IsPlainCall, OptionalFits, DeclaredFits, ReturnFits, AllHaveType, StatementFits}
use Rattle.cl_model.specs.Valid.{AllFit, ArmsFit}

-- a pointer is passed to each parameter that is one, of its space
abbrev pub PassesFit : Program → Function → ℕ → List (Option Root) → Type 0
PassesFit program f g roots =
    (n : ℕ) (at : Space) (element : IntType) (own : Root) → slice_get (parameter_kinds (function_at program g)) n ≡
    Some (Pointer at element own)
    → (root : Root) × (slice_get roots n ≡ Some (Some root)) × RootIs program f root at element

abbrev pub ActionStores : Program → Function → Action → Type 0
ActionStores program f (Store site element root) = CanStore program f root element
ActionStores program f (Literal value of) = Unit {0}
ActionStores program f (Variable x) = Unit {0}
ActionStores program f (Unary op of) = Unit {0}
ActionStores program f (Binary op of) = Unit {0}
ActionStores program f (Builtin g of) = Unit {0}
ActionStores program f (Convert to) = Unit {0}
ActionStores program f (Ask what) = Unit {0}
ActionStores program f Second = Unit {0}
ActionStores program f Truth = Unit {0}
ActionStores program f (Decided answer) = Unit {0}
ActionStores program f (Set x) = Unit {0}
ActionStores program f (Change x op of back old) = Unit {0}
ActionStores program f (Load site element root) = Unit {0}

abbrev mutual
  pub StoresIn : Program → Function → Expression → Type 0
  StoresIn program f (Apply action operands) = ActionStores program f action × StoresAmong program f operands
  StoresIn program f (Update site element root op of back old index value) =
      CanStore program f root element × StoresIn program f index × StoresIn program f value
  StoresIn program f (Choose site test chosen other) =
      StoresIn program f test × StoresIn program f chosen × StoresIn program f other
  StoresIn program f (Call site g roots arguments) = PassesFit program f g roots × StoresAmong program f arguments

  pub StoresAmong : Program → Function → Expressions → Type 0
  StoresAmong program f none = Unit {0}
  StoresAmong program f (more e rest) = StoresIn program f e × StoresAmong program f rest

abbrev pub StoresInOptional : Program → Function → Option Expression → Type 0
StoresInOptional program f None = Unit {0}
StoresInOptional program f (Some e) = StoresIn program f e

abbrev mutual
  pub StoresOf : Program → Function → Statement → Type 0
  StoresOf program f (Do e) = StoresIn program f e
  StoresOf program f (Declare x value) = StoresInOptional program f value
  StoresOf program f (Fill site array values) = StoresAmong program f values
  StoresOf program f (Block list) = StoresOfAll program f list
  StoresOf program f (If site test chosen other) =
      StoresIn program f test × StoresOfAll program f chosen × StoresOfAll program f other
  StoresOf program f (Loop site test_first test step body) =
      StoresInOptional program f test × StoresInOptional program f step × StoresOf program f body
  StoresOf program f (Switch site value arms) = StoresIn program f value × StoresOfArms program f arms
  StoresOf program f (Break site) = Unit {0}
  StoresOf program f (Continue site) = Unit {0}
  StoresOf program f (Return site value) = StoresInOptional program f value
  StoresOf program f (Barrier site) = Unit {0}

  pub StoresOfAll : Program → Function → Statements → Type 0
  StoresOfAll program f empty = Unit {0}
  StoresOfAll program f (also s rest) = StoresOf program f s × StoresOfAll program f rest

  pub StoresOfArms : Program → Function → Arms → Type 0
  StoresOfArms program f no_arm = Unit {0}
  StoresOfArms program f (arm labels other body rest) = StoresOfAll program f body × StoresOfArms program f rest

action_stores : (program : Program) (f : Function) (action : Action) (ts : List IntType) (t : IntType) →
    ActionFits program f action ts t → ActionStores program f action
action_stores program f (Store site element root) (i ∷ a ∷ []) t h = h.2
action_stores program f (Store site element root) [] t h = absurd h
action_stores program f (Store site element root) (i ∷ []) t h = absurd h
action_stores program f (Store site element root) (i ∷ a ∷ b ∷ ts) t h = absurd h
action_stores program f (Literal value of) ts t h = tt
action_stores program f (Variable x) ts t h = tt
action_stores program f (Unary op of) ts t h = tt
action_stores program f (Binary op of) ts t h = tt
action_stores program f (Builtin g of) ts t h = tt
action_stores program f (Convert to) ts t h = tt
action_stores program f (Ask what) ts t h = tt
action_stores program f Second ts t h = tt
action_stores program f Truth ts t h = tt
action_stores program f (Decided answer) ts t h = tt
action_stores program f (Set x) ts t h = tt
action_stores program f (Change x op of back old) ts t h = tt
action_stores program f (Load site element root) ts t h = tt

-- arguments that fit pass pointers that fit
passes : (program : Program) (f : Function) (kinds : List VarKind) (roots : List (Option Root)) (ts : List IntType) →
    ArgumentsFit program f kinds roots ts
    → (n : ℕ) (at : Space) (element : IntType) (own : Root) → slice_get kinds n ≡ Some (Pointer at element own) →
    (root : Root) × (slice_get roots n ≡ Some (Some root)) × RootIs program f root at element
passes program f [] roots ts h n at element own e = absurd (none-some _ e)
passes program f (Pointer at' element' own' ∷ kinds) (Some root ∷ roots) (t ∷ ts) h zero at element own e =
    let one : at' ≡ at = cc (same_Some _ _ e) in
    let two : element' ≡ element = cc (same_Some _ _ e) in
    (root, refl, subst (λ s. RootIs program f root s element) one (subst (λ d. RootIs program f root at' d) two h.1))
passes program f (Scalar s ∷ kinds) (None ∷ roots) (t ∷ ts) h zero at element own e =
    let d : Scalar s ≡ Pointer at element own = same_Some _ _ e in cc d
passes program f (Pointer at' element' own' ∷ kinds) (Some root ∷ roots) (t ∷ ts) h (suc n) at element own e =
    passes program f kinds roots ts h.2 n at element own e
passes program f (Scalar s ∷ kinds) (None ∷ roots) (t ∷ ts) h (suc n) at element own e =
    passes program f kinds roots ts h.1 n at element own e
passes program f (Scalar s ∷ kinds) [] ts h n at element own e = absurd h
passes program f (Scalar s ∷ kinds) (Some root ∷ roots) ts h n at element own e = absurd h
passes program f (Scalar s ∷ kinds) (None ∷ roots) [] h n at element own e = absurd h
passes program f (Pointer at' element' own' ∷ kinds) [] ts h n at element own e = absurd h
passes program f (Pointer at' element' own' ∷ kinds) (None ∷ roots) ts h n at element own e = absurd h
passes program f (Pointer at' element' own' ∷ kinds) (Some root ∷ roots) [] h n at element own e = absurd h

module _ (program : Program) (f : Function) where
  mutual
    stores_in : (e : Expression) (t : IntType) → HasType program f e t → StoresIn program f e
    stores_in (Apply action operands) t h = (action_stores program f action h.0 t h.2, stores_among operands h.0 h.1)
    stores_in (Update site element root op of back old index value) t h =
        (h.2, stores_in index _ h.0, stores_in value h.1.0 h.1.1)
    stores_in (Choose site test chosen other) t h =
        (stores_in test h.0.0 h.0.1, stores_in chosen t h.1, stores_in other t h.2)
    stores_in (Call site g roots arguments) t h = (
      passes program f (parameter_kinds (function_at program g)) roots h.1.0 h.1.2,
      stores_among arguments h.1.0 h.1.1,
    )

    stores_among : (es : Expressions) (ts : List IntType) → HaveTypes program f es ts → StoresAmong program f es
    stores_among none ts h = tt
    stores_among (more e rest) [] h = absurd h
    stores_among (more e rest) (t ∷ ts) h = (stores_in e t h.0, stores_among rest ts h.1)

  stores_plain : (e : Expression) → IsPlainCall program f e → StoresIn program f e
  stores_plain (Call site g roots arguments) h =
      (passes program f (parameter_kinds (function_at program g)) roots h.1.0 h.1.2, stores_among arguments h.1.0 h.1.1)
  stores_plain (Apply action operands) h = absurd h
  stores_plain (Update site element root op of back old index value) h = absurd h
  stores_plain (Choose site test chosen other) h = absurd h

  stores_optional : (e : Option Expression) → OptionalFits program f e → StoresInOptional program f e
  stores_optional None h = tt
  stores_optional (Some e) h = stores_in e h.0 h.1

  stores_declared : (x : ℕ) (e : Option Expression) → DeclaredFits program f x e → StoresInOptional program f e
  stores_declared x None h = tt
  stores_declared x (Some e) h = stores_in e h.0 h.2

  stores_returned : (r : Option IntType) (e : Option Expression) → ReturnFits program f r e →
      StoresInOptional program f e
  stores_returned r None h = tt
  stores_returned None (Some e) h = absurd h
  stores_returned (Some t) (Some e) h = stores_in e t h

  stores_values : (es : Expressions) (t : IntType) → AllHaveType program f es t → StoresAmong program f es
  stores_values none t h = tt
  stores_values (more e rest) t h = (stores_in e t h.0, stores_values rest t h.1)

  mutual
    stores_of : (s : Statement) → StatementFits program f s → StoresOf program f s
    stores_of (Do e) (inl h) = stores_in e h.0 h.1
    stores_of (Do e) (inr h) = stores_plain e h
    stores_of (Declare x value) h = stores_declared x value h
    stores_of (Fill site array values) h = stores_values values _ h.3
    stores_of (Block list) h = stores_of_all list h
    stores_of (If site test chosen other) h =
        (stores_in test h.0.0 h.0.1, stores_of_all chosen h.1, stores_of_all other h.2)
    stores_of (Loop site test_first test step body) h =
        (stores_optional test h.0, stores_optional step h.1, stores_of body h.2)
    stores_of (Switch site value arms) h = (stores_in value h.0.0 h.0.1, stores_of_arms arms h.3)
    stores_of (Break site) h = tt
    stores_of (Continue site) h = tt
    stores_of (Return site value) h = stores_returned f.result value h
    stores_of (Barrier site) h = tt

    stores_of_all : (list : Statements) → AllFit program f list → StoresOfAll program f list
    stores_of_all empty h = tt
    stores_of_all (also s rest) h = (stores_of s h.0, stores_of_all rest h.1)

    stores_of_arms : (arms : Arms) → ArmsFit program f arms → StoresOfArms program f arms
    stores_of_arms no_arm h = tt
    stores_of_arms (arm labels other body rest) h = (stores_of_all body h.0, stores_of_arms rest h.1)

  -- of the whole body of a function whose types fit
  pub body_stores : (list : Statements) → AllFit program f list → StoresOfAll program f list
  body_stores list h = stores_of_all list h
