-- What holds of all expressions, conditions and returned values of code holds of those of its parts.
use Rattle.std.proofs.Common.{◌≡◌, ◌||◌, ℕ, ℤ, Bool, false, List, [], ◌∷◌, ◌++◌, Option, Some, None, inl, inr, refl}
use Rattle.std.proofs.Common.{subst}
use Rattle.wg_num.specs.declared.types.IntType.{IntType}
use Rattle.wg_num.specs.declared.types.Bin.{Bin}
use Rattle.cl_model.specs.declared.program.Root.{Root}
use Rattle.cl_model.specs.Tree.{Action, Set, Expression, Apply, Update, Choose, Call, Expressions, more, single}
use Rattle.cl_model.specs.Tree.{Statement, Do, Declare, Fill, Block, If, Loop, Switch, Break, Continue, Return}
use Rattle.cl_model.specs.Tree.{Barrier, Statements, also, Arms, arm}
use Rattle.cl_model.specs.Lists.{IsOneOf}
use Rattle.cl_model.specs.Valid.{Scope, Has, ActionNames, NamesIn, NamesAmong, NamesInOptional, scope_after}
use Rattle.cl_model.specs.Valid.{IsScopedList, AreScopedArms}
use Rattle.cl_model.specs.Varying.{Condition, assigns_in, assigns_in_optional, assigns, some_assigns, arms_assign}
use Rattle.cl_model.specs.Varying.{exits, some_exits, arms_exit, returns, some_returns, arms_return, conditions_in}
use Rattle.cl_model.specs.Varying.{conditions_among, conditions_in_optional, loop_condition, conditions_of}
use Rattle.cl_model.specs.Varying.{conditions_of_list, conditions_of_arms, parts_of, parts_among, parts_of_optional}
use Rattle.cl_model.specs.Varying.{expressions_of, expressions_of_list, expressions_of_arms, returned, returned_list}
use Rattle.cl_model.specs.Varying.{returned_arms}
use Rattle.diverge_sound.proofs.Keeps.{Sound, sound_list, branch_scoped, body_sound}

pub in_left : {A : Type 0} (xs ys : List A) (a : A) → IsOneOf xs a → IsOneOf (xs ++ ys) a
in_left [] ys a h = absurd h
in_left (x ∷ xs) ys a (inl e) = inl e
in_left (x ∷ xs) ys a (inr h) = inr (in_left xs ys a h)

pub in_right : {A : Type 0} (xs ys : List A) (a : A) → IsOneOf ys a → IsOneOf (xs ++ ys) a
in_right [] ys a h = h
in_right (x ∷ xs) ys a h = inr (in_right xs ys a h)

-- something holds of each element
abbrev pub Every : {A : Type 0} → (A → Type 0) → List A → Type 0
Every {A} P list = (a : A) → IsOneOf list a → P a

pub every_left : {A : Type 0} (P : A → Type 0) (xs ys : List A) → Every P (xs ++ ys) → Every P xs
every_left P xs ys h a m = h a (in_left xs ys a m)

pub every_right : {A : Type 0} (P : A → Type 0) (xs ys : List A) → Every P (xs ++ ys) → Every P ys
every_right P xs ys h a m = h a (in_right xs ys a m)

pub conditions_also : (scope : Scope) (s : Statement) (rest : Statements) →
    conditions_of_list scope (also s rest) ≡ conditions_of scope s ++ conditions_of_list (scope_after scope s) rest
conditions_also scope (Declare x value) rest = refl
conditions_also scope (Do e) rest = refl
conditions_also scope (Fill site array values) rest = refl
conditions_also scope (Block list) rest = refl
conditions_also scope (If site test chosen other) rest = refl
conditions_also scope (Loop site first test step body) rest = refl
conditions_also scope (Switch site value arms) rest = refl
conditions_also scope (Break site) rest = refl
conditions_also scope (Continue site) rest = refl
conditions_also scope (Return site value) rest = refl
conditions_also scope (Barrier site) rest = refl

-- the condition of ?:, && and ||, of an if, of a loop with a test, and of a switch
abbrev pub choice_condition : Scope → Expression → Expression → Expression → Condition
choice_condition scope t a b =
    record { scope = scope; test = t; assigns = λ x. assigns_in a x || assigns_in b x; exits = false; returns = false }

abbrev pub if_condition : Scope → Expression → Statements → Statements → Condition
if_condition scope t a b =
    record {
      scope = scope;
      test = t;
      assigns = λ x. some_assigns a x || some_assigns b x;
      exits = some_exits a || some_exits b;
      returns = some_returns a || some_returns b;
    }

abbrev pub turn_condition : Scope → Expression → Option Expression → Statement → Condition
turn_condition scope t st b =
    record {
      scope = scope;
      test = t;
      assigns = λ x. assigns_in t x || (assigns_in_optional st x || assigns b x);
      exits = exits b;
      returns = returns b;
    }

abbrev pub switch_condition : Scope → Expression → Arms → Condition
switch_condition scope v arms = record {
  scope = scope;
  test = v;
  assigns = λ x. arms_assign arms x;
  exits = arms_exit arms;
  returns = arms_return arms;
}

module _ (In : Expression → Type 0) (Under : Condition → Type 0) (Back : Expression → Type 0) where
  -- of an expression, of expressions, of a statement, of a list and of arms in this scope
  pub record Good (scope : Scope) (e : Expression) : Type 0 where
    pub parts : Every In (parts_of e)
    pub under : Every Under (conditions_in scope e)
    pub names : NamesIn scope e

  pub record GoodAll (scope : Scope) (es : Expressions) : Type 0 where
    pub parts : Every In (parts_among es)
    pub under : Every Under (conditions_among scope es)
    pub names : NamesAmong scope es

  abbrev pub GoodOptional : Scope → Option Expression → Type 0
  GoodOptional scope None = Unit {0}
  GoodOptional scope (Some e) = Good scope e

  pub record GoodRun (scope : Scope) (s : Statement) : Type 0 where
    pub parts : Every In (expressions_of s)
    pub under : Every Under (conditions_of scope s)
    pub back : Every Back (returned s)
    pub names : Sound scope s

  pub record GoodList (scope : Scope) (list : Statements) : Type 0 where
    pub parts : Every In (expressions_of_list list)
    pub under : Every Under (conditions_of_list scope list)
    pub back : Every Back (returned_list list)
    pub names : IsScopedList scope list

  pub record GoodArms (scope : Scope) (arms : Arms) : Type 0 where
    pub parts : Every In (expressions_of_arms arms)
    pub under : Every Under (conditions_of_arms scope arms)
    pub back : Every Back (returned_arms arms)
    pub names : AreScopedArms scope arms

  -- expressions

  pub good_apply : (scope : Scope) (action : Action) (es : Expressions) → Good scope (Apply action es) →
      In (Apply action es) × GoodAll scope es × ActionNames scope action
  good_apply scope action es g =
      (g.parts _ (inl refl), record { parts = λ a m. g.parts a (inr m); under = g.under; names = g.names.1 }, g.names.0)

  pub good_more : (scope : Scope) (e : Expression) (rest : Expressions) → GoodAll scope (more e rest) →
      Good scope e × GoodAll scope rest
  good_more scope e rest g = (
    record {
      parts = every_left In (parts_of e) (parts_among rest) g.parts;
      under = every_left Under (conditions_in scope e) (conditions_among scope rest) g.under;
      names = g.names.0;
    },
    record {
      parts = every_right In (parts_of e) (parts_among rest) g.parts;
      under = every_right Under (conditions_in scope e) (conditions_among scope rest) g.under;
      names = g.names.1;
    },
  )

  pub good_update : (scope : Scope) (site : ℕ) (element : IntType) (root : Root) (op : Bin) (of back : IntType)
      (old : Bool) (i v : Expression) → Good scope (Update site element root op of back old i v) →
      Good scope i × Good scope v
  good_update scope site element root op of back old i v g =
      let parts : Every In (parts_of i ++ parts_of v) = λ a m. g.parts a (inr m) in (
        record {
          parts = every_left In (parts_of i) (parts_of v) parts;
          under = every_left Under (conditions_in scope i) (conditions_in scope v) g.under;
          names = g.names.0;
        },
        record {
          parts = every_right In (parts_of i) (parts_of v) parts;
          under = every_right Under (conditions_in scope i) (conditions_in scope v) g.under;
          names = g.names.1;
        },
      )

  pub good_choose : (scope : Scope) (site : ℕ) (t a b : Expression) → Good scope (Choose site t a b) →
      Under (choice_condition scope t a b) × Good scope t × Good scope a × Good scope b
  good_choose scope site t a b g =
      let parts : Every In (parts_of t ++ (parts_of a ++ parts_of b)) = λ x m. g.parts x (inr m) in
      let under : Every Under (conditions_in scope t ++ (conditions_in scope a ++ conditions_in scope b)) =
      λ x m. g.under x (inr m) in
      let parts' = every_right In (parts_of t) (parts_of a ++ parts_of b) parts in
      let under' = every_right Under (conditions_in scope t) (conditions_in scope a ++ conditions_in scope b) under in (
        g.under _ (inl refl),
        record {
          parts = every_left In (parts_of t) _ parts;
          under = every_left Under (conditions_in scope t) _ under;
          names = g.names.0;
        },
        record {
          parts = every_left In (parts_of a) (parts_of b) parts';
          under = every_left Under (conditions_in scope a) (conditions_in scope b) under';
          names = g.names.1;
        },
        record {
          parts = every_right In (parts_of a) (parts_of b) parts';
          under = every_right Under (conditions_in scope a) (conditions_in scope b) under';
          names = g.names.2;
        },
      )

  pub good_call : (scope : Scope) (site h : ℕ) (roots : List (Option Root)) (es : Expressions) →
      Good scope (Call site h roots es) → In (Call site h roots es) × GoodAll scope es
  good_call scope site h roots es g =
      (g.parts _ (inl refl), record { parts = λ a m. g.parts a (inr m); under = g.under; names = g.names })

  -- statements

  good_optional : (scope : Scope) (e : Option Expression) → Every In (parts_of_optional e) →
      Every Under (conditions_in_optional scope e) → NamesInOptional scope e → GoodOptional scope e
  good_optional scope None p u n = tt
  good_optional scope (Some e) p u n = record { parts = p; under = u; names = n }

  pub good_do : (scope : Scope) (e : Expression) → GoodRun scope (Do e) → Good scope e
  good_do scope e g = record { parts = g.parts; under = g.under; names = g.names }

  pub good_declare : (scope : Scope) (x : ℕ) (e : Expression) → GoodRun scope (Declare x (Some e)) →
      In (Apply (Set x) (single e)) × Good scope e × (Has scope x → ⊥)
  good_declare scope x e g =
      (g.parts _ (inl refl), record { parts = λ a m. g.parts a (inr m); under = g.under; names = g.names.1 }, g.names.0)

  pub good_fill : (scope : Scope) (site array : ℕ) (es : Expressions) → GoodRun scope (Fill site array es) →
      GoodAll scope es
  good_fill scope site array es g = record { parts = g.parts; under = g.under; names = g.names }

  pub good_block : (scope : Scope) (list : Statements) → GoodRun scope (Block list) → GoodList scope list
  good_block scope list g = record { parts = g.parts; under = g.under; back = g.back; names = g.names }

  pub good_if : (scope : Scope) (site : ℕ) (t : Expression) (a b : Statements) → GoodRun scope (If site t a b) →
      Under (if_condition scope t a b) × Good scope t × GoodList scope a × GoodList scope b
  good_if scope site t a b g =
      let under : Every Under (conditions_in scope t ++ (conditions_of_list scope a ++ conditions_of_list scope b)) =
      λ x m. g.under x (inr m) in
      let parts' = every_right In (parts_of t) (expressions_of_list a ++ expressions_of_list b) g.parts in
      let under' = every_right Under (conditions_in scope t) (conditions_of_list scope a ++
      conditions_of_list scope b) under in (
        g.under _ (inl refl),
        record {
          parts = every_left In (parts_of t) _ g.parts;
          under = every_left Under (conditions_in scope t) _ under;
          names = g.names.0;
        },
        record {
          parts = every_left In (expressions_of_list a) (expressions_of_list b) parts';
          under = every_left Under (conditions_of_list scope a) (conditions_of_list scope b) under';
          back = every_left Back (returned_list a) (returned_list b) g.back;
          names = branch_scoped scope a g.names.1;
        },
        record {
          parts = every_right In (expressions_of_list a) (expressions_of_list b) parts';
          under = every_right Under (conditions_of_list scope a) (conditions_of_list scope b) under';
          back = every_right Back (returned_list a) (returned_list b) g.back;
          names = branch_scoped scope b g.names.2;
        },
      )

  abbrev pub TurnUnder : Scope → Option Expression → Option Expression → Statement → Type 0
  TurnUnder scope None st b = Unit {0}
  TurnUnder scope (Some t) st b = Under (turn_condition scope t st b)

  turn_under : (scope : Scope) (t st : Option Expression) (b : Statement) →
      Every Under (loop_condition scope t st b) → TurnUnder scope t st b
  turn_under scope None st b u = tt
  turn_under scope (Some t) st b u = u _ (inl refl)

  pub good_loop : (scope : Scope) (site : ℕ) (first : Bool) (t st : Option Expression) (b : Statement) →
      GoodRun scope (Loop site first t st b) → TurnUnder scope t st b × GoodOptional scope t × GoodOptional scope st ×
      GoodRun scope b
  good_loop scope site first t st b g =
      let parts' = every_right In (parts_of_optional t) (parts_of_optional st ++ expressions_of b) g.parts in
      let under' = every_right Under (loop_condition scope t st b) (conditions_in_optional scope t ++
      (conditions_in_optional scope st ++ conditions_of scope b)) g.under in
      let under'' = every_right Under (conditions_in_optional scope t) (conditions_in_optional scope st ++
      conditions_of scope b) under' in (
        turn_under scope t st b (every_left Under (loop_condition scope t st b) _ g.under),
        good_optional scope t (every_left In (parts_of_optional t) _ g.parts)
            (every_left Under (conditions_in_optional scope t) _ under') g.names.0,
        good_optional scope st (every_left In (parts_of_optional st) _ parts')
            (every_left Under (conditions_in_optional scope st) _ under'') g.names.1,
        record {
          parts = every_right In (parts_of_optional st) _ parts';
          under = every_right Under (conditions_in_optional scope st) _ under'';
          back = g.back;
          names = body_sound scope b g.names.2;
        },
      )

  pub good_switch : (scope : Scope) (site : ℕ) (v : Expression) (arms : Arms) → GoodRun scope (Switch site v arms) →
      Under (switch_condition scope v arms) × Good scope v × GoodArms scope arms
  good_switch scope site v arms g =
      let under : Every Under (conditions_in scope v ++ conditions_of_arms scope arms) = λ x m. g.under x (inr m) in (
        g.under _ (inl refl),
        record {
          parts = every_left In (parts_of v) _ g.parts;
          under = every_left Under (conditions_in scope v) _ under;
          names = g.names.0;
        },
        record {
          parts = every_right In (parts_of v) _ g.parts;
          under = every_right Under (conditions_in scope v) _ under;
          back = g.back;
          names = g.names.1;
        },
      )

  pub good_return : (scope : Scope) (site : ℕ) (e : Expression) → GoodRun scope (Return site (Some e)) →
      Back e × Good scope e
  good_return scope site e g = (g.back _ (inl refl), record { parts = g.parts; under = g.under; names = g.names })

  pub good_also : (scope : Scope) (s : Statement) (rest : Statements) → GoodList scope (also s rest) →
      GoodRun scope s × GoodList (scope_after scope s) rest
  good_also scope s rest g =
      let under : Every Under (conditions_of scope s ++ conditions_of_list (scope_after scope s) rest) =
      subst (Every Under) (conditions_also scope s rest) g.under in
      let names = sound_list scope s rest g.names in (
        record {
          parts = every_left In (expressions_of s) _ g.parts;
          under = every_left Under (conditions_of scope s) _ under;
          back = every_left Back (returned s) _ g.back;
          names = names.0;
        },
        record {
          parts = every_right In (expressions_of s) _ g.parts;
          under = every_right Under (conditions_of scope s) _ under;
          back = every_right Back (returned s) _ g.back;
          names = names.1;
        },
      )

  pub good_arm : (scope : Scope) (labels : List ℤ) (other : Bool) (body : Statements) (rest : Arms) →
      GoodArms scope (arm labels other body rest) → GoodList scope body × GoodArms scope rest
  good_arm scope labels other body rest g = (
    record {
      parts = every_left In (expressions_of_list body) _ g.parts;
      under = every_left Under (conditions_of_list scope body) _ g.under;
      back = every_left Back (returned_list body) _ g.back;
      names = branch_scoped scope body g.names.0;
    },
    record {
      parts = every_right In (expressions_of_list body) _ g.parts;
      under = every_right Under (conditions_of_list scope body) _ g.under;
      back = every_right Back (returned_list body) _ g.back;
      names = g.names.1;
    },
  )
