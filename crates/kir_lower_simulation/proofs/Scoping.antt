-- A variable that is declared at the end of its list is in scope nowhere.
use Rattle.std.proofs.Common.{◌≡◌, ℕ, zero, suc, ◌+◌, ◌<◌, ◌≤◌, List, [], ◌∷◌, length, slice_get, Option, Some, None}
use Rattle.std.proofs.Common.{refl, sym, ap, ◌∙◌, subst, arith, true, false, ◌⊎◌, inl, inr, ⊎_elim, if◌then◌else◌}
use Rattle.std.proofs.Common.{eq-eqb}
use Rattle.std.proofs.Common.{Bool as Test}
use Rattle.std.specs.Prelude.{nat_eq, nat_lt}
use Rattle.std.proofs.lemmas.Option.{none-some, slice_get_past}
use Rattle.std.proofs.lemmas.Bool.{ltb-true, ltb-false}
use Rattle.cl_model.specs.Tree.{Expression, Apply, Update, Choose, Call, Expressions, none, more, Statement, Do}
use Rattle.cl_model.specs.Tree.{Declare, Fill, Block, If, Loop, Switch, Break, Continue, Return, Barrier, Statements}
use Rattle.cl_model.specs.Tree.{empty, also, Arms, no_arm, arm, Program, Function}
use Rattle.cl_model.specs.Calls.{function_at}
use Rattle.cl_model.specs.Task.{Operand, Own, Tested, Chosen, Other, Nth, Turn, Body, Step, Arm, Into}
use Rattle.cl_model.specs.Task.{Point as ProgramPoint, Task, Item as ProgramItem, first_point, point_of as task_point}
use Rattle.cl_model.specs.Agreement.{Owned, owned_by, HasOwned, IsInScope, IsInScopeAmong, IsInScopeOptional}
use Rattle.cl_model.specs.Agreement.{IsInScopeAt, IsInScopeList, IsInScopeArm, IsInBody, IsScopedAt}
use Rattle.cl_model.specs.Valid.{DeclaredFits, StatementFits, AllFit, ArmsFit, declarations, all_declarations}
use Rattle.cl_model.specs.Valid.{arms_declarations, numbers_below, IsValid}
use Rattle.kir_lower_shape.proofs.Below.{valid_any}
use Rattle.kir_lower_simulation.specs.Nodes.{no_node, statement_node, expression_node, optional_node, operand_node}
use Rattle.kir_lower_simulation.specs.Nodes.{nth_node, arm_node, child, IsRealFrom, IsReal, AreInPlace}
use Rattle.kir_lower_simulation.proofs.Standing.{real_point}
use Rattle.kir_lower_simulation.specs.Setting.{Setting, Activation}
use Rattle.kir_lower_simulation.specs.Bodies.{declares_it, if_last, ends_in, ends_of_list, ends_of_arms}

-- ---- declarations behind which a statement stands

-- it counts where one does
abbrev if_before : Statements → ℕ → ℕ
if_before empty n = 0
if_before (also s rest) n = n

-- how many there are of a variable
abbrev mutual
  behind_in : Statement → ℕ → ℕ
  behind_in (Do e) x = 0
  behind_in (Declare y value) x = 0
  behind_in (Fill site array values) x = 0
  behind_in (Block list) x = behind_of_list list x
  behind_in (If site test chosen other) x = behind_of_list chosen x + behind_of_list other x
  behind_in (Loop site test_first test step body) x = behind_in body x
  behind_in (Switch site value arms) x = behind_of_arms arms x
  behind_in (Break site) x = 0
  behind_in (Continue site) x = 0
  behind_in (Return site value) x = 0
  behind_in (Barrier site) x = 0

  behind_of_list : Statements → ℕ → ℕ
  behind_of_list empty x = 0
  behind_of_list (also s rest) x = if_before rest (declares_it s x) + (behind_in s x + behind_of_list rest x)

  behind_of_arms : Arms → ℕ → ℕ
  behind_of_arms no_arm x = 0
  behind_of_arms (arm labels other body rest) x = behind_of_list body x + behind_of_arms rest x

-- each declaration of a list is of one of the two kinds
last_or_before : (rest : Statements) (n : ℕ) → if_last rest n + if_before rest n ≡ n
last_or_before empty n = omega arith
last_or_before (also s rest) n = omega arith

mutual
  counts : (s : Statement) (x : ℕ) → ends_in s x + behind_in s x + declares_it s x ≤ declarations s x
  counts (Do e) x = omega arith
  counts (Declare y value) x = omega arith
  counts (Fill site array values) x = omega arith
  counts (Block list) x = let h = list_counts list x in omega (arith, h)
  counts (If site test chosen other) x = let h = list_counts chosen x in let k =
      list_counts other x in omega (arith, h, k)
  counts (Loop site first test step body) x = let h = counts body x in omega (arith, h)
  counts (Switch site value arms) x = let h = arms_counts arms x in omega (arith, h)
  counts (Break site) x = omega arith
  counts (Continue site) x = omega arith
  counts (Return site value) x = omega arith
  counts (Barrier site) x = omega arith

  list_counts : (list : Statements) (x : ℕ) → ends_of_list list x + behind_of_list list x ≤ all_declarations list x
  list_counts empty x = omega arith
  list_counts (also s rest) x = let h = counts s x in let k = list_counts rest x in let l =
      last_or_before rest (declares_it s x) in omega (arith, h, k, l)

  arms_counts : (arms : Arms) (x : ℕ) → ends_of_arms arms x + behind_of_arms arms x ≤ arms_declarations arms x
  arms_counts no_arm x = omega arith
  arms_counts (arm labels other body rest) x = let h = list_counts body x in let k =
      arms_counts rest x in omega (arith, h, k)

-- ---- what is declared is one of the function's variables

module _ (program : Program) (f : Function) where
  there_below : {A : Type 0} (xs : List A) (x : ℕ) (a : A) → slice_get xs x ≡ Some a → x < length xs
  there_below xs x a e = go (nat_lt x (length xs)) refl
    where
      go : (b : Test) → nat_lt x (length xs) ≡ b → x < length xs
      go true h = ltb-true x (length xs) h
      go false h = absurd (none-some a (sym (slice_get_past xs x (ltb-false x (length xs) h)) ∙ e))

  declared_there : (y : ℕ) (value : Option Expression) → DeclaredFits program f y value → y < length f.variables
  declared_there y None h = there_below f.variables y h.1.0 h.1.1
  declared_there y (Some e) h = there_below f.variables y h.1.0 h.1.1

  declared_same : (y x : ℕ) → 0 < (if nat_eq y x then 1 else 0) → y ≡ x
  declared_same y x h = go (nat_eq y x) refl h
    where
      go : (b : Test) → nat_eq y x ≡ b → 0 < (if b then 1 else 0) → y ≡ x
      go true e h = Rattle.std.proofs.lemmas.Bool.eqb-true y x e
      go false e h = absurd (omega (arith, h))

  positive : (a b : ℕ) → 0 < a + b → (0 < a) ⊎ (0 < b)
  positive zero b h = inr (omega (arith, h))
  positive (suc a) b h = inl (omega arith)

  mutual
    within : (s : Statement) (x : ℕ) → StatementFits program f s → 0 < declarations s x → x < length f.variables
    within (Do e) x h p = absurd (omega (arith, p))
    within (Declare y value) x h p =
        subst (λ z. z < length f.variables) (declared_same y x p) (declared_there y value h)
    within (Fill site array values) x h p = absurd (omega (arith, p))
    within (Block list) x h p = list_within list x h p
    within (If site test chosen other) x h p = ⊎_elim (λ q. list_within chosen x h.1 q)
        (λ q. list_within other x h.2 q) (positive (all_declarations chosen x) (all_declarations other x) p)
    within (Loop site first test step body) x h p = within body x h.2 p
    within (Switch site value arms) x h p = arms_within arms x h.3 p
    within (Break site) x h p = absurd (omega (arith, p))
    within (Continue site) x h p = absurd (omega (arith, p))
    within (Return site value) x h p = absurd (omega (arith, p))
    within (Barrier site) x h p = absurd (omega (arith, p))

    list_within : (list : Statements) (x : ℕ) → AllFit program f list → 0 < all_declarations list x →
        x < length f.variables
    list_within empty x h p = absurd (omega (arith, p))
    list_within (also s rest) x h p = ⊎_elim (λ q. within s x h.0 q) (λ q. list_within rest x h.1 q)
        (positive (declarations s x) (all_declarations rest x) p)

    arms_within : (arms : Arms) (x : ℕ) → ArmsFit program f arms → 0 < arms_declarations arms x → x < length f.variables
    arms_within no_arm x h p = absurd (omega (arith, p))
    arms_within (arm labels other body rest) x h p = ⊎_elim (λ q. list_within body x h.0 q)
        (λ q. arms_within rest x h.1 q) (positive (all_declarations body x) (arms_declarations rest x) p)

-- ---- what is in scope at a real place is a variable of the scope around, or one behind whose declaration a
-- statement stands

-- nothing is real below no node
not_real : (program : Program) (way : ProgramPoint) → IsRealFrom program no_node way → ⊥
not_real program [] h = h
not_real program (Own k ∷ way) h = h
not_real program (Operand k ∷ way) h = not_real program way h
not_real program (Tested ∷ way) h = not_real program way h
not_real program (Chosen ∷ way) h = not_real program way h
not_real program (Other ∷ way) h = not_real program way h
not_real program (Nth k ∷ way) h = not_real program way h
not_real program (Turn k ∷ way) h = not_real program way h
not_real program (Body ∷ way) h = not_real program way h
not_real program (Step ∷ way) h = not_real program way h
not_real program (Arm k ∷ way) h = not_real program way h
not_real program (Into ∷ way) h = not_real program way h

module _ (program : Program) (inside : ℕ → ProgramPoint → Owned →
    Type 0) (v : Owned) (never : (g : ℕ) (way : ProgramPoint) → inside g way v →
    IsRealFrom program (statement_node (Block (function_at program g).body)) way → ⊥) where
  mutual
    in_expression : (scope : List Owned) (e : Expression) (way : ProgramPoint) → IsInScope inside scope e way v →
        IsRealFrom program (expression_node e) way → HasOwned scope v
    in_expression scope (Apply action operands) (Operand k ∷ way) h r = in_operands scope operands k way h r
    in_expression scope (Update site element root op of back old index value) (Operand zero ∷ way) h r =
        in_expression scope index way h r
    in_expression scope (Update site element root op of back old index value) (Operand (suc k) ∷ way) h r =
        in_expression scope value way h r
    in_expression scope (Choose site test chosen other) (Tested ∷ way) h r = in_expression scope test way h r
    in_expression scope (Choose site test chosen other) (Chosen ∷ way) h r = in_expression scope chosen way h r
    in_expression scope (Choose site test chosen other) (Other ∷ way) h r = in_expression scope other way h r
    in_expression scope (Call site g roots arguments) (Operand k ∷ way) h r = in_operands scope arguments k way h r
    in_expression scope (Call site g roots arguments) (Into ∷ way) h r =
        ⊎_elim (λ a. a) (λ i. absurd (never g way i r)) h
    in_expression scope _ _ h r = h

    in_operands : (scope : List Owned) (list : Expressions) (k : ℕ) (way : ProgramPoint) →
        IsInScopeAmong inside scope list k way v → IsRealFrom program (operand_node k list) way → HasOwned scope v
    in_operands scope none k way h r = h
    in_operands scope (more e rest) zero way h r = in_expression scope e way h r
    in_operands scope (more e rest) (suc k) way h r = in_operands scope rest k way h r

  in_optional : (scope : List Owned) (e : Option Expression) (way : ProgramPoint) →
      IsInScopeOptional inside scope e way v → IsRealFrom program (optional_node e) way → HasOwned scope v
  in_optional scope None way h r = h
  in_optional scope (Some e) way h r = in_expression scope e way h r

  module _ (f : ℕ) where
    -- so many declarations of the variable stand before a statement
    abbrev Before : List Owned → ℕ → Type 0
    Before scope n = HasOwned scope v ⊎ ((f ≡ v.function) × (0 < n))

    -- among more
    wider : (scope : List Owned) (n m : ℕ) → n ≤ m → Before scope n → Before scope m
    wider scope n m less (inl h) = inl h
    wider scope n m less (inr h) = inr (h.0, omega (arith, less, h.1))

    -- the variable that is declared here, or one of the scope around
    behind_one : (scope : List Owned) (y n m : ℕ) → (if nat_eq y v.variable then 1 else 0) + n ≡ m →
        Before (record { function = f; variable = y } ∷ scope) n → Before scope m
    behind_one scope y n m e (inl (inl same)) =
        inr (
          same.0,
          let one = ap {B = ℕ} (λ (b : Test). if b then 1 else 0) (eq-eqb y v.variable same.1) in
              omega (arith, e, one),
        )
    behind_one scope y n m e (inl (inr h)) = inl h
    behind_one scope y n m e (inr h) = inr (h.0, omega (arith, e, h.1))

    mutual
      in_statement : (scope : List Owned) (s : Statement) (way : ProgramPoint) → IsInScopeAt inside f scope s way v →
          IsRealFrom program (statement_node s) way → Before scope (behind_in s v.variable)
      in_statement scope (Do e) (Operand k ∷ way) h r = inl (in_expression scope e way h r)
      in_statement scope (Declare x value) (Operand k ∷ way) h r = inl (in_optional scope value way h r)
      in_statement scope (Fill site array values) (Operand k ∷ way) h r = inl (in_operands scope values k way h r)
      in_statement scope (Block list) (Nth k ∷ way) h r = in_list scope list k way h r
      in_statement scope (If site test chosen other) (Tested ∷ way) h r = inl (in_expression scope test way h r)
      in_statement scope (If site test chosen other) (Chosen ∷ (Nth k ∷ way)) h r =
          wider scope _ _ (omega arith) (in_list scope chosen k way h r)
      in_statement scope (If site test chosen other) (Other ∷ (Nth k ∷ way)) h r =
          wider scope _ _ (omega arith) (in_list scope other k way h r)
      in_statement scope (Loop site first test step body) (Turn k ∷ (Tested ∷ way)) h r =
          inl (in_optional scope test way h r)
      in_statement scope (Loop site first test step body) (Turn k ∷ (Step ∷ way)) h r =
          inl (in_optional scope step way h r)
      in_statement scope (Loop site first test step body) (Turn k ∷ (Body ∷ way)) h r = in_statement scope body way h r
      in_statement scope (Switch site value arms) (Tested ∷ way) h r = inl (in_expression scope value way h r)
      in_statement scope (Switch site value arms) (Arm j ∷ (Nth k ∷ way)) h r = in_arm scope arms j k way h r
      in_statement scope (Return site value) (Operand k ∷ way) h r = inl (in_optional scope value way h r)
      in_statement scope _ _ h r = inl h

      in_list : (scope : List Owned) (list : Statements) (k : ℕ) (way : ProgramPoint) →
          IsInScopeList inside f scope list k way v → IsRealFrom program (nth_node k list) way →
          Before scope (behind_of_list list v.variable)
      in_list scope empty k way h r = absurd (not_real program way r)
      in_list scope (also s rest) zero way h r = wider scope _ _ (omega arith) (in_statement scope s way h r)
      in_list scope (also (Declare y value) empty) (suc k) way h r = absurd (not_real program way r)
      in_list scope (also (Declare y value) (also s rest)) (suc k) way h r =
          behind_one scope y (behind_of_list (also s rest) v.variable) _ (omega arith)
          (in_list (record { function = f; variable = y } ∷ scope) (also s rest) k way h r)
      in_list scope (also (Do e) rest) (suc k) way h r = wider scope _ _ (omega arith) (in_list scope rest k way h r)
      in_list scope (also (Fill site array values) rest) (suc k) way h r =
          wider scope _ _ (omega arith) (in_list scope rest k way h r)
      in_list scope (also (Block list) rest) (suc k) way h r =
          wider scope _ _ (omega arith) (in_list scope rest k way h r)
      in_list scope (also (If site test chosen other) rest) (suc k) way h r =
          wider scope _ _ (omega arith) (in_list scope rest k way h r)
      in_list scope (also (Loop site first test step body) rest) (suc k) way h r =
          wider scope _ _ (omega arith) (in_list scope rest k way h r)
      in_list scope (also (Switch site value arms) rest) (suc k) way h r =
          wider scope _ _ (omega arith) (in_list scope rest k way h r)
      in_list scope (also (Break site) rest) (suc k) way h r =
          wider scope _ _ (omega arith) (in_list scope rest k way h r)
      in_list scope (also (Continue site) rest) (suc k) way h r =
          wider scope _ _ (omega arith) (in_list scope rest k way h r)
      in_list scope (also (Return site value) rest) (suc k) way h r =
          wider scope _ _ (omega arith) (in_list scope rest k way h r)
      in_list scope (also (Barrier site) rest) (suc k) way h r =
          wider scope _ _ (omega arith) (in_list scope rest k way h r)

      in_arm : (scope : List Owned) (arms : Arms) (j k : ℕ) (way : ProgramPoint) →
          IsInScopeArm inside f scope arms j k way v →
          IsRealFrom program (child program (arm_node j arms) (Nth k)) way →
          Before scope (behind_of_arms arms v.variable)
      in_arm scope no_arm j k way h r = inl h
      in_arm scope (arm labels other body rest) zero k way h r =
          wider scope _ _ (omega arith) (in_list scope body k way h r)
      in_arm scope (arm labels other body rest) (suc j) k way h r =
          wider scope _ _ (omega arith) (in_arm scope rest j k way h r)

-- ---- in a valid program

-- one of the parameters
owned_below : (f : ℕ) (n : ℕ) (v : Owned) → HasOwned (owned_by f (numbers_below n)) v → (f ≡ v.function) ×
    (v.variable < n)
owned_below f zero v h = absurd h
owned_below f (suc n) v (inl e) = (e.0, omega (arith, e.1))
owned_below f (suc n) v (inr h) = let p = owned_below f n v h in (p.0, omega (arith, p.1))

module _ (program : Program) (valid : IsValid program) (v : Owned)
    (ends : 0 < ends_of_list (function_at program v.function).body v.variable) where
  -- it has one declaration, at the end of its list
  none_before : 0 < behind_of_list (function_at program v.function).body v.variable → ⊥
  none_before b =
      let f = function_at program v.function in
      let fits = valid_any program valid v.function in
      let c = list_counts f.body v.variable in
      let less = list_within program f f.body v.variable fits.types (omega (arith, b, c)) in
      go (nat_lt v.variable f.parameters) refl less c
    where
      go : (t : Test) → nat_lt v.variable (function_at program v.function).parameters ≡ t →
          v.variable < length (function_at program v.function).variables
          → ends_of_list (function_at program v.function).body v.variable +
          behind_of_list (function_at program v.function).body v.variable ≤
          all_declarations (function_at program v.function).body v.variable → ⊥
      go true e less c = let one =
          (valid_any program valid v.function).undeclared v.variable (ltb-true _ _ e) in omega (arith, one, c, ends)
      go false e less c = let one = (valid_any program valid v.function).declared v.variable (ltb-false _ _ e) less in
          omega (arith, one, c, ends, b)

  no_parameter : v.variable < (function_at program v.function).parameters → ⊥
  no_parameter less =
      let f = function_at program v.function in
      let c = list_counts f.body v.variable in
      let one = (valid_any program valid v.function).undeclared v.variable less in omega (arith, one, c, ends)

  in_no_body : (depth f : ℕ) (way : ProgramPoint) → IsInBody program depth f way v →
      IsRealFrom program (statement_node (Block (function_at program f).body)) way → ⊥
  in_no_body zero f way h r = h
  in_no_body (suc depth) f way h r =
      ⊎_elim
      (λ own. let p = owned_below f (function_at program f).parameters v own in
      no_parameter (subst (λ z. v.variable < (function_at program z).parameters) p.0 p.1))
      (λ b. none_before (subst (λ z. 0 < behind_of_list (function_at program z).body v.variable) b.0 b.1))
      (in_statement program (IsInBody program depth) v (in_no_body depth) f
      (owned_by f (numbers_below (function_at program f).parameters)) (Block (function_at program f).body) way h
      r)

-- no item of which the tasks are in place stands in the scope of such a variable
pub never_scoped : (S : Setting) → IsValid S.program → (C : Activation) (x : ℕ) →
    0 < ends_of_list (function_at S.program C.function).body x
    → (j : ProgramItem) (point : ProgramPoint) → AreInPlace S.program j.tasks → first_point j.tasks ≡ Some point →
    IsScopedAt S.program point (record { function = C.function; variable = x }) → ⊥
never_scoped S valid C x ends j point placed stands scoped = go j.tasks placed stands
  where
    go : (ts : List Task) → AreInPlace S.program ts → first_point ts ≡ Some point → ⊥
    go [] p e = none-some point e
    go (task ∷ rest) p e =
        let same : task_point task ≡ point = Rattle.std.proofs.lemmas.Option.same_Some (task_point task) point e in
        in_no_body S.program valid (record { function = C.function; variable = x }) ends (length S.program.functions)
        S.program.kernel point scoped
        (subst (λ z. IsReal S.program z) same (real_point S.program task p.0))
