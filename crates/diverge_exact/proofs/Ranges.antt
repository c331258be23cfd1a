-- What varies is a variable of the program: its number is below those of its function.
use Rattle.std.proofs.Common.{◌≡◌, ℕ, zero, suc, ◌+◌, ◌<◌, ◌≤◌, Bool, true, false, cond, nat_eq, length, take, List}
use Rattle.std.proofs.Common.{[], ◌∷◌, ◌++◌, Option, Some, None, ◌⊎◌, inl, inr, refl, sym, ap, subst, arith}
use Rattle.std.proofs.lemmas.Bool.{eqb-true}
use Rattle.std.proofs.lemmas.Option.{slice_get_within}
use Rattle.wg_num.specs.declared.types.IntType.{IntType}
use Rattle.cl_model.specs.declared.program.Root.{Root}
use Rattle.cl_model.specs.declared.program.VarKind.{VarKind}
use Rattle.cl_model.specs.declared.program.VarKind.TheVariants.{Scalar, Pointer}
use Rattle.cl_model.specs.Tree.{Action, Literal, Variable, Unary, Binary, Builtin, Convert, Ask, Second, Truth}
use Rattle.cl_model.specs.Tree.{Decided, Set, Change, Load, Store, Expression, Apply, Update, Choose, Call}
use Rattle.cl_model.specs.Tree.{Expressions, none, more, Statement, Do, Declare, Fill, Block, If, Loop, Switch, Break}
use Rattle.cl_model.specs.Tree.{Continue, Return, Barrier, Statements, empty, also, Arms, no_arm, arm, Function}
use Rattle.cl_model.specs.Tree.{Program}
use Rattle.cl_model.specs.Lists.{IsOneOf}
use Rattle.cl_model.specs.Valid.{Scope, Has, ActionNames, NamesIn, NamesAmong, NamesInOptional, scope_after}
use Rattle.cl_model.specs.Valid.{IsScopedList, AreScopedArms, DeclaredFits, StatementFits, AllFit, ArmsFit, HaveTypes}
use Rattle.cl_model.specs.Valid.{ArgumentsFit, declarations, all_declarations, arms_declarations}
use Rattle.cl_model.specs.Varying.{Condition, sets, IsNth, conditions_in, conditions_among, conditions_in_optional}
use Rattle.cl_model.specs.Varying.{loop_condition, conditions_of, conditions_of_list, conditions_of_arms, parts_of}
use Rattle.cl_model.specs.Varying.{parts_among, parts_of_optional, expressions_of, expressions_of_list}
use Rattle.cl_model.specs.Varying.{expressions_of_arms}
use Rattle.diverge_sound.proofs.Keeps.{Sound, sound_list, branch_scoped, body_sound}
use Rattle.diverge_sound.proofs.Parts.{conditions_also}
use Rattle.diverge_sound.proofs.Nesting.{in_either}

-- the conditions in an expression stand in its scope

mutual
  condition_scope : (sc : Scope) (e : Expression) (c : Condition) → IsOneOf (conditions_in sc e) c → c.scope ≡ sc
  condition_scope sc (Apply action es) c m = condition_scope_among sc es c m
  condition_scope sc (Update site element root op of back old i v) c m =
      elim (in_either (conditions_in sc i) (conditions_in sc v) c m) [
        | inl j ↦ condition_scope sc i c j
        | inr j ↦
            condition_scope sc v c j
      ]
  condition_scope sc (Choose site t a b) c (inl q) = sym (ap (λ (x : Condition). x.scope) q)
  condition_scope sc (Choose site t a b) c (inr m) =
      elim (in_either (conditions_in sc t) (conditions_in sc a ++ conditions_in sc b) c m) [
        | inl j ↦
            condition_scope sc t c j
        | inr j ↦
            elim (in_either (conditions_in sc a) (conditions_in sc b) c j) [
              | inl k ↦
                  condition_scope sc a c k
              | inr k ↦ condition_scope sc b c k
            ]
      ]
  condition_scope sc (Call site g roots es) c m = condition_scope_among sc es c m

  condition_scope_among : (sc : Scope) (es : Expressions) (c : Condition) → IsOneOf (conditions_among sc es) c →
      c.scope ≡ sc
  condition_scope_among sc none c m = absurd m
  condition_scope_among sc (more e rest) c m =
      elim (in_either (conditions_in sc e) (conditions_among sc rest) c m) [
        | inl j ↦
            condition_scope sc e c j
        | inr j ↦ condition_scope_among sc rest c j
      ]

condition_scope_optional : (sc : Scope) (e : Option Expression) (c : Condition) →
    IsOneOf (conditions_in_optional sc e) c → c.scope ≡ sc
condition_scope_optional sc None c m = absurd m
condition_scope_optional sc (Some e) c m = condition_scope sc e c m

-- what an expression assigns is in its scope

action_has : (sc : Scope) (action : Action) (x : ℕ) → ActionNames sc action → sets action x ≡ true → Has sc x
action_has sc (Set y) x names h = subst (Has sc) (eqb-true y x h) names
action_has sc (Change y op of back old) x names h = subst (Has sc) (eqb-true y x h) names
action_has sc (Literal value of) x names h = cc h
action_has sc (Variable y) x names h = cc h
action_has sc (Unary op of) x names h = cc h
action_has sc (Binary op of) x names h = cc h
action_has sc (Builtin b of) x names h = cc h
action_has sc (Convert t) x names h = cc h
action_has sc (Ask what) x names h = cc h
action_has sc Second x names h = cc h
action_has sc Truth x names h = cc h
action_has sc (Decided answer) x names h = cc h
action_has sc (Load site element root) x names h = cc h
action_has sc (Store site element root) x names h = cc h

module _ (action : Action) (es : Expressions) (x : ℕ) (on : sets action x ≡ true) where
  mutual
    set_has : (sc : Scope) (e : Expression) → NamesIn sc e → IsOneOf (parts_of e) (Apply action es) → Has sc x
    set_has sc (Apply b xs) names (inl q) = let same : b ≡ action =
        cc q in action_has sc b x names.0 (subst (λ a. sets a x ≡ true) (sym same) on)
    set_has sc (Apply b xs) names (inr m) = set_has_among sc xs names.1 m
    set_has sc (Update site element root op of back old i v) names (inl q) = absurd (cc q)
    set_has sc (Update site element root op of back old i v) names (inr m) =
        elim (in_either (parts_of i) (parts_of v) _ m) [
          | inl j ↦ set_has sc i names.0 j
          | inr j ↦
              set_has sc v names.1 j
        ]
    set_has sc (Choose site t a b) names (inl q) = absurd (cc q)
    set_has sc (Choose site t a b) names (inr m) =
        elim (in_either (parts_of t) (parts_of a ++ parts_of b) _ m) [
          | inl j ↦ set_has sc t names.0 j
          | inr j ↦
              elim (in_either (parts_of a) (parts_of b) _ j) [
                | inl k ↦ set_has sc a names.1 k
                | inr k ↦
                    set_has sc b names.2 k
              ]
        ]
    set_has sc (Call site g roots xs) names (inl q) = absurd (cc q)
    set_has sc (Call site g roots xs) names (inr m) = set_has_among sc xs names m

    set_has_among : (sc : Scope) (xs : Expressions) → NamesAmong sc xs → IsOneOf (parts_among xs) (Apply action es) →
        Has sc x
    set_has_among sc none names m = absurd m
    set_has_among sc (more e rest) names m =
        elim (in_either (parts_of e) (parts_among rest) _ m) [
          | inl j ↦ set_has sc e names.0 j
          | inr j ↦
              set_has_among sc rest names.1 j
        ]

  set_has_optional : (sc : Scope) (e : Option Expression) → NamesInOptional sc e →
      IsOneOf (parts_of_optional e) (Apply action es) → Has sc x
  set_has_optional sc None names m = absurd m
  set_has_optional sc (Some e) names m = set_has sc e names m

turn_scope : (sc : Scope) (t st : Option Expression) (b : Statement) (c : Condition) →
    IsOneOf (loop_condition sc t st b) c → c.scope ≡ sc
turn_scope sc None st b c m = absurd m
turn_scope sc (Some t) st b c (inl q) = sym (ap (λ (z : Condition). z.scope) q)
turn_scope sc (Some t) st b c (inr m) = absurd m

module _ (program : Program) (f : Function) where
  -- what is in scope is a variable of the function
  abbrev pub InRange : Scope → Type 0
  InRange sc = (x : ℕ) → Has sc x → x < length f.variables

  declared_range : (x : ℕ) (value : Option Expression) → DeclaredFits program f x value → x < length f.variables
  declared_range x None h = slice_get_within f.variables x h.1.0 h.1.1
  declared_range x (Some e) h = slice_get_within f.variables x h.1.0 h.1.1

  range_after : (sc : Scope) (s : Statement) → StatementFits program f s → InRange sc → InRange (scope_after sc s)
  range_after sc (Declare y value) h r x (inl q) = subst (λ z. z < length f.variables) q (declared_range y value h)
  range_after sc (Declare y value) h r x (inr has) = r x has
  range_after sc (Do e) h r x has = r x has
  range_after sc (Fill site array es) h r x has = r x has
  range_after sc (Block list) h r x has = r x has
  range_after sc (If site t a b) h r x has = r x has
  range_after sc (Loop site first t st b) h r x has = r x has
  range_after sc (Switch site v arms) h r x has = r x has
  range_after sc (Break site) h r x has = r x has
  range_after sc (Continue site) h r x has = r x has
  range_after sc (Return site value) h r x has = r x has
  range_after sc (Barrier site) h r x has = r x has

  here : (sc : Scope) (c : Condition) → c.scope ≡ sc → InRange sc → (x : ℕ) → Has c.scope x → x < length f.variables
  here sc c q r x has = r x (subst (λ z. Has z x) q has)

  mutual
    condition_range : (s : Statement) (sc : Scope) → StatementFits program f s → InRange sc → (c : Condition) →
        IsOneOf (conditions_of sc s) c → (x : ℕ) → Has c.scope x → x < length f.variables
    condition_range (Do e) sc h r c m = here sc c (condition_scope sc e c m) r
    condition_range (Declare y value) sc h r c m = here sc c (condition_scope_optional sc value c m) r
    condition_range (Fill site array es) sc h r c m = here sc c (condition_scope_among sc es c m) r
    condition_range (Block list) sc h r c m = condition_range_list list sc h r c m
    condition_range (If site t a b) sc h r c (inl q) = here sc c (sym (ap (λ (z : Condition). z.scope) q)) r
    condition_range (If site t a b) sc h r c (inr m) =
        elim (in_either (conditions_in sc t) (conditions_of_list sc a ++ conditions_of_list sc b) c m) [
          | inl j ↦ here sc c (condition_scope sc t c j) r
          | inr j ↦ elim (in_either (conditions_of_list sc a) (conditions_of_list sc b) c j) [
            | inl k ↦
                condition_range_list a sc h.1 r c k
            | inr k ↦ condition_range_list b sc h.2 r c k
          ]
        ]
    condition_range (Loop site first t st b) sc h r c m =
        elim (in_either (loop_condition sc t st b) (conditions_in_optional sc t ++
        (conditions_in_optional sc st ++ conditions_of sc b)) c m) [
          | inl j ↦ here sc c (turn_scope sc t st b c j) r
          | inr j ↦ elim (in_either (conditions_in_optional sc t) (conditions_in_optional sc st ++ conditions_of sc b)
              c j) [
                | inl k ↦ here sc c (condition_scope_optional sc t c k) r
                | inr k ↦ elim (in_either (conditions_in_optional sc st) (conditions_of sc b) c k) [
                  | inl l ↦
                      here sc c (condition_scope_optional sc st c l) r
                  | inr l ↦ condition_range b sc h.2 r c l
                ]
              ]
        ]
    condition_range (Switch site v arms) sc h r c (inl q) = here sc c (sym (ap (λ (z : Condition). z.scope) q)) r
    condition_range (Switch site v arms) sc h r c (inr m) =
        elim (in_either (conditions_in sc v) (conditions_of_arms sc arms) c m) [
          | inl j ↦
              here sc c (condition_scope sc v c j) r
          | inr j ↦ condition_range_arms arms sc h.3 r c j
        ]
    condition_range (Break site) sc h r c m = absurd m
    condition_range (Continue site) sc h r c m = absurd m
    condition_range (Return site value) sc h r c m = here sc c (condition_scope_optional sc value c m) r
    condition_range (Barrier site) sc h r c m = absurd m

    pub condition_range_list : (list : Statements) (sc : Scope) → AllFit program f list → InRange sc →
        (c : Condition) → IsOneOf (conditions_of_list sc list) c → (x : ℕ) → Has c.scope x → x < length f.variables
    condition_range_list empty sc h r c m = absurd m
    condition_range_list (also s rest) sc h r c m =
        elim (in_either (conditions_of sc s) (conditions_of_list (scope_after sc s) rest) c
        (subst (λ cs. IsOneOf cs c) (conditions_also sc s rest) m)) [
          | inl j ↦ condition_range s sc h.0 r c j
          | inr j ↦ condition_range_list rest (scope_after sc s) h.1 (range_after sc s h.0 r) c j
        ]

    condition_range_arms : (arms : Arms) (sc : Scope) → ArmsFit program f arms → InRange sc → (c : Condition) →
        IsOneOf (conditions_of_arms sc arms) c → (x : ℕ) → Has c.scope x → x < length f.variables
    condition_range_arms no_arm sc h r c m = absurd m
    condition_range_arms (arm labels other body rest) sc h r c m =
        elim (in_either (conditions_of_list sc body) (conditions_of_arms sc rest) c m) [
          | inl j ↦
              condition_range_list body sc h.0 r c j
          | inr j ↦ condition_range_arms rest sc h.1 r c j
        ]

  module _ (action : Action) (es : Expressions) (x : ℕ) (on : sets action x ≡ true) where
    mutual
      set_range : (s : Statement) (sc : Scope) → Sound sc s → StatementFits program f s → InRange sc →
          IsOneOf (expressions_of s) (Apply action es) → x < length f.variables
      set_range (Do e) sc ok h r m = r x (set_has action es x on sc e ok m)
      set_range (Declare y None) sc ok h r m = absurd m
      set_range (Declare y (Some e)) sc ok h r (inl q) =
          let same : Set y ≡ action = cc q in
          let at : y ≡ x = eqb-true y x (subst (λ a. sets a x ≡ true) (sym same) on) in
          subst (λ z. z < length f.variables) at (declared_range y (Some e) h)
      set_range (Declare y (Some e)) sc ok h r (inr m) = r x (set_has action es x on sc e ok.1 m)
      set_range (Fill site array xs) sc ok h r m = r x (set_has_among action es x on sc xs ok m)
      set_range (Block list) sc ok h r m = set_range_list list sc ok h r m
      set_range (If site t a b) sc ok h r m =
          elim (in_either (parts_of t) (expressions_of_list a ++ expressions_of_list b) _ m) [
            | inl j ↦ r x (set_has action es x on sc t ok.0 j)
            | inr j ↦ elim (in_either (expressions_of_list a) (expressions_of_list b) _ j) [
              | inl k ↦
                  set_range_list a sc (branch_scoped sc a ok.1) h.1 r k
              | inr k ↦
                  set_range_list b sc (branch_scoped sc b ok.2) h.2 r k
            ]
          ]
      set_range (Loop site first t st b) sc ok h r m =
          elim (in_either (parts_of_optional t) (parts_of_optional st ++ expressions_of b) _ m) [
            | inl j ↦ r x (set_has_optional action es x on sc t ok.0 j)
            | inr j ↦ elim (in_either (parts_of_optional st) (expressions_of b) _ j) [
              | inl k ↦
                  r x (set_has_optional action es x on sc st ok.1 k)
              | inr k ↦
                  set_range b sc (body_sound sc b ok.2) h.2 r k
            ]
          ]
      set_range (Switch site v arms) sc ok h r m =
          elim (in_either (parts_of v) (expressions_of_arms arms) _ m) [
            | inl j ↦
                r x (set_has action es x on sc v ok.0 j)
            | inr j ↦ set_range_arms arms sc ok.1 h.3 r j
          ]
      set_range (Break site) sc ok h r m = absurd m
      set_range (Continue site) sc ok h r m = absurd m
      set_range (Return site value) sc ok h r m = r x (set_has_optional action es x on sc value ok m)
      set_range (Barrier site) sc ok h r m = absurd m

      pub set_range_list : (list : Statements) (sc : Scope) → IsScopedList sc list → AllFit program f list →
          InRange sc → IsOneOf (expressions_of_list list) (Apply action es) → x < length f.variables
      set_range_list empty sc ok h r m = absurd m
      set_range_list (also s rest) sc ok h r m =
          let o = sound_list sc s rest ok in
          elim (in_either (expressions_of s) (expressions_of_list rest) _ m) [
            | inl j ↦
                set_range s sc o.0 h.0 r j
            | inr j ↦
                set_range_list rest (scope_after sc s) o.1 h.1 (range_after sc s h.0 r) j
          ]

      set_range_arms : (arms : Arms) (sc : Scope) → AreScopedArms sc arms → ArmsFit program f arms → InRange sc →
          IsOneOf (expressions_of_arms arms) (Apply action es) → x < length f.variables
      set_range_arms no_arm sc ok h r m = absurd m
      set_range_arms (arm labels other body rest) sc ok h r m =
          elim (in_either (expressions_of_list body) (expressions_of_arms rest) _ m) [
            | inl j ↦
                set_range_list body sc (branch_scoped sc body ok.0) h.0 r j
            | inr j ↦ set_range_arms rest sc ok.1 h.1 r j
          ]

  -- what is declared is a variable of the function

  abbrev bit : Bool → ℕ
  bit b = cond b 1 0

  abbrev Within : ℕ → ℕ → Type 0
  Within n x = (n ≡ 0) ⊎ (x < length f.variables)

  either_within : (a b x : ℕ) → Within a x → Within b x → Within (a + b) x
  either_within a b x (inr l) q = inr l
  either_within a b x (inl p) (inr l) = inr l
  either_within a b x (inl p) (inl q) = inl (omega (arith, p, q))

  mutual
    declared_within : (s : Statement) (x : ℕ) → StatementFits program f s → Within (declarations s x) x
    declared_within (Declare y value) x h =
        elim (nat_eq y x) as (λ b. nat_eq y x ≡ b → Within (bit b) x) [
          | true ↦ λ q. inr (subst (λ z. z < length f.variables) (eqb-true y x q) (declared_range y value h))
          | false ↦ λ q. inl refl
        ] refl
    declared_within (Do e) x h = inl refl
    declared_within (Fill site array es) x h = inl refl
    declared_within (Block list) x h = declared_within_list list x h
    declared_within (If site t a b) x h =
        either_within (all_declarations a x) (all_declarations b x) x (declared_within_list a x h.1)
        (declared_within_list b x h.2)
    declared_within (Loop site first t st b) x h = declared_within b x h.2
    declared_within (Switch site v arms) x h = declared_within_arms arms x h.3
    declared_within (Break site) x h = inl refl
    declared_within (Continue site) x h = inl refl
    declared_within (Return site value) x h = inl refl
    declared_within (Barrier site) x h = inl refl

    pub declared_within_list : (list : Statements) (x : ℕ) → AllFit program f list → Within (all_declarations list x) x
    declared_within_list empty x h = inl refl
    declared_within_list (also s rest) x h =
        either_within (declarations s x) (all_declarations rest x) x (declared_within s x h.0)
        (declared_within_list rest x h.1)

    declared_within_arms : (arms : Arms) (x : ℕ) → ArmsFit program f arms → Within (arms_declarations arms x) x
    declared_within_arms no_arm x h = inl refl
    declared_within_arms (arm labels other body rest) x h =
        either_within (all_declarations body x) (arms_declarations rest x) x (declared_within_list body x h.0)
        (declared_within_arms rest x h.1)

-- an argument is of a parameter
pub argument_within : (program : Program) (f : Function) (kinds : List VarKind) (roots : List (Option Root))
    (es : Expressions) (ts : List IntType) (n : ℕ) (e : Expression) → ArgumentsFit program f kinds roots ts →
    HaveTypes program f es ts → IsNth es n e → n < length kinds
argument_within program f kinds roots none ts n e a h at = absurd at
argument_within program f kinds roots (more d rest) [] n e a h at = absurd h
argument_within program f [] [] (more d rest) (t ∷ ts) n e a h at = absurd a
argument_within program f [] (o ∷ roots) (more d rest) (t ∷ ts) n e a h at = absurd a
argument_within program f (kind ∷ kinds) roots (more d rest) (t ∷ ts) zero e a h at = omega arith
argument_within program f (Scalar s ∷ kinds) (None ∷ roots) (more d rest) (t ∷ ts) (suc n) e a h at = let l =
    argument_within program f kinds roots rest ts n e a.1 h.1 at in omega (arith, l)
argument_within program f (Pointer at' element own ∷ kinds) (Some root ∷ roots) (more d rest) (t ∷ ts) (suc n) e a h
    at = let l = argument_within program f kinds roots rest ts n e a.2 h.1 at in omega (arith, l)
argument_within program f (Scalar s ∷ kinds) [] (more d rest) (t ∷ ts) (suc n) e a h at = absurd a
argument_within program f (Scalar s ∷ kinds) (Some root ∷ roots) (more d rest) (t ∷ ts) (suc n) e a h at = absurd a
argument_within program f (Pointer at' element own ∷ kinds) [] (more d rest) (t ∷ ts) (suc n) e a h at = absurd a
argument_within program f (Pointer at' element own ∷ kinds) (None ∷ roots) (more d rest) (t ∷ ts) (suc n) e a h at =
    absurd a

pub length_take : {A : Type 0} (n : ℕ) (xs : List A) → length (take n xs) ≤ length xs
length_take zero xs = omega arith
length_take (suc n) [] = omega arith
length_take (suc n) (x ∷ xs) = let l = length_take n xs in omega (arith, l)
