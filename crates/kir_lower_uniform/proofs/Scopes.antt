-- What stands in a statement: it declares no variable in scope, its conditions have the scope around it in theirs,
-- and a way out is one.
use Rattle.std.proofs.Common.{◌≡◌, ℕ, ◌+◌, List, [], ◌∷◌, ◌++◌, Option, Some, None, refl, sym, ◌∙◌, subst, arith, ◌⊎◌}
use Rattle.std.proofs.Common.{inl, inr, if◌then◌else◌}
use Rattle.std.proofs.Common.{Bool as Test, true, false}
use Rattle.std.specs.Prelude.{nat_eq}
use Rattle.std.proofs.lemmas.Bool.{or_left, or_right}
use Rattle.std.proofs.lemmas.Option.{none-some}
use Rattle.cl_model.specs.Tree.{Expression, Apply, Update, Choose, Call, Expressions, none, more, Statement, Do}
use Rattle.cl_model.specs.Tree.{Declare, Fill, Block, If, Loop, Switch, Break, Continue, Return, Barrier, Statements}
use Rattle.cl_model.specs.Tree.{empty, also, Arms, no_arm, arm}
use Rattle.cl_model.specs.Lists.{IsOneOf}
use Rattle.cl_model.specs.Valid.{Scope, Has, IsScopedList, AreScopedArms, scope_after, declarations, all_declarations}
use Rattle.cl_model.specs.Valid.{arms_declarations}
use Rattle.cl_model.specs.Varying.{Condition, conditions_in, conditions_among, conditions_in_optional, loop_condition}
use Rattle.cl_model.specs.Varying.{conditions_of, conditions_of_list, conditions_of_arms, exits, some_exits}
use Rattle.cl_model.specs.Varying.{arms_exit}
use Rattle.kir_lower.specs.Ways.{first_of, way_out, way_out_of_all, way_out_of_arms, declares}
use Rattle.kir_uniform.proofs.Living.{true_or_false}
use Rattle.kir_uniform.proofs.Alike.{same_self, same_number}
use Rattle.diverge_sound.proofs.Keeps.{Sound, sound_list, body_sound, branch_scoped}
use Rattle.diverge_sound.proofs.Nesting.{in_either}
use Rattle.diverge_sound.proofs.Parts.{conditions_also}
use Rattle.kir_lower_shape.proofs.Scoped.{fewer_ways, fewer_of_arms}

-- ---- declarations

abbrev once_if : Test → ℕ
once_if b = if b then 1 else 0

not_once : (b : Test) → b ≡ false → once_if b ≡ 0
not_once true e = cc
not_once false e = refl

none_of_two : (a b : ℕ) → a ≡ 0 → b ≡ 0 → a + b ≡ 0
none_of_two a b h k = omega (arith, h, k)

mutual
  -- a variable in scope is declared in no statement
  pub undeclared : (s : Statement) (scope : Scope) (x : ℕ) → Sound scope s → Has scope x → declarations s x ≡ 0
  undeclared (Do e) scope x h has = refl
  undeclared (Declare y value) scope x h has =
      not_once (nat_eq y x) (elim (true_or_false (nat_eq y x)) [
        | inl e ↦
            absurd (h.0 (subst (Has scope) (sym (same_number y x e)) has))
        | inr e ↦ e
      ])
  undeclared (Fill site array values) scope x h has = refl
  undeclared (Block list) scope x h has = undeclared_list list scope x h has
  undeclared (If site test chosen other) scope x h has =
      none_of_two _ _ (undeclared_list chosen scope x (branch_scoped scope chosen h.1) has)
      (undeclared_list other scope x (branch_scoped scope other h.2) has)
  undeclared (Loop site first test step body) scope x h has = undeclared body scope x (body_sound scope body h.2) has
  undeclared (Switch site value arms) scope x h has = undeclared_arms arms scope x h.1 has
  undeclared (Break site) scope x h has = refl
  undeclared (Continue site) scope x h has = refl
  undeclared (Return site value) scope x h has = refl
  undeclared (Barrier site) scope x h has = refl

  pub undeclared_list : (list : Statements) (scope : Scope) (x : ℕ) → IsScopedList scope list → Has scope x →
      all_declarations list x ≡ 0
  undeclared_list empty scope x h has = refl
  undeclared_list (also s rest) scope x h has =
      let p = sound_list scope s rest h in
      none_of_two _ _ (undeclared s scope x p.0 has) (undeclared_list rest (scope_after scope s) x p.1
      (has_after scope s x has))

  pub undeclared_arms : (arms : Arms) (scope : Scope) (x : ℕ) → AreScopedArms scope arms → Has scope x →
      arms_declarations arms x ≡ 0
  undeclared_arms no_arm scope x h has = refl
  undeclared_arms (arm labels other body rest) scope x h has =
      none_of_two _ _ (undeclared_list body scope x (branch_scoped scope body h.0) has)
      (undeclared_arms rest scope x h.1 has)

  -- what is in scope is so behind a statement
  pub has_after : (scope : Scope) (s : Statement) (x : ℕ) → Has scope x → Has (scope_after scope s) x
  has_after scope (Declare y value) x h = inr h
  has_after scope (Do e) x h = h
  has_after scope (Fill site array values) x h = h
  has_after scope (Block list) x h = h
  has_after scope (If site test chosen other) x h = h
  has_after scope (Loop site first test step body) x h = h
  has_after scope (Switch site value arms) x h = h
  has_after scope (Break site) x h = h
  has_after scope (Continue site) x h = h
  has_after scope (Return site value) x h = h
  has_after scope (Barrier site) x h = h

-- a statement that declares no variable leaves the scope
pub same_scope : (scope : Scope) (s : Statement) → declares s ≡ false → scope_after scope s ≡ scope
same_scope scope (Declare y value) h = cc
same_scope scope (Do e) h = refl
same_scope scope (Fill site array values) h = refl
same_scope scope (Block list) h = refl
same_scope scope (If site test chosen other) h = refl
same_scope scope (Loop site first test step body) h = refl
same_scope scope (Switch site value arms) h = refl
same_scope scope (Break site) h = refl
same_scope scope (Continue site) h = refl
same_scope scope (Return site value) h = refl
same_scope scope (Barrier site) h = refl

-- and one that declares a variable has no way out
pub declares_none : (s : Statement) (b k : Test) → declares s ≡ true → way_out b k s ≡ None
declares_none (Declare y value) b k h = refl
declares_none (Do e) b k h = cc
declares_none (Fill site array values) b k h = cc
declares_none (Block list) b k h = cc
declares_none (If site test chosen other) b k h = cc
declares_none (Loop site first test step body) b k h = cc
declares_none (Switch site value arms) b k h = cc
declares_none (Break site) b k h = cc
declares_none (Continue site) b k h = cc
declares_none (Return site value) b k h = cc
declares_none (Barrier site) b k h = cc

-- ---- conditions

module _ (x : ℕ) where
  abbrev In : List Condition → Type 0
  In list = (c : Condition) → IsOneOf list c → Has c.scope x

  in_both : (xs ys : List Condition) → In xs → In ys → In (xs ++ ys)
  in_both xs ys h k c m = elim (in_either xs ys c m) [ inl i ↦ h c i | inr i ↦ k c i ]

  in_first : (d : Condition) (xs : List Condition) → Has d.scope x → In xs → In (d ∷ xs)
  in_first d xs h k c (inl e) = subst (λ (z : Condition). Has z.scope x) e h
  in_first d xs h k c (inr i) = k c i

  mutual
    -- what is in scope is in the scope of each condition in an expression
    pub scope_in : (scope : Scope) (e : Expression) → Has scope x → In (conditions_in scope e)
    scope_in scope (Apply action operands) h = scope_among scope operands h
    scope_in scope (Update site element root op of back old index value) h =
        in_both (conditions_in scope index) (conditions_in scope value) (scope_in scope index h)
        (scope_in scope value h)
    scope_in scope (Choose site test chosen other) h =
        in_first _ _ h (in_both (conditions_in scope test) _ (scope_in scope test h)
        (in_both (conditions_in scope chosen) (conditions_in scope other) (scope_in scope chosen h)
        (scope_in scope other h)))
    scope_in scope (Call site g roots arguments) h = scope_among scope arguments h

    scope_among : (scope : Scope) (es : Expressions) → Has scope x → In (conditions_among scope es)
    scope_among scope none h = λ c m. absurd m
    scope_among scope (more e rest) h =
        in_both (conditions_in scope e) (conditions_among scope rest) (scope_in scope e h) (scope_among scope rest h)

  scope_optional : (scope : Scope) (e : Option Expression) → Has scope x → In (conditions_in_optional scope e)
  scope_optional scope None h = λ c m. absurd m
  scope_optional scope (Some e) h = scope_in scope e h

  scope_loop : (scope : Scope) (test step : Option Expression) (body : Statement) → Has scope x →
      In (loop_condition scope test step body)
  scope_loop scope None step body h = λ c m. absurd m
  scope_loop scope (Some test) step body h = in_first _ [] h (λ c m. absurd m)

  mutual
    -- and of each in a statement
    pub scope_of : (scope : Scope) (s : Statement) → Has scope x → In (conditions_of scope s)
    scope_of scope (Do e) h = scope_in scope e h
    scope_of scope (Declare y value) h = scope_optional scope value h
    scope_of scope (Fill site array values) h = scope_among scope values h
    scope_of scope (Block list) h = scope_of_list scope list h
    scope_of scope (If site test chosen other) h =
        in_first _ _ h (in_both (conditions_in scope test) _ (scope_in scope test h)
        (in_both (conditions_of_list scope chosen) (conditions_of_list scope other)
        (scope_of_list scope chosen h) (scope_of_list scope other h)))
    scope_of scope (Loop site first test step body) h =
        in_both (loop_condition scope test step body) _ (scope_loop scope test step body h)
        (in_both (conditions_in_optional scope test) _ (scope_optional scope test h)
        (in_both (conditions_in_optional scope step) (conditions_of scope body) (scope_optional scope step h)
        (scope_of scope body h)))
    scope_of scope (Switch site value arms) h =
        in_first _ _ h (in_both (conditions_in scope value) (conditions_of_arms scope arms) (scope_in scope value h)
        (scope_of_arms scope arms h))
    scope_of scope (Break site) h = λ c m. absurd m
    scope_of scope (Continue site) h = λ c m. absurd m
    scope_of scope (Return site value) h = scope_optional scope value h
    scope_of scope (Barrier site) h = λ c m. absurd m

    pub scope_of_list : (scope : Scope) (list : Statements) → Has scope x → In (conditions_of_list scope list)
    scope_of_list scope empty h = λ c m. absurd m
    scope_of_list scope (also s rest) h =
        subst In (sym (conditions_also scope s rest))
        (in_both (conditions_of scope s) (conditions_of_list (scope_after scope s) rest) (scope_of scope s h)
        (scope_of_list (scope_after scope s) rest (has_after scope s x h)))

    pub scope_of_arms : (scope : Scope) (arms : Arms) → Has scope x → In (conditions_of_arms scope arms)
    scope_of_arms scope no_arm h = λ c m. absurd m
    scope_of_arms scope (arm labels other body rest) h =
        in_both (conditions_of_list scope body) (conditions_of_arms scope rest) (scope_of_list scope body h)
        (scope_of_arms scope rest h)

-- ---- ways out

first_some : (a b : Option ℕ) (site : ℕ) (A : Type 0) → (first_of a b ≡ Some site) → (a ≡ Some site → A) →
    (b ≡ Some site → A) → A
first_some None b site A e f g = g e
first_some (Some s) b site A e f g = f e

mutual
  -- a statement with a way out holds one
  pub way_exits : (b k : Test) (s : Statement) (site : ℕ) → way_out b k s ≡ Some site → exits s ≡ true
  way_exits b k (Do e) site h = absurd (none-some site h)
  way_exits b k (Declare x value) site h = absurd (none-some site h)
  way_exits b k (Fill t array values) site h = absurd (none-some site h)
  way_exits b k (Block list) site h = way_exits_all b k list site h
  way_exits b k (If t test chosen other) site h =
      first_some (way_out_of_all b k chosen) (way_out_of_all b k other) site _ h
      (λ e. or_left (some_exits chosen) (some_exits other) (way_exits_all b k chosen site e))
      (λ e. or_right (some_exits chosen) (some_exits other) (way_exits_all b k other site e))
  way_exits b k (Loop t first test step body) site h = way_exits false false body site h
  way_exits b k (Switch t value arms) site h = way_exits_arms false k arms site h
  way_exits b k (Break t) site h = refl
  way_exits b k (Continue t) site h = refl
  way_exits b k (Return t value) site h = refl
  way_exits b k (Barrier t) site h = absurd (none-some site h)

  pub way_exits_all : (b k : Test) (list : Statements) (site : ℕ) → way_out_of_all b k list ≡ Some site →
      some_exits list ≡ true
  way_exits_all b k empty site h = absurd (none-some site h)
  way_exits_all b k (also s rest) site h =
      first_some (way_out b k s) (way_out_of_all b k rest) site _ h
      (λ e. or_left (exits s) (some_exits rest) (way_exits b k s site e))
      (λ e. or_right (exits s) (some_exits rest) (way_exits_all b k rest site e))

  pub way_exits_arms : (b k : Test) (arms : Arms) (site : ℕ) → way_out_of_arms b k arms ≡ Some site →
      arms_exit arms ≡ true
  way_exits_arms b k no_arm site h = absurd (none-some site h)
  way_exits_arms b k (arm labels other body rest) site h =
      first_some (way_out_of_all b k body) (way_out_of_arms b k rest) site _ h
      (λ e. or_left (some_exits body) (arms_exit rest) (way_exits_all b k body site e))
      (λ e. or_right (some_exits body) (arms_exit rest) (way_exits_arms b k rest site e))

-- with fewer ways out there are no more
pub some_or_none : (a : Option ℕ) → ((site : ℕ) × (a ≡ Some site)) ⊎ (a ≡ None)
some_or_none None = inr refl
some_or_none (Some s) = inl (s, refl)

pub more_ways : (body : Statement) (site : ℕ) → way_out false false body ≡ Some site →
    (t : ℕ) × (way_out true true body ≡ Some t)
more_ways body site h =
    elim (some_or_none (way_out true true body)) [
      | inl k ↦ k
      | inr e ↦ absurd (let f = fewer_ways 0 0 false true false true (λ z. refl) (λ z. refl) body
          (λ t q. absurd (none-some t (sym e ∙ q))) site h in let s = same_self 0 in let z : true ≡ false = sym s ∙
          f in cc)
    ]

pub more_ways_arms : (arms : Arms) (site : ℕ) → way_out_of_arms false true arms ≡ Some site →
    (t : ℕ) × (way_out_of_arms true true arms ≡ Some t)
more_ways_arms arms site h =
    elim (some_or_none (way_out_of_arms true true arms)) [
      | inl k ↦ k
      | inr e ↦ absurd (let f = fewer_of_arms 0 0 false true true true (λ z. refl) (λ z. z) arms
          (λ t q. absurd (none-some t (sym e ∙ q))) site h in let s = same_self 0 in let z : true ≡ false = sym s ∙
          f in cc)
    ]

-- of the parts of a list and of the arms
pub way_first : (a b : Option ℕ) (site : ℕ) → a ≡ Some site → (t : ℕ) × (first_of a b ≡ Some t)
way_first None b site e = absurd (none-some site e)
way_first (Some s) b site e = (s, refl)

pub way_second : (a b : Option ℕ) (site : ℕ) → b ≡ Some site → (t : ℕ) × (first_of a b ≡ Some t)
way_second None b site e = (site, e)
way_second (Some s) b site e = (s, refl)
