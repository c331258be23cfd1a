-- Facts on lists and arms that stand before both go through them: what is settled in them, what covers them, and
-- scopes.
use Rattle.std.proofs.Common.{◌≡◌, ℕ, ◌<◌, List, ◌∷◌, length, Option, Some, None, refl, sym, ◌∙◌, subst, inl, inr}
use Rattle.std.proofs.Common.{Bool as Test, true, false}
use Rattle.std.specs.Prelude.{◌&&◌, ◌||◌}
use Rattle.std.proofs.lemmas.Bool.{or_left, or_right}
use Rattle.std.proofs.lemmas.Option.{none-some, slice_get_within}
use Rattle.cl_model.specs.Tree.{Statement, Do, Declare, Fill, Block, If, Loop, Switch, Break, Continue, Return}
use Rattle.cl_model.specs.Tree.{Barrier, Statements, empty, also, Arms, no_arm, arm, Program, Function}
use Rattle.cl_model.specs.Lists.{IsOneOf}
use Rattle.cl_model.specs.Calls.{function_at}
use Rattle.cl_model.specs.Valid.{Scope, StatementFits, scope_after}
use Rattle.cl_model.specs.Varying.{Condition, conditions_of, conditions_of_list, conditions_of_arms, AnExpression}
use Rattle.cl_model.specs.Varying.{Varies}
use Rattle.kir.specs.Tree.{Kernel}
use Rattle.kir_lower.specs.Made.{Instance}
use Rattle.kir_lower.specs.Ways.{way_out, way_out_of_all, declares}
use Rattle.kir_lower.specs.Code.{Calls, Guarded, is_guarded}
use Rattle.kir_uniform.specs.Does.{Who}
use Rattle.kir_uniform.proofs.Living.{true_or_false}
use Rattle.diverge_sound.proofs.Keeps.{Sound}
use Rattle.diverge_sound.proofs.Parts.{GoodList, GoodArms, good_also, conditions_also, in_left, in_right}
use Rattle.diverge_sound.proofs.Values.{InBody, UnderBody, BackBody}
use Rattle.kir_lower_shape.proofs.Quiet.{Quiet}
use Rattle.kir_lower_shape.proofs.Steps.{ListQuiet}
use Rattle.kir_lower_shape.proofs.Scoped.{FirstScoped, as_first}
use Rattle.kir_lower_uniform.proofs.Setting.{Setting, ScopeWithin}
use Rattle.kir_lower_uniform.proofs.Scopes.{declares_none, same_scope, way_first, way_second}
use Rattle.kir_lower_uniform.proofs.Guards.{Settled, AllSettled, ArmsSettled, Covers, covers_given, covers_both}
use Rattle.kir_lower_uniform.proofs.Guards.{covers_before, covers_same, covers_settled}
use Rattle.kir_lower_uniform.proofs.Loops.{IsPart}

-- the first statement of a list
pub sound_first : (scope : Scope) (s : Statement) → Sound scope s → FirstScoped scope s
sound_first scope (Declare x value) h = h.1
sound_first scope (Do e) h = as_first scope (Do e) h
sound_first scope (Fill site array values) h = as_first scope (Fill site array values) h
sound_first scope (Block list) h = as_first scope (Block list) h
sound_first scope (If site test chosen other) h = as_first scope (If site test chosen other) h
sound_first scope (Loop site first test step body) h = as_first scope (Loop site first test step body) h
sound_first scope (Switch site value arms) h = as_first scope (Switch site value arms) h
sound_first scope (Break site) h = as_first scope (Break site) h
sound_first scope (Continue site) h = as_first scope (Continue site) h
sound_first scope (Return site value) h = as_first scope (Return site value) h
sound_first scope (Barrier site) h = as_first scope (Barrier site) h

-- statements behind a way out are guarded
pub inner_true : (declared : Test) (way : Option ℕ) (guarded : Test) (site : ℕ) → way ≡ Some site →
    (declared ≡ true → way ≡ None) → is_guarded declared way guarded ≡ true
inner_true true way guarded site e h = absurd (none-some site (sym (h refl) ∙ e))
inner_true false None guarded site e h = absurd (none-some site e)
inner_true false (Some s) guarded site e h = refl

pub list_parts : (c : ℕ) (guarded : Test) (g : Guarded) → ListQuiet c guarded g → guarded ≡ true →
    Quiet c g.inside false × Quiet c g.rest false
list_parts c true g h e = h
list_parts c false g h e = cc

-- a statement that declares a variable under a guard declares one
pub declared_declares : (guarded : Test) (s : Statement) → (guarded && declares s) ≡ true → declares s ≡ true
declared_declares true s e = e
declared_declares false s e = cc

module _ (program : Program) (kernel : Kernel) (one other : Who) (fn : ℕ) (calls : Calls) (here : Instance)
    (set : Setting program kernel one other fn calls here) where
  abbrev F : Function
  F = function_at program fn

  abbrev Size : ℕ
  Size = length (function_at program fn).variables

  abbrev pub GL : Scope → Statements → Type 0
  GL scope list = GoodList (InBody program fn) (UnderBody program fn) (BackBody program fn) scope list

  abbrev pub GM : Scope → Arms → Type 0
  GM scope arms = GoodArms (InBody program fn) (UnderBody program fn) (BackBody program fn) scope arms

  declared_within : (scope : Scope) (x : ℕ) → x < Size → ScopeWithin program kernel here Size scope →
      ScopeWithin program kernel here Size (x ∷ scope)
  declared_within scope x less within y (inl e) = subst (λ z. z < Size) e less
  declared_within scope x less within y (inr i) = within y i

  pub within_after : (scope : Scope) (s : Statement) → StatementFits program F s →
      ScopeWithin program kernel here Size scope → ScopeWithin program kernel here Size (scope_after scope s)
  within_after scope (Declare x None) h within =
      declared_within scope x (slice_get_within F.variables x h.1.0 h.1.1) within
  within_after scope (Declare x (Some v)) h within =
      declared_within scope x (slice_get_within F.variables x h.1.0 h.1.1) within
  within_after scope (Do e) h within = within
  within_after scope (Fill site array values) h within = within
  within_after scope (Block list) h within = within
  within_after scope (If site test chosen other_) h within = within
  within_after scope (Loop site first test step body) h within = within
  within_after scope (Switch site value arms) h within = within
  within_after scope (Break site) h within = within
  within_after scope (Continue site) h within = within
  within_after scope (Return site value) h within = within
  within_after scope (Barrier site) h within = within

  pub part_left : (a b : ℕ → Test) (r s : Test) →
      IsPart program kernel one other fn calls here set (λ x. a x || b x) (r || s) →
      IsPart program kernel one other fn calls here set a r
  part_left a b r s h =
      record { assigned = λ x e. h.assigned x (or_left (a x) (b x) e); returned = λ e. h.returned (or_left r s e) }

  pub part_right : (a b : ℕ → Test) (r s : Test) →
      IsPart program kernel one other fn calls here set (λ x. a x || b x) (r || s) →
      IsPart program kernel one other fn calls here set b s
  part_right a b r s h =
      record { assigned = λ x e. h.assigned x (or_right (a x) (b x) e); returned = λ e. h.returned (or_right r s e) }

  pub part_behind : (a b : ℕ → Test) (r : Test) →
      IsPart program kernel one other fn calls here set (λ x. a x || b x) r →
      IsPart program kernel one other fn calls here set b r
  part_behind a b r h = record { assigned = λ x e. h.assigned x (or_right (a x) (b x) e); returned = h.returned }

  -- no condition with a way out varies
  abbrev pub AllCalm : List Condition → Type 0
  AllCalm list = (c : Condition) → IsOneOf list c → c.exits ≡ true → Varies program (AnExpression fn c.test) → ⊥

  -- what can be left is settled
  pub all_settled : (list : Statements) (scope : Scope) → ((site : ℕ) → way_out_of_all true true list ≡ Some site →
      AllCalm (conditions_of_list scope list)) → AllSettled program kernel one other fn calls here set scope list
  all_settled empty scope h = tt
  all_settled (also s rest) scope h = (
    (λ site e c i. let k = way_first (way_out true true s) (way_out_of_all true true rest) site e in
        h k.0 k.1 c (subst (λ z. IsOneOf z c) (sym (conditions_also scope s rest))
        (in_left (conditions_of scope s) (conditions_of_list (scope_after scope s) rest) c i))),
    all_settled rest (scope_after scope s) (λ site e c i. let k = way_second (way_out true true s)
        (way_out_of_all true true rest) site e in
        h k.0 k.1 c (subst (λ z. IsOneOf z c) (sym (conditions_also scope s rest))
        (in_right (conditions_of scope s) (conditions_of_list (scope_after scope s) rest) c i))),
  )

  pub arms_settled : (arms : Arms) (scope : Scope) → AllCalm (conditions_of_arms scope arms) →
      ArmsSettled program kernel one other fn calls here set scope arms
  arms_settled no_arm scope h = tt
  arms_settled (arm labels default body rest) scope h = (
    all_settled body scope (λ site e c i.
        h c (in_left (conditions_of_list scope body) (conditions_of_arms scope rest) c i)),
    arms_settled rest scope (λ c i.
        h c (in_right (conditions_of_list scope body) (conditions_of_arms scope rest) c i)),
  )

  -- a statement, and a list, is settled where a variable in scope that is assigned does not vary
  pub covers_first : (scope : Scope) (s : Statement) → ((c : Condition) → IsOneOf (conditions_of scope s) c →
      UnderBody program fn c) → Covers program kernel one other fn calls here set
      (Settled program kernel one other fn calls here set scope s) (scope_after scope s)
  covers_first scope s under =
      elim (true_or_false (declares s)) [
        | inl d ↦ covers_given program kernel one other fn calls here set
            (Settled program kernel one other fn calls here set scope s) (scope_after scope s)
            (λ site e. absurd (none-some site (sym (declares_none s true true d) ∙ e)))
        | inr n ↦ covers_same program kernel one other fn calls here set
            (Settled program kernel one other fn calls here set scope s) scope (scope_after scope s)
            (same_scope scope s n) (covers_settled program kernel one other fn calls here set scope s under)
      ]

  pub covers_all : (list : Statements) (scope : Scope) → GL scope list →
      Covers program kernel one other fn calls here set (AllSettled program kernel one other fn calls here set scope
      list) scope
  covers_all empty scope good = covers_given program kernel one other fn calls here set (Unit {0}) scope tt
  covers_all (also s rest) scope good =
      let k = good_also (InBody program fn) (UnderBody program fn) (BackBody program fn) scope s rest good in
      covers_both program kernel one other fn calls here set (Settled program kernel one other fn calls here set scope
      s) (AllSettled program kernel one other fn calls here set (scope_after scope s) rest) scope
      (covers_settled program kernel one other fn calls here set scope s k.0.under)
      (covers_before program kernel one other fn calls here set (AllSettled program kernel one other fn calls here set
      (scope_after scope s) rest) scope s (covers_all rest (scope_after scope s) k.1))
