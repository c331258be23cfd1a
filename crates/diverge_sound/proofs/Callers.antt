-- Where an item stands in a function, no frame of it and of its calls is of a function that calls do not reach.
use Rattle.std.proofs.Common.{◌≡◌, ℕ, zero, suc, ℤ, true, false, cond, List, [], ◌∷◌, Option, Some, None, nat_eq}
use Rattle.std.proofs.Common.{refl, sym, ap, ◌∙◌}
use Rattle.std.proofs.lemmas.Bool.{eqb-true}
use Rattle.cl_model.specs.declared.program.Root.{Root}
use Rattle.cl_model.specs.Tree.{Expression, Apply, Update, Choose, Call, Expressions, none, more, Statement, Do}
use Rattle.cl_model.specs.Tree.{Declare, Fill, Block, If, Loop, Switch, Return, Statements, empty, also, Arms, no_arm}
use Rattle.cl_model.specs.Tree.{arm, Program}
use Rattle.cl_model.specs.Task.{Operand, Own, Tested, Chosen, Other, Nth, Turn, Body, Step, Arm, Into, Point, Frame}
use Rattle.cl_model.specs.Valid.{Scope, scope_after}
use Rattle.cl_model.specs.Agreement.{Owned}
use Rattle.diverge_sound.proofs.Ran.{Stand, Held, Who, here, ComesIn, ComesAt, ComesInOptional, Comes, ComesAmong}
use Rattle.diverge_sound.proofs.Ran.{ComesArm}
use Rattle.diverge_sound.proofs.Parts.{Good, GoodAll, GoodOptional, GoodRun, GoodList, GoodArms, good_apply, good_more}
use Rattle.diverge_sound.proofs.Parts.{good_update, good_choose, good_call, good_do, good_declare, good_fill}
use Rattle.diverge_sound.proofs.Parts.{good_block, good_if, good_loop, good_switch, good_return, good_also, good_arm}
use Rattle.diverge_sound.proofs.Values.{InBody, UnderBody, BackBody}
use Rattle.diverge_sound.proofs.Points.{finds, finds_behind}

pub finds_none : (frame : Frame) (frames : List Frame) (v : Owned) → (frame.function ≡ v.function → ⊥) →
    finds frames v ≡ None → finds (frame ∷ frames) v ≡ None
finds_none frame frames v ne h =
    elim (nat_eq frame.function v.function) as (λ b. nat_eq frame.function v.function ≡ b →
    cond b (Some (frame.variables v.variable)) (finds frames v) ≡ None) [
      | true ↦ λ q. absurd (ne (eqb-true frame.function v.function q))
      | false ↦ λ q. h
    ] refl

module _ (program : Program) (f : ℕ) (w : Who) (v : Owned) (mine : w.frame.function ≡ v.function → ⊥)
    (other : (site g : ℕ) (roots : List (Option Root)) (es : Expressions) → InBody program f (Call site g roots es) →
    g ≡ v.function → ⊥)
    (deep : (site g : ℕ) (roots : List (Option Root)) (es : Expressions) → InBody program f (Call site g roots es) →
    (args : List ℤ) (p : Point) (inner : Stand) → w.comes site g roots args p inner →
    finds inner.frames v ≡ None) where
  at_here : (s : Held) (to : List Frame) → to ≡ here w s → finds to v ≡ None
  at_here s to e = ap (λ fs. finds fs v) e ∙ finds_none (record w.frame { variables = s.variables }) [] v mine refl

  mutual
    comes_in_lone : (e : Expression) (scope : Scope) (p : Point) (s : Held) (to : Stand) →
        Good (InBody program f) (UnderBody program f) (BackBody program f) scope e → ComesIn w e s p to →
        finds to.frames v ≡ None
    comes_in_lone (Apply action es) scope (Operand k ∷ p) s to ok x =
        comes_at_lone es scope k p s to (good_apply (InBody program f) (UnderBody program f) (BackBody program f)
        scope action es ok).1 x
    comes_in_lone (Apply action es) scope (Own k ∷ p) s to ok (args, m, e, q) = at_here m to.frames q
    comes_in_lone (Update site element root op of back old index value) scope (Operand zero ∷ p) s to ok x =
        comes_in_lone index scope p s to (good_update (InBody program f) (UnderBody program f) (BackBody program f)
        scope site element root op of back old index value ok).0 x
    comes_in_lone (Update site element root op of back old index value) scope (Operand (suc k) ∷ p) s to ok (
      i,
      m,
      e,
      x,
    ) =
        comes_in_lone value scope p m to (good_update (InBody program f) (UnderBody program f) (BackBody program f)
        scope site element root op of back old index value ok).1 x
    comes_in_lone (Update site element root op of back old index value) scope (Own zero ∷ p) s to ok (i, m, e, q) =
        at_here m to.frames q
    comes_in_lone (Update site element root op of back old index value) scope (Own (suc k) ∷ p) s to ok (
      i,
      y,
      m,
      n,
      e,
      d,
      q,
    ) = at_here n to.frames q
    comes_in_lone (Choose site t a b) scope (Tested ∷ p) s to ok x =
        comes_in_lone t scope p s to (good_choose (InBody program f) (UnderBody program f) (BackBody program f) scope
        site t a b ok).1 x
    comes_in_lone (Choose site t a b) scope (Own k ∷ p) s to ok (i, m, e, q, val) = at_here m to.frames q
    comes_in_lone (Choose site t a b) scope (Chosen ∷ p) s to ok (i, m, e, x) =
        comes_in_lone a scope p m to (good_choose (InBody program f) (UnderBody program f) (BackBody program f) scope
        site t a b ok).2 x
    comes_in_lone (Choose site t a b) scope (Other ∷ p) s to ok (i, m, e, x) =
        comes_in_lone b scope p m to (good_choose (InBody program f) (UnderBody program f) (BackBody program f) scope
        site t a b ok).3 x
    comes_in_lone (Call site h roots es) scope (Operand k ∷ p) s to ok x =
        comes_at_lone es scope k p s to (good_call (InBody program f) (UnderBody program f) (BackBody program f) scope
        site h roots es ok).1 x
    comes_in_lone (Call site h roots es) scope (Own zero ∷ p) s to ok (args, m, e, q) = at_here m to.frames q
    comes_in_lone (Call site h roots es) scope (Own (suc k) ∷ p) s to ok (args, m, top, e, y, q) =
        let o = good_call (InBody program f) (UnderBody program f) (BackBody program f) scope site h roots es ok in
        ap (λ fs. finds fs v) q ∙ finds_none top (here w m) v (λ z. other site h roots es o.0 (sym y ∙ z))
        (at_here m (here w m) refl)
    comes_in_lone (Call site h roots es) scope (Into ∷ p) s to ok (args, m, inner, e, c, q) =
        let o = good_call (InBody program f) (UnderBody program f) (BackBody program f) scope site h roots es ok in
        ap (λ fs. finds fs v) q ∙ finds_behind inner (here w m) v
        (deep site h roots es o.0 args p (record { frames = inner; value = to.value }) c) ∙
        at_here m (here w m) refl
    comes_in_lone e scope p s to ok x = at_here s to.frames x

    comes_at_lone : (es : Expressions) (scope : Scope) (k : ℕ) (p : Point) (s : Held) (to : Stand) →
        GoodAll (InBody program f) (UnderBody program f) (BackBody program f) scope es → ComesAt w es s k p to →
        finds to.frames v ≡ None
    comes_at_lone none scope k p s to ok x = absurd x
    comes_at_lone (more e rest) scope zero p s to ok x =
        comes_in_lone e scope p s to (good_more (InBody program f) (UnderBody program f) (BackBody program f) scope e
        rest ok).0 x
    comes_at_lone (more e rest) scope (suc k) p s to ok (i, m, d, x) =
        comes_at_lone rest scope k p m to (good_more (InBody program f) (UnderBody program f) (BackBody program f)
        scope e rest ok).1 x

  comes_optional_lone : (e : Option Expression) (scope : Scope) (p : Point) (s : Held) (to : Stand) →
      GoodOptional (InBody program f) (UnderBody program f) (BackBody program f) scope e →
      ComesInOptional w e s p to → finds to.frames v ≡ None
  comes_optional_lone None scope p s to ok x = absurd x
  comes_optional_lone (Some e) scope p s to ok x = comes_in_lone e scope p s to ok x

  mutual
    pub comes_lone : (c : Statement) (scope : Scope) (p : Point) (s : Held) (to : Stand) →
        GoodRun (InBody program f) (UnderBody program f) (BackBody program f) scope c → Comes w c s p to →
        finds to.frames v ≡ None
    comes_lone (Do e) scope (Operand k ∷ p) s to ok x =
        comes_in_lone e scope p s to (good_do (InBody program f) (UnderBody program f) (BackBody program f) scope e
        ok) x
    comes_lone (Do e) scope (Own k ∷ p) s to ok (i, m, d, q) = at_here m to.frames q
    comes_lone (Declare y (Some e)) scope (Operand k ∷ p) s to ok x =
        comes_in_lone e scope p s to (good_declare (InBody program f) (UnderBody program f) (BackBody program f) scope
        y e ok).1 x
    comes_lone (Declare y (Some e)) scope (Own k ∷ p) s to ok (i, m, d, q) = at_here m to.frames q
    comes_lone (Fill site array es) scope (Operand k ∷ p) s to ok x =
        comes_at_lone es scope k p s to (good_fill (InBody program f) (UnderBody program f) (BackBody program f) scope
        site array es ok) x
    comes_lone (Fill site array es) scope (Own k ∷ p) s to ok (i, m, d, q) = at_here m to.frames q
    comes_lone (Block list) scope (Nth k ∷ p) s to ok x =
        among_lone list scope k p s to (good_block (InBody program f) (UnderBody program f) (BackBody program f) scope
        list ok) x
    comes_lone (If site t a b) scope (Tested ∷ p) s to ok x =
        comes_in_lone t scope p s to (good_if (InBody program f) (UnderBody program f) (BackBody program f) scope site
        t a b ok).1 x
    comes_lone (If site t a b) scope (Own k ∷ p) s to ok (i, m, d, q, val) = at_here m to.frames q
    comes_lone (If site t a b) scope (Chosen ∷ Nth k ∷ p) s to ok (i, m, d, x) =
        among_lone a scope k p m to (good_if (InBody program f) (UnderBody program f) (BackBody program f) scope site
        t a b ok).2 x
    comes_lone (If site t a b) scope (Other ∷ Nth k ∷ p) s to ok (i, m, d, x) =
        among_lone b scope k p m to (good_if (InBody program f) (UnderBody program f) (BackBody program f) scope site
        t a b ok).3 x
    comes_lone (Loop site first t st b) scope (Turn k ∷ Tested ∷ p) s to ok (m, h, x) =
        comes_optional_lone t scope p m to (good_loop (InBody program f) (UnderBody program f) (BackBody program f)
        scope site first t st b ok).1 x
    comes_lone (Loop site first t st b) scope (Turn k ∷ Own zero ∷ p) s to ok (m, n, h, y, q) = at_here n to.frames q
    comes_lone (Loop site first t st b) scope (Turn k ∷ Own (suc j) ∷ p) s to ok (m, h, q) = at_here m to.frames q
    comes_lone (Loop site first t st b) scope (Turn zero ∷ Step ∷ p) s to ok x = absurd x
    comes_lone (Loop site first t st b) scope (Turn (suc k) ∷ Step ∷ p) s to ok (m, a, n, h, e, go, x) =
        comes_optional_lone st scope p n to (good_loop (InBody program f) (UnderBody program f) (BackBody program f)
        scope site first t st b ok).2 x
    comes_lone (Loop site first t st b) scope (Turn zero ∷ Body ∷ p) s to ok x = absurd x
    comes_lone (Loop site first t st b) scope (Turn (suc k) ∷ Body ∷ p) s to ok (m, h, x) =
        comes_lone b scope p m to (good_loop (InBody program f) (UnderBody program f) (BackBody program f) scope site
        first t st b ok).3 x
    comes_lone (Switch site e arms) scope (Tested ∷ p) s to ok x =
        comes_in_lone e scope p s to (good_switch (InBody program f) (UnderBody program f) (BackBody program f) scope
        site e arms ok).1 x
    comes_lone (Switch site e arms) scope (Own zero ∷ p) s to ok (i, m, d, q, val) = at_here m to.frames q
    comes_lone (Switch site e arms) scope (Own (suc k) ∷ p) s to ok (i, m, n, d, x, q) = at_here n to.frames q
    comes_lone (Switch site e arms) scope (Arm j ∷ Nth k ∷ p) s to ok (i, m, n, d, r, x) =
        arm_lone arms j scope k p n to (good_switch (InBody program f) (UnderBody program f) (BackBody program f)
        scope site e arms ok).2 x
    comes_lone (Return site (Some e)) scope (Operand k ∷ p) s to ok x =
        comes_in_lone e scope p s to (good_return (InBody program f) (UnderBody program f) (BackBody program f) scope
        site e ok).1 x
    comes_lone (Return site (Some e)) scope (Own k ∷ p) s to ok (i, m, d, q) = at_here m to.frames q
    comes_lone c scope p s to ok x = at_here s to.frames x

    among_lone : (list : Statements) (scope : Scope) (k : ℕ) (p : Point) (s : Held) (to : Stand) →
        GoodList (InBody program f) (UnderBody program f) (BackBody program f) scope list →
        ComesAmong w list s k p to → finds to.frames v ≡ None
    among_lone empty scope k p s to ok x = absurd x
    among_lone (also c rest) scope zero p s to ok x =
        comes_lone c scope p s to (good_also (InBody program f) (UnderBody program f) (BackBody program f) scope c
        rest ok).0 x
    among_lone (also c rest) scope (suc k) p s to ok (m, e, x) =
        among_lone rest (scope_after scope c) k p m to (good_also (InBody program f) (UnderBody program f)
        (BackBody program f) scope c rest ok).1 x

    arm_lone : (arms : Arms) (j : ℕ) (scope : Scope) (k : ℕ) (p : Point) (s : Held) (to : Stand) →
        GoodArms (InBody program f) (UnderBody program f) (BackBody program f) scope arms →
        ComesArm w arms j s k p to → finds to.frames v ≡ None
    arm_lone no_arm j scope k p s to ok x = absurd x
    arm_lone (arm labels other' body rest) zero scope k p s to ok x =
        among_lone body scope k p s to (good_arm (InBody program f) (UnderBody program f) (BackBody program f) scope
        labels other' body rest ok).0 x
    arm_lone (arm labels other' body rest) (suc j) scope k p s to ok x =
        arm_lone rest j scope k p s to (good_arm (InBody program f) (UnderBody program f) (BackBody program f) scope
        labels other' body rest ok).1 x
