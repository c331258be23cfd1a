-- Two items that stand at one point behind a test or value that does not vary hold equal values of it.
use Rattle.std.proofs.Common.{◌≡◌, ℕ, zero, suc, ℤ, List, ◌∷◌, Option, Some, None, refl, sym, ◌∙◌, subst}
use Rattle.cl_model.specs.declared.program.Root.{Root}
use Rattle.cl_model.specs.Tree.{Expression, Apply, Update, Choose, Call, Expressions, none, more, Statement, Do}
use Rattle.cl_model.specs.Tree.{Declare, Fill, Block, If, Loop, Switch, Return, Statements, empty, also, Arms, no_arm}
use Rattle.cl_model.specs.Tree.{arm, Program}
use Rattle.cl_model.specs.Task.{Operand, Own, Tested, Chosen, Other, Nth, Turn, Body, Step, Arm, Into, Point}
use Rattle.cl_model.specs.Steps.{nth}
use Rattle.cl_model.specs.Valid.{Scope, scope_after}
use Rattle.cl_model.specs.Varying.{AVariable, AnExpression, Varies, passed}
use Rattle.cl_model.specs.Agreement.{Owned}
use Rattle.diverge_sound.specs.Tests.{TestIn, TestAmong, TestOptional, TestAt, TestInList, TestInArm}
use Rattle.diverge_sound.proofs.Points.{TwoPoints, body_alike, begun_alike, heads_alike, arm_starts_alike}
use Rattle.diverge_sound.proofs.Ran.{Stand, Held, Normal, Who, Found, ComesIn, ComesAt, ComesInOptional, Comes}
use Rattle.diverge_sound.proofs.Ran.{ComesAmong, ComesArm}
use Rattle.diverge_sound.proofs.Keeps.{gives, some_give, arms_give, quiet_if, quiet_loop, quiet_switch, quiet_block}
use Rattle.diverge_sound.proofs.Keeps.{quiet_also, quiet_arm}
use Rattle.diverge_sound.proofs.Parts.{Good, GoodAll, GoodOptional, GoodRun, GoodList, GoodArms, good_apply, good_more}
use Rattle.diverge_sound.proofs.Parts.{good_update, good_choose, good_call, good_do, good_declare, good_fill}
use Rattle.diverge_sound.proofs.Parts.{good_block, good_if, good_loop, good_switch, good_return, good_also, good_arm}
use Rattle.diverge_sound.proofs.Values.{InBody, UnderBody, BackBody, Alike, eval_alike, eval_all_alike, V}
use Rattle.diverge_sound.proofs.Endings.{Part, end_alike}

module _ (program : Program) (f : ℕ) (inside : ℕ → Point → Owned →
    Type 0) (w w' : Who) (t2 : TwoPoints program f inside w w') (tests : ℕ → Point → ℕ → Expression →
    Type 0) (hf : ℕ) (te : Expression) (nv : Varies program (AnExpression hf te) → ⊥)
    (points : (site g : ℕ) (roots : List (Option Root)) (es : Expressions) → InBody program f (Call site g roots es) →
    (args args' : List ℤ) (p : Point) (inner inner' : Stand) → ((n : ℕ) → (Varies program (AVariable g n) → ⊥) →
    nth args n ≡ nth args' n)
    → w.comes site g roots args p inner → w'.comes site g roots args' p inner' → tests g p hf te →
    inner.value ≡ inner'.value) where
  varies_not : (t : Expression) → f ≡ hf → t ≡ te → V program f t → ⊥
  varies_not t a b v =
      nv (subst (λ i. Varies program (AnExpression i te)) a (subst (λ x. Varies program (AnExpression f x)) b v))

  found_alike : (t : Option Expression) (scope : Scope) (g g' h h' : Held) (x x' : ℤ) →
      GoodOptional (InBody program f) (UnderBody program f) (BackBody program f) scope t →
      Alike program f scope g g' → Found w t g h x → Found w' t g' h' x' → f ≡ hf → t ≡ Some te → x ≡ x'
  found_alike None scope g g' h h' x x' ok al a b same q = cc q
  found_alike (Some e) scope g g' h h' x x' ok al a b same q = let z : e ≡ te =
      cc q in (eval_alike program f w w' t2.two e scope g g' x x' h h' ok al a b).1 (varies_not e same z)

  mutual
    test_in_alike : (e : Expression) (scope : Scope) (p : Point) (g g' : Held) (to to' : Stand) →
        Good (InBody program f) (UnderBody program f) (BackBody program f) scope e → Alike program f scope g g' →
        ComesIn w e g p to → ComesIn w' e g' p to'
        → TestIn tests f e p hf te → to.value ≡ to'.value
    test_in_alike (Apply action es) scope (Operand k ∷ p) g g' to to' ok al x x' =
        test_at_alike es scope k p g g' to to' (good_apply (InBody program f) (UnderBody program f)
        (BackBody program f) scope action es ok).1 al x x'
    test_in_alike (Apply action es) scope (Own k ∷ p) g g' to to' ok al (args, m, e, q) (args', m', e', q') =
        λ has. absurd has
    test_in_alike (Update site element root op of back old index value) scope (Operand zero ∷ p) g g' to to' ok al x
        x' =
        test_in_alike index scope p g g' to to' (good_update (InBody program f) (UnderBody program f)
        (BackBody program f) scope site element root op of back old index value ok).0 al x x'
    test_in_alike (Update site element root op of back old index value) scope (Operand (suc k) ∷ p) g g' to to' ok al
        (i, m, e, x) (i', m', e', x') =
        let o = good_update (InBody program f) (UnderBody program f) (BackBody program f) scope site element root op
        of back old index value ok in
        test_in_alike value scope p m m' to to' o.1 (eval_alike program f w w' t2.two index scope g g' i i' m m' o.0
        al e e').0 x x'
    test_in_alike (Update site element root op of back old index value) scope (Own zero ∷ p) g g' to to' ok al (
      i,
      m,
      e,
      q,
    ) (i', m', e', q') = λ has. absurd has
    test_in_alike (Update site element root op of back old index value) scope (Own (suc k) ∷ p) g g' to to' ok al (
      i,
      y,
      m,
      n,
      e,
      d,
      q,
    ) (i', y', m', n', e', d', q') = λ has. absurd has
    test_in_alike (Choose site t a b) scope (Tested ∷ p) g g' to to' ok al x x' =
        test_in_alike t scope p g g' to to' (good_choose (InBody program f) (UnderBody program f) (BackBody program f)
        scope site t a b ok).1 al x x'
    test_in_alike (Choose site t a b) scope (Own k ∷ p) g g' to to' ok al (i, m, e, q, val) (i', m', e', q', val') =
        λ has.
        let o = good_choose (InBody program f) (UnderBody program f) (BackBody program f) scope site t a b ok in
        val ∙ (eval_alike program f w w' t2.two t scope g g' i i' m m' o.1 al e e').1 (varies_not t has.0 has.1) ∙
        sym val'
    test_in_alike (Choose site t a b) scope (Chosen ∷ p) g g' to to' ok al (i, m, e, x) (i', m', e', x') =
        let o = good_choose (InBody program f) (UnderBody program f) (BackBody program f) scope site t a b ok in
        test_in_alike a scope p m m' to to' o.2 (eval_alike program f w w' t2.two t scope g g' i i' m m' o.1 al e
        e').0 x x'
    test_in_alike (Choose site t a b) scope (Other ∷ p) g g' to to' ok al (i, m, e, x) (i', m', e', x') =
        let o = good_choose (InBody program f) (UnderBody program f) (BackBody program f) scope site t a b ok in
        test_in_alike b scope p m m' to to' o.3 (eval_alike program f w w' t2.two t scope g g' i i' m m' o.1 al e
        e').0 x x'
    test_in_alike (Call site h roots es) scope (Operand k ∷ p) g g' to to' ok al x x' =
        test_at_alike es scope k p g g' to to' (good_call (InBody program f) (UnderBody program f)
        (BackBody program f) scope site h roots es ok).1 al x x'
    test_in_alike (Call site h roots es) scope (Own zero ∷ p) g g' to to' ok al (args, m, e, q) (args', m', e', q') =
        λ has. absurd has
    test_in_alike (Call site h roots es) scope (Own (suc k) ∷ p) g g' to to' ok al (args, m, top, e, y, q) (
      args',
      m',
      top',
      e',
      y',
      q',
    ) = λ has. absurd has
    test_in_alike (Call site h roots es) scope (Into ∷ p) g g' to to' ok al (args, m, inner, e, c, q) (
      args',
      m',
      inner',
      e',
      c',
      q',
    ) = λ has.
        let o = good_call (InBody program f) (UnderBody program f) (BackBody program f) scope site h roots es ok in
        let r = eval_all_alike program f w w' t2.two es scope g g' args args' m m' o.1 al e e' in
        points site h roots es o.0 args args' p (record { frames = inner; value = to.value })
        (record { frames = inner'; value = to'.value })
        (λ n y. r.1 n (λ d at vd. y (passed site roots es (t2.two.no_kernel site h roots es o.0) o.0 at vd))) c c'
        has
    test_in_alike e scope p g g' to to' ok al x x' = λ has. absurd has

    test_at_alike : (es : Expressions) (scope : Scope) (k : ℕ) (p : Point) (g g' : Held) (to to' : Stand) →
        GoodAll (InBody program f) (UnderBody program f) (BackBody program f) scope es → Alike program f scope g g' →
        ComesAt w es g k p to → ComesAt w' es g' k p to'
        → TestAmong tests f es k p hf te → to.value ≡ to'.value
    test_at_alike none scope k p g g' to to' ok al x x' = absurd x
    test_at_alike (more e rest) scope zero p g g' to to' ok al x x' =
        test_in_alike e scope p g g' to to' (good_more (InBody program f) (UnderBody program f) (BackBody program f)
        scope e rest ok).0 al x x'
    test_at_alike (more e rest) scope (suc k) p g g' to to' ok al (i, m, d, x) (i', m', d', x') =
        let o = good_more (InBody program f) (UnderBody program f) (BackBody program f) scope e rest ok in
        test_at_alike rest scope k p m m' to to' o.1 (eval_alike program f w w' t2.two e scope g g' i i' m m' o.0 al d
        d').0 x x'

  test_optional_alike : (e : Option Expression) (scope : Scope) (p : Point) (g g' : Held) (to to' : Stand) →
      GoodOptional (InBody program f) (UnderBody program f) (BackBody program f) scope e →
      Alike program f scope g g' → ComesInOptional w e g p to → ComesInOptional w' e g' p to'
      → TestOptional tests f e p hf te → to.value ≡ to'.value
  test_optional_alike None scope p g g' to to' ok al x x' = absurd x
  test_optional_alike (Some e) scope p g g' to to' ok al x x' = test_in_alike e scope p g g' to to' ok al x x'

  mutual
    pub test_alike : (s : Statement) (scope : Scope) (p : Point) (g g' : Held) (to to' : Stand) →
        GoodRun (InBody program f) (UnderBody program f) (BackBody program f) scope s → Part program f (gives s) →
        Alike program f scope g g' → Comes w s g p to → Comes w' s g' p to'
        → TestAt tests f s p hf te → to.value ≡ to'.value
    test_alike (Do e) scope (Operand k ∷ p) g g' to to' ok part al x x' =
        test_in_alike e scope p g g' to to' (good_do (InBody program f) (UnderBody program f) (BackBody program f)
        scope e ok) al x x'
    test_alike (Do e) scope (Own k ∷ p) g g' to to' ok part al (i, m, d, q) (i', m', d', q') = λ has. absurd has
    test_alike (Declare y (Some e)) scope (Operand k ∷ p) g g' to to' ok part al x x' =
        test_in_alike e scope p g g' to to' (good_declare (InBody program f) (UnderBody program f)
        (BackBody program f) scope y e ok).1 al x x'
    test_alike (Declare y (Some e)) scope (Own k ∷ p) g g' to to' ok part al (i, m, d, q) (i', m', d', q') =
        λ has. absurd has
    test_alike (Fill site array es) scope (Operand k ∷ p) g g' to to' ok part al x x' =
        test_at_alike es scope k p g g' to to' (good_fill (InBody program f) (UnderBody program f)
        (BackBody program f) scope site array es ok) al x x'
    test_alike (Fill site array es) scope (Own k ∷ p) g g' to to' ok part al (i, m, d, q) (i', m', d', q') =
        λ has. absurd has
    test_alike (Block list) scope (Nth k ∷ p) g g' to to' ok part al x x' =
        test_among_alike list scope k p g g' to to' (good_block (InBody program f) (UnderBody program f)
        (BackBody program f) scope list ok) (λ j un. quiet_block list j (part j un)) al x x'
    test_alike (If site t a b) scope (Tested ∷ p) g g' to to' ok part al x x' =
        test_in_alike t scope p g g' to to' (good_if (InBody program f) (UnderBody program f) (BackBody program f)
        scope site t a b ok).1 al x x'
    test_alike (If site t a b) scope (Own k ∷ p) g g' to to' ok part al (i, m, d, q, val) (i', m', d', q', val') =
        λ has.
        let o = good_if (InBody program f) (UnderBody program f) (BackBody program f) scope site t a b ok in
        val ∙ (eval_alike program f w w' t2.two t scope g g' i i' m m' o.1 al d d').1 (varies_not t has.0 has.1) ∙
        sym val'
    test_alike (If site t a b) scope (Chosen ∷ Nth k ∷ p) g g' to to' ok part al (i, m, d, x) (i', m', d', x') =
        let o = good_if (InBody program f) (UnderBody program f) (BackBody program f) scope site t a b ok in
        test_among_alike a scope k p m m' to to' o.2 (λ j un. (quiet_if site t a b j (part j un)).1)
        (eval_alike program f w w' t2.two t scope g g' i i' m m' o.1 al d d').0 x x'
    test_alike (If site t a b) scope (Other ∷ Nth k ∷ p) g g' to to' ok part al (i, m, d, x) (i', m', d', x') =
        let o = good_if (InBody program f) (UnderBody program f) (BackBody program f) scope site t a b ok in
        test_among_alike b scope k p m m' to to' o.3 (λ j un. (quiet_if site t a b j (part j un)).2)
        (eval_alike program f w w' t2.two t scope g g' i i' m m' o.1 al d d').0 x x'
    test_alike (Loop site first t st b) scope (Turn k ∷ Tested ∷ p) g g' to to' ok part al (m, h, x) (m', h', x') =
        test_optional_alike t scope p m m' to to' (good_loop (InBody program f) (UnderBody program f)
        (BackBody program f) scope site first t st b ok).1 (heads_alike program f inside w w' t2 site first t st
        b scope ok part k g g' m m' al h h') x x'
    test_alike (Loop site first t st b) scope (Turn k ∷ Own zero ∷ p) g g' to to' ok part al (m, n, h, s, q) (
      m',
      n',
      h',
      s',
      q',
    ) = λ has.
        let o = good_loop (InBody program f) (UnderBody program f) (BackBody program f) scope site first t st b ok in
        found_alike t scope m m' n n' to.value to'.value o.1 (heads_alike program f inside w w' t2 site first t st b
        scope ok part k g g' m m' al h h') s s' has.0 has.1
    test_alike (Loop site first t st b) scope (Turn k ∷ Own (suc j) ∷ p) g g' to to' ok part al (m, h, q) (
      m',
      h',
      q',
    ) = λ has. absurd has
    test_alike (Loop site first t st b) scope (Turn zero ∷ Step ∷ p) g g' to to' ok part al x x' = absurd x
    test_alike (Loop site first t st b) scope (Turn (suc k) ∷ Step ∷ p) g g' to to' ok part al (
      m,
      a,
      n,
      h,
      e,
      go,
      x,
    ) (m', a', n', h', e', go', x') =
        test_optional_alike st scope p n n' to to' (good_loop (InBody program f) (UnderBody program f)
        (BackBody program f) scope site first t st b ok).2
        (body_alike program f inside w w' t2 site first t st b scope ok part m m' n n' a a'
        (begun_alike program f inside w w' t2 site first t st b scope ok part k g g' m m' al h h') e e').0 x x'
    test_alike (Loop site first t st b) scope (Turn zero ∷ Body ∷ p) g g' to to' ok part al x x' = absurd x
    test_alike (Loop site first t st b) scope (Turn (suc k) ∷ Body ∷ p) g g' to to' ok part al (m, h, x) (m', h', x') =
        test_alike b scope p m m' to to' (good_loop (InBody program f) (UnderBody program f) (BackBody program f)
        scope site first t st b ok).3 (λ j un. (quiet_loop site first t st b j (part j un)).2)
        (begun_alike program f inside w w' t2 site first t st b scope ok part k g g' m m' al h h') x x'
    test_alike (Switch site e arms) scope (Tested ∷ p) g g' to to' ok part al x x' =
        test_in_alike e scope p g g' to to' (good_switch (InBody program f) (UnderBody program f) (BackBody program f)
        scope site e arms ok).1 al x x'
    test_alike (Switch site e arms) scope (Own zero ∷ p) g g' to to' ok part al (i, m, d, q, val) (
      i',
      m',
      d',
      q',
      val',
    ) = λ has.
        let o = good_switch (InBody program f) (UnderBody program f) (BackBody program f) scope site e arms ok in
        val ∙ (eval_alike program f w w' t2.two e scope g g' i i' m m' o.1 al d d').1 (varies_not e has.0 has.1) ∙
        sym val'
    test_alike (Switch site e arms) scope (Own (suc k) ∷ p) g g' to to' ok part al (i, m, n, d, x, q) (
      i',
      m',
      n',
      d',
      x',
      q',
    ) = λ has. absurd has
    test_alike (Switch site e arms) scope (Arm j ∷ Nth k ∷ p) g g' to to' ok part al (i, m, n, d, r, x) (
      i',
      m',
      n',
      d',
      r',
      x',
    ) =
        test_arm_alike arms j scope k p n n' to to' (good_switch (InBody program f) (UnderBody program f)
        (BackBody program f) scope site e arms ok).2 (λ l un. (quiet_switch site e arms l (part l un)).1)
        (arm_starts_alike program f inside w w' t2 site e arms scope ok part j i i' g g' m m' n n' al d d' r r') x x'
    test_alike (Return site (Some e)) scope (Operand k ∷ p) g g' to to' ok part al x x' =
        test_in_alike e scope p g g' to to' (good_return (InBody program f) (UnderBody program f) (BackBody program f)
        scope site e ok).1 al x x'
    test_alike (Return site (Some e)) scope (Own k ∷ p) g g' to to' ok part al (i, m, d, q) (i', m', d', q') =
        λ has. absurd has
    test_alike (Declare y None) scope (Operand k ∷ p) g g' to to' ok part al x x' = λ has. absurd has
    test_alike (Return site None) scope (Operand k ∷ p) g g' to to' ok part al x x' = λ has. absurd has
    test_alike s scope p g g' to to' ok part al x x' = λ has. absurd has

    test_among_alike : (list : Statements) (scope : Scope) (k : ℕ) (p : Point) (g g' : Held) (to to' : Stand) →
        GoodList (InBody program f) (UnderBody program f) (BackBody program f) scope list →
        Part program f (some_give list) → Alike program f scope g g'
        → ComesAmong w list g k p to → ComesAmong w' list g' k p to' → TestInList tests f list k p hf te →
        to.value ≡ to'.value
    test_among_alike empty scope k p g g' to to' ok part al x x' = absurd x
    test_among_alike (also s rest) scope zero p g g' to to' ok part al x x' =
        test_alike s scope p g g' to to' (good_also (InBody program f) (UnderBody program f) (BackBody program f)
        scope s rest ok).0 (λ j un. (quiet_also s rest j (part j un)).0) al x x'
    test_among_alike (also s rest) scope (suc k) p g g' to to' ok part al (m, e, x) (m', e', x') =
        let o = good_also (InBody program f) (UnderBody program f) (BackBody program f) scope s rest ok in
        test_among_alike rest (scope_after scope s) k p m m' to to' o.1 (λ j un. (quiet_also s rest j (part j un)).1)
        ((end_alike program f w w' t2.two s scope o.0 (λ j un. (quiet_also s rest j (part j un)).0) g g' m m' Normal
        Normal al e e').1 refl refl) x x'

    test_arm_alike : (arms : Arms) (j : ℕ) (scope : Scope) (k : ℕ) (p : Point) (g g' : Held) (to to' : Stand) →
        GoodArms (InBody program f) (UnderBody program f) (BackBody program f) scope arms →
        Part program f (arms_give arms) → Alike program f scope g g'
        → ComesArm w arms j g k p to → ComesArm w' arms j g' k p to' → TestInArm tests f arms j k p hf te →
        to.value ≡ to'.value
    test_arm_alike no_arm j scope k p g g' to to' ok part al x x' = absurd x
    test_arm_alike (arm labels other body rest) zero scope k p g g' to to' ok part al x x' =
        test_among_alike body scope k p g g' to to' (good_arm (InBody program f) (UnderBody program f)
        (BackBody program f) scope labels other body rest ok).0
        (λ i un. (quiet_arm labels other body rest i (part i un)).0) al x x'
    test_arm_alike (arm labels other body rest) (suc j) scope k p g g' to to' ok part al x x' =
        test_arm_alike rest j scope k p g g' to to' (good_arm (InBody program f) (UnderBody program f)
        (BackBody program f) scope labels other body rest ok).1
        (λ i un. (quiet_arm labels other body rest i (part i un)).1) al x x'
