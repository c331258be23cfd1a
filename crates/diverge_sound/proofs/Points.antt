-- Two items that began one statement of a function with variables that are alike, and stand at one point in it, hold
-- equal values of each variable in scope there that does not vary.
use Rattle.std.proofs.Common.{◌≡◌, ◌≢◌, ℕ, zero, suc, ℤ, Bool, true, false, cond, List, [], ◌∷◌, ◌++◌, Option, Some}
use Rattle.std.proofs.Common.{None, nat_eq, inl, inr, refl, sym, ap, ◌∙◌, subst}
use Rattle.std.proofs.lemmas.Bool.{eqb-true, eq-eqb}
use Rattle.std.proofs.lemmas.Option.{none-some}
use Rattle.cl_model.specs.declared.program.Root.{Root}
use Rattle.cl_model.specs.Tree.{Expression, Apply, Update, Choose, Call, Expressions, none, more, Statement, Do}
use Rattle.cl_model.specs.Tree.{Declare, Fill, Block, If, Loop, Switch, Break, Continue, Return, Barrier, Statements}
use Rattle.cl_model.specs.Tree.{empty, also, Arms, no_arm, arm, Program}
use Rattle.cl_model.specs.Task.{Operand, Own, Tested, Chosen, Other, Nth, Turn, Body, Step, Arm, Into, Point, Frame}
use Rattle.cl_model.specs.Steps.{nth}
use Rattle.cl_model.specs.Valid.{Scope, Has, scope_after}
use Rattle.cl_model.specs.Varying.{AVariable, Varies, passed}
use Rattle.cl_model.specs.Agreement.{Owned, owned_by, HasOwned, IsInScope, IsInScopeAmong, IsInScopeOptional}
use Rattle.cl_model.specs.Agreement.{IsInScopeAt, IsInScopeList, IsInScopeArm, held_in}
use Rattle.diverge_sound.proofs.Ran.{Stand, Held, Normal, Who, here, Eval, Steps, Found, Enters, Begun, Heads, Exec}
use Rattle.diverge_sound.proofs.Ran.{Reaches, entered, ComesIn, ComesAt, ComesInOptional, Comes, ComesAmong, ComesArm}
use Rattle.diverge_sound.proofs.Keeps.{Cell, gives, some_give, arms_give, quiet_if, quiet_loop, quiet_switch}
use Rattle.diverge_sound.proofs.Keeps.{quiet_block, quiet_also, quiet_arm, reaches_kept}
use Rattle.diverge_sound.proofs.Parts.{Good, GoodAll, GoodOptional, GoodRun, GoodList, GoodArms, good_apply, good_more}
use Rattle.diverge_sound.proofs.Parts.{good_update, good_choose, good_call, good_do, good_declare, good_fill}
use Rattle.diverge_sound.proofs.Parts.{good_block, good_if, good_loop, good_switch, good_return, good_also, good_arm}
use Rattle.diverge_sound.proofs.Parts.{switch_condition}
use Rattle.diverge_sound.proofs.Values.{InBody, UnderBody, BackBody, Alike, cond_gives, unassigned_under, moved_alike}
use Rattle.diverge_sound.proofs.Values.{Two, eval_alike, eval_all_alike, steps_alike, passes_alike}
use Rattle.diverge_sound.proofs.Endings.{same_entry, Part, split_alike, switch_quiet, EndAlike, rounds_alike}
use Rattle.diverge_sound.proofs.Endings.{end_alike, all_end_alike}

-- the value of a variable in the frames, where one of them is of its function
abbrev pub finds : List Frame → Owned → Option ℤ
finds [] v = None
finds (frame ∷ frames) v = cond (nat_eq frame.function v.function) (Some (frame.variables v.variable)) (finds frames v)

pub finds_before : (inner tail : List Frame) (v : Owned) (x : ℤ) → finds inner v ≡ Some x →
    finds (inner ++ tail) v ≡ Some x
finds_before [] tail v x h = absurd (none-some x h)
finds_before (frame ∷ inner) tail v x h =
    elim (nat_eq frame.function v.function) as (λ b. cond b (Some (frame.variables v.variable)) (finds inner v) ≡
    Some x → cond b (Some (frame.variables v.variable)) (finds (inner ++ tail) v) ≡ Some x) [
      | true ↦ λ h. h
      | false ↦ λ h. finds_before inner tail v x h
    ] h

pub finds_behind : (inner tail : List Frame) (v : Owned) → finds inner v ≡ None → finds (inner ++ tail) v ≡ finds tail v
finds_behind [] tail v h = refl
finds_behind (frame ∷ inner) tail v h =
    elim (nat_eq frame.function v.function) as (λ b. cond b (Some (frame.variables v.variable)) (finds inner v) ≡
    None → cond b (Some (frame.variables v.variable)) (finds (inner ++ tail) v) ≡ finds tail v) [
      | true ↦ λ h. absurd (none-some (frame.variables v.variable) (sym h))
      | false ↦ λ h. finds_behind inner tail v h
    ] h

pub finds_held : (frames : List Frame) (v : Owned) (x : ℤ) → finds frames v ≡ Some x → held_in frames v ≡ x
finds_held [] v x h = absurd (none-some x h)
finds_held (frame ∷ frames) v x h =
    elim (nat_eq frame.function v.function) as (λ b. cond b (Some (frame.variables v.variable)) (finds frames v) ≡
    Some x → cond b (frame.variables v.variable) (held_in frames v) ≡ x) [
      | true ↦ λ h. cc h
      | false ↦ λ h. finds_held frames v x h
    ] h

-- both find one value
abbrev pub FoundAlike : List Frame → List Frame → Owned → Type 0
FoundAlike to to' v = (x : ℤ) × (finds to v ≡ Some x) × (finds to' v ≡ Some x)

-- no value
abbrev nothing : Option ℤ
nothing = None

-- no frame is of the function
abbrev pub Without : ℕ → List Frame → Type 0
Without f frames = (v : Owned) → v.function ≡ f → finds frames v ≡ None

pub owned_has : (f : ℕ) (scope : Scope) (v : Owned) → HasOwned (owned_by f scope) v → (f ≡ v.function) ×
    Has scope v.variable
owned_has f [] v h = absurd h
owned_has f (x ∷ scope) v (inl e) = (e.0, inl e.1)
owned_has f (x ∷ scope) v (inr h) = let r = owned_has f scope v h in (r.0, inr r.1)

-- what is in scope behind a statement of a list
pub in_scope_after : (inside : ℕ → Point → Owned → Type 0) (f : ℕ) (scope : Scope) (s : Statement) (rest : Statements)
    (k : ℕ) (p : Point) (v : Owned)
    → IsInScopeList inside f (owned_by f scope) (also s rest) (suc k) p v →
    IsInScopeList inside f (owned_by f (scope_after scope s)) rest k p v
in_scope_after inside f scope (Declare x value) rest k p v h = h
in_scope_after inside f scope (Do e) rest k p v h = h
in_scope_after inside f scope (Fill site array values) rest k p v h = h
in_scope_after inside f scope (Block list) rest k p v h = h
in_scope_after inside f scope (If site test chosen other) rest k p v h = h
in_scope_after inside f scope (Loop site first test step body) rest k p v h = h
in_scope_after inside f scope (Switch site value arms) rest k p v h = h
in_scope_after inside f scope (Break site) rest k p v h = h
in_scope_after inside f scope (Continue site) rest k p v h = h
in_scope_after inside f scope (Return site value) rest k p v h = h
in_scope_after inside f scope (Barrier site) rest k p v h = h

pub found_steps : (u : Who) (e : Option Expression) (from to : Held) (x : ℤ) → Found u e from to x → Steps u e from to
found_steps u None from to x h = h
found_steps u (Some e) from to x h = (x, h)

module _ (program : Program) where
  abbrev pub VO : Owned → Type 0
  VO v = Varies program (AVariable v.function v.variable)

  -- of two items in one function: what stands in calls is alike, and their calls are of other functions
  pub record TwoPoints (f : ℕ) (inside : ℕ → Point → Owned → Type 0) (w w' : Who) : Type 0 where
    pub two : Two program f w w'
    pub mine : w.frame.function ≡ f
    pub mine' : w'.frame.function ≡ f
    pub other : (site g : ℕ) (roots : List (Option Root)) (es : Expressions) →
        InBody program f (Call site g roots es) → g ≢ f
    pub away : (site g : ℕ) (roots : List (Option Root)) (es : Expressions) →
        InBody program f (Call site g roots es) → (args : List ℤ) (p : Point) (inner : Stand) →
        w.comes site g roots args p inner → Without f inner.frames
    pub away' : (site g : ℕ) (roots : List (Option Root)) (es : Expressions) →
        InBody program f (Call site g roots es) → (args : List ℤ) (p : Point) (inner : Stand) →
        w'.comes site g roots args p inner → Without f inner.frames
    pub points : (site g : ℕ) (roots : List (Option Root)) (es : Expressions) →
        InBody program f (Call site g roots es) → (args args' : List ℤ) (p : Point) (inner inner' : Stand)
        → ((n : ℕ) → (Varies program (AVariable g n) → ⊥) → nth args n ≡ nth args' n) →
        w.comes site g roots args p inner → w'.comes site g roots args' p inner' → (v : Owned) → inside g p v →
        (VO v → ⊥) → FoundAlike inner.frames inner'.frames v

  module _ (f : ℕ) (inside : ℕ → Point → Owned → Type 0) (w w' : Who) (t2 : TwoPoints f inside w w') where
    finds_here : (u : Who) (g : Held) (v : Owned) → u.frame.function ≡ f → f ≡ v.function →
        finds (here u g) v ≡ Some (g.variables v.variable)
    finds_here u g v mine e =
        ap (λ b. cond b (Some (g.variables v.variable)) nothing) (eq-eqb u.frame.function v.function (mine ∙ e))

    alike_at : (scope : Scope) (g g' : Held) (v : Owned) → Alike program f scope g g' →
        HasOwned (owned_by f scope) v → (VO v → ⊥) → FoundAlike (here w g) (here w' g') v
    alike_at scope g g' v al has nv =
        let o = owned_has f scope v has in
        let same : g.variables v.variable ≡ g'.variables v.variable =
        al (Cell v.variable) o.1 (λ y. nv (subst (λ z. Varies program (AVariable z v.variable)) o.0 y)) in
        (g'.variables v.variable, finds_here w g v t2.mine o.0 ∙ ap Some same, finds_here w' g' v t2.mine' o.0)

    moved_found : (a b to to' : List Frame) (v : Owned) → to ≡ a → to' ≡ b → FoundAlike a b v → FoundAlike to to' v
    moved_found a b to to' v e e' (x, h, h') = (x, ap (λ z. finds z v) e ∙ h, ap (λ z. finds z v) e' ∙ h')

    at_here : (scope : Scope) (g g' : Held) (to to' : List Frame) (v : Owned) → Alike program f scope g g' →
        to ≡ here w g → to' ≡ here w' g' → HasOwned (owned_by f scope) v → (VO v → ⊥) → FoundAlike to to' v
    at_here scope g g' to to' v al e e' has nv =
        moved_found (here w g) (here w' g') to to' v e e' (alike_at scope g g' v al has nv)

    -- in a call: the caller's variables, behind frames of other functions
    at_call : (scope : Scope) (g g' : Held) (inner inner' to to' : List Frame) (v : Owned) →
        Alike program f scope g g' → Without f inner → Without f inner' → to ≡ inner ++ here w g →
        to' ≡ inner' ++ here w' g'
        → HasOwned (owned_by f scope) v → (VO v → ⊥) → FoundAlike to to' v
    at_call scope g g' inner inner' to to' v al lone lone' e e' has nv =
        let o = owned_has f scope v has in
        let r = alike_at scope g g' v al has nv in
        moved_found (inner ++ here w g) (inner' ++ here w' g') to to' v e e' (
          r.0,
          finds_behind inner (here w g) v (lone v (sym o.0)) ∙ r.1,
          finds_behind inner' (here w' g') v (lone' v (sym o.0)) ∙ r.2,
        )

    without_top : (top : Frame) (g : ℕ) → top.function ≡ g → g ≢ f → Without f (top ∷ [])
    without_top top g e ne v same =
        elim (nat_eq top.function v.function) as (λ b. nat_eq top.function v.function ≡ b →
        cond b (Some (top.variables v.variable)) nothing ≡ None) [
          | true ↦ λ q. absurd (ne (sym e ∙ eqb-true top.function v.function q ∙ same))
          | false ↦ λ q. refl
        ] refl

    mutual
      comes_in_alike : (e : Expression) (scope : Scope) (p : Point) (g g' : Held) (to to' : Stand) →
          Good (InBody program f) (UnderBody program f) (BackBody program f) scope e → Alike program f scope g g' →
          ComesIn w e g p to → ComesIn w' e g' p to'
          → (v : Owned) → IsInScope inside (owned_by f scope) e p v → (VO v → ⊥) → FoundAlike to.frames to'.frames v
      comes_in_alike (Apply action es) scope (Operand k ∷ p) g g' to to' ok al x x' =
          comes_at_alike es scope k p g g' to to' (good_apply (InBody program f) (UnderBody program f)
          (BackBody program f) scope action es ok).1 al x x'
      comes_in_alike (Apply action es) scope (Own k ∷ p) g g' to to' ok al (args, m, e, q) (args', m', e', q') =
          λ v has nv.
          let o = good_apply (InBody program f) (UnderBody program f) (BackBody program f) scope action es ok in
          at_here scope m m' to.frames to'.frames v (eval_all_alike program f w w' t2.two es scope g g' args args' m
          m' o.1 al e e').0 q q' has nv
      comes_in_alike (Update site element root op of back old index value) scope (Operand zero ∷ p) g g' to to' ok al
          x x' =
          comes_in_alike index scope p g g' to to' (good_update (InBody program f) (UnderBody program f)
          (BackBody program f) scope site element root op of back old index value ok).0 al x x'
      comes_in_alike (Update site element root op of back old index value) scope (Operand (suc k) ∷ p) g g' to to' ok
          al (i, m, e, x) (i', m', e', x') =
          let o = good_update (InBody program f) (UnderBody program f) (BackBody program f) scope site element root op
          of back old index value ok in
          comes_in_alike value scope p m m' to to' o.1 (eval_alike program f w w' t2.two index scope g g' i i' m m'
          o.0 al e e').0 x x'
      comes_in_alike (Update site element root op of back old index value) scope (Own zero ∷ p) g g' to to' ok al (
        i,
        m,
        e,
        q,
      ) (i', m', e', q') = λ v has nv.
          let o = good_update (InBody program f) (UnderBody program f) (BackBody program f) scope site element root op
          of back old index value ok in
          at_here scope m m' to.frames to'.frames v (eval_alike program f w w' t2.two index scope g g' i i' m m' o.0
          al e e').0 q q' has nv
      comes_in_alike (Update site element root op of back old index value) scope (Own (suc k) ∷ p) g g' to to' ok al
          (i, y, m, n, e, d, q) (i', y', m', n', e', d', q') = λ v has nv.
          let o = good_update (InBody program f) (UnderBody program f) (BackBody program f) scope site element root op
          of back old index value ok in
          let l = eval_alike program f w w' t2.two index scope g g' i i' m m' o.0 al e e' in
          at_here scope n n' to.frames to'.frames v (eval_alike program f w w' t2.two value scope m m' y y' n n' o.1
          l.0 d d').0 q q' has nv
      comes_in_alike (Choose site t a b) scope (Tested ∷ p) g g' to to' ok al x x' =
          comes_in_alike t scope p g g' to to' (good_choose (InBody program f) (UnderBody program f)
          (BackBody program f) scope site t a b ok).1 al x x'
      comes_in_alike (Choose site t a b) scope (Own k ∷ p) g g' to to' ok al (i, m, e, q, val) (
        i',
        m',
        e',
        q',
        val',
      ) = λ v has nv.
          let o = good_choose (InBody program f) (UnderBody program f) (BackBody program f) scope site t a b ok in
          at_here scope m m' to.frames to'.frames v (eval_alike program f w w' t2.two t scope g g' i i' m m' o.1 al e
          e').0 q q' has nv
      comes_in_alike (Choose site t a b) scope (Chosen ∷ p) g g' to to' ok al (i, m, e, x) (i', m', e', x') =
          let o = good_choose (InBody program f) (UnderBody program f) (BackBody program f) scope site t a b ok in
          comes_in_alike a scope p m m' to to' o.2 (eval_alike program f w w' t2.two t scope g g' i i' m m' o.1 al e
          e').0 x x'
      comes_in_alike (Choose site t a b) scope (Other ∷ p) g g' to to' ok al (i, m, e, x) (i', m', e', x') =
          let o = good_choose (InBody program f) (UnderBody program f) (BackBody program f) scope site t a b ok in
          comes_in_alike b scope p m m' to to' o.3 (eval_alike program f w w' t2.two t scope g g' i i' m m' o.1 al e
          e').0 x x'
      comes_in_alike (Call site h roots es) scope (Operand k ∷ p) g g' to to' ok al x x' =
          comes_at_alike es scope k p g g' to to' (good_call (InBody program f) (UnderBody program f)
          (BackBody program f) scope site h roots es ok).1 al x x'
      comes_in_alike (Call site h roots es) scope (Own zero ∷ p) g g' to to' ok al (args, m, e, q) (
        args',
        m',
        e',
        q',
      ) = λ v has nv.
          let o = good_call (InBody program f) (UnderBody program f) (BackBody program f) scope site h roots es ok in
          at_here scope m m' to.frames to'.frames v (eval_all_alike program f w w' t2.two es scope g g' args args' m
          m' o.1 al e e').0 q q' has nv
      comes_in_alike (Call site h roots es) scope (Own (suc k) ∷ p) g g' to to' ok al (args, m, top, e, y, q) (
        args',
        m',
        top',
        e',
        y',
        q',
      ) = λ v has nv.
          let o = good_call (InBody program f) (UnderBody program f) (BackBody program f) scope site h roots es ok in
          let ne = t2.other site h roots es o.0 in
          at_call scope m m' (top ∷ []) (top' ∷ []) to.frames to'.frames v
          (eval_all_alike program f w w' t2.two es scope g g' args args' m m' o.1 al e e').0
          (without_top top h y ne) (without_top top' h y' ne) q q' has nv
      comes_in_alike (Call site h roots es) scope (Into ∷ p) g g' to to' ok al (args, m, inner, e, c, q) (
        args',
        m',
        inner',
        e',
        c',
        q',
      ) = λ v has nv.
          let o = good_call (InBody program f) (UnderBody program f) (BackBody program f) scope site h roots es ok in
          let r = eval_all_alike program f w w' t2.two es scope g g' args args' m m' o.1 al e e' in
          elim has [
            | inl i ↦ at_call scope m m' inner inner' to.frames to'.frames v r.0
                (t2.away site h roots es o.0 args p (record { frames = inner; value = to.value }) c)
                (t2.away' site h roots es o.0 args' p (record { frames = inner'; value = to'.value }) c') q q' i nv
            | inr i ↦
                let z = t2.points site h roots es o.0 args args' p (record { frames = inner; value = to.value })
                (record { frames = inner'; value = to'.value })
                (λ n y. r.1 n (λ d at vd. y (passed site roots es (t2.two.no_kernel site h roots es o.0) o.0 at
                vd))) c c' v i nv in
                moved_found (inner ++ here w m) (inner' ++ here w' m') to.frames to'.frames v q q' (
                  z.0,
                  finds_before inner (here w m) v z.0 z.1,
                  finds_before inner' (here w' m') v z.0 z.2,
                )
          ]
      comes_in_alike e scope p g g' to to' ok al x x' =
          λ v has nv. at_here scope g g' to.frames to'.frames v al x x' has nv

      comes_at_alike : (es : Expressions) (scope : Scope) (k : ℕ) (p : Point) (g g' : Held) (to to' : Stand) →
          GoodAll (InBody program f) (UnderBody program f) (BackBody program f) scope es →
          Alike program f scope g g' → ComesAt w es g k p to → ComesAt w' es g' k p to'
          → (v : Owned) → IsInScopeAmong inside (owned_by f scope) es k p v → (VO v → ⊥) →
          FoundAlike to.frames to'.frames v
      comes_at_alike none scope k p g g' to to' ok al x x' = absurd x
      comes_at_alike (more e rest) scope zero p g g' to to' ok al x x' =
          comes_in_alike e scope p g g' to to' (good_more (InBody program f) (UnderBody program f)
          (BackBody program f) scope e rest ok).0 al x x'
      comes_at_alike (more e rest) scope (suc k) p g g' to to' ok al (i, m, d, x) (i', m', d', x') =
          let o = good_more (InBody program f) (UnderBody program f) (BackBody program f) scope e rest ok in
          comes_at_alike rest scope k p m m' to to' o.1 (eval_alike program f w w' t2.two e scope g g' i i' m m' o.0
          al d d').0 x x'

    comes_optional_alike : (e : Option Expression) (scope : Scope) (p : Point) (g g' : Held) (to to' : Stand) →
        GoodOptional (InBody program f) (UnderBody program f) (BackBody program f) scope e →
        Alike program f scope g g' → ComesInOptional w e g p to → ComesInOptional w' e g' p to'
        → (v : Owned) → IsInScopeOptional inside (owned_by f scope) e p v → (VO v → ⊥) →
        FoundAlike to.frames to'.frames v
    comes_optional_alike None scope p g g' to to' ok al x x' = absurd x
    comes_optional_alike (Some e) scope p g g' to to' ok al x x' = comes_in_alike e scope p g g' to to' ok al x x'

    -- the beginnings of iterations, and the tests behind as many
    module _ (site : ℕ) (first : Bool) (t st : Option Expression) (b : Statement) (scope : Scope)
        (ok : GoodRun (InBody program f) (UnderBody program f) (BackBody program f) scope (Loop site first t st b))
        (part : Part program f (gives (Loop site first t st b))) where
      pub body_alike : EndAlike program f w w' t2.two scope b
      body_alike = end_alike program f w w' t2.two b scope (good_loop (InBody program f) (UnderBody program f)
          (BackBody program f) scope site first t st b ok).3 (λ k un. (quiet_loop site first t st b k (part k un)).2)

      enters_alike : (one : Bool) (g g' h h' : Held) → Alike program f scope g g' → Enters w one t g h →
          Enters w' one t g' h' → Alike program f scope h h'
      enters_alike true g g' h h' al x x' =
          passes_alike program f w w' t2.two t scope g g' h h' (good_loop (InBody program f) (UnderBody program f)
          (BackBody program f) scope site first t st b ok).1 al x x'
      enters_alike false g g' h h' al x x' = moved_alike program f scope g g' h h' al x x'

      pub begun_alike : (k : ℕ) (g g' h h' : Held) → Alike program f scope g g' →
          Begun w first t st (Exec w b) k g h → Begun w' first t st (Exec w' b) k g' h' → Alike program f scope h h'
      begun_alike zero g g' h h' al x x' = enters_alike first g g' h h' al x x'
      begun_alike (suc k) g g' h h' al (start, mid, y, r, p) (start', mid', y', r', p') =
          passes_alike program f w w' t2.two t scope mid mid' h h' (good_loop (InBody program f) (UnderBody program f)
          (BackBody program f) scope site first t st b ok).1
          (rounds_alike program f w w' t2.two site first t st b scope ok part body_alike start start' mid mid'
          (begun_alike k g g' start start' al y y') r r') p p'

      pub heads_alike : (k : ℕ) (g g' h h' : Held) → Alike program f scope g g' →
          Heads w first t st (Exec w b) k g h → Heads w' first t st (Exec w' b) k g' h' → Alike program f scope h h'
      heads_alike zero g g' h h' al (x, e) (x', e') = moved_alike program f scope g g' h h' al e e'
      heads_alike (suc k) g g' h h' al (start, y, r) (start', y', r') =
          rounds_alike program f w w' t2.two site first t st b scope ok part body_alike start start' h h'
          (begun_alike k g g' start start' al y y') r r'

    -- the beginning of an arm
    reaches_alike : (arms : Arms) (j i : ℕ) (scope : Scope) →
        GoodArms (InBody program f) (UnderBody program f) (BackBody program f) scope arms →
        Part program f (arms_give arms) → (g g' h h' : Held) → Alike program f scope g g' → Reaches w arms j i g h →
        Reaches w' arms j i g' h' → Alike program f scope h h'
    reaches_alike no_arm j i scope ok part g g' h h' al x x' = absurd x
    reaches_alike (arm labels other body rest) zero zero scope ok part g g' h h' al x x' =
        moved_alike program f scope g g' h h' al x x'
    reaches_alike (arm labels other body rest) zero (suc i) scope ok part g g' h h' al (m, e, x) (m', e', x') =
        let o =
        good_arm (InBody program f) (UnderBody program f) (BackBody program f) scope labels other body rest ok in
        reaches_alike rest zero i scope o.1 (λ k un. (quiet_arm labels other body rest k (part k un)).1) m m' h h'
        (all_end_alike program f w w' t2.two body scope o.0
        (λ k un. (quiet_arm labels other body rest k (part k un)).0) g g' m m' Normal Normal al e e').0 x x'
    reaches_alike (arm labels other body rest) (suc j) zero scope ok part g g' h h' al x x' = absurd x
    reaches_alike (arm labels other body rest) (suc j) (suc i) scope ok part g g' h h' al x x' =
        reaches_alike rest j i scope (good_arm (InBody program f) (UnderBody program f) (BackBody program f) scope
        labels other body rest ok).1 (λ k un. (quiet_arm labels other body rest k (part k un)).1) g g' h h' al x
        x'

    -- two items that may have come to it from different entries
    pub arm_starts_alike : (site : ℕ) (e : Expression) (arms : Arms) (scope : Scope) →
        GoodRun (InBody program f) (UnderBody program f) (BackBody program f) scope (Switch site e arms) →
        Part program f (gives (Switch site e arms)) → (i : ℕ) (x x' : ℤ) (g g' m m' h h' : Held)
        → Alike program f scope g g' → Eval w e g x m → Eval w' e g' x' m' → Reaches w arms (entered x arms) i m h →
        Reaches w' arms (entered x' arms) i m' h' → Alike program f scope h h'
    arm_starts_alike site e arms scope ok part i x x' g g' m m' h h' al d d' r r' =
        let o = good_switch (InBody program f) (UnderBody program f) (BackBody program f) scope site e arms ok in
        let l = eval_alike program f w w' t2.two e scope g g' x x' m m' o.1 al d d' in
        elim (same_entry (entered x arms) (entered x' arms)) [
          | inl q ↦ reaches_alike arms (entered x arms) i scope o.2
              (λ k un. (quiet_switch site e arms k (part k un)).1) m m' h h' l.0 r
              (subst (λ j. Reaches w' arms j i m' h') (sym q) r')
          | inr ne ↦ split_alike program f scope (cond_gives program f (switch_condition scope e arms)) m m' h h'
              (λ k has nv on. ne (ap (λ z. entered z arms)
              (l.1 (λ y. let z = unassigned_under program f (switch_condition scope e arms) o.0 y k has nv in
              let q : true ≡ false = sym on ∙ z in cc))))
              (λ k has un. let q = switch_quiet program f scope e arms k un in (
                reaches_kept w arms (entered x arms) i scope m h k o.2.names has q r,
                reaches_kept w' arms (entered x' arms) i scope m' h' k o.2.names has q r',
              )) l.0
        ]

    mutual
      pub comes_alike : (s : Statement) (scope : Scope) (p : Point) (g g' : Held) (to to' : Stand) →
          GoodRun (InBody program f) (UnderBody program f) (BackBody program f) scope s → Part program f (gives s) →
          Alike program f scope g g' → Comes w s g p to → Comes w' s g' p to'
          → (v : Owned) → IsInScopeAt inside f (owned_by f scope) s p v → (VO v → ⊥) → FoundAlike to.frames to'.frames v
      comes_alike (Do e) scope (Operand k ∷ p) g g' to to' ok part al x x' =
          comes_in_alike e scope p g g' to to' (good_do (InBody program f) (UnderBody program f) (BackBody program f)
          scope e ok) al x x'
      comes_alike (Do e) scope (Own k ∷ p) g g' to to' ok part al (i, m, d, q) (i', m', d', q') = λ v has nv.
          at_here scope m m' to.frames to'.frames v (eval_alike program f w w' t2.two e scope g g' i i' m m'
          (good_do (InBody program f) (UnderBody program f) (BackBody program f) scope e ok) al d d').0 q q' has
          nv
      comes_alike (Declare y (Some e)) scope (Operand k ∷ p) g g' to to' ok part al x x' =
          comes_in_alike e scope p g g' to to' (good_declare (InBody program f) (UnderBody program f)
          (BackBody program f) scope y e ok).1 al x x'
      comes_alike (Declare y (Some e)) scope (Own k ∷ p) g g' to to' ok part al (i, m, d, q) (i', m', d', q') =
          λ v has nv.
          at_here scope m m' to.frames to'.frames v (eval_alike program f w w' t2.two e scope g g' i i' m m'
          (good_declare (InBody program f) (UnderBody program f) (BackBody program f) scope y e ok).1 al d d').0
          q q' has nv
      comes_alike (Fill site array es) scope (Operand k ∷ p) g g' to to' ok part al x x' =
          comes_at_alike es scope k p g g' to to' (good_fill (InBody program f) (UnderBody program f)
          (BackBody program f) scope site array es ok) al x x'
      comes_alike (Fill site array es) scope (Own k ∷ p) g g' to to' ok part al (i, m, d, q) (i', m', d', q') =
          λ v has nv.
          at_here scope m m' to.frames to'.frames v (eval_all_alike program f w w' t2.two es scope g g' i i' m m'
          (good_fill (InBody program f) (UnderBody program f) (BackBody program f) scope site array es ok) al d
          d').0 q q' has nv
      comes_alike (Block list) scope (Nth k ∷ p) g g' to to' ok part al x x' =
          among_alike list scope k p g g' to to' (good_block (InBody program f) (UnderBody program f)
          (BackBody program f) scope list ok) (λ j un. quiet_block list j (part j un)) al x x'
      comes_alike (If site t a b) scope (Tested ∷ p) g g' to to' ok part al x x' =
          comes_in_alike t scope p g g' to to' (good_if (InBody program f) (UnderBody program f) (BackBody program f)
          scope site t a b ok).1 al x x'
      comes_alike (If site t a b) scope (Own k ∷ p) g g' to to' ok part al (i, m, d, q, val) (i', m', d', q', val') =
          λ v has nv.
          at_here scope m m' to.frames to'.frames v (eval_alike program f w w' t2.two t scope g g' i i' m m'
          (good_if (InBody program f) (UnderBody program f) (BackBody program f) scope site t a b ok).1 al d
          d').0 q q' has nv
      comes_alike (If site t a b) scope (Chosen ∷ Nth k ∷ p) g g' to to' ok part al (i, m, d, x) (i', m', d', x') =
          let o = good_if (InBody program f) (UnderBody program f) (BackBody program f) scope site t a b ok in
          among_alike a scope k p m m' to to' o.2 (λ j un. (quiet_if site t a b j (part j un)).1)
          (eval_alike program f w w' t2.two t scope g g' i i' m m' o.1 al d d').0 x x'
      comes_alike (If site t a b) scope (Other ∷ Nth k ∷ p) g g' to to' ok part al (i, m, d, x) (i', m', d', x') =
          let o = good_if (InBody program f) (UnderBody program f) (BackBody program f) scope site t a b ok in
          among_alike b scope k p m m' to to' o.3 (λ j un. (quiet_if site t a b j (part j un)).2)
          (eval_alike program f w w' t2.two t scope g g' i i' m m' o.1 al d d').0 x x'
      comes_alike (Loop site first t st b) scope (Turn k ∷ Tested ∷ p) g g' to to' ok part al (m, h, x) (m', h', x') =
          comes_optional_alike t scope p m m' to to' (good_loop (InBody program f) (UnderBody program f)
          (BackBody program f) scope site first t st b ok).1 (heads_alike site first t st b scope ok part k g g'
          m m' al h h') x x'
      comes_alike (Loop site first t st b) scope (Turn k ∷ Own zero ∷ p) g g' to to' ok part al (m, n, h, s, q) (
        m',
        n',
        h',
        s',
        q',
      ) = λ v has nv.
          at_here scope n n' to.frames to'.frames v (steps_alike program f w w' t2.two t scope m m' n n'
          (good_loop (InBody program f) (UnderBody program f) (BackBody program f) scope site first t st b ok).1
          (heads_alike site first t st b scope ok part k g g' m m' al h h') (found_steps w t m n to.value s)
          (found_steps w' t m' n' to'.value s')) q q' has nv
      comes_alike (Loop site first t st b) scope (Turn k ∷ Own (suc j) ∷ p) g g' to to' ok part al (m, h, q) (
        m',
        h',
        q',
      ) = λ v has nv.
          at_here scope m m' to.frames to'.frames v (heads_alike site first t st b scope ok part k g g' m m' al h h')
          q q' has nv
      comes_alike (Loop site first t st b) scope (Turn zero ∷ Step ∷ p) g g' to to' ok part al x x' = absurd x
      comes_alike (Loop site first t st b) scope (Turn (suc k) ∷ Step ∷ p) g g' to to' ok part al (
        m,
        a,
        n,
        h,
        e,
        go,
        x,
      ) (m', a', n', h', e', go', x') =
          comes_optional_alike st scope p n n' to to' (good_loop (InBody program f) (UnderBody program f)
          (BackBody program f) scope site first t st b ok).2
          (body_alike site first t st b scope ok part m m' n n' a a' (begun_alike site first t st b scope ok part k g
          g' m m' al h h') e e').0 x x'
      comes_alike (Loop site first t st b) scope (Turn zero ∷ Body ∷ p) g g' to to' ok part al x x' = absurd x
      comes_alike (Loop site first t st b) scope (Turn (suc k) ∷ Body ∷ p) g g' to to' ok part al (m, h, x) (
        m',
        h',
        x',
      ) =
          comes_alike b scope p m m' to to' (good_loop (InBody program f) (UnderBody program f) (BackBody program f)
          scope site first t st b ok).3 (λ j un. (quiet_loop site first t st b j (part j un)).2)
          (begun_alike site first t st b scope ok part k g g' m m' al h h') x x'
      comes_alike (Switch site e arms) scope (Tested ∷ p) g g' to to' ok part al x x' =
          comes_in_alike e scope p g g' to to' (good_switch (InBody program f) (UnderBody program f)
          (BackBody program f) scope site e arms ok).1 al x x'
      comes_alike (Switch site e arms) scope (Own zero ∷ p) g g' to to' ok part al (i, m, d, q, val) (
        i',
        m',
        d',
        q',
        val',
      ) = λ v has nv.
          at_here scope m m' to.frames to'.frames v (eval_alike program f w w' t2.two e scope g g' i i' m m'
          (good_switch (InBody program f) (UnderBody program f) (BackBody program f) scope site e arms ok).1 al
          d d').0 q q' has nv
      comes_alike (Switch site e arms) scope (Own (suc k) ∷ p) g g' to to' ok part al (i, m, n, d, x, q) (
        i',
        m',
        n',
        d',
        x',
        q',
      ) = λ v has nv.
          at_here scope n n' to.frames to'.frames v (end_alike program f w w' t2.two (Switch site e arms) scope ok
          part g g' n n' Normal Normal al (i, m, Normal, d, x, refl) (i', m', Normal, d', x', refl)).0 q q' has nv
      comes_alike (Switch site e arms) scope (Arm j ∷ Nth k ∷ p) g g' to to' ok part al (i, m, n, d, r, x) (
        i',
        m',
        n',
        d',
        r',
        x',
      ) =
          arm_alike arms j scope k p n n' to to' (good_switch (InBody program f) (UnderBody program f)
          (BackBody program f) scope site e arms ok).2 (λ l un. (quiet_switch site e arms l (part l un)).1)
          (arm_starts_alike site e arms scope ok part j i i' g g' m m' n n' al d d' r r') x x'
      comes_alike (Return site (Some e)) scope (Operand k ∷ p) g g' to to' ok part al x x' =
          comes_in_alike e scope p g g' to to' (good_return (InBody program f) (UnderBody program f)
          (BackBody program f) scope site e ok).1 al x x'
      comes_alike (Return site (Some e)) scope (Own k ∷ p) g g' to to' ok part al (i, m, d, q) (i', m', d', q') =
          λ v has nv.
          at_here scope m m' to.frames to'.frames v (eval_alike program f w w' t2.two e scope g g' i i' m m'
          (good_return (InBody program f) (UnderBody program f) (BackBody program f) scope site e ok).1 al d
          d').0 q q' has nv
      comes_alike (Declare y None) scope (Operand k ∷ p) g g' to to' ok part al x x' =
          λ v has nv. at_here scope g g' to.frames to'.frames v al x x' has nv
      comes_alike (Return site None) scope (Operand k ∷ p) g g' to to' ok part al x x' =
          λ v has nv. at_here scope g g' to.frames to'.frames v al x x' has nv
      comes_alike s scope p g g' to to' ok part al x x' =
          λ v has nv. at_here scope g g' to.frames to'.frames v al x x' has nv

      among_alike : (list : Statements) (scope : Scope) (k : ℕ) (p : Point) (g g' : Held) (to to' : Stand) →
          GoodList (InBody program f) (UnderBody program f) (BackBody program f) scope list →
          Part program f (some_give list) → Alike program f scope g g'
          → ComesAmong w list g k p to → ComesAmong w' list g' k p to' → (v : Owned) →
          IsInScopeList inside f (owned_by f scope) list k p v → (VO v → ⊥) → FoundAlike to.frames to'.frames v
      among_alike empty scope k p g g' to to' ok part al x x' = absurd x
      among_alike (also s rest) scope zero p g g' to to' ok part al x x' =
          comes_alike s scope p g g' to to' (good_also (InBody program f) (UnderBody program f) (BackBody program f)
          scope s rest ok).0 (λ j un. (quiet_also s rest j (part j un)).0) al x x'
      among_alike (also s rest) scope (suc k) p g g' to to' ok part al (m, e, x) (m', e', x') = λ v has nv.
          let o = good_also (InBody program f) (UnderBody program f) (BackBody program f) scope s rest ok in
          among_alike rest (scope_after scope s) k p m m' to to' o.1 (λ j un. (quiet_also s rest j (part j un)).1)
          ((end_alike program f w w' t2.two s scope o.0 (λ j un. (quiet_also s rest j (part j un)).0) g g' m m' Normal
          Normal al e e').1 refl refl) x x' v (in_scope_after inside f scope s rest k p v has) nv

      arm_alike : (arms : Arms) (j : ℕ) (scope : Scope) (k : ℕ) (p : Point) (g g' : Held) (to to' : Stand) →
          GoodArms (InBody program f) (UnderBody program f) (BackBody program f) scope arms →
          Part program f (arms_give arms) → Alike program f scope g g'
          → ComesArm w arms j g k p to → ComesArm w' arms j g' k p to' → (v : Owned) →
          IsInScopeArm inside f (owned_by f scope) arms j k p v → (VO v → ⊥) → FoundAlike to.frames to'.frames v
      arm_alike no_arm j scope k p g g' to to' ok part al x x' = absurd x
      arm_alike (arm labels other body rest) zero scope k p g g' to to' ok part al x x' =
          among_alike body scope k p g g' to to' (good_arm (InBody program f) (UnderBody program f)
          (BackBody program f) scope labels other body rest ok).0
          (λ i un. (quiet_arm labels other body rest i (part i un)).0) al x x'
      arm_alike (arm labels other body rest) (suc j) scope k p g g' to to' ok part al x x' =
          arm_alike rest j scope k p g g' to to' (good_arm (InBody program f) (UnderBody program f)
          (BackBody program f) scope labels other body rest ok).1
          (λ i un. (quiet_arm labels other body rest i (part i un)).1) al x x'
