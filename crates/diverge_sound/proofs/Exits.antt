-- What ends by a way out holds one, and a function's body ends by none but a return.
use Rattle.std.proofs.Common.{◌≡◌, ◌≢◌, ℕ, zero, suc, Bool, true, false, Option, Some, None, ◌⊎◌, inl, inr, refl, sym}
use Rattle.std.proofs.Common.{◌∙◌, subst}
use Rattle.cl_model.specs.Tree.{Statement, Do, Declare, Fill, Block, If, Loop, Switch, Break, Continue, Return}
use Rattle.cl_model.specs.Tree.{Barrier, Statements, empty, also, Arms, no_arm, arm, Expression}
use Rattle.cl_model.specs.Valid.{ExitsFit, AllExitsFit, ArmsExitsFit}
use Rattle.cl_model.specs.Varying.{exits, some_exits, arms_exit, returns, some_returns, arms_return}
use Rattle.diverge_sound.proofs.Ran.{Held, How, Normal, Broke, Continued, Returned, Who, ExecRel, GoesOn, Stops}
use Rattle.diverge_sound.proofs.Ran.{switched, Iterates, Loops, Exec, ExecAll, ExecArms, entered}
use Rattle.diverge_sound.proofs.Keeps.{or_left, or_right}

pub stops_not_normal : (a how : How) → Stops a how → a ≢ Normal
stops_not_normal Normal how s = absurd s
stops_not_normal Broke how s = λ e. cc
stops_not_normal Continued how s = absurd s
stops_not_normal Returned how s = λ e. cc

pub stops_same : (a h k : How) → Stops a h → Stops a k → h ≡ k
stops_same Normal h k s t = absurd s
stops_same Broke h k s t = s ∙ sym t
stops_same Continued h k s t = absurd s
stops_same Returned h k s t = s ∙ sym t

pub stops_returned : (a how : How) → Stops a how → how ≡ Returned → a ≡ Returned
stops_returned Normal how s e = absurd s
stops_returned Broke how s e = cc
stops_returned Continued how s e = absurd s
stops_returned Returned how s e = refl

pub stops_goes : (a b how : How) → Stops a how → GoesOn b → a ≢ b
stops_goes Normal b how s g = absurd s
stops_goes Continued b how s g = absurd s
stops_goes Broke Normal how s g = λ e. cc
stops_goes Broke Continued how s g = λ e. cc
stops_goes Broke Broke how s g = absurd g
stops_goes Broke Returned how s g = absurd g
stops_goes Returned Normal how s g = λ e. cc
stops_goes Returned Continued how s g = λ e. cc
stops_goes Returned Broke how s g = absurd g
stops_goes Returned Returned how s g = absurd g

pub same_how : (a b : How) → (a ≡ b) ⊎ (a ≢ b)
same_how Normal Normal = inl refl
same_how Broke Broke = inl refl
same_how Continued Continued = inl refl
same_how Returned Returned = inl refl
same_how Normal Broke = inr (λ e. cc)
same_how Normal Continued = inr (λ e. cc)
same_how Normal Returned = inr (λ e. cc)
same_how Broke Normal = inr (λ e. cc)
same_how Broke Continued = inr (λ e. cc)
same_how Broke Returned = inr (λ e. cc)
same_how Continued Normal = inr (λ e. cc)
same_how Continued Broke = inr (λ e. cc)
same_how Continued Returned = inr (λ e. cc)
same_how Returned Normal = inr (λ e. cc)
same_how Returned Broke = inr (λ e. cc)
same_how Returned Continued = inr (λ e. cc)

pub switched_normal : (a how : How) → how ≡ switched a → how ≢ Normal → a ≢ Normal
switched_normal Normal how e ne = λ z. ne e
switched_normal Broke how e ne = λ z. ne e
switched_normal Continued how e ne = λ z. cc
switched_normal Returned how e ne = λ z. cc

pub switched_returned : (a how : How) → how ≡ switched a → how ≡ Returned → a ≡ Returned
switched_returned Normal how e r = cc
switched_returned Broke how e r = cc
switched_returned Continued how e r = cc
switched_returned Returned how e r = refl

module _ (w : Who) where
  iterates_escape : (t st : Option Expression) (E : ExecRel) (B : Type 0)
      (one : (from : Held) (how : How) (to : Held) → how ≢ Normal → E from how to →
      B) (n : ℕ) (from : Held) (how : How) (to : Held) → how ≢ Normal → Iterates w t st E n from how to → B
  iterates_escape t st E B one zero from how to ne h = absurd h
  iterates_escape t st E B one (suc n) from how to ne (inl (end, e, s)) = one from end to (stops_not_normal end how s) e
  iterates_escape t st E B one (suc n) from how to ne (inr (mid, r, inl (f, z))) = absurd (ne z)
  iterates_escape t st E B one (suc n) from how to ne (inr (mid, r, inr (next, p, i))) =
      iterates_escape t st E B one n next how to ne i

  pub loops_escape : (first : Bool) (t st : Option Expression) (E : ExecRel) (B : Type 0)
      (one : (from : Held) (how : How) (to : Held) → how ≢ Normal → E from how to →
      B) (from : Held) (how : How) (to : Held) → how ≢ Normal → Loops w first t st E from how to → B
  loops_escape true t st E B one from how to ne (inl (f, z)) = absurd (ne z)
  loops_escape true t st E B one from how to ne (inr (next, n, p, i)) = iterates_escape t st E B one n next how to ne i
  loops_escape false t st E B one from how to ne (n, i) = iterates_escape t st E B one n from how to ne i

  mutual
    pub escapes : (s : Statement) (from : Held) (how : How) (to : Held) → how ≢ Normal → Exec w s from how to →
        exits s ≡ true
    escapes (Do e) from how to ne (x, h, n) = absurd (ne n)
    escapes (Declare y None) from how to ne (n, is) = absurd (ne n)
    escapes (Declare y (Some e)) from how to ne (x, mid, h, n, is) = absurd (ne n)
    escapes (Fill site array es) from how to ne (args, h, n) = absurd (ne n)
    escapes (Block list) from how to ne h = all_escape list from how to ne h
    escapes (If site t a b) from how to ne (v, mid, h, inl (z, e)) =
        or_left (some_exits a) (some_exits b) (all_escape a mid how to ne e)
    escapes (If site t a b) from how to ne (v, mid, h, inr (z, e)) =
        or_right (some_exits a) (some_exits b) (all_escape b mid how to ne e)
    escapes (Loop site first t st b) from how to ne h =
        loops_escape first t st (Exec w b) (exits b ≡ true) (λ g a g' n e. escapes b g a g' n e) from how to ne h
    escapes (Switch site v arms) from how to ne (x, mid, end, h, e, is) =
        arms_escape arms (entered x arms) mid end to (switched_normal end how is ne) e
    escapes (Break site) from how to ne h = refl
    escapes (Continue site) from how to ne h = refl
    escapes (Return site value) from how to ne h = refl
    escapes (Barrier site) from how to ne (n, is) = absurd (ne n)

    pub all_escape : (list : Statements) (from : Held) (how : How) (to : Held) → how ≢ Normal →
        ExecAll w list from how to → some_exits list ≡ true
    all_escape empty from how to ne (n, is) = absurd (ne n)
    all_escape (also s rest) from how to ne (inl (mid, h, r)) =
        or_right (exits s) (some_exits rest) (all_escape rest mid how to ne r)
    all_escape (also s rest) from how to ne (inr (x, h)) =
        or_left (exits s) (some_exits rest) (escapes s from how to ne h)

    pub arms_escape : (arms : Arms) (k : ℕ) (from : Held) (how : How) (to : Held) → how ≢ Normal →
        ExecArms w arms k from how to → arms_exit arms ≡ true
    arms_escape no_arm k from how to ne (n, is) = absurd (ne n)
    arms_escape (arm labels other body rest) zero from how to ne (inl (mid, h, r)) =
        or_right (some_exits body) (arms_exit rest) (arms_escape rest zero mid how to ne r)
    arms_escape (arm labels other body rest) zero from how to ne (inr (x, h)) =
        or_left (some_exits body) (arms_exit rest) (all_escape body from how to ne h)
    arms_escape (arm labels other body rest) (suc k) from how to ne h =
        or_right (some_exits body) (arms_exit rest) (arms_escape rest k from how to ne h)

  iterates_return : (t st : Option Expression) (E : ExecRel) (B : Type 0) (one : (from : Held) (to : Held) →
      E from Returned to → B) (n : ℕ) (from : Held) (how : How) (to : Held) → how ≡ Returned →
      Iterates w t st E n from how to → B
  iterates_return t st E B one zero from how to r h = absurd h
  iterates_return t st E B one (suc n) from how to r (inl (end, e, s)) =
      one from to (subst (λ a. E from a to) (stops_returned end how s r) e)
  iterates_return t st E B one (suc n) from how to r (inr (mid, q, inl (f, z))) =
      absurd (let e : Normal ≡ Returned = sym z ∙ r in cc)
  iterates_return t st E B one (suc n) from how to r (inr (mid, q, inr (next, p, i))) =
      iterates_return t st E B one n next how to r i

  loops_return : (first : Bool) (t st : Option Expression) (E : ExecRel) (B : Type 0)
      (one : (from : Held) (to : Held) → E from Returned to → B) (from : Held) (how : How) (to : Held) →
      how ≡ Returned → Loops w first t st E from how to → B
  loops_return true t st E B one from how to r (inl (f, z)) = absurd (let e : Normal ≡ Returned = sym z ∙ r in cc)
  loops_return true t st E B one from how to r (inr (next, n, p, i)) = iterates_return t st E B one n next how to r i
  loops_return false t st E B one from how to r (n, i) = iterates_return t st E B one n from how to r i

  -- what returns holds a return
  mutual
    pub return_held : (s : Statement) (from : Held) (how : How) (to : Held) → how ≡ Returned → Exec w s from how to →
        returns s ≡ true
    return_held (Do e) from how to r (x, h, n) = absurd (let e : Normal ≡ Returned = sym n ∙ r in cc)
    return_held (Declare y None) from how to r (n, is) = absurd (let e : Normal ≡ Returned = sym n ∙ r in cc)
    return_held (Declare y (Some d)) from how to r (x, mid, h, n, is) =
        absurd (let e : Normal ≡ Returned = sym n ∙ r in cc)
    return_held (Fill site array es) from how to r (args, h, n) = absurd (let e : Normal ≡ Returned = sym n ∙ r in cc)
    return_held (Block list) from how to r h = all_return_held list from how to r h
    return_held (If site t a b) from how to r (v, mid, h, inl (z, e)) =
        or_left (some_returns a) (some_returns b) (all_return_held a mid how to r e)
    return_held (If site t a b) from how to r (v, mid, h, inr (z, e)) =
        or_right (some_returns a) (some_returns b) (all_return_held b mid how to r e)
    return_held (Loop site first t st b) from how to r h =
        loops_return first t st (Exec w b) (returns b ≡ true) (λ g g' e. return_held b g Returned g' refl e) from how
        to r h
    return_held (Switch site v arms) from how to r (x, mid, end, h, e, is) =
        arms_return_held arms (entered x arms) mid end to (switched_returned end how is r) e
    return_held (Break site) from how to r (n, is) = absurd (let e : Broke ≡ Returned = sym n ∙ r in cc)
    return_held (Continue site) from how to r (n, is) = absurd (let e : Continued ≡ Returned = sym n ∙ r in cc)
    return_held (Return site value) from how to r h = refl
    return_held (Barrier site) from how to r (n, is) = absurd (let e : Normal ≡ Returned = sym n ∙ r in cc)

    pub all_return_held : (list : Statements) (from : Held) (how : How) (to : Held) → how ≡ Returned →
        ExecAll w list from how to → some_returns list ≡ true
    all_return_held empty from how to r (n, is) = absurd (let e : Normal ≡ Returned = sym n ∙ r in cc)
    all_return_held (also s rest) from how to r (inl (mid, h, q)) =
        or_right (returns s) (some_returns rest) (all_return_held rest mid how to r q)
    all_return_held (also s rest) from how to r (inr (x, h)) =
        or_left (returns s) (some_returns rest) (return_held s from how to r h)

    arms_return_held : (arms : Arms) (k : ℕ) (from : Held) (how : How) (to : Held) → how ≡ Returned →
        ExecArms w arms k from how to → arms_return arms ≡ true
    arms_return_held no_arm k from how to r (n, is) = absurd (let e : Normal ≡ Returned = sym n ∙ r in cc)
    arms_return_held (arm labels other body rest) zero from how to r (inl (mid, h, q)) =
        or_right (some_returns body) (arms_return rest) (arms_return_held rest zero mid how to r q)
    arms_return_held (arm labels other body rest) zero from how to r (inr (x, h)) =
        or_left (some_returns body) (arms_return rest) (all_return_held body from how to r h)
    arms_return_held (arm labels other body rest) (suc k) from how to r h =
        or_right (some_returns body) (arms_return rest) (arms_return_held rest k from how to r h)

  -- what may leave where breaks and continues may stand
  abbrev pub Leaves : (in_loop in_either : Bool) → How → Type 0
  Leaves l b Normal = Unit {0}
  Leaves l b Broke = b ≡ true
  Leaves l b Continued = l ≡ true
  Leaves l b Returned = Unit {0}

  leaves_is : (l b : Bool) (a how : How) → how ≡ a → Leaves l b a → Leaves l b how
  leaves_is l b a how e h = subst (Leaves l b) (sym e) h

  stops_leave : (l b : Bool) (a how : How) → Stops a how → Leaves l b how
  stops_leave l b Normal how s = absurd s
  stops_leave l b Broke how s = leaves_is l b Normal how s tt
  stops_leave l b Continued how s = absurd s
  stops_leave l b Returned how s = leaves_is l b Returned how s tt

  switched_leave : (l b : Bool) (a how : How) → how ≡ switched a → Leaves l true a → Leaves l b how
  switched_leave l b Normal how e h = leaves_is l b Normal how e tt
  switched_leave l b Broke how e h = leaves_is l b Normal how e tt
  switched_leave l b Continued how e h = leaves_is l b Continued how e h
  switched_leave l b Returned how e h = leaves_is l b Returned how e tt

  iterates_leave : (l b : Bool) (t st : Option Expression) (E : ExecRel) (n : ℕ) (from : Held) (how : How)
      (to : Held) → Iterates w t st E n from how to → Leaves l b how
  iterates_leave l b t st E zero from how to h = absurd h
  iterates_leave l b t st E (suc n) from how to (inl (end, e, s)) = stops_leave l b end how s
  iterates_leave l b t st E (suc n) from how to (inr (mid, q, inl (f, z))) = leaves_is l b Normal how z tt
  iterates_leave l b t st E (suc n) from how to (inr (mid, q, inr (next, p, i))) =
      iterates_leave l b t st E n next how to i

  loops_leave : (l b first : Bool) (t st : Option Expression) (E : ExecRel) (from : Held) (how : How) (to : Held) →
      Loops w first t st E from how to → Leaves l b how
  loops_leave l b true t st E from how to (inl (f, z)) = leaves_is l b Normal how z tt
  loops_leave l b true t st E from how to (inr (next, n, p, i)) = iterates_leave l b t st E n next how to i
  loops_leave l b false t st E from how to (n, i) = iterates_leave l b t st E n from how to i

  mutual
    leaves : (l b : Bool) (s : Statement) (from : Held) (how : How) (to : Held) → ExitsFit l b s →
        Exec w s from how to → Leaves l b how
    leaves l b (Do e) from how to ok (x, h, n) = leaves_is l b Normal how n tt
    leaves l b (Declare y None) from how to ok (n, is) = leaves_is l b Normal how n tt
    leaves l b (Declare y (Some e)) from how to ok (x, mid, h, n, is) = leaves_is l b Normal how n tt
    leaves l b (Fill site array es) from how to ok (args, h, n) = leaves_is l b Normal how n tt
    leaves l b (Block list) from how to ok h = all_leave l b list from how to ok h
    leaves l b (If site t y n) from how to ok (v, mid, h, inl (z, e)) = all_leave l b y mid how to ok.0 e
    leaves l b (If site t y n) from how to ok (v, mid, h, inr (z, e)) = all_leave l b n mid how to ok.1 e
    leaves l b (Loop site first t st body) from how to ok h = loops_leave l b first t st (Exec w body) from how to h
    leaves l b (Switch site v arms) from how to ok (x, mid, end, h, e, is) =
        switched_leave l b end how is (arms_leave l true arms (entered x arms) mid end to ok e)
    leaves l b (Break site) from how to ok (n, is) = leaves_is l b Broke how n ok
    leaves l b (Continue site) from how to ok (n, is) = leaves_is l b Continued how n ok
    leaves l b (Return site None) from how to ok (n, is) = leaves_is l b Returned how n tt
    leaves l b (Return site (Some e)) from how to ok (x, mid, h, n, is) = leaves_is l b Returned how n tt
    leaves l b (Barrier site) from how to ok (n, is) = leaves_is l b Normal how n tt

    pub all_leave : (l b : Bool) (list : Statements) (from : Held) (how : How) (to : Held) → AllExitsFit l b list →
        ExecAll w list from how to → Leaves l b how
    all_leave l b empty from how to ok (n, is) = leaves_is l b Normal how n tt
    all_leave l b (also s rest) from how to ok (inl (mid, h, r)) = all_leave l b rest mid how to ok.1 r
    all_leave l b (also s rest) from how to ok (inr (x, h)) = leaves l b s from how to ok.0 h

    arms_leave : (l b : Bool) (arms : Arms) (k : ℕ) (from : Held) (how : How) (to : Held) → ArmsExitsFit l b arms →
        ExecArms w arms k from how to → Leaves l b how
    arms_leave l b no_arm k from how to ok (n, is) = leaves_is l b Normal how n tt
    arms_leave l b (arm labels other body rest) zero from how to ok (inl (mid, h, r)) =
        arms_leave l b rest zero mid how to ok.1 r
    arms_leave l b (arm labels other body rest) zero from how to ok (inr (x, h)) = all_leave l b body from how to ok.0 h
    arms_leave l b (arm labels other body rest) (suc k) from how to ok h = arms_leave l b rest k from how to ok.1 h
