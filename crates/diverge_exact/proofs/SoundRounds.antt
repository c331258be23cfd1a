-- What the analysis marks varies: rounds over statements, functions and the program.
use Rattle.std.proofs.Common.{◌≡◌, ℕ, zero, suc, ◌+◌, ◌<◌, ◌≤◌, length, Bool, true, false, ◌||◌, cond, List, [], ◌∷◌}
use Rattle.std.proofs.Common.{Option, Some, None, map, replicate, slice_get, unwrap_or, ◌⊎◌, inl, inr, refl, sym, ap}
use Rattle.std.proofs.Common.{◌∙◌, subst, arith}
use Rattle.std.proofs.Math.Nat.{eq-or-lt_of_le}
use Rattle.std.proofs.lemmas.Bool.{eq-eqb}
use Rattle.std.proofs.lemmas.Option.{none-some, same_Some}
use Rattle.cl_model.specs.Tree.{Expression, Apply, Second, Statement, Do, Declare, Fill, Block, If, Loop, Switch}
use Rattle.cl_model.specs.Tree.{Break, Continue, Return, Barrier, Statements, empty, also, Arms, no_arm, arm}
use Rattle.cl_model.specs.Tree.{Function, Program}
use Rattle.cl_model.specs.Calls.{function_at, no_function}
use Rattle.cl_model.specs.Valid.{Scope, Has, scope_after, numbers_below, IsValid}
use Rattle.cl_model.specs.Varying.{Condition, some_exits, arms_exit, exits, some_returns, some_assigns, AResult}
use Rattle.cl_model.specs.Varying.{Varies, operand, returning, assigned}
use Rattle.diverge.specs.declared.known.Entry.{Entry}
use Rattle.diverge.specs.declared.known.Ways.{Ways}
use Rattle.diverge.specs.Known as known
use Rattle.diverge.specs.Known.{State, variable_at, result_at, leave, leave_result}
use Rattle.diverge.specs.Known.{behind, joined}
use Rattle.diverge.specs.Rounds.{Seen, seen_in, seen_optional, unseen, closed, Gone, gone_over, gone_over_all}
use Rattle.diverge.specs.Rounds.{gone_over_arms, parameters_left, over_function, over_functions, round, rounds, start}
use Rattle.diverge.specs.Rounds.{start_row, known_of, round_limit}
use Rattle.diverge_sound.proofs.Keeps.{or_left, or_right, neither, Key, Answer, Cell, HasKey, gives_in, gives_among}
use Rattle.diverge_sound.proofs.Keeps.{gives_optional, gives, some_give, arms_give, quiet_if, quiet_loop, quiet_switch}
use Rattle.diverge_sound.proofs.Keeps.{quiet_do, quiet_declare, quiet_fill, quiet_block, quiet_return, quiet_also}
use Rattle.diverge_sound.proofs.Keeps.{quiet_arm, has_after}
use Rattle.diverge_sound.proofs.Parts.{GoodRun, GoodList, GoodArms, TurnUnder, good_do, good_declare, good_fill}
use Rattle.diverge_sound.proofs.Parts.{good_block, good_if, good_loop, good_switch, good_return, good_also, good_arm}
use Rattle.diverge_sound.proofs.Parts.{if_condition, turn_condition, switch_condition}
use Rattle.diverge_sound.proofs.Values.{InBody, UnderBody, BackBody, V, VKey, cond_gives}
use Rattle.diverge_sound.proofs.Endings.{Part}
use Rattle.diverge_sound.proofs.Nesting.{scoped_body}
use Rattle.diverge_exact.proofs.Slots.{slot, slot_in}
use Rattle.diverge_exact.proofs.Sound.{either, entry_some, IsSound, Exists, sound_change, SinceKept, since_same}
use Rattle.diverge_exact.proofs.Sound.{since_then, since_change, since_declared, fn, spot, Guarded, guarded_part}
use Rattle.diverge_exact.proofs.Sound.{guarded_on, under_guarded, assigned_sound, under_rule, Kept, kept_then}
use Rattle.diverge_exact.proofs.Sound.{seen_sound, among_sound, optional_sound, Escape, leave_sound, behind_escapes}
use Rattle.diverge_exact.proofs.Sound.{behind_guarded}

module _ (program : Program) (valid : IsValid program) (f : ℕ) where
  abbrev GR : Scope → Statement → Type 0
  GR = GoodRun (InBody program f) (UnderBody program f) (BackBody program f)

  abbrev pub GL : Scope → Statements → Type 0
  GL = GoodList (InBody program f) (UnderBody program f) (BackBody program f)

  abbrev GM : Scope → Arms → Type 0
  GM = GoodArms (InBody program f) (UnderBody program f) (BackBody program f)

  abbrev G : State → Scope → Option ℕ → (Key → Bool) → Type 0
  G = Guarded program valid f

  abbrev K : Scope → State → State → Type 0
  K = Kept program valid f

  abbrev pub own : Function
  own = fn program valid f

  if_quiet : (sc : Scope) (t : Expression) (a b : Statements) (k : Key) →
      cond_gives program f (if_condition sc t a b) k ≡ false → (some_give a k ≡ false) × (some_give b k ≡ false)
  if_quiet sc t a b Answer h = neither (some_returns a) (some_returns b) h
  if_quiet sc t a b (Cell x) h = neither (some_assigns a x) (some_assigns b x) h

  turn_quiet : (sc : Scope) (site : ℕ) (first : Bool) (t : Expression) (st : Option Expression) (b : Statement)
      (k : Key) → cond_gives program f (turn_condition sc t st b) k ≡ false →
      gives (Loop site first (Some t) st b) k ≡ false
  turn_quiet sc site first t st b Answer h = h
  turn_quiet sc site first t st b (Cell x) h = h

  switch_quiet : (sc : Scope) (v : Expression) (arms : Arms) (k : Key) →
      cond_gives program f (switch_condition sc v arms) k ≡ false → arms_give arms k ≡ false
  switch_quiet sc v arms Answer h = h
  switch_quiet sc v arms (Cell x) h = h

  -- under the test of a loop, where it has one
  loop_guarded : (s : State) (sc : Scope) (guard : Option ℕ) (site : ℕ) (first : Bool) (t st : Option Expression)
      (b : Statement) (varies : Bool) →
      TurnUnder (InBody program f) (UnderBody program f) (BackBody program f) sc t st b
      → ((x : Expression) → t ≡ Some x → varies ≡ true → V program f x) → (t ≡ None → varies ≡ false) →
      G s sc guard (gives (Loop site first t st b)) →
      G s sc (cond varies (Some site) guard) (gives (Loop site first t st b))
  loop_guarded s sc guard site first (Some t) st b varies u v none' g =
      under_guarded program valid f s sc guard (gives (Loop site first (Some t) st b))
      (gives (Loop site first (Some t) st b)) site varies (turn_condition sc t st b) u (λ k h. h) (v t refl)
      (turn_quiet sc site first t st b) (λ k h. h) g
  loop_guarded s sc guard site first None st b true u v none' g = cc (none' refl)
  loop_guarded s sc guard site first None st b false u v none' g = g

  loop_escapes : (sc : Scope) (t st : Option Expression) (b : Statement) (varies : Bool) (ways : Ways) →
      TurnUnder (InBody program f) (UnderBody program f) (BackBody program f) sc t st b →
      ((x : Expression) → t ≡ Some x → varies ≡ true → V program f x) → (t ≡ None → varies ≡ false)
      → (ways.exits ≡ true → exits b ≡ true) → (ways.escapes ≡ true → Escape program valid f sc) →
      (behind varies ways).escapes ≡ true → Escape program valid f sc
  loop_escapes sc (Some t) st b varies ways u v none' out inner h =
      behind_escapes program valid f sc (turn_condition sc t st b) varies ways u (λ k i. i) (v t refl) out inner h
  loop_escapes sc None st b true ways u v none' out inner h = cc (none' refl)
  loop_escapes sc None st b false ways u v none' out inner h = inner h

  -- at the end of a declaration's scope
  closed_sound : (sc : Scope) (x : Statement) (escapes : Bool) (s : State) → IsSound program s →
      (escapes ≡ true → Escape program valid f (scope_after sc x)) → (guard : Option ℕ) →
      K sc s (closed (spot program valid f guard) x escapes s)
  closed_sound sc (Declare y value) true s sound e guard =
      let r = leave_sound program valid f (y ∷ sc) (Cell y) s sound (e refl) (inl refl)
      (known.left (variable_at s f y)) refl in (
        r.0,
        since_change f sc f (Cell y) (known.left (variable_at s f y)) s
            (λ old at. ap (λ (o : Entry). o.since) (entry_some s f (Cell y) old at)),
      )
  closed_sound sc (Declare y value) false s sound e guard = (sound, since_same f sc s)
  closed_sound sc (Do x) true s sound e guard = (sound, since_same f sc s)
  closed_sound sc (Fill site array values) true s sound e guard = (sound, since_same f sc s)
  closed_sound sc (Block list) true s sound e guard = (sound, since_same f sc s)
  closed_sound sc (If site test chosen other) true s sound e guard = (sound, since_same f sc s)
  closed_sound sc (Loop site first test step body) true s sound e guard = (sound, since_same f sc s)
  closed_sound sc (Switch site value arms) true s sound e guard = (sound, since_same f sc s)
  closed_sound sc (Break site) true s sound e guard = (sound, since_same f sc s)
  closed_sound sc (Continue site) true s sound e guard = (sound, since_same f sc s)
  closed_sound sc (Return site value) true s sound e guard = (sound, since_same f sc s)
  closed_sound sc (Barrier site) true s sound e guard = (sound, since_same f sc s)
  closed_sound sc x false s sound e guard = (sound, since_same f sc s)

  -- what is in scope stays in scope behind a statement
  escape_before : (sc : Scope) (x : Statement) → Escape program valid f (scope_after sc x) → Escape program valid f sc
  escape_before sc x (c, u, v, out, inside) = (c, u, v, out, λ k h. inside k (has_after sc x k h))

  since_before : (sc : Scope) (x : Statement) (s t : State) → SinceKept f (scope_after sc x) s t → SinceKept f sc s t
  since_before sc x s t kept g k has e h = kept g k (λ q. has_after sc x k (has q)) e h

  quiet_some : (e : Expression) (k : Key) → gives_in e k ≡ false → gives_optional (Some e) k ≡ false
  quiet_some e Answer h = refl
  quiet_some e (Cell x) h = h

  quiet_none : (k : Key) → gives_optional None k ≡ false
  quiet_none Answer = refl
  quiet_none (Cell x) = refl

  abbrev Result : Scope → State → Gone → Bool → Type 0
  Result sc s r out =
      K sc s r.state × (r.ways.exits ≡ true → out ≡ true) × (r.ways.escapes ≡ true → Escape program valid f sc)

  declare_sound : (sc : Scope) (guard : Option ℕ) (y : ℕ) (v : Seen) → (Has sc y → ⊥) → IsSound program v.state →
      (v.varies ≡ true → VKey program f (Cell y)) →
      K sc v.state (known.declare (spot program valid f guard) y v.varies v.state)
  declare_sound sc guard y v ne sound value =
      let now : Entry = known.declared guard v.varies (variable_at v.state f y) in (
        sound_change program f (Cell y) now v.state sound
            (λ old at.
            let e : variable_at v.state f y ≡ old = entry_some v.state f (Cell y) old at in (
              λ h. elim (either old.varies v.varies (sym (ap (λ (x : Entry). x.varies || v.varies) e) ∙ h)) [
                | inl z ↦
                    (sound.0 f (Cell y) old at).0 z
                | inr z ↦ value z
              ],
              λ h. (sound.0 f (Cell y) old at).1 (sym (ap (λ (x : Entry). x.assigned) e) ∙ h),
            )),
        since_declared f sc y now v.state ne,
      )

  give_sound : (sc : Scope) (guard : Option ℕ) (v : Seen) (there : Key → Bool) → IsSound program v.state →
      G v.state sc guard there → there Answer ≡ true → Part program f there →
      (v.varies ≡ true → Varies program (AResult f)) →
      K sc v.state (known.give (spot program valid f guard) v.varies v.state)
  give_sound sc guard v there sound g on part value =
      let now : Entry = known.assigned guard v.varies (result_at v.state f) in (
        sound_change program f Answer now v.state sound (assigned_sound program valid f sc guard Answer v.varies
            v.state there sound g tt on part value (under_rule program valid f Answer) now refl),
        since_change f sc f Answer now v.state
            (λ old at. ap (λ (o : Entry). o.since) (entry_some v.state f Answer old at)),
      )

  mutual
    pub gone_sound : (x : Statement) (sc : Scope) (guard : Option ℕ) (s : State) → GR sc x →
        Part program f (gives x) → IsSound program s → G s sc guard (gives x) →
        Result sc s (gone_over own (spot program valid f guard) x s) (exits x)
    gone_sound (Do e) sc guard s ok part sound g =
        let r = seen_sound program valid f e sc guard s (good_do (InBody program f) (UnderBody program f)
        (BackBody program f) sc e ok) (λ k un. quiet_do e k (part k un)) sound
        (guarded_part program valid f s sc guard (gives (Do e)) (gives_in e) (quiet_do e) g) in
        (r.0, (λ h. cc h), λ h. cc h)
    gone_sound (Declare y None) sc guard s ok part sound g =
        (declare_sound sc guard y (unseen s) ok.names.0 sound (λ h. cc h), (λ h. cc h), λ h. cc h)
    gone_sound (Declare y (Some e)) sc guard s ok part sound g =
        let o = good_declare (InBody program f) (UnderBody program f) (BackBody program f) sc y e ok in
        let r = seen_sound program valid f e sc guard s o.1 (λ k un. quiet_declare y e k (part k un)) sound
        (guarded_part program valid f s sc guard (gives (Declare y (Some e))) (gives_in e) (quiet_declare y e) g) in
        let v = seen_in own (spot program valid f guard) e s in
        let d = declare_sound sc guard y v o.2 r.0.0
        (λ h. assigned o.0 (eq-eqb y y refl) (operand refl (inl refl) (r.1 h))) in (
          kept_then program valid f sc s v.state (known.declare (spot program valid f guard) y v.varies v.state) r.0 d,
          (λ h. cc h),
          λ h. cc h,
        )
    gone_sound (Fill site array es) sc guard s ok part sound g =
        let r = among_sound program valid f es sc guard false (unseen s) (Apply Second es)
        (good_fill (InBody program f) (UnderBody program f) (BackBody program f) sc site array es ok)
        (λ k un. quiet_fill site array es k (part k un)) sound
        (guarded_part program valid f s sc guard (gives (Fill site array es)) (gives_among es)
        (quiet_fill site array es) g) (λ _ h. cc h) (λ e c v. operand refl c v) in
        (r.0, (λ h. cc h), λ h. cc h)
    gone_sound (Block list) sc guard s ok part sound g =
        all_sound list sc guard s (good_block (InBody program f) (UnderBody program f) (BackBody program f) sc list
        ok) (λ k un. quiet_block list k (part k un)) sound
        (guarded_part program valid f s sc guard (gives (Block list)) (some_give list) (quiet_block list) g)
    gone_sound (If site t a b) sc guard s ok part sound g =
        let o = good_if (InBody program f) (UnderBody program f) (BackBody program f) sc site t a b ok in
        let quiet = quiet_if site t a b in
        let c : Condition = if_condition sc t a b in
        let x = seen_in own (spot program valid f guard) t s in
        let rt = seen_sound program valid f t sc guard s o.1 (λ k un. (quiet k (part k un)).0) sound
        (guarded_part program valid f s sc guard (gives (If site t a b)) (gives_in t) (λ k un. (quiet k un).0) g) in
        let g1 = guarded_on program valid f s x.state sc guard (gives (If site t a b)) rt.0.1 g in
        let inner : Option ℕ = cond x.varies (Some site) guard in
        let y = gone_over_all own (spot program valid f inner) a x.state in
        let z = gone_over_all own (spot program valid f inner) b y.state in
        let ra = all_sound a sc inner x.state o.2 (λ k un. (quiet k (part k un)).1) rt.0.0
        (under_guarded program valid f x.state sc guard (gives (If site t a b)) (some_give a) site x.varies c o.0
        (λ k h. h) rt.1 (λ k un. (if_quiet sc t a b k un).0) (λ k un. (quiet k un).1) g1) in
        let rb = all_sound b sc inner y.state o.3 (λ k un. (quiet k (part k un)).2) ra.0.0
        (guarded_on program valid f x.state y.state sc inner (some_give b) ra.0.1
        (under_guarded program valid f x.state sc guard (gives (If site t a b)) (some_give b) site x.varies c
        o.0 (λ k h. h) rt.1 (λ k un. (if_quiet sc t a b k un).1) (λ k un. (quiet k un).2) g1)) in
        let out : (joined y.ways z.ways).exits ≡ true → some_exits a || some_exits b ≡ true =
        λ h. elim (either y.ways.exits z.ways.exits h) [
          | inl q ↦
              or_left (some_exits a) (some_exits b) (ra.1 q)
          | inr q ↦
              or_right (some_exits a) (some_exits b) (rb.1 q)
        ] in (
          kept_then program valid f sc s x.state z.state rt.0 (kept_then program valid f sc x.state y.state z.state
              ra.0 rb.0),
          out,
          behind_escapes program valid f sc c x.varies (joined y.ways z.ways) o.0 (λ k h. h) rt.1 out
              (λ h. elim (either y.ways.escapes z.ways.escapes h) [ inl q ↦ ra.2 q | inr q ↦ rb.2 q ]),
        )
    gone_sound (Loop site first t st b) sc guard s ok part sound g =
        let o = good_loop (InBody program f) (UnderBody program f) (BackBody program f) sc site first t st b ok in
        let all : Key → Bool = gives (Loop site first t st b) in
        let quiet = quiet_loop site first t st b in
        let x = seen_optional own (spot program valid f guard) t s in
        let r1 = optional_sound program valid f t sc guard s o.1 (λ k un. (quiet k (part k un)).0) sound
        (guarded_part program valid f s sc guard all (gives_optional t) (λ k un. (quiet k un).0) g) in
        let inner : Option ℕ = cond x.varies (Some site) guard in
        let g1 : G x.state sc inner all =
        loop_guarded x.state sc guard site first t st b x.varies o.0 r1.1 r1.2
        (guarded_on program valid f s x.state sc guard all r1.0.1 g) in
        let x2 = seen_optional own (spot program valid f inner) t x.state in
        let r2 = optional_sound program valid f t sc inner x.state o.1 (λ k un. (quiet k (part k un)).0) r1.0.0
        (guarded_part program valid f x.state sc inner all (gives_optional t) (λ k un. (quiet k un).0) g1) in
        let g2 = guarded_on program valid f x.state x2.state sc inner all r2.0.1 g1 in
        let x3 = seen_optional own (spot program valid f inner) st x2.state in
        let r3 = optional_sound program valid f st sc inner x2.state o.2 (λ k un. (quiet k (part k un)).1) r2.0.0
        (guarded_part program valid f x2.state sc inner all (gives_optional st) (λ k un. (quiet k un).1) g2) in
        let g3 = guarded_on program valid f x2.state x3.state sc inner all r3.0.1 g2 in
        let y = gone_over own (spot program valid f inner) b x3.state in
        let r4 = gone_sound b sc inner x3.state o.3 (λ k un. (quiet k (part k un)).2) r3.0.0
        (guarded_part program valid f x3.state sc inner all (gives b) (λ k un. (quiet k un).2) g3) in (
          kept_then program valid f sc s x.state y.state r1.0 (kept_then program valid f sc x.state x2.state y.state
              r2.0 (kept_then program valid f sc x2.state x3.state y.state r3.0 r4.0)),
          r4.1,
          loop_escapes sc t st b x.varies y.ways o.0 r1.1 r1.2 r4.1 r4.2,
        )
    gone_sound (Switch site value arms) sc guard s ok part sound g =
        let o = good_switch (InBody program f) (UnderBody program f) (BackBody program f) sc site value arms ok in
        let quiet = quiet_switch site value arms in
        let c : Condition = switch_condition sc value arms in
        let x = seen_in own (spot program valid f guard) value s in
        let rt = seen_sound program valid f value sc guard s o.1 (λ k un. (quiet k (part k un)).0) sound
        (guarded_part program valid f s sc guard (gives (Switch site value arms)) (gives_in value)
        (λ k un. (quiet k un).0) g) in
        let inner : Option ℕ = cond x.varies (Some site) guard in
        let y = gone_over_arms own (spot program valid f inner) arms x.state in
        let ra = arms_sound arms sc inner x.state o.2 (λ k un. (quiet k (part k un)).1) rt.0.0
        (under_guarded program valid f x.state sc guard (gives (Switch site value arms)) (arms_give arms) site
        x.varies c o.0 (λ k h. h) rt.1 (switch_quiet sc value arms) (λ k un. (quiet k un).1)
        (guarded_on program valid f s x.state sc guard (gives (Switch site value arms)) rt.0.1 g)) in (
          kept_then program valid f sc s x.state y.state rt.0 ra.0,
          ra.1,
          behind_escapes program valid f sc c x.varies y.ways o.0 (λ k h. h) rt.1 ra.1 ra.2,
        )
    gone_sound (Break site) sc guard s ok part sound g = ((sound, since_same f sc s), (λ h. refl), λ h. cc h)
    gone_sound (Continue site) sc guard s ok part sound g = ((sound, since_same f sc s), (λ h. refl), λ h. cc h)
    gone_sound (Return site None) sc guard s ok part sound g = (
      give_sound sc guard (unseen s) (gives (Return site None)) sound g refl part (λ h. cc h),
      (λ h. refl),
      λ h. cc h,
    )
    gone_sound (Return site (Some e)) sc guard s ok part sound g =
        let o = good_return (InBody program f) (UnderBody program f) (BackBody program f) sc site e ok in
        let v = seen_in own (spot program valid f guard) e s in
        let r = seen_sound program valid f e sc guard s o.1 (λ k un. quiet_return site e k (part k un)) sound
        (guarded_part program valid f s sc guard (gives (Return site (Some e))) (gives_in e) (quiet_return site e)
        g) in
        let d = give_sound sc guard v (gives (Return site (Some e))) r.0.0
        (guarded_on program valid f s v.state sc guard (gives (Return site (Some e))) r.0.1 g) refl part
        (λ h. returning o.0 (r.1 h)) in (
          kept_then program valid f sc s v.state (known.give (spot program valid f guard) v.varies v.state) r.0 d,
          (λ h. refl),
          λ h. cc h,
        )
    gone_sound (Barrier site) sc guard s ok part sound g = ((sound, since_same f sc s), (λ h. cc h), λ h. cc h)

    pub all_sound : (list : Statements) (sc : Scope) (guard : Option ℕ) (s : State) → GL sc list →
        Part program f (some_give list) → IsSound program s → G s sc guard (some_give list) →
        Result sc s (gone_over_all own (spot program valid f guard) list s) (some_exits list)
    all_sound empty sc guard s ok part sound g = ((sound, since_same f sc s), (λ h. cc h), λ h. cc h)
    all_sound (also x rest) sc guard s ok part sound g =
        let o = good_also (InBody program f) (UnderBody program f) (BackBody program f) sc x rest ok in
        let a = gone_over own (spot program valid f guard) x s in
        let ra = gone_sound x sc guard s o.0 (λ k un. (quiet_also x rest k (part k un)).0) sound
        (guarded_part program valid f s sc guard (some_give (also x rest)) (gives x)
        (λ k un. (quiet_also x rest k un).0) g) in
        let b = gone_over_all own (spot program valid f guard) rest a.state in
        let rb =
        all_sound rest (scope_after sc x) guard a.state o.1 (λ k un. (quiet_also x rest k (part k un)).1) ra.0.0
        (behind_guarded program valid f x sc guard s (some_give rest) ra.0.1
        (guarded_part program valid f s sc guard (some_give (also x rest)) (some_give rest)
        (λ k un. (quiet_also x rest k un).1) g)) in
        let t = closed (spot program valid f guard) x b.ways.escapes b.state in
        let rc = closed_sound sc x b.ways.escapes b.state rb.0.0 rb.2 guard in (
          (
            rc.0,
            since_then f sc s a.state t ra.0.1
                (since_then f sc a.state b.state t (since_before sc x a.state b.state rb.0.1) rc.1),
          ),
          (λ h. elim (either b.ways.exits a.ways.exits h) [
            | inl q ↦
                or_right (exits x) (some_exits rest) (rb.1 q)
            | inr q ↦
                or_left (exits x) (some_exits rest) (ra.1 q)
          ]),
          λ h. elim (either b.ways.escapes a.ways.escapes h) [ inl q ↦ escape_before sc x (rb.2 q) | inr q ↦ ra.2 q ],
        )

    arms_sound : (arms : Arms) (sc : Scope) (guard : Option ℕ) (s : State) → GM sc arms →
        Part program f (arms_give arms) → IsSound program s → G s sc guard (arms_give arms) →
        Result sc s (gone_over_arms own (spot program valid f guard) arms s) (arms_exit arms)
    arms_sound no_arm sc guard s ok part sound g = ((sound, since_same f sc s), (λ h. cc h), λ h. cc h)
    arms_sound (arm labels other body rest) sc guard s ok part sound g =
        let o = good_arm (InBody program f) (UnderBody program f) (BackBody program f) sc labels other body rest ok in
        let a = gone_over_all own (spot program valid f guard) body s in
        let ra = all_sound body sc guard s o.0 (λ k un. (quiet_arm labels other body rest k (part k un)).0) sound
        (guarded_part program valid f s sc guard (arms_give (arm labels other body rest)) (some_give body)
        (λ k un. (quiet_arm labels other body rest k un).0) g) in
        let b = gone_over_arms own (spot program valid f guard) rest a.state in
        let rb =
        arms_sound rest sc guard a.state o.1 (λ k un. (quiet_arm labels other body rest k (part k un)).1) ra.0.0
        (guarded_on program valid f s a.state sc guard (arms_give rest) ra.0.1
        (guarded_part program valid f s sc guard (arms_give (arm labels other body rest)) (arms_give rest)
        (λ k un. (quiet_arm labels other body rest k un).1) g)) in (
          kept_then program valid f sc s a.state b.state ra.0 rb.0,
          (λ h. elim (either b.ways.exits a.ways.exits h) [
            | inl q ↦
                or_right (some_exits body) (arms_exit rest) (rb.1 q)
            | inr q ↦
                or_left (some_exits body) (arms_exit rest) (ra.1 q)
          ]),
          λ h. elim (either b.ways.escapes a.ways.escapes h) [ inl q ↦ rb.2 q | inr q ↦ ra.2 q ],
        )

  -- the function as a whole

  abbrev pub scope_of : Scope
  scope_of = numbers_below own.parameters

  pub good_body : GL scope_of own.body
  good_body = record { parts = λ a m. m; under = λ a m. m; back = λ a m. m; names = scoped_body program valid f }

  at_or_below : (n m : ℕ) → n ≤ m → (n ≡ m) ⊎ (n < m)
  at_or_below n m le = eq-or-lt_of_le le

  -- the first parameters
  pub has_lower : (n m : ℕ) → n < m → Has (numbers_below m) n
  has_lower n zero lt = absurd (omega (arith, lt))
  has_lower n (suc m) lt =
      elim (at_or_below n m (omega (arith, lt))) [ inl e ↦ inl (sym e) | inr l ↦ inr (has_lower n m l) ]

  parameters_sound : (n : ℕ) (s : State) → n ≤ own.parameters → IsSound program s → Escape program valid f scope_of →
      K scope_of s (parameters_left f n s)
  parameters_sound zero s le sound e = (sound, since_same f scope_of s)
  parameters_sound (suc n) s le sound e =
      let r = parameters_sound n s (omega (arith, le)) sound e in
      let t = parameters_left f n s in
      let z = leave_sound program valid f scope_of (Cell n) t r.0 e (has_lower n own.parameters (omega (arith, le)))
      (known.left (variable_at t f n)) refl in
      kept_then program valid f scope_of s t (leave f n t) r z

  pub function_sound : (s : State) → IsSound program s → G s scope_of None (some_give own.body) →
      K scope_of s (over_function program.kernel f own s)
  function_sound s sound g =
      let b = gone_over_all own (spot program valid f None) own.body s in
      let r = all_sound own.body scope_of None s good_body (λ k un. un) sound g in
      by_escapes b.state b.ways.escapes r.0 r.2
    where
      by_escapes : (t : State) (b : Bool) → K scope_of s t → (b ≡ true → Escape program valid f scope_of) →
          K scope_of s (cond b (leave_result f (parameters_left f own.parameters t)) t)
      by_escapes t false k e = k
      by_escapes t true k e =
          let p = parameters_sound own.parameters t (omega arith) k.0 (e refl) in
          let u = parameters_left f own.parameters t in
          let z = leave_sound program valid f scope_of Answer u p.0 (e refl) tt (known.left (result_at u f)) refl in
          kept_then program valid f scope_of s t (leave_result f u) k
          (kept_then program valid f scope_of t u (leave_result f u) p z)

-- parameters and results were declared under no condition
abbrev pub Open : Program → State → Type 0
Open program s = (g : ℕ) (k : Key) → HasKey (numbers_below (function_at program g).parameters) k → (e : Entry) →
    slot s g k ≡ Some e → e.since ≡ None

module _ (program : Program) (valid : IsValid program) where
  abbrev pub Fine : State → Type 0
  Fine s = IsSound program s × Open program s

  pub function_fine : (f : ℕ) (s : State) → Fine s → Fine (over_function program.kernel f (function_at program f) s)
  function_fine f s (sound, open') =
      let r = function_sound program valid f s sound (λ k has e h. inl (open' f k has e h)) in (
        r.0,
        λ g k has e h.
            let (old, at, same) =
            r.1 g k (λ q. subst (λ i. HasKey (numbers_below (function_at program i).parameters) k) q has) e h in
            same ∙ open' g k has old at,
      )

  functions_fine : (list : List Function) (f : ℕ) → ((j : ℕ) (c : Function) → slice_get list j ≡ Some c →
      function_at program (f + j) ≡ c) → (s : State) → Fine s → Fine (over_functions program.kernel f list s)
  functions_fine [] f is s fine = fine
  functions_fine (c ∷ rest) f is s fine =
      let z : f + 0 ≡ f = omega arith in
      let here : function_at program f ≡ c = ap (function_at program) (sym z) ∙ is 0 c refl in
      functions_fine rest (suc f) (λ j d h. let q : suc f + j ≡ f + suc j = omega arith in
      ap (function_at program) q ∙ is (suc j) d h) (over_function program.kernel f c s)
      (subst (λ d. Fine (over_function program.kernel f d s)) here (function_fine f s fine))

  pub round_fine : (s : State) → Fine s → Fine (round program s)
  round_fine s fine = functions_fine program.functions 0 (λ j c h. let z : 0 + j ≡ j = omega arith in
      ap (function_at program) z ∙ ap (λ o. unwrap_or o no_function) h) (record { rows = s.rows; grew = false }) fine

  pub rounds_fine : (limit : ℕ) (s : State) → Fine s → Fine (rounds program limit s)
  rounds_fine zero s fine = fine
  rounds_fine (suc limit) s fine =
      let t = round program s in
      let again = round_fine s fine in
      one t.grew (rounds program limit t) t (rounds_fine limit t again) again
    where
      one : (b : Bool) (s t : State) → Fine s → Fine t → Fine (cond b s t)
      one true s t h g = h
      one false s t h g = g

  -- at first nothing varies

  fresh_in : (n x : ℕ) (e : Entry) → slice_get (replicate n known.fresh) x ≡ Some e → known.fresh ≡ e
  fresh_in zero x e h = absurd (none-some e h)
  fresh_in (suc n) zero e h = same_Some known.fresh e h
  fresh_in (suc n) (suc x) e h = fresh_in n x e h

  fresh_there : (n x : ℕ) → x < n → slice_get (replicate n known.fresh) x ≡ Some known.fresh
  fresh_there zero x lt = absurd (omega (arith, lt))
  fresh_there (suc n) zero lt = refl
  fresh_there (suc n) (suc x) lt = fresh_there n x (omega (arith, lt))

  start_slot : (list : List Function) (g : ℕ) (k : Key) (e : Entry) →
      slot_in (slice_get (map start_row list) g) k ≡ Some e → known.fresh ≡ e
  start_slot [] g k e h = absurd (none-some e h)
  start_slot (d ∷ list) zero Answer e h = same_Some known.fresh e h
  start_slot (d ∷ list) zero (Cell x) e h = fresh_in (length d.variables) x e h
  start_slot (d ∷ list) (suc g) k e h = start_slot list g k e h

  start_there : (list : List Function) (g : ℕ) (k : Key) → g < length list →
      ((x : ℕ) → k ≡ Cell x → x < length (unwrap_or (slice_get list g) no_function).variables) →
      slot_in (slice_get (map start_row list) g) k ≡ Some known.fresh
  start_there [] g k lt within = absurd (omega (arith, lt))
  start_there (d ∷ list) zero Answer lt within = refl
  start_there (d ∷ list) zero (Cell x) lt within = fresh_there (length d.variables) x (within x refl)
  start_there (d ∷ list) (suc g) k lt within = start_there list g k (omega (arith, lt)) within

  pub start_fine : Fine (start program)
  start_fine = (
    (
      (λ g k e h. let q = start_slot program.functions g k e h in (
        (λ v. absurd (let z : false ≡ true = ap (λ (x : Entry). x.varies) q ∙ v in cc)),
        (λ v. absurd (let z : false ≡ true = ap (λ (x : Entry). x.assigned) q ∙ v in cc)),
      )),
      λ g k x. (known.fresh, there g k x),
    ),
    λ g k has e h. sym (ap (λ (x : Entry). x.since) (start_slot program.functions g k e h)),
  )
    where
      there : (g : ℕ) (k : Key) → Exists program g k → slot (start program) g k ≡ Some known.fresh
      there g Answer x = start_there program.functions g Answer x (λ y q. cc q)
      there g (Cell y) x = start_there program.functions g (Cell y) x.0
          (λ z q. subst (λ i. i < length (function_at program g).variables) (cell_same y z q) x.1)
        where
          cell_same : (y z : ℕ) → ◌≡◌ {A = Key} (Cell y) (Cell z) → y ≡ z
          cell_same y z q = cc q

  pub known_fine : IsSound program (known_of program)
  known_fine = (rounds_fine (round_limit program) (start program) start_fine).0
