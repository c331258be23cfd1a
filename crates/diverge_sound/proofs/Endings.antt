-- Two runs of one statement of a function, from variables that are alike on the scope: they end alike; and where they
-- end differently, nothing in scope that does not vary is ever assigned.
use Rattle.std.proofs.Common.{◌≡◌, ◌≢◌, ℕ, zero, suc, ◌||◌, ℤ, pos, Bool, true, false, Option, Some, None, ◌⊎◌, inl}
use Rattle.std.proofs.Common.{inr, refl, sym, ap, ◌∙◌, subst}
use Rattle.std.proofs.Math.Dec.{eqb}
use Rattle.std.proofs.lemmas.Bool.{eqb-true, eq-eqb}
use Rattle.cl_model.specs.Tree.{Expression, Statement, Do, Declare, Fill, Block, If, Loop, Switch, Break, Continue}
use Rattle.cl_model.specs.Tree.{Return, Barrier, Statements, empty, also, Arms, no_arm, arm, Program}
use Rattle.cl_model.specs.Calls.{function_at}
use Rattle.cl_model.specs.Values.{is_zero}
use Rattle.cl_model.specs.Valid.{Scope, scope_after}
use Rattle.cl_model.specs.Varying.{some_exits, exits, some_returns, some_assigns, AResult, Varies, operand, returning}
use Rattle.cl_model.specs.Varying.{assigned}
use Rattle.diverge_sound.proofs.Ran.{Held, answered, How, Normal, Who, Passes, Fails, Stops, switched, Rounds}
use Rattle.diverge_sound.proofs.Ran.{Iterates, Loops, Exec, ExecAll, ExecArms, entered}
use Rattle.diverge_sound.proofs.Keeps.{true_or_false, or_left, or_right, neither, not_true, Key, Answer, Cell, look}
use Rattle.diverge_sound.proofs.Keeps.{HasKey, gives, some_give, arms_give, quiet_if, quiet_loop, quiet_switch}
use Rattle.diverge_sound.proofs.Keeps.{quiet_block, quiet_also, quiet_arm, has_after, same_look, steps_kept}
use Rattle.diverge_sound.proofs.Keeps.{passes_kept, fails_kept, iterates_kept, kept, all_kept, arms_kept}
use Rattle.diverge_sound.proofs.Exits.{stops_same, stops_goes, same_how, loops_escape, escapes, all_escape, arms_escape}
use Rattle.diverge_sound.proofs.Parts.{Good, GoodRun, GoodList, GoodArms, TurnUnder, good_do, good_declare, good_fill}
use Rattle.diverge_sound.proofs.Parts.{good_block, good_if, good_loop, good_switch, good_return, good_also, good_arm}
use Rattle.diverge_sound.proofs.Parts.{if_condition, turn_condition, switch_condition}
use Rattle.diverge_sound.proofs.Values.{InBody, UnderBody, BackBody, V, VKey, Alike, Frozen, cond_gives}
use Rattle.diverge_sound.proofs.Values.{unassigned_under, unassigned_beside, moved_alike, set_alike, declare_alike}
use Rattle.diverge_sound.proofs.Values.{Two, eval_alike, eval_all_alike, TestVaries, steps_alike, passes_alike}
use Rattle.diverge_sound.proofs.Values.{fails_alike, fails_passes, passes_fails}

-- of two different ends one is a way out
one_out : (X : Type 0) (a b : How) → a ≢ b → (a ≢ Normal → X) → (b ≢ Normal → X) → X
one_out X a b ne first second = elim (same_how a Normal) [ inl z ↦ second (λ q. ne (z ∙ sym q)) | inr z ↦ first z ]

pub same_entry : (m n : ℕ) → (m ≡ n) ⊎ (m ≢ n)
same_entry m n = elim (true_or_false (eqb m n)) [
  | inl e ↦ inl (eqb-true m n e)
  | inr e ↦
      inr (λ q. let t : true ≡ false = sym (eq-eqb m n q) ∙ e in cc)
]

module _ (program : Program) (f : ℕ) where
  -- what a part gives no value the function as a whole gives none
  abbrev pub Part : (Key → Bool) → Type 0
  Part there = (k : Key) → some_give (function_at program f).body k ≡ false → there k ≡ false

  answered_alike : (scope : Scope) (g g' h h' : Held) (v v' : ℤ) → Alike program f scope g g' →
      ((Varies program (AResult f) → ⊥) → v ≡ v') → h ≡ answered g v → h' ≡ answered g' v' → Alike program f scope h h'
  answered_alike scope g g' h h' v v' al vv a b Answer has nv =
      same_look (answered g v) h Answer a ∙ vv nv ∙ sym (same_look (answered g' v') h' Answer b)
  answered_alike scope g g' h h' v v' al vv a b (Cell x) has nv =
      same_look (answered g v) h (Cell x) a ∙ al (Cell x) has nv ∙ sym (same_look (answered g' v') h' (Cell x) b)

  -- where two items go apart at a test, both keep what does not vary
  pub split_alike : (scope : Scope) (there : Key → Bool) (m m' h h' : Held) →
      ((k : Key) → HasKey scope k → (VKey program f k → ⊥) → there k ≡ true → ⊥)
      → ((k : Key) → HasKey scope k → there k ≡ false → (look h k ≡ look m k) × (look h' k ≡ look m' k)) →
      Alike program f scope m m' → Alike program f scope h h'
  split_alike scope there m m' h h' clash keeps al k has nv =
      elim (true_or_false (there k)) [
        | inl on ↦ absurd (clash k has nv on)
        | inr off ↦ let q = keeps k has off in q.0 ∙ al k has nv ∙ sym q.1
      ]

  if_quiet : (scope : Scope) (t : Expression) (a b : Statements) (k : Key) →
      cond_gives program f (if_condition scope t a b) k ≡ false → (some_give a k ≡ false) × (some_give b k ≡ false)
  if_quiet scope t a b Answer h = neither (some_returns a) (some_returns b) h
  if_quiet scope t a b (Cell x) h = neither (some_assigns a x) (some_assigns b x) h

  pub switch_quiet : (scope : Scope) (v : Expression) (arms : Arms) (k : Key) →
      cond_gives program f (switch_condition scope v arms) k ≡ false → arms_give arms k ≡ false
  switch_quiet scope v arms Answer h = h
  switch_quiet scope v arms (Cell x) h = h

  module _ (w w' : Who) (two : Two program f w w') where
    abbrev GE : Scope → Expression → Type 0
    GE = Good (InBody program f) (UnderBody program f) (BackBody program f)

    abbrev GR : Scope → Statement → Type 0
    GR = GoodRun (InBody program f) (UnderBody program f) (BackBody program f)

    abbrev GL : Scope → Statements → Type 0
    GL = GoodList (InBody program f) (UnderBody program f) (BackBody program f)

    abbrev GM : Scope → Arms → Type 0
    GM = GoodArms (InBody program f) (UnderBody program f) (BackBody program f)

    abbrev pub EndAlike : Scope → Statement → Type 0
    EndAlike scope s =
        (g g' h h' : Held) (a a' : How) → Alike program f scope g g' → Exec w s g a h → Exec w' s g' a' h'
        → Alike program f scope h h' × (a ≡ Normal → a' ≡ Normal → Alike program f (scope_after scope s) h h') ×
        (a ≢ a' → Frozen program f scope)

    -- a condition that came out differently, under which stands a way out
    frozen_beside : (c : _) → UnderBody program f c → ((V program f c.test → ⊥) → ⊥) → c.exits ≡ true →
        Frozen program f c.scope
    frozen_beside c under differ out k has nv =
        not_true (some_give (function_at program f).body k)
        (λ on. differ (λ v. let z = unassigned_beside program f c under v out k has nv in
        let q : true ≡ false = sym on ∙ z in cc))

    -- loops

    turn_rule : (scope : Scope) (site : ℕ) (first : Bool) (t st : Option Expression) (b : Statement) →
        TurnUnder (InBody program f) (UnderBody program f) (BackBody program f) scope t st b →
        TestVaries program f w w' two t
        → (k : Key) → HasKey scope k → (VKey program f k → ⊥) → gives (Loop site first t st b) k ≡ false
    turn_rule scope site first None st b u v k has nv = absurd v
    turn_rule scope site first (Some t) st b u v Answer has nv =
        unassigned_under program f (turn_condition scope t st b) u v Answer has nv
    turn_rule scope site first (Some t) st b u v (Cell x) has nv =
        unassigned_under program f (turn_condition scope t st b) u v (Cell x) has nv

    turn_beside : (scope : Scope) (t st : Option Expression) (b : Statement) →
        TurnUnder (InBody program f) (UnderBody program f) (BackBody program f) scope t st b →
        TestVaries program f w w' two t → exits b ≡ true
        → (k : Key) → HasKey scope k → (VKey program f k → ⊥) → some_give (function_at program f).body k ≡ false
    turn_beside scope None st b u v out k has nv = absurd v
    turn_beside scope (Some t) st b u v out k has nv =
        unassigned_beside program f (turn_condition scope t st b) u v out k has nv

    module _ (site : ℕ) (first : Bool) (t st : Option Expression) (b : Statement) (scope : Scope)
        (ok : GR scope (Loop site first t st b)) (part : Part (gives (Loop site first t st b)))
        (body : EndAlike scope b) where
      abbrev L : Key → Bool
      L k = gives (Loop site first t st b) k

      -- behind the body and the step: the test fails, or it passes and iterations follow
      abbrev Tail : Who → ℕ → Held → How → Held → Type 0
      Tail v n mid how to = (Fails v t mid to × (how ≡ Normal)) ⊎
          ((next : Held) × Passes v t mid next × Iterates v t st (Exec v b) n next how to)

      tail_kept : (v : Who) (n : ℕ) (mid : Held) (how : How) (to : Held) (k : Key) → HasKey scope k → L k ≡ false →
          Tail v n mid how to → look to k ≡ look mid k
      tail_kept v n mid how to k has un (inl (f', z)) = fails_kept v t mid to k (quiet_loop site first t st b k un).0 f'
      tail_kept v n mid how to k has un (inr (next, p, i)) =
          let q = quiet_loop site first t st b k un in
          let o = good_loop (InBody program f) (UnderBody program f) (BackBody program f) scope site first t st b ok in
          iterates_kept v t st (Exec v b) k q.0 q.1 (λ g a g' e. kept v b scope g a g' k o.3.names has q.2 e) n next
          how to i ∙ passes_kept v t mid next k q.0 p

      tail_out : (v : Who) (n : ℕ) (mid : Held) (how : How) (to : Held) → how ≢ Normal → Tail v n mid how to →
          exits b ≡ true
      tail_out v n mid how to ne (inl (f', z)) = absurd (ne z)
      tail_out v n mid how to ne (inr (next, p, i)) =
          loops_escape v false t st (Exec v b) (exits b ≡ true) (λ g a g' q e. escapes v b g a g' q e) next how to ne
          (n, i)

      -- tests that came out differently
      apart_alike : (n n' : ℕ) (m m' h h' : Held) (a a' : How) → ((TestVaries program f w w' two t → ⊥) → ⊥) →
          Alike program f scope m m' → Tail w n m a h → Tail w' n' m' a' h' → Alike program f scope h h' ×
          (a ≢ a' → Frozen program f scope)
      apart_alike n n' m m' h h' a a' differ al x x' =
          let o =
          good_loop (InBody program f) (UnderBody program f) (BackBody program f) scope site first t st b ok in (
            split_alike scope L m m' h h' (λ k has nv on.
                differ (λ v. let z = turn_rule scope site first t st b o.0 v k has nv in
                let q : true ≡ false = sym on ∙ z in cc))
                (λ k has un. (tail_kept w n m a h k has un x, tail_kept w' n' m' a' h' k has un x')) al,
            λ ne k has nv.
                let out : exits b ≡ true = one_out (exits b ≡ true) a a' ne (λ z. tail_out w n m a h z x)
                (λ z. tail_out w' n' m' a' h' z x') in
                not_true (some_give (function_at program f).body k)
                (λ on. differ (λ v. let z = turn_beside scope t st b o.0 v out k has nv in
                let q : true ≡ false = sym on ∙ z in cc)),
          )

      abbrev Iterated : ℕ → ℕ → Type 0
      Iterated n n' = (g g' h h' : Held) (a a' : How) → Alike program f scope g g' →
          Iterates w t st (Exec w b) n g a h → Iterates w' t st (Exec w' b) n' g' a' h' → Alike program f scope h h' ×
          (a ≢ a' → Frozen program f scope)

      tails_alike : (n n' : ℕ) → Iterated n n' → (m m' h h' : Held) (a a' : How) → Alike program f scope m m' →
          Tail w n m a h → Tail w' n' m' a' h' → Alike program f scope h h' × (a ≢ a' → Frozen program f scope)
      tails_alike n n' again m m' h h' a a' al (inl (x, z)) (inl (x', z')) =
          let o = good_loop (InBody program f) (UnderBody program f) (BackBody program f) scope site first t st b ok in
          (fails_alike program f w w' two t scope m m' h h' o.1 al x x', λ ne. absurd (ne (z ∙ sym z')))
      tails_alike n n' again m m' h h' a a' al (inl (x, z)) (inr (next, p, i)) =
          let o = good_loop (InBody program f) (UnderBody program f) (BackBody program f) scope site first t st b ok in
          apart_alike n n' m m' h h' a a' (fails_passes program f w w' two t scope m m' h next o.1 al x p) al
          (inl (x, z)) (inr (next, p, i))
      tails_alike n n' again m m' h h' a a' al (inr (next, p, i)) (inl (x, z)) =
          let o = good_loop (InBody program f) (UnderBody program f) (BackBody program f) scope site first t st b ok in
          apart_alike n n' m m' h h' a a' (passes_fails program f w w' two t scope m m' next h' o.1 al p x) al
          (inr (next, p, i)) (inl (x, z))
      tails_alike n n' again m m' h h' a a' al (inr (next, p, i)) (inr (next', p', i')) =
          let o = good_loop (InBody program f) (UnderBody program f) (BackBody program f) scope site first t st b ok in
          again next next' h h' a a' (passes_alike program f w w' two t scope m m' next next' o.1 al p p') i i'

      iterates_alike : (n n' : ℕ) → Iterated n n'
      iterates_alike zero n' g g' h h' a a' al x x' = absurd x
      iterates_alike (suc n) zero g g' h h' a a' al x x' = absurd x'
      iterates_alike (suc n) (suc n') g g' h h' a a' al (inl (end, e, s)) (inl (end', e', s')) =
          let r = body g g' h h' end end' al e e' in
          (r.0, λ ne. r.2 (λ q. ne (stops_same end a a' s (subst (λ z. Stops z a') (sym q) s'))))
      iterates_alike (suc n) (suc n') g g' h h' a a' al (inl (end, e, s)) (inr (mid, (how, m, e', go, st'), x)) =
          let r = body g g' h m end how al e e' in
          let frozen = r.2 (stops_goes end how a s go) in (
            λ k has nv.
                let un = part k (frozen k has nv) in
                r.0 k has nv ∙ sym (tail_kept w' n' mid a' h' k has un x ∙
                steps_kept w' st m mid k (quiet_loop site first t st b k un).1 st'),
            λ ne. frozen,
          )
      iterates_alike (suc n) (suc n') g g' h h' a a' al (inr (mid, (how, m, e, go, st'), x)) (inl (end, e', s)) =
          let r = body g g' m h' how end al e e' in
          let frozen = r.2 (λ q. stops_goes end how a' s go (sym q)) in (
            λ k has nv.
                let un = part k (frozen k has nv) in
                tail_kept w n mid a h k has un x ∙ steps_kept w st m mid k (quiet_loop site first t st b k un).1 st' ∙
                r.0 k has nv,
            λ ne. frozen,
          )
      iterates_alike (suc n) (suc n') g g' h h' a a' al (inr (mid, (how, m, e, go, s), x)) (inr (
        mid',
        (how', m', e', go', s'),
        x',
      )) =
          let o = good_loop (InBody program f) (UnderBody program f) (BackBody program f) scope site first t st b ok in
          let r = body g g' m m' how how' al e e' in
          tails_alike n n' (iterates_alike n n') mid mid' h h' a a' (steps_alike program f w w' two st scope m m' mid
          mid' o.2 r.0 s s') x x'

      to_tail : (v : Who) (from : Held) (how : How) (to : Held) → Loops v true t st (Exec v b) from how to →
          (n : ℕ) × Tail v n from how to
      to_tail v from how to (inl x) = (0, inl x)
      to_tail v from how to (inr (next, n, p, i)) = (n, inr (next, p, i))

      loop_alike : (one : Bool) (g g' h h' : Held) (a a' : How) → Alike program f scope g g' →
          Loops w one t st (Exec w b) g a h → Loops w' one t st (Exec w' b) g' a' h' → Alike program f scope h h' ×
          (a ≢ a' → Frozen program f scope)
      loop_alike true g g' h h' a a' al x x' =
          let y = to_tail w g a h x in let y' = to_tail w' g' a' h' x' in
          tails_alike y.0 y'.0 (iterates_alike y.0 y'.0) g g' h h' a a' al y.1 y'.1
      loop_alike false g g' h h' a a' al (n, i) (n', i') = iterates_alike n n' g g' h h' a a' al i i'

      -- rounds, and the beginnings of iterations and tests behind as many

      pub rounds_alike : (g g' h h' : Held) → Alike program f scope g g' → Rounds w st (Exec w b) g h →
          Rounds w' st (Exec w' b) g' h' → Alike program f scope h h'
      rounds_alike g g' h h' al (how, m, e, go, s) (how', m', e', go', s') =
          let o = good_loop (InBody program f) (UnderBody program f) (BackBody program f) scope site first t st b ok in
          steps_alike program f w w' two st scope m m' h h' o.2 (body g g' m m' how how' al e e').0 s s'

    -- an if whose test came out differently
    if_apart : (site : ℕ) (t : Expression) (a b c d : Statements) (scope : Scope) (m m' h h' : Held) (x x' : How) →
        GL scope c → GL scope d → UnderBody program f (if_condition scope t a b) → ((V program f t → ⊥) → ⊥)
        → ((k : Key) → (some_give a k ≡ false) × (some_give b k ≡ false) → (some_give c k ≡ false) ×
        (some_give d k ≡ false))
        → ((some_exits c ≡ true → some_exits a || some_exits b ≡ true) ×
        (some_exits d ≡ true → some_exits a || some_exits b ≡ true))
        → Alike program f scope m m' → ExecAll w c m x h → ExecAll w' d m' x' h' → Alike program f scope h h' ×
        (x ≢ x' → Frozen program f scope)
    if_apart site t a b c d scope m m' h h' x x' okc okd under differ quiet out al e e' = (
      split_alike scope (cond_gives program f (if_condition scope t a b)) m m' h h'
          (λ k has nv on. differ (λ v. let z = unassigned_under program f (if_condition scope t a b) under v k has
          nv in let q : true ≡ false = sym on ∙ z in cc))
          (λ k has un. let q = quiet k (if_quiet scope t a b k un) in
          (all_kept w c scope m x h k okc.names has q.0 e, all_kept w' d scope m' x' h' k okd.names has q.1 e'))
          al,
      λ ne. frozen_beside (if_condition scope t a b) under differ
          (one_out _ x x' ne (λ z. out.0 (all_escape w c m x h z e)) (λ z. out.1 (all_escape w' d m' x' h' z e'))),
    )

    mutual
      pub end_alike : (s : Statement) (scope : Scope) → GR scope s → Part (gives s) → EndAlike scope s
      end_alike (Do e) scope ok part g g' h h' a a' al (x, d, n) (x', d', n') =
          let r = eval_alike program f w w' two e scope g g' x x' h h'
          (good_do (InBody program f) (UnderBody program f) (BackBody program f) scope e ok) al d d' in
          (r.0, (λ _ _. r.0), λ ne. absurd (ne (n ∙ sym n')))
      end_alike (Declare y None) scope ok part g g' h h' a a' al (n, is) (n', is') = (
        set_alike program f scope g g' h h' y (pos 0) (pos 0) al (λ _. refl) is is',
        (λ _ _. declare_alike program f scope g g' h h' y (pos 0) (pos 0) al (λ _. refl) is is'),
        λ ne. absurd (ne (n ∙ sym n')),
      )
      end_alike (Declare y (Some e)) scope ok part g g' h h' a a' al (x, m, d, n, is) (x', m', d', n', is') =
          let o = good_declare (InBody program f) (UnderBody program f) (BackBody program f) scope y e ok in
          let r = eval_alike program f w w' two e scope g g' x x' m m' o.1 al d d' in
          let same : (VKey program f (Cell y) → ⊥) → x ≡ x' =
          λ nv. r.1 (λ v. nv (assigned o.0 (eq-eqb y y refl) (operand refl (inl refl) v))) in (
            set_alike program f scope m m' h h' y x x' r.0 same is is',
            (λ _ _. declare_alike program f scope m m' h h' y x x' r.0 same is is'),
            λ ne. absurd (ne (n ∙ sym n')),
          )
      end_alike (Fill site array es) scope ok part g g' h h' a a' al (args, d, n) (args', d', n') =
          let r = eval_all_alike program f w w' two es scope g g' args args' h h'
          (good_fill (InBody program f) (UnderBody program f) (BackBody program f) scope site array es ok) al d
          d' in
          (r.0, (λ _ _. r.0), λ ne. absurd (ne (n ∙ sym n')))
      end_alike (Block list) scope ok part g g' h h' a a' al e e' =
          let r = all_end_alike list scope (good_block (InBody program f) (UnderBody program f) (BackBody program f)
          scope list ok) (λ k un. quiet_block list k (part k un)) g g' h h' a a' al e e' in
          (r.0, (λ _ _. r.0), r.1)
      end_alike (If site t y n) scope ok part g g' h h' a a' al (v, m, d, inl (z, e)) (v', m', d', inl (z', e')) =
          let o = good_if (InBody program f) (UnderBody program f) (BackBody program f) scope site t y n ok in
          let l = eval_alike program f w w' two t scope g g' v v' m m' o.1 al d d' in
          let r = all_end_alike y scope o.2 (λ k un. (quiet_if site t y n k (part k un)).1) m m' h h' a a' l.0 e e' in
          (r.0, (λ _ _. r.0), r.1)
      end_alike (If site t y n) scope ok part g g' h h' a a' al (v, m, d, inr (z, e)) (v', m', d', inr (z', e')) =
          let o = good_if (InBody program f) (UnderBody program f) (BackBody program f) scope site t y n ok in
          let l = eval_alike program f w w' two t scope g g' v v' m m' o.1 al d d' in
          let r = all_end_alike n scope o.3 (λ k un. (quiet_if site t y n k (part k un)).2) m m' h h' a a' l.0 e e' in
          (r.0, (λ _ _. r.0), r.1)
      end_alike (If site t y n) scope ok part g g' h h' a a' al (v, m, d, inl (z, e)) (v', m', d', inr (z', e')) =
          let o = good_if (InBody program f) (UnderBody program f) (BackBody program f) scope site t y n ok in
          let l = eval_alike program f w w' two t scope g g' v v' m m' o.1 al d d' in
          let differ : (V program f t → ⊥) → ⊥ = λ nt. let q : false ≡ true = sym z ∙ ap is_zero (l.1 nt) ∙ z' in cc in
          let r = if_apart site t y n y n scope m m' h h' a a' o.2 o.3 o.0 differ (λ k q. q)
          (or_left (some_exits y) (some_exits n), or_right (some_exits y) (some_exits n)) l.0 e e' in
          (r.0, (λ _ _. r.0), r.1)
      end_alike (If site t y n) scope ok part g g' h h' a a' al (v, m, d, inr (z, e)) (v', m', d', inl (z', e')) =
          let o = good_if (InBody program f) (UnderBody program f) (BackBody program f) scope site t y n ok in
          let l = eval_alike program f w w' two t scope g g' v v' m m' o.1 al d d' in
          let differ : (V program f t → ⊥) → ⊥ = λ nt. let q : true ≡ false = sym z ∙ ap is_zero (l.1 nt) ∙ z' in cc in
          let r = if_apart site t y n n y scope m m' h h' a a' o.3 o.2 o.0 differ (λ k q. (q.1, q.0))
          (or_right (some_exits y) (some_exits n), or_left (some_exits y) (some_exits n)) l.0 e e' in
          (r.0, (λ _ _. r.0), r.1)
      end_alike (Loop site first t st b) scope ok part g g' h h' a a' al e e' =
          let o = good_loop (InBody program f) (UnderBody program f) (BackBody program f) scope site first t st b ok in
          let r = loop_alike site first t st b scope ok part
          (end_alike b scope o.3 (λ k un. (quiet_loop site first t st b k (part k un)).2)) first g g' h h' a a' al
          e e' in (r.0, (λ _ _. r.0), r.1)
      end_alike (Switch site v arms) scope ok part g g' h h' a a' al (x, m, end, d, e, is) (x', m', end', d', e', is') =
          let o = good_switch (InBody program f) (UnderBody program f) (BackBody program f) scope site v arms ok in
          let l = eval_alike program f w w' two v scope g g' x x' m m' o.1 al d d' in
          let r : Alike program f scope h h' × (end ≢ end' → Frozen program f scope) =
          elim (same_entry (entered x arms) (entered x' arms)) [
            | inl q ↦ arms_end_alike arms (entered x arms) scope o.2
                (λ k un. (quiet_switch site v arms k (part k un)).1) m m' h h' end end' l.0 e
                (subst (λ j. ExecArms w' arms j m' end' h') (sym q) e')
            | inr ne ↦
                let differ : (V program f v → ⊥) → ⊥ = λ nv. ne (ap (λ i. entered i arms) (l.1 nv)) in (
                  split_alike scope (cond_gives program f (switch_condition scope v arms)) m m' h h'
                      (λ k has nv on. differ (λ y. let z = unassigned_under program f (switch_condition scope v arms)
                      o.0 y k has nv in let q : true ≡ false = sym on ∙ z in cc))
                      (λ k has un. let q = switch_quiet scope v arms k un in (
                        arms_kept w arms (entered x arms) scope m end h k o.2.names has q e,
                        arms_kept w' arms (entered x' arms) scope m' end' h' k o.2.names has q e',
                      )) l.0,
                  λ apart. frozen_beside (switch_condition scope v arms) o.0 differ
                      (one_out _ end end' apart (λ z. arms_escape w arms (entered x arms) m end h z e)
                      (λ z. arms_escape w' arms (entered x' arms) m' end' h' z e')),
                )
          ] in
          (r.0, (λ _ _. r.0), λ ne. r.1 (λ q. ne (is ∙ ap switched q ∙ sym is')))
      end_alike (Break site) scope ok part g g' h h' a a' al (n, is) (n', is') =
          let r = moved_alike program f scope g g' h h' al is is' in (r, (λ _ _. r), λ ne. absurd (ne (n ∙ sym n')))
      end_alike (Continue site) scope ok part g g' h h' a a' al (n, is) (n', is') =
          let r = moved_alike program f scope g g' h h' al is is' in (r, (λ _ _. r), λ ne. absurd (ne (n ∙ sym n')))
      end_alike (Return site None) scope ok part g g' h h' a a' al (n, is) (n', is') =
          let r = answered_alike scope g g' h h' (pos 0) (pos 0) al (λ _. refl) is is' in
          (r, (λ _ _. r), λ ne. absurd (ne (n ∙ sym n')))
      end_alike (Return site (Some e)) scope ok part g g' h h' a a' al (x, m, d, n, is) (x', m', d', n', is') =
          let o = good_return (InBody program f) (UnderBody program f) (BackBody program f) scope site e ok in
          let q = eval_alike program f w w' two e scope g g' x x' m m' o.1 al d d' in
          let r = answered_alike scope m m' h h' x x' q.0 (λ nv. q.1 (λ v. nv (returning o.0 v))) is is' in
          (r, (λ _ _. r), λ ne. absurd (ne (n ∙ sym n')))
      end_alike (Barrier site) scope ok part g g' h h' a a' al (n, is) (n', is') =
          let r = moved_alike program f scope g g' h h' al is is' in (r, (λ _ _. r), λ ne. absurd (ne (n ∙ sym n')))

      pub all_end_alike : (list : Statements) (scope : Scope) → GL scope list → Part (some_give list) →
          (g g' h h' : Held) (a a' : How) → Alike program f scope g g' → ExecAll w list g a h →
          ExecAll w' list g' a' h' → Alike program f scope h h' × (a ≢ a' → Frozen program f scope)
      all_end_alike empty scope ok part g g' h h' a a' al (n, is) (n', is') =
          (moved_alike program f scope g g' h h' al is is', λ ne. absurd (ne (n ∙ sym n')))
      all_end_alike (also s rest) scope ok part g g' h h' a a' al (inl (m, e, r)) (inl (m', e', r')) =
          let o = good_also (InBody program f) (UnderBody program f) (BackBody program f) scope s rest ok in
          let first =
          end_alike s scope o.0 (λ k un. (quiet_also s rest k (part k un)).0) g g' m m' Normal Normal al e e' in
          let then = all_end_alike rest (scope_after scope s) o.1 (λ k un. (quiet_also s rest k (part k un)).1) m m' h
          h' a a' (first.1 refl refl) r r' in
          ((λ k has nv. then.0 k (has_after scope s k has) nv), λ ne k has nv. then.1 ne k (has_after scope s k has) nv)
      all_end_alike (also s rest) scope ok part g g' h h' a a' al (inl (m, e, r)) (inr (ne, e')) =
          let o = good_also (InBody program f) (UnderBody program f) (BackBody program f) scope s rest ok in
          let first = end_alike s scope o.0 (λ k un. (quiet_also s rest k (part k un)).0) g g' m h' Normal a' al e e' in
          let frozen = first.2 (λ z. ne (sym z)) in (
            (λ k has nv. all_kept w rest (scope_after scope s) m a h k o.1.names (has_after scope s k has)
                (quiet_also s rest k (part k (frozen k has nv))).1 r ∙ first.0 k has nv),
            λ _. frozen,
          )
      all_end_alike (also s rest) scope ok part g g' h h' a a' al (inr (ne, e)) (inl (m, e', r)) =
          let o = good_also (InBody program f) (UnderBody program f) (BackBody program f) scope s rest ok in
          let first = end_alike s scope o.0 (λ k un. (quiet_also s rest k (part k un)).0) g g' h m a Normal al e e' in
          let frozen = first.2 ne in (
            (λ k has nv. first.0 k has nv ∙
                sym (all_kept w' rest (scope_after scope s) m a' h' k o.1.names (has_after scope s k has)
                (quiet_also s rest k (part k (frozen k has nv))).1 r)),
            λ _. frozen,
          )
      all_end_alike (also s rest) scope ok part g g' h h' a a' al (inr (ne, e)) (inr (ne', e')) =
          let o = good_also (InBody program f) (UnderBody program f) (BackBody program f) scope s rest ok in
          let first = end_alike s scope o.0 (λ k un. (quiet_also s rest k (part k un)).0) g g' h h' a a' al e e' in
          (first.0, first.2)

      arms_end_alike : (arms : Arms) (j : ℕ) (scope : Scope) → GM scope arms → Part (arms_give arms) →
          (g g' h h' : Held) (a a' : How) → Alike program f scope g g' → ExecArms w arms j g a h →
          ExecArms w' arms j g' a' h' → Alike program f scope h h' × (a ≢ a' → Frozen program f scope)
      arms_end_alike no_arm j scope ok part g g' h h' a a' al (n, is) (n', is') =
          (moved_alike program f scope g g' h h' al is is', λ ne. absurd (ne (n ∙ sym n')))
      arms_end_alike (arm labels other body rest) zero scope ok part g g' h h' a a' al (inl (m, e, r)) (inl (
        m',
        e',
        r',
      )) =
          let o =
          good_arm (InBody program f) (UnderBody program f) (BackBody program f) scope labels other body rest ok in
          let first = all_end_alike body scope o.0 (λ k un. (quiet_arm labels other body rest k (part k un)).0) g g' m
          m' Normal Normal al e e' in
          arms_end_alike rest zero scope o.1 (λ k un. (quiet_arm labels other body rest k (part k un)).1) m m' h h' a
          a' first.0 r r'
      arms_end_alike (arm labels other body rest) zero scope ok part g g' h h' a a' al (inl (m, e, r)) (inr (ne, e')) =
          let o =
          good_arm (InBody program f) (UnderBody program f) (BackBody program f) scope labels other body rest ok in
          let first = all_end_alike body scope o.0 (λ k un. (quiet_arm labels other body rest k (part k un)).0) g g' m
          h' Normal a' al e e' in
          let frozen = first.1 (λ z. ne (sym z)) in (
            (λ k has nv. arms_kept w rest zero scope m a h k o.1.names has
                (quiet_arm labels other body rest k (part k (frozen k has nv))).1 r ∙ first.0 k has nv),
            λ _. frozen,
          )
      arms_end_alike (arm labels other body rest) zero scope ok part g g' h h' a a' al (inr (ne, e)) (inl (m, e', r)) =
          let o =
          good_arm (InBody program f) (UnderBody program f) (BackBody program f) scope labels other body rest ok in
          let first = all_end_alike body scope o.0 (λ k un. (quiet_arm labels other body rest k (part k un)).0) g g' h
          m a Normal al e e' in
          let frozen = first.1 ne in (
            (λ k has nv. first.0 k has nv ∙
                sym (arms_kept w' rest zero scope m a' h' k o.1.names has
                (quiet_arm labels other body rest k (part k (frozen k has nv))).1 r)),
            λ _. frozen,
          )
      arms_end_alike (arm labels other body rest) zero scope ok part g g' h h' a a' al (inr (ne, e)) (inr (ne', e')) =
          let o =
          good_arm (InBody program f) (UnderBody program f) (BackBody program f) scope labels other body rest ok in
          all_end_alike body scope o.0 (λ k un. (quiet_arm labels other body rest k (part k un)).0) g g' h h' a a' al
          e e'
      arms_end_alike (arm labels other body rest) (suc j) scope ok part g g' h h' a a' al e e' =
          let o =
          good_arm (InBody program f) (UnderBody program f) (BackBody program f) scope labels other body rest ok in
          arms_end_alike rest j scope o.1 (λ k un. (quiet_arm labels other body rest k (part k un)).1) g g' h h' a a'
          al e e'
