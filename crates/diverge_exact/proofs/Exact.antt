-- The analysis is exact: at its end those variables are marked that vary, and they alone.
use Rattle.std.proofs.Common.{◌≡◌, ◌≢◌, ℕ, zero, suc, ◌+◌, ◌<◌, ◌≤◌, Bool, true, false, ◌||◌, not, cond, List, []}
use Rattle.std.proofs.Common.{◌∷◌, Option, Some, None, slice_get, unwrap_or, ◌⊎◌, inl, inr, refl, sym, ap, ◌∙◌, subst}
use Rattle.std.proofs.Common.{arith}
use Rattle.std.proofs.Math.Nat.{eq-or-lt_of_le}
use Rattle.std.proofs.lemmas.Option.{none-some}
use Rattle.cl_model.specs.declared.program.Root.{Root}
use Rattle.cl_model.specs.Tree.{Action, Expression, Apply, Call, Expressions, none, more, Function, Program}
use Rattle.cl_model.specs.Lists.{IsOneOf, AllDiffer}
use Rattle.cl_model.specs.Calls.{function_at, no_function}
use Rattle.cl_model.specs.Valid.{Scope, Has, numbers_below, sites_of_all, all_declarations, IsValid}
use Rattle.cl_model.specs.Varying.{Condition, sets, some_assigns, expressions_of_list, returned_list, conditions}
use Rattle.cl_model.specs.Varying.{IsAmong, IsNth, Subject, AVariable, AResult, AnExpression, Varies, own_id, loaded}
use Rattle.cl_model.specs.Varying.{named, operand, stored, updated, tested, chosen, otherwise, called, passed}
use Rattle.cl_model.specs.Varying.{returning, return_under, return_beside, assigned, assigned_under, exit_under}
use Rattle.diverge.specs.declared.known.Entry.{Entry}
use Rattle.diverge.specs.Known as known
use Rattle.diverge.specs.Known.{State, absent, leave_result}
use Rattle.diverge.specs.Rounds.{Gone, gone_over_all, parameters_left, over_function, over_functions}
use Rattle.diverge_sound.proofs.Keeps.{or_left, or_right, Key, Answer, Cell, HasKey, some_give}
use Rattle.diverge_sound.proofs.Values.{cond_gives}
use Rattle.diverge_exact.proofs.Slots.{slot, entry, with_key, entry_is}
use Rattle.diverge_exact.proofs.Sound.{spot}
use Rattle.diverge_exact.proofs.SoundRounds.{scope_of, good_body, Fine, function_fine}
use Rattle.diverge_exact.proofs.Steps.{Quiet, Onto, onto_same, onto_then, onto_change, Final, final_before, Flag}
use Rattle.diverge_exact.proofs.Steps.{flag_on, left_marked, Apart}
use Rattle.diverge_exact.proofs.Full.{by_itself, by_marks, by_some, by_second, Facts}
use Rattle.diverge_exact.proofs.Scopes.{Cover}
use Rattle.diverge_exact.proofs.WaysOut.{given, Outs}
use Rattle.diverge_exact.proofs.FullRounds.{all_full}

-- what the marks obey in a function
pub record Rules (program : Program) (M : ℕ → Key → Bool) (f : ℕ) : Type 0 where
  pub assigns : (action : Action) (es : Expressions) (x : ℕ) →
      IsOneOf (expressions_of_list (function_at program f).body) (Apply action es) → sets action x ≡ true →
      by_marks program M f (Apply action es) ≡ true → M f (Cell x) ≡ true
  pub passes : (site g : ℕ) (roots : List (Option Root)) (es : Expressions) →
      IsOneOf (expressions_of_list (function_at program f).body) (Call site g roots es) → g ≢ program.kernel →
      (n : ℕ) (e : Expression) → IsNth es n e → by_marks program M f e ≡ true → M g (Cell n) ≡ true
  pub under : (c : Condition) → IsOneOf (conditions (function_at program f)) c → by_marks program M f c.test ≡ true →
      (k : Key) → HasKey c.scope k → cond_gives program f c k ≡ true → M f k ≡ true
  pub beside : (c : Condition) → IsOneOf (conditions (function_at program f)) c → by_marks program M f c.test ≡ true →
      c.exits ≡ true → (k : Key) → HasKey c.scope k → some_give (function_at program f).body k ≡ true → M f k ≡ true
  pub back : (e : Expression) → IsOneOf (returned_list (function_at program f).body) e →
      by_marks program M f e ≡ true → M f Answer ≡ true

module _ (program : Program) (valid : IsValid program) (M : ℕ → Key → Bool) where
  -- the parameters of a function behind a body that holds a way out under a condition that varies
  parameters_onto : (f : ℕ) (sc : Scope) (n : ℕ) (s : State) → Onto f sc s (parameters_left f n s)
  parameters_onto f sc zero s = onto_same f sc s
  parameters_onto f sc (suc n) s =
      let t = parameters_left f n s in
      onto_then f sc s t (with_key f (Cell n) (known.left (entry t f (Cell n))) t) (parameters_onto f sc n s)
      (onto_change f sc f (Cell n) (known.left (entry t f (Cell n))) t (λ h. or_left _ _ h) (λ h. h) refl)

  parameters_marked : (f n m : ℕ) (s : State) → n < m → Final M (parameters_left f m s) → Flag M f s (Cell n) →
      M f (Cell n) ≡ true
  parameters_marked f n zero s lt fin flag = absurd (omega (arith, lt))
  parameters_marked f n (suc m) s lt fin flag =
      let t = parameters_left f m s in
      elim (at_or_below n m (omega (arith, lt))) [
        | inl e ↦ subst (λ i. M f (Cell i) ≡ true) (sym e)
            (left_marked M f (Cell m) t fin
            (subst (λ i. Flag M f t (Cell i)) e (flag_on M f [] s t (Cell n) (parameters_onto f [] m s) flag)))
        | inr l ↦ parameters_marked f n m s l
            (final_before M f [] t (with_key f (Cell m) (known.left (entry t f (Cell m))) t)
            (onto_change f [] f (Cell m) (known.left (entry t f (Cell m))) t (λ h. or_left _ _ h) (λ h. h) refl)
            fin) flag
      ]
    where
      at_or_below : (n m : ℕ) → n ≤ m → (n ≡ m) ⊎ (n < m)
      at_or_below n m le = eq-or-lt_of_le le

  lower_has : (n m : ℕ) → Has (numbers_below m) n → n < m
  lower_has n zero h = absurd h
  lower_has n (suc m) (inl e) = omega (arith, e)
  lower_has n (suc m) (inr h) = let l = lower_has n m h in omega (arith, l)

  -- a round over a function
  function_full : (f : ℕ) (s : State) → Fine program valid s → AllDiffer (sites_of_all (function_at program f).body) →
      ((y : ℕ) → all_declarations (function_at program f).body y ≤ 1)
      → Onto f (scope_of program valid f) s (over_function program.kernel f (function_at program f) s) ×
      (Final M (over_function program.kernel f (function_at program f) s) → Rules program M f)
  function_full f s fine differ once = by_escapes b.ways.escapes refl
    where
      sc : Scope
      sc = scope_of program valid f

      b : Gone
      b = gone_over_all (function_at program f) (spot program valid f None) (function_at program f).body s

      no_since : (k : Key) → HasKey sc k → (o : Option Entry) → slot s f k ≡ o → (entry s f k).since ≡ None
      no_since k has None q = ap (λ (x : Entry). x.since) (entry_is s f k ∙ ap (λ o. unwrap_or o absent) q)
      no_since k has (Some e) q =
          ap (λ (x : Entry). x.since) (entry_is s f k ∙ ap (λ o. unwrap_or o absent) q) ∙ fine.1 f k has e q

      apart : Apart f None s sc (sites_of_all (function_at program f).body)
      apart = record {
        differ = differ;
        around = λ i q m. none-some i q;
        before = λ k has i q m. none-some i (sym (no_since k has (slot s f k) refl) ∙ q);
      }

      cover : Cover (given program M f) (some_assigns (function_at program f).body)
          (all_declarations (function_at program f).body)
      cover = record { one = once; all = λ y ne h. h }

      body_onto : Onto f sc s b.state
      body_onto =
          (all_full program M f valid (function_at program f).body sc None s (good_body program valid f) cover apart).0

      body_facts : Final M b.state →
          Facts program M f sc None s b.state (expressions_of_list (function_at program f).body)
          (conditions (function_at program f)) (some_give (function_at program f).body)
          × Outs program M f sc (conditions (function_at program f)) (returned_list (function_at program f).body)
          b.ways.escapes
      body_facts =
          (all_full program M f valid (function_at program f).body sc None s (good_body program valid f) cover apart).3

      rules : Final M b.state → ((k : Key) → HasKey sc k → b.ways.escapes ≡ true → Flag M f b.state k →
          M f k ≡ true) → Rules program M f
      rules fin close =
          let F = body_facts fin in
          record {
            assigns = F.0.assigns;
            passes = F.0.passes;
            under = F.0.under;
            beside = λ c m v x k has on. elim (F.1.beside c m v x k has on) [
              | inl i ↦
                  close k i (F.1.out c m v x) (F.0.flags k on i)
              | inr h ↦ h
            ];
            back = F.1.back;
          }

      u : State
      u = parameters_left f (function_at program f).parameters b.state

      left_onto : Onto f sc b.state (leave_result f u)
      left_onto =
          onto_then f sc b.state u (leave_result f u) (parameters_onto f sc (function_at program f).parameters
          b.state) (onto_change f sc f Answer (known.left (entry u f Answer)) u (λ h. or_left _ _ h) (λ h. h)
          refl)

      close_left : Final M (leave_result f u) → (k : Key) → HasKey sc k → Flag M f b.state k → M f k ≡ true
      close_left fin Answer has flag =
          left_marked M f Answer u fin (flag_on M f sc b.state u Answer
          (parameters_onto f sc (function_at program f).parameters b.state) flag)
      close_left fin (Cell n) has flag =
          parameters_marked f n (function_at program f).parameters b.state
          (lower_has n (function_at program f).parameters has)
          (final_before M f sc u (leave_result f u) (onto_change f sc f Answer (known.left (entry u f Answer)) u
          (λ h. or_left _ _ h) (λ h. h) refl) fin) flag

      by_escapes : (e : Bool) → b.ways.escapes ≡ e → Onto f sc s (cond e (leave_result f u) b.state) ×
          (Final M (cond e (leave_result f u) b.state) → Rules program M f)
      by_escapes true q = (
        onto_then f sc s b.state (leave_result f u) body_onto left_onto,
        λ fin. rules (final_before M f sc b.state (leave_result f u) left_onto fin) (λ k has x flag.
            close_left fin k has flag),
      )
      by_escapes false q =
          (body_onto, λ fin. rules fin (λ k has x flag. absurd (let z : true ≡ false = sym x ∙ q in cc z)))

  final_quiet : (s t : State) → Quiet s t → Final M t → Final M s
  final_quiet s t quiet (h, m) = let a = quiet h in (a.0, λ g k. a.1 g k ∙ m g k)

  -- rounds over functions

  abbrev pub GoodFunctions : List Function → Type 0
  GoodFunctions list = (j : ℕ) (d : Function) → slice_get list j ≡ Some d → AllDiffer (sites_of_all d.body) ×
      ((y : ℕ) → all_declarations d.body y ≤ 1)

  pub functions_full : (list : List Function) (f : ℕ) → ((j : ℕ) (d : Function) → slice_get list j ≡ Some d →
      function_at program (f + j) ≡ d) → GoodFunctions list → (s : State) → Fine program valid s
      → Quiet s (over_functions program.kernel f list s) × (Final M (over_functions program.kernel f list s) →
      (j : ℕ) (d : Function) → slice_get list j ≡ Some d → Rules program M (f + j))
  functions_full [] f is good s fine = ((λ h. (h, λ g k. refl)), λ fin j d h. absurd (none-some d h))
  functions_full (c ∷ rest) f is good s fine =
      let z : f + 0 ≡ f = omega arith in
      let here : function_at program f ≡ c = ap (function_at program) (sym z) ∙ is 0 c refl in
      let t = over_function program.kernel f c s in
      let v = over_functions program.kernel (suc f) rest t in
      let own' : (Onto f (scope_of program valid f) s t × (Final M t → Rules program M f)) × Fine program valid t =
      subst (λ d. (Onto f (scope_of program valid f) s (over_function program.kernel f d s) ×
      (Final M (over_function program.kernel f d s) → Rules program M f)) ×
      Fine program valid (over_function program.kernel f d s)) here (
        function_full f s fine (subst (λ (d : Function). AllDiffer (sites_of_all d.body)) (sym here) (good 0 c refl).0)
            (subst (λ (d : Function). (y : ℕ) → all_declarations d.body y ≤ 1) (sym here) (good 0 c refl).1),
        function_fine program valid f s fine,
      ) in
      let more' = functions_full rest (suc f) (λ j d h. let q : suc f + j ≡ f + suc j = omega arith in
      ap (function_at program) q ∙ is (suc j) d h) (λ j d h. good (suc j) d h) t own'.1 in (
        (λ h. let a = more'.0 h in let b = own'.0.0.quiet a.0 in (b.0, λ g k. b.1 g k ∙ a.1 g k)),
        λ fin. each f c rest z (own'.0.1 (final_quiet t v more'.0 fin)) (more'.1 fin),
      )
    where
      each : (f : ℕ) (c : Function) (rest : List Function) → f + 0 ≡ f → Rules program M f →
          ((j : ℕ) (d : Function) → slice_get rest j ≡ Some d → Rules program M (suc f + j)) →
          (j : ℕ) (d : Function) → slice_get (c ∷ rest) j ≡ Some d → Rules program M (f + j)
      each f c rest z first further zero d h = subst (Rules program M) (sym z) first
      each f c rest z first further (suc j) d h = let q : suc f + j ≡ f + suc j =
          omega arith in subst (Rules program M) q (further j d h)

  -- a function that is not there obeys all rules
  pub empty_rules : (f : ℕ) → function_at program f ≡ no_function → Rules program M f
  empty_rules f is = record {
    assigns = λ a es x m. absurd (subst (λ (d : Function). IsOneOf (expressions_of_list d.body) (Apply a es)) is m);
    passes = λ i g r es m. absurd (subst (λ (d : Function). IsOneOf (expressions_of_list d.body) (Call i g r es)) is m);
    under = λ c m. absurd (subst (λ (d : Function). IsOneOf (conditions d) c) is m);
    beside = λ c m. absurd (subst (λ (d : Function). IsOneOf (conditions d) c) is m);
    back = λ e m. absurd (subst (λ (d : Function). IsOneOf (returned_list d.body) e) is m);
  }

  -- by the marks

  abbrev pub Marked : Subject → Type 0
  Marked (AVariable f x) = M f (Cell x) ≡ true
  Marked (AResult f) = M f Answer ≡ true
  Marked (AnExpression f e) = by_marks program M f e ≡ true

  among_some : (f : ℕ) (es : Expressions) (e : Expression) → IsAmong es e → by_marks program M f e ≡ true →
      by_some program M f es ≡ true
  among_some f none e m v = absurd m
  among_some f (more d rest) e (inl q) v = or_left _ _ (subst (λ x. by_marks program M f x ≡ true) (sym q) v)
  among_some f (more d rest) e (inr m) v = or_right _ _ (among_some f rest e m v)

  nth_second : (f : ℕ) (es : Expressions) (e : Expression) → IsNth es 1 e → by_marks program M f e ≡ true →
      by_second program M f es ≡ true
  nth_second f none e at v = absurd at
  nth_second f (more a none) e at v = absurd at
  nth_second f (more a (more d rest)) e at v = subst (λ x. by_marks program M f x ≡ true) (sym at) v

  module _ (rules : (f : ℕ) → Rules program M f) where
    pub marked : {x : Subject} → Varies program x → Marked x
    marked (own_id {operands = operands} h) = or_left _ _ h
    marked (loaded {operands = operands} h) = or_left _ _ (ap not h)
    marked (named {operands = operands} v) = or_left _ _ (marked v)
    marked (operand {f = f} {action = action} {operands = operands} {e = e} st m v) =
        ap (λ b. cond b (by_second program M f operands) (by_itself program M f action ||
        by_some program M f operands)) st ∙ or_right _ _ (among_some f operands e m (marked v))
    marked (stored {f = f} {operands = operands} {e = e} at v) = nth_second f operands e at (marked v)
    marked updated = refl
    marked (tested v) = or_left _ _ (marked v)
    marked (chosen v) = or_right _ _ (or_left _ _ (marked v))
    marked (otherwise v) = or_right _ _ (or_right _ _ (marked v))
    marked (called v) = marked v
    marked (passed {f = f} {n = n} {e = e} site roots arguments ne m at v) =
        (rules f).passes site _ roots arguments m ne n e at (marked v)
    marked (returning {f = f} {e = e} m v) = (rules f).back e m (marked v)
    marked (return_under {f = f} c m v h) = (rules f).under c m (marked v) Answer tt h
    marked (return_beside {f = f} c m v x b) = (rules f).beside c m (marked v) x Answer tt b
    marked (assigned {f = f} {x = x} {action = action} {operands = operands} m s v) =
        (rules f).assigns action operands x m s (marked v)
    marked (assigned_under {f = f} {x = x} c m v has h) = (rules f).under c m (marked v) (Cell x) has h
    marked (exit_under {f = f} {x = x} c m v has out b) = (rules f).beside c m (marked v) out (Cell x) has b
