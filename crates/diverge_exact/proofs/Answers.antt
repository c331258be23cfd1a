-- What the analysis answers says which variables vary.
use Rattle.std.proofs.Common.{◌≡◌, ℕ, zero, suc, ◌+◌, ◌<◌, ◌≤◌, Bool, true, false, cond, length, map, flat_map, List}
use Rattle.std.proofs.Common.{[], ◌∷◌, Option, Some, None, slice_get, unwrap_or, inl, inr, refl, sym, ap, ◌∙◌, subst}
use Rattle.std.proofs.Common.{arith}
use Rattle.std.proofs.lemmas.Bool.{cases_lt}
use Rattle.std.proofs.lemmas.Option.{none-some, same_Some, slice_get_within}
use Rattle.cl_model.specs.Tree.{Apply, Call, Function, Program}
use Rattle.cl_model.specs.Lists.{IsOneOf, AllDiffer}
use Rattle.cl_model.specs.Calls.{function_at, no_function}
use Rattle.cl_model.specs.Valid.{numbers_below, Has, sites_of_all, all_declarations, parameter_kinds, ArgumentsFit}
use Rattle.cl_model.specs.Valid.{HaveTypes, IsValid}
use Rattle.cl_model.specs.Varying.{expressions_of_list, conditions, Subject, AVariable, AResult, AnExpression, Varies}
use Rattle.cl_model.specs.Varying.{own_id, loaded, named, operand, stored, updated, tested, chosen, otherwise, called}
use Rattle.cl_model.specs.Varying.{passed, returning, return_under, return_beside, assigned, assigned_under}
use Rattle.cl_model.specs.Varying.{exit_under}
use Rattle.diverge.specs.declared.known.Entry.{Entry}
use Rattle.diverge.specs.Known.{Row, State, absent}
use Rattle.diverge.specs.Rounds.{round, rounds, start, round_limit, known_of, marks_of, varying_of, entries_of}
use Rattle.diverge.proofs.Ending.{is_settled}
use Rattle.diverge_sound.proofs.Keeps.{Key, Cell}
use Rattle.diverge_sound.proofs.Nesting.{typed_of_all, typed_body, scoped_body}
use Rattle.diverge_exact.specs.Says.{SaysVarying}
use Rattle.diverge_exact.proofs.Slots.{slot_in, entry, entry_is}
use Rattle.diverge_exact.proofs.Sound.{Exists}
use Rattle.diverge_exact.proofs.SoundRounds.{Fine, round_fine, start_fine, known_fine}
use Rattle.diverge_exact.proofs.Steps.{mark, Final, differ_left, differ_right}
use Rattle.diverge_exact.proofs.Exact.{Rules, functions_full, empty_rules, marked}
use Rattle.diverge_exact.proofs.Ranges.{condition_range_list, set_range_list, declared_within_list, argument_within}
use Rattle.diverge_exact.proofs.Ranges.{length_take}

-- lists of marks

marked_entry : (es : List Entry) (x : ℕ) → slice_get (map (λ (e : Entry). e.varies) es) x ≡ Some true →
    (e : Entry) × (slice_get es x ≡ Some e) × (e.varies ≡ true)
marked_entry [] x h = absurd (none-some true h)
marked_entry (e ∷ es) zero h = (e, refl, same_Some e.varies true h)
marked_entry (e ∷ es) (suc x) h = marked_entry es x h

entry_marked : (es : List Entry) (x : ℕ) (e : Entry) → slice_get es x ≡ Some e → e.varies ≡ true →
    slice_get (map (λ (e : Entry). e.varies) es) x ≡ Some true
entry_marked [] x e h v = absurd (none-some e h)
entry_marked (d ∷ es) zero e h v = ap Some (ap (λ (x : Entry). x.varies) (same_Some d e h) ∙ v)
entry_marked (d ∷ es) (suc x) e h v = entry_marked es x e h v

marked_row : (rows : List Row) (f x : ℕ) → slice_get (unwrap_or (slice_get (map marks_of rows) f) []) x ≡ Some true →
    (e : Entry) × (slot_in (slice_get rows f) (Cell x) ≡ Some e) × (e.varies ≡ true)
marked_row [] f x h = absurd (none-some true h)
marked_row (row ∷ rows) zero x h = marked_entry row.variables x h
marked_row (row ∷ rows) (suc f) x h = marked_row rows f x h

row_marked : (rows : List Row) (f x : ℕ) (e : Entry) → slot_in (slice_get rows f) (Cell x) ≡ Some e →
    e.varies ≡ true → slice_get (unwrap_or (slice_get (map marks_of rows) f) []) x ≡ Some true
row_marked [] f x e h v = absurd (none-some e h)
row_marked (row ∷ rows) zero x e h v = entry_marked row.variables x e h v
row_marked (row ∷ rows) (suc f) x e h v = row_marked rows f x e h v

sites_each : (list : List Function) → AllDiffer (flat_map (λ (d : Function). sites_of_all d.body) list) →
    (j : ℕ) (d : Function) → slice_get list j ≡ Some d → AllDiffer (sites_of_all d.body)
sites_each [] h j d at = absurd (none-some d at)
sites_each (c ∷ rest) h zero d at =
    subst (λ (x : Function). AllDiffer (sites_of_all x.body)) (same_Some c d at) (differ_left (sites_of_all c.body) _ h)
sites_each (c ∷ rest) h (suc j) d at = sites_each rest (differ_right (sites_of_all c.body) _ h) j d at

module _ (program : Program) (valid : IsValid program) where
  -- a variable has at most one declaration
  declared_at_most : (j : ℕ) (d : Function) → slice_get program.functions j ≡ Some d → (y : ℕ) →
      all_declarations d.body y ≤ 1
  declared_at_most j d at y =
      let v = valid.functions j d at in
      elim (cases_lt y d.parameters) [
        | inl lt ↦ let z = v.undeclared y lt in omega (arith, z)
        | inr ge ↦ elim (cases_lt y (length d.variables)) [
          | inl lt ↦ let z = v.declared y (omega (arith, ge)) lt in omega (arith, z)
          | inr ge' ↦ elim (declared_within_list program d d.body y v.types) [
            | inl z ↦ omega (arith, z)
            | inr lt ↦
                absurd (omega (arith, lt, ge'))
          ]
        ]
      ]

  -- a round that adds something is followed by others
  last_or : (limit : ℕ) (s : State) → Fine program valid s → (b : Bool) → (s0 : State) × Fine program valid s0 ×
      (rounds program (suc limit) (round program s) ≡ round program s0)
      → (s0 : State) × Fine program valid s0 ×
      (cond b (rounds program (suc limit) (round program s)) (round program s) ≡ round program s0)
  last_or limit s fine true further = further
  last_or limit s fine false further = (s, fine, refl)

  -- the last round
  last_round : (limit : ℕ) (s : State) → Fine program valid s → (s0 : State) × Fine program valid s0 ×
      (rounds program (suc limit) s ≡ round program s0)
  last_round zero s fine = (s, fine, one_same (round program s).grew (round program s))
    where
      one_same : (b : Bool) (t : State) → cond b t t ≡ t
      one_same true t = refl
      one_same false t = refl
  last_round (suc limit) s fine =
      last_or limit s fine (round program s).grew (last_round limit (round program s) (round_fine program valid s fine))

  -- the marks at the end
  abbrev M : ℕ → Key → Bool
  M = mark (known_of program)

  -- the marks at the end obey the rules of all functions
  rules : (f : ℕ) → Rules program M f
  rules f = by_function (slice_get program.functions f) refl
    where
      last : (s0 : State) × Fine program valid s0 × (known_of program ≡ round program s0)
      last =
          let e : round_limit program ≡ suc (entries_of program.functions) = omega arith in
          let (s0, fine, q) = last_round (entries_of program.functions) (start program) (start_fine program valid) in
          (s0, fine, ap (λ n. rounds program n (start program)) e ∙ q)

      final : Final M (round program last.0)
      final = subst (Final M) last.2 (is_settled program, λ g k. refl)

      all : (j : ℕ) (d : Function) → slice_get program.functions j ≡ Some d → Rules program M (0 + j)
      all = (functions_full program valid M program.functions 0 (λ j c h. let z : 0 + j ≡ j = omega arith in
          ap (function_at program) z ∙ ap (λ o. unwrap_or o no_function) h)
          (λ j d h. (sites_each program.functions valid.sites j d h, declared_at_most j d h))
          (record { rows = last.0.rows; grew = false }) last.1).1 final

      by_function : (o : Option Function) → slice_get program.functions f ≡ o → Rules program M f
      by_function None q = empty_rules program valid M f (ap (λ o. unwrap_or o no_function) q)
      by_function (Some d) q = let z : 0 + f ≡ f = omega arith in subst (Rules program M) z (all f d q)

  -- what varies is a variable of the program

  there_is : (f : ℕ) → (function_at program f ≡ no_function → ⊥) → f < length program.functions
  there_is f ne = by_function (slice_get program.functions f) refl
    where
      by_function : (o : Option Function) → slice_get program.functions f ≡ o → f < length program.functions
      by_function (Some d) q = slice_get_within program.functions f d q
      by_function None q = absurd (ne (ap (λ o. unwrap_or o no_function) q))

  below_parameters : (n x : ℕ) → Has (numbers_below n) x → x < n
  below_parameters zero x h = absurd h
  below_parameters (suc n) x (inl e) = omega (arith, e)
  below_parameters (suc n) x (inr h) = let l = below_parameters n x h in omega (arith, l)

  few_parameters : (f : ℕ) → (function_at program f).parameters ≤ length (function_at program f).variables
  few_parameters f = by_function (slice_get program.functions f) refl
    where
      by_function : (o : Option Function) → slice_get program.functions f ≡ o →
          (unwrap_or o no_function).parameters ≤ length (unwrap_or o no_function).variables
      by_function (Some d) q = (valid.functions f d q).parameters
      by_function None q = omega arith

  in_range : (f x : ℕ) → Has (numbers_below (function_at program f).parameters) x →
      x < length (function_at program f).variables
  in_range f x has = let l = below_parameters (function_at program f).parameters x has in let m =
      few_parameters f in omega (arith, l, m)

  abbrev Ranged : Subject → Type 0
  Ranged (AVariable f x) = Exists program f (Cell x)
  Ranged (AResult f) = Unit {0}
  Ranged (AnExpression f e) = Unit {0}

  ranged : {x : Subject} → Varies program x → Ranged x
  ranged (own_id h) = tt
  ranged (loaded h) = tt
  ranged (named v) = tt
  ranged (operand st m v) = tt
  ranged (stored at v) = tt
  ranged updated = tt
  ranged (tested v) = tt
  ranged (chosen v) = tt
  ranged (otherwise v) = tt
  ranged (called v) = tt
  ranged (passed {f = f} {g = g} {n = n} {e = e} site roots arguments ne m at v) =
      let l = length_take (function_at program g).parameters (function_at program g).variables in
      let fits : (g < length program.functions) ×
      ((ts : List _) × HaveTypes program (function_at program f) arguments ts ×
      ArgumentsFit program (function_at program f) (parameter_kinds (function_at program g)) roots ts) =
      elim (typed_of_all program (function_at program f) (function_at program f).body (typed_body program valid f)
      (Call site g roots arguments) (λ y d q. cc q) m) [
        | inl h ↦ (h.1.0.within, h.1.1)
        | inr h ↦
            (h.0.within, h.1)
      ] in
      let (ts, have, fit) = fits.1 in
      let k = argument_within program (function_at program f) (parameter_kinds (function_at program g)) roots
      arguments ts n e fit have at in
      (fits.0, omega (arith, l, k))
  ranged (returning m v) = tt
  ranged (return_under c m v h) = tt
  ranged (return_beside c m v x b) = tt
  ranged (assigned {f = f} {x = x} {action = action} {operands = operands} m s v) = (
    there_is f (λ q. subst (λ (d : Function). IsOneOf (expressions_of_list d.body) (Apply action operands)) q m),
    set_range_list program (function_at program f) action operands x s (function_at program f).body
        (numbers_below (function_at program f).parameters) (scoped_body program valid f) (typed_body program valid f)
        (in_range f) m,
  )
  ranged (assigned_under {f = f} {x = x} c m v has h) = (
    there_is f (λ q. subst (λ (d : Function). IsOneOf (conditions d) c) q m),
    condition_range_list program (function_at program f) (function_at program f).body
        (numbers_below (function_at program f).parameters) (typed_body program valid f) (in_range f) c m x has,
  )
  ranged (exit_under {f = f} {x = x} c m v has out b) = (
    there_is f (λ q. subst (λ (d : Function). IsOneOf (conditions d) c) q m),
    condition_range_list program (function_at program f) (function_at program f).body
        (numbers_below (function_at program f).parameters) (typed_body program valid f) (in_range f) c m x has,
  )

  -- the lists that the analysis answers say which variables vary, both ways
  pub varying_exact : SaysVarying program (varying_of program)
  varying_exact f x = (
    (λ h.
        let (e, at, v) = marked_row (known_of program).rows f x h in
        ((known_fine program valid).0 f (Cell x) e at).0 v),
    λ h.
        let (e, at) = (known_fine program valid).1 f (Cell x) (ranged h) in
        let same : entry (known_of program) f (Cell x) ≡ e =
        entry_is (known_of program) f (Cell x) ∙ ap (λ o. unwrap_or o absent) at in
        row_marked (known_of program).rows f x e at (ap (λ (d : Entry). d.varies) (sym same) ∙
        marked program valid M rules h),
  )
