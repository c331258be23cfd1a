-- Both go together through the statements of a function.
use Rattle.std.proofs.Common.{◌≡◌, ℕ, ◌+◌, ◌<◌, ◌≤◌, pos, length, Some, None, refl, sym, ◌∙◌, subst, arith, ◌⊎◌, inl}
use Rattle.std.proofs.Common.{inr}
use Rattle.std.proofs.Common.{Bool as Test, true, false}
use Rattle.std.specs.Prelude.{nat_eq, ◌&&◌, ◌||◌}
use Rattle.std.proofs.lemmas.Bool.{or_left, or_right}
use Rattle.std.proofs.lemmas.Option.{none-some, slice_get_within}
use Rattle.wg_num.specs.declared.types.IntType.{IntType}
use Rattle.wg_num.specs.declared.types.IntType.TheVariants.{Int}
use Rattle.cl_model.specs.Tree.{Statement, Do, Declare, Fill, Block, If, Loop, Switch, Break, Continue, Return, Barrier}
use Rattle.cl_model.specs.Tree.{Statements, empty, also, Arms, no_arm, arm, Program, Function}
use Rattle.cl_model.specs.Calls.{function_at}
use Rattle.cl_model.specs.Valid.{Scope, Has, StatementFits, AllFit, ArmsFit, promoted, scope_after, all_declarations}
use Rattle.cl_model.specs.Valid.{arms_declarations}
use Rattle.cl_model.specs.Varying.{assigns_in, assigns_among, assigns_in_optional, assigns, some_assigns, arms_assign}
use Rattle.cl_model.specs.Varying.{returns, some_returns, arms_return, conditions_in, conditions_of_list, AVariable}
use Rattle.cl_model.specs.Varying.{AResult, Varies, assigned, operand, returning, assigned_under, return_under}
use Rattle.kir.specs.declared.line.Atom.{Atom}
use Rattle.kir.specs.declared.line.Atom.TheVariants.{Cell as CellAtom}
use Rattle.kir.specs.Tree.{Copy, Lines, NoLine, ClearThen, IfThen, joined_to, OfValue, Kernel}
use Rattle.kir.specs.Live.{reads, live_in}
use Rattle.kir.specs.Steps.{atom_value}
use Rattle.kir_lower.specs.Made.{Made, Instance, next_cell, with_cell, int, constant, type_at, element_at}
use Rattle.kir_lower.specs.Ways.{way_out, way_out_of_all, way_out_of_arms, declares}
use Rattle.kir_lower.specs.Actions.{set_to, opened, round_code, selected, initial_lines, fallen_code, guarded_before}
use Rattle.kir_lower.specs.Code.{Calls, expression_code, operands_code, optional_code, is_guarded, in_order, set_exit}
use Rattle.kir_lower.specs.Code.{entry_code, around_arm, statement_code, list_code, arms_code}
use Rattle.kir_uniform.specs.Uniform.{sets_in}
use Rattle.kir_uniform.specs.Does.{Cells, Who}
use Rattle.kir_uniform.proofs.Living.{true_or_false}
use Rattle.kir_uniform.proofs.Alike.{same_self, put_here, put_other}
use Rattle.diverge_sound.proofs.Parts.{good_declare, good_fill, good_block, good_if, good_loop, good_switch}
use Rattle.diverge_sound.proofs.Parts.{good_return, good_also, good_arm, if_condition, switch_condition, in_left}
use Rattle.diverge_sound.proofs.Parts.{in_right}
use Rattle.diverge_sound.proofs.Values.{InBody, UnderBody, BackBody}
use Rattle.kir_lower_shape.proofs.Quiet.{Quiet, quiet_none, quiet_set, quiet_if, quiet_clear}
use Rattle.kir_lower_shape.proofs.Steps.{IsApart, IsFree, ListQuiet, initial_quiet, guarded_quiet, list_joined}
use Rattle.kir_lower_shape.proofs.Scoped.{all_have, return_type, free_first, free_second}
use Rattle.kir_lower_shape.proofs.Absent.{next_more}
use Rattle.kir_lower_shape.proofs.AbsentCode.{expression_up, optional_up, opened_up, statement_up, list_up}
use Rattle.kir_lower_shape.proofs.AbsentSteps.{all_labels_up}
use Rattle.kir_lower_shape.proofs.Across.{out_below}
use Rattle.kir_lower_shape.proofs.Anew.{list_quiet, arms_quiet}
use Rattle.kir_lower_uniform.specs.Together.{Equal, Together}
use Rattle.kir_lower_uniform.proofs.Places.{together_then}
use Rattle.kir_lower_uniform.proofs.Rules.{branch_kept, together_seq, together_set, together_if}
use Rattle.kir_lower_uniform.proofs.UnsetCode.{operands_unset, list_unset, arms_unset, selected_up, entry_up, fallen_up}
use Rattle.kir_lower_uniform.proofs.Ground.{Even, Grown, value_not_even, statement_back, list_back, arms_back}
use Rattle.kir_lower_uniform.proofs.Ground.{outward_back, round_back, selected_back, fallen_back, optional_back}
use Rattle.kir_lower_uniform.proofs.Fresh.{AtomIn, atom_not_read, values_not_read, expression_in, operands_in}
use Rattle.kir_lower_uniform.proofs.Setting.{Setting, Known, Bound, bound_before, ScopeWithin, known_below}
use Rattle.kir_lower_uniform.proofs.Acts.{V, Same, apart_above}
use Rattle.kir_lower_uniform.proofs.Evaluated.{off_above, ValueEqual, expression_together, operands_together}
use Rattle.kir_lower_uniform.proofs.Scopes.{undeclared, undeclared_list, declares_none, way_exits, some_or_none}
use Rattle.kir_lower_uniform.proofs.Scopes.{way_first, way_second}
use Rattle.kir_lower_uniform.proofs.Guards.{AnswerEqual, Settled, AllSettled, ArmsSettled, Covers, covers_given}
use Rattle.kir_lower_uniform.proofs.Guards.{covers_both, known_clear, above_clear, before_inside, before_behind}
use Rattle.kir_lower_uniform.proofs.Exits.{IsSome, Pending, pending_more, pending_opened, free_even, apart_is}
use Rattle.kir_lower_uniform.proofs.Exits.{outside_kept}
use Rattle.kir_lower_uniform.proofs.Arms.{all_back}
use Rattle.kir_lower_uniform.proofs.Entries.{ArmEqual, arm_together}
use Rattle.kir_lower_uniform.proofs.Switches.{switch_together}
use Rattle.kir_lower_uniform.proofs.Loops.{GR, IsPart, StatementGo, bound_after, loop_together}
use Rattle.kir_lower_uniform.proofs.Parts.{inner_true, list_parts, declared_declares, GL, GM, within_after, part_left}
use Rattle.kir_lower_uniform.proofs.Parts.{part_right, part_behind, all_settled, covers_first, covers_all}
use Rattle.kir_lower_uniform.proofs.PlainStatements.{answer_above, stores_together, bound_set, rest_grown}
use Rattle.kir_lower_uniform.proofs.PlainStatements.{branches_unset, list_all_unset, cover_after, return_result}
use Rattle.kir_lower_uniform.proofs.PlainStatements.{list_from, fallen_in, expression_outside, do_together}
use Rattle.kir_lower_uniform.proofs.PlainStatements.{exit_together}
use Rattle.kir_lower_uniform.proofs.PlainStatements as plain

module _ (program : Program) (kernel : Kernel) (one other : Who) (fn : ℕ) (calls : Calls) (here : Instance)
    (set : Setting program kernel one other fn calls here) where
  abbrev F : Function
  F = function_at program fn

  abbrev Size : ℕ
  Size = length (function_at program fn).variables

  abbrev E : ℕ → Type 0
  E = Even program kernel

  abbrev Go : (ℕ → Test) → Lines → (Cells → Cells → Type 0) → Cells → Cells → Type 0
  Go out lines Q p q = Together (Even program kernel) one other out lines Q p q

  abbrev Ans : Cells → Cells → Type 0
  Ans p q = AnswerEqual program kernel one other fn calls here set p q

  abbrev Part : (ℕ → Test) → Test → Type 0
  Part a r = IsPart program kernel one other fn calls here set a r

  abbrev Pend : Type 0 → ℕ → ℕ → Type 0
  Pend W exit n = Pending program kernel one other fn calls here set W exit n

  abbrev Within : Scope → Type 0
  Within scope = ScopeWithin program kernel here Size scope

  abbrev B : Scope → (ℕ → Test) → Type 0
  B scope out = Bound program kernel here scope out

  abbrev Ends : Type 0 → ℕ → Scope → Statement → Cells → Cells → Type 0
  Ends = plain.Ends program kernel one other fn calls here set

  mutual
    unfolding statement_code expression_code

    pub statement_together : (W : Type 0) (exit : ℕ) (s : Statement) (scope : Scope) (m : Made) →
        StatementFits program F s → GR program kernel one other fn calls here set scope s →
        Part (assigns s) (returns s) → Within scope → here.base + Size ≤ next_cell m
        → Pend W exit (next_cell m) → ((site : ℕ) → way_out true true s ≡ Some site → W) →
        Grown program kernel (statement_code calls here exit s m).made →
        StatementGo program kernel one other fn calls here set W exit scope s
        (statement_code calls here exit s m).lines
    statement_together W exit (Do e) scope m h good part within low pend opens g =
        do_together program kernel one other fn calls here set W exit e scope m h good within low pend g
    statement_together W exit (Declare x None) scope m h good part within low pend opens g =
        λ out p q bound al x0 ans.
        let less = slice_get_within F.variables x h.1.0 h.1.1 in
        let to = here.base + x in
        together_set E one other out to (Copy (constant (pos 0) (type_at here x)).atom)
        (Ends W exit scope (Declare x None)) p q al (λ e l. refl) (
          (λ st w. let l = pend.above w in let u = apart_above to exit (omega (arith, l, less)) in
              put_other p to exit (pos 0) u ∙ (x0 w ∙ sym (put_other q to exit (pos 0) u))),
          λ t r nv. let l = answer_above program kernel one other fn calls here set in let u =
              apart_above to here.answer (omega (arith, l, less)) in
              put_other p to here.answer (pos 0) u ∙ (ans t r nv ∙ sym (put_other q to here.answer (pos 0) u)),
        )
    statement_together W exit (Declare x (Some e)) scope m h good part within low pend opens g =
        λ out p q bound al x0 ans.
        let less = slice_get_within F.variables x h.1.0 h.1.1 in
        let to = here.base + x in
        let ce = expression_code calls here e m in
        let k = good_declare (InBody program fn) (UnderBody program fn) (BackBody program fn) scope x e good in
        let value_in = expression_in program kernel calls set.up set.back here set.fresh e m g in
        let nr : (c : ℕ) → E c → reads c ce.value.atom ≡ false = λ c ev. atom_not_read program kernel (next_cell m)
        (next_cell ce.made) ce.value.atom c value_in ev in
        together_seq E one other out ce.lines (set_to to ce.value.atom) (λ a b. ValueEqual program kernel one other fn
        calls here set e ce.value.atom a b) (Ends W exit scope (Declare x (Some e))) p q al
        (λ al'. expression_together program kernel one other fn calls here set e h.0 scope m
        (λ c. live_in c (set_to to ce.value.atom) (out c)) p q h.2 k.1 within low g
        (bound_set program kernel one other fn calls here set x ce.value.atom scope out nr bound) al')
        (λ a b d1 d2 al1 same. let o = expression_outside program kernel one other fn calls here set W exit e scope m p
        q a b (inl (h.0, h.2)) pend d1 d2
        (x0, ans) in
        together_set E one other out to (Copy ce.value.atom) (Ends W exit scope (Declare x (Some e))) a b al1
        (λ ev l. same (λ v. set.marked x less ev (assigned k.0 (same_self x) (operand refl (inl refl) v)))) (
          (λ st w. let l = pend.above w in let u = apart_above to exit (omega (arith, l, less)) in
              put_other a to exit (atom_value a ce.value.atom) u ∙
              (o.0 w ∙ sym (put_other b to exit (atom_value b ce.value.atom) u))),
          λ t r nv. let l = answer_above program kernel one other fn calls here set in let u =
              apart_above to here.answer (omega (arith, l, less)) in
              put_other a to here.answer (atom_value a ce.value.atom) u ∙
              (o.1 t r nv ∙ sym (put_other b to here.answer (atom_value b ce.value.atom) u)),
        ))
    statement_together W exit (Fill site array values) scope m h good part within low pend opens g =
        λ out p q bound al x0 ans.
        let cv = operands_code calls here values m in
        let k = all_have program F values _ h.3 in
        let number = here.arrays + array in
        let stores = initial_lines site (element_at here array) number 0 cv.values in
        let all = operands_in program kernel calls set.up set.back here set.fresh values m g in
        let quiet : (c : ℕ) → E c → IsApart c here scope → Quiet c (ClearThen number stores) false =
        λ c e ap_. quiet_clear c number stores false
        (initial_quiet c site _ _ 0 cv.values (values_not_read program kernel (next_cell m) (next_cell cv.made)
        cv.values c all e)) in
        together_seq E one other out cv.lines (ClearThen number stores)
        (Same program kernel one other fn values cv.values) (Ends W exit scope (Fill site array values)) p q al
        (λ al'. operands_together program kernel one other fn calls here set values k.0 scope m
        (λ c. live_in c (ClearThen number stores) (out c)) p q k.1
        (good_fill (InBody program fn) (UnderBody program fn) (BackBody program fn) scope site array values
        good) within low g
        (bound_before program kernel here (ClearThen number stores) scope out quiet bound) al')
        (λ a b d1 d2 al1 same.
        let un : (c : ℕ) → here.base + Size ≤ c → c < next_cell m → sets_in c cv.lines ≡ false =
        λ c l u. (operands_unset program c calls set.up (set.unset c) F here values k.0 k.1
        (off_above c Size here (assigns_among values) l) m (out_below c _ _ u)).is in
        let o = outside_kept program kernel one other fn calls here set W exit cv.lines p q a b
        (λ w. un exit (pend.above w) (pend.below w))
        (λ t r. un here.answer (answer_above program kernel one other fn calls here set) (pend.result_below t r))
        d1 d2 (x0, ans) in (
          al1,
          stores_together program kernel one other fn calls here set site (element_at here array) number 0 cv.values
              out (Ends W exit scope (Fill site array values)) a b al1 ((λ st. o.0), o.1),
        ))
    statement_together W exit (Block list) scope m h good part within low pend opens g =
        λ out p q bound al x0 ans.
        let cl = list_code calls here exit false list m in
        together_then E one other out (joined_to cl.inside cl.rest)
        (λ a b. (AllSettled program kernel one other fn calls here set scope list → W → a exit ≡ b exit) ×
        Ans a b) (Ends W exit scope (Block list)) p q
        (list_from program kernel one other fn calls here set W exit list scope m out p q al
        (λ al_. inside_together W exit false list scope m h (good_block (InBody program fn) (UnderBody program fn)
        (BackBody program fn) scope list good) part within low pend opens g out p q bound al_ x0 ans)
        (λ a_ b_ al_ pre_ an_. behind_together W exit false list scope m h
        (good_block (InBody program fn) (UnderBody program fn) (BackBody program fn) scope list good) part
        within low pend opens g out (Unit {0}) (λ z. tt) (covers_given program kernel one other fn calls here
        set (Unit {0}) scope tt) a_ b_ bound al_ pre_ an_))
        (λ a b d1 d2 al1 z. ((λ st. z.0 (all_settled program kernel one other fn calls here set list scope st)), z.1))
    statement_together W exit (If site test yes_ no_) scope m h good part within low pend opens g =
        λ out p q bound al x0 ans.
        let ct = expression_code calls here test m in
        let cy = list_code calls here exit false yes_ ct.made in
        let cn = list_code calls here exit false no_ cy.made in
        let ly = joined_to cy.inside cy.rest in
        let ln = joined_to cn.inside cn.rest in
        let branch = IfThen site ct.value.atom ly ln NoLine in
        let gy = list_back program kernel calls set.back here exit false no_ cy.made g in
        let gt = list_back program kernel calls set.back here exit false yes_ ct.made gy in
        let a = expression_up calls set.up here test m in
        let b = list_up calls set.up here exit false yes_ ct.made in
        let k = good_if (InBody program fn) (UnderBody program fn) (BackBody program fn) scope site test
        yes_ no_ good in
        let cond = if_condition scope test yes_ no_ in
        let part' = part_behind program kernel one other fn calls here set (assigns_in test)
        (λ x. some_assigns yes_ x || some_assigns no_ x) (some_returns yes_ || some_returns no_) part in
        let free : (c : ℕ) → E c → IsFree c exit (way_out true true (If site test yes_ no_)) =
        λ c e s w. free_even program kernel one other fn calls here set exit c (pend.plain (opens s w)) e in
        let test_in = expression_in program kernel calls set.up set.back here set.fresh test m gt in
        let quiet : (c : ℕ) → E c → IsApart c here scope → Quiet c branch false =
        λ c e ap_. quiet_if c site ct.value.atom ly ln NoLine false
        (atom_not_read program kernel (next_cell m) (next_cell ct.made) ct.value.atom c test_in e)
        (quiet_none c false refl)
        (list_joined c false cy (list_quiet program c calls (set.quiet c) F here exit false yes_ scope h.1 k.2.names ap_
        (free_first c exit _ _ (free c e)) ct.made))
        (list_joined c false cn (list_quiet program c calls (set.quiet c) F here exit false no_ scope h.2 k.3.names
        ap_ (free_second c exit (way_out_of_all true true yes_) _ (free c e)) cy.made)) in
        let pend_t = pending_more program kernel one other fn calls here set W exit (next_cell m)
        (next_cell ct.made) a pend in
        let pend_y = pending_more program kernel one other fn calls here set W exit (next_cell m) (next_cell cy.made)
        (omega (arith, a, b)) pend in
        let Q = Ends W exit scope (If site test yes_ no_) in
        together_seq E one other out ct.lines branch (λ x y. ValueEqual program kernel one other fn calls here set test
        ct.value.atom x y) Q p q al
        (λ al'. expression_together program kernel one other fn calls here set test h.0.0 scope m
        (λ c. live_in c branch (out c)) p q h.0.1 k.1 within low gt
        (bound_before program kernel here branch scope out quiet bound) al')
        (λ a1 b1 d1 e1 al1 s1.
        let o = expression_outside program kernel one other fn calls here set W exit test scope m p q a1 b1 (inl h.0)
        pend d1 e1 (x0, ans) in
        together_if E one other out site ct.value.atom ly ln Q a1 b1 al1
        (λ nx ny al2. together_then E one other out ly
        (λ x y. (AllSettled program kernel one other fn calls here set scope yes_ → W → x exit ≡ y exit)
        × Ans x y) Q a1 b1
        (list_from program kernel one other fn calls here set W exit yes_ scope ct.made out a1 b1 al2
        (λ al_. inside_together W exit false yes_ scope ct.made h.1 k.2
        (part_left program kernel one other fn calls here set (some_assigns yes_) (some_assigns no_)
        (some_returns yes_) (some_returns no_) part') within (omega (arith, low, a)) pend_t
        (λ s w. let z = way_first (way_out_of_all true true yes_) (way_out_of_all true true no_) s w in
        opens z.0 z.1) gy out a1 b1 bound al_ o.0 o.1)
        (λ a_ b_ al_ pre_ an_. behind_together W exit false yes_ scope ct.made h.1 k.2
        (part_left program kernel one other fn calls here set (some_assigns yes_) (some_assigns no_)
        (some_returns yes_) (some_returns no_) part') within (omega (arith, low, a)) pend_t
        (λ s w. let z = way_first (way_out_of_all true true yes_) (way_out_of_all true true no_) s w in
        opens z.0 z.1) gy out (Unit {0}) (λ z. tt) (covers_given program kernel one other fn calls here set
        (Unit {0}) scope tt) a_ b_ bound al_ pre_ an_))
        (λ x y d2 e2 z t. (
          (λ st. t.0 (all_settled program kernel one other fn calls here set yes_ scope
              (λ s w c i. let z = way_first (way_out_of_all true true yes_) (way_out_of_all true true no_) s w in
              st z.0 z.1 c (inr (in_right (conditions_in scope test) _ c
              (in_left (conditions_of_list scope yes_) (conditions_of_list scope no_) c i)))))),
          t.1,
        )))
        (λ nx ny al2. together_then E one other out ln
        (λ x y. (AllSettled program kernel one other fn calls here set scope no_ → W → x exit ≡ y exit)
        × Ans x y) Q a1 b1
        (list_from program kernel one other fn calls here set W exit no_ scope cy.made out a1 b1 al2
        (λ al_. inside_together W exit false no_ scope cy.made h.2 k.3
        (part_right program kernel one other fn calls here set (some_assigns yes_) (some_assigns no_)
        (some_returns yes_) (some_returns no_) part') within (omega (arith, low, a, b)) pend_y
        (λ s w. let z = way_second (way_out_of_all true true yes_) (way_out_of_all true true no_) s w in
        opens z.0 z.1) g out a1 b1 bound al_ o.0 o.1)
        (λ a_ b_ al_ pre_ an_. behind_together W exit false no_ scope cy.made h.2 k.3
        (part_right program kernel one other fn calls here set (some_assigns yes_) (some_assigns no_)
        (some_returns yes_) (some_returns no_) part') within (omega (arith, low, a, b)) pend_y
        (λ s w. let z = way_second (way_out_of_all true true yes_) (way_out_of_all true true no_) s w in
        opens z.0 z.1) g out (Unit {0}) (λ z. tt) (covers_given program kernel one other fn calls here set
        (Unit {0}) scope tt) a_ b_ bound al_ pre_ an_))
        (λ x y d2 e2 z t. (
          (λ st. t.0 (all_settled program kernel one other fn calls here set no_ scope
              (λ s w c i. let z = way_second (way_out_of_all true true yes_) (way_out_of_all true true no_) s w in
              st z.0 z.1 c (inr (in_right (conditions_in scope test) _ c
              (in_right (conditions_of_list scope yes_) (conditions_of_list scope no_) c i)))))),
          t.1,
        )))
        (λ df c e o'. let kn = bound c e o' in let below = known_below program kernel here Size scope (next_cell m) c
        within low kn in
        branches_unset program kernel one other fn calls here set exit yes_ no_ ct.made c h.1 h.2 (free c e)
        (known_clear program kernel one other fn calls here set scope c (λ x. some_assigns yes_ x ||
        some_assigns no_ x) (λ x. all_declarations yes_ x + all_declarations no_ x) (some_returns yes_ ||
        some_returns no_) within kn
        (λ x has ec z. df (s1 (λ v. set.marked x (within x has) (subst E ec e) (assigned_under cond k.0 v has z))))
        (λ x has. undeclared (If site test yes_ no_) scope x good.names has)) (omega (arith, below, a)))
        (λ df a2 b2 d2 e2. (
          (λ st w. elim (some_or_none (way_out true true (If site test yes_ no_))) [
            | inl kk ↦ absurd (df (s1 (st kk.0 kk.1 cond (inl refl)
                (way_exits true true (If site test yes_ no_) kk.0 kk.1))))
            | inr nn ↦
                let u = branches_unset program kernel one other fn calls here set exit yes_ no_ ct.made exit h.1 h.2
                (λ s w'. absurd (none-some s (sym nn ∙ w')))
                (above_clear program kernel one other fn calls here set exit (λ x. some_assigns yes_ x ||
                some_assigns no_ x) (λ x. all_declarations yes_ x + all_declarations no_ x)
                (some_returns yes_ || some_returns no_) (pend.above w)
                (λ r t e. apart_is program kernel one other fn calls here set exit here.answer (pend.no_result w t e)))
                (let z = pend.below w in omega (arith, z, a)) in
                branch_kept one ct.value.atom ly ln a1 a2 exit d2 u
                ∙ (o.0 w ∙ sym (branch_kept other ct.value.atom ly ln b1 b2 exit e2 u))
          ]),
          (λ t r nv. elim (true_or_false (some_returns yes_ || some_returns no_)) [
            | inl rr ↦ absurd (df (s1 (λ v. nv (return_under cond k.0 v rr))))
            | inr rr ↦
                let u = branches_unset program kernel one other fn calls here set exit yes_ no_ ct.made
                here.answer h.1 h.2
                (λ s w'. apart_is program kernel one other fn calls here set here.answer exit
                (λ z. pend.no_result (opens s w') t r (sym z)))
                (above_clear program kernel one other fn calls here set here.answer (λ x. some_assigns yes_ x ||
                some_assigns no_ x) (λ x. all_declarations yes_ x + all_declarations no_ x)
                (some_returns yes_ || some_returns no_) (answer_above program kernel one other fn calls here set)
                (λ z. absurd (let y : true ≡ false = sym z ∙ rr in cc))) (let z = pend.result_below t r in
                omega (arith, z, a)) in
                branch_kept one ct.value.atom ly ln a1 a2 here.answer d2 u
                ∙ (o.1 t r nv ∙ sym (branch_kept other ct.value.atom ly ln b1 b2 here.answer e2 u))
          ]),
        )))
    statement_together W exit (Loop site first test step body) scope m h good part within low pend opens g =
        let way = way_out true true body in
        let co = opened way exit m in
        let ct = optional_code calls here test co.made in
        let cs = optional_code calls here step ct.made in
        let cb = statement_code calls here co.exit body cs.made in
        let cr = round_code site first way co.exit ct.lines ct.value cs.lines cb.lines cb.made in
        let gr = outward_back program kernel (way_out false false body) co.exit exit cr.made g in
        let gb = round_back program kernel site first way co.exit ct.lines ct.value cs.lines cb.lines cb.made gr in
        let gs = statement_back program kernel calls set.back here co.exit body cs.made gb in
        let gt = optional_back program kernel calls set.back here step ct.made gs in
        let go_ = optional_back program kernel calls set.back here test co.made gt in
        let a = opened_up way exit m in
        let b = optional_up calls set.up here test co.made in
        let d = optional_up calls set.up here step ct.made in
        let k = good_loop (InBody program fn) (UnderBody program fn) (BackBody program fn) scope site first test step
        body good in
        let part1 = part_behind program kernel one other fn calls here set (assigns_in_optional test)
        (λ x. assigns_in_optional step x || assigns body x) (returns body) part in
        let part2 = part_behind program kernel one other fn calls here set (assigns_in_optional step) (assigns body)
        (returns body) part1 in
        loop_together program kernel one other fn calls here set W exit site first test step body scope m h good part
        within low pend opens g
        (statement_together (IsSome way) co.exit body scope cs.made h.2 k.3 part2 within (omega (arith, low, a, b, d))
        (pending_more program kernel one other fn calls here set (IsSome way) co.exit (next_cell co.made)
        (next_cell cs.made) (omega (arith, b, d)) (pending_opened program kernel one other fn calls here set W
        exit way m low go_ pend)) (λ s w. (s, w)) gb)
    statement_together W exit (Switch site value arms) scope m h good part within low pend opens g =
        let way = way_out_of_arms true true arms in
        let cv = expression_code calls here value m in
        let co = opened way exit cv.made in
        let cs = selected site cv.value arms co.made in
        let ca = arms_code calls here co.exit site cs.value.atom (int (pos 0)) 0 arms cs.made in
        let ga = outward_back program kernel (way_out_of_arms false true arms) co.exit exit ca.made g in
        let gs = arms_back program kernel calls set.back here co.exit site cs.value.atom
        (int (pos 0)) 0 arms cs.made ga in
        let go_ = selected_back program kernel site cv.value arms co.made gs in
        let a = expression_up calls set.up here value m in
        let b = opened_up way exit cv.made in
        let d = selected_up site cv.value arms co.made in
        let k = good_switch (InBody program fn) (UnderBody program fn) (BackBody program fn) scope site
        value arms good in
        let pend_o = pending_opened program kernel one other fn calls here set W exit way cv.made (omega (
          arith,
          low,
          a,
        )) go_ (pending_more program kernel one other fn calls here set W exit (next_cell m)
        (next_cell cv.made) a pend) in
        let pend_s = pending_more program kernel one other fn calls here set (IsSome way) co.exit (next_cell co.made)
        (next_cell cs.made) d pend_o in
        let part1 = part_behind program kernel one other fn calls here set (assigns_in value) (arms_assign arms)
        (arms_return arms) part in
        let cond = switch_condition scope value arms in
        let m1 = with_cell co.made OfValue (promoted cv.value.of) in
        let ch = next_cell m1 in
        let one_more = next_more co.made OfValue (promoted cv.value.of) in
        let two_more = next_more m1 OfValue Int in
        let three_more = all_labels_up site (record { atom = CellAtom (next_cell co.made); of = promoted cv.value.of })
        ch 0 arms (with_cell m1 OfValue Int) in
        let g2 = all_back program kernel one other fn calls here set site
        (record { atom = CellAtom (next_cell co.made); of = promoted cv.value.of }) ch 0 arms
        (with_cell m1 OfValue Int) gs in
        switch_together program kernel one other fn calls here set W exit site value arms scope m h good within
        low pend opens g
        (λ c l u fr an. (arms_unset program c calls set.up (set.unset c) F here co.exit site cs.value.atom (int (pos 0))
        0 arms h.3 fr
        (above_clear program kernel one other fn calls here set c (arms_assign arms) (arms_declarations arms)
        (arms_return arms) l (λ r. an)) cs.made (out_below c _ _ (omega (arith, u, a, b, d)))).is)
        (arms_together (IsSome way) co.exit ch (V program kernel one other fn value → ⊥) site arms scope 0
        (int (pos 0)) cs.made (Unit {0}) h.3 k.2 part1 within (omega (arith, low, a, b, d)) pend_s (λ s w. (
          s,
          w,
        )) ga (omega (arith, two_more, three_more)) (omega (arith, low, a, b, one_more))
        (value_not_even program kernel m1 Int g2) (λ w z. let y = pend_o.below w in
        omega (arith, y, z, one_more)) (λ t r z. let y = pend_o.result_below t r in
        omega (arith, y, z, one_more)) tt
        (covers_given program kernel one other fn calls here set (Unit {0}) scope tt) (λ y has nv asg v.
        nv (assigned_under cond k.0 v has asg)) (λ r nv v. nv (return_under cond k.0 v r)))
    statement_together W exit (Break site) scope m h good part within low pend opens g =
        λ out p q bound al x0 ans. exit_together program kernel one other fn calls here set W exit scope (Break site) 2
        (next_cell m) (opens site refl) pend out
        p q al ans
    statement_together W exit (Continue site) scope m h good part within low pend opens g =
        λ out p q bound al x0 ans. exit_together program kernel one other fn calls here set W exit scope (Continue site)
        1 (next_cell m) (opens site refl) pend
        out p q al ans
    statement_together W exit (Return site None) scope m h good part within low pend opens g =
        λ out p q bound al x0 ans. exit_together program kernel one other fn calls here set W exit scope
        (Return site None) 3 (next_cell m) (opens site refl)
        pend out p q al ans
    statement_together W exit (Return site (Some e)) scope m h good part within low pend opens g =
        λ out p q bound al x0 ans.
        let ce = expression_code calls here e m in
        let kt = return_type program F F.result e h in
        let kr = return_result program kernel one other fn calls here set F.result e h in
        let k = good_return (InBody program fn) (UnderBody program fn) (BackBody program fn) scope site e good in
        let w = opens site refl in
        let s1 = set_to here.answer ce.value.atom in
        let s2 = set_exit exit 3 in
        let Q = Ends W exit scope (Return site (Some e)) in
        let value_in = expression_in program kernel calls set.up set.back here set.fresh e m g in
        let quiet : (c : ℕ) → E c → IsApart c here scope → Quiet c (joined_to s1 s2) false =
        λ c ev ap_. quiet_set c here.answer (Copy ce.value.atom) s2 false
        (atom_not_read program kernel (next_cell m) (next_cell ce.made) ce.value.atom c value_in ev)
        (λ z. quiet_set c exit (Copy (int (pos 3))) NoLine false refl (λ z2. quiet_none c false refl)) in
        together_seq E one other out ce.lines (joined_to s1 s2) (λ x y. ValueEqual program kernel one other fn calls
        here set e ce.value.atom x y) Q p q al
        (λ al'. expression_together program kernel one other fn calls here set e kt.0 scope m
        (λ c. live_in c (joined_to s1 s2) (out c)) p q kt.1 k.1 within low g
        (bound_before program kernel here (joined_to s1 s2) scope out quiet bound) al')
        (λ a1 b1 d1 e1 al1 same. together_seq E one other out s1 s2 Ans Q a1 b1 al1
        (λ al'. together_set E one other (λ c. live_in c s2 (out c)) here.answer (Copy ce.value.atom) Ans a1 b1 al'
        (λ ev l. absurd (pend.result_plain kr.0 kr.1 ev))
        (λ t r nv. put_here a1 here.answer here.answer (atom_value a1 ce.value.atom) (same_self here.answer) ∙
        (same (λ v. nv (returning k.0 v)) ∙
        sym (put_here b1 here.answer here.answer (atom_value b1 ce.value.atom) (same_self here.answer)))))
        (λ a2 b2 d2 e2 al2 an. exit_together program kernel one other fn calls here set W exit scope
        (Return site (Some e)) 3 (next_cell m) w pend out a2 b2 al2
        an))
    statement_together W exit (Barrier site) scope m h good part within low pend opens g =
        λ out p q bound al x0 ans. (al, (al, ((λ st. x0), ans)))

    pub inside_together : (W : Type 0) (exit : ℕ) (guarded : Test) (list : Statements) (scope : Scope) (m : Made) →
        AllFit program F list → GL program kernel one other fn calls here set scope list →
        Part (some_assigns list) (some_returns list) → Within scope → here.base + Size ≤ next_cell m
        → Pend W exit (next_cell m) → ((site : ℕ) → way_out_of_all true true list ≡ Some site → W) →
        Grown program kernel (list_code calls here exit guarded list m).made
        → (out : ℕ → Test) (p q : Cells) → B scope out →
        Equal E (λ c. live_in c (list_code calls here exit guarded list m).inside
        (live_in c (list_code calls here exit guarded list m).rest (out c))) p q → (W → p exit ≡ q exit) → Ans p q
        → Go (λ c. live_in c (list_code calls here exit guarded list m).rest (out c))
        (list_code calls here exit guarded list m).inside
        (λ a b. (AllSettled program kernel one other fn calls here set scope list → W → a exit ≡ b exit) ×
        Ans a b) p q
    inside_together W exit guarded empty scope m h good part within low pend opens g out p q bound al x0 ans =
        (al, ((λ st. x0), ans))
    inside_together W exit guarded (also s rest) scope m h good part within low pend opens g out p q bound al x0 ans =
        let scope' = scope_after scope s in
        let declared = guarded && declares s in
        let way = way_out true true s in
        let inner = is_guarded declared way guarded in
        let cs = statement_code calls here exit s m in
        let cr = list_code calls here exit inner rest cs.made in
        let S = Settled program kernel one other fn calls here set scope s in
        let A = AllSettled program kernel one other fn calls here set scope' rest in
        let gr = rest_grown program kernel one other fn calls here set exit declared way cs.lines cr g in
        let gs = list_back program kernel calls set.back here exit inner rest cs.made gr in
        let a = statement_up calls set.up here exit s m in
        let k = good_also (InBody program fn) (UnderBody program fn) (BackBody program fn) scope s rest good in
        let within' = within_after program kernel one other fn calls here set scope s h.0 within in
        let part_s = part_left program kernel one other fn calls here set (assigns s) (some_assigns rest) (returns s)
        (some_returns rest) part in
        let part_r = part_right program kernel one other fn calls here set (assigns s) (some_assigns rest) (returns s)
        (some_returns rest) part in
        let opens_s : (site : ℕ) → way ≡ Some site → W = λ t w. let z = way_first way (way_out_of_all true true rest) t
        w in opens z.0 z.1 in
        let opens_r : (site : ℕ) → way_out_of_all true true rest ≡ Some site →
        W = λ t w. let z = way_second way (way_out_of_all true true rest) t w in opens z.0 z.1 in
        let pend_r = pending_more program kernel one other fn calls here set W exit (next_cell m)
        (next_cell cs.made) a pend in
        let bound' = bound_after program kernel one other fn calls here set scope s out bound in
        let free_r : (c : ℕ) → E c → IsFree c exit (way_out_of_all true true rest) =
        λ c e t w. free_even program kernel one other fn calls here set exit c (pend.plain (opens_r t w)) e in
        let quiet_r : (c : ℕ) → E c → IsApart c here scope' → ListQuiet c inner cr =
        λ c e ap_. list_quiet program c calls (set.quiet c) F here exit inner rest scope' h.1 k.1.names ap_
        (free_r c e) cs.made in
        let no_way : declared ≡ true → way ≡ None = λ e. declares_none s true true (declared_declares guarded s e) in
        let settled : ((way ≡ None) ⊎ (declared ≡ true)) →
        S = λ e t w c i. absurd (none-some t (sym (elim e [ inl n ↦ n | inr d ↦ no_way d ]) ∙ w)) in
        let bound_both = bound_before program kernel here (joined_to cr.inside cr.rest) scope' out
        (λ c e ap_. list_joined c inner cr (quiet_r c e ap_)) bound' in
        let bound_rest : inner ≡ true → B scope' (λ c. live_in c cr.rest (out c)) =
        λ t. bound_before program kernel here cr.rest scope' out
        (λ c e ap_. (list_parts c inner cr (quiet_r c e ap_) t).1) bound' in
        let bound_guard : (site : ℕ) → way ≡ Some site →
        B scope' (λ c. live_in c (guarded_before site exit cr.inside cr.rest) (out c)) =
        λ t w. bound_before program kernel here (guarded_before t exit cr.inside cr.rest) scope' out
        (λ c e ap_. let z = list_parts c inner cr (quiet_r c e ap_)
        (inner_true declared way guarded t w no_way) in
        guarded_quiet c t exit cr.inside cr.rest (free_even program kernel one other fn calls here set exit c
        (pend.plain (opens_s t w)) e) z.0 z.1) bound' in
        let unset : (c : ℕ) → E c → Known program kernel here scope' c → ((x : ℕ) → Has scope' x → c ≡ here.base + x →
        some_assigns rest x ≡ true → ⊥) → sets_in c cr.inside ≡ false =
        λ c e kn off. (list_unset program c calls set.up (set.unset c) F here exit inner rest h.1 (free_r c e)
        (known_clear program kernel one other fn calls here set scope' c (some_assigns rest) (all_declarations rest)
        (some_returns rest) within' kn off (λ x has. undeclared_list rest scope' x k.1.names has)) cs.made
        (out_below c _ _ (let z = known_below program kernel here Size scope' (next_cell m) c within' low kn in
        omega (arith, z, a)))).0.is in
        let unset_answer : (t : IntType) → F.result ≡ Some t → some_returns rest ≡ false →
        sets_in here.answer cr.inside ≡ false =
        λ t r nr. (list_unset program here.answer calls set.up (set.unset here.answer) F here exit inner rest h.1
        (λ u w. apart_is program kernel one other fn calls here set here.answer exit
        (λ z. pend.no_result (opens_r u w) t r (sym z)))
        (above_clear program kernel one other fn calls here set here.answer (some_assigns rest)
        (all_declarations rest) (some_returns rest) (answer_above program kernel one other fn calls here set)
        (λ z. absurd (let y : true ≡ false = sym z ∙
        nr in cc))) cs.made
        (out_below here.answer _ _ (let z = pend.result_below t r in omega (arith, z, a)))).0.is in
        before_inside program kernel one other fn calls here set W exit guarded declared way scope' cs.lines cr
        (some_assigns rest) (some_returns rest) S A out
        opens_s settled within' (λ x z. part_r.assigned x z) (λ z. part_r.returned z)
        (covers_first program kernel one other fn calls here set scope s k.0.under)
        (covers_all program kernel one other fn calls here set rest scope' k.1) bound' bound_both bound_rest
        bound_guard unset unset_answer
        (λ out' p' q' bd al' ex an. statement_together W exit s scope m h.0 k.0 part_s within low pend opens_s gs out'
        p' q' bd al' ex an)
        (λ p' q' al' ex an. inside_together W exit inner rest scope' cs.made h.1 k.1 part_r within'
        (omega (arith, low, a)) pend_r opens_r gr out p' q' bound' al' ex an)
        (λ C' free' cover' p' q' al' pre' an. behind_together W exit inner rest scope' cs.made h.1 k.1 part_r within'
        (omega (arith, low, a)) pend_r opens_r gr out C' free' cover' p' q' bound' al' pre' an)
        p q al x0 ans

    pub behind_together : (W : Type 0) (exit : ℕ) (guarded : Test) (list : Statements) (scope : Scope) (m : Made) →
        AllFit program F list → GL program kernel one other fn calls here set scope list →
        Part (some_assigns list) (some_returns list) → Within scope → here.base + Size ≤ next_cell m
        → Pend W exit (next_cell m) → ((site : ℕ) → way_out_of_all true true list ≡ Some site → W) →
        Grown program kernel (list_code calls here exit guarded list m).made
        → (out : ℕ → Test) (C : Type 0) → (guarded ≡ false → C) →
        Covers program kernel one other fn calls here set C scope → (p q : Cells) → B scope out →
        Equal E (λ c. live_in c (list_code calls here exit guarded list m).rest (out c)) p q
        → (C → AllSettled program kernel one other fn calls here set scope list → W → p exit ≡ q exit) → Ans p q
        → Go out (list_code calls here exit guarded list m).rest
        (λ a b. (C → AllSettled program kernel one other fn calls here set scope list → W → a exit ≡ b exit)
        × Ans a b) p q
    behind_together W exit guarded empty scope m h good part within low pend opens g out C free cover p q bound al pre
        ans = (al, (pre, ans))
    behind_together W exit guarded (also s rest) scope m h good part within low pend opens g out C free cover p q bound
        al pre ans =
        let scope' = scope_after scope s in
        let declared = guarded && declares s in
        let way = way_out true true s in
        let inner = is_guarded declared way guarded in
        let cs = statement_code calls here exit s m in
        let cr = list_code calls here exit inner rest cs.made in
        let S = Settled program kernel one other fn calls here set scope s in
        let A = AllSettled program kernel one other fn calls here set scope' rest in
        let gr = rest_grown program kernel one other fn calls here set exit declared way cs.lines cr g in
        let gs = list_back program kernel calls set.back here exit inner rest cs.made gr in
        let a = statement_up calls set.up here exit s m in
        let k = good_also (InBody program fn) (UnderBody program fn) (BackBody program fn) scope s rest good in
        let within' = within_after program kernel one other fn calls here set scope s h.0 within in
        let part_s = part_left program kernel one other fn calls here set (assigns s) (some_assigns rest) (returns s)
        (some_returns rest) part in
        let part_r = part_right program kernel one other fn calls here set (assigns s) (some_assigns rest) (returns s)
        (some_returns rest) part in
        let opens_s : (site : ℕ) → way ≡ Some site → W = λ t w. let z = way_first way (way_out_of_all true true rest) t
        w in opens z.0 z.1 in
        let opens_r : (site : ℕ) → way_out_of_all true true rest ≡ Some site →
        W = λ t w. let z = way_second way (way_out_of_all true true rest) t w in opens z.0 z.1 in
        let pend_r = pending_more program kernel one other fn calls here set W exit (next_cell m)
        (next_cell cs.made) a pend in
        let bound' = bound_after program kernel one other fn calls here set scope s out bound in
        let free_r : (c : ℕ) → E c → IsFree c exit (way_out_of_all true true rest) =
        λ c e t w. free_even program kernel one other fn calls here set exit c (pend.plain (opens_r t w)) e in
        let quiet_r : (c : ℕ) → E c → IsApart c here scope' → ListQuiet c inner cr =
        λ c e ap_. list_quiet program c calls (set.quiet c) F here exit inner rest scope' h.1 k.1.names ap_
        (free_r c e) cs.made in
        let no_way : declared ≡ true → way ≡ None = λ e. declares_none s true true (declared_declares guarded s e) in
        let settled : ((way ≡ None) ⊎ (declared ≡ true)) →
        S = λ e t w c i. absurd (none-some t (sym (elim e [ inl n ↦ n | inr d ↦ no_way d ]) ∙ w)) in
        let bound_both = bound_before program kernel here (joined_to cr.inside cr.rest) scope' out
        (λ c e ap_. list_joined c inner cr (quiet_r c e ap_)) bound' in
        let bound_rest : inner ≡ true → B scope' (λ c. live_in c cr.rest (out c)) =
        λ t. bound_before program kernel here cr.rest scope' out
        (λ c e ap_. (list_parts c inner cr (quiet_r c e ap_) t).1) bound' in
        let bound_guard : (site : ℕ) → way ≡ Some site →
        B scope' (λ c. live_in c (guarded_before site exit cr.inside cr.rest) (out c)) =
        λ t w. bound_before program kernel here (guarded_before t exit cr.inside cr.rest) scope' out
        (λ c e ap_. let z = list_parts c inner cr (quiet_r c e ap_)
        (inner_true declared way guarded t w no_way) in
        guarded_quiet c t exit cr.inside cr.rest (free_even program kernel one other fn calls here set exit c
        (pend.plain (opens_s t w)) e) z.0 z.1) bound' in
        let unset : (c : ℕ) → E c → Known program kernel here scope' c → ((x : ℕ) → Has scope' x → c ≡ here.base + x →
        some_assigns rest x ≡ true → ⊥) → sets_in c cr.inside ≡ false =
        λ c e kn off. (list_unset program c calls set.up (set.unset c) F here exit inner rest h.1 (free_r c e)
        (known_clear program kernel one other fn calls here set scope' c (some_assigns rest) (all_declarations rest)
        (some_returns rest) within' kn off (λ x has. undeclared_list rest scope' x k.1.names has)) cs.made
        (out_below c _ _ (let z = known_below program kernel here Size scope' (next_cell m) c within' low kn in
        omega (arith, z, a)))).0.is in
        let unset_answer : (t : IntType) → F.result ≡ Some t → some_returns rest ≡ false →
        sets_in here.answer cr.inside ≡ false =
        λ t r nr. (list_unset program here.answer calls set.up (set.unset here.answer) F here exit inner rest h.1
        (λ u w. apart_is program kernel one other fn calls here set here.answer exit
        (λ z. pend.no_result (opens_r u w) t r (sym z)))
        (above_clear program kernel one other fn calls here set here.answer (some_assigns rest)
        (all_declarations rest) (some_returns rest) (answer_above program kernel one other fn calls here set)
        (λ z. absurd (let y : true ≡ false = sym z ∙
        nr in cc))) cs.made
        (out_below here.answer _ _ (let z = pend.result_below t r in omega (arith, z, a)))).0.is in
        before_behind program kernel one other fn calls here set W exit guarded declared way scope' cs.lines cr
        (some_assigns rest) (some_returns rest) S A out
        opens_s settled within' (λ x z. part_r.assigned x z) (λ z. part_r.returned z)
        (covers_first program kernel one other fn calls here set scope s k.0.under)
        (covers_all program kernel one other fn calls here set rest scope' k.1) bound' bound_both bound_rest
        bound_guard unset unset_answer
        (λ out' p' q' bd al' ex an. statement_together W exit s scope m h.0 k.0 part_s within low pend opens_s gs out'
        p' q' bd al' ex an)
        (λ p' q' al' ex an. inside_together W exit inner rest scope' cs.made h.1 k.1 part_r within'
        (omega (arith, low, a)) pend_r opens_r gr out p' q' bound' al' ex an)
        (λ C' free' cover' p' q' al' pre' an. behind_together W exit inner rest scope' cs.made h.1 k.1 part_r within'
        (omega (arith, low, a)) pend_r opens_r gr out C' free' cover' p' q' bound' al' pre' an)
        C free (λ nd. cover_after program kernel one other fn calls here set guarded scope s C free nd cover)
        p q al pre ans

    arms_together : (W' : Type 0) (Y ch : ℕ) (R : Type 0) (site : ℕ) (arms : Arms) (scope : Scope) (k : ℕ) (x : Atom)
        (m : Made) (C : Type 0) → ArmsFit program F arms → GM program kernel one other fn calls here set scope arms →
        Part (arms_assign arms) (arms_return arms) → Within scope → here.base + Size ≤ next_cell m
        → Pend W' Y (next_cell m) → ((s : ℕ) → way_out_of_arms true true arms ≡ Some s → W') →
        Grown program kernel (arms_code calls here Y site (CellAtom ch) x k arms m).made → ch < next_cell m →
        here.base + Size ≤ ch → (E ch → ⊥) → (W' → ch ≡ Y → ⊥)
        → ((t : IntType) → F.result ≡ Some t → ch ≡ here.answer → ⊥) → AtomIn program kernel 0 (next_cell m) x →
        Covers program kernel one other fn calls here set C scope
        → ((y : ℕ) → Has scope y → (Varies program (AVariable fn y) → ⊥) → arms_assign arms y ≡ true → R) →
        (arms_return arms ≡ true → (Varies program (AResult fn) → ⊥) → R)
        → (out : ℕ → Test) (p q : Cells) → B scope out →
        Equal E (λ c. live_in c (arms_code calls here Y site (CellAtom ch) x k arms m).lines (out c)) p q →
        ArmEqual program kernel one other fn calls here set W' Y ch R C k x p q
        → Go out (arms_code calls here Y site (CellAtom ch) x k arms m).lines (λ a b. (C →
        ArmsSettled program kernel one other fn calls here set scope arms → R → W' → a Y ≡ b Y) × Ans a b) p q
    arms_together W' Y ch R site no_arm scope k x m C h good part within low pend opens g ch_low ch_above ch_not ch_y
        ch_answer x_in cover clash clash_result out p q bound al eq = (al, ((λ c st. eq.exit c), eq.answer))
    arms_together W' Y ch R site (arm labels default body rest) scope k x m C h good part within low pend opens g
        ch_low ch_above ch_not ch_y ch_answer x_in cover clash clash_result out p q bound al eq =
        let way = way_out_of_all true true body in
        let ce = entry_code (CellAtom ch) x k m in
        let cl = list_code calls here Y false body ce.made in
        let lb = joined_to cl.inside cl.rest in
        let cf = fallen_code way Y ce.value cl.made in
        let ca = around_arm site Y way ce (in_order cl) in
        let cr = arms_code calls here Y site (CellAtom ch) cf.value.atom (k + 1) rest cf.made in
        let gf = arms_back program kernel calls set.back here Y site (CellAtom ch) cf.value.atom
        (k + 1) rest cf.made g in
        let gl = fallen_back program kernel way Y ce.value cl.made gf in
        let ge = list_back program kernel calls set.back here Y false body ce.made gl in
        let a = entry_up (CellAtom ch) x k m in
        let b = list_up calls set.up here Y false body ce.made in
        let d = fallen_up way Y ce.value cl.made in
        let m1 = with_cell m OfValue Int in
        let n1 = next_cell m1 in
        let one_more = next_more m OfValue Int in
        let two_more = next_more m1 OfValue Int in
        let n1_not = value_not_even program kernel m1 Int ge in
        let kg = good_arm (InBody program fn) (UnderBody program fn) (BackBody program fn) scope labels default body
        rest good in
        let A = AllSettled program kernel one other fn calls here set scope body in
        let opens_first : (s : ℕ) → way ≡ Some s → W' = λ s w. let z = way_first way (way_out_of_arms true true rest) s
        w in opens z.0 z.1 in
        let opens_rest : (s : ℕ) → way_out_of_arms true true rest ≡ Some s →
        W' = λ s w. let z = way_second way (way_out_of_arms true true rest) s w in opens z.0 z.1 in
        let part_b = part_left program kernel one other fn calls here set (some_assigns body) (arms_assign rest)
        (some_returns body) (arms_return rest) part in
        let part_r = part_right program kernel one other fn calls here set (some_assigns body) (arms_assign rest)
        (some_returns body) (arms_return rest) part in
        let free_b : (c : ℕ) → E c → IsFree c Y way = λ c e s w. free_even program kernel one other fn calls here set Y
        c (pend.plain (opens_first s w)) e in
        let free_r : (c : ℕ) → E c → IsFree c Y (way_out_of_arms true true rest) = λ c e s w. free_even program kernel
        one other fn calls here set Y c (pend.plain (opens_rest s w)) e in
        let entered_in : AtomIn program kernel 0 (next_cell cl.made)
        (CellAtom n1) = (omega arith, omega (arith, b, two_more), n1_not) in
        let f_in = fallen_in program kernel one other fn calls here set way Y ce.value cl.made entered_in gf in
        let quiet_r : (c : ℕ) → E c → IsApart c here scope → Quiet c cr.lines false =
        λ c e ap_. arms_quiet program c calls (set.quiet c) F here Y site (CellAtom ch) cf.value.atom (k + 1) rest
        scope h.1 kg.1.names ap_ (free_r c e) (free_even program kernel one other fn calls here set ch c ch_not e)
        (atom_not_read program kernel 0 (next_cell cf.made) cf.value.atom c f_in e) cf.made in
        let bound_r = bound_before program kernel here cr.lines scope out quiet_r bound in
        let cells_free : (c : ℕ) → here.base + Size ≤ c → c < next_cell ce.made → IsFree c Y way →
        (some_returns body ≡ true → (t : IntType) → F.result ≡ Some t → nat_eq c here.answer ≡ false) →
        sets_in c lb ≡ false =
        λ c l u fr an. list_all_unset program kernel one other fn calls here set Y body ce.made c h.0 fr
        (above_clear program kernel one other fn calls here set
        c (some_assigns body) (all_declarations body) (some_returns body) l an) u in
        let cover_b = covers_all program kernel one other fn calls here set body scope kg.0 in
        together_seq E one other out ca.lines cr.lines (λ y z. ArmEqual program kernel one other fn calls here set W' Y
        ch R (C × A) (k + 1) cf.value.atom y z)
        (λ y z. (C → ArmsSettled program kernel one other fn calls here set scope (arm labels default body rest) → R →
        W' → y Y ≡ z Y) × Ans y z) p q al
        (λ al'. arm_together program kernel one other fn calls here set W' Y ch R scope site k x 0 way lb m cl.made C
        A (some_assigns body) (some_returns body) (λ c. live_in c cr.lines (out c)) within bound_r b ch_low x_in
        pend opens_first gf ge
        (λ c e ap_. list_joined c false cl (list_quiet program c calls (set.quiet c) F here Y false body scope h.0
        kg.0.names ap_ (free_b c e) ce.made))
        (λ c e kn off. list_all_unset program kernel one other fn calls here set Y body ce.made c h.0 (free_b c e)
        (known_clear program kernel one other fn calls
        here set scope c (some_assigns body) (all_declarations body) (some_returns body) within kn off
        (λ y has. undeclared_list body scope y kg.0.names has))
        (let z = known_below program kernel here Size scope (next_cell m) c within low kn in omega (arith, z, a)))
        (λ t r nr. cells_free here.answer (answer_above program kernel one other fn calls here set)
        (let z = pend.result_below t r in
        omega (arith, z, a)) (λ s w. apart_is program kernel one other fn calls here set here.answer Y
        (λ z. pend.no_result (opens_first s w) t r (sym z)))
        (λ z. absurd (let y : true ≡ false = sym z ∙ nr in cc)))
        (cells_free ch ch_above (omega (arith, ch_low, a)) (λ s w. apart_is program kernel one other fn calls here set
        ch Y (ch_y (opens_first s w))) (λ z t r. apart_is program kernel one other fn calls here set ch
        here.answer (ch_answer t r)))
        (cells_free n1 (omega (arith, low, one_more)) (omega (arith, two_more))
        (λ s w. apart_is program kernel one other fn calls here set n1 Y
        (λ z. let y = pend.below (opens_first s w) in omega (arith, y, z, one_more)))
        (λ z t r. apart_is program kernel one other fn calls here set n1 here.answer
        (λ z2. let y = pend.result_below t r in omega (arith, y, z2, one_more))))
        (λ none_ w. cells_free Y (pend.above w) (let z = pend.below w in
        omega (arith, z, a)) (λ s w2. absurd (none-some s (sym none_ ∙ w2)))
        (λ z t r. apart_is program kernel one other fn calls here set Y here.answer (pend.no_result w t r)))
        (λ out' p' q' bd al2 ex an. list_from program kernel one other fn calls here set W' Y body scope
        ce.made out' p' q' al2
        (λ al_. inside_together W' Y false body scope ce.made h.0 kg.0 part_b within (omega (arith, low, a))
        (pending_more program kernel one other fn calls here set W' Y (next_cell m) (next_cell ce.made) a pend)
        opens_first gl out' p' q' bd al_ ex an)
        (λ a_ b_ al_ pre_ an_. behind_together W' Y false body scope ce.made h.0 kg.0 part_b within (omega (
          arith,
          low,
          a,
        )) (pending_more program kernel one other fn calls here set W' Y (next_cell m)
        (next_cell ce.made) a pend) opens_first gl out' (Unit {0}) (λ z. tt)
        (covers_given program kernel one other fn calls here set (Unit {0}) scope tt) a_ b_ bd al_ pre_ an_))
        (λ y has nv asg. (
          cover.variables y has (part_b.assigned y asg) nv,
          clash y has nv
              (or_left (some_assigns body y) (arms_assign rest y) asg),
        ))
        (λ r nv. (
          cover.result (part_b.returned r) nv,
          clash_result (or_left (some_returns body) (arms_return rest) r)
              nv,
        ))
        p q al' eq)
        (λ a1 b1 d1 e1 al1 eq1. together_then E one other out cr.lines (λ y z. ((C × A) →
        ArmsSettled program kernel one other fn calls here set scope rest → R → W' → y Y ≡ z Y) × Ans y z)
        (λ y z. (C → ArmsSettled program kernel one other fn calls here set scope (arm labels default body rest) → R →
        W' → y Y ≡ z Y) × Ans y z) a1 b1
        (arms_together W' Y ch R site rest scope (k + 1) cf.value.atom cf.made (C × A) h.1 kg.1 part_r within
        (omega (arith, low, a, b, d)) (pending_more program kernel one other fn calls here set W' Y
        (next_cell m) (next_cell cf.made) (omega (arith, a, b, d)) pend) opens_rest g
        (omega (arith, ch_low, a, b, d)) ch_above ch_not ch_y ch_answer f_in
        (covers_both program kernel one other fn calls here set C A scope cover cover_b)
        (λ y has nv asg. clash y has nv (or_right (some_assigns body y) (arms_assign rest y) asg))
        (λ r nv. clash_result (or_right (some_returns body) (arms_return rest) r) nv) out a1 b1 bound al1 eq1)
        (λ y z d2 e2 al2 t. ((λ c st. t.0 (c, st.0) st.1), t.1)))
