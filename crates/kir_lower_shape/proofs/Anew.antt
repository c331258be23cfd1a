-- No cell is live at the start of a lowered kernel.
use Rattle.std.proofs.Common.{◌≡◌, ℕ, suc, ◌+◌, ◌<◌, List, [], ◌∷◌, length, Option, Some, None, refl, ap, ◌∙◌, true}
use Rattle.std.proofs.Common.{false, inl, inr}
use Rattle.std.proofs.Common.{Bool as Test}
use Rattle.std.specs.Prelude.{◌&&◌, ◌||◌}
use Rattle.wg_num.specs.declared.types.IntType.{IntType}
use Rattle.cl_model.specs.declared.program.Root.{Root}
use Rattle.cl_model.specs.Tree.{Expression, Apply, Update, Choose, Call, Expressions, none, more, Statement, Do}
use Rattle.cl_model.specs.Tree.{Declare, Fill, Block, If, Loop, Switch, Break, Continue, Return, Barrier, Statements}
use Rattle.cl_model.specs.Tree.{empty, also, Arms, no_arm, arm, Function, Program}
use Rattle.cl_model.specs.Calls.{function_at}
use Rattle.cl_model.specs.Valid.{Scope, HasType, HaveTypes, OptionalFits, IsPlainCall, StatementFits, AllFit, ArmsFit}
use Rattle.cl_model.specs.Valid.{NamesIn, NamesAmong, NamesInOptional, IsScopedList, AreScopedArms, parameter_kinds}
use Rattle.cl_model.specs.Valid.{scope_after}
use Rattle.kir.specs.declared.line.Atom.{Atom}
use Rattle.kir.specs.declared.line.Atom.TheVariants.{Cell as CellAtom}
use Rattle.kir.specs.Tree.{Copy, NoLine, OfValue}
use Rattle.kir.specs.Live.{reads, some_reads}
use Rattle.kir_lower.specs.declared.places.Value.{Value}
use Rattle.kir_lower.specs.Made.{Made, Instance, int, with_cell, next_cell}
use Rattle.kir_lower.specs.Ways.{way_out, way_out_of_all, way_out_of_arms, declares}
use Rattle.kir_lower.specs.Actions.{atoms_of, opened, round_code, selected}
use Rattle.kir_lower.specs.Code.{Calls, expression_code, operands_code, optional_code, is_guarded, in_order}
use Rattle.kir_lower.specs.Code.{entry_code, around_arm, statement_code, list_code, arms_code}
use Rattle.kir_lower_shape.proofs.Quiet.{Quiet, quiet_none, quiet_less, quiet_after, quiet_then, quiet_set, quiet_load}
use Rattle.kir_lower_shape.proofs.Quiet.{quiet_store, quiet_clear, quiet_barrier, quiet_if, quiet_if_set}
use Rattle.kir_lower_shape.proofs.Steps.{IsApart, IsFree, computed_quiet, changed_quiet, either_quiet, action_quiet}
use Rattle.kir_lower_shape.proofs.Steps.{initial_quiet, opened_quiet, outward_quiet, round_quiet, selected_quiet}
use Rattle.kir_lower_shape.proofs.Steps.{entry_quiet, around_quiet, ListQuiet, list_joined, before_quiet}
use Rattle.kir_lower_shape.proofs.Scoped.{FirstScoped, as_first, scoped_parts, as_list, sets, sets_nothing, apart_after}
use Rattle.kir_lower_shape.proofs.Scoped.{free_first, free_second, fewer_ways, fewer_of_arms, all_have, return_type}
use Rattle.kir_lower_shape.proofs.Scoped.{argument_count}

-- of calls: a cell that no argument is, is not live before the lines of a call
abbrev pub CallsQuiet : Program → ℕ → Calls → Type 0
CallsQuiet program c calls =
    (here : Instance) (site function : ℕ) (roots : List Root) (values : List Value) (m : Made) →
    function < length program.functions → length values ≡ length (parameter_kinds (function_at program function))
    → some_reads c (atoms_of values) ≡ false →
    Quiet c (calls here site function roots values m).lines
    (reads c (calls here site function roots values m).value.atom)

module _ (program : Program) (c : ℕ) (calls : Calls) (call : CallsQuiet program c calls) (f : Function)
    (here : Instance) where
  operand_count : (list : Expressions) (ts : List IntType) → HaveTypes program f list ts → (m : Made) →
      length (operands_code calls here list m).values ≡ length ts
  unfolding expression_code
  operand_count none [] h m = refl
  operand_count none (t ∷ ts) h m = absurd h
  operand_count (more e rest) [] h m = absurd h
  operand_count (more e rest) (t ∷ ts) h m = ap suc (operand_count rest ts h.1 (expression_code calls here e m).made)

  mutual
    unfolding expression_code

    pub expression_quiet : (e : Expression) (t : IntType) (scope : Scope) → HasType program f e t → NamesIn scope e →
        IsApart c here scope → (m : Made) →
        Quiet c (expression_code calls here e m).lines (reads c (expression_code calls here e m).value.atom)
    expression_quiet (Apply action operands) t scope h n a m =
        let co = operands_code calls here operands m in
        quiet_then c co.lines _ (some_reads c (atoms_of co.values)) _ (operands_quiet operands h.0 scope h.1 n.1 a m)
        (λ r. action_quiet c here scope action co.values co.made a n.0 r)
    expression_quiet (Update site element root op of back old index value) t scope h n a m =
        let ci = expression_code calls here index m in
        let ml = with_cell ci.made OfValue element in
        let cv = expression_code calls here value ml in
        quiet_then c ci.lines _ (reads c ci.value.atom) _ (expression_quiet index _ scope h.0 n.0 a m)
        (λ ri. quiet_load c site _ element _ _ _ _ ri
        (λ el. quiet_then c cv.lines _ (reads c cv.value.atom) _ (expression_quiet value h.1.0 scope h.1.1 n.1 a ml)
        (λ rv. changed_quiet c op of back (CellAtom (next_cell ci.made)) cv.value.atom cv.made _ _ el rv
        (λ ec. quiet_store c site element _ _ _ NoLine _ ri ec (quiet_none c _ (either_quiet c old _ _ el ec))))))
    expression_quiet (Choose site test chosen other) t scope h n a m =
        let ct = expression_code calls here test m in
        let cy = expression_code calls here chosen ct.made in
        let cn = expression_code calls here other cy.made in
        quiet_then c ct.lines _ (reads c ct.value.atom) _ (expression_quiet test h.0.0 scope h.0.1 n.0 a m)
        (λ r. quiet_if_set c site ct.value.atom _ _ _ r
        (quiet_then c cy.lines _ (reads c cy.value.atom) _ (expression_quiet chosen t scope h.1 n.1 a ct.made)
        (λ ry. computed_quiet c (next_cell cn.made) (Copy cy.value.atom) ry))
        (quiet_then c cn.lines _ (reads c cn.value.atom) _ (expression_quiet other t scope h.2 n.2 a cy.made)
        (λ rn. computed_quiet c (next_cell cn.made) (Copy cn.value.atom) rn)))
    expression_quiet (Call site function roots arguments) t scope h n a m =
        let ca = operands_code calls here arguments m in
        quiet_then c ca.lines _ (some_reads c (atoms_of ca.values)) _ (operands_quiet arguments h.1.0 scope h.1.1 n a m)
        (λ r. call here site function _ ca.values ca.made h.0.within (operand_count arguments h.1.0 h.1.1 m ∙
        argument_count program f (parameter_kinds (function_at program function)) roots h.1.0 h.1.2) r)

    pub operands_quiet : (list : Expressions) (ts : List IntType) (scope : Scope) → HaveTypes program f list ts →
        NamesAmong scope list → IsApart c here scope → (m : Made)
        → Quiet c (operands_code calls here list m).lines
        (some_reads c (atoms_of (operands_code calls here list m).values))
    operands_quiet none [] scope h n a m = quiet_none c _ refl
    operands_quiet none (t ∷ ts) scope h n a m = absurd h
    operands_quiet (more e rest) [] scope h n a m = absurd h
    operands_quiet (more e rest) (t ∷ ts) scope h n a m =
        let ce = expression_code calls here e m in
        let cr = operands_code calls here rest ce.made in
        quiet_then c ce.lines cr.lines (reads c ce.value.atom) _ (expression_quiet e t scope h.0 n.0 a m)
        (λ r. quiet_after c cr.lines (some_reads c (atoms_of cr.values)) _
        (ap (λ z. z || some_reads c (atoms_of cr.values)) r) (operands_quiet rest ts scope h.1 n.1 a ce.made))

  optional_quiet : (e : Option Expression) (scope : Scope) → OptionalFits program f e → NamesInOptional scope e →
      IsApart c here scope → (m : Made) →
      Quiet c (optional_code calls here e m).lines (reads c (optional_code calls here e m).value.atom)
  optional_quiet None scope h n a m = quiet_none c _ refl
  optional_quiet (Some e) scope h n a m = expression_quiet e h.0 scope h.1 n a m

  -- a call of a function that gives none
  plain_quiet : (e : Expression) (scope : Scope) → IsPlainCall program f e → NamesIn scope e → IsApart c here scope →
      (m : Made) → Quiet c (expression_code calls here e m).lines false
  unfolding expression_code
  plain_quiet (Apply action operands) scope h n a m = absurd h
  plain_quiet (Update site element root op of back old index value) scope h n a m = absurd h
  plain_quiet (Choose site test chosen other) scope h n a m = absurd h
  plain_quiet (Call site function roots arguments) scope h n a m =
      let ca = operands_code calls here arguments m in
      quiet_then c ca.lines _ (some_reads c (atoms_of ca.values)) false
      (operands_quiet arguments h.1.0 scope h.1.1 n a m)
      (λ r. quiet_less c _ _ (call here site function _ ca.values ca.made h.0.within
      (operand_count arguments h.1.0 h.1.1 m ∙
      argument_count program f (parameter_kinds (function_at program function)) roots h.1.0 h.1.2) r))

  do_quiet : (e : Expression) (scope : Scope) → StatementFits program f (Do e) → NamesIn scope e →
      IsApart c here scope → (m : Made) → Quiet c (expression_code calls here e m).lines false
  do_quiet e scope (inl h) n a m = quiet_less c _ _ (expression_quiet e h.0 scope h.1 n a m)
  do_quiet e scope (inr h) n a m = plain_quiet e scope h n a m

  mutual
    unfolding statement_code

    pub statement_quiet : (exit : ℕ) (s : Statement) (scope : Scope) → StatementFits program f s →
        FirstScoped scope s → IsApart c here scope → IsFree c exit (way_out true true s) → (m : Made)
        → Quiet c (statement_code calls here exit s m).lines (sets c here s)
    statement_quiet exit (Do e) scope h n a w m = do_quiet e scope h n a m
    statement_quiet exit (Declare x None) scope h n a w m = computed_quiet c _ _ refl
    statement_quiet exit (Declare x (Some e)) scope h n a w m =
        let ce = expression_code calls here e m in
        quiet_then c ce.lines _ (reads c ce.value.atom) _ (expression_quiet e h.0 scope h.2 n a m)
        (λ r. computed_quiet c (here.base + x) (Copy ce.value.atom) r)
    statement_quiet exit (Fill site array values) scope h n a w m =
        let cv = operands_code calls here values m in
        let k = all_have program f values _ h.3 in
        quiet_then c cv.lines _ (some_reads c (atoms_of cv.values)) false (operands_quiet values k.0 scope k.1 n a m)
        (λ r. quiet_clear c _ _ false (initial_quiet c site _ _ 0 cv.values r))
    statement_quiet exit (Block list) scope h n a w m =
        list_joined c false (list_code calls here exit false list m) (list_quiet exit false list scope h n a w m)
    statement_quiet exit (If site test chosen other) scope h n a w m =
        let ct = expression_code calls here test m in
        let cy = in_order (list_code calls here exit false chosen ct.made) in
        let cn = in_order (list_code calls here exit false other cy.made) in
        quiet_then c ct.lines _ (reads c ct.value.atom) false (expression_quiet test h.0.0 scope h.0.1 n.0 a m)
        (λ r. quiet_if c site ct.value.atom cy.lines cn.lines NoLine false r (quiet_none c false refl)
        (list_joined c false (list_code calls here exit false chosen ct.made)
        (list_quiet exit false chosen scope h.1 (as_list scope chosen n.1) a (free_first c exit _ _ w) ct.made))
        (list_joined c false (list_code calls here exit false other cy.made)
        (list_quiet exit false other scope h.2 (as_list scope other n.2) a
        (free_second c exit (way_out_of_all true true chosen) _ w) cy.made)))
    statement_quiet exit (Loop site first test step body) scope h n a w m =
        let way = way_out true true body in
        let co = opened way exit m in
        let ct = optional_code calls here test co.made in
        let cs = optional_code calls here step ct.made in
        let cb = statement_code calls here co.exit body cs.made in
        let cr = round_code site first way co.exit ct.lines ct.value cs.lines cb.lines cb.made in
        opened_quiet c way exit m _ false
        (λ free. quiet_then c cr.lines _ false false
        (round_quiet c site first way co.exit ct.lines ct.value cs.lines cb.lines cb.made free
        (optional_quiet test scope h.0 n.0 a co.made)
        (quiet_less c cs.lines _ (optional_quiet step scope h.1 n.1 a ct.made))
        (quiet_less c cb.lines _ (statement_quiet co.exit body scope h.2 (as_first scope body n.2) a free cs.made)))
        (λ e. outward_quiet c (way_out false false body) co.exit exit cr.made
        (fewer_ways c co.exit false true false true (λ e. refl) (λ e. refl) body free)))
    statement_quiet exit (Switch site value arms) scope h n a w m =
        let cv = expression_code calls here value m in
        let co = opened (way_out_of_arms true true arms) exit cv.made in
        let cs = selected site cv.value arms co.made in
        let ca = arms_code calls here co.exit site cs.value.atom (int _) 0 arms cs.made in
        quiet_then c cv.lines _ (reads c cv.value.atom) false (expression_quiet value h.0.0 scope h.0.1 n.0 a m)
        (λ r. opened_quiet c (way_out_of_arms true true arms) exit cv.made _ false
        (λ free. quiet_then c cs.lines _ (reads c cs.value.atom) false (selected_quiet c site cv.value arms co.made r)
        (λ rs. quiet_then c ca.lines _ false false (arms_quiet co.exit site cs.value.atom (int _) 0 arms scope h.3 n.1
        a free rs refl cs.made)
        (λ e. outward_quiet c (way_out_of_arms false true arms) co.exit exit ca.made
        (fewer_of_arms c co.exit false true true true (λ e. refl) (λ e. e) arms free)))))
    statement_quiet exit (Break site) scope h n a w m = quiet_set c _ _ NoLine false refl (λ e. quiet_none c false refl)
    statement_quiet exit (Continue site) scope h n a w m =
        quiet_set c _ _ NoLine false refl (λ e. quiet_none c false refl)
    statement_quiet exit (Return site None) scope h n a w m =
        quiet_set c _ _ NoLine false refl (λ e. quiet_none c false refl)
    statement_quiet exit (Return site (Some e)) scope h n a w m =
        let ce = expression_code calls here e m in
        let k = return_type program f f.result e h in
        quiet_then c ce.lines _ (reads c ce.value.atom) false (expression_quiet e k.0 scope k.1 n a m)
        (λ r. quiet_set c _ _ _ false r (λ e. quiet_set c _ _ NoLine false refl (λ e. quiet_none c false refl)))
    statement_quiet exit (Barrier site) scope h n a w m = quiet_barrier c site NoLine false (quiet_none c false refl)

    pub list_quiet : (exit : ℕ) (guarded : Test) (list : Statements) (scope : Scope) → AllFit program f list →
        IsScopedList scope list → IsApart c here scope → IsFree c exit (way_out_of_all true true list) → (m : Made)
        → ListQuiet c guarded (list_code calls here exit guarded list m)
    list_quiet exit true empty scope h n a w m = (quiet_none c false refl, quiet_none c false refl)
    list_quiet exit false empty scope h n a w m = quiet_none c false refl
    list_quiet exit guarded (also s rest) scope h n a w m =
        let way = way_out true true s in
        let cs = statement_code calls here exit s m in
        let p = scoped_parts scope s rest n in
        let inner = is_guarded (guarded && declares s) way guarded in
        before_quiet c exit guarded (declares s) way cs.lines (list_code calls here exit inner rest cs.made)
        (sets c here s) (free_first c exit way _ w) (sets_nothing c here s)
        (statement_quiet exit s scope h.0 p.0 a (free_first c exit way _ w) m)
        (λ e. list_quiet exit inner rest (scope_after scope s) h.1 p.1 (apart_after c here scope s a e)
        (free_second c exit way _ w) cs.made)

    pub arms_quiet : (exit site : ℕ) (chosen fallen : Atom) (k : ℕ) (arms : Arms) (scope : Scope) →
        ArmsFit program f arms → AreScopedArms scope arms → IsApart c here scope →
        IsFree c exit (way_out_of_arms true true arms)
        → reads c chosen ≡ false → reads c fallen ≡ false → (m : Made) →
        Quiet c (arms_code calls here exit site chosen fallen k arms m).lines false
    arms_quiet exit site chosen fallen k no_arm scope h n a w r s m = quiet_none c false refl
    arms_quiet exit site chosen fallen k (arm labels other body rest) scope h n a w r s m =
        let ce = entry_code chosen fallen k m in
        let cl = list_code calls here exit false body ce.made in
        let way = way_out_of_all true true body in
        let ca = around_arm site exit way ce (in_order cl) in
        quiet_then c ca.lines _ (reads c ca.value.atom) false
        (around_quiet c site exit way ce (in_order cl) (free_first c exit way _ w)
        (entry_quiet c chosen fallen k m r s)
        (list_joined c false cl (list_quiet exit false body scope h.0 (as_list scope body n.0) a
        (free_first c exit way _ w) ce.made)))
        (λ e. arms_quiet exit site chosen ca.value.atom (k + 1) rest scope h.1 n.1 a (free_second c exit way _ w) r e
        ca.made)
