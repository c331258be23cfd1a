-- The code of expressions and statements sets no cell but those of the variables that it assigns or declares, those
-- of ways out and of the result, and those that it makes.
use Rattle.std.proofs.Common.{◌≡◌, ℕ, suc, ◌+◌, ◌<◌, ◌≤◌, pos, List, [], ◌∷◌, length, Option, Some, None, refl, ap}
use Rattle.std.proofs.Common.{◌++◌, ◌∙◌, arith, inl, inr, if◌then◌else◌}
use Rattle.std.proofs.Common.{Bool as Test, true, false}
use Rattle.std.specs.Prelude.{nat_eq, ◌&&◌, ◌||◌}
use Rattle.std.proofs.lemmas.Bool.{or_left, or_right}
use Rattle.std.proofs.lemmas.Option.{slice_get_within}
use Rattle.wg_num.specs.declared.types.IntType.{IntType}
use Rattle.cl_model.specs.declared.program.Root.{Root}
use Rattle.cl_model.specs.Tree.{Action, Expression, Apply, Update, Choose, Call, Expressions, none, more, Statement}
use Rattle.cl_model.specs.Tree.{Do, Declare, Fill, Block, If, Loop, Switch, Break, Continue, Return, Barrier}
use Rattle.cl_model.specs.Tree.{Statements, empty, also, Arms, no_arm, arm, Function, Program}
use Rattle.cl_model.specs.Calls.{CallSite, function_at}
use Rattle.cl_model.specs.Valid.{HasType, HaveTypes, OptionalFits, IsPlainCall, ReturnFits, StatementFits, AllFit}
use Rattle.cl_model.specs.Valid.{ArmsFit, parameter_kinds, binary_type, declarations, all_declarations}
use Rattle.cl_model.specs.Valid.{arms_declarations}
use Rattle.cl_model.specs.Varying.{sets, assigns_in, assigns_among, assigns_in_optional, assigns, some_assigns}
use Rattle.cl_model.specs.Varying.{arms_assign, returns, some_returns, arms_return}
use Rattle.kir.specs.declared.line.Atom.{Atom}
use Rattle.kir.specs.declared.line.Atom.TheVariants.{Cell as CellAtom}
use Rattle.kir.specs.Tree.{Lines, NoLine, OfValue, OfFlag}
use Rattle.kir_lower.specs.declared.places.Value.{Value}
use Rattle.kir_lower.specs.Made.{Made, Instance, int, with_cell, next_cell, argument_roots}
use Rattle.kir_lower.specs.Ways.{way_out, way_out_of_all, way_out_of_arms, declares}
use Rattle.kir_lower.specs.Actions.{action_code, opened, round_code, outward, selected, fallen_code, changed}
use Rattle.kir_lower.specs.Code.{Calls, expression_code, operands_code, optional_code, Guarded, is_guarded, in_order}
use Rattle.kir_lower.specs.Code.{entry_code, around_arm, statement_code, list_code, arms_code}
use Rattle.kir_uniform.proofs.Living.{true_or_false}
use Rattle.kir_uniform.proofs.Alike.{same_self}
use Rattle.kir_lower_shape.proofs.Quiet.{or_parts}
use Rattle.kir_lower_shape.proofs.Steps.{IsFree}
use Rattle.kir_lower_shape.proofs.Scoped.{free_first, free_second, all_have, return_type, argument_count}
use Rattle.kir_lower_shape.proofs.Making as making
use Rattle.kir_lower_shape.proofs.Absent.{next_more, IsOut, out_within}
use Rattle.kir_lower_shape.proofs.AbsentSteps.{action_within, opened_exit}
use Rattle.kir_lower_shape.proofs.AbsentCode.{CallsUp, Up, opened_up, outward_up, expression_up, operands_up}
use Rattle.kir_lower_shape.proofs.AbsentCode.{optional_up, statement_up, list_up, arms_up, before_rest_same}
use Rattle.kir_lower_uniform.proofs.UnsetSteps.{Unset, unset_none, unset_then, unset_set, unset_load, unset_if}
use Rattle.kir_lower_uniform.proofs.UnsetSteps.{changed_unset, action_unset, initial_unset, opened_unset, outward_unset}
use Rattle.kir_lower_uniform.proofs.UnsetSteps.{round_unset, selected_unset, entry_unset, fallen_unset}
use Rattle.kir_lower_uniform.proofs.UnsetSteps.{before_rest_unset}

-- of calls: they set no cell but those that they make
abbrev pub CallsUnset : Program → ℕ → Calls → Type 0
CallsUnset program c calls =
    (here : Instance) (site function : ℕ) (roots : List Root) (values : List Value) (m : Made) →
    length values ≡ length (parameter_kinds (function_at program function))
    → IsOut c (next_cell m) (next_cell (calls here site function roots values m).made) →
    Unset c (calls here site function roots values m).lines

pub operand_count : (program : Program) (calls : Calls) (f : Function) (here : Instance) (list : Expressions)
    (ts : List IntType) → HaveTypes program f list ts → (m : Made) → length (operands_code calls here list m).values ≡
    length ts
unfolding expression_code
operand_count program calls f here none [] h m = refl
operand_count program calls f here none (t ∷ ts) h m = absurd h
operand_count program calls f here (more e rest) [] h m = absurd h
operand_count program calls f here (more e rest) (t ∷ ts) h m =
    ap suc (operand_count program calls f here rest ts h.1 (expression_code calls here e m).made)

-- no cell is given back
up_same : (m : Made) → Up [] m m
up_same m = omega arith

up_before : (xs ys : List CallSite) (a b c : Made) → Up xs a b → Up ys b c → Up (xs ++ ys) a c
up_before xs ys a b c h k = omega (arith, h, k)

up_value : (m : Made) (of : IntType) → Up [] m (with_cell m OfValue of)
up_value m of = let one = next_more m OfValue of in omega (arith, one)

up_flag : (m : Made) (of : IntType) → Up [] m (with_cell m OfFlag of)
up_flag m of = let one = next_more m OfFlag of in omega (arith, one)

pub action_up : (here : Instance) (action : Action) (values : List Value) (m : Made) →
    next_cell m ≤ next_cell (action_code here action values m).made
action_up here action values m = making.action_makes Up up_same up_before up_value up_flag here action values m

pub selected_up : (site : ℕ) (value : Value) (arms : Arms) (m : Made) →
    next_cell m ≤ next_cell (selected site value arms m).made
selected_up site value arms m = making.selected_makes Up up_same up_before up_value up_flag site value arms m

pub entry_up : (chosen fallen : Atom) (k : ℕ) (m : Made) → next_cell m ≤ next_cell (entry_code chosen fallen k m).made
entry_up chosen fallen k m = making.entry_makes Up up_same up_before up_value up_flag chosen fallen k m

pub fallen_up : (way : Option ℕ) (exit : ℕ) (entered : Value) (m : Made) →
    next_cell m ≤ next_cell (fallen_code way exit entered m).made
fallen_up way exit entered m = making.fallen_makes Up up_same up_before up_value up_flag way exit entered m

pub round_up : (site : ℕ) (first : Test) (way : Option ℕ) (exit : ℕ) (test : Lines) (answer : Value)
    (step body : Lines) (m : Made) →
    next_cell m ≤ next_cell (round_code site first way exit test answer step body m).made
round_up site first way exit test answer step body m =
    making.round_makes Up up_same up_before up_value up_flag site first way exit test answer step body m

zero_parts : (a b : ℕ) → a + b ≡ 0 → (a ≡ 0) × (b ≡ 0)
zero_parts a b h = (omega (arith, h), omega (arith, h))

module _ (c : ℕ) (here : Instance) (size : ℕ) where
  -- the cell is that of no variable of the function, which has so many, of which this is so
  abbrev pub Off : (ℕ → Test) → Type 0
  Off a = (x : ℕ) → x < size → nat_eq c (here.base + x) ≡ true → a x ≡ false

  pub off_left : (a b : ℕ → Test) → Off (λ x. a x || b x) → Off a
  off_left a b h x i e = (or_parts (a x) (b x) (h x i e)).0

  pub off_right : (a b : ℕ → Test) → Off (λ x. a x || b x) → Off b
  off_right a b h x i e = (or_parts (a x) (b x) (h x i e)).1

  module _ (result : Option IntType) where
    -- the cell is that of no variable that is assigned or declared, and not that of the result where there is a return
    pub record Clear (a : ℕ → Test) (d : ℕ → ℕ) (r : Test) : Type 0 where
      pub assigned : Off a
      pub declared : (x : ℕ) → x < size → nat_eq c (here.base + x) ≡ true → d x ≡ 0
      pub answer : r ≡ true → (t : IntType) → result ≡ Some t → nat_eq c here.answer ≡ false

    pub clear_left : (a b : ℕ → Test) (d e : ℕ → ℕ) (r s : Test) → Clear (λ x. a x || b x) (λ x. d x + e x) (r || s) →
        Clear a d r
    clear_left a b d e r s h = record {
      assigned = off_left a b h.assigned;
      declared = λ x i z. (zero_parts (d x) (e x) (h.declared x i z)).0;
      answer = λ z. h.answer (or_left r s z);
    }

    pub clear_right : (a b : ℕ → Test) (d e : ℕ → ℕ) (r s : Test) →
        Clear (λ x. a x || b x) (λ x. d x + e x) (r || s) → Clear b e s
    clear_right a b d e r s h = record {
      assigned = off_right a b h.assigned;
      declared = λ x i z. (zero_parts (d x) (e x) (h.declared x i z)).1;
      answer = λ z. h.answer (or_right r s z);
    }

    pub clear_behind : (a b : ℕ → Test) (d : ℕ → ℕ) (r : Test) → Clear (λ x. a x || b x) d r → Clear b d r
    clear_behind a b d r h = record { assigned = off_right a b h.assigned; declared = h.declared; answer = h.answer }

module _ (program : Program) (c : ℕ) (calls : Calls) (calls_up : CallsUp calls) (call : CallsUnset program c calls)
    (f : Function) (here : Instance) where
  mutual
    unfolding expression_code

    pub expression_unset : (e : Expression) (t : IntType) → HasType program f e t →
        Off c here (length f.variables) (assigns_in e) → (m : Made) →
        IsOut c (next_cell m) (next_cell (expression_code calls here e m).made) →
        Unset c (expression_code calls here e m).lines
    expression_unset (Apply action operands) t h o m out =
        let co = operands_code calls here operands m in
        let a = operands_up calls calls_up here operands m in
        let b = action_up here action co.values co.made in
        unset_then c co.lines _ (operands_unset operands h.0 h.1 (off_right c here (length f.variables) (sets action)
        (assigns_among operands) o) m (out_within c _ _ _ _ out (omega arith) (omega (arith, b))))
        (action_unset c here action co.values co.made (λ x u. off_left c here (length f.variables) (sets action)
        (assigns_among operands) o x (action_within program f action h.0 t h.2 x u))
        (out_within c _ _ _ _ out (omega (arith, a)) (omega arith)))
    expression_unset (Update site element root op of back old index value) t h o m out =
        let ci = expression_code calls here index m in
        let ml = with_cell ci.made OfValue element in
        let cv = expression_code calls here value ml in
        let cc = changed op of back (CellAtom (next_cell ci.made)) cv.value.atom cv.made in
        let a = expression_up calls calls_up here index m in
        let b = next_more ci.made OfValue element in
        let d = expression_up calls calls_up here value ml in
        let u = next_more cv.made OfValue of in
        let v = next_more (with_cell cv.made OfValue of) OfValue (binary_type op of) in
        let w = next_more (with_cell (with_cell cv.made OfValue of) OfValue (binary_type op of)) OfValue back in
        unset_then c ci.lines _ (expression_unset index _ h.0 (off_left c here (length f.variables) (assigns_in index)
        (assigns_in value) o) m (out_within c _ _ _ _ out (omega arith) (omega (arith, b, d, u, v, w))))
        (unset_load c site _ element _ _ _ (out (next_cell ci.made) (omega (arith, a)) (omega (arith, b, d, u, v, w)))
        (unset_then c cv.lines _ (expression_unset value h.1.0 h.1.1
        (off_right c here (length f.variables) (assigns_in index) (assigns_in value) o) ml
        (out_within c _ _ _ _ out (omega (arith, a, b)) (omega (arith, u, v, w))))
        (unset_then c cc.lines _ (changed_unset c op of back (CellAtom (next_cell ci.made)) cv.value.atom cv.made
        (out_within c _ _ (next_cell cv.made) _ out (omega (arith, a, b, d)) (omega arith)))
        (record { is = refl }))))
    expression_unset (Choose site test chosen other) t h o m out =
        let ct = expression_code calls here test m in
        let cy = expression_code calls here chosen ct.made in
        let cn = expression_code calls here other cy.made in
        let a = expression_up calls calls_up here test m in
        let b = expression_up calls calls_up here chosen ct.made in
        let d = expression_up calls calls_up here other cy.made in
        let u = next_more cn.made OfValue cy.value.of in
        let o' = off_right c here (length f.variables) (assigns_in test) (λ x. assigns_in chosen x ||
        assigns_in other x) o in
        let e = out (next_cell cn.made) (omega (arith, a, b, d)) (omega (arith, u)) in
        unset_then c ct.lines _ (expression_unset test h.0.0 h.0.1
        (off_left c here (length f.variables) (assigns_in test) (λ x. assigns_in chosen x || assigns_in other x)
        o) m (out_within c _ _ _ _ out (omega arith) (omega (arith, b, d, u))))
        (unset_if c site ct.value.atom _ _ NoLine
        (unset_then c cy.lines _ (expression_unset chosen t h.1
        (off_left c here (length f.variables) (assigns_in chosen) (assigns_in other) o') ct.made
        (out_within c _ _ _ _ out (omega (arith, a)) (omega (arith, d, u))))
        (unset_set c _ _ NoLine e (unset_none c)))
        (unset_then c cn.lines _ (expression_unset other t h.2
        (off_right c here (length f.variables) (assigns_in chosen) (assigns_in other) o') cy.made
        (out_within c _ _ _ _ out (omega (arith, a, b)) (omega (arith, u))))
        (unset_set c _ _ NoLine e (unset_none c)))
        (unset_none c))
    expression_unset (Call site function roots arguments) t h o m out =
        let ca = operands_code calls here arguments m in
        let a = operands_up calls calls_up here arguments m in
        let b = calls_up here site function (argument_roots here roots) ca.values ca.made in
        unset_then c ca.lines _ (operands_unset arguments h.1.0 h.1.1 o m
        (out_within c _ _ _ _ out (omega arith) (omega (arith, b))))
        (call here site function (argument_roots here roots) ca.values ca.made
        (operand_count program calls f here arguments h.1.0 h.1.1 m ∙
        argument_count program f (parameter_kinds (function_at program function)) roots h.1.0 h.1.2)
        (out_within c _ _ _ _ out (omega (arith, a)) (omega arith)))

    pub operands_unset : (list : Expressions) (ts : List IntType) → HaveTypes program f list ts →
        Off c here (length f.variables) (assigns_among list) → (m : Made) →
        IsOut c (next_cell m) (next_cell (operands_code calls here list m).made) →
        Unset c (operands_code calls here list m).lines
    operands_unset none [] h o m out = unset_none c
    operands_unset none (t ∷ ts) h o m out = absurd h
    operands_unset (more e rest) [] h o m out = absurd h
    operands_unset (more e rest) (t ∷ ts) h o m out =
        let ce = expression_code calls here e m in
        let cr = operands_code calls here rest ce.made in
        let a = expression_up calls calls_up here e m in
        let b = operands_up calls calls_up here rest ce.made in
        unset_then c ce.lines cr.lines
        (expression_unset e t h.0 (off_left c here (length f.variables) (assigns_in e) (assigns_among rest) o) m
        (out_within c _ _ _ _ out (omega arith) (omega (arith, b))))
        (operands_unset rest ts h.1 (off_right c here (length f.variables) (assigns_in e) (assigns_among rest) o)
        ce.made (out_within c _ _ _ _ out (omega (arith, a)) (omega arith)))

  pub optional_unset : (e : Option Expression) → OptionalFits program f e →
      Off c here (length f.variables) (assigns_in_optional e) → (m : Made) →
      IsOut c (next_cell m) (next_cell (optional_code calls here e m).made) →
      Unset c (optional_code calls here e m).lines
  optional_unset None h o m out = unset_none c
  optional_unset (Some e) h o m out = expression_unset e h.0 h.1 o m out

  -- a call of a function that gives none
  pub plain_unset : (e : Expression) → IsPlainCall program f e → Off c here (length f.variables) (assigns_in e) →
      (m : Made) → IsOut c (next_cell m) (next_cell (expression_code calls here e m).made) →
      Unset c (expression_code calls here e m).lines
  unfolding expression_code
  plain_unset (Apply action operands) h o m out = absurd h
  plain_unset (Update site element root op of back old index value) h o m out = absurd h
  plain_unset (Choose site test chosen other) h o m out = absurd h
  plain_unset (Call site function roots arguments) h o m out =
      let ca = operands_code calls here arguments m in
      let a = operands_up calls calls_up here arguments m in
      let b = calls_up here site function (argument_roots here roots) ca.values ca.made in
      unset_then c ca.lines _ (operands_unset arguments h.1.0 h.1.1 o m
      (out_within c _ _ _ _ out (omega arith) (omega (arith, b))))
      (call here site function (argument_roots here roots) ca.values ca.made
      (operand_count program calls f here arguments h.1.0 h.1.1 m ∙
      argument_count program f (parameter_kinds (function_at program function)) roots h.1.0 h.1.2)
      (out_within c _ _ _ _ out (omega (arith, a)) (omega arith)))

  do_unset : (e : Expression) → StatementFits program f (Do e) → Off c here (length f.variables) (assigns_in e) →
      (m : Made) → IsOut c (next_cell m) (next_cell (expression_code calls here e m).made) →
      Unset c (expression_code calls here e m).lines
  do_unset e (inl h) o m out = expression_unset e h.0 h.1 o m out
  do_unset e (inr h) o m out = plain_unset e h o m out

  -- the cell of a variable that is declared
  abbrev one_if : Test → ℕ
  one_if b = if b then 1 else 0

  once_declared : (b : Test) → b ≡ true → one_if b ≡ 0 → ⊥
  once_declared true e h = omega (arith, h)
  once_declared false e h = cc

  declared_off : (x : ℕ) (value : Option Expression) →
      (nat_eq c (here.base + x) ≡ true → declarations (Declare x value) x ≡ 0) → nat_eq c (here.base + x) ≡ false
  declared_off x value h = elim (true_or_false (nat_eq c (here.base + x))) [
    | inl e ↦
        absurd (once_declared (nat_eq x x) (same_self x) (h e))
    | inr e ↦ e
  ]

  return_result : (result : Option IntType) (e : Expression) → ReturnFits program f result (Some e) →
      (t : IntType) × (result ≡ Some t)
  return_result None e h = absurd h
  return_result (Some t) e h = (t, refl)

  list_joined_unset : (g : Guarded) → Unset c g.inside × Unset c g.rest → Unset c (in_order g).lines
  list_joined_unset g h = unset_then c g.inside g.rest h.0 h.1

  mutual
    unfolding statement_code

    pub statement_unset : (exit : ℕ) (s : Statement) → StatementFits program f s →
        IsFree c exit (way_out true true s) →
        Clear c here (length f.variables) f.result (assigns s) (declarations s) (returns s) → (m : Made)
        → IsOut c (next_cell m) (next_cell (statement_code calls here exit s m).made) →
        Unset c (statement_code calls here exit s m).lines
    statement_unset exit (Do e) h w v m out = do_unset e h v.assigned m out
    statement_unset exit (Declare x None) h w v m out =
        unset_set c _ _ NoLine (declared_off x None (v.declared x (slice_get_within f.variables x h.1.0 h.1.1)))
        (unset_none c)
    statement_unset exit (Declare x (Some e)) h w v m out =
        let ce = expression_code calls here e m in
        unset_then c ce.lines _ (expression_unset e h.0 h.2 v.assigned m out)
        (unset_set c _ _ NoLine (declared_off x (Some e)
        (v.declared x (slice_get_within f.variables x h.1.0 h.1.1))) (unset_none c))
    statement_unset exit (Fill site array values) h w v m out =
        let cv = operands_code calls here values m in
        let k = all_have program f values _ h.3 in
        unset_then c cv.lines _ (operands_unset values k.0 k.1 v.assigned m out)
        (record { is = initial_unset c site _ _ 0 cv.values })
    statement_unset exit (Block list) h w v m out =
        list_joined_unset (list_code calls here exit false list m) (list_unset exit false list h w v m out)
    statement_unset exit (If site test chosen other) h w v m out =
        let ct = expression_code calls here test m in
        let cy = list_code calls here exit false chosen ct.made in
        let cn = list_code calls here exit false other cy.made in
        let a = expression_up calls calls_up here test m in
        let b = list_up calls calls_up here exit false chosen ct.made in
        let d = list_up calls calls_up here exit false other cy.made in
        let v' = clear_behind c here (length f.variables) f.result (assigns_in test) (λ x. some_assigns chosen x ||
        some_assigns other x) _ _ v in
        let vy = clear_left c here (length f.variables) f.result (some_assigns chosen) (some_assigns other)
        (all_declarations chosen) (all_declarations other) (some_returns chosen) (some_returns other) v' in
        let vn = clear_right c here (length f.variables) f.result (some_assigns chosen) (some_assigns other)
        (all_declarations chosen) (all_declarations other) (some_returns chosen) (some_returns other) v' in
        unset_then c ct.lines _ (expression_unset test h.0.0 h.0.1
        (off_left c here (length f.variables) (assigns_in test) (λ x. some_assigns chosen x ||
        some_assigns other x) v.assigned) m (out_within c _ _ _ _ out (omega arith) (omega (arith, b, d))))
        (unset_if c site ct.value.atom _ _ NoLine
        (list_joined_unset cy (list_unset exit false chosen h.1 (free_first c exit _ _ w) vy ct.made
        (out_within c _ _ _ _ out (omega (arith, a)) (omega (arith, d)))))
        (list_joined_unset cn (list_unset exit false other h.2 (free_second c exit (way_out_of_all true true chosen) _
        w) vn cy.made (out_within c _ _ _ _ out (omega (arith, a, b)) (omega arith))))
        (unset_none c))
    statement_unset exit (Loop site first test step body) h w v m out =
        let way = way_out true true body in
        let co = opened way exit m in
        let ct = optional_code calls here test co.made in
        let cs = optional_code calls here step ct.made in
        let cb = statement_code calls here co.exit body cs.made in
        let cr = round_code site first way co.exit ct.lines ct.value cs.lines cb.lines cb.made in
        let cw = outward (way_out false false body) co.exit exit cr.made in
        let a = opened_up way exit m in
        let b = optional_up calls calls_up here test co.made in
        let d = optional_up calls calls_up here step ct.made in
        let e = statement_up calls calls_up here co.exit body cs.made in
        let g = round_up site first way co.exit ct.lines ct.value cs.lines cb.lines cb.made in
        let k = outward_up (way_out false false body) co.exit exit cr.made in
        let o = opened_exit c way exit m (out_within c _ _ _ _ out (omega arith) (omega (arith, b, d, e, g, k))) in
        let v1 = clear_behind c here (length f.variables) f.result (assigns_in_optional test)
        (λ x. assigns_in_optional step x || assigns body x) _ _ v in
        let v2 = clear_behind c here (length f.variables) f.result (assigns_in_optional step) (assigns body) _ _ v1 in
        let p = optional_unset test h.0 (off_left c here (length f.variables) (assigns_in_optional test)
        (λ x. assigns_in_optional step x || assigns body x) v.assigned) co.made
        (out_within c _ _ _ _ out (omega (arith, a)) (omega (arith, d, e, g, k))) in
        let q = optional_unset step h.1 (off_left c here (length f.variables) (assigns_in_optional step)
        (assigns body) v1.assigned) ct.made (out_within c _ _ _ _ out (omega (arith, a, b)) (omega (
          arith,
          e,
          g,
          k,
        ))) in
        let r = statement_unset co.exit body h.2 o.1 v2 cs.made (out_within c _ _ _ _ out (omega (arith, a, b, d))
        (omega (arith, g, k))) in
        unset_then c co.lines _ (opened_unset c way exit m (out_within c _ _ _ _ out (omega arith) (omega (
          arith,
          b,
          d,
          e,
          g,
          k,
        )))) (unset_then c cr.lines _
        (round_unset c site first way co.exit ct.lines ct.value cs.lines cb.lines cb.made o.1
        (out_within c _ _ _ _ out (omega (arith, a, b, d, e)) (omega (arith, k))) p q r)
        (outward_unset c (way_out false false body) co.exit exit cr.made w
        (out_within c _ _ _ _ out (omega (arith, a, b, d, e, g)) (omega arith))))
    statement_unset exit (Switch site value arms) h w v m out =
        let way = way_out_of_arms true true arms in
        let cv = expression_code calls here value m in
        let co = opened way exit cv.made in
        let cs = selected site cv.value arms co.made in
        let ca = arms_code calls here co.exit site cs.value.atom (int (pos 0)) 0 arms cs.made in
        let cw = outward (way_out_of_arms false true arms) co.exit exit ca.made in
        let a = expression_up calls calls_up here value m in
        let b = opened_up way exit cv.made in
        let d = selected_up site cv.value arms co.made in
        let e = arms_up calls calls_up here co.exit site cs.value.atom (int (pos 0)) 0 arms cs.made in
        let g = outward_up (way_out_of_arms false true arms) co.exit exit ca.made in
        let o = opened_exit c way exit cv.made (out_within c _ _ _ _ out (omega (arith, a)) (omega (arith, d, e, g))) in
        let va = clear_behind c here (length f.variables) f.result (assigns_in value) (arms_assign arms) _ _ v in
        let p = expression_unset value h.0.0 h.0.1 (off_left c here (length f.variables) (assigns_in value)
        (arms_assign arms) v.assigned) m (out_within c _ _ _ _ out (omega arith) (omega (arith, b, d, e, g))) in
        let q = selected_unset c site cv.value arms co.made (out_within c _ _ _ _ out (omega (arith, a, b))
        (omega (arith, e, g))) in
        let r = arms_unset co.exit site cs.value.atom (int (pos 0)) 0 arms h.3 o.1 va cs.made
        (out_within c _ _ _ _ out (omega (arith, a, b, d)) (omega (arith, g))) in
        unset_then c cv.lines _ p (unset_then c co.lines _
        (opened_unset c way exit cv.made (out_within c _ _ _ _ out (omega (arith, a)) (omega (arith, d, e, g))))
        (unset_then c cs.lines _ q (unset_then c ca.lines _ r (outward_unset c (way_out_of_arms false true arms)
        co.exit exit ca.made w (out_within c _ _ _ _ out (omega (arith, a, b, d, e)) (omega arith))))))
    statement_unset exit (Break site) h w v m out = unset_set c _ _ NoLine (w site refl) (unset_none c)
    statement_unset exit (Continue site) h w v m out = unset_set c _ _ NoLine (w site refl) (unset_none c)
    statement_unset exit (Return site None) h w v m out = unset_set c _ _ NoLine (w site refl) (unset_none c)
    statement_unset exit (Return site (Some e)) h w v m out =
        let ce = expression_code calls here e m in
        let k = return_type program f f.result e h in
        unset_then c ce.lines _ (expression_unset e k.0 k.1 v.assigned m out)
        (unset_set c _ _ _ (let r = return_result f.result e h in
        v.answer refl r.0 r.1) (unset_set c _ _ NoLine (w site refl) (unset_none c)))
    statement_unset exit (Barrier site) h w v m out = record { is = refl }

    pub list_unset : (exit : ℕ) (guarded : Test) (list : Statements) → AllFit program f list →
        IsFree c exit (way_out_of_all true true list) →
        Clear c here (length f.variables) f.result (some_assigns list) (all_declarations list) (some_returns list) →
        (m : Made)
        → IsOut c (next_cell m) (next_cell (list_code calls here exit guarded list m).made) →
        Unset c (list_code calls here exit guarded list m).inside ×
        Unset c (list_code calls here exit guarded list m).rest
    list_unset exit guarded empty h w v m out = (unset_none c, unset_none c)
    list_unset exit guarded (also s rest) h w v m out =
        let way = way_out true true s in
        let cs = statement_code calls here exit s m in
        let declared = guarded && declares s in
        let inner = is_guarded declared way guarded in
        let cr = list_code calls here exit inner rest cs.made in
        let a = statement_up calls calls_up here exit s m in
        let b = list_up calls calls_up here exit inner rest cs.made in
        let same = before_rest_same exit declared way cs.lines cr in
        before_rest_unset c exit declared way cs.lines cr
        (statement_unset exit s h.0 (free_first c exit way _ w) (clear_left c here (length f.variables) f.result
        (assigns s) (some_assigns rest) (declarations s) (all_declarations rest) (returns s)
        (some_returns rest) v) m (out_within c _ _ _ _ out (omega arith) (omega (arith, b, same))))
        (list_unset exit inner rest h.1 (free_second c exit way _ w) (clear_right c here (length f.variables) f.result
        (assigns s) (some_assigns rest) (declarations s) (all_declarations rest) (returns s)
        (some_returns rest) v) cs.made (out_within c _ _ _ _ out (omega (arith, a)) (omega (arith, same))))

    pub arms_unset : (exit site : ℕ) (chosen fallen : Atom) (k : ℕ) (arms : Arms) → ArmsFit program f arms →
        IsFree c exit (way_out_of_arms true true arms) →
        Clear c here (length f.variables) f.result (arms_assign arms) (arms_declarations arms) (arms_return arms) →
        (m : Made)
        → IsOut c (next_cell m) (next_cell (arms_code calls here exit site chosen fallen k arms m).made) →
        Unset c (arms_code calls here exit site chosen fallen k arms m).lines
    arms_unset exit site chosen fallen k no_arm h w v m out = unset_none c
    arms_unset exit site chosen fallen k (arm labels other body rest) h w v m out =
        let way = way_out_of_all true true body in
        let ce = entry_code chosen fallen k m in
        let cl = list_code calls here exit false body ce.made in
        let cf = fallen_code way exit ce.value cl.made in
        let ca = around_arm site exit way ce (in_order cl) in
        let a = entry_up chosen fallen k m in
        let b = list_up calls calls_up here exit false body ce.made in
        let d = fallen_up way exit ce.value cl.made in
        let e = arms_up calls calls_up here exit site chosen cf.value.atom (k + 1) rest cf.made in
        let q = list_joined_unset cl (list_unset exit false body h.0 (free_first c exit way _ w)
        (clear_left c here (length f.variables) f.result (some_assigns body) (arms_assign rest)
        (all_declarations body) (arms_declarations rest) (some_returns body) (arms_return rest) v) ce.made
        (out_within c _ _ _ _ out (omega (arith, a)) (omega (arith, d, e)))) in
        unset_then c ca.lines _
        (unset_then c ce.lines _ (entry_unset c chosen fallen k m
        (out_within c _ _ _ _ out (omega arith) (omega (arith, b, d, e))))
        (unset_if c site ce.value.atom _ NoLine cf.lines q (unset_none c)
        (fallen_unset c way exit ce.value cl.made (out_within c _ _ _ _ out (omega (arith, a, b))
        (omega (arith, e))))))
        (arms_unset exit site chosen cf.value.atom (k + 1) rest h.1 (free_second c exit way _ w)
        (clear_right c here (length f.variables) f.result (some_assigns body) (arms_assign rest)
        (all_declarations body) (arms_declarations rest) (some_returns body) (arms_return rest) v) cf.made
        (out_within c _ _ _ _ out (omega (arith, a, b, d)) (omega arith)))
