-- The code of expressions and statements names no cell but those of variables in it, those of ways out, and those
-- that it makes.
use Rattle.std.proofs.Common.{◌≡◌, ℕ, suc, ◌+◌, ◌<◌, ◌≤◌, pos, List, [], ◌∷◌, ◌++◌, length, Option, Some, None, refl}
use Rattle.std.proofs.Common.{ap, ◌∙◌, arith, true, false, inl, inr}
use Rattle.std.proofs.Common.{Bool as Test}
use Rattle.std.specs.Prelude.{nat_eq, ◌&&◌}
use Rattle.std.proofs.lemmas.Option.{slice_get_within}
use Rattle.wg_num.specs.declared.types.IntType.{IntType}
use Rattle.cl_model.specs.declared.program.Root.{Root}
use Rattle.cl_model.specs.Tree.{Expression, Apply, Update, Choose, Call, Expressions, none, more, Statement, Do}
use Rattle.cl_model.specs.Tree.{Declare, Fill, Block, If, Loop, Switch, Break, Continue, Return, Barrier, Statements}
use Rattle.cl_model.specs.Tree.{empty, also, Arms, no_arm, arm, Function, Program}
use Rattle.cl_model.specs.Calls.{CallSite, function_at}
use Rattle.cl_model.specs.Valid.{HasType, HaveTypes, OptionalFits, IsPlainCall, StatementFits, AllFit, ArmsFit}
use Rattle.cl_model.specs.Valid.{parameter_kinds, binary_type}
use Rattle.kir.specs.declared.line.Atom.{Atom}
use Rattle.kir.specs.declared.line.Atom.TheVariants.{Cell as CellAtom}
use Rattle.kir.specs.Tree.{Lines, NoLine, OfValue, OfFlag}
use Rattle.kir.specs.Live.{reads, some_reads}
use Rattle.kir_lower.specs.declared.places.Value.{Value}
use Rattle.kir_lower.specs.Made.{Made, Instance, int, with_cell, next_cell, argument_roots}
use Rattle.kir_lower.specs.Ways.{way_out, way_out_of_all, way_out_of_arms, declares}
use Rattle.kir_lower.specs.Actions.{atoms_of, opened, round_code, outward, selected, fallen_code, changed}
use Rattle.kir_lower.specs.Code.{Calls, expression_code, operands_code, optional_code, Guarded, is_guarded}
use Rattle.kir_lower.specs.Code.{before_rest, in_order, entry_code, around_arm, statement_code, list_code, arms_code}
use Rattle.kir_lower_shape.proofs.Quiet.{or_false}
use Rattle.kir_lower_shape.proofs.Steps.{IsFree, either_quiet}
use Rattle.kir_lower_shape.proofs.Scoped.{free_first, free_second, fewer_ways, fewer_of_arms, all_have, return_type}
use Rattle.kir_lower_shape.proofs.Scoped.{argument_count}
use Rattle.kir_lower_shape.proofs.Making as making
use Rattle.kir_lower_shape.proofs.Absent.{Absent, absent_none, absent_then, absent_set, absent_load, absent_store}
use Rattle.kir_lower_shape.proofs.Absent.{absent_clear, absent_barrier, absent_if, next_more, IsOut, out_within}
use Rattle.kir_lower_shape.proofs.AbsentSteps.{action_within, opened_exit, three_out, changed_absent, action_absent}
use Rattle.kir_lower_shape.proofs.AbsentSteps.{initial_absent, outward_absent, round_absent, selected_absent}
use Rattle.kir_lower_shape.proofs.AbsentSteps.{entry_absent, fallen_absent, before_rest_absent}

-- a statement before others makes no cell
pub before_rest_same : (exit : ℕ) (declared : Test) (way : Option ℕ) (lines : Lines) (g : Guarded) →
    next_cell (before_rest exit declared way lines g).made ≡ next_cell g.made
before_rest_same exit true way lines g = refl
before_rest_same exit false None lines g = refl
before_rest_same exit false (Some site) lines g = refl

-- no cell is given back
abbrev pub Up : List CallSite → Made → Made → Type 0
Up calls a b = next_cell a ≤ next_cell b

up_same : (m : Made) → Up [] m m
up_same m = omega arith

up_before : (xs ys : List CallSite) (a b c : Made) → Up xs a b → Up ys b c → Up (xs ++ ys) a c
up_before xs ys a b c h k = omega (arith, h, k)

up_value : (m : Made) (of : IntType) → Up [] m (with_cell m OfValue of)
up_value m of = let one = next_more m OfValue of in omega (arith, one)

up_flag : (m : Made) (of : IntType) → Up [] m (with_cell m OfFlag of)
up_flag m of = let one = next_more m OfFlag of in omega (arith, one)

-- calls give no cell back
abbrev pub CallsUp : Calls → Type 0
CallsUp calls = (here : Instance) (site function : ℕ) (roots : List Root) (values : List Value) (m : Made) →
    next_cell m ≤ next_cell (calls here site function roots values m).made

pub opened_up : (way : Option ℕ) (exit : ℕ) (m : Made) → next_cell m ≤ next_cell (opened way exit m).made
opened_up way exit m = making.opened_makes Up up_same up_before up_value up_flag way exit m

pub outward_up : (way : Option ℕ) (exit outer : ℕ) (m : Made) → next_cell m ≤ next_cell (outward way exit outer m).made
outward_up way exit outer m = making.outward_makes Up up_same up_before up_value up_flag way exit outer m

module _ (calls : Calls) (calls_up : CallsUp calls) (here : Instance) where
  pub expression_up : (e : Expression) (m : Made) → next_cell m ≤ next_cell (expression_code calls here e m).made
  expression_up e m = making.expression_makes Up up_same up_before up_value up_flag calls here
      (λ site function roots values m. calls_up here site function roots values m) e m

  pub operands_up : (list : Expressions) (m : Made) → next_cell m ≤ next_cell (operands_code calls here list m).made
  operands_up list m = making.operands_make Up up_same up_before up_value up_flag calls here
      (λ site function roots values m. calls_up here site function roots values m) list m

  pub optional_up : (e : Option Expression) (m : Made) → next_cell m ≤ next_cell (optional_code calls here e m).made
  optional_up e m = making.optional_makes Up up_same up_before up_value up_flag calls here
      (λ site function roots values m. calls_up here site function roots values m) e m

  pub statement_up : (exit : ℕ) (s : Statement) (m : Made) →
      next_cell m ≤ next_cell (statement_code calls here exit s m).made
  statement_up exit s m = making.statement_makes Up up_same up_before up_value up_flag calls here
      (λ site function roots values m. calls_up here site function roots values m) exit s m

  pub list_up : (exit : ℕ) (guarded : Test) (list : Statements) (m : Made) →
      next_cell m ≤ next_cell (list_code calls here exit guarded list m).made
  list_up exit guarded list m = making.list_makes Up up_same up_before up_value up_flag calls here
      (λ site function roots values m. calls_up here site function roots values m) exit guarded list m

  pub arms_up : (exit site : ℕ) (chosen fallen : Atom) (k : ℕ) (arms : Arms) (m : Made) →
      next_cell m ≤ next_cell (arms_code calls here exit site chosen fallen k arms m).made
  arms_up exit site chosen fallen k arms m =
      making.arms_make Up up_same up_before up_value up_flag calls here (λ site function roots values m.
      calls_up here site function roots values m) exit site chosen fallen k arms m

-- of calls: they name no cell but those of arguments and those that they make
abbrev pub CallsAbsent : Program → ℕ → Calls → Type 0
CallsAbsent program c calls =
    (here : Instance) (site function : ℕ) (roots : List Root) (values : List Value) (m : Made) →
    length values ≡ length (parameter_kinds (function_at program function)) → some_reads c (atoms_of values) ≡ false
    → IsOut c (next_cell m) (next_cell (calls here site function roots values m).made) →
    Absent c (calls here site function roots values m).lines ×
    (reads c (calls here site function roots values m).value.atom ≡ false)

module _ (program : Program) (c : ℕ) (calls : Calls) (calls_up : CallsUp calls) (call : CallsAbsent program c calls)
    (f : Function) (here : Instance) (vars : (x : ℕ) → x < length f.variables → nat_eq c (here.base + x) ≡ false) where
  operand_count : (list : Expressions) (ts : List IntType) → HaveTypes program f list ts → (m : Made) →
      length (operands_code calls here list m).values ≡ length ts
  unfolding expression_code
  operand_count none [] h m = refl
  operand_count none (t ∷ ts) h m = absurd h
  operand_count (more e rest) [] h m = absurd h
  operand_count (more e rest) (t ∷ ts) h m = ap suc (operand_count rest ts h.1 (expression_code calls here e m).made)

  mutual
    unfolding expression_code

    pub expression_absent : (e : Expression) (t : IntType) → HasType program f e t → (m : Made) →
        IsOut c (next_cell m) (next_cell (expression_code calls here e m).made)
        → Absent c (expression_code calls here e m).lines ×
        (reads c (expression_code calls here e m).value.atom ≡ false)
    expression_absent (Apply action operands) t h m out =
        let co = operands_code calls here operands m in
        let a = operands_up calls calls_up here operands m in
        let b = making.action_makes Up up_same up_before up_value up_flag here action co.values co.made in
        let p = operands_absent operands h.0 h.1 m (out_within c _ _ _ _ out (omega arith) (omega (arith, b))) in
        let q = action_absent c here action co.values co.made
        (λ x e. vars x (action_within program f action h.0 t h.2 x e)) p.1
        (out_within c _ _ _ _ out (omega (arith, a)) (omega arith)) in
        (absent_then c co.lines _ p.0 q.0, q.1)
    expression_absent (Update site element root op of back old index value) t h m out =
        let ci = expression_code calls here index m in
        let ml = with_cell ci.made OfValue element in
        let cv = expression_code calls here value ml in
        let cc = changed op of back (CellAtom (next_cell ci.made)) cv.value.atom cv.made in
        let a = expression_up calls calls_up here index m in
        let b = next_more ci.made OfValue element in
        let d = expression_up calls calls_up here value ml in
        let u = next_more cv.made OfValue of in
        let v = next_more (with_cell cv.made OfValue of) OfValue (binary_type op of) in
        let w = next_more (with_cell (with_cell cv.made OfValue of) OfValue (binary_type op of)) OfValue back in
        let p =
        expression_absent index _ h.0 m (out_within c _ _ _ _ out (omega arith) (omega (arith, b, d, u, v, w))) in
        let e = out (next_cell ci.made) (omega (arith, a)) (omega (arith, b, d, u, v, w)) in
        let q = expression_absent value h.1.0 h.1.1 ml (out_within c _ _ _ _ out (omega (arith, a, b)) (omega (
          arith,
          u,
          v,
          w,
        ))) in
        let outside = out_within c _ _ (next_cell cv.made) _ out (omega (arith, a, b, d)) (omega arith) in
        let three = three_out c cv.made of (binary_type op of) back outside in (
          absent_then c ci.lines _ p.0 (absent_load c site _ element _ _ _ p.1 e
              (absent_then c cv.lines _ q.0 (changed_absent c op of back (CellAtom (next_cell ci.made)) cv.value.atom
              cv.made _ e q.1 outside
              (λ ec. absent_store c site element _ _ _ NoLine p.1 ec (absent_none c))))),
          either_quiet c old _ _ e three.2,
        )
    expression_absent (Choose site test chosen other) t h m out =
        let ct = expression_code calls here test m in
        let cy = expression_code calls here chosen ct.made in
        let cn = expression_code calls here other cy.made in
        let a = expression_up calls calls_up here test m in
        let b = expression_up calls calls_up here chosen ct.made in
        let d = expression_up calls calls_up here other cy.made in
        let u = next_more cn.made OfValue cy.value.of in
        let p =
        expression_absent test h.0.0 h.0.1 m (out_within c _ _ _ _ out (omega arith) (omega (arith, b, d, u))) in
        let q = expression_absent chosen t h.1 ct.made (out_within c _ _ _ _ out (omega (arith, a)) (omega (
          arith,
          d,
          u,
        ))) in
        let r =
        expression_absent other t h.2 cy.made (out_within c _ _ _ _ out (omega (arith, a, b)) (omega (arith, u))) in
        let e = out (next_cell cn.made) (omega (arith, a, b, d)) (omega (arith, u)) in (
          absent_then c ct.lines _ p.0 (absent_if c site ct.value.atom _ _ NoLine p.1
              (absent_then c cy.lines _ q.0 (absent_set c _ _ NoLine q.1 e (absent_none c)))
              (absent_then c cn.lines _ r.0 (absent_set c _ _ NoLine r.1 e (absent_none c))) (absent_none c)),
          e,
        )
    expression_absent (Call site function roots arguments) t h m out =
        let ca = operands_code calls here arguments m in
        let a = operands_up calls calls_up here arguments m in
        let b = calls_up here site function (argument_roots here roots) ca.values ca.made in
        let p = operands_absent arguments h.1.0 h.1.1 m (out_within c _ _ _ _ out (omega arith) (omega (arith, b))) in
        let q = call here site function (argument_roots here roots) ca.values ca.made
        (operand_count arguments h.1.0 h.1.1 m ∙
        argument_count program f (parameter_kinds (function_at program function)) roots h.1.0 h.1.2) p.1
        (out_within c _ _ _ _ out (omega (arith, a)) (omega arith)) in
        (absent_then c ca.lines _ p.0 q.0, q.1)

    pub operands_absent : (list : Expressions) (ts : List IntType) → HaveTypes program f list ts → (m : Made) →
        IsOut c (next_cell m) (next_cell (operands_code calls here list m).made)
        → Absent c (operands_code calls here list m).lines ×
        (some_reads c (atoms_of (operands_code calls here list m).values) ≡ false)
    operands_absent none [] h m out = (absent_none c, refl)
    operands_absent none (t ∷ ts) h m out = absurd h
    operands_absent (more e rest) [] h m out = absurd h
    operands_absent (more e rest) (t ∷ ts) h m out =
        let ce = expression_code calls here e m in
        let cr = operands_code calls here rest ce.made in
        let a = expression_up calls calls_up here e m in
        let b = operands_up calls calls_up here rest ce.made in
        let p = expression_absent e t h.0 m (out_within c _ _ _ _ out (omega arith) (omega (arith, b))) in
        let q = operands_absent rest ts h.1 ce.made (out_within c _ _ _ _ out (omega (arith, a)) (omega arith)) in
        (absent_then c ce.lines cr.lines p.0 q.0, or_false _ _ p.1 q.1)

  pub optional_absent : (e : Option Expression) → OptionalFits program f e → (m : Made) →
      IsOut c (next_cell m) (next_cell (optional_code calls here e m).made)
      → Absent c (optional_code calls here e m).lines × (reads c (optional_code calls here e m).value.atom ≡ false)
  optional_absent None h m out = (absent_none c, refl)
  optional_absent (Some e) h m out = expression_absent e h.0 h.1 m out

  -- a call of a function that gives none
  plain_absent : (e : Expression) → IsPlainCall program f e → (m : Made) →
      IsOut c (next_cell m) (next_cell (expression_code calls here e m).made) →
      Absent c (expression_code calls here e m).lines
  unfolding expression_code
  plain_absent (Apply action operands) h m out = absurd h
  plain_absent (Update site element root op of back old index value) h m out = absurd h
  plain_absent (Choose site test chosen other) h m out = absurd h
  plain_absent (Call site function roots arguments) h m out =
      let ca = operands_code calls here arguments m in
      let a = operands_up calls calls_up here arguments m in
      let b = calls_up here site function (argument_roots here roots) ca.values ca.made in
      let p = operands_absent arguments h.1.0 h.1.1 m (out_within c _ _ _ _ out (omega arith) (omega (arith, b))) in
      let q = call here site function (argument_roots here roots) ca.values ca.made
      (operand_count arguments h.1.0 h.1.1 m ∙
      argument_count program f (parameter_kinds (function_at program function)) roots h.1.0 h.1.2) p.1
      (out_within c _ _ _ _ out (omega (arith, a)) (omega arith)) in
      absent_then c ca.lines _ p.0 q.0

  do_absent : (e : Expression) → StatementFits program f (Do e) → (m : Made) →
      IsOut c (next_cell m) (next_cell (expression_code calls here e m).made) →
      Absent c (expression_code calls here e m).lines
  do_absent e (inl h) m out = (expression_absent e h.0 h.1 m out).0
  do_absent e (inr h) m out = plain_absent e h m out

  declared_apart : (x : ℕ) (value : Option Expression) → StatementFits program f (Declare x value) →
      nat_eq c (here.base + x) ≡ false
  declared_apart x None h = vars x (slice_get_within f.variables x h.1.0 h.1.1)
  declared_apart x (Some e) h = vars x (slice_get_within f.variables x h.1.0 h.1.1)

  list_joined_absent : (g : Guarded) → Absent c g.inside × Absent c g.rest → Absent c (in_order g).lines
  list_joined_absent g h = absent_then c g.inside g.rest h.0 h.1

  mutual
    unfolding statement_code

    pub statement_absent : (exit : ℕ) (s : Statement) → StatementFits program f s →
        IsFree c exit (way_out true true s) → IsFree c here.answer (way_out false false s) → (m : Made)
        → IsOut c (next_cell m) (next_cell (statement_code calls here exit s m).made) →
        Absent c (statement_code calls here exit s m).lines
    statement_absent exit (Do e) h w v m out = do_absent e h m out
    statement_absent exit (Declare x None) h w v m out =
        absent_set c _ _ NoLine refl (declared_apart x None h) (absent_none c)
    statement_absent exit (Declare x (Some e)) h w v m out =
        let ce = expression_code calls here e m in
        let p = expression_absent e h.0 h.2 m out in
        absent_then c ce.lines _ p.0 (absent_set c _ _ NoLine p.1 (declared_apart x (Some e) h) (absent_none c))
    statement_absent exit (Fill site array values) h w v m out =
        let cv = operands_code calls here values m in
        let k = all_have program f values _ h.3 in
        let p = operands_absent values k.0 k.1 m out in
        absent_then c cv.lines _ p.0 (absent_clear c _ _ (initial_absent c site _ _ 0 cv.values p.1))
    statement_absent exit (Block list) h w v m out =
        list_joined_absent (list_code calls here exit false list m) (list_absent exit false list h w v m out)
    statement_absent exit (If site test chosen other) h w v m out =
        let ct = expression_code calls here test m in
        let cy = list_code calls here exit false chosen ct.made in
        let cn = list_code calls here exit false other cy.made in
        let a = expression_up calls calls_up here test m in
        let b = list_up calls calls_up here exit false chosen ct.made in
        let d = list_up calls calls_up here exit false other cy.made in
        let p = expression_absent test h.0.0 h.0.1 m (out_within c _ _ _ _ out (omega arith) (omega (arith, b, d))) in
        absent_then c ct.lines _ p.0 (absent_if c site ct.value.atom _ _ NoLine p.1
        (list_joined_absent cy (list_absent exit false chosen h.1 (free_first c exit _ _ w)
        (free_first c here.answer _ _ v) ct.made (out_within c _ _ _ _ out (omega (arith, a)) (omega (
          arith,
          d,
        )))))
        (list_joined_absent cn (list_absent exit false other h.2 (free_second c exit (way_out_of_all true true chosen)
        _ w) (free_second c here.answer (way_out_of_all false false chosen) _ v) cy.made
        (out_within c _ _ _ _ out (omega (arith, a, b)) (omega arith))))
        (absent_none c))
    statement_absent exit (Loop site first test step body) h w v m out =
        let way = way_out true true body in
        let co = opened way exit m in
        let ct = optional_code calls here test co.made in
        let cs = optional_code calls here step ct.made in
        let cb = statement_code calls here co.exit body cs.made in
        let cr = round_code site first way co.exit ct.lines ct.value cs.lines cb.lines cb.made in
        let cw = outward (way_out false false body) co.exit exit cr.made in
        let a = opened_up way exit m in
        let b = optional_up calls calls_up here test co.made in
        let d = optional_up calls calls_up here step ct.made in
        let e = statement_up calls calls_up here co.exit body cs.made in
        let g = making.round_makes Up up_same up_before up_value up_flag site first way co.exit ct.lines ct.value
        cs.lines cb.lines cb.made in
        let k = outward_up (way_out false false body) co.exit exit cr.made in
        let o = opened_exit c way exit m (out_within c _ _ _ _ out (omega arith) (omega (arith, b, d, e, g, k))) in
        let p = optional_absent test h.0 co.made (out_within c _ _ _ _ out (omega (arith, a)) (omega (
          arith,
          d,
          e,
          g,
          k,
        ))) in
        let q = optional_absent step h.1 ct.made (out_within c _ _ _ _ out (omega (arith, a, b)) (omega (
          arith,
          e,
          g,
          k,
        ))) in
        let r = statement_absent co.exit body h.2 o.1 v cs.made (out_within c _ _ _ _ out (omega (arith, a, b, d))
        (omega (arith, g, k))) in
        absent_then c co.lines _ o.0 (absent_then c cr.lines _
        (round_absent c site first way co.exit ct.lines ct.value cs.lines cb.lines cb.made o.1
        (out_within c _ _ _ _ out (omega (arith, a, b, d, e)) (omega (arith, k))) p.0 p.1 q.0 r)
        (outward_absent c (way_out false false body) co.exit exit cr.made
        (fewer_ways c co.exit false true false true (λ e. refl) (λ e. refl) body o.1) w
        (out_within c _ _ _ _ out (omega (arith, a, b, d, e, g)) (omega arith))))
    statement_absent exit (Switch site value arms) h w v m out =
        let way = way_out_of_arms true true arms in
        let cv = expression_code calls here value m in
        let co = opened way exit cv.made in
        let cs = selected site cv.value arms co.made in
        let ca = arms_code calls here co.exit site cs.value.atom (int (pos 0)) 0 arms cs.made in
        let cw = outward (way_out_of_arms false true arms) co.exit exit ca.made in
        let a = expression_up calls calls_up here value m in
        let b = opened_up way exit cv.made in
        let d = making.selected_makes Up up_same up_before up_value up_flag site cv.value arms co.made in
        let e = arms_up calls calls_up here co.exit site cs.value.atom (int (pos 0)) 0 arms cs.made in
        let g = outward_up (way_out_of_arms false true arms) co.exit exit ca.made in
        let p = expression_absent value h.0.0 h.0.1 m (out_within c _ _ _ _ out (omega arith) (omega (
          arith,
          b,
          d,
          e,
          g,
        ))) in
        let o = opened_exit c way exit cv.made (out_within c _ _ _ _ out (omega (arith, a)) (omega (arith, d, e, g))) in
        let q = selected_absent c site cv.value arms co.made p.1 (out_within c _ _ _ _ out (omega (arith, a, b))
        (omega (arith, e, g))) in
        let r = arms_absent co.exit site cs.value.atom (int (pos 0)) 0 arms h.3 o.1
        (fewer_of_arms c here.answer false false false false (λ e. e) (λ e. e) arms v) q.1 refl cs.made
        (out_within c _ _ _ _ out (omega (arith, a, b, d)) (omega (arith, g))) in
        absent_then c cv.lines _ p.0 (absent_then c co.lines _ o.0
        (absent_then c cs.lines _ q.0 (absent_then c ca.lines _ r
        (outward_absent c (way_out_of_arms false true arms) co.exit exit ca.made
        (fewer_of_arms c co.exit false true true true (λ e. refl) (λ e. e) arms o.1) w
        (out_within c _ _ _ _ out (omega (arith, a, b, d, e)) (omega arith))))))
    statement_absent exit (Break site) h w v m out = absent_set c _ _ NoLine refl (w site refl) (absent_none c)
    statement_absent exit (Continue site) h w v m out = absent_set c _ _ NoLine refl (w site refl) (absent_none c)
    statement_absent exit (Return site None) h w v m out = absent_set c _ _ NoLine refl (w site refl) (absent_none c)
    statement_absent exit (Return site (Some e)) h w v m out =
        let ce = expression_code calls here e m in
        let k = return_type program f f.result e h in
        let p = expression_absent e k.0 k.1 m out in
        absent_then c ce.lines _ p.0 (absent_set c _ _ _ p.1 (v site refl)
        (absent_set c _ _ NoLine refl (w site refl) (absent_none c)))
    statement_absent exit (Barrier site) h w v m out = absent_barrier c site NoLine (absent_none c)

    pub list_absent : (exit : ℕ) (guarded : Test) (list : Statements) → AllFit program f list →
        IsFree c exit (way_out_of_all true true list) → IsFree c here.answer (way_out_of_all false false list) →
        (m : Made)
        → IsOut c (next_cell m) (next_cell (list_code calls here exit guarded list m).made) →
        Absent c (list_code calls here exit guarded list m).inside ×
        Absent c (list_code calls here exit guarded list m).rest
    list_absent exit guarded empty h w v m out = (absent_none c, absent_none c)
    list_absent exit guarded (also s rest) h w v m out =
        let way = way_out true true s in
        let cs = statement_code calls here exit s m in
        let declared = guarded && declares s in
        let inner = is_guarded declared way guarded in
        let cr = list_code calls here exit inner rest cs.made in
        let a = statement_up calls calls_up here exit s m in
        let b = list_up calls calls_up here exit inner rest cs.made in
        let same = before_rest_same exit declared way cs.lines cr in
        before_rest_absent c exit declared way cs.lines cr (free_first c exit way _ w)
        (statement_absent exit s h.0 (free_first c exit way _ w) (free_first c here.answer (way_out false false s) _
        v) m (out_within c _ _ _ _ out (omega arith) (omega (arith, b, same))))
        (list_absent exit inner rest h.1 (free_second c exit way _ w)
        (free_second c here.answer (way_out false false s) _ v) cs.made
        (out_within c _ _ _ _ out (omega (arith, a)) (omega (arith, same))))

    pub arms_absent : (exit site : ℕ) (chosen fallen : Atom) (k : ℕ) (arms : Arms) → ArmsFit program f arms →
        IsFree c exit (way_out_of_arms true true arms) → IsFree c here.answer (way_out_of_arms false false arms) →
        reads c chosen ≡ false → reads c fallen ≡ false → (m : Made)
        → IsOut c (next_cell m) (next_cell (arms_code calls here exit site chosen fallen k arms m).made) →
        Absent c (arms_code calls here exit site chosen fallen k arms m).lines
    arms_absent exit site chosen fallen k no_arm h w v r s m out = absent_none c
    arms_absent exit site chosen fallen k (arm labels other body rest) h w v r s m out =
        let way = way_out_of_all true true body in
        let ce = entry_code chosen fallen k m in
        let cl = list_code calls here exit false body ce.made in
        let cf = fallen_code way exit ce.value cl.made in
        let ca = around_arm site exit way ce (in_order cl) in
        let a = making.entry_makes Up up_same up_before up_value up_flag chosen fallen k m in
        let b = list_up calls calls_up here exit false body ce.made in
        let d = making.fallen_makes Up up_same up_before up_value up_flag way exit ce.value cl.made in
        let e = arms_up calls calls_up here exit site chosen cf.value.atom (k + 1) rest cf.made in
        let p =
        entry_absent c chosen fallen k m r s (out_within c _ _ _ _ out (omega arith) (omega (arith, b, d, e))) in
        let q = list_joined_absent cl (list_absent exit false body h.0 (free_first c exit way _ w)
        (free_first c here.answer (way_out_of_all false false body) _ v) ce.made
        (out_within c _ _ _ _ out (omega (arith, a)) (omega (arith, d, e)))) in
        let g = fallen_absent c way exit ce.value cl.made (free_first c exit way _ w) p.1
        (out_within c _ _ _ _ out (omega (arith, a, b)) (omega (arith, e))) in
        absent_then c ca.lines _ (absent_then c ce.lines _ p.0 (absent_if c site ce.value.atom _ NoLine cf.lines p.1 q
        (absent_none c) g.0))
        (arms_absent exit site chosen cf.value.atom (k + 1) rest h.1 (free_second c exit way _ w)
        (free_second c here.answer (way_out_of_all false false body) _ v) r g.1 cf.made
        (out_within c _ _ _ _ out (omega (arith, a, b, d)) (omega arith)))
