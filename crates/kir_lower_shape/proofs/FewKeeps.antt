-- Where barriers stand in plain places, a lowered kernel has at most as many keeps as `if` statements that hold a
-- barrier.
use Rattle.std.proofs.Common.{◌≡◌, ℕ, ◌+◌, ◌<◌, ◌≤◌, List, length, Option, Some, None, refl, sym, ap, ◌∙◌, subst}
use Rattle.std.proofs.Common.{arith, true, false, if◌then◌else◌, ne_eqb}
use Rattle.std.proofs.Common.{Bool as Test}
use Rattle.std.specs.Prelude.{nat_eq, ◌&&◌, ◌||◌}
use Rattle.std.proofs.lemmas.Option.{none-some}
use Rattle.wg_num.specs.declared.types.IntType.{IntType}
use Rattle.cl_model.specs.declared.program.Root.{Root}
use Rattle.kir_lower.specs.declared.places.Value.{Value}
use Rattle.cl_model.specs.Tree.{Expression, Statement, Do, Declare, Fill, Block, If, Loop, Switch, Break, Continue}
use Rattle.cl_model.specs.Tree.{Return, Barrier, Statements, empty, also, Function, Program}
use Rattle.cl_model.specs.Valid.{IsValid, HasType, OptionalFits, StatementFits, AllFit}
use Rattle.kir.specs.Tree.{Lines, NoLine, BarrierThen, joined_to}
use Rattle.kir.specs.Live.{reads}
use Rattle.kir.specs.Inlined.{holds_in, holds_in_optional, holds, body_holds}
use Rattle.kir.specs.Choices.{expression_holds, some_expression_holds, switch_holds, some_switch_holds, belongs}
use Rattle.kir.specs.Choices.{loop_is_left, some_loop_is_left, choices, all_choices}
use Rattle.kir.specs.Lowering.{Named}
use Rattle.kir_lower.specs.Made.{Made, Instance, next_cell}
use Rattle.kir_lower.specs.Ways.{way_out, way_out_of_all}
use Rattle.kir_lower.specs.Actions.{opened, round_code, outward}
use Rattle.kir_lower.specs.Code.{Calls, expression_code, optional_code, is_guarded, before_rest, in_order}
use Rattle.kir_lower.specs.Code.{statement_code, list_code}
use Rattle.kir_lower.specs.Whole.{call_code}
use Rattle.kir_lower_shape.specs.Names.{AreNamed}
use Rattle.kir_lower_shape.proofs.Quiet.{or_parts}
use Rattle.kir_lower_shape.proofs.Joined.{join_assoc}
use Rattle.kir_lower_shape.proofs.Steps.{IsFree}
use Rattle.kir_lower_shape.proofs.Scoped.{fewer_ways, fewer_of_all}
use Rattle.kir_lower_shape.proofs.NoWays.{first_none, second_none, belongs_none}
use Rattle.kir_lower_shape.proofs.Absent.{Absent, absent_then, IsOut}
use Rattle.kir_lower_shape.proofs.AbsentCode.{expression_up, optional_up, statement_up, list_up, expression_absent}
use Rattle.kir_lower_shape.proofs.AbsentCode.{optional_absent, statement_absent, list_absent}
use Rattle.kir_lower_shape.proofs.AbsentCalls.{calls_up, calls_absent}
use Rattle.kir_lower_shape.proofs.Cutless.{Cutless, calls_cutless, expression_cutless, optional_cutless}
use Rattle.kir_lower_shape.proofs.Cutless.{statement_cutless}
use Rattle.kir_lower_shape.proofs.Across.{Few, few_same, few_more, few_none, across, across_cutless, seq_across}
use Rattle.kir_lower_shape.proofs.Across.{if_across, loop_across, out_below, out_above}

-- by a test
pub by_test : (b : Test) {P : Type 0} → (b ≡ true → P) → (b ≡ false → P) → P
by_test true f g = f refl
by_test false f g = g refl

-- without a way out, a cell is not that of one
no_way : (c exit : ℕ) (way : Option ℕ) → way ≡ None → IsFree c exit way
no_way c exit way e site f = absurd (none-some site (sym e ∙ f))

counted : (b : Test) (n : ℕ) → b ≡ true → 1 + n ≤ (if b then 1 else 0) + n
counted true n e = omega arith
counted false n e = absurd (let k = e in cc)

module _ (program : Program) (names : List (List Named)) (valid : IsValid program) (named : AreNamed program names)
    (depth : ℕ) (f : Function) (here : Instance) where
  abbrev calls : Calls
  calls = call_code program names depth

  abbrev inside : ℕ → Test
  inside = body_holds program depth

  -- a cell behind those of the variables is none of them
  behind_variables : (c : ℕ) → here.base + length f.variables ≤ c → (x : ℕ) → x < length f.variables →
      nat_eq c (here.base + x) ≡ false
  behind_variables c h x less = ne_eqb c (here.base + x) (λ e. omega (arith, h, less, e))

  test_absent : (c : ℕ) (e : Expression) (t : IntType) → HasType program f e t → (m : Made) →
      here.base + length f.variables ≤ c → IsOut c (next_cell m) (next_cell (expression_code calls here e m).made)
      → Absent c (expression_code calls here e m).lines × (reads c (expression_code calls here e m).value.atom ≡ false)
  test_absent c e t h m b out = expression_absent program c calls (calls_up program names depth)
      (calls_absent program names valid named c depth) f here (behind_variables c b) e t h m out

  option_absent : (c : ℕ) (e : Option Expression) → OptionalFits program f e → (m : Made) →
      here.base + length f.variables ≤ c → IsOut c (next_cell m) (next_cell (optional_code calls here e m).made)
      → Absent c (optional_code calls here e m).lines × (reads c (optional_code calls here e m).value.atom ≡ false)
  option_absent c e h m b out = optional_absent program c calls (calls_up program names depth)
      (calls_absent program names valid named c depth) f here (behind_variables c b) e h m out

  one_absent : (c exit : ℕ) (s : Statement) → StatementFits program f s → way_out true true s ≡ None → (m : Made) →
      here.base + length f.variables ≤ c → IsOut c (next_cell m) (next_cell (statement_code calls here exit s m).made)
      → Absent c (statement_code calls here exit s m).lines
  one_absent c exit s h w m b out =
      statement_absent program c calls (calls_up program names depth) (calls_absent program names valid named c depth)
      f here (behind_variables c b) exit s h (no_way c exit _ w)
      (fewer_ways c here.answer false true false true (λ e. refl) (λ e. refl) s (no_way c here.answer _ w)) m out

  pub some_absent : (c exit : ℕ) (list : Statements) → AllFit program f list → way_out_of_all true true list ≡ None →
      (m : Made) → here.base + length f.variables ≤ c →
      IsOut c (next_cell m) (next_cell (list_code calls here exit false list m).made)
      → Absent c (in_order (list_code calls here exit false list m)).lines
  some_absent c exit list h w m b out =
      let p = list_absent program c calls (calls_up program names depth)
      (calls_absent program names valid named c depth) f here (behind_variables c b) exit false list h
      (no_way c exit _ w)
      (fewer_of_all c here.answer false true false true (λ e. refl) (λ e. refl) list (no_way c here.answer _ w)) m
      out in
      absent_then c _ _ p.0 p.1

  abbrev call_cutless : (here : Instance) (site function : ℕ) (roots : List Root) (values : List Value) (m : Made) →
      inside function ≡ false → Cutless (calls here site function roots values m).lines
  call_cutless = calls_cutless program names depth

  -- lines without a barrier keep nothing
  quick : (lines : Lines) (a b k : ℕ) → a ≤ b → Cutless lines → Few (across lines) a b k
  quick lines a b k le h = few_more (across lines) a b 0 k
      (few_none (across lines) a b le (λ c low high. across_cutless c lines h)) (omega arith)

  quick_statement : (exit : ℕ) (s : Statement) (k : ℕ) → holds inside s ≡ false → (m : Made) →
      Few (across (statement_code calls here exit s m).lines) (next_cell m)
      (next_cell (statement_code calls here exit s m).made) k
  quick_statement exit s k h m =
      quick _ _ _ k (statement_up calls (calls_up program names depth) here exit s m)
      (statement_cutless calls inside call_cutless here exit s h m)

  -- an if that holds a barrier
  if_few : (exit site : ℕ) (test : Expression) (chosen other : Statements) (n1 n2 : ℕ) (m : Made) →
      StatementFits program f (If site test chosen other) → holds_in inside test ≡ false →
      way_out_of_all true true chosen ≡ None → way_out_of_all true true other ≡ None
      → here.base + length f.variables ≤ next_cell m
      → ((m : Made) → here.base + length f.variables ≤ next_cell m →
      Few (across (in_order (list_code calls here exit false chosen m)).lines) (next_cell m)
      (next_cell (list_code calls here exit false chosen m).made) n1)
      → ((m : Made) → here.base + length f.variables ≤ next_cell m →
      Few (across (in_order (list_code calls here exit false other m)).lines) (next_cell m)
      (next_cell (list_code calls here exit false other m).made) n2)
      → Few (across (statement_code calls here exit (If site test chosen other) m).lines) (next_cell m)
      (next_cell (statement_code calls here exit (If site test chosen other) m).made) (1 + (n1 + n2))
  unfolding statement_code
  if_few exit site test chosen other n1 n2 m h t wy wn bound fy fn =
      let ct = expression_code calls here test m in
      let cy = list_code calls here exit false chosen ct.made in
      let cn = list_code calls here exit false other cy.made in
      let u = expression_up calls (calls_up program names depth) here test m in
      let v = list_up calls (calls_up program names depth) here exit false chosen ct.made in
      let w = list_up calls (calls_up program names depth) here exit false other cy.made in
      if_across site ct.lines (in_order cy).lines (in_order cn).lines ct.value.atom (next_cell m) (next_cell ct.made)
      (next_cell cy.made) (next_cell cn.made) n1 n2 u v w
      (expression_cutless calls inside call_cutless here test t m)
      (λ c low. test_absent c test _ h.0.1 m (omega (arith, bound, u, low)) (out_above c _ _ low))
      (λ c low high. some_absent c exit chosen h.1 wy ct.made (omega (arith, bound, low)) (out_below c _ _ high))
      (λ c low. some_absent c exit chosen h.1 wy ct.made (omega (arith, bound, u, v, low)) (out_above c _ _ low))
      (λ c low high. some_absent c exit other h.2 wn cy.made (omega (arith, bound, low)) (out_below c _ _ high))
      (fy ct.made (omega (arith, bound, u))) (fn cy.made (omega (arith, bound, u, v)))

  -- a loop without a way out of its body
  loop_few : (way way' : Option ℕ) → way ≡ None → way' ≡ None →
      (exit site : ℕ) (first : Test) (test step : Option Expression) (body : Statement) (n : ℕ) (m : Made) →
      StatementFits program f (Loop site first test step body)
      → holds_in_optional inside test ≡ false → holds_in_optional inside step ≡ false →
      way_out true true body ≡ None → here.base + length f.variables ≤ next_cell m
      → ((exit : ℕ) (m : Made) → here.base + length f.variables ≤ next_cell m →
      Few (across (statement_code calls here exit body m).lines) (next_cell m)
      (next_cell (statement_code calls here exit body m).made) n)
      → (let co = opened way exit m in
      let ct = optional_code calls here test co.made in
      let cs = optional_code calls here step ct.made in
      let cb = statement_code calls here co.exit body cs.made in
      let cr = round_code site first way co.exit ct.lines ct.value cs.lines cb.lines cb.made in
      let cw = outward way' co.exit exit cr.made in
      Few (across (joined_to co.lines (joined_to cr.lines cw.lines))) (next_cell m) (next_cell cw.made) n)
  loop_few (Some s) way' e e' exit site first test step body n m h t ts w bound fb = absurd (none-some s (sym e))
  loop_few None (Some s) e e' exit site first test step body n m h t ts w bound fb = absurd (none-some s (sym e'))
  loop_few None None e e' exit site first test step body n m h t ts w bound fb =
      let ct = optional_code calls here test m in
      let cs = optional_code calls here step ct.made in
      let cb = statement_code calls here exit body cs.made in
      let a = optional_up calls (calls_up program names depth) here test m in
      let b = optional_up calls (calls_up program names depth) here step ct.made in
      let d = statement_up calls (calls_up program names depth) here exit body cs.made in
      loop_across site first ct.lines cs.lines cb.lines ct.value.atom (next_cell m) (next_cell ct.made)
      (next_cell cs.made) (next_cell cb.made) n a b d
      (optional_cutless calls inside call_cutless here test t m) (optional_cutless calls inside call_cutless here step
      ts ct.made)
      (λ c low. option_absent c test h.0 m (omega (arith, bound, a, low)) (out_above c _ _ low))
      (λ c low high. (option_absent c step h.1 ct.made (omega (arith, bound, low)) (out_below c _ _ high)).0)
      (λ c low. (option_absent c step h.1 ct.made (omega (arith, bound, a, b, low)) (out_above c _ _ low)).0)
      (λ c low high. one_absent c exit body h.2 w cs.made (omega (arith, bound, low)) (out_below c _ _ high))
      (fb exit cs.made (omega (arith, bound, a, b)))

  -- a statement before those behind it
  before_few : (way : Option ℕ) → way ≡ None → (exit : ℕ) (s : Statement) (rest : Statements) (n1 n2 : ℕ) (m : Made) →
      StatementFits program f s → AllFit program f rest → way_out true true s ≡ None →
      way_out_of_all true true rest ≡ None
      → here.base + length f.variables ≤ next_cell m
      → Few (across (statement_code calls here exit s m).lines) (next_cell m)
      (next_cell (statement_code calls here exit s m).made) n1
      → ((m : Made) → here.base + length f.variables ≤ next_cell m →
      Few (across (in_order (list_code calls here exit false rest m)).lines) (next_cell m)
      (next_cell (list_code calls here exit false rest m).made) n2)
      → (let cs = statement_code calls here exit s m in
      let g =
      before_rest exit false way cs.lines (list_code calls here exit (is_guarded false way false) rest cs.made) in
      Few (across (in_order g).lines) (next_cell m) (next_cell g.made) (n1 + n2))
  before_few (Some site) e exit s rest n1 n2 m h k w wr bound fs fr = absurd (none-some site (sym e))
  before_few None e exit s rest n1 n2 m h k w wr bound fs fr =
      let cs = statement_code calls here exit s m in
      let cr = list_code calls here exit false rest cs.made in
      let a = statement_up calls (calls_up program names depth) here exit s m in
      let b = list_up calls (calls_up program names depth) here exit false rest cs.made in
      subst (λ z. Few (across z) (next_cell m) (next_cell cr.made) (n1 + n2))
      (sym (join_assoc cs.lines cr.inside cr.rest))
      (seq_across cs.lines (in_order cr).lines (next_cell m) (next_cell cs.made) (next_cell cr.made) n1 n2 a b
      (λ c low. one_absent c exit s h w m (omega (arith, bound, a, low)) (out_above c _ _ low))
      (λ c low high. some_absent c exit rest k wr cs.made (omega (arith, bound, low)) (out_below c _ _ high))
      fs (fr cs.made (omega (arith, bound, a))))

  mutual
    unfolding statement_code

    pub statement_few : (exit : ℕ) (s : Statement) → StatementFits program f s → expression_holds inside s ≡ false →
        switch_holds inside s ≡ false → loop_is_left inside s ≡ false → way_out true true s ≡ None → (m : Made) →
        here.base + length f.variables ≤ next_cell m
        → Few (across (statement_code calls here exit s m).lines) (next_cell m)
        (next_cell (statement_code calls here exit s m).made) (choices inside s)
    statement_few exit (Do e) h p q r w m bound = quick_statement exit (Do e) 0 p m
    statement_few exit (Declare x value) h p q r w m bound = quick_statement exit (Declare x value) 0 p m
    statement_few exit (Fill site array values) h p q r w m bound = quick_statement exit (Fill site array values) 0 p m
    statement_few exit (Block list) h p q r w m bound = list_few exit list h p q r w m bound
    statement_few exit (If site test chosen other) h p q r w m bound =
        let pt = or_parts (holds_in inside test) (some_expression_holds inside chosen ||
        some_expression_holds inside other) p in
        let pp = or_parts (some_expression_holds inside chosen) (some_expression_holds inside other) pt.1 in
        let qq = or_parts (some_switch_holds inside chosen) (some_switch_holds inside other) q in
        let rr = or_parts (some_loop_is_left inside chosen) (some_loop_is_left inside other) r in
        let wy = first_none (way_out_of_all true true chosen) _ w in
        let wn = second_none (way_out_of_all true true chosen) _ w in
        by_test (holds inside (If site test chosen other))
        (λ e. few_more _ _ _ (1 + (all_choices inside chosen + all_choices inside other)) _
        (if_few exit site test chosen other (all_choices inside chosen) (all_choices inside other) m h pt.0 wy wn bound
        (λ m b. list_few exit chosen h.1 pp.0 qq.0 rr.0 wy m b) (λ m b. list_few exit other h.2 pp.1 qq.1 rr.1 wn m b))
        (counted (holds inside (If site test chosen other)) (all_choices inside chosen + all_choices inside other) e))
        (λ e. quick_statement exit (If site test chosen other) _ e m)
    statement_few exit (Loop site first test step body) h p q r w m bound =
        let pt = or_parts (holds_in_optional inside test) (holds_in_optional inside step ||
        expression_holds inside body) p in
        let ps = or_parts (holds_in_optional inside step) (expression_holds inside body) pt.1 in
        let rr = or_parts (holds inside (Loop site first test step body) && belongs true body)
        (loop_is_left inside body) r in
        by_test (holds inside (Loop site first test step body))
        (λ e. let none_ : way_out true true body ≡
        None = belongs_none true body (sym (ap (λ z. z && belongs true body) e) ∙ rr.0) w in
        loop_few (way_out true true body) (way_out false false body) none_ w exit site first test step body
        (choices inside body) m h pt.0 ps.0 none_ bound
        (λ exit m b. statement_few exit body h.2 ps.1 q rr.1 none_ m b))
        (λ e. quick_statement exit (Loop site first test step body) _ e m)
    statement_few exit (Switch site value arms) h p q r w m bound = quick_statement exit (Switch site value arms) _ q m
    statement_few exit (Break site) h p q r w m bound = quick_statement exit (Break site) 0 refl m
    statement_few exit (Continue site) h p q r w m bound = quick_statement exit (Continue site) 0 refl m
    statement_few exit (Return site value) h p q r w m bound = quick_statement exit (Return site value) 0 p m
    statement_few exit (Barrier site) h p q r w m bound = few_same (across (BarrierThen site NoLine)) (next_cell m)

    pub list_few : (exit : ℕ) (list : Statements) → AllFit program f list →
        some_expression_holds inside list ≡ false → some_switch_holds inside list ≡ false →
        some_loop_is_left inside list ≡ false → way_out_of_all true true list ≡ None → (m : Made)
        → here.base + length f.variables ≤ next_cell m
        → Few (across (in_order (list_code calls here exit false list m)).lines) (next_cell m)
        (next_cell (list_code calls here exit false list m).made) (all_choices inside list)
    list_few exit empty h p q r w m bound = few_same (across NoLine) (next_cell m)
    list_few exit (also s rest) h p q r w m bound =
        let pp = or_parts (expression_holds inside s) (some_expression_holds inside rest) p in
        let qq = or_parts (switch_holds inside s) (some_switch_holds inside rest) q in
        let rr = or_parts (loop_is_left inside s) (some_loop_is_left inside rest) r in
        let ws = first_none (way_out true true s) _ w in
        let wr = second_none (way_out true true s) _ w in
        before_few (way_out true true s) ws exit s rest (choices inside s) (all_choices inside rest) m h.0 h.1 ws wr
        bound
        (statement_few exit s h.0 pp.0 qq.0 rr.0 ws m bound) (λ m b. list_few exit rest h.1 pp.1 qq.1 rr.1 wr m b)
