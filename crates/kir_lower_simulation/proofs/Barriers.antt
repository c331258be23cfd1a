-- The marks of a lowered kernel's barrier lines say the ways to barriers.
use Rattle.std.proofs.Common.{◌≡◌, ℕ, zero, suc, ◌+◌, pos, List, [], ◌∷◌, length, Option, Some, None, refl, sym, ap}
use Rattle.std.proofs.Common.{◌∙◌, subst, arith, true, false, if◌then◌else◌}
use Rattle.std.proofs.Common.{Bool as Test}
use Rattle.std.specs.Prelude.{◌&&◌, ◌||◌}
use Rattle.cl_model.specs.declared.program.Root.{Root}
use Rattle.cl_model.specs.declared.program.VarKind.{VarKind}
use Rattle.cl_model.specs.Tree.{Expression, Apply, Update, Choose, Call, Expressions, none, more, Statement, Do}
use Rattle.cl_model.specs.Tree.{Declare, Fill, Block, If, Loop, Switch, Break, Continue, Return, Barrier, Statements}
use Rattle.cl_model.specs.Tree.{empty, also, Arms, no_arm, arm, Function, Program}
use Rattle.cl_model.specs.Calls.{function_at, kernel_of}
use Rattle.cl_model.specs.Valid.{parameter_kinds}
use Rattle.cl_model.specs.Task.{Leg, Operand, Own, Tested, Chosen, Other, Nth, Turn, Body, Step, Arm, Into}
use Rattle.kir.specs.declared.line.Atom.{Atom}
use Rattle.kir.specs.declared.line.Atom.TheVariants.{Cell as CellAtom}
use Rattle.kir.specs.Tree.{Lines, NoLine, SetThen, LoadThen, StoreThen, ClearThen, IfThen, LoopThen, BarrierThen}
use Rattle.kir.specs.Tree.{joined_to, OfValue}
use Rattle.kir.specs.Places.{Behind, IntoChosen, IntoOther, IntoTest, ToAnswer, IntoBody, Place, Point, behind}
use Rattle.kir.specs.Places.{chosen_of, other_of, test_of, body_of, lines_at, first_of, others_of}
use Rattle.kir.specs.Cuts.{holds_barrier, is_barrier}
use Rattle.kir.specs.Lowering.{Named}
use Rattle.kir_lower.specs.declared.places.Value.{Value}
use Rattle.kir_lower.specs.Made.{Made, Instance, next_cell, with_cell, int, root_in, argument_roots, element_at}
use Rattle.kir_lower.specs.Ways.{way_out, way_out_of_all, way_out_of_arms, declares}
use Rattle.kir_lower.specs.Actions.{loaded, set_to, opened, is_none, guarded_before, settled, outward, round_code}
use Rattle.kir_lower.specs.Actions.{selected, fallen_code}
use Rattle.kir_lower.specs.Code.{Calls, expression_code, operands_code, optional_code, Guarded, before_rest}
use Rattle.kir_lower.specs.Code.{is_guarded, in_order, entry_code, around_arm, statement_code, list_code, arms_code}
use Rattle.kir_lower.specs.Code.{result_code, body_code}
use Rattle.kir_lower.specs.Whole.{names_at, way_behind, instance_at, with_instance, parameter_lines, call_code}
use Rattle.kir_lower.specs.Whole.{bound_lines, kernel_way, nothing_made, lowered_of}
use Rattle.kir_lower_shape.specs.Marks.{Way, further, in_turn, Marks, NoMark, FormThen, marks_then, all_marked}
use Rattle.kir_lower_shape.specs.Marks.{marks_behind, marks_one, marks_two, marks_at, first_way, point_marked, Shaped}
use Rattle.kir_lower_shape.specs.Marks.{no_line, set_line, load_line, store_line, clear_line, if_line, loop_line}
use Rattle.kir_lower_shape.specs.Marks.{barrier_line}
use Rattle.kir_lower_shape.specs.CodeMarks.{CallMarks, expression_marks, operands_marks, optional_marks, GuardedMarks}
use Rattle.kir_lower_shape.specs.CodeMarks.{guarded_marks, marks_before_rest, marks_in_order, round_marks}
use Rattle.kir_lower_shape.specs.CodeMarks.{statement_marks, list_marks, arms_marks, body_marks, call_marks}
use Rattle.kir_lower_shape.specs.CodeMarks.{kernel_marks}
use Rattle.kir_lower_shape.proofs.Joined.{join_assoc}
use Rattle.kir_lower_shape.proofs.Quiet.{or_parts, true_false}
use Rattle.kir_lower_shape.proofs.Cutless.{Cutless, action_cutless, initial_cutless, opened_cutless, outward_cutless}
use Rattle.kir_lower_shape.proofs.Cutless.{selected_cutless, fallen_cutless, result_cutless, parameters_cutless}
use Rattle.kir_lower_shape.proofs.Shapes.{shaped_all, expression_shaped, operands_shaped, optional_shaped}
use Rattle.kir_lower_shape.proofs.Shapes.{statement_shaped, list_shaped, round_shaped, arms_shaped, call_shaped}
use Rattle.kir_lower_simulation.specs.Nodes.{Node, statement_node, list_node, round_node, expression_node, optional_node}
use Rattle.kir_lower_simulation.specs.Nodes.{operand_node, nth_node, arm_node, child, node_at, IsBarrierNode, WayLeads}
use Rattle.kir_lower_simulation.specs.Nodes.{BarriersMarked, AreMarked}
use Rattle.kir_lower_simulation.proofs.Standing.{node_further, node_twice}

-- the lines of calls have marks
abbrev CallsShaped : Calls → CallMarks → Type 0
CallsShaped calls marks = (here : Instance) (way : Way) (site function : ℕ) (roots : List Root) (values : List Value)
    (m : Made) → Shaped (calls here site function roots values m).lines (marks here way site function roots values m)

module _ (program : Program) where
  abbrev Marked : Lines → Marks → Type 0
  Marked lines marks = AreMarked program lines marks

  -- lines without a barrier need no mark
  cutless_is : (lines : Lines) (marks : Marks) → holds_barrier lines ≡ false → BarriersMarked program lines marks
  cutless_is NoLine marks h = tt
  cutless_is (SetThen to work rest) marks h = cutless_is rest (marks_behind marks) h
  cutless_is (LoadThen site to element root index rest) marks h = cutless_is rest (marks_behind marks) h
  cutless_is (StoreThen site element root index from rest) marks h = cutless_is rest (marks_behind marks) h
  cutless_is (ClearThen array rest) marks h = cutless_is rest (marks_behind marks) h
  cutless_is (IfThen site test chosen other rest) marks h =
      let p = or_parts (holds_barrier chosen) (holds_barrier other || holds_barrier rest) h in
      let q = or_parts (holds_barrier other) (holds_barrier rest) p.1 in (
        cutless_is chosen (marks_one marks) p.0,
        cutless_is other (marks_two marks) q.0,
        cutless_is rest (marks_behind marks) q.1,
      )
  cutless_is (LoopThen site first test answer body rest) marks h =
      let p = or_parts (holds_barrier test) (holds_barrier body || holds_barrier rest) h in
      let q = or_parts (holds_barrier body) (holds_barrier rest) p.1 in (
        cutless_is test (marks_one marks) p.0,
        cutless_is body (marks_two marks) q.0,
        cutless_is rest (marks_behind marks) q.1,
      )
  cutless_is (BarrierThen site rest) marks h = absurd (true_false h)

  free : (lines : Lines) (marks : Marks) → Cutless lines → Marked lines marks
  free lines marks c = record { is = cutless_is lines marks c.is }

  then_is : (a b : Lines) (m k : Marks) → Shaped a m → BarriersMarked program a m → BarriersMarked program b k →
      BarriersMarked program (joined_to a b) (marks_then m k)
  then_is _ b _ k no_line h g = g
  then_is _ b _ k (set_line s) h g = then_is _ b _ k s h g
  then_is _ b _ k (load_line s) h g = then_is _ b _ k s h g
  then_is _ b _ k (store_line s) h g = then_is _ b _ k s h g
  then_is _ b _ k (clear_line s) h g = then_is _ b _ k s h g
  then_is _ b _ k (if_line y n s) h g = (h.0, h.1, then_is _ b _ k s h.2 g)
  then_is _ b _ k (loop_line t l s) h g = (h.0, h.1, then_is _ b _ k s h.2 g)
  then_is _ b _ k (barrier_line s) h g = (h.0, then_is _ b _ k s h.1 g)

  then_marked : (a b : Lines) (m k : Marks) → Shaped a m → Marked a m → Marked b k →
      Marked (joined_to a b) (marks_then m k)
  then_marked a b m k s h g = record { is = then_is a b m k s h.is g.is }

  -- no line
  no_marked : Marked NoLine NoMark
  no_marked = record { is = tt }

  if_marked : (way : Way) (site : ℕ) (test : Atom) (chosen other rest : Lines) (one two marks : Marks) →
      Marked chosen one → Marked other two → Marked rest marks →
      Marked (IfThen site test chosen other rest) (FormThen way one two marks)
  if_marked way site test chosen other rest one two marks y n h = record { is = (y.is, n.is, h.is) }

  loop_marked : (way : Way) (site : ℕ) (first : Test) (test : Lines) (answer : Atom) (body rest : Lines)
      (one two marks : Marks) → Marked test one → Marked body two → Marked rest marks →
      Marked (LoopThen site first test answer body rest) (FormThen way one two marks)
  loop_marked way site first test answer body rest one two marks t b h = record { is = (t.is, b.is, h.is) }

  one_set : (way : Way) (cell : ℕ) (atom : Atom) → Marked (set_to cell atom) (all_marked way (set_to cell atom))
  one_set way cell atom = record { is = tt }

  clear_marked : (way : Way) (array : ℕ) (lines : Lines) → Cutless lines →
      Marked (ClearThen array lines) (all_marked (further way (Own 0)) (ClearThen array lines))
  clear_marked way array lines c = record { is = cutless_is lines (all_marked (further way (Own 0)) lines) c.is }

  -- ---- guards

  guard_marked : (way : Way) (site exit : ℕ) (inside rest : Lines) (one two : Marks) → Marked inside one →
      Marked rest two → Marked (guarded_before site exit inside rest) (guarded_marks way inside one two)
  guard_marked way site exit inside rest one two h k = by_test (is_none inside)
    where
      by_test : (b : Test) → Marked (if b then rest else IfThen site (CellAtom exit) NoLine inside rest)
          (if b then two else FormThen way NoMark one two)
      by_test true = k
      by_test false = if_marked way site (CellAtom exit) NoLine inside rest NoMark one two no_marked h k

  before_marked : (way : Way) (exit : ℕ) (declared : Test) (out : Option ℕ) (lines : Lines) (c : Guarded)
      (one : Marks) (g : GuardedMarks) → Shaped lines one → Shaped c.inside g.inside → Marked lines one →
      Marked c.inside g.inside × Marked c.rest g.rest
      → Marked (before_rest exit declared out lines c).inside (marks_before_rest way declared out one c.inside
      g).inside × Marked (before_rest exit declared out lines c).rest
      (marks_before_rest way declared out one c.inside g).rest
  before_marked way exit true None lines c one g s s' h k =
      (then_marked lines _ one _ s h (then_marked c.inside c.rest g.inside g.rest s' k.0 k.1), no_marked)
  before_marked way exit true (Some site) lines c one g s s' h k =
      (then_marked lines _ one _ s h (then_marked c.inside c.rest g.inside g.rest s' k.0 k.1), no_marked)
  before_marked way exit false None lines c one g s s' h k = (then_marked lines c.inside one g.inside s h k.0, k.1)
  before_marked way exit false (Some site) lines c one g s s' h k =
      (h, guard_marked way site exit c.inside c.rest g.inside g.rest k.0 k.1)

  straight_marked : (c : Guarded) (g : GuardedMarks) → Shaped c.inside g.inside → Marked c.inside g.inside ×
      Marked c.rest g.rest → Marked (in_order c).lines (marks_in_order g)
  straight_marked c g s h = then_marked c.inside c.rest g.inside g.rest s h.0 h.1

  round_marked : (way : Way) (site : ℕ) (first : Test) (out : Option ℕ) (exit : ℕ) (test : Lines) (answer : Value)
      (step body : Lines) (m : Made) (one two three : Marks) → Shaped test one → Shaped body three
      → Marked test one → Marked step two → Marked body three →
      Marked (round_code site first out exit test answer step body m).lines
      (round_marks way out exit test answer step m one two three)
  round_marked way site first None exit test answer step body m one two three st sb t s b =
      loop_marked way site first test answer.atom (joined_to body step) NoLine one (marks_then three two) NoMark t
      (then_marked body step three two sb b s) no_marked
  round_marked way site first (Some o) exit test answer step body m one two three st sb t s b =
      let cs = settled o exit (with_cell m OfValue answer.of) in
      let inner = then_marked test (set_to (next_cell m) answer.atom) one
      (all_marked way (set_to (next_cell m) answer.atom)) st t (one_set way (next_cell m) answer.atom) in
      loop_marked way site first _ (CellAtom (next_cell m)) _ NoLine _ _ NoMark (record { is = (tt, inner.is, tt) })
      (then_marked body (joined_to cs.lines (guarded_before o exit step NoLine)) three
      (marks_then (all_marked way cs.lines) (guarded_marks way step two NoMark)) sb b
      (then_marked cs.lines (guarded_before o exit step NoLine) (all_marked way cs.lines)
      (guarded_marks way step two NoMark) (shaped_all way cs.lines)
      (free cs.lines (all_marked way cs.lines) (record { is = refl }))
      (guard_marked way o exit step NoLine two NoMark s no_marked))) no_marked

  -- ---- ways

  lead_further : (way : Way) (leg : Leg) (node : Node) → WayLeads program way node →
      WayLeads program (further way leg) (child program node leg)
  lead_further way leg node h begun = node_further program (way begun) leg node (h begun)

  lead_in_turn : (way : Way) (leg : Leg) (test step : Option Expression) (body : Statement) →
      ((k : ℕ) (begun : List ℕ) → child program (node_at program (way begun)) (Turn k) ≡ round_node test step body)
      → WayLeads program (in_turn way leg) (child program (round_node test step body) leg)
  lead_in_turn way leg test step body h begun =
      node_twice program (way (others_of begun)) (Turn (first_of begun)) leg (node_at program (way (others_of begun)))
      refl ∙ ap (λ z. child program z leg) (h (first_of begun) (others_of begun))

  -- to statements in order
  lead_parts : (way : Way) (list : Statements) → WayLeads program way (list_node list) → (i j : ℕ) → j ≡ i + 0 →
      WayLeads program (further way (Nth j)) (nth_node i list)
  lead_parts way list h i j same begun =
      lead_further way (Nth j) (list_node list) h begun ∙ ap (λ z. nth_node z list) (omega (arith, same))

  -- the lines of calls
  abbrev CallsMarked : Calls → CallMarks → Type 0
  CallsMarked calls marks =
      (here : Instance) (way : Way) (site function : ℕ) (roots : List Root) (values : List Value) (m : Made) →
      WayLeads program (further way Into) (statement_node (Block (function_at program function).body))
      → Marked (calls here site function roots values m).lines (marks here way site function roots values m)

  module _ (calls : Calls) (marks : CallMarks) (shaped : CallsShaped calls marks) (call : CallsMarked calls marks)
      (here : Instance) where
    mutual
      unfolding expression_code expression_marks

      expression_marked : (way : Way) (e : Expression) (m : Made) → WayLeads program way (expression_node e) →
          Marked (expression_code calls here e m).lines (expression_marks calls marks here way e m)
      expression_marked way (Apply action operands) m h =
          let co = operands_code calls here operands m in
          then_marked co.lines _ _ _ (operands_shaped calls marks shaped here way 0 operands m)
          (operands_marked way 0 operands m (λ i j same begun.
          lead_further way (Operand j) (expression_node (Apply action operands)) h begun ∙
          ap (λ z. operand_node z operands) (omega (arith, same))))
          (free _ _ (action_cutless here action co.values co.made))
      expression_marked way (Update site element root op of back old index value) m h =
          let node = expression_node (Update site element root op of back old index value) in
          let ci = expression_code calls here index m in
          let cl = loaded site element (root_in here root) ci.value.atom ci.made in
          let cv = expression_code calls here value cl.made in
          then_marked ci.lines _ _ _ (expression_shaped calls marks shaped here (further way (Operand 0)) index m)
          (expression_marked (further way (Operand 0)) index m (lead_further way (Operand 0) node h))
          (then_marked cl.lines _ _ _ (shaped_all (further way (Own 0)) cl.lines)
          (free cl.lines _ (record { is = refl }))
          (then_marked cv.lines _ _ _ (expression_shaped calls marks shaped here (further way (Operand 1)) value
          cl.made) (expression_marked (further way (Operand 1)) value cl.made
          (lead_further way (Operand 1) node h))
          (record { is = tt })))
      expression_marked way (Choose site test chosen other) m h =
          let node = expression_node (Choose site test chosen other) in
          let ct = expression_code calls here test m in
          let cy = expression_code calls here chosen ct.made in
          let cn = expression_code calls here other cy.made in
          then_marked ct.lines _ _ _ (expression_shaped calls marks shaped here (further way Tested) test m)
          (expression_marked (further way Tested) test m (lead_further way Tested node h))
          (if_marked (further way (Own 0)) site ct.value.atom _ _ NoLine _ _ NoMark
          (then_marked cy.lines _ _ _ (expression_shaped calls marks shaped here (further way Chosen) chosen ct.made)
          (expression_marked (further way Chosen) chosen ct.made (lead_further way Chosen node h))
          (one_set way (next_cell cn.made) cy.value.atom))
          (then_marked cn.lines _ _ _ (expression_shaped calls marks shaped here (further way Other) other cy.made)
          (expression_marked (further way Other) other cy.made (lead_further way Other node h))
          (one_set way (next_cell cn.made) cn.value.atom)) no_marked)
      expression_marked way (Call site function roots arguments) m h =
          let node = expression_node (Call site function roots arguments) in
          let ca = operands_code calls here arguments m in
          then_marked ca.lines _ _ _ (operands_shaped calls marks shaped here way 0 arguments m)
          (operands_marked way 0 arguments m (λ i j same begun. lead_further way (Operand j) node h begun ∙
          ap (λ z. operand_node z arguments) (omega (arith, same))))
          (call here way site function (argument_roots here roots) ca.values ca.made (lead_further way Into node h))

      operands_marked : (way : Way) (k : ℕ) (list : Expressions) (m : Made) →
          ((i j : ℕ) → j ≡ i + k → WayLeads program (further way (Operand j)) (operand_node i list)) →
          Marked (operands_code calls here list m).lines (operands_marks calls marks here way k list m)
      operands_marked way k none m h = no_marked
      operands_marked way k (more e rest) m h =
          let ce = expression_code calls here e m in
          then_marked ce.lines _ _ _ (expression_shaped calls marks shaped here (further way (Operand k)) e m)
          (expression_marked (further way (Operand k)) e m (h 0 k (omega arith)))
          (operands_marked way (suc k) rest ce.made (λ i j same. h (suc i) j (omega (arith, same))))

    optional_marked : (way : Way) (e : Option Expression) (m : Made) → WayLeads program way (optional_node e) →
        Marked (optional_code calls here e m).lines (optional_marks calls marks here way e m)
    optional_marked way None m h = no_marked
    optional_marked way (Some e) m h = expression_marked way e m h

    mutual
      unfolding statement_code statement_marks

      statement_marked : (way : Way) (exit : ℕ) (s : Statement) (m : Made) → WayLeads program way (statement_node s) →
          Marked (statement_code calls here exit s m).lines (statement_marks calls marks here way exit s m)
      statement_marked way exit (Do e) m h =
          expression_marked (further way (Operand 0)) e m (lead_further way (Operand 0) (statement_node (Do e)) h)
      statement_marked way exit (Declare x None) m h = record { is = tt }
      statement_marked way exit (Declare x (Some e)) m h =
          let ce = expression_code calls here e m in
          then_marked ce.lines _ _ _ (expression_shaped calls marks shaped here (further way (Operand 0)) e m)
          (expression_marked (further way (Operand 0)) e m
          (lead_further way (Operand 0) (statement_node (Declare x (Some e))) h)) (record { is = tt })
      statement_marked way exit (Fill site array values) m h =
          let cv = operands_code calls here values m in
          then_marked cv.lines _ _ _ (operands_shaped calls marks shaped here way 0 values m)
          (operands_marked way 0 values m (λ i j same begun.
          lead_further way (Operand j) (statement_node (Fill site array values)) h begun ∙
          ap (λ z. operand_node z values) (omega (arith, same))))
          (clear_marked way (here.arrays + array) _ (initial_cutless site (element_at here array) (here.arrays +
          array) 0 cv.values))
      statement_marked way exit (Block list) m h =
          straight_marked (list_code calls here exit false list m) (list_marks calls marks here way 0 exit false list
          m) (list_shaped calls marks shaped here way 0 exit false list m).0
          (list_marked way 0 exit false list m (λ i j same begun.
          lead_further way (Nth j) (statement_node (Block list)) h begun ∙
          ap (λ z. nth_node z list) (omega (arith, same))))
      statement_marked way exit (If site test chosen other) m h =
          let node = statement_node (If site test chosen other) in
          let ct = expression_code calls here test m in
          let cy = list_code calls here exit false chosen ct.made in
          let cn = list_code calls here exit false other cy.made in
          then_marked ct.lines _ _ _ (expression_shaped calls marks shaped here (further way Tested) test m)
          (expression_marked (further way Tested) test m (lead_further way Tested node h))
          (if_marked (further way (Own 0)) site ct.value.atom _ _ NoLine _ _ NoMark
          (straight_marked cy (list_marks calls marks here (further way Chosen) 0 exit false chosen ct.made)
          (list_shaped calls marks shaped here (further way Chosen) 0 exit false chosen ct.made).0
          (list_marked (further way Chosen) 0 exit false chosen ct.made
          (lead_parts (further way Chosen) chosen (lead_further way Chosen node h))))
          (straight_marked cn (list_marks calls marks here (further way Other) 0 exit false other cy.made)
          (list_shaped calls marks shaped here (further way Other) 0 exit false other cy.made).0
          (list_marked (further way Other) 0 exit false other cy.made
          (lead_parts (further way Other) other (lead_further way Other node h)))) no_marked)
      statement_marked way exit (Loop site first test step body) m h =
          let out = way_out true true body in
          let co = opened out exit m in
          let ct = optional_code calls here test co.made in
          let cs = optional_code calls here step ct.made in
          let cb = statement_code calls here co.exit body cs.made in
          let cr = round_code site first out co.exit ct.lines ct.value cs.lines cb.lines cb.made in
          let cw = outward (way_out false false body) co.exit exit cr.made in
          let turn : (k : ℕ) (begun : List ℕ) → child program (node_at program (way begun)) (Turn k) ≡
          round_node test step body = λ k begun. ap (λ z. child program z (Turn k)) (h begun) in
          then_marked co.lines _ _ _ (shaped_all way co.lines) (free co.lines _ (opened_cutless out exit m))
          (then_marked cr.lines cw.lines _ _
          (round_shaped way site first out co.exit ct.lines ct.value cs.lines cb.lines cb.made _ _ _
          (optional_shaped calls marks shaped here (in_turn way Tested) test co.made)
          (optional_shaped calls marks shaped here (in_turn way Step) step ct.made)
          (statement_shaped calls marks shaped here (in_turn way Body) co.exit body cs.made))
          (round_marked way site first out co.exit ct.lines ct.value cs.lines cb.lines cb.made _ _ _
          (optional_shaped calls marks shaped here (in_turn way Tested) test co.made)
          (statement_shaped calls marks shaped here (in_turn way Body) co.exit body cs.made)
          (optional_marked (in_turn way Tested) test co.made (lead_in_turn way Tested test step body turn))
          (optional_marked (in_turn way Step) step ct.made (lead_in_turn way Step test step body turn))
          (statement_marked (in_turn way Body) co.exit body cs.made (lead_in_turn way Body test step body turn)))
          (free cw.lines _ (outward_cutless (way_out false false body) co.exit exit cr.made)))
      statement_marked way exit (Switch site value arms) m h =
          let node = statement_node (Switch site value arms) in
          let cv = expression_code calls here value m in
          let co = opened (way_out_of_arms true true arms) exit cv.made in
          let cs = selected site cv.value arms co.made in
          let ca = arms_code calls here co.exit site cs.value.atom (int (pos 0)) 0 arms cs.made in
          let cw = outward (way_out_of_arms false true arms) co.exit exit ca.made in
          then_marked cv.lines _ _ _ (expression_shaped calls marks shaped here (further way Tested) value m)
          (expression_marked (further way Tested) value m (lead_further way Tested node h))
          (then_marked co.lines _ _ _ (shaped_all way co.lines)
          (free co.lines _ (opened_cutless (way_out_of_arms true true arms) exit cv.made))
          (then_marked cs.lines _ _ _ (shaped_all way cs.lines)
          (free cs.lines _ (selected_cutless site cv.value arms co.made))
          (then_marked ca.lines _ _ _ (arms_shaped calls marks shaped here way co.exit site cs.value.atom
          (int (pos 0)) 0 arms cs.made)
          (arms_marked way co.exit site cs.value.atom (int (pos 0)) 0 arms cs.made (λ i j same begun.
          lead_further way (Arm j) node h begun ∙ ap (λ z. arm_node z arms) (omega (arith, same))))
          (free cw.lines _ (outward_cutless (way_out_of_arms false true arms) co.exit exit ca.made)))))
      statement_marked way exit (Break site) m h = record { is = tt }
      statement_marked way exit (Continue site) m h = record { is = tt }
      statement_marked way exit (Return site None) m h = record { is = tt }
      statement_marked way exit (Return site (Some e)) m h =
          let ce = expression_code calls here e m in
          then_marked ce.lines _ _ _ (expression_shaped calls marks shaped here (further way (Operand 0)) e m)
          (expression_marked (further way (Operand 0)) e m
          (lead_further way (Operand 0) (statement_node (Return site (Some e))) h)) (record { is = tt })
      statement_marked way exit (Barrier site) m h =
          record { is = (λ begun. subst IsBarrierNode (sym (h begun)) tt, tt) }

      list_marked : (way : Way) (k exit : ℕ) (guarded : Test) (list : Statements) (m : Made) →
          ((i j : ℕ) → j ≡ i + k → WayLeads program (further way (Nth j)) (nth_node i list))
          → Marked (list_code calls here exit guarded list m).inside (list_marks calls marks here way k exit guarded
          list m).inside × Marked (list_code calls here exit guarded list m).rest
          (list_marks calls marks here way k exit guarded list m).rest
      list_marked way k exit guarded empty m h = (no_marked, no_marked)
      list_marked way k exit guarded (also s rest) m h =
          let declared = guarded && declares s in
          let out = way_out true true s in
          let cs = statement_code calls here exit s m in
          let inner = is_guarded declared out guarded in
          before_marked way exit declared out cs.lines (list_code calls here exit inner rest cs.made)
          (statement_marks calls marks here (further way (Nth k)) exit s m)
          (list_marks calls marks here way (suc k) exit inner rest cs.made)
          (statement_shaped calls marks shaped here (further way (Nth k)) exit s m)
          (list_shaped calls marks shaped here way (suc k) exit inner rest cs.made).0
          (statement_marked (further way (Nth k)) exit s m (h 0 k (omega arith)))
          (list_marked way (suc k) exit inner rest cs.made (λ i j same. h (suc i) j (omega (arith, same))))

      arms_marked : (way : Way) (exit site : ℕ) (chosen fallen : Atom) (k : ℕ) (arms : Arms) (m : Made) →
          ((i j : ℕ) → j ≡ i + k → WayLeads program (further way (Arm j)) (arm_node i arms))
          → Marked (arms_code calls here exit site chosen fallen k arms m).lines
          (arms_marks calls marks here way exit site chosen fallen k arms m)
      arms_marked way exit site chosen fallen k no_arm m h = no_marked
      arms_marked way exit site chosen fallen k (arm labels other body rest) m h =
          let out = way_out_of_all true true body in
          let ce = entry_code chosen fallen k m in
          let cl = list_code calls here exit false body ce.made in
          let ca = around_arm site exit out ce (in_order cl) in
          let cf = fallen_code out exit ce.value cl.made in
          let cr = arms_code calls here exit site chosen ca.value.atom (k + 1) rest ca.made in
          subst (λ z. Marked z (arms_marks calls marks here way exit site chosen fallen k (arm labels other body rest)
          m)) (sym (join_assoc ce.lines (IfThen site ce.value.atom (in_order cl).lines NoLine cf.lines)
          cr.lines))
          (then_marked ce.lines (IfThen site ce.value.atom (in_order cl).lines NoLine (joined_to cf.lines cr.lines))
          (all_marked way ce.lines) _ (shaped_all way ce.lines) (free ce.lines _ (record { is = refl }))
          (if_marked way site ce.value.atom _ NoLine _ _ NoMark _
          (straight_marked cl (list_marks calls marks here (further way (Arm k)) 0 exit false body ce.made)
          (list_shaped calls marks shaped here (further way (Arm k)) 0 exit false body ce.made).0
          (list_marked (further way (Arm k)) 0 exit false body ce.made
          (lead_parts (further way (Arm k)) body (h 0 k (omega arith)))))
          no_marked
          (then_marked cf.lines cr.lines _ _ (shaped_all way cf.lines)
          (free cf.lines _ (fallen_cutless out exit ce.value cl.made))
          (arms_marked way exit site chosen ca.value.atom (k + 1) rest ca.made
          (λ i j same. h (suc i) j (omega (arith, same)))))))

    body_marked : (way : Way) (f : Function) (m : Made) → WayLeads program way (statement_node (Block f.body)) →
        Marked (body_code calls here f m).lines (body_marks calls marks here way f m)
    body_marked way f m h =
        let cr = result_code f.result m in
        let co = opened (way_out_of_all true true f.body) 0 cr.made in
        let cl = list_code calls here co.exit false f.body co.made in
        let ml = list_marks calls marks here way 0 co.exit false f.body co.made in
        let sl = list_shaped calls marks shaped here way 0 co.exit false f.body co.made in
        then_marked cr.lines (joined_to co.lines (in_order cl).lines) _ _ (shaped_all way cr.lines)
        (free cr.lines _ (result_cutless f.result m))
        (then_marked co.lines (in_order cl).lines _ _ (shaped_all way co.lines)
        (free co.lines _ (opened_cutless (way_out_of_all true true f.body) 0 cr.made))
        (straight_marked cl ml sl.0 (list_marked way 0 co.exit false f.body co.made (λ i j same begun.
        lead_further way (Nth j) (statement_node (Block f.body)) h begun ∙
        ap (λ z. nth_node z f.body) (omega (arith, same))))))

  -- ---- calls, and the whole kernel

  calls_marked : (names : List (List Named)) (depth : ℕ) →
      CallsMarked (call_code program names depth) (call_marks program names depth)
  unfolding call_code call_marks
  calls_marked names zero here way site function roots values m h = no_marked
  calls_marked names (suc depth) here way site function roots values m h =
      let f = function_at program function in
      let there = way_behind program here site function roots in
      let first = parameter_lines (next_cell m) values in
      then_marked first _ _ _ (shaped_all (further way (Own 0)) first)
      (free first _ (parameters_cutless (next_cell m) values))
      (body_marked (call_code program names depth) (call_marks program names depth) (call_shaped program names depth)
      (calls_marked names depth) (instance_at there f m) (further way Into) f
      (with_instance there (names_at names function) f m) h)

  bound_cutless : (cell n : ℕ) (kinds : List VarKind) → Cutless (bound_lines cell n kinds)
  bound_cutless cell n [] = record { is = refl }
  bound_cutless cell n (kind ∷ kinds) = record { is = (bound_cutless (cell + 1) (n + 1) kinds).is }

  pub kernel_marked : (names : List (List Named)) →
      AreMarked program (lowered_of program names).body (kernel_marks program names)
  unfolding lowered_of kernel_marks
  kernel_marked names =
      let f = kernel_of program in
      let there = kernel_way program in
      let depth = length program.functions in
      let own : Way = λ begun. [] in
      let first = bound_lines 0 0 (parameter_kinds f) in
      then_marked first _ _ _ (shaped_all own first) (free first _ (bound_cutless 0 0 (parameter_kinds f)))
      (body_marked (call_code program names depth) (call_marks program names depth) (call_shaped program names depth)
      (calls_marked names depth) (instance_at there f nothing_made) own f
      (with_instance there (names_at names program.kernel) f nothing_made) (λ begun. refl))

  -- ---- at a place

  behind_is : (lines : Lines) (marks : Marks) → BarriersMarked program lines marks →
      BarriersMarked program (behind lines) (marks_behind marks)
  behind_is NoLine marks h = tt
  behind_is (SetThen to work rest) marks h = h
  behind_is (LoadThen site to element root index rest) marks h = h
  behind_is (StoreThen site element root index from rest) marks h = h
  behind_is (ClearThen array rest) marks h = h
  behind_is (IfThen site test chosen other rest) marks h = h.2
  behind_is (LoopThen site first test answer body rest) marks h = h.2
  behind_is (BarrierThen site rest) marks h = h.1

  chosen_is : (lines : Lines) (marks : Marks) → BarriersMarked program lines marks →
      BarriersMarked program (chosen_of lines) (marks_one marks)
  chosen_is NoLine marks h = tt
  chosen_is (SetThen to work rest) marks h = tt
  chosen_is (LoadThen site to element root index rest) marks h = tt
  chosen_is (StoreThen site element root index from rest) marks h = tt
  chosen_is (ClearThen array rest) marks h = tt
  chosen_is (IfThen site test chosen other rest) marks h = h.0
  chosen_is (LoopThen site first test answer body rest) marks h = tt
  chosen_is (BarrierThen site rest) marks h = tt

  other_is : (lines : Lines) (marks : Marks) → BarriersMarked program lines marks →
      BarriersMarked program (other_of lines) (marks_two marks)
  other_is NoLine marks h = tt
  other_is (SetThen to work rest) marks h = tt
  other_is (LoadThen site to element root index rest) marks h = tt
  other_is (StoreThen site element root index from rest) marks h = tt
  other_is (ClearThen array rest) marks h = tt
  other_is (IfThen site test chosen other rest) marks h = h.1
  other_is (LoopThen site first test answer body rest) marks h = tt
  other_is (BarrierThen site rest) marks h = tt

  test_is : (lines : Lines) (marks : Marks) → BarriersMarked program lines marks →
      BarriersMarked program (test_of lines) (marks_one marks)
  test_is NoLine marks h = tt
  test_is (SetThen to work rest) marks h = tt
  test_is (LoadThen site to element root index rest) marks h = tt
  test_is (StoreThen site element root index from rest) marks h = tt
  test_is (ClearThen array rest) marks h = tt
  test_is (IfThen site test chosen other rest) marks h = tt
  test_is (LoopThen site first test answer body rest) marks h = h.0
  test_is (BarrierThen site rest) marks h = tt

  body_is : (lines : Lines) (marks : Marks) → BarriersMarked program lines marks →
      BarriersMarked program (body_of lines) (marks_two marks)
  body_is NoLine marks h = tt
  body_is (SetThen to work rest) marks h = tt
  body_is (LoadThen site to element root index rest) marks h = tt
  body_is (StoreThen site element root index from rest) marks h = tt
  body_is (ClearThen array rest) marks h = tt
  body_is (IfThen site test chosen other rest) marks h = tt
  body_is (LoopThen site first test answer body rest) marks h = h.1
  body_is (BarrierThen site rest) marks h = tt

  place_is : (text : Lines) (marks : Marks) → BarriersMarked program text marks → (at : Place) →
      BarriersMarked program (lines_at text at) (marks_at marks at)
  place_is text marks h [] = h
  place_is text marks h (Behind ∷ at) = behind_is (lines_at text at) (marks_at marks at) (place_is text marks h at)
  place_is text marks h (IntoChosen ∷ at) = chosen_is (lines_at text at) (marks_at marks at) (place_is text marks h at)
  place_is text marks h (IntoOther ∷ at) = other_is (lines_at text at) (marks_at marks at) (place_is text marks h at)
  place_is text marks h (IntoTest ∷ at) = test_is (lines_at text at) (marks_at marks at) (place_is text marks h at)
  place_is text marks h (ToAnswer ∷ at) = tt
  place_is text marks h (IntoBody ∷ at) = body_is (lines_at text at) (marks_at marks at) (place_is text marks h at)

  first_is : (lines : Lines) (marks : Marks) → BarriersMarked program lines marks → is_barrier lines ≡ true →
      (begun : List ℕ) → IsBarrierNode (node_at program (first_way marks begun))
  first_is NoLine marks h e = absurd (true_false (sym e))
  first_is (SetThen to work rest) marks h e = absurd (true_false (sym e))
  first_is (LoadThen site to element root index rest) marks h e = absurd (true_false (sym e))
  first_is (StoreThen site element root index from rest) marks h e = absurd (true_false (sym e))
  first_is (ClearThen array rest) marks h e = absurd (true_false (sym e))
  first_is (IfThen site test chosen other rest) marks h e = absurd (true_false (sym e))
  first_is (LoopThen site first test answer body rest) marks h e = absurd (true_false (sym e))
  first_is (BarrierThen site rest) marks h e = h.0

  -- the point of a barrier line is the way to a barrier
  pub point_is_barrier : (text : Lines) (marks : Marks) → AreMarked program text marks → (point : Point) →
      is_barrier (lines_at text point.at) ≡ true → IsBarrierNode (node_at program (point_marked marks point))
  point_is_barrier text marks h point e =
      first_is (lines_at text point.at) (marks_at marks point.at) (place_is text marks h.is point.at) e point.begun
