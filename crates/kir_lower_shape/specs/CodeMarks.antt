-- The marks of the code of expressions, statements and whole programs.
use Rattle.std.specs.Prelude.{ℕ, zero, suc, ◌+◌, pos, List, [], length, Option, Some, None, ◌&&◌, if◌then◌else◌}
use Rattle.std.specs.Prelude.{Bool as Test, true, false}
use Rattle.cl_model.specs.declared.program.Root.{Root}
use Rattle.cl_model.specs.Tree.{Expression, Apply, Update, Choose, Call, Expressions, none, more, Statement, Do}
use Rattle.cl_model.specs.Tree.{Declare, Fill, Block, If, Loop, Switch, Break, Continue, Return, Barrier, Statements}
use Rattle.cl_model.specs.Tree.{empty, also, Arms, no_arm, arm, Function, Program}
use Rattle.cl_model.specs.Calls.{function_at}
use Rattle.cl_model.specs.Calls as called
use Rattle.cl_model.specs.Valid.{parameter_kinds}
use Rattle.cl_model.specs.Task.{Operand, Own, Tested, Chosen, Other, Nth, Body, Step, Arm, Into}
use Rattle.kir.specs.declared.line.Atom.{Atom}
use Rattle.kir.specs.Tree.{Lines, ClearThen, joined_to, OfValue}
use Rattle.kir.specs.Lowering.{Named}
use Rattle.kir_lower.specs.declared.places.Value.{Value}
use Rattle.kir_lower.specs.Made.{Made, Instance, next_cell, with_cell, int, root_in, argument_roots, element_at}
use Rattle.kir_lower.specs.Ways.{way_out, way_out_of_all, way_out_of_arms, declares}
use Rattle.kir_lower.specs.Actions.{loaded, stored, changed, action_code, initial_lines, set_to, opened, is_none}
use Rattle.kir_lower.specs.Actions.{settled, outward, round_code, selected, fallen_code}
use Rattle.kir_lower.specs.Code.{Calls, expression_code, operands_code, optional_code, is_guarded, in_order, set_exit}
use Rattle.kir_lower.specs.Code.{entry_code, around_arm, statement_code, list_code, arms_code, result_code}
use Rattle.kir_lower.specs.Whole.{names_at, way_behind, instance_at, with_instance, parameter_lines, call_code}
use Rattle.kir_lower.specs.Whole.{bound_lines, kernel_way, nothing_made}
use Rattle.kir_lower_shape.specs.Marks.{Way, further, in_turn, Marks, NoMark, MarkThen, FormThen, marks_then}
use Rattle.kir_lower_shape.specs.Marks.{all_marked}

-- the marks of the lines of a call: at this way, of a call with this site of a function, with these roots and values
abbrev pub CallMarks : Type 0
CallMarks = Instance → Way → (site function : ℕ) → List Root → List Value → Made → Marks

-- the item stands at the node itself where it has no operand, else behind them
abbrev pub finish_way : Way → Expressions → Way
finish_way way none = way
finish_way way (more e rest) = further way (Own 0)

unfoldable mutual
  -- operands from left to right, then the expression's own step
  pub expression_marks : Calls → CallMarks → Instance → Way → Expression → Made → Marks
  expression_marks calls marks here way (Apply action operands) made =
      let co = operands_code calls here operands made in
      marks_then (operands_marks calls marks here way 0 operands made)
      (all_marked (finish_way way operands) (action_code here action co.values co.made).lines)
  expression_marks calls marks here way (Update site element root op of back old index value) made =
      let ci = expression_code calls here index made in
      let cl = loaded site element (root_in here root) ci.value.atom ci.made in
      let cv = expression_code calls here value cl.made in
      let cc = changed op of back cl.value.atom cv.value.atom cv.made in
      marks_then (expression_marks calls marks here (further way (Operand 0)) index made)
      (marks_then (all_marked (further way (Own 0)) cl.lines)
      (marks_then (expression_marks calls marks here (further way (Operand 1)) value cl.made)
      (all_marked (further way (Own 1))
      (joined_to cc.lines (stored site element (root_in here root) ci.value.atom cc.value.atom)))))
  expression_marks calls marks here way (Choose site test chosen other) made =
      let ct = expression_code calls here test made in
      let cy = expression_code calls here chosen ct.made in
      let cn = expression_code calls here other cy.made in
      marks_then (expression_marks calls marks here (further way Tested) test made)
      (FormThen (further way (Own 0))
      (marks_then (expression_marks calls marks here (further way Chosen) chosen ct.made)
      (all_marked way (set_to (next_cell cn.made) cy.value.atom)))
      (marks_then (expression_marks calls marks here (further way Other) other cy.made)
      (all_marked way (set_to (next_cell cn.made) cn.value.atom))) NoMark)
  expression_marks calls marks here way (Call site function roots arguments) made =
      let ca = operands_code calls here arguments made in
      marks_then (operands_marks calls marks here way 0 arguments made)
      (marks here way site function (argument_roots here roots) ca.values ca.made)

  -- the first operand has this number
  pub operands_marks : Calls → CallMarks → Instance → Way → ℕ → Expressions → Made → Marks
  operands_marks calls marks here way k none made = NoMark
  operands_marks calls marks here way k (more e rest) made =
      let ce = expression_code calls here e made in
      marks_then (expression_marks calls marks here (further way (Operand k)) e made)
      (operands_marks calls marks here way (suc k) rest ce.made)

-- of an expression that may be absent
abbrev pub optional_marks : Calls → CallMarks → Instance → Way → Option Expression → Made → Marks
optional_marks calls marks here way None made = NoMark
optional_marks calls marks here way (Some e) made = expression_marks calls marks here way e made

-- ---- statements

-- the marks of statements in order, and those of the guarded ones behind them
pub record GuardedMarks : Type 0 where
  pub inside : Marks
  pub rest : Marks

-- of guarded lines, which are none where there is nothing to skip
abbrev pub guarded_marks : Way → (inside : Lines) → Marks → Marks → Marks
guarded_marks way inside one rest = if is_none inside then rest else FormThen way NoMark one rest

-- a statement before those behind it, whose lines inside are these
abbrev pub marks_before_rest : Way → (declared : Test) → Option ℕ → Marks → Lines → GuardedMarks → GuardedMarks
marks_before_rest way declared (Some site) one inside g =
    if declared then record {
      inside = marks_then one (marks_then g.inside g.rest);
      rest = NoMark;
    } else record { inside = one; rest = guarded_marks way inside g.inside g.rest }
marks_before_rest way declared None one inside g =
    if declared then record {
      inside = marks_then one (marks_then g.inside g.rest);
      rest = NoMark;
    } else record { inside = marks_then one g.inside; rest = g.rest }

-- all in order
abbrev pub marks_in_order : GuardedMarks → Marks
marks_in_order g = marks_then g.inside g.rest

-- a loop, from the marks of its parts
abbrev pub round_marks : Way → Option ℕ → (exit : ℕ) → (test : Lines) → (answer : Value) → (step : Lines) → Made →
    (one step_marks body_marks : Marks) → Marks
round_marks way None exit test answer step made one step_marks body_marks =
    FormThen way one (marks_then body_marks step_marks) NoMark
round_marks way (Some site) exit test answer step made one step_marks body_marks =
    let to = next_cell made in
    let cs = settled site exit (with_cell made OfValue answer.of) in
    FormThen way
    (MarkThen way (FormThen way NoMark (marks_then one (all_marked way (set_to to answer.atom))) NoMark))
    (marks_then body_marks (marks_then (all_marked way cs.lines) (guarded_marks way step step_marks NoMark))) NoMark

unfoldable mutual
  pub statement_marks : Calls → CallMarks → Instance → Way → (exit : ℕ) → Statement → Made → Marks
  statement_marks calls marks here way exit (Do e) made =
      expression_marks calls marks here (further way (Operand 0)) e made
  statement_marks calls marks here way exit (Declare x None) made = MarkThen way NoMark
  statement_marks calls marks here way exit (Declare x (Some e)) made =
      marks_then (expression_marks calls marks here (further way (Operand 0)) e made)
      (MarkThen (further way (Own 0)) NoMark)
  statement_marks calls marks here way exit (Fill site array values) made =
      let cv = operands_code calls here values made in
      let number = here.arrays + array in
      marks_then (operands_marks calls marks here way 0 values made)
      (all_marked (further way (Own 0))
      (ClearThen number (initial_lines site (element_at here array) number 0 cv.values)))
  statement_marks calls marks here way exit (Block list) made =
      marks_in_order (list_marks calls marks here way 0 exit false list made)
  statement_marks calls marks here way exit (If site test chosen other) made =
      let ct = expression_code calls here test made in
      let cy = in_order (list_code calls here exit false chosen ct.made) in
      marks_then (expression_marks calls marks here (further way Tested) test made)
      (FormThen (further way (Own 0))
      (marks_in_order (list_marks calls marks here (further way Chosen) 0 exit false chosen ct.made))
      (marks_in_order (list_marks calls marks here (further way Other) 0 exit false other cy.made)) NoMark)
  statement_marks calls marks here way exit (Loop site test_first test step body) made =
      let out = way_out true true body in
      let co = opened out exit made in
      let ct = optional_code calls here test co.made in
      let cs = optional_code calls here step ct.made in
      let cb = statement_code calls here co.exit body cs.made in
      let cr = round_code site test_first out co.exit ct.lines ct.value cs.lines cb.lines cb.made in
      let cw = outward (way_out false false body) co.exit exit cr.made in
      marks_then (all_marked way co.lines)
      (marks_then (round_marks way out co.exit ct.lines ct.value cs.lines cb.made
      (optional_marks calls marks here (in_turn way Tested) test co.made)
      (optional_marks calls marks here (in_turn way Step) step ct.made)
      (statement_marks calls marks here (in_turn way Body) co.exit body cs.made))
      (all_marked way cw.lines))
  statement_marks calls marks here way exit (Switch site value arms) made =
      let cv = expression_code calls here value made in
      let co = opened (way_out_of_arms true true arms) exit cv.made in
      let cs = selected site cv.value arms co.made in
      let ca = arms_code calls here co.exit site cs.value.atom (int (pos 0)) 0 arms cs.made in
      let cw = outward (way_out_of_arms false true arms) co.exit exit ca.made in
      marks_then (expression_marks calls marks here (further way Tested) value made)
      (marks_then (all_marked way co.lines)
      (marks_then (all_marked way cs.lines)
      (marks_then (arms_marks calls marks here way co.exit site cs.value.atom (int (pos 0)) 0 arms cs.made)
      (all_marked way cw.lines))))
  statement_marks calls marks here way exit (Break site) made = all_marked way (set_exit exit 2)
  statement_marks calls marks here way exit (Continue site) made = all_marked way (set_exit exit 1)
  statement_marks calls marks here way exit (Return site None) made = all_marked way (set_exit exit 3)
  statement_marks calls marks here way exit (Return site (Some e)) made =
      let ce = expression_code calls here e made in
      marks_then (expression_marks calls marks here (further way (Operand 0)) e made)
      (all_marked (further way (Own 0)) (joined_to (set_to here.answer ce.value.atom) (set_exit exit 3)))
  statement_marks calls marks here way exit (Barrier site) made = MarkThen way NoMark

  -- the first statement has this number
  pub list_marks : Calls → CallMarks → Instance → Way → ℕ → (exit : ℕ) → (guarded : Test) → Statements → Made →
      GuardedMarks
  list_marks calls marks here way k exit guarded empty made = record { inside = NoMark; rest = NoMark }
  list_marks calls marks here way k exit guarded (also s rest) made =
      let declared = guarded && declares s in
      let out = way_out true true s in
      let cs = statement_code calls here exit s made in
      let inner = is_guarded declared out guarded in
      marks_before_rest way declared out (statement_marks calls marks here (further way (Nth k)) exit s made)
      (list_code calls here exit inner rest cs.made).inside (list_marks calls marks here way (suc k) exit inner
      rest cs.made)

  -- the first arm has this number
  pub arms_marks : Calls → CallMarks → Instance → Way → (exit site : ℕ) → (chosen fallen : Atom) → ℕ → Arms → Made →
      Marks
  arms_marks calls marks here way exit site chosen fallen k no_arm made = NoMark
  arms_marks calls marks here way exit site chosen fallen k (arm labels other body rest) made =
      let out = way_out_of_all true true body in
      let ce = entry_code chosen fallen k made in
      let cb = in_order (list_code calls here exit false body ce.made) in
      let ca = around_arm site exit out ce cb in
      let cf = fallen_code out exit ce.value cb.made in
      marks_then (all_marked way ce.lines)
      (FormThen way (marks_in_order (list_marks calls marks here (further way (Arm k)) 0 exit false body ce.made))
      NoMark
      (marks_then (all_marked way cf.lines) (arms_marks calls marks here way exit site chosen ca.value.atom (k + 1)
      rest ca.made)))

-- ---- functions

-- the body of a function
abbrev pub body_marks : Calls → CallMarks → Instance → Way → Function → Made → Marks
body_marks calls marks here way f made =
    let cr = result_code f.result made in
    let co = opened (way_out_of_all true true f.body) 0 cr.made in
    marks_then (all_marked way cr.lines)
    (marks_then (all_marked way co.lines)
    (marks_in_order (list_marks calls marks here way 0 co.exit false f.body co.made)))

-- a call, where calls nest less deep than the depth
unfoldable pub call_marks : Program → List (List Named) → ℕ → CallMarks
call_marks program names zero here way site function roots values made = NoMark
call_marks program names (suc depth) here way site function roots values made =
    let f = function_at program function in
    let there = way_behind program here site function roots in
    marks_then (all_marked (further way (Own 0)) (parameter_lines (next_cell made) values))
    (body_marks (call_code program names depth) (call_marks program names depth) (instance_at there f made)
    (further way Into) f (with_instance there (names_at names function) f made))

-- the whole kernel
unfoldable pub kernel_marks : Program → List (List Named) → Marks
kernel_marks program names =
    let f = called.kernel_of program in
    let there = kernel_way program in
    let depth = length program.functions in
    marks_then (all_marked (λ begun. []) (bound_lines 0 0 (parameter_kinds f)))
    (body_marks (call_code program names depth) (call_marks program names depth) (instance_at there f nothing_made)
    (λ begun. []) f (with_instance there (names_at names program.kernel) f nothing_made))
