-- The marks of a lowered kernel have the shape of its lines, so walking along the lines walks along the marks.
use Rattle.std.proofs.Common.{◌≡◌, ℕ, zero, suc, ◌+◌, pos, List, [], ◌∷◌, length, Option, Some, None, sym, ap, subst}
use Rattle.std.proofs.Common.{true, false, if◌then◌else◌}
use Rattle.std.proofs.Common.{Bool as Test}
use Rattle.std.specs.Prelude.{◌&&◌}
use Rattle.cl_model.specs.declared.program.Root.{Root}
use Rattle.cl_model.specs.Tree.{Expression, Apply, Update, Choose, Call, Expressions, none, more, Statement, Do}
use Rattle.cl_model.specs.Tree.{Declare, Fill, Block, If, Loop, Switch, Break, Continue, Return, Barrier, Statements}
use Rattle.cl_model.specs.Tree.{empty, also, Arms, no_arm, arm, Function, Program}
use Rattle.cl_model.specs.Calls.{function_at, kernel_of}
use Rattle.cl_model.specs.Valid.{parameter_kinds}
use Rattle.cl_model.specs.Task.{Operand, Own, Tested, Chosen, Other, Nth, Body, Step, Arm, Into}
use Rattle.kir.specs.declared.line.Atom.{Atom}
use Rattle.kir.specs.declared.line.Atom.TheVariants.{Cell as CellAtom}
use Rattle.kir.specs.Tree.{Lines, NoLine, SetThen, LoadThen, StoreThen, ClearThen, IfThen, LoopThen, BarrierThen}
use Rattle.kir.specs.Tree.{joined_to, OfValue}
use Rattle.kir.specs.Places.{Behind, Place, place_behind}
use Rattle.kir.specs.Lowering.{Named}
use Rattle.kir_lower.specs.declared.places.Value.{Value}
use Rattle.kir_lower.specs.Made.{Made, Instance, next_cell, with_cell, int, root_in, argument_roots, element_at}
use Rattle.kir_lower.specs.Ways.{way_out, way_out_of_all, way_out_of_arms, declares}
use Rattle.kir_lower.specs.Actions.{loaded, stored, changed, action_code, initial_lines, set_to, opened, is_none}
use Rattle.kir_lower.specs.Actions.{guarded_before, settled, outward, round_code, selected, fallen_code}
use Rattle.kir_lower.specs.Code.{Calls, expression_code, operands_code, optional_code, Guarded, before_rest}
use Rattle.kir_lower.specs.Code.{is_guarded, in_order, set_exit, entry_code, around_arm, statement_code, list_code}
use Rattle.kir_lower.specs.Code.{arms_code, result_code, body_code}
use Rattle.kir_lower.specs.Whole.{names_at, way_behind, instance_at, with_instance, parameter_lines, call_code}
use Rattle.kir_lower.specs.Whole.{bound_lines, kernel_way, nothing_made, lowered_of}
use Rattle.kir_lower_shape.specs.Marks.{Way, further, in_turn, Marks, NoMark, MarkThen, FormThen, marks_then}
use Rattle.kir_lower_shape.specs.Marks.{all_marked, marks_behind, marks_at, Shaped, no_line, set_line, load_line}
use Rattle.kir_lower_shape.specs.Marks.{store_line, clear_line, if_line, loop_line, barrier_line}
use Rattle.kir_lower_shape.specs.CodeMarks.{CallMarks, finish_way, expression_marks, operands_marks, optional_marks}
use Rattle.kir_lower_shape.specs.CodeMarks.{GuardedMarks, guarded_marks, marks_before_rest, marks_in_order, round_marks}
use Rattle.kir_lower_shape.specs.CodeMarks.{statement_marks, list_marks, arms_marks, body_marks, call_marks}
use Rattle.kir_lower_shape.specs.CodeMarks.{kernel_marks}
use Rattle.kir_lower_shape.proofs.Joined.{join_assoc}

pub shaped_then : (a b : Lines) (m k : Marks) → Shaped a m → Shaped b k → Shaped (joined_to a b) (marks_then m k)
shaped_then _ b _ k no_line s = s
shaped_then _ b _ k (set_line h) s = set_line (shaped_then _ b _ k h s)
shaped_then _ b _ k (load_line h) s = load_line (shaped_then _ b _ k h s)
shaped_then _ b _ k (store_line h) s = store_line (shaped_then _ b _ k h s)
shaped_then _ b _ k (clear_line h) s = clear_line (shaped_then _ b _ k h s)
shaped_then _ b _ k (if_line y n h) s = if_line y n (shaped_then _ b _ k h s)
shaped_then _ b _ k (loop_line t l h) s = loop_line t l (shaped_then _ b _ k h s)
shaped_then _ b _ k (barrier_line h) s = barrier_line (shaped_then _ b _ k h s)

pub shaped_all : (way : Way) (lines : Lines) → Shaped lines (all_marked way lines)
shaped_all way NoLine = no_line
shaped_all way (SetThen to work rest) = set_line (shaped_all way rest)
shaped_all way (LoadThen site to element root index rest) = load_line (shaped_all way rest)
shaped_all way (StoreThen site element root index from rest) = store_line (shaped_all way rest)
shaped_all way (ClearThen array rest) = clear_line (shaped_all way rest)
shaped_all way (IfThen site test chosen other rest) =
    if_line (shaped_all way chosen) (shaped_all way other) (shaped_all way rest)
shaped_all way (LoopThen site test_first test answer body rest) =
    loop_line (shaped_all way test) (shaped_all way body) (shaped_all way rest)
shaped_all way (BarrierThen site rest) = barrier_line (shaped_all way rest)

-- behind lines at a place the marks are those behind theirs
pub marks_past : (whole : Marks) (lines : Lines) (m k : Marks) (at : Place) → Shaped lines m →
    marks_at whole at ≡ marks_then m k → marks_at whole (place_behind lines at) ≡ k
marks_past whole _ _ k at no_line e = e
marks_past whole _ _ k at (set_line h) e = marks_past whole _ _ k (Behind ∷ at) h (ap marks_behind e)
marks_past whole _ _ k at (load_line h) e = marks_past whole _ _ k (Behind ∷ at) h (ap marks_behind e)
marks_past whole _ _ k at (store_line h) e = marks_past whole _ _ k (Behind ∷ at) h (ap marks_behind e)
marks_past whole _ _ k at (clear_line h) e = marks_past whole _ _ k (Behind ∷ at) h (ap marks_behind e)
marks_past whole _ _ k at (if_line y n h) e = marks_past whole _ _ k (Behind ∷ at) h (ap marks_behind e)
marks_past whole _ _ k at (loop_line t l h) e = marks_past whole _ _ k (Behind ∷ at) h (ap marks_behind e)
marks_past whole _ _ k at (barrier_line h) e = marks_past whole _ _ k (Behind ∷ at) h (ap marks_behind e)

-- one line that sets a cell
one_set : (way : Way) (cell : ℕ) (atom : Atom) → Shaped (set_to cell atom) (MarkThen way NoMark)
one_set way cell atom = set_line no_line

pub guarded_shaped : (way : Way) (site exit : ℕ) (inside rest : Lines) (one two : Marks) → Shaped inside one →
    Shaped rest two → Shaped (guarded_before site exit inside rest) (guarded_marks way inside one two)
guarded_shaped way site exit inside rest one two h k = by_test (is_none inside)
  where
    by_test : (b : Test) → Shaped (if b then rest else IfThen site (CellAtom exit) NoLine inside rest)
        (if b then two else FormThen way NoMark one two)
    by_test true = k
    by_test false = if_line no_line h k

pub before_rest_shaped : (way : Way) (exit : ℕ) (declared : Test) (out : Option ℕ) (lines : Lines) (c : Guarded)
    (one : Marks) (g : GuardedMarks) → Shaped lines one → Shaped c.inside g.inside × Shaped c.rest g.rest
    → Shaped (before_rest exit declared out lines c).inside (marks_before_rest way declared out one c.inside g).inside
    × Shaped (before_rest exit declared out lines c).rest (marks_before_rest way declared out one c.inside g).rest
before_rest_shaped way exit true None lines c one g h k =
    (shaped_then lines _ one _ h (shaped_then c.inside c.rest g.inside g.rest k.0 k.1), no_line)
before_rest_shaped way exit true (Some site) lines c one g h k =
    (shaped_then lines _ one _ h (shaped_then c.inside c.rest g.inside g.rest k.0 k.1), no_line)
before_rest_shaped way exit false None lines c one g h k = (shaped_then lines c.inside one g.inside h k.0, k.1)
before_rest_shaped way exit false (Some site) lines c one g h k =
    (h, guarded_shaped way site exit c.inside c.rest g.inside g.rest k.0 k.1)

pub round_shaped : (way : Way) (site : ℕ) (first : Test) (out : Option ℕ) (exit : ℕ) (test : Lines) (answer : Value)
    (step body : Lines) (m : Made) (one two three : Marks) → Shaped test one → Shaped step two → Shaped body three
    → Shaped (round_code site first out exit test answer step body m).lines
    (round_marks way out exit test answer step m one two three)
round_shaped way site first None exit test answer step body m one two three t s b =
    loop_line t (shaped_then body step three two b s) no_line
round_shaped way site first (Some o) exit test answer step body m one two three t s b =
    let cs = settled o exit (with_cell m OfValue answer.of) in
    loop_line (set_line (if_line no_line (shaped_then test (set_to (next_cell m) answer.atom) one
    (all_marked way (set_to (next_cell m) answer.atom)) t
    (shaped_all way (set_to (next_cell m) answer.atom))) no_line))
    (shaped_then body (joined_to cs.lines (guarded_before o exit step NoLine)) three
    (marks_then (all_marked way cs.lines) (guarded_marks way step two NoMark)) b
    (shaped_then cs.lines (guarded_before o exit step NoLine) (all_marked way cs.lines)
    (guarded_marks way step two NoMark) (shaped_all way cs.lines)
    (guarded_shaped way o exit step NoLine two NoMark s no_line))) no_line

module _ (calls : Calls) (marks : CallMarks)
    (call : (here : Instance) (way : Way) (site function : ℕ) (roots : List Root) (values : List Value) (m : Made) →
    Shaped (calls here site function roots values m).lines (marks here way site function roots values m))
    (here : Instance) where
  mutual
    unfolding expression_code expression_marks

    pub expression_shaped : (way : Way) (e : Expression) (m : Made) →
        Shaped (expression_code calls here e m).lines (expression_marks calls marks here way e m)
    expression_shaped way (Apply action operands) m =
        let co = operands_code calls here operands m in
        shaped_then co.lines (action_code here action co.values co.made).lines _ _ (operands_shaped way 0 operands m)
        (shaped_all (finish_way way operands) (action_code here action co.values co.made).lines)
    expression_shaped way (Update site element root op of back old index value) m =
        let ci = expression_code calls here index m in
        let cl = loaded site element (root_in here root) ci.value.atom ci.made in
        let cv = expression_code calls here value cl.made in
        let cc = changed op of back cl.value.atom cv.value.atom cv.made in
        let last = joined_to cc.lines (stored site element (root_in here root) ci.value.atom cc.value.atom) in
        shaped_then ci.lines (joined_to cl.lines (joined_to cv.lines last)) _ _
        (expression_shaped (further way (Operand 0)) index m)
        (shaped_then cl.lines (joined_to cv.lines last) _ _ (shaped_all (further way (Own 0)) cl.lines)
        (shaped_then cv.lines last _ _ (expression_shaped (further way (Operand 1)) value cl.made)
        (shaped_all (further way (Own 1)) last)))
    expression_shaped way (Choose site test chosen other) m =
        let ct = expression_code calls here test m in
        let cy = expression_code calls here chosen ct.made in
        let cn = expression_code calls here other cy.made in
        shaped_then ct.lines _ _ _ (expression_shaped (further way Tested) test m)
        (if_line (shaped_then cy.lines (set_to (next_cell cn.made) cy.value.atom) _ _
        (expression_shaped (further way Chosen) chosen ct.made)
        (shaped_all way (set_to (next_cell cn.made) cy.value.atom)))
        (shaped_then cn.lines (set_to (next_cell cn.made) cn.value.atom) _ _
        (expression_shaped (further way Other) other cy.made)
        (shaped_all way (set_to (next_cell cn.made) cn.value.atom))) no_line)
    expression_shaped way (Call site function roots arguments) m =
        let ca = operands_code calls here arguments m in
        shaped_then ca.lines _ _ _ (operands_shaped way 0 arguments m)
        (call here way site function (argument_roots here roots) ca.values ca.made)

    pub operands_shaped : (way : Way) (k : ℕ) (list : Expressions) (m : Made) →
        Shaped (operands_code calls here list m).lines (operands_marks calls marks here way k list m)
    operands_shaped way k none m = no_line
    operands_shaped way k (more e rest) m =
        let ce = expression_code calls here e m in
        shaped_then ce.lines (operands_code calls here rest ce.made).lines _ _
        (expression_shaped (further way (Operand k)) e m) (operands_shaped way (suc k) rest ce.made)

  pub optional_shaped : (way : Way) (e : Option Expression) (m : Made) →
      Shaped (optional_code calls here e m).lines (optional_marks calls marks here way e m)
  optional_shaped way None m = no_line
  optional_shaped way (Some e) m = expression_shaped way e m

  -- all in order
  pub in_order_shaped : (c : Guarded) (g : GuardedMarks) → Shaped c.inside g.inside × Shaped c.rest g.rest →
      Shaped (in_order c).lines (marks_in_order g)
  in_order_shaped c g h = shaped_then c.inside c.rest g.inside g.rest h.0 h.1

  mutual
    unfolding statement_code statement_marks

    pub statement_shaped : (way : Way) (exit : ℕ) (s : Statement) (m : Made) →
        Shaped (statement_code calls here exit s m).lines (statement_marks calls marks here way exit s m)
    statement_shaped way exit (Do e) m = expression_shaped (further way (Operand 0)) e m
    statement_shaped way exit (Declare x None) m = set_line no_line
    statement_shaped way exit (Declare x (Some e)) m =
        let ce = expression_code calls here e m in
        shaped_then ce.lines (set_to (here.base + x) ce.value.atom) _ _ (expression_shaped (further way (Operand 0)) e
        m) (one_set (further way (Own 0)) (here.base + x) ce.value.atom)
    statement_shaped way exit (Fill site array values) m =
        let cv = operands_code calls here values m in
        let number = here.arrays + array in
        shaped_then cv.lines _ _ _ (operands_shaped way 0 values m)
        (shaped_all (further way (Own 0))
        (ClearThen number (initial_lines site (element_at here array) number 0 cv.values)))
    statement_shaped way exit (Block list) m =
        in_order_shaped (list_code calls here exit false list m) (list_marks calls marks here way 0 exit false list m)
        (list_shaped way 0 exit false list m)
    statement_shaped way exit (If site test chosen other) m =
        let ct = expression_code calls here test m in
        let cy = list_code calls here exit false chosen ct.made in
        let cn = list_code calls here exit false other cy.made in
        shaped_then ct.lines _ _ _ (expression_shaped (further way Tested) test m)
        (if_line (in_order_shaped cy (list_marks calls marks here (further way Chosen) 0 exit false chosen ct.made)
        (list_shaped (further way Chosen) 0 exit false chosen ct.made))
        (in_order_shaped cn (list_marks calls marks here (further way Other) 0 exit false other cy.made)
        (list_shaped (further way Other) 0 exit false other cy.made)) no_line)
    statement_shaped way exit (Loop site first test step body) m =
        let out = way_out true true body in
        let co = opened out exit m in
        let ct = optional_code calls here test co.made in
        let cs = optional_code calls here step ct.made in
        let cb = statement_code calls here co.exit body cs.made in
        let cr = round_code site first out co.exit ct.lines ct.value cs.lines cb.lines cb.made in
        let cw = outward (way_out false false body) co.exit exit cr.made in
        shaped_then co.lines (joined_to cr.lines cw.lines) _ _ (shaped_all way co.lines)
        (shaped_then cr.lines cw.lines _ _ (round_shaped way site first out co.exit ct.lines ct.value cs.lines
        cb.lines cb.made _ _ _ (optional_shaped (in_turn way Tested) test co.made)
        (optional_shaped (in_turn way Step) step ct.made) (statement_shaped (in_turn way Body) co.exit body
        cs.made))
        (shaped_all way cw.lines))
    statement_shaped way exit (Switch site value arms) m =
        let cv = expression_code calls here value m in
        let co = opened (way_out_of_arms true true arms) exit cv.made in
        let cs = selected site cv.value arms co.made in
        let ca = arms_code calls here co.exit site cs.value.atom (int (pos 0)) 0 arms cs.made in
        let cw = outward (way_out_of_arms false true arms) co.exit exit ca.made in
        shaped_then cv.lines (joined_to co.lines (joined_to cs.lines (joined_to ca.lines cw.lines))) _ _
        (expression_shaped (further way Tested) value m)
        (shaped_then co.lines (joined_to cs.lines (joined_to ca.lines cw.lines)) _ _ (shaped_all way co.lines)
        (shaped_then cs.lines (joined_to ca.lines cw.lines) _ _ (shaped_all way cs.lines)
        (shaped_then ca.lines cw.lines _ _ (arms_shaped way co.exit site cs.value.atom (int (pos 0)) 0 arms cs.made)
        (shaped_all way cw.lines))))
    statement_shaped way exit (Break site) m = shaped_all way (set_exit exit 2)
    statement_shaped way exit (Continue site) m = shaped_all way (set_exit exit 1)
    statement_shaped way exit (Return site None) m = shaped_all way (set_exit exit 3)
    statement_shaped way exit (Return site (Some e)) m =
        let ce = expression_code calls here e m in
        let last = joined_to (set_to here.answer ce.value.atom) (set_exit exit 3) in
        shaped_then ce.lines last _ _ (expression_shaped (further way (Operand 0)) e m)
        (shaped_all (further way (Own 0)) last)
    statement_shaped way exit (Barrier site) m = barrier_line no_line

    pub list_shaped : (way : Way) (k exit : ℕ) (guarded : Test) (list : Statements) (m : Made)
        → Shaped (list_code calls here exit guarded list m).inside (list_marks calls marks here way k exit guarded
        list m).inside × Shaped (list_code calls here exit guarded list m).rest
        (list_marks calls marks here way k exit guarded list m).rest
    list_shaped way k exit guarded empty m = (no_line, no_line)
    list_shaped way k exit guarded (also s rest) m =
        let declared = guarded && declares s in
        let out = way_out true true s in
        let cs = statement_code calls here exit s m in
        let inner = is_guarded declared out guarded in
        before_rest_shaped way exit declared out cs.lines (list_code calls here exit inner rest cs.made)
        (statement_marks calls marks here (further way (Nth k)) exit s m)
        (list_marks calls marks here way (suc k) exit inner rest cs.made)
        (statement_shaped (further way (Nth k)) exit s m) (list_shaped way (suc k) exit inner rest cs.made)

    pub arms_shaped : (way : Way) (exit site : ℕ) (chosen fallen : Atom) (k : ℕ) (arms : Arms) (m : Made) →
        Shaped (arms_code calls here exit site chosen fallen k arms m).lines
        (arms_marks calls marks here way exit site chosen fallen k arms m)
    arms_shaped way exit site chosen fallen k no_arm m = no_line
    arms_shaped way exit site chosen fallen k (arm labels other body rest) m =
        let out = way_out_of_all true true body in
        let ce = entry_code chosen fallen k m in
        let cl = list_code calls here exit false body ce.made in
        let ca = around_arm site exit out ce (in_order cl) in
        let cf = fallen_code out exit ce.value cl.made in
        let cr = arms_code calls here exit site chosen ca.value.atom (k + 1) rest ca.made in
        subst (λ z. Shaped z (arms_marks calls marks here way exit site chosen fallen k (arm labels other body rest)
        m)) (sym (join_assoc ce.lines (IfThen site ce.value.atom (in_order cl).lines NoLine cf.lines) cr.lines))
        (shaped_then ce.lines (IfThen site ce.value.atom (in_order cl).lines NoLine (joined_to cf.lines cr.lines))
        (all_marked way ce.lines) _ (shaped_all way ce.lines)
        (if_line (in_order_shaped cl (list_marks calls marks here (further way (Arm k)) 0 exit false body ce.made)
        (list_shaped (further way (Arm k)) 0 exit false body ce.made)) no_line
        (shaped_then cf.lines cr.lines _ _ (shaped_all way cf.lines) (arms_shaped way exit site chosen ca.value.atom
        (k + 1) rest ca.made))))

  pub body_shaped : (way : Way) (f : Function) (m : Made) →
      Shaped (body_code calls here f m).lines (body_marks calls marks here way f m)
  body_shaped way f m =
      let cr = result_code f.result m in
      let co = opened (way_out_of_all true true f.body) 0 cr.made in
      let cl = list_code calls here co.exit false f.body co.made in
      shaped_then cr.lines (joined_to co.lines (in_order cl).lines) _ _ (shaped_all way cr.lines)
      (shaped_then co.lines (in_order cl).lines _ _ (shaped_all way co.lines)
      (in_order_shaped cl (list_marks calls marks here way 0 co.exit false f.body co.made)
      (list_shaped way 0 co.exit false f.body co.made)))

module _ (program : Program) (names : List (List Named)) where
  pub call_shaped : (depth : ℕ) (here : Instance) (way : Way) (site function : ℕ) (roots : List Root)
      (values : List Value) (m : Made)
      → Shaped (call_code program names depth here site function roots values m).lines
      (call_marks program names depth here way site function roots values m)
  unfolding call_code call_marks
  call_shaped zero here way site function roots values m = no_line
  call_shaped (suc depth) here way site function roots values m =
      let f = function_at program function in
      let there = way_behind program here site function roots in
      shaped_then (parameter_lines (next_cell m) values) _ _ _
      (shaped_all (further way (Own 0)) (parameter_lines (next_cell m) values))
      (body_shaped (call_code program names depth) (call_marks program names depth) (call_shaped depth)
      (instance_at there f m) (further way Into) f (with_instance there (names_at names function) f m))

  -- the marks of the kernel have the shape of its lines
  pub kernel_shaped : Shaped (lowered_of program names).body (kernel_marks program names)
  unfolding lowered_of kernel_marks
  kernel_shaped =
      let f = kernel_of program in
      let there = kernel_way program in
      let depth = length program.functions in
      shaped_then (bound_lines 0 0 (parameter_kinds f)) _ _ _
      (shaped_all (λ begun. []) (bound_lines 0 0 (parameter_kinds f)))
      (body_shaped (call_code program names depth) (call_marks program names depth) (call_shaped depth)
      (instance_at there f nothing_made) (λ begun. []) f (with_instance there (names_at names program.kernel) f
      nothing_made))
