-- The lines of expressions and statements, each called function's lines in place of the call.
use Rattle.std.specs.Prelude.{ℕ, ◌+◌, pos, List, [], ◌∷◌, Option, Some, None, ◌&&◌, if◌then◌else◌}
use Rattle.std.specs.Prelude.{Bool as Test, true, false}
use Rattle.wg_num.specs.declared.types.IntType.{IntType}
use Rattle.wg_num.specs.declared.types.IntType.TheVariants.{Int}
use Rattle.wg_num.specs.declared.types.Bin.TheVariants.{Or, Eq}
use Rattle.cl_model.specs.declared.program.Root.{Root}
use Rattle.cl_model.specs.Tree.{Expression, Apply, Update, Choose, Call, Expressions, none, more, Statement, Do}
use Rattle.cl_model.specs.Tree.{Declare, Fill, Block, If, Loop, Switch, Break, Continue, Return, Barrier, Statements}
use Rattle.cl_model.specs.Tree.{empty, also, Arms, no_arm, arm, Function}
use Rattle.kir.specs.declared.line.Atom.{Atom}
use Rattle.kir.specs.declared.line.Atom.TheVariants.{Cell as CellAtom}
use Rattle.kir.specs.Tree.{Lines, NoLine, ClearThen, IfThen, BarrierThen, joined_to, OfValue}
use Rattle.kir_lower.specs.declared.places.Value.{Value}
use Rattle.kir_lower.specs.Made.{Made, next_cell, with_cell, Instance, type_at, element_at, root_in, argument_roots}
use Rattle.kir_lower.specs.Made.{int, constant}
use Rattle.kir_lower.specs.Ways.{way_out, way_out_of_all, way_out_of_arms, declares}
use Rattle.kir_lower.specs.Actions.{Code, Steps, given, behind, operated, truth, changed, set_to, loaded, stored}
use Rattle.kir_lower.specs.Actions.{choice_code, action_code, initial_lines, opened, guarded_before, outward}
use Rattle.kir_lower.specs.Actions.{round_code, selected, fallen_code}

-- the lines of a call in an instance: at a site, of a function, with the kernel's root of each argument and the
-- values of the arguments
abbrev pub Calls : Type 0
Calls = Instance → (site function : ℕ) → List Root → List Value → Made → Code

-- the lines of operands in order, and their values
pub record Operands : Type 0 where
  pub lines : Lines
  pub values : List Value
  pub made : Made

-- ---- expressions

unfoldable mutual
  -- operands from left to right, then the expression's own step
  pub expression_code : Calls → Instance → Expression → Made → Code
  expression_code calls here (Apply action operands) made =
      let co = operands_code calls here operands made in
      behind co.lines (action_code here action co.values co.made)
  expression_code calls here (Update site element root op of back old index value) made =
      let ci = expression_code calls here index made in
      let cl = loaded site element (root_in here root) ci.value.atom ci.made in
      let cv = expression_code calls here value cl.made in
      let cc = changed op of back cl.value.atom cv.value.atom cv.made in
      record {
        lines =
            joined_to ci.lines (joined_to cl.lines
            (joined_to cv.lines (joined_to cc.lines (stored site element (root_in here root) ci.value.atom
            cc.value.atom))));
        value = (if old then cl.value else cc.value);
        made = cc.made;
      }
  expression_code calls here (Choose site test chosen other) made =
      let ct = expression_code calls here test made in
      let cy = expression_code calls here chosen ct.made in
      let cn = expression_code calls here other cy.made in
      behind ct.lines (choice_code site ct.value.atom cy.lines cy.value cn.lines cn.value cn.made)
  expression_code calls here (Call site function roots arguments) made =
      let ca = operands_code calls here arguments made in
      behind ca.lines (calls here site function (argument_roots here roots) ca.values ca.made)

  pub operands_code : Calls → Instance → Expressions → Made → Operands
  operands_code calls here none made = record { lines = NoLine; values = []; made = made }
  operands_code calls here (more e rest) made =
      let ce = expression_code calls here e made in
      let cr = operands_code calls here rest ce.made in
      record { lines = joined_to ce.lines cr.lines; values = ce.value ∷ cr.values; made = cr.made }

-- a branch of an expression, or whether its value is not 0
abbrev pub part_code : Calls → Instance → (is_truth : Test) → Expression → Made → Code
part_code calls here false e made = expression_code calls here e made
part_code calls here true e made = let ce =
    expression_code calls here e made in behind ce.lines (truth ce.value ce.made)

-- an expression that may be absent, which then is 1: the test of a loop
abbrev pub optional_code : Calls → Instance → Option Expression → Made → Code
optional_code calls here None made = given (constant (pos 1) Int) made
optional_code calls here (Some e) made = expression_code calls here e made

-- ---- statements

-- statements in order: the lines up to and with the first statement that has a way out, and the guarded lines behind
-- them
pub record Guarded : Type 0 where
  pub inside : Lines
  pub rest : Lines
  pub made : Made

-- the statements behind one stand under a guard of their own where it has a way out, and none where a guarded one
-- declares a variable
abbrev pub is_guarded : (declared : Test) → Option ℕ → (guarded : Test) → Test
is_guarded true way guarded = false
is_guarded false None guarded = guarded
is_guarded false (Some site) guarded = true

-- a statement before those behind it. A variable that is declared under a guard is in scope behind it, so all lines
-- behind stand under that guard too
abbrev pub before_rest : (exit : ℕ) → (declared : Test) → Option ℕ → Lines → Guarded → Guarded
before_rest exit true way lines cr =
    record { inside = joined_to lines (joined_to cr.inside cr.rest); rest = NoLine; made = cr.made }
before_rest exit false None lines cr = record { inside = joined_to lines cr.inside; rest = cr.rest; made = cr.made }
before_rest exit false (Some site) lines cr =
    record { inside = lines; rest = guarded_before site exit cr.inside cr.rest; made = cr.made }

-- all lines in order
abbrev pub in_order : Guarded → Steps
in_order c = record { lines = joined_to c.inside c.rest; made = c.made }

-- the values of statements that set no variable are dropped
abbrev pub dropped : Code → Steps
dropped c = record { lines = c.lines; made = c.made }

-- a way out is pending
abbrev pub set_exit : (exit : ℕ) → ℕ → Lines
set_exit exit way = set_to exit (int (pos way))

-- whether an arm is entered: it is the chosen one, or the one before it falls through
abbrev pub entry_code : (chosen fallen : Atom) → ℕ → Made → Code
entry_code chosen fallen k made =
    let cm = operated Eq Int chosen (int (pos k)) made in
    behind cm.lines (operated Or Int fallen cm.value.atom cm.made)

-- an arm around its statements, with whether the next one is fallen into
abbrev pub around_arm : (site exit : ℕ) → Option ℕ → Code → Steps → Code
around_arm site exit way ce cb =
    let cf = fallen_code way exit ce.value cb.made in
    record {
      lines = joined_to ce.lines (IfThen site ce.value.atom cb.lines NoLine cf.lines);
      value = cf.value;
      made = cf.made;
    }

unfoldable mutual
  -- exit: the cell of the construct around the statement that says which way out is pending
  pub statement_code : Calls → Instance → (exit : ℕ) → Statement → Made → Steps
  statement_code calls here exit (Do e) made = dropped (expression_code calls here e made)
  statement_code calls here exit (Declare x None) made =
      record { lines = set_to (here.base + x) (constant (pos 0) (type_at here x)).atom; made = made }
  statement_code calls here exit (Declare x (Some e)) made =
      let ce = expression_code calls here e made in
      record { lines = joined_to ce.lines (set_to (here.base + x) ce.value.atom); made = ce.made }
  statement_code calls here exit (Fill site array values) made =
      let cv = operands_code calls here values made in
      let number = here.arrays + array in
      record {
        lines = joined_to cv.lines
            (ClearThen number (initial_lines site (element_at here array) number 0 cv.values));
        made = cv.made;
      }
  statement_code calls here exit (Block list) made = in_order (list_code calls here exit false list made)
  statement_code calls here exit (If site test chosen other) made =
      let ct = expression_code calls here test made in
      let cy = in_order (list_code calls here exit false chosen ct.made) in
      let cn = in_order (list_code calls here exit false other cy.made) in
      record { lines = joined_to ct.lines (IfThen site ct.value.atom cy.lines cn.lines NoLine); made = cn.made }
  statement_code calls here exit (Loop site test_first test step body) made =
      let way = way_out true true body in
      let co = opened way exit made in
      let ct = optional_code calls here test co.made in
      let cs = optional_code calls here step ct.made in
      let cb = statement_code calls here co.exit body cs.made in
      let cr = round_code site test_first way co.exit ct.lines ct.value cs.lines cb.lines cb.made in
      let cw = outward (way_out false false body) co.exit exit cr.made in
      record { lines = joined_to co.lines (joined_to cr.lines cw.lines); made = cw.made }
  statement_code calls here exit (Switch site value arms) made =
      let cv = expression_code calls here value made in
      let co = opened (way_out_of_arms true true arms) exit cv.made in
      let cs = selected site cv.value arms co.made in
      let ca = arms_code calls here co.exit site cs.value.atom (int (pos 0)) 0 arms cs.made in
      let cw = outward (way_out_of_arms false true arms) co.exit exit ca.made in
      record {
        lines = joined_to cv.lines (joined_to co.lines (joined_to cs.lines (joined_to ca.lines cw.lines)));
        made = cw.made;
      }
  statement_code calls here exit (Break site) made = record { lines = set_exit exit 2; made = made }
  statement_code calls here exit (Continue site) made = record { lines = set_exit exit 1; made = made }
  statement_code calls here exit (Return site None) made = record { lines = set_exit exit 3; made = made }
  statement_code calls here exit (Return site (Some e)) made =
      let ce = expression_code calls here e made in
      record {
        lines = joined_to ce.lines (joined_to (set_to here.answer ce.value.atom) (set_exit exit 3));
        made = ce.made;
      }
  statement_code calls here exit (Barrier site) made = record { lines = BarrierThen site NoLine; made = made }

  -- guarded: the statements stand under a guard
  pub list_code : Calls → Instance → (exit : ℕ) → (guarded : Test) → Statements → Made → Guarded
  list_code calls here exit guarded empty made = record { inside = NoLine; rest = NoLine; made = made }
  list_code calls here exit guarded (also s rest) made =
      let declared = guarded && declares s in
      let way = way_out true true s in
      let cs = statement_code calls here exit s made in
      before_rest exit declared way cs.lines (list_code calls here exit (is_guarded declared way guarded) rest cs.made)

  -- the arms of a switch, the first with this number
  pub arms_code : Calls → Instance → (exit : ℕ) → (site : ℕ) → (chosen fallen : Atom) → ℕ → Arms → Made → Steps
  arms_code calls here exit site chosen fallen k no_arm made = record { lines = NoLine; made = made }
  arms_code calls here exit site chosen fallen k (arm labels other body rest) made =
      let ce = entry_code chosen fallen k made in
      let cb = in_order (list_code calls here exit false body ce.made) in
      let ca = around_arm site exit (way_out_of_all true true body) ce cb in
      let cr = arms_code calls here exit site chosen ca.value.atom (k + 1) rest ca.made in
      record { lines = joined_to ca.lines cr.lines; made = cr.made }

-- an arm, with whether the next one is fallen into
abbrev pub arm_code : Calls → Instance → (exit : ℕ) → (site : ℕ) → (chosen fallen : Atom) → ℕ → Statements → Made → Code
arm_code calls here exit site chosen fallen k body made =
    let ce = entry_code chosen fallen k made in
    around_arm site exit (way_out_of_all true true body) ce (in_order (list_code calls here exit false body ce.made))

-- a switch behind its value
abbrev pub cases_code : Calls → Instance → (exit : ℕ) → (site : ℕ) → Value → Arms → Made → Steps
cases_code calls here exit site value arms made =
    let co = opened (way_out_of_arms true true arms) exit made in
    let cs = selected site value arms co.made in
    let ca = arms_code calls here co.exit site cs.value.atom (int (pos 0)) 0 arms cs.made in
    let cw = outward (way_out_of_arms false true arms) co.exit exit ca.made in
    record { lines = joined_to co.lines (joined_to cs.lines (joined_to ca.lines cw.lines)); made = cw.made }

-- ---- functions

-- the cell of a result, 0 at first; a function without one gives 0
abbrev pub result_code : Option IntType → Made → Code
result_code None made = given (constant (pos 0) Int) made
result_code (Some of) made = record {
  lines = set_to (next_cell made) (constant (pos 0) of).atom;
  value = record { atom = CellAtom (next_cell made); of = of };
  made = with_cell made OfValue of;
}

-- the body of a function, with what a call of it gives
abbrev pub body_code : Calls → Instance → Function → Made → Code
body_code calls here f made =
    let cr = result_code f.result made in
    let co = opened (way_out_of_all true true f.body) 0 cr.made in
    let cb = in_order (list_code calls here co.exit false f.body co.made) in
    record { lines = joined_to cr.lines (joined_to co.lines cb.lines); value = cr.value; made = cb.made }
