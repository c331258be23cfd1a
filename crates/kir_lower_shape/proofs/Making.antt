-- What is made by the code of expressions and statements: a relation that holds of each step holds of the whole,
-- along the calls of the text.
use Rattle.std.proofs.Common.{ℕ, ◌+◌, ℤ, pos, List, [], ◌∷◌, ◌++◌, Option, Some, None, true, false, subst, append-nil}
use Rattle.std.proofs.Common.{Bool as Test}
use Rattle.std.specs.Prelude.{◌&&◌}
use Rattle.wg_num.specs.declared.types.IntType.{IntType}
use Rattle.cl_model.specs.declared.program.Root.{Root}
use Rattle.cl_model.specs.Tree as tree
use Rattle.cl_model.specs.Tree.{Action, Expression, Apply, Update, Choose, Call, Expressions, none, more, Statement}
use Rattle.cl_model.specs.Tree.{Do, Declare, Fill, Block, If, Loop, Switch, Break, Continue, Return, Barrier}
use Rattle.cl_model.specs.Tree.{Statements, empty, also, Arms, no_arm, arm, Function}
use Rattle.cl_model.specs.Calls.{CallSite, calls_in, calls_among, calls_in_optional, calls_of, calls_of_all}
use Rattle.cl_model.specs.Calls.{calls_of_arms}
use Rattle.kir.specs.declared.line.Atom.{Atom}
use Rattle.kir.specs.Tree.{Lines, OfFlag, OfValue}
use Rattle.kir_lower.specs.declared.places.Value.{Value}
use Rattle.kir_lower.specs.Made.{Made, with_cell, Instance, int}
use Rattle.kir_lower.specs.Ways.{way_out, way_out_of_all, way_out_of_arms, declares}
use Rattle.kir_lower.specs.Actions.{action_code, opened, outward, round_code, label_code, labels_code}
use Rattle.kir_lower.specs.Actions.{all_labels_code, selected, fallen_code}
use Rattle.kir_lower.specs.Code.{Calls, expression_code, operands_code, optional_code, Guarded, is_guarded}
use Rattle.kir_lower.specs.Code.{before_rest, in_order, entry_code, around_arm, statement_code, list_code, arms_code}
use Rattle.kir_lower.specs.Code.{result_code, body_code}

-- a call at a site
abbrev pub call_of : ℕ → ℕ → CallSite
call_of site function = record { site = site; function = function }

module _ (P : List CallSite → Made → Made → Type 0)
    (same : (m : Made) → P [] m m)
    (before : (xs ys : List CallSite) (a b c : Made) → P xs a b → P ys b c → P (xs ++ ys) a c)
    (value : (m : Made) (of : IntType) → P [] m (with_cell m OfValue of))
    (flag : (m : Made) (of : IntType) → P [] m (with_cell m OfFlag of)) where
  -- a step of no call behind others
  step : (xs : List CallSite) (a b c : Made) → P xs a b → P [] b c → P xs a c
  step xs a b c h k = subst (λ zs. P zs a c) (append-nil xs) (before xs [] a b c h k)

  two : (m : Made) (s t : IntType) → P [] m (with_cell (with_cell m OfValue s) OfValue t)
  two m s t = step [] m (with_cell m OfValue s) _ (value m s) (value (with_cell m OfValue s) t)

  three : (m : Made) (s t u : IntType) → P [] m (with_cell (with_cell (with_cell m OfValue s) OfValue t) OfValue u)
  three m s t u = step [] m (with_cell (with_cell m OfValue s) OfValue t) _ (two m s t)
      (value (with_cell (with_cell m OfValue s) OfValue t) u)

  -- the step of an action
  pub action_makes : (here : Instance) (action : Action) (values : List Value) (m : Made) →
      P [] m (action_code here action values m).made
  action_makes here (tree.Literal v of) values m = same m
  action_makes here (tree.Variable x) values m = value m _
  action_makes here (tree.Unary op of) values m = value m _
  action_makes here (tree.Binary op of) values m = value m _
  action_makes here (tree.Builtin f of) values m = value m _
  action_makes here (tree.Convert to) values m = value m _
  action_makes here (tree.Ask what) values m = value m _
  action_makes here tree.Second values m = same m
  action_makes here tree.Truth values m = value m _
  action_makes here (tree.Decided answer) values m = same m
  action_makes here (tree.Set x) values m = same m
  action_makes here (tree.Change x op of back old) values m = three m _ _ _
  action_makes here (tree.Load site element root) values m = value m _
  action_makes here (tree.Store site element root) values m = same m

  pub opened_makes : (way : Option ℕ) (exit : ℕ) (m : Made) → P [] m (opened way exit m).made
  opened_makes None exit m = same m
  opened_makes (Some site) exit m = flag m _

  pub outward_makes : (way : Option ℕ) (exit outer : ℕ) (m : Made) → P [] m (outward way exit outer m).made
  outward_makes None exit outer m = same m
  outward_makes (Some site) exit outer m = value m _

  pub round_makes : (site : ℕ) (first : Test) (way : Option ℕ) (exit : ℕ) (test : Lines) (answer : Value)
      (step_lines body : Lines) (m : Made) → P [] m (round_code site first way exit test answer step_lines body m).made
  round_makes site first None exit test answer step_lines body m = same m
  round_makes site first (Some way) exit test answer step_lines body m = two m _ _

  labels_make : (site : ℕ) (v : Value) (chosen k : ℕ) (labels : List ℤ) (m : Made) →
      P [] m (labels_code site v chosen k labels m).made
  labels_make site v chosen k [] m = same m
  labels_make site v chosen k (label ∷ labels) m =
      step [] m (label_code site v chosen k label m).made _ (value m _)
      (labels_make site v chosen k labels (label_code site v chosen k label m).made)

  all_labels_make : (site : ℕ) (v : Value) (chosen k : ℕ) (arms : Arms) (m : Made) →
      P [] m (all_labels_code site v chosen k arms m).made
  all_labels_make site v chosen k no_arm m = same m
  all_labels_make site v chosen k (arm labels other body rest) m =
      step [] m (labels_code site v chosen k labels m).made _ (labels_make site v chosen k labels m)
      (all_labels_make site v chosen (k + 1) rest (labels_code site v chosen k labels m).made)

  pub selected_makes : (site : ℕ) (v : Value) (arms : Arms) (m : Made) → P [] m (selected site v arms m).made
  selected_makes site v arms m = step [] m _ _ (two m _ _) (all_labels_make site _ _ 0 arms _)

  pub entry_makes : (chosen fallen : Atom) (k : ℕ) (m : Made) → P [] m (entry_code chosen fallen k m).made
  entry_makes chosen fallen k m = two m _ _

  pub fallen_makes : (way : Option ℕ) (exit : ℕ) (entered : Value) (m : Made) →
      P [] m (fallen_code way exit entered m).made
  fallen_makes None exit entered m = same m
  fallen_makes (Some site) exit entered m = two m _ _

  pub result_makes : (result : Option IntType) (m : Made) → P [] m (result_code result m).made
  result_makes None m = same m
  result_makes (Some of) m = value m of

  before_rest_made : (exit : ℕ) (declared : Test) (way : Option ℕ) (lines : Lines) (c : Guarded) (xs : List CallSite)
      (a : Made) → P xs a c.made → P xs a (before_rest exit declared way lines c).made
  before_rest_made exit true way lines c xs a h = h
  before_rest_made exit false None lines c xs a h = h
  before_rest_made exit false (Some site) lines c xs a h = h

  module _ (calls : Calls) (here : Instance)
      (call : (site function : ℕ) (roots : List Root) (values : List Value) (m : Made) →
      P (call_of site function ∷ []) m (calls here site function roots values m).made) where
    mutual
      unfolding expression_code

      pub expression_makes : (e : Expression) (m : Made) → P (calls_in e) m (expression_code calls here e m).made
      expression_makes (Apply action operands) m =
          let co = operands_code calls here operands m in
          step (calls_among operands) m co.made _ (operands_make operands m)
          (action_makes here action co.values co.made)
      expression_makes (Update site element root op of back old index v) m =
          let ci = expression_code calls here index m in
          let ml = with_cell ci.made OfValue element in
          let cv = expression_code calls here v ml in
          step (calls_in index ++ calls_in v) m cv.made _
          (before (calls_in index) (calls_in v) m ml cv.made
          (step (calls_in index) m ci.made ml (expression_makes index m) (value ci.made element))
          (expression_makes v ml))
          (three cv.made _ _ _)
      expression_makes (Choose site test chosen other) m =
          let ct = expression_code calls here test m in
          let cy = expression_code calls here chosen ct.made in
          let cn = expression_code calls here other cy.made in
          before (calls_in test) (calls_in chosen ++ calls_in other) m ct.made _ (expression_makes test m)
          (before (calls_in chosen) (calls_in other) ct.made cy.made _ (expression_makes chosen ct.made)
          (step (calls_in other) cy.made cn.made _ (expression_makes other cy.made) (value cn.made _)))
      expression_makes (Call site function roots arguments) m =
          let ca = operands_code calls here arguments m in
          before (calls_among arguments) (call_of site function ∷ []) m ca.made _ (operands_make arguments m)
          (call site function _ ca.values ca.made)

      pub operands_make : (list : Expressions) (m : Made) →
          P (calls_among list) m (operands_code calls here list m).made
      operands_make none m = same m
      operands_make (more e rest) m =
          let ce = expression_code calls here e m in
          before (calls_in e) (calls_among rest) m ce.made _ (expression_makes e m) (operands_make rest ce.made)

    pub optional_makes : (e : Option Expression) (m : Made) →
        P (calls_in_optional e) m (optional_code calls here e m).made
    optional_makes None m = same m
    optional_makes (Some e) m = expression_makes e m

    mutual
      unfolding statement_code

      pub statement_makes : (exit : ℕ) (s : Statement) (m : Made) →
          P (calls_of s) m (statement_code calls here exit s m).made
      statement_makes exit (Do e) m = expression_makes e m
      statement_makes exit (Declare x None) m = same m
      statement_makes exit (Declare x (Some e)) m = expression_makes e m
      statement_makes exit (Fill site array values) m = operands_make values m
      statement_makes exit (Block list) m = list_makes exit false list m
      statement_makes exit (If site test chosen other) m =
          let ct = expression_code calls here test m in
          let cy = list_code calls here exit false chosen ct.made in
          before (calls_in test) (calls_of_all chosen ++ calls_of_all other) m ct.made _ (expression_makes test m)
          (before (calls_of_all chosen) (calls_of_all other) ct.made cy.made _ (list_makes exit false chosen ct.made)
          (list_makes exit false other cy.made))
      statement_makes exit (Loop site first test turn body) m =
          let way = way_out true true body in
          let co = opened way exit m in
          let ct = optional_code calls here test co.made in
          let cs = optional_code calls here turn ct.made in
          let cb = statement_code calls here co.exit body cs.made in
          let cr = round_code site first way co.exit ct.lines ct.value cs.lines cb.lines cb.made in
          before [] (calls_in_optional test ++ (calls_in_optional turn ++ calls_of body)) m co.made _
          (opened_makes way exit m)
          (before (calls_in_optional test) (calls_in_optional turn ++ calls_of body) co.made ct.made _
          (optional_makes test co.made)
          (before (calls_in_optional turn) (calls_of body) ct.made cs.made _ (optional_makes turn ct.made)
          (step (calls_of body) cs.made cr.made _
          (step (calls_of body) cs.made cb.made cr.made (statement_makes co.exit body cs.made)
          (round_makes site first way co.exit ct.lines ct.value cs.lines cb.lines cb.made))
          (outward_makes (way_out false false body) co.exit exit cr.made))))
      statement_makes exit (Switch site v arms) m =
          let cv = expression_code calls here v m in
          let co = opened (way_out_of_arms true true arms) exit cv.made in
          let cs = selected site cv.value arms co.made in
          let ca = arms_code calls here co.exit site cs.value.atom (int (pos 0)) 0 arms cs.made in
          before (calls_in v) (calls_of_arms arms) m cv.made _ (expression_makes v m)
          (before [] (calls_of_arms arms) cv.made cs.made _
          (step [] cv.made co.made cs.made (opened_makes (way_out_of_arms true true arms) exit cv.made)
          (selected_makes site cv.value arms co.made))
          (step (calls_of_arms arms) cs.made ca.made _ (arms_make co.exit site cs.value.atom (int (pos 0)) 0 arms
          cs.made) (outward_makes (way_out_of_arms false true arms) co.exit exit ca.made)))
      statement_makes exit (Break site) m = same m
      statement_makes exit (Continue site) m = same m
      statement_makes exit (Return site None) m = same m
      statement_makes exit (Return site (Some e)) m = expression_makes e m
      statement_makes exit (Barrier site) m = same m

      pub list_makes : (exit : ℕ) (guarded : Test) (list : Statements) (m : Made) →
          P (calls_of_all list) m (list_code calls here exit guarded list m).made
      list_makes exit guarded empty m = same m
      list_makes exit guarded (also s rest) m =
          let declared = guarded && declares s in
          let way = way_out true true s in
          let cs = statement_code calls here exit s m in
          before_rest_made exit declared way cs.lines (list_code calls here exit (is_guarded declared way guarded)
          rest cs.made) (calls_of s ++ calls_of_all rest) m
          (before (calls_of s) (calls_of_all rest) m cs.made _ (statement_makes exit s m)
          (list_makes exit (is_guarded declared way guarded) rest cs.made))

      pub arms_make : (exit site : ℕ) (chosen fallen : Atom) (k : ℕ) (arms : Arms) (m : Made) →
          P (calls_of_arms arms) m (arms_code calls here exit site chosen fallen k arms m).made
      arms_make exit site chosen fallen k no_arm m = same m
      arms_make exit site chosen fallen k (arm labels other body rest) m =
          let ce = entry_code chosen fallen k m in
          let cb = in_order (list_code calls here exit false body ce.made) in
          let ca = around_arm site exit (way_out_of_all true true body) ce cb in
          before (calls_of_all body) (calls_of_arms rest) m ca.made _
          (before [] (calls_of_all body) m ce.made _ (entry_makes chosen fallen k m)
          (step (calls_of_all body) ce.made cb.made ca.made (list_makes exit false body ce.made)
          (fallen_makes (way_out_of_all true true body) exit ce.value cb.made)))
          (arms_make exit site chosen ca.value.atom (k + 1) rest ca.made)

    pub body_makes : (f : Function) (m : Made) → P (calls_of_all f.body) m (body_code calls here f m).made
    body_makes f m =
        let cr = result_code f.result m in
        let co = opened (way_out_of_all true true f.body) 0 cr.made in
        before [] (calls_of_all f.body) m co.made _ (step [] m cr.made co.made (result_makes f.result m)
        (opened_makes (way_out_of_all true true f.body) 0 cr.made))
        (list_makes co.exit false f.body co.made)
