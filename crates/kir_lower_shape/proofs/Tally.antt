-- How many loads, stores and barriers the code of a text has: as many as the text.
use Rattle.std.proofs.Common.{◌≡◌, ℕ, suc, ◌+◌, ◌*◌, pos, List, [], ◌∷◌, ◌++◌, length, Option, Some, None, refl, sym}
use Rattle.std.proofs.Common.{ap, ◌∙◌, arith, true, false}
use Rattle.std.proofs.Common.{Bool as Test}
use Rattle.std.specs.Prelude.{◌&&◌}
use Rattle.wg_num.specs.declared.types.IntType.{IntType}
use Rattle.cl_model.specs.declared.program.Root.{Root}
use Rattle.cl_model.specs.Tree as tree
use Rattle.cl_model.specs.Tree.{Action, Expression, Apply, Update, Choose, Call, Expressions, none, more, Statement}
use Rattle.cl_model.specs.Tree.{Do, Declare, Fill, Block, If, Loop, Switch, Break, Continue, Return, Barrier}
use Rattle.cl_model.specs.Tree.{Statements, empty, also, Arms, no_arm, arm, Function}
use Rattle.cl_model.specs.Calls.{CallSite, calls_in, calls_among, calls_in_optional, calls_of, calls_of_all}
use Rattle.cl_model.specs.Calls.{calls_of_arms}
use Rattle.cl_model.specs.Valid.{number_of_values}
use Rattle.kir.specs.declared.line.Atom.{Atom}
use Rattle.kir.specs.Tree.{Lines, NoLine, SetThen, LoadThen, StoreThen, ClearThen, IfThen, LoopThen, BarrierThen}
use Rattle.kir.specs.Tree.{joined_to, OfValue}
use Rattle.kir.specs.Counts.{Counting, count_in, count_among, count_in_optional, count_of, count_of_all, count_of_arms}
use Rattle.kir_lower.specs.declared.places.Value.{Value}
use Rattle.kir_lower.specs.Made.{Made, next_cell, with_cell, Instance, int, element_at, root_in, argument_roots}
use Rattle.kir_lower.specs.Ways.{way_out, way_out_of_all, way_out_of_arms, declares}
use Rattle.kir_lower.specs.Actions.{loaded, stored, changed, choice_code, set_to, action_code, initial_lines, opened}
use Rattle.kir_lower.specs.Actions.{guarded_before, settled, outward, round_code, label_code, labels_code}
use Rattle.kir_lower.specs.Actions.{all_labels_code, selected, fallen_code}
use Rattle.kir_lower.specs.Code.{Calls, expression_code, operands_code, optional_code, Guarded, is_guarded}
use Rattle.kir_lower.specs.Code.{before_rest, in_order, entry_code, around_arm, statement_code, list_code, arms_code}
use Rattle.kir_lower.specs.Code.{result_code, body_code, set_exit}

-- what is counted of a load, a store and a barrier with a site
pub record Weight : Type 0 where
  pub load : ℕ → ℕ
  pub store : ℕ → ℕ
  pub barrier : ℕ → ℕ

-- what lines weigh
abbrev pub tally : Weight → Lines → ℕ
tally w NoLine = 0
tally w (SetThen to work rest) = tally w rest
tally w (LoadThen site to element root index rest) = w.load site + tally w rest
tally w (StoreThen site element root index from rest) = w.store site + tally w rest
tally w (ClearThen array rest) = tally w rest
tally w (IfThen site test chosen other rest) = tally w chosen + (tally w other + tally w rest)
tally w (LoopThen site test_first test answer body rest) = tally w test + (tally w body + tally w rest)
tally w (BarrierThen site rest) = w.barrier site + tally w rest

-- what an action weighs
abbrev pub action_tally : Weight → Action → ℕ
action_tally w (tree.Load site element root) = w.load site
action_tally w (tree.Store site element root) = w.store site
action_tally w (tree.Literal value of) = 0
action_tally w (tree.Variable x) = 0
action_tally w (tree.Unary op of) = 0
action_tally w (tree.Binary op of) = 0
action_tally w (tree.Builtin g of) = 0
action_tally w (tree.Convert to) = 0
action_tally w (tree.Ask what) = 0
action_tally w tree.Second = 0
action_tally w tree.Truth = 0
action_tally w (tree.Decided answer) = 0
action_tally w (tree.Set x) = 0
action_tally w (tree.Change x op of back old) = 0

-- the text is counted as lines are weighed
pub record CountsAs (w : Weight) (what : Counting) : Type 0 where
  pub action : (a : Action) → what.action a ≡ action_tally w a
  pub update : (site : ℕ) → what.update site ≡ w.load site + w.store site
  pub fill : (site n : ℕ) → what.fill site n ≡ n * w.store site
  pub barrier : (site : ℕ) → what.barrier site ≡ w.barrier site

pub tally_joined : (w : Weight) (a b : Lines) → tally w (joined_to a b) ≡ tally w a + tally w b
tally_joined w NoLine b = omega arith
tally_joined w (SetThen to work rest) b = tally_joined w rest b
tally_joined w (LoadThen site to element root index rest) b = let p = tally_joined w rest b in omega arith
tally_joined w (StoreThen site element root index from rest) b = let p = tally_joined w rest b in omega arith
tally_joined w (ClearThen array rest) b = tally_joined w rest b
tally_joined w (IfThen site test chosen other rest) b = let p = tally_joined w rest b in omega arith
tally_joined w (LoopThen site test_first test answer body rest) b = let p = tally_joined w rest b in omega arith
tally_joined w (BarrierThen site rest) b = let p = tally_joined w rest b in omega arith

-- what calls weigh
abbrev pub calls_tally : (ℕ → ℕ) → List CallSite → ℕ
calls_tally called [] = 0
calls_tally called (c ∷ calls) = called c.function + calls_tally called calls

pub calls_tally_append : (called : ℕ → ℕ) (xs ys : List CallSite) →
    calls_tally called (xs ++ ys) ≡ calls_tally called xs + calls_tally called ys
calls_tally_append called [] ys = omega arith
calls_tally_append called (c ∷ xs) ys = let p = calls_tally_append called xs ys in omega arith

module _ (w : Weight) (what : Counting) (counts : CountsAs w what) where
  action_weighs : (here : Instance) (a : Action) (values : List Value) (m : Made) →
      tally w (action_code here a values m).lines ≡ what.action a
  action_weighs here (tree.Load site element root) values m = let p =
      counts.action (tree.Load site element root) in omega arith
  action_weighs here (tree.Store site element root) values m = let p =
      counts.action (tree.Store site element root) in omega arith
  action_weighs here (tree.Literal value of) values m = sym (counts.action (tree.Literal value of))
  action_weighs here (tree.Variable x) values m = sym (counts.action (tree.Variable x))
  action_weighs here (tree.Unary op of) values m = sym (counts.action (tree.Unary op of))
  action_weighs here (tree.Binary op of) values m = sym (counts.action (tree.Binary op of))
  action_weighs here (tree.Builtin g of) values m = sym (counts.action (tree.Builtin g of))
  action_weighs here (tree.Convert to) values m = sym (counts.action (tree.Convert to))
  action_weighs here (tree.Ask what_) values m = sym (counts.action (tree.Ask what_))
  action_weighs here tree.Second values m = sym (counts.action tree.Second)
  action_weighs here tree.Truth values m = sym (counts.action tree.Truth)
  action_weighs here (tree.Decided answer) values m = sym (counts.action (tree.Decided answer))
  action_weighs here (tree.Set x) values m = sym (counts.action (tree.Set x))
  action_weighs here (tree.Change x op of back old) values m = sym (counts.action (tree.Change x op of back old))

  initial_weighs : (site : ℕ) (element : IntType) (array k : ℕ) (values : List Value) (n : ℕ) → n ≡ length values →
      tally w (initial_lines site element array k values) ≡ n * w.store site
  initial_weighs site element array k [] n e =
      let s = w.store site in
      let z : 0 ≡ 0 * s = omega arith in
      z ∙ sym (ap (λ z. z * w.store site) e)
  initial_weighs site element array k (v ∷ values) n e =
      let p = initial_weighs site element array (k + 1) values (length values) refl in
      ap (λ z. w.store site + z) p ∙ sym (ap (λ z. z * w.store site) e ∙ one_more (length values) (w.store site))
    where
      one_more : (a b : ℕ) → suc a * b ≡ b + a * b
      one_more a b = grind arith

  opened_weighs : (way : Option ℕ) (exit : ℕ) (m : Made) → tally w (opened way exit m).lines ≡ 0
  opened_weighs None exit m = refl
  opened_weighs (Some site) exit m = refl

  outward_weighs : (way : Option ℕ) (exit outer : ℕ) (m : Made) → tally w (outward way exit outer m).lines ≡ 0
  outward_weighs None exit outer m = refl
  outward_weighs (Some site) exit outer m = refl

  guarded_weighs : (site exit : ℕ) (inside rest : Lines) →
      tally w (guarded_before site exit inside rest) ≡ tally w inside + tally w rest
  guarded_weighs site exit NoLine rest = omega arith
  guarded_weighs site exit (SetThen to work more_) rest = omega arith
  guarded_weighs site exit (LoadThen at to element root index more_) rest = omega arith
  guarded_weighs site exit (StoreThen at element root index from more_) rest = omega arith
  guarded_weighs site exit (ClearThen array more_) rest = omega arith
  guarded_weighs site exit (IfThen at test chosen other more_) rest = omega arith
  guarded_weighs site exit (LoopThen at test_first test answer body more_) rest = omega arith
  guarded_weighs site exit (BarrierThen at more_) rest = omega arith

  round_weighs : (site : ℕ) (first : Test) (way : Option ℕ) (exit : ℕ) (test : Lines) (answer : Value)
      (step body : Lines) (m : Made)
      → tally w (round_code site first way exit test answer step body m).lines ≡ tally w test +
      (tally w body + tally w step)
  round_weighs site first None exit test answer step body m = let p = tally_joined w body step in omega arith
  round_weighs site first (Some way) exit test answer step body m =
      let guard = guarded_before way exit step NoLine in
      let inner = joined_to (settled way exit (with_cell m OfValue answer.of)).lines guard in
      let p = tally_joined w test (set_to (next_cell m) answer.atom) in
      let q = tally_joined w body inner in
      let r = guarded_weighs way exit step NoLine in
      omega arith

  labels_weigh : (site : ℕ) (v : Value) (chosen k : ℕ) (labels : List _) (m : Made) →
      tally w (labels_code site v chosen k labels m).lines ≡ 0
  labels_weigh site v chosen k [] m = refl
  labels_weigh site v chosen k (label ∷ labels) m = let p =
      labels_weigh site v chosen k labels (label_code site v chosen k label m).made in omega arith

  all_labels_weigh : (site : ℕ) (v : Value) (chosen k : ℕ) (arms : Arms) (m : Made) →
      tally w (all_labels_code site v chosen k arms m).lines ≡ 0
  all_labels_weigh site v chosen k no_arm m = refl
  all_labels_weigh site v chosen k (arm labels other body rest) m =
      let cl = labels_code site v chosen k labels m in
      let cr = all_labels_code site v chosen (k + 1) rest cl.made in
      let j = tally_joined w cl.lines cr.lines in
      let p = labels_weigh site v chosen k labels m in
      let q = all_labels_weigh site v chosen (k + 1) rest cl.made in
      omega arith

  selected_weighs : (site : ℕ) (v : Value) (arms : Arms) (m : Made) → tally w (selected site v arms m).lines ≡ 0
  selected_weighs site v arms m = all_labels_weigh site _ _ 0 arms _

  result_weighs : (result : Option IntType) (m : Made) → tally w (result_code result m).lines ≡ 0
  result_weighs None m = refl
  result_weighs (Some of) m = refl

  fallen_weighs : (way : Option ℕ) (exit : ℕ) (entered : Value) (m : Made) →
      tally w (fallen_code way exit entered m).lines ≡ 0
  fallen_weighs None exit entered m = refl
  fallen_weighs (Some site) exit entered m = refl

  before_rest_weighs : (exit : ℕ) (declared : Test) (way : Option ℕ) (lines : Lines) (g : Guarded)
      → tally w (in_order (before_rest exit declared way lines g)).lines ≡ tally w lines + tally w (in_order g).lines
  before_rest_weighs exit true way lines g =
      let all = joined_to lines (joined_to g.inside g.rest) in
      let p = tally_joined w all NoLine in let q = tally_joined w lines (joined_to g.inside g.rest) in omega arith
  before_rest_weighs exit false None lines g =
      let p = tally_joined w (joined_to lines g.inside) g.rest in let q = tally_joined w lines g.inside in let r =
      tally_joined w g.inside g.rest in omega arith
  before_rest_weighs exit false (Some site) lines g =
      let p = tally_joined w lines (guarded_before site exit g.inside g.rest) in let q =
      guarded_weighs site exit g.inside g.rest in let r = tally_joined w g.inside g.rest in omega arith

  module _ (calls : Calls) (called : ℕ → ℕ)
      (call : (here : Instance) (site function : ℕ) (roots : List Root) (values : List Value) (m : Made) →
      tally w (calls here site function roots values m).lines ≡ called function) (here : Instance) where
    mutual
      unfolding expression_code

      pub expression_weighs : (e : Expression) (m : Made) →
          tally w (expression_code calls here e m).lines ≡ count_in what e + calls_tally called (calls_in e)
      expression_weighs (Apply action operands) m =
          let co = operands_code calls here operands m in
          let p = operands_weigh operands m in
          let a = action_weighs here action co.values co.made in
          let j = tally_joined w co.lines (action_code here action co.values co.made).lines in
          omega arith
      expression_weighs (Update site element root op of back old index value) m =
          let ci = expression_code calls here index m in
          let ml = with_cell ci.made OfValue element in
          let cv = expression_code calls here value ml in
          let p = expression_weighs index m in
          let q = expression_weighs value ml in
          let u = counts.update site in
          let a = calls_tally_append called (calls_in index) (calls_in value) in
          let cl = loaded site element (root_in here root) ci.value.atom ci.made in
          let cc = changed op of back cl.value.atom cv.value.atom cv.made in
          let last = stored site element (root_in here root) ci.value.atom cc.value.atom in
          let j = tally_joined w ci.lines (joined_to cl.lines (joined_to cv.lines (joined_to cc.lines last))) in
          let k = tally_joined w cv.lines (joined_to cc.lines last) in
          omega arith
      expression_weighs (Choose site test chosen other) m =
          let ct = expression_code calls here test m in
          let cy = expression_code calls here chosen ct.made in
          let cn = expression_code calls here other cy.made in
          let p = expression_weighs test m in
          let q = expression_weighs chosen ct.made in
          let r = expression_weighs other cy.made in
          let a = calls_tally_append called (calls_in test) (calls_in chosen ++ calls_in other) in
          let b = calls_tally_append called (calls_in chosen) (calls_in other) in
          let j = tally_joined w ct.lines (choice_code site ct.value.atom cy.lines cy.value cn.lines cn.value
          cn.made).lines in
          let k = tally_joined w cy.lines (set_to (next_cell cn.made) cy.value.atom) in
          let l = tally_joined w cn.lines (set_to (next_cell cn.made) cn.value.atom) in
          omega arith
      expression_weighs (Call site function roots arguments) m =
          let ca = operands_code calls here arguments m in
          let p = operands_weigh arguments m in
          let q = call here site function (argument_roots here roots) ca.values ca.made in
          let j =
          tally_joined w ca.lines (calls here site function (argument_roots here roots) ca.values ca.made).lines in
          let a =
          calls_tally_append called (calls_among arguments) (record { site = site; function = function } ∷ []) in
          omega arith

      pub operands_weigh : (list : Expressions) (m : Made) → tally w (operands_code calls here list m).lines ≡
          count_among what list + calls_tally called (calls_among list)
      operands_weigh none m = refl
      operands_weigh (more e rest) m =
          let ce = expression_code calls here e m in
          let cr = operands_code calls here rest ce.made in
          let p = expression_weighs e m in
          let q = operands_weigh rest ce.made in
          let j = tally_joined w ce.lines cr.lines in
          let a = calls_tally_append called (calls_in e) (calls_among rest) in
          omega arith

    optional_weighs : (e : Option Expression) (m : Made) →
        tally w (optional_code calls here e m).lines ≡ count_in_optional what e +
        calls_tally called (calls_in_optional e)
    optional_weighs None m = refl
    optional_weighs (Some e) m = expression_weighs e m

    value_count : (list : Expressions) (m : Made) →
        length (operands_code calls here list m).values ≡ number_of_values list
    unfolding expression_code
    value_count none m = refl
    value_count (more e rest) m = ap suc (value_count rest (expression_code calls here e m).made)

    mutual
      unfolding statement_code

      pub statement_weighs : (exit : ℕ) (s : Statement) (m : Made) →
          tally w (statement_code calls here exit s m).lines ≡ count_of what s + calls_tally called (calls_of s)
      statement_weighs exit (Do e) m = expression_weighs e m
      statement_weighs exit (Declare x None) m = refl
      statement_weighs exit (Declare x (Some e)) m =
          let ce = expression_code calls here e m in
          let p = expression_weighs e m in
          let j = tally_joined w ce.lines (set_to (here.base + x) ce.value.atom) in
          omega arith
      statement_weighs exit (Fill site array values) m =
          let cv = operands_code calls here values m in
          let number = here.arrays + array in
          let n = number_of_values values in
          let p = operands_weigh values m in
          let q = initial_weighs site (element_at here array) number 0 cv.values n (sym (value_count values m)) in
          let u = counts.fill site n in
          let j = tally_joined w cv.lines
          (ClearThen number (initial_lines site (element_at here array) number 0 cv.values)) in
          j ∙ ap (λ z. tally w cv.lines + z) (q ∙ sym u) ∙ ap (λ z. z + what.fill site n) p ∙
          turned (what.fill site n) (count_among what values) (calls_tally called (calls_among values))
        where
          turned : (a b c : ℕ) → (b + c) + a ≡ (a + b) + c
          turned a b c = omega arith
      statement_weighs exit (Block list) m = list_weighs exit false list m
      statement_weighs exit (If site test chosen other) m =
          let ct = expression_code calls here test m in
          let cy = in_order (list_code calls here exit false chosen ct.made) in
          let cn = in_order (list_code calls here exit false other cy.made) in
          let p = expression_weighs test m in
          let q = list_weighs exit false chosen ct.made in
          let r = list_weighs exit false other cy.made in
          let j = tally_joined w ct.lines (IfThen site ct.value.atom cy.lines cn.lines NoLine) in
          let a = calls_tally_append called (calls_in test) (calls_of_all chosen ++ calls_of_all other) in
          let b = calls_tally_append called (calls_of_all chosen) (calls_of_all other) in
          omega arith
      statement_weighs exit (Loop site first test step body) m =
          let way = way_out true true body in
          let co = opened way exit m in
          let ct = optional_code calls here test co.made in
          let cs = optional_code calls here step ct.made in
          let cb = statement_code calls here co.exit body cs.made in
          let cr = round_code site first way co.exit ct.lines ct.value cs.lines cb.lines cb.made in
          let cw = outward (way_out false false body) co.exit exit cr.made in
          let p = optional_weighs test co.made in
          let q = optional_weighs step ct.made in
          let r = statement_weighs co.exit body cs.made in
          let o = opened_weighs way exit m in
          let d = round_weighs site first way co.exit ct.lines ct.value cs.lines cb.lines cb.made in
          let u = outward_weighs (way_out false false body) co.exit exit cr.made in
          let j = tally_joined w co.lines (joined_to cr.lines cw.lines) in
          let k = tally_joined w cr.lines cw.lines in
          let a = calls_tally_append called (calls_in_optional test) (calls_in_optional step ++ calls_of body) in
          let b = calls_tally_append called (calls_in_optional step) (calls_of body) in
          omega arith
      statement_weighs exit (Switch site value arms) m =
          let cv = expression_code calls here value m in
          let co = opened (way_out_of_arms true true arms) exit cv.made in
          let cs = selected site cv.value arms co.made in
          let ca = arms_code calls here co.exit site cs.value.atom (int (pos 0)) 0 arms cs.made in
          let cw = outward (way_out_of_arms false true arms) co.exit exit ca.made in
          let p = expression_weighs value m in
          let o = opened_weighs (way_out_of_arms true true arms) exit cv.made in
          let d = selected_weighs site cv.value arms co.made in
          let q = arms_weigh co.exit site cs.value.atom (int (pos 0)) 0 arms cs.made in
          let u = outward_weighs (way_out_of_arms false true arms) co.exit exit ca.made in
          let j = tally_joined w cv.lines (joined_to co.lines (joined_to cs.lines (joined_to ca.lines cw.lines))) in
          let k = tally_joined w co.lines (joined_to cs.lines (joined_to ca.lines cw.lines)) in
          let l = tally_joined w cs.lines (joined_to ca.lines cw.lines) in
          let n = tally_joined w ca.lines cw.lines in
          let a = calls_tally_append called (calls_in value) (calls_of_arms arms) in
          omega arith
      statement_weighs exit (Break site) m = refl
      statement_weighs exit (Continue site) m = refl
      statement_weighs exit (Return site None) m = refl
      statement_weighs exit (Return site (Some e)) m =
          let ce = expression_code calls here e m in
          let p = expression_weighs e m in
          let j = tally_joined w ce.lines (joined_to (set_to here.answer ce.value.atom) (set_exit exit 3)) in
          omega arith
      statement_weighs exit (Barrier site) m = let u = counts.barrier site in omega arith

      pub list_weighs : (exit : ℕ) (guarded : Test) (list : Statements) (m : Made) →
          tally w (in_order (list_code calls here exit guarded list m)).lines ≡ count_of_all what list +
          calls_tally called (calls_of_all list)
      list_weighs exit guarded empty m = refl
      list_weighs exit guarded (also s rest) m =
          let declared = guarded && declares s in
          let way = way_out true true s in
          let cs = statement_code calls here exit s m in
          let cr = list_code calls here exit (is_guarded declared way guarded) rest cs.made in
          let p = statement_weighs exit s m in
          let q = list_weighs exit (is_guarded declared way guarded) rest cs.made in
          let j = before_rest_weighs exit declared way cs.lines cr in
          let a = calls_tally_append called (calls_of s) (calls_of_all rest) in
          j ∙ ap (λ z. z + tally w (in_order cr).lines) p ∙
          ap (λ z. (count_of what s + calls_tally called (calls_of s)) + z) q
          ∙ grouped (count_of what s) (calls_tally called (calls_of s)) (count_of_all what rest)
          (calls_tally called (calls_of_all rest)) ∙
          ap (λ z. (count_of what s + count_of_all what rest) + z) (sym a)
        where
          grouped : (a b c d : ℕ) → (a + b) + (c + d) ≡ (a + c) + (b + d)
          grouped a b c d = omega arith

      pub arms_weigh : (exit site : ℕ) (chosen fallen : Atom) (k : ℕ) (arms : Arms) (m : Made) →
          tally w (arms_code calls here exit site chosen fallen k arms m).lines ≡ count_of_arms what arms +
          calls_tally called (calls_of_arms arms)
      arms_weigh exit site chosen fallen k no_arm m = refl
      arms_weigh exit site chosen fallen k (arm labels other body rest) m =
          let ce = entry_code chosen fallen k m in
          let cb = in_order (list_code calls here exit false body ce.made) in
          let way = way_out_of_all true true body in
          let ca = around_arm site exit way ce cb in
          let cf = fallen_code way exit ce.value cb.made in
          let cr = arms_code calls here exit site chosen ca.value.atom (k + 1) rest ca.made in
          let p = list_weighs exit false body ce.made in
          let f = fallen_weighs way exit ce.value cb.made in
          let q = arms_weigh exit site chosen ca.value.atom (k + 1) rest ca.made in
          let j = tally_joined w ca.lines cr.lines in
          let a = calls_tally_append called (calls_of_all body) (calls_of_arms rest) in
          omega arith

    pub body_weighs : (f : Function) (m : Made) →
        tally w (body_code calls here f m).lines ≡ count_of_all what f.body + calls_tally called (calls_of_all f.body)
    body_weighs f m =
        let cr = result_code f.result m in
        let way = way_out_of_all true true f.body in
        let co = opened way 0 cr.made in
        let cb = in_order (list_code calls here co.exit false f.body co.made) in
        let p = list_weighs co.exit false f.body co.made in
        let r = result_weighs f.result m in
        let o = opened_weighs way 0 cr.made in
        let j = tally_joined w cr.lines (joined_to co.lines cb.lines) in
        let k = tally_joined w co.lines cb.lines in
        omega arith
