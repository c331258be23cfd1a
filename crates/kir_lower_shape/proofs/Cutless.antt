-- The code of a text that holds no barrier holds none.
use Rattle.std.proofs.Common.{◌≡◌, ℕ, zero, suc, ◌+◌, ℤ, pos, List, [], ◌∷◌, Option, Some, None, refl, ap, ◌∙◌, true}
use Rattle.std.proofs.Common.{false, if◌then◌else◌}
use Rattle.std.proofs.Common.{Bool as Test}
use Rattle.std.specs.Prelude.{◌&&◌, ◌||◌}
use Rattle.wg_num.specs.declared.types.IntType.{IntType}
use Rattle.cl_model.specs.declared.program.Root.{Root}
use Rattle.cl_model.specs.Tree as tree
use Rattle.cl_model.specs.Tree.{Action, Expression, Apply, Update, Choose, Call, Expressions, none, more, Statement}
use Rattle.cl_model.specs.Tree.{Do, Declare, Fill, Block, If, Loop, Switch, Break, Continue, Return, Barrier}
use Rattle.cl_model.specs.Tree.{Statements, empty, also, Arms, no_arm, arm, Program}
use Rattle.cl_model.specs.Calls.{function_at}
use Rattle.kir.specs.declared.line.Atom.{Atom}
use Rattle.kir.specs.declared.line.Atom.TheVariants.{Cell as CellAtom}
use Rattle.kir.specs.Tree.{Lines, NoLine, SetThen, LoadThen, StoreThen, ClearThen, IfThen, LoopThen, BarrierThen}
use Rattle.kir.specs.Tree.{joined_to, OfValue}
use Rattle.kir.specs.Cuts.{holds_barrier}
use Rattle.kir.specs.Inlined.{holds_in, holds_among, holds_in_optional, holds, some_holds, arms_hold, body_holds}
use Rattle.kir.specs.Lowering.{Named}
use Rattle.kir_lower.specs.declared.places.Value.{Value}
use Rattle.kir_lower.specs.Made.{Made, Instance, int, with_cell, next_cell, element_at}
use Rattle.kir_lower.specs.Ways.{way_out, way_out_of_all, way_out_of_arms, declares}
use Rattle.kir_lower.specs.Actions.{action_code, initial_lines, opened, is_none, guarded_before, settled, outward}
use Rattle.kir_lower.specs.Actions.{round_code, label_code, labels_code, all_labels_code, selected, fallen_code}
use Rattle.kir_lower.specs.Actions.{set_to}
use Rattle.kir_lower.specs.Code.{Calls, expression_code, operands_code, optional_code, Guarded, is_guarded}
use Rattle.kir_lower.specs.Code.{before_rest, in_order, entry_code, around_arm, statement_code, list_code, arms_code}
use Rattle.kir_lower.specs.Code.{result_code}
use Rattle.kir_lower.specs.Whole.{names_at, way_behind, instance_at, with_instance, parameter_lines, call_code}
use Rattle.kir_lower_shape.proofs.Quiet.{or_parts, or_false}

-- the lines hold no barrier
pub record Cutless (lines : Lines) : Type 0 where
  pub is : holds_barrier lines ≡ false

or_three : (a b c : Test) → (a || (b || c)) ≡ ((a || b) || c)
or_three true b c = refl
or_three false b c = refl

pub holds_joined : (a b : Lines) → holds_barrier (joined_to a b) ≡ (holds_barrier a || holds_barrier b)
holds_joined NoLine b = refl
holds_joined (SetThen to work rest) b = holds_joined rest b
holds_joined (LoadThen site to element root index rest) b = holds_joined rest b
holds_joined (StoreThen site element root index from rest) b = holds_joined rest b
holds_joined (ClearThen array rest) b = holds_joined rest b
holds_joined (IfThen site test chosen other rest) b =
    ap (λ z. holds_barrier chosen || (holds_barrier other || z)) (holds_joined rest b) ∙
    ap (λ z. holds_barrier chosen || z) (or_three (holds_barrier other) (holds_barrier rest) (holds_barrier b))
    ∙ or_three (holds_barrier chosen) (holds_barrier other || holds_barrier rest) (holds_barrier b)
holds_joined (LoopThen site test_first test answer body rest) b =
    ap (λ z. holds_barrier test || (holds_barrier body || z)) (holds_joined rest b) ∙
    ap (λ z. holds_barrier test || z) (or_three (holds_barrier body) (holds_barrier rest) (holds_barrier b))
    ∙ or_three (holds_barrier test) (holds_barrier body || holds_barrier rest) (holds_barrier b)
holds_joined (BarrierThen site rest) b = refl

pub cutless_then : (a b : Lines) → Cutless a → Cutless b → Cutless (joined_to a b)
cutless_then a b h k = record { is = holds_joined a b ∙ or_false (holds_barrier a) (holds_barrier b) h.is k.is }

cutless_if : (site : ℕ) (test : Atom) (chosen other rest : Lines) → Cutless chosen → Cutless other → Cutless rest →
    Cutless (IfThen site test chosen other rest)
cutless_if site test chosen other rest y n h = record { is = or_false _ _ y.is (or_false _ _ n.is h.is) }

cutless_loop : (site : ℕ) (first : Test) (test : Lines) (answer : Atom) (body rest : Lines) → Cutless test →
    Cutless body → Cutless rest → Cutless (LoopThen site first test answer body rest)
cutless_loop site first test answer body rest t b h = record { is = or_false _ _ t.is (or_false _ _ b.is h.is) }

pub action_cutless : (here : Instance) (a : Action) (values : List Value) (m : Made) →
    Cutless (action_code here a values m).lines
action_cutless here (tree.Load site element root) values m = record { is = refl }
action_cutless here (tree.Store site element root) values m = record { is = refl }
action_cutless here (tree.Literal value of) values m = record { is = refl }
action_cutless here (tree.Variable x) values m = record { is = refl }
action_cutless here (tree.Unary op of) values m = record { is = refl }
action_cutless here (tree.Binary op of) values m = record { is = refl }
action_cutless here (tree.Builtin g of) values m = record { is = refl }
action_cutless here (tree.Convert to) values m = record { is = refl }
action_cutless here (tree.Ask what_) values m = record { is = refl }
action_cutless here tree.Second values m = record { is = refl }
action_cutless here tree.Truth values m = record { is = refl }
action_cutless here (tree.Decided answer) values m = record { is = refl }
action_cutless here (tree.Set x) values m = record { is = refl }
action_cutless here (tree.Change x op of back old) values m = record { is = refl }

pub initial_cutless : (site : ℕ) (element : IntType) (array k : ℕ) (values : List Value) →
    Cutless (initial_lines site element array k values)
initial_cutless site element array k [] = record { is = refl }
initial_cutless site element array k (v ∷ values) =
    record { is = (initial_cutless site element array (k + 1) values).is }

pub opened_cutless : (way : Option ℕ) (exit : ℕ) (m : Made) → Cutless (opened way exit m).lines
opened_cutless None exit m = record { is = refl }
opened_cutless (Some site) exit m = record { is = refl }

pub outward_cutless : (way : Option ℕ) (exit outer : ℕ) (m : Made) → Cutless (outward way exit outer m).lines
outward_cutless None exit outer m = record { is = refl }
outward_cutless (Some site) exit outer m = record { is = refl }

guarded_cutless : (site exit : ℕ) (inside rest : Lines) → Cutless inside → Cutless rest →
    Cutless (guarded_before site exit inside rest)
guarded_cutless site exit inside rest h k = by_test (is_none inside)
  where
    by_test : (b : Test) → Cutless (if b then rest else IfThen site (CellAtom exit) NoLine inside rest)
    by_test true = k
    by_test false = cutless_if site (CellAtom exit) NoLine inside rest (record { is = refl }) h k

round_cutless : (site : ℕ) (first : Test) (way : Option ℕ) (exit : ℕ) (test : Lines) (answer : Value)
    (step body : Lines) (m : Made) → Cutless test → Cutless step → Cutless body →
    Cutless (round_code site first way exit test answer step body m).lines
round_cutless site first None exit test answer step body m t s b =
    cutless_loop site first test answer.atom _ NoLine t (cutless_then body step b s) (record { is = refl })
round_cutless site first (Some way) exit test answer step body m t s b =
    let g = guarded_cutless way exit step NoLine s (record { is = refl }) in
    cutless_loop site first _ _ _ NoLine
    (record {
      is = (cutless_if way (CellAtom exit) NoLine _ NoLine (record { is = refl })
          (cutless_then test (set_to (next_cell m) answer.atom) t (record { is = refl }))
          (record { is = refl })).is;
    })
    (cutless_then body (joined_to (settled way exit (with_cell m OfValue answer.of)).lines
    (guarded_before way exit step NoLine)) b (record { is = g.is })) (record { is = refl })

labels_cutless : (site : ℕ) (v : Value) (chosen k : ℕ) (labels : List ℤ) (m : Made) →
    Cutless (labels_code site v chosen k labels m).lines
labels_cutless site v chosen k [] m = record { is = refl }
labels_cutless site v chosen k (label ∷ labels) m =
    record { is = (labels_cutless site v chosen k labels (label_code site v chosen k label m).made).is }

all_labels_cutless : (site : ℕ) (v : Value) (chosen k : ℕ) (arms : Arms) (m : Made) →
    Cutless (all_labels_code site v chosen k arms m).lines
all_labels_cutless site v chosen k no_arm m = record { is = refl }
all_labels_cutless site v chosen k (arm labels other body rest) m =
    cutless_then (labels_code site v chosen k labels m).lines _ (labels_cutless site v chosen k labels m)
    (all_labels_cutless site v chosen (k + 1) rest _)

pub selected_cutless : (site : ℕ) (v : Value) (arms : Arms) (m : Made) → Cutless (selected site v arms m).lines
selected_cutless site v arms m = record { is = (all_labels_cutless site _ _ 0 arms _).is }

pub fallen_cutless : (way : Option ℕ) (exit : ℕ) (entered : Value) (m : Made) →
    Cutless (fallen_code way exit entered m).lines
fallen_cutless None exit entered m = record { is = refl }
fallen_cutless (Some site) exit entered m = record { is = refl }

before_rest_cutless : (exit : ℕ) (declared : Test) (way : Option ℕ) (lines : Lines) (g : Guarded) → Cutless lines →
    Cutless g.inside × Cutless g.rest → Cutless (before_rest exit declared way lines g).inside ×
    Cutless (before_rest exit declared way lines g).rest
before_rest_cutless exit true way lines g h k =
    (cutless_then lines _ h (cutless_then g.inside g.rest k.0 k.1), record { is = refl })
before_rest_cutless exit false None lines g h k = (cutless_then lines g.inside h k.0, k.1)
before_rest_cutless exit false (Some site) lines g h k = (h, guarded_cutless site exit g.inside g.rest k.0 k.1)

pub list_joined_cutless : (g : Guarded) → Cutless g.inside × Cutless g.rest → Cutless (in_order g).lines
list_joined_cutless g h = cutless_then g.inside g.rest h.0 h.1

module _ (calls : Calls) (inside : ℕ → Test)
    (call : (here : Instance) (site function : ℕ) (roots : List Root) (values : List Value) (m : Made) →
    inside function ≡ false → Cutless (calls here site function roots values m).lines) (here : Instance) where
  mutual
    unfolding expression_code

    pub expression_cutless : (e : Expression) → holds_in inside e ≡ false → (m : Made) →
        Cutless (expression_code calls here e m).lines
    expression_cutless (Apply action operands) h m =
        let co = operands_code calls here operands m in
        cutless_then co.lines _ (operands_cutless operands h m) (action_cutless here action co.values co.made)
    expression_cutless (Update site element root op of back old index value) h m =
        let ci = expression_code calls here index m in
        let cv = expression_code calls here value (with_cell ci.made OfValue element) in
        let p = or_parts (holds_in inside index) (holds_in inside value) h in
        let q = cutless_then cv.lines _ (expression_cutless value p.1 (with_cell ci.made OfValue element))
        (record { is = refl }) in
        cutless_then ci.lines _ (expression_cutless index p.0 m) (record { is = q.is })
    expression_cutless (Choose site test chosen other) h m =
        let ct = expression_code calls here test m in
        let cy = expression_code calls here chosen ct.made in
        let cn = expression_code calls here other cy.made in
        let p = or_parts (holds_in inside test) (holds_in inside chosen || holds_in inside other) h in
        let q = or_parts (holds_in inside chosen) (holds_in inside other) p.1 in
        cutless_then ct.lines _ (expression_cutless test p.0 m)
        (cutless_if site ct.value.atom _ _ NoLine (cutless_then cy.lines (set_to (next_cell cn.made) cy.value.atom)
        (expression_cutless chosen q.0 ct.made) (record { is = refl }))
        (cutless_then cn.lines (set_to (next_cell cn.made) cn.value.atom) (expression_cutless other q.1 cy.made)
        (record { is = refl })) (record { is = refl }))
    expression_cutless (Call site function roots arguments) h m =
        let ca = operands_code calls here arguments m in
        let p = or_parts (holds_among inside arguments) (inside function) h in
        cutless_then ca.lines _ (operands_cutless arguments p.0 m) (call here site function _ ca.values ca.made p.1)

    pub operands_cutless : (list : Expressions) → holds_among inside list ≡ false → (m : Made) →
        Cutless (operands_code calls here list m).lines
    operands_cutless none h m = record { is = refl }
    operands_cutless (more e rest) h m =
        let ce = expression_code calls here e m in
        let p = or_parts (holds_in inside e) (holds_among inside rest) h in
        cutless_then ce.lines _ (expression_cutless e p.0 m) (operands_cutless rest p.1 ce.made)

  pub optional_cutless : (e : Option Expression) → holds_in_optional inside e ≡ false → (m : Made) →
      Cutless (optional_code calls here e m).lines
  optional_cutless None h m = record { is = refl }
  optional_cutless (Some e) h m = expression_cutless e h m

  mutual
    unfolding statement_code

    pub statement_cutless : (exit : ℕ) (s : Statement) → holds inside s ≡ false → (m : Made) →
        Cutless (statement_code calls here exit s m).lines
    statement_cutless exit (Do e) h m = expression_cutless e h m
    statement_cutless exit (Declare x None) h m = record { is = refl }
    statement_cutless exit (Declare x (Some e)) h m =
        cutless_then (expression_code calls here e m).lines _ (expression_cutless e h m) (record { is = refl })
    statement_cutless exit (Fill site array values) h m =
        let cv = operands_code calls here values m in
        cutless_then cv.lines _ (operands_cutless values h m)
        (record { is = (initial_cutless site (element_at here array) (here.arrays + array) 0 cv.values).is })
    statement_cutless exit (Block list) h m =
        list_joined_cutless (list_code calls here exit false list m) (list_cutless exit false list h m)
    statement_cutless exit (If site test chosen other) h m =
        let ct = expression_code calls here test m in
        let cy = list_code calls here exit false chosen ct.made in
        let cn = list_code calls here exit false other cy.made in
        let p = or_parts (holds_in inside test) (some_holds inside chosen || some_holds inside other) h in
        let q = or_parts (some_holds inside chosen) (some_holds inside other) p.1 in
        cutless_then ct.lines _ (expression_cutless test p.0 m)
        (cutless_if site ct.value.atom _ _ NoLine
        (list_joined_cutless cy (list_cutless exit false chosen q.0 ct.made))
        (list_joined_cutless cn (list_cutless exit false other q.1 cy.made)) (record { is = refl }))
    statement_cutless exit (Loop site first test step body) h m =
        let way = way_out true true body in
        let co = opened way exit m in
        let ct = optional_code calls here test co.made in
        let cs = optional_code calls here step ct.made in
        let cb = statement_code calls here co.exit body cs.made in
        let cr = round_code site first way co.exit ct.lines ct.value cs.lines cb.lines cb.made in
        let p = or_parts (holds_in_optional inside test) (holds_in_optional inside step || holds inside body) h in
        let q = or_parts (holds_in_optional inside step) (holds inside body) p.1 in
        cutless_then co.lines _ (opened_cutless way exit m)
        (cutless_then cr.lines _ (round_cutless site first way co.exit ct.lines ct.value cs.lines cb.lines cb.made
        (optional_cutless test p.0 co.made) (optional_cutless step q.0 ct.made)
        (statement_cutless co.exit body q.1 cs.made))
        (outward_cutless (way_out false false body) co.exit exit cr.made))
    statement_cutless exit (Switch site value arms) h m =
        let cv = expression_code calls here value m in
        let co = opened (way_out_of_arms true true arms) exit cv.made in
        let cs = selected site cv.value arms co.made in
        let ca = arms_code calls here co.exit site cs.value.atom (int (pos 0)) 0 arms cs.made in
        let p = or_parts (holds_in inside value) (arms_hold inside arms) h in
        cutless_then cv.lines _ (expression_cutless value p.0 m)
        (cutless_then co.lines _ (opened_cutless (way_out_of_arms true true arms) exit cv.made)
        (cutless_then cs.lines _ (selected_cutless site cv.value arms co.made)
        (cutless_then ca.lines _ (arms_cutless co.exit site cs.value.atom (int (pos 0)) 0 arms p.1 cs.made)
        (outward_cutless (way_out_of_arms false true arms) co.exit exit ca.made))))
    statement_cutless exit (Break site) h m = record { is = refl }
    statement_cutless exit (Continue site) h m = record { is = refl }
    statement_cutless exit (Return site None) h m = record { is = refl }
    statement_cutless exit (Return site (Some e)) h m =
        cutless_then (expression_code calls here e m).lines _ (expression_cutless e h m) (record { is = refl })
    statement_cutless exit (Barrier site) h m = absurd (let k = h in cc)

    pub list_cutless : (exit : ℕ) (guarded : Test) (list : Statements) → some_holds inside list ≡ false → (m : Made) →
        Cutless (list_code calls here exit guarded list m).inside ×
        Cutless (list_code calls here exit guarded list m).rest
    list_cutless exit guarded empty h m = (record { is = refl }, record { is = refl })
    list_cutless exit guarded (also s rest) h m =
        let way = way_out true true s in
        let declared = guarded && declares s in
        let cs = statement_code calls here exit s m in
        let p = or_parts (holds inside s) (some_holds inside rest) h in
        before_rest_cutless exit declared way cs.lines (list_code calls here exit (is_guarded declared way guarded)
        rest cs.made) (statement_cutless exit s p.0 m) (list_cutless exit (is_guarded declared way guarded) rest
        p.1 cs.made)

    pub arms_cutless : (exit site : ℕ) (chosen fallen : Atom) (k : ℕ) (arms : Arms) → arms_hold inside arms ≡ false →
        (m : Made) → Cutless (arms_code calls here exit site chosen fallen k arms m).lines
    arms_cutless exit site chosen fallen k no_arm h m = record { is = refl }
    arms_cutless exit site chosen fallen k (arm labels other body rest) h m =
        let way = way_out_of_all true true body in
        let ce = entry_code chosen fallen k m in
        let cl = list_code calls here exit false body ce.made in
        let ca = around_arm site exit way ce (in_order cl) in
        let cf = fallen_code way exit ce.value cl.made in
        let p = or_parts (some_holds inside body) (arms_hold inside rest) h in
        cutless_then ca.lines _ (record {
          is = (cutless_if site ce.value.atom _ NoLine cf.lines
              (list_joined_cutless cl (list_cutless exit false body p.0 ce.made)) (record { is = refl })
              (fallen_cutless way exit ce.value cl.made)).is;
        })
        (arms_cutless exit site chosen ca.value.atom (k + 1) rest p.1 ca.made)

-- ---- calls

pub result_cutless : (result : Option IntType) (m : Made) → Cutless (result_code result m).lines
result_cutless None m = record { is = refl }
result_cutless (Some of) m = record { is = refl }

pub parameters_cutless : (cell : ℕ) (values : List Value) → Cutless (parameter_lines cell values)
parameters_cutless cell [] = record { is = refl }
parameters_cutless cell (v ∷ values) = record { is = (parameters_cutless (cell + 1) values).is }

pub calls_cutless : (program : Program) (names : List (List Named)) (depth : ℕ) (here : Instance) (site function : ℕ)
    (roots : List Root) (values : List Value) (m : Made) → body_holds program depth function ≡ false
    → Cutless (call_code program names depth here site function roots values m).lines
unfolding call_code
calls_cutless program names zero here site function roots values m h = record { is = refl }
calls_cutless program names (suc depth) here site function roots values m h =
    let way = way_behind program here site function roots in
    let f = function_at program function in
    let there = instance_at way f m in
    let cr = result_code f.result (with_instance way (names_at names function) f m) in
    let co = opened (way_out_of_all true true f.body) 0 cr.made in
    let cl = list_code (call_code program names depth) there co.exit false f.body co.made in
    cutless_then (parameter_lines (next_cell m) values) _ (parameters_cutless (next_cell m) values)
    (cutless_then cr.lines _ (result_cutless f.result (with_instance way (names_at names function) f m))
    (cutless_then co.lines _ (opened_cutless (way_out_of_all true true f.body) 0 cr.made)
    (list_joined_cutless cl (list_cutless (call_code program names depth) (body_holds program depth)
    (calls_cutless program names depth) there co.exit false f.body h co.made))))
