-- Calls name no cell but those of their arguments and those that they make.
use Rattle.std.proofs.Common.{◌≡◌, ℕ, zero, suc, ◌+◌, ◌≤◌, List, [], ◌∷◌, ◌++◌, length, Option, Some, None, refl, ap}
use Rattle.std.proofs.Common.{◌∙◌, arith, length-append, true, false}
use Rattle.wg_num.specs.declared.types.IntType.{IntType}
use Rattle.cl_model.specs.Tree.{Program}
use Rattle.cl_model.specs.Calls.{function_at}
use Rattle.cl_model.specs.Valid.{IsValid}
use Rattle.kir.specs.Tree.{NoLine, Copy, OfValue}
use Rattle.kir.specs.Live.{reads, some_reads}
use Rattle.kir.specs.Lowering.{Named}
use Rattle.kir_lower.specs.declared.places.Value.{Value}
use Rattle.kir_lower.specs.Made.{Made, next_cell, variable_cells}
use Rattle.kir_lower.specs.Ways.{way_out_of_all}
use Rattle.kir_lower.specs.Actions.{atoms_of, opened}
use Rattle.kir_lower.specs.Code.{list_code, result_code}
use Rattle.kir_lower.specs.Whole.{Way, names_at, way_behind, instance_at, with_instance, parameter_lines, call_code}
use Rattle.kir_lower_shape.specs.Names.{AreNamed}
use Rattle.kir_lower_shape.proofs.Arguments.{call_goes, length_take}
use Rattle.kir_lower_shape.proofs.Variables.{variable_count}
use Rattle.kir_lower_shape.proofs.Below.{valid_any}
use Rattle.kir_lower_shape.proofs.Quiet.{or_parts}
use Rattle.kir_lower_shape.proofs.Steps.{IsFree}
use Rattle.kir_lower_shape.proofs.Scoped.{fewer_of_all}
use Rattle.kir_lower_shape.proofs.Absent.{Absent, absent_none, absent_then, absent_set, next_more, IsOut, out_within}
use Rattle.kir_lower_shape.proofs.AbsentSteps.{opened_exit, opened_more}
use Rattle.kir_lower_shape.proofs.AbsentCode.{CallsUp, CallsAbsent, opened_up, list_up, list_absent}

-- no cell is given back
pub calls_up : (program : Program) (names : List (List Named)) (depth : ℕ) → CallsUp (call_code program names depth)
calls_up program names depth here site function roots values m =
    let h = call_goes program names depth here site function roots values m in
    let a : next_cell (call_code program names depth here site function roots values m).made ≡
    length (m.cells ++ h.0) = ap (λ z. length z) h.1 in
    let b = length-append m.cells h.0 in
    omega (arith, a, b)

-- the cells of a function's variables are made
pub instance_cells : (program : Program) (names : List (List Named)) → AreNamed program names →
    (way : Way) (f : ℕ) (m : Made) → next_cell (with_instance way (names_at names f) (function_at program f) m) ≡
    next_cell m + length (function_at program f).variables
instance_cells program names named way f m =
    length-append m.cells (variable_cells way.calls way.places way.function 0 (names_at names f)
    (function_at program f).variables)
    ∙ ap (λ z. next_cell m + z) (variable_count way.calls way.places way.function 0 (names_at names f)
    (function_at program f).variables (named f))

parameters_absent : (c base : ℕ) (values : List Value) → some_reads c (atoms_of values) ≡ false →
    IsOut c base (base + length values) → Absent c (parameter_lines base values)
parameters_absent c base [] r out = absent_none c
parameters_absent c base (v ∷ values) r out =
    let p = or_parts (reads c v.atom) (some_reads c (atoms_of values)) r in
    absent_set c base (Copy v.atom) _ p.0 (out base (omega arith) (omega arith))
    (parameters_absent c (base + 1) values p.1 (out_within c _ _ _ _ out (omega arith) (omega arith)))

-- the cell of a result
pub result_absent : (c : ℕ) (result : Option IntType) (m : Made) →
    IsOut c (next_cell m) (next_cell (result_code result m).made) → Absent c (result_code result m).lines ×
    (reads c (result_code result m).value.atom ≡ false)
result_absent c None m out = (absent_none c, refl)
result_absent c (Some of) m out =
    let one = next_more m OfValue of in
    let e = out (next_cell m) (omega arith) (omega (arith, one)) in
    (absent_set c _ _ NoLine refl e (absent_none c), e)

pub result_up : (result : Option IntType) (m : Made) → next_cell m ≤ next_cell (result_code result m).made
result_up None m = omega arith
result_up (Some of) m = let one = next_more m OfValue of in omega (arith, one)

pub calls_absent : (program : Program) (names : List (List Named)) → IsValid program → AreNamed program names →
    (c depth : ℕ) → CallsAbsent program c (call_code program names depth)
unfolding call_code
calls_absent program names valid named c zero here site function roots values m count r out = (absent_none c, refl)
calls_absent program names valid named c (suc depth) here site function roots values m count r out =
    let calls = call_code program names depth in
    let way = way_behind program here site function roots in
    let f = function_at program function in
    let fits = valid_any program valid function in
    let there = instance_at way f m in
    let inside = with_instance way (names_at names function) f m in
    let exits = way_out_of_all true true f.body in
    let cr = result_code f.result inside in
    let co = opened exits 0 cr.made in
    let cl = list_code calls there co.exit false f.body co.made in
    let size = instance_cells program names named way function m in
    let few = length_take f.parameters f.variables fits.parameters in
    let lim = fits.parameters in
    let a = result_up f.result inside in
    let b = opened_up exits 0 cr.made in
    let d = list_up calls (calls_up program names depth) there co.exit false f.body co.made in
    let p = parameters_absent c (next_cell m) values r (out_within c _ _ _ _ out (omega arith) (omega (
      arith,
      count,
      few,
      lim,
      size,
      a,
      b,
      d,
    ))) in
    let q = result_absent c f.result inside (out_within c _ _ _ _ out (omega (arith, size)) (omega (arith, b, d))) in
    let o = opened_exit c exits 0 cr.made (out_within c _ _ _ _ out (omega (arith, size, a)) (omega (arith, d))) in
    let answer : IsFree c there.answer exits = λ s e. let k =
    opened_more exits 0 cr.made s e in out there.answer (omega arith) (omega (arith, size, a, k, d)) in
    let l = list_absent program c calls (calls_up program names depth)
    (calls_absent program names valid named c depth) f there (λ x less. out (next_cell m + x) (omega arith)
    (omega (arith, less, size, a, b, d)))
    co.exit false f.body fits.types o.1 (fewer_of_all c there.answer false true false true (λ e. refl) (λ e. refl)
    f.body answer) co.made (out_within c _ _ _ _ out (omega (arith, size, a, b)) (omega arith)) in (
      absent_then c (parameter_lines (next_cell m) values) _ p
          (absent_then c cr.lines _ q.0 (absent_then c co.lines _ o.0 (absent_then c cl.inside cl.rest l.0 l.1))),
      q.1,
    )
