-- No cell is live at the start of a lowered kernel: calls, and the whole.
use Rattle.std.proofs.Common.{◌≡◌, ℕ, zero, suc, ◌+◌, ◌<◌, List, [], ◌∷◌, length, Option, Some, None, refl, ◌∙◌}
use Rattle.std.proofs.Common.{subst, arith, true, false}
use Rattle.std.proofs.Common.{Bool as Test}
use Rattle.std.specs.Prelude.{nat_eq}
use Rattle.wg_num.specs.declared.types.IntType.{IntType}
use Rattle.cl_model.specs.declared.program.VarKind.{VarKind}
use Rattle.cl_model.specs.Tree.{Program}
use Rattle.cl_model.specs.Calls.{function_at, kernel_of}
use Rattle.cl_model.specs.Valid.{IsValid, parameter_kinds, numbers_below}
use Rattle.kir.specs.Tree.{Lines, Copy, Argument, joined_to}
use Rattle.kir.specs.Live.{reads, some_reads}
use Rattle.kir.specs.Lowering.{Named, StartsAnew}
use Rattle.kir_lower.specs.declared.places.Value.{Value}
use Rattle.kir_lower.specs.Made.{Made, Instance, next_cell}
use Rattle.kir_lower.specs.Ways.{way_out_of_all}
use Rattle.kir_lower.specs.Actions.{atoms_of, opened}
use Rattle.kir_lower.specs.Code.{Calls, list_code, result_code, body_code}
use Rattle.kir_lower.specs.Whole.{names_at, way_behind, instance_at, with_instance, parameter_lines, call_code}
use Rattle.kir_lower.specs.Whole.{bound_lines, kernel_way, nothing_made, lowered_of}
use Rattle.kir_lower_shape.proofs.Arguments.{length_take, valid_function}
use Rattle.kir_lower_shape.proofs.Quiet.{Quiet, or_parts, quiet_none, quiet_less, quiet_after, quiet_set}
use Rattle.kir_lower_shape.proofs.Steps.{IsApart, opened_quiet, list_joined}
use Rattle.kir_lower_shape.proofs.Scoped.{has_below}
use Rattle.kir_lower_shape.proofs.Anew.{CallsQuiet, list_quiet}

-- the cell is none of so many from one on
abbrev IsOutside : ℕ → ℕ → ℕ → Type 0
IsOutside c base count = (x : ℕ) → x < count → nat_eq c (base + x) ≡ false

outside_more : (c base count : ℕ) → nat_eq c base ≡ false → IsOutside c (base + 1) count → IsOutside c base (suc count)
outside_more c base count e h zero less = subst (λ z. nat_eq c z ≡ false) (omega arith) e
outside_more c base count e h (suc x) less = subst (λ z. nat_eq c z ≡ false) (omega arith) (h x (omega (arith, less)))

parameters_quiet : (c base : ℕ) (values : List Value) (lines : Lines) (after : Test) →
    some_reads c (atoms_of values) ≡ false → (IsOutside c base (length values) → Quiet c lines after) →
    Quiet c (joined_to (parameter_lines base values) lines) after
parameters_quiet c base [] lines after r h = h (λ x less. absurd (omega (arith, less)))
parameters_quiet c base (v ∷ values) lines after r h =
    let p = or_parts (reads c v.atom) (some_reads c (atoms_of values)) r in
    quiet_set c base (Copy v.atom) _ after p.0 (λ e. parameters_quiet c (base + 1) values lines after p.1
    (λ o. h (outside_more c base (length values) e o)))

bound_quiet : (c base n : ℕ) (kinds : List VarKind) (lines : Lines) (after : Test) →
    (IsOutside c base (length kinds) → Quiet c lines after) → Quiet c (joined_to (bound_lines base n kinds) lines) after
bound_quiet c base n [] lines after h = h (λ x less. absurd (omega (arith, less)))
bound_quiet c base n (kind ∷ kinds) lines after h =
    quiet_set c base (Argument n) _ after refl (λ e. bound_quiet c (base + 1) (n + 1) kinds lines after
    (λ o. h (outside_more c base (length kinds) e o)))

result_quiet : (c : ℕ) (result : Option IntType) (m : Made) (lines : Lines) → Quiet c lines false →
    Quiet c (joined_to (result_code result m).lines lines) (reads c (result_code result m).value.atom)
result_quiet c None m lines h = h
result_quiet c (Some of) m lines h = quiet_set c _ _ lines _ refl (λ e. quiet_after c lines false _ e h)

module _ (program : Program) (valid : IsValid program) (c : ℕ) where
  -- a function's body
  body_quiet : (calls : Calls) → CallsQuiet program c calls → (f : ℕ) → f < length program.functions →
      (here : Instance) → IsApart c here (numbers_below (function_at program f).parameters) → (m : Made)
      → Quiet c (body_code calls here (function_at program f) m).lines
      (reads c (body_code calls here (function_at program f) m).value.atom)
  body_quiet calls call f within here apart_ m =
      let g = function_at program f in
      let fits = valid_function program valid f within in
      let cr = result_code g.result m in
      let way = way_out_of_all true true g.body in
      let co = opened way 0 cr.made in
      result_quiet c g.result m _
      (opened_quiet c way 0 cr.made _ false
      (λ free. list_joined c false (list_code calls here co.exit false g.body co.made)
      (list_quiet program c calls call g here co.exit false g.body (numbers_below g.parameters) fits.types
      fits.scopes apart_ free co.made)))

  kind_count : (f : ℕ) → f < length program.functions → length (parameter_kinds (function_at program f)) ≡
      (function_at program f).parameters
  kind_count f within = length_take (function_at program f).parameters (function_at program f).variables
      (valid_function program valid f within).parameters

  apart_from : (here : Instance) (n count : ℕ) → count ≡ n → IsOutside c here.base count →
      IsApart c here (numbers_below n)
  apart_from here n count e o x has = let k = has_below n x has in o x (omega (arith, e, k))

  pub calls_quiet : (names : List (List Named)) (depth : ℕ) → CallsQuiet program c (call_code program names depth)
  unfolding call_code
  calls_quiet names zero here site function roots values m within count r = quiet_none c _ refl
  calls_quiet names (suc depth) here site function roots values m within count r =
      let way = way_behind program here site function roots in
      let f = function_at program function in
      let there = instance_at way f m in
      parameters_quiet c (next_cell m) values _ _ r
      (λ o. body_quiet (call_code program names depth) (calls_quiet names depth) function within there
      (apart_from there f.parameters (length values) (count ∙ kind_count function within) o)
      (with_instance way (names_at names function) f m))

  kernel_quiet : (names : List (List Named)) → Quiet c (lowered_of program names).body false
  unfolding lowered_of
  kernel_quiet names =
      let f = kernel_of program in
      let way = kernel_way program in
      let there = instance_at way f nothing_made in
      quiet_less c _ _
      (bound_quiet c 0 0 (parameter_kinds f) _ _
      (λ o. body_quiet (call_code program names (length program.functions))
      (calls_quiet names (length program.functions)) program.kernel valid.kernel there
      (apart_from there f.parameters (length (parameter_kinds f)) (kind_count program.kernel valid.kernel) o)
      (with_instance way (names_at names program.kernel) f nothing_made)))

-- no cell is live at the start
pub starts_anew : (program : Program) (names : List (List Named)) → IsValid program →
    StartsAnew (lowered_of program names)
starts_anew program names valid c = (kernel_quiet program valid c names).is
