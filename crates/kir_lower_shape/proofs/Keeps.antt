-- The bound on keeps, for a whole kernel.
use Rattle.std.proofs.Common.{◌≡◌, ℕ, zero, suc, ◌+◌, ◌<◌, ◌≤◌, List, [], ◌∷◌, ◌++◌, length, sum_by, Option, Some}
use Rattle.std.proofs.Common.{None, refl, sym, ap, ◌∙◌, arith, true, false, inl, ne_eqb}
use Rattle.std.proofs.Common.{Bool as Test}
use Rattle.std.specs.Prelude.{◌&&◌, flat_map}
use Rattle.std.proofs.lemmas.Option.{none-some}
use Rattle.std.proofs.lemmas.List.Sums.{sum_by-cons}
use Rattle.cl_model.specs.declared.program.VarKind.{VarKind}
use Rattle.cl_model.specs.Tree.{Function, Program}
use Rattle.cl_model.specs.Lists.{IsOneOf}
use Rattle.cl_model.specs.Calls.{CallSite, Instance as Placed, instances, instances_below, function_at, kernel_of}
use Rattle.cl_model.specs.Calls.{calls_of_all}
use Rattle.cl_model.specs.Valid.{IsValid, parameter_kinds}
use Rattle.kir.specs.Tree.{Variable, CellKind, OfVariable, OfFlag, OfValue, Lines, Argument, joined_to}
use Rattle.kir.specs.Homes.{IsOf}
use Rattle.kir.specs.Keeps.{is_made, is_made_kind, is_keep, keep_count, count_below}
use Rattle.kir.specs.Inlined.{some_holds, function_holds}
use Rattle.kir.specs.Choices.{IsPlain, HasFewKeeps, choice_count, all_choices}
use Rattle.kir.specs.Lowering.{Named}
use Rattle.kir_lower.specs.Made.{Made, next_cell}
use Rattle.kir_lower.specs.Ways.{way_out_of_all}
use Rattle.kir_lower.specs.Actions.{opened}
use Rattle.kir_lower.specs.Code.{in_order, list_code, result_code}
use Rattle.kir_lower.specs.Whole.{names_at, instance_at, with_instance, call_code, bound_lines, kernel_way}
use Rattle.kir_lower.specs.Whole.{nothing_made, lowered_of}
use Rattle.kir_lower_shape.specs.Names.{AreNamed}
use Rattle.kir_lower_shape.proofs.Arguments.{own_cell, length_take, valid_function}
use Rattle.kir_lower_shape.proofs.NoWays.{some_exits_none}
use Rattle.kir_lower_shape.proofs.Absent.{Absent, absent_none, absent_set}
use Rattle.kir_lower_shape.proofs.AbsentCode.{list_up}
use Rattle.kir_lower_shape.proofs.AbsentCalls.{calls_up, instance_cells, result_absent, result_up}
use Rattle.kir_lower_shape.proofs.Cutless.{Cutless, cutless_then, calls_cutless, opened_cutless, result_cutless}
use Rattle.kir_lower_shape.proofs.Cutless.{list_cutless, list_joined_cutless}
use Rattle.kir_lower_shape.proofs.Across.{Few, few_none, few_less, across, across_cutless, across_left, across_right}
use Rattle.kir_lower_shape.proofs.Across.{out_below, out_above}
use Rattle.kir_lower_shape.proofs.FewKeeps.{by_test, some_absent, list_few}
use Rattle.kir_lower_shape.proofs.Depths.{holds_deep}

-- a variable's cell is no flag and no value
variable_not_made : (v : Variable) (kind : CellKind) → IsOf v kind → is_made_kind kind ≡ false
variable_not_made v (OfVariable w path name) h = refl
variable_not_made v OfFlag h = absurd h
variable_not_made v OfValue h = absurd h

bound_absent : (c cell n : ℕ) (kinds : List VarKind) → cell + length kinds ≤ c → Absent c (bound_lines cell n kinds)
bound_absent c cell n [] h = absent_none c
bound_absent c cell n (kind ∷ kinds) h =
    absent_set c cell (Argument n) _ refl (ne_eqb c cell (λ e. omega (arith, h, e)))
    (bound_absent c (cell + 1) (n + 1) kinds (omega (arith, h)))

pub bound_cutless : (cell n : ℕ) (kinds : List VarKind) → Cutless (bound_lines cell n kinds)
bound_cutless cell n [] = record { is = refl }
bound_cutless cell n (kind ∷ kinds) = record { is = (bound_cutless (cell + 1) (n + 1) kinds).is }

and_left : (a b : Test) → a ≡ false → (a && b) ≡ false
and_left a b e = ap (λ z. z && b) e

and_right : (a b : Test) → b ≡ false → (a && b) ≡ false
and_right true b e = e
and_right false b e = refl

module _ (program : Program) (names : List (List Named)) (valid : IsValid program) (named : AreNamed program names)
  where
    abbrev f : Function
    f = kernel_of program

    abbrev depth : ℕ
    depth = length program.functions

    abbrev start : Made
    start = with_instance (kernel_way program) (names_at names program.kernel) (kernel_of program) nothing_made

    -- the lines of the kernel, whatever its ways out are
    abbrev body_at : Option ℕ → Lines
    body_at way =
        let cr = result_code f.result start in
        let co = opened way 0 cr.made in
        joined_to (bound_lines 0 0 (parameter_kinds f))
        (joined_to cr.lines (joined_to co.lines
        (in_order (list_code (call_code program names depth) (instance_at (kernel_way program) f nothing_made)
        co.exit false f.body co.made)).lines))

    abbrev cells_at : Option ℕ → ℕ
    cells_at way =
        let cr = result_code f.result start in
        let co = opened way 0 cr.made in
        next_cell (list_code (call_code program names depth) (instance_at (kernel_way program) f nothing_made) co.exit
        false f.body co.made).made

    start_cells : next_cell start ≡ length f.variables
    start_cells =
        instance_cells program names named (kernel_way program) program.kernel nothing_made ∙ plain (length f.variables)
      where
        plain : (n : ℕ) → 0 + n ≡ n
        plain n = omega arith

    -- without a way out: the cells that are named on both sides of a cut
    few_at : (way : Option ℕ) → way ≡ None → way_out_of_all true true f.body ≡ None → (test : ℕ → Test) →
        ((c : ℕ) → c < length f.variables → test c ≡ false) →
        ((c : ℕ) → across (body_at way) c ≡ false → test c ≡ false)
        → IsPlain program → IsOneOf (instances program) (record { path = []; function = program.kernel }) →
        count_below test (cells_at way) ≤ all_choices (function_holds program) f.body
    few_at (Some site) e w test own some plain i = absurd (none-some site (sym e))
    few_at None e w test own some plain i =
        let here = instance_at (kernel_way program) f nothing_made in
        let fits = valid_function program valid program.kernel valid.kernel in
        let cr = result_code f.result start in
        let cl = list_code (call_code program names depth) here 0 false f.body cr.made in
        let bound = bound_lines 0 0 (parameter_kinds f) in
        let s = start_cells in
        let a = result_up f.result start in
        let b = list_up (call_code program names depth) (calls_up program names depth) here 0 false f.body cr.made in
        let count = length_take f.parameters f.variables fits.parameters in
        let lim = fits.parameters in
        let absent_bound : (c : ℕ) → length f.variables ≤ c → Absent c bound =
        λ c low. bound_absent c 0 0 (parameter_kinds f) (omega (arith, low, count, lim)) in
        let one = few_none test 0 (length f.variables) (omega arith) (λ c low high. own c high) in
        let two = few_none test (length f.variables) (next_cell cr.made) (omega (arith, s, a))
        (λ c low high. some c (across_right c bound _ (absent_bound c low)
        (across_left c cr.lines _ (across_cutless c cr.lines (result_cutless f.result start))
        (some_absent program names valid named depth f here c 0 f.body fits.types w cr.made (omega (arith, low))
        (out_below c _ _ high))))) in
        let three = few_less test (across (in_order cl).lines) (next_cell cr.made) (next_cell cl.made)
        (all_choices (function_holds program) f.body) b
        (λ c low high e. some c (across_right c bound _ (absent_bound c (omega (arith, low, s, a)))
        (across_right c cr.lines _ (result_absent c f.result start (out_above c _ _ low)).0 e)))
        (list_few program names valid named depth f here 0 f.body fits.types (plain.no_expression _ i)
        (plain.no_switch _ i) (plain.no_exit _ i) w cr.made (omega (arith, s, a))) in
        sum_up test (length f.variables) (next_cell cr.made) (next_cell cl.made)
        (all_choices (function_holds program) f.body) one two three
      where
        sum_up : (test : ℕ → Test) (a b c n : ℕ) → Few test 0 a 0 → Few test a b 0 → Few test b c n →
            count_below test c ≤ n
        sum_up test a b c n h k l = omega (arith, h, k, l)

    -- the kernel's text holds a barrier where its body does
    same_depth : some_holds (function_holds program) f.body ≡ function_holds program program.kernel
    same_depth = holds_deep program depth program.kernel (valid.calls program.kernel valid.kernel)

    own_not_made : (c : ℕ) → c < length f.variables → is_keep (lowered_of program names) c ≡ false
    own_not_made c less =
        let o = own_cell program names named c less in
        and_left _ _ (ap is_made o.there ∙ variable_not_made _ o.cell.kind o.is_of)

    -- the kernel itself is one of the instances
    kernel_first : IsOneOf (instances program) (record { path = []; function = program.kernel })
    kernel_first = go (length program.functions) valid.kernel
      where
        go : (n : ℕ) → program.kernel < n →
            IsOneOf (instances_below program n [] program.kernel) (record { path = []; function = program.kernel })
        go zero h = absurd (omega (arith, h))
        go (suc n) h = inl refl

    own_choices : all_choices (function_holds program) f.body ≤ choice_count program
    own_choices = go (length program.functions) valid.kernel
      where
        go : (n : ℕ) → program.kernel < n →
            all_choices (function_holds program) f.body ≤
            sum_by (λ (i : Placed). all_choices (function_holds program) (function_at program i.function).body)
            (instances_below program n [] program.kernel)
        go zero h = absurd (omega (arith, h))
        go (suc n) h = let e = sum_by-cons (λ (i : Placed). all_choices (function_holds program)
            (function_at program i.function).body) (record { path = []; function = program.kernel })
            (flat_map (λ (c : CallSite). instances_below program n ([] ++ c.site ∷ []) c.function)
            (calls_of_all (function_at program program.kernel).body)) in omega (arith, e)

    body_cutless : some_holds (function_holds program) f.body ≡ false → Cutless (lowered_of program names).body
    unfolding lowered_of
    body_cutless h =
        let here = instance_at (kernel_way program) f nothing_made in
        let way = way_out_of_all true true f.body in
        let cr = result_code f.result start in
        let co = opened way 0 cr.made in
        let cl = list_code (call_code program names depth) here co.exit false f.body co.made in
        cutless_then (bound_lines 0 0 (parameter_kinds f)) _ (bound_cutless 0 0 (parameter_kinds f))
        (cutless_then cr.lines _ (result_cutless f.result start)
        (cutless_then co.lines _ (opened_cutless way 0 cr.made)
        (list_joined_cutless cl (list_cutless (call_code program names depth) (function_holds program)
        (calls_cutless program names depth) here co.exit false f.body h co.made))))

    keeps_where : IsPlain program → some_holds (function_holds program) f.body ≡ true →
        keep_count (lowered_of program names) ≤ all_choices (function_holds program) f.body
    unfolding lowered_of
    keeps_where plain h =
        let fits = valid_function program valid program.kernel valid.kernel in
        let quiet = plain.no_return (record { path = []; function = program.kernel }) kernel_first (sym same_depth
        ∙ h) in
        let w = some_exits_none false false true true (λ e. absurd (let k = e in cc)) (λ e. absurd (let k = e in
        cc)) f.body fits.exits quiet in
        few_at (way_out_of_all true true f.body) w w (is_keep (lowered_of program names)) own_not_made
        (λ c e. and_right _ _ e) plain kernel_first

    keeps_are_few : IsPlain program → keep_count (lowered_of program names) ≤ choice_count program
    keeps_are_few plain =
        let o = own_choices in
        by_test (some_holds (function_holds program) f.body)
        (λ e. let k = keeps_where plain e in omega (arith, k, o))
        (λ e. let k = few_none (is_keep (lowered_of program names)) 0 (length (lowered_of program names).cells)
        (omega arith) (λ c low high. and_right _ _ (across_cutless c (lowered_of program names).body
        (body_cutless e))) in omega (arith, k))

-- where barriers stand in plain places, there are at most as many keeps as `if` statements that hold a barrier
pub has_few_keeps : (program : Program) (names : List (List Named)) → IsValid program → AreNamed program names →
    HasFewKeeps program (lowered_of program names)
has_few_keeps program names valid named plain = keeps_are_few program names valid named plain
