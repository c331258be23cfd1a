use Rattle.std.proofs.Common.{◌≡◌, ◌++◌, Some, None, slice_get, arith, ap, ap₂, sym, ◌∙◌, append-nil}
use Rattle.std.proofs.lemmas.Bool.Decides.{nat_tests}
use Rattle.std.proofs.lemmas.Option.{slice_get-get_or, slice_get_past}
use Rattle.std.proofs.lemmas.Result.{on_ok_weaker}
use Rattle.ctx_plan_text.specs.Entries.{variable_of}
use Rattle.ctx_plan_text.proofs.Cells.{found_line}
use Rattle.ctx_plan_text.proofs.lines.put_variable.Goals as goal

pub returns-in-Some : goal.returns-in-Some
returns-in-Some c =
    let n = c.loop-n.n in
    let homes = c.args.homes.now in
    let there : slice_get homes n ≡ Some c.in-Some.home.now =
    slice_get-get_or homes n c.in-Some.home.now c.in-Some.ensures.lookup.3.0 ∙
    ap Some (sym (c.in-Some.ensures.lookup.3.1 c.in-Some.home.now)) in
    on_ok_weaker c.put_cell.result (λ e. e
    ∙ ap₂ (λ t l. t ++ l) c.loop-n.invariant.same (found_line homes (variable_of c.args.variable.now) n
    c.args.cells.now c.index-cells-n.result (Some c.in-Some.home.now) _ c.loop-n-test.true c.index-cells-n.is
    (sym c.is_cell_of.ensures ∙ c.if-is_cell_of.true) there c.loop-n.invariant.left))
    c.put_cell.ensures

pub returns-in-None : goal.returns-in-None
returns-in-None c =
    let n = c.loop-n.n in
    let homes = c.args.homes.now in
    let no = c.in-None.ensures.lookup.0 in
    let past = slice_get_past homes n (grind (arith, nat_tests)) in
    sym (append-nil c.loop-n.text.items)
    ∙ ap₂ (λ t l. t ++ l) c.loop-n.invariant.same (found_line homes (variable_of c.args.variable.now) n
    c.args.cells.now c.index-cells-n.result None _ c.loop-n-test.true c.index-cells-n.is
    (sym c.is_cell_of.ensures ∙ c.if-is_cell_of.true) past c.loop-n.invariant.left)
