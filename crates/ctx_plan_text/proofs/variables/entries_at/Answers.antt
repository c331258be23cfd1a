use Rattle.std.proofs.Common.{◌≡◌, Option, Some, option_map, map, slice_get, unwrap_or, arith, ap, sym, ◌∙◌}
use Rattle.std.proofs.lemmas.Bool.Decides.{nat_tests}
use Rattle.std.proofs.lemmas.Option.{slice_get-map, slice_get-get_or, slice_get_past}
use Rattle.std.proofs.lemmas.Result.{IfOk-weaker}
use Rattle.cl_model.specs.Tree.{Function}
use Rattle.cl_model.specs.Calls.{no_function}
use Rattle.cl_model.specs.View.{function_of}
use Rattle.ctx_plan_text.specs.Entries.{function_entries}
use Rattle.ctx_plan_text.proofs.variables.entries_at.Goals as goal

pub returns-in-Some : goal.returns-in-Some
returns-in-Some c =
    let number = c.args.function in
    let there : slice_get c.deref.result.now number ≡ Some c.in-Some.body.now =
    slice_get-get_or c.deref.result.now number c.in-Some.body.now c.in-Some.ensures.lookup.3.0 ∙
    ap Some (sym (c.in-Some.ensures.lookup.3.1 c.in-Some.body.now)) in
    let own : slice_get (map function_of c.args.program.now.functions.items) number ≡
    Some (function_of c.in-Some.body.now) =
    ap (λ gs. slice_get (map function_of gs) number) (sym c.deref.ensures.value) ∙
    (slice_get-map function_of c.deref.result.now number ∙ ap (λ o. option_map function_of o) there) in
    IfOk-weaker c.outline_of.result _ _ (λ v h. h ∙
    ap (λ (o : Option Function). function_entries (unwrap_or o no_function)) (sym own)) c.outline_of.ensures

pub returns-in-None : goal.returns-in-None
returns-in-None c =
    let number = c.args.function in
    let no = c.in-None.ensures.lookup.0 in
    let past = slice_get_past c.deref.result.now number (grind (arith, nat_tests)) in
    c.new.ensures.items
    ∙ ap (λ (o : Option Function). function_entries (unwrap_or o no_function))
    (sym (ap (λ gs. slice_get (map function_of gs) number) (sym c.deref.ensures.value) ∙
    (slice_get-map function_of c.deref.result.now number ∙ ap (λ o. option_map function_of o) past)))
