use Rattle.std.proofs.Common.{◌≡◌, Option, Some, option_map, map, slice_get, arith, ap, sym, ◌∙◌}
use Rattle.std.proofs.lemmas.Bool.Decides.{nat_tests}
use Rattle.std.proofs.lemmas.Option.{slice_get-map, slice_get-get_or, slice_get_past}
use Rattle.std.proofs.lemmas.Result.{IfOk-weaker}
use Rattle.cl_meaning.specs.Environment.{Signature}
use Rattle.cl_meaning.specs.Visible.{own_scope}
use Rattle.cl_scope.specs.View.{signature_of, visible_in}
use Rattle.cl_scope.proofs.between.own_scope.Goals as goal

pub returns-in-Some : goal.returns-in-Some
returns-in-Some c =
    let number = c.args.environment.now.owner.number in
    let there : slice_get c.deref.result.now number ≡ Some c.in-Some.own.now =
    slice_get-get_or c.deref.result.now number c.in-Some.own.now c.in-Some.ensures.lookup.3.0 ∙
    ap Some (sym (c.in-Some.ensures.lookup.3.1 c.in-Some.own.now)) in
    let own : slice_get (map signature_of c.args.environment.now.functions.items) number ≡
    Some (signature_of c.in-Some.own.now) =
    ap (λ gs. slice_get (map signature_of gs) number) (sym c.deref.ensures.value) ∙
    (slice_get-map signature_of c.deref.result.now number ∙ ap (λ o. option_map signature_of o) there) in
    IfOk-weaker c.named_scope.result _ _
    (λ s h. h ∙ ap (λ (o : Option Signature). own_scope (visible_in c.args.environment.now) number o) (sym own))
    c.named_scope.ensures

pub returns-in-None : goal.returns-in-None
returns-in-None c =
    let number = c.args.environment.now.owner.number in
    let no = c.in-None.ensures.lookup.0 in
    let past = slice_get_past c.deref.result.now number (grind (arith, nat_tests)) in
    c.no_names.ensures
    ∙ ap (λ (o : Option Signature). own_scope (visible_in c.args.environment.now) number o)
    (sym (ap (λ gs. slice_get (map signature_of gs) number) (sym c.deref.ensures.value) ∙
    (slice_get-map signature_of c.deref.result.now number ∙ ap (λ o. option_map signature_of o) past)))
