use Rattle.std.proofs.Common.{◌≡◌, ◌<◌, ◌&&◌, Bool, List, not, true, Some, slice_get, length, sym, ap, ◌∙◌, arith}
use Rattle.std.proofs.lemmas.Option.{slice_get-get_or}
use Rattle.cl_faults.specs.Reach.{marked}
use Rattle.cl_faults.proofs.Spreading.{spreads_open}
use Rattle.cl_faults.proofs.spread.follow.Goals as goal

pub returns : goal.returns
returns c =
    let there : slice_get c.args.calls.now c.args.place ≡ Some c.in-Some.call.now =
    slice_get-get_or c.args.calls.now c.args.place c.in-Some.call.now c.in-Some.ensures.lookup.3.0 ∙
    ap Some (sym (c.in-Some.ensures.lookup.3.1 c.in-Some.call.now)) in
    let within : c.in-Some.call.now.called < length c.args.search.marks.items =
    omega (arith, c.len.ensures, c.if-called-len.false) in
    let leads : (marked c.args.search.marks.items c.in-Some.call.now.caller &&
    not (marked c.args.search.marks.items c.in-Some.call.now.called)) ≡ true =
    ap (λ (m : List Bool). marked m c.in-Some.call.now.caller && not (marked m c.in-Some.call.now.called))
    (sym c.deref.ensures.value) ∙ (sym c.opens.ensures ∙ c.if-not-opens.false) in
    spreads_open c.args.calls.now c.args.search.marks.items c.args.place c.in-Some.call.now there within leads
