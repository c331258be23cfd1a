use Rattle.std.proofs.Common.{◌≡◌, ◌+◌, ◌<◌, suc, true, false, Bool, List, length, get_or-set_same, map, set}
use Rattle.std.proofs.Common.{replicate, None, sym, ap, subst, ◌∙◌, arith, length-set}
use Rattle.cl_meaning.specs.Calls.{call_of}
use Rattle.cl_faults.specs.Reach.{marked, most, open_in, Sound}
use Rattle.cl_faults.proofs.Reaching.{Open, open_found, sound_first, sound_step, set_stays, most_from, most_edge}
use Rattle.cl_faults.proofs.Reaching.{fewer, answer_is}
use Rattle.cl_faults.proofs.reach.leads_back.Goals as goal

pub index_mut-requires : goal.index_mut-requires
index_mut-requires c =
    omega (arith, c.in-Ok.ensures.len, most_from c.args.from (map call_of c.args.calls.now), c.most_number.ensures)

pub loop-called-init : goal.loop-called-init
loop-called-init c =
    let e : c.in-Ok.reached.items ≡ replicate (c.most_number.result + 1) false =
    c.in-Ok.ensures.items_if_clones_equal (λ y h. h) in
    let b : c.args.from < length c.in-Ok.reached.items =
    omega (
      arith,
      c.in-Ok.ensures.len,
      most_from c.args.from (map call_of c.args.calls.now),
      c.most_number.ensures,
    ) in
    let s : Sound (map call_of c.args.calls.now) c.args.from (set c.in-Ok.reached.items c.args.from true) =
    subst (λ (m : List Bool). Sound (map call_of c.args.calls.now) c.args.from (set m c.args.from true)) (sym e)
    (sound_first (map call_of c.args.calls.now) c.args.from (c.most_number.result + 1)) in
    let n : length (set c.in-Ok.reached.items c.args.from true) ≡
    suc (most c.args.from (map call_of c.args.calls.now)) =
    omega (arith, length-set c.in-Ok.reached.items c.args.from true, c.in-Ok.ensures.len, c.most_number.ensures) in
    record {
      sound = c.in_ok-marks.ensures.sound c.args.from s;
      begins = c.in_ok-marks.ensures.stays c.args.from (get_or-set_same c.in-Ok.reached.items c.args.from true false b);
      within = c.in_ok-marks.ensures.within ∙ n;
    }

pub index_mut-requires-in-Some : goal.index_mut-requires-in-Some
index_mut-requires-in-Some c =
    let o : Open c.loop-called.marks.items (map call_of c.args.calls.now) c.in-Some.called =
    open_found c.loop-called.marks.items (map call_of c.args.calls.now) c.in-Some.called
    (ap (λ (m : List Bool). open_in m (map call_of c.args.calls.now)) (sym c.deref.ensures.value) ∙
    sym c.in-Some.ensures) in
    omega (
      arith,
      most_edge c.args.from (map call_of c.args.calls.now) o.caller c.in-Some.called o.call,
      c.loop-called.invariant.within,
    )

pub loop-called-smaller : goal.loop-called-smaller
loop-called-smaller c =
    let o : Open c.loop-called.marks.items (map call_of c.args.calls.now) c.in-Some.called =
    open_found c.loop-called.marks.items (map call_of c.args.calls.now) c.in-Some.called
    (ap (λ (m : List Bool). open_in m (map call_of c.args.calls.now)) (sym c.deref.ensures.value) ∙
    sym c.in-Some.ensures) in
    fewer c.loop-called.marks.items c.in-Some.called (omega (
      arith,
      most_edge c.args.from (map call_of c.args.calls.now) o.caller c.in-Some.called o.call,
      c.loop-called.invariant.within,
    )) o.fresh

pub loop-called-preserved : goal.loop-called-preserved
loop-called-preserved c =
    let o : Open c.loop-called.marks.items (map call_of c.args.calls.now) c.in-Some.called =
    open_found c.loop-called.marks.items (map call_of c.args.calls.now) c.in-Some.called
    (ap (λ (m : List Bool). open_in m (map call_of c.args.calls.now)) (sym c.deref.ensures.value) ∙
    sym c.in-Some.ensures) in
    let b : c.in-Some.called < length c.loop-called.marks.items =
    omega (
      arith,
      most_edge c.args.from (map call_of c.args.calls.now) o.caller c.in-Some.called o.call,
      c.loop-called.invariant.within,
    ) in
    record {
      sound = sound_step (map call_of c.args.calls.now) c.args.from c.loop-called.marks.items o.caller
          c.in-Some.called c.loop-called.invariant.sound b o.reached o.fresh o.call;
      begins = set_stays c.loop-called.marks.items c.in-Some.called c.args.from b c.loop-called.invariant.begins;
      within = length-set c.loop-called.marks.items c.in-Some.called true ∙ c.loop-called.invariant.within;
    }

pub returns : goal.returns
returns c =
    let none : open_in c.loop-called.marks.items (map call_of c.args.calls.now) ≡ None =
    ap (λ (m : List Bool). open_in m (map call_of c.args.calls.now)) (sym c.deref.ensures.value) ∙
    (sym c.open_call.ensures ∙ c.in_default.is) in
    c.is_marked.ensures ∙ (ap (λ (m : List Bool). marked m c.args.to) c.deref-2.ensures.value ∙
    answer_is (map call_of c.args.calls.now) c.loop-called.marks.items c.args.from c.args.to
    c.loop-called.invariant.sound none c.loop-called.invariant.begins)
