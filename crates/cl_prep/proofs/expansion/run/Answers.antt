use Rattle.std.proofs.Common.{List, length, take, drop, get_or, Bool, false, ◌+◌, ◌-◌, refl, sym, subst, ◌∙◌, arith, ap}
use Rattle.std.proofs.lemmas.List.{take_rest}
use Rattle.cl_prep.specs.Expands.{start_state}
use Rattle.cl_prep.specs.Frames.{StopsBy, IsTooMuch}
use Rattle.cl_prep.specs.declared.replace.Stop.{Stop}
use Rattle.cl_prep.specs.ScopeViews.{scope_of}
use Rattle.cl_prep.proofs.Advances.{obeys, disobeys, line_within, passes, reads, read_few, read_seldom, exceeds}
use Rattle.cl_prep.proofs.Advances.{left_open, begun}
use Rattle.cl_prep.proofs.expansion.run.Goals as goal
use Rattle.cl_prep.proofs.expansion.run.Goals.{then-is_active+in-Ok, else-is_active}

pub loop-at-init : goal.loop-at-init
loop-at-init c = record {
  within = omega arith;
  led =
      begun c.args.tokens.now (scope_of c.args.scope) c.new-out.result.items c.requires.closed c.new-out.ensures.items;
  clear = λ number. ap (λ (l : List Bool). get_or l number false) c.new-marks.ensures.items;
  few = omega (arith, ap length c.new-out.ensures.items);
  seldom = omega arith;
}

pub returns-in-Err : goal.returns-in-Err
returns-in-Err c =
    disobeys (start_state c.args.tokens.now (scope_of c.args.scope).names) c.args.tokens.now c.loop-at.at
    c.index-tokens-at.result (scope_of c.loop-at.scope) c.loop-at.out.items c.loop-at.replaced
    (take (length c.args.tokens.now - (c.loop-at.at + 1)) (drop (c.loop-at.at + 1) c.args.tokens.now))
    (take c.line_length-length.result (take (length c.args.tokens.now - (c.loop-at.at + 1))
    (drop (c.loop-at.at + 1) c.args.tokens.now))) c.line_length-length.result c.in-Err.error
    c.loop-at.invariant.led c.loop-at-test.true c.index-tokens-at.is (sym c.begins_directive.ensures ∙
    c.if-begins_directive.true) (record {
      all = take_rest c.args.tokens.now (c.loop-at.at + 1);
      run = c.line_length-length.ensures.run;
      within = c.line_length-length.ensures.within;
      front = refl;
    })
    c.in-Err.ensures

pub loop-at-preserved-then-begins_directive : goal.loop-at-preserved-then-begins_directive
loop-at-preserved-then-begins_directive c = record {
  within = line_within (start_state c.args.tokens.now (scope_of c.args.scope).names) c.args.tokens.now c.loop-at.at
      c.index-tokens-at.result (scope_of c.loop-at.scope) c.loop-at.out.items c.loop-at.replaced
      (take (length c.args.tokens.now - (c.loop-at.at + 1)) (drop (c.loop-at.at + 1) c.args.tokens.now))
      (take c.line_length-length.result (take (length c.args.tokens.now - (c.loop-at.at + 1))
      (drop (c.loop-at.at + 1) c.args.tokens.now))) c.line_length-length.result
      (record {
        all = take_rest c.args.tokens.now (c.loop-at.at + 1);
        run = c.line_length-length.ensures.run;
        within = c.line_length-length.ensures.within;
        front = refl;
      }) c.loop-at-test.true;
  led = obeys (start_state c.args.tokens.now (scope_of c.args.scope).names) c.args.tokens.now c.loop-at.at
      c.index-tokens-at.result (scope_of c.loop-at.scope) c.loop-at.out.items c.loop-at.replaced
      (take (length c.args.tokens.now - (c.loop-at.at + 1)) (drop (c.loop-at.at + 1) c.args.tokens.now))
      (take c.line_length-length.result (take (length c.args.tokens.now - (c.loop-at.at + 1))
      (drop (c.loop-at.at + 1) c.args.tokens.now))) c.line_length-length.result (scope_of c.obey.new.self)
      c.loop-at.invariant.led c.loop-at-test.true c.index-tokens-at.is (sym c.begins_directive.ensures ∙
      c.if-begins_directive.true) (record {
        all = take_rest c.args.tokens.now (c.loop-at.at + 1);
        run = c.line_length-length.ensures.run;
        within = c.line_length-length.ensures.within;
        front = refl;
      })
      c.in_default.ensures;
  clear = c.loop-at.invariant.clear;
  few = c.loop-at.invariant.few;
  seldom = c.loop-at.invariant.seldom;
}

pub returns-in-Err-TooMany : goal.returns-in-Err-TooMany
returns-in-Err-TooMany c =
    exceeds (start_state c.args.tokens.now (scope_of c.args.scope).names) c.args.tokens.now c.loop-at.at
    c.index-tokens-at.result (scope_of c.loop-at.scope) c.loop-at.out.items c.loop-at.replaced
    c.loop-at.invariant.led c.loop-at-test.true c.index-tokens-at.is (sym c.begins_directive.ensures ∙
    c.if-begins_directive.false) (sym c.is_active.ensures ∙ c.if-is_active.true)
    (subst (λ (e : Stop). StopsBy e (IsTooMuch (scope_of c.loop-at.scope).names c.index-tokens-at.result
    c.loop-at.out.items c.loop-at.replaced)) c.in-Err-TooMany.field-0-is c.in-Err-TooMany.ensures.err)

pub loop-at-preserved : goal.loop-at-preserved
loop-at-preserved c = elim c.if-is_active.branch [
  | then-is_active+in-Ok w ↦ (
      let active = sym c.is_active.ensures ∙ w.if-is_active.true in
      rw (w.marks-is, w.out-is, w.replaced-is) (record {
        within = omega arith;
        led = reads (start_state c.args.tokens.now (scope_of c.args.scope).names) c.args.tokens.now c.loop-at.at
            c.index-tokens-at.result (scope_of c.loop-at.scope) c.loop-at.out.items c.loop-at.replaced
            w.read.new.out.items w.in-Ok.count c.loop-at.invariant.led c.loop-at-test.true c.index-tokens-at.is
            (sym c.begins_directive.ensures ∙ c.if-begins_directive.false) active w.in-Ok.ensures.ok;
        clear = w.in-Ok.ensures.clear;
        few = read_few (start_state c.args.tokens.now (scope_of c.args.scope).names) c.args.tokens.now c.loop-at.at
            c.index-tokens-at.result (scope_of c.loop-at.scope) c.loop-at.out.items c.loop-at.replaced
            w.read.new.out.items w.in-Ok.count w.in-Ok.ensures.ok;
        seldom = read_seldom (start_state c.args.tokens.now (scope_of c.args.scope).names) c.args.tokens.now
            c.loop-at.at c.index-tokens-at.result (scope_of c.loop-at.scope) c.loop-at.out.items c.loop-at.replaced
            w.read.new.out.items w.in-Ok.count c.loop-at.invariant.seldom w.in-Ok.ensures.ok;
      }))
  | else-is_active w ↦ (
      let idle = sym c.is_active.ensures ∙ w.if-is_active.false in
      rw (w.marks-is, w.out-is, w.replaced-is) (record {
        within = omega arith;
        led = passes (start_state c.args.tokens.now (scope_of c.args.scope).names) c.args.tokens.now c.loop-at.at
            c.index-tokens-at.result (scope_of c.loop-at.scope) c.loop-at.out.items c.loop-at.replaced
            c.loop-at.invariant.led c.loop-at-test.true c.index-tokens-at.is (sym c.begins_directive.ensures ∙
            c.if-begins_directive.false) idle;
        clear = c.loop-at.invariant.clear;
        few = c.loop-at.invariant.few;
        seldom = c.loop-at.invariant.seldom;
      }))
]

pub returns-in-Some : goal.returns-in-Some
returns-in-Some c =
    left_open (start_state c.args.tokens.now (scope_of c.args.scope).names) c.args.tokens.now c.loop-at.at
    (scope_of c.loop-at.scope) c.loop-at.out.items c.loop-at.replaced c.in-Some.token c.loop-at.invariant.led
    c.loop-at-test.false c.in-Some.ensures.some
