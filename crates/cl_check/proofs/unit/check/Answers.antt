use Rattle.std.proofs.Common.{map, List, ap, ◌∙◌}
use Rattle.cl_model.specs.declared.program.Program.{Program}
use Rattle.cl_tree.specs.declared.tree.Tree.{Tree}
use Rattle.cl_tree.specs.Syntax.{view, views}
use Rattle.cl_meaning.specs.Faults.{Asked}
use Rattle.cl_meaning.specs.declared.call.Call.{Call}
use Rattle.cl_meaning.specs.Calls.{call_of}
use Rattle.cl_faults.specs.View.{asked_of}
use Rattle.cl_limits.specs.Kernel.{limit_of, sized_of}
use Rattle.cl_check.proofs.Judging.{fault_then, parts_is}
use Rattle.cl_check.proofs.Deciding.{accepted_or_not, refused_once, first_refused, over_refused}
use Rattle.cl_check.proofs.unit.check.Goals as goal

pub returns-in-Err-clause-never_accepted : goal.returns-in-Err-clause-never_accepted
returns-in-Err-clause-never_accepted c =
    fault_then Program Program c.in-Err.e _ _ c.in-Err.ensures.faulted
    (λ k token x. accepted_or_not c.args.places.now c.args.kernel.now (view c.args.unit.now) k token
    (first_refused c.args.places.now c.args.kernel.now (view c.args.unit.now) (asked_of c.in_ok-asked.asked) k token
    c.in_ok-asked.ensures x))

pub returns-in-Err-clause-only : goal.returns-in-Err-clause-only
returns-in-Err-clause-only c =
    fault_then Program Program c.in-Err.e _ _ c.in-Err.ensures.faulted
    (λ k token x j other y. refused_once c.args.places.now c.args.kernel.now (view c.args.unit.now) k token j other
    (first_refused c.args.places.now c.args.kernel.now (view c.args.unit.now) (asked_of c.in_ok-asked.asked) k token
    c.in_ok-asked.ensures x) y)

pub returns-clause-refused : goal.returns-clause-refused
returns-clause-refused c =
    over_refused c.args.places.now c.args.kernel.now c.in_ok-asked.asked.kernel (view c.args.unit.now)
    (asked_of c.in_ok-asked.asked) c.in-Ok.program c.in_ok-limit_of-in-Ok.field-0 c.in-Some.fault c.start_token.result
    (views c.deref-in-Some.result.now)
    c.in_ok-asked.ensures (ap (λ (a : Asked). a.kernel) c.in_ok-asked.ensures) c.in-Ok.ensures.sound
    c.in-Ok.ensures.program
    (c.in_ok-limit_of-in-Ok.ensures ∙ ap (λ (l : List Call).
    limit_of (sized_of (view c.args.unit.now) (map call_of l) c.in-Ok.program)) c.deref.ensures.value)
    c.in-Some.is
    (ap (λ (l : List Tree). views l) c.deref-in-Some.ensures.value ∙ parts_is c.args.unit.now) c.start_token.ensures

pub returns-clause-never_accepted : goal.returns-clause-never_accepted
returns-clause-never_accepted c =
    accepted_or_not c.args.places.now c.args.kernel.now (view c.args.unit.now) c.in-Some.fault c.start_token.result
    (returns-clause-refused c)

pub returns-clause-only : goal.returns-clause-only
returns-clause-only c = λ j other y. refused_once c.args.places.now c.args.kernel.now (view c.args.unit.now)
    c.in-Some.fault c.start_token.result j other (returns-clause-refused c) y
