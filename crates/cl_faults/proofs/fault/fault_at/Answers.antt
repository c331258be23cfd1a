use Rattle.std.proofs.Common.{◌≡◌, Bool, Option, None, Some, Ok, Err, IfOk, Result, sym, ◌∙◌, find}
use Rattle.wg_num.specs.declared.types.Memory.{Memory}
use Rattle.cl_meaning.specs.declared.fault.Fault.{Fault}
use Rattle.cl_meaning.specs.Faults.{at_fault}
use Rattle.cl_faults.specs.View.{asked_of, looked_of}
use Rattle.cl_faults.specs.Least.{expression_faults, declaration_faults, statement_faults, IsLeastOf}
use Rattle.cl_faults.proofs.LeastFaults.{least_expression, least_declaration, least_of_all}
use Rattle.cl_faults.proofs.fault.fault_at.Goals as goal

pub returns-in-Some : goal.returns-in-Some
returns-in-Some c =
    let first : find (at_fault (asked_of c.args.asked.now) (looked_of c.args.node)) expression_faults ≡
    Some c.in-Some.fault = sym (c.in_ok-fault.ensures (asked_of c.args.asked.now)) ∙ c.in-Some.is in
    least_expression (at_fault (asked_of c.args.asked.now) (looked_of c.args.node)) c.in-Some.fault first

pub returns-in-Some-2 : goal.returns-in-Some-2
returns-in-Some-2 c =
    let none : find (at_fault (asked_of c.args.asked.now) (looked_of c.args.node)) expression_faults ≡ None =
    sym (c.in_ok-fault.ensures (asked_of c.args.asked.now)) ∙ c.in_default.is in
    let first : find (at_fault (asked_of c.args.asked.now) (looked_of c.args.node)) declaration_faults ≡
    Some c.in-Some-2.fault = sym c.in_ok-fault-2.ensures ∙ c.in-Some-2.is in
    least_declaration (at_fault (asked_of c.args.asked.now) (looked_of c.args.node)) c.in-Some-2.fault none first

on_ok : (p : Fault → Bool) (r : Result (Option Fault) Memory) → find p expression_faults ≡ None →
    find p declaration_faults ≡ None
    → IfOk r (λ o. o ≡ find p statement_faults) → IfOk r (λ o. IsLeastOf p o)
on_ok p (Ok o) g d h = least_of_all p o g d h
on_ok p (Err e) g d h = h

pub returns : goal.returns
returns c =
    let none : find (at_fault (asked_of c.args.asked.now) (looked_of c.args.node)) expression_faults ≡ None =
    sym (c.in_ok-fault.ensures (asked_of c.args.asked.now)) ∙ c.in_default.is in
    let no_more : find (at_fault (asked_of c.args.asked.now) (looked_of c.args.node)) declaration_faults ≡ None =
    sym c.in_ok-fault-2.ensures ∙ c.in_default-2.is in
    on_ok (at_fault (asked_of c.args.asked.now) (looked_of c.args.node)) c.statement_fault.result none no_more
    c.statement_fault.ensures
