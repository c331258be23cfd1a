use Rattle.std.proofs.Common.{Some, sym, ap, subst, ◌∙◌}
use Rattle.cl_prep.specs.Names.{Names}
use Rattle.cl_prep.specs.Start.{with_defines}
use Rattle.cl_prep.specs.Directives.{Scope}
use Rattle.cl_prep.specs.Expands.{start_state}
use Rattle.cl_prep.specs.Progress.{Finishes}
use Rattle.cl_prep.specs.Table.{names_of}
use Rattle.cl_prep.proofs.Outcomes.{all_few, all_inside, all_expands, all_tokens, all_refused, all_faults}
use Rattle.cl_prep.proofs.Outcomes.{twice_refused}
use Rattle.cl_prep.proofs.expansion.expand.Goals as goal

pub returns-in-Err-clause-refused : goal.returns-in-Err-clause-refused
returns-in-Err-clause-refused c =
    twice_refused c.args.tokens.now c.args.defines.now.list.items (with_defines (Some (names_of c.in_ok-names.names))
    c.as_slice.result.now) c.in-Err.error (names_of c.add_defines.new.names)
    (ap (with_defines (Some (names_of c.in_ok-names.names))) c.as_slice.ensures.value ∙
    ap (λ (n : Names). with_defines (Some n) c.args.defines.now.list.items) c.in_ok-names.ensures)
    c.in-Err.ensures

pub returns-clause-few : goal.returns-clause-few
returns-clause-few c = all_few c.args.tokens.now (names_of c.add_defines.new.names) c.run.result
    (subst (λ (s : Scope). Finishes (start_state c.args.tokens.now s.names) c.run.result) c.new.ensures c.run.ensures)

pub returns-clause-inside : goal.returns-clause-inside
returns-clause-inside c = λ n h. all_inside c.args.tokens.now (names_of c.add_defines.new.names) c.run.result
    (subst (λ (s : Scope). Finishes (start_state c.args.tokens.now s.names) c.run.result) c.new.ensures c.run.ensures)
    n h

pub returns-clause-expands : goal.returns-clause-expands
returns-clause-expands c = all_expands c.args.tokens.now c.args.defines.now.list.items
    (names_of c.add_defines.new.names) (ap (λ (n : Names). with_defines (Some n) c.args.defines.now.list.items)
    (sym c.in_ok-names.ensures) ∙ ap (with_defines (Some (names_of c.in_ok-names.names)))
    (sym c.as_slice.ensures.value) ∙
    c.in_default.ensures) c.run.result
    (subst (λ (s : Scope). Finishes (start_state c.args.tokens.now s.names) c.run.result) c.new.ensures c.run.ensures)

pub returns-clause-all : goal.returns-clause-all
returns-clause-all c = λ out h. all_tokens c.args.tokens.now c.args.defines.now.list.items
    (names_of c.add_defines.new.names) (ap (λ (n : Names). with_defines (Some n) c.args.defines.now.list.items)
    (sym c.in_ok-names.ensures) ∙ ap (with_defines (Some (names_of c.in_ok-names.names)))
    (sym c.as_slice.ensures.value) ∙
    c.in_default.ensures) c.run.result
    (subst (λ (s : Scope). Finishes (start_state c.args.tokens.now s.names) c.run.result) c.new.ensures c.run.ensures)
    out h

pub returns-clause-refused : goal.returns-clause-refused
returns-clause-refused c = all_refused c.args.tokens.now c.args.defines.now.list.items
    (names_of c.add_defines.new.names) (ap (λ (n : Names). with_defines (Some n) c.args.defines.now.list.items)
    (sym c.in_ok-names.ensures) ∙ ap (with_defines (Some (names_of c.in_ok-names.names)))
    (sym c.as_slice.ensures.value) ∙
    c.in_default.ensures) c.run.result
    (subst (λ (s : Scope). Finishes (start_state c.args.tokens.now s.names) c.run.result) c.new.ensures c.run.ensures)

pub returns-clause-fault : goal.returns-clause-fault
returns-clause-fault c = λ e h. all_faults c.args.tokens.now c.args.defines.now.list.items
    (names_of c.add_defines.new.names) (ap (λ (n : Names). with_defines (Some n) c.args.defines.now.list.items)
    (sym c.in_ok-names.ensures) ∙ ap (with_defines (Some (names_of c.in_ok-names.names)))
    (sym c.as_slice.ensures.value) ∙
    c.in_default.ensures) c.run.result
    (subst (λ (s : Scope). Finishes (start_state c.args.tokens.now s.names) c.run.result) c.new.ensures c.run.ensures)
    e h
