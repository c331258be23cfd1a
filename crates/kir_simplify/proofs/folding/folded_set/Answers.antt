use Rattle.std.proofs.Common.{List, Option, ap, ◌∙◌}
use Rattle.kir.specs.declared.line.Atom.{Atom}
use Rattle.kir.specs.Listed.{work_of}
use Rattle.kir_simplify.specs.Passes.{settled_work, known_work}
use Rattle.kir_simplify.specs.Tables.{known_by, known_in, offsets_by, once_by}
use Rattle.kir_simplify.proofs.Folds.{learnt_where, set_folded}
use Rattle.kir_simplify.proofs.Computed.{set_asked}
use Rattle.kir_simplify.proofs.folding.folded_set.Goals as goal

pub returns-clause-line : goal.returns-clause-line
returns-clause-line c =
    let known = known_in c.args.facts.now c.args.in_loop in
    set_folded (once_by c.args.facts.now) (offsets_by c.args.facts.now) (known c.args.known.now.items)
    (known c.learn.new.known.items) c.args.to (work_of c.args.work.now) (work_of c.in_ok-work.work)
    (c.in_ok-work.ensures ∙ ap (λ (x : List (Option Atom)). settled_work (known_work (known x)
    (work_of c.args.work.now))) c.deref.ensures.value)
    (learnt_where (once_by c.args.facts.now) (offsets_by c.args.facts.now) c.args.in_loop
    (known_by c.args.known.now.items) (known_by c.learn.new.known.items) c.args.to (work_of c.in_ok-work.work)
    c.in_ok-learn.ensures.known)

pub returns-clause-computable : goal.returns-clause-computable
returns-clause-computable c = λ rest asked.
    let known = known_in c.args.facts.now c.args.in_loop in
    set_asked (once_by c.args.facts.now) (offsets_by c.args.facts.now) (known c.args.known.now.items)
    (known c.learn.new.known.items) c.args.to (work_of c.args.work.now) (work_of c.in_ok-work.work)
    (c.in_ok-work.ensures ∙ ap (λ (x : List (Option Atom)). settled_work (known_work (known x)
    (work_of c.args.work.now))) c.deref.ensures.value)
    (learnt_where (once_by c.args.facts.now) (offsets_by c.args.facts.now) c.args.in_loop
    (known_by c.args.known.now.items) (known_by c.learn.new.known.items) c.args.to (work_of c.in_ok-work.work)
    c.in_ok-learn.ensures.known) rest asked
