use Rattle.std.proofs.Common.{◌≡◌, ◌<◌, ◌∙◌, ℕ, true, ap, sym, subst}
use Rattle.cl_model.specs.Sizes.{group_count}
use Rattle.cl_model.specs.View.{launch_of}
use Rattle.lane_code.specs.declared.code.Node.{Node}
use Rattle.lane_code.specs.Program.{work_fits, names_of, work_of}
use Rattle.lane_code.specs.View.{plain_of}
use Rattle.lane_machine.specs.Held.{Held}
use Rattle.std.proofs.lemmas.Bool.{and_parts}
use Rattle.examples_compiled.proofs.Chunks.{chunk_there, group_there}
use Rattle.examples_compiled.proofs.tests.operations.Goals as goal

pub region-end-requires-clause-code : goal.region-end-requires-clause-code
region-end-requires-clause-code c =
    subst (λ (n : Node). work_fits (names_of (plain_of c.args.ready.now.group)) (work_of n) ≡ true) c.in-Items.is
    (and_parts _ _ c.args.ready.now.group.valid).0

pub region-end-requires-clause-chunk : goal.region-end-requires-clause-chunk
region-end-requires-clause-chunk c = chunk_there _ _ c.args.ready.now.launch c.requires c.args.ready.now.group.width

pub region-end-requires-clause-number : goal.region-end-requires-clause-number
region-end-requires-clause-number c =
    subst (λ (n : ℕ). n < group_count (launch_of c.args.ready.now.launch)) (sym
    (ap (λ (g : Held). g.number) (c.deref_mut-2.ensures.value ∙ c.in_ok-group.ensures.value) ∙
    c.in_ok-new-2.ensures.number))
    (group_there _ _ c.args.ready.now.launch c.requires)
