use Rattle.std.proofs.Common.{◌≡◌, Some, None, refl, sym, ap, subst}
use Rattle.launch_file.specs.Values.{HasOneLength}
use Rattle.launch_file.specs.Binding as spec
use Rattle.launch_file.specs.NeedsView.{needs_of}
use Rattle.launch_file.specs.Texts.{part_of, text_of}
use Rattle.launch_file.proofs.Accepted.{few_buffers}
use Rattle.launch_file.proofs.Order.{part_there, same_refusal, same_launch}
use Rattle.launch_file.proofs.bind.bind_kernel.Goals as goal

pub returns-in-Some-clause-refused : goal.returns-in-Some-clause-refused
returns-in-Some-clause-refused c = λ first is.
    let part : part_of c.index-part.result.now ≡ spec.part_at (text_of c.args.text.now) c.args.which =
    part_there part_of c.args.text.now.list.items c.args.which c.index-part.result.now _ c.requires.within
    c.index-part.ensures in
    let same : c.in-Some.refusal ≡ first = cc is in
    same_refusal (needs_of c.args.needs.now) c.as_slice-buffers.result.now c.args.text.now.buffers.items
    (part_of c.index-part.result.now) (spec.part_at (text_of c.args.text.now) c.args.which)
    (Some c.in-Some.refusal) (Some first) c.as_slice-buffers.ensures.value part (ap Some same)
    c.in-Some.ensures.some

pub launch_of-requires-clause-few : goal.launch_of-requires-clause-few
launch_of-requires-clause-few c =
    few_buffers (needs_of c.args.needs.now) c.as_slice-buffers.result.now (part_of c.index-part.result.now)
    c.in_default.ensures.none

pub launch_of-requires-clause-one_length : goal.launch_of-requires-clause-one_length
launch_of-requires-clause-one_length c =
    subst (λ p. HasOneLength (part_of p)) (sym c.index-part.ensures)
    (c.requires.lengths c.args.which c.index-part.result.now c.requires.within)

pub returns-clause-bound : goal.returns-clause-bound
returns-clause-bound c =
    let part : part_of c.index-part.result.now ≡ spec.part_at (text_of c.args.text.now) c.args.which =
    part_there part_of c.args.text.now.list.items c.args.which c.index-part.result.now _ c.requires.within
    c.index-part.ensures in
    record {
      accepted = same_refusal (needs_of c.args.needs.now) c.as_slice-buffers.result.now c.args.text.now.buffers.items
          (part_of c.index-part.result.now) (spec.part_at (text_of c.args.text.now) c.args.which) None None
          c.as_slice-buffers.ensures.value part refl c.in_default.ensures.none;
      is_its = same_launch c.args.text.now.turns c.as_slice-buffers.result.now c.args.text.now.buffers.items
          (part_of c.index-part.result.now) (spec.part_at (text_of c.args.text.now) c.args.which) c.in_ok-launch.launch
          c.as_slice-buffers.ensures.value part c.in_ok-launch.ensures.is_its;
    }
