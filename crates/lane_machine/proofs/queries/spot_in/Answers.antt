use Rattle.std.proofs.Common.{◌≡◌, ◌∙◌, ◌+◌, ◌*◌, ◌/◌, ◌%◌, sym, ap}
use Rattle.std.proofs.lemmas.Nat.{div-mul-add, mod-mul-add}
use Rattle.cl_model.specs.Sizes.{group_size}
use Rattle.cl_model.specs.View.{launch_of}
use Rattle.lane_machine.proofs.queries.spot_in.Goals as goal

pub returns-clause-spot : goal.returns-clause-spot
returns-clause-spot c =
    let size = group_size (launch_of c.args.launch.now) in
    let e : c.whole-size.result ≡ size = c.whole-size.ensures.value in
    let at = c.args.place.group * c.whole-size.result + c.args.place.local in
    let same : at ≡ c.args.place.group * size + c.args.place.local =
    ap (λ n. c.args.place.group * n + c.args.place.local) e in
    record {
      group = sym (ap (λ n. n / size) same ∙ div-mul-add c.args.place.group size c.args.place.local
          c.requires.below);
      local = sym (ap (λ n. n % size) same ∙ mod-mul-add c.args.place.group size c.args.place.local
          c.requires.below);
    }
