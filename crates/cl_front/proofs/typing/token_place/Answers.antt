use Rattle.std.proofs.Common.{◌≡◌, ◌∙◌, Some, sym, ap}
use Rattle.std.specs.Prelude.{slice_get}
use Rattle.std.proofs.lemmas.Option.{slice_get-get_or}
use Rattle.cl_front.proofs.CompileLemmas.{place_there}
use Rattle.cl_front.proofs.typing.token_place.Goals as goal

pub returns-in-Some : goal.returns-in-Some
returns-in-Some c =
    let there : slice_get c.deref.result.now c.args.token ≡ Some c.in-Some.place.now =
    slice_get-get_or c.deref.result.now c.args.token c.in-Some.place.now c.in-Some.ensures.lookup.3.0 ∙
    ap Some (sym (c.in-Some.ensures.lookup.3.1 c.in-Some.place.now)) in
    λ bytes same end. place_there bytes c.args.source.now.tokens.items c.args.token c.in-Some.place.now (cc (
      there,
      c.deref.ensures.value,
      same,
    ))
