use Rattle.std.proofs.Common.{inl, inr, refl, List, subst}
use Rattle.wg_top.specs.declared.cached.Held.{Held}
use Rattle.wg_top.specs.Holding.{IsNamedIn}
use Rattle.wg_top.proofs.CachedLemmas.{among_held}
use Rattle.wg_top.proofs.cached.hold_once.Goals as goal

pub returns-in-Some-clause-held : goal.returns-in-Some-clause-held
returns-in-Some-clause-held g c =
    let among = c.in-Some.ensures.0 in
    inl (
      refl,
      subst (λ (hs : List Held). IsNamedIn hs c.args.kernel.now) c.deref.ensures.value
          (among_held c.deref.result.now c.in-Some.field-0.now c.args.kernel.now among.0 among.1 among.2
          c.in-Some.ensures.1),
    )

pub returns-in-Ok-push-clause-held : goal.returns-in-Ok-push-clause-held
returns-in-Ok-push-clause-held g c =
    inr (record {
      one = c.in-Ok.one;
      new_is = c.in-Ok-push.ensures;
      named = c.in-Ok.ensures.kernel;
      has = c.in-Ok.ensures.has;
      shell = c.in-Ok.ensures.shell;
    })
