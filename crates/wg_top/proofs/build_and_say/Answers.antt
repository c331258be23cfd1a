use Rattle.std.proofs.Common.{inl, inr, refl}
use Rattle.wg_top.proofs.build_and_say.Goals as goal

pub returns-in-Ok-say_built : goal.returns-in-Ok-say_built
returns-in-Ok-say_built g c = inl (record {
  status_is = refl;
  built = c.in-Ok.ensures.ok;
  said = c.in-Ok-say_built.ensures.appended;
  err_stays = refl;
})

pub returns-in-Err-say_built : goal.returns-in-Err-say_built
returns-in-Err-say_built g c = inr (inl (record {
  status_is = refl;
  built = c.in-Ok.ensures.ok;
  failed = c.in-Err-say_built.ensures.failed;
  part = c.in-Err-say_built.ensures.part;
  said = c.say_error.ensures.said;
}))
