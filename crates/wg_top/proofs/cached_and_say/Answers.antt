use Rattle.std.proofs.Common.{inl, inr, refl}
use Rattle.wg_top.proofs.cached_and_say.Goals as goal

pub returns-in-Ok-say_done : goal.returns-in-Ok-say_done
returns-in-Ok-say_done g c = inl (record {
  summary = c.in-Ok.summary;
  status_is = refl;
  done = c.in-Ok.ensures.ok;
  said = c.in-Ok-say_done.ensures.appended;
  err_stays = refl;
})

pub returns-in-Err-say_done : goal.returns-in-Err-say_done
returns-in-Err-say_done g c = inr (inl (record {
  summary = c.in-Ok.summary;
  status_is = refl;
  done = c.in-Ok.ensures.ok;
  failed = c.in-Err-say_done.ensures.failed;
  part = c.in-Err-say_done.ensures.part;
  said = c.say_error.ensures.said;
}))
