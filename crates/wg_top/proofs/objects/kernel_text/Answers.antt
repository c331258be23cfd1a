use Rattle.wg_object.specs.View.{object_of}
use Rattle.wg_top.proofs.objects.kernel_text.Goals as goal

pub returns-in-Ok-encode-clause-ok : goal.returns-in-Ok-encode-clause-ok
returns-in-Ok-encode-clause-ok c = λ bytes defines numbers is placed. record {
  object = object_of c.in-Ok.object;
  compiles = c.in-Ok.ensures.ok bytes defines numbers is placed;
  is_text = c.in-Ok-encode.ensures;
}
