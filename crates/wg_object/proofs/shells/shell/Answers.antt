use Rattle.std.proofs.Common.{refl, rules}
use Rattle.wg_object.proofs.shells.shell.Goals as goal

pub returns : goal.returns
returns c = record {
  kernel = refl;
  function = c.in_ok-function.function;
  one = search rules;
  is = c.in_ok-function.ensures;
}
