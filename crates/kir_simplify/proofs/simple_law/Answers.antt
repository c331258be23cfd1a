use Rattle.kir.specs.View.{kernel_of}
use Rattle.kir_simplify.proofs.RoundsEnd.{simplified_simple}
use Rattle.kir_simplify.proofs.simple_law.Goals as goal

pub returns : goal.returns
returns c = simplified_simple (kernel_of c.args.kernel.now)
