use Rattle.std.proofs.Common.{◌≡◌, ◌⊎◌}
use Rattle.kir.specs.View.{kernel_of}
use Rattle.kir_simplify.specs.Faithful.{IsFaithful}
use Rattle.kir_simplify.specs.Passes.{size_of, simplified_of}
use Rattle.kir_simplify.proofs.rounds.simplify.Given as goal

abbrev pub invariant-loop-simpler : goal.invariant-loop-simpler
invariant-loop-simpler l = record {
  exact : simplified_of (kernel_of l.simpler) ≡ simplified_of (kernel_of l.fn.kernel);
  faithful : (kernel_of l.simpler ≡ kernel_of l.fn.kernel) ⊎ IsFaithful (kernel_of l.fn.kernel) (kernel_of l.simpler);
}

abbrev pub decreases-loop-simpler : goal.decreases-loop-simpler
decreases-loop-simpler l = size_of (kernel_of l.simpler).body
