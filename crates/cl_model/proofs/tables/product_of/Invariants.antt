use Rattle.std.proofs.Common.{◌≡◌, ◌*◌, drop}
use Rattle.cl_model.specs.Sizes.{product}
use Rattle.cl_model.proofs.tables.product_of.Given as goal

-- times the lengths still to come it is the product of all
abbrev pub invariant-loop-length : goal.invariant-loop-length
invariant-loop-length l = l.so_far * product (drop l.length-index l.lengths) ≡ product l.lengths
