use Rattle.std.proofs.Common.{◌≡◌, ◌++◌, drop, map}
use Rattle.std.specs.Vec.Iter.{into_iter_items}
use Rattle.cl_meaning.specs.Expressions.{roots_passed, all_passed}
use Rattle.cl_model.specs.Listed.{listed_roots, listed_arguments}
use Rattle.cl_fragment.specs.View.{piece_of}
use Rattle.cl_fragment.proofs.Lists.{arguments_then}
use Rattle.cl_fragment.proofs.calls.all_passed.Given as goal

abbrev pub invariant-loop-parameter : goal.invariant-loop-parameter
invariant-loop-parameter l = record {
  roots : listed_roots l.arguments.items ++ roots_passed (drop l.parameter-index l.parameters)
      (map piece_of (into_iter_items l.rest)) ≡ roots_passed l.parameters (map piece_of l.fn.pieces.items);
  values : arguments_then (listed_arguments l.arguments.items) (all_passed (drop l.parameter-index l.parameters)
      (map piece_of (into_iter_items l.rest))) ≡ all_passed l.parameters (map piece_of l.fn.pieces.items);
}
