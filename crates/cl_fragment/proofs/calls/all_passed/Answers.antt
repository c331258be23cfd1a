use Rattle.std.proofs.Common.{◌≡◌, [], drop, arith}
use Rattle.std.proofs.lemmas.Grind.{common_steps}
use Rattle.std.specs.Vec.Iter.{into_iter_items}
use Rattle.cl_meaning.specs.declared.kind.Parameter.TheVariants as parameters
use Rattle.cl_fragment.proofs.Arguments.{drop_step, roots_step, arguments_step, roots_done, arguments_done, roots_all}
use Rattle.cl_fragment.proofs.Arguments.{arguments_all}
use Rattle.cl_fragment.proofs.calls.all_passed.Goals as goal

pub returns-in_default-clause-roots : goal.returns-in_default-clause-roots
returns-in_default-clause-roots c =
    let done : into_iter_items c.loop-parameter.rest ≡ [] = grind (arith, common_steps) in
    roots_done _ _ _ _ done c.loop-parameter.invariant.roots

pub returns-in_default-clause-values : goal.returns-in_default-clause-values
returns-in_default-clause-values c =
    let done : into_iter_items c.loop-parameter.rest ≡ [] = grind (arith, common_steps) in
    arguments_done _ _ _ _ done c.loop-parameter.invariant.values

pub loop-parameter-preserved : goal.loop-parameter-preserved
loop-parameter-preserved c =
    let i = c.loop-parameter.parameter-index in
    record {
      roots = roots_step _ _ _ _ _ _ _ _ c.in-Some.piece _ c.in_ok-push.ensures c.in_ok-argument.ensures.root
          c.in-Some.ensures.cases.0 (drop_step c.args.parameters.now i parameters.Outside (omega arith))
          c.loop-parameter.invariant.roots;
      values = arguments_step _ _ _ _ _ _ _ _ c.in-Some.piece _ c.in_ok-push.ensures c.in_ok-argument.ensures.value
          c.in-Some.ensures.cases.0 (drop_step c.args.parameters.now i _ (omega arith))
          c.loop-parameter.invariant.values;
    }

pub returns-clause-roots : goal.returns-clause-roots
returns-clause-roots c =
    let none : drop c.loop-parameter.parameter-index c.args.parameters.now ≡ [] = grind (arith, common_steps) in
    roots_all _ _ _ _ none c.loop-parameter.invariant.roots

pub returns-clause-values : goal.returns-clause-values
returns-clause-values c =
    let none : drop c.loop-parameter.parameter-index c.args.parameters.now ≡ [] = grind (arith, common_steps) in
    arguments_all _ _ _ _ none c.loop-parameter.invariant.values
