use Rattle.std.proofs.Common.{◌≡◌, ◌≤◌, ◌++◌, ℕ, List, min, map, length, drop, ap, sym, ◌∙◌}
use Rattle.std.proofs.lemmas.List.{drop_all, append-nil}
use Rattle.cl_tree.specs.declared.tree.Tree.{Tree}
use Rattle.cl_tree.specs.declared.tree.Tree.TheViews.{out-Tree}
use Rattle.cl_tree.specs.Syntax.{view, views}
use Rattle.cl_limits.specs.Kernel.{blocks_in, weights_of}
use Rattle.cl_limits.proofs.Over.{weights_out}
use Rattle.cl_limits.proofs.limit.weights_of.Goals as goal

all_seen : (unit : Tree) (parts : List Tree) (i : ℕ) (weights : List ℕ) → parts ≡ (out-Tree unit).parts.items →
    length parts ≤ i
    → weights ++ map (λ n. min n 18446744073709551615) (blocks_in (views (drop i parts))) ≡
    map (λ n. min n 18446744073709551615) (blocks_in (views parts))
    → weights ≡ map (λ n. min n 18446744073709551615) (weights_of (view unit))
all_seen unit parts i weights e h k =
    sym (append-nil weights) ∙
    (sym (ap (λ (ts : List Tree). weights ++ map (λ n. min n 18446744073709551615) (blocks_in (views ts)))
    (drop_all i parts h)) ∙ (k
    ∙ (ap (λ (ts : List Tree). map (λ n. min n 18446744073709551615) (blocks_in (views ts))) e ∙
    sym (ap (λ (ns : List ℕ). map (λ n. min n 18446744073709551615) ns) (weights_out unit)))))

pub returns : goal.returns
returns c = all_seen c.args.unit.now c.deref-part-items.result.now c.loop-part.part-index c.loop-part.weights.items
    c.deref-part-items.ensures.value c.loop-part-test.false c.loop-part.invariant
