-- Lines put one after another.
use Rattle.std.proofs.Common.{◌≡◌, refl, ap}
use Rattle.kir.specs.Tree.{Lines, NoLine, SetThen, LoadThen, StoreThen, ClearThen, IfThen, LoopThen, BarrierThen}
use Rattle.kir.specs.Tree.{joined_to}

pub join_assoc : (a b c : Lines) → joined_to (joined_to a b) c ≡ joined_to a (joined_to b c)
join_assoc NoLine b c = refl
join_assoc (SetThen to work rest) b c = ap (λ z. SetThen to work z) (join_assoc rest b c)
join_assoc (LoadThen site to element root index rest) b c =
    ap (λ z. LoadThen site to element root index z) (join_assoc rest b c)
join_assoc (StoreThen site element root index from rest) b c =
    ap (λ z. StoreThen site element root index from z) (join_assoc rest b c)
join_assoc (ClearThen array rest) b c = ap (λ z. ClearThen array z) (join_assoc rest b c)
join_assoc (IfThen site test chosen other rest) b c = ap (λ z. IfThen site test chosen other z) (join_assoc rest b c)
join_assoc (LoopThen site test_first test answer body rest) b c =
    ap (λ z. LoopThen site test_first test answer body z) (join_assoc rest b c)
join_assoc (BarrierThen site rest) b c = ap (λ z. BarrierThen site z) (join_assoc rest b c)

pub join_none : (a : Lines) → joined_to a NoLine ≡ a
join_none NoLine = refl
join_none (SetThen to work rest) = ap (λ z. SetThen to work z) (join_none rest)
join_none (LoadThen site to element root index rest) = ap (λ z. LoadThen site to element root index z) (join_none rest)
join_none (StoreThen site element root index from rest) =
    ap (λ z. StoreThen site element root index from z) (join_none rest)
join_none (ClearThen array rest) = ap (λ z. ClearThen array z) (join_none rest)
join_none (IfThen site test chosen other rest) = ap (λ z. IfThen site test chosen other z) (join_none rest)
join_none (LoopThen site test_first test answer body rest) =
    ap (λ z. LoopThen site test_first test answer body z) (join_none rest)
join_none (BarrierThen site rest) = ap (λ z. BarrierThen site z) (join_none rest)
