-- Trees in a row.
use Rattle.std.proofs.Common.{◌≡◌, List, [], ◌∷◌, ◌++◌, length, get_or, reverse, refl, ap, ◌∙◌, arith, Global}
use Rattle.std.specs.Prelude.{Bool as Test}
use Rattle.std.specs.declared.vec.Vec.{Vec}
use Rattle.std.specs.declared.boxed.Box.{Box}
use Rattle.std.proofs.lemmas.List.{reverse-append}
use mathlib.Core.Former.{Count}
use Rattle.regions.specs.declared.region.Region.{Region}
use Rattle.regions.specs.declared.region.RegionTree.{RegionTree, Row_of-RegionTree, end_of-RegionTree}
use Rattle.regions.specs.declared.region.RegionTree.{more_of-RegionTree, items-the_row-RegionTree}
use Rattle.regions.specs.declared.region.RegionTree.{items_hidden-the_row-RegionTree-0}
use Rattle.regions.specs.declared.region.RegionTree.TheVariants as rows
use Rattle.regions.specs.Tree.{Tree, NoRegion, LoopThen, VoteThen}
use Rattle.regions.specs.View.{region_of, tree_before, row_before}
use Rattle.regions.specs.Cutting.{stacked}

-- trees before others
abbrev pub all_before : List RegionTree → Tree → Tree
all_before [] rest = rest
all_before (t ∷ trees) rest = tree_before t (all_before trees rest)

row_listed : (n : _) (k : Row_of-RegionTree n) (rest : Tree) →
    row_before k rest ≡ all_before (items-the_row-RegionTree n k) rest
row_listed _ end_of-RegionTree rest = refl
row_listed _ (more_of-RegionTree t row) rest = ap (tree_before t) (row_listed _ row rest)

abbrev row_of : RegionTree → (n : Count) × Row_of-RegionTree n
row_of (rows.Seq' _ row) = (_, row)
row_of _ = (_, end_of-RegionTree)

pub seq_listed : (trees : Vec RegionTree Global) (rest : Tree) →
    tree_before (rows.Seq trees) rest ≡ all_before trees.items rest
seq_listed trees rest = let r = row_of (rows.Seq trees) in row_listed r.0 r.1 rest ∙
    ap (λ xs. all_before xs rest) (items_hidden-the_row-RegionTree-0 trees)

all_before-append : (xs ys : List RegionTree) (rest : Tree) →
    all_before (xs ++ ys) rest ≡ all_before xs (all_before ys rest)
all_before-append [] ys rest = refl
all_before-append (t ∷ xs) ys rest = ap (tree_before t) (all_before-append xs ys rest)

-- the last first
pub all_before-reverse : (xs : List RegionTree) (rest : Tree) → all_before (reverse xs) rest ≡ stacked xs rest
all_before-reverse [] rest = refl
all_before-reverse (t ∷ xs) rest = ap (λ ys. all_before ys rest) (reverse-append (t ∷ []) xs) ∙
    (all_before-append (reverse xs) (t ∷ []) rest ∙ all_before-reverse xs (tree_before t rest))

-- one more
pub stacked_push : (xs : List RegionTree) (t : RegionTree) (rest : Tree) →
    stacked (xs ++ t ∷ []) rest ≡ tree_before t (stacked xs rest)
stacked_push [] t rest = refl
stacked_push (x ∷ xs) t rest = stacked_push xs t (tree_before x rest)

-- one alone
pub stacked_one : (xs : List RegionTree) (t : RegionTree) (rest : Tree) → length xs ≡ 1 → t ≡ get_or xs 0 t →
    tree_before t rest ≡ stacked xs rest
stacked_one [] t rest e is = absurd (omega (arith, e))
stacked_one (x ∷ []) t rest e is = ap (λ y. tree_before y rest) is
stacked_one (x ∷ (y ∷ xs)) t rest e is = absurd (omega (arith, e))

-- a loop and a branch
pub loop_tree : (first : Test) (test body : Box RegionTree Global) (others : Region) (rest : Tree)
    → tree_before (rows.Loop first test body others) rest ≡ LoopThen first (tree_before test.value NoRegion)
    (tree_before body.value NoRegion) (region_of others) rest
loop_tree first test body others rest = refl

pub vote_tree : (test : Region) (agreed refused : Box RegionTree Global) (mixed : Region) (rest : Tree)
    → tree_before (rows.Vote test agreed refused mixed) rest ≡
    VoteThen (region_of test) (tree_before agreed.value NoRegion) (tree_before refused.value NoRegion)
    (region_of mixed) rest
vote_tree test agreed refused mixed rest = refl
