-- What becomes of lines that are cut from their end.
use Rattle.std.specs.Prelude.{ℕ, List, [], ◌∷◌, Option, Some, None}
use Rattle.std.specs.Prelude.{Bool as Test, false}
use Rattle.kir.specs.declared.line.Atom.{Atom}
use Rattle.kir.specs.Tree.{Lines}
use Rattle.kir.specs.Places.{Tasks}
use Rattle.kir.specs.Live.{live_now, live_behind}
use Rattle.regions.specs.declared.region.RegionTree.{RegionTree}
use Rattle.regions.specs.declared.splitting.Choice.{Choice}
use Rattle.regions.specs.declared.splitting.Cut.{Cut}
use Rattle.regions.specs.declared.splitting.Cut.TheVariants as cut
use Rattle.regions.specs.declared.splitting.Ending.{Ending}
use Rattle.regions.specs.Tree.{RegionOf, Tree, NoRegion, RegionThen, VoteThen, LoopThen}
use Rattle.regions.specs.View.{region_of, tree_before}
use Rattle.regions.specs.Living.{IsSet}

-- a region of these lines
abbrev pub region_with : Lines → Option Atom → List ℕ → RegionOf
region_with lines answer live = record { lines = lines; answer = answer; from_vote = false; live = live }

-- trees of which the last stands first, before others
abbrev pub stacked : List RegionTree → Tree → Tree
stacked [] rest = rest
stacked (t ∷ trees) rest = stacked trees (tree_before t rest)

-- a region of these lines that ends so, and what stands behind it
abbrev pub ended_by : Option Choice → Lines → Option Atom → List ℕ → Tree → Tree
ended_by None first answer live rest = RegionThen (region_with first answer live) rest
ended_by (Some choice) first answer live rest =
    VoteThen (region_with first answer live) (tree_before choice.yes.value NoRegion)
    (tree_before choice.no.value NoRegion) (region_of choice.mixed) rest

-- the same, of an ending
abbrev pub ended : Lines → Ending → Tree
ended first e = ended_by e.choice first e.answer e.live.items (stacked e.behind.items NoRegion)

-- a region of these lines before a line that becomes this, at which these cells are live, and what stands behind that
abbrev pub cut_by : Cut → Lines → List ℕ → Tree → Tree
cut_by cut.Barrier first live rest = RegionThen (region_with first None live) rest
cut_by (cut.Choice test choice) first live rest =
    VoteThen (region_with first (Some test) live) (tree_before choice.yes.value NoRegion)
    (tree_before choice.no.value NoRegion) (region_of choice.mixed) rest
cut_by (cut.Loop round) first live rest =
    RegionThen (region_with first None live) (LoopThen round.test_first (tree_before round.test.value NoRegion)
    (tree_before round.body.value NoRegion) (region_of round.rest) rest)

-- the sets have what is live where an item has this left to do, and at that place
pub record AreLiveAt (cells : ℕ) (now behind : List Test) (k : Tasks) : Type 0 where
  pub before : IsSet cells now (λ c. live_now c k)
  pub there : IsSet cells behind (λ c. live_behind c k)
