-- The program that is built of regions: its sequences, its parts, and its chain of codes.
use Rattle.std.proofs.Common.{◌≡◌, ℕ, suc, refl, sym, ap, ◌∙◌, List, [], ◌∷◌, ◌++◌, map, filter, cond, Global, true}
use Rattle.std.proofs.Common.{false}
use Rattle.std.specs.Prelude.{Bool as Test}
use Rattle.std.proofs.lemmas.List.{append-nil}
use Rattle.std.specs.declared.vec.Vec.{Vec}
use mathlib.Core.Former.{Count}
use Rattle.wg_num.specs.declared.types.Width.{Width}
use Rattle.cl_model.specs.Tree.{Array}
use Rattle.cl_model.specs.Objects.{PlacedArray, placed_from, array_bytes}
use Rattle.kir.specs.Tree.{Kernel}
use Rattle.lane_code.specs.declared.code.Node.{Node, Row_of-Node, end_of-Node, more_of-Node, items-the_row-Node}
use Rattle.lane_code.specs.declared.code.Node.{items_hidden-the_row-Node-0}
use Rattle.lane_code.specs.declared.code.Node.TheVariants as node
use Rattle.lane_code.specs.Program.{PlainCode, Plain, Seq, then_work, work_of, works_of}
use Rattle.lane_laws.specs.Chain.{Chain, NoWork, work_before, works_before}
use Rattle.ctx_plan.specs.Planned.{Planned}
use Rattle.regions.specs.declared.region.RegionTree.{RegionTree, Row_of-RegionTree, end_of-RegionTree}
use Rattle.regions.specs.declared.region.RegionTree.{more_of-RegionTree, items-the_row-RegionTree}
use Rattle.regions.specs.declared.region.RegionTree.{items_hidden-the_row-RegionTree-0}
use Rattle.regions.specs.declared.region.RegionTree.TheVariants as rows
use Rattle.regions.specs.Tree.{RegionOf, Tree, NoRegion}
use Rattle.regions.specs.View.{tree_before, row_before, IsOneRegion}
use Rattle.item_loops.specs.Program.{IsBuilt, IsOneCode, HasPartsOf}
use Rattle.item_loops.specs.Built.{is_space, array_sizes, in_order, built_work, built_works, built_of}

-- ---- sequences, read at the items of their `Vec`s

abbrev node_row : Node → (n : Count) × Row_of-Node n
node_row (node.Seq' _ row) = (_, row)
node_row _ = (_, end_of-Node)

abbrev tree_row : RegionTree → (n : Count) × Row_of-RegionTree n
tree_row (rows.Seq' _ row) = (_, row)
tree_row _ = (_, end_of-RegionTree)

works_listed : (n : _) (k : Row_of-Node n) → works_of k ≡ in_order (map work_of (items-the_row-Node n k))
works_listed _ end_of-Node = refl
works_listed _ (more_of-Node one rest) = ap (λ w. then_work (work_of one) w) (works_listed _ rest)

built_listed : (code : RegionOf → PlainCode) (n : _) (k : Row_of-RegionTree n) →
    built_works code k ≡ in_order (map (built_work code) (items-the_row-RegionTree n k))
built_listed code _ end_of-RegionTree = refl
built_listed code _ (more_of-RegionTree one rest) =
    ap (λ w. then_work (built_work code one) w) (built_listed code _ rest)

pub seq_works : (nodes : Vec Node Global) → work_of (node.Seq nodes) ≡ Seq (in_order (map work_of nodes.items))
seq_works nodes =
    let row = node_row (node.Seq nodes) in
    ap Seq (works_listed row.0 row.1 ∙
    ap (λ (ns : List Node). in_order (map work_of ns)) (items_hidden-the_row-Node-0 nodes))

pub seq_built : (code : RegionOf → PlainCode) (tree : RegionTree) (trees : Vec RegionTree Global) →
    tree ≡ rows.Seq trees → built_work code tree ≡ Seq (in_order (map (built_work code) trees.items))
seq_built code tree trees e =
    let row = tree_row (rows.Seq trees) in
    ap (built_work code) e
    ∙ ap Seq (built_listed code row.0 row.1 ∙
    ap (λ (ts : List RegionTree). in_order (map (built_work code) ts)) (items_hidden-the_row-RegionTree-0 trees))

-- ---- parts

one_more : (b : Test) (a : PlacedArray) (list : List PlacedArray) (sizes : List ℕ) →
    map (λ (x : PlacedArray). array_bytes x.array) list ≡ sizes
    → map (λ (x : PlacedArray). array_bytes x.array) (cond b (a ∷ list) list) ≡ cond b (array_bytes a.array ∷ sizes)
    sizes
one_more true a list sizes e = ap (λ ns. array_bytes a.array ∷ ns) e
one_more false a list sizes e = e

sizes_placed : (private : Test) (n : ℕ) (arrays : List Array) →
    map (λ (x : PlacedArray). array_bytes x.array) (filter (λ (x : PlacedArray). is_space private x.array.space)
    (placed_from [] n arrays)) ≡ array_sizes private arrays
sizes_placed private n [] = refl
sizes_placed private n (a ∷ arrays) =
    one_more (is_space private a.space) (record { path = []; number = n; array = a })
    (filter (λ (x : PlacedArray). is_space private x.array.space) (placed_from [] (suc n) arrays))
    (array_sizes private arrays) (sizes_placed private (suc n) arrays)

all_placed : (private : Test) (arrays : List Array) →
    array_sizes private arrays ≡ map (λ (x : PlacedArray). array_bytes x.array)
    (filter (λ (x : PlacedArray). is_space private x.array.space) (placed_from [] 0 arrays ++ []))
all_placed private arrays =
    sym (ap (λ (ps : List PlacedArray). map (λ (x : PlacedArray). array_bytes x.array)
    (filter (λ (x : PlacedArray). is_space private x.array.space) ps))
    (append-nil (placed_from [] 0 arrays)) ∙ sizes_placed private 0 arrays)

pub has_parts : (kernel : Kernel) (plan : Planned) (width : Width) (tree : RegionTree) →
    HasPartsOf kernel plan width (built_of kernel plan width tree)
has_parts kernel plan width tree = record {
  lanes = refl;
  params = refl;
  tables = refl;
  locals = all_placed false kernel.arrays;
  privates = all_placed true kernel.arrays;
  columns = refl;
  slots = refl;
  sites = refl;
}

-- programs with the same parts are one
pub same_parts : (a b : Plain) → a.width ≡ b.width → a.columns ≡ b.columns → a.slots ≡ b.slots → a.params ≡ b.params →
    a.tables ≡ b.tables → a.locals ≡ b.locals → a.privates ≡ b.privates → a.sites ≡ b.sites → a.top ≡ b.top → a ≡ b
same_parts a b w c s e f h i j k =
    ap (λ v. record {
      width = v;
      params = a.params;
      tables = a.tables;
      locals = a.locals;
      privates = a.privates;
      columns = a.columns;
      slots = a.slots;
      sites = a.sites;
      top = a.top;
    }) w
    ∙ ap (λ v. record {
      width = b.width;
      params = a.params;
      tables = a.tables;
      locals = a.locals;
      privates = a.privates;
      columns = v;
      slots = a.slots;
      sites = a.sites;
      top = a.top;
    }) c
    ∙ ap (λ v. record {
      width = b.width;
      params = a.params;
      tables = a.tables;
      locals = a.locals;
      privates = a.privates;
      columns = b.columns;
      slots = v;
      sites = a.sites;
      top = a.top;
    }) s
    ∙ ap (λ v. record {
      width = b.width;
      params = v;
      tables = a.tables;
      locals = a.locals;
      privates = a.privates;
      columns = b.columns;
      slots = b.slots;
      sites = a.sites;
      top = a.top;
    }) e
    ∙ ap (λ v. record {
      width = b.width;
      params = b.params;
      tables = v;
      locals = a.locals;
      privates = a.privates;
      columns = b.columns;
      slots = b.slots;
      sites = a.sites;
      top = a.top;
    }) f
    ∙ ap (λ v. record {
      width = b.width;
      params = b.params;
      tables = b.tables;
      locals = v;
      privates = a.privates;
      columns = b.columns;
      slots = b.slots;
      sites = a.sites;
      top = a.top;
    }) h
    ∙ ap (λ v. record {
      width = b.width;
      params = b.params;
      tables = b.tables;
      locals = b.locals;
      privates = v;
      columns = b.columns;
      slots = b.slots;
      sites = a.sites;
      top = a.top;
    }) i
    ∙ ap (λ v. record {
      width = b.width;
      params = b.params;
      tables = b.tables;
      locals = b.locals;
      privates = b.privates;
      columns = b.columns;
      slots = b.slots;
      sites = v;
      top = a.top;
    }) j
    ∙ ap (λ v. record {
      width = b.width;
      params = b.params;
      tables = b.tables;
      locals = b.locals;
      privates = b.privates;
      columns = b.columns;
      slots = b.slots;
      sites = b.sites;
      top = v;
    }) k

-- ---- codes

pub one_code : (code : RegionOf → PlainCode) (tree : RegionTree) → IsOneRegion tree → IsOneCode (built_work code tree)
one_code code (rows.Items region) h = tt
one_code code (rows.Seq' m row) h = h
one_code code (rows.Vote' test p agreed q refused mixed) h = h
one_code code (rows.Loop' test_first p test q body others) h = h

mutual
  pub built_before : (code : RegionOf → PlainCode) (tree : RegionTree) (rest : Tree) (chain : Chain) →
      IsBuilt (λ r c. c ≡ code r) rest chain →
      IsBuilt (λ r c. c ≡ code r) (tree_before tree rest) (work_before (built_work code tree) chain)
  built_before code (rows.Items region) rest chain h = (refl, h)
  built_before code (rows.Seq' m row) rest chain h = row_built code row rest chain h
  built_before code (rows.Vote' test p agreed q refused mixed) rest chain h =
      (refl, built_before code agreed NoRegion NoWork tt, built_before code refused NoRegion NoWork tt, refl, h)
  built_before code (rows.Loop' test_first p test q body others) rest chain h =
      (refl, built_before code test NoRegion NoWork tt, built_before code body NoRegion NoWork tt, refl, h)

  row_built : (code : RegionOf → PlainCode) {m : _} (row : Row_of-RegionTree m) (rest : Tree) (chain : Chain) →
      IsBuilt (λ r c. c ≡ code r) rest chain →
      IsBuilt (λ r c. c ≡ code r) (row_before row rest) (works_before (built_works code row) chain)
  row_built code end_of-RegionTree rest chain h = h
  row_built code (more_of-RegionTree t row) rest chain h =
      built_before code t (row_before row rest) (works_before (built_works code row) chain)
      (row_built code row rest chain h)
