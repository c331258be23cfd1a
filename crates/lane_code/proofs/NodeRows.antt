-- The text of a sequence of nodes, read at the items of its `Vec`.
use Rattle.std.proofs.Common.{◌≡◌, List, ℕ, ◌++◌, ◌&&◌, refl, ap, ◌∙◌, codes, Global}
use Rattle.std.specs.declared.vec.Vec.{Vec}
use mathlib.Core.Former.{Count}
use Rattle.lane_code.specs.declared.code.Node.{Node, Row_of-Node, end_of-Node, more_of-Node, items-the_row-Node}
use Rattle.lane_code.specs.declared.code.Node.{items_hidden-the_row-Node-0}
use Rattle.lane_code.specs.declared.code.Node.TheVariants.{Seq, Seq'}
use Rattle.lane_code.specs.Fits.{Names}
use Rattle.lane_code.specs.Program.{work_of, works_of, work_fits, works_fit}
use Rattle.lane_code.specs.Parts.{nodes_fit}
use Rattle.lane_code.specs.Listing.{deeper, line_text, work_text, works_text, nodes_text}

works_nodes : (indent : List ℕ) (n : _) (k : Row_of-Node n) →
    works_text indent (works_of k) ≡ nodes_text indent (items-the_row-Node n k)
works_nodes indent _ end_of-Node = refl
works_nodes indent _ (more_of-Node one rest) = ap (λ t. work_text indent (work_of one) ++ t) (works_nodes indent _ rest)

abbrev row_of : Node → (n : Count) × Row_of-Node n
row_of (Seq' _ row) = (_, row)
row_of _ = (_, end_of-Node)

seq_text : (indent : List ℕ) (nodes : Vec Node Global) →
    work_text indent (work_of (Seq nodes)) ≡ line_text indent (codes "seq") ++ nodes_text (deeper indent) nodes.items
seq_text indent nodes =
    let row = row_of (Seq nodes) in
    ap (λ t. line_text indent (codes "seq") ++ t) (works_nodes (deeper indent) row.0 row.1 ∙
    ap (nodes_text (deeper indent)) (items_hidden-the_row-Node-0 nodes))

pub node_seq : (indent : List ℕ) (node : Node) (nodes : Vec Node Global) → node ≡ Seq nodes →
    work_text indent (work_of node) ≡ line_text indent (codes "seq") ++ nodes_text (deeper indent) nodes.items
node_seq indent node nodes e = ap (λ n. work_text indent (work_of n)) e ∙ seq_text indent nodes

-- ---- whether the codes of a sequence fit

works_fits : (names : Names) (n : _) (k : Row_of-Node n) →
    works_fit names (works_of k) ≡ nodes_fit names (items-the_row-Node n k)
works_fits names _ end_of-Node = refl
works_fits names _ (more_of-Node one rest) = ap (λ t. work_fits names (work_of one) && t) (works_fits names _ rest)

seq_fits : (names : Names) (nodes : Vec Node Global) →
    work_fits names (work_of (Seq nodes)) ≡ nodes_fit names nodes.items
seq_fits names nodes =
    let row = row_of (Seq nodes) in
    works_fits names row.0 row.1 ∙ ap (nodes_fit names) (items_hidden-the_row-Node-0 nodes)

pub node_seq_fits : (names : Names) (node : Node) (nodes : Vec Node Global) → node ≡ Seq nodes →
    work_fits names (work_of node) ≡ nodes_fit names nodes.items
node_seq_fits names node nodes e = ap (λ n. work_fits names (work_of n)) e ∙ seq_fits names nodes
