-- A sequence of nodes, read at the items of its `Vec`.
use Rattle.std.proofs.Common.{◌≡◌, ℕ, suc, ◌^◌, ◌<◌, List, [], ◌∷◌, ◌++◌, length, refl, ap, subst, sym, ◌∙◌}
use Rattle.std.proofs.Common.{append_assoc, Global, Result, Ok, Err}
use Rattle.std.specs.Prelude.{OnOk}
use Rattle.std.proofs.lemmas.List.{append-nil}
use Rattle.std.specs.declared.vec.Vec.{Vec}
use mathlib.Core.Former.{Count}
use Rattle.lane_code.specs.declared.code.Node.{Node, Row_of-Node, end_of-Node, more_of-Node, items-the_row-Node}
use Rattle.lane_code.specs.declared.code.Node.{items_hidden-the_row-Node-0}
use Rattle.lane_code.specs.declared.code.Node.TheVariants.{Seq, Seq'}
use Rattle.lane_code.specs.Program.{work_of, works_of, Works, then_work}
use Rattle.lane_code.specs.Program as work
use Rattle.wg_object.specs.Text.{eight, work_text, works_text, count_of_works}
use Rattle.wg_object.specs.Valid.{IsWork, AreWorks}
use Rattle.wg_object.specs.Nodes.{nodes_text, AreNodes, works_in}

works_rows : (n : _) (k : Row_of-Node n) → works_of k ≡ works_in (items-the_row-Node n k)
works_rows _ end_of-Node = refl
works_rows _ (more_of-Node one rest) = ap (λ (w : Works). then_work (work_of one) w) (works_rows _ rest)

abbrev row_of : Node → (n : Count) × Row_of-Node n
row_of (Seq' _ row) = (_, row)
row_of _ = (_, end_of-Node)

-- a sequence is its nodes, one behind the other
pub seq_is : (nodes : Vec Node Global) → work_of (Seq nodes) ≡ work.Seq (works_in nodes.items)
seq_is nodes =
    let row = row_of (Seq nodes) in
    ap (λ (w : Works). work.Seq w) (works_rows row.0 row.1 ∙ ap works_in (items_hidden-the_row-Node-0 nodes))

in_bytes : (nodes : List Node) → works_text (works_in nodes) ≡ nodes_text nodes
in_bytes [] = refl
in_bytes (n ∷ nodes) = ap (λ (t : List ℕ). work_text (work_of n) ++ t) (in_bytes nodes)

in_count : (nodes : List Node) → count_of_works (works_in nodes) ≡ length nodes
in_count [] = refl
in_count (n ∷ nodes) = ap suc (in_count nodes)

in_works : (nodes : List Node) → AreNodes nodes → AreWorks (works_in nodes)
in_works [] h = tt
in_works (n ∷ nodes) h = (h.0, in_works nodes h.1)

pub node_seq : (node : Node) (nodes : Vec Node Global) → node ≡ Seq nodes →
    work_text (work_of node) ≡ 1 ∷ (eight (length nodes.items) ++ nodes_text nodes.items)
node_seq node nodes e =
    ap (λ (n : Node). work_text (work_of n)) e ∙ ap work_text (seq_is nodes) ∙
    ap (λ (k : ℕ). 1 ∷ (eight k ++ works_text (works_in nodes.items))) (in_count nodes.items) ∙
    ap (λ (t : List ℕ). 1 ∷ (eight (length nodes.items) ++ t)) (in_bytes nodes.items)

pub node_seq_fits : (node : Node) (nodes : Vec Node Global) → node ≡ Seq nodes → length nodes.items < 2 ^ 64 →
    AreNodes nodes.items → IsWork (work_of node)
node_seq_fits node nodes e few fit =
    let is : work_of node ≡ work.Seq (works_in nodes.items) = ap work_of e ∙ seq_is nodes in
    subst IsWork (sym is) (subst (λ (k : ℕ). k < 2 ^ 64) (sym (in_count nodes.items)) few, in_works nodes.items fit)

-- ---- answers

pub on_ok : {A E : Type 0} (r : Result A E) (P Q : Type 0) → (P → Q) → OnOk r P → OnOk r Q
on_ok (Ok x) P Q f h = f h
on_ok (Err e) P Q f h = tt

-- what is put for a sequence
pub seq_put : (out mid new len whole : List ℕ) (n : ℕ) (nodes : List Node) → mid ≡ out ++ (1 ∷ (len ++ [])) →
    len ≡ eight n → n ≡ length nodes → whole ≡ 1 ∷ (eight (length nodes) ++ nodes_text nodes) →
    new ≡ mid ++ nodes_text nodes → new ≡ out ++ whole
seq_put out mid new len whole n nodes m l k w e =
    let front : mid ≡ out ++ (1 ∷ eight (length nodes)) =
    m ∙ ap (λ (t : List ℕ). out ++ (1 ∷ t)) (append-nil len ∙ l ∙ ap eight k) in
    e ∙ ap (λ (t : List ℕ). t ++ nodes_text nodes) front ∙
    append_assoc out (1 ∷ eight (length nodes)) (nodes_text nodes) ∙ ap (λ (t : List ℕ). out ++ t) (sym w)
