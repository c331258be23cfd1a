-- The bytes of a Vec of nodes, whether they are works, and what they read as.
use Rattle.std.specs.Prelude.{ℕ, List, [], ◌∷◌, ◌++◌}
use Rattle.lane_code.specs.declared.code.Node.{Node}
use Rattle.lane_code.specs.Program.{work_of, Works, idle, then_work}
use Rattle.wg_object.specs.Text.{work_text}
use Rattle.wg_object.specs.Valid.{IsWork}

abbrev pub nodes_text : List Node → List ℕ
nodes_text [] = []
nodes_text (n ∷ nodes) = work_text (work_of n) ++ nodes_text nodes

abbrev pub AreNodes : List Node → Type 0
AreNodes [] = Unit {0}
AreNodes (n ∷ nodes) = IsWork (work_of n) × AreNodes nodes

-- the nodes one behind the other
abbrev pub works_in : List Node → Works
works_in [] = idle
works_in (n ∷ nodes) = then_work (work_of n) (works_in nodes)
