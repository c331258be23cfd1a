use Rattle.std.proofs.Common.{ℕ, suc, ◌++◌, List, map, drop}
use Rattle.launch_file.specs.Texts.{text_of}
use Rattle.wg_top.specs.CompiledShown.{showing}
use Rattle.wg_top.specs.Shown.{AreTexts}
use Rattle.wg_top.proofs.texts.texts_of.Given as goal
use Rattle.cl_meaning.specs.View.{unit_of}

abbrev pub invariant-loop-k : goal.invariant-loop-k
invariant-loop-k l =
    (later : List ℕ) → AreTexts (showing l.shown) (text_of l.given.text).lanes (text_of l.given.text).several
    (suc l.k) (drop l.k (text_of l.given.text).list)
    (drop l.k (map (λ c. unit_of c.program) l.given.kernels.items)) later
    → AreTexts (showing l.shown) (text_of l.given.text).lanes (text_of l.given.text).several 1
    (text_of l.given.text).list (map (λ c. unit_of c.program) l.given.kernels.items) (l.text.items ++ later)
