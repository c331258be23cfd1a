-- Each code of a node is a valid code.
use Rattle.std.specs.Prelude.{◌≡◌, true}
use Rattle.lane_code.specs.declared.code.Node.{Node, Row_of-Node, end_of-Node, more_of-Node}
use Rattle.lane_code.specs.declared.code.Node.TheVariants as node
use Rattle.lane_code.specs.Fits.{is_code}
use Rattle.lane_code.specs.Program.{PlainCode, work_of, works_of}
use Rattle.item_loops.specs.Program.{EachCode, EachCodeOf}

-- its registers are below its counts, its jumps go where they may, and mask 0 is not written
abbrev pub IsWell : PlainCode → Type 0
IsWell code = is_code code.counts code.steps ≡ true

mutual
  pub codes_well : (n : Node) → EachCode IsWell (work_of n)
  codes_well (node.Items code) = code.well
  codes_well (node.Seq' m row) = row_well row
  codes_well (node.Vote' test p agreed q refused mixed) = (test.well, codes_well agreed, codes_well refused, mixed.well)
  codes_well (node.Loop' test_first p test q body rest) = (codes_well test, codes_well body, rest.well)

  row_well : {m : _} (row : Row_of-Node m) → EachCodeOf IsWell (works_of row)
  row_well end_of-Node = tt
  row_well (more_of-Node n rest) = (codes_well n, row_well rest)
