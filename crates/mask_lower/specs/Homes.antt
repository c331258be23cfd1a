-- The code at the ends of a region: cells come from their homes, and those that are live behind it go back to them if
-- the region sets them. A home that nothing is put into keeps what it has.
use Rattle.std.specs.Prelude.{ℕ, ◌+◌, List, [], ◌∷◌, ◌++◌, Option, Some, None, slice_get, nat_eq, not, ◌&&◌, ◌||◌}
use Rattle.std.specs.Prelude.{if◌then◌else◌}
use Rattle.std.specs.Prelude.{Bool as Test, true, false}
use Rattle.kir.specs.Tree.{Lines, NoLine, SetThen, LoadThen, StoreThen, ClearThen, IfThen, LoopThen, BarrierThen}
use Rattle.kir.specs.Live.{reads, work_reads}
use Rattle.kir_uniform.specs.Uniform.{sets_in}
use Rattle.ctx_plan.specs.declared.plan.Home.{Home}
use Rattle.ctx_plan.specs.declared.plan.Home.TheVariants.{Register, Column, Once}
use Rattle.lane_code.specs.declared.step.Reg.{Reg}
use Rattle.lane_code.specs.declared.step.Step.{Step}
use Rattle.lane_code.specs.declared.step.Step.TheVariants.{ColumnGet, ColumnPut, OnceGet, OncePut, Spread, First}
use Rattle.mask_lower.specs.declared.registers.Operand.{Operand}
use Rattle.mask_lower.specs.Banks.{mask_reg, slot_reg}
use Rattle.mask_lower.specs.Registers.{cell_at}

-- every item sets the cell before it reads it: a line before the first branch or loop sets it, and none before reads it
abbrev pub sets_first : ℕ → Lines → Test
sets_first c NoLine = false
sets_first c (SetThen to work rest) = not (work_reads c work) && (nat_eq c to || sets_first c rest)
sets_first c (LoadThen site to element root index rest) = not (reads c index) && (nat_eq c to || sets_first c rest)
sets_first c (StoreThen site element root index from rest) = not (reads c index || reads c from) && sets_first c rest
sets_first c (ClearThen array rest) = sets_first c rest
sets_first c (IfThen site test chosen other rest) = false
sets_first c (LoopThen site test_first test answer body rest) = false
sets_first c (BarrierThen site rest) = sets_first c rest

-- a cell gets what its home has; registers start as 0
abbrev pub get_code : Reg → Option Home → List Step
get_code to None = []
get_code to (Some Register) = []
get_code to (Some (Column k)) = ColumnGet k to ∷ []
get_code to (Some (Once s)) = OnceGet s slot_reg ∷ Spread to slot_reg ∷ []

-- if it is named, and not set first
abbrev pub cell_code : Option Operand → (first : Test) → Option Home → List Step
cell_code None first home = []
cell_code (Some cell) true home = []
cell_code (Some cell) false home = get_code cell.at home

-- the cells that are named, from the one with this number on, before these lines
abbrev pub entry_code : List Home → Lines → (number : ℕ) → List (Option Operand) → List Step
entry_code homes lines number [] = []
entry_code homes lines number (cell ∷ cells) =
    cell_code cell (sets_first number lines) (slice_get homes number) ++ entry_code homes lines (number + 1) cells

-- those of the list that lines set
abbrev pub put_cells : Lines → List ℕ → List ℕ
put_cells lines [] = []
put_cells lines (c ∷ live) = if sets_in c lines then c ∷ put_cells lines live else put_cells lines live

-- the home of a cell gets what all existing lanes have, a slot what the lowest has
abbrev pub put_code : Operand → Option Home → List Step
put_code cell None = []
put_code cell (Some Register) = []
put_code cell (Some (Column k)) = ColumnPut k cell.at (mask_reg 0) ∷ []
put_code cell (Some (Once s)) = First slot_reg cell.at cell.of (mask_reg 0) ∷ OncePut s slot_reg ∷ []

-- the cells of the list
abbrev pub exit_code : List Home → List (Option Operand) → List ℕ → List Step
exit_code homes cells [] = []
exit_code homes cells (c ∷ cs) = put_code (cell_at cells c) (slice_get homes c) ++ exit_code homes cells cs
