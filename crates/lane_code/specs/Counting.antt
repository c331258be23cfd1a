-- How many registers of each bank a list of steps names.
use Rattle.std.specs.Prelude.{ℕ, ◌+◌, ◌^◌, max, List, [], ◌∷◌, ◌&&◌, nat_lt, if◌then◌else◌}
use Rattle.std.specs.Prelude.{Bool as Test}
use Rattle.lane_code.specs.declared.step.Bank.{Bank}
use Rattle.lane_code.specs.declared.step.Bank.TheVariants.{Narrow, Wide, Mask, Scalar}
use Rattle.lane_code.specs.declared.step.Step.{Step}
use Rattle.lane_code.specs.declared.operand.Operand.{Operand}
use Rattle.lane_code.specs.declared.operand.Operand.TheVariants.{Register}
use Rattle.lane_code.specs.declared.code.Counts.{Counts}
use Rattle.lane_code.specs.Fits.{is_bank, is_code}
use Rattle.lane_code.specs.Rows.{row_of}

-- one more than the number of a register of the bank, 0 for any other operand
abbrev pub counted_at : Bank → Operand → ℕ
counted_at bank (Register label role x) = if is_bank bank x then x.number + 1 else 0
counted_at bank _ = 0

-- one more than the highest number of a register of the bank among these, 0 where there is none
abbrev pub counted_among : Bank → List Operand → ℕ
counted_among bank [] = 0
counted_among bank (operand ∷ operands) = max (counted_at bank operand) (counted_among bank operands)

-- the same of the registers that steps name
abbrev pub counted_in : Bank → List Step → ℕ
counted_in bank [] = 0
counted_in bank (step ∷ steps) = max (counted_among bank (row_of step).operands) (counted_in bank steps)

-- as many registers of each bank as the steps name, with mask 0
abbrev pub counted : List Step → Counts
counted steps = record {
  narrow = counted_in Narrow steps;
  wide = counted_in Wide steps;
  masks = max 1 (counted_in Mask steps);
  scalars = counted_in Scalar steps;
}

-- each count is a number of 32 bits
abbrev pub are_few : Counts → Test
are_few counts = nat_lt counts.narrow (2 ^ 32) && nat_lt counts.wide (2 ^ 32) && nat_lt counts.masks (2 ^ 32) &&
    nat_lt counts.scalars (2 ^ 32)

-- with as many registers as they name the steps are a code
abbrev pub make_code : List Step → Test
make_code steps = are_few (counted steps) && is_code (counted steps) steps
