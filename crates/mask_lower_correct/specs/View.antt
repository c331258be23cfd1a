-- Registers read as functions of their lanes, whatever their bank, and what a step changes in them.
use Rattle.std.specs.Prelude.{◌≡◌, ℕ, ◌<◌, slice_index_or}
use Rattle.std.specs.Prelude.{Bool as Test, true, false}
use Rattle.lane_code.specs.declared.step.Bank.{Bank}
use Rattle.lane_code.specs.declared.step.Bank.TheVariants.{Narrow, Wide, Mask, Scalar}
use Rattle.lane_code.specs.declared.step.Reg.{Reg}
use Rattle.lane_code.specs.declared.code.Counts.{Counts}
use Rattle.lane_code.specs.Registers.{Registers, lanes_of}
use Rattle.lane_laws.specs.Reading.{mask_at, HasLanes}

-- what a lane of a register of numbers holds
abbrev pub value_at : Registers → Reg → (lane : ℕ) → ℕ
value_at r x l = slice_index_or (lanes_of r x) l 0

-- the bank has a number for each lane
abbrev pub is_lane : Bank → Test
is_lane Narrow = true
is_lane Wide = true
is_lane Mask = false
is_lane Scalar = false

-- they are not one register
abbrev pub Differ : Reg → Reg → Type 0
Differ x y = x.bank ≡ y.bank → x.number ≡ y.number → ⊥

-- so many registers of each bank, each of so many lanes
abbrev pub Shaped : Counts → (width : ℕ) → Registers → Type 0
Shaped c width r = HasLanes c.narrow c.wide c.masks c.scalars width r

-- the active lanes of one register of numbers have got these values, and nothing else is changed
pub record Wrote (c : Counts) (width : ℕ) (r : Registers) (to : Reg) (active : ℕ → Test) (value : ℕ →
    ℕ) (after : Registers) : Type 0 where
  pub here : (l : ℕ) → l < width → active l ≡ true → value_at after to l ≡ value l
  pub idle : (x : Reg) (l : ℕ) → l < width → is_lane x.bank ≡ true → active l ≡ false →
      value_at after x l ≡ value_at r x l
  pub there : (x : Reg) (l : ℕ) → l < width → is_lane x.bank ≡ true → Differ x to → value_at after x l ≡ value_at r x l
  pub masks : after.masks ≡ r.masks
  pub shape : Shaped c width after

-- one mask has got these answers, and nothing else is changed
pub record Masked (c : Counts) (width : ℕ) (r : Registers) (to : ℕ) (value : ℕ →
    Test) (after : Registers) : Type 0 where
  pub here : (l : ℕ) → l < width → mask_at after to l ≡ value l
  pub there : (k l : ℕ) → l < width → (k ≡ to → ⊥) → mask_at after k l ≡ mask_at r k l
  pub numbers : (x : Reg) (l : ℕ) → value_at after x l ≡ value_at r x l
  pub shape : Shaped c width after
