-- What a launch file says, as plain values.
use Rattle.std.specs.Prelude.{Bool, ℕ, ℤ, List, map}
use Rattle.wg_num.specs.Operators.{lanes_of}
use Rattle.cl_prep.specs.declared.prep.Define.{Define}
use Rattle.launch_file.specs.declared.text.BufferText.{BufferText}
use Rattle.launch_file.specs.declared.text.ArgText.{ArgText}
use Rattle.launch_file.specs.declared.text.LaunchPart.{LaunchPart}
use Rattle.launch_file.specs.declared.text.LaunchText.{LaunchText}

-- one launch: the kernel, its sizes and offsets in each dimension, and its arguments
pub record Part : Type 0 where
  pub kernel : List ℕ
  pub global : List ℤ
  pub local : List ℤ
  pub offset : List ℤ
  pub args : List ArgText

-- a whole launch file
pub record Text : Type 0 where
  pub defines : List Define
  pub lanes : ℕ
  pub turns : ℕ
  pub buffers : List BufferText
  -- the file lists its launches, as one of format 3 does
  pub several : Bool
  pub list : List Part

-- the plain values of a launch
abbrev pub part_of : LaunchPart → Part
part_of p = record {
  kernel = p.kernel;
  global = p.global.items;
  local = p.local.items;
  offset = p.offset.items;
  args = p.args.items;
}

-- the plain values of a launch file
abbrev pub text_of : LaunchText → Text
text_of t = record {
  defines = t.defines.list.items;
  lanes = lanes_of t.lanes;
  turns = t.turns;
  buffers = t.buffers.items;
  several = t.several;
  list = map part_of t.list.items;
}
