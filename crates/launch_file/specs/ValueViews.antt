-- The plain values of what the code has read.
use Rattle.std.specs.Prelude.{map}
use Rattle.launch_file.specs.declared.parts.Values.{Values as Read}
use Rattle.launch_file.specs.Texts.{part_of}
use Rattle.launch_file.specs.Values.{Values}

abbrev pub values_of : Read → Values
values_of v = record {
  lanes = v.lanes;
  turns = v.turns;
  defines = v.defines.items;
  buffers = v.buffers.items;
  several = v.several;
  list = map part_of v.list.items;
}
