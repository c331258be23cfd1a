use Rattle.std.proofs.Common.{◌≡◌, map, drop, take}
use Rattle.std.specs.Prelude.{All}
use Rattle.cl_model.specs.View.{launch_of}
use Rattle.launch_file.specs.Binding.{launch_in}
use Rattle.launch_file.specs.Texts.{part_of}
use Rattle.wg_top.specs.Launches.{IsReady}
use Rattle.wg_top.specs.CompiledLaunches.{AllFit}
use Rattle.wg_top.specs.Programs.{needs_refusal, programs_of, runs_of}
use Rattle.wg_top.proofs.launches.bind_each.Given as goal

abbrev pub invariant-loop-which : goal.invariant-loop-which
invariant-loop-which l = record {
  launches : map launch_of l.list.items ≡ map (launch_in l.text.turns l.text.buffers.items)
      (take l.which (map part_of l.text.list.items));
  ready : All (IsReady l.text.buffers.items) l.list.items;
  fit : AllFit (take l.which (programs_of (map runs_of l.runnables))) l.list.items;
  accepted : needs_refusal l.text.buffers.items (map part_of l.text.list.items) (map runs_of l.runnables) ≡
      needs_refusal l.text.buffers.items (drop l.which (map part_of l.text.list.items))
      (drop l.which (map runs_of l.runnables));
}
