use Rattle.std.proofs.Common.{◌≡◌, map, take}
use Rattle.std.specs.Prelude.{All}
use Rattle.wg_num.specs.Operators.{lanes_of}
use Rattle.launch_file.specs.Texts.{part_of}
use Rattle.cl_front.specs.Typed.{HasTypedUnit}
use Rattle.wg_compile.specs.Correct.{IsCompilation}
use Rattle.wg_top.specs.Units.{HaveTypedUnits}
use Rattle.wg_top.specs.Given.{FromSource}
use Rattle.wg_top.proofs.programs.compile_each.Given as goal
use Rattle.cl_meaning.specs.View.{unit_of}

abbrev pub invariant-loop-which : goal.invariant-loop-which
invariant-loop-which l = record {
  compiled : FromSource l.source (λ bytes defines.
      HaveTypedUnits bytes defines (map part_of (take l.which l.list)) (map (λ c. unit_of c.program) l.kernels.items));
  each : FromSource l.source (λ bytes defines.
      All (λ c. HasTypedUnit bytes defines c.group.kernel (unit_of c.program)) l.kernels.items);
  passes : All (IsCompilation (lanes_of l.width)) l.kernels.items;
  names : map (λ c. c.group.kernel) l.kernels.items ≡ map (λ p. p.kernel) (take l.which l.list);
}
