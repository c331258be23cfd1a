-- The launch of the examples, what their programs have, and examples that are ready for their code.
use Rattle.std.specs.Prelude.{◌≡◌, List, [], ◌∷◌}
use Rattle.wg_num.specs.declared.types.IntType.TheVariants.{Int}
use Rattle.cl_model.specs.declared.launch.Bound.TheVariants.{Buffer}
use Rattle.cl_model.specs.declared.launch.Launch.{Launch}
use Rattle.cl_model.specs.declared.program.Root.TheVariants.{Param}
use Rattle.cl_model.specs.declared.program.Space.TheVariants.{Global}
use Rattle.cl_model.specs.declared.program.VarKind.{VarKind}
use Rattle.cl_model.specs.declared.program.VarKind.TheVariants.{Pointer}
use Rattle.cl_model.specs.Sizes as sizes
use Rattle.cl_model.specs.View.{launch_of}
use Rattle.lane_code.specs.declared.code.Counts.{Counts}
use Rattle.lane_code.specs.declared.program.GroupProgram.{GroupProgram}
use Rattle.lane_code.specs.Fits.{Names}
use Rattle.lane_code.specs.View.{plain_of}
use Rattle.lane_flat.specs.declared.tree.FlatNode.{FlatNode}
use Rattle.lane_flat.specs.Trees.{flats_of, IsFlatWork}
use Rattle.lane_machine.specs.Held.{Held}
use Rattle.lane_machine.specs.Machinery.{Machinery, room_at}
use Rattle.lane_machine.specs.Room.{HasRoomFor}
use Rattle.lane_machine.specs.Zeroed.{IsGroupOf}

-- one group of 20 items, and one buffer of 20 ints
abbrev pub launch : sizes.Launch
launch = record {
  dims = 1;
  global = 20 ∷ 1 ∷ 1 ∷ [];
  local = 20 ∷ 1 ∷ 1 ∷ [];
  offset = 0 ∷ 0 ∷ 0 ∷ [];
  turns = 1000;
  args = Buffer 0 ∷ [];
  lengths = 80 ∷ [];
  load_count = 1;
  save_count = 1;
}

-- a pointer to the ints
abbrev pub params : List VarKind
params = Pointer Global Int (Param 0) ∷ []

abbrev pub names : Names
names = record { params = params; tables = 0; locals = 0; privates = 1; columns = 1; slots = 1; sites = 2 }

abbrev pub counts : Counts
counts = record { narrow = 4; wide = 4; masks = 2; scalars = 2 }

-- the program, its flat codes, the launch, the machine and the group go together
pub record IsReady (p : GroupProgram) (f : FlatNode) (l : Launch) (m : Machinery) (g : Held) : Type 0 where
  pub launched : launch_of l ≡ launch
  pub parameters : p.params.items ≡ params
  pub arrays : p.locals.items ≡ []
  pub made : IsGroupOf (plain_of p) (launch_of l) g.kept
  pub first : g.number ≡ 0
  pub room : HasRoomFor (room_at p.width m) (plain_of p).top
  pub flat : IsFlatWork (plain_of p).top (flats_of f)
