-- Where the program's item follows the kernel's from the start for any number of moves, histories and runs match.
use Rattle.std.proofs.Common.{ℕ, List, option_map, refl}
use Rattle.cl_model.specs.Tree.{Program}
use Rattle.cl_model.specs.Sizes.{Launch}
use Rattle.cl_model.specs.Task.{Item as ProgramItem, Point as ProgramPoint}
use Rattle.cl_model.specs.Meaning.{machine_of as program_machine, start_item as program_start_item}
use Rattle.kir.specs.Tree.{Kernel}
use Rattle.kir.specs.Places.{Point}
use Rattle.kir.specs.Steps.{Item}
use Rattle.kir.specs.Meaning.{machine_of, start_item}
use Rattle.kir.specs.Matching.{AreAlike}
use Rattle.kir.proofs.FromSteps.{HasSteps}
use Rattle.kir_lower_shape.proofs.Follow.{Follows, reaches, simulates}

module _ (program : Program) (kernel : Kernel) (point_in_program : Point →
    ProgramPoint) (launch : Launch) (buffers : List (List ℕ)) where
  -- for so many moves the program's item follows the kernel's, and both stand alike before each
  abbrev pub Follows_on : ℕ → Item → ProgramItem → Type 0
  Follows_on = Follows (machine_of kernel launch) (program_machine program launch) (option_map point_in_program)
      (AreAlike program kernel point_in_program launch buffers)

  -- what is to be shown of the two starts gives the counted simulation
  pub has_steps : ((n item : ℕ) → Follows_on n (start_item kernel item) (program_start_item program launch item)) →
      HasSteps program kernel point_in_program launch buffers
  has_steps start = record {
    R = Follows_on;
    steps = simulates (machine_of kernel launch) (program_machine program launch) (option_map point_in_program)
        (AreAlike program kernel point_in_program launch buffers) (λ item. refl);
    alike = λ n i j f.
        let r = reaches (machine_of kernel launch) (program_machine program launch) (option_map point_in_program)
        (AreAlike program kernel point_in_program launch buffers) n i j f in
        (r.steps, r.state, r.led, r.alike);
    start = start;
  }
