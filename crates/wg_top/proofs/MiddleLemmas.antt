-- What the passes leave of a unit.
use Rattle.std.proofs.Common.{◌≡◌, ℕ, zero, suc, List, [], ◌∷◌, map, refl, sym, ◌∙◌, ap}
use Rattle.std.specs.Prelude.{slice_get, unwrap_or}
use Rattle.cl_meaning.specs.Typed.{Unit', Function}
use Rattle.cl_meaning.specs.View.{unit_of}
use Rattle.cl_check_sound.specs.Erased.{function_of}
use Rattle.cl_model.specs.Calls.{no_function}
use Rattle.cl_model.specs.Valid.{parameter_kinds}
use Rattle.lane_code.specs.View.{plain_of}
use Rattle.wg_compile.specs.declared.Compiled.{Compiled}
use Rattle.wg_compile.specs.Passes.{kernel_in, group_in}
use Rattle.wg_compile.specs.Correct.{IsCompilation}
use Rattle.wg_compile.proofs.Lowered.{params_are}
use Rattle.launch_file_bind.specs.Needed.{needs_of_kernel}
use Rattle.wg_top.specs.Units.{needs_in}

group_params : (width : ℕ) (u : Unit') → (group_in width u).params ≡ (kernel_in u).params
unfolding group_in
group_params width u = refl

-- the kinds of a kernel's parameters
kinds_at : (functions : List Function) (k : ℕ) →
    parameter_kinds (unwrap_or (slice_get (map function_of functions) k) no_function) ≡
    (needs_of_kernel functions k).kinds
kinds_at [] k = refl
kinds_at (g ∷ functions) zero = refl
kinds_at (g ∷ functions) (suc k) = kinds_at functions k

-- the parameters of the program of a group are those that its launches meet
params_of : (width : ℕ) (u : Unit') → (group_in width u).params ≡ (needs_in u).kinds
params_of width u = group_params width u ∙ (params_are u ∙ kinds_at u.functions u.kernel)

pub params_in : (width : ℕ) (c : Compiled) → IsCompilation width c →
    (needs_in (unit_of c.program)).kinds ≡ (plain_of c.group).params
params_in width c passed = sym (params_of width (unit_of c.program)) ∙ sym (ap (λ p. p.params) passed.group.parts)
