-- What a typed program asks of its launches.
use Rattle.std.specs.Prelude.{ℕ, min, List, [], map, take, Option, None, Some, slice_get}
use Rattle.cl_meaning.specs.Typed.{Function}
use Rattle.cl_limits.specs.Limits.{local_bytes}
use Rattle.launch_file.specs.Binding.{Needs}

-- a kernel: the kinds of its parameters, the bytes of its local arrays and scalars as far as 64 bits count them, and
-- the work-group size that it requires
abbrev pub needs_in : Function → Needs
needs_in g = record {
  kinds = take g.parameters (map (λ v. v.kind) g.variables);
  local_bytes = min (local_bytes g) 18446744073709551615;
  required = g.sizes;
}

-- where there is no kernel, nothing is asked
abbrev pub needs_at : Option Function → Needs
needs_at None = record { kinds = []; local_bytes = 0; required = None }
needs_at (Some g) = needs_in g

-- of the function with this number
abbrev pub needs_of_kernel : List Function → ℕ → Needs
needs_of_kernel functions kernel = needs_at (slice_get functions kernel)
