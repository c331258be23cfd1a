use Rattle.std.proofs.Common.{◌≡◌, ◌++◌, min, map, drop}
use Rattle.cl_limits.specs.Limits.{private_bytes}
use Rattle.cl_limits.proofs.limit.all_private_bytes.Given as goal
use Rattle.cl_meaning.specs.View.{function_of}

abbrev pub invariant-loop-function : goal.invariant-loop-function
invariant-loop-function l = l.bytes.items ++ map (λ n. min n 18446744073709551615)
    (map private_bytes (map function_of (drop l.function-index l.functions))) ≡ map (λ n. min n 18446744073709551615)
    (map private_bytes (map function_of l.functions))
