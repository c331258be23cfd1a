use Rattle.std.proofs.Common.{◌≡◌, ◌<◌, ◌^◌, take}
use Rattle.cl_token.specs.Number.{number_in}
use Rattle.cl_token.specs.NumberReading.{radix}
use Rattle.cl_token.proofs.number.value_of.Given as goal

abbrev pub invariant-loop-digit : goal.invariant-loop-digit
invariant-loop-digit l = record {
  fits : l.value < 2 ^ 64;
  so_far : l.value ≡ number_in (radix l.base) (take l.digit-index l.digits);
}
