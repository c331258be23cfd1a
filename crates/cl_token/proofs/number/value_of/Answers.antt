use Rattle.std.proofs.Common.{arith, ◌^◌, ◌≡◌, ap, ◌∙◌}
use Rattle.std.proofs.lemmas.List.{take_all}
use Rattle.cl_token.proofs.Numbers.{number_in-over}
use Rattle.cl_token.specs.Number as spec
use Rattle.cl_token.specs.NumberReading as reading
use Rattle.cl_token.proofs.number.value_of.Goals as goal

pub returns-in_err-value : goal.returns-in_err-value
returns-in_err-value c =
    rw c.from_residual.ensures (number_in-over c.args.base c.args.digits.now c.loop-digit.digit-index
    c.loop-digit.value (2 ^ 64) c.loop-digit.invariant.so_far c.loop-digit-test.true c.in_err-value.ensures)

pub returns : goal.returns
returns c =
    let all : c.loop-digit.value ≡ spec.number_in (reading.radix c.args.base) c.args.digits.now =
    c.loop-digit.invariant.so_far ∙
    ap (spec.number_in (reading.radix c.args.base)) (take_all c.loop-digit.digit-index c.args.digits.now
    c.loop-digit-test.false) in
    (omega arith, all)
