use Rattle.std.proofs.Common.{sym, ap, ap₂, ◌∙◌, arith, SFits, rules}
use Rattle.std.specs.Int.{w128}
use Rattle.std.proofs.lemmas.Int.{to_z-of_z}
use Rattle.wg_num.specs.Wrap.{is_bool, centered}
use Rattle.wg_num.proofs.WrapLaws.{wrap_bool, wrap_whole, truth_zero, truth_other, not_bool, modulus_le, half-below}
use Rattle.wg_num.proofs.arith.wrapped_number.Goals as goal

pub number_within-requires : goal.number_within-requires
number_within-requires c = record {
  below = omega (arith, half-below c.args.t);
  room = omega (arith, modulus_le c.args.t);
}

pub returns-then-v-eq0 : goal.returns-then-v-eq0
returns-then-v-eq0 c =
    sym (wrap_bool c.args.t c.args.v (ap is_bool c.in-Bool.is) ∙ truth_zero c.args.v c.ranges.v c.if-v-eq0.true)

pub returns-else-v-eq0 : goal.returns-else-v-eq0
returns-else-v-eq0 c =
    sym (wrap_bool c.args.t c.args.v (ap is_bool c.in-Bool.is) ∙ truth_other c.args.v c.if-v-eq0.false)

pub returns-in_default : goal.returns-in_default
returns-in_default c =
    let f : SFits w128 c.number_within.result = search rules in
    to_z-of_z w128 c.number_within.result f ∙ c.number_within.ensures
    ∙ ap (centered c.half_of.result c.modulus_of.result) (to_z-of_z w128 c.args.v c.ranges.v)
    ∙ ap₂ (λ h m. centered h m c.args.v) c.half_of.ensures c.modulus_of.ensures
    ∙ sym (wrap_whole c.args.t c.args.v (not_bool c.args.t c.in_default.not-Bool))
