use Rattle.std.proofs.Common.{◌∙◌, refl, sym, subst, SFits, rules}
use Rattle.std.proofs.lemmas.Int.{to_z-of_z}
use Rattle.std.proofs.lemmas.Option.{slice_get_read, slice_get_past}
use Rattle.std.specs.Int.{w128}
use Rattle.wg_num.specs.Wrap.{IsValue}
use Rattle.kir_simplify.proofs.Folds.{nth_none}
use Rattle.kir_simplify.proofs.Computed.{value_there}
use Rattle.kir_simplify.proofs.settling.argument.Goals as goal

pub returns-in-Some-clause-value : goal.returns-in-Some-clause-value
returns-in-Some-clause-value c =
    let f : SFits w128 c.constant_value.result = search rules in
    subst (IsValue c.args.of) (sym (to_z-of_z w128 c.constant_value.result f ∙ c.constant_value.ensures))
    (value_there c.args.of c.args.args.now c.args.n c.in-Some.atom.now c.requires
    (slice_get_read c.args.args.now _ c.args.n c.in-Some.atom.now refl (search rules) (search rules)))

pub returns-in-None-clause-same : goal.returns-in-None-clause-same
returns-in-None-clause-same c = nth_none c.args.args.now c.args.n
    (slice_get_past c.args.args.now c.args.n (search rules))
