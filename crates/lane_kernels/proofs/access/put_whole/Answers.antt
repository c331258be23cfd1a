use Rattle.std.proofs.Common.{◌≡◌, ◌∙◌, sym, length, subst, arith}
use Rattle.std.specs.Bool.{OnTrue}
use Rattle.lane_values.specs.Masks.{IsEmpty}
use Rattle.lane_values.specs.Access.{faults}
use Rattle.lane_kernels.proofs.access.put_whole.Goals as goal

pub returns-in-1-clause-clear : goal.returns-in-1-clause-clear
returns-in-1-clause-clear g c =
    let one : c.size_in_bytes.result ≡ 1 = grind (arith, c.in-1) in
    subst (λ s. OnTrue c.put_whole_of.result (IsEmpty (faults s (length c.args.bytes.now) c.args.mask c.args.places)))
    (sym one ∙ c.size_in_bytes.ensures.value) c.put_whole_of.ensures.clear

pub returns-in-2-clause-clear : goal.returns-in-2-clause-clear
returns-in-2-clause-clear g c =
    let one : c.size_in_bytes.result ≡ 2 = grind (arith, c.in-2) in
    subst (λ s. OnTrue c.put_whole_of-in-2.result (IsEmpty (faults s (length c.args.bytes.now) c.args.mask
    c.args.places))) (sym one ∙ c.size_in_bytes.ensures.value) c.put_whole_of-in-2.ensures.clear

pub returns-in_default-clause-clear : goal.returns-in_default-clause-clear
returns-in_default-clause-clear g c =
    let one : c.size_in_bytes.result ≡ 4 = grind (
      arith,
      c.size_in_bytes.ensures.size.small,
      c.size_in_bytes.ensures.value,
      c.requires.fits,
      c.in_default,
    ) in
    subst (λ s. OnTrue c.put_whole_of-in_default.result (IsEmpty (faults s (length c.args.bytes.now) c.args.mask
    c.args.places))) (sym one ∙ c.size_in_bytes.ensures.value) c.put_whole_of-in_default.ensures.clear
