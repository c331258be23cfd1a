use Rattle.std.proofs.Common.{◌≡◌, ◌∙◌, sym, length, subst, arith, true, false, MatchOption}
use Rattle.std.specs.Simd.Lanes.{zip2}
use Rattle.lane_values.specs.Masks.{IsEmpty}
use Rattle.lane_values.specs.Access.{faults}
use Rattle.lane_kernels.specs.Vectors.{number_from, are_within}
use Rattle.lane_kernels.proofs.access.gather_whole.Goals as goal

pub returns-in-1 : goal.returns-in-1
returns-in-1 g c =
    let bytes = c.args.bytes.now in
    let m = c.args.mask in
    let places = c.args.places in
    let one : c.size_in_bytes.result ≡ 1 = grind (arith, c.in-1) in
    subst (λ s. MatchOption c.whole_of.result (are_within s (length bytes) m places ≡ false)
    (λ v. (are_within s (length bytes) m places ≡ true) × (IsEmpty (faults s (length bytes) m places) ×
    (v ≡ zip2 (number_from s bytes) m places)))) (sym one ∙ c.size_in_bytes.ensures.value) c.whole_of.ensures

pub returns-in-2 : goal.returns-in-2
returns-in-2 g c =
    let bytes = c.args.bytes.now in
    let m = c.args.mask in
    let places = c.args.places in
    let one : c.size_in_bytes.result ≡ 2 = grind (arith, c.in-2) in
    subst (λ s. MatchOption c.whole_of-in-2.result (are_within s (length bytes) m places ≡ false)
    (λ v. (are_within s (length bytes) m places ≡ true) × (IsEmpty (faults s (length bytes) m places) ×
    (v ≡ zip2 (number_from s bytes) m places)))) (sym one ∙ c.size_in_bytes.ensures.value) c.whole_of-in-2.ensures

pub returns-in_default : goal.returns-in_default
returns-in_default g c =
    let bytes = c.args.bytes.now in
    let m = c.args.mask in
    let places = c.args.places in
    let one : c.size_in_bytes.result ≡ 4 = grind (
      arith,
      c.size_in_bytes.ensures.size.small,
      c.size_in_bytes.ensures.value,
      c.requires.fits,
      c.in_default,
    ) in
    subst (λ s. MatchOption c.whole_of-in_default.result (are_within s (length bytes) m places ≡ false)
    (λ v. (are_within s (length bytes) m places ≡ true) × (IsEmpty (faults s (length bytes) m places) ×
    (v ≡ zip2 (number_from s bytes) m places)))) (sym one ∙ c.size_in_bytes.ensures.value)
    c.whole_of-in_default.ensures
