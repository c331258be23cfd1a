use Rattle.std.proofs.Common.{◌≡◌, ◌∙◌, sym, length, take, subst, arith, MatchResult, OnOk, IfErr}
use Rattle.lane_values.specs.Masks.{IsEmpty, IsLowest}
use Rattle.lane_values.specs.Access.{faults, scattered}
use Rattle.lane_kernels.proofs.access.scatter_numbers.Goals as goal

pub returns-in-1-clause-cases : goal.returns-in-1-clause-cases
returns-in-1-clause-cases g c =
    let bytes = c.args.bytes.now in
    let m = c.args.mask in
    let places = c.args.places in
    let one : c.size_in_bytes.result ≡ 1 = grind (arith, c.in-1) in
    subst (λ s. MatchResult c.scatter_of.result (λ _. IsEmpty (faults s (length bytes) m places))
    (IsLowest (faults s (length bytes) m places))) (sym one ∙
    c.size_in_bytes.ensures.value) c.scatter_of.ensures.cases

pub returns-in-1-clause-stored : goal.returns-in-1-clause-stored
returns-in-1-clause-stored g c =
    let bytes = c.args.bytes.now in
    let m = c.args.mask in
    let places = c.args.places in
    let one : c.size_in_bytes.result ≡ 1 = grind (arith, c.in-1) in
    subst (λ s. OnOk c.scatter_of.result (c.scatter_of.new.bytes ≡ scattered s bytes m places c.args.lanes))
    (sym one ∙ c.size_in_bytes.ensures.value) c.scatter_of.ensures.stored

pub returns-in-1-clause-below : goal.returns-in-1-clause-below
returns-in-1-clause-below g c =
    let bytes = c.args.bytes.now in
    let m = c.args.mask in
    let places = c.args.places in
    let one : c.size_in_bytes.result ≡ 1 = grind (arith, c.in-1) in
    subst (λ s. IfErr c.scatter_of.result (λ k. c.scatter_of.new.bytes ≡ scattered s bytes (take k m) (take k places)
    (take k c.args.lanes))) (sym one ∙ c.size_in_bytes.ensures.value) c.scatter_of.ensures.below

pub returns-in-2-clause-cases : goal.returns-in-2-clause-cases
returns-in-2-clause-cases g c =
    let bytes = c.args.bytes.now in
    let m = c.args.mask in
    let places = c.args.places in
    let one : c.size_in_bytes.result ≡ 2 = grind (arith, c.in-2) in
    subst (λ s. MatchResult c.scatter_of-in-2.result (λ _. IsEmpty (faults s (length bytes) m places))
    (IsLowest (faults s (length bytes) m places))) (sym one ∙
    c.size_in_bytes.ensures.value) c.scatter_of-in-2.ensures.cases

pub returns-in-2-clause-stored : goal.returns-in-2-clause-stored
returns-in-2-clause-stored g c =
    let bytes = c.args.bytes.now in
    let m = c.args.mask in
    let places = c.args.places in
    let one : c.size_in_bytes.result ≡ 2 = grind (arith, c.in-2) in
    subst (λ s. OnOk c.scatter_of-in-2.result (c.scatter_of-in-2.new.bytes ≡ scattered s bytes m places c.args.lanes))
    (sym one ∙ c.size_in_bytes.ensures.value) c.scatter_of-in-2.ensures.stored

pub returns-in-2-clause-below : goal.returns-in-2-clause-below
returns-in-2-clause-below g c =
    let bytes = c.args.bytes.now in
    let m = c.args.mask in
    let places = c.args.places in
    let one : c.size_in_bytes.result ≡ 2 = grind (arith, c.in-2) in
    subst (λ s. IfErr c.scatter_of-in-2.result (λ k. c.scatter_of-in-2.new.bytes ≡
    scattered s bytes (take k m) (take k places) (take k c.args.lanes))) (sym one ∙
    c.size_in_bytes.ensures.value) c.scatter_of-in-2.ensures.below

pub returns-in-4-clause-cases : goal.returns-in-4-clause-cases
returns-in-4-clause-cases g c =
    let bytes = c.args.bytes.now in
    let m = c.args.mask in
    let places = c.args.places in
    let one : c.size_in_bytes.result ≡ 4 = grind (arith, c.in-4) in
    subst (λ s. MatchResult c.scatter_of-in-4.result (λ _. IsEmpty (faults s (length bytes) m places))
    (IsLowest (faults s (length bytes) m places))) (sym one ∙
    c.size_in_bytes.ensures.value) c.scatter_of-in-4.ensures.cases

pub returns-in-4-clause-stored : goal.returns-in-4-clause-stored
returns-in-4-clause-stored g c =
    let bytes = c.args.bytes.now in
    let m = c.args.mask in
    let places = c.args.places in
    let one : c.size_in_bytes.result ≡ 4 = grind (arith, c.in-4) in
    subst (λ s. OnOk c.scatter_of-in-4.result (c.scatter_of-in-4.new.bytes ≡ scattered s bytes m places c.args.lanes))
    (sym one ∙ c.size_in_bytes.ensures.value) c.scatter_of-in-4.ensures.stored

pub returns-in-4-clause-below : goal.returns-in-4-clause-below
returns-in-4-clause-below g c =
    let bytes = c.args.bytes.now in
    let m = c.args.mask in
    let places = c.args.places in
    let one : c.size_in_bytes.result ≡ 4 = grind (arith, c.in-4) in
    subst (λ s. IfErr c.scatter_of-in-4.result (λ k. c.scatter_of-in-4.new.bytes ≡
    scattered s bytes (take k m) (take k places) (take k c.args.lanes))) (sym one ∙
    c.size_in_bytes.ensures.value) c.scatter_of-in-4.ensures.below

pub returns-in_default-clause-cases : goal.returns-in_default-clause-cases
returns-in_default-clause-cases g c =
    let bytes = c.args.bytes.now in
    let m = c.args.mask in
    let places = c.args.places in
    let one : c.size_in_bytes.result ≡ 8 = grind (arith, c.size_in_bytes.ensures.size.small, c.in_default) in
    subst (λ s. MatchResult c.scatter_of-in_default.result (λ _. IsEmpty (faults s (length bytes) m places))
    (IsLowest (faults s (length bytes) m places))) (sym one ∙
    c.size_in_bytes.ensures.value) c.scatter_of-in_default.ensures.cases

pub returns-in_default-clause-stored : goal.returns-in_default-clause-stored
returns-in_default-clause-stored g c =
    let bytes = c.args.bytes.now in
    let m = c.args.mask in
    let places = c.args.places in
    let one : c.size_in_bytes.result ≡ 8 = grind (arith, c.size_in_bytes.ensures.size.small, c.in_default) in
    subst (λ s. OnOk c.scatter_of-in_default.result (c.scatter_of-in_default.new.bytes ≡
    scattered s bytes m places c.args.lanes)) (sym one ∙
    c.size_in_bytes.ensures.value) c.scatter_of-in_default.ensures.stored

pub returns-in_default-clause-below : goal.returns-in_default-clause-below
returns-in_default-clause-below g c =
    let bytes = c.args.bytes.now in
    let m = c.args.mask in
    let places = c.args.places in
    let one : c.size_in_bytes.result ≡ 8 = grind (arith, c.size_in_bytes.ensures.size.small, c.in_default) in
    subst (λ s. IfErr c.scatter_of-in_default.result (λ k. c.scatter_of-in_default.new.bytes ≡
    scattered s bytes (take k m) (take k places) (take k c.args.lanes))) (sym one ∙
    c.size_in_bytes.ensures.value) c.scatter_of-in_default.ensures.below
