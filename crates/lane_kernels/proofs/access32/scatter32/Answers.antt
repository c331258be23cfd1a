use Rattle.std.proofs.Common.{◌≡◌, length, take, subst, MatchResult, OnOk, IfErr}
use Rattle.wg_num.specs.Bytes.{size_of}
use Rattle.lane_values.specs.Masks.{IsEmpty, IsLowest}
use Rattle.lane_values.specs.Access.{faults, scattered}
use Rattle.lane_kernels.proofs.ListLaws.{map_id}
use Rattle.lane_kernels.proofs.access32.scatter32.Goals as goal

pub returns-clause-cases : goal.returns-clause-cases
returns-clause-cases g c =
    let size = size_of c.args.t in
    subst (λ b. MatchResult c.scatter_numbers.result (λ _. IsEmpty (faults size (length b) c.args.mask c.args.index))
    (IsLowest (faults size (length b) c.args.mask c.args.index))) c.if-put_whole.ensures.kept
    c.scatter_numbers.ensures.cases

pub returns-clause-stored : goal.returns-clause-stored
returns-clause-stored g c =
    subst (λ b. OnOk c.scatter_numbers.result (c.scatter_numbers.new.bytes ≡
    scattered (size_of c.args.t) b c.args.mask c.args.index c.args.from)) c.if-put_whole.ensures.kept
    (subst (λ from. OnOk c.scatter_numbers.result (c.scatter_numbers.new.bytes ≡
    scattered (size_of c.args.t) c.put_whole.new.bytes c.args.mask c.args.index from)) (map_id c.args.from)
    c.scatter_numbers.ensures.stored)

pub returns-clause-below : goal.returns-clause-below
returns-clause-below g c =
    subst (λ b. IfErr c.scatter_numbers.result (λ k. c.scatter_numbers.new.bytes ≡
    scattered (size_of c.args.t) b (take k c.args.mask) (take k c.args.index) (take k c.args.from)))
    c.if-put_whole.ensures.kept
    (subst (λ from. IfErr c.scatter_numbers.result (λ k. c.scatter_numbers.new.bytes ≡
    scattered (size_of c.args.t) c.put_whole.new.bytes (take k c.args.mask) (take k c.args.index) (take k from)))
    (map_id c.args.from) c.scatter_numbers.ensures.below)
