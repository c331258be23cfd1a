use Rattle.cl_fragment.specs.declared.fragment.Piece.{Piece}
use Rattle.std.proofs.Common.{map, length, refl}
use Rattle.cl_tree.specs.Syntax.{view}
use Rattle.cl_faults.specs.View.{asked_of}
use Rattle.cl_fragment.specs.View.{piece_of}
use Rattle.cl_check.proofs.Judging.{fault_reported, at_fault_reported, judged, first_is}
use Rattle.cl_check.proofs.walk.judge.Goals as goal

pub returns-in-Some-clause-faulted : goal.returns-in-Some-clause-faulted
returns-in-Some-clause-faulted c =
    fault_reported Piece c.fault_of.result _ _ c.fault_of.ensures
    (λ k token q. at_fault_reported (asked_of c.args.walk.asked.now) (length c.args.walk.places.now)
    c.args.walk.places.now
    c.args.environment.now c.args.role (view c.args.tree.now) c.args.parts.kinds.items c.as_slice-kinds.result.now
    c.in_ok-judgement.judgement.fault c.in-Some.fault k _ token c.as_slice-kinds.ensures.value
    c.in_ok-judgement.ensures.fault c.in-Some.is q.0
    q.1 (first_is c.args.tree.now))

pub returns-in_ok-piece-in-None-clause-made : goal.returns-in_ok-piece-in-None-clause-made
returns-in_ok-piece-in-None-clause-made c = λ end h.
    judged (asked_of c.args.walk.asked.now) c.args.walk.places.now c.args.environment.now end c.args.sites.now.items
    c.args.role
    (view c.args.tree.now) (map piece_of c.args.parts.pieces.items) c.args.parts.kinds.items c.as_slice-kinds.result.now
    c.args.parts.kinds.items
    c.in_ok-judgement.judgement.fault c.in_ok-judgement.judgement.kind _ _ _ c.as_slice-kinds.ensures.value refl
    c.in_ok-judgement.ensures.fault c.in-None.is c.in_ok-judgement.ensures.kind (c.in_ok-piece-in-None.ensures end h)
