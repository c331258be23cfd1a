use Rattle.std.proofs.lemmas.Result.{IfOk-weaker}
use Rattle.mask_lower.specs.Registers.{frame_of}
use Rattle.mask_lower.proofs.Arguments.{builtin_read}
use Rattle.mask_lower.proofs.work.lower_builtin.Goals as goal

pub returns : goal.returns
returns c = IfOk-weaker c.past_others.result _ _
    (λ n en. builtin_read (frame_of c.args.layout.now) c.args.next c.in_ok-a.next c.in_ok-b.next c.in_ok-c.next n
    c.args.what.f c.args.what.of c.args.args.now.items c.args.to c.args.mask c.in_ok-a.a c.in_ok-b.b c.in_ok-c.c
    c.atom_of.result c.atom_of-2.result c.atom_of-3.result c.args.code.now.items _ c.atom_of.ensures
    c.atom_of-2.ensures c.atom_of-3.ensures c.in_ok-a.ensures c.in_ok-b.ensures c.in_ok-c.ensures
    c.in_ok-push.ensures en) c.past_others.ensures
