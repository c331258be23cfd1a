use Rattle.std.proofs.Common.{List, ℕ, subst}
use Rattle.cl_front.specs.Typed.{IsUnitRefusal}
use Rattle.wg_top.proofs.programs.compile_alone.Goals as goal

pub returns-in-Err-clause-err : goal.returns-in-Err-clause-err
returns-in-Err-clause-err c = λ bytes defines is placed end. c.refused.ensures.kernel bytes defines c.args.kernel.now
    (subst (λ (k : List ℕ). IsUnitRefusal bytes defines k c.in-Err.error) c.bytes.ensures
    (c.in-Err.ensures.err bytes defines is placed end))
