use Rattle.cl_model.proofs.LawPrograms.{valid_at, clean_at, increment_valid, increment_whole}
use Rattle.cl_model.proofs.laws.increment_law.Goals as goal

pub returns-clause-valid : goal.returns-clause-valid
returns-clause-valid c = valid_at _ _ c.in_ok-program.ensures.program increment_valid

pub returns-clause-clean : goal.returns-clause-clean
returns-clause-clean c = clean_at _ _ _ _ _ _ c.in_ok-program.ensures.program c.in_ok-launch.ensures
    c.in_ok-buffers.ensures (increment_whole c.args.global c.args.local c.requires)
