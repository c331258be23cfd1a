use Rattle.std.proofs.Common.{◌∙◌, sym}
use Rattle.cl_token.proofs.Literals.{literal_complete, malformed_sound, malformed_complete}
use Rattle.cl_token.proofs.number.literal_of.Goals as goal

pub returns-clause-every : goal.returns-clause-every
returns-clause-every c = λ t v h. c.outcome_of.ensures ∙ literal_complete c.args.word.now t v h

pub returns-clause-malformed : goal.returns-clause-malformed
returns-clause-malformed c = (
  λ h. malformed_sound c.args.word.now (sym c.outcome_of.ensures ∙ h),
  λ h. c.outcome_of.ensures ∙
      malformed_complete c.args.word.now h,
)
