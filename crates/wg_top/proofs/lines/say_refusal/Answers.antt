use Rattle.wg_top.proofs.lines.say_refusal.Goals as goal

pub returns-clause-said : goal.returns-clause-said
returns-clause-said g c = rw (
  c.as_bytes.ensures.value,
  c.format.ensures.text,
  c.number.ensures,
  c.requires,
) at c.say.ensures.said
