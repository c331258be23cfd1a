use Rattle.wg_top.proofs.lines.say_fault.Goals as goal

pub returns-clause-said : goal.returns-clause-said
returns-clause-said g c = rw (
  c.as_bytes.ensures.value,
  c.format.ensures.text,
  c.as_bytes-2.ensures.value,
  c.format-2.ensures.text,
  c.as_bytes-3.ensures.value,
  c.format-3.ensures.text,
  c.number.ensures,
  c.requires,
) at c.say.ensures.said
