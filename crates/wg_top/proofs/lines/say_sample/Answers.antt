use Rattle.wg_top.proofs.lines.say_sample.Goals as goal

pub returns-clause-appended : goal.returns-clause-appended
returns-clause-appended g c = rw (
  c.as_bytes-number_text.ensures.value,
  c.format.ensures.text,
  c.as_bytes-sum_text.ensures.value,
  c.format-2.ensures.text,
) at c.put_pieces.ensures.appended

pub returns-clause-part : goal.returns-clause-part
returns-clause-part g c = rw (
  c.as_bytes-number_text.ensures.value,
  c.format.ensures.text,
  c.as_bytes-sum_text.ensures.value,
  c.format-2.ensures.text,
) at c.put_pieces.ensures.part
