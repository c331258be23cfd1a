use Rattle.std.proofs.Common.{List, ℕ, [], ◌++◌, codes, ap, ◌∙◌}
use Rattle.std.specs.Prelude.{decimal, if◌then◌else◌}
use Rattle.wg_top.proofs.LineLemmas.{said_behind}
use Rattle.wg_top.proofs.lines.say_stop.Goals as goal

pub returns-clause-said : goal.returns-clause-said
returns-clause-said g c =
    let stop = c.args.stop in
    said_behind (g.E.Sink.written c.args.sink.now) (g.E.Sink.written c.say.new.sink) (g.E.Sink.faults c.args.sink.now)
    (g.E.Sink.faults c.say.new.sink) stop.several stop.launch c.head_of.result.now c.shown_if.result.now
    c.tail_of.result.now
    ((if c.args.parted then codes "parted: group " else codes "range: group ") ++
    (decimal stop.group ++ (codes ", item " ++
    (decimal stop.item ++ (codes ", " ++
    (decimal stop.place.line ++ (codes ":" ++ (decimal stop.place.column ++ codes "\n"))))))))
    c.head_of.ensures (c.shown_if.ensures ∙ ap (λ (x : List ℕ). if stop.several then x else []) c.format.ensures.text)
    c.tail_of.ensures
    (rw (
      c.word_of.ensures,
      c.as_bytes.ensures.value,
      c.format-2.ensures.text,
      c.as_bytes-2.ensures.value,
      c.format-3.ensures.text,
      c.as_bytes-3.ensures.value,
      c.format-4.ensures.text,
      c.as_bytes-4.ensures.value,
      c.format-5.ensures.text,
    ) at c.say.ensures.said)
