use Rattle.std.proofs.Common.{◌≡◌, drop, map}
use Rattle.kir.specs.Listed.{cell_of}
use Rattle.ctx_plan_text.specs.Entries.{variable_of}
use Rattle.ctx_plan_text.specs.Lines.{line_among}
use Rattle.ctx_plan_text.proofs.lines.put_variable.Given as goal

-- the text is as it was, and none of the cells so far is the variable's
abbrev pub invariant-loop-n : goal.invariant-loop-n
invariant-loop-n l = record {
  same : l.text.items ≡ l.fn.text.items;
  left : line_among l.homes (variable_of l.variable) l.n (map cell_of (drop l.n l.cells)) ≡
      line_among l.homes (variable_of l.variable) 0 (map cell_of l.cells);
}
