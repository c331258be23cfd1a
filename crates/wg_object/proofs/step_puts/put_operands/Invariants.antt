use Rattle.std.proofs.Common.{◌≡◌, ◌++◌, drop}
use Rattle.wg_object.specs.Text.{flat_texts, operand_text}
use Rattle.wg_object.specs.Valid.{AllFit, IsOperand}
use Rattle.wg_object.proofs.step_puts.put_operands.Given as goal

-- what is still to be put completes the text, and if that fits, all does
abbrev pub invariant-loop-operand : goal.invariant-loop-operand
invariant-loop-operand l =
    record {
      put : l.out.items ++ flat_texts operand_text (drop l.operand-index l.operands) ≡ l.fn.out.items ++
          flat_texts operand_text l.operands;
      fit : AllFit IsOperand (drop l.operand-index l.operands) → AllFit IsOperand l.operands;
    }
