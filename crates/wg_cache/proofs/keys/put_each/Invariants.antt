use Rattle.std.proofs.Common.{◌≡◌, ◌++◌, drop}
use Rattle.wg_object.specs.Text.{flat_texts}
use Rattle.wg_cache.specs.Keys.{define_text}
use Rattle.wg_cache.proofs.keys.put_each.Given as goal

-- what is still to be put completes the text
abbrev pub invariant-loop-define : goal.invariant-loop-define
invariant-loop-define l =
    l.out.items ++ flat_texts define_text (drop l.define-index l.list) ≡ l.fn.out.items ++ flat_texts define_text l.list
