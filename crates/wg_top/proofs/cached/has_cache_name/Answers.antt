use Rattle.std.proofs.Common.{List, length, ◌≤◌, subst, rules}
use Rattle.std.proofs.lemmas.List.{take_all}
use Rattle.launch_file.specs.declared.text.BufferText.{BufferText}
use Rattle.wg_top.specs.Causes.{NoCacheName}
use Rattle.wg_top.proofs.ObjectLemmas.{said_true, said_false}
use Rattle.wg_top.proofs.CachedLemmas.{saved_so, plain_more}
use Rattle.wg_top.proofs.cached.has_cache_name.Goals as goal

pub returns-then-is_saved_so-clause-named : goal.returns-then-is_saved_so-clause-named
returns-then-is_saved_so-clause-named c = λ true plain. saved_so c.args.buffers.now c.loop-buffer.buffer-index
    c.buffer-item.result c.loop-buffer-test.true c.buffer-item.is
    (said_true c.is_saved_so.result _ c.if-is_saved_so.true c.is_saved_so.ensures) plain

pub loop-buffer-preserved : goal.loop-buffer-preserved
loop-buffer-preserved c = plain_more c.args.buffers.now c.loop-buffer.buffer-index c.buffer-item.result
    c.loop-buffer-test.true c.buffer-item.is
    (said_false c.is_saved_so.result _ c.if-is_saved_so.false c.is_saved_so.ensures) c.loop-buffer.invariant

pub returns-clause-plain : goal.returns-clause-plain
returns-clause-plain c =
    let all : length c.args.buffers.now ≤ c.loop-buffer.buffer-index = search rules in
    λ false. subst (λ (bs : List BufferText). NoCacheName bs)
    (take_all c.loop-buffer.buffer-index c.args.buffers.now all) c.loop-buffer.invariant
