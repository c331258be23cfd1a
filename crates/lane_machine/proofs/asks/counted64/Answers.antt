use Rattle.std.proofs.Common.{◌≡◌, ◌∙◌, ◌+◌, ◌%◌, ◌^◌, ◌<◌, sym, ap, cond, get_or, length, replicate, arith}
use Rattle.std.proofs.lemmas.List.{length-set, length-replicate, get_or-replicate}
use Rattle.wg_num.specs.declared.types.IntType.TheVariants.{Uint}
use Rattle.wg_num.specs.Wrap.{value_of}
use Rattle.cl_model.specs.Sizes.{answer_of, local_id, size_at}
use Rattle.cl_model.specs.View.{launch_of}
use Rattle.lane_values.specs.Lanes.{lane}
use Rattle.lane_code.specs.Acts.{answers}
use Rattle.lane_machine.specs.Rows.{does_grow}
use Rattle.lane_machine.proofs.AskLaws.{get_or-answers, value_small}
use Rattle.lane_machine.proofs.RowLaws.{counted, lane_number}
use Rattle.lane_machine.proofs.WindowLaws.{set_next}
use Rattle.lane_machine.proofs.asks.counted64.Goals as goal

pub loop-i-preserved : goal.loop-i-preserved
loop-i-preserved g c =
    let l = c.args.launch.now in
    let launch = launch_of l in
    let item = c.args.item.number in
    let what = c.args.what in
    let d = c.args.d in
    let dims = replicate g.row.W d in
    let long : length dims ≡ g.row.W = length-replicate g.row.W d in
    let all = answers 64 launch item what dims in
    let i = c.loop-i.i in
    let inv = c.loop-i.invariant in
    let step : c.ahead.result ≡ cond (does_grow what d) i 0 =
    c.ahead.ensures ∙ ap (λ b. cond b i 0) c.grows-growing.ensures in
    let value = (c.answer-first.result + c.ahead.result) % 2 ^ 64 in
    let is : local_id launch item 0 + i < size_at launch.local 0 → value ≡
    lane 64 (answer_of launch (item + i) what (value_of Uint (get_or dims i 0))) =
    λ row. ap (λ k. (c.answer-first.result + k) % 2 ^ 64) step
    ∙ sym (lane_number (c.answer-first.result + cond (does_grow what d) i 0))
    ∙ sym (ap (lane 64) (ap (λ q. answer_of launch (item + i) what (value_of Uint q))
    (get_or-replicate g.row.W i d 0 (omega arith)) ∙
    ap (answer_of launch (item + i) what) (value_small d (omega (arith, c.ranges.d)))
    ∙ counted l c.requires.sizes.local item i row what d c.answer-first.result c.answer-first.ensures)) in
    record {
      long = length-set _ _ _ ∙ inv.long;
      written = set_next (λ k. local_id launch item 0 + k < size_at launch.local 0) c.loop-i.lanes all i value 0
          (omega (arith, inv.long))
          (λ row. is row ∙ sym (get_or-answers 64 launch item what dims i (omega (arith, long)))) inv.written;
    }
