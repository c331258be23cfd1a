use Rattle.std.proofs.Common.{◌≡◌, ◌∙◌, ◌≤◌, length, get_or, false, arith, rules, below_more, map, Vec, Global, ℕ, []}
use Rattle.wg_num.specs.Bytes.{size_of}
use Rattle.lane_code.specs.Groups.{window, own_faults}
use Rattle.lane_kernels.proofs.ListLaws.{none_anywhere, not_true}
use Rattle.lane_machine.proofs.MaskLaws.{lowest_none, lowest_some}
use Rattle.lane_machine.proofs.OwnLaws.{length_faults, store_next, store_fault, store_below, store_all, not_false}
use Rattle.lane_machine.proofs.own.scatter_each.Goals as goal

pub loop-i-preserved : goal.loop-i-preserved
loop-i-preserved g c =
    let m = c.args.mask in
    let index = c.args.index in
    let from = c.args.from in
    let size = size_of c.args.t in
    let old = map (λ (v : Vec ℕ Global). v.items) c.args.objects.now.items in
    let now = map (λ (v : Vec ℕ Global). v.items) c.loop-i.objects.items in
    let lm : length m ≡ g.row.W = search rules in
    let li : length index ≡ g.row.W = search rules in
    let lf : length from ≡ g.row.W = search rules in
    let i = c.loop-i.i in
    let inv = c.loop-i.invariant in
    record {
      written = store_next size g.row.W c.args.first m index from lm li lf old i now _ (search rules) inv.written
          c.if-not-store_item.ensures.stored;
      clear = below_more (λ k. get_or (own_faults size m index (window [] old c.args.first g.row.W)) k false ≡ false)
          i inv.clear
          (store_fault size g.row.W c.args.first m index from lm li lf old i now (search rules) inv.written ∙
          not_true _ c.if-not-store_item.ensures.done);
    }

pub returns-then-not-store_item : goal.returns-then-not-store_item
returns-then-not-store_item g c =
    let m = c.args.mask in
    let index = c.args.index in
    let from = c.args.from in
    let size = size_of c.args.t in
    let old = map (λ (v : Vec ℕ Global). v.items) c.args.objects.now.items in
    let now = map (λ (v : Vec ℕ Global). v.items) c.loop-i.objects.items in
    let lm : length m ≡ g.row.W = search rules in
    let li : length index ≡ g.row.W = search rules in
    let lf : length from ≡ g.row.W = search rules in
    let i = c.loop-i.i in
    let inv = c.loop-i.invariant in (
      lowest_some (own_faults size m index (window [] old c.args.first g.row.W)) i
          (record {
            set = store_fault size g.row.W c.args.first m index from lm li lf old i now (search rules)
                inv.written ∙ not_false _ c.if-not-store_item.ensures.done;
            before = inv.clear;
          }),
      c.if-not-store_item.ensures.kept ∙
          store_below size g.row.W c.args.first m index from lm li lf old i now (search rules) inv.written,
    )

pub returns : goal.returns
returns g c =
    let m = c.args.mask in
    let index = c.args.index in
    let from = c.args.from in
    let size = size_of c.args.t in
    let old = map (λ (v : Vec ℕ Global). v.items) c.args.objects.now.items in
    let now = map (λ (v : Vec ℕ Global). v.items) c.loop-i.objects.items in
    let lm : length m ≡ g.row.W = search rules in
    let li : length index ≡ g.row.W = search rules in
    let lf : length from ≡ g.row.W = search rules in
    let past : g.row.W ≤ c.loop-i.i = search rules in
    let inv = c.loop-i.invariant in (
      lowest_none (own_faults size m index (window [] old c.args.first g.row.W))
          (none_anywhere (own_faults size m index (window [] old c.args.first g.row.W)) c.loop-i.i (omega (
            arith,
            length_faults g.row.W c.args.first m index lm li size old,
            past,
          )) inv.clear),
      store_all size g.row.W c.args.first m index from lm li lf old c.loop-i.i now past inv.written,
    )
