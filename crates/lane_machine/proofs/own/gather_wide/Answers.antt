use Rattle.std.proofs.Common.{◌≡◌, ◌∙◌, ◌≤◌, sym, length, get_or, false, arith, rules, below_more, map, Vec, Global}
use Rattle.std.proofs.Common.{ℕ, []}
use Rattle.std.proofs.lemmas.List.{length-set}
use Rattle.wg_num.specs.Bytes.{size_of}
use Rattle.lane_code.specs.Groups.{window, own_faults, own_loaded}
use Rattle.lane_kernels.proofs.ListLaws.{written_next, written_all, none_anywhere}
use Rattle.lane_machine.proofs.MaskLaws.{lowest_none, lowest_some}
use Rattle.lane_machine.proofs.OwnLaws.{length_faults, length_loaded, fault_at, loaded_at}
use Rattle.lane_machine.proofs.own.gather_wide.Goals as goal

pub loop-i-preserved : goal.loop-i-preserved
loop-i-preserved g c =
    let m = c.args.mask in
    let index = c.args.index in
    let t = c.args.t in
    let os = map (λ (v : Vec ℕ Global). v.items) c.args.objects.now in
    let own = window [] os c.args.first g.row.W in
    let lm : length m ≡ g.row.W = search rules in
    let li : length index ≡ g.row.W = search rules in
    let i = c.loop-i.i in
    let inv = c.loop-i.invariant in
    record {
      long = length-set _ _ _ ∙ inv.long;
      written = written_next c.loop-i.lanes (own_loaded 64 t m index own) i c.in-Some.lane 0 inv.written
          (omega (arith, inv.long)) (omega (arith, length_loaded g.row.W c.args.first m index lm li 64 t os))
          (c.in-Some.ensures.1 ∙ sym (loaded_at g.row.W c.args.first m index lm li 64 t os i (search rules)));
      clear = below_more (λ k. get_or (own_faults (size_of t) m index own) k false ≡ false) i inv.clear
          (fault_at g.row.W c.args.first m index lm li (size_of t) os i (search rules) ∙ c.in-Some.ensures.0);
    }

pub returns-in-None : goal.returns-in-None
returns-in-None g c =
    let m = c.args.mask in
    let index = c.args.index in
    let t = c.args.t in
    let os = map (λ (v : Vec ℕ Global). v.items) c.args.objects.now in
    let own = window [] os c.args.first g.row.W in
    let lm : length m ≡ g.row.W = search rules in
    let li : length index ≡ g.row.W = search rules in
    let i = c.loop-i.i in
    lowest_some (own_faults (size_of t) m index own) i
    (record {
      set = fault_at g.row.W c.args.first m index lm li (size_of t) os i (search rules) ∙
          c.in-None.ensures;
      before = c.loop-i.invariant.clear;
    })

pub returns : goal.returns
returns g c =
    let m = c.args.mask in
    let index = c.args.index in
    let t = c.args.t in
    let os = map (λ (v : Vec ℕ Global). v.items) c.args.objects.now in
    let own = window [] os c.args.first g.row.W in
    let lm : length m ≡ g.row.W = search rules in
    let li : length index ≡ g.row.W = search rules in
    let inv = c.loop-i.invariant in
    let past : g.row.W ≤ c.loop-i.i = search rules in (
      lowest_none (own_faults (size_of t) m index own) (none_anywhere (own_faults (size_of t) m index own) c.loop-i.i
          (omega (arith, length_faults g.row.W c.args.first m index lm li (size_of t) os, past)) inv.clear),
      written_all c.loop-i.lanes (own_loaded 64 t m index own) c.loop-i.i inv.written (omega (arith, inv.long, past))
          (omega (arith, length_loaded g.row.W c.args.first m index lm li 64 t os, past)),
    )
