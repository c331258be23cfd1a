use Rattle.std.proofs.Common.{◌∙◌, sym, map, arith, ℕ}
use Rattle.std.proofs.lemmas.List.{length-set, get_or-map}
use Rattle.lane_machine.proofs.NestedLaws.{length_mapped}
use Rattle.lane_kernels.proofs.ListLaws.{written_next}
use Rattle.lane_machine.proofs.own.zero_bytes.Goals as goal

pub loop-i-preserved : goal.loop-i-preserved
loop-i-preserved c =
    let inv = c.loop-i.invariant in
    let i = c.loop-i.i in
    let old = c.args.bytes.now in
    record {
      long = length-set _ _ _ ∙ inv.long;
      written = written_next c.loop-i.bytes (map (λ (b : ℕ). 0) old) i 0 0 inv.written (omega (
        arith,
        inv.long,
        c.loop-i-test.true,
      )) (omega (arith, length_mapped {B = ℕ} (λ (b : ℕ). 0) old, c.loop-i-test.true))
          (sym (get_or-map {Y = ℕ} (λ (b : ℕ). 0) old i 0 0 (omega (arith, c.loop-i-test.true))));
    }
