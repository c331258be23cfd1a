use Rattle.std.proofs.Common.{refl, arith, ◌<◌, w32}
use Rattle.std.proofs.lemmas.Simd.{below_from_Fits}
use Rattle.std.proofs.Common.{◌+◌, ◌-◌, ◌^◌, ◌%◌, ap, ap₂, ◌∙◌, not, nat_eq, cond, bit_and}
use Rattle.wg_num.specs.Wrap.{is_bool}
use Rattle.wg_num.proofs.WrapLaws.{not_bool}
use Rattle.lane_values.specs.Lanes.{extended}
use Rattle.lane_kernels.proofs.LaneLaws as K
use Rattle.lane_kernels.proofs.ListLaws as L
use Rattle.lane_kernels.proofs.ListLaws.{map_stays}
use Rattle.lane_kernels.proofs.lanes32.extend32.Goals as goal

pub returns-in-Bool : goal.returns-in-Bool
returns-in-Bool g c =
    L.chosen_by 32 31 4294967295 refl refl (λ x y. not (nat_eq x y)) 0 1 0 g.row.W c.args.a c.fits-a.0
    ∙ L.map_same 32 31 4294967295 refl refl (λ p. cond (not (nat_eq p 0)) 1 0) ((extended 32) c.args.t)
    (λ p. K.extend_bool 32 (2 ^ 31) refl refl (omega arith) (omega arith) c.args.t p (ap is_bool c.in-Bool.is))
    c.args.a

pub returns : goal.returns
returns g c =
    let h = c.half_of-half.result in
    let m = c.low_bits.result in
    L.three_splats 32 31 4294967295 refl refl (λ x y. (x + y) % 2 ^ 32) bit_and (λ x y. (x + (2 ^ 32 - y)) % 2 ^ 32) h
    m h g.row.W c.args.a c.fits-a.0
    ∙ L.map_same 32 31 4294967295 refl refl (λ p. (bit_and ((p + h) % 2 ^ 32) m + (2 ^ 32 - h)) % 2 ^ 32)
    ((extended 32) c.args.t)
    (λ p. ap₂ (λ x y. (bit_and ((p + x) % 2 ^ 32) y + (2 ^ 32 - x)) % 2 ^ 32) c.half_of-half.ensures c.low_bits.ensures
    ∙ K.extend_whole 32 (2 ^ 31) refl refl (omega arith) (omega arith) c.args.t p c.requires
    (not_bool c.args.t c.in_default.not-Bool)) c.args.a

pub returns-then-is_whole : goal.returns-then-is_whole
returns-then-is_whole g c =
    let t = c.args.t in
    map_stays (λ x. x < 2 ^ 32) (extended 32 t)
    (λ p h. K.extend_full 32 (2 ^ 31) refl refl (omega arith) (omega arith) t p c.if-is_whole.ensures
    (not_bool t c.in_default.not-Bool) h) c.args.a (below_from_Fits w32 c.args.a c.fits-a.1)
