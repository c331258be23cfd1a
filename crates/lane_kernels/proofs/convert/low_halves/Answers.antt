use Rattle.std.proofs.Common.{◌≡◌, ℕ, ◌%◌, ◌^◌, ◌∙◌, sym, ap, subst, map, cond, not, nat_eq, bit_and, Bool, true}
use Rattle.std.proofs.Common.{false, arith, refl, Fits, w32}
use Rattle.std.specs.Int.{from_bool}
use Rattle.std.specs.Simd.Lanes.{Each1}
use Rattle.std.proofs.lemmas.Nat.{and_mask}
use Rattle.std.proofs.lemmas.Simd.{zip2_splat}
use Rattle.wg_num.specs.Wrap.{is_bool}
use Rattle.wg_num.proofs.WrapLaws.{not_bool}
use Rattle.lane_kernels.proofs.ListLaws.{each_map, map_of_map, same_map}
use Rattle.lane_kernels.proofs.ListLaws as L
use Rattle.lane_kernels.proofs.convert.low_halves.Goals as goal

small : (b : Bool) → Fits w32 (cond b 1 0)
small true = record { fits = omega arith }
small false = record { fits = omega arith }

as_number : (b : Bool) → cond b 1 0 ≡ from_bool b
as_number true = refl
as_number false = refl

pub overflow_cast-result : goal.overflow_cast-result
overflow_cast-result g c =
    subst (Each1 (Fits w32)) (sym (L.chosen_by 64 63 18446744073709551615 refl refl (λ x y. not (nat_eq x y)) 0 1 0
    g.row.W c.args.a c.fits-a.0))
    (each_map (Fits w32) (λ u. cond (not (nat_eq u 0)) 1 0) (λ u. small (not (nat_eq u 0))) c.args.a)

pub returns-in-Bool : goal.returns-in-Bool
returns-in-Bool g c =
    let low = λ (x : ℕ). cond (is_bool c.args.to) (from_bool (not (nat_eq x 0))) (x % 2 ^ 32) in
    ap (map (λ x. x)) (L.chosen_by 64 63 18446744073709551615 refl refl (λ x y. not (nat_eq x y)) 0 1 0 g.row.W
    c.args.a c.fits-a.0)
    ∙ map_of_map (λ x. x) (λ u. cond (not (nat_eq u 0)) 1 0) c.args.a
    ∙ same_map (λ u. cond (not (nat_eq u 0)) 1 0) low
    (λ u. as_number (not (nat_eq u 0)) ∙
    sym (ap (λ b. cond (is_bool b) (from_bool (not (nat_eq u 0))) (u % 2 ^ 32)) c.in-Bool.is)) c.args.a

pub overflow_cast-result-2 : goal.overflow_cast-result-2
overflow_cast-result-2 g c =
    subst (Each1 (Fits w32)) (sym (zip2_splat bit_and c.args.a g.row.W 4294967295 c.fits-a.0))
    (each_map (Fits w32) (λ u. bit_and u 4294967295) (λ u. record { fits = omega (arith, and_mask u 32) }) c.args.a)

pub returns : goal.returns
returns g c =
    let low = λ (x : ℕ). cond (is_bool c.args.to) (from_bool (not (nat_eq x 0))) (x % 2 ^ 32) in
    ap (map (λ x. x)) (zip2_splat bit_and c.args.a g.row.W 4294967295 c.fits-a.0)
    ∙ map_of_map (λ x. x) (λ u. bit_and u 4294967295) c.args.a
    ∙ same_map (λ u. bit_and u 4294967295) low
    (λ u. and_mask u 32 ∙ sym (ap (λ b. cond b (from_bool (not (nat_eq u 0))) (u % 2 ^ 32))
    (not_bool c.args.to c.in_default.not-Bool))) c.args.a
