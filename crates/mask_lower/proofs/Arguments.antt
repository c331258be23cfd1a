-- The arguments of a built-in function.
use Rattle.std.proofs.Common.{◌≡◌, ℕ, ◌≤◌, List, [], ◌∷◌, ◌++◌, Option, length, slice_get, drop, refl}
use Rattle.std.proofs.Common.{ap, sym, ◌∙◌}
use Rattle.std.proofs.lemmas.List.{drop_all}
use Rattle.wg_num.specs.declared.types.IntType.{IntType}
use Rattle.wg_num.specs.declared.types.Fun.{Fun}
use Rattle.kir.specs.declared.line.Atom.{Atom}
use Rattle.lane_code.specs.declared.step.Reg.{Reg}
use Rattle.lane_code.specs.declared.step.Step.{Step}
use Rattle.lane_code.specs.declared.step.Step.TheVariants.{Builtin}
use Rattle.mask_lower.specs.declared.registers.Free.{Free}
use Rattle.mask_lower.specs.Registers.{Frame, past}
use Rattle.mask_lower.specs.Lowered.{argument, past_argument, builtin_code}

-- the registers that are free behind three, and the others
past_three : (next : Free) (args : List Atom) →
    past next args ≡ past (past_argument (past_argument (past_argument next (slice_get args 0)) (slice_get args 1))
    (slice_get args 2)) (drop 3 args)
past_three next [] = refl
past_three next (a ∷ []) = refl
past_three next (a ∷ b ∷ []) = refl
past_three next (a ∷ b ∷ c ∷ rest) = refl

pub others_end : (after r : Free) (args : List Atom) (i : ℕ) → length args ≤ i → past after (drop i args) ≡ r →
    after ≡ r
others_end after r args i done h = sym (ap (past after) (drop_all i args done)) ∙ h

pub builtin_read : (f : Frame) (next n1 n2 n3 n4 : Free) (g : Fun) (of : IntType) (args : List Atom)
    (to mask a b c : Reg) (x y z : Option Atom) (old new : List Step)
    → x ≡ slice_get args 0 → y ≡ slice_get args 1 → z ≡ slice_get args 2
    → (a ≡ argument f next to x) × (n1 ≡ past_argument next x) → (b ≡ argument f n1 to y) ×
    (n2 ≡ past_argument n1 y) → (c ≡ argument f n2 to z) × (n3 ≡ past_argument n2 z)
    → new ≡ old ++ Builtin g of to a b c mask ∷ [] → n4 ≡ past n3 (drop 3 args)
    → (new ≡ old ++ builtin_code f next g of args to mask ∷ []) × (n4 ≡ past next args)
builtin_read f next n1 n2 n3 n4 g of args to mask a b c x y z old new ex ey ez ea eb ec e en =
    let a0 = ea.0 in
    let a1 = ea.1 in
    let b0 = eb.0 in
    let b1 = eb.1 in
    let c0 = ec.0 in
    let c1 = ec.1 in
    let all = past_three next args in
    (cc, cc)
