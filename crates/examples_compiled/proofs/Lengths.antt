-- The lengths of buffers that are made one after the other.
use Rattle.std.proofs.Common.{◌≡◌, ℕ, suc, ◌+◌, ◌<◌, List, [], ◌∷◌, ◌++◌, length, map, take, get_or, refl, sym, ap, ap₂}
use Rattle.std.proofs.Common.{◌∙◌, arith, Global}
use Rattle.std.specs.declared.vec.Vec.{Vec}
use Rattle.std.proofs.Math.Seq.{take-suc}

abbrev pub lengths : List (Vec ℕ Global) → List ℕ
lengths xs = map (λ (b : List ℕ). length b) (map (λ (v : Vec ℕ Global). v.items) xs)

lengths-snoc : (xs : List (Vec ℕ Global)) (v : Vec ℕ Global) → lengths (xs ++ v ∷ []) ≡ lengths xs ++ length v.items ∷ []
lengths-snoc [] v = refl
lengths-snoc (x ∷ xs) v = ap (λ ns. length x.items ∷ ns) (lengths-snoc xs v)

pub lengths_step : (old new : List (Vec ℕ Global)) (v : Vec ℕ Global) (all : List ℕ) (i n : ℕ) →
    new ≡ old ++ v ∷ [] → i < length all → n ≡ get_or all i n → length v.items ≡ n → lengths old ≡ take i all →
    lengths new ≡ take (i + 1) all
lengths_step old new v all i n pushed lt is long same =
    let next : i + 1 ≡ suc i = omega arith in
    ap lengths pushed ∙ (lengths-snoc old v ∙
    (ap₂ (λ (ns : List ℕ) (m : ℕ). ns ++ m ∷ []) same (long ∙ is) ∙
    sym (ap (λ k. take k all) next ∙ take-suc all i n lt)))
