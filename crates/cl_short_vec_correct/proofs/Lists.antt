-- The values of a vector expression as a list.
use Rattle.std.proofs.Common.{◌≡◌, ℕ, zero, suc, ◌+◌, ◌<◌, ℤ, map, slice_get, Option, Some, ap, ◌∙◌, arith}
use Rattle.wg_num.specs.declared.types.Bin.{Bin}
use Rattle.cl_short_vec.specs.Types.{numbers}
use Rattle.cl_short_vec_correct.specs.Values.{worth_of, set_list_by}
use Rattle.cl_short_vec_correct.specs.Law.{VectorsAre}

pub numbered : (f : ℕ → ℤ) (first n j : ℕ) → j < n → slice_get (map f (numbers first 1 n)) j ≡ Some (f (first + j))
numbered f first zero j l = absurd (omega arith)
numbered f first (suc n) zero l = ap (λ z. Some (f z)) (let q : first ≡ first + 0 = omega arith in q)
numbered f first (suc n) (suc j) l =
    numbered f (first + 1) n j (omega arith) ∙
    ap (λ z. Some (f z)) (let q : first + 1 + j ≡ first + suc j = omega arith in q)

pub vectors_are : VectorsAre
vectors_are leaves n a j l = (
  numbered (worth_of leaves a.value) 0 n j l ∙
      ap (λ z. Some (worth_of leaves a.value z)) (let q : 0 + j ≡ j = omega arith in q),
  λ h. ap (λ (o : Option Bin). set_list_by o n a leaves) h,
)
