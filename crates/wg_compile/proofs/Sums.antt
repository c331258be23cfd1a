-- Sums of lists.
use Rattle.std.proofs.Common.{◌≡◌, ℕ, ◌+◌, List, [], ◌∷◌, ◌++◌, sym, zero-add, add_assoc, ◌∙◌, ap}
use Rattle.std.specs.Prelude.{sum, sum_by}
use Rattle.std.proofs.lemmas.List.{map-id}
use Rattle.std.proofs.lemmas.List.Sums.{sum-map, sum_by-cons, sum_by_push}

sum_is : (xs : List ℕ) → sum xs ≡ sum_by (λ x. x) xs
sum_is xs = ap sum (sym (map-id xs)) ∙ sum-map (λ x. x) xs

pub sum-cons : (n : ℕ) (xs : List ℕ) → sum (n ∷ xs) ≡ n + sum xs
sum-cons n xs = sum_is (n ∷ xs) ∙ (sum_by-cons (λ x. x) n xs ∙ ap (λ k. n + k) (sym (sum_is xs)))

pub sum_push : (xs : List ℕ) (x : ℕ) → sum (xs ++ x ∷ []) ≡ sum xs + x
sum_push xs x = sum_is (xs ++ x ∷ []) ∙ (sum_by_push (λ n. n) xs x ∙ ap (λ k. k + x) (sym (sum_is xs)))

pub sum-append : (xs ys : List ℕ) → sum (xs ++ ys) ≡ sum xs + sum ys
sum-append [] ys = sym (zero-add (sum ys))
sum-append (x ∷ xs) ys = sum-cons x (xs ++ ys) ∙
    (ap (λ k. x + k) (sum-append xs ys) ∙
    (sym (add_assoc x (sum xs) (sum ys)) ∙ ap (λ k. k + sum ys) (sym (sum-cons x xs))))
