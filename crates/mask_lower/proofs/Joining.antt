-- Lists that grow at their ends.
use Rattle.std.proofs.Common.{◌≡◌, List, [], ◌∷◌, ◌++◌, sym, ap, ◌∙◌, append_assoc}

-- one entry, then two lists
pub one_two : {A : Type 0} (x : A) (ys zs rest a0 a1 a2 a3 : List A) → a1 ≡ a0 ++ x ∷ [] → a2 ≡ a1 ++ ys →
    a3 ≡ a2 ++ zs → a0 ++ (x ∷ (ys ++ (zs ++ rest))) ≡ a3 ++ rest
one_two x ys zs rest a0 a1 a2 a3 e1 e2 e3 =
    let flat : ((((a0 ++ x ∷ []) ++ ys) ++ zs) ++ rest) ≡ a0 ++ (x ∷ (ys ++ (zs ++ rest))) = simp append_assoc in
    sym (ap (λ c. c ++ rest) (e3 ∙ ap (λ c. c ++ zs) (e2 ∙ ap (λ c. c ++ ys) e1)) ∙ flat)

-- two lists, then one entry
pub two_one : {A : Type 0} (x : A) (ys zs rest a0 a1 a2 a3 : List A) → a1 ≡ a0 ++ ys → a2 ≡ a1 ++ zs →
    a3 ≡ a2 ++ x ∷ [] → a0 ++ (ys ++ (zs ++ (x ∷ rest))) ≡ a3 ++ rest
two_one x ys zs rest a0 a1 a2 a3 e1 e2 e3 =
    let flat : ((((a0 ++ ys) ++ zs) ++ x ∷ []) ++ rest) ≡ a0 ++ (ys ++ (zs ++ (x ∷ rest))) = simp append_assoc in
    sym (ap (λ c. c ++ rest) (e3 ∙ ap (λ c. c ++ x ∷ []) (e2 ∙ ap (λ c. c ++ zs) e1)) ∙ flat)
