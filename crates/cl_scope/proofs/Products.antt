-- Products of lengths, and bytes of a number.
use Rattle.std.proofs.Common.{ℕ, suc, [], ◌∷◌, ◌++◌, ◌*◌, ◌+◌, ◌-◌, ◌/◌, ◌%◌, ◌<◌, length, drop, get_or, List, ◌≡◌}
use Rattle.std.proofs.Common.{sym, ap, ◌∙◌, arith}
use Rattle.std.specs.Simd.Lanes.{digits_l}
use Rattle.std.proofs.lemmas.List.{drop_more, append_assoc}
use Rattle.cl_model.specs.Sizes.{product}

pub product_more : (ns : List ℕ) (i : ℕ) (n p more : ℕ) → i < length ns → n ≡ get_or ns i 0 → more ≡ p * n →
    p * product (drop i ns) ≡ more * product (drop (i + 1) ns)
product_more ns i n p more h e m =
    let d : product (drop i ns) ≡ n * product (drop (i + 1) ns) =
    ap product (drop_more ns i 0 h) ∙ ap (λ (x : ℕ). x * product (drop (i + 1) ns)) (sym e) in
    rw (d, m) (omega arith)

-- one byte more is behind the others
pub byte_pushed : (whole before after : List ℕ) (n i r : ℕ) → i < n → whole ≡ before ++ digits_l 256 (n - i) r →
    after ≡ before ++ (r % 256) ∷ []
    → whole ≡ after ++ digits_l 256 (n - (i + 1)) (r / 256)
byte_pushed whole before after n i r h w a =
    let k : n - i ≡ suc (n - (i + 1)) = omega arith in
    w ∙ ap (λ (m : ℕ). before ++ digits_l 256 m r) k
    ∙ sym (append_assoc before ((r % 256) ∷ []) (digits_l 256 (n - (i + 1)) (r / 256)))
    ∙ ap (λ (xs : List ℕ). xs ++ digits_l 256 (n - (i + 1)) (r / 256)) (sym a)
