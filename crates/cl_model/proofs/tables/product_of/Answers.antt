use Rattle.std.proofs.Common.{◌≡◌, ℕ, List, ◌∷◌, ◌∙◌, ◌*◌, ◌+◌, ◌<◌, sym, ap, drop, get_or, length, mul_assoc}
use Rattle.std.proofs.Common.{drop-cons, add-one}
use Rattle.cl_model.specs.Sizes.{product}
use Rattle.cl_model.proofs.tables.product_of.Goals as goal

-- the next length is the first of those still to come
product_next : (so longer : ℕ) (lengths : List ℕ) (i : ℕ) → i < length lengths → longer ≡ so * get_or lengths i 0 →
    so * product (drop i lengths) ≡ longer * product (drop (i + 1) lengths)
product_next so longer lengths i h e =
    let first : drop i lengths ≡ get_or lengths i 0 ∷ drop (i + 1) lengths = rw (add-one, drop-cons lengths i 0) in
    ap (λ ns. so * product ns) first
    ∙ sym (mul_assoc so (get_or lengths i 0) (product (drop (i + 1) lengths)))
    ∙ ap (λ n. n * product (drop (i + 1) lengths)) (sym e)

pub loop-length-preserved : goal.loop-length-preserved
loop-length-preserved c =
    sym (product_next c.loop-length.so_far c.in-Some.longer c.args.lengths.now c.loop-length.length-index
    c.loop-length-test.true c.in-Some.ensures.1)
    ∙ c.loop-length.invariant
