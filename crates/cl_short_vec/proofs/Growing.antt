-- Lists of trees that grow by what stands for each item of another list.
use Rattle.std.proofs.Common.{ℕ, suc, List, [], ◌∷◌, ◌++◌, ◌+◌, ◌<◌, ◌≤◌, length, drop, get_or, ◌≡◌, refl, sym, ap, ◌∙◌}
use Rattle.std.proofs.Common.{arith, drop-cons}
use Rattle.std.proofs.lemmas.List.{drop_all}
use Rattle.cl_tree.specs.declared.tree.Tree.{Tree}
use Rattle.cl_tree.specs.Syntax.{Syntax, Forest, none, more, joined, view, views}

pub joined_none : (ts : Forest) → joined ts none ≡ ts
joined_none none = refl
joined_none (more t ts) = ap (λ us. more t us) (joined_none ts)

pub joined_on : (ts us vs : Forest) → joined (joined ts us) vs ≡ joined ts (joined us vs)
joined_on none us vs = refl
joined_on (more t ts) us vs = ap (λ ws. more t ws) (joined_on ts us vs)

-- one tree more
views_more : (ts : List Tree) (t : Tree) → views (ts ++ t ∷ []) ≡ joined (views ts) (more (view t) none)
views_more [] t = refl
views_more (u ∷ ts) t = ap (λ (z : Forest). more (view u) z) (views_more ts t)

pub views_pushed : (ts us : List Tree) (t : Tree) → us ≡ ts ++ t ∷ [] →
    views us ≡ joined (views ts) (more (view t) none)
views_pushed ts us t h = ap (λ (z : List Tree). views z) h ∙ views_more ts t

-- one tree more, of those that are still to come
pub views_on : (ts us : List Tree) (t : Tree) (x : Syntax) (f rest goal : Forest) → f ≡ more x rest → view t ≡ x →
    us ≡ ts ++ t ∷ [] → joined (views ts) f ≡ goal → joined (views us) rest ≡ goal
views_on ts us t x f rest goal e k d inner =
    ap (λ z. joined z rest) (views_pushed ts us t d) ∙ (joined_on (views ts) (more (view t) none) rest ∙
    (ap (λ z. joined (views ts) (more z rest)) k ∙ (ap (λ z. joined (views ts) z) (sym e) ∙ inner)))

module _ {A : Type 0} (whole : List A → Forest) (step : A → Forest) (nothing : whole [] ≡ none)
    (something : (x : A) (xs : List A) → whole (x ∷ xs) ≡ joined (step x) (whole xs)) (xs : List A) (i : ℕ)
    (done : Forest) (goal : Forest) (inner : joined done (whole (drop i xs)) ≡ goal) where
  -- what stands for one item more
  pub grown : (x : A) (done' : Forest) → i < length xs → x ≡ get_or xs i x → done' ≡ joined done (step x) →
      joined done' (whole (drop (i + 1) xs)) ≡ goal
  grown x done' h e d =
      let one : suc i ≡ i + 1 = omega arith in
      let rest : Forest = whole (drop (i + 1) xs) in
      ap (λ z. joined z rest) d ∙ (joined_on done (step x) rest ∙
      (ap (λ z. joined done (joined (step z) rest)) e ∙
      (ap (λ j. joined done (joined (step (get_or xs i x)) (whole (drop j xs)))) (sym one) ∙
      (ap (λ z. joined done z) (sym (something (get_or xs i x) (drop (suc i) xs))) ∙
      (ap (λ z. joined done (whole z)) (sym (drop-cons xs i x h)) ∙ inner)))))

  pub grown_whole : length xs ≤ i → done ≡ goal
  grown_whole h = sym (joined_none done) ∙ (ap (λ z. joined done z) (sym nothing) ∙
      (ap (λ z. joined done (whole z)) (sym (drop_all i xs h)) ∙ inner))

module _ {A : Type 0} (whole : List A → Forest) (tree : A → Syntax) (nothing : whole [] ≡ none)
    (something : (x : A) (xs : List A) → whole (x ∷ xs) ≡ more (tree x) (whole xs)) (xs : List A) (i : ℕ)
    (ts : List Tree) (goal : Forest) (inner : joined (views ts) (whole (drop i xs)) ≡ goal) where
  -- where one tree stands for each item
  pub grown_one : (x : A) (t : Tree) (us : List Tree) → i < length xs → x ≡ get_or xs i x → view t ≡ tree x →
      us ≡ ts ++ t ∷ [] → joined (views us) (whole (drop (i + 1) xs)) ≡ goal
  grown_one x t us h e k d =
      grown whole (λ y. more (tree y) none) nothing something xs i (views ts) goal inner x (views us) h e
      (views_pushed ts us t d ∙ ap (λ s. joined (views ts) (more s none)) k)

  pub grown_all : length xs ≤ i → views ts ≡ goal
  grown_all h = grown_whole whole (λ y. more (tree y) none) nothing something xs i (views ts) goal inner h
