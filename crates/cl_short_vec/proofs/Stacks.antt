-- Names that are declared one behind the other.
use Rattle.std.proofs.Common.{ℕ, List, [], ◌∷◌, ◌++◌, take, length, min, get_or, ◌<◌, ◌+◌, ◌≤◌, ◌≡◌, refl}
use Rattle.std.proofs.Common.{◌-◌, true, false, if◌then◌else◌, ap, sym, ◌∙◌, arith}
use Rattle.std.specs.Str.{bytes_eq}
use Rattle.std.proofs.lemmas.List.{take_more, take-take, length-take}
use Rattle.cl_short_vec.specs.declared.names.Entry.{Entry}
use Rattle.cl_short_vec.specs.Kinds.{Names, with_name}
use Rattle.cl_short_vec.specs.View.{names_from, names_of}

pub names_more : (names : Names) (es : List Entry) (e : Entry) →
    names_from names (es ++ e ∷ []) ≡ with_name (names_from names es) e.name.now e.kind
names_more names [] e = refl
names_more names (d ∷ es) e = names_more (with_name names d.name.now d.kind) es e

-- one name more
pub names_push : (es ds : List Entry) (e : Entry) → ds ≡ es ++ e ∷ [] →
    names_of ds ≡ with_name (names_of es) e.name.now e.kind
names_push es ds e h = ap names_of h ∙ names_more (names_of []) es e

-- the names up to one, and that one
pub names_up_to : (es : List Entry) (i : ℕ) (d : Entry) → i < length es →
    names_of (take (i + 1) es) ≡ with_name (names_of (take i es)) (get_or es i d).name.now (get_or es i d).kind
names_up_to es i d h = names_push (take i es) (take (i + 1) es) (get_or es i d) (take_more es i d h)

module _ (es : List Entry) (i : ℕ) (d : Entry) (q : List ℕ) (below : 1 ≤ i) (within : i ≤ length es)
    (inner : names_of (take i es) q ≡ names_of es q) where
  last_named : names_of es q ≡ (if bytes_eq (get_or es (i - 1) d).name.now q then (get_or es (i - 1) d).kind else
      names_of (take (i - 1) es) q)
  last_named =
      let e : i ≡ i - 1 + 1 = omega arith in
      sym inner ∙ (ap (λ n. names_of (take n es) q) e ∙
      ap (λ (n : Names). n q) (names_up_to es (i - 1) d (omega arith)))

  -- the last name that is it decides
  pub found_at : bytes_eq (get_or es (i - 1) d).name.now q ≡ true → (get_or es (i - 1) d).kind ≡ names_of es q
  found_at h = sym (last_named ∙ rw h refl)

  pub passed_at : bytes_eq (get_or es (i - 1) d).name.now q ≡ false →
      names_of (take (i - 1) es) q ≡ names_of es q
  passed_at h = sym (last_named ∙ rw h refl)

no_longer : (es ds : List Entry) → take (length es) ds ≡ es → length es ≤ length ds
no_longer es ds h =
    let e : min (length es) (length ds) ≡ length es =
    sym (length-take (length es) ds) ∙ ap (λ (xs : List Entry). length xs) h in omega (arith, e)

-- what stands in front stays there
pub kept_on : (es ds fs : List Entry) → take (length es) ds ≡ es → take (length ds) fs ≡ ds → take (length es) fs ≡ es
kept_on es ds fs h k = sym (take-take (length es) (length ds) fs (no_longer es ds h)) ∙
    (ap (λ xs. take (length es) xs) k ∙ h)
