-- The texts of launches, one after the other.
use Rattle.std.proofs.Common.{◌≡◌, ℕ, suc, ◌+◌, ◌<◌, ◌≤◌, Bool, List, [], ◌∷◌, ◌++◌, length, map, drop, get_or, refl}
use Rattle.std.proofs.Common.{sym, ◌∙◌, ap, ap₂, append_assoc, subst, arith}
use Rattle.std.proofs.Math.Seq.{drop-cons}
use Rattle.std.proofs.lemmas.List.{get_or-map, drop_all}
use Rattle.cl_meaning.specs.Typed.{Unit'}
use Rattle.launch_file.specs.Texts.{Part}
use Rattle.wg_top.specs.Shown.{Showing, head_of, AreTexts}

-- the text of one more launch, behind the texts so far
pub one_text : (show : Showing) (width : ℕ) (several : Bool) (parts : List Part) (units : List Unit') (k : ℕ)
    (part : Part) (u : Unit') (text own rest : List ℕ) → k < length parts → k < length units →
    part ≡ get_or parts k part → u ≡ get_or units k u → show width part.kernel u own
    → ((later : List ℕ) → AreTexts show width several (suc k) (drop k parts) (drop k units) later →
    AreTexts show width several 1 parts units (text ++ later))
    → AreTexts show width several (suc (k + 1)) (drop (k + 1) parts) (drop (k + 1) units) rest →
    AreTexts show width several 1 parts units (((text ++ head_of several (k + 1)) ++ own) ++ rest)
one_text show width several parts units k part u text own rest in_parts in_units part_is u_is shown so_far later =
    let next : k + 1 ≡ suc k = omega arith in
    let some_parts : part ∷ drop (k + 1) parts ≡ drop k parts =
    ap₂ (λ p n. p ∷ drop n parts) part_is next ∙ sym (drop-cons parts k part in_parts) in
    let some_units : u ∷ drop (k + 1) units ≡ drop k units =
    ap₂ (λ v n. v ∷ drop n units) u_is next ∙ sym (drop-cons units k u in_units) in
    let here : AreTexts show width several (suc k) (part ∷ drop (k + 1) parts) (u ∷ drop (k + 1) units)
    (head_of several (k + 1) ++ (own ++ rest)) = (
      own,
      rest,
      shown,
      subst (λ (n : ℕ). AreTexts show width several (suc n) (drop (k + 1) parts) (drop (k + 1) units)
          rest) next later,
      ap (λ n. head_of several n ++ (own ++ rest)) next,
    ) in
    let there : AreTexts show width several (suc k) (drop k parts) (drop k units) (head_of several (k + 1) ++
    (own ++ rest)) =
    subst (λ (ps : List Part). AreTexts show width several (suc k) ps (drop k units) (head_of several (k + 1) ++
    (own ++ rest))) some_parts
    (subst (λ (us : List Unit'). AreTexts show width several (suc k) (part ∷ drop (k + 1) parts) us
    (head_of several (k + 1) ++ (own ++ rest))) some_units here) in
    let same : text ++ (head_of several (k + 1) ++ (own ++ rest)) ≡ ((text ++ head_of several (k + 1)) ++ own) ++
    rest = sym (append_assoc (text ++ head_of several (k + 1)) own rest ∙
    append_assoc text (head_of several (k + 1)) (own ++ rest)) in
    subst (λ (t : List ℕ). AreTexts show width several 1 parts units t) same
    (so_far (head_of several (k + 1) ++ (own ++ rest)) there)

-- what two things of one place have in common
pub same_at : {X Y Z : Type 0} (f : X → Z) (g : Y → Z) (xs : List X) (ys : List Y) → map f xs ≡ map g ys →
    (k : ℕ) (x : X) (d : Y) → k < length xs → k < length ys → x ≡ get_or xs k x → f x ≡ g (get_or ys k d)
same_at f g xs ys same k x d in_xs in_ys is =
    ap f is ∙ (sym (get_or-map f xs k x (g d) in_xs) ∙
    (ap (λ zs. get_or zs k (g d)) same ∙ get_or-map g ys k d (g d) in_ys))

-- no launch is left
pub no_text : (show : Showing) (width : ℕ) (several : Bool) (number k : ℕ) (parts : List Part) (units : List Unit') →
    length parts ≤ k → length units ≤ k → AreTexts show width several number (drop k parts) (drop k units) []
no_text show width several number k parts units few_parts few_units =
    subst (λ (ps : List Part). AreTexts show width several number ps (drop k units) [])
    (sym (drop_all k parts few_parts))
    (subst (λ (us : List Unit'). AreTexts show width several number [] us []) (sym (drop_all k units few_units)) refl)
