-- The first of some refusals.
use Rattle.std.proofs.Common.{ℕ, suc, List, [], ◌∷◌, ◌++◌, ◌+◌, ◌-◌, ◌<◌, ◌≤◌, length, drop, get_or, nat_eq, Bool}
use Rattle.std.proofs.Common.{false, Option, Some, None, ◌≡◌, refl, sym, ap, ◌∙◌, arith, drop-cons}
use Rattle.std.proofs.lemmas.Bool.{ne_eqb}
use Rattle.std.proofs.lemmas.List.{drop_all, length-drop}
use Rattle.cl_short_vec.specs.declared.marks.Marked.{Marked}
use Rattle.cl_short_vec.specs.declared.refuse.VectorRefusal.{VectorRefusal}
use Rattle.cl_short_vec.specs.declared.roles.Role.{Role}
use Rattle.cl_short_vec.specs.Marks.{Mark, marking}
use Rattle.cl_short_vec.specs.Roles.{role_of}
use Rattle.cl_short_vec.specs.Faults.{told, is_end, refusals, refusals_in}
use Rattle.cl_short_vec.specs.View.{mark_of, marks_of}
use Rattle.cl_short_vec.proofs.Views.{mark_out}

pub told_first : (xs ys : List VectorRefusal) (r : VectorRefusal) → told xs ≡ Some r → told (xs ++ ys) ≡ Some r
told_first [] ys r h = absurd (cc)
told_first (x ∷ xs) ys r h = h

pub told_later : (xs ys : List VectorRefusal) → told xs ≡ None → told (xs ++ ys) ≡ told ys
told_later [] ys h = refl
told_later (x ∷ xs) ys h = absurd (cc)

pub ruleset node_told = (told_first, told_later, mark_out)

ends : (ms : List Marked) → is_end (marks_of ms) ≡ nat_eq (length ms) 0
ends [] = refl
ends (m ∷ ms) = sym (ne_eqb (length (m ∷ ms)) 0 (λ h. absurd (omega (arith, h))))

pub marks_drop : (ms : List Marked) (i : ℕ) (m : Marked) → i < length ms → m ≡ get_or ms i m →
    marks_of (drop i ms) ≡ marking (mark_of m) (marks_of (drop (i + 1) ms))
marks_drop ms i m h e =
    let one : suc i ≡ i + 1 = omega arith in
    ap (λ (l : List Marked). marks_of l) (drop-cons ms i m h) ∙
    ap (λ (u : Marked). marking (mark_of u) (marks_of (drop (suc i) ms))) (sym e) ∙
    ap (λ j. marking (mark_of m) (marks_of (drop j ms))) one

module _ (role : Role) (whole : Mark) (ms : List Marked) (i left : ℕ) (front : Bool) (m : Marked) (place : Role)
    (goal found : Option VectorRefusal) (within : i < length ms) (is : m ≡ get_or ms i m)
    (inner : told (refusals_in role whole front (marks_of (drop i ms))) ≡ goal) (counted : left + i ≡ length ms)
    (stands : place ≡ role_of role whole front (nat_eq (left - 1) 0) (mark_of m))
    (answer : found ≡ told (refusals place (mark_of m))) where
  last_one : nat_eq (left - 1) 0 ≡ is_end (marks_of (drop (i + 1) ms))
  last_one =
      let e : left - 1 ≡ length (drop (i + 1) ms) = omega (arith, counted, within, length-drop (i + 1) ms) in
      ap (λ n. nat_eq n 0) e ∙ sym (ends (drop (i + 1) ms))

  one_more : refusals_in role whole front (marks_of (drop i ms)) ≡
      refusals place (mark_of m) ++ refusals_in role whole false (marks_of (drop (i + 1) ms))
  unfolding refusals_in
  one_more =
      ap (λ z. refusals_in role whole front z) (marks_drop ms i m within is) ∙
      ap (λ z. refusals z (mark_of m) ++ refusals_in role whole false (marks_of (drop (i + 1) ms)))
      (sym (stands ∙ ap (λ b. role_of role whole front b (mark_of m)) last_one))

  -- the first that is found is told
  pub told_here : (r : VectorRefusal) → found ≡ Some r → Some r ≡ goal
  told_here r h =
      sym (told_first (refusals place (mark_of m)) (refusals_in role whole false (marks_of (drop (i + 1) ms))) r
      (sym answer ∙ h)) ∙ (ap told (sym one_more) ∙ inner)

  pub told_behind : found ≡ None → told (refusals_in role whole false (marks_of (drop (i + 1) ms))) ≡ goal
  told_behind h =
      sym (told_later (refusals place (mark_of m)) (refusals_in role whole false (marks_of (drop (i + 1) ms)))
      (sym answer ∙ h)) ∙ (ap told (sym one_more) ∙ inner)

-- nothing is found
pub told_none : (role : Role) (whole : Mark) (ms : List Marked) (i : ℕ) (front : Bool) (goal : Option VectorRefusal) →
    length ms ≤ i → told (refusals_in role whole front (marks_of (drop i ms))) ≡ goal → None ≡ goal
unfolding refusals_in
told_none role whole ms i front goal h inner =
    ap (λ (z : List Marked). told (refusals_in role whole front (marks_of z))) (sym (drop_all i ms h)) ∙ inner
