-- What is read of bytes, and what follows where they are the text of an object.
use Rattle.std.proofs.Common.{◌≡◌, ℕ, List, Option, Some, None, true, false, refl, sym, ap, subst, ◌∙◌}
use Rattle.std.specs.Prelude.{IsSome, IfSome}
use Rattle.wg_object.specs.declared.object.Object.{Object}
use Rattle.wg_object.specs.Plain.{PlainObject}
use Rattle.wg_object.specs.View.{object_of}
use Rattle.wg_object.specs.Valid.{IsObject, IsObjectOf}
use Rattle.wg_object.specs.Reading.{Head, Kept, Tail, head_at, kept_at, tail_at, object_from, object_at}
use Rattle.wg_object.specs.Views.{IsRead}
use Rattle.wg_object.proofs.ObjectAgain.{object_again}

object_read : (d : ℕ) (bytes r1 r2 : List ℕ) (h : Head) (k : Kept) (t : Tail) → (h, r1) ≡ head_at bytes →
    (k, r2) ≡ kept_at r1 → Some t ≡ tail_at d r2 → object_at d bytes ≡ Some (object_from h k t)
unfolding object_at
object_read d bytes r1 r2 h k t a b c = rw (← a, ← b, ← c) refl

made_so : (found : Option Object) (o : PlainObject) → (IsObject o → IsSome found) →
    IfSome found (λ x. object_of x ≡ o) → IsRead found (Some o)
made_so None o some same = λ (h : IsObject o). let e : false ≡ true = some h in cc
made_so (Some x) o some same = same

-- what the parts give is what is read
pub read_so : (d : ℕ) (bytes r1 r2 : List ℕ) (h : Head) (k : Kept) (t : Tail) (found : Option Object) →
    (h, r1) ≡ head_at bytes → (k, r2) ≡ kept_at r1 → Some t ≡ tail_at d r2 →
    (IsObject (object_from h k t) → IsSome found) → IfSome found (λ x. object_of x ≡ object_from h k t) →
    IsRead found (object_at d bytes)
read_so d bytes r1 r2 h k t found a b c some same =
    subst (IsRead found) (sym (object_read d bytes r1 r2 h k t a b c)) (made_so found (object_from h k t) some same)

-- of the text of an object, it is that object
pub reads_it : (d : ℕ) (found : Option Object) (bytes : List ℕ) (o : PlainObject) → IsRead found (object_at d bytes) →
    IsObjectOf bytes o → IsRead found (Some o)
reads_it d found bytes o h is = go (object_at d bytes) refl h
  where
    go : (r : Option PlainObject) → object_at d bytes ≡ r → IsRead found r → IsRead found (Some o)
    go None e none = absurd none
    go (Some y) e read =
        subst (λ (z : PlainObject). IsRead found (Some z))
        (object_again d o y is.object (sym (ap (object_at d) is.text) ∙ e)) read
