-- What is known of a list of values: of the last ones, and of those before them.
use Rattle.std.proofs.Common.{◌≡◌, ℕ, zero, suc, ℤ, List, [], ◌∷◌, Option, Some, None, length}
use Rattle.std.proofs.Common.{slice_get, take, nat_eq, cond, refl, sym, ap, ◌∙◌, subst}
use Rattle.std.specs.Prelude.{Bool as Test, true, false}
use Rattle.std.proofs.lemmas.Bool.{eqb-true}
use Rattle.std.proofs.lemmas.Option.{none-some, same_Some}
use Rattle.wg_num.specs.declared.types.IntType.{IntType}
use Rattle.wg_num.specs.Wrap.{IsValue}
use Rattle.cl_model.specs.declared.program.Root.{Root}
use Rattle.cl_model.specs.declared.program.VarKind.{VarKind}
use Rattle.cl_model.specs.declared.program.VarKind.TheVariants.{Scalar, Pointer}
use Rattle.cl_model.specs.Tree.{Function, Program}
use Rattle.cl_model.specs.Calls.{function_at}
use Rattle.cl_model.specs.Task.{Frame}
use Rattle.cl_model.specs.Steps.{last, before, taken, taken_onto, below, nth, set_in}
use Rattle.cl_model.specs.Valid.{HasVariable, kind_type, ArgumentsFit}
use Rattle.cl_model_typed.specs.Known.{Known, Of, IsKnown, AreKnown, pushed, HoldsValues}
use Rattle.cl_model_typed.proofs.Numbers.{zero_value}

-- each value is of its type
abbrev pub AreValues : List IntType → List ℤ → Type 0
AreValues [] [] = Unit {0}
AreValues (t ∷ ts) (v ∷ vs) = IsValue t v × AreValues ts vs
AreValues _ _ = ⊥

pub last_known : (k : Known) (ks : List Known) (values : List ℤ) → AreKnown (k ∷ ks) values → IsKnown k (last values)
last_known k ks [] h = absurd h
last_known k ks (v ∷ values) h = h.0

pub before_known : (k : Known) (ks : List Known) (values : List ℤ) → AreKnown (k ∷ ks) values →
    AreKnown ks (before values)
before_known k ks [] h = absurd h
before_known k ks (v ∷ values) h = h.1

below_one : (n : ℕ) (values : List ℤ) → below (suc n) values ≡ before (below n values)
below_one zero values = refl
below_one (suc n) values = below_one n (before values)

taken_one : (n : ℕ) (values onto : List ℤ) →
    taken_onto (suc n) values onto ≡ last (below n values) ∷ taken_onto n values onto
taken_one zero values onto = refl
taken_one (suc n) values onto = taken_one n (before values) (last values ∷ onto)

-- the operands of a step, and what is below them
abbrev pub Parted : List IntType → List Known → List ℤ → Type 0
Parted ts left values =
    AreValues ts (taken (length ts) values) × AreKnown left (below (length ts) values)

pub parted : (ts : List IntType) (left : List Known) (values : List ℤ) → AreKnown (pushed ts left) values →
    Parted ts left values
parted [] left values h = (tt, h)
parted (t ∷ ts) left values h =
    let r = parted ts (Of t ∷ left) values h in
    let below_is = below_one (length ts) values in
    let taken_is = taken_one (length ts) values [] in (
      subst (AreValues (t ∷ ts)) (sym taken_is)
          (last_known (Of t) left (below (length ts) values) r.1, r.0),
      subst (AreKnown left) (sym below_is) (before_known (Of t) left (below (length ts) values) r.1),
    )

pub parted_by : (n : ℕ) (ts : List IntType) (left : List Known) (values : List ℤ) → length ts ≡ n →
    AreKnown (pushed ts left) values → AreValues ts (taken n values) × AreKnown left (below n values)
parted_by n ts left values e h =
    subst (λ m. AreValues ts (taken m values) × AreKnown left (below m values)) e (parted ts left values h)

-- ---- variables

one_type : (f : Function) (x : ℕ) (s t : IntType) → HasVariable f x s → HasVariable f x t → s ≡ t
one_type f x s t (k, e, a) (l, g, b) = sym a ∙ ap kind_type (same_Some k l (sym e ∙ g)) ∙ b

pub holds_set : (program : Program) (frame : Frame) (x : ℕ) (t : IntType) (v : ℤ) →
    HasVariable (function_at program frame.function) x t → IsValue t v → HoldsValues program frame →
    HoldsValues program (set_in frame x v)
holds_set program frame x t v has is holds y s there = by (nat_eq x y) refl
  where
    by : (b : Test) → nat_eq x y ≡ b → IsValue s (cond b v (frame.variables y))
    by true e = subst (λ u. IsValue u v)
        (one_type (function_at program frame.function) y t s
        (subst (λ z. HasVariable (function_at program frame.function) z t) (eqb-true x y e) has) there) is
    by false e = holds y s there

-- the arguments of a call are values of the types of the parameters
pub passed : (program : Program) (f : Function) (n : ℕ) (variables : List VarKind) (roots : List (Option Root))
    (ts : List IntType) (args : List ℤ) (x : ℕ) (kind : VarKind) → ArgumentsFit program f (take n variables) roots ts →
    AreValues ts args → slice_get variables x ≡ Some kind → IsValue (kind_type kind) (nth args x)
passed program f n [] roots ts args x kind a h e = absurd (none-some kind e)
passed program f zero (k ∷ variables) [] [] [] x kind a h e = zero_value (kind_type kind)
passed program f zero (k ∷ variables) [] [] (v ∷ args) x kind a h e = absurd h
passed program f zero (k ∷ variables) [] (t ∷ ts) args x kind a h e = absurd a
passed program f zero (k ∷ variables) (r ∷ roots) ts args x kind a h e = absurd a
passed program f (suc n) (k ∷ variables) (r ∷ roots) (t ∷ ts) [] x kind a h e = absurd h
passed program f (suc n) (Scalar s ∷ variables) (None ∷ roots) (t ∷ ts) (v ∷ args) zero kind a h e =
    subst (λ k. IsValue (kind_type k) v) (same_Some _ _ e) (subst (λ u. IsValue u v) a.0 h.0)
passed program f (suc n) (Pointer at element own ∷ variables) (Some root ∷ roots) (t ∷ ts) (v ∷ args) zero kind a h e =
    subst (λ k. IsValue (kind_type k) v) (same_Some _ _ e) (subst (λ u. IsValue u v) a.0 h.0)
passed program f (suc n) (Scalar s ∷ variables) (None ∷ roots) (t ∷ ts) (v ∷ args) (suc x) kind a h e =
    passed program f n variables roots ts args x kind a.1 h.1 e
passed program f (suc n) (Pointer at element own ∷ variables) (Some root ∷ roots) (t ∷ ts) (v ∷ args) (suc x) kind a h
    e = passed program f n variables roots ts args x kind a.2 h.1 e
passed program f (suc n) (Scalar s ∷ variables) (Some root ∷ roots) (t ∷ ts) (v ∷ args) x kind a h e = absurd a
passed program f (suc n) (Pointer at element own ∷ variables) (None ∷ roots) (t ∷ ts) (v ∷ args) x kind a h e =
    absurd a
passed program f (suc n) (Scalar s ∷ variables) [] ts args x kind a h e = absurd a
passed program f (suc n) (Pointer at element own ∷ variables) [] ts args x kind a h e = absurd a
passed program f (suc n) (Scalar s ∷ variables) (None ∷ roots) [] args x kind a h e = absurd a
passed program f (suc n) (Scalar s ∷ variables) (Some root ∷ roots) [] args x kind a h e = absurd a
passed program f (suc n) (Pointer at element own ∷ variables) (None ∷ roots) [] args x kind a h e = absurd a
passed program f (suc n) (Pointer at element own ∷ variables) (Some root ∷ roots) [] args x kind a h e = absurd a
