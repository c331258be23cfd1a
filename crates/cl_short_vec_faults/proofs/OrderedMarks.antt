-- The marks of a tree whose nodes stand in the order of the tokens.
use Rattle.std.proofs.Common.{◌≡◌, ℕ, suc, ◌≤◌, Bool, true}
use Rattle.std.proofs.Common.{false, refl, sym, subst, arith}
use Rattle.cl_tree.specs.Syntax.{Syntax, node, Forest, none, more, first_of, last_of}
use Rattle.cl_short_vec.specs.Kinds.{Names}
use Rattle.cl_short_vec.specs.Kinds as kinds
use Rattle.cl_short_vec.specs.Marks.{Mark, mark, Marks, unmarked, marking, tree_at, marked}
use Rattle.cl_short_vec.specs.Marks.{marked_parts}
use Rattle.cl_short_vec_faults.proofs.Ordered.{Ordered, OrderedIn, ordered_le}

abbrev pub first_at : Mark → ℕ
first_at m = first_of (tree_at m)

abbrev pub last_at : Mark → ℕ
last_at m = last_of (tree_at m)

abbrev mutual
  -- each part stands behind the one before it, and in its node
  pub OrderedMark : Mark → Type 0
  OrderedMark (mark t k parts) = (first_of t ≤ last_of t) × OrderedMarks (first_of t) parts (suc (last_of t))

  pub OrderedMarks : ℕ → Marks → ℕ → Type 0
  OrderedMarks n unmarked m = n ≤ m
  OrderedMarks n (marking p ps) m = (n ≤ first_at p) × OrderedMark p × OrderedMarks (suc (last_at p)) ps m

mark_le : (m : Mark) → OrderedMark m → first_at m ≤ last_at m
mark_le (mark t k parts) h = h.0

pub same_tree : (names : Names) (t : Syntax) → tree_at (marked names t) ≡ t
unfolding marked
same_tree names (node form w f l parts) = refl

mutual
  unfolding marked marked_parts

  pub marked_ordered : (names : Names) (t : Syntax) → Ordered t → OrderedMark (marked names t)
  marked_ordered names (node form w f l none) h = (h, omega arith)
  marked_ordered names (node form w f l (more p ps)) h = (
    ordered_le (node form w f l (more p ps)) h,
    parts_ordered form (more p ps) (kinds.within form w names) true (more p ps) f (suc l) h,
  )

  parts_ordered : (form : _) (all : Forest) (names : Names) (front : Bool) (ps : Forest) (n m : ℕ) →
      OrderedIn n ps m → OrderedMarks n (marked_parts form all names front ps) m
  parts_ordered form all names front none n m h = h
  parts_ordered form all names front (more p ps) n m h =
      let e = sym (same_tree names p) in (
        subst (λ z. n ≤ first_of z) e h.0,
        marked_ordered names p h.1,
        subst (λ z. OrderedMarks (suc (last_of z)) (marked_parts form all (kinds.later form all names front p) false
            ps) m)
            e (parts_ordered form all (kinds.later form all names front p) false ps (suc (last_of p)) m h.2),
      )
