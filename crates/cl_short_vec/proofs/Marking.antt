-- Marks of parts, one behind the other.
use Rattle.std.proofs.Common.{ℕ, suc, List, [], ◌∷◌, ◌++◌, ◌+◌, ◌<◌, ◌≤◌, drop, length, get_or, Bool, true, false}
use Rattle.std.proofs.Common.{Result, Ok, Err, IfOk, ◌≡◌, refl, ap, sym, ◌∙◌, arith, drop-cons}
use Rattle.std.proofs.lemmas.List.{drop_all}
use Rattle.cl_tree.specs.declared.tree.Form.{Form}
use Rattle.cl_tree.specs.declared.tree.Tree.{Tree}
use Rattle.cl_tree.specs.declared.tree.Tree.TheViews.{out-Tree}
use Rattle.cl_tree.specs.Syntax.{Syntax, Forest, more, view, views}
use Rattle.cl_meaning.proofs.Views.{view_out}
use Rattle.cl_short_vec.specs.declared.marks.Marked.{Marked}
use Rattle.cl_short_vec.specs.Kinds.{Names, within, later}
use Rattle.cl_short_vec.specs.Marks.{Marks, unmarked, marking, marked, marked_parts, marked_node}
use Rattle.cl_short_vec.specs.View.{mark_of, marks_of}

-- marks that are done, in front of others
abbrev pub onto : List Marked → Marks → Marks
onto [] ns = ns
onto (m ∷ ms) ns = marking (mark_of m) (onto ms ns)

onto_more : (ms : List Marked) (m : Marked) (ns : Marks) → onto (ms ++ m ∷ []) ns ≡ onto ms (marking (mark_of m) ns)
onto_more [] m ns = refl
onto_more (l ∷ ls) m ns = ap (λ z. marking (mark_of l) z) (onto_more ls m ns)

onto_none : (ms : List Marked) → onto ms unmarked ≡ marks_of ms
onto_none [] = refl
onto_none (m ∷ ms) = ap (λ z. marking (mark_of m) z) (onto_none ms)

views_drop : (ts : List Tree) (i : ℕ) (t : Tree) → i < length ts → t ≡ get_or ts i t →
    views (drop i ts) ≡ more (view t) (views (drop (i + 1) ts))
views_drop ts i t h e =
    let one : suc i ≡ i + 1 = omega arith in
    ap (λ (l : List Tree). views l) (drop-cons ts i t h) ∙
    ap (λ (u : Tree). more (view u) (views (drop (suc i) ts))) (sym e) ∙
    ap (λ j. more (view t) (views (drop j ts))) one

module _ (form : Form) (all : Forest) (ts : List Tree) (i : ℕ) (done : List Marked) (names : Names) (front : Bool)
    (goal : Marks) (inner : onto done (marked_parts form all names front (views (drop i ts))) ≡ goal) where
  -- one part more is marked
  pub marks_more : (t : Tree) (m : Marked) (done' : List Marked) (names' : Names) → i < length ts → t ≡ get_or ts i t →
      mark_of m ≡ marked names (view t) → done' ≡ done ++ m ∷ [] → names' ≡ later form all names front (view t) →
      onto done' (marked_parts form all names' false (views (drop (i + 1) ts))) ≡ goal
  unfolding marked_parts
  marks_more t m done' names' h e k d n =
      let rest : Forest = views (drop (i + 1) ts) in
      ap (λ z. onto z (marked_parts form all names' false rest)) d ∙
      (onto_more done m (marked_parts form all names' false rest) ∙
      (ap (λ z. onto done (marking z (marked_parts form all names' false rest))) k ∙
      (ap (λ z. onto done (marking (marked names (view t)) (marked_parts form all z false rest))) n ∙
      (ap (λ z. onto done (marked_parts form all names front z)) (sym (views_drop ts i t h e)) ∙ inner))))

  -- all parts are marked
  pub marks_done : length ts ≤ i → marks_of done ≡ goal
  unfolding marked_parts
  marks_done h = sym (onto_none done) ∙
      (ap (λ (z : List Tree). onto done (marked_parts form all names front (views z))) (sym (drop_all i ts h)) ∙ inner)

-- what names stand for at the parts of a node
abbrev pub inner_names : Names → Tree → Names
inner_names names t = within (out-Tree t).form (out-Tree t).word names

-- a node with its parts
pub tree_marked : (names names' : Names) (t : Tree) (ms : Marks) → names' ≡ names →
    ms ≡ marked_parts (out-Tree t).form (views (out-Tree t).parts.items) (inner_names names t) true
    (views (out-Tree t).parts.items) → marked_node names' (view t) ms ≡ marked names (view t)
unfolding marked
tree_marked names names' t ms n h =
    ap (λ z. marked_node z (view t) ms) n ∙ (ap (λ z. marked_node names (view t) z) h ∙
    (ap (λ (s : Syntax). marked_node names s (marked_parts (out-Tree t).form (views (out-Tree t).parts.items)
    (inner_names names t) true (views (out-Tree t).parts.items))) (view_out t) ∙
    sym (ap (λ s. marked names s) (view_out t))))

pub ok_onto : {A E : Type 0} (r : Result A E) (P Q : A → Type 0) → IfOk r P → ((a : A) → P a → Q a) → IfOk r Q
ok_onto (Ok a) P Q h f = f a h
ok_onto (Err e) P Q h f = tt
