-- The helping variables of a statement have different names where its tokens are in order.
use Rattle.std.proofs.Common.{◌≡◌, ℕ, suc, ◌≤◌, ◌<◌, ◌^◌, Bool, true, false, not, ◌||◌, nat_eq, List, [], ◌∷◌, ◌++◌}
use Rattle.std.proofs.Common.{map, Option, Some, None, if◌then◌else◌, refl, ap, sym, ◌∙◌, subst, inl, inr, arith}
use Rattle.std.proofs.lemmas.Bool.{false≢true}
use Rattle.std.proofs.lemmas.Bool.Decides.{nat_tests}
use Rattle.wg_num.specs.declared.types.IntType.{IntType}
use Rattle.wg_num.specs.declared.types.Bin.{Bin}
use Rattle.cl_model.specs.Lists.{Each, IsOneOf, AllDiffer}
use Rattle.cl_tree.specs.declared.tree.Form.TheVariants as forms
use Rattle.cl_tree.specs.Syntax.{Syntax, node, Forest, none, more, first_of, last_of}
use Rattle.cl_meaning.specs.Spelling.{postfix_in}
use Rattle.cl_meaning.specs.Declarations.{form_of}
use Rattle.cl_check_sound.specs.Shape.{IsExpressionOf}
use Rattle.cl_short_vec.specs.declared.nodes.Span.{Span}
use Rattle.cl_short_vec.specs.declared.kinds.Kind.{Kind}
use Rattle.cl_short_vec.specs.declared.kinds.Kind.TheVariants.{Vectors, Pointer, Other}
use Rattle.cl_short_vec.specs.declared.made.Made.{Made}
use Rattle.cl_short_vec.specs.declared.made.Made.TheVariants as made
use Rattle.cl_short_vec.specs.declared.roles.Role.TheVariants.{Target, Used}
use Rattle.cl_short_vec.specs.Types.{numbers, selection_in, is_one_of, all_differ}
use Rattle.cl_short_vec.specs.Kinds.{Names, within, later}
use Rattle.cl_short_vec.specs.Marks.{Mark, mark, Marks, unmarked, marking, tree_at, kind_at, vector_among, kind_by}
use Rattle.cl_short_vec.specs.Marks.{marked}
use Rattle.cl_short_vec.specs.Marks.{marked_parts}
use Rattle.cl_short_vec.specs.Roles.{is_place, is_paren, role_of}
use Rattle.cl_short_vec.specs.Faults.{refusals, all_of, components_of, no_component, selects_nothing}
use Rattle.cl_short_vec.specs.Faults.{lacks_component, picked_by}
use Rattle.cl_short_vec.specs.Made.{made_of}
use Rattle.cl_short_vec.specs.Nodes.{span_of, component_name, helper}
use Rattle.cl_short_vec.specs.Order.{Named, Step, Offset, type_in, count_in, named_by, loads}
use Rattle.cl_short_vec.specs.Order.{copies, steps_by, steps_in, all_steps, list_steps, inside_steps, is_through, under}
use Rattle.cl_short_vec.specs.Order.{is_element_in, target_steps, old_steps}
use Rattle.cl_short_vec.proofs.Small.{SmallKind, SmallMark, SmallMarks}
use Rattle.cl_short_vec_faults.specs.Lines.{InOrder, PartsInOrder}
use Rattle.cl_short_vec_faults.proofs.LineKeeps.{step_name}
use Rattle.cl_short_vec_faults.proofs.Refused.{node_none, part_none}
use Rattle.cl_short_vec_faults.proofs.PlainForms.{selection_some, postfix_unpointed, unpointed_selection}
use Rattle.cl_short_vec_faults.proofs.Places.{place_form}
use Rattle.cl_short_vec_faults.proofs.Known.{not_false}
use Rattle.cl_short_vec_faults.proofs.PartFits.{both_true}
use Rattle.cl_short_vec_faults.proofs.LineFitTrees.{small_count, indexes_some}
use Rattle.cl_short_vec_faults.proofs.LineNames.{Ranged, ranged_wide, ranged_append, components_ranged, own_ranged}
use Rattle.cl_short_vec_faults.proofs.LineNames.{numbers_differ, numbers_small}

-- ---- marked trees in order

abbrev mutual
  pub MarkInOrder : Mark → Type 0
  MarkInOrder (mark t k ms) = (first_of t ≤ last_of t) × MarksInOrder (first_of t) (last_of t) ms

  pub MarksInOrder : ℕ → ℕ → Marks → Type 0
  MarksInOrder f l unmarked = Unit {0}
  MarksInOrder f l (marking m ms) = (f ≤ first_of (tree_at m)) × (last_of (tree_at m) ≤ l) × MarkInOrder m ×
      MarksInOrder (suc (last_of (tree_at m))) l ms

pub tree_marked : (t : Syntax) (names : Names) → tree_at (marked names t) ≡ t
unfolding marked
tree_marked (node form w f l parts) names = refl

mutual
  unfolding marked marked_parts

  pub marked_in_order : (t : Syntax) (names : Names) → InOrder t → MarkInOrder (marked names t)
  marked_in_order (node form w f l parts) names h = (h.0, parts_in_order parts form parts (within form w names) true f l h.1)

  parts_in_order : (ps : Forest) (form : _) (all : Forest) (names : Names) (front : Bool) (f l : ℕ) →
      PartsInOrder f l ps → MarksInOrder f l (marked_parts form all names front ps)
  parts_in_order none form all names front f l h = tt
  parts_in_order (more p ps) form all names front f l h =
      let e = sym (tree_marked p names) in (
        subst (λ z. f ≤ first_of z) e h.0,
        subst (λ z. last_of z ≤ l) e h.1,
        marked_in_order p names h.2,
        subst (λ z. MarksInOrder (suc (last_of z)) l (marked_parts form all (later form all names front p) false ps)) e
            (parts_in_order ps form all (later form all names front p) false (suc (last_of p)) l h.3),
      )

pub first_last : (m : Mark) → MarkInOrder m → first_of (tree_at m) ≤ last_of (tree_at m)
first_last (mark t k ms) h = h.0

-- ---- names of steps

pub names_append : (xs ys : List Step) → map step_name (xs ++ ys) ≡ map step_name xs ++ map step_name ys
names_append [] ys = refl
names_append (x ∷ xs) ys = ap (λ z. step_name x ∷ z) (names_append xs ys)

load_names : (m : Mark) (cs : List ℕ) →
    map step_name (loads m cs) ≡ map (component_name (helper (span_of (tree_at m)))) cs
load_names m [] = refl
load_names m (c ∷ cs) = ap (λ z. component_name (helper (span_of (tree_at m))) c ∷ z) (load_names m cs)

copy_names : (of : IntType) (x : Named) (cs : List ℕ) →
    map step_name (copies of x cs) ≡ map (component_name (helper x.span)) cs
copy_names of x [] = refl
copy_names of x (c ∷ cs) = ap (λ z. component_name (helper x.span) c ∷ z) (copy_names of x cs)

-- ---- leaves

row_ranged : (s : Span) (f l : ℕ) (k : Kind) → f ≤ s.first → s.first ≤ l → SmallKind k →
    Ranged f l (map (component_name (helper s)) (numbers 0 1 (count_in k)))
row_ranged s f l k a b h = components_ranged s f l a b (numbers 0 1 (count_in k))
    (numbers_small 0 (count_in k) (let x = small_count k h in omega (arith, x))) (numbers_differ 0 (count_in k))

by_ranged : (how : Made) (of : IntType) (g : _) (w : List ℕ) (f l : ℕ) (ps : Forest) (k : Kind) (ms : Marks)
    (items all lists : List Step) → f ≤ l → SmallKind k → Ranged f l (map step_name items) →
    Ranged f l (map step_name all) → Ranged f l (map step_name lists) →
    Ranged f l (map step_name (steps_by how of (mark (node g w f l ps) k ms) items all lists))
by_ranged made.Number of g w f l ps k ms items all lists o s x y z =
    own_ranged (span_of (node g w f l ps)) f l (omega arith) o [] (tt, tt)
by_ranged made.Items of g w f l ps k ms items all lists o s x y z = x
by_ranged made.Variable of g w f l ps k ms items all lists o s x y z =
    subst (Ranged f l) (sym (copy_names (type_in k) (named_by (node g w f l ps)) (numbers 0 1 (count_in k))))
    (row_ranged (span_of (node g w f l ps)) f l k (omega arith) o s)
by_ranged made.Element of g w f l ps k ms items all lists o s x y z =
    let at = span_of (node g w f l ps) in
    subst (λ q. Ranged f l (helper at ∷ q))
    (sym (load_names (mark (node g w f l ps) k ms) (numbers 0 1 (count_in k))))
    (own_ranged at f l (omega arith) o (numbers 0 1 (count_in k)) (row_ranged at f l k (omega arith) o s))
by_ranged made.Listed of g w f l ps k ms items all lists o s x y z = z
by_ranged how of g w f l ps k ms items all lists o s x y z = y

-- names of a part in front, and of the parts behind it
next_ranged : (m : Mark) (f l : ℕ) (xs ys : List Step) → f ≤ first_of (tree_at m) → last_of (tree_at m) ≤ l →
    MarkInOrder m → l < 2 ^ 64 → Ranged (first_of (tree_at m)) (last_of (tree_at m)) (map step_name xs) →
    Ranged (suc (last_of (tree_at m))) l (map step_name ys) → Ranged f l (map step_name (xs ++ ys))
next_ranged m f l xs ys a b o c x y =
    let i = first_last m o in
    subst (Ranged f l) (sym (names_append xs ys)) (ranged_append f (last_of (tree_at m)) (suc (last_of (tree_at m))) l
    (map step_name xs) (map step_name ys) (omega (arith, a, i)) (omega arith) b c
    (ranged_wide (first_of (tree_at m)) (last_of (tree_at m)) f (last_of (tree_at m)) a (omega arith)
    (map step_name xs) x) y)

mutual
  unfolding steps_in all_steps list_steps inside_steps

  -- the leaves of an operand, or of items
  pub steps_ranged : (m : Mark) (listed : Bool) (of : IntType) → MarkInOrder m → SmallMark m →
      last_of (tree_at m) < 2 ^ 64 →
      Ranged (first_of (tree_at m)) (last_of (tree_at m)) (map step_name (steps_in listed of m))
  steps_ranged (mark (node g w f l ps) k ms) listed of o s b =
      by_ranged (made_of listed (node g w f l ps) k) of g w f l ps k ms (all_steps true of ms)
      (all_steps false (type_in (vector_among ms)) ms) (list_steps (type_in k) ms) o.0 s.0
      (all_ranged ms true of f l o.1 s.1 b) (all_ranged ms false (type_in (vector_among ms)) f l o.1 s.1 b)
      (lists_ranged ms (type_in k) f l o.1 s.1 b)

  all_ranged : (ms : Marks) (listed : Bool) (of : IntType) (f l : ℕ) → MarksInOrder f l ms → SmallMarks ms →
      l < 2 ^ 64 → Ranged f l (map step_name (all_steps listed of ms))
  all_ranged unmarked listed of f l o s b = (tt, tt)
  all_ranged (marking m ms) listed of f l o s b =
      next_ranged m f l (steps_in listed of m) (all_steps false of ms) o.0 o.1 o.2 b
      (steps_ranged m listed of o.2 s.0 (let i = o.1 in omega (arith, i, b)))
      (all_ranged ms false of (suc (last_of (tree_at m))) l o.3 s.1 b)

  lists_ranged : (ms : Marks) (of : IntType) (f l : ℕ) → MarksInOrder f l ms → SmallMarks ms → l < 2 ^ 64 →
      Ranged f l (map step_name (list_steps of ms))
  lists_ranged unmarked of f l o s b = (tt, tt)
  lists_ranged (marking m ms) of f l o s b =
      next_ranged m f l (inside_steps of m) (list_steps of ms) o.0 o.1 o.2 b
      (inside_ranged m of o.2 s.0 (let i = o.1 in omega (arith, i, b)))
      (lists_ranged ms of (suc (last_of (tree_at m))) l o.3 s.1 b)

  inside_ranged : (m : Mark) (of : IntType) → MarkInOrder m → SmallMark m → last_of (tree_at m) < 2 ^ 64 →
      Ranged (first_of (tree_at m)) (last_of (tree_at m)) (map step_name (inside_steps of m))
  inside_ranged (mark t k ms) of o s b =
      either (is_paren (form_of t)) (all_ranged ms true of (first_of t) (last_of t) o.1 s.1 b)
    where
      either : (c : Bool) → Ranged (first_of t) (last_of t) (map step_name (all_steps true of ms)) →
          Ranged (first_of t) (last_of t) (map step_name (if c then all_steps true of ms else []))
      either true x = x
      either false x = (tt, tt)

-- ---- targets

-- the variable or element under a target stands in it
pub under_range : (m : Mark) → MarkInOrder m → (first_of (tree_at m) ≤ first_of (tree_at (under m))) ×
    (first_of (tree_at (under m)) ≤ last_of (tree_at m))
unfolding under
under_range (mark t k unmarked) o = (omega arith, o.0)
under_range (mark t k (marking a others)) o =
    by (is_through t) (under_range a o.1.2)
  where
    by : (b : Bool) → (first_of (tree_at a) ≤ first_of (tree_at (under a))) ×
        (first_of (tree_at (under a)) ≤ last_of (tree_at a)) →
        (first_of t ≤ first_of (tree_at (if b then under a else mark t k (marking a others)))) ×
        (first_of (tree_at (if b then under a else mark t k (marking a others))) ≤ last_of t)
    by true x = (omega (arith, o.1.0, x.0), omega (arith, o.1.1, x.1))
    by false x = (omega arith, o.0)

span_first : (t : Syntax) → (span_of t).first ≡ first_of t
span_first (node g w f l ps) = refl

module _ (m : Mark) (cs : List ℕ) (f l : ℕ) (a : f ≤ first_of (tree_at m)) (b : first_of (tree_at m) ≤ l)
    (d : Each (λ k. k < 2 ^ 64) cs) (n : AllDiffer cs) where
  abbrev s : Span
  s = span_of (tree_at m)

  low : f ≤ s.first
  low = subst (λ z. f ≤ z) (sym (span_first (tree_at m))) a

  high : s.first ≤ l
  high = subst (λ z. z ≤ l) (sym (span_first (tree_at m))) b

  old_ranged : Ranged f l (map (component_name (helper s)) cs)
  old_ranged = components_ranged s f l low high cs d n

  pub target_ranged : (o : Option Bin) → Ranged f l (map step_name (target_steps m ++ old_steps o m cs))
  target_ranged None = by (is_element_in (kind_at m))
    where
      by : (c : Bool) → Ranged f l (map step_name ((if c then Offset m ∷ [] else []) ++ []))
      by true = own_ranged s f l low high [] (tt, tt)
      by false = (tt, tt)
  target_ranged (Some op) = by (is_element_in (kind_at m))
    where
      by : (c : Bool) → Ranged f l (map step_name ((if c then Offset m ∷ [] else []) ++
          (if c then loads m cs else copies (type_in (kind_at m)) (named_by (tree_at m)) cs)))
      by true = subst (λ q. Ranged f l (helper s ∷ q)) (sym (load_names m cs))
          (own_ranged s f l low high cs old_ranged)
      by false = subst (Ranged f l) (sym (copy_names (type_in (kind_at m)) (named_by (tree_at m)) cs)) old_ranged

-- ---- the components of a target

among_true : (k : ℕ) (ks : List ℕ) → IsOneOf ks k → is_one_of k ks ≡ true
among_true k [] i = absurd i
among_true k (j ∷ js) (inl e) =
    ap (λ z. z || is_one_of k js) (let same : k ≡ j = sym e in let t : nat_eq k j ≡ true = grind (arith, nat_tests) in
    t)
among_true k (j ∷ js) (inr i) = ap (λ z. nat_eq k j || z) (among_true k js i) ∙ by (nat_eq k j)
  where
    by : (b : Bool) → (b || true) ≡ true
    by true = refl
    by false = refl

differ_is : (ks : List ℕ) → all_differ ks ≡ true → AllDiffer ks
differ_is [] h = tt
differ_is (k ∷ ks) h =
    let b = both_true (not (is_one_of k ks)) (all_differ ks) h in
    (λ i. false≢true (sym (ap not (among_true k ks i)) ∙ b.0), differ_is ks b.1)

all_differ_of : (k : Kind) → AllDiffer (all_of k)
all_differ_of (Vectors v r) = numbers_differ 0 v.count
all_differ_of (Pointer s c v) = tt
all_differ_of (Other y) = tt

second_no : (a b : Bool) → (a || b) ≡ false → b ≡ false
second_no false b h = h
second_no true b h = absurd (false≢true (sym h))

picked_whole : (s : Option (List ℕ)) (k j : Kind) (ks : List ℕ) → s ≡ None → AllDiffer (picked_by s k j ks)
picked_whole None k j ks e = all_differ_of k
picked_whole (Some name) k j ks e = absurd cc

lacks_nothing : (s : Option (List ℕ)) (name : List ℕ) (j : Kind) (ks : List ℕ) → s ≡ Some name →
    lacks_component Target s j ks ≡ false → AllDiffer ks
lacks_nothing None name j ks e h = absurd cc
lacks_nothing (Some q) name j ks e h =
    differ_is ks (not_false (all_differ ks) (second_no (selects_nothing j q) (not (all_differ ks)) h))

two_unselected : (w : List ℕ) (f l : ℕ) (a b : Syntax) (bs : Forest) →
    IsExpressionOf true (node forms.PostfixNode w f l (more a (more b bs))) → selection_in w ≡ None
two_unselected w f l a b none h = unpointed_selection w (postfix_unpointed w (indexes_some (postfix_in w) h.0))
two_unselected w f l a b (more c cs) h = absurd h

mutual
  unfolding marked marked_parts kind_by components_of no_component role_of

  -- no component of a target comes twice
  pub target_differs : (t : Syntax) (names : Names) → IsExpressionOf true t → refusals Target (marked names t) ≡ [] →
      is_place (kind_at (marked names t)) ≡ true → AllDiffer (components_of (marked names t))
  target_differs (node forms.VariableNode w f l none) names h r p =
      all_differ_of (kind_at (marked names (node forms.VariableNode w f l none)))
  target_differs (node forms.VariableNode w f l (more a as')) names h r p = absurd h
  target_differs (node forms.ParenNode w f l none) names h r p = absurd h
  target_differs (node forms.ParenNode w f l (more a none)) names h r p =
      let t = node forms.ParenNode w f l (more a none) in
      let m = marked names a in
      target_differs a names h (subst (λ z. refusals (if z then Target else Used) m ≡ []) p
      (part_none Target t (kind_at m) m r)) p
  target_differs (node forms.ParenNode w f l (more a (more b bs))) names h r p = absurd h
  target_differs (node forms.UnaryNode w f l none) names h r p = absurd h
  target_differs (node forms.UnaryNode w f l (more a none)) names h r p =
      all_differ_of (kind_at (marked names (node forms.UnaryNode w f l (more a none))))
  target_differs (node forms.UnaryNode w f l (more a (more b bs))) names h r p = absurd h
  target_differs (node forms.PostfixNode w f l none) names h r p = absurd h
  target_differs (node forms.PostfixNode w f l (more a none)) names (inl h) r p =
      let t = node forms.PostfixNode w f l (more a none) in
      picked_whole (selection_in w) (kind_at (marked names t)) (kind_at (marked names a))
      (components_of (marked names a)) (unpointed_selection w (postfix_unpointed w h.0))
  target_differs (node forms.PostfixNode w f l (more a none)) names (inr h) r p =
      let t = node forms.PostfixNode w f l (more a none) in
      let k = kind_at (marked names t) in
      let m = mark t k (marking (marked names a) unmarked) in
      let x = selection_some w h.0 in
      lacks_nothing (selection_in w) x.0 (kind_at (marked names a)) (components_of m) x.1
      (node_none Target t k (marking (marked names a) unmarked) r).2
  target_differs (node forms.PostfixNode w f l (more a (more b bs))) names h r p =
      let t = node forms.PostfixNode w f l (more a (more b bs)) in
      picked_whole (selection_in w) (kind_at (marked names t)) (kind_at (marked names a))
      (components_of (marked names a)) (two_unselected w f l a b bs h)
  target_differs (node g w f l ps) names h r p =
      absurd (false≢true (place_form g w names (marked_parts g ps (within g w names) true ps) p))
