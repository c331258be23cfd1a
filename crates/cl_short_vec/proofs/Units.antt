-- Lines, declarators and statements without vectors, one behind the other.
use Rattle.std.proofs.Common.{ℕ, List, [], ◌∷◌, ◌++◌, ◌+◌, ◌<◌, ◌≤◌, length, drop, get_or, ◌≡◌, refl, Option}
use Rattle.std.proofs.Common.{zero, suc, Bool, true, false, not, ◌&&◌, if◌then◌else◌, ap, sym, ◌∙◌, subst, arith}
use Rattle.std.proofs.lemmas.List.{drop_all}
use Rattle.cl_tree.specs.declared.tree.Form.TheVariants as forms
use Rattle.cl_tree.specs.declared.tree.Tree.{Tree}
use Rattle.cl_tree.specs.Syntax.{Syntax, Forest, none, more, joined, view, views}
use Rattle.cl_tree.specs.Nodes.{forest1}
use Rattle.cl_meaning.specs.Declarations.{form_of}
use Rattle.cl_short_vec.specs.declared.marks.Marked.{Marked}
use Rattle.cl_short_vec.specs.declared.marks.Marked.TheViews.{out-Marked}
use Rattle.cl_short_vec.specs.declared.nodes.Span.{Span}
use Rattle.cl_short_vec.specs.declared.steps.Step as rust_step
use Rattle.cl_short_vec.specs.declared.types.Vector.{Vector}
use Rattle.cl_short_vec.specs.Marks.{Mark, mark, Marks, unmarked, marking, tree_at}
use Rattle.cl_short_vec.specs.Nodes as nodes
use Rattle.cl_short_vec.specs.Order.{Named}
use Rattle.cl_short_vec.specs.Parts.{Assigned}
use Rattle.cl_short_vec.specs.Unit.{line_of, lines_of, component_declarator, component_declarators, length_or_part}
use Rattle.cl_short_vec.specs.Unit.{lengths_at, declarators_of, all_declarators, declarator_lines, initialiser}
use Rattle.cl_short_vec.specs.Unit.{vector_lines, is_declaration, declaration_lines, block_line, scalarised}
use Rattle.cl_short_vec.specs.Scalar.{scalar}
use Rattle.cl_short_vec.specs.Unit.{all_scalarised, block_lines, loop_parts, whole_by, simple_of}
use Rattle.cl_short_vec.specs.View.{mark_of, marks_of, step_of, steps_from}
use Rattle.cl_short_vec.proofs.Growing.{grown, grown_whole, grown_one, grown_all, joined_none, views_pushed, views_on}
use Rattle.cl_short_vec.proofs.Telling.{marks_drop}
use Rattle.cl_meaning.proofs.Views.{view_out}
use Rattle.cl_short_vec.proofs.Views.{mark_out, no_parts, one_part, two_parts}

module _ (type : Option Mark) (a : Assigned) (ss : List rust_step.Step) (i : ℕ) (ts : List Tree) (goal : Forest)
    (inner : joined (views ts) (lines_of type a (steps_from (drop i ss))) ≡ goal) where
  pub lines_more : (s : rust_step.Step) (t : Tree) (us : List Tree) → i < length ss → s ≡ get_or ss i s →
      view t ≡ line_of type a (step_of s) → us ≡ ts ++ t ∷ [] →
      joined (views us) (lines_of type a (steps_from (drop (i + 1) ss))) ≡ goal
  lines_more = grown_one (λ (xs : List rust_step.Step). lines_of type a (steps_from xs))
      (λ (x : rust_step.Step). line_of type a (step_of x)) refl (λ x xs. refl) ss i ts goal inner

  pub lines_done : length ss ≤ i → views ts ≡ goal
  lines_done = grown_all (λ (xs : List rust_step.Step). lines_of type a (steps_from xs))
      (λ (x : rust_step.Step). line_of type a (step_of x)) refl (λ x xs. refl) ss i ts goal inner

read_same : (cs : List ℕ) (i d e : ℕ) → i < length cs → get_or cs i d ≡ get_or cs i e
read_same [] i d e h = absurd (omega (arith, h))
read_same (c ∷ cs) zero d e h = refl
read_same (c ∷ cs) (suc i) d e h = read_same cs i d e (omega (arith, h))

module _ (x : Named) (cs : List ℕ) (i : ℕ) (ts : List Tree) (goal : Forest)
    (inner : joined (views ts) (component_declarators x (drop i cs)) ≡ goal) where
  pub components_more : (t : Tree) (us : List Tree) → i < length cs →
      view t ≡ component_declarator x (get_or cs i 0) → us ≡ ts ++ t ∷ [] →
      joined (views us) (component_declarators x (drop (i + 1) cs)) ≡ goal
  components_more t us h = grown_one (λ ns. component_declarators x ns) (λ n. component_declarator x n) refl
      (λ n ns. refl) cs i ts goal inner (get_or cs i 0) t us h (read_same cs i 0 (get_or cs i 0) h)

  pub components_done : length cs ≤ i → views ts ≡ goal
  components_done = grown_all (λ ns. component_declarators x ns) (λ n. component_declarator x n) refl
      (λ n ns. refl) cs i ts goal inner

module _ (v : Vector) (ms : List Marked) (i : ℕ) (ts : List Tree) (goal : Forest)
    (inner : joined (views ts) (lengths_at v (marks_of (drop i ms))) ≡ goal) where
  pub lengths_more : (m : Marked) (t : Tree) (us : List Tree) → i < length ms → m ≡ get_or ms i m →
      view t ≡ length_or_part v (mark_of m) → us ≡ ts ++ t ∷ [] →
      joined (views us) (lengths_at v (marks_of (drop (i + 1) ms))) ≡ goal
  lengths_more = grown_one (λ (xs : List Marked). lengths_at v (marks_of xs))
      (λ (x : Marked). length_or_part v (mark_of x)) refl (λ x xs. refl) ms i ts goal inner

  pub lengths_done : length ms ≤ i → views ts ≡ goal
  lengths_done = grown_all (λ (xs : List Marked). lengths_at v (marks_of xs))
      (λ (x : Marked). length_or_part v (mark_of x)) refl (λ x xs. refl) ms i ts goal inner

module _ (v : Vector) (ms : List Marked) (i : ℕ) (ts : List Tree) (goal : Forest)
    (inner : joined (views ts) (all_declarators v (marks_of (drop i ms))) ≡ goal) where
  pub declarators_more : (m : Marked) (us : List Tree) → i < length ms → m ≡ get_or ms i m →
      views us ≡ joined (views ts) (declarators_of v (mark_of m)) →
      joined (views us) (all_declarators v (marks_of (drop (i + 1) ms))) ≡ goal
  declarators_more m us = grown (λ (xs : List Marked). all_declarators v (marks_of xs))
      (λ (x : Marked). declarators_of v (mark_of x)) refl (λ x xs. refl) ms i (views ts) goal inner m (views us)

  pub declarators_done : length ms ≤ i → views ts ≡ goal
  declarators_done = grown_whole (λ (xs : List Marked). all_declarators v (marks_of xs))
      (λ (x : Marked). declarators_of v (mark_of x)) refl (λ x xs. refl) ms i (views ts) goal inner

module _ (v : Vector) (type : Mark) (ms : List Marked) (i : ℕ) (ts : List Tree) (goal : Forest)
    (inner : joined (views ts) (vector_lines v type (marks_of (drop i ms))) ≡ goal) where
  pub vectors_more : (m : Marked) (us : List Tree) → i < length ms → m ≡ get_or ms i m →
      views us ≡ joined (views ts) (declarator_lines v type (mark_of m) (initialiser (mark_of m))) →
      joined (views us) (vector_lines v type (marks_of (drop (i + 1) ms))) ≡ goal
  vectors_more m us = grown (λ (xs : List Marked). vector_lines v type (marks_of xs))
      (λ (x : Marked). declarator_lines v type (mark_of x) (initialiser (mark_of x))) refl (λ x xs. refl)
      ms i (views ts) goal inner m (views us)

  pub vectors_done : length ms ≤ i → views ts ≡ goal
  vectors_done = grown_whole (λ (xs : List Marked). vector_lines v type (marks_of xs))
      (λ (x : Marked). declarator_lines v type (mark_of x) (initialiser (mark_of x))) refl (λ x xs. refl)
      ms i (views ts) goal inner

module _ (ms : List Marked) (i : ℕ) (ts : List Tree) (goal : Forest)
    (inner : joined (views ts) (all_scalarised (marks_of (drop i ms))) ≡ goal) where
  pub scalarised_more : (m : Marked) (t : Tree) (us : List Tree) → i < length ms → m ≡ get_or ms i m →
      view t ≡ scalarised (mark_of m) → us ≡ ts ++ t ∷ [] →
      joined (views us) (all_scalarised (marks_of (drop (i + 1) ms))) ≡ goal
  unfolding all_scalarised
  scalarised_more = grown_one (λ (xs : List Marked). all_scalarised (marks_of xs))
      (λ (x : Marked). scalarised (mark_of x)) refl (λ x xs. refl) ms i ts goal inner

  pub scalarised_done : length ms ≤ i → views ts ≡ goal
  unfolding all_scalarised
  scalarised_done = grown_all (λ (xs : List Marked). all_scalarised (marks_of xs))
      (λ (x : Marked). scalarised (mark_of x)) refl (λ x xs. refl) ms i ts goal inner

line_declared : (m : Mark) (s : Syntax) → is_declaration m ≡ true → block_line m s ≡ declaration_lines m
line_declared m s h = rw h refl

line_plain : (m : Mark) (s : Syntax) → is_declaration m ≡ false → block_line m s ≡ forest1 s
line_plain m s h = rw h refl

module _ (ms : List Marked) (i : ℕ) (ts : List Tree) (goal : Forest)
    (inner : joined (views ts) (block_lines (marks_of (drop i ms))) ≡ goal) where
  block_more : (m : Marked) (us : List Tree) → i < length ms → m ≡ get_or ms i m →
      views us ≡ joined (views ts) (block_line (mark_of m) (scalarised (mark_of m))) →
      joined (views us) (block_lines (marks_of (drop (i + 1) ms))) ≡ goal
  unfolding block_lines
  block_more m us = grown (λ (xs : List Marked). block_lines (marks_of xs))
      (λ (x : Marked). block_line (mark_of x) (scalarised (mark_of x))) refl (λ x xs. refl)
      ms i (views ts) goal inner m (views us)

  pub block_declared : (m : Marked) (us : List Tree) (b : Bool) → i < length ms → m ≡ get_or ms i m →
      b ≡ is_declaration (mark_of m) → b ≡ true → views us ≡ joined (views ts) (declaration_lines (mark_of m)) →
      joined (views us) (block_lines (marks_of (drop (i + 1) ms))) ≡ goal
  block_declared m us b h e k l d = block_more m us h e
      (d ∙ ap (λ z. joined (views ts) z) (sym (line_declared (mark_of m) (scalarised (mark_of m)) (sym k ∙ l))))

  pub block_plain : (m : Marked) (t : Tree) (us : List Tree) (b : Bool) → i < length ms → m ≡ get_or ms i m →
      b ≡ is_declaration (mark_of m) → b ≡ false → view t ≡ scalarised (mark_of m) → us ≡ ts ++ t ∷ [] →
      joined (views us) (block_lines (marks_of (drop (i + 1) ms))) ≡ goal
  block_plain m t us b h e k l v d = block_more m us h e
      (views_pushed ts us t d ∙ (ap (λ z. joined (views ts) (forest1 z)) v ∙
      ap (λ z. joined (views ts) z) (sym (line_plain (mark_of m) (scalarised (mark_of m)) (sym k ∙ l)))))

  pub block_done : length ms ≤ i → views ts ≡ goal
  unfolding block_lines
  block_done = grown_whole (λ (xs : List Marked). block_lines (marks_of xs))
      (λ (x : Marked). block_line (mark_of x) (scalarised (mark_of x))) refl (λ x xs. refl)
      ms i (views ts) goal inner

-- ---- the parts of a `for`

-- those that are still to come, with the head or without it
abbrev pub loop_from : (front : Bool) → Marks → Forest
loop_from true ms = loop_parts ms
loop_from false ms = all_scalarised ms

-- one part of these
abbrev pub loop_part : (plain : Bool) → Mark → Syntax
loop_part plain m = if plain then scalar m else scalarised m

pub plain_part : (plain : Bool) (m : Mark) (s t : Syntax) → plain ≡ true → s ≡ t → t ≡ scalar m → s ≡ loop_part plain m
plain_part plain m s t h e k = e ∙ (k ∙ sym (rw h refl))

pub whole_part : (plain : Bool) (m : Mark) (s t : Syntax) → plain ≡ false → s ≡ t → t ≡ scalarised m →
    s ≡ loop_part plain m
whole_part plain m s t h e k = e ∙ (k ∙ sym (rw h refl))

part_of : (front plain : Bool) (m : Mark) (ms : Marks) → plain ≡ (front && not (is_declaration m)) →
    loop_from front (marking m ms) ≡ more (loop_part plain m) (all_scalarised ms)
unfolding loop_parts all_scalarised
part_of false plain m ms h = rw h refl
part_of true plain m ms h = rw h (by (is_declaration m))
  where
    by : (d : Bool) → more (if d then scalarised m else scalar m) (all_scalarised ms) ≡
        more (if not d then scalar m else scalarised m) (all_scalarised ms)
    by true = refl
    by false = refl

no_part : (front : Bool) → loop_from front unmarked ≡ none
unfolding loop_parts all_scalarised
no_part true = refl
no_part false = refl

module _ (ms : List Marked) (i : ℕ) (front : Bool) (ts : List Tree) (goal : Forest)
    (inner : joined (views ts) (loop_from front (marks_of (drop i ms))) ≡ goal) where
  pub loop_more : (m : Marked) (t : Tree) (us : List Tree) (plain : Bool) → i < length ms → m ≡ get_or ms i m →
      plain ≡ (front && not (is_declaration (mark_of m))) → view t ≡ loop_part plain (mark_of m) →
      us ≡ ts ++ t ∷ [] → joined (views us) (all_scalarised (marks_of (drop (i + 1) ms))) ≡ goal
  loop_more m t us plain h e p k d =
      views_on ts us t (loop_part plain (mark_of m)) (loop_from front (marks_of (drop i ms)))
      (all_scalarised (marks_of (drop (i + 1) ms))) goal
      (ap (λ z. loop_from front z) (marks_drop ms i m h e) ∙
      part_of front plain (mark_of m) (marks_of (drop (i + 1) ms)) p) k d inner

  pub loop_done : length ms ≤ i → views ts ≡ goal
  loop_done h = sym (joined_none (views ts)) ∙ (ap (λ z. joined (views ts) z) (sym (no_part front)) ∙
      (ap (λ (z : List Marked). joined (views ts) (loop_from front (marks_of z))) (sym (drop_all i ms h)) ∙ inner))

-- ---- statements

-- an assignment of other than two parts
module _ (s : Span) (plain : Syntax) (m : Marked) (ps : List Marked) (is : ps ≡ (out-Marked m).parts.items) where
  pub few_set : length ps < 2 → whole_by forms.AssignNode s (mark_of m) plain ≡ plain
  few_set h = ap (λ z. whole_by forms.AssignNode s z plain) (mark_out m) ∙ by (out-Marked m).parts.items
      (subst (λ (z : List Marked). length z < 2) is h)
    where
      by : (qs : List Marked) → length qs < 2 → whole_by forms.AssignNode s
          (mark (view (out-Marked m).tree.now) (out-Marked m).kind (marks_of qs)) plain ≡ plain
      by [] h = refl
      by (q ∷ []) h = refl
      by (q ∷ r ∷ qs) h = absurd (omega (arith, h))

  pub many_set : 3 ≤ length ps → whole_by forms.AssignNode s (mark_of m) plain ≡ plain
  many_set h = ap (λ z. whole_by forms.AssignNode s z plain) (mark_out m) ∙ by (out-Marked m).parts.items
      (subst (λ (z : List Marked). 3 ≤ length z) is h)
    where
      by : (qs : List Marked) → 3 ≤ length qs → whole_by forms.AssignNode s
          (mark (view (out-Marked m).tree.now) (out-Marked m).kind (marks_of qs)) plain ≡ plain
      by [] h = refl
      by (q ∷ []) h = refl
      by (q ∷ r ∷ []) h = absurd (omega (arith, h))
      by (q ∷ r ∷ v ∷ qs) h = refl

pub ruleset not_two = (few_set, many_set)

module _ (m : Marked) (ps : List Marked) (is : ps ≡ (out-Marked m).parts.items) where
  pub no_expression : length ps < 1 → simple_of (mark_of m) ≡ scalar (mark_of m)
  no_expression h = ap (λ z. simple_of z) (no_parts m ps is h) ∙ sym (ap (λ z. scalar z) (no_parts m ps is h))

  pub one_expression : (p : Marked) → length ps ≡ 1 → p ≡ get_or ps 0 p → simple_of (mark_of m) ≡
      whole_by (form_of (tree_at (mark_of p))) (nodes.span_of (view (out-Marked m).tree.now)) (mark_of p)
      (scalar (mark_of m))
  one_expression p h e =
      ap (λ z. simple_of z) (one_part m p ps is h e) ∙
      sym (ap (λ z. whole_by (form_of (tree_at (mark_of p))) (nodes.span_of (view (out-Marked m).tree.now)) (mark_of p)
      (scalar z)) (one_part m p ps is h e))

  pub many_expressions : 2 ≤ length ps → simple_of (mark_of m) ≡ scalar (mark_of m)
  many_expressions h = ap (λ z. simple_of z) (mark_out m) ∙ (by (out-Marked m).parts.items
      (subst (λ (z : List Marked). 2 ≤ length z) is h) ∙ sym (ap (λ z. scalar z) (mark_out m)))
    where
      by : (qs : List Marked) → 2 ≤ length qs →
          simple_of (mark (view (out-Marked m).tree.now) (out-Marked m).kind (marks_of qs)) ≡
          scalar (mark (view (out-Marked m).tree.now) (out-Marked m).kind (marks_of qs))
      by [] h = absurd (omega (arith, h))
      by (q ∷ []) h = absurd (omega (arith, h))
      by (q ∷ r ∷ qs) h = refl

pub ruleset simple = (no_expression, one_expression, many_expressions)

-- parts by their number, and a tree by its own
pub ruleset counted_or_not = (no_parts, one_part, two_parts, view_out)
