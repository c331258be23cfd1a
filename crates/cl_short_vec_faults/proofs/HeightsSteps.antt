-- Barriers stand no deeper in the lines of a vector statement than in the statement.
use Rattle.std.proofs.Common.{ℕ, suc, ◌≤◌, List, [], ◌∷◌, ◌++◌, Option, Some, None, Bool, true, false}
use Rattle.std.proofs.Common.{if◌then◌else◌}
use Rattle.wg_num.specs.declared.types.IntType.{IntType}
use Rattle.wg_num.specs.declared.types.Bin.{Bin}
use Rattle.cl_tree.specs.Syntax.{Syntax}
use Rattle.cl_tree.specs.Nodes.{forest1, forest2}
use Rattle.cl_limits.specs.Heights.{height_of, height_of_all}
use Rattle.cl_meaning.specs.Declarations.{form_of}
use Rattle.cl_short_vec.specs.declared.nodes.Span.{Span}
use Rattle.cl_short_vec.specs.declared.types.Vector.{Vector}
use Rattle.cl_short_vec.specs.declared.kinds.Reach.TheVariants.{Element}
use Rattle.cl_short_vec.specs.declared.kinds.Kind.{Kind}
use Rattle.cl_short_vec.specs.declared.kinds.Kind.TheVariants.{Vectors}
use Rattle.cl_short_vec.specs.declared.made.Made.{Made}
use Rattle.cl_short_vec.specs.declared.made.Made.TheVariants as made
use Rattle.cl_short_vec.specs.Types.{numbers}
use Rattle.cl_short_vec.specs.Marks.{Mark, mark, Marks, unmarked, marking, tree_at, kind_at, vector_among}
use Rattle.cl_short_vec.specs.Roles.{is_paren}
use Rattle.cl_short_vec.specs.Made.{made_of}
use Rattle.cl_short_vec.specs.Faults.{components_of}
use Rattle.cl_short_vec.specs.Nodes.{span_of, variable_at, long_at, typed_at, star_at, component_name, helper}
use Rattle.cl_short_vec.specs.Order.{Named, Step, Offset, Number, Copy, Load, Set, Store, type_in, count_in, named_by}
use Rattle.cl_short_vec.specs.Order.{loads, copies, steps_by, steps_in, all_steps}
use Rattle.cl_short_vec.specs.Order.{list_steps, inside_steps, steps_of, is_through, under, is_element_in}
use Rattle.cl_short_vec.specs.Order.{target_steps, old_steps, stores, sets, new_steps, setting_steps, initial_steps}
use Rattle.cl_short_vec.specs.Parts.{Assigned, assigned_part}
use Rattle.cl_short_vec.specs.Scalar.{scalar}
use Rattle.cl_short_vec.specs.Unit.{pointed_at, address_at, helped_element, set_line, line_of, lines_of, assigned_of}
use Rattle.cl_short_vec.specs.Unit.{set_block}
use Rattle.cl_short_vec_faults.proofs.HeightsNodes.{through, mark_height, marks_height, quiet, one_low, two_low}
use Rattle.cl_short_vec_faults.proofs.HeightsNodes.{none_low}
use Rattle.cl_short_vec_faults.proofs.HeightsNodes.{more_low, leaf_low, spaced_low, element_low, statement_low}
use Rattle.cl_short_vec_faults.proofs.HeightsNodes.{declared_low}
use Rattle.cl_short_vec_faults.proofs.HeightsParts.{first_low, others_low, inner_low, assigned_part_low}
use Rattle.cl_short_vec_faults.proofs.HeightsScalars.{scalar_low}

module _ (g : List ℕ → ℕ) (h : ℕ) where
  -- what a step evaluates is low
  abbrev StepLow : Step → Type 0
  StepLow (Offset m) = mark_height g m ≤ h
  StepLow (Number of m) = mark_height g m ≤ h
  StepLow s = Unit {0}

  abbrev pub StepsLow : List Step → Type 0
  StepsLow [] = Unit {0}
  StepsLow (s ∷ ss) = StepLow s × StepsLow ss

  -- ---- steps

  steps_joined : (ss rs : List Step) → StepsLow ss → StepsLow rs → StepsLow (ss ++ rs)
  steps_joined [] rs p q = q
  steps_joined (s ∷ ss) rs p q = (p.0, steps_joined ss rs p.1 q)

  loads_low : (m : Mark) (cs : List ℕ) → StepsLow (loads m cs)
  loads_low m [] = tt
  loads_low m (c ∷ cs) = (tt, loads_low m cs)

  copies_low : (of : IntType) (x : Named) (cs : List ℕ) → StepsLow (copies of x cs)
  copies_low of x [] = tt
  copies_low of x (c ∷ cs) = (tt, copies_low of x cs)

  stores_low : (m : Mark) (cs : List ℕ) (j : ℕ) → StepsLow (stores m cs j)
  stores_low m [] j = tt
  stores_low m (c ∷ cs) j = (tt, stores_low m cs (suc j))

  sets_low : (x : Named) (cs : List ℕ) (j : ℕ) → StepsLow (sets x cs j)
  sets_low x [] j = tt
  sets_low x (c ∷ cs) j = (tt, sets_low x cs (suc j))

  by_low : (how : Made) (of : IntType) (m : Mark) (items all lists : List Step) → mark_height g m ≤ h →
      StepsLow items → StepsLow all → StepsLow lists → StepsLow (steps_by how of m items all lists)
  by_low made.Number of m items all lists e x y z = (e, tt)
  by_low made.Items of m items all lists e x y z = x
  by_low made.Variable of m items all lists e x y z =
      copies_low (type_in (kind_at m)) (named_by (tree_at m)) (numbers 0 1 (count_in (kind_at m)))
  by_low made.Element of m items all lists e x y z = (e, loads_low m (numbers 0 1 (count_in (kind_at m))))
  by_low made.Listed of m items all lists e x y z = z
  by_low how of m items all lists e x y z = y

  either_steps : (b : Bool) (ss rs : List Step) → StepsLow ss → StepsLow rs → StepsLow (if b then ss else rs)
  either_steps true ss rs p q = p
  either_steps false ss rs p q = q

  mutual
    unfolding steps_in all_steps list_steps inside_steps

    steps_low : (listed : Bool) (of : IntType) (m : Mark) → mark_height g m ≤ h → StepsLow (steps_in listed of m)
    steps_low listed of (mark t k parts) e =
        let i = inner_low g h t k parts e in
        by_low (made_of listed t k) of (mark t k parts) (all_steps true of parts)
        (all_steps false (type_in (vector_among parts)) parts) (list_steps (type_in k) parts) e
        (all_steps_low true of parts i) (all_steps_low false (type_in (vector_among parts)) parts i)
        (list_steps_low (type_in k) parts i)

    all_steps_low : (listed : Bool) (of : IntType) (ms : Marks) → marks_height g ms ≤ h →
        StepsLow (all_steps listed of ms)
    all_steps_low listed of unmarked e = tt
    all_steps_low listed of (marking m ms) e = steps_joined (steps_in listed of m) (all_steps false of ms)
        (steps_low listed of m (first_low g h m ms e)) (all_steps_low false of ms (others_low g h m ms e))

    list_steps_low : (of : IntType) (ms : Marks) → marks_height g ms ≤ h → StepsLow (list_steps of ms)
    list_steps_low of unmarked e = tt
    list_steps_low of (marking m ms) e = steps_joined (inside_steps of m) (list_steps of ms)
        (inside_steps_low of m (first_low g h m ms e)) (list_steps_low of ms (others_low g h m ms e))

    inside_steps_low : (of : IntType) (m : Mark) → mark_height g m ≤ h → StepsLow (inside_steps of m)
    inside_steps_low of (mark t k parts) e = either_steps (is_paren (form_of t)) (all_steps true of parts) []
        (all_steps_low true of parts (inner_low g h t k parts e)) tt

  either_mark : (b : Bool) (m n : Mark) → mark_height g m ≤ h → mark_height g n ≤ h →
      mark_height g (if b then m else n) ≤ h
  either_mark true m n p q = p
  either_mark false m n p q = q

  under_low : (m : Mark) → mark_height g m ≤ h → mark_height g (under m) ≤ h
  unfolding under
  under_low (mark t k unmarked) e = e
  under_low (mark t k (marking a others)) e = either_mark (is_through t) (under a) (mark t k (marking a others))
      (under_low a (first_low g h a others (inner_low g h t k (marking a others) e))) e

  target_low : (m : Mark) → mark_height g m ≤ h → StepsLow (target_steps m)
  target_low m e = either_steps (is_element_in (kind_at m)) (Offset m ∷ []) [] (e, tt) tt

  old_low : (o : Option Bin) (m : Mark) (cs : List ℕ) → StepsLow (old_steps o m cs)
  old_low None m cs = tt
  old_low (Some op) m cs = either_steps (is_element_in (kind_at m)) (loads m cs)
      (copies (type_in (kind_at m)) (named_by (tree_at m)) cs) (loads_low m cs)
      (copies_low (type_in (kind_at m)) (named_by (tree_at m)) cs)

  new_low : (m : Mark) (cs : List ℕ) → StepsLow (new_steps m cs)
  new_low m cs = either_steps (is_element_in (kind_at m)) (stores m cs 0) (sets (named_by (tree_at m)) cs 0)
      (stores_low m cs 0) (sets_low (named_by (tree_at m)) cs 0)

  setting_low : (o : Option Bin) (target value : Mark) → mark_height g target ≤ h → mark_height g value ≤ h →
      StepsLow (setting_steps o target value)
  setting_low o target value p q =
      let m = under target in
      let cs = components_of target in
      let of = type_in (kind_at target) in
      steps_joined (target_steps m) (old_steps o m cs ++ (steps_of of value ++ new_steps m cs))
      (target_low m (under_low target p))
      (steps_joined (old_steps o m cs) (steps_of of value ++ new_steps m cs) (old_low o m cs)
      (steps_joined (steps_of of value) (new_steps m cs) (steps_low false of value q) (new_low m cs)))

  pub initial_low : (v : Vector) (x : Named) (value : Mark) → mark_height g value ≤ h →
      StepsLow (initial_steps v x value)
  initial_low v x value e = steps_joined (steps_of v.of value) (sets x (numbers 0 1 v.count) 0)
      (steps_low false v.of value e) (sets_low x (numbers 0 1 v.count) 0)

  -- ---- lines

  -- the type behind which components are declared is low
  abbrev pub TypeLow : Option Mark → Type 0
  TypeLow None = Unit {0}
  TypeLow (Some m) = mark_height g m ≤ h

  pub low_scalar : (m : Mark) → mark_height g m ≤ h → height_of g (scalar m) ≤ h
  low_scalar m e = through (height_of g (scalar m)) (mark_height g m) h (scalar_low g m) e

  pointed_low : (k : Kind) (s : Span) → height_of g (pointed_at k s) ≤ h
  pointed_low (Vectors v (Element space constant)) s = spaced_low g h space constant v.of s
  pointed_low k s = leaf_low g h

  address_low : (m : Mark) → mark_height g m ≤ h → height_of g (address_at m) ≤ h
  address_low m e = quiet g h (height_of_all g (forest1 (scalar m))) (one_low g h (scalar m) (low_scalar m e))

  helped_low : (s : Span) (c : ℕ) → height_of g (helped_element s c) ≤ h
  helped_low s c = element_low g h s (variable_at (helper s) s) (long_at c s) (leaf_low g h) (leaf_low g h)

  set_line_low : (type : Option Mark) (x : Named) (c : ℕ) (value : Syntax) → TypeLow type → height_of g value ≤ h →
      height_of g (set_line type x c value) ≤ h
  set_line_low None x c value p q =
      statement_low g h x.span (variable_at (component_name x.name c) x.span) value (leaf_low g h) q
  set_line_low (Some type) x c value p q = declared_low g h x.span (scalar type) (component_name x.name c)
      (forest1 value) (low_scalar type p) (one_low g h value q)

  line_low : (type : Option Mark) (a : Assigned) (s : Step) → TypeLow type → mark_height g a.value ≤ h → StepLow s →
      height_of g (line_of type a s) ≤ h
  line_low type a (Offset m) p q e =
      let s = span_of (tree_at m) in
      declared_low g h s (pointed_at (kind_at m) s) (helper s) (forest2 (star_at s) (address_at m))
      (pointed_low (kind_at m) s) (two_low g h (star_at s) (address_at m) (leaf_low g h) (address_low m e))
  line_low type a (Number of m) p q e =
      let s = span_of (tree_at m) in
      declared_low g h s (typed_at of s) (helper s) (forest1 (scalar m)) (leaf_low g h)
      (one_low g h (scalar m) (low_scalar m e))
  line_low type a (Copy of x c) p q e =
      let y = variable_at (component_name x.name c) x.span in
      declared_low g h x.span (typed_at of x.span) (component_name (helper x.span) c) (forest1 y) (leaf_low g h)
      (one_low g h y (leaf_low g h))
  line_low type a (Load m c) p q e =
      let s = span_of (tree_at m) in
      declared_low g h s (typed_at (type_in (kind_at m)) s) (component_name (helper s) c) (forest1 (helped_element s c))
      (leaf_low g h) (one_low g h (helped_element s c) (helped_low s c))
  line_low type a (Set x c j) p q e = set_line_low type x c (assigned_part a j) p (assigned_part_low g h a j q)
  line_low type a (Store m c j) p q e =
      let s = span_of (tree_at m) in
      statement_low g h s (helped_element s c) (assigned_part a j) (helped_low s c) (assigned_part_low g h a j q)

  pub lines_low : (type : Option Mark) (a : Assigned) (ss : List Step) → TypeLow type → mark_height g a.value ≤ h →
      StepsLow ss → height_of_all g (lines_of type a ss) ≤ h
  lines_low type a [] p q e = none_low g h
  lines_low type a (s ∷ ss) p q e = more_low g h (line_of type a s) (lines_of type a ss) (line_low type a s p q e.0)
      (lines_low type a ss p q e.1)

  pub set_block_low : (s : Span) (o : Option Bin) (target value : Mark) → mark_height g target ≤ h →
      mark_height g value ≤ h → height_of g (set_block s o target value) ≤ h
  set_block_low s o target value p q =
      let a = assigned_of o target value in
      let ss = setting_steps o target value in
      quiet g h (height_of_all g (lines_of None a ss)) (lines_low None a ss tt q (setting_low o target value p q))
