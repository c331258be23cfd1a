-- The lines of the steps of a vector statement have no vectors.
use Rattle.std.proofs.Common.{◌≡◌, ℕ, suc, List, [], ◌∷◌, ◌++◌, Option, Some, None, Bool, true, false, refl}
use Rattle.std.proofs.Common.{if◌then◌else◌}
use Rattle.std.specs.Prelude.{codes}
use Rattle.wg_num.specs.declared.types.IntType.{IntType}
use Rattle.wg_num.specs.declared.types.IntType.TheVariants as types
use Rattle.wg_num.specs.declared.types.Bin.{Bin}
use Rattle.cl_model.specs.Lists.{Each}
use Rattle.cl_tree.specs.declared.tree.Form.{Form}
use Rattle.cl_tree.specs.declared.tree.Form.TheVariants as forms
use Rattle.cl_tree.specs.Syntax.{Syntax, node, Forest, none, more}
use Rattle.cl_tree.specs.Nodes.{forest1}
use Rattle.cl_meaning.specs.Declarations.{word_of}
use Rattle.cl_short_vec.specs.declared.nodes.Span.{Span}
use Rattle.cl_short_vec.specs.declared.types.Vector.{Vector}
use Rattle.cl_short_vec.specs.declared.kinds.Reach.TheVariants.{Element}
use Rattle.cl_short_vec.specs.declared.kinds.Kind.{Kind}
use Rattle.cl_short_vec.specs.declared.kinds.Kind.TheVariants.{Vectors}
use Rattle.cl_short_vec.specs.declared.made.Made.{Made}
use Rattle.cl_short_vec.specs.declared.made.Made.TheVariants as made
use Rattle.cl_short_vec.specs.Types.{numbers}
use Rattle.cl_short_vec.specs.Kinds.{Names, within, later}
use Rattle.cl_short_vec.specs.Plain.{has_vectors, have_vectors}
use Rattle.cl_short_vec.specs.Marks.{Mark, tree_at, kind_at, vector_among, marked, marked_parts}
use Rattle.cl_short_vec.specs.Roles.{is_paren}
use Rattle.cl_short_vec.specs.Faults.{components_of}
use Rattle.cl_short_vec.specs.Made.{made_of}
use Rattle.cl_short_vec.specs.Order.{Named, Step, Offset, Number, Copy, Load, Set, Store, type_in, count_in, loads}
use Rattle.cl_short_vec.specs.Order.{copies, named_by, steps_by, steps_in, all_steps, list_steps}
use Rattle.cl_short_vec.specs.Order.{inside_steps, steps_of, is_through, under, is_element_in, target_steps, old_steps}
use Rattle.cl_short_vec.specs.Order.{stores, sets, new_steps, setting_steps, initial_steps}
use Rattle.cl_short_vec.specs.Parts.{Assigned, assigned_part}
use Rattle.cl_short_vec.specs.Nodes.{span_of, at, variable_at, long_at, typed_at, star_at, declared_at, helper}
use Rattle.cl_short_vec.specs.Nodes.{component_name, statement_at}
use Rattle.cl_short_vec.specs.Scalar.{scalar}
use Rattle.cl_short_vec.specs.Unit.{pointed_at, address_at, helped_element, set_line, line_of, lines_of}
use Rattle.cl_short_vec.proofs.OwnNames.{HasNoBlank, front_blank}
use Rattle.cl_short_vec_form.proofs.Neat.{Neat, AreNeat, neat_parts}
use Rattle.cl_short_vec_form.proofs.Calm.{Calm, AreCalm, calm_plain, calm_parts_plain, node_plain, both_plain}
use Rattle.cl_short_vec_form.proofs.Calm.{typed_calm, spaced_calm, long_calm, variable_calm, element_calm}
use Rattle.cl_short_vec_form.proofs.Calm.{statement_calm}
use Rattle.cl_short_vec_form.proofs.Parts.{assigned_calm}
use Rattle.cl_short_vec_form.proofs.Scalars.{scalar_calm}

-- what is evaluated says nothing about vectors, and the name of what is set has no blank
abbrev pub StepCalm : Step → Type 0
StepCalm (Offset m) = Calm (scalar m)
StepCalm (Number of m) = Calm (scalar m)
StepCalm (Copy of x c) = Unit {0}
StepCalm (Load m c) = Unit {0}
StepCalm (Set x c j) = HasNoBlank x.name
StepCalm (Store m c j) = Unit {0}

abbrev pub StepsCalm : List Step → Type 0
StepsCalm ss = Each StepCalm ss

append_calm : (a b : List Step) → StepsCalm a → StepsCalm b → StepsCalm (a ++ b)
append_calm [] b h k = k
append_calm (s ∷ a) b h k = (h.0, append_calm a b h.1 k)

either_steps : (z : Bool) (a b : List Step) → StepsCalm a → StepsCalm b → StepsCalm (if z then a else b)
either_steps true a b h k = h
either_steps false a b h k = k

-- ---- steps that evaluate nothing

loads_calm : (m : Mark) (cs : List ℕ) → StepsCalm (loads m cs)
loads_calm m [] = tt
loads_calm m (c ∷ cs) = (tt, loads_calm m cs)

copies_calm : (of : IntType) (x : Named) (cs : List ℕ) → StepsCalm (copies of x cs)
copies_calm of x [] = tt
copies_calm of x (c ∷ cs) = (tt, copies_calm of x cs)

stores_calm : (m : Mark) (cs : List ℕ) (j : ℕ) → StepsCalm (stores m cs j)
stores_calm m [] j = tt
stores_calm m (c ∷ cs) j = (tt, stores_calm m cs (suc j))

sets_calm : (x : Named) (cs : List ℕ) (j : ℕ) → HasNoBlank x.name → StepsCalm (sets x cs j)
sets_calm x [] j b = tt
sets_calm x (c ∷ cs) j b = (b, sets_calm x cs (suc j) b)

old_calm : (o : Option Bin) (m : Mark) (cs : List ℕ) → StepsCalm (old_steps o m cs)
old_calm None m cs = tt
old_calm (Some op) m cs =
    either_steps (is_element_in (kind_at m)) (loads m cs) (copies (type_in (kind_at m)) (named_by (tree_at m)) cs)
    (loads_calm m cs) (copies_calm (type_in (kind_at m)) (named_by (tree_at m)) cs)

new_calm : (m : Mark) (cs : List ℕ) → StepsCalm (new_steps m cs)
new_calm m cs = either_steps (is_element_in (kind_at m)) (stores m cs 0) (sets (named_by (tree_at m)) cs 0)
    (stores_calm m cs 0) (sets_calm (named_by (tree_at m)) cs 0 (front_blank (word_of (tree_at m))))

-- ---- leaves

by_calm : (how : Made) (of : IntType) (m : Mark) (items all lists : List Step) → Calm (scalar m) → StepsCalm items →
    StepsCalm all → StepsCalm lists → StepsCalm (steps_by how of m items all lists)
by_calm made.Number of m items all lists h i a l = (h, tt)
by_calm made.Items of m items all lists h i a l = i
by_calm made.Variable of m items all lists h i a l =
    copies_calm (type_in (kind_at m)) (named_by (tree_at m)) (numbers 0 1 (count_in (kind_at m)))
by_calm made.Element of m items all lists h i a l = (h, loads_calm m (numbers 0 1 (count_in (kind_at m))))
by_calm made.Listed of m items all lists h i a l = l
by_calm how of m items all lists h i a l = a

mutual
  unfolding steps_in all_steps list_steps inside_steps marked marked_parts

  pub steps_calm : (listed : Bool) (of : IntType) (t : Syntax) (names : Names) → Neat t →
      StepsCalm (steps_in listed of (marked names t))
  steps_calm listed of (node form w f l ps) names h =
      let inner = within form w names in
      let m = marked names (node form w f l ps) in
      let ms = marked_parts form ps inner true ps in
      let o = neat_parts form w f l ps h in
      by_calm (made_of listed (node form w f l ps) (kind_at m)) of m (all_steps true of ms)
      (all_steps false (type_in (vector_among ms)) ms) (list_steps (type_in (kind_at m)) ms)
      (scalar_calm (node form w f l ps) names h) (all_calm true of form ps inner true ps o)
      (all_calm false (type_in (vector_among ms)) form ps inner true ps o)
      (lists_calm (type_in (kind_at m)) form ps inner true ps o)

  all_calm : (listed : Bool) (of : IntType) (form : Form) (all : Forest) (names : Names) (front : Bool) (ps : Forest) →
      AreNeat ps → StepsCalm (all_steps listed of (marked_parts form all names front ps))
  all_calm listed of form all names front none h = tt
  all_calm listed of form all names front (more p ps) h =
      let n = later form all names front p in
      append_calm (steps_in listed of (marked names p)) (all_steps false of (marked_parts form all n false ps))
      (steps_calm listed of p names h.0) (all_calm false of form all n false ps h.1)

  lists_calm : (of : IntType) (form : Form) (all : Forest) (names : Names) (front : Bool) (ps : Forest) →
      AreNeat ps → StepsCalm (list_steps of (marked_parts form all names front ps))
  lists_calm of form all names front none h = tt
  lists_calm of form all names front (more p ps) h =
      let n = later form all names front p in
      append_calm (inside_steps of (marked names p)) (list_steps of (marked_parts form all n false ps))
      (inside_calm of p names h.0) (lists_calm of form all n false ps h.1)

  inside_calm : (of : IntType) (t : Syntax) (names : Names) → Neat t → StepsCalm (inside_steps of (marked names t))
  inside_calm of (node form w f l ps) names h =
      let inner = within form w names in
      either_steps (is_paren form) (all_steps true of (marked_parts form ps inner true ps)) []
      (all_calm true of form ps inner true ps (neat_parts form w f l ps h)) tt

-- ---- statements

under_calm : (t : Syntax) (names : Names) → Neat t → Calm (scalar (under (marked names t)))
unfolding under marked marked_parts
under_calm (node form w f l none) names h = scalar_calm (node form w f l none) names h
under_calm (node form w f l (more a ps)) names h =
    let inner = within form w names in
    by (is_through (node form w f l (more a ps))) (under_calm a inner (neat_parts form w f l (more a ps) h).0)
    (scalar_calm (node form w f l (more a ps)) names h)
  where
    by : (z : Bool) → Calm (scalar (under (marked (within form w names) a))) →
        Calm (scalar (marked names (node form w f l (more a ps)))) →
        Calm (scalar (if z then under (marked (within form w names) a) else marked names (node form w f l (more a ps))))
    by true i j = i
    by false i j = j

target_calm : (m : Mark) → Calm (scalar m) → StepsCalm (target_steps m)
target_calm m h = either_steps (is_element_in (kind_at m)) (Offset m ∷ []) [] (h, tt) tt

pub setting_calm : (o : Option Bin) (a b : Syntax) (names after : Names) → Neat a → Neat b →
    StepsCalm (setting_steps o (marked names a) (marked after b))
setting_calm o a b names after h k =
    let m = under (marked names a) in
    let cs = components_of (marked names a) in
    let leaves = steps_of (type_in (kind_at (marked names a))) (marked after b) in
    append_calm (target_steps m) (old_steps o m cs ++ (leaves ++ new_steps m cs))
    (target_calm m (under_calm a names h))
    (append_calm (old_steps o m cs) (leaves ++ new_steps m cs) (old_calm o m cs)
    (append_calm leaves (new_steps m cs) (steps_calm false (type_in (kind_at (marked names a))) b after k)
    (new_calm m cs)))

pub initial_calm : (v : Vector) (x : Named) (t : Syntax) (names : Names) → Neat t → HasNoBlank x.name →
    StepsCalm (initial_steps v x (marked names t))
initial_calm v x t names h b = append_calm (steps_of v.of (marked names t)) (sets x (numbers 0 1 v.count) 0)
    (steps_calm false v.of t names h) (sets_calm x (numbers 0 1 v.count) 0 b)

-- ---- lines

declared_plain : (s : Span) (type : Syntax) (name : List ℕ) (ps : Forest) → Calm type → AreCalm ps →
    has_vectors (declared_at s type name ps) ≡ false
declared_plain s type name ps h k =
    let d = at forms.DeclaratorNode (name ++ codes " =") s ps in
    node_plain forms.DeclareNode (codes ";") s.first s.last (more type (forest1 d)) refl
    (both_plain type (forest1 d) (calm_plain type h) (both_plain d none
    (node_plain forms.DeclaratorNode (name ++ codes " =") s.first s.last ps refl (calm_parts_plain ps k)) refl))

-- the type behind which components are declared
abbrev pub TypeCalm : Option Mark → Type 0
TypeCalm None = Unit {0}
TypeCalm (Some m) = Calm (scalar m)

pointed_calm : (k : Kind) (s : Span) → Calm (pointed_at k s)
pointed_calm (Vectors v (Element space constant)) s = spaced_calm space constant v.of s
pointed_calm k s = typed_calm types.Int s

pub helped_calm : (s : Span) (c : ℕ) → Calm (helped_element s c)
helped_calm s c = element_calm s (variable_at (helper s) s) (long_at c s) (variable_calm (helper s) s) (long_calm c s)

set_plain : (type : Option Mark) (x : Named) (c : ℕ) (value : Syntax) → TypeCalm type → Calm value →
    has_vectors (set_line type x c value) ≡ false
set_plain None x c value h k =
    let target = variable_at (component_name x.name c) x.span in
    calm_plain (statement_at x.span target value)
    (statement_calm x.span target value (variable_calm (component_name x.name c) x.span) k)
set_plain (Some type) x c value h k =
    declared_plain x.span (scalar type) (component_name x.name c) (forest1 value) h (k, tt)

line_plain : (type : Option Mark) (a : Assigned) (s : Step) → TypeCalm type → StepCalm s →
    has_vectors (line_of type a s) ≡ false
line_plain type a (Offset m) h k =
    let s = span_of (tree_at m) in
    declared_plain s (pointed_at (kind_at m) s) (helper s) (more (star_at s) (forest1 (address_at m)))
    (pointed_calm (kind_at m) s) ((refl, refl, tt), ((refl, refl, (k, tt)), tt))
line_plain type a (Number of m) h k =
    let s = span_of (tree_at m) in
    declared_plain s (typed_at of s) (helper s) (forest1 (scalar m)) (typed_calm of s) (k, tt)
line_plain type a (Copy of x c) h k =
    declared_plain x.span (typed_at of x.span) (component_name (helper x.span) c)
    (forest1 (variable_at (component_name x.name c) x.span)) (typed_calm of x.span)
    (variable_calm (component_name x.name c) x.span, tt)
line_plain type a (Load m c) h k =
    let s = span_of (tree_at m) in
    declared_plain s (typed_at (type_in (kind_at m)) s) (component_name (helper s) c) (forest1 (helped_element s c))
    (typed_calm (type_in (kind_at m)) s) (helped_calm s c, tt)
line_plain type a (Set x c j) h k = set_plain type x c (assigned_part a j) h (assigned_calm a j)
line_plain type a (Store m c j) h k =
    let s = span_of (tree_at m) in
    calm_plain (statement_at s (helped_element s c) (assigned_part a j))
    (statement_calm s (helped_element s c) (assigned_part a j) (helped_calm s c) (assigned_calm a j))

pub lines_plain : (type : Option Mark) (a : Assigned) (ss : List Step) → TypeCalm type → StepsCalm ss →
    have_vectors (lines_of type a ss) ≡ false
lines_plain type a [] h k = refl
lines_plain type a (s ∷ ss) h k =
    both_plain (line_of type a s) (lines_of type a ss) (line_plain type a s h k.0) (lines_plain type a ss h k.1)
