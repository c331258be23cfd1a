-- Each component of a vector expression is a tree without vectors.
use Rattle.std.proofs.Common.{ℕ, ◌-◌, nat_lt, Option, Some, None, Bool, true, false, if◌then◌else◌, refl}
use Rattle.std.specs.Prelude.{slice_index}
use Rattle.cl_tree.specs.Syntax.{Syntax}
use Rattle.cl_meaning.specs.Declarations.{form_of}
use Rattle.wg_num.specs.declared.types.Bin.{Bin}
use Rattle.cl_short_vec.specs.declared.kinds.Kind.{Kind}
use Rattle.cl_short_vec.specs.declared.made.Made.{Made}
use Rattle.cl_short_vec.specs.declared.made.Made.TheVariants as made
use Rattle.cl_short_vec.specs.Marks.{Mark, mark, Marks, unmarked, marking, tree_at}
use Rattle.cl_short_vec.specs.Roles.{is_paren}
use Rattle.cl_short_vec.specs.Made.{made_of}
use Rattle.cl_short_vec.specs.Order.{type_in}
use Rattle.cl_short_vec.specs.Nodes.{span_of, signed_at, helping_component}
use Rattle.cl_short_vec.specs.Parts.{Given, part_by, part_in, item_part, front_part, second_part, all_parts, list_part}
use Rattle.cl_short_vec.specs.Parts.{inside_part, filled_part, width_of, filled_at, selected_at, part_of, Assigned}
use Rattle.cl_short_vec.specs.Parts.{assigned_by, assigned_part}
use Rattle.cl_short_vec_form.proofs.Calm.{Calm, AreCalm, cast_calm, signed_calm, component_calm}

-- what the parts of a node give
record GivenCalm (g : Given) : Type 0 where
  items : (c : ℕ) → Calm (g.items c)
  front : (c : ℕ) → Calm (g.front c)
  second : (c : ℕ) → Calm (g.second c)
  all : (c : ℕ) → AreCalm (g.all c)
  list : (c : ℕ) → Calm (g.list c)

by_calm : (how : Made) (t : Syntax) (k : Kind) (parts : Marks) (g : Given) (c : ℕ) → GivenCalm g →
    Calm (part_by how t k parts g c)
by_calm made.Number t k parts g c h = (refl, refl, tt)
by_calm made.Items t k parts g c h = h.items c
by_calm made.Inside t k parts g c h = h.front c
by_calm (made.Signed op) t k parts g c h = cast_calm (type_in k) (span_of t) (signed_at op (span_of t) (g.front c))
    (signed_calm op (span_of t) (g.front c) (h.front c))
by_calm made.Selected t k parts g c h = h.front (selected_at t parts c)
by_calm (made.Joined op) t k parts g c h =
    component_calm op (type_in k) (span_of t) (g.front c) (g.second c) (h.front c) (h.second c)
by_calm made.Called t k parts g c h = (refl, refl, h.all c)
by_calm made.Listed t k parts g c h = h.list c
by_calm made.Variable t k parts g c h = (refl, refl, tt)
by_calm made.Element t k parts g c h = (refl, refl, tt)

either_calm : (b : Bool) (s t : Syntax) → Calm s → Calm t → Calm (if b then s else t)
either_calm true s t h k = h
either_calm false s t h k = k

mutual
  unfolding part_in item_part front_part second_part all_parts list_part inside_part filled_part

  pub part_calm : (listed : Bool) (m : Mark) (c : ℕ) → Calm (part_in listed m c)
  part_calm listed (mark t k parts) c = by_calm (made_of listed t k) t k parts (record {
    items = λ d. item_part parts t d;
    front = λ d. front_part parts t d;
    second = λ d. second_part parts t d;
    all = λ d. all_parts parts d;
    list = λ d. list_part parts t d;
  }) c (record {
    items = λ d. item_calm parts t d;
    front = λ d. front_calm parts t d;
    second = λ d. second_calm parts t d;
    all = λ d. all_calm parts d;
    list = λ d. list_calm parts t d;
  })

  item_calm : (ms : Marks) (t : Syntax) (c : ℕ) → Calm (item_part ms t c)
  item_calm unmarked t c = (refl, refl, tt)
  item_calm (marking m unmarked) t c = part_calm true m c
  item_calm (marking m (marking n ns)) t c = either_calm (nat_lt c (width_of m)) (part_in true m c)
      (part_in false n (c - width_of m)) (part_calm true m c) (part_calm false n (c - width_of m))

  front_calm : (ms : Marks) (t : Syntax) (c : ℕ) → Calm (front_part ms t c)
  front_calm unmarked t c = (refl, refl, tt)
  front_calm (marking m ms) t c = part_calm false m c

  second_calm : (ms : Marks) (t : Syntax) (c : ℕ) → Calm (second_part ms t c)
  second_calm unmarked t c = (refl, refl, tt)
  second_calm (marking m unmarked) t c = (refl, refl, tt)
  second_calm (marking m (marking n ns)) t c = part_calm false n c

  all_calm : (ms : Marks) (c : ℕ) → AreCalm (all_parts ms c)
  all_calm unmarked c = tt
  all_calm (marking m ms) c = (part_calm false m c, all_calm ms c)

  list_calm : (ms : Marks) (t : Syntax) (c : ℕ) → Calm (list_part ms t c)
  list_calm unmarked t c = (refl, refl, tt)
  list_calm (marking m ms) t c = either_calm (is_paren (form_of (tree_at m))) (inside_part m c) (list_part ms t c)
      (inside_calm m c) (list_calm ms t c)

  inside_calm : (m : Mark) (c : ℕ) → Calm (inside_part m c)
  inside_calm (mark t k parts) c = filled_calm parts t c

  filled_calm : (ms : Marks) (t : Syntax) (c : ℕ) → Calm (filled_part ms t c)
  filled_calm unmarked t c = (refl, refl, tt)
  filled_calm (marking m ms) t c = part_calm true m (filled_at (width_of m) c)

-- what is set, too
pub assigned_calm : (a : Assigned) (j : ℕ) → Calm (assigned_part a j)
assigned_calm a j = by a.operator
  where
    by : (o : Option Bin) → Calm (assigned_by o a j)
    by None = part_calm false a.value j
    by (Some op) = component_calm op a.of a.target (helping_component a.target (slice_index a.components j))
        (part_of a.value j) (refl, refl, tt) (part_calm false a.value j)
