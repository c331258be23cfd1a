-- The tree of a unit, with what each of its expressions is.
use Rattle.std.specs.Prelude.{ℕ, List, Option, None, Some, Bool, true, false, if◌then◌else◌}
use Rattle.cl_tree.specs.declared.tree.Form.{Form}
use Rattle.cl_tree.specs.declared.tree.Form.TheVariants as forms
use Rattle.cl_tree.specs.Syntax.{Syntax, node, Forest, none, more}
use Rattle.cl_meaning.specs.Spelling.{name_in, binary_in, prefix_in, postfix_in, intrinsic_in}
use Rattle.cl_short_vec.specs.declared.types.Vector.{Vector}
use Rattle.cl_short_vec.specs.declared.kinds.Kind.{Kind}
use Rattle.cl_short_vec.specs.declared.kinds.Kind.TheVariants.{Other}
use Rattle.cl_short_vec.specs.Types.{vector_type, selection_in}
use Rattle.cl_short_vec.specs.Kinds.{Names, within, later, is_vector, value_of, pointer_alone, joined_kind, prefix_kind}
use Rattle.cl_short_vec.specs.Kinds.{postfix_kind, called_kind, cast_kind, is_operator}

mutual
  -- a node with its kind: `Other` where it is no vector and no pointer to vectors
  pub data Mark : Type 0 where
    mark : (tree : Syntax) (kind : Kind) (parts : Marks) → Mark

  pub data Marks : Type 0 where
    unmarked : Marks
    marking : (part : Mark) (others : Marks) → Marks

abbrev pub tree_at : Mark → Syntax
tree_at (mark t k parts) = t

abbrev pub kind_at : Mark → Kind
kind_at (mark t k parts) = k

abbrev pub front_kind : Marks → Kind
front_kind unmarked = Other true
front_kind (marking m ms) = kind_at m

-- the last part
abbrev pub back : Marks → Option Mark
back unmarked = None
back (marking m unmarked) = Some m
back (marking m (marking n ns)) = back (marking n ns)

abbrev pub kind_or_other : Option Mark → Kind
kind_or_other None = Other true
kind_or_other (Some m) = kind_at m

abbrev pub back_kind : Marks → Kind
back_kind ms = kind_or_other (back ms)

-- the value of the first of some parts that is a vector
abbrev pub vector_among : Marks → Kind
vector_among unmarked = Other true
vector_among (marking m ms) = if is_vector (kind_at m) then value_of (kind_at m) else vector_among ms

-- the vector type that is the first part
abbrev pub front_type : Marks → Option Vector
front_type unmarked = None
front_type (marking m ms) = vector_type (tree_at m)

-- what a node of that production is, from its own words and its parts
unfoldable pub kind_by : Names → Form → List ℕ → Marks → Kind
kind_by names forms.VariableNode w ms = names (name_in w)
kind_by names forms.ParenNode w ms = front_kind ms
kind_by names forms.UnaryNode w ms = prefix_kind (prefix_in w) (front_kind ms)
kind_by names forms.PostfixNode w ms = postfix_kind (selection_in w) (postfix_in w) (front_kind ms)
kind_by names forms.CallNode w ms = called_kind (intrinsic_in (name_in w)) (vector_among ms)
kind_by names forms.CastNode w ms = cast_kind (front_type ms)
kind_by names forms.ExprNode w ms = pointer_alone (back_kind ms)
kind_by names forms.AssignNode w ms = pointer_alone (front_kind ms)
kind_by names form w ms = if is_operator form then joined_kind (binary_in w) (front_kind ms) (back_kind ms) else Other true

abbrev pub marked_node : Names → Syntax → Marks → Mark
marked_node names (node form w f l parts) ms = mark (node form w f l parts) (kind_by names form w ms) ms

unfoldable mutual
  -- a tree, where names stand for these
  pub marked : Names → Syntax → Mark
  marked names (node form w f l parts) =
      marked_node names (node form w f l parts) (marked_parts form parts (within form w names) true parts)

  pub marked_parts : Form → Forest → Names → (front : Bool) → Forest → Marks
  marked_parts form all names front none = unmarked
  marked_parts form all names front (more p ps) =
      marking (marked names p) (marked_parts form all (later form all names front p) false ps)

-- what an expression is
abbrev pub kind_of : Names → Syntax → Kind
kind_of names t = kind_at (marked names t)
