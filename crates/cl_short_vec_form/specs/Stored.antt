-- What has memory of its own among the declarations of a tree: arrays, and variables of a work-group.
use Rattle.std.specs.Prelude.{ℕ, ◌*◌, nat_le, List, [], ◌∷◌, ◌++◌, Option, None, Some, Bool, true, false, ◌&&◌, ◌||◌}
use Rattle.std.specs.Prelude.{not, if◌then◌else◌}
use Rattle.cl_model.specs.declared.program.Space.{Space}
use Rattle.cl_model.specs.declared.program.Space.TheVariants as spaces
use Rattle.cl_model.specs.Sizes.{product}
use Rattle.cl_tree.specs.declared.tree.Form.{Form}
use Rattle.cl_tree.specs.declared.tree.Form.TheVariants as forms
use Rattle.cl_tree.specs.Syntax.{Syntax, node, Forest, none, more}
use Rattle.cl_meaning.specs.Spelling.{name_in, dimensions_in}
use Rattle.cl_meaning.specs.Types.{space_among}
use Rattle.cl_meaning.specs.Kinds.{is_some}
use Rattle.cl_meaning.specs.Declarations.{word_of, parts_of, star_in, declarator_in, dims_of, most_elements}

abbrev pub is_local : Option Space → Bool
is_local (Some spaces.Local) = true
is_local space = false

-- whether a declarator behind a type in that space is an array or a variable of the group, and no pointer
abbrev pub is_stored : Option Space → Syntax → Bool
is_stored space (node form w f l parts) =
    not (is_some (star_in parts)) && (nat_le 1 (dimensions_in w) || is_local space)

-- the names of those among some declarators
abbrev pub stored_among : Option Space → Forest → List (List ℕ)
stored_among space none = []
stored_among space (more d ds) =
    if is_stored space d then name_in (word_of d) ∷ stored_among space ds else stored_among space ds

abbrev pub stored_by : Form → Forest → (inner : List (List ℕ)) → List (List ℕ)
stored_by forms.DeclareNode (more type ds) inner = stored_among (space_among (parts_of type)) ds
stored_by form parts inner = inner

unfoldable mutual
  -- the names of those in a tree, in the order of their declarations
  pub stored : Syntax → List (List ℕ)
  stored (node form w f l parts) = stored_by form parts (all_stored parts)

  pub all_stored : Forest → List (List ℕ)
  all_stored none = []
  all_stored (more p ps) = stored p ++ all_stored ps

-- ---- elements

-- so many times as many, where an array can have that many
abbrev pub multiplied : ℕ → Option ℕ → Option ℕ
multiplied n None = None
multiplied n (Some m) = if nat_le (m * n) most_elements then Some (m * n) else None

abbrev pub elements_by : Option (List ℕ) → Option ℕ
elements_by None = None
elements_by (Some lengths) = Some (product lengths)

-- how many elements the array of a declarator has; none where a length is at fault
abbrev pub elements_of : Syntax → Option ℕ
elements_of (node form w f l parts) = elements_by (dims_of (declarator_in w f parts))
