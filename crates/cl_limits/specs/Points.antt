-- The points of functions at which a barrier or a function is called, in the order of the text, each with how many
-- `if`, loop and `switch` statements of its function are around it, as far as the cap.
use Rattle.std.specs.Prelude.{ℕ, ◌+◌, Bool, true, false, nat_lt, List, [], ◌∷◌, ◌++◌, Option, None, Some, if◌then◌else◌}
use Rattle.cl_tree.specs.declared.tree.Form.{Form}
use Rattle.cl_tree.specs.declared.tree.Form.TheVariants as forms
use Rattle.cl_tree.specs.Syntax.{Syntax, node, Forest, none, more}
use Rattle.cl_meaning.specs.Spelling.{name_in, intrinsic_in}
use Rattle.cl_limits.specs.Heights.{is_barrier, number_from, is_branch}
use Rattle.cl_limits.specs.declared.points.Point.{Point}
use Rattle.cl_limits.specs.declared.points.Spot.{Spot}

abbrev pub point_at : Spot → Option ℕ → Point
point_at at called = record { caller = at.caller; around = at.around; called = called }

-- one statement more around
abbrev pub deeper : Spot → Spot
deeper at =
    record { caller = at.caller; around = if nat_lt at.around at.cap then at.around + 1 else at.around; cap = at.cap }

abbrev pub entered : Spot → Bool → Spot
entered at true = deeper at
entered at false = at

-- some points, and behind them that of a call of a function, if there is one
abbrev pub number_onto : Spot → Option ℕ → List Point → List Point
number_onto at None points = points
number_onto at (Some f) points = points ++ point_at at (Some f) ∷ []

-- of a call of that name among these functions
abbrev pub call_onto : List Syntax → Spot → List ℕ → List Point → List Point
call_onto functions at name points = if is_barrier (intrinsic_in name) then points ++ point_at at None ∷
    [] else number_onto at (number_from name 0 functions) points

-- of a node of a production without its parts
abbrev pub own_onto : List Syntax → Spot → Form → List ℕ → List Point → List Point
own_onto functions at forms.CallNode word points = call_onto functions at (name_in word) points
own_onto functions at form word points = points

-- some points, and behind them those of a tree
abbrev mutual
  pub onto : List Syntax → Spot → Syntax → List Point → List Point
  onto functions at (node form word first last parts) points =
      all_onto functions (entered at (is_branch form)) parts (own_onto functions (entered at (is_branch form)) form
      word points)

  pub all_onto : List Syntax → Spot → Forest → List Point → List Point
  all_onto functions at none points = points
  all_onto functions at (more t ts) points = all_onto functions at ts (onto functions at t points)

-- some points, and behind them those of some functions, the first of which has that number
abbrev pub functions_onto : List Syntax → (cap : ℕ) → ℕ → List Syntax → List Point → List Point
functions_onto functions cap n [] points = points
functions_onto functions cap n (t ∷ ts) points =
    functions_onto functions cap (n + 1) ts (onto functions (record { caller = n; around = 0; cap = cap }) t points)
