-- What is known of the variables and results of functions while the analysis goes on, and how a step of the text adds
-- to it.
use Rattle.std.specs.Prelude.{ℕ, zero, suc, List, [], ◌∷◌, Option, Some, None, map, nat_eq, not, ◌||◌, ◌&&◌}
use Rattle.std.specs.Prelude.{slice_get, slice_set, unwrap_or, if◌then◌else◌}
use Rattle.std.specs.Prelude.{Bool as Test, true, false}
use Rattle.diverge.specs.declared.known.Entry.{Entry}
use Rattle.diverge.specs.declared.known.Row as rust_row
use Rattle.diverge.specs.declared.known.Known as rust_known
use Rattle.diverge.specs.declared.known.Spot.{Spot}
use Rattle.diverge.specs.declared.known.Ways.{Ways}

-- what is known of a function: of its variables, and of its result
pub record Row : Type 0 where
  pub variables : List Entry
  pub result : Entry

-- what is known of each function of a program, and whether something has come to vary since the round began
pub record State : Type 0 where
  pub rows : List Row
  pub grew : Test

-- the plain view of a row
abbrev pub row_of : rust_row.Row → Row
row_of r = record { variables = r.variables.items; result = r.result }

-- the plain view of all that is known
abbrev pub state_of : rust_known.Known → State
state_of k = record { rows = map row_of k.rows.items; grew = k.grew }

-- what is known of a variable at first
abbrev pub fresh : Entry
fresh = record { varies = false; assigned = false; since = None }

-- what is said of a variable that is not there
abbrev pub absent : Entry
absent = record { varies = true; assigned = false; since = None }

-- both are the same condition
abbrev pub same_guard : Option ℕ → Option ℕ → Test
same_guard None None = true
same_guard None (Some b) = false
same_guard (Some a) None = false
same_guard (Some a) (Some b) = nat_eq a b

-- behind an assignment: the variable varies if the value does, or if a condition that varies stands around the
-- assignment and not around the declaration
abbrev pub assigned : Option ℕ → Test → Entry → Entry
assigned guard varies e =
    record { varies = e.varies || (varies || not (same_guard e.since guard)); assigned = true; since = e.since }

-- behind a declaration
abbrev pub declared : Option ℕ → Test → Entry → Entry
declared guard varies e = record { varies = e.varies || varies; assigned = e.assigned; since = guard }

-- of a parameter, behind a call
abbrev pub passed : Test → Entry → Entry
passed varies e = record { varies = e.varies || varies; assigned = e.assigned; since = e.since }

-- behind a scope that holds a way out under a condition that varies: a variable varies if it is assigned
abbrev pub left : Entry → Entry
left e = record { varies = e.varies || e.assigned; assigned = e.assigned; since = e.since }

-- the row of a function, the entry of a variable, and that of a result
abbrev pub row_at : State → ℕ → Option Row
row_at s f = slice_get s.rows f

abbrev pub entry_in : Option Row → ℕ → Entry
entry_in None x = absent
entry_in (Some row) x = unwrap_or (slice_get row.variables x) absent

abbrev pub variable_at : State → ℕ → ℕ → Entry
variable_at s f x = entry_in (row_at s f) x

abbrev pub result_in : Option Row → Entry
result_in None = absent
result_in (Some row) = row.result

abbrev pub result_at : State → ℕ → Entry
result_at s f = result_in (row_at s f)

-- the second entry varies and the first does not
abbrev pub grows : Entry → Entry → Test
grows old new = new.varies && not old.varies

-- a row with another entry, if it is there
abbrev pub with_entry : ℕ → Entry → Row → Row
with_entry x e row = record { variables = slice_set row.variables x e; result = row.result }

-- a row with another result
abbrev pub with_result_entry : Entry → Row → Row
with_result_entry e row = record { variables = row.variables; result = e }

-- rows with one of them changed, if it is there
abbrev pub change_row : ℕ → (Row → Row) → List Row → List Row
change_row f change [] = []
change_row zero change (row ∷ rows) = change row ∷ rows
change_row (suc f) change (row ∷ rows) = row ∷ change_row f change rows

-- with another entry of a variable
abbrev pub with_variable : ℕ → ℕ → Entry → State → State
with_variable f x e s =
    record { rows = change_row f (with_entry x e) s.rows; grew = s.grew || grows (variable_at s f x) e }

-- with another entry of a result
abbrev pub with_result : ℕ → Entry → State → State
with_result f e s =
    record { rows = change_row f (with_result_entry e) s.rows; grew = s.grew || grows (result_at s f) e }

-- behind an assignment to a variable of the function
abbrev pub assign : Spot → ℕ → Test → State → State
assign at x varies s = with_variable at.function x (assigned at.guard varies (variable_at s at.function x)) s

-- behind the declaration of a variable
abbrev pub declare : Spot → ℕ → Test → State → State
declare at x varies s = with_variable at.function x (declared at.guard varies (variable_at s at.function x)) s

-- behind an argument of a call; nothing is passed to the kernel
abbrev pub pass : Spot → ℕ → ℕ → Test → State → State
pass at g n varies s = if nat_eq g at.kernel then s else with_variable g n (passed varies (variable_at s g n)) s

-- behind a return
abbrev pub give : Spot → Test → State → State
give at varies s = with_result at.function (assigned at.guard varies (result_at s at.function)) s

-- behind the scope of a variable that holds a way out under a condition that varies
abbrev pub leave : ℕ → ℕ → State → State
leave f x s = with_variable f x (left (variable_at s f x)) s

-- behind such a function
abbrev pub leave_result : ℕ → State → State
leave_result f s = with_result f (left (result_at s f)) s

-- under a condition: it is the innermost that varies, if it varies
abbrev pub under : ℕ → Test → Spot → Spot
under site varies at =
    record { kernel = at.kernel; function = at.function; guard = if varies then Some site else at.guard }

-- no way out; a break, continue or return; the ways out of either of two parts
abbrev pub no_way : Ways
no_way = record { exits = false; escapes = false }

abbrev pub way_out : Ways
way_out = record { exits = true; escapes = false }

abbrev pub joined : Ways → Ways → Ways
joined one other = record { exits = one.exits || other.exits; escapes = one.escapes || other.escapes }

-- the ways out of a statement whose parts stand under its condition
abbrev pub behind : Test → Ways → Ways
behind varies inside = record { exits = inside.exits; escapes = if varies then inside.exits else inside.escapes }
