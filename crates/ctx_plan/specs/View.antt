-- What contracts see of the working of a plan.
use Rattle.std.specs.Prelude.{List, map}
use Rattle.std.specs.Prelude.{Bool as Test}
use Rattle.ctx_plan.specs.declared.plan.Plan.{Plan}
use Rattle.diverge.specs.declared.rounds.Varying.{Varying}
use Rattle.ctx_plan.specs.declared.sharing.Sharing.{Sharing}
use Rattle.ctx_plan.specs.declared.sharing.Columns.{Columns}
use Rattle.ctx_plan.specs.declared.cells.Homes.{Homes}
use Rattle.ctx_plan.specs.Sharing as spec
use Rattle.ctx_plan.specs.Made.{Placed}
use Rattle.ctx_plan.specs.Planned.{Planned}

-- which variables vary, one list for each function
abbrev pub varying_of : Varying → List (List Test)
varying_of v = map (λ l. l.items) v.list.items

-- what is said of functions and sites
abbrev pub shares_of : Sharing → spec.Shares
shares_of s = record {
  crossing = map (λ l. l.items) s.crossing.items;
  numbers = map (λ l. l.items) s.numbers.items;
  taken = s.taken.items;
}

-- the columns of a function
abbrev pub plain_columns : Columns → spec.Columns
plain_columns c = record { numbers = c.numbers.items; taken = c.taken.items }

-- homes so far
abbrev pub placed_of : Homes → Placed
placed_of h = record { list = h.list.items; columns = h.columns; slots = h.slots }

-- a plan
abbrev pub planned_of : Plan → Planned
planned_of p = record { homes = p.homes.items; columns = p.columns; slots = p.slots; private_bytes = p.private_bytes }
