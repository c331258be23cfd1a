-- The declarations and calls of a function, in the order of its text.
use Rattle.std.specs.Prelude.{ℕ, zero, suc, List, [], ◌∷◌, ◌++◌, map}
use Rattle.std.specs.Prelude.{true, false}
use Rattle.cl_model.specs.Tree.{Statement, Do, Declare, Fill, Block, If, Loop, Switch, Break, Continue, Return}
use Rattle.cl_model.specs.Tree.{Barrier, Statements, empty, also, Arms, no_arm, arm, Function}
use Rattle.cl_model.specs.Calls.{CallSite, calls_in, calls_among, calls_in_optional}
use Rattle.kir.specs.Tree as tree
use Rattle.ctx_plan_text.specs.declared.outline.Entry.{Entry}
use Rattle.ctx_plan_text.specs.declared.outline.Entry.TheVariants as entry
use Rattle.ctx_plan_text.specs.declared.variables.Variable.{Variable}

-- the plain view of a variable
abbrev pub variable_of : Variable → tree.Variable
variable_of v = record { calls = v.calls.items; function = v.function; number = v.number }

-- calls
abbrev pub call_entries : List CallSite → List Entry
call_entries calls = map (λ c. entry.Calls c.site c.function) calls

abbrev mutual
  -- the entries of a statement; the test of a `do` stands behind its body
  pub statement_entries : Statement → List Entry
  statement_entries (Do e) = call_entries (calls_in e)
  statement_entries (Declare x value) = call_entries (calls_in_optional value) ++ entry.Declares x ∷ []
  statement_entries (Fill site array values) = call_entries (calls_among values)
  statement_entries (Block list) = all_entries list
  statement_entries (If site test chosen other) =
      call_entries (calls_in test) ++ (all_entries chosen ++ all_entries other)
  statement_entries (Loop site true test step body) =
      call_entries (calls_in_optional test) ++ (call_entries (calls_in_optional step) ++ statement_entries body)
  statement_entries (Loop site false test step body) =
      statement_entries body ++ (call_entries (calls_in_optional step) ++ call_entries (calls_in_optional test))
  statement_entries (Switch site value arms) = call_entries (calls_in value) ++ arm_entries arms
  statement_entries (Break site) = []
  statement_entries (Continue site) = []
  statement_entries (Return site value) = call_entries (calls_in_optional value)
  statement_entries (Barrier site) = []

  pub all_entries : Statements → List Entry
  all_entries empty = []
  all_entries (also s rest) = statement_entries s ++ all_entries rest

  pub arm_entries : Arms → List Entry
  arm_entries no_arm = []
  arm_entries (arm labels other body rest) = all_entries body ++ arm_entries rest

-- so many parameters
abbrev pub parameter_entries : ℕ → List Entry
parameter_entries zero = []
parameter_entries (suc n) = parameter_entries n ++ entry.Declares n ∷ []

-- the entries of a function, whose parameters are declared at the start of its body
abbrev pub function_entries : Function → List Entry
function_entries f = parameter_entries f.parameters ++ all_entries f.body
