-- The calls that a function makes, in the order of the text, and the instances of functions that a kernel runs.
use Rattle.std.specs.Prelude.{ℕ, zero, suc, ◌∷◌, ◌++◌, List, [], Option, Some, None, length, unwrap_or, slice_get}
use Rattle.std.specs.Prelude.{flat_map}
use Rattle.cl_model.specs.Tree.{Expression, Apply, Update, Choose, Call, Expressions, none, more, Statement, Do}
use Rattle.cl_model.specs.Tree.{Declare, Fill, Block, If, Loop, Switch, Break, Continue, Return, Barrier, Statements}
use Rattle.cl_model.specs.Tree.{empty, also, Arms, no_arm, arm, Function, Program}

-- a call: its site and the function that it calls
pub record CallSite : Type 0 where
  pub site : ℕ
  pub function : ℕ

-- an argument's calls come before the call itself
abbrev mutual
  pub calls_in : Expression → List CallSite
  calls_in (Apply action operands) = calls_among operands
  calls_in (Update site element root op of back old index value) = calls_in index ++ calls_in value
  calls_in (Choose site test chosen other) = calls_in test ++ (calls_in chosen ++ calls_in other)
  calls_in (Call site function roots arguments) =
      calls_among arguments ++ (record { site = site; function = function } ∷ [])

  pub calls_among : Expressions → List CallSite
  calls_among none = []
  calls_among (more e rest) = calls_in e ++ calls_among rest

-- the calls of an expression that may be absent
abbrev pub calls_in_optional : Option Expression → List CallSite
calls_in_optional None = []
calls_in_optional (Some e) = calls_in e

abbrev mutual
  pub calls_of : Statement → List CallSite
  calls_of (Do e) = calls_in e
  calls_of (Declare x value) = calls_in_optional value
  calls_of (Fill site array values) = calls_among values
  calls_of (Block list) = calls_of_all list
  calls_of (If site test chosen other) = calls_in test ++ (calls_of_all chosen ++ calls_of_all other)
  calls_of (Loop site test_first test step body) = calls_in_optional test ++ (calls_in_optional step ++ calls_of body)
  calls_of (Switch site value arms) = calls_in value ++ calls_of_arms arms
  calls_of (Break site) = []
  calls_of (Continue site) = []
  calls_of (Return site value) = calls_in_optional value
  calls_of (Barrier site) = []

  pub calls_of_all : Statements → List CallSite
  calls_of_all empty = []
  calls_of_all (also s rest) = calls_of s ++ calls_of_all rest

  pub calls_of_arms : Arms → List CallSite
  calls_of_arms no_arm = []
  calls_of_arms (arm labels other body rest) = calls_of_all body ++ calls_of_arms rest

-- what stands for a function that is not there
abbrev pub no_function : Function
no_function = record { parameters = 0; result = None; variables = []; arrays = []; body = empty }

-- the function with this number
abbrev pub function_at : Program → ℕ → Function
function_at program f = unwrap_or (slice_get program.functions f) no_function

-- the function that is the kernel
abbrev pub kernel_of : Program → Function
kernel_of program = function_at program program.kernel

-- a function as it runs below the kernel: the sites of the calls that lead to it, the kernel's first
pub record Instance : Type 0 where
  pub path : List ℕ
  pub function : ℕ

-- the instance of a function behind these calls, and those of the functions that it calls, with calls nested less
-- deep than the depth
abbrev pub instances_below : Program → ℕ → List ℕ → ℕ → List Instance
instances_below program zero path f = []
instances_below program (suc depth) path f =
    record { path = path; function = f }
    ∷ flat_map (λ (c : CallSite). instances_below program depth (path ++ c.site ∷ []) c.function)
    (calls_of_all (function_at program f).body)

-- all instances of a launch, the kernel's first; no function leads back to itself, so calls nest less deep than there
-- are functions
abbrev pub instances : Program → List Instance
instances program = instances_below program (length program.functions) [] program.kernel
