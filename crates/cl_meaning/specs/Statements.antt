-- What declarations, statements and functions stand for, from what their parts stand for.
use Rattle.std.specs.Prelude.{ℤ, suc, nat_eq, Bool, true, false, List, [], ◌∷◌, ◌++◌, length, map, Option, None, Some}
use Rattle.std.specs.Prelude.{if◌then◌else◌}
use Rattle.wg_num.specs.declared.types.IntType.{IntType}
use Rattle.wg_num.specs.declared.types.Place.{Place}
use Rattle.wg_num.specs.Wrap.{wrap_of}
use Rattle.cl_model.specs.declared.program.Space.{Space}
use Rattle.cl_model.specs.declared.program.Space.TheVariants as spaces
use Rattle.cl_model.specs.Tree as tree
use Rattle.cl_model.specs.Tree.{Expression, Statement, Statements, empty, also, Arms, no_arm, arm}
use Rattle.cl_tree.specs.Syntax.{Syntax, Forest, more, first_of, last_of}
use Rattle.cl_meaning.specs.declared.types.Declared.{Declared}
use Rattle.cl_meaning.specs.declared.constant.Constant.{Constant}
use Rattle.cl_meaning.specs.Constants.{constant_of}
use Rattle.cl_meaning.specs.declared.kind.Yield.{Yield}
use Rattle.cl_meaning.specs.declared.kind.Yield.TheVariants as yields
use Rattle.cl_meaning.specs.Environment.{Env, Labels, Signature}
use Rattle.cl_meaning.specs.Kinds.{first_part}
use Rattle.cl_meaning.specs.Declarations.{Declarator, kept_in}
use Rattle.cl_meaning.specs.Typed.{What, nothing, values, barrier, fence, lines, statement, labelled, function, Piece}
use Rattle.cl_meaning.specs.Typed.{Built, Function}
use Rattle.cl_meaning.specs.Expressions.{made, sited, read, operand, expressions}

-- ---- lists of statements

abbrev pub alone : Statement → Statements
alone s = also s empty

abbrev pub followed : Statements → Statements → Statements
followed empty later = later
followed (also s rest) later = also s (followed rest later)

-- a statement that does nothing
abbrev pub idle : Statement
idle = tree.Block empty

-- a statement, its labels aside
abbrev pub body_of : What → Statement
body_of (statement s) = s
body_of (labelled ls other s) = s
body_of w = idle

-- the statements of a line of a block
abbrev pub lines_of : What → Statements
lines_of (lines l) = l
lines_of (statement s) = alone s
lines_of (labelled ls other s) = alone s
lines_of w = empty

abbrev pub all_lines : List Piece → Statements
all_lines [] = empty
all_lines (p ∷ ps) = followed (lines_of p.what) (all_lines ps)

-- ---- declarations

-- the values of a list, converted to the type of the elements
abbrev pub list_made : List Place → Option Declared → List Piece → Built
list_made sites None ps = made nothing sites
list_made sites (Some d) ps = made (values (map (operand d.of) ps)) sites

abbrev pub last_piece : List Piece → Option Piece
last_piece [] = None
last_piece (p ∷ []) = Some p
last_piece (p ∷ (q ∷ qs)) = last_piece (q ∷ qs)

abbrev pub set_value : (Piece → Expression) → Option Piece → Option Expression
set_value g None = None
set_value g (Some p) = Some (g p)

abbrev pub initial : Declarator → List Piece → Option Piece
initial x ps = if_there x.init (last_piece ps)
  where
    if_there : Option Syntax → Option Piece → Option Piece
    if_there None p = None
    if_there (Some t) p = p

abbrev pub list_values : Option Piece → List Expression
list_values None = []
list_values (Some p) = of_what p.what
  where
    of_what : What → List Expression
    of_what (values es) = es
    of_what w = []

-- the next variable of the function, with its value
abbrev pub variable_declared : Env → Option Expression → What
variable_declared env v = lines (alone (tree.Declare (length env.variables) v))

-- an array of the item's own is filled where it is declared; other objects are not touched
abbrev pub array_made : Env → Place → List Place → List Expression → Space → Built
array_made env place sites vs spaces.Private =
    sited place sites (λ site. lines (alone (tree.Fill site (length env.arrays) (expressions vs))))
array_made env place sites vs s = made (lines empty) sites

abbrev pub scalar_made : Env → List Place → Option Expression → Space → Built
scalar_made env sites v spaces.Private = made (variable_declared env v) sites
scalar_made env sites v s = made (lines empty) sites

abbrev pub declarator_made : Env → Place → List Place → Option Declared → Declarator → List Piece → Built
declarator_made env place sites None x ps = made nothing sites
declarator_made env place sites (Some d) x ps = by_star x.star
  where
    by_star : Option Bool → Built
    by_star (Some fixed) = made (variable_declared env (set_value (λ p. read p.what) (initial x ps))) sites
    by_star None = if nat_eq x.dimensions 0
        then scalar_made env sites (set_value (operand d.of) (initial x ps)) (kept_in env d)
        else array_made env place sites (list_values (initial x ps)) (kept_in env d)

-- ---- statements

-- the whole expression of a statement
abbrev pub simple_statement : List Piece → Statement
simple_statement [] = idle
simple_statement (p ∷ ps) = of_what p.what
  where
    of_what : What → Statement
    of_what (barrier site) = tree.Barrier site
    of_what fence = idle
    of_what w = tree.Do (read w)

abbrev pub else_of : List Piece → Statements
else_of [] = empty
else_of (p ∷ ps) = alone (body_of p.what)

abbrev pub if_made : Place → List Place → List Piece → Built
if_made place sites (c ∷ a ∷ others) =
    sited place sites (λ site. statement (tree.If site (read c.what) (alone (body_of a.what)) (else_of others)))
if_made place sites ps = made nothing sites

abbrev pub while_made : Place → List Place → List Piece → Built
while_made place sites (c ∷ a ∷ []) =
    sited place sites (λ site. statement (tree.Loop site true (Some (read c.what)) None (body_of a.what)))
while_made place sites ps = made nothing sites

abbrev pub do_made : Place → List Place → List Piece → Built
do_made place sites (a ∷ c ∷ []) =
    sited place sites (λ site. statement (tree.Loop site false (Some (read c.what)) None (body_of a.what)))
do_made place sites ps = made nothing sites

abbrev pub for_made : Place → List Place → Piece → Option Expression → Option Expression → Piece → Built
for_made place sites i test step a =
    sited place sites (λ site. statement
    (tree.Block (followed (lines_of i.what) (alone (tree.Loop site true test step (body_of a.what))))))

-- whether the second part of a `for` is its test: then it stands directly behind the first part
abbrev pub second_is_test : Forest → Bool
second_is_test (more i (more e ps)) = nat_eq (first_of e) (suc (last_of i))
second_is_test parts = false

abbrev pub loop_made : Place → List Place → Forest → List Piece → Built
loop_made place sites parts (i ∷ a ∷ []) = for_made place sites i None None a
loop_made place sites parts (i ∷ e ∷ a ∷ []) =
    if second_is_test parts then for_made place sites i (Some (read e.what)) None a else for_made place sites i None
    (Some (read e.what)) a
loop_made place sites parts (i ∷ c ∷ e ∷ a ∷ []) = for_made place sites i (Some (read c.what)) (Some (read e.what)) a
loop_made place sites parts ps = made nothing sites

-- the arms from a statement on, which begins an arm if it has labels and else belongs to the arm that has these
-- labels and begins with these statements; `rest` are the arms behind it
abbrev pub arms_by : List ℤ → Bool → Statements → What → (List ℤ → Bool → Statements → Arms) → Arms
arms_by ls other body (labelled ls' other' s) rest = arm ls other body (rest ls' other' (alone s))
arms_by ls other body w rest = rest ls other (followed body (alone (body_of w)))

-- the arms of a switch, of which the first has these labels and begins with these statements
unfoldable pub arms_from : List ℤ → Bool → Statements → List Piece → Arms
arms_from ls other body [] = arm ls other body no_arm
arms_from ls other body (p ∷ ps) = arms_by ls other body p.what (λ ls' other' body'. arms_from ls' other' body' ps)

-- statements before the first label stand in an arm that nothing chooses
abbrev pub arms_of : List Piece → Arms
arms_of [] = no_arm
arms_of (p ∷ ps) = of_what p.what
  where
    of_what : What → Arms
    of_what (labelled ls other s) = arms_from ls other (alone s) ps
    of_what w = arms_from [] false (alone (body_of w)) ps

abbrev pub switch_made : Place → List Place → List Piece → Built
switch_made place sites (v ∷ ps) = sited place sites (λ site. statement (tree.Switch site (read v.what) (arms_of ps)))
switch_made place sites ps = made nothing sites

abbrev pub label_of : Option Labels → Option Constant → List ℤ
label_of (Some l) (Some c) = wrap_of l.of c.value ∷ []
label_of l c = []

-- one label more in front of a statement
abbrev pub labelled_by : List ℤ → Bool → What → What
labelled_by ls other (labelled ls' other' s) = labelled (ls ++ ls') (or_other other other') s
  where
    or_other : Bool → Bool → Bool
    or_other true b = true
    or_other false b = b
labelled_by ls other w = labelled ls other (body_of w)

abbrev pub case_made : Env → List Place → Forest → List Piece → Built
case_made env sites parts (v ∷ a ∷ []) =
    made (labelled_by (label_of env.labels (constant_of (first_part parts))) false a.what) sites
case_made env sites parts ps = made nothing sites

abbrev pub default_made : List Place → List Piece → Built
default_made sites (a ∷ []) = made (labelled_by [] true a.what) sites
default_made sites ps = made nothing sites

abbrev pub returned : Yield → List Piece → Option Expression
returned (yields.Number t) (p ∷ ps) = Some (operand t p)
returned y ps = None

-- ---- functions

abbrev pub block_of : What → Statements
block_of (statement (tree.Block l)) = l
block_of w = empty

abbrev pub result_of : Yield → Option IntType
result_of (yields.Number t) = Some t
result_of y = None

abbrev pub body_in : List Piece → Statements
body_in ps = of_last (last_piece ps)
  where
    of_last : Option Piece → Statements
    of_last None = empty
    of_last (Some p) = block_of p.what

-- a function, from its signature and what is known at the end of its block
abbrev pub function_made : Env → List Place → Signature → List Piece → Built
function_made inner sites g ps = made (function (record {
  name = g.name;
  parameters = length g.parameters;
  result = result_of g.result;
  variables = inner.variables;
  arrays = inner.arrays;
  body = body_in ps;
  sizes = inner.owner.sizes;
})) sites

abbrev pub function_before : What → List Function → List Function
function_before (function g) gs = g ∷ gs
function_before w gs = gs

abbrev pub functions_in : List Piece → List Function
functions_in [] = []
functions_in (p ∷ ps) = function_before p.what (functions_in ps)
