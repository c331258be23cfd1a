-- Lists of pieces, expressions and statements.
use Rattle.std.proofs.Common.{◌≡◌, List, [], ◌∷◌, ◌++◌, length, map, Option, refl, ap, Some, None}
use Rattle.cl_model.specs.declared.program.Root.{Root}
use Rattle.cl_model.specs.declared.program.Arg.{Arg}
use Rattle.cl_model.specs.declared.program.Expr.{Expr}
use Rattle.cl_model.specs.declared.program.Stmt.{Stmt}
use Rattle.cl_model.specs.declared.program.SwitchArm.{SwitchArm}
use Rattle.cl_model.specs.declared.program.Function as rust_function
use Rattle.cl_model.specs.Tree as tree
use Rattle.cl_model.specs.Tree.{Statements, empty, also, Arms}
use Rattle.cl_model.specs.View.{expression_of, root_of, argument_of, statement_of, listed_expressions}
use Rattle.cl_model.specs.View.{listed_statements}
use Rattle.cl_model.specs.Listed.{listed_roots, listed_arguments, listed_arms}
use Rattle.cl_meaning.specs.Typed.{Function}
use Rattle.cl_meaning.specs.declared.kind.Parameter.{Parameter}
use Rattle.cl_meaning.specs.Expressions.{expressions, roots_passed, all_passed}
use Rattle.cl_meaning.specs.Statements.{followed, last_piece}
use Rattle.cl_meaning.specs.View.{function_of}
use Rattle.cl_fragment.specs.declared.fragment.Piece as rust
use Rattle.cl_fragment.specs.View.{piece_of}
use Rattle.cl_fragment.specs.Arms.{arms_then}

-- ---- expressions and statements

-- expressions behind others
abbrev pub arguments_then : tree.Expressions → tree.Expressions → tree.Expressions
arguments_then tree.none later = later
arguments_then (tree.more e rest) later = tree.more e (arguments_then rest later)

pub arguments_none : (es : tree.Expressions) → arguments_then es tree.none ≡ es
arguments_none tree.none = refl
arguments_none (tree.more e rest) = ap (tree.more e) (arguments_none rest)

pub arguments_more : (as' : List Arg) (a : Arg) (later : tree.Expressions) →
    arguments_then (listed_arguments (as' ++ a ∷ [])) later ≡ arguments_then (listed_arguments as')
    (tree.more (argument_of a) later)
arguments_more [] a later = refl
arguments_more (b ∷ bs) a later = ap (tree.more (argument_of b)) (arguments_more bs a later)

pub roots_more : (as' : List Arg) (a : Arg) (later : List (Option Root)) →
    listed_roots (as' ++ a ∷ []) ++ later ≡ listed_roots as' ++ (root_of a ∷ later)
roots_more [] a later = refl
roots_more (b ∷ bs) a later = ap (λ t. root_of b ∷ t) (roots_more bs a later)

pub expressions_listed : (es : List Expr) → expressions (map expression_of es) ≡ listed_expressions es
expressions_listed [] = refl
expressions_listed (e ∷ es) = ap (tree.more (expression_of e)) (expressions_listed es)

pub followed_none : (ss : Statements) → followed ss empty ≡ ss
followed_none empty = refl
followed_none (also s ss) = ap (also s) (followed_none ss)

pub followed_assoc : (a b c : Statements) → followed (followed a b) c ≡ followed a (followed b c)
followed_assoc empty b c = refl
followed_assoc (also s ss) b c = ap (also s) (followed_assoc ss b c)

pub listed_followed : (a b : List Stmt) →
    listed_statements (a ++ b) ≡ followed (listed_statements a) (listed_statements b)
listed_followed [] b = refl
listed_followed (s ∷ ss) b = ap (also (statement_of s)) (listed_followed ss b)

pub map_behind : {A B : Type 0} (f : A → B) (xs ys : List A) → map f (xs ++ ys) ≡ map f xs ++ map f ys
map_behind f [] ys = refl
map_behind f (x ∷ xs) ys = ap (λ t. f x ∷ t) (map_behind f xs ys)

pub last_is : (ps : List rust.Piece) (p : rust.Piece) → last_piece (map piece_of (ps ++ p ∷ [])) ≡ Some (piece_of p)
last_is [] p = refl
last_is (a ∷ []) p = refl
last_is (a ∷ b ∷ rest) p = last_is (b ∷ rest) p

pub last_none : (ps : List rust.Piece) → length ps ≡ 0 → last_piece (map piece_of ps) ≡ None
last_none [] h = refl
last_none (a ∷ rest) h = absurd (cc)

pub roots_end : (parameters : List Parameter) → roots_passed parameters [] ≡ []
roots_end [] = refl
roots_end (p ∷ ps) = refl

pub arguments_end : (parameters : List Parameter) → all_passed parameters [] ≡ tree.none
arguments_end [] = refl
arguments_end (p ∷ ps) = refl

-- ---- functions

pub functions_more : (fs : List rust_function.Function) (f : rust_function.Function) (later : List Function) →
    map function_of (fs ++ f ∷ []) ++ later ≡ map function_of fs ++ (function_of f ∷ later)
functions_more [] f later = refl
functions_more (g ∷ gs) f later = ap (λ t. function_of g ∷ t) (functions_more gs f later)

-- ---- arms

pub arms_listed : (done : List SwitchArm) (a : SwitchArm) (later : Arms) →
    arms_then (listed_arms (done ++ a ∷ [])) later ≡
    arms_then (listed_arms done) (tree.arm a.labels.items a.other (listed_statements a.body.items) later)
arms_listed [] a later = refl
arms_listed (d ∷ ds) a later =
    ap (tree.arm d.labels.items d.other (listed_statements d.body.items)) (arms_listed ds a later)

pub arms_alone : (done : List SwitchArm) (a : SwitchArm) →
    listed_arms (done ++ a ∷ []) ≡
    arms_then (listed_arms done) (tree.arm a.labels.items a.other (listed_statements a.body.items) tree.no_arm)
arms_alone [] a = refl
arms_alone (d ∷ ds) a = ap (tree.arm d.labels.items d.other (listed_statements d.body.items)) (arms_alone ds a)
