-- What the parser answers, case by case.
use Rattle.std.specs.Prelude.{◌≡◌, ℕ, Result, Ok, Err}
use Rattle.cl_tree.specs.declared.tree.Tree.{Tree}
use Rattle.cl_tree.specs.Syntax.{Syntax, view}
use Rattle.cl_parse.specs.declared.parser.ParseError.{ParseError}
use Rattle.cl_parse.specs.declared.parser.ParseError.TheVariants as errors

-- It answers this tree, unless memory ran out.
abbrev pub Answers : Result Tree ParseError → Syntax → Type 0
Answers (Ok u) t = view u ≡ t
Answers (Err errors.Memory) t = Unit {0}
Answers (Err _) t = ⊥

-- p holds of the place of a syntax error
abbrev pub IfSyntax : Result Tree ParseError → (ℕ → Type 0) → Type 0
IfSyntax (Err (errors.Syntax k)) p = p k
IfSyntax _ p = Unit {0}

-- p holds of the place where the nesting is too deep
abbrev pub IfNesting : Result Tree ParseError → (ℕ → Type 0) → Type 0
IfNesting (Err (errors.Nesting k)) p = p k
IfNesting _ p = Unit {0}
