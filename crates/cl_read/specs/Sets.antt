-- Sets of terminals.
use Rattle.std.specs.Prelude.{Bool}
use Rattle.cl_tree.specs.declared.terminal.Terminal.{Terminal}
use Rattle.cl_tree.specs.Precedence.{joins, assigns, prefixes, qualifies}
use Rattle.cl_read.specs.declared.set.Set.{Set}
use Rattle.cl_read.specs.declared.set.Set.TheVariants as sets
use Rattle.cl_read.specs.Starts.{same, starts_expression, starts_simple, starts_statement, starts_type, starts_core}
use Rattle.cl_read.specs.Starts.{starts_declarator, starts_head, postfixes}

abbrev pub in_set : Set → Terminal → Bool
in_set (sets.Only k) = λ j. same j k
in_set sets.Expression = starts_expression
in_set sets.Simple = starts_simple
in_set sets.Statement = starts_statement
in_set sets.Type = starts_type
in_set sets.Core = starts_core
in_set sets.Declarator = starts_declarator
in_set sets.Head = starts_head
in_set sets.Postfix = postfixes
in_set sets.Prefix = prefixes
in_set sets.Assignment = assigns
in_set (sets.Level k) = joins k
in_set (sets.Qualifier b) = qualifies b
