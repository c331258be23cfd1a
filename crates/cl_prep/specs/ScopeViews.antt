-- The scope that a struct keeps.
use Rattle.cl_prep.specs.Directives as spec
use Rattle.cl_prep.specs.Table.{names_of}
use Rattle.cl_prep.specs.declared.scope.Scope.{Scope}

abbrev pub scope_of : Scope → spec.Scope
scope_of s = record { names = names_of s.names; conditionals = s.conditionals.items }
