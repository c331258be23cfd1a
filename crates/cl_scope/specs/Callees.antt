-- What a contract sees of a callee and of a definition.
use Rattle.std.specs.Prelude.{ℕ, Bool}
use Rattle.cl_scope.specs.declared.lookup.Callee as rust
use Rattle.cl_scope.specs.declared.lookup.Callee.TheVariants as callees
use Rattle.cl_scope.specs.declared.lookup.Definition as rust_definition
use Rattle.cl_meaning.specs.Kinds.{Callee, defined, undefined, known}
use Rattle.cl_scope.specs.View.{signature_of}

abbrev pub callee_view : rust.Callee → Callee
callee_view (callees.Defined number signature) = defined number (signature_of signature.now)
callee_view callees.Undefined = undefined
callee_view (callees.Known i) = known i

abbrev pub definition_view : rust_definition.Definition → ℕ × Bool
definition_view d = (d.number, d.kernel)
