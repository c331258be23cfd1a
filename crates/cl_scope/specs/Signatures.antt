-- What one part of a unit defines.
use Rattle.std.specs.Prelude.{List, [], ◌∷◌}
use Rattle.cl_tree.specs.declared.tree.Form.{Form}
use Rattle.cl_tree.specs.declared.tree.Form.TheVariants as forms
use Rattle.cl_tree.specs.Syntax.{Syntax}
use Rattle.cl_meaning.specs.Environment.{Signature}
use Rattle.cl_meaning.specs.Declarations.{signature_in, word_of, parts_of}

abbrev pub definition_at : Form → Syntax → List Signature
definition_at forms.FunctionNode p = signature_in (word_of p) (parts_of p) ∷ []
definition_at form p = []
