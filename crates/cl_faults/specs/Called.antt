-- What a node calls.
use Rattle.std.specs.Prelude.{Option, None}
use Rattle.cl_tree.specs.declared.tree.Form.{Form}
use Rattle.cl_tree.specs.declared.tree.Form.TheVariants as forms
use Rattle.cl_meaning.specs.Spelling.{name_in}
use Rattle.cl_meaning.specs.Kinds.{Callee, callee_of}
use Rattle.cl_meaning.specs.Faults.{Looked}

abbrev pub called_in : Looked → Form → Option Callee
called_in n forms.CallNode = callee_of n.env (name_in n.word)
called_in n form = None
