use Rattle.std.proofs.Common.{List, ◌∙◌, ◌++◌, map, sym, ap, Bor}
use Rattle.std.specs.Prelude.{option_map, Option}
use Rattle.cl_tree.specs.declared.tree.Tree.{Tree}
use Rattle.std.proofs.lemmas.Result.{on_ok_weaker}
use Rattle.cl_tree.specs.Syntax.{Syntax, view}
use Rattle.cl_meaning.specs.Declarations.{all_bytes}
use Rattle.cl_scope.proofs.Trees.{listed_values}
use Rattle.cl_scope.proofs.table.push_initial.Goals as goal

pub returns-then-many : goal.returns-then-many
returns-then-many c = on_ok_weaker c.push_constants.result
    (λ h. h ∙ ap (λ (ts : List Syntax). c.args.bytes.now.items ++ all_bytes c.args.of ts)
    (ap (λ ts. map view ts) c.deref.ensures.value ∙
    sym (listed_values (option_map (λ t. view t.now) c.args.declarator.now.init) c.in-Some.tree.now
    (ap (λ (o : Option (Bor Tree)). option_map (λ t. view t.now) o) c.in-Some.is)
    (sym c.has_list-many.ensures ∙ c.if-many.true))))
    c.push_constants.ensures
