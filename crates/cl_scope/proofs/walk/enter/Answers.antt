use Rattle.std.proofs.Common.{ℕ, List, ◌∙◌, sym, ap}
use Rattle.cl_tree.specs.declared.tree.Tree.TheViews.{out-Tree}
use Rattle.cl_meaning.specs.Spelling.{name_in}
use Rattle.cl_scope.specs.View.{env_of}
use Rattle.cl_scope.specs.Walk.{inside_named}
use Rattle.cl_scope.proofs.WalkLaws.{entered_is}
use Rattle.cl_scope.proofs.walk.enter.Goals as goal

pub returns-clause-inside : goal.returns-clause-inside
returns-clause-inside c = λ places.
    c.in_ok-aside.ensures.inside places
    ∙ ap (λ (name : List ℕ). inside_named (env_of places c.args.environment.now) (out-Tree c.args.tree.now).form name)
    (c.name_of-name.ensures ∙ ap name_in c.bytes.ensures)
    ∙ sym (entered_is (env_of places c.args.environment.now) c.args.tree.now)
