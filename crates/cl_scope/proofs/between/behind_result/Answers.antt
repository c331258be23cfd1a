use Rattle.std.proofs.Common.{◌∙◌, ap, sym}
use Rattle.cl_tree.specs.Syntax.{views}
use Rattle.cl_meaning.specs.declared.kind.Yield.{Yield}
use Rattle.cl_meaning.specs.Declarations.{yield_of}
use Rattle.cl_meaning.specs.Visible.{in_owner}
use Rattle.cl_scope.specs.View.{env_of}
use Rattle.cl_scope.proofs.Signatures.{parts_view}
use Rattle.cl_scope.proofs.between.behind_result.Goals as goal

pub returns : goal.returns
returns c = λ places.
    ap (λ (y : Yield). in_owner (env_of places c.args.environment.now)
    (record (env_of places c.args.environment.now).owner { result = y }))
    (c.yield_of-environment.ensures ∙ ap (λ ts. yield_of (views ts)) c.deref.ensures.value ∙
    ap yield_of (sym (parts_view c.args.part.now)))
