use Rattle.std.proofs.Common.{◌∙◌, ap, sym}
use Rattle.cl_tree.specs.Syntax.{views}
use Rattle.cl_meaning.specs.Environment.{Owner}
use Rattle.cl_meaning.specs.Visible.{in_owner, head_sizes}
use Rattle.cl_scope.specs.View.{env_of, owner_of}
use Rattle.cl_scope.proofs.Departures.{headed_by}
use Rattle.cl_scope.proofs.Signatures.{parts_view}
use Rattle.cl_scope.proofs.between.behind_head.Goals as goal

pub returns : goal.returns
returns c = λ places.
    ap (λ (o : Owner). in_owner (env_of places c.args.environment.now) o)
    (c.headed-environment.ensures
    ∙ headed_by (owner_of c.args.environment.now.owner) _ _ _ _ c.is_kernel_head-kernel.ensures
    (c.in_ok-sizes.ensures ∙ ap (λ ts. head_sizes (views ts)) c.deref.ensures.value ∙
    ap head_sizes (sym (parts_view c.args.part.now))))
