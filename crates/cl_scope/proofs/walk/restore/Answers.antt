use Rattle.std.proofs.Common.{map, ◌∙◌, ap, refl}
use Rattle.cl_scope.specs.View.{env_of, scope_of}
use Rattle.cl_scope.specs.Walk.{Kept, saved_of, aside_of, restored_by, inner_for}
use Rattle.cl_scope.proofs.WalkLaws.{map_take, restored_is, restored_parts, inner_is, inner_same}
use Rattle.cl_scope.proofs.walk.restore.Goals as goal

pub returns-clause-restored : goal.returns-clause-restored
returns-clause-restored c = λ places form before kept_it.
    c.exchange.ensures.outside places
    ∙ restored_parts (saved_of c.args.saved) (env_of places c.args.environment.now) _
    (ap (λ ms. map scope_of ms) c.truncate.ensures.items ∙
    map_take scope_of c.args.saved.around.scopes c.args.environment.now.scopes.items)
    ∙ ap (λ (k : Kept). restored_by k (env_of places c.args.environment.now)) kept_it
    ∙ restored_is form before (env_of places c.args.environment.now)

pub returns-clause-inner : goal.returns-clause-inner
returns-clause-inner c = λ places form before kept_it.
    c.exchange.ensures.inside
    ∙ inner_same (aside_of c.args.saved.aside) _ (env_of places c.args.environment.now)
    c.args.environment.now.owner.sizes refl refl
    ∙ ap (λ (k : Kept). inner_for k.aside (env_of places c.args.environment.now)
    (env_of places c.args.environment.now).owner.sizes) kept_it
    ∙ inner_is form before (env_of places c.args.environment.now)
