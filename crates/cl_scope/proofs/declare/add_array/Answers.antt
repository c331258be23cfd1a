use Rattle.std.proofs.Common.{ℕ, List, ◌∙◌, sym, ap, refl}
use Rattle.std.proofs.lemmas.Result.{on_ok_weaker}
use Rattle.wg_num.specs.declared.types.Place.{Place}
use Rattle.cl_meaning.specs.Environment.{Env, declare}
use Rattle.cl_meaning.specs.Declarations.{table_bytes, firm}
use Rattle.cl_meaning.specs.View.{array_of}
use Rattle.cl_scope.specs.View.{env_of}
use Rattle.cl_scope.specs.Declarators.{declarator_view, kept_array}
use Rattle.cl_scope.proofs.Declaring.{with_array_is}
use Rattle.cl_scope.proofs.declare.add_array.Goals as goal

pub returns : goal.returns
returns c = on_ok_weaker c.declare.result
    (λ h (places : List Place).
    h places
    ∙ ap (λ (e : Env). declare e c.args.declarator.now.name.now (firm c.args.meaning))
    (c.in_ok-keep_array.ensures places)
    ∙ ap (λ (n : List ℕ). declare (kept_array (env_of places c.args.environment.now) (array_of c.args.array)
    (table_bytes c.args.declared c.args.array.dims.items (declarator_view c.args.declarator.now))) n
    (firm c.args.meaning)) (sym c.requires)
    ∙ with_array_is (env_of places c.args.environment.now) (array_of c.args.array)
    (table_bytes c.args.declared c.args.array.dims.items (declarator_view c.args.declarator.now)) c.args.meaning _
    refl)
    c.declare.ensures
