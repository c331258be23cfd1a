use Rattle.std.proofs.Common.{ℕ, List, ◌∙◌, ap, arith}
use Rattle.std.proofs.lemmas.Result.{on_ok_weaker}
use Rattle.wg_num.specs.declared.types.Place.{Place}
use Rattle.cl_model.specs.declared.program.VarKind.TheVariants as var_kinds
use Rattle.cl_meaning.specs.declared.kind.Meaning.TheVariants as meanings
use Rattle.cl_meaning.specs.View.{variable_of}
use Rattle.cl_scope.specs.View.{env_of}
use Rattle.cl_scope.specs.Declarators.{with_variable_at}
use Rattle.cl_scope.proofs.Declaring.{counted}
use Rattle.cl_scope.proofs.declare.add_number.Goals as goal

pub returns : goal.returns
returns c = on_ok_weaker c.add_variable.result
    (λ h (places : List Place).
    h places
    ∙ ap (λ (n : ℕ). with_variable_at (env_of places c.args.environment.now) c.args.name.now c.args.place
    (var_kinds.Scalar c.args.declared.of) (meanings.Scalar c.args.declared.of c.args.declared.constant n))
    (counted variable_of c.in_ok-number.number c.args.environment.now.variables.items (omega (
      arith,
      c.in_ok-number.ensures,
      c.len.ensures,
      c.args.environment.now.variables.ok,
    ))))
    c.add_variable.ensures
