use Rattle.std.proofs.Common.{ℕ, List, ◌∙◌, sym, ap}
use Rattle.std.proofs.lemmas.Result.{on_ok_weaker}
use Rattle.wg_num.specs.declared.types.Place.{Place}
use Rattle.cl_meaning.specs.Declarations.{table_bytes}
use Rattle.cl_meaning.specs.View.{array_of}
use Rattle.cl_scope.specs.View.{env_of}
use Rattle.cl_scope.specs.Declarators.{declarator_view, with_table_kept}
use Rattle.cl_scope.proofs.Declaring.{kept_at_unit, kept_in_function}
use Rattle.cl_scope.proofs.declare.keep_array.Goals as goal

pub returns-then-is_at_unit : goal.returns-then-is_at_unit
returns-then-is_at_unit c = on_ok_weaker c.push_table.result
    (λ h (places : List Place).
    h places
    ∙ ap (λ (b : List ℕ). with_table_kept (env_of places c.args.environment.now)
    (record { array = array_of c.args.array; bytes = b }))
    (c.in_ok-bytes.ensures ∙ ap (λ (ls : List ℕ).
    table_bytes c.args.declared ls (declarator_view c.args.declarator.now)) c.deref.ensures.value)
    ∙ kept_at_unit (env_of places c.args.environment.now) (array_of c.args.array)
    (table_bytes c.args.declared c.args.array.dims.items (declarator_view c.args.declarator.now))
    (sym c.if-is_at_unit.ensures))
    c.push_table.ensures

pub returns : goal.returns
returns c = on_ok_weaker c.push_array.result
    (λ h (places : List Place).
    h places
    ∙ kept_in_function (env_of places c.args.environment.now) (array_of c.args.array)
    (table_bytes c.args.declared c.args.array.dims.items (declarator_view c.args.declarator.now))
    (sym c.if-is_at_unit.ensures))
    c.push_array.ensures
