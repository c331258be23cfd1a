-- What a contract sees of a declarator, and steps of declarations.
use Rattle.std.specs.Prelude.{ℕ, Bool, List, [], ◌∷◌, ◌++◌, length, map, option_map, if◌then◌else◌}
use Rattle.wg_num.specs.declared.types.Place.{Place}
use Rattle.cl_model.specs.declared.program.Space.{Space}
use Rattle.cl_model.specs.declared.program.Root.TheVariants as roots
use Rattle.cl_model.specs.declared.program.VarKind.{VarKind}
use Rattle.cl_model.specs.declared.program.VarKind.TheVariants as var_kinds
use Rattle.cl_tree.specs.Syntax.{view}
use Rattle.cl_meaning.specs.declared.types.Declared.{Declared}
use Rattle.cl_meaning.specs.declared.kind.Meaning.{Meaning}
use Rattle.cl_meaning.specs.declared.kind.Meaning.TheVariants as meanings
use Rattle.cl_meaning.specs.Environment.{Env, Variable, Array, Table, declare, at_unit}
use Rattle.cl_meaning.specs.Declarations.{Declarator, firm, pointed_space, with_array, array_in, table_bytes, next_root}
use Rattle.cl_scope.specs.declared.declarator.Declarator as rust

abbrev pub declarator_view : rust.Declarator → Declarator
declarator_view d = record {
  name = d.name.now;
  token = d.token;
  star = d.star;
  dimensions = d.dimensions;
  lengths = map view d.lengths.now;
  init = option_map (λ t. view t.now) d.init;
}

-- ---- variables, at the places of their names

abbrev pub kept_variable : Env → Variable → Env
kept_variable env v = record env { variables = env.variables ++ v ∷ [] }

abbrev pub with_variable_at : Env → List ℕ → Place → VarKind → Meaning → Env
with_variable_at env name place kind m =
    declare (kept_variable env (record { name = name; kind = kind; place = place })) name (firm m)

abbrev pub scalar_at : Env → Declared → List ℕ → Place → Env
scalar_at env d name place =
    with_variable_at env name place (var_kinds.Scalar d.of) (meanings.Scalar d.of d.constant (length env.variables))

abbrev pub pointer_parameter_at : Env → Declared → List ℕ → Place → Bool → Env
pointer_parameter_at env d name place fixed =
    with_variable_at env name place (var_kinds.Pointer (pointed_space d) d.of (roots.Param (length env.variables)))
    (meanings.Pointer (pointed_space d) d.of d.constant (roots.Param (length env.variables)) fixed
    (length env.variables))

-- ---- arrays

abbrev pub with_array_kept : Env → Array → Env
with_array_kept env a = record env { arrays = env.arrays ++ a ∷ [] }

abbrev pub with_table_kept : Env → Table → Env
with_table_kept env t = record env { tables = env.tables ++ t ∷ [] }

-- one more array of the function, or table of the unit
abbrev pub kept_array : Env → Array → List ℕ → Env
kept_array env a bytes =
    if at_unit env then with_table_kept env (record { array = a; bytes = bytes }) else with_array_kept env a

-- an object of one element
abbrev pub with_object : Env → Declared → Declarator → Space → Env
with_object env d x s = with_array env (array_in env s d x (1 ∷ [])) (table_bytes d (1 ∷ []) x)
    (meanings.Object s d.of d.constant (next_root env s))
