-- What stands at a key of a table.
use Rattle.std.specs.Prelude.{◌&&◌, Bool, true, bytes_eq, ℕ, ℤ, List, ◌∷◌, Option, Some, None, option_and_then}
use Rattle.std.specs.Prelude.{option_map}
use Rattle.std.specs.List.{list_any}
use Rattle.toml.specs.Data.{Data, Items, Members, no_items, item, no_members, member, as_array, as_integer, as_str}
use Rattle.toml.specs.Data.{as_table, get_member}

-- the string at a key that is needed
abbrev pub string_at : List ℕ → Members → Option (List ℕ)
string_at key members = option_and_then as_str (get_member key members)

-- the integer at one
abbrev pub integer_at : List ℕ → Members → Option ℤ
integer_at key members = option_and_then as_integer (get_member key members)

-- of a key that may be absent
abbrev pub string_or_none : Option Data → Option (Option (List ℕ))
string_or_none None = Some None
string_or_none (Some d) = option_map Some (as_str d)

-- the string at a key that may be absent
abbrev pub optional_string : List ℕ → Members → Option (Option (List ℕ))
optional_string key members = string_or_none (get_member key members)

-- of a key that may be absent
abbrev pub integer_or_none : Option Data → Option (Option ℤ)
integer_or_none None = Some None
integer_or_none (Some d) = option_map Some (as_integer d)

-- the integer at a key that may be absent
abbrev pub optional_integer : List ℕ → Members → Option (Option ℤ)
optional_integer key members = integer_or_none (get_member key members)

-- what is made of a value, where there is one
abbrev pub given : {X Y : Type 0} → Option X → (X → Option Y) → Option Y
given None make = None
given (Some x) make = make x

-- one more at the head of a list, where both are there
abbrev pub before : {X : Type 0} → Option X → Option (List X) → Option (List X)
before None xs = None
before (Some x) xs = option_map (λ more. x ∷ more) xs

-- each key of the table is among these
abbrev pub has_only : List (List ℕ) → Members → Bool
has_only keys no_members = true
has_only keys (member key d members) = list_any (λ name. bytes_eq name key) keys && has_only keys members

-- a test of a table, where there is one
abbrev pub passes : (Members → Bool) → Option Members → Bool
passes test None = true
passes test (Some members) = test members

-- a test of each table of an array
abbrev pub each_passes : (Members → Bool) → Items → Bool
each_passes test no_items = true
each_passes test (item d ds) = passes test (as_table d) && each_passes test ds

-- a test of the table, or of each table of the array
abbrev pub table_or_array : (Members → Bool) → Option Members → Option Items → Bool
table_or_array test (Some members) items = test members
table_or_array test None (Some items) = each_passes test items
table_or_array test None None = true

-- a test of the tables at a key: of each table of the array there, or of the table there
abbrev pub tables_pass : (Members → Bool) → Option Data → Bool
tables_pass test None = true
tables_pass test (Some d) = table_or_array test (as_table d) (as_array d)
