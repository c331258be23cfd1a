-- What a launch file is refused for, and what an accepted one says.
use Rattle.std.specs.Prelude.{◌≡◌, ◌<◌, ◌⊎◌, ◌&&◌, ◌||◌, ◌==◌, Bool, false, not, nat_le, bytes_eq, ℕ, ℤ, pos, negsuc}
use Rattle.std.specs.Prelude.{List, [], ◌∷◌, length, Option, Some, None, is_none, unwrap_or, codes, IsUtf8}
use Rattle.std.specs.Prelude.{if◌then◌else◌}
use Rattle.std.specs.List.{list_any}
use Rattle.toml.specs.Data.{Members, get_member}
use Rattle.toml.specs.Parse.{parse_document}
use Rattle.launch_file.specs.declared.text.BufferText.{BufferText}
use Rattle.launch_file.specs.declared.refusal.Refusal.{Refusal}
use Rattle.launch_file.specs.declared.refusal.Refusal.TheVariants as refusal
use Rattle.launch_file.specs.declared.format.Format.{Format}
use Rattle.launch_file.specs.declared.format.Format.TheVariants.{One, Two, Three}
use Rattle.launch_file.specs.Keys.{has_only, tables_pass}
use Rattle.launch_file.specs.Texts.{Text}
use Rattle.launch_file.specs.Values.{Values, values_in, format_in}

-- the file is too long, is not UTF-8, or is no document
abbrev pub IsNoDocument : List ℕ → Type 0
IsNoDocument bytes = (1048576 < length bytes) ⊎ ((IsUtf8 bytes → ⊥) ⊎ (parse_document bytes ≡ None))

-- the bytes are a document with these members
pub record IsDocument (bytes : List ℕ) (members : Members) : Type 0 where
  pub short : length bytes < 1048577
  pub utf8 : IsUtf8 bytes
  pub parsed : parse_document bytes ≡ Some members

-- the keys of a file, by its format
abbrev pub file_keys : Format → List (List ℕ)
file_keys One = codes "format" ∷ codes "kernel" ∷ codes "global" ∷ codes "local" ∷ codes "lanes" ∷ codes "turns" ∷
    codes "defines" ∷ codes "buffer" ∷ codes "arg" ∷ []
file_keys Two = codes "format" ∷ codes "kernel" ∷ codes "global" ∷ codes "local" ∷ codes "offset" ∷ codes "lanes" ∷
    codes "turns" ∷ codes "defines" ∷ codes "buffer" ∷ codes "arg" ∷ []
file_keys Three =
    codes "format" ∷ codes "lanes" ∷ codes "turns" ∷ codes "defines" ∷ codes "buffer" ∷ codes "launch" ∷ []

-- of a buffer
abbrev pub buffer_keys : List (List ℕ)
buffer_keys = codes "name" ∷ codes "bytes" ∷ codes "load" ∷ codes "save" ∷ []

-- of an argument
abbrev pub arg_keys : List (List ℕ)
arg_keys = codes "buffer" ∷ codes "value" ∷ codes "local" ∷ []

-- of a launch of a file of format 3
abbrev pub launch_keys : List (List ℕ)
launch_keys = codes "kernel" ∷ codes "global" ∷ codes "local" ∷ codes "offset" ∷ codes "arg" ∷ []

-- the launch has these keys alone, and so have its arguments
abbrev pub knows_launch : Members → Bool
knows_launch members =
    has_only launch_keys members && tables_pass (has_only arg_keys) (get_member (codes "arg") members)

-- each table of the file has the keys of its kind alone
abbrev pub knows_keys : Format → Members → Bool
knows_keys format members =
    (has_only (file_keys format) members && tables_pass (has_only buffer_keys) (get_member (codes "buffer") members))
    && (tables_pass (has_only arg_keys) (get_member (codes "arg") members) &&
    tables_pass knows_launch (get_member (codes "launch") members))

-- a table has a key that the file's format does not name; a file of no format is read as one of format 1
abbrev pub has_unknown_key : Members → Bool
has_unknown_key members = not (knows_keys (unwrap_or (format_in members) One) members)

-- a buffer has this name
abbrev pub is_named : List ℕ → BufferText → Bool
is_named name buffer = bytes_eq buffer.name name

-- two buffers have one name
abbrev pub named_twice : List BufferText → Bool
named_twice [] = false
named_twice (buffer ∷ buffers) = list_any (is_named buffer.name) buffers || named_twice buffers

-- a name is this one
abbrev pub is_this : List ℕ → Option (List ℕ) → Bool
is_this name None = false
is_this name (Some other) = bytes_eq other name

-- a later buffer is saved by the name, where there is one
abbrev pub saved_again : Option (List ℕ) → List BufferText → Bool
saved_again None buffers = false
saved_again (Some name) buffers = list_any (λ b. is_this name b.save) buffers

-- two buffers have one `save`
abbrev pub saved_twice : List BufferText → Bool
saved_twice [] = false
saved_twice (buffer ∷ buffers) = saved_again buffer.save buffers || saved_twice buffers

-- the option's number, or the file's, or the one that holds where none is given
abbrev pub chosen : Option ℕ → Option ℤ → ℕ → ℤ
chosen (Some n) in_file other = pos n
chosen None (Some z) other = z
chosen None None other = pos other

-- the number of lanes
abbrev pub chosen_lanes : Option ℕ → Values → ℤ
chosen_lanes lanes values = chosen lanes values.lanes 8

-- the number of turns
abbrev pub chosen_turns : Option ℕ → Values → ℤ
chosen_turns turns values = chosen turns values.turns 100000000

-- 1, 4, 8 or 16
abbrev pub is_lane_count : ℤ → Bool
is_lane_count (pos n) = (n == 1 || n == 4) || (n == 8 || n == 16)
is_lane_count (negsuc n) = false

-- at least 0 and at most 10^12
abbrev pub is_turn_count : ℤ → Bool
is_turn_count (pos n) = nat_le n 1000000000000
is_turn_count (negsuc n) = false

-- at least 1 and at most 16
abbrev pub is_launch_count : ℕ → Bool
is_launch_count n = nat_le 1 n && nat_le n 16

-- a condition: the refusal, and whether it stands
pub record Condition : Type 0 where
  pub refusal : Refusal
  pub stands : Bool

-- the first that stands
abbrev pub first_of : List Condition → Option Refusal
first_of [] = None
first_of (c ∷ cs) = if c.stands then Some c.refusal else first_of cs

-- a condition
abbrev pub when : Refusal → Bool → Condition
when r stands = record { refusal = r; stands = stands }

-- the conditions on the values, in order
abbrev pub value_conditions : Option ℕ → Option ℕ → Values → List Condition
value_conditions lanes turns values =
    when refusal.BufferNamedTwice (named_twice values.buffers)
    ∷ when refusal.SavedTwice (saved_twice values.buffers)
    ∷ when refusal.Lanes (not (is_lane_count (chosen_lanes lanes values)))
    ∷ when refusal.Turns (not (is_turn_count (chosen_turns turns values)))
    ∷ when refusal.Launches (not (is_launch_count (length values.list)))
    ∷ []

-- behind them, where the table has values
abbrev pub later_conditions : Option ℕ → Option ℕ → Option Values → List Condition
later_conditions lanes turns None = []
later_conditions lanes turns (Some values) = value_conditions lanes turns values

-- the conditions on a document, in order
abbrev pub conditions : Members → Option ℕ → Option ℕ → List Condition
conditions members lanes turns =
    when refusal.UnknownKey (has_unknown_key members)
    ∷ when refusal.KeyMissing (is_none (values_in members))
    ∷ later_conditions lanes turns (values_in members)

-- the first condition that stands
abbrev pub refusal_of : Members → Option ℕ → Option ℕ → Option Refusal
refusal_of members lanes turns = first_of (conditions members lanes turns)

-- the values are those of the text, with the lanes and turns that are chosen
pub record Says (lanes turns : Option ℕ) (values : Values) (text : Text) : Type 0 where
  pub same_defines : text.defines ≡ values.defines
  pub same_lanes : pos text.lanes ≡ chosen_lanes lanes values
  pub same_turns : pos text.turns ≡ chosen_turns turns values
  pub same_buffers : text.buffers ≡ values.buffers
  pub same_several : text.several ≡ values.several
  pub same_list : text.list ≡ values.list

-- no condition stands on the document, and the text is its values
pub record IsRead (members : Members) (lanes turns : Option ℕ) (text : Text) : Type 0 where
  pub accepted : refusal_of members lanes turns ≡ None
  pub values : Values
  pub are_its : values_in members ≡ Some values
  pub says : Says lanes turns values text

-- the launch file and the two options say this
pub record Reads (bytes : List ℕ) (lanes turns : Option ℕ) (text : Text) : Type 0 where
  pub members : Members
  pub document : IsDocument bytes members
  pub read : IsRead members lanes turns text

-- this condition is the first that stands
pub data IsRefused (bytes : List ℕ) (lanes turns : Option ℕ) : Refusal → Type 0 where
  no_document : IsNoDocument bytes → IsRefused bytes lanes turns refusal.NotToml
  in_document : (members : Members) (first : Refusal) → IsDocument bytes members →
      refusal_of members lanes turns ≡ Some first → IsRefused bytes lanes turns first
