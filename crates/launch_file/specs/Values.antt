-- The values of a launch file by its table of keys; none where a needed key is missing or a value is of another kind.
use Rattle.std.specs.Prelude.{◌≡◌, ◌≤◌, ◌&&◌, ◌==◌, Bool, true, false, nat_le, ℕ, ℤ, pos, negsuc, List, [], ◌∷◌}
use Rattle.std.specs.Prelude.{length, replicate, Option, Some, None, option_and_then, option_map, codes, IfSome}
use Rattle.std.specs.Prelude.{IsUtf8, if◌then◌else◌}
use Rattle.std.specs.List.{list_all}
use Rattle.toml.specs.Data.{Data, Items, Members, no_items, item, no_members, member, as_array, as_integer, as_str}
use Rattle.toml.specs.Data.{as_table, get_member}
use Rattle.cl_token.specs.Bytes.{is_name_start, is_name_byte}
use Rattle.cl_prep.specs.declared.prep.Define.{Define}
use Rattle.launch_file.specs.declared.text.BufferText.{BufferText}
use Rattle.launch_file.specs.declared.text.ArgText.{ArgText}
use Rattle.launch_file.specs.declared.text.ArgText.TheVariants as arg
use Rattle.launch_file.specs.declared.format.Format.{Format}
use Rattle.launch_file.specs.declared.format.Format.TheVariants.{One, Two, Three}
use Rattle.launch_file.specs.Keys.{string_at, integer_at, optional_string, optional_integer, given, before}
use Rattle.launch_file.specs.Texts.{Part}

-- the format that a natural number names
abbrev pub format_counted : ℕ → Option Format
format_counted n = if n == 1 then Some One else (if n == 2 then Some Two else (if n == 3 then Some Three else None))

-- the format that a number names
abbrev pub format_numbered : ℤ → Option Format
format_numbered (pos n) = format_counted n
format_numbered (negsuc n) = None

-- the format of a file
abbrev pub format_in : Members → Option Format
format_in members = option_and_then format_numbered (integer_at (codes "format") members)

-- a buffer: its name and its bytes, and the files that it is loaded from and saved to
abbrev pub buffer_of : Members → Option BufferText
buffer_of members =
    given (string_at (codes "name") members) (λ name.
    given (integer_at (codes "bytes") members) (λ bytes.
    given (optional_string (codes "load") members) (λ load.
    given (optional_string (codes "save") members) (λ save.
    Some (record { name = name; bytes = bytes; load = load; save = save })))))

-- each buffer of an array of tables
abbrev pub buffers_of : Items → Option (List BufferText)
buffers_of no_items = Some []
buffers_of (item d ds) = before (given (as_table d) buffer_of) (buffers_of ds)

-- an argument, by the one of its three keys that is there
abbrev pub one_of : Option Data → Option Data → Option Data → Option ArgText
one_of (Some d) None None = option_map arg.Buffer (as_str d)
one_of None (Some d) None = option_map arg.Value (as_integer d)
one_of None None (Some d) = option_map arg.Local (as_integer d)
one_of _ _ _ = None

-- an argument: a buffer by its name, a value, or bytes of local memory
abbrev pub arg_of : Members → Option ArgText
arg_of members = one_of (get_member (codes "buffer") members) (get_member (codes "value") members)
    (get_member (codes "local") members)

-- each argument of an array of tables
abbrev pub args_of : Items → Option (List ArgText)
args_of no_items = Some []
args_of (item d ds) = before (given (as_table d) arg_of) (args_of ds)

-- none where the key is absent
abbrev pub optional_args : Option Data → Option (List ArgText)
optional_args None = Some []
optional_args (Some d) = given (as_array d) args_of

-- none where the key is absent
abbrev pub optional_buffers : Option Data → Option (List BufferText)
optional_buffers None = Some []
optional_buffers (Some d) = given (as_array d) buffers_of

-- an identifier of the language
abbrev pub is_identifier : List ℕ → Bool
is_identifier [] = false
is_identifier (b ∷ bs) = is_name_start b && list_all is_name_byte bs

-- a number of at least 0
abbrev pub natural : ℤ → Option ℕ
natural (pos n) = Some n
natural (negsuc n) = None

-- a name that is given with the source, and its number
unfoldable pub define_of : List ℕ → Data → Option Define
define_of key d = given (option_and_then natural (as_integer d))
    (λ n. if is_identifier key then Some (record { name = key; value = n }) else None)

-- the given names of a table
abbrev pub defines_of : Members → Option (List Define)
defines_of no_members = Some []
defines_of (member key d members) = before (define_of key d) (defines_of members)

-- none where the key is absent
abbrev pub optional_defines : Option Data → Option (List Define)
optional_defines None = Some []
optional_defines (Some d) = given (as_table d) defines_of

-- the integers of an array
abbrev pub integers_of : Items → Option (List ℤ)
integers_of no_items = Some []
integers_of (item d ds) = before (as_integer d) (integers_of ds)

-- sizes or offsets: in format 1 an integer, in the others an array of integers
abbrev pub sizes_of : Format → Data → Option (List ℤ)
sizes_of One d = option_map (λ z. z ∷ []) (as_integer d)
sizes_of Two d = given (as_array d) integers_of
sizes_of Three d = given (as_array d) integers_of

-- offsets, which are zeros in each dimension where the key is absent
abbrev pub offsets_of : Format → List ℤ → Option Data → Option (List ℤ)
offsets_of format sizes None = Some (replicate (length sizes) (pos 0))
offsets_of format sizes (Some d) = sizes_of format d

-- one length from 1 to 3
abbrev pub have_one_length : List ℤ → List ℤ → List ℤ → Bool
have_one_length global local offset =
    (nat_le 1 (length global) && nat_le (length global) 3) &&
    ((length local == length global) && (length offset == length global))

-- a launch
abbrev pub part_in : Format → Members → Option Part
part_in format members =
    given (string_at (codes "kernel") members) (λ kernel.
    given (given (get_member (codes "global") members) (sizes_of format)) (λ global.
    given (given (get_member (codes "local") members) (sizes_of format)) (λ local.
    given (offsets_of format global (get_member (codes "offset") members)) (λ offset.
    given (optional_args (get_member (codes "arg") members)) (λ args.
    if have_one_length global local offset then Some (record {
      kernel = kernel;
      global = global;
      local = local;
      offset = offset;
      args = args;
    }) else None)))))

-- each launch of an array of tables
abbrev pub parts_of : Items → Option (List Part)
parts_of no_items = Some []
parts_of (item d ds) = before (given (as_table d) (part_in Three)) (parts_of ds)

-- the one launch of a file of format 1 or 2, and the launches of one of format 3
abbrev pub launches_in : Format → Members → Option (List Part)
launches_in One members = option_map (λ part. part ∷ []) (part_in One members)
launches_in Two members = option_map (λ part. part ∷ []) (part_in Two members)
launches_in Three members = given (given (get_member (codes "launch") members) as_array) parts_of

-- a file of the format lists its launches
abbrev pub has_several : Format → Bool
has_several One = false
has_several Two = false
has_several Three = true

-- the sizes and the offset of a launch have one length from 1 to 3
abbrev pub HasOneLength : Part → Type 0
HasOneLength part = have_one_length part.global part.local part.offset ≡ true

-- the names of a buffer's files are texts
abbrev pub HasTexts : BufferText → Type 0
HasTexts buffer = IfSome buffer.load IsUtf8 × IfSome buffer.save IsUtf8

-- the number of a given name is one that a document has: below 2^63
abbrev pub HasNumber : Define → Type 0
HasNumber define = define.value ≤ 9223372036854775807

-- the values of a file
pub record Values : Type 0 where
  pub lanes : Option ℤ
  pub turns : Option ℤ
  pub defines : List Define
  pub buffers : List BufferText
  pub several : Bool
  pub list : List Part

-- the values of a table
abbrev pub values_in : Members → Option Values
values_in members =
    given (format_in members) (λ format.
    given (optional_integer (codes "lanes") members) (λ lanes.
    given (optional_integer (codes "turns") members) (λ turns.
    given (optional_defines (get_member (codes "defines") members)) (λ defines.
    given (optional_buffers (get_member (codes "buffer") members)) (λ buffers.
    given (launches_in format members) (λ list.
    Some (record {
      lanes = lanes;
      turns = turns;
      defines = defines;
      buffers = buffers;
      several = has_several format;
      list = list;
    })))))))
