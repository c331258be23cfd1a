-- What the launches of a launch file are refused for once the kernel is known, and what an accepted one is.
use Rattle.std.specs.Prelude.{◌≡◌, ◌&&◌, ◌||◌, ◌==◌, ◌+◌, ◌%◌, ◌≤◌, Bool, true, false, not, nat_lt, bytes_eq, ℕ, suc}
use Rattle.std.specs.Prelude.{ℤ, pos, negsuc, List, [], ◌∷◌, length, map, Option, Some, None, slice_index}
use Rattle.std.specs.Prelude.{slice_index_or, if◌then◌else◌}
use Rattle.std.specs.List.{list_any}
use Rattle.std.specs.Ordering.{int_eq}
use Rattle.wg_num.specs.Wrap.{wrap_of}
use Rattle.cl_model.specs.declared.launch.Bound.{Bound}
use Rattle.cl_model.specs.declared.launch.Bound.TheVariants as bound
use Rattle.cl_model.specs.declared.launch.Launch.{Launch as Bindings}
use Rattle.cl_model.specs.declared.program.Space.TheVariants as space
use Rattle.cl_model.specs.declared.program.VarKind.{VarKind}
use Rattle.cl_model.specs.declared.program.VarKind.TheVariants.{Scalar, Pointer}
use Rattle.cl_model.specs.Sizes.{Launch, product}
use Rattle.cl_model.specs.View.{launch_of}
use Rattle.launch_file.specs.declared.text.BufferText.{BufferText}
use Rattle.launch_file.specs.declared.refusal.Refusal.{Refusal}
use Rattle.launch_file.specs.declared.refusal.Refusal.TheVariants as refusal
use Rattle.launch_file.specs.declared.text.ArgText.{ArgText}
use Rattle.launch_file.specs.declared.text.ArgText.TheVariants as arg
use Rattle.launch_file.specs.Refusals.{Condition, when, first_of, is_named}
use Rattle.launch_file.specs.Texts.{Text, Part}

-- what a kernel asks of its launches: the kinds of its parameters, the bytes of local memory that it declares, and
-- the work-group size that it requires, if it does
pub record Needs : Type 0 where
  pub kinds : List VarKind
  pub local_bytes : ℕ
  pub required : Option (List ℕ)

-- a number of at least 0, and 0 for any other
abbrev pub count_of : ℤ → ℕ
count_of (pos n) = n
count_of (negsuc n) = 0

-- a number that an offset may be
abbrev pub IsOffset : ℕ → Type 0
IsOffset n = n ≤ 9223372036854775807

-- the same of three
abbrev pub AreOffsets : List ℕ → Type 0
AreOffsets ns = IsOffset (slice_index ns 0) × IsOffset (slice_index ns 1) × IsOffset (slice_index ns 2)

-- a number is below 0
abbrev pub is_below_zero : ℤ → Bool
is_below_zero (pos n) = false
is_below_zero (negsuc n) = true

-- three numbers, with this one in each dimension that is not there
abbrev pub padded : ℤ → List ℤ → List ℤ
padded other numbers =
    slice_index_or numbers 0 other ∷ slice_index_or numbers 1 other ∷ slice_index_or numbers 2 other ∷ []

-- the sizes in the three dimensions: 1 in one that the launch does not have
abbrev pub three_sizes : List ℤ → List ℕ
three_sizes sizes = map count_of (padded (pos 1) sizes)

-- the offsets: 0 in one that it does not have
abbrev pub three_offsets : List ℤ → List ℕ
three_offsets offsets = map count_of (padded (pos 0) offsets)

-- in one dimension a size is below 1, or the global size is no multiple of the local size
abbrev pub is_uneven : ℕ → ℕ → Bool
is_uneven global local = (global == 0 || local == 0) || not (global % local == 0)

-- in one of the dimensions
abbrev pub are_uneven : List ℕ → List ℕ → Bool
are_uneven (global ∷ globals) (local ∷ locals) = is_uneven global local || are_uneven globals locals
are_uneven _ _ = false

-- a size is below 1, a global size is no multiple of its local size, a group has more than 1,024 items, the launch
-- has more than 2^24, or an offset is below 0
abbrev pub sizes_wrong : Part → Bool
sizes_wrong part =
    are_uneven (three_sizes part.global) (three_sizes part.local)
    || ((nat_lt 1024 (product (three_sizes part.local)) || nat_lt 16777216 (product (three_sizes part.global)))
    || list_any is_below_zero (padded (pos 0) part.offset))

-- a test of some parameter with its argument
abbrev pub some_pair : (VarKind → ArgText → Bool) → List VarKind → List ArgText → Bool
some_pair test (kind ∷ kinds) (arg ∷ args) = test kind arg || some_pair test kinds args
some_pair test _ _ = false

-- the argument is of another kind: a value is for a number, a buffer for a pointer to global or constant memory, and
-- bytes for one to local memory
abbrev pub kind_wrong : VarKind → ArgText → Bool
kind_wrong (Scalar t) (arg.Value z) = false
kind_wrong (Pointer space.Global element root) (arg.Buffer name) = false
kind_wrong (Pointer space.Constant element root) (arg.Buffer name) = false
kind_wrong (Pointer space.Local element root) (arg.Local z) = false
kind_wrong _ _ = true

-- the argument is a value that its parameter's type does not have: wrapping changes it
abbrev pub value_wrong : VarKind → ArgText → Bool
value_wrong (Scalar t) (arg.Value z) = not (int_eq (wrap_of t z) z)
value_wrong _ _ = false

-- the argument names a buffer that is not listed
abbrev pub is_unlisted : List BufferText → ArgText → Bool
is_unlisted buffers (arg.Buffer name) = not (list_any (is_named name) buffers)
is_unlisted buffers _ = false

-- the parameter points to global memory, and its argument is the buffer of this name
abbrev pub is_global_named : List ℕ → VarKind → ArgText → Bool
is_global_named name (Pointer space.Global element root) (arg.Buffer other) = bytes_eq other name
is_global_named name _ _ = false

-- the parameter points to constant memory, and its argument is bound to a global parameter too
abbrev pub is_shared : List VarKind → List ArgText → VarKind → ArgText → Bool
is_shared kinds args (Pointer space.Constant element root) (arg.Buffer name) =
    some_pair (is_global_named name) kinds args
is_shared kinds args _ _ = false

-- the required work-group size is another
abbrev pub is_another_size : List ℕ → Option (List ℕ) → Bool
is_another_size locals None = false
is_another_size locals (Some (x ∷ y ∷ z ∷ [])) =
    not (slice_index_or locals 0 1 == x && (slice_index_or locals 1 1 == y && slice_index_or locals 2 1 == z))
is_another_size locals (Some _) = true

-- the bytes of local memory that an argument gives
abbrev pub local_bytes_of : ArgText → ℤ
local_bytes_of (arg.Local z) = z
local_bytes_of _ = pos 0

-- the sum of what is counted of each
abbrev pub total : {X : Type 0} → (X → ℕ) → List X → ℕ
total count [] = 0
total count (x ∷ xs) = count x + total count xs

-- the local bytes of an argument are below 0, or more than 65,536 are declared and given together
abbrev pub local_wrong : Needs → Part → Bool
local_wrong needs part =
    list_any (λ a. is_below_zero (local_bytes_of a)) part.args
    || nat_lt 65536 (needs.local_bytes + total (λ a. count_of (local_bytes_of a)) part.args)

-- the bytes of a buffer are below 0 or above 2^26
abbrev pub length_wrong : BufferText → Bool
length_wrong buffer = is_below_zero buffer.bytes || nat_lt 67108864 (count_of buffer.bytes)

-- a buffer's bytes are wrong, there are more than 64 buffers, or they have more than 2^28 bytes together
abbrev pub buffers_wrong : List BufferText → Bool
buffers_wrong buffers =
    list_any length_wrong buffers
    || (nat_lt 64 (length buffers) || nat_lt 268435456 (total (λ b. count_of b.bytes) buffers))

-- the conditions on the arguments, in order, before these
abbrev pub argument_conditions : Needs → List BufferText → Part → List Condition → List Condition
argument_conditions needs buffers part later =
    when refusal.ArgumentCount (not (length part.args == length needs.kinds))
    ∷ when refusal.ArgumentKind (some_pair kind_wrong needs.kinds part.args)
    ∷ when refusal.ValueOutOfRange (some_pair value_wrong needs.kinds part.args)
    ∷ when refusal.UnknownBuffer (list_any (is_unlisted buffers) part.args)
    ∷ when refusal.ConstantBufferShared (some_pair (is_shared needs.kinds part.args) needs.kinds part.args)
    ∷ later

-- the first that stands on the arguments
abbrev pub arguments_refusal : Needs → List BufferText → Part → Option Refusal
arguments_refusal needs buffers part = first_of (argument_conditions needs buffers part [])

-- the conditions on one launch, in order
abbrev pub launch_conditions : Needs → List BufferText → Part → List Condition
launch_conditions needs buffers part =
    when refusal.Sizes (sizes_wrong part)
    ∷ argument_conditions needs buffers part (
    when refusal.RequiredSize (is_another_size (three_sizes part.local) needs.required)
    ∷ when refusal.LocalMemory (local_wrong needs part)
    ∷ when refusal.Buffers (buffers_wrong buffers)
    ∷ [])

-- the first condition that stands on a launch
abbrev pub launch_refusal : Needs → List BufferText → Part → Option Refusal
launch_refusal needs buffers part = first_of (launch_conditions needs buffers part)

-- the number of the first buffer of that name, which is the number of buffers where there is none
abbrev pub number_of : List ℕ → List BufferText → ℕ
number_of name [] = 0
number_of name (buffer ∷ buffers) = if is_named name buffer then 0 else suc (number_of name buffers)

-- what an argument binds
abbrev pub bound_of : List BufferText → ArgText → Bound
bound_of buffers (arg.Buffer name) = bound.Buffer (number_of name buffers)
bound_of buffers (arg.Value z) = bound.Value z
bound_of buffers (arg.Local z) = bound.Local (count_of z)

-- the files of a launch file's buffers: those that they start as, and those that they are saved as
abbrev pub loads_of : List BufferText → List (Option (List ℕ))
loads_of buffers = map (λ b. b.load) buffers

abbrev pub saves_of : List BufferText → List (Option (List ℕ))
saves_of buffers = map (λ b. b.save) buffers

-- their lengths
abbrev pub lengths_of : List BufferText → List ℕ
lengths_of buffers = map (λ b. count_of b.bytes) buffers

-- the launch that a part of a launch file says
abbrev pub launch_in : ℕ → List BufferText → Part → Launch
launch_in turns buffers part = record {
  dims = length part.global;
  global = three_sizes part.global;
  local = three_sizes part.local;
  offset = three_offsets part.offset;
  turns = turns;
  args = map (bound_of buffers) part.args;
  lengths = lengths_of buffers;
  load_count = length (loads_of buffers);
  save_count = length (saves_of buffers);
}

-- the launch is that part of the launch file, over these buffers
pub record IsLaunchOf (turns : ℕ) (buffers : List BufferText) (part : Part) (launch : Bindings) : Type 0 where
  pub is_its : launch_of launch ≡ launch_in turns buffers part
  pub loads : launch.loads.items ≡ loads_of buffers
  pub saves : launch.saves.items ≡ saves_of buffers

-- the launch of a text with that number
abbrev pub part_at : Text → ℕ → Part
part_at text which =
    slice_index_or text.list which (record { kernel = []; global = []; local = []; offset = []; args = [] })

-- no condition stands on that part, and the launch is what it says
pub record Binds (needs : Needs) (text : Text) (part : Part) (launch : Bindings) : Type 0 where
  pub accepted : launch_refusal needs text.buffers part ≡ None
  pub is_its : IsLaunchOf text.turns text.buffers part launch
