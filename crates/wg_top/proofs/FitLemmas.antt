-- Launches that are accepted fit their kernels.
use Rattle.std.proofs.Common.{◌≡◌, ℕ, zero, suc, ℤ, pos, ◌+◌, ◌<◌, ◌≤◌, ◌==◌, ◌&&◌, Bool, true, false, List, [], ◌∷◌}
use Rattle.std.proofs.Common.{length, map, Some, inl, inr, refl, sym, zero-add, ◌∙◌, ap, subst, arith}
use Rattle.std.specs.Prelude.{slice_get, slice_index_or, nat_le, bytes_eq, sum}
use Rattle.std.specs.List.{list_any}
use Rattle.std.specs.Ordering.{int_eq}
use Rattle.std.proofs.lemmas.Bool.{or_parts, cases_Bool, eqb-true, ltb-false, leb-true}
use Rattle.std.proofs.lemmas.Bool.Decides.{Decides-int_eq}
use Rattle.std.proofs.lemmas.List.{length-map, get_or_past}
use Rattle.wg_num.specs.Wrap.{wrap_of, IsValue}
use Rattle.wg_num.proofs.WrapLaws.{IsValue-wrap}
use Rattle.wg_num.specs.declared.types.IntType.{IntType}
use Rattle.cl_model.specs.declared.program.Root.{Root}
use Rattle.cl_model.specs.declared.program.Space.TheVariants as spaces
use Rattle.cl_model.specs.declared.program.VarKind.{VarKind}
use Rattle.cl_model.specs.declared.program.VarKind.TheVariants.{Scalar, Pointer}
use Rattle.cl_model.specs.declared.launch.Bound.TheVariants as bound
use Rattle.cl_model.specs.Sizes.{Launch, offset_at}
use Rattle.cl_model.specs.Objects.{local_arguments}
use Rattle.cl_model.specs.Fitting.{ArgumentFits, ArgumentsFit, DimensionFits}
use Rattle.cl_prep.proofs.Tables.{same_bytes, bytes_same}
use Rattle.cl_check_sound.proofs.Functions.{slice_map}
use Rattle.lane_code.specs.Fits.{LaunchFits}
use Rattle.launch_file.specs.declared.text.BufferText.{BufferText}
use Rattle.launch_file.specs.declared.text.ArgText.{ArgText}
use Rattle.launch_file.specs.declared.text.ArgText.TheVariants as arg
use Rattle.launch_file.specs.Binding as spec
use Rattle.launch_file.specs.Refusals.{is_named}
use Rattle.launch_file.specs.Texts.{Part}
use Rattle.launch_file.specs.Values.{HasOneLength}
use Rattle.wg_compile.proofs.Sums.{sum-cons}
use Rattle.launch_file.proofs.Accepted.{Accepts, sizes_fit, number_in, not_not}

-- ---- the arguments

arg_fits : (launch : Launch) (buffers : List BufferText) → length launch.lengths ≡ length buffers →
    (kind : VarKind) (a : ArgText) → spec.kind_wrong kind a ≡ false → spec.value_wrong kind a ≡ false →
    spec.is_unlisted buffers a ≡ false → ArgumentFits launch kind (spec.bound_of buffers a)
arg_fits launch buffers many (Scalar t) (arg.Value z) kind value listed =
    let same : wrap_of t z ≡ z = (Decides-int_eq (wrap_of t z) z).0 (not_not (int_eq (wrap_of t z) z) value) in
    subst (λ (v : ℤ). IsValue t v) same (IsValue-wrap t z)
arg_fits launch buffers many (Scalar t) (arg.Buffer name) kind value listed = let never : ⊥ = cc kind in absurd never
arg_fits launch buffers many (Scalar t) (arg.Local z) kind value listed = let never : ⊥ = cc kind in absurd never
arg_fits launch buffers many (Pointer spaces.Global element root) (arg.Buffer name) kind value listed =
    omega (arith, number_in name buffers (not_not (list_any (is_named name) buffers) listed))
arg_fits launch buffers many (Pointer spaces.Constant element root) (arg.Buffer name) kind value listed =
    omega (arith, number_in name buffers (not_not (list_any (is_named name) buffers) listed))
arg_fits launch buffers many (Pointer spaces.Local element root) (arg.Local z) kind value listed = tt
arg_fits launch buffers many (Pointer spaces.Global element root) (arg.Value z) kind value listed = let never : ⊥ =
    cc kind in absurd never
arg_fits launch buffers many (Pointer spaces.Global element root) (arg.Local z) kind value listed = let never : ⊥ =
    cc kind in absurd never
arg_fits launch buffers many (Pointer spaces.Constant element root) (arg.Value z) kind value listed = let never : ⊥ =
    cc kind in absurd never
arg_fits launch buffers many (Pointer spaces.Constant element root) (arg.Local z) kind value listed = let never : ⊥ =
    cc kind in absurd never
arg_fits launch buffers many (Pointer spaces.Local element root) (arg.Value z) kind value listed = let never : ⊥ =
    cc kind in absurd never
arg_fits launch buffers many (Pointer spaces.Local element root) (arg.Buffer name) kind value listed = let never : ⊥ =
    cc kind in absurd never
arg_fits launch buffers many (Pointer spaces.Private element root) (arg.Value z) kind value listed = let never : ⊥ =
    cc kind in absurd never
arg_fits launch buffers many (Pointer spaces.Private element root) (arg.Buffer name) kind value listed =
    let never : ⊥ = cc kind in absurd never
arg_fits launch buffers many (Pointer spaces.Private element root) (arg.Local z) kind value listed = let never : ⊥ =
    cc kind in absurd never

args_fit : (launch : Launch) (buffers : List BufferText) → length launch.lengths ≡ length buffers →
    (kinds : List VarKind) (args : List ArgText) → length args ≡ length kinds →
    spec.some_pair spec.kind_wrong kinds args ≡ false → spec.some_pair spec.value_wrong kinds args ≡ false →
    list_any (spec.is_unlisted buffers) args ≡ false → ArgumentsFit launch kinds (map (spec.bound_of buffers) args)
args_fit launch buffers many [] [] count kinds_fit values listed = tt
args_fit launch buffers many [] (a ∷ args) count kinds_fit values listed = absurd (omega arith)
args_fit launch buffers many (kind ∷ kinds) [] count kinds_fit values listed = absurd (omega arith)
args_fit launch buffers many (kind ∷ kinds) (a ∷ args) count kinds_fit values listed =
    let k = or_parts (spec.kind_wrong kind a) (spec.some_pair spec.kind_wrong kinds args) kinds_fit in
    let v = or_parts (spec.value_wrong kind a) (spec.some_pair spec.value_wrong kinds args) values in
    let l = or_parts (spec.is_unlisted buffers a) (list_any (spec.is_unlisted buffers) args) listed in
    (arg_fits launch buffers many kind a k.0 v.0 l.0, args_fit launch buffers many kinds args (omega arith) k.1 v.1 l.1)

-- ---- no buffer is constant and global

-- a test that holds of no pair does not hold of one
pair_at : (test : VarKind → ArgText → Bool) (kinds : List VarKind) (args : List ArgText) (n : ℕ) (kind : VarKind)
    (a : ArgText) → spec.some_pair test kinds args ≡ false → slice_get kinds n ≡ Some kind →
    slice_get args n ≡ Some a → test kind a ≡ false
pair_at test [] args n kind a none in_kinds in_args = let never : ⊥ = cc in_kinds in absurd never
pair_at test (k ∷ kinds) [] n kind a none in_kinds in_args = let never : ⊥ = cc in_args in absurd never
pair_at test (k ∷ kinds) (b ∷ args) zero kind a none in_kinds in_args =
    let kind_is : k ≡ kind = cc in_kinds in
    let arg_is : b ≡ a = cc in_args in
    subst (λ (x : VarKind). test x a ≡ false) kind_is (subst (λ (y : ArgText). test k y ≡ false) arg_is
    (or_parts (test k b) (spec.some_pair test kinds args) none).0)
pair_at test (k ∷ kinds) (b ∷ args) (suc n) kind a none in_kinds in_args =
    pair_at test kinds args n kind a (or_parts (test k b) (spec.some_pair test kinds args) none).1 in_kinds in_args

-- and not of the later ones
list_at : (test : ArgText → Bool) (args : List ArgText) (n : ℕ) (a : ArgText) → list_any test args ≡ false →
    slice_get args n ≡ Some a → test a ≡ false
list_at test [] n a none there = let never : ⊥ = cc there in absurd never
list_at test (b ∷ args) zero a none there = let same : b ≡ a =
    cc there in subst (λ (y : ArgText). test y ≡ false) same (or_parts (test b) (list_any test args) none).0
list_at test (b ∷ args) (suc n) a none there =
    list_at test args n a (or_parts (test b) (list_any test args) none).1 there

-- the buffer of a number has the name that has the number
record HasName (buffers : List BufferText) (number : ℕ) (name : List ℕ) : Type 0 where
  buffer : BufferText
  there : slice_get buffers number ≡ Some buffer
  named : buffer.name ≡ name

has_name : (name : List ℕ) (buffers : List BufferText) → list_any (is_named name) buffers ≡ true →
    HasName buffers (spec.number_of name buffers) name
has_name name [] among = let never : ⊥ = cc among in absurd never
has_name name (buffer ∷ buffers) among = elim (cases_Bool (is_named name buffer)) [
  | inl here ↦
      let first : spec.number_of name (buffer ∷ buffers) ≡ 0 = rw here refl in
      subst (λ (n : ℕ). HasName (buffer ∷ buffers) n name) (sym first) (record {
        buffer = buffer;
        there = refl;
        named = same_bytes buffer.name name here;
      })
  | inr other ↦
      let later : list_any (is_named name) buffers ≡ true = rw other at among in
      let next : spec.number_of name (buffer ∷ buffers) ≡ suc (spec.number_of name buffers) = rw other refl in
      let has = has_name name buffers later in
      subst (λ (n : ℕ). HasName (buffer ∷ buffers) n name) (sym next) (record {
        buffer = has.buffer;
        there = has.there;
        named = has.named;
      })
]

-- two names with one number are one
one_name : (buffers : List BufferText) (a b : List ℕ) → list_any (is_named a) buffers ≡ true →
    list_any (is_named b) buffers ≡ true → spec.number_of a buffers ≡ spec.number_of b buffers → a ≡ b
one_name buffers a b in_a in_b same =
    let x = has_name a buffers in_a in
    let y = subst (λ (n : ℕ). HasName buffers n b) (sym same) (has_name b buffers in_b) in
    let e : Some x.buffer ≡ Some y.buffer = sym x.there ∙ y.there in
    let one : x.buffer ≡ y.buffer = cc e in
    sym x.named ∙ (ap (λ c. c.name) one ∙ y.named)

-- the argument that is bound to a buffer names it
record Names (buffers : List BufferText) (args : List ArgText) (n b : ℕ) : Type 0 where
  name : List ℕ
  there : slice_get args n ≡ Some (arg.Buffer name)
  number_is : spec.number_of name buffers ≡ b

names_buffer : (buffers : List BufferText) (args : List ArgText) (n b : ℕ) (a : ArgText) → slice_get args n ≡ Some a →
    spec.bound_of buffers a ≡ bound.Buffer b → Names buffers args n b
names_buffer buffers args n b (arg.Buffer name) there is = record { name = name; there = there; number_is = cc is }
names_buffer buffers args n b (arg.Value z) there is = let never : ⊥ = cc is in absurd never
names_buffer buffers args n b (arg.Local z) there is = let never : ⊥ = cc is in absurd never

apart : (buffers : List BufferText) (kinds : List VarKind) (args : List ArgText) →
    spec.some_pair (spec.is_shared kinds args) kinds args ≡ false → list_any (spec.is_unlisted buffers) args ≡ false
    → (n m b : ℕ) (element element' : IntType) (root root' : Root) →
    slice_get kinds n ≡ Some (Pointer spaces.Constant element root) →
    slice_get (map (spec.bound_of buffers) args) n ≡ Some (bound.Buffer b)
    → slice_get kinds m ≡ Some (Pointer spaces.Global element' root') →
    slice_get (map (spec.bound_of buffers) args) m ≡ Some (bound.Buffer b) → ⊥
apart buffers kinds args none listed n m b element element' root root' constant first global second =
    let f = slice_map (spec.bound_of buffers) args n (bound.Buffer b) first in
    let s = slice_map (spec.bound_of buffers) args m (bound.Buffer b) second in
    let x = names_buffer buffers args n b f.0 f.1 f.2 in
    let y = names_buffer buffers args m b s.0 s.1 s.2 in
    let shared : spec.some_pair (spec.is_global_named x.name) kinds args ≡ false =
    pair_at (spec.is_shared kinds args) kinds args n (Pointer spaces.Constant element root) (arg.Buffer x.name)
    none constant x.there in
    let other : bytes_eq y.name x.name ≡ false =
    pair_at (spec.is_global_named x.name) kinds args m (Pointer spaces.Global element' root') (arg.Buffer y.name)
    shared global y.there in
    let in_x = not_not (list_any (is_named x.name) buffers)
    (list_at (spec.is_unlisted buffers) args n (arg.Buffer x.name) listed x.there) in
    let in_y = not_not (list_any (is_named y.name) buffers)
    (list_at (spec.is_unlisted buffers) args m (arg.Buffer y.name) listed y.there) in
    let same : y.name ≡ x.name = one_name buffers y.name x.name in_y in_x (y.number_is ∙ sym x.number_is) in
    let equal : bytes_eq y.name x.name ≡ true = bytes_same y.name x.name same in
    let never : ⊥ = cc (other, equal) in never

-- ---- the sizes

first_true : (x y : Bool) → (x && y) ≡ true → x ≡ true
first_true true y h = refl
first_true false y h = let e : false ≡ true = h in let never : ⊥ = cc e in absurd never

second_true : (x y : Bool) → (x && y) ≡ true → y ≡ true
second_true true y h = h
second_true false y h = let e : false ≡ true = h in let never : ⊥ = cc e in absurd never

record Lengths (part : Part) : Type 0 where
  some : 1 ≤ length part.global
  few : length part.global ≤ 3
  local : length part.local ≡ length part.global
  offset : length part.offset ≡ length part.global

lengths : (part : Part) → HasOneLength part → Lengths part
lengths part one =
    let a = first_true (nat_le 1 (length part.global) && nat_le (length part.global) 3) _ one in
    let b = second_true (nat_le 1 (length part.global) && nat_le (length part.global) 3) _ one in
    record {
      some = leb-true 1 (length part.global) (first_true (nat_le 1 (length part.global)) _ a);
      few = leb-true (length part.global) 3 (second_true (nat_le 1 (length part.global)) _ a);
      local =
          eqb-true (length part.local) (length part.global) (first_true (length part.local == length part.global) _ b);
      offset = eqb-true (length part.offset) (length part.global)
          (second_true (length part.local == length part.global) _ b);
    }

-- a number that is not there
past : (numbers : List ℤ) (d : ℕ) (other : ℤ) → length numbers ≤ d →
    spec.count_of (slice_index_or numbers d other) ≡ spec.count_of other
past numbers d other out = ap spec.count_of (get_or_past numbers d other out)

-- the offset of a bound launch in a dimension
abbrev pub AreSmall : Launch → Type 0
AreSmall launch = (d : ℕ) → d < 3 → offset_at launch.offset d ≤ 9223372036854775807

dimension : (turns : ℕ) (buffers : List BufferText) (part : Part) → spec.sizes_wrong part ≡ false → Lengths part →
    AreSmall (spec.launch_in turns buffers part) → (d : ℕ) → d < 3 → DimensionFits (spec.launch_in turns buffers part) d
dimension turns buffers part right have small zero lt =
    let fit = sizes_fit part right in
    record {
      some_local = fit.first.some_local;
      some_global = fit.first.some_global;
      divides = fit.first.divides;
      offset = small zero lt;
      absent = λ (out : length part.global ≤ 0). (
        past part.global 0 (pos 1) (omega arith),
        past part.local 0 (pos 1) (omega (arith, have.local)),
        past part.offset 0 (pos 0) (omega (arith, have.offset)),
      );
    }
dimension turns buffers part right have small (suc zero) lt =
    let fit = sizes_fit part right in
    record {
      some_local = fit.second.some_local;
      some_global = fit.second.some_global;
      divides = fit.second.divides;
      offset = small (suc zero) lt;
      absent = λ (out : length part.global ≤ 1). (
        past part.global 1 (pos 1) (omega arith),
        past part.local 1 (pos 1) (omega (arith, have.local)),
        past part.offset 1 (pos 0) (omega (arith, have.offset)),
      );
    }
dimension turns buffers part right have small (suc (suc zero)) lt =
    let fit = sizes_fit part right in
    record {
      some_local = fit.third.some_local;
      some_global = fit.third.some_global;
      divides = fit.third.divides;
      offset = small (suc (suc zero)) lt;
      absent = λ (out : length part.global ≤ 2). (
        past part.global 2 (pos 1) (omega arith),
        past part.local 2 (pos 1) (omega (arith, have.local)),
        past part.offset 2 (pos 0) (omega (arith, have.offset)),
      );
    }
dimension turns buffers part right have small (suc (suc (suc d))) lt = absurd (omega arith)

-- ---- the bytes of local memory

local_sum : (buffers : List BufferText) (args : List ArgText) →
    sum (local_arguments (map (spec.bound_of buffers) args)) ≡ spec.total (λ a. spec.count_of (spec.local_bytes_of a))
    args
local_sum buffers [] = refl
local_sum buffers (arg.Buffer name ∷ args) =
    local_sum buffers args ∙ sym (zero-add (spec.total (λ a. spec.count_of (spec.local_bytes_of a)) args))
local_sum buffers (arg.Value z ∷ args) =
    local_sum buffers args ∙ sym (zero-add (spec.total (λ a. spec.count_of (spec.local_bytes_of a)) args))
local_sum buffers (arg.Local z ∷ args) =
    sum-cons (spec.count_of z) (local_arguments (map (spec.bound_of buffers) args)) ∙
    ap (λ n. spec.count_of z + n) (local_sum buffers args)

-- an accepted launch fits its kernel, what the kernel declares in local memory aside
pub fits_kernel : (needs : spec.Needs) (turns : ℕ) (buffers : List BufferText) (part : Part) →
    Accepts needs buffers part → HasOneLength part → AreSmall (spec.launch_in turns buffers part) →
    LaunchFits needs.kinds 0 (spec.launch_in turns buffers part)
fits_kernel needs turns buffers part ok one small =
    let have = lengths part one in
    let fit = sizes_fit part ok.sizes in
    let many : length (map (λ b. spec.count_of b.bytes) buffers) ≡ length buffers =
    length-map buffers (λ b. spec.count_of b.bytes) in
    let loads : length (map (λ b. b.load) buffers) ≡ length buffers = length-map buffers (λ b. b.load) in
    let saves : length (map (λ b. b.save) buffers) ≡ length buffers = length-map buffers (λ b. b.save) in
    let within : needs.local_bytes + spec.total (λ a. spec.count_of (spec.local_bytes_of a)) part.args ≤ 65536 =
    ltb-false 65536 _ (or_parts (list_any (λ a. spec.is_below_zero (spec.local_bytes_of a)) part.args) _
    ok.local).1 in
    record {
      arguments = args_fit (spec.launch_in turns buffers part) buffers many needs.kinds part.args
          (eqb-true (length part.args) (length needs.kinds) ok.count) ok.kinds ok.values ok.listed;
      apart = apart buffers needs.kinds part.args ok.apart ok.listed;
      few_dims = (have.some, have.few);
      dimensions = dimension turns buffers part ok.sizes have small;
      group_limit = fit.group;
      item_limit = fit.items;
      loads = loads ∙ sym many;
      saves = saves ∙ sym many;
      local_limit = omega (arith, within, local_sum buffers part.args);
    }
