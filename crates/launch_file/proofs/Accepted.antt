-- What an accepted launch is, condition by condition.
use Rattle.std.proofs.Common.{◌≡◌, ℕ, zero, suc, ℤ, pos, ◌%◌, ◌<◌, ◌≤◌, ◌==◌, ◌||◌, Bool, true, false, not, List, []}
use Rattle.std.proofs.Common.{◌∷◌, length, get_or, None, inl, inr, refl, arith}
use Rattle.std.specs.Prelude.{nat_lt}
use Rattle.std.specs.List.{list_any}
use Rattle.std.proofs.lemmas.Bool.{or_parts, cases_Bool, eqb-true, ltb-false}
use Rattle.cl_model.specs.Sizes.{product}
use Rattle.launch_file.specs.declared.text.BufferText.{BufferText}
use Rattle.launch_file.specs.declared.refusal.Refusal.{Refusal}
use Rattle.launch_file.specs.declared.refusal.Refusal.TheVariants as refusal
use Rattle.launch_file.specs.Refusals.{Condition, when, first_of, is_named}
use Rattle.launch_file.specs.Texts.{Part}
use Rattle.launch_file.specs.Binding as spec

-- where none stands, the first does not
pub first_none : (r : Refusal) (stands : Bool) (later : List Condition) →
    first_of (when r stands ∷ later) ≡ None → (stands ≡ false) × (first_of later ≡ None)
first_none r false later none = (refl, none)
first_none r true later none = absurd (let never : ⊥ = cc in never)

-- no condition stands on the launch
pub record Accepts (needs : spec.Needs) (buffers : List BufferText) (part : Part) : Type 0 where
  pub sizes : spec.sizes_wrong part ≡ false
  pub count : (length part.args == length needs.kinds) ≡ true
  pub kinds : spec.some_pair spec.kind_wrong needs.kinds part.args ≡ false
  pub values : spec.some_pair spec.value_wrong needs.kinds part.args ≡ false
  pub listed : list_any (spec.is_unlisted buffers) part.args ≡ false
  pub apart : spec.some_pair (spec.is_shared needs.kinds part.args) needs.kinds part.args ≡ false
  pub required : spec.is_another_size (spec.three_sizes part.local) needs.required ≡ false
  pub local : spec.local_wrong needs part ≡ false
  pub buffers_fit : spec.buffers_wrong buffers ≡ false

-- twice denied
pub not_not : (b : Bool) → not b ≡ false → b ≡ true
not_not true is = refl
not_not false is = absurd (let never : ⊥ = cc in never)

pub accepts : (needs : spec.Needs) (buffers : List BufferText) (part : Part) →
    spec.launch_refusal needs buffers part ≡ None → Accepts needs buffers part
accepts needs buffers part none =
    let from_buffers = when refusal.Buffers (spec.buffers_wrong buffers) ∷ [] in
    let from_local = when refusal.LocalMemory (spec.local_wrong needs part) ∷ from_buffers in
    let from_required = when refusal.RequiredSize
    (spec.is_another_size (spec.three_sizes part.local) needs.required) ∷ from_local in
    let from_shared = when refusal.ConstantBufferShared
    (spec.some_pair (spec.is_shared needs.kinds part.args) needs.kinds part.args) ∷ from_required in
    let from_unknown = when refusal.UnknownBuffer (list_any (spec.is_unlisted buffers) part.args) ∷ from_shared in
    let from_values = when refusal.ValueOutOfRange
    (spec.some_pair spec.value_wrong needs.kinds part.args) ∷ from_unknown in
    let from_kinds = when refusal.ArgumentKind (spec.some_pair spec.kind_wrong needs.kinds part.args) ∷ from_values in
    let from_count = when refusal.ArgumentCount (not (length part.args == length needs.kinds)) ∷ from_kinds in
    let a = first_none refusal.Sizes (spec.sizes_wrong part) from_count none in
    let b = first_none refusal.ArgumentCount (not (length part.args == length needs.kinds)) from_kinds a.1 in
    let c = first_none refusal.ArgumentKind (spec.some_pair spec.kind_wrong needs.kinds part.args) from_values b.1 in
    let d = first_none refusal.ValueOutOfRange
    (spec.some_pair spec.value_wrong needs.kinds part.args) from_unknown c.1 in
    let e = first_none refusal.UnknownBuffer (list_any (spec.is_unlisted buffers) part.args) from_shared d.1 in
    let f = first_none refusal.ConstantBufferShared
    (spec.some_pair (spec.is_shared needs.kinds part.args) needs.kinds part.args) from_required e.1 in
    let g = first_none refusal.RequiredSize (spec.is_another_size (spec.three_sizes part.local) needs.required)
    from_local f.1 in
    let h = first_none refusal.LocalMemory (spec.local_wrong needs part) from_buffers g.1 in
    let i = first_none refusal.Buffers (spec.buffers_wrong buffers) [] h.1 in
    record {
      sizes = a.0;
      count = not_not (length part.args == length needs.kinds) b.0;
      kinds = c.0;
      values = d.0;
      listed = e.0;
      apart = f.0;
      required = g.0;
      local = h.0;
      buffers_fit = i.0;
    }

-- there are at most 64 buffers
pub few_buffers : (needs : spec.Needs) (buffers : List BufferText) (part : Part) →
    spec.launch_refusal needs buffers part ≡ None → length buffers ≤ 64
few_buffers needs buffers part none =
    let fits = (accepts needs buffers part none).buffers_fit in
    let counts = (or_parts (list_any spec.length_wrong buffers) _ fits).1 in
    ltb-false 64 (length buffers) (or_parts (nat_lt 64 (length buffers)) _ counts).0

-- a size in a dimension
pub record IsEven (global local : ℕ) : Type 0 where
  pub some_global : 1 ≤ global
  pub some_local : 1 ≤ local
  pub divides : global % local ≡ 0

some_from : (n : ℕ) → (n == 0) ≡ false → 1 ≤ n
some_from zero apart = absurd (let never : ⊥ = cc in never)
some_from (suc n) apart = omega arith

is_even : (global local : ℕ) → spec.is_uneven global local ≡ false → IsEven global local
is_even global local even =
    let parts = or_parts (global == 0 || local == 0) (not (global % local == 0)) even in
    let sizes = or_parts (global == 0) (local == 0) parts.0 in
    record {
      some_global = some_from global sizes.0;
      some_local = some_from local sizes.1;
      divides = eqb-true (global % local) 0 (not_not _ parts.1);
    }

-- the sizes of an accepted launch
pub record SizesFit (part : Part) (a b c x y z : ℕ) : Type 0 where
  pub first : IsEven a x
  pub second : IsEven b y
  pub third : IsEven c z
  pub group : product (x ∷ y ∷ z ∷ []) ≤ 1024
  pub items : product (a ∷ b ∷ c ∷ []) ≤ 16777216

sizes_at : (part : Part) (a b c x y z : ℕ) →
    (spec.is_uneven a x || (spec.is_uneven b y || (spec.is_uneven c z || false))) ≡ false →
    product (x ∷ y ∷ z ∷ []) ≤ 1024 → product (a ∷ b ∷ c ∷ []) ≤ 16777216 → SizesFit part a b c x y z
sizes_at part a b c x y z even group items =
    let one = or_parts (spec.is_uneven a x) _ even in
    let two = or_parts (spec.is_uneven b y) _ one.1 in
    let three = or_parts (spec.is_uneven c z) false two.1 in
    record {
      first = is_even a x one.0;
      second = is_even b y two.0;
      third = is_even c z three.0;
      group = group;
      items = items;
    }

-- the size in a dimension
abbrev pub size_in : List ℤ → ℕ → ℕ
size_in sizes d = spec.count_of (get_or sizes d (pos 1))

pub sizes_fit : (part : Part) → spec.sizes_wrong part ≡ false →
    SizesFit part (size_in part.global 0) (size_in part.global 1) (size_in part.global 2) (size_in part.local 0)
    (size_in part.local 1) (size_in part.local 2)
sizes_fit part right =
    let p = or_parts (spec.are_uneven (spec.three_sizes part.global) (spec.three_sizes part.local)) _ right in
    let q = or_parts (nat_lt 1024 (product (spec.three_sizes part.local)) ||
    nat_lt 16777216 (product (spec.three_sizes part.global))) _ p.1 in
    let r = or_parts (nat_lt 1024 (product (spec.three_sizes part.local))) _ q.0 in
    sizes_at part _ _ _ _ _ _ p.0 (ltb-false 1024 (product (spec.three_sizes part.local)) r.0)
    (ltb-false 16777216 (product (spec.three_sizes part.global)) r.1)

-- a name that is listed has a number
pub number_in : (name : List ℕ) (buffers : List BufferText) → list_any (is_named name) buffers ≡ true →
    spec.number_of name buffers < length buffers
number_in name [] among = absurd (let never : ⊥ = cc in never)
number_in name (buffer ∷ buffers) among = elim (cases_Bool (is_named name buffer)) [
  | inl here ↦ let first : spec.number_of name (buffer ∷ buffers) ≡ 0 = rw here refl in omega arith
  | inr other ↦
      let later : list_any (is_named name) buffers ≡ true = rw other at among in
      let next : spec.number_of name (buffer ∷ buffers) ≡ suc (spec.number_of name buffers) = rw other refl in
      omega (arith, number_in name buffers later)
]
