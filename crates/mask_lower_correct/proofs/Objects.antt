-- The object that a root names to a lane's item, and what the code of a chunk reaches by it.
use Rattle.std.proofs.Common.{◌≡◌, ℕ, zero, suc, ◌+◌, ◌*◌, ◌<◌, List, [], ◌∷◌, length, filter}
use Rattle.std.proofs.Common.{take, Option, Some, None, slice_get, refl, sym, ap, ◌∙◌, subst, arith, cond}
use Rattle.std.proofs.Common.{length-append, suc-mul, append-nil}
use Rattle.std.specs.Prelude.{nat_eq, if◌then◌else◌}
use Rattle.std.specs.Prelude.{Bool as Test, true, false}
use Rattle.std.proofs.lemmas.Bool.{true≢false, and_parts, eq-eqb, ne_eqb}
use Rattle.std.proofs.lemmas.List.{length-map}
use Rattle.std.proofs.lemmas.Option.{none-some, same_Some, slice_get_within}
use Rattle.std.proofs.Math.Seq.{take-length}
use native.Mathlib.Nat.{div-eq_of_lt-le}
use Rattle.wg_num.specs.declared.types.IntType.{IntType}
use Rattle.wg_num.specs.Types.{same_type}
use Rattle.cl_model.specs.declared.program.Root.{Root}
use Rattle.cl_model.specs.declared.program.Root.TheVariants as root
use Rattle.cl_model.specs.declared.program.Space.{Space}
use Rattle.cl_model.specs.declared.program.Space.TheVariants as space
use Rattle.cl_model.specs.declared.program.VarKind.{VarKind}
use Rattle.cl_model.specs.declared.program.VarKind.TheVariants.{Scalar, Pointer}
use Rattle.cl_model.specs.declared.launch.Bound.{Bound}
use Rattle.cl_model.specs.declared.launch.Bound.TheVariants as bound
use Rattle.cl_model.specs.Tree.{Array, Table}
use Rattle.cl_model.specs.Sizes.{Launch, group_size, group_of}
use Rattle.cl_model.specs.Objects.{is_local, is_private, PlacedArray, placed_from, placed_arrays, local_arrays}
use Rattle.cl_model.specs.Objects.{private_arrays, place_among, local_arguments, local_sizes, private_sizes}
use Rattle.cl_model.specs.Objects.{first_table, first_local, first_private}
use Rattle.cl_model.specs.Fitting.{ArgumentFits, ArgumentsFit, FitsProgram}
use Rattle.kir.specs.Tree.{Kernel}
use Rattle.kir.specs.Fits.{points_to, table_has, array_has, can_load, can_store, points_to_written}
use Rattle.kir.specs.Fits.{is_written}
use Rattle.kir.specs.Steps.{shell_of, Item, object_at}
use Rattle.lane_code.specs.Groups.{Reached, Buffer, Table as TableAt, LocalObject, Own, reached, reached_by}
use Rattle.mask_lower.specs.Registers.{places_from, root_at}
use Rattle.mask_lower.proofs.Roots.{local_root, private_root}

-- what is reached: a buffer, a table, a local object of the group, or an object of the item's own
pub data IsObject (kernel : Kernel) (launch : Launch) (group : ℕ) (r : Root) : Reached → Type 0 where
  a_buffer : (b : ℕ) → b < length launch.lengths → ((i : Item) → object_at kernel launch i r ≡ b) →
      IsObject kernel launch group r (Buffer b)
  a_table : (n : ℕ) → n < length kernel.tables → ((i : Item) → object_at kernel launch i r ≡ first_table launch + n) →
      IsObject kernel launch group r (TableAt n)
  a_local : (n : ℕ) → n < length (local_sizes (shell_of kernel) launch) →
      ((i : Item) → group_of launch i.number ≡ group →
      object_at kernel launch i r ≡ first_local (shell_of kernel) launch group + n) →
      IsObject kernel launch group r (LocalObject n)
  an_own : (n : ℕ) → n < length (private_sizes (shell_of kernel)) →
      ((i : Item) → object_at kernel launch i r ≡ first_private (shell_of kernel) launch i.number + n) →
      IsObject kernel launch group r (Own n)

-- the group of an item
pub group_there : (launch : Launch) (group i : ℕ) → i < group_size launch →
    group_of launch (group * group_size launch + i) ≡ group
group_there launch group i lt =
    let one = suc-mul group (group_size launch) in
    let same : (group + 1) * group_size launch ≡ suc group * group_size launch =
    ap (λ n. n * group_size launch) (Rattle.std.proofs.Common.add-one group) in
    div-eq_of_lt-le (group_size launch) (omega arith) (omega (arith, one, same))

-- a local argument has its place among all
arguments_within : (args : List Bound) (n m : ℕ) → slice_get args n ≡ Some (bound.Local m) →
    length (local_arguments (take n args)) < length (local_arguments args)
arguments_within [] n m e = absurd (none-some _ e)
arguments_within (b ∷ args) zero m e = let is : b ≡ bound.Local m =
    same_Some _ _ e in subst (λ x. 0 < length (local_arguments (x ∷ args))) (sym is) (omega arith)
arguments_within (b ∷ args) (suc n) m e = go b (arguments_within args n m e)
  where
    go : (b : Bound) → length (local_arguments (take n args)) < length (local_arguments args) →
        length (local_arguments (b ∷ take n args)) < length (local_arguments (b ∷ args))
    go (bound.Buffer k) lt = lt
    go (bound.Value v) lt = lt
    go (bound.Local k) lt = omega arith

-- an array that passes a test has its place among those that do
pub place_within : (test : Array → Test) (first : ℕ) (arrays : List Array) (n : ℕ) (a : Array) →
    slice_get arrays n ≡ Some a → test a ≡ true
    → place_among (filter (λ (x : PlacedArray). test x.array) (placed_from [] first arrays)) [] (first + n) <
    length (filter (λ (x : PlacedArray). test x.array) (placed_from [] first arrays))
place_within test first [] n a e t = absurd (none-some a e)
place_within test first (x ∷ rest) zero a e t = go (test x) (ap test (same_Some x a e) ∙ t)
  where
    go : (b : Test) → b ≡ true → place_among (cond b (record {
      path = [];
      number = first;
      array = x;
    } ∷ filter (λ (x : PlacedArray). test x.array) (placed_from [] (suc first) rest))
        (filter (λ (x : PlacedArray). test x.array) (placed_from [] (suc first) rest))) [] (first + 0)
        < length (cond b (record { path = []; number = first; array = x } ∷ filter (λ (x : PlacedArray). test x.array)
        (placed_from [] (suc first) rest))
        (filter (λ (x : PlacedArray). test x.array) (placed_from [] (suc first) rest)))
    go false h = absurd (true≢false (sym h))
    go true h =
        let same : nat_eq first (first + 0) ≡ true = eq-eqb first (first + 0) (omega arith) in
        subst (λ b. (if b then 0 else suc
        (place_among (filter (λ (x : PlacedArray). test x.array) (placed_from [] (suc first) rest)) []
        (first + 0))) < suc (length (filter (λ (x : PlacedArray). test x.array)
        (placed_from [] (suc first) rest)))) (sym same) (omega arith)
place_within test first (x ∷ rest) (suc m) a e t =
    let n : suc first + m ≡ first + suc m = omega arith in
    go (test x) (subst (λ k. place_among
    (filter (λ (x : PlacedArray). test x.array) (placed_from [] (suc first) rest)) [] k <
    length (filter (λ (x : PlacedArray). test x.array) (placed_from [] (suc first) rest))) n
    (place_within test (suc first) rest m a e t))
  where
    go : (b : Test) → place_among (filter (λ (x : PlacedArray). test x.array) (placed_from [] (suc first) rest)) []
        (first + suc m) < length (filter (λ (x : PlacedArray). test x.array) (placed_from [] (suc first) rest))
        → place_among (cond b (record {
          path = [];
          number = first;
          array = x;
        } ∷ filter (λ (x : PlacedArray). test x.array) (placed_from [] (suc first) rest))
        (filter (λ (x : PlacedArray). test x.array) (placed_from [] (suc first) rest))) [] (first + suc m)
        < length (cond b (record { path = []; number = first; array = x } ∷ filter (λ (x : PlacedArray). test x.array)
        (placed_from [] (suc first) rest))
        (filter (λ (x : PlacedArray). test x.array) (placed_from [] (suc first) rest)))
    go false lt = lt
    go true lt =
        let other : nat_eq first (first + suc m) ≡ false = ne_eqb first (first + suc m) (λ e. omega (arith, e)) in
        subst (λ b. (if b then 0 else suc
        (place_among (filter (λ (x : PlacedArray). test x.array) (placed_from [] (suc first) rest)) []
        (first + suc m))) < suc (length
        (filter (λ (x : PlacedArray). test x.array) (placed_from [] (suc first) rest)))) (sym other)
        (omega arith)

-- an argument of a pointer is a buffer of the launch, or local memory
data IsBound (launch : Launch) : Option Bound → Type 0 where
  buffer_bound : (b : ℕ) → b < length launch.lengths → IsBound launch (Some (bound.Buffer b))
  local_bound : (m : ℕ) → IsBound launch (Some (bound.Local m))

pointer_bound : (launch : Launch) (kinds : List VarKind) (args : List Bound) (n : ℕ) (at : Space) (element : IntType)
    (own : Root) → ArgumentsFit launch kinds args → slice_get kinds n ≡ Some (Pointer at element own) →
    IsBound launch (slice_get args n)
pointer_bound launch [] [] n at element own f e = absurd (none-some _ e)
pointer_bound launch [] (b ∷ args) n at element own f e = absurd f
pointer_bound launch (kind ∷ kinds) [] n at element own f e = absurd f
pointer_bound launch (kind ∷ kinds) (b ∷ args) (suc n) at element own f e =
    pointer_bound launch kinds args n at element own f.1 e
pointer_bound launch (kind ∷ kinds) (b ∷ args) zero at element own f e =
    by at b (subst (λ k. ArgumentFits launch k b) (same_Some _ _ e) f.0)
  where
    by : (at : Space) (b : Bound) → ArgumentFits launch (Pointer at element own) b → IsBound launch (Some b)
    by space.Global (bound.Buffer b) h = buffer_bound b h
    by space.Constant (bound.Buffer b) h = buffer_bound b h
    by space.Local (bound.Local m) h = local_bound m
    by space.Private b h = absurd (by_private b h)
      where
        by_private : (b : Bound) → ArgumentFits launch (Pointer space.Private element own) b → ⊥
        by_private (bound.Buffer k) h = h
        by_private (bound.Value v) h = h
        by_private (bound.Local m) h = h
    by space.Global (bound.Value v) h = absurd h
    by space.Global (bound.Local m) h = absurd h
    by space.Constant (bound.Value v) h = absurd h
    by space.Constant (bound.Local m) h = absurd h
    by space.Local (bound.Value v) h = absurd h
    by space.Local (bound.Buffer b) h = absurd h

module _ (kernel : Kernel) (launch : Launch) (fits : FitsProgram (shell_of kernel) launch) (group : ℕ) where
  abbrev Reaches : Root → Type 0
  Reaches r = IsObject kernel launch group r (reached (length (local_arrays (shell_of kernel))) launch
      (root_at (places_from 0 0 kernel.arrays) r))

  shell_arrays : placed_arrays (shell_of kernel) ≡ placed_from [] 0 kernel.arrays
  shell_arrays = append-nil (placed_from [] 0 kernel.arrays)

  many_locals : length (local_sizes (shell_of kernel) launch) ≡ length (local_arrays (shell_of kernel)) +
      length (local_arguments launch.args)
  many_locals = length-append _ _ ∙
      ap (λ k. k + length (local_arguments launch.args)) (length-map (local_arrays (shell_of kernel)) _)

  object_is : (n : ℕ) (o : Option Bound) → slice_get launch.args n ≡ o → (i : Item) →
      object_at kernel launch i (root.Param n) ≡ Rattle.cl_model.specs.Objects.argument_object (shell_of kernel)
      launch (group_of launch i.number) n o
  object_is n o h i =
      ap (Rattle.cl_model.specs.Objects.argument_object (shell_of kernel) launch (group_of launch i.number) n) h

  three_terms : (x y z : ℕ) → x + y + z ≡ x + (y + z)
  three_terms x y z = omega arith

  bound_reaches : (n : ℕ) (o : Option Bound) → IsBound launch o → slice_get launch.args n ≡ o →
      IsObject kernel launch group (root.Param n) (reached_by (length (local_arrays (shell_of kernel))) launch.args n o)
  bound_reaches n _ (buffer_bound b lt) h = a_buffer b lt (λ i. object_is n (Some (bound.Buffer b)) h i)
  bound_reaches n _ (local_bound m) h =
      a_local (length (local_arrays (shell_of kernel)) + length (local_arguments (take n launch.args)))
      (let w = arguments_within launch.args n m h in let many = many_locals in omega arith)
      (λ i in_group. object_is n (Some (bound.Local m)) h i ∙
      ap (λ g. first_local (shell_of kernel) launch g + length (local_arrays (shell_of kernel)) +
      length (local_arguments (take n launch.args))) in_group
      ∙ three_terms (first_local (shell_of kernel) launch group) (length (local_arrays (shell_of kernel)))
      (length (local_arguments (take n launch.args))))

  parameter_reaches : (n : ℕ) (at : Space) (element : IntType) (own : Root) →
      slice_get kernel.params n ≡ Some (Pointer at element own) → Reaches (root.Param n)
  parameter_reaches n at element own e =
      bound_reaches n (slice_get launch.args n) (pointer_bound launch kernel.params launch.args n at element own
      (subst (λ kinds. ArgumentsFit launch kinds launch.args) (take-length kernel.params) fits.arguments) e) refl

  local_reaches : (n : ℕ) (a : Array) → slice_get kernel.arrays n ≡ Some a → is_local a.space ≡ true →
      Reaches (root.Local n)
  local_reaches n a e t =
      subst (λ x. IsObject kernel launch group (root.Local n) (reached (length (local_arrays (shell_of kernel)))
      launch x)) (sym (local_root kernel n a e t))
      (a_local (place_among (local_arrays (shell_of kernel)) [] n)
      (let w = place_within (λ (x : Array). is_local x.space) 0 kernel.arrays n a e t in
      let z : 0 + n ≡ n = omega arith in
      let w' =
      subst (λ k. place_among (filter (λ (x : PlacedArray). is_local x.array.space)
      (placed_from [] 0 kernel.arrays)) [] k <
      length (filter (λ (x : PlacedArray). is_local x.array.space) (placed_from [] 0 kernel.arrays))) z w in
      let w'' = subst (λ xs. place_among (filter (λ (x : PlacedArray). is_local x.array.space) xs) [] n <
      length (filter (λ (x : PlacedArray). is_local x.array.space) xs)) (sym shell_arrays) w' in
      let many = many_locals in omega arith)
      (λ i in_group. ap (λ g. first_local (shell_of kernel) launch g + place_among (local_arrays (shell_of kernel)) []
      n) in_group))

  private_reaches : (n : ℕ) (a : Array) → slice_get kernel.arrays n ≡ Some a → is_private a.space ≡ true →
      Reaches (root.Private n)
  private_reaches n a e t =
      subst (λ x. IsObject kernel launch group (root.Private n) (reached (length (local_arrays (shell_of kernel)))
      launch x)) (sym (private_root kernel n a e t))
      (an_own (place_among (private_arrays (shell_of kernel)) [] n)
      (let w = place_within (λ (x : Array). is_private x.space) 0 kernel.arrays n a e t in
      let z : 0 + n ≡ n = omega arith in
      let w' =
      subst (λ k. place_among (filter (λ (x : PlacedArray). is_private x.array.space)
      (placed_from [] 0 kernel.arrays)) [] k <
      length (filter (λ (x : PlacedArray). is_private x.array.space) (placed_from [] 0 kernel.arrays))) z w in
      let w'' = subst (λ xs. place_among (filter (λ (x : PlacedArray). is_private x.array.space) xs) [] n <
      length (filter (λ (x : PlacedArray). is_private x.array.space) xs)) (sym shell_arrays) w' in
      let many : length (private_sizes (shell_of kernel)) ≡ length (private_arrays (shell_of kernel)) =
      length-map (private_arrays (shell_of kernel)) _ in omega arith)
      (λ i. refl))

  -- what can be loaded from
  pub load_reaches : (r : Root) (element : IntType) → can_load kernel r element ≡ true → Reaches r
  load_reaches (root.Param n) element can = by (slice_get kernel.params n) refl can
    where
      by : (o : Option VarKind) → slice_get kernel.params n ≡ o → points_to element o ≡ true → Reaches (root.Param n)
      by None e h = absurd (true≢false (sym h))
      by (Some (Scalar t)) e h = absurd (true≢false (sym h))
      by (Some (Pointer at t own)) e h = parameter_reaches n at t own e
  load_reaches (root.Constant n) element can = by (slice_get kernel.tables n) refl can
    where
      by : (o : Option Table) → slice_get kernel.tables n ≡ o → table_has element o ≡ true → Reaches (root.Constant n)
      by None e h = absurd (true≢false (sym h))
      by (Some t) e h = a_table n (slice_get_within kernel.tables n t e) (λ i. refl)
  load_reaches (root.Local n) element can = by (slice_get kernel.arrays n) refl can
    where
      by : (o : Option Array) → slice_get kernel.arrays n ≡ o → array_has is_local element o ≡ true →
          Reaches (root.Local n)
      by None e h = absurd (true≢false (sym h))
      by (Some a) e h = local_reaches n a e (and_parts (is_local a.space) (same_type element a.element) h).0
  load_reaches (root.Private n) element can = by (slice_get kernel.arrays n) refl can
    where
      by : (o : Option Array) → slice_get kernel.arrays n ≡ o → array_has is_private element o ≡ true →
          Reaches (root.Private n)
      by None e h = absurd (true≢false (sym h))
      by (Some a) e h = private_reaches n a e (and_parts (is_private a.space) (same_type element a.element) h).0

  -- what can be stored to can be loaded from
  pub store_loads : (r : Root) (element : IntType) → can_store kernel r element ≡ true →
      can_load kernel r element ≡ true
  store_loads (root.Param n) element can = by (slice_get kernel.params n) can
    where
      by : (o : Option VarKind) → points_to_written element o ≡ true → points_to element o ≡ true
      by None h = h
      by (Some (Scalar t)) h = h
      by (Some (Pointer at t own)) h = (and_parts (same_type element t) (is_written at) h).0
  store_loads (root.Constant n) element can = absurd (true≢false (sym can))
  store_loads (root.Local n) element can = can
  store_loads (root.Private n) element can = can

  -- and is no table
  pub store_no_table : (r : Root) (element : IntType) (n : ℕ) → can_store kernel r element ≡ true →
      reached (length (local_arrays (shell_of kernel))) launch (root_at (places_from 0 0 kernel.arrays) r) ≡
      TableAt n → ⊥
  store_no_table (root.Param k) element n can e = by (slice_get launch.args k) e
    where
      by : (o : Option Bound) → reached_by (length (local_arrays (shell_of kernel))) launch.args k o ≡ TableAt n → ⊥
      by None e = cc
      by (Some (bound.Buffer b)) e = cc
      by (Some (bound.Value v)) e = cc
      by (Some (bound.Local m)) e = cc
  store_no_table (root.Constant k) element n can e = true≢false (sym can)
  store_no_table (root.Local k) element n can e = cc
  store_no_table (root.Private k) element n can e = cc

  -- an array that is cleared
  pub clear_reaches : (n : ℕ) → Rattle.kir.specs.Fits.is_private_array (slice_get kernel.arrays n) ≡ true →
      Reaches (root.Private n)
  clear_reaches n can = by (slice_get kernel.arrays n) refl can
    where
      by : (o : Option Array) → slice_get kernel.arrays n ≡ o → Rattle.kir.specs.Fits.is_private_array o ≡ true →
          Reaches (root.Private n)
      by None e h = absurd (true≢false (sym h))
      by (Some a) e h = private_reaches n a e h
