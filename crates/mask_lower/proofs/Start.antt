-- What the memory in which a launch starts has at each object.
use Rattle.std.proofs.Common.{◌≡◌, ℕ, zero, suc, ◌+◌, ◌*◌, ◌<◌, List, [], ◌∷◌, ◌++◌, length, map, Some, slice_get}
use Rattle.std.proofs.Common.{refl, sym, ap, ◌∙◌, arith, length-append, suc-mul}
use Rattle.std.specs.Prelude.{slice_index_or, unwrap_or, replicate}
use Rattle.std.proofs.lemmas.List.{length-map}
use Rattle.work_items.specs.Memory.{Memory, bytes_of}
use Rattle.cl_model.specs.Tree.{Table, Program}
use Rattle.cl_model.specs.Sizes.{Launch, group_count, item_count}
use Rattle.cl_model.specs.Objects.{local_sizes, private_sizes, zeros, copies, start_memory, first_table, first_local}
use Rattle.cl_model.specs.Objects.{first_private}
use Rattle.cl_model.specs.Fitting.{FitBuffers}
use Rattle.kir.specs.Tree.{Kernel}
use Rattle.kir.specs.Steps.{shell_of}

-- ---- lists

pub get_front : {A : Type 0} (a b : List A) (o : ℕ) → o < length a → slice_get (a ++ b) o ≡ slice_get a o
get_front [] b o lt = absurd (omega arith)
get_front (x ∷ a) b zero lt = refl
get_front (x ∷ a) b (suc o) lt = get_front a b o (omega arith)

pub get_back : {A : Type 0} (a b : List A) (o : ℕ) → slice_get (a ++ b) (length a + o) ≡ slice_get b o
get_back [] b o = let e : 0 + o ≡ o = omega arith in ap (λ k. slice_get b k) e
get_back (x ∷ a) b o = let e : length (x ∷ a) + o ≡ suc (length a + o) =
    omega arith in ap (λ k. slice_get (x ∷ (a ++ b)) k) e ∙ get_back a b o

pub index_get : {A : Type 0} (xs : List A) (i : ℕ) (d : A) → slice_index_or xs i d ≡ unwrap_or (slice_get xs i) d
index_get [] i d = refl
index_get (x ∷ xs) zero d = refl
index_get (x ∷ xs) (suc i) d = index_get xs i d

pub length-copies : (n : ℕ) (xs : Memory) → length (copies n xs) ≡ n * length xs
length-copies zero xs = let e : 0 ≡ 0 * length xs = omega arith in e
length-copies (suc n) xs = let a = length-append xs (copies n xs) in let b = length-copies n xs in let c =
    suc-mul n (length xs) in omega (arith, a, b, c)

-- one of several copies
pub get_copy : (n : ℕ) (xs : Memory) (i j : ℕ) → i < n → j < length xs →
    slice_get (copies n xs) (i * length xs + j) ≡ slice_get xs j
get_copy zero xs i j lt lt' = absurd (omega arith)
get_copy (suc n) xs zero j lt lt' = let e : 0 * length xs + j ≡ j =
    omega arith in ap (λ k. slice_get (xs ++ copies n xs) k) e ∙ get_front xs (copies n xs) j lt'
get_copy (suc n) xs (suc i) j lt lt' =
    let c = suc-mul i (length xs) in
    let e : suc i * length xs + j ≡ length xs + (i * length xs + j) = omega (arith, c) in
    ap (λ k. slice_get (xs ++ copies n xs) k) e ∙ get_back xs (copies n xs) (i * length xs + j) ∙
    get_copy n xs i j (omega arith) lt'

pub get_map : {A B : Type 0} (f : A → B) (xs : List A) (i : ℕ) (d : A) → i < length xs →
    slice_get (map f xs) i ≡ Some (f (slice_index_or xs i d))
get_map f [] i d lt = absurd (omega arith)
get_map f (x ∷ xs) zero d lt = refl
get_map f (x ∷ xs) (suc i) d lt = get_map f xs i d (omega arith)

pub get_replicate : {A : Type 0} (n : ℕ) (x : A) (i : ℕ) (d : A) → i < n → slice_index_or (replicate n x) i d ≡ x
get_replicate zero x i d lt = absurd (omega arith)
get_replicate (suc n) x zero d lt = refl
get_replicate (suc n) x (suc i) d lt = get_replicate n x i d (omega arith)

-- ---- the start

module _ (kernel : Kernel) (launch : Launch) (buffers : Memory) (fit : FitBuffers launch buffers) where
  abbrev Shell : Program
  Shell = shell_of kernel

  abbrev Tables : Memory
  Tables = map (λ (t : Table). t.bytes) kernel.tables

  abbrev Locals : Memory
  Locals = copies (group_count launch) (map zeros (local_sizes Shell launch))

  abbrev Privates : Memory
  Privates = copies (item_count launch) (map zeros (private_sizes Shell))

  pub start_buffers : length buffers ≡ length launch.lengths
  start_buffers = sym (length-map buffers (λ (b : List ℕ). length b)) ∙ ap length fit

  pub at_buffer : (b : ℕ) → b < length launch.lengths →
      bytes_of (start_memory Shell launch buffers) b ≡ slice_index_or buffers b []
  at_buffer b lt = ap (λ o. unwrap_or o []) (get_front buffers (Tables ++ (Locals ++ Privates)) b
      (let e = start_buffers in omega arith)) ∙ sym (index_get buffers b [])

  behind_buffers : (o : ℕ) → slice_get (start_memory Shell launch buffers) (first_table launch + o) ≡
      slice_get (Tables ++ (Locals ++ Privates)) o
  behind_buffers o = ap (λ k. slice_get (start_memory Shell launch buffers) (k + o)) (sym start_buffers) ∙
      get_back buffers (Tables ++ (Locals ++ Privates)) o

  pub at_table : (n : ℕ) → n < length kernel.tables →
      bytes_of (start_memory Shell launch buffers) (first_table launch + n) ≡ slice_index_or Tables n []
  at_table n lt = ap (λ o. unwrap_or o []) (behind_buffers n ∙
      get_front Tables (Locals ++ Privates) n (let e = length-map kernel.tables (λ (t : Table). t.bytes) in
      omega arith)) ∙ sym (index_get Tables n [])

  behind_tables : (o : ℕ) → slice_get (start_memory Shell launch buffers) (first_table launch + length kernel.tables +
      o) ≡ slice_get (Locals ++ Privates) o
  behind_tables o =
      let e : first_table launch + length kernel.tables + o ≡ first_table launch + (length kernel.tables + o) =
      omega arith in
      ap (λ k. slice_get (start_memory Shell launch buffers) k) e ∙ behind_buffers (length kernel.tables + o)
      ∙ ap (λ k. slice_get (Tables ++ (Locals ++ Privates)) (k + o))
      (sym (length-map kernel.tables (λ (t : Table). t.bytes))) ∙ get_back Tables (Locals ++ Privates) o

  -- a local object of a group
  pub at_local : (group n : ℕ) → group < group_count launch → n < length (local_sizes Shell launch) →
      bytes_of (start_memory Shell launch buffers) (first_local Shell launch group + n) ≡
      zeros (slice_index_or (local_sizes Shell launch) n 0)
  at_local group n lt lt' =
      let sizes = local_sizes Shell launch in
      let many : length (map zeros sizes) ≡ length sizes = length-map sizes zeros in
      let e : first_local Shell launch group + n ≡ first_table launch + length kernel.tables +
      (group * length sizes + n) = omega arith in
      let place : group * length sizes + n ≡ group * length (map zeros sizes) + n =
      ap (λ k. group * k + n) (sym many) in
      let row = Rattle.std.proofs.lemmas.Nat.mul-add-lt group (length (map zeros sizes)) n (group_count launch) lt
      (omega arith) in
      let whole = length-copies (group_count launch) (map zeros sizes) in
      ap (λ o. unwrap_or o [])
      (ap (λ k. slice_get (start_memory Shell launch buffers) k) e ∙ behind_tables (group * length sizes + n) ∙
      ap (λ k. slice_get (Locals ++ Privates) k) place
      ∙ get_front Locals Privates (group * length (map zeros sizes) + n) (omega arith) ∙
      get_copy (group_count launch) (map zeros sizes) group n lt (omega arith) ∙ get_map zeros sizes n 0 lt')

  -- a private object of an item
  pub at_private : (item n : ℕ) → item < item_count launch → n < length (private_sizes Shell) →
      bytes_of (start_memory Shell launch buffers) (first_private Shell launch item + n) ≡
      zeros (slice_index_or (private_sizes Shell) n 0)
  at_private item n lt lt' =
      let sizes = private_sizes Shell in
      let many : length (map zeros sizes) ≡ length sizes = length-map sizes zeros in
      let many' : length (map zeros (local_sizes Shell launch)) ≡ length (local_sizes Shell launch) =
      length-map (local_sizes Shell launch) zeros in
      let whole = length-copies (group_count launch) (map zeros (local_sizes Shell launch)) in
      let same = ap (λ k. group_count launch * k) many' in
      let e : first_private Shell launch item + n ≡ first_table launch + length kernel.tables +
      (length Locals + (item * length sizes + n)) = omega (arith, whole, same) in
      let place : item * length sizes + n ≡ item * length (map zeros sizes) + n = ap (λ k. item * k + n) (sym many) in
      ap (λ o. unwrap_or o [])
      (ap (λ k. slice_get (start_memory Shell launch buffers) k) e ∙
      behind_tables (length Locals + (item * length sizes + n)) ∙
      get_back Locals Privates (item * length sizes + n)
      ∙ ap (λ k. slice_get Privates k) place ∙
      get_copy (item_count launch) (map zeros sizes) item n lt (omega arith) ∙ get_map zeros sizes n 0 lt')
