-- The code of a clearing line makes the arrays of its active lanes' items zeros, as the items do.
use Rattle.std.proofs.Common.{◌≡◌, ◌≢◌, ℕ, zero, suc, ◌+◌, ◌*◌, ◌<◌, pos, List, [], ◌∷◌, length, map, filter}
use Rattle.std.proofs.Common.{Option, Some, None, refl, sym, ap, ◌∙◌, subst, arith, cond}
use Rattle.std.specs.Prelude.{slice_get, slice_index_or, unwrap_or, nat_eq, nat_le, if◌then◌else◌}
use Rattle.std.specs.Prelude.{Bool as Test, true, false}
use Rattle.std.proofs.lemmas.Bool.{true≢false, and_parts, eq-eqb, ne_eqb, lt-ltb, le-leb}
use Rattle.std.proofs.lemmas.List.{length-map, length-replicate}
use Rattle.std.proofs.lemmas.Option.{none-some, same_Some}
use Rattle.work_items.specs.Memory.{Memory, bytes_of, first_byte, has_element, overwritten}
use Rattle.cl_model.specs.declared.program.Root.{Root}
use Rattle.cl_model.specs.declared.program.Root.TheVariants as root
use Rattle.cl_model.specs.Tree.{Array}
use Rattle.cl_model.specs.Steps.{no_array}
use Rattle.cl_model.specs.Objects.{is_private, array_bytes, PlacedArray, placed_from, placed_arrays, private_arrays}
use Rattle.cl_model.specs.Objects.{private_sizes, place_among, zeros, start_memory, first_private}
use Rattle.cl_model.specs.Sizes.{Launch, group_size, item_count}
use Rattle.kir.specs.declared.line.Atom.{Atom}
use Rattle.kir.specs.Tree.{ClearThen, Kernel}
use Rattle.kir.specs.Places.{Behind, Tasks, LinesAt}
use Rattle.kir.specs.Fits.{is_private_array}
use Rattle.kir.specs.Steps.{shell_of, Item, object_at, array_size}
use Rattle.kir.specs.Meaning.{machine_of}
use Rattle.lane_code.specs.declared.step.Step.{Step}
use Rattle.lane_code.specs.declared.step.Step.TheVariants as step
use Rattle.lane_code.specs.declared.code.Counts.{Counts}
use Rattle.lane_code.specs.Registers.{Registers, mask_of}
use Rattle.lane_code.specs.Fits.{is_code}
use Rattle.lane_code.specs.Groups.{Group, window, own_cleared}
use Rattle.lane_code.specs.Acts.{State, with_own}
use Rattle.lane_code.specs.Meaning.{Ended}
use Rattle.lane_laws.proofs.Reading.{window_read, window_length}
use Rattle.lane_laws.proofs.Steps.{on_step}
use Rattle.group_moves.specs.Stages.{Stage}
use Rattle.group_moves.specs.Lanes.{IsLane}
use Rattle.group_moves.proofs.Runs.{leads_then}
use Rattle.group_moves.proofs.Histories.{leads_lengths}
use Rattle.kir_moves.specs.Leads.{past_clear}
use Rattle.kir_moves.specs.Stand.{start_stage}
use Rattle.kir_moves.proofs.Live.{live_leads}
use Rattle.mask_lower.specs.Banks.{mask_reg}
use Rattle.mask_lower.specs.Layout.{kernel_chunk, lane_root}
use Rattle.mask_lower.specs.Following.{ChunkOf}
use Rattle.mask_lower.specs.Registers.{Frame, places_from, root_at}
use Rattle.mask_lower.proofs.Roots.{private_root}
use Rattle.mask_lower_correct.specs.Framed.{IsFramed}
use Rattle.mask_lower_correct.specs.Sim.{Ground, IsGood, Sim, Closed}
use Rattle.mask_lower_correct.proofs.View.{code_well, mask_length}
use Rattle.mask_lower_correct.proofs.Standing.{good_there}
use Rattle.mask_lower_correct.proofs.Bytes.{memory_below, below_other, below_own}
use Rattle.mask_lower_correct.proofs.Numbers.{privates_differ}
use Rattle.mask_lower.proofs.Start.{at_private}
use Rattle.mask_lower_correct.proofs.Objects.{place_within}
use Rattle.mask_lower_correct.proofs.Mirroring.{own_mirrored}
use Rattle.mask_lower_correct.proofs.Soundness.{Accesses}
use Rattle.mask_lower_correct.proofs.Loads.{lane_item, number_is}
use Rattle.mask_lower_correct.proofs.Stores.{stores_move}

-- ---- zeros

pub zeros_over : (xs : List ℕ) (n : ℕ) → length xs ≡ n → overwritten xs 0 (zeros n) ≡ map (λ b. 0) xs
zeros_over [] zero e = refl
zeros_over [] (suc n) e = refl
zeros_over (x ∷ xs) zero e = absurd (omega arith)
zeros_over (x ∷ xs) (suc n) e = ap (λ ys. 0 ∷ ys) (zeros_over xs n (omega arith))

own_cleared_read : (mask : List Test) (objects : List (List ℕ)) (l : ℕ) → length mask ≡ length objects →
    l < length mask → slice_index_or (own_cleared mask objects) l [] ≡ cond (slice_index_or mask l false)
    (map (λ b. 0) (slice_index_or objects l [])) (slice_index_or objects l [])
own_cleared_read [] objects l e lt = absurd (omega arith)
own_cleared_read (on ∷ mask) [] l e lt = absurd (omega arith)
own_cleared_read (on ∷ mask) (bytes ∷ objects) zero e lt = refl
own_cleared_read (on ∷ mask) (bytes ∷ objects) (suc l) e lt =
    own_cleared_read mask objects l (omega arith) (omega arith)

own_cleared_length : (mask : List Test) (objects : List (List ℕ)) → length mask ≡ length objects →
    length (own_cleared mask objects) ≡ length objects
own_cleared_length [] objects e = refl
own_cleared_length (on ∷ mask) [] e = absurd (omega arith)
own_cleared_length (on ∷ mask) (bytes ∷ objects) e = ap suc (own_cleared_length mask objects (omega arith))

-- an array that passes a test has its bytes at its place
place_reads : (test : Array → Test) (first : ℕ) (arrays : List Array) (n : ℕ) (a : Array) →
    slice_get arrays n ≡ Some a → test a ≡ true
    → slice_index_or (map (λ (x : PlacedArray). array_bytes x.array)
    (filter (λ (x : PlacedArray). test x.array) (placed_from [] first arrays)))
    (place_among (filter (λ (x : PlacedArray). test x.array) (placed_from [] first arrays)) [] (first + n)) 0 ≡
    array_bytes a
place_reads test first [] n a e t = absurd (none-some a e)
place_reads test first (x ∷ rest) zero a e t = go (test x) (ap test (same_Some x a e) ∙ t)
  where
    more : List PlacedArray
    more = filter (λ (x : PlacedArray). test x.array) (placed_from [] (suc first) rest)

    go : (b : Test) → b ≡ true → slice_index_or (map (λ (x : PlacedArray). array_bytes x.array)
        (cond b (record { path = []; number = first; array = x } ∷ more) more))
        (place_among (cond b (record { path = []; number = first; array = x } ∷ more) more) [] (first + 0)) 0 ≡
        array_bytes a
    go false h = absurd (true≢false (sym h))
    go true h =
        let same : nat_eq first (first + 0) ≡ true = eq-eqb first (first + 0) (omega arith) in
        ap (λ b. slice_index_or (array_bytes x ∷ map (λ (x : PlacedArray). array_bytes x.array) more)
        (if b then 0 else suc (place_among more [] (first + 0))) 0) same ∙ ap array_bytes (same_Some x a e)
place_reads test first (x ∷ rest) (suc m) a e t =
    let n : suc first + m ≡ first + suc m = omega arith in
    go (test x) (ap (λ k. slice_index_or (map (λ (x : PlacedArray). array_bytes x.array)
    (filter (λ (x : PlacedArray). test x.array) (placed_from [] (suc first) rest)))
    (place_among (filter (λ (x : PlacedArray). test x.array) (placed_from [] (suc first) rest)) [] k) 0)
    (sym n) ∙ place_reads test (suc first) rest m a e t)
  where
    more : List PlacedArray
    more = filter (λ (x : PlacedArray). test x.array) (placed_from [] (suc first) rest)

    go : (b : Test) → slice_index_or (map (λ (x : PlacedArray). array_bytes x.array) more)
        (place_among more [] (first + suc m)) 0 ≡ array_bytes a
        → slice_index_or (map (λ (x : PlacedArray). array_bytes x.array) (cond b (record {
          path = [];
          number = first;
          array = x;
        } ∷ more) more)) (place_among (cond b (record {
          path = [];
          number = first;
          array = x;
        } ∷ more) more) [] (first + suc m)) 0 ≡ array_bytes a
    go false h = h
    go true h =
        let other : nat_eq first (first + suc m) ≡ false = ne_eqb first (first + suc m) (λ e. omega (arith, e)) in
        ap (λ b. slice_index_or (array_bytes x ∷ map (λ (x : PlacedArray). array_bytes x.array) more)
        (if b then 0 else suc (place_among more [] (first + suc m))) 0) other ∙ h

private_number : Root → ℕ
private_number (root.Param n) = n
private_number (root.Constant n) = n
private_number (root.Local n) = n
private_number (root.Private n) = n

number_there : (kernel : Kernel) (n : ℕ) → root_at (places_from 0 0 kernel.arrays) (root.Private n) ≡
    lane_root kernel (root.Private n) → slice_index_or (places_from 0 0 kernel.arrays) n 0 ≡
    place_among (private_arrays (shell_of kernel)) [] n
unfolding private_number
number_there kernel n e = ap private_number e

first_zero : (n : ℕ) → first_byte n (pos 0) ≡ 0
first_zero n = grind arith

whole_fits : (n : ℕ) → nat_le ((0 + 1) * n) n ≡ true
whole_fits n = le-leb ((0 + 1) * n) n (grind arith)

module _ (kernel : Kernel) (launch : Launch) (width : ℕ) (chunk : ChunkOf kernel launch width) (turns : ℕ)
    (w0 : Stage Item) (g0 : Group) (f : Frame) (counts : Counts) (r0 : Registers) (ground : Ground kernel launch w0)
    (atoms : List Atom) (framed : IsFramed kernel f atoms) (code : List Step) (valid : is_code counts code ≡ true)
    (Good : Ended → Type 0) (Sites : ℕ →
    Type 0) (Goal : Tasks) (closed : Closed kernel launch width chunk turns w0 Sites Goal Good)
    (arrays_are : f.arrays ≡ places_from 0 0 kernel.arrays) where
  abbrev AtStage : ℕ → (ℕ → Tasks) → State → Stage Item → Type 0
  AtStage = Sim kernel launch width chunk turns w0 g0 f counts r0

  abbrev EndFrom : ℕ → ℕ → State → Ended
  EndFrom t p st =
      Rattle.lane_code.specs.Meaning.code_end (kernel_chunk kernel launch width chunk.group chunk.first) code t p st

  abbrev item_at : Stage Item → ℕ → Item
  item_at w l = w.items (chunk.lanes.first + l)

  pub clear_runs : (array : ℕ) → Accesses kernel launch width chunk turns w0 g0 f counts r0 ground atoms framed code
      valid Good Sites Goal closed (ClearThen array) (λ next m. step.Clear (slice_index_or f.arrays array 0)
      (mask_reg m))
  clear_runs array m p t next a T at rest k st w has fit lanes go =
      by (slice_get kernel.arrays array) refl (and_parts (is_private_array (slice_get kernel.arrays array)) true
      fit.fits).0
    where
      by : (o : Option Array) → slice_get kernel.arrays array ≡ o → is_private_array o ≡ true → Good (EndFrom t p st)
      by None e h = absurd (true≢false (sym h))
      by (Some arr) e h =
          on_step mine code Good t p s st all has refl (go all moved.0 moved.1 refl)
        where
          mine : Rattle.lane_code.specs.Acts.Chunk
          mine = kernel_chunk kernel launch width chunk.group chunk.first

          n : ℕ
          n = slice_index_or f.arrays array 0

          s : Step
          s = step.Clear n (mask_reg m)

          P : ℕ
          P = place_among (private_arrays (shell_of kernel)) [] array

          n_is : n ≡ P
          n_is = ap (λ x. slice_index_or x array 0) arrays_are ∙
              number_there kernel array (private_root kernel array arr e h)

          shell_arrays : placed_arrays (shell_of kernel) ≡ placed_from [] 0 kernel.arrays
          shell_arrays = Rattle.std.proofs.Common.append-nil (placed_from [] 0 kernel.arrays)

          in_row : n < length (private_sizes (shell_of kernel))
          in_row =
              let w = place_within (λ (x : Array). is_private x.space) 0 kernel.arrays array arr e h in
              let z : 0 + array ≡ array = omega arith in
              let w' =
              subst (λ k. place_among (filter (λ (x : PlacedArray). is_private x.array.space)
              (placed_from [] 0 kernel.arrays)) [] k <
              length (filter (λ (x : PlacedArray). is_private x.array.space) (placed_from [] 0 kernel.arrays)))
              z w in
              let w'' = subst (λ xs. place_among (filter (λ (x : PlacedArray). is_private x.array.space) xs) []
              array < length (filter (λ (x : PlacedArray). is_private x.array.space) xs)) (sym shell_arrays) w' in
              let many : length (private_sizes (shell_of kernel)) ≡ length (private_arrays (shell_of kernel)) =
              length-map (private_arrays (shell_of kernel)) _ in
              let same = n_is in omega arith

          size_is : slice_index_or (private_sizes (shell_of kernel)) n 0 ≡ array_size kernel array
          size_is =
              let z : 0 + array ≡ array = omega arith in
              ap (λ k. slice_index_or (private_sizes (shell_of kernel)) k 0) n_is
              ∙
              ap (λ xs. slice_index_or (map (λ (x : PlacedArray). array_bytes x.array)
              (filter (λ (x : PlacedArray). is_private x.array.space) xs))
              (place_among (filter (λ (x : PlacedArray). is_private x.array.space) xs) [] array) 0) shell_arrays
              ∙
              ap (λ k. slice_index_or (map (λ (x : PlacedArray). array_bytes x.array)
              (filter (λ (x : PlacedArray). is_private x.array.space) (placed_from [] 0 kernel.arrays)))
              (place_among (filter (λ (x : PlacedArray). is_private x.array.space)
              (placed_from [] 0 kernel.arrays)) [] k) 0) (sym z)
              ∙ place_reads (λ (x : Array). is_private x.space) 0 kernel.arrays array arr e h
              ∙ ap (λ o. array_bytes (unwrap_or o no_array)) (sym e)

          N : ℕ
          N = array_size kernel array

          good : (l : ℕ) → IsGood kernel (chunk.lanes.first + l) (item_at w l)
          good l = good_there kernel launch width chunk turns w0 g0 f counts r0 ground w lanes.sim.reached
              (chunk.lanes.first + l)

          object : ℕ → ℕ
          object l = object_at kernel launch (item_at w l) (root.Private array)

          object_is : (l : ℕ) → object l ≡ first_private (shell_of kernel) launch (chunk.group * group_size launch +
              (chunk.first + l)) + n
          object_is l =
              ap (λ x. first_private (shell_of kernel) launch (item_at w l).number + x) (sym n_is)
              ∙ ap (λ x. first_private (shell_of kernel) launch x + n)
              (number_is kernel launch width chunk turns w0 g0 f counts r0 ground atoms framed code valid Good
              Sites Goal closed arrays_are l (item_at w l) (good l))

          lane_of : (l : ℕ) → l < width → a l ≡ true → IsLane chunk.lanes l
          lane_of l lt set = ((let wi = chunk.is_chunk.width_is in omega arith), lanes.alive l set)

          -- the object of a lane's item has as many bytes as the array
          object_length : (l : ℕ) → IsLane chunk.lanes l → length (bytes_of w.memory (object l)) ≡ N
          object_length l lane =
              let leads = leads_then (machine_of kernel launch) (item_count launch)
              (start_stage kernel launch ground.buffers) w0 w ground.leads lanes.sim.reached.by in
              let inside = chunk.lanes.inside l lane.0 lane.1 in
              let first = chunk.is_chunk.first_is in
              leads_lengths (machine_of kernel launch) (item_count launch) (start_stage kernel launch ground.buffers)
              w leads (object l)
              ∙ ap (λ o. length (bytes_of (start_memory (shell_of kernel) launch ground.buffers) o)) (object_is l)
              ∙ ap length (at_private kernel launch ground.buffers ground.fit (chunk.group * group_size launch +
              (chunk.first + l)) n (omega arith) in_row)
              ∙ length-replicate (slice_index_or (private_sizes (shell_of kernel)) n 0) 0 ∙ size_is

          row : List (List ℕ)
          row = slice_index_or st.group.privates n []

          before : (l : ℕ) → IsLane chunk.lanes l →
              bytes_of w.memory (object l) ≡ slice_index_or row (chunk.first + l) []
          before l lane = ap (bytes_of w.memory) (object_is l) ∙
              lanes.sim.mirrors.privates n (chunk.first + l) in_row (lane_item kernel launch width chunk turns w0 g0 f
              counts r0 ground atoms framed code valid Good Sites Goal closed arrays_are l lane)

          objects : List (List ℕ)
          objects = window [] row chunk.first width

          active : List Test
          active = mask_of st.registers (mask_reg m)

          active_length : length active ≡ width
          active_length = mask_length counts width st.registers lanes.sim.shape m (code_well counts code p s valid has)

          objects_length : length objects ≡ width
          objects_length = window_length [] row chunk.first width

          all : State
          all = with_own mine st n (own_cleared active objects)

          after : Memory
          after = memory_below w.memory a object (λ l. pos 0) (λ l. zeros N) width

          differ : (i l : ℕ) → i ≢ l → object i ≡ object l → ⊥
          differ i l ne same = privates_differ kernel launch (chunk.group * group_size launch + (chunk.first + i))
              (chunk.group * group_size launch + (chunk.first + l)) n n (λ q. ne (omega (arith, q))) in_row in_row
              (sym (object_is i) ∙ same ∙ object_is l)

          cleared : (l : ℕ) → IsLane chunk.lanes l →
              overwritten (bytes_of w.memory (object l)) (first_byte (length (zeros N)) (pos 0)) (zeros N) ≡
              map (λ b. 0) (bytes_of w.memory (object l))
          cleared l lane = ap (λ q. overwritten (bytes_of w.memory (object l)) q (zeros N))
              (first_zero (length (zeros N))) ∙ zeros_over (bytes_of w.memory (object l)) N (object_length l lane)

          moved : (w' : Stage Item) × AtStage t (λ l. cond (a l) (LinesAt (Behind ∷ at) rest k) (T l)) all w'
          moved =
              stores_move kernel launch width chunk turns w0 g0 f counts r0 ground atoms framed code valid Good Sites
              Goal closed arrays_are m t 0 a T (LinesAt at (ClearThen array rest) k)
              (LinesAt (Behind ∷ at) rest k) st all w object (λ l. pos 0) (λ l. zeros N) lanes
              (λ l lane set. refl)
              (λ l lane set. ap (λ q. has_element q (length (zeros N)) (pos 0)) (object_length l lane) ∙
              ap (λ q. nat_le ((0 + 1) * q) N) (length-replicate N 0) ∙ whole_fits N)
              (λ c live. live_leads c (LinesAt at (ClearThen array rest) k) (LinesAt (Behind ∷ at) rest k) past_clear
              refl live)
              (own_mirrored kernel launch chunk.group chunk.within w.memory after st lanes.sim.mirrors lanes.sim.rows
              n chunk.first (own_cleared active objects) in_row
              (λ l ltl inside.
              let len = own_cleared_length active objects (active_length ∙ sym objects_length) ∙ objects_length in
              let ltw : l < width = omega arith in
              let lane : IsLane chunk.lanes l = (
                (let wi = chunk.is_chunk.width_is in omega arith),
                chunk.is_chunk.alive_is l ∙
                    lt-ltb (chunk.first + l) (group_size launch) inside,
              ) in
              ap (bytes_of after) (sym (object_is l))
              ∙ below_own w.memory a object (λ l. pos 0) (λ l. zeros N) width l ltw (λ i lti ne q. differ i l ne q)
              ∙ ap (λ ys. cond (a l) ys (bytes_of w.memory (object l))) (cleared l lane)
              ∙ ap (λ (bs : List ℕ). cond (a l) (map (λ b. 0) bs) bs) (before l lane ∙
              sym (window_read [] row chunk.first width l [] ltw))
              ∙ ap (λ b. cond b (map (λ b. 0) (slice_index_or objects l [])) (slice_index_or objects l []))
              (sym (lanes.mask l ltw))
              ∙ sym (own_cleared_read active objects l (active_length ∙ sym objects_length) (let q = active_length in
              omega arith)))
              (λ y apart. below_other w.memory a object (λ l. pos 0) (λ l. zeros N) width y
              (λ l ltl set q. apart l (let len = own_cleared_length active objects (active_length ∙
              sym objects_length) ∙ objects_length in
              omega arith) (lane_item kernel launch width chunk turns w0 g0 f counts r0 ground atoms framed
              code valid Good Sites Goal closed arrays_are l (lane_of l ltl set)) (sym (object_is l) ∙ q))))
