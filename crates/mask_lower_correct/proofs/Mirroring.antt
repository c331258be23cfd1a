-- What the code of a group has of the memory after one object was stored to.
use Rattle.std.proofs.Common.{◌≡◌, ◌≢◌, ℕ, ◌+◌, ◌-◌, ◌*◌, ◌<◌, List, [], length, refl, sym, ap, ◌∙◌, subst, ⊎_elim}
use Rattle.std.proofs.Common.{arith}
use Rattle.std.specs.Prelude.{slice_index_or, slice_set}
use Rattle.std.proofs.lemmas.Bool.{cases_eq, cases_lt}
use Rattle.std.proofs.lemmas.List.{get_or-set_same, get_or-set_other, length-set}
use Rattle.work_items.specs.Memory.{Memory, bytes_of}
use Rattle.cl_model.specs.Sizes.{Launch, group_size, group_count, group_of}
use Rattle.cl_model.specs.Objects.{local_sizes, private_sizes, first_table, first_local, first_private}
use Rattle.kir.specs.Tree.{Kernel}
use Rattle.kir.specs.Steps.{shell_of}
use Rattle.lane_code.specs.Groups.{Buffer, LocalObject, with_window}
use Rattle.lane_code.specs.Acts.{State, with_shared, with_group, objects_stored}
use Rattle.lane_laws.proofs.Reading.{with_window_length, before_window, in_window, behind_window}
use Rattle.mask_lower.specs.Layout.{Mirrors, OtherGroupsStay}
use Rattle.mask_lower_correct.specs.Sim.{SameGroup}
use Rattle.mask_lower_correct.proofs.Numbers.{local_private, locals_differ, privates_differ}
use Rattle.mask_lower_correct.proofs.Objects.{group_there}

-- the registers are the same, and the group's code has what is in the memory
pub record Mirrored (kernel : Kernel) (launch : Launch) (group : ℕ) (memory after : Memory) (st st' : State) : Type 0
  where
    pub registers : st'.registers ≡ st.registers
    pub mirrors : Mirrors kernel launch group after st'.group st'.buffers
    pub others : OtherGroupsStay kernel launch group memory after
    pub kept : SameGroup st.group st'.group
    pub rows : (n : ℕ) → n < length st'.group.privates → length (slice_index_or st'.group.privates n []) ≡
        group_size launch

module _ (kernel : Kernel) (launch : Launch) (group : ℕ) (within : group < group_count launch) (memory after : Memory)
    (st : State) (mirrors : Mirrors kernel launch group memory st.group st.buffers)
    (rows : (n : ℕ) → n < length st.group.privates →
    length (slice_index_or st.group.privates n []) ≡ group_size launch) where
  abbrev Same : ℕ → Type 0
  Same y = bytes_of after y ≡ bytes_of memory y

  -- a buffer
  pub buffer_mirrored : (b : ℕ) (bytes : List ℕ) → b < length launch.lengths → bytes_of after b ≡ bytes →
      ((y : ℕ) → b ≢ y → Same y) → Mirrored kernel launch group memory after st (with_shared st (Buffer b) bytes)
  buffer_mirrored b bytes lt there same = record {
    registers = refl;
    mirrors = record {
      private_count = mirrors.private_count;
      local_count = mirrors.local_count;
      same_buffers = λ d ltd. ⊎_elim
          (λ e. ap (bytes_of after) (sym e) ∙ there ∙
          sym (get_or-set_same st.buffers b bytes [] (let c = mirrors.buffer_count in omega arith)) ∙
          ap (λ k. slice_index_or (slice_set st.buffers b bytes) k []) e)
          (λ ne. same d ne ∙ mirrors.same_buffers d ltd ∙
          sym (get_or-set_other st.buffers b d bytes [] (λ h. ne (sym h))))
          (cases_eq b d);
      buffer_count = length-set st.buffers b bytes ∙ mirrors.buffer_count;
      tables = λ n ltn. same (first_table launch + n) (λ e. omega (arith, e)) ∙ mirrors.tables n ltn;
      locals =
          λ n ltn. same (first_local (shell_of kernel) launch group + n) (λ e. omega (arith, e)) ∙ mirrors.locals n ltn;
      privates = λ n i ltn lti. same (first_private (shell_of kernel) launch (group * group_size launch + i) + n)
          (λ e. omega (arith, e)) ∙ mirrors.privates n i ltn lti;
    };
    others = record {
      locals = λ other n lto ne ltn. same (first_local (shell_of kernel) launch other + n) (λ e. omega (arith, e));
      privates = λ item n ne ltn. same (first_private (shell_of kernel) launch item + n) (λ e. omega (arith, e));
    };
    kept = record { columns = refl; entries = refl; exits = refl; votes = refl };
    rows = rows;
  }

  -- a local object
  pub local_mirrored : (n : ℕ) (bytes : List ℕ) → n < length (local_sizes (shell_of kernel) launch) →
      bytes_of after (first_local (shell_of kernel) launch group + n) ≡ bytes →
      ((y : ℕ) → first_local (shell_of kernel) launch group + n ≢ y → Same y)
      → Mirrored kernel launch group memory after st (with_shared st (LocalObject n) bytes)
  local_mirrored n bytes lt there same = record {
    registers = refl;
    mirrors = record {
      private_count = mirrors.private_count;
      local_count = length-set st.group.locals n bytes ∙ mirrors.local_count;
      same_buffers = λ d ltd. same d (λ e. omega (arith, e)) ∙ mirrors.same_buffers d ltd;
      buffer_count = mirrors.buffer_count;
      tables = λ k ltk. same (first_table launch + k) (λ e. omega (arith, e)) ∙ mirrors.tables k ltk;
      locals = λ k ltk. ⊎_elim
          (λ e. ap (λ j. bytes_of after (first_local (shell_of kernel) launch group + j)) (sym e) ∙ there ∙
          sym (get_or-set_same st.group.locals n bytes [] (let c = mirrors.local_count in omega arith)) ∙
          ap (λ j. slice_index_or (slice_set st.group.locals n bytes) j []) e)
          (λ ne. same (first_local (shell_of kernel) launch group + k) (λ h. ne (omega (arith, h))) ∙
          mirrors.locals k ltk ∙ sym (get_or-set_other st.group.locals n k bytes [] (λ h. ne (sym h))))
          (cases_eq n k);
      privates = λ k i ltk lti. same (first_private (shell_of kernel) launch (group * group_size launch + i) + k)
          (local_private kernel launch group n (group * group_size launch + i) k within lt) ∙
          mirrors.privates k i ltk lti;
    };
    others = record {
      locals = λ other k lto ne ltk. same (first_local (shell_of kernel) launch other + k)
          (locals_differ kernel launch group other n k (λ e. ne (sym e)) lt ltk);
      privates = λ item k ne ltk. same (first_private (shell_of kernel) launch item + k)
          (local_private kernel launch group n item k within lt);
    };
    kept = record { columns = refl; entries = refl; exits = refl; votes = refl };
    rows = rows;
  }

  -- an object of each of some items, with consecutive numbers in the group
  pub own_mirrored : (n first : ℕ) (objects : List (List ℕ)) → n < length (private_sizes (shell_of kernel))
      → ((l : ℕ) → l < length objects → first + l < group_size launch →
      bytes_of after (first_private (shell_of kernel) launch (group * group_size launch + (first + l)) + n) ≡
      slice_index_or objects l [])
      → ((y : ℕ) → ((l : ℕ) → l < length objects → first + l < group_size launch →
      first_private (shell_of kernel) launch (group * group_size launch + (first + l)) + n ≢ y) → Same y)
      → Mirrored kernel launch group memory after st (with_group st (objects_stored st.group first n objects))
  own_mirrored n first objects lt there same = record {
    registers = refl;
    mirrors = record {
      private_count = length-set st.group.privates n (with_window row first objects) ∙ mirrors.private_count;
      local_count = mirrors.local_count;
      same_buffers = λ d ltd. same d (λ l a b e. omega (arith, e)) ∙ mirrors.same_buffers d ltd;
      buffer_count = mirrors.buffer_count;
      tables = λ k ltk. same (first_table launch + k) (λ l a b e. omega (arith, e)) ∙ mirrors.tables k ltk;
      locals = λ k ltk. same (first_local (shell_of kernel) launch group + k)
          (λ l a b e. local_private kernel launch group k (group * group_size launch + (first + l)) n within ltk
          (sym e)) ∙ mirrors.locals k ltk;
      privates = λ k i ltk lti. ⊎_elim
          (λ e. subst (λ j. bytes_of after (first_private (shell_of kernel) launch (group * group_size launch + i) +
          j) ≡ slice_index_or (slice_index_or
          (slice_set st.group.privates n (with_window row first objects)) j []) i []) e
          (mine i lti ∙ ap (λ (xs : List (List ℕ)). slice_index_or xs i [])
          (sym (get_or-set_same st.group.privates n (with_window row first objects) [] counted))))
          (λ ne.
          same (first_private (shell_of kernel) launch (group * group_size launch + i) + k)
          (λ l a b. apart l i k ne ltk)
          ∙ mirrors.privates k i ltk lti ∙
          ap (λ (xs : List (List ℕ)). slice_index_or xs i [])
          (sym (get_or-set_other st.group.privates n k (with_window row first objects) [] (λ h. ne (sym h)))))
          (cases_eq n k);
    };
    others = record {
      locals = λ other k lto ne ltk. same (first_local (shell_of kernel) launch other + k)
          (λ l a b e. local_private kernel launch other k (group * group_size launch + (first + l)) n lto ltk (sym e));
      privates = λ item k ne ltk. same (first_private (shell_of kernel) launch item + k)
          (λ l a b. privates_differ kernel launch (group * group_size launch + (first + l)) item n k
          (λ e. ne (ap (group_of launch) (sym e) ∙ group_there launch group (first + l) b)) lt ltk);
    };
    kept = record { columns = refl; entries = refl; exits = refl; votes = refl };
    rows = λ k ltk. ⊎_elim
        (λ e. ap (λ j. length (slice_index_or (slice_set st.group.privates n (with_window row first objects)) j []))
        (sym e) ∙ ap length (get_or-set_same st.group.privates n (with_window row first objects) [] counted) ∙
        with_window_length row first objects ∙ rows n counted)
        (λ ne. ap length (get_or-set_other st.group.privates n k (with_window row first objects) [] (λ h. ne (sym h)))
        ∙ rows k (let c = length-set st.group.privates n (with_window row first objects) in omega arith))
        (cases_eq n k);
  }
    where
      row : List (List ℕ)
      row = slice_index_or st.group.privates n []

      counted : n < length st.group.privates
      counted = let c = mirrors.private_count in omega arith

      row_length : length row ≡ group_size launch
      row_length = rows n counted

      apart : (l i k : ℕ) → n ≢ k → k < length (private_sizes (shell_of kernel)) →
          first_private (shell_of kernel) launch (group * group_size launch + (first + l)) + n ≢
          first_private (shell_of kernel) launch (group * group_size launch + i) + k
      apart l i k ne ltk = ⊎_elim
          (λ same_item. λ e. ne (let x = ap (λ j. first_private (shell_of kernel) launch (group * group_size launch +
          j)) same_item in omega (arith, x, e)))
          (λ other. privates_differ kernel launch (group * group_size launch + (first + l))
          (group * group_size launch + i) n k (λ e. other (omega (arith, e))) lt ltk)
          (cases_eq (first + l) i)

      untouched : (i : ℕ) → ((l : ℕ) → l < length objects → first + l ≢ i) →
          Same (first_private (shell_of kernel) launch (group * group_size launch + i) + n)
      untouched i ne = same (first_private (shell_of kernel) launch (group * group_size launch + i) + n)
          (λ l a b. privates_differ kernel launch (group * group_size launch + (first + l))
          (group * group_size launch + i) n n (λ e. ne l a (omega (arith, e))) lt lt)

      mine : (i : ℕ) → i < group_size launch →
          bytes_of after (first_private (shell_of kernel) launch (group * group_size launch + i) + n) ≡
          slice_index_or (with_window row first objects) i []
      mine i lti = ⊎_elim
          (λ before. untouched i (λ l a e. omega (arith, e)) ∙ mirrors.privates n i lt lti ∙
          sym (before_window row first objects i [] before))
          (λ from. ⊎_elim
          (λ inside.
          let l = i - first in
          let is : first + l ≡ i = omega arith in
          subst (λ j. bytes_of after (first_private (shell_of kernel) launch (group * group_size launch + j) + n) ≡
          slice_index_or (with_window row first objects) j []) is
          (there l (omega arith) (omega arith) ∙
          sym (in_window row first objects l [] (omega arith) (let len = row_length in omega arith))))
          (λ behind. untouched i (λ l a e. omega (arith, e)) ∙ mirrors.privates n i lt lti ∙
          sym (behind_window row first objects i [] behind))
          (cases_lt i (first + length objects)))
          (cases_lt i first)
