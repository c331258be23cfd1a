-- How a region's code ends: the homes of live cells get their values.
use Rattle.std.proofs.Common.{◌≡◌, ℕ, ◌+◌, ◌-◌, ◌<◌, ℤ, List, [], ◌∷◌, ◌++◌, length, Option, Some, None, slice_get}
use Rattle.std.proofs.Common.{refl, sym, ap, ◌∙◌, subst, ⊎_elim, ◌⊎◌, inl, inr, arith, cond, length-append}
use Rattle.std.specs.Prelude.{slice_index_or, slice_set, nat_lt, ◌&&◌}
use Rattle.std.specs.Prelude.{Bool as Test, true, false}
use Rattle.std.specs.Simd.Lanes.{sel_l}
use Rattle.std.proofs.lemmas.Bool.{true≢false, and_parts, ltb-true, cases_eq, cases_lt}
use Rattle.std.proofs.lemmas.List.{get_or-set_same, get_or-set_other, length-set}
use Rattle.std.proofs.lemmas.Option.{none-some, same_Some}
use Rattle.std.proofs.lemmas.Simd.{get_or-sel_l, length-sel_l}
use Rattle.wg_num.specs.declared.types.IntType.{IntType}
use Rattle.wg_num.specs.Wrap.{IsValue, bits_of, value_of}
use Rattle.cl_model.specs.Lists.{IsOneOf}
use Rattle.kir.specs.declared.line.Atom.{Atom}
use Rattle.kir.specs.Tree.{Kernel}
use Rattle.ctx_plan.specs.declared.plan.Home.{Home}
use Rattle.ctx_plan.specs.declared.plan.Home.TheVariants as home
use Rattle.lane_code.specs.declared.step.Bank.{Bank}
use Rattle.lane_code.specs.declared.step.Bank.TheVariants as bank
use Rattle.lane_code.specs.declared.step.Step.{Step}
use Rattle.lane_code.specs.declared.step.Step.TheVariants as step
use Rattle.lane_code.specs.declared.step.Reg.{Reg}
use Rattle.lane_code.specs.declared.code.Counts.{Counts}
use Rattle.lane_code.specs.Registers.{Registers, lanes_in, lanes_of, mask_of, scalar_of, lowest}
use Rattle.lane_code.specs.Fits.{bank_of, is_below, is_code}
use Rattle.lane_code.specs.Groups.{Group, window, with_window}
use Rattle.lane_code.specs.Acts.{Chunk, State, with_registers, with_group, first_of, column_stored}
use Rattle.lane_code.specs.Meaning.{Ended, code_end}
use Rattle.lane_laws.specs.Places.{HasAt}
use Rattle.lane_laws.specs.Reading.{mask_at}
use Rattle.lane_laws.proofs.Reading.{window_length, with_window_length, before_window, in_window, behind_window}
use Rattle.lane_laws.proofs.Reading.{lowest_is, none_lowest}
use Rattle.lane_laws.proofs.Steps.{has_front, has_back, on_step}
use Rattle.mask_lower.specs.declared.registers.Operand.{Operand}
use Rattle.mask_lower.specs.Banks.{mask_reg, slot_reg}
use Rattle.mask_lower.specs.Registers.{Frame, cell_at}
use Rattle.mask_lower.specs.Homes.{put_code, exit_code}
use Rattle.mask_lower.specs.Standing.{Holds}
use Rattle.mask_lower_correct.specs.View.{value_at, is_lane, Shaped}
use Rattle.mask_lower_correct.specs.Framed.{IsFramed}
use Rattle.mask_lower_correct.proofs.LaneValues.{lane_in, value_lane}
use Rattle.mask_lower_correct.proofs.View.{code_well, lanes_length, mask_length}
use Rattle.mask_lower_correct.proofs.Atoms.{entry_lane}

-- one of a list, or none
pub among_or_not : (c : ℕ) (xs : List ℕ) → IsOneOf xs c ⊎ (IsOneOf xs c → ⊥)
among_or_not c [] = inr (λ h. h)
among_or_not c (x ∷ xs) = ⊎_elim (λ same. inl (inl same))
    (λ ne. ⊎_elim (λ more. inl (inr more)) (λ none. inr (λ h. ⊎_elim (λ e. ne e) (λ m. none m) h))
    (among_or_not c xs)) (cases_eq x c)

-- a home has the same values
abbrev pub HomeSame : Home → Group → Group → Type 0
HomeSame home.Register g g' = Unit {0}
HomeSame (home.Column k) g g' = slice_index_or g'.columns k [] ≡ slice_index_or g.columns k []
HomeSame (home.Once s) g g' = slice_index_or g'.exits s 0 ≡ slice_index_or g.exits s 0

same_home : (h : Home) (g : Group) → HomeSame h g g
same_home home.Register g = tt
same_home (home.Column k) g = refl
same_home (home.Once s) g = refl

same_then : (h : Home) (g g' g'' : Group) → HomeSame h g g' → HomeSame h g' g'' → HomeSame h g g''
same_then home.Register g g' g'' a b = tt
same_then (home.Column k) g g' g'' a b = b ∙ a
same_then (home.Once s) g g' g'' a b = b ∙ a

holds_same : (h : Home) (of : IntType) (g g' : Group) (item : ℕ) (v : ℤ) → HomeSame h g g' →
    Holds h of g.columns g.exits item v → Holds h of g'.columns g'.exits item v
holds_same home.Register of g g' item v same h = h
holds_same (home.Column k) of g g' item v same h = ap (λ (column : List ℕ). slice_index_or column item 0) same ∙ h
holds_same (home.Once s) of g g' item v same h = same ∙ h

-- what a group keeps but for homes
pub record GroupKept (first width : ℕ) (g g' : Group) : Type 0 where
  pub locals : g'.locals ≡ g.locals
  pub privates : g'.privates ≡ g.privates
  pub entries : g'.entries ≡ g.entries
  pub votes : g'.votes ≡ g.votes
  pub column_count : length g'.columns ≡ length g.columns
  pub each_column : (k : ℕ) → length (slice_index_or g'.columns k []) ≡ length (slice_index_or g.columns k [])
  pub exit_count : length g'.exits ≡ length g.exits
  pub elsewhere : (k i : ℕ) → ((l : ℕ) → l < width → i ≡ first + l → ⊥) →
      slice_index_or (slice_index_or g'.columns k []) i 0 ≡ slice_index_or (slice_index_or g.columns k []) i 0

kept_none : (first width : ℕ) (g : Group) → GroupKept first width g g
kept_none first width g = record {
  locals = refl;
  privates = refl;
  entries = refl;
  votes = refl;
  column_count = refl;
  each_column = λ k. refl;
  exit_count = refl;
  elsewhere = λ k i h. refl;
}

kept_then : (first width : ℕ) (g g' g'' : Group) → GroupKept first width g g' → GroupKept first width g' g'' →
    GroupKept first width g g''
kept_then first width g g' g'' a b = record {
  locals = b.locals ∙ a.locals;
  privates = b.privates ∙ a.privates;
  entries = b.entries ∙ a.entries;
  votes = b.votes ∙ a.votes;
  column_count = b.column_count ∙ a.column_count;
  each_column = λ k. b.each_column k ∙ a.each_column k;
  exit_count = b.exit_count ∙ a.exit_count;
  elsewhere = λ k i h. b.elsewhere k i h ∙ a.elsewhere k i h;
}

module _ (kernel : Kernel) (mine : Chunk) (f : Frame) (atoms : List Atom) (counts : Counts) (r0 : Registers)
    (framed : IsFramed kernel f atoms) (code : List Step) (valid : is_code counts code ≡ true) (G : Ended → Type 0)
    (homes : List Home) (size : ℕ) (V : (c l : ℕ) → ℤ) where
  -- a lane with an item
  abbrev pub HasItem : ℕ → Type 0
  HasItem l = (l < mine.width) × (nat_lt (mine.first + l) size ≡ true)

  -- the registers and homes before the cells of a list go home
  pub record Leaving (live : List ℕ) (st : State) : Type 0 where
    pub shape : Shaped counts mine.width st.registers
    pub mask : (l : ℕ) → l < mine.width → mask_at st.registers 0 l ≡ nat_lt (mine.first + l) size
    pub values : (c : ℕ) (op : Operand) → IsOneOf live c → slice_index_or f.cells c None ≡ Some op → (l : ℕ) →
        HasItem l → (value_at st.registers op.at l ≡ lane_in op.of (V c l)) × IsValue op.of (V c l)
    pub columns : (c k : ℕ) → slice_get homes c ≡ Some (home.Column k) → (k < length st.group.columns) ×
        (length (slice_index_or st.group.columns k []) ≡ size)
    pub slots : (c s : ℕ) → slice_get homes c ≡ Some (home.Once s) → s < length st.group.exits

  pub record Put (c : ℕ) (op : Operand) (o : Option Home) (st after : State) : Type 0 where
    pub numbers : (x : Reg) (l : ℕ) → is_lane x.bank ≡ true → value_at after.registers x l ≡ value_at st.registers x l
    pub masks : after.registers.masks ≡ st.registers.masks
    pub shape : Shaped counts mine.width after.registers
    pub buffers : after.buffers ≡ st.buffers
    pub kept : GroupKept mine.first mine.width st.group after.group
    pub holds : (h : Home) → o ≡ Some h → (h ≡ home.Register → ⊥) → (l : ℕ) → HasItem l →
        Holds h op.of after.group.columns after.group.exits (mine.first + l) (V c l)
    pub same : (h : Home) → (o ≡ Some h → ⊥) → HomeSame h st.group after.group

  put_nothing : (c : ℕ) (op : Operand) (o : Option Home) (st : State) → Shaped counts mine.width st.registers →
      ((h : Home) → o ≡ Some h → h ≡ home.Register) → Put c op o st st
  put_nothing c op o st shape none = record {
    numbers = λ x l b. refl;
    masks = refl;
    shape = shape;
    buffers = refl;
    kept = kept_none mine.first mine.width st.group;
    holds = λ h e ne. absurd (ne (none h e));
    same = λ h ne. same_home h st.group;
  }

  put_column : (c k : ℕ) (op : Operand) (st : State) → Shaped counts mine.width st.registers →
      is_below counts op.at ≡ true → is_lane op.at.bank ≡ true → op.at.bank ≡ bank_of op.of →
      is_below counts (mask_reg 0) ≡ true
      → ((l : ℕ) → l < mine.width → mask_at st.registers 0 l ≡ nat_lt (mine.first + l) size) →
      ((l : ℕ) → HasItem l → value_at st.registers op.at l ≡ lane_in op.of (V c l))
      → k < length st.group.columns → length (slice_index_or st.group.columns k []) ≡ size
      → Put c op (Some (home.Column k)) st
      (with_group st (column_stored st.group mine.first mine.width k (mask_of st.registers (mask_reg 0))
      (lanes_of st.registers op.at)))
  put_column c k op st shape lt lane same_bank ltm mask value ltk len = record {
    numbers = λ x l b. refl;
    masks = refl;
    shape = shape;
    buffers = refl;
    kept = record {
      locals = refl;
      privates = refl;
      entries = refl;
      votes = refl;
      column_count = length-set st.group.columns k new;
      each_column = λ n. ⊎_elim
          (λ e. ap (λ j. length (slice_index_or (slice_set st.group.columns k new) j [])) (sym e) ∙ ap length here ∙
          new_length ∙ ap (λ j. length (slice_index_or st.group.columns j [])) e)
          (λ ne. ap length (other n ne))
          (cases_eq k n);
      exit_count = refl;
      elsewhere = λ n i outside. ⊎_elim
          (λ e. ap (λ j. slice_index_or (slice_index_or (slice_set st.group.columns k new) j []) i 0) (sym e) ∙
          ap (λ (xs : List ℕ). slice_index_or xs i 0) here ∙ away i outside ∙
          ap (λ j. slice_index_or (slice_index_or st.group.columns j []) i 0) e)
          (λ ne. ap (λ (xs : List ℕ). slice_index_or xs i 0) (other n ne))
          (cases_eq k n);
    };
    holds = λ h e ne l item. subst (λ x. Holds x op.of (slice_set st.group.columns k new) st.group.exits (mine.first +
        l) (V c l)) (same_Some _ _ e) (held l item);
    same = other_home;
  }
    where
      old : List ℕ
      old = slice_index_or st.group.columns k []

      active : List Test
      active = mask_of st.registers (mask_reg 0)

      lanes : List ℕ
      lanes = lanes_of st.registers op.at

      before : List ℕ
      before = window 0 old mine.first mine.width

      put : List ℕ
      put = sel_l active lanes before

      new : List ℕ
      new = with_window old mine.first put

      active_length : length active ≡ mine.width
      active_length = mask_length counts mine.width st.registers shape 0 ltm

      lanes_are : length lanes ≡ mine.width
      lanes_are = lanes_length counts mine.width st.registers shape op.at lane lt

      before_length : length before ≡ mine.width
      before_length = window_length 0 old mine.first mine.width

      put_length : length put ≡ mine.width
      put_length = length-sel_l active lanes before (active_length ∙ sym lanes_are) (active_length ∙
          sym before_length) ∙ active_length

      new_length : length new ≡ length old
      new_length = with_window_length old mine.first put

      here : slice_index_or (slice_set st.group.columns k new) k [] ≡ new
      here = get_or-set_same st.group.columns k new [] ltk

      other : (n : ℕ) → (k ≡ n → ⊥) → slice_index_or (slice_set st.group.columns k new) n [] ≡
          slice_index_or st.group.columns n []
      other n ne = get_or-set_other st.group.columns k n new [] (λ e. ne (sym e))

      away : (i : ℕ) → ((l : ℕ) → l < mine.width → i ≡ mine.first + l → ⊥) →
          slice_index_or new i 0 ≡ slice_index_or old i 0
      away i outside = ⊎_elim
          (λ lt. before_window old mine.first put i 0 lt)
          (λ ge. ⊎_elim (λ inside. absurd (outside (i - mine.first) (omega arith) (omega arith)))
          (λ behind. behind_window old mine.first put i 0 (let n = put_length in omega arith))
          (cases_lt i (mine.first + mine.width)))
          (cases_lt i mine.first)

      held : (l : ℕ) → HasItem l → slice_index_or (slice_index_or (slice_set st.group.columns k new) k [])
          (mine.first + l) 0 ≡ lane_in op.of (V c l)
      held l item =
          ap (λ (xs : List ℕ). slice_index_or xs (mine.first + l) 0) here
          ∙ in_window old mine.first put l 0 (let n = put_length in let a = item.0 in
          omega arith) (let a = ltb-true (mine.first + l) size item.1 in omega arith)
          ∙ get_or-sel_l active lanes before l 0 (let n = active_length in let a = item.0 in
          omega arith) (let n = lanes_are in let a = item.0 in omega arith) (let n = before_length in
          let a = item.0 in omega arith)
          ∙ ap (λ b. cond b (value_at st.registers op.at l) (slice_index_or before l 0)) (mask l item.0 ∙ item.1) ∙
          value l item

      other_home : (h : Home) → (Some (home.Column k) ≡ Some h → ⊥) →
          HomeSame h st.group (column_stored st.group mine.first mine.width k active lanes)
      other_home home.Register ne = tt
      other_home (home.Column n) ne = other n (λ e. ne (ap (λ x. Some (home.Column x)) e))
      other_home (home.Once s) ne = refl

  put_once : (c s : ℕ) (op : Operand) (st : State) → Shaped counts mine.width st.registers →
      0 < length st.registers.scalars
      → ((l : ℕ) → l < mine.width → mask_at st.registers 0 l ≡ nat_lt (mine.first + l) size) →
      length (mask_of st.registers (mask_reg 0)) ≡ mine.width →
      ((l : ℕ) → HasItem l → (value_at st.registers op.at l ≡ lane_in op.of (V c l)) × IsValue op.of (V c l))
      → ((l j : ℕ) → HasItem l → HasItem j → V c l ≡ V c j) → s < length st.group.exits → (o : Option ℕ) →
      lowest (mask_of st.registers (mask_reg 0)) ≡ o
      → Put c op (Some (home.Once s)) st
      (with_group (with_registers st (first_of st.registers slot_reg op.of (lanes_of st.registers op.at) o))
      (record st.group {
        exits = slice_set st.group.exits s
            (scalar_of (first_of st.registers slot_reg op.of (lanes_of st.registers op.at) o) slot_reg);
      }))
  put_once c s op st shape some mask mlen value even lts o is = record {
    numbers = λ x l b. numbers o x.bank x.number l b;
    masks = masks o;
    shape = shaped o;
    buffers = refl;
    kept = record {
      locals = refl;
      privates = refl;
      entries = refl;
      votes = refl;
      column_count = refl;
      each_column = λ k. refl;
      exit_count = length-set st.group.exits s _;
      elsewhere = λ k i h. refl;
    };
    holds = λ h e ne l item. subst
        (λ x. Holds x op.of st.group.columns
        (slice_set st.group.exits s (scalar_of (first_of st.registers slot_reg op.of (lanes_of st.registers op.at)
        o) slot_reg)) (mine.first + l) (V c l)) (same_Some _ _ e) (get_or-set_same st.group.exits s _ 0 lts ∙
        held o is l item);
    same = other_home;
  }
    where
      numbers : (o : Option ℕ) (b : Bank) (n l : ℕ) → is_lane b ≡ true →
          slice_index_or (lanes_in (first_of st.registers slot_reg op.of (lanes_of st.registers op.at) o) b n) l 0 ≡
          slice_index_or (lanes_in st.registers b n) l 0
      numbers None b n l e = refl
      numbers (Some j) bank.Narrow n l e = refl
      numbers (Some j) bank.Wide n l e = refl
      numbers (Some j) bank.Mask n l e = absurd (true≢false (sym e))
      numbers (Some j) bank.Scalar n l e = absurd (true≢false (sym e))

      masks : (o : Option ℕ) → (first_of st.registers slot_reg op.of (lanes_of st.registers op.at) o).masks ≡
          st.registers.masks
      masks None = refl
      masks (Some j) = refl

      shaped : (o : Option ℕ) → Shaped counts mine.width
          (first_of st.registers slot_reg op.of (lanes_of st.registers op.at) o)
      shaped None = shape
      shaped (Some j) = record {
        narrow_count = shape.narrow_count;
        each_narrow = shape.each_narrow;
        wide_count = shape.wide_count;
        each_wide = shape.each_wide;
        mask_count = shape.mask_count;
        each_mask = shape.each_mask;
        scalar_count = length-set st.registers.scalars 0 _ ∙ shape.scalar_count;
      }

      held : (o : Option ℕ) → lowest (mask_of st.registers (mask_reg 0)) ≡ o → (l : ℕ) → HasItem l →
          scalar_of (first_of st.registers slot_reg op.of (lanes_of st.registers op.at) o) slot_reg ≡ bits_of (V c l)
      held None e l item =
          absurd (true≢false (sym (mask l item.0 ∙ item.1) ∙ none_lowest (mask_of st.registers (mask_reg 0)) e l))
      held (Some j) e l item =
          let low = lowest_is (mask_of st.registers (mask_reg 0)) j e in
          let ltj : j < mine.width = let w = low.within in omega arith in
          let itemj : HasItem j = (ltj, sym (mask j ltj) ∙ low.set) in
          let v = value j itemj in
          get_or-set_same st.registers.scalars 0 _ 0 some ∙
          ap bits_of (ap (value_of op.of) v.0 ∙ value_lane op.of (V c j) v.1 ∙ even j l itemj item)

      other_home : (h : Home) → (Some (home.Once s) ≡ Some h → ⊥)
          →
          HomeSame h st.group (record st.group {
            exits = slice_set st.group.exits s
                (scalar_of (first_of st.registers slot_reg op.of (lanes_of st.registers op.at) o) slot_reg);
          })
      other_home home.Register ne = tt
      other_home (home.Column n) ne = refl
      other_home (home.Once n) ne =
          get_or-set_other st.group.exits s n _ 0 (λ e. ne (ap (λ x. Some (home.Once x)) (sym e)))

  put_runs : (c : ℕ) (op : Operand) (p t : ℕ) (o : Option Home) (st : State) →
      slice_index_or f.cells c None ≡ Some op → slice_get homes c ≡ o → HasAt code p (put_code op o) →
      (live : List ℕ) → IsOneOf live c → Leaving live st
      → ((s : ℕ) → o ≡ Some (home.Once s) → (l j : ℕ) → HasItem l → HasItem j → V c l ≡ V c j)
      → ((after : State) → Put c op o st after → G (code_end mine code t (p + length (put_code op o)) after)) →
      G (code_end mine code t p st)
  put_runs c op p t None st e is has live among ready even go =
      let n : p + 0 ≡ p = omega arith in
      subst (λ k. G (code_end mine code t k st)) n
      (go st (put_nothing c op None st ready.shape (λ h q. absurd (none-some h q))))
  put_runs c op p t (Some home.Register) st e is has live among ready even go =
      let n : p + 0 ≡ p = omega arith in
      subst (λ k. G (code_end mine code t k st)) n
      (go st (put_nothing c op (Some home.Register) st ready.shape (λ h q. sym (same_Some _ _ q))))
  put_runs c op p t (Some (home.Column k)) st e is has live among ready even go =
      let w = and_parts (is_below counts op.at) (is_below counts (mask_reg 0))
      (code_well counts code p (step.ColumnPut k op.at (mask_reg 0)) valid has.0) in
      let col = ready.columns c k is in
      on_step mine code G t p (step.ColumnPut k op.at (mask_reg 0)) st _ has.0 refl
      (go _ (put_column c k op st ready.shape w.0 (entry_lane kernel mine.width f atoms counts r0 framed c op e)
      (framed.entries c op e).bank w.1 ready.mask (λ l item. (ready.values c op among e l item).0) col.0 col.1))
  put_runs c op p t (Some (home.Once s)) st e is has live among ready even go =
      let w = and_parts (is_below counts slot_reg && is_below counts op.at) (is_below counts (mask_reg 0))
      (code_well counts code p (step.First slot_reg op.at op.of (mask_reg 0)) valid has.0) in
      let w0 = and_parts (is_below counts slot_reg) (is_below counts op.at) w.0 in
      let some : 0 < length st.registers.scalars = let q = ready.shape.scalar_count in let b =
      ltb-true 0 counts.scalars w0.0 in omega arith in
      let n : p + 1 + 1 ≡ p + 2 = omega arith in
      let low = lowest (mask_of st.registers (mask_reg 0)) in
      let r1 = first_of st.registers slot_reg op.of (lanes_of st.registers op.at) low in
      let st1 = with_registers st r1 in
      let st2 = with_group st1 (record st.group { exits = slice_set st.group.exits s (scalar_of r1 slot_reg) }) in
      on_step mine code G t p (step.First slot_reg op.at op.of (mask_reg 0)) st st1 has.0 refl
      (on_step mine code G t (p + 1) (step.OncePut s slot_reg) st1 st2 has.1.0 refl
      (subst (λ k. G (code_end mine code t k st2)) (sym n)
      (go st2 (put_once c s op st ready.shape some ready.mask (mask_length counts mine.width st.registers ready.shape
      0 w.1) (λ l item. ready.values c op among e l item) (even s refl) (ready.slots c s is) low refl))))

  -- all cells of a list
  pub record Left (live : List ℕ) (st after : State) : Type 0 where
    pub buffers : after.buffers ≡ st.buffers
    pub kept : GroupKept mine.first mine.width st.group after.group
    pub holds : (c : ℕ) (op : Operand) (h : Home) → IsOneOf live c → slice_index_or f.cells c None ≡ Some op →
        slice_get homes c ≡ Some h → (h ≡ home.Register → ⊥) → (l : ℕ) → HasItem l →
        Holds h op.of after.group.columns after.group.exits (mine.first + l) (V c l)
    pub same : (h : Home) → ((d : ℕ) → IsOneOf live d → slice_get homes d ≡ Some h → ⊥) →
        HomeSame h st.group after.group

  pub exit_runs : (live : List ℕ) (p t : ℕ) (st : State) → HasAt code p (exit_code homes f.cells live) →
      ((c : ℕ) → IsOneOf live c → slice_index_or f.cells c None ≡ Some (cell_at f.cells c)) → Leaving live st
      → ((c d : ℕ) (h : Home) → IsOneOf live c → IsOneOf live d → (c ≡ d → ⊥) → slice_get homes c ≡ Some h →
      slice_get homes d ≡ Some h → (h ≡ home.Register → ⊥) → ⊥)
      → ((c s : ℕ) → IsOneOf live c → slice_get homes c ≡ Some (home.Once s) → (l j : ℕ) → HasItem l → HasItem j →
      V c l ≡ V c j)
      → ((after : State) → Left live st after →
      G (code_end mine code t (p + length (exit_code homes f.cells live)) after)) → G (code_end mine code t p st)
  exit_runs [] p t st has named ready apart even go =
      let n : p + 0 ≡ p = omega arith in
      subst (λ k. G (code_end mine code t k st)) n
      (go st (record {
        buffers = refl;
        kept = kept_none mine.first mine.width st.group;
        holds = λ c op h none. absurd none;
        same = λ h ne. same_home h st.group;
      }))
  exit_runs (c ∷ live) p t st has named ready apart even go =
      let o = slice_get homes c in
      let op = cell_at f.cells c in
      let pc = put_code op o in
      let ec = exit_code homes f.cells live in
      let len : p + length (pc ++ ec) ≡ p + length pc + length ec = omega (arith, length-append pc ec) in
      put_runs c op p t o st (named c (inl refl)) refl (has_front code p pc ec has) (c ∷ live) (inl refl) ready
      (λ s q. even c s (inl refl) q) (λ st1 put.
      exit_runs live (p + length pc) t st1 (has_back code p pc ec has) (λ d m. named d (inr m))
      (record {
        shape = put.shape;
        mask = λ l lt. ap (λ rows. slice_index_or (slice_index_or rows 0 []) l false) put.masks ∙ ready.mask l lt;
        values = λ d od m q l item. let v = ready.values d od (inr m) q l item in
            (put.numbers od.at l (entry_lane kernel mine.width f atoms counts r0 framed d od q) ∙ v.0, v.1);
        columns = λ d k q. let r = ready.columns d k q in
            ((let n = put.kept.column_count in let a = r.0 in omega arith), put.kept.each_column k ∙ r.1);
        slots = λ d s q. let r = ready.slots d s q in let n = put.kept.exit_count in omega arith;
      })
      (λ a b h ma mb. apart a b h (inr ma) (inr mb)) (λ d s m. even d s (inr m)) (λ st2 left.
      subst (λ k. G (code_end mine code t k st2)) len
      (go st2 (record {
        buffers = left.buffers ∙ put.buffers;
        kept = kept_then mine.first mine.width st.group st1.group st2.group put.kept left.kept;
        holds = λ d od h m q at_home ne l item. ⊎_elim
            (λ more. left.holds d od h more q at_home ne l item)
            (λ none. first c live (named c (inl refl)) apart d od h m none q at_home ne l item st1 st2 put left)
            (among_or_not d live);
        same = λ h ne. same_then h st.group st1.group st2.group (put.same h (λ q. ne c (inl refl) q))
            (left.same h (λ d m q. ne d (inr m) q));
      }))))
    where
      first : (c : ℕ) (live : List ℕ) → slice_index_or f.cells c None ≡ Some (cell_at f.cells c)
          → ((a b : ℕ) (h : Home) → IsOneOf (c ∷ live) a → IsOneOf (c ∷ live) b → (a ≡ b → ⊥) →
          slice_get homes a ≡ Some h → slice_get homes b ≡ Some h → (h ≡ home.Register → ⊥) → ⊥)
          → (d : ℕ) (od : Operand) (h : Home) → IsOneOf (c ∷ live) d → (IsOneOf live d → ⊥) →
          slice_index_or f.cells d None ≡ Some od → slice_get homes d ≡ Some h → (h ≡ home.Register → ⊥) →
          (l : ℕ) → HasItem l → (st1 st2 : State)
          → Put c (cell_at f.cells c) (slice_get homes c) st st1 → Left live st1 st2 →
          Holds h od.of st2.group.columns st2.group.exits (mine.first + l) (V d l)
      first c live entry apart d od h m none q at_home ne l item st1 st2 put left =
          ⊎_elim
          (λ same.
          let is_op : cell_at f.cells c ≡ od =
          same_Some _ _ (sym entry ∙ ap (λ k. slice_index_or f.cells k None) same ∙ q) in
          let at_c : slice_get homes c ≡ Some h = ap (slice_get homes) same ∙ at_home in
          subst (λ k. Holds h od.of st2.group.columns st2.group.exits (mine.first + l) (V k l)) same
          (subst (λ (o : Operand). Holds h o.of st2.group.columns st2.group.exits (mine.first + l) (V c l)) is_op
          (holds_same h (cell_at f.cells c).of st1.group st2.group (mine.first + l) (V c l)
          (left.same h (λ e me qe. apart c e h (inl refl) (inr me)
          (λ ce. none (subst (IsOneOf live) (sym ce ∙ same) me)) at_c qe ne))
          (put.holds h at_c ne l item))))
          (λ more. absurd (none more)) m
