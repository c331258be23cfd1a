-- In the steps of a statement, each load stands behind the offset of its element.
use Rattle.std.proofs.Common.{◌≡◌, ℕ, List, [], ◌∷◌, ◌++◌, Option, None, Some, Bool, true, false, if◌then◌else◌, refl}
use Rattle.std.proofs.Common.{sym, ap, ◌∙◌, subst, inl, inr}
use Rattle.std.proofs.lemmas.Bool.{false≢true}
use Rattle.wg_num.specs.declared.types.IntType.{IntType}
use Rattle.wg_num.specs.declared.types.Bin.{Bin}
use Rattle.cl_meaning.specs.Declarations.{form_of}
use Rattle.cl_model.specs.Lists.{IsOneOf}
use Rattle.cl_short_vec.specs.declared.types.Vector.{Vector}
use Rattle.cl_short_vec.specs.declared.made.Made.{Made}
use Rattle.cl_short_vec.specs.declared.made.Made.TheVariants as made
use Rattle.cl_short_vec.specs.Types.{numbers}
use Rattle.cl_short_vec.specs.Marks.{Mark, mark, Marks, unmarked, marking, tree_at, kind_at, vector_among}
use Rattle.cl_short_vec.specs.Roles.{is_paren}
use Rattle.cl_short_vec.specs.Faults.{components_of}
use Rattle.cl_short_vec.specs.Made.{made_of}
use Rattle.cl_short_vec.specs.Order.{Named, Step, Offset, Number, Copy, Load, Set, Store, type_in, count_in, named_by}
use Rattle.cl_short_vec.specs.Order.{loads, copies, steps_by, steps_in, all_steps}
use Rattle.cl_short_vec.specs.Order.{list_steps, inside_steps, steps_of, under, is_element_in, target_steps, old_steps}
use Rattle.cl_short_vec.specs.Order.{new_steps, setting_steps}

-- ---- order

-- steps that are done, the last first
abbrev pub all_done : List Step → (done : List Step) → List Step
all_done [] done = done
all_done (s ∷ ss) done = all_done ss (s ∷ done)

-- a component of an element is loaded where the pointer to it is there
abbrev pub Ordered : (done steps : List Step) → Type 0
Ordered done [] = Unit {0}
Ordered done (Load m c ∷ ss) = IsOneOf done (Offset m) × Ordered (Load m c ∷ done) ss
Ordered done (s ∷ ss) = Ordered (s ∷ done) ss

-- ---- steps that are done

-- all that is done before is done later
abbrev pub Keeps : (done more : List Step) → Type 0
Keeps done more = (s : Step) → IsOneOf done s → IsOneOf more s

keeps_step : (s : Step) (done more : List Step) → Keeps done more → Keeps (s ∷ done) (s ∷ more)
keeps_step s done more k r (inl e) = inl e
keeps_step s done more k r (inr i) = inr (k r i)

pub still_done : (ss done : List Step) → Keeps done (all_done ss done)
still_done [] done r i = i
still_done (s ∷ ss) done r i = still_done ss (s ∷ done) r (inr i)

-- ---- more steps done, and steps behind steps

pub ordered_more : (ss done more : List Step) → Keeps done more → Ordered done ss → Ordered more ss
ordered_more [] done more k h = tt
ordered_more (Offset m ∷ ss) done more k h =
    ordered_more ss (Offset m ∷ done) (Offset m ∷ more) (keeps_step (Offset m) done more k) h
ordered_more (Number of m ∷ ss) done more k h =
    ordered_more ss (Number of m ∷ done) (Number of m ∷ more) (keeps_step (Number of m) done more k) h
ordered_more (Copy of x c ∷ ss) done more k h =
    ordered_more ss (Copy of x c ∷ done) (Copy of x c ∷ more) (keeps_step (Copy of x c) done more k) h
ordered_more (Load m c ∷ ss) done more k h = (
  k (Offset m) h.0,
  ordered_more ss (Load m c ∷ done) (Load m c ∷ more) (keeps_step (Load m c) done more k) h.1,
)
ordered_more (Set x c j ∷ ss) done more k h =
    ordered_more ss (Set x c j ∷ done) (Set x c j ∷ more) (keeps_step (Set x c j) done more k) h
ordered_more (Store m c j ∷ ss) done more k h =
    ordered_more ss (Store m c j ∷ done) (Store m c j ∷ more) (keeps_step (Store m c j) done more k) h

pub ordered_append : (xs ys done : List Step) → Ordered done xs → Ordered (all_done xs done) ys →
    Ordered done (xs ++ ys)
ordered_append [] ys done h k = k
ordered_append (Offset m ∷ xs) ys done h k = ordered_append xs ys (Offset m ∷ done) h k
ordered_append (Number of m ∷ xs) ys done h k = ordered_append xs ys (Number of m ∷ done) h k
ordered_append (Copy of x c ∷ xs) ys done h k = ordered_append xs ys (Copy of x c ∷ done) h k
ordered_append (Load m c ∷ xs) ys done h k = (h.0, ordered_append xs ys (Load m c ∷ done) h.1 k)
ordered_append (Set x c j ∷ xs) ys done h k = ordered_append xs ys (Set x c j ∷ done) h k
ordered_append (Store m c j ∷ xs) ys done h k = ordered_append xs ys (Store m c j ∷ done) h k

pub all_done_append : (xs ys done : List Step) → all_done (xs ++ ys) done ≡ all_done ys (all_done xs done)
all_done_append [] ys done = refl
all_done_append (x ∷ xs) ys done = all_done_append xs ys (x ∷ done)

-- ---- leaves

pub loads_ordered : (m : Mark) (cs : List ℕ) (done : List Step) → IsOneOf done (Offset m) → Ordered done (loads m cs)
loads_ordered m [] done i = tt
loads_ordered m (c ∷ cs) done i = (i, loads_ordered m cs (Load m c ∷ done) (inr i))

pub copies_ordered : (of : IntType) (x : Named) (cs : List ℕ) (done : List Step) → Ordered done (copies of x cs)
copies_ordered of x [] done = tt
copies_ordered of x (c ∷ cs) done = copies_ordered of x cs (Copy of x c ∷ done)

by_ordered : (how : Made) (of : IntType) (m : Mark) (items all lists done : List Step) → Ordered done items →
    Ordered done all → Ordered done lists → Ordered done (steps_by how of m items all lists)
by_ordered made.Number of m items all lists done h i j = tt
by_ordered made.Items of m items all lists done h i j = h
by_ordered made.Variable of m items all lists done h i j =
    copies_ordered (type_in (kind_at m)) (named_by (tree_at m)) (numbers 0 1 (count_in (kind_at m))) done
by_ordered made.Element of m items all lists done h i j =
    loads_ordered m (numbers 0 1 (count_in (kind_at m))) (Offset m ∷ done) (inl refl)
by_ordered made.Listed of m items all lists done h i j = j
by_ordered how of m items all lists done h i j = i

mutual
  unfolding steps_in all_steps list_steps inside_steps

  -- the steps of an operand, or of items
  pub steps_ordered : (m : Mark) (listed : Bool) (of : IntType) (done : List Step) →
      Ordered done (steps_in listed of m)
  steps_ordered (mark t k parts) listed of done =
      by_ordered (made_of listed t k) of (mark t k parts) (all_steps true of parts)
      (all_steps false (type_in (vector_among parts)) parts) (list_steps (type_in k) parts) done
      (all_ordered parts true of done) (all_ordered parts false (type_in (vector_among parts)) done)
      (lists_ordered parts (type_in k) done)

  all_ordered : (ms : Marks) (listed : Bool) (of : IntType) (done : List Step) → Ordered done (all_steps listed of ms)
  all_ordered unmarked listed of done = tt
  all_ordered (marking m ms) listed of done =
      ordered_append (steps_in listed of m) (all_steps false of ms) done (steps_ordered m listed of done)
      (all_ordered ms false of (all_done (steps_in listed of m) done))

  lists_ordered : (ms : Marks) (of : IntType) (done : List Step) → Ordered done (list_steps of ms)
  lists_ordered unmarked of done = tt
  lists_ordered (marking m ms) of done =
      ordered_append (inside_steps of m) (list_steps of ms) done (inside_ordered m of done)
      (lists_ordered ms of (all_done (inside_steps of m) done))

  inside_ordered : (m : Mark) (of : IntType) (done : List Step) → Ordered done (inside_steps of m)
  inside_ordered (mark t k parts) of done = by (is_paren (form_of t)) (all_ordered parts true of done)
    where
      by : (b : Bool) → Ordered done (all_steps true of parts) →
          Ordered done (if b then all_steps true of parts else [])
      by true h = h
      by false h = tt

-- ---- a target

pub target_ordered : (m : Mark) (done : List Step) → Ordered done (target_steps m)
target_ordered m done = by (is_element_in (kind_at m))
  where
    by : (b : Bool) → Ordered done (if b then Offset m ∷ [] else [])
    by true = tt
    by false = tt

-- behind the target's steps its old components may be loaded
pub old_ordered : (o : Option Bin) (m : Mark) (cs : List ℕ) (done : List Step) →
    Ordered (all_done (target_steps m) done) (old_steps o m cs)
old_ordered None m cs done = tt
old_ordered (Some op) m cs done = by (is_element_in (kind_at m))
  where
    by : (b : Bool) → Ordered (all_done (if b then Offset m ∷ [] else []) done)
        (if b then loads m cs else copies (type_in (kind_at m)) (named_by (tree_at m)) cs)
    by true = loads_ordered m cs (Offset m ∷ done) (inl refl)
    by false = copies_ordered (type_in (kind_at m)) (named_by (tree_at m)) cs done

-- ---- statements

-- the steps of a statement before it sets something
abbrev pub setting_leaves : Option Bin → (target value : Mark) → List Step
setting_leaves o target value =
    target_steps (under target) ++ (old_steps o (under target) (components_of target) ++
    steps_of (type_in (kind_at target)) value)

pub append_apart : (xs ys zs : List Step) → xs ++ (ys ++ zs) ≡ (xs ++ ys) ++ zs
append_apart [] ys zs = refl
append_apart (x ∷ xs) ys zs = ap (λ z. x ∷ z) (append_apart xs ys zs)

pub setting_apart : (o : Option Bin) (target value : Mark) → setting_steps o target value ≡
    setting_leaves o target value ++ new_steps (under target) (components_of target)
setting_apart o target value =
    let t = target_steps (under target) in
    let p = old_steps o (under target) (components_of target) in
    let v = steps_of (type_in (kind_at target)) value in
    let n = new_steps (under target) (components_of target) in
    ap (λ z. t ++ z) (append_apart p v n) ∙ append_apart t (p ++ v) n

pub setting_ordered : (o : Option Bin) (target value : Mark) → Ordered [] (setting_leaves o target value)
setting_ordered o target value =
    let t = target_steps (under target) in
    let p = old_steps o (under target) (components_of target) in
    let v = steps_of (type_in (kind_at target)) value in
    ordered_append t (p ++ v) [] (target_ordered (under target) [])
    (ordered_append p v (all_done t []) (old_ordered o (under target) (components_of target) [])
    (steps_ordered value false (type_in (kind_at target)) (all_done p (all_done t []))))

pub initial_ordered : (v : Vector) (value : Mark) → Ordered [] (steps_of v.of value)
initial_ordered v value = steps_ordered value false v.of []

-- where the target is an element, its offset is done before
pub offset_done : (o : Option Bin) (target value : Mark) → is_element_in (kind_at (under target)) ≡ true →
    IsOneOf (all_done (setting_leaves o target value) []) (Offset (under target))
offset_done o target value e =
    let m = under target in
    let p = old_steps o m (components_of target) ++ steps_of (type_in (kind_at target)) value in
    subst (λ z. IsOneOf z (Offset m)) (sym (all_done_append (target_steps m) p []))
    (still_done p (all_done (target_steps m) []) (Offset m) (begun (is_element_in (kind_at m)) e))
  where
    begun : (b : Bool) → b ≡ true →
        IsOneOf (all_done (if b then Offset (under target) ∷ [] else []) []) (Offset (under target))
    begun true h = inl refl
    begun false h = absurd (false≢true h)
