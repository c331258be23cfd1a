-- What a statement sets, as a list: where two results agree on the values that the steps set and store, what does the
-- steps with the one does them with the other.
use Rattle.std.proofs.Common.{◌≡◌, ℕ, zero, suc, ◌+◌, ◌<◌, ◌≤◌, ℤ, pos, List, [], ◌∷◌, ◌++◌, length, map, Bool, true}
use Rattle.std.proofs.Common.{false, if◌then◌else◌, Option, None, Some, refl, sym, ap, ◌∙◌, subst, arith}
use Rattle.std.specs.Prelude.{slice_index, unwrap_or}
use Rattle.work_items.specs.Items.{Stores}
use Rattle.work_items.specs.Histories.{Deed, Wrote}
use Rattle.wg_num.specs.declared.types.IntType.{IntType}
use Rattle.wg_num.specs.declared.types.Bin.{Bin}
use Rattle.wg_num.specs.Bytes.{bytes_of}
use Rattle.cl_model.specs.Lists.{Each}
use Rattle.cl_model.specs.Tree.{Program, Statements}
use Rattle.cl_model.specs.Sizes.{Launch}
use Rattle.cl_model.specs.Task.{Task, Item}
use Rattle.cl_model.specs.Steps.{item_next, object_at}
use Rattle.cl_check_sound.proofs.Grown.{each_append}
use Rattle.cl_meaning.specs.Environment.{Env}
use Rattle.cl_short_vec.specs.declared.types.Vector.{Vector}
use Rattle.cl_short_vec.specs.Types.{numbers}
use Rattle.cl_short_vec.specs.Marks.{Mark, tree_at, kind_at}
use Rattle.cl_short_vec.specs.Faults.{components_of}
use Rattle.cl_short_vec.specs.Order.{Named, Step, Offset, Number, Copy, Load, Set, Store, type_in, named_by, under}
use Rattle.cl_short_vec.specs.Order.{is_element_in, loads, copies, target_steps, old_steps, stores, sets, new_steps}
use Rattle.cl_short_vec.specs.Order.{steps_of, setting_steps, initial_steps}
use Rattle.cl_short_vec.specs.Parts.{Assigned}
use Rattle.cl_short_vec_correct.specs.Values.{Leaves, Worth, worth_of, nth, joined_value, joined_list}
use Rattle.cl_short_vec_correct.specs.Values.{set_list_by}
use Rattle.cl_short_vec_correct.specs.Doing.{Got, Along, Accesses, Advances, between, at_load, at_store, behind}
use Rattle.cl_short_vec_correct.specs.Doing.{in_offset, offset, in_number, number, copy, load, store, set, sets_one}
use Rattle.cl_short_vec_correct.specs.Doing.{index_of, Helps, DoSteps}
use Rattle.cl_short_vec_correct.proofs.Declares.{TakesOnly, loads_take, copies_take, steps_take}
use Rattle.cl_short_vec_correct.proofs.Lists.{numbered}
use Rattle.cl_short_vec_correct.proofs.Worths.{set_by}

-- ---- the values that steps set and store

-- what the step sets or stores is one of the first so many values
abbrev pub IsBelow : ℕ → Step → Type 0
IsBelow n (Set x c j) = j < n
IsBelow n (Store m c j) = j < n
IsBelow n step = Unit {0}

taken_below : (n : ℕ) (ss : List Step) → Each TakesOnly ss → Each (IsBelow n) ss
taken_below n [] h = tt
taken_below n (s ∷ ss) h = (by s h.0, taken_below n ss h.1)
  where
    by : (s : Step) → TakesOnly s → IsBelow n s
    by (Offset m) h = tt
    by (Number of m) h = tt
    by (Copy of x c) h = tt
    by (Load m c) h = tt
    by (Set x c j) h = absurd h
    by (Store m c j) h = absurd h

sets_below : (n : ℕ) (x : Named) (cs : List ℕ) (j : ℕ) → j + length cs ≤ n → Each (IsBelow n) (sets x cs j)
sets_below n x [] j l = tt
sets_below n x (c ∷ cs) j l = (omega arith, sets_below n x cs (suc j) (omega arith))

stores_below : (n : ℕ) (m : Mark) (cs : List ℕ) (j : ℕ) → j + length cs ≤ n → Each (IsBelow n) (stores m cs j)
stores_below n m [] j l = tt
stores_below n m (c ∷ cs) j l = (omega arith, stores_below n m cs (suc j) (omega arith))

new_below : (m : Mark) (cs : List ℕ) → Each (IsBelow (length cs)) (new_steps m cs)
new_below m cs = by (is_element_in (kind_at m))
  where
    by : (b : Bool) → Each (IsBelow (length cs)) (if b then stores m cs 0 else sets (named_by (tree_at m)) cs 0)
    by true = stores_below (length cs) m cs 0 (omega arith)
    by false = sets_below (length cs) (named_by (tree_at m)) cs 0 (omega arith)

target_takes : (m : Mark) → Each TakesOnly (target_steps m)
target_takes m = by (is_element_in (kind_at m))
  where
    by : (b : Bool) → Each TakesOnly (if b then Offset m ∷ [] else [])
    by true = (tt, tt)
    by false = tt

old_takes : (o : Option Bin) (m : Mark) (cs : List ℕ) → Each TakesOnly (old_steps o m cs)
old_takes None m cs = tt
old_takes (Some op) m cs = by (is_element_in (kind_at m))
  where
    by : (b : Bool) →
        Each TakesOnly (if b then loads m cs else copies (type_in (kind_at m)) (named_by (tree_at m)) cs)
    by true = loads_take m cs
    by false = copies_take (type_in (kind_at m)) (named_by (tree_at m)) cs

-- of an assignment
pub setting_below : (o : Option Bin) (a b : Mark) →
    Each (IsBelow (length (components_of a))) (setting_steps o a b)
setting_below o a b =
    let n = length (components_of a) in
    let m = under a in
    let cs = components_of a in
    let v = steps_of (type_in (kind_at a)) b in
    each_append (IsBelow n) (target_steps m) (old_steps o m cs ++ (v ++ new_steps m cs))
    (taken_below n (target_steps m) (target_takes m))
    (each_append (IsBelow n) (old_steps o m cs) (v ++ new_steps m cs)
    (taken_below n (old_steps o m cs) (old_takes o m cs))
    (each_append (IsBelow n) v (new_steps m cs) (taken_below n v (steps_take b false (type_in (kind_at a))))
    (new_below m cs)))

counted : (n first : ℕ) → length (numbers first 1 n) ≡ n
counted zero first = refl
counted (suc n) first = ap suc (counted n (first + 1))

-- and of a declarator with an initialiser
pub initial_below : (v : Vector) (x : Named) (e : Mark) → Each (IsBelow v.count) (initial_steps v x e)
initial_below v x e =
    let q = counted v.count 0 in
    each_append (IsBelow v.count) (steps_of v.of e) (sets x (numbers 0 1 v.count) 0)
    (taken_below v.count (steps_of v.of e) (steps_take e false v.of))
    (sets_below v.count x (numbers 0 1 v.count) 0 (omega arith))

-- ---- two results

module _ (program : Program) (launch : Launch) (buffers : List (List ℕ)) (env later : Env) (helps : ℕ → Type 0)
    (rest : List Task) (n : ℕ) (result other : Leaves → Worth)
    (same : (leaves : Leaves) (j : ℕ) → j < n → result leaves j ≡ other leaves j) where
  abbrev One : List Step → Got → Item → List Deed → Item → Type 0
  One = Along program launch buffers env later helps result rest

  abbrev Other : List Step → Got → Item → List Deed → Item → Type 0
  Other = Along program launch buffers env later helps other rest

  pub along_other : {steps : List Step} {got : Got} {from to : Item} {deeds : List Deed} → Each (IsBelow n) steps →
      One steps got from deeds to → Other steps got from deeds to
  along_other b (between d w g) = between d w g
  -- the history ends before an access
  along_other b (at_load r e site after a d i) = at_load r e site after a d i
  along_other b (at_store {m = m} {c = c} {j = j} {got = got} {to = to} r e site after a d i) =
      at_store r e site after a d (subst (λ v. item_next program launch to ≡ Stores site
      (object_at program launch to r) (index_of got m c) (bytes_of (type_in (kind_at m)) v) after)
      (same got.leaves j b.0) i)
  along_other b (behind d e h) = behind d e h
  along_other b (in_offset r e a d s) = in_offset r e a d s
  along_other b (offset r e v a d s al) = offset r e v a d s (along_other b.1 al)
  along_other b (in_number e a d s) = in_number e a d s
  along_other b (number e v a d s k al) = number e v a d s k (along_other b.1 al)
  along_other b (copy y a d k al) = copy y a d k (along_other b.1 al)
  along_other b (load r e site bytes a d once al) = load r e site bytes a d once (along_other b.1 al)
  along_other b (store {m = m} {c = c} {j = j} {steps = steps} {got = got} {from = from} {start = start} {mid = mid}
      {to = to} {deeds = deeds} r e site a d once al) =
      let wrote : ℤ → Deed = λ v. Wrote site (object_at program launch start r) (index_of got m c)
      (bytes_of (type_in (kind_at m)) v) in
      let q = same got.leaves j b.0 in
      subst (λ v. Other (Store m c j ∷ steps) got from (wrote v ∷ deeds) to) (sym q)
      (store r e site a d (subst (λ v. Accesses program launch buffers start (wrote v) mid) q once)
      (along_other b.1 al))
  along_other b (set {x = x} {c = c} {j = j} {steps = steps} {got = got} {from = from} {mid = mid} of y a d al) =
      set of y a (subst (λ v. Advances program launch buffers helps (sets_one y v) rest from mid)
      (same got.leaves j b.0) d) (along_other b.1 al)

-- Statements that do the steps with the one result do them with the other.
pub does_other : (program : Program) (env later : Env) (steps : List Step) (n : ℕ) (result other : Leaves → Worth)
    (ss : Statements) → ((leaves : Leaves) (j : ℕ) → j < n → result leaves j ≡ other leaves j) →
    Each (IsBelow n) steps → DoSteps program env later steps result ss → DoSteps program env later steps other ss
does_other program env later steps n result other ss same below d launch buffers at k rest from to frame frames deeds
    comes fr ts h =
    along_other program launch buffers env later (Helps env steps) rest n result other same below
    (d launch buffers at k rest from to frame frames deeds comes fr ts h)

-- ---- what is set, as a list

pub vec_at : (leaves : Leaves) (n : ℕ) (m : Mark) (j : ℕ) → j < n →
    nth (map (worth_of leaves m) (numbers 0 1 n)) j ≡ worth_of leaves m j
vec_at leaves n m j l =
    ap (λ z. unwrap_or z (pos 0)) (numbered (worth_of leaves m) 0 n j l) ∙
    ap (worth_of leaves m) (let q : 0 + j ≡ j = omega arith in q)

joined_at : (op : Bin) (of : IntType) (f g : ℕ → ℤ) (cs : List ℕ) (first j : ℕ) → j < length cs →
    nth (joined_list op of (map f cs) (map g (numbers first 1 (length cs)))) j ≡
    joined_value op of (f (slice_index cs j)) (g (first + j))
joined_at op of f g [] first j l = absurd (omega arith)
joined_at op of f g (c ∷ cs) first zero l =
    ap (λ z. joined_value op of (f c) (g z)) (let q : first ≡ first + 0 = omega arith in q)
joined_at op of f g (c ∷ cs) first (suc j) l =
    joined_at op of f g cs (first + 1) j (omega arith) ∙
    ap (λ z. joined_value op of (f (slice_index cs j)) (g z)) (let q : first + 1 + j ≡ first + suc j = omega arith in q)

-- each component that an assignment sets is that of the list
pub set_listed : (o : Option Bin) (a : Assigned) (leaves : Leaves) (j : ℕ) → j < length a.components →
    set_by o a leaves j ≡ nth (set_list_by o (length a.components) a leaves) j
set_listed None a leaves j l = sym (vec_at leaves (length a.components) a.value j l)
set_listed (Some op) a leaves j l =
    sym (joined_at op a.of (leaves.component a.target.first) (worth_of leaves a.value) a.components 0 j l ∙
    ap (λ z. joined_value op a.of (leaves.component a.target.first (slice_index a.components j))
    (worth_of leaves a.value z)) (let q : 0 + j ≡ j = omega arith in q))
