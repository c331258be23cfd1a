-- Tasks behind a way out, and values taken from the list of values.
use Rattle.std.proofs.Common.{◌≡◌, ℕ, zero, suc, ◌+◌, ℤ, Bool, true, false, cond, List, [], ◌∷◌, ◌++◌, length, Option}
use Rattle.std.proofs.Common.{Some, None, refl, sym, ap, ◌∙◌, arith}
use Rattle.cl_model.specs.Tree.{Expression, Expressions, none, more, Statement, Statements, empty, also, Arms, no_arm}
use Rattle.cl_model.specs.Tree.{arm}
use Rattle.cl_model.specs.Task.{Arm, Point, Task, InCall, InLoop, Item}
use Rattle.cl_model.specs.Steps.{taken_onto, taken, below, count_of, in_order, test_tasks, step_tasks, behind_break}
use Rattle.cl_model.specs.Steps.{behind_continue, behind_return, has_label, Entry, nowhere, entry, labelled}
use Rattle.cl_model.specs.Steps.{defaulted, or_else, entry_of, arm_tasks, entry_tasks}
use Rattle.diverge_sound.proofs.Ran.{Held, Who, EvalAll, arm_count, entry_number, entered}

-- values that came one after another, the last first
abbrev pub onto : List ℤ → List ℤ → List ℤ
onto [] values = values
onto (x ∷ xs) values = onto xs (x ∷ values)

taken_onto_all : (xs values front : List ℤ) (m : ℕ) → taken_onto (length xs + m) (onto xs values) front ≡
    taken_onto m values (xs ++ front)
taken_onto_all [] values front m = let e : 0 + m ≡ m = omega arith in ap (λ k. taken_onto k values front) e
taken_onto_all (x ∷ xs) values front m =
    let e : length (x ∷ xs) + m ≡ length xs + suc m = omega arith in
    ap (λ k. taken_onto k (onto xs (x ∷ values)) front) e ∙ taken_onto_all xs (x ∷ values) front (suc m)

below_all : (xs values : List ℤ) (m : ℕ) → below (length xs + m) (onto xs values) ≡ below m values
below_all [] values m = let e : 0 + m ≡ m = omega arith in ap (λ k. below k values) e
below_all (x ∷ xs) values m =
    let e : length (x ∷ xs) + m ≡ length xs + suc m = omega arith in
    ap (λ k. below k (onto xs (x ∷ values))) e ∙ below_all xs (x ∷ values) (suc m)

append_none : (xs : List ℤ) → xs ++ [] ≡ xs
append_none [] = refl
append_none (x ∷ xs) = ap (λ ys. x ∷ ys) (append_none xs)

pub taken_all : (xs values : List ℤ) (n : ℕ) → length xs ≡ n → taken n (onto xs values) ≡ xs
taken_all xs values n e = let q : n ≡ length xs + 0 =
    omega (arith, e) in ap (λ k. taken k (onto xs values)) q ∙ taken_onto_all xs values [] 0 ∙ append_none xs

pub below_taken : (xs values : List ℤ) (n : ℕ) → length xs ≡ n → below n (onto xs values) ≡ values
below_taken xs values n e = let q : n ≡ length xs + 0 =
    omega (arith, e) in ap (λ k. below k (onto xs values)) q ∙ below_all xs values 0

pub count_is : (w : Who) (es : Expressions) (from : Held) (args : List ℤ) (to : Held) → EvalAll w es from args to →
    length args ≡ count_of es
count_is w none from args to (a, b) = ap length a
count_is w (more e rest) from args to (x, xs, mid, h, g, is) = let c =
    count_is w rest mid xs to g in ap length is ∙ ap suc c

-- ways out, through the tasks of a list, of arms and of a loop

pub break_in_order : (at : Point) (k : ℕ) (list : Statements) (tasks : List Task) →
    behind_break (in_order at k list tasks) ≡ behind_break tasks
break_in_order at k empty tasks = refl
break_in_order at k (also s rest) tasks = break_in_order at (suc k) rest tasks

pub continue_in_order : (at : Point) (k : ℕ) (list : Statements) (tasks : List Task) →
    behind_continue (in_order at k list tasks) ≡ behind_continue tasks
continue_in_order at k empty tasks = refl
continue_in_order at k (also s rest) tasks = continue_in_order at (suc k) rest tasks

pub return_in_order : (i : Item) (values : List ℤ) (at : Point) (k : ℕ) (list : Statements) (tasks : List Task) →
    behind_return i (in_order at k list tasks) values ≡ behind_return i tasks values
return_in_order i values at k empty tasks = refl
return_in_order i values at k (also s rest) tasks = return_in_order i values at (suc k) rest tasks

pub break_arms : (at : Point) (k : ℕ) (arms : Arms) (tasks : List Task) →
    behind_break (arm_tasks at k arms tasks) ≡ behind_break tasks
break_arms at k no_arm tasks = refl
break_arms at k (arm labels other body rest) tasks =
    break_in_order (at ++ Arm k ∷ []) 0 body (arm_tasks at (suc k) rest tasks) ∙ break_arms at (suc k) rest tasks

pub continue_arms : (at : Point) (k : ℕ) (arms : Arms) (tasks : List Task) →
    behind_continue (arm_tasks at k arms tasks) ≡ behind_continue tasks
continue_arms at k no_arm tasks = refl
continue_arms at k (arm labels other body rest) tasks =
    continue_in_order (at ++ Arm k ∷ []) 0 body (arm_tasks at (suc k) rest tasks) ∙ continue_arms at (suc k) rest tasks

pub return_arms : (i : Item) (values : List ℤ) (at : Point) (k : ℕ) (arms : Arms) (tasks : List Task) →
    behind_return i (arm_tasks at k arms tasks) values ≡ behind_return i tasks values
return_arms i values at k no_arm tasks = refl
return_arms i values at k (arm labels other body rest) tasks =
    return_in_order i values (at ++ Arm k ∷ []) 0 body (arm_tasks at (suc k) rest tasks) ∙
    return_arms i values at (suc k) rest tasks

module _ (at : Point) (site : ℕ) (k : ℕ) (body : Statement) (rest : List Task) where
  abbrev pub turn_tasks : (t st : Option Expression) → List Task
  turn_tasks t st = step_tasks at k st (test_tasks at k t (InLoop at site t st body k ∷ rest))

  pub break_turn : (t st : Option Expression) → behind_break (turn_tasks t st) ≡ rest
  break_turn None None = refl
  break_turn None (Some d) = refl
  break_turn (Some e) None = refl
  break_turn (Some e) (Some d) = refl

  pub continue_turn : (t st : Option Expression) → behind_continue (turn_tasks t st) ≡ turn_tasks t st
  continue_turn None None = refl
  continue_turn None (Some d) = refl
  continue_turn (Some e) None = refl
  continue_turn (Some e) (Some d) = refl

  pub return_turn : (i : Item) (values : List ℤ) (t st : Option Expression) →
      behind_return i (turn_tasks t st) values ≡ behind_return i rest values
  return_turn i values None None = refl
  return_turn i values None (Some d) = refl
  return_turn i values (Some e) None = refl
  return_turn i values (Some e) (Some d) = refl

-- behind a return only the number and the frames of the item count
pub return_same : (i j : Item) (tasks : List Task) (values : List ℤ) → i.number ≡ j.number → i.frames ≡ j.frames →
    behind_return i tasks values ≡ behind_return j tasks values
return_same i j [] values a b = ap (λ n. record { number = n; tasks = []; values = values; frames = i.frames }) a ∙
    ap (λ fs. record { number = j.number; tasks = []; values = values; frames = fs }) b
return_same i j (InCall at site ∷ rest) values a b =
    ap (λ n. behind_return (record { number = n; tasks = []; values = []; frames = i.frames }) (InCall at site ∷ rest)
    values) a ∙ ap (λ fs. behind_return (record { number = j.number; tasks = []; values = []; frames = fs })
    (InCall at site ∷ rest) values) b
return_same i j (_ ∷ rest) values a b = return_same i j rest values a b

-- arms from one on, and where a switch is entered

abbrev pub arms_from : ℕ → Arms → Arms
arms_from k no_arm = no_arm
arms_from zero (arm labels other body rest) = arm labels other body rest
arms_from (suc k) (arm labels other body rest) = arms_from k rest

abbrev EntryIs : ℕ → Arms → Entry → Type 0
EntryIs b arms nowhere = Unit {0}
EntryIs b arms (entry k rest) = (i : ℕ) × (k ≡ b + i) × (rest ≡ arms_from i arms)

one_later : (b : ℕ) (labels : List ℤ) (other : Bool) (body : Statements) (rest : Arms) (e : Entry) →
    EntryIs (suc b) rest e → EntryIs b (arm labels other body rest) e
one_later b labels other body rest nowhere h = tt
one_later b labels other body rest (entry k arms) (i, q, is) = (suc i, omega arith, is)

labelled_is : (v : ℤ) (b : ℕ) (arms : Arms) → EntryIs b arms (labelled v b arms)
labelled_is v b no_arm = tt
labelled_is v b (arm labels other body rest) =
    elim (has_label v labels) as (λ c. EntryIs b (arm labels other body rest)
    (cond c (entry b (arm labels other body rest)) (labelled v (suc b) rest))) [
      | true ↦ (0, omega arith, refl)
      | false ↦ one_later b labels other body rest (labelled v (suc b) rest) (labelled_is v (suc b) rest)
    ]

defaulted_is : (b : ℕ) (arms : Arms) → EntryIs b arms (defaulted b arms)
defaulted_is b no_arm = tt
defaulted_is b (arm labels other body rest) =
    elim other as (λ c. EntryIs b (arm labels other body rest) (cond c (entry b (arm labels other body rest))
    (defaulted (suc b) rest))) [
      | true ↦ (0, omega arith, refl)
      | false ↦ one_later b labels other body rest (defaulted (suc b) rest) (defaulted_is (suc b) rest)
    ]

or_else_is : (b : ℕ) (arms : Arms) (one two : Entry) → EntryIs b arms one → EntryIs b arms two →
    EntryIs b arms (or_else one two)
or_else_is b arms nowhere two h g = g
or_else_is b arms (entry k rest) two h g = h

no_arms_left : (arms : Arms) → arms_from (arm_count arms) arms ≡ no_arm
no_arms_left no_arm = refl
no_arms_left (arm labels other body rest) = no_arms_left rest

pub entry_is : (at : Point) (v : ℤ) (arms : Arms) (tasks : List Task) →
    entry_tasks at (entry_of v arms) tasks ≡ arm_tasks at (entered v arms) (arms_from (entered v arms) arms) tasks
entry_is at v arms tasks = by_entry (entry_of v arms) (or_else_is 0 arms (labelled v 0 arms) (defaulted 0 arms)
    (labelled_is v 0 arms) (defaulted_is 0 arms))
  where
    by_entry : (e : Entry) → EntryIs 0 arms e →
        entry_tasks at e tasks ≡ arm_tasks at (entry_number e (arm_count arms))
        (arms_from (entry_number e (arm_count arms)) arms) tasks
    by_entry nowhere h = sym (ap (λ x. arm_tasks at (arm_count arms) x tasks) (no_arms_left arms))
    by_entry (entry k rest) (i, q, is) = let e : i ≡ k =
        omega arith in ap (λ x. arm_tasks at k x tasks) (is ∙ ap (λ j. arms_from j arms) e)
