-- Ways out: which of them the code knows, and where the program's item goes on.
use Rattle.std.proofs.Common.{◌≡◌, ℕ, suc, ℤ, List, [], ◌∷◌, Option, Some, None, refl, sym, ap, ◌∙◌, true, false}
use Rattle.std.proofs.Common.{if◌then◌else◌, ◌⊎◌, inl, inr, ⊎_elim}
use Rattle.std.proofs.Common.{Bool as Test}
use Rattle.std.specs.Prelude.{◌||◌}
use Rattle.std.proofs.lemmas.Bool.{true≢false}
use Rattle.std.proofs.lemmas.Option.{none-some}
use Rattle.cl_model.specs.Tree.{Expression, Statement, Do, Declare, Fill, Block, If, Loop, Switch, Break, Continue}
use Rattle.cl_model.specs.Tree.{Return, Barrier, Statements, empty, also, Arms, no_arm, arm}
use Rattle.cl_model.specs.Task.{Task, Run, Evaluate, Finish, Peek, Alter, Decide, Enter, InCall, Discard, Keep, Clear}
use Rattle.cl_model.specs.Task.{Initialise, Branch, InLoop, Select, InSwitch, Leave, Frame, Point as ProgramPoint}
use Rattle.cl_model.specs.Task.{Item as ProgramItem}
use Rattle.cl_model.specs.Steps.{in_order, step_tasks, test_tasks, behind_break, behind_continue, behind_return}
use Rattle.kir_lower.specs.Ways.{first_of, way_out, way_out_of_all, way_out_of_arms}
use Rattle.kir_lower_simulation.specs.Setting.{Setting, Store, program_item, Activation, frame, inside}
use Rattle.kir_lower_simulation.specs.Exits.{Exit, Continues, Breaks, Returns, unwound, leaves, some_leave, arms_leave}

-- ---- tests

pub or_cases : (a b : Test) → (a || b) ≡ true → (a ≡ true) ⊎ (b ≡ true)
or_cases true b h = inl refl
or_cases false b h = inr h

pub or_left : (a b : Test) → a ≡ true → (a || b) ≡ true
or_left true b h = refl
or_left false b h = absurd (true≢false (sym h))

pub or_right : (a b : Test) → b ≡ true → (a || b) ≡ true
or_right true b h = refl
or_right false b h = h

-- ---- the way out that the code knows

-- the way out is asked for
abbrev pub asked : Exit → (breaks continues : Test) → Test
asked Continues breaks continues = continues
asked Breaks breaks continues = breaks
asked Returns breaks continues = true

-- there is a site
abbrev pub IsThere : Option ℕ → Type 0
IsThere o = (site : ℕ) × (o ≡ Some site)

there_first : (a b : Option ℕ) → IsThere a → IsThere (first_of a b)
there_first None b h = absurd (none-some h.0 h.1)
there_first (Some s) b h = (s, refl)

there_second : (a b : Option ℕ) → IsThere b → IsThere (first_of a b)
there_second None b h = h
there_second (Some s) b h = (s, refl)

there_if : (b : Test) (site : ℕ) → b ≡ true → IsThere (if b then Some site else None)
there_if true site h = (site, refl)
there_if false site h = absurd (true≢false (sym h))

mutual
  pub leaves_way : (x : Exit) (b c : Test) (s : Statement) → asked x b c ≡ true → leaves x s ≡ true →
      IsThere (way_out b c s)
  leaves_way x b c (Do e) a h = absurd (true≢false (sym h))
  leaves_way x b c (Declare y value) a h = absurd (true≢false (sym h))
  leaves_way x b c (Fill site array values) a h = absurd (true≢false (sym h))
  leaves_way x b c (Block list) a h = list_way x b c list a h
  leaves_way x b c (If site test chosen other) a h =
      ⊎_elim (λ k. there_first (way_out_of_all b c chosen) (way_out_of_all b c other) (list_way x b c chosen a k))
      (λ k. there_second (way_out_of_all b c chosen) (way_out_of_all b c other) (list_way x b c other a k))
      (or_cases (some_leave x chosen) (some_leave x other) h)
  leaves_way Continues b c (Loop site test_first test step body) a h = absurd (true≢false (sym h))
  leaves_way Breaks b c (Loop site test_first test step body) a h = absurd (true≢false (sym h))
  leaves_way Returns b c (Loop site test_first test step body) a h = leaves_way Returns false false body refl h
  leaves_way Continues b c (Switch site value arms) a h = arms_way Continues false c arms a h
  leaves_way Breaks b c (Switch site value arms) a h = absurd (true≢false (sym h))
  leaves_way Returns b c (Switch site value arms) a h = arms_way Returns false c arms refl h
  leaves_way Continues b c (Break site) a h = absurd (true≢false (sym h))
  leaves_way Breaks b c (Break site) a h = there_if b site a
  leaves_way Returns b c (Break site) a h = absurd (true≢false (sym h))
  leaves_way Continues b c (Continue site) a h = there_if c site a
  leaves_way Breaks b c (Continue site) a h = absurd (true≢false (sym h))
  leaves_way Returns b c (Continue site) a h = absurd (true≢false (sym h))
  leaves_way x b c (Return site value) a h = (site, refl)
  leaves_way x b c (Barrier site) a h = absurd (true≢false (sym h))

  pub list_way : (x : Exit) (b c : Test) (list : Statements) → asked x b c ≡ true → some_leave x list ≡ true →
      IsThere (way_out_of_all b c list)
  list_way x b c empty a h = absurd (true≢false (sym h))
  list_way x b c (also s rest) a h =
      ⊎_elim (λ k. there_first (way_out b c s) (way_out_of_all b c rest) (leaves_way x b c s a k))
      (λ k. there_second (way_out b c s) (way_out_of_all b c rest) (list_way x b c rest a k))
      (or_cases (leaves x s) (some_leave x rest) h)

  pub arms_way : (x : Exit) (b c : Test) (arms : Arms) → asked x b c ≡ true → arms_leave x arms ≡ true →
      IsThere (way_out_of_arms b c arms)
  arms_way x b c no_arm a h = absurd (true≢false (sym h))
  arms_way x b c (arm labels other body rest) a h =
      ⊎_elim (λ k. there_first (way_out_of_all b c body) (way_out_of_arms b c rest) (list_way x b c body a k))
      (λ k. there_second (way_out_of_all b c body) (way_out_of_arms b c rest) (arms_way x b c rest a k))
      (or_cases (some_leave x body) (arms_leave x rest) h)

-- every way out is asked for
pub all_asked : (x : Exit) → asked x true true ≡ true
all_asked Continues = refl
all_asked Breaks = refl
all_asked Returns = refl

-- where the code knows none there is none
pub none_left : (x : Exit) (s : Statement) → way_out true true s ≡ None → leaves x s ≡ true → ⊥
none_left x s e h = let k = leaves_way x true true s (all_asked x) h in none-some k.0 (sym e ∙ k.1)

first_none : (a b : Option ℕ) → first_of a b ≡ None → a ≡ None
first_none None b e = refl
first_none (Some s) b e = e

second_none : (a b : Option ℕ) → first_of a b ≡ None → b ≡ None
second_none None b e = e
second_none (Some s) b e = absurd (none-some s (sym e))

both_none : (a b : Option ℕ) → a ≡ None → b ≡ None → first_of a b ≡ None
both_none a b e f = ap (λ z. first_of z b) e ∙ f

-- with fewer ways out
mutual
  pub fewer_none : (b c : Test) (s : Statement) → way_out true true s ≡ None → way_out b c s ≡ None
  fewer_none b c (Do e) h = refl
  fewer_none b c (Declare x value) h = refl
  fewer_none b c (Fill site array values) h = refl
  fewer_none b c (Block list) h = fewer_none_all b c list h
  fewer_none b c (If site test chosen other) h =
      both_none (way_out_of_all b c chosen) (way_out_of_all b c other)
      (fewer_none_all b c chosen (first_none (way_out_of_all true true chosen) (way_out_of_all true true other)
      h)) (fewer_none_all b c other (second_none (way_out_of_all true true chosen)
      (way_out_of_all true true other) h))
  fewer_none b c (Loop site test_first test step body) h = h
  fewer_none true true (Switch site value arms) h = h
  fewer_none false true (Switch site value arms) h = h
  fewer_none b false (Switch site value arms) h = fewer_none_false arms h
  fewer_none b c (Break site) h = absurd (none-some site (sym h))
  fewer_none b c (Continue site) h = absurd (none-some site (sym h))
  fewer_none b c (Return site value) h = absurd (none-some site (sym h))
  fewer_none b c (Barrier site) h = refl

  pub fewer_none_all : (b c : Test) (list : Statements) → way_out_of_all true true list ≡ None →
      way_out_of_all b c list ≡ None
  fewer_none_all b c empty h = refl
  fewer_none_all b c (also s rest) h =
      both_none (way_out b c s) (way_out_of_all b c rest)
      (fewer_none b c s (first_none (way_out true true s) (way_out_of_all true true rest) h))
      (fewer_none_all b c rest (second_none (way_out true true s) (way_out_of_all true true rest) h))

  -- with fewer than without a `break`
  fewer_none_false : (arms : Arms) → way_out_of_arms false true arms ≡ None → way_out_of_arms false false arms ≡ None
  fewer_none_false no_arm h = refl
  fewer_none_false (arm labels other body rest) h =
      both_none (way_out_of_all false false body) (way_out_of_arms false false rest)
      (no_continue_all body (first_none (way_out_of_all false true body) (way_out_of_arms false true rest) h))
      (fewer_none_false rest (second_none (way_out_of_all false true body) (way_out_of_arms false true rest) h))

  no_continue : (s : Statement) → way_out false true s ≡ None → way_out false false s ≡ None
  no_continue (Do e) h = refl
  no_continue (Declare x value) h = refl
  no_continue (Fill site array values) h = refl
  no_continue (Block list) h = no_continue_all list h
  no_continue (If site test chosen other) h =
      both_none (way_out_of_all false false chosen) (way_out_of_all false false other)
      (no_continue_all chosen (first_none (way_out_of_all false true chosen) (way_out_of_all false true other) h))
      (no_continue_all other (second_none (way_out_of_all false true chosen) (way_out_of_all false true other) h))
  no_continue (Loop site test_first test step body) h = h
  no_continue (Switch site value arms) h = fewer_none_false arms h
  no_continue (Break site) h = refl
  no_continue (Continue site) h = absurd (none-some site (sym h))
  no_continue (Return site value) h = absurd (none-some site (sym h))
  no_continue (Barrier site) h = refl

  no_continue_all : (list : Statements) → way_out_of_all false true list ≡ None → way_out_of_all false false list ≡ None
  no_continue_all empty h = refl
  no_continue_all (also s rest) h =
      both_none (way_out false false s) (way_out_of_all false false rest)
      (no_continue s (first_none (way_out false true s) (way_out_of_all false true rest) h))
      (no_continue_all rest (second_none (way_out false true s) (way_out_of_all false true rest) h))

pub arms_fewer_none : (b c : Test) (arms : Arms) → way_out_of_arms true true arms ≡ None →
    way_out_of_arms b c arms ≡ None
arms_fewer_none b c no_arm h = refl
arms_fewer_none b c (arm labels other body rest) h =
    both_none (way_out_of_all b c body) (way_out_of_arms b c rest)
    (fewer_none_all b c body (first_none (way_out_of_all true true body) (way_out_of_arms true true rest) h))
    (arms_fewer_none b c rest (second_none (way_out_of_all true true body) (way_out_of_arms true true rest) h))

-- ---- where the program goes on

-- where a return leads does not depend on what is left to do
pub return_same : (S : Setting) (us us' : List Task) (ws ws' : List ℤ) (fs : List Frame) (ts : List Task)
    (vs : List ℤ) → behind_return (program_item S us ws fs) ts vs ≡ behind_return (program_item S us' ws' fs) ts vs
return_same S us us' ws ws' fs [] vs = refl
return_same S us us' ws ws' fs (InCall at site ∷ ts) vs = refl
return_same S us us' ws ws' fs (Run at s ∷ ts) vs = return_same S us us' ws ws' fs ts vs
return_same S us us' ws ws' fs (Evaluate at e ∷ ts) vs = return_same S us us' ws ws' fs ts vs
return_same S us us' ws ws' fs (Finish at action count ∷ ts) vs = return_same S us us' ws ws' fs ts vs
return_same S us us' ws ws' fs (Peek at site element root ∷ ts) vs = return_same S us us' ws ws' fs ts vs
return_same S us us' ws ws' fs (Alter at site element root op of back old ∷ ts) vs =
    return_same S us us' ws ws' fs ts vs
return_same S us us' ws ws' fs (Decide at chosen other ∷ ts) vs = return_same S us us' ws ws' fs ts vs
return_same S us us' ws ws' fs (Enter at site function roots count ∷ ts) vs = return_same S us us' ws ws' fs ts vs
return_same S us us' ws ws' fs (Discard at ∷ ts) vs = return_same S us us' ws ws' fs ts vs
return_same S us us' ws ws' fs (Keep at x ∷ ts) vs = return_same S us us' ws ws' fs ts vs
return_same S us us' ws ws' fs (Clear at site array count ∷ ts) vs = return_same S us us' ws ws' fs ts vs
return_same S us us' ws ws' fs (Initialise at site array index value ∷ ts) vs = return_same S us us' ws ws' fs ts vs
return_same S us us' ws ws' fs (Branch at chosen other ∷ ts) vs = return_same S us us' ws ws' fs ts vs
return_same S us us' ws ws' fs (InLoop at site test step body begun ∷ ts) vs = return_same S us us' ws ws' fs ts vs
return_same S us us' ws ws' fs (Select at site arms ∷ ts) vs = return_same S us us' ws ws' fs ts vs
return_same S us us' ws ws' fs (InSwitch at site ∷ ts) vs = return_same S us us' ws ws' fs ts vs
return_same S us us' ws ws' fs (Leave at ∷ ts) vs = return_same S us us' ws ws' fs ts vs

-- statements in order hold no marker
pub break_order : (at : ProgramPoint) (k : ℕ) (list : Statements) (ts : List Task) →
    behind_break (in_order at k list ts) ≡ behind_break ts
break_order at k empty ts = refl
break_order at k (also s rest) ts = break_order at (suc k) rest ts

pub continue_order : (at : ProgramPoint) (k : ℕ) (list : Statements) (ts : List Task) →
    behind_continue (in_order at k list ts) ≡ behind_continue ts
continue_order at k empty ts = refl
continue_order at k (also s rest) ts = continue_order at (suc k) rest ts

pub return_order : (i : ProgramItem) (at : ProgramPoint) (k : ℕ) (list : Statements) (ts : List Task) (vs : List ℤ) →
    behind_return i (in_order at k list ts) vs ≡ behind_return i ts vs
return_order i at k empty ts vs = refl
return_order i at k (also s rest) ts vs = return_order i at (suc k) rest ts vs

module _ (S : Setting) (C : Activation) where
  pub unwound_order : (x : Exit) (v : ℤ) (at : ProgramPoint) (k : ℕ) (list : Statements) (ts : List Task)
      (vs : List ℤ) (vars : Store) → unwound (Some x) v (inside S C (in_order at k list ts) vs vars) ≡
      unwound (Some x) v (inside S C ts vs vars)
  unwound_order Continues v at k list ts vs vars = ap (λ z. inside S C z vs vars) (continue_order at k list ts)
  unwound_order Breaks v at k list ts vs vars = ap (λ z. inside S C z vs vars) (break_order at k list ts)
  unwound_order Returns v at k list ts vs vars =
      return_order (inside S C (in_order at k list ts) vs vars) at k list ts (v ∷ vs) ∙
      return_same S (in_order at k list ts) ts vs vs (frame C vars ∷ C.outer) ts (v ∷ vs)

  -- from a loop's body
  pub continue_round : (v : ℤ) (at : ProgramPoint) (site k : ℕ) (test step : Option Expression) (body : Statement)
      (ts : List Task) (vs : List ℤ) (vars : Store)
      → unwound (Some Continues) v (inside S C
      (step_tasks at k step (test_tasks at k test (InLoop at site test step body k ∷ ts))) vs vars) ≡
      inside S C (step_tasks at k step (test_tasks at k test (InLoop at site test step body k ∷ ts))) vs vars
  continue_round v at site k None None body ts vs vars = refl
  continue_round v at site k (Some t) None body ts vs vars = refl
  continue_round v at site k None (Some e) body ts vs vars = refl
  continue_round v at site k (Some t) (Some e) body ts vs vars = refl

  pub break_round : (v : ℤ) (at : ProgramPoint) (site k : ℕ) (test step : Option Expression) (body : Statement)
      (ts : List Task) (vs : List ℤ) (vars : Store)
      → unwound (Some Breaks) v (inside S C
      (step_tasks at k step (test_tasks at k test (InLoop at site test step body k ∷ ts))) vs vars) ≡
      inside S C ts vs vars
  break_round v at site k None None body ts vs vars = refl
  break_round v at site k (Some t) None body ts vs vars = refl
  break_round v at site k None (Some e) body ts vs vars = refl
  break_round v at site k (Some t) (Some e) body ts vs vars = refl

  pub return_round : (v : ℤ) (at : ProgramPoint) (site k : ℕ) (test step : Option Expression) (body : Statement)
      (ts : List Task) (vs : List ℤ) (vars : Store)
      → unwound (Some Returns) v (inside S C
      (step_tasks at k step (test_tasks at k test (InLoop at site test step body k ∷ ts))) vs vars) ≡
      unwound (Some Returns) v (inside S C ts vs vars)
  return_round v at site k None None body ts vs vars =
      return_same S (step_tasks at k None (test_tasks at k None (InLoop at site None None body k ∷ ts))) ts vs vs
      (frame C vars ∷ C.outer) ts (v ∷ vs)
  return_round v at site k (Some t) None body ts vs vars =
      return_same S (step_tasks at k None (test_tasks at k (Some t) (InLoop at site (Some t) None body k ∷ ts))) ts vs
      vs (frame C vars ∷ C.outer) ts (v ∷ vs)
  return_round v at site k None (Some e) body ts vs vars =
      return_same S (step_tasks at k (Some e) (test_tasks at k None (InLoop at site None (Some e) body k ∷ ts))) ts vs
      vs (frame C vars ∷ C.outer) ts (v ∷ vs)
  return_round v at site k (Some t) (Some e) body ts vs vars =
      return_same S (step_tasks at k (Some e) (test_tasks at k (Some t) (InLoop at site (Some t) (Some e) body k ∷
      ts))) ts vs vs (frame C vars ∷ C.outer) ts (v ∷ vs)
