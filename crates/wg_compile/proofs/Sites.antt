-- Each site at which the program of a group may end is one of its kernel's, so it has a place.
use Rattle.std.proofs.Common.{◌≡◌, ℕ, zero, suc, ◌+◌, ◌-◌, ◌<◌, List, [], ◌∷◌, length, Option, Some, None, true}
use Rattle.std.proofs.Common.{false, refl, subst, arith, ltb-true}
use Rattle.std.specs.Prelude.{nat_lt, nat_eq, ◌&&◌, slice_get, if◌then◌else◌}
use Rattle.std.specs.Prelude.{Bool as Test}
use Rattle.std.proofs.lemmas.Bool.{and_parts}
use Rattle.wg_num.specs.declared.types.Place.{Place}
use Rattle.wg_num.specs.declared.types.IntType.{IntType}
use Rattle.cl_model.specs.Tree.{Program}
use Rattle.cl_model.specs.Sizes.{Launch, group_count}
use Rattle.lane_code.specs.declared.step.Reg.{Reg}
use Rattle.lane_code.specs.declared.step.Step.{Step}
use Rattle.lane_code.specs.declared.step.Step.TheVariants.{Const, Copy, Unary, Binary, Builtin, Convert, Spread}
use Rattle.lane_code.specs.declared.step.Step.TheVariants.{First, Ask, Argument, Load, Store, Clear, ColumnGet}
use Rattle.lane_code.specs.declared.step.Step.TheVariants.{ColumnPut, OnceGet, OncePut, VoteGet, VotePut}
use Rattle.lane_code.specs.declared.step.Step.TheVariants.{Test as TestStep, MaskAnd, MaskOr, MaskLess, Jump}
use Rattle.lane_code.specs.declared.step.Step.TheVariants.{SkipNone, SkipZero, Turn, Mark}
use Rattle.lane_code.specs.declared.code.Counts.{Counts}
use Rattle.lane_code.specs.declared.end.RegionEnd.{RegionEnd}
use Rattle.lane_code.specs.declared.end.RegionEnd.TheVariants as end
use Rattle.lane_code.specs.declared.end.RunEnd.{RunEnd}
use Rattle.lane_code.specs.declared.end.RunEnd.TheVariants as run
use Rattle.lane_code.specs.Fits.{Names, all_steps, step_fits, code_fits}
use Rattle.lane_code.specs.Registers.{mask_of, scalar_of, lowest, is_some_set}
use Rattle.lane_code.specs.Groups.{Group, Reached, Buffer, Table, LocalObject, Own, Nothing, reached}
use Rattle.lane_code.specs.Acts.{Chunk, State, Act, On, Ahead, Back, Ends, act, loads, load_at, stores, store_at, marks}
use Rattle.lane_code.specs.Meaning.{Ended, follow, steps_end, out_of_turns, code_end, region_end, start_state}
use Rattle.lane_code.specs.Program.{PlainCode, Work, Items, Seq, Vote, Loop, Works, idle, then_work, Plain, names_of}
use Rattle.lane_code.specs.Program.{work_fits, works_fit, is_group_program}
use Rattle.lane_code.specs.Run.{GroupEnded, chunk_at, chunk_count, end_of, chunk_ended, after_done, then_next}
use Rattle.lane_code.specs.Run.{chunks_end, begun, finish, items_end, Verdict, Agreed, Refused, Mixed, verdict}
use Rattle.lane_code.specs.Run.{by_verdict, Doing, iteration, rounds, loop_end, work_end, works_end, RunEnded}
use Rattle.lane_code.specs.Run.{run_after, groups_end, start_group, program_end}
use Rattle.wg_compile.specs.Ends.{EndHasPlace}

-- ---- ends at sites below a number

-- the end of a region is at no site, or at one below the number
abbrev RegionBelow : ℕ → RegionEnd → Type 0
RegionBelow n end.Done = Unit {0}
RegionBelow n (end.Range l site) = site < n
RegionBelow n (end.AtBarrier l site) = site < n
RegionBelow n end.Turns = Unit {0}

-- the same of what a step leads to
abbrev ActBelow : ℕ → Act → Type 0
ActBelow n (On s) = Unit {0}
ActBelow n (Ahead target s) = Unit {0}
ActBelow n (Back target s) = Unit {0}
ActBelow n (Ends e s) = RegionBelow n e

-- the same of a run
abbrev RunBelow : ℕ → RunEnd → Type 0
RunBelow n run.Done = Unit {0}
RunBelow n (run.Range group item site) = site < n
RunBelow n (run.Parted group item site) = site < n
RunBelow n run.Turns = Unit {0}

less : (a b : ℕ) → nat_lt a b ≡ true → a < b
less a b e = ltb-true a b e

-- ---- a step

load_below : (n site : ℕ) (s : State) (to mask : Reg) (fault : Option ℕ) (lanes : List ℕ) → site < n →
    ActBelow n (loads s site to mask fault lanes)
load_below n site s to mask None lanes lt = tt
load_below n site s to mask (Some fault) lanes lt = lt

load_at_below : (n : ℕ) (chunk : Chunk) (s : State) (site : ℕ) (t : IntType) (index to mask : Reg)
    (object : Reached) → site < n → ActBelow n (load_at chunk s site t index to mask object)
load_at_below n chunk s site t index to mask (Own k) lt = load_below n site s to mask _ _ lt
load_at_below n chunk s site t index to mask (Buffer k) lt = load_below n site s to mask _ _ lt
load_at_below n chunk s site t index to mask (Table k) lt = load_below n site s to mask _ _ lt
load_at_below n chunk s site t index to mask (LocalObject k) lt = load_below n site s to mask _ _ lt
load_at_below n chunk s site t index to mask Nothing lt = load_below n site s to mask _ _ lt

store_below : (n site : ℕ) (fault : Option ℕ) (all : State) (below : ℕ → State) → site < n →
    ActBelow n (stores site fault all below)
store_below n site None all below lt = tt
store_below n site (Some fault) all below lt = lt

store_at_below : (n : ℕ) (chunk : Chunk) (s : State) (site : ℕ) (t : IntType) (index from mask : Reg)
    (object : Reached) → site < n → ActBelow n (store_at chunk s site t index from mask object)
store_at_below n chunk s site t index from mask (Own k) lt = store_below n site _ _ _ lt
store_at_below n chunk s site t index from mask (Buffer k) lt = store_below n site _ _ _ lt
store_at_below n chunk s site t index from mask (Table k) lt = store_below n site _ _ _ lt
store_at_below n chunk s site t index from mask (LocalObject k) lt = store_below n site _ _ _ lt
store_at_below n chunk s site t index from mask Nothing lt = store_below n site _ _ _ lt

mark_below : (n site : ℕ) (s : State) (lane : Option ℕ) → site < n → ActBelow n (marks s site lane)
mark_below n site s None lt = tt
mark_below n site s (Some l) lt = lt

choice_below : (n : ℕ) (test : Test) (a b : Act) → ActBelow n a → ActBelow n b → ActBelow n (if test then a else b)
choice_below n true a b ha hb = ha
choice_below n false a b ha hb = hb

act_below : (names : Names) (c : Counts) (e place : ℕ) (chunk : Chunk) (step : Step) (s : State) →
    step_fits names c e place step ≡ true → ActBelow names.sites (act chunk step s)
act_below names c e place chunk (Const to t value) s h = tt
act_below names c e place chunk (Copy to from mask) s h = tt
act_below names c e place chunk (Unary op t to a mask) s h = tt
act_below names c e place chunk (Binary op t to a b mask) s h = tt
act_below names c e place chunk (Builtin f t to a b d mask) s h = tt
act_below names c e place chunk (Convert to kind from was mask) s h = tt
act_below names c e place chunk (Spread to from) s h = tt
act_below names c e place chunk (First to from t mask) s h = tt
act_below names c e place chunk (Ask what to dim mask) s h = tt
act_below names c e place chunk (Argument number to mask) s h = tt
act_below names c e place chunk (Load site t root index to mask) s h =
    load_at_below names.sites chunk s site t index to mask (reached chunk.local_arrays chunk.launch root)
    (less site names.sites (and_parts _ _ (and_parts _ _ (and_parts _ _ (and_parts _ _ h).0).0).0).0)
act_below names c e place chunk (Store site t root index from mask) s h =
    store_at_below names.sites chunk s site t index from mask (reached chunk.local_arrays chunk.launch root)
    (less site names.sites (and_parts _ _ (and_parts _ _ (and_parts _ _ (and_parts _ _ h).0).0).0).0)
act_below names c e place chunk (Clear array mask) s h = tt
act_below names c e place chunk (ColumnGet column to) s h = tt
act_below names c e place chunk (ColumnPut column from mask) s h = tt
act_below names c e place chunk (OnceGet slot to) s h = tt
act_below names c e place chunk (OncePut slot from) s h = tt
act_below names c e place chunk (VoteGet to) s h = tt
act_below names c e place chunk (VotePut from mask) s h = tt
act_below names c e place chunk (TestStep to from mask) s h = tt
act_below names c e place chunk (MaskAnd to a b) s h = tt
act_below names c e place chunk (MaskOr to a b) s h = tt
act_below names c e place chunk (MaskLess to a b) s h = tt
act_below names c e place chunk (Jump target) s h = tt
act_below names c e place chunk (SkipNone mask target) s h =
    choice_below names.sites (is_some_set (mask_of s.registers mask)) (On s) (Ahead target s) tt tt
act_below names c e place chunk (SkipZero from target) s h =
    choice_below names.sites (nat_eq (scalar_of s.registers from) 0) (Ahead target s) (On s) tt tt
act_below names c e place chunk (Turn mask target) s h =
    choice_below names.sites (is_some_set (mask_of s.registers mask)) (Back target s) (On s) tt tt
act_below names c e place chunk (Mark site mask) s h =
    mark_below names.sites site s (lowest (mask_of s.registers mask)) (less site names.sites (and_parts _ _ h).0)

-- ---- a code

follow_below : (n turns : ℕ) (on : State → Ended) (ahead back : ℕ → State → Ended) (a : Act) →
    ((s : State) → RegionBelow n (on s).end) → ((target : ℕ) (s : State) → RegionBelow n (ahead target s).end)
    → ((target : ℕ) (s : State) → RegionBelow n (back target s).end) → ActBelow n a →
    RegionBelow n (follow turns on ahead back a).end
follow_below n turns on ahead back (On s) f g h a = f s
follow_below n turns on ahead back (Ahead target s) f g h a = g target s
follow_below n turns on ahead back (Back target s) f g h a = h target s
follow_below n turns on ahead back (Ends e s) f g h a = a

steps_below : (names : Names) (c : Counts) (e : ℕ) (chunk : Chunk) (turns : ℕ) (back : ℕ → State → Ended) →
    ((target : ℕ) (s : State) → RegionBelow names.sites (back target s).end)
    → (place here : ℕ) (steps : List Step) → all_steps (step_fits names c e) place steps ≡ true →
    (skip : ℕ) (s : State) → RegionBelow names.sites (steps_end chunk turns back here steps skip s).end
steps_below names c e chunk turns back b place here [] h skip s = tt
steps_below names c e chunk turns back b place here (step ∷ steps) h (suc skip) s =
    steps_below names c e chunk turns back b (suc place) (here + 1) steps
    (and_parts (step_fits names c e place step) (all_steps (step_fits names c e) (suc place) steps) h).1 skip s
steps_below names c e chunk turns back b place here (step ∷ steps) h zero s =
    let parts = and_parts (step_fits names c e place step) (all_steps (step_fits names c e) (suc place) steps) h in
    follow_below names.sites turns (steps_end chunk turns back (here + 1) steps 0)
    (λ target. steps_end chunk turns back (here + 1) steps (target - (here + 1))) back (act chunk step s)
    (λ s'. steps_below names c e chunk turns back b (suc place) (here + 1) steps parts.1 0 s')
    (λ target s'. steps_below names c e chunk turns back b (suc place) (here + 1) steps parts.1 (target - (here + 1))
    s')
    b (act_below names c e place chunk step s parts.0)

code_below : (names : Names) (c : Counts) (chunk : Chunk) (code : List Step) →
    all_steps (step_fits names c (length code)) 0 code ≡ true → (turns from : ℕ) (s : State) →
    RegionBelow names.sites (code_end chunk code turns from s).end
code_below names c chunk code h zero from s =
    steps_below names c (length code) chunk 0 out_of_turns (λ target s'. tt) 0 0 code h from s
code_below names c chunk code h (suc turns) from s =
    steps_below names c (length code) chunk (suc turns) (code_end chunk code turns) (λ target s'.
    code_below names c chunk code h turns target s') 0 0 code h from s

-- ---- a group

end_below : (n : ℕ) (chunk : Chunk) (e : RegionEnd) → RegionBelow n e → RunBelow n (end_of chunk e)
end_below n chunk end.Done h = tt
end_below n chunk (end.Range l site) h = h
end_below n chunk (end.AtBarrier l site) h = h
end_below n chunk end.Turns h = tt

after_below : (n : ℕ) (d : RunEnd) (e : GroupEnded) (next : Doing) → RunBelow n d → d ≡ e.end →
    ((turns : ℕ) (g : Group) (buffers : List (List ℕ)) → RunBelow n (next turns g buffers).end) →
    RunBelow n (after_done d e next).end
after_below n run.Done e next h same f = f e.turns e.group e.buffers
after_below n (run.Range g i s) e next h same f = subst (RunBelow n) same h
after_below n (run.Parted g i s) e next h same f = subst (RunBelow n) same h
after_below n run.Turns e next h same f = subst (RunBelow n) same h

next_below : (n : ℕ) (e : GroupEnded) (next : Doing) → RunBelow n e.end →
    ((turns : ℕ) (g : Group) (buffers : List (List ℕ)) → RunBelow n (next turns g buffers).end) →
    RunBelow n (then_next e next).end
next_below n e next h f = after_below n e.end e next h refl f

-- a code that fits, with as many sites as the kernel
module _ (p : Plain) (launch : Launch) (group : ℕ) where
  chunks_below : (code : PlainCode) → code_fits (names_of p) code.counts code.steps ≡ true →
      (chunk count turns : ℕ) (g : Group) (buffers : List (List ℕ)) →
      RunBelow (length p.sites) (chunks_end p launch group code chunk count turns g buffers).end
  chunks_below code h chunk zero turns g buffers = tt
  chunks_below code h chunk (suc count) turns g buffers =
      let at = chunk_at p launch group chunk in
      let e = region_end at code.steps code.counts turns g buffers in
      next_below (length p.sites) (chunk_ended at e) (chunks_end p launch group code (suc chunk) count)
      (end_below (length p.sites) at e.end (code_below (names_of p) code.counts at code.steps
      (and_parts _ (all_steps (step_fits (names_of p) code.counts (length code.steps)) 0 code.steps) h).1
      turns 0 (start_state at code.counts g buffers)))
      (λ t k b. chunks_below code h (suc chunk) count t k b)

  items_below : (code : PlainCode) → code_fits (names_of p) code.counts code.steps ≡ true →
      (turns : ℕ) (g : Group) (buffers : List (List ℕ)) →
      RunBelow (length p.sites) (items_end p launch group code turns g buffers).end
  items_below code h turns g buffers =
      next_below (length p.sites) (chunks_end p launch group code 0 (chunk_count p launch) turns (begun g) buffers)
      finish
      (chunks_below code h 0 (chunk_count p launch) turns (begun g) buffers) (λ t k b. tt)

verdict_below : (n : ℕ) (v : Verdict) (a b c : GroupEnded) → RunBelow n a.end → RunBelow n b.end → RunBelow n c.end →
    RunBelow n (by_verdict v a b c).end
verdict_below n Agreed a b c ha hb hc = ha
verdict_below n Refused a b c ha hb hc = hb
verdict_below n Mixed a b c ha hb hc = hc

iteration_below : (n : ℕ) (body : Doing) (turns : ℕ) (g : Group) (buffers : List (List ℕ)) (next : Doing) →
    ((t : ℕ) (k : Group) (b : List (List ℕ)) → RunBelow n (body t k b).end) →
    ((t : ℕ) (k : Group) (b : List (List ℕ)) → RunBelow n (next t k b).end)
    → RunBelow n (iteration body turns g buffers next).end
iteration_below n body zero g buffers next hb hn = tt
iteration_below n body (suc turns) g buffers next hb hn =
    next_below n (body turns g buffers) next (hb turns g buffers) hn

rounds_below : (n : ℕ) (test body rest : Doing) →
    ((t : ℕ) (k : Group) (b : List (List ℕ)) → RunBelow n (test t k b).end) →
    ((t : ℕ) (k : Group) (b : List (List ℕ)) → RunBelow n (body t k b).end) →
    ((t : ℕ) (k : Group) (b : List (List ℕ)) → RunBelow n (rest t k b).end)
    → (most turns : ℕ) (g : Group) (buffers : List (List ℕ)) →
    RunBelow n (rounds test body rest most turns g buffers).end
rounds_below n test body rest ht hb hr zero turns g buffers =
    next_below n (test turns g buffers) _ (ht turns g buffers)
    (λ t h b. verdict_below n (verdict h.votes) (record { end = run.Turns; turns = t; group = h; buffers = b })
    (record { end = run.Done; turns = t; group = h; buffers = b }) (rest t h b) tt tt (hr t h b))
rounds_below n test body rest ht hb hr (suc most) turns g buffers =
    next_below n (test turns g buffers) _ (ht turns g buffers)
    (λ t h b. verdict_below n (verdict h.votes) (iteration body t h b (rounds test body rest most))
    (record { end = run.Done; turns = t; group = h; buffers = b }) (rest t h b)
    (iteration_below n body t h b (rounds test body rest most) hb (λ t' k' b'. rounds_below n test body rest ht hb hr
    most t' k' b')) tt (hr t h b))

loop_below : (n : ℕ) (first : Test) (test body rest : Doing) →
    ((t : ℕ) (k : Group) (b : List (List ℕ)) → RunBelow n (test t k b).end) →
    ((t : ℕ) (k : Group) (b : List (List ℕ)) → RunBelow n (body t k b).end) →
    ((t : ℕ) (k : Group) (b : List (List ℕ)) → RunBelow n (rest t k b).end)
    → (turns : ℕ) (g : Group) (buffers : List (List ℕ)) → RunBelow n (loop_end first test body rest turns g buffers).end
loop_below n true test body rest ht hb hr turns g buffers = rounds_below n test body rest ht hb hr turns turns g buffers
loop_below n false test body rest ht hb hr turns g buffers =
    iteration_below n body turns g buffers _ hb (λ t k b. rounds_below n test body rest ht hb hr turns t k b)

mutual
  work_below : (p : Plain) (launch : Launch) (group : ℕ) (work : Work) → work_fits (names_of p) work ≡ true →
      (turns : ℕ) (g : Group) (buffers : List (List ℕ)) →
      RunBelow (length p.sites) (work_end p launch group work turns g buffers).end
  work_below p launch group (Items code) h turns g buffers = items_below p launch group code h turns g buffers
  work_below p launch group (Seq works) h turns g buffers = works_below p launch group works h turns g buffers
  work_below p launch group (Vote test agreed refused mixed) h turns g buffers =
      let m = and_parts (code_fits (names_of p) test.counts test.steps && work_fits (names_of p) agreed &&
      work_fits (names_of p) refused) (code_fits (names_of p) mixed.counts mixed.steps) h in
      let r = and_parts (code_fits (names_of p) test.counts test.steps && work_fits (names_of p) agreed)
      (work_fits (names_of p) refused) m.0 in
      let a = and_parts (code_fits (names_of p) test.counts test.steps) (work_fits (names_of p) agreed) r.0 in
      next_below (length p.sites) (items_end p launch group test turns g buffers) _
      (items_below p launch group test a.0 turns g buffers)
      (λ t k b. verdict_below (length p.sites) (verdict k.votes) (work_end p launch group agreed t k b)
      (work_end p launch group refused t k b) (items_end p launch group mixed t k b)
      (work_below p launch group agreed a.1 t k b) (work_below p launch group refused r.1 t k b)
      (items_below p launch group mixed m.1 t k b))
  work_below p launch group (Loop first test body rest) h turns g buffers =
      let r = and_parts (work_fits (names_of p) test && work_fits (names_of p) body)
      (code_fits (names_of p) rest.counts rest.steps) h in
      let b = and_parts (work_fits (names_of p) test) (work_fits (names_of p) body) r.0 in
      loop_below (length p.sites) first (work_end p launch group test) (work_end p launch group body)
      (items_end p launch group rest)
      (λ t k bs. work_below p launch group test b.0 t k bs) (λ t k bs. work_below p launch group body b.1 t k bs)
      (λ t k bs. items_below p launch group rest r.1 t k bs) turns g buffers

  works_below : (p : Plain) (launch : Launch) (group : ℕ) (works : Works) → works_fit (names_of p) works ≡ true →
      (turns : ℕ) (g : Group) (buffers : List (List ℕ)) →
      RunBelow (length p.sites) (works_end p launch group works turns g buffers).end
  works_below p launch group idle h turns g buffers = tt
  works_below p launch group (then_work first others) h turns g buffers =
      let parts = and_parts (work_fits (names_of p) first) (works_fit (names_of p) others) h in
      next_below (length p.sites) (work_end p launch group first turns g buffers) (works_end p launch group others)
      (work_below p launch group first parts.0 turns g buffers)
      (λ t k b. works_below p launch group others parts.1 t k b)

-- ---- a launch

run_below : (n : ℕ) (d : RunEnd) (e : RunEnded) (next : ℕ → List (List ℕ) → RunEnded) → RunBelow n d → d ≡ e.end →
    ((turns : ℕ) (buffers : List (List ℕ)) → RunBelow n (next turns buffers).end) → RunBelow n (run_after d e next).end
run_below n run.Done e next h same f = f e.turns e.buffers
run_below n (run.Range g i s) e next h same f = subst (RunBelow n) same h
run_below n (run.Parted g i s) e next h same f = subst (RunBelow n) same h
run_below n run.Turns e next h same f = subst (RunBelow n) same h

groups_below : (p : Plain) (launch : Launch) → work_fits (names_of p) p.top ≡ true →
    (group count turns : ℕ) (buffers : List (List ℕ)) →
    RunBelow (length p.sites) (groups_end p launch group count turns buffers).end
groups_below p launch h group zero turns buffers = tt
groups_below p launch h group (suc count) turns buffers =
    run_below (length p.sites) _ _ (groups_end p launch (suc group) count)
    (work_below p launch group p.top h turns (start_group p launch) buffers) refl
    (λ t b. groups_below p launch h (suc group) count t b)

-- ---- places

place_there : {A : Type 0} (xs : List A) (n : ℕ) → n < length xs → (a : A) × (slice_get xs n ≡ Some a)
place_there [] n lt = absurd (omega arith)
place_there (x ∷ xs) zero lt = (x, refl)
place_there (x ∷ xs) (suc n) lt = place_there xs n (omega arith)

has_place : (program : Program) (e : RunEnd) → RunBelow (length program.sites) e → EndHasPlace program e
has_place program run.Done h = tt
has_place program (run.Range group item site) h = place_there program.sites site h
has_place program (run.Parted group item site) h = place_there program.sites site h
has_place program run.Turns h = tt

-- a valid program of a group with the program's sites ends at sites that have places
pub ends_have_places : (program : Program) (p : Plain) → is_group_program p ≡ true → p.sites ≡ program.sites →
    (launch : Launch) (buffers : List (List ℕ)) → EndHasPlace program (program_end p launch buffers).end
ends_have_places program p valid same launch buffers =
    has_place program (program_end p launch buffers).end
    (subst (λ (sites : List Place). RunBelow (length sites) (program_end p launch buffers).end) same
    (groups_below p launch (and_parts (work_fits (names_of p) p.top) _ valid).0 0 (group_count launch)
    launch.turns buffers))
