-- Words ask for one thing.
use Rattle.std.proofs.Common.{◌≡◌, ℕ, List, Option, Some, None, get_or, codes, refl, sym, ◌∙◌, ap, subst, arith}
use Rattle.clap.specs.Words.{Row, Text}
use Rattle.command_words.specs.Command.{Request, run, cached, plan, code, sample, build, exec, Asks, AskFor}
use Rattle.command_words.proofs.RowLemmas.{one_files, one_number, one_build, one_object}
use Rattle.wg_top.specs.Outside.{Outside}
use Rattle.wg_top.specs.Ends.{EndsAsked}

-- a name is no other name
no_name : (name a b : List ℕ) → name ≡ a → name ≡ b → (a ≡ b → ⊥) → ⊥
no_name name a b x y apart = apart (sym x ∙ y)

run_plan : codes "run" ≡ codes "plan" → ⊥
run_plan e = let never : ⊥ = cc e in never

run_code : codes "run" ≡ codes "code" → ⊥
run_code e = let never : ⊥ = cc e in never

run_sample : codes "run" ≡ codes "sample" → ⊥
run_sample e = let never : ⊥ = cc e in never

-- by their first letters, p and c
apart : (p c : ℕ) → p ≡ 112 → c ≡ 99 → p ≡ c → ⊥
apart p c x y same = omega arith

other_letters : (p e : ℕ) → p ≡ 112 → e ≡ 101 → p ≡ e → ⊥
other_letters p e x y same = omega arith

letters_apart : (c e : ℕ) → c ≡ 99 → e ≡ 101 → c ≡ e → ⊥
letters_apart c e x y same = omega arith

plan_code : codes "plan" ≡ codes "code" → ⊥
plan_code e = apart 112 99 refl refl (ap (λ (xs : List ℕ). get_or xs 0 0) e)

plan_sample : codes "plan" ≡ codes "sample" → ⊥
plan_sample e = let never : ⊥ = cc e in never

code_sample : codes "code" ≡ codes "sample" → ⊥
code_sample e = let never : ⊥ = cc e in never

run_build : codes "run" ≡ codes "build" → ⊥
run_build e = let never : ⊥ = cc e in never

run_exec : codes "run" ≡ codes "exec" → ⊥
run_exec e = let never : ⊥ = cc e in never

plan_build : codes "plan" ≡ codes "build" → ⊥
plan_build e = let never : ⊥ = cc e in never

-- p and e, c and e
plan_exec : codes "plan" ≡ codes "exec" → ⊥
plan_exec e = other_letters 112 101 refl refl (ap (λ (xs : List ℕ). get_or xs 0 0) e)

code_build : codes "code" ≡ codes "build" → ⊥
code_build e = let never : ⊥ = cc e in never

code_exec : codes "code" ≡ codes "exec" → ⊥
code_exec e = letters_apart 99 101 refl refl (ap (λ (xs : List ℕ). get_or xs 0 0) e)

sample_build : codes "sample" ≡ codes "build" → ⊥
sample_build e = let never : ⊥ = cc e in never

sample_exec : codes "sample" ≡ codes "exec" → ⊥
sample_exec e = let never : ⊥ = cc e in never

build_exec : codes "build" ≡ codes "exec" → ⊥
build_exec e = let never : ⊥ = cc e in never

-- what is asked for by a command and its rows
one_ask : (o : Option (Text × List Row)) (a b : Request) → Asks o a → Asks o b → a ≡ b
one_ask None a b x y = absurd x
one_ask (Some c) (run f) (run g) x y = ap run (one_files c.1 f g x.1 y.1)
one_ask (Some c) (run f) (plan g) x y = absurd (no_name c.0 _ _ x.0 y.0 run_plan)
one_ask (Some c) (run f) (code g) x y = absurd (no_name c.0 _ _ x.0 y.0 run_code)
one_ask (Some c) (run f) (sample n) x y = absurd (no_name c.0 _ _ x.0 y.0 run_sample)
one_ask (Some c) (plan f) (run g) x y = absurd (no_name c.0 _ _ y.0 x.0 run_plan)
one_ask (Some c) (plan f) (plan g) x y = ap plan (one_files c.1 f g x.1 y.1)
one_ask (Some c) (plan f) (code g) x y = absurd (no_name c.0 _ _ x.0 y.0 plan_code)
one_ask (Some c) (plan f) (sample n) x y = absurd (no_name c.0 _ _ x.0 y.0 plan_sample)
one_ask (Some c) (code f) (run g) x y = absurd (no_name c.0 _ _ y.0 x.0 run_code)
one_ask (Some c) (code f) (plan g) x y = absurd (no_name c.0 _ _ y.0 x.0 plan_code)
one_ask (Some c) (code f) (code g) x y = ap code (one_files c.1 f g x.1 y.1)
one_ask (Some c) (code f) (sample n) x y = absurd (no_name c.0 _ _ x.0 y.0 code_sample)
one_ask (Some c) (sample n) (run g) x y = absurd (no_name c.0 _ _ y.0 x.0 run_sample)
one_ask (Some c) (sample n) (plan g) x y = absurd (no_name c.0 _ _ y.0 x.0 plan_sample)
one_ask (Some c) (sample n) (code g) x y = absurd (no_name c.0 _ _ y.0 x.0 code_sample)
one_ask (Some c) (sample n) (sample m) x y =
    let same : Some n ≡ Some m = one_number (codes "NUMBER") c.1 (Some n) (Some m) x.1 y.1 in
    let number : n ≡ m = cc same in
    ap sample number
one_ask (Some c) (run f) (build g) x y = absurd (no_name c.0 _ _ x.0 y.0 run_build)
one_ask (Some c) (run f) (exec g) x y = absurd (no_name c.0 _ _ x.0 y.0 run_exec)
one_ask (Some c) (plan f) (build g) x y = absurd (no_name c.0 _ _ x.0 y.0 plan_build)
one_ask (Some c) (plan f) (exec g) x y = absurd (no_name c.0 _ _ x.0 y.0 plan_exec)
one_ask (Some c) (code f) (build g) x y = absurd (no_name c.0 _ _ x.0 y.0 code_build)
one_ask (Some c) (code f) (exec g) x y = absurd (no_name c.0 _ _ x.0 y.0 code_exec)
one_ask (Some c) (sample n) (build g) x y = absurd (no_name c.0 _ _ x.0 y.0 sample_build)
one_ask (Some c) (sample n) (exec g) x y = absurd (no_name c.0 _ _ x.0 y.0 sample_exec)
one_ask (Some c) (build f) (run g) x y = absurd (no_name c.0 _ _ y.0 x.0 run_build)
one_ask (Some c) (build f) (plan g) x y = absurd (no_name c.0 _ _ y.0 x.0 plan_build)
one_ask (Some c) (build f) (code g) x y = absurd (no_name c.0 _ _ y.0 x.0 code_build)
one_ask (Some c) (build f) (sample m) x y = absurd (no_name c.0 _ _ y.0 x.0 sample_build)
one_ask (Some c) (build f) (exec g) x y = absurd (no_name c.0 _ _ x.0 y.0 build_exec)
one_ask (Some c) (exec f) (run g) x y = absurd (no_name c.0 _ _ y.0 x.0 run_exec)
one_ask (Some c) (exec f) (plan g) x y = absurd (no_name c.0 _ _ y.0 x.0 plan_exec)
one_ask (Some c) (exec f) (code g) x y = absurd (no_name c.0 _ _ y.0 x.0 code_exec)
one_ask (Some c) (exec f) (sample m) x y = absurd (no_name c.0 _ _ y.0 x.0 sample_exec)
one_ask (Some c) (exec f) (build g) x y = absurd (no_name c.0 _ _ y.0 x.0 build_exec)
one_ask (Some c) (build f) (build g) x y = ap build (one_build c.1 f g x.1 y.1)
one_ask (Some c) (exec f) (exec g) x y = ap exec (one_object c.1 f g x.1 y.1)
one_ask (Some c) (cached f) (cached g) x y = ap cached (one_files c.1 f g x.1 y.1)
one_ask (Some c) (cached f) (run g) x y = absurd (y.2 x.2)
one_ask (Some c) (run f) (cached g) x y = absurd (x.2 y.2)
one_ask (Some c) (cached f) (plan g) x y = absurd (no_name c.0 _ _ x.0 y.0 run_plan)
one_ask (Some c) (plan g) (cached f) x y = absurd (no_name c.0 _ _ y.0 x.0 run_plan)
one_ask (Some c) (cached f) (code g) x y = absurd (no_name c.0 _ _ x.0 y.0 run_code)
one_ask (Some c) (code g) (cached f) x y = absurd (no_name c.0 _ _ y.0 x.0 run_code)
one_ask (Some c) (cached f) (sample n) x y = absurd (no_name c.0 _ _ x.0 y.0 run_sample)
one_ask (Some c) (sample n) (cached f) x y = absurd (no_name c.0 _ _ y.0 x.0 run_sample)
one_ask (Some c) (cached f) (build g) x y = absurd (no_name c.0 _ _ x.0 y.0 run_build)
one_ask (Some c) (build g) (cached f) x y = absurd (no_name c.0 _ _ y.0 x.0 run_build)
one_ask (Some c) (cached f) (exec g) x y = absurd (no_name c.0 _ _ x.0 y.0 run_exec)
one_ask (Some c) (exec g) (cached f) x y = absurd (no_name c.0 _ _ y.0 x.0 run_exec)

-- how a command ends is how whatever the words ask for ends
pub as_asked : (old new : Outside) (words : List Text) (a b : Request) (n : ℕ) → AskFor words a → AskFor words b →
    EndsAsked old new a n → EndsAsked old new b n
as_asked old new words a b n x y ends = subst (λ (r : Request). EndsAsked old new r n) (one_ask _ a b x y) ends
