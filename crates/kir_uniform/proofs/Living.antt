-- Liveness of a cell before lines, by what is live behind them.
use Rattle.std.proofs.Common.{◌≡◌, ℕ, refl, sym, ap, ◌∙◌, subst, ◌⊎◌, inl, inr, ⊎_elim}
use Rattle.std.specs.Prelude.{◌&&◌, ◌||◌, not, nat_eq}
use Rattle.std.specs.Prelude.{Bool as Test, true, false}
use Rattle.std.proofs.lemmas.Bool.{true≢false, or_left, or_right}
use Rattle.std.proofs.Common.{arith}
use Rattle.std.proofs.lemmas.Bool.Decides.{nat_tests}
use Rattle.kir.specs.declared.line.Atom.{Atom}
use Rattle.kir.specs.Tree.{Lines, NoLine, SetThen, LoadThen, StoreThen, ClearThen, IfThen, LoopThen, BarrierThen}
use Rattle.kir.specs.Live.{reads, work_reads, live_in}
use Rattle.kir_uniform.specs.Uniform.{sets_in, tested}

-- ---- tests

pub or_either : (a b : Test) → (a || b) ≡ true → (a ≡ true) ⊎ (b ≡ true)
or_either true b h = inl refl
or_either false b h = inr h

pub neither : (a b : Test) → (a || b) ≡ false → (a ≡ false) × (b ≡ false)
neither true b h = absurd (true≢false h)
neither false b h = (refl, h)

pub true_or_false : (a : Test) → (a ≡ true) ⊎ (a ≡ false)
true_or_false true = inl refl
true_or_false false = inr refl

-- a disjunction in which the second part implies as much
or_part : (a b x : Test) → (b ≡ true → x ≡ true) → (a || b) ≡ true → (a || x) ≡ true
or_part true b x f h = refl
or_part false b x f h = f h

or_two : (a b x y : Test) → (a ≡ true → x ≡ true) → (b ≡ true → y ≡ true) → (a || b) ≡ true → (x || y) ≡ true
or_two true b true y f g h = refl
or_two true b false y f g h = absurd (true≢false (sym (f refl)))
or_two false b true y f g h = refl
or_two false b false y f g h = g h

and_part : (a b x : Test) → (b ≡ true → x ≡ true) → (a && b) ≡ true → (a && x) ≡ true
and_part true b x f h = f h
and_part false b x f h = h

pub turned : (a b : ℕ) → nat_eq a b ≡ nat_eq b a
turned a b = grind (arith, nat_tests)

-- ---- more live behind, more live before

pub live_more : (c : ℕ) (lines : Lines) (a b : Test) → (a ≡ true → b ≡ true) → live_in c lines a ≡ true →
    live_in c lines b ≡ true
live_more c NoLine a b f h = f h
live_more c (SetThen to work rest) a b f h =
    or_part (work_reads c work) (not (nat_eq c to) && live_in c rest a) (not (nat_eq c to) && live_in c rest b)
    (and_part (not (nat_eq c to)) (live_in c rest a) (live_in c rest b) (live_more c rest a b f)) h
live_more c (LoadThen site to element root index rest) a b f h =
    or_part (reads c index) (not (nat_eq c to) && live_in c rest a) (not (nat_eq c to) && live_in c rest b)
    (and_part (not (nat_eq c to)) (live_in c rest a) (live_in c rest b) (live_more c rest a b f)) h
live_more c (StoreThen site element root index from rest) a b f h =
    or_part (reads c index || reads c from) (live_in c rest a) (live_in c rest b) (live_more c rest a b f) h
live_more c (ClearThen array rest) a b f h = live_more c rest a b f h
live_more c (IfThen site test chosen other rest) a b f h =
    or_part (reads c test) (live_in c chosen (live_in c rest a) || live_in c other (live_in c rest a))
    (live_in c chosen (live_in c rest b) || live_in c other (live_in c rest b))
    (or_two (live_in c chosen (live_in c rest a)) (live_in c other (live_in c rest a))
    (live_in c chosen (live_in c rest b)) (live_in c other (live_in c rest b))
    (live_more c chosen (live_in c rest a) (live_in c rest b) (live_more c rest a b f))
    (live_more c other (live_in c rest a) (live_in c rest b) (live_more c rest a b f))) h
live_more c (LoopThen site true test answer body rest) a b f h =
    live_more c test (reads c answer || (live_in c rest a || live_in c body (live_in c test false)))
    (reads c answer || (live_in c rest b || live_in c body (live_in c test false)))
    (or_part (reads c answer) (live_in c rest a || live_in c body (live_in c test false)) (live_in c rest b ||
    live_in c body (live_in c test false))
    (or_two (live_in c rest a) (live_in c body (live_in c test false)) (live_in c rest b)
    (live_in c body (live_in c test false)) (live_more c rest a b f) (λ x. x))) h
live_more c (LoopThen site false test answer body rest) a b f h =
    live_more c body (live_in c test (reads c answer || (live_in c rest a || live_in c body (live_in c test false))))
    (live_in c test (reads c answer || (live_in c rest b || live_in c body (live_in c test false))))
    (live_more c test (reads c answer || (live_in c rest a || live_in c body (live_in c test false)))
    (reads c answer || (live_in c rest b || live_in c body (live_in c test false)))
    (or_part (reads c answer) (live_in c rest a || live_in c body (live_in c test false)) (live_in c rest b ||
    live_in c body (live_in c test false))
    (or_two (live_in c rest a) (live_in c body (live_in c test false)) (live_in c rest b)
    (live_in c body (live_in c test false)) (live_more c rest a b f) (λ x. x)))) h
live_more c (BarrierThen site rest) a b f h = live_more c rest a b f h

-- what is live before lines is so whatever is behind them, or is live behind them
pub live_behind_or : (c : ℕ) (lines : Lines) (a : Test) → live_in c lines a ≡ true → (live_in c lines false ≡ true) ⊎
    (a ≡ true)
live_behind_or c lines true h = inr refl
live_behind_or c lines false h = inl h

-- what is live before a body is live at the answer before it
pub into_body : (c : ℕ) (test : Lines) (answer : Atom) (body : Lines) (after : ℕ → Test) →
    live_in c body (live_in c test (tested test answer body after c)) ≡ true → tested test answer body after c ≡ true
into_body c test answer body after h =
    ⊎_elim (λ t. t)
    (λ no_t. or_right (reads c answer) (after c || live_in c body (live_in c test false))
    (or_right (after c) (live_in c body (live_in c test false))
    (subst (λ b. live_in c body (live_in c test b) ≡ true) no_t h)))
    (true_or_false (tested test answer body after c))

-- a cell that no line sets is live before them where it is so behind
pub unset_live : (c : ℕ) (lines : Lines) (a : Test) → sets_in c lines ≡ false → a ≡ true → live_in c lines a ≡ true
unset_live c NoLine a u h = h
unset_live c (SetThen to work rest) a u h =
    let p = neither (nat_eq to c) (sets_in c rest) u in
    or_right (work_reads c work) (not (nat_eq c to) && live_in c rest a)
    (ap (λ b. not b && live_in c rest a) (turned c to ∙ p.0) ∙ unset_live c rest a p.1 h)
unset_live c (LoadThen site to element root index rest) a u h =
    let p = neither (nat_eq to c) (sets_in c rest) u in
    or_right (reads c index) (not (nat_eq c to) && live_in c rest a)
    (ap (λ b. not b && live_in c rest a) (turned c to ∙ p.0) ∙ unset_live c rest a p.1 h)
unset_live c (StoreThen site element root index from rest) a u h =
    or_right (reads c index || reads c from) (live_in c rest a) (unset_live c rest a u h)
unset_live c (ClearThen array rest) a u h = unset_live c rest a u h
unset_live c (IfThen site test chosen other rest) a u h =
    let p = neither (sets_in c chosen || sets_in c other) (sets_in c rest) u in
    let q = neither (sets_in c chosen) (sets_in c other) p.0 in
    or_right (reads c test) (live_in c chosen (live_in c rest a) || live_in c other (live_in c rest a))
    (or_left (live_in c chosen (live_in c rest a)) (live_in c other (live_in c rest a))
    (unset_live c chosen (live_in c rest a) q.0 (unset_live c rest a p.1 h)))
unset_live c (LoopThen site true test answer body rest) a u h =
    let p = neither (sets_in c test || sets_in c body) (sets_in c rest) u in
    let q = neither (sets_in c test) (sets_in c body) p.0 in
    unset_live c test (reads c answer || (live_in c rest a || live_in c body (live_in c test false))) q.0
    (or_right (reads c answer) (live_in c rest a || live_in c body (live_in c test false))
    (or_left (live_in c rest a) (live_in c body (live_in c test false)) (unset_live c rest a p.1 h)))
unset_live c (LoopThen site false test answer body rest) a u h =
    let p = neither (sets_in c test || sets_in c body) (sets_in c rest) u in
    let q = neither (sets_in c test) (sets_in c body) p.0 in
    unset_live c body (live_in c test (reads c answer || (live_in c rest a || live_in c body (live_in c test false))))
    q.1
    (unset_live c test (reads c answer || (live_in c rest a || live_in c body (live_in c test false))) q.0
    (or_right (reads c answer) (live_in c rest a || live_in c body (live_in c test false))
    (or_left (live_in c rest a) (live_in c body (live_in c test false)) (unset_live c rest a p.1 h))))
unset_live c (BarrierThen site rest) a u h = unset_live c rest a u h
