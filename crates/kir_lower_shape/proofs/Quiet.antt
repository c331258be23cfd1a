-- When a cell is not live before lines: each way sets it before it reads it.
use Rattle.std.proofs.Common.{◌≡◌, ℕ, refl, sym, ap, ◌∙◌, subst, true, false}
use Rattle.std.proofs.Common.{Bool as Test}
use Rattle.std.specs.Prelude.{nat_eq, not, ◌&&◌, ◌||◌}
use Rattle.wg_num.specs.declared.types.IntType.{IntType}
use Rattle.cl_model.specs.declared.program.Root.{Root}
use Rattle.kir.specs.declared.line.Atom.{Atom}
use Rattle.kir.specs.Tree.{Work, Lines, NoLine, SetThen, LoadThen, StoreThen, ClearThen, IfThen, LoopThen}
use Rattle.kir.specs.Tree.{BarrierThen, joined_to}
use Rattle.kir.specs.Live.{reads, work_reads, live_in}

-- before lines that are put one after another
pub live_joined : (c : ℕ) (a b : Lines) (after : Test) →
    live_in c (joined_to a b) after ≡ live_in c a (live_in c b after)
live_joined c NoLine b after = refl
live_joined c (SetThen to work rest) b after =
    ap (λ z. work_reads c work || (not (nat_eq c to) && z)) (live_joined c rest b after)
live_joined c (LoadThen site to element root index rest) b after =
    ap (λ z. reads c index || (not (nat_eq c to) && z)) (live_joined c rest b after)
live_joined c (StoreThen site element root index from rest) b after =
    ap (λ z. (reads c index || reads c from) || z) (live_joined c rest b after)
live_joined c (ClearThen array rest) b after = live_joined c rest b after
live_joined c (IfThen site test chosen other rest) b after =
    ap (λ z. reads c test || (live_in c chosen z || live_in c other z)) (live_joined c rest b after)
live_joined c (LoopThen site true test answer body rest) b after =
    ap (λ z. live_in c test (reads c answer || (z || live_in c body (live_in c test false))))
    (live_joined c rest b after)
live_joined c (LoopThen site false test answer body rest) b after =
    ap (λ z. live_in c body (live_in c test (reads c answer || (z || live_in c body (live_in c test false)))))
    (live_joined c rest b after)
live_joined c (BarrierThen site rest) b after = live_joined c rest b after

-- true is not false
pub true_false : true ≡ false → ⊥
true_false e = cc

-- both parts of an `or` are false
pub or_parts : (a b : Test) → (a || b) ≡ false → (a ≡ false) × (b ≡ false)
or_parts true b e = absurd (true_false e)
or_parts false b e = (refl, e)

pub or_false : (a b : Test) → a ≡ false → b ≡ false → (a || b) ≡ false
or_false a b e h = ap (λ z. z || b) e ∙ h

or_less : (a b a' b' : Test) → (a ≡ false → a' ≡ false) → (b ≡ false → b' ≡ false) → (a || b) ≡ false →
    (a' || b') ≡ false
or_less a b a' b' f g e = let p = or_parts a b e in or_false a' b' (f p.0) (g p.1)

and_less : (p b b' : Test) → (b ≡ false → b' ≡ false) → (p && b) ≡ false → (p && b') ≡ false
and_less true b b' g e = g e
and_less false b b' g e = refl

-- the less is live behind, the less is live before
pub less : (c : ℕ) (lines : Lines) (x y : Test) → (y ≡ false → x ≡ false) → live_in c lines y ≡ false →
    live_in c lines x ≡ false
less c NoLine x y f e = f e
less c (SetThen to work rest) x y f e = or_less _ _ _ _ (λ h. h) (and_less _ _ _ (less c rest x y f)) e
less c (LoadThen site to element root index rest) x y f e =
    or_less _ _ _ _ (λ h. h) (and_less _ _ _ (less c rest x y f)) e
less c (StoreThen site element root index from rest) x y f e = or_less _ _ _ _ (λ h. h) (less c rest x y f) e
less c (ClearThen array rest) x y f e = less c rest x y f e
less c (IfThen site test chosen other rest) x y f e =
    or_less _ _ _ _ (λ h. h) (or_less _ _ _ _ (less c chosen (live_in c rest x) (live_in c rest y)
    (less c rest x y f)) (less c other (live_in c rest x) (live_in c rest y) (less c rest x y f))) e
less c (LoopThen site true test answer body rest) x y f e =
    less c test _ _ (or_less _ _ _ _ (λ h. h) (or_less _ _ _ _ (less c rest x y f) (λ h. h))) e
less c (LoopThen site false test answer body rest) x y f e =
    less c body _ _ (less c test _ _ (or_less _ _ _ _ (λ h. h) (or_less _ _ _ _ (less c rest x y f) (λ h. h)))) e
less c (BarrierThen site rest) x y f e = less c rest x y f e

-- not live before the lines, where it is so behind them or not
pub record Quiet (c : ℕ) (lines : Lines) (after : Test) : Type 0 where
  pub is : live_in c lines after ≡ false

-- no lines
pub quiet_none : (c : ℕ) (after : Test) → after ≡ false → Quiet c NoLine after
quiet_none c after e = record { is = e }

-- where nothing that is live behind matters, and where nothing is live behind
pub quiet_any : (c : ℕ) (lines : Lines) (x : Test) → Quiet c lines true → Quiet c lines x
quiet_any c lines x h = record { is = less c lines x true (λ e. absurd (true_false e)) h.is }

pub quiet_less : (c : ℕ) (lines : Lines) (x : Test) → Quiet c lines x → Quiet c lines false
quiet_less c lines x h = record { is = less c lines false x (λ e. refl) h.is }

pub quiet_after : (c : ℕ) (lines : Lines) (x y : Test) → y ≡ x → Quiet c lines x → Quiet c lines y
quiet_after c lines x y e h = subst (λ z. Quiet c lines z) (sym e) h

pub quiet_same : (c : ℕ) (a b : Lines) (x : Test) → a ≡ b → Quiet c b x → Quiet c a x
quiet_same c a b x e h = subst (λ z. Quiet c z x) (sym e) h

-- lines before others: the first may have set the cell, else it is not live before the second
pub quiet_then : (c : ℕ) (a b : Lines) (x after : Test) → Quiet c a x → (x ≡ false → Quiet c b after) →
    Quiet c (joined_to a b) after
quiet_then c a b true after h k = record { is = live_joined c a b after ∙ (quiet_any c a (live_in c b after) h).is }
quiet_then c a b false after h k = record { is = live_joined c a b after ∙ ap (live_in c a) (k refl).is ∙ h.is }

-- a line that sets a cell
pub quiet_set : (c to : ℕ) (work : Work) (rest : Lines) (after : Test) → work_reads c work ≡ false →
    (nat_eq c to ≡ false → Quiet c rest after) → Quiet c (SetThen to work rest) after
quiet_set c to work rest after r h = record { is = or_false _ _ r (by_test (nat_eq c to) h) }
  where
    by_test : (b : Test) → (b ≡ false → Quiet c rest after) → (not b && live_in c rest after) ≡ false
    by_test true k = refl
    by_test false k = (k refl).is

pub quiet_load : (c site to : ℕ) (element : IntType) (root : Root) (index : Atom) (rest : Lines) (after : Test) →
    reads c index ≡ false → (nat_eq c to ≡ false → Quiet c rest after) →
    Quiet c (LoadThen site to element root index rest) after
quiet_load c site to element root index rest after r h = record { is = or_false _ _ r (by_test (nat_eq c to) h) }
  where
    by_test : (b : Test) → (b ≡ false → Quiet c rest after) → (not b && live_in c rest after) ≡ false
    by_test true k = refl
    by_test false k = (k refl).is

pub quiet_store : (c site : ℕ) (element : IntType) (root : Root) (index from : Atom) (rest : Lines) (after : Test) →
    reads c index ≡ false → reads c from ≡ false → Quiet c rest after →
    Quiet c (StoreThen site element root index from rest) after
quiet_store c site element root index from rest after i f h = record { is = or_false _ _ (or_false _ _ i f) h.is }

pub quiet_clear : (c array : ℕ) (rest : Lines) (after : Test) → Quiet c rest after →
    Quiet c (ClearThen array rest) after
quiet_clear c array rest after h = record { is = h.is }

pub quiet_barrier : (c site : ℕ) (rest : Lines) (after : Test) → Quiet c rest after →
    Quiet c (BarrierThen site rest) after
quiet_barrier c site rest after h = record { is = h.is }

-- an if
pub quiet_if : (c site : ℕ) (test : Atom) (chosen other rest : Lines) (after : Test) → reads c test ≡ false →
    Quiet c rest after → Quiet c chosen false → Quiet c other false → Quiet c (IfThen site test chosen other rest) after
quiet_if c site test chosen other rest after r e y n =
    record { is = or_false _ _ r (or_false _ _ (ap (live_in c chosen) e.is ∙ y.is) (ap (live_in c other) e.is ∙ n.is)) }

-- the same where what is behind may read what each branch sets
pub quiet_if_set : (c site : ℕ) (test : Atom) (chosen other : Lines) (after : Test) → reads c test ≡ false →
    Quiet c chosen after → Quiet c other after → Quiet c (IfThen site test chosen other NoLine) after
quiet_if_set c site test chosen other after r y n = record { is = or_false _ _ r (or_false _ _ y.is n.is) }

-- a loop
pub quiet_loop : (c site : ℕ) (first : Test) (test : Lines) (answer : Atom) (body : Lines) →
    Quiet c test (reads c answer) → Quiet c body false → Quiet c (LoopThen site first test answer body NoLine) false
quiet_loop c site true test answer body t b =
    let inner : live_in c body (live_in c test false) ≡ false =
    ap (live_in c body) (quiet_less c test (reads c answer) t).is ∙ b.is in
    record { is = less c test _ (reads c answer) (λ e. or_false _ _ e (or_false false _ refl inner)) t.is }
quiet_loop c site false test answer body t b =
    let inner : live_in c body (live_in c test false) ≡ false =
    ap (live_in c body) (quiet_less c test (reads c answer) t).is ∙ b.is in
    record {
      is = ap (live_in c body)
          (less c test _ (reads c answer) (λ e. or_false _ _ e (or_false false _ refl inner)) t.is) ∙ b.is;
    }
