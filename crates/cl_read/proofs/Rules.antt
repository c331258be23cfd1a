-- The rules for tokens, for parts nested to the left and for options.
use Rattle.std.proofs.Common.{◌≡◌, ℕ, zero, suc, Bool, true, false, List, [], ◌∷◌, ◌++◌, length, refl, sym, ap, subst}
use Rattle.std.proofs.Common.{◌∙◌, append_assoc, eq-eqb}
use Rattle.std.specs.Prelude.{nat_le}
use Rattle.std.proofs.lemmas.List.{append-nil}
use Rattle.cl_tree.specs.declared.terminal.Terminal.{Terminal}
use Rattle.cl_tree.specs.declared.terminal.Leaf.{Leaf}
use Rattle.cl_tree.specs.Syntax.{Syntax, Forest, none, more, nesting}
use Rattle.cl_tree.specs.Nodes.{Spot, tok}
use Rattle.cl_read.specs.Starts.{code, same}
use Rattle.cl_read.specs.Reading.{Wrong, Reader, ◌>>=◌, done, begins, is, within, eat_one, eat_in, eat, choose, chain}
use Rattle.cl_read.specs.Reading.{if_begun, unless}
use Rattle.cl_read.proofs.Tails.{same_terminal, spot}
use Rattle.cl_read.proofs.Good.{next, Fine, Good, weaker, good_then, good_done, then_done, Starts, deep_at, good_deep}
use Rattle.cl_read.proofs.Good.{choose_at, good_choose}

pub choice : {A : Type 0} (test : Terminal → Bool) (p q : Reader A) (Q : A → List Leaf → Type 0) → Good p Q →
    Good q Q → Good (choose test p q) Q
choice test p q Q f h = good_choose test p q Q f.run h

-- ---- a token

abbrev pub spot_of : Leaf → Spot
spot_of i = record { number = i.number; word = i.word }

abbrev pub Eaten : (Terminal → Bool) → Spot → List Leaf → Type 0
Eaten test m x = (k : Terminal) × (test k ≡ true) × (x ≡ tok k m ∷ [])

eat_in_fine : (test : Terminal → Bool) (j : Terminal) → test j ≡ true → (i : Leaf) (ts : List Leaf) (b : Bool) →
    test i.terminal ≡ b → Fine (eat_in test) (Eaten test) (i ∷ ts) (eat_one test i ts)
eat_in_fine test j q i ts true h =
    rw h (record { front = i ∷ []; split = refl; means = (i.terminal, h, refl); local = λ other e. rw h refl })
eat_in_fine test j q i ts false h =
    rw h (record {
      front = [];
      bad = i ∷ ts;
      split = refl;
      place = refl;
      local = eat_in_stops test i ts h;
      more = λ n. (spot j n, j ∷ [], (j, q, refl));
    })
  where
    eat_in_stops : (test : Terminal → Bool) (i : Leaf) (ts : List Leaf) → test i.terminal ≡ false →
        (other : List Leaf) → next other ≡ next (i ∷ ts) → eat_in test other ≡ Wrong (length other)
    eat_in_stops test i ts h [] e = refl
    eat_in_stops test i ts h (k ∷ other) e = let q : k.terminal ≡ i.terminal = cc in rw (q, h) refl

eat_in_end : (test : Terminal → Bool) (other : List Leaf) → next other ≡ next [] →
    eat_in test other ≡ Wrong (length other)
eat_in_end test [] e = refl
eat_in_end test (k ∷ other) e = absurd cc

eat_in_runs : (test : Terminal → Bool) (j : Terminal) → test j ≡ true → (ts : List Leaf) →
    Fine (eat_in test) (Eaten test) ts (eat_in test ts)
eat_in_runs test j q [] = record {
  front = [];
  bad = [];
  split = refl;
  place = refl;
  local = eat_in_end test;
  more = λ n. (spot j n, j ∷ [], (j, q, refl));
}
eat_in_runs test j q (i ∷ ts) = eat_in_fine test j q i ts (test i.terminal) refl

pub good_eat_in : (test : Terminal → Bool) (j : Terminal) → test j ≡ true → Good (eat_in test) (Eaten test)
good_eat_in test j q = record { run = eat_in_runs test j q; some = λ n. (spot j n, j ∷ [], (j, q, refl)) }

pub then_eat_in : {B : Type 0} (test : Terminal → Bool) (j : Terminal) → test j ≡ true →
    (g : Spot → Reader B) (Q : B → List Leaf → Type 0) →
    ((k : Terminal) (m : Spot) → test k ≡ true → Good (g m) (λ b y. Q b (tok k m ∷ y))) → Good (eat_in test >>= g) Q
then_eat_in test j q g Q h = good_then (eat_in test) g (Eaten test) Q (good_eat_in test j q)
    (λ m x e. subst (λ (l : List Leaf). Good (g m) (λ b y. Q b (l ++ y))) (sym e.2) (h e.0 m e.1))

code_same : (k : Terminal) → same k k ≡ true
code_same k = eq-eqb (code k) (code k) refl

good_eat : (k : Terminal) → Good (eat k) (λ m x. x ≡ tok k m ∷ [])
good_eat k = weaker (eat k) (Eaten (is k)) (λ m x. x ≡ tok k m ∷ []) (λ m x e. e.2 ∙
    ap (λ (j : Terminal). tok j m ∷ []) (same_terminal e.0 k e.1)) (good_eat_in (is k) k (code_same k))

pub then_eat : {B : Type 0} (k : Terminal) (g : Spot → Reader B) (Q : B → List Leaf → Type 0) →
    ((m : Spot) → Good (g m) (λ b y. Q b (tok k m ∷ y))) → Good (eat k >>= g) Q
then_eat k g Q h = good_then (eat k) g (λ m x. x ≡ tok k m ∷ []) Q (good_eat k)
    (λ m x e. subst (λ (l : List Leaf). Good (g m) (λ b y. Q b (l ++ y))) (sym e) (h m))

pub eat_done : {B : Type 0} (k : Terminal) (f : Spot → B) (Q : B → List Leaf → Type 0) →
    ((m : Spot) → Q (f m) (tok k m ∷ [])) → Good (eat k >>= λ m. done (f m)) Q
eat_done k f Q h = then_eat k (λ m. done (f m)) Q (λ m. good_done (f m) (λ b y. Q b (tok k m ∷ y)) (h m))

-- ---- a value at the end of what was read

pub ended : {A : Type 0} (a : A) (Q : A → List Leaf → Type 0) (x : List Leaf) → Q a x →
    Good (done a) (λ b y. Q b (x ++ y))
ended a Q x h = good_done a (λ b y. Q b (x ++ y)) (subst (λ z. Q a z) (sym (append-nil x)) h)

-- ---- options

pub good_if_begun : (test : Terminal → Bool) (p : Reader Syntax) (R : Syntax → List Leaf → Type 0) (Q : Forest →
    List Leaf → Type 0) → Good p R → Q none [] → ((t : Syntax) (x : List Leaf) → R t x → Q (more t none) x) →
    Good (if_begun test p) Q
good_if_begun test p R Q g nil some =
    choice test (p >>= λ t. done (more t none)) (done none) Q (then_done p (λ t. more t none) R Q g some)
    (good_done none Q nil)

pub good_unless : (test : Terminal → Bool) (p : Reader Syntax) (R : Syntax → List Leaf → Type 0) (Q : Forest →
    List Leaf → Type 0) → Good p R → Q none [] → ((t : Syntax) (x : List Leaf) → R t x → Q (more t none) x) →
    Good (unless test p) Q
good_unless test p R Q g nil some =
    choice test (done none) (p >>= λ t. done (more t none)) Q (good_done none Q nil)
    (then_done p (λ t. more t none) R Q g some)

-- ---- parts nested to the left

module _ (room : ℕ) (test : Terminal → Bool) (step : Syntax → Reader Syntax) (S : Syntax → List Leaf →
    Type 0) (each : (l : Syntax) (x : List Leaf) → S l x → Good (step l) (λ r y. S r (x ++ y)))
    (starts : (l : Syntax) (x : List Leaf) → S l x → Starts test (λ r y. S r (x ++ y))) where
  within_fine : (p : Reader Syntax) (Q : Syntax → List Leaf → Type 0) → Good p Q → Starts test Q →
      (b : Bool) (ts : List Leaf) → begins test ts ≡ true → Fine (within b p) Q ts (within b p ts)
  within_fine p Q g s true ts h = g.run ts
  within_fine p Q g s false ts h = deep_at test Q s ts h

  pub good_chain : (n : ℕ) (l : Syntax) (x : List Leaf) → S l x → Good (chain room test step n l) (λ r y. S r (x ++ y))
  unfolding chain
  good_chain zero l x s = good_deep test (done l) (λ r y. S r (x ++ y)) (starts l x s) (ended l S x s)
  good_chain (suc n) l x s =
      let rest : Good (step l >>= chain room test step n) (λ r y. S r (x ++ y)) =
      good_then (step l) (chain room test step n) (λ r y. S r (x ++ y)) (λ r y. S r (x ++ y)) (each l x s)
      (λ r y sr. weaker (chain room test step n r) (λ q z. S q ((x ++ y) ++ z)) (λ q z. S q (x ++ (y ++ z)))
      (λ q z h. subst (λ w. S q w) (append_assoc x y z) h) (good_chain n r (x ++ y) sr)) in
      record {
        run = λ ts. choose_at test (within (nat_le (nesting l) room) (step l >>= chain room test step n)) (done l)
            (λ r y. S r (x ++ y)) ts
            (λ h. within_fine (step l >>= chain room test step n) (λ r y. S r (x ++ y)) rest (starts l x s)
            (nat_le (nesting l) room) ts h) (λ _. (ended l S x s).run ts);
        some = (ended l S x s).some;
      }

-- a reader, and then parts nested to the left of what it read
pub then_chain : (room : ℕ) (p : Reader Syntax) (test : Terminal → Bool) (step : Syntax → Reader Syntax) (S : Syntax →
    List Leaf → Type 0) (each : (l : Syntax) (x : List Leaf) → S l x → Good (step l) (λ r y. S r (x ++ y)))
    (starts : (l : Syntax) (x : List Leaf) → S l x → Starts test (λ r y. S r (x ++ y))) (n : ℕ) → Good p S →
    Good (p >>= λ l. chain room test step n l) S
then_chain room p test step S each starts n h =
    good_then p (λ l. chain room test step n l) S S h (λ l x s. good_chain room test step S each starts n l x s)
