-- What holds of every reader: what it takes is what it says, it looks one token ahead and no further, and where it
-- stops, what it took can still be completed. The rules lead from the parts of a reader to the whole.
use Rattle.std.proofs.Common.{◌≡◌, ℕ, ◌+◌, Bool, true, false, cond, List, [], ◌∷◌, ◌++◌, length, Option, Some, None}
use Rattle.std.proofs.Common.{refl, sym, ap, subst, ◌∙◌, append_assoc}
use Rattle.std.proofs.lemmas.List.{append-nil}
use Rattle.cl_tree.specs.declared.terminal.Terminal.{Terminal}
use Rattle.cl_tree.specs.declared.terminal.Leaf.{Leaf}
use Rattle.cl_read.proofs.Tails.{leaves_at, leaves_append}
use Rattle.cl_read.specs.Reading.{Out, Got, Wrong, Deep, Reader, after, ◌>>=◌, done, deep, wrong, begins, choose}

abbrev pub next : List Leaf → Option Terminal
next [] = None
next (i ∷ ts) = Some i.terminal

pub record Took {A : Type 0} (p : Reader A) (R : A → List Leaf →
    Type 0) (ts : List Leaf) (a : A) (rest : List Leaf) : Type 0 where
  pub front : List Leaf
  pub split : ts ≡ front ++ rest
  pub means : R a front
  pub local : (other : List Leaf) → next other ≡ next rest → p (front ++ other) ≡ Got a other

pub record Stopped {A : Type 0} (p : Reader A) (R : A → List Leaf → Type 0) (ts : List Leaf) (n : ℕ) : Type 0 where
  pub front : List Leaf
  pub bad : List Leaf
  pub split : ts ≡ front ++ bad
  pub place : n ≡ length bad
  pub local : (other : List Leaf) → next other ≡ next bad → p (front ++ other) ≡ Wrong (length other)
  pub more : (k : ℕ) → (a : A) × (tail : List Terminal) × R a (front ++ leaves_at k tail)

-- It stopped at a token that can still begin what it lacks.
pub record Sank {A : Type 0} (p : Reader A) (R : A → List Leaf → Type 0) (ts : List Leaf) (n : ℕ) : Type 0 where
  pub front : List Leaf
  pub bad : List Leaf
  pub here : Leaf
  pub later : List Leaf
  pub bad_is : bad ≡ here ∷ later
  pub more : (k : ℕ) → (a : A) × (tail : List Terminal) × R a (front ++ (here ∷ leaves_at k tail))
  pub split : ts ≡ front ++ bad
  pub place : n ≡ length bad
  pub local : (other : List Leaf) → next other ≡ next bad → p (front ++ other) ≡ Deep (length other)

abbrev pub Fine : {A : Type 0} → Reader A → (A → List Leaf → Type 0) → List Leaf → Out A → Type 0
Fine p R ts (Got a rest) = Took p R ts a rest
Fine p R ts (Wrong n) = Stopped p R ts n
Fine p R ts (Deep n) = Sank p R ts n

abbrev pub Runs : {A : Type 0} → Reader A → (A → List Leaf → Type 0) → Type 0
Runs p R = (ts : List Leaf) → Fine p R ts (p ts)

-- something that the reader can read, its first token having the number k
abbrev pub Some_of : {A : Type 0} → (A → List Leaf → Type 0) → Type 0
Some_of {A} R = (k : ℕ) → (a : A) × (tail : List Terminal) × R a (leaves_at k tail)

pub record Good {A : Type 0} (p : Reader A) (R : A → List Leaf → Type 0) : Type 0 where
  pub run : Runs p R
  pub some : Some_of R

-- ---- lists

pub next_same : (front a b : List Leaf) → next a ≡ next b → next (front ++ a) ≡ next (front ++ b)
next_same [] a b e = e
next_same (i ∷ front) a b e = refl

pub begins_same : (test : Terminal → Bool) (a b : List Leaf) → next a ≡ next b → begins test a ≡ begins test b
begins_same test [] [] e = refl
begins_same test [] (j ∷ b) e = absurd cc
begins_same test (i ∷ a) [] e = absurd cc
begins_same test (i ∷ a) (j ∷ b) e = let k : i.terminal ≡ j.terminal = cc in ap test k

-- ---- the same outcome for another reader

pub moved : {A : Type 0} (p q : Reader A) (R : A → List Leaf → Type 0) (ts : List Leaf) (o : Out A) →
    ((front rest other : List Leaf) → ts ≡ front ++ rest → next other ≡ next rest →
    q (front ++ other) ≡ p (front ++ other)) → Fine p R ts o → Fine q R ts o
moved p q R ts (Got a rest) h f = record {
  front = f.front;
  split = f.split;
  means = f.means;
  local = λ other e. h f.front rest other f.split e ∙ f.local other e;
}
moved p q R ts (Wrong n) h f = record {
  front = f.front;
  bad = f.bad;
  split = f.split;
  place = f.place;
  local = λ other e. h f.front f.bad other f.split e ∙ f.local other e;
  more = f.more;
}
moved p q R ts (Deep n) h f = record {
  front = f.front;
  bad = f.bad;
  here = f.here;
  later = f.later;
  bad_is = f.bad_is;
  more = f.more;
  split = f.split;
  place = f.place;
  local = λ other e. h f.front f.bad other f.split e ∙ f.local other e;
}

-- ---- a weaker meaning

weaker_at : {A : Type 0} (p : Reader A) (R Q : A → List Leaf → Type 0) → ((a : A) (x : List Leaf) → R a x → Q a x) →
    (ts : List Leaf) (o : Out A) → Fine p R ts o → Fine p Q ts o
weaker_at p R Q w ts (Got a rest) f =
    record { front = f.front; split = f.split; means = w a f.front f.means; local = f.local }
weaker_at p R Q w ts (Wrong n) f = record {
  front = f.front;
  bad = f.bad;
  split = f.split;
  place = f.place;
  local = f.local;
  more = λ k. let m = f.more k in (m.0, m.1, w m.0 (f.front ++ leaves_at k m.1) m.2);
}
weaker_at p R Q w ts (Deep n) f = record {
  front = f.front;
  bad = f.bad;
  here = f.here;
  later = f.later;
  bad_is = f.bad_is;
  split = f.split;
  place = f.place;
  local = f.local;
  more = λ k. let m = f.more k in
      (m.0, m.1, w m.0 (f.front ++ (f.here ∷ leaves_at k m.1)) m.2);
}

pub weaker : {A : Type 0} (p : Reader A) (R Q : A → List Leaf → Type 0) → ((a : A) (x : List Leaf) → R a x → Q a x) →
    Good p R → Good p Q
weaker p R Q w g = record {
  run = λ ts. weaker_at p R Q w ts (p ts) (g.run ts);
  some = λ k. let m = g.some k in
      (m.0, m.1, w m.0 (leaves_at k m.1) m.2);
}

-- ---- one reader after the other

module _ {A B : Type 0} (p : Reader A) (g : A → Reader B) (R : A → List Leaf → Type 0) (Q : B → List Leaf →
    Type 0) where
  then_got : (ts : List Leaf) (a : A) (rest : List Leaf) (f : Took p R ts a rest) (o : Out B) →
      Fine (g a) (λ b y. Q b (f.front ++ y)) rest o → Fine (p >>= g) Q ts o
  then_got ts a rest f (Got b last) h = record {
    front = f.front ++ h.front;
    split = f.split ∙ ap (λ l. f.front ++ l) h.split ∙ sym (append_assoc f.front h.front last);
    means = h.means;
    local = λ other e.
        let n : next (h.front ++ other) ≡ next rest = next_same h.front other last e ∙ ap next (sym h.split) in
        ap (p >>= g) (append_assoc f.front h.front other) ∙ ap (λ o. after o g) (f.local (h.front ++ other) n) ∙
        h.local other e;
  }
  then_got ts a rest f (Wrong m) h = record {
    front = f.front ++ h.front;
    bad = h.bad;
    split = f.split ∙ ap (λ l. f.front ++ l) h.split ∙ sym (append_assoc f.front h.front h.bad);
    place = h.place;
    local = λ other e.
        let n : next (h.front ++ other) ≡ next rest = next_same h.front other h.bad e ∙ ap next (sym h.split) in
        ap (p >>= g) (append_assoc f.front h.front other) ∙ ap (λ o. after o g) (f.local (h.front ++ other) n) ∙
        h.local other e;
    more = λ k. let m =
        h.more k in (m.0, m.1, subst (λ l. Q m.0 l) (sym (append_assoc f.front h.front (leaves_at k m.1))) m.2);
  }
  then_got ts a rest f (Deep m) h = record {
    front = f.front ++ h.front;
    bad = h.bad;
    here = h.here;
    later = h.later;
    bad_is = h.bad_is;
    more = λ k. let m = h.more k in
        (m.0, m.1, subst (λ l. Q m.0 l) (sym (append_assoc f.front h.front (h.here ∷ leaves_at k m.1))) m.2);
    split = f.split ∙ ap (λ l. f.front ++ l) h.split ∙ sym (append_assoc f.front h.front h.bad);
    place = h.place;
    local = λ other e.
        let n : next (h.front ++ other) ≡ next rest = next_same h.front other h.bad e ∙ ap next (sym h.split) in
        ap (p >>= g) (append_assoc f.front h.front other) ∙ ap (λ o. after o g) (f.local (h.front ++ other) n) ∙
        h.local other e;
  }

  joined_some : (a : A) (x : List Leaf) → Some_of (λ b y. Q b (x ++ y)) → (k : ℕ) → (b : B) × (tail : List Terminal) ×
      Q b (x ++ leaves_at k tail)
  joined_some a x s k = s k

  -- at one list, where what comes after need only be known for what is left of it
  pub then_at : (ts : List Leaf) (o : Out A) → p ts ≡ o → Fine p R ts o
      → ((a : A) (x rest : List Leaf) → p ts ≡ Got a rest → ts ≡ x ++ rest → R a x →
      Fine (g a) (λ b y. Q b (x ++ y)) rest (g a rest))
      → ((a : A) (x : List Leaf) → R a x → Some_of (λ b y. Q b (x ++ y)))
      → Fine (p >>= g) Q ts (after o g)
  then_at ts (Got a rest) e f run some = then_got ts a rest f (g a rest) (run a f.front rest e f.split f.means)
  then_at ts (Wrong n) e f run some = record {
    front = f.front;
    bad = f.bad;
    split = f.split;
    place = f.place;
    local = λ other s. ap (λ o. after o g) (f.local other s);
    more = λ k.
        let m = f.more k in
        let s = some m.0 (f.front ++ leaves_at k m.1) m.2 (k + length m.1) in
        let e : (f.front ++ leaves_at k m.1) ++ leaves_at (k + length m.1) s.1 ≡ f.front ++ leaves_at k (m.1 ++ s.1) =
        append_assoc f.front (leaves_at k m.1) (leaves_at (k + length m.1) s.1) ∙
        ap (λ l. f.front ++ l) (sym (leaves_append k m.1 s.1)) in
        (s.0, m.1 ++ s.1, subst (λ l. Q s.0 l) e s.2);
  }
  then_at ts (Deep n) e f run some = record {
    front = f.front;
    bad = f.bad;
    here = f.here;
    later = f.later;
    bad_is = f.bad_is;
    split = f.split;
    place = f.place;
    local = λ other s. ap (λ o. after o g) (f.local other s);
    more = λ k.
        let m = f.more k in
        let s = some m.0 (f.front ++ (f.here ∷ leaves_at k m.1)) m.2 (k + length m.1) in
        let e : (f.front ++ (f.here ∷ leaves_at k m.1)) ++ leaves_at (k + length m.1) s.1 ≡ f.front ++
        (f.here ∷ leaves_at k (m.1 ++ s.1)) =
        append_assoc f.front (f.here ∷ leaves_at k m.1) (leaves_at (k + length m.1) s.1) ∙
        ap (λ l. f.front ++ (f.here ∷ l)) (sym (leaves_append k m.1 s.1)) in
        (s.0, m.1 ++ s.1, subst (λ l. Q s.0 l) e s.2);
  }

  pub then_some : Some_of R → ((a : A) (x : List Leaf) → R a x → Some_of (λ b y. Q b (x ++ y))) → Some_of Q
  then_some first some k =
      let m = first k in
      let s = some m.0 (leaves_at k m.1) m.2 (k + length m.1) in
      (s.0, m.1 ++ s.1, subst (λ l. Q s.0 l) (sym (leaves_append k m.1 s.1)) s.2)

  pub good_then : Good p R → ((a : A) (x : List Leaf) → R a x → Good (g a) (λ b y. Q b (x ++ y))) → Good (p >>= g) Q
  good_then h c = record {
    run = λ ts. then_at ts (p ts) refl (h.run ts) (λ a x rest e s r. (c a x r).run rest) (λ a x r. (c a x r).some);
    some = then_some h.some (λ a x r. (c a x r).some);
  }

-- ---- the small readers

pub good_done : {A : Type 0} (a : A) (R : A → List Leaf → Type 0) → R a [] → Good (done a) R
good_done a R r = record {
  run = λ ts. record { front = []; split = refl; means = r; local = λ other e. refl };
  some = λ k. (a, [], r);
}

pub then_done : {A B : Type 0} (p : Reader A) (f : A → B) (R : A → List Leaf → Type 0) (Q : B → List Leaf → Type 0) →
    Good p R → ((a : A) (x : List Leaf) → R a x → Q (f a) x) → Good (p >>= λ a. done (f a)) Q
then_done p f R Q h q = good_then p (λ a. done (f a)) R Q h (λ a x r. good_done (f a) (λ b y. Q b (x ++ y))
    (subst (λ l. Q (f a) l) (sym (append-nil x)) (q a x r)))

-- ---- a choice by the next token

module _ {A : Type 0} (test : Terminal → Bool) (p q : Reader A) (Q : A → List Leaf → Type 0) where
  choose_true : (ts : List Leaf) → begins test ts ≡ true → Fine p Q ts (p ts) →
      Fine (choose test p q) Q ts (choose test p q ts)
  choose_true ts b f =
      let e : choose test p q ts ≡ p ts = rw b refl in
      let other : (front rest other : List Leaf) → ts ≡ front ++ rest → next other ≡ next rest →
      choose test p q (front ++ other) ≡ p (front ++ other) = λ front rest other s n.
      let c : begins test (front ++ other) ≡ true =
      begins_same test (front ++ other) (front ++ rest) (next_same front other rest n) ∙
      ap (begins test) (sym s) ∙ b in
      rw c refl in
      subst (λ o. Fine (choose test p q) Q ts o) (sym e) (moved p (choose test p q) Q ts (p ts) other f)

  choose_false : (ts : List Leaf) → begins test ts ≡ false → Fine q Q ts (q ts) →
      Fine (choose test p q) Q ts (choose test p q ts)
  choose_false ts b f =
      let e : choose test p q ts ≡ q ts = rw b refl in
      let other : (front rest other : List Leaf) → ts ≡ front ++ rest → next other ≡ next rest →
      choose test p q (front ++ other) ≡ q (front ++ other) = λ front rest other s n.
      let c : begins test (front ++ other) ≡ false =
      begins_same test (front ++ other) (front ++ rest) (next_same front other rest n) ∙
      ap (begins test) (sym s) ∙ b in
      rw c refl in
      subst (λ o. Fine (choose test p q) Q ts o) (sym e) (moved q (choose test p q) Q ts (q ts) other f)

  choose_by : (ts : List Leaf) (b : Bool) → begins test ts ≡ b → (begins test ts ≡ true → Fine p Q ts (p ts)) →
      (begins test ts ≡ false → Fine q Q ts (q ts)) → Fine (choose test p q) Q ts (choose test p q ts)
  choose_by ts true b f h = choose_true ts b (f b)
  choose_by ts false b f h = choose_false ts b (h b)

  pub choose_at : (ts : List Leaf) → (begins test ts ≡ true → Fine p Q ts (p ts)) →
      (begins test ts ≡ false → Fine q Q ts (q ts)) → Fine (choose test p q) Q ts (choose test p q ts)
  choose_at ts = choose_by ts (begins test ts) refl

  pub good_choose : Runs p Q → Good q Q → Good (choose test p q) Q
  good_choose f h = record { run = λ ts. choose_at ts (λ _. f ts) (λ _. h.run ts); some = h.some }

-- something that begins with the token, in the middle of what is being read
abbrev pub Starts : {A : Type 0} → (Terminal → Bool) → (A → List Leaf → Type 0) → Type 0
Starts {A} test R =
    (i : Leaf) → test i.terminal ≡ true → (k : ℕ) → (a : A) × (tail : List Terminal) × R a (i ∷ leaves_at k tail)

pub deep_at : {A : Type 0} (test : Terminal → Bool) (R : A → List Leaf → Type 0) → Starts test R → (ts : List Leaf) →
    begins test ts ≡ true → Fine deep R ts (deep ts)
deep_at test R s [] b = absurd cc
deep_at test R s (i ∷ ts) b = record {
  front = [];
  bad = i ∷ ts;
  here = i;
  later = ts;
  bad_is = refl;
  split = refl;
  place = refl;
  local = λ other e. refl;
  more = s i b;
}

pub good_deep : {A : Type 0} (test : Terminal → Bool) (q : Reader A) (Q : A → List Leaf → Type 0) → Starts test Q →
    Good q Q → Good (choose test deep q) Q
good_deep test q Q s h =
    record { run = λ ts. choose_at test deep q Q ts (λ b. deep_at test Q s ts b) (λ _. h.run ts); some = h.some }

pub good_wrong : {A : Type 0} (R : A → List Leaf → Type 0) → Some_of R → Good wrong R
good_wrong R s = record {
  run = λ ts. record {
    front = [];
    bad = ts;
    split = refl;
    place = refl;
    local = λ other e. refl;
    more = s;
  };
  some = s;
}

pub good_cond : {A : Type 0} (b : Bool) (p q : Reader A) (Q : A → List Leaf → Type 0) → (b ≡ true → Good p Q) →
    (b ≡ false → Good q Q) → Good (cond b p q) Q
good_cond true p q Q f h = f refl
good_cond false p q Q f h = h refl
