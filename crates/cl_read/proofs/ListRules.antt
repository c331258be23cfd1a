-- The rules for lists.
use Rattle.std.proofs.Common.{◌≡◌, ℕ, zero, suc, ◌<◌, ◌≤◌, Bool, true, false, cond, List, [], ◌∷◌, ◌++◌, length, refl}
use Rattle.std.proofs.Common.{sym, ap, subst, ◌∙◌, arith}
use Rattle.std.proofs.lemmas.List.{append-nil}
use Rattle.cl_tree.specs.declared.terminal.Terminal.{Terminal}
use Rattle.cl_tree.specs.declared.terminal.Leaf.{Leaf}
use Rattle.cl_read.specs.Reading.{Out, Got, Wrong, Deep, Reader, after, ◌>>=◌, done, begins, Listing, empty, appended}
use Rattle.cl_read.specs.Reading.{list_of, all_of}
use Rattle.cl_read.proofs.Good.{next, Fine, Some_of, Good, next_same, begins_same, moved, then_at, good_done}

module _ (test : Terminal → Bool) (p : Reader (Bool × Listing)) where
  -- what follows a member
  abbrev pub onward : Bool × Listing → Reader Listing
  onward a = cond a.0 (all_of test p >>= λ l. done (appended a.1 l)) (done a.1)

  abbrev pub body : Reader Listing
  body = p >>= onward

  abbrev pub Shrinks : Type 0
  Shrinks = (ts rest : List Leaf) (a : Bool × Listing) → p ts ≡ Got a rest → length rest < length ts

  pub all_stops : (ts : List Leaf) → begins test ts ≡ false → all_of test p ts ≡ Got empty ts
  unfolding all_of list_of
  all_stops [] b = refl
  all_stops (i ∷ ts) b = rw b refl

  by_flag : (b : Bool) (u v w : Reader Listing) (rest : List Leaf) → u rest ≡ v rest → cond b u w rest ≡ cond b v w rest
  by_flag true u v w rest e = e
  by_flag false u v w rest e = refl

  abbrev step_with : Reader Listing → Bool × Listing → Reader Listing
  step_with q a = cond a.0 (q >>= λ l. done (appended a.1 l)) (done a.1)

  stable : Shrinks → (n m : ℕ) (ts : List Leaf) → length ts ≤ n → length ts ≤ m →
      list_of test p n ts ≡ list_of test p m ts
  unfolding list_of
  stable s zero zero ts a b = refl
  stable s zero (suc m) [] a b = refl
  stable s zero (suc m) (i ∷ ts) a b = absurd (omega arith)
  stable s (suc n) zero [] a b = refl
  stable s (suc n) zero (i ∷ ts) a b = absurd (omega arith)
  stable s (suc n) (suc m) ts a b =
      ap (λ (o : Out Listing). cond (begins test ts) o (Got empty ts)) (go (λ rest h k. stable s n m rest h k) (p ts)
      refl)
    where
      go : ((rest : List Leaf) → length rest ≤ n → length rest ≤ m → list_of test p n rest ≡ list_of test p m rest) →
          (o : Out (Bool × Listing)) → p ts ≡ o →
          after o (step_with (list_of test p n)) ≡ after o (step_with (list_of test p m))
      go again (Got c rest) e =
          let lt : length rest < length ts = s ts rest c e in
          by_flag c.0 (list_of test p n >>= λ l. done (appended c.1 l)) (list_of test p m >>= λ l.
          done (appended c.1 l)) (done c.1) rest
          (ap (λ (o : Out Listing). after o (λ l. done (appended c.1 l))) (again rest (omega arith) (omega arith)))
      go again (Wrong k) e = refl
      go again (Deep k) e = refl

  all_body_at : Shrinks → (i : Leaf) (ts : List Leaf) (o : Out (Bool × Listing)) → p (i ∷ ts) ≡ o →
      after o (step_with (list_of test p (length ts))) ≡ after o onward
  unfolding all_of
  all_body_at s i ts (Got c rest) e =
      let lt : length rest < suc (length ts) = s (i ∷ ts) rest c e in
      by_flag c.0 (list_of test p (length ts) >>= λ l. done (appended c.1 l)) (all_of test p >>= λ l.
      done (appended c.1 l)) (done c.1) rest
      (ap (λ (o : Out Listing). after o (λ l. done (appended c.1 l)))
      (stable s (length ts) (length rest) rest (omega arith) (omega arith)))
  all_body_at s i ts (Wrong k) e = refl
  all_body_at s i ts (Deep k) e = refl

  -- one member, and then the others
  pub all_goes : Shrinks → (ts : List Leaf) → begins test ts ≡ true → all_of test p ts ≡ body ts
  unfolding all_of list_of
  all_goes s [] b = absurd cc
  all_goes s (i ∷ ts) b = rw b (all_body_at s i ts (p (i ∷ ts)) refl)

  module _ (R : Bool × Listing → List Leaf → Type 0) (T : Listing → List Leaf →
      Type 0) (nil : T empty []) (cons : (a : Listing) (x : List Leaf) → R (true, a) x →
      (l : Listing) (y : List Leaf) → T l y → T (appended a l) (x ++ y)) (last : (a : Listing) (x : List Leaf) →
      R (false, a) x → T a x) where
    empty_of : Some_of T
    empty_of k = (empty, [], nil)

    one_some : (b : Bool) (a : Listing) (x : List Leaf) → R (b, a) x → Some_of (λ l y. T l (x ++ y))
    one_some true a x r k = (appended a empty, [], cons a x r empty [] nil)
    one_some false a x r k = (a, [], subst (λ z. T a z) (sym (append-nil x)) (last a x r))

    all_stopped : (ts : List Leaf) → begins test ts ≡ false → Fine (all_of test p) T ts (all_of test p ts)
    all_stopped ts b = rw (all_stops ts b) (record {
      front = [];
      split = refl;
      means = nil;
      local = λ other e. all_stops other (begins_same test other ts e ∙ b);
    })

    after_member : (b : Bool) (a : Listing) (x rest : List Leaf) → R (b, a) x →
        Fine (all_of test p) T rest (all_of test p rest) →
        Fine (onward (b, a)) (λ l y. T l (x ++ y)) rest (onward (b, a) rest)
    after_member true a x rest r again =
        then_at (all_of test p) (λ l. done (appended a l)) T (λ l y. T l (x ++ y)) rest (all_of test p rest) refl again
        (λ l y last_ q d t. (good_done (appended a l) (λ m z. T m (x ++ (y ++ z)))
        (subst (λ z. T (appended a l) (x ++ z)) (sym (append-nil y)) (cons a x r l y t))).run last_)
        (λ l y t k. (appended a l, [], subst (λ z. T (appended a l) (x ++ z)) (sym (append-nil y)) (cons a x r l y t)))
    after_member false a x rest r again =
        (good_done a (λ l y. T l (x ++ y)) (subst (λ z. T a z) (sym (append-nil x)) (last a x r))).run rest

    all_body : Shrinks → Good p R → (ts : List Leaf) → begins test ts ≡ true →
        ((rest : List Leaf) → length rest < length ts → Fine (all_of test p) T rest (all_of test p rest)) →
        Fine (all_of test p) T ts (all_of test p ts)
    all_body s g ts b again =
        let whole : Fine body T ts (body ts) =
        then_at p onward R T ts (p ts) refl (g.run ts) (λ a x rest e split r.
        after_member a.0 a.1 x rest r (again rest (s ts rest a e))) (λ a x r. one_some a.0 a.1 x r) in
        let other : (front rest other : List Leaf) → ts ≡ front ++ rest → next other ≡ next rest →
        all_of test p (front ++ other) ≡ body (front ++ other) = λ front rest other d n.
        all_goes s (front ++ other) (begins_same test (front ++ other) (front ++ rest)
        (next_same front other rest n) ∙ ap (begins test) (sym d) ∙ b) in
        subst (λ o. Fine (all_of test p) T ts o) (sym (all_goes s ts b))
        (moved body (all_of test p) T ts (body ts) other whole)

    all_runs : Shrinks → Good p R → (n : ℕ) (ts : List Leaf) → length ts < n →
        Fine (all_of test p) T ts (all_of test p ts)
    all_runs s g zero ts h = absurd (omega arith)
    all_runs s g (suc n) ts h = go (λ rest lt. all_runs s g n rest (omega arith)) (begins test ts) refl
      where
        go : ((rest : List Leaf) → length rest < length ts → Fine (all_of test p) T rest (all_of test p rest)) →
            (b : Bool) → begins test ts ≡ b → Fine (all_of test p) T ts (all_of test p ts)
        go again true b = all_body s g ts b again
        go again false b = all_stopped ts b

    pub good_all : Shrinks → Good p R → Good (all_of test p) T
    good_all s g = record { run = λ ts. all_runs s g (suc (length ts)) ts (omega arith); some = empty_of }
