-- Lists that say of each cell whether it is live.
use Rattle.std.proofs.Common.{◌≡◌, ◌≢◌, ℕ, zero, suc, ◌+◌, ◌<◌, ◌≤◌, List, [], ◌∷◌, ◌++◌, length, get_or}
use Rattle.std.proofs.Common.{take, drop, add-one, zero-add, refl, ap, sym, ◌∙◌, arith, cond, below_more}
use Rattle.std.specs.Prelude.{◌||◌, slice_set}
use Rattle.std.specs.Prelude.{Bool as Test, true, false}
use Rattle.std.proofs.lemmas.List.{get_or-set_same, get_or-set_other, length-set, drop_all, append-nil}
use Rattle.kir.specs.declared.line.Atom.{Atom}
use Rattle.kir.specs.Live.{reads, some_reads}
use Rattle.regions.specs.Living.{those, those_of, IsSet, Becomes}
use Rattle.kir.proofs.Firsts.{first_left}

-- a list of which the entries below a number have become what they are to be
pub record Halfway (old new : List Test) (entry : ℕ → Test → Test) (i : ℕ) : Type 0 where
  pub count : length new ≡ length old
  pub below : (c : ℕ) → c < i → c < length old → get_or new c false ≡ entry c (get_or old c false)
  pub above : (c : ℕ) → i ≤ c → get_or new c false ≡ get_or old c false

pub halfway_start : (old : List Test) (entry : ℕ → Test → Test) → Halfway old old entry 0
halfway_start old entry = record { count = refl; below = λ c lt _. absurd (omega arith); above = λ c _. refl }

-- one more, written
pub halfway_set : (old mid : List Test) (entry : ℕ → Test → Test) (i : ℕ) (v : Test) → Halfway old mid entry i →
    i < length mid → v ≡ entry i (get_or mid i false) → Halfway old (slice_set mid i v) entry (i + 1)
halfway_set old mid entry i v h lt e = record {
  count = length-set mid i v ∙ h.count;
  below =
      below_more (λ c. c < length old → get_or (slice_set mid i v) c false ≡ entry c (get_or old c false)) i
      (λ c less small. let ne : c ≢ i = omega arith in get_or-set_other mid i c v false ne ∙ h.below c less small)
      (λ small. get_or-set_same mid i v false lt ∙ (e ∙ ap (entry i) (h.above i (omega arith))));
  above = λ c over. let ne : c ≢ i = omega arith in get_or-set_other mid i c v false ne ∙ h.above c (omega arith);
}

-- one more, which stays as it was
pub halfway_keep : (old mid : List Test) (entry : ℕ → Test → Test) (i : ℕ) → Halfway old mid entry i →
    get_or mid i false ≡ entry i (get_or mid i false) → Halfway old mid entry (i + 1)
halfway_keep old mid entry i h e = record {
  count = h.count;
  below =
      below_more (λ c. c < length old → get_or mid c false ≡ entry c (get_or old c false)) i
      h.below
      (λ small. e ∙ ap (entry i) (h.above i (omega arith)));
  above = λ c over. h.above c (omega arith);
}

-- all
pub halfway_end : (old new : List Test) (entry : ℕ → Test → Test) (i : ℕ) → Halfway old new entry i → length new ≤ i →
    Becomes old new entry
halfway_end old new entry i h all =
    record { count = h.count; each = λ c small. h.below c (let e = h.count in omega (arith, e)) small }

-- ---- what becomes of sets

-- one step behind another
pub becomes_then : (old mid new : List Test) (f g : ℕ → Test → Test) → Becomes old mid f → Becomes mid new g →
    Becomes old new (λ c live. g c (f c live))
becomes_then old mid new f g a b =
    record {
      count = b.count ∙ a.count;
      each = λ c small. b.each c (let e = a.count in omega (arith, e)) ∙
          ap (g c) (a.each c small);
    }

-- the same said otherwise
pub becomes_as : (old new : List Test) (f g : ℕ → Test → Test) → ((c : ℕ) (live : Test) → f c live ≡ g c live) →
    Becomes old new f → Becomes old new g
becomes_as old new f g same a =
    record { count = a.count; each = λ c small. a.each c small ∙ same c (get_or old c false) }

-- cells of a test, and what they become
pub set_becomes : (cells : ℕ) (old new : List Test) (test : ℕ → Test) (entry : ℕ → Test → Test) →
    IsSet cells old test → Becomes old new entry → IsSet cells new (λ c. entry c (test c))
set_becomes cells old new test entry is b =
    record {
      count = b.count ∙ is.count;
      each = λ c small. b.each c (let e = is.count in omega (arith, e)) ∙
          ap (entry c) (is.each c small);
    }

pub set_as : (cells : ℕ) (set : List Test) (f g : ℕ → Test) → ((c : ℕ) → c < cells → f c ≡ g c) → IsSet cells set f →
    IsSet cells set g
set_as cells set f g same is = record { count = is.count; each = λ c small. is.each c small ∙ same c small }

-- ---- atoms in a row

or_swap : (p q x : Test) → (q || (p || x)) ≡ ((p || q) || x)
or_swap true true x = refl
or_swap true false x = refl
or_swap false true x = refl
or_swap false false x = refl

-- atoms of which some are still to be marked
pub record Marks (old new : List Test) (left all : List Atom) : Type 0 where
  pub count : length new ≡ length old
  pub each : (c : ℕ) → c < length old →
      (some_reads c left || get_or new c false) ≡ (some_reads c all || get_or old c false)

pub marks_step : (old mid new : List Test) (all : List Atom) (i : ℕ) (a : Atom) → i < length all →
    a ≡ get_or all i a → Marks old mid (drop i all) all → Becomes mid new (λ c live. reads c a || live) →
    Marks old new (drop (i + 1) all) all
marks_step old mid new all i a lt is m b = record {
  count = b.count ∙ m.count;
  each =
      λ c small.
      ap (λ x. some_reads c (drop (i + 1) all) || x) (b.each c (let e = m.count in omega (arith, e)))
      ∙ (or_swap (reads c a) (some_reads c (drop (i + 1) all)) (get_or mid c false)
      ∙ (ap (λ xs. some_reads c xs || get_or mid c false) (sym (first_left all i a lt is)) ∙ m.each c small));
}

pub marks_end : (old new : List Test) (all : List Atom) (i : ℕ) → length all ≤ i → Marks old new (drop i all) all →
    Becomes old new (λ c live. some_reads c all || live)
marks_end old new all i done m =
    record {
      count = m.count;
      each = λ c small. ap (λ xs. some_reads c xs || get_or new c false)
          (sym (drop_all i all done)) ∙ m.each c small;
    }

-- ---- the numbers of those that are live

those_more : (set : List Test) (n first : ℕ) →
    those first (take (suc n) set) ≡ those first (take n set) ++ cond (get_or set n false) ((first + n) ∷ []) []
those_more [] zero first = refl
those_more [] (suc n) first = refl
those_more (true ∷ set) zero first = let same : first ≡ first + 0 = omega arith in ap (λ k. k ∷ []) same
those_more (false ∷ set) zero first = refl
those_more (true ∷ set) (suc n) first =
    let same : suc first + n ≡ first + suc n = omega arith in
    ap (λ l. first ∷ l) (those_more set n (suc first) ∙
    ap (λ k. those (suc first) (take n set) ++ cond (get_or set n false) (k ∷ []) []) same)
those_more (false ∷ set) (suc n) first =
    let same : suc first + n ≡ first + suc n = omega arith in
    those_more set n (suc first) ∙
    ap (λ k. those (suc first) (take n set) ++ cond (get_or set n false) (k ∷ []) []) same

those_then : (set : List Test) (n : ℕ) (b : Test) → get_or set n false ≡ b →
    those_of (n + 1) set ≡ those_of n set ++ cond b (n ∷ []) []
those_then set n b e =
    ap (λ k. those 0 (take k set)) (add-one n) ∙ (those_more set n 0 ∙
    (ap (λ c. those 0 (take n set) ++ cond c ((0 + n) ∷ []) []) e ∙
    ap (λ k. those 0 (take n set) ++ cond b (k ∷ []) []) (zero-add n)))

pub those_found : (set : List Test) (list longer : List ℕ) (n : ℕ) (b : Test) → b ≡ get_or set n false → b ≡ true →
    longer ≡ list ++ n ∷ [] → list ≡ those_of n set → longer ≡ those_of (n + 1) set
those_found set list longer n b is live e same =
    e ∙ (ap (λ l. l ++ n ∷ []) same ∙ sym (those_then set n true (sym is ∙ live)))

pub those_passed : (set : List Test) (list : List ℕ) (n : ℕ) (b : Test) → b ≡ get_or set n false → b ≡ false →
    list ≡ those_of n set → list ≡ those_of (n + 1) set
those_passed set list n b is dead same =
    same ∙ (sym (append-nil (those_of n set)) ∙ sym (those_then set n false (sym is ∙ dead)))
