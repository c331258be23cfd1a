-- The unit: what reading all of the tokens says.
use Rattle.std.proofs.Common.{◌≡◌, ℕ, suc, ◌+◌, ◌<◌, ◌≤◌, max, List, [], ◌∷◌, ◌++◌, length, take, drop, map, true}
use Rattle.std.proofs.Common.{refl, sym, ap, subst, ◌∙◌, append_assoc, arith, inl, inr}
use Rattle.std.proofs.lemmas.List.{append-nil, length-append, take-append-le, take-append-drop}
use Rattle.std.proofs.lemmas.Bool.{cases_lt}
use Rattle.std.proofs.Math.Seq.{take-append-add}
use Rattle.cl_token.specs.declared.token.Token.{Token}
use Rattle.cl_tree.specs.declared.terminal.Leaf.{Leaf}
use Rattle.cl_tree.specs.Words.{terminal_of}
use Rattle.cl_tree.specs.Leaves.{leaves_of}
use Rattle.cl_tree.specs.Syntax.{Syntax, nesting}
use Rattle.cl_tree.specs.Nodes.{unit_node}
use Rattle.cl_tree.specs.Grammar.{Source, SpellsUnit}
use Rattle.cl_tree.specs.Places.{Continues, NoUnit, NoUnitWithin, SomeUnit, DeeperUnit}
use Rattle.cl_read.specs.Reading.{Out, Got, Wrong, Deep, after, done, Listing, all_of, each, readers, item_of, unit_of}
use Rattle.cl_read.proofs.Spellings.{token_at, leaves_are}
use Rattle.cl_read.proofs.Good.{next, Took, Stopped, Sank, Fine}
use Rattle.cl_read.proofs.Sound.{Tree_of}
use Rattle.cl_read.proofs.SoundUnit.{good_unit}
use Rattle.cl_read.proofs.CompleteUnit.{unit_reads, unit_ends}
use Rattle.cl_read.proofs.Below.{Meets, below_items}
use Rattle.cl_read.proofs.NoRoom.{all_below}

-- how deep the units nest that are read with that much room
abbrev pub top : ℕ → ℕ
top n = suc (suc (suc (suc (suc n))))

unit_below : (n m : ℕ) → n ≤ m → (ts : List Leaf) (k : ℕ) → unit_of n ts ≡ Wrong k → unit_of m ts ≡ Wrong k
unfolding unit_of
unit_below n m d ts k e =
    go (all_of (λ j. true) (each (item_of (readers (suc n)) (readers (suc (suc n))) (readers (suc (suc (suc n))))))
    ts) (all_of (λ j. true) (each (item_of (readers (suc m)) (readers (suc (suc m))) (readers (suc (suc (suc m))))))
    ts)
    (below_items (readers (suc n)) (readers (suc (suc n))) (readers (suc (suc (suc n)))) (readers (suc m))
    (readers (suc (suc m))) (readers (suc (suc (suc m)))) (all_below (suc n) (suc m) (omega arith))
    (all_below (suc (suc n)) (suc (suc m)) (omega arith)) (all_below (suc (suc (suc n))) (suc (suc (suc m)))
    (omega arith)) ts) e
  where
    go : (o u : Out Listing) → Meets o u → after o (λ l. done (unit_node l.parts)) ≡ Wrong k →
        after u (λ l. done (unit_node l.parts)) ≡ Wrong k
    go (Got t rest) u h e = rw h e
    go (Wrong j) u h e = rw h e
    go (Deep j) u h e = absurd cc

leaves_append : (k : ℕ) (a b : List Token) → leaves_of k (a ++ b) ≡ leaves_of k a ++ leaves_of (k + length a) b
leaves_append k [] b = ap (λ m. leaves_of m b) (omega arith)
leaves_append k (t ∷ a) b =
    let e : leaves_of (suc k + length a) b ≡ leaves_of (k + suc (length a)) b = ap (λ m. leaves_of m b) (omega arith) in
    ap (λ (l : List Leaf). record { number = k; terminal = terminal_of t.kind t.word; word = t.word } ∷ l)
    (leaves_append (suc k) a b ∙ ap (λ l. leaves_of (suc k) a ++ l) e)

-- ---- tokens and their numbers

pub record Parts (start : ℕ) (tokens : List Token) (front bad : List Leaf) : Type 0 where
  pub before : List Token
  pub behind : List Token
  pub split : tokens ≡ before ++ behind
  pub front_is : front ≡ leaves_of start before
  pub bad_is : bad ≡ leaves_of (start + length before) behind

parts : (start : ℕ) (tokens : List Token) (front bad : List Leaf) → leaves_of start tokens ≡ front ++ bad →
    Parts start tokens front bad
parts start tokens [] bad e = record {
  before = [];
  behind = tokens;
  split = refl;
  front_is = refl;
  bad_is = sym e ∙
      ap (λ m. leaves_of m tokens) (omega arith);
}
parts start [] (i ∷ front) bad e = absurd cc
parts start (t ∷ tokens) (i ∷ front) bad e =
    let head : i ≡ record { number = start; terminal = terminal_of t.kind t.word; word = t.word } = cc in
    let tail : leaves_of (suc start) tokens ≡ front ++ bad = cc in
    let p = parts (suc start) tokens front bad tail in
    record {
      before = t ∷ p.before;
      behind = p.behind;
      split = ap (λ (l : List Token). t ∷ l) p.split;
      front_is = ap (λ l. i ∷ l) p.front_is ∙ ap (λ (j : Leaf). j ∷ leaves_of (suc start) p.before) head;
      bad_is = p.bad_is ∙ ap (λ m. leaves_of m p.behind) (omega arith);
    }

leaves_length : (k : ℕ) (tokens : List Token) → length (leaves_of k tokens) ≡ length tokens
leaves_length k [] = refl
leaves_length k (t ∷ tokens) = ap suc (leaves_length (suc k) tokens)

-- what is spelled
pub found : (n : ℕ) (tokens : List Token) (rest : List Leaf) (t : Syntax) →
    unit_of n (leaves_of 0 tokens) ≡ Got t rest → SpellsUnit t tokens
found n tokens rest t e =
    let f : Took (unit_of n) (Tree_of Source) (leaves_of 0 tokens) t rest =
    subst (λ o. Fine (unit_of n) (Tree_of Source) (leaves_of 0 tokens) o) e
    ((good_unit n).run (leaves_of 0 tokens)) in
    let all : leaves_of 0 tokens ≡ f.front =
    f.split ∙ ap (λ l. f.front ++ l) (unit_ends n (leaves_of 0 tokens) rest t e) ∙ append-nil f.front in
    subst (λ z. Tree_of Source t z) (sym all) f.means

pub same_unit : (tokens : List Token) (t u : Syntax) → SpellsUnit t tokens → SpellsUnit u tokens → t ≡ u
same_unit tokens t u h k =
    let n : ℕ = max (nesting t) (nesting u) in
    let a : unit_of (max (nesting t) (nesting u)) (leaves_of 0 tokens) ≡ Got t [] =
    unit_reads (max (nesting t) (nesting u)) t (leaves_of 0 tokens) h (omega arith) in
    let b : unit_of (max (nesting t) (nesting u)) (leaves_of 0 tokens) ≡ Got u [] =
    unit_reads (max (nesting t) (nesting u)) u (leaves_of 0 tokens) k (omega arith) in
    cc

-- ---- places

pub record Continued (before behind ys : List Token) : Type 0 where
  pub other : List Token
  pub split : ys ≡ before ++ other
  pub next_is : (start : ℕ) → next (leaves_of start other) ≡ next (leaves_of start behind)

continued : (tokens before behind ys : List Token) → tokens ≡ before ++ behind → Continues tokens (length before) ys →
    Continued before behind ys
continued tokens before behind ys s (inr h) = record { other = behind; split = h.1 ∙ s; next_is = λ start. refl }
continued tokens before [] ys s (inl h) =
    let l : length tokens ≡ length before + 0 = ap length s ∙ length-append before [] in
    absurd (omega (arith, h.1))
continued tokens before (c ∷ behind) ys s (inl h) = record {
  other = c ∷ h.0;
  split = h.2 ∙ ap (λ l. take (length before + 1) l ++ h.0) s ∙
      ap (λ l. l ++ h.0) (take-append-add before (c ∷ behind) 1) ∙ append_assoc before (c ∷ []) h.0;
  next_is = λ start. refl;
}

-- a place is where a reader stopped, with so many tokens from it on
place_before : (tokens before behind : List Token) (bad : List Leaf) (start k left : ℕ) → tokens ≡ before ++ behind →
    bad ≡ leaves_of start behind → left ≡ length bad → k + left ≡ length tokens → k ≡ length before
place_before tokens before behind bad start k left s b l e =
    let a : length tokens ≡ length before + length behind = ap length s ∙ length-append before behind in
    let c : length bad ≡ length behind = ap length b ∙ leaves_length start behind in
    omega arith

pub no_unit : (n : ℕ) (tokens : List Token) (k left : ℕ) → unit_of n (leaves_of 0 tokens) ≡ Wrong left →
    k + left ≡ length tokens → NoUnit tokens k
no_unit n tokens k left e place ys t c h =
    let f : Stopped (unit_of n) (Tree_of Source) (leaves_of 0 tokens) left =
    subst (λ o. Fine (unit_of n) (Tree_of Source) (leaves_of 0 tokens) o) e
    ((good_unit n).run (leaves_of 0 tokens)) in
    let p = parts 0 tokens f.front f.bad f.split in
    let at : k ≡ length p.before =
    place_before tokens p.before p.behind f.bad (0 + length p.before) k left p.split p.bad_is f.place place in
    let d = continued tokens p.before p.behind ys p.split (subst (λ j. Continues tokens j ys) at c) in
    let text : leaves_of 0 ys ≡ f.front ++ leaves_of (0 + length p.before) d.other = ap (leaves_of 0) d.split ∙
    leaves_append 0 p.before d.other ∙ ap (λ l. l ++ leaves_of (0 + length p.before) d.other) (sym p.front_is) in
    let same_next : next (leaves_of (0 + length p.before) d.other) ≡ next f.bad =
    d.next_is (0 + length p.before) ∙ ap next (sym p.bad_is) in
    let wrong : unit_of n (leaves_of 0 ys) ≡ Wrong (length (leaves_of (0 + length p.before) d.other)) =
    ap (unit_of n) text ∙ f.local (leaves_of (0 + length p.before) d.other) same_next in
    let more_room : unit_of (max n (nesting t)) (leaves_of 0 ys) ≡
    Wrong (length (leaves_of (0 + length p.before) d.other)) =
    unit_below n (max n (nesting t)) (omega arith) (leaves_of 0 ys)
    (length (leaves_of (0 + length p.before) d.other)) wrong in
    let right : unit_of (max n (nesting t)) (leaves_of 0 ys) ≡ Got t [] =
    unit_reads (max n (nesting t)) t (leaves_of 0 ys) h (omega arith) in
    cc

pub no_unit_within : (n : ℕ) (tokens : List Token) (k left : ℕ) → unit_of n (leaves_of 0 tokens) ≡ Deep left →
    k + left ≡ length tokens → NoUnitWithin (top n) tokens k
no_unit_within n tokens k left e place ys t c h d =
    let f : Sank (unit_of n) (Tree_of Source) (leaves_of 0 tokens) left =
    subst (λ o. Fine (unit_of n) (Tree_of Source) (leaves_of 0 tokens) o) e
    ((good_unit n).run (leaves_of 0 tokens)) in
    let p = parts 0 tokens f.front f.bad f.split in
    let at : k ≡ length p.before =
    place_before tokens p.before p.behind f.bad (0 + length p.before) k left p.split p.bad_is f.place place in
    let q = continued tokens p.before p.behind ys p.split (subst (λ j. Continues tokens j ys) at c) in
    let text : leaves_of 0 ys ≡ f.front ++ leaves_of (0 + length p.before) q.other = ap (leaves_of 0) q.split ∙
    leaves_append 0 p.before q.other ∙ ap (λ l. l ++ leaves_of (0 + length p.before) q.other) (sym p.front_is) in
    let same_next : next (leaves_of (0 + length p.before) q.other) ≡ next f.bad =
    q.next_is (0 + length p.before) ∙ ap next (sym p.bad_is) in
    let wrong : unit_of n (leaves_of 0 ys) ≡ Deep (length (leaves_of (0 + length p.before) q.other)) =
    ap (unit_of n) text ∙ f.local (leaves_of (0 + length p.before) q.other) same_next in
    let right : unit_of n (leaves_of 0 ys) ≡ Got t [] = unit_reads n t (leaves_of 0 ys) h d in
    cc

begun : (tokens before behind tail : List Token) (j : ℕ) → tokens ≡ before ++ behind → j < length before →
    Continues tokens j (before ++ tail)
begun tokens before behind tail j s lt =
    let l : length tokens ≡ length before + length behind = ap length s ∙ length-append before behind in
    let le : j + 1 ≤ length before = omega arith in
    let front : take (j + 1) tokens ≡ take (j + 1) before =
    ap (take (j + 1)) s ∙ take-append-le (j + 1) before behind le in
    let text : before ++ tail ≡ take (j + 1) tokens ++ (drop (j + 1) before ++ tail) =
    sym (ap (λ x. x ++ (drop (j + 1) before ++ tail)) front ∙
    sym (append_assoc (take (j + 1) before) (drop (j + 1) before) tail) ∙
    ap (λ x. x ++ tail) (take-append-drop (j + 1) before)) in
    inl (drop (j + 1) before ++ tail, omega arith, text)

pub least_place : (n : ℕ) (tokens : List Token) (k left : ℕ) → unit_of n (leaves_of 0 tokens) ≡ Wrong left →
    k + left ≡ length tokens → (j : ℕ) → j < k → SomeUnit tokens j
least_place n tokens k left e place j lt =
    let f : Stopped (unit_of n) (Tree_of Source) (leaves_of 0 tokens) left =
    subst (λ o. Fine (unit_of n) (Tree_of Source) (leaves_of 0 tokens) o) e
    ((good_unit n).run (leaves_of 0 tokens)) in
    let p = parts 0 tokens f.front f.bad f.split in
    let at : k ≡ length p.before =
    place_before tokens p.before p.behind f.bad (0 + length p.before) k left p.split p.bad_is f.place place in
    let m = f.more (0 + length p.before) in
    let text : f.front ++ leaves_of (0 + length p.before) (map token_at m.1) ≡
    leaves_of 0 (p.before ++ (map token_at m.1)) =
    ap (λ l. l ++ leaves_of (0 + length p.before) (map token_at m.1)) p.front_is ∙
    sym (leaves_append 0 p.before (map token_at m.1)) in (
      p.before ++ (map token_at m.1),
      m.0,
      begun tokens p.before p.behind (map token_at m.1) j p.split (omega arith),
      subst (λ l. Tree_of Source m.0 l) text (subst (λ l. Tree_of Source m.0 (f.front ++ l))
          (leaves_are (0 + length p.before) m.1) m.2),
    )

-- ---- what the public function needs

pub wrong_left : (n : ℕ) (tokens : List Token) (left : ℕ) → unit_of n (leaves_of 0 tokens) ≡ Wrong left →
    left ≤ length tokens
wrong_left n tokens left e =
    let f : Stopped (unit_of n) (Tree_of Source) (leaves_of 0 tokens) left =
    subst (λ o. Fine (unit_of n) (Tree_of Source) (leaves_of 0 tokens) o) e
    ((good_unit n).run (leaves_of 0 tokens)) in
    let l : length (leaves_of 0 tokens) ≡ length f.front + length f.bad =
    ap length f.split ∙ length-append f.front f.bad in
    omega (arith, f.place, leaves_length 0 tokens)

pub deep_left : (n : ℕ) (tokens : List Token) (left : ℕ) → unit_of n (leaves_of 0 tokens) ≡ Deep left →
    left ≤ length tokens
deep_left n tokens left e =
    let f : Sank (unit_of n) (Tree_of Source) (leaves_of 0 tokens) left =
    subst (λ o. Fine (unit_of n) (Tree_of Source) (leaves_of 0 tokens) o) e
    ((good_unit n).run (leaves_of 0 tokens)) in
    let l : length (leaves_of 0 tokens) ≡ length f.front + length f.bad =
    ap length f.split ∙ length-append f.front f.bad in
    omega (arith, f.place, leaves_length 0 tokens)

-- a tree that nests too deep
pub too_deep : (n : ℕ) (tokens : List Token) (rest : List Leaf) (u : Syntax) →
    unit_of n (leaves_of 0 tokens) ≡ Got u rest → (m : ℕ) → m < nesting u → NoUnitWithin m tokens (length tokens)
too_deep n tokens rest u e m deep_ ys t (inl h) k d = absurd (omega (arith, h.1))
too_deep n tokens rest u e m deep_ ys t (inr h) k d =
    let same : t ≡ u =
    same_unit tokens t u (subst (λ (l : List Token). SpellsUnit t l) h.1 k) (found n tokens rest u e) in
    let again : nesting t ≡ nesting u = ap nesting same in
    absurd (omega arith)

-- where the nesting is too deep, a unit goes on that nests deeper
begun_with : (tokens before behind tail : List Token) (c : Token) (later : List Token) → tokens ≡ before ++ behind →
    behind ≡ c ∷ later → Continues tokens (length before) (before ++ (c ∷ tail))
begun_with tokens before behind tail c later s b =
    let all : tokens ≡ before ++ (c ∷ later) = s ∙ ap (λ l. before ++ l) b in
    let l : length tokens ≡ length before + suc (length later) = ap length all ∙ length-append before (c ∷ later) in
    let front : take (length before + 1) tokens ≡ before ++ (c ∷ []) =
    ap (take (length before + 1)) all ∙ take-append-add before (c ∷ later) 1 in
    inl (tail, omega arith, sym (append_assoc before (c ∷ []) tail) ∙ ap (λ l. l ++ tail) (sym front))

pub record Headed (start : ℕ) (behind : List Token) (here : Leaf) (later : List Leaf) : Type 0 where
  pub head : Token
  pub others : List Token
  pub split : behind ≡ head ∷ others
  pub here_is : here ≡ record { number = start; terminal = terminal_of head.kind head.word; word = head.word }

headed : (start : ℕ) (behind : List Token) (here : Leaf) (later : List Leaf) → here ∷ later ≡ leaves_of start behind →
    Headed start behind here later
headed start [] here later e = absurd cc
headed start (c ∷ behind) here later e = record { head = c; others = behind; split = refl; here_is = cc }

pub deeper_unit : (n : ℕ) (tokens : List Token) (k left : ℕ) → unit_of n (leaves_of 0 tokens) ≡ Deep left →
    k + left ≡ length tokens → DeeperUnit (top n) tokens k
deeper_unit n tokens k left e place =
    let f : Sank (unit_of n) (Tree_of Source) (leaves_of 0 tokens) left =
    subst (λ o. Fine (unit_of n) (Tree_of Source) (leaves_of 0 tokens) o) e
    ((good_unit n).run (leaves_of 0 tokens)) in
    let p = parts 0 tokens f.front f.bad f.split in
    let at : k ≡ length p.before =
    place_before tokens p.before p.behind f.bad (0 + length p.before) k left p.split p.bad_is f.place place in
    let h = headed (0 + length p.before) p.behind f.here f.later (sym f.bad_is ∙ p.bad_is) in
    let m = f.more (suc (0 + length p.before)) in
    let text : f.front ++ (f.here ∷ leaves_of (suc (0 + length p.before)) (map token_at m.1)) ≡
    leaves_of 0 (p.before ++ (h.head ∷ (map token_at m.1))) =
    ap (λ (l : List Leaf). l ++ (f.here ∷ leaves_of (suc (0 + length p.before)) (map token_at m.1))) p.front_is
    ∙ ap (λ (i : Leaf). leaves_of 0 p.before ++ (i ∷ leaves_of (suc (0 + length p.before)) (map token_at m.1)))
    h.here_is
    ∙ sym (leaves_append 0 p.before (h.head ∷ (map token_at m.1))) in
    let spelled : SpellsUnit m.0 (p.before ++ (h.head ∷ (map token_at m.1))) =
    subst (λ l. Tree_of Source m.0 l) text (subst (λ l. Tree_of Source m.0 (f.front ++ (f.here ∷ l)))
    (leaves_are (suc (0 + length p.before)) m.1) m.2) in
    let goes_on : Continues tokens k (p.before ++ (h.head ∷ (map token_at m.1))) =
    subst (λ j. Continues tokens j (p.before ++ (h.head ∷ (map token_at m.1)))) (sym at)
    (begun_with tokens p.before p.behind (map token_at m.1) h.head h.others p.split h.split) in
    let deep_ : nesting m.0 ≤ top n → ⊥ =
    no_unit_within n tokens k left e place (p.before ++ (h.head ∷ (map token_at m.1))) m.0 goes_on spelled in (
      p.before ++ (h.head ∷ (map token_at m.1)),
      m.0,
      goes_on,
      spelled,
      elim (cases_lt (top n) (nesting m.0)) [ inl lt ↦ lt | inr le ↦ absurd (deep_ le) ],
    )

pub too_deep_unit : (n : ℕ) (tokens : List Token) (rest : List Leaf) (u : Syntax) →
    unit_of n (leaves_of 0 tokens) ≡ Got u rest → (m : ℕ) → m < nesting u → DeeperUnit m tokens (length tokens)
too_deep_unit n tokens rest u e m lt = (tokens, u, inr (omega arith, refl), found n tokens rest u e, lt)
