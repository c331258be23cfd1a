-- How two items go together through lines put one after another, through a line that sets a cell, an if, and a loop.
use Rattle.std.proofs.Common.{◌≡◌, ℕ, zero, suc, ◌<◌, ℤ, refl, sym, ap, ◌∙◌, subst, arith, ◌⊎◌, inl, inr, ⊎_elim}
use Rattle.std.specs.Prelude.{◌&&◌, ◌||◌, not, nat_eq}
use Rattle.std.specs.Prelude.{Bool as Test, true, false}
use Rattle.std.proofs.lemmas.Bool.{true≢false, or_left, or_right}
use Rattle.wg_num.specs.declared.types.IntType.{IntType}
use Rattle.cl_model.specs.declared.program.Root.{Root}
use Rattle.cl_model.specs.Values.{is_zero}
use Rattle.kir.specs.declared.line.Atom.{Atom}
use Rattle.kir.specs.Tree.{Work, Lines, NoLine, SetThen, LoadThen, StoreThen, ClearThen, IfThen, LoopThen}
use Rattle.kir.specs.Tree.{BarrierThen, joined_to}
use Rattle.kir.specs.Live.{reads, work_reads, live_in}
use Rattle.kir.specs.Steps.{atom_value}
use Rattle.kir_uniform.specs.Uniform.{sets_in, tested}
use Rattle.kir_uniform.specs.Does.{Cells, Who, put, computed, Answers, Enters, AtAnswer, Does}
use Rattle.kir_uniform.specs.Path.{Branches, InTest, InBody}
use Rattle.kir_uniform.proofs.Living.{neither, true_or_false, turned, live_more, into_body, unset_live}
use Rattle.kir_uniform.proofs.Alike.{same_number, put_here, put_other, at_kept, kept}
use Rattle.kir_lower_shape.proofs.Quiet.{live_joined}
use Rattle.kir_lower_uniform.specs.Together.{Equal, Anything, Together}
use Rattle.kir_lower_uniform.proofs.Places.{together_ends, together_then}

tested_part : (a b b' x : Test) → (b ≡ true → b' ≡ true) → (a || (b || x)) ≡ true → (a || (b' || x)) ≡ true
tested_part true b b' x f h = refl
tested_part false true b' x f h = ap (λ z. z || x) (f refl)
tested_part false false true x f h = refl
tested_part false false false x f h = h

-- two tests differ
abbrev pub Differ : Atom → Cells → Cells → Type 0
Differ a f g = atom_value f a ≡ atom_value g a → ⊥

-- what a branch of an if does not set it keeps
pub branch_kept : (who : Who) (test : Atom) (chosen others : Lines) (f m : Cells) (c : ℕ) →
    Branches who test chosen others f m → (sets_in c chosen || sets_in c others) ≡ false → m c ≡ f c
branch_kept who test chosen others f m c (inl x) u =
    kept who chosen c (neither (sets_in c chosen) (sets_in c others) u).0 f m x.1
branch_kept who test chosen others f m c (inr x) u =
    kept who others c (neither (sets_in c chosen) (sets_in c others) u).1 f m x.1

-- a loop that came to its answer later came to it earlier too, where the answer was not 0
earlier : (T B : Cells → Cells → Type 0) (answer : Atom) (first : Test) (j k : ℕ) (f g : Cells) → j < k →
    AtAnswer first T B answer k f g → (first ≡ false → j ≡ 0 → ⊥) → (a : Cells) × AtAnswer first T B answer j f a ×
    Answers a answer false
earlier T B answer first j zero f g lt h some = absurd (omega arith)
earlier T B answer true j (suc k) f g lt h some =
    ⊎_elim (λ e. (h.0, subst (λ n. AtAnswer true T B answer n f h.0) (sym e) h.1.0, h.1.1))
    (λ l. earlier T B answer true j k f h.0 l h.1.0 some) (less_or j k lt)
  where
    less_or : (j k : ℕ) → j < suc k → (j ≡ k) ⊎ (j < k)
    less_or j k l = grind arith
earlier T B answer false j (suc zero) f g lt h some = absurd (some refl (omega arith))
earlier T B answer false j (suc (suc k)) f g lt h some =
    ⊎_elim (λ e. (h.0, subst (λ n. AtAnswer false T B answer n f h.0) (sym e) h.1.0, h.1.1))
    (λ l. earlier T B answer false j (suc k) f h.0 l h.1.0 some) (less_or j (suc k) lt)
  where
    less_or : (j k : ℕ) → j < suc k → (j ≡ k) ⊎ (j < k)
    less_or j k l = grind arith

some_begun : (T B : Cells → Cells → Type 0) (answer : Atom) (first : Test) (j : ℕ) (f g : Cells) →
    AtAnswer first T B answer j f g → first ≡ false → j ≡ 0 → ⊥
some_begun T B answer true j f g h e z = true≢false e
some_begun T B answer false zero f g h e z = h
some_begun T B answer false (suc j) f g h e z = omega (arith, z)

three : (a b : ℕ) → (a < b) ⊎ ((a ≡ b) ⊎ (b < a))
three a b = grind arith

module _ (Even : ℕ → Type 0) (one other : Who) where
  abbrev Go : (ℕ → Test) → Lines → (Cells → Cells → Type 0) → Cells → Cells → Type 0
  Go out lines Q f g = Together Even one other out lines Q f g

  -- the less is live behind, the less is asked
  pub together_less : (out more : ℕ → Test) (lines : Lines) (Q : Cells → Cells → Type 0) (f g : Cells) →
      ((c : ℕ) → out c ≡ true → more c ≡ true) → Go more lines Q f g → Go out lines Q f g
  together_less out more NoLine Q f g h t = (λ c e l. t.0 c e (h c l), t.1)
  together_less out more (SetThen to work rest) Q f g h t = (
    λ c e l. t.0 c e (live_more c (SetThen to work rest) (out c) (more c) (h c) l),
    together_less out more rest Q _ _ h t.1,
  )
  together_less out more (LoadThen site to element root index rest) Q f g h t = (
    λ c e l. t.0 c e (live_more c (LoadThen site to element root index rest) (out c) (more c) (h c) l),
    λ v w x y. together_less out more rest Q _ _ h (t.1 v w x y),
  )
  together_less out more (StoreThen site element root index from rest) Q f g h t = (
    λ c e l. t.0 c e (live_more c (StoreThen site element root index from rest) (out c) (more c) (h c) l),
    together_less out more rest Q f g h t.1,
  )
  together_less out more (ClearThen array rest) Q f g h t = (
    λ c e l. t.0 c e (live_more c (ClearThen array rest) (out c) (more c) (h c) l),
    together_less out more rest Q f g h t.1,
  )
  together_less out more (IfThen site test chosen others rest) Q f g h t = (
    λ c e l. t.0 c e (live_more c (IfThen site test chosen others rest) (out c) (more c) (h c) l),
    λ x y. together_less (λ c. live_in c rest (out c)) (λ c. live_in c rest (more c)) chosen
        (λ a b. Go out rest Q a b) f g (λ c. live_more c rest (out c) (more c) (h c))
        (together_then Even one other (λ c. live_in c rest (more c)) chosen (λ a b. Go more rest Q a b)
        (λ a b. Go out rest Q a b) f g (t.1 x y) (λ m n d e q z. together_less out more rest Q m n h z)),
    λ x y. together_less (λ c. live_in c rest (out c)) (λ c. live_in c rest (more c)) others
        (λ a b. Go out rest Q a b) f g (λ c. live_more c rest (out c) (more c) (h c))
        (together_then Even one other (λ c. live_in c rest (more c)) others (λ a b. Go more rest Q a b)
        (λ a b. Go out rest Q a b) f g (t.2 x y) (λ m n d e q z. together_less out more rest Q m n h z)),
    λ m n x d y e. together_less out more rest Q m n h (t.3 m n x d y e),
    λ m n x d y e. together_less out more rest Q m n h (t.4 m n x d y e),
  )
  together_less out more (LoopThen site first test answer body rest) Q f g h t = (
    λ c e l. t.0 c e (live_more c (LoopThen site first test answer body rest) (out c) (more c) (h c) l),
    λ n a b x y. together_less (tested test answer body (λ c. live_in c rest (out c)))
        (tested test answer body (λ c. live_in c rest (more c))) test Anything a b
        (λ c. tested_part (reads c answer) (live_in c rest (out c)) (live_in c rest (more c))
        (live_in c body (live_in c test false)) (live_more c rest (out c) (more c) (h c))) (t.1 n a b x y),
    λ n a b x y. together_less (λ c. live_in c test (tested test answer body (λ d. live_in d rest (out d)) c))
        (λ c. live_in c test (tested test answer body (λ d. live_in d rest (more d)) c)) body Anything a b
        (λ c. live_more c test _ _ (tested_part (reads c answer) (live_in c rest (out c)) (live_in c rest (more c))
        (live_in c body (live_in c test false)) (live_more c rest (out c) (more c) (h c)))) (t.2 n a b x y),
    λ a b x y. together_less out more rest Q a b h (t.3 a b x y),
  )
  together_less out more (BarrierThen site rest) Q f g h t = (
    λ c e l. t.0 c e (live_more c (BarrierThen site rest) (out c) (more c) (h c) l),
    together_less out more rest Q f g h t.1,
  )

  -- ---- lines before others

  module _ (out : ℕ → Test) (tail : Lines) (Q : Cells → Cells → Type 0) where
    abbrev Then : Cells → Cells → Type 0
    Then m n = Together Even one other out tail Q m n

    abbrev Out : ℕ → Test
    Out c = live_in c tail (out c)

    equal_joined : (lines : Lines) (f g : Cells) → Equal Even (λ c. live_in c lines (Out c)) f g →
        Equal Even (λ c. live_in c (joined_to lines tail) (out c)) f g
    equal_joined lines f g h c e l = h c e (sym (live_joined c lines tail (out c)) ∙ l)

    less_joined : (rest : Lines) (c : ℕ) → live_in c (joined_to rest tail) (out c) ≡ true →
        live_in c rest (Out c) ≡ true
    less_joined rest c l = sym (live_joined c rest tail (out c)) ∙ l

    pub together_joined : (lines : Lines) (f g : Cells) → Go Out lines Then f g → Go out (joined_to lines tail) Q f g
    together_joined NoLine f g t = t.1
    together_joined (SetThen to work rest) f g t =
        (equal_joined (SetThen to work rest) f g t.0, together_joined rest _ _ t.1)
    together_joined (LoadThen site to element root index rest) f g t = (
      equal_joined (LoadThen site to element root index rest) f g t.0,
      λ v w x y. together_joined rest _ _ (t.1 v w x y),
    )
    together_joined (StoreThen site element root index from rest) f g t =
        (equal_joined (StoreThen site element root index from rest) f g t.0, together_joined rest f g t.1)
    together_joined (ClearThen array rest) f g t =
        (equal_joined (ClearThen array rest) f g t.0, together_joined rest f g t.1)
    together_joined (IfThen site test chosen others rest) f g t = (
      equal_joined (IfThen site test chosen others rest) f g t.0,
      λ x y. together_less (λ c. live_in c (joined_to rest tail) (out c)) (λ c. live_in c rest (Out c)) chosen
          (λ a b. Go out (joined_to rest tail) Q a b) f g (λ c. less_joined rest c)
          (together_then Even one other (λ c. live_in c rest (Out c)) chosen (λ a b. Go Out rest Then a b)
          (λ a b. Go out (joined_to rest tail) Q a b) f g (t.1 x y) (λ m n d e q z. together_joined rest m n z)),
      λ x y. together_less (λ c. live_in c (joined_to rest tail) (out c)) (λ c. live_in c rest (Out c)) others
          (λ a b. Go out (joined_to rest tail) Q a b) f g (λ c. less_joined rest c)
          (together_then Even one other (λ c. live_in c rest (Out c)) others (λ a b. Go Out rest Then a b)
          (λ a b. Go out (joined_to rest tail) Q a b) f g (t.2 x y) (λ m n d e q z. together_joined rest m n z)),
      λ m n x d y e. together_joined rest m n (t.3 m n x d y e),
      λ m n x d y e. together_joined rest m n (t.4 m n x d y e),
    )
    together_joined (LoopThen site first test answer body rest) f g t = (
      equal_joined (LoopThen site first test answer body rest) f g t.0,
      λ n a b x y. together_less (tested test answer body (λ c. live_in c (joined_to rest tail) (out c)))
          (tested test answer body (λ c. live_in c rest (Out c))) test Anything a b
          (λ c. tested_part (reads c answer) (live_in c (joined_to rest tail) (out c)) (live_in c rest (Out c))
          (live_in c body (live_in c test false)) (less_joined rest c))
          (t.1 n a b (in_test n f a x) (in_test' n g b y)),
      λ n a b x y. together_less (λ c.
          live_in c test (tested test answer body (λ d. live_in d (joined_to rest tail) (out d)) c))
          (λ c. live_in c test (tested test answer body (λ d. live_in d rest (Out d)) c)) body Anything a b
          (λ c. live_more c test _ _ (tested_part (reads c answer) (live_in c (joined_to rest tail) (out c))
          (live_in c rest (Out c)) (live_in c body (live_in c test false)) (less_joined rest c)))
          (t.2 n a b (in_body one n f a x) (in_body other n g b y)),
      λ a b x y. together_joined rest a b (t.3 a b x y),
    )
      where
        in_body : (who : Who) (n : ℕ) (f a : Cells) →
            InBody who (LoopThen site first test answer body (joined_to rest tail)) n f a →
            InBody who (LoopThen site first test answer body rest) n f a
        in_body who zero f a h = h
        in_body who (suc n) f a h = h

        in_some : (who : Who) (first : Test) (n : ℕ) (f a : Cells) →
            InTest who (LoopThen site first test answer body (joined_to rest tail)) n f a →
            InTest who (LoopThen site first test answer body rest) n f a
        in_some who true zero f a h = h
        in_some who false zero f a h = h
        in_some who true (suc n) f a h = h
        in_some who false (suc n) f a h = h

        in_test : (n : ℕ) (f a : Cells) →
            InTest one (LoopThen site first test answer body (joined_to rest tail)) n f a →
            InTest one (LoopThen site first test answer body rest) n f a
        in_test n f a h = in_some one first n f a h

        in_test' : (n : ℕ) (f a : Cells) →
            InTest other (LoopThen site first test answer body (joined_to rest tail)) n f a →
            InTest other (LoopThen site first test answer body rest) n f a
        in_test' n f a h = in_some other first n f a h
    together_joined (BarrierThen site rest) f g t =
        (equal_joined (BarrierThen site rest) f g t.0, together_joined rest f g t.1)

  -- lines before others: what holds behind the first is given to the second
  pub together_seq : (out : ℕ → Test) (lines tail : Lines) (P Q : Cells → Cells → Type 0) (f g : Cells) →
      Equal Even (λ c. live_in c (joined_to lines tail) (out c)) f g
      → (Equal Even (λ c. live_in c lines (live_in c tail (out c))) f g → Go (λ c. live_in c tail (out c)) lines P f g)
      → ((m n : Cells) → Does one lines f m → Does other lines g n → Equal Even (λ c. live_in c tail (out c)) m n →
      P m n → Go out tail Q m n) → Go out (joined_to lines tail) Q f g
  together_seq out lines tail P Q f g al h k =
      together_joined out tail Q lines f g
      (together_then Even one other (λ c. live_in c tail (out c)) lines P (λ m n. Go out tail Q m n) f g
      (h (λ c e l. al c e (live_joined c lines tail (out c) ∙ l))) k)

  -- ---- a cell that is set

  pub put_equal : (to : ℕ) (out read : ℕ → Test) (f g : Cells) (v w : ℤ) → (Even to → out to ≡ true → v ≡ w) →
      Equal Even (λ c. read c || (not (nat_eq c to) && out c)) f g → Equal Even out (put f to v) (put g to w)
  put_equal to out read f g v w same al c e l =
      ⊎_elim (λ t. let q = same_number to c t in put_here f to c v t ∙
      (same (subst Even (sym q) e) (subst (λ n. out n ≡ true) (sym q) l) ∙ sym (put_here g to c w t)))
      (λ t. put_other f to c v t ∙
      (al c e (or_right (read c) (not (nat_eq c to) && out c) (ap (λ b. not b && out c) (turned c to ∙ t) ∙
      l)) ∙ sym (put_other g to c w t)))
      (true_or_false (nat_eq to c))

  pub together_set : (out : ℕ → Test) (to : ℕ) (work : Work) (Q : Cells → Cells → Type 0) (f g : Cells) →
      Equal Even (λ c. live_in c (SetThen to work NoLine) (out c)) f g
      → (Even to → out to ≡ true → computed one f work ≡ computed other g work) →
      Q (put f to (computed one f work)) (put g to (computed other g work)) → Go out (SetThen to work NoLine) Q f g
  together_set out to work Q f g al same q =
      (al, (put_equal to out (λ c. work_reads c work) f g (computed one f work) (computed other g work) same al, q))

  pub together_load : (out : ℕ → Test) (site to : ℕ) (element : IntType) (root : Root) (index : Atom) (Q : Cells →
      Cells → Type 0) (f g : Cells) →
      Equal Even (λ c. live_in c (LoadThen site to element root index NoLine) (out c)) f g
      → (Even to → ⊥) → ((v w : ℤ) → one.gives element root (atom_value f index) v →
      other.gives element root (atom_value g index) w → Q (put f to v) (put g to w)) →
      Go out (LoadThen site to element root index NoLine) Q f g
  together_load out site to element root index Q f g al no_even q =
      (al, λ v w x y. (put_equal to out (λ c. reads c index) f g v w (λ e l. absurd (no_even e)) al, q v w x y))

  pub together_store : (out : ℕ → Test) (site : ℕ) (element : IntType) (root : Root) (index from : Atom) (Q : Cells →
      Cells → Type 0) (f g : Cells)
      → Equal Even (λ c. live_in c (StoreThen site element root index from NoLine) (out c)) f g → Q f g →
      Go out (StoreThen site element root index from NoLine) Q f g
  together_store out site element root index from Q f g al q =
      (al, ((λ c e l. al c e (or_right (reads c index || reads c from) (out c) l)), q))

  -- ---- an if

  pub together_if : (out : ℕ → Test) (site : ℕ) (test : Atom) (chosen others : Lines) (Q : Cells → Cells →
      Type 0) (f g : Cells) → Equal Even (λ c. live_in c (IfThen site test chosen others NoLine) (out c)) f g
      → (Answers f test false → Answers g test false → Equal Even (λ c. live_in c chosen (out c)) f g →
      Go out chosen Q f g) → (Answers f test true → Answers g test true →
      Equal Even (λ c. live_in c others (out c)) f g → Go out others Q f g)
      → (Differ test f g → (c : ℕ) → Even c → out c ≡ true → (sets_in c chosen || sets_in c others) ≡ false)
      → (Differ test f g → (m n : Cells) → Branches one test chosen others f m →
      Branches other test chosen others g n → Q m n)
      → Go out (IfThen site test chosen others NoLine) Q f g
  together_if out site test chosen others Q f g al yes_ no_ unset parted = (
    al,
    λ x y. together_then Even one other out chosen Q (λ m n. Equal Even out m n ×
        Q m n) f g (yes_ x y (λ c e l.
        al c e (or_right (reads c test) _ (or_left (live_in c chosen (out c)) (live_in c others (out c)) l))))
        (λ m n d e q z. (q, z)),
    λ x y. together_then Even one other out others Q (λ m n. Equal Even out m n ×
        Q m n) f g (no_ x y (λ c e l. al c e
        (or_right (reads c test) _ (or_right (live_in c chosen (out c)) (live_in c others (out c)) l))))
        (λ m n d e q z. (q, z)),
    λ m n x d y e. mixed (differ false true x y (λ z. true≢false (sym z))) m n (inl (x, d)) (inr (y, e)),
    λ m n x d y e. mixed (differ true false x y true≢false) m n (inr (x, d)) (inl (y, e)),
  )
    where
      differ : (a b : Test) → Answers f test a → Answers g test b → (a ≡ b → ⊥) → Differ test f g
      differ a b x y apart_ same = apart_ (sym x ∙ (ap is_zero same ∙ y))

      mixed : Differ test f g → (m n : Cells) → Branches one test chosen others f m →
          Branches other test chosen others g n → Equal Even out m n × Q m n
      mixed df m n x y = (
        λ c e l. let u = unset df c e l in
            let v = neither (sets_in c chosen) (sets_in c others) u in
            branch_kept one test chosen others f m c x u ∙
            (al c e (or_right (reads c test) _ (or_left (live_in c chosen (out c)) (live_in c others (out c))
            (unset_live c chosen (out c) v.0 l))) ∙ sym (branch_kept other test chosen others g n c y u)),
        parted df m n x y,
      )

  -- ---- a loop

  module _ (out : ℕ → Test) (site : ℕ) (test : Lines) (answer : Atom) (body : Lines) (Q H B A : Cells → Cells → Type 0)
      (tests : (f g : Cells) → H f g → Equal Even (λ c. live_in c test (tested test answer body out c)) f g →
      Go (tested test answer body out) test A f g)
      (bodies : (f g : Cells) → B f g →
      Equal Even (λ c. live_in c body (live_in c test (tested test answer body out c))) f g →
      Go (λ c. live_in c test (tested test answer body out c)) body H f g)
      (again : (f g : Cells) → A f g → Answers f answer false → Answers g answer false → B f g) where
    -- how both begin the loop
    abbrev Starts : Test → Cells → Cells → Type 0
    Starts true f g = H f g × Equal Even (λ c. live_in c test (tested test answer body out c)) f g
    Starts false f g = B f g × Equal Even (λ c. live_in c body (live_in c test (tested test answer body out c))) f g

    abbrev AtBody : Cells → Cells → Type 0
    AtBody f g = B f g × Equal Even (λ c. live_in c body (live_in c test (tested test answer body out c))) f g

    abbrev AtTest : Cells → Cells → Type 0
    AtTest f g = H f g × Equal Even (λ c. live_in c test (tested test answer body out c)) f g

    abbrev AtEnd : Cells → Cells → Type 0
    AtEnd f g = A f g × Equal Even (tested test answer body out) f g

    do_test : (f g m n : Cells) → AtTest f g → Does one test f m → Does other test g n → AtEnd m n
    do_test f g m n s d e = let r =
        together_ends Even one other (tested test answer body out) test A f g m n (tests f g s.0 s.1) d e in (r.1, r.0)

    do_body : (f g m n : Cells) → AtBody f g → Does one body f m → Does other body g n → AtTest m n
    do_body f g m n s d e = let r =
        together_ends Even one other (λ c. live_in c test (tested test answer body out c)) body H f g m n
        (bodies f g s.0 s.1) d e in (r.1, r.0)

    do_again : (f g : Cells) → AtEnd f g → Answers f answer false → Answers g answer false → AtBody f g
    do_again f g s x y = (again f g s.0 x y, λ c e l. s.1 c e (into_body c test answer body out l))

    at_answer_both : (first : Test) (n : ℕ) (f g a b : Cells) → Starts first f g →
        AtAnswer first (Does one test) (Does one body) answer n f a →
        AtAnswer first (Does other test) (Does other body) answer n g b → AtEnd a b
    at_answer_both true zero f g a b s x y = do_test f g a b s x y
    at_answer_both false zero f g a b s x y = absurd x
    at_answer_both true (suc n) f g a b s x y =
        do_test x.2.0 y.2.0 a b (do_body x.0 y.0 x.2.0 y.2.0
        (do_again x.0 y.0 (at_answer_both true n f g x.0 y.0 s x.1.0 y.1.0) x.1.1 y.1.1) x.2.1 y.2.1) x.2.2 y.2.2
    at_answer_both false (suc zero) f g a b s x y =
        do_test x.2.0 y.2.0 a b (do_body x.0 y.0 x.2.0 y.2.0
        (subst (λ z. AtBody x.0 z) (sym y.1) (subst (λ z. AtBody z g) (sym x.1) s)) x.2.1 y.2.1) x.2.2 y.2.2
    at_answer_both false (suc (suc n)) f g a b s x y =
        do_test x.2.0 y.2.0 a b (do_body x.0 y.0 x.2.0 y.2.0
        (do_again x.0 y.0 (at_answer_both false (suc n) f g x.0 y.0 s x.1.0 y.1.0) x.1.1 y.1.1) x.2.1 y.2.1)
        x.2.2 y.2.2

    at_body_both : (first : Test) (n : ℕ) (f g a b : Cells) → Starts first f g →
        Enters first n (AtAnswer first (Does one test) (Does one body) answer n) answer f a →
        Enters first n (AtAnswer first (Does other test) (Does other body) answer n) answer g b → AtBody a b
    at_body_both true n f g a b s x y = do_again a b (at_answer_both true n f g a b s x.0 y.0) x.1 y.1
    at_body_both false zero f g a b s x y = subst (λ z. AtBody a z) (sym y) (subst (λ z. AtBody z g) (sym x) s)
    at_body_both false (suc n) f g a b s x y = do_again a b (at_answer_both false (suc n) f g a b s x.0 y.0) x.1 y.1

    in_body_both : (first : Test) (n : ℕ) (f g a b : Cells) → Starts first f g →
        InBody one (LoopThen site first test answer body NoLine) n f a →
        InBody other (LoopThen site first test answer body NoLine) n g b → AtBody a b
    in_body_both first zero f g a b s x y = absurd x
    in_body_both first (suc n) f g a b s x y = at_body_both first n f g a b s x y

    in_test_both : (first : Test) (n : ℕ) (f g a b : Cells) → Starts first f g →
        InTest one (LoopThen site first test answer body NoLine) n f a →
        InTest other (LoopThen site first test answer body NoLine) n g b → AtTest a b
    in_test_both true zero f g a b s x y = subst (λ z. AtTest a z) (sym y) (subst (λ z. AtTest z g) (sym x) s)
    in_test_both false zero f g a b s x y = absurd x
    in_test_both true (suc n) f g a b s x y = do_body x.0 y.0 a b (at_body_both true n f g x.0 y.0 s x.1 y.1) x.2 y.2
    in_test_both false (suc n) f g a b s x y = do_body x.0 y.0 a b (at_body_both false n f g x.0 y.0 s x.1 y.1) x.2 y.2

    -- what the loop does not set
    abbrev pub Keeps : Cells → Cells → Type 0
    Keeps a m = (c : ℕ) → (sets_in c test || sets_in c body) ≡ false → m c ≡ a c

    keeps_between : (who : Who) (first : Test) (j k : ℕ) (f a m : Cells) →
        AtAnswer first (Does who test) (Does who body) answer j f a →
        AtAnswer first (Does who test) (Does who body) answer k f m → Keeps a m
    keeps_between who first j k f a m x y c u =
        let p = neither (sets_in c test) (sets_in c body) u in
        at_kept c (Does who test) (Does who body) answer (λ x y e. kept who test c p.0 x y e)
        (λ x y e. kept who body c p.1 x y e) first k f m y
        ∙ sym (at_kept c (Does who test) (Does who body) answer (λ x y e. kept who test c p.0 x y e)
        (λ x y e. kept who body c p.1 x y e) first j f a x)

    module _ (done : (a b : Cells) → A a b → Answers a answer true → Answers b answer true → Q a b)
        (unset : (a b : Cells) → A a b → Differ answer a b → (c : ℕ) → Even c → out c ≡ true →
        (sets_in c test || sets_in c body) ≡ false)
        (parted : (a b m n : Cells) → A a b → Differ answer a b → Keeps a m → Keeps b n → Q m n) where
      end_parted : (a b m n : Cells) → AtEnd a b → Differ answer a b → Keeps a m → Keeps b n → Equal Even out m n ×
          Q m n
      end_parted a b m n s df x y = (
        λ c e l. let u = unset a b s.0 df c e l in
            x c u ∙ (s.1 c e (or_right (reads c answer) _ (or_left (out c) (live_in c body (live_in c test false)) l))
            ∙ sym (y c u)),
        parted a b m n s.0 df x y,
      )

      differ_end : (a b : Cells) (x y : Test) → Answers a answer x → Answers b answer y → (x ≡ y → ⊥) →
          Differ answer a b
      differ_end a b x y p q apart_ same = apart_ (sym p ∙ (ap is_zero same ∙ q))

      end_both : (first : Test) (f g m n : Cells) (j k : ℕ) → Starts first f g →
          AtAnswer first (Does one test) (Does one body) answer j f m → Answers m answer true →
          AtAnswer first (Does other test) (Does other body) answer k g n → Answers n answer true
          → (j < k) ⊎ ((j ≡ k) ⊎ (k < j)) → Equal Even out m n × Q m n
      end_both first f g m n j k s x p y q (inl lt) =
          let r = earlier (Does other test) (Does other body) answer first j k g n lt y
          (some_begun (Does one test) (Does one body) answer first j f m x) in
          end_parted m r.0 m n (at_answer_both first j f g m r.0 s x r.1)
          (differ_end m r.0 true false p r.2 true≢false) (λ c u. refl) (keeps_between other first j k g r.0 n r.1 y)
      end_both first f g m n j k s x p y q (inr (inl same)) =
          let t = at_answer_both first k f g m n s
          (subst (λ i. AtAnswer first (Does one test) (Does one body) answer i f m) same x) y in (
            λ c e l. t.1 c e (or_right (reads c answer) _ (or_left (out c) (live_in c body (live_in c test false)) l)),
            done m n t.0 p q,
          )
      end_both first f g m n j k s x p y q (inr (inr lt)) =
          let r = earlier (Does one test) (Does one body) answer first k j f m lt x
          (some_begun (Does other test) (Does other body) answer first k g n y) in
          end_parted r.0 n m n (at_answer_both first k f g r.0 n s r.1 y)
          (differ_end r.0 n false true r.2 q (λ z. true≢false (sym z)))
          (keeps_between one first k j f r.0 m r.1 x) (λ c u. refl)

      pub together_loop : (first : Test) (f g : Cells) →
          Equal Even (λ c. live_in c (LoopThen site first test answer body NoLine) (out c)) f g →
          (first ≡ true → H f g) → (first ≡ false → B f g) → Go out (LoopThen site first test answer body NoLine) Q f g
      together_loop true f g al h b =
          let s : Starts true f g = (h refl, al) in (
            al,
            λ n a c x y. let t = in_test_both true n f g a c s x y in
                together_then Even one other _ test A Anything a c (tests a c t.0 t.1) (λ m n d e q z. tt),
            λ n a c x y. let t = in_body_both true n f g a c s x y in
                together_then Even one other _ body H Anything a c (bodies a c t.0 t.1) (λ m n d e q z. tt),
            λ a c x y. end_both true f g a c x.0 y.0 s x.1 x.2 y.1 y.2 (three x.0 y.0),
          )
      together_loop false f g al h b =
          let s : Starts false f g = (b refl, al) in (
            al,
            λ n a c x y. let t = in_test_both false n f g a c s x y in
                together_then Even one other _ test A Anything a c (tests a c t.0 t.1) (λ m n d e q z. tt),
            λ n a c x y. let t = in_body_both false n f g a c s x y in
                together_then Even one other _ body H Anything a c (bodies a c t.0 t.1) (λ m n d e q z. tt),
            λ a c x y. end_both false f g a c x.0 y.0 s x.1 x.2 y.1 y.2 (three x.0 y.0),
          )
