-- Two items of one group that do the same steady lines from cells alike on what is live before them have cells alike
-- on what is live behind them.
use Rattle.std.proofs.Common.{◌≡◌, ℕ, zero, suc, ◌<◌, ℤ, List, [], ◌∷◌, map, refl, sym, ap, ap₂, ◌∙◌, subst, arith}
use Rattle.std.proofs.Common.{◌⊎◌, inl, inr, ⊎_elim}
use Rattle.std.specs.Prelude.{◌&&◌, ◌||◌, not, nat_eq, if◌then◌else◌}
use Rattle.std.specs.Prelude.{Bool as Test, true, false}
use Rattle.std.proofs.lemmas.Bool.{true≢false, or_left, or_right, and_parts}
use Rattle.std.proofs.lemmas.Bool.Decides.{nat_tests}
use Rattle.wg_num.specs.declared.types.IntType.{IntType}
use Rattle.wg_num.specs.Wrap.{wrap_of}
use Rattle.wg_num.specs.Operators.{unary_of, binary_of}
use Rattle.wg_num.specs.Builtins.{builtin_of}
use Rattle.cl_model.specs.declared.program.Query.{Query}
use Rattle.cl_model.specs.declared.program.Root.{Root}
use Rattle.cl_model.specs.Values.{is_zero}
use Rattle.cl_model.specs.Steps.{nth}
use Rattle.cl_model.specs.Varying.{is_own}
use Rattle.kir.specs.declared.line.Atom.{Atom}
use Rattle.kir.specs.declared.line.Atom.TheVariants.{Const, Cell as CellAtom}
use Rattle.kir.specs.Tree.{Work, Unary, Binary, Builtin, Convert, Ask, Argument, Copy, Lines, NoLine, SetThen}
use Rattle.kir.specs.Tree.{LoadThen, StoreThen, ClearThen, IfThen, LoopThen, BarrierThen, Kernel}
use Rattle.kir.specs.Live.{reads, some_reads, work_reads, live_in}
use Rattle.kir.specs.Steps.{atom_value}
use Rattle.kir_uniform.specs.Uniform.{atom_even, atoms_even, work_even, is_constant_root, sets_in, tested, IsSteady}
use Rattle.kir_uniform.specs.Does.{Cells, Who, put, computed, Answers, Enters, AtAnswer, Does}
use Rattle.kir_uniform.proofs.Living.{neither, true_or_false, turned, into_body, unset_live}

-- ---- cells

pub same_self : (c : ℕ) → nat_eq c c ≡ true
same_self c = grind (arith, nat_tests)

pub same_number : (a b : ℕ) → nat_eq a b ≡ true → a ≡ b
same_number a b h = grind (arith, nat_tests)

pub put_other : (f : Cells) (to c : ℕ) (v : ℤ) → nat_eq to c ≡ false → put f to v c ≡ f c
put_other f to c v e = ap (λ b. if b then v else f c) e

pub put_here : (f : Cells) (to c : ℕ) (v : ℤ) → nat_eq to c ≡ true → put f to v c ≡ v
put_here f to c v e = ap (λ b. if b then v else f c) e

-- ---- what is not set is kept

pub at_kept : (c : ℕ) (T B : Cells → Cells → Type 0) (answer : Atom) → ((f g : Cells) → T f g → g c ≡ f c) →
    ((f g : Cells) → B f g → g c ≡ f c) → (first : Test) (n : ℕ) (f g : Cells) → AtAnswer first T B answer n f g →
    g c ≡ f c
at_kept c T B answer kt kb true zero f g h = kt f g h
at_kept c T B answer kt kb false zero f g h = absurd h
at_kept c T B answer kt kb true (suc n) f g h =
    kt h.2.0 g h.2.2 ∙ (kb h.0 h.2.0 h.2.1 ∙ at_kept c T B answer kt kb true n f h.0 h.1.0)
at_kept c T B answer kt kb false (suc zero) f g h = kt h.2.0 g h.2.2 ∙ (kb h.0 h.2.0 h.2.1 ∙ ap (λ x. x c) h.1)
at_kept c T B answer kt kb false (suc (suc n)) f g h =
    kt h.2.0 g h.2.2 ∙ (kb h.0 h.2.0 h.2.1 ∙ at_kept c T B answer kt kb false (suc n) f h.0 h.1.0)

pub kept : (who : Who) (lines : Lines) (c : ℕ) → sets_in c lines ≡ false → (f g : Cells) → Does who lines f g →
    g c ≡ f c
kept who NoLine c u f g d = ap (λ x. x c) d
kept who (SetThen to work rest) c u f g d = let p = neither (nat_eq to c) (sets_in c rest) u in
    kept who rest c p.1 (put f to (computed who f work)) g d ∙ put_other f to c (computed who f work) p.0
kept who (LoadThen site to element root index rest) c u f g d = let p =
    neither (nat_eq to c) (sets_in c rest) u in kept who rest c p.1 (put f to d.0) g d.2 ∙ put_other f to c d.0 p.0
kept who (StoreThen site element root index from rest) c u f g d = kept who rest c u f g d
kept who (ClearThen array rest) c u f g d = kept who rest c u f g d
kept who (IfThen site test chosen other rest) c u f g d =
    let p = neither (sets_in c chosen || sets_in c other) (sets_in c rest) u in
    let q = neither (sets_in c chosen) (sets_in c other) p.0 in
    kept who rest c p.1 d.0 g d.2 ∙ ⊎_elim (λ x. kept who chosen c q.0 f d.0 x.1)
    (λ x. kept who other c q.1 f d.0 x.1) d.1
kept who (LoopThen site first test answer body rest) c u f g d =
    let p = neither (sets_in c test || sets_in c body) (sets_in c rest) u in
    let q = neither (sets_in c test) (sets_in c body) p.0 in
    kept who rest c p.1 d.0 g d.2 ∙
    at_kept c (Does who test) (Does who body) answer (λ x y e. kept who test c q.0 x y e)
    (λ x y e. kept who body c q.1 x y e) first d.1.0 f d.0 d.1.1
kept who (BarrierThen site rest) c u f g d = kept who rest c u f g d

-- ---- two items

-- what two items of one group have in common
pub record AreFellows (kernel : Kernel) (one other : Who) : Type 0 where
  pub asks : (what : Query) (d : ℤ) → is_own what ≡ false → one.asks what d ≡ other.asks what d
  pub arguments : (n : ℕ) → one.arguments n ≡ other.arguments n
  pub constants : (element : IntType) (root : Root) (index v w : ℤ) → is_constant_root kernel root ≡ true →
      one.gives element root index v → other.gives element root index w → v ≡ w

module _ (kernel : Kernel) (even : ℕ → Test) (one other : Who) (fellows : AreFellows kernel one other) where
  -- equal values of each even cell that is live
  abbrev pub Alike : (ℕ → Test) → Cells → Cells → Type 0
  Alike live f g = (c : ℕ) → even c ≡ true → live c ≡ true → f c ≡ g c

  pub value_alike : (a : Atom) (live : ℕ → Test) (f g : Cells) → atom_even even a ≡ true →
      ((c : ℕ) → reads c a ≡ true → live c ≡ true) → Alike live f g → atom_value f a ≡ atom_value g a
  value_alike (Const v of) live f g e l al = refl
  value_alike (CellAtom c) live f g e l al = al c e (l c (same_self c))

  values_alike : (atoms : List Atom) (live : ℕ → Test) (f g : Cells) → atoms_even even atoms ≡ true →
      ((c : ℕ) → some_reads c atoms ≡ true → live c ≡ true) → Alike live f g →
      map (atom_value f) atoms ≡ map (atom_value g) atoms
  values_alike [] live f g e l al = refl
  values_alike (a ∷ atoms) live f g e l al =
      let p = and_parts (atom_even even a) (atoms_even even atoms) e in
      ap₂ (λ x xs. x ∷ xs) (value_alike a live f g p.0 (λ c r. l c (or_left (reads c a) (some_reads c atoms) r)) al)
      (values_alike atoms live f g p.1 (λ c r. l c (or_right (reads c a) (some_reads c atoms) r)) al)

  not_own : (b : Test) → not b ≡ true → b ≡ false
  not_own true h = absurd (true≢false (sym h))
  not_own false h = refl

  pub computed_alike : (w : Work) (live : ℕ → Test) (f g : Cells) → work_even even w ≡ true →
      ((c : ℕ) → work_reads c w ≡ true → live c ≡ true) → Alike live f g → computed one f w ≡ computed other g w
  computed_alike (Unary op of a) live f g e l al = ap (unary_of op of) (value_alike a live f g e l al)
  computed_alike (Binary op of a b) live f g e l al =
      let p = and_parts (atom_even even a) (atom_even even b) e in
      ap₂ (binary_of op of) (value_alike a live f g p.0 (λ c r. l c (or_left (reads c a) (reads c b) r)) al)
      (value_alike b live f g p.1 (λ c r. l c (or_right (reads c a) (reads c b) r)) al)
  computed_alike (Builtin h of args) live f g e l al =
      ap (λ xs. builtin_of h of (nth xs 0) (nth xs 1) (nth xs 2)) (values_alike args live f g e l al)
  computed_alike (Convert to a) live f g e l al = ap (wrap_of to) (value_alike a live f g e l al)
  computed_alike (Ask what dim) live f g e l al =
      let p = and_parts (not (is_own what)) (atom_even even dim) e in
      ap (one.asks what) (value_alike dim live f g p.1 l al) ∙
      fellows.asks what (atom_value g dim) (not_own (is_own what) p.0)
  computed_alike (Argument n) live f g e l al = fellows.arguments n
  computed_alike (Copy a) live f g e l al = value_alike a live f g e l al

  answer_alike : (a : Atom) (live : ℕ → Test) (f g : Cells) (x y : Test) → atom_even even a ≡ true →
      ((c : ℕ) → reads c a ≡ true → live c ≡ true) → Alike live f g → Answers f a x → Answers g a y → x ≡ y
  answer_alike a live f g x y e l al ax ay = sym ax ∙ (ap is_zero (value_alike a live f g e l al) ∙ ay)

  -- what is left alike where less is live
  less_alike : (live less : ℕ → Test) (f g : Cells) → ((c : ℕ) → less c ≡ true → live c ≡ true) → Alike live f g →
      Alike less f g
  less_alike live less f g l al c e h = al c e (l c h)

  -- ---- a cell that is set

  pub set_alike : (to : ℕ) (rest : Lines) (out : ℕ → Test) (read : ℕ → Test) (f g : Cells) (v w : ℤ) →
      (even to ≡ true → live_in to rest (out to) ≡ true → v ≡ w)
      → Alike (λ c. read c || (not (nat_eq c to) && live_in c rest (out c))) f g →
      Alike (λ c. live_in c rest (out c)) (put f to v) (put g to w)
  set_alike to rest out read f g v w same al c e l =
      ⊎_elim (λ t. let q = same_number to c t in put_here f to c v t ∙
      (same (subst (λ n. even n ≡ true) (sym q) e) (subst (λ n. live_in n rest (out n) ≡ true) (sym q) l) ∙
      sym (put_here g to c w t)))
      (λ t. put_other f to c v t ∙
      (al c e (or_right (read c) (not (nat_eq c to) && live_in c rest (out c))
      (ap (λ b. not b && live_in c rest (out c)) (turned c to ∙ t) ∙ l)) ∙ sym (put_other g to c w t)))
      (true_or_false (nat_eq to c))

  -- ---- loops

  -- what is live before a loop
  abbrev pub before_loop : Test → Lines → Atom → Lines → (ℕ → Test) → ℕ → Test
  before_loop true test answer body after c = live_in c test (tested test answer body after c)
  before_loop false test answer body after c = live_in c body (live_in c test (tested test answer body after c))

  module _ (test : Lines) (answer : Atom) (body : Lines) (after : ℕ → Test) (tests : (f g f' g' : Cells) →
      Alike (λ c. live_in c test (tested test answer body after c)) f g → Does one test f f' →
      Does other test g g' → Alike (tested test answer body after) f' g') (bodies : (f g f' g' : Cells) →
      Alike (λ c. live_in c body (live_in c test (tested test answer body after c))) f g → Does one body f f' →
      Does other body g g' → Alike (λ c. live_in c test (tested test answer body after c)) f' g') where
    -- one round from the answer
    round_alike : (f g a a' b b' : Cells) →
        Alike (λ c. live_in c body (live_in c test (tested test answer body after c))) f g → Does one body f a →
        Does one test a b → Does other body g a' → Does other test a' b' → Alike (tested test answer body after) b b'
    round_alike f g a a' b b' al x y x' y' = tests a a' b b' (bodies f g a a' al x x') y y'

    pub at_alike : (first : Test) (n : ℕ) (f g f' g' : Cells) → Alike (before_loop first test answer body after) f g →
        AtAnswer first (Does one test) (Does one body) answer n f f' →
        AtAnswer first (Does other test) (Does other body) answer n g g'
        → Alike (tested test answer body after) f' g'
    at_alike true zero f g f' g' al x y = tests f g f' g' al x y
    at_alike false zero f g f' g' al x y = absurd x
    at_alike true (suc n) f g f' g' al x y =
        round_alike x.0 y.0 x.2.0 y.2.0 f' g'
        (less_alike (tested test answer body after)
        (λ c. live_in c body (live_in c test (tested test answer body after c))) x.0 y.0
        (λ c. into_body c test answer body after) (at_alike true n f g x.0 y.0 al x.1.0 y.1.0)) x.2.1 x.2.2
        y.2.1 y.2.2
    at_alike false (suc zero) f g f' g' al x y = round_alike x.0 y.0 x.2.0 y.2.0 f' g' (λ c e l. ap (λ z. z c) x.1 ∙
        (al c e l ∙ sym (ap (λ z. z c) y.1))) x.2.1 x.2.2 y.2.1 y.2.2
    at_alike false (suc (suc n)) f g f' g' al x y =
        round_alike x.0 y.0 x.2.0 y.2.0 f' g'
        (less_alike (tested test answer body after)
        (λ c. live_in c body (live_in c test (tested test answer body after c))) x.0 y.0
        (λ c. into_body c test answer body after) (at_alike false (suc n) f g x.0 y.0 al x.1.0 y.1.0)) x.2.1
        x.2.2 y.2.1 y.2.2

    -- where an iteration begins, behind so many
    pub enters_alike : (first : Test) (n : ℕ) (f g f' g' : Cells) →
        Alike (before_loop first test answer body after) f g →
        Enters first n (AtAnswer first (Does one test) (Does one body) answer n) answer f f' →
        Enters first n (AtAnswer first (Does other test) (Does other body) answer n) answer g g'
        → Alike (λ c. live_in c body (live_in c test (tested test answer body after c))) f' g'
    enters_alike true n f g f' g' al x y =
        less_alike (tested test answer body after)
        (λ c. live_in c body (live_in c test (tested test answer body after c))) f' g'
        (λ c. into_body c test answer body after) (at_alike true n f g f' g' al x.0 y.0)
    enters_alike false zero f g f' g' al x y = λ c e l. ap (λ z. z c) x ∙ (al c e l ∙ sym (ap (λ z. z c) y))
    enters_alike false (suc n) f g f' g' al x y =
        less_alike (tested test answer body after)
        (λ c. live_in c body (live_in c test (tested test answer body after c))) f' g'
        (λ c. into_body c test answer body after) (at_alike false (suc n) f g f' g' al x.0 y.0)

  -- a loop that came to its answer later came to it earlier too, where the answer was not 0
  earlier : (T B : Cells → Cells → Type 0) (answer : Atom) (first : Test) (j k : ℕ) (f g : Cells) → j < k →
      AtAnswer first T B answer k f g → (first ≡ false → j ≡ 0 → ⊥) → (a : Cells) × AtAnswer first T B answer j f a ×
      Answers a answer false
  earlier T B answer first j zero f g lt h some = absurd (omega arith)
  earlier T B answer true j (suc k) f g lt h some =
      ⊎_elim (λ e. (h.0, subst (λ n. AtAnswer true T B answer n f h.0) (sym e) h.1.0, h.1.1))
      (λ l. earlier T B answer true j k f h.0 l h.1.0 some) (less_or j k lt)
    where
      less_or : (j k : ℕ) → j < suc k → (j ≡ k) ⊎ (j < k)
      less_or j k l = grind arith
  earlier T B answer false j (suc zero) f g lt h some = absurd (some refl (omega arith))
  earlier T B answer false j (suc (suc k)) f g lt h some =
      ⊎_elim (λ e. (h.0, subst (λ n. AtAnswer false T B answer n f h.0) (sym e) h.1.0, h.1.1))
      (λ l. earlier T B answer false j (suc k) f h.0 l h.1.0 some) (less_or j (suc k) lt)
    where
      less_or : (j k : ℕ) → j < suc k → (j ≡ k) ⊎ (j < k)
      less_or j k l = grind arith

  some_begun : (T B : Cells → Cells → Type 0) (answer : Atom) (first : Test) (j : ℕ) (f g : Cells) →
      AtAnswer first T B answer j f g → first ≡ false → j ≡ 0 → ⊥
  some_begun T B answer true j f g h e z = true≢false e
  some_begun T B answer false zero f g h e z = h
  some_begun T B answer false (suc j) f g h e z = omega (arith, z)

  three : (a b : ℕ) → (a < b) ⊎ ((a ≡ b) ⊎ (b < a))
  three a b = grind arith

  live_loop : (first : Test) (c : ℕ) (site : ℕ) (test : Lines) (answer : Atom) (body rest : Lines) (out : ℕ → Test) →
      before_loop first test answer body (λ d. live_in d rest (out d)) c ≡ true →
      live_in c (LoopThen site first test answer body rest) (out c) ≡ true
  live_loop true c site test answer body rest out h = h
  live_loop false c site test answer body rest out h = h

  -- ---- branches

  abbrev Branch : Who → Cells → Atom → Lines → Lines → Cells → Type 0
  Branch who f test chosen others m =
      (Answers f test false × Does who chosen f m) ⊎ (Answers f test true × Does who others f m)

  pub branches_alike : (test : Atom) (chosen others : Lines) (after : ℕ → Test) (f g m n : Cells) →
      (atom_even even test ≡ false → (c : ℕ) → even c ≡ true → after c ≡ true →
      (sets_in c chosen || sets_in c others) ≡ false)
      → ((m n : Cells) → Alike (λ c. live_in c chosen (after c)) f g → Does one chosen f m → Does other chosen g n →
      Alike after m n) → ((m n : Cells) → Alike (λ c. live_in c others (after c)) f g → Does one others f m →
      Does other others g n → Alike after m n)
      → Alike (λ c. reads c test || (live_in c chosen (after c) || live_in c others (after c))) f g →
      Branch one f test chosen others m → Branch other g test chosen others n → Alike after m n
  branches_alike test chosen others after f g m n rule a b al (inl x) (inl y) =
      a m n (λ c e l. al c e (or_right (reads c test) (live_in c chosen (after c) || live_in c others (after c))
      (or_left (live_in c chosen (after c)) (live_in c others (after c)) l))) x.1 y.1
  branches_alike test chosen others after f g m n rule a b al (inr x) (inr y) =
      b m n (λ c e l. al c e (or_right (reads c test) (live_in c chosen (after c) || live_in c others (after c))
      (or_right (live_in c chosen (after c)) (live_in c others (after c)) l))) x.1 y.1
  branches_alike test chosen others after f g m n rule a b al (inl x) (inr y) =
      ⊎_elim (λ ev. absurd (true≢false
      (sym (answer_alike test (λ c. reads c test ||
      (live_in c chosen (after c) || live_in c others (after c))) f g false true ev
      (λ c r. or_left (reads c test) (live_in c chosen (after c) || live_in c others (after c)) r) al x.0
      y.0))))
      (λ odd. λ c e l. let u = neither (sets_in c chosen) (sets_in c others) (rule odd c e l) in
      kept one chosen c u.0 f m x.1
      ∙ (al c e (or_right (reads c test) (live_in c chosen (after c) || live_in c others (after c))
      (or_left (live_in c chosen (after c)) (live_in c others (after c))
      (unset_live c chosen (after c) u.0 l))) ∙ sym (kept other others c u.1 g n y.1)))
      (true_or_false (atom_even even test))
  branches_alike test chosen others after f g m n rule a b al (inr x) (inl y) =
      ⊎_elim (λ ev. absurd (true≢false
      (answer_alike test (λ c. reads c test || (live_in c chosen (after c) || live_in c others (after c))) f g
      true false ev (λ c r. or_left (reads c test) (live_in c chosen (after c) ||
      live_in c others (after c)) r) al x.0 y.0)))
      (λ odd. λ c e l. let u = neither (sets_in c chosen) (sets_in c others) (rule odd c e l) in
      kept one others c u.1 f m x.1
      ∙ (al c e (or_right (reads c test) (live_in c chosen (after c) || live_in c others (after c))
      (or_left (live_in c chosen (after c)) (live_in c others (after c))
      (unset_live c chosen (after c) u.0 l))) ∙ sym (kept other chosen c u.0 g n y.1)))
      (true_or_false (atom_even even test))

  -- ---- whole loops

  live_unset : (first : Test) (test : Lines) (answer : Atom) (body : Lines) (after : ℕ → Test) (c : ℕ) →
      (sets_in c test || sets_in c body) ≡ false → after c ≡ true → before_loop first test answer body after c ≡ true
  live_unset true test answer body after c u l =
      unset_live c test (tested test answer body after c) (neither (sets_in c test) (sets_in c body) u).0
      (or_right (reads c answer) (after c || live_in c body (live_in c test false))
      (or_left (after c) (live_in c body (live_in c test false)) l))
  live_unset false test answer body after c u l =
      unset_live c body (live_in c test (tested test answer body after c))
      (neither (sets_in c test) (sets_in c body) u).1
      (unset_live c test (tested test answer body after c) (neither (sets_in c test) (sets_in c body) u).0
      (or_right (reads c answer) (after c || live_in c body (live_in c test false))
      (or_left (after c) (live_in c body (live_in c test false)) l)))

  pub loop_alike : (first : Test) (test : Lines) (answer : Atom) (body : Lines) (after : ℕ → Test) →
      (atom_even even answer ≡ false → (c : ℕ) → even c ≡ true → after c ≡ true →
      (sets_in c test || sets_in c body) ≡ false)
      → ((f g f' g' : Cells) → Alike (λ c. live_in c test (tested test answer body after c)) f g →
      Does one test f f' → Does other test g g' → Alike (tested test answer body after) f' g')
      → ((f g f' g' : Cells) → Alike (λ c. live_in c body (live_in c test (tested test answer body after c))) f g →
      Does one body f f' → Does other body g g' →
      Alike (λ c. live_in c test (tested test answer body after c)) f' g')
      → (f g m n : Cells) → Alike (before_loop first test answer body after) f g → (j k : ℕ) →
      AtAnswer first (Does one test) (Does one body) answer j f m → Answers m answer true →
      AtAnswer first (Does other test) (Does other body) answer k g n → Answers n answer true → Alike after m n
  loop_alike first test answer body after rule tests bodies f g m n al j k x zx y zy =
      ⊎_elim (λ ev. ⊎_elim (λ lt. let e = earlier (Does other test) (Does other body) answer first j k g n lt y
      (some_begun (Does one test) (Does one body) answer first j f m x) in
      absurd (true≢false (answer_alike answer (tested test answer body after) m e.0 true false ev
      (λ c r. or_left (reads c answer) (after c || live_in c body (live_in c test false)) r)
      (at_alike test answer body after tests bodies first j f g m e.0 al x e.1) zx e.2)))
      (λ q. ⊎_elim (λ same. λ c e l. at_alike test answer body after tests bodies first k f g m n al
      (subst (λ i. AtAnswer first (Does one test) (Does one body) answer i f m) same x) y c e
      (or_right (reads c answer) (after c || live_in c body (live_in c test false))
      (or_left (after c) (live_in c body (live_in c test false)) l)))
      (λ lt. let e = earlier (Does one test) (Does one body) answer first k j f m lt x
      (some_begun (Does other test) (Does other body) answer first k g n y) in
      absurd (true≢false (sym (answer_alike answer (tested test answer body after) e.0 n false true ev
      (λ c r. or_left (reads c answer) (after c || live_in c body (live_in c test false)) r)
      (at_alike test answer body after tests bodies first k f g e.0 n al e.1 y) e.2 zy)))) q) (three j k))
      (λ odd. λ c e l. let u = rule odd c e l in
      let p = neither (sets_in c test) (sets_in c body) u in
      at_kept c (Does one test) (Does one body) answer (λ a b d. kept one test c p.0 a b d)
      (λ a b d. kept one body c p.1 a b d) first j f m x
      ∙ (al c e (live_unset first test answer body after c u l) ∙
      sym (at_kept c (Does other test) (Does other body) answer (λ a b d. kept other test c p.0 a b d)
      (λ a b d. kept other body c p.1 a b d) first k g n y)))
      (true_or_false (atom_even even answer))

  -- ---- lines

  pub does_alike : (lines : Lines) (out : ℕ → Test) → IsSteady kernel even out lines → (f g f' g' : Cells) →
      Alike (λ c. live_in c lines (out c)) f g → Does one lines f f' → Does other lines g g' → Alike out f' g'
  does_alike NoLine out st f g f' g' al x y = λ c e l. ap (λ z. z c) x ∙ (al c e l ∙ sym (ap (λ z. z c) y))
  does_alike (SetThen to work rest) out st f g f' g' al x y =
      does_alike rest out st.1 (put f to (computed one f work)) (put g to (computed other g work)) f' g'
      (set_alike to rest out (λ c. work_reads c work) f g (computed one f work) (computed other g work)
      (λ e l. computed_alike work (λ c. live_in c (SetThen to work rest) (out c)) f g (st.0 l e)
      (λ c r. or_left (work_reads c work) (not (nat_eq c to) && live_in c rest (out c)) r) al) al) x y
  does_alike (LoadThen site to element root index rest) out st f g f' g' al x y =
      does_alike rest out st.1 (put f to x.0) (put g to y.0) f' g'
      (set_alike to rest out (λ c. reads c index) f g x.0 y.0
      (λ e l. let s = st.0 l e in
      let i = value_alike index (λ c. live_in c (LoadThen site to element root index rest) (out c)) f g s.1
      (λ c r. or_left (reads c index) (not (nat_eq c to) && live_in c rest (out c)) r) al in
      fellows.constants element root (atom_value g index) x.0 y.0 s.0
      (subst (λ n. one.gives element root n x.0) i x.1) y.1) al) x.2 y.2
  does_alike (StoreThen site element root index from rest) out st f g f' g' al x y =
      does_alike rest out st f g f' g'
      (λ c e l. al c e (or_right (reads c index || reads c from) (live_in c rest (out c)) l)) x y
  does_alike (ClearThen array rest) out st f g f' g' al x y = does_alike rest out st f g f' g' al x y
  does_alike (IfThen site test chosen other_lines rest) out st f g f' g' al x y =
      does_alike rest out st.3 x.0 y.0 f' g'
      (branches_alike test chosen other_lines (λ c. live_in c rest (out c)) f g x.0 y.0 st.0 (λ m n a d e.
      does_alike chosen (λ c. live_in c rest (out c)) st.1 f g m n a d e) (λ m n a d e.
      does_alike other_lines (λ c. live_in c rest (out c)) st.2 f g m n a d e) al x.1 y.1) x.2 y.2
  does_alike (LoopThen site first test answer body rest) out st f g f' g' al x y =
      let after : ℕ → Test = λ c. live_in c rest (out c) in
      does_alike rest out st.3 x.0 y.0 f' g'
      (loop_alike first test answer body after st.0 (λ a b a' b' l d e.
      does_alike test (tested test answer body after) st.1 a b a' b' l d e) (λ a b a' b' l d e.
      does_alike body (λ c. live_in c test (tested test answer body after c)) st.2 a b a' b' l d e) f g x.0 y.0
      (λ c e l. al c e (live_loop first c site test answer body rest out l)) x.1.0 y.1.0 x.1.1 x.1.2 y.1.1 y.1.2) x.2
      y.2
  does_alike (BarrierThen site rest) out st f g f' g' al x y = does_alike rest out st f g f' g' al x y
