-- What is live before lines is named in them or live behind them: lines that do not name a cell leave it as live as
-- it is behind them.
use Rattle.std.proofs.Common.{◌≡◌, ℕ, List, [], ◌∷◌, ◌++◌, refl, sym, ap, ◌∙◌, ◌⊎◌, ⊎_elim, inl, inr, true, false}
use Rattle.std.proofs.Common.{Bool as Test}
use Rattle.std.specs.Prelude.{not, ◌&&◌, ◌||◌, nat_eq}
use Rattle.std.proofs.lemmas.Bool.{or_cases, or_left, or_right, and_parts, and_from}
use Rattle.kir.specs.declared.line.Atom.{Atom}
use Rattle.kir.specs.declared.line.Atom.TheVariants.{Const, Cell as CellAtom}
use Rattle.kir.specs.Tree.{Work, Unary, Binary, Builtin, Convert, Ask, Argument, Copy, Lines, NoLine, SetThen, LoadThen}
use Rattle.kir.specs.Tree.{StoreThen, ClearThen, IfThen, LoopThen, BarrierThen}
use Rattle.kir.specs.Live.{reads, some_reads, work_reads, live_in}
use Rattle.kir.specs.Places.{at_answer}
use Rattle.kir.specs.Cuts.{holds_barrier}
use Rattle.kir.specs.Keeps.{Piece, Names, named_by, named_by_all, named_by_work, cut_before, pieces_of, names_cell}
use Rattle.kir.proofs.Across.{or-false, or-self, or_no, or_more, yes_or_no, Named, names-append}

module _ (c : ℕ) where
  -- ---- lines and what they name

  abbrev n : Lines → Test
  n L = names_cell c (pieces_of L)

  pub atom_names : (a : Atom) → names_cell c (named_by a) ≡ reads c a
  atom_names (Const value of) = refl
  atom_names (CellAtom d) = or-false (nat_eq c d)

  all_names : (atoms : List Atom) → names_cell c (named_by_all atoms) ≡ some_reads c atoms
  all_names [] = refl
  all_names (a ∷ atoms) = (names-append c) (named_by a) (named_by_all atoms)
      ∙ ap (λ b. b || names_cell c (named_by_all atoms)) (atom_names a) ∙ ap (λ b. reads c a || b) (all_names atoms)

  work_names : (w : Work) → names_cell c (named_by_work w) ≡ work_reads c w
  work_names (Unary op of a) = atom_names a
  work_names (Binary op of a b) = (names-append c) (named_by a) (named_by b) ∙ ap (λ x. x || names_cell c (named_by b))
      (atom_names a) ∙ ap (λ x. reads c a || x) (atom_names b)
  work_names (Builtin f of args) = all_names args
  work_names (Convert to a) = atom_names a
  work_names (Ask what dim) = atom_names dim
  work_names (Argument number) = refl
  work_names (Copy a) = atom_names a

  pub names-cut : (h : Test) (ps : List Piece) → names_cell c (cut_before h ps) ≡ names_cell c ps
  names-cut true ps = refl
  names-cut false ps = refl

  -- pieces, then a cut or none, then others
  pub names_then : (h : Test) (ps qs : List Piece) →
      names_cell c (ps ++ cut_before h qs) ≡ (names_cell c ps || names_cell c qs)
  names_then h ps qs = (names-append c) ps (cut_before h qs) ∙ ap (λ b. names_cell c ps || b) (names-cut h qs)

  pub names_if : (h : Test) (x y z w : List Piece) →
      names_cell c (cut_before h (x ++ cut_before h (y ++ cut_before h (z ++ cut_before h w))))
      ≡ (names_cell c x || (names_cell c y || (names_cell c z || names_cell c w)))
  names_if h x y z w =
      names-cut h _ ∙ names_then h x _ ∙ ap (λ b. names_cell c x || b) (names_then h y _)
      ∙ ap (λ b. names_cell c x || (names_cell c y || b)) (names_then h z w)

  pub names_loop : (h : Test) (x w y z : List Piece) →
      names_cell c (cut_before h (x ++ (w ++ cut_before h (y ++ cut_before h z))))
      ≡ (names_cell c x || (names_cell c w || (names_cell c y || names_cell c z)))
  names_loop h x w y z =
      names-cut h _ ∙ (names-append c) x _ ∙ ap (λ b. names_cell c x || b) (names_then h w _)
      ∙ ap (λ b. names_cell c x || (names_cell c w || b)) (names_then h y z)

  loop_unnamed : (first : Test) (site : ℕ) (test : Lines) (answer : Atom) (body rest : Lines) (a : Test) →
      n (LoopThen site first test answer body rest) ≡ false → ((x : Test) → n test ≡ false → live_in c test x ≡ x) →
      ((x : Test) → n body ≡ false → live_in c body x ≡ x) → (n rest ≡ false → live_in c rest a ≡ a) →
      live_in c (LoopThen site first test answer body rest) a ≡ a
  loop_unnamed first site test answer body rest a e of_test of_body of_rest = by_first first
    where
      p : (n test ≡ false) × ((names_cell c (named_by answer) || (n body || n rest)) ≡ false)
      p = or_no (n test) (names_cell c (named_by answer) || (n body || n rest))
          (sym (names_loop (holds_barrier test || holds_barrier body) (pieces_of test) (named_by answer)
          (pieces_of body) (pieces_of rest)) ∙ e)

      q : (names_cell c (named_by answer) ≡ false) × ((n body || n rest) ≡ false)
      q = or_no (names_cell c (named_by answer)) (n body || n rest) p.1

      r : (n body ≡ false) × (n rest ≡ false)
      r = or_no (n body) (n rest) q.1

      at_answer : (reads c answer || (live_in c rest a || live_in c body (live_in c test false))) ≡ a
      at_answer =
          ap (λ b. b || (live_in c rest a || live_in c body (live_in c test false))) (sym (atom_names answer) ∙ q.0)
          ∙ ap (λ b. live_in c rest a || b) (of_body (live_in c test false) r.0 ∙ of_test false p.0)
          ∙ or-false (live_in c rest a)
          ∙ of_rest r.1

      by_first : (first : Test) → live_in c (LoopThen site first test answer body rest) a ≡ a
      by_first true = of_test _ p.0 ∙ at_answer
      by_first false = of_body _ r.0 ∙ of_test _ p.0 ∙ at_answer

  -- what is not named is live before lines as behind them
  pub unnamed : (L : Lines) (a : Test) → n L ≡ false → live_in c L a ≡ a
  unnamed NoLine a e = refl
  unnamed (SetThen to work rest) a e =
      let p = or_no (names_cell c (named_by_work work)) (nat_eq c to || n rest)
      (sym ((names-append c) (named_by_work work) (Names to ∷ pieces_of rest)) ∙ e) in
      let q = or_no (nat_eq c to) (n rest) p.1 in
      ap (λ b. b || (not (nat_eq c to) && live_in c rest a)) (sym (work_names work) ∙ p.0)
      ∙ ap (λ b. not b && live_in c rest a) q.0 ∙ unnamed rest a q.1
  unnamed (LoadThen site to element root index rest) a e =
      let p = or_no (names_cell c (named_by index)) (nat_eq c to || n rest)
      (sym ((names-append c) (named_by index) (Names to ∷ pieces_of rest)) ∙ e) in
      let q = or_no (nat_eq c to) (n rest) p.1 in
      ap (λ b. b || (not (nat_eq c to) && live_in c rest a)) (sym (atom_names index) ∙ p.0)
      ∙ ap (λ b. not b && live_in c rest a) q.0 ∙ unnamed rest a q.1
  unnamed (StoreThen site element root index from rest) a e =
      let p = or_no (names_cell c (named_by index)) (names_cell c (named_by from ++ pieces_of rest))
      (sym ((names-append c) (named_by index) (named_by from ++ pieces_of rest)) ∙ e) in
      let q = or_no (names_cell c (named_by from)) (n rest)
      (sym ((names-append c) (named_by from) (pieces_of rest)) ∙ p.1) in
      ap (λ b. (b || reads c from) || live_in c rest a) (sym (atom_names index) ∙ p.0)
      ∙ ap (λ b. b || live_in c rest a) (sym (atom_names from) ∙ q.0) ∙ unnamed rest a q.1
  unnamed (ClearThen array rest) a e = unnamed rest a e
  unnamed (IfThen site test chosen other rest) a e =
      let p = or_no (names_cell c (named_by test)) (n chosen || (n other || n rest))
      (sym (names_if (holds_barrier chosen || holds_barrier other) (named_by test) (pieces_of chosen)
      (pieces_of other) (pieces_of rest)) ∙ e) in
      let q = or_no (n chosen) (n other || n rest) p.1 in
      let r = or_no (n other) (n rest) q.1 in
      ap (λ b. b || (live_in c chosen (live_in c rest a) || live_in c other (live_in c rest a)))
      (sym (atom_names test) ∙ p.0)
      ∙ ap (λ b. b || live_in c other (live_in c rest a)) (unnamed chosen (live_in c rest a) q.0)
      ∙ ap (λ b. live_in c rest a || b) (unnamed other (live_in c rest a) r.0)
      ∙ or-self (live_in c rest a)
      ∙ unnamed rest a r.1
  unnamed (LoopThen site true test answer body rest) a e =
      loop_unnamed true site test answer body rest a e (λ x h. unnamed test x h) (λ x h. unnamed body x h)
      (λ h. unnamed rest a h)
  unnamed (LoopThen site false test answer body rest) a e =
      loop_unnamed false site test answer body rest a e (λ x h. unnamed test x h) (λ x h. unnamed body x h)
      (λ h. unnamed rest a h)
  unnamed (BarrierThen site rest) a e = unnamed rest a e

  -- what is live before lines is named in them or live behind them
  pub live_named : (L : Lines) (a : Test) → live_in c L a ≡ true → (Named c) (pieces_of L) ⊎ (a ≡ true)
  live_named L a e = ⊎_elim (λ y. inl y) (λ x. inr (sym (unnamed L a x) ∙ e)) (yes_or_no (n L))

  -- what is live behind a loop makes no less live at its answer
  answer_more : (test : Lines) (answer : Atom) (body rest : Lines) (a b : Test) →
      (live_in c rest a ≡ true → live_in c rest b ≡ true) →
      (reads c answer || (live_in c rest a || live_in c body (live_in c test false))) ≡ true →
      (reads c answer || (live_in c rest b || live_in c body (live_in c test false))) ≡ true
  answer_more test answer body rest a b g h =
      or_more (reads c answer) _ _
      (λ k. ⊎_elim (λ o. or_left (live_in c rest b) (live_in c body (live_in c test false)) (g o))
      (λ o. or_right (live_in c rest b) (live_in c body (live_in c test false)) o)
      (or_cases (live_in c rest a) (live_in c body (live_in c test false)) k)) h

  -- what is live behind lines makes no less live before them
  pub live_more : (L : Lines) (a b : Test) → (a ≡ true → b ≡ true) → live_in c L a ≡ true → live_in c L b ≡ true
  live_more NoLine a b f e = f e
  live_more (SetThen to work rest) a b f e =
      or_more (work_reads c work) _ _ (λ h. let p = and_parts (not (nat_eq c to)) (live_in c rest a) h in
      and_from _ _ p.0 (live_more rest a b f p.1)) e
  live_more (LoadThen site to element root index rest) a b f e =
      or_more (reads c index) _ _ (λ h. let p = and_parts (not (nat_eq c to)) (live_in c rest a) h in
      and_from _ _ p.0 (live_more rest a b f p.1)) e
  live_more (StoreThen site element root index from rest) a b f e =
      or_more (reads c index || reads c from) _ _ (live_more rest a b f) e
  live_more (ClearThen array rest) a b f e = live_more rest a b f e
  live_more (IfThen site test chosen other rest) a b f e =
      or_more (reads c test) _ _
      (λ h. ⊎_elim (λ y. or_left (live_in c chosen (live_in c rest b)) (live_in c other (live_in c rest b))
      (live_more chosen (live_in c rest a) (live_in c rest b) (live_more rest a b f) y))
      (λ z. or_right (live_in c chosen (live_in c rest b)) (live_in c other (live_in c rest b))
      (live_more other (live_in c rest a) (live_in c rest b) (live_more rest a b f) z))
      (or_cases (live_in c chosen (live_in c rest a)) (live_in c other (live_in c rest a)) h)) e
  live_more (LoopThen site true test answer body rest) a b f e =
      live_more test _ _ (λ h. answer_more test answer body rest a b (live_more rest a b f) h) e
  live_more (LoopThen site false test answer body rest) a b f e =
      live_more body _ _ (λ k. live_more test _ _
      (λ h. answer_more test answer body rest a b (live_more rest a b f) h) k) e
  live_more (BarrierThen site rest) a b f e = live_more rest a b f e

  -- ---- lines that are passed where they do not name the cell

  pub if_pass : (site : ℕ) (test : Atom) (chosen other rest : Lines) (a : Test) → names_cell c (named_by test) ≡ false →
      n chosen ≡ false → n other ≡ false → live_in c (IfThen site test chosen other rest) a ≡ live_in c rest a
  if_pass site test chosen other rest a e f g =
      ap (λ b. b || (live_in c chosen (live_in c rest a) || live_in c other (live_in c rest a)))
      (sym (atom_names test) ∙ e)
      ∙ ap (λ b. b || live_in c other (live_in c rest a)) (unnamed chosen (live_in c rest a) f)
      ∙ ap (λ b. live_in c rest a || b) (unnamed other (live_in c rest a) g)
      ∙ or-self (live_in c rest a)

  -- what is live at the answer of a loop
  abbrev pub asked : Lines → Atom → Lines → Lines → Test → Test
  asked test answer body rest a = reads c answer || (live_in c rest a || live_in c body (live_in c test false))

  pub asked_pass : (test : Lines) (answer : Atom) (body rest : Lines) (a : Test) → n test ≡ false →
      names_cell c (named_by answer) ≡ false → n body ≡ false → asked test answer body rest a ≡ live_in c rest a
  asked_pass test answer body rest a e f g =
      ap (λ b. b || (live_in c rest a || live_in c body (live_in c test false))) (sym (atom_names answer) ∙ f)
      ∙ ap (λ b. live_in c rest a || b) (unnamed body (live_in c test false) g ∙ unnamed test false e)
      ∙ or-false (live_in c rest a)

  pub loop_pass : (first : Test) (site : ℕ) (test : Lines) (answer : Atom) (body rest : Lines) (a : Test) →
      n test ≡ false → names_cell c (named_by answer) ≡ false → n body ≡ false →
      live_in c (LoopThen site first test answer body rest) a ≡ live_in c rest a
  loop_pass true site test answer body rest a e f g = unnamed test _ e ∙ asked_pass test answer body rest a e f g
  loop_pass false site test answer body rest a e f g =
      unnamed body _ g ∙ unnamed test _ e ∙ asked_pass test answer body rest a e f g
