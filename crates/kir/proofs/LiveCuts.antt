-- The cuts of lines and what is live at each: a cell that is live at a cut of lines is named in them behind a cut,
-- or live behind them.
use Rattle.std.proofs.Common.{◌≡◌, ℕ, List, [], ◌∷◌, ◌++◌, refl, sym, ap, ◌∙◌, subst, ◌⊎◌, ⊎_elim, inl, inr, true}
use Rattle.std.proofs.Common.{false}
use Rattle.std.proofs.Common.{Bool as Test}
use Rattle.std.specs.Prelude.{◌||◌, nat_eq}
use Rattle.std.proofs.lemmas.Bool.{true≢false, or_cases, or_left, or_right}
use Rattle.std.proofs.lemmas.List.{append_assoc}
use Rattle.kir.specs.declared.line.Atom.{Atom}
use Rattle.kir.specs.Tree.{Lines, NoLine, SetThen, LoadThen, StoreThen, ClearThen, IfThen, LoopThen, BarrierThen}
use Rattle.kir.specs.Live.{live_in}
use Rattle.kir.specs.Places.{behind}
use Rattle.kir.specs.Cuts.{holds_barrier}
use Rattle.kir.specs.Keeps.{Piece, Names, Cut, named_by, named_by_work, cut_before, pieces_of, names_cell}
use Rattle.kir.proofs.Across.{or-self, or_assoc, or_no, yes_or_no, HasMark, mark_right, Named, names-append, Before}
use Rattle.kir.proofs.Across.{Across, BehindOne, across_left, across_right, before_left, before_right, behind_right}
use Rattle.kir.proofs.Across.{across_before, across_behind, before_mark}
use Rattle.kir.proofs.NamedOrLive.{names-cut, names_then, names_if, names_loop, unnamed, asked, asked_pass}

module _ (c : ℕ) where
  abbrev n : Lines → Test
  n L = names_cell c (pieces_of L)

  -- ---- the cuts of lines

  -- what is live at some cut of the lines is this, where what is live behind them is that
  abbrev pub CutOf : Lines → Test → Test → Type 0
  CutOf NoLine a v = ⊥
  CutOf (SetThen to work rest) a v = CutOf rest a v
  CutOf (LoadThen site to element root index rest) a v = CutOf rest a v
  CutOf (StoreThen site element root index from rest) a v = CutOf rest a v
  CutOf (ClearThen array rest) a v = CutOf rest a v
  CutOf (IfThen site test chosen other rest) a v =
      (((holds_barrier chosen || holds_barrier other) ≡ true) × ((v ≡ live_in c (IfThen site test chosen other rest) a)
      ⊎ (v ≡ live_in c rest a)))
      ⊎ (CutOf chosen (live_in c rest a) v ⊎ (CutOf other (live_in c rest a) v ⊎ CutOf rest a v))
  CutOf (LoopThen site first test answer body rest) a v =
      (((holds_barrier test || holds_barrier body) ≡ true)
      × ((v ≡ live_in c test (asked c test answer body rest a))
      ⊎ ((v ≡ (live_in c rest a || live_in c body (live_in c test (asked c test answer body rest a))))
      ⊎ (v ≡ live_in c body (live_in c test (asked c test answer body rest a))))))
      ⊎ (CutOf test (asked c test answer body rest a) v
      ⊎ (CutOf body (live_in c test (asked c test answer body rest a)) v ⊎ CutOf rest a v))
  CutOf (BarrierThen site rest) a v = (v ≡ live_in c rest a) ⊎ CutOf rest a v

  pub holds_of : (L : Lines) (a v : Test) → CutOf L a v → holds_barrier L ≡ true
  holds_of NoLine a v k = absurd k
  holds_of (SetThen to work rest) a v k = holds_of rest a v k
  holds_of (LoadThen site to element root index rest) a v k = holds_of rest a v k
  holds_of (StoreThen site element root index from rest) a v k = holds_of rest a v k
  holds_of (ClearThen array rest) a v k = holds_of rest a v k
  holds_of (IfThen site test chosen other rest) a v (inl own) =
      ⊎_elim (λ x. or_left (holds_barrier chosen) _ x)
      (λ x. or_right (holds_barrier chosen) _ (or_left (holds_barrier other) (holds_barrier rest) x))
      (or_cases (holds_barrier chosen) (holds_barrier other) own.0)
  holds_of (IfThen site test chosen other rest) a v (inr (inl k)) =
      or_left (holds_barrier chosen) _ (holds_of chosen _ v k)
  holds_of (IfThen site test chosen other rest) a v (inr (inr (inl k))) =
      or_right (holds_barrier chosen) _ (or_left (holds_barrier other) (holds_barrier rest) (holds_of other _ v k))
  holds_of (IfThen site test chosen other rest) a v (inr (inr (inr k))) =
      or_right (holds_barrier chosen) _ (or_right (holds_barrier other) (holds_barrier rest) (holds_of rest a v k))
  holds_of (LoopThen site first test answer body rest) a v (inl own) =
      ⊎_elim (λ x. or_left (holds_barrier test) _ x)
      (λ x. or_right (holds_barrier test) _ (or_left (holds_barrier body) (holds_barrier rest) x))
      (or_cases (holds_barrier test) (holds_barrier body) own.0)
  holds_of (LoopThen site first test answer body rest) a v (inr (inl k)) =
      or_left (holds_barrier test) _ (holds_of test _ v k)
  holds_of (LoopThen site first test answer body rest) a v (inr (inr (inl k))) =
      or_right (holds_barrier test) _ (or_left (holds_barrier body) (holds_barrier rest) (holds_of body _ v k))
  holds_of (LoopThen site first test answer body rest) a v (inr (inr (inr k))) =
      or_right (holds_barrier test) _ (or_right (holds_barrier body) (holds_barrier rest) (holds_of rest a v k))
  holds_of (BarrierThen site rest) a v k = refl

  pub first_mark : (ps : List Piece) → HasMark (Cut ∷ ps)
  first_mark ps = record { before = []; after = ps; same = refl }

  pub cut_mark : (h : Test) (ps : List Piece) → HasMark ps → HasMark (cut_before h ps)
  cut_mark true ps m = mark_right (Cut ∷ []) ps m
  cut_mark false ps m = m

  as_mark : (ps qs : List Piece) → ps ≡ qs → HasMark qs → HasMark ps
  as_mark ps qs e m = subst HasMark (sym e) m

  -- lines that hold a barrier have a cut
  pub mark_of : (L : Lines) → holds_barrier L ≡ true → HasMark (pieces_of L)
  mark_of NoLine h = absurd (true≢false (sym h))
  mark_of (SetThen to work rest) h =
      mark_right (named_by_work work) _ (mark_right (Names to ∷ []) (pieces_of rest) (mark_of rest h))
  mark_of (LoadThen site to element root index rest) h =
      mark_right (named_by index) _ (mark_right (Names to ∷ []) (pieces_of rest) (mark_of rest h))
  mark_of (StoreThen site element root index from rest) h =
      mark_right (named_by index) _ (mark_right (named_by from) (pieces_of rest) (mark_of rest h))
  mark_of (ClearThen array rest) h = mark_of rest h
  mark_of (IfThen site test chosen other rest) h =
      by_holds (holds_barrier chosen || holds_barrier other) refl (λ x. mark_of rest x)
    where
      by_holds : (b : Test) → (holds_barrier chosen || holds_barrier other) ≡ b →
          (holds_barrier rest ≡ true → HasMark (pieces_of rest)) →
          HasMark (pieces_of (IfThen site test chosen other rest))
      by_holds true e f = as_mark _ _
          (ap (λ b. cut_before b (named_by test ++ cut_before b
          (pieces_of chosen ++ cut_before b (pieces_of other ++ cut_before b (pieces_of rest))))) e) (first_mark _)
      by_holds false e f =
          let held = sym (or_assoc (holds_barrier chosen) (holds_barrier other) (holds_barrier rest)
          ∙ ap (λ b. b || holds_barrier rest) e) ∙ h in
          cut_mark _ _ (mark_right (named_by test) _
          (cut_mark _ _ (mark_right (pieces_of chosen) _
          (cut_mark _ _ (mark_right (pieces_of other) _ (cut_mark _ _ (f held)))))))
  mark_of (LoopThen site first test answer body rest) h =
      by_holds (holds_barrier test || holds_barrier body) refl (λ x. mark_of rest x)
    where
      by_holds : (b : Test) → (holds_barrier test || holds_barrier body) ≡ b →
          (holds_barrier rest ≡ true → HasMark (pieces_of rest)) →
          HasMark (pieces_of (LoopThen site first test answer body rest))
      by_holds true e f = as_mark _ _
          (ap (λ b. cut_before b (pieces_of test ++ (named_by answer ++ cut_before b
          (pieces_of body ++ cut_before b (pieces_of rest))))) e) (first_mark _)
      by_holds false e f =
          let held = sym (or_assoc (holds_barrier test) (holds_barrier body) (holds_barrier rest)
          ∙ ap (λ b. b || holds_barrier rest) e) ∙ h in
          cut_mark _ _ (mark_right (pieces_of test) _
          (mark_right (named_by answer) _ (cut_mark _ _ (mark_right (pieces_of body) _ (cut_mark _ _ (f held))))))
  mark_of (BarrierThen site rest) h = first_mark _

  -- ---- what comes of a cut at which the cell is live: it is live before the lines, or named on both sides of a cut,
  -- or live behind them and named before a cut

  abbrev pub Res : Test → Test → List Piece → Type 0
  Res l a ps = (l ≡ true) ⊎ ((Across c) ps ⊎ ((a ≡ true) × (Before c) ps))

  -- behind pieces that may name it
  pub prefix : (whole qs ps : List Piece) (l l' a : Test) → whole ≡ qs ++ ps →
      (names_cell c qs ≡ false → l ≡ true → l' ≡ true) → HasMark ps → ((BehindOne c) ps ⊎ (a ≡ true)) → Res l a ps →
      Res l' a whole
  prefix whole qs ps l l' a same pass mark behind res =
      subst (λ z. Res l' a z) (sym same) (⊎_elim named_so (λ x. not_named x res) (yes_or_no (names_cell c qs)))
    where
      named_so : (Named c) qs → Res l' a (qs ++ ps)
      named_so y = ⊎_elim (λ b. inr (inl ((across_behind c) qs ps y b)))
          (λ e. inr (inr (e, (before_mark c) qs ps y mark))) behind

      not_named : names_cell c qs ≡ false → Res l a ps → Res l' a (qs ++ ps)
      not_named x (inl e) = inl (pass x e)
      not_named x (inr (inl k)) = inr (inl ((across_right c) qs ps k))
      not_named x (inr (inr (e, b))) = inr (inr (e, (before_right c) qs ps b))

  -- inside a part
  pub inside : (whole pre mid post : List Piece) (l a' l' a : Test) → whole ≡ pre ++ (mid ++ post) →
      (l ≡ true → Res l' a whole) → (a' ≡ true → Res l' a whole ⊎ ((Named c) post ⊎ (a ≡ true))) → Res l a' mid →
      Res l' a whole
  inside whole pre mid post l a' l' a same f g (inl e) = f e
  inside whole pre mid post l a' l' a same f g (inr (inl k)) =
      inr (inl (subst (Across c) (sym same) ((across_right c) pre (mid ++ post) ((across_left c) mid post k))))
  inside whole pre mid post l a' l' a same f g (inr (inr (e, b))) =
      ⊎_elim (λ r. r) (λ o. ⊎_elim (λ m.
      inr (inl (subst (Across c) (sym same)
      ((across_right c) pre (mid ++ post) ((across_before c) mid post b m)))))
      (λ x. inr (inr (
        x,
        subst (Before c) (sym same)
            ((before_right c) pre (mid ++ post) ((before_left c) mid post b)),
      ))) o) (g e)

  -- the same through a cut, where there is one
  pub cut_res : (h : Test) (l a : Test) (ps : List Piece) → Res l a ps → Res l a (cut_before h ps)
  cut_res false l a ps r = r
  cut_res true l a ps (inl e) = inl e
  cut_res true l a ps (inr (inl k)) = inr (inl ((across_right c) (Cut ∷ []) ps k))
  cut_res true l a ps (inr (inr (e, b))) = inr (inr (e, (before_right c) (Cut ∷ []) ps b))

  pub cut_behind : (h a : Test) (ps : List Piece) → (BehindOne c) ps ⊎ (a ≡ true) → (BehindOne c) (cut_before h ps)
      ⊎ (a ≡ true)
  cut_behind false a ps r = r
  cut_behind true a ps (inl b) = inl ((behind_right c) (Cut ∷ []) ps b)
  cut_behind true a ps (inr e) = inr e

  cut_append : (h : Test) (ps qs : List Piece) → cut_before h ps ++ qs ≡ cut_before h (ps ++ qs)
  cut_append true ps qs = refl
  cut_append false ps qs = refl

  -- what stands before the rest of an if, and of a loop
  abbrev pub if_front : Test → (x y z : List Piece) → List Piece
  if_front h x y z = cut_before h (x ++ cut_before h (y ++ cut_before h z))

  pub if_whole : (h : Test) (x y z w : List Piece) →
      cut_before h (x ++ cut_before h (y ++ cut_before h (z ++ cut_before h w))) ≡ if_front h x y z ++ cut_before h w
  if_whole h x y z w =
      ap (λ q. cut_before h (x ++ cut_before h q))
      (sym (append_assoc y (cut_before h z) (cut_before h w) ∙ ap (λ q. y ++ q) (cut_append h z (cut_before h w))))
      ∙ ap (λ q. cut_before h (x ++ q)) (sym (cut_append h (y ++ cut_before h z) (cut_before h w)))
      ∙ ap (λ q. cut_before h q) (sym (append_assoc x (cut_before h (y ++ cut_before h z)) (cut_before h w)))
      ∙ sym (cut_append h (x ++ cut_before h (y ++ cut_before h z)) (cut_before h w))

  abbrev pub loop_front : Test → (x u y : List Piece) → List Piece
  loop_front h x u y = cut_before h (x ++ (u ++ cut_before h y))

  pub loop_whole : (h : Test) (x u y w : List Piece) → cut_before h (x ++ (u ++ cut_before h (y ++ cut_before h w)))
      ≡ loop_front h x u y ++ cut_before h w
  loop_whole h x u y w =
      ap (λ q. cut_before h (x ++ (u ++ q))) (sym (cut_append h y (cut_before h w)))
      ∙ ap (λ q. cut_before h (x ++ q)) (sym (append_assoc u (cut_before h y) (cut_before h w)))
      ∙ ap (λ q. cut_before h q) (sym (append_assoc x (u ++ cut_before h y) (cut_before h w)))
      ∙ sym (cut_append h (x ++ (u ++ cut_before h y)) (cut_before h w))

  pub if_front_names : (h : Test) (x y z : List Piece) →
      names_cell c (if_front h x y z) ≡ (names_cell c x || (names_cell c y || names_cell c z))
  if_front_names h x y z = names-cut c h _ ∙ names_then c h x _ ∙ ap (λ b. names_cell c x || b) (names_then c h y z)

  pub loop_front_names : (h : Test) (x u y : List Piece) →
      names_cell c (loop_front h x u y) ≡ (names_cell c x || (names_cell c u || names_cell c y))
  loop_front_names h x u y = names-cut c h _ ∙ (names-append c) x _ ∙ ap (λ b. names_cell c x || b) (names_then c h u y)

  -- ---- what is live at a cut is named in the lines or live behind them

  if_no : (site : ℕ) (test : Atom) (chosen other rest : Lines) → n (IfThen site test chosen other rest) ≡ false →
      (names_cell c (named_by test) ≡ false) × (n chosen ≡ false) × (n other ≡ false) × (n rest ≡ false)
  if_no site test chosen other rest e =
      let p = or_no (names_cell c (named_by test)) (n chosen || (n other || n rest))
      (sym (names_if c (holds_barrier chosen || holds_barrier other) (named_by test) (pieces_of chosen)
      (pieces_of other) (pieces_of rest)) ∙ e) in
      let q = or_no (n chosen) (n other || n rest) p.1 in
      let r = or_no (n other) (n rest) q.1 in
      (p.0, q.0, r.0, r.1)

  loop_no : (first : Test) (site : ℕ) (test : Lines) (answer : Atom) (body rest : Lines) →
      n (LoopThen site first test answer body rest) ≡ false →
      (n test ≡ false) × (names_cell c (named_by answer) ≡ false) × (n body ≡ false) × (n rest ≡ false)
  loop_no first site test answer body rest e =
      let p = or_no (n test) (names_cell c (named_by answer) || (n body || n rest))
      (sym (names_loop c (holds_barrier test || holds_barrier body) (pieces_of test) (named_by answer)
      (pieces_of body) (pieces_of rest)) ∙ e) in
      let q = or_no (names_cell c (named_by answer)) (n body || n rest) p.1 in
      let r = or_no (n body) (n rest) q.1 in
      (p.0, q.0, r.0, r.1)

  unnamed_cut : (L : Lines) (a v : Test) → n L ≡ false → CutOf L a v → v ≡ a
  unnamed_cut NoLine a v e k = absurd k
  unnamed_cut (SetThen to work rest) a v e k =
      let p = or_no (names_cell c (named_by_work work)) (nat_eq c to || n rest)
      (sym ((names-append c) (named_by_work work) (Names to ∷ pieces_of rest)) ∙ e) in
      unnamed_cut rest a v (or_no (nat_eq c to) (n rest) p.1).1 k
  unnamed_cut (LoadThen site to element root index rest) a v e k =
      let p = or_no (names_cell c (named_by index)) (nat_eq c to || n rest)
      (sym ((names-append c) (named_by index) (Names to ∷ pieces_of rest)) ∙ e) in
      unnamed_cut rest a v (or_no (nat_eq c to) (n rest) p.1).1 k
  unnamed_cut (StoreThen site element root index from rest) a v e k =
      let p = or_no (names_cell c (named_by index)) (names_cell c (named_by from ++ pieces_of rest))
      (sym ((names-append c) (named_by index) (named_by from ++ pieces_of rest)) ∙ e) in
      unnamed_cut rest a v (or_no (names_cell c (named_by from)) (n rest)
      (sym ((names-append c) (named_by from) (pieces_of rest)) ∙ p.1)).1 k
  unnamed_cut (ClearThen array rest) a v e k = unnamed_cut rest a v e k
  unnamed_cut (IfThen site test chosen other rest) a v e (inl (h, inl x)) =
      x ∙ unnamed c (IfThen site test chosen other rest) a e
  unnamed_cut (IfThen site test chosen other rest) a v e (inl (h, inr x)) =
      x ∙ unnamed c rest a (if_no site test chosen other rest e).3
  unnamed_cut (IfThen site test chosen other rest) a v e (inr (inl k)) = let p = if_no site test chosen other rest e in
      unnamed_cut chosen _ v p.1 k ∙ unnamed c rest a p.3
  unnamed_cut (IfThen site test chosen other rest) a v e (inr (inr (inl k))) = let p =
      if_no site test chosen other rest e in unnamed_cut other _ v p.2 k ∙ unnamed c rest a p.3
  unnamed_cut (IfThen site test chosen other rest) a v e (inr (inr (inr k))) =
      unnamed_cut rest a v (if_no site test chosen other rest e).3 k
  unnamed_cut (LoopThen site first test answer body rest) a v e (inl (h, inl x)) =
      let p = loop_no first site test answer body rest e in
      x ∙ unnamed c test _ p.0 ∙ asked_pass c test answer body rest a p.0 p.1 p.2 ∙ unnamed c rest a p.3
  unnamed_cut (LoopThen site first test answer body rest) a v e (inl (h, inr (inl x))) =
      let p = loop_no first site test answer body rest e in
      x ∙ ap (λ b. live_in c rest a || b) (unnamed c body _ p.2 ∙ unnamed c test _ p.0
      ∙ asked_pass c test answer body rest a p.0 p.1 p.2) ∙ or-self (live_in c rest a) ∙ unnamed c rest a p.3
  unnamed_cut (LoopThen site first test answer body rest) a v e (inl (h, inr (inr x))) =
      let p = loop_no first site test answer body rest e in x ∙ unnamed c body _ p.2 ∙ unnamed c test _ p.0
      ∙ asked_pass c test answer body rest a p.0 p.1 p.2 ∙ unnamed c rest a p.3
  unnamed_cut (LoopThen site first test answer body rest) a v e (inr (inl k)) =
      let p = loop_no first site test answer body rest e in
      unnamed_cut test _ v p.0 k ∙ asked_pass c test answer body rest a p.0 p.1 p.2 ∙ unnamed c rest a p.3
  unnamed_cut (LoopThen site first test answer body rest) a v e (inr (inr (inl k))) =
      let p = loop_no first site test answer body rest e in unnamed_cut body _ v p.2 k ∙ unnamed c test _ p.0
      ∙ asked_pass c test answer body rest a p.0 p.1 p.2 ∙ unnamed c rest a p.3
  unnamed_cut (LoopThen site first test answer body rest) a v e (inr (inr (inr k))) =
      unnamed_cut rest a v (loop_no first site test answer body rest e).3 k
  unnamed_cut (BarrierThen site rest) a v e (inl x) = x ∙ unnamed c rest a e
  unnamed_cut (BarrierThen site rest) a v e (inr k) = unnamed_cut rest a v e k

  cut_named : (L : Lines) (a v : Test) → CutOf L a v → v ≡ true → (Named c) (pieces_of L) ⊎ (a ≡ true)
  cut_named L a v k t = ⊎_elim (λ y. inl y) (λ x. inr (sym (unnamed_cut L a v x k) ∙ t)) (yes_or_no (n L))

  -- and named behind a cut
  first_behind : (ps X : List Piece) (a : Test) → ps ≡ Cut ∷ X → (Named c) ps ⊎ (a ≡ true) →
      (BehindOne c) ps ⊎ (a ≡ true)
  first_behind ps X a same (inl y) =
      inl (record { before = []; after = X; same = same; named = ap (names_cell c) (sym same) ∙ y })
  first_behind ps X a same (inr e) = inr e

  or_behind : (ps qs : List Piece) (a : Test) → (BehindOne c) qs ⊎ (a ≡ true) → (BehindOne c) (ps ++ qs) ⊎ (a ≡ true)
  or_behind ps qs a (inl b) = inl ((behind_right c) ps qs b)
  or_behind ps qs a (inr e) = inr e

  as_behind : (ps qs : List Piece) (a : Test) → ps ≡ qs → (BehindOne c) qs ⊎ (a ≡ true) → (BehindOne c) ps ⊎ (a ≡ true)
  as_behind ps qs a e r = subst (λ z. (BehindOne c) z ⊎ (a ≡ true)) (sym e) r

  pub if_held : (site : ℕ) (test : Atom) (chosen other rest : Lines) → (holds_barrier chosen || holds_barrier other)
      ≡ true → pieces_of (IfThen site test chosen other rest)
      ≡ Cut ∷ (named_by test ++ Cut ∷ (pieces_of chosen ++ Cut ∷ (pieces_of other ++ Cut ∷ pieces_of rest)))
  if_held site test chosen other rest e =
      ap (λ b. cut_before b (named_by test ++ cut_before b
      (pieces_of chosen ++ cut_before b (pieces_of other ++ cut_before b (pieces_of rest))))) e

  pub loop_held : (first : Test) (site : ℕ) (test : Lines) (answer : Atom) (body rest : Lines) →
      (holds_barrier test || holds_barrier body) ≡ true → pieces_of (LoopThen site first test answer body rest)
      ≡ Cut ∷ (pieces_of test ++ (named_by answer ++ Cut ∷ (pieces_of body ++ Cut ∷ pieces_of rest)))
  loop_held first site test answer body rest e =
      ap (λ b. cut_before b (pieces_of test ++ (named_by answer ++ cut_before b
      (pieces_of body ++ cut_before b (pieces_of rest))))) e

  pub cut_behind_of : (L : Lines) (a v : Test) → CutOf L a v → v ≡ true → (BehindOne c) (pieces_of L) ⊎ (a ≡ true)
  cut_behind_of NoLine a v k t = absurd k
  cut_behind_of (SetThen to work rest) a v k t =
      or_behind (named_by_work work) _ a (or_behind (Names to ∷ []) (pieces_of rest) a (cut_behind_of rest a v k t))
  cut_behind_of (LoadThen site to element root index rest) a v k t =
      or_behind (named_by index) _ a (or_behind (Names to ∷ []) (pieces_of rest) a (cut_behind_of rest a v k t))
  cut_behind_of (StoreThen site element root index from rest) a v k t =
      or_behind (named_by index) _ a (or_behind (named_by from) (pieces_of rest) a (cut_behind_of rest a v k t))
  cut_behind_of (ClearThen array rest) a v k t = cut_behind_of rest a v k t
  cut_behind_of (IfThen site test chosen other rest) a v (inl own) t =
      first_behind _ _ a (if_held site test chosen other rest own.0) (cut_named (IfThen site test chosen other rest) a v
      (inl own) t)
  cut_behind_of (IfThen site test chosen other rest) a v (inr (inl k)) t =
      first_behind _ _ a (if_held site test chosen other rest (or_left (holds_barrier chosen) (holds_barrier other)
      (holds_of chosen _ v k))) (cut_named (IfThen site test chosen other rest) a v (inr (inl k)) t)
  cut_behind_of (IfThen site test chosen other rest) a v (inr (inr (inl k))) t =
      first_behind _ _ a (if_held site test chosen other rest (or_right (holds_barrier chosen) (holds_barrier other)
      (holds_of other _ v k))) (cut_named (IfThen site test chosen other rest) a v (inr (inr (inl k))) t)
  cut_behind_of (IfThen site test chosen other rest) a v (inr (inr (inr k))) t =
      as_behind _ _ a (if_whole (holds_barrier chosen || holds_barrier other) (named_by test) (pieces_of chosen)
      (pieces_of other) (pieces_of rest))
      (or_behind _ _ a (cut_behind _ a (pieces_of rest) (cut_behind_of rest a v k t)))
  cut_behind_of (LoopThen site first test answer body rest) a v (inl own) t =
      first_behind _ _ a (loop_held first site test answer body rest own.0)
      (cut_named (LoopThen site first test answer body rest) a v (inl own) t)
  cut_behind_of (LoopThen site first test answer body rest) a v (inr (inl k)) t =
      first_behind _ _ a (loop_held first site test answer body rest (or_left (holds_barrier test) (holds_barrier body)
      (holds_of test _ v k))) (cut_named (LoopThen site first test answer body rest) a v (inr (inl k)) t)
  cut_behind_of (LoopThen site first test answer body rest) a v (inr (inr (inl k))) t =
      first_behind _ _ a (loop_held first site test answer body rest (or_right (holds_barrier test) (holds_barrier body)
      (holds_of body _ v k))) (cut_named (LoopThen site first test answer body rest) a v (inr (inr (inl k))) t)
  cut_behind_of (LoopThen site first test answer body rest) a v (inr (inr (inr k))) t =
      as_behind _ _ a (loop_whole (holds_barrier test || holds_barrier body) (pieces_of test) (named_by answer)
      (pieces_of body) (pieces_of rest))
      (or_behind _ _ a (cut_behind _ a (pieces_of rest) (cut_behind_of rest a v k t)))
  cut_behind_of (BarrierThen site rest) a v (inl x) t =
      first_behind _ _ a refl (cut_named (BarrierThen site rest) a v (inl x) t)
  cut_behind_of (BarrierThen site rest) a v (inr k) t =
      or_behind (Cut ∷ []) (pieces_of rest) a (cut_behind_of rest a v k t)
