-- Which cells a text names on both sides of a cut.
use Rattle.std.proofs.Common.{◌≡◌, ◌≢◌, ℕ, zero, suc, ◌+◌, ◌<◌, ◌≤◌, List, [], ◌∷◌, ◌++◌, append_assoc, length}
use Rattle.std.proofs.Common.{get_or, refl, ap, ap₂, sym, ◌∙◌, arith, cond, Option, Some, None, subst}
use Rattle.std.proofs.Common.{◌⊎◌, inl, inr, ⊎_elim, replicate, unwrap_or, is_some, add-zero}
use Rattle.std.proofs.lemmas.List.{append-nil, length-set, get_or-set_same, get_or-set_other, ext_get_or}
use Rattle.std.proofs.lemmas.List.{get_or-replicate, length-replicate}
use Rattle.std.proofs.lemmas.Bool.{ne_eqb, eq-eqb, lt-ltb, true≢false}
use Rattle.std.proofs.lemmas.Option.{slice_get_within}
use Rattle.std.proofs.lemmas.Bool.Decides.{eqb_tells, leb_tells}
use Rattle.work_items.proofs.Lists.{get-set_same, get-set_other}
use Rattle.std.specs.Prelude.{◌||◌, ◌&&◌, nat_eq, nat_lt, slice_get, slice_set, slice_index_or}
use Rattle.std.specs.Prelude.{Bool as Test, true, false}
use Rattle.kir.specs.Keeps.{Piece, Names, Cut, names_cell, names_behind_cut, names_across}
use Rattle.ctx_plan.specs.declared.keeping.Naming.{Naming}
use Rattle.ctx_plan.specs.Naming.{named_from, adds_across, is_across, named_among, IsNaming, Leads}

-- one text behind another
pub leads_then : (a b c : Naming) (xs ys : List Piece) → Leads a b xs → Leads b c ys → Leads a c (xs ++ ys)
leads_then a b c xs ys l m = record {
  first_count = m.first_count ∙ l.first_count;
  across_count = m.across_count ∙ l.across_count;
  naming = λ e. m.naming (l.naming e);
  same =
      λ e d lt lt' rest.
      m.same (l.naming e) d (let q = l.first_count in omega (arith, q)) (let q = l.across_count in omega (arith, q))
      rest
      ∙ (l.same e d lt lt' (ys ++ rest) ∙ ap (is_across a d) (sym (append_assoc xs ys rest)));
}

pub leads_none : (a : Naming) → Leads a a []
leads_none a = record { first_count = refl; across_count = refl; naming = λ e. e; same = λ e d lt lt' rest. refl }

pub leads_as : (a b : Naming) (xs ys : List Piece) → xs ≡ ys → Leads a b xs → Leads a b ys
leads_as a b xs ys e l = let P : List Piece → Type 0 = λ z. Leads a b z in subst P e l

-- so far through a text, with this left of it
pub record LedThrough (old new : Naming) (all left : List Piece) : Type 0 where
  pub done : List Piece
  pub whole : done ++ left ≡ all
  pub by : Leads old new done

pub through_start : (a : Naming) (all : List Piece) → LedThrough a a all all
through_start a all = record { done = []; whole = refl; by = leads_none a }

pub through_step : (a b c : Naming) (all left piece rest : List Piece) → LedThrough a b all left →
    left ≡ piece ++ rest → Leads b c piece → LedThrough a c all rest
through_step a b c all left piece rest t e l = record {
  done = t.done ++ piece;
  whole = append_assoc t.done piece rest ∙ (ap (λ z. t.done ++ z) (sym e) ∙ t.whole);
  by = leads_then a b c t.done piece t.by l;
}

pub through_end : (a b : Naming) (all left : List Piece) → LedThrough a b all left → left ≡ [] → Leads a b all
through_end a b all left t e =
    leads_as a b t.done all (sym (append-nil t.done) ∙ (ap (λ z. t.done ++ z) (sym e) ∙ t.whole)) t.by

-- ---- what a rest adds

adds_nothing : (c : ℕ) (f : Option (Option ℕ)) (present : ℕ) → adds_across c f present [] ≡ false
adds_nothing c None present = refl
adds_nothing c (Some None) present = refl
adds_nothing c (Some (Some number)) before = go (nat_lt number before)
  where
    go : (b : Test) → cond b (names_cell c []) (names_behind_cut c []) ≡ false
    go true = refl
    go false = refl

-- another cell is named
adds_other : (c d : ℕ) (f : Option (Option ℕ)) (present : ℕ) (rest : List Piece) → nat_eq c d ≡ false →
    adds_across c f present rest ≡ adds_across c f present (Names d ∷ rest)
adds_other c d None present rest e = refl
adds_other c d (Some None) present rest e = sym (ap (λ b. (b && names_behind_cut c rest) || names_across c rest) e)
adds_other c d (Some (Some number)) before rest e =
    ap (λ x. cond (nat_lt number before) x (names_behind_cut c rest)) (sym (ap (λ b. b || names_cell c rest) e))

and_absorbs : (a b x : Test) → (x || b) ≡ x → (x || ((a && x) || b)) ≡ x
and_absorbs true b true e = refl
and_absorbs true b false e = e
and_absorbs false b x e = e

-- a cell that is named across a cut is named, and named behind one
cell_step : (e n b a : Test) → (n || a) ≡ n → ((e || n) || ((e && b) || a)) ≡ (e || n)
cell_step true n b a h = refl
cell_step false n b a h = h

cell_absorbs : (c : ℕ) (rest : List Piece) → (names_cell c rest || names_across c rest) ≡ names_cell c rest
cell_absorbs c [] = refl
cell_absorbs c (Names d ∷ rest) =
    cell_step (nat_eq c d) (names_cell c rest) (names_behind_cut c rest) (names_across c rest) (cell_absorbs c rest)
cell_absorbs c (Cut ∷ rest) = cell_absorbs c rest

behind_absorbs : (c : ℕ) (rest : List Piece) → (names_behind_cut c rest || names_across c rest) ≡
    names_behind_cut c rest
behind_absorbs c [] = refl
behind_absorbs c (Names d ∷ rest) =
    and_absorbs (nat_eq c d) (names_across c rest) (names_behind_cut c rest) (behind_absorbs c rest)
behind_absorbs c (Cut ∷ rest) = cell_absorbs c rest

or_true : (b : Test) → (b || true) ≡ true
or_true true = refl
or_true false = refl

-- ---- how many are named

named_all : (cells : List (Option ℕ)) → named_among cells ≤ length cells
named_all [] = omega arith
named_all (None ∷ cells) = let le = named_all cells in omega (arith, le)
named_all (Some k ∷ cells) = let le = named_all cells in omega (arith, le)

named_less : (cells : List (Option ℕ)) (d : ℕ) → slice_get cells d ≡ Some None → named_among cells < length cells
named_less [] d is = let wrong : None ≡ Some None = is in cc
named_less (None ∷ cells) d is = let le = named_all cells in omega (arith, le)
named_less (Some k ∷ cells) zero is =
    absurd (true≢false (ap (λ o. is_some (unwrap_or o None)) is))
named_less (Some k ∷ cells) (suc d) is = let less = named_less cells d is in omega (arith, less)

named_set : (cells : List (Option ℕ)) (d k : ℕ) → slice_get cells d ≡ Some None →
    named_among (slice_set cells d (Some k)) ≡ named_among cells + 1
named_set [] d k is = let wrong : None ≡ Some None = is in cc
named_set (None ∷ cells) zero k is = omega arith
named_set (None ∷ cells) (suc d) k is = named_set cells d k is
named_set (Some j ∷ cells) zero k is = absurd (true≢false (ap (λ o. is_some (unwrap_or o None)) is))
named_set (Some j ∷ cells) (suc d) k is = let one = named_set cells d k is in omega (arith, one)

not_lt : (a b : ℕ) → b ≤ a → nat_lt a b ≡ false
not_lt a b le = ⊎_elim (λ h. let lt = h.1 in absurd (omega (arith, lt, le))) (λ h. h.0) (leb_tells (suc a) b)

-- ---- one cell named

module _ (n n' : Naming) (d : ℕ) (in_first : d < length n.first.items) (in_across : d < length n.across.items)
    (stays : n'.before ≡ n.before) where
  same_naming : n'.first.items ≡ n.first.items → n'.count ≡ n.count → IsNaming n → IsNaming n'
  same_naming first count e =
      let c0 = e.count in
      let b0 = e.before in
      record {
        count = count ∙ (c0 ∙ sym (ap named_among first));
        numbers =
            λ c p is. let r = e.numbers c p (sym (ap (λ xs. slice_get xs c) first) ∙ is) in omega (arith, r, count);
        before = omega (arith, b0, count, stays);
      }

  -- for the first time
  pub name_first : slice_get n.first.items d ≡ Some None → n'.first.items ≡ slice_set n.first.items d (Some n.count) →
      n'.across.items ≡ n.across.items → (n.count < length n.first.items → n'.count ≡ n.count + 1) →
      Leads n n' (Names d ∷ [])
  name_first none first across counted = record {
    first_count = ap length first ∙ length-set n.first.items d (Some n.count);
    across_count = ap length across;
    naming = λ e.
        let one = count_one e in
        let c0 = e.count in
        let set = named_set n.first.items d n.count none in
        let f = ap named_among first in
        let b0 = e.before in
        record {
          count = one ∙ (ap (λ k. k + 1) c0 ∙ (sym set ∙ sym f));
          numbers =
              λ c p is. ⊎_elim (λ (q : d ≡ c). at_number c p q is e)
              (λ ne. let r = e.numbers c p (sym (get-set_other n.first.items d c (Some n.count) ne) ∙
              (sym (ap (λ xs. slice_get xs c) first) ∙ is)) in omega (arith, r, one)) (nat_same d c);
          before = omega (arith, b0, one, stays);
        };
    same = λ e c lt lt' rest. ⊎_elim (λ (q : d ≡ c). at_same e c q rest) (λ ne. at_other c ne rest) (nat_same d c);
  }
    where
      nat_same : (a b : ℕ) → (a ≡ b) ⊎ (a ≢ b)
      nat_same a b = ⊎_elim (λ h. inl h.1) (λ h. inr h.1) (eqb_tells a b)

      count_one : IsNaming n → n'.count ≡ n.count + 1
      count_one e = let less = named_less n.first.items d none in let c0 = e.count in counted (omega (arith, less, c0))

      at_number : (c p : ℕ) → d ≡ c → slice_get n'.first.items c ≡ Some (Some p) → IsNaming n → p < n'.count
      at_number c p q is e =
          let there : slice_get n'.first.items c ≡ Some (Some n.count) = ap (λ xs. slice_get xs c) first ∙
          (ap (slice_get (slice_set n.first.items d (Some n.count))) (sym q) ∙
          get-set_same n.first.items d None (Some n.count) none) in
          let e' : Some (Some n.count) ≡ Some (Some p) = sym there ∙ is in
          let r : n.count ≡ p = ap (λ o. unwrap_or (unwrap_or o None) n.count) e' in
          let one = count_one e in
          omega (arith, r, one)

      at_same : IsNaming n → (c : ℕ) → d ≡ c → (rest : List Piece) →
          is_across n' c rest ≡ is_across n c (Names d ∷ rest)
      at_same e c q rest =
          let there : slice_get n'.first.items c ≡ Some (Some n.count) = ap (λ xs. slice_get xs c) first ∙
          (ap (slice_get (slice_set n.first.items d (Some n.count))) (sym q) ∙
          get-set_same n.first.items d None (Some n.count) none) in
          let here : slice_get n.first.items c ≡ Some None = ap (slice_get n.first.items) (sym q) ∙ none in
          let b0 = e.before in
          let self : nat_lt n.count n'.before ≡ false = not_lt n.count n'.before (omega (arith, b0, stays)) in
          let named : nat_eq c d ≡ true = eq-eqb c d (sym q) in
          ap₂ (λ a b. a || b) (ap (λ xs. slice_index_or xs c false) across)
          (ap (λ f. adds_across c f n'.before rest) there
          ∙ (ap (λ b. cond b (names_cell c rest) (names_behind_cut c rest)) self
          ∙ (sym (behind_absorbs c rest)
          ∙ (sym (ap (λ b. (b && names_behind_cut c rest) || names_across c rest) named)
          ∙ sym (ap (λ f. adds_across c f n.before (Names d ∷ rest)) here)))))

      at_other : (c : ℕ) → d ≢ c → (rest : List Piece) → is_across n' c rest ≡ is_across n c (Names d ∷ rest)
      at_other c ne rest =
          ap₂ (λ a b. a || b) (ap (λ xs. slice_index_or xs c false) across)
          (ap₂ (λ f p. adds_across c f p rest) (ap (λ xs. slice_get xs c) first ∙
          get-set_other n.first.items d c (Some n.count) ne) stays
          ∙ adds_other c d (slice_get n.first.items c) n.before rest (ne_eqb c d (λ q. ne (sym q))))

  -- again, in the same piece
  pub name_again : (q : ℕ) → slice_get n.first.items d ≡ Some (Some q) → n.before ≤ q →
      n'.first.items ≡ n.first.items → n'.across.items ≡ n.across.items → n'.count ≡ n.count → Leads n n' (Names d ∷ [])
  name_again q there now first across count = record {
    first_count = ap length first;
    across_count = ap length across;
    naming = same_naming first count;
    same =
        λ e c lt lt' rest.
        ap₂ (λ a b. a || b) (ap (λ xs. slice_index_or xs c false) across)
        (ap₂ (λ f p. adds_across c f p rest) (ap (λ xs. slice_get xs c) first) stays ∙ ⊎_elim
        (λ h. at_same c h.1 rest) (λ h. adds_other c d (slice_get n.first.items c) n.before rest h.0)
        (eqb_tells c d));
  }
    where
      at_same : (c : ℕ) → c ≡ d → (rest : List Piece) → adds_across c (slice_get n.first.items c) n.before rest ≡
          adds_across c (slice_get n.first.items c) n.before (Names d ∷ rest)
      at_same c e rest =
          let here : slice_get n.first.items c ≡ Some (Some q) = ap (slice_get n.first.items) e ∙ there in
          let self : nat_lt q n.before ≡ false = not_lt q n.before now in
          ap (λ f. adds_across c f n.before rest) here
          ∙ (ap (λ b. cond b (names_cell c rest) (names_behind_cut c rest)) self
          ∙ (sym (ap (λ b. cond b (names_cell c (Names d ∷ rest)) (names_behind_cut c rest)) self)
          ∙ sym (ap (λ f. adds_across c f n.before (Names d ∷ rest)) here)))

  -- again, in another piece
  pub name_across : (q : ℕ) → slice_get n.first.items d ≡ Some (Some q) → q < n.before →
      n'.first.items ≡ n.first.items → n'.across.items ≡ slice_set n.across.items d true → n'.count ≡ n.count →
      Leads n n' (Names d ∷ [])
  name_across q there past first across count = record {
    first_count = ap length first;
    across_count = ap length across ∙ length-set n.across.items d true;
    naming = same_naming first count;
    same = λ e c lt lt' rest. ⊎_elim (λ h. at_same c h.1 rest) (λ h. at_other c h.0 h.1 rest) (eqb_tells c d);
  }
    where
      at_same : (c : ℕ) → c ≡ d → (rest : List Piece) → is_across n' c rest ≡ is_across n c (Names d ∷ rest)
      at_same c e rest =
          let here : slice_get n.first.items c ≡ Some (Some q) = ap (slice_get n.first.items) e ∙ there in
          let other : nat_lt q n.before ≡ true = lt-ltb q n.before past in
          let named : nat_eq c d ≡ true = eq-eqb c d e in
          let set : slice_index_or n'.across.items c false ≡ true = ap (λ xs. get_or xs c false) across ∙
          (ap (λ x. get_or (slice_set n.across.items d true) x false) e ∙
          get_or-set_same n.across.items d true false in_across) in
          ap (λ a. a || adds_across c (slice_get n'.first.items c) n'.before rest) set
          ∙ (sym (or_true (slice_index_or n.across.items c false))
          ∙ ap (λ b. slice_index_or n.across.items c false || b)
          (sym (ap (λ b. b || names_cell c rest) named)
          ∙ (sym (ap (λ b. cond b (names_cell c (Names d ∷ rest)) (names_behind_cut c rest)) other)
          ∙ sym (ap (λ f. adds_across c f n.before (Names d ∷ rest)) here))))

      at_other : (c : ℕ) → nat_eq c d ≡ false → c ≢ d → (rest : List Piece) →
          is_across n' c rest ≡ is_across n c (Names d ∷ rest)
      at_other c e ne rest =
          ap₂ (λ a b. a || b) (ap (λ xs. get_or xs c false) across ∙ get_or-set_other n.across.items d c true false ne)
          (ap₂ (λ f p. adds_across c f p rest) (ap (λ xs. slice_get xs c) first) stays ∙
          adds_other c d (slice_get n.first.items c) n.before rest e)

-- ---- a cut

pub cut_passed : (n n' : Naming) → n'.first.items ≡ n.first.items → n'.across.items ≡ n.across.items →
    n'.count ≡ n.count → n'.before ≡ n.count → Leads n n' (Cut ∷ [])
cut_passed n n' first across count before = record {
  first_count = ap length first;
  across_count = ap length across;
  naming = λ e. let c0 = e.count in record {
    count = count ∙ (c0 ∙ sym (ap named_among first));
    numbers = λ c p is. let r = e.numbers c p (sym (ap (λ xs. slice_get xs c) first) ∙ is) in omega (arith, r, count);
    before = omega (arith, count, before);
  };
  same =
      λ e c lt lt' rest.
      ap₂ (λ a b. a || b) (ap (λ xs. slice_index_or xs c false) across)
      (ap (λ f. adds_across c f n'.before rest) (ap (λ xs. slice_get xs c) first) ∙
      adds_cut e c (slice_get n.first.items c) rest refl);
}
  where
    either : (b : Test) (x : Test) → x ≡ cond b x x
    either true x = refl
    either false x = refl

    adds_cut : IsNaming n → (c : ℕ) (f : Option (Option ℕ)) (rest : List Piece) → slice_get n.first.items c ≡ f →
        adds_across c f n'.before rest ≡ adds_across c f n.before (Cut ∷ rest)
    adds_cut e c None rest is = refl
    adds_cut e c (Some None) rest is = refl
    adds_cut e c (Some (Some k)) rest is =
        let r = e.numbers c k is in
        ap (λ b. cond b (names_cell c rest) (names_behind_cut c rest)) (lt-ltb k n'.before (omega (arith, r, before)))
        ∙ either (nat_lt k n.before) (names_cell c rest)

-- ---- the whole text

named_count : (n k : ℕ) (pieces : List Piece) → length (named_from n k pieces) ≡ k
named_count n zero pieces = refl
named_count n (suc k) pieces = ap suc (named_count (suc n) k pieces)

named_at : (n k : ℕ) (pieces : List Piece) (c : ℕ) → c < k →
    get_or (named_from n k pieces) c false ≡ names_across (n + c) pieces
named_at n zero pieces c lt = absurd (omega (arith, lt))
named_at n (suc k) pieces zero lt = ap (λ m. names_across m pieces) (sym (add-zero n))
named_at n (suc k) pieces (suc c) lt = let e : suc n + c ≡ n + suc c =
    omega arith in named_at (suc n) k pieces c (omega (arith, lt)) ∙ ap (λ m. names_across m pieces) e

not_there : (cells : ℕ) (c : ℕ) → c < cells → slice_get (let xs : List (Option ℕ) = replicate cells None in
    xs) c ≡ Some None
not_there zero c lt = absurd (omega (arith, lt))
not_there (suc cells) zero lt = refl
not_there (suc cells) (suc c) lt = not_there cells c (omega (arith, lt))

-- from a start at which nothing is named
pub named_whole : (cells : ℕ) (start last : Naming) (pieces : List Piece) → start.first.items ≡ replicate cells None →
    start.across.items ≡ replicate cells false → start.count ≡ 0 → start.before ≡ 0 →
    Leads start last pieces → last.across.items ≡ named_from 0 cells pieces
named_whole cells start last pieces first across none_yet begun l =
    ext_get_or false last.across.items (named_from 0 cells pieces) (count ∙
    sym (named_count 0 cells pieces)) (λ c lt. each c (omega (arith, lt, count)))
  where
    count : length last.across.items ≡ cells
    count = l.across_count ∙ (ap length across ∙ length-replicate cells false)

    none_named : (k : ℕ) → named_among (let xs : List (Option ℕ) = replicate k None in xs) ≡ 0
    none_named zero = refl
    none_named (suc k) = none_named k

    counted : start.count ≡ named_among start.first.items
    counted = none_yet ∙ sym (ap named_among first ∙ none_named cells)

    or_nothing : (a b : Test) → b ≡ false → (a || b) ≡ a
    or_nothing true b e = refl
    or_nothing false b e = e

    none_early : (c p : ℕ) → slice_get start.first.items c ≡ Some (Some p) → p < start.count
    none_early c p is =
        let lt : c < cells = (let w = slice_get_within start.first.items c (Some p) is in let q = ap length first ∙
        length-replicate cells None in omega (arith, w, q)) in
        let e : Some None ≡ Some (Some p) = sym (not_there cells c lt) ∙ (sym (ap (λ xs. slice_get xs c) first) ∙ is) in
        absurd (true≢false (ap (λ o. is_some (unwrap_or o None)) (sym e)))

    each : (c : ℕ) → c < cells → get_or last.across.items c false ≡ get_or (named_from 0 cells pieces) c false
    each c lt =
        let there : slice_get start.first.items c ≡ Some None =
        ap (λ xs. slice_get xs c) first ∙ not_there cells c lt in
        let dead : get_or start.across.items c false ≡ false =
        ap (λ xs. get_or xs c false) across ∙ get_or-replicate cells c false false lt in
        let zero_c : c ≡ 0 + c = omega arith in
        sym (or_nothing (get_or last.across.items c false) (adds_across c (slice_get last.first.items c) last.before
        []) (adds_nothing c (slice_get last.first.items c) last.before))
        ∙ (l.same (record { count = counted; numbers = none_early; before = omega (arith, begun) }) c
        (let q = ap length first ∙ length-replicate cells None in
        omega (arith, lt, q)) (let q = ap length across ∙ length-replicate cells false in
        omega (arith, lt, q)) []
        ∙ (ap (λ b. b || adds_across c (slice_get start.first.items c) start.before (pieces ++ [])) dead
        ∙ (ap (λ f. adds_across c f start.before (pieces ++ [])) there
        ∙ (ap (names_across c) (append-nil pieces) ∙
        (ap (λ m. names_across m pieces) zero_c ∙ sym (named_at 0 cells pieces c lt))))))
