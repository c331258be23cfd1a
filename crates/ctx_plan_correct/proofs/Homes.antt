-- The home that a plan gives each cell, and how many columns it takes.
use Rattle.std.proofs.Common.{◌≡◌, ℕ, zero, suc, ◌+◌, ◌<◌, ◌≤◌, List, [], ◌∷◌, ◌++◌, Some, None, length, max, refl}
use Rattle.std.proofs.Common.{sym, ap, ◌∙◌, arith, ◌⊎◌, inl, inr, ⊎_elim, length-append}
use Rattle.std.specs.Prelude.{Bool as Test, true, false}
use Rattle.std.specs.Prelude.{◌&&◌, slice_get, if◌then◌else◌}
use Rattle.kir.specs.Tree.{CellKind, OfVariable, OfFlag, OfValue, Cell}
use Rattle.kir.specs.Keeps.{Piece, names_across, is_made_kind, count_below}
use Rattle.ctx_plan.specs.declared.plan.Home.{Home}
use Rattle.ctx_plan.specs.declared.plan.Home.TheVariants as home
use Rattle.ctx_plan.specs.declared.cells.Kept.{Kept}
use Rattle.ctx_plan.specs.declared.cells.Kept.TheVariants as kept
use Rattle.ctx_plan.specs.Points.{entry}
use Rattle.ctx_plan.specs.Sharing.{Shares}
use Rattle.ctx_plan.specs.Naming.{named_from}
use Rattle.ctx_plan.specs.Made.{kept_of, columns_of_kind, columns_onto, Placed, with_kept, with_made, with_home}
use Rattle.ctx_plan.specs.Made.{homes_onto}

-- ---- the home of one cell, behind others

abbrev pub kept_home : Kept → (slots : ℕ) → Home
kept_home kept.Nothing slots = home.Register
kept_home kept.One slots = home.Once slots
kept_home (kept.Each column) slots = home.Column column

abbrev pub made_home : (keep : Test) → (columns : ℕ) → Home
made_home true columns = home.Column columns
made_home false columns = home.Register

abbrev pub home_for : Shares → List (List Test) → (keep : Test) → CellKind → Placed → Home
home_for s varying keep (OfVariable v path name) p = kept_home (kept_of s varying v.calls v.function v.number) p.slots
home_for s varying keep OfFlag p = made_home keep p.columns
home_for s varying keep OfValue p = made_home keep p.columns

kept_list : (k : Kept) (p : Placed) → (with_kept k p).list ≡ p.list ++ kept_home k p.slots ∷ []
kept_list kept.Nothing p = refl
kept_list kept.One p = refl
kept_list (kept.Each column) p = refl

made_list : (keep : Test) (p : Placed) → (with_made keep p).list ≡ p.list ++ made_home keep p.columns ∷ []
made_list true p = refl
made_list false p = refl

kept_columns : (k : Kept) (p : Placed) → (with_kept k p).columns ≡ p.columns
kept_columns kept.Nothing p = refl
kept_columns kept.One p = refl
kept_columns (kept.Each column) p = refl

abbrev pub one_if : Test → ℕ
one_if b = if b then 1 else 0

made_columns : (keep : Test) (p : Placed) → (with_made keep p).columns ≡ p.columns + one_if keep
made_columns true p = refl
made_columns false p = omega arith

get_in : {A : Type 0} (xs ys : List A) (k : ℕ) → k < length xs → slice_get (xs ++ ys) k ≡ slice_get xs k
get_in [] ys k lt = absurd (omega arith)
get_in (x ∷ xs) ys zero lt = refl
get_in (x ∷ xs) ys (suc k) lt = get_in xs ys k (omega arith)

get_behind : {A : Type 0} (xs : List A) (y : A) → slice_get (xs ++ y ∷ []) (length xs) ≡ Some y
get_behind [] y = refl
get_behind (x ∷ xs) y = get_behind xs y

get_none : {A : Type 0} (xs : List A) (k : ℕ) → slice_get xs (length xs + k) ≡ None
get_none [] k = refl
get_none (x ∷ xs) k = let q : length (x ∷ xs) + k ≡ suc (length xs + k) =
    omega arith in ap (slice_get (x ∷ xs)) q ∙ get_none xs k

module _ (s : Shares) (varying : List (List Test)) (across : List Test) where
  home_list : (keep : Test) (kind : CellKind) (p : Placed) → (with_home s varying keep kind p).list ≡ p.list ++
      home_for s varying keep kind p ∷ []
  home_list keep (OfVariable v path name) p = kept_list (kept_of s varying v.calls v.function v.number) p
  home_list keep OfFlag p = made_list keep p
  home_list keep OfValue p = made_list keep p

  home_columns : (keep : Test) (kind : CellKind) (p : Placed) →
      (with_home s varying keep kind p).columns ≡ p.columns + one_if (is_made_kind kind && keep)
  home_columns keep (OfVariable v path name) p = let q =
      kept_columns (kept_of s varying v.calls v.function v.number) p in omega (arith, q)
  home_columns keep OfFlag p = made_columns keep p
  home_columns keep OfValue p = made_columns keep p

  longer : (keep : Test) (kind : CellKind) (p : Placed) →
      length (with_home s varying keep kind p).list ≡ length p.list + 1
  longer keep kind p = ap length (home_list keep kind p) ∙ length-append p.list (home_for s varying keep kind p ∷ [])

  -- the homes so far stay
  stay : (n : ℕ) (cells : List Cell) (p : Placed) (k : ℕ) → k < length p.list →
      slice_get (homes_onto s varying across n cells p).list k ≡ slice_get p.list k
  stay n [] p k lt = refl
  stay n (c ∷ cells) p k lt =
      let q = with_home s varying (entry across n) c.kind p in
      stay (n + 1) cells q k (let l = longer (entry across n) c.kind p in omega (arith, lt, l)) ∙
      (ap (λ xs. slice_get xs k) (home_list (entry across n) c.kind p) ∙
      get_in p.list (home_for s varying (entry across n) c.kind p ∷ []) k lt)

  -- what there is before the cell with this number among these
  abbrev pub stage : (n : ℕ) → List Cell → Placed → ℕ → Placed
  stage n cells p zero = p
  stage n [] p (suc i) = p
  stage n (c ∷ cells) p (suc i) = stage (n + 1) cells (with_home s varying (entry across n) c.kind p) i

  -- the home of each cell is that of its kind at its place
  pub at_cell : (n : ℕ) (cells : List Cell) (p : Placed) (i : ℕ) (h : Home) →
      slice_get (homes_onto s varying across n cells p).list (length p.list + i) ≡ Some h
      → (c : Cell) × (slice_get cells i ≡ Some c) ×
      (h ≡ home_for s varying (entry across (n + i)) c.kind (stage n cells p i))
  at_cell n [] p i h e = absurd (none_some (sym (get_none p.list i) ∙ e))
    where
      none_some : {A : Type 0} {x : A} → None ≡ Some x → ⊥
      none_some q = cc
  at_cell n (c ∷ cells) p zero h e =
      let q = with_home s varying (entry across n) c.kind p in
      let n0 : n + 0 ≡ n = omega arith in
      let l0 : length p.list + 0 ≡ length p.list = omega arith in
      let at = stay (n + 1) cells q (length p.list) (let l = longer (entry across n) c.kind p in omega (arith, l)) ∙
      (ap (λ xs. slice_get xs (length p.list)) (home_list (entry across n) c.kind p) ∙
      get_behind p.list (home_for s varying (entry across n) c.kind p)) in
      let same : Some h ≡ Some (home_for s varying (entry across n) c.kind p) =
      sym e ∙ (ap (slice_get (homes_onto s varying across (n + 1) cells q).list) l0 ∙ at) in (
        c,
        refl,
        (let r : h ≡ home_for s varying (entry across n) c.kind p = cc in r) ∙
            ap (λ k. home_for s varying (entry across k) c.kind p) (sym n0),
      )
  at_cell n (c ∷ cells) p (suc i) h e =
      let q = with_home s varying (entry across n) c.kind p in
      let l = longer (entry across n) c.kind p in
      let at : length p.list + suc i ≡ length q.list + i = omega (arith, l) in
      let r = at_cell (n + 1) cells q i h (ap (slice_get (homes_onto s varying across (n + 1) cells q).list)
      (sym at) ∙ e) in
      let k : n + 1 + i ≡ n + suc i = omega arith in
      (r.0, r.1, r.2 ∙ ap (λ j. home_for s varying (entry across j) r.0.kind (stage (n + 1) cells q i)) k)

  -- columns are added and never taken away
  stage_least : (n : ℕ) (cells : List Cell) (p : Placed) (i : ℕ) → p.columns ≤ (stage n cells p i).columns
  stage_least n cells p zero = omega arith
  stage_least n [] p (suc i) = omega arith
  stage_least n (c ∷ cells) p (suc i) =
      let a = home_columns (entry across n) c.kind p in let b =
      stage_least (n + 1) cells (with_home s varying (entry across n) c.kind p) i in omega (arith, a, b)

  -- behind a keep there is one more
  pub keeps_apart : (n : ℕ) (cells : List Cell) (p : Placed) (i j : ℕ) (c : Cell) → i < j →
      slice_get cells i ≡ Some c → (is_made_kind c.kind && entry across (n + i)) ≡ true →
      (stage n cells p i).columns < (stage n cells p j).columns
  keeps_apart n [] p i j c lt e m = absurd (cc)
  keeps_apart n (d ∷ cells) p zero zero c lt e m = absurd (omega arith)
  keeps_apart n (d ∷ cells) p zero (suc j) c lt e m =
      let same : d ≡ c = cc in
      let n0 : n + 0 ≡ n = omega arith in
      let one : one_if (is_made_kind d.kind && entry across n) ≡ 1 =
      ap one_if (ap (λ k. is_made_kind k.kind && entry across n) same ∙
      (ap (λ k. is_made_kind c.kind && entry across k) (sym n0) ∙ m)) in
      let a = home_columns (entry across n) d.kind p in
      let b = stage_least (n + 1) cells (with_home s varying (entry across n) d.kind p) j in
      omega (arith, a, b, one)
  keeps_apart n (d ∷ cells) p (suc i) zero c lt e m = absurd (omega arith)
  keeps_apart n (d ∷ cells) p (suc i) (suc j) c lt e m =
      let k : n + suc i ≡ n + 1 + i = omega arith in
      keeps_apart (n + 1) cells (with_home s varying (entry across n) d.kind p) i j c (omega arith) e
      (ap (λ x. is_made_kind c.kind && entry across x) (sym k) ∙ m)

  pub least_columns : (n : ℕ) (cells : List Cell) (p : Placed) (i : ℕ) → p.columns ≤ (stage n cells p i).columns
  least_columns n cells p i = stage_least n cells p i

  -- how many keeps there are among cells
  abbrev keeps_from : ℕ → List Cell → ℕ
  keeps_from n [] = 0
  keeps_from n (c ∷ cells) = one_if (is_made_kind c.kind && entry across n) + keeps_from (n + 1) cells

  all_columns : (n : ℕ) (cells : List Cell) (p : Placed) → (homes_onto s varying across n cells p).columns ≡
      p.columns + keeps_from n cells
  all_columns n [] p = omega arith
  all_columns n (c ∷ cells) p =
      let a = home_columns (entry across n) c.kind p in let b =
      all_columns (n + 1) cells (with_home s varying (entry across n) c.kind p) in omega (arith, a, b)

  -- the same by numbers
  abbrev count_from : (ℕ → Test) → ℕ → ℕ → ℕ
  count_from test n zero = 0
  count_from test n (suc k) = one_if (test n) + count_from test (suc n) k

  count_split : (test : ℕ → Test) (n k : ℕ) → count_below test (n + k) ≡ count_below test n + count_from test n k
  count_split test n zero = let q : n + 0 ≡ n = omega arith in let r = ap (count_below test) q in omega (arith, r)
  count_split test n (suc k) =
      let q : n + suc k ≡ suc n + k = omega arith in
      let r = ap (count_below test) q in
      let t = count_split test (suc n) k in
      omega (arith, r, t)

  counted_from : (test : ℕ → Test) (n : ℕ) (cells : List Cell) → ((i : ℕ) (c : Cell) → slice_get cells i ≡ Some c →
      test (n + i) ≡ (is_made_kind c.kind && entry across (n + i))) →
      count_from test n (length cells) ≡ keeps_from n cells
  counted_from test n [] f = refl
  counted_from test n (c ∷ cells) f =
      let n0 : n + 0 ≡ n = omega arith in
      let n1 : n + 1 ≡ suc n = omega arith in
      let a : test n ≡ (is_made_kind c.kind && entry across n) =
      ap test (sym n0) ∙ (f 0 c refl ∙ ap (λ k. is_made_kind c.kind && entry across k) n0) in
      let b = counted_from test (n + 1) cells (λ i d e. let k : n + 1 + i ≡ n + suc i = omega arith in
      ap test k ∙ (f (suc i) d e ∙ ap (λ x. is_made_kind d.kind && entry across x) (sym k))) in
      let d = ap (λ k. count_from test k (length cells)) n1 in
      let g = ap one_if a in
      omega (arith, g, b, d)

  pub columns_counted : (cells : List Cell) (p : Placed) (test : ℕ → Test) →
      ((i : ℕ) (c : Cell) → slice_get cells i ≡ Some c → test i ≡ (is_made_kind c.kind && entry across i)) →
      (homes_onto s varying across 0 cells p).columns ≡ p.columns + count_below test (length cells)
  columns_counted cells p test f =
      let a = all_columns 0 cells p in
      let b = counted_from test 0 cells (λ i c e. let k : 0 + i ≡ i = omega arith in
      ap test k ∙ (f i c e ∙ ap (λ x. is_made_kind c.kind && entry across x) (sym k))) in
      let q : 0 + length cells ≡ length cells = omega arith in
      let c = count_split test 0 (length cells) in
      let d = ap (count_below test) q in
      omega (arith, a, b, c, d)

-- ---- the columns of variables

pub onto_least : (s : Shares) (varying : List (List Test)) (cells : List Cell) (m : ℕ) →
    m ≤ columns_onto s varying cells m
onto_least s varying [] m = omega arith
onto_least s varying (c ∷ cells) m = let a =
    onto_least s varying cells (max m (columns_of_kind s varying c.kind)) in omega (arith, a)

pub onto_each : (s : Shares) (varying : List (List Test)) (cells : List Cell) (m i : ℕ) (c : Cell) →
    slice_get cells i ≡ Some c → columns_of_kind s varying c.kind ≤ columns_onto s varying cells m
onto_each s varying [] m i c e = absurd (cc)
onto_each s varying (d ∷ cells) m zero c e =
    let same : d ≡ c = cc in
    let a = onto_least s varying cells (max m (columns_of_kind s varying d.kind)) in
    let b : columns_of_kind s varying d.kind ≡ columns_of_kind s varying c.kind =
    ap (λ k. columns_of_kind s varying k.kind) same in
    omega (arith, a, b)
onto_each s varying (d ∷ cells) m (suc i) c e =
    onto_each s varying cells (max m (columns_of_kind s varying d.kind)) i c e

max_either : (a b : ℕ) → (max a b ≡ a) ⊎ (max a b ≡ b)
max_either a b = ⊎_elim (λ h. inr (omega (arith, h))) (λ h. inl (omega (arith, h))) (order a b)
  where
    order : (a b : ℕ) → (a ≤ b) ⊎ (b ≤ a)
    order a b = grind arith

-- the largest is that of a cell, or the number that was there
pub onto_some : (s : Shares) (varying : List (List Test)) (cells : List Cell) (m : ℕ) →
    (columns_onto s varying cells m ≡ m) ⊎ ((i : ℕ) × (c : Cell) × (slice_get cells i ≡ Some c) ×
    (columns_of_kind s varying c.kind ≡ columns_onto s varying cells m))
onto_some s varying [] m = inl refl
onto_some s varying (d ∷ cells) m =
    ⊎_elim (λ e. ⊎_elim (λ k. inl (e ∙ k)) (λ k. inr (0, d, refl, sym (e ∙ k)))
    (max_either m (columns_of_kind s varying d.kind)))
    (λ r. inr (suc r.0, r.1, r.2, r.3)) (onto_some s varying cells (max m (columns_of_kind s varying d.kind)))

-- ---- names on both sides of a cut

pub entry_named : (pieces : List Piece) (first count i : ℕ) → i < count →
    entry (named_from first count pieces) i ≡ names_across (first + i) pieces
entry_named pieces first zero i lt = absurd (omega arith)
entry_named pieces first (suc count) zero lt = let q : first + 0 ≡ first =
    omega arith in ap (λ k. names_across k pieces) (sym q)
entry_named pieces first (suc count) (suc i) lt = let q : suc first + i ≡ first + suc i =
    omega arith in entry_named pieces (suc first) count i (omega arith) ∙ ap (λ k. names_across k pieces) q
