-- The homes of a plan: one for each cell, each below the counts, and each slot of one cell.
use Rattle.std.proofs.Common.{◌≡◌, ℕ, zero, suc, ◌+◌, ◌<◌, ◌≤◌, ◌⊎◌, inl, inr, ⊎_elim, List, [], ◌∷◌, ◌++◌, length}
use Rattle.std.proofs.Common.{map, filter, sum, max, Some, None, slice_get, refl, ap, sym, ◌∙◌, arith, cond}
use Rattle.std.proofs.Common.{length-append, unwrap_or, is_some, zero-add}
use Rattle.std.specs.Prelude.{Bool as Test, true, false}
use Rattle.std.proofs.lemmas.Bool.{true≢false}
use Rattle.std.proofs.lemmas.List.Sums.{sum_by-cons}
use Rattle.std.proofs.lemmas.Bool.Decides.{eqb_tells}
use Rattle.cl_model.specs.Tree.{Array, Program}
use Rattle.cl_model.specs.Objects.{array_bytes, is_private}
use Rattle.kir.specs.Tree.{CellKind, OfVariable, OfFlag, OfValue, Cell, Kernel}
use Rattle.ctx_plan.specs.declared.plan.Home.{Home}
use Rattle.ctx_plan.specs.declared.plan.Home.TheVariants as home
use Rattle.ctx_plan.specs.declared.cells.Kept.{Kept}
use Rattle.ctx_plan.specs.declared.cells.Kept.TheVariants as kept
use Rattle.ctx_plan.specs.Points.{entry}
use Rattle.ctx_plan.specs.Sharing.{Shares, shares_of}
use Rattle.kir.specs.Keeps.{pieces_of}
use Rattle.ctx_plan.specs.Naming.{named_from}
use Rattle.ctx_plan.specs.Made.{kept_of, columns_for, columns_of_kind, columns_onto, Placed, with_kept, with_made}
use Rattle.ctx_plan.specs.Made.{with_home, homes_onto, bytes_among, plan_of}
use Rattle.ctx_plan.specs.Planned.{IsCounted}

-- ---- lists with one item more

get_last : {A : Type 0} (xs : List A) (h : A) → slice_get (xs ++ h ∷ []) (length xs) ≡ Some h
get_last [] h = refl
get_last (x ∷ xs) h = get_last xs h

get_before : {A : Type 0} (xs : List A) (h x : A) (c : ℕ) → slice_get xs c ≡ Some x →
    slice_get (xs ++ h ∷ []) c ≡ Some x
get_before [] h x c e = absurd (none_some e)
  where
    none_some : {A : Type 0} {x : A} → None ≡ Some x → ⊥
    none_some e = true≢false (sym (ap is_some e))
get_before (y ∷ xs) h x zero e = e
get_before (y ∷ xs) h x (suc c) e = get_before xs h x c e

get_either : {A : Type 0} (xs : List A) (h x : A) (c : ℕ) → slice_get (xs ++ h ∷ []) c ≡ Some x →
    (slice_get xs c ≡ Some x) ⊎ ((c ≡ length xs) × (h ≡ x))
get_either [] h x zero e = inr (refl, ap (λ o. unwrap_or o h) e)
get_either [] h x (suc c) e = inl e
get_either (y ∷ xs) h x zero e = inl e
get_either (y ∷ xs) h x (suc c) e =
    ⊎_elim (λ f. inl f) (λ f. inr (let q = f.0 in omega (arith, q), f.1)) (get_either xs h x c e)

-- ---- homes

abbrev is_column : Home → Test
is_column home.Register = false
is_column (home.Column k) = true
is_column (home.Once s) = false

abbrev is_once : Home → Test
is_once home.Register = false
is_once (home.Column k) = false
is_once (home.Once s) = true

abbrev number_in : Home → ℕ
number_in home.Register = 0
number_in (home.Column k) = k
number_in (home.Once s) = s

-- what holds of homes so far
record Counted (p : Placed) : Type 0 where
  columns : (c k : ℕ) → slice_get p.list c ≡ Some (home.Column k) → k < p.columns
  slots : (c s : ℕ) → slice_get p.list c ≡ Some (home.Once s) → s < p.slots
  own : (c d s : ℕ) → slice_get p.list c ≡ Some (home.Once s) → slice_get p.list d ≡ Some (home.Once s) → c ≡ d
  each : (s : ℕ) → s < p.slots → (c : ℕ) × (slice_get p.list c ≡ Some (home.Once s))

-- one home more that is no slot
with_other : (p : Placed) (h : Home) (columns' : ℕ) → is_once h ≡ false → p.columns ≤ columns' →
    ((k : ℕ) → h ≡ home.Column k → k < columns') → Counted p →
    Counted (record { list = p.list ++ h ∷ []; columns = columns'; slots = p.slots })
with_other p h columns' other le fits q = record {
  columns = λ c k e. ⊎_elim (λ f. let lt = q.columns c k f in
      omega (arith, lt, le)) (λ f. fits k f.1) (get_either p.list h (home.Column k) c e);
  slots = λ c s e. ⊎_elim (λ f. q.slots c s f) (λ f. not_once s f.1) (get_either p.list h (home.Once s) c e);
  own =
      λ c d s e g.
      ⊎_elim (λ f. ⊎_elim (λ k. q.own c d s f k) (λ k. not_once s k.1) (get_either p.list h (home.Once s) d g))
      (λ f. not_once s f.1) (get_either p.list h (home.Once s) c e);
  each = λ s lt. let w = q.each s lt in (w.0, get_before p.list h (home.Once s) w.0 w.1);
}
  where
    not_once : {A : Type 0} (s : ℕ) → h ≡ home.Once s → A
    not_once s e = absurd (true≢false (sym (ap is_once e) ∙ other))

-- one slot more
with_slot : (p : Placed) → Counted p → Counted (record {
  list = p.list ++ home.Once p.slots ∷ [];
  columns = p.columns;
  slots = p.slots + 1;
})
with_slot p q = record {
  columns = λ c k e. ⊎_elim (λ f. q.columns c k f) (λ f. absurd (true≢false (ap is_once f.1)))
      (get_either p.list (home.Once p.slots) (home.Column k) c e);
  slots = λ c s e. ⊎_elim (λ f. let lt = q.slots c s f in omega (arith, lt)) (λ f. let n = ap number_in f.1 in
      omega (arith, n)) (get_either p.list (home.Once p.slots) (home.Once s) c e);
  own =
      λ c d s e g.
      ⊎_elim (λ f. ⊎_elim (λ k. q.own c d s f k) (λ k. let lt = q.slots c s f in let n = ap number_in k.1 in
      absurd (omega (arith, lt, n))) (get_either p.list (home.Once p.slots) (home.Once s) d g))
      (λ f. ⊎_elim (λ k. let lt = q.slots d s k in let n = ap number_in f.1 in
      absurd (omega (arith, lt, n))) (λ k. f.0 ∙
      sym k.0) (get_either p.list (home.Once p.slots) (home.Once s) d g))
      (get_either p.list (home.Once p.slots) (home.Once s) c e);
  each =
      λ s lt.
      ⊎_elim (λ (small : s < p.slots). let w = q.each s small in
      (w.0, get_before p.list (home.Once p.slots) (home.Once s) w.0 w.1))
      (λ (same : s ≡ p.slots). (
        length p.list,
        get_last p.list (home.Once p.slots) ∙
            ap (λ n. Some (home.Once n)) (sym same),
      )) (below_or_at s p.slots lt);
}
  where
    below_or_at : (a b : ℕ) → a < b + 1 → (a < b) ⊎ (a ≡ b)
    below_or_at a b lt = ⊎_elim (λ h. inr h.1) (λ h. inl (let ne = h.1 in omega (arith, ne, lt))) (eqb_tells a b)

module _ (s : Shares) (varying : List (List Test)) where
  kept_counted : (k : Kept) (p : Placed) → columns_for k ≤ p.columns → Counted p → Counted (with_kept k p)
  kept_counted kept.Nothing p le q =
      with_other p home.Register p.columns refl (omega arith) (λ k e. absurd (true≢false (sym (ap is_column e)))) q
  kept_counted kept.One p le q = with_slot p q
  kept_counted (kept.Each column) p le q =
      with_other p (home.Column column) p.columns refl (omega arith) (λ k e. let n = ap number_in e in
      omega (arith, n, le)) q

  made_counted : (keep : Test) (p : Placed) → Counted p → Counted (with_made keep p)
  made_counted true p q = with_other p (home.Column p.columns) (p.columns + 1) refl (omega arith)
      (λ k e. let n = ap number_in e in omega (arith, n)) q
  made_counted false p q =
      with_other p home.Register p.columns refl (omega arith) (λ k e. absurd (true≢false (sym (ap is_column e)))) q

  home_counted : (keep : Test) (kind : CellKind) (p : Placed) → columns_of_kind s varying kind ≤ p.columns →
      Counted p → Counted (with_home s varying keep kind p)
  home_counted keep (OfVariable v path name) p le q =
      kept_counted (kept_of s varying v.calls v.function v.number) p le q
  home_counted keep OfFlag p le q = made_counted keep p q
  home_counted keep OfValue p le q = made_counted keep p q

  kept_more : (k : Kept) (p : Placed) → p.columns ≤ (with_kept k p).columns
  kept_more kept.Nothing p = omega arith
  kept_more kept.One p = omega arith
  kept_more (kept.Each column) p = omega arith

  made_more : (keep : Test) (p : Placed) → p.columns ≤ (with_made keep p).columns
  made_more true p = omega arith
  made_more false p = omega arith

  home_more : (keep : Test) (kind : CellKind) (p : Placed) → p.columns ≤ (with_home s varying keep kind p).columns
  home_more keep (OfVariable v path name) p = kept_more (kept_of s varying v.calls v.function v.number) p
  home_more keep OfFlag p = made_more keep p
  home_more keep OfValue p = made_more keep p

  -- so many columns are enough for each of the cells
  abbrev AllFit : List Cell → ℕ → Type 0
  AllFit [] n = Unit {0}
  AllFit (c ∷ cells) n = (columns_of_kind s varying c.kind ≤ n) × AllFit cells n

  fit_more : (cells : List Cell) (m n : ℕ) → m ≤ n → AllFit cells m → AllFit cells n
  fit_more [] m n le f = tt
  fit_more (c ∷ cells) m n le f = (let g = f.0 in omega (arith, le, g), fit_more cells m n le f.1)

  homes_counted : (across : List Test) (n : ℕ) (cells : List Cell) (p : Placed) → AllFit cells p.columns → Counted p →
      Counted (homes_onto s varying across n cells p)
  homes_counted across n [] p f q = q
  homes_counted across n (c ∷ cells) p f q =
      homes_counted across (n + 1) cells (with_home s varying (entry across n) c.kind p)
      (fit_more cells p.columns (with_home s varying (entry across n) c.kind p).columns
      (home_more (entry across n) c.kind p) f.1)
      (home_counted (entry across n) c.kind p f.0 q)

  onto_more : (cells : List Cell) (n : ℕ) → n ≤ columns_onto s varying cells n
  onto_more [] n = omega arith
  onto_more (c ∷ cells) n = let m = onto_more cells (max n (columns_of_kind s varying c.kind)) in omega (arith, m)

  onto_fits : (cells : List Cell) (n : ℕ) → AllFit cells (columns_onto s varying cells n)
  onto_fits [] n = tt
  onto_fits (c ∷ cells) n = (
    let m = onto_more cells (max n (columns_of_kind s varying c.kind)) in omega (arith, m),
    onto_fits cells (max n (columns_of_kind s varying c.kind)),
  )

  kept_one : (k : Kept) (p : Placed) → length (with_kept k p).list ≡ length p.list + 1
  kept_one kept.Nothing p = length-append p.list (home.Register ∷ [])
  kept_one kept.One p = length-append p.list (home.Once p.slots ∷ [])
  kept_one (kept.Each column) p = length-append p.list (home.Column column ∷ [])

  made_one : (keep : Test) (p : Placed) → length (with_made keep p).list ≡ length p.list + 1
  made_one true p = length-append p.list (home.Column p.columns ∷ [])
  made_one false p = length-append p.list (home.Register ∷ [])

  home_one : (keep : Test) (kind : CellKind) (p : Placed) →
      length (with_home s varying keep kind p).list ≡ length p.list + 1
  home_one keep (OfVariable v path name) p = kept_one (kept_of s varying v.calls v.function v.number) p
  home_one keep OfFlag p = made_one keep p
  home_one keep OfValue p = made_one keep p

  homes_each : (across : List Test) (n : ℕ) (cells : List Cell) (p : Placed) →
      length (homes_onto s varying across n cells p).list ≡ length p.list + length cells
  homes_each across n [] p = omega arith
  homes_each across n (c ∷ cells) p =
      let one = home_one (entry across n) c.kind p in
      let rest = homes_each across (n + 1) cells (with_home s varying (entry across n) c.kind p) in
      omega (arith, one, rest)

-- the bytes of the private arrays
bytes_first : (a : Array) (rest : List Array) (n : ℕ) (b : Test) → n ≡ sum (map array_bytes rest) →
    cond b (array_bytes a) 0 + n ≡ sum (map array_bytes (cond b (a ∷ rest) rest))
bytes_first a rest n true e =
    ap (λ m. array_bytes a + m) e ∙ sym (sum_by-cons (λ x. x) (array_bytes a) (map array_bytes rest))
bytes_first a rest n false e = zero-add n ∙ e

bytes_sum : (arrays : List Array) →
    bytes_among arrays ≡ sum (map array_bytes (filter (λ (a : Array). is_private a.space) arrays))
bytes_sum [] = refl
bytes_sum (a ∷ arrays) = bytes_first a (filter (λ (x : Array). is_private x.space) arrays) (bytes_among arrays)
    (is_private a.space) (bytes_sum arrays)

-- so it is of the plan of a kernel
pub plan_counted : (program : Program) (kernel : Kernel) (varying : List (List Test)) →
    IsCounted kernel (plan_of program kernel varying)
plan_counted program kernel varying =
    let s = shares_of program varying in
    let across = named_from 0 (length kernel.cells) (pieces_of kernel.body) in
    let start : Placed = record { list = []; columns = columns_onto s varying kernel.cells 0; slots = 0 } in
    let none : Counted start = record {
      columns = λ c k e. absurd (no_item c (home.Column k) e);
      slots = λ c n e. absurd (no_item c (home.Once n) e);
      own = λ c d n e f. absurd (no_item c (home.Once n) e);
      each = λ n lt. absurd (omega (arith, lt));
    } in
    let q = homes_counted s varying across 0 kernel.cells start (onto_fits s varying kernel.cells 0) none in
    record {
      one_each = let e = homes_each s varying across 0 kernel.cells start in omega (arith, e);
      columns_below = q.columns;
      slots_below = q.slots;
      own_slot = q.own;
      each_slot = q.each;
      private_bytes = bytes_sum kernel.arrays;
    }
  where
    no_item : {A : Type 0} (c : ℕ) (x : A) → slice_get (let xs : List A = [] in xs) c ≡ Some x → ⊥
    no_item c x e = true≢false (sym (ap is_some e))
