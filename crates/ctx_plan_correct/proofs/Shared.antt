-- What is said of all functions of a valid program: which of their variables are marked, with which numbers, and what
-- each site of a call takes.
use Rattle.std.proofs.Common.{◌≡◌, ℕ, zero, suc, ◌+◌, ◌<◌, ◌≤◌, List, [], ◌∷◌, ◌++◌, Some, length, map, replicate}
use Rattle.std.proofs.Common.{refl, sym, ap, ◌∙◌, subst, arith, ⊎_elim, unwrap_or, append_assoc, length-append}
use Rattle.std.specs.Prelude.{Bool as Test, true}
use Rattle.std.specs.Prelude.{◌&&◌, slice_get, flat_map}
use Rattle.std.proofs.lemmas.Bool.{true≢false, and_parts}
use Rattle.cl_model.specs.Tree.{Function, Program}
use Rattle.cl_model.specs.Calls.{no_function, function_at}
use Rattle.cl_model.specs.Lists.{Each, IsOneOf, AllDiffer}
use Rattle.cl_model.specs.Valid.{sites_of_all, IsValidFunction, IsValid}
use Rattle.ctx_plan.specs.Outline.{function_outline}
use Rattle.ctx_plan.specs.Points.{entry}
use Rattle.ctx_plan.specs.Sharing.{holding_of, own_columns, both, Shares, row, crossing_of, columns_of, with_function}
use Rattle.ctx_plan.specs.Sharing.{shares_onto, shares_of}
use Rattle.ctx_plan.specs.Made.{number_at}
use Rattle.ctx_plan_correct.specs.Placing.{IsPlaced}
use Rattle.ctx_plan_correct.proofs.Crossing.{crossing_length}
use Rattle.ctx_plan_correct.proofs.Placing.{placed, placed_as, taken_kept, taken_stay}
use Rattle.ctx_plan_correct.proofs.Once.{occurs, occurs_append, occurs_one, differ_once, called_some, function_call}
use Rattle.ctx_plan_correct.proofs.Once.{function_once}

-- ---- lists

row_before : {A : Type 0} (xs ys : List (List A)) (k : ℕ) → k < length xs → row (xs ++ ys) k ≡ row xs k
row_before [] ys k lt = absurd (omega arith)
row_before (x ∷ xs) ys zero lt = refl
row_before (x ∷ xs) ys (suc k) lt = row_before xs ys k (omega arith)

row_last : {A : Type 0} (xs : List (List A)) (y : List A) (k : ℕ) → k ≡ length xs → row (xs ++ y ∷ []) k ≡ y
row_last [] y zero e = refl
row_last [] y (suc k) e = absurd (omega (arith, e))
row_last (x ∷ xs) y zero e = absurd (omega (arith, e))
row_last (x ∷ xs) y (suc k) e = row_last xs y k (omega (arith, e))

pub entry_both : (n : ℕ) (a second : List Test) (x : ℕ) →
    entry (both n a second) x ≡ (entry a x && entry second (n + x))
entry_both n [] second x = refl
entry_both n (b ∷ a) second zero = let q : n + 0 ≡ n = omega arith in ap (λ k. b && entry second k) (sym q)
entry_both n (b ∷ a) second (suc x) = let q : n + 1 + x ≡ n + suc x =
    omega arith in entry_both (n + 1) a second x ∙ ap (λ k. entry a x && entry second k) q

entry_within : (l : List Test) (x : ℕ) → entry l x ≡ true → x < length l
entry_within [] x e = absurd (true≢false (sym e))
entry_within (b ∷ l) zero e = omega arith
entry_within (b ∷ l) (suc x) e = let r = entry_within l x e in omega (arith, r)

zero_length : (k : ℕ) → length {A = ℕ} (replicate k 0) ≡ k
zero_length zero = refl
zero_length (suc k) = ap suc (zero_length k)

first_range : (P : ℕ → Type 0) (xs ys : List ℕ) (k : ℕ) → IsOneOf xs k → Each P (xs ++ ys) → P k
first_range P [] ys k h e = absurd h
first_range P (x ∷ xs) ys k h e = ⊎_elim (λ q. subst P q e.0) (λ q. first_range P xs ys k q e.1) h

later_differ : (xs ys : List ℕ) → AllDiffer (xs ++ ys) → AllDiffer ys
later_differ [] ys d = d
later_differ (x ∷ xs) ys d = later_differ xs ys d.1

each_within : (P Q : ℕ → Type 0) (xs : List ℕ) → ((k : ℕ) → P k → Q k) → Each P xs → Each Q xs
each_within P Q [] g h = tt
each_within P Q (x ∷ xs) g h = (g x h.0, each_within P Q xs g h.1)

later_range : (P Q : ℕ → Type 0) (xs ys : List ℕ) → ((k : ℕ) → P k → Q k) → Each P (xs ++ ys) → Each Q ys
later_range P Q [] ys f e = each_within P Q ys f e
later_range P Q (x ∷ xs) ys f e = later_range P Q xs ys f e.1

-- ---- one function after the other

module _ (inside : List Test) (varying : List (List Test)) where
  -- the marked variables of a function: those that cross and vary
  abbrev pub marks : List Test → Function → ℕ → Test
  marks vary f x = entry (both 0 (crossing_of inside f) vary) x

  numbers_grow : (n : ℕ) (fs : List Function) (s : Shares) (k : ℕ) → k < length s.numbers →
      row (shares_onto inside varying n fs s).numbers k ≡ row s.numbers k
  numbers_grow n [] s k lt = refl
  numbers_grow n (f ∷ fs) s k lt =
      let s1 = with_function inside (row varying n) f s in
      numbers_grow (n + 1) fs s1 k (let q = length-append s.numbers
      ((columns_of inside (row varying n) f s.taken).numbers ∷ []) in omega (arith, lt, q)) ∙
      row_before s.numbers ((columns_of inside (row varying n) f s.taken).numbers ∷ []) k lt

  crossing_all : (n : ℕ) (fs : List Function) (s : Shares) →
      (shares_onto inside varying n fs s).crossing ≡ s.crossing ++ map (crossing_of inside) fs
  crossing_all n [] s = sym (nil s.crossing)
    where
      nil : (xs : List (List Test)) → xs ++ [] ≡ xs
      nil [] = refl
      nil (x ∷ xs) = ap (λ r. x ∷ r) (nil xs)
  crossing_all n (f ∷ fs) s = crossing_all (n + 1) fs (with_function inside (row varying n) f s) ∙
      append_assoc s.crossing (crossing_of inside f ∷ []) (map (crossing_of inside) fs)

  abbrev own_site : Function → List ℕ
  own_site f = sites_of_all f.body

  -- no function has a call with this site
  taken_all : (n : ℕ) (fs : List Function) (s : Shares) (k : ℕ) → occurs k (flat_map own_site fs) ≡ 0 →
      number_at (shares_onto inside varying n fs s).taken k ≡ number_at s.taken k
  taken_all n [] s k e = refl
  taken_all n (f ∷ fs) s k e =
      let a = occurs_append k (own_site f) (flat_map own_site fs) in
      let s1 = with_function inside (row varying n) f s in
      taken_all (n + 1) fs s1 k (omega (arith, a, e))
      ∙ taken_kept (marks (row varying n) f)
      (0 + own_columns (marks (row varying n) f) (function_outline (entry inside) f)) 0
      (function_outline (entry inside) f) (record { numbers = replicate (length f.variables) 0; taken = s.taken }) k
      (λ c. let q = called_some (function_outline (entry inside) f) k c in let r = function_call (entry inside) k f in
      omega (arith, a, e, q, r))

  marks_within : (vary : List Test) (f : Function) (x : ℕ) → marks vary f x ≡ true → x < length f.variables
  marks_within vary f x m =
      let l = entry_within (crossing_of inside f) x (and_parts (entry (crossing_of inside f) x) (entry vary (0 + x))
      (sym (entry_both 0 (crossing_of inside f) vary x) ∙ m)).0 in
      let q = crossing_length inside f in
      omega (arith, l, q)

  placed_one : (program : Program) (vary : List Test) (f : Function) (taken : List ℕ) → IsValidFunction program f →
      ((k : ℕ) → occurs k (own_site f) ≤ 1) → ((k : ℕ) → IsOneOf (own_site f) k → k < length taken)
      → IsPlaced (marks vary f) (number_at (columns_of inside vary f taken).numbers)
      (number_at (columns_of inside vary f taken).taken)
      (0 + own_columns (marks vary f) (function_outline (entry inside) f)) 0 (function_outline (entry inside) f)
  placed_one program vary f taken valid once range =
      placed (marks vary f) (0 + own_columns (marks vary f) (function_outline (entry inside) f)) 0
      (function_outline (entry inside) f) (record { numbers = replicate (length f.variables) 0; taken = taken })
      (λ x m. let l = marks_within vary f x m in let q = zero_length (length f.variables) in omega (arith, l, q))
      (λ k c. range k (occurs_one k (own_site f) (let q = called_some (function_outline (entry inside) f) k c in
      let r = function_call (entry inside) k f in omega (arith, q, r))))
      (function_once program (entry inside) (marks vary f) f valid (marks_within vary f) once)

  -- each function is placed in what is said of all
  placed_all : (program : Program) (n : ℕ) (fs : List Function) (s : Shares) → n ≡ length s.numbers →
      ((f : Function) (i : ℕ) → slice_get fs i ≡ Some f → IsValidFunction program f) →
      AllDiffer (flat_map own_site fs) → Each (λ k. k < length s.taken) (flat_map own_site fs)
      → (i : ℕ) (f : Function) → slice_get fs i ≡ Some f
      → IsPlaced (marks (row varying (n + i)) f) (number_at (row (shares_onto inside varying n fs s).numbers (n + i)))
      (number_at (shares_onto inside varying n fs s).taken) (0 + own_columns (marks (row varying (n + i)) f)
      (function_outline (entry inside) f)) 0 (function_outline (entry inside) f)
  placed_all program n [] s is valid differ range i f e = absurd (cc)
  placed_all program n (g ∷ fs) s is valid differ range zero f e =
      let same : g ≡ f = cc in
      let at : n + 0 ≡ n = omega arith in
      let c = columns_of inside (row varying n) g s.taken in
      let s1 = with_function inside (row varying n) g s in
      let end = shares_onto inside varying (n + 1) fs s1 in
      let many : length s1.numbers ≡ length s.numbers + 1 = length-append s.numbers (c.numbers ∷ []) in
      let one = placed_one program (row varying n) g s.taken (valid g zero refl)
      (λ k. let d = differ_once k (flat_map own_site (g ∷ fs)) differ in
      let a = occurs_append k (own_site g) (flat_map own_site fs) in
      omega (arith, d, a)) (λ k h. first_range (λ j. j < length s.taken) (own_site g) (flat_map own_site fs) k h
      range) in
      let moved = placed_as (marks (row varying n) g) (number_at c.numbers) (number_at c.taken)
      (number_at (row end.numbers n)) (number_at end.taken)
      (0 + own_columns (marks (row varying n) g) (function_outline (entry inside) g)) 0
      (function_outline (entry inside) g)
      (λ x m h. ap (λ l. number_at l x) (numbers_grow (n + 1) fs s1 n (let k = many in omega (arith, k, is)) ∙
      row_last s.numbers c.numbers n is))
      (λ k h. taken_all (n + 1) fs s1 k
      (let d = differ_once k (flat_map own_site (g ∷ fs)) differ in
      let a = occurs_append k (own_site g) (flat_map own_site fs) in
      let q = called_some (function_outline (entry inside) g) k h in
      let r = function_call (entry inside) k g in
      omega (arith, d, a, q, r)))
      one in
      subst (λ (h : Function). IsPlaced (marks (row varying (n + 0)) h) (number_at (row end.numbers (n + 0)))
      (number_at end.taken) (0 + own_columns (marks (row varying (n + 0)) h)
      (function_outline (entry inside) h)) 0 (function_outline (entry inside) h)) same
      (subst (λ j. IsPlaced (marks (row varying j) g) (number_at (row end.numbers j)) (number_at end.taken)
      (0 + own_columns (marks (row varying j) g) (function_outline (entry inside) g)) 0
      (function_outline (entry inside) g)) (sym at) moved)
  placed_all program n (g ∷ fs) s is valid differ range (suc i) f e =
      let s1 = with_function inside (row varying n) g s in
      let end = shares_onto inside varying (n + 1) fs s1 in
      let at : n + 1 + i ≡ n + suc i = omega arith in
      let stay = taken_stay (marks (row varying n) g)
      (0 + own_columns (marks (row varying n) g) (function_outline (entry inside) g)) 0
      (function_outline (entry inside) g) (record {
        numbers = replicate (length g.variables) 0;
        taken = s.taken;
      }) in
      let r = placed_all program (n + 1) fs s1
      (let q = length-append s.numbers ((columns_of inside (row varying n) g s.taken).numbers ∷ []) in
      omega (arith, q, is)) (λ h j k. valid h (suc j) k) (later_differ (own_site g) (flat_map own_site fs) differ)
      (later_range (λ k. k < length s.taken) (λ k. k < length s1.taken) (own_site g) (flat_map own_site fs)
      (λ k lt. let q = stay in omega (arith, lt, q)) range) i f e in
      subst (λ j. IsPlaced (marks (row varying j) f) (number_at (row end.numbers j)) (number_at end.taken)
      (0 + own_columns (marks (row varying j) f) (function_outline (entry inside) f)) 0
      (function_outline (entry inside) f)) at r

-- ---- of a program

row_of_map : (inside : List Test) (fs : List Function) (f : ℕ) →
    row (map (crossing_of inside) fs) f ≡ crossing_of inside (unwrap_or (slice_get fs f) no_function)
row_of_map inside [] f = refl
row_of_map inside (g ∷ fs) zero = refl
row_of_map inside (g ∷ fs) (suc f) = row_of_map inside fs f

-- which variables of a function are said to cross
pub crossing_row : (program : Program) (varying : List (List Test)) (f : ℕ) →
    row (shares_of program varying).crossing f ≡ crossing_of (holding_of program.functions) (function_at program f)
crossing_row program varying f =
    ap (λ l. row l f) (crossing_all (holding_of program.functions) varying 0 program.functions
    (record { crossing = []; numbers = []; taken = replicate (length program.sites) 0 })) ∙
    row_of_map (holding_of program.functions) program.functions f

-- the columns of a function of a valid program
pub function_placed : (program : Program) (varying : List (List Test)) → IsValid program → (i : ℕ) (f : Function) →
    slice_get program.functions i ≡ Some f
    → IsPlaced (marks (holding_of program.functions) varying (row varying i) f)
    (number_at (row (shares_of program varying).numbers i)) (number_at (shares_of program varying).taken)
    (0 + own_columns (marks (holding_of program.functions) varying (row varying i) f)
    (function_outline (entry (holding_of program.functions)) f)) 0
    (function_outline (entry (holding_of program.functions)) f)
function_placed program varying valid i f e =
    let at : 0 + i ≡ i = omega arith in
    let inside = holding_of program.functions in
    let many = zero_length (length program.sites) in
    subst (λ j. IsPlaced (marks inside varying (row varying j) f)
    (number_at (row (shares_of program varying).numbers j)) (number_at (shares_of program varying).taken)
    (0 + own_columns (marks inside varying (row varying j) f) (function_outline (entry inside) f)) 0
    (function_outline (entry inside) f)) at
    (placed_all inside varying program 0 program.functions (record {
      crossing = [];
      numbers = [];
      taken = replicate (length program.sites) 0;
    }) refl (λ g j k. valid.functions j g k) valid.sites
    (each_within (λ k. k < length program.sites) (λ k. k < length {A = ℕ} (replicate (length program.sites) 0))
    (flat_map (λ (g : Function). sites_of_all g.body) program.functions) (λ k lt. let q = many in
    omega (arith, lt, q)) valid.places) i f e)
